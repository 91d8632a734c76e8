-- Weights judged ("Shape of a card", "Both sides of the edge"): each by running its judgement. Assumes nothing.
use mathlib.Core.Path.{◌≡◌, refl}
use mathlib.Core.Option.{none, some}
use Rattle.card.specs.Weight.{ratio, decimal, units_of}

-- 1/7
pub seventh : units_of (ratio 1 7) ≡ some 39600
unfolding units_of
seventh = refl

-- 1/11
pub eleventh : units_of (ratio 1 11) ≡ some 25200
unfolding units_of
eleventh = refl

-- 1/13
pub thirteenth : units_of (ratio 1 13) ≡ none
unfolding units_of
thirteenth = refl

-- 0.005
pub three_digits : units_of (decimal 0 3 5) ≡ none
unfolding units_of
three_digits = refl

-- 0.05
pub twentieth : units_of (decimal 0 2 5) ≡ some 13860
unfolding units_of
twentieth = refl

-- 0.37
pub hundredths : units_of (decimal 0 2 37) ≡ some 102564
unfolding units_of
hundredths = refl
