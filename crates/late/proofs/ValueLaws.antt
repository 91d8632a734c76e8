-- The shared number in one number says what its range says.
use mathlib.Core.Path.{◌≡◌, refl}
use mathlib.Core.Option.{Option, none, some}
use Rattle.card.specs.Valid.{values_of}
use Rattle.card.specs.Laid.{start_of}
use Rattle.reading.specs.Guard.{is_some}
use Rattle.reading.specs.Shape.{Range}
use Rattle.reading.specs.Checks.{most_in, shared_in}
use Rattle.late.specs.Values.{values_in, shares, most_of, initial_in}

pub shares_values : (g : Option Range) → shares (values_in g) ≡ is_some g
shares_values none = refl
shares_values (some r) = refl

pub most_values : (g : Option Range) → most_of (values_in g) ≡ most_in g
most_values none = refl
most_values (some r) = refl

pub values_shared : (g : Option Range) → values_of (shared_in g) ≡ values_in g
values_shared none = refl
values_shared (some r) = refl

pub start_shared : (g : Option Range) → start_of (shared_in g) ≡ initial_in g
start_shared none = refl
start_shared (some r) = refl
