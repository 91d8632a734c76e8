-- What a spectator sees of the seats (document 02, 2026-05): how many are in each public class, by a list that gives each state its class. The
-- shared number is not shown (2026-10). Assumes nothing.
use Rattle.std.specs.Prelude.{ℕ, suc, ◌≤◌, ◌≡◌, List, [], eqb, length, get_or}
use Rattle.card.specs.Limits.{top_class, public_classes}
use Rattle.card.specs.Valid.{Every}
use Rattle.meaning.specs.Sums.{gate, sum, upto}
use Rattle.meaning.specs.Seats.{Seating}
use Rattle.meaning.specs.Reduced.{no_of}
use Rattle.panel_wording.specs.PanelText.{line}

-- the class that a list gives state d
abbrev pub class_of : List ℕ → ℕ → ℕ
class_of list d = get_or list d 0

-- a class for each state 0 to k, each 0 to 7
pub record ValidClasses (k : ℕ) (list : List ℕ) : Type 0 where
  pub states : length list ≡ suc k
  pub classes : Every (λ g. g ≤ top_class) list

-- ---- by seats

-- how many seats are in a state of class g
abbrev pub in_class : List ℕ → List ℕ → ℕ → ℕ
in_class list x g = sum (λ a. gate (eqb (class_of list a) g) 1) x

-- the class counts: of class 0, 1 and so on
unfoldable pub class_counts : List ℕ → List ℕ → List ℕ
class_counts list x = upto public_classes (in_class list x)

-- ---- from the counts of the states

-- no_d summed over the states d of class g
abbrev pub in_class_at : List ℕ → List ℕ → ℕ → ℕ
in_class_at list v g = sum (λ d. gate (eqb (class_of list d) g) (no_of v d)) (upto (length list) (λ d. d))

unfoldable pub class_counts_at : List ℕ → List ℕ → List ℕ
class_counts_at list v = upto public_classes (in_class_at list v)

-- ---- the text

-- one line
unfoldable pub classes_text : List ℕ → List ℕ
classes_text v = line "classes" v []

unfoldable pub watch_of : List ℕ → Seating → List ℕ
unfolding class_counts classes_text
watch_of list x = classes_text (class_counts list x.each)
