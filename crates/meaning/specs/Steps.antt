-- Steps between states of any kind: between seatings for a card, between counts for its reduced program. Assumes nothing.
use Rattle.std.specs.Prelude.{ℕ, Bool, List, map}
use Rattle.meaning.specs.Sums.{gate, sum}

-- a step, its weight in units, to the next state
pub record Step (S : Type 0) : Type 0 where
  pub units : ℕ
  pub next : S

-- all the steps by which one statement can be taken once; their units add up to the unit on a valid card
abbrev pub Turn : Type 0 → Type 0
Turn S = List (Step S)

-- the weight of the steps whose next state passes a test
unfoldable pub weight : {S : Type 0} → (S → Bool) → List (Step S) → ℕ
weight p l = sum (λ s. gate (p s.next) s.units) l

-- steps, their states seen through a map
abbrev pub seen : {S T : Type 0} → (S → T) → Turn S → Turn T
seen {S} h t = map (λ (s : Step S). record { units = s.units; next = h s.next }) t
