-- `mending_walk::Walk::behind` meets its contract: an entry that is kept moves the walk, one that is dropped does not. Assumes nothing.
use Prim.Native.Nat.{ℕ}
use mathlib.Core.Path.{◌≡◌, refl, ap}
use Rattle.deck_entries.specs.Rows.{row_by}
use Rattle.mending.specs.FateBy.{fate_by}
use Rattle.mending_walk.specs.declared.Walk.{Walk}
use Rattle.mending_walk.specs.Walking.{walked_by}
use Rattle.mending_walk.proofs.Walk.behind.Goals.{In-Some}
use Rattle.mending_walk.proofs.Walk.behind.Goals as goal

-- an equation between walks that is needed, in one part of them
abbrev InPart : {C : Type 0} {v w : C → Walk} → (Walk → ℕ) → (((c : C) → v c ≡ w c) → Type 0) → Type 0
InPart {C} {v} {w} part whole = (c : C) → part (v c) ≡ part (w c)

-- an entry that is dropped
same : (c : In-Some) → c.args.self ≡ walked_by (fate_by c.args.fate) (row_by c.args.entry) c.args.self
same c = rw c.in-Some.is refl

least-stays : InPart (λ (w : Walk). w.least) (λ (whole : goal.returns-in-Some). Unit)
least-stays c = ap (λ (w : Walk). w.least) (same c)

last-stays : InPart (λ (w : Walk). w.last) (λ (whole : goal.returns-in-Some). Unit)
last-stays c = ap (λ (w : Walk). w.last) (same c)

pub returns-in-Some : goal.returns-in-Some
returns-in-Some c = λ i. record { least = least-stays c i; last = last-stays c i; cards = (same c i).cards; bytes = (same c i).bytes }
