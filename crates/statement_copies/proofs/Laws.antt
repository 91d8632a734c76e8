-- A statement in the form in which the code puts it: by its row, and copies with what they have in common kept beside the room. Assumes
-- nothing.
use Prim.Native.Nat.{ℕ, zero, suc, ◌+◌, ◌-◌, ◌*◌, ◌≤◌}
use mathlib.Core.Path.{◌≡◌, refl, ap, ◌∙◌}
use mathlib.Core.List.{List, [], ◌++◌, map}
use native.Mathlib.Omega.{arith}
use lib.ListN.{length, take, drop}
use Rattle.card.specs.Limits.{most_nodes, most_branches}
use Rattle.card.specs.Card.{Statement}
use Rattle.card.specs.Laid.{branch_of, guard_of, statement_of}
use Rattle.card.specs.declared.Statement.{Statement as StatementRow}
use Rattle.room.specs.Room.{cap}
use Rattle.phrases.specs.Phrases.{Text, ◌▸◌, counted}
use Rattle.phrases.specs.Puts.{Puts}
use Rattle.texts.specs.Shared.{formula_or, summed}
use Rattle.texts.specs.Lengths.{tail_places}
use Rattle.leaf_text.specs.Style.{Look, brackets_of, leaf_text}
use Rattle.branch_text.specs.Branches.{branch_text}
use Rattle.statement_copies.specs.Copies.{first_text, rest_text, copy_text, kept_copy}
use Rattle.room.proofs.Drafts.{drafted_long, drafted_fits, drafted_text, drafted_count}

-- ---- behind the first test: a statement's branches are a part of the card's

pub rest_parts : (s : Look) (nodes bs : List ℕ) (x : StatementRow) (i : ℕ) {from to : ℕ} → from ≡ i * most_branches → to ≡ from + x.branches → (r : List ℕ)
    → formula_or (brackets_of s) (leaf_text s) (guard_of nodes (i * most_nodes) x.nodes) (" -> "
    ▸ summed (branch_text s) (map branch_of (take (to - from) (drop from bs))) (";\n" ▸ r))
    ≡ rest_text s (statement_of nodes bs x i) r
unfolding statement_of
rest_parts s nodes bs x i {from} {to} e h r =
    let k : to - from ≡ x.branches = omega arith in
    rw (k, e)

-- ---- copies

pub counted_once : (f : ℕ → Text) (c : ℕ) → c ≡ 1 → (r : List ℕ) → f 0 r ≡ counted f 0 c r
unfolding counted
counted_once f c e r = rw e

counted_same : (f g : ℕ → Text) → ((m : ℕ) (r : List ℕ) → f m r ≡ g m r) → (m c : ℕ) (r : List ℕ) → counted f m c r ≡ counted g m c r
unfolding counted
counted_same f g h m zero r = refl
counted_same f g h m (suc c) r = h m (counted f (suc m) c r) ∙ ap (g m) (counted_same f g h (suc m) c r)

-- a text that has been put into the array beside the room
module _ {was is : List ℕ} {f : Text} {end : ℕ} (p : Puts was is 0 f end) (h : length (f []) ≤ tail_places) (l : length was ≡ tail_places) where
  below_cap : length (f []) ≤ cap
  below_cap = omega arith

  has_places : end ≤ length was
  has_places = omega (arith, drafted_long below_cap p.put)

  pub kept_fits : end ≤ length is
  kept_fits = drafted_fits below_cap p.put has_places

  pub kept_count : end ≡ length (take end is)
  kept_count = drafted_count below_cap p.put has_places

  kept_text : (r : List ℕ) → take end is ++ r ≡ f r
  kept_text r = rw (drafted_text below_cap p.put has_places, p.before r)

-- copies with the kept text are the statement's
pub copies_kept : (s : Look) (x : Statement) {was is : List ℕ} {end : ℕ} → Puts was is 0 (rest_text s x) end → length (rest_text s x []) ≤ tail_places → length was ≡ tail_places
    → (c : ℕ) (r : List ℕ) → counted (kept_copy s (take end is)) 0 c r ≡ counted (copy_text s x) 0 c r
copies_kept s x {is = is} {end = end} p h l c r =
    counted_same (kept_copy s (take end is)) (copy_text s x) (λ m t. ap (first_text s m) (kept_text p h l t)) 0 c r
