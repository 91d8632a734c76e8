-- The shape of a guard ("Shape of a card"), over any reader of a group. Assumes nothing.
use Rattle.std.specs.Prelude.{ℕ, zero, suc, Bool, true, false, ◌&&◌, ◌||◌, [], ◌∷◌}
use Prim.Native.String.{String}
use Rattle.std.proofs.Math.Option.{Option, none, some}
use Rattle.card.specs.Limits.{most_nodes}
use Rattle.card.specs.Refusals.{past_limit}
use Rattle.card.specs.Text.{when◌then◌else◌}
use Rattle.card.specs.Card.{Formula, atom, neg, and, or}
use Rattle.marks_on_a_card.specs.Marks.{placed}
use Rattle.reading.specs.Reader.{Place, Reader, ◌>>=◌, ◌>>◌, return, refuse, refuse_at, next_is, if_next, sign, seat_of, here, node_at, node}

abbrev pub is_some : {A : Type 0} → Option A → Bool
is_some none = false
is_some (some a) = true

abbrev pub seat_next : Place → Bool
seat_next [] = false
seat_next (placed m p ∷ ms) = is_some (seat_of m)

-- behind a bracket: does it start a test? A seat word starts a group; on a card that shares a number, `g` starts a test of it (document 02,
-- 2026-10)
abbrev pub test_next : Bool → Place → Bool
test_next shared ms = seat_next ms || (shared && next_is "g" ms)

-- the one reader if what is looked for follows, else the other
abbrev pub if_ahead : {A : Type 0} → (Place → Bool) → Reader A → Reader A → Reader A
if_ahead starts p q = λ s. (when starts s.marks then p else q) s

abbrev pub if_seat : {A : Type 0} → Reader A → Reader A → Reader A
if_seat p q = if_ahead seat_next p q

abbrev pub Read : Type 0 → Type 0
Read A = Reader (Formula A)

module _ {A : Type 0} where
  -- what was read so far, then as often as the sign follows the sign and an operand: joined to the left
  abbrev pub chain : String → (Formula A → Formula A → Formula A) → Read A → ℕ → Formula A → Read A
  chain t join operand zero g = if_next t (refuse past_limit) (return g)
  chain t join operand (suc most) g =
      if_next t
      (do
        node
        sign t
        h ← operand
        chain t join operand most (join g h))
      (return g)

  -- each sign is a node, so there are at most as many
  abbrev pub conjunction : Read A → Read A
  conjunction unary = do
    g ← unary
    chain "&" and unary most_nodes g

  -- `&` binds before `|`
  abbrev pub expression : Read A → Read A
  expression unary = do
    g ← conjunction unary
    chain "|" or (conjunction unary) most_nodes g

  -- the group's reader gets the place of the bracket, and begins behind it
  abbrev pub grouped : (Place → Reader A) → Place → Read A
  grouped group p = do
    node_at p
    a ← group p
    return (atom a)

  -- with so many open brackets and `!` left; `starts` tells from the marks behind a bracket whether it starts a group
  abbrev pub unary_by : (Place → Bool) → (Place → Reader A) → ℕ → Read A
  unary_by starts group zero =
      if_next "!" (refuse past_limit)
      (do
        p ← here
        sign "("
        if_ahead starts (grouped group p) (refuse_at past_limit p))
  unary_by starts group (suc depth) =
      if_next "!"
      (do
        node
        sign "!"
        g ← unary_by starts group depth
        return (neg g))
      (do
        p ← here
        sign "("
        if_ahead starts (grouped group p)
            (do
              g ← expression (unary_by starts group depth)
              sign ")"
              return g))

  -- on a card
  abbrev pub unary : Bool → (Place → Reader A) → ℕ → Read A
  unary shared test depth = unary_by (test_next shared) test depth
