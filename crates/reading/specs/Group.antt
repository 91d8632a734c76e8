-- A group of literals, and a test of the shared number, as they stand on a card ("Shape of a card"; document 02, 2026-10). Assumes nothing.
use Rattle.std.specs.Prelude.{ℕ, zero, suc, List, [], ◌∷◌, length}
use Prim.Native.String.{String}
use Rattle.std.proofs.Math.Option.{Option, none, some}
use Rattle.card.specs.Text.{when◌then◌else◌}
use Rattle.card.specs.Refusals.{past_limit}
use Rattle.card.specs.Card.{Sign, all, any, Relation, is as eq, isnt as ne}
use Rattle.marks_on_a_card.specs.Marks.{Mark}
use Rattle.reading.specs.Reader.{Place, Reader, ◌>>=◌, ◌>>◌, return, refuse, the, is, if_next, sign, seat_of, number_of, here, Numbered, numbered}

abbrev pub joint : Sign → String
joint all = "&"
joint any = "|"

abbrev pub relation : Relation → String
relation eq = "="
relation ne = "!="

-- si=d or si!=d; the place is d's
pub record Literal : Type 0 where
  pub seat : ℕ
  pub relation : Relation
  pub d : ℕ
  pub place : Place

abbrev pub literal_of : ℕ → Relation → ℕ → Place → Literal
literal_of i q d p = record { seat = i; relation = q; d = d; place = p }

-- the place is the bracket's
pub record Literals : Type 0 where
  pub place : Place
  pub sign : Sign
  pub literals : List Literal

abbrev pub literals_of : Place → Sign → List Literal → Literals
literals_of p s ls = record { place = p; sign = s; literals = ls }

abbrev pub relation_of : Mark → Option Relation
relation_of m = when is "=" m then some eq else (when is "!=" m then some ne else none)

abbrev pub literal : Reader Literal
literal = do
  i ← the seat_of
  q ← the relation_of
  p ← here
  d ← the number_of
  return (literal_of i q d p)

-- behind one of them: others, each after the sign, then the closing bracket; `most` is the number of marks left, and is never met
abbrev pub joined : {A : Type 0} → Reader A → String → ℕ → Reader (List A)
joined one t zero =
    if_next t (refuse past_limit)
    (do
      sign ")"
      return [])
joined one t (suc most) =
    if_next t
    (do
      sign t
      x ← one
      xs ← joined one t most
      return (x ∷ xs))
    (do
      sign ")"
      return [])

abbrev pub others : String → ℕ → Reader (List Literal)
others t most = joined literal t most

-- behind the bracket, which is at p; one literal alone counts as joined by `&`
abbrev pub group : Place → Reader Literals
group p = do
  l ← literal
  rest ← here
  s ← if_next (joint any) (return any) (return all)
  ls ← others (joint s) (length rest)
  return (literals_of p s (l ∷ ls))

-- ---- (g=v) or (g!=v), behind the bracket

pub record SharedTest : Type 0 where
  pub relation : Relation
  pub value : Numbered

abbrev pub shared_test : Reader SharedTest
shared_test = do
  sign "g"
  q ← the relation_of
  v ← numbered number_of
  sign ")"
  return (record { relation = q; value = v })

-- ---- what a guard tests

pub data Tested : Type 0 where
  of_seats : Literals → Tested
  of_shared : SharedTest → Tested

-- behind the bracket, which is at p
abbrev pub tested : Place → Reader Tested
tested p = if_next "g" (shared_test >>= λ x. return (of_shared x)) (group p >>= λ x. return (of_seats x))
