-- The marks of a card, word by word ("Shape of a card"): which seat and module words stand where, without a word of how they are judged.
-- What stands in a guard is the grammar's (`grammar/specs/Grammar.antt`) and is left open here. Assumes nothing.
use Rattle.std.specs.Prelude.{ℕ, zero, suc, List, [], ◌∷◌, ◌++◌}
use Prim.Native.String.{String}
use Rattle.std.proofs.Math.Option.{Option, none, some}
use Rattle.card.specs.Text.{bytes}
use Rattle.card.specs.Card.{Mode, Guard, Branch, Statement, Shared, Card}
use Rattle.card.specs.Weight.{Weight, whole, decimal as point, ratio, Worth}
use Rattle.marks_on_a_card.specs.Marks.{Mark, text, seat, process, number, decimal, Placed, placed}
use Rattle.grammar.specs.Grammar.{mode_word}

-- a sign or a keyword
abbrev pub sign : String → Mark
sign t = text (bytes t)

-- a mark without its place
abbrev pub mark_of : Placed → Mark
mark_of (placed m p) = m

-- ---- weight:(s1'=t), and & (g'=v) where it sets the shared number

abbrev pub weight_marks : Weight → List Mark
weight_marks (whole v) = number v ∷ []
weight_marks (point v n f) = decimal v n f ∷ []
weight_marks (ratio a b) = number a ∷ sign "/" ∷ number b ∷ []

abbrev pub set_marks : Option ℕ → List Mark
set_marks none = []
set_marks (some v) = sign "&" ∷ sign "(" ∷ sign "g" ∷ sign "'" ∷ sign "=" ∷ number v ∷ sign ")" ∷ []

pub data BranchMarks : Branch → List Mark → Type 0 where
  branch : {units t : ℕ} {sets : Option ℕ} (w : Weight) → Worth w units
      → BranchMarks (record { units = units; end = t; sets = sets })
      (weight_marks w ++ (sign ":" ∷ sign "(" ∷ seat 1 ∷ sign "'" ∷ sign "=" ∷ number t ∷ sign ")" ∷ set_marks sets))

-- + and a branch
pub data PlusMarks : Branch → List Mark → Type 0 where
  plus : {b : Branch} {ms : List Mark} → BranchMarks b ms → PlusMarks b (sign "+" ∷ ms)

-- any number of things, one behind the other
pub data Repeated {A : Type 0} (One : A → List Mark → Type 0) : List A → List Mark → Type 0 where
  done : Repeated One [] []
  again : {x : A} {xs : List A} {ms ns : List Mark} → One x ms → Repeated One xs ns → Repeated One (x ∷ xs) (ms ++ ns)

-- ---- [] s1=j & guard -> branches;

pub data GuardMarks : Option Guard → List Mark → Type 0 where
  nothing : GuardMarks none []
  guarded : {g : Guard} {ms : List Mark} → GuardMarks (some g) (sign "&" ∷ ms)

pub data StatementMarks : Statement → List Mark → Type 0 where
  statement : {j : ℕ} {g : Option Guard} {b : Branch} {bs : List Branch} {gs ms ns : List Mark}
      → GuardMarks g gs → BranchMarks b ms → Repeated PlusMarks bs ns
      → StatementMarks (record { own = j; guard = g; branches = b ∷ bs })
      (sign "[" ∷ sign "]" ∷ seat 1 ∷ sign "=" ∷ number j ∷ (gs ++ (sign "->" ∷ (ms ++ (ns ++ (sign ";" ∷ []))))))

-- ---- module processi = process1 [s1=si, si=s1] endmodule

abbrev pub copy_marks : ℕ → List Mark
copy_marks i =
    sign "module" ∷ process i ∷ sign "=" ∷ process 1
    ∷ sign "[" ∷ seat 1 ∷ sign "=" ∷ seat i ∷ sign "," ∷ seat i ∷ sign "=" ∷ seat 1 ∷ sign "]"
    ∷ sign "endmodule" ∷ []

-- so many of them, from i on
abbrev pub copies : ℕ → ℕ → List Mark
copies i zero = []
copies i (suc more) = copy_marks i ++ copies (suc i) more

-- ---- global g : [0..m] init v;

abbrev pub shared_marks : Option Shared → List Mark
shared_marks none = []
shared_marks (some s) =
    sign "global" ∷ sign "g" ∷ sign ":" ∷ sign "[" ∷ number 0 ∷ sign ".." ∷ number s.most ∷ sign "]" ∷ sign "init" ∷ number s.start ∷ sign ";" ∷ []

-- ---- the card

pub data CardMarks : Card → List Mark → Type 0 where
  card : {mode : Mode} {shared : Option Shared} {more k l : ℕ} {x : Statement} {xs : List Statement} {ms ns : List Mark}
      → StatementMarks x ms → Repeated StatementMarks xs ns
      → CardMarks (record { mode = mode; shared = shared; n = suc more; k = k; l = l; statements = x ∷ xs })
      (sign (mode_word mode) ∷ (shared_marks shared ++ (sign "module" ∷ process 1
      ∷ seat 1 ∷ sign ":" ∷ sign "[" ∷ number 0 ∷ sign ".." ∷ number k ∷ sign "]" ∷ sign "init" ∷ number l ∷ sign ";"
      ∷ (ms ++ (ns ++ (sign "endmodule" ∷ copies 2 more))))))
