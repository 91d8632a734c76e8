-- The written card ("Texts, byte for byte", the paragraph on the written card; document 02, 2026-10). Assumes nothing.
use Rattle.std.specs.Prelude.{ℕ, zero, suc, ◌-◌, List, [], ◌∷◌}
use Prim.Native.String.{String}
use Rattle.card.specs.Card.{Sign, all, any, Relation, is, isnt, Leaf, group, one, shared_is, Guard, Branch, Statement, Card}
use Rattle.card.specs.Valid.{first_seat, Level}
use Rattle.phrases.specs.Phrases.{Text, ◌▸◌, num, mode_word, weight_text}
use Rattle.texts.specs.Shared.{needed, formula_text, tail_text, declaration, shared_text, set_last}

-- ---- guards

abbrev pub sign_text : Sign → String
sign_text all = " & "
sign_text any = " | "

abbrev pub relation_text : Relation → String
relation_text is = "="
relation_text isnt = "!="

abbrev pub literal : Relation → ℕ → ℕ → Text
literal q d i r = "s" ▸ num i (relation_text q ▸ num d r)

-- the literals of c seats behind seat i, each after the sign
abbrev pub literals : Sign → Relation → ℕ → ℕ → ℕ → Text
literals s q d i zero r = r
literals s q d i (suc c) r = sign_text s ▸ literal q d (suc i) (literals s q d (suc i) c r)

-- a group's literals in rising seat order, up to seat n
abbrev pub group_text : ℕ → Leaf → Text
group_text n (group kind s q d) r = "(" ▸ literal q d (first_seat kind) (literals s q d (first_seat kind) (n - first_seat kind) (")" ▸ r))
group_text n (one d) r = r  -- no card has one
group_text n (shared_is q v) r = shared_text q v r

abbrev pub guard_text : ℕ → Level → Guard → Text
guard_text n = formula_text needed (group_text n)

-- ---- statements

abbrev pub branch_text : Branch → Text
branch_text b r = weight_text b.units (":(s1'=" ▸ num b.end (")" ▸ set_last b.sets r))

unfoldable pub statement_text : ℕ → Statement → Text
unfolding formula_text weight_text
statement_text n x r = "[] s1=" ▸ num x.own (tail_text needed (group_text n) branch_text x.guard x.branches r)

abbrev pub statements : ℕ → List Statement → Text
statements n [] r = r
statements n (x ∷ xs) r = statement_text n x (statements n xs r)

-- ---- the further modules: of the c seats behind seat i

abbrev pub module_text : ℕ → Text
module_text i r = "module process" ▸ num i (" = process1 [s1=s" ▸ num i (", s" ▸ num i ("=s1] endmodule\n" ▸ r)))

abbrev pub modules : ℕ → ℕ → Text
modules i zero r = r
modules i (suc c) r = module_text (suc i) (modules (suc i) c r)

unfoldable pub write_of : Card → List ℕ
unfolding statement_text
write_of c =
    mode_word c.mode ▸ declaration c.shared ("\nmodule process1\ns1 : [0.." ▸ num c.k ("] init " ▸ num c.l (";\n"
    ▸ statements c.n c.statements ("endmodule\n" ▸ modules 1 (c.n - 1) []))))
