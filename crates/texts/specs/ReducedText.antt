-- The reduced program's text ("Texts, byte for byte", first part; document 02, 2026-10). Assumes nothing.
use Rattle.std.specs.Prelude.{ℕ, suc, List, [], ◌∷◌}
use Rattle.std.proofs.Math.Option.{Option, none, some}
use Rattle.card.specs.Card.{Card}
use Rattle.card.specs.Valid.{Level}
use Rattle.meaning.specs.Reduced.{Bound, equal_to, more_than, less_than, Counter, counter, shared_test, Test, Update, keep, shift, Outcome, Reduced, Program, reduce as program_of}
use Rattle.phrases.specs.Phrases.{Text, ◌▸◌, num, mode_text, weight_text}
use Rattle.texts.specs.Shared.{always, formula_text, tail_text, declaration, shared_text, set_text, set_last}

-- ---- tests

abbrev pub bound_text : Bound → Text
bound_text (equal_to m) r = "=" ▸ num m r
bound_text (more_than m) r = ">" ▸ num m r
bound_text (less_than m) r = "<" ▸ num m r

abbrev pub counter_text : Counter → Text
counter_text (counter d b) r = "(no_" ▸ num d (bound_text b (")" ▸ r))
counter_text (shared_test q v) r = shared_text q v r

abbrev pub test_text : Level → Test → Text
test_text = formula_text always counter_text

-- ---- statements

-- the lowered counter stands first, what the shared number is set to last; `true` where there is neither
abbrev pub update_text : Update → Option ℕ → Text
update_text keep none r = "true" ▸ r
update_text keep (some v) r = set_text v r
update_text (shift j t n) s r = "(no_" ▸ num j ("'=no_" ▸ num j ("-1) & (no_" ▸ num t ("'=min(no_" ▸ num t ("+1," ▸ num n ("))" ▸ set_last s r)))))

abbrev pub outcome_text : Outcome → Text
outcome_text o r = weight_text o.units (":" ▸ update_text o.update o.sets r)

unfoldable pub reduced_text : Reduced → Text
unfolding formula_text weight_text
reduced_text x r = "[] " ▸ counter_text (counter x.own (more_than x.least)) (tail_text always counter_text outcome_text x.guard x.outcomes r)

abbrev pub statements : List Reduced → Text
statements [] r = r
statements (x ∷ xs) r = reduced_text x (statements xs r)

-- ---- the program

-- no_d, from 0 to most, starts at v
abbrev pub counter_line : ℕ → ℕ → ℕ → Text
counter_line most d v r = "no_" ▸ num d (" : [0.." ▸ num most ("] init " ▸ num v (";\n" ▸ r)))

-- the counters from no_d on, by what they start at
abbrev pub counters : ℕ → ℕ → List ℕ → Text
counters most d [] r = r
counters most d (v ∷ vs) r = counter_line most d v (counters most (suc d) vs r)

unfoldable pub program_text : Program → List ℕ
unfolding reduced_text
program_text p =
    mode_text p.mode (declaration p.shared ("\nmodule generic_process\n"
    ▸ counters p.most 0 p.start (statements p.statements ("endmodule\n" ▸ []))))

abbrev pub reduced_of : Card → List ℕ
reduced_of c = program_text (program_of c)
