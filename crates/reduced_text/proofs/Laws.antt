-- The reduced text in the form in which the code puts it: one counter more after each turn of a loop, and the parts of the program one
-- after the other. Assumes nothing.
use Prim.Native.Nat.{ℕ, zero, suc, ◌+◌, ◌-◌}
use mathlib.Core.Path.{◌≡◌, refl, sym, ap, ◌∙◌}
use mathlib.Core.List.{List, []}
use native.Mathlib.Numerals.{add-one}
use native.Mathlib.Nat.{zero-add, sub-zero}
use native.Mathlib.Omega.{arith}
use lib.Dec.{eqb}
use Rattle.card.specs.Card.{Card}
use Rattle.meaning.specs.Sums.{gate, upto}
use Rattle.meaning.specs.Reduced.{reduce}
use Rattle.room.specs.Room.{Put}
use Rattle.room.proofs.Laws.{put_as}
use Rattle.phrases.specs.Phrases.{Text, ◌▸◌, mode_text, counted}
use Rattle.phrases.specs.Puts.{Puts}
use Rattle.texts.specs.Shared.{declaration}
use Rattle.texts.specs.ReducedText.{counter_line, counters, program_text, reduced_of}
use Rattle.leaf_text.specs.declared.style.Form.TheVariants.{Reduced}
use Rattle.statement_text.specs.Statements.{statements_text}
use Rattle.statement_text.proofs.Both.{reduced_each}

module _ (most l : ℕ) where
  abbrev pub next_counter : ℕ → Text
  next_counter d = counter_line most d (gate (eqb l d) most)

  counters_counted : (d c : ℕ) (f : ℕ → ℕ) → ((j : ℕ) → f j ≡ gate (eqb l (d + j)) most) → (r : List ℕ)
      → counted next_counter d c r ≡ counters most d (upto c f) r
  unfolding counted
  counters_counted d zero f e r = refl
  counters_counted d (suc c) f e r =
      let k : d + 0 ≡ d = omega arith in
      let later : (j : ℕ) → d + suc j ≡ suc d + j = λ j. omega arith in
      let z : gate (eqb l d) most ≡ f 0 = sym (e 0 ∙ rw k) in
      rw (z, counters_counted (suc d) c (λ i. f (suc i)) (λ j. e (suc j) ∙ rw (later j)) r)

  pub counters_all : (top : ℕ) (r : List ℕ) → counted next_counter 0 (top + 1 - 0) r ≡ counters most 0 (upto (suc top) (λ d. gate (eqb l d) most)) r
  counters_all top r = rw (sub-zero, add-one) (counters_counted 0 (suc top) (λ d. gate (eqb l d) most) (λ j. rw (zero-add j)) r)

-- all before the statements
abbrev pub start_text : Card → Text
start_text c r =
    mode_text c.mode (declaration c.shared ("\nmodule generic_process\n" ▸ counters c.n 0 (upto (suc c.k) (λ d. gate (eqb c.l d) c.n)) r))

pub program_text_law : (c : Card) {a b : List ℕ} {m : ℕ} → Puts a b 0 (λ r. start_text c (statements_text Reduced c ("endmodule\n" ▸ r))) m → Put a b 0 (reduced_of c) m
unfolding program_text reduce
program_text_law c p = put_as (ap (start_text c) (sym (reduced_each c.mode c.n c.statements ("endmodule\n" ▸ [])))) p.put
