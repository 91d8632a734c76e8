-- How long the reduced text of a valid card can be: states have one digit, numbers of seats two, and of all that repeats there is at most
-- so much. Assumes nothing.
use Prim.Native.Nat.{ℕ, zero, suc, ◌+◌, ◌-◌, ◌*◌, ◌≤◌}
use mathlib.Core.Bool.{Bool, true, false}
use mathlib.Core.List.{List, [], ◌∷◌, map}
use mathlib.Core.Option.{Option, none, some}
use native.Mathlib.Nat.{mul-le-mul_right, le_trans}
use native.Mathlib.Omega.{arith}
use lib.Dec.{eqb}
use lib.ListN.{length}
use Rattle.card.specs.Limits.{most_seats, top_state, most_shared}
use Rattle.card.specs.Text.{when◌then◌else◌}
use Rattle.card.specs.Card.{Mode, nondeterministic, probabilistic, Kind, everyone, others, Sign, all, any, Relation, is, isnt, Leaf, group, one, shared_is, Branch, Statement, Card}
use Rattle.card.specs.Valid.{Every, values_of, ValidLeaf, ValidSet, ValidBranch, ValidStatement, ValidCard}
use Rattle.card.proofs.Held.{few_values}
use Rattle.meaning.specs.Sums.{gate, upto, flat}
use Rattle.meaning.specs.Reduced.{Bound, equal_to, more_than, less_than, counter_of, table, Update, keep, shift, update_of, copy, copies, reduce}
use Rattle.phrases.specs.Phrases.{Text, ◌▸◌, num, mode_text}
use Rattle.phrases.proofs.Adds.{Adds, adds_then, adds_up, adds_none, adds_bytes, adds_state, adds_seats, adds_weight, adds_mode}
use Rattle.texts.specs.Shared.{always, declaration}
use Rattle.texts.specs.ReducedText.{bound_text, counter_text, update_text, outcome_text, reduced_text, statements, counters, program_text, reduced_of}
use Rattle.texts.specs.Copies.{outcome_of, reduced_copies}
use Rattle.texts.specs.Lengths.{counter_most, update_most, outcome_most, tail_places, copy_most, declared_most, reduced_room}
use Rattle.texts.proofs.Adding.{adds_as, adds_counted, adds_declaration, adds_shared, adds_set, adds_last, adds_tail}
use Rattle.texts.proofs.Copies.{reduced_rest, copy_text_law, copies_text, statements_append}

-- ---- tests

abbrev number_in : Bound → ℕ
number_in (equal_to m) = m
number_in (more_than m) = m
number_in (less_than m) = m

adds_bound : (b : Bound) → number_in b ≤ most_seats → Adds 3 (bound_text b)
adds_bound (equal_to m) h = adds_then (adds_bytes "=") (adds_seats m h)
adds_bound (more_than m) h = adds_then (adds_bytes ">") (adds_seats m h)
adds_bound (less_than m) h = adds_then (adds_bytes "<") (adds_seats m h)

-- no number in the table is above n or 1
table_small : (n : ℕ) → n ≤ most_seats → (kind : Kind) (e : Bool) (s : Sign) (q : Relation) → number_in (table n kind e s q) ≤ most_seats
table_small n h everyone e all is = h
table_small n h everyone e any is = omega arith
table_small n h everyone e all isnt = omega arith
table_small n h everyone e any isnt = h
table_small n h others true all is = h
table_small n h others true any is = omega arith
table_small n h others true all isnt = omega arith
table_small n h others true any isnt = h
table_small n h others false all is = omega arith
table_small n h others false any is = omega arith
table_small n h others false all isnt = omega arith
table_small n h others false any isnt = omega arith

module _ (n k values j : ℕ) (h : n ≤ most_seats) (l : k ≤ top_state) (m : values ≤ most_shared) where
  adds_leaf : (g : Leaf) → ValidLeaf n k values g → Adds counter_most (counter_text (counter_of n j g))
  adds_leaf (group kind s q d) v =
      adds_then (adds_bytes "(no_")
      (adds_then (adds_state d (le_trans v.1 l))
      (adds_then (adds_bound (table n kind (eqb j d) s q) (table_small n h kind (eqb j d) s q)) (adds_bytes ")")))
  adds_leaf (one d) v = absurd v
  adds_leaf (shared_is q x) v = adds_up counter_most (omega arith) (adds_shared q x (omega arith))

  -- ---- branches

  adds_choice : (b : Bool) (x y : Update) (s : Option ℕ) → Adds update_most (update_text x s) → Adds update_most (update_text y s)
      → Adds update_most (update_text (when b then x else y) s)
  adds_choice true x y s p q = p
  adds_choice false x y s p q = q

  adds_keep : (s : Option ℕ) → ValidSet values s → Adds update_most (update_text keep s)
  adds_keep none v = adds_up update_most (omega arith) (adds_bytes "true")
  adds_keep (some x) v = adds_up update_most (omega arith) (adds_set x (omega arith))

  adds_shift : (t : ℕ) (s : Option ℕ) → j ≤ k → t ≤ k → ValidSet values s → Adds update_most (update_text (shift j t n) s)
  adds_shift t s e f v =
      let low : Adds 1 (num j) = adds_state j (le_trans e l) in
      let raised : Adds 1 (num t) = adds_state t (le_trans f l) in
      adds_then (adds_bytes "(no_")
      (adds_then low
      (adds_then (adds_bytes "'=no_")
      (adds_then low
      (adds_then (adds_bytes "-1) & (no_")
      (adds_then raised
      (adds_then (adds_bytes "'=min(no_")
      (adds_then raised (adds_then (adds_bytes "+1,") (adds_then (adds_seats n h) (adds_then (adds_bytes "))") (adds_last values m s v)))))))))))

  adds_update : (t : ℕ) (s : Option ℕ) → j ≤ k → t ≤ k → ValidSet values s → Adds update_most (update_text (update_of n j t) s)
  adds_update t s e f v = adds_choice (eqb j t) keep (shift j t n) s (adds_keep s v) (adds_shift t s e f v)

  adds_outcome : j ≤ k → (b : Branch) → ValidBranch k values b → Adds outcome_most (outcome_text (outcome_of n j b))
  adds_outcome own b v =
      adds_up outcome_most (omega arith)
      (adds_then (adds_weight b.units) (adds_then (adds_bytes ":") (adds_update b.end b.sets own v.end v.sets)))

-- ---- statements

module _ (n k values : ℕ) (h : n ≤ most_seats) (l : k ≤ top_state) (few : values ≤ most_shared) (s : Statement) (v : ValidStatement n k values s) where
  adds_rest : Adds (tail_places - 10) (reduced_rest n s)
  adds_rest =
      adds_up (tail_places - 10) (omega arith)
      (adds_tail n k values always (λ a. counter_text (counter_of n s.own a)) (counter_most - 1) (adds_leaf n k values s.own h l few)
      (λ b. outcome_text (outcome_of n s.own b)) _ (adds_outcome n k values s.own h l few v.own) s.guard s.branches v.guard v.some.1 v.branches)

  pub short_rest : length (reduced_rest n s []) ≤ tail_places
  short_rest = omega (arith, adds_rest.long [])

  adds_copy : (m : ℕ) → m ≤ most_seats → Adds copy_most (reduced_text (copy n s m))
  adds_copy m f =
      adds_up copy_most (omega arith)
      (adds_as (copy_text_law n s m)
      (adds_then (adds_bytes "[] (no_")
      (adds_then (adds_state s.own (le_trans v.own l))
      (adds_then (adds_bytes ">") (adds_then (adds_seats m f) (adds_then (adds_bytes ")") adds_rest))))))

  number_small : (mode : Mode) → reduced_copies mode n ≤ most_seats
  number_small nondeterministic = omega arith
  number_small probabilistic = h

  adds_statement : (mode : Mode) → Adds (most_seats * copy_most) (statements (copies mode n s))
  adds_statement mode =
      adds_up (most_seats * copy_most) (mul-le-mul_right copy_most (number_small mode))
      (adds_as (copies_text n s mode)
      (adds_counted (λ m. reduced_text (copy n s m)) copy_most 0 (reduced_copies mode n) (λ m f. adds_copy m (omega (arith, number_small mode)))))

abbrev copied : Mode → ℕ → List Statement → Text
copied mode n xs r = statements (flat (map (copies mode n) xs)) r

module _ (n k values : ℕ) (h : n ≤ most_seats) (l : k ≤ top_state) (few : values ≤ most_shared) where
  adds_statements : (mode : Mode) (xs : List Statement) → Every (ValidStatement n k values) xs → Adds (length xs * (most_seats * copy_most)) (copied mode n xs)
  adds_statements mode [] v = adds_up _ (omega arith) adds_none
  adds_statements mode (x ∷ xs) v =
      adds_up (length (x ∷ xs) * (most_seats * copy_most)) (omega arith)
      (adds_as (statements_append (copies mode n x) (flat (map (copies mode n) xs)))
      (adds_then (adds_statement n k values h l few x v.0 mode) (adds_statements mode xs v.1)))

-- ---- the program

gate_small : (b : Bool) (n : ℕ) → n ≤ most_seats → gate b n ≤ most_seats
gate_small true n h = h
gate_small false n h = omega arith

adds_counters : (n d c : ℕ) (f : ℕ → ℕ) → n ≤ most_seats → d + c ≤ suc top_state → ((j : ℕ) → f j ≤ most_seats) → Adds (c * declared_most) (counters n d (upto c f))
adds_counters n d zero f h l e = adds_up _ (omega arith) adds_none
adds_counters n d (suc c) f h l e =
    adds_up (suc c * declared_most) (omega arith)
    (adds_then (adds_bytes "no_")
    (adds_then (adds_state d (omega arith))
    (adds_then (adds_bytes " : [0..")
    (adds_then (adds_seats n h)
    (adds_then (adds_bytes "] init ")
    (adds_then (adds_seats (f 0) (e 0))
    (adds_then (adds_bytes ";\n") (adds_counters n (suc d) c (λ i. f (suc i)) h (omega arith) (λ j. e (suc j))))))))))

adds_program : (c : Card) → ValidCard c → Adds reduced_room (λ r. mode_text c.mode (declaration c.shared ("\nmodule generic_process\n"
    ▸ counters c.n 0 (upto (suc c.k) (λ d. gate (eqb c.l d) c.n)) (copied c.mode c.n c.statements ("endmodule\n" ▸ r)))))
adds_program c v =
    adds_up reduced_room (omega (arith, v.top, mul-le-mul_right (most_seats * copy_most) v.some.1))
    (adds_then (adds_mode c.mode)
    (adds_then (adds_declaration c.shared v.shared)
    (adds_then (adds_bytes "\nmodule generic_process\n")
    (adds_then (adds_counters c.n 0 (suc c.k) (λ d. gate (eqb c.l d) c.n) v.seats_most (omega (arith, v.top)) (λ d. gate_small (eqb c.l d) c.n v.seats_most))
    (adds_then (adds_statements c.n c.k (values_of c.shared) v.seats_most v.top (few_values c.shared v.shared) c.mode c.statements v.statements)
    (adds_bytes "endmodule\n"))))))

-- no reduced text of a valid card is longer than this
pub short : (c : Card) → ValidCard c → length (reduced_of c) ≤ reduced_room
unfolding program_text reduce
short c v = omega (arith, (adds_program c v).long [])
