-- The card's struct from the lent arrays: the rows become its statements one by one, and the whole is what the outcome says. Assumes nothing.
use Prim.Native.Nat.{ℕ, ◌+◌, ◌≤◌, ◌<◌}
use mathlib.Core.Path.{◌≡◌, refl, sym, ap, ◌∙◌}
use mathlib.Core.List.{List}
use native.Mathlib.Decide.{dec_lt}
use native.Mathlib.Nat.{zero-add}
use native.Mathlib.Omega.{arith}
use Rattle.std.specs.Prelude.{Ok, Err}
use lib.ListN.{length, get_or, set, replicate, length-set}
use lib.Seq.{take_all, get_or-set_same, get_or-set_other}
use Rattle.card.specs.Limits.{most_statements}
use Rattle.card.specs.Card.{Card}
use Rattle.card.specs.Laid.{no_statement, laid}
use Rattle.card.specs.Rows.{row_of, rows_of, rows_from}
use Rattle.card.specs.Lent.{Lent}
use Rattle.card.specs.declared.Statement.{Statement}
use Rattle.card.proofs.Rows.{rows_list, rows_taken}
use Rattle.card.proofs.Sized.{statements_long}
use Rattle.reading.specs.Reading.{Outcome, taken, refused, read_of}
use Rattle.outline.specs.ReadingOf.{Reading, Outline, reading_of, Reads, outline_of, memory_of, ReadsInto}

-- the first i statements are those of the rows
pub record Made (rows : List ℕ) (xs : List Statement) (i : ℕ) : Type 0 where
  pub few : i ≤ most_statements
  pub long : length xs ≡ most_statements
  pub each : (j : ℕ) → j < i → row_of rows j ≡ get_or xs j no_statement

pub made_start : {rows : List ℕ} {x : Statement} → Made rows (replicate most_statements x) 0
made_start = record { few = omega arith; long = refl; each = λ j h. absurd (omega arith) }

pub made_next : {rows : List ℕ} {xs : List Statement} {i : ℕ} → Made rows xs i → i < most_statements → Made rows (set xs i (row_of rows i)) (i + 1)
made_next {rows} {xs} {i} m h = record { few = omega arith; long = length-set xs i (row_of rows i) ∙ m.long; each = λ j l. go j (dec_lt j i) l }
  where
    go : (j : ℕ) → Dec (j < i) → j < i + 1 → row_of rows j ≡ get_or (set xs i (row_of rows i)) j no_statement
    go j (yes g) l = m.each j g ∙ sym (get_or-set_other xs i j (row_of rows i) no_statement (λ e. omega arith))
    go j (no g) l =
        let e : j ≡ i = omega arith in
        rw e (sym (get_or-set_same xs i (row_of rows i) no_statement (omega (arith, m.long))))

pub made_all : {rows : List ℕ} {xs : List Statement} {i : ℕ} → Made rows xs i → most_statements ≤ i → xs ≡ rows_from rows 0 most_statements
made_all {rows} {xs} {i} m h =
    sym (rows_list rows xs 0 most_statements (omega (arith, m.long)) (λ j l. rw (zero-add j) (m.each j (omega arith)))
    ∙ take_all most_statements xs (omega (arith, m.long)))

-- ---- the whole

abbrev pub whole_of : Outline → Lent → Reading
whole_of (Ok head) x = Ok (record {
  mode = head.mode;
  shared = head.shared;
  initial = head.initial;
  seats = head.seats;
  top = head.top;
  start = head.start;
  count = head.count;
  statements = rows_from x.rows 0 most_statements;
  nodes = x.nodes;
  branches = x.branches;
})
whole_of (Err e) x = Err e

-- all statements come back from their rows
statements_back : (c : Card) → rows_from (rows_of (laid c).statements) 0 most_statements ≡ (laid c).statements
statements_back c =
    rows_taken (laid c).statements most_statements (omega (arith, statements_long c))
    ∙ take_all most_statements (laid c).statements (omega (arith, statements_long c))

whole_taken : (c : Card) → whole_of (outline_of (taken c)) (memory_of (taken c)) ≡ reading_of (taken c)
unfolding laid
whole_taken c = ap (λ (xs : List Statement). Ok (record {
  mode = (laid c).mode;
  shared = (laid c).shared;
  initial = (laid c).initial;
  seats = (laid c).seats;
  top = (laid c).top;
  start = (laid c).start;
  count = (laid c).count;
  statements = xs;
  nodes = (laid c).nodes;
  branches = (laid c).branches;
})) (statements_back c)

whole_of_law : (o : Outcome) → whole_of (outline_of o) (memory_of o) ≡ reading_of o
whole_of_law (taken c) = whole_taken c
whole_of_law (refused n p) = refl

pub reads_whole : {s : List ℕ} {r : Outline} {x : Lent} → ReadsInto s r x → Reads s (whole_of r x)
reads_whole {s} {r} {x} h = record {
  reading = ap (λ (y : Outline). whole_of y x) h.outline ∙ ap (whole_of (outline_of (read_of s))) h.memory ∙ whole_of_law (read_of s);
  valid = h.valid;
}
