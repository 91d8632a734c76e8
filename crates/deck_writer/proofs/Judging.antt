-- The contents judged in one loop, from entry to entry: what is said of all of them is said of those that are left, behind the bytes counted so
-- far. Assumes nothing.
use Prim.Native.Nat.{ℕ, zero, suc, ◌+◌, ◌-◌, ◌*◌, ◌≤◌, ◌<◌}
use mathlib.Core.Path.{◌≡◌, refl, sym, ap, ◌∙◌}
use mathlib.Core.List.{List}
use native.Mathlib.Omega.{arith}
use lib.ListN.{drop}
use lib.Seq.{drop-drop}
use Rattle.entry.specs.Said.{Said, says, refused, ◌>>◌}
use Rattle.deck.specs.Contents.{Row, row_of, rows_of}
use Rattle.deck_entries.proofs.Laws.{verdict_refused, verdict_fine}
use Rattle.deck_written.specs.WriteDeckSaid.{count_in, lines, line_said, lines_said, sizes}
use Rattle.std.specs.Prelude.{Err}
use Rattle.card.specs.declared.Refusal.{Refusal}
use Rattle.card.specs.Verdict.{Taken}
use Rattle.deck_entries.specs.Rows.{row_by}
use Rattle.deck_entries.specs.declared.Entry.{Entry}
use Rattle.deck_entries.specs.Verdicts.{verdict_of}
use Rattle.std.proofs.Common.{add-one}
use Rattle.room.specs.Answer.{told}
use Rattle.deck_writer.specs.Measured.{measured}

-- ---- from entry to entry

module _ (contents : List ℕ) where
  abbrev entry : ℕ → Row
  entry i = row_of (drop (8 * i) contents)

  -- the least number that entry i may have: above that of the entry before it
  abbrev pub least_of : ℕ → ℕ
  least_of zero = 0
  least_of (suc i) = suc (entry i).number

  -- what is said of the entries from entry i on, behind so many bytes
  abbrev pub ahead : (i long : ℕ) → Said ℕ
  ahead i long = measured (8 * i) (least_of i) long (rows_of (count_in contents - i) (drop (8 * i) contents))

grouped : (x y : Said (Unit {0})) (n : ℕ) → (x >> y >> says n) ≡ (x >> (y >> says n))
grouped (says u) y n = refl
grouped (refused r p) y n = refl

pub record Going (contents : List ℕ) (i least long : ℕ) : Type 0 where
  pub least_is : least ≡ least_of contents i
  pub same : measured 0 0 0 (lines contents) ≡ ahead contents i long
  pub few : long ≤ 65535 * i

module _ {contents : List ℕ} {i least long : ℕ} {x : Entry} (g : Going contents i least long) (inside : i < count_in contents) (e : row_by x ≡ row_of (drop (8 * i) contents)) where
  abbrev said : Said (Unit {0})
  said = line_said (8 * i) least (row_by x)

  abbrev rest : List Row
  rest = rows_of (count_in contents - suc i) (drop (8 * suc i) contents)

  next : ahead contents i long ≡ (line_said (8 * i) (least_of contents i) (entry contents i) >> lines_said (8 * suc i) (least_of contents (suc i)) rest >> says (long + ((entry contents i).size + sizes rest)))
  next =
      let more : count_in contents - i ≡ suc (count_in contents - suc i) = omega arith in
      let far : 8 * i + 8 ≡ 8 * suc i = omega arith in
      rw (more, drop-drop 8 (8 * i) contents, far) refl

  judges : measured 0 0 0 (lines contents) ≡ (said >> ahead contents (suc i) (long + x.size))
  judges =
      let counted : long + (x.size + sizes rest) ≡ long + x.size + sizes rest = omega arith in
      g.same ∙ next
      ∙ ap (λ (r : Row). line_said (8 * i) (least_of contents i) r >> lines_said (8 * suc i) (least_of contents (suc i)) rest >> says (long + (r.size + sizes rest))) (sym e)
      ∙ ap (λ (n : ℕ). line_said (8 * i) n (row_by x) >> lines_said (8 * suc i) (least_of contents (suc i)) rest >> says (long + (x.size + sizes rest))) (sym g.least_is)
      ∙ ap (λ (n : ℕ). said >> lines_said (8 * suc i) (least_of contents (suc i)) rest >> says n) counted
      ∙ grouped said _ _

  pub stops : {r : Refusal} → Err r ≡ verdict_of said → Err r ≡ told (measured 0 0 0 (lines contents))
  stops t = rw (judges, verdict_refused said (sym t)) refl

  pub least_next : x.number + 1 ≡ least_of contents (i + 1)
  least_next = rw (add-one i) (add-one x.number ∙ ap (λ (r : Row). suc r.number) e)

  pub goes_on : Taken ≡ verdict_of said → measured 0 0 0 (lines contents) ≡ ahead contents (i + 1) (long + x.size)
  goes_on t = rw (add-one i) (judges ∙ ap (λ (y : Said (Unit {0})). y >> ahead contents (suc i) (long + x.size)) (verdict_fine said (sym t)))
