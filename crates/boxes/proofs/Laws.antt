-- A deck's contents judged from entry to entry. Assumes nothing.
use Prim.Native.Nat.{ℕ, zero, suc, ◌+◌, ◌-◌, ◌*◌, ◌≤◌, ◌<◌}
use mathlib.Core.Path.{◌≡◌, refl, sym, ap, ap₂, ◌∙◌}
use mathlib.Core.List.{List}
use native.Mathlib.Omega.{arith}
use borrow.Author.Tests.{le-leb, lt-leb}
use lib.ListN.{length, drop}
use lib.Seq.{drop-drop}
use Rattle.entry.specs.Said.{Said, ◌>>◌}
use Rattle.card.specs.Limits.{deck_bytes, most_cards}
use Rattle.card.specs.Refusals.{malformed_deck}
use Rattle.std.specs.Prelude.{Err}
use Rattle.card.specs.declared.Refusal.{Refusal}
use Rattle.card.specs.Verdict.{Taken, Refused}
use Rattle.deck.specs.Contents.{Row, end_of, row_of, rows_of, count_of, behind, contents_of, row_said, rows_said, judged}
use Rattle.deck_entries.specs.Verdicts.{verdict_of}
use Rattle.deck_entries.specs.Rows.{row_by}
use Rattle.deck_entries.specs.declared.Entry.{Entry}
use Rattle.deck_entries.proofs.Laws.{verdict_refused, verdict_fine, as_told}
use Rattle.std.proofs.Common.{add-one}

-- ---- the deck: its head

module _ (deck : List ℕ) (a : length deck ≤ deck_bytes) where
  pub no_cards : count_of deck ≡ 0 → Refused malformed_deck 0 ≡ verdict_of (judged deck)
  no_cards h =
      let k = lt-leb 1 (count_of deck) (omega (arith, h)) in
      rw (le-leb (length deck) deck_bytes a, k)

  module _ (b : count_of deck ≡ 0 → ⊥) where
    some_cards : 1 ≤ count_of deck
    some_cards = omega (arith, b)

    pub many_cards : most_cards < count_of deck → Refused malformed_deck 0 ≡ verdict_of (judged deck)
    many_cards h = rw (le-leb (length deck) deck_bytes a, le-leb 1 (count_of deck) some_cards, lt-leb (count_of deck) most_cards h)

    module _ (c : count_of deck ≤ most_cards) where
      pub cut_short : length deck < behind (count_of deck) → Refused malformed_deck 0 ≡ verdict_of (judged deck)
      cut_short h =
          let k = lt-leb (behind (count_of deck)) (length deck) h in
          rw (le-leb (length deck) deck_bytes a, le-leb 1 (count_of deck) some_cards, le-leb (count_of deck) most_cards c, k)

      pub head_fine : behind (count_of deck) ≤ length deck → judged deck ≡ rows_said (length deck) 1 0 (behind (count_of deck)) (contents_of deck)
      head_fine h =
          let k = le-leb (behind (count_of deck)) (length deck) h in
          rw (le-leb (length deck) deck_bytes a, le-leb 1 (count_of deck) some_cards, le-leb (count_of deck) most_cards c, k)

-- ---- from entry to entry: what is judged still, where so many of `count` entries are judged

module _ (deck : List ℕ) where
  -- entry i, where it stands
  abbrev pub place : ℕ → ℕ
  place i = 1 + 8 * i

  abbrev pub entry : ℕ → Row
  entry i = row_of (drop (place i) deck)

  -- the least number and the least offset that entry i may have: behind those of the entry before it
  abbrev pub least_of : ℕ → ℕ
  least_of zero = 0
  least_of (suc i) = suc (entry i).number

  abbrev pub last_of : ℕ → ℕ
  last_of zero = behind (count_of deck)
  last_of (suc i) = end_of (entry i)

  abbrev pub ahead : (count i : ℕ) → Said (Unit {0})
  ahead count i = rows_said (length deck) (place i) (least_of i) (last_of i) (rows_of (count - i) (drop (place i) deck))

pub record Going (deck : List ℕ) (count i least last : ℕ) : Type 0 where
  pub least_is : least ≡ least_of deck i
  pub last_is : last ≡ last_of deck i
  pub same : judged deck ≡ ahead deck count i
  pub room : behind count ≤ length deck

module _ (deck : List ℕ) (count i : ℕ) (inside : i < count) where
  -- entry i is judged, and then those behind it
  pub next : ahead deck count i ≡ (row_said (length deck) (place deck i) (least_of deck i) (last_of deck i) (entry deck i) >> ahead deck count (suc i))
  next =
      let more : count - i ≡ suc (count - suc i) = omega arith in
      let far : place deck i + 8 ≡ place deck (suc i) = omega arith in
      rw (more, drop-drop 8 (place deck i) deck, far) refl

  module _ {least last : ℕ} {x : Entry} (g : Going deck count i least last) (e : row_by x ≡ row_of (drop (1 + 8 * i) deck)) where
    abbrev said : Said (Unit {0})
    said = row_said (length deck) (1 + 8 * i) least last (row_by x)

    judges : judged deck ≡ (said >> ahead deck count (suc i))
    judges =
        g.same ∙ next
        ∙ ap (λ (r : Row). row_said (length deck) (1 + 8 * i) (least_of deck i) (last_of deck i) r >> ahead deck count (suc i)) (sym e)
        ∙ ap₂ (λ (n o : ℕ). row_said (length deck) (1 + 8 * i) n o (row_by x) >> ahead deck count (suc i)) (sym g.least_is) (sym g.last_is)

    pub stops : {r : Refusal} → Err r ≡ verdict_of said → Err r ≡ verdict_of (judged deck)
    stops t = as_told judges (rw (verdict_refused said (sym t)) refl)

    pub least_next : x.number + 1 ≡ least_of deck (i + 1)
    least_next = rw (add-one i) (add-one x.number ∙ ap (λ (r : Row). suc r.number) e)

    pub last_next : end_of (row_by x) ≡ last_of deck (i + 1)
    last_next = rw (add-one i) (ap end_of e)

    pub goes_on : Taken ≡ verdict_of said → judged deck ≡ ahead deck count (i + 1)
    goes_on t = rw (add-one i) (judges ∙ ap (λ (y : Said (Unit {0})). y >> ahead deck count (suc i)) (verdict_fine said (sym t)))
