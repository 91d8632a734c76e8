-- Mending as a stage of an entry: 11 at 0 is its only refusal, and it passes exactly where the deck can be mended. Assumes nothing.
use Prim.Native.Nat.{ℕ, ◌≤◌, ◌<◌}
use mathlib.Core.Path.{◌≡◌, refl, sym, ap, ◌∙◌}
use mathlib.Core.Logic.{◌↔◌}
use mathlib.Core.List.{List}
use native.Mathlib.Decide.{dec_le}
use native.Mathlib.Omega.{arith}
use lib.ListN.{length}
use borrow.Author.Tests.{le-leb, lt-leb}
use Rattle.card.specs.Refusals.{malformed_deck}
use Rattle.entry.specs.Said.{Said, says, refused, ◌>>◌}
use Rattle.entry.specs.Numbers.{only}
use Rattle.entry.specs.Stage.{Stage}
use Rattle.entry.specs.Contract.{Two}
use Rattle.entry.proofs.Stages.{says≢refused, same_number, same_place, same_said}
use Rattle.deck.specs.Contents.{count_of, behind, contents_of, head_said, rows_said}
use Rattle.deck.specs.Sound.{Head, MalformedAt, in_head, in_field}
use Rattle.deck.proofs.Judged.{of_head, head_of}
use Rattle.deck.proofs.FirstWrong.{judged_refused}
use Rattle.mending.specs.Mending.{kept_in, some_kept, mended, mend_said}
use Rattle.mending.specs.Accepted.{Mendable}

module _ (deck : List ℕ) where
  -- a head is refused with 11 at 0
  head_refused : {r p : ℕ} → head_said deck ≡ refused r p → (r ≡ malformed_deck) × (p ≡ 0)
  head_refused {r} {p} e =
      let (number, where-wrong) = judged_refused deck r p (ap (λ (x : Said (Unit {0})). x >> rows_said (length deck) 1 0 (behind (count_of deck)) (contents_of deck)) e) in
      (number, at_start where-wrong)
    where
      at_start : {q : ℕ} → MalformedAt deck q → q ≡ 0
      at_start (in_head a) = refl
      at_start (in_field i f h w) = says≢refused (sym (of_head deck h) ∙ e)

  no_head : (Head deck → ⊥) → head_said deck ≡ refused malformed_deck 0
  no_head h = go (head_said deck) refl
    where
      go : (x : Said (Unit {0})) → head_said deck ≡ x → x ≡ refused malformed_deck 0
      go (says u) e = absurd (h (head_of deck e))
      go (refused r p) e = let (n, q) = head_refused e in rw (n, q)

  pub head_wrong : (Head deck → ⊥) → mend_said deck ≡ refused malformed_deck 0
  unfolding mend_said
  head_wrong h = rw (no_head h)

  module _ (h : Head deck) where
    behind_head : mend_said deck ≡ some_kept (kept_in deck) >> says (mended deck)
    unfolding mend_said
    behind_head = rw (of_head deck h)

    pub none_kept : length (kept_in deck) ≡ 0 → mend_said deck ≡ refused malformed_deck 0
    none_kept z = let l : length (kept_in deck) < 1 = omega (arith, z) in behind_head ∙ rw (lt-leb 1 (length (kept_in deck)) l)

    pub some_kept_law : 1 ≤ length (kept_in deck) → mend_said deck ≡ says (mended deck)
    some_kept_law l = behind_head ∙ rw (le-leb 1 (length (kept_in deck)) l)

  pub mendable : Dec (Mendable deck)
  mendable = go (head_said deck) refl
    where
      kept_or_not : Head deck → Dec (1 ≤ length (kept_in deck)) → Dec (Mendable deck)
      kept_or_not h (yes l) = yes (record { head = h; some = l })
      kept_or_not h (no l) = no (λ m. l m.some)

      go : (x : Said (Unit {0})) → head_said deck ≡ x → Dec (Mendable deck)
      go (says u) e = kept_or_not (head_of deck e) (dec_le 1 (length (kept_in deck)))
      go (refused r p) e = no (λ m. says≢refused (sym (of_head deck m.head) ∙ e))

  not_mendable : (Mendable deck → ⊥) → mend_said deck ≡ refused malformed_deck 0
  not_mendable no_way = go (head_said deck) refl
    where
      go : (x : Said (Unit {0})) → head_said deck ≡ x → mend_said deck ≡ refused malformed_deck 0
      go (says u) e = none_kept (head_of deck e) (by_cases (dec_le 1 (length (kept_in deck))))
        where
          by_cases : Dec (1 ≤ length (kept_in deck)) → length (kept_in deck) ≡ 0
          by_cases (yes l) = absurd (no_way (record { head = head_of deck e; some = l }))
          by_cases (no l) = omega arith
      go (refused r p) e = head_wrong (λ h. says≢refused (sym (of_head deck h) ∙ e))

  -- the only refusal
  pub refused_exactly : (r p : ℕ) → (mend_said deck ≡ refused r p) ↔ ((r ≡ malformed_deck) × (p ≡ 0) × (Mendable deck → ⊥))
  refused_exactly r p = (forth mendable, λ h. not_mendable h.2 ∙ rw (h.0, h.1))
    where
      forth : Dec (Mendable deck) → mend_said deck ≡ refused r p → (r ≡ malformed_deck) × (p ≡ 0) × (Mendable deck → ⊥)
      forth (yes m) e = says≢refused (sym (some_kept_law m.head m.some) ∙ e)
      forth (no m) e = let same = sym (not_mendable m) ∙ e in (sym (same_number same), sym (same_place same), m)

  pub mend_stage : Stage (mend_said deck) (only malformed_deck) (Mendable deck) (λ _. mended deck)
  mend_stage = record {
    numbers = record { number = λ r p e. rw ((refused_exactly r p).0 e).0 };
    found = record { each = λ m. some_kept_law m.head m.some; only = λ a e. only_so a e mendable };
  }
    where
      only_so : (a : Two (List ℕ)) → mend_said deck ≡ says a → Dec (Mendable deck) → (m : Mendable deck) × (a ≡ mended deck)
      only_so a e (yes m) = (m, same_said (sym e ∙ some_kept_law m.head m.some))
      only_so a e (no m) = says≢refused (sym e ∙ not_mendable m)
