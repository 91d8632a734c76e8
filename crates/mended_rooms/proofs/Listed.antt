-- The list by fates, and one line more. Assumes nothing.
use Prim.Native.Nat.{ℕ, suc, ◌+◌, ◌*◌, ◌≤◌, ◌<◌}
use mathlib.Core.Path.{◌≡◌, refl, sym, ap, ◌∙◌}
use mathlib.Core.List.{List, [], ◌∷◌, ◌++◌, map, map-append}
use native.Mathlib.Omega.{arith}
use denote.Enum.Declared.{tag_of}
use lib.ListN.{length, take, get_or, length-append}
use lib.Seq.{take-suc, take_all}
use Rattle.std.specs.Prelude.{Option, None, Some}
use Rattle.deck.specs.Contents.{Row, count_of, entries_from, behind, contents_of}
use Rattle.deck_written.proofs.Entries.{length_rows}
use Rattle.room.specs.Digits.{decimal}
use Rattle.room.proofs.Decimal.{length_one}
use Rattle.mending.specs.Mending.{Fate, fate_of, least_behind, last_behind, fates_from, fates_in, line_text, list_text}
use Rattle.mending.specs.FateBy.{number_of, fate_by}
use Rattle.mending.specs.declared.Rule.{Rule}
use Rattle.mending.specs.declared.Rule.TheVariants.{Flags, Number, Range, Card}
use Rattle.mending.specs.contracts.Rule.{the_type}
use Rattle.mending.proofs.Fates.{by_fate}
use Rattle.phrases.specs.Phrases.{◌▸◌, num}
use Rattle.phrases.specs.Puts.{Puts}
use Rattle.phrases.proofs.Laws.{puts_then, puts_as}
use Rattle.mended_rooms.specs.Lines.{lines_by}

-- ---- by fates

pub listed_by : (fs : List Fate) → lines_by fs [] ≡ list_text fs
listed_by [] = refl
listed_by (f ∷ fs) = ap (line_text f) (listed_by fs)

-- a line has ten bytes at most
line_short : (deck : List ℕ) (least last : ℕ) (r : Row) (t : List ℕ) → length (line_text (fate_of deck least last r) t) ≤ 10 + length t
line_short deck least last r t = by_fate deck least last r (λ (f : Fate). length (line_text f t) ≤ 10 + length t) (omega arith) dropped_line
  where
    dropped_line : (rule : ℕ) → rule < 4 → length ("dropped " ▸ num (suc rule) ("\n" ▸ t)) ≤ 10 + length t
    dropped_line rule l = omega (arith, length-append (decimal (suc rule)) ("\n" ▸ t), length_one (suc rule) (omega arith))

lines_short : (deck : List ℕ) (least last : ℕ) (rs : List Row) → length (list_text (fates_from deck least last rs)) ≤ 10 * length rs
lines_short deck least last [] = omega arith
lines_short deck least last (r ∷ rs) =
    let f = fate_of deck least last r in
    let rest = fates_from deck (least_behind f r least) (last_behind f r last) rs in
    omega (arith, line_short deck least last r (list_text rest), lines_short deck (least_behind f r least) (last_behind f r last) rs)

pub list_short : (deck : List ℕ) → length (list_text (fates_in deck)) ≤ 10 * count_of deck
list_short deck = omega (arith, lines_short deck 0 (behind (count_of deck)) (contents_of deck), length_rows (count_of deck) (entries_from deck))

-- ---- one line more

lines_append : (fs gs : List Fate) (t : List ℕ) → lines_by (fs ++ gs) t ≡ lines_by fs (lines_by gs t)
lines_append [] gs t = refl
lines_append (f ∷ fs) gs t = ap (line_text f) (lines_append fs gs t)

module _ (ks : List (Option Rule)) (i : ℕ) where
  pub lines_next : {a b c : List ℕ} {m r : ℕ} → i < length ks → Puts a b 0 (lines_by (map fate_by (take i ks))) m → Puts b c m (line_text (fate_by (get_or ks i None))) r
      → Puts a c 0 (lines_by (map fate_by (take (i + 1) ks))) r
  lines_next l p q =
      let one : i + 1 ≡ suc i = omega arith in
      let more : map fate_by (take (i + 1) ks) ≡ map fate_by (take i ks) ++ fate_by (get_or ks i None) ∷ []
      = ap (λ (n : ℕ). map fate_by (take n ks)) one ∙ ap (map fate_by) (take-suc ks i None l) ∙ map-append fate_by (take i ks) (get_or ks i None ∷ []) in
      puts_as (lines_by (map fate_by (take (i + 1) ks)))
      (λ t. sym (ap (λ (fs : List Fate). lines_by fs t) more ∙ lines_append (map fate_by (take i ks)) (fate_by (get_or ks i None) ∷ []) t))
      (puts_then p q)

  pub lines_end : {a b : List ℕ} {m : ℕ} → length ks ≤ i → Puts a b 0 (lines_by (map fate_by (take i ks))) m → Puts a b 0 (lines_by (map fate_by ks)) m
  lines_end l p = puts_as (lines_by (map fate_by ks)) (λ t. ap (λ (x : List (Option Rule)). lines_by (map fate_by x) t) (take_all i ks l)) p

-- ---- a line, by the rule's number

-- a rule's number as the code reckons it
number_is : (rule : Rule) → tag_of the_type rule + 1 ≡ number_of rule
number_is Flags = refl
number_is Number = refl
number_is Range = refl
number_is Card = refl

pub line_dropped : {fate : Option Rule} (rule : Rule) → fate ≡ Some rule → (t : List ℕ)
    → "dropped " ▸ num (tag_of the_type rule + 1) ("\n" ▸ t) ≡ line_text (fate_by fate) t
line_dropped rule e t = rw (e, number_is rule)
