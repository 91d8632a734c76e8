-- What two rules say of one card: they judge it alike but for its weights, so what holds of one list of judgements holds of the other where it does of the weights. So what is
-- read without decimals is read with them, as the same card; and what only the looser rule takes is refused with 17. Assumes nothing.
use Prim.Native.Nat.{ℕ}
use mathlib.Core.Path.{◌≡◌, refl, sym, ◌∙◌}
use mathlib.Core.Bool.{Bool, true, false}
use mathlib.Core.List.{List, [], ◌∷◌, ◌++◌, map}
use mathlib.Core.Option.{Option, none, some}
use native.Mathlib.Omega.{arith}
use lib.Dec.{leb}
use lib.ListN.{length}
use Rattle.card.specs.Limits.{card_bytes}
use Rattle.card.specs.Refusals.{too_long, decimal_weight}
use Rattle.card.specs.Card.{Card}
use Rattle.card.specs.Text.{when◌then◌else◌}
use Rattle.card.specs.Valid.{Every}
use Rattle.card.specs.Weight.{Weight, whole, decimal, ratio, Rule, allowed}
use Rattle.marks_on_a_card.specs.Marks.{Placed, marks_of}
use Rattle.reading.specs.Reader.{Place, Result, ok, stop, at}
use Rattle.reading.specs.Judgements.{Judgement, weight, sum, place_in, broken, Verdict, fine, wrong, or_else, first_broken}
use Rattle.reading.specs.Shape.{BranchShape, StatementShape, CardShape, card}
use Rattle.reading.specs.Checks.{judged_state, judged_words, judged_branch, judged_set, judged_each, judged_or, weight_in, judged_statement, judged_modules, judged_card, seats_in, judged_shared, most_in, card_in}
use Rattle.reading.specs.Reading.{taken, refused, first_outside, judged, shaped, marked, read_under}
use Rattle.grammar.specs.Rules.{Kept}
use Rattle.grammar.specs.Verdicts.{Accepted}
use Rattle.grammar.proofs.Fair.{every_append}
use Rattle.grammar.proofs.Theorems.{accepted}

-- ---- from the judgements by one rule to those by another

module _ (a b : Rule) (P Q : Judgement → Type 0) (same : (j : Judgement) → P j → Q j) (weighed : (w : Weight) (p : Place) → P (weight a w p) → Q (weight b w p)) where
  all_same : (js : List Judgement) → Every P js → Every Q js
  all_same [] h = tt
  all_same (j ∷ js) h = (same j h.0, all_same js h.1)

  join : (xs ys : List Judgement) → Every Q xs → Every Q ys → Every Q (xs ++ ys)
  join [] ys h k = k
  join (x ∷ xs) ys h k = (h.0, join xs ys h.1 k)

  each : {A : Type 0} (f g : A → List Judgement) → ((x : A) → Every P (f x) → Every Q (g x)) → (xs : List A) → Every P (judged_each f xs) → Every Q (judged_each g xs)
  each f g h [] k = tt
  each f g h (x ∷ xs) k =
      let q = every_append P (f x) (judged_each f xs) k in
      join (g x) (judged_each g xs) (h x q.0) (each f g h xs q.1)

  of_branch : (k m : ℕ) (x : BranchShape) → Every P (judged_branch a k m x) → Every Q (judged_branch b k m x)
  of_branch k m x h = (weighed x.weight x.place h.0, all_same (judged_words (1 ∷ []) x.words ++ (judged_state k x.end ∷ judged_set m x.sets)) h.1)

  of_statement : (k m : ℕ) (x : StatementShape) → Every P (judged_statement a k m x) → Every Q (judged_statement b k m x)
  of_statement k m x h =
      let total : List Judgement = sum (map weight_in x.branches) x.close ∷ [] in
      let before = judged_each (judged_branch a k m) x.branches in
      let after = judged_each (judged_branch b k m) x.branches in
      let q₁ = every_append P (judged_words (1 ∷ []) x.words) (judged_state k x.own ∷ (judged_or k m x.guard ++ (before ++ total))) h in
      let q₂ = every_append P (judged_or k m x.guard) (before ++ total) q₁.1.1 in
      let q₃ = every_append P before total q₂.1 in
      join (judged_words (1 ∷ []) x.words) (judged_state k x.own ∷ (judged_or k m x.guard ++ (after ++ total))) (all_same (judged_words (1 ∷ []) x.words) q₁.0) (
        same (judged_state k x.own) q₁.1.0,
        join (judged_or k m x.guard) (after ++ total) (all_same (judged_or k m x.guard) q₂.0)
            (join after total (each (judged_branch a k m) (judged_branch b k m) (of_branch k m) x.branches q₃.0) (all_same total q₃.1)),
      )

  of_card : (c : CardShape) → Every P (judged_card a c) → Every Q (judged_card b c)
  of_card c h =
      let m = most_in c.shared in
      let words = judged_words (1 ∷ 1 ∷ []) c.words in
      let modules = judged_modules 2 c.modules in
      let before = judged_each (judged_statement a c.k m) c.statements in
      let after = judged_each (judged_statement b c.k m) c.statements in
      let q₀ = every_append P (judged_shared c.shared) (words ++ (judged_state c.k c.l ∷ (before ++ modules))) h in
      let q₁ = every_append P words (judged_state c.k c.l ∷ (before ++ modules)) q₀.1 in
      let q₂ = every_append P before modules q₁.1.1 in
      let rest = each (judged_statement a c.k m) (judged_statement b c.k m) (of_statement c.k m) c.statements q₂.0 in
      join (judged_shared c.shared) (words ++ (judged_state c.k c.l ∷ (after ++ modules))) (all_same (judged_shared c.shared) q₀.0)
      (join words (judged_state c.k c.l ∷ (after ++ modules)) (all_same words q₁.0)
      (same (judged_state c.k c.l) q₁.1.0, join after modules rest (all_same modules q₂.1)))

-- ---- without decimals, and with them

weight_looser : (w : Weight) → allowed false w ≡ true → allowed true w ≡ true
weight_looser (whole v) e = refl
weight_looser (decimal v n f) e = refl
weight_looser (ratio a b) e = refl

accepts : (s : List ℕ) (c : Card) → Accepted false s c → Accepted true s c
accepts s c h =
    let n = seats_in h.shaped.shape in
    record {
      shaped = h.shaped;
      kept = of_card false true (Kept n) (Kept n) (λ j k. k) (λ w p k. (weight_looser w k.0, k.1)) h.shaped.shape h.kept;
      card = h.card;
    }

pub stricter : (s : List ℕ) (c : Card) → read_under false s ≡ taken c → read_under true s ≡ taken c
stricter s c e = (accepted true s c).1 (accepts s c ((accepted false s c).0 e))

-- ---- with decimals, and not without: nothing else is broken

abbrev Fine : ℕ → Judgement → Type 0
Fine n j = broken n j ≡ none

abbrev Only : ℕ → Judgement → Type 0
Only n j = (r : ℕ) → broken n j ≡ some r → r ≡ decimal_weight

none≢some : {A : Type 0} {r : ℕ} → none ≡ some r → A
none≢some e = let z : ◌≡◌ {A = ℕ} 0 1 = cc in absurd (omega arith)

fine≢wrong : {A : Type 0} {r : ℕ} {p : Place} → fine ≡ wrong r p → A
fine≢wrong e = let z : ◌≡◌ {A = ℕ} 0 1 = cc in absurd (omega arith)

taken≢refused : {A : Type 0} {c : Card} {r p : ℕ} → taken c ≡ refused r p → A
taken≢refused e = let z : ◌≡◌ {A = ℕ} 0 1 = cc in absurd (omega arith)

only_weights : (n : ℕ) (w : Weight) (p : Place) → Fine n (weight true w p) → Only n (weight false w p)
only_weights n (whole v) p h r e = none≢some (sym h ∙ e)
only_weights n (decimal v m f) p h r e = let z : decimal_weight ≡ r = cc in sym z
only_weights n (ratio a b) p h r e = none≢some (sym h ∙ e)

fine_first : (n : ℕ) (js : List Judgement) → first_broken n js ≡ fine → Every (Fine n) js
fine_first n [] e = tt
fine_first n (j ∷ js) e = go (broken n j) refl (λ f. fine_first n js f) e
  where
    go : (o : Option ℕ) → broken n j ≡ o → (first_broken n js ≡ fine → Every (Fine n) js) → or_else o (place_in j) (first_broken n js) ≡ fine → Every (Fine n) (j ∷ js)
    go none k rest f = (k, rest f)
    go (some r) k rest f = fine≢wrong (sym f)

only_first : (n : ℕ) (js : List Judgement) (r : ℕ) (p : Place) → Every (Only n) js → first_broken n js ≡ wrong r p → r ≡ decimal_weight
only_first n [] r p h e = fine≢wrong e
only_first n (j ∷ js) r p h e = go (broken n j) refl (λ f. only_first n js r p h.1 f) e
  where
    go : (o : Option ℕ) → broken n j ≡ o → (first_broken n js ≡ wrong r p → r ≡ decimal_weight) → or_else o (place_in j) (first_broken n js) ≡ wrong r p → r ≡ decimal_weight
    go none k rest f = rest f
    go (some q) k rest f = let z : q ≡ r = cc in sym z ∙ h.0 q k

module _ (e : ℕ) {c : Card} {r p : ℕ} where
  judged_only : (x : CardShape) → judged e (card_in x) (first_broken (seats_in x) (judged_card true x)) ≡ taken c → judged e (card_in x) (first_broken (seats_in x) (judged_card false x)) ≡ refused r p
      → r ≡ decimal_weight
  judged_only x h k = go (first_broken n (judged_card true x)) refl (first_broken n (judged_card false x)) refl h k
    where
      n : ℕ
      n = seats_in x

      go : (v : Verdict) → first_broken n (judged_card true x) ≡ v → (u : Verdict) → first_broken n (judged_card false x) ≡ u
          → judged e (card_in x) v ≡ taken c → judged e (card_in x) u ≡ refused r p → r ≡ decimal_weight
      go fine f fine g h k = taken≢refused k
      go fine f (wrong q o) g h k =
          let all = of_card true false (Fine n) (Only n) (λ j d t i. none≢some (sym d ∙ i)) (only_weights n) x (fine_first n (judged_card true x) f) in
          let z : q ≡ r = cc in
          sym z ∙ only_first n (judged_card false x) q o all g
      go (wrong q o) f u g h k = taken≢refused (sym h)

  shaped_only : (x : Result CardShape) → shaped true e x ≡ taken c → shaped false e x ≡ refused r p → r ≡ decimal_weight
  shaped_only (ok x s) h k = judged_only x h k
  shaped_only (stop q o) h k = taken≢refused (sym h)

  marked_only : (ms : List Placed) (o : Option ℕ) → marked true e ms o ≡ taken c → marked false e ms o ≡ refused r p → r ≡ decimal_weight
  marked_only ms none h k = shaped_only (card (at ms 0)) h k
  marked_only ms (some q) h k = taken≢refused (sym h)

pub decimal_only : (s : List ℕ) (c : Card) (r p : ℕ) → read_under true s ≡ taken c → read_under false s ≡ refused r p → r ≡ decimal_weight
unfolding read_under
decimal_only s c r p h k = go (leb (length s) card_bytes) h k
  where
    go : (b : Bool) → when b then marked true (length s) (marks_of s) (first_outside (marks_of s)) else refused too_long 0 ≡ taken c
        → when b then marked false (length s) (marks_of s) (first_outside (marks_of s)) else refused too_long 0 ≡ refused r p → r ≡ decimal_weight
    go true h k = marked_only (length s) (marks_of s) (first_outside (marks_of s)) h k
    go false h k = taken≢refused (sym h)
