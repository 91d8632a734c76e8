-- The kind of a word, by the first keyword that it begins with: a later one with the same first letter is no longer, so a word that goes on
-- behind a keyword is no other.
use Prim.Native.Nat.{ℕ, suc, ◌+◌, ◌<◌}
use mathlib.Core.Path.{◌≡◌, refl, sym, ap, ◌∙◌}
use mathlib.Core.Bool.{Bool, true, false, not, ◌&&◌, ◌||◌}
use mathlib.Core.List.{List, [], ◌∷◌}
use native.Mathlib.Omega.{arith}
use borrow.Author.Tests.{eqb-true, eq-eqb, leb-true}
use lib.Dec.{eqb, leb}
use lib.ListN.{length, get_or, drop}
use lib.Seq.{drop-drop}
use Rattle.card.specs.Text.{same}
use Rattle.marks_on_a_card.specs.Bytes.{is_letter, in_word, run, begins, every, begun}
use Rattle.marks_on_a_card.specs.Kinds.{Known, knowns, kind_in, k_word}
use Rattle.std.specs.Prelude.{Option, Some, None}
use Rattle.words_and_digits.specs.Begun.{lettered, begun_in}
use Rattle.words_and_digits.specs.declared.Keyword.{Keyword}
use Rattle.marks_on_a_card.proofs.Lists.{cases, not_both, and_left, and_right}
use Rattle.marks_on_a_card.proofs.Runs.{eqb_sym, run_on, run_empty, run_begun, same_begun}
use Rattle.marks_on_a_card.proofs.StartLaws.{letter_in_word}

same_length : (w t : List ℕ) → same w t ≡ true → length w ≡ length t
same_length [] [] e = refl
same_length [] (b ∷ t) e = not_both false e refl
same_length (a ∷ w) [] e = not_both false e refl
same_length (a ∷ w) (b ∷ t) e = ap suc (same_length w t (and_right (eqb a b) (same w t) e))

same_begins : (p : ℕ → Bool) (w t : List ℕ) → same w t ≡ true → begins p w ≡ begins p t
same_begins p [] [] e = refl
same_begins p [] (b ∷ t) e = not_both false e refl
same_begins p (a ∷ w) [] e = not_both false e refl
same_begins p (a ∷ w) (b ∷ t) e = ap p (eqb-true a b (and_left (eqb a b) (same w t) e))

-- of a word only the keywords are in question
pub kind_lettered : (xs : List Known) (w : List ℕ) → begins is_letter w ≡ true → kind_in xs w ≡ kind_in (lettered xs) w
kind_lettered [] w l = refl
kind_lettered (x ∷ xs) w l = cases (same w x.spelt)
    (λ e.
    let b : begins is_letter x.spelt ≡ true = sym (same_begins is_letter w x.spelt e) ∙ l in
    rw (e, b, e))
    (λ e. rw e (cases (begins is_letter x.spelt) (λ c. rw (c, e) (kind_lettered xs w l)) (λ c. rw c (kind_lettered xs w l))))

run_some : (p : ℕ → Bool) (s : List ℕ) → begins p s ≡ true → 0 < length (run p s)
run_some p [] e = not_both false e refl
run_some p (b ∷ s) e = rw e (omega arith)

-- a run that is t begins with it
same_begun_by : (p : ℕ → Bool) (t s : List ℕ) → same (run p s) t ≡ true → begun t s ≡ true
same_begun_by p [] s e = refl
same_begun_by p (a ∷ t) [] e = not_both false e refl
same_begun_by p (a ∷ t) (b ∷ s) e = cases (p b)
    (λ w.
    let f : (eqb b a && same (run p s) t) ≡ true = rw w at e in
    rw (eqb_sym a b, and_left (eqb b a) (same (run p s) t) f) (same_begun_by p t s (and_right (eqb b a) (same (run p s) t) f)))
    (λ w. not_both false (rw w at e) refl)

first_begun : (t s : List ℕ) → 0 < length t → begun t s ≡ true → get_or t 0 0 ≡ get_or s 0 0
first_begun [] s h e = absurd (omega arith)
first_begun (a ∷ t) [] h e = not_both false e refl
first_begun (a ∷ t) (b ∷ s) h e = cases (eqb a b) (λ f. eqb-true a b f) (λ f. not_both false (rw f at e) refl)

-- keywords that are words, and of which those with the same first letter stand from the longest on
abbrev other : List ℕ → List ℕ → Bool
other t u = not (eqb (get_or t 0 0) (get_or u 0 0)) || leb (length u) (length t)

abbrev apart : List ℕ → List Known → Bool
apart t [] = true
apart t (y ∷ ys) = other t y.spelt && apart t ys

abbrev fit : List Known → Bool
fit [] = true
fit (x ∷ xs) = (leb 1 (length x.spelt) && every in_word x.spelt) && (apart x.spelt xs && fit xs)

pub record Fit (x : Known) (xs : List Known) : Type 0 where
  pub some_byte : 0 < length x.spelt
  pub a_word : every in_word x.spelt ≡ true
  pub no_others : apart x.spelt xs ≡ true
  pub others : fit xs ≡ true

fits : (x : Known) (xs : List Known) → fit (x ∷ xs) ≡ true → Fit x xs
fits x xs f =
    let p = and_left (leb 1 (length x.spelt) && every in_word x.spelt) (apart x.spelt xs && fit xs) f in
    let q = and_right (leb 1 (length x.spelt) && every in_word x.spelt) (apart x.spelt xs && fit xs) f in
    record {
      some_byte = leb-true 1 (length x.spelt) (and_left (leb 1 (length x.spelt)) (every in_word x.spelt) p);
      a_word = and_right (leb 1 (length x.spelt)) (every in_word x.spelt) p;
      no_others = and_left (apart x.spelt xs) (fit xs) q;
      others = and_right (apart x.spelt xs) (fit xs) q;
    }

module _ (s : List ℕ) where
  -- the word at the front, which begins with t: longer than t, or t
  module _ (t : List ℕ) (i : every in_word t ≡ true) (e : begun t s ≡ true) where
    more_bytes : begins in_word (drop (length t) s) ≡ true → length t < length (run in_word s)
    more_bytes b = omega (arith, run_begun in_word t s i e, run_some in_word (drop (length t) s) b)

    longer : begins in_word (drop (length t) s) ≡ true → same (run in_word s) t ≡ false
    longer b = cases (same (run in_word s) t) (λ q. absurd (omega (arith, same_length (run in_word s) t q, more_bytes b))) (λ q. q)

    ended : begins in_word (drop (length t) s) ≡ false → length (run in_word s) ≡ length t
    ended b =
        let z : length (run in_word (drop (length t) s)) ≡ 0 = ap length (run_empty in_word (drop (length t) s) b) in
        omega (arith, run_begun in_word t s i e, z)

  unbegun : (t : List ℕ) → begun t s ≡ false → same (run in_word s) t ≡ false
  unbegun t g = cases (same (run in_word s) t) (λ y. not_both (begun t s) (same_begun_by in_word t s y) g) (λ y. y)

  -- a word longer than t, with its first letter
  none_apart : (t : List ℕ) (xs : List Known) → get_or t 0 0 ≡ get_or s 0 0 → length t < length (run in_word s) → apart t xs ≡ true → fit xs ≡ true
      → kind_in xs (run in_word s) ≡ k_word
  none_apart t [] q l p f = refl
  none_apart t (y ∷ ys) q l p f =
      let o = fits y ys f in
      cases (same (run in_word s) y.spelt)
      (λ e.
      let z : get_or y.spelt 0 0 ≡ get_or s 0 0 = first_begun y.spelt s o.some_byte (same_begun_by in_word y.spelt s e) in
      let u : not (eqb (get_or t 0 0) (get_or y.spelt 0 0)) ≡ false = ap not (eq-eqb (get_or t 0 0) (get_or y.spelt 0 0) (q ∙ sym z)) in
      let v : leb (length y.spelt) (length t) ≡ true = rw u at (and_left (other t y.spelt) (apart t ys) p) in
      absurd (omega (arith, leb-true (length y.spelt) (length t) v, same_length (run in_word s) y.spelt e)))
      (λ e. rw e (none_apart t ys q l (and_right (other t y.spelt) (apart t ys) p) o.others))

  taken : (x : Known) (xs : List Known) → begun x.spelt s ≡ true → begun_in (x ∷ xs) s ≡ Some (record { kind = x.kind; size = length x.spelt })
  taken x xs g = rw g

  passed : (x : Known) (xs : List Known) → begun x.spelt s ≡ false → begun_in (x ∷ xs) s ≡ begun_in xs s
  passed x xs g = rw g

  -- the keyword that was taken
  same_keyword : (x : Known) (k : Keyword) → Some k ≡ Some (record { kind = x.kind; size = length x.spelt }) → (k.kind ≡ x.kind) × (k.size ≡ length x.spelt)
  same_keyword x k e =
      let same : k ≡ record { kind = x.kind; size = length x.spelt } = cc in
      (ap (λ (y : Keyword). y.kind) same, ap (λ (y : Keyword). y.size) same)

  no_keyword : {C : Type 0} (k : Keyword) → Some k ≡ None → C
  no_keyword k e = absurd (cc)

  kind_ended : (xs : List Known) → fit xs ≡ true → (k : Keyword) → Some k ≡ begun_in xs s → begins in_word (drop k.size s) ≡ false
      → (kind_in xs (run in_word s) ≡ k.kind) × (length (run in_word s) ≡ k.size)
  kind_ended [] f k e b = no_keyword k e
  kind_ended (x ∷ xs) f k e b =
      let o = fits x xs f in
      cases (begun x.spelt s)
      (λ g.
      let z = same_keyword x k (e ∙ taken x xs g) in
      let m : length (run in_word s) ≡ length x.spelt = ended x.spelt o.a_word g (ap (λ (n : ℕ). begins in_word (drop n s)) (sym z.1) ∙ b) in
      (rw (same_begun in_word x.spelt s m, g) (sym z.0), m ∙ sym z.1))
      (λ g.
      let r = kind_ended xs o.others k (e ∙ passed x xs g) b in
      (rw (unbegun x.spelt g) r.0, r.1))

  kind_longer : (xs : List Known) → fit xs ≡ true → (k : Keyword) → Some k ≡ begun_in xs s → begins in_word (drop k.size s) ≡ true
      → kind_in xs (run in_word s) ≡ k_word
  kind_longer [] f k e b = no_keyword k e
  kind_longer (x ∷ xs) f k e b =
      let o = fits x xs f in
      cases (begun x.spelt s)
      (λ g.
      let z = same_keyword x k (e ∙ taken x xs g) in
      let more : begins in_word (drop (length x.spelt) s) ≡ true = ap (λ (n : ℕ). begins in_word (drop n s)) (sym z.1) ∙ b in
      rw (longer x.spelt o.a_word g more) (none_apart x.spelt xs (first_begun x.spelt s o.some_byte g) (more_bytes x.spelt o.a_word g more) o.no_others o.others))
      (λ g. rw (unbegun x.spelt g) (kind_longer xs o.others k (e ∙ passed x xs g) b))

  kind_none : (xs : List Known) → None ≡ begun_in xs s → kind_in xs (run in_word s) ≡ k_word
  kind_none [] e = refl
  kind_none (x ∷ xs) e = cases (begun x.spelt s)
      (λ g. no_keyword (record { kind = x.kind; size = length x.spelt }) (sym (e ∙ taken x xs g)))
      (λ g. rw (unbegun x.spelt g) (kind_none xs (e ∙ passed x xs g)))

module _ (s : List ℕ) (i : ℕ) (h : i < length s) where
  module _ (l : is_letter (get_or s i 0) ≡ true) where
    letters : begins is_letter (run in_word (drop i s)) ≡ true
    letters = rw (run_on in_word s i h (letter_in_word (get_or s i 0) l)) l

    pub keyword_none : (o : Option Keyword) → o ≡ begun_in (lettered knowns) (drop i s) → ((k : Keyword) → o ≡ Some k → ⊥) → kind_in knowns (run in_word (drop i s)) ≡ k_word
    keyword_none None e other = kind_lettered knowns (run in_word (drop i s)) letters ∙ kind_none (drop i s) (lettered knowns) e
    keyword_none (Some k) e other = absurd (other k refl)

    module _ (k : Keyword) (e : Some k ≡ begun_in (lettered knowns) (drop i s)) where
      pub keyword_is : begins in_word (drop (i + k.size) s) ≡ false → (kind_in knowns (run in_word (drop i s)) ≡ k.kind) × (length (run in_word (drop i s)) ≡ k.size)
      keyword_is b =
          let r = kind_ended (drop i s) (lettered knowns) refl k e (ap (begins in_word) (drop-drop k.size i s) ∙ b) in
          (kind_lettered knowns (run in_word (drop i s)) letters ∙ r.0, r.1)

      pub keyword_longer : begins in_word (drop (i + k.size) s) ≡ true → kind_in knowns (run in_word (drop i s)) ≡ k_word
      keyword_longer b = kind_lettered knowns (run in_word (drop i s)) letters ∙ kind_longer (drop i s) (lettered knowns) refl k e (ap (begins in_word) (drop-drop k.size i s) ∙ b)
