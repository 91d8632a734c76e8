-- A kind tells the mark. The table is searched once for all spellings of a kind; for each sign and keyword that search computes to
-- one spelling.
use Prim.Native.Nat.{ℕ, ◌≤◌, ◌<◌}
use Prim.Native.String.{String}
use mathlib.Core.Path.{◌≡◌, refl, sym, ap, ap₂, ◌∙◌, subst}
use mathlib.Core.Logic.{◌≢◌, ◌↔◌}
use mathlib.Core.Bool.{Bool, true, false, ◌&&◌, false≢true}
use mathlib.Core.List.Memᴰ
use mathlib.Core.List.{List, [], ◌∷◌, Memᴰ}
use native.Mathlib.Omega.{arith}
use borrow.Author.Tests.{eqb-true, eq-eqb, leb-true}
use lib.Dec.{eqb, leb}
use lib.ListN.{length}
use Rattle.card.specs.Text.{bytes, same, when◌then◌else◌}
use Rattle.marks_on_a_card.specs.Marks.{Mark, text, seat, process, number, decimal, outside}
use Rattle.marks_on_a_card.specs.Kinds.{k_end, k_outside, k_number, k_decimal, k_seat, k_process, k_word, Known, knowns, kind_in, kind, kind_of, value_of, digits_of, further_of}
use Rattle.marks_on_a_card.proofs.Lists.{and_left, and_right}

pub same_eq : (s t : List ℕ) → same s t ≡ true → s ≡ t
same_eq [] [] e = refl
same_eq [] (b ∷ t) e = absurd (false≢true e)
same_eq (a ∷ s) [] e = absurd (false≢true e)
same_eq (a ∷ s) (b ∷ t) e = ap₂ ◌∷◌ (eqb-true a b (and_left (eqb a b) (same s t) e)) (same_eq s t (and_right (eqb a b) (same s t) e))

-- all spellings of a kind
abbrev pub spellings : ℕ → List Known → List (List ℕ)
spellings v [] = []
spellings v (x ∷ xs) =
    let more = spellings v xs in
    when eqb x.kind v then x.spelt ∷ more else more

-- a text of that kind is one of them
among : (v : ℕ) (xs : List Known) (s : List ℕ) → v ≢ k_word → kind_in xs s ≡ v → Memᴰ s (spellings v xs)
among v [] s h e = absurd (h (sym e))
among v (x ∷ xs) s h e = go (same s x.spelt) refl e (among v xs s h)
  where
    later : (b : Bool) → Memᴰ s (spellings v xs) → Memᴰ s (when b then x.spelt ∷ spellings v xs else spellings v xs)
    later true m = Memᴰ.tail m
    later false m = m

    go : (b : Bool) → same s x.spelt ≡ b → (when b then x.kind else kind_in xs s) ≡ v → (kind_in xs s ≡ v → Memᴰ s (spellings v xs)) → Memᴰ s (spellings v (x ∷ xs))
    go true q e f = rw (eq-eqb x.kind v e) (Memᴰ.head (same_eq s x.spelt q))
    go false q e f = later (eqb x.kind v) (f e)

-- every kind of the table is above those of the classes
all_above : List Known → Bool
all_above [] = true
all_above (x ∷ xs) = leb k_word x.kind && all_above xs

above : (xs : List Known) (s : List ℕ) → all_above xs ≡ true → k_word ≤ kind_in xs s
unfolding all_above
above [] s e = omega arith
above (x ∷ xs) s e = go (same s x.spelt) (and_left (leb k_word x.kind) (all_above xs) e) (above xs s (and_right (leb k_word x.kind) (all_above xs) e))
  where
    go : (b : Bool) → leb k_word x.kind ≡ true → k_word ≤ kind_in xs s → k_word ≤ (when b then x.kind else kind_in xs s)
    go true p r = leb-true k_word x.kind p
    go false p r = r

text_above : (s : List ℕ) → k_word ≤ kind_in knowns s
unfolding all_above
text_above s = above knowns s refl

-- the sign or keyword of kind v: both conditions compute for each t of the table
pub kind_is : (t : String) (v : ℕ) → k_word < v → spellings v knowns ≡ bytes t ∷ [] → (m : Mark) → kind_of m ≡ v → m ≡ text (bytes t)
kind_is t v h one (text s) e = ap text (Memᴰ.eq_of_singleton (subst (λ (l : List (List ℕ)). Memᴰ s l) one (among v knowns s (λ z. omega arith) e)))
kind_is t v h one (seat i) e = absurd (omega arith)
kind_is t v h one (process i) e = absurd (omega arith)
kind_is t v h one (number w) e = absurd (omega arith)
kind_is t v h one (decimal w n f) e = absurd (omega arith)
kind_is t v h one outside e = absurd (omega arith)

-- ---- each kind of the table has one spelling, by one test of the table

one_per : List Known → List Known → Bool
one_per all [] = true
one_per all (x ∷ xs) = eqb (length (spellings x.kind all)) 1 && one_per all xs

one_per_law : (all xs : List Known) → one_per all xs ≡ true → (s : List ℕ) (v : ℕ) → v ≢ k_word → kind_in xs s ≡ v → length (spellings v all) ≡ 1
unfolding one_per
one_per_law all [] e s v h q = absurd (h (sym q))
one_per_law all (x ∷ xs) e s v h q =
    let one = eqb (length (spellings x.kind all)) 1 in
    go (same s x.spelt) (and_left one (one_per all xs) e) (one_per_law all xs (and_right one (one_per all xs) e) s v h) q
  where
    go : (b : Bool) → eqb (length (spellings x.kind all)) 1 ≡ true → (kind_in xs s ≡ v → length (spellings v all) ≡ 1) → (when b then x.kind else kind_in xs s) ≡ v → length (spellings v all) ≡ 1
    go true p f q = rw (← q) (eqb-true (length (spellings x.kind all)) 1 p)
    go false p f q = f q

only : (l : List (List ℕ)) (s t : List ℕ) → length l ≡ 1 → Memᴰ s l → Memᴰ t l → s ≡ t
only [] s t h a b = absurd (omega arith)
only (x ∷ []) s t h a b = Memᴰ.eq_of_singleton a ∙ sym (Memᴰ.eq_of_singleton b)
only (x ∷ y ∷ l) s t h a b = absurd (omega arith)

-- a sign or keyword is told by its kind
pub kind_tells : (t : String) → k_word < kind t → (m : Mark) → (kind_of m ≡ kind t) ↔ (m ≡ text (bytes t))
unfolding one_per
kind_tells t h m = (told m, λ e. ap kind_of e)
  where
    told : (m : Mark) → kind_of m ≡ kind t → m ≡ text (bytes t)
    told (text s) e =
        let no : kind t ≢ k_word = λ z. omega arith in
        ap text (only (spellings (kind t) knowns) s (bytes t) (one_per_law knowns knowns refl (bytes t) (kind t) no refl) (among (kind t) knowns s no e) (among (kind t) knowns (bytes t) no refl))
    told (seat i) e = absurd (omega arith)
    told (process i) e = absurd (omega arith)
    told (number w) e = absurd (omega arith)
    told (decimal w n f) e = absurd (omega arith)
    told outside e = absurd (omega arith)

-- the classes
pub kind_seat : (m : Mark) → kind_of m ≡ k_seat → m ≡ seat (value_of m)
kind_seat (text s) e = absurd (omega (arith, text_above s))
kind_seat (seat i) e = refl
kind_seat (process i) e = absurd (omega arith)
kind_seat (number v) e = absurd (omega arith)
kind_seat (decimal v n f) e = absurd (omega arith)
kind_seat outside e = absurd (omega arith)

pub kind_process : (m : Mark) → kind_of m ≡ k_process → m ≡ process (value_of m)
kind_process (text s) e = absurd (omega (arith, text_above s))
kind_process (seat i) e = absurd (omega arith)
kind_process (process i) e = refl
kind_process (number v) e = absurd (omega arith)
kind_process (decimal v n f) e = absurd (omega arith)
kind_process outside e = absurd (omega arith)

pub kind_number : (m : Mark) → kind_of m ≡ k_number → m ≡ number (value_of m)
kind_number (text s) e = absurd (omega (arith, text_above s))
kind_number (seat i) e = absurd (omega arith)
kind_number (process i) e = absurd (omega arith)
kind_number (number v) e = refl
kind_number (decimal v n f) e = absurd (omega arith)
kind_number outside e = absurd (omega arith)

pub kind_decimal : (m : Mark) → kind_of m ≡ k_decimal → m ≡ decimal (value_of m) (digits_of m) (further_of m)
kind_decimal (text s) e = absurd (omega (arith, text_above s))
kind_decimal (seat i) e = absurd (omega arith)
kind_decimal (process i) e = absurd (omega arith)
kind_decimal (number v) e = absurd (omega arith)
kind_decimal (decimal v n f) e = refl
kind_decimal outside e = absurd (omega arith)

pub kind_outside : (m : Mark) → kind_of m ≡ k_outside → m ≡ outside
kind_outside (text s) e = absurd (omega (arith, text_above s))
kind_outside (seat i) e = absurd (omega arith)
kind_outside (process i) e = absurd (omega arith)
kind_outside (number v) e = absurd (omega arith)
kind_outside (decimal v n f) e = absurd (omega arith)
kind_outside outside e = refl

pub kind_some : (m : Mark) → kind_of m ≢ k_end
kind_some (text s) e = omega (arith, text_above s)
kind_some (seat i) e = omega arith
kind_some (process i) e = omega arith
kind_some (number v) e = omega arith
kind_some (decimal v n f) e = omega arith
kind_some outside e = omega arith
