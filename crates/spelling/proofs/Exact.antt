-- The marks of a card are exactly those that its bytes have by the rules. There: along the bytes, from what the scan finds at each
-- (proofs/Starts.antt). Back: blanks and comments are passed over, and of two marks at one place neither is longer, so they are one.
use Prim.Native.Nat.{ℕ, zero, suc, ◌+◌, ◌-◌, ◌≤◌, ◌<◌}
use mathlib.Core.Path.{◌≡◌, refl, sym, ap, ap₂, ◌∙◌, subst}
use mathlib.Core.Bool.{true, false}
use mathlib.Core.List.{List, [], ◌∷◌, ◌++◌, append_assoc, append-nil}
use native.Mathlib.Nat.{zero-add}
use native.Mathlib.Omega.{arith}
use borrow.Author.Tests.{eq-eqb}
use lib.ListN.{length, drop, length-append, length-drop}
use lib.Seq.{drop-append_seam}
use Rattle.marks_on_a_card.specs.Bytes.{not_lf, begins, every}
use Rattle.marks_on_a_card.specs.Marks.{Mark, text, seat, process, number, decimal, outside, Placed, placed, Start, blank, mark, start_at, emit, marks, marks_of}
use Rattle.marks_on_a_card.proofs.StartLaws.{marks_skip}
use Rattle.spelling.specs.Spells.{Spells}
use Rattle.spelling.specs.Marked.{LineOver, Between, nothing, blank as a_blank, comment as a_comment, Longest, Stands, taken, Marked, over, next}
use Rattle.spelling.proofs.Lists.{run_front, same_front}
use Rattle.spelling.proofs.Forms.{form, form_some}
use Rattle.spelling.proofs.Starts.{Skipped, Right, start_right}
use Rattle.spelling.proofs.Once.{spells_once}

-- ---- there

-- a blank or a comment in front of what has these marks
widen : (s : List ℕ) (more : ℕ) (k : Skipped s more) (a : ℕ) (ms : List Placed) → Marked (a + length k.front) k.rest ms → Marked a (k.front ++ k.rest) ms
widen s more k a ms m = go k.rest ms refl m
  where
    go : (t : List ℕ) (ms : List Placed) → k.rest ≡ t → Marked (a + length k.front) t ms → Marked a (k.front ++ t) ms
    go t ms q (over b) = over (k.before t [] (q ∙ sym (append-nil t)) b)
    go t ms q (next {g = g} {w = w} {r = r} {m = m} e b st rest) =
        let n : a + length k.front + length g ≡ a + length (k.front ++ g) = omega (arith, length-append k.front g) in
        rw n (next (ap (λ (u : List ℕ). k.front ++ u) e ∙ sym (append_assoc k.front g (w ++ r))) (k.before g (w ++ r) (q ∙ e) b) st (rw n at rest))

-- what is left behind so many bytes
rest_is : (b : ℕ) (t front rest : List ℕ) (more : ℕ) → b ∷ t ≡ front ++ rest → length front ≡ suc more → drop more t ≡ rest
rest_is b t front rest more e h = ap (drop (suc more)) e ∙ ap (λ (n : ℕ). drop n (front ++ rest)) (sym h) ∙ drop-append_seam front rest

pub taken_fits : (w : List ℕ) (m : Mark) → Spells w m → taken m w ≤ length w
taken_fits w m x = go m (form_some w (form w m x))
  where
    go : (m : Mark) → 0 < length w → taken m w ≤ length w
    go (text s) h = omega arith
    go (seat i) h = omega arith
    go (process i) h = omega arith
    go (number v) h = omega arith
    go (decimal v n f) h = omega arith
    go outside h = h

-- the bytes s, from place a on, have the marks that the scan finds there
abbrev Agree : ℕ → List ℕ → Type 0
Agree a s = Marked a s (marks (a + length s) 0 s)

agree : (n : ℕ) → ((a : ℕ) (s : List ℕ) → length s ≤ n → Agree a s) → (a : ℕ) (s : List ℕ) → length s ≤ suc n → Agree a s
agree n on a [] h = over nothing
agree n on a (b ∷ t) h = go (start_at b t) (start_right b t)
  where
    go : (x : Start) → Right (b ∷ t) x → Marked a (b ∷ t) (emit (a + length (b ∷ t) - length (b ∷ t)) x (λ more. marks (a + length (b ∷ t)) more t))
    go (blank more) k =
        let end = a + length (b ∷ t) in
        let f = k.front in
        let r = k.rest in
        let whole : length (b ∷ t) ≡ length f + length r = ap length k.split ∙ length-append f r in
        let e : a + length f + length r ≡ end = omega arith in
        let found : marks (a + length f + length r) 0 r ≡ marks end more t = ap₂ (λ (i : ℕ) (s : List ℕ). marks i 0 s) e (sym (rest_is b t f r more k.split k.reach)) ∙ sym (marks_skip end more t) in
        subst (λ (ms : List Placed). Marked a (b ∷ t) ms) found
        (subst (λ (s : List ℕ). Marked a s (marks (a + length f + length r) 0 r)) (sym k.split)
        (widen (b ∷ t) more k a (marks (a + length f + length r) 0 r) (on (a + length f) r (omega (arith, k.reach)))))
    go (mark m more) f =
        let end = a + length (b ∷ t) in
        let w = f.spelt in
        let u = drop (taken m w) (w ++ f.rest) in
        let whole : length (b ∷ t) ≡ length w + length f.rest = ap length f.split ∙ length-append w f.rest in
        let left : length u ≡ length (b ∷ t) - taken m w = length-drop (taken m w) (w ++ f.rest) ∙ ap (λ (s : List ℕ). length s - taken m w) (sym f.split) in
        let fits : taken m w ≤ length w = taken_fits w m f.spells in
        let e : a + 0 + taken m w + length u ≡ end = omega arith in
        let rest : drop more t ≡ u = ap (drop (suc more)) f.split ∙ ap (λ (n : ℕ). drop n (w ++ f.rest)) f.reach in
        let found : marks (a + 0 + taken m w + length u) 0 u ≡ marks end more t = ap₂ (λ (i : ℕ) (s : List ℕ). marks i 0 s) e (sym rest) ∙ sym (marks_skip end more t) in
        let place : a + 0 ≡ end - length (b ∷ t) = omega arith in
        let stands : Stands w f.rest m = record {
          spells = f.spells;
          longest = subst (Longest w) f.split f.longest;
          no_comment = λ y q. f.no_comment y (f.split ∙ q);
        } in
        subst (λ (ms : List Placed). Marked a (b ∷ t) ms) (ap₂ (λ (p : ℕ) (ms : List Placed). placed m p ∷ ms) place found)
        (next {g = []} f.split nothing stands (on (a + 0 + taken m w) u (omega (arith, f.reach))))

there : (n a : ℕ) (s : List ℕ) → length s ≤ n → Agree a s
there zero a [] h = over nothing
there zero a (b ∷ t) h = absurd (omega arith)
there (suc n) a s h = agree n (there n) a s h

-- ---- back

line_done : (s : List ℕ) → LineOver s → begins not_lf s ≡ false
line_done [] q = refl
line_done (b ∷ s) q = rw (eq-eqb b 10 (omega arith))

pass_comment : (e : ℕ) (c s : List ℕ) → every not_lf c ≡ true → LineOver s → marks e 0 (47 ∷ 47 ∷ (c ++ s)) ≡ marks e 0 s
pass_comment e c s d o = rw (run_front not_lf c s d (line_done s o)) (marks_skip e (length c) (c ++ s) ∙ ap (marks e 0) (drop-append_seam c s))

pass : (e : ℕ) (g r : List ℕ) → Between g r → marks e 0 (g ++ r) ≡ marks e 0 r
pass e g r nothing = refl
pass e g r (a_blank {b = b} {g = t} k x) = rw k (pass e t r x)
pass e g r (a_comment c {g = t} d o x) = ap (λ (s : List ℕ). marks e 0 (47 ∷ 47 ∷ s)) (append_assoc c t r) ∙ pass_comment e c (t ++ r) d o ∙ pass e t r x

-- the mark that stands at the front is the one that the scan finds there, and it goes on behind the same bytes
module _ (b : ℕ) (t w r : List ℕ) (m : Mark) (e : b ∷ t ≡ w ++ r) (st : Stands w r m) where
  data One : Start → Type 0 where
    one : (more : ℕ) → suc more ≡ taken m w → One (mark m more)

  the_one : (x : Start) → Right (b ∷ t) x → One x
  the_one (blank more) k = absurd (k.no_mark w r m e st)
  the_one (mark n more) f =
      let short : length f.spelt ≤ length w = st.longest f.spelt f.rest n (sym e ∙ f.split) f.spells in
      let long : length w ≤ length f.spelt = f.longest w r m e st.spells in
      let w-is : f.spelt ≡ w = same_front f.spelt f.rest w r (sym f.split ∙ e) (omega arith) in
      let m-is : n ≡ m = spells_once w n m (subst (λ (s : List ℕ). Spells s n) w-is f.spells) st.spells in
      subst (λ (k : Mark). One (mark k more)) (sym m-is) (one more (f.reach ∙ ap₂ taken m-is w-is))

  scanned : (end : ℕ) (ms : List Placed) → marks end 0 (drop (taken m w) (b ∷ t)) ≡ ms → marks end 0 (b ∷ t) ≡ placed m (end - length (b ∷ t)) ∷ ms
  scanned end ms q = go (start_at b t) (the_one (start_at b t) (start_right b t))
    where
      go : (x : Start) → One x → emit (end - length (b ∷ t)) x (λ more. marks end more t) ≡ placed m (end - length (b ∷ t)) ∷ ms
      go x (one more k) = ap (λ (l : List Placed). placed m (end - length (b ∷ t)) ∷ l) (marks_skip end more t ∙ ap (λ (n : ℕ). marks end 0 (drop n (b ∷ t))) k ∙ q)

the_next : (x w r : List ℕ) (m : Mark) → x ≡ w ++ r → Stands w r m → (end : ℕ) (ms : List Placed) → marks end 0 (drop (taken m w) x) ≡ ms → marks end 0 x ≡ placed m (end - length x) ∷ ms
the_next [] w r m e st end ms q = absurd (omega (arith, ap length e ∙ length-append w r, form_some w (form w m st.spells)))
the_next (b ∷ t) w r m e st end ms q = scanned b t w r m e st end ms q

back : (a : ℕ) (s : List ℕ) (ms : List Placed) → Marked a s ms → marks (a + length s) 0 s ≡ ms
back a s ms (over {g = g} b) = ap (marks (a + length g) 0) (sym (append-nil g)) ∙ pass (a + length g) g [] b
back a s ms (next {g = g} {w = w} {r = r} {m = m} {ms = ns} e b st rest) =
    let end = a + length s in
    let u = drop (taken m w) (w ++ r) in
    let whole : length s ≡ length g + length (w ++ r) = ap length e ∙ length-append g (w ++ r) in
    let left : length u ≡ length (w ++ r) - taken m w = length-drop (taken m w) (w ++ r) in
    let fits : taken m w ≤ length w = taken_fits w m st.spells in
    let same_end : end ≡ a + length g + taken m w + length u = omega (arith, length-append w r) in
    let place : end - length (w ++ r) ≡ a + length g = omega arith in
    ap (marks end 0) e ∙ pass end g (w ++ r) b
    ∙ the_next (w ++ r) w r m refl st end ns (ap (λ (n : ℕ). marks n 0 u) same_end ∙ back (a + length g + taken m w) u ns rest)
    ∙ ap (λ (p : ℕ). placed m p ∷ ns) place

-- ---- the marks of a card

pub marked : (s : List ℕ) → Marked 0 s (marks_of s)
marked s = subst (λ (n : ℕ). Marked 0 s (marks n 0 s)) (zero-add (length s)) (there (length s) 0 s (omega arith))

pub marked_only : (s : List ℕ) (ms : List Placed) → Marked 0 s ms → marks_of s ≡ ms
marked_only s ms m = ap (λ (n : ℕ). marks n 0 s) (sym (zero-add (length s))) ∙ back 0 s ms m
