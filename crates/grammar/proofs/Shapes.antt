-- What the reader of the shape does on marks, in terms of the grammar: where it comes to its end the marks have the shape within the limits;
-- where it stops, the marks before can be completed, and the mark there cannot go on or is the first past a limit. A reader is steady,
-- so what it does on one completion it does on all. Assumes nothing.
use Prim.Native.Nat.{ℕ, zero}
use mathlib.Core.Path.{◌≡◌, refl, sym, ap, ◌∙◌, subst}
use mathlib.Core.Logic.{◌⊎◌, inl, inr}
use mathlib.Core.Bool.{true}
use mathlib.Core.List.{List, [], ◌∷◌, ◌++◌, append_assoc, append_cancel_right, append-nil, nil≢cons, head-eq_of_cons-eq, tail-eq_of_cons-eq, head?}
use native.Mathlib.Omega.{arith}
use Rattle.card.specs.Refusals.{out_of_shape, past_limit}
use Rattle.card.specs.Valid.{Every}
use Rattle.marks_on_a_card.specs.Marks.{Placed, placed}
use Rattle.reading.specs.Reader.{Place, State, at, Result, ok, stop, Reader, next_is}
use Rattle.grammar.specs.Counted.{Counted, Within, Past, FirstPast}
use Rattle.grammar.specs.Verdicts.{CompletableIn, HopelessIn, UnfitIn, PastIn}
use Rattle.reading.proofs.Through.{stop≢ok, ok_value}
use Rattle.reading.proofs.Rising.{Order, equal, before, behind, order}
use Rattle.grammar.proofs.Follows.{Ran, came, fell, Came, Anyway}
use Rattle.grammar.proofs.Steady.{Alike, ok≢stop, stop_number, stop_place}
use Rattle.grammar.proofs.Exact.{CauseIn, unfits, exceeds, HaltedIn}

-- ---- first past its limit

past_not_within : (cs : List Counted) (q : Place) → FirstPast cs q → Every Within cs → ⊥
past_not_within cs q f w = go f.before (rw f.split at w)
  where
    go : (xs : List Counted) → Every Within (xs ++ (f.first ∷ f.after)) → ⊥
    go [] w = omega (arith, w.0, f.past)
    go (x ∷ xs) w = go xs w.1

within_or_past : {B : Type 0} (c : Counted) → Within c → Past c → B
within_or_past c w p = absurd (omega arith)

one_first : (xs ys : List Counted) (x y : Counted) (u t : List Counted) → xs ++ (x ∷ u) ≡ ys ++ (y ∷ t) → Every Within xs → Every Within ys → Past x → Past y → x ≡ y
one_first [] [] x y u t e v w p q = head-eq_of_cons-eq e
one_first [] (z ∷ ys) x y u t e v w p q = let i : x ≡ z = head-eq_of_cons-eq e in within_or_past z w.0 (rw i at p)
one_first (z ∷ xs) [] x y u t e v w p q = let i : y ≡ z = sym (head-eq_of_cons-eq e) in within_or_past z v.0 (rw i at q)
one_first (z ∷ xs) (o ∷ ys) x y u t e v w p q = one_first xs ys x y u t (tail-eq_of_cons-eq e) v.1 w.1 p q

past_place : (cs : List Counted) (p q : Place) → FirstPast cs p → FirstPast cs q → p ≡ q
past_place cs p q f g =
    let e = one_first f.before g.before f.first g.first f.after g.after (sym f.split ∙ g.split) f.within g.within f.past g.past in
    sym f.place ∙ ap (λ (c : Counted). c.place) e ∙ g.place

-- whether a sign stands first hangs on no mark behind it
opens_alike : (m : Placed) (x y : Place) → next_is "(" (m ∷ x) ≡ true → next_is "(" (m ∷ y) ≡ true
opens_alike (placed k p) x y e = e

-- ---- over a language, what is looked for behind the brackets of some marks, its reader, and what its limits count

module _ {C Look : Type 0} (look : Place → Place → Look) (read : Reader C) (Said : Place → C → Type 0) (counts : (ms : Place) (c : C) → Said ms c → List Counted)
    (runs : (ms : Place) (c : C) (d : Said ms c) → Ran (counts ms c d) (Came Anyway c []) (read (at ms zero)))
    (passes : (ms : Place) (c : C) (s : State) → read (at ms zero) ≡ ok c s → (d : C) × Said ms d)
    (stops : (ms : Place) (n : ℕ) (r : Place) → read (at ms zero) ≡ stop n r → HaltedIn (look ms) Said read ms zero n r)
    (alike : (pre : Place) (m : Placed) (x y : Place) → read (at (pre ++ (m ∷ y)) zero) ≡ stop past_limit (m ∷ y) → look (pre ++ (m ∷ x)) ≡ look (pre ++ (m ∷ y))) where
  -- ---- on marks of a card's shape

  module _ {ms : Place} {c : C} (d : Said ms c) where
    -- reading never says 3
    shape_fits : (r : Place) → read (at ms zero) ≡ stop out_of_shape r → ⊥
    shape_fits r e = go (runs ms c d)
      where
        go : Ran (counts ms c d) (λ x. (n : ℕ) × (x ≡ ok c (at [] n)) × Anyway n) (read (at ms zero)) → ⊥
        go (came w (n, e₁, _)) = ok≢stop (sym e₁ ∙ e)
        go (fell q f e₁) = let z : past_limit ≡ out_of_shape = stop_number {A = C} (sym e₁ ∙ e) in omega arith

    -- it says 4 at the first past its limit
    shape_past : (q : Place) → FirstPast (counts ms c d) q → read (at ms zero) ≡ stop past_limit q
    shape_past q f = go (runs ms c d)
      where
        go : Ran (counts ms c d) (λ x. (n : ℕ) × (x ≡ ok c (at [] n)) × Anyway n) (read (at ms zero)) → read (at ms zero) ≡ stop past_limit q
        go (came w (n, e₁, _)) = absurd (past_not_within (counts ms c d) q f w)
        go (fell p g e₁) = e₁ ∙ ap (stop past_limit) (past_place (counts ms c d) p q g f)

    shape_stopped : (q : Place) → read (at ms zero) ≡ stop past_limit q → FirstPast (counts ms c d) q
    shape_stopped q e = go (runs ms c d)
      where
        go : Ran (counts ms c d) (λ x. (n : ℕ) × (x ≡ ok c (at [] n)) × Anyway n) (read (at ms zero)) → FirstPast (counts ms c d) q
        go (came w (n, e₁, _)) = ok≢stop (sym e₁ ∙ e)
        go (fell p g e₁) = let z : p ≡ q = stop_place {A = C} (sym e₁ ∙ e) in rw z at g

    -- and else it reads the card
    pub shape_read : Every Within (counts ms c d) → (n : ℕ) × (read (at ms zero) ≡ ok c (at [] n))
    shape_read w = go (runs ms c d)
      where
        go : Ran (counts ms c d) (λ x. (n : ℕ) × (x ≡ ok c (at [] n)) × Anyway n) (read (at ms zero)) → (n : ℕ) × (read (at ms zero) ≡ ok c (at [] n))
        go (came w (n, e₁, _)) = (n, e₁)
        go (fell q f e₁) = absurd (past_not_within (counts ms c d) q f w)

    shape_within : (b : C) (s : State) → read (at ms zero) ≡ ok b s → (c ≡ b) × Every Within (counts ms c d)
    shape_within b s e = go (runs ms c d)
      where
        go : Ran (counts ms c d) (λ x. (n : ℕ) × (x ≡ ok c (at [] n)) × Anyway n) (read (at ms zero)) → (c ≡ b) × Every Within (counts ms c d)
        go (came w (n, e₁, _)) = (ok_value (sym e₁ ∙ e), w)
        go (fell q f e₁) = stop≢ok (sym e₁ ∙ e)

  -- ---- read to the end

  abbrev pub ShapeWithin : Place → C → Type 0
  ShapeWithin ms c = (d : Said ms c) × Every Within (counts ms c d)

  pub read_shape : (ms : Place) (c : C) (s : State) → read (at ms zero) ≡ ok c s → ShapeWithin ms c
  read_shape ms c s e =
      let (b, d) = passes ms c s e in
      let (z, w) = shape_within d c s e in
      subst (ShapeWithin ms) z (d, w)

  -- ---- stopped by a limit

  pub stopped_past : (ms r : Place) → read (at ms zero) ≡ stop past_limit r → PastIn Said counts (look ms) ms r
  stopped_past ms r e = go (stops ms past_limit r e)
    where
      go : HaltedIn (look ms) Said read ms zero past_limit r → PastIn Said counts (look ms) ms r
      go h = because h.cause
        where
          because : CauseIn (look ms) Said h.pre past_limit r → PastIn Said counts (look ms) ms r
          because (unfits z k) = absurd (omega arith)
          because (exceeds z m x post q b c d) = record {
            before = h.pre;
            mark = m;
            after = x;
            split = h.split ∙ ap (λ y. h.pre ++ y) q;
            place = q;
            other = post;
            starts = b;
            shape = c;
            said = d;
            past = shape_stopped d (m ∷ post) (h.same (m ∷ post) (ap head? q, λ _. rw q b));
          }

  pub past_stopped : (ms r : Place) → PastIn Said counts (look ms) ms r → read (at ms zero) ≡ stop past_limit r
  past_stopped ms r p =
      let e = shape_past p.said (p.mark ∷ p.other) p.past in
      let h = stops (p.before ++ (p.mark ∷ p.other)) past_limit (p.mark ∷ p.other) e in
      let z : h.pre ≡ p.before = append_cancel_right h.pre p.before (p.mark ∷ p.other) (sym h.split) in
      let f : look ms ≡ look (p.before ++ (p.mark ∷ p.other)) = ap look p.split ∙ alike p.before p.mark p.after p.other e in
      rw (p.split, p.place) (rw z at (h.same (p.mark ∷ p.after) (refl, λ _ y. sym (subst (λ (g : Place → Look). g p.after ≡ g p.other) f (p.starts (opens_alike p.mark p.other p.after y))))))

  -- ---- stopped by a mark that does not fit

  pub stopped_unfit : (ms r : Place) → read (at ms zero) ≡ stop out_of_shape r → UnfitIn Said ms r
  stopped_unfit ms r e = go (stops ms out_of_shape r e)
    where
      no_limit : {C : Type 0} → out_of_shape ≡ past_limit → C
      no_limit z = absurd (omega arith)

      hopeless : (pre : Place) (r : Place) → ms ≡ pre ++ r → read (at ms zero) ≡ stop out_of_shape r
          → ((y : Place) → Alike (look ms) out_of_shape r y → read (at (pre ++ y) zero) ≡ stop out_of_shape y) → HopelessIn Said pre r
      hopeless pre [] q e f = λ c d. shape_fits d [] (rw (q, append-nil pre) at e)
      hopeless pre (m ∷ x) q e f = λ (post, c, d). shape_fits (rw (append_assoc pre (m ∷ []) post) at d) (m ∷ post) (f (m ∷ post) (refl, no_limit))

      go : HaltedIn (look ms) Said read ms zero out_of_shape r → UnfitIn Said ms r
      go h = record { before = h.pre; split = h.split; possible = because h.cause; impossible = hopeless h.pre r h.split e h.same }
        where
          because : CauseIn (look ms) Said h.pre out_of_shape r → CompletableIn Said h.pre
          because (unfits z k) = k
          because (exceeds z m x post q b c d) = absurd (omega arith)

  -- ---- one of the three

  -- more marks can be completed only if fewer can
  pub completable_less : (pre : Place) (m : Placed) (w : Place) → CompletableIn Said (pre ++ (m ∷ w)) → CompletableIn Said (pre ++ (m ∷ []))
  completable_less pre m w (post, c, d) = (w ++ post, c, rw (append_assoc pre (m ∷ []) (w ++ post)) (rw (append_assoc pre (m ∷ w) post) at d))

  -- what cannot go on at r is no card, passes no limit at r or later, and cannot go on at no other place
  module _ {ms r : Place} (u : UnfitIn Said ms r) where
    unfit_no_card : (c : C) → Said ms c → ⊥
    unfit_no_card c d = go r u.split u.impossible
      where
        go : (r : Place) → ms ≡ u.before ++ r → HopelessIn Said u.before r → ⊥
        go [] e h = h c (rw (e, append-nil u.before) at d)
        go (m ∷ x) e h = h (x, c, rw (append_assoc u.before (m ∷ []) x) (rw e at d))

    -- marks of a completable beginning stop before r
    unfit_here : (pre t : Place) → ms ≡ pre ++ t → CompletableIn Said pre → (m : Placed) (w : Place) → pre ≡ u.before ++ (m ∷ w) → r ≡ m ∷ (w ++ t) → ⊥
    unfit_here pre t e k m w q z = hopeless r u.impossible z
      where
        hopeless : (r : Place) → HopelessIn Said u.before r → r ≡ m ∷ (w ++ t) → ⊥
        hopeless [] h z = nil≢cons z
        hopeless (o ∷ x) h z = let i : o ≡ m = head-eq_of_cons-eq z in h (rw i (completable_less u.before m w (rw q at k)))

  pub unfit_one : (ms r t : Place) → UnfitIn Said ms r → UnfitIn Said ms t → r ≡ t
  unfit_one ms r t u v = go (order u.before r v.before t (sym u.split ∙ v.split))
    where
      go : Order u.before r v.before t → r ≡ t
      go (equal e z) = z
      go (before m w q z) = absurd (unfit_here u v.before t v.split v.possible m w q z)
      go (behind m w q z) = absurd (unfit_here v u.before r u.split u.possible m w q z)

  -- a limit is passed only before it
  pub past_earlier : (ms r t : Place) (u : UnfitIn Said ms r) (p : PastIn Said counts (look ms) ms t) → (m : Placed) × (w : Place) × (t ≡ m ∷ (w ++ r))
  past_earlier ms r t u p = go (order p.before t u.before r (sym (p.split ∙ ap (λ x. p.before ++ x) (sym p.place)) ∙ u.split))
    where
      -- the marks before, and the one at t, can be completed
      with_mark : CompletableIn Said (p.before ++ (p.mark ∷ []))
      with_mark = (p.other, p.shape, rw (append_assoc p.before (p.mark ∷ []) p.other) p.said)

      whole : ms ≡ (p.before ++ (p.mark ∷ [])) ++ p.after
      whole = p.split ∙ sym (append_assoc p.before (p.mark ∷ []) p.after)

      go : Order p.before t u.before r → (m : Placed) × (w : Place) × (t ≡ m ∷ (w ++ r))
      go (equal e z) = absurd (unfit_here u (p.before ++ (p.mark ∷ [])) p.after whole with_mark p.mark [] (ap (λ x. x ++ (p.mark ∷ [])) e) (sym z ∙ p.place))
      go (before m w q z) = (m, w, z)
      go (behind m w q z) =
          absurd (unfit_here u (p.before ++ (p.mark ∷ [])) p.after whole with_mark m (w ++ (p.mark ∷ []))
          (ap (λ x. x ++ (p.mark ∷ [])) q ∙ append_assoc u.before (m ∷ w) (p.mark ∷ []))
          (z ∙ ap (λ x. m ∷ (w ++ x)) p.place ∙ ap (λ x. m ∷ x) (sym (append_assoc w (p.mark ∷ []) p.after))))

  -- reading stops where a mark cannot go on, unless a limit is passed before
  pub unfit_stopped : (ms r : Place) → UnfitIn Said ms r → ((t : Place) → PastIn Said counts (look ms) ms t → (m : Placed) (w : Place) → t ≡ m ∷ (w ++ r) → ⊥)
      → read (at ms zero) ≡ stop out_of_shape r
  unfit_stopped ms r u first = go (read (at ms zero)) refl
    where
      halted : (n : ℕ) (t : Place) → read (at ms zero) ≡ stop n t → (h : HaltedIn (look ms) Said read ms zero n t) → CauseIn (look ms) Said h.pre n t
          → ◌≡◌ {A = Result C} (stop n t) (stop out_of_shape r)
      halted n t e h (unfits z k) =
          let q : t ≡ r = unfit_one ms t r (stopped_unfit ms t (e ∙ ap (λ i. stop i t) z)) u in
          rw (z, q)
      halted n t e h (exceeds z m x post q b c d) =
          let p = stopped_past ms t (e ∙ ap (λ i. stop i t) z) in
          let (o, w, y) = past_earlier ms r t u p in
          absurd (first t p o w y)

      go : (x : Result C) → read (at ms zero) ≡ x → x ≡ stop out_of_shape r
      go (ok c s) e = absurd (unfit_no_card u c (read_shape ms c s e).0)
      go (stop n t) e = let h = stops ms n t e in halted n t e h h.cause

  -- the reader of the shape says 3 or 4
  pub stop_numbers : (ms : Place) (n : ℕ) (r : Place) → read (at ms zero) ≡ stop n r → (n ≡ out_of_shape) ⊎ (n ≡ past_limit)
  stop_numbers ms n r e = let h = stops ms n r e in go h.pre h.cause
    where
      go : (pre : Place) → CauseIn (look ms) Said pre n r → (n ≡ out_of_shape) ⊎ (n ≡ past_limit)
      go pre (unfits z k) = inl z
      go pre (exceeds z m x post q b c d) = inr z
