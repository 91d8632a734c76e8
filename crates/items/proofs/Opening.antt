-- What a bracket starts, opened one mark at a time: an item that the code read behind it and kept is the unary of the definition.
-- Assumes nothing.
use Prim.Native.Nat.{ℕ, zero, suc, ◌+◌, ◌-◌, ◌≤◌, ◌<◌}
use Prim.Native.String.{String}
use mathlib.Core.Path.{◌≡◌, refl, sym, ap, ◌∙◌, subst}
use Rattle.group.specs.Found.{Found}
use mathlib.Core.Bool.{Bool, true, false}
use mathlib.Core.List.{List}
use native.Mathlib.Nat.{zero-add, add-zero}
use native.Mathlib.Numerals.{sub-one}
use native.Mathlib.Omega.{arith}
use borrow.Author.Tests.{eq-eqb, ne_eqb}
use lib.Dec.{leb}
use lib.ListN.{length, take, drop, set, length-drop}
use lib.Seq.{take_all}
use Rattle.card.specs.Refusals.{out_of_shape, past_limit, above_top}
use Rattle.card.specs.Card.{Formula, atom}
use Rattle.card.proofs.Storing.{stored_leaf}
use Rattle.marks_on_a_card.specs.Marks.{place_of}
use Rattle.marks_on_a_card.specs.Kinds.{kind}
use Rattle.marks.specs.Step.{step_at, marks_at}
use Rattle.marks.specs.declared.Step.{Step}
use Rattle.marks.proofs.Next.{meet, part_of_card}
use Rattle.reading.specs.Reader.{Place, State, at, Result, ok, stop, Reader, bind, ◌>>=◌, return, refuse_at, next_is, sign, spend}
use Rattle.reading.specs.Guard.{if_ahead, expression, grouped}
use Rattle.reading.specs.Judgements.{unless}
use Rattle.group.specs.declared.Grouped.{Grouped}
use Rattle.late.specs.Late.{Late, blamed}
use Rattle.late.specs.State.{left_in, free_in, late_in, After, after, Halted}
use Rattle.late.specs.declared.state.State.{State as Carried}
use Rattle.group.proofs.Signs.{Known}
use Rattle.group.proofs.Ahead.{fits, unfit, next_is_law, sign_next, place_next, next_within}
use Rattle.items.specs.Language.{Language}
use Rattle.items.specs.KeptItems.{wanted_by, bound_by, Kept}
use Rattle.items.specs.Items.{ReadItem, ItemRead, ItemIf, ItemAt}
use Rattle.std.specs.Prelude.{Some, None, Result as Answer, Ok, Err}
use Rattle.items.specs.GuardRead.{GuardRead}
use Rattle.items.specs.Pieces.{Guards, unary_in, then_close, NoItem}

-- ---- marks of the whole card

pub place_here : (s : List ℕ) (i : ℕ) → place_of (length s) (marks_at 0 s i) ≡ (step_at s i).mark.place
place_here s i = ap (λ e. place_of e (marks_at 0 s i)) (sym (zero-add (length s))) ∙ place_next 0 s (step_at s i) (marks_at 0 s i) (meet 0 s i) ∙ zero-add (step_at s i).mark.place

module _ (t : String) (known : Known t) (s : List ℕ) (i n : ℕ) where
  pub sign_fits : (step_at s i).mark.kind ≡ kind t → sign t (at (marks_at 0 s i) n) ≡ ok tt (at (marks_at 0 s (step_at s i).next.at) n)
  sign_fits h = sign_next 0 s t known (step_at s i) (marks_at 0 s i) n (meet 0 s i) ∙ fits tt 0 s (step_at s i) (marks_at 0 s i) n (kind t) h

  pub sign_unfit : ((step_at s i).mark.kind ≡ kind t → ⊥) → sign t (at (marks_at 0 s i) n) ≡ stop out_of_shape (marks_at 0 s i)
  sign_unfit h = sign_next 0 s t known (step_at s i) (marks_at 0 s i) n (meet 0 s i) ∙ unfit tt 0 s (step_at s i) (marks_at 0 s i) n (kind t) h

  pub next_yes : (step_at s i).mark.kind ≡ kind t → next_is t (marks_at 0 s i) ≡ true
  next_yes h = next_is_law 0 s t known (step_at s i) (marks_at 0 s i) (meet 0 s i) ∙ eq-eqb (step_at s i).mark.kind (kind t) h

  pub next_no : ((step_at s i).mark.kind ≡ kind t → ⊥) → next_is t (marks_at 0 s i) ≡ false
  next_no h = next_is_law 0 s t known (step_at s i) (marks_at 0 s i) (meet 0 s i) ∙ ne_eqb (step_at s i).mark.kind (kind t) h

pub not_known : Known "!"
not_known = record { above = omega arith; alone = refl; same = refl }

pub open_known : Known "("
open_known = record { above = omega arith; alone = refl; same = refl }

-- ---- the mark ahead, as the code has it

module _ (s : List ℕ) (i : ℕ) (a : Step) (step : a ≡ step_at s i) where
  pub kind_here : (v : ℕ) → a.mark.kind ≡ v → (step_at s i).mark.kind ≡ v
  kind_here v h = ap (λ (u : Step). u.mark.kind) (sym step) ∙ h

  pub unkind_here : (v : ℕ) → (a.mark.kind ≡ v → ⊥) → (step_at s i).mark.kind ≡ v → ⊥
  unkind_here v h z = h (ap (λ (u : Step). u.mark.kind) step ∙ z)

  pub place_there : place_of (length s) (marks_at 0 s i) ≡ a.mark.place
  place_there = place_here s i ∙ ap (λ (u : Step). u.mark.place) (sym step)

-- ---- a node more

pub spent : {A : Type 0} (p ms : Place) (left : ℕ) (f : Reader A) → (left ≡ 0 → ⊥) → bind (spend p ms left) (λ _. f) ≡ f (at ms (left - 1))
spent p ms zero f h = absurd (h refl)
spent p ms (suc left) f h = ap (λ n. f (at ms n)) (sym (sub-one (suc left)))

pub none_left : {A : Type 0} (p ms : Place) (left : ℕ) (f : Reader A) → left ≡ 0 → bind (spend p ms left) (λ _. f) ≡ stop past_limit p
none_left p ms left f h = rw h

-- what stands ahead decides, whatever the two readers are
module _ {A : Type 0} (p q : Reader A) (s : State) (starts : Place → Bool) where
  ahead_yes : starts s.marks ≡ true → if_ahead starts p q s ≡ p s
  ahead_yes h = rw h

  pub ahead_no : starts s.marks ≡ false → if_ahead starts p q s ≡ q s
  ahead_no h = rw h

module _ (L : Language) where
  pub read_as : (s : List ℕ) (k : ℕ) (was is : List ℕ) (used : ℕ) (before : Late) {x y : Result (Formula L.Item)} (r : After) → x ≡ y → GuardRead L s k was is used before y r → GuardRead L s k was is used before x r
  read_as s k was is used before r e h = rw e h

  -- what a bracket at place p starts
  abbrev pub bracket_of : ℕ → Place → Guards L
  bracket_of zero p = if_ahead L.starts (grouped L.item p) (refuse_at past_limit p)
  bracket_of (suc depth) p = if_ahead L.starts (grouped L.item p) (expression (unary_in L depth) >>= then_close)

  -- from place q of the card on
  abbrev pub Bracketed : List ℕ → ℕ → ℕ → ℕ → ℕ → ℕ → List ℕ → List ℕ → ℕ → Late → After → Type 0
  Bracketed s q p left depth k was is used before r =
      (bracket : Place) → place_of (length s) bracket ≡ p → GuardRead L s k was is used before (bracket_of depth bracket (at (marks_at 0 s q) left)) r

  -- ---- an item behind its bracket

  abbrev then_atom : L.Item → Reader (Formula L.Item)
  then_atom a = return (atom a)

  -- the most that its number may be, with top state k
  abbrev bound_of : Grouped → ℕ → ℕ
  bound_of g k = bound_by L.most g.kind k

  -- an item behind its bracket: read from the part of the card s from place q on
  module _ (s : List ℕ) (q p k : ℕ) (l : q ≤ length s) (was is : List ℕ) (state : Carried) (bracket : Place) (place : place_of (length s) bracket ≡ p) where
    abbrev Lays : After → Type 0
    Lays r = GuardRead L s k was is (free_in state) (late_in state) (grouped L.item bracket (at (marks_at 0 s q) (left_in state))) r

    -- where it was read: the answer's places are the card's
    long : q + length (drop q s) ≡ length s
    long = omega (arith, length-drop q s)

    -- no node is left for it
    laid_full : (r : After) → left_in state ≡ 0 → Halted past_limit p r → Lays r
    laid_full r e h =
        read_as s k was is (free_in state) (late_in state) r (none_left bracket (marks_at 0 s q) (left_in state) (L.item bracket >>= then_atom) e)
        (rw place h)

    module _ (some : left_in state ≡ 0 → ⊥) where
      some_left : (r : After) → GuardRead L s k was is (free_in state) (late_in state) (bind (L.item bracket (at (marks_at 0 s q) (left_in state - 1))) then_atom) r → Lays r
      some_left r h = read_as s k was is (free_in state) (late_in state) r (spent bracket (marks_at 0 s q) (left_in state) (L.item bracket >>= then_atom) some) h

      -- it is out of shape
      laid_wrong : (r : After) (e : ℕ) → ItemRead L q (drop q s) (left_in state - 1) bracket (L.item bracket (at (marks_at 0 s q) (left_in state - 1))) (Err e) → Halted out_of_shape (q + e) r → Lays r
      laid_wrong r e h halted = some_left r (go (L.item bracket (at (marks_at 0 s q) (left_in state - 1))) h)
        where
          go : (y : Result L.Item) → ItemRead L q (drop q s) (left_in state - 1) bracket y (Err e) → GuardRead L s k was is (free_in state) (late_in state) (bind y then_atom) r
          go (ok a b) h = absurd h
          go (stop m ms) h = rw (h.number, ap (λ e. place_of e ms) (sym long) ∙ h.place) halted

      -- it is kept
      laid_well : (g : Grouped) → ItemRead L q (drop q s) (left_in state - 1) bracket (L.item bracket (at (marks_at 0 s q) (left_in state - 1))) (Ok g)
          → (behind : Carried) → Kept g q p (bound_of g k) was is state behind → Lays (after behind (Ok (q + g.next)))
      laid_well g h behind kept = some_left (after behind (Ok (q + g.next))) (go (L.item bracket (at (marks_at 0 s q) (left_in state - 1))) h)
        where
          go : (y : Result L.Item) → ItemRead L q (drop q s) (left_in state - 1) bracket y (Ok g) → GuardRead L s k was is (free_in state) (late_in state) (bind y then_atom) (after behind (Ok (q + g.next)))
          go (ok a b) h = record {
            rest = sym (part_of_card q s g.next l) ∙ h.rest;
            free = kept.judged.free;
            left = kept.judged.left ∙ sym h.left;
            late =
                kept.judged.late
                ∙ ap (λ n. blamed (unless (leb g.d (bound_of g k)) above_top) (q + g.first) (wanted_by g.kind g.want n (late_in state))) (sym place ∙ ap (λ e. place_of e bracket) (sym long))
                ∙ sym (h.judged k (late_in state))
                ∙ ap (λ e. L.judged k e a (late_in state)) long;
            nodes = kept.nodes ∙ ap (set was (free_in state)) h.node ∙ sym (stored_leaf was (free_in state) (L.leaf a));
          }
          go (stop m ms) h = absurd h

  -- ---- a unary

  module _ (s : List ℕ) (i depth n : ℕ) where
    abbrev start : State
    start = at (marks_at 0 s i) n

    abbrev mark : Step
    mark = step_at s i

    pub unary_other : (mark.mark.kind ≡ kind "!" → ⊥) → unary_in L depth start ≡ bind (sign "(" start) (λ _. bracket_of depth (marks_at 0 s i))
    unary_other h = go depth
      where
        go : (d : ℕ) → unary_in L d start ≡ bind (sign "(" start) (λ _. bracket_of d (marks_at 0 s i))
        go zero = rw (next_no "!" not_known s i n h)
        go (suc d) = rw (next_no "!" not_known s i n h)

    unary_open : mark.mark.kind ≡ kind "(" → unary_in L depth start ≡ bracket_of depth (marks_at 0 s i) (at (marks_at 0 s mark.next.at) n)
    unary_open h = unary_other (λ z. omega arith) ∙ ap (λ y. bind y (λ _. bracket_of depth (marks_at 0 s i))) (sign_fits "(" open_known s i n h)

  -- ---- a bracket

  module _ (s : List ℕ) (q n : ℕ) (p : Place) where
    abbrev behind : State
    behind = at (marks_at 0 s q) n

    bracket_item : (depth : ℕ) → L.starts (marks_at 0 s q) ≡ true → bracket_of depth p behind ≡ grouped L.item p behind
    bracket_item zero h = ahead_yes (grouped L.item p) (refuse_at past_limit p) behind L.starts h
    bracket_item (suc d) h = ahead_yes (grouped L.item p) (expression (unary_in L d) >>= then_close) behind L.starts h

  -- what the code found behind a bracket, in the part that it lent
  module _ (s : List ℕ) (q : ℕ) (l : q ≤ length s) (part : List ℕ) (same : part ≡ drop q s) where
    rest_marks : marks_at q part 0 ≡ marks_at 0 s q
    rest_marks = ap (λ t. marks_at q t 0) same ∙ part_of_card q s 0 l ∙ ap (marks_at 0 s) (add-zero q)

    module _ (r : Answer Grouped ℕ) (found : ItemAt L part (Some r)) where
      pub item_starts : L.starts (marks_at 0 s q) ≡ true
      item_starts = sym (ap L.starts rest_marks) ∙ go (L.starts (marks_at q part 0)) (found.read q 0 (marks_at 0 s q))
        where
          go : (b : Bool) → ItemIf L q part 0 (marks_at 0 s q) b (Some r) → b ≡ true
          go true h = refl
          go false h = absurd h

      pub item_reads : (n : ℕ) (p : Place) → ItemRead L q (drop q s) n p (L.item p (at (marks_at 0 s q) n)) r
      item_reads n p =
          subst (λ (t : List ℕ). Found (ReadItem L q t n p) q t (L.item p (at (marks_at 0 s q) n)) r) same
          (subst (λ (m : Place). ItemRead L q part n p (L.item p (at m n)) r) rest_marks (go (L.starts (marks_at q part 0)) (found.read q n p)))
        where
          go : (b : Bool) → ItemIf L q part n p b (Some r) → ItemRead L q part n p (L.item p (at (marks_at q part 0) n)) r
          go true h = h
          go false h = absurd h

    pub item_none : ItemAt L part None → L.starts (marks_at 0 s q) ≡ false
    item_none found = sym (ap L.starts rest_marks) ∙ go (L.starts (marks_at q part 0)) (found.read q 0 (marks_at 0 s q))
      where
        go : (b : Bool) → ItemIf L q part 0 (marks_at 0 s q) b None → b ≡ false
        go true h = absurd h
        go false h = refl

  -- ---- a unary, as the code has it

  module _ (s : List ℕ) (i left depth k : ℕ) (was is : List ℕ) (used : ℕ) (before : Late) (a : Step) (step : a ≡ step_at s i) where
    abbrev Reads : After → Type 0
    Reads r = GuardRead L s k was is used before (unary_in L depth (at (marks_at 0 s i) left)) r

    pub reads_bracket : a.mark.kind ≡ kind "(" → (r : After) → Bracketed s a.next.at a.mark.place left depth k was is used before r → Reads r
    reads_bracket h r b =
        read_as s k was is used before r
        (unary_open s i depth left (kind_here s i a step (kind "(") h) ∙ ap (λ (u : Step). bracket_of depth (marks_at 0 s i) (at (marks_at 0 s u.next.at) left)) (sym step))
        (b (marks_at 0 s i) (place_there s i a step))

  -- ---- an item, as the code keeps it

  module _ (s : List ℕ) (i k : ℕ) (was is : List ℕ) (state : Carried) (a : Step) (step : a ≡ step_at s i) where
    pub no_bracket : (a.mark.kind ≡ kind "(" → ⊥) → NoItem L s i
    no_bracket h e = absurd (h (ap (λ (u : Step). u.mark.kind) step ∙ e))

    module _ (l : a.next.at ≤ length s) (part : List ℕ) (same : part ≡ drop a.next.at s) where
      pub no_item : ItemAt L part None → NoItem L s i
      no_item found e = ap (λ (u : Step). L.starts (marks_at 0 s u.next.at)) (sym step) ∙ item_none s a.next.at l part same found

      module _ (opens : a.mark.kind ≡ kind "(") (depth : ℕ) where
        abbrev Unary : After → Type 0
        Unary r = GuardRead L s k was is (free_in state) (late_in state) (unary_in L depth (at (marks_at 0 s i) (left_in state))) r

        as_item : (r : After) → L.starts (marks_at 0 s a.next.at) ≡ true
            → ((bracket : Place) → place_of (length s) bracket ≡ a.mark.place → GuardRead L s k was is (free_in state) (late_in state) (grouped L.item bracket (at (marks_at 0 s a.next.at) (left_in state))) r)
            → Unary r
        as_item r starts laid =
            reads_bracket s i (left_in state) depth k was is (free_in state) (late_in state) a step opens r
            (λ bracket e. read_as s k was is (free_in state) (late_in state) r (bracket_item s a.next.at (left_in state) bracket depth starts) (laid bracket e))

        pub item_full : (r : After) (g : Answer Grouped ℕ) → ItemAt L part (Some g) → left_in state ≡ 0 → Halted past_limit a.mark.place r → Unary r
        item_full r g found e h =
            as_item r (item_starts s a.next.at l part same g found)
            (λ bracket place. laid_full s a.next.at a.mark.place k l was is state bracket place r e h)

        pub item_wrong : (r : After) (e : ℕ) → ItemAt L part (Some (Err e)) → (left_in state ≡ 0 → ⊥) → Halted out_of_shape (a.next.at + e) r → Unary r
        item_wrong r e found some h =
            as_item r (item_starts s a.next.at l part same (Err e) found)
            (λ bracket place.
            laid_wrong s a.next.at a.mark.place k l was is state bracket place some r e
            (item_reads s a.next.at l part same (Err e) found (left_in state - 1) bracket) h)

        pub item_kept : (g : Grouped) → ItemAt L part (Some (Ok g)) → (left_in state ≡ 0 → ⊥) → (m : ℕ) → m ≡ bound_of g k
            → (behind : Carried) → Kept g a.next.at a.mark.place m was is state behind → Unary (after behind (Ok (a.next.at + g.next)))
        item_kept g found some m most behind h =
            as_item (after behind (Ok (a.next.at + g.next))) (item_starts s a.next.at l part same (Ok g) found)
            (λ bracket place.
            laid_well s a.next.at a.mark.place k l was is state bracket place some g
            (item_reads s a.next.at l part same (Ok g) found (left_in state - 1) bracket) behind (rw most at h))

-- ---- what the code's calls ask

pub step_within : (s : List ℕ) (i : ℕ) (a : Step) → a ≡ step_at s i → a.next.at ≤ length s
step_within s i a e = rw e (next_within 0 s (step_at s i) (marks_at 0 s i) (meet 0 s i))

module _ (s : List ℕ) (q : ℕ) (l : q ≤ length s) where
  -- what the code lends is the rest of the card
  pub part_is : take (length s - q) (drop q s) ≡ drop q s
  part_is = take_all (length s - q) (drop q s) (omega (arith, length-drop q s))

  -- so that none of the answer's places goes past it
  pub part_placed : (m n : ℕ) → length s < m → n ≤ length (take (length s - q) (drop q s)) → q + n < m
  part_placed m n h i = omega (arith, ap length part_is ∙ length-drop q s)
