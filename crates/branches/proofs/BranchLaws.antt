-- A weight, a branch, and a statement's branches. After each branch what is left to read is the same reader with one branch less (`rest`),
-- from the branch's cursor on; an answer to it, with the branches so far counted in, answers the whole. Assumes nothing.
use Prim.Native.Nat.{ℕ, zero, suc, ◌+◌, ◌-◌, ◌*◌, ◌≤◌, ◌<◌, min}
use mathlib.Core.Path.{◌≡◌, refl, sym, ap, ◌∙◌}
use mathlib.Core.Bool.{Bool, true, false, ◌&&◌, ◌||◌}
use mathlib.Core.List.{List, [], ◌∷◌, map}
use mathlib.Core.Option.{Option as Maybe, none, some}
use Rattle.std.specs.Prelude.{Option}
use Rattle.std.specs.Option.{option_or}
use Rattle.std.specs.Prelude.{Some, None}
use native.Mathlib.Nat.{zero-add, add-zero}
use native.Mathlib.Omega.{arith}
use borrow.Author.Tests.{eq-eqb, ne_eqb, eqb-true, eqb-false}
use lib.Dec.{eqb}
use lib.ListN.{length, set}
use Rattle.card.specs.Limits.{most_branches, numbers, unit}
use Rattle.card.specs.Refusals.{out_of_shape, past_limit, wrong_weight, decimal_weight}
use Rattle.card.specs.Text.{when◌then◌else◌}
use Rattle.card.specs.Laid.{pack_branch}
use Rattle.card.specs.Stored.{stored}
use Rattle.card.specs.Weight.{Weight, whole, decimal as point, ratio, units_of, Rule}
use Rattle.std.specs.Prelude.{Some, None}
use Rattle.weights.specs.Judged.{Judged, judged_of}
use Rattle.weights.specs.declared.Weight.{Weight as WeightRow}
use Rattle.marks_on_a_card.specs.Marks.{place_of}
use Rattle.marks_on_a_card.specs.Kinds.{k_number, k_decimal, kind}
use Rattle.marks.specs.Step.{marks_at}
use Rattle.marks.specs.declared.Found.{Found}
use Rattle.marks.specs.declared.Step.{Step}
use Rattle.reading.specs.Reader.{State, Result, ok, stop, Reader, bind, return, refuse_at, the, sign, number_of, Numbered, numbered, line}
use Rattle.grammar.specs.Grammar.{branch_run}
use Rattle.reading.specs.Judgements.{weight as judged_weight, sum, unless, broken, or_zero, units_in, total_units}
use Rattle.reading.specs.Guard.{is_some}
use Rattle.reading.specs.Shape.{BranchShape, weight_of, weight, sets, next_branch, past_branches}
use Rattle.reading.specs.Checks.{judged_state, judged_words, judged_set, weight_in, judged_each}
use Rattle.grammar.proofs.Valid.{units_most}
use Rattle.late.specs.Late.{Late, blame, blamed, judge, judge_all}
use Rattle.late.specs.Values.{shares, most_of}
use Rattle.late.specs.declared.state.State.{State as Carried}
use Rattle.late.specs.Settled.{Refusal, refusal}
use Rattle.late.specs.State.{NextPlace, late_in, value_in, with_late, After, after, Halted}
use Rattle.std.specs.Prelude.{Ok, Err}
use Rattle.late.proofs.Settling.{judge_append}
use Rattle.late_weights.specs.LateWeights.{form_by, sum_by}
use Rattle.parts.specs.Parts.{from, Answers, NumberFrom, SignRead, SignFrom, Told, Sure, LineRead}
use Rattle.branches.specs.declared.Bounds.{Bounds}
use Rattle.branches.specs.Branches.{weight_by, Weighed, WeightRead, WeightFrom, update_due, UpdateFrom, set_in, SetsFrom, packed_in, branch_by, judged_by, BranchRead, BranchFrom, BranchesShape, branches, ClosedBy, past_by, BranchesRead, BranchesFrom}
use Rattle.parts.proofs.Steps.{Next, place_seen, value_by, number_shown, weight_by as mark_weight, weight_shown, told}
use Rattle.parts.proofs.Answers.{stopped, went_on, onward, halted, made, fits, misses, next_is, next_is_not}
use Rattle.parts.proofs.Counted.{up_to, with_first, another, too_many, no_other}
use Rattle.parts.proofs.Lines.{sign_took, sign_fits, sign_misses}

slash : Told "/"
slash = told "/" (omega arith)

semicolon : Told ";"
semicolon = told ";" (omega arith)

-- ---- a weight

module _ (was : Carried) where
  pub units_weighed : {judged : Judged} {u p : ℕ} (w : WeightRow) → judged ≡ Some w → u ≡ w.units → Weighed judged p was (record was { value = u })
  units_weighed {judged} {u} {p} w e f = record { value = λ o g. f ∙ go o (sym e ∙ g); late = λ o g. kept o (sym e ∙ g) }
    where
      go : (o : Maybe ℕ) → Some w ≡ judged_of o → w.units ≡ or_zero o
      go none e = let z : ◌≡◌ {A = ℕ} 0 1 = cc in absurd (omega arith)
      go (some u) e = let z : w ≡ record { units = u } = cc in ap (λ (x : WeightRow). x.units) z

      kept : (o : Maybe ℕ) → Some w ≡ judged_of o → late_in was ≡ weight_by o p (late_in was)
      kept none e = let z : ◌≡◌ {A = ℕ} 0 1 = cc in absurd (omega arith)
      kept (some u) e = refl

  pub broken_weighed : {judged : Judged} {is : Carried} {p : ℕ} → judged ≡ None → is ≡ with_late was (blame wrong_weight p (late_in was)) → Weighed judged p was (record is { value = 0 })
  broken_weighed {judged} {is} {p} e f = record { value = λ o g. go o (sym e ∙ g); late = λ o g. ap late_in f ∙ kept o (sym e ∙ g) }
    where
      go : (o : Maybe ℕ) → None ≡ judged_of o → 0 ≡ or_zero o
      go none e = refl
      go (some u) e = let z : ◌≡◌ {A = ℕ} 0 1 = cc in absurd (omega arith)

      kept : (o : Maybe ℕ) → None ≡ judged_of o → blame wrong_weight p (late_in was) ≡ weight_by o p (late_in was)
      kept none e = refl
      kept (some u) e = let z : ◌≡◌ {A = ℕ} 0 1 = cc in absurd (omega arith)

-- a decimal's form, then its units: the first refusal is the one that is kept
blamed_twice : (b : Bool) (p : ℕ) (x : Late) → blamed (unless b wrong_weight) p (blame decimal_weight p x) ≡ blame decimal_weight p x
blamed_twice true p x = refl
blamed_twice false p x = go x.refusal
  where
    go : (o : Option Refusal) → ◌≡◌ {A = Late} (record x { refusal = option_or (option_or o (Some (refusal decimal_weight p))) (Some (refusal wrong_weight p)) }) (record x { refusal = option_or o (Some (refusal decimal_weight p)) })
    go None = refl
    go (Some e) = refl

form_first : (decimals : Rule) (o : Maybe ℕ) (p : ℕ) (mid before : Late) → mid ≡ form_by decimals p before
    → weight_by o p mid ≡ blamed (unless (decimals && is_some o) (when decimals then wrong_weight else decimal_weight)) p before
form_first true o p mid before e = ap (weight_by o p) e
form_first false o p mid before e = ap (weight_by o p) e ∙ blamed_twice (is_some o) p before

module _ {decimals : Rule} {s : List ℕ} {i : ℕ} {x : Step} (v : Next s i x) where
  pub weight_stops : {before : Late} (state : Carried) → (x.mark.kind ≡ k_decimal → ⊥) → (x.mark.kind ≡ k_number → ⊥) → WeightFrom decimals s i before (after state (Err (refusal out_of_shape x.mark.place)))
  weight_stops state d e = record { answers = λ n. misses s _ weight_of mark_weight weight_shown i x v n (rw (ne_eqb _ _ d, ne_eqb _ _ e)) _ _ (stopped state) }

  module _ (was : Carried) {is : Carried} {judged : Judged} (y : Weighed judged x.mark.place was is) where
    -- the last mark of a weight was read, and a cursor stands behind it
    weighed : (before : Late) (w : Weight) → judged ≡ judged_of (units_of w) → late_in is ≡ blamed (broken 0 (judged_weight decimals w (marks_at 0 s i))) x.mark.place before
        → (next : ℕ) (st : State) → marks_at 0 s next ≡ st.marks → WeightRead decimals s before (marks_at 0 s i) (ok w st) (after is (Ok next))
    unfolding judge_all
    weighed before w e l next st f = record {
      rest = f;
      told = record {
        value = y.value (units_of w) e;
        late = l ∙ ap (λ (p : ℕ). blamed (broken 0 (judged_weight decimals w (marks_at 0 s i))) p before) (place_seen s i x v);
      };
    }

    -- its form was judged before
    pub decimal_read : (start : Carried) → was ≡ with_late start (form_by decimals x.mark.place (late_in start)) → x.mark.kind ≡ k_decimal
        → judged ≡ judged_of (units_of (point x.mark.value x.mark.digits x.mark.further)) → WeightFrom decimals s i (late_in start) (after is (Ok x.next.at))
    decimal_read start g e f = record {
      answers = λ n.
          fits s _ weight_of mark_weight weight_shown i x v n (point x.mark.value x.mark.digits x.mark.further) (rw e) _ _
          (weighed (late_in start) (point x.mark.value x.mark.digits x.mark.further) f
          (y.late (units_of (point x.mark.value x.mark.digits x.mark.further)) f
          ∙ form_first decimals (units_of (point x.mark.value x.mark.digits x.mark.further)) x.mark.place (late_in was) (late_in start) (ap late_in g)) x.next.at _ refl);
    }

    module _ (e : x.mark.kind ≡ k_number) {z : Step} (u : Next s x.next.at z) where
      pub whole_read : (z.mark.kind ≡ kind "/" → ⊥) → judged ≡ judged_of (units_of (whole x.mark.value)) → WeightFrom decimals s i (late_in was) (after is (Ok x.next.at))
      whole_read d f = record {
        answers = λ n.
            fits s _ weight_of mark_weight weight_shown i x v n (whole x.mark.value) (rw (eq-eqb _ _ e)) _ _
            (next_is_not s _ "/" slash _ (return (whole x.mark.value)) x.next.at z u n _ d
            (weighed (late_in was) (whole x.mark.value) f (y.late (units_of (whole x.mark.value)) f) x.next.at _ refl));
      }

      pub ratio_read : z.mark.kind ≡ kind "/" → {w : Step} (t : Next s z.next.at w) → w.mark.kind ≡ k_number
          → judged ≡ judged_of (units_of (ratio x.mark.value w.mark.value)) → WeightFrom decimals s i (late_in was) (after is (Ok w.next.at))
      ratio_read d {w} t g f = record {
        answers = λ n.
            fits s _ weight_of mark_weight weight_shown i x v n (whole x.mark.value) (rw (eq-eqb _ _ e)) _ _
            (next_is s _ "/" slash _ (return (whole x.mark.value)) x.next.at z u n _ d
            (sign_fits "/" slash s x.next.at _ z u n _ _ d
            (fits s _ number_of (value_by k_number) number_shown z.next.at w t n w.mark.value (rw (eq-eqb _ _ g)) _ _
            (weighed (late_in was) (ratio x.mark.value w.mark.value) f (y.late (units_of (ratio x.mark.value w.mark.value)) f) w.next.at _ refl))));
      }

  pub ratio_stops : {before : Late} (state : Carried) → x.mark.kind ≡ k_number → {z : Step} (u : Next s x.next.at z) → z.mark.kind ≡ kind "/"
      → {w : Step} (t : Next s z.next.at w) → (w.mark.kind ≡ k_number → ⊥) → WeightFrom decimals s i before (after state (Err (refusal out_of_shape w.mark.place)))
  ratio_stops state e {z} u d {w} t g = record {
    answers = λ n.
        fits s _ weight_of mark_weight weight_shown i x v n (whole x.mark.value) (rw (eq-eqb _ _ e)) _ _
        (next_is s _ "/" slash _ (return (whole x.mark.value)) x.next.at z u n _ d
        (sign_fits "/" slash s x.next.at _ z u n _ _ d
        (misses s _ number_of (value_by k_number) number_shown z.next.at w t n (rw (ne_eqb _ _ g)) _ _ (stopped state))));
  }

pub weight_few : {decimals : Rule} {s : List ℕ} {i : ℕ} {before : Late} {state : Carried} {next : ℕ} → WeightFrom decimals s i before (after state (Ok next)) → value_in state ≤ unit
weight_few {decimals} {s} {i} {before} {state} {next} h = go (weight (from s i 0)) (h.answers 0)
  where
    go : (x : Result Weight) → WeightRead decimals s before (marks_at 0 s i) x (after state (Ok next)) → value_in state ≤ unit
    go (ok w b) y = omega (arith, y.told.value, units_most w)
    go (stop n p) y = went_on y

-- ---- a branch

pub update_sure : Sure update_due
update_sure = (told ":" (omega arith), (told "(" (omega arith), (told "'" (omega arith), (told "=" (omega arith), tt))))

close : Told ")"
close = told ")" (omega arith)

module _ (bounds : Bounds) (s : List ℕ) (i : ℕ) (before : Late) (was is : List ℕ) (place : ℕ) where
  abbrev BranchIs : After → Type 0
  BranchIs = BranchFrom bounds s i before was is place

  pub weight_halts : {a : Carried} {z : Refusal} → WeightFrom bounds.decimals s i before (after a (Err z)) → BranchIs (after a (Err z))
  weight_halts {a} {z} hw = record { answers = λ n. halted s _ _ (weight (from s i n)) _ a z (hw.answers n) }

  updated : (w : ℕ) (late : Late) (r : After) → UpdateFrom s w late r → (n : ℕ) → LineRead s late (1 ∷ []) (line branch_run (from s w n)) r
  updated w late r hu n = hu.answers update_due update_sure refl n

  module _ {a : Carried} {w : ℕ} (hw : WeightFrom bounds.decimals s i before (after a (Ok w))) where
    pub update_halts : {b : Carried} {z : Refusal} → UpdateFrom s w (late_in a) (after b (Err z)) → BranchIs (after b (Err z))
    update_halts {b} {z} hu = record {
      answers = λ n. onward s _ _ (weight (from s i n)) _ a w _ (hw.answers n) λ x m g.
          halted s _ _ (line branch_run (from s w m)) _ b z (updated w (late_in a) _ hu m);
    }

    module _ {b : Carried} {u : ℕ} (hu : UpdateFrom s w (late_in a) (after b (Ok u))) where
      pub end_halts : {c : Carried} {z : Refusal} → NumberFrom s u bounds.top (late_in b) (after c (Err z)) → BranchIs (after c (Err z))
      end_halts {c} {z} ht = record {
        answers = λ n. onward s _ _ (weight (from s i n)) _ a w _ (hw.answers n) λ x m g.
            onward s _ _ (line branch_run (from s w m)) _ b u _ (updated w (late_in a) _ hu m) λ ws m₁ g₁.
            halted s _ _ (numbered number_of (from s u m₁)) _ c z (ht.answers m₁);
      }

      module _ {c : Carried} {t : ℕ} (ht : NumberFrom s u bounds.top (late_in b) (after c (Ok t))) where
        -- the branch, once it is known what it sets
        abbrev shape : Weight → List Numbered → Numbered → Maybe Numbered → BranchShape
        shape x ws e v = record { place = marks_at 0 s i; weight = x; words = ws; end = e; sets = v }

        -- behind its state
        abbrev closing : Weight → List Numbered → Numbered → Reader BranchShape
        closing x ws e s₁ = bind (sign ")" s₁) (λ u s₂. bind (sets (shares bounds.values) s₂) (λ v. return (shape x ws e v)))

        -- what is judged so far, and what it sets behind that
        judged_so : (x : Weight) (ws : List Numbered) (e : Numbered) (v : Maybe Numbered) (mid : Late)
            → mid ≡ judge (length s) (judged_state bounds.top e) (judge_all (length s) (judged_words (1 ∷ []) ws) (judge (length s) (judged_weight bounds.decimals x (marks_at 0 s i)) before))
            → judge_all (length s) (judged_set (most_of bounds.values) v) mid ≡ judge_all (length s) (judged_by bounds (shape x ws e v)) before
        unfolding judge_all
        judged_so x ws e v mid z =
            ap (judge_all (length s) (judged_set (most_of bounds.values) v)) z
            ∙ sym (judge_append (length s) (judged_words (1 ∷ []) ws) (judged_state bounds.top e ∷ judged_set (most_of bounds.values) v) (judge (length s) (judged_weight bounds.decimals x (marks_at 0 s i)) before))

        behind_end : (r : After) (n : ℕ)
            → ((x : Weight) (ws : List Numbered) (e : Numbered) (m : ℕ) → value_in a ≡ units_in x → value_in c ≡ e.value
            → ((v : Maybe Numbered) → judge_all (length s) (judged_set (most_of bounds.values) v) (late_in c) ≡ judge_all (length s) (judged_by bounds (shape x ws e v)) before)
            → BranchRead bounds s before was is place (closing x ws e (from s t m)) r)
            → BranchRead bounds s before was is place (branch_by bounds (from s i n)) r
        unfolding judge_all
        behind_end r n h = onward s _ _ (weight (from s i n)) _ a w r (hw.answers n) λ x m g.
            onward s _ _ (line branch_run (from s w m)) _ b u r (updated w (late_in a) _ hu m) λ ws m₁ g₁.
            onward s _ _ (numbered number_of (from s u m₁)) _ c t r (ht.answers m₁) λ e m₂ g₂.
            h x ws e m₂ g.value g₂.value λ v.
            judged_so x ws e v (late_in c) (g₂.late ∙ ap (judge (length s) (judged_state bounds.top e)) (g₁ ∙ ap (judge_all (length s) (judged_words (1 ∷ []) ws)) g.late))

        closed : {y : NextPlace} → SignFrom s t (kind ")") y → (n : ℕ) → SignRead s c (sign ")" (from s t n)) (after c y)
        closed hf n = hf.answers ")" close refl n c

        pub close_halts : {z : Refusal} → SignFrom s t (kind ")") (Err z) → BranchIs (after c (Err z))
        close_halts {z} hf = record { answers = λ n. behind_end _ n λ x ws y m g h j. halted s _ _ (sign ")" (from s t m)) _ c z (closed hf m) }

        module _ {f : ℕ} (hf : SignFrom s t (kind ")") (Ok f)) where
          pub sets_halt : {g : Carried} {z : Refusal} → SetsFrom s f bounds.values (late_in c) (after g (Err z)) → BranchIs (after g (Err z))
          sets_halt {g} {z} hl = record {
            answers = λ n. behind_end _ n λ x ws y m p h j. onward s _ _ (sign ")" (from s t m)) _ c f _ (closed hf m) λ u m₁ q.
                halted s _ _ (sets (shares bounds.values) (from s f m₁)) _ g z (hl.answers m₁);
          }

          pub branch_read : {g : Carried} {l : ℕ} → SetsFrom s f bounds.values (late_in c) (after g (Ok l))
              → is ≡ set was place (pack_branch (min (value_in a) unit) (min (value_in g) numbers) (min (value_in c) numbers)) → BranchIs (after (record g { value = value_in a }) (Ok l))
          branch_read {g} {l} hl array = record {
            answers = λ n. behind_end _ n λ x ws y m p h j. onward s _ _ (sign ")" (from s t m)) _ c f _ (closed hf m) λ u m₁ z.
                onward s _ _ (sets (shares bounds.values) (from s f m₁)) _ g l _ (hl.answers m₁) λ v m₂ q.
                record { rest = refl; told = record { went = record { value = p; late = q.late ∙ j v }; array = array ∙ packed (shape x ws y v) p q.value h } };
          }
            where
              packed : (b : BranchShape) → value_in a ≡ units_in b.weight → value_in g ≡ set_in b.sets → value_in c ≡ b.end.value
                  → set was place (pack_branch (min (value_in a) unit) (min (value_in g) numbers) (min (value_in c) numbers)) ≡ set was place (packed_in b)
              packed b p q h = rw (p, q, h)

pub branch_few : {bounds : Bounds} {s : List ℕ} {i : ℕ} {before : Late} {was is : List ℕ} {place : ℕ} {state : Carried} {next : ℕ} → BranchFrom bounds s i before was is place (after state (Ok next)) → value_in state ≤ unit
branch_few {bounds} {s} {i} {before} {was} {is} {place} {state} {next} h = go (branch_by bounds (from s i 0)) (h.answers 0)
  where
    go : (x : Result BranchShape) → BranchRead bounds s before was is place x (after state (Ok next)) → value_in state ≤ unit
    go (ok b t) y = omega (arith, y.told.went.value, units_most b.weight)
    go (stop n p) y = went_on y

-- ---- the branches

-- what ends them, and a branch before the others
abbrev pub ends : List BranchShape → Reader BranchesShape
ends bs s = bind (sign ";" s) (λ u. return (record { branches = bs; close = s.marks }))

abbrev pub more : BranchShape → BranchesShape → BranchesShape
more a x = record { branches = a ∷ x.branches; close = x.close }

step : (a : BranchShape) (bs : List BranchShape) (s : State) → ends (a ∷ bs) s ≡ bind (ends bs s) (λ x. return (more a x))
step a bs s = go (sign ";" s)
  where
    go : (y : Result (Unit {0})) → bind y (λ u. return (record { branches = a ∷ bs; close = s.marks })) ≡ bind (bind y (λ u. return (record { branches = bs; close = s.marks }))) (λ x. return (more a x))
    go (ok u t) = refl
    go (stop n p) = refl

plus : Told "+"
plus = told "+" (omega arith)

abbrev next_by : Bounds → Reader BranchShape
next_by bounds = next_branch (shares bounds.values)

module _ (bounds : Bounds) where
  -- behind a branch
  abbrev pub further : ℕ → Reader BranchesShape
  further = up_to "+" (next_by bounds) past_branches ends

  -- behind a `+` or the arrow: so many branches may still stand there
  abbrev pub rest : ℕ → Reader BranchesShape
  rest zero = λ s. bind (the weight_of s) (λ w. refuse_at past_limit s.marks)
  rest (suc most) = λ s. bind (branch_by bounds s) (λ a s₁. bind (further most s₁) (λ x. return (more a x)))

  pub rest_whole : (most : ℕ) (s : State) → branches bounds most s ≡ rest (suc most) s
  rest_whole most s = with_first "+" (next_by bounds) past_branches ends more step (branch_by bounds s) most

  behind_plus : (most : ℕ) (s : List ℕ) (i : ℕ) (x : Step) (v : Next s i x) → x.mark.kind ≡ kind "+" → (n : ℕ) → further most (from s i n) ≡ rest most (from s x.next.at n)
  behind_plus zero s i x v e n =
      too_many "+" (next_by bounds) past_branches ends more step plus s i x v e n
      ∙ ap (λ (y : Result (Unit {0})). bind (bind y (λ u s₁. bind (the weight_of s₁) (λ w. refuse_at past_limit s₁.marks))) ends) (sign_took "+" plus s i x v e n)
      ∙ go (from s x.next.at n) (the weight_of (from s x.next.at n))
    where
      go : (t : State) (y : Result Weight) → bind (bind y (λ w. refuse_at past_limit t.marks)) ends ≡ bind y (λ w. refuse_at past_limit t.marks)
      go t (ok w t₁) = refl
      go t (stop m p) = refl
  behind_plus (suc most) s i x v e n =
      another "+" (next_by bounds) past_branches ends more step plus s i x v e most n
      ∙ ap (λ (y : Result (Unit {0})). bind (bind y (λ u. branch_by bounds)) (λ a s₁. bind (further most s₁) (λ x. return (more a x)))) (sign_took "+" plus s i x v e n)

-- with the branches so far counted in
pub record Counted (bounds : Bounds) (s : List ℕ) (first count total : ℕ) (before : Late) (was is : List ℕ) (x : BranchesShape) (state : Carried) : Type 0 where
  pub value : value_in state ≡ count + length x.branches
  pub late : late_in state ≡ sum_by (total + total_units (map weight_in x.branches)) (place_of (length s) x.close) (judge_all (length s) (judged_each (judged_by bounds) x.branches) before)
  pub array : is ≡ stored was (first + count) (map packed_in x.branches)

abbrev pub RestRead : Bounds → List ℕ → ℕ → ℕ → ℕ → Late → List ℕ → List ℕ → Result BranchesShape → After → Type 0
RestRead bounds s first count total late was is = Answers s (Counted bounds s first count total late was is)

-- before the first branch
pub none_counted : (bounds : Bounds) (s : List ℕ) (first : ℕ) (late : Late) (was is : List ℕ) (x : Result BranchesShape) (r : After) → RestRead bounds s first 0 0 late was is x r → BranchesRead bounds s late was is first x r
unfolding judge_all
none_counted bounds s first late was is (ok x b) r y =
    let z = y.told in
    record {
      rest = y.rest;
      told = record {
        went = record {
          value = z.value ∙ zero-add (length x.branches);
          late = z.late ∙ ap (λ (t : ℕ). sum_by t (place_of (length s) x.close) (judge_all (length s) (judged_each (judged_by bounds) x.branches) late)) (zero-add (total_units (map weight_in x.branches)))
              ∙ sym (judge_append (length s) (judged_each (judged_by bounds) x.branches) (sum (map weight_in x.branches) x.close ∷ []) late);
        };
        array = z.array ∙ ap (λ (f : ℕ). stored was f (map packed_in x.branches)) (add-zero first);
      };
    }
none_counted bounds s first late was is (stop n p) r y = y

module _ (bounds : Bounds) (s : List ℕ) (first count total : ℕ) (late : Late) (was is : List ℕ) (i most n : ℕ) where
  abbrev RestIs : After → Type 0
  RestIs = RestRead bounds s first count total late was is (rest bounds (suc most) (from s i n))

  pub branch_stops : (state : Carried) (z : Refusal) (now : List ℕ) → ((n : ℕ) → BranchRead bounds s late was now (first + count) (branch_by bounds (from s i n)) (after state (Err z))) → RestIs (after state (Err z))
  branch_stops state z now hb = halted s _ _ (branch_by bounds (from s i n)) _ state z (hb n)

  module _ (state : Carried) (b : ℕ) (now : List ℕ) (hb : (n : ℕ) → BranchRead bounds s late was now (first + count) (branch_by bounds (from s i n)) (after state (Ok b))) where
    -- one branch is counted, and the rest is read behind it
    one_counted : (r : After) → ((m : ℕ) → RestRead bounds s first (count + 1) (total + value_in state) (late_in state) now is (further bounds most (from s b m)) r) → RestIs r
    unfolding judge_all stored
    one_counted r y = onward s _ _ (branch_by bounds (from s i n)) _ state b r (hb n) λ a m g.
        made s _ _ (further bounds most (from s b m)) (more a) r (y m) λ z h.
        let units : total + value_in state + total_units (map weight_in z.branches) ≡ total + (units_in a.weight + total_units (map weight_in z.branches)) = omega (arith, g.went.value) in
        let place : first + (count + 1) ≡ first + count + 1 = omega arith in
        record {
          value = omega (arith, h.value);
          late = h.late
              ∙ ap (λ (u : ℕ). sum_by u (place_of (length s) z.close) (judge_all (length s) (judged_each (judged_by bounds) z.branches) (late_in state))) units
              ∙ ap (λ (l : Late). sum_by (total + (units_in a.weight + total_units (map weight_in z.branches))) (place_of (length s) z.close) l)
              (ap (judge_all (length s) (judged_each (judged_by bounds) z.branches)) g.went.late ∙ sym (judge_append (length s) (judged_by bounds a) (judged_each (judged_by bounds) z.branches) late));
          array = h.array ∙ rw g.array (ap (λ (u : ℕ). stored (set was (first + count) (packed_in a)) u (map packed_in z.branches)) place);
        }

    module _ (x : Step) (v : Next s b x) where
      pub one_more : x.mark.kind ≡ kind "+" → (r : After)
          → ((m : ℕ) → RestRead bounds s first (count + 1) (total + value_in state) (late_in state) now is (rest bounds most (from s x.next.at m)) r) → RestIs r
      one_more f r y = one_counted r λ m. rw (behind_plus bounds most s b x v f m) (y m)

      module _ (d : x.mark.kind ≡ kind "+" → ⊥) where
        last : (r : After) → ((m : ℕ) → RestRead bounds s first (count + 1) (total + value_in state) (late_in state) now is (ends [] (from s b m)) r) → RestIs r
        last r y = one_counted r λ m. rw (no_other "+" (next_by bounds) past_branches ends more step plus s b x v d most m) (y m)

        pub sum_stops : (x.mark.kind ≡ kind ";" → ⊥) → (r : After) → Halted out_of_shape x.mark.place r → RestIs r
        sum_stops f r h = last r λ m. sign_misses ";" semicolon s b _ x v m _ r f h

        pub sum_read : x.mark.kind ≡ kind ";" → is ≡ now → (end : Carried) → value_in end ≡ count + 1 → late_in end ≡ sum_by (total + value_in state) x.mark.place (late_in state)
            → RestIs (after end (Ok x.next.at))
        unfolding judge_all stored
        sum_read f z end g h = last _ λ m. sign_fits ";" semicolon s b _ x v m _ _ f
            (record { rest = refl; told = record { value = omega (arith, g); late = h ∙ rw (place_seen s b x v, add-zero (total + value_in state)); array = z } })

-- the mark behind the last branch, and where one branch too many begins
pub close_stops : {m : Found} {next count total : ℕ} {late : Late} (state : Carried) → (m.kind ≡ kind ";" → ⊥) → ClosedBy m next count total late (after state (Err (refusal out_of_shape m.place)))
close_stops state e = record { closes = λ f. absurd (e f); stops = λ f. stopped state }

pub close_read : {m : Found} {next count total : ℕ} (was : Carried) {is : Carried} → m.kind ≡ kind ";" → is ≡ with_late was (sum_by total m.place (late_in was))
    → ClosedBy m next count total (late_in was) (after (record is { value = count }) (Ok next))
close_read was e h = record { closes = λ f. (refl, refl, ap late_in h); stops = λ f. absurd (f e) }

-- one branch too many
module _ (bounds : Bounds) (s : List ℕ) (first count total : ℕ) (late : Late) (was is : List ℕ) (i n : ℕ) (x : Step) (v : Next s i x) (r : After) where
  abbrev PastIs : Type 0
  PastIs = RestRead bounds s first count total late was is (rest bounds 0 (from s i n)) r

  past_weight : (w : Weight) → mark_weight x.mark ≡ some w → Halted past_limit x.mark.place r → PastIs
  past_weight w e h = fits s _ weight_of mark_weight weight_shown i x v n w e _ _ (rw (← place_seen s i x v) h)

  pub past_number : x.mark.kind ≡ k_number → Halted past_limit x.mark.place r → PastIs
  past_number e = past_weight (whole x.mark.value) (rw (eq-eqb _ _ e))

  pub past_decimal : x.mark.kind ≡ k_decimal → Halted past_limit x.mark.place r → PastIs
  past_decimal e = past_weight (point x.mark.value x.mark.digits x.mark.further) (rw e)

  pub past_misses : (x.mark.kind ≡ k_decimal → ⊥) → (x.mark.kind ≡ k_number → ⊥) → Halted out_of_shape x.mark.place r → PastIs
  past_misses d e h = misses s _ weight_of mark_weight weight_shown i x v n (rw (ne_eqb _ _ d, ne_eqb _ _ e)) _ r h

-- ---- the loop: an answer to what is left answers the whole

pub record Going (bounds : Bounds) (s : List ℕ) (first : ℕ) (before : Late) (was : List ℕ) (i count total : ℕ) (now : List ℕ) (next : ℕ) (state : Carried) : Type 0 where
  pub small : total ≤ count * unit
  pub whole : (r : After) (is : List ℕ) → ((m : ℕ) → RestRead bounds s first count total (late_in state) now is (rest bounds (most_branches - count) (from s next m)) r)
      → (n : ℕ) → BranchesRead bounds s before was is first (branches bounds (most_branches - 1) (from s i n)) r

pub going_start : {bounds : Bounds} {s : List ℕ} {first : ℕ} {was : List ℕ} {i : ℕ} (state : Carried) → Going bounds s first (late_in state) was i 0 0 was i state
going_start {bounds} {s} {first} {was} {i} state = record {
  small = omega arith;
  whole = λ r is y n. none_counted bounds s first (late_in state) was is (branches bounds (most_branches - 1) (from s i n)) r (rw (rest_whole bounds (most_branches - 1) (from s i n)) (y n));
}

module _ {bounds : Bounds} {s : List ℕ} {first : ℕ} {before : Late} {was : List ℕ} {i count total : ℕ} {now : List ℕ} {next : ℕ} {state : Carried} (g : Going bounds s first before was i count total now next state) where
  module _ (l : count < most_branches) where
    one_less : most_branches - count ≡ suc (most_branches - (count + 1))
    one_less = omega arith

    -- the rest as the reader of one branch and what follows
    opened : (is : List ℕ) (r : After) → ((m : ℕ) → RestRead bounds s first count total (late_in state) now is (rest bounds (suc (most_branches - (count + 1))) (from s next m)) r)
        → (n : ℕ) → BranchesRead bounds s before was is first (branches bounds (most_branches - 1) (from s i n)) r
    opened is r y = g.whole r is λ m. rw one_less (y m)

    pub going_stops : {new : List ℕ} {end : Carried} {z : Refusal} → BranchFrom bounds s next (late_in state) now new (first + count) (after end (Err z)) → BranchesFrom bounds s i before was new first (after end (Err z))
    going_stops {new} {end} {z} hb = record { answers = opened new _ λ m. branch_stops bounds s first count total (late_in state) now new next (most_branches - (count + 1)) m end z new hb.answers }

    module _ {new : List ℕ} {end : Carried} {b : ℕ} (hb : BranchFrom bounds s next (late_in state) now new (first + count) (after end (Ok b))) {x : Step} (v : Next s b x) where
      pub going_closed : (x.mark.kind ≡ kind "+" → ⊥) → {r : After} → ClosedBy x.mark x.next.at (count + 1) (total + value_in end) (late_in end) r → BranchesFrom bounds s i before was new first r
      going_closed d {r} c = record { answers = opened new r λ m. by m (eqb x.mark.kind (kind ";")) refl }
        where
          by : (m : ℕ) (t : Bool) → eqb x.mark.kind (kind ";") ≡ t → RestRead bounds s first count total (late_in state) now new (rest bounds (suc (most_branches - (count + 1))) (from s next m)) r
          by m true f =
              let h = c.closes (eqb-true _ _ f) in
              let same : r ≡ after r.state (Ok x.next.at) = λ q. after r.state (h.0 q) in
              rw same (sum_read bounds s first count total (late_in state) now new next (most_branches - (count + 1)) m end b new hb.answers x v d (eqb-true _ _ f) refl r.state h.1 h.2)
          by m false f = sum_stops bounds s first count total (late_in state) now new next (most_branches - (count + 1)) m end b new hb.answers x v d (eqb-false _ _ f) r (c.stops (eqb-false _ _ f))

      pub going_more : x.mark.kind ≡ kind "+" → Going bounds s first before was i (count + 1) (total + value_in end) new x.next.at end
      going_more f = record {
        small = omega (arith, g.small, branch_few hb);
        whole = λ r is y. opened is r λ m. one_more bounds s first count total (late_in state) now is next (most_branches - (count + 1)) m end b new hb.answers x v f r y;
      }

  pub going_past : most_branches ≤ count → {x : Step} → Next s next x → {e : Refusal} → e ≡ past_by x.mark → BranchesFrom bounds s i before was now first (after state (Err e))
  going_past l {x} v {e} h = record {
    answers = g.whole _ now λ m.
        let z : most_branches - count ≡ 0 = omega arith in
        rw (z, h) (by m (eqb x.mark.kind k_number) refl (eqb x.mark.kind k_decimal) refl);
  }
    where
      by : (m : ℕ) (t : Bool) → eqb x.mark.kind k_number ≡ t → (u : Bool) → eqb x.mark.kind k_decimal ≡ u
          → RestRead bounds s first count total (late_in state) now now (rest bounds 0 (from s next m)) (after state (Err (refusal (when t || u then past_limit else out_of_shape) x.mark.place)))
      by m true e u f = past_number bounds s first count total (late_in state) now now next m x v _ (eqb-true _ _ e) (stopped state)
      by m false e true f = past_decimal bounds s first count total (late_in state) now now next m x v _ (eqb-true _ _ f) (stopped state)
      by m false e false f = past_misses bounds s first count total (late_in state) now now next m x v _ (eqb-false _ _ f) (eqb-false _ _ e) (stopped state)
