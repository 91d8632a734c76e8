-- A question's claims stand in the order of the text, so that the first that does not fit is the earliest. Assumes nothing.
use Prim.Native.Nat.{ℕ, ◌<◌}
use mathlib.Core.Path.{◌≡◌, refl, sym, ap, ◌∙◌, subst}
use mathlib.Core.Bool.{Bool, true, false, false≢true}
use mathlib.Core.List.{List, [], ◌∷◌, ◌++◌, append_assoc}
use native.Mathlib.Omega.{arith}
use Rattle.card.specs.Text.{when◌then◌else◌}
use Rattle.card.specs.Card.{Sign, all, any, Formula}
use Rattle.card.specs.Valid.{Every}
use Rattle.marks_on_a_card.specs.Marks.{seat, number, Placed, placed, place_of}
use Rattle.reading.specs.Reader.{Place}
use Rattle.reading.specs.Group.{joint, relation}
use Rattle.reading.specs.Judgements.{Verdict, fine, wrong}
use Rattle.grammar.specs.Verdicts.{In, first, later}
use Rattle.grammar.specs.Grammar.{sign_at, literal, conjoined, disjoined, shared_test, Part, joining, FormulaSaid, grouped, negated, bracketed, single, further}
use Rattle.reading.proofs.Rising.{Rises, rises_part, later_place}
use Rattle.grammar.proofs.Along.{strictly, Along, along_then, along_behind, along_before}
use Rattle.asking.specs.Question.{Item, ItemSaid, of_group, of_terms, of_test, a_term, NoneStarts, QuestionSaid, asks}
use Rattle.asking.specs.Asking.{Claim, claim_at, due, claims_of, claims, KeptIn, fits, first_unfit}
use Rattle.asking.proofs.Seen.{others_move, joined_suffix}
use Rattle.asking.proofs.Fitting.{fits_kept, kept_fits}

abbrev pub Claiming : Place → List Claim → Place → Type 0
Claiming = Along strictly claim_at

-- ---- in the order of the text

item_claims : (k m : ℕ) {shared : Bool} {a : ℕ} {ms r : Place} {x : Item} → ItemSaid shared (sign_at "(" a ∷ ms) ms x r → Claiming (sign_at "(" a ∷ ms) (claims_of k m x) r
item_claims k m {a = a} (of_group (conjoined {ns = ns} (literal {i} {d} {a = b} {b = c} {c = e} {q}) o)) =
    let v = others_move o in
    ([], sign_at "(" a, _, refl, refl, (placed (seat i) b ∷ sign_at (relation q) c ∷ [], placed (number d) e, ns, refl, refl, (v.pre, v.split)))
item_claims k m {a = a} (of_group (disjoined {ns = ns} (literal {i} {d} {a = b} {b = c} {c = e} {q}) o)) =
    let v = others_move o in
    ([], sign_at "(" a, _, refl, refl, (placed (seat i) b ∷ sign_at (relation q) c ∷ [], placed (number d) e, ns, refl, refl, (v.pre, v.split)))
item_claims k m {a = a} {r = r} (of_terms (a_term {a = z} {ns = ns} (literal {i} {d} {a = b} {b = c} {c = e} {q}) o) f j) =
    let v = others_move o in
    let (w, y) = joined_suffix j in (
      [],
      sign_at "(" a,
      _,
      refl,
      refl,
      (sign_at "(" z ∷ placed (seat i) b ∷ sign_at (relation q) c ∷ [], placed (number d) e, ns, refl, refl, (v.pre ++ w, v.split ∙ ap (λ x. v.pre ++ x) y ∙ sym (append_assoc v.pre w r))),
    )
item_claims k m {a = o} (of_test (shared_test {v} {a} {b} {c} {d} {q} {r})) =
    (sign_at "(" o ∷ sign_at "g" a ∷ sign_at (relation q) b ∷ [], placed (number v) c, sign_at ")" d ∷ r, refl, refl, (sign_at ")" d ∷ [], refl))

joined_claims : (k m : ℕ) (s : Sign) (ms r : Place) (g h : Formula Item) → Claiming ms (claims k m g ++ claims k m h) r → Claiming ms (claims k m (joining s g h)) r
joined_claims k m all ms r g h c = c
joined_claims k m any ms r g h c = c

pub formula_claims : (k m : ℕ) {shared : Bool} {v : Part} {ms r : Place} {g : Formula Item} → FormulaSaid NoneStarts (ItemSaid shared) v ms g r → Claiming ms (claims k m g) r
formula_claims k m (grouped d) = item_claims k m d
formula_claims k m (negated {a} {ms} {r} {g} u) = along_behind strictly claim_at (sign_at "!" a) ms r (claims k m g) (formula_claims k m u)
formula_claims k m (bracketed {a} {b} {ms} {r} {g} f u) =
    along_behind strictly claim_at (sign_at "(" a) ms r (claims k m g)
    (along_before strictly claim_at ms (sign_at ")" b ∷ r) r (claims k m g) (formula_claims k m u) (sign_at ")" b ∷ []) refl)
formula_claims k m (single u) = formula_claims k m u
formula_claims k m (further {s} {a} {ms} {ns} {r} {g} {h} us u) =
    joined_claims k m s ms r g h
    (along_then strictly claim_at ms (sign_at (joint s) a ∷ ns) r (claims k m g) (claims k m h) (formula_claims k m us)
    (along_behind strictly claim_at (sign_at (joint s) a) ns r (claims k m h) (formula_claims k m u)))

pub question_claims : (k m : ℕ) {shared : Bool} {ms : Place} {g : Formula Item} → QuestionSaid shared ms g → Claiming ms (claims k m g) []
question_claims k m (asks d) = formula_claims k m d

-- ---- so the first that does not fit is the earliest

fine≢wrong : {B : Type 0} {r : ℕ} {p : Place} → fine ≡ wrong r p → B
fine≢wrong e = let z : ◌≡◌ {A = ℕ} 0 1 = cc in absurd (omega arith)

wrong_number : {r i : ℕ} {p q : Place} → wrong r p ≡ wrong i q → r ≡ i
wrong_number e = cc

wrong_place : {r i : ℕ} {p q : Place} → wrong r p ≡ wrong i q → p ≡ q
wrong_place e = cc

-- behind a mark all places are later
along_later : (a e : ℕ) (m : Placed) (q r : Place) (cs : List Claim) → Claiming q cs r → Rises a e (m ∷ q) → (c : Claim) → In c cs
    → place_of e (m ∷ q) < place_of e (claim_at c)
along_later a e m q r [] _ h c i = elim i [ ]
along_later a e m q r (c ∷ cs) (u, o, t, z, i, k) h _ first = rw (z, i) (later_place a e m u (o ∷ t) (subst (λ x. Rises a e (m ∷ x)) z h))
along_later a e m q r (x ∷ cs) (u, o, t, z, i, k) h c (later y) =
    let h₁ = subst (λ x. Rises a e (m ∷ x)) z h in
    let l : place_of e (m ∷ (u ++ (o ∷ t))) < place_of e (o ∷ t) = later_place a e m u (o ∷ t) h₁ in
    let (b, _, p) = rises_part a e (m ∷ u) (o ∷ t) h₁ in
    let l₁ = along_later b e o t r cs k p c y in
    rw z (omega arith)

module _ (n : ℕ) where
  -- what is first unfit at a claim x before others cs, by its test
  abbrev Found : Bool → Claim → List Claim → Verdict
  Found b x cs = when b then first_unfit n cs else wrong (due x) (claim_at x)

  pub none_unfit : (cs : List Claim) → first_unfit n cs ≡ fine → Every (KeptIn n) cs
  none_unfit [] z = tt
  none_unfit (x ∷ cs) z = go (fits n x) refl z (none_unfit cs)
    where
      go : (b : Bool) → fits n x ≡ b → Found b x cs ≡ fine → (first_unfit n cs ≡ fine → Every (KeptIn n) cs) → Every (KeptIn n) (x ∷ cs)
      go true y z f = (fits_kept n x y, f z)
      go false y z f = fine≢wrong (sym z)

  pub all_fit : (cs : List Claim) → Every (KeptIn n) cs → first_unfit n cs ≡ fine
  all_fit [] w = refl
  all_fit (x ∷ cs) w = rw (kept_fits n x w.0) (all_fit cs w.1)

  -- on a question that ends at place e
  module _ (e : ℕ) where
    pub record FirstUnfit (cs : List Claim) (r : ℕ) (p : Place) : Type 0 where
      pub claim : Claim
      pub judged : In claim cs
      pub number : due claim ≡ r
      pub place : claim_at claim ≡ p
      pub broken : KeptIn n claim → ⊥
      pub earlier : (c : Claim) → In c cs → place_of e (claim_at c) < place_of e (claim_at claim) → KeptIn n c

    pub first_unfit_law : (ms r : Place) (a : ℕ) (cs : List Claim) → Claiming ms cs r → Rises a e ms → (i : ℕ) (p : Place) → first_unfit n cs ≡ wrong i p
        → FirstUnfit cs i p
    first_unfit_law ms r a [] l h i p z = fine≢wrong z
    first_unfit_law ms r a (x ∷ cs) (u, m, q, y, o, l) h i p z =
        let (b, _, h₁) = rises_part a e u (m ∷ q) (rw y at h) in
        let (c, _, h₂) = rises_part b e (m ∷ []) q h₁ in
        go (fits n x) refl z (λ c y. rw o (along_later b e m q r cs l h₁ c y)) (first_unfit_law q r c cs l h₂ i p)
      where
        go : (b : Bool) → fits n x ≡ b → Found b x cs ≡ wrong i p → ((c : Claim) → In c cs → place_of e (claim_at x) < place_of e (claim_at c))
            → (first_unfit n cs ≡ wrong i p → FirstUnfit cs i p) → FirstUnfit (x ∷ cs) i p
        go true y z h f = let w = f z in
            record { claim = w.claim; judged = later w.judged; number = w.number; place = w.place; broken = w.broken; earlier = earlier w }
          where
            earlier : (w : FirstUnfit cs i p) (c : Claim) → In c (x ∷ cs) → place_of e (claim_at c) < place_of e (claim_at w.claim) → KeptIn n c
            earlier w _ first l = fits_kept n x y
            earlier w c (later o) l = w.earlier c o l
        go false y z h f =
            record { claim = x; judged = first; number = wrong_number z; place = wrong_place z; broken = λ c. false≢true (sym y ∙ kept_fits n x c); earlier = earlier }
          where
            earlier : (c : Claim) → In c (x ∷ cs) → place_of e (claim_at c) < place_of e (claim_at x) → KeptIn n c
            earlier _ first l = absurd (omega arith)
            earlier c (later o) l = absurd (omega (arith, h c o))

    pub unfit_first : (ms r : Place) (a : ℕ) (cs : List Claim) → Claiming ms cs r → Rises a e ms → (c : Claim) → In c cs → (KeptIn n c → ⊥)
        → ((i : Claim) → In i cs → place_of e (claim_at i) < place_of e (claim_at c) → KeptIn n i) → first_unfit n cs ≡ wrong (due c) (claim_at c)
    unfit_first ms r a [] _ h j i c f = elim i [ ]
    unfit_first ms r a (x ∷ cs) (u, m, q, y, o, l) h _ first c f = go (fits n x) refl
      where
        go : (b : Bool) → fits n x ≡ b → Found b x cs ≡ wrong (due x) (claim_at x)
        go true z = absurd (c (fits_kept n x z))
        go false z = refl
    unfit_first ms r a (x ∷ cs) (u, m, q, y, o, l) h j (later i) c f =
        let (b, _, h₁) = rises_part a e u (m ∷ q) (rw y at h) in
        let (d, _, h₂) = rises_part b e (m ∷ []) q h₁ in
        rw (kept_fits n x (f x first (rw o (along_later b e m q r cs l h₁ j i)))) (unfit_first q r d cs l h₂ j i c (λ i y. f i (later y)))
