-- By citing what a valid card is, and by cases on its declaration. Assumes nothing.
use Prim.Native.Nat.{ℕ}
use mathlib.Core.Path.{◌≡◌, refl, sym, ap, ◌∙◌, subst}
use mathlib.Core.List.{List, [], ◌∷◌}
use mathlib.Core.Option.{Option, none, some}
use native.Mathlib.Nat.{not-suc-le-zero}
use mathlib.Core.Bool.{true, not, false≢true}
use mathlib.Core.Logic.{◌↔◌}
use borrow.Author.Tests.{eqb-true, eq-eqb, ne_eqb}
use lib.Dec.{eqb}
use Rattle.card.specs.Weight.{card_rule}
use Rattle.card.specs.Card.{Leaf, atom, neg, and, or, Guard, Branch, Statement, Shared, Card}
use Rattle.card.specs.Valid.{Every, values_of, ValidLeaf, ValidLeaves, ValidGuard, ValidSet, ValidBranch, ValidStatement, ValidShared}
use Rattle.card.specs.Formulas.{EveryAtom}
use Rattle.reading.specs.Reading.{taken, read_of}
use Rattle.grammar.proofs.Theorems.{read_valid}
use Rattle.meaning.specs.Seats.{Seating, ValidSeating}
use Rattle.meaning.specs.Reduced.{reduce}
use Rattle.meaning.specs.Panel.{shared_shown, panel}
use Rattle.seating.specs.Judged.{bytes_due, seating_of, Seated, bytes_in, bytes_of}
use Rattle.seating.proofs.Judging.{valid_exactly}
use Rattle.seating.proofs.Bytes.{bytes_back, bytes_seated}
use Rattle.classes.specs.Classes.{class_counts, classes_text, watch_of}
use Rattle.classes.specs.ClassesSaid.{classes_said}
use Rattle.entry.specs.Said.{says, ◌>>=◌}
use Rattle.watch_said.specs.WatchSaid.{watch_said}
use Rattle.night_edges.proofs.NightEdges.{reading_edges, text_edges, panel_edges, other_edges}
use Rattle.promises.specs.DayAndNight.{NoTest, Unshared, DayAndNight}

-- ---- without a declaration the number has no values

leaf_untested : (n k : ℕ) (a : Leaf) → ValidLeaf n k 0 a → NoTest a
leaf_untested n k a v q d e = not-suc-le-zero (subst (ValidLeaf n k 0) e v)

guard_untested : (n k : ℕ) (g : Guard) → ValidLeaves n k 0 g → EveryAtom NoTest g
guard_untested n k (atom a) v = leaf_untested n k a v
guard_untested n k (neg g) v = guard_untested n k g v
guard_untested n k (and g h) v = (guard_untested n k g v.0, guard_untested n k h v.1)
guard_untested n k (or g h) v = (guard_untested n k g v.0, guard_untested n k h v.1)

nothing_set : (o : Option ℕ) → ValidSet 0 o → o ≡ none
nothing_set none v = refl
nothing_set (some d) v = absurd (not-suc-le-zero v)

unset : (k : ℕ) (l : List Branch) → Every (ValidBranch k 0) l → Every (λ (b : Branch). b.sets ≡ none) l
unset k [] v = tt
unset k (b ∷ l) v = (nothing_set b.sets v.0.sets, unset k l v.1)

unshared : (n k : ℕ) (l : List Statement) → Every (ValidStatement n k 0) l → Every Unshared l
unshared n k [] v = tt
unshared n k (s ∷ l) v = (
  record { tests = λ g e. guard_untested n k g (subst (ValidGuard n k 0) e v.0.guard).0; sets = unset k s.branches v.0.branches },
  unshared n k l v.1,
)

-- ---- tests

is_exactly : (a b : ℕ) → (eqb a b ≡ true) ↔ (a ≡ b)
is_exactly a b = (eqb-true a b, eq-eqb a b)

isnt_exactly : (a b : ℕ) → (not (eqb a b) ≡ true) ↔ (a ≡ b → ⊥)
isnt_exactly a b = (
  λ e z. false≢true (sym (ap not (eq-eqb a b z)) ∙ e),
  λ n. ap not (ne_eqb a b n),
)

pub day_and_night : DayAndNight
unfolding reduce panel watch_said watch_of
day_and_night = record {
  declared = λ b c s h e. subst ValidShared e (read_valid card_rule b c h).shared;
  undeclared = λ b c h e. unshared c.n c.k c.statements
      (subst (λ (o : Option Shared). Every (ValidStatement c.n c.k (values_of o)) c.statements) e (read_valid card_rule b c h).statements);
  reduced = λ c. refl;
  tested = λ x i v. (is_exactly x.shared v, isnt_exactly x.shared v);
  asked = λ x v. (is_exactly x.shared v, isnt_exactly x.shared v);
  left = λ g. refl;
  made = λ g v. refl;
  seats = λ c x e. (ap (λ (o : Option Shared). bytes_due c.n (values_of o)) e, ap (λ (o : Option Shared). bytes_in o x) e);
  seats_and_one = λ c s x e. (ap (λ (o : Option Shared). bytes_due c.n (values_of o)) e, ap (λ (o : Option Shared). bytes_in o x) e);
  shown = λ c s x e. ap (λ (o : Option Shared). shared_shown o x.shared) e;
  not_shown = λ c x e. ap (λ (o : Option Shared). shared_shown o x.shared) e;
  unseen = λ card list c h x y ok ok' e. unseen card list c h x y ok ok' e;
  reading_edges = reading_edges;
  text_edges = text_edges;
  panel_edges = panel_edges;
  other_edges = other_edges;
}
  where
    same_line : (list : List ℕ) (x y : Seating) → x.each ≡ y.each → watch_of list x ≡ watch_of list y
    same_line list x y e = ap (λ (z : List ℕ). classes_text (class_counts list z)) e

    seated : (card list : List ℕ) (c : Card) → read_of card ≡ taken c → (b : List ℕ) → Seated c b → watch_said card b list ≡ (classes_said list c >>= (λ _. says (watch_of list (seating_of c b))))
    seated card list c h b s = rw (h, (valid_exactly c b).1 s)

    of_seating : (card list : List ℕ) (c : Card) → read_of card ≡ taken c → (x : Seating) → ValidSeating c x → watch_said card (bytes_of c x) list ≡ (classes_said list c >>= (λ _. says (watch_of list x)))
    of_seating card list c h x ok = seated card list c h (bytes_of c x) (bytes_seated c x ok) ∙ ap (λ (y : Seating). classes_said list c >>= (λ _. says (watch_of list y))) (bytes_back c x ok)

    unseen : (card list : List ℕ) (c : Card) → read_of card ≡ taken c → (x y : Seating) → ValidSeating c x → ValidSeating c y → x.each ≡ y.each
        → watch_said card (bytes_of c x) list ≡ watch_said card (bytes_of c y) list
    unseen card list c h x y ok ok' e =
        of_seating card list c h x ok ∙ ap (λ (t : List ℕ). classes_said list c >>= (λ _. says t)) (same_line list x y e) ∙ sym (of_seating card list c h y ok')
