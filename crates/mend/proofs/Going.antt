-- The contents gone through: fates found so far before those still to be found, entries kept so far before those still to be kept; an entry moves one from here to there. Assumes nothing.
use Prim.Native.Nat.{ℕ, suc, ◌+◌, ◌-◌, ◌*◌, ◌≤◌, ◌<◌}
use mathlib.Core.Path.{◌≡◌, refl, sym, ap, ◌∙◌}
use mathlib.Core.List.{List, [], ◌∷◌, ◌++◌, map, append_assoc, append-nil, map-append}
use native.Mathlib.Omega.{arith}
use lib.ListN.{length, take, drop, set, length-append}
use lib.Seq.{drop-drop, drop-cons, take-append_seam, drop-append_seam, set_at}
use Rattle.std.specs.Prelude.{Option, None}
use Rattle.deck.specs.Contents.{Row, end_of, row_of, rows_of, count_of, behind}
use Rattle.deck.specs.Deck.{Entry, entry_of, body_of, bodies}
use Rattle.deck.specs.Sound.{Head}
use Rattle.deck.proofs.Kept.{body_long}
use Rattle.mending.specs.Mending.{Fate, kept, dropped, fate_of, least_behind, last_behind, fates_from, fates_in, kept_rows, kept_in}
use Rattle.mending.specs.FateBy.{fate_by}
use Rattle.mending.specs.declared.Rule.{Rule}
use Rattle.mending.proofs.Mended.{kept_right}
use Rattle.mending_walk.specs.declared.Walk.{Walk}
use Rattle.mending_walk.specs.Walking.{walk_before, walked_by, Roomy}
use Rattle.deck_entries.specs.Rows.{row_by}
use Rattle.deck_entries.specs.declared.Entry.{Entry as Fields}
use Rattle.mend.specs.Fated.{Fated}

abbrev kept_from : (deck : List ℕ) (least last : ℕ) → List Row → List Entry
kept_from deck least last rs = map (entry_of deck) (kept_rows (fates_from deck least last rs) rs)

-- the rows still to be judged
abbrev rows_left : (deck : List ℕ) (i at : ℕ) → List Row
rows_left deck i at = rows_of (count_of deck - i) (drop at deck)

pub record Going (deck : List ℕ) (was is : List (Option Rule)) (i at : ℕ) (w : Walk) : Type 0 where
  pub found : List (Option Rule)
  pub kept_so_far : List Entry
  pub long : length found ≡ i
  pub fates : fates_in deck ≡ map fate_by found ++ fates_from deck w.least w.last (rows_left deck i at)
  pub keeps : kept_in deck ≡ kept_so_far ++ kept_from deck w.least w.last (rows_left deck i at)
  pub stands : is ≡ found ++ drop i was
  pub cards : w.cards ≡ length kept_so_far
  pub bytes : w.bytes ≡ length (bodies kept_so_far)
  pub few : w.cards ≤ i
  pub short : behind (count_of deck) + w.bytes ≤ w.last
  pub inside : w.last ≤ length deck
  pub place : at ≡ 1 + 8 * i
  pub within : i ≤ count_of deck

bodies_append : (a b : List Entry) → bodies (a ++ b) ≡ bodies a ++ bodies b
bodies_append [] b = refl
bodies_append (e ∷ a) b = ap (λ (l : List ℕ). e.body ++ l) (bodies_append a b) ∙ sym (append_assoc e.body (bodies a) (bodies b))

module _ (deck : List ℕ) (h : Head deck) where
  pub begins : (was : List (Option Rule)) {c : ℕ} {w : Walk} → c ≡ count_of deck → w ≡ walk_before c → Going deck was was 0 1 w
  begins was {c} e is =
      let z : count_of deck - 0 ≡ count_of deck = omega arith in
      let b : 1 + 8 * c ≡ behind (count_of deck) = omega (arith, e) in
      rw is (record {
        found = [];
        kept_so_far = [];
        long = refl;
        fates = sym (rw (z, b) refl);
        keeps = sym (rw (z, b) refl);
        stands = refl;
        cards = refl;
        bytes = refl;
        few = omega arith;
        short = omega (arith, e);
        inside = omega (arith, e, h.whole);
        place = refl;
        within = omega arith;
      })

  module _ {was is : List (Option Rule)} {i at : ℕ} {w : Walk} (g : Going deck was is i at w) where
    pub ended : count_of deck ≤ i → Fated deck was is w
    ended l =
        let all : i ≡ count_of deck = omega (arith, g.within) in
        let none : count_of deck - i ≡ 0 = omega arith in
        let long : length g.found ≡ count_of deck = g.long ∙ all in
        let fates : fates_in deck ≡ map fate_by g.found
        = g.fates ∙ ap (λ (n : ℕ). map fate_by g.found ++ fates_from deck w.least w.last (rows_of n (drop at deck))) none ∙ append-nil (map fate_by g.found) in
        let keeps : kept_in deck ≡ g.kept_so_far
        = g.keeps ∙ ap (λ (n : ℕ). g.kept_so_far ++ kept_from deck w.least w.last (rows_of n (drop at deck))) none ∙ append-nil g.kept_so_far in
        record {
          fates =
              ap (λ (n : ℕ). map fate_by (take n is)) (sym long) ∙ ap (λ (t : List (Option Rule)). map fate_by (take (length g.found) t)) g.stands
              ∙ ap (map fate_by) (take-append_seam g.found (drop i was))
              ∙ sym fates;
          others =
              ap (λ (n : ℕ). drop n is) (sym long) ∙ ap (λ (t : List (Option Rule)). drop (length g.found) t) g.stands
              ∙ drop-append_seam g.found (drop i was)
              ∙ ap (λ (n : ℕ). drop n was) all;
          cards = g.cards ∙ ap length (sym keeps);
          bytes = g.bytes ∙ ap (λ (es : List Entry). length (bodies es)) (sym keeps);
          short = omega (arith, g.few, g.within, g.short, g.inside);
        }

    pub roomy : i < count_of deck → Roomy w
    roomy l = record { cards = omega (arith, g.few, h.few); bytes = omega (arith, g.short, g.inside, h.short) }

    pub in_contents : i < count_of deck → at + 8 ≤ length deck
    in_contents l = omega (arith, g.place, h.whole)

    -- one entry further: f is its fate, `more` what is kept of it
    module _ (l : i < count_of deck) (k : Option Rule) {v : Walk} (f : Fate) (more : List Entry) (e : fate_by k ≡ f)
        (ef : fate_of deck w.least w.last (row_of (drop at deck)) ≡ f)
        (least-is : v.least ≡ least_behind f (row_of (drop at deck)) w.least)
        (last-is : v.last ≡ last_behind f (row_of (drop at deck)) w.last)
        (kept-is : (fs : List Fate) (rs : List Row) → map (entry_of deck) (kept_rows (f ∷ fs) (row_of (drop at deck) ∷ rs)) ≡ more ++ map (entry_of deck) (kept_rows fs rs))
        (cards-are : v.cards ≡ w.cards + length more)
        (bytes-are : v.bytes ≡ w.bytes + length (bodies more))
        (few-more : length more ≤ 1)
        (IsShort-still : behind (count_of deck) + v.bytes ≤ v.last)
        (inside-still : v.last ≤ length deck)
        (room : i < length was) where
      abbrev rest : List Row
      rest = rows_left deck (i + 1) (at + 8)

      rows_are : rows_left deck i at ≡ row_of (drop at deck) ∷ rest
      rows_are =
          let n : count_of deck - i ≡ suc (count_of deck - (i + 1)) = omega arith in
          ap (λ (c : ℕ). rows_of c (drop at deck)) n
          ∙ ap (λ (t : List ℕ). row_of (drop at deck) ∷ rows_of (count_of deck - (i + 1)) t) (drop-drop 8 at deck)

      fates_are : fates_from deck w.least w.last (rows_left deck i at) ≡ f ∷ fates_from deck v.least v.last rest
      fates_are =
          ap (fates_from deck w.least w.last) rows_are
          ∙ ap (λ (x : Fate). x ∷ fates_from deck (least_behind x (row_of (drop at deck)) w.least) (last_behind x (row_of (drop at deck)) w.last) rest) ef
          ∙ ap (λ (n : ℕ). f ∷ fates_from deck n (last_behind f (row_of (drop at deck)) w.last) rest) (sym least-is)
          ∙ ap (λ (n : ℕ). f ∷ fates_from deck v.least n rest) (sym last-is)

      kept_are : kept_from deck w.least w.last (rows_left deck i at) ≡ more ++ kept_from deck v.least v.last rest
      kept_are =
          ap (λ (fs : List Fate). map (entry_of deck) (kept_rows fs (rows_left deck i at))) fates_are
          ∙ ap (λ (rs : List Row). map (entry_of deck) (kept_rows (f ∷ fates_from deck v.least v.last rest) rs)) rows_are
          ∙ kept-is (fates_from deck v.least v.last rest) rest

      stored_are : set is i k ≡ (g.found ++ k ∷ []) ++ drop (i + 1) was
      stored_are =
          let one : i + 1 ≡ suc i = omega arith in
          ap (λ (t : List (Option Rule)). set t i k) (g.stands ∙ ap (λ (t : List (Option Rule)). g.found ++ t) (drop-cons was i None room))
          ∙ set_at g.found _ (drop (suc i) was) k i g.long
          ∙ sym (append_assoc g.found (k ∷ []) (drop (suc i) was))
          ∙ ap (λ (n : ℕ). (g.found ++ k ∷ []) ++ drop n was) (sym one)

      found_are : map fate_by (g.found ++ k ∷ []) ≡ map fate_by g.found ++ f ∷ []
      found_are = map-append fate_by g.found (k ∷ []) ∙ ap (λ (x : Fate). map fate_by g.found ++ x ∷ []) e

      further : Going deck was (set is i k) (i + 1) (at + 8) v
      further = record {
        found = g.found ++ k ∷ [];
        kept_so_far = g.kept_so_far ++ more;
        long = length-append g.found (k ∷ []) ∙ omega (arith, g.long);
        fates =
            g.fates ∙ ap (λ (fs : List Fate). map fate_by g.found ++ fs) fates_are
            ∙ sym (append_assoc (map fate_by g.found) (f ∷ []) (fates_from deck v.least v.last rest))
            ∙ ap (λ (fs : List Fate). fs ++ fates_from deck v.least v.last rest) (sym found_are);
        keeps = g.keeps ∙ ap (λ (es : List Entry). g.kept_so_far ++ es) kept_are ∙ sym (append_assoc g.kept_so_far more (kept_from deck v.least v.last rest));
        stands = stored_are;
        cards = omega (arith, cards-are, g.cards, length-append g.kept_so_far more);
        bytes = omega (arith, bytes-are, g.bytes, ap length (bodies_append g.kept_so_far more), length-append (bodies g.kept_so_far) (bodies more));
        few = omega (arith, cards-are, g.few, few-more);
        short = IsShort-still;
        inside = inside-still;
        place = omega (arith, g.place);
        within = omega arith;
      }

    -- by its fate
    module _ (l : i < count_of deck) (k : Option Rule) {v : Walk} (e : fate_by k ≡ fate_of deck w.least w.last (row_of (drop at deck)))
        (s : v ≡ walked_by (fate_by k) (row_of (drop at deck)) w) (room : i < length was) where
      abbrev r : Row
      r = row_of (drop at deck)

      kept_on : fate_of deck w.least w.last r ≡ kept → Going deck was (set is i k) (i + 1) (at + 8) v
      kept_on ef =
          let walk_is : v ≡ walked_by kept r w = s ∙ ap (λ (f : Fate). walked_by f r w) (e ∙ ef) in
          let right = (kept_right deck w.least w.last r ef).0 in
          let long = body_long deck r right.ends in
          let last-is : v.last ≡ end_of r = ap (λ (x : Walk). x.last) walk_is in
          let bytes-is : v.bytes ≡ w.bytes + r.size = ap (λ (x : Walk). x.bytes) walk_is in
          further l k kept (entry_of deck r ∷ []) (e ∙ ef) ef (ap (λ (x : Walk). x.least) walk_is) last-is (λ fs rs. refl) (ap (λ (x : Walk). x.cards) walk_is)
          (omega (arith, bytes-is, long, length-append (body_of deck r) [])) (omega arith) (omega (arith, bytes-is, last-is, right.begins, g.short)) (omega (arith, last-is, right.ends)) room

      dropped_on : (rule : ℕ) → fate_of deck w.least w.last r ≡ dropped rule → Going deck was (set is i k) (i + 1) (at + 8) v
      dropped_on rule ef =
          let walk_is : v ≡ w = s ∙ ap (λ (f : Fate). walked_by f r w) (e ∙ ef) in
          let part : (f : Walk → ℕ) → f v ≡ f w = λ f. ap f walk_is in
          further l k (dropped rule) [] (e ∙ ef) ef (part (λ (x : Walk). x.least)) (part (λ (x : Walk). x.last)) (λ fs rs. refl)
          (omega (arith, part (λ (x : Walk). x.cards))) (omega (arith, part (λ (x : Walk). x.bytes))) (omega arith)
          (omega (arith, part (λ (x : Walk). x.bytes), part (λ (x : Walk). x.last), g.short)) (omega (arith, part (λ (x : Walk). x.last), g.inside)) room

      pub goes_on : Going deck was (set is i k) (i + 1) (at + 8) v
      goes_on = go (fate_of deck w.least w.last r) refl
        where
          go : (f : Fate) → fate_of deck w.least w.last r ≡ f → Going deck was (set is i k) (i + 1) (at + 8) v
          go kept ef = kept_on ef
          go (dropped rule) ef = dropped_on rule ef

  -- the same by the fields of the entry
  pub on : {was is : List (Option Rule)} {i : ℕ} {w v : Walk} {x : Fields} (k : Option Rule) → Going deck was is i (1 + 8 * i) w → i < count_of deck → row_by x ≡ row_of (drop (1 + 8 * i) deck)
      → fate_by k ≡ fate_of deck w.least w.last (row_by x) → v ≡ walked_by (fate_by k) (row_by x) w → i < length was
      → Going deck was (set is i k) (i + 1) (1 + 8 * (i + 1)) v
  on {was} {is} {i} {w} {v} k g l x e s room =
      let far : 1 + 8 * (i + 1) ≡ 1 + 8 * i + 8 = omega arith in
      rw far (goes_on g l k (e ∙ ap (λ (r : Row). fate_of deck w.least w.last r) x) (s ∙ ap (λ (r : Row). walked_by (fate_by k) r w) x) room)
