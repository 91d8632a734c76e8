-- A deck that is written without gaps is sound, and its entries come back out of it: each field is read back from the bytes just put.
-- Assumes nothing.
use Prim.Native.Nat.{ℕ, suc, ◌+◌, ◌*◌, ◌≤◌}
use mathlib.Core.Path.{◌≡◌, refl, sym, ap, ◌∙◌}
use mathlib.Core.Bool.{Bool, true, false}
use mathlib.Core.List.{List, [], ◌∷◌, ◌++◌, map}
use native.Mathlib.Omega.{arith}
use lib.Dec.{eqb}
use lib.ListN.{length, drop, length-append}
use lib.Seq.{drop-drop, drop-append_seam, take-append_seam}
use Rattle.entry.specs.Said.{Said, says, ◌>>=◌}
use Rattle.entry.proofs.Stages.{same_said}
use Rattle.deck.specs.Contents.{word, Row, row_of, rows_of, behind, contents_of, rows_said, rows_in}
use Rattle.deck.specs.Deck.{Entry, entry_of, deck_of, low, high, flag_of, row_for, rows_for, row_text, rows_text, bodies, deck_text}
use Rattle.deck.specs.Deck.{Rising, Writable}
use Rattle.deck.specs.Sound.{Head, Sound}
use Rattle.deck.proofs.Judged.{onward, of_right, of_head, sound_judged, said}

word_back : (n : ℕ) → word (low n) (high n) ≡ n
word_back n = omega arith

row_back : (r : Row) (rest : List ℕ) → row_of (row_text r rest) ≡ r
row_back r rest = fields r.number r.offset r.size r.flag r.zero_byte
  where
    fields : (n o s f z : ℕ) → row_of (row_text (record { number = n; offset = o; size = s; flag = f; zero_byte = z }) rest)
        ≡ record { number = n; offset = o; size = s; flag = f; zero_byte = z }
    fields n o s f z = rw (word_back n, word_back o, word_back s)

pub rows_back : (rs : List Row) (rest : List ℕ) → rows_of (length rs) (rows_text rs rest) ≡ rs
rows_back [] rest = refl
rows_back (r ∷ rs) rest = rw (row_back r (rows_text rs rest), rows_back rs rest)

pub length_rows : (rs : List Row) (rest : List ℕ) → length (rows_text rs rest) ≡ 8 * length rs + length rest
length_rows [] rest = omega arith
length_rows (r ∷ rs) rest = omega (arith, length_rows rs rest)

pub drop_rows : (rs : List Row) (rest : List ℕ) → drop (8 * length rs) (rows_text rs rest) ≡ rest
drop_rows [] rest = refl
drop_rows (r ∷ rs) rest =
    let e : 8 * suc (length rs) ≡ 8 + 8 * length rs = omega arith in
    rw (e, ← drop-drop (8 * length rs) 8 (rows_text (r ∷ rs) rest)) (drop_rows rs rest)

pub length_for : (at : ℕ) (es : List Entry) → length (rows_for at es) ≡ length es
length_for at [] = refl
length_for at (e ∷ es) = ap suc (length_for (at + length e.body) es)

flag_small : (b : Bool) → flag_of b ≤ 1
flag_small true = omega arith
flag_small false = omega arith

live_back : (b : Bool) → eqb (flag_of b) 1 ≡ b
live_back true = refl
live_back false = refl

pub for_said : (long place least last from : ℕ) (es : List Entry) → Rising least es → last ≤ from → from + length (bodies es) ≤ long
    → rows_said long place least last (rows_for from es) ≡ says tt
for_said long place least last from [] h l m = refl
for_said long place least last from (e ∷ es) h l m =
    let k = length-append e.body (bodies es) in
    onward (of_right long place least last (row_for from e) (record { number = h.0; begins = l; ends = omega arith; flag = flag_small e.live; zero_byte = refl }))
    (for_said long (place + 8) (suc e.number) (from + length e.body) (from + length e.body) es h.2 (omega arith) (omega arith))

entry_back : (deck : List ℕ) (from : ℕ) (e : Entry) (rest : List ℕ) → drop from deck ≡ e.body ++ rest → entry_of deck (row_for from e) ≡ e
entry_back deck from e rest h = fields e.number e.live e.body h
  where
    fields : (n : ℕ) (b : Bool) (x : List ℕ) → drop from deck ≡ x ++ rest
        → entry_of deck (row_for from (record { number = n; live = b; body = x })) ≡ record { number = n; live = b; body = x }
    fields n b x k = rw (k, take-append_seam x rest, live_back b)

pub entries_back : (deck : List ℕ) (from : ℕ) (es : List Entry) → drop from deck ≡ bodies es → map (entry_of deck) (rows_for from es) ≡ es
entries_back deck from [] h = refl
entries_back deck from (e ∷ es) h =
    let next : drop (from + length e.body) deck ≡ bodies es
    = sym (drop-drop (length e.body) from deck) ∙ ap (drop (length e.body)) h ∙ drop-append_seam e.body (bodies es) in
    let one = entry_back deck from e (bodies es) h in
    let more = entries_back deck (from + length e.body) es next in
    ap (λ (x : Entry). x ∷ map (entry_of deck) (rows_for (from + length e.body) es)) one ∙ ap (λ (l : List Entry). e ∷ l) more

module _ (es : List Entry) where
  pub length_text : length (deck_text es) ≡ behind (length es) + length (bodies es)
  length_text = omega (arith, length_rows (rows_for (behind (length es)) es) (bodies es), length_for (behind (length es)) es)

  pub contents_text : contents_of (deck_text es) ≡ rows_for (behind (length es)) es
  contents_text =
      ap (λ (c : ℕ). rows_of c (rows_text (rows_for (behind (length es)) es) (bodies es))) (sym (length_for (behind (length es)) es))
      ∙ rows_back (rows_for (behind (length es)) es) (bodies es)

  pub drop_text : drop (behind (length es)) (deck_text es) ≡ bodies es
  drop_text =
      let e : drop (8 * length es) (rows_text (rows_for (behind (length es)) es) (bodies es)) ≡ bodies es
      = ap (λ (c : ℕ). drop (8 * c) (rows_text (rows_for (behind (length es)) es) (bodies es))) (sym (length_for (behind (length es)) es))
      ∙ drop_rows (rows_for (behind (length es)) es) (bodies es) in
      sym (drop-drop (8 * length es) 1 (deck_text es)) ∙ e

  module _ (w : Writable es) where
    pub text_rows_said : rows_said (length (deck_text es)) 1 0 (behind (length es)) (contents_of (deck_text es)) ≡ says tt
    text_rows_said =
        let k = length_text in
        rw contents_text (for_said (length (deck_text es)) 1 0 (behind (length es)) (behind (length es)) es w.rising (omega arith) (omega arith))

    pub text_sound : Sound (deck_text es)
    text_sound =
        let k = length_text in
        let h : Head (deck_text es) = record { short = omega (arith, w.short); some = w.some; few = w.few; whole = omega arith } in
        sound_judged (deck_text es) (onward (of_head (deck_text es) h) text_rows_said)

    -- the contents that a written deck has are those that were written
    pub text_rows : rows_in (deck_text es) ≡ says (rows_for (behind (length es)) es)
    text_rows = said (deck_text es) text_sound ∙ ap says contents_text

    -- the round trip
    pub text_back : deck_of (deck_text es) ≡ says es
    text_back =
        ap (λ (x : Said (List Row)). x >>= (λ (rows : List Row). says (map (entry_of (deck_text es)) rows))) text_rows
        ∙ ap says (entries_back (deck_text es) (behind (length es)) es drop_text)

-- no two lists of entries are written alike
pub text_injective : (a b : List Entry) → Writable a → Writable b → deck_text a ≡ deck_text b → a ≡ b
text_injective a b v w e = same_said (sym (text_back a v) ∙ ap deck_of e ∙ text_back b w)
