-- A deck that is written without gaps stays what it is where more bytes follow: its entries end before them. Assumes nothing.
use Prim.Native.Nat.{ℕ, ◌+◌, ◌≤◌}
use mathlib.Core.Path.{◌≡◌, refl, sym, ap, ◌∙◌}
use mathlib.Core.List.{List, [], ◌∷◌, ◌++◌, map}
use native.Mathlib.Omega.{arith}
use lib.ListN.{length, drop, length-append, length-drop}
use lib.Seq.{take-append-le, drop-append-le}
use Rattle.card.specs.Limits.{deck_bytes}
use Rattle.card.specs.Valid.{Every}
use Rattle.entry.specs.Said.{Said, says, ◌>>=◌}
use Rattle.deck.specs.Contents.{Row, end_of, rows_of, behind, contents_of}
use Rattle.deck.specs.Deck.{Entry, entry_of, held_by, deck_of, rows_for, row_text, rows_text, bodies, deck_text, Writable}
use Rattle.deck.specs.Sound.{Head, Sound}
use Rattle.deck.proofs.Judged.{onward, of_head, sound_judged, said}
use Rattle.deck.proofs.Written.{rows_back, length_for, for_said, entries_back, length_text, drop_text}

pub rows_then : (rs : List Row) (a b : List ℕ) → rows_text rs a ++ b ≡ rows_text rs (a ++ b)
rows_then [] a b = refl
rows_then (r ∷ rs) a b = ap (row_text r) (rows_then rs a b)

-- a body inside is the same where more bytes follow
same_body : (t rest : List ℕ) (r : Row) → end_of r ≤ length t → entry_of (t ++ rest) r ≡ entry_of t r
same_body t rest r h =
    rw (drop-append-le r.offset t rest (omega arith), take-append-le r.size (drop r.offset t) rest (omega (arith, length-drop r.offset t)))

same_bodies : (t rest : List ℕ) (rs : List Row) → Every (λ (r : Row). end_of r ≤ length t) rs → map (entry_of (t ++ rest)) rs ≡ map (entry_of t) rs
same_bodies t rest [] h = refl
same_bodies t rest (r ∷ rs) h =
    ap (λ (e : Entry). e ∷ map (entry_of (t ++ rest)) rs) (same_body t rest r h.0) ∙ ap (λ (l : List Entry). entry_of t r ∷ l) (same_bodies t rest rs h.1)

inside : (from long : ℕ) (es : List Entry) → from + length (bodies es) ≤ long → Every (λ (r : Row). end_of r ≤ long) (rows_for from es)
inside from long [] h = tt
inside from long (e ∷ es) h =
    let k = length-append e.body (bodies es) in
    (omega arith, inside (from + length e.body) long es (omega arith))

module _ (es : List Entry) (rest : List ℕ) where
  abbrev gapped : List ℕ
  gapped = deck_text es ++ rest

  pub gap_contents : contents_of gapped ≡ rows_for (behind (length es)) es
  gap_contents =
      let rs = rows_for (behind (length es)) es in
      ap (rows_of (length es)) (rows_then rs (bodies es) rest)
      ∙ ap (λ (c : ℕ). rows_of c (rows_text rs (bodies es ++ rest))) (sym (length_for (behind (length es)) es))
      ∙ rows_back rs (bodies es ++ rest)

  pub gap_held : held_by gapped ≡ es
  gap_held =
      ap (map (entry_of gapped)) gap_contents
      ∙ same_bodies (deck_text es) rest (rows_for (behind (length es)) es) (inside (behind (length es)) (length (deck_text es)) es (omega (arith, length_text es)))
      ∙ entries_back (deck_text es) (behind (length es)) es (drop_text es)

  module _ (w : Writable es) (h : length gapped ≤ deck_bytes) where
    pub gap_sound : Sound gapped
    gap_sound =
        let k = length_text es in
        let l = length-append (deck_text es) rest in
        let head : Head gapped = record { short = h; some = w.some; few = w.few; whole = omega arith } in
        sound_judged gapped
        (onward (of_head gapped head)
        (rw gap_contents (for_said (length gapped) 1 0 (behind (length es)) (behind (length es)) es w.rising (omega arith) (omega arith))))

    pub gap_back : deck_of gapped ≡ says es
    gap_back = ap (λ (x : Said (List Row)). x >>= (λ (rows : List Row). says (map (entry_of gapped) rows))) (said gapped gap_sound) ∙ ap says gap_held
