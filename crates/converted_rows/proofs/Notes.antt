-- A card's note tells the length of its new bytes, and one that cannot be converted ends past every deck; so the ends by the notes are those of the new deck. Assumes nothing.
use Prim.Native.Nat.{ℕ, suc, ◌+◌, ◌≤◌, ◌<◌}
use mathlib.Core.Path.{◌≡◌, refl, sym, ap, ◌∙◌}
use mathlib.Core.Bool.{Bool, true, false}
use mathlib.Core.List.{List, ◌∷◌, ◌++◌}
use native.Mathlib.Omega.{arith}
use borrow.Author.Tests.{le-leb, lt-leb, leb-true}
use lib.Dec.{leb}
use lib.ListN.{length, length-append}
use Rattle.card.specs.Refusals.{not_converted}
use Rattle.card.specs.Limits.{card_bytes, deck_bytes, word_numbers}
use Rattle.card.specs.Text.{when◌then◌else◌}
use Rattle.card.specs.Card.{Card}
use Rattle.entry.specs.Said.{says, refused, ◌>>◌, unless}
use Rattle.deck.specs.Deck.{Entry, bodies}
use Rattle.reading.specs.Reading.{Outcome, taken, refused as turned, read_under}
use Rattle.texts.specs.Writing.{write_of}
use Rattle.converting.specs.Converting.{old_rule, new_rule}
use Rattle.converting.specs.Converts.{NewBody, withdrawn, unchanged, written, NoBody, not_read, long_form, Converts, end, next, Stops, no_body, past_end, later}
use Rattle.converting.proofs.Stricter.{stricter}
use Rattle.converted_rows.specs.Noted.{size_by}
use Rattle.converted_rows.specs.Notes.{no_note, note_by, note_of, new_size, end_said, written_of, body_noted}

-- ---- one card

module _ (e : Entry) where
  by : {b : Bool} {o n : Outcome} → e.live ≡ b → read_under old_rule e.body ≡ o → read_under new_rule e.body ≡ n → note_of e ≡ note_by b o n
  by l o n = λ i. note_by (l i) (o i) (n i)

  written_note : (c : Card) → length (write_of c) ≤ card_bytes → (when leb (length (write_of c)) card_bytes then suc (length (write_of c)) else no_note) ≡ suc (length (write_of c))
  written_note c h = ap (λ (b : Bool). when b then suc (length (write_of c)) else no_note) (le-leb (length (write_of c)) card_bytes h)

  long_note : (c : Card) → card_bytes < length (write_of c) → (when leb (length (write_of c)) card_bytes then suc (length (write_of c)) else no_note) ≡ no_note
  long_note c h = ap (λ (b : Bool). when b then suc (length (write_of c)) else no_note) (lt-leb (length (write_of c)) card_bytes h)

  pub body_noted_law : {body : List ℕ} → NewBody e body → body ≡ body_noted (note_of e) e.body
  body_noted_law (withdrawn l) = ap (λ (k : ℕ). body_noted k e.body) (sym (by l refl refl))
  body_noted_law (unchanged c l n) = ap (λ (k : ℕ). body_noted k e.body) (sym (by l (stricter e.body c n) n))
  body_noted_law (written c r p l o n h) = ap written_of (sym o) ∙ ap (λ (k : ℕ). body_noted k e.body) (sym (by l o n ∙ written_note c h))

  pub size_noted : {body : List ℕ} → NewBody e body → new_size e ≡ length body
  size_noted (withdrawn l) = ap (λ (k : ℕ). size_by k (length e.body)) (by l refl refl)
  size_noted (unchanged c l n) = ap (λ (k : ℕ). size_by k (length e.body)) (by l (stricter e.body c n) n)
  size_noted (written c r p l o n h) = ap (λ (k : ℕ). size_by k (length e.body)) (by l o n ∙ written_note c h)

  no_size : NoBody e → new_size e ≡ word_numbers
  no_size (not_read r p l o) = ap (λ (k : ℕ). size_by k (length e.body)) (by l o refl)
  no_size (long_form c r p l o n h) = ap (λ (k : ℕ). size_by k (length e.body)) (by l o n ∙ long_note c h)

-- ---- one behind the other

module _ (at : ℕ) (e : Entry) (es : List Entry) where
  pub fits_on : at + new_size e ≤ deck_bytes → end_said at (e ∷ es) ≡ end_said (at + new_size e) es
  fits_on l = ap (λ (b : Bool). unless b not_converted e.number >> end_said (at + new_size e) es) (le-leb (at + new_size e) deck_bytes l)

  pub past_end_law : deck_bytes < at + new_size e → end_said at (e ∷ es) ≡ refused not_converted e.number
  past_end_law l = ap (λ (b : Bool). unless b not_converted e.number >> end_said (at + new_size e) es) (lt-leb (at + new_size e) deck_bytes l)

  on : {body : List ℕ} → NewBody e body → at + length body ≤ deck_bytes → end_said at (e ∷ es) ≡ end_said (at + length body) es
  on b l = let size = size_noted e b in fits_on (omega (arith, size)) ∙ ap (λ (n : ℕ). end_said (at + n) es) size

pub end_converts : {at : ℕ} {es new : List Entry} → Converts at es new → end_said at es ≡ says (at + length (bodies new))
end_converts end = ap says (omega arith)
end_converts (next {at} {e} {es} {new} {body} b l more) =
    let sum : at + length body + length (bodies new) ≡ at + length (body ++ bodies new) = omega (arith, length-append body (bodies new)) in
    on at e es b l ∙ end_converts more ∙ ap says sum

pub end_stops : {at number : ℕ} {es : List Entry} → Stops at es number → end_said at es ≡ refused not_converted number
end_stops (no_body {at} {e} {es} b) = past_end_law at e es (omega (arith, no_size e b))
end_stops (past_end {at} {e} {es} b l) = past_end_law at e es (omega (arith, size_noted e b, l))
end_stops (later {at} {number} {e} {es} b l more) = on at e es b l ∙ end_stops more

-- a note is never above the one of a card that cannot be converted
pub note_most : (live : Bool) (old new : Outcome) → note_by live old new ≤ no_note
note_most false old new = omega arith
note_most true (turned r p) new = omega arith
note_most true (taken c) (taken d) = omega arith
note_most true (taken c) (turned r p) = go (leb (length (write_of c)) card_bytes) refl
  where
    go : (b : Bool) → leb (length (write_of c)) card_bytes ≡ b → (when b then suc (length (write_of c)) else no_note) ≤ no_note
    go true e = let l = leb-true (length (write_of c)) card_bytes e in omega (arith, l)
    go false e = omega arith
