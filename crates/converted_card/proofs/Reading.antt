-- What the reader's contract says by its verdict, under either rule, and the note that follows from both readings. Assumes nothing.
use Prim.Native.Nat.{ℕ, suc, ◌≤◌, ◌<◌}
use mathlib.Core.Path.{◌≡◌, refl, sym, ap, ◌∙◌}
use mathlib.Core.Bool.{Bool, true, false}
use mathlib.Core.List.{List, []}
use Rattle.std.specs.Prelude.{Ok, Err}
use Rattle.std.specs.Result.{is_ok}
use borrow.Author.Tests.{le-leb, lt-leb}
use lib.Dec.{leb}
use lib.ListN.{length}
use Rattle.card.specs.Card.{Card}
use Rattle.card.specs.Limits.{card_bytes}
use Rattle.card.specs.Text.{when◌then◌else◌}
use Rattle.card.specs.Weight.{Rule}
use Rattle.card.specs.Lent.{Lent, none_lent, card_in, HoldsIn}
use Rattle.card.specs.Verdict.{Refused}
use Rattle.card.specs.declared.Head.{Head}
use Rattle.card.specs.declared.Refusal.{Refusal}
use Rattle.card.proofs.Verdicts.{refused_number, refused_place, ok≢refused, ok_is}
use Rattle.card.proofs.HeldIn.{holds_card}
use Rattle.reading.specs.Reading.{Outcome, taken, refused as turned, read_under}
use Rattle.outline.specs.ReadingOf.{Outline, outline_of, memory_of, ReadsUnder}
use Rattle.texts.specs.Writing.{write_of}
use Rattle.converting.specs.Converting.{old_rule, new_rule}
use Rattle.converting.proofs.Stricter.{stricter}
use Rattle.converted_rows.specs.Notes.{no_note, note_by, written_of}

-- a card that is taken lies in the arrays
pub record TakenIn (decimals : Rule) (s : List ℕ) (head : Head) (x : Lent) : Type 0 where
  pub card : Card
  pub reads : read_under decimals s ≡ taken card
  pub holds : HoldsIn head x
  pub is : card_in head x ≡ card

pub ok_head : (r : Outline) → is_ok r ≡ true → (head : Head) × (r ≡ Ok head)
ok_head (Ok head) e = (head, refl)
ok_head (Err z) e = cc

pub err_refusal : (r : Outline) → is_ok r ≡ false → (z : Refusal) × (r ≡ Err z)
err_refusal (Ok head) e = cc
err_refusal (Err z) e = (z, refl)

module _ {decimals : Rule} {s : List ℕ} {r : Outline} {x : Lent} (h : ReadsUnder decimals s r x) where
  outline_is : {o : Outcome} → read_under decimals s ≡ o → r ≡ outline_of o
  outline_is e = h.outline ∙ ap outline_of e

  pub taken_in : {head : Head} → r ≡ Ok head → TakenIn decimals s head x
  taken_in {head} v = go (read_under decimals s) refl
    where
      go : (o : Outcome) → read_under decimals s ≡ o → TakenIn decimals s head x
      go (taken c) e =
          let held : HoldsIn head x = record {
            card = c;
            valid = h.valid c e;
            head = ok_is (sym v ∙ outline_is e);
            lies = h.memory ∙ ap memory_of e;
          } in
          record { card = c; reads = e; holds = held; is = holds_card held }
      go (turned n p) e = ok≢refused (sym v ∙ outline_is e)

  pub turned_down : {z : Refusal} → r ≡ Err z → read_under decimals s ≡ turned z.number z.place
  turned_down {z} v = go (read_under decimals s) refl
    where
      go : (o : Outcome) → read_under decimals s ≡ o → o ≡ turned z.number z.place
      go (taken c) e = ok≢refused (sym (outline_is e) ∙ v)
      go (turned n p) e =
          let y : Refused n p ≡ Refused z.number z.place = sym (outline_is e) ∙ v in
          rw (refused_number y, refused_place y)

  -- a refusal leaves the arrays as they were lent
  pub left_none : {z : Refusal} → r ≡ Err z → x ≡ none_lent
  left_none v = h.memory ∙ ap memory_of (turned_down v)

  pub nothing_written : {z : Refusal} → r ≡ Err z → written_of (read_under decimals s) ≡ []
  nothing_written v = ap written_of (turned_down v)

  -- the written form is that of the card in the arrays
  pub form_of : {head : Head} → r ≡ Ok head → written_of (read_under decimals s) ≡ write_of (card_in head x)
  form_of v = let t = taken_in v in ap written_of t.reads ∙ ap write_of (sym t.is)

-- ---- the note

module _ (s : List ℕ) where
  abbrev note : ℕ
  note = note_by true (read_under old_rule s) (read_under new_rule s)

  pub note_stays : {r : Outline} {x : Lent} → ReadsUnder new_rule s r x → is_ok r ≡ true → 0 ≡ note
  note_stays {r} h v =
      let t = taken_in h (ok_head r v).1 in
      sym (λ i. note_by true (stricter s t.card t.reads i) (t.reads i))

  module _ {r q : Outline} {x y : Lent} (h : ReadsUnder new_rule s r x) (v : is_ok r ≡ false) (k : ReadsUnder old_rule s q y) where
    turned_new : read_under new_rule s ≡ turned (err_refusal r v).0.number (err_refusal r v).0.place
    turned_new = turned_down h (err_refusal r v).1

    pub note_none : {z : Refusal} → q ≡ Err z → no_note ≡ note
    note_none w = sym (λ i. note_by true (turned_down k w i) (turned_new i))

    module _ {head : Head} (w : q ≡ Ok head) {long : ℕ} (e : long ≡ length (write_of (card_in head y))) where
      long_is : long ≡ length (write_of (taken_in k w).card)
      long_is = e ∙ ap length (sym (form_of k w)) ∙ ap (λ (o : Outcome). length (written_of o)) (taken_in k w).reads

      by_length : note ≡ (when leb long card_bytes then suc long else no_note)
      by_length =
          let t = taken_in k w in
          (λ i. note_by true (t.reads i) (turned_new i)) ∙ ap (λ (m : ℕ). when leb m card_bytes then suc m else no_note) (sym long_is)

      pub note_long : card_bytes < long → no_note ≡ note
      note_long l = sym (by_length ∙ ap (λ (b : Bool). when b then suc long else no_note) (lt-leb long card_bytes l))

      pub note_written : long ≤ card_bytes → suc long ≡ note
      note_written l = sym (by_length ∙ ap (λ (b : Bool). when b then suc long else no_note) (le-leb long card_bytes l))
