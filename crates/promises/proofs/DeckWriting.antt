-- The writer of a box, from the one theorem of stages; its deck, by citing; and the edges by computing. Assumes nothing.
use Prim.Native.Nat.{ℕ, ◌+◌, ◌≤◌}
use mathlib.Core.Path.{◌≡◌, refl, sym, ap, ◌∙◌, subst}
use mathlib.Core.Logic.{◌↔◌, ◌⊎◌, inl, inr}
use mathlib.Core.List.{List}
use native.Mathlib.Decide.{dec_le}
use native.Mathlib.Omega.{arith}
use lib.ListN.{length, drop}
use Rattle.card.specs.Refusals.{malformed_deck, room_too_small}
use Rattle.entry.specs.Contract.{InRoom}
use Rattle.entry.proofs.Exactly.{◌↔∙◌}
use Rattle.entry.proofs.Entries.{before_room, in_room_law, enters_unique}
use Rattle.deck.specs.Contents.{behind}
use Rattle.deck.proofs.Written.{drop_text}
use Rattle.deck_written.specs.WriteDeckSaid.{lines, entries_said, write_deck_said, lines_for}
use Rattle.deck_written.specs.Fine.{Fine, RefusedAt}
use Rattle.deck_written.proofs.Exactly.{Outcome, written, stopped_at, outcome, refused_exactly, stage}
use Rattle.deck_written.proofs.Entries.{count_said, bodies_said, deck_contents, deck_long, deck_sound, deck_back}
use Rattle.deck_written.proofs.NoGaps.{no_gaps}
use Rattle.deck_written.proofs.Offsets.{offsets_unread}
use Rattle.room.specs.Answer.{Answer}
use Rattle.room.specs.Answer.{Refused}
use Rattle.room.specs.Answer.{told, answer_number, answered, Entered}
use Rattle.room.proofs.Entries.{told_faithful}
use Rattle.answers.specs.Numbered.{numbers}
use Rattle.promises.specs.DeckWriting.{deck_for, WritesDeck, WriteDeckTells, DeckWritten, DeckWriting, DeckWritingEdges}
use Rattle.entry_promises.proofs.Entries.{in_numbers, done≢refused}
use Rattle.entry_promises.proofs.ForC.{tells_done, tells_refused, is_refused, number_of, entered}

module _ (contents bodies : List ℕ) {was is : List ℕ} {a : Answer} (e : Entered was is (write_deck_said contents bodies) a) where
  room : InRoom told (Fine contents bodies) (λ _. deck_for contents bodies) was is a
  room = in_room_law told_faithful e (stage contents bodies) refl

  malformed : (p : ℕ) → (a ≡ Refused malformed_deck p) ↔ RefusedAt contents bodies p
  malformed p = before_room told_faithful e malformed_deck p refl ↔∙ refused_exactly contents bodies p

  other : (r p : ℕ) → a ≡ Refused r p → (r ≡ malformed_deck) ⊎ (r ≡ room_too_small)
  other r p h = go (outcome contents bodies)
    where
      fits : Fine contents bodies → Dec (length (deck_for contents bodies) ≤ length was) → (r ≡ malformed_deck) ⊎ (r ≡ room_too_small)
      fits w (yes l) = done≢refused (sym ((room.done _).1 (w, l, refl)) ∙ h)
      fits w (no l) = inr (ap answer_number (sym h ∙ (room.small_room _).1 (w, omega arith, refl)))

      go : Outcome contents bodies → (r ≡ malformed_deck) ⊎ (r ≡ room_too_small)
      go (written w k) = fits w (dec_le (length (deck_for contents bodies)) (length was))
      go (stopped_at q w k) = inl (ap answer_number (sym h ∙ (malformed q).1 w))

  writes : WritesDeck contents bodies was is a
  writes = record {
    malformed = malformed;
    small_room = room.small_room;
    done = room.done;
    stands = room.stands;
    no_other = other;
    untouched = room.untouched;
    in_numbers = in_numbers a;
  }

tells : {contents bodies was is : List ℕ} (a : Answer) → WritesDeck contents bodies was is a → WriteDeckTells contents bodies was is (numbers a)
tells a h =
    let some : (r p : ℕ) → a ≡ Refused r p → 1 ≤ r = λ r p e. positive r (h.no_other r p e) in
    record {
      done = λ long. tells_done a some long ↔∙ h.done long;
      stands = h.stands;
      malformed = λ p. tells_refused a some malformed_deck p (omega arith) ↔∙ h.malformed p;
      small_room = λ p. tells_refused a some room_too_small p (omega arith) ↔∙ h.small_room p;
      no_other = number_of a some {P = λ r. (r ≡ 0) ⊎ (r ≡ malformed_deck) ⊎ (r ≡ room_too_small)} (inl refl) (λ r p e. inr (h.no_other r p e));
      untouched = λ z. let (r, p, e) = is_refused a some z in h.untouched r p e;
    }
  where
    positive : (r : ℕ) → (r ≡ malformed_deck) ⊎ (r ≡ room_too_small) → 1 ≤ r
    positive r (inl e) = omega (arith, e)
    positive r (inr e) = omega (arith, e)

the_deck : {contents bodies : List ℕ} (h : Fine contents bodies) → DeckWritten contents bodies
the_deck {contents} {bodies} h =
    let first : behind h.count ≡ 1 + length contents = omega (arith, h.counted.long) in
    let count : behind (length (entries_said contents bodies)) ≡ 1 + length contents = omega (arith, count_said h, first) in
    record {
      long = deck_long h;
      same_lines = deck_contents h ∙ ap (λ (n : ℕ). lines_for n (lines contents)) first;
      same_bodies = ap (λ (n : ℕ). drop n (deck_for contents bodies)) (sym count) ∙ drop_text (entries_said contents bodies) ∙ bodies_said h;
      no_gaps = no_gaps (entries_said contents bodies) (omega (arith, count_said h, h.counted.some));
      sound = deck_sound h;
      back = deck_back h;
    }

pub deck_writing : DeckWriting
deck_writing = record {
  write = λ contents bodies was is a e. writes contents bodies e;
  write_for_c = λ contents bodies was is a e.
      subst (WriteDeckTells contents bodies was is) (sym e.answers)
      (tells (answered (write_deck_said contents bodies) was) (writes contents bodies (entered (write_deck_said contents bodies) e)));
  written = λ contents bodies h. the_deck h;
  offsets_unread = λ contents others bodies s was is₁ is₂ a₁ a₂ h k.
      enters_unique h (subst (λ said. Entered was is₂ said a₂) (sym (offsets_unread contents others bodies s)) k);
  room_enough = λ contents bodies was is a e l p h.
      let w = ((room contents bodies e).small_room p).0 h in
      omega (arith, w.1, deck_long w.0, w.0.fitting.short);
}

pub deck_writing_edges : DeckWritingEdges
unfolding write_deck_said
deck_writing_edges = record {
  one_entry_holds = (refl, refl);
  exact_room = (refl, refl);
  room_one_short = (refl, refl);
  empty_body = (refl, refl);
  wrong_offset = (refl, refl);
  no_entry = (refl, refl);
  ragged = (refl, refl);
  entries_65 = (refl, refl);
  same_number = (refl, refl);
  number_falls = (refl, refl);
  wrong_flag = (refl, refl);
  wrong_zero = (refl, refl);
  both_wrong = (refl, refl);
  bodies_long = (refl, refl);
  bodies_short = (refl, refl);
  field_first = (refl, refl);
}
