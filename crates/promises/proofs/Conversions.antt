-- By citing what is proved of converting as a stage of its entry, and of the new deck. Assumes nothing.
use Prim.Native.Nat.{ℕ, ◌≤◌}
use mathlib.Core.Path.{◌≡◌, refl, sym, ap, ◌∙◌, subst}
use mathlib.Core.Logic.{◌↔◌, ◌⊎◌, inl, inr}
use mathlib.Core.List.{List}
use native.Mathlib.Decide.{dec_le}
use native.Mathlib.Omega.{arith}
use lib.ListN.{length}
use Rattle.card.specs.Limits.{deck_bytes}
use Rattle.card.specs.Refusals.{malformed_deck, room_too_small, not_converted}
use Rattle.entry.specs.Said.{refused}
use Rattle.entry.proofs.Exactly.{◌↔∙◌}
use Rattle.entry.proofs.Entries.{before_room, in_room_law, enters_unique}
use Rattle.entry.specs.Contract.{InRoom}
use Rattle.entry.proofs.Stages.{says≢refused, same_number, same_place}
use Rattle.deck.specs.Contents.{count_of, behind}
use Rattle.deck.specs.Deck.{Entry, deck_of, deck_text, Bytes}
use Rattle.deck.specs.Sound.{MalformedAt}
use Rattle.deck.proofs.Written.{length_text}
use Rattle.room.specs.Answer.{Answer}
use Rattle.room.specs.Answer.{Refused}
use Rattle.room.specs.Answer.{told, answer_number, answered, Entered}
use Rattle.answers.specs.Numbered.{numbers}
use Rattle.room.proofs.Entries.{told_faithful}
use Rattle.converting.specs.Converting.{convert_said}
use Rattle.converting.specs.Converts.{Converts, Convertible, StopsIn}
use Rattle.converting.proofs.Bodies.{same_card, stays, one_body}
use Rattle.converting.proofs.Exactly.{Ways, converted, stopped, malformed, ways, convert_stage, refused_exactly, convertible_said, stops_in_said, not_sound_said}
use Rattle.converting.proofs.Stricter.{decimal_only}
use Rattle.converting.proofs.Apart.{stands, rest_unread, longest, too_long}
use Rattle.converting.proofs.Anew.{same_numbers, same_flags, new_writable, new_sound, new_back, new_no_gaps, new_all, again, only_gaps_go, no_live_card}
use Rattle.edges.proofs.Edges.{decimal_edges}
use Rattle.converting_edges.proofs.ConvertingEdges.{converting_edges}
use Rattle.promises.specs.Conversions.{ConvertsDeck, ConvertTells, DeckConverted, Conversions}
use Rattle.entry_promises.proofs.Entries.{done≢refused}
use Rattle.entry_promises.proofs.ForC.{tells_done, tells_refused, is_refused, number_of, entered}
use Rattle.promises.proofs.Decks.{deck_malformed}
use Rattle.promises.proofs.Decimals.{no_decimal, first_decimal, copied, rewritten}

module _ (deck : List ℕ) {was is : List ℕ} {a : Answer} (e : Entered was is (convert_said deck) a) where
  first : (p : ℕ) → (a ≡ Refused malformed_deck p) ↔ MalformedAt deck p
  first p = before_room told_faithful e malformed_deck p refl ↔∙ refused_exactly deck ↔∙ (forth, λ m. inl ((deck_malformed deck p).1 m))
    where
      forth : (deck_of deck ≡ refused malformed_deck p) ⊎ ((malformed_deck ≡ not_converted) × StopsIn deck p) → MalformedAt deck p
      forth (inl d) = (deck_malformed deck p).0 d
      forth (inr s) = absurd (omega (arith, s.0))

  second : (p : ℕ) → (a ≡ Refused not_converted p) ↔ StopsIn deck p
  second p = before_room told_faithful e not_converted p refl ↔∙ (λ q. forth (ways deck) q, λ s. stops_in_said deck s)
    where
      forth : Ways deck → convert_said deck ≡ refused not_converted p → StopsIn deck p
      forth (converted c) q = says≢refused (sym (convertible_said deck c) ∙ q)
      forth (stopped number s) q = subst (StopsIn deck) (same_place (sym (stops_in_said deck s) ∙ q)) s
      forth (malformed place d) q = absurd (omega (arith, same_number (sym (not_sound_said deck d) ∙ q)))

  room : InRoom told (Convertible deck) (λ c. deck_text c.new) was is a
  room = in_room_law told_faithful e (convert_stage deck) refl

  other : (r p : ℕ) → a ≡ Refused r p → (r ≡ malformed_deck) ⊎ (r ≡ not_converted) ⊎ (r ≡ room_too_small)
  other r p h = go (ways deck)
    where
      fits : (c : Convertible deck) → Dec (length (deck_text c.new) ≤ length was) → (r ≡ malformed_deck) ⊎ (r ≡ not_converted) ⊎ (r ≡ room_too_small)
      fits c (yes l) = done≢refused (sym ((room.done _).1 (c, l, refl)) ∙ h)
      fits c (no l) = inr (inr (ap answer_number (sym h ∙ (room.small_room _).1 (c, omega arith, refl))))

      go : Ways deck → (r ≡ malformed_deck) ⊎ (r ≡ not_converted) ⊎ (r ≡ room_too_small)
      go (converted c) = fits c (dec_le (length (deck_text c.new)) (length was))
      go (stopped number s) = inr (inl (ap answer_number (sym h ∙ (second number).1 s)))
      go (malformed place d) = inl (ap answer_number (sym h ∙ (first place).1 ((deck_malformed deck place).0 d)))

  converts : ConvertsDeck deck was is a
  converts = record { malformed = first; named = second; in_room = room; no_other = other }

tells : {deck was is : List ℕ} (a : Answer) → ConvertsDeck deck was is a → ConvertTells deck was is (numbers a)
tells a h =
    let some : (r p : ℕ) → a ≡ Refused r p → 1 ≤ r = λ r p e. positive r (h.no_other r p e) in
    record {
      done = λ long. tells_done a some long ↔∙ h.in_room.done long;
      stands = h.in_room.stands;
      malformed = λ p. tells_refused a some malformed_deck p (omega arith) ↔∙ h.malformed p;
      named = λ p. tells_refused a some not_converted p (omega arith) ↔∙ h.named p;
      small_room = λ p. tells_refused a some room_too_small p (omega arith) ↔∙ h.in_room.small_room p;
      no_other = number_of a some {P = λ r. (r ≡ 0) ⊎ (r ≡ malformed_deck) ⊎ (r ≡ not_converted) ⊎ (r ≡ room_too_small)} (inl refl) (λ r p e. inr (h.no_other r p e));
      untouched = λ z. let (r, p, e) = is_refused a some z in h.in_room.untouched r p e;
    }
  where
    positive : (r : ℕ) → (r ≡ malformed_deck) ⊎ (r ≡ not_converted) ⊎ (r ≡ room_too_small) → 1 ≤ r
    positive r (inl e) = omega (arith, e)
    positive r (inr (inl e)) = omega (arith, e)
    positive r (inr (inr e)) = omega (arith, e)

new_short : (deck : List ℕ) (c : Convertible deck) → Bytes deck → length (deck_text c.new) ≤ deck_bytes
new_short deck c b = omega (arith, length_text c.new, (new_writable deck c b).short)

new_deck : (deck : List ℕ) (c : Convertible deck) → Bytes deck → DeckConverted deck c
new_deck deck c b = record {
  numbers = same_numbers c.converts;
  flags = same_flags c.converts;
  each = λ before after e h. stands before after e (subst (λ (es : List Entry). Converts (behind (count_of deck)) es c.new) h c.converts);
  sound = new_sound deck c b;
  back = new_back deck c b;
  no_gaps = new_no_gaps deck c b;
  all_new = new_all deck c b;
  short = new_short deck c b;
  again = again deck c b;
}

pub conversions : Conversions
conversions = record {
  convert = λ deck was is a e. converts deck e;
  convert_for_c = λ deck was is a e.
      subst (ConvertTells deck was is) (sym e.answers) (tells (answered (convert_said deck) was) (converts deck (entered (convert_said deck) e)));
  today = λ s. refl;
  before = refl;
  no_decimal = no_decimal;
  first_decimal = first_decimal;
  decimal_only = decimal_only;
  rest_unread = rest_unread;
  longest = longest;
  too_long_holds = too_long;
  same_card = λ e body b. same_card e b;
  unchanged = λ e body n b. one_body e b (stays e n);
  copied = λ e body h b. copied e h b;
  rewritten = λ e body p l d b. rewritten e p l d b;
  new_deck = new_deck;
  only_gaps_go = only_gaps_go;
  no_live_card_holds = no_live_card;
  room_enough = λ deck b was is a e l p h. let w = ((room deck e).small_room p).0 h in omega (arith, w.1, new_short deck w.0 b);
  unique = λ deck was is₁ is₂ a₁ a₂ p q. enters_unique p q;
  edges = converting_edges;
  reading_edges = decimal_edges;
}
