-- When tidying and adding say something and when they are refused, number by number. Both are blocks of stages: the deck, its live cards, the card, its number, the count, the room. Each stage's
-- numbers and findings are said once, and the theorems of stages give every equivalence. Assumes nothing.
use Prim.Native.Nat.{ℕ, ◌+◌, ◌*◌, ◌≤◌, ◌<◌}
use mathlib.Core.Path.{◌≡◌, refl, sym, ap, ◌∙◌}
use mathlib.Core.Bool.{Bool, true, false, ◌&&◌, false≢true}
use mathlib.Core.Logic.{◌↔◌, ◌⊎◌, inl, inr}
use mathlib.Core.List.{List, [], ◌∷◌, ◌++◌, map}
use native.Mathlib.Omega.{arith}
use borrow.Author.Tests.{leb-true, leb-false, le-leb, lt-leb, ltb-true, ltb-false, lt-ltb, le-ltb, eq-eqb}
use lib.Dec.{leb, ltb}
use lib.ListN.{length}
use Rattle.card.specs.Card.{Card}
use Rattle.card.specs.Limits.{most_cards}
use Rattle.card.specs.Refusals.{malformed_deck, no_live_card, room_too_small, not_added, OfCard}
use Rattle.card.specs.Text.{when◌then◌else◌}
use Rattle.card.specs.Valid.{Every}
use Rattle.entry.specs.Said.{Said, says, refused, ◌>>=◌, ◌>>◌, unless, saying}
use Rattle.entry.specs.Contract.{fits}
use Rattle.entry.specs.Numbers.{Numbers, only, among, Among}
use Rattle.entry.specs.Stage.{Passes, Stage}
use Rattle.entry.proofs.Exactly.{◌↔∙◌}
use Rattle.entry.proofs.Entries.{fits_exactly, longer_exactly}
use Rattle.entry.proofs.Stages.{says≢refused, same_place, first, either, passes_then, passes_says, passes_as, passes_unless, refused_unless}
use Rattle.entry.proofs.Stages.{among_says, among_refused, among_unless, among_then, silent, value, its, beyond, last, test}
use Rattle.reading.specs.Reading.{refused as turned, read_of}
use Rattle.deck.specs.Contents.{Row, contents_of}
use Rattle.deck.specs.Deck.{Entry, body_of, entry_of, held_by, deck_of, deck_text}
use Rattle.deck.specs.Given.{LiveAt, NoLive}
use Rattle.deck.specs.Lookup.{is_live, live_in, live_row}
use Rattle.deck.specs.Sound.{Sound, MalformedAt}
use Rattle.deck.proofs.DeckStages.{rows_stage, deck_stage}
use Rattle.deck.proofs.Looked.{row_live, row_none, body_row}
use Rattle.deck.proofs.Lookups.{rows_malformed, Seeks, hit, miss, seeks}
use Rattle.rows.specs.Said.{card_numbers, card_said, Read}
use Rattle.rows.proofs.Theorems.{outcome_refused, of_card, card_stage, card_first}
use Rattle.tidying.specs.Tidying.{is_live_entry, live_entries, live_said, tidy_said, number_free, added_text, place_said, add_said}
use Rattle.tidying.specs.Tidied.{live_cards, tidy_text, text_with, Tidiable, Placeable, Addable, NoneLive, NoPlaceAt, live_already, too_many}
use Rattle.tidying.proofs.Free.{number_free_law, number_taken}
use Rattle.tidying.proofs.Live.{kept_pass, found_live}

-- ---- the live cards of a deck

module _ (deck : List ℕ) where
  -- a number that is not live gives nothing among them, and the other way round
  found_row : (number : ℕ) → live_in number (live_cards deck) ≡ saying (body_of deck) (live_row number (contents_of deck))
  found_row number = found_live number (held_by deck) ∙ body_row deck number (contents_of deck)

  none_live : (length (live_cards deck) < 1) ↔ NoneLive deck
  none_live = (λ h number. forth (live_cards deck) refl h number, λ h. back (live_cards deck) refl (kept_pass is_live_entry (held_by deck)) h)
    where
      no_row : (number : ℕ) (x : Said Row) → live_row number (contents_of deck) ≡ x → saying (body_of deck) x ≡ refused no_live_card 0 → NoLive deck number
      no_row number (says r) k e = says≢refused e
      no_row number (refused s q) k e = (row_none deck number s q k).2

      forth : (es : List Entry) → live_cards deck ≡ es → length es < 1 → NoneLive deck
      forth [] k h number = no_row number (live_row number (contents_of deck)) refl (sym (found_row number) ∙ ap (live_in number) k)
      forth (e ∷ es) k h number = absurd (omega arith)

      a_row : (number : ℕ) (t : List ℕ) (x : Said Row) → live_row number (contents_of deck) ≡ x → saying (body_of deck) x ≡ says t → NoLive deck number → ⊥
      a_row number t (says r) k e h = let (i, l, at) = row_live deck number r k in h i l
      a_row number t (refused s q) k e h = says≢refused (sym e)

      back : (es : List Entry) → live_cards deck ≡ es → Every (λ (e : Entry). e.live ≡ true) (live_cards deck) → NoneLive deck → length es < 1
      back [] k all h = omega arith
      back (e ∷ es) k all h =
          let every : Every (λ (x : Entry). x.live ≡ true) (e ∷ es) = rw k at all in
          let there : live_in e.number (e ∷ es) ≡ says e.body = rw (eq-eqb e.number e.number refl, every.0) in
          absurd (a_row e.number e.body (live_row e.number (contents_of deck)) refl (sym (found_row e.number) ∙ ap (live_in e.number) k ∙ there) (h e.number))

-- ---- a number of a list

listed : (a : ℕ) (ns : Numbers) (r : ℕ) → among (only a ++ ns) r ≡ true → (r ≡ a) ⊎ (among ns r ≡ true)
listed a ns r h = go (leb a r) (leb r a) refl refl h
  where
    go : (b c : Bool) → leb a r ≡ b → leb r a ≡ c → (when b && c then true else among ns r) ≡ true → (r ≡ a) ⊎ (among ns r ≡ true)
    go true true k l e = inl (omega (arith, leb-true a r k, leb-true r a l))
    go true false k l e = inr e
    go false c k l e = inr e

-- ---- how both begin

abbrev live_numbers : Numbers
live_numbers = only malformed_deck ++ only no_live_card

module _ (deck : List ℕ) where
  abbrev behind_deck : List Entry → Said (List Entry)
  behind_deck es = unless (leb 1 (length (live_entries es))) no_live_card 0 >> says (live_entries es)

  behind_numbers : (es : List Entry) → Among (only no_live_card) (behind_deck es)
  behind_numbers es = among_then (unless (leb 1 (length (live_entries es))) no_live_card 0) (λ _. says (live_entries es)) (among_unless (leb 1 (length (live_entries es))) no_live_card 0) (λ _. among_says _)

  abbrev some : Bool
  some = leb 1 (length (live_cards deck))

  pub live_stage : Stage (live_said deck) live_numbers (Tidiable deck) (λ _. live_cards deck)
  live_stage = record {
    numbers = among_then (deck_of deck) behind_deck (deck_stage deck).numbers behind_numbers;
    found =
        passes_as
        (passes_then (deck_of deck) behind_deck (deck_stage deck).found (λ s. passes_then (unless some no_live_card 0) (λ _. says (live_cards deck)) (passes_unless no_live_card 0 some) (λ _. passes_says (live_cards deck))))
        (λ z. record { sound = z.0; some = leb-true 1 (length (live_cards deck)) z.1.0 })
        (λ t. (t.sound, (le-leb 1 (length (live_cards deck)) t.some, tt)))
        (λ z. refl)
        (λ t. refl);
  }

  -- 11 as for every deck
  live_malformed : (p : ℕ) → (live_said deck ≡ refused malformed_deck p) ↔ MalformedAt deck p
  live_malformed p =
      its (deck_stage deck) behind_deck behind_numbers malformed_deck p refl
      ↔∙ last (rows_stage deck) (λ (rows : List Row). map (entry_of deck) rows) malformed_deck p
      ↔∙ rows_malformed deck p

  -- 12 at 0 in a sound deck without a live card
  live_none : (p : ℕ) → (live_said deck ≡ refused no_live_card p) ↔ (Sound deck × NoneLive deck × (p ≡ 0))
  live_none p =
      beyond (deck_stage deck) behind_deck no_live_card p refl (λ s. none)
      ↔∙ (λ z. (z.0, (none_live deck).0 z.1.0, z.1.1), λ z. (z.0, ((none_live deck).1 z.1, z.2)))
    where
      none : (behind_deck (held_by deck) ≡ refused no_live_card p) ↔ ((length (live_cards deck) < 1) × (p ≡ 0))
      none =
          first (unless (leb 1 (length (live_cards deck))) no_live_card 0) (λ _. says (live_cards deck)) no_live_card p (λ _ e. says≢refused e)
          ↔∙ refused_unless no_live_card 0 (leb 1 (length (live_cards deck))) p
          ↔∙ (λ h. (leb-false 1 (length (live_cards deck)) h.0, h.1), λ h. (lt-leb 1 (length (live_cards deck)) h.0, h.1))

  live_one_of : (r p : ℕ) → live_said deck ≡ refused r p → (r ≡ malformed_deck) ⊎ (r ≡ no_live_card)
  live_one_of r p e = deeper (listed malformed_deck (only no_live_card) r (live_stage.numbers.number r p e))
    where
      last_one : (r ≡ no_live_card) ⊎ (among [] r ≡ true) → (r ≡ malformed_deck) ⊎ (r ≡ no_live_card)
      last_one (inl k) = inr k
      last_one (inr k) = absurd (false≢true k)

      deeper : (r ≡ malformed_deck) ⊎ (among (only no_live_card) r ≡ true) → (r ≡ malformed_deck) ⊎ (r ≡ no_live_card)
      deeper (inl k) = inl k
      deeper (inr k) = last_one (listed no_live_card [] r k)

  -- ---- tidying

  pub tidy_stage : Stage (tidy_said deck) live_numbers (Tidiable deck) (λ _. tidy_text deck)
  unfolding tidy_said
  tidy_stage = value live_stage deck_text

  tidy_refused : (r p : ℕ) → (tidy_said deck ≡ refused r p) ↔ (live_said deck ≡ refused r p)
  unfolding tidy_said
  tidy_refused r p = last live_stage deck_text r p

  pub tidy_malformed : (p : ℕ) → (tidy_said deck ≡ refused malformed_deck p) ↔ MalformedAt deck p
  tidy_malformed p = tidy_refused malformed_deck p ↔∙ live_malformed p

  pub tidy_none : (p : ℕ) → (tidy_said deck ≡ refused no_live_card p) ↔ (Sound deck × NoneLive deck × (p ≡ 0))
  tidy_none p = tidy_refused no_live_card p ↔∙ live_none p

  pub tidy_one_of : (r p : ℕ) → tidy_said deck ≡ refused r p → (r ≡ malformed_deck) ⊎ (r ≡ no_live_card)
  tidy_one_of r p e = live_one_of r p ((tidy_refused r p).0 e)

-- ---- adding: the card's place

rows_numbers : (number at : ℕ) (rs : List Row) → Among (only not_added) (number_free number at rs)
rows_numbers number at [] = record { number = λ r p e. says≢refused e }
rows_numbers number at (r ∷ rs) = go (is_live number r) (rows_numbers number (at + 8) rs)
  where
    go : (b : Bool) → Among (only not_added) (number_free number (at + 8) rs) → Among (only not_added) (when b then refused not_added at else number_free number (at + 8) rs)
    go true h = among_refused not_added at
    go false h = h

abbrev place_numbers : Numbers
place_numbers = only not_added ++ only not_added ++ only room_too_small

module _ (deck : List ℕ) (number : ℕ) (card : List ℕ) where
  abbrev number_said : Said (Unit {0})
  number_said = number_free number 1 (contents_of deck)

  -- behind the number, and behind the count
  abbrev room_said : List Entry → Said (List ℕ)
  room_said es = fits deck (added_text number card es) >> says (added_text number card es)

  abbrev count_said : List Entry → Said (List ℕ)
  count_said es = unless (ltb (length es) most_cards) not_added 0 >> room_said es

  room_numbers : (es : List Entry) → Among (only room_too_small) (room_said es)
  room_numbers es =
      let new = added_text number card es in
      among_then (fits deck new) (λ _. says new) (among_unless (leb (length new) (length deck)) room_too_small (length new)) (λ _. among_says _)

  count_numbers : (es : List Entry) → Among (only not_added ++ only room_too_small) (count_said es)
  count_numbers es =
      let few = ltb (length es) most_cards in
      among_then (unless few not_added 0) (λ _. room_said es) (among_unless few not_added 0) (λ _. room_numbers es)

  place_numbers_law : (es : List Entry) → Among place_numbers (place_said deck number card es)
  place_numbers_law es = among_then number_said (λ _. count_said es) (rows_numbers number 1 (contents_of deck)) (λ _. count_numbers es)

  abbrev es : List Entry
  es = live_cards deck

  abbrev new : List ℕ
  new = text_with deck number card

  abbrev few : Bool
  few = ltb (length es) most_cards

  room_refused : (p : ℕ) → (room_said es ≡ refused room_too_small p) ↔ ((length deck < length new) × (p ≡ length new))
  room_refused p =
      first (fits deck new) (λ _. says new) room_too_small p (λ _ e. says≢refused e)
      ↔∙ refused_unless room_too_small (length new) (leb (length new) (length deck)) p
      ↔∙ (λ h. ((longer_exactly deck new).0 h.0, h.1), λ h. ((longer_exactly deck new).1 h.0, h.1))

  count_refused : (p : ℕ) → (count_said es ≡ refused not_added p) ↔ ((most_cards ≤ length es) × (p ≡ 0))
  count_refused p =
      first (unless (ltb (length es) most_cards) not_added 0) (λ _. room_said es) not_added p (λ _. silent (room_numbers es) not_added p refl)
      ↔∙ refused_unless not_added 0 (ltb (length es) most_cards) p
      ↔∙ (λ h. (ltb-false (length es) most_cards h.0, h.1), λ h. (le-ltb (length es) most_cards h.0, h.1))

  module _ (t : Tidiable deck) where
    number_stage : Stage number_said (only not_added) (NoLive deck number) (λ _. tt)
    number_stage = record { numbers = rows_numbers number 1 (contents_of deck); found = record { each = number_free_law number deck; only = λ u e. (go e (seeks deck number), refl) } }
      where
        go : {x : Said Row} {u : Unit {0}} → number_said ≡ says u → Seeks deck number x → NoLive deck number
        go e (hit i l) = says≢refused (sym e ∙ number_taken number deck t.sound i l)
        go e (miss h) = h

    number_refused : (p : ℕ) → (number_said ≡ refused not_added p) ↔ ((i : ℕ) × LiveAt deck number i × (p ≡ 1 + 8 * i))
    number_refused p = (λ e. go e (seeks deck number), λ z. number_taken number deck t.sound z.0 z.1 ∙ ap (refused not_added) (sym z.2))
      where
        go : {x : Said Row} → number_said ≡ refused not_added p → Seeks deck number x → (i : ℕ) × LiveAt deck number i × (p ≡ 1 + 8 * i)
        go e (hit i l) = (i, l, same_place (sym e ∙ number_taken number deck t.sound i l))
        go e (miss h) = says≢refused (sym (number_free_law number deck h) ∙ e)

    place_none : (p : ℕ) → (place_said deck number card es ≡ refused not_added p) ↔ NoPlaceAt deck number p
    place_none p = either number_said (λ _. count_said es) number_stage.found not_added p ↔∙ (forth, back p)
      where
        forth : (number_said ≡ refused not_added p) ⊎ ((h : NoLive deck number) × (count_said es ≡ refused not_added p)) → NoPlaceAt deck number p
        forth (inl e) = let (i, l, q) = (number_refused p).0 e in rw q (live_already i l)
        forth (inr (h, e)) = let (m, q) = (count_refused p).0 e in rw q (too_many h m)

        back : (p : ℕ) → NoPlaceAt deck number p → (number_said ≡ refused not_added p) ⊎ ((h : NoLive deck number) × (count_said es ≡ refused not_added p))
        back p (live_already i l) = inl ((number_refused (1 + 8 * i)).1 (i, l, refl))
        back p (too_many h m) = inr (h, (count_refused 0).1 (m, refl))

    place_small : (p : ℕ) → (place_said deck number card es ≡ refused room_too_small p) ↔ (NoLive deck number × (length es < most_cards) × (length deck < length new) × (p ≡ length new))
    place_small p =
        beyond number_stage (λ _. count_said es) room_too_small p refl (λ _.
        beyond (test few not_added 0) (λ _. room_said es) room_too_small p refl (λ _. room_refused p))
        ↔∙ (λ z. (z.0, ltb-true (length es) most_cards z.1.0, z.1.1.0, z.1.1.1), λ z. (z.0, (lt-ltb (length es) most_cards z.1, (z.2, z.3))))

    place_found : Passes (place_said deck number card es) (NoLive deck number × (length es < most_cards) × (length new ≤ length deck)) (λ _. new)
    place_found =
        passes_as
        (passes_then number_said (λ _. count_said es) number_stage.found (λ _.
        passes_then (unless few not_added 0) (λ _. room_said es) (passes_unless not_added 0 few) (λ _.
        passes_then (fits deck new) (λ _. says new) (passes_unless room_too_small (length new) (leb (length new) (length deck))) (λ _. passes_says new))))
        (λ z. (z.0, ltb-true (length es) most_cards z.1.0, (fits_exactly deck new).0 z.1.1.0))
        (λ z. (z.0, (lt-ltb (length es) most_cards z.1, ((fits_exactly deck new).1 z.2, tt))))
        (λ z. refl)
        (λ z. refl)

  -- ---- all of it

  abbrev behind_live : List Entry → Said (List ℕ)
  behind_live rs = card_said card >>= (λ (c : Card). place_said deck number card rs)

  live_numbers_law : (rs : List Entry) → Among (card_numbers ++ place_numbers) (behind_live rs)
  live_numbers_law rs = among_then (card_said card) (λ (c : Card). place_said deck number card rs) (card_stage card).numbers (λ _. place_numbers_law rs)

  -- 11 and 12 as in tidying
  pub add_malformed : (p : ℕ) → (add_said deck number card ≡ refused malformed_deck p) ↔ MalformedAt deck p
  unfolding add_said
  add_malformed p = its (live_stage deck) behind_live live_numbers_law malformed_deck p refl ↔∙ live_malformed deck p

  pub add_none : (p : ℕ) → (add_said deck number card ≡ refused no_live_card p) ↔ (Sound deck × NoneLive deck × (p ≡ 0))
  unfolding add_said
  add_none p = its (live_stage deck) behind_live live_numbers_law no_live_card p refl ↔∙ live_none deck p

  -- the card's own refusals
  pub add_wrong_card : (r p : ℕ) → OfCard r → (add_said deck number card ≡ refused r p) ↔ (Tidiable deck × (read_of card ≡ turned r p))
  unfolding add_said
  add_wrong_card r p h =
      beyond (live_stage deck) behind_live r p (of_card live_numbers r h refl)
      (λ t. card_first card (λ (c : Card). place_said deck number card es) (λ c. place_numbers_law es) r p h refl)

  -- 19, then 10
  pub add_no_place : (p : ℕ) → (add_said deck number card ≡ refused not_added p) ↔ (Tidiable deck × Read card × NoPlaceAt deck number p)
  unfolding add_said
  add_no_place p =
      beyond (live_stage deck) behind_live not_added p refl (λ t.
      beyond (card_stage card) (λ (c : Card). place_said deck number card es) not_added p refl (λ _. place_none t p))
      ↔∙ (λ z. (z.0, z.1.0, z.1.1), λ z. (z.0, (z.1, z.2)))

  pub add_small : (p : ℕ) → (add_said deck number card ≡ refused room_too_small p) ↔ (Placeable deck number card × (length deck < length new) × (p ≡ length new))
  unfolding add_said
  add_small p =
      beyond (live_stage deck) behind_live room_too_small p refl (λ t.
      beyond (card_stage card) (λ (c : Card). place_said deck number card es) room_too_small p refl (λ _. place_small t p))
      ↔∙ (
        λ z. (record { tidiable = z.0; read = z.1.0; free = z.1.1.0; few = z.1.1.1 }, z.1.1.2, z.1.1.3),
        λ z. (z.0.tidiable, (z.0.read, (z.0.free, z.0.few, z.1, z.2))),
      )

  -- there is no other
  pub add_one_of : (r p : ℕ) → add_said deck number card ≡ refused r p
      → (r ≡ malformed_deck) ⊎ (r ≡ no_live_card) ⊎ (read_of card ≡ turned r p) ⊎ (r ≡ not_added) ⊎ (r ≡ room_too_small)
  unfolding add_said
  add_one_of r p e = of_live ((either (live_said deck) behind_live (live_stage deck).found r p).0 e)
    where
      Ways : Type 0
      Ways = (r ≡ malformed_deck) ⊎ (r ≡ no_live_card) ⊎ (read_of card ≡ turned r p) ⊎ (r ≡ not_added) ⊎ (r ≡ room_too_small)

      of_deck : (r ≡ malformed_deck) ⊎ (r ≡ no_live_card) → Ways
      of_deck (inl k) = inl k
      of_deck (inr k) = inr (inl k)

      of_room : (r ≡ room_too_small) ⊎ (among [] r ≡ true) → Ways
      of_room (inl k) = inr (inr (inr (inr k)))
      of_room (inr k) = absurd (false≢true k)

      of_count : (r ≡ not_added) ⊎ (among (only room_too_small) r ≡ true) → Ways
      of_count (inl k) = inr (inr (inr (inl k)))
      of_count (inr k) = of_room (listed room_too_small [] r k)

      of_number : (r ≡ not_added) ⊎ (among (only not_added ++ only room_too_small) r ≡ true) → Ways
      of_number (inl k) = inr (inr (inr (inl k)))
      of_number (inr k) = of_count (listed not_added (only room_too_small) r k)

      of_read : (card_said card ≡ refused r p) ⊎ ((w : Read card) × (place_said deck number card es ≡ refused r p)) → Ways
      of_read (inl k) = inr (inr (inl ((outcome_refused (read_of card) r p).0 k)))
      of_read (inr (w, k)) = of_number (listed not_added (only not_added ++ only room_too_small) r ((place_numbers_law es).number r p k))

      of_live : (live_said deck ≡ refused r p) ⊎ ((t : Tidiable deck) × (behind_live es ≡ refused r p)) → Ways
      of_live (inl k) = of_deck (live_one_of deck r p k)
      of_live (inr (t, k)) = of_read ((either (card_said card) (λ (c : Card). place_said deck number card es) (card_stage card).found r p).0 k)

  -- and otherwise the deck with the card
  pub add_stage : Stage (add_said deck number card) (live_numbers ++ card_numbers ++ place_numbers) (Addable deck number card) (λ _. new)
  unfolding add_said
  add_stage = record {
    numbers = among_then (live_said deck) behind_live (live_stage deck).numbers live_numbers_law;
    found =
        passes_as
        (passes_then (live_said deck) behind_live (live_stage deck).found (λ t.
        passes_then (card_said card) (λ (c : Card). place_said deck number card es) (card_stage card).found (λ _. place_found t)))
        (λ z. record { placeable = record { tidiable = z.0; read = z.1.0; free = z.1.1.0; few = z.1.1.1 }; room = z.1.1.2 })
        (λ a. (a.placeable.tidiable, (a.placeable.read, (a.placeable.free, a.placeable.few, a.room))))
        (λ z. refl)
        (λ a. refl);
  }
