-- What is known when no card is named: the deck can be converted, the notes are those of its cards, and count, rows and bodies are the text of the new deck. Assumes nothing.
use Prim.Native.Nat.{ℕ, ◌+◌, ◌*◌, ◌≤◌, ◌<◌}
use mathlib.Core.Path.{◌≡◌, sym, ap, ◌∙◌, subst}
use mathlib.Core.List.{List, [], ◌∷◌, ◌++◌, map}
use native.Mathlib.Omega.{arith}
use lib.ListN.{length, take, drop, length-map, length-take}
use lib.Seq.{take_at}
use Rattle.card.specs.Refusals.{room_too_small}
use Rattle.card.specs.Verdict.{Taken, Refused as Wrong}
use Rattle.entry.specs.Said.{Said, says, refused, ◌>>=◌, ◌>>◌}
use Rattle.entry.proofs.Stages.{says≢refused, same_said, same_number, same_place}
use Rattle.deck.specs.Contents.{Row, byte, count_of, behind, contents_of, judged}
use Rattle.deck.specs.Deck.{Entry, entry_of, held_by, rows_for, rows_text, bodies, deck_text}
use Rattle.deck.specs.Sound.{Sound}
use Rattle.deck.proofs.DeckStages.{judged_stage}
use Rattle.deck.proofs.Written.{length_text, length_rows, length_for}
use Rattle.deck_entries.specs.Verdicts.{verdict_of}
use Rattle.deck_entries.proofs.Laws.{verdict_refused, verdict_fine}
use Rattle.deck_writer.proofs.Putting.{rows_before}
use Rattle.room.specs.Answer.{Answer}
use Rattle.room.specs.Answer.{Done, Refused}
use Rattle.room.specs.Room.{Put}
use Rattle.room.specs.Answer.{told, Entered}
use Rattle.room.proofs.Laws.{then, put_as, put_length}
use Rattle.room.proofs.Entries.{entered_whole, entered_short, told_faithful}
use Rattle.converting.specs.Converting.{convert_said}
use Rattle.converting.specs.Converts.{Convertible}
use Rattle.converting.proofs.Exactly.{Which, all, not_all, which, held_long, convertible_said, stops_in_said, not_sound_said}
use Rattle.converting.proofs.Anew.{same_count, ends_within}
use Rattle.converted_rows.specs.Noted.{rows_noted, Each, SizesFit}
use Rattle.converted_rows.specs.declared.Note.{Note}
use Rattle.converted_rows.specs.Notes.{note_of, end_said, bodies_noted, numbers_of}
use Rattle.converted_rows.proofs.Numbers.{same_long, first_of}
use Rattle.converted_rows.proofs.Notes.{end_converts, end_stops}
use Rattle.converted_rows.proofs.Text.{sound_right, rows_noted_law, bodies_noted_law, sizes_noted_law}
use Rattle.convert.specs.NotesFound.{NotesFound}
use Rattle.convert.specs.Ready.{BodiesFit, Ready}

-- ---- a card is named, or none

module _ (deck : List ℕ) where
  pub wrong_deck : {r p : ℕ} → Wrong r p ≡ verdict_of (judged deck) → convert_said deck ≡ refused r p
  wrong_deck {r} {p} e =
      let j = verdict_refused (judged deck) (sym e) in
      not_sound_said deck (ap (λ (x : Said (Unit {0})). (x >> says (contents_of deck)) >>= (λ (rows : List Row). says (map (entry_of deck) rows))) j)

  pub sound_deck : Taken ≡ verdict_of (judged deck) → Sound deck
  sound_deck e = ((judged_stage deck).found.only tt (verdict_fine (judged deck) (sym e))).0

  module _ (s : Sound deck) where
    abbrev first : ℕ
    first = behind (count_of deck)

    pub named : {r p : ℕ} → Refused r p ≡ told (end_said first (held_by deck)) → convert_said deck ≡ refused r p
    named {r} {p} e = go (which first (held_by deck))
      where
        said : end_said first (held_by deck) ≡ refused r p
        said = told_faithful (end_said first (held_by deck)) (refused r p) (sym e)

        go : Which first (held_by deck) → convert_said deck ≡ refused r p
        go (all new k) = says≢refused (sym (end_converts k) ∙ said)
        go (not_all number k) =
            let same = sym (end_stops k) ∙ said in
            stops_in_said deck (record { sound = s; stops = k }) ∙ (λ i. refused (same_number same i) (same_place same i))

    module _ {need : ℕ} (e : end_said first (held_by deck) ≡ says need) where
      pub convertible : (c : Convertible deck) × (need ≡ first + length (bodies c.new))
      convertible = go (which first (held_by deck))
        where
          go : Which first (held_by deck) → (c : Convertible deck) × (need ≡ first + length (bodies c.new))
          go (all new k) = (record { sound = s; new = new; converts = k }, same_said (sym e ∙ end_converts k))
          go (not_all number k) = says≢refused (sym e ∙ end_stops k)

-- ---- the notes handed on

module _ (notes : List Note) {deck was : List ℕ} {r : Answer} {c long : ℕ} (s : Sound deck) (e : c ≡ count_of deck) (n : NotesFound deck was (numbers_of notes) r) (d : r ≡ Done long) where
  as_many : length (map note_of (held_by deck)) ≡ c
  as_many = length-map (held_by deck) note_of ∙ held_long deck ∙ sym e

  numbers_are : numbers_of (take c notes) ≡ map note_of (held_by deck)
  numbers_are = sym (first_of c notes) ∙ ap (take c) (n.notes long d) ∙ take_at (map note_of (held_by deck)) (drop (count_of deck) was) c as_many

  pub notes_count : c ≡ length (take c notes)
  notes_count = omega (arith, ap length numbers_are, as_many, same_long (take c notes))

  pub notes_fit : c ≤ length notes
  notes_fit = omega (arith, notes_count, length-take c notes)

  pub notes_ready : Ready deck (numbers_of (take c notes)) long
  notes_ready = record { sound = s; are = numbers_are; ends = sym (told_faithful (says long) (end_said (behind (count_of deck)) (held_by deck)) (sym d ∙ n.ends)) }

-- ---- the new deck put

module _ {deck notes : List ℕ} {need : ℕ} (h : Ready deck notes need) where
  abbrev found : (c : Convertible deck) × (need ≡ behind (count_of deck) + length (bodies c.new))
  found = convertible deck h.sound h.ends

  abbrev new : List Entry
  new = found.0.new

  many : length new ≡ count_of deck
  many = same_count found.0.converts ∙ held_long deck

  pub said : convert_said deck ≡ says (deck_text new)
  said = convertible_said deck found.0

  pub need_is : need ≡ length (deck_text new)
  need_is = omega (arith, found.1, length_text new, many)

  pub small_room : {room : List ℕ} → length room < need → Entered room room (convert_said deck) (Refused room_too_small need)
  small_room l = entered_short need_is said l

  pub each : Each deck notes
  each = record { head = h.sound.head; long = ap length h.are ∙ length-map (held_by deck) note_of ∙ held_long deck }

  sizes_fit : SizesFit deck notes (1 + 8 * count_of deck)
  sizes_fit =
      let sizes = sizes_noted_law deck (contents_of deck) (sound_right deck h.sound) found.0.converts in
      let within = ends_within found.0.converts (omega (arith, h.sound.head.whole, h.sound.head.short)) in
      subst (λ (ks : List ℕ). SizesFit deck ks (1 + 8 * count_of deck)) (sym h.are) (omega (arith, sizes, within))

  pub sizes_fit_at : {c : ℕ} → c ≡ count_of deck → SizesFit deck notes (1 + 8 * c)
  sizes_fit_at e = subst (λ (n : ℕ). SizesFit deck notes (1 + 8 * n)) (sym e) sizes_fit

  rows_are : rows_noted notes (1 + 8 * count_of deck) (contents_of deck) ≡ rows_for (behind (count_of deck)) new
  rows_are =
      ap (λ (ks : List ℕ). rows_noted ks (1 + 8 * count_of deck) (contents_of deck)) h.are
      ∙ sym (rows_noted_law deck (contents_of deck) (sound_right deck h.sound) found.0.converts)

  bodies_are : bodies_noted deck notes (contents_of deck) ≡ bodies new
  bodies_are = ap (λ (ks : List ℕ). bodies_noted deck ks (contents_of deck)) h.are ∙ sym (bodies_noted_law deck (contents_of deck) found.0.converts)

  text : deck_text new ≡ (byte deck 0 ∷ []) ++ rows_text (rows_noted notes (1 + 8 * count_of deck) (contents_of deck)) [] ++ bodies_noted deck notes (contents_of deck)
  text =
      ap (λ (n : ℕ). n ∷ rows_text (rows_for (behind n) new) (bodies new)) many
      ∙ ap (λ (l : List ℕ). count_of deck ∷ l) (rows_before (rows_for (behind (count_of deck)) new) (bodies new))
      ∙ sym (λ i. count_of deck ∷ (rows_text (rows_are i) [] ++ bodies_are i))

  rows_long : length (rows_text (rows_noted notes (1 + 8 * count_of deck) (contents_of deck)) []) ≡ 8 * count_of deck
  rows_long =
      ap (λ (rs : List Row). length (rows_text rs [])) rows_are
      ∙ omega (arith, length_rows (rows_for (behind (count_of deck)) new) [], length_for (behind (count_of deck)) new, many)

  module _ {a b c : List ℕ} {k m n : ℕ} (e : k ≡ count_of deck) (p : Put a b 0 (byte deck 0 ∷ []) m) (rows : Put b c m (rows_text (rows_noted notes (1 + 8 * k) (contents_of deck)) []) n)
      (l : need ≤ length a) where
    q : Put b c m (rows_text (rows_noted notes (1 + 8 * count_of deck) (contents_of deck)) []) n
    q = subst (λ (x : ℕ). Put b c m (rows_text (rows_noted notes (1 + 8 * x) (contents_of deck)) []) n) e rows

    pub bodies_fit : BodiesFit deck notes n c
    bodies_fit = record {
      right = sound_right deck h.sound;
      fits = omega (arith, p.next, q.next, rows_long, l, found.1, ap length bodies_are, put_length p, put_length q);
    }

    pub new_put : {d : List ℕ} {r : ℕ} → Put c d n (bodies_noted deck notes (contents_of deck)) r → Entered a d (convert_said deck) (Done r)
    new_put s = entered_whole said (omega (arith, l, need_is)) (put_as text (then p (then q s)))
