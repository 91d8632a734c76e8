-- What mending says, by what is kept and by the rooms: nothing kept, a deck or a list that does not fit, or both put. Assumes nothing.
use Prim.Native.Nat.{ℕ, ◌+◌, ◌*◌, ◌≤◌, ◌<◌}
use mathlib.Core.Path.{◌≡◌, refl, sym, ap, ◌∙◌}
use mathlib.Core.List.{List, [], map}
use native.Mathlib.Omega.{arith}
use lib.ListN.{length}
use borrow.Author.Tests.{le-leb, lt-leb}
use Rattle.std.specs.Prelude.{Option}
use Rattle.card.specs.Refusals.{malformed_deck, room_too_small}
use Rattle.entry.specs.Said.{says, refused}
use Rattle.entry.specs.Contract.{onto, Two, two}
use Rattle.deck.specs.Deck.{bodies, deck_text}
use Rattle.deck.proofs.Written.{length_text}
use Rattle.room.specs.Room.{Put}
use Rattle.room.proofs.Laws.{put_as, clip_start}
use Rattle.phrases.specs.Puts.{Puts}
use Rattle.mending.specs.FateBy.{fate_by}
use Rattle.mending.specs.declared.Rule.{Rule}
use Rattle.mending.specs.Mending.{Fate, fates_in, kept_in, list_text, mended, mend_said}
use Rattle.mending.proofs.MendStage.{none_kept, some_kept_law}
use Rattle.mended_rooms.specs.Lines.{lines_by}
use Rattle.mended_rooms.proofs.Listed.{listed_by, list_short}
use Rattle.mended_rooms.specs.KeptBy.{Fates}
use Rattle.mended_rooms.specs.Mends.{Done, Refused}
use Rattle.mended_rooms.specs.Mends.{Mends}

pub mends_refused : {was : Two (List ℕ)} (deck : List ℕ) {number place : ℕ} → mend_said deck ≡ refused number place → Mends was was deck (Refused number place)
mends_refused deck e = rw e (record { answers = refl; leaves = refl })

module _ {deck : List ℕ} {fates : List (Option Rule)} {cards : ℕ} (h : Fates deck fates cards) where
  pub nothing_kept : {was : Two (List ℕ)} → cards ≡ 0 → Mends was was deck (Refused malformed_deck 0)
  nothing_kept z = mends_refused deck (none_kept deck h.head (sym h.count ∙ z))

  says_mended : (cards ≡ 0 → ⊥) → mend_said deck ≡ says (mended deck)
  says_mended some = some_kept_law deck h.head (omega (arith, h.count, some))

  -- the list, put into a room of no bytes or into the lent one
  module _ {was is : List ℕ} {r : ℕ} (p : Puts was is 0 (lines_by (map fate_by fates)) r) where
    list_put : Put was is 0 (list_text (fates_in deck)) r
    list_put = put_as (sym (ap (λ (fs : List Fate). lines_by fs []) h.are ∙ listed_by (fates_in deck))) p.put

    lines_are : r ≡ length (list_text (fates_in deck))
    lines_are = omega (arith, list_put.next, list_short deck, h.head.few)

  module _ {bytes : ℕ} (eb : bytes ≡ length (bodies (kept_in deck))) where
    -- the length needed is the deck's
    pub need_small : 1 + 8 * cards + bytes ≤ 65535
    need_small = omega (arith, h.short, h.head.short, eb)

    need_is : length (deck_text (kept_in deck)) ≡ 1 + 8 * cards + bytes
    need_is = length_text (kept_in deck) ∙ omega (arith, h.count, eb)

    module _ (room list : List ℕ) (some : cards ≡ 0 → ⊥) where
      pub small_room : length room < 1 + 8 * cards + bytes → Mends (two room list) (two room list) deck (Refused room_too_small (1 + 8 * cards + bytes))
      small_room l =
          let t = deck_text (kept_in deck) in
          let longer : length room < length t = omega (arith, need_is) in
          rw (says_mended some) (record { answers = rw (lt-leb (length t) (length room) longer, need_is); leaves = rw (lt-leb (length t) (length room) longer) })

      module _ (roomy : 1 + 8 * cards + bytes ≤ length room) {a b : List ℕ} {lines : ℕ} (measured : Puts a b 0 (lines_by (map fate_by fates)) lines) where
        deck_fits : length (deck_text (kept_in deck)) ≤ length room
        deck_fits = omega (arith, need_is)

        pub small_list : length list < lines → Mends (two room list) (two room list) deck (Refused room_too_small lines)
        small_list l =
            let t = deck_text (kept_in deck) in
            let u = list_text (fates_in deck) in
            let longer : length list < length u = omega (arith, lines_are measured) in
            rw (says_mended some, lines_are measured) (record {
              answers = rw (le-leb (length t) (length room) deck_fits, lt-leb (length u) (length list) longer);
              leaves = rw (le-leb (length t) (length room) deck_fits, lt-leb (length u) (length list) longer);
            })

        pub both_put : {room' list' : List ℕ} {r s : ℕ} → lines ≤ length list → Put room room' 0 (deck_text (kept_in deck)) r → Puts list list' 0 (lines_by (map fate_by fates)) s
            → Mends (two room list) (two room' list') deck (Done r s)
        both_put {room'} {list'} {r} {s} l p q =
            let t = deck_text (kept_in deck) in
            let u = list_text (fates_in deck) in
            let list-fits : length u ≤ length list = omega (arith, lines_are measured) in
            let first-length : r ≡ length t = omega (arith, p.next, p.small, deck_fits) in
            let first-room : room' ≡ onto t room = p.wrote ∙ clip_start room t deck_fits in
            let second-room : list' ≡ onto u list = (list_put q).wrote ∙ clip_start list u list-fits in
            rw (says_mended some, first-length, lines_are q, first-room, second-room) (record {
              answers = rw (le-leb (length t) (length room) deck_fits, le-leb (length u) (length list) list-fits);
              leaves = rw (le-leb (length t) (length room) deck_fits, le-leb (length u) (length list) list-fits);
            })
