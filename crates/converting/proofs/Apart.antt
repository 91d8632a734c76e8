-- Each card by itself: where it stands in the new deck, and that nothing behind the first card that cannot be converted is looked at; both by going along the entries before it.
-- Assumes nothing.
use Prim.Native.Nat.{ℕ, suc}
use mathlib.Core.Path.{◌≡◌, refl, sym, ap, ◌∙◌}
use mathlib.Core.Bool.{true}
use mathlib.Core.List.{List, [], ◌∷◌, ◌++◌}
use lib.ListN.{length}
use Rattle.card.specs.Card.{Card}
use Rattle.card.specs.Refusals.{not_converted}
use Rattle.entry.specs.Said.{says, refused}
use Rattle.deck.specs.Deck.{Entry}
use Rattle.reading.specs.Reading.{taken, refused as turned}
use Rattle.texts.specs.Writing.{write_of}
use Rattle.converting.specs.Converting.{with_body, body_by, entries_said}
use Rattle.converting.specs.Converts.{Converts, next, Stops, no_body, past_end, later, StandsIn}
use Rattle.converting.proofs.Exactly.{stops_said, said_stops}

pub stands : (before after : List Entry) (e : Entry) {at : ℕ} {new : List Entry} → Converts at (before ++ (e ∷ after)) new → StandsIn e before new
stands [] after e (next {new = new} {body = body} b l more) = record { first = []; body = body; rest = new; split = refl; place = refl; becomes = b }
stands (x ∷ before) after e (next {new = new} {body = body} b l more) =
    let k = stands before after e more in
    record {
      first = with_body x body ∷ k.first;
      body = k.body;
      rest = k.rest;
      split = ap (λ (es : List Entry). with_body x body ∷ es) k.split;
      place = ap suc k.place;
      becomes = k.becomes;
    }

rest_stops : {at number : ℕ} {es : List Entry} (fs : List Entry) → Stops at es number → Stops at (es ++ fs) number
rest_stops fs (no_body b) = no_body b
rest_stops fs (past_end b l) = past_end b l
rest_stops fs (later b l more) = later b l (rest_stops fs more)

pub rest_unread : (at : ℕ) (es fs : List Entry) (r number : ℕ) → entries_said at es ≡ refused r number → entries_said at (es ++ fs) ≡ refused r number
rest_unread at es fs r number q =
    let (z, s) = said_stops {at = at} {es = es} q in
    stops_said (rest_stops fs s) ∙ ap (λ (n : ℕ). refused n number) (sym z)

-- a written form of the most bytes that a card may have, and one of a byte more
pub longest : (number : ℕ) (card : List ℕ) (c : Card) (r p : ℕ) → length (write_of c) ≡ 16384 → body_by true number card (taken c) (turned r p) ≡ says (write_of c)
longest number card c r p e = rw e

pub too_long : (number : ℕ) (card : List ℕ) (c : Card) (r p : ℕ) → length (write_of c) ≡ 16385 → body_by true number card (taken c) (turned r p) ≡ refused not_converted number
too_long number card c r p e = rw e
