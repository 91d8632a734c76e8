-- What the new deck is: numbers, flags and order stay, so it can be written; it is sound, has no gaps, and every live card is taken under the new rule, so that converting it again
-- changes nothing. Of a sound deck whose live cards the new rule takes only the gaps go. Assumes nothing.
use Prim.Native.Nat.{ℕ, suc, ◌+◌, ◌≤◌}
use mathlib.Core.Path.{◌≡◌, refl, sym, ap, ◌∙◌}
use mathlib.Core.Bool.{Bool, false, false≢true}
use mathlib.Core.List.{List, [], ◌∷◌, map}
use native.Mathlib.Omega.{arith}
use lib.ListN.{length, length-append}
use Rattle.card.specs.Limits.{deck_bytes}
use Rattle.card.specs.Valid.{Every}
use Rattle.entry.specs.Said.{says}
use Rattle.entry.proofs.Stages.{same_said}
use Rattle.deck.specs.Contents.{count_of, behind}
use Rattle.deck.specs.Deck.{Entry, held_by, deck_of, bodies, deck_text, Rising, Writable, Bytes}
use Rattle.deck.specs.Sound.{Sound}
use Rattle.deck.proofs.Kept.{held_writable}
use Rattle.deck.proofs.Written.{text_sound, text_back}
use Rattle.deck.proofs.DeckStages.{deck_stage}
use Rattle.deck_written.specs.Fine.{NoGaps}
use Rattle.deck_written.proofs.NoGaps.{no_gaps}
use Rattle.converting.specs.Converting.{entries_said, convert_said}
use Rattle.converting.specs.Converts.{Converts, end, next, Convertible, AllNew}
use Rattle.converting.proofs.Bodies.{new_live, stays}
use Rattle.converting.proofs.Exactly.{converts_said, sound_said, held_long}

-- ---- entries

-- numbers, flags and order
pub same_numbers : {at : ℕ} {es new : List Entry} → Converts at es new → map (λ (e : Entry). e.number) new ≡ map (λ (e : Entry). e.number) es
same_numbers end = refl
same_numbers (next {e = e} b l more) = ap (λ (ns : List ℕ). e.number ∷ ns) (same_numbers more)

pub same_flags : {at : ℕ} {es new : List Entry} → Converts at es new → map (λ (e : Entry). e.live) new ≡ map (λ (e : Entry). e.live) es
same_flags end = refl
same_flags (next {e = e} b l more) = ap (λ (fs : List Bool). e.live ∷ fs) (same_flags more)

pub same_count : {at : ℕ} {es new : List Entry} → Converts at es new → length new ≡ length es
same_count end = refl
same_count (next b l more) = ap suc (same_count more)

still_rising : {at : ℕ} {es new : List Entry} (least : ℕ) → Converts at es new → Rising least es → Rising least new
still_rising least end h = tt
still_rising least (next {e = e} b l more) h = (h.0, h.1, still_rising (suc e.number) more h.2)

-- where the last one ends
pub ends_within : {at : ℕ} {es new : List Entry} → Converts at es new → at ≤ deck_bytes → at + length (bodies new) ≤ deck_bytes
ends_within end h = omega arith
ends_within (next {at} {new = new} {body = body} b l more) h = omega (arith, ends_within more l, length-append body (bodies new))

all_new : {at : ℕ} {es new : List Entry} → Converts at es new → AllNew new
all_new end = tt
all_new (next {e = e} b l more) = (new_live e b, all_new more)

-- what is new already stays
stay : (at : ℕ) (es : List Entry) → AllNew es → at + length (bodies es) ≤ deck_bytes → Converts at es es
stay at [] h l = end
stay at (e ∷ es) h l =
    let long = length-append e.body (bodies es) in
    let fits : at + length e.body ≤ deck_bytes = omega (arith, long) in
    next (stays e h.0) fits (stay (at + length e.body) es h.1 (omega (arith, long)))

-- ---- a deck whose live cards the new rule takes

module _ (deck : List ℕ) (s : Sound deck) (b : Bytes deck) where
  writable : Writable (held_by deck)
  writable = held_writable deck s b

  pub only_gaps_go : AllNew (held_by deck) → convert_said deck ≡ says (deck_text (held_by deck))
  only_gaps_go h = sound_said deck s (converts_said (stay (behind (count_of deck)) (held_by deck) h (omega (arith, writable.short, held_long deck))))

  -- so any deck without live cards
  none_new : (es : List Entry) → Every (λ (e : Entry). e.live ≡ false) es → AllNew es
  none_new [] h = tt
  none_new (e ∷ es) h = (λ live. absurd (false≢true (sym h.0 ∙ live)), none_new es h.1)

  pub no_live_card : Every (λ (e : Entry). e.live ≡ false) (held_by deck) → convert_said deck ≡ says (deck_text (held_by deck))
  no_live_card h = only_gaps_go (none_new (held_by deck) h)

-- ---- the new deck

module _ (deck : List ℕ) (c : Convertible deck) (b : Bytes deck) where
  abbrev new : List ℕ
  new = deck_text c.new

  old_writable : Writable (held_by deck)
  old_writable = held_writable deck c.sound b

  pub new_writable : Writable c.new
  new_writable =
      let count = same_count c.converts in
      record {
        some = omega (arith, count, old_writable.some);
        few = omega (arith, count, old_writable.few);
        rising = still_rising 0 c.converts old_writable.rising;
        short = omega (arith, count, held_long deck, ends_within c.converts (omega (arith, c.sound.head.whole, c.sound.head.short)));
      }

  pub new_sound : Sound new
  new_sound = text_sound c.new new_writable

  pub new_back : deck_of new ≡ says c.new
  new_back = text_back c.new new_writable

  pub new_held : held_by new ≡ c.new
  new_held = same_said (sym ((deck_stage new).found.each new_sound) ∙ new_back)

  pub new_no_gaps : NoGaps new
  new_no_gaps = no_gaps c.new new_writable.some

  pub new_all : AllNew (held_by new)
  new_all = rw new_held (all_new c.converts)

  pub again : convert_said new ≡ says new
  again =
      sound_said new new_sound
      (ap (λ (es : List Entry). entries_said (behind (count_of new)) es) new_held ∙ converts_said (stay (behind (length c.new)) c.new (all_new c.converts) new_writable.short))
