-- How a deck changed in place keeps its promise; and what is said of a deck by its verdict and its live cards. Assumes nothing.
use Prim.Native.Nat.{ℕ, ◌<◌}
use mathlib.Core.Path.{◌≡◌, refl, sym, ap, ◌∙◌}
use mathlib.Core.List.{List}
use native.Mathlib.Omega.{arith}
use borrow.Author.Tests.{lt-leb}
use lib.ListN.{length}
use Rattle.card.specs.Refusals.{no_live_card}
use Rattle.card.specs.Verdict.{Taken, Refused as Judged}
use Rattle.entry.specs.Said.{Said, says, refused, ◌>>=◌}
use Rattle.deck.specs.Contents.{judged}
use Rattle.deck.specs.Deck.{Entry, held_by, deck_text}
use Rattle.deck.specs.Sound.{Sound}
use Rattle.deck.proofs.Judged.{sound_judged}
use Rattle.deck.proofs.Kept.{held_said}
use Rattle.deck_entries.specs.Verdicts.{verdict_of}
use Rattle.deck_entries.proofs.Laws.{verdict_refused, verdict_fine}
use Rattle.room.specs.Answer.{Done, Refused}
use Rattle.tidying.specs.Tidying.{live_said, tidy_said, live_entries}
use Rattle.tidying.specs.Tidied.{live_cards, lent_after, Tidiable}
use Rattle.gathering.specs.LiveRows.{Measures}
use Rattle.gathering.specs.declared.Live.{Live}
use Rattle.tidy.specs.Tidies.{Tidied, Measured}
use Rattle.tidy.proofs.LiveDeck.{cards_count}

pub changed_refused : {was : List ℕ} {said : Said (List ℕ)} {number place : ℕ} → said ≡ refused number place → Tidied was was said (Refused number place)
changed_refused e = rw e (record { answers = refl; leaves = refl })

pub changed_done : {was is t : List ℕ} {said : Said (List ℕ)} {n : ℕ} → said ≡ says t → is ≡ lent_after t was → n ≡ length t → Tidied was is said (Done n)
changed_done e l k = rw (e, k, l) (record { answers = refl; leaves = refl })

module _ (deck : List ℕ) where
  pub verdict_sound : verdict_of (judged deck) ≡ Taken → Sound deck
  verdict_sound e = sound_judged deck (verdict_fine (judged deck) e)

  -- the refusals of every entry on live cards
  pub live_malformed : {r p : ℕ} → verdict_of (judged deck) ≡ Judged r p → live_said deck ≡ refused r p
  live_malformed e = rw (verdict_refused (judged deck) e)

  module _ (s : Sound deck) {live : Live} (m : Measures deck live) where
    pub measured_live : Measured deck live
    measured_live = record { sound = s; live = m }

    count_live : length (live_cards deck) ≡ live.cards
    count_live = cards_count deck s ∙ sym m.cards

    pub live_none : live.cards ≡ 0 → live_said deck ≡ refused no_live_card 0
    live_none z =
        let none : length (live_entries (held_by deck)) < 1 = omega (arith, count_live, z) in
        rw (held_said deck s, lt-leb 1 (length (live_entries (held_by deck))) none)

    pub live_some : (live.cards ≡ 0 → ⊥) → Tidiable deck
    live_some n = record { sound = s; some = omega (arith, count_live, n) }

  pub tidy_refused : {r p : ℕ} → live_said deck ≡ refused r p → tidy_said deck ≡ refused r p
  unfolding tidy_said
  tidy_refused e = ap (λ (x : Said (List Entry)). x >>= (λ (es : List Entry). says (deck_text es))) e
