-- What adding says, from what the live cards and the card say. Assumes nothing.
use Prim.Native.Nat.{ℕ}
use mathlib.Core.Path.{◌≡◌, sym, ap, ◌∙◌, subst}
use mathlib.Core.List.{List}
use Rattle.card.specs.Card.{Card}
use Rattle.entry.specs.Said.{Said, refused, ◌>>=◌}
use Rattle.deck.specs.Deck.{Entry}
use Rattle.rows.specs.Said.{card_said}
use Rattle.room.specs.Answer.{Answer}
use Rattle.tidying.specs.Tidying.{live_said, place_said, add_said}
use Rattle.tidying.specs.Tidied.{live_cards, Tidiable}
use Rattle.tidying.proofs.NewDecks.{live_says}
use Rattle.tidy.specs.Tidies.{Tidied}

module _ (deck : List ℕ) (number : ℕ) (card : List ℕ) where
  -- behind the card
  abbrev pub placed_for : Card → Said (List ℕ)
  placed_for c = place_said deck number card (live_cards deck)

  pub add_refused : {r p : ℕ} → live_said deck ≡ refused r p → add_said deck number card ≡ refused r p
  unfolding add_said
  add_refused e = ap (λ (x : Said (List Entry)). x >>= (λ (es : List Entry). card_said card >>= (λ (c : Card). place_said deck number card es))) e

  module _ (t : Tidiable deck) where
    behind_live : add_said deck number card ≡ card_said card >>= placed_for
    unfolding add_said
    behind_live = ap (λ (x : Said (List Entry)). x >>= (λ (es : List Entry). card_said card >>= (λ (c : Card). place_said deck number card es))) (live_says deck t)

    pub card_refused : {r p : ℕ} → card_said card >>= placed_for ≡ refused r p → add_said deck number card ≡ refused r p
    card_refused e = behind_live ∙ e

    pub card_taken : {is : List ℕ} {a : Answer} → place_said deck number card (live_cards deck) ≡ card_said card >>= placed_for → Tidied deck is (place_said deck number card (live_cards deck)) a
        → Tidied deck is (add_said deck number card) a
    card_taken {is} {a} e p = subst (λ (x : Said (List ℕ)). Tidied deck is x a) (e ∙ sym behind_live) p
