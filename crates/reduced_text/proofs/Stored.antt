-- The text of a card that a head and arrays hold has no more bytes than any reduced text has. Assumes nothing.
use Prim.Native.Nat.{◌≤◌}
use mathlib.Core.Path.{sym, subst}
use native.Mathlib.Omega.{arith}
use lib.ListN.{length}
use Rattle.card.specs.Card.{Card}
use Rattle.card.specs.Lent.{Lent, card_in, HoldsIn}
use Rattle.card.specs.declared.Head.{Head}
use Rattle.card.proofs.HeldIn.{holds_card}
use Rattle.room.specs.Room.{cap}
use Rattle.texts.specs.ReducedText.{reduced_of}
use Rattle.texts.specs.Lengths.{reduced_room}
use Rattle.texts.proofs.ReducedShort.{short}

module _ {h : Head} {x : Lent} (v : HoldsIn h x) where
  pub held_most : length (reduced_of (card_in h x)) ≤ reduced_room
  held_most = subst (λ (c : Card). length (reduced_of c) ≤ reduced_room) (sym (holds_card v)) (short v.card v.valid)

  pub held_cap : length (reduced_of (card_in h x)) ≤ cap
  held_cap = omega (arith, held_most)
