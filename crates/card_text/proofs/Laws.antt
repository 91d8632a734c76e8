-- The written card in the form in which the code puts it: one module more after each turn of a loop, the parts of the card one after the
-- other, and no more bytes than are reckoned. Assumes nothing.
use Prim.Native.Nat.{ℕ, zero, suc, ◌+◌, ◌-◌, ◌≤◌}
use mathlib.Core.Path.{◌≡◌, refl, sym, ap, subst}
use mathlib.Core.List.{List, []}
use native.Mathlib.Numerals.{add-one}
use native.Mathlib.Nat.{le_trans}
use lib.ListN.{length}
use Rattle.card.specs.Card.{Card}
use Rattle.card.specs.Lent.{Lent, card_in, HoldsIn}
use Rattle.card.specs.declared.Head.{Head}
use Rattle.card.proofs.HeldIn.{holds_card, holds_seats, holds_count}
use Rattle.room.specs.Room.{cap, Put}
use Rattle.room.proofs.Laws.{put_as}
use Rattle.phrases.specs.Phrases.{Text, ◌▸◌, counted}
use Rattle.phrases.specs.Puts.{Puts}
use Rattle.texts.specs.Writing.{module_text, modules, write_of}
use Rattle.texts.specs.Lengths.{written_most}
use Rattle.texts.proofs.WrittenShort.{written_short, written_cap, room_cap}
use Rattle.leaf_text.specs.declared.style.Form.TheVariants.{Written}
use Rattle.statement_text.specs.Statements.{statements_text}
use Rattle.statement_text.proofs.Both.{written_each}
use Rattle.card_text.specs.Parts.{head_text}

abbrev pub next_module : ℕ → Text
next_module i = module_text (i + 1)

pub modules_counted : (i c : ℕ) (r : List ℕ) → counted next_module i c r ≡ modules i c r
unfolding counted
modules_counted i zero r = refl
modules_counted i (suc c) r = rw (add-one, modules_counted (suc i) c r)

pub write_text : (c : Card) {a b : List ℕ} {m : ℕ}
    → Puts a b 0 (λ r. head_text c.mode c.shared c.k c.l (statements_text Written c ("endmodule\n" ▸ modules 1 (c.n - 1) r))) m → Put a b 0 (write_of c) m
unfolding write_of
write_text c p =
    put_as (ap (head_text c.mode c.shared c.k c.l) (sym (written_each c.mode c.n c.statements ("endmodule\n" ▸ modules 1 (c.n - 1) [])))) p.put

-- ---- of a head and arrays that hold a card

module _ {h : Head} {x : Lent} (v : HoldsIn h x) where
  pub held_most : length (write_of (card_in h x)) ≤ written_most h.seats h.count
  held_most =
      subst (λ (c : Card). length (write_of c) ≤ written_most h.seats h.count) (sym (holds_card v))
      (subst (λ (g : Head). length (write_of v.card) ≤ written_most g.seats g.count) (sym v.head) (written_short v.card v.valid))

  pub held_cap : length (write_of (card_in h x)) ≤ cap
  held_cap = le_trans held_most (le_trans (written_cap h.seats h.count (holds_seats v) (holds_count v)) room_cap)
