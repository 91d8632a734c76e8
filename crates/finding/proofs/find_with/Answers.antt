-- `finding::find_with` meets its contract: the part that `locate_with` names, in the deck that it names. Assumes nothing.
use Rattle.std.proofs.Common.{◌≡◌, refl}
use borrow.Author.Tests.{eq-eqb, ne_eqb}
use Rattle.boxes.proofs.Lookup.{deck_of, part_inside_with, find_found_with}
use Rattle.finding.proofs.find_with.Goals.{Joined-place-eq-EXPANSION, then-place-eq-EXPANSION, else-place-eq-EXPANSION}
use Rattle.finding.proofs.find_with.Goals as goal

named : (c : Joined-place-eq-EXPANSION) → c.if-place-eq-EXPANSION.deck.now ≡ deck_of c.args.base.now c.args.expansion.now c.in-Ok.place
named c =
    elim c.if-place-eq-EXPANSION.branch [
      | then-place-eq-EXPANSION w ↦ rw (w.deck-is, eq-eqb c.in-Ok.place.which 1 w.if-place-eq-EXPANSION.true) refl
      | else-place-eq-EXPANSION w ↦ rw (w.deck-is, ne_eqb c.in-Ok.place.which 1 w.if-place-eq-EXPANSION.false) refl
    ]

pub part-requires : goal.part-requires
part-requires c =
    rw (named c) (part_inside_with c.args.base.now c.args.expansion.now c.args.number c.locate_with-found.ensures c.in-Ok.is)

pub returns-after-place-eq-EXPANSION : goal.returns-after-place-eq-EXPANSION
returns-after-place-eq-EXPANSION c =
    find_found_with c.args.base.now c.args.expansion.now c.args.number c.locate_with-found.ensures
    (rw (c.in-Ok.is, c.part.ensures, named (goal.at.returns-after-place-eq-EXPANSION c).Joined-place-eq-EXPANSION) refl)
    c.tell.ensures

pub returns-in-Err : goal.returns-in-Err
returns-in-Err c = find_found_with c.args.base.now c.args.expansion.now c.args.number c.locate_with-found.ensures (rw c.in-Err.is refl) c.tell.ensures
