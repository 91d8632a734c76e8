-- What stands behind the bracket is the rest of the card, lent as a part (part_is); each way out is one of Opening's laws on an item.
-- Assumes nothing.
use Prim.Native.Nat.{◌-◌, ◌^◌}
use mathlib.Core.Path.{refl}
use borrow.Author.Rules.{rules}
use native.Mathlib.Omega.{arith}
use lib.ListN.{length, take, drop}
use Rattle.std.specs.Prelude.{Some, Ok, Err}
use Rattle.items.specs.Language.{language_of}
use Rattle.items.specs.Items.{ItemAt}
use Rattle.items.proofs.Opening.{step_within, part_is, part_placed, no_bracket, no_item, item_full, item_wrong, item_kept}
use Rattle.items.proofs.keep_item.Goals as goal

pub returns-then-s-ne-ROUND_OPEN : goal.returns-then-s-ne-ROUND_OPEN
returns-then-s-ne-ROUND_OPEN c =
    let a = c.args in
    (refl, refl, no_bracket (language_of a.text.now.language) a.text.now.bytes.now a.at a.text.now.top a.nodes.now a.nodes.now a.state.now c.step_opening-s.result c.step_opening-s.ensures c.if-s-ne-ROUND_OPEN.true)

pub slice_bounds-part-count : goal.slice_bounds-part-count
slice_bounds-part-count c =
    let a = c.args in
    omega (arith, step_within a.text.now.bytes.now a.at c.step_opening-s.result c.step_opening-s.ensures)

pub slice_bounds-part-start : goal.slice_bounds-part-start
slice_bounds-part-start c =
    let a = c.args in
    omega (arith, step_within a.text.now.bytes.now a.at c.step_opening-s.result c.step_opening-s.ensures)

pub returns-in_default : goal.returns-in_default
returns-in_default c =
    let a = c.args in
    let card = a.text.now.bytes.now in
    let s = c.step_opening-s.result in
    let l = step_within card a.at s c.step_opening-s.ensures in (
      refl,
      refl,
      no_item (language_of a.text.now.language) card a.at a.text.now.top a.nodes.now a.nodes.now a.state.now s c.step_opening-s.ensures l
          (take (length card - s.next.at) (drop s.next.at card)) (part_is card s.next.at l) c.in_default.ensures,
    )

pub returns-then-state-eq0 : goal.returns-then-state-eq0
returns-then-state-eq0 c depth =
    let a = c.args in
    let card = a.text.now.bytes.now in
    let s = c.step_opening-s.result in
    let l = step_within card a.at s c.step_opening-s.ensures in
    rw c.stop.ensures
    (item_full (language_of a.text.now.language) card a.at a.text.now.top a.nodes.now a.nodes.now a.state.now s c.step_opening-s.ensures l
    (take (length card - s.next.at) (drop s.next.at card)) (part_is card s.next.at l) c.if-s-ne-ROUND_OPEN.false depth _
    c.in-Some.read c.in-Some.ensures c.if-state-eq0.true (record { refused = refl }))

pub overflow_add-result : goal.overflow_add-result
overflow_add-result c =
    let card = c.args.text.now.bytes.now in
    let s = c.step_opening-s.result in
    let l = step_within card c.args.at s c.step_opening-s.ensures in
    let part = take (length card - s.next.at) (drop s.next.at card) in
    let found : ItemAt (language_of c.args.text.now.language) part (Some (Ok c.in-Ok.g)) = rw c.in-Ok.is at c.in-Some.ensures in
    omega (arith, part_placed card s.next.at l (2 ^ 64) c.in-Ok.g.next (search rules) found.inside.next)

pub overflow_add-begin : goal.overflow_add-begin
overflow_add-begin c =
    let card = c.args.text.now.bytes.now in
    let s = c.step_opening-s.result in
    let l = step_within card c.args.at s c.step_opening-s.ensures in
    let part = take (length card - s.next.at) (drop s.next.at card) in
    let found : ItemAt (language_of c.args.text.now.language) part (Some (Err c.in-Err.place)) = rw c.in-Err.is at c.in-Some.ensures in
    omega (arith, part_placed card s.next.at l (2 ^ 64) c.in-Err.place (search rules) found.inside)

pub lay-requires : goal.lay-requires
lay-requires c =
    let card = c.args.text.now.bytes.now in
    let s = c.step_opening-s.result in
    let l = step_within card c.args.at s c.step_opening-s.ensures in
    let part = take (length card - s.next.at) (drop s.next.at card) in
    let found : ItemAt (language_of c.args.text.now.language) part (Some (Ok c.in-Ok.g)) = rw c.in-Ok.is at c.in-Some.ensures in
    record {
      ready = c.requires;
      left = omega (arith, c.if-state-eq0.false);
      first = part_placed card s.next.at l (2 ^ 64) c.in-Ok.g.first (search rules) found.inside.first;
    }

pub returns-in-Ok : goal.returns-in-Ok
returns-in-Ok c depth =
    let a = c.args in
    let card = a.text.now.bytes.now in
    let s = c.step_opening-s.result in
    let l = step_within card a.at s c.step_opening-s.ensures in
    let part = take (length card - s.next.at) (drop s.next.at card) in
    let found : ItemAt (language_of a.text.now.language) part (Some (Ok c.in-Ok.g)) = rw c.in-Ok.is at c.in-Some.ensures in
    item_kept (language_of a.text.now.language) card a.at a.text.now.top a.nodes.now c.lay.new.nodes a.state.now s c.step_opening-s.ensures l
    part (part_is card s.next.at l) c.if-s-ne-ROUND_OPEN.false depth
    c.in-Ok.g found c.if-state-eq0.false c.bound-most.result c.bound-most.ensures c.lay.new.state c.lay.ensures

pub returns-in-Err : goal.returns-in-Err
returns-in-Err c depth =
    let a = c.args in
    let card = a.text.now.bytes.now in
    let s = c.step_opening-s.result in
    let l = step_within card a.at s c.step_opening-s.ensures in
    let part = take (length card - s.next.at) (drop s.next.at card) in
    let found : ItemAt (language_of a.text.now.language) part (Some (Err c.in-Err.place)) = rw c.in-Err.is at c.in-Some.ensures in
    rw c.stop-in-Err.ensures
    (item_wrong (language_of a.text.now.language) card a.at a.text.now.top a.nodes.now a.nodes.now a.state.now s c.step_opening-s.ensures l
    part (part_is card s.next.at l) c.if-s-ne-ROUND_OPEN.false depth _
    c.in-Err.place found c.if-state-eq0.false (record { refused = refl }))
