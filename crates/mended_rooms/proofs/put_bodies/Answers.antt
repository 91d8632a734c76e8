-- `mended_rooms::put_bodies` meets its contract: each turn leaves one body less to be put. Assumes nothing.
use Prim.Native.Nat.{◌+◌, ◌*◌}
use mathlib.Core.Path.{◌≡◌}
use borrow.Author.Rules.{rules}
use native.Mathlib.Omega.{arith}
use Rattle.mended_rooms.proofs.Putting.{bodies_start, bodies_end, inside_entry, bodies_on_entry}
use Rattle.mended_rooms.proofs.put_bodies.Goals as goal

pub loop-i-init : goal.loop-i-init
loop-i-init c =
    bodies_start c.args.deck.now c.args.fates.now c.requires.each (search rules) c.place-to.ensures c.requires.bodies_inside

pub put_kept_body-to-requires : goal.put_kept_body-to-requires
put_kept_body-to-requires c = inside_entry _ _ c.requires.each c.loop-i.invariant c.loop-i-test.true c.at-entry.ensures

pub loop-i-preserved : goal.loop-i-preserved
loop-i-preserved c =
    let far : 1 + 8 * (c.loop-i.i + 1) ≡ 1 + 8 * c.loop-i.i + 8 = omega arith in
    rw far (bodies_on_entry _ _ c.requires.each c.loop-i.invariant c.loop-i-test.true c.at-entry.ensures c.put_kept_body-to.ensures)

pub returns : goal.returns
returns c = bodies_end _ _ c.requires.each c.loop-i.invariant c.loop-i-test.false
