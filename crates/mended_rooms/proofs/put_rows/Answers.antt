-- `mended_rooms::put_rows` meets its contract: each turn leaves one entry less to be put. Assumes nothing.
use Prim.Native.Nat.{◌+◌, ◌*◌}
use mathlib.Core.Path.{◌≡◌}
use borrow.Author.Rules.{rules}
use native.Mathlib.Omega.{arith}
use Rattle.mended_rooms.proofs.Putting.{rows_start, rows_end, rows_on_entry}
use Rattle.mended_rooms.proofs.put_rows.Goals as goal

pub loop-i-init : goal.loop-i-init
loop-i-init c =
    rows_start c.args.deck.now c.args.fates.now c.args.first c.requires.each (search rules) c.place-to.ensures c.requires.offsets_fit

pub loop-i-preserved : goal.loop-i-preserved
loop-i-preserved c =
    let far : 1 + 8 * (c.loop-i.i + 1) ≡ 1 + 8 * c.loop-i.i + 8 = omega arith in
    rw far (rows_on_entry _ _ _ c.requires.each c.loop-i.invariant c.loop-i-test.true c.at-entry.ensures c.put_kept_row-to.ensures c.offset_behind-offset.ensures)

pub returns : goal.returns
returns c = rows_end _ _ _ c.requires.each c.loop-i.invariant c.loop-i-test.false
