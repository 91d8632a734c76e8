-- `put_numbers::put_long_number` meets its contract: the digits are stored from the last on, so that after each turn those from there on stand.
-- Assumes nothing.
use Rattle.room.proofs.Stores.{put_past}
use Rattle.put_numbers.proofs.Backwards.{back_none, back_more, back_past, leads_all, leads_last, leads_next}
use Rattle.room.proofs.Decimal.{decimal_length}
use borrow.Author.Rules.{rules}
use native.Mathlib.Omega.{arith}
use Rattle.put_numbers.proofs.put_long_number.Goals as goal

pub returns-then-room-at : goal.returns-then-room-at
returns-then-room-at c = put_past (search rules) c.if-room-at.true (search rules)

pub loop-j-init : goal.loop-j-init
loop-j-init c =
    record { leads = leads_all _ _ c.digits-k.ensures; wrote = back_none _ _ _ _ (search rules) }

pub overflow_add-to : goal.overflow_add-to
overflow_add-to c =
    let n = c.args.n in
    omega (arith, c.loop-j.invariant.leads.within, decimal_length 19 n (omega arith))

pub loop-j-preserved-then-to-room : goal.loop-j-preserved-then-to-room
loop-j-preserved-then-to-room c =
    let p = c.loop-j.invariant in
    let some = c.loop-j-test.true in
    record { leads = leads_next p.leads some; wrote = back_more _ _ _ _ some p.leads.within (leads_last p.leads some) p.wrote }

pub loop-j-preserved : goal.loop-j-preserved
loop-j-preserved c =
    let p = c.loop-j.invariant in
    let some = c.loop-j-test.true in
    record { leads = leads_next p.leads some; wrote = back_past _ _ _ _ some (search rules) p.wrote }
