-- `program_lines::put_seats` meets its contract: after i turns the first i seats are stored. Assumes nothing.
use Prim.Native.Nat.{◌<◌}
use mathlib.Core.Path.{◌≡◌, refl, ap, ◌∙◌}
use native.Mathlib.Omega.{arith}
use lib.ListN.{length-take}
use lib.Seq.{get_or-take}
use Rattle.panel_wording.specs.Lines.{seat_of}
use Rattle.program_lines.proofs.Seats.{sown, sown_next}
use Rattle.program_lines.proofs.put_seats.Goals as goal

pub loop-i-init : goal.loop-i-init
loop-i-init c = refl

pub loop-i-preserved : goal.loop-i-preserved
loop-i-preserved c =
    let here : c.loop-i.i < c.min-count.result = omega (arith, length-take c.min-count.result c.args.line.now) in
    let this = c.unwrap_or.ensures ∙ c.seat_of.ensures ∙ ap seat_of (get_or-take c.min-count.result c.args.line.now c.loop-i.i 0 here) in
    sown_next c.args.line.now c.args.seats.now c.loop-i.i (omega arith) (omega arith) this c.loop-i.invariant

pub returns : goal.returns
returns c =
    let all : c.loop-i.i ≡ c.min-count.result = omega (arith, length-take c.min-count.result c.args.line.now) in
    record { value = c.min-count.ensures; seats_after = c.loop-i.invariant ∙ ap (sown c.args.line.now c.args.seats.now) all }
