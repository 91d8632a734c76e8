-- `panel::program::print` meets its contract: the panel, or the line of its refusal. Assumes nothing.
use Rattle.panel.proofs.Parts.{panel_short}
use Rattle.program_lines.proofs.Printing.{printed_done, printed_refused}
use native.Mathlib.Omega.{arith}
use Rattle.panel.proofs.program.print.Goals as goal

pub returns-in-Ok : goal.returns-in-Ok
returns-in-Ok c =
    printed_done c.panel.ensures c.in-Ok.is

pub returns-in-Err : goal.returns-in-Err
returns-in-Err c =
    printed_refused (panel_short _ _) c.requires (omega arith) c.panel.ensures c.in-Err.is c.put_refusal.ensures.line c.put_refusal.ensures.short
