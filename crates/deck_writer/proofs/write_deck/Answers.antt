-- `deck_writer::write_deck` meets its contract: the refusal of the contents is the entry's. Assumes nothing.
use mathlib.Core.Path.{sym}
use Rattle.std.proofs.lemmas.Result.{err_from_is_err_and}
use Rattle.room.proofs.Entries.{entered_refused}
use Rattle.deck_writer.proofs.Entering.{told_refused, told_done, contents_refused}
use Rattle.deck_writer.proofs.write_deck.Goals as goal

pub returns-in_err-long : goal.returns-in_err-long
returns-in_err-long c =
    let p = err_from_is_err_and c.from_residual.result c.from_residual.ensures.1 in
    rw (p.1, p.2) (entered_refused (contents_refused c.args.contents.now c.args.bodies.now (told_refused (sym c.in_err-long.ensures))))

pub write_bodies-requires : goal.write_bodies-requires
write_bodies-requires c = told_done (sym c.in_ok-long.ensures)
