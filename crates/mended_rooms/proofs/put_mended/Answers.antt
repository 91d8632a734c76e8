-- `mended_rooms::put_mended` meets its contract: count, rows and bodies, one behind the other, are the text of the entries kept. Assumes nothing.
use native.Mathlib.Omega.{arith}
use Rattle.mended_rooms.proofs.Text.{each, few_cards, offsets_fit, bodies_inside, mended_put}
use Rattle.mended_rooms.proofs.put_mended.Goals as goal

pub overflow_mul-first : goal.overflow_mul-first
overflow_mul-first c =
    omega (arith, few_cards c.requires)

pub overflow_add-first : goal.overflow_add-first
overflow_add-first c =
    omega (arith, few_cards c.requires)

pub overflow_cast-cards : goal.overflow_cast-cards
overflow_cast-cards c =
    omega (arith, few_cards c.requires)

pub put_rows-b-requires : goal.put_rows-b-requires
put_rows-b-requires c =
    record { each = each c.requires; offsets_fit = offsets_fit c.requires }

pub put_bodies-requires : goal.put_bodies-requires
put_bodies-requires c =
    record { each = each c.requires; bodies_inside = bodies_inside c.requires }

pub returns : goal.returns
returns c =
    mended_put c.requires c.put_byte-a.ensures c.put_rows-b.ensures c.put_bodies.ensures
