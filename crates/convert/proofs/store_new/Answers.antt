-- `convert::store_new` meets its contract: count, rows and bodies, one behind the other, are the new deck. Assumes nothing.
use Rattle.convert.proofs.Storing.{small_room, each, sizes_fit_at, bodies_fit, new_put}
use Rattle.convert.proofs.store_new.Goals as goal

pub returns-then-room-need : goal.returns-then-room-need
returns-then-room-need c =
    small_room c.requires.ready c.if-room-need.true

pub put_new_rows-b-requires : goal.put_new_rows-b-requires
put_new_rows-b-requires c =
    record { each = each c.requires.ready; sizes_fit = sizes_fit_at c.requires.ready c.requires.count_value }

pub put_bodies-requires : goal.put_bodies-requires
put_bodies-requires c =
    record { each = each c.requires.ready; bodies_fit = bodies_fit c.requires.ready c.requires.count_value c.put_byte-a.ensures c.put_new_rows-b.ensures c.if-room-need.false }

pub returns : goal.returns
returns c =
    new_put c.requires.ready c.requires.count_value c.put_byte-a.ensures c.put_new_rows-b.ensures c.if-room-need.false c.put_bodies.ensures
