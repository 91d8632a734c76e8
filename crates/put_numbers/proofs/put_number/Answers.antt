-- `put_numbers::put_number` meets its contract: a number below ten is its one digit. Assumes nothing.
use Rattle.room.proofs.Decimal.{decimal_one}
use Rattle.put_numbers.proofs.put_number.Goals as goal

pub returns-then-n-lt10 : goal.returns-then-n-lt10
returns-then-n-lt10 c = rw (decimal_one _ c.if-n-lt10.true) c.put_byte.ensures
