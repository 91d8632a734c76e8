-- `put_numbers::digits` meets its contract: a number between two powers of ten has so many digits. Assumes nothing.
use mathlib.Core.Path.{sym}
use borrow.Author.Rules.{rules}
use native.Mathlib.Omega.{arith}
use Rattle.room.proofs.Decimal.{length_one, decimal_size}
use Rattle.put_numbers.proofs.digits.Goals as goal

pub returns-then-n-lt10 : goal.returns-then-n-lt10
returns-then-n-lt10 c = sym (length_one _ c.if-n-lt10.true)

pub returns-then-n-lt100 : goal.returns-then-n-lt100
returns-then-n-lt100 c = sym (decimal_size 1 c.args.n (search rules) (search rules))

pub returns-then-n-lt1000 : goal.returns-then-n-lt1000
returns-then-n-lt1000 c = sym (decimal_size 2 c.args.n (search rules) (search rules))

pub returns-then-n-lt10000 : goal.returns-then-n-lt10000
returns-then-n-lt10000 c = sym (decimal_size 3 c.args.n (search rules) (search rules))

pub returns-then-n-lt100000 : goal.returns-then-n-lt100000
returns-then-n-lt100000 c = sym (decimal_size 4 c.args.n (search rules) (search rules))

pub returns-then-n-lt1000000 : goal.returns-then-n-lt1000000
returns-then-n-lt1000000 c = sym (decimal_size 5 c.args.n (search rules) (search rules))

pub returns-else-n-lt1000000 : goal.returns-else-n-lt1000000
returns-else-n-lt1000000 c =
    let p = c.ilog10.ensures in
    omega (arith, decimal_size c.ilog10.result c.args.n p.power_le (omega (arith, p.next_power_gt)))
