-- `deck_entries::Entry::judge` meets its contract: test by test, in the order of the fields. Assumes nothing.
use Rattle.std.proofs.Common.{◌+◌, ◌≤◌, arith, rules}
use borrow.Author.Tests.{le-leb, lt-leb, eq-eqb, ne_eqb}
use Rattle.deck_entries.proofs.Entry.judge.Goals as goal

pub returns-then-self-gt1 : goal.returns-then-self-gt1
returns-then-self-gt1 c =
    let room : c.args.self.offset + c.args.self.size ≤ c.args.long = omega arith in
    search (rules, le-leb, lt-leb, room)

pub returns-then-self-ne0 : goal.returns-then-self-ne0
returns-then-self-ne0 c =
    let room : c.args.self.offset + c.args.self.size ≤ c.args.long = omega arith in
    search (rules, le-leb, ne_eqb, room)

pub returns : goal.returns
returns c =
    let room : c.args.self.offset + c.args.self.size ≤ c.args.long = omega arith in
    search (rules, le-leb, eq-eqb, room)
