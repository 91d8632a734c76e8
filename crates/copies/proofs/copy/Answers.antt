-- Where its text stands, it is passed at once (proofs/Written.antt); else it goes mark by mark. Assumes nothing.
use Rattle.written_copy.proofs.Written.{copy_passed}
use Rattle.copies.proofs.copy.Goals as goal

pub returns-in-Some : goal.returns-in-Some
returns-in-Some c =
    let a = c.args in
    copy_passed a.card.now a.at a.seat c.requires c.in-Some.next c.in-Some.ensures a.state.now
