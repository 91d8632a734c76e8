-- The want stands or falls with the kind (proofs/Asked.antt). Assumes nothing.
use Rattle.items.proofs.Asked.{all_wanted, none_wanted}
use Rattle.items.proofs.of_all.Goals as goal

pub returns-then-g-eq-EVERYONE : goal.returns-then-g-eq-EVERYONE
returns-then-g-eq-EVERYONE c =
    all_wanted c.args.g c.if-g-eq-EVERYONE.true

pub returns : goal.returns
returns c =
    none_wanted c.args.g c.if-g-eq-EVERYONE.false
