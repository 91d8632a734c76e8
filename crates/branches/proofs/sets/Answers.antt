-- By whether a number is shared (proofs/SettingLaws.antt). Assumes nothing.
use Rattle.branches.proofs.SettingLaws.{none_shared, shared}
use Rattle.branches.proofs.sets.Goals as goal

pub returns-then-values-eq0 : goal.returns-then-values-eq0
returns-then-values-eq0 c = none_shared _ _ _ c.if-values-eq0.true c.args.state.now

pub returns : goal.returns
returns c = shared _ _ _ c.if-values-eq0.false c.setting.ensures
