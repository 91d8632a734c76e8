-- `able_seats::able` meets its contract: as many seats as are in the local state, where the guard holds for them. Assumes nothing.
use mathlib.Core.Path.{sym, ◌∙◌}
use Rattle.able_seats.proofs.Takers.{takers_none, takers_free, takers_held, takers_kept}
use Rattle.able_seats.proofs.able.Goals as goal

pub returns-then-no_own-eq0 : goal.returns-then-no_own-eq0
returns-then-no_own-eq0 c =
    takers_none _ _ _ c.args.nodes.now c.args.at c.args.size (sym c.count_at-no_own.ensures ∙ c.if-no_own-eq0.true)

pub returns-then-size-eq0 : goal.returns-then-size-eq0
returns-then-size-eq0 c = c.count_at-no_own.ensures ∙ takers_free _ _ _ _ _ _ c.if-size-eq0.true

pub returns-then-not-held : goal.returns-then-not-held
returns-then-not-held c = takers_kept _ _ _ _ _ _ _ c.if-size-eq0.false c.place_behind-root.ensures (sym c.if-not-held.true ∙ c.held.ensures)

pub returns : goal.returns
returns c =
    c.count_at-no_own.ensures ∙ takers_held _ _ _ _ _ _ _ c.if-size-eq0.false c.place_behind-root.ensures (sym c.if-not-held.false ∙ c.held.ensures)
