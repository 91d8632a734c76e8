-- `tidy::tidy` meets its contract: the deck is judged, then its live cards, then it is closed up. Assumes nothing.
use Rattle.tidy.proofs.Entering.{changed_refused, changed_done, verdict_sound, live_malformed, measured_live, live_none, live_some, tidy_refused}
use Rattle.tidy.proofs.Closing.{few, few_cards, inside, text_long}
use Rattle.tidy.specs.Tidies.{Measured}
use Rattle.tidying.proofs.NewDecks.{tidy_says}
use Rattle.std.proofs.lemmas.Result.{err_from_is_err_and}
use mathlib.Core.Path.{refl, sym}
use native.Mathlib.Omega.{arith}
use Rattle.tidy.proofs.tidy.Goals.{After-measure_live-live}
use Rattle.tidy.proofs.tidy.Goals as goal

known : (c : After-measure_live-live) → Measured c.args.deck.now c.measure_live-live.result
known c = measured_live c.args.deck.now (verdict_sound c.args.deck.now (sym c.in_ok-judge_deck.ensures)) c.measure_live-live.ensures

pub returns-in_err-judge_deck : goal.returns-in_err-judge_deck
returns-in_err-judge_deck c =
    let p = err_from_is_err_and c.from_residual.result c.from_residual.ensures.1 in
    rw (p.1, p.2) (changed_refused (tidy_refused c.args.deck.now (live_malformed c.args.deck.now (sym c.in_err-judge_deck.ensures))))

pub measure_live-live-requires : goal.measure_live-live-requires
measure_live-live-requires c = (verdict_sound c.args.deck.now (sym c.in_ok-judge_deck.ensures)).head

pub returns-then-live-eq0 : goal.returns-then-live-eq0
returns-then-live-eq0 c =
    let deck = c.args.deck.now in
    let m = known (goal.at.returns-then-live-eq0 c).After-measure_live-live in
    changed_refused (tidy_refused deck (live_none deck m.sound m.live c.if-live-eq0.true))

pub close_up-requires : goal.close_up-requires
close_up-requires c = known (goal.at.close_up-requires c).After-measure_live-live

pub overflow_mul-result : goal.overflow_mul-result
overflow_mul-result c =
    let m = known (goal.at.overflow_mul-result c).After-measure_live-live in
    omega (arith, few _ m refl, few_cards _ m refl)

pub overflow_add-result : goal.overflow_add-result
overflow_add-result c =
    let m = known (goal.at.overflow_add-result c).After-measure_live-live in
    omega (arith, few _ m refl, few_cards _ m refl)

pub overflow_add-result-2 : goal.overflow_add-result-2
overflow_add-result-2 c =
    let m = known (goal.at.overflow_add-result-2 c).After-measure_live-live in
    omega (arith, few _ m refl, few_cards _ m refl, inside _ m refl, m.sound.head.short)

pub returns : goal.returns
returns c =
    let deck = c.args.deck.now in
    let m = known (goal.at.returns c).After-measure_live-live in
    changed_done (tidy_says deck (live_some deck m.sound m.live c.if-live-eq0.false)) c.close_up.ensures (sym (text_long deck m refl))
