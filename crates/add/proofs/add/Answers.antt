-- `add::add` meets its contract: the deck, its live cards, the card and its place, in this order. Assumes nothing.
use Rattle.add.proofs.Adding.{placed_for, add_refused, card_refused, card_taken}
use Rattle.tidy.proofs.Entering.{changed_refused, verdict_sound, live_malformed, measured_live, live_none, live_some}
use Rattle.tidy.specs.Tidies.{Measured}
use Rattle.tidying.specs.Tidied.{Tidiable}
use Rattle.outline.proofs.ReadInto.{arrays_none, refused_said, taken_said}
use Rattle.std.proofs.lemmas.Result.{err_from_is_err_and}
use mathlib.Core.Path.{sym}
use Rattle.add.proofs.add.Goals.{After-measure_live-live, Else-live-eq0}
use Rattle.add.proofs.add.Goals as goal

known : (c : After-measure_live-live) → Measured c.args.deck.now c.measure_live-live.result
known c = measured_live c.args.deck.now (verdict_sound c.args.deck.now (sym c.in_ok-judge_deck.ensures)) c.measure_live-live.ensures

some-live : (c : Else-live-eq0) → Tidiable c.args.deck.now
some-live c = live_some c.args.deck.now (verdict_sound c.args.deck.now (sym c.in_ok-judge_deck.ensures)) c.measure_live-live.ensures c.if-live-eq0.false

pub returns-in_err-judge_deck : goal.returns-in_err-judge_deck
returns-in_err-judge_deck c =
    let p = err_from_is_err_and c.from_residual.result c.from_residual.ensures.1 in
    rw (p.1, p.2) (changed_refused (add_refused c.args.deck.now c.args.number c.args.card.now (live_malformed c.args.deck.now (sym c.in_err-judge_deck.ensures))))

pub measure_live-live-requires : goal.measure_live-live-requires
measure_live-live-requires c = (verdict_sound c.args.deck.now (sym c.in_ok-judge_deck.ensures)).head

pub returns-then-live-eq0 : goal.returns-then-live-eq0
returns-then-live-eq0 c =
    let deck = c.args.deck.now in
    let m = known (goal.at.returns-then-live-eq0 c).After-measure_live-live in
    changed_refused (add_refused deck c.args.number c.args.card.now (live_none deck m.sound m.live c.if-live-eq0.true))

pub read_into-requires : goal.read_into-requires
read_into-requires c = arrays_none

pub returns-in_err-read_into : goal.returns-in_err-read_into
returns-in_err-read_into c =
    let deck = c.args.deck.now in
    let t = some-live (goal.at.returns-in_err-read_into c).Else-live-eq0 in
    let p = err_from_is_err_and c.from_residual-in_err-read_into.result c.from_residual-in_err-read_into.ensures.1 in
    rw (p.1, p.2) (changed_refused (card_refused deck c.args.number c.args.card.now t (refused_said _ c.read_into.ensures (placed_for deck c.args.number c.args.card.now) c.in_err-read_into.was)))

pub place_card-requires : goal.place_card-requires
place_card-requires c = known (goal.at.place_card-requires c).After-measure_live-live

pub returns : goal.returns
returns c =
    let deck = c.args.deck.now in
    let t = some-live (goal.at.returns c).Else-live-eq0 in
    card_taken deck c.args.number c.args.card.now t (taken_said _ c.read_into.ensures (placed_for deck c.args.number c.args.card.now) c.in_ok-read_into.was) c.place_card.ensures
