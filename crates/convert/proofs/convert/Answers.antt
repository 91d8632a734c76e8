-- `convert::convert` meets its contract: deck, cards and room, in this order. Assumes nothing.
use mathlib.Core.Path.{refl, sym, ◌∙◌}
use native.Mathlib.Omega.{arith}
use borrow.Author.Rules.{rules}
use Rattle.deck.specs.Sound.{Sound}
use Rattle.room.proofs.Entries.{entered_refused}
use Rattle.std.proofs.lemmas.Result.{err_from_is_err_and}
use Rattle.convert.proofs.Storing.{wrong_deck, sound_deck, named, notes_count, notes_fit, notes_ready}
use Rattle.convert.proofs.convert.Goals.{In_ok-judge_deck}
use Rattle.convert.proofs.convert.Goals as goal

known : (c : In_ok-judge_deck) → Sound c.args.deck.now
known c = sound_deck c.args.deck.now c.in_ok-judge_deck.ensures

pub returns-in_err-judge_deck : goal.returns-in_err-judge_deck
returns-in_err-judge_deck c =
    let p = err_from_is_err_and c.from_residual.result c.from_residual.ensures.1 in
    rw (p.1, p.2) (entered_refused (wrong_deck c.args.deck.now c.in_err-judge_deck.ensures))

pub bounds-deck-0 : goal.bounds-deck-0
bounds-deck-0 c =
    let s = known (goal.at.bounds-deck-0 c).In_ok-judge_deck in
    omega (arith, s.head.whole)

pub notes_into-requires : goal.notes_into-requires
notes_into-requires c = record { sound = known (goal.at.notes_into-requires c).In_ok-judge_deck; count_value = refl; notes_len = search rules }

pub returns-in_err-need : goal.returns-in_err-need
returns-in_err-need c =
    let s = known (goal.at.returns-in_err-need c).In_ok-judge_deck in
    let p = err_from_is_err_and c.from_residual-in_err-need.result c.from_residual-in_err-need.ensures.1 in
    rw (p.1, p.2) (entered_refused (named c.args.deck.now s (sym c.in_err-need.was ∙ c.notes_into.ensures.ends)))

pub slice_bounds-notes-end : goal.slice_bounds-notes-end
slice_bounds-notes-end c =
    let s = known (goal.at.slice_bounds-notes-end c).In_ok-judge_deck in
    notes_fit c.notes_into.new.notes s refl c.notes_into.ensures c.in_ok-need.was

pub slice_bounds-store_new-end : goal.slice_bounds-store_new-end
slice_bounds-store_new-end c =
    let s = known (goal.at.slice_bounds-store_new-end c).In_ok-judge_deck in
    notes_count c.notes_into.new.notes s refl c.notes_into.ensures c.in_ok-need.was

pub store_new-requires : goal.store_new-requires
store_new-requires c =
    let s = known (goal.at.store_new-requires c).In_ok-judge_deck in
    record { count_value = refl; ready = notes_ready c.notes_into.new.notes s refl c.notes_into.ensures c.in_ok-need.was }
