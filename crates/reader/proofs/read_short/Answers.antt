-- A way out for each part of a card, in the order of the parts (proofs/CardLaws.antt). Assumes nothing.
use mathlib.Core.Path.{◌≡◌, refl, ap, subst}
use Rattle.std.specs.Prelude.{Ok, Err}
use Rattle.late.specs.Late.{Late, none_yet}
use Rattle.late.specs.State.{late_in, after}
use Rattle.frame.specs.Frame.{HeaderFrom}
use Rattle.reader.proofs.CardLaws.{header_stops, statements_stop, modules_stop, judged_read, reads_searched}
use Rattle.reader.proofs.read_short.Goals as goal

pub returns-in-Err : goal.returns-in-Err
returns-in-Err c =
    let late : late_in c.first_state-state.result ≡ none_yet = ap late_in c.first_state-state.ensures in
    let header = subst (λ (l : Late). HeaderFrom c.args.card.now 0 l (after c.header.new.state (Err c.in-Err.stop))) late c.in-Err.ensures in
    reads_searched (header_stops c.args.decimals c.args.card.now c.requires.card_len_bound c.header.new.state c.in-Err.stop header) c.searched.ensures refl c.requires.branches_value

pub statements-requires : goal.statements-requires
statements-requires c = record { values_le_most_shared = c.in-Ok.ensures.within }

pub returns-in-Err-all_statements : goal.returns-in-Err-all_statements
returns-in-Err-all_statements c =
    let late : late_in c.first_state-state.result ≡ none_yet = ap late_in c.first_state-state.ensures in
    let header = subst (λ (l : Late). HeaderFrom c.args.card.now 0 l (after c.header.new.state (Ok c.in-Ok.next))) late c.in-Ok.ensures in
    reads_searched
    (statements_stop c.args.decimals c.args.card.now c.requires.card_len_bound c.header.new.state header _ _ c.statements.new.state c.in-Err-all_statements.stop c.in-Err-all_statements.ensures)
    c.stopped.ensures.refusal refl c.stopped.ensures.memory

pub returns-in-Err-further_modules : goal.returns-in-Err-further_modules
returns-in-Err-further_modules c =
    let late : late_in c.first_state-state.result ≡ none_yet = ap late_in c.first_state-state.ensures in
    let header = subst (λ (l : Late). HeaderFrom c.args.card.now 0 l (after c.header.new.state (Ok c.in-Ok.next))) late c.in-Ok.ensures in
    reads_searched
    (modules_stop c.args.decimals c.args.card.now c.requires.card_len_bound c.header.new.state header _ _ c.statements.new.state c.in-Ok-all_statements.ensures c.modules.new.state c.in-Err-further_modules.stop c.in-Err-further_modules.ensures)
    c.stopped-in-Err-further_modules.ensures.refusal refl c.stopped-in-Err-further_modules.ensures.memory

pub returns : goal.returns
returns c =
    let late : late_in c.first_state-state.result ≡ none_yet = ap late_in c.first_state-state.ensures in
    let header = subst (λ (l : Late). HeaderFrom c.args.card.now 0 l (after c.header.new.state (Ok c.in-Ok.next))) late c.in-Ok.ensures in
    judged_read c.args.decimals c.args.card.now c.requires.card_len_bound c.header.new.state header _ _ c.statements.new.state c.in-Ok-all_statements.ensures c.modules.new.state c.in_default.ensures
    c.requires.branches_value c.judged.ensures
