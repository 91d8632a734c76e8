-- `boxes::judge_deck` meets its contract: the count's tests, then entry by entry, where what is left to judge decides (`Going`). Assumes nothing.
use Rattle.std.proofs.Common.{◌≤◌, length, arith, refl}
use native.Mathlib.Numerals.{unary_clauses}
use Rattle.boxes.proofs.Laws.{no_cards, many_cards, cut_short, head_fine, stops, least_next, last_next, goes_on}
use Rattle.std.proofs.lemmas.Result.{err_from_is_err_and}
use Rattle.boxes.proofs.judge_deck.Goals as goal
use Rattle.boxes.proofs.judge_deck.Goals.{then-count-eq0-via-then-count-eq0, then-count-eq0-via-else-count-eq0+then-count-gt-MOST_CARDS, then-count-eq0-via-else-count-eq0+else-count-gt-MOST_CARDS+then-deck-count}

pub returns-then-count-eq0 : goal.returns-then-count-eq0
returns-then-count-eq0 c =
    let deck = c.args.deck.now in
    let short : length deck ≤ 65535 = omega arith in
    rw c.malformed-then-count-eq0.ensures
    (elim c.then-count-eq0.branch [
      | then-count-eq0-via-then-count-eq0 w ↦ no_cards deck short w.if-count-eq0.true
      | then-count-eq0-via-else-count-eq0+then-count-gt-MOST_CARDS w ↦ many_cards deck short w.if-count-eq0.false w.if-count-gt-MOST_CARDS.true
      | then-count-eq0-via-else-count-eq0+else-count-gt-MOST_CARDS+then-deck-count w ↦ cut_short deck short w.if-count-eq0.false (omega arith) (omega arith)
    ])

pub loop-i-init : goal.loop-i-init
loop-i-init c = record {
  least_is = refl;
  last_is = refl;
  same = simp unary_clauses (head_fine c.args.deck.now (omega arith) c.if-count-eq0.false (omega arith) (omega arith));
  room = omega arith;
}

pub returns-in_err-judge : goal.returns-in_err-judge
returns-in_err-judge c =
    let p = err_from_is_err_and c.from_residual.result c.from_residual.ensures.1 in
    rw (p.1, p.2) (stops _ _ _ c.loop-i-test.true c.loop-i.invariant c.at-entry.ensures c.in_err-judge.ensures)

pub loop-i-preserved : goal.loop-i-preserved
loop-i-preserved c =
    let inv = c.loop-i.invariant in
    record {
      least_is = least_next _ _ _ c.loop-i-test.true inv c.at-entry.ensures;
      last_is = let e = last_next _ _ _ c.loop-i-test.true inv c.at-entry.ensures in omega (arith, e);
      same = goes_on _ _ _ c.loop-i-test.true inv c.at-entry.ensures c.in_ok-judge.ensures;
      room = inv.room;
    }
