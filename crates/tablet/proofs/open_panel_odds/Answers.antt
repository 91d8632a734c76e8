-- `tablet::open_panel_odds` meets its contract: the entry's answer, in numbers, and the rows as it leaves them. Assumes nothing.
use lib.ListN.{length}
use Rattle.evenings.specs.Rounds.{Aim}
use Rattle.odds_said.specs.OddsSaid.{odds_said}
use Rattle.tablet.proofs.Laws.{odds_told}
use Rattle.tablet.proofs.open_panel_odds.Goals as goal

pub returns : goal.returns
returns c =
    let a = c.args in
    odds_told (λ (x : Aim). odds_said a.card.now a.question.now a.seats.now a.m x (length a.first.now) (length a.second.now))
    c.is_largest-is_largest.ensures c.odds.ensures c.from.ensures
