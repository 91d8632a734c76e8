-- `outline::clear` meets its contract: each array is zeros. Assumes nothing.
use mathlib.Core.Path.{◌≡◌, sym, ap, ◌∙◌}
use borrow.Author.Rules.{rules}
use lib.ListN.{length}
use Rattle.card.specs.Limits.{row_places, node_places, branch_places}
use Rattle.card.specs.Laid.{zeros}
use Rattle.card.specs.Lent.{lent}
use Rattle.card.proofs.Filling.{zeros_repeat}
use Rattle.outline.proofs.clear.Goals as goal

pub returns : goal.returns
returns c =
    let a : length c.args.rows.now ≡ row_places = search rules in
    let b : length c.args.nodes.now ≡ node_places = search rules in
    let d : length c.args.branches.now ≡ branch_places = search rules in
    let rows = c.fill.ensures.after (λ y e. e) ∙ sym (zeros_repeat (length c.args.rows.now)) ∙ ap zeros a in
    let nodes = c.fill-2.ensures.after (λ y e. e) ∙ sym (zeros_repeat (length c.args.nodes.now)) ∙ ap zeros b in
    let branches = c.fill-3.ensures.after (λ y e. e) ∙ sym (zeros_repeat (length c.args.branches.now)) ∙ ap zeros d in
    λ q. lent (rows q) (nodes q) (branches q)
