-- `class_counts::count_classes` meets its contract: a seat is counted as the class of its state. Assumes nothing.
use mathlib.Core.Path.{◌∙◌}
use borrow.Author.Rules.{rules}
use lib.ListN.{take}
use Rattle.classes.specs.Classes.{class_of}
use Rattle.classes.proofs.Counts.{classes_counted}
use Rattle.class_counts.proofs.count_classes.Goals as goal

pub returns : goal.returns
returns c =
    c.count_by.ensures (class_of c.args.classes.now) (λ a r p. search rules) ∙ classes_counted c.args.classes.now (take c.args.n c.args.seats.now)
