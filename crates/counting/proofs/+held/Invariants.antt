-- `counting::held` meets its contract: a node holds as its parts do. The measure is the node's number. Assumes nothing.
use Rattle.counting.proofs.+held.Given as goal

abbrev pub decreases-held : goal.decreases-held
decreases-held l = l.root
