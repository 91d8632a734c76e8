-- `guard_text::put_guard` meets its contract: what stands at a node gives its text from its parts' texts, and node numbers fall. Assumes
-- nothing.
use Rattle.guard_text.proofs.+put_guard.Given as goal

abbrev pub decreases-put_guard : goal.decreases-put_guard
decreases-put_guard l = l.n
