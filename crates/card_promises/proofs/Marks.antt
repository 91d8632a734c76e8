-- Marks, by citing. Assumes nothing.
use Rattle.spelling.proofs.Theorems.{exact, once, stands_at, rises}
use Rattle.card_promises.specs.Marks.{Markings}

pub markings : Markings
markings = record { exact = exact; once = once; stands = stands_at; rises = rises }
