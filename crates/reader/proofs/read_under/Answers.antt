-- Too long, or short enough to be read (card_reader). Assumes nothing.
use Rattle.reader.proofs.Outcomes.{read_long}
use Rattle.reader.proofs.CardLaws.{reads_refused}
use native.Mathlib.Omega.{arith}
use mathlib.Core.Path.{refl}
use Rattle.reader.proofs.read_under.Goals as goal

pub returns-then-card-gt-CARD_BYTES : goal.returns-then-card-gt-CARD_BYTES
returns-then-card-gt-CARD_BYTES c =
    reads_refused (read_long _ _ c.if-card-gt-CARD_BYTES.true) refl c.requires

pub read_short-requires : goal.read_short-requires
read_short-requires c = record { card_len_bound = omega (arith, c.if-card-gt-CARD_BYTES.false); branches_value = c.requires }

pub returns : goal.returns
returns c = c.read_short.ensures
