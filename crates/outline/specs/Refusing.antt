-- How reading ends, in what it hands back: what is judged late decides. Assumes nothing.
use Rattle.std.specs.Prelude.{◌≡◌, Ok, Err}
use Rattle.card.specs.Lent.{Lent, none_lent}
use Rattle.card.specs.declared.Head.{Head}
use Rattle.late.specs.Settled.{Refusal, Due}
use Rattle.outline.specs.ReadingOf.{Outline}

-- of a card with this head that lies in the arrays `was`
pub record Judged (head : Head) (due : Due) (was is : Lent) (r : Outline) : Type 0 where
  pub refuses : (e : Refusal) → Err e ≡ due → (r ≡ Err e) × (is ≡ none_lent)
  pub takes : Ok tt ≡ due → (r ≡ Ok head) × (is ≡ was)
