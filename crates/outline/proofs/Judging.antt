-- What is settled is the refusal that is due, or none. Assumes nothing.
use mathlib.Core.Path.{◌≡◌, refl, sym, ap, ◌∙◌}
use Rattle.std.specs.Prelude.{Ok, Err}
use Rattle.card.specs.Lent.{Lent, none_lent}
use Rattle.card.specs.declared.Head.{Head}
use Rattle.card.proofs.Verdicts.{refusal_is, ok≢refused}
use Rattle.late.specs.Settled.{Refusal, Due}
use Rattle.outline.specs.Refusing.{Judged}

module _ {due : Due} {head : Head} where
  pub due_refuses : {was is : Lent} {e : Refusal} → Err e ≡ due → is ≡ none_lent → Judged head due was is (Err e)
  due_refuses h g = record { refuses = λ x q. (ap (λ (r : Refusal). Err r) (refusal_is (h ∙ sym q)), g); takes = λ q. ok≢refused (q ∙ sym h) }

  pub none_due : {was : Lent} → Ok tt ≡ due → Judged head due was was (Ok head)
  none_due h = record { refuses = λ x q. ok≢refused (h ∙ sym q); takes = λ q. (refl, refl) }
