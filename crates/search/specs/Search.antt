-- A stop, once what is left of the card was searched for a mark outside the rules: such a mark goes before it ("Refusal numbers").
-- Assumes nothing.
use Rattle.std.specs.Prelude.{ℕ}
use Rattle.std.proofs.Math.Option.{Option, none, some}
use Rattle.card.specs.Refusals.{outside_rules}
use Rattle.card.specs.Verdict.{refusal_at}
use Rattle.card.specs.declared.Refusal.{Refusal}
use Rattle.search.specs.declared.Due.{Due}

-- of a stop with any number
abbrev pub sought : ℕ → ℕ → Option ℕ → Due
sought r p none = record { number = r; place = p }
sought r p (some o) = record { number = outside_rules; place = o }

-- of a refusal
abbrev pub searched : ℕ → ℕ → Option ℕ → Refusal
searched r p none = refusal_at r p
searched r p (some o) = refusal_at outside_rules o
