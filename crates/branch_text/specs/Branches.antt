-- A branch in either of the two texts. Assumes nothing.
use Rattle.std.specs.Prelude.{ℕ}
use Rattle.std.proofs.Math.Option.{Option}
use Rattle.card.specs.Card.{Branch}
use Rattle.meaning.specs.Reduced.{update_of}
use Rattle.phrases.specs.Phrases.{Text, ◌▸◌, num, weight_text}
use Rattle.texts.specs.Shared.{set_last}
use Rattle.texts.specs.ReducedText.{update_text}
use Rattle.leaf_text.specs.Style.{Look, by_form}

-- behind its weight
abbrev pub end_text : Look → ℕ → Option ℕ → Text
end_text s e x r = by_form (":(s1'=" ▸ num e (")" ▸ set_last x r)) (":" ▸ update_text (update_of s.seats s.own e) x r) s.form

abbrev pub branch_text : Look → Branch → Text
branch_text s b r = weight_text b.units (end_text s b.end b.sets r)
