-- A mark in numbers, as the parts of a step hand it back. Assumes nothing.
use Rattle.std.specs.Prelude.{ℕ}
use Rattle.marks.specs.declared.Step.{Step}

-- a mark without numbers, and one with a number, at a place, and the cursor behind it
abbrev pub valued_of : ℕ → ℕ → ℕ → ℕ → Step
valued_of kind value place next = record { mark = record { kind = kind; value = value; digits = 0; further = 0; place = place }; next = record { at = next } }

abbrev pub bare_of : ℕ → ℕ → ℕ → Step
bare_of kind place next = valued_of kind 0 place next
