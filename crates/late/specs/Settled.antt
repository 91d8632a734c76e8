-- The first refusal of 5, 6 and 7, once the modules are counted ("Refusal numbers"). Assumes nothing.
use Rattle.std.specs.Prelude.{ℕ, eqb, Ok, Err, Some, None}
use Rattle.std.specs.Prelude.{Option}
use Rattle.std.specs.Prelude.{Result}
use Rattle.card.specs.declared.Refusal.{Refusal as RefusalRow}
use Rattle.card.specs.Refusals.{not_due}
use Rattle.card.specs.Text.{when◌then◌else◌}
use Rattle.marks_on_a_card.specs.Marks.{place_of}
use Rattle.reading.specs.Judgements.{Verdict, fine, wrong}
use Rattle.late.specs.declared.state.Groups.{Groups}
use Rattle.late.specs.Late.{Late}

-- a refusal's number and its place
abbrev pub Refusal : Type 0
Refusal = RefusalRow

abbrev pub refusal : ℕ → ℕ → Refusal
refusal r p = record { number = r; place = p }

-- nothing is wrong, or this is
abbrev pub Due : Type 0
Due = Result (Unit {0}) Refusal

abbrev pub or_next : Due → Due → Due
or_next (Ok u) b = b
or_next (Err e) b = Err e

-- on a card of n seats: the first group, if it wants another number; else the first that wants another number than the first does
abbrev pub second_due : Option ℕ → Due
second_due None = Ok tt
second_due (Some p) = Err (refusal not_due p)

abbrev pub group_due : ℕ → Option Groups → Due
group_due n None = Ok tt
group_due n (Some g) = when eqb g.want n then second_due g.second else Err (refusal not_due g.first)

abbrev pub kept_due : Option Refusal → Due
kept_due None = Ok tt
kept_due (Some e) = Err e

abbrev pub settled : ℕ → Late → Due
settled n x = or_next (group_due n x.groups) (kept_due x.refusal)

-- a verdict, on a card that ends at place e
abbrev pub verdict : ℕ → Verdict → Due
verdict e fine = Ok tt
verdict e (wrong r p) = Err (refusal r (place_of e p))
