-- Which seats stand among a group's literals, as the code keeps it while it reads them ("Shape of a card"). Assumes nothing.
use Rattle.std.specs.Prelude.{ℕ, zero, suc, Bool, true, not, ◌&&◌, List, eqb, leb, get_or, set}
use Rattle.card.specs.Limits.{most_seats}
use Rattle.card.specs.Text.{when◌then◌else◌}
use Rattle.card.specs.Card.{everyone, others}
use Rattle.card.specs.Laid.{kind_number}
use Rattle.late.specs.Late.{up_to_most}

-- place i of the array says whether seat i does

abbrev pub noted : List ℕ → ℕ → List ℕ
noted seen i = when leb i most_seats then set seen i 1 else seen

-- each of the c seats from i on
abbrev pub seen_from : List ℕ → ℕ → ℕ → Bool
seen_from seen i zero = true
seen_from seen i (suc c) = not (eqb (get_or seen i 0) 0) && seen_from seen (suc i) c

-- one literal more, counted no further than it matters
abbrev pub one_more : ℕ → ℕ
one_more count = when leb count most_seats then suc count else count

-- how many seats they want
unfoldable pub want_in : List ℕ → ℕ → Bool → ℕ
want_in seen count alike =
    when alike
    then (when eqb (get_or seen 1 0) 0
    then up_to_most (suc count) (seen_from seen 2 count)
    else up_to_most count (seen_from seen 1 count))
    else 0

abbrev pub kind_in : List ℕ → ℕ
kind_in seen = when eqb (get_or seen 1 0) 0 then kind_number others else kind_number everyone
