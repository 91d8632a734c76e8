-- The refusals 5, 6 and 7 on the way: reading goes on after the first of them, since a 3 or 4 further on goes before it, and whether
-- a group is symmetric is known only once the modules are counted. So the first refusal so far is kept, and how many
-- seats the groups before it want. Assumes nothing.
use Rattle.std.specs.Prelude.{ℕ, suc, Bool, ◌&&◌, List, [], ◌∷◌, eqb, leb, length, Some, None, is_some}
use Rattle.std.proofs.Math.Option.{Option as Maybe, none, some}
use Rattle.card.specs.Limits.{most_seats}
use Rattle.card.specs.Refusals.{not_due}
use Rattle.card.specs.Text.{when◌then◌else◌}
use Rattle.card.specs.Card.{Kind, everyone, others, Sign, Leaf, group, shared_is, is, Formula, Guard}
use Rattle.card.specs.Formulas.{over}
use Rattle.marks_on_a_card.specs.Marks.{place_of}
use Rattle.reading.specs.Group.{Literal, Tested, of_seats, of_shared}
use Rattle.std.specs.Prelude.{Option}
use Rattle.std.specs.Option.{option_or}
use Rattle.late.specs.declared.state.Groups.{Groups}
use Rattle.late.specs.declared.state.Late.{Late as LateRow}
use Rattle.reading.specs.Judgements.{Judgement, state, word, one_group, weight, sum, has, has_from, alike, broken}

-- ---- how many seats a group wants: its seats are 1 to m, or 2 to m, once each; 0 where it is symmetric for no card

abbrev pub up_to_most : ℕ → Bool → ℕ
up_to_most m b = when leb m most_seats && b then m else 0

abbrev pub want_of : List Literal → ℕ
want_of [] = 0
want_of (l ∷ ls) =
    when alike l ls
    then (when has 1 (l ∷ ls)
    then up_to_most (length (l ∷ ls)) (has_from 1 (length (l ∷ ls)) (l ∷ ls))
    else up_to_most (suc (length (l ∷ ls))) (has_from 2 (length (l ∷ ls)) (l ∷ ls)))
    else 0

-- the group that it is then
abbrev pub kind_by : List Literal → Kind
kind_by ls = when has 1 ls then everyone else others

abbrev pub group_by : Sign → List Literal → Leaf
group_by s [] = group everyone s is 0
group_by s (l ∷ ls) = group (kind_by (l ∷ ls)) s l.relation l.d

abbrev pub leaf_by : Tested → Leaf
leaf_by (of_seats x) = group_by x.sign x.literals
leaf_by (of_shared x) = shared_is x.relation x.value.value

abbrev pub guard_by : Formula Tested → Guard
guard_by g = over leaf_by g

-- ---- what is kept: the first refusal so far that hangs on no number of seats, and the groups before it (src/state.rt)

abbrev pub Late : Type 0
Late = LateRow

abbrev pub none_yet : Late
none_yet = record { refusal = None; groups = None }

-- a refusal that does not hang on the number of seats, whatever its number is; the readers keep theirs by `blame`, since
-- no refusal has the number 0 (document 01, "Refusal numbers")
abbrev pub blame_any : ℕ → ℕ → Late → Late
blame_any r p x = record x { refusal = option_or x.refusal (Some (record { number = r; place = p })) }

-- the same, but that the number 0 is none
abbrev pub blame : ℕ → ℕ → Late → Late
blame r p x = when eqb r 0 then x else blame_any r p x

-- the first group says how many seats are wanted; the first that wants another number is wrong if that is right
abbrev pub with_group : ℕ → ℕ → Option Groups → Groups
with_group m p None = record { want = m; first = p; second = None }
with_group m p (Some g) = when eqb g.want m then g else record g { second = option_or g.second (Some p) }

abbrev pub wants : ℕ → ℕ → Late → Late
wants m p x = when is_some x.refusal then x else record x { groups = Some (with_group m p x.groups) }

abbrev pub grouped : ℕ → ℕ → Late → Late
grouped m p x = when eqb m 0 then blame not_due p x else wants m p x

abbrev pub blamed : Maybe ℕ → ℕ → Late → Late
blamed none p x = x
blamed (some r) p x = blame r p x

abbrev pub blamed_any : Maybe ℕ → ℕ → Late → Late
blamed_any none p x = x
blamed_any (some r) p x = blame_any r p x

-- one judgement more, on a card that ends at place e; all but those of groups are the same for every number of seats
abbrev pub judge : ℕ → Judgement → Late → Late
judge e (state most v p) x = blamed (broken 0 (state most v p)) (place_of e p) x
judge e (word due was p) x = blamed (broken 0 (word due was p)) (place_of e p) x
judge e (one_group g) x = grouped (want_of g.literals) (place_of e g.place) x
judge e (weight decimals w p) x = blamed (broken 0 (weight decimals w p)) (place_of e p) x
judge e (sum ws p) x = blamed (broken 0 (sum ws p)) (place_of e p) x

unfoldable pub judge_all : ℕ → List Judgement → Late → Late
judge_all e [] x = x
judge_all e (j ∷ js) x = judge_all e js (judge e j x)
