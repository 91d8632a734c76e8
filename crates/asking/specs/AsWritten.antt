-- What a question says as it is written ("2026-01"): literal by literal, each of the seat that it names. Assumes nothing.
use Rattle.std.specs.Prelude.{◌-◌, Bool, true, false, ◌&&◌, ◌||◌, List, [], ◌∷◌, eqb}
use Rattle.card.specs.Card.{Sign, all, any}
use Rattle.reading.specs.Group.{Literal}
use Rattle.meaning.specs.Seats.{Seating, state, literal}
use Rattle.asking.specs.Question.{Item, a_group, exactly_one, a_test}

-- si=d or si!=d: seats count from 1 in a text, and from 0 in a seating
abbrev pub literal_holds : Seating → Literal → Bool
literal_holds x l = literal l.relation (eqb (state x.each (l.seat - 1)) l.d)

-- all of some, or any of them
abbrev pub together : {A : Type 0} → Sign → (A → Bool) → List A → Bool
together all f [] = true
together any f [] = false
together all f (a ∷ l) = f a && together all f l
together any f (a ∷ l) = f a || together any f l

-- a group's literals, joined by its sign; an exactly-one's terms, joined by `|`, each of literals joined by `&`; the shared number itself
abbrev pub item_holds : Seating → Item → Bool
item_holds x (a_group g) = together g.sign (literal_holds x) g.literals
item_holds x (exactly_one p ts) = together any (together all (literal_holds x)) ts
item_holds x (a_test t) = literal t.relation (eqb x.shared t.value.value)
