-- An answer and a verdict in the two numbers that C is told ("Refusal numbers"). Assumes nothing.
use Rattle.card.specs.declared.Refusal.{Refusal}
use Rattle.card.specs.Verdict.{Verdict, verdict_number, verdict_place}
use Rattle.room.specs.Answer.{Answer, answer_number, answer_value}
use Rattle.answers.specs.declared.OpenPanelAnswer.{OpenPanelAnswer}

-- the two numbers of a refusal
abbrev pub refusal_numbers : Refusal → OpenPanelAnswer
refusal_numbers e = record { number = e.number; value = e.place }

-- of an answer
abbrev pub numbers : Answer → OpenPanelAnswer
numbers a = record { number = answer_number a; value = answer_value a }

-- and of a verdict; 0 and 0 for a card that is taken
abbrev pub verdict_numbers : Verdict → OpenPanelAnswer
verdict_numbers v = record { number = verdict_number v; value = verdict_place v }
