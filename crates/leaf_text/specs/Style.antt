-- How a statement looks in either of the two texts: what a leaf is put as, and how joined parts are bracketed. Assumes nothing.
use Rattle.std.specs.Prelude.{ℕ}
use Rattle.card.specs.Card.{Leaf}
use Rattle.meaning.specs.Reduced.{counter_of}
use Rattle.phrases.specs.Phrases.{Text}
use Rattle.texts.specs.Shared.{Brackets, needed, always}
use Rattle.texts.specs.Writing.{group_text}
use Rattle.texts.specs.ReducedText.{counter_text}
use Rattle.leaf_text.specs.declared.style.Form.{Form}
use Rattle.leaf_text.specs.declared.style.Form.TheVariants.{Written, Reduced}
use Rattle.leaf_text.specs.declared.style.Style.{Style}

-- in which text, with which local state, for how many seats
pub record Look : Type 0 where
  pub form : Form
  pub own : ℕ
  pub seats : ℕ

abbrev pub looks : Form → ℕ → ℕ → Look
looks form own seats = record { form = form; own = own; seats = seats }

abbrev pub look : Style → Look
look s = looks s.form s.own s.seats

-- the one for the written card, the other for the reduced program
abbrev pub by_form : {A : Type 0} → A → A → Form → A
by_form a b Written = a
by_form a b Reduced = b

abbrev pub brackets_of : Look → Brackets
brackets_of s = by_form needed always s.form

abbrev pub leaf_text : Look → Leaf → Text
leaf_text s g r = by_form (group_text s.seats g r) (counter_text (counter_of s.seats s.own g) r) s.form
