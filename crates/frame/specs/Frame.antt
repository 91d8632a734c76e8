-- What reading the beginning of a card, up to its statements, and its further modules, up to its end, leaves behind it. Assumes nothing.
use Rattle.std.specs.Prelude.{ℕ, suc, ◌+◌, ◌-◌, ◌≤◌, ◌≡◌, Bool, true, false, List, [], ◌∷◌, ◌++◌, Option as Maybe, Some, None, eqb, ltb, length, drop, Ok, OnOk}
use Rattle.std.proofs.Math.Option.{Option, none, some}
use Rattle.card.specs.Limits.{most_seats, top_state, most_shared}
use Rattle.card.specs.Text.{bytes, when◌then◌else◌}
use Rattle.card.specs.Refusals.{out_of_shape}
use Rattle.card.specs.Card.{Mode}
use Rattle.card.specs.Laid.{mode_number}
use Rattle.marks_on_a_card.specs.Bytes.{begins}
use Rattle.marks_on_a_card.specs.Kinds.{k_end}
use Rattle.marks.specs.declared.Found.{Found}
use Rattle.marks_on_a_card.specs.Quick.{word_ahead}
use Rattle.reading.specs.Reader.{Result, Reader, ◌>>=◌, ◌>>◌, return, the, if_next, Numbered, line}
use Rattle.reading.specs.Judgements.{Judgement}
use Rattle.reading.specs.Shape.{Range, mode_of, range, declaration, more_modules, the_end}
use Rattle.reading.specs.Checks.{judged_state, judged_words, judged_modules, judged_shared}
use Rattle.late.specs.Late.{Late}
use Rattle.late.specs.Values.{values_in, initial_in}
use Rattle.late.specs.declared.state.State.{State as Carried}
use Rattle.late.specs.State.{After, Halted}
use Rattle.mode_and_range.specs.ModeRange.{Valued}
use Rattle.parts.specs.Parts.{from, Answers, Kept, Went, Due, sign as due, seat, process, items_in, marks_due, RunFrom}

-- ---- the shared number, where one is declared behind the mode (document 02, 2026-10)

-- what is due before its range
abbrev pub shared_due : List Due
shared_due = due "global" ∷ due "g" ∷ due ":" ∷ due "[" ∷ []

abbrev pub sharing : Reader (Option Range)
sharing = if_next "global" (declaration >>= λ x. return (some x)) (return none)

pub record SharedIn (s : List ℕ) (before : Late) (g : Option Range) (state : Carried) : Type 0 where
  pub values : state.shared ≡ values_in g
  pub initial : state.initial ≡ initial_in g
  pub late : Kept s before (judged_shared g) state

abbrev pub SharedRead : List ℕ → Late → Result (Option Range) → After → Type 0
SharedRead s before = Answers s (SharedIn s before)

pub record SharedFrom (s : List ℕ) (i : ℕ) (before : Late) (r : After) : Type 0 where
  pub answers : (n : ℕ) → SharedRead s before (sharing (from s i n)) r
  pub within : OnOk r.next (r.state.shared ≤ most_shared)

-- ---- the beginning

-- what is due behind the mode and the shared number
abbrev pub card_due : List Due
card_due = due "module" ∷ process 1 ∷ seat 1 ∷ due ":" ∷ due "[" ∷ []

pub record HeaderShape : Type 0 where
  pub mode : Mode
  pub shared : Option Range
  pub words : List Numbered
  pub states : Range

abbrev pub header : Reader HeaderShape
header = do
  mode ← the mode_of
  g ← sharing
  ws ← line (items_in card_due)
  x ← range top_state
  return (record { mode = mode; shared = g; words = ws; states = x })

abbrev pub judged_header : HeaderShape → List Judgement
judged_header h =
    judged_shared h.shared
    ++ (judged_words (1 ∷ 1 ∷ []) h.words
    ++ (judged_state h.states.top h.states.start ∷ []))

pub record HeaderIn (s : List ℕ) (before : Late) (h : HeaderShape) (state : Carried) : Type 0 where
  pub mode : state.mode ≡ mode_number h.mode
  pub values : state.shared ≡ values_in h.shared
  pub initial : state.initial ≡ initial_in h.shared
  pub top : state.top ≡ h.states.top
  pub start : state.start ≡ h.states.start.value
  pub late : Kept s before (judged_header h) state

abbrev pub HeaderRead : List ℕ → Late → Result HeaderShape → After → Type 0
HeaderRead s before = Answers s (HeaderIn s before)

pub record HeaderFrom (s : List ℕ) (i : ℕ) (before : Late) (r : After) : Type 0 where
  pub answers : (n : ℕ) → HeaderRead s before (header (from s i n)) r
  pub within : OnOk r.next (r.state.shared ≤ most_shared)

-- ---- a further module for seat i, behind its keyword

abbrev pub module_due : ℕ → List Due
module_due i =
    process i ∷ due "=" ∷ process 1
    ∷ due "[" ∷ seat 1 ∷ due "=" ∷ seat i ∷ due "," ∷ seat i ∷ due "=" ∷ seat 1 ∷ due "]"
    ∷ due "endmodule" ∷ []

-- the same as text, as a written card has it or tight, with these digits for the seat
abbrev pub gap : Bool → List ℕ
gap true = bytes " "
gap false = []

abbrev pub copy_text : Bool → List ℕ → List ℕ
copy_text written ds =
    let blank = gap written in
    bytes " process" ++ (ds ++ (blank ++ (bytes "=" ++ (blank ++ (bytes "process1" ++ (blank ++ (bytes "[s1=s" ++ (ds
    ++ (bytes "," ++ (blank ++ (bytes "s" ++ (ds ++ (bytes "=s1]" ++ (blank ++ bytes "endmodule"))))))))))))))

-- the digits of a number below 20
abbrev pub digits : ℕ → List ℕ
digits i = when ltb i 10 then (48 + i) ∷ [] else 49 ∷ (38 + i) ∷ []

-- the place behind a text behind which no word goes on, where it stands
abbrev pub past_word : List ℕ → List ℕ → ℕ → Maybe ℕ
past_word t s at = when word_ahead t s at then Some (at + length t) else None

-- the same for a further module: the byte behind its first word tells how it is written
abbrev pub past_text : List ℕ → ℕ → List ℕ → Maybe ℕ
past_text s at ds = past_word (copy_text (begins (eqb 32) (drop (at + (8 + length ds)) s)) ds) s at

abbrev pub past_copy : List ℕ → ℕ → ℕ → Maybe ℕ
past_copy s at i = past_text s at (digits i)

abbrev pub ModuleFrom : List ℕ → ℕ → ℕ → Late → After → Type 0
ModuleFrom s at i late r = RunFrom s at (marks_due (module_due i)) late r

-- ---- the further modules: the number is that of the seats

-- by the mark behind the last module
pub record EndedBy (m : Found) (at seats : ℕ) (late : Late) (r : After) : Type 0 where
  pub ends : m.kind ≡ k_end → (r.next ≡ Ok at) × Valued late seats r.state
  pub stops : (m.kind ≡ k_end → ⊥) → Halted out_of_shape m.place r

abbrev pub modules : Reader (List (List Numbered))
modules = do
  ms ← more_modules (most_seats - 1)
  the_end
  return ms

abbrev pub ModulesRead : List ℕ → Late → Result (List (List Numbered)) → After → Type 0
ModulesRead s before = Answers s (λ ms. Went s before (suc (length ms)) (judged_modules 2 ms))

pub record ModulesFrom (s : List ℕ) (i : ℕ) (before : Late) (r : After) : Type 0 where
  pub answers : (n : ℕ) → ModulesRead s before (modules (from s i n)) r
