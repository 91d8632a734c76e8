-- What is read of a card, by how reading its shape went: too long, a stop, or a shape whose judgements decide. Assumes nothing.
use Prim.Native.Nat.{ℕ, ◌≤◌, ◌<◌}
use mathlib.Core.Path.{◌≡◌, refl, sym, ap, ◌∙◌, subst}
use mathlib.Core.List.{List, [], ◌∷◌}
use mathlib.Core.Option.{Option, none, some}
use borrow.Author.Tests.{le-leb, lt-leb}
use lib.ListN.{length}
use Rattle.card.specs.Limits.{card_bytes}
use Rattle.card.specs.Refusals.{too_long, outside_rules}
use Rattle.card.specs.Weight.{Rule}
use Rattle.marks_on_a_card.specs.Marks.{place_of}
use Rattle.marks.specs.Step.{marks_at}
use Rattle.marks.proofs.Next.{marks_whole}
use Rattle.reading.specs.Reader.{Place, State, Result, ok, stop}
use Rattle.reading.specs.Judgements.{first_broken}
use Rattle.reading.specs.Shape.{CardShape, ended, the_end, body, card}
use Rattle.reading.specs.Checks.{judged_card, seats_in, card_in}
use Rattle.reading.specs.Reading.{Outcome, refused, first_outside, judged, shaped, marked, read_under}
use Rattle.reading.proofs.Through.{stop≢ok, ok_state, through}
use Rattle.parts.specs.Parts.{from}
use Rattle.search.proofs.Passed.{Held, card_p}
use Rattle.search.proofs.Places.{Reached, reached_first, reached_next, outside_behind}

-- a stop, once what is left was searched for a mark outside the rules
abbrev pub or_outside : ℕ → ℕ → Option ℕ → Outcome
or_outside n q none = refused n q
or_outside n q (some o) = refused outside_rules o

ended_at : (ms : Place) (n : ℕ) (u : Unit {0}) (b : State) → ended ms n ≡ ok u b → b.marks ≡ []
ended_at [] n u b e = ap (λ (x : State). x.marks) (sym (ok_state e))
ended_at (m ∷ ms) n u b e = stop≢ok e

-- a shape that was read goes to the end of the card
shape_ends : (s : State) (c : CardShape) (b : State) → card s ≡ ok c b → b.marks ≡ []
shape_ends s c b = through (body s) _ c b (b.marks ≡ []) λ x s₁ e.
    through (the_end s₁) _ c b (b.marks ≡ []) λ u s₂ e₁ e₂. ap (λ (y : State). y.marks) (sym (ok_state e₂)) ∙ ended_at s₁.marks s₁.nodes u s₂ e₁

module _ (decimals : Rule) (s : List ℕ) where
  pub read_long : card_bytes < length s → read_under decimals s ≡ refused too_long 0
  unfolding read_under
  read_long h = rw (lt-leb (length s) card_bytes h)

  module _ (h : length s ≤ card_bytes) where
    read_short : read_under decimals s ≡ marked decimals (length s) (marks_at 0 s 0) (first_outside (marks_at 0 s 0))
    unfolding read_under
    read_short = rw (le-leb (length s) card_bytes h, ← marks_whole s)

    held : Held (Reached s) (reached_next s) (card (from s 0 0))
    held = card_p (Reached s) (reached_next s) (from s 0 0) (reached_first s)

    by_search : (n : ℕ) (p : Place) (o : Option ℕ) → card (from s 0 0) ≡ stop n p → marked decimals (length s) (marks_at 0 s 0) o ≡ or_outside n (place_of (length s) p) o
    by_search n p none e = ap (shaped decimals (length s)) e
    by_search n p (some q) e = refl

    pub read_stop : (n : ℕ) (p : Place) → card (from s 0 0) ≡ stop n p → read_under decimals s ≡ or_outside n (place_of (length s) p) (first_outside (marks_at 0 s (place_of (length s) p)))
    read_stop n p e =
        let r : Reached s p = (subst (λ (x : Result CardShape). Held (Reached s) (reached_next s) x) e held).0 in
        read_short ∙ ap (marked decimals (length s) (marks_at 0 s 0)) (outside_behind s p r) ∙ by_search n p (first_outside (marks_at 0 s (place_of (length s) p))) e

    pub read_shape : (c : CardShape) (b : State) → card (from s 0 0) ≡ ok c b → read_under decimals s ≡ judged (length s) (card_in c) (first_broken (seats_in c) (judged_card decimals c))
    read_shape c b e =
        let r : Reached s b.marks = subst (λ (x : Result CardShape). Held (Reached s) (reached_next s) x) e held in
        let o : first_outside (marks_at 0 s 0) ≡ none = sym r.2 ∙ ap first_outside (shape_ends (from s 0 0) c b e) in
        read_short ∙ ap (marked decimals (length s) (marks_at 0 s 0)) o ∙ ap (shaped decimals (length s)) e
