-- The panel's blocks in the form in which the code puts them: a statement's moves all start from its own state, and stand in a row of what
-- its branches weigh; those of a probabilistic card stand in a row for each old state. Assumes nothing.
use Prim.Native.Nat.{ℕ, zero, suc, ◌+◌, ◌/◌, ◌%◌, ◌≤◌, ◌<◌}
use mathlib.Core.Path.{◌≡◌, refl, ap, ◌∙◌}
use mathlib.Core.List.{List, [], ◌∷◌}
use mathlib.Core.Option.{some}
use native.Mathlib.Omega.{arith}
use borrow.Author.Tests.{eq-eqb, ne_eqb, lt-ltb}
use lib.ListN.{length, get_or, take, replicate}
use Rattle.card.specs.Limits.{top_state, most_shared}
use Rattle.card.specs.Card.{nondeterministic, probabilistic, Statement}
use Rattle.card.specs.Laid.{either}
use Rattle.card.specs.declared.Head.{Head}
use Rattle.phrases.specs.Phrases.{◌▸◌, num, mode_text}
use Rattle.phrases.specs.Puts.{Puts}
use Rattle.room.specs.Room.{Put}
use Rattle.meaning.specs.Sums.{or_one, upto, flat}
use Rattle.meaning.specs.Panel.{Move, stay_line, moves_from, block}
use Rattle.meaning.specs.ByCounts.{units_into, stay_of, move_of}
use Rattle.meaning.proofs.Sums.{length_upto, get_d_upto}
use Rattle.panel_numbers.specs.Table.{enabled_place, shared_in, stay_in, place_of, weight_in, by_place, weight_places, branches_in, weighing, raised, added, move_by, row_from}
use Rattle.panel_numbers.specs.Fitting.{Most, heaviest}
use Rattle.panel_numbers.proofs.Raised.{raised_long, raised_at}
use Rattle.panel_wording.specs.PanelText.{line, shared_text, moves_text, stays_text, block_text, blocks_text, panel_text}
use Rattle.panel_wording.specs.PanelIn.{shown_if, tells, choice_if, choices_in, panel_in}
use Rattle.panel_wording.proofs.Laws.{told_if, one_most}
use Rattle.panel_wording.proofs.Moves.{moves_cong, stays_cong, own_moves}

-- ---- rows of weights

-- a place tells its state and its value
by_place_law : (w : ℕ → ℕ → ℕ) (b h : ℕ) → h < most_shared → by_place w (place_of b h) ≡ w b h
by_place_law w b h l =
    let state : place_of b h / most_shared ≡ b = omega arith in
    let value : place_of b h % most_shared ≡ h = omega arith in
    rw (state, value)

-- a row as the code makes it
abbrev empty : List ℕ
empty = replicate weight_places 0

zero_at : (n i : ℕ) → ◌≡◌ {A = ℕ} (get_or (replicate n 0) i 0) 0
zero_at zero i = refl
zero_at (suc n) zero = refl
zero_at (suc n) (suc i) = zero_at n i

pub empty_light : Most heaviest empty
empty_light i = rw (zero_at weight_places i) (omega arith)

pub raised_row : (u : ℕ → ℕ) (able : ℕ) (was : List ℕ) {row : List ℕ} → row ≡ raised weight_places u able was → length row ≡ weight_places
raised_row u able was e = rw e (raised_long weight_places u able was)

module _ (table rows branches : List ℕ) (count a : ℕ) {row : List ℕ} (is : row ≡ row_from table rows branches count a) where
  pub from_long : length row ≡ weight_places
  unfolding row_from
  from_long = rw is (length_upto weight_places (by_place (move_by table rows branches count a)))

  from_at : (b h : ℕ) → b ≤ top_state → h < most_shared → weight_in row b h ≡ move_by table rows branches count a b h
  unfolding row_from
  from_at b h l m =
      rw is (get_d_upto weight_places (by_place (move_by table rows branches count a)) (place_of b h) 0 (omega arith)
      ∙ by_place_law (move_by table rows branches count a) b h m)

  pub from_text : (k shared : ℕ) → k ≤ top_state → shared ≤ most_shared → (r : List ℕ)
      → moves_text (tells shared) (moves_from k (or_one shared) a (weight_in row)) r ≡ moves_text (tells shared) (moves_from k (or_one shared) a (move_by table rows branches count a)) r
  from_text k shared t v r =
      ap (λ l. moves_text (tells shared) l r)
      (moves_cong k (or_one shared) a (weight_in row) (move_by table rows branches count a) (λ b h l m. from_at b h (omega arith) (omega (arith, one_most shared v))))

-- in all, by old state
abbrev pub from_state : Head → List ℕ → List ℕ → List ℕ → ℕ → List Move
from_state h table rows branches a = moves_from h.top (or_one h.shared) a (move_by table rows branches h.count a)

-- ---- a choice

module _ (k values g i able : ℕ) (s : Statement) (r : List ℕ) where
  pub choice_none : (shared : ℕ) → able ≡ 0 → r ≡ blocks_text (tells shared) (choice_if k values g i able s) r
  unfolding choice_if
  choice_none shared e = rw e

  choice_some : (shared : ℕ) → (able ≡ 0 → ⊥) → block_text (tells shared) (block k values (some (suc i)) (stay_of g s) (move_of g s)) r ≡ blocks_text (tells shared) (choice_if k values g i able s) r
  unfolding choice_if
  choice_some shared h = let l : 0 < able = omega arith in rw (lt-ltb 0 able l)

module _ (k shared g i able own many : ℕ) (branches : List ℕ) where
  abbrev s : Statement
  s = weighing branches i own many

  abbrev into : ℕ → ℕ → ℕ
  into b h = units_into g b h s.branches

  module _ {row : List ℕ} (is : row ≡ added g 1 (branches_in branches i many) empty) where
    choice_at : (b h : ℕ) → b ≤ top_state → h < most_shared → weight_in row b h ≡ into b h
    choice_at b h l m =
        rw (is, raised_at weight_places (by_place into) 1 empty (place_of b h) (omega arith), zero_at weight_places (place_of b h), by_place_law into b h m) (omega arith)

    module _ (t : k ≤ top_state) (v : shared ≤ most_shared) (o : own ≤ k) (r : List ℕ) where
      choice_lines : line "choice" (suc i ∷ []) (stays_text (tells shared) (flat (upto (or_one shared) (λ h. stay_line h (weight_in row own h)))) (moves_text (tells shared) (moves_from k (or_one shared) own (weight_in row)) r))
          ≡ block_text (tells shared) (block k (or_one shared) (some (suc i)) (stay_of g s) (move_of g s)) r
      unfolding block_text block stay_of move_of
      choice_lines = rw (
        stays_cong (or_one shared) (λ h. weight_in row own h) (into own) (λ h m. choice_at own h (omega arith) (omega (arith, one_most shared v))),
        own_moves k (or_one shared) own o (weight_in row) into (λ b h l m. choice_at b h (omega arith) (omega (arith, one_most shared v))),
      )

      pub choice_text : {q : ℕ} → (able ≡ 0 → ⊥) → q ≡ i + 1
          → line "choice" (q ∷ []) (stays_text (tells shared) (flat (upto (or_one shared) (λ h. stay_line h (weight_in row own h)))) (moves_text (tells shared) (moves_from k (or_one shared) own (weight_in row)) r))
          ≡ blocks_text (tells shared) (choice_if k (or_one shared) g i able s) r
      choice_text {q} z p = let q-is : q ≡ suc i = omega arith in rw q-is choice_lines ∙ choice_some k (or_one shared) g i able s r shared z

-- ---- the panel

module _ (h : Head) (table rows branches : List ℕ) where
  abbrev head : List ℕ → List ℕ
  head r =
      mode_text (either nondeterministic probabilistic h.mode) ("\nseats " ▸ num h.seats (line " enabled" (get_or table enabled_place 0 ∷ [])
      (line "counts" (take (h.top + 1) table) (shared_text (shown_if h.shared (shared_in table)) r))))

  abbrev still : ℕ
  still = stay_in table (shared_in table)

  module _ {a b : List ℕ} {at m : ℕ} where
    pub choices_text : h.mode ≡ 0 → still ≡ 0
        → Puts a b at (λ r. head (blocks_text (tells h.shared) (choices_in h.top (or_one h.shared) table rows branches h.count) r)) m
        → Put a b at (panel_text (panel_in h table rows branches)) m
    unfolding panel_text panel_in
    choices_text e z p = rw (told_if h.shared (shared_in table), eq-eqb h.mode 0 e, eq-eqb still 0 z) (rw (eq-eqb h.mode 0 e) at p.put)

    pub stuck_text : h.mode ≡ 0 → (still ≡ 0 → ⊥)
        → Puts a b at (λ r. head (line "choice" (0 ∷ []) (stays_text (tells h.shared) (stay_line (shared_in table) still) r))) m
        → Put a b at (panel_text (panel_in h table rows branches)) m
    unfolding panel_text panel_in block_text
    stuck_text e s p =
        let some-still : 0 < still = omega arith in
        rw (told_if h.shared (shared_in table), eq-eqb h.mode 0 e, ne_eqb still 0 s) (rw (eq-eqb h.mode 0 e, lt-ltb 0 still some-still) at p.put)

    pub weights_text : (h.mode ≡ 0 → ⊥)
        → Puts a b at (λ r. head (stays_text (tells h.shared) (flat (upto (or_one h.shared) (λ d. stay_line d (stay_in table d))))
        (moves_text (tells h.shared) (flat (upto (suc h.top) (λ a. moves_from h.top (or_one h.shared) a (move_by table rows branches h.count a)))) r))) m
        → Put a b at (panel_text (panel_in h table rows branches)) m
    unfolding panel_text panel_in block_text block
    weights_text e p = rw (told_if h.shared (shared_in table), ne_eqb h.mode 0 e) (rw (ne_eqb h.mode 0 e) at p.put)
