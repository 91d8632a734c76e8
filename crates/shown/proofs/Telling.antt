-- A panel read off its text, from the front: a number ends where no digit follows, a line at its LF, and the first byte of a line tells
-- whether it is a choice, a stay or a move. Assumes nothing.
use Prim.Native.Nat.{ℕ, zero, suc, ◌<◌}
use Prim.Native.String.{String}
use mathlib.Core.Path.{◌≡◌, refl, sym, ap, subst, ◌∙◌}
use mathlib.Core.Bool.{Bool, true, false, not, ◌&&◌}
use mathlib.Core.List.{List, [], ◌∷◌, ◌++◌, map}
use mathlib.Core.Option.{Option, none, some}
use native.Mathlib.Omega.{arith}
use lib.Dec.{eqb, ltb}
use Rattle.card.specs.Text.{bytes, when◌then◌else◌}
use Rattle.card.specs.Card.{Mode, nondeterministic, probabilistic, Shared, Card}
use Rattle.card.specs.Valid.{Every}
use Rattle.room.specs.Digits.{digit, decimal, AllDigits}
use Rattle.room.proofs.Decimal.{decimal_injective, decimal_digits}
use Rattle.phrases.specs.Phrases.{◌▸◌, num, mode_word}
use Rattle.meaning.specs.Choices.{Choice}
use Rattle.meaning.specs.Position.{shared_values}
use Rattle.meaning.specs.Sums.{upto, flat}
use Rattle.meaning.specs.Steps.{Turn, weight}
use Rattle.meaning.specs.Seats.{Seating, choices, steps}
use Rattle.meaning.specs.Panel.{Move, Stay, Block, Panel, shared_shown, stay_line, move_line, moves_from, stays_with, goes_with, block, block_of, one_of, blocks, panel}
use Rattle.meaning.proofs.Sums.{every_append}
use Rattle.panel_wording.specs.PanelText.{numbers, line, told, ending, moves_text, stays_text, choice_text, block_text, blocks_text, shared_text, panel_text, panel_of}
use Rattle.shown.specs.Telling.{Chosen, Blocks, Quiet, QuietBlock, Shaped, Telling}

-- ---- bytes

abbrev pub first : List ℕ → ℕ
first [] = 0
first (b ∷ s) = b

abbrev pub rest : List ℕ → List ℕ
rest [] = []
rest (b ∷ s) = s

abbrev fourth : List ℕ → ℕ
fourth s = first (rest (rest (rest s)))

bytes_cancel : (w r s : List ℕ) → w ++ r ≡ w ++ s → r ≡ s
bytes_cancel [] r s e = e
bytes_cancel (b ∷ w) r s e = bytes_cancel w r s (ap rest e)

-- ---- numbers

-- no digit follows
abbrev Low : List ℕ → Type 0
Low r = first r < digit 0

digits_cancel : (l m r s : List ℕ) → AllDigits l → AllDigits m → Low r → Low s → l ++ r ≡ m ++ s → (l ≡ m) × (r ≡ s)
digits_cancel [] [] r s p q low low' e = (refl, e)
digits_cancel [] (b ∷ m) r s p q low low' e = absurd (omega (arith, q.0, ap first e))
digits_cancel (a ∷ l) [] r s p q low low' e = absurd (omega (arith, p.0, ap first e))
digits_cancel (a ∷ l) (b ∷ m) r s p q low low' e =
    let same : a ≡ b = ap first e in
    let more = digits_cancel l m r s p.2 q.2 low low' (ap rest e) in
    (rw (same, more.0), more.1)

num_cancel : (a b : ℕ) (r s : List ℕ) → Low r → Low s → num a r ≡ num b s → (a ≡ b) × (r ≡ s)
num_cancel a b r s low low' e =
    let both = digits_cancel (decimal a) (decimal b) r s (decimal_digits a) (decimal_digits b) low low' e in
    (decimal_injective a b both.0, both.1)

numbers_low : (l r : List ℕ) → Low (numbers l ("\n" ▸ r))
numbers_low [] r = omega arith
numbers_low (v ∷ l) r = omega arith

numbers_cancel : (l m r s : List ℕ) → numbers l ("\n" ▸ r) ≡ numbers m ("\n" ▸ s) → (l ≡ m) × (r ≡ s)
numbers_cancel [] [] r s e = (refl, ap rest e)
numbers_cancel [] (w ∷ m) r s e = absurd (omega (arith, ap first e))
numbers_cancel (v ∷ l) [] r s e = absurd (omega (arith, ap first e))
numbers_cancel (v ∷ l) (w ∷ m) r s e =
    let head = num_cancel v w (numbers l ("\n" ▸ r)) (numbers m ("\n" ▸ s)) (numbers_low l r) (numbers_low m s) (ap rest e) in
    let more = numbers_cancel l m r s head.1 in
    (rw (head.0, more.0), more.1)

pub line_cancel : (w : String) (l m r s : List ℕ) → line w l r ≡ line w m s → (l ≡ m) × (r ≡ s)
line_cancel w l m r s e = numbers_cancel l m r s (bytes_cancel (bytes w) (numbers l ("\n" ▸ r)) (numbers m ("\n" ▸ s)) e)

-- ---- a block's lines

-- no move and no stay follows
pub record Behind (r : List ℕ) : Type 0 where
  pub no_move : first r ≡ 109 → ⊥
  pub no_stay : first r ≡ 115 → ⊥

-- what the shared number becomes stands last, or is 0
ending_cancel : (t : Bool) (a b : ℕ) → Quiet t a → Quiet t b → ending t a ≡ ending t b → a ≡ b
ending_cancel true a b p q e = ap first e
ending_cancel false a b p q e = p ∙ sym q

module _ (t : Bool) where
  abbrev QuietMoves : List Move → Type 0
  QuietMoves l = Every (λ (m : Move). Quiet t m.shared) l

  abbrev QuietStays : List Stay → Type 0
  QuietStays l = Every (λ (s : Stay). Quiet t s.shared) l

  moves_cancel : (l m : List Move) (r s : List ℕ) → QuietMoves l → QuietMoves m → Behind r → Behind s → moves_text t l r ≡ moves_text t m s → (l ≡ m) × (r ≡ s)
  moves_cancel [] [] r s g h p q e = (refl, e)
  moves_cancel [] (y ∷ m) r s g h p q e = absurd (p.no_move (ap first e))
  moves_cancel (x ∷ l) [] r s g h p q e = absurd (q.no_move (ap first (sym e)))
  moves_cancel (x ∷ l) (y ∷ m) r s g h p q e =
      let here = line_cancel "move" (x.old ∷ x.new ∷ x.weight ∷ ending t x.shared) (y.old ∷ y.new ∷ y.weight ∷ ending t y.shared) (moves_text t l r) (moves_text t m s) e in
      let more = moves_cancel l m r s g.1 h.1 p q here.1 in
      let old : x.old ≡ y.old = ap first here.0 in
      let new : x.new ≡ y.new = ap (λ (v : List ℕ). first (rest v)) here.0 in
      let weight : x.weight ≡ y.weight = ap (λ (v : List ℕ). first (rest (rest v))) here.0 in
      let shared : x.shared ≡ y.shared = ending_cancel t x.shared y.shared g.0 h.0 (ap (λ (v : List ℕ). rest (rest (rest v))) here.0) in
      (λ i. record { old = old i; new = new i; weight = weight i; shared = shared i } ∷ more.0 i, more.1)

  moves_begin : (l : List Move) (r : List ℕ) → Behind r → first (moves_text t l r) ≡ 115 → ⊥
  moves_begin [] r p e = p.no_stay e
  moves_begin (x ∷ l) r p e = absurd (omega (arith, e))

  stays_cancel : (l m : List Stay) (r s : List ℕ) → QuietStays l → QuietStays m → (first r ≡ 115 → ⊥) → (first s ≡ 115 → ⊥) → stays_text t l r ≡ stays_text t m s → (l ≡ m) × (r ≡ s)
  stays_cancel [] [] r s g h p q e = (refl, e)
  stays_cancel [] (y ∷ m) r s g h p q e = absurd (p (ap first e))
  stays_cancel (x ∷ l) [] r s g h p q e = absurd (q (ap first (sym e)))
  stays_cancel (x ∷ l) (y ∷ m) r s g h p q e =
      let here = line_cancel "stay" (x.weight ∷ ending t x.shared) (y.weight ∷ ending t y.shared) (stays_text t l r) (stays_text t m s) e in
      let more = stays_cancel l m r s g.1 h.1 p q here.1 in
      let weight : x.weight ≡ y.weight = ap first here.0 in
      let shared : x.shared ≡ y.shared = ending_cancel t x.shared y.shared g.0 h.0 (ap rest here.0) in
      (λ i. record { weight = weight i; shared = shared i } ∷ more.0 i, more.1)

  abbrev lines_of : Block → List ℕ → List ℕ
  lines_of b r = stays_text t b.stays (moves_text t b.moves r)

  lines_cancel : (a b : Block) (r s : List ℕ) → QuietBlock t a → QuietBlock t b → Behind r → Behind s → lines_of a r ≡ lines_of b s → (a.stays ≡ b.stays) × (a.moves ≡ b.moves) × (r ≡ s)
  lines_cancel a b r s g h p q e =
      let stays = stays_cancel a.stays b.stays (moves_text t a.moves r) (moves_text t b.moves s) g.stays h.stays (moves_begin a.moves r p) (moves_begin b.moves s q) e in
      let more = moves_cancel a.moves b.moves r s g.moves h.moves p q stays.1 in
      (stays.0, more.0, more.1)

-- ---- blocks

nothing_behind : Behind []
nothing_behind = record { no_move = λ e. absurd (omega (arith, e)); no_stay = λ e. absurd (omega (arith, e)) }

same_block : (a b : Block) → a.choice ≡ b.choice → a.stays ≡ b.stays → a.moves ≡ b.moves → a ≡ b
same_block a b c s m = λ i. record { choice = c i; stays = s i; moves = m i }

module _ (t : Bool) where
  as_lines : (b : Block) (r : List ℕ) {o : Option ℕ} → b.choice ≡ o → block_text t b r ≡ choice_text o (lines_of t b r)
  unfolding block_text
  as_lines b r e = ap (λ (o : Option ℕ). choice_text o (lines_of t b r)) e

  choice_begins : (b : Block) (r : List ℕ) → Chosen b → first (block_text t b r) ≡ 99
  choice_begins b r h = ap first (as_lines b r h.1)

  chosen_behind : (l : List Block) → Every Chosen l → Behind (blocks_text t l [])
  chosen_behind [] h = nothing_behind
  chosen_behind (b ∷ l) h = record {
    no_move = λ e. absurd (omega (arith, e, choice_begins b (blocks_text t l []) h.0));
    no_stay = λ e. absurd (omega (arith, e, choice_begins b (blocks_text t l []) h.0));
  }

  chosen_cancel : (l m : List Block) → Every Chosen l → Every Chosen m → Every (QuietBlock t) l → Every (QuietBlock t) m → blocks_text t l [] ≡ blocks_text t m [] → l ≡ m
  chosen_cancel [] [] p q g h e = refl
  chosen_cancel [] (b ∷ m) p q g h e = absurd (omega (arith, ap first e, choice_begins b (blocks_text t m []) q.0))
  chosen_cancel (a ∷ l) [] p q g h e = absurd (omega (arith, ap first e, choice_begins a (blocks_text t l []) p.0))
  chosen_cancel (a ∷ l) (b ∷ m) p q g h e =
      let said = sym (as_lines a (blocks_text t l []) p.0.1) ∙ e ∙ as_lines b (blocks_text t m []) q.0.1 in
      let here = line_cancel "choice" (p.0.0 ∷ []) (q.0.0 ∷ []) _ _ said in
      let more = lines_cancel t a b (blocks_text t l []) (blocks_text t m []) g.0 h.0 (chosen_behind l p.1) (chosen_behind m q.1) here.1 in
      let place : a.choice ≡ b.choice = p.0.1 ∙ ap some (ap first here.0) ∙ sym q.0.1 in
      let others = chosen_cancel l m p.1 q.1 g.1 h.1 more.2 in
      λ i. same_block a b place more.0 more.1 i ∷ others i

  blocks_cancel : (m : Mode) (l k : List Block) → Blocks m l → Blocks m k → Every (QuietBlock t) l → Every (QuietBlock t) k → blocks_text t l [] ≡ blocks_text t k [] → l ≡ k
  blocks_cancel nondeterministic l k p q g h e = chosen_cancel l k p q g h e
  blocks_cancel probabilistic l k (a, is, none-a) (b, is', none-b) g h e =
      let whole : block_text t a [] ≡ block_text t b [] = sym (ap (λ (x : List Block). blocks_text t x []) is) ∙ e ∙ ap (λ (x : List Block). blocks_text t x []) is' in
      let said = sym (as_lines a [] none-a) ∙ whole ∙ as_lines b [] none-b in
      let quiet-a : Every (QuietBlock t) (a ∷ []) = subst (λ (x : List Block). Every (QuietBlock t) x) is g in
      let quiet-b : Every (QuietBlock t) (b ∷ []) = subst (λ (x : List Block). Every (QuietBlock t) x) is' h in
      let more = lines_cancel t a b [] [] quiet-a.0 quiet-b.0 nothing_behind nothing_behind said in
      is ∙ ap (λ (x : Block). x ∷ []) (same_block a b (none-a ∙ sym none-b) more.0 more.1) ∙ sym is'

  -- a line of the shared number has an r as its fourth byte, and none of a block has
  no_shared : (m : Mode) (l : List Block) → Blocks m l → fourth (blocks_text t l []) ≡ 114 → ⊥
  no_shared nondeterministic [] p e = absurd (omega (arith, e))
  no_shared nondeterministic (b ∷ l) p e = absurd (omega (arith, e, ap fourth (as_lines b (blocks_text t l []) p.0.1)))
  no_shared probabilistic l (b, is, none-b) e =
      go b.stays b.moves (sym (ap fourth (ap (λ (x : List Block). blocks_text t x []) is ∙ as_lines b [] none-b)) ∙ e)
    where
      go : (s : List Stay) (m : List Move) → fourth (stays_text t s (moves_text t m [])) ≡ 114 → ⊥
      go [] [] e = absurd (omega (arith, e))
      go [] (x ∷ m) e = absurd (omega (arith, e))
      go (x ∷ s) m e = absurd (omega (arith, e))

-- ---- the panel

-- behind the counts: the shared number, if there is one, and the blocks
abbrev behind : Panel → List ℕ
behind p = shared_text p.shared (blocks_text (told p.shared) p.blocks [])

-- behind the mode
abbrev body : Panel → List ℕ
body p = "\nseats " ▸ num p.seats (line " enabled" (p.enabled ∷ []) (line "counts" p.counts (behind p)))

mode_cancel : (m k : Mode) (r s : List ℕ) → mode_word m ▸ r ≡ mode_word k ▸ s → (m ≡ k) × (r ≡ s)
mode_cancel nondeterministic nondeterministic r s e = (refl, bytes_cancel (bytes "nondeterministic") r s e)
mode_cancel nondeterministic probabilistic r s e = absurd (omega (arith, ap first e))
mode_cancel probabilistic nondeterministic r s e = absurd (omega (arith, ap first e))
mode_cancel probabilistic probabilistic r s e = (refl, bytes_cancel (bytes "probabilistic") r s e)

module _ (m : Mode) (l k : List Block) (p : Blocks m l) (q : Blocks m k) where
  behind_cancel : (o u : Option ℕ) → Every (QuietBlock (told o)) l → Every (QuietBlock (told u)) k → shared_text o (blocks_text (told o) l []) ≡ shared_text u (blocks_text (told u) k []) → (o ≡ u) × (l ≡ k)
  behind_cancel none none g h e = (refl, blocks_cancel false m l k p q g h e)
  behind_cancel none (some v) g h e = absurd (no_shared false m l p (ap fourth e))
  behind_cancel (some v) none g h e = absurd (no_shared false m k q (ap fourth (sym e)))
  behind_cancel (some v) (some w) g h e =
      let here = line_cancel "shared" (v ∷ []) (w ∷ []) (blocks_text true l []) (blocks_text true k []) e in
      (ap some (ap first here.0), blocks_cancel true m l k p q g h here.1)

module _ (p q : Panel) where
  abbrev counts : Panel → List ℕ
  counts x = line "counts" x.counts (behind x)

  body_cancel : body p ≡ body q → (p.seats ≡ q.seats) × (p.enabled ≡ q.enabled) × (p.counts ≡ q.counts) × (behind p ≡ behind q)
  body_cancel e =
      let seats = num_cancel p.seats q.seats (line " enabled" (p.enabled ∷ []) (counts p)) (line " enabled" (q.enabled ∷ []) (counts q)) (omega arith) (omega arith)
      (bytes_cancel (bytes "\nseats ") _ _ e) in
      let enabled = line_cancel " enabled" (p.enabled ∷ []) (q.enabled ∷ []) (counts p) (counts q) seats.1 in
      let rows = line_cancel "counts" p.counts q.counts (behind p) (behind q) enabled.1 in
      (seats.0, ap first enabled.0, rows.0, rows.1)

  panel_told : Shaped p → Shaped q → panel_text p ≡ panel_text q → p ≡ q
  unfolding panel_text
  panel_told h g e =
      let modes = mode_cancel p.mode q.mode (body p) (body q) e in
      let parts = body_cancel modes.1 in
      let g' : Blocks p.mode q.blocks = rw modes.0 g.blocks in
      let same = behind_cancel p.mode p.blocks q.blocks h.blocks g' p.shared q.shared h.quiet g.quiet parts.3 in
      λ i. record { mode = modes.0 i; seats = parts.0 i; enabled = parts.1 i; counts = parts.2 i; shared = same.0 i; blocks = same.1 i }

-- ---- of every card

module _ {A : Type 0} (P : A → Type 0) where
  every_below : (n : ℕ) (f : ℕ → List A) → ((i : ℕ) → i < n → Every P (f i)) → Every P (flat (upto n f))
  every_below zero f h = tt
  every_below (suc n) f h = every_append P (f 0) (flat (upto n (λ i. f (suc i)))) (h 0 (omega arith)) (every_below n (λ i. f (suc i)) (λ i l. h (suc i) (omega arith)))

-- with so many values of the shared number
module _ (t : Bool) (values : ℕ) (low : (h : ℕ) → h < values → Quiet t h) where
  quiet_stay : (h w : ℕ) → h < values → Every (λ (s : Stay). Quiet t s.shared) (stay_line h w)
  quiet_stay h w l = go (ltb 0 w)
    where
      go : (u : Bool) → Every (λ (s : Stay). Quiet t s.shared) (when u then record { weight = w; shared = h } ∷ [] else [])
      go true = (low h l, tt)
      go false = tt

  quiet_move : (a b h w : ℕ) → h < values → Every (λ (m : Move). Quiet t m.shared) (move_line a b h w)
  quiet_move a b h w l = go (not (eqb a b) && ltb 0 w)
    where
      go : (u : Bool) → Every (λ (m : Move). Quiet t m.shared) (when u then record { old = a; new = b; weight = w; shared = h } ∷ [] else [])
      go true = (low h l, tt)
      go false = tt

  quiet_block : (k : ℕ) (q : Option ℕ) (x : Seating) (l : Turn Seating) → QuietBlock t (block_of k values q x l)
  unfolding block_of block
  quiet_block k q x l = record { stays = stays (λ h. weight (stays_with x h) l); moves = moves (λ a b h. weight (goes_with x a b h) l) }
    where
      Stays : Stay → Type 0
      Stays s = Quiet t s.shared

      Moves : Move → Type 0
      Moves m = Quiet t m.shared

      stays : (w : ℕ → ℕ) → Every Stays (flat (upto values (λ h. stay_line h (w h))))
      stays w = every_below Stays values (λ h. stay_line h (w h)) (λ h b. quiet_stay h (w h) b)

      moves : (w : ℕ → ℕ → ℕ → ℕ) → Every Moves (flat (upto (suc k) (λ a. moves_from k values a (w a))))
      moves w =
          every_below Moves (suc k) (λ a. moves_from k values a (w a)) (λ a i.
          every_below Moves (suc k) (λ b. flat (upto values (λ h. move_line a b h (w a b h)))) (λ b j.
          every_below Moves values (λ h. move_line a b h (w a b h)) (λ h m. quiet_move a b h (w a b h) m)))

module _ (c : Card) (x : Seating) where
  abbrev is_told : Bool
  is_told = told (shared_shown c.shared x.shared)

  low_values : (s : Option Shared) (h : ℕ) → h < shared_values s → Quiet (told (shared_shown s x.shared)) h
  low_values none h l = omega arith
  low_values (some s) h l = tt

  one : (q : Option ℕ) (l : Turn Seating) → QuietBlock is_told (block_of c.k (shared_values c.shared) q x l)
  one q l = quiet_block is_told (shared_values c.shared) (low_values c.shared) c.k q x l

  panel_shaped : Shaped (panel c x)
  unfolding panel block_of block
  panel_shaped = record { blocks = go c.mode; quiet = quiet c.mode }
    where
      block_at : Choice Seating → Block
      block_at q = block_of c.k (shared_values c.shared) (some q.place) x (one_of q.turns)

      chosen : (l : List (Choice Seating)) → Every Chosen (map block_at l)
      chosen [] = tt
      chosen (q ∷ l) = ((q.place, refl), chosen l)

      go : (m : Mode) → Blocks m (blocks m c x)
      go nondeterministic = chosen (choices c x)
      go probabilistic = (_, refl, refl)

      each : (l : List (Choice Seating)) → Every (QuietBlock is_told) (map block_at l)
      each [] = tt
      each (q ∷ l) = (one (some q.place) (one_of q.turns), each l)

      quiet : (m : Mode) → Every (QuietBlock is_told) (blocks m c x)
      quiet nondeterministic = each (choices c x)
      quiet probabilistic = (one none (steps c x), tt)

pub telling : Telling
unfolding panel_of
telling = record {
  shaped = panel_shaped;
  tells = panel_told;
  same_data = λ c d x y e. panel_told (panel c x) (panel d y) (panel_shaped c x) (panel_shaped d y) e;
}
