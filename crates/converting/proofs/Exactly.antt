-- Converting says what `Converts` and `Stops` say, entry by entry; as a stage of an entry it refuses with 11 or 18, and passes exactly where the deck can be converted. Assumes nothing.
use Prim.Native.Nat.{ℕ, ◌+◌, ◌≤◌, ◌<◌}
use mathlib.Core.Path.{◌≡◌, refl, sym, ap, ◌∙◌}
use mathlib.Core.Bool.{Bool, true, false, ◌&&◌, false≢true}
use mathlib.Core.Logic.{◌↔◌, ◌⊎◌, inl, inr}
use mathlib.Core.List.{List, [], ◌∷◌}
use native.Mathlib.Decide.{dec_le}
use native.Mathlib.Omega.{arith}
use borrow.Author.Tests.{le-leb, lt-leb, leb-true}
use lib.Dec.{leb}
use lib.ListN.{length, length-map}
use Rattle.card.specs.Limits.{deck_bytes}
use Rattle.card.specs.Refusals.{malformed_deck, not_converted}
use Rattle.card.specs.Text.{when◌then◌else◌}
use Rattle.entry.specs.Said.{Said, says, refused, ◌>>=◌, ◌>>◌, unless}
use Rattle.entry.specs.Numbers.{only, among, ◌to◌}
use Rattle.entry.specs.Stage.{Stage}
use Rattle.entry.proofs.Stages.{says≢refused, same_said, same_number, same_place}
use Rattle.deck.specs.Contents.{count_of, entries_from, behind, contents_of}
use Rattle.deck.specs.Deck.{Entry, entry_of, held_by, deck_of, deck_text}
use Rattle.deck.specs.Sound.{Sound}
use Rattle.deck.proofs.DeckStages.{deck_stage}
use Rattle.deck_written.proofs.Entries.{length_rows}
use Rattle.converting.specs.Converting.{body_said, with_body, ends_within, entries_said, convert_said}
use Rattle.converting.specs.Converts.{NewBody, NoBody, Converts, end, next, Stops, no_body, past_end, later, Convertible, StopsIn}
use Rattle.converting.proofs.Bodies.{Told, has, has_not, body_of, no_body_of, told_body}

-- ---- one entry before others

module _ (at : ℕ) (e : Entry) (es : List Entry) where
  -- where its bytes are known
  abbrev more : List ℕ → Said (List Entry)
  more body = entries_said (at + length body) es >>= (λ (rest : List Entry). says (with_body e body ∷ rest))

  abbrev behind_body : List ℕ → Said (List Entry)
  behind_body body = ends_within at e.number body >> more body

  bound : {x : Said (List ℕ)} → body_said e ≡ x → entries_said at (e ∷ es) ≡ x >>= behind_body
  bound q = ap (λ (x : Said (List ℕ)). x >>= behind_body) q

  stop_here : NoBody e → entries_said at (e ∷ es) ≡ refused not_converted e.number
  stop_here b = bound (no_body_of e b)

  module _ {body : List ℕ} (b : NewBody e body) where
    stop_past : deck_bytes < at + length body → entries_said at (e ∷ es) ≡ refused not_converted e.number
    stop_past l =
        bound (body_of e b)
        ∙ ap (λ (t : Bool). unless t not_converted e.number >> more body) (lt-leb (at + length body) deck_bytes l)

    go_on : at + length body ≤ deck_bytes → {x : Said (List Entry)} → entries_said (at + length body) es ≡ x
        → entries_said at (e ∷ es) ≡ x >>= (λ (rest : List Entry). says (with_body e body ∷ rest))
    go_on l q =
        bound (body_of e b)
        ∙ ap (λ (t : Bool). unless t not_converted e.number >> more body) (le-leb (at + length body) deck_bytes l)
        ∙ ap (λ (x : Said (List Entry)). x >>= (λ (rest : List Entry). says (with_body e body ∷ rest))) q

-- ---- entries

pub converts_said : {at : ℕ} {es new : List Entry} → Converts at es new → entries_said at es ≡ says new
converts_said end = refl
converts_said (next {at} {e} {es} b l more) = go_on at e es b l (converts_said more)

pub stops_said : {at number : ℕ} {es : List Entry} → Stops at es number → entries_said at es ≡ refused not_converted number
stops_said (no_body {at} {e} {es} b) = stop_here at e es b
stops_said (past_end {at} {e} {es} b l) = stop_past at e es b l
stops_said (later {at} {number} {e} {es} b l more) = go_on at e es b l (stops_said more)

-- one of both
pub data Which (at : ℕ) (es : List Entry) : Type 0 where
  all : (new : List Entry) → Converts at es new → Which at es
  not_all : (number : ℕ) → Stops at es number → Which at es

pub which : (at : ℕ) (es : List Entry) → Which at es
which at [] = all [] end
which at (e ∷ es) = go (λ k. which k es) (told_body e)
  where
    more : {body : List ℕ} → NewBody e body → at + length body ≤ deck_bytes → Which (at + length body) es → Which at (e ∷ es)
    more {body} b l (all new k) = all (with_body e body ∷ new) (next b l k)
    more b l (not_all number k) = not_all number (later b l k)

    here : ((k : ℕ) → Which k es) → (body : List ℕ) → NewBody e body → Dec (at + length body ≤ deck_bytes) → Which at (e ∷ es)
    here rest body b (yes l) = more b l (rest (at + length body))
    here rest body b (no l) = let past : deck_bytes < at + length body = omega arith in not_all e.number (past_end b past)

    go : ((k : ℕ) → Which k es) → Told e → Which at (e ∷ es)
    go rest (has body b q) = here rest body b (dec_le (at + length body) deck_bytes)
    go rest (has_not b q) = not_all e.number (no_body b)

module _ {at : ℕ} {es : List Entry} where
  pub said_stops : {r p : ℕ} → entries_said at es ≡ refused r p → (r ≡ not_converted) × Stops at es p
  said_stops {r} {p} q = go (which at es)
    where
      go : Which at es → (r ≡ not_converted) × Stops at es p
      go (all new k) = says≢refused (sym (converts_said k) ∙ q)
      go (not_all number k) = let same = sym q ∙ stops_said k in (same_number same, rw (same_place same) k)

-- ---- a deck

only_number : (n r : ℕ) → among (only n) r ≡ true → r ≡ n
only_number n r = go (leb n r) refl (leb r n) refl
  where
    go : (a : Bool) → leb n r ≡ a → (b : Bool) → leb r n ≡ b → (when a && b then true else false) ≡ true → r ≡ n
    go true p true q h = let l = leb-true n r p in let m = leb-true r n q in omega (arith, l, m)
    go true p false q h = absurd (false≢true h)
    go false p b q h = absurd (false≢true h)

pub held_long : (deck : List ℕ) → length (held_by deck) ≡ count_of deck
held_long deck = length-map (contents_of deck) (entry_of deck) ∙ length_rows (count_of deck) (entries_from deck)

module _ (deck : List ℕ) where
  abbrev behind_deck : List Entry → Said (List ℕ)
  behind_deck es = entries_said (behind (length es)) es >>= (λ (new : List Entry). says (deck_text new))

  pub first_deck : {x : Said (List Entry)} → deck_of deck ≡ x → convert_said deck ≡ x >>= behind_deck
  unfolding convert_said
  first_deck q = ap (λ (x : Said (List Entry)). x >>= behind_deck) q

  module _ (s : Sound deck) where
    pub sound_said : {x : Said (List Entry)} → entries_said (behind (count_of deck)) (held_by deck) ≡ x → convert_said deck ≡ x >>= (λ (new : List Entry). says (deck_text new))
    sound_said q =
        first_deck ((deck_stage deck).found.each s)
        ∙ ap (λ (n : ℕ). entries_said (behind n) (held_by deck) >>= (λ (new : List Entry). says (deck_text new))) (held_long deck)
        ∙ ap (λ (x : Said (List Entry)). x >>= (λ (new : List Entry). says (deck_text new))) q

  pub convertible_said : (c : Convertible deck) → convert_said deck ≡ says (deck_text c.new)
  convertible_said c = sound_said c.sound (converts_said c.converts)

  pub stops_in_said : {number : ℕ} → StopsIn deck number → convert_said deck ≡ refused not_converted number
  stops_in_said c = sound_said c.sound (stops_said c.stops)

  pub not_sound_said : {r p : ℕ} → deck_of deck ≡ refused r p → convert_said deck ≡ refused r p
  not_sound_said q = first_deck q

  -- one of three
  pub data Ways : Type 0 where
    converted : Convertible deck → Ways
    stopped : (number : ℕ) → StopsIn deck number → Ways
    malformed : (place : ℕ) → deck_of deck ≡ refused malformed_deck place → Ways

  pub ways : Ways
  ways = go (deck_of deck) refl
    where
      inside : Sound deck → Which (behind (count_of deck)) (held_by deck) → Ways
      inside s (all new k) = converted (record { sound = s; new = new; converts = k })
      inside s (not_all number k) = stopped number (record { sound = s; stops = k })

      go : (x : Said (List Entry)) → deck_of deck ≡ x → Ways
      go (says es) q = let (s, same) = (deck_stage deck).found.only es q in inside s (which (behind (count_of deck)) (held_by deck))
      go (refused r p) q =
          let number = only_number malformed_deck r ((deck_stage deck).numbers.number r p q) in
          malformed p (q ∙ ap (λ (n : ℕ). refused n p) number)

  module _ {r p : ℕ} where
    pub refused_exactly : (convert_said deck ≡ refused r p) ↔ ((deck_of deck ≡ refused r p) ⊎ ((r ≡ not_converted) × StopsIn deck p))
    refused_exactly = (forth ways, back)
      where
        forth : Ways → convert_said deck ≡ refused r p → (deck_of deck ≡ refused r p) ⊎ ((r ≡ not_converted) × StopsIn deck p)
        forth (converted c) q = says≢refused (sym (convertible_said c) ∙ q)
        forth (stopped number c) q = let same = sym (stops_in_said c) ∙ q in inr (sym (same_number same), rw (← same_place same) c)
        forth (malformed place d) q = let same = sym (not_sound_said d) ∙ q in inl (d ∙ λ i. refused (same_number same i) (same_place same i))

        back : (deck_of deck ≡ refused r p) ⊎ ((r ≡ not_converted) × StopsIn deck p) → convert_said deck ≡ refused r p
        back (inl d) = not_sound_said d
        back (inr (e, c)) = rw e (stops_in_said c)

  pub convert_stage : Stage (convert_said deck) ((malformed_deck to malformed_deck) ∷ (not_converted to not_converted) ∷ []) (Convertible deck) (λ c. deck_text c.new)
  convert_stage = record {
    numbers = record { number = λ r p q. named (refused_exactly.0 q) };
    found = record { each = convertible_said; only = λ t q. only_so t q ways };
  }
    where
      named : {r p : ℕ} → (deck_of deck ≡ refused r p) ⊎ ((r ≡ not_converted) × StopsIn deck p) → among ((malformed_deck to malformed_deck) ∷ (not_converted to not_converted) ∷ []) r ≡ true
      named {r} {p} (inl d) = rw (only_number malformed_deck r ((deck_stage deck).numbers.number r p d))
      named (inr (e, c)) = rw e

      only_so : (t : List ℕ) → convert_said deck ≡ says t → Ways → (c : Convertible deck) × (t ≡ deck_text c.new)
      only_so t q (converted c) = (c, same_said (sym q ∙ convertible_said c))
      only_so t q (stopped number c) = says≢refused (sym q ∙ stops_in_said c)
      only_so t q (malformed place d) = says≢refused (sym q ∙ not_sound_said d)
