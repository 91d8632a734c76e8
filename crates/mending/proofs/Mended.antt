-- What mending makes of a deck is a sound deck of accepted cards without gaps, no longer than the deck was: an entry that is kept is right by the number and the end of the last one kept,
-- so that numbers rise and bodies do not overlap. Assumes nothing.
use Prim.Native.Nat.{ℕ, zero, suc, ◌+◌, ◌≤◌}
use mathlib.Core.Path.{◌≡◌, refl, sym, ap, ◌∙◌}
use mathlib.Core.Bool.{Bool, true, false, ◌&&◌, true≢false}
use mathlib.Core.List.{List, [], ◌∷◌, map}
use native.Mathlib.Omega.{arith}
use lib.Dec.{eqb, leb}
use lib.ListN.{length, drop, length-append}
use borrow.Author.Tests.{leb-true, eqb-true}
use Rattle.card.specs.Card.{Card}
use Rattle.card.specs.Text.{when◌then◌else◌}
use Rattle.card.specs.Valid.{Every}
use Rattle.deck.specs.Contents.{Row, end_of, row_of, rows_of, count_of, entries_from, behind}
use Rattle.deck.specs.Deck.{Entry, body_of, entry_of, bodies, Rising, Writable, Bytes}
use Rattle.deck.specs.Sound.{Head}
use Rattle.deck.proofs.Judged.{RowRight}
use Rattle.deck.proofs.Kept.{byte_at, bytes_drop, body_long}
use Rattle.reading.specs.Reading.{Outcome, taken, refused, read_of}
use Rattle.mending.specs.Mending.{flags_right, number_rises, range_lies, card_right, is_taken, Fate, kept, dropped, by_contents, by_card, fate_of, least_behind, last_behind, fates_from, kept_rows, kept_in}

pub and_both : (a b : Bool) → (a && b) ≡ true → (a ≡ true) × (b ≡ true)
and_both true b e = (refl, e)
and_both false b e = absurd (true≢false (sym e))

abbrev pub is_kept : Fate → Bool
is_kept kept = true
is_kept (dropped rule) = false

-- kept behind a rule
kept_behind : (b : Bool) (x : Fate) (rule : ℕ) → (when b then x else dropped rule) ≡ kept → (b ≡ true) × (x ≡ kept)
kept_behind true x rule e = (refl, e)
kept_behind false x rule e = absurd (true≢false (sym (ap is_kept e)))

taken_of : (o : Outcome) → is_taken o ≡ true → (c : Card) × (o ≡ taken c)
taken_of (taken c) e = (c, refl)
taken_of (refused number place) e = absurd (true≢false (sym e))

-- a card that is live is accepted
abbrev pub LiveTaken : Entry → Type 0
LiveTaken e = e.live ≡ true → (c : Card) × (read_of e.body ≡ taken c)

module _ (deck : List ℕ) where
  -- behind the rules that the contents show
  pub right_behind : (least last : ℕ) (r : Row) (f : Fate) → by_contents (length deck) least last r f ≡ kept → RowRight (length deck) least last r × (f ≡ kept)
  right_behind least last r f e0 =
      let (one, e1) = kept_behind (flags_right r) _ 1 e0 in
      let (two, e2) = kept_behind (number_rises least r) _ 2 e1 in
      let (three, e3) = kept_behind (range_lies (length deck) last r) _ 3 e2 in
      let (flag, zero_byte) = and_both (leb r.flag 1) (eqb r.zero_byte 0) one in
      let (begins, ends) = and_both (leb last r.offset) (leb (end_of r) (length deck)) three in (
        record {
          number = leb-true least r.number two;
          begins = leb-true last r.offset begins;
          ends = leb-true (end_of r) (length deck) ends;
          flag = leb-true r.flag 1 flag;
          zero_byte = eqb-true r.zero_byte 0 zero_byte;
        },
        e3,
      )

  pub kept_right : (least last : ℕ) (r : Row) → fate_of deck least last r ≡ kept → RowRight (length deck) least last r × (card_right deck r ≡ true)
  kept_right least last r e =
      let (right, card) = right_behind least last r (by_card deck r) e in
      (right, (kept_behind (card_right deck r) kept 4 card).0)

  -- a row that is kept can be written as it stands, but for its offset
  pub record KeptRow (r : Row) : Type 0 where
    pub ends : end_of r ≤ length deck
    pub flag : r.flag ≤ 1
    pub zero_byte : r.zero_byte ≡ 0

  pub rows_right : (least last : ℕ) (rs : List Row) → Every KeptRow (kept_rows (fates_from deck least last rs) rs)
  rows_right least last [] = tt
  rows_right least last (r ∷ rs) = go (λ least' last'. rows_right least' last' rs) (fate_of deck least last r) refl
    where
      go : ((least' last' : ℕ) → Every KeptRow (kept_rows (fates_from deck least' last' rs) rs)) → (f : Fate) → fate_of deck least last r ≡ f
          → Every KeptRow (kept_rows (f ∷ fates_from deck (least_behind f r least) (last_behind f r last) rs) (r ∷ rs))
      go more kept e =
          let q = (kept_right least last r e).0 in
          (record { ends = q.ends; flag = q.flag; zero_byte = q.zero_byte }, more (suc r.number) (end_of r))
      go more (dropped rule) e = more least last

  pub live_taken : (r : Row) → card_right deck r ≡ true → LiveTaken (entry_of deck r)
  live_taken r h live = taken_of (read_of (body_of deck r)) (ap (λ (b : Bool). when b then is_taken (read_of (body_of deck r)) else true) (sym live) ∙ h)

  -- the entries kept among so many
  abbrev kept_from : (least last : ℕ) → List Row → List Entry
  kept_from least last rs = map (entry_of deck) (kept_rows (fates_from deck least last rs) rs)

  -- all that is known of them: their numbers rise, their bodies follow each other in the deck, and a live card is accepted
  record Fine (least last : ℕ) (es : List Entry) : Type 0 where
    rising : Rising least es
    short : last + length (bodies es) ≤ length deck
    accepted : Every LiveTaken es

  -- the entries kept of an entry with its fate before others
  abbrev kept_with : (least last c : ℕ) (t : List ℕ) → Fate → List Entry
  kept_with least last c t f =
      map (entry_of deck)
      (kept_rows (f ∷ fates_from deck (least_behind f (row_of t) least) (last_behind f (row_of t) last) (rows_of c (drop 8 t))) (row_of t ∷ rows_of c (drop 8 t)))

  fine_more : (least last c : ℕ) (t : List ℕ) → Bytes t
      → ((least' last' : ℕ) → last' ≤ length deck → Fine least' last' (kept_from least' last' (rows_of c (drop 8 t))))
      → last ≤ length deck → (f : Fate) → fate_of deck least last (row_of t) ≡ f → Fine least last (kept_with least last c t f)
  fine_more least last c t b more l kept e =
      let (q, card) = kept_right least last (row_of t) e in
      let rest = more (suc (row_of t).number) (end_of (row_of t)) q.ends in
      let es = kept_from (suc (row_of t).number) (end_of (row_of t)) (rows_of c (drop 8 t)) in
      record {
        rising = (q.number, omega (arith, byte_at t 0 b, byte_at t 1 b), rest.rising);
        short = omega (arith, rest.short, q.begins, body_long deck (row_of t) q.ends, length-append (body_of deck (row_of t)) (bodies es));
        accepted = (live_taken (row_of t) card, rest.accepted);
      }
  fine_more least last c t b more l (dropped rule) e = more least last l

  fine_from : (c least last : ℕ) (t : List ℕ) → last ≤ length deck → Bytes t → Fine least last (kept_from least last (rows_of c t))
  fine_from zero least last t l b = record { rising = tt; short = omega arith; accepted = tt }
  fine_from (suc c) least last t l b =
      fine_more least last c t b (λ least' last' l'. fine_from c least' last' (drop 8 t) l' (bytes_drop 8 t b)) l (fate_of deck least last (row_of t)) refl

  few_more : (least last c : ℕ) (t : List ℕ) → ((least' last' : ℕ) → length (kept_from least' last' (rows_of c (drop 8 t))) ≤ c)
      → (f : Fate) → length (kept_with least last c t f) ≤ suc c
  few_more least last c t more kept = omega (arith, more (suc (row_of t).number) (end_of (row_of t)))
  few_more least last c t more (dropped rule) = omega (arith, more least last)

  few_kept : (c least last : ℕ) (t : List ℕ) → length (kept_from least last (rows_of c t)) ≤ c
  few_kept zero least last t = omega arith
  few_kept (suc c) least last t = few_more least last c t (λ least' last'. few_kept c least' last' (drop 8 t)) (fate_of deck least last (row_of t))

  pub few : length (kept_in deck) ≤ count_of deck
  few = few_kept (count_of deck) 0 (behind (count_of deck)) (entries_from deck)

  module _ (h : Head deck) (b : Bytes deck) where
    fine : Fine 0 (behind (count_of deck)) (kept_in deck)
    fine = fine_from (count_of deck) 0 (behind (count_of deck)) (entries_from deck) h.whole (bytes_drop 1 deck b)

    pub no_longer : behind (length (kept_in deck)) + length (bodies (kept_in deck)) ≤ length deck
    no_longer = omega (arith, few, fine.short)

    pub kept_accepted : Every LiveTaken (kept_in deck)
    kept_accepted = fine.accepted

    pub kept_writable : 1 ≤ length (kept_in deck) → Writable (kept_in deck)
    kept_writable some = record { some = some; few = omega (arith, few, h.few); rising = fine.rising; short = omega (arith, no_longer, h.short) }
