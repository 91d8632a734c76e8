-- Document 02's new unit (2026-06) and the rule of a weight, which is an argument of reading: what a card may have as a weight is said by it, and
-- all else that is said of reading holds by every rule, of the same code (2026-11 reads a box from before by the old rule, and all else by the new one).
-- What 1/11, 1/13 and six digits are read as is among the edges. The words on the right of an `↔` are in `grammar/specs/Verdicts.antt`. Assumes nothing.
use Rattle.std.specs.Prelude.{ℕ, ◌*◌, ◌≤◌, ◌≡◌, true, false, ◌↔◌, List, map, length, Ok}
use Rattle.card.specs.Limits.{card_bytes, unit}
use Rattle.card.specs.Refusals.{too_long, outside_rules, out_of_shape, past_limit, above_top, not_due, wrong_weight, decimal_weight}
use Rattle.card.specs.Card.{Card}
use Rattle.card.specs.Verdict.{Refused}
use Rattle.card.specs.Weight.{whole, decimal, ratio, Rule, card_rule, allowed}
use Rattle.card.specs.Valid.{ValidCard}
use Rattle.card.specs.Lent.{Lent, head_of, lent_of, none_lent}
use Rattle.marks_on_a_card.specs.Marks.{marks_of}
use Rattle.reading.specs.Reading.{taken, refused, read_under, Refuses}
use Rattle.grammar.specs.Verdicts.{TooLong, OutsideRules, OutOfShape, PastLimit, Broken, Accepted}
use Rattle.outline.specs.ReadingOf.{Outline, outline_of, ReadsUnder}
use Rattle.texts.specs.Writing.{write_of}
use Rattle.edges.specs.Edges.{UnitEdges}
use Rattle.card_promises.specs.CardMarks.{mark_of, CardMarks}

pub record Elevenths : Type 0 where
  -- the unit is eleven times document 01's
  pub eleven_times : unit ≡ 25200 * 11
  pub edges : UnitEdges
  -- the rule: whether a decimal may be a weight. Every entry reads by the one that takes none (2026-11)
  pub wholes : (decimals : Rule) (v : ℕ) → allowed decimals (whole v) ≡ true
  pub ratios : (decimals : Rule) (a b : ℕ) → allowed decimals (ratio a b) ≡ true
  pub by_rule : (decimals : Rule) (v n f : ℕ) → allowed decimals (decimal v n f) ≡ decimals
  pub today : card_rule ≡ false
  -- what is read without decimals is read with them, and is the same card
  pub stricter : (s : List ℕ) (c : Card) → read_under false s ≡ taken c → read_under true s ≡ taken c

-- by every rule
pub record ByRule (decimals : Rule) : Type 0 where
  -- which bytes are a card, and which card they are; it is valid, and its marks are the card's
  pub accepted : (s : List ℕ) (c : Card) → (read_under decimals s ≡ taken c) ↔ Accepted decimals s c
  pub valid : (s : List ℕ) (c : Card) → read_under decimals s ≡ taken c → ValidCard c
  pub words : (s : List ℕ) (c : Card) → read_under decimals s ≡ taken c → CardMarks c (map mark_of (marks_of s))
  -- 1 to 4 do not hang on the rule
  pub row_1 : (s : List ℕ) (p : ℕ) → (read_under decimals s ≡ refused too_long p) ↔ TooLong s p
  pub row_2 : (s : List ℕ) (p : ℕ) → (read_under decimals s ≡ refused outside_rules p) ↔ OutsideRules s p
  pub row_3 : (s : List ℕ) (p : ℕ) → (read_under decimals s ≡ refused out_of_shape p) ↔ OutOfShape s p
  pub row_4 : (s : List ℕ) (p : ℕ) → (read_under decimals s ≡ refused past_limit p) ↔ PastLimit s p
  -- 5, 6, 7 and 17 by place: 17 is a decimal that may not be a weight, in 7's stead
  pub row_5 : (s : List ℕ) (p : ℕ) → (read_under decimals s ≡ refused above_top p) ↔ Broken decimals above_top s p
  pub row_6 : (s : List ℕ) (p : ℕ) → (read_under decimals s ≡ refused not_due p) ↔ Broken decimals not_due s p
  pub row_7 : (s : List ℕ) (p : ℕ) → (read_under decimals s ≡ refused wrong_weight p) ↔ Broken decimals wrong_weight s p
  pub row_17 : (s : List ℕ) (p : ℕ) → (read_under decimals s ≡ refused decimal_weight p) ↔ Broken decimals decimal_weight s p
  pub no_other : (s : List ℕ) {r p : ℕ} → read_under decimals s ≡ refused r p → (too_long ≤ r) × Refuses decimals r
  -- a written card has no decimals: it reads back, by whatever rule it was read
  pub again : (later : Rule) (s : List ℕ) (c : Card) → read_under decimals s ≡ taken c → length (write_of c) ≤ card_bytes → read_under later (write_of c) ≡ taken c
  -- the code that reads takes the rule as a value: two results that keep its contract are the same, with the card in the lent arrays or zeros there
  pub read_under_holds : (card : List ℕ) (x y : Outline) (m n : Lent) → ReadsUnder decimals card x m → ReadsUnder decimals card y n → (x ≡ y) × (m ≡ n)
  pub outline : (card : List ℕ) (x : Outline) (m : Lent) → ReadsUnder decimals card x m → x ≡ outline_of (read_under decimals card)
  pub holds : (card : List ℕ) (x : Outline) (m : Lent) → ReadsUnder decimals card x m
      → ((c : Card) → read_under decimals card ≡ taken c → (x ≡ Ok (head_of c)) × (m ≡ lent_of c))
      × ((number place : ℕ) → read_under decimals card ≡ refused number place → (x ≡ Refused number place) × (m ≡ none_lent))
