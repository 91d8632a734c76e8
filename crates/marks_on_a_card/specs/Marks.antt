-- The marks of a card, each with its place ("Marks on a card"). Assumes nothing.
use Rattle.std.specs.Prelude.{ℕ, zero, suc, ◌+◌, ◌-◌, ◌&&◌, List, [], ◌∷◌, eqb, leb, length, drop}
use Rattle.std.proofs.Math.Option.{Option, none, some}
use Rattle.card.specs.Limits.{number_digits, further_digits, word_digits}
use Rattle.card.specs.Text.{bytes, when◌then◌else◌}
use Rattle.marks_on_a_card.specs.Bytes.{is_digit, is_letter, in_word, is_blank, is_sign, not_lf, run, begins, after}
use Rattle.marks_on_a_card.specs.Digits.{value_from, number_spelt, pointed}

pub data Mark : Type 0 where
  text : List ℕ → Mark  -- a sign, a keyword or another word: its bytes
  seat process number : ℕ → Mark  -- s3, process3, 3
  decimal : ℕ → ℕ → ℕ → Mark  -- 0.25: before the point, how many digits after it, and the number they spell
  outside : Mark  -- a mark outside the rules, or with too many digits

-- a mark and the place of its first byte
pub data Placed : Type 0 where
  placed : Mark → ℕ → Placed

-- ---- what starts at a byte, with the number of its further bytes

pub data Start : Type 0 where
  blank : ℕ → Start
  mark : Mark → ℕ → Start

-- a word that is a beginning and a number, or else another
abbrev pub made : (ℕ → Mark) → Option ℕ → Mark → Mark
made f none other = other
made f (some v) other = f v

abbrev pub numbered : (ℕ → Mark) → Option (List ℕ) → Mark → Mark
numbered f none other = other
numbered f (some s) other = made f (number_spelt word_digits s) other

abbrev pub word_mark : List ℕ → Mark
word_mark w = numbered seat (after (bytes "s") w) (numbered process (after (bytes "process") w) (text w))

abbrev pub word : ℕ → List ℕ → Start
word b s = let t = run in_word s in mark (word_mark (b ∷ t)) (length t)

abbrev pub decimal_mark : ℕ → ℕ → List ℕ → Start
decimal_mark v more f = when leb (length f) further_digits then mark (decimal v (length f) (value_from 0 f)) (more + 1 + length f) else mark outside 0

abbrev pub numeral_mark : Option ℕ → ℕ → List ℕ → Start
numeral_mark none more z = mark outside 0
numeral_mark (some v) more z = when pointed z then decimal_mark v more (run is_digit (drop 1 z)) else mark (number v) more

abbrev pub numeral : ℕ → List ℕ → Start
numeral b s = let t = run is_digit s in numeral_mark (number_spelt number_digits (b ∷ t)) (length t) (drop (length t) s)

-- the second byte of `..`, `->`, `!=`
abbrev pub second : ℕ → Option ℕ
second a = when eqb a 46 then some 46 else (when eqb a 45 then some 62 else (when eqb a 33 then some 61 else none))

abbrev pub sign1 : ℕ → Start
sign1 a = when is_sign a then mark (text (a ∷ [])) 0 else mark outside 0

abbrev pub sign2 : ℕ → Option ℕ → List ℕ → Start
sign2 a none s = sign1 a
sign2 a (some b) s = when begins (eqb b) s then mark (text (a ∷ b ∷ [])) 1 else sign1 a

abbrev pub sign : ℕ → List ℕ → Start
sign a s = sign2 a (second a) s

abbrev pub comment : List ℕ → Start
comment s = blank (length (run not_lf s))

abbrev pub start_at : ℕ → List ℕ → Start
start_at b s =
    when is_blank b then blank 0
    else (when eqb b 47 && begins (eqb 47) s then comment s
    else (when is_letter b then word b s
    else (when is_digit b then numeral b s
    else sign b s)))

-- how many bytes a blank or a comment takes; none where a mark starts
abbrev pub gap_of : Start → ℕ
gap_of (blank more) = suc more
gap_of (mark m more) = 0

-- ---- the marks of a text that ends at place e: the place of a byte is e less the bytes from it on; `skip` bytes belong to what stands before

abbrev pub emit : ℕ → Start → (ℕ → List Placed) → List Placed
emit p (blank more) k = k more
emit p (mark m more) k = placed m p ∷ k more

abbrev pub marks : ℕ → ℕ → List ℕ → List Placed
marks e skip [] = []
marks e zero (b ∷ s) = emit (e - length (b ∷ s)) (start_at b s) (λ more. marks e more s)
marks e (suc skip) (b ∷ s) = marks e skip s

abbrev pub marks_of : List ℕ → List Placed
marks_of s = marks (length s) 0 s

-- the place at which these marks begin: that of the first, or the end of the text
abbrev pub place_of : ℕ → List Placed → ℕ
place_of e [] = e
place_of e (placed m p ∷ ms) = p

-- the marks without their places
abbrev pub bare : List Placed → List Mark
bare [] = []
bare (placed m p ∷ ms) = m ∷ bare ms
