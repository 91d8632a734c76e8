-- Classes of bytes, runs of them, and what a text begins with ("Marks on a card"). Assumes nothing.
use Rattle.std.specs.Prelude.{ℕ, ◌+◌, Bool, true, false, not, ◌&&◌, ◌||◌, List, [], ◌∷◌, eqb, leb, length, drop}
use Rattle.std.proofs.Math.Option.{Option, none, some}
use Rattle.card.specs.Text.{bytes, when◌then◌else◌}

abbrev pub within : ℕ → ℕ → ℕ → Bool
within a z b = leb a b && leb b z

abbrev pub is_digit : ℕ → Bool
is_digit = within 48 57

abbrev pub is_letter : ℕ → Bool
is_letter b = within 65 90 b || within 97 122 b

abbrev pub in_word : ℕ → Bool
in_word b = is_digit b || is_letter b || eqb b 95

abbrev pub one_of : List ℕ → ℕ → Bool
one_of [] b = false
one_of (a ∷ s) b = eqb b a || one_of s b

abbrev pub is_blank : ℕ → Bool
is_blank = one_of (bytes " \t\r\n")

abbrev pub is_sign : ℕ → Bool
is_sign = one_of (bytes "[]:;=!&|()+',/")

-- the signs of one byte that begin no other mark
abbrev pub is_alone : ℕ → Bool
is_alone b = is_sign b && not (eqb b 33 || eqb b 47)

-- a number goes on, with a digit or a point
abbrev pub in_number : ℕ → Bool
in_number b = is_digit b || eqb b 46

abbrev pub not_lf : ℕ → Bool
not_lf b = not (eqb b 10)

-- the bytes at the front that pass a test
abbrev pub run : (ℕ → Bool) → List ℕ → List ℕ
run p [] = []
run p (b ∷ s) =
    let t = b ∷ run p s in
    when p b then t else []

-- does the text begin with a byte that passes the test?
abbrev pub begins : (ℕ → Bool) → List ℕ → Bool
begins p [] = false
begins p (b ∷ s) = p b

abbrev pub every : (ℕ → Bool) → List ℕ → Bool
every p [] = true
every p (b ∷ s) = p b && every p s

-- what follows a beginning
abbrev pub after : List ℕ → List ℕ → Option (List ℕ)
after [] s = some s
after (a ∷ t) [] = none
after (a ∷ t) (b ∷ s) = when eqb a b then after t s else none

-- the place behind the bytes from i on that pass a test
abbrev pub run_end : (ℕ → Bool) → List ℕ → ℕ → ℕ
run_end p s i = i + length (run p (drop i s))

-- does a text begin with these bytes?
abbrev pub is_some : Option (List ℕ) → Bool
is_some none = false
is_some (some r) = true

abbrev pub begun : List ℕ → List ℕ → Bool
begun t s = is_some (after t s)
