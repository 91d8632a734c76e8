-- What is said, as a verdict; and an entry by the bytes where it stands. Assumes nothing.
use Prim.Native.Nat.{ℕ, ◌+◌}
use mathlib.Core.Path.{◌≡◌, refl, sym, ap, ◌∙◌}
use mathlib.Core.List.{List}
use native.Mathlib.Omega.{arith}
use native.Mathlib.Nat.{add-zero}
use lib.ListN.{drop}
use lib.Seq.{get_or-drop}
use Rattle.entry.specs.Said.{Said, says, refused}
use Rattle.std.specs.Prelude.{Ok, Err}
use Rattle.card.specs.Verdict.{Verdict, Taken, Refused}
use Rattle.card.proofs.Verdicts.{refused_number, refused_place, ok≢refused}
use Rattle.deck.specs.Contents.{word_at, byte, Row, row_of}
use Rattle.deck_entries.specs.Verdicts.{verdict_of}

pub verdict_refused : (x : Said (Unit {0})) {r p : ℕ} → verdict_of x ≡ Refused r p → x ≡ refused r p
verdict_refused (says u) e = ok≢refused e
verdict_refused (refused s q) e = rw (refused_number e, refused_place e)

pub verdict_fine : (x : Said (Unit {0})) → verdict_of x ≡ Taken → x ≡ says tt
verdict_fine (says u) e = refl
verdict_fine (refused s q) e = ok≢refused (sym e)

pub as_told : {x y : Said (Unit {0})} {v : Verdict} → x ≡ y → v ≡ verdict_of y → v ≡ verdict_of x
as_told e t = t ∙ sym (ap verdict_of e)

-- ---- an entry where it stands

byte_drop : (deck : List ℕ) (at i : ℕ) → byte (drop at deck) i ≡ byte deck (at + i)
byte_drop deck at i = get_or-drop at deck i 0

abbrev pub row_with : (n o s f z : ℕ) → Row
row_with n o s f z = record { number = n; offset = o; size = s; flag = f; zero_byte = z }

row_is : (deck : List ℕ) (at : ℕ)
    → row_of (drop at deck) ≡ row_with (word_at deck at) (word_at deck (at + 2)) (word_at deck (at + 4)) (byte deck (at + 6)) (byte deck (at + 7))
row_is deck at =
    let e0 : byte (drop at deck) 0 ≡ byte deck at = byte_drop deck at 0 ∙ ap (byte deck) (add-zero at) in
    let e3 : byte (drop at deck) 3 ≡ byte deck (at + 2 + 1) = byte_drop deck at 3 ∙ ap (byte deck) (omega arith) in
    let e5 : byte (drop at deck) 5 ≡ byte deck (at + 4 + 1) = byte_drop deck at 5 ∙ ap (byte deck) (omega arith) in
    rw (e0, byte_drop deck at 1, byte_drop deck at 2, e3, byte_drop deck at 4, e5, byte_drop deck at 6, byte_drop deck at 7)

module _ (deck : List ℕ) (at least last : ℕ) {n o s f z : ℕ} (en : n ≡ word_at deck at) (eo : o ≡ word_at deck (at + 2)) (es : s ≡ word_at deck (at + 4))
    (ef : f ≡ byte deck (at + 6)) (ez : z ≡ byte deck (at + 7)) where
  pub row_there : row_of (drop at deck) ≡ row_with n o s f z
  row_there = row_is deck at ∙ rw (en, eo, es, ef, ez)
