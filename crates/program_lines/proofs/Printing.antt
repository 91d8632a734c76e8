-- What is printed for an entry's answer: a text that the entry has stored already, or a refusal's line in the room that it left as it was.
-- Assumes nothing.
use Prim.Native.Nat.{ℕ, ◌≤◌, ◌<◌, ◌^◌}
use mathlib.Core.Path.{◌≡◌, sym, ap, ap₂, ◌∙◌}
use mathlib.Core.List.{List, [], ◌++◌}
use native.Mathlib.Omega.{arith}
use lib.ListN.{length, take, drop, length-append}
use lib.Seq.{length-take-le}
use Rattle.card.proofs.Verdicts.{refused_number, refused_place, ok≢refused}
use Rattle.room.specs.Answer.{Answer, Done, Refused}
use Rattle.room.specs.Digits.{decimal}
use Rattle.room.specs.Room.{Put}
use Rattle.entry.specs.Said.{says as text, refused}
use Rattle.room.specs.Answer.{Text, Entered}
use Rattle.room.proofs.Laws.{clip_start}
use Rattle.room.proofs.Decimal.{decimal_length}
use Rattle.room.proofs.Entries.{entered_refusal, entered_fits, entered_kept, entered_text}
use Rattle.phrases.specs.Phrases.{◌▸◌, num}
use Rattle.panel_wording.specs.Lines.{printed, refusal_most, Printed}

-- a text, if that is what is said, has at most so many bytes
abbrev pub Short : ℕ → Text → Type 0
Short most (text t) = length t ≤ most
Short most (refused number place) = Unit {0}

pub printed_done : {was is : List ℕ} {said : Text} {a : Answer} {long : ℕ} → Entered was is said a → a ≡ Done long → Printed was is (printed said) long
printed_done {was} {is} {said} {long = long} e d = of (entered_text (rw d at e))
  where
    of : (t : List ℕ) × (said ≡ text t) × (long ≡ length t) × (long ≤ length was) × (is ≡ t ++ drop long was) → Printed was is (printed said) long
    of (t, says, k, fits, stands) =
        rw says (record { fits = omega arith; length_is = k; stands = stands ∙ ap (λ (n : ℕ). t ++ drop n was) k })

-- a text that is short enough is not refused
is_refused : {most number place : ℕ} {was is : List ℕ} (said : Text) → Short most said → most ≤ length was → Entered was is said (Refused number place) → said ≡ refused number place
is_refused (text t) h l e = ok≢refused (sym (entered_fits e (omega arith)).0)
is_refused {number = number} {place = place} (refused k p) h l e =
    let z : ◌≡◌ {A = Answer} (Refused number place) (Refused k p) = (entered_refusal e).0 in
    sym (ap₂ (λ n q. refused n q) (refused_number z) (refused_place z))

abbrev pub refusal : ℕ → ℕ → List ℕ
refusal number place = printed (refused number place)

refusal_length : (number place : ℕ) → number < 256 → place < 2 ^ 64 → length (refusal number place) ≤ refusal_most
refusal_length number place h l =
    omega (
      arith,
      length-append (decimal number) (" " ▸ num place ("\n" ▸ [])),
      length-append (decimal place) ("\n" ▸ []),
      decimal_length 2 number (omega arith),
      decimal_length 19 place (omega arith),
    )

-- the place behind a refusal's line
pub refusal_short : {number place r : ℕ} {was is : List ℕ} → number < 256 → place < 2 ^ 64 → Put was is 0 (refusal number place) r → r ≤ refusal_most
refusal_short {number} {place} h l p = omega (arith, p.next, refusal_length number place h l)

pub printed_refused : {most number place r : ℕ} {was mid is : List ℕ} {said : Text} {a : Answer} → Short most said → most ≤ length was → refusal_most ≤ most
    → Entered was mid said a → a ≡ Refused number place → Put mid is 0 (refusal number place) r → r ≤ refusal_most → Printed was is (printed said) r
printed_refused {most} {number} {place} {r} {was} {mid} {is} {said} h l m entered turned p short =
    let e : Entered was mid said (Refused number place) = rw turned at entered in
    let k : said ≡ refused number place = is_refused said h l e in
    let q : Put was is 0 (refusal number place) r = rw (entered_kept e) at p in
    let long : length (refusal number place) ≤ refusal_most = omega (arith, q.next) in
    rw k (record { fits = omega arith; length_is = omega (arith, q.next, q.small); stands = q.wrote ∙ clip_start was (refusal number place) (omega arith) })

-- what is printed lies within the room
module _ {was is t : List ℕ} {long : ℕ} (p : Printed was is t long) where
  pub printed_within : long ≤ length is
  printed_within = omega (arith, p.length_is, ap length p.stands, length-append t (drop (length t) was))

  pub printed_count : long ≡ length (take long is)
  printed_count = sym (length-take-le long is printed_within)
