-- What an entry promises. One that tells the length of its text first and then stores it where it fits keeps the promise; and from it follows
-- what document 01 says of answers and rooms ("Refusal numbers"). Assumes nothing.
use Prim.Native.Nat.{ℕ, ◌≤◌, ◌<◌}
use mathlib.Core.Path.{◌≡◌, refl, sym, ap, ◌∙◌}
use mathlib.Core.List.{List, [], ◌++◌, append-nil}
use native.Mathlib.Decide.{dec_le}
use native.Mathlib.Omega.{arith}
use borrow.Author.Tests.{le-leb, lt-leb}
use lib.ListN.{length, take, drop, drop_of_length-le}
use lib.Seq.{length-take-le}
use Rattle.card.specs.Refusals.{room_too_small}
use Rattle.room.specs.Answer.{Answer}
use Rattle.room.specs.Answer.{Done, Refused}
use Rattle.room.specs.Room.{cap, Put}
use Rattle.entry.specs.Contract.{Faithful}
use Rattle.entry.specs.Said.{says as text, refused}
use Rattle.room.specs.Answer.{Text, told, answer_number, answer_value, Entered}
use Rattle.room.proofs.Laws.{clip_start}

-- ---- how an entry keeps the promise

-- it refuses before it puts anything
pub entered_refused : {was : List ℕ} {said : Text} {number place : ℕ} → said ≡ refused number place
    → Entered was was said (Refused number place)
entered_refused e = rw e (record { answers = refl; leaves = refl })

-- a text in a room: where it fits, and where not
put_fits : {was is t : List ℕ} {r : ℕ} → length t ≤ length was → Put was is 0 t r → Entered was is (text t) (Done r)
put_fits {was} {is} {t} h p =
    record {
      answers = rw (le-leb (length t) (length was) h) (ap Done (omega (arith, p.next, p.small)));
      leaves = rw (le-leb (length t) (length was) h) (p.wrote ∙ clip_start was t h);
    }

-- a text that is known to fit is put at once
pub entered_whole : {was is t : List ℕ} {said : Text} {r : ℕ} → said ≡ text t → length t ≤ length was → Put was is 0 t r → Entered was is said (Done r)
entered_whole says h p = rw says (put_fits h p)

put_longer : (was t : List ℕ) → length was < length t → Entered was was (text t) (Refused room_too_small (length t))
put_longer was t h =
    record {
      answers = rw (lt-leb (length t) (length was) h);
      leaves = rw (lt-leb (length t) (length was) h);
    }

-- by the length that was told before: it is above the room's, or the text is stored into just so many bytes
module _ {t : List ℕ} {m : ℕ} (long : m ≡ length t) where
  pub entered_short : {room : List ℕ} {said : Text} → said ≡ text t → length room < m → Entered room room said (Refused room_too_small m)
  entered_short {room} says l = rw (says, long) (put_longer room t (omega arith))

  pub entered_exact : {room is : List ℕ} {said : Text} {r : ℕ} → said ≡ text t → length room < cap → m ≤ length room → Put (take m room) is 0 t r
      → Entered room (is ++ drop m room) said (Done r)
  entered_exact {room} {is} says small h p =
      let there : length (take m room) ≡ m = length-take-le m room h in
      let full : length (take m room) ≤ length t = omega arith in
      let none : drop (length t) (take m room) ≡ [] = drop_of_length-le (take m room) full in
      let whole : is ≡ t = p.wrote ∙ clip_start (take m room) t (omega arith) ∙ rw (none, append-nil) in
      entered_whole says (omega arith)
      (record { small = small; wrote = rw (whole, long) (sym (clip_start room t (omega arith))); next = p.next })

-- ---- what the promise says

module _ {was is : List ℕ} {a : Answer} where
  pub entered_refusal : {number place : ℕ} → Entered was is (refused number place) a → (a ≡ Refused number place) × (is ≡ was)
  entered_refusal p = (p.answers, p.leaves)

  pub entered_fits : {t : List ℕ} → Entered was is (text t) a → length t ≤ length was
      → (a ≡ Done (length t)) × (is ≡ t ++ drop (length t) was)
  entered_fits {t} p h = (p.answers ∙ rw (le-leb (length t) (length was) h), p.leaves ∙ rw (le-leb (length t) (length was) h))

  pub entered_longer : {t : List ℕ} → Entered was is (text t) a → length was < length t
      → (a ≡ Refused room_too_small (length t)) × (is ≡ was)
  entered_longer {t} p h = (p.answers ∙ rw (lt-leb (length t) (length was) h), p.leaves ∙ rw (lt-leb (length t) (length was) h))

-- no answer is both
done≢refused : {A : Type 0} {long number place : ℕ} → Done long ≡ Refused number place → A
done≢refused e = let z : ◌≡◌ {A = ℕ} 0 1 = cc in absurd (omega arith)

by_room : {C : Type 0} (t was : List ℕ) → (length t ≤ length was → C) → (length was < length t → C) → C
by_room {C} t was fits longer = go (dec_le (length t) (length was))
  where
    go : Dec (length t ≤ length was) → C
    go (yes h) = fits h
    go (no h) = longer (omega arith)

-- what is said can be read off the answer
pub told_faithful : Faithful told
told_faithful (text a) (text b) e = ap text (ap answer_value e)
told_faithful (text a) (refused r p) e = done≢refused e
told_faithful (refused r p) (text a) e = done≢refused (sym e)
told_faithful (refused r p) (refused s q) e =
    let n : r ≡ s = ap answer_number e in
    let k : p ≡ q = ap answer_value e in
    rw (n, k)

-- a refusal leaves the room as it was
pub entered_kept : {was is : List ℕ} {said : Text} {number place : ℕ} → Entered was is said (Refused number place) → is ≡ was
entered_kept {was} {said = text t} p =
    by_room t was (λ h. done≢refused (sym (entered_fits p h).0)) (λ h. (entered_longer p h).1)
entered_kept {said = refused k x} p = p.leaves

-- success: there was a text that fits, and it stands at the start of the room
pub entered_text : {was is : List ℕ} {said : Text} {long : ℕ} → Entered was is said (Done long)
    → (t : List ℕ) × (said ≡ text t) × (long ≡ length t) × (long ≤ length was) × (is ≡ t ++ drop long was)
entered_text {was} {said = text t} {long} p =
    by_room t was
    (λ h.
    let e : long ≡ length t = cc (entered_fits p h).0 in
    (t, refl, e, omega arith, (entered_fits p h).1 ∙ rw e))
    (λ h. done≢refused (entered_longer p h).0)
entered_text {said = refused k x} p = done≢refused p.answers
