-- A text of which the length is known, refused or stored in as long a part of the room. Assumes nothing.
use Prim.Native.Nat.{ℕ, ◌≤◌, ◌<◌}
use mathlib.Core.Path.{◌≡◌, ap, ◌∙◌}
use mathlib.Core.List.{List, [], ◌++◌, append-nil}
use native.Mathlib.Omega.{arith}
use borrow.Author.Tests.{le-leb, lt-leb}
use lib.ListN.{length, take, drop, drop_of_length-le}
use lib.Seq.{length-take-le}
use Rattle.card.specs.Refusals.{room_too_small}
use Rattle.entry.specs.Said.{says as text}
use Rattle.room.specs.Room.{Put}
use Rattle.room.specs.Answer.{Entered}
use Rattle.room.specs.Answer.{Done, Refused as Turned}
use Rattle.room.proofs.Laws.{clip_start}

module _ {was t : List ℕ} {need : ℕ} (same : need ≡ length t) where
  pub entered_small : length was < need → Entered was was (text t) (Turned room_too_small need)
  entered_small h =
      let long : length was < length t = omega arith in
      record { answers = rw (lt-leb (length t) (length was) long, same); leaves = rw (lt-leb (length t) (length was) long) }

  pub entered_part : {part r : ℕ} {is : List ℕ} → part ≡ need → need ≤ length was → Put (take part was) is 0 t r → Entered was (is ++ drop part was) (text t) (Done r)
  entered_part {part} {r} {is} e h p =
      let fits : length t ≤ length was = omega arith in
      let long : part ≡ length t = e ∙ same in
      let parts : length (take part was) ≡ length t = length-take-le part was (omega arith) ∙ long in
      let none : drop (length t) (take part was) ≡ [] = nothing_left (take part was) (length t) (omega arith) in
      let wrote : is ≡ t = p.wrote ∙ clip_start (take part was) t (omega arith) ∙ ap (λ (l : List ℕ). t ++ l) none ∙ append-nil t in
      record {
        answers = rw (le-leb (length t) (length was) fits) (ap Done (omega (arith, p.next, p.small)));
        leaves = rw (le-leb (length t) (length was) fits, wrote, long);
      }
    where
      nothing_left : (l : List ℕ) (n : ℕ) → length l ≤ n → drop n l ≡ []
      nothing_left l n k = drop_of_length-le l k
