-- A text that was put into an array of its own: the place behind it tells its length, and where the array has places for it, it begins with
-- the text. Assumes nothing.
use Prim.Native.Nat.{ℕ, ◌≤◌}
use mathlib.Core.Path.{◌≡◌, refl, sym, ap, ◌∙◌}
use mathlib.Core.List.{List, [], ◌∷◌, ◌++◌}
use native.Mathlib.Omega.{arith}
use lib.ListN.{length, take, drop}
use Rattle.room.specs.Answer.{Done}
use Rattle.room.specs.Room.{cap, Put}
use Rattle.entry.specs.Said.{says as text}
use Rattle.room.specs.Answer.{Text, Entered}
use Rattle.room.proofs.Laws.{clip_start, put_length}
use Rattle.room.proofs.Entries.{entered_whole}

take_front : (xs ys : List ℕ) → take (length xs) (xs ++ ys) ≡ xs
take_front [] ys = refl
take_front (x ∷ xs) ys = ap (λ (t : List ℕ). x ∷ t) (take_front xs ys)

module _ {was draft t : List ℕ} {m : ℕ} (b : length t ≤ cap) (p : Put was draft 0 t m) where
  pub drafted_long : m ≡ length t
  drafted_long = omega (arith, p.next)

  -- the array has places for the text
  module _ (h : m ≤ length was) where
    pub drafted_fits : m ≤ length draft
    drafted_fits = omega (arith, put_length p)

    pub drafted_text : take m draft ≡ t
    drafted_text =
        ap (λ (k : ℕ). take k draft) drafted_long
        ∙ ap (take (length t)) (p.wrote ∙ clip_start was t (omega (arith, drafted_long)))
        ∙ take_front t (drop (length t) was)

    pub drafted_count : m ≡ length (take m draft)
    drafted_count = drafted_long ∙ sym (ap length drafted_text)

    pub entered_copied : {room is : List ℕ} {said : Text} {r : ℕ} → said ≡ text t → m ≤ length room → Put room is 0 (take m draft) r → Entered room is said (Done r)
    entered_copied says l q = entered_whole says (omega (arith, drafted_long)) (rw drafted_text at q)
