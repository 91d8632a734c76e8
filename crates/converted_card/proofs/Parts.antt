-- A text put at the start of the room's part from a place on is put into the room at that place. Assumes nothing.
use Prim.Native.Nat.{ℕ, ◌+◌, ◌-◌, ◌≤◌, ◌<◌}
use mathlib.Core.Path.{◌≡◌, sym, ap, ◌∙◌}
use mathlib.Core.List.{List, [], ◌++◌, append_assoc, append-nil}
use native.Mathlib.Omega.{arith}
use lib.ListN.{length, take, drop, length-drop, drop_of_length-le}
use lib.Seq.{drop-drop, take_all}
use Rattle.room.specs.Room.{clip, cap, Put}
use Rattle.room.proofs.Laws.{clip_fits, clip_start, put_as}
use Rattle.card.specs.Lent.{Lent, card_in}
use Rattle.card.specs.declared.Head.{Head}
use Rattle.std.specs.Prelude.{Ok}
use Rattle.outline.specs.ReadingOf.{Outline, ReadsUnder}
use Rattle.reading.specs.Reading.{read_under}
use Rattle.texts.specs.Writing.{write_of}
use Rattle.converting.specs.Converting.{old_rule}
use Rattle.converted_rows.specs.Notes.{written_of}
use Rattle.converted_card.proofs.Reading.{form_of}

pub put_from : (room : List ℕ) (at : ℕ) {ys t : List ℕ} {m : ℕ} → length room < cap → at + length t ≤ length room → Put (take (length room - at) (drop at room)) ys 0 t m
    → Put room (take at room ++ (ys ++ drop (length room - at) (drop at room))) at t (at + m)
put_from room at {ys} {t} small h p =
    let rest = drop at room in
    let long : length rest ≡ length room - at = length-drop at room in
    let most : length rest ≤ length room - at = omega (arith, long) in
    let whole : take (length room - at) rest ≡ rest = take_all (length room - at) rest most in
    let none : drop (length room - at) rest ≡ [] = drop_of_length-le rest most in
    let fits : length t ≤ length rest = omega (arith, long) in
    let there : ys ≡ t ++ drop (at + length t) room = p.wrote ∙ ap (λ (l : List ℕ). clip l 0 t) whole ∙ clip_start rest t fits ∙ ap (λ (l : List ℕ). t ++ l) (drop-drop (length t) at room) in
    record {
      small = small;
      wrote =
          ap (λ (l : List ℕ). take at room ++ (ys ++ l)) none
          ∙ ap (λ (l : List ℕ). take at room ++ l) (append-nil ys ∙ there)
          ∙ sym (append_assoc (take at room) t (drop (at + length t) room))
          ∙ sym (clip_fits room at t h);
      next = omega (arith, p.next, p.small);
    }

-- so a card in the arrays is put as the written form of its bytes
module _ {s : List ℕ} {r : Outline} {head : Head} {x : Lent} (k : ReadsUnder old_rule s r x) (v : r ≡ Ok head) (room : List ℕ) (at : ℕ) {ys : List ℕ} {m : ℕ} (small : length room < cap)
    (h : at + length (written_of (read_under old_rule s)) ≤ length room) (p : Put (take (length room - at) (drop at room)) ys 0 (write_of (card_in head x)) m) where
  pub form_fits : at + length (write_of (card_in head x)) ≤ length room
  form_fits = omega (arith, h, ap length (form_of k v))

  pub form_put : Put room (take at room ++ (ys ++ drop (length room - at) (drop at room))) at (written_of (read_under old_rule s)) (at + m)
  form_put = put_as (form_of k v) (put_from room at small form_fits p)

  pub next_small : at + m < cap
  next_small = omega (arith, form_fits, p.next)
