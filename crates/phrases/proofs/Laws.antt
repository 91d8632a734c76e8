-- Texts put one after the other. Each law has the form that a function's code gives: a put of this, then a put of that. Assumes nothing.
use Prim.Native.Nat.{ℕ, ◌<◌, min}
use mathlib.Core.Path.{◌≡◌, refl, sym, ap, ◌∙◌}
use mathlib.Core.Bool.{Bool, true, false}
use Prim.Native.String.{String}
use mathlib.Core.List.{List, [], ◌++◌, append_assoc, append-nil}
use lib.Dec.{eqb}
use lib.ListN.{length}
use Rattle.card.specs.Text.{bytes, when◌then◌else◌ as choice}
use Rattle.card.specs.Laid.{either}
use Rattle.phrases.specs.Phrases.{◌▸◌}
use Rattle.room.specs.Room.{cap, Put}
use Rattle.room.proofs.Laws.{put_none, then}
use Rattle.phrases.specs.Puts.{Puts}

module _ {a b : List ℕ} {at m : ℕ} where
  -- a put of bytes
  pub put_first : {s : List ℕ} → Put a b at s m → Puts a b at (λ r. s ++ r) m
  put_first {s} p = record { put = rw append-nil p; before = λ r. ap (λ (l : List ℕ). l ++ r) (sym (append-nil s)) }

  -- a put, then another
  pub puts_then : {c : List ℕ} {r : ℕ} {f g : List ℕ → List ℕ} → Puts a b at f m → Puts b c m g r → Puts a c at (λ t. f (g t)) r
  puts_then {f = f} {g = g} p q =
      record {
        put = rw (p.before (g [])) (then p.put q.put);
        before = λ t. p.before (g t) ∙ rw (q.before t, p.before (g []), append_assoc);
      }

  -- the same text, said in another way
  pub puts_as : {f : List ℕ → List ℕ} (g : List ℕ → List ℕ) → ((t : List ℕ) → f t ≡ g t) → Puts a b at f m → Puts a b at g m
  puts_as g e p = record { put = rw (← e []) p.put; before = λ t. sym (e t) ∙ p.before t ∙ ap (λ (l : List ℕ). l ++ t) (e []) }

pub puts_none : {a : List ℕ} {at r : ℕ} → length a < cap → r ≡ min at cap → Puts a a at (λ t. t) r
puts_none h e = record { put = put_none h e; before = λ t. refl }

-- the text of a choice, by its number
pub either_text : {A : Type 0} (a b : A) (f : A → String) (v : ℕ) (r : List ℕ) → either (bytes (f a)) (bytes (f b)) v ++ r ≡ f (either a b v) ▸ r
either_text a b f v r = go (eqb v 0)
  where
    go : (t : Bool) → choice t (bytes (f a)) (bytes (f b)) ++ r ≡ bytes (f (choice t a b)) ++ r
    go true = refl
    go false = refl
