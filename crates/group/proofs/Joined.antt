-- Things joined by a sign up to a closing bracket, one by one. While the code reads on, the whole is what those so far and the others
-- behind them make; the definition's fuel, the number of marks left, is never met, since each further one takes marks and one of it.
use Prim.Native.Nat.{ℕ, zero, suc, ◌≤◌}
use Prim.Native.String.{String}
use mathlib.Core.Path.{◌≡◌, refl, sym, ap, ◌∙◌}
use mathlib.Core.Bool.{true, false}
use mathlib.Core.List.{List, [], ◌∷◌, ◌++◌, append_assoc, append-nil}
use native.Mathlib.Omega.{arith}
use borrow.Author.Tests.{eq-eqb, ne_eqb}
use lib.ListN.{length}
use Rattle.card.specs.Refusals.{out_of_shape}
use Rattle.marks_on_a_card.specs.Kinds.{kind}
use Rattle.marks.specs.Step.{step_at, marks_at}
use Rattle.marks.proofs.Next.{meet}
use Rattle.reading.specs.Reader.{Place, State, at, Result, ok, stop, Reader, bind, return, next_is, sign}
use Rattle.reading.specs.Group.{joined}
use Rattle.group.proofs.Signs.{Known}
use Rattle.group.proofs.Ahead.{fits, unfit, next_is_law, sign_next, one_less}

close_known : Known ")"
close_known = record { above = omega arith; alone = refl; same = refl }

-- ---- the others, opened

module _ {B : Type 0} (one : Reader B) (t : String) where
  abbrev behind_sign : ℕ → B → Reader (List B)
  behind_sign fuel x = λ c. bind (joined one t fuel c) (λ xs. return (x ∷ xs))

  joined_more : (fuel : ℕ) (s : State) → next_is t s.marks ≡ true → joined one t (suc fuel) s ≡ bind (sign t s) (λ _ b. bind (one b) (behind_sign fuel))
  joined_more fuel s e = rw e

  joined_end : (fuel : ℕ) (s : State) → next_is t s.marks ≡ false → joined one t fuel s ≡ bind (sign ")" s) (λ _. return [])
  joined_end zero s e = rw e
  joined_end (suc fuel) s e = rw e

-- ---- so far

module _ {A B : Type 0} (one : Reader B) (t : String) (behind : List B → Reader A) where
  -- a thing more at the end of those so far
  bind_more : (x : Result (List B)) (xs : List B) (b : B) → bind (bind x (λ more. return (b ∷ more))) (λ rest. behind (xs ++ rest)) ≡ bind x (λ rest. behind ((xs ++ (b ∷ [])) ++ rest))
  bind_more (ok more s) xs b = ap (λ u. behind u s) (sym (append_assoc xs (b ∷ []) more))
  bind_more (stop r q) xs b = refl

  -- the whole, of the part s that begins at place o, with the things xs read up to the place c; n nodes are left
  pub record Joining (whole : Result A) (o : ℕ) (s : List ℕ) (n : ℕ) (xs : List B) (c : ℕ) : Type 0 where
    pub fuel : ℕ
    pub enough : length (marks_at o s c) ≤ fuel
    pub goes : whole ≡ bind (joined one t fuel (at (marks_at o s c) n)) (λ rest. behind (xs ++ rest))

  module _ (known : Known t) (whole : Result A) (o : ℕ) (s : List ℕ) (n : ℕ) (xs : List B) (c : ℕ) (so : Joining whole o s n xs c) where
    abbrev next : ℕ
    next = (step_at s c).next.at

    -- one turn: the sign, and a thing more
    module _ (sign-here : (step_at s c).mark.kind ≡ kind t) where
      shorter : suc (length (marks_at o s next)) ≡ length (marks_at o s c)
      shorter = one_less o s (step_at s c) (marks_at o s c) (meet o s c) (λ z. omega (arith, known.above))

      turned : {C : Type 0} (fuel : ℕ) → length (marks_at o s c) ≤ fuel
          → ((less : ℕ) → length (marks_at o s next) ≤ less → joined one t fuel (at (marks_at o s c) n) ≡ bind (one (at (marks_at o s next) n)) (behind_sign one t less) → C) → C
      turned zero h k = absurd (omega (arith, shorter))
      turned (suc less) h k =
          k less (omega (arith, shorter))
          (joined_more one t less (at (marks_at o s c) n) (next_is_law o s t known (step_at s c) (marks_at o s c) (meet o s c) ∙ eq-eqb (step_at s c).mark.kind (kind t) sign-here)
          ∙ ap (λ y. bind y (λ _ b. bind (one b) (behind_sign one t less))) (sign_next o s t known (step_at s c) (marks_at o s c) n (meet o s c) ∙ fits tt o s (step_at s c) (marks_at o s c) n (kind t) sign-here))

      pub one_stops : (m : ℕ) (q : Place) → one (at (marks_at o s next) n) ≡ stop m q → whole ≡ stop m q
      one_stops m q e =
          turned so.fuel so.enough
          (λ less l g. so.goes ∙ ap (λ y. bind y (λ rest. behind (xs ++ rest))) (g ∙ ap (λ y. bind y (behind_sign one t less)) e))

      pub one_read : (x : B) (c2 : ℕ) → one (at (marks_at o s next) n) ≡ ok x (at (marks_at o s c2) n) → length (marks_at o s c2) ≤ length (marks_at o s next) → Joining whole o s n (xs ++ (x ∷ [])) c2
      one_read x c2 e fewer =
          turned so.fuel so.enough
          (λ less enough g. record {
            fuel = less;
            enough = omega arith;
            goes =
                so.goes ∙ ap (λ y. bind y (λ rest. behind (xs ++ rest))) (g ∙ ap (λ y. bind y (behind_sign one t less)) e)
                ∙ bind_more (joined one t less (at (marks_at o s c2) n)) xs x;
          })

    -- the end: another mark than the sign
    module _ (other : (step_at s c).mark.kind ≡ kind t → ⊥) where
      closing : whole ≡ bind (bind (sign ")" (at (marks_at o s c) n)) (λ _. return [])) (λ rest. behind (xs ++ rest))
      closing =
          so.goes
          ∙ ap (λ y. bind y (λ rest. behind (xs ++ rest)))
          (joined_end one t so.fuel (at (marks_at o s c) n) (next_is_law o s t known (step_at s c) (marks_at o s c) (meet o s c) ∙ ne_eqb (step_at s c).mark.kind (kind t) other))

      pub not_closed : ((step_at s c).mark.kind ≡ kind ")" → ⊥) → whole ≡ stop out_of_shape (marks_at o s c)
      not_closed h =
          closing
          ∙ ap (λ y. bind (bind y (λ _. return [])) (λ rest. behind (xs ++ rest))) (sign_next o s ")" close_known (step_at s c) (marks_at o s c) n (meet o s c) ∙ unfit tt o s (step_at s c) (marks_at o s c) n (kind ")") h)

      pub closed : (step_at s c).mark.kind ≡ kind ")" → whole ≡ behind xs (at (marks_at o s next) n)
      closed h =
          closing
          ∙ ap (λ y. bind (bind y (λ _. return [])) (λ rest. behind (xs ++ rest))) (sign_next o s ")" close_known (step_at s c) (marks_at o s c) n (meet o s c) ∙ fits tt o s (step_at s c) (marks_at o s c) n (kind ")") h)
          ∙ ap (λ ls. behind ls (at (marks_at o s next) n)) (append-nil xs)
