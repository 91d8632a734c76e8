-- What is said can be read off the answer. Assumes nothing.
use Prim.Native.Nat.{ℕ}
use mathlib.Core.Path.{◌≡◌, sym, ap, ◌∙◌}
use Rattle.entry.specs.Said.{says, refused}
use Rattle.entry.specs.Contract.{Faithful, two}
use Rattle.card.proofs.Verdicts.{refused_number, refused_place, ok≢refused, ok_is}
use Rattle.mended_rooms.specs.Mends.{Done, Refused, told}

pub done≢refused : {A : Type 0} {d l number place : ℕ} → Done d l ≡ Refused number place → A
done≢refused e = ok≢refused e

pub same_deck : {d l d' l' : ℕ} → Done d l ≡ Done d' l' → d ≡ d'
same_deck e = ap (λ (long : ℕ × ℕ). long.0) (ok_is e)

pub same_list : {d l d' l' : ℕ} → Done d l ≡ Done d' l' → l ≡ l'
same_list e = ap (λ (long : ℕ × ℕ). long.1) (ok_is e)

pub told_faithful : Faithful told
told_faithful (says a) (says b) e = ap says (pair (same_deck e) (same_list e))
  where
    pair : a.first ≡ b.first → a.second ≡ b.second → a ≡ b
    pair f s = ap (λ (x : ℕ). two x a.second) f ∙ ap (λ (x : ℕ). two b.first x) s
told_faithful (says a) (refused r p) e = done≢refused e
told_faithful (refused r p) (says a) e = done≢refused (sym e)
told_faithful (refused r p) (refused s q) e = rw (refused_number e, refused_place e)
