-- Who may take a statement: the seats in its local state, where its guard holds for them. Assumes nothing.
use Prim.Native.Nat.{ℕ, ◌+◌, ◌-◌, ◌≤◌, ◌<◌, min}
use mathlib.Core.Path.{◌≡◌, refl, sym, ap, ◌∙◌}
use mathlib.Core.Logic.{inl}
use mathlib.Core.Bool.{Bool, true, false}
use mathlib.Core.List.{List}
use mathlib.Core.Option.{some}
use native.Mathlib.Decide.{dec_lt}
use native.Mathlib.Omega.{arith}
use lib.ListN.{length, get_or, get_or-eq_default}
use Rattle.card.specs.Laid.{op_of, guard_at, guard_of}
use Rattle.card.proofs.GuardAt.{guard_at_leaf, guard_of_none, guard_of_some}
use Rattle.meaning.specs.Sums.{gate}
use Rattle.meaning.specs.Position.{Position}
use Rattle.meaning.specs.Reduced.{no_of}
use Rattle.meaning.specs.ByCounts.{held_at, held_or}
use Rattle.panel_numbers.specs.Taking.{takers}

-- behind the nodes all guards are alike
guard_behind : (nodes : List ℕ) (p : ℕ) → length nodes ≤ p → guard_at nodes p ≡ guard_at nodes (length nodes)
unfolding op_of
guard_behind nodes p h =
    let none : (q : ℕ) → length nodes ≤ q → 0 ≡ get_or nodes q 0 = λ q l. sym (get_or-eq_default nodes 0 l) in
    guard_at_leaf nodes p 0 (none p h) (inl refl) ∙ sym (guard_at_leaf nodes (length nodes) 0 (none (length nodes) (omega arith)) (inl refl))

same_guard : (nodes : List ℕ) (p q : ℕ) → min p (length nodes) ≡ min q (length nodes) → guard_at nodes p ≡ guard_at nodes q
same_guard nodes p q e = go (dec_lt p (length nodes)) (dec_lt q (length nodes))
  where
    go : Dec (p < length nodes) → Dec (q < length nodes) → guard_at nodes p ≡ guard_at nodes q
    go (yes h) _ = ap (guard_at nodes) (omega arith)
    go (no h) (yes l) = absurd (omega arith)
    go (no h) (no l) = guard_behind nodes p (omega arith) ∙ sym (guard_behind nodes q (omega arith))

module _ (n : ℕ) (v : Position) (own : ℕ) where
  gate_none : (b : Bool) (w : ℕ) → w ≡ 0 → 0 ≡ gate b w
  gate_none true w h = sym h
  gate_none false w h = refl

  pub takers_none : (nodes : List ℕ) (at size : ℕ) → no_of v.each own ≡ 0 → 0 ≡ takers n v own (guard_of nodes at size)
  unfolding takers
  takers_none nodes at size h = gate_none (held_or n own v (guard_of nodes at size)) (no_of v.each own) h

  pub takers_free : (nodes : List ℕ) (at size : ℕ) → size ≡ 0 → no_of v.each own ≡ takers n v own (guard_of nodes at size)
  unfolding takers
  takers_free nodes at size h = rw (guard_of_none nodes at size h)

  module _ (nodes : List ℕ) (at size root : ℕ) (guarded : size ≡ 0 → ⊥) (last : min root (length nodes) ≡ min (at + (size - 1)) (length nodes)) where
    guard_is : guard_of nodes at size ≡ some (guard_at nodes root)
    guard_is =
        guard_of_some nodes at size (at + (size - 1)) guarded (omega arith) ∙ ap some (same_guard nodes (at + (size - 1)) root (sym last))

    pub takers_held : true ≡ held_at n own v (guard_at nodes root) → no_of v.each own ≡ takers n v own (guard_of nodes at size)
    unfolding takers
    takers_held h = rw (guard_is, ← h)

    pub takers_kept : false ≡ held_at n own v (guard_at nodes root) → 0 ≡ takers n v own (guard_of nodes at size)
    unfolding takers
    takers_kept h = rw (guard_is, ← h)
