-- What panels show, by citing; enabled by the sums over turns. Assumes nothing.
use Prim.Native.Nat.{ℕ, suc, ◌+◌}
use mathlib.Core.Path.{◌≡◌, refl, sym, ap, ◌∙◌}
use mathlib.Core.Bool.{true}
use mathlib.Core.List.{List, [], ◌∷◌, ◌++◌, map}
use native.Mathlib.Omega.{arith}
use borrow.Author.Tests.{lt-ltb}
use lib.Dec.{ltb}
use lib.ListN.{length}
use Rattle.card.specs.Card.{Mode, Statement, Card}
use Rattle.meaning.specs.Sums.{gate, or_one, sum, upto, those}
use Rattle.meaning.specs.Steps.{Turn}
use Rattle.meaning.specs.Choices.{choice, choices_of, turns_in}
use Rattle.meaning.specs.Seats.{Seating, ValidSeating, may_take, turn, turns_by, choices_from, choices, turns, Stuck}
use Rattle.meaning.specs.Panel.{Panel, enabled, panel}
use Rattle.meaning.specs.ByCounts.{stuck_block}
use Rattle.meaning.proofs.Sums.{sum_cong, sum_one, sum_map, sum_those}
use Rattle.meaning.proofs.Choices.{choices_some, choices_sum, or_stay_length, or_stay_turns}
use Rattle.meaning.proofs.Turns.{takes}
use Rattle.meaning.proofs.Panel.{seat_block, panel_by_counts, equal_counts, stuck_panel}
use Rattle.meaning.proofs.Reorder.{reordered_valid, reordered_panel}
use Rattle.meaning.proofs.AddUp.{adds_up}
use Rattle.meaning.proofs.Bounds.{panel_enabled_most}
use Rattle.shown.proofs.InOrder.{ordered}
use Rattle.shown.proofs.Telling.{telling}
use Rattle.card_promises.specs.Panels.{takers, Panels}

-- a turn for each seat that may take the statement
turns_takers : (s : Statement) (x : Seating) → length (turns_by s x) ≡ takers s x
unfolding turns_by
turns_takers s x =
    let seats = upto (length x.each) (λ i. i) in
    sym (sum_one (map (turn s x) (those (may_take s x) seats))) ∙ sum_map (λ t. 1) (turn s x) (those (may_take s x) seats) ∙ sum_those (λ i. 1) (may_take s x) seats

-- without the stuck one
pairs_taken : (l : List Statement) (x : Seating) → length (turns_in (choices_from 1 l x)) ≡ sum (λ s. takers s x) l
pairs_taken l x =
    sym (sum_one (turns_in (choices_from 1 l x)))
    ∙ choices_sum (λ s. turns_by s x) (λ t. 1) 1 l
    ∙ sum_cong l (λ s. sum_one (turns_by s x) ∙ turns_takers s x)

pairs : (c : Card) (x : Seating) → length (turns c x) ≡ or_one (sum (λ s. takers s x) c.statements)
unfolding turns choices
pairs c x =
    or_stay_turns x (choices_from 1 c.statements x) (choices_some (λ s. turns_by s x) 1 c.statements) ∙ ap or_one (pairs_taken c.statements x)

statements_able : (q : ℕ) (l : List Statement) (x : Seating) → length (choices_from q l x) ≡ sum (λ s. gate (ltb 0 (takers s x)) 1) l
unfolding choices_of
statements_able q [] x = refl
statements_able q (s ∷ l) x = go (turns_by s x) (turns_takers s x) (statements_able (suc q) l x)
  where
    go : (m : List (Turn Seating)) → length m ≡ takers s x → length (choices_from (suc q) l x) ≡ sum (λ s. gate (ltb 0 (takers s x)) 1) l
        → length (choice q m ++ choices_from (suc q) l x) ≡ gate (ltb 0 (takers s x)) 1 + sum (λ s. gate (ltb 0 (takers s x)) 1) l
    go [] e h = rw (← e) (omega (arith, h))
    go (t ∷ m) e h =
        let z : ltb 0 (takers s x) ≡ true = lt-ltb 0 (takers s x) (omega (arith, e)) in
        rw z (omega (arith, h))

able : (c : Card) (x : Seating) → length (choices c x) ≡ or_one (sum (λ s. gate (ltb 0 (takers s x)) 1) c.statements)
unfolding choices
able c x = or_stay_length x (choices_from 1 c.statements x) ∙ ap or_one (statements_able 1 c.statements x)

-- a stuck panel's two parts, by its mode
stuck_parts : (c : Card) (x : Seating) → ValidSeating c x → Stuck c x → {m : Mode} → c.mode ≡ m → ((panel c x).enabled ≡ 1) × ((panel c x).blocks ≡ stuck_block m x.shared ∷ [])
stuck_parts c x ok h e = (
  ap (λ (p : Panel). p.enabled) (stuck_panel c x ok.shared h),
  ap (λ (p : Panel). p.blocks) (stuck_panel c x ok.shared h) ∙ ap (λ (m : Mode). stuck_block m x.shared ∷ []) e,
)

pub panels : Panels
unfolding panel
panels = record {
  by_counts = panel_by_counts;
  equal_counts = equal_counts;
  reordered = λ c r ok. (reordered_valid c r ok, reordered_panel c r ok);
  any_seat = λ c x ok s i j l m p q values b.
      seat_block s x i l (takes c.k x ok.states s i l p).0 c.k values b ∙ sym (seat_block s x j m (takes c.k x ok.states s j m q).0 c.k values b);
  adds_up = adds_up;
  enabled_pairs = λ c x e. ap (λ (m : Mode). enabled m c x) e ∙ pairs c x;
  enabled_statements = λ c x e. ap (λ (m : Mode). enabled m c x) e ∙ able c x;
  stuck_pairs = λ c x ok h e. stuck_parts c x ok h e;
  stuck_statements = λ c x ok h e. stuck_parts c x ok h e;
  enabled_most = panel_enabled_most;
  shared = λ c x. refl;
  in_order = ordered;
  order = refl;
  read_off = telling.same_data;
}
