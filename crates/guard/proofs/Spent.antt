-- Reading a guard spends as many nodes as it has: each reader of marks leaves the number as it is, and each node is met once.
use Prim.Native.Nat.{ℕ, zero, suc, ◌+◌}
use Prim.Native.String.{String}
use mathlib.Core.Path.{◌≡◌, refl}
use mathlib.Core.Bool.{Bool, true, false}
use mathlib.Core.List.{List, [], ◌∷◌}
use mathlib.Core.Option.{Option, none, some}
use native.Mathlib.Omega.{arith}
use lib.ListN.{length}
use Rattle.card.specs.Limits.{most_nodes}
use Rattle.card.specs.Text.{when◌then◌else◌}
use Rattle.card.specs.Card.{all, any, Formula, atom, neg, and, or}
use Rattle.card.specs.Valid.{size}
use Rattle.marks_on_a_card.specs.Marks.{Mark, Placed, placed}
use Rattle.card.specs.Refusals.{past_limit}
use Rattle.reading.specs.Reader.{Place, State, at, Result, ok, stop, Reader, bind, ◌>>=◌, ◌>>◌, return, refuse, refuse_at, took, first, the, is, given, next_is, if_next, sign, seat_of, number_of, here, numbered, spend, node}
use Rattle.reading.specs.Guard.{seat_next, if_seat, if_ahead, chain, conjunction, expression, grouped}
use Rattle.reading.specs.Group.{literal_of, literals_of, relation_of, literal, joint, joined, others, group, shared_test, of_seats, of_shared, tested}
use Rattle.asking.specs.Question.{a_group, a_test, exactly_one, term, exactly, item}
use Rattle.languages.specs.declared.Language.{Language as Spoken}
use Rattle.items.specs.Language.{Language, language_by, language_of}
use Rattle.items.specs.Pieces.{unary_in}

-- what holds of a value and the state behind it; and a refusal has a number
abbrev pub Each : {A : Type 0} → (A → State → Type 0) → Result A → Type 0
Each P (ok a b) = P a b
Each P (stop r p) = r ≡ 0 → ⊥

module _ {A B : Type 0} (P : A → State → Type 0) (Q : B → State → Type 0) where
  pub each_bind : (x : Result A) (f : A → Reader B) → Each P x → ((a : A) (b : State) → P a b → Each Q (f a b)) → Each Q (bind x f)
  each_bind (ok a b) f h next = next a b h
  each_bind (stop r p) f h next = h

-- ---- readers that leave the number of nodes as it is

abbrev pub Left : {A : Type 0} → ℕ → A → State → Type 0
Left n a b = b.nodes ≡ n

abbrev pub Keeps : {A : Type 0} → Reader A → Type 0
Keeps p = (s : State) → Each (Left s.nodes) (p s)

module _ {A : Type 0} where
  left_as : {m n : ℕ} (x : Result A) → m ≡ n → Each (Left m) x → Each (Left n) x
  left_as x e h = rw e at h

  return_keeps : (a : A) → Keeps (return a)
  return_keeps a s = refl

  if_keeps : (t : String) (p q : Reader A) → Keeps p → Keeps q → Keeps (if_next t p q)
  if_keeps t p q h k s = go (next_is t s.marks)
    where
      go : (b : Bool) → Each (Left s.nodes) ((when b then p else q) s)
      go true = h s
      go false = k s

  the_keeps : (f : Mark → Option A) → Keeps (the f)
  the_keeps f s = go s.marks s.nodes
    where
      taken : (o : Option A) (m : Placed) (ms : Place) (n : ℕ) → Each (Left n) (took o m ms n)
      taken none m ms n = λ z. omega arith
      taken (some a) m ms n = refl

      go : (ms : Place) (n : ℕ) → Each (Left n) (first f ms n)
      go [] n = λ z. omega arith
      go (placed m p ∷ ms) n = taken (f m) (placed m p) ms n

module _ {A B : Type 0} where
  bind_keeps : (p : Reader A) (f : A → Reader B) → Keeps p → ((a : A) → Keeps (f a)) → Keeps (p >>= f)
  bind_keeps p f h k s = each_bind (Left s.nodes) (Left s.nodes) (p s) f (h s) (λ a b e. left_as (f a b) e (k a b))

sign_keeps : (t : String) → Keeps (sign t)
sign_keeps t = the_keeps (λ m. given (is t m))

literal_keeps : Keeps literal
literal_keeps s =
    bind_keeps (the seat_of) (λ i. the relation_of >>= λ q. here >>= λ p. the number_of >>= λ d. return (literal_of i q d p)) (the_keeps seat_of)
    (λ i. bind_keeps (the relation_of) (λ q. here >>= λ p. the number_of >>= λ d. return (literal_of i q d p)) (the_keeps relation_of)
    (λ q s. bind_keeps (the number_of) (λ d. return (literal_of i q d s.marks)) (the_keeps number_of) (λ d s. refl) s)) s

-- any things of one kind, each behind the sign, up to the closing bracket
module _ {A : Type 0} (one : Reader A) (keeps : Keeps one) (t : String) where
  closed_keeps : Keeps {A = List A} (sign ")" >> return [])
  closed_keeps = bind_keeps (sign ")") (λ _. return []) (sign_keeps ")") (λ _ s. refl)

  joined_keeps : (most : ℕ) → Keeps (joined one t most)
  joined_keeps zero = if_keeps t (refuse past_limit) (sign ")" >> return []) (λ s z. omega arith) closed_keeps
  joined_keeps (suc most) =
      if_keeps t (sign t >> (one >>= λ x. joined one t most >>= λ xs. return (x ∷ xs))) (sign ")" >> return [])
      (bind_keeps (sign t) (λ _. one >>= λ x. joined one t most >>= λ xs. return (x ∷ xs)) (sign_keeps t)
      (λ _. bind_keeps one (λ x. joined one t most >>= λ xs. return (x ∷ xs)) keeps
      (λ x. bind_keeps (joined one t most) (λ xs. return (x ∷ xs)) (joined_keeps most) (λ xs s. refl))))
      closed_keeps

group_keeps : (p : Place) → Keeps (group p)
group_keeps p =
    bind_keeps literal (λ l. here >>= λ rest. if_next (joint any) (return any) (return all) >>= λ s. others (joint s) (length rest) >>= λ ls. return (literals_of p s (l ∷ ls))) literal_keeps
    (λ l b. bind_keeps (if_next (joint any) (return any) (return all)) (λ s. others (joint s) (length b.marks) >>= λ ls. return (literals_of p s (l ∷ ls)))
    (if_keeps (joint any) (return any) (return all) (return_keeps any) (return_keeps all))
    (λ s. bind_keeps (others (joint s) (length b.marks)) (λ ls. return (literals_of p s (l ∷ ls))) (joined_keeps literal literal_keeps (joint s) (length b.marks)) (λ ls s. refl)) b)

-- ---- a test of the shared number, and what a card's guard tests

test_keeps : Keeps shared_test
test_keeps =
    bind_keeps (sign "g") (λ _. the relation_of >>= λ q. numbered number_of >>= λ v. sign ")" >> return (record { relation = q; value = v })) (sign_keeps "g")
    (λ _. bind_keeps (the relation_of) (λ q. numbered number_of >>= λ v. sign ")" >> return (record { relation = q; value = v })) (the_keeps relation_of)
    (λ q. bind_keeps (numbered number_of) (λ v. sign ")" >> return (record { relation = q; value = v })) number_keeps
    (λ v. bind_keeps (sign ")") (λ _. return (record { relation = q; value = v })) (sign_keeps ")") (λ _ s. refl))))
  where
    number_keeps : Keeps (numbered number_of)
    number_keeps s = bind_keeps (the number_of) (λ v. return (record { value = v; place = s.marks })) (the_keeps number_of) (λ v b. refl) s

pub tested_keeps : (p : Place) → Keeps (tested p)
tested_keeps p =
    if_keeps "g" (shared_test >>= λ x. return (of_shared x)) (group p >>= λ x. return (of_seats x))
    (bind_keeps shared_test (λ x. return (of_shared x)) test_keeps (λ x s. refl))
    (bind_keeps (group p) (λ x. return (of_seats x)) (group_keeps p) (λ x s. refl))

-- ---- and a question's items

term_keeps : Keeps term
term_keeps s =
    bind_keeps (sign "(") (λ _. literal >>= λ l. here >>= λ rest. others (joint all) (length rest) >>= λ ls. return (l ∷ ls)) (sign_keeps "(")
    (λ _. bind_keeps literal (λ l. here >>= λ rest. others (joint all) (length rest) >>= λ ls. return (l ∷ ls)) literal_keeps
    (λ l b. bind_keeps (others (joint all) (length b.marks)) (λ ls. return (l ∷ ls)) (joined_keeps literal literal_keeps (joint all) (length b.marks)) (λ ls s. refl) b)) s

exactly_keeps : (p : Place) → Keeps (exactly p)
exactly_keeps p =
    bind_keeps term (λ t. here >>= λ rest. joined term (joint any) (length rest) >>= λ ts. return (exactly_one p (t ∷ ts))) term_keeps
    (λ t b. bind_keeps (joined term (joint any) (length b.marks)) (λ ts. return (exactly_one p (t ∷ ts))) (joined_keeps term term_keeps (joint any) (length b.marks)) (λ ts s. refl) b)

item_keeps : (p : Place) → Keeps (item p)
item_keeps p =
    if_keeps "g" (shared_test >>= λ x. return (a_test x)) (if_seat (group p >>= λ x. return (a_group x)) (exactly p))
    (bind_keeps shared_test (λ x. return (a_test x)) test_keeps (λ x s. refl)) words
  where
    words : Keeps (if_seat (group p >>= λ x. return (a_group x)) (exactly p))
    words s = go (seat_next s.marks)
      where
        go : (b : Bool) → Each (Left s.nodes) ((when b then (group p >>= λ x. return (a_group x)) else exactly p) s)
        go true = bind_keeps (group p) (λ x. return (a_group x)) (group_keeps p) (λ x s. refl) s
        go false = exactly_keeps p s

-- ---- readers that spend a guard's nodes

abbrev pub Spent : {A : Type 0} → ℕ → Formula A → State → Type 0
Spent n g b = size g + b.nodes ≡ n

module _ {A : Type 0} where
  abbrev pub Spends : Reader (Formula A) → Type 0
  Spends p = (s : State) → Each (Spent s.nodes) (p s)

  -- a guard whose nodes and those left come to n, from a state with the same sum
  abbrev Ends : ℕ → Result (Formula A) → Type 0
  Ends n x = Each (Spent n) x

  ends_as : {m n : ℕ} (x : Result (Formula A)) → m ≡ n → Ends m x → Ends n x
  ends_as x e h = rw e at h

  if_ends : (n : ℕ) (t : String) (p q : Reader (Formula A)) (s : State) → Ends n (p s) → Ends n (q s) → Ends n (if_next t p q s)
  if_ends n t p q s h k = go (next_is t s.marks)
    where
      go : (b : Bool) → Ends n ((when b then p else q) s)
      go true = h
      go false = k

  ahead_ends : (n : ℕ) (starts : Place → Bool) (p q : Reader (Formula A)) (s : State) → Ends n (p s) → Ends n (q s) → Ends n (if_ahead starts p q s)
  ahead_ends n starts p q s h k = go (starts s.marks)
    where
      go : (b : Bool) → Ends n ((when b then p else q) s)
      go true = h
      go false = k

  node_ends : (n : ℕ) (p ms : Place) (m : ℕ) (rest : Reader (Formula A)) → ((k : ℕ) → suc k ≡ m → Ends n (rest (at ms k))) → Ends n (bind (spend p ms m) (λ _. rest))
  node_ends n p ms zero rest h = λ z. omega arith
  node_ends n p ms (suc k) rest h = h k refl

  -- behind a reader that keeps the nodes
  keeps_ends : {B : Type 0} (n : ℕ) (p : Reader B) (f : B → Reader (Formula A)) (s : State) → Keeps p → ((a : B) (b : State) → b.nodes ≡ s.nodes → Ends n (f a b)) → Ends n (bind (p s) f)
  keeps_ends n p f s h k = each_bind (Left s.nodes) (Spent n) (p s) f (h s) k

  -- behind a guard
  guard_ends : (m n : ℕ) (p : Reader (Formula A)) (f : Formula A → Reader (Formula A)) (s : State) → Ends m (p s) → ((g : Formula A) (b : State) → size g + b.nodes ≡ m → Ends n (f g b)) → Ends n (bind (p s) f)
  guard_ends m n p f s h k = each_bind (Spent m) (Spent n) (p s) f h k

  module _ (t : String) (join : Formula A → Formula A → Formula A) (joined : (g h : Formula A) → size (join g h) ≡ suc (size g + size h)) (operand : Reader (Formula A)) (spends : Spends operand) where
    chain_ends : (most : ℕ) (g : Formula A) (s : State) → Ends (size g + s.nodes) (chain t join operand most g s)
    chain_ends zero g s = if_ends (size g + s.nodes) t (refuse past_limit) (return g) s (λ z. omega arith) refl
    chain_ends (suc most) g s =
        if_ends (size g + s.nodes) t (node >> (sign t >> (operand >>= λ h. chain t join operand most (join g h)))) (return g) s
        (node_ends (size g + s.nodes) s.marks s.marks s.nodes (sign t >> (operand >>= λ h. chain t join operand most (join g h)))
        (λ k e. keeps_ends (size g + s.nodes) (sign t) (λ _. operand >>= λ h. chain t join operand most (join g h)) (at s.marks k) (sign_keeps t)
        (λ _ b l. guard_ends b.nodes (size g + s.nodes) operand (λ h. chain t join operand most (join g h)) b (spends b)
        (λ h c m. ends_as (chain t join operand most (join g h) c) (omega (arith, joined g h)) (chain_ends most (join g h) c)))))
        refl

    pub chained_spends : Spends (operand >>= λ g. chain t join operand most_nodes g)
    chained_spends s = guard_ends s.nodes s.nodes operand (chain t join operand most_nodes) s (spends s) (λ g b e. ends_as (chain t join operand most_nodes g b) e (chain_ends most_nodes g b))

  pub conjunction_spends : (operand : Reader (Formula A)) → Spends operand → Spends (conjunction operand)
  conjunction_spends operand h = chained_spends "&" and (λ g i. refl) operand h

  pub expression_spends : (operand : Reader (Formula A)) → Spends operand → Spends (expression operand)
  expression_spends operand h = chained_spends "|" or (λ g i. refl) (conjunction operand) (conjunction_spends operand h)

-- ---- in any language whose items are no nodes but their own

abbrev pub Keeping : Language → Type 0
Keeping L = (p : Place) → Keeps (L.item p)

pub keeping : (l : Spoken) → Keeping (language_of l)
keeping l = go l.question
  where
    go : (b : Bool) → Keeping (language_by b l.values)
    go false = tested_keeps
    go true = item_keeps

module _ (L : Language) (keeps : Keeping L) where
  grouped_ends : (p : Place) (s : State) → Each (Spent s.nodes) (grouped L.item p s)
  grouped_ends p s =
      node_ends s.nodes p s.marks s.nodes (L.item p >>= λ a. return (atom a))
      (λ k e. keeps_ends s.nodes (L.item p) (λ a. return (atom a)) (at s.marks k) (keeps p) (λ a b l. omega arith))

  pub unary_spends : (depth : ℕ) → Spends (unary_in L depth)
  unary_spends zero s =
      if_ends s.nodes "!" (refuse past_limit) (here >>= λ p. sign "(" >> if_ahead L.starts (grouped L.item p) (refuse_at past_limit p)) s (λ z. omega arith)
      (keeps_ends s.nodes (sign "(") (λ _. if_ahead L.starts (grouped L.item s.marks) (refuse_at past_limit s.marks)) s (sign_keeps "(")
      (λ _ b e. ahead_ends s.nodes L.starts (grouped L.item s.marks) (refuse_at past_limit s.marks) b (ends_as (grouped L.item s.marks b) e (grouped_ends s.marks b)) (λ z. omega arith)))
  unary_spends (suc depth) s =
      if_ends s.nodes "!" (node >> (sign "!" >> (unary_in L depth >>= λ g. return (neg g)))) (here >>= λ p. sign "(" >> if_ahead L.starts (grouped L.item p) (inner p)) s
      (node_ends s.nodes s.marks s.marks s.nodes (sign "!" >> (unary_in L depth >>= λ g. return (neg g)))
      (λ k e. keeps_ends s.nodes (sign "!") (λ _. unary_in L depth >>= λ g. return (neg g)) (at s.marks k) (sign_keeps "!")
      (λ _ b l. guard_ends b.nodes s.nodes (unary_in L depth) (λ g. return (neg g)) b (unary_spends depth b) (λ g c m. omega arith))))
      (keeps_ends s.nodes (sign "(") (λ _. if_ahead L.starts (grouped L.item s.marks) (inner s.marks)) s (sign_keeps "(")
      (λ _ b e. ahead_ends s.nodes L.starts (grouped L.item s.marks) (inner s.marks) b (ends_as (grouped L.item s.marks b) e (grouped_ends s.marks b))
      (guard_ends b.nodes s.nodes (expression (unary_in L depth)) (λ g. sign ")" >> return g) b (expression_spends (unary_in L depth) (unary_spends depth) b)
      (λ g c l. keeps_ends s.nodes (sign ")") (λ _. return g) c (sign_keeps ")") (λ _ f m. omega arith)))))
    where
      inner : Place → Reader (Formula L.Item)
      inner p = expression (unary_in L depth) >>= λ g. sign ")" >> return g
