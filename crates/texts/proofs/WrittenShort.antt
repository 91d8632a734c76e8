-- How long the written form of a valid card can be, by its seats and the number of its statements: states have one digit, numbers of
-- seats two, and the bounds of all pieces are added up. Assumes nothing.
use Prim.Native.Nat.{ℕ, zero, suc, ◌+◌, ◌-◌, ◌*◌, ◌≤◌}
use mathlib.Core.List.{List, [], ◌∷◌}
use native.Mathlib.Nat.{suc-mul, mul-le-mul_right, le_trans}
use native.Mathlib.Omega.{arith}
use lib.ListN.{length}
use Rattle.card.specs.Limits.{most_seats, top_state, most_shared, most_statements}
use Rattle.card.specs.Card.{Kind, everyone, others, Sign, all, any, Relation, is, isnt, Leaf, group, one, shared_is, Branch, Statement, Card}
use Rattle.card.specs.Valid.{first_seat, Enough, Every, values_of, ValidLeaf, ValidBranch, ValidStatement, ValidCard}
use Rattle.card.proofs.Held.{few_values}
use Rattle.room.specs.Room.{cap}
use Rattle.phrases.specs.Phrases.{◌▸◌, num, mode_text}
use Rattle.phrases.proofs.Adds.{Adds, adds_then, adds_up, adds_none, adds_bytes, adds_state, adds_seats, adds_weight, adds_mode}
use Rattle.texts.specs.Shared.{needed, declaration}
use Rattle.texts.specs.Writing.{sign_text, relation_text, literal, literals, group_text, branch_text, statement_text, statements, modules, write_of}
use Rattle.texts.specs.Lengths.{literal_most, group_most, branch_most, statement_most, module_most, written_most, written_room}
use Rattle.texts.proofs.Adding.{adds_declaration, adds_shared, adds_last, adds_tail}

-- ---- groups

adds_sign : (s : Sign) → Adds 3 (λ r. sign_text s ▸ r)
adds_sign all = adds_bytes " & "
adds_sign any = adds_bytes " | "

adds_relation : (q : Relation) → Adds 2 (λ r. relation_text q ▸ r)
adds_relation is = adds_up 2 (omega arith) (adds_bytes "=")
adds_relation isnt = adds_bytes "!="

adds_literal : (q : Relation) (d i : ℕ) → d ≤ top_state → i ≤ most_seats → Adds 6 (literal q d i)
adds_literal q d i h l = adds_then (adds_bytes "s") (adds_then (adds_seats i l) (adds_then (adds_relation q) (adds_state d h)))

adds_literals : (s : Sign) (q : Relation) (d i c : ℕ) → d ≤ top_state → i + c ≤ most_seats → Adds (c * literal_most) (literals s q d i c)
adds_literals s q d i zero h l = adds_up _ (omega arith) adds_none
adds_literals s q d i (suc c) h l =
    adds_up (suc c * literal_most) (omega arith)
    (adds_then (adds_sign s) (adds_then (adds_literal q d (suc i) h (omega arith)) (adds_literals s q d (suc i) c h (omega arith))))

first_seat_law : (k : Kind) → 1 ≤ first_seat k
first_seat_law everyone = omega arith
first_seat_law others = omega arith

enough_seats : (s : Sign) (kind : Kind) (n : ℕ) → Enough s kind n → first_seat kind ≤ n
enough_seats all kind n h = h
enough_seats any kind n h = omega arith

adds_group : (n k values : ℕ) (g : Leaf) → 1 ≤ n → n ≤ most_seats → k ≤ top_state → values ≤ most_shared → ValidLeaf n k values g → Adds (group_most n) (group_text n g)
adds_group n k values (group kind s q d) some h l m v =
    let f = first_seat kind in
    let low : 1 ≤ f = first_seat_law kind in
    let high : f ≤ n = enough_seats s kind n v.0 in
    adds_up (group_most n) (omega arith)
    (adds_then (adds_bytes "(")
    (adds_then (adds_literal q d f (le_trans v.1 l) (omega arith))
    (adds_then (adds_literals s q d f (n - f) (le_trans v.1 l) (omega arith)) (adds_bytes ")"))))
adds_group n k values (one d) some h l m v = absurd v
adds_group n k values (shared_is q x) some h l m v = adds_up (group_most n) (omega arith) (adds_shared q x (omega arith))

-- ---- statements

adds_branch : (k values : ℕ) → k ≤ top_state → values ≤ most_shared → (b : Branch) → ValidBranch k values b → Adds branch_most (branch_text b)
adds_branch k values l m b v =
    adds_up branch_most (omega arith)
    (adds_then (adds_weight b.units)
    (adds_then (adds_bytes ":(s1'=") (adds_then (adds_state b.end (le_trans v.end l)) (adds_then (adds_bytes ")") (adds_last values m b.sets v.sets)))))

module _ (n k values : ℕ) (low : 1 ≤ n) (h : n ≤ most_seats) (l : k ≤ top_state) (m : values ≤ most_shared) where
  adds_leaf : (a : Leaf) → ValidLeaf n k values a → Adds (suc (group_most n - 1)) (group_text n a)
  adds_leaf a v = adds_up (suc (group_most n - 1)) (omega arith) (adds_group n k values a low h l m v)

  adds_statement : (x : Statement) → ValidStatement n k values x → Adds (statement_most n) (statement_text n x)
  unfolding statement_text
  adds_statement x v =
      adds_up (statement_most n) (omega arith)
      (adds_then (adds_bytes "[] s1=")
      (adds_then (adds_state x.own (le_trans v.own l))
      (adds_tail n k values needed (group_text n) (group_most n - 1) adds_leaf branch_text branch_most (adds_branch k values l m) x.guard x.branches v.guard v.some.1 v.branches)))

  adds_statements : (xs : List Statement) → Every (ValidStatement n k values) xs → Adds (length xs * statement_most n) (statements n xs)
  adds_statements [] v = adds_up _ (omega arith) adds_none
  adds_statements (x ∷ xs) v =
      adds_up (length (x ∷ xs) * statement_most n) (omega (arith, suc-mul (length xs) (statement_most n)))
      (adds_then (adds_statement x v.0) (adds_statements xs v.1))

-- ---- the card

adds_modules : (i c : ℕ) → i + c ≤ most_seats → Adds (c * module_most) (modules i c)
adds_modules i zero h = adds_up _ (omega arith) adds_none
adds_modules i (suc c) h =
    let seat : Adds 2 (num (suc i)) = adds_seats (suc i) (omega arith) in
    adds_up (suc c * module_most) (omega arith)
    (adds_then (adds_bytes "module process")
    (adds_then seat
    (adds_then (adds_bytes " = process1 [s1=s")
    (adds_then seat
    (adds_then (adds_bytes ", s") (adds_then seat (adds_then (adds_bytes "=s1] endmodule\n") (adds_modules (suc i) c (omega arith)))))))))

adds_card : (c : Card) → ValidCard c → Adds (written_most c.n (length c.statements)) (λ r. mode_text c.mode (declaration c.shared ("\nmodule process1\ns1 : [0.."
    ▸ num c.k ("] init " ▸ num c.l (";\n" ▸ statements c.n c.statements ("endmodule\n" ▸ modules 1 (c.n - 1) r))))))
adds_card c v =
    adds_up (written_most c.n (length c.statements)) (omega arith)
    (adds_then (adds_mode c.mode)
    (adds_then (adds_declaration c.shared v.shared)
    (adds_then (adds_bytes "\nmodule process1\ns1 : [0..")
    (adds_then (adds_state c.k v.top)
    (adds_then (adds_bytes "] init ")
    (adds_then (adds_state c.l (le_trans v.init v.top))
    (adds_then (adds_bytes ";\n")
    (adds_then (adds_statements c.n c.k (values_of c.shared) v.seats v.seats_most v.top (few_values c.shared v.shared) c.statements v.statements)
    (adds_then (adds_bytes "endmodule\n") (adds_modules 1 (c.n - 1) (omega (arith, v.seats, v.seats_most))))))))))))

-- the written card is no longer than is reckoned from its seats and the number of its statements
pub written_short : (c : Card) → ValidCard c → length (write_of c) ≤ written_most c.n (length c.statements)
unfolding write_of
written_short c v = omega (arith, (adds_card c v).long [])

-- and that is most for the most seats and statements
pub written_cap : (n count : ℕ) → n ≤ most_seats → count ≤ most_statements → written_most n count ≤ written_room
written_cap n count h l = omega (arith, mul-le-mul_right (statement_most n) l)

pub room_cap : written_room ≤ cap
room_cap = omega arith

pub written_room_law : (c : Card) → ValidCard c → length (write_of c) ≤ written_room
written_room_law c v = le_trans (written_short c v) (written_cap c.n (length c.statements) v.seats_most v.some.1)

pub short : (c : Card) → ValidCard c → length (write_of c) ≤ cap
short c v = le_trans (written_room_law c v) room_cap
