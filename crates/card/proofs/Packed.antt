-- A node and a branch come back from their number: each part is below what the part left of it is multiplied by. Assumes nothing.
use Prim.Native.Nat.{ℕ, ◌-◌, ◌≤◌, ◌<◌, ◌^◌, min}
use mathlib.Core.Path.{◌≡◌, refl}
use mathlib.Core.Option.{Option, none, some}
use native.Mathlib.Omega.{arith}
use borrow.Author.Tests.{lt-ltb, le-ltb}
use Rattle.card.specs.Limits.{top_state, top_shared, most_shared, node_places, numbers, unit}
use Rattle.card.specs.Card.{Kind, everyone, others, Sign, all, any, Relation, is, isnt, Leaf, group, one, shared_is, Branch}
use Rattle.card.specs.Laid.{kind_number, one_kind, shared_kind, sign_number, relation_number, either, op_leaf, op_or, pack_node, op_of, left_of, right_of, pack_group, kind_part, sign_part, relation_part, state_part, group_of, leaf_number, leaf_of, set_number, set_of, pack_branch, units_part, set_part, end_part, branch_number, branch_of}

-- what a u32 holds is below this
abbrev pub words : ℕ
words = 2 ^ 32

-- ---- a node of two children

module _ (op left right : ℕ) (g : left < node_places) (h : right < node_places) where
  pub op_back : op_of (pack_node op left right) ≡ op
  unfolding pack_node op_of
  op_back = omega arith

  pub left_back : left_of (pack_node op left right) ≡ left
  unfolding pack_node left_of
  left_back = omega arith

  pub right_back : right_of (pack_node op left right) ≡ right
  unfolding pack_node right_of
  right_back = omega arith

  pub node_fits : op ≤ op_or → pack_node op left right < words
  unfolding pack_node
  node_fits k = omega arith

-- ---- a leaf's parts

module _ (kind s q d : ℕ) (hk : kind ≤ shared_kind) (hs : s ≤ 1) (hq : q ≤ 1) where
  pub group_op : d ≤ numbers → op_of (pack_group kind s q d) ≡ op_leaf
  unfolding pack_group pack_node op_of
  group_op h = omega arith

  pub group_fits : d ≤ numbers → pack_group kind s q d < words
  unfolding pack_group pack_node
  group_fits h = omega arith

  pub kind_back : d ≤ top_state → kind_part (pack_group kind s q d) ≡ kind
  unfolding pack_group pack_node kind_part
  kind_back h = omega arith

  pub sign_back : d ≤ top_state → sign_part (pack_group kind s q d) ≡ s
  unfolding pack_group pack_node sign_part
  sign_back h = omega arith

  pub relation_back : d ≤ top_state → relation_part (pack_group kind s q d) ≡ q
  unfolding pack_group pack_node relation_part
  relation_back h = omega arith

  pub state_back : d ≤ top_state → state_part (pack_group kind s q d) ≡ d
  unfolding pack_group pack_node state_part
  state_back h = omega arith

kind_small : (k : Kind) → kind_number k < one_kind
kind_small everyone = omega arith
kind_small others = omega arith

sign_small : (s : Sign) → sign_number s ≤ 1
sign_small all = omega arith
sign_small any = omega arith

relation_small : (q : Relation) → relation_number q ≤ 1
relation_small is = omega arith
relation_small isnt = omega arith

kind_again : (k : Kind) → either everyone others (kind_number k) ≡ k
kind_again everyone = refl
kind_again others = refl

sign_again : (s : Sign) → either all any (sign_number s) ≡ s
sign_again all = refl
sign_again any = refl

relation_again : (q : Relation) → either is isnt (relation_number q) ≡ q
relation_again is = refl
relation_again isnt = refl

-- ---- a leaf, by what it is

-- its state, or its value of the shared number, is one that there can be
abbrev pub HeldLeaf : Leaf → Type 0
HeldLeaf (group k s q d) = d ≤ top_state
HeldLeaf (one d) = d ≤ top_state
HeldLeaf (shared_is q v) = v ≤ top_shared

pub leaf_op : (a : Leaf) → HeldLeaf a → op_of (leaf_number a) ≡ op_leaf
leaf_op (group k s q d) h =
    group_op (kind_number k) (sign_number s) (relation_number q) d (omega (arith, kind_small k)) (sign_small s) (relation_small q) (omega arith)
leaf_op (one d) h = group_op one_kind 0 0 d (omega arith) (omega arith) (omega arith) (omega arith)
leaf_op (shared_is q v) h = group_op shared_kind 0 (relation_number q) v (omega arith) (omega arith) (relation_small q) (omega arith)

pub leaf_fits : (a : Leaf) → HeldLeaf a → leaf_number a < words
leaf_fits (group k s q d) h =
    group_fits (kind_number k) (sign_number s) (relation_number q) d (omega (arith, kind_small k)) (sign_small s) (relation_small q) (omega arith)
leaf_fits (one d) h = group_fits one_kind 0 0 d (omega arith) (omega arith) (omega arith) (omega arith)
leaf_fits (shared_is q v) h = group_fits shared_kind 0 (relation_number q) v (omega arith) (omega arith) (relation_small q) (omega arith)

pub leaf_back : (a : Leaf) → HeldLeaf a → leaf_of (leaf_number a) ≡ a
unfolding leaf_of group_of
leaf_back (group k s q d) h =
    let hk : kind_number k ≤ shared_kind = omega (arith, kind_small k) in
    let hs = sign_small s in
    let hq = relation_small q in
    rw (
      kind_back (kind_number k) (sign_number s) (relation_number q) d hk hs hq h,
      sign_back (kind_number k) (sign_number s) (relation_number q) d hk hs hq h,
      lt-ltb (kind_number k) one_kind (kind_small k),
      relation_back (kind_number k) (sign_number s) (relation_number q) d hk hs hq h,
      state_back (kind_number k) (sign_number s) (relation_number q) d hk hs hq h,
      kind_again k,
      sign_again s,
      relation_again q,
    )
leaf_back (one d) h = rw (kind_back one_kind 0 0 d (omega arith) (omega arith) (omega arith) h, state_back one_kind 0 0 d (omega arith) (omega arith) (omega arith) h)
leaf_back (shared_is q v) h =
    let hq = relation_small q in
    rw (
      kind_back shared_kind 0 (relation_number q) v (omega arith) (omega arith) hq h,
      relation_back shared_kind 0 (relation_number q) v (omega arith) (omega arith) hq h,
      state_back shared_kind 0 (relation_number q) v (omega arith) (omega arith) hq h,
      relation_again q,
    )

-- what stands in a number, by the kind of leaf
pub leaf_group : (x : ℕ) → kind_part x < one_kind → leaf_of x ≡ group_of x
unfolding leaf_of
leaf_group x h = rw (lt-ltb (kind_part x) one_kind h)

pub leaf_one : (x : ℕ) → kind_part x ≡ one_kind → leaf_of x ≡ one (state_part x)
unfolding leaf_of
leaf_one x h = rw h

pub leaf_shared : (x : ℕ) → shared_kind ≤ kind_part x → leaf_of x ≡ shared_is (either is isnt (relation_part x)) (state_part x)
unfolding leaf_of
leaf_shared x h = rw (le-ltb (kind_part x) one_kind (omega arith), le-ltb (kind_part x) shared_kind h)

-- ---- a branch

module _ (units sets end : ℕ) where
  pub units_back : sets ≤ most_shared → end ≤ top_state → units_part (pack_branch units sets end) ≡ units
  unfolding pack_branch units_part
  units_back g h = omega arith

  pub set_back : sets ≤ most_shared → end ≤ top_state → set_part (pack_branch units sets end) ≡ sets
  unfolding pack_branch set_part
  set_back g h = omega arith

  pub end_back : end ≤ top_state → end_part (pack_branch units sets end) ≡ end
  unfolding pack_branch end_part
  end_back h = omega arith

  pub branch_fits : units ≤ unit → sets ≤ numbers → end ≤ numbers → pack_branch units sets end < words
  unfolding pack_branch
  branch_fits f g h = omega arith

-- what a branch sets is one of the values that there can be
abbrev pub HeldSet : Option ℕ → Type 0
HeldSet none = Unit {0}
HeldSet (some v) = v ≤ top_shared

pub set_small : (s : Option ℕ) → HeldSet s → set_number s ≤ most_shared
set_small none h = omega arith
set_small (some v) h = omega arith

set_again : (s : Option ℕ) → set_of (set_number s) ≡ s
set_again none = refl
set_again (some v) = refl

pub branch_back : (b : Branch) → b.end ≤ top_state → HeldSet b.sets → branch_of (branch_number b) ≡ b
unfolding branch_of
branch_back b h g =
    rw (
      units_back b.units (set_number b.sets) b.end (set_small b.sets g) h,
      set_back b.units (set_number b.sets) b.end (set_small b.sets g) h,
      end_back b.units (set_number b.sets) b.end h,
      set_again b.sets,
    )

-- ---- in range, the packers of the code take their arguments as they are

pub packed_node : (op left right : ℕ) → op ≤ op_or → left < node_places → right < node_places
    → pack_node (min op op_or) (min left (node_places - 1)) (min right (node_places - 1)) ≡ pack_node op left right
packed_node op left right f g h =
    let a : min op op_or ≡ op = omega arith in
    let b : min left (node_places - 1) ≡ left = omega arith in
    let c : min right (node_places - 1) ≡ right = omega arith in
    rw (a, b, c)

pub packed_group : (kind s q d : ℕ) → kind ≤ 1 → s ≤ 1 → q ≤ 1 → d ≤ numbers
    → pack_group (min kind 1) (min s 1) (min q 1) (min d numbers) ≡ pack_group kind s q d
packed_group kind s q d e f g h =
    let a : min kind 1 ≡ kind = omega arith in
    let b : min s 1 ≡ s = omega arith in
    let c : min q 1 ≡ q = omega arith in
    let k : min d numbers ≡ d = omega arith in
    rw (a, b, c, k)

pub packed_one : (d : ℕ) → d ≤ numbers → leaf_number (one (min d numbers)) ≡ leaf_number (one d)
packed_one d h =
    let a : min d numbers ≡ d = omega arith in
    rw a

pub packed_branch : (units sets end : ℕ) → units ≤ unit → sets ≤ numbers → end ≤ numbers
    → pack_branch (min units unit) (min sets numbers) (min end numbers) ≡ pack_branch units sets end
packed_branch units sets end f g h =
    let a : min units unit ≡ units = omega arith in
    let b : min sets numbers ≡ sets = omega arith in
    let c : min end numbers ≡ end = omega arith in
    rw (a, b, c)
