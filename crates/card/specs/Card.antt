-- A card that has been read ("Shape of a card"). Two cards are the same exactly when they are equal. Assumes nothing.
use Rattle.std.specs.Prelude.{ℕ, List}
use Rattle.std.proofs.Math.Option.{Option}

pub data Mode : Type 0 where
  nondeterministic probabilistic : Mode

-- whose seats a group names: 1 to n, or 2 to n
pub data Kind : Type 0 where
  everyone others : Kind

-- the sign that joins a group's literals, `&` or `|`
pub data Sign : Type 0 where
  all any : Sign

-- the relation of all its literals, `=` or `!=`
pub data Relation : Type 0 where
  is isnt : Relation

-- what a guard tests: a group, whose last is d; the shared number, `(g=v)` or `(g!=v)` (document 02, 2026-10); and what a question may test
-- besides (2026-01): exactly one seat is in state d
pub data Leaf : Type 0 where
  group : Kind → Sign → Relation → ℕ → Leaf
  one : ℕ → Leaf
  shared_is : Relation → ℕ → Leaf

-- `!`, `&` and `|` over atoms
pub data Formula (A : Type 0) : Type 0 where
  atom : A → Formula A
  neg : Formula A → Formula A
  and or : Formula A → Formula A → Formula A

abbrev pub Guard : Type 0
Guard = Formula Leaf

-- weight:(s1'=end), and where it sets the shared number & (g'=v)
pub record Branch : Type 0 where
  pub units : ℕ
  pub end : ℕ
  pub sets : Option ℕ

-- [] s1=own & guard -> branches
pub record Statement : Type 0 where
  pub own : ℕ
  pub guard : Option Guard
  pub branches : List Branch

-- global g : [0..most] init start; one number that all seats share (document 02, 2026-10)
pub record Shared : Type 0 where
  pub most : ℕ
  pub start : ℕ

pub record Card : Type 0 where
  pub mode : Mode
  pub shared : Option Shared
  pub n : ℕ
  pub k : ℕ
  pub l : ℕ
  pub statements : List Statement
