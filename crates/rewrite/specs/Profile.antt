-- Rules that make a program of the profile of a program of the profile.
use Rattle.std.specs.Prelude.{◌≡◌, ◌⊎◌, ℕ, ◌+◌, ◌≤◌, max, Some, IsTrue, false, List}
use Rattle.tree.specs.declared.functions.Intrinsic.{Intrinsic}
use Rattle.tree.specs.declared.ops.Kind.{Kind}
use Rattle.tree.specs.Functions.{name_of_intrinsic}
use Rattle.tree.specs.Limits as limits
use Rattle.tree.specs.Plain.{Expression, Reference, Declaration, Program}
use Rattle.tree.specs.Plain.{Statement, Assignment, Where, If, Do, Label, GoTo, Stop, Read, Print, Allocate}
use Rattle.tree.specs.Plain.{Deallocate, Arms, no_arms, arm, Block, no_statements, statement}
use Rattle.meaning.specs.Depths.{level, enclosed, depth_of, depth_of_each, depth_of_items}
use Rattle.meaning.specs.Profile90.{AreDeclarations, IsProgram90}
use Rattle.meaning.specs.Typed.{declared}
use Rattle.meaning.specs.Typed90.{IsFree, HasKind, rank_of}
use Rattle.meaning.specs.Value.{named}
use Rattle.rewrite.specs.Making.{Making}
use Rattle.rewrite.specs.Suits.{Suiting, SuitsBlock}

-- each name that ds declares is declared alike, and no further one is that of a function
pub record DeclaresAlso (ds es : List Declaration) : Type 0 where
  pub names : (x : List ℕ) (d : Declaration) → declared ds x ≡ Some d → declared es x ≡ Some d
  pub free : (f : Intrinsic) → IsFree ds (name_of_intrinsic f) → IsFree es (name_of_intrinsic f)

-- ---- by the declarations of what is made, and by how much a depth may rise

module _ (es : List Declaration) (raise : ℕ) where
  -- f, which has the kind k, takes the place of e: it has its rank, and is no deeper than it or than the rise. As an
  -- operand a place counts one more where it has to stand in parentheses
  pub record TakesPlace (e f : Expression) (k : Kind) : Type 0 where
    pub kind : HasKind es f k
    pub rank : rank_of es f ≡ rank_of es e
    pub depth : (least : ℕ) → enclosed least (level f) (depth_of f) ≤ max (enclosed least (level e) (depth_of e)) raise

  -- of nodes that suit, each takes the place of what it is made of; a left side gets no name that a DO variable has
  pub record KeepsProfile (m : Making) (suits : Suiting) : Type 0 where
    pub expression : (first e : Expression) (k : Kind) → IsTrue (suits.expression e) → HasKind es e k
        → TakesPlace e (m.expression first e) k
    pub left : (r : Reference) (k : Kind) → IsTrue (suits.left r) → HasKind es (named r) k
        → TakesPlace (named r) (named (m.left r)) k
    pub target : (r : Reference) → IsTrue (suits.left r)
        → ((m.left r).name ≡ r.name) ⊎ (suits.variable (m.left r).name ≡ false)

-- ---- how deep the deepest expression of a block is

abbrev mutual
  pub deepest_of : Statement → ℕ
  deepest_of (Assignment line mark left right) = max (depth_of (named left)) (depth_of right)
  deepest_of (Where line mark mask left right) = max (depth_of mask) (max (depth_of (named left)) (depth_of right))
  deepest_of (If line arms other) = max (deepest_in_arms arms) (deepest_in other)
  deepest_of (Do line x a b c body) = max (max (depth_of a) (max (depth_of b) (depth_of c))) (deepest_in body)
  deepest_of (Label n) = 0
  deepest_of (GoTo line n) = 0
  deepest_of (Stop line) = 0
  deepest_of (Read line is) = depth_of_items is
  deepest_of (Print line is) = depth_of_items is
  deepest_of (Allocate line x es) = depth_of_each es
  deepest_of (Deallocate line x) = 0

  pub deepest_in_arms : Arms → ℕ
  deepest_in_arms no_arms = 0
  deepest_in_arms (arm test body arms) = max (depth_of test) (max (deepest_in body) (deepest_in_arms arms))

  pub deepest_in : Block → ℕ
  deepest_in no_statements = 0
  deepest_in (statement c cs) = max (deepest_of c) (deepest_in cs)

-- ---- what is made of a program

-- the program with these declarations and this block
abbrev pub with_block : Program → List Declaration → Block → Program
with_block p es b = record { name = p.name; declarations = es; body = b }

-- Where the rule keeps the profile and the depths leave room for the rise, the block that was made is that of a program
-- of the profile, if the block that it was made of is; and no depth has risen by more
abbrev pub MakesProfile : Making → Block → Block → Type 0
MakesProfile m b c = (suits : Suiting) (p : Program) (es : List Declaration) (raise : ℕ)
    → KeepsProfile es raise m suits → SuitsBlock m suits b
    → IsProgram90 (with_block p p.declarations b) → DeclaresAlso p.declarations es → AreDeclarations es
    → deepest_in b + raise ≤ limits.expression_depth90
    → IsProgram90 (with_block p es c) × (deepest_in c ≤ deepest_in b + raise)
