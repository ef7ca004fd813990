-- The references of a statement, and the cells that each may name.
use Rattle.std.specs.Prelude.{◌≡◌, ⊤, Option, Some, None, ℕ, zero, suc, ℤ, Bool, true, false, not, List, [], ◌∷◌, ◌++◌}
use Rattle.std.specs.Prelude.{filter, length, if◌then◌else◌}
use Rattle.tree.specs.Plain.{Expression, Number, Logic, Named, Unary, Binary, Apply, Expressions, no_expressions}
use Rattle.tree.specs.Plain.{expression, Subscript, Only, Subscripts, no_subscripts, subscript, Reference}
use Rattle.meaning.specs.Store.{Cell}
use Rattle.nest_order.specs.orders.Graphs.{Arc, IsComplete, Meet}
use Rattle.nest_order.specs.orders.Nests.{common}
use Rattle.nest_order.specs.orders.Shapes.{Instance}
use Rattle.nest_order.specs.runs.Guarded.{GuardedAssignment, variable_cell}
use Rattle.nest_order.specs.runs.Nests.{RunNest, is_nest_variable}

-- no array form stands in an expression: it is one of FORTRAN 77
abbrev mutual
  pub IsPlain : Expression → Type 0
  IsPlain (Number n) = ⊤
  IsPlain (Logic b) = ⊤
  IsPlain (Named x ps) = ArePlain ps
  IsPlain (Unary o a) = IsPlain a
  IsPlain (Binary o a b) = IsPlain a × IsPlain b
  IsPlain (Apply f es) = EachIsPlain es
  IsPlain _ = ⊥

  pub EachIsPlain : Expressions → Type 0
  EachIsPlain no_expressions = ⊤
  EachIsPlain (expression e es) = IsPlain e × EachIsPlain es

  pub ArePlain : Subscripts → Type 0
  ArePlain no_subscripts = ⊤
  ArePlain (subscript p ps) = IsPlainSubscript p × ArePlain ps

  pub IsPlainSubscript : Subscript → Type 0
  IsPlainSubscript (Only e) = IsPlain e
  IsPlainSubscript _ = ⊥

abbrev pub IsPlainGuard : Option Expression → Type 0
IsPlainGuard None = ⊤
IsPlainGuard (Some e) = IsPlain e

abbrev pub IsPlainAssignment : GuardedAssignment → Type 0
IsPlainAssignment g = IsPlainGuard g.guard × IsPlain g.right × ArePlain g.left.subscripts

-- ---- references

-- those in an expression, from left to right, each before those in its subscripts
abbrev mutual
  pub touched_in : Expression → List Reference
  touched_in (Named x ps) = record { name = x; subscripts = ps } ∷ touched_in_subscripts ps
  touched_in (Unary o a) = touched_in a
  touched_in (Binary o a b) = touched_in a ++ touched_in b
  touched_in (Apply f es) = references_in_each es
  touched_in _ = []

  pub references_in_each : Expressions → List Reference
  references_in_each no_expressions = []
  references_in_each (expression e es) = touched_in e ++ references_in_each es

  pub touched_in_subscripts : Subscripts → List Reference
  touched_in_subscripts no_subscripts = []
  touched_in_subscripts (subscript p ps) = touched_in_subscript p ++ touched_in_subscripts ps

  pub touched_in_subscript : Subscript → List Reference
  touched_in_subscript (Only e) = touched_in e
  touched_in_subscript _ = []

abbrev pub touched_in_guard : Option Expression → List Reference
touched_in_guard None = []
touched_in_guard (Some e) = touched_in e

-- those that a guarded assignment reads, in the order of guard, left subscripts and right side
abbrev pub references_read : GuardedAssignment → List Reference
references_read g = touched_in_guard g.guard ++ (touched_in_subscripts g.left.subscripts ++ touched_in g.right)

abbrev pub has_no_subscripts : Subscripts → Bool
has_no_subscripts no_subscripts = true
has_no_subscripts (subscript p ps) = false

abbrev pub nth_of : {X : Type 0} → List X → ℕ → Option X
nth_of [] k = None
nth_of (x ∷ xs) zero = Some x
nth_of (x ∷ xs) (suc k) = nth_of xs k

module _ (n : RunNest) where
  -- a loop's variable
  abbrev pub is_loop_variable : Reference → Bool
  is_loop_variable r = if has_no_subscripts r.subscripts then is_nest_variable n (variable_cell r.name) else false

  -- the left side, which has the number 0, and the references that are read, but for loop variables
  abbrev pub references_of : ℕ → List Reference
  references_of s =
      (n.statement_at s).left ∷ filter (λ r. not (is_loop_variable r)) (references_read (n.statement_at s))

  -- by the values v of the symbols: a linear subscript has its value, any other one may have each
  abbrev pub MayHave : (ℕ → ℤ) → List ℕ → Option ((ℕ → ℤ) → List ℕ → ℤ) → ℤ → Type 0
  MayHave v is None z = ⊤
  MayHave v is (Some f) z = z ≡ f v is

  abbrev pub MayHaveEach : (ℕ → ℤ) → ℕ → List ℕ → Subscripts → List ℤ → Type 0
  MayHaveEach v s is no_subscripts [] = ⊤
  MayHaveEach v s is (subscript (Only e) ps) (z ∷ zs) = MayHave v is (n.linear s e) z × MayHaveEach v s is ps zs
  MayHaveEach v s is _ _ = ⊥

  -- in the statement s at the iterations is, the reference r may name the cell c
  pub record MayName (v : ℕ → ℤ) (s : ℕ) (is : List ℕ) (r : Reference) (c : Cell) : Type 0 where
    pub name : c.name ≡ r.name
    pub subscripts : MayHaveEach v s is r.subscripts c.subscripts

  -- so may the q-th reference of an instance
  abbrev pub Touches : (ℕ → ℤ) → ℕ → Instance → Cell → Type 0
  Touches v q x c =
      (r : Reference) × (nth_of (references_of x.statement) q ≡ Some r) × MayName v x.statement x.iterations r c

  -- two instances may touch a common cell, and one of them writes it
  abbrev pub MayMeet : (ℕ → ℤ) → Instance → Instance → Type 0
  MayMeet v x y =
      Meet n.loops_of (common n.loops_of) n.turns_of (λ s. length (references_of s)) Touches n.shape v x y

  -- the edges have what an order of the nest's instances needs of its graph
  abbrev pub AreEdgesOf : List Arc → Type 0
  AreEdgesOf arcs =
      IsComplete n.loops_of (common n.loops_of) n.turns_of (λ s. length (references_of s)) Touches n.shape arcs
