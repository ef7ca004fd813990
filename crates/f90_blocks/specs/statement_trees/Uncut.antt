-- Which trees are held as they are.
use Rattle.std.specs.Prelude.{◌≡◌, ℕ, ◌≤◌, ◌-◌, ◌^◌, ◌⊎◌, false, Option, List}
use Rattle.tree.specs.Plain as tree
use Rattle.tree.specs.Plain.{Expression, Expressions, Subscript, Subscripts, Loops, Declaration}
use Rattle.tree.specs.declared.functions.Intrinsic.{Intrinsic}
use Rattle.tree.specs.declared.ops.Kind.{Kind}
use Rattle.meaning.specs.Typed90.{HasKind}
use Rattle.f90_grammar.specs.Contents.{has_wide_literal90}
use Rattle.f90_grammar.specs.Phrases.{Phrase90, tree_of}
use Rattle.f90_trees.specs.Building.{held, held_number}

-- no literal is too great
abbrev mutual
  pub IsNarrow : Expression → Type 0
  IsNarrow (tree.Number z) = held_number z ≡ z
  IsNarrow (tree.Logic b) = Unit {0}
  IsNarrow (tree.Named x ss) = AreNarrowSubscripts ss
  IsNarrow (tree.Unary o a) = IsNarrow a
  IsNarrow (tree.Binary o a b) = IsNarrow a × IsNarrow b
  IsNarrow (tree.Apply f es) = AreNarrow es
  IsNarrow (tree.Constructor es ls) = AreNarrow es × AreNarrowLoops ls
  IsNarrow (tree.Spread a d n) = IsNarrow a × IsNarrow n
  IsNarrow (tree.Transpose a) = IsNarrow a
  IsNarrow (tree.Reshape a es) = IsNarrow a × AreNarrow es
  IsNarrow (tree.Reduce r a) = IsNarrow a

  pub AreNarrow : Expressions → Type 0
  AreNarrow tree.no_expressions = Unit {0}
  AreNarrow (tree.expression e es) = IsNarrow e × AreNarrow es

  pub IsNarrowSubscript : Subscript → Type 0
  IsNarrowSubscript (tree.Only e) = IsNarrow e
  IsNarrowSubscript (tree.Section a b c) = IsNarrow a × IsNarrow b × IsNarrow c

  pub AreNarrowSubscripts : Subscripts → Type 0
  AreNarrowSubscripts tree.no_subscripts = Unit {0}
  AreNarrowSubscripts (tree.subscript s ss) = IsNarrowSubscript s × AreNarrowSubscripts ss

  pub AreNarrowLoops : Loops → Type 0
  AreNarrowLoops tree.no_loops = Unit {0}
  AreNarrowLoops (tree.loop x a b ls) = IsNarrow a × IsNarrow b × AreNarrowLoops ls

-- no dimension of SPREAD is too great
abbrev mutual
  pub IsFit : Expression → Type 0
  IsFit (tree.Number z) = Unit {0}
  IsFit (tree.Logic b) = Unit {0}
  IsFit (tree.Named x ss) = AreFitSubscripts ss
  IsFit (tree.Unary o a) = IsFit a
  IsFit (tree.Binary o a b) = IsFit a × IsFit b
  IsFit (tree.Apply f es) = AreFit es
  IsFit (tree.Constructor es ls) = AreFit es × AreFitLoops ls
  IsFit (tree.Spread a d n) = (d ≤ 2 ^ 64 - 1) × IsFit a × IsFit n
  IsFit (tree.Transpose a) = IsFit a
  IsFit (tree.Reshape a es) = IsFit a × AreFit es
  IsFit (tree.Reduce r a) = IsFit a

  pub AreFit : Expressions → Type 0
  AreFit tree.no_expressions = Unit {0}
  AreFit (tree.expression e es) = IsFit e × AreFit es

  pub IsFitSubscript : Subscript → Type 0
  IsFitSubscript (tree.Only e) = IsFit e
  IsFitSubscript (tree.Section a b c) = IsFit a × IsFit b × IsFit c

  pub AreFitSubscripts : Subscripts → Type 0
  AreFitSubscripts tree.no_subscripts = Unit {0}
  AreFitSubscripts (tree.subscript s ss) = IsFitSubscript s × AreFitSubscripts ss

  pub AreFitLoops : Loops → Type 0
  AreFitLoops tree.no_loops = Unit {0}
  AreFitLoops (tree.loop x a b ls) = IsFit a × IsFit b × AreFitLoops ls

-- the literals of an expression that has none that is too great are held as they are
abbrev pub LiteralsStay : Type 0
LiteralsStay = (function : List ℕ → Option Intrinsic) (p : Phrase90) → has_wide_literal90 p ≡ false
    → IsNarrow (tree_of function p)

-- a tree is held as it is if it or what is held of it has a kind
abbrev pub KindsStay : Type 0
KindsStay = (ds : List Declaration) (e : Expression) (k : Kind) → IsNarrow e
    → HasKind ds e k ⊎ HasKind ds (held e) k → held e ≡ e

-- or if no dimension of SPREAD is too great
abbrev pub FitTreesStay : Type 0
FitTreesStay = (e : Expression) → IsNarrow e → IsFit e → held e ≡ e
