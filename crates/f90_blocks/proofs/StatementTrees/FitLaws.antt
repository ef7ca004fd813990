-- Where numbers are small enough, nothing is cut.
use Rattle.std.proofs.Common.{arith, ◌≡◌, ◌∙◌, ap, refl, ℕ, ◌+◌, ◌≤◌, ◌<◌, ◌-◌, ◌^◌, List, inl, inr}
use mathlib.Core.Path.{ap₂}
use Rattle.tree.specs.Plain as tree
use Rattle.tree.specs.Plain.{Expression, Expressions, Subscript, Subscripts, Loops, Declaration}
use Rattle.tree.specs.OperatorTable.{operand_kind}
use Rattle.tree.specs.declared.ops.Kind.{Kind}
use Rattle.tree.specs.declared.ops.Kind.TheVariants.{Integer}
use Rattle.meaning.specs.Typed90.{HasKind, AreArguments, AreScalars, AreSubscripts, IsSubscript, AreLoops}
use Rattle.f90_trees.specs.Building.{held, held_all, held_subscript, held_subscripts, held_loops, held_dimension}
use Rattle.f90_blocks.specs.statement_trees.Uncut.{IsNarrow, AreNarrow, IsNarrowSubscript, AreNarrowSubscripts, AreNarrowLoops}
use Rattle.f90_blocks.specs.statement_trees.Uncut.{IsFit, AreFit, IsFitSubscript, AreFitSubscripts, AreFitLoops, FitTreesStay}
use Rattle.f90_blocks.specs.statement_trees.Uncut.{KindsStay}

small : (d : ℕ) → d ≤ 2 ^ 64 - 1 → held_dimension d ≡ d
small d h = omega arith

three : {A B : Type 0} (f : A → A → A → B) (a b c u v w : A) → a ≡ u → b ≡ v → c ≡ w → f a b c ≡ f u v w
three f a b c u v w e g h = ap (λ (x : _). f x b c) e ∙ ap₂ (f u) g h

mutual
  stays : (e : Expression) → IsNarrow e → IsFit e → held e ≡ e
  stays (tree.Number z) n f = ap tree.Number n
  stays (tree.Logic b) n f = refl
  stays (tree.Named x ss) n f = ap (tree.Named x) (subscripts_stay ss n f)
  stays (tree.Unary o a) n f = ap (tree.Unary o) (stays a n f)
  stays (tree.Binary o a b) n f = ap₂ (tree.Binary o) (stays a n.0 f.0) (stays b n.1 f.1)
  stays (tree.Apply g es) n f = ap (tree.Apply g) (all_stay es n f)
  stays (tree.Constructor es ls) n f = ap₂ tree.Constructor (all_stay es n.0 f.0) (loops_stay ls n.1 f.1)
  stays (tree.Spread a d m) n f =
      ap (λ (x : Expression). tree.Spread x (held_dimension d) (held m)) (stays a n.0 f.1)
      ∙ ap₂ (tree.Spread a) (small d f.0) (stays m n.1 f.2)
  stays (tree.Transpose a) n f = ap tree.Transpose (stays a n f)
  stays (tree.Reshape a es) n f = ap₂ tree.Reshape (stays a n.0 f.0) (all_stay es n.1 f.1)
  stays (tree.Reduce r a) n f = ap (tree.Reduce r) (stays a n f)

  all_stay : (es : Expressions) → AreNarrow es → AreFit es → held_all es ≡ es
  all_stay tree.no_expressions n f = refl
  all_stay (tree.expression e es) n f = ap₂ tree.expression (stays e n.0 f.0) (all_stay es n.1 f.1)

  subscript_stays : (s : Subscript) → IsNarrowSubscript s → IsFitSubscript s → held_subscript s ≡ s
  subscript_stays (tree.Only e) n f = ap tree.Only (stays e n f)
  subscript_stays (tree.Section a b c) n f = three tree.Section _ _ _ _ _ _ (stays a n.0 f.0) (stays b n.1 f.1)
      (stays c n.2 f.2)

  subscripts_stay : (ss : Subscripts) → AreNarrowSubscripts ss → AreFitSubscripts ss → held_subscripts ss ≡ ss
  subscripts_stay tree.no_subscripts n f = refl
  subscripts_stay (tree.subscript s ss) n f = ap₂ tree.subscript (subscript_stays s n.0 f.0)
      (subscripts_stay ss n.1 f.1)

  loops_stay : (ls : Loops) → AreNarrowLoops ls → AreFitLoops ls → held_loops ls ≡ ls
  loops_stay tree.no_loops n f = refl
  loops_stay (tree.loop x a b ls) n f =
      ap (λ (y : Expression). tree.loop x y (held b) (held_loops ls)) (stays a n.0 f.0)
      ∙ ap₂ (tree.loop x a) (stays b n.1 f.1) (loops_stay ls n.2 f.2)

pub fit_trees_stay : FitTreesStay
fit_trees_stay e n f = stays e n f

-- ---- what has a kind

dimension_fits : (d r : ℕ) → d ≤ r + 1 → r < 7 → d ≤ 2 ^ 64 - 1
dimension_fits d r h k = omega arith

held_dimension_fits : (d r : ℕ) → held_dimension d ≤ r + 1 → r < 7 → d ≤ 2 ^ 64 - 1
held_dimension_fits d r h k = omega arith

module _ (ds : List Declaration) where
  mutual
    fits : (e : Expression) (k : Kind) → HasKind ds e k → IsFit e
    fits (tree.Number z) k h = tt
    fits (tree.Logic b) k h = tt
    fits (tree.Named x ss) k h = subscripts_fit ss h.1
    fits (tree.Unary o a) k h = fits a (operand_kind o) h.2
    fits (tree.Binary o a b) k h = (fits a (operand_kind o) h.2, fits b (operand_kind o) h.3)
    fits (tree.Apply f es) k h = arguments_fit es h.3
    fits (tree.Constructor es ls) k h = (scalars_fit es k h.0, loops_fit ls h.2)
    fits (tree.Spread a d n) k h = (dimension_fits d _ h.2 h.3, fits a k h.4, fits n Integer h.5)
    fits (tree.Transpose a) k h = fits a k h.2
    fits (tree.Reshape a es) k h = (fits a k h.4, scalars_fit es Integer h.5)
    fits (tree.Reduce r a) k h = fits a Integer h.3

    arguments_fit : (es : Expressions) → AreArguments ds es → AreFit es
    arguments_fit tree.no_expressions h = tt
    arguments_fit (tree.expression e es) h = (fits e Integer h.0, arguments_fit es h.2)

    scalars_fit : (es : Expressions) (k : Kind) → AreScalars ds es k → AreFit es
    scalars_fit tree.no_expressions k h = tt
    scalars_fit (tree.expression e es) k h = (fits e k h.0.0, scalars_fit es k h.1)

    subscripts_fit : (ss : Subscripts) → AreSubscripts ds ss → AreFitSubscripts ss
    subscripts_fit tree.no_subscripts h = tt
    subscripts_fit (tree.subscript s ss) h = (subscript_fits s h.0, subscripts_fit ss h.1)

    subscript_fits : (s : Subscript) → IsSubscript ds s → IsFitSubscript s
    subscript_fits (tree.Only e) h = fits e Integer h.0
    subscript_fits (tree.Section a b c) h = (fits a Integer h.0.0, fits b Integer h.1.0, fits c Integer h.2.0)

    loops_fit : (ls : Loops) → AreLoops ds ls → AreFitLoops ls
    loops_fit tree.no_loops h = tt
    loops_fit (tree.loop x a b ls) h = (fits a Integer h.1.0, fits b Integer h.2.0, loops_fit ls h.3)

  -- the same by what is held
  mutual
    held_fits : (e : Expression) (k : Kind) → HasKind ds (held e) k → IsFit e
    held_fits (tree.Number z) k h = tt
    held_fits (tree.Logic b) k h = tt
    held_fits (tree.Named x ss) k h = held_subscripts_fit ss h.1
    held_fits (tree.Unary o a) k h = held_fits a (operand_kind o) h.2
    held_fits (tree.Binary o a b) k h = (held_fits a (operand_kind o) h.2, held_fits b (operand_kind o) h.3)
    held_fits (tree.Apply f es) k h = held_arguments_fit es h.3
    held_fits (tree.Constructor es ls) k h = (held_scalars_fit es k h.0, held_loops_fit ls h.2)
    held_fits (tree.Spread a d n) k h = (held_dimension_fits d _ h.2 h.3, held_fits a k h.4, held_fits n Integer h.5)
    held_fits (tree.Transpose a) k h = held_fits a k h.2
    held_fits (tree.Reshape a es) k h = (held_fits a k h.4, held_scalars_fit es Integer h.5)
    held_fits (tree.Reduce r a) k h = held_fits a Integer h.3

    held_arguments_fit : (es : Expressions) → AreArguments ds (held_all es) → AreFit es
    held_arguments_fit tree.no_expressions h = tt
    held_arguments_fit (tree.expression e es) h = (held_fits e Integer h.0, held_arguments_fit es h.2)

    held_scalars_fit : (es : Expressions) (k : Kind) → AreScalars ds (held_all es) k → AreFit es
    held_scalars_fit tree.no_expressions k h = tt
    held_scalars_fit (tree.expression e es) k h = (held_fits e k h.0.0, held_scalars_fit es k h.1)

    held_subscripts_fit : (ss : Subscripts) → AreSubscripts ds (held_subscripts ss) → AreFitSubscripts ss
    held_subscripts_fit tree.no_subscripts h = tt
    held_subscripts_fit (tree.subscript s ss) h = (held_subscript_fits s h.0, held_subscripts_fit ss h.1)

    held_subscript_fits : (s : Subscript) → IsSubscript ds (held_subscript s) → IsFitSubscript s
    held_subscript_fits (tree.Only e) h = held_fits e Integer h.0
    held_subscript_fits (tree.Section a b c) h =
        (held_fits a Integer h.0.0, held_fits b Integer h.1.0, held_fits c Integer h.2.0)

    held_loops_fit : (ls : Loops) → AreLoops ds (held_loops ls) → AreFitLoops ls
    held_loops_fit tree.no_loops h = tt
    held_loops_fit (tree.loop x a b ls) h =
        (held_fits a Integer h.1.0, held_fits b Integer h.2.0, held_loops_fit ls h.3)

pub kinds_stay : KindsStay
kinds_stay ds e k n (inl h) = stays e n (fits ds e k h)
kinds_stay ds e k n (inr h) = stays e n (held_fits ds e k h)
