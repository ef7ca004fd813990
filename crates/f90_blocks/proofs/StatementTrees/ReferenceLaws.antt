-- Left sides, and what is held of trees.
use Rattle.std.proofs.Common.{◌≡◌, ◌∙◌, ap, sym, refl, ℕ, false, not, List, Option, Some, None}
use Rattle.tree.specs.Plain as tree
use Rattle.tree.specs.Plain.{Expression, Reference}
use Rattle.tree.specs.View.{expression_of}
use Rattle.tree.specs.declared.exprs.Expr.{Expr}
use Rattle.tree.specs.declared.exprs.Expr.TheVariants as exprs
use Rattle.tree.specs.declared.exprs.Ref.{Ref}
use Rattle.tree.specs.declared.functions.Intrinsic.{Intrinsic}
use Rattle.tree.proofs.Equations.{expression_of-item}
use Rattle.reading.specs.Signs.{reference_in}
use Rattle.f90_grammar.specs.Phrases.{Phrase90, tree_of}
use Rattle.f90_trees.specs.Building.{held}
use Rattle.f90_blocks.specs.statement_trees.Executable.{is_named}
use Rattle.f90_blocks.specs.statement_trees.Held.{held_reference}
use Rattle.f90_blocks.specs.statement_trees.Results.{IsNamedBy, IsLeftOf}

-- a reference
pub item_named : (e : Expr) (r : Ref) → e ≡ exprs.Item r → IsNamedBy (expression_of e) (Some r)
item_named e r h =
    let k = ap expression_of h ∙ expression_of-item r in
    (ap is_named k, sym (ap reference_in k))

-- another expression
pub other_named : (e f : Expr) (x : Expression) → e ≡ f → expression_of f ≡ x → is_named x ≡ false
    → IsNamedBy (expression_of e) None
other_named e f x h k n = ap (λ (q : Expr). is_named (expression_of q)) h ∙ (ap is_named k ∙ n)

named_held : (e : Expression) → is_named (held e) ≡ is_named e
named_held (tree.Number z) = refl
named_held (tree.Logic b) = refl
named_held (tree.Named x ss) = refl
named_held (tree.Unary o a) = refl
named_held (tree.Binary o a b) = refl
named_held (tree.Apply f es) = refl
named_held (tree.Constructor es ls) = refl
named_held (tree.Spread a d n) = refl
named_held (tree.Transpose a) = refl
named_held (tree.Reshape a es) = refl
named_held (tree.Reduce r a) = refl

reference_held : (e : Expression) → reference_in (held e) ≡ held_reference (reference_in e)
reference_held (tree.Number z) = refl
reference_held (tree.Logic b) = refl
reference_held (tree.Named x ss) = refl
reference_held (tree.Unary o a) = refl
reference_held (tree.Binary o a b) = refl
reference_held (tree.Apply f es) = refl
reference_held (tree.Constructor es ls) = refl
reference_held (tree.Spread a d n) = refl
reference_held (tree.Transpose a) = refl
reference_held (tree.Reshape a es) = refl
reference_held (tree.Reduce r a) = refl

pub left_is : (function : List ℕ → Option Intrinsic) (l : Phrase90) (e : Expression) (made : Option Ref)
    → IsNamedBy e made → e ≡ held (tree_of function l) → IsLeftOf function l made
left_is function l e (Some r) h k =
    let t = tree_of function l in
    (ap not (sym (named_held t) ∙ (sym (ap is_named k) ∙ h.0)), h.1 ∙ (ap reference_in k ∙ reference_held t))
left_is function l e None h k =
    let t = tree_of function l in ap not (sym (named_held t) ∙ (sym (ap is_named k) ∙ h))
