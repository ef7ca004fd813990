-- The names of a tree are known where those of what is held of it are: numbers alone are cut.
use Rattle.std.proofs.Common.{◌≡◌, ◌⊎◌, ◌↔◌, ◌+◌, refl, ap, subst, ℕ, List, IsSome}
use Rattle.tree.specs.Plain as tree
use Rattle.tree.specs.Plain.{Expression, Expressions, Subscript, Subscripts, Loops, Reference, Item, Items}
use Rattle.tree.specs.Plain.{Statement, Declaration}
use Rattle.meaning.specs.Typed.{number_of_subscripts}
use Rattle.f90_grammar.specs.Declared.{IsKnown, use90_of}
use Rattle.f90_grammar.specs.Items.{Direction, Input, Output}
use Rattle.f90_grammar.specs.Reading.{function_by}
use Rattle.f90_names.specs.kinds.Known.{KnowsNames, KnowsAll, KnowsSubscripts, KnowsSubscript, KnowsLoops, KnowsReference}
use Rattle.f90_names.specs.kinds.Known.{KnowsSingle, KnowsItem, KnowsItems}
use Rattle.f90_trees.specs.Building.{held, held_all, held_subscript, held_subscripts, held_loops}
use Rattle.f90_blocks.specs.statement_trees.Held.{held_reference, held_item, held_items, held_statement}
use Rattle.f90_read.specs.f90_suits.Known.{KnowsStatement}

pub same : {A : Type 0} → (A ↔ A)
same = (λ h. h, λ h. h)

pub through : {A B C : Type 0} → (A ↔ B) → (B ↔ C) → (A ↔ C)
through f g = (λ h. g.0 (f.0 h), λ h. f.1 (g.1 h))

pub pair : {A B C D : Type 0} → (A ↔ B) → (C ↔ D) → ((A × C) ↔ (B × D))
pair f g = (λ h. (f.0 h.0, g.0 h.1), λ h. (f.1 h.0, g.1 h.1))

pub three : {A B C D E F : Type 0} → (A ↔ B) → (C ↔ D) → (E ↔ F) → ((A × C × E) ↔ (B × D × F))
three f g h = (λ k. (f.0 k.0, g.0 k.1, h.0 k.2), λ k. (f.1 k.0, g.1 k.1, h.1 k.2))

four : {A B C D E F G H : Type 0} → (A ↔ B) → (C ↔ D) → (E ↔ F) → (G ↔ H) → ((A × C × E × G) ↔ (B × D × F × H))
four f g h i = (λ k. (f.0 k.0, g.0 k.1, h.0 k.2, i.0 k.3), λ k. (f.1 k.0, g.1 k.1, h.1 k.2, i.1 k.3))

counted : (ss : Subscripts) → number_of_subscripts (held_subscripts ss) ≡ number_of_subscripts ss
counted tree.no_subscripts = refl
counted (tree.subscript s ss) = ap (λ (n : ℕ). 1 + n) (counted ss)

module _ (ds : List Declaration) where
  named : (x : List ℕ) (m n : ℕ) → m ≡ n → (IsKnown ds (use90_of x m) ↔ IsKnown ds (use90_of x n))
  named x m n e = subst (λ k. IsKnown ds (use90_of x m) ↔ IsKnown ds (use90_of x k)) e same

  called : (x : List ℕ) (m n : ℕ) → m ≡ n
      → ((IsSome (function_by ds x) ⊎ IsKnown ds (use90_of x m)) ↔
      (IsSome (function_by ds x) ⊎ IsKnown ds (use90_of x n)))
  called x m n e = subst (λ k. (IsSome (function_by ds x) ⊎ IsKnown ds (use90_of x m)) ↔
      (IsSome (function_by ds x) ⊎ IsKnown ds (use90_of x k))) e same

  mutual
    pub held_known : (e : Expression) → (KnowsNames ds (held e) ↔ KnowsNames ds e)
    held_known (tree.Number z) = same
    held_known (tree.Logic b) = same
    held_known (tree.Named x tree.no_subscripts) = same
    held_known (tree.Named x (tree.subscript s ss)) = pair (called x _ _ (counted (tree.subscript s ss)))
        (subscripts_known (tree.subscript s ss))
    held_known (tree.Unary o a) = held_known a
    held_known (tree.Binary o a b) = pair (held_known a) (held_known b)
    held_known (tree.Apply f es) = all_known es
    held_known (tree.Constructor es ls) = pair (all_known es) (loops_known ls)
    held_known (tree.Spread a d n) = pair (held_known a) (held_known n)
    held_known (tree.Transpose a) = held_known a
    held_known (tree.Reshape a es) = pair (held_known a) (all_known es)
    held_known (tree.Reduce r a) = held_known a

    all_known : (es : Expressions) → (KnowsAll ds (held_all es) ↔ KnowsAll ds es)
    all_known tree.no_expressions = same
    all_known (tree.expression e es) = pair (held_known e) (all_known es)

    subscript_known : (s : Subscript) → (KnowsSubscript ds (held_subscript s) ↔ KnowsSubscript ds s)
    subscript_known (tree.Only e) = held_known e
    subscript_known (tree.Section a b c) = three (held_known a) (held_known b) (held_known c)

    subscripts_known : (ss : Subscripts) → (KnowsSubscripts ds (held_subscripts ss) ↔ KnowsSubscripts ds ss)
    subscripts_known tree.no_subscripts = same
    subscripts_known (tree.subscript s ss) = pair (subscript_known s) (subscripts_known ss)

    loops_known : (ls : Loops) → (KnowsLoops ds (held_loops ls) ↔ KnowsLoops ds ls)
    loops_known tree.no_loops = same
    loops_known (tree.loop x a b ls) = four same (held_known a) (held_known b) (loops_known ls)

  reference_known : (r : Reference) → (KnowsReference ds (held_reference r) ↔ KnowsReference ds r)
  reference_known r = pair (named r.name _ _ (counted r.subscripts)) (subscripts_known r.subscripts)

  input_known : (e : Expression) → (KnowsSingle ds Input (held e) ↔ KnowsSingle ds Input e)
  input_known (tree.Named x ss) = pair (named x _ _ (counted ss)) (subscripts_known ss)
  input_known e = same

  single_known : (d : Direction) (e : Expression) → (KnowsSingle ds d (held e) ↔ KnowsSingle ds d e)
  single_known Output e = held_known e
  single_known Input e = input_known e

  mutual
    item_known : (d : Direction) (i : Item) → (KnowsItem ds d (held_item i) ↔ KnowsItem ds d i)
    item_known d (tree.Single e) = single_known d e
    item_known d (tree.Constant t) = same
    item_known d (tree.ImpliedDo is x a b c) = four (items_known d is) (held_known a) (held_known b) (held_known c)

    items_known : (d : Direction) (is : Items) → (KnowsItems ds d (held_items is) ↔ KnowsItems ds d is)
    items_known d tree.no_items = same
    items_known d (tree.item i is) = pair (item_known d i) (items_known d is)

  pub statement_known : (s : Statement) → (KnowsStatement ds (held_statement s) ↔ KnowsStatement ds s)
  statement_known (tree.Assignment line m r e) = pair (reference_known r) (held_known e)
  statement_known (tree.Where line m p r e) = three (held_known p) (reference_known r) (held_known e)
  statement_known (tree.Read line is) = items_known Input is
  statement_known (tree.Print line is) = items_known Output is
  statement_known (tree.Allocate line x es) = pair same (all_known es)
  statement_known s = same
