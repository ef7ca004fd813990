-- Lists of trees, and what is returned.
use Rattle.std.proofs.Common.{◌≡◌, ◌∙◌, ap, sym, refl, subst, ℕ, pos, List, [], ◌∷◌, ◌++◌, map, Option, Some, None}
use Rattle.std.proofs.Common.{Result, Ok, Err, IfOk}
use mathlib.Core.Path.{ap₂}
use Rattle.std.proofs.lemmas.List.{map_push}
use Rattle.tree.specs.Plain.{Expression}
use Rattle.tree.specs.View.{expression_of}
use Rattle.tree.specs.declared.exprs.Expr as code
use Rattle.tree.specs.declared.exprs.Expr.TheVariants as exprs
use Rattle.tree.specs.declared.functions.Intrinsic.{Intrinsic}
use Rattle.tree.proofs.Equations.{expression_of-int}
use Rattle.f90_grammar.specs.Blocks.{trees_by}
use Rattle.f90_grammar.specs.Items.{step_tree90}
use Rattle.f90_grammar.specs.Phrases.{Phrase90}
use Rattle.f90_expressions.specs.declared.nodes.Expression as read
use Rattle.f90_statement.specs.items.Flat.{flat_items}
use Rattle.f90_statement.specs.items.Reading.{IsListOf}
use Rattle.f90_statement.specs.items.Views.{IsNodeOf, AreNodesOf}
use Rattle.f90_statement.specs.declared.items.nodes.ItemList.{ItemList}
use Rattle.f90_statement.specs.declared.items.nodes.Node.{Node}
use Rattle.f90_statement.specs.items.parts.Bounds.{IsStepOf}
use Rattle.f90_statement.specs.Views.{AreOf}
use Rattle.f90_statement.proofs.AnyLaws.{nodes_are}
use Rattle.f90_trees.specs.Building.{held}
use Rattle.f90_blocks.specs.statement_trees.Results.{IsOf, AreOfSome, held_tree, held_trees}

-- ---- what is returned

pub if_ok : {A E : Type 0} (P Q : A → Type 0) (r : Result A E) → ((a : A) → P a → Q a) → IfOk r P → IfOk r Q
if_ok P Q (Ok a) f h = f a h
if_ok P Q (Err e) f h = h

-- ---- trees

trees_last : (f : Phrase90 → Expression) (ps : List Phrase90) (p : Phrase90) → trees_by f (ps ++ p ∷ []) ≡ trees_by f ps ++ f p ∷ []
trees_last f [] p = refl
trees_last f (q ∷ ps) p = ap (λ (es : List Expression). f q ∷ es) (trees_last f ps p)

module _ (function : List ℕ → Option Intrinsic) where
  pub trees_more : (done : List Phrase90) (p : Phrase90) (made new : List code.Expr) (x : code.Expr)
      → new ≡ made ++ x ∷ [] → expression_of x ≡ held_tree function p
      → map expression_of made ≡ held_trees function done → map expression_of new ≡ held_trees function (done ++ p ∷ [])
  trees_more done p made new x n e h =
      ap (map expression_of) n
      ∙ (map_push expression_of made x
      ∙ (ap₂ (λ (es : List Expression) (q : Expression). es ++ q ∷ []) h e
      ∙ sym (trees_last (held_tree function) done p)))

  pub step_none : (s : Option read.Expression) (c : Option Phrase90) → s ≡ None → IsStepOf s c
      → expression_of (exprs.Int (pos 1)) ≡ held (step_tree90 function c)
  step_none s c q h = by c (subst (λ (o : Option read.Expression). IsStepOf o c) q h)
    where
      by : (d : Option Phrase90) → IsStepOf None d → expression_of (exprs.Int (pos 1)) ≡ held (step_tree90 function d)
      by (Some p) k = absurd k
      by None k = expression_of-int (pos 1)

-- ---- lists

pub parts_of_list : (l : ItemList) (ns : List Node) (all : _) → ns ≡ l.nodes → IsListOf l all
    → AreOf IsNodeOf ns (flat_items all)
parts_of_list l ns all q h = nodes_are ns (flat_items all) (subst (λ (ms : List Node). AreNodesOf ms (flat_items all))
    (sym q) h.nodes)

pub some_parts : (l : ItemList) (ns : List Node) → ns ≡ l.nodes → IsOf IsListOf l → AreOfSome IsNodeOf ns
some_parts l ns q h = record { all = flat_items h.one; are_of = parts_of_list l ns h.one q h.is_of }
