-- What is returned of a statement, by whether it has a tree.
use mathlib.Core.Path.{fun_ext}
use Rattle.std.proofs.Common.{◌≡◌, ◌↔◌, refl, sym, subst, ◌∙◌, ℕ, Bool, true, false, not, List, [], ◌∷◌, ◌++◌, Option}
use Rattle.std.proofs.Common.{None, Some, IfSome, Decides}
use Rattle.tree.specs.Plain.{Declaration}
use Rattle.tree.specs.declared.functions.Intrinsic.{Intrinsic}
use Rattle.f90_blocks.specs.declared.nodes.Treed.{Treed}
use Rattle.f90_blocks.specs.Treed.{IsTreedOf}
use Rattle.f90_blocks.specs.places.forms.Places.{IsPlacedOf}
use Rattle.f90_blocks.specs.declared.places.forms.placing.Placed as code
use Rattle.f90_grammar.specs.Blocks.{Placed}
use Rattle.f90_grammar.specs.Declared.{HasKnownNames}
use Rattle.f90_grammar.specs.Order.{Place90, is_executable90}
use Rattle.f90_grammar.specs.Reading.{function_by}
use Rattle.f90_grammar.specs.Suited.{Suits}
use Rattle.f90_statement.specs.Views.{AreOf}
use Rattle.f90_blocks.specs.statement_trees.Executable.{has_tree}
use Rattle.f90_blocks.specs.statement_trees.Held.{IsHeldTreeOf, IsHeldForm}
use Rattle.f90_blocks.specs.statement_trees.Results.{Gives}
use Rattle.f90_blocks.specs.statement_trees.Trees.{IsTreeOf, IsTreeIn}
use Rattle.f90_blocks.specs.declared.statement_trees.nodes.StatementTree.{StatementTree}
use Rattle.f90_blocks.proofs.StatementTrees.LoopLaws as loops
use Rattle.f90_blocks.proofs.StatementTrees.LoopLaws.{IsUpTo, are_both, are_more}
use Rattle.f90_trees.specs.Hiding.{function_in}
use Rattle.f90_trees.specs.declared.functions.Functions.{Functions}
use Rattle.f90_read.specs.f90_suits.Known.{KnowsTree}
use Rattle.f90_read.specs.f90_suits.Ready.{AreFunctionsOf, IsReadyAt, AreReady, HoldsOfAll}
use Rattle.f90_read.specs.f90_suits.Suited.{SuitsTree}
use Rattle.f90_read.proofs.F90Suits.HeldNames.{through}
use Rattle.f90_read.proofs.F90Suits.NamedForms.{IsFormed, known_by_tree, known_without_tree}
use Rattle.f90_read.proofs.F90Suits.StayedForms.{narrow_form, held_form}
use Rattle.f90_read.proofs.F90Suits.SuitedForms.{suited_by_tree, suited_without_tree, idle_without_tree}
use Rattle.f90_read.proofs.F90Suits.Walks.{all_of_places}

module _ (functions : Functions) (ds : List Declaration) (of : AreFunctionsOf functions ds) (p : Placed)
    (ready : IsReadyAt ds p) where
  same_functions : function_in functions ≡ function_by ds
  same_functions = fun_ext of.are

  given : (t : Option StatementTree) → Gives (function_in functions) p t → Gives (function_by ds) p t
  given t h = subst (λ (f : List ℕ → Option Intrinsic). Gives f p t) same_functions h

  formed : IsFormed ds p.form
  formed = record { written = ready.written; calls = ready.calls }

  pub known_of_tree : (t : StatementTree) (b : Bool) → Gives (function_in functions) p (Some t) → Decides b
      (KnowsTree ds t) → Decides b (HasKnownNames ds p.form)
  known_of_tree t b g d = through d (known_by_tree ds p t (given (Some t) g).0 of.named formed)

  pub known_of_none : (b : Bool) → Gives (function_in functions) p None → b ≡ is_executable90 p.form → Decides (not b)
      (HasKnownNames ds p.form)
  known_of_none b g e =
      subst (λ (c : Bool). Decides (not c) (HasKnownNames ds p.form)) (sym e)
      (known_without_tree ds p.form of.named formed (given None g))

  pub suited_of_tree : (t : StatementTree) (b : Bool) → Gives (function_in functions) p (Some t) → Decides b
      (SuitsTree ds t) → Decides b (Suits ds p.form)
  suited_of_tree t b g d = through d (suited_by_tree ds p t (given (Some t) g).0
      (narrow_form (function_by ds) p.form ready.narrow))

  pub suited_of_none : (b : Bool) → Gives (function_in functions) p None → b ≡ is_executable90 p.form → Decides (not b)
      (Suits ds p.form)
  suited_of_none b g e = subst (λ (c : Bool). Decides (not c) (Suits ds p.form)) (sym e)
      (suited_without_tree ds p.form of.named (given None g))

  -- nothing is cut
  pub held_all : Suits ds p.form → IsHeldForm (function_in functions) p.form
  held_all s =
      subst (λ (f : List ℕ → Option Intrinsic). IsHeldForm f p.form) (sym same_functions)
      (held_form ds p.form (narrow_form (function_by ds) p.form ready.narrow) s)

  pub tree_of_some : (t : StatementTree) → IsTreeOf (function_in functions) p t → IsTreeOf (function_by ds) p t
  tree_of_some t h = subst (λ (f : List ℕ → Option Intrinsic). IsTreeOf f p t) same_functions h

  pub idle_of_none : Suits ds p.form → Gives (function_in functions) p None → is_executable90 p.form ≡ false
  idle_of_none s g = idle_without_tree ds p.form of.named s (given None g)

  pub tree_in : (t : Option StatementTree) → Suits ds p.form → Gives (function_in functions) p t → IfSome t
      (λ (made : StatementTree). IsTreeOf (function_in functions) p made)
      → IsTreeIn (function_by ds) t p
  tree_in (Some t) s g w = tree_of_some t w
  tree_in None s g w = idle_of_none s g

-- ---- the trees of a text

-- the statement is ready, and suits
abbrev pub IsGood : List Declaration → Placed → Type 0
IsGood ds p = IsReadyAt ds p × Suits ds p.form

abbrev pub IsGoodPlaced : List Declaration → code.Placed → Placed → Type 0
IsGoodPlaced ds k p = IsPlacedOf k p × IsGood ds p

abbrev pub TreesUpTo : List Declaration → List code.Placed → List Placed → List Treed → ℕ → Type 0
TreesUpTo ds text ps made n = IsUpTo (IsGoodPlaced ds)
    (λ (done : List Placed). AreOf (IsTreedOf (function_by ds)) made done) text n ps

pub trees_begun : (functions : Functions) (ds : List Declaration) (text : List code.Placed) (ps : List Placed)
    → AreOf IsPlacedOf text ps → AreReady functions ds ps
    → HoldsOfAll (Suits ds) ps → TreesUpTo ds text ps [] 0
trees_begun functions ds text ps a r s =
    loops.begun (IsGoodPlaced ds) (λ (done : List Placed). AreOf (IsTreedOf (function_by ds)) [] done) text ps
    (are_both IsPlacedOf (IsGood ds) text ps a (all_of_places (IsGood ds) ps (λ p i. (r.each p i, s p i)))) tt
