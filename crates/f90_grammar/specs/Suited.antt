-- Statements of Fortran 90 whose kinds and ranks suit, each looked at alone (ISO/IEC 1539:1991, sections 6.3, 7.5, 8.1
-- and 9.4).
use Rattle.std.specs.Prelude.{◌≡◌, ◌⊎◌, ℕ, ◌≤◌, List}
use Rattle.std.specs.Option.{IsSomeAnd}
use Rattle.tree.specs.declared.ops.Kind.TheVariants.{Integer, Logical}
use Rattle.tree.specs.Plain.{Expression, Named, Reference, Expressions, expressions, Later, Declaration, Item}
use Rattle.tree.specs.Plain.{Single, Constant, ImpliedDo, Items, no_items, item, items}
use Rattle.meaning.specs.Value.{named}
use Rattle.meaning.specs.Typed.{declared, number_of_arguments}
use Rattle.meaning.specs.Typed90.{rank_of, rank_of_subscripts, HasKind, IsScalar, AreScalars, HasSomeKind}
use Rattle.meaning.specs.Extents.{IsAllocatable}
use Rattle.f90_grammar.specs.Phrases.{Phrase90, tree_of}
use Rattle.f90_grammar.specs.Items.{Direction, Input, Output, step_tree90, item_trees90}
use Rattle.f90_grammar.specs.Forms as forms
use Rattle.f90_grammar.specs.Forms.{Form90}
use Rattle.f90_grammar.specs.Blocks.{trees_by}
use Rattle.reading.specs.Signs.{reference_in}
use Rattle.f90_grammar.specs.Reading.{function_by}

-- by the declarations `ds`
module _ (ds : List Declaration) where
  -- the right side has the kind of the left side, and its rank or that of a scalar
  abbrev pub SuitsAssignment : Reference → Expression → Type 0
  SuitsAssignment left right =
      IsSomeAnd (declared ds left.name) (λ d. HasKind ds (named left) d.kind × HasKind ds right d.kind)
      × ((rank_of ds right ≡ 0) ⊎ (rank_of ds right ≡ rank_of ds (named left)))

  -- the mask and the left side are arrays of one rank
  abbrev pub SuitsMask : Expression → Reference → Type 0
  SuitsMask mask left =
      HasKind ds mask Logical × (1 ≤ rank_of ds (named left)) × (rank_of ds mask ≡ rank_of ds (named left))

  abbrev pub AreNumbers : Expression → Expression → Expression → Type 0
  AreNumbers a b c = IsScalar ds a Integer × IsScalar ds b Integer × IsScalar ds c Integer

  -- what is printed is any expression; what is read into is a variable, an element or a whole array
  abbrev pub SuitsList : Direction → Expression → Type 0
  SuitsList Output e = HasSomeKind ds e
  SuitsList Input (Named x ps) = HasSomeKind ds (Named x ps) × (rank_of_subscripts ds ps ≡ 0)
  SuitsList Input e = ⊥

  abbrev mutual
    pub SuitsItem : Direction → Item → Type 0
    SuitsItem d (Single e) = SuitsList d e
    SuitsItem d (Constant t) = Unit {0}
    SuitsItem d (ImpliedDo is x a b c) = SuitsItems d is × AreNumbers a b c

    pub SuitsItems : Direction → Items → Type 0
    SuitsItems d no_items = Unit {0}
    SuitsItems d (item i is) = SuitsItem d i × SuitsItems d is

  -- an allocatable array, with an extent for each of its dimensions
  abbrev pub SuitsAllocation : List ℕ → Expressions → Type 0
  SuitsAllocation x es =
      IsSomeAnd (declared ds x) (λ d. d.extent ≡ Later (number_of_arguments es)) × AreScalars ds es Integer

  abbrev pub suited_tree : Phrase90 → Expression
  suited_tree p = tree_of (function_by ds) p

  abbrev pub Suits : Form90 → Type 0
  Suits (forms.Assign l r) = SuitsAssignment (reference_in (suited_tree l)) (suited_tree r)
  Suits (forms.Where m l r) = SuitsMask (suited_tree m) (reference_in (suited_tree l))
      × SuitsAssignment (reference_in (suited_tree l)) (suited_tree r)
  Suits (forms.Test p f) = IsScalar ds (suited_tree p) Logical × Suits f
  Suits (forms.If p) = IsScalar ds (suited_tree p) Logical
  Suits (forms.ElseIf p) = IsScalar ds (suited_tree p) Logical
  Suits (forms.Do x a b c) = AreNumbers (suited_tree a) (suited_tree b) (step_tree90 (function_by ds) c)
  Suits (forms.Read is) = SuitsItems Input (items (item_trees90 (function_by ds) is))
  Suits (forms.Print is) = SuitsItems Output (items (item_trees90 (function_by ds) is))
  Suits (forms.Allocate x es) = SuitsAllocation x (expressions (trees_by suited_tree es))
  Suits (forms.Deallocate x) = IsSomeAnd (declared ds x) (λ d. IsAllocatable d.extent)
  Suits f = Unit {0}
