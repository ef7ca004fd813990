-- Where a name is used otherwise than the one rule of kinds asks, or a symbolic constant has a type other than its
-- name's, kinds by the text and by the tree come apart: each of these four premises is needed, beside the others.
use Rattle.std.specs.Prelude.{◌≡◌, true, false, List}
use Rattle.std.specs.List.{AllByRecursion}
use Rattle.tree.specs.Plain.{Expression}
use Rattle.tree.specs.declared.ops.Kind.{Kind}
use Rattle.meaning.specs.Dialect.{fortran77}
use Rattle.tree.specs.declared.width.Width.TheVariants.{Plain}
use Rattle.meaning.specs.Typed77.{HasKind}
use Rattle.f77_grammar.specs.Statement77.{Labelled}
use Rattle.f77_grammar.specs.program.Uses.{Use77, uses77_in, uses_in_text}
use Rattle.f77_grammar.specs.program.Declarations.{is_misused}
use Rattle.f77_grammar.specs.program.Kinds.{has_kind, calls_hidden}
use Rattle.f77_grammar.specs.program.Limits.{constants_of}
use Rattle.f77_grammar.specs.program.Tree.{resolved}
use Rattle.f77_laws.specs.trees.Steps.{tree_of}
use Rattle.f77_laws.specs.Source.{IsSourceCard}
use Rattle.f77_laws.specs.kinds.OneRule.{IsArrayOrFunction, HasConstants, IsExpressionOf}

abbrev pub HasTreeKind : List Labelled → Expression → Kind → Type 0
HasTreeKind text e k =
    HasKind (tree_of (fortran77 Plain) text).declarations (resolved (uses_in_text text) (constants_of
    (fortran77 Plain) text) e) k

pub record IsOfText (text : List Labelled) (e : Expression) : Type 0 where
  pub cards : AllByRecursion IsSourceCard text
  pub expression : IsExpressionOf text e

-- ---- what is asked of the names of an expression

abbrev pub CountsSuit : List Labelled → Expression → Type 0
CountsSuit text e = AllByRecursion (λ (u : Use77). is_misused (uses_in_text text) u ≡ false) (uses77_in e)

abbrev pub SpellingsAreFree : List Labelled → Expression → Type 0
SpellingsAreFree text e = AllByRecursion (λ (u : Use77). calls_hidden (uses_in_text text) u ≡ false) (uses77_in e)

abbrev pub ListsSuit : List Labelled → Expression → Type 0
ListsSuit text e = AllByRecursion (IsArrayOrFunction (uses_in_text text)) (uses77_in e)

-- ---- a kind by the tree alone, or by the text alone

abbrev pub HasKindInTreeAlone : List Labelled → Expression → Type 0
HasKindInTreeAlone text e = (k : Kind) × HasTreeKind text e k × (has_kind (uses_in_text text) e k ≡ false)

abbrev pub HasKindInTextAlone : List Labelled → Expression → Type 0
HasKindInTextAlone text e = (k : Kind) × (has_kind (uses_in_text text) e k ≡ true) × (HasTreeKind text e k → ⊥)

-- ---- beside a variable IABS the call IABS(1); beside a variable ABS that call; of an array with one dimension A(1,1);
-- a LOGICAL constant L that is defined as 1

abbrev pub ListsAreNeeded : Type 0
ListsAreNeeded = (text : List Labelled) × (e : Expression) × IsOfText text e
    × HasConstants (fortran77 Plain) text × CountsSuit text e × SpellingsAreFree text e × HasKindInTreeAlone text e

abbrev pub SpellingsAreNeeded : Type 0
SpellingsAreNeeded = (text : List Labelled) × (e : Expression) × IsOfText text e
    × HasConstants (fortran77 Plain) text × CountsSuit text e × ListsSuit text e × HasKindInTextAlone text e

abbrev pub CountsAreNeeded : Type 0
CountsAreNeeded = (text : List Labelled) × (e : Expression) × IsOfText text e
    × HasConstants (fortran77 Plain) text × SpellingsAreFree text e × ListsSuit text e × HasKindInTextAlone text e

abbrev pub ConstantsAreNeeded : Type 0
ConstantsAreNeeded = (text : List Labelled) × (e : Expression) × IsOfText text e
    × CountsSuit text e × SpellingsAreFree text e × ListsSuit text e × HasKindInTextAlone text e
