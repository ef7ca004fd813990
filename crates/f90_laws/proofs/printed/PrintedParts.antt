-- The parts of a program's statements, one behind another: title, IMPLICIT NONE, declarations, block and END.
use Rattle.std.proofs.Common.{◌≡◌, ℕ, Bool, Option, Some, None, List, [], ◌∷◌, ◌++◌, map, length, Contains}
use Rattle.std.specs.Prelude.{◌↔◌}
use Rattle.tree.specs.Plain.{Program, Declaration}
use Rattle.tree.specs.declared.ops.Kind.{Kind}
use Rattle.meaning.specs.Names.{IsInByteOrder}
use Rattle.f90_grammar.specs.Forms as forms
use Rattle.f90_grammar.specs.Forms.{Form90}
use Rattle.f90_grammar.specs.Blocks.{Placed, AreBlock90, placed_form}
use Rattle.f90_grammar.specs.Reading.{entity_declaration, function_by, is_target_in}

pub data IsTitle : List Placed → Option (List ℕ) → Type 0 where
  untitled : IsTitle [] None
  titled : (line : ℕ) (x : List ℕ) → IsTitle (placed_form line None (forms.Program x) ∷ []) (Some x)

pub data MayBeImplicitNone : List Placed → Type 0 where
  absent : MayBeImplicitNone []
  present : (line : ℕ) → MayBeImplicitNone (placed_form line None forms.ImplicitNone ∷ [])

-- END, END PROGRAM, or END PROGRAM with the program's name
pub data IsEnd : Form90 → Option (List ℕ) → Type 0 where
  end : (name : Option (List ℕ)) → IsEnd forms.End name
  end_program : (name : Option (List ℕ)) → IsEnd (forms.EndProgram None) name
  end_named : (x : List ℕ) → IsEnd (forms.EndProgram (Some x)) (Some x)

-- the names declared, each with its kind and extent, in the order of the text
pub data AreDeclared : List Placed → List Declaration → Type 0 where
  none : AreDeclared [] []
  more : (line : ℕ) (k : Kind) (a : Bool) (es : List forms.EntityForm90) (rest : List Placed) (ds : List Declaration)
      → AreDeclared rest ds → AreDeclared (placed_form line None (forms.Declare k a es) ∷ rest) (map (entity_declaration k a) es ++ ds)

-- the statements have these parts, and the program is made of them
pub record HasParts (ps : List Placed) (q : Program) : Type 0 where
  pub title : List Placed
  pub implicit : List Placed
  pub declared : List Placed
  pub body : List Placed
  pub last : Placed
  pub same : ps ≡ title ++ (implicit ++ (declared ++ (body ++ last ∷ [])))
  pub is_title : IsTitle title q.name
  pub is_implicit : MayBeImplicitNone implicit
  pub is_last : IsEnd last.form q.name
  pub in_text : List Declaration
  pub are_declared : AreDeclared declared in_text
  pub sorted : IsInByteOrder (map (λ (d : Declaration). d.name) q.declarations)
  pub each : (d : Declaration) → Contains in_text d ↔ Contains q.declarations d
  pub once : length in_text ≡ length q.declarations
  pub block : AreBlock90 (function_by q.declarations) (is_target_in q.body) body q.body
