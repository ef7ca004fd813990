-- What is read of declarations.
use Rattle.std.specs.Prelude.{ℕ, ◌≡◌, ◌≤◌, max, List, ◌∷◌, ◌++◌, map, length}
use Rattle.f77_grammar.specs.Statement77 as statement
use Rattle.f77_grammar.specs.expressions.Words as words
use Rattle.tree.specs.Limits.{array_dimensions}
use Rattle.tree.specs.Plain.{Expression}
use Rattle.tree.specs.View.{expression_of}
use Rattle.f77_grammar.specs.expressions.Phrases.{Phrase77, IsExpression77, written77, tree77_of, phrase_depth77}
use Rattle.f77_grammar.specs.expressions.Words.{Word77}
use Rattle.f77_expressions.specs.declared.operands.Operand.{Operand}
use Rattle.f77_grammar.specs.statements.Forms.{separated77, EntityForm77, Bounded, IsEntity77, written_entity77}
use Rattle.reading.specs.Characters.{IsList}
use Rattle.f77_grammar.specs.statements.Forms.{entity_tree, entity_depth, Definition, IsDefinition, written_definition}
use Rattle.f77_grammar.specs.statements.Forms.{definition_tree, definition_depth, Bound77, IsBound77, written_bound77}
use Rattle.f77_grammar.specs.statements.Forms.{bound_tree, bound_depth}
use Rattle.f77_grammar.specs.syntax.Views.{bounds_of}
use Rattle.tree.specs.declared.exprs.Expr.{Expr}
use Rattle.f77_statement.specs.Parts.{capped}
use Rattle.f77_statement.specs.Separated.{BeginsWithList, IsRead, Reads, BeginsWithPart, IsThePart}

abbrev pub IsBoundOf : ℕ → Bound77 → Type 0
IsBoundOf d b = d ≡ capped (bound_depth b)

pub record BeginsWithBound (ws : List Word77) (bounds : Expression × Expression) (d : ℕ)
    (rest : List Word77) : Type 0 where
  pub bound : Bound77
  pub good : IsBound77 bound
  pub tree : bounds ≡ bound_tree bound
  pub deep : IsBoundOf d bound
  pub same : ws ≡ written_bound77 bound ++ rest

-- An expression behind the first bound and a colon, which gives the second.
pub record EndsBound (ws : List Word77) (first : Operand) (bounds : Expression × Expression) (d : ℕ)
    (rest : List Word77) : Type 0 where
  pub phrase : Phrase77
  pub good : IsExpression77 phrase
  pub tree : bounds ≡ (expression_of first.tree, tree77_of phrase)
  pub deep : d ≡ max first.depth (capped (phrase_depth77 phrase))
  pub same : ws ≡ written77 phrase ++ rest

abbrev pub AreBoundsRead : List Word77 → List (Expr × Expr) → ℕ → List Word77 → Type 0
AreBoundsRead ws made d rest =
    BeginsWithList written_bound77 IsBound77 bound_tree bound_depth ws (map bounds_of made) d rest

abbrev pub AreTheBounds : List Bound77 → List Word77 → List (Expr × Expr) → ℕ → List Word77 → Type 0
AreTheBounds bs last made d rest =
    IsRead written_bound77 IsBound77 bound_tree bound_depth bs last (map bounds_of made) d rest

-- while they are read
abbrev pub ReadsBounds : List Word77 → List (Expr × Expr) → ℕ → List Word77 → Type 0
ReadsBounds ws made d rest = Reads written_bound77 IsBound77 bound_tree bound_depth ws (map bounds_of made) d rest

pub record AreBoundsBeingRead (ws : List Word77) (made : List (Expr × Expr)) (d : ℕ) (rest : List Word77) : Type 0 where
  pub so_far : AreBoundsRead ws made d rest
  pub only : ReadsBounds ws made d rest

-- ---- names with bounds

abbrev pub BeginsWithEntity : List Word77 → statement.Entity → ℕ → List Word77 → Type 0
BeginsWithEntity ws made d rest = BeginsWithPart written_entity77 IsEntity77 entity_tree entity_depth ws made d rest

abbrev pub IsTheEntity : EntityForm77 → List Word77 → statement.Entity → ℕ → List Word77 → Type 0
IsTheEntity e last made d rest = IsThePart written_entity77 IsEntity77 entity_tree entity_depth e last made d rest

-- bounds and a closing parenthesis, behind a name with its opening one
pub record EndsEntity (ws : List Word77) (name : List ℕ) (made : statement.Entity) (d : ℕ)
    (rest : List Word77) : Type 0 where
  pub bounds : List Bound77
  pub are : IsList IsBound77 bounds
  pub few : length bounds ≤ array_dimensions
  pub tree : made ≡ entity_tree (Bounded name bounds)
  pub deep : d ≡ capped (entity_depth (Bounded name bounds))
  pub same : ws ≡ separated77 written_bound77 bounds ++ (words.Close ∷ rest)

-- ---- symbolic constants

abbrev pub BeginsWithDefinition : List Word77 → statement.NamedConstant → ℕ → List Word77 → Type 0
BeginsWithDefinition ws made d rest =
    BeginsWithPart written_definition IsDefinition definition_tree definition_depth ws made d rest

abbrev pub IsTheDefinition : Definition → List Word77 → statement.NamedConstant → ℕ → List Word77 → Type 0
IsTheDefinition x last made d rest =
    IsThePart written_definition IsDefinition definition_tree definition_depth x last made d rest
