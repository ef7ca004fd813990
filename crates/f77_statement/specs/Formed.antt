-- Statements that were read, in the words of the grammar.
use Rattle.std.specs.Prelude.{ℕ, ◌≡◌, Bool, true, false, Option, Some, None, List, [], ◌∷◌, ◌++◌, map}
use Rattle.f77_grammar.specs.expressions.Words as words
use Rattle.f77_grammar.specs.Statement77 as statement
use Rattle.f77_grammar.specs.expressions.Words.{Word77}
use Rattle.f77_grammar.specs.statements.Forms.{Form77, EntityForm77, IsEntity77, separated77, deepest, written_entity77}
use Rattle.reading.specs.Characters.{IsList}
use Rattle.f77_grammar.specs.statements.Forms.{entity_tree, entity_depth, Definition, IsDefinition, written_definition}
use Rattle.f77_grammar.specs.statements.Forms.{definition_tree, definition_depth}
use Rattle.f77_statement.specs.declared.formed.Formed.{Formed}
use Rattle.f77_statement.specs.Parts.{capped, IsFormedOf}

-- A form that is such was read, and this was made of it.
pub record IsFound (Is : Form77 → Type 0) (made : Formed) : Type 0 where
  pub form : Form77
  pub is : Is form
  pub made_of : IsFormedOf made form

-- ---- all words as a list of names with bounds

pub record IsEntitiesOf (made : List statement.Entity) (d : ℕ) (es : List EntityForm77) : Type 0 where
  pub trees : made ≡ map entity_tree es
  pub deep : d ≡ capped (deepest entity_depth es)

pub record AreEntities (ws : List Word77) (made : List statement.Entity) (d : ℕ) : Type 0 where
  pub parts : List EntityForm77
  pub are : IsList IsEntity77 parts
  pub of : IsEntitiesOf made d parts
  pub same : ws ≡ separated77 written_entity77 parts

abbrev pub is_something : {A : Type 0} → List A → Bool
is_something [] = false
is_something (x ∷ xs) = true

abbrev pub has_bounds : statement.Entity → Bool
has_bounds e = is_something e.bounds

-- ---- all words as a list of symbolic constants in parentheses

pub record AreConstantsOf (made : List statement.NamedConstant) (d : ℕ) (ds : List Definition) : Type 0 where
  pub trees : made ≡ map definition_tree ds
  pub deep : d ≡ capped (deepest definition_depth ds)

pub record AreConstants (ws : List Word77) (made : List statement.NamedConstant) (d : ℕ) : Type 0 where
  pub parts : List Definition
  pub are : IsList IsDefinition parts
  pub of : AreConstantsOf made d parts
  pub same : ws ≡ words.Open ∷ (separated77 written_definition parts ++ words.Close ∷ [])

-- ---- the only word

abbrev pub IsLoneName : Option (List ℕ) → List Word77 → Type 0
IsLoneName (Some x) ws = ws ≡ words.Name x ∷ []
IsLoneName None ws = (x : List ℕ) → ws ≡ words.Name x ∷ [] → ⊥
