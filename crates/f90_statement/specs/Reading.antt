-- What it is for words to be a statement, or to begin with a part of one.
use Rattle.std.specs.Prelude.{ℕ, ◌≡◌, ◌≤◌, length, Bool, IsTrue, Option, Some, None, List}
use Rattle.std.specs.Prelude.{[], ◌∷◌, ◌++◌, Result, Ok, Err}
use Rattle.std.specs.List.{AllByRecursion}
use Rattle.f90_grammar.specs.Forms.{Form90, IsWritten90, separated90, followed90, Dimension, SuitsAllocatable}
use Rattle.reading.specs.Characters.{IsList}
use Rattle.f90_grammar.specs.Forms.{written_dimension, written_sign}
use Rattle.tree.specs.OperatorTable.{Sign, Negation}
use Rattle.f90_grammar.specs.Items.{IsReference90}
use Rattle.f90_grammar.specs.Phrases.{Phrase90, IsExpression90, written90}
use Rattle.f90_grammar.specs.Words as words
use Rattle.f90_grammar.specs.Words.{Word90}
use Rattle.reading.specs.declared.stops.Stop.{Stop}
use Rattle.reading.specs.declared.stops.Stop.TheVariants.{Syntax, Memory}
use Rattle.f90_expressions.specs.Reading.{IsMadeOf}
use Rattle.f90_expressions.specs.declared.nodes.Expression.{Expression}
use Rattle.f90_statement.specs.Views.{AreOf, is_minus, IsEntityOf, IsActionOf, IsStatementOf}
use Rattle.f90_statement.specs.declared.nodes.Entity.{Entity}
use Rattle.f90_statement.specs.declared.nodes.Action.{Action}
use Rattle.f90_statement.specs.declared.nodes.Statement.{Statement}

-- ---- parts

-- behind an element of a list: another one, the end of its parenthesis, or nothing
abbrev pub EndsItem : List Word90 → Type 0
EndsItem [] = Unit {0}
EndsItem (words.Comma ∷ ws) = Unit {0}
EndsItem (words.Close ∷ ws) = Unit {0}
EndsItem ws = ⊥

-- and behind the list
abbrev pub EndsList : List Word90 → Type 0
EndsList [] = Unit {0}
EndsList (words.Close ∷ ws) = Unit {0}
EndsList ws = ⊥

module _ {A B : Type 0} (is : A → B → Type 0) (good : B → Type 0) (write : B → List Word90) where
  -- the words are a part, of which that was made, and a rest
  pub record Begins (ws : List Word90) (made : A) (rest : List Word90) : Type 0 where
    pub part : B
    pub is_of : is made part
    pub is_good : good part
    pub same : ws ≡ write part ++ rest

  -- that was made of this part, and that rest is what stands behind it
  abbrev pub IsThe : B → List Word90 → A → List Word90 → Type 0
  IsThe part last made rest = is made part × (rest ≡ last)

  -- while a list is read: of this list that was made of its front, and the back still stands before the rest
  pub record StillToRead (parts : List B) (last : List Word90) (made : List A) (rest : List Word90) : Type 0 where
    pub front : List B
    pub back : List B
    pub all : parts ≡ front ++ back
    pub are_good : AllByRecursion good back
    pub are : AreOf is made front
    pub same : rest ≡ followed90 write back ++ last

  abbrev pub ReadsOn : List Word90 → List A → List Word90 → Type 0
  ReadsOn ws made rest = (parts : List B) (last : List Word90) → IsList good parts → EndsList last
      → ws ≡ separated90 write parts ++ last → StillToRead parts last made rest

-- a list, of which that was made, and a rest
abbrev pub BeginsWithList : {A B : Type 0} → (A → B → Type 0) → (B → Type 0) → (B → List Word90) → List Word90 → List A
    → List Word90 → Type 0
BeginsWithList is good write ws made rest = Begins (AreOf is) (IsList good) (separated90 write) ws made rest

pub record IsBeingRead {A B : Type 0} (is : A → B → Type 0) (good : B → Type 0) (write : B → List Word90)
    (ws : List Word90)
    (made : List A) (rest : List Word90) : Type 0 where
  pub so_far : BeginsWithList is good write ws made rest
  pub only : ReadsOn is good write ws made rest

-- a sign or none stands before the rest, and whether it is a minus sign
pub record IsSigned (is_negative : Bool) (ws rest : List Word90) : Type 0 where
  pub sign : Option Sign
  pub good : sign ≡ Some Negation → ⊥
  pub is : is_negative ≡ is_minus sign
  pub same : ws ≡ written_sign sign ++ rest

-- the dimensions of a name with their closing parenthesis, and a rest
pub record EndsEntity (is_allocatable : Bool) (ws : List Word90) (name : List ℕ) (made : Entity) (rest : List Word90)
    : Type 0 where
  pub dimensions : List Dimension
  pub are_good : IsList (SuitsAllocatable is_allocatable) dimensions
  pub few : length dimensions ≤ 7
  pub is : IsEntityOf made (record { name = name; dimensions = dimensions })
  pub same : ws ≡ separated90 written_dimension dimensions ++ words.Close ∷ rest

-- that holds of what is returned, unless memory ran out
abbrev pub Given : {A : Type 0} → Result A Stop → (A → Type 0) → Type 0
Given (Ok a) holds = holds a
Given (Err Syntax) holds = ⊥
Given (Err Memory) holds = Unit {0}

abbrev pub GivenSome : {A : Type 0} → Option A → (A → Type 0) → Type 0
GivenSome (Some a) holds = holds a
GivenSome None holds = ⊥

-- ---- whole statements

module _ {S : Type 0} (is : S → Form90 → Type 0) where
  -- the words are a statement of the group, of which that was made
  pub record IsForm (group : Form90 → Bool) (ws : List Word90) (made : S) : Type 0 where
    pub form : Form90
    pub is_of : is made form
    pub written : IsWritten90 form ws
    pub among : IsTrue (group form)

  -- they are one, of which what is returned was made, or they are none, unless memory ran out
  abbrev pub Reads : (Form90 → Bool) → List Word90 → Result S Stop → Type 0
  Reads group ws (Ok made) = IsForm group ws made
  Reads group ws (Err Syntax) = (f : Form90) → IsWritten90 f ws → IsTrue (group f) → ⊥
  Reads group ws (Err Memory) = Unit {0}

abbrev pub ReadsAction : (Form90 → Bool) → List Word90 → Result Action Stop → Type 0
ReadsAction group ws result = Reads IsActionOf group ws result

abbrev pub ReadsStatement : (Form90 → Bool) → List Word90 → Result Statement Stop → Type 0
ReadsStatement group ws result = Reads IsStatementOf group ws result

-- the words are a statement, of which that was made
pub record IsStatement (ws : List Word90) (made : Statement) : Type 0 where
  pub form : Form90
  pub is_of : IsStatementOf made form
  pub written : IsWritten90 form ws

-- ---- the sides of an assignment

pub record AreSides (ws : List Word90) (l r : Phrase90) : Type 0 where
  pub same : ws ≡ written90 l ++ words.Equals ∷ written90 r
  pub reference : IsReference90 l
  pub left : IsExpression90 l
  pub right : IsExpression90 r

pub record HasSides (ws : List Word90) (made : Expression × Expression) : Type 0 where
  pub left : Phrase90
  pub right : Phrase90
  pub are : AreSides ws left right
  pub is_left : IsMadeOf made.0 left
  pub is_right : IsMadeOf made.1 right

abbrev pub ReadsSides : List Word90 → Result (Expression × Expression) Stop → Type 0
ReadsSides ws (Ok made) = HasSides ws made
ReadsSides ws (Err Syntax) = (l r : Phrase90) → AreSides ws l r → ⊥
ReadsSides ws (Err Memory) = Unit {0}

-- the right one, with its equals sign
pub record HasRight (ws : List Word90) (made : Expression) : Type 0 where
  pub right : Phrase90
  pub good : IsExpression90 right
  pub is : IsMadeOf made right
  pub same : ws ≡ words.Equals ∷ written90 right

abbrev pub ReadsRight : List Word90 → Result Expression Stop → Type 0
ReadsRight ws (Ok made) = HasRight ws made
ReadsRight ws (Err Syntax) = (r : Phrase90) → IsExpression90 r → ws ≡ words.Equals ∷ written90 r → ⊥
ReadsRight ws (Err Memory) = Unit {0}

-- ---- a condition, up to the parenthesis that closes it

abbrev pub closed : Phrase90 → List Word90 → List Word90
closed p rest = written90 p ++ words.Close ∷ rest

pub record BeginsWithCondition (ws : List Word90) (e : Expression) (rest : List Word90) : Type 0 where
  pub phrase : Phrase90
  pub is : IsMadeOf e phrase
  pub good : IsExpression90 phrase
  pub same : ws ≡ closed phrase rest
