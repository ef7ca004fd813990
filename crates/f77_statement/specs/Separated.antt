-- Reading a list with commas, part by part.
use Rattle.std.specs.Prelude.{ℕ, ◌≡◌, List, [], ◌∷◌, ◌++◌, map}
use Rattle.std.specs.List.{AllByRecursion}
use Rattle.f77_grammar.specs.expressions.Words as words
use Rattle.f77_grammar.specs.expressions.Words.{Word77}
use Rattle.f77_grammar.specs.statements.Forms.{separated77, followed77, deepest}
use Rattle.reading.specs.Characters.{IsList}
use Rattle.f77_statement.specs.Parts.{capped}

-- what may stand behind a part of a list: a comma or a closing parenthesis
abbrev pub EndsPart : List Word77 → Type 0
EndsPart [] = Unit {0}
EndsPart (words.Comma ∷ ws) = Unit {0}
EndsPart (words.Close ∷ ws) = Unit {0}
EndsPart (w ∷ ws) = ⊥

-- and behind the list
abbrev pub EndsList : List Word77 → Type 0
EndsList [] = Unit {0}
EndsList (words.Close ∷ ws) = Unit {0}
EndsList (w ∷ ws) = ⊥

module _ {A T : Type 0} (write : A → List Word77) (good : A → Type 0) (tree : A → T) (depth : A → ℕ) where
  -- the words begin with a list, of which this was made
  pub record BeginsWithList (ws : List Word77) (made : List T) (d : ℕ) (rest : List Word77) : Type 0 where
    pub parts : List A
    pub are : IsList good parts
    pub trees : made ≡ map tree parts
    pub deep : d ≡ capped (deepest depth parts)
    pub same : ws ≡ separated77 write parts ++ rest

  -- of a list with a rest, this was made of its front, and the back still stands before the rest
  pub record StillToRead (parts : List A) (last : List Word77) (made : List T) (d : ℕ)
      (rest : List Word77) : Type 0 where
    pub front : List A
    pub back : List A
    pub all : parts ≡ front ++ back
    pub are : AllByRecursion good back
    pub trees : made ≡ map tree front
    pub deep : d ≡ capped (deepest depth front)
    pub same : rest ≡ followed77 write back ++ last

  abbrev pub Reads : List Word77 → List T → ℕ → List Word77 → Type 0
  Reads ws made d rest = (parts : List A) (last : List Word77) → IsList good parts → EndsList last
      → ws ≡ separated77 write parts ++ last → StillToRead parts last made d rest

  -- what was made is what the whole list gives, and the rest is what stands behind it
  abbrev pub IsRead : List A → List Word77 → List T → ℕ → List Word77 → Type 0
  IsRead parts last made d rest = (made ≡ map tree parts) × (d ≡ capped (deepest depth parts)) × (rest ≡ last)

  -- the words begin with a part, of which this was made
  pub record BeginsWithPart (ws : List Word77) (made : T) (d : ℕ) (rest : List Word77) : Type 0 where
    pub part : A
    pub is_good : good part
    pub tree_is : made ≡ tree part
    pub deep : d ≡ capped (depth part)
    pub same : ws ≡ write part ++ rest

  -- what was made is what this part gives
  abbrev pub IsThePart : A → List Word77 → T → ℕ → List Word77 → Type 0
  IsThePart part last made d rest = (made ≡ tree part) × (d ≡ capped (depth part)) × (rest ≡ last)

  -- a list that is being read
  pub record IsBeingRead (ws : List Word77) (made : List T) (d : ℕ) (rest : List Word77) : Type 0 where
    pub so_far : BeginsWithList ws made d rest
    pub only : Reads ws made d rest
