-- An expression as a list of its parts, each behind the parts that it is made of.
use Rattle.std.specs.Prelude.{ℕ, Bool, true, ◌&&◌, List, [], ◌∷◌, ◌++◌}
use Rattle.tree.specs.declared.ops.Op.{Op}
use Rattle.tree.specs.OperatorTable.{Sign, may_follow}
use Rattle.f90_grammar.specs.Phrases as phrases
use Rattle.f90_grammar.specs.Phrases.{Phrase90, ListPart, Value, Range, Strided, ListParts, Phrases90, Turn}
use Rattle.f90_grammar.specs.Phrases.{begins_with_sign90}
use Rattle.reading.specs.Signs.{sign_word}

-- `Begin` stands before the parts of a list, each of which is a value, or a section with its two bounds, and with its
-- stride; and before the values or the turn of a constructor. A turn is the innermost one, or one round another
pub data Node : Type 0 where
  Digits : List ℕ → Node
  Truth : Bool → Node
  Name : List ℕ → Node
  Parenthesis : Node
  Prefix : Sign → Node
  Infix : Op → Node
  One : Node
  Bounds : Node
  Stride : Node
  Begin : Node
  Listed : List ℕ → Node
  Values : Node
  Inner : List ℕ → Node
  Outer : List ℕ → Node
  Looped : Node

abbrev mutual
  pub flat : Phrase90 → List Node
  flat (phrases.Literal t) = Digits t ∷ []
  flat (phrases.Truth b) = Truth b ∷ []
  flat (phrases.Name x) = Name x ∷ []
  flat (phrases.Listed x ps) = Begin ∷ (flat_parts ps ++ Listed x ∷ [])
  flat (phrases.Paren p) = flat p ++ Parenthesis ∷ []
  flat (phrases.Signed s p) = flat p ++ Prefix s ∷ []
  flat (phrases.Joined o a b) = flat a ++ (flat b ++ Infix o ∷ [])
  flat (phrases.Values ps) = Begin ∷ (flat_values ps ++ Values ∷ [])
  flat (phrases.Looped t) = Begin ∷ (flat_turn t ++ Looped ∷ [])

  pub flat_part : ListPart → List Node
  flat_part (Value p) = flat p ++ One ∷ []
  flat_part (Range a b) = flat a ++ (flat b ++ Bounds ∷ [])
  flat_part (Strided a b c) = flat a ++ (flat b ++ (flat c ++ Stride ∷ []))

  pub flat_parts : ListParts → List Node
  flat_parts (phrases.One p) = flat_part p
  flat_parts (phrases.Then ps p) = flat_parts ps ++ flat_part p

  pub flat_values : Phrases90 → List Node
  flat_values (phrases.Sole p) = flat p
  flat_values (phrases.More ps p) = flat_values ps ++ flat p

  pub flat_turn : Turn → List Node
  flat_turn (phrases.Innermost p x a b) = flat p ++ (flat a ++ (flat b ++ Inner x ∷ []))
  flat_turn (phrases.Round t x a b) = flat_turn t ++ (flat a ++ (flat b ++ Outer x ∷ []))

-- each plus or minus sign stands where one may
abbrev mutual
  pub placed : Phrase90 → Bool
  placed (phrases.Literal t) = true
  placed (phrases.Truth b) = true
  placed (phrases.Name x) = true
  placed (phrases.Listed x ps) = placed_parts ps
  placed (phrases.Paren p) = placed p
  placed (phrases.Signed s p) = placed p && may_follow (sign_word s) (begins_with_sign90 p)
  placed (phrases.Joined o a b) = (placed a && placed b) && may_follow o (begins_with_sign90 b)
  placed (phrases.Values ps) = placed_values ps
  placed (phrases.Looped t) = placed_turn t

  pub placed_part : ListPart → Bool
  placed_part (Value p) = placed p
  placed_part (Range a b) = placed a && placed b
  placed_part (Strided a b c) = (placed a && placed b) && placed c

  pub placed_parts : ListParts → Bool
  placed_parts (phrases.One p) = placed_part p
  placed_parts (phrases.Then ps p) = placed_parts ps && placed_part p

  pub placed_values : Phrases90 → Bool
  placed_values (phrases.Sole p) = placed p
  placed_values (phrases.More ps p) = placed_values ps && placed p

  pub placed_turn : Turn → Bool
  placed_turn (phrases.Innermost p x a b) = (placed p && placed a) && placed b
  placed_turn (phrases.Round t x a b) = (placed_turn t && placed a) && placed b
