-- The names of a program of Fortran 90 (ISO/IEC 1539:1991, sections 5 and 12.5.2): each is declared, once, and has as
-- many subscripts as dimensions.
use Rattle.std.specs.Prelude.{◌≡◌, ◌⊎◌, ℕ, Bool, false, ◌||◌, Option, None, Some, List, [], ◌∷◌, ◌++◌, map}
use Rattle.std.specs.Option.{IsSomeAnd}
use Rattle.std.specs.List.{AllByRecursion, flat_map}
use Rattle.tree.specs.Plain.{Declaration}
use Rattle.tree.specs.declared.functions.Intrinsic.{Intrinsic}
use Rattle.meaning.specs.Names.{is_among}
use Rattle.meaning.specs.Typed.{declared, rank_of_extent}
use Rattle.f90_grammar.specs.Phrases as phrases
use Rattle.f90_grammar.specs.Phrases.{Phrase90, Literal, Truth, Name, Listed, Paren, Signed, Joined, Values, Looped}
use Rattle.f90_grammar.specs.Phrases.{ListPart, Value, Range, Strided, ListParts, One, Then, Phrases90, Turn, Innermost}
use Rattle.f90_grammar.specs.Phrases.{Round, length_of_parts}
use Rattle.f90_grammar.specs.Forms as forms
use Rattle.f90_grammar.specs.Forms.{Form90}
use Rattle.f90_grammar.specs.Blocks.{Placed}
use Rattle.f90_grammar.specs.Reading.{entity_declaration, function_by}
use Rattle.f90_grammar.specs.Contents.{expressions_of, stored_variables_of}

-- ---- declarations, in the order of the text, misplaced ones too

abbrev pub declarations_in : Form90 → List Declaration
declarations_in (forms.Declare k a es) = map (entity_declaration k a) es
declarations_in f = []

abbrev pub declarations_of : List Placed → List Declaration
declarations_of ps = flat_map (λ (p : Placed). declarations_in p.form) ps

abbrev pub declared_names_of : List Declaration → List (List ℕ)
declared_names_of ds = map (λ (d : Declaration). d.name) ds

-- which names are functions in these statements
abbrev pub functions_in : List Placed → List ℕ → Option Intrinsic
functions_in ps = function_by (declarations_of ps)

-- one of the names is among those declared before, or stands before it in the list
abbrev pub is_repeated : List (List ℕ) → List (List ℕ) → Bool
is_repeated earlier [] = false
is_repeated earlier (x ∷ xs) = is_among earlier x || is_repeated (x ∷ earlier) xs

-- the statement declares a name again
abbrev pub declares_again : List Placed → Form90 → Bool
declares_again before f =
    is_repeated (declared_names_of (declarations_of before)) (declared_names_of (declarations_in f))

-- ---- names as they stand in a statement, each with the number of parts in its parentheses, 0 without any

pub record Use90 : Type 0 where
  pub name : List ℕ
  pub parts : ℕ

abbrev pub use90_of : List ℕ → ℕ → Use90
use90_of x n = record { name = x; parts = n }

-- a function isn't declared
abbrev pub use_unless_function : Option Intrinsic → List ℕ → ℕ → List Use90
use_unless_function None x n = use90_of x n ∷ []
use_unless_function (Some f) x n = []

module _ (function : List ℕ → Option Intrinsic) where
  abbrev mutual
    pub uses90_in : Phrase90 → List Use90
    uses90_in (Literal t) = []
    uses90_in (Truth b) = []
    uses90_in (Name x) = use90_of x 0 ∷ []
    uses90_in (Listed x ps) = use_unless_function (function x) x (length_of_parts ps) ++ uses_in_parts ps
    uses90_in (Paren p) = uses90_in p
    uses90_in (Signed s p) = uses90_in p
    uses90_in (Joined o a b) = uses90_in a ++ uses90_in b
    uses90_in (Values ps) = uses_in_values ps
    uses90_in (Looped t) = uses_in_turn t

    pub uses_in_part : ListPart → List Use90
    uses_in_part (Value p) = uses90_in p
    uses_in_part (Range a b) = uses90_in a ++ uses90_in b
    uses_in_part (Strided a b c) = uses90_in a ++ (uses90_in b ++ uses90_in c)

    pub uses_in_parts : ListParts → List Use90
    uses_in_parts (One p) = uses_in_part p
    uses_in_parts (Then ps p) = uses_in_parts ps ++ uses_in_part p

    pub uses_in_values : Phrases90 → List Use90
    uses_in_values (phrases.Sole p) = uses90_in p
    uses_in_values (phrases.More ps p) = uses_in_values ps ++ uses90_in p

    pub uses_in_turn : Turn → List Use90
    uses_in_turn (Innermost p x a b) = uses90_in p ++ (use90_of x 0 ∷ (uses90_in a ++ uses90_in b))
    uses_in_turn (Round t x a b) = uses_in_turn t ++ (use90_of x 0 ∷ (uses90_in a ++ uses90_in b))

  -- what is stored into is never a function
  abbrev pub uses90_in_variable : Phrase90 → List Use90
  uses90_in_variable (Listed x ps) = use90_of x (length_of_parts ps) ∷ uses_in_parts ps
  uses90_in_variable p = uses90_in p

  abbrev pub array_use : Form90 → List Use90
  array_use (forms.Allocate x es) = use90_of x 0 ∷ []
  array_use (forms.Deallocate x) = use90_of x 0 ∷ []
  array_use f = []

  -- but for DO variables
  abbrev pub uses90_of : Form90 → List Use90
  uses90_of f =
      array_use f ++ (flat_map uses90_in (expressions_of f) ++ flat_map uses90_in_variable (stored_variables_of f))

-- the name is declared, and has a part for each dimension if it has any
abbrev pub IsKnown : List Declaration → Use90 → Type 0
IsKnown ds u = IsSomeAnd (declared ds u.name) (λ d. (u.parts ≡ 0) ⊎ (u.parts ≡ rank_of_extent d.extent))

-- all names of a statement are declared, where the declarations `ds` are those of the text
abbrev pub HasKnownNames : List Declaration → Form90 → Type 0
HasKnownNames ds f = AllByRecursion (IsKnown ds) (uses90_of (function_by ds) f)
