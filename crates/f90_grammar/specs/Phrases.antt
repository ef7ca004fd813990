-- An expression of Fortran 90 as it is written, with its parentheses and signs, and what it stands for (ISO/IEC
-- 1539:1991, sections 4.5, 6.2, 7.1 and 13).
use Rattle.std.specs.Prelude.{ℕ, ◌+◌, ◌≤◌, max, pos, Bool, true, false, IsTrue, List, [], ◌∷◌}
use Rattle.std.specs.Prelude.{◌++◌, Option, Some, None, if◌then◌else◌}
use Rattle.std.specs.Str.Parse.{digits_value}
use Rattle.tree.specs.declared.ops.Op.{Op}
use Rattle.tree.specs.declared.functions.Intrinsic.{Intrinsic}
use Rattle.tree.specs.declared.functions.Intrinsic.TheVariants.{Elemental, Reduction, Spread, Transpose, Reshape}
use Rattle.tree.specs.Plain as tree
use Rattle.tree.specs.Plain.{Expression, Expressions, Subscript, Loops}
use Rattle.tree.specs.OperatorTable.{Sign, Plus, Minus, level_of, left_least, right_least, stands_between}
use Rattle.tree.specs.OperatorTable.{is_relation, may_follow, sign_level}
use Rattle.f90_grammar.specs.Words as words
use Rattle.f90_grammar.specs.Words.{Word90}
use Rattle.reading.specs.Signs.{sign_word, sign_depth, signed, argument_of}

-- A list in parentheses has one part at least: a value, or the bounds of a section with or without a stride. A
-- constructor has a list of values,
-- or one value under loops: its innermost part is a value, and each loop has its variable and two bounds
mutual
  pub data Phrase90 : Type 0 where
    Literal : List ℕ → Phrase90
    Truth : Bool → Phrase90
    Name : List ℕ → Phrase90
    Listed : List ℕ → ListParts → Phrase90
    Paren : Phrase90 → Phrase90
    Signed : Sign → Phrase90 → Phrase90
    Joined : Op → Phrase90 → Phrase90 → Phrase90
    Values : Phrases90 → Phrase90
    Looped : Turn → Phrase90

  pub data ListPart : Type 0 where
    Value : Phrase90 → ListPart
    Range : Phrase90 → Phrase90 → ListPart
    Strided : Phrase90 → Phrase90 → Phrase90 → ListPart

  pub data ListParts : Type 0 where
    One : ListPart → ListParts
    Then : ListParts → ListPart → ListParts

  pub data Phrases90 : Type 0 where
    Sole : Phrase90 → Phrases90
    More : Phrases90 → Phrase90 → Phrases90

  pub data Turn : Type 0 where
    Innermost : Phrase90 → List ℕ → Phrase90 → Phrase90 → Turn
    Round : Turn → List ℕ → Phrase90 → Phrase90 → Turn

abbrev pub phrase_level90 : Phrase90 → ℕ
phrase_level90 (Signed s p) = sign_level s
phrase_level90 (Joined o a b) = level_of o
phrase_level90 p = 10

abbrev pub begins_with_sign90 : Phrase90 → Bool
begins_with_sign90 (Signed Plus p) = true
begins_with_sign90 (Signed Minus p) = true
begins_with_sign90 (Joined o a b) = if is_relation o then false else begins_with_sign90 a
begins_with_sign90 p = false

abbrev mutual
  pub IsExpression90 : Phrase90 → Type 0
  IsExpression90 (Literal t) = Unit {0}
  IsExpression90 (Truth b) = Unit {0}
  IsExpression90 (Name x) = Unit {0}
  IsExpression90 (Listed x ps) = AreParts ps
  IsExpression90 (Paren p) = IsExpression90 p
  IsExpression90 (Signed s p) =
      (sign_level s + 1 ≤ phrase_level90 p) × IsTrue (may_follow (sign_word s) (begins_with_sign90 p))
      × IsExpression90 p
  IsExpression90 (Joined o a b) =
      IsTrue (stands_between o) × (left_least o ≤ phrase_level90 a) × (right_least o ≤ phrase_level90 b)
      × IsTrue (may_follow o (begins_with_sign90 b)) × IsExpression90 a × IsExpression90 b
  IsExpression90 (Values ps) = AreExpressions90 ps
  IsExpression90 (Looped t) = IsTurn t

  pub IsPart : ListPart → Type 0
  IsPart (Value p) = IsExpression90 p
  IsPart (Range a b) = IsExpression90 a × IsExpression90 b
  IsPart (Strided a b c) = IsExpression90 a × IsExpression90 b × IsExpression90 c

  pub AreParts : ListParts → Type 0
  AreParts (One p) = IsPart p
  AreParts (Then ps p) = AreParts ps × IsPart p

  pub AreExpressions90 : Phrases90 → Type 0
  AreExpressions90 (Sole p) = IsExpression90 p
  AreExpressions90 (More ps p) = AreExpressions90 ps × IsExpression90 p

  pub IsTurn : Turn → Type 0
  IsTurn (Innermost p x a b) = IsExpression90 p × IsExpression90 a × IsExpression90 b
  IsTurn (Round t x a b) = IsTurn t × IsExpression90 a × IsExpression90 b

-- ---- how it is written

abbrev mutual
  pub written90 : Phrase90 → List Word90
  written90 (Literal t) = words.Digits t ∷ []
  written90 (Truth b) = words.Truth b ∷ []
  written90 (Name x) = words.Name x ∷ []
  written90 (Listed x ps) = words.Head x ∷ (written_parts ps ++ words.Close ∷ [])
  written90 (Paren p) = words.Open ∷ (written90 p ++ words.Close ∷ [])
  written90 (Signed s p) = words.Operator (sign_word s) ∷ written90 p
  written90 (Joined o a b) = written90 a ++ words.Operator o ∷ written90 b
  written90 (Values ps) = words.OpenList ∷ (written_values ps ++ words.CloseList ∷ [])
  written90 (Looped t) = words.OpenList ∷ (written_turn t ++ words.CloseList ∷ [])

  pub written_part : ListPart → List Word90
  written_part (Value p) = written90 p
  written_part (Range a b) = written90 a ++ words.Colon ∷ written90 b
  written_part (Strided a b c) = written90 a ++ words.Colon ∷ (written90 b ++ words.Colon ∷ written90 c)

  pub written_parts : ListParts → List Word90
  written_parts (One p) = written_part p
  written_parts (Then ps p) = written_parts ps ++ words.Comma ∷ written_part p

  pub written_values : Phrases90 → List Word90
  written_values (Sole p) = written90 p
  written_values (More ps p) = written_values ps ++ words.Comma ∷ written90 p

  pub written_turn : Turn → List Word90
  written_turn (Innermost p x a b) =
      words.Open ∷ (written90 p ++ words.Comma ∷ (words.Name x ∷ (words.Equals ∷ (written90 a ++ words.Comma
      ∷ (written90 b ++ words.Close ∷ [])))))
  written_turn (Round t x a b) =
      words.Open ∷ (written_turn t ++ words.Comma ∷ (words.Name x ∷ (words.Equals ∷ (written90 a ++ words.Comma
      ∷ (written90 b ++ words.Close ∷ [])))))

-- ---- depth: each operator but a plus sign, each parenthesis, each list on a path counts one

abbrev mutual
  pub phrase_depth90 : Phrase90 → ℕ
  phrase_depth90 (Literal t) = 0
  phrase_depth90 (Truth b) = 0
  phrase_depth90 (Name x) = 0
  phrase_depth90 (Listed x ps) = depth_of_parts ps + 1
  phrase_depth90 (Paren p) = phrase_depth90 p + 1
  phrase_depth90 (Signed s p) = phrase_depth90 p + sign_depth s
  phrase_depth90 (Joined o a b) = max (phrase_depth90 a) (phrase_depth90 b) + 1
  phrase_depth90 (Values ps) = depth_of_values ps + 1
  phrase_depth90 (Looped t) = depth_of_turn t + 1

  pub depth_of_part : ListPart → ℕ
  depth_of_part (Value p) = phrase_depth90 p
  depth_of_part (Range a b) = max (phrase_depth90 a) (phrase_depth90 b)
  depth_of_part (Strided a b c) = max (max (phrase_depth90 a) (phrase_depth90 b)) (phrase_depth90 c)

  pub depth_of_parts : ListParts → ℕ
  depth_of_parts (One p) = depth_of_part p
  depth_of_parts (Then ps p) = max (depth_of_parts ps) (depth_of_part p)

  pub depth_of_values : Phrases90 → ℕ
  depth_of_values (Sole p) = phrase_depth90 p
  depth_of_values (More ps p) = max (depth_of_values ps) (phrase_depth90 p)

  pub depth_of_turn : Turn → ℕ
  depth_of_turn (Innermost p x a b) = max (phrase_depth90 p) (max (phrase_depth90 a) (phrase_depth90 b)) + 1
  depth_of_turn (Round t x a b) = max (depth_of_turn t) (max (phrase_depth90 a) (phrase_depth90 b)) + 1

-- ---- functions

abbrev pub length_of_parts : ListParts → ℕ
length_of_parts (One p) = 1
length_of_parts (Then ps p) = length_of_parts ps + 1

abbrev pub length_of_values : Phrases90 → ℕ
length_of_values (Sole p) = 1
length_of_values (More ps p) = length_of_values ps + 1

abbrev pub AreValues : ListParts → Type 0
AreValues (One (Value p)) = Unit {0}
AreValues (Then ps (Value p)) = AreValues ps
AreValues _ = ⊥

-- the second argument of SPREAD, where there are three, is a literal without parentheses or sign; that of RESHAPE,
-- where there are two, is a list of
-- one to seven values
abbrev pub HasLiteralDimension : ListParts → Type 0
HasLiteralDimension (Then (Then (One p) (Value (Literal t))) q) = Unit {0}
HasLiteralDimension (Then (Then (One p) q) r) = ⊥
HasLiteralDimension ps = Unit {0}

abbrev pub IsShape : ListParts → Type 0
IsShape (Then (One p) (Value (Values vs))) = length_of_values vs ≤ 7
IsShape (Then (One p) q) = ⊥
IsShape ps = Unit {0}

abbrev pub SuitsFunction : Option Intrinsic → ListParts → Type 0
SuitsFunction None ps = Unit {0}
SuitsFunction (Some Spread) ps = AreValues ps × HasLiteralDimension ps
SuitsFunction (Some Reshape) ps = AreValues ps × IsShape ps
SuitsFunction (Some f) ps = AreValues ps

-- ---- its tree, in which parentheses and plus signs leave no trace. `function` says which names are functions

abbrev pub value_of_digits : List ℕ → ℕ
value_of_digits t = digits_value 10 t

abbrev pub arguments90_of : List Subscript → List Expression
arguments90_of [] = []
arguments90_of (s ∷ ss) = argument_of s ∷ arguments90_of ss

abbrev pub natural_in : Expression → ℕ
natural_in (tree.Number (pos n)) = n
natural_in e = 0

abbrev pub list_in : Expression → Expressions
list_in (tree.Constructor es ls) = es
list_in e = tree.no_expressions

-- a call with a wrong number of arguments stays as it is written, and is refused
abbrev pub called : Option Intrinsic → List ℕ → List Subscript → Expression
called None x ss = tree.Named x (tree.subscripts ss)
called (Some (Elemental f)) x ss = tree.Apply f (tree.expressions (arguments90_of ss))
called (Some (Reduction r)) x (s ∷ []) = tree.Reduce r (argument_of s)
called (Some Spread) x (s ∷ d ∷ n ∷ []) = tree.Spread (argument_of s) (natural_in (argument_of d)) (argument_of n)
called (Some Transpose) x (s ∷ []) = tree.Transpose (argument_of s)
called (Some Reshape) x (s ∷ ns ∷ []) = tree.Reshape (argument_of s) (list_in (argument_of ns))
called (Some f) x ss = tree.Named x (tree.subscripts ss)

module _ (function : List ℕ → Option Intrinsic) where
  abbrev mutual
    pub tree_of : Phrase90 → Expression
    tree_of (Literal t) = tree.Number (pos (value_of_digits t))
    tree_of (Truth b) = tree.Logic b
    tree_of (Name x) = tree.Named x tree.no_subscripts
    tree_of (Listed x ps) = called (function x) x (trees_of_parts ps)
    tree_of (Paren p) = tree_of p
    tree_of (Signed s p) = signed s (tree_of p)
    tree_of (Joined o a b) = tree.Binary o (tree_of a) (tree_of b)
    tree_of (Values ps) = tree.Constructor (tree.expressions (trees_of_values ps)) tree.no_loops
    tree_of (Looped t) = looped t tree.no_loops

    pub tree_of_part : ListPart → Subscript
    tree_of_part (Value p) = tree.Only (tree_of p)
    tree_of_part (Range a b) = tree.Section (tree_of a) (tree_of b) (tree.Number (pos 1))
    tree_of_part (Strided a b c) = tree.Section (tree_of a) (tree_of b) (tree_of c)

    pub trees_of_parts : ListParts → List Subscript
    trees_of_parts (One p) = tree_of_part p ∷ []
    trees_of_parts (Then ps p) = trees_of_parts ps ++ tree_of_part p ∷ []

    pub trees_of_values : Phrases90 → List Expression
    trees_of_values (Sole p) = tree_of p ∷ []
    trees_of_values (More ps p) = trees_of_values ps ++ tree_of p ∷ []

    -- the loops round it come last
    pub looped : Turn → Loops → Expression
    looped (Innermost p x a b) ls =
        tree.Constructor (tree.expression (tree_of p) tree.no_expressions) (tree.loop x (tree_of a) (tree_of b) ls)
    looped (Round t x a b) ls = looped t (tree.loop x (tree_of a) (tree_of b) ls)

  -- each call has arguments that may stand there
  abbrev mutual
    pub SuitsCalls : Phrase90 → Type 0
    SuitsCalls (Listed x ps) = SuitsFunction (function x) ps × PartsSuitCalls ps
    SuitsCalls (Paren p) = SuitsCalls p
    SuitsCalls (Signed s p) = SuitsCalls p
    SuitsCalls (Joined o a b) = SuitsCalls a × SuitsCalls b
    SuitsCalls (Values ps) = ValuesSuitCalls ps
    SuitsCalls (Looped t) = TurnSuitsCalls t
    SuitsCalls p = Unit {0}

    pub PartSuitsCalls : ListPart → Type 0
    PartSuitsCalls (Value p) = SuitsCalls p
    PartSuitsCalls (Range a b) = SuitsCalls a × SuitsCalls b
    PartSuitsCalls (Strided a b c) = SuitsCalls a × SuitsCalls b × SuitsCalls c

    pub PartsSuitCalls : ListParts → Type 0
    PartsSuitCalls (One p) = PartSuitsCalls p
    PartsSuitCalls (Then ps p) = PartsSuitCalls ps × PartSuitsCalls p

    pub ValuesSuitCalls : Phrases90 → Type 0
    ValuesSuitCalls (Sole p) = SuitsCalls p
    ValuesSuitCalls (More ps p) = ValuesSuitCalls ps × SuitsCalls p

    pub TurnSuitsCalls : Turn → Type 0
    TurnSuitsCalls (Innermost p x a b) = SuitsCalls p × SuitsCalls a × SuitsCalls b
    TurnSuitsCalls (Round t x a b) = TurnSuitsCalls t × SuitsCalls a × SuitsCalls b
