-- An expression as it is written, with its parentheses and signs, and what it stands for.
use Rattle.std.specs.Prelude.{ℕ, ◌+◌, ◌≤◌, max, ℤ, pos, Bool, true, false, IsTrue, List, [], ◌∷◌, ◌++◌, if◌then◌else◌}
use Rattle.tree.specs.declared.ops.Op.{Op}
use Rattle.tree.specs.Plain.{Expression, Number, Logic, Named, Binary, Subscript, Only, subscripts, no_subscripts}
use Rattle.f77_grammar.specs.expressions.Words as words
use Rattle.f77_grammar.specs.expressions.Words.{Word77}
use Rattle.tree.specs.OperatorTable.{Sign, Plus, Minus, level_of, left_least, right_least, stands_between}
use Rattle.tree.specs.OperatorTable.{is_relation, may_follow, sign_level}
use Rattle.reading.specs.Signs.{sign_word, sign_depth, signed}

-- A list has one expression at least.
mutual
  pub data Phrase77 : Type 0 where
    Literal : ℤ → Phrase77
    WideLiteral : Phrase77
    Truth : Bool → Phrase77
    Name : List ℕ → Phrase77
    Listed : List ℕ → Phrases77 → Phrase77
    Paren : Phrase77 → Phrase77
    Signed : Sign → Phrase77 → Phrase77
    Joined : Op → Phrase77 → Phrase77 → Phrase77

  pub data Phrases77 : Type 0 where
    One : Phrase77 → Phrases77
    Then : Phrases77 → Phrase77 → Phrases77

-- that of its outermost operator or sign; 10 for a primary
abbrev pub phrase_level77 : Phrase77 → ℕ
phrase_level77 (Signed s p) = sign_level s
phrase_level77 (Joined o a b) = level_of o
phrase_level77 p = 10

-- whether it begins with a plus or minus sign that isn't a relation's
abbrev pub begins_with_sign77 : Phrase77 → Bool
begins_with_sign77 (Signed Plus p) = true
begins_with_sign77 (Signed Minus p) = true
begins_with_sign77 (Joined o a b) = if is_relation o then false else begins_with_sign77 a
begins_with_sign77 p = false

-- Each operand binds tightly enough for its operator or sign. A plus or minus sign stands at the front alone: of the
-- whole, of what is in parentheses, of a subscript or an argument, and of an operand of a relation.
abbrev mutual
  pub IsExpression77 : Phrase77 → Type 0
  IsExpression77 (Literal n) = Unit {0}
  IsExpression77 WideLiteral = Unit {0}
  IsExpression77 (Truth b) = Unit {0}
  IsExpression77 (Name x) = Unit {0}
  IsExpression77 (Listed x ps) = AreExpressions77 ps
  IsExpression77 (Paren p) = IsExpression77 p
  IsExpression77 (Signed s p) =
      (sign_level s + 1 ≤ phrase_level77 p) × IsTrue (may_follow (sign_word s) (begins_with_sign77 p))
      × IsExpression77 p
  IsExpression77 (Joined o a b) =
      IsTrue (stands_between o) × (left_least o ≤ phrase_level77 a) × (right_least o ≤ phrase_level77 b)
      × IsTrue (may_follow o (begins_with_sign77 b)) × IsExpression77 a × IsExpression77 b

  pub AreExpressions77 : Phrases77 → Type 0
  AreExpressions77 (One p) = IsExpression77 p
  AreExpressions77 (Then ps p) = AreExpressions77 ps × IsExpression77 p

-- ---- how it is written

abbrev mutual
  pub written77 : Phrase77 → List Word77
  written77 (Literal n) = words.Number n ∷ []
  written77 WideLiteral = words.Wide ∷ []
  written77 (Truth b) = words.Truth b ∷ []
  written77 (Name x) = words.Name x ∷ []
  written77 (Listed x ps) = words.Head x ∷ written_list ps ++ words.Close ∷ []
  written77 (Paren p) = words.Open ∷ written77 p ++ words.Close ∷ []
  written77 (Signed s p) = words.Operator (sign_word s) ∷ written77 p
  written77 (Joined o a b) = written77 a ++ words.Operator o ∷ written77 b

  pub written_list : Phrases77 → List Word77
  written_list (One p) = written77 p
  written_list (Then ps p) = written_list ps ++ words.Comma ∷ written77 p

-- ---- its tree, in which parentheses and plus signs leave no trace

abbrev mutual
  pub tree77_of : Phrase77 → Expression
  tree77_of (Literal n) = Number n
  tree77_of WideLiteral = Number (pos 0)
  tree77_of (Truth b) = Logic b
  tree77_of (Name x) = Named x no_subscripts
  tree77_of (Listed x ps) = Named x (subscripts (trees77_of ps))
  tree77_of (Paren p) = tree77_of p
  tree77_of (Signed s p) = signed s (tree77_of p)
  tree77_of (Joined o a b) = Binary o (tree77_of a) (tree77_of b)

  pub trees77_of : Phrases77 → List Subscript
  trees77_of (One p) = Only (tree77_of p) ∷ []
  trees77_of (Then ps p) = trees77_of ps ++ Only (tree77_of p) ∷ []

-- ---- its depth: each operator, parenthesis and list on a path counts one, but a plus sign

abbrev mutual
  pub phrase_depth77 : Phrase77 → ℕ
  phrase_depth77 (Literal n) = 0
  phrase_depth77 WideLiteral = 0
  phrase_depth77 (Truth b) = 0
  phrase_depth77 (Name x) = 0
  phrase_depth77 (Listed x ps) = depths ps + 1
  phrase_depth77 (Paren p) = phrase_depth77 p + 1
  phrase_depth77 (Signed s p) = phrase_depth77 p + sign_depth s
  phrase_depth77 (Joined o a b) = max (phrase_depth77 a) (phrase_depth77 b) + 1

  pub depths : Phrases77 → ℕ
  depths (One p) = phrase_depth77 p
  depths (Then ps p) = max (depths ps) (phrase_depth77 p)
