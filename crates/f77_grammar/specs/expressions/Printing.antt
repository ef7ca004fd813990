-- An expression's text in FORTRAN 77, with the parentheses that it needs.
use Rattle.std.specs.Prelude.{ℕ, ◌^◌, ◌<◌, ℤ, pos, negsuc, Bool, true, false, nat_le, IsTrue, List, [], ◌++◌, codes}
use Rattle.std.specs.Prelude.{decimal, Option, Some, None, if◌then◌else◌}
use Rattle.std.specs.List.{flat_map}
use Rattle.tree.specs.declared.ops.Op.{Op}
use Rattle.tree.specs.declared.ops.Op.TheVariants.{Neg, Not}
use Rattle.tree.specs.Plain.{Expression, Number, Logic, Named, Unary, Binary, Subscript, Only, Subscripts}
use Rattle.tree.specs.Plain.{no_subscripts, subscript}
use Rattle.tree.specs.OperatorTable.{Minus, Negation, left_least, right_least, stands_between, may_follow}
use Rattle.f77_grammar.specs.expressions.Phrases.{Phrase77, Literal, WideLiteral, Truth, Name, Listed, Paren, Signed}
use Rattle.f77_grammar.specs.expressions.Phrases.{Joined, Phrases77, One, Then, phrase_level77, begins_with_sign77}
use Rattle.f77_grammar.specs.expressions.Phrases.{written77}
use Rattle.f77_grammar.specs.expressions.Spelling.{IsName77}
use Rattle.tree.specs.OperatorTable.{spelling77_of}
use Rattle.f77_grammar.specs.expressions.Words as words
use Rattle.f77_grammar.specs.expressions.Words.{Word77}

-- a literal isn't negative, and is within 2^127-1
abbrev pub IsLiteral : ℤ → Type 0
IsLiteral (pos n) = n < 2 ^ 127
IsLiteral (negsuc n) = ⊥

abbrev pub is_negating : Op → Bool
is_negating Neg = true
is_negating Not = true
is_negating o = false

-- The trees that texts of FORTRAN 77 have. A name with a list stands as a reference.
abbrev mutual
  pub IsSource : Expression → Type 0
  IsSource (Number n) = IsLiteral n
  IsSource (Logic b) = Unit {0}
  IsSource (Named x ss) = IsName77 x × AreSource ss
  IsSource (Unary o a) = IsTrue (is_negating o) × IsSource a
  IsSource (Binary o a b) = IsTrue (stands_between o) × IsSource a × IsSource b
  IsSource _ = ⊥

  pub IsSourceSubscript : Subscript → Type 0
  IsSourceSubscript (Only e) = IsSource e
  IsSourceSubscript _ = ⊥

  pub AreSource : Subscripts → Type 0
  AreSource no_subscripts = Unit {0}
  AreSource (subscript s ss) = IsSourceSubscript s × AreSource ss

-- in parentheses where it doesn't bind tightly enough
abbrev pub fit : ℕ → Phrase77 → Phrase77
fit n p = if nat_le n (phrase_level77 p) then p else Paren p

-- in parentheses where it begins with a sign that can't stand behind the operator
abbrev pub behind : Op → Phrase77 → Phrase77
behind o p = if may_follow o (begins_with_sign77 p) then p else Paren p

abbrev pub listed : List ℕ → Option Phrases77 → Phrase77
listed x None = Name x
listed x (Some ps) = Listed x ps

abbrev pub unary_phrase : Op → Phrase77 → Phrase77
unary_phrase Not p = Signed Negation (fit 6 (behind Not p))
unary_phrase o p = Signed Minus (fit 8 p)

-- how it is written
abbrev mutual
  pub phrase_of : Expression → Phrase77
  phrase_of (Number n) = Literal n
  phrase_of (Logic b) = Truth b
  phrase_of (Named x ss) = listed x (phrases_of ss)
  phrase_of (Unary o a) = unary_phrase o (phrase_of a)
  phrase_of (Binary o a b) = Joined o (fit (left_least o) (phrase_of a)) (fit (right_least o) (behind o (phrase_of b)))
  phrase_of _ = WideLiteral

  pub subscript_phrase : Subscript → Phrase77
  subscript_phrase (Only e) = phrase_of e
  subscript_phrase _ = WideLiteral

  pub phrases_of : Subscripts → Option Phrases77
  phrases_of no_subscripts = None
  phrases_of (subscript s ss) = Some (with_more (One (subscript_phrase s)) ss)

  pub with_more : Phrases77 → Subscripts → Phrases77
  with_more ps no_subscripts = ps
  with_more ps (subscript s ss) = with_more (Then ps (subscript_phrase s)) ss

abbrev pub digits_of : ℤ → List ℕ
digits_of (pos n) = decimal n
digits_of (negsuc n) = []

abbrev pub truth_text : Bool → List ℕ
truth_text true = codes ".TRUE."
truth_text false = codes ".FALSE."

abbrev pub spelling_of : Word77 → List ℕ
spelling_of (words.Number n) = digits_of n
spelling_of words.Wide = decimal (2 ^ 127)
spelling_of (words.Truth b) = truth_text b
spelling_of (words.Name x) = x
spelling_of (words.Head x) = x ++ codes "("
spelling_of (words.Operator o) = spelling77_of o
spelling_of words.Open = codes "("
spelling_of words.Close = codes ")"
spelling_of words.Comma = codes ","
spelling_of words.Equals = codes "="
spelling_of words.Colon = codes ":"
spelling_of (words.Constant t) = []

-- the text
abbrev pub printed : Expression → List ℕ
printed e = flat_map spelling_of (written77 (phrase_of e))
