-- An expression is grouped rightly, and its signs stand where they may.
use Rattle.std.proofs.Common.{◌≤◌, ◌+◌, Bool, true, IsTrue, refl}
use Rattle.std.specs.Prelude.{◌&&◌}
use Rattle.std.proofs.lemmas.Bool.{and_parts, and_from}
use Rattle.tree.specs.OperatorTable.{left_least, right_least, stands_between, may_follow, sign_level}
use Rattle.f77_grammar.specs.expressions.Phrases.{Phrase77, Phrases77, phrase_level77, begins_with_sign77, IsExpression77, AreExpressions77, Literal, WideLiteral, Truth, Name, Listed, Paren, Signed, Joined, One, Then}
use Rattle.reading.specs.Signs.{sign_word}

-- each operand binds tightly enough for its operator or sign
abbrev mutual
  pub IsGrouped : Phrase77 → Type 0
  IsGrouped (Literal n) = Unit {0}
  IsGrouped WideLiteral = Unit {0}
  IsGrouped (Truth b) = Unit {0}
  IsGrouped (Name x) = Unit {0}
  IsGrouped (Listed x ps) = AreGrouped ps
  IsGrouped (Paren p) = IsGrouped p
  IsGrouped (Signed s p) = (sign_level s + 1 ≤ phrase_level77 p) × IsGrouped p
  IsGrouped (Joined o a b) = IsTrue (stands_between o) × (left_least o ≤ phrase_level77 a) × (right_least o ≤ phrase_level77 b) × IsGrouped a × IsGrouped b

  pub AreGrouped : Phrases77 → Type 0
  AreGrouped (One p) = IsGrouped p
  AreGrouped (Then ps p) = AreGrouped ps × IsGrouped p

-- each sign stands where it may
abbrev mutual
  pub is_placed : Phrase77 → Bool
  is_placed (Literal n) = true
  is_placed WideLiteral = true
  is_placed (Truth b) = true
  is_placed (Name x) = true
  is_placed (Listed x ps) = are_placed ps
  is_placed (Paren p) = is_placed p
  is_placed (Signed s p) = is_placed p && may_follow (sign_word s) (begins_with_sign77 p)
  is_placed (Joined o a b) = (is_placed a && is_placed b) && may_follow o (begins_with_sign77 b)

  pub are_placed : Phrases77 → Bool
  are_placed (One p) = is_placed p
  are_placed (Then ps p) = are_placed ps && is_placed p

mutual
  pub is_grouped : (p : Phrase77) → IsExpression77 p → IsGrouped p
  is_grouped (Literal n) h = tt
  is_grouped WideLiteral h = tt
  is_grouped (Truth b) h = tt
  is_grouped (Name x) h = tt
  is_grouped (Listed x ps) h = are_grouped ps h
  is_grouped (Paren p) h = is_grouped p h
  is_grouped (Signed s p) h = (h.0, is_grouped p h.2)
  is_grouped (Joined o a b) h = (h.0, h.1, h.2, is_grouped a h.4, is_grouped b h.5)

  are_grouped : (ps : Phrases77) → AreExpressions77 ps → AreGrouped ps
  are_grouped (One p) h = is_grouped p h
  are_grouped (Then ps p) h = (are_grouped ps h.0, is_grouped p h.1)

mutual
  pub signs_placed : (p : Phrase77) → IsExpression77 p → IsTrue (is_placed p)
  signs_placed (Literal n) h = refl
  signs_placed WideLiteral h = refl
  signs_placed (Truth b) h = refl
  signs_placed (Name x) h = refl
  signs_placed (Listed x ps) h = all_signs_placed ps h
  signs_placed (Paren p) h = signs_placed p h
  signs_placed (Signed s p) h = and_from (is_placed p) (may_follow (sign_word s) (begins_with_sign77 p)) (signs_placed p h.2) h.1
  signs_placed (Joined o a b) h =
      and_from (is_placed a && is_placed b) (may_follow o (begins_with_sign77 b)) (and_from (is_placed a) (is_placed b) (signs_placed a h.4) (signs_placed b h.5)) h.3

  all_signs_placed : (ps : Phrases77) → AreExpressions77 ps → IsTrue (are_placed ps)
  all_signs_placed (One p) h = signs_placed p h
  all_signs_placed (Then ps p) h = and_from (are_placed ps) (is_placed p) (all_signs_placed ps h.0) (signs_placed p h.1)

mutual
  pub is_expression : (p : Phrase77) → IsGrouped p → IsTrue (is_placed p) → IsExpression77 p
  is_expression (Literal n) h k = tt
  is_expression WideLiteral h k = tt
  is_expression (Truth b) h k = tt
  is_expression (Name x) h k = tt
  is_expression (Listed x ps) h k = are_expressions ps h k
  is_expression (Paren p) h k = is_expression p h k
  is_expression (Signed s p) h k = let q = and_parts (is_placed p) (may_follow (sign_word s) (begins_with_sign77 p)) k in (h.0, q.1, is_expression p h.1 q.0)
  is_expression (Joined o a b) h k =
      let q = and_parts (is_placed a && is_placed b) (may_follow o (begins_with_sign77 b)) k in
      let r = and_parts (is_placed a) (is_placed b) q.0 in
      (h.0, h.1, h.2, q.1, is_expression a h.3 r.0, is_expression b h.4 r.1)

  are_expressions : (ps : Phrases77) → AreGrouped ps → IsTrue (are_placed ps) → AreExpressions77 ps
  are_expressions (One p) h k = is_expression p h k
  are_expressions (Then ps p) h k = let q = and_parts (are_placed ps) (is_placed p) k in (are_expressions ps h.0 q.0, is_expression p h.1 q.1)
