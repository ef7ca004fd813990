-- An expression but for where its signs stand.
use Rattle.std.proofs.Common.{◌≡◌, ◌≤◌, ◌+◌, true, ◌&&◌, IsTrue, refl}
use Rattle.std.proofs.lemmas.Bool.{and_parts, and_from}
use Rattle.tree.specs.OperatorTable.{left_least, right_least, stands_between, sign_level, may_follow}
use Rattle.f90_grammar.specs.Phrases as phrases
use Rattle.f90_grammar.specs.Phrases.{Phrase90, ListPart, Value, Range, Strided, ListParts, Phrases90, Turn, phrase_level90, begins_with_sign90, IsExpression90, IsPart, AreParts, AreExpressions90, IsTurn}
use Rattle.reading.specs.Signs.{sign_word}
use Rattle.f90_expressions.specs.Flat.{placed, placed_part, placed_parts, placed_values, placed_turn}

abbrev mutual
  pub IsGrouped : Phrase90 → Type 0
  IsGrouped (phrases.Literal t) = Unit {0}
  IsGrouped (phrases.Truth b) = Unit {0}
  IsGrouped (phrases.Name x) = Unit {0}
  IsGrouped (phrases.Listed x ps) = AreGroupedParts ps
  IsGrouped (phrases.Paren p) = IsGrouped p
  IsGrouped (phrases.Signed s p) = (sign_level s + 1 ≤ phrase_level90 p) × IsGrouped p
  IsGrouped (phrases.Joined o a b) =
      IsTrue (stands_between o) × (left_least o ≤ phrase_level90 a) × (right_least o ≤ phrase_level90 b) × IsGrouped a × IsGrouped b
  IsGrouped (phrases.Values ps) = AreGroupedValues ps
  IsGrouped (phrases.Looped t) = IsGroupedTurn t

  pub IsGroupedPart : ListPart → Type 0
  IsGroupedPart (Value p) = IsGrouped p
  IsGroupedPart (Range a b) = IsGrouped a × IsGrouped b
  IsGroupedPart (Strided a b c) = IsGrouped a × IsGrouped b × IsGrouped c

  pub AreGroupedParts : ListParts → Type 0
  AreGroupedParts (phrases.One p) = IsGroupedPart p
  AreGroupedParts (phrases.Then ps p) = AreGroupedParts ps × IsGroupedPart p

  pub AreGroupedValues : Phrases90 → Type 0
  AreGroupedValues (phrases.Sole p) = IsGrouped p
  AreGroupedValues (phrases.More ps p) = AreGroupedValues ps × IsGrouped p

  pub IsGroupedTurn : Turn → Type 0
  IsGroupedTurn (phrases.Innermost p x a b) = IsGrouped p × IsGrouped a × IsGrouped b
  IsGroupedTurn (phrases.Round t x a b) = IsGroupedTurn t × IsGrouped a × IsGrouped b

mutual
  pub is_expression : (p : Phrase90) → IsGrouped p → placed p ≡ true → IsExpression90 p
  is_expression (phrases.Literal t) g e = tt
  is_expression (phrases.Truth b) g e = tt
  is_expression (phrases.Name x) g e = tt
  is_expression (phrases.Listed x ps) g e = are_parts ps g e
  is_expression (phrases.Paren p) g e = is_expression p g e
  is_expression (phrases.Signed s p) g e =
      let k = and_parts (placed p) (may_follow (sign_word s) (begins_with_sign90 p)) e in (g.0, k.1, is_expression p g.1 k.0)
  is_expression (phrases.Joined o a b) g e =
      let k = and_parts (placed a && placed b) (may_follow o (begins_with_sign90 b)) e in
      let m = and_parts (placed a) (placed b) k.0 in (g.0, g.1, g.2, k.1, is_expression a g.3 m.0, is_expression b g.4 m.1)
  is_expression (phrases.Values ps) g e = are_expressions ps g e
  is_expression (phrases.Looped t) g e = is_turn t g e

  is_part : (p : ListPart) → IsGroupedPart p → placed_part p ≡ true → IsPart p
  is_part (Value p) g e = is_expression p g e
  is_part (Range a b) g e = let k = and_parts (placed a) (placed b) e in (is_expression a g.0 k.0, is_expression b g.1 k.1)
  is_part (Strided a b c) g e =
      let k = and_parts (placed a && placed b) (placed c) e in
      let m = and_parts (placed a) (placed b) k.0 in (is_expression a g.0 m.0, is_expression b g.1 m.1, is_expression c g.2 k.1)

  are_parts : (ps : ListParts) → AreGroupedParts ps → placed_parts ps ≡ true → AreParts ps
  are_parts (phrases.One p) g e = is_part p g e
  are_parts (phrases.Then ps p) g e = let k = and_parts (placed_parts ps) (placed_part p) e in (are_parts ps g.0 k.0, is_part p g.1 k.1)

  are_expressions : (ps : Phrases90) → AreGroupedValues ps → placed_values ps ≡ true → AreExpressions90 ps
  are_expressions (phrases.Sole p) g e = is_expression p g e
  are_expressions (phrases.More ps p) g e =
      let k = and_parts (placed_values ps) (placed p) e in (are_expressions ps g.0 k.0, is_expression p g.1 k.1)

  is_turn : (t : Turn) → IsGroupedTurn t → placed_turn t ≡ true → IsTurn t
  is_turn (phrases.Innermost p x a b) g e =
      let k = and_parts (placed p && placed a) (placed b) e in
      let m = and_parts (placed p) (placed a) k.0 in (is_expression p g.0 m.0, is_expression a g.1 m.1, is_expression b g.2 k.1)
  is_turn (phrases.Round t x a b) g e =
      let k = and_parts (placed_turn t && placed a) (placed b) e in
      let m = and_parts (placed_turn t) (placed a) k.0 in (is_turn t g.0 m.0, is_expression a g.1 m.1, is_expression b g.2 k.1)

-- the signs of an expression stand where they may
mutual
  pub are_placed : (p : Phrase90) → IsExpression90 p → placed p ≡ true
  are_placed (phrases.Literal t) h = refl
  are_placed (phrases.Truth b) h = refl
  are_placed (phrases.Name x) h = refl
  are_placed (phrases.Listed x ps) h = parts_placed ps h
  are_placed (phrases.Paren p) h = are_placed p h
  are_placed (phrases.Signed s p) h = and_from (placed p) (may_follow (sign_word s) (begins_with_sign90 p)) (are_placed p h.2) h.1
  are_placed (phrases.Joined o a b) h =
      and_from (placed a && placed b) (may_follow o (begins_with_sign90 b)) (and_from (placed a) (placed b) (are_placed a h.4) (are_placed b h.5)) h.3
  are_placed (phrases.Values ps) h = values_placed ps h
  are_placed (phrases.Looped t) h = turn_placed t h

  part_placed : (p : ListPart) → IsPart p → placed_part p ≡ true
  part_placed (Value p) h = are_placed p h
  part_placed (Range a b) h = and_from (placed a) (placed b) (are_placed a h.0) (are_placed b h.1)
  part_placed (Strided a b c) h =
      and_from (placed a && placed b) (placed c) (and_from (placed a) (placed b) (are_placed a h.0) (are_placed b h.1)) (are_placed c h.2)

  parts_placed : (ps : ListParts) → AreParts ps → placed_parts ps ≡ true
  parts_placed (phrases.One p) h = part_placed p h
  parts_placed (phrases.Then ps p) h = and_from (placed_parts ps) (placed_part p) (parts_placed ps h.0) (part_placed p h.1)

  values_placed : (ps : Phrases90) → AreExpressions90 ps → placed_values ps ≡ true
  values_placed (phrases.Sole p) h = are_placed p h
  values_placed (phrases.More ps p) h = and_from (placed_values ps) (placed p) (values_placed ps h.0) (are_placed p h.1)

  turn_placed : (t : Turn) → IsTurn t → placed_turn t ≡ true
  turn_placed (phrases.Innermost p x a b) h =
      and_from (placed p && placed a) (placed b) (and_from (placed p) (placed a) (are_placed p h.0) (are_placed a h.1)) (are_placed b h.2)
  turn_placed (phrases.Round t x a b) h =
      and_from (placed_turn t && placed a) (placed b) (and_from (placed_turn t) (placed a) (turn_placed t h.0) (are_placed a h.1)) (are_placed b h.2)
