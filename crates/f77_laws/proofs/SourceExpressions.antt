-- What is read as an expression is such as cards give: its names are symbolic names, its literals are within range, and it isn't deep.
use Rattle.std.proofs.Common.{◌≡◌, ℕ, ◌+◌, ◌<◌, ◌≤◌, max, nat_le, Bool, true, false, cond, List, [], ◌∷◌, ◌++◌, sym, subst, le-leb, arith}
use Rattle.std.proofs.lemmas.Bool.{cond-true}
use Rattle.tree.specs.Plain.{Expression, Subscript, Only, subscripts}
use Rattle.meaning.specs.Depths as printing
use Rattle.meaning.specs.Depths.{enclosed, depth_of, depth_of_subscripts}
use Rattle.tree.specs.OperatorTable.{Plus, Minus, Negation, left_least, right_least}
use Rattle.f77_grammar.specs.expressions.Phrases.{Phrase77, Literal, WideLiteral, Truth, Name, Listed, Paren, Signed, Joined, Phrases77, One, Then, IsExpression77, AreExpressions77, phrase_level77, tree77_of, trees77_of, phrase_depth77, depths}
use Rattle.f77_grammar.proofs.expressions.SourceLaws.{read_source}
use Rattle.f77_laws.specs.Reading.{ReadExpressionIsSource}

-- ---- depth

one_more : (ss : List Subscript) (e : Expression) → depth_of_subscripts (subscripts (ss ++ Only e ∷ [])) ≤ max (depth_of_subscripts (subscripts ss)) (1 + depth_of e)
one_more [] e = omega arith
one_more (s ∷ ss) e = let h = one_more ss e in omega (arith, h)

-- ---- parentheses are needed where they are written, or nowhere

bare : (least own n : ℕ) → least ≤ own → enclosed least own n ≡ n
bare least own n h = cond-true (nat_le least own) n (1 + n) (le-leb least own h)

in_parentheses : (least own n : ℕ) → enclosed least own n ≤ 1 + n
in_parentheses least own n = by (nat_le least own)
  where
    by : (b : Bool) → cond b n (1 + n) ≤ 1 + n
    by true = omega arith
    by false = omega arith

-- the tree of a phrase is no deeper than the phrase; so it is as an operand, in parentheses where it needs them
record IsWithin (p : Phrase77) : Type 0 where
  whole : depth_of (tree77_of p) ≤ phrase_depth77 p
  operand : (least : ℕ) → least ≤ phrase_level77 p → enclosed least (printing.level (tree77_of p)) (depth_of (tree77_of p)) ≤ phrase_depth77 p

-- a primary, and an operand with an operator of its level, needs no parentheses
at_level : (p : Phrase77) → phrase_level77 p ≤ printing.level (tree77_of p) → depth_of (tree77_of p) ≤ phrase_depth77 p → IsWithin p
at_level p l h = record { whole = h; operand = λ least k. let e = bare least (printing.level (tree77_of p)) (depth_of (tree77_of p)) (omega (arith, l, k)) in omega (arith, e, h) }

mutual
  within_of : (p : Phrase77) → IsExpression77 p → IsWithin p
  within_of (Literal n) g = at_level (Literal n) (omega arith) (omega arith)
  within_of WideLiteral g = at_level WideLiteral (omega arith) (omega arith)
  within_of (Truth b) g = at_level (Truth b) (omega arith) (omega arith)
  within_of (Name x) g = at_level (Name x) (omega arith) (omega arith)
  within_of (Listed x ps) g = at_level (Listed x ps) (omega arith) (lists_within ps g)
  within_of (Paren p) g =
      let h = (within_of p g).whole in
      record { whole = omega (arith, h); operand = λ least k. let e = in_parentheses least (printing.level (tree77_of p)) (depth_of (tree77_of p)) in omega (arith, e, h) }
  within_of (Signed Plus p) g =
      let h = within_of p g.2 in
      record { whole = (let k = h.whole in omega (arith, k)); operand = λ least l. let k = h.operand least (let m = g.0 in omega (arith, l, m)) in omega (arith, k) }
  within_of (Signed Minus p) g = let h = (within_of p g.2).operand 8 g.0 in at_level (Signed Minus p) (omega arith) (omega (arith, h))
  within_of (Signed Negation p) g = let h = (within_of p g.2).operand 6 g.0 in at_level (Signed Negation p) (omega arith) (omega (arith, h))
  within_of (Joined o a b) g =
      let h = (within_of a g.4).operand (left_least o) g.1 in
      let k = (within_of b g.5).operand (right_least o) g.2 in
      at_level (Joined o a b) (omega arith) (omega (arith, h, k))

  lists_within : (ps : Phrases77) → AreExpressions77 ps → depth_of_subscripts (subscripts (trees77_of ps)) ≤ depths ps + 1
  lists_within (One p) g = let h = (within_of p g).whole in omega (arith, h)
  lists_within (Then ps p) g =
      let h = lists_within ps g.0 in
      let k = one_more (trees77_of ps) (tree77_of p) in
      let l = (within_of p g.1).whole in
      omega (arith, h, k, l)

pub within : (p : Phrase77) → IsExpression77 p → depth_of (tree77_of p) ≤ phrase_depth77 p
within p g = (within_of p g).whole

-- ---- the law

not_more : (n : ℕ) → ¬ (400 < n) → n ≤ 400
not_more n h = omega (arith, h)

pub read_is_source : ReadExpressionIsSource
read_is_source chars e h =
    let d : depth_of (tree77_of h.phrase) ≤ 400 = (let a = within h.phrase h.spells.good in let b = not_more (phrase_depth77 h.phrase) h.shallow in omega (arith, a, b)) in
    (read_source chars e h, subst (λ (q : Expression). depth_of q ≤ 400) (sym h.same) d)
