-- The tree of what is read is one that texts have.
use Rattle.std.proofs.Common.{arith, ℕ, List, [], ◌∷◌, ◌++◌, refl, sym, subst}
use Rattle.tree.specs.Plain.{Expression, Subscript, Only, subscripts}
use Rattle.tree.specs.OperatorTable.{Plus, Minus, Negation}
use Rattle.f77_grammar.specs.expressions.Phrases.{Phrase77, Literal, WideLiteral, Truth, Name, Listed, Paren, Signed, Joined, Phrases77, One, Then, written77, written_list, tree77_of, trees77_of, IsExpression77, AreExpressions77}
use Rattle.f77_grammar.specs.expressions.Printing.{IsLiteral, IsSource, AreSource}
use Rattle.f77_grammar.specs.expressions.Reading.{Spells, ReadsAs}
use Rattle.f77_grammar.specs.expressions.Spelling.{IsName77, SpelledBy77, AreWords77}
use Rattle.f77_grammar.specs.expressions.Squeezing.{Symbol77}
use Rattle.f77_grammar.specs.expressions.Words as words
use Rattle.f77_grammar.specs.expressions.Words.{Word77}

-- a literal is in range, and a name is one
abbrev pub IsGood : Word77 → Type 0
IsGood (words.Number n) = IsLiteral n
IsGood (words.Name x) = IsName77 x
IsGood (words.Head x) = IsName77 x
IsGood w = Unit {0}

abbrev pub AreGood : List Word77 → Type 0
AreGood [] = Unit {0}
AreGood (w ∷ ws) = IsGood w × AreGood ws

pub good_parts : (a b : List Word77) → AreGood (a ++ b) → AreGood a × AreGood b
good_parts [] b h = (tt, h)
good_parts (w ∷ a) b h = let k = good_parts a b h.1 in ((h.0, k.0), k.1)

spelled_good : (w : Word77) (text : List Symbol77) → SpelledBy77 w text → IsGood w
spelled_good (words.Number n) text h = subst IsLiteral (sym h.2.1) h.2.2
spelled_good (words.Name x) text h = h.2.1
spelled_good (words.Head x) text h = h.2.1
spelled_good w text h = tt

pub words_good : (text : List Symbol77) (ws : List Word77) → AreWords77 text ws → AreGood ws
words_good text [] h = tt
words_good text (w ∷ ws) h = (spelled_good w h.1.front h.1.spelled, words_good h.0 ws h.2)

source_push : (ss : List Subscript) (e : Expression) → AreSource (subscripts ss) → IsSource e → AreSource (subscripts (ss ++ Only e ∷ []))
source_push [] e h k = (k, tt)
source_push (s ∷ ss) e h k = (h.0, source_push ss e h.1 k)

mutual
  pub source : (p : Phrase77) → IsExpression77 p → AreGood (written77 p) → IsSource (tree77_of p)
  source (Literal n) h g = g.0
  source WideLiteral h g = omega arith
  source (Truth b) h g = tt
  source (Name x) h g = (g.0, tt)
  source (Listed x ps) h g = (g.0, sources ps h (good_parts (written_list ps) (words.Close ∷ []) g.1).0)
  source (Paren p) h g = source p h (good_parts (written77 p) (words.Close ∷ []) g.1).0
  source (Signed Plus p) h g = source p h.2 g.1
  source (Signed Minus p) h g = (refl, source p h.2 g.1)
  source (Signed Negation p) h g = (refl, source p h.2 g.1)
  source (Joined o a b) h g = let k = good_parts (written77 a) (words.Operator o ∷ written77 b) g in (h.0, source a h.4 k.0, source b h.5 k.1.1)

  sources : (ps : Phrases77) → AreExpressions77 ps → AreGood (written_list ps) → AreSource (subscripts (trees77_of ps))
  sources (One p) h g = (source p h g, tt)
  sources (Then ps p) h g =
      let k = good_parts (written_list ps) (words.Comma ∷ written77 p) g in source_push (trees77_of ps) (tree77_of p) (sources ps h.0 k.0) (source p h.1 k.1.1)

pub spelled_source : (chars : List ℕ) (p : Phrase77) → Spells chars p → IsSource (tree77_of p)
spelled_source chars p s = source p s.good (words_good s.symbols (written77 p) s.words)

pub read_source : (chars : List ℕ) (e : Expression) → ReadsAs chars e → IsSource e
read_source chars e r = subst IsSource (sym r.same) (spelled_source chars r.phrase r.spells)
