-- The words that stand on a card: literals are within range, names are names, and constants are texts. Expressions that have these words are source expressions.
use Rattle.std.proofs.Common.{◌≤◌, List, [], ◌∷◌, ◌++◌, sym, subst, arith}
use Rattle.std.specs.List.{AllByRecursion}
use Rattle.f77_grammar.specs.expressions.Words as words
use Rattle.f77_grammar.specs.expressions.Words.{Word77}
use Rattle.f77_grammar.specs.expressions.Phrases.{Phrase77, IsExpression77, written77, tree77_of, phrase_depth77}
use Rattle.f77_grammar.specs.expressions.Printing.{IsLiteral, IsSource}
use Rattle.f77_grammar.specs.expressions.Spelling.{IsName77, SpelledBy77, AreWords77}
use Rattle.f77_grammar.specs.expressions.Squeezing.{Symbol77}
use Rattle.meaning.specs.Typed77.{IsText}
use Rattle.f77_grammar.proofs.expressions.SourceLaws as laws
use Rattle.f77_laws.specs.Source.{IsShallow}
use Rattle.f77_laws.proofs.Lists.{all_left, all_right}
use Rattle.f77_laws.proofs.SourceExpressions.{within}
use Rattle.f77_laws.proofs.Symbols.{IsCardSymbol, AreCardSymbols}

abbrev pub IsSourceWord : Word77 → Type 0
IsSourceWord (words.Number n) = IsLiteral n
IsSourceWord (words.Name x) = IsName77 x
IsSourceWord (words.Head x) = IsName77 x
IsSourceWord (words.Constant t) = IsText t
IsSourceWord w = Unit {0}

abbrev pub AreSourceWords : List Word77 → Type 0
AreSourceWords ws = AllByRecursion IsSourceWord ws

pub left_words : (ws vs : List Word77) → AreSourceWords (ws ++ vs) → AreSourceWords ws
left_words ws vs h = all_left IsSourceWord ws vs h

pub right_words : (ws vs : List Word77) → AreSourceWords (ws ++ vs) → AreSourceWords vs
right_words ws vs h = all_right IsSourceWord ws vs h

-- ---- spelled by symbols of a card

word_spelled : (w : Word77) (text : List Symbol77) → AreCardSymbols text → SpelledBy77 w text → IsSourceWord w
word_spelled (words.Number n) text s h = subst IsLiteral (sym h.2.1) h.2.2
word_spelled (words.Name x) text s h = h.2.1
word_spelled (words.Head x) text s h = h.2.1
word_spelled (words.Constant t) text s h = (subst AreCardSymbols h s).0
word_spelled w text s h = tt

pub words_spelled : (ws : List Word77) (text : List Symbol77) → AreCardSymbols text → AreWords77 text ws → AreSourceWords ws
words_spelled [] text s h = tt
words_spelled (w ∷ ws) text s h =
    let parts = subst AreCardSymbols h.1.same s in (
      word_spelled w h.1.front (all_left IsCardSymbol h.1.front h.0 parts) h.1.spelled,
      words_spelled ws h.0 (all_right IsCardSymbol h.1.front h.0 parts) h.2,
    )

-- ---- expressions

good_word : (w : Word77) → IsSourceWord w → laws.IsGood w
good_word (words.Number n) h = h
good_word (words.Name x) h = h
good_word (words.Head x) h = h
good_word w h = tt

good : (ws : List Word77) → AreSourceWords ws → laws.AreGood ws
good [] h = tt
good (w ∷ ws) h = (good_word w h.0, good ws h.1)

pub source : (p : Phrase77) → IsExpression77 p → AreSourceWords (written77 p) → IsSource (tree77_of p)
source p g h = laws.source p g (good (written77 p) h)

pub shallow : (p : Phrase77) → IsExpression77 p → AreSourceWords (written77 p) → phrase_depth77 p ≤ 400 → IsShallow (tree77_of p)
shallow p g h d = (source p g h, omega (arith, within p g, d))
