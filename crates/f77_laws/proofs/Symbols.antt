-- A character constant among the symbols of a card has characters that a card may hold.
use Rattle.std.proofs.Common.{ℕ, Bool, true, false, List, [], ◌∷◌, ◌++◌}
use Rattle.std.specs.Prelude.{◌==◌}
use Rattle.std.specs.List.{AllByRecursion}
use Rattle.f77_grammar.specs.expressions.Squeezing.{Symbol77, Char, Text, Broken, Squeezed, nothing, blank, character, constant, empty, endless}
use Rattle.reading.specs.Characters.{doubled_one, doubled}
use Rattle.meaning.specs.Typed77.{IsText}
use Rattle.f77_laws.specs.SourceCards.{AreCardCharacters}

abbrev pub IsCardSymbol : Symbol77 → Type 0
IsCardSymbol (Char c) = Unit {0}
IsCardSymbol (Text t) = IsText t
IsCardSymbol Broken = Unit {0}

abbrev pub AreCardSymbols : List Symbol77 → Type 0
AreCardSymbols ss = AllByRecursion IsCardSymbol ss

doubled_parts : (t cs : List ℕ) → AreCardCharacters (doubled t ++ cs) → AreCardCharacters t × AreCardCharacters cs
doubled_parts [] cs h = (tt, h)
doubled_parts (c ∷ t) cs h = by (c == 39) (doubled_parts t cs) h
  where
    by : (b : Bool) → (AreCardCharacters (doubled t ++ cs) → AreCardCharacters t × AreCardCharacters cs) → AreCardCharacters ((doubled_one b c ++ doubled t) ++ cs)
        → AreCardCharacters (c ∷ t) × AreCardCharacters cs
    by true more g = let k = more g.1.1 in ((g.0, k.0), k.1)
    by false more g = let k = more g.1 in ((g.0, k.0), k.1)

pub card_symbols : {cs : List ℕ} {ss : List Symbol77} → Squeezed cs ss → AreCardCharacters cs → AreCardSymbols ss
card_symbols nothing h = tt
card_symbols (blank s) h = card_symbols s h.1
card_symbols (character c b q s) h = (tt, card_symbols s h.1)
card_symbols (constant c t {cs = cs} e s) h = let k = doubled_parts (c ∷ t) (39 ∷ cs) h.1 in (k.0, card_symbols s k.1.1)
card_symbols (empty e s) h = (tt, card_symbols s h.1.1)
card_symbols (endless t) h = (tt, tt)
