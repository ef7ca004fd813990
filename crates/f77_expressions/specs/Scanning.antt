-- The symbols of a statement, found character by character.
use Rattle.std.specs.Prelude.{ℕ, Bool, true, false, ◌==◌, List, [], ◌∷◌, ◌++◌}
use Rattle.f77_grammar.specs.expressions.Squeezing.{Symbol77, Char, Text, Broken}
use Rattle.reading.specs.Characters.{upper}

-- outside constants, in a constant, or behind an apostrophe in it, which ends it or is doubled
pub data Mode : Type 0 where
  Out : Mode
  In : List ℕ → Mode
  Closing : List ℕ → Mode

abbrev pub closed : List ℕ → Symbol77
closed [] = Broken
closed (c ∷ t) = Text (c ∷ t)

-- by whether the character is an apostrophe, and whether it is a blank
abbrev pub scan_out : Bool → Bool → ℕ → (Mode → List Symbol77) → List Symbol77
scan_out true b c on = on (In [])
scan_out false true c on = on Out
scan_out false false c on = Char (upper c) ∷ on Out

abbrev pub scan_in : Bool → List ℕ → ℕ → (Mode → List Symbol77) → List Symbol77
scan_in true t c on = on (Closing t)
scan_in false t c on = on (In (t ++ c ∷ []))

abbrev pub scan_closing : Bool → List ℕ → ℕ → (Mode → List Symbol77) → List Symbol77
scan_closing true t c on = on (In (t ++ c ∷ []))
scan_closing false t c on = closed t ∷ scan_out false (c == 32) c on

abbrev pub scan : List ℕ → Mode → List Symbol77
scan [] Out = []
scan [] (In t) = Broken ∷ []
scan [] (Closing t) = closed t ∷ []
scan (c ∷ cs) Out = scan_out (c == 39) (c == 32) c (scan cs)
scan (c ∷ cs) (In t) = scan_in (c == 39) t c (scan cs)
scan (c ∷ cs) (Closing t) = scan_closing (c == 39) t c (scan cs)
