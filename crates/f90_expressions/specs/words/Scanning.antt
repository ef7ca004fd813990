-- The symbols of a statement, found character by character; none where a constant is empty, or has no end on its line.
use Rattle.std.specs.Prelude.{ℕ, ◌==◌, Option, Some, None, List, [], ◌∷◌, ◌++◌, if◌then◌else◌}
use Rattle.f90_grammar.specs.Words.{Symbol90, Char, Gap, Text}
use Rattle.reading.specs.Characters.{upper}

-- outside constants, in a constant, or behind an apostrophe in it, which ends it or is doubled
pub data Mode : Type 0 where
  Out : Mode
  In : List ℕ → Mode
  Closing : List ℕ → Mode

abbrev pub shown : ℕ → Symbol90
shown c = if c == 32 then Gap else (if c == 10 then Gap else Char (upper c))

abbrev pub with_front : List Symbol90 → Option (List Symbol90) → Option (List Symbol90)
with_front ss (Some rest) = Some (ss ++ rest)
with_front ss None = None

abbrev pub scan_out : ℕ → (Mode → Option (List Symbol90)) → Option (List Symbol90)
scan_out c on = if c == 39 then on (In []) else with_front (shown c ∷ []) (on Out)

abbrev pub scan_in : List ℕ → ℕ → (Mode → Option (List Symbol90)) → Option (List Symbol90)
scan_in t c on = if c == 39 then on (Closing t) else (if c == 10 then None else on (In (t ++ c ∷ [])))

abbrev pub closed : List ℕ → Option (List Symbol90) → Option (List Symbol90)
closed [] rest = None
closed (c ∷ t) rest = with_front (Text (c ∷ t) ∷ []) rest

abbrev pub scan_closing : List ℕ → ℕ → (Mode → Option (List Symbol90)) → Option (List Symbol90)
scan_closing t c on = if c == 39 then on (In (t ++ c ∷ [])) else closed t (scan_out c on)

abbrev pub scan_one : Mode → ℕ → (Mode → Option (List Symbol90)) → Option (List Symbol90)
scan_one Out c on = scan_out c on
scan_one (In t) c on = scan_in t c on
scan_one (Closing t) c on = scan_closing t c on

abbrev pub scan_end : Mode → Option (List Symbol90)
scan_end Out = Some []
scan_end (In t) = None
scan_end (Closing t) = closed t (Some [])

abbrev pub scan : List ℕ → Mode → Option (List Symbol90)
scan [] m = scan_end m
scan (c ∷ cs) m = scan_one m c (scan cs)
