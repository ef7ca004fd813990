-- What was written of a text.
use Rattle.std.specs.Prelude.{Result, Ok, Err, Option, ℕ, List}
use Rattle.streams.specs.Streams.{Gives, GivesPart}

-- all of the text was written, or a front of it
abbrev pub WritesText : {E : Type 0} → Option (List ℕ) → List ℕ → Option (List ℕ) → Result (Unit {0}) E → Type 0
WritesText before text now (Ok x) = Gives before text now
WritesText before text now (Err e) = GivesPart before text now
