-- What a text conforms as is a program of the profile.
use Rattle.std.specs.Prelude.{ℕ, ◌≤◌, List, length}
use Rattle.tree.specs.Limits.{deck_bytes90}
use Rattle.tree.specs.Plain.{Program}
use Rattle.meaning.specs.Profile90.{IsProgram90}
use Rattle.f90_grammar.specs.Refusals.{Conforms90}

-- A text of no more bytes than a deck may have, so that its lines are below 2^32 and its statements below 2^31
abbrev pub ReadTextIsProgram : Type 0
ReadTextIsProgram = (text : List ℕ) (q : Program) → length text ≤ deck_bytes90 → Conforms90 text q
    → IsProgram90 q
