-- That a text of which something holds was given. A sink that tells what it has taken fixes the text; so what several
-- clauses say of a call is said of one text.
use Rattle.std.specs.Prelude.{ℕ, List, Option}
use Rattle.streams.specs.Streams.{Gives, GivesPart}

-- all of it, and nothing else
abbrev pub GivesWhere : Option (List ℕ) → Option (List ℕ) → (List ℕ → Type 0) → Type 0
GivesWhere before now Is = (text : List ℕ) × Is text × Gives before text now

-- a front of it
abbrev pub GivesPartWhere : Option (List ℕ) → Option (List ℕ) → (List ℕ → Type 0) → Type 0
GivesPartWhere before now Is = (text : List ℕ) × Is text × GivesPart before text now
