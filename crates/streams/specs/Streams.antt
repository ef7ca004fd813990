-- What a call does to the bytes that a source has left, and to those that a sink has taken.
-- `Some bytes` is told, and `None` isn't. Each equation also says that what is told stays told, and what isn't stays
-- untold.
use Rattle.std.specs.Prelude.{◌≡◌, ℕ, ◌<◌, List, ◌++◌, length, Option}
use Rattle.std.specs.Io.KnownBytes.{prepend_known, append_known}

-- the bytes left before are these, and then those left now
abbrev pub Takes : Option (List ℕ) → List ℕ → Option (List ℕ) → Type 0
Takes before bytes now = before ≡ prepend_known bytes now

-- the bytes taken now are those taken before, and then these
abbrev pub Gives : Option (List ℕ) → List ℕ → Option (List ℕ) → Type 0
Gives before bytes now = now ≡ append_known before bytes

-- more bytes than this were taken
abbrev pub TakesMoreThan : ℕ → Option (List ℕ) → Option (List ℕ) → Type 0
TakesMoreThan limit before now = (bytes : List ℕ) × (limit < length bytes) × Takes before bytes now

-- a front of the text was given, and the rest of it wasn't
abbrev pub GivesPart : Option (List ℕ) → List ℕ → Option (List ℕ) → Type 0
GivesPart before text now = (front rest : List ℕ) × (text ≡ front ++ rest) × Gives before front now
