-- What one call does that takes bytes of a source, or gives bytes to a sink.
use Rattle.std.specs.Prelude.{◌≡◌, ℕ, ◌<◌, ◌≤◌, List, length, take, ⊤, Option}
use Rattle.std.specs.Io.KnownBytes.{IsAtEnd}
use Rattle.streams.specs.declared.source.Took.{Took}
use Rattle.streams.specs.declared.source.Took.TheVariants as took
use Rattle.streams.specs.declared.sink.Gave.{Gave}
use Rattle.streams.specs.declared.sink.Gave.TheVariants as gave
use Rattle.streams.specs.Streams.{Gives, Takes}

-- the front of the buffer has the first bytes left, or nothing is left, or all is left as it was
abbrev pub TakesFront : Option (List ℕ) → Took → List ℕ → Option (List ℕ) → Type 0
TakesFront before (took.Bytes n) buffer now = Takes before (take n buffer) now
TakesFront before took.End buffer now = (now ≡ before) × IsAtEnd before
TakesFront before took.Failed buffer now = now ≡ before

-- at least one byte, and no more than the buffer holds
abbrev pub TakesCount : Took → List ℕ → Type 0
TakesCount (took.Bytes n) buffer = (0 < n) × (n ≤ length buffer)
TakesCount took.End buffer = ⊤
TakesCount took.Failed buffer = ⊤

-- where bytes are taken, there are this many of them
abbrev pub TakesExactly : ℕ → Took → Type 0
TakesExactly size (took.Bytes n) = n ≡ size
TakesExactly size took.End = ⊤
TakesExactly size took.Failed = ⊤

-- the front of the piece was taken, or nothing was
abbrev pub GivesFront : Option (List ℕ) → Gave → List ℕ → Option (List ℕ) → Type 0
GivesFront before (gave.Bytes n) piece now = Gives before (take n piece) now
GivesFront before gave.Failed piece now = now ≡ before

-- at least one byte, and no more than the piece has
abbrev pub GivesCount : Gave → List ℕ → Type 0
GivesCount (gave.Bytes n) piece = (0 < n) × (n ≤ length piece)
GivesCount gave.Failed piece = ⊤

-- where bytes are given, there are this many of them
abbrev pub GivesExactly : ℕ → Gave → Type 0
GivesExactly size (gave.Bytes n) = n ≡ size
GivesExactly size gave.Failed = ⊤

-- no more bytes than this were taken
abbrev pub TakesAtMost : ℕ → Option (List ℕ) → Option (List ℕ) → Type 0
TakesAtMost limit before now = (bytes : List ℕ) × (length bytes ≤ limit) × Takes before bytes now
