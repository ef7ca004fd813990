-- What the answer of a reader or a writer of std means here, and what contracts see of the two that stand round them.
use Rattle.std.specs.Prelude.{ℕ, ◌==◌, if◌then◌else◌, List, take, Option, Result, Ok, Err}
use Rattle.std.specs.Io.KnownBytes.{Keeps, Consumes, Appends, IsAtEnd}
use Rattle.streams.specs.declared.source.Took.{Took}
use Rattle.streams.specs.declared.source.Took.TheVariants as took
use Rattle.streams.specs.declared.sink.Gave.{Gave}
use Rattle.streams.specs.declared.sink.Gave.TheVariants as gave

pub record ReaderState (R : Type 0) : Type 0 where
  pub reader : R
  pub faults : ℕ

pub record WriterState (W : Type 0) : Type 0 where
  pub writer : W
  pub faults : ℕ

-- a reader that gives no byte has none left
abbrev pub took_of : {E : Type 0} → Result ℕ E → Took
took_of (Ok n) = if n == 0 then took.End else took.Bytes n
took_of (Err e) = took.Failed

-- a writer that takes no byte fails
abbrev pub gave_of : {E : Type 0} → Result ℕ E → Gave
gave_of (Ok n) = if n == 0 then gave.Failed else gave.Bytes n
gave_of (Err e) = gave.Failed

-- where the reader knows its bytes, the front of the buffer has the first of them, or none is left, or they stay
abbrev pub ReadsFront : Option (List ℕ) → Took → List ℕ → Option (List ℕ) → Type 0
ReadsFront before (took.Bytes n) buffer now = Consumes before now (take n buffer)
ReadsFront before took.End buffer now = IsAtEnd now × Keeps before now
ReadsFront before took.Failed buffer now = Keeps before now

-- where the writer knows its bytes, the front of the piece was added to them, or they stay
abbrev pub WritesFront : Option (List ℕ) → Gave → List ℕ → Option (List ℕ) → Type 0
WritesFront before (gave.Bytes n) piece now = Appends before now (take n piece)
WritesFront before gave.Failed piece now = Keeps before now
