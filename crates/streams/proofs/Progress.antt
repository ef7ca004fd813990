-- What the loops of `read_all` and `give_front` keep.
use Rattle.std.proofs.Common.{◌≡◌, ℕ, ◌≤◌, List, length, take, Option}
use Rattle.streams.specs.Streams.{Takes, Gives}

-- these bytes were taken so far, they are within the limit, and nothing failed
pub record Reads (before now : Option (List ℕ)) (bytes : List ℕ) (limit faults_before faults_now : ℕ) : Type 0 where
  pub taken : Takes before bytes now
  pub within : length bytes ≤ limit
  pub faultless : faults_now ≡ faults_before

-- so many bytes of the text were given so far, and nothing failed; where none were given there was no call
pub record Writes (Unchanged : Type 0) (before now : Option (List ℕ)) (text : List ℕ) (given faults_before faults_now : ℕ) : Type 0 where
  pub front : Gives before (take given text) now
  pub within : given ≤ length text
  pub untouched : given ≡ 0 → Unchanged
  pub faultless : faults_now ≡ faults_before
