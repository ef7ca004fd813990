-- What a run does to a sink that may tell nothing.
use Rattle.std.specs.Prelude.{◌≡◌, ◌≤◌, ℕ, List, length, Option, Some}

-- Another sink, which tells its bytes and takes all that it is given, would in this one's place have had `bytes` before
-- and have `after` now, and what was done is done with it. Where that is nothing more, this sink is as it was.
pub record IsTold (Does : Option (List ℕ) → Option (List ℕ) → Type 0) (IsUntouched : Type 0) (bytes : List ℕ)
    : Type 0 where
  pub after : List ℕ
  pub does : Does (Some bytes) (Some after)
  pub grows : length bytes ≤ length after
  pub untouched : length after ≡ length bytes → IsUntouched
