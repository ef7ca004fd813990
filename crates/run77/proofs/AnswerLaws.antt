-- What a statement answered after which its block goes on.
use Rattle.std.proofs.Common.{◌≡◌, ℕ, Result, Ok, Err, Option}
use Rattle.std.specs.Prelude.{◌≢◌}
use Rattle.machine.specs.declared.progress.Left.{Left}
use Rattle.machine.specs.declared.progress.Left.TheVariants.{Halted, Unwritten}
use Rattle.machine.specs.Jumps.{landed}

-- no write has failed
pub went_on : (q : Result (Unit {0}) Left) (j : Option ℕ) → Ok j ≡ landed q → q ≢ Err Unwritten
went_on (Ok x) j e = λ u. cc
went_on (Err (Halted h)) j e = λ u. cc
went_on (Err Unwritten) j e = cc
