-- What is known of what is found.
use Rattle.std.specs.Prelude.{◌≡◌, ◌↔◌, ℕ, Some, None, true, false, List, [], Contains}
use Rattle.tree.specs.Plain.{Program, Statement}
use Rattle.nest.specs.Plain.{Nest}
use Rattle.find_nests.specs.declared.reasons.Reason.{Reason}
use Rattle.nest_reasons.specs.declared.flaws.Flaw.TheVariants as flaws
use Rattle.find_nests.specs.declared.reasons.Reason.TheVariants.{Bound}
use Rattle.find_nests.specs.bound_limits.Numbers.{KeepsLimits}
use Rattle.find_nests.specs.Reasons.{has_flawed, has_reason, reason_over}
use Rattle.find_nests.specs.Loops.{SurroundedLoop, loops_in, loops_in_block}
use Rattle.find_nests.specs.LookedAt.{is_in_no_nest, reason_of}
use Rattle.find_nests.specs.Found.{InNest, Kept, found_in, nest_of_loop}

-- a loop of the program without a reason, each loop round it being kept
pub record IsFoundNest (p : Program) (n : Nest) : Type 0 where
  pub loop : SurroundedLoop
  pub stands : Contains (loops_in_block 0 [] p.body) loop
  pub outermost : is_in_no_nest p.declarations loop ≡ true
  pub no_reason : reason_of p.declarations loop.loop.loop ≡ None
  pub is : n ≡ nest_of_loop p n.number loop.loop

-- the same of a kept loop, by its line and its reason
pub record IsFoundKept (p : Program) (line : ℕ) (r : Reason) : Type 0 where
  pub loop : SurroundedLoop
  pub stands : Contains (loops_in_block 0 [] p.body) loop
  pub outermost : is_in_no_nest p.declarations loop ≡ true
  pub reason : reason_of p.declarations loop.loop.loop ≡ Some r
  pub at : line ≡ loop.loop.loop.line

-- each nest that is found is such a loop
abbrev pub FoundNestIsLoop : Type 0
FoundNestIsLoop = (p : Program) (n : Nest) → Contains (found_in p) (InNest n) → IsFoundNest p n

-- so is each kept loop
abbrev pub KeptIsLoop : Type 0
KeptIsLoop = (p : Program) (line : ℕ) (r : Reason) → Contains (found_in p) (Kept line r) → IsFoundKept p line r

-- where no reason is given none holds
abbrev pub NoReasonHolds : Type 0
NoReasonHolds = (symbols : List (List ℕ)) (c : Statement) (r : Reason) → reason_over symbols c ≡ None
    → has_reason r symbols c ≡ false

-- the reason that is given holds
abbrev pub ReasonHolds : Type 0
ReasonHolds = (symbols : List (List ℕ)) (c : Statement) (r : Reason) → reason_over symbols c ≡ Some r
    → has_reason r symbols c ≡ true

-- Where all bounds are linear, and all increments suitable, the second cause of BOUND doesn't hold exactly where the
-- numbers of each loop are those of forms within the limits
abbrev pub BoundIsByNumbers : Type 0
BoundIsByNumbers = (symbols : List (List ℕ)) (c : Statement) → has_flawed flaws.Bound symbols c ≡ false
    → has_flawed flaws.Step symbols c ≡ false
    → ((has_reason Bound symbols c ≡ false)
    ↔ ((p : SurroundedLoop) → Contains (loops_in 0 [] c) p → KeepsLimits symbols p))
