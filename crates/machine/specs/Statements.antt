-- Statements, as a machine does them.
use Rattle.std.specs.Prelude.{Result, Ok, Err, Option, ℕ, Bool, true, false, List, map, IsTrue}
use Rattle.tree.specs.Plain.{Statement, Assignment, Where, If, Do, Label, GoTo, Stop, Read, Print, Allocate, Deallocate}
use Rattle.tree.specs.Plain.{Arms, no_arms, arm, Block, no_statements, statement, Items}
use Rattle.tree.specs.View.{arms, tested_of}
use Rattle.tree.specs.declared.stmts.Arm.{Arm}
use Rattle.meaning.specs.Dialect.{Dialect}
use Rattle.meaning.specs.Run.{Act, then, chooses, begins_line, reads_items, skips_line}
use Rattle.meaning.specs.Labels.{has_arm}
use Rattle.machine.specs.Moments.{Seen}
use Rattle.machine.specs.declared.progress.Halt.{Halt}
use Rattle.machine.specs.declared.progress.Left.{Left}
use Rattle.machine.specs.Acts.{LimitedAct, Runs, left_of}

-- each IF has an arm
abbrev mutual
  pub HasArms : Statement → Type 0
  HasArms (Assignment line mark left right) = Unit {0}
  HasArms (Where line mark mask left right) = Unit {0}
  HasArms (If line as' other) = IsTrue (has_arm as') × ArmsHaveArms as' × BlockHasArms other
  HasArms (Do line x a b c body) = BlockHasArms body
  HasArms (Label n) = Unit {0}
  HasArms (GoTo line n) = Unit {0}
  HasArms (Stop line) = Unit {0}
  HasArms (Read line is) = Unit {0}
  HasArms (Print line is) = Unit {0}
  HasArms (Allocate line x es) = Unit {0}
  HasArms (Deallocate line x) = Unit {0}

  pub ArmsHaveArms : Arms → Type 0
  ArmsHaveArms no_arms = Unit {0}
  ArmsHaveArms (arm test body more) = BlockHasArms body × ArmsHaveArms more

  pub BlockHasArms : Block → Type 0
  BlockHasArms no_statements = Unit {0}
  BlockHasArms (statement c cs) = HasArms c × BlockHasArms cs

abbrev pub plain_arms : List Arm → Arms
plain_arms as' = arms (map tested_of as')

-- The arms were gone through, whatever the ELSE part does: one was done; none, so that the ELSE part goes on from here;
-- or the run was left
module _ (lang : Dialect) (line : ℕ) (as' : Arms) (input : List ℕ) (old : Seen) (before : Option (List ℕ))
    (new : Seen) (now : Option (List ℕ)) where
  unfoldable pub Chooses : Result Bool Left → Type 0
  Chooses (Ok true) = (other : LimitedAct)
      → Runs (λ limit. chooses lang limit line as' (other limit)) input old before new now (Ok tt)
  Chooses (Ok false) = (other : LimitedAct) (end : Seen) (after : Option (List ℕ)) (r : Result (Unit {0}) Left)
      → Runs other input new now end after r
      → Runs (λ limit. chooses lang limit line as' (other limit)) input old before end after r
  Chooses (Err left) = (other : LimitedAct)
      → Runs (λ limit. chooses lang limit line as' (other limit)) input old before new now (Err left)

-- the same as `Does`, over this input
abbrev pub DoesOver : List ℕ → LimitedAct → Seen → Seen → Result (Unit {0}) Halt → Type 0
DoesOver input act old new r = (bytes : Option (List ℕ)) → Runs act input old bytes new bytes (left_of r)

-- a READ, after its first step
abbrev pub reads : Dialect → Option ℕ → ℕ → Items → Act
reads lang limit line is = then (begins_line line) (then (reads_items lang limit is line) skips_line)
