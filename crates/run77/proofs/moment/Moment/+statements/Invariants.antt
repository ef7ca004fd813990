use Rattle.std.proofs.Common.{◌≡◌, ℕ, ◌-◌, List, Option, Result, drop, map}
use Rattle.tree.specs.Plain.{block}
use Rattle.tree.specs.View.{statement_of, block_of}
use Rattle.meaning.specs.Dialect.{fortran77}
use Rattle.meaning.specs.Run.{repeated, turn, does, does_all}
use Rattle.machine.specs.Moments.{Seen}
use Rattle.machine.specs.declared.progress.Left.{Left}
use Rattle.machine.specs.Acts.{LimitedAct, Runs}
use Rattle.machine.specs.Statements.{HasArms, ArmsHaveArms, BlockHasArms, plain_arms}
use Rattle.machine.specs.Jumps.{way_at}
use Rattle.machine.proofs.BlockLaws.{RunsOn, left_of_block, left_of_arms}
use Rattle.run77.specs.Moments.{seen}
use Rattle.machine.specs.Told.{IsTold}
use Rattle.run77.proofs.moment.Moment.+statements.Given as goal

-- what is done with the turns, the arms or the statements that are left is done with all
abbrev pub invariant-statement-loop : goal.invariant-statement-loop
invariant-statement-loop g l =
    (HasArms (statement_of l.fn.stmt) → (now : Option (List ℕ)) (last : Seen) (r : Result (Unit {0}) Left)
    → Runs (λ limit. repeated (l.end - l.counter) (turn (fortran77 l.width) limit l.line l.var l.turns.step (does_all (fortran77 l.width) limit (block_of l.body)))) l.input (seen l.self) (g.K.Sink.taken l.out) last now r
    → Runs (λ limit. does (fortran77 l.width) limit (statement_of l.fn.stmt)) l.input (seen l.fn.self) (g.K.Sink.taken l.fn.out) last now r)
    × (g.K.Sink.faults l.out ≡ g.K.Sink.faults l.fn.out)
    × (HasArms (statement_of l.fn.stmt) → (bytes : List ℕ) → IsTold (λ before mid. (now : Option (List ℕ)) (last : Seen) (r : Result (Unit {0}) Left)
    → Runs (λ limit. repeated (l.end - l.counter) (turn (fortran77 l.width) limit l.line l.var l.turns.step (does_all (fortran77 l.width) limit (block_of l.body)))) l.input (seen l.self) mid last now r
    → Runs (λ limit. does (fortran77 l.width) limit (statement_of l.fn.stmt)) l.input (seen l.fn.self) before last now r) (l.out ≡ l.fn.out) bytes)

abbrev pub invariant-branch-loop-arm : goal.invariant-branch-loop-arm
invariant-branch-loop-arm g l =
    ((other : LimitedAct) (now : Option (List ℕ)) (last : Seen) (r : Result (Unit {0}) Left)
    → Runs (left_of_arms (fortran77 l.width) l.line other (drop l.arm-index l.arm-items)) l.input (seen l.self) (g.K.Sink.taken l.out) last now r
    → Runs (left_of_arms (fortran77 l.width) l.line other l.arms) l.input (seen l.fn.self) (g.K.Sink.taken l.fn.out) last now r)
    × (ArmsHaveArms (plain_arms l.arms) → ArmsHaveArms (plain_arms (drop l.arm-index l.arm-items)))
    × (g.K.Sink.faults l.out ≡ g.K.Sink.faults l.fn.out)
    × ((bytes : List ℕ) → IsTold (λ before mid. (other : LimitedAct) (now : Option (List ℕ)) (last : Seen) (r : Result (Unit {0}) Left)
    → Runs (left_of_arms (fortran77 l.width) l.line other (drop l.arm-index l.arm-items)) l.input (seen l.self) mid last now r
    → Runs (left_of_arms (fortran77 l.width) l.line other l.arms) l.input (seen l.fn.self) before last now r) (l.out ≡ l.fn.out) bytes)

abbrev pub invariant-block-loop-stmt : goal.invariant-block-loop-stmt
invariant-block-loop-stmt g l =
    (BlockHasArms (block_of l.block) → BlockHasArms (block (map statement_of (drop l.stmt-index l.stmt-items)))
    × ((now : Option (List ℕ)) (last : Seen) (r : Result (Unit {0}) Left)
    → RunsOn (way_at l.jump) (left_of_block (fortran77 l.width) (drop l.stmt-index l.stmt-items)) l.input (seen l.self) (g.K.Sink.taken l.out) last now r
    → Runs (λ limit. does_all (fortran77 l.width) limit (block_of l.block)) l.input (seen l.fn.self) (g.K.Sink.taken l.fn.out) last now r))
    × (g.K.Sink.faults l.out ≡ g.K.Sink.faults l.fn.out)
    × (BlockHasArms (block_of l.block) → (bytes : List ℕ) → IsTold (λ before mid. (now : Option (List ℕ)) (last : Seen) (r : Result (Unit {0}) Left)
    → RunsOn (way_at l.jump) (left_of_block (fortran77 l.width) (drop l.stmt-index l.stmt-items)) l.input (seen l.self) mid last now r
    → Runs (λ limit. does_all (fortran77 l.width) limit (block_of l.block)) l.input (seen l.fn.self) before last now r) (l.out ≡ l.fn.out) bytes)
