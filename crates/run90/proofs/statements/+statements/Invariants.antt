use Rattle.std.proofs.Common.{◌≡◌, ℕ, ◌-◌, List, Option, Result, drop, map}
use Rattle.tree.specs.Plain.{Program, block}
use Rattle.tree.specs.View.{statement_of, block_of}
use Rattle.meaning.specs.Blocks.{Surroundings}
use Rattle.meaning.specs.Dialect.{fortran90}
use Rattle.meaning.specs.Profile90.{IsStatement, AreArms, IsBlock}
use Rattle.meaning.specs.Run.{repeated, turn, does, does_all}
use Rattle.machine.specs.Moments.{Seen}
use Rattle.machine.specs.declared.progress.Left.{Left}
use Rattle.machine.specs.Acts.{LimitedAct, Runs}
use Rattle.machine.specs.Statements.{plain_arms}
use Rattle.machine.specs.Jumps.{way_at}
use Rattle.machine.specs.Told.{IsTold}
use Rattle.machine.proofs.BlockLaws.{RunsOn, left_of_block, left_of_arms}
use Rattle.array_expressions.specs.assignments.Moments.{seen}
use Rattle.run90.specs.Suiting.{Suits}
use Rattle.run90.proofs.statements.+statements.Given as goal

-- what is done with the turns, the arms or the statements that are left is done with all
abbrev pub invariant-statement-loop : goal.invariant-statement-loop
invariant-statement-loop g l =
    ((p : Program) (w : Surroundings) → IsStatement p.declarations (statement_of l.fn.stmt) w → Suits l.width p (seen l.fn.moment) → Suits l.width p (seen l.moment)
    × ((now : Option (List ℕ)) (last : Seen) (r : Result (Unit {0}) Left)
    → Runs (λ limit. repeated (l.end - l.counter) (turn (fortran90 l.width) limit l.line l.var l.turns.step (does_all (fortran90 l.width) limit (block_of l.body)))) l.input (seen l.moment) (g.K.Sink.taken l.out) last now r
    → Runs (λ limit. does (fortran90 l.width) limit (statement_of l.fn.stmt)) l.input (seen l.fn.moment) (g.K.Sink.taken l.fn.out) last now r))
    × (g.K.Sink.faults l.out ≡ g.K.Sink.faults l.fn.out)
    × ((p : Program) (w : Surroundings) → IsStatement p.declarations (statement_of l.fn.stmt) w → Suits l.width p (seen l.fn.moment) → (bytes : List ℕ) → IsTold (λ before mid. (now : Option (List ℕ)) (last : Seen) (r : Result (Unit {0}) Left)
    → Runs (λ limit. repeated (l.end - l.counter) (turn (fortran90 l.width) limit l.line l.var l.turns.step (does_all (fortran90 l.width) limit (block_of l.body)))) l.input (seen l.moment) mid last now r
    → Runs (λ limit. does (fortran90 l.width) limit (statement_of l.fn.stmt)) l.input (seen l.fn.moment) before last now r) (l.out ≡ l.fn.out) bytes)

abbrev pub invariant-choose-loop-arm : goal.invariant-choose-loop-arm
invariant-choose-loop-arm g l =
    ((other : LimitedAct) (now : Option (List ℕ)) (last : Seen) (r : Result (Unit {0}) Left)
    → Runs (left_of_arms (fortran90 l.width) l.line other (drop l.arm-index l.arm-items)) l.input (seen l.moment) (g.K.Sink.taken l.out) last now r
    → Runs (left_of_arms (fortran90 l.width) l.line other l.arms) l.input (seen l.fn.moment) (g.K.Sink.taken l.fn.out) last now r)
    × ((p : Program) (w : Surroundings) → AreArms p.declarations (plain_arms l.arms) w → Suits l.width p (seen l.fn.moment) → AreArms p.declarations (plain_arms (drop l.arm-index l.arm-items)) w × Suits l.width p (seen l.moment))
    × (g.K.Sink.faults l.out ≡ g.K.Sink.faults l.fn.out)
    × ((bytes : List ℕ) → IsTold (λ before mid. (other : LimitedAct) (now : Option (List ℕ)) (last : Seen) (r : Result (Unit {0}) Left)
    → Runs (left_of_arms (fortran90 l.width) l.line other (drop l.arm-index l.arm-items)) l.input (seen l.moment) mid last now r
    → Runs (left_of_arms (fortran90 l.width) l.line other l.arms) l.input (seen l.fn.moment) before last now r) (l.out ≡ l.fn.out) bytes)

abbrev pub invariant-block-loop-stmt : goal.invariant-block-loop-stmt
invariant-block-loop-stmt g l =
    ((p : Program) (w : Surroundings) → IsBlock p.declarations (block_of l.block) w → Suits l.width p (seen l.fn.moment)
    → IsBlock p.declarations (block (map statement_of (drop l.stmt-index l.stmt-items))) w × Suits l.width p (seen l.moment)
    × ((now : Option (List ℕ)) (last : Seen) (r : Result (Unit {0}) Left)
    → RunsOn (way_at l.jump) (left_of_block (fortran90 l.width) (drop l.stmt-index l.stmt-items)) l.input (seen l.moment) (g.K.Sink.taken l.out) last now r
    → Runs (λ limit. does_all (fortran90 l.width) limit (block_of l.block)) l.input (seen l.fn.moment) (g.K.Sink.taken l.fn.out) last now r))
    × (g.K.Sink.faults l.out ≡ g.K.Sink.faults l.fn.out)
    × ((p : Program) (w : Surroundings) → IsBlock p.declarations (block_of l.block) w → Suits l.width p (seen l.fn.moment) → (bytes : List ℕ) → IsTold (λ before mid. (now : Option (List ℕ)) (last : Seen) (r : Result (Unit {0}) Left)
    → RunsOn (way_at l.jump) (left_of_block (fortran90 l.width) (drop l.stmt-index l.stmt-items)) l.input (seen l.moment) mid last now r
    → Runs (λ limit. does_all (fortran90 l.width) limit (block_of l.block)) l.input (seen l.fn.moment) before last now r) (l.out ≡ l.fn.out) bytes)
