-- The number of the outermost loop, in the trees of a nest.
use Rattle.std.proofs.Common.{◌≡◌, ap, ℕ}
use Rattle.tree.specs.declared.lists.Seq.{Seq}
use Rattle.nest.specs.declared.parts.GuardedStmt.{GuardedStmt}
use Rattle.nest.specs.declared.parts.Loop.{Loop}
use Rattle.nest.specs.declared.parts.NestArm.{NestArm}
use Rattle.nest.specs.declared.parts.Part.{Part}
use Rattle.nest.specs.declared.parts.Part.TheVariants as variants
use Rattle.nest.specs.View.{part_of}
use Rattle.nest.proofs.Equations.{part_of-run, part_of-turns, part_of-choice, part_of-label, part_of-jump}
use Rattle.translation.specs.loop_numbers.Numbers.{number_of_part}

pub number-run : (s : GuardedStmt) → number_of_part (part_of (variants.Run s)) ≡ 0
number-run s = ap number_of_part (part_of-run s)

pub number-turns : (l : Loop) (ps : Seq Part) → number_of_part (part_of (variants.Turns l ps)) ≡ l.number
number-turns l ps = ap number_of_part (part_of-turns l ps)

pub number-choice : (bs : Seq NestArm) (ps : Seq Part) → number_of_part (part_of (variants.Choice bs ps)) ≡ 0
number-choice bs ps = ap number_of_part (part_of-choice bs ps)

pub number-label : (k : ℕ) → number_of_part (part_of (variants.Label k)) ≡ 0
number-label k = ap number_of_part (part_of-label k)

pub number-jump : (k : ℕ) → number_of_part (part_of (variants.Jump k)) ≡ 0
number-jump k = ap number_of_part (part_of-jump k)

pub ruleset number_laws = (number-run, number-turns, number-choice, number-label, number-jump)
