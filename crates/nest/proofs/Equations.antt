-- The plain tree of each kind of part.
use Rattle.std.proofs.Common.{◌≡◌, ℕ, map, rules}
use Rattle.tree.specs.declared.exprs.Expr.{Expr}
use Rattle.tree.specs.declared.lists.Seq.{Seq}
use Rattle.tree.specs.View.{expression_of}
use Rattle.nest.specs.declared.parts.Loop.{Loop}
use Rattle.nest.specs.declared.parts.GuardedStmt.{GuardedStmt}
use Rattle.nest.specs.declared.parts.Part as part
use Rattle.nest.specs.declared.parts.Part.TheVariants as parts
use Rattle.nest.specs.declared.parts.NestArm.{NestArm, out-NestArm, roll-NestArm}
use Rattle.nest.specs.Plain as P
use Rattle.nest.specs.View.{loop_of, guarded_of, part_of, branch_of, branches}

pub part_of-run : (s : GuardedStmt) → part_of (parts.Run s) ≡ P.Run (guarded_of s)
unfolding part_of
part_of-run s = search (rules, part.the_lemmas)

pub part_of-turns : (l : Loop) (ps : Seq part.Part) → part_of (parts.Turns l ps) ≡ P.Turns (loop_of l) (P.parts (map part_of ps))
unfolding part_of
part_of-turns l ps = search (rules, part.the_lemmas)

pub part_of-choice : (bs : Seq NestArm) (ps : Seq part.Part) → part_of (parts.Choice bs ps) ≡ P.Choice (branches (map branch_of bs)) (P.parts (map part_of ps))
unfolding part_of branch_of
part_of-choice bs ps = search (rules, part.the_lemmas)

pub part_of-label : (n : ℕ) → part_of (parts.Label n) ≡ P.Label n
unfolding part_of
part_of-label n = search (rules, part.the_lemmas)

pub part_of-jump : (n : ℕ) → part_of (parts.Jump n) ≡ P.Jump n
unfolding part_of
part_of-jump n = search (rules, part.the_lemmas)

pub branch_of-is : (a : NestArm) → branch_of a ≡ record { test = expression_of (out-NestArm a).test; body = P.parts (map part_of (out-NestArm a).body) }
unfolding part_of branch_of
branch_of-is a = search (rules, part.the_lemmas)

pub branch_of-made : (e : Expr) (ps : Seq part.Part) → branch_of (roll-NestArm (record { test = e; body = ps })) ≡ record { test = expression_of e; body = P.parts (map part_of ps) }
unfolding part_of branch_of
branch_of-made e ps = search (rules, part.the_lemmas)

pub ruleset part_equations = (part_of-run, part_of-turns, part_of-choice, part_of-label, part_of-jump, branch_of-is, branch_of-made)
