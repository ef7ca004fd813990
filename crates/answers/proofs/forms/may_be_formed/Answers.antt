use Rattle.std.proofs.Common.{◌<◌, ◌≤◌, ◌^◌, length, arith, leb-true}
use Rattle.nest.specs.View.{nest_of}
use Rattle.array_form.specs.holds.Statements.{statement_at}
use Rattle.answers.proofs.Formed.{has_array_form}
use Rattle.answers.proofs.forms.may_be_formed.Goals as goal

pub returns-then-level-ge1 : goal.returns-then-level-ge1
returns-then-level-ge1 c h =
    let n = nest_of c.args.nest.now in
    let few : length n.symbols < 2 ^ 16 = omega (arith, c.len.ensures, c.if-len.false) in
    let below = leb-true c.args.level c.in_ok-loops.loops h in
    let within : c.args.level ≤ length (statement_at n c.args.s).loops = omega (arith, below, c.in_ok-loops.ensures) in
    has_array_form n c.args.s c.args.level few (c.in_ok-is_ready.ensures.0 c.if-not-branch.false)
    (c.in_ok-is_plain_statement.ensures.0 c.if-not-branch-2.false) c.if-level-ge1.true within
