use Rattle.std.proofs.Common.{◌≡◌, ◌∷◌, rules}
use Rattle.tree.specs.View.{expression_of}
use Rattle.array_form.proofs.holds.GuardLaws.{first_there}
use Rattle.array_form.proofs.holds.loops_standing.+stand_in.Goals as goal

pub returns-then-stands_in : goal.returns-then-stands_in
returns-then-stands_in t c =
    let whole : c.args.loops.now ≡ c.in-Some.first.now ∷ c.in-Some.rest.now = search rules in
    λ n. first_there n c.args.loops.now c.in-Some.rest.now c.in-Some.first.now (expression_of c.args.expr.now) c.stands_in.result whole c.stands_in.ensures c.if-stands_in.true
