use Rattle.std.proofs.Common.{◌≡◌, ◌∷◌, ap, length, arith, rules}
use Rattle.tree.specs.View.{expression_of}
use Rattle.array_form.proofs.LoopLaws.{head_loop, tail_loops}
use Rattle.array_form.proofs.PlacingLaws.{spread_ok}
use Rattle.array_form.proofs.placing.+spread_over.Goals as goal

pub spread_one-requires-clause-turns : goal.spread_one-requires-clause-turns
spread_one-requires-clause-turns t c =
    let whole : c.args.over.now ≡ c.in-Some.first.now ∷ c.in-Some.rest.now = search rules in
    head_loop c.args.a.now c.args.over.now c.in-Some.rest.now c.in-Some.first.now whole c.requires.over

pub spread_over-requires : goal.spread_over-requires
spread_over-requires t c =
    let whole : c.args.over.now ≡ c.in-Some.first.now ∷ c.in-Some.rest.now = search rules in
    let size : length c.args.over.now ≡ length (c.in-Some.first.now ∷ c.in-Some.rest.now) = ap length whole in
    let room = c.requires.room in
    (first_of (omega arith, search rules), (c.requires.places, (tail_loops c.args.a.now c.args.over.now c.in-Some.rest.now c.in-Some.first.now whole c.requires.over, omega arith)))

pub returns : goal.returns
returns t c =
    let whole : c.args.over.now ≡ c.in-Some.first.now ∷ c.in-Some.rest.now = search rules in
    spread_ok c.args.a.now c.args.here.now c.args.over.now c.in-Some.rest.now c.in-Some.first.now c.args.place (expression_of c.args.expr) c.in_ok-wider.wider c.spread_over.result
    whole c.in_ok-wider.ensures c.spread_over.ensures
