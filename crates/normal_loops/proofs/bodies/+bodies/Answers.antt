use Rattle.std.proofs.Common.{◌≡◌, ◌++◌, map, sym, subst, OnOk}
use Rattle.nest.specs.View.{nest_of, part_of}
use Rattle.nest.specs.declared.parts.Part.{Part}
use Rattle.nest.specs.declared.parts.Part.TheVariants as variants
use Rattle.normal_loops.specs.Bodies.{normal_part}
use Rattle.normal_loops.proofs.BodyLaws.{kept, run-is, choice-is, label-is, jump-is}
use Rattle.normal_loops.proofs.bodies.+bodies.Goals as goal

pub add_part-returns-in_ok-stmt-in-Run : goal.add_part-returns-in_ok-stmt-in-Run
add_part-returns-in_ok-stmt-in-Run t c =
    let n = nest_of c.args.nest.now in
    kept c.push.result (λ now.
    let whole : map part_of c.push.new.self ≡ map part_of c.args.made.now ++ normal_part n c.args.loops.now c.args.round.now (part_of (variants.Run c.in-Run.stmt)) =
    run-is n c.args.loops.now c.args.round.now c.args.made.now c.push.new.self c.in-Run.stmt c.in_ok-stmt-in-Run.stmt c.in_ok-stmt-in-Run.ensures now in
    subst (λ (p : Part). map part_of c.push.new.self ≡ map part_of c.args.made.now ++ normal_part n c.args.loops.now c.args.round.now (part_of p)) (sym c.in-Run.is) whole) c.push.ensures.ok

pub add_part-returns-in_ok-other-in-Choice : goal.add_part-returns-in_ok-other-in-Choice
add_part-returns-in_ok-other-in-Choice t c =
    let n = nest_of c.args.nest.now in
    kept c.push-in-Choice.result (λ now.
    let whole : map part_of c.push-in-Choice.new.self ≡ map part_of c.args.made.now
    ++ normal_part n c.args.loops.now c.args.round.now (part_of (variants.Choice c.in-Choice.arms c.in-Choice.other)) =
    choice-is n c.args.loops.now c.args.round.now c.args.made.now c.push-in-Choice.new.self c.in-Choice.arms c.in_ok-arms-in-Choice.arms c.in-Choice.other c.in_ok-other-in-Choice.other
    c.in_ok-arms-in-Choice.ensures c.in_ok-other-in-Choice.ensures now in
    subst (λ (p : Part). map part_of c.push-in-Choice.new.self ≡ map part_of c.args.made.now ++ normal_part n c.args.loops.now c.args.round.now (part_of p)) (sym c.in-Choice.is) whole) c.push-in-Choice.ensures.ok

pub add_part-returns-in-Label : goal.add_part-returns-in-Label
add_part-returns-in-Label t c =
    let n = nest_of c.args.nest.now in
    kept c.push-in-Label.result (λ now.
    let whole : map part_of c.push-in-Label.new.self ≡ map part_of c.args.made.now ++ normal_part n c.args.loops.now c.args.round.now (part_of (variants.Label c.in-Label.number)) =
    label-is n c.args.loops.now c.args.round.now c.args.made.now c.push-in-Label.new.self c.in-Label.number now in
    subst (λ (p : Part). map part_of c.push-in-Label.new.self ≡ map part_of c.args.made.now ++ normal_part n c.args.loops.now c.args.round.now (part_of p)) (sym c.in-Label.is) whole) c.push-in-Label.ensures.ok

pub add_part-returns-in-Jump : goal.add_part-returns-in-Jump
add_part-returns-in-Jump t c =
    let n = nest_of c.args.nest.now in
    kept c.push-in-Jump.result (λ now.
    let whole : map part_of c.push-in-Jump.new.self ≡ map part_of c.args.made.now ++ normal_part n c.args.loops.now c.args.round.now (part_of (variants.Jump c.in-Jump.number)) =
    jump-is n c.args.loops.now c.args.round.now c.args.made.now c.push-in-Jump.new.self c.in-Jump.number now in
    subst (λ (p : Part). map part_of c.push-in-Jump.new.self ≡ map part_of c.args.made.now ++ normal_part n c.args.loops.now c.args.round.now (part_of p)) (sym c.in-Jump.is) whole) c.push-in-Jump.ensures.ok
