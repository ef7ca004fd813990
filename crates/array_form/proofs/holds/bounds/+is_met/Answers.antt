use Rattle.std.proofs.Common.{◌≡◌, [], ◌∷◌, arith, rules}
use Rattle.std.proofs.lemmas.Grind.{common_steps}
use Rattle.tree.specs.View.{bounds_of}
use Rattle.array_form.specs.holds.Bounds.{meets}
use Rattle.array_form.proofs.holds.SafeLaws.{front_noted, meets_else, meets_then, none_meets}
use Rattle.array_form.proofs.holds.bounds.+is_met.Goals as goal

pub returns-in_default : goal.returns-in_default
returns-in_default t c =
    let none : c.args.all.now ≡ [] = grind (arith, common_steps) in
    λ n ys f few h are. none_meets n ys c.args.all.now (meets n c.args.loops.now f (bounds_of c.args.bounds)) none are

pub returns-then-meets : goal.returns-then-meets
returns-then-meets t c = λ n ys f few h are.
    let some : c.args.all.now ≡ c.in-Some.first.now ∷ c.in-Some.rest.now = search rules in
    let k = front_noted n ys c.args.all.now c.in-Some.rest.now c.in-Some.first.now some are in
    meets_then n ys c.in-Some.first.now c.in-Some.rest.now (meets n c.args.loops.now f (bounds_of c.args.bounds)) c.meets.result k (c.meets.ensures n k.y f few h k.is) c.if-meets.true

pub returns-else-meets : goal.returns-else-meets
returns-else-meets t c = λ n ys f few h are.
    let some : c.args.all.now ≡ c.in-Some.first.now ∷ c.in-Some.rest.now = search rules in
    let k = front_noted n ys c.args.all.now c.in-Some.rest.now c.in-Some.first.now some are in
    meets_else n ys c.in-Some.first.now c.in-Some.rest.now (meets n c.args.loops.now f (bounds_of c.args.bounds)) c.meets.result c.is_met.result k (c.meets.ensures n k.y f few h k.is) c.if-meets.false
    (c.is_met.ensures n k.others f few h k.later)
