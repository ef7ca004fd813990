use Rattle.std.proofs.Common.{◌≡◌, [], ◌∷◌, arith, rules}
use Rattle.std.proofs.lemmas.Grind.{common_steps}
use Rattle.array_form.proofs.holds.SafeLaws.{equal_else, equal_then, front, none_equal}
use Rattle.array_form.proofs.holds.bounds.+has_equal.Goals as goal

pub returns-in_default : goal.returns-in_default
returns-in_default t c =
    let none : c.args.subs.now ≡ [] = grind (arith, common_steps) in
    λ n f qs few h are. none_equal n f qs c.args.subs.now c.args.bounds none are

pub returns-then-equals : goal.returns-then-equals
returns-then-equals t c = λ n f qs few h are.
    let some : c.args.subs.now ≡ c.in-Some.first.now ∷ c.in-Some.rest.now = search rules in
    let k = front n qs c.args.subs.now c.in-Some.rest.now c.in-Some.first.now some are in
    equal_then n f qs c.in-Some.first.now c.in-Some.rest.now c.args.bounds c.equals.result k (c.equals.ensures n f k.q few h k.is) c.if-equals.true

pub returns-else-equals : goal.returns-else-equals
returns-else-equals t c = λ n f qs few h are.
    let some : c.args.subs.now ≡ c.in-Some.first.now ∷ c.in-Some.rest.now = search rules in
    let k = front n qs c.args.subs.now c.in-Some.rest.now c.in-Some.first.now some are in
    equal_else n f qs c.in-Some.first.now c.in-Some.rest.now c.args.bounds c.equals.result c.has_equal.result k (c.equals.ensures n f k.q few h k.is) c.if-equals.false (c.has_equal.ensures n f k.others few h k.later)
