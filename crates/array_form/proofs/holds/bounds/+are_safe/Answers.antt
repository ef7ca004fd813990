use Rattle.std.proofs.Common.{◌≡◌, [], ◌∷◌, length, arith, rules}
use Rattle.std.proofs.lemmas.Grind.{common_steps}
use Rattle.array_form.proofs.holds.SafeLaws.{front, none_unsafe, rest_small, safe_else, safe_then}
use Rattle.array_form.proofs.holds.bounds.+are_safe.Goals as goal

pub returns-in_default : goal.returns-in_default
returns-in_default t c =
    let none : c.args.subs.now ≡ [] = grind (arith, common_steps) in
    λ n x qs noted trips numbers are. none_unsafe n x (length c.args.loops.now) qs c.args.subs.now none are

pub are_safe-requires : goal.are_safe-requires
are_safe-requires t c =
    let some : c.args.subs.now ≡ c.in-Some.first.now ∷ c.in-Some.rest.now = search rules in
    (search rules, (c.requires.few, rest_small c.args.subs.now c.in-Some.rest.now c.in-Some.first.now some c.requires.small))

pub returns-then-is_safe_subscript : goal.returns-then-is_safe_subscript
returns-then-is_safe_subscript t c = λ n x qs noted trips numbers are.
    let some : c.args.subs.now ≡ c.in-Some.first.now ∷ c.in-Some.rest.now = search rules in
    let k = front (length c.args.loops.now) qs c.args.subs.now c.in-Some.rest.now c.in-Some.first.now some are in
    safe_then n x (length c.args.loops.now) qs c.in-Some.first.now c.in-Some.rest.now c.is_safe_subscript.result c.are_safe.result k (c.is_safe_subscript.ensures n x k.q noted trips numbers k.is) c.if-is_safe_subscript.true
    (c.are_safe.ensures n x k.others noted trips numbers k.later)

pub returns-else-is_safe_subscript : goal.returns-else-is_safe_subscript
returns-else-is_safe_subscript t c = λ n x qs noted trips numbers are.
    let some : c.args.subs.now ≡ c.in-Some.first.now ∷ c.in-Some.rest.now = search rules in
    let k = front (length c.args.loops.now) qs c.args.subs.now c.in-Some.rest.now c.in-Some.first.now some are in
    safe_else n x (length c.args.loops.now) qs c.in-Some.first.now c.in-Some.rest.now c.is_safe_subscript.result k (c.is_safe_subscript.ensures n x k.q noted trips numbers k.is) c.if-is_safe_subscript.false
