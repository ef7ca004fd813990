use Rattle.std.proofs.Common.{◌≡◌, true, false, map, take, drop, length, ◌-◌, arith, rules}
use Rattle.tree.specs.View.{subscript_of}
use Rattle.array_form.proofs.holds.FormLaws.{not_once, once_then}
use Rattle.array_form.proofs.holds.TripLaws.{rest_is}
use Rattle.array_form.proofs.holds.left_sides.has_form.Goals as goal

pub returns-then-not-occur_once : goal.returns-then-not-occur_once
returns-then-not-occur_once c =
    let f : c.occur_once.result ≡ false = first_of (cc, search rules, grind arith) in
    not_once c.args.a.now c.args.from (map subscript_of c.args.subs.now) (take (length c.as_slice.result.now - c.args.from) (drop c.args.from c.as_slice.result.now)) c.occur_once.result
    (rest_is c.as_slice.result.now c.args.a.now.loops c.args.from c.as_slice.ensures) c.occur_once.ensures f

pub returns : goal.returns
returns c =
    let t : c.occur_once.result ≡ true = first_of (cc, search rules, grind arith) in
    once_then c.args.a.now c.args.from (map subscript_of c.args.subs.now) (take (length c.as_slice.result.now - c.args.from) (drop c.args.from c.as_slice.result.now)) c.occur_once.result c.are_formed.result
    (rest_is c.as_slice.result.now c.args.a.now.loops c.args.from c.as_slice.ensures) c.occur_once.ensures t c.are_formed.ensures
