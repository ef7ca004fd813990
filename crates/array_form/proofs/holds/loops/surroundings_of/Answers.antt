use Rattle.std.proofs.Common.{◌≡◌, map, arith, rules}
use Rattle.std.proofs.lemmas.Grind.{common_steps}
use Rattle.nest.specs.View.{loop_of, nest_of}
use Rattle.array_form.proofs.holds.Standing.{surroundings_made}
use Rattle.array_form.proofs.holds.loops.surroundings_of.Goals as goal

pub returns-clause-view : goal.returns-clause-view
returns-clause-view c =
    let symbols : c.from_vec.result ≡ c.args.nest.now.symbols = first_of (cc, search rules, grind (arith, common_steps)) in
    surroundings_made (nest_of c.args.nest.now) (map loop_of c.args.loops.now) c.in_ok-all_counted.field-0 c.from_vec.result c.may_spread.result
    c.in_ok-all_counted.ensures symbols c.may_spread.ensures
