use Rattle.std.proofs.Common.{◌≡◌, true, arith, rules}
use Rattle.emission.specs.emission_pieces.Levels.{is_at_work}
use Rattle.emission.proofs.nest_emission.PairLaws.{both_found}
use Rattle.emission.proofs.nest_emission.pairs.add_pair.Goals as goal

pub returns : goal.returns
returns c =
    let work : is_at_work c.args.level c.args.edge.now.level ≡ true = first_of (cc, search rules, grind arith) in
    both_found c.args.level c.args.part.now c.args.edge.now c.args.pairs.now.items c.push.new.self.items c.in-Some.from c.in-Some-place_of.to c.requires work
    c.in-Some.ensures.found.0 c.in-Some.ensures.found.1 c.in-Some-place_of.ensures.found.0 c.in-Some-place_of.ensures.found.1 c.in_ok-push.ensures.items
