use Rattle.std.proofs.Common.{arith}
use Rattle.nest.specs.View.{nest_of}
use Rattle.listing.proofs.programs.Entries.{tests_of}
use Rattle.listing.proofs.programs.Plain.{plain_nest}
use Rattle.listing.proofs.programs.nests.tests_with.Goals as goal

pub all_holds-requires : goal.all_holds-requires
all_holds-requires c =
    let count = c.requires.graph.statements in
    plain_nest (nest_of c.args.nest.now) c.requires.ready (first_of (omega (arith, count), grind (arith, count)))

pub returns-clause-tests : goal.returns-clause-tests
returns-clause-tests c =
    tests_of c.args.number (nest_of c.args.nest.now) c.args.graph c.in_ok-holds.holds c.in_ok-cycles.cycles
    c.in_ok-lines.lines c.requires.graph c.in_ok-holds.ensures c.in_ok-cycles.ensures c.in_ok-lines.ensures
