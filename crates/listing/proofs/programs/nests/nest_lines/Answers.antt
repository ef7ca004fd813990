use Rattle.std.proofs.Common.{ap}
use Rattle.nest.specs.View.{nest_of}
use Rattle.nest.specs.declared.nests.Nest.{Nest}
use Rattle.listing.specs.declared.programs.counts.Counts.{Counts}
use Rattle.listing.proofs.programs.Entries.{listed_nest}
use Rattle.listing.proofs.programs.Stages.{passed_is_listed}
use Rattle.listing.proofs.programs.nests.nest_lines.Goals as goal

pub returns : goal.returns
returns c =
    let p = c.in_ok-passed.passed in
    let found = nest_of c.args.found.now in
    let nest = nest_of p.nest.value in
    let is = c.in_ok-passed.ensures in
    listed_nest c.args.counts found nest _ _
    (record {
      lines = p.tests.lines;
      counts = record { masks = c.deref-last.result.now.masks; copies = c.deref-last.result.now.copies };
    })
    (passed_is_listed c.args.counts found nest is.passed) is.kept is.tests
    (ap (λ (n : Nest). let r : Counts = record { masks = n.masks; copies = n.copies } in r) c.deref-last.ensures)
