use Rattle.std.proofs.Common.{ap, refl}
use Rattle.find_nests.specs.Found.{InNest}
use Rattle.find_nests.specs.View.{found_of}
use Rattle.nest.specs.View.{nest_of}
use Rattle.listing.proofs.programs.Entries.{found_listed, kept_listed}
use Rattle.listing.proofs.programs.listed.lines_of.Goals as goal

pub returns-in-Nest : goal.returns-in-Nest
returns-in-Nest c =
    found_listed c.args.counts c.nest_lines.result (InNest (nest_of c.in-Nest.nest)) (found_of c.args.found.now)
    (ap found_of c.in-Nest.is) c.nest_lines.ensures

pub returns-in_ok-kept_loop-in-Kept : goal.returns-in_ok-kept_loop-in-Kept
returns-in_ok-kept_loop-in-Kept c =
    kept_listed c.args.counts c.in-Kept.line c.in-Kept.reason (found_of c.args.found.now)
    (record { lines = c.in_ok-kept_loop-in-Kept.field-0; counts = c.args.counts }) (ap found_of c.in-Kept.is)
    c.in_ok-kept_loop-in-Kept.ensures refl
