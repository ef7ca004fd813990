use Rattle.nest.specs.View.{nest_of}
use Rattle.listing.proofs.programs.FewOfEach.{counted}
use Rattle.listing.proofs.programs.counts.check_counts.Goals as goal

pub returns : goal.returns
returns c =
    counted c.check_references.result (nest_of c.args.nest.now) c.in_ok-all.all c.as_slice.result.now c.len.result
    c.in_ok-all.ensures c.len.ensures c.in_ok-check_count.ensures c.as_slice.ensures c.check_references.ensures
