use Rattle.std.proofs.Common.{sym}
use Rattle.f90_read.proofs.F90Suits.Texts.{tree_in, held_all}
use Rattle.f90_read.proofs.f90_suits.treed.treed.Goals as goal

pub returns : goal.returns
returns c p ds is of ready suits =
    let t = c.in_ok-tree.tree in
    record {
      line = is.line;
      is = tree_in c.args.functions.now ds of p ready t suits (c.in_ok-tree.ensures.found p is ready.marked)
          (c.in_ok-tree.ensures.whole p is ready.marked (held_all c.args.functions.now ds of p ready suits));
    }
