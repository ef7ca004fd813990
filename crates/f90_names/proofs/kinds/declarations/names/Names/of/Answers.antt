use Rattle.std.proofs.Common.{arith, ◌<◌, ◌≤◌, length, take, rules}
use Rattle.f90_names.proofs.kinds.OfDeclarations.EntryLaws.{entries_of, knows_more, names_known}
use Rattle.f90_names.proofs.kinds.declarations.names.Names.of.Goals as goal

pub loop-placed-preserved : goal.loop-placed-preserved
loop-placed-preserved c =
    let l : c.loop-placed.placed-index < length c.args.text.now = first_of (omega arith, search rules) in
    record {
      knows = knows_more c.declare_in.new.self c.args.text.now c.loop-placed.placed-index c.placed-item.result l
          c.placed-item.is
          (c.in_ok-declare_in.ensures
          (entries_of (take c.loop-placed.placed-index c.args.text.now)) c.loop-placed.invariant.knows).0;
    }

pub returns : goal.returns
returns c ps h =
    let l : length c.args.text.now ≤ c.loop-placed.placed-index = first_of (omega arith, search rules) in
    names_known c.loop-placed.names c.args.text.now c.loop-placed.placed-index ps l h c.loop-placed.invariant.knows
