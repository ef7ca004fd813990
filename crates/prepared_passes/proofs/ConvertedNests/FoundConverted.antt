-- The normal form of a nest that is found is prepared with masks in place of its IFs and jumps.
use Rattle.std.proofs.Common.{arith}
use Rattle.pass_laws.specs.prepared_nests.Laws.{normal_depth}
use Rattle.pass_laws.proofs.PreparedNests.Normal.Prepared.{normal_nest_is_branched}
use Rattle.prepared_passes.specs.conversion.Found.{FoundNestIsConverted}
use Rattle.prepared_passes.proofs.ConvertedNests.Converted.{converted_branched_nest_is_prepared}
use Rattle.prepared_passes.proofs.ConvertedNests.Declared.{branched_nest_is_branching}
use Rattle.prepared_passes.proofs.ConvertedNests.Unguarded.{found_nest_is_unguarded}
use Rattle.tree.specs.declared.width.Width.{Width}

pub found_nest_is_converted : (width : Width) → FoundNestIsConverted width
found_nest_is_converted width p n m k ds es masks w found is c normal e few add none counters more marks counted number round statement =
    let b = normal_nest_is_branched width p n m ds w found is c normal add counters number round statement in
    let d = normal_nest_is_branched width p n m es w found is c normal more counted number round statement in
    let un = found_nest_is_unguarded width p n m is c normal in
    (branched_nest_is_branching ds w.variables normal_depth m b un none, converted_branched_nest_is_prepared ds es w.variables normal_depth masks m k b none un e few (omega arith) d marks)
