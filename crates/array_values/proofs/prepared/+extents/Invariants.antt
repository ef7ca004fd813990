use Rattle.std.proofs.Common.{◌≡◌, [], drop, map}
use Rattle.array_values.specs.Arrays.{elements_in, extents_together}
use Rattle.array_values.proofs.prepared.+extents.Given as goal

-- those before are scalars
abbrev pub invariant-common_extents-loop-part : goal.invariant-common_extents-loop-part
invariant-common_extents-loop-part l =
    extents_together [] (map elements_in l.parts) ≡ extents_together [] (map elements_in (drop l.part-index l.parts))
