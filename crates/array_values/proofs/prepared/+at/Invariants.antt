use Rattle.std.proofs.Common.{◌≡◌, drop, map}
use Rattle.array_values.specs.Arrays.{elements_in, called_at}
use Rattle.array_values.proofs.Calls.{left_to_call}
use Rattle.array_values.proofs.prepared.+at.Given as goal

abbrev pub invariant-call_at-loop-part : goal.invariant-call_at-loop-part
invariant-call_at-loop-part l =
    called_at l.function (map elements_in l.parts) l.position ≡ left_to_call l.function l.arguments (drop l.part-index l.part-items) l.position
