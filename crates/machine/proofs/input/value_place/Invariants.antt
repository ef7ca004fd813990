use Rattle.std.proofs.Common.{◌≡◌, ◌≤◌, ◌-◌, length, drop}
use Rattle.meaning.specs.Texts.{without_cr, from_value}
use Rattle.machine.proofs.input.value_place.Given as goal

abbrev pub invariant-loop-byte : goal.invariant-loop-byte
invariant-loop-byte l =
    (from_value l.may_have_comma (without_cr (drop l.start l.input)) ≡ from_value l.comma (without_cr (drop l.at l.input))) × (l.start ≤ l.at)

abbrev pub decreases-loop-byte : goal.decreases-loop-byte
decreases-loop-byte l = length l.input - l.at
