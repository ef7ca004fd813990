use Rattle.std.proofs.Common.{◌≡◌, ◌-◌, length, drop}
use Rattle.meaning.specs.Texts.{without_cr, after_line}
use Rattle.machine.proofs.input.line_end.Given as goal

abbrev pub invariant-loop-byte : goal.invariant-loop-byte
invariant-loop-byte l = (after_line (without_cr (drop l.start l.input)) ≡ after_line (without_cr (drop l.at l.input)))

abbrev pub decreases-loop-byte : goal.decreases-loop-byte
decreases-loop-byte l = length l.input - l.at
