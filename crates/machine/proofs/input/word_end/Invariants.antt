use Rattle.std.proofs.Common.{◌≡◌, ◌≤◌, ◌-◌, length, take, drop, ◌++◌}
use Rattle.meaning.specs.Texts.{without_cr, after_word, first_word}
use Rattle.machine.proofs.input.word_end.Given as goal

abbrev pub invariant-loop-byte : goal.invariant-loop-byte
invariant-loop-byte l = (after_word (without_cr (drop l.start l.input)) ≡ after_word (without_cr (drop l.at l.input))) × (l.start ≤ l.at) × (l.at ≤ length l.input)
    × (first_word (without_cr (drop l.start l.input)) ≡ take (l.at - l.start) (drop l.start l.input) ++ first_word (without_cr (drop l.at l.input)))

abbrev pub decreases-loop-byte : goal.decreases-loop-byte
decreases-loop-byte l = length l.input - l.at
