use Rattle.std.proofs.Common.{◌≡◌, ℕ, drop}
use Rattle.std.specs.Prelude.{min}
use Rattle.meaning.specs.Texts.{digits_after}
use Rattle.machine.proofs.input.digits.Given as goal

abbrev pub invariant-loop-byte : goal.invariant-loop-byte
invariant-loop-byte l = (n : ℕ) × (digits_after 0 l.word ≡ digits_after n (drop l.byte-index l.word)) × (l.number ≡ min n 9223372036854775809)
