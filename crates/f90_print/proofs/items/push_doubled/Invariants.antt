use Rattle.std.proofs.Common.{◌≡◌, ◌++◌, ◌∷◌, [], take}
use Rattle.std.specs.Prelude.{flat_map}
use Rattle.reading.specs.Characters.{doubled}
use Rattle.f90_print.proofs.items.push_doubled.Given as goal

-- the bytes so far are written
abbrev pub invariant-loop-byte : goal.invariant-loop-byte
invariant-loop-byte l = l.text.items ≡ l.fn.text.items ++ flat_map (λ c. doubled (c ∷ [])) (take l.byte-index l.constant)
