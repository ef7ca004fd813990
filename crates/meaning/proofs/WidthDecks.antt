-- Worked decks of both ranges of INTEGER: what each run writes and how it ends. Above each tree stands the deck that it is of.
use Rattle.std.proofs.Common.{◌≡◌, refl, [], ◌∷◌, pos, Some, None}
use Rattle.tree.specs.Plain.{Binary, Constructor, Reduce, expressions, loop, no_loops, Single, items, Assignment, Read, Print, Program}
use Rattle.tree.specs.declared.ops.Op.TheVariants.{Add, Sub, Mul}
use Rattle.tree.specs.declared.functions.Red.TheVariants.{MinVal}
use Rattle.tree.specs.declared.ops.Fault.TheVariants.{Overflow}
use Rattle.tree.specs.declared.width.Width.TheVariants.{Plain, Wide}
use Rattle.meaning.specs.declared.End.TheVariants.{Fault}
use Rattle.meaning.specs.Array.{array_run}
use Rattle.meaning.specs.Sequential.{sequential_run, ending}
use Rattle.meaning.proofs.DeckWords.{computed, n, name, v, to, integer, integers, part, program, lines, triplet}

-- ---- one past 32 bits
--       I = 2147483647
--       I = I + 1
--       PRINT *, I
--       END
abbrev past_32_bits : Program
past_32_bits = program (integer "I" ∷ [])
    (Assignment 1 None (to "I") (n 2147483647)
    ∷ Assignment 2 None (to "I") (Binary Add (v "I") (n 1))
    ∷ Print 3 (items (Single (v "I") ∷ []))
    ∷ [])

past_32_bits_plain : ending (sequential_run Plain past_32_bits []) ≡ Some (Fault Overflow 2)
unfolding computed
past_32_bits_plain = refl

past_32_bits_wide : (sequential_run Wide past_32_bits []).written ≡ lines (" 2147483648" ∷ [])
unfolding computed
past_32_bits_wide = refl

-- ---- one past 64 bits: products fit 128
--       I = 9223372036854775807
--       PRINT *, I * I - I * I + 1
--       J = I * I * I
--       END
abbrev past_128_bits : Program
past_128_bits = program (integer "I" ∷ integer "J" ∷ [])
    (Assignment 1 None (to "I") (n 9223372036854775807)
    ∷ Print 2 (items (Single (Binary Add (Binary Sub (Binary Mul (v "I") (v "I")) (Binary Mul (v "I") (v "I"))) (n 1)) ∷ []))
    ∷ Assignment 3 None (to "J") (Binary Mul (Binary Mul (v "I") (v "I")) (v "I"))
    ∷ [])

past_128_bits_written : (sequential_run Wide past_128_bits []).written ≡ lines (" 1" ∷ [])
unfolding computed
past_128_bits_written = refl

past_128_bits_ending : ending (sequential_run Wide past_128_bits []) ≡ Some (Fault Overflow 3)
unfolding computed
past_128_bits_ending = refl

-- ---- the least number of 64 bits, and the one below it
--       READ *, I
--       PRINT *, I
--       I = I - 1
--       END
-- *DATA
-- -9223372036854775808
abbrev below_64_bits : Program
below_64_bits = program (integer "I" ∷ [])
    (Read 1 (items (Single (v "I") ∷ []))
    ∷ Print 2 (items (Single (v "I") ∷ []))
    ∷ Assignment 3 None (to "I") (Binary Sub (v "I") (n 1))
    ∷ [])

below_64_bits_written : (sequential_run Wide below_64_bits (lines ("-9223372036854775808" ∷ []))).written ≡ lines (" -9223372036854775808" ∷ [])
unfolding computed
below_64_bits_written = refl

below_64_bits_ending : ending (sequential_run Wide below_64_bits (lines ("-9223372036854775808" ∷ []))) ≡ Some (Fault Overflow 3)
unfolding computed
below_64_bits_ending = refl

below_64_bits_plain : ending (sequential_run Plain below_64_bits (lines ("-9223372036854775808" ∷ []))) ≡ Some (Fault Overflow 1)
unfolding computed
below_64_bits_plain = refl

-- ---- an array's element past 32 bits, a constructor's variable, and the least of nothing
-- INTEGER :: A(3), I
-- A = (/ (4000000000 + I, I = 1, 3) /)
-- PRINT *, A, MINVAL(A(2:1))
-- END
abbrev values_past_32_bits : Program
values_past_32_bits = program (integers "A" ((pos 1, pos 3) ∷ []) ∷ integer "I" ∷ [])
    (Assignment 2 None (to "A") (Constructor (expressions (Binary Add (n 4000000000) (v "I") ∷ [])) (loop (name "I") (n 1) (n 3) no_loops))
    ∷ Print 3 (items (Single (v "A") ∷ Single (Reduce MinVal (part "A" (triplet (n 2) (n 1) (n 1) ∷ []))) ∷ []))
    ∷ [])

values_past_32_bits_wide : (array_run Wide values_past_32_bits []).written ≡ lines (" 4000000001 4000000002 4000000003 9223372036854775807" ∷ [])
unfolding computed
values_past_32_bits_wide = refl

values_past_32_bits_plain : ending (array_run Plain values_past_32_bits []) ≡ Some (Fault Overflow 2)
unfolding computed
values_past_32_bits_plain = refl
