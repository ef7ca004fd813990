-- Numbers in input and output, in words of their own.
use Rattle.std.specs.Prelude.{◌≡◌, ◌↔◌, Ok, ℕ, ℤ, List, IsTrue}
use Rattle.std.specs.Str.Parse.{IsNumeral, without_leading_sign, signed_digits_value}
use Rattle.tree.specs.Operators.{fits}
use Rattle.tree.specs.declared.ops.Value.TheVariants.{Int}
use Rattle.meaning.specs.Texts.{signed_number, read_value, value_text}

-- a word of the input is a number exactly if it is a decimal numeral behind at most one sign, and then it is the number
-- that this spells
abbrev pub InputNumberIsNumeral : Type 0
InputNumberIsNumeral = (w : List ℕ) (z : ℤ)
    → (signed_number w ≡ Ok z) ↔ (IsNumeral 10 (without_leading_sign w) × (z ≡ signed_digits_value 10 w))

-- what is printed is read back
abbrev pub PrintedNumberIsRead : Type 0
PrintedNumberIsRead = (old z : ℤ) → IsTrue (fits 127 z) → read_value (Int old) (value_text (Int z)) ≡ Ok (Int z)
