-- The names of the tests of one pair, after the classes of their pairs.
use Rattle.std.specs.Prelude.{ℤ}
use Rattle.subscripts.specs.Classes.{IsStrong, IsWeakZero, IsWeakCrossing, IsGeneral, HasClass}
use Rattle.subscripts.specs.declared.pairing.Class.TheVariants as class
use Rattle.subscripts.specs.declared.pairing.Pairing.{Pairing}
use Rattle.subscripts.specs.declared.verdict.Test.{Test}
use Rattle.subscripts.specs.declared.verdict.Test.TheVariants.{Trip, Scalar, Ziv, Strong, WeakZero, Crossing, Siv}
use Rattle.subscripts.specs.declared.verdict.Test.TheVariants.{Delta, Gcd, Range, Miv, Unknown}

abbrev pub ziv_word : Test
ziv_word = Ziv

-- by the two coefficients of the one loop
abbrev pub IsSivWord : ℤ → ℤ → Test → Type 0
IsSivWord a b Strong = IsStrong a b
IsSivWord a b WeakZero = IsWeakZero a b
IsSivWord a b Crossing = IsWeakCrossing a b
IsSivWord a b Siv = IsGeneral a b
IsSivWord a b Trip = ⊥
IsSivWord a b Scalar = ⊥
IsSivWord a b Ziv = ⊥
IsSivWord a b Delta = ⊥
IsSivWord a b Gcd = ⊥
IsSivWord a b Range = ⊥
IsSivWord a b Miv = ⊥
IsSivWord a b Unknown = ⊥

-- by the class
abbrev pub IsWordOf : Pairing → Test → Type 0
IsWordOf p Strong = HasClass p class.Strong
IsWordOf p WeakZero = HasClass p class.WeakZero
IsWordOf p Crossing = HasClass p class.WeakCrossing
IsWordOf p Siv = HasClass p class.GeneralSiv
IsWordOf p Trip = ⊥
IsWordOf p Scalar = ⊥
IsWordOf p Ziv = ⊥
IsWordOf p Delta = ⊥
IsWordOf p Gcd = ⊥
IsWordOf p Range = ⊥
IsWordOf p Miv = ⊥
IsWordOf p Unknown = ⊥
