-- The loops of a pairing that have been looked at, and how many of them matter.
use Rattle.std.specs.Prelude.{◌≡◌, ℤ, cond, ◌&&◌}
use Rattle.subscripts.specs.Classes.{IsStrong, IsWeakZero, IsWeakCrossing, IsGeneral}
use Rattle.subscripts.specs.Classes.{Loop, Matters, first_of, second_of}
use Rattle.subscripts.specs.Cuts.{is_zero}
use Rattle.subscripts.specs.declared.classes.Found.{Found}
use Rattle.subscripts.specs.declared.classes.Found.TheVariants.{Nothing, One, Several}
use Rattle.subscripts.specs.declared.pairing.Class.{Class}
use Rattle.subscripts.specs.declared.pairing.Class.TheVariants.{Ziv, Strong, WeakZero, WeakCrossing, GeneralSiv}
use Rattle.subscripts.specs.declared.pairing.Class.TheVariants.{Miv, Unknown}
use Rattle.subscripts.specs.declared.pairing.Pairing.{Pairing}

-- one more
abbrev pub one_more : Found → ℤ → ℤ → Found
one_more Nothing a b = One a b
one_more (One c d) a b = Several
one_more Several a b = Several

-- with a loop of these coefficients
abbrev pub with_loop : Found → ℤ → ℤ → Found
with_loop f a b = cond (is_zero a && is_zero b) f (one_more f a b)

-- l matters, and has these coefficients
pub record MattersSo (p : Pairing) (l : Loop) (a b : ℤ) : Type 0 where
  pub matters : Matters p l
  pub first : first_of p l ≡ a
  pub second : second_of p l ≡ b

-- among the loops looked at, l alone matters
pub record IsTheOne (p : Pairing) (IsSeen : Loop → Type 0) (l : Loop) (a b : ℤ) : Type 0 where
  pub seen : IsSeen l
  pub so : MattersSo p l a b
  pub alone : (m : Loop) → IsSeen m → Matters p m → m ≡ l

-- two different loops matter
pub record AreSeveral (p : Pairing) (l m : Loop) : Type 0 where
  pub first : Matters p l
  pub second : Matters p m
  pub differ : l ≡ m → ⊥

-- what matters among the loops looked at
abbrev pub IsFoundAmong : Pairing → (Loop → Type 0) → Found → Type 0
IsFoundAmong p S Nothing = (m : Loop) → S m → Matters p m → ⊥
IsFoundAmong p S (One a b) = (l : Loop) × IsTheOne p S l a b
IsFoundAmong p S Several = (l : Loop) × ((m : Loop) × AreSeveral p l m)

-- what matters among all
abbrev pub HasFound : Pairing → Found → Type 0
HasFound p f = IsFoundAmong p (λ l. Unit {0}) f

-- the class of a loop with these coefficients
abbrev pub IsSivClass : Class → ℤ → ℤ → Type 0
IsSivClass Strong a b = IsStrong a b
IsSivClass WeakZero a b = IsWeakZero a b
IsSivClass WeakCrossing a b = IsWeakCrossing a b
IsSivClass GeneralSiv a b = IsGeneral a b
IsSivClass Ziv a b = ⊥
IsSivClass Miv a b = ⊥
IsSivClass Unknown a b = ⊥
