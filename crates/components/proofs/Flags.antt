-- Lists of truth values.
use Rattle.std.proofs.Common.{◌≡◌, refl, ℕ, zero, suc, ◌+◌, ◌<◌, Bool, true, false, List, [], ◌∷◌, length, set, replicate, arith}
use Rattle.components.specs.Classes.{flag}

-- how many are false
abbrev pub open_flags : List Bool → ℕ
open_flags [] = 0
open_flags (false ∷ flags) = suc (open_flags flags)
open_flags (true ∷ flags) = open_flags flags

pub open_set : (flags : List Bool) (c : ℕ) → c < length flags → flag flags c ≡ false → open_flags (set flags c true) + 1 ≡ open_flags flags
open_set [] c h e = absurd (omega arith)
open_set (false ∷ flags) zero h e = omega arith
open_set (true ∷ flags) zero h e = absurd (let f : true ≡ false = e in cc)
open_set (false ∷ flags) (suc c) h e = let k = open_set flags c (omega arith) e in omega arith
open_set (true ∷ flags) (suc c) h e = open_set flags c (omega arith) e

pub open_all : (n : ℕ) → open_flags (replicate n false) ≡ n
open_all zero = refl
open_all (suc n) = let h = open_all n in omega arith

pub none_set : (n c : ℕ) → flag (replicate n false) c ≡ false
none_set zero c = refl
none_set (suc n) zero = refl
none_set (suc n) (suc c) = none_set n c
