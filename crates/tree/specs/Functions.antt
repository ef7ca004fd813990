-- The function table: the names of functions in FORTRAN 77 (ANSI X3.9-1978, 15.10, table 5) and in Fortran 90
-- (ISO/IEC 1539:1991, 13.10), and how many arguments each takes.
use Rattle.std.specs.Prelude.{ℕ, nat_le, ◌==◌, Bool, ◌||◌, Option, None, Some, find, if◌then◌else◌, List, [], ◌∷◌}
use Rattle.std.specs.Prelude.{codes}
use Rattle.std.specs.Str.{bytes_eq}
use Rattle.tree.specs.declared.functions.Fun.{Fun}
use Rattle.tree.specs.declared.functions.Fun.TheVariants.{Abs, Mod, Max, Min}
use Rattle.tree.specs.declared.functions.Red.{Red}
use Rattle.tree.specs.declared.functions.Red.TheVariants.{Sum, MaxVal, MinVal}
use Rattle.tree.specs.declared.functions.Intrinsic.{Intrinsic}
use Rattle.tree.specs.declared.functions.Intrinsic.TheVariants.{Elemental, Reduction, Spread, Transpose, Reshape}

-- ---- functions of numbers

-- the functions of FORTRAN 77 by their names; IABS and MAX0 are names of ABS and MAX of INTEGER values
abbrev pub function_named : List ℕ → Option Fun
function_named x =
    if bytes_eq x (codes "ABS") || bytes_eq x (codes "IABS") then Some Abs
    else if bytes_eq x (codes "MOD") then Some Mod
    else if bytes_eq x (codes "MAX") || bytes_eq x (codes "MAX0") then Some Max
    else if bytes_eq x (codes "MIN") || bytes_eq x (codes "MIN0") then Some Min
    else None

-- the name that Fortran 90 has for a function
abbrev pub name_of_function : Fun → List ℕ
name_of_function Abs = codes "ABS"
name_of_function Mod = codes "MOD"
name_of_function Max = codes "MAX"
name_of_function Min = codes "MIN"

-- how many arguments it has: ABS one, MOD two, MAX and MIN two or more
abbrev pub suits_number : Fun → ℕ → Bool
suits_number Abs n = n == 1
suits_number Mod n = n == 2
suits_number Max n = nat_le 2 n
suits_number Min n = nat_le 2 n

-- ---- all functions of Fortran 90

abbrev pub name_of_reduction : Red → List ℕ
name_of_reduction Sum = codes "SUM"
name_of_reduction MaxVal = codes "MAXVAL"
name_of_reduction MinVal = codes "MINVAL"

abbrev pub name_of_intrinsic : Intrinsic → List ℕ
name_of_intrinsic (Elemental f) = name_of_function f
name_of_intrinsic (Reduction r) = name_of_reduction r
name_of_intrinsic Spread = codes "SPREAD"
name_of_intrinsic Transpose = codes "TRANSPOSE"
name_of_intrinsic Reshape = codes "RESHAPE"

abbrev pub intrinsics : List Intrinsic
intrinsics =
    Elemental Abs ∷ Elemental Mod ∷ Elemental Max ∷ Elemental Min ∷ Reduction Sum ∷ Reduction MaxVal ∷ Reduction MinVal
    ∷ Spread ∷ Transpose ∷ Reshape ∷ []

-- the functions of Fortran 90 by their names
abbrev pub intrinsic_named : List ℕ → Option Intrinsic
intrinsic_named x = find (λ f. bytes_eq (name_of_intrinsic f) x) intrinsics
