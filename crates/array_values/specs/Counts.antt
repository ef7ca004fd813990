-- How much references select, told without a list of it (ISO/IEC 1539:1991, section 6.2.2.3).
use Rattle.std.specs.Prelude.{◌≡◌, Result, Ok, Err, Option, Some, None, ℕ, zero, suc, ◌/◌, ℤ, ◌+ℤ◌, ◌-ℤ◌, nat_abs}
use Rattle.std.specs.Prelude.{List, [], ◌∷◌, ◌++◌, length, map}
use Rattle.tree.specs.declared.ops.Fault.{Fault}
use Rattle.meaning.specs.Sections.{Axis, Fixed, Along, along, extents_of}
use Rattle.array_values.specs.declared.counts.Range.{Range}
use Rattle.array_values.specs.declared.failure.Failure.{Failure}
use Rattle.array_values.specs.declared.failure.Failure.TheVariants as failure

abbrev pub range_in : Range → ℤ × ℤ
range_in r = (r.lower, r.upper)

abbrev pub ranges_in : List Range → List (ℤ × ℤ)
ranges_in rs = map range_in rs

-- the number so many strides behind another
abbrev pub behind : ℤ → ℤ → ℕ → ℤ
behind z stride zero = z
behind z stride (suc k) = behind (z +ℤ stride) stride k

-- so many strides lead from the first number of a triplet to its last, where it has one
abbrev pub strides : ℤ → ℤ → ℤ → ℕ
strides l u stride = nat_abs (u -ℤ l) / nat_abs stride

-- so many numbers are selected, or the fault is the same
abbrev pub CountsAlong : ℤ × ℤ → List ℤ → Result ℕ Fault → Type 0
CountsAlong b zs (Ok n) = (along b zs ≡ Ok (Along zs)) × (length zs ≡ n)
CountsAlong b zs (Err f) = along b zs ≡ Err f

-- the same of one dimension, which a single number leaves out
abbrev pub Counts : Result Axis Fault → Result (Option ℕ) Fault → Type 0
Counts q (Ok None) = (z : ℤ) × (q ≡ Ok (Fixed z))
Counts q (Ok (Some n)) = (zs : List ℤ) × (q ≡ Ok (Along zs)) × (length zs ≡ n)
Counts q (Err f) = q ≡ Err f

-- the extents of what is selected along one dimension, and along all, stand behind those before
abbrev pub AddsExtent : List ℕ → List ℕ → Result Axis Fault → Result (Unit {0}) Failure → Type 0
AddsExtent old new q (Ok x) = (a : Axis) × (q ≡ Ok a) × (new ≡ old ++ extents_of (a ∷ []))
AddsExtent old new q (Err (failure.Fault f)) = q ≡ Err f
AddsExtent old new q (Err failure.Memory) = Unit {0}

abbrev pub AddsExtents : List ℕ → List ℕ → Result (List Axis) Fault → Result (Unit {0}) Failure → Type 0
AddsExtents old new q (Ok x) = (axes : List Axis) × (q ≡ Ok axes) × (new ≡ old ++ extents_of axes)
AddsExtents old new q (Err (failure.Fault f)) = q ≡ Err f
AddsExtents old new q (Err failure.Memory) = Unit {0}
