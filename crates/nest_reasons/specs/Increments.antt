-- Increments of loops.
use Rattle.std.specs.Prelude.{Option, Some, None, ◌^◌, nat_le, ℤ, pos, nat_abs, Bool, not, ◌&&◌, if◌then◌else◌}
use Rattle.std.specs.Ordering.{int_eq}
use Rattle.tree.specs.Plain.{Expression}
use Rattle.linear_forms.specs.Linear.{constant_of}

-- other than 0, and of size up to 2^31
abbrev pub is_suitable_increment : ℤ → Bool
is_suitable_increment z = not (int_eq z (pos 0)) && nat_le (nat_abs z) (2 ^ 31)

abbrev pub suitable : ℤ → Option ℤ
suitable z = if is_suitable_increment z then Some z else None

abbrev pub suitable_or_none : Option ℤ → Option ℤ
suitable_or_none None = None
suitable_or_none (Some z) = suitable z

-- the value of an increment that is a suitable constant
abbrev pub step_of : Expression → Option ℤ
step_of e = suitable_or_none (constant_of e)
