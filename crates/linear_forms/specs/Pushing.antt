-- Terms of symbols in rising order, up to eight, one behind the other.
use Rattle.std.specs.Prelude.{Option, Some, None, ℕ, ◌+◌, nat_lt, ℤ, pos, ◌&&◌, if◌then◌else◌, slice_set}
use Rattle.std.specs.Ordering.{int_eq}
use Rattle.linear_forms.specs.Linear.{is_small}
use Rattle.linear_forms.specs.declared.terms.Terms.{Terms}

-- a coefficient within the limit
abbrev pub small_or_none : ℤ → Option ℤ
small_or_none z = if is_small z then Some z else None

-- one more term, behind the others; one with the coefficient 0 is left out
abbrev pub pushed : ℕ → ℤ → Terms → Option Terms
pushed p c t =
    if int_eq c (pos 0) then Some t
    else if is_small c && nat_lt t.used 8 then Some (record { at = slice_set t.at t.used (p, c); used = t.used + 1 })
    else None

abbrev pub then_pushed : Option Terms → (Terms → Option Terms) → Option Terms
then_pushed None f = None
then_pushed (Some t) f = f t
