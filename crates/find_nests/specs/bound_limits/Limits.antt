-- The forms of a loop that goes from 1 by 1, and the limits that they keep.
use Rattle.std.specs.Prelude.{ℕ, ◌+◌, ◌==◌, nat_le, ℤ, pos, negsuc, ◌*ℤ◌, neg_ℤ, nat_abs, int_div, int_le, Bool}
use Rattle.std.specs.Prelude.{◌&&◌, if◌then◌else◌, take, drop}
use Rattle.linear_forms.specs.Linear.{Form, sum, multiple, constant_form, is_small, all_small, not_zero}
use Rattle.linear_forms.specs.Places.{unit_form}

-- The first n places are those of symbols. At most 8 of them occur, and t divided trips beside them, each of which
-- counts as one symbol, and at most 7 loops
abbrev pub keeps_limits : ℕ → ℕ → Form → Bool
keeps_limits n t f =
    all_small f.coefficients && (is_small f.constant
    && (nat_le (not_zero (take n f.coefficients) + t) 8 && nat_le (not_zero (drop n f.coefficients)) 7))

abbrev pub plus_constant : Form → ℤ → Form
plus_constant f z = sum f (constant_form z)

abbrev pub difference : Form → Form → Form
difference f g = sum f (multiple (negsuc 0) g)

abbrev pub is_constant_form : Form → Bool
is_constant_form f = not_zero f.coefficients == 0

-- of a loop from `first` to `last` by a step: what is divided by the step's size to get the trip
abbrev pub dividend : ℤ → Form → Form → Form
dividend step first last =
    if int_le (pos 0) step then plus_constant (difference last first) step
    else plus_constant (difference first last) (neg_ℤ step)

-- the trip where the dividend is constant
abbrev pub folded : ℤ → Form → ℤ
folded step top = int_div top.constant (pos (nat_abs step))

-- What the variable is after the loop is within the limits: `first` and the step times the trip, which is folded where
-- it is constant, and isn't divided by 1. The coefficient of a divided trip is the step, which is small
abbrev pub end_keeps_limits : ℕ → ℤ → Form → Form → Bool
end_keeps_limits n step first top =
    if is_constant_form top then keeps_limits n 0 (plus_constant first (step *ℤ folded step top))
    else if nat_abs step == 1 then keeps_limits n 0 (sum first (multiple step top))
    else keeps_limits n 1 first

-- the variable of the loop in its iterations, which have this place
abbrev pub normal : ℕ → ℤ → Form → Form
normal place step first = plus_constant (sum first (multiple step (unit_form place))) (neg_ℤ step)

-- the lower bound, the same less the step, the dividend of the trip, and the variable's last value
abbrev pub all_keep_limits : ℕ → ℤ → Form → Form → Bool
all_keep_limits n step first last =
    keeps_limits n 0 first && (keeps_limits n 0 (plus_constant first (neg_ℤ step))
    && (keeps_limits n 0 (dividend step first last) && end_keeps_limits n step first (dividend step first last)))
