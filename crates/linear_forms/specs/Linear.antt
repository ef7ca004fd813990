-- Linear forms of expressions (Allen and Kennedy, "Optimizing Compilers for Modern Architectures", section 2.3): a sum
-- of variables with whole coefficients, and a constant.
use Rattle.std.specs.Prelude.{◌≡◌, Result, Ok, Err, Option, Some, None, ℕ, suc, nat_le, ℤ, pos, negsuc, ◌+ℤ◌}
use Rattle.std.specs.Prelude.{◌*ℤ◌, nat_abs, Bool, true, ◌&&◌, if◌then◌else◌, List, [], ◌∷◌, ◌++◌, map, drop, length}
use Rattle.std.specs.Ordering.{int_eq}
use Rattle.std.specs.Str.{bytes_eq}
use Rattle.tree.specs.Limits.{form_coefficient, nest_depth}
use Rattle.tree.specs.Plain.{Expression, Number, Logic, Named, Unary, Binary, Apply}
use Rattle.tree.specs.Plain.{Subscripts, no_subscripts, subscript}
use Rattle.tree.specs.declared.ops.Op.{Op}
use Rattle.tree.specs.declared.ops.Op.TheVariants.{Mul, Neg, Add, Sub}
use Rattle.tree.specs.declared.ops.Value.{Value}
use Rattle.tree.specs.declared.ops.Value.TheVariants.{Int, Truth}
use Rattle.tree.specs.declared.ops.Fault.{Fault}
use Rattle.meaning.specs.Dialect.{fortran77}
use Rattle.tree.specs.declared.width.Width.TheVariants.{Plain}
use Rattle.meaning.specs.Store.{Store}
use Rattle.meaning.specs.Value.{value_of}

-- The coefficients go with the places of a list: the loops from the outside in, the symbols, and behind them divided
-- trips, each of which counts as one further symbol. Coefficients past the end are 0
pub record Form : Type 0 where
  pub coefficients : List ℤ
  pub constant : ℤ

-- ---- the number that a form is, where the places have these values

abbrev pub weighted : List ℤ → List ℤ → ℤ
weighted [] xs = pos 0
weighted (a ∷ cs) [] = pos 0
weighted (a ∷ cs) (x ∷ xs) = a *ℤ x +ℤ weighted cs xs

abbrev pub number_at : Form → List ℤ → ℤ
number_at f xs = weighted f.coefficients xs +ℤ f.constant

-- each name is an INTEGER scalar that holds its value
abbrev pub HaveValues : List (List ℕ) → Store → List ℤ → Type 0
HaveValues [] s [] = Unit {0}
HaveValues (y ∷ ys) s (x ∷ xs) =
    (s.bounds y ≡ Some []) × (s.held (record { name = y; subscripts = [] }) ≡ Int x) × HaveValues ys s xs
HaveValues _ s _ = ⊥

-- ---- sums and multiples

abbrev pub added : List ℤ → List ℤ → List ℤ
added [] bs = bs
added (a ∷ cs) [] = a ∷ cs
added (a ∷ cs) (b ∷ bs) = (a +ℤ b) ∷ added cs bs

abbrev pub sum : Form → Form → Form
sum f g = record { coefficients = added f.coefficients g.coefficients; constant = f.constant +ℤ g.constant }

abbrev pub multiple : ℤ → Form → Form
multiple n f = record { coefficients = map (λ a. n *ℤ a) f.coefficients; constant = n *ℤ f.constant }

abbrev pub constant_form : ℤ → Form
constant_form z = record { coefficients = []; constant = z }

-- ---- limits

abbrev pub is_small : ℤ → Bool
is_small z = nat_le (nat_abs z) form_coefficient

abbrev pub all_small : List ℤ → Bool
all_small [] = true
all_small (a ∷ cs) = is_small a && all_small cs

abbrev pub not_zero : List ℤ → ℕ
not_zero [] = 0
not_zero (a ∷ cs) = if int_eq a (pos 0) then not_zero cs else suc (not_zero cs)

-- the first `loops` places are those of loops, and of the others at most 8 occur
abbrev pub is_limited : ℕ → Form → Bool
is_limited loops f =
    all_small f.coefficients && (is_small f.constant && nat_le (not_zero (drop loops f.coefficients)) 8)

abbrev pub limited : ℕ → Option Form → Option Form
limited loops None = None
limited loops (Some f) = if is_limited loops f then Some f else None

-- ---- constants: what has a value though no name has a cell

abbrev pub no_store : Store
no_store = record { bounds = λ x. None; held = λ c. Int (pos 0) }

abbrev pub known : Result Value Fault → Option Value
known (Ok v) = Some v
known (Err f) = None

-- the value of an expression without references, where it meets no fault
abbrev pub constant_value : Expression → Option Value
constant_value e = known (value_of (fortran77 Plain) e no_store)

abbrev pub as_constant : Option Value → Option ℤ
as_constant (Some (Int z)) = Some z
as_constant (Some (Truth b)) = None
as_constant None = None

abbrev pub constant_of : Expression → Option ℤ
constant_of e = as_constant (constant_value e)

-- ---- the linear form of an expression

-- 1 for the name, 0 for those before it
abbrev pub with_zero : Option (List ℤ) → Option (List ℤ)
with_zero (Some cs) = Some (pos 0 ∷ cs)
with_zero None = None

abbrev pub unit : List (List ℕ) → List ℕ → Option (List ℤ)
unit [] x = None
unit (y ∷ ys) x = if bytes_eq y x then Some (pos 1 ∷ []) else with_zero (unit ys x)

abbrev pub with_no_constant : Option (List ℤ) → Option Form
with_no_constant (Some cs) = Some (record { coefficients = cs; constant = pos 0 })
with_no_constant None = None

abbrev pub form_of_name : List (List ℕ) → List ℕ → Subscripts → Option Form
form_of_name names x no_subscripts = with_no_constant (unit names x)
form_of_name names x (subscript p ps) = None

abbrev pub form_of_sign : Op → Option Form → Option Form
form_of_sign Neg (Some f) = Some (multiple (negsuc 0) f)
form_of_sign o f = None

-- one factor is constant
abbrev pub form_of_product : Option ℤ → Option ℤ → Form → Form → Option Form
form_of_product (Some k) l f g = Some (multiple k g)
form_of_product None (Some l) f g = Some (multiple l f)
form_of_product None None f g = None

abbrev pub form_of_two : Op → Option ℤ → Option ℤ → Form → Form → Option Form
form_of_two Add k l f g = Some (sum f g)
form_of_two Sub k l f g = Some (sum f (multiple (negsuc 0) g))
form_of_two Mul k l f g = form_of_product k l f g
form_of_two o k l f g = None

abbrev pub form_of_pair : Op → Option ℤ → Option ℤ → Option Form → Option Form → Option Form
form_of_pair o k l (Some f) (Some g) = form_of_two o k l f g
form_of_pair o k l (Some f) None = None
form_of_pair o k l None g = None

-- a constant is its value, whatever its parts are
abbrev pub constant_or : Option ℤ → Option Form → Option Form
constant_or (Some z) f = Some (constant_form z)
constant_or None f = f

-- by the names of the places, of which the first `loops` are those of loops; each part keeps the limits
module _ (loops : ℕ) (names : List (List ℕ)) where
  abbrev pub linear : Expression → Option Form
  linear (Number n) = limited loops (constant_or (constant_of (Number n)) None)
  linear (Logic b) = None
  linear (Named x ps) = limited loops (form_of_name names x ps)
  linear (Unary o a) = limited loops (constant_or (constant_of (Unary o a)) (form_of_sign o (linear a)))
  linear (Binary o a b) =
      limited loops (constant_or (constant_of (Binary o a b))
      (form_of_pair o (constant_of a) (constant_of b) (linear a) (linear b)))
  linear (Apply f es) = limited loops (constant_or (constant_of (Apply f es)) None)
  linear _ = None

-- the form of an expression over loops and symbols, of which there are at most 7 loops
abbrev pub form_of : List (List ℕ) → List (List ℕ) → Expression → Option Form
form_of loops symbols e =
    if nat_le (length loops) nest_depth then linear (length loops) (loops ++ symbols) e else None
