-- When an operator and a function fault, and what kind of value they give.
use Rattle.std.proofs.Common.{◌≡◌, ◌≢◌, refl, sym, ap, ◌∙◌, ◌↔◌, suc, ℤ, pos, negsuc, ◌<ℤ◌, ◌*ℤ◌, ◌-ℤ◌, ◌+ℤ◌, neg_ℤ, Bool, true, false, cond, List, [], ◌∷◌, Result, Ok, Err, arith, IsTrue, Decides, map, length, subst}
use Rattle.std.specs.Prelude.{⊤, FitsSigned, IfErr, IsOkAnd, IfOk, IsErrOf, int_div}
use Rattle.std.specs.Int.{w128, int_pow}
use Rattle.std.specs.Ordering.{int_eq}
use Rattle.std.specs.List.{All}
use Rattle.std.proofs.lemmas.List.{length-map}
use Rattle.std.proofs.lemmas.List.Elements.{All-head, All-tail}
use Rattle.std.proofs.lemmas.Int.{ints}
use Rattle.std.proofs.lemmas.Bool.{false≢true}
use Rattle.std.proofs.lemmas.Bool.Decides.{Decides-eqb, Decides-int_eq}
use Rattle.tree.specs.Steps.{◌>>=◌}
use Rattle.tree.specs.Operators.{fits, number, ranged, quotient, power, exact_value, exact_call, exact_of_values}
use Rattle.tree.specs.Operators.{on_numbers, on_truths, apply, call, as_numbers, is_neg, is_not, takes_truths}
use Rattle.tree.specs.Operators.{as_number}
use Rattle.tree.specs.OperationFaults.{exact, suits, LeavesRange, DividesByZero, CallDividesByZero}
use Rattle.tree.specs.OperationFaults.{NumbersCallDividesByZero, IsNumber, IsInRange, NumbersDivideByZero, kind_of}
use Rattle.tree.specs.OperationFaults.{takes_numbers, number_in}
use Rattle.tree.specs.Functions.{suits_number}
use Rattle.tree.specs.OperatorTable.{result_kind_of}
use Rattle.tree.specs.declared.ops.Kind.TheVariants.{Integer}
use Rattle.tree.specs.declared.ops.Value.{Value}
use Rattle.tree.specs.declared.ops.Value.TheVariants.{Int, Truth}
use Rattle.tree.specs.declared.ops.Fault.{Fault}
use Rattle.tree.specs.declared.ops.Fault.TheVariants.{Overflow, ZeroDivide, Shape}
use Rattle.tree.specs.declared.ops.Op.{Op}
use Rattle.tree.specs.declared.ops.Op.TheVariants.{Pow, Mul, Div, Neg, Add, Sub, Lt, Le, Eq, Ne, Gt, Ge, Not, And, Or, Eqv, Neqv}
use Rattle.tree.specs.declared.functions.Fun.{Fun}
use Rattle.tree.specs.declared.functions.Fun.TheVariants.{Abs, Mod, Max, Min}
use Rattle.tree.proofs.Exact.{fits-Decides}
use Rattle.tree.proofs.Powers.{inverse_power-zero, inverse_power-base}

-- the two faults of an operation at values that suit it
abbrev pub IsArithmeticFault : Fault → Type 0
IsArithmeticFault Overflow = ⊤
IsArithmeticFault ZeroDivide = ⊤
IsArithmeticFault _ = ⊥

-- ---- the test of range

abbrev tested : Bool → ℤ → Result Value Fault
tested b z = cond b (Ok (Int z)) (Err Overflow)

tested-Overflow : (b : Bool) (z : ℤ) → Decides b (FitsSigned w128 z) → IsErrOf (tested b z) Overflow ↔ ¬ FitsSigned w128 z
tested-Overflow true z d = (λ e. absurd (cc), λ h. absurd (h (d.0 refl)))
tested-Overflow false z d = (λ e. λ f. false≢true (d.1 f), λ h. refl)

number-Overflow : (z : ℤ) → IsErrOf (number z) Overflow ↔ ¬ FitsSigned w128 z
number-Overflow z = tested-Overflow (fits 127 z) z (fits-Decides z)

tested-ZeroDivide : (b : Bool) (z : ℤ) → ¬ IsErrOf (tested b z) ZeroDivide
tested-ZeroDivide true z e = cc
tested-ZeroDivide false z e = cc

-- of an exact value: it overflows where that leaves the range, and divides by zero where that does
ranged-Overflow : (r : Result ℤ Fault) → ¬ IsErrOf r Overflow → IsErrOf (ranged r) Overflow ↔ LeavesRange r
ranged-Overflow (Ok z) h = number-Overflow z
ranged-Overflow (Err f) h = (λ e. h (let g : f ≡ Overflow = cc in ap (λ (x : Fault). let r : Result ℤ Fault = Err x in r) g), λ e. absurd e)

ranged-ZeroDivide : (r : Result ℤ Fault) → IsErrOf (ranged r) ZeroDivide ↔ IsErrOf r ZeroDivide
ranged-ZeroDivide (Ok z) = (λ e. absurd (tested-ZeroDivide (fits 127 z) z e), λ e. absurd (cc))
ranged-ZeroDivide (Err f) = (λ e. let g : f ≡ ZeroDivide = cc in ap (λ (x : Fault). let r : Result ℤ Fault = Err x in r) g, λ e. let g : f ≡ ZeroDivide = cc in ap (λ (x : Fault). let r : Result Value Fault = Err x in r) g)

ranged-faults : (r : Result ℤ Fault) → IfErr r IsArithmeticFault → IfErr (ranged r) IsArithmeticFault
ranged-faults (Ok z) h = elim (fits 127 z) as (λ b. IfErr (tested b z) IsArithmeticFault) [ true ↦ tt | false ↦ tt ]
ranged-faults (Err f) h = h

ranged-kind : (r : Result ℤ Fault) → IfOk (ranged r) (λ v. kind_of v ≡ Integer)
ranged-kind (Ok z) = elim (fits 127 z) as (λ b. IfOk (tested b z) (λ v. kind_of v ≡ Integer)) [ true ↦ refl | false ↦ tt ]
ranged-kind (Err f) = tt

tested-IsInRange : (b : Bool) (z : ℤ) → Decides b (FitsSigned w128 z) → IfOk (tested b z) IsInRange
tested-IsInRange true z d = d.0 refl
tested-IsInRange false z d = tt

ranged-IsInRange : (r : Result ℤ Fault) → IfOk (ranged r) IsInRange
ranged-IsInRange (Ok z) = tested-IsInRange (fits 127 z) z (fits-Decides z)
ranged-IsInRange (Err f) = tt

-- ---- division and powers

abbrev divided : Bool → ℤ → Result ℤ Fault
divided zero_divisor q = cond zero_divisor (Err ZeroDivide) (Ok q)

divided-Overflow : (b : Bool) (q : ℤ) → ¬ IsErrOf (divided b q) Overflow
divided-Overflow true q e = cc
divided-Overflow false q e = cc

divided-ZeroDivide : (P : Type 0) (b : Bool) (q : ℤ) → Decides b P → IsErrOf (divided b q) ZeroDivide ↔ P
divided-ZeroDivide P true q d = (λ e. d.0 refl, λ p. refl)
divided-ZeroDivide P false q d = (λ e. absurd (cc), λ p. absurd (false≢true (d.1 p)))

divided-faults : (b : Bool) (q : ℤ) → IfErr (divided b q) IsArithmeticFault
divided-faults true q = tt
divided-faults false q = tt

quotient-Overflow : (a b : ℤ) → ¬ IsErrOf (quotient a b) Overflow
quotient-Overflow a b = divided-Overflow (int_eq b (pos 0)) (int_div a b)

quotient-ZeroDivide : (a b : ℤ) → IsErrOf (quotient a b) ZeroDivide ↔ (b ≡ pos 0)
quotient-ZeroDivide a b = divided-ZeroDivide (b ≡ pos 0) (int_eq b (pos 0)) (int_div a b) (Decides-int_eq b (pos 0))

quotient-faults : (a b : ℤ) → IfErr (quotient a b) IsArithmeticFault
quotient-faults a b = divided-faults (int_eq b (pos 0)) (int_div a b)

power-Overflow : (a b : ℤ) → ¬ IsErrOf (power a b) Overflow
power-Overflow a (pos n) e = cc
power-Overflow a (negsuc n) e = quotient-Overflow (pos 1) (int_pow a (suc n)) e

power-faults : (a b : ℤ) → IfErr (power a b) IsArithmeticFault
power-faults a (pos n) = tt
power-faults a (negsuc n) = quotient-faults (pos 1) (int_pow a (suc n))

power-ZeroDivide : (a b : ℤ) → IsErrOf (power a b) ZeroDivide ↔ ((a ≡ pos 0) × (b <ℤ pos 0))
power-ZeroDivide a (pos n) = (λ e. absurd (cc), λ h. let below : pos n <ℤ pos 0 = h.1 in absurd (omega (arith, ints)))
power-ZeroDivide a (negsuc n) =
    let below : negsuc n <ℤ pos 0 = omega (arith, ints) in
    let by_range = ranged-ZeroDivide (power a (negsuc n)) in (
      λ e. (inverse_power-base a (negsuc n) below (by_range.1 e), below),
      λ h. by_range.0 (ap (λ (x : ℤ). on_numbers Pow x (negsuc n)) h.0 ∙ inverse_power-zero (negsuc n) below),
    )

-- ---- operators

exact_value-Overflow : (o : Op) (a b : ℤ) → ¬ IsErrOf (exact_value o a b) Overflow
exact_value-Overflow Pow a b = power-Overflow a b
exact_value-Overflow Div a b = quotient-Overflow a b
exact_value-Overflow o a b = λ e. cc

on_numbers-Overflow : (o : Op) (a b : ℤ) → IsErrOf (on_numbers o a b) Overflow ↔ LeavesRange (exact_value o a b)
on_numbers-Overflow Lt a b = (λ e. absurd (cc), λ h. absurd h)
on_numbers-Overflow Le a b = (λ e. absurd (cc), λ h. absurd h)
on_numbers-Overflow Eq a b = (λ e. absurd (cc), λ h. absurd h)
on_numbers-Overflow Ne a b = (λ e. absurd (cc), λ h. absurd h)
on_numbers-Overflow Gt a b = (λ e. absurd (cc), λ h. absurd h)
on_numbers-Overflow Ge a b = (λ e. absurd (cc), λ h. absurd h)
on_numbers-Overflow o a b = ranged-Overflow (exact_value o a b) (exact_value-Overflow o a b)

on_truths-fault : (o : Op) (a b : Bool) → IfErr (on_truths o a b) (λ f. f ≡ Shape)
on_truths-fault Not a b = tt
on_truths-fault And a b = tt
on_truths-fault Or a b = tt
on_truths-fault Eqv a b = tt
on_truths-fault Neqv a b = tt
on_truths-fault _ a b = refl

on_shape : (r : Result Value Fault) (f : Fault) → IfErr r (λ g. g ≡ Shape) → f ≢ Shape → ¬ IsErrOf r f
on_shape (Ok v) f h other e = cc
on_shape (Err g) f h other e = other (let same : f ≡ g = cc in same ∙ h)

on_truths-Overflow : (o : Op) (a b : Bool) → ¬ IsErrOf (on_truths o a b) Overflow
on_truths-Overflow o a b = on_shape (on_truths o a b) Overflow (on_truths-fault o a b) (λ e. cc)

on_truths-ZeroDivide : (o : Op) (a b : Bool) → ¬ IsErrOf (on_truths o a b) ZeroDivide
on_truths-ZeroDivide o a b = on_shape (on_truths o a b) ZeroDivide (on_truths-fault o a b) (λ e. cc)

negated-Overflow : (n : Bool) (a : ℤ) → IsErrOf (cond n (on_numbers Neg a a) (Err Shape)) Overflow ↔ LeavesRange (cond n (Ok (neg_ℤ a)) (Err Shape))
negated-Overflow true a = number-Overflow (neg_ℤ a)
negated-Overflow false a = (λ e. absurd (cc), λ h. absurd h)

inverted-Overflow : (n a : Bool) → ¬ IsErrOf (cond n (on_truths Not a a) (Err Shape)) Overflow
inverted-Overflow true a e = cc
inverted-Overflow false a e = cc

-- it overflows exactly where the exact number leaves 128 bits
pub apply-Overflow : (o : Op) (v w : Value) → IsErrOf (apply o v w) Overflow ↔ LeavesRange (exact o v w)
apply-Overflow o (Int a) (Int b) = on_numbers-Overflow o a b
apply-Overflow o (Int a) (Truth b) = negated-Overflow (is_neg o) a
apply-Overflow o (Truth a) (Truth b) = (λ e. absurd (on_truths-Overflow o a b e), λ h. absurd h)
apply-Overflow o (Truth a) (Int b) = (λ e. absurd (inverted-Overflow (is_not o) a e), λ h. absurd h)

on_numbers-ZeroDivide : (o : Op) (a b : ℤ) → IsErrOf (on_numbers o a b) ZeroDivide ↔ NumbersDivideByZero o a b
on_numbers-ZeroDivide Pow a b = (λ e. (power-ZeroDivide a b).0 ((ranged-ZeroDivide (power a b)).0 e), λ h. (ranged-ZeroDivide (power a b)).1 ((power-ZeroDivide a b).1 h))
on_numbers-ZeroDivide Div a b = (λ e. (quotient-ZeroDivide a b).0 ((ranged-ZeroDivide (quotient a b)).0 e), λ h. (ranged-ZeroDivide (quotient a b)).1 ((quotient-ZeroDivide a b).1 h))
on_numbers-ZeroDivide Mul a b = (λ e. absurd (tested-ZeroDivide (fits 127 (a *ℤ b)) (a *ℤ b) e), λ h. absurd h)
on_numbers-ZeroDivide Neg a b = (λ e. absurd (tested-ZeroDivide (fits 127 (neg_ℤ a)) (neg_ℤ a) e), λ h. absurd h)
on_numbers-ZeroDivide Add a b = (λ e. absurd (tested-ZeroDivide (fits 127 (a +ℤ b)) (a +ℤ b) e), λ h. absurd h)
on_numbers-ZeroDivide Sub a b = (λ e. absurd (tested-ZeroDivide (fits 127 (a -ℤ b)) (a -ℤ b) e), λ h. absurd h)
on_numbers-ZeroDivide o a b = (λ e. absurd (cc), λ h. absurd h)

negated-ZeroDivide : (n : Bool) (a : ℤ) → ¬ IsErrOf (cond n (on_numbers Neg a a) (Err Shape)) ZeroDivide
negated-ZeroDivide true a e = tested-ZeroDivide (fits 127 (neg_ℤ a)) (neg_ℤ a) e
negated-ZeroDivide false a e = cc

inverted-ZeroDivide : (n a : Bool) → ¬ IsErrOf (cond n (on_truths Not a a) (Err Shape)) ZeroDivide
inverted-ZeroDivide true a e = cc
inverted-ZeroDivide false a e = cc

-- it divides by zero exactly where a divisor is 0 or 0 has a negative power
pub apply-ZeroDivide : (o : Op) (v w : Value) → IsErrOf (apply o v w) ZeroDivide ↔ DividesByZero o v w
apply-ZeroDivide o (Int a) (Int b) = on_numbers-ZeroDivide o a b
apply-ZeroDivide o (Int a) (Truth b) = (λ e. absurd (negated-ZeroDivide (is_neg o) a e), λ h. absurd h)
apply-ZeroDivide o (Truth a) (Truth b) = (λ e. absurd (on_truths-ZeroDivide o a b e), λ h. absurd h)
apply-ZeroDivide o (Truth a) (Int b) = (λ e. absurd (inverted-ZeroDivide (is_not o) a e), λ h. absurd h)

on_numbers-faults : (o : Op) (a b : ℤ) → IsTrue (takes_numbers o) → IfErr (on_numbers o a b) IsArithmeticFault
on_numbers-faults Pow a b s = ranged-faults (power a b) (power-faults a b)
on_numbers-faults Div a b s = ranged-faults (quotient a b) (quotient-faults a b)
on_numbers-faults Mul a b s = ranged-faults (Ok (a *ℤ b)) tt
on_numbers-faults Neg a b s = ranged-faults (Ok (neg_ℤ a)) tt
on_numbers-faults Add a b s = ranged-faults (Ok (a +ℤ b)) tt
on_numbers-faults Sub a b s = ranged-faults (Ok (a -ℤ b)) tt
on_numbers-faults Not a b s = absurd (false≢true s)
on_numbers-faults And a b s = absurd (false≢true s)
on_numbers-faults Or a b s = absurd (false≢true s)
on_numbers-faults Eqv a b s = absurd (false≢true s)
on_numbers-faults Neqv a b s = absurd (false≢true s)
on_numbers-faults _ a b s = tt

on_truths-faults : (o : Op) (a b : Bool) → IsTrue (takes_truths o) → IfErr (on_truths o a b) IsArithmeticFault
on_truths-faults Not a b s = tt
on_truths-faults And a b s = tt
on_truths-faults Or a b s = tt
on_truths-faults Eqv a b s = tt
on_truths-faults Neqv a b s = tt
on_truths-faults _ a b s = absurd (false≢true s)

negated-faults : (n : Bool) (a : ℤ) → IsTrue n → IfErr (cond n (on_numbers Neg a a) (Err Shape)) IsArithmeticFault
negated-faults true a s = ranged-faults (Ok (neg_ℤ a)) tt
negated-faults false a s = absurd (false≢true s)

inverted-faults : (n a : Bool) → IsTrue n → IfErr (cond n (on_truths Not a a) (Err Shape)) IsArithmeticFault
inverted-faults true a s = tt
inverted-faults false a s = absurd (false≢true s)

-- values of kinds that suit give no other fault
pub apply-faults : (o : Op) (v w : Value) → IsTrue (suits o v w) → IfErr (apply o v w) IsArithmeticFault
apply-faults o (Int a) (Int b) s = on_numbers-faults o a b s
apply-faults o (Int a) (Truth b) s = negated-faults (is_neg o) a s
apply-faults o (Truth a) (Truth b) s = on_truths-faults o a b s
apply-faults o (Truth a) (Int b) s = inverted-faults (is_not o) a s

on_numbers-kind : (o : Op) (a b : ℤ) → IfOk (on_numbers o a b) (λ v. kind_of v ≡ result_kind_of o)
on_numbers-kind Pow a b = ranged-kind (power a b)
on_numbers-kind Div a b = ranged-kind (quotient a b)
on_numbers-kind Mul a b = ranged-kind (Ok (a *ℤ b))
on_numbers-kind Neg a b = ranged-kind (Ok (neg_ℤ a))
on_numbers-kind Add a b = ranged-kind (Ok (a +ℤ b))
on_numbers-kind Sub a b = ranged-kind (Ok (a -ℤ b))
on_numbers-kind Not a b = tt
on_numbers-kind And a b = tt
on_numbers-kind Or a b = tt
on_numbers-kind Eqv a b = tt
on_numbers-kind Neqv a b = tt
on_numbers-kind _ a b = refl

on_truths-kind : (o : Op) (a b : Bool) → IfOk (on_truths o a b) (λ v. kind_of v ≡ result_kind_of o)
on_truths-kind Not a b = refl
on_truths-kind And a b = refl
on_truths-kind Or a b = refl
on_truths-kind Eqv a b = refl
on_truths-kind Neqv a b = refl
on_truths-kind _ a b = tt

negated-kind : (o : Op) (a : ℤ) → IfOk (cond (is_neg o) (on_numbers Neg a a) (Err Shape)) (λ v. kind_of v ≡ result_kind_of o)
negated-kind Neg a = ranged-kind (Ok (neg_ℤ a))
negated-kind _ a = tt

inverted-kind : (o : Op) (a : Bool) → IfOk (cond (is_not o) (on_truths Not a a) (Err Shape)) (λ v. kind_of v ≡ result_kind_of o)
inverted-kind Not a = refl
inverted-kind _ a = tt

-- the value is of the operator's kind
pub apply-kind : (o : Op) (v w : Value) → IfOk (apply o v w) (λ x. kind_of x ≡ result_kind_of o)
apply-kind o (Int a) (Int b) = on_numbers-kind o a b
apply-kind o (Int a) (Truth b) = negated-kind o a
apply-kind o (Truth a) (Truth b) = on_truths-kind o a b
apply-kind o (Truth a) (Int b) = inverted-kind o a

on_numbers-IsInRange : (o : Op) (a b : ℤ) → IfOk (on_numbers o a b) IsInRange
on_numbers-IsInRange Lt a b = tt
on_numbers-IsInRange Le a b = tt
on_numbers-IsInRange Eq a b = tt
on_numbers-IsInRange Ne a b = tt
on_numbers-IsInRange Gt a b = tt
on_numbers-IsInRange Ge a b = tt
on_numbers-IsInRange o a b = ranged-IsInRange (exact_value o a b)

on_truths-IsInRange : (o : Op) (a b : Bool) → IfOk (on_truths o a b) IsInRange
on_truths-IsInRange Not a b = tt
on_truths-IsInRange And a b = tt
on_truths-IsInRange Or a b = tt
on_truths-IsInRange Eqv a b = tt
on_truths-IsInRange Neqv a b = tt
on_truths-IsInRange _ a b = tt

negated-IsInRange : (n : Bool) (a : ℤ) → IfOk (cond n (on_numbers Neg a a) (Err Shape)) IsInRange
negated-IsInRange true a = ranged-IsInRange (Ok (neg_ℤ a))
negated-IsInRange false a = tt

inverted-IsInRange : (n a : Bool) → IfOk (cond n (on_truths Not a a) (Err Shape)) IsInRange
inverted-IsInRange true a = tt
inverted-IsInRange false a = tt

-- a number that an operator gives fits 128 bits
pub apply-IsInRange : (o : Op) (v w : Value) → IfOk (apply o v w) IsInRange
apply-IsInRange o (Int a) (Int b) = on_numbers-IsInRange o a b
apply-IsInRange o (Int a) (Truth b) = negated-IsInRange (is_neg o) a
apply-IsInRange o (Truth a) (Truth b) = on_truths-IsInRange o a b
apply-IsInRange o (Truth a) (Int b) = inverted-IsInRange (is_not o) a

-- ---- functions

then-fault : (r : Result ℤ Fault) (rs : Result (List ℤ) Fault) → IfErr r (λ f. f ≡ Shape) → IfErr rs (λ f. f ≡ Shape) → IfErr (r >>= (λ z. rs >>= (λ zs. let more : Result (List ℤ) Fault = Ok (z ∷ zs) in more))) (λ f. f ≡ Shape)
then-fault (Ok z) (Ok zs) h k = tt
then-fault (Ok z) (Err f) h k = k
then-fault (Err f) rs h k = h

as_number-fault : (v : Value) → IfErr (as_number v) (λ f. f ≡ Shape)
as_number-fault (Int z) = tt
as_number-fault (Truth b) = refl

as_numbers-fault : (vs : List Value) → IfErr (as_numbers vs) (λ f. f ≡ Shape)
as_numbers-fault [] = tt
as_numbers-fault (v ∷ vs) = then-fault (as_number v) (as_numbers vs) (as_number-fault v) (as_numbers-fault vs)

abbrev remainder_by : Bool → ℤ → ℤ → ℤ → Result ℤ Fault
remainder_by zero_divisor q a d = divided zero_divisor q >>= (λ z. let r : Result ℤ Fault = Ok (a -ℤ (z *ℤ d)) in r)

remainder_by-Overflow : (b : Bool) (q a d : ℤ) → ¬ IsErrOf (remainder_by b q a d) Overflow
remainder_by-Overflow true q a d e = cc
remainder_by-Overflow false q a d e = cc

remainder_by-ZeroDivide : (P : Type 0) (b : Bool) (q a d : ℤ) → Decides b P → IsErrOf (remainder_by b q a d) ZeroDivide ↔ P
remainder_by-ZeroDivide P true q a d h = (λ e. h.0 refl, λ p. refl)
remainder_by-ZeroDivide P false q a d h = (λ e. absurd (cc), λ p. absurd (false≢true (h.1 p)))

remainder_by-faults : (b : Bool) (q a d : ℤ) → IfErr (remainder_by b q a d) IsArithmeticFault
remainder_by-faults true q a d = tt
remainder_by-faults false q a d = tt

exact_call-Overflow : (f : Fun) (zs : List ℤ) → ¬ IsErrOf (exact_call f zs) Overflow
exact_call-Overflow Abs [] e = cc
exact_call-Overflow Abs (a ∷ []) e = cc
exact_call-Overflow Abs (a ∷ b ∷ more) e = cc
exact_call-Overflow Mod [] e = cc
exact_call-Overflow Mod (a ∷ []) e = cc
exact_call-Overflow Mod (a ∷ b ∷ []) e = remainder_by-Overflow (int_eq b (pos 0)) (int_div a b) a b e
exact_call-Overflow Mod (a ∷ b ∷ c ∷ more) e = cc
exact_call-Overflow Max [] e = cc
exact_call-Overflow Max (a ∷ []) e = cc
exact_call-Overflow Max (a ∷ b ∷ more) e = cc
exact_call-Overflow Min [] e = cc
exact_call-Overflow Min (a ∷ []) e = cc
exact_call-Overflow Min (a ∷ b ∷ more) e = cc

exact_call-ZeroDivide : (f : Fun) (zs : List ℤ) → IsErrOf (exact_call f zs) ZeroDivide ↔ NumbersCallDividesByZero f zs
exact_call-ZeroDivide Abs [] = (λ e. absurd (cc), λ h. absurd h)
exact_call-ZeroDivide Abs (a ∷ []) = (λ e. absurd (cc), λ h. absurd h)
exact_call-ZeroDivide Abs (a ∷ b ∷ more) = (λ e. absurd (cc), λ h. absurd h)
exact_call-ZeroDivide Mod [] = (λ e. absurd (cc), λ h. absurd h)
exact_call-ZeroDivide Mod (a ∷ []) = (λ e. absurd (cc), λ h. absurd h)
exact_call-ZeroDivide Mod (a ∷ b ∷ []) = remainder_by-ZeroDivide (b ≡ pos 0) (int_eq b (pos 0)) (int_div a b) a b (Decides-int_eq b (pos 0))
exact_call-ZeroDivide Mod (a ∷ b ∷ c ∷ more) = (λ e. absurd (cc), λ h. absurd h)
exact_call-ZeroDivide Max [] = (λ e. absurd (cc), λ h. absurd h)
exact_call-ZeroDivide Max (a ∷ []) = (λ e. absurd (cc), λ h. absurd h)
exact_call-ZeroDivide Max (a ∷ b ∷ more) = (λ e. absurd (cc), λ h. absurd h)
exact_call-ZeroDivide Min [] = (λ e. absurd (cc), λ h. absurd h)
exact_call-ZeroDivide Min (a ∷ []) = (λ e. absurd (cc), λ h. absurd h)
exact_call-ZeroDivide Min (a ∷ b ∷ more) = (λ e. absurd (cc), λ h. absurd h)

exact_call-faults : (f : Fun) (zs : List ℤ) → IsTrue (suits_number f (length zs)) → IfErr (exact_call f zs) IsArithmeticFault
exact_call-faults Abs [] h = absurd (false≢true h)
exact_call-faults Abs (a ∷ []) h = tt
exact_call-faults Abs (a ∷ b ∷ more) h = let e = (Decides-eqb (length (a ∷ b ∷ more)) 1).0 h in absurd (omega arith)
exact_call-faults Mod [] h = absurd (false≢true h)
exact_call-faults Mod (a ∷ []) h = absurd (false≢true h)
exact_call-faults Mod (a ∷ b ∷ []) h = remainder_by-faults (int_eq b (pos 0)) (int_div a b) a b
exact_call-faults Mod (a ∷ b ∷ c ∷ more) h = let e = (Decides-eqb (length (a ∷ b ∷ c ∷ more)) 2).0 h in absurd (omega arith)
exact_call-faults Max [] h = absurd (false≢true h)
exact_call-faults Max (a ∷ []) h = absurd (false≢true h)
exact_call-faults Max (a ∷ b ∷ more) h = tt
exact_call-faults Min [] h = absurd (false≢true h)
exact_call-faults Min (a ∷ []) h = absurd (false≢true h)
exact_call-faults Min (a ∷ b ∷ more) h = tt

called-Overflow : (f : Fun) (r : Result (List ℤ) Fault) → IfErr r (λ g. g ≡ Shape) → ¬ IsErrOf (r >>= (λ zs. exact_call f zs)) Overflow
called-Overflow f (Ok zs) h e = exact_call-Overflow f zs e
called-Overflow f (Err g) h e = let same : Shape ≡ Overflow = sym h ∙ (cc) in cc

-- it overflows exactly where the exact number leaves 128 bits
pub call-Overflow : (f : Fun) (vs : List Value) → IsErrOf (call f vs) Overflow ↔ LeavesRange (exact_of_values f vs)
call-Overflow f vs = ranged-Overflow (exact_of_values f vs) (called-Overflow f (as_numbers vs) (as_numbers-fault vs))

-- a number that a function gives fits 128 bits
pub call-IsInRange : (f : Fun) (vs : List Value) → IfOk (call f vs) IsInRange
call-IsInRange f vs = ranged-IsInRange (exact_of_values f vs)

pub call-kind : (f : Fun) (vs : List Value) → IfOk (call f vs) (λ v. kind_of v ≡ Integer)
call-kind f vs = ranged-kind (exact_of_values f vs)

-- ---- arguments that are numbers

number_in_is : (v : Value) → IsNumber v → as_number v ≡ Ok (number_in v)
number_in_is (Int z) h = refl
number_in_is (Truth b) h = absurd h

abbrev joined : Result ℤ Fault → Result (List ℤ) Fault → Result (List ℤ) Fault
joined r rs = r >>= (λ z. rs >>= (λ zs. let more : Result (List ℤ) Fault = Ok (z ∷ zs) in more))

as_numbers-numbers : (vs : List Value) → All IsNumber vs → as_numbers vs ≡ Ok (map number_in vs)
as_numbers-numbers [] h = refl
as_numbers-numbers (v ∷ vs) h =
    ap (λ (r : Result ℤ Fault). joined r (as_numbers vs)) (number_in_is v (All-head IsNumber v vs h)) ∙ ap (λ (rs : Result (List ℤ) Fault). joined (Ok (number_in v)) rs) (as_numbers-numbers vs (All-tail IsNumber v vs h))

pub exact_of_values-numbers : (f : Fun) (vs : List Value) → All IsNumber vs → exact_of_values f vs ≡ exact_call f (map number_in vs)
exact_of_values-numbers f vs h = ap (λ (rs : Result (List ℤ) Fault). rs >>= (λ zs. exact_call f zs)) (as_numbers-numbers vs h)

called-ZeroDivide : (f : Fun) (r : Result (List ℤ) Fault) → IfErr r (λ g. g ≡ Shape)
    → IsErrOf (r >>= (λ zs. exact_call f zs)) ZeroDivide ↔ IsOkAnd r (NumbersCallDividesByZero f)
called-ZeroDivide f (Ok zs) h = exact_call-ZeroDivide f zs
called-ZeroDivide f (Err g) h = (λ e. let same : Shape ≡ ZeroDivide = sym h ∙ (cc) in cc, λ d. absurd d)

-- it divides by zero exactly where the divisor of MOD is 0
pub call-ZeroDivide : (f : Fun) (vs : List Value) → IsErrOf (call f vs) ZeroDivide ↔ CallDividesByZero f vs
call-ZeroDivide f vs =
    let inner = called-ZeroDivide f (as_numbers vs) (as_numbers-fault vs) in
    let outer = ranged-ZeroDivide (exact_of_values f vs) in
    (λ e. inner.0 (outer.0 e), λ d. outer.1 (inner.1 d))

-- a right number of numbers gives no other fault
pub call-faults : (f : Fun) (vs : List Value) → IsTrue (suits_number f (length vs)) → All IsNumber vs → IfErr (call f vs) IsArithmeticFault
call-faults f vs n h =
    let count : IsTrue (suits_number f (length (map number_in vs))) = rw length-map n in
    ranged-faults (exact_of_values f vs) (subst (λ (r : Result ℤ Fault). IfErr r IsArithmeticFault) (sym (exact_of_values-numbers f vs h)) (exact_call-faults f (map number_in vs) count))
