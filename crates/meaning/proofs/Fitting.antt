-- Operators and functions give only numbers within 128 bits, and so do expressions.
use Rattle.std.proofs.Common.{◌≡◌, refl, subst, ℕ, ℤ, pos, ◌+ℤ◌, ◌-◌, ◌^◌, List, [], ◌∷◌, Bool, true, false, cond, Result, Ok, Err}
use Rattle.tree.specs.Steps.{◌>>=◌}
use Rattle.tree.specs.Operators.{fits, number, ranged, exact_value, is_neg, is_not, on_numbers, on_truths, apply, exact_of_values, as_numbers, sum_from, reduced}
use Rattle.tree.specs.Plain.{Expression, Number, Logic, Named, Unary, Binary, Apply, Constructor, Spread, Transpose, Reshape, Reduce}
use Rattle.tree.specs.declared.ops.Op.{Op}
use Rattle.tree.specs.declared.ops.Op.TheVariants.{Neg, Lt, Le, Eq, Ne, Gt, Ge, Not, And, Or, Eqv, Neqv}
use Rattle.tree.specs.declared.ops.Value.{Value}
use Rattle.tree.specs.declared.ops.Value.TheVariants.{Int, Truth}
use Rattle.tree.specs.declared.ops.Fault.{Fault}
use Rattle.tree.specs.declared.ops.Fault.TheVariants.{Overflow, Shape}
use Rattle.meaning.specs.Store.{Store, cell_at}
use Rattle.meaning.specs.Value.{value_of, values_of, array_of, with_arrays, subscript_values, is_in_range}
use Rattle.meaning.specs.Ranges.{LiteralsFit, HoldsInRange}
use Rattle.meaning.specs.Dialect.{Dialect}
use Rattle.meaning.specs.ArrayValues.{in_whole}
use Rattle.tree.specs.declared.functions.Red.{Red}
use Rattle.tree.specs.declared.functions.Red.TheVariants.{Sum, MaxVal, MinVal}
use Rattle.std.specs.Prelude.{neg_ℤ}
use Rattle.std.specs.List.{fold}
use Rattle.std.specs.Int.{int_max, int_min}

-- a result that, if it is a value, fits
abbrev Fits : Result Value Fault → Type 0
Fits (Ok v) = is_in_range 127 v ≡ true
Fits (Err e) = Unit {0}

number-fits : (z : ℤ) → Fits (number z)
number-fits z = by (fits 127 z) refl
  where
    by : (b : Bool) → fits 127 z ≡ b → Fits (cond b (Ok (Int z)) (Err Overflow))
    by true e = e
    by false e = tt

ranged-fits : (r : Result ℤ Fault) → Fits (ranged r)
ranged-fits (Ok z) = number-fits z
ranged-fits (Err e) = tt

on_numbers-fits : (o : Op) (a b : ℤ) → Fits (on_numbers o a b)
on_numbers-fits Lt a b = refl
on_numbers-fits Le a b = refl
on_numbers-fits Eq a b = refl
on_numbers-fits Ne a b = refl
on_numbers-fits Gt a b = refl
on_numbers-fits Ge a b = refl
on_numbers-fits o a b = ranged-fits (exact_value o a b)

on_truths-fits : (o : Op) (a b : Bool) → Fits (on_truths o a b)
on_truths-fits Not a b = refl
on_truths-fits And a b = refl
on_truths-fits Or a b = refl
on_truths-fits Eqv a b = refl
on_truths-fits Neqv a b = refl
on_truths-fits _ a b = tt

if-fits : (c : Bool) (r : Result Value Fault) → Fits r → Fits (cond c r (Err Shape))
if-fits true r h = h
if-fits false r h = tt

pub apply-fits : (o : Op) (x y : Value) → Fits (apply o x y)
apply-fits o (Int a) (Int b) = on_numbers-fits o a b
apply-fits o (Int a) (Truth b) = if-fits (is_neg o) (on_numbers Neg a a) (on_numbers-fits Neg a a)
apply-fits o (Truth a) (Truth b) = on_truths-fits o a b
apply-fits o (Truth a) (Int b) = if-fits (is_not o) (on_truths Not a a) (on_truths-fits Not a a)

-- ---- expressions

then-fits : {A : Type 0} (r : Result A Fault) (f : A → Result Value Fault) → ((x : A) → Fits (f x)) → Fits (do x ← r; f x)
then-fits (Ok x) f h = h x
then-fits (Err e) f h = tt

sum-fits : (z : ℤ) (zs : List ℤ) → fits 127 z ≡ true → Fits (sum_from z zs)
sum-fits z [] h = h
sum-fits z (x ∷ xs) h = by (fits 127 (z +ℤ x)) refl (sum-fits (z +ℤ x) xs)
  where
    by : (b : Bool) → fits 127 (z +ℤ x) ≡ b → (fits 127 (z +ℤ x) ≡ true → Fits (sum_from (z +ℤ x) xs)) → Fits (cond b (sum_from (z +ℤ x) xs) (Err Overflow))
    by true e more = more e
    by false e more = tt

reduced-fits : (bits : ℕ) (r : Red) (zs : List ℤ) → Fits (reduced bits r zs)
reduced-fits bits Sum zs = sum-fits (pos 0) zs refl
reduced-fits bits MaxVal [] = number-fits (neg_ℤ (pos (2 ^ bits)))
reduced-fits bits MaxVal (z ∷ zs) = number-fits (fold int_max z zs)
reduced-fits bits MinVal [] = number-fits (pos (2 ^ bits - 1))
reduced-fits bits MinVal (z ∷ zs) = number-fits (fold int_min z zs)

where_arrays-fits : (b : Bool) (r : Result Value Fault) → Fits r → Fits (with_arrays b r)
where_arrays-fits true r h = h
where_arrays-fits false r h = tt

module _ (lang : Dialect) (s : Store) (held : HoldsInRange 127 s) where
  value_of-fits : (e : Expression) → LiteralsFit e → Fits (value_of lang e s)
  value_of-fits (Number n) h = h
  value_of-fits (Logic b) h = refl
  value_of-fits (Named x ps) h = then-fits (subscript_values lang ps s) _ (λ is. then-fits (cell_at x is s) _ (λ c. held c))
  value_of-fits (Unary o a) h = then-fits (value_of lang a s) _ (λ x. apply-fits o x x)
  value_of-fits (Binary o a b) h = then-fits (value_of lang a s) _ (λ x. then-fits (value_of lang b s) _ (λ y. apply-fits o x y))
  value_of-fits (Apply f es) h = then-fits (values_of lang es s) _ (λ xs. ranged-fits (exact_of_values f xs))
  value_of-fits (Reduce r a) h = where_arrays-fits lang.arrays _ (then-fits (array_of lang a s) _ (λ g. then-fits (in_whole g) _ (λ v. then-fits (as_numbers v.values) _ (λ zs. reduced-fits lang.bits r zs))))
  value_of-fits (Constructor es ls) h = tt
  value_of-fits (Spread a k e) h = tt
  value_of-fits (Transpose a) h = tt
  value_of-fits (Reshape a es) h = tt

pub values_fit : (lang : Dialect) (e : Expression) (s : Store) (v : Value) → LiteralsFit e → HoldsInRange 127 s → value_of lang e s ≡ Ok v → is_in_range 127 v ≡ true
values_fit lang e s v h held q = subst Fits q (value_of-fits lang s held e h)
