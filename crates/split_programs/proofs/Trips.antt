-- The trip of a loop whose bounds are forms within the limits, and its increment.
use Rattle.std.proofs.Common.{◌≡◌, refl, ap, ◌∙◌, ℕ, ◌+◌, ◌*◌, ◌^◌, ◌≤◌, ◌<◌, ℤ, pos, negsuc, ◌+ℤ◌, ◌-ℤ◌, Bool, true, false, ◌&&◌, cond, List, drop, Result, Ok, Err, Option, Some, None, nat_le, int_div, arith}
use Rattle.std.specs.Prelude.{nat_abs}
use Rattle.std.specs.Ordering.{int_eq}
use Rattle.std.proofs.lemmas.Bool.{leb-true, le-leb}
use Rattle.std.proofs.lemmas.Int.{ints}
use Rattle.std.proofs.Math.Nat.{mul-le-mul_right}
use Rattle.last_values.specs.normal_forms.NormalLoops.{is_zero}
use Rattle.linear_forms.proofs.Sizes.{abs-sum, both, dropped, weighted-size, within_fits}
use Rattle.linear_forms.proofs.Storeless.{storeless}
use Rattle.linear_forms.specs.Laws.{AreSized}
use Rattle.linear_forms.specs.Linear.{Form, all_small, as_constant, constant_of, is_limited, is_small, known, no_store, not_zero, number_at, weighted}
use Rattle.meaning.specs.Dialect.{Dialect, fortran77}
use Rattle.tree.specs.declared.width.Width.TheVariants.{Plain}
use Rattle.meaning.specs.Store.{Store}
use Rattle.meaning.specs.Value.{as_count, exact, increment_of, trip_count, value_of}
use Rattle.nest_order.proofs.runs.Results.{after_ok}
use Rattle.nest_reasons.specs.Increments.{is_suitable_increment, step_of, suitable_or_none}
use Rattle.find_nests.specs.nest_parts.Statements.{step_or_zero}
use Rattle.tree.specs.Operators.{as_number, fits}
use Rattle.tree.specs.Plain.{Expression}
use Rattle.tree.specs.Steps.{◌>>=◌}
use Rattle.tree.specs.declared.ops.Fault.{Fault}
use Rattle.tree.specs.declared.ops.Fault.TheVariants.{Overflow, TripCount, ZeroStep}
use Rattle.tree.specs.declared.ops.Value.{Value}
use Rattle.tree.specs.declared.ops.Value.TheVariants.{Int, Truth}

-- ---- sizes

pub limited_size : (f : Form) (xs : List ℤ) → is_limited 0 f ≡ true → AreSized xs → nat_abs (number_at f xs) < 2 ^ 120
limited_size f xs h k =
    let parts = both (all_small f.coefficients) (is_small f.constant && nat_le (not_zero (drop 0 f.coefficients)) 8) h in
    let more = both (is_small f.constant) (nat_le (not_zero (drop 0 f.coefficients)) 8) parts.1 in
    let count : not_zero f.coefficients ≤ 8 =
    let all = dropped 0 f.coefficients in let eight = leb-true (not_zero (drop 0 f.coefficients)) 8 more.1 in omega (arith, all, eight) in
    let terms = weighted-size f.coefficients xs parts.0 k in
    let most : not_zero f.coefficients * (2 ^ 40 * 2 ^ 63) ≤ 8 * (2 ^ 40 * 2 ^ 63) = mul-le-mul_right (2 ^ 40 * 2 ^ 63) count in
    let constant = leb-true (nat_abs f.constant) (2 ^ 40) more.0 in
    let whole = abs-sum (weighted f.coefficients xs) f.constant in
    omega (arith, terms, most, constant, whole)

abs-difference : (a b : ℤ) → nat_abs (b -ℤ a) ≤ nat_abs b + nat_abs a
abs-difference (pos m) (pos n) = omega (arith, ints)
abs-difference (pos m) (negsuc n) = omega (arith, ints)
abs-difference (negsuc m) (pos n) = omega (arith, ints)
abs-difference (negsuc m) (negsuc n) = omega (arith, ints)

-- ---- trips

fitting : (z : ℤ) → fits 127 z ≡ true → exact z ≡ Ok z
fitting z e = ap (λ b. let r : Result ℤ Fault = cond b (Ok z) (Err Overflow) in r) e

count_of : (k : ℕ) → k ≤ 2147483646 → as_count (pos k) ≡ Ok k
count_of k h = ap (λ b. let r : Result ℕ Fault = cond b (Ok k) (Err TripCount) in r) (le-leb k 2147483646 h)

-- the quotient is the trip where the bounds are no larger than those of forms are
pub trip_is : (m1 m2 m3 : ℤ) (t : ℕ) → nat_abs m1 < 2 ^ 120 → nat_abs m2 < 2 ^ 120 → nat_abs m3 ≤ 2 ^ 40 → int_div ((m2 -ℤ m1) +ℤ m3) m3 ≡ pos t → t ≤ 2147483646
    → trip_count m1 m2 m3 ≡ Ok t
trip_is m1 m2 m3 t a b c q few =
    let d = abs-difference m1 m2 in
    let e = abs-sum (m2 -ℤ m1) m3 in
    let one : exact (m2 -ℤ m1) ≡ Ok (m2 -ℤ m1) = fitting (m2 -ℤ m1) (within_fits (m2 -ℤ m1) (omega (arith, a, b, d))) in
    let two : exact ((m2 -ℤ m1) +ℤ m3) ≡ Ok ((m2 -ℤ m1) +ℤ m3) = fitting ((m2 -ℤ m1) +ℤ m3) (within_fits ((m2 -ℤ m1) +ℤ m3) (omega (arith, a, b, c, d, e))) in
    let three : exact (int_div ((m2 -ℤ m1) +ℤ m3) m3) ≡ Ok (pos t) = ap exact q ∙ fitting (pos t) (within_fits (pos t) (omega (arith, few))) in
    after_ok (exact (m2 -ℤ m1)) (λ a. (do b ← exact (a +ℤ m3); q ← exact (int_div b m3); as_count q)) (m2 -ℤ m1) one
    ∙ (after_ok (exact ((m2 -ℤ m1) +ℤ m3)) (λ b. (do q ← exact (int_div b m3); as_count q)) ((m2 -ℤ m1) +ℤ m3) two
    ∙ (after_ok (exact (int_div ((m2 -ℤ m1) +ℤ m3) m3)) as_count (pos t) three ∙ count_of t few))

-- ---- increments

as_value : (r : Result Value Fault) (z : ℤ) → as_constant (known r) ≡ Some z → r ≡ Ok (Int z)
as_value (Ok (Int y)) z h = let same : y ≡ z = cc in ap (λ x. Ok (Int x)) same
as_value (Ok (Truth b)) z h = let no : ⊥ = cc in absurd no
as_value (Err f) z h = let no : ⊥ = cc in absurd no

not_zero_there : is_zero (pos 0) ≡ false → ⊥
not_zero_there h = cc

constant_step : (c : Expression) → is_zero (step_or_zero (step_of c)) ≡ false → value_of (fortran77 Plain) c no_store ≡ Ok (Int (step_or_zero (step_of c)))
constant_step c h = by (constant_of c) refl h
  where
    at : (z : ℤ) (b : Bool) → constant_of c ≡ Some z → is_zero (step_or_zero (cond b (Some z) None)) ≡ false → value_of (fortran77 Plain) c no_store ≡ Ok (Int (step_or_zero (cond b (Some z) None)))
    at z true e k = as_value (value_of (fortran77 Plain) c no_store) z e
    at z false e k = absurd (not_zero_there k)

    by : (o : Option ℤ) → constant_of c ≡ o → is_zero (step_or_zero (suitable_or_none o)) ≡ false → value_of (fortran77 Plain) c no_store ≡ Ok (Int (step_or_zero (suitable_or_none o)))
    by None e k = absurd (not_zero_there k)
    by (Some z) e k = at z (is_suitable_increment z) e k

-- a suitable increment has its number in every store
pub increment_is : (lang : Dialect) (c : Expression) (s : Store) → is_zero (step_or_zero (step_of c)) ≡ false → increment_of lang c s ≡ Ok (step_or_zero (step_of c))
increment_is lang c s h =
    ap (λ (r : Result Value Fault). do n ← (do v ← r; as_number v); (let q : Result ℤ Fault = cond (int_eq n (pos 0)) (Err ZeroStep) (Ok n) in q))
    (storeless lang s c (Int (step_or_zero (step_of c))) (constant_step c h))
    ∙ ap (λ (b : Bool). let q : Result ℤ Fault = cond b (Err ZeroStep) (Ok (step_or_zero (step_of c))) in q) h
