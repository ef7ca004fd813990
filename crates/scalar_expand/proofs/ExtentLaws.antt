-- Numbers of elements, extent by extent.
use Rattle.std.proofs.Common.{◌≡◌, refl, sym, ap, ◌∙◌, ℕ, zero, suc, ◌*◌, ◌≤◌, ◌<◌, ◌^◌, ℤ, pos, negsuc, Bool, true, false, cond, List, [], ◌∷◌, arith}
use Rattle.std.specs.Prelude.{nat_abs, nat_le, int_lt, ◌&&◌}
use Rattle.std.proofs.lemmas.Bool.{le-leb, lt-leb}
use Rattle.std.proofs.lemmas.Nat.{mul-le}
use Rattle.std.proofs.Math.Nat.{mul_assoc}
use Rattle.tree.specs.Limits.{most_array_elements}
use Rattle.nest.specs.declared.parts.Trip.{Trip}
use Rattle.last_values.specs.normal_forms.NormalLoops.{is_known, is_positive}
use Rattle.scalar_expand.specs.Extents.{known_extent, known_elements}

positive : (b : Bool) (z : ℤ) → (b && int_lt (pos 0) z) ≡ true → 1 ≤ nat_abs z
positive false z e = cc
positive true (pos zero) e = cc
positive true (pos (suc n)) e = omega arith
positive true (negsuc n) e = cc

some_extent : (t : Trip) → 1 ≤ known_extent t
some_extent t = by (is_positive t) refl
  where
    by : (b : Bool) → is_positive t ≡ b → 1 ≤ cond b (nat_abs t.top.constant) 1
    by true e = positive (is_known t) t.top.constant e
    by false e = omega arith

pub some_elements : (ts : List Trip) → 1 ≤ known_elements ts
some_elements [] = omega arith
some_elements (t ∷ ts) = mul-le 1 1 (known_extent t) (known_elements ts) (some_extent t) (some_elements ts)

pub counted_none : (e : ℕ) (ts : List Trip) → ts ≡ [] → e ≤ most_array_elements → nat_le (e * known_elements ts) most_array_elements ≡ true
counted_none e ts h l =
    let one : e * 1 ≡ e = omega arith in
    ap (λ us. nat_le (e * known_elements us) most_array_elements) h ∙ (ap (λ n. nat_le n most_array_elements) one ∙ le-leb e most_array_elements l)

pub counted_over : (e : ℕ) (t : Trip) (ts us : List Trip) → us ≡ t ∷ ts → most_array_elements < e * known_extent t → nat_le (e * known_elements us) most_array_elements ≡ false
counted_over e t ts us h l =
    let some : (e * known_extent t) * 1 ≤ (e * known_extent t) * known_elements ts = mul-le (e * known_extent t) 1 (e * known_extent t) (known_elements ts) (omega arith) (some_elements ts) in
    let same = mul_assoc e (known_extent t) (known_elements ts) in
    ap (λ us. nat_le (e * known_elements us) most_array_elements) h ∙ lt-leb (e * (known_extent t * known_elements ts)) most_array_elements (omega (arith, l, some, same))

pub counted_more : (e : ℕ) (t : Trip) (ts us : List Trip) → us ≡ t ∷ ts → nat_le ((e * known_extent t) * known_elements ts) most_array_elements ≡ nat_le (e * known_elements us) most_array_elements
counted_more e t ts us h =
    ap (λ n. nat_le n most_array_elements) (mul_assoc e (known_extent t) (known_elements ts)) ∙ sym (ap (λ us. nat_le (e * known_elements us) most_array_elements) h)

pub counted_fits : (e f : ℕ) → e ≤ most_array_elements → f < 2 ^ 64 → e * f < 2 ^ 128
counted_fits e f h l =
    let most = mul-le e f (2 ^ 22) (2 ^ 64) h (omega (arith, l)) in
    omega (arith, most)

pub ruleset count_laws = (counted_none, counted_over, counted_more, counted_fits)
