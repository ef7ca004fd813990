-- The affine form of a trip as a linear form over more loops: its limits and its number.
use Rattle.std.proofs.Common.{◌≡◌, refl, sym, ap, ap₂, ◌∙◌, subst, ℕ, zero, suc, ◌+◌, ◌-◌, ◌^◌, ◌<◌, ◌≤◌, nat_abs, ℤ}
use Rattle.std.proofs.Common.{pos, ◌+ℤ◌, ◌*ℤ◌, Bool, true, false, cond, ◌&&◌, List, [], ◌∷◌, ◌++◌, take, drop, length}
use Rattle.std.proofs.Common.{get_or, replicate, append-nil, arith}
use Rattle.std.specs.Prelude.{All}
use Rattle.std.specs.Ordering.{int_eq}
use Rattle.std.specs.Str.{bytes_eq}
use Rattle.std.proofs.lemmas.Bool.{le-leb}
use Rattle.std.proofs.lemmas.Int.{ints}
use Rattle.std.proofs.lemmas.List.{length-append, length-take}
use Rattle.std.proofs.lemmas.Slice.Eq.{bytes_eq-Decides}
use Rattle.array_form.proofs.AffineLaws.{affine_of_form}
use Rattle.array_form.specs.forms.Loops.{coefficient, is_among}
use Rattle.array_form.specs.forms.Trips.{AreDistinct}
use Rattle.dependence_graph.proofs.dep_graph.FormValues.{affine_value}
use Rattle.linear_forms.specs.Linear.{all_small, is_limited, is_small, not_zero, number_at}
use Rattle.nest_order.specs.facts.Facts.{values_from}
use Rattle.dependence_graph.specs.nest_graph.Touched as touched
use Rattle.array_form.specs.holds.Surroundings.{coefficients_from, form_of_affine}
use Rattle.subscripts.specs.Forms.{over_loops, over_symbols, value_at}
use Rattle.subscripts.specs.Shapes.{IsForm, IsSmall}
use Rattle.subscripts.specs.declared.affine.Affine.{Affine}

-- ---- limits

small_of : (z : ℤ) → IsSmall z → is_small z ≡ true
small_of z h = le-leb (nat_abs z) (2 ^ 40) (omega (arith, ints))

all_small_of : (cs : List ℤ) → All IsSmall cs → all_small cs ≡ true
all_small_of [] h = refl
all_small_of (c ∷ cs) h = ap₂ (λ a b. a && b) (small_of c (h 0 c (omega arith))) (all_small_of cs (λ k d g. h (suc k) d (omega arith)))

small_parts : (a b : Bool) → (a && b) ≡ true → (a ≡ true) × (b ≡ true)
small_parts true b h = (refl, h)
small_parts false b h = cc

small_taken : (n : ℕ) (cs : List ℤ) → all_small cs ≡ true → all_small (take n cs) ≡ true
small_taken zero cs h = refl
small_taken (suc n) [] h = refl
small_taken (suc n) (c ∷ cs) h = let p = small_parts (is_small c) (all_small cs) h in ap₂ (λ a b. a && b) p.0 (small_taken n cs p.1)

small_joined : (xs ys : List ℤ) → all_small xs ≡ true → all_small ys ≡ true → all_small (xs ++ ys) ≡ true
small_joined [] ys h g = g
small_joined (x ∷ xs) ys h g = let p = small_parts (is_small x) (all_small xs) h in ap₂ (λ a b. a && b) p.0 (small_joined xs ys p.1 g)

small_zeros : (m : ℕ) → all_small (replicate m (pos 0)) ≡ true
small_zeros zero = refl
small_zeros (suc m) = small_zeros m

small_coefficients : (o : ℕ) (ts : List (ℕ × ℤ)) → All (λ (t : ℕ × ℤ). IsSmall t.1) ts → all_small (coefficients_from o ts) ≡ true
small_coefficients o [] h = refl
small_coefficients o (t ∷ ts) h = by (int_eq t.1 (pos 0)) (small_coefficients (suc t.0) ts (λ k d g. h (suc k) d (omega arith)))
  where
    by : (b : Bool) → all_small (coefficients_from (suc t.0) ts) ≡ true → all_small (cond b [] (replicate (t.0 - o) (pos 0) ++ t.1 ∷ coefficients_from (suc t.0) ts)) ≡ true
    by true more = refl
    by false more = small_joined (replicate (t.0 - o) (pos 0)) (t.1 ∷ coefficients_from (suc t.0) ts) (small_zeros (t.0 - o)) (ap₂ (λ a b. a && b) (small_of t.1 (h 0 t (omega arith))) more)

no_zeros : (m : ℕ) (cs : List ℤ) → not_zero (replicate m (pos 0) ++ cs) ≡ not_zero cs
no_zeros zero cs = refl
no_zeros (suc m) cs = no_zeros m cs

one_more_at_most : (b : Bool) (k : ℕ) → cond b k (suc k) ≤ suc k
one_more_at_most true k = omega arith
one_more_at_most false k = omega arith

few_coefficients : (o : ℕ) (ts : List (ℕ × ℤ)) → not_zero (coefficients_from o ts) ≤ length ts
few_coefficients o [] = omega arith
few_coefficients o (t ∷ ts) = by (int_eq t.1 (pos 0)) (few_coefficients (suc t.0) ts)
  where
    by : (b : Bool) → not_zero (coefficients_from (suc t.0) ts) ≤ length ts → not_zero (cond b [] (replicate (t.0 - o) (pos 0) ++ t.1 ∷ coefficients_from (suc t.0) ts)) ≤ suc (length ts)
    by true more = omega arith
    by false more =
        let e = no_zeros (t.0 - o) (t.1 ∷ coefficients_from (suc t.0) ts) in
        let f = one_more_at_most (int_eq t.1 (pos 0)) (not_zero (coefficients_from (suc t.0) ts)) in
        let g : not_zero (t.1 ∷ coefficients_from (suc t.0) ts) ≤ suc (not_zero (coefficients_from (suc t.0) ts)) = f in
        omega arith

rest_of : (n : ℕ) (xs ys : List ℤ) → n ≤ length xs → drop n (take n xs ++ ys) ≡ ys
rest_of zero xs ys h = refl
rest_of (suc n) [] ys h = absurd (omega arith)
rest_of (suc n) (x ∷ xs) ys h = rest_of n xs ys (omega arith)

pub limited_form : (n depth : ℕ) (a : Affine) → n ≤ length a.loops → length a.syms ≤ 8 → IsForm depth a → is_limited n (form_of_affine n a) ≡ true
limited_form n depth a long few h =
    let behind = coefficients_from 0 a.syms in
    let count : not_zero (drop n (take n a.loops ++ behind)) ≤ 8 = subst (λ cs. not_zero cs ≤ 8) (sym (rest_of n a.loops behind long)) (let e = few_coefficients 0 a.syms in omega arith) in
    ap₂ (λ b c. b && c) (small_joined (take n a.loops) behind (small_taken n a.loops (all_small_of a.loops h.small_loops)) (small_coefficients 0 a.syms h.small_symbols))
    (ap₂ (λ b c. b && c) (small_of a.constant h.small_constant) (le-leb (not_zero (drop n (take n a.loops ++ behind))) 8 count))

pub short_form : (n k : ℕ) (a : Affine) → length (coefficients_from 0 a.syms) ≤ k → length (form_of_affine n a).coefficients ≤ n + k
short_form n k a h = let e = length-append (take n a.loops) (coefficients_from 0 a.syms) in let f = length-take n a.loops in omega arith

-- ---- numbers

pub values_same : (v : ℕ → ℤ) (k : ℕ) (xs : List (List ℕ)) → touched.symbol_values_from v k xs ≡ values_from v k xs
values_same v k [] = refl
values_same v k (x ∷ xs) = ap (λ vs. v k ∷ vs) (values_same v (suc k) xs)

pub number_of_form : (n depth : ℕ) (a : Affine) (symbols : List (List ℕ)) (v : ℕ → ℤ) (xs : List ℤ) → depth ≤ n → n ≤ 7 → length a.loops ≡ 7 → length a.syms ≡ 8 → IsForm depth a
    → length (coefficients_from 0 a.syms) ≤ length symbols → length xs ≡ n → number_at (form_of_affine n a) (xs ++ values_from v 0 symbols) ≡ value_at a v xs
number_of_form n depth a symbols v xs deep few seven eight h short long =
    let wider : IsForm n a = record { past_depth = λ k g. h.past_depth k (omega arith); symbols = h.symbols; small_loops = h.small_loops; small_symbols = h.small_symbols; small_constant = h.small_constant } in
    let affine = affine_of_form n a few seven eight wider in
    let size = short_form n (length symbols) a short in
    sym (affine_value (form_of_affine n a) a symbols v xs [] (subst (λ m. Rattle.linear_forms.specs.Affines.IsAffineOf m (form_of_affine n a) a) (sym long) affine) (omega arith)
    ∙ ap (λ vs. number_at (form_of_affine n a) (xs ++ vs)) (values_same v 0 symbols))
    ∙ ap (value_at a v) (append-nil xs)

over_none : (cs xs : List ℤ) → ((k : ℕ) → get_or cs k (pos 0) ≡ pos 0) → over_loops cs xs ≡ pos 0
over_none [] xs h = refl
over_none (c ∷ cs) [] h = refl
over_none (c ∷ cs) (x ∷ xs) h = ap₂ (λ a r. a *ℤ x +ℤ r) (h 0) (over_none cs xs (λ k. h (suc k))) ∙ nought x
  where
    nought : (x : ℤ) → pos 0 *ℤ x +ℤ pos 0 ≡ pos 0
    nought x = omega (arith, ints)

over_front : (cs xs us : List ℤ) → ((k : ℕ) → length xs ≤ k → get_or cs k (pos 0) ≡ pos 0) → over_loops cs (xs ++ us) ≡ over_loops cs xs
over_front [] xs us h = refl
over_front (c ∷ cs) [] us h = over_none (c ∷ cs) us (λ k. h k (omega arith))
over_front (c ∷ cs) (x ∷ xs) us h = ap (λ r. c *ℤ x +ℤ r) (over_front cs xs us (λ k g. h (suc k) (omega arith)))

-- no loop behind the first ones has a coefficient
pub value_by_front : (a : Affine) (v : ℕ → ℤ) (xs us : List ℤ) → ((k : ℕ) → length xs ≤ k → get_or a.loops k (pos 0) ≡ pos 0) → value_at a v (xs ++ us) ≡ value_at a v xs
value_by_front a v xs us h = ap (λ r. r +ℤ (over_symbols a.syms v +ℤ a.constant)) (over_front a.loops xs us h)

-- ---- coefficients by names

other_name : (ys : List (List ℕ)) (y : List ℕ) (k : ℕ) → is_among ys y ≡ false → k < length ys → ¬ (y ≡ get_or ys k [])
other_name [] y k h g e = absurd (omega arith)
other_name (z ∷ ys) y k h g e = by (bytes_eq z y) refl k h g e (other_name ys y)
  where
    by : (b : Bool) → bytes_eq z y ≡ b → (k : ℕ) → cond b true (is_among ys y) ≡ false → k < suc (length ys) → y ≡ get_or (z ∷ ys) k []
        → ((j : ℕ) → is_among ys y ≡ false → j < length ys → ¬ (y ≡ get_or ys j [])) → ⊥
    by true p k h g e more = cc
    by false p zero h g e more = let q = (bytes_eq-Decides z y).1 (sym e) in cc
    by false p (suc k) h g e more = more k h (omega arith) e

pub coefficient_at : (names : List (List ℕ)) (cs : List ℤ) (k : ℕ) → AreDistinct names → k < length names → coefficient names (get_or names k []) cs ≡ get_or cs k (pos 0)
coefficient_at [] cs k d h = absurd (omega arith)
coefficient_at (y ∷ ys) [] k d h = refl
coefficient_at (y ∷ ys) (c ∷ cs) zero d h = ap (λ b. cond b c (coefficient ys y cs)) ((bytes_eq-Decides y y).1 refl)
coefficient_at (y ∷ ys) (c ∷ cs) (suc k) d h = by (bytes_eq y (get_or ys k [])) refl (coefficient_at ys cs k d.1 (omega arith))
  where
    by : (b : Bool) → bytes_eq y (get_or ys k []) ≡ b → coefficient ys (get_or ys k []) cs ≡ get_or cs k (pos 0) → cond b c (coefficient ys (get_or ys k []) cs) ≡ get_or cs k (pos 0)
    by true e more = absurd (other_name ys y k d.0 (omega arith) ((bytes_eq-Decides y (get_or ys k [])).0 e))
    by false e more = more

-- no name has two places
pub one_place : (names : List (List ℕ)) (i j : ℕ) → AreDistinct names → i < length names → j < length names → get_or names i [] ≡ get_or names j [] → i ≡ j
one_place [] i j d h g e = absurd (omega arith)
one_place (y ∷ ys) zero zero d h g e = refl
one_place (y ∷ ys) zero (suc j) d h g e = absurd (other_name ys y j d.0 (omega arith) e)
one_place (y ∷ ys) (suc i) zero d h g e = absurd (other_name ys y i d.0 (omega arith) (sym e))
one_place (y ∷ ys) (suc i) (suc j) d h g e = ap suc (one_place ys i j d.1 (omega arith) (omega arith) e)
