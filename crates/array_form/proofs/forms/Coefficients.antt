-- A linear form by one of its names: its coefficient, and the form without it.
use Rattle.std.proofs.Common.{◌≡◌, refl, sym, ap, ◌∙◌, subst, ℕ, zero, suc, ◌^◌, ◌≤◌, ℤ, pos, negsuc, ◌+ℤ◌, ◌*ℤ◌, Bool, true, false, cond, ◌&&◌, List, [], ◌∷◌, ◌++◌, map, drop, length, replicate, Option, Some, None, arith, nat_le, nat_abs}
use Rattle.std.specs.Ordering.{int_eq}
use Rattle.std.specs.Str.{bytes_eq}
use Rattle.std.proofs.lemmas.Bool.{leb-true, le-leb}
use Rattle.std.proofs.lemmas.Int.{ints}
use Rattle.std.proofs.lemmas.Slice.Eq.{bytes_eq-Decides}
use Rattle.std.proofs.Math.IntN.{zero-*ℤ, +ℤ_idl}
use mathlib.Core.Path.{ap₂}
use Rattle.tree.specs.Plain.{Expression, Number, Logic, Named, Unary, Binary, Apply, Constructor, Spread, Transpose, Reshape, Reduce, Subscripts, no_subscripts, subscript}
use Rattle.tree.specs.declared.ops.Op.{Op}
use Rattle.tree.specs.declared.ops.Op.TheVariants.{Mul, Neg, Add, Sub}
use Rattle.tree.specs.declared.ops.Value.TheVariants.{Int}
use Rattle.meaning.specs.Store.{Store, Cell, same_cell}
use Rattle.meaning.specs.Value.{bound_to}
use Rattle.meaning.proofs.Exchanges.{same_cell-same}
use Rattle.linear_forms.specs.Laws.{AreSized}
use Rattle.linear_forms.specs.Linear.{Form, weighted, number_at, HaveValues, added, multiple, is_small, all_small, not_zero, is_limited, limited, constant_of, with_zero, unit, with_no_constant, form_of_name, form_of_sign, form_of_product, form_of_two, form_of_pair, constant_or, linear, form_of}
use Rattle.linear_forms.proofs.Sizes.{both}
use Rattle.array_form.specs.forms.Loops.{is_among, coefficient, without, form_without}
use Rattle.array_form.specs.forms.Trips.{AreDistinct}

-- ---- no form has more places than there are names

abbrev pub Short : ℕ → Option Form → Type 0
Short n None = Unit {0}
Short n (Some f) = length f.coefficients ≤ n

short_limited : (n loops : ℕ) (o : Option Form) → Short n o → Short n (limited loops o)
short_limited n loops None h = tt
short_limited n loops (Some f) h = by (is_limited loops f)
  where
    by : (b : Bool) → Short n (cond b (Some f) None)
    by true = h
    by false = tt

short_constant : (n : ℕ) (c : Option ℤ) (o : Option Form) → Short n o → Short n (constant_or c o)
short_constant n (Some z) o h = omega arith
short_constant n None o h = h

short_map : (k : ℤ) (cs : List ℤ) → length (map (λ a. k *ℤ a) cs) ≡ length cs
short_map k [] = refl
short_map k (c ∷ cs) = ap (λ n. suc n) (short_map k cs)

short_multiple : (n : ℕ) (k : ℤ) (f : Form) → Short n (Some f) → Short n (Some (multiple k f))
short_multiple n k f h = let e = short_map k f.coefficients in omega (arith, e, h)

short_added : (n : ℕ) (cs ds : List ℤ) → length cs ≤ n → length ds ≤ n → length (added cs ds) ≤ n
short_added n [] ds h k = k
short_added n (c ∷ cs) [] h k = h
short_added zero (c ∷ cs) (d ∷ ds) h k = absurd (omega (arith, h))
short_added (suc n) (c ∷ cs) (d ∷ ds) h k = let m = short_added n cs ds (omega (arith, h)) (omega (arith, k)) in omega (arith, m)

short_sign : (n : ℕ) (o : Op) (r : Option Form) → Short n r → Short n (form_of_sign o r)
short_sign n Neg (Some f) h = short_multiple n (negsuc 0) f h
short_sign n _ _ h = tt

short_product : (n : ℕ) (k l : Option ℤ) (f g : Form) → Short n (Some f) → Short n (Some g) → Short n (form_of_product k l f g)
short_product n (Some k) l f g h i = short_multiple n k g i
short_product n None (Some l) f g h i = short_multiple n l f h
short_product n None None f g h i = tt

short_two : (n : ℕ) (o : Op) (k l : Option ℤ) (f g : Form) → Short n (Some f) → Short n (Some g) → Short n (form_of_two o k l f g)
short_two n Add k l f g h i = short_added n f.coefficients g.coefficients h i
short_two n Sub k l f g h i = short_added n f.coefficients (multiple (negsuc 0) g).coefficients h (short_multiple n (negsuc 0) g i)
short_two n Mul k l f g h i = short_product n k l f g h i
short_two n _ k l f g h i = tt

short_pair : (n : ℕ) (o : Op) (k l : Option ℤ) (r q : Option Form) → Short n r → Short n q → Short n (form_of_pair o k l r q)
short_pair n o k l (Some f) (Some g) h i = short_two n o k l f g h i
short_pair n o k l (Some f) None h i = tt
short_pair n o k l None q h i = tt

short_unit : (names : List (List ℕ)) (x : List ℕ) → Short (length names) (with_no_constant (unit names x))
short_unit [] x = tt
short_unit (y ∷ ys) x = by (bytes_eq y x) (unit ys x) (short_unit ys x)
  where
    by : (b : Bool) (o : Option (List ℤ)) → Short (length ys) (with_no_constant o) → Short (suc (length ys)) (with_no_constant (cond b (Some (pos 1 ∷ [])) (with_zero o)))
    by true o h = omega arith
    by false (Some cs) h = omega (arith, h)
    by false None h = tt

short_name : (names : List (List ℕ)) (x : List ℕ) (ps : Subscripts) → Short (length names) (form_of_name names x ps)
short_name names x no_subscripts = short_unit names x
short_name names x (subscript p ps) = tt

short_linear : (loops : ℕ) (names : List (List ℕ)) (e : Expression) → Short (length names) (linear loops names e)
short_linear loops names (Number n) = short_limited (length names) loops (constant_or (constant_of (Number n)) None) (short_constant (length names) (constant_of (Number n)) None tt)
short_linear loops names (Logic b) = tt
short_linear loops names (Named x ps) = short_limited (length names) loops (form_of_name names x ps) (short_name names x ps)
short_linear loops names (Unary o a) =
    let r = linear loops names a in
    short_limited (length names) loops (constant_or (constant_of (Unary o a)) (form_of_sign o r)) (short_constant (length names) (constant_of (Unary o a)) (form_of_sign o r) (short_sign (length names) o r (short_linear loops names a)))
short_linear loops names (Binary o a b) =
    let r = form_of_pair o (constant_of a) (constant_of b) (linear loops names a) (linear loops names b) in
    short_limited (length names) loops (constant_or (constant_of (Binary o a b)) r)
    (short_constant (length names) (constant_of (Binary o a b)) r (short_pair (length names) o (constant_of a) (constant_of b) (linear loops names a) (linear loops names b) (short_linear loops names a) (short_linear loops names b)))
short_linear loops names (Apply f es) = short_limited (length names) loops (constant_or (constant_of (Apply f es)) None) (short_constant (length names) (constant_of (Apply f es)) None tt)
short_linear loops names (Constructor es ls) = tt
short_linear loops names (Spread a k e) = tt
short_linear loops names (Transpose a) = tt
short_linear loops names (Reshape a es) = tt
short_linear loops names (Reduce r a) = tt

-- a form that was found is within the limits, and no longer than its names
pub record Found (loops symbols : List (List ℕ)) (f : Form) : Type 0 where
  pub limits : is_limited (length loops) f ≡ true
  pub short : length f.coefficients ≤ length (loops ++ symbols)

limits_of : (loops : ℕ) (o : Option Form) (f : Form) → limited loops o ≡ Some f → is_limited loops f ≡ true
limits_of loops None f h = absurd cc
limits_of loops (Some g) f h = by (is_limited loops g) refl h
  where
    by : (b : Bool) → is_limited loops g ≡ b → cond b (Some g) None ≡ Some f → is_limited loops f ≡ true
    by true e k = let same : g ≡ f = cc in subst (λ g. is_limited loops g ≡ true) same e
    by false e k = absurd cc

linear_limits : (loops : ℕ) (names : List (List ℕ)) (e : Expression) (f : Form) → linear loops names e ≡ Some f → is_limited loops f ≡ true
linear_limits loops names (Number n) f h = limits_of loops (constant_or (constant_of (Number n)) None) f h
linear_limits loops names (Logic b) f h = absurd cc
linear_limits loops names (Named x ps) f h = limits_of loops (form_of_name names x ps) f h
linear_limits loops names (Unary o a) f h = limits_of loops (constant_or (constant_of (Unary o a)) (form_of_sign o (linear loops names a))) f h
linear_limits loops names (Binary o a b) f h = limits_of loops (constant_or (constant_of (Binary o a b)) (form_of_pair o (constant_of a) (constant_of b) (linear loops names a) (linear loops names b))) f h
linear_limits loops names (Apply c es) f h = limits_of loops (constant_or (constant_of (Apply c es)) None) f h
linear_limits loops names (Constructor es ls) f h = absurd cc
linear_limits loops names (Spread a k e) f h = absurd cc
linear_limits loops names (Transpose a) f h = absurd cc
linear_limits loops names (Reshape a es) f h = absurd cc
linear_limits loops names (Reduce r a) f h = absurd cc

pub found_form : (loops symbols : List (List ℕ)) (e : Expression) (f : Form) → form_of loops symbols e ≡ Some f → Found loops symbols f
found_form loops symbols e f h = by (nat_le (length loops) 7) h
  where
    by : (b : Bool) → cond b (linear (length loops) (loops ++ symbols) e) None ≡ Some f → Found loops symbols f
    by true k = record {
      limits = linear_limits (length loops) (loops ++ symbols) e f k;
      short = subst (Short (length (loops ++ symbols))) k (short_linear (length loops) (loops ++ symbols) e);
    }
    by false k = absurd cc

-- ---- numbers with another value in one place

abbrev pub replaced : List (List ℕ) → List ℕ → ℤ → List ℤ → List ℤ
replaced [] x z xs = xs
replaced (y ∷ ys) x z [] = []
replaced (y ∷ ys) x z (v ∷ xs) = cond (bytes_eq y x) (z ∷ xs) (v ∷ replaced ys x z xs)

pub replaced_sized : (names : List (List ℕ)) (x : List ℕ) (z : ℤ) (xs : List ℤ) → nat_abs z ≤ 2 ^ 63 → AreSized xs → AreSized (replaced names x z xs)
replaced_sized [] x z xs h k = k
replaced_sized (y ∷ ys) x z [] h k = tt
replaced_sized (y ∷ ys) x z (v ∷ xs) h k = by (bytes_eq y x) (replaced_sized ys x z xs h k.1)
  where
    by : (b : Bool) → AreSized (replaced ys x z xs) → AreSized (cond b (z ∷ xs) (v ∷ replaced ys x z xs))
    by true more = (h, k.1)
    by false more = (k.0, more)

length_of_values : (names : List (List ℕ)) (s : Store) (xs : List ℤ) → HaveValues names s xs → length xs ≡ length names
length_of_values [] s [] h = refl
length_of_values (y ∷ ys) s (x ∷ xs) h = ap (λ n. suc n) (length_of_values ys s xs h.2)
length_of_values [] s (x ∷ xs) h = absurd h
length_of_values (y ∷ ys) s [] h = absurd h

pub as_long : (names : List (List ℕ)) (s : Store) (xs : List ℤ) → HaveValues names s xs → length xs ≡ length names
as_long = length_of_values

swap : (a b c : ℤ) → a +ℤ (b +ℤ c) ≡ b +ℤ (a +ℤ c)
swap a b c = omega (arith, ints)

at_nought : (z : ℤ) → pos 0 ≡ pos 0 *ℤ z +ℤ pos 0
at_nought z = sym (ap (λ w. w +ℤ pos 0) (zero-*ℤ z))

weighted_replaced : (names : List (List ℕ)) (x : List ℕ) (z : ℤ) (cs xs : List ℤ) → is_among names x ≡ true → length xs ≡ length names
    → weighted cs (replaced names x z xs) ≡ coefficient names x cs *ℤ z +ℤ weighted (without names x cs) xs
weighted_replaced [] x z cs xs m l = absurd cc
weighted_replaced (y ∷ ys) x z [] xs m l = at_nought z
weighted_replaced (y ∷ ys) x z (c ∷ cs) [] m l = absurd (omega (arith, l))
weighted_replaced (y ∷ ys) x z (c ∷ cs) (v ∷ xs) m l = by (bytes_eq y x) m (λ m. weighted_replaced ys x z cs xs m (omega (arith, l)))
  where
    by : (b : Bool) → cond b true (is_among ys x) ≡ true → (is_among ys x ≡ true → weighted cs (replaced ys x z xs) ≡ coefficient ys x cs *ℤ z +ℤ weighted (without ys x cs) xs)
        → weighted (c ∷ cs) (cond b (z ∷ xs) (v ∷ replaced ys x z xs)) ≡ cond b c (coefficient ys x cs) *ℤ z +ℤ weighted (cond b (pos 0 ∷ cs) (c ∷ without ys x cs)) (v ∷ xs)
    by true m more = ap (λ w. c *ℤ z +ℤ w) (sym (ap (λ w. w +ℤ weighted cs xs) (zero-*ℤ v) ∙ +ℤ_idl (weighted cs xs)))
    by false m more = ap (λ w. c *ℤ v +ℤ w) (more m) ∙ swap (c *ℤ v) (coefficient ys x cs *ℤ z) (weighted (without ys x cs) xs)

grouped : (a b c : ℤ) → (a +ℤ b) +ℤ c ≡ a +ℤ (b +ℤ c)
grouped a b c = omega (arith, ints)

-- a linear form in one of its names
pub number_replaced : (names : List (List ℕ)) (x : List ℕ) (z : ℤ) (f : Form) (xs : List ℤ) → is_among names x ≡ true → length xs ≡ length names
    → number_at f (replaced names x z xs) ≡ coefficient names x f.coefficients *ℤ z +ℤ number_at (form_without names x f) xs
number_replaced names x z f xs m l = ap (λ w. w +ℤ f.constant) (weighted_replaced names x z f.coefficients xs m l) ∙ grouped (coefficient names x f.coefficients *ℤ z) (weighted (without names x f.coefficients) xs) f.constant

-- and the names have these numbers, where the name is bound to its one
abbrev alone : List ℕ → Cell
alone x = record { name = x; subscripts = [] }

same_name_false : (x y : List ℕ) → bytes_eq y x ≡ false → same_cell (alone x) (alone y) ≡ false
same_name_false x y e = by (same_cell (alone x) (alone y)) refl
  where
    by : (b : Bool) → same_cell (alone x) (alone y) ≡ b → b ≡ false
    by false p = refl
    by true p =
        let same : y ≡ x = ap (λ (c : Cell). c.name) (sym (same_cell-same (alone x) (alone y) p)) in
        let both : false ≡ true = sym e ∙ (bytes_eq-Decides y x).1 same in absurd cc

same_name_true : (x y : List ℕ) → bytes_eq y x ≡ true → same_cell (record { name = x; subscripts = [] }) (record { name = y; subscripts = [] }) ≡ true
same_name_true x y e = ap (λ b. b && true) ((bytes_eq-Decides x y).1 (sym ((bytes_eq-Decides y x).0 e)))

others_have : (names : List (List ℕ)) (x : List ℕ) (z : ℤ) (s : Store) (xs : List ℤ) → is_among names x ≡ false → HaveValues names s xs → HaveValues names (bound_to x z s) xs
others_have [] x z s [] m h = tt
others_have [] x z s (v ∷ xs) m h = absurd h
others_have (y ∷ ys) x z s [] m h = absurd h
others_have (y ∷ ys) x z s (v ∷ xs) m h = by (bytes_eq y x) refl m (λ m. others_have ys x z s xs m h.2)
  where
    by : (b : Bool) → bytes_eq y x ≡ b → cond b true (is_among ys x) ≡ false → (is_among ys x ≡ false → HaveValues ys (bound_to x z s) xs) → HaveValues (y ∷ ys) (bound_to x z s) (v ∷ xs)
    by true e m more = absurd cc
    by false e m more = (h.0, ap (λ b. cond b (Int z) (s.held (alone y))) (same_name_false x y e) ∙ h.1, more m)

pub replaced_have : (names : List (List ℕ)) (x : List ℕ) (z : ℤ) (s : Store) (xs : List ℤ) → AreDistinct names → HaveValues names s xs → HaveValues names (bound_to x z s) (replaced names x z xs)
replaced_have [] x z s [] m h = tt
replaced_have [] x z s (v ∷ xs) m h = absurd h
replaced_have (y ∷ ys) x z s [] m h = absurd h
replaced_have (y ∷ ys) x z s (v ∷ xs) m h = by (bytes_eq y x) refl (replaced_have ys x z s xs m.1 h.2)
  where
    by : (b : Bool) → bytes_eq y x ≡ b → HaveValues ys (bound_to x z s) (replaced ys x z xs) → HaveValues (y ∷ ys) (bound_to x z s) (cond b (z ∷ xs) (v ∷ replaced ys x z xs))
    by true e more = (h.0, ap (λ b. cond b (Int z) (s.held (record { name = y; subscripts = [] }))) (same_name_true x y e), others_have ys x z s xs (subst (λ w. is_among ys w ≡ false) ((bytes_eq-Decides y x).0 e) m.0) h.2)
    by false e more = (h.0, ap (λ b. cond b (Int z) (s.held (record { name = y; subscripts = [] }))) (same_name_false x y e) ∙ h.1, more)

-- ---- the form without a name keeps the limits

without_small : (names : List (List ℕ)) (x : List ℕ) (cs : List ℤ) → all_small cs ≡ true → all_small (without names x cs) ≡ true
without_small [] x cs h = h
without_small (y ∷ ys) x [] h = refl
without_small (y ∷ ys) x (c ∷ cs) h = by (bytes_eq y x) (without_small ys x cs (both (is_small c) (all_small cs) h).1)
  where
    by : (b : Bool) → all_small (without ys x cs) ≡ true → all_small (cond b (pos 0 ∷ cs) (c ∷ without ys x cs)) ≡ true
    by true more = (both (is_small c) (all_small cs) h).1
    by false more = ap₂ (λ p q. p && q) (both (is_small c) (all_small cs) h).0 more

without_counts : (n : ℕ) (names : List (List ℕ)) (x : List ℕ) (cs : List ℤ) → not_zero (drop n (without names x cs)) ≤ not_zero (drop n cs)
without_counts n [] x cs = omega arith
without_counts n (y ∷ ys) x [] = omega arith
without_counts zero (y ∷ ys) x (c ∷ cs) = by (bytes_eq y x) (without_counts zero ys x cs)
  where
    fewer : (q : Bool) → not_zero cs ≤ cond q (not_zero cs) (suc (not_zero cs))
    fewer true = omega arith
    fewer false = omega arith

    more_of : (q : Bool) (m : ℕ) → m ≤ not_zero cs → cond q m (suc m) ≤ cond q (not_zero cs) (suc (not_zero cs))
    more_of true m h = h
    more_of false m h = omega (arith, h)

    by : (b : Bool) → not_zero (without ys x cs) ≤ not_zero cs → not_zero (cond b (pos 0 ∷ cs) (c ∷ without ys x cs)) ≤ not_zero (c ∷ cs)
    by true more = fewer (int_eq c (pos 0))
    by false more = more_of (int_eq c (pos 0)) (not_zero (without ys x cs)) more
without_counts (suc n) (y ∷ ys) x (c ∷ cs) = by (bytes_eq y x) (without_counts n ys x cs)
  where
    by : (b : Bool) → not_zero (drop n (without ys x cs)) ≤ not_zero (drop n cs) → not_zero (drop (suc n) (cond b (pos 0 ∷ cs) (c ∷ without ys x cs))) ≤ not_zero (drop n cs)
    by true more = omega arith
    by false more = more

pub without_limited : (loops : ℕ) (names : List (List ℕ)) (x : List ℕ) (f : Form) → is_limited loops f ≡ true → is_limited loops (form_without names x f) ≡ true
without_limited loops names x f h =
    let parts = both (all_small f.coefficients) (is_small f.constant && nat_le (not_zero (drop loops f.coefficients)) 8) h in
    let more = both (is_small f.constant) (nat_le (not_zero (drop loops f.coefficients)) 8) parts.1 in
    let eight = leb-true (not_zero (drop loops f.coefficients)) 8 more.1 in
    let fewer = without_counts loops names x f.coefficients in
    ap₂ (λ p q. p && q) (without_small names x f.coefficients parts.0)
    (ap₂ (λ p q. p && q) more.0 (le-leb (not_zero (drop loops (without names x f.coefficients))) 8 (omega (arith, eight, fewer))))

pub without_short : (names : List (List ℕ)) (x : List ℕ) (cs : List ℤ) → length (without names x cs) ≡ length cs
without_short [] x cs = refl
without_short (y ∷ ys) x [] = refl
without_short (y ∷ ys) x (c ∷ cs) = by (bytes_eq y x) (without_short ys x cs)
  where
    by : (b : Bool) → length (without ys x cs) ≡ length cs → length (cond b (pos 0 ∷ cs) (c ∷ without ys x cs)) ≡ suc (length cs)
    by true more = refl
    by false more = ap (λ n. suc n) more

pub coefficient_small : (names : List (List ℕ)) (x : List ℕ) (cs : List ℤ) → all_small cs ≡ true → is_small (coefficient names x cs) ≡ true
coefficient_small [] x cs h = refl
coefficient_small (y ∷ ys) x [] h = refl
coefficient_small (y ∷ ys) x (c ∷ cs) h = by (bytes_eq y x) (coefficient_small ys x cs (both (is_small c) (all_small cs) h).1)
  where
    by : (b : Bool) → is_small (coefficient ys x cs) ≡ true → is_small (cond b c (coefficient ys x cs)) ≡ true
    by true more = (both (is_small c) (all_small cs) h).0
    by false more = more

-- ---- one more place behind the names

pub weighted_front : (cs xs ys : List ℤ) → length cs ≤ length xs → weighted cs (xs ++ ys) ≡ weighted cs xs
weighted_front [] xs ys h = refl
weighted_front (c ∷ cs) [] ys h = absurd (omega (arith, h))
weighted_front (c ∷ cs) (x ∷ xs) ys h = ap (λ w. c *ℤ x +ℤ w) (weighted_front cs xs ys (omega (arith, h)))

pub weighted_last : (xs : List ℤ) (z : ℤ) → weighted (replicate (length xs) (pos 0) ++ pos 1 ∷ []) (xs ++ z ∷ []) ≡ z
weighted_last [] z = omega (arith, ints)
weighted_last (x ∷ xs) z = ap₂ (λ p q. p +ℤ q) (zero-*ℤ x) (weighted_last xs z) ∙ +ℤ_idl z
