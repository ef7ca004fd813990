-- The text form of a linear form has its number as its value.
use Rattle.std.proofs.Common.{◌≡◌, refl, sym, ap, ◌∙◌, subst, ℕ, zero, suc, ◌+◌, ◌*◌, ◌^◌, ◌≤◌, ◌<◌, ℤ, pos, negsuc, ◌+ℤ◌, ◌-ℤ◌, ◌*ℤ◌, neg_ℤ, Bool, true, false, cond, List, [], ◌∷◌, drop, Result, Ok, Err, Option, Some, None, arith}
use Rattle.std.specs.Prelude.{nat_abs, nat_le, ◌&&◌, ◌==◌}
use Rattle.std.specs.Ordering.{int_eq}
use Rattle.std.proofs.lemmas.Bool.{leb-true, eqb-true}
use Rattle.std.proofs.lemmas.Int.{ints}
use Rattle.std.proofs.Math.IntN.{zero-*ℤ, +ℤ_idl, +ℤ_assoc}
use Rattle.std.proofs.Math.Nat.{mul-le-mul_right, suc-mul}
use Rattle.tree.specs.Operators.{apply, number}
use Rattle.tree.specs.Steps.{◌>>=◌}
use Rattle.tree.specs.declared.ops.Op.TheVariants.{Mul, Neg, Add, Sub}
use Rattle.tree.specs.declared.ops.Fault.{Fault}
use Rattle.tree.specs.declared.ops.Fault.TheVariants.{Overflow}
use Rattle.tree.specs.declared.ops.Value.{Value}
use Rattle.tree.specs.declared.ops.Value.TheVariants.{Int}
use Rattle.tree.specs.Plain.{Expression, Number, Binary}
use Rattle.meaning.specs.Dialect.{Dialect}
use Rattle.meaning.specs.Store.{Store}
use Rattle.meaning.specs.Value.{value_of}
use Rattle.linear_forms.specs.Laws.{AreSized, EachHasValue, TextHasValue}
use Rattle.linear_forms.specs.Linear.{Form, weighted, number_at, is_small, all_small, not_zero, is_limited}
use Rattle.linear_forms.specs.Expressed.{term, plus_term, minus_term, with_term, with_terms, with_constant, expressed}
use Rattle.linear_forms.proofs.Sizes.{weighted-size, abs-sum, abs-product, smaller, both, within_fits, dropped}
use Rattle.std.proofs.lemmas.Bool.Decides.{Decides-int_eq}
use Rattle.linear_forms.proofs.Ring.{neg_times}

-- 1 where the coefficient isn't 0
abbrev counted : ℤ → ℕ
counted c = cond (int_eq c (pos 0)) 0 1

one_by_one : (c : ℤ) (cs : List ℤ) (b : ℕ) → not_zero (c ∷ cs) * b ≡ counted c * b + not_zero cs * b
one_by_one c cs b = by (int_eq c (pos 0))
  where
    by : (t : Bool) → cond t (not_zero cs) (suc (not_zero cs)) * b ≡ cond t 0 1 * b + not_zero cs * b
    by true = omega arith
    by false = suc-mul (not_zero cs) b ∙ omega arith

term-size : (c x : ℤ) → is_small c ≡ true → nat_abs x ≤ 2 ^ 63 → nat_abs (c *ℤ x) ≤ counted c * (2 ^ 40 * 2 ^ 63)
term-size c x h k = by (int_eq c (pos 0)) refl
  where
    by : (t : Bool) → int_eq c (pos 0) ≡ t → nat_abs (c *ℤ x) ≤ cond t 0 1 * (2 ^ 40 * 2 ^ 63)
    by true e = let none : c *ℤ x ≡ pos 0 = ap (λ c. c *ℤ x) ((Decides-int_eq c (pos 0)).0 e) ∙ zero-*ℤ x in subst (λ z. nat_abs z ≤ 0) (sym none) (omega arith)
    by false e =
        let part = smaller (nat_abs c) (2 ^ 40) (nat_abs x) (2 ^ 63) (leb-true (nat_abs c) (2 ^ 40) h) k in
        let same = abs-product c x in
        omega (arith, part, same)

module _ (lang : Dialect) (s : Store) where
  abbrev Is : Expression → ℤ → Type 0
  Is e z = value_of lang e s ≡ Ok (Int z)

  -- what stands so far has the value p
  abbrev Sum : Option Expression → ℤ → Type 0
  Sum None p = p ≡ pos 0
  Sum (Some e) p = Is e p

  -- each expression whose coefficient isn't 0 has its value
  abbrev pub EachIsWhere : List ℤ → List Expression → List ℤ → Type 0
  EachIsWhere [] ts xs = Unit {0}
  EachIsWhere (c ∷ cs) [] [] = Unit {0}
  EachIsWhere (c ∷ cs) (t ∷ ts) (x ∷ xs) = ((c ≡ pos 0 → ⊥) → Is t x) × EachIsWhere cs ts xs
  EachIsWhere (c ∷ cs) _ _ = ⊥

  pub each_where : (cs : List ℤ) (ts : List Expression) (xs : List ℤ) → EachHasValue lang ts s xs → EachIsWhere cs ts xs
  each_where [] ts xs h = tt
  each_where (c ∷ cs) [] [] h = tt
  each_where (c ∷ cs) (t ∷ ts) (x ∷ xs) h = (λ n. h.0, each_where cs ts xs h.1)
  each_where (c ∷ cs) [] (x ∷ xs) h = absurd h
  each_where (c ∷ cs) (t ∷ ts) [] h = absurd h

  fitting : (z : ℤ) → nat_abs z < 2 ^ 127 → ◌≡◌ {A = Result Value Fault} (number z) (Ok (Int z))
  fitting z h = ap (λ b. cond b (Ok (Int z)) (Err Overflow)) (within_fits z h)

  two : (o : ℤ → ℤ → ℤ) (e f : Expression) (p q : ℤ) → Is e p → Is f q → nat_abs (p +ℤ q) < 2 ^ 127 → Is (Binary Add e f) (p +ℤ q)
  two o e f p q h k n = ap (λ r. do x ← r; y ← value_of lang f s; apply Add x y) h ∙ (ap (λ r. do y ← r; apply Add (Int p) y) k ∙ fitting (p +ℤ q) n)

  less : (e f : Expression) (p q : ℤ) → Is e p → Is f q → nat_abs (p -ℤ q) < 2 ^ 127 → Is (Binary Sub e f) (p -ℤ q)
  less e f p q h k n = ap (λ r. do x ← r; y ← value_of lang f s; apply Sub x y) h ∙ (ap (λ r. do y ← r; apply Sub (Int p) y) k ∙ fitting (p -ℤ q) n)

  term-is : (n : ℕ) (t : Expression) (z : ℤ) → Is t z → nat_abs (pos n *ℤ z) < 2 ^ 127 → Is (term n t) (pos n *ℤ z)
  term-is n t z h k = by (n == 1) refl
    where
      by : (b : Bool) → (n == 1) ≡ b → Is (cond b t (Binary Mul (Number (pos n)) t)) (pos n *ℤ z)
      by true e = let one : n ≡ 1 = eqb-true n 1 e in let same : z ≡ pos 1 *ℤ z = omega (arith, ints) in h ∙ ap (λ w. Ok (Int w)) (same ∙ ap (λ n. pos n *ℤ z) (sym one))
      by false e = ap (λ r. do y ← r; apply Mul (Int (pos n)) y) h ∙ fitting (pos n *ℤ z) k

  plus-is : (o : Option Expression) (p : ℤ) (t : Expression) (q : ℤ) → Sum o p → Is t q → nat_abs (p +ℤ q) < 2 ^ 127 → Is (plus_term o t) (p +ℤ q)
  plus-is None p t q h k n = k ∙ ap (λ w. Ok (Int w)) (sym (ap (λ p. p +ℤ q) h ∙ +ℤ_idl q))
  plus-is (Some e) p t q h k n = two (λ p q. p) e t p q h k n

  minus-is : (o : Option Expression) (p : ℤ) (t : Expression) (q : ℤ) → Sum o p → Is t q → nat_abs (p -ℤ q) < 2 ^ 127 → Is (minus_term o t) (p -ℤ q)
  minus-is None p t q h k n =
      let nothing : p -ℤ q ≡ neg_ℤ q = ap (λ p. p -ℤ q) h ∙ +ℤ_idl (neg_ℤ q) in
      ap (λ r. do x ← r; apply Neg x x) k ∙ (fitting (neg_ℤ q) (subst (λ z. nat_abs z < 2 ^ 127) nothing n) ∙ ap (λ w. Ok (Int w)) (sym nothing))
  minus-is (Some e) p t q h k n = less e t p q h k n

  negated : (n : ℕ) (p z : ℤ) → p -ℤ pos (suc n) *ℤ z ≡ p +ℤ negsuc n *ℤ z
  negated n p z = ap (λ w. p +ℤ w) (sym (neg_times (pos (suc n)) z))

  with_term-is : (o : Option Expression) (p : ℤ) (c : ℤ) (x : Expression) (z : ℤ) → Sum o p → ((c ≡ pos 0 → ⊥) → Is x z) → nat_abs (c *ℤ z) < 2 ^ 127 → nat_abs (p +ℤ c *ℤ z) < 2 ^ 127 → Sum (with_term o c x) (p +ℤ c *ℤ z)
  with_term-is o p (pos zero) x z h k m n =
      let same : p +ℤ pos 0 *ℤ z ≡ p = omega (arith, ints) in
      subst (λ q. Sum o q) (sym same) h
  with_term-is o p (pos (suc i)) x z h k m n = plus-is o p (term (suc i) x) (pos (suc i) *ℤ z) h (term-is (suc i) x z (k (λ e. cc)) m) n
  with_term-is o p (negsuc i) x z h k m n =
      let size : nat_abs (pos (suc i) *ℤ z) ≡ nat_abs (negsuc i *ℤ z) = abs-product (pos (suc i)) z ∙ sym (abs-product (negsuc i) z) in
      let other = negated i p z in
      minus-is o p (term (suc i) x) (pos (suc i) *ℤ z) h (term-is (suc i) x z (k (λ e. cc)) (subst (λ w. w < 2 ^ 127) (sym size) m)) (subst (λ w. nat_abs w < 2 ^ 127) (sym other) n)
      ∙ ap (λ w. Ok (Int w)) other

  -- room is left for all terms to come
  with_terms-is : (room : ℕ) (o : Option Expression) (p : ℤ) (cs : List ℤ) (ts : List Expression) (xs : List ℤ) → EachIsWhere cs ts xs → AreSized xs → all_small cs ≡ true
      → Sum o p → nat_abs p + not_zero cs * (2 ^ 40 * 2 ^ 63) ≤ room → room < 2 ^ 127 → Sum (with_terms o cs ts) (p +ℤ weighted cs xs)
  with_terms-is room o p [] ts xs v z a h n r = let same : p +ℤ pos 0 ≡ p = omega (arith, ints) in subst (λ q. Sum o q) (sym same) h
  with_terms-is room o p (c ∷ cs) [] [] v z a h n r = let same : p +ℤ pos 0 ≡ p = omega (arith, ints) in subst (λ q. Sum o q) (sym same) h
  with_terms-is room o p (c ∷ cs) [] (x ∷ xs) v z a h n r = absurd v
  with_terms-is room o p (c ∷ cs) (y ∷ ys) [] v z a h n r = absurd v
  with_terms-is room o p (c ∷ cs) (y ∷ ys) (x ∷ xs) v z a h n r =
      let parts = both (is_small c) (all_small cs) a in
      let size : nat_abs (c *ℤ x) ≤ counted c * (2 ^ 40 * 2 ^ 63) = term-size c x parts.0 z.0 in
      let all : nat_abs p + (counted c * (2 ^ 40 * 2 ^ 63) + not_zero cs * (2 ^ 40 * 2 ^ 63)) ≤ room = subst (λ w. nat_abs p + w ≤ room) (one_by_one c cs (2 ^ 40 * 2 ^ 63)) n in
      let sum = abs-sum p (c *ℤ x) in
      let here = with_term-is o p c y x h v.0 (omega (arith, size, all, r)) (omega (arith, size, all, r, sum)) in
      let rest = with_terms-is room (with_term o c y) (p +ℤ c *ℤ x) cs ys xs v.1 z.1 parts.1 here (omega (arith, size, all, sum)) r in
      subst (λ w. Sum (with_terms (with_term o c y) cs ys) w) (+ℤ_assoc p (c *ℤ x) (weighted cs xs)) rest

  constant-is : (o : Option Expression) (p k : ℤ) → Sum o p → nat_abs k < 2 ^ 127 → nat_abs (p +ℤ k) < 2 ^ 127 → Is (with_constant o k) (p +ℤ k)
  constant-is None p (pos i) h m n = ap (λ w. Ok (Int w)) (sym (ap (λ p. p +ℤ pos i) h ∙ +ℤ_idl (pos i)))
  constant-is None p (negsuc i) h m n = fitting (negsuc i) m ∙ ap (λ w. Ok (Int w)) (sym (ap (λ p. p +ℤ negsuc i) h ∙ +ℤ_idl (negsuc i)))
  constant-is (Some e) p (pos zero) h m n = let same : p ≡ p +ℤ pos 0 = omega (arith, ints) in h ∙ ap (λ w. Ok (Int w)) same
  constant-is (Some e) p (pos (suc i)) h m n = two (λ p q. p) e (Number (pos (suc i))) p (pos (suc i)) h refl n
  constant-is (Some e) p (negsuc i) h m n = less e (Number (pos (suc i))) p (pos (suc i)) h refl n

  pub expressed_is_number : (loops : ℕ) → loops ≤ 7 → (terms : List Expression) (f : Form) (xs : List ℤ) → is_limited loops f ≡ true → EachIsWhere f.coefficients terms xs → AreSized xs
      → value_of lang (expressed terms f) s ≡ Ok (Int (number_at f xs))
  expressed_is_number loops few terms f xs h v z =
      let parts = both (all_small f.coefficients) (is_small f.constant && nat_le (not_zero (drop loops f.coefficients)) 8) h in
      let more = both (is_small f.constant) (nat_le (not_zero (drop loops f.coefficients)) 8) parts.1 in
      let count : not_zero f.coefficients ≤ 15 =
      let all = dropped loops f.coefficients in let eight = leb-true (not_zero (drop loops f.coefficients)) 8 more.1 in omega (arith, all, eight, few) in
      let most : not_zero f.coefficients * (2 ^ 40 * 2 ^ 63) ≤ 15 * (2 ^ 40 * 2 ^ 63) = mul-le-mul_right (2 ^ 40 * 2 ^ 63) count in
      let sums = with_terms-is (15 * (2 ^ 40 * 2 ^ 63)) None (pos 0) f.coefficients terms xs v z parts.0 refl (omega (arith, most)) (omega arith) in
      let whole : pos 0 +ℤ weighted f.coefficients xs ≡ weighted f.coefficients xs = +ℤ_idl (weighted f.coefficients xs) in
      let constant = leb-true (nat_abs f.constant) (2 ^ 40) more.0 in
      let size = weighted-size f.coefficients xs parts.0 z in
      let all = abs-sum (weighted f.coefficients xs) f.constant in
      constant-is (with_terms None f.coefficients terms) (weighted f.coefficients xs) f.constant (subst (λ w. Sum (with_terms None f.coefficients terms) w) whole sums)
      (omega (arith, constant)) (omega (arith, size, most, constant, all))

pub text_has_value : TextHasValue
text_has_value lang loops terms f s xs few h v z = expressed_is_number lang s loops few terms f xs h (each_where lang s f.coefficients terms xs v) z
