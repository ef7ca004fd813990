-- Sums of terms, as texts of linear forms add them up.
use Rattle.std.proofs.Common.{◌≡◌, refl, sym, ap, ◌∙◌, subst, ℕ, zero, suc, ◌^◌, ◌<◌, ℤ, pos, negsuc, ◌+ℤ◌, ◌-ℤ◌, ◌*ℤ◌, neg_ℤ, Bool, true, false, cond, Result, Ok, Err, Option, Some, None, arith}
use Rattle.std.specs.Prelude.{nat_abs, ◌==◌}
use Rattle.std.proofs.lemmas.Bool.{eqb-true}
use Rattle.std.proofs.lemmas.Int.{ints}
use Rattle.std.proofs.Math.IntN.{+ℤ_idl}
use Rattle.linear_forms.proofs.Ring.{neg_times}
use Rattle.linear_forms.proofs.Sizes.{abs-product, within_fits}
use Rattle.linear_forms.specs.Expressed.{minus_term, plus_term, term, with_constant, with_term}
use Rattle.meaning.specs.Dialect.{Dialect}
use Rattle.meaning.specs.Store.{Store}
use Rattle.meaning.specs.Value.{value_of}
use Rattle.tree.specs.Operators.{apply, number}
use Rattle.tree.specs.Plain.{Binary, Expression, Number}
use Rattle.tree.specs.Steps as results
use Rattle.tree.specs.declared.ops.Fault.{Fault}
use Rattle.tree.specs.declared.ops.Fault.TheVariants.{Overflow}
use Rattle.tree.specs.declared.ops.Op.TheVariants.{Add, Mul, Neg, Sub}
use Rattle.tree.specs.declared.ops.Value.{Value}
use Rattle.tree.specs.declared.ops.Value.TheVariants.{Int}

-- ---- sums of terms

module _ (lang : Dialect) (u : Store) where
  abbrev pub Is : Expression → ℤ → Type 0
  Is e z = value_of lang e u ≡ Ok (Int z)

  -- what stands so far has the value p
  abbrev pub Sum : Option Expression → ℤ → Type 0
  Sum None p = p ≡ pos 0
  Sum (Some e) p = Is e p

  fitting : (z : ℤ) → nat_abs z < 2 ^ 127 → ◌≡◌ {A = Result Value Fault} (number z) (Ok (Int z))
  fitting z h = ap (λ b. cond b (Ok (Int z)) (Err Overflow)) (within_fits z h)

  two : (e f : Expression) (p q : ℤ) → Is e p → Is f q → nat_abs (p +ℤ q) < 2 ^ 127 → Is (Binary Add e f) (p +ℤ q)
  two e f p q h k n = ap (λ r. results.◌>>=◌ r (λ x. results.◌>>=◌ (value_of lang f u) (λ y. apply Add x y))) h ∙ (ap (λ r. results.◌>>=◌ r (λ y. apply Add (Int p) y)) k ∙ fitting (p +ℤ q) n)

  less : (e f : Expression) (p q : ℤ) → Is e p → Is f q → nat_abs (p -ℤ q) < 2 ^ 127 → Is (Binary Sub e f) (p -ℤ q)
  less e f p q h k n = ap (λ r. results.◌>>=◌ r (λ x. results.◌>>=◌ (value_of lang f u) (λ y. apply Sub x y))) h ∙ (ap (λ r. results.◌>>=◌ r (λ y. apply Sub (Int p) y)) k ∙ fitting (p -ℤ q) n)

  term_is : (n : ℕ) (t : Expression) (z : ℤ) → Is t z → nat_abs (pos n *ℤ z) < 2 ^ 127 → Is (term n t) (pos n *ℤ z)
  term_is n t z h k = by (n == 1) refl
    where
      by : (b : Bool) → (n == 1) ≡ b → Is (cond b t (Binary Mul (Number (pos n)) t)) (pos n *ℤ z)
      by true e = let one : n ≡ 1 = eqb-true n 1 e in let same : z ≡ pos 1 *ℤ z = omega (arith, ints) in h ∙ ap (λ w. Ok (Int w)) (same ∙ ap (λ n. pos n *ℤ z) (sym one))
      by false e = ap (λ r. results.◌>>=◌ r (λ y. apply Mul (Int (pos n)) y)) h ∙ fitting (pos n *ℤ z) k

  plus_is : (o : Option Expression) (p : ℤ) (t : Expression) (q : ℤ) → Sum o p → Is t q → nat_abs (p +ℤ q) < 2 ^ 127 → Is (plus_term o t) (p +ℤ q)
  plus_is None p t q h k n = k ∙ ap (λ w. Ok (Int w)) (sym (ap (λ p. p +ℤ q) h ∙ +ℤ_idl q))
  plus_is (Some e) p t q h k n = two e t p q h k n

  minus_is : (o : Option Expression) (p : ℤ) (t : Expression) (q : ℤ) → Sum o p → Is t q → nat_abs (p -ℤ q) < 2 ^ 127 → Is (minus_term o t) (p -ℤ q)
  minus_is None p t q h k n =
      let none : p -ℤ q ≡ neg_ℤ q = ap (λ p. p -ℤ q) h ∙ +ℤ_idl (neg_ℤ q) in
      ap (λ r. results.◌>>=◌ r (λ x. apply Neg x x)) k ∙ (fitting (neg_ℤ q) (subst (λ z. nat_abs z < 2 ^ 127) none n) ∙ ap (λ w. Ok (Int w)) (sym none))
  minus_is (Some e) p t q h k n = less e t p q h k n

  negated : (n : ℕ) (p z : ℤ) → p -ℤ pos (suc n) *ℤ z ≡ p +ℤ negsuc n *ℤ z
  negated n p z = ap (λ w. p +ℤ w) (sym (neg_times (pos (suc n)) z))

  pub with_term_is : (o : Option Expression) (p c : ℤ) (x : Expression) (z : ℤ) → Sum o p → Is x z → nat_abs (c *ℤ z) < 2 ^ 127 → nat_abs (p +ℤ c *ℤ z) < 2 ^ 127 → Sum (with_term o c x) (p +ℤ c *ℤ z)
  with_term_is o p (pos zero) x z h k m n =
      let same : p +ℤ pos 0 *ℤ z ≡ p = omega (arith, ints) in
      subst (λ q. Sum o q) (sym same) h
  with_term_is o p (pos (suc i)) x z h k m n = plus_is o p (term (suc i) x) (pos (suc i) *ℤ z) h (term_is (suc i) x z k m) n
  with_term_is o p (negsuc i) x z h k m n =
      let size : nat_abs (pos (suc i) *ℤ z) ≡ nat_abs (negsuc i *ℤ z) = abs-product (pos (suc i)) z ∙ sym (abs-product (negsuc i) z) in
      let other = negated i p z in
      minus_is o p (term (suc i) x) (pos (suc i) *ℤ z) h (term_is (suc i) x z k (subst (λ w. w < 2 ^ 127) (sym size) m)) (subst (λ w. nat_abs w < 2 ^ 127) (sym other) n)
      ∙ ap (λ w. Ok (Int w)) other

  pub constant_is : (o : Option Expression) (p k : ℤ) → Sum o p → nat_abs k < 2 ^ 127 → nat_abs (p +ℤ k) < 2 ^ 127 → Is (with_constant o k) (p +ℤ k)
  constant_is None p (pos i) h m n = ap (λ w. Ok (Int w)) (sym (ap (λ p. p +ℤ pos i) h ∙ +ℤ_idl (pos i)))
  constant_is None p (negsuc i) h m n = fitting (negsuc i) m ∙ ap (λ w. Ok (Int w)) (sym (ap (λ p. p +ℤ negsuc i) h ∙ +ℤ_idl (negsuc i)))
  constant_is (Some e) p (pos zero) h m n = let same : p ≡ p +ℤ pos 0 = omega (arith, ints) in h ∙ ap (λ w. Ok (Int w)) same
  constant_is (Some e) p (pos (suc i)) h m n = two e (Number (pos (suc i))) p (pos (suc i)) h refl n
  constant_is (Some e) p (negsuc i) h m n = less e (Number (pos (suc i))) p (pos (suc i)) h refl n
