-- What can be decided.
use Rattle.std.proofs.Common.{◌≡◌, ◌⊎◌, inl, inr, ℕ, ◌<◌, ◌≤◌, ℤ, Bool, true, false, IsTrue, IsSomeAnd, Option, None, Some, List, [], ◌∷◌, refl, sym, ap, ◌∙◌, arith, Contains}
use Rattle.std.specs.Prelude.{FitsSigned}
use Rattle.std.specs.Bool.{Decides}
use Rattle.std.specs.Int.{w64}
use Rattle.std.specs.List.{AllByRecursion}
use Rattle.std.specs.Str.{bytes_eq}
use Rattle.std.proofs.lemmas.Bool.Decides.{Decides-eqb, leb_tells}
use Rattle.std.proofs.lemmas.Slice.Eq.{bytes_eq-Decides}
use Rattle.std.specs.Prelude.{◌==◌}
use Rattle.tree.specs.declared.ops.Kind.{Kind}
use Rattle.tree.specs.declared.ops.Kind.TheVariants.{Integer, Logical}
use Rattle.tree.specs.Plain.{Extent, Given, Later}
use Rattle.f90_laws.proofs.readings.Lists.{cases_of, here, there, nowhere}

abbrev pub Decided : Type 0 → Type 0
Decided P = P ⊎ (P → ⊥)

pub like : {P Q : Type 0} → (P → Q) → (Q → P) → Decided P → Decided Q
like f g (inl p) = inl (f p)
like f g (inr n) = inr (λ q. n (g q))

pub both : {P Q : Type 0} → Decided P → Decided Q → Decided (P × Q)
both (inl p) (inl q) = inl (p, q)
both (inl p) (inr n) = inr (λ h. n h.1)
both (inr n) q = inr (λ h. n h.0)

pub either : {P Q : Type 0} → Decided P → Decided Q → Decided (P ⊎ Q)
either (inl p) q = inl (inl p)
either (inr m) (inl q) = inl (inr q)
either (inr m) (inr n) = inr (neither m n)
  where
    neither : {P Q : Type 0} → (P → ⊥) → (Q → ⊥) → P ⊎ Q → ⊥
    neither m n (inl p) = m p
    neither m n (inr q) = n q

pub three : {P Q R : Type 0} → Decided P → Decided Q → Decided R → Decided (P × Q × R)
three p q r = like (λ h. (h.0, h.1.0, h.1.1)) (λ h. (h.0, (h.1, h.2))) (both p (both q r))

pub four : {P Q R S : Type 0} → Decided P → Decided Q → Decided R → Decided S → Decided (P × Q × R × S)
four p q r s = like (λ h. (h.0, h.1.0, h.1.1.0, h.1.1.1)) (λ h. (h.0, (h.1, (h.2, h.3)))) (both p (both q (both r s)))

pub negated : {P : Type 0} → Decided P → Decided (P → ⊥)
negated (inl p) = inr (λ n. n p)
negated (inr n) = inl n

-- what isn't false
pub affirmed : {P : Type 0} → Decided P → ((P → ⊥) → ⊥) → P
affirmed (inl p) h = p
affirmed (inr n) h = absurd (h n)

pub decided_by : {P : Type 0} → (b : Bool) → Decides b P → Decided P
decided_by true d = inl (d.0 refl)
decided_by false d = inr (λ p. not_true (d.1 p))
  where
    not_true : false ≡ true → ⊥
    not_true e = cc

pub is_true : (b : Bool) → Decided (IsTrue b)
is_true true = inl refl
is_true false = inr (λ e. cc)

pub same_number : (m n : ℕ) → Decided (m ≡ n)
same_number m n = decided_by (m == n) (Decides-eqb m n)

pub at_most : (m n : ℕ) → Decided (m ≤ n)
at_most m n = by (leb_tells m n)
  where
    by : {A B : Type 0} → (A × (m ≤ n)) ⊎ (B × (n < m)) → Decided (m ≤ n)
    by (inl h) = inl h.1
    by (inr h) = let less = h.1 in inr (λ le. omega arith)

pub below : (m n : ℕ) → Decided (m < n)
below m n = by (at_most n m)
  where
    by : Decided (n ≤ m) → Decided (m < n)
    by (inl h) = inr (λ less. omega arith)
    by (inr h) = inl (grind arith)

pub same_kind : (j k : Kind) → Decided (j ≡ k)
same_kind Integer Integer = inl refl
same_kind Logical Logical = inl refl
same_kind Integer Logical = inr (λ e. cc)
same_kind Logical Integer = inr (λ e. cc)

pub some_and : {A : Type 0} → (o : Option A) (P : A → Type 0) → ((x : A) → Decided (P x)) → Decided (IsSomeAnd o P)
some_and None P f = inr (λ h. h)
some_and (Some x) P f = f x

pub is_none : {A : Type 0} → (o : Option A) → Decided (o ≡ None)
is_none None = inl refl
is_none (Some x) = inr (λ e. cc)

pub same_later : (e : Extent) (n : ℕ) → Decided (e ≡ Later n)
same_later (Given bs) n = inr (λ e. cc)
same_later (Later m) n = like (λ e. ap Later e) (λ e. cc) (same_number m n)

pub all_of : {A : Type 0} → (P : A → Type 0) → ((x : A) → Decided (P x)) → (xs : List A) → Decided (AllByRecursion P xs)
all_of P f [] = inl tt
all_of P f (x ∷ xs) = both (f x) (all_of P f xs)

pub same_name : (x y : List ℕ) → Decided (x ≡ y)
same_name x y = decided_by (bytes_eq x y) (bytes_eq-Decides x y)

pub contains : {A : Type 0} → ((x y : A) → Decided (x ≡ y)) → (xs : List A) (x : A) → Decided (Contains xs x)
contains f [] x = inr (nowhere x)
contains f (y ∷ ys) x = by (f y x) (contains f ys x)
  where
    found : y ≡ x → Contains (y ∷ ys) x
    found e = (0, omega arith, e)

    neither : (y ≡ x → ⊥) → (Contains ys x → ⊥) → (y ≡ x) ⊎ Contains ys x → ⊥
    neither m n (inl e) = m e
    neither m n (inr c) = n c

    by : Decided (y ≡ x) → Decided (Contains ys x) → Decided (Contains (y ∷ ys) x)
    by (inl e) c = inl (found e)
    by (inr m) (inl c) = inl (there y ys x c)
    by (inr m) (inr n) = inr (λ c. neither m n (cases_of y ys x c))
