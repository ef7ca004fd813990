-- Numbers of forms over lists with one number other than 0, and over lists in two parts.
use Rattle.std.proofs.Common.{◌≡◌, refl, sym, ap, ◌∙◌, ℕ, zero, suc, ◌+◌, ◌<◌, ℤ, pos, ◌+ℤ◌, ◌*ℤ◌, Bool, true, false, cond, List, [], ◌∷◌, ◌++◌, take, drop, length, get_or, replicate, arith}
use Rattle.std.specs.Ordering.{int_eq}
use Rattle.std.proofs.lemmas.Bool.Decides.{Decides-int_eq}
use Rattle.std.proofs.lemmas.Int.{ints}
use Rattle.std.proofs.Math.IntN.{*ℤ-zero, zero-*ℤ, +ℤ_idl}
use Rattle.linear_forms.specs.Linear.{weighted, number_at, not_zero}
use Rattle.linear_forms.specs.Places.{unit_form}
use Rattle.find_nests.specs.bound_limits.Composed.{filled}

abbrev pub At : List ℤ → ℕ → ℤ
At cs j = get_or cs j (pos 0)

pub nothing_weighted : (cs : List ℤ) → weighted cs [] ≡ pos 0
nothing_weighted [] = refl
nothing_weighted (c ∷ cs) = refl

no_part : (x z : ℤ) → pos 0 *ℤ x +ℤ z ≡ z
no_part x z = ap (λ w. w +ℤ z) (zero-*ℤ x) ∙ +ℤ_idl z

no_factor : (c z : ℤ) → c *ℤ pos 0 +ℤ z ≡ z
no_factor c z = ap (λ w. w +ℤ z) (*ℤ-zero c) ∙ +ℤ_idl z

-- ---- zeros, and a one among them

abbrev pub zeros : ℕ → List ℤ
zeros zero = []
zeros (suc n) = pos 0 ∷ zeros n

abbrev pub one_at : ℕ → ℕ → List ℤ
one_at zero i = []
one_at (suc n) zero = pos 1 ∷ zeros n
one_at (suc n) (suc i) = pos 0 ∷ one_at n i

pub zeros_length : (n : ℕ) → length (zeros n) ≡ n
zeros_length zero = refl
zeros_length (suc n) = ap suc (zeros_length n)

pub one_length : (n i : ℕ) → length (one_at n i) ≡ n
one_length zero i = refl
one_length (suc n) zero = ap suc (zeros_length n)
one_length (suc n) (suc i) = ap suc (one_length n i)

pub zeros_weighted : (cs : List ℤ) (n : ℕ) → weighted cs (zeros n) ≡ pos 0
zeros_weighted [] n = refl
zeros_weighted (c ∷ cs) zero = refl
zeros_weighted (c ∷ cs) (suc n) = no_factor c (weighted cs (zeros n)) ∙ zeros_weighted cs n

pub one_weighted : (cs : List ℤ) (n i : ℕ) → i < n → weighted cs (one_at n i) ≡ At cs i
one_weighted [] n i h = refl
one_weighted (c ∷ cs) zero i h = absurd (omega (arith, h))
one_weighted (c ∷ cs) (suc n) zero h = ap (λ z. c *ℤ pos 1 +ℤ z) (zeros_weighted cs n) ∙ alone c
  where
    alone : (c : ℤ) → c *ℤ pos 1 +ℤ pos 0 ≡ c
    alone c = omega (arith, ints)
one_weighted (c ∷ cs) (suc n) (suc i) h = no_factor c (weighted cs (one_at n i)) ∙ one_weighted cs n i (omega (arith, h))

-- ---- two parts

pub parted : (n : ℕ) (us : List ℤ) → take n us ++ drop n us ≡ us
parted zero us = refl
parted (suc n) [] = refl
parted (suc n) (u ∷ us) = ap (λ zs. u ∷ zs) (parted n us)

pub front_length : (n m : ℕ) (us : List ℤ) → length us ≡ n + m → length (take n us) ≡ n
front_length zero m us e = refl
front_length (suc n) m [] e = absurd (omega (arith, e))
front_length (suc n) m (u ∷ us) e = ap suc (front_length n m us (omega (arith, e)))

pub rest_length : (n m : ℕ) (us : List ℤ) → length us ≡ n + m → length (drop n us) ≡ m
rest_length zero m us e = omega (arith, e)
rest_length (suc n) m [] e = absurd (omega (arith, e))
rest_length (suc n) m (u ∷ us) e = rest_length n m us (omega (arith, e))

-- ---- coefficients that are put in front of others

pub filled_weighted : (n : ℕ) (cs xs ys : List ℤ) → length xs ≡ n → weighted (filled n cs) (xs ++ ys) ≡ weighted cs xs
filled_weighted zero cs [] ys e = sym (nothing_weighted cs)
filled_weighted zero cs (x ∷ xs) ys e = absurd (omega (arith, e))
filled_weighted (suc n) cs [] ys e = absurd (omega (arith, e))
filled_weighted (suc n) [] (x ∷ xs) ys e = no_part x (weighted (filled n []) (xs ++ ys)) ∙ filled_weighted n [] xs ys (omega (arith, e))
filled_weighted (suc n) (c ∷ cs) (x ∷ xs) ys e = ap (λ z. c *ℤ x +ℤ z) (filled_weighted n cs xs ys (omega (arith, e)))

-- ---- a form that is one place

unit_weighted : (n : ℕ) (us : List ℤ) (x : ℤ) (rest : List ℤ) → length us ≡ n → weighted (replicate n (pos 0) ++ pos 1 ∷ []) (us ++ x ∷ rest) ≡ x
unit_weighted zero [] x rest e = alone x
  where
    alone : (x : ℤ) → pos 1 *ℤ x +ℤ pos 0 ≡ x
    alone x = omega (arith, ints)
unit_weighted zero (u ∷ us) x rest e = absurd (omega (arith, e))
unit_weighted (suc n) [] x rest e = absurd (omega (arith, e))
unit_weighted (suc n) (u ∷ us) x rest e =
    no_part u (weighted (replicate n (pos 0) ++ pos 1 ∷ []) (us ++ x ∷ rest)) ∙ unit_weighted n us x rest (omega (arith, e))

pub unit_number : (n : ℕ) (us : List ℤ) (x : ℤ) (rest : List ℤ) → length us ≡ n → number_at (unit_form n) (us ++ x ∷ rest) ≡ x
unit_number n us x rest e = (let w = unit_weighted n us x rest e in omega (arith, ints, w))

-- ---- lists of zeros

pub none_weighted : (cs xs : List ℤ) → not_zero cs ≡ 0 → weighted cs xs ≡ pos 0
none_weighted [] xs h = refl
none_weighted (c ∷ cs) [] h = refl
none_weighted (c ∷ cs) (x ∷ xs) h = by (int_eq c (pos 0)) refl (none_weighted cs xs) h
  where
    by : (b : Bool) → int_eq c (pos 0) ≡ b → (not_zero cs ≡ 0 → weighted cs xs ≡ pos 0) → cond b (not_zero cs) (suc (not_zero cs)) ≡ 0 → c *ℤ x +ℤ weighted cs xs ≡ pos 0
    by true e more k = ap (λ c. c *ℤ x +ℤ weighted cs xs) ((Decides-int_eq c (pos 0)).0 e) ∙ no_part x (weighted cs xs) ∙ more k
    by false e more k = absurd (omega (arith, k))
