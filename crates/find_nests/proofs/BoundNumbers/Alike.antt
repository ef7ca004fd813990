-- Forms that have the same numbers, and limits that one of them keeps.
use Rattle.std.proofs.Common.{◌≡◌, refl, sym, ap, ◌∙◌, subst, inl, inr, ◌⊎◌, ℕ, zero, suc, ◌+◌, ◌≤◌, ◌<◌, ℤ, pos, Bool, true, false, cond, ◌&&◌, List, [], ◌∷◌, ◌++◌, take, drop, length, arith}
use Rattle.std.specs.Prelude.{nat_le}
use Rattle.std.specs.Ordering.{int_eq}
use Rattle.std.proofs.lemmas.Bool.{leb-true, le-leb, eqb-true, eq-eqb, cases_lt}
use Rattle.std.proofs.lemmas.Bool.Decides.{Decides-int_eq}
use Rattle.std.proofs.lemmas.Int.{ints}
use Rattle.std.proofs.Math.Seq.{drop-nil}
use Rattle.linear_forms.specs.Linear.{Form, number_at, is_small, all_small, not_zero}
use Rattle.linear_forms.proofs.Sizes.{both}
use Rattle.find_nests.specs.bound_limits.Limits.{keeps_limits, is_constant_form}
use Rattle.find_nests.specs.bound_limits.Numbers.{ForAll, Quantity, HasForm}
use Rattle.find_nests.proofs.BoundNumbers.Weights.{At, zeros, one_at, zeros_length, one_length, zeros_weighted, one_weighted, parted, front_length, rest_length, none_weighted}

-- ---- coefficients by numbers

-- a fact of all numbers of symbols and iterations holds of each list of as many
pub of_list : (n m : ℕ) (P : List ℤ → Type 0) → ForAll n m (λ xs js. P (xs ++ js)) → (us : List ℤ) → length us ≡ n + m → P us
of_list n m P h us e = subst P (parted n us) (h (take n us) (drop n us) (front_length n m us e) (rest_length n m us e))

module _ (n m : ℕ) (f g : Form) (h : ForAll n m (λ xs js. number_at f (xs ++ js) ≡ number_at g (xs ++ js))) where
  at_list : (us : List ℤ) → length us ≡ n + m → number_at f us ≡ number_at g us
  at_list us e = of_list n m (λ us. number_at f us ≡ number_at g us) h us e

  pub same_constant : f.constant ≡ g.constant
  same_constant =
      let here = at_list (zeros (n + m)) (zeros_length (n + m)) in
      let one = zeros_weighted f.coefficients (n + m) in
      let two = zeros_weighted g.coefficients (n + m) in
      omega (arith, ints, here, one, two)

  pub same_coefficient : (i : ℕ) → i < n + m → At f.coefficients i ≡ At g.coefficients i
  same_coefficient i l =
      let here = at_list (one_at (n + m) i) (one_length (n + m) i) in
      let one = one_weighted f.coefficients (n + m) i l in
      let two = one_weighted g.coefficients (n + m) i l in
      let same = same_constant in
      omega (arith, ints, here, one, two, same)

-- ---- a list with coefficients of another one, and zeros

abbrev pub Among : List ℤ → List ℤ → Type 0
Among cs ds = (i : ℕ) → (At cs i ≡ At ds i) ⊎ (At cs i ≡ pos 0)

small_at : (cs : List ℤ) → all_small cs ≡ true → (j : ℕ) → is_small (At cs j) ≡ true
small_at [] h j = refl
small_at (c ∷ cs) h zero = (both (is_small c) (all_small cs) h).0
small_at (c ∷ cs) h (suc j) = small_at cs (both (is_small c) (all_small cs) h).1 j

small_from : (cs : List ℤ) → ((j : ℕ) → is_small (At cs j) ≡ true) → all_small cs ≡ true
small_from [] h = refl
small_from (c ∷ cs) h = ap (λ b. b && all_small cs) (h 0) ∙ small_from cs (λ j. h (suc j))

pub no_zero : (cs : List ℤ) → ((j : ℕ) → At cs j ≡ pos 0) → not_zero cs ≡ 0
no_zero [] h = refl
no_zero (c ∷ cs) h = ap (λ b. cond b (not_zero cs) (suc (not_zero cs))) ((Decides-int_eq c (pos 0)).1 (h 0)) ∙ no_zero cs (λ j. h (suc j))

all_zero : (cs : List ℤ) → Among cs [] → not_zero cs ≡ 0
all_zero cs h = no_zero cs (λ j. by j (h j))
  where
    by : (j : ℕ) → (At cs j ≡ At [] j) ⊎ (At cs j ≡ pos 0) → At cs j ≡ pos 0
    by j (inl e) = e
    by j (inr e) = e

counts_less : (cs ds : List ℤ) → Among cs ds → not_zero cs ≤ not_zero ds
counts_less [] ds h = omega arith
counts_less (c ∷ cs) [] h = (let none = all_zero (c ∷ cs) h in omega (arith, none))
counts_less (c ∷ cs) (d ∷ ds) h = by (int_eq c (pos 0)) refl (int_eq d (pos 0)) refl (h 0) (counts_less cs ds (λ i. h (suc i)))
  where
    by : (a : Bool) → int_eq c (pos 0) ≡ a → (b : Bool) → int_eq d (pos 0) ≡ b → (c ≡ d) ⊎ (c ≡ pos 0) → not_zero cs ≤ not_zero ds
        → cond a (not_zero cs) (suc (not_zero cs)) ≤ cond b (not_zero ds) (suc (not_zero ds))
    by true e true g k more = more
    by true e false g k more = omega (arith, more)
    by false e false g k more = omega (arith, more)
    by false e true g (inl k) more = (let no = sym e ∙ (ap (λ z. int_eq z (pos 0)) k ∙ g) in cc)
    by false e true g (inr k) more = (let no = sym e ∙ (Decides-int_eq c (pos 0)).1 k in cc)

no_front : (n i : ℕ) → At (take n []) i ≡ pos 0
no_front zero i = refl
no_front (suc n) i = refl

-- one coefficient, and the others
one_among : (cs ds es : List ℤ) (c : ℤ) → (c ≡ At es 0) ⊎ (c ≡ pos 0) → ((i : ℕ) → At ds i ≡ At es (suc i)) → Among cs ds → Among (c ∷ cs) es
one_among cs ds es c h e more zero = h
one_among cs ds es c h e more (suc i) = by (more i)
  where
    by : (At cs i ≡ At ds i) ⊎ (At cs i ≡ pos 0) → (At cs i ≡ At es (suc i)) ⊎ (At cs i ≡ pos 0)
    by (inl k) = inl (k ∙ e i)
    by (inr k) = inr k

front_less : (n : ℕ) (cs ds : List ℤ) → Among cs ds → Among (take n cs) (take n ds)
front_less zero cs ds h = λ i. inl refl
front_less (suc n) [] ds h = λ i. inr refl
front_less (suc n) (c ∷ cs) [] h = one_among (take n cs) (take n []) [] c (h 0) (no_front n) (front_less n cs [] (λ j. h (suc j)))
front_less (suc n) (c ∷ cs) (d ∷ ds) h = one_among (take n cs) (take n ds) (d ∷ take n ds) c (h 0) (λ i. refl) (front_less n cs ds (λ j. h (suc j)))

rest_less : (n : ℕ) (cs ds : List ℤ) → Among cs ds → Among (drop n cs) (drop n ds)
rest_less zero cs ds h = h
rest_less (suc n) [] ds h = λ i. inr refl
rest_less (suc n) (c ∷ cs) [] h = subst (Among (drop n cs)) (drop-nil n) (rest_less n cs [] (λ i. h (suc i)))
rest_less (suc n) (c ∷ cs) (d ∷ ds) h = rest_less n cs ds (λ i. h (suc i))

pub all_four : (a b c d : Bool) → a ≡ true → b ≡ true → c ≡ true → d ≡ true → (a && (b && (c && d))) ≡ true
all_four true true true true i j k l = refl
all_four true true true false i j k l = l
all_four true true false d i j k l = k
all_four true false c d i j k l = j
all_four false b c d i j k l = i

-- limits that the other one keeps
pub keeps_less : (n : ℕ) (f g : Form) → f.constant ≡ g.constant → Among f.coefficients g.coefficients → keeps_limits n 0 g ≡ true → keeps_limits n 0 f ≡ true
keeps_less n f g e h k =
    let p = both (all_small g.coefficients) (is_small g.constant && (nat_le (not_zero (take n g.coefficients) + 0) 8 && nat_le (not_zero (drop n g.coefficients)) 7)) k in
    let q = both (is_small g.constant) (nat_le (not_zero (take n g.coefficients) + 0) 8 && nat_le (not_zero (drop n g.coefficients)) 7) p.1 in
    let r = both (nat_le (not_zero (take n g.coefficients) + 0) 8) (nat_le (not_zero (drop n g.coefficients)) 7) q.1 in
    let front = counts_less (take n f.coefficients) (take n g.coefficients) (front_less n f.coefficients g.coefficients h) in
    let rest = counts_less (drop n f.coefficients) (drop n g.coefficients) (rest_less n f.coefficients g.coefficients h) in
    let most = leb-true (not_zero (take n g.coefficients) + 0) 8 r.0 in
    let few = leb-true (not_zero (drop n g.coefficients)) 7 r.1 in
    all_four (all_small f.coefficients) (is_small f.constant) (nat_le (not_zero (take n f.coefficients) + 0) 8) (nat_le (not_zero (drop n f.coefficients)) 7)
    (small_from f.coefficients (λ j. small j (h j) (small_at g.coefficients p.0 j)))
    (ap is_small e ∙ q.0)
    (le-leb (not_zero (take n f.coefficients) + 0) 8 (omega (arith, front, most)))
    (le-leb (not_zero (drop n f.coefficients)) 7 (omega (arith, rest, few)))
  where
    small : (j : ℕ) → (At f.coefficients j ≡ At g.coefficients j) ⊎ (At f.coefficients j ≡ pos 0) → is_small (At g.coefficients j) ≡ true → is_small (At f.coefficients j) ≡ true
    small j (inl s) l = ap is_small s ∙ l
    small j (inr s) l = ap is_small s

-- ---- forms without coefficients past so many places

abbrev pub Ends : ℕ → Form → Type 0
Ends k f = (i : ℕ) → k ≤ i → At f.coefficients i ≡ pos 0

-- one form of the numbers keeps the limits, and so does each other one that ends
pub keeps_by_numbers : (n m : ℕ) (f : Form) (q : Quantity) → Ends (n + m) f → ForAll n m (λ xs js. q xs js ≡ number_at f (xs ++ js)) → HasForm n m q
    → keeps_limits n 0 f ≡ true
keeps_by_numbers n m f q ends is h = keeps_less n f h.form (same_constant n m f h.form same) among h.kept
  where
    same : ForAll n m (λ xs js. number_at f (xs ++ js) ≡ number_at h.form (xs ++ js))
    same xs js a b = sym (is xs js a b) ∙ h.is xs js a b

    among : Among f.coefficients h.form.coefficients
    among i = by (cases_lt i (n + m))
      where
        by : (i < n + m) ⊎ (n + m ≤ i) → (At f.coefficients i ≡ At h.form.coefficients i) ⊎ (At f.coefficients i ≡ pos 0)
        by (inl l) = inl (same_coefficient n m f h.form same i l)
        by (inr l) = inr (ends i l)

-- ---- forms whose number is always the same

pub constant_number : (f : Form) → is_constant_form f ≡ true → (us : List ℤ) → number_at f us ≡ f.constant
constant_number f h us = (let none = none_weighted f.coefficients us (eqb-true (not_zero f.coefficients) 0 h) in omega (arith, ints, none))

module _ (n m : ℕ) (f : Form) (d : ℤ) (h : ForAll n m (λ xs js. number_at f (xs ++ js) ≡ d)) where
  abbrev only : Form
  only = record { coefficients = []; constant = d }

  same_number : ForAll n m (λ xs js. number_at f (xs ++ js) ≡ number_at only (xs ++ js))
  same_number xs js a b = (let e = h xs js a b in omega (arith, ints, e))

  pub always_constant : f.constant ≡ d
  always_constant = same_constant n m f only same_number

  pub constant_always : Ends (n + m) f → is_constant_form f ≡ true
  constant_always ends = eq-eqb (not_zero f.coefficients) 0 (no_zero f.coefficients (λ i. by i (cases_lt i (n + m))))
    where
      by : (i : ℕ) → (i < n + m) ⊎ (n + m ≤ i) → At f.coefficients i ≡ pos 0
      by i (inl l) = same_coefficient n m f only same_number i l
      by i (inr l) = ends i l
