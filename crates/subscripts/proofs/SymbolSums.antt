-- Symbols of a form: their coefficients determine what they add to it.
use Rattle.std.proofs.Common.{◌≡◌, ℕ, ◌+◌, ◌*◌, ◌<◌, ◌≤◌, ◌^◌, ◌⊎◌, List, [], ◌∷◌, ◌++◌, true, false, cond, length, zero, suc, refl, ap, arith, sym, ◌∙◌, inl, inr, subst, take, get_or}
use Rattle.std.specs.Prelude.{ℤ, pos, ◌+ℤ◌, ◌-ℤ◌, ◌*ℤ◌, nat_eq, All, unsigned_abs}
use Rattle.std.proofs.lemmas.Bool.{cases_eq, cases_lt, eq-eqb, ne_eqb}
use Rattle.std.proofs.Math.IntN.{neg_ℤ}
use Rattle.std.proofs.lemmas.Int.{ints}
use Rattle.std.proofs.lemmas.List.Elements.{All-cons, All-head, All-nil, All-tail, All-take}
use Rattle.std.proofs.lemmas.List.{length-take, take_more}
use Rattle.subscripts.proofs.Ring.{linear, neg_times, ring}
use Rattle.subscripts.specs.Forms.{coefficient, over_symbols}
use Rattle.subscripts.specs.Shapes.{IsSmall}

-- what a symbol that stands in a list adds to the coefficient of s
abbrev part : ℕ → ℤ → ℕ → ℤ
part k c s = cond (nat_eq k s) c (pos 0)

part_same : (k : ℕ) (c : ℤ) (s : ℕ) → k ≡ s → part k c s ≡ c
part_same k c s e = ap (λ b. cond b c (pos 0)) (eq-eqb k s e)

part_other : (k : ℕ) (c : ℤ) (s : ℕ) → (k ≡ s → ⊥) → part k c s ≡ pos 0
part_other k c s e = ap (λ b. cond b c (pos 0)) (ne_eqb k s e)

-- one more symbol behind the others
pub coefficient_push : (ts : List (ℕ × ℤ)) (t : ℕ × ℤ) (s : ℕ) → coefficient (ts ++ (t ∷ [])) s ≡ coefficient ts s +ℤ cond (nat_eq t.0 s) t.1 (pos 0)
coefficient_push [] t s = omega (arith, ints)
coefficient_push (u ∷ us) t s = let h = coefficient_push us t s in omega (arith, ints)

small_part : (k : ℕ) (c z : ℤ) (s n : ℕ) → unsigned_abs c ≤ 2 ^ 40 → unsigned_abs z ≤ n → unsigned_abs (part k c s +ℤ z) ≤ 2 ^ 40 + n
small_part k c z s n h g =
    elim (nat_eq k s) as (λ b. unsigned_abs (cond b c (pos 0) +ℤ z) ≤ 2 ^ 40 + n) [ true ↦ omega (arith, ints) | false ↦ omega (arith, ints) ]

-- a sum of small numbers
pub coefficient_small : (ts : List (ℕ × ℤ)) (s : ℕ) → All (λ t. IsSmall t.1) ts → unsigned_abs (coefficient ts s) ≤ length ts * 2 ^ 40
coefficient_small [] s h = omega arith
coefficient_small (t ∷ ts) s h =
    let k = coefficient_small ts s (All-tail (λ t. IsSmall t.1) t ts h) in
    let a : IsSmall t.1 = All-head (λ t. IsSmall t.1) t ts h in
    let j = small_part t.0 t.1 (coefficient ts s) s (length ts * 2 ^ 40) a k in
    omega arith

-- a symbol that isn't in a list has no coefficient
pub in_or_none : (P : ℕ → Type 0) (ts : List (ℕ × ℤ)) (s : ℕ) → All (λ t. P t.0) ts → P s ⊎ (coefficient ts s ≡ pos 0)
in_or_none P [] s h = inr refl
in_or_none P (t ∷ ts) s h =
    elim (cases_eq t.0 s) [
      | inl e ↦ inl (subst P e (All-head (λ t. P t.0) t ts h))
      | inr n ↦ elim (in_or_none P ts s (All-tail (λ t. P t.0) t ts h)) [
        | inl p ↦ inl p
        | inr z ↦ let o = part_other t.0 t.1 s n in inr (omega (arith, ints))
      ]
    ]

-- ---- sums over all symbols below a number

abbrev pub sum_below : ℕ → (ℕ → ℤ) → ℤ
sum_below zero f = pos 0
sum_below (suc n) f = sum_below n f +ℤ f n

sum_below_plus : (n : ℕ) (f g : ℕ → ℤ) → sum_below n (λ s. f s +ℤ g s) ≡ sum_below n f +ℤ sum_below n g
sum_below_plus zero f g = refl
sum_below_plus (suc n) f g = let h = sum_below_plus n f g in omega (arith, ints)

pub sum_below_minus : (n : ℕ) (f g : ℕ → ℤ) → sum_below n (λ s. f s -ℤ g s) ≡ sum_below n f -ℤ sum_below n g
sum_below_minus zero f g = refl
sum_below_minus (suc n) f g = let h = sum_below_minus n f g in omega (arith, ints)

pub sum_below_same : (n : ℕ) (f g : ℕ → ℤ) → ((s : ℕ) → s < n → f s ≡ g s) → sum_below n f ≡ sum_below n g
sum_below_same zero f g h = refl
sum_below_same (suc n) f g h = let k = sum_below_same n f g (λ s l. h s (omega arith)) in let j = h n (omega arith) in omega (arith, ints)

sum_below_none : (n : ℕ) → sum_below n (λ s. pos 0) ≡ pos 0
sum_below_none zero = refl
sum_below_none (suc n) = let k = sum_below_none n in omega (arith, ints)

zero_times : (c v : ℤ) → c ≡ pos 0 → c *ℤ v ≡ pos 0
zero_times c v e = ap (λ z. z *ℤ v) e ∙ omega (arith, ints)

-- a symbol at or past the number adds nothing
past : (n k : ℕ) (c : ℤ) (v : ℕ → ℤ) → n ≤ k → sum_below n (λ s. part k c s *ℤ v s) ≡ pos 0
past n k c v l = sum_below_same n (λ s. part k c s *ℤ v s) (λ s. pos 0) (λ s m. zero_times (part k c s) (v s) (part_other k c s (λ e. omega arith))) ∙ sum_below_none n

one_part : (n k : ℕ) (c : ℤ) (v : ℕ → ℤ) → k < n → sum_below n (λ s. part k c s *ℤ v s) ≡ c *ℤ v k
one_part zero k c v l = absurd (omega arith)
one_part (suc n) k c v l =
    elim (cases_eq k n) [
      | inl e ↦
          let p = past n k c v (omega arith) in
          let q : part k c n *ℤ v n ≡ c *ℤ v k = ap (λ z. z *ℤ v n) (part_same k c n e) ∙ ap (λ i. c *ℤ v i) (sym e) in
          omega (arith, linear)
      | inr d ↦
          let p = one_part n k c v (omega arith) in
          let q : part k c n *ℤ v n ≡ pos 0 = zero_times (part k c n) (v n) (part_other k c n d) in
          omega (arith, linear)
    ]

plus_times : (a b v : ℤ) → (a +ℤ b) *ℤ v ≡ a *ℤ v +ℤ b *ℤ v
plus_times a b v = simp ring

-- what symbols below n add is a sum over all numbers below n
pub over_symbols_is : (n : ℕ) (ts : List (ℕ × ℤ)) (v : ℕ → ℤ) → All (λ t. t.0 < n) ts → over_symbols ts v ≡ sum_below n (λ s. coefficient ts s *ℤ v s)
over_symbols_is n [] v h = sym (sum_below_same n (λ s. pos 0 *ℤ v s) (λ s. pos 0) (λ s m. omega (arith, ints)) ∙ sum_below_none n)
over_symbols_is n (t ∷ ts) v h =
    let k = over_symbols_is n ts v (All-tail (λ t. t.0 < n) t ts h) in
    let l : t.0 < n = All-head (λ t. t.0 < n) t ts h in
    let a = one_part n t.0 t.1 v l in
    let b = sum_below_plus n (λ s. part t.0 t.1 s *ℤ v s) (λ s. coefficient ts s *ℤ v s) in
    let c = sum_below_same n (λ s. coefficient (t ∷ ts) s *ℤ v s) (λ s. part t.0 t.1 s *ℤ v s +ℤ coefficient ts s *ℤ v s) (λ s m. plus_times (part t.0 t.1 s) (coefficient ts s) (v s)) in
    omega (arith, linear)

-- a number above all symbols of a list
abbrev pub above_all : List (ℕ × ℤ) → ℕ
above_all [] = 0
above_all (t ∷ ts) = suc t.0 + above_all ts

pub all_below : (ts : List (ℕ × ℤ)) (n : ℕ) → above_all ts ≤ n → All (λ t. t.0 < n) ts
all_below [] n h = All-nil (λ t. t.0 < n)
all_below (t ∷ ts) n h = All-cons (λ t. t.0 < n) t ts (omega arith) (all_below ts n (omega arith))

minus_times : (a b v : ℤ) → (a -ℤ b) *ℤ v ≡ a *ℤ v -ℤ b *ℤ v
minus_times a b v = plus_times a (neg_ℤ b) v ∙ ap (λ z. a *ℤ v +ℤ z) (neg_times b v)

-- the difference of what two lists of symbols add is a sum over the differences of the coefficients
pub over_symbols_difference : (n : ℕ) (ts us : List (ℕ × ℤ)) (v : ℕ → ℤ) → above_all ts + above_all us ≤ n
    → over_symbols ts v -ℤ over_symbols us v ≡ sum_below n (λ s. (coefficient ts s -ℤ coefficient us s) *ℤ v s)
over_symbols_difference n ts us v h =
    let a = over_symbols_is n ts v (all_below ts n (omega arith)) in
    let b = over_symbols_is n us v (all_below us n (omega arith)) in
    let c = sum_below_minus n (λ s. coefficient ts s *ℤ v s) (λ s. coefficient us s *ℤ v s) in
    let d = sum_below_same n (λ s. (coefficient ts s -ℤ coefficient us s) *ℤ v s) (λ s. coefficient ts s *ℤ v s -ℤ coefficient us s *ℤ v s) (λ s m. minus_times (coefficient ts s) (coefficient us s) (v s)) in
    omega (arith, linear)

-- equal coefficients add the same, whatever the values
pub same_over_symbols : (ts us : List (ℕ × ℤ)) → ((s : ℕ) → coefficient ts s ≡ coefficient us s) → (v : ℕ → ℤ) → over_symbols ts v ≡ over_symbols us v
same_over_symbols ts us e v =
    let n = above_all ts + above_all us in
    let a = over_symbols_is n ts v (all_below ts n (omega arith)) in
    let b = over_symbols_is n us v (all_below us n (omega arith)) in
    a ∙ sum_below_same n (λ s. coefficient ts s *ℤ v s) (λ s. coefficient us s *ℤ v s) (λ s m. ap (λ z. z *ℤ v s) (e s)) ∙ sym b

-- the values that are t at the symbol s, and 0 elsewhere
abbrev pub spike : ℕ → ℤ → ℕ → ℤ
spike s t k = cond (nat_eq k s) t (pos 0)

spike_part : (k : ℕ) (c : ℤ) (s : ℕ) (t : ℤ) → c *ℤ spike s t k ≡ part k c s *ℤ t
spike_part k c s t =
    elim (nat_eq k s) as (λ b. c *ℤ cond b t (pos 0) ≡ cond b c (pos 0) *ℤ t) [ true ↦ refl | false ↦ omega (arith, ints) ]

pub over_spike : (ts : List (ℕ × ℤ)) (s : ℕ) (t : ℤ) → over_symbols ts (spike s t) ≡ coefficient ts s *ℤ t
over_spike [] s t = omega (arith, ints)
over_spike (u ∷ us) s t =
    let h = over_spike us s t in
    let p = spike_part u.0 u.1 s t in
    let q = plus_times (part u.0 u.1 s) (coefficient us s) t in
    omega (arith, linear)

-- lists that add the same, whatever the values, have equal coefficients
pub same_coefficients : (ts us : List (ℕ × ℤ)) → ((v : ℕ → ℤ) → over_symbols ts v ≡ over_symbols us v) → (s : ℕ) → coefficient ts s ≡ coefficient us s
same_coefficients ts us e s =
    let a = over_spike ts s (pos 1) in
    let b = over_spike us s (pos 1) in
    let c = e (spike s (pos 1)) in
    omega (arith, linear, ints)

-- ---- a loop over the symbols

-- no front of a list of at most 8 sums to more than so much
pub front_small : (ts : List (ℕ × ℤ)) (i s : ℕ) → All (λ t. IsSmall t.1) ts → i ≤ 8 → unsigned_abs (coefficient (take i ts) s) ≤ 2 ^ 43
front_small ts i s h l =
    let a = coefficient_small (take i ts) s (All-take (λ t. IsSmall t.1) i ts h) in
    let m = length-take i ts in
    let n : length (take i ts) ≤ 8 = omega arith in
    omega arith

pub whole_small : (ts : List (ℕ × ℤ)) (s : ℕ) → All (λ t. IsSmall t.1) ts → length ts ≤ 8 → unsigned_abs (coefficient ts s) ≤ 2 ^ 43
whole_small ts s h l = let a = coefficient_small ts s h in omega arith

front_more : (ts : List (ℕ × ℤ)) (i s : ℕ) → i < length ts → coefficient (take (i + 1) ts) s ≡ coefficient (take i ts) s +ℤ part (get_or ts i (0, pos 0)).0 (get_or ts i (0, pos 0)).1 s
front_more ts i s l = ap (λ us. coefficient us s) (take_more ts i (0, pos 0) l) ∙ coefficient_push (take i ts) (get_or ts i (0, pos 0)) s

pub front_counts : (ts : List (ℕ × ℤ)) (i s : ℕ) (sum : ℤ) → i < length ts → sum ≡ coefficient (take i ts) s → (get_or ts i (0, pos 0)).0 ≡ s
    → sum +ℤ (get_or ts i (0, pos 0)).1 ≡ coefficient (take (i + 1) ts) s
front_counts ts i s sum l e h =
    let f = front_more ts i s l in
    let p = part_same (get_or ts i (0, pos 0)).0 (get_or ts i (0, pos 0)).1 s h in
    omega (arith, ints)

pub front_skips : (ts : List (ℕ × ℤ)) (i s : ℕ) (sum : ℤ) → i < length ts → sum ≡ coefficient (take i ts) s → ((get_or ts i (0, pos 0)).0 ≡ s → ⊥)
    → sum ≡ coefficient (take (i + 1) ts) s
front_skips ts i s sum l e h =
    let f = front_more ts i s l in
    let p = part_other (get_or ts i (0, pos 0)).0 (get_or ts i (0, pos 0)).1 s h in
    omega (arith, ints)

-- where the coefficients of the symbols in both lists agree, the symbols cancel
pub cancel_from_lists : (ts us : List (ℕ × ℤ)) → All (λ t. coefficient ts t.0 ≡ coefficient us t.0) ts → All (λ t. coefficient ts t.0 ≡ coefficient us t.0) us
    → (v : ℕ → ℤ) → over_symbols ts v ≡ over_symbols us v
cancel_from_lists ts us a b =
    same_over_symbols ts us (λ s.
    elim (in_or_none (λ k. coefficient ts k ≡ coefficient us k) ts s a) [
      | inl e ↦ e
      | inr z ↦ elim (in_or_none (λ k. coefficient ts k ≡ coefficient us k) us s b) [ inl e ↦ e | inr y ↦ cc ]
    ])
