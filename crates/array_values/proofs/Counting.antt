-- How many numbers a triplet has, where its last one is, and that all stand within the bounds where these two do.
use Rattle.std.proofs.Common.{◌≡◌, refl, sym, ap, ◌∙◌, zero, suc, ℕ, ℤ, pos, negsuc, ◌+◌, ◌*◌, ◌^◌, ◌<◌, ◌≤◌, ◌+ℤ◌, ◌-ℤ◌, ◌≤ℤ◌, ◌<ℤ◌, Bool, true, false, cond, List, length, drop, get_or, Result, Ok, Err, arith}
use Rattle.std.specs.Prelude.{int_div, ◌/◌, ◌%◌, nat_abs, ◌&&◌}
use mathlib.Core.Path.{ap₂}
use Rattle.std.proofs.lemmas.Int.{ints}
use Rattle.std.proofs.lemmas.Nat.{div-add-mod'}
use Rattle.std.proofs.lemmas.List.{at_drop_more, at_drop_all}
use Rattle.tree.specs.declared.ops.Fault.{Fault}
use Rattle.tree.specs.declared.ops.Fault.TheVariants.{Bounds}
use Rattle.meaning.specs.Store.{size_of}
use Rattle.meaning.specs.Sections.{Axis, Along, not_negative, steps_from, triplet_numbers, is_within_bounds, all_stand_in, along}
use Rattle.array_values.specs.Counts.{behind, strides, CountsAlong}
use Rattle.array_values.specs.Selections.{goes_on}
use Rattle.array_values.proofs.Triplets.{one_more, numbers_past}

-- ---- how many there are

steps_length : (z s : ℤ) (n : ℕ) → length (steps_from z s n) ≡ n
steps_length z s zero = refl
steps_length z s (suc n) = ap suc (steps_length (z +ℤ s) s n)

numbers_up : (l u : ℤ) (n : ℕ) → l ≤ℤ u → triplet_numbers l u (pos (suc n)) ≡ steps_from l (pos (suc n)) (suc (strides l u (pos (suc n))))
numbers_up l u n h =
    let m = nat_abs (u -ℤ l) in
    ap (steps_from l (pos (suc n)))
    (ap (λ d. not_negative (int_div d (pos (suc n)))) (let e : u -ℤ l +ℤ pos (suc n) ≡ pos (m + suc n) = omega (arith, ints) in e)
    ∙ one_more m (suc n) (omega arith))

numbers_down : (l u : ℤ) (n : ℕ) → u ≤ℤ l → triplet_numbers l u (negsuc n) ≡ steps_from l (negsuc n) (suc (strides l u (negsuc n)))
numbers_down l u n h =
    let m = nat_abs (u -ℤ l) in
    ap (steps_from l (negsuc n))
    (ap (λ d. not_negative (int_div d (negsuc n))) (let e : u -ℤ l +ℤ negsuc n ≡ negsuc (m + n) = omega (arith, ints) in e)
    ∙ (ap (λ k. k / suc n) (let e : suc (m + n) ≡ m + suc n = omega arith in e) ∙ one_more m (suc n) (omega arith)))

numbers_are : (l u s : ℤ) → (s ≡ pos 0 → ⊥) → goes_on l u s ≡ true → triplet_numbers l u s ≡ steps_from l s (suc (strides l u s))
numbers_are l u (pos zero) h e = absurd (h refl)
numbers_are l u (pos (suc n)) h e = (let m : l ≤ℤ u = grind (arith, ints) in numbers_up l u n m)
numbers_are l u (negsuc n) h e = (let m : u ≤ℤ l = grind (arith, ints) in numbers_down l u n m)

-- ---- where they stand

inside : (b : ℤ × ℤ) (z : ℤ) → b.0 ≤ℤ z → z ≤ℤ b.1 → is_within_bounds b z ≡ true
inside b z l m = grind (arith, ints)

above : (b : ℤ × ℤ) (z : ℤ) → is_within_bounds b z ≡ true → b.0 ≤ℤ z
above b z e = grind (arith, ints)

below : (b : ℤ × ℤ) (z : ℤ) → is_within_bounds b z ≡ true → z ≤ℤ b.1
below b z e = grind (arith, ints)

up_past : (z : ℤ) (n k : ℕ) → (z +ℤ pos k) ≤ℤ behind z (pos (suc n)) k
up_past z n zero = omega (arith, ints)
up_past z n (suc k) = (let r = up_past (z +ℤ pos (suc n)) n k in omega (arith, ints))

down_past : (z : ℤ) (n k : ℕ) → (behind z (negsuc n) k +ℤ pos k) ≤ℤ z
down_past z n zero = omega (arith, ints)
down_past z n (suc k) = (let r = down_past (z +ℤ negsuc n) n k in omega (arith, ints))

next_stands : (b : ℤ × ℤ) (z s : ℤ) (k : ℕ) → (s ≡ pos 0 → ⊥) → is_within_bounds b z ≡ true → is_within_bounds b (behind z s (suc k)) ≡ true → is_within_bounds b (z +ℤ s) ≡ true
next_stands b z (pos zero) k h f l = absurd (h refl)
next_stands b z (pos (suc n)) k h f l =
    let r = up_past (z +ℤ pos (suc n)) n k in
    let p = above b z f in
    let q = below b (behind (z +ℤ pos (suc n)) (pos (suc n)) k) l in
    inside b (z +ℤ pos (suc n)) (omega (arith, ints)) (omega (arith, ints))
next_stands b z (negsuc n) k h f l =
    let r = down_past (z +ℤ negsuc n) n k in
    let p = below b z f in
    let q = above b (behind (z +ℤ negsuc n) (negsuc n) k) l in
    inside b (z +ℤ negsuc n) (omega (arith, ints)) (omega (arith, ints))

both_stand : (b : ℤ × ℤ) (z s : ℤ) (k : ℕ) → (s ≡ pos 0 → ⊥) → is_within_bounds b z ≡ true → is_within_bounds b (behind z s k) ≡ true → all_stand_in b (steps_from z s (suc k)) ≡ true
both_stand b z s zero h f l = ap (λ t. t && true) f
both_stand b z s (suc k) h f l = ap₂ (λ t u. t && u) f (both_stand b (z +ℤ s) s k h (next_stands b z s k h f l) l)

and_false : (t : Bool) → (t && false) ≡ false
and_false true = refl
and_false false = refl

first_out : (b : ℤ × ℤ) (z s : ℤ) (k : ℕ) → is_within_bounds b z ≡ false → all_stand_in b (steps_from z s (suc k)) ≡ false
first_out b z s k f = ap (λ t. t && all_stand_in b (steps_from (z +ℤ s) s k)) f

last_out : (b : ℤ × ℤ) (z s : ℤ) (k : ℕ) → is_within_bounds b (behind z s k) ≡ false → all_stand_in b (steps_from z s (suc k)) ≡ false
last_out b z s zero f = ap (λ t. t && true) f
last_out b z s (suc k) f = ap (λ t. is_within_bounds b z && t) (last_out b (z +ℤ s) s k f) ∙ and_false (is_within_bounds b z)

-- ---- what is counted

stand_along : (b : ℤ × ℤ) (zs : List ℤ) (t : Bool) → all_stand_in b zs ≡ t → along b zs ≡ cond t (Ok (Along zs)) (Err Bounds)
stand_along b zs t e = ap (λ (t : Bool). let r : Result Axis Fault = cond t (Ok (Along zs)) (Err Bounds) in r) e

module _ (b : ℤ × ℤ) (l u s : ℤ) (h : s ≡ pos 0 → ⊥) where
  pub none_counted : goes_on l u s ≡ false → CountsAlong b (triplet_numbers l u s) (Ok 0)
  none_counted e =
      let none = numbers_past l u s h e in
      (stand_along b (triplet_numbers l u s) true (ap (all_stand_in b) none), ap length none)

  module _ (g : goes_on l u s ≡ true) where
    all_are : (t : Bool) → all_stand_in b (steps_from l s (suc (strides l u s))) ≡ t → all_stand_in b (triplet_numbers l u s) ≡ t
    all_are t e = ap (all_stand_in b) (numbers_are l u s h g) ∙ e

    pub first_outside : is_within_bounds b l ≡ false → CountsAlong b (triplet_numbers l u s) (Err Bounds)
    first_outside f = stand_along b (triplet_numbers l u s) false (all_are false (first_out b l s (strides l u s) f))

    pub last_outside : (z : ℤ) → z ≡ behind l s (strides l u s) → is_within_bounds b z ≡ false → CountsAlong b (triplet_numbers l u s) (Err Bounds)
    last_outside z e f =
        stand_along b (triplet_numbers l u s) false (all_are false (last_out b l s (strides l u s) (ap (is_within_bounds b) (sym e) ∙ f)))

    pub all_counted : (z : ℤ) (k n : ℕ) → z ≡ behind l s (strides l u s) → is_within_bounds b l ≡ true → is_within_bounds b z ≡ true → k ≡ strides l u s → n ≡ k + 1
        → CountsAlong b (triplet_numbers l u s) (Ok n)
    all_counted z k n e f i j m = (
      stand_along b (triplet_numbers l u s) true (all_are true (both_stand b l s (strides l u s) h f (ap (is_within_bounds b) (sym e) ∙ i))),
      ap length (numbers_are l u s h g) ∙ (steps_length l s (suc (strides l u s)) ∙ (let c : suc (strides l u s) ≡ n = omega arith in c)),
    )

-- strides from one number within 64 and 128 bits to another fit 128 bits
pub few_strides : (b : ℤ × ℤ) (l s : ℤ) (k : ℕ) → (s ≡ pos 0 → ⊥) → negsuc (2 ^ 63) ≤ℤ b.0 → b.1 <ℤ pos (2 ^ 127) → is_within_bounds b l ≡ true → is_within_bounds b (behind l s k) ≡ true
    → k + 1 < 2 ^ 128
few_strides b l (pos zero) k h x y f g = absurd (h refl)
few_strides b l (pos (suc n)) k h x y f g =
    let r = up_past l n k in
    let p = above b l f in
    let q = below b (behind l (pos (suc n)) k) g in
    omega (arith, ints)
few_strides b l (negsuc n) k h x y f g =
    let r = down_past l n k in
    let p = below b l f in
    let q = above b (behind l (negsuc n) k) g in
    omega (arith, ints)

-- ---- the last one

up_behind : (z : ℤ) (n k : ℕ) → behind z (pos n) k ≡ z +ℤ pos (k * n)
up_behind z n zero = (let e : z ≡ z +ℤ pos (0 * n) = omega (arith, ints) in e)
up_behind z n (suc k) = up_behind (z +ℤ pos n) n k ∙ (let e : z +ℤ pos n +ℤ pos (k * n) ≡ z +ℤ pos (suc k * n) = omega (arith, ints) in e)

down_behind : (z : ℤ) (n k : ℕ) → behind z (negsuc n) k ≡ z -ℤ pos (k * suc n)
down_behind z n zero = (let e : z ≡ z -ℤ pos (0 * suc n) = omega (arith, ints) in e)
down_behind z n (suc k) = down_behind (z +ℤ negsuc n) n k ∙ (let e : z +ℤ negsuc n -ℤ pos (k * suc n) ≡ z -ℤ pos (suc k * suc n) = omega (arith, ints) in e)

pub last_up : (l u : ℤ) (n : ℕ) → l ≤ℤ u → u -ℤ pos (nat_abs (u -ℤ l) % suc n) ≡ behind l (pos (suc n)) (nat_abs (u -ℤ l) / suc n)
last_up l u n h =
    let m = nat_abs (u -ℤ l) in
    let d = div-add-mod' m (suc n) in
    (let e : u -ℤ pos (m % suc n) ≡ l +ℤ pos (m / suc n * suc n) = omega (arith, ints, d) in e) ∙ sym (up_behind l (suc n) (m / suc n))

pub last_down : (l u : ℤ) (n : ℕ) → u ≤ℤ l → u +ℤ pos (nat_abs (u -ℤ l) % suc n) ≡ behind l (negsuc n) (nat_abs (u -ℤ l) / suc n)
last_down l u n h =
    let m = nat_abs (u -ℤ l) in
    let d = div-add-mod' m (suc n) in
    (let e : u +ℤ pos (m % suc n) ≡ l -ℤ pos (m / suc n * suc n) = omega (arith, ints, d) in e) ∙ sym (down_behind l n (m / suc n))

-- ---- how many numbers a dimension has

pub size_up : (b : ℤ × ℤ) → b.0 ≤ℤ b.1 → size_of b ≡ nat_abs (b.1 -ℤ b.0) + 1
size_up b h = by (b.1 -ℤ b.0) refl
  where
    by : (d : ℤ) → b.1 -ℤ b.0 ≡ d → elim d as (λ _. ℕ) [ pos n ↦ n + 1 | negsuc n ↦ 0 ] ≡ nat_abs d + 1
    by (pos n) e = refl
    by (negsuc n) e = absurd (omega (arith, ints))

pub size_none : (b : ℤ × ℤ) → b.1 <ℤ b.0 → size_of b ≡ 0
size_none b h = by (b.1 -ℤ b.0) refl
  where
    by : (d : ℤ) → b.1 -ℤ b.0 ≡ d → elim d as (λ _. ℕ) [ pos n ↦ n + 1 | negsuc n ↦ 0 ] ≡ 0
    by (pos n) e = absurd (omega (arith, ints))
    by (negsuc n) e = refl

-- ---- as the code has them

pub some_stride : (s : ℤ) → (s ≡ pos 0 → ⊥) → 0 < nat_abs s
some_stride (pos zero) h = absurd (h refl)
some_stride (pos (suc n)) h = omega arith
some_stride (negsuc n) h = omega arith

pub goes_up : (l u s : ℤ) → pos 0 <ℤ s → goes_on l u s ≡ true → l ≤ℤ u
goes_up l u (pos zero) h g = absurd (omega (arith, ints))
goes_up l u (pos (suc n)) h g = grind (arith, ints)
goes_up l u (negsuc n) h g = absurd (omega (arith, ints))

pub goes_down : (l u s : ℤ) → s ≤ℤ pos 0 → goes_on l u s ≡ true → u ≤ℤ l
goes_down l u (pos zero) h g = grind (arith, ints)
goes_down l u (pos (suc n)) h g = absurd (omega (arith, ints))
goes_down l u (negsuc n) h g = grind (arith, ints)

pub last_is_up : (l u s : ℤ) (d n : ℕ) → pos 0 <ℤ s → goes_on l u s ≡ true → d ≡ nat_abs (u -ℤ l) → n ≡ nat_abs s → u -ℤ pos (d % n) ≡ behind l s (strides l u s)
last_is_up l u (pos zero) d n h g e f = absurd (omega (arith, ints))
last_is_up l u (pos (suc m)) d n h g e f = ap₂ (λ a b. u -ℤ pos (a % b)) e f ∙ last_up l u m (goes_up l u (pos (suc m)) h g)
last_is_up l u (negsuc m) d n h g e f = absurd (omega (arith, ints))

pub last_is_down : (l u s : ℤ) (d n : ℕ) → s ≤ℤ pos 0 → (s ≡ pos 0 → ⊥) → goes_on l u s ≡ true → d ≡ nat_abs (u -ℤ l) → n ≡ nat_abs s
    → u +ℤ pos (d % n) ≡ behind l s (strides l u s)
last_is_down l u (pos zero) d n h z g e f = absurd (z refl)
last_is_down l u (pos (suc m)) d n h z g e f = absurd (omega (arith, ints))
last_is_down l u (negsuc m) d n h z g e f = ap₂ (λ a b. u +ℤ pos (a % b)) e f ∙ last_down l u m (goes_down l u (negsuc m) h g)

-- numbers that are written and read back
module _ (l u s l' u' s' : ℤ) (a : l' ≡ l) (b : u' ≡ u) (c : s' ≡ s) where
  pub goes_same : goes_on l' u' s' ≡ goes_on l u s
  goes_same = ap (λ z. goes_on z u' s') a ∙ (ap (λ z. goes_on l z s') b ∙ ap (goes_on l u) c)

  pub strides_same : strides l' u' s' ≡ strides l u s
  strides_same = ap (λ z. strides z u' s') a ∙ (ap (λ z. strides l z s') b ∙ ap (strides l u) c)

  pub behind_same : behind l' s' (strides l' u' s') ≡ behind l s (strides l u s)
  behind_same = ap (λ k. behind l' s' k) strides_same ∙ (ap (λ z. behind z s' (strides l u s)) a ∙ ap (λ z. behind l z (strides l u s)) c)

-- ---- a list of numbers

module _ (b : ℤ × ℤ) (zs : List ℤ) (i : ℕ) (so_far : all_stand_in b zs ≡ all_stand_in b (drop i zs)) where
  at_next : (t : Bool) → i < length zs → is_within_bounds b (get_or zs i (pos 0)) ≡ t → all_stand_in b zs ≡ (t && all_stand_in b (drop (i + 1) zs))
  at_next t l e = so_far ∙ (at_drop_more (λ ys. all_stand_in b ys) zs i (pos 0) l ∙ ap (λ t. t && all_stand_in b (drop (i + 1) zs)) e)

  pub vector_out : i < length zs → is_within_bounds b (get_or zs i (pos 0)) ≡ false → CountsAlong b zs (Err Bounds)
  vector_out l e = stand_along b zs false (at_next false l e)

  pub vector_next : i < length zs → is_within_bounds b (get_or zs i (pos 0)) ≡ true → all_stand_in b zs ≡ all_stand_in b (drop (i + 1) zs)
  vector_next l e = at_next true l e

  pub vector_all : length zs ≤ i → CountsAlong b zs (Ok (length zs))
  vector_all l = (stand_along b zs true (so_far ∙ at_drop_all (λ ys. all_stand_in b ys) zs i l), refl)
