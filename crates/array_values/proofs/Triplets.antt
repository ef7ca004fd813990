-- The numbers of a triplet, one after the other.
use Rattle.std.proofs.Common.{◌≡◌, refl, sym, ap, ◌∙◌, subst, zero, suc, ℕ, ℤ, pos, negsuc, neg_ℤ, ◌+◌, ◌*◌, ◌<◌, ◌+ℤ◌, ◌-ℤ◌, ◌≤ℤ◌, ◌<ℤ◌, Bool, true, false, cond, List, [], ◌∷◌, ◌++◌, length, Result, Ok, Err, Option, Some, None, arith, SFits}
use Rattle.std.specs.Prelude.{int_div, ◌/◌, ◌%◌, nat_abs, ◌&&◌}
use Rattle.std.specs.Int.{w128}
use Rattle.std.proofs.lemmas.Int.{ints}
use Rattle.std.proofs.lemmas.Nat.{div-mul-add, div-add-mod'}
use Rattle.tree.specs.Steps.{◌>>=◌}
use Rattle.tree.specs.declared.ops.Fault.{Fault}
use Rattle.tree.specs.declared.ops.Fault.TheVariants.{Bounds}
use Rattle.meaning.specs.ArrayValues.{each}
use Rattle.meaning.specs.Sections.{Axis, Along, not_negative, steps_from, triplet_numbers, is_within_bounds, all_stand_in, along}
use Rattle.std.specs.Prelude.{MatchOption, IfSome}
use Rattle.array_values.specs.Selections.{bounded, goes_on}
use Rattle.array_values.proofs.Steps.{left_of, left_fault, left_more}

-- ---- how many there are

small : (a n : ℕ) → a < n → a / n ≡ 0
small a n h = ap (λ m. m / n) (let e : a ≡ 0 * n + a = grind arith in e) ∙ div-mul-add 0 n a h

pub one_more : (m n : ℕ) → 0 < n → (m + n) / n ≡ suc (m / n)
one_more m n h =
    let d = div-add-mod' m n in
    let r : m % n < n = omega arith in
    ap (λ k. k / n) (let e : m + n ≡ (m / n + 1) * n + m % n = grind (arith, d) in e) ∙ div-mul-add (m / n + 1) n (m % n) r ∙ (let e : m / n + 1 ≡ suc (m / n) = omega arith in e)

none_below : (q : ℕ) → not_negative (neg_ℤ (pos q)) ≡ 0
none_below zero = refl
none_below (suc q) = refl

abbrev count : ℤ → ℤ → ℤ → ℕ
count z u s = not_negative (int_div (u -ℤ z +ℤ s) s)

past_up : (n : ℕ) (d : ℤ) → 0 < n → d <ℤ pos n → not_negative (int_div d (pos n)) ≡ 0
past_up n (pos a) h l = small a n (omega (arith, ints))
past_up n (negsuc a) h l = none_below (suc a / n)

past_down : (n : ℕ) (d : ℤ) → negsuc n <ℤ d → not_negative (int_div d (negsuc n)) ≡ 0
past_down n (pos a) l = none_below (a / suc n)
past_down n (negsuc a) l = small (suc a) (suc n) (omega (arith, ints))

more_up : (z u : ℤ) (n : ℕ) → 0 < n → z ≤ℤ u → count z u (pos n) ≡ suc (count (z +ℤ pos n) u (pos n))
more_up z u n h l =
    let m = nat_abs (u -ℤ z) in
    ap (λ d. not_negative (int_div d (pos n))) (let e : u -ℤ z +ℤ pos n ≡ pos (m + n) = omega (arith, ints) in e)
    ∙ one_more m n h
    ∙ ap (λ d. suc (not_negative (int_div d (pos n)))) (let e : pos m ≡ u -ℤ (z +ℤ pos n) +ℤ pos n = omega (arith, ints) in e)

down : (m n : ℕ) → not_negative (int_div (neg_ℤ (pos m)) (negsuc n)) ≡ m / suc n
down zero n = (let e = small 0 (suc n) (omega arith) in ap (λ q. not_negative (neg_ℤ (pos q))) e ∙ sym e)
down (suc m) n = refl

more_down : (z u : ℤ) (n : ℕ) → u ≤ℤ z → count z u (negsuc n) ≡ suc (count (z +ℤ negsuc n) u (negsuc n))
more_down z u n l =
    let m = nat_abs (u -ℤ z) in
    ap (λ d. not_negative (int_div d (negsuc n))) (let e : u -ℤ z +ℤ negsuc n ≡ negsuc (m + n) = omega (arith, ints) in e)
    ∙ ap (λ k. k / suc n) (let e : suc (m + n) ≡ m + suc n = omega arith in e) ∙ one_more m (suc n) (omega arith)
    ∙ ap suc (sym (down m n))
    ∙ ap (λ d. suc (not_negative (int_div d (negsuc n)))) (let e : neg_ℤ (pos m) ≡ u -ℤ (z +ℤ negsuc n) +ℤ negsuc n = omega (arith, ints) in e)

pub numbers_past : (z u s : ℤ) → (s ≡ pos 0 → ⊥) → goes_on z u s ≡ false → triplet_numbers z u s ≡ []
numbers_past z u (pos zero) h e = absurd (h refl)
numbers_past z u (pos (suc n)) h e = (let l : u <ℤ z = grind (arith, ints) in ap (steps_from z (pos (suc n))) (past_up (suc n) (u -ℤ z +ℤ pos (suc n)) (omega arith) (omega (arith, ints))))
numbers_past z u (negsuc n) h e = (let l : z <ℤ u = grind (arith, ints) in ap (steps_from z (negsuc n)) (past_down n (u -ℤ z +ℤ negsuc n) (omega (arith, ints))))

pub numbers_more : (z u s : ℤ) → (s ≡ pos 0 → ⊥) → goes_on z u s ≡ true → triplet_numbers z u s ≡ z ∷ triplet_numbers (z +ℤ s) u s
numbers_more z u (pos zero) h e = absurd (h refl)
numbers_more z u (pos (suc n)) h e = (let l : z ≤ℤ u = grind (arith, ints) in ap (steps_from z (pos (suc n))) (more_up z u (suc n) (omega arith) l))
numbers_more z u (negsuc n) h e = (let l : u ≤ℤ z = grind (arith, ints) in ap (steps_from z (negsuc n)) (more_down z u n l))

fits_between : (z u s : ℤ) → SFits w128 z → SFits w128 u → goes_on (z +ℤ s) u s ≡ true → SFits w128 (z +ℤ s)
fits_between z u (pos zero) f g e = subst (SFits w128) (let h : z ≡ z +ℤ pos zero = omega (arith, ints) in h) f
fits_between z u (pos (suc n)) f g e = (let l : (z +ℤ pos (suc n)) ≤ℤ u = grind (arith, ints) in omega (arith, ints))
fits_between z u (negsuc n) f g e = (let l : u ≤ℤ (z +ℤ negsuc n) = grind (arith, ints) in omega (arith, ints))

-- a number that leaves 128 bits is past any bound
pub past_range : (z u s : ℤ) → SFits w128 z → SFits w128 u → (SFits w128 (z +ℤ s) → ⊥) → goes_on (z +ℤ s) u s ≡ false
past_range z u s f g h = by (goes_on (z +ℤ s) u s) refl
  where
    by : (t : Bool) → goes_on (z +ℤ s) u s ≡ t → goes_on (z +ℤ s) u s ≡ false
    by false e = e
    by true e = absurd (h (fits_between z u s f g e))

-- ---- those that are left

abbrev pub left_numbers : Option ℤ → ℤ → ℤ → List ℤ
left_numbers None u s = []
left_numbers (Some z) u s = triplet_numbers z u s

-- the next number, where there is one
pub numbers_first : (l u s : ℤ) (o : Option ℤ) → (s ≡ pos 0 → ⊥) → MatchOption o (goes_on l u s ≡ false) (λ z. (z ≡ l) × (goes_on z u s ≡ true)) → left_numbers o u s ≡ triplet_numbers l u s
numbers_first l u s None h m = sym (numbers_past l u s h m)
numbers_first l u s (Some z) h m = ap (λ z. triplet_numbers z u s) m.0

pub goes_first : (P : ℤ → Type 0) (u s : ℤ) (o : Option ℤ) (Q : Type 0) → MatchOption o Q (λ z. (P z) × (goes_on z u s ≡ true)) → IfSome o (λ z. goes_on z u s ≡ true)
goes_first P u s None Q m = tt
goes_first P u s (Some z) Q m = m.1

pub triplet_same : (l u s l' u' s' : ℤ) → l' ≡ l → u' ≡ u → s' ≡ s → triplet_numbers l u s ≡ triplet_numbers l' u' s'
triplet_same l u s l' u' s' a b c = ap (λ z. triplet_numbers z u s) (sym a) ∙ ap (λ z. triplet_numbers l' z s) (sym b) ∙ ap (triplet_numbers l' u') (sym c)

pub fewer_left : (u s z : ℤ) (o p : Option ℤ) → (s ≡ pos 0 → ⊥) → o ≡ Some z → goes_on z u s ≡ true
    → MatchOption p (goes_on (z +ℤ s) u s ≡ false) (λ x. (x ≡ z +ℤ s) × (goes_on x u s ≡ true)) → length (left_numbers p u s) < length (left_numbers o u s)
fewer_left u s z o p h e g m =
    let now = ap (λ o. length (left_numbers o u s)) e ∙ ap length (numbers_more z u s h g) in
    let next = ap length (numbers_first (z +ℤ s) u s p h m) in
    omega (arith, now, next)

module _ {B : Type 0} (f : ℤ → Result B Fault) (u s z : ℤ) (whole : Result (List B) Fault) (done : List B) (h : s ≡ pos 0 → ⊥) (g : goes_on z u s ≡ true) (so_far : whole ≡ left_of f done (triplet_numbers z u s)) where
  pub triplet_fault : (e : Fault) → f z ≡ Err e → whole ≡ Err e
  triplet_fault e k = so_far ∙ ap (left_of f done) (numbers_more z u s h g) ∙ left_fault f done z (triplet_numbers (z +ℤ s) u s) e k

  pub triplet_more : (y : B) → f z ≡ Ok y → whole ≡ left_of f (done ++ y ∷ []) (triplet_numbers (z +ℤ s) u s)
  triplet_more y k = so_far ∙ ap (left_of f done) (numbers_more z u s h g) ∙ left_more f done z (triplet_numbers (z +ℤ s) u s) y k

-- ---- within the bounds

each_bounded : (b : ℤ × ℤ) (zs : List ℤ) → each (bounded b) zs ≡ cond (all_stand_in b zs) (Ok zs) (Err Bounds)
each_bounded b [] = refl
each_bounded b (z ∷ zs) = ap (λ (r : Result (List ℤ) Fault). do y ← bounded b z; ys ← r; Ok (y ∷ ys)) (each_bounded b zs) ∙ by (is_within_bounds b z) (all_stand_in b zs)
  where
    by : (t u : Bool) → ◌≡◌ {A = Result (List ℤ) Fault} (do y ← cond t (Ok z) (Err Bounds); ys ← cond u (Ok zs) (Err Bounds); Ok (y ∷ ys)) (cond (t && u) (Ok (z ∷ zs)) (Err Bounds))
    by true true = refl
    by true false = refl
    by false u = refl

pub along_each : (b : ℤ × ℤ) (zs : List ℤ) → along b zs ≡ (do ys ← each (bounded b) zs; Ok (Along ys))
along_each b zs = by (all_stand_in b zs) ∙ sym (ap (λ (r : Result (List ℤ) Fault). let q : Result Axis Fault = (do ys ← r; Ok (Along ys)) in q) (each_bounded b zs))
  where
    by : (t : Bool) → ◌≡◌ {A = Result Axis Fault} (cond t (Ok (Along zs)) (Err Bounds)) (do ys ← cond t (Ok zs) (Err Bounds); Ok (Along ys))
    by true = refl
    by false = refl

pub along_is : (b : ℤ × ℤ) (zs ys : List ℤ) → each (bounded b) zs ≡ Ok ys → along b zs ≡ Ok (Along ys)
along_is b zs ys e = along_each b zs ∙ ap (λ (r : Result (List ℤ) Fault). let q : Result Axis Fault = (do ys ← r; Ok (Along ys)) in q) e

pub along_fault : (b : ℤ × ℤ) (zs : List ℤ) (f : Fault) → each (bounded b) zs ≡ Err f → along b zs ≡ Err f
along_fault b zs f e = along_each b zs ∙ ap (λ (r : Result (List ℤ) Fault). let q : Result Axis Fault = (do ys ← r; Ok (Along ys)) in q) e
