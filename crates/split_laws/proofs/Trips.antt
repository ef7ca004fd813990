-- The trip of a piece, and the number of turns.
use Rattle.std.proofs.Common.{◌≡◌, ◌≢◌, refl, sym, ap, ◌∙◌, subst, ℕ, zero, suc, ◌+◌, ◌*◌, ◌/◌, ◌^◌, ◌≤◌, ◌<◌, ℤ, pos, negsuc, neg_ℤ, ◌+ℤ◌, ◌-ℤ◌, ◌*ℤ◌, Bool, true, false, cond, Result, Ok, Err, nat_le, int_div, arith}
use Rattle.std.proofs.lemmas.Int.{ints}
use Rattle.std.proofs.lemmas.Bool.Decides.{Decides-ltb}
use Rattle.std.proofs.lemmas.Nat.{div-mul-add}
use Rattle.std.proofs.Math.IntN.{suc_ℤ-*ℤ, pos-*ℤ-negsuc, zero-*ℤ}
use Rattle.std.proofs.Math.Nat.{mul-div_cancel, div-mul-le_self, mul-le-mul_right}
use Rattle.tree.specs.Steps.{◌>>=◌}
use Rattle.tree.specs.Operators.{fits}
use Rattle.tree.specs.declared.ops.Fault.{Fault}
use Rattle.tree.specs.declared.ops.Fault.TheVariants.{Overflow, TripCount}
use Rattle.meaning.specs.Sections.{not_negative}
use Rattle.meaning.specs.Value.{exact, as_count, trip_count}
use Rattle.nest_order.proofs.runs.Results.{both_ok, after_ok, ok_same}
use Rattle.split_laws.specs.Pieces.{after_turns}

-- ---- multiples

pub next_turn : (m1 m3 : ℤ) (k : ℕ) → after_turns m1 m3 k +ℤ m3 ≡ after_turns m1 m3 (suc k)
next_turn m1 m3 k = let e : pos (suc k) *ℤ m3 ≡ pos k *ℤ m3 +ℤ m3 = suc_ℤ-*ℤ (pos k) m3 in omega (arith, ints, e)

pub no_turn : (m1 m3 : ℤ) → after_turns m1 m3 0 ≡ m1
no_turn m1 m3 = let e : pos 0 *ℤ m3 ≡ pos 0 = zero-*ℤ m3 in omega (arith, ints, e)

pub both_turns : (m3 : ℤ) (k j : ℕ) → pos (k + j) *ℤ m3 ≡ pos k *ℤ m3 +ℤ pos j *ℤ m3
both_turns m3 zero j = let e : pos 0 *ℤ m3 ≡ pos 0 = zero-*ℤ m3 in omega (arith, ints, e)
both_turns m3 (suc k) j =
    let e : pos (suc k) *ℤ m3 ≡ pos k *ℤ m3 +ℤ m3 = suc_ℤ-*ℤ (pos k) m3 in
    let f : pos (suc (k + j)) *ℤ m3 ≡ pos (k + j) *ℤ m3 +ℤ m3 = suc_ℤ-*ℤ (pos (k + j)) m3 in
    let g = both_turns m3 k j in
    omega (arith, ints, e, f, g)

-- ---- quotients

small : (a n : ℕ) → a < n → a / n ≡ 0
small a n h = ap (λ m. m / n) (let e : a ≡ 0 * n + a = grind arith in e) ∙ div-mul-add 0 n a h

down : (m n : ℕ) → not_negative (int_div (neg_ℤ (pos m)) (negsuc n)) ≡ m / suc n
down zero n = (let e = small 0 (suc n) (omega arith) in ap (λ q. not_negative (neg_ℤ (pos q))) e ∙ sym e)
down (suc m) n = refl

pub by_stride : (n : ℕ) (a : ℤ) → a ≢ pos 0 → not_negative (int_div (pos n *ℤ a) a) ≡ n
by_stride n (pos zero) h = absurd (h refl)
by_stride n (pos (suc m)) h = mul-div_cancel n {n = suc m} (omega arith)
by_stride n (negsuc m) h = ap (λ z. not_negative (int_div z (negsuc m))) (pos-*ℤ-negsuc n m) ∙ (down (n * suc m) m ∙ mul-div_cancel n {n = suc m} (omega arith))

counted_by : (z : ℤ) → 1 ≤ not_negative z → z ≡ pos (not_negative z)
counted_by (pos n) h = refl
counted_by (negsuc n) h = absurd (omega (arith, h))

quotient_is : (n : ℕ) (a : ℤ) → a ≢ pos 0 → int_div (pos (suc n) *ℤ a) a ≡ pos (suc n)
quotient_is n a h =
    let e = by_stride (suc n) a h in
    counted_by (int_div (pos (suc n) *ℤ a) a) (let q : 1 ≤ not_negative (int_div (pos (suc n) *ℤ a) a) = omega (arith, e) in q) ∙ ap pos e

-- ---- what a count says

exactly : (z n : ℤ) → exact z ≡ Ok n → (fits 127 z ≡ true) × (n ≡ z)
exactly z n e = by (fits 127 z) refl e
  where
    by : (b : Bool) → fits 127 z ≡ b → ◌≡◌ {A = Result ℤ Fault} (cond b (Ok z) (Err Overflow)) (Ok n) → (b ≡ true) × (n ≡ z)
    by true f e = (refl, sym (ok_same {F = Fault} z n e))
    by false f e = cc

fitting : (z : ℤ) → fits 127 z ≡ true → exact z ≡ Ok z
fitting z e = ap (λ b. let r : Result ℤ Fault = cond b (Ok z) (Err Overflow) in r) e

count_is : (z : ℤ) (t : ℕ) → as_count z ≡ Ok t → 1 ≤ t → (z ≡ pos t) × (t ≤ 2147483646)
count_is (pos k) t e h = by (nat_le k 2147483646) refl e
  where
    by : (b : Bool) → nat_le k 2147483646 ≡ b → ◌≡◌ {A = Result ℕ Fault} (cond b (Ok k) (Err TripCount)) (Ok t) → (pos k ≡ pos t) × (t ≤ 2147483646)
    by true f e = let g : k ≡ t = ok_same {F = Fault} k t e in let h : k ≤ 2147483646 = grind arith in (ap pos g, omega (arith, g, h))
    by false f e = cc
count_is (negsuc k) t e h = let g : 0 ≡ t = ok_same {F = Fault} 0 t e in absurd (omega (arith, g, h))

count_of : (k : ℕ) → k ≤ 2147483646 → as_count (pos k) ≡ Ok k
count_of k h = ap (λ b. let r : Result ℕ Fault = cond b (Ok k) (Err TripCount) in r) (let e : nat_le k 2147483646 ≡ true = grind arith in e)

negative_fits : (m : ℕ) → m ≤ 2 ^ 127 → fits 127 (neg_ℤ (pos m)) ≡ true
negative_fits zero h = (Decides-ltb 0 (2 ^ 127)).1 (omega arith)
negative_fits (suc m) h = (Decides-ltb m (2 ^ 127)).1 (omega (arith, h))

-- so many multiples of the step are within 128 bits
multiple_fits : (d a : ℤ) (t n : ℕ) → fits 127 d ≡ true → a ≢ pos 0 → int_div d a ≡ pos t → 1 ≤ t → n ≤ t → fits 127 (pos n *ℤ a) ≡ true
multiple_fits (pos d) (pos zero) t n f nz e h k = absurd (nz refl)
multiple_fits (negsuc d) (pos zero) t n f nz e h k = absurd (nz refl)
multiple_fits (pos d) (pos (suc a)) t n f nz e h k =
    let q : d / suc a ≡ t = ap not_negative e in
    let u : t * suc a ≤ d = subst (λ m. m * suc a ≤ d) q (div-mul-le_self d (suc a)) in
    let v : n * suc a ≤ t * suc a = mul-le-mul_right (suc a) k in
    let w : d < 2 ^ 127 = (Decides-ltb d (2 ^ 127)).0 f in
    (Decides-ltb (n * suc a) (2 ^ 127)).1 (omega (arith, u, v, w))
multiple_fits (negsuc d) (pos (suc a)) t n f nz e h k = absurd (not_positive (suc d / suc a) t e h)
  where
    not_positive : (q t : ℕ) → neg_ℤ (pos q) ≡ pos t → 1 ≤ t → ⊥
    not_positive zero t e h = let g : 0 ≡ t = ap not_negative e in omega (arith, g, h)
    not_positive (suc q) t e h = cc
multiple_fits (pos d) (negsuc a) t n f nz e h k = absurd (not_positive (d / suc a) t e h)
  where
    not_positive : (q t : ℕ) → neg_ℤ (pos q) ≡ pos t → 1 ≤ t → ⊥
    not_positive zero t e h = let g : 0 ≡ t = ap not_negative e in omega (arith, g, h)
    not_positive (suc q) t e h = cc
multiple_fits (negsuc d) (negsuc a) t n f nz e h k =
    let q : suc d / suc a ≡ t = ap not_negative e in
    let u : t * suc a ≤ suc d = subst (λ m. m * suc a ≤ suc d) q (div-mul-le_self (suc d) (suc a)) in
    let v : n * suc a ≤ t * suc a = mul-le-mul_right (suc a) k in
    let w : d < 2 ^ 127 = (Decides-ltb d (2 ^ 127)).0 f in
    let x : n * suc a ≤ 2 ^ 127 = omega (arith, u, v, w) in
    ap (fits 127) (pos-*ℤ-negsuc n a) ∙ negative_fits (n * suc a) x

-- the trip of a piece of a loop that has t turns
pub piece_trip : (m1 m2 m3 : ℤ) (t k more : ℕ) → m3 ≢ pos 0 → trip_count m1 m2 m3 ≡ Ok t → suc more ≤ t
    → trip_count (after_turns m1 m3 k) (after_turns m1 m3 (k + more)) m3 ≡ Ok (suc more)
piece_trip m1 m2 m3 t k more nz e h =
    let a = both_ok (exact (m2 -ℤ m1)) (λ a. (do b ← exact (a +ℤ m3); q ← exact (int_div b m3); as_count q)) t e in
    let b = both_ok (exact (a.0 +ℤ m3)) (λ b. (do q ← exact (int_div b m3); as_count q)) t a.2 in
    let q = both_ok (exact (int_div b.0 m3)) as_count t b.2 in
    let some : 1 ≤ t = omega (arith, h) in
    let wide : fits 127 b.0 ≡ true = let x = exactly (a.0 +ℤ m3) b.0 b.1 in ap (fits 127) x.1 ∙ x.0 in
    let turns : int_div b.0 m3 ≡ pos t = sym (exactly (int_div b.0 m3) q.0 q.1).1 ∙ (count_is q.0 t q.2 some).0 in
    let low : t ≤ 2147483646 = (count_is q.0 t q.2 some).1 in
    let first : fits 127 (pos more *ℤ m3) ≡ true = multiple_fits b.0 m3 t more wide nz turns some (omega (arith, h)) in
    let second : fits 127 (pos (suc more) *ℤ m3) ≡ true = multiple_fits b.0 m3 t (suc more) wide nz turns some h in
    let third : fits 127 (pos (suc more)) ≡ true = (Decides-ltb (suc more) (2 ^ 127)).1 (omega (arith, h, low)) in
    let g = both_turns m3 k more in
    let apart : after_turns m1 m3 (k + more) -ℤ after_turns m1 m3 k ≡ pos more *ℤ m3 = omega (arith, ints, g) in
    let n : pos (suc more) *ℤ m3 ≡ pos more *ℤ m3 +ℤ m3 = suc_ℤ-*ℤ (pos more) m3 in
    let one : exact (after_turns m1 m3 (k + more) -ℤ after_turns m1 m3 k) ≡ Ok (pos more *ℤ m3) = ap exact apart ∙ fitting (pos more *ℤ m3) first in
    let two : exact (pos more *ℤ m3 +ℤ m3) ≡ Ok (pos (suc more) *ℤ m3) = ap exact (sym n) ∙ fitting (pos (suc more) *ℤ m3) second in
    let three : exact (int_div (pos (suc more) *ℤ m3) m3) ≡ Ok (pos (suc more)) = ap exact (quotient_is more m3 nz) ∙ fitting (pos (suc more)) third in
    after_ok (exact (after_turns m1 m3 (k + more) -ℤ after_turns m1 m3 k)) (λ a. (do b ← exact (a +ℤ m3); q ← exact (int_div b m3); as_count q)) (pos more *ℤ m3) one
    ∙ (after_ok (exact (pos more *ℤ m3 +ℤ m3)) (λ b. (do q ← exact (int_div b m3); as_count q)) (pos (suc more) *ℤ m3) two
    ∙ (after_ok (exact (int_div (pos (suc more) *ℤ m3) m3)) as_count (pos (suc more)) three ∙ count_of (suc more) (omega (arith, h, low))))
