-- Lists of coefficients of linear forms: which are alike, and their fronts.
use mathlib.Core.Path.{ap₂}
use Rattle.std.proofs.Common.{◌≡◌, refl, sym, ap, ◌∙◌, ℕ, zero, suc, ◌+◌, ◌≤◌, ℤ, pos, negsuc, ◌+ℤ◌, ◌*ℤ◌, Bool, true}
use Rattle.std.proofs.Common.{false, cond, ◌&&◌, List, [], ◌∷◌, ◌++◌, map, drop, length, get_or, replicate, arith}
use Rattle.std.specs.Ordering.{int_eq}
use Rattle.std.specs.Prelude.{nat_le}
use Rattle.std.proofs.Math.IntN.{*ℤ-zero, +ℤ_idl}
use Rattle.std.proofs.lemmas.Bool.{leb-true, le-leb}
use Rattle.std.proofs.lemmas.Int.{ints}
use Rattle.std.proofs.lemmas.List.{get_or-drop}
use Rattle.linear_forms.proofs.Sizes.{both}
use Rattle.linear_forms.specs.Linear.{added, is_small, all_small, not_zero, is_limited}

-- ---- lists of coefficients that are alike, but for zeros at the end

abbrev pub AreAlike : List ℤ → List ℤ → Type 0
AreAlike cs ds = (k : ℕ) → get_or cs k (pos 0) ≡ get_or ds k (pos 0)

pub small_alike : (cs ds : List ℤ) → AreAlike cs ds → all_small cs ≡ all_small ds
small_alike [] [] h = refl
small_alike [] (d ∷ ds) h = small_alike [] ds (λ k. h (suc k)) ∙ ap (λ d. is_small d && all_small ds) (h zero)
small_alike (c ∷ cs) [] h = ap (λ c. is_small c && all_small cs) (h zero) ∙ small_alike cs [] (λ k. h (suc k))
small_alike (c ∷ cs) (d ∷ ds) h = ap₂ (λ c b. is_small c && b) (h zero) (small_alike cs ds (λ k. h (suc k)))

pub count_alike : (cs ds : List ℤ) → AreAlike cs ds → not_zero cs ≡ not_zero ds
count_alike [] [] h = refl
count_alike [] (d ∷ ds) h = count_alike [] ds (λ k. h (suc k)) ∙ ap (λ d. cond (int_eq d (pos 0)) (not_zero ds) (suc (not_zero ds))) (h zero)
count_alike (c ∷ cs) [] h = ap (λ c. cond (int_eq c (pos 0)) (not_zero cs) (suc (not_zero cs))) (h zero) ∙ count_alike cs [] (λ k. h (suc k))
count_alike (c ∷ cs) (d ∷ ds) h = ap₂ (λ c n. cond (int_eq c (pos 0)) n (suc n)) (h zero) (count_alike cs ds (λ k. h (suc k)))

pub drop_alike : (n : ℕ) (cs ds : List ℤ) → AreAlike cs ds → AreAlike (drop n cs) (drop n ds)
drop_alike n cs ds h k = get_or-drop n cs k (pos 0) ∙ (h (n + k) ∙ sym (get_or-drop n ds k (pos 0)))

pub limited_alike : (n : ℕ) (cs ds : List ℤ) (k : ℤ) → AreAlike cs ds → is_limited n (record { coefficients = cs; constant = k }) ≡ is_limited n (record { coefficients = ds; constant = k })
limited_alike n cs ds k h =
    ap₂ (λ a m. a && (is_small k && nat_le m 8)) (small_alike cs ds h) (count_alike (drop n cs) (drop n ds) (drop_alike n cs ds h))

pub added_at : (cs ds : List ℤ) (k : ℕ) → get_or (added cs ds) k (pos 0) ≡ get_or cs k (pos 0) +ℤ get_or ds k (pos 0)
added_at [] ds k = sym (+ℤ_idl (get_or ds k (pos 0)))
added_at (c ∷ cs) [] k = omega (arith, ints)
added_at (c ∷ cs) (d ∷ ds) zero = refl
added_at (c ∷ cs) (d ∷ ds) (suc k) = added_at cs ds k

pub multiple_at : (m : ℤ) (cs : List ℤ) (k : ℕ) → get_or (map (λ a. m *ℤ a) cs) k (pos 0) ≡ m *ℤ get_or cs k (pos 0)
multiple_at m [] k = sym (*ℤ-zero m)
multiple_at m (c ∷ cs) zero = refl
multiple_at m (c ∷ cs) (suc k) = multiple_at m cs k

-- ---- the front of a list of coefficients

pub small_front : (ps cs : List ℤ) → all_small (ps ++ cs) ≡ true → all_small ps ≡ true
small_front [] cs h = refl
small_front (p ∷ ps) cs h = let b = both (is_small p) (all_small (ps ++ cs)) h in ap (λ b. b && all_small ps) b.0 ∙ small_front ps cs b.1

pub small_next : (ps : List ℤ) (c : ℤ) (cs : List ℤ) → all_small (ps ++ c ∷ cs) ≡ true → is_small c ≡ true
small_next [] c cs h = (both (is_small c) (all_small cs) h).0
small_next (p ∷ ps) c cs h = small_next ps c cs (both (is_small p) (all_small (ps ++ c ∷ cs)) h).1

pub count_front : (ps cs : List ℤ) → not_zero ps ≤ not_zero (ps ++ cs)
count_front [] cs = omega arith
count_front (p ∷ ps) cs = by (int_eq p (pos 0)) (count_front ps cs)
  where
    by : (b : Bool) → not_zero ps ≤ not_zero (ps ++ cs) → cond b (not_zero ps) (suc (not_zero ps)) ≤ cond b (not_zero (ps ++ cs)) (suc (not_zero (ps ++ cs)))
    by true h = h
    by false h = omega (arith, h)

pub dropped_front : (n : ℕ) (ps cs : List ℤ) → not_zero (drop n ps) ≤ not_zero (drop n (ps ++ cs))
dropped_front zero ps cs = count_front ps cs
dropped_front (suc n) [] cs = omega arith
dropped_front (suc n) (p ∷ ps) cs = dropped_front n ps cs

pub limited_front : (n : ℕ) (ps cs : List ℤ) (k : ℤ) → is_limited n (record { coefficients = ps ++ cs; constant = k }) ≡ true → is_limited n (record { coefficients = ps; constant = pos 0 }) ≡ true
limited_front n ps cs k h =
    let parts = both (all_small (ps ++ cs)) (is_small k && nat_le (not_zero (drop n (ps ++ cs))) 8) h in
    let more = both (is_small k) (nat_le (not_zero (drop n (ps ++ cs))) 8) parts.1 in
    let most = leb-true (not_zero (drop n (ps ++ cs))) 8 more.1 in
    let fewer = dropped_front n ps cs in
    ap (λ b. b && (is_small (pos 0) && nat_le (not_zero (drop n ps)) 8)) (small_front ps cs parts.0) ∙ le-leb (not_zero (drop n ps)) 8 (omega (arith, most, fewer))

pub none_dropped : (n : ℕ) → not_zero (drop n []) ≤ 1
none_dropped zero = omega arith
none_dropped (suc n) = omega arith

-- ---- one coefficient

-- the coefficient c in the place k alone
abbrev pub alone : ℕ → ℤ → List ℤ
alone k c = replicate k (pos 0) ++ c ∷ []

pub next_at : (ps : List ℤ) (c : ℤ) (k : ℕ) → get_or (ps ++ c ∷ []) k (pos 0) ≡ get_or ps k (pos 0) +ℤ get_or (alone (length ps) c) k (pos 0)
next_at [] c k = sym (+ℤ_idl (get_or (c ∷ []) k (pos 0)))
next_at (p ∷ ps) c zero = omega (arith, ints)
next_at (p ∷ ps) c (suc k) = next_at ps c k

pub zero_alone : (n k : ℕ) → get_or (alone n (pos 0)) k (pos 0) ≡ pos 0
zero_alone zero zero = refl
zero_alone zero (suc k) = refl
zero_alone (suc n) zero = refl
zero_alone (suc n) (suc k) = zero_alone n k

pub scaled_alone : (m : ℤ) (n k : ℕ) → m *ℤ get_or (alone n (pos 1)) k (pos 0) ≡ get_or (alone n m) k (pos 0)
scaled_alone m zero zero = one m
  where
    one : (m : ℤ) → m *ℤ pos 1 ≡ m
    one m = omega (arith, ints)
scaled_alone m zero (suc k) = *ℤ-zero m
scaled_alone m (suc n) zero = *ℤ-zero m
scaled_alone m (suc n) (suc k) = scaled_alone m n k

pub scaled_alike : (m : ℤ) (n : ℕ) → AreAlike (map (λ a. m *ℤ a) (alone n (pos 1))) (alone n m)
scaled_alike m n k = multiple_at m (alone n (pos 1)) k ∙ scaled_alone m n k

pub negated_alone : (i n k : ℕ) → negsuc 0 *ℤ get_or (alone n (pos (suc i))) k (pos 0) ≡ get_or (alone n (negsuc i)) k (pos 0)
negated_alone i zero zero = one i
  where
    one : (i : ℕ) → negsuc 0 *ℤ pos (suc i) ≡ negsuc i
    one i = omega (arith, ints)
negated_alone i zero (suc k) = *ℤ-zero (negsuc 0)
negated_alone i (suc n) zero = *ℤ-zero (negsuc 0)
negated_alone i (suc n) (suc k) = negated_alone i n k

pub alone_small : (k : ℕ) (c : ℤ) → is_small c ≡ true → all_small (alone k c) ≡ true
alone_small zero c h = ap (λ b. b && true) h
alone_small (suc k) c h = alone_small k c h

pub alone_counts : (n k : ℕ) (c : ℤ) → not_zero (drop n (alone k c)) ≤ 1
alone_counts zero zero c = by (int_eq c (pos 0))
  where
    by : (b : Bool) → cond b 0 1 ≤ 1
    by true = omega arith
    by false = omega arith
alone_counts zero (suc k) c = alone_counts zero k c
alone_counts (suc n) zero c = none_dropped n
alone_counts (suc n) (suc k) c = alone_counts n k c
