-- An affine form as callers keep it is that of its linear form.
use Rattle.std.proofs.Common.{◌≡◌, ◌≢◌, ℕ, zero, suc, ◌+◌, ◌-◌, ◌≤◌, ◌<◌, ℤ, pos, Bool, true, false, cond, List, [], ◌∷◌, ◌++◌, map, take, drop, length, get_or, replicate, refl, sym, ap, subst, ◌∙◌, arith}
use mathlib.Core.Path.{ap₂}
use Rattle.std.specs.Prelude.{All}
use Rattle.std.specs.Ordering.{int_eq}
use Rattle.std.specs.List.Sorted.{IsStrictlyIncreasing}
use Rattle.std.proofs.lemmas.Bool.Decides.{Decides-int_eq}
use Rattle.std.proofs.lemmas.List.{take-append-drop, length-append}
use Rattle.subscripts.specs.Shapes.{IsForm}
use Rattle.subscripts.specs.declared.affine.Affine.{Affine}
use Rattle.linear_forms.specs.Places.{padded, terms_from}
use Rattle.linear_forms.specs.Affines.{IsAffineOf}
use Rattle.array_form.specs.holds.Surroundings.{coefficients_from, form_of_affine}

-- ---- symbols

unequal : (z : ℤ) → z ≢ pos 0 → int_eq z (pos 0) ≡ false
unequal z h = by (int_eq z (pos 0)) refl
  where
    by : (b : Bool) → int_eq z (pos 0) ≡ b → b ≡ false
    by true e = absurd (h ((Decides-int_eq z (pos 0)).0 e))
    by false e = refl

equal : (z : ℤ) → z ≡ pos 0 → int_eq z (pos 0) ≡ true
equal z h = (Decides-int_eq z (pos 0)).1 h

skipped : (o m : ℕ) (cs : List ℤ) → terms_from o (replicate m (pos 0) ++ cs) ≡ terms_from (o + m) cs
skipped o zero cs = let same : o ≡ o + 0 = omega arith in ap (λ k. terms_from k cs) same
skipped o (suc m) cs = skipped (suc o) m cs ∙ (let same : suc o + m ≡ o + suc m = omega arith in ap (λ k. terms_from k cs) same)

abbrev IsUnused : ℕ × ℤ → Type 0
IsUnused t = (t.0 ≡ 0) × (t.1 ≡ pos 0)

tail_of : {A : Type 0} (P : A → Type 0) (x : A) (xs : List A) → All P (x ∷ xs) → All P xs
tail_of P x xs h = λ k d g. h (suc k) d (omega arith)

rises_tail : (x : ℕ) (xs : List ℕ) → IsStrictlyIncreasing (x ∷ xs) → IsStrictlyIncreasing xs
rises_tail x xs h k g =
    let e : suc k + 1 ≡ suc (k + 1) = omega arith in
    let r : get_or xs k 0 < get_or (x ∷ xs) (suc k + 1) 0 = h (suc k) (omega arith) in
    subst (λ m. get_or xs k 0 < get_or (x ∷ xs) m 0) e r

terms_are : (o used : ℕ) (ts : List (ℕ × ℤ)) → ((k : ℕ) → 0 < length (take used ts) → o ≤ (get_or (take used ts) 0 (0, pos 0)).0)
    → IsStrictlyIncreasing (map (λ (t : ℕ × ℤ). t.0) (take used ts)) → All (λ (t : ℕ × ℤ). t.1 ≢ pos 0) (take used ts) → All IsUnused (drop used ts)
    → terms_from o (coefficients_from o ts) ≡ take used ts
terms_are o zero [] low rising filled unused = refl
terms_are o zero (t ∷ ts) low rising filled unused =
    ap (λ b. terms_from o (cond b [] (replicate (t.0 - o) (pos 0) ++ t.1 ∷ coefficients_from (suc t.0) ts))) (equal t.1 (unused 0 t (omega arith)).1)
terms_are o (suc used) [] low rising filled unused = refl
terms_are o (suc used) (t ∷ ts) low rising filled unused =
    let nonzero : int_eq t.1 (pos 0) ≡ false = unequal t.1 (filled 0 t (omega arith)) in
    let least : o ≤ t.0 = low 0 (omega arith) in
    let place : o + (t.0 - o) ≡ t.0 = omega arith in
    let next : (k : ℕ) → 0 < length (take used ts) → suc t.0 ≤ (get_or (take used ts) 0 (0, pos 0)).0 = λ k g. above t.0 (take used ts) rising g in
    ap (λ b. terms_from o (cond b [] (replicate (t.0 - o) (pos 0) ++ t.1 ∷ coefficients_from (suc t.0) ts))) nonzero
    ∙ skipped o (t.0 - o) (t.1 ∷ coefficients_from (suc t.0) ts)
    ∙ ap (λ k. terms_from k (t.1 ∷ coefficients_from (suc t.0) ts)) place
    ∙ ap (λ b. cond b (terms_from (suc t.0) (coefficients_from (suc t.0) ts)) (t ∷ terms_from (suc t.0) (coefficients_from (suc t.0) ts))) nonzero
    ∙ ap (λ us. t ∷ us) (terms_are (suc t.0) used ts next (rises_tail t.0 (map (λ (t : ℕ × ℤ). t.0) (take used ts)) rising) (tail_of (λ (t : ℕ × ℤ). t.1 ≢ pos 0) t (take used ts) filled) unused)
  where
    above : (n : ℕ) (us : List (ℕ × ℤ)) → IsStrictlyIncreasing (n ∷ map (λ (t : ℕ × ℤ). t.0) us) → 0 < length us → suc n ≤ (get_or us 0 (0, pos 0)).0
    above n [] r g = absurd (omega arith)
    above n (u ∷ us) r g = let h : n < u.0 = r 0 (omega arith) in omega arith

all_unused : (ts : List (ℕ × ℤ)) → All IsUnused ts → ts ≡ replicate (length ts) (0, pos 0)
all_unused [] h = refl
all_unused (t ∷ ts) h =
    let first = h 0 t (omega arith) in
    ap₂ (λ (u : ℕ × ℤ) us. u ∷ us) (ap₂ (λ (x : ℕ) (y : ℤ). (x, y)) first.0 first.1) (all_unused ts (tail_of IsUnused t ts h))

padded_are : (used : ℕ) (ts : List (ℕ × ℤ)) → length ts ≡ 8 → All IsUnused (drop used ts) → padded (take used ts) ≡ ts
padded_are used ts n h =
    let whole = take-append-drop used ts in
    let both : length (take used ts) + length (drop used ts) ≡ 8 = sym (length-append (take used ts) (drop used ts)) ∙ ap length whole ∙ n in
    let rest : 8 - length (take used ts) ≡ length (drop used ts) = omega arith in
    ap (λ k. take used ts ++ replicate k (0, pos 0)) rest ∙ ap (λ us. take used ts ++ us) (sym (all_unused (drop used ts) h)) ∙ whole

-- ---- loops

front_taken : (n : ℕ) (xs ys : List ℤ) → n ≤ length xs → take n (take n xs ++ ys) ≡ take n xs
front_taken zero xs ys h = refl
front_taken (suc n) [] ys h = absurd (omega arith)
front_taken (suc n) (x ∷ xs) ys h = ap (λ l. x ∷ l) (front_taken n xs ys (omega arith))

front_dropped : (n : ℕ) (xs ys : List ℤ) → n ≤ length xs → drop n (take n xs ++ ys) ≡ ys
front_dropped zero xs ys h = refl
front_dropped (suc n) [] ys h = absurd (omega arith)
front_dropped (suc n) (x ∷ xs) ys h = front_dropped n xs ys (omega arith)

zero_past : (n : ℕ) (xs : List ℤ) → ((k : ℕ) → n ≤ k → get_or xs k (pos 0) ≡ pos 0) → (k : ℕ) → get_or xs k (pos 0) ≡ get_or (take n xs) k (pos 0)
zero_past zero xs h k = h k (omega arith)
zero_past (suc n) [] h k = refl
zero_past (suc n) (x ∷ xs) h zero = refl
zero_past (suc n) (x ∷ xs) h (suc k) = zero_past n xs (λ j g. h (suc j) (omega arith)) k

-- ---- both

pub affine_of_form : (n : ℕ) (a : Affine) → n ≤ 7 → length a.loops ≡ 7 → length a.syms ≡ 8 → IsForm n a → IsAffineOf n (form_of_affine n a) a
affine_of_form n a few seven eight h =
    let behind = coefficients_from 0 a.syms in
    let used = h.symbols.0 in
    let symbols = h.symbols.1 in
    let terms : terms_from 0 behind ≡ take used a.syms = terms_are 0 used a.syms (λ k g. omega arith) symbols.rising symbols.nonzero symbols.unused in
    record {
      loops = λ k. zero_past n a.loops h.past_depth k ∙ ap (λ l. get_or l k (pos 0)) (sym (front_taken n a.loops behind (omega arith)));
      symbols = sym (ap (λ l. padded (terms_from 0 l)) (front_dropped n a.loops behind (omega arith)) ∙ ap padded terms ∙ padded_are used a.syms eight symbols.unused);
      constant = refl;
    }
