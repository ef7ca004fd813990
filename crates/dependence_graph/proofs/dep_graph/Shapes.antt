-- An affine form of a linear form keeps the limits of subscripts.
use Rattle.std.proofs.Common.{◌≡◌, ◌≢◌, ℕ, zero, suc, ◌+◌, ◌-◌, ◌<◌, ◌≤◌, ◌^◌, refl, sym, ap, ◌∙◌, subst, arith, Option, Some, None, Bool, true, false, ◌&&◌, cond, List, [], ◌∷◌, ◌++◌, length, map, take, drop, get_or, replicate, leb}
use Rattle.std.specs.Prelude.{ℤ, pos, negsuc, nat_abs, unsigned_abs, All}
use Rattle.std.specs.List.Sorted.{IsStrictlyIncreasing}
use Rattle.std.specs.Ordering.{int_eq}
use Rattle.std.proofs.lemmas.Bool.{and_parts, leb-true}
use Rattle.std.proofs.lemmas.Bool.Decides.{Decides-int_eq}
use Rattle.std.proofs.lemmas.Int.{ints}
use Rattle.std.proofs.lemmas.List.{get_or-take, get_or_past, length-take, length-append}
use Rattle.std.proofs.lemmas.List.Elements.{All-append, All-cons, All-from_get_or, All-nil, All-replicate, All-same}
use Rattle.subscripts.specs.Shapes.{AreSymbols, IsForm, IsSmall}
use Rattle.subscripts.specs.declared.affine.Affine.{Affine}
use Rattle.linear_forms.specs.Linear.{Form, all_small, is_limited, is_small, not_zero}
use Rattle.linear_forms.specs.Places.{padded, terms_from}
use Rattle.linear_forms.specs.Affines.{IsAffineOf}

small_is : (z : ℤ) → is_small z ≡ true → IsSmall z
small_is z h = let e = leb-true (nat_abs z) (2 ^ 40) h in omega (arith, ints)

-- the coefficients place by place, 0 past the end
all_small_at : (cs : List ℤ) (k : ℕ) → all_small cs ≡ true → IsSmall (get_or cs k (pos 0))
all_small_at [] k h = omega (arith, ints)
all_small_at (c ∷ cs) zero h = small_is c (and_parts (is_small c) (all_small cs) h).0
all_small_at (c ∷ cs) (suc k) h = all_small_at cs k (and_parts (is_small c) (all_small cs) h).1

take_small : (n : ℕ) (cs : List ℤ) → all_small cs ≡ true → all_small (take n cs) ≡ true
take_small zero cs h = refl
take_small (suc n) [] h = refl
take_small (suc n) (c ∷ cs) h =
    let p = and_parts (is_small c) (all_small cs) h in
    ap (λ b. b && all_small (take n cs)) p.0 ∙ take_small n cs p.1

drop_small : (n : ℕ) (cs : List ℤ) → all_small cs ≡ true → all_small (drop n cs) ≡ true
drop_small zero cs h = h
drop_small (suc n) [] h = refl
drop_small (suc n) (c ∷ cs) h = drop_small n cs (and_parts (is_small c) (all_small cs) h).1

terms_small : (o : ℕ) (cs : List ℤ) → all_small cs ≡ true → All (λ (t : ℕ × ℤ). IsSmall t.1) (terms_from o cs)
terms_small o [] h = All-nil (λ (t : ℕ × ℤ). IsSmall t.1)
terms_small o (c ∷ cs) h = by (int_eq c (pos 0)) (terms_small (suc o) cs (and_parts (is_small c) (all_small cs) h).1)
  where
    by : (b : Bool) → All (λ (t : ℕ × ℤ). IsSmall t.1) (terms_from (suc o) cs) → All (λ (t : ℕ × ℤ). IsSmall t.1) (cond b (terms_from (suc o) cs) ((o, c) ∷ terms_from (suc o) cs))
    by true rest = rest
    by false rest = All-cons (λ (t : ℕ × ℤ). IsSmall t.1) (o, c) (terms_from (suc o) cs) (small_is c (and_parts (is_small c) (all_small cs) h).0) rest

terms_nonzero : (o : ℕ) (cs : List ℤ) → All (λ (t : ℕ × ℤ). t.1 ≢ pos 0) (terms_from o cs)
terms_nonzero o [] = All-nil (λ (t : ℕ × ℤ). t.1 ≢ pos 0)
terms_nonzero o (c ∷ cs) = by (int_eq c (pos 0)) refl (terms_nonzero (suc o) cs)
  where
    differ : true ≡ false → ⊥
    differ f = cc

    by : (b : Bool) → int_eq c (pos 0) ≡ b → All (λ (t : ℕ × ℤ). t.1 ≢ pos 0) (terms_from (suc o) cs) → All (λ (t : ℕ × ℤ). t.1 ≢ pos 0) (cond b (terms_from (suc o) cs) ((o, c) ∷ terms_from (suc o) cs))
    by true e rest = rest
    by false e rest =
        All-cons (λ (t : ℕ × ℤ). t.1 ≢ pos 0) (o, c) (terms_from (suc o) cs)
        (λ z. differ (sym ((Decides-int_eq c (pos 0)).1 z) ∙ e)) rest

-- each place is at least the first one, and above those before it
abbrev Rise : ℕ → List ℕ → Type 0
Rise o [] = Unit {0}
Rise o (n ∷ ns) = (o ≤ n) × Rise (suc n) ns

lower : (o p : ℕ) (ns : List ℕ) → o ≤ p → Rise p ns → Rise o ns
lower o p [] h r = tt
lower o p (n ∷ ns) h r = let l = r.0 in (omega arith, r.1)

terms_rise : (o : ℕ) (cs : List ℤ) → Rise o (map (λ (t : ℕ × ℤ). t.0) (terms_from o cs))
terms_rise o [] = tt
terms_rise o (c ∷ cs) = by (int_eq c (pos 0)) (terms_rise (suc o) cs)
  where
    by : (b : Bool) → Rise (suc o) (map (λ (t : ℕ × ℤ). t.0) (terms_from (suc o) cs)) → Rise o (map (λ (t : ℕ × ℤ). t.0) (cond b (terms_from (suc o) cs) ((o, c) ∷ terms_from (suc o) cs)))
    by true rest = lower o (suc o) (map (λ (t : ℕ × ℤ). t.0) (terms_from (suc o) cs)) (omega arith) rest
    by false rest = (omega arith, rest)

rising : (o : ℕ) (ns : List ℕ) → Rise o ns → (k : ℕ) → suc k < length ns → get_or ns k 0 < get_or ns (suc k) 0
rising o [] r k h = absurd (omega arith)
rising o (n ∷ []) r k h = absurd (omega arith)
rising o (n ∷ m ∷ ms) r zero h = let l = r.1.0 in omega arith
rising o (n ∷ m ∷ ms) r (suc k) h = rising (suc n) (m ∷ ms) r.1 k (omega arith)

increasing : (o : ℕ) (ns : List ℕ) → Rise o ns → IsStrictlyIncreasing ns
increasing o ns r k h = subst (λ j. get_or ns k 0 < get_or ns j 0) (omega arith) (rising o ns r k (omega arith))

take_front : {A : Type 0} (xs ys : List A) → take (length xs) (xs ++ ys) ≡ xs
take_front [] ys = refl
take_front (x ∷ xs) ys = ap (λ zs. x ∷ zs) (take_front xs ys)

drop_front : {A : Type 0} (xs ys : List A) → drop (length xs) (xs ++ ys) ≡ ys
drop_front [] ys = refl
drop_front (x ∷ xs) ys = drop_front xs ys

terms_are : (cs : List ℤ) (m : ℕ) → AreSymbols (length (terms_from 0 cs)) (terms_from 0 cs ++ replicate m (0, pos 0))
terms_are cs m =
    let ts = terms_from 0 cs in
    record {
      rising = subst (λ (us : List (ℕ × ℤ)). IsStrictlyIncreasing (map (λ (t : ℕ × ℤ). t.0) us)) (sym (take_front ts (replicate m (0, pos 0))))
          (increasing 0 (map (λ (t : ℕ × ℤ). t.0) ts) (terms_rise 0 cs));
      nonzero = All-same (λ (t : ℕ × ℤ). t.1 ≢ pos 0) (take (length ts) (ts ++ replicate m (0, pos 0))) ts (take_front ts (replicate m (0, pos 0))) (terms_nonzero 0 cs);
      unused = All-same (λ (t : ℕ × ℤ). (t.0 ≡ 0) × (t.1 ≡ pos 0)) (drop (length ts) (ts ++ replicate m (0, pos 0))) (replicate m (0, pos 0)) (drop_front ts (replicate m (0, pos 0)))
          (All-replicate (λ (t : ℕ × ℤ). (t.0 ≡ 0) × (t.1 ≡ pos 0)) m (0, pos 0) (refl, refl));
    }

pub affine_is_form : (n : ℕ) (f : Form) (a : Affine) → is_limited n f ≡ true → IsAffineOf n f a → IsForm n a
affine_is_form n f a l h =
    let p = and_parts (all_small f.coefficients) (is_small f.constant && leb (not_zero (drop n f.coefficients)) 8) l in
    let q = and_parts (is_small f.constant) (leb (not_zero (drop n f.coefficients)) 8) p.1 in
    let ds = drop n f.coefficients in
    record {
      past_depth = λ k g. h.loops k ∙ get_or_past (take n f.coefficients) k (pos 0) (omega (arith, length-take n f.coefficients));
      symbols = (length (terms_from 0 ds), subst (λ (ts : List (ℕ × ℤ)). AreSymbols (length (terms_from 0 ds)) ts) (sym h.symbols) (terms_are ds _));
      small_loops = All-from_get_or IsSmall a.loops (pos 0) (λ i g. subst IsSmall (sym (h.loops i)) (all_small_at (take n f.coefficients) i (take_small n f.coefficients p.0)));
      small_symbols = All-same (λ (t : ℕ × ℤ). IsSmall t.1) a.syms (padded (terms_from 0 ds)) h.symbols
          (All-append (λ (t : ℕ × ℤ). IsSmall t.1) (terms_from 0 ds) (replicate (8 - length (terms_from 0 ds)) (0, pos 0)) (terms_small 0 ds (drop_small n f.coefficients p.0))
          (All-replicate (λ (t : ℕ × ℤ). IsSmall t.1) (8 - length (terms_from 0 ds)) (0, pos 0) (omega (arith, ints))));
      small_constant = subst IsSmall (sym h.constant) (small_is f.constant q.0);
    }
