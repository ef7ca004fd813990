-- The texts of forms over symbols are whole INTEGER expressions of FORTRAN 77, and call no function.
use Rattle.std.proofs.Common.{◌≡◌, refl, sym, ap, ap₂, subst, ℕ, zero, suc, ◌-◌, ◌^◌, ◌≤◌, ◌<◌, ℤ, pos, negsuc, Bool, true, false, ◌&&◌, cond, List, [], ◌∷◌, ◌++◌, drop, length, replicate, nat_le, Option, Some, None, arith}
use Rattle.std.specs.Option.{IsSomeAnd}
use Rattle.std.specs.Ordering.{int_eq}
use Rattle.std.specs.Prelude.{slice_get, ◌==◌}
use Rattle.std.proofs.lemmas.Bool.{leb-true}
use Rattle.components.specs.Lists.{Each}
use Rattle.components.proofs.ListLaws.{Each-append}
use Rattle.linear_forms.proofs.Sizes.{both}
use Rattle.linear_forms.specs.Affines.{IsAffineOf}
use Rattle.linear_forms.specs.Expressed.{minus_term, plus_term, term, variables, with_constant, with_term, with_terms}
use Rattle.linear_forms.specs.Linear.{Form, all_small, is_limited, is_small, not_zero}
use Rattle.linear_forms.specs.Places.{terms_from}
use Rattle.linear_forms.specs.Texts.{text_of, with_place, with_symbols}
use Rattle.meaning.specs.Calls.{calls_in}
use Rattle.meaning.specs.Depths.{depth_of}
use Rattle.meaning.specs.Typed.{declared, dimensions}
use Rattle.meaning.specs.Typed77.{HasKind, IsWhole}
use Rattle.pass_laws.proofs.PreparedNests.Normal.LoopSizes.{IsSized, eight_places, terms_counted}
use Rattle.pass_laws.proofs.PreparedNests.Normal.TextDepths.{text_deep}
use Rattle.pass_laws.proofs.PreparedRuns.Symbols.{IsNumber}
use Rattle.subscripts.specs.declared.affine.Affine.{Affine}
use Rattle.tree.specs.Plain.{Binary, Declaration, Expression, Extent, Number}
use Rattle.tree.specs.declared.ops.Kind.TheVariants.{Integer}
use Rattle.tree.specs.declared.ops.Op.TheVariants.{Mul}

-- ---- literals

small_pos : (n : ℕ) → is_small (pos n) ≡ true → n < 2 ^ 127
small_pos n h = let e : n ≤ 2 ^ 40 = leb-true n (2 ^ 40) h in omega (arith, e)

small_neg : (n : ℕ) → is_small (negsuc n) ≡ true → suc n < 2 ^ 127
small_neg n h = let e : suc n ≤ 2 ^ 40 = leb-true (suc n) (2 ^ 40) h in omega (arith, e)

module _ (ds : List Declaration) where
  -- an INTEGER expression without calls
  abbrev pub IsText : Expression → Type 0
  IsText e = HasKind ds e Integer × (calls_in e ≡ [])

  abbrev SoFar : Option Expression → Type 0
  SoFar None = Unit {0}
  SoFar (Some e) = HasKind ds e Integer × (calls_in e ≡ [])

  none_in_both : (xs ys : List (List ℕ)) → xs ≡ [] → ys ≡ [] → xs ++ ys ≡ []
  none_in_both xs ys e f = ap₂ (λ (a b : List (List ℕ)). a ++ b) e f

  term_is : (n : ℕ) (t : Expression) → n < 2 ^ 127 → IsText t → IsText (term n t)
  term_is n t s h = by (n == 1)
    where
      by : (b : Bool) → IsText (cond b t (Binary Mul (Number (pos n)) t))
      by true = h
      by false = ((refl, refl, (s, refl), h.0), h.1)

  plus_is : (o : Option Expression) (t : Expression) → SoFar o → IsText t → IsText (plus_term o t)
  plus_is None t h k = k
  plus_is (Some e) t h k = ((refl, refl, h.0, k.0), none_in_both (calls_in e) (calls_in t) h.1 k.1)

  minus_is : (o : Option Expression) (t : Expression) → SoFar o → IsText t → IsText (minus_term o t)
  minus_is None t h k = ((refl, refl, k.0), k.1)
  minus_is (Some e) t h k = ((refl, refl, h.0, k.0), none_in_both (calls_in e) (calls_in t) h.1 k.1)

  one_is : (o : Option Expression) (c : ℤ) (t : Expression) → is_small c ≡ true → SoFar o → IsText t → SoFar (with_term o c t)
  one_is o (pos zero) t s h k = h
  one_is o (pos (suc n)) t s h k = plus_is o (term (suc n) t) h (term_is (suc n) t (small_pos (suc n) s) k)
  one_is o (negsuc n) t s h k = minus_is o (term (suc n) t) h (term_is (suc n) t (small_neg n s) k)

  constant_is : (o : Option Expression) (z : ℤ) → is_small z ≡ true → SoFar o → IsText (with_constant o z)
  constant_is None (pos n) s h = ((small_pos n s, refl), refl)
  constant_is None (negsuc n) s h = ((refl, refl, (small_neg n s, refl)), refl)
  constant_is (Some e) (pos zero) s h = h
  constant_is (Some e) (pos (suc n)) s h = ((refl, refl, h.0, (small_pos (suc n) s, refl)), none_in_both (calls_in e) [] h.1 refl)
  constant_is (Some e) (negsuc n) s h = ((refl, refl, h.0, (small_neg n s, refl)), none_in_both (calls_in e) [] h.1 refl)

  at_place : (ts : List Expression) (k : ℕ) → Each IsText ts → SoFar (slice_get ts k)
  at_place [] k h = tt
  at_place (t ∷ ts) zero h = h.0
  at_place (t ∷ ts) (suc k) h = at_place ts k h.1

  place_is : (o : Option Expression) (c : ℤ) (q : Option Expression) → is_small c ≡ true → SoFar o → SoFar q → SoFar (with_place o c q)
  place_is o c None s h k = h
  place_is o c (Some t) s h k = one_is o c t s h k

  symbols_are : (o : Option Expression) (ss : List (ℕ × ℤ)) (ts : List Expression) → Each (λ (t : ℕ × ℤ). is_small t.1 ≡ true) ss → SoFar o → Each IsText ts → SoFar (with_symbols o ss ts)
  symbols_are o [] ts s h k = h
  symbols_are o (p ∷ ps) ts s h k = symbols_are (with_place o p.1 (slice_get ts p.0)) ps ts s.1 (place_is o p.1 (slice_get ts p.0) s.0 h (at_place ts p.0 k)) k

  name_is : (x : List ℕ) → IsNumber ds x → IsSomeAnd (declared ds x) (λ (d : Declaration). (Integer ≡ d.kind) × (0 ≡ length (dimensions d.extent)))
  name_is x h =
      subst (λ (o : Option Declaration). IsSomeAnd o (λ (d : Declaration). (Integer ≡ d.kind) × (0 ≡ length (dimensions d.extent)))) (sym h.is)
      (sym h.kind, sym (ap (λ (e : Extent). length (dimensions e)) h.extent))

  variables_are : (xs : List (List ℕ)) → Each (IsNumber ds) xs → Each IsText (variables xs)
  variables_are [] h = tt
  variables_are (x ∷ xs) h = (((name_is x h.0, tt), refl), variables_are xs h.1)

  -- ---- forms without loops

  no_loops : (cs : List ℤ) → with_terms None cs [] ≡ None
  no_loops [] = refl
  no_loops (c ∷ cs) = refl

  -- symbols and constant within the limits
  pub record IsBounded (a : Affine) : Type 0 where
    pub few : length a.syms ≤ 8
    pub symbols : Each (λ (t : ℕ × ℤ). is_small t.1 ≡ true) a.syms
    pub constant : is_small a.constant ≡ true

  text_is : (symbols : List (List ℕ)) (a : Affine) → Each (IsNumber ds) symbols → IsBounded a → IsText (text_of [] symbols [] a)
  text_is symbols a h s =
      constant_is (with_symbols (with_terms None a.loops []) a.syms (variables symbols ++ [])) a.constant s.constant
      (symbols_are (with_terms None a.loops []) a.syms (variables symbols ++ []) s.symbols
      (subst SoFar (sym (no_loops a.loops)) tt) (Each-append IsText (variables symbols) [] (variables_are symbols h) tt))

  text_depth : (symbols : List (List ℕ)) (a : Affine) → IsBounded a → depth_of (text_of [] symbols [] a) ≤ 34
  text_depth symbols a s =
      let b : Affine = record a { loops = [] } in
      let few = s.few in
      let sized : IsSized b = record { loops = omega arith; symbols = few } in
      subst (λ (o : Option Expression). depth_of (with_constant (with_symbols o a.syms (variables symbols ++ [])) a.constant) ≤ 34) (sym (no_loops a.loops))
      (text_deep [] symbols [] b 0 sized tt)

  pub whole_text : (symbols : List (List ℕ)) (a : Affine) → Each (IsNumber ds) symbols → IsBounded a → IsWhole ds (text_of [] symbols [] a) Integer
  whole_text symbols a h s = record { suits = (text_is symbols a h s).0; depth = (let d = text_depth symbols a s in omega (arith, d)) }

  pub no_calls : (symbols : List (List ℕ)) (a : Affine) → Each (IsNumber ds) symbols → IsBounded a → calls_in (text_of [] symbols [] a) ≡ []
  no_calls symbols a h s = (text_is symbols a h s).1

  -- ---- of a form within its limits

  terms_small : (o : ℕ) (cs : List ℤ) → all_small cs ≡ true → Each (λ (t : ℕ × ℤ). is_small t.1 ≡ true) (terms_from o cs)
  terms_small o [] h = tt
  terms_small o (c ∷ cs) h = by (int_eq c (pos 0)) (both (is_small c) (all_small cs) h) (terms_small (suc o) cs (both (is_small c) (all_small cs) h).1)
    where
      by : (b : Bool) → (is_small c ≡ true) × (all_small cs ≡ true) → Each (λ (t : ℕ × ℤ). is_small t.1 ≡ true) (terms_from (suc o) cs)
          → Each (λ (t : ℕ × ℤ). is_small t.1 ≡ true) (cond b (terms_from (suc o) cs) ((o, c) ∷ terms_from (suc o) cs))
      by true p more = more
      by false p more = (p.0, more)

  zeros_small : (n : ℕ) → Each (λ (t : ℕ × ℤ). is_small t.1 ≡ true) (replicate {A = ℕ × ℤ} n (0, pos 0))
  zeros_small zero = tt
  zeros_small (suc n) = (refl, zeros_small n)

  pub form_bounded : (f : Form) (a : Affine) (z : ℤ) → is_limited 0 f ≡ true → IsAffineOf 0 f a → is_small z ≡ true → IsBounded (record a { constant = z })
  form_bounded f a z h is small =
      let parts = both (all_small f.coefficients) (is_small f.constant && nat_le (not_zero (drop 0 f.coefficients)) 8) h in
      let more = both (is_small f.constant) (nat_le (not_zero (drop 0 f.coefficients)) 8) parts.1 in
      let eight = leb-true (not_zero (drop 0 f.coefficients)) 8 more.1 in
      let count = terms_counted 0 (drop 0 f.coefficients) in
      record {
        few = subst (λ (ts : List (ℕ × ℤ)). length ts ≤ 8) (sym is.symbols) (eight_places (terms_from 0 (drop 0 f.coefficients)) (omega (arith, count, eight)));
        symbols = subst (Each (λ (t : ℕ × ℤ). is_small t.1 ≡ true)) (sym is.symbols)
            (Each-append (λ (t : ℕ × ℤ). is_small t.1 ≡ true) (terms_from 0 (drop 0 f.coefficients)) (replicate (8 - length (terms_from 0 (drop 0 f.coefficients))) (0, pos 0))
            (terms_small 0 (drop 0 f.coefficients) parts.0) (zeros_small (8 - length (terms_from 0 (drop 0 f.coefficients)))));
        constant = small;
      }
