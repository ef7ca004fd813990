-- The form of a name by itself.
use Rattle.std.proofs.Common.{◌≡◌, refl, sym, ap, ◌∙◌, subst, ℕ, zero, suc, ◌+◌, ◌≤◌, ◌<◌, ℤ, pos, Bool, true, false, cond, ◌&&◌, not, List, [], ◌∷◌, ◌++◌, map, take, drop, length, get_or, set, replicate, Option, Some, None, arith, append-nil}
use Rattle.std.specs.Prelude.{nat_le, nat_lt}
use Rattle.std.specs.List.{position, position_or_len}
use Rattle.std.specs.Str.{bytes_eq}
use Rattle.std.proofs.lemmas.Bool.{le-leb, ltb-false}
use Rattle.std.proofs.lemmas.Bool.Decides.{Decides-ltb}
use Rattle.tree.specs.Plain.{Reference, subscripts}
use Rattle.tree.specs.View.{reference_of, subscript_of}
use Rattle.tree.specs.declared.exprs.Sub.{Sub}
use Rattle.tree.specs.declared.exprs.Ref.{Ref, out-Ref}
use Rattle.tree.proofs.Equations.{reference_of-is}
use Rattle.linear_forms.specs.Linear.{is_small, all_small, not_zero, is_limited, limited, unit, with_zero, with_no_constant, form_of_name}
use Rattle.linear_forms.specs.Places.{terms_from, padded, unit_form}
use Rattle.linear_forms.specs.Affines.{IsFound}
use Rattle.linear_forms.proofs.Combining.{found}

zeros_at : (m k : ℕ) → get_or (replicate m (pos 0)) k (pos 0) ≡ pos 0
zeros_at zero k = refl
zeros_at (suc m) zero = refl
zeros_at (suc m) (suc k) = zeros_at m k

unit_small : (k : ℕ) → all_small (replicate k (pos 0) ++ pos 1 ∷ []) ≡ true
unit_small zero = refl
unit_small (suc k) = unit_small k

unit_counts : (n k : ℕ) → not_zero (drop n (replicate k (pos 0) ++ pos 1 ∷ [])) ≤ 1
unit_counts zero zero = omega arith
unit_counts zero (suc k) = unit_counts zero k
unit_counts (suc n) zero = none n
  where
    none : (n : ℕ) → not_zero (drop n []) ≤ 1
    none zero = omega arith
    none (suc n) = omega arith
unit_counts (suc n) (suc k) = unit_counts n k

pub unit_limited : (n k : ℕ) → is_limited n (unit_form k) ≡ true
unit_limited n k =
    let most = unit_counts n k in
    ap (λ b. b && (is_small (pos 0) && nat_le (not_zero (drop n (replicate k (pos 0) ++ pos 1 ∷ []))) 8)) (unit_small k)
    ∙ le-leb (not_zero (drop n (replicate k (pos 0) ++ pos 1 ∷ []))) 8 (omega (arith, most))

-- ---- a loop

take_unit : (n at : ℕ) → at < n → take n (replicate at (pos 0) ++ pos 1 ∷ []) ≡ replicate at (pos 0) ++ pos 1 ∷ []
take_unit zero at h = absurd (omega (arith, h))
take_unit (suc n) zero h = ap (λ l. pos 1 ∷ l) (none n)
  where
    none : (n : ℕ) → ◌≡◌ {A = List ℤ} (take n []) []
    none zero = refl
    none (suc n) = refl
take_unit (suc n) (suc at) h = ap (λ l. pos 0 ∷ l) (take_unit n at (omega (arith, h)))

drop_unit : (n at : ℕ) → at < n → drop n (replicate at (pos 0) ++ pos 1 ∷ []) ≡ []
drop_unit zero at h = absurd (omega (arith, h))
drop_unit (suc n) zero h = none n
  where
    none : (n : ℕ) → ◌≡◌ {A = List ℤ} (drop n []) []
    none zero = refl
    none (suc n) = refl
drop_unit (suc n) (suc at) h = drop_unit n at (omega (arith, h))

one_set : (m at j : ℕ) → at < m → get_or (set (replicate m (pos 0)) at (pos 1)) j (pos 0) ≡ get_or (replicate at (pos 0) ++ pos 1 ∷ []) j (pos 0)
one_set zero at j h = absurd (omega (arith, h))
one_set (suc m) zero zero h = refl
one_set (suc m) zero (suc j) h = zeros_at m j
one_set (suc m) (suc at) zero h = refl
one_set (suc m) (suc at) (suc j) h = one_set m at j (omega (arith, h))

pub loop_found : (n at : ℕ) → n ≤ 7 → at < n
    → IsFound n (limited n (Some (unit_form at))) (Some (record { loops = set (replicate 7 (pos 0)) at (pos 1); syms = replicate 8 (0, pos 0); constant = pos 0 }))
loop_found n at few h = found n (unit_form at) (record { loops = set (replicate 7 (pos 0)) at (pos 1); syms = replicate 8 (0, pos 0); constant = pos 0 }) (unit_limited n at) (record {
  loops = λ j. one_set 7 at j (omega (arith, few, h)) ∙ ap (λ l. get_or l j (pos 0)) (sym (take_unit n at h));
  symbols = ap (λ l. padded (terms_from 0 l)) (sym (drop_unit n at h));
  constant = refl;
})

-- ---- a symbol

drop_back : (n at k : ℕ) → k ≡ n + at → drop n (replicate k (pos 0) ++ pos 1 ∷ []) ≡ replicate at (pos 0) ++ pos 1 ∷ []
drop_back zero at k e = ap (λ k. replicate k (pos 0) ++ pos 1 ∷ []) (omega (arith, e))
drop_back (suc n) at zero e = absurd (omega (arith, e))
drop_back (suc n) at (suc k) e = drop_back n at k (omega (arith, e))

take_back : (n at k j : ℕ) → k ≡ n + at → get_or (take n (replicate k (pos 0) ++ pos 1 ∷ [])) j (pos 0) ≡ pos 0
take_back zero at k j e = refl
take_back (suc n) at zero j e = absurd (omega (arith, e))
take_back (suc n) at (suc k) zero e = refl
take_back (suc n) at (suc k) (suc j) e = take_back n at k j (omega (arith, e))

one_term : (o at : ℕ) → terms_from o (replicate at (pos 0) ++ pos 1 ∷ []) ≡ (o + at, pos 1) ∷ []
one_term o zero = let same : o ≡ o + 0 = omega arith in ap (λ k. (k, pos 1) ∷ []) same
one_term o (suc at) = let same : suc o + at ≡ o + suc at = omega arith in one_term (suc o) at ∙ ap (λ k. (k, pos 1) ∷ []) same

pub symbol_found : (n at : ℕ)
    → IsFound n (limited n (Some (unit_form (n + at)))) (Some (record { loops = replicate 7 (pos 0); syms = set (replicate 8 (0, pos 0)) 0 (at, pos 1); constant = pos 0 }))
symbol_found n at = found n (unit_form (n + at)) (record { loops = replicate 7 (pos 0); syms = set (replicate 8 (0, pos 0)) 0 (at, pos 1); constant = pos 0 }) (unit_limited n (n + at)) (record {
  loops = λ j. zeros_at 7 j ∙ sym (take_back n at (n + at) j refl);
  symbols =
      let same : 0 + at ≡ at = omega arith in
      sym (ap (λ l. padded (terms_from 0 l)) (drop_back n at (n + at) refl) ∙ (ap padded (one_term 0 at) ∙ ap (λ k. padded ((k, pos 1) ∷ [])) same));
  constant = refl;
})

-- ---- where a name stands in a list of names

module _ (x : List ℕ) where
  abbrev Test : List ℕ → Bool
  Test y = bytes_eq y x

  next_place : (m : ℕ) → Some (replicate (suc m) (pos 0) ++ pos 1 ∷ []) ≡ Some (replicate (1 + m) (pos 0) ++ pos 1 ∷ [])
  next_place m = let same : suc m ≡ 1 + m = omega arith in ap (λ k. Some (replicate k (pos 0) ++ pos 1 ∷ [])) same

  pub unit_front : (ys zs : List (List ℕ)) → position_or_len (λ y. bytes_eq y x) ys < length ys → unit (ys ++ zs) x ≡ Some (replicate (position_or_len (λ y. bytes_eq y x) ys) (pos 0) ++ pos 1 ∷ [])
  unit_front [] zs h = absurd (omega (arith, h))
  unit_front (y ∷ ys) zs h = by (λ g. unit_front ys zs g) (bytes_eq y x) h
    where
      by : (position_or_len (λ y. bytes_eq y x) ys < length ys → unit (ys ++ zs) x ≡ Some (replicate (position_or_len (λ y. bytes_eq y x) ys) (pos 0) ++ pos 1 ∷ []))
          → (b : Bool) → cond (not b) (1 + position_or_len (λ y. bytes_eq y x) ys) 0 < suc (length ys)
          → cond b (Some (pos 1 ∷ [])) (with_zero (unit (ys ++ zs) x)) ≡ Some (replicate (cond (not b) (1 + position_or_len (λ y. bytes_eq y x) ys) 0) (pos 0) ++ pos 1 ∷ [])
      by more true g = refl
      by more false g = ap with_zero (more (omega (arith, g))) ∙ next_place (position_or_len (λ y. bytes_eq y x) ys)

  pub shifted : ℕ → Option (List ℤ) → Option (List ℤ)
  shifted zero o = o
  shifted (suc n) o = with_zero (shifted n o)

  pub unit_back : (ys zs : List (List ℕ)) → length ys ≤ position_or_len (λ y. bytes_eq y x) ys → unit (ys ++ zs) x ≡ shifted (length ys) (unit zs x)
  unfolding shifted
  unit_back [] zs h = refl
  unit_back (y ∷ ys) zs h = by (λ g. unit_back ys zs g) (bytes_eq y x) h
    where
      by : (length ys ≤ position_or_len (λ y. bytes_eq y x) ys → unit (ys ++ zs) x ≡ shifted (length ys) (unit zs x))
          → (b : Bool) → suc (length ys) ≤ cond (not b) (1 + position_or_len (λ y. bytes_eq y x) ys) 0
          → cond b (Some (pos 1 ∷ [])) (with_zero (unit (ys ++ zs) x)) ≡ with_zero (shifted (length ys) (unit zs x))
      by more true g = absurd (omega (arith, g))
      by more false g = ap with_zero (more (omega (arith, g)))

  shifted-none : (n : ℕ) → shifted n None ≡ None
  unfolding shifted
  shifted-none zero = refl
  shifted-none (suc n) = ap with_zero (shifted-none n)

  shifted-unit : (n k : ℕ) → shifted n (Some (replicate k (pos 0) ++ pos 1 ∷ [])) ≡ Some (replicate (n + k) (pos 0) ++ pos 1 ∷ [])
  unfolding shifted
  shifted-unit zero k = let same : k ≡ 0 + k = omega arith in ap (λ k. Some (replicate k (pos 0) ++ pos 1 ∷ [])) same
  shifted-unit (suc n) k = let same : suc (n + k) ≡ suc n + k = omega arith in ap with_zero (shifted-unit n k) ∙ ap (λ k. Some (replicate k (pos 0) ++ pos 1 ∷ [])) same

  unit_only : (zs : List (List ℕ)) → position_or_len (λ y. bytes_eq y x) zs < length zs → unit zs x ≡ Some (replicate (position_or_len (λ y. bytes_eq y x) zs) (pos 0) ++ pos 1 ∷ [])
  unit_only zs h = ap (λ l. unit l x) (sym (append-nil zs)) ∙ unit_front zs [] h

  unit_missing : (zs : List (List ℕ)) → length zs ≤ position_or_len (λ y. bytes_eq y x) zs → unit zs x ≡ None
  unit_missing zs h = ap (λ l. unit l x) (sym (append-nil zs)) ∙ (unit_back zs [] h ∙ shifted-none (length zs))

  -- the place that was found, if one was
  place_some : (ys : List (List ℕ)) (k : ℕ) → Some k ≡ position (λ y. bytes_eq y x) ys → (k ≡ position_or_len (λ y. bytes_eq y x) ys) × (position_or_len (λ y. bytes_eq y x) ys < length ys)
  place_some ys k h = by (nat_lt (position_or_len (λ y. bytes_eq y x) ys) (length ys)) refl h
    where
      by : (b : Bool) → nat_lt (position_or_len (λ y. bytes_eq y x) ys) (length ys) ≡ b → Some k ≡ cond b (Some (position_or_len (λ y. bytes_eq y x) ys)) None
          → (k ≡ position_or_len (λ y. bytes_eq y x) ys) × (position_or_len (λ y. bytes_eq y x) ys < length ys)
      by true e g = let same : k ≡ position_or_len (λ y. bytes_eq y x) ys = cc in (same, (Decides-ltb (position_or_len (λ y. bytes_eq y x) ys) (length ys)).0 e)
      by false e g = cc

  place_none : (ys : List (List ℕ)) → None ≡ position (λ y. bytes_eq y x) ys → length ys ≤ position_or_len (λ y. bytes_eq y x) ys
  place_none ys h = by (nat_lt (position_or_len (λ y. bytes_eq y x) ys) (length ys)) refl h
    where
      by : (b : Bool) → nat_lt (position_or_len (λ y. bytes_eq y x) ys) (length ys) ≡ b → None ≡ cond b (Some (position_or_len (λ y. bytes_eq y x) ys)) None → length ys ≤ position_or_len (λ y. bytes_eq y x) ys
      by true e g = cc
      by false e g = ltb-false (position_or_len (λ y. bytes_eq y x) ys) (length ys) e

  -- a loop, a symbol, or neither
  pub loop_named : (loops symbols : List (List ℕ)) (k : ℕ) → Some k ≡ position (λ y. bytes_eq y x) loops
      → (with_no_constant (unit (loops ++ symbols) x) ≡ Some (unit_form k)) × (k < length loops)
  loop_named loops symbols k h =
      let p = place_some loops k h in
      (ap with_no_constant (unit_front loops symbols p.1) ∙ ap (λ k. Some (unit_form k)) (sym p.0), subst (λ m. m < length loops) (sym p.0) p.1)

  pub symbol_named : (loops symbols : List (List ℕ)) (k : ℕ) → None ≡ position (λ y. bytes_eq y x) loops → Some k ≡ position (λ y. bytes_eq y x) symbols
      → (with_no_constant (unit (loops ++ symbols) x) ≡ Some (unit_form (length loops + k))) × (k < length symbols)
  symbol_named loops symbols k h g =
      let p = place_some symbols k g in (
        ap with_no_constant (unit_back loops symbols (place_none loops h) ∙ (ap (shifted (length loops)) (unit_only symbols p.1 ∙ ap (λ k. Some (replicate k (pos 0) ++ pos 1 ∷ [])) (sym p.0)) ∙ shifted-unit (length loops) k)),
        subst (λ m. m < length symbols) (sym p.0) p.1,
      )

  pub neither_named : (loops symbols : List (List ℕ)) → None ≡ position (λ y. bytes_eq y x) loops → None ≡ position (λ y. bytes_eq y x) symbols
      → with_no_constant (unit (loops ++ symbols) x) ≡ None
  neither_named loops symbols h g =
      ap with_no_constant (unit_back loops symbols (place_none loops h) ∙ (ap (shifted (length loops)) (unit_missing symbols (place_none symbols g)) ∙ shifted-none (length loops)))

-- ---- bare names

pub bare_name : (r : Ref) (names : List (List ℕ)) → (out-Ref r).subs ≡ [] → form_of_name names (reference_of r).name (reference_of r).subscripts ≡ with_no_constant (unit names (out-Ref r).name)
bare_name r names e =
    let parts = reference_of-is r ∙ ap (λ (ss : List Sub). let t : Reference = record { name = (out-Ref r).name; subscripts = subscripts (map subscript_of ss) } in t) e in
    ap (λ (t : Reference). form_of_name names t.name t.subscripts) parts

pub element_name : (r : Ref) (names : List (List ℕ)) → ((out-Ref r).subs ≡ [] → ⊥) → form_of_name names (reference_of r).name (reference_of r).subscripts ≡ None
element_name r names h = by (out-Ref r).subs refl
  where
    by : (ss : List Sub) → (out-Ref r).subs ≡ ss → form_of_name names (reference_of r).name (reference_of r).subscripts ≡ None
    by [] e = absurd (h e)
    by (s ∷ ss) e =
        let parts = reference_of-is r ∙ ap (λ (ss : List Sub). let t : Reference = record { name = (out-Ref r).name; subscripts = subscripts (map subscript_of ss) } in t) e in
        ap (λ (t : Reference). form_of_name names t.name t.subscripts) parts
