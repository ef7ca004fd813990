-- The affine form of a sum with a multiple.
use Rattle.std.proofs.Common.{◌≡◌, refl, sym, ap, ◌∙◌, subst, ℕ, zero, suc, ◌+◌, ◌-◌, ◌≤◌, ◌<◌, ℤ, pos, ◌+ℤ◌, ◌*ℤ◌, Bool, true, false, cond, ◌&&◌, List, [], ◌∷◌, map, take, drop, length, get_or, replicate, Option, Some, None, ◌⊎◌, inl, inr, arith}
use Rattle.std.specs.Prelude.{nat_le}
use Rattle.std.proofs.lemmas.Bool.{leb-true, le-leb}
use Rattle.std.proofs.lemmas.Int.{ints}
use Rattle.std.proofs.Math.IntN.{*ℤ-zero, +ℤ_idl}
use mathlib.Core.Path.{ap₂}
use Rattle.subscripts.specs.declared.affine.Affine.{Affine}
use Rattle.linear_forms.specs.Linear.{Form, is_small, all_small, not_zero, added, sum, multiple, is_limited, limited}
use Rattle.linear_forms.specs.Merging.{IsCombined, IsTooLarge, merged, all_pushed, front_used}
use Rattle.linear_forms.specs.Places.{terms_from}
use Rattle.linear_forms.specs.Affines.{IsAffineOf, IsFound}
use Rattle.linear_forms.specs.declared.terms.Terms.{Terms}
use Rattle.linear_forms.proofs.Merges.{merged_terms, used_terms, Holds, Outcome, pushes}

-- ---- lists place by place

get_or-added : (cs ds : List ℤ) (j : ℕ) → get_or (added cs ds) j (pos 0) ≡ get_or cs j (pos 0) +ℤ get_or ds j (pos 0)
get_or-added [] ds j = sym (+ℤ_idl (get_or ds j (pos 0)))
get_or-added (c ∷ cs) [] j = omega (arith, ints)
get_or-added (c ∷ cs) (d ∷ ds) zero = refl
get_or-added (c ∷ cs) (d ∷ ds) (suc j) = get_or-added cs ds j

get_or-scaled : (k : ℤ) (ds : List ℤ) (j : ℕ) → get_or (map (λ d. k *ℤ d) ds) j (pos 0) ≡ k *ℤ get_or ds j (pos 0)
get_or-scaled k [] j = sym (*ℤ-zero k)
get_or-scaled k (d ∷ ds) zero = refl
get_or-scaled k (d ∷ ds) (suc j) = get_or-scaled k ds j

take-added : (n : ℕ) (cs ds : List ℤ) → take n (added cs ds) ≡ added (take n cs) (take n ds)
take-added zero cs ds = refl
take-added (suc n) [] ds = refl
take-added (suc n) (c ∷ cs) [] = refl
take-added (suc n) (c ∷ cs) (d ∷ ds) = ap (λ l. (c +ℤ d) ∷ l) (take-added n cs ds)

added-nil : (cs : List ℤ) → added cs [] ≡ cs
added-nil [] = refl
added-nil (c ∷ cs) = refl

drop-added : (n : ℕ) (cs ds : List ℤ) → drop n (added cs ds) ≡ added (drop n cs) (drop n ds)
drop-added zero cs ds = refl
drop-added (suc n) [] ds = refl
drop-added (suc n) (c ∷ cs) [] = sym (added-nil (drop n cs))
drop-added (suc n) (c ∷ cs) (d ∷ ds) = drop-added n cs ds

take-scaled : (k : ℤ) (n : ℕ) (ds : List ℤ) → take n (map (λ d. k *ℤ d) ds) ≡ map (λ d. k *ℤ d) (take n ds)
take-scaled k zero ds = refl
take-scaled k (suc n) [] = refl
take-scaled k (suc n) (d ∷ ds) = ap (λ l. (k *ℤ d) ∷ l) (take-scaled k n ds)

drop-scaled : (k : ℤ) (n : ℕ) (ds : List ℤ) → drop n (map (λ d. k *ℤ d) ds) ≡ map (λ d. k *ℤ d) (drop n ds)
drop-scaled k zero ds = refl
drop-scaled k (suc n) [] = refl
drop-scaled k (suc n) (d ∷ ds) = drop-scaled k n ds

-- ---- limits

both_and : (a b c : Bool) → (a && (b && c)) ≡ ((a && b) && c)
both_and true b c = refl
both_and false b c = refl

and_false : (a : Bool) → (a && false) ≡ false
and_false true = refl
and_false false = refl

all_small-split : (n : ℕ) (cs : List ℤ) → all_small cs ≡ (all_small (take n cs) && all_small (drop n cs))
all_small-split zero cs = refl
all_small-split (suc n) [] = refl
all_small-split (suc n) (c ∷ cs) = ap (λ b. is_small c && b) (all_small-split n cs) ∙ both_and (is_small c) (all_small (take n cs)) (all_small (drop n cs))

all_small-false : (cs : List ℤ) (j : ℕ) → is_small (get_or cs j (pos 0)) ≡ false → all_small cs ≡ false
all_small-false [] j h = cc
all_small-false (c ∷ cs) zero h = ap (λ b. b && all_small cs) h
all_small-false (c ∷ cs) (suc j) h = ap (λ b. is_small c && b) (all_small-false cs j h) ∙ and_false (is_small c)

all_small-true : (cs : List ℤ) → ((j : ℕ) → is_small (get_or cs j (pos 0)) ≡ true) → all_small cs ≡ true
all_small-true [] h = refl
all_small-true (c ∷ cs) h = ap (λ b. b && all_small cs) (h zero) ∙ all_small-true cs (λ j. h (suc j))

above_eight : (m : ℕ) → 8 < m → nat_le m 8 ≡ false
above_eight m h = by (nat_le m 8) refl
  where
    by : (b : Bool) → nat_le m 8 ≡ b → b ≡ false
    by true e = let most = leb-true m 8 e in absurd (omega (arith, h, most))
    by false e = refl

up_to_eight : (m : ℕ) → m ≤ 8 → nat_le m 8 ≡ true
up_to_eight m h = le-leb m 8 h

pub unlimited : (n : ℕ) (f : Form) → is_limited n f ≡ false → IsFound n (limited n (Some f)) None
unlimited n f e = subst (λ b. IsFound n (cond b (Some f) None) None) (sym e) tt

pub found : (n : ℕ) (f : Form) (a : Affine) → is_limited n f ≡ true → IsAffineOf n f a → IsFound n (limited n (Some f)) (Some a)
found n f a e h = subst (λ b. IsFound n (cond b (Some f) None) (Some a)) (sym e) h

abbrev pub nothing_yet : Terms
nothing_yet = record { at = replicate 8 (0, pos 0); used = 0 }

nothing-holds : Holds [] nothing_yet
nothing-holds = record { at = refl; used = refl }

module _ (n : ℕ) (p q : Form) (f g : Affine) (k : ℤ) (a : IsAffineOf n p f) (b : IsAffineOf n q g) where
  abbrev whole : Form
  whole = sum p (multiple k q)

  loops-of : (j : ℕ) → get_or (take n whole.coefficients) j (pos 0) ≡ get_or f.loops j (pos 0) +ℤ k *ℤ get_or g.loops j (pos 0)
  loops-of j =
      ap (λ l. get_or l j (pos 0)) (take-added n p.coefficients (map (λ d. k *ℤ d) q.coefficients) ∙ ap (added (take n p.coefficients)) (take-scaled k n q.coefficients))
      ∙ (get_or-added (take n p.coefficients) (map (λ d. k *ℤ d) (take n q.coefficients)) j
      ∙ ap₂ (λ x y. x +ℤ y) (sym (a.loops j)) (get_or-scaled k (take n q.coefficients) j ∙ ap (λ x. k *ℤ x) (sym (b.loops j))))

  symbols-of : (s : Terms) → all_pushed (merged k (front_used f.syms) (front_used g.syms)) s ≡ all_pushed (terms_from 0 (drop n whole.coefficients)) s
  symbols-of s =
      ap₂ (λ ts us. all_pushed (merged k ts us) s)
      (ap front_used a.symbols ∙ used_terms 0 (drop n p.coefficients) (8 - length (terms_from 0 (drop n p.coefficients))))
      (ap front_used b.symbols ∙ used_terms 0 (drop n q.coefficients) (8 - length (terms_from 0 (drop n q.coefficients))))
      ∙ (merged_terms k 0 (drop n p.coefficients) (drop n q.coefficients) s
      ∙ ap (λ l. all_pushed (terms_from 0 l) s) (sym (drop-added n p.coefficients (map (λ d. k *ℤ d) q.coefficients) ∙ ap (added (drop n p.coefficients)) (drop-scaled k n q.coefficients))))

  constant-of : whole.constant ≡ f.constant +ℤ k *ℤ g.constant
  constant-of = ap₂ (λ x y. x +ℤ k *ℤ y) (sym a.constant) (sym b.constant)

  pub lost_loops : IsTooLarge f.loops g.loops k → IsFound n (limited n (Some whole)) None
  lost_loops h =
      let large = all_small-false (take n whole.coefficients) h.0 (ap is_small (loops-of h.0) ∙ h.1) in
      let all : all_small whole.coefficients ≡ false = all_small-split n whole.coefficients ∙ ap (λ b. b && all_small (drop n whole.coefficients)) large in
      unlimited n whole (ap (λ b. b && (is_small whole.constant && nat_le (not_zero (drop n whole.coefficients)) 8)) all)

  large_symbols : (all_small (drop n whole.coefficients) ≡ false) ⊎ (8 < not_zero (drop n whole.coefficients)) → is_limited n whole ≡ false
  large_symbols (inl h) =
      let all : all_small whole.coefficients ≡ false = all_small-split n whole.coefficients ∙ (ap (λ b. all_small (take n whole.coefficients) && b) h ∙ and_false (all_small (take n whole.coefficients))) in
      ap (λ b. b && (is_small whole.constant && nat_le (not_zero (drop n whole.coefficients)) 8)) all
  large_symbols (inr h) =
      ap (λ b. all_small whole.coefficients && (is_small whole.constant && b)) (above_eight (not_zero (drop n whole.coefficients)) h)
      ∙ (ap (λ b. all_small whole.coefficients && b) (and_false (is_small whole.constant)) ∙ and_false (all_small whole.coefficients))

  abbrev Pushed : Option Terms → Type 0
  Pushed o = Outcome 0 (drop n whole.coefficients) [] o

  outcome : (o : Option Terms) → o ≡ all_pushed (merged k (front_used f.syms) (front_used g.syms)) nothing_yet → Pushed o
  outcome o e = subst Pushed (sym (e ∙ symbols-of nothing_yet)) (pushes 0 (drop n whole.coefficients) [] nothing_yet nothing-holds (omega arith))

  least : (m : ℕ) → 8 < 0 + m → 8 < m
  least m h = omega (arith, h)

  pub lost_terms : None ≡ all_pushed (merged k (front_used f.syms) (front_used g.syms)) nothing_yet → IsFound n (limited n (Some whole)) None
  lost_terms e = unlimited n whole (by (outcome None e))
    where
      by : (all_small (drop n whole.coefficients) ≡ false) ⊎ (8 < 0 + not_zero (drop n whole.coefficients)) → is_limited n whole ≡ false
      by (inl h) = large_symbols (inl h)
      by (inr h) = large_symbols (inr (least (not_zero (drop n whole.coefficients)) h))

  pub lost_constant : is_small (f.constant +ℤ k *ℤ g.constant) ≡ false → IsFound n (limited n (Some whole)) None
  lost_constant h =
      unlimited n whole (ap (λ b. all_small whole.coefficients && (b && nat_le (not_zero (drop n whole.coefficients)) 8)) (ap is_small constant-of ∙ h)
      ∙ and_false (all_small whole.coefficients))

  pub kept : (loops : List ℤ) (t : Terms) (z : ℤ) → IsCombined f.loops g.loops k loops → Some t ≡ all_pushed (merged k (front_used f.syms) (front_used g.syms)) nothing_yet
      → z ≡ f.constant +ℤ k *ℤ g.constant → is_small z ≡ true → IsFound n (limited n (Some whole)) (Some (record { loops = loops; syms = t.at; constant = z }))
  kept loops t z h e c s =
      let o = outcome (Some t) e in
      let few : not_zero (drop n whole.coefficients) ≤ 8 = let m = o.2 in omega (arith, m) in
      let front = all_small-true (take n whole.coefficients) (λ j. ap is_small (loops-of j ∙ sym (h j).0) ∙ (h j).1) in
      let all : all_small whole.coefficients ≡ true = all_small-split n whole.coefficients ∙ (ap (λ b. b && all_small (drop n whole.coefficients)) front ∙ o.1) in
      let within : is_limited n whole ≡ true =
      ap (λ b. b && (is_small whole.constant && nat_le (not_zero (drop n whole.coefficients)) 8)) all
      ∙ (ap (λ b. b && nat_le (not_zero (drop n whole.coefficients)) 8) (ap is_small (constant-of ∙ sym c) ∙ s) ∙ up_to_eight (not_zero (drop n whole.coefficients)) few) in
      found n whole (record { loops = loops; syms = t.at; constant = z }) within (record {
        loops = λ j. (h j).0 ∙ sym (loops-of j);
        symbols = o.0.at;
        constant = c ∙ sym constant-of;
      })
