-- The loops round a bound: what stands for them, and how many places their forms have.
use mathlib.Core.Path.{ap₂}
use Rattle.std.proofs.Common.{◌≡◌, refl, sym, ap, ◌∙◌, subst, ℕ, zero, suc, ◌+◌, ◌≤◌, ◌<◌, ℤ, pos, ◌+ℤ◌, ◌-ℤ◌, ◌*ℤ◌, neg_ℤ, Bool, true, false, cond, List, [], ◌∷◌, ◌++◌, map, filter, drop, length, append_assoc, length-append, Option, Some, None, arith}
use Rattle.std.specs.Option.{option_map}
use Rattle.std.proofs.Math.IntN.{*ℤ-zero}
use Rattle.tree.specs.Plain.{Expression}
use Rattle.meaning.specs.Reads.{names_in}
use Rattle.linear_forms.specs.Linear.{Form, number_at, sum, multiple, form_of}
use Rattle.linear_forms.specs.Places.{unit_form}
use Rattle.nest_reasons.specs.Increments.{step_of}
use Rattle.find_nests.specs.Loops.{SourceLoop}
use Rattle.find_nests.specs.Reasons.{outers}
use Rattle.find_nests.specs.bound_limits.Composed.{Outer, filled, with_multiples, symbol_terms, composed, those_in, outer_variables_of, is_loop_among, composed_bound}
use Rattle.find_nests.specs.bound_limits.Limits.{plus_constant}
use Rattle.find_nests.specs.bound_limits.Loops.{normal_or_zero, as_outer}
use Rattle.find_nests.specs.bound_limits.Numbers.{Counted, number_in, and_then, at_iteration, counted, number_within}
use Rattle.find_nests.proofs.BoundLimits.Lists.{get_or-added, get_or-scaled, added-nil}
use Rattle.find_nests.proofs.BoundNumbers.Weights.{At, unit_number}
use Rattle.find_nests.proofs.BoundNumbers.Alike.{Ends}
use Rattle.find_nests.proofs.BoundNumbers.Composing.{Hold, hold_more, at_all, bound_number, normal_number}

-- ---- what stands for the loops has the numbers of their variables

one_more : {A : Type 0} (xs : List A) (x : A) → length (xs ++ x ∷ []) ≡ suc (length xs)
one_more xs x = length-append xs (x ∷ []) ∙ omega arith

module _ (symbols : List (List ℕ)) (xs js : List ℤ) (all : length xs ≡ length symbols) where
  abbrev q : Form → ℤ
  q = at_all symbols xs js all

  -- the iteration of the loop that comes next
  next_number : (done rest : List ℤ) (j : ℤ) (n : ℕ) → js ≡ done ++ j ∷ rest → length done ≡ n → q (unit_form (length symbols + n)) ≡ j
  next_number done rest j n e l =
      ap (number_at (unit_form (length symbols + n))) (ap (λ us. xs ++ us) e ∙ sym (append_assoc xs done (j ∷ rest)))
      ∙ unit_number (length symbols + n) (xs ++ done) j rest (let s = length-append xs done in omega (arith, s, all, l))

  pub outers_hold : (ls : List SourceLoop) (rest done : List ℤ) (os : List Outer) (vs out : List Counted) → length done ≡ length os → js ≡ done ++ rest → Hold q os vs
      → counted symbols xs vs ls rest ≡ Some out → Hold q (outers symbols os ls) out
  outers_hold [] rest done os vs out l e h c = (let same : vs ≡ out = cc in subst (Hold q os) same h)
  outers_hold (r ∷ rs) [] done os vs out l e h c = (let no : ⊥ = cc in absurd no)
  outers_hold (r ∷ rs) (j ∷ rest) done os vs out l e h c =
      by (composed_bound symbols os r.first) (step_of r.step) refl refl
      (ap (λ o. and_then (at_iteration j o (step_of r.step)) (λ z. counted symbols xs (vs ++ record { variable = r.variable; number = z } ∷ []) rs rest)) (bound_number symbols xs js all os vs r.first h) ∙ c)
      (λ z. outers_hold rs rest (done ++ j ∷ []) (os ++ as_outer symbols os r.variable r.first r.step ∷ []) (vs ++ record { variable = r.variable; number = z } ∷ []) out
      (one_more done j ∙ ap suc l ∙ sym (one_more os (as_outer symbols os r.variable r.first r.step)))
      (e ∙ sym (append_assoc done (j ∷ []) rest)))
    where
      by : (o : Option Form) (s : Option ℤ) → composed_bound symbols os r.first ≡ o → step_of r.step ≡ s
          → and_then (at_iteration j (option_map q o) s) (λ z. counted symbols xs (vs ++ record { variable = r.variable; number = z } ∷ []) rs rest) ≡ Some out
          → ((z : ℤ) → Hold q (os ++ as_outer symbols os r.variable r.first r.step ∷ []) (vs ++ record { variable = r.variable; number = z } ∷ [])
          → counted symbols xs (vs ++ record { variable = r.variable; number = z } ∷ []) rs rest ≡ Some out
          → Hold q (outers symbols (os ++ as_outer symbols os r.variable r.first r.step ∷ []) rs) out)
          → Hold q (outers symbols os (r ∷ rs)) out
      by (Some f) (Some step) i k g more =
          let z = q f +ℤ step *ℤ (j -ℤ pos 1) in
          let here : q (normal_or_zero (length symbols + length os) (step_of r.step) (composed_bound symbols os r.first)) ≡ z
          = ap₂ (λ s o. q (normal_or_zero (length symbols + length os) s o)) k i
          ∙ normal_number (length symbols + length os) step f (xs ++ js) j (next_number done rest j (length os) e l) in
          more z (hold_more q os vs (as_outer symbols os r.variable r.first r.step) (record { variable = r.variable; number = z }) h refl here) g
      by (Some f) None i k g more = (let no : ⊥ = cc in absurd no)
      by None s i k g more = (let no : ⊥ = cc in absurd no)

  -- a bound under the loops is worth the number of its form
  pub within_is : (around : List SourceLoop) (vs : List Counted) (e : Expression) → counted symbols xs [] around js ≡ Some vs
      → number_within symbols xs around js e ≡ option_map q (composed_bound symbols (outers symbols [] around) e)
  within_is around vs e c =
      ap (λ o. and_then o (λ vs. number_in symbols xs vs e)) c
      ∙ sym (bound_number symbols xs js all (outers symbols [] around) vs e (outers_hold around js [] [] [] vs refl refl tt c))

-- ---- places

pub sum_ends : (k : ℕ) (z : ℤ) (f g : Form) → Ends k f → Ends k g → Ends k (sum f (multiple z g))
sum_ends k z f g a b i l =
    get_or-added f.coefficients (map (λ c. z *ℤ c) g.coefficients) i
    ∙ ap₂ (λ x y. x +ℤ y) (a i l) (get_or-scaled z g.coefficients i ∙ ap (λ x. z *ℤ x) (b i l) ∙ *ℤ-zero z)

pub plus_ends : (k : ℕ) (f : Form) (z : ℤ) → Ends k f → Ends k (plus_constant f z)
plus_ends k f z a i l = ap (λ cs. At cs i) (added-nil f.coefficients) ∙ a i l

filled_past : (n : ℕ) (cs : List ℤ) (j : ℕ) → n ≤ j → At (filled n cs) j ≡ pos 0
filled_past zero cs j h = refl
filled_past (suc n) cs zero h = absurd (omega (arith, h))
filled_past (suc n) [] (suc j) h = filled_past n [] j (omega (arith, h))
filled_past (suc n) (c ∷ cs) (suc j) h = filled_past n cs j (omega (arith, h))

unit_past : (m i : ℕ) → m < i → At (unit_form m).coefficients i ≡ pos 0
unit_past zero zero h = absurd (omega (arith, h))
unit_past zero (suc i) h = refl
unit_past (suc m) zero h = absurd (omega (arith, h))
unit_past (suc m) (suc i) h = unit_past m i (omega (arith, h))

abbrev AllEnd : ℕ → List Outer → Type 0
AllEnd k [] = Unit {0}
AllEnd k (o ∷ os) = Ends k o.form × AllEnd k os

all_end_more : (k : ℕ) (os : List Outer) (o : Outer) → AllEnd k os → Ends k o.form → AllEnd k (os ++ o ∷ [])
all_end_more k [] o h e = (e, tt)
all_end_more k (p ∷ ps) o h e = (h.0, all_end_more k ps o h.1 e)

those_end : (k : ℕ) (asked : Outer → Bool) (os : List Outer) → AllEnd k os → AllEnd k (filter asked os)
those_end k asked [] h = tt
those_end k asked (o ∷ os) h = by (asked o) (those_end k asked os h.1)
  where
    by : (b : Bool) → AllEnd k (filter asked os) → AllEnd k (cond b (o ∷ filter asked os) (filter asked os))
    by true more = (h.0, more)
    by false more = more

multiples_end : (k : ℕ) (f : Form) (cs : List ℤ) (os : List Outer) → Ends k f → AllEnd k os → Ends k (with_multiples f cs os)
multiples_end k f cs [] a h = a
multiples_end k f cs (o ∷ os) a h = multiples_end k (sum f (multiple (At cs 0) o.form)) (drop 1 cs) os (sum_ends k (At cs 0) f o.form a h.0) h.1

module _ (symbols : List (List ℕ)) where
  pub bound_ends : (k : ℕ) (os : List Outer) (e : Expression) (f : Form) → length symbols ≤ k → AllEnd k os → composed_bound symbols os e ≡ Some f → Ends k f
  bound_ends k os e f l h g = by (form_of (outer_variables_of (those_in e os)) symbols e) g
    where
      by : (o : Option Form) → option_map (composed (length symbols) (those_in e os)) o ≡ Some f → Ends k f
      by None i = (let no : ⊥ = cc in absurd no)
      by (Some p) i =
          let same : composed (length symbols) (those_in e os) p ≡ f = cc in
          subst (Ends k) same
          (multiples_end k (symbol_terms (length symbols) (length (those_in e os)) p) p.coefficients (those_in e os)
          (λ j m. filled_past (length symbols) (drop (length (those_in e os)) p.coefficients) j (omega (arith, l, m)))
          (those_end k (is_loop_among (names_in e)) os h))

  outer_ends : (k place : ℕ) (s : Option ℤ) (o : Option Form) → place < k → ((f : Form) → o ≡ Some f → Ends k f) → Ends k (normal_or_zero place s o)
  outer_ends k place (Some step) (Some f) l h =
      plus_ends k (sum f (multiple step (unit_form place))) (neg_ℤ step)
      (sum_ends k step f (unit_form place) (h f refl) (λ i m. unit_past place i (omega (arith, l, m))))
  outer_ends k place (Some step) None l h = λ i m. refl
  outer_ends k place None o l h = λ i m. refl

  pub outers_end : (k : ℕ) (os : List Outer) (ls : List SourceLoop) → length symbols + (length os + length ls) ≤ k → AllEnd k os → AllEnd k (outers symbols os ls)
  outers_end k os [] l h = h
  outers_end k os (r ∷ rs) l h =
      let o = as_outer symbols os r.variable r.first r.step in
      let long = one_more os o in
      outers_end k (os ++ o ∷ []) rs (omega (arith, l, long))
      (all_end_more k os o h
      (outer_ends k (length symbols + length os) (step_of r.step) (composed_bound symbols os r.first) (omega (arith, l))
      (λ f e. bound_ends k os r.first f (omega (arith, l)) h e)))
