-- What an induction is, step by step.
use Rattle.std.proofs.Common.{◌≡◌, refl, sym, ap, ◌∙◌, subst, ℕ, ℤ, Option, Some, None, List}
use Rattle.std.specs.Prelude.{neg_ℤ, slice_get}
use Rattle.std.proofs.lemmas.Option.{slice_get-map}
use Rattle.nest.specs.Bodies.{Standing}
use Rattle.nest.specs.declared.parts.Trip.{Trip}
use Rattle.last_values.specs.normal_forms.Steps.{◌>>=◌}
use Rattle.subscripts.specs.declared.affine.Affine.{Affine}
use Rattle.inductions.specs.Found.{end_form, induction_named}
use Rattle.inductions.specs.Growing.{only_write, step_at}
use Rattle.inductions.specs.declared.found.Induction.{Induction}

-- ---- steps that have a result

pub record Came {A B : Type 0} (o : Option A) (f : A → Option B) (y : B) : Type 0 where
  pub value : A
  pub first : o ≡ Some value
  pub second : f value ≡ Some y

pub came : {A B : Type 0} (o : Option A) (f : A → Option B) (y : B) → (o >>= f) ≡ Some y → Came o f y
came (Some x) f y h = record { value = x; first = refl; second = h }
came None f y h = absurd cc

-- ---- one that is found, and what is wanting where none is

pub record IsFoundIn (symbols : List (List ℕ)) (t : Trip) (ss : List Standing) (d : Induction) : Type 0 where
  pub write : only_write ss d.name ≡ Some d.place
  pub standing : Standing
  pub stands : slice_get ss d.place ≡ Some standing
  pub step : step_at d.name standing ≡ Some d.step
  pub less : d.less ≡ neg_ℤ d.step
  pub end : end_form symbols t d.name d.step ≡ Some d.end

module _ (symbols : List (List ℕ)) (t : Trip) (ss : List Standing) (x : List ℕ) where
  abbrev made-of : ℕ → ℤ → Affine → Induction
  made-of k c a = record { name = x; step = c; less = neg_ℤ c; place = k; end = a }

  abbrev of-form : ℕ → ℤ → Affine → Option Induction
  of-form k c a = Some (made-of k c a)

  abbrev of-step : ℕ → ℤ → Option Induction
  of-step k c = end_form symbols t x c >>= of-form k c

  abbrev of-standing : ℕ → Standing → Option Induction
  of-standing k s = step_at x s >>= of-step k

  abbrev of-place : ℕ → Option Induction
  of-place k = slice_get ss k >>= of-standing k

  pub named-is : (d : Induction) → induction_named symbols t ss x ≡ Some d → IsFoundIn symbols t ss d × (d.name ≡ x)
  named-is d h =
      let k = came (only_write ss x) of-place d h in
      let s = came (slice_get ss k.value) (of-standing k.value) d k.second in
      let c = came (step_at x s.value) (of-step k.value) d s.second in
      let a = came (end_form symbols t x c.value) (of-form k.value c.value) d c.second in
      let same : of-form k.value c.value a.value ≡ Some d = a.second in
      let is : made-of k.value c.value a.value ≡ d = cc in
      (subst (IsFoundIn symbols t ss) is (record { write = k.first; standing = s.value; stands = s.first; step = c.first; less = refl {a = neg_ℤ c.value}; end = a.first }), ap (λ (i : Induction). i.name) (sym is))

  pub no-write : only_write ss x ≡ None → induction_named symbols t ss x ≡ None
  no-write h = ap (λ o. o >>= of-place) h

  module _ (k : ℕ) (place : only_write ss x ≡ Some k) where
    pub no-standing : slice_get ss k ≡ None → induction_named symbols t ss x ≡ None
    no-standing h = ap (λ o. o >>= of-place) place ∙ ap (λ o. o >>= of-standing k) h

    module _ (s : Standing) (stands : slice_get ss k ≡ Some s) where
      at-standing : induction_named symbols t ss x ≡ of-standing k s
      at-standing = ap (λ o. o >>= of-place) place ∙ ap (λ o. o >>= of-standing k) stands

      pub no-step : step_at x s ≡ None → induction_named symbols t ss x ≡ None
      no-step h = at-standing ∙ ap (λ o. o >>= of-step k) h

      pub no-end : (c : ℤ) → step_at x s ≡ Some c → end_form symbols t x c ≡ None → induction_named symbols t ss x ≡ None
      no-end c h g = at-standing ∙ ap (λ o. o >>= of-step k) h ∙ ap (λ o. o >>= of-form k c) g

      pub one-found : (c : ℤ) (a : Affine) → step_at x s ≡ Some c → end_form symbols t x c ≡ Some a → induction_named symbols t ss x ≡ Some (made-of k c a)
      one-found c a h g = at-standing ∙ ap (λ o. o >>= of-step k) h ∙ ap (λ o. o >>= of-form k c) g

pub ruleset place_laws = (slice_get-map)

pub ruleset found_laws = (no-write, no-standing, no-step, no-end, one-found)
