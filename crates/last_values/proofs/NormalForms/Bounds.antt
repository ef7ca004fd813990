-- Bounds over the counters of the loops round them.
use mathlib.Core.Path.{ap₂}
use Rattle.std.proofs.Common.{◌≡◌, refl, sym, ap, ◌∙◌, ℕ, suc, ◌+◌, ◌<◌, ℤ, pos, List, [], ◌∷◌, ◌++◌, length, Option, Some, None}
use Rattle.tree.specs.Plain.{Expression}
use Rattle.linear_forms.specs.Linear.{Form, form_of}
use Rattle.linear_forms.specs.Affines.{IsAffineOf, IsFound}
use Rattle.subscripts.specs.declared.affine.Affine.{Affine}
use Rattle.last_values.specs.declared.normal_forms.combinations.Multiple.{Multiple}
use Rattle.last_values.specs.declared.normal_forms.loops.NormalLoop.{NormalLoop}
use Rattle.last_values.specs.declared.normal_forms.places.Place.TheVariants as place
use Rattle.last_values.specs.normal_forms.Steps.{◌>>=◌}
use Rattle.last_values.specs.normal_forms.Combinations.{number_of_place, combination, affine_of, without_loops, times}
use Rattle.last_values.specs.normal_forms.NormalLoops.{variables_of, variable_values_from, with_counters, bound_form}

module _ (d : ℕ) (f : Form) (a : Affine) (h : IsAffineOf d f a) where
  values_alike : (k : ℕ) (round : List NormalLoop) → variable_values_from k a round ≡ variable_values_from k (affine_of d f) round
  values_alike k [] = refl
  values_alike k (r ∷ rs) = ap₂ (λ z ts. times z r.value ∷ ts) (h.loops k) (values_alike (k + 1) rs)

  pub counters_alike : (round : List NormalLoop) → with_counters round a ≡ with_counters round (affine_of d f)
  counters_alike round =
      ap₂ (λ vs b. vs ++ times (pos 1) b ∷ []) (values_alike 0 round)
      (λ i. record { loops = (without_loops a).loops; syms = h.symbols i; constant = h.constant i })

length-variables : (round : List NormalLoop) → length (variables_of round) ≡ length round
length-variables [] = refl
length-variables (r ∷ rs) = ap suc (length-variables rs)

pub bound_found : (symbols : List (List ℕ)) (round : List NormalLoop) (e : Expression) (a : Affine) (more : List Multiple)
    → IsFound (length (variables_of round)) (form_of (variables_of round) symbols e) (Some a)
    → combination (length symbols) (with_counters round a ++ more) ≡ bound_form symbols round e more
unfolding bound_form
bound_found symbols round e a more h = by (form_of (variables_of round) symbols e) h
  where
    by : (o : Option Form) → IsFound (length (variables_of round)) o (Some a)
        → combination (length symbols) (with_counters round a ++ more) ≡ (o >>= λ f. combination (length symbols) (with_counters round (affine_of (length round) f) ++ more))
    by None g = absurd g
    by (Some f) g =
        ap (λ ts. combination (length symbols) (ts ++ more)) (counters_alike (length (variables_of round)) f a g round
        ∙ ap (λ d. with_counters round (affine_of d f)) (length-variables round))

pub bound_none : (symbols : List (List ℕ)) (round : List NormalLoop) (e : Expression) (more : List Multiple)
    → IsFound (length (variables_of round)) (form_of (variables_of round) symbols e) None → None ≡ bound_form symbols round e more
unfolding bound_form
bound_none symbols round e more h = by (form_of (variables_of round) symbols e) h
  where
    by : (o : Option Form) → IsFound (length (variables_of round)) o None
        → ◌≡◌ {A = Option Affine} None (o >>= λ f. combination (length symbols) (with_counters round (affine_of (length round) f) ++ more))
    by None g = refl
    by (Some f) g = absurd g

pub ruleset bound_laws = (bound_found, bound_none)
