-- One more constraint on a loop.
use Rattle.std.proofs.Common.{◌≢◌, ℕ, ◌<◌, List, length, get_or, set, get_or-set_same, get_or-set_other, subst, sym, inl, inr}
use Rattle.std.specs.Prelude.{ℤ}
use Rattle.std.proofs.lemmas.Bool.{cases_eq}
use Rattle.dependence_tests.specs.delta_test.Constraints.{Allows, IsMeet}
use Rattle.dependence_tests.specs.declared.delta_test.constraint.Constraint.{Constraint}
use Rattle.dependence_tests.specs.declared.delta_test.constraint.Constraint.TheVariants.{Anywhere}

-- what each place of a list of constraints allows, with a meet in one of them
pub kept_set : (cs : List Constraint) (k : ℕ) (one met : Constraint) (i j : ℕ → ℤ) → k < length cs → IsMeet (get_or cs k Anywhere) one met → ((m : ℕ) → Allows (get_or cs m Anywhere) (i m) (j m))
    → Allows one (i k) (j k) → (m : ℕ) → Allows (get_or (set cs k met) m Anywhere) (i m) (j m)
kept_set cs k one met i j b h a o m =
    elim (cases_eq m k) [
      | inl e ↦ subst (λ (n : ℕ). Allows (get_or (set cs k met) n Anywhere) (i n) (j n)) (sym e) (rw get_or-set_same ((h (i k) (j k)).1 (a k, o)))
      | inr u ↦ let v : m ≢ k = u in rw get_or-set_other (a m)
    ]
