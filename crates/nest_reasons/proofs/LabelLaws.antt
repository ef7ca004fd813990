-- Sets of labels, and one mark more.
use Rattle.std.proofs.Common.{◌≡◌, ℕ, nat_eq, Bool, ◌||◌, List, ◌∷◌, ap, subst, ◌∙◌}
use Rattle.std.specs.List.{list_any}
use Rattle.std.proofs.lemmas.Bool.{eqb-true}
use Rattle.indexmap.specs.IndexSet.{insert_key}
use Rattle.nest_reasons.specs.declared.marks.Mark.{Mark}
use Rattle.nest_reasons.specs.declared.labels.Labels.{Labels}
use Rattle.nest_reasons.specs.Flaws.{passes_loop, jumps_over_loop}
use Rattle.nest_reasons.specs.Labels.{AreLabels}
use Rattle.nest_reasons.proofs.Sets as sets

pub label-insert_key : (n : ℕ) (ks : List ℕ) (k : ℕ) → list_any (nat_eq n) (insert_key nat_eq ks k) ≡ (list_any (nat_eq n) ks || nat_eq n k)
label-insert_key n ks k = sets.any-insert_key nat_eq eqb-true n ks k

-- one mark in front of those that were gone through
pub one_passed : (m : Mark) (rest whole : List Mark) (l : Labels) (now before : Bool) → AreLabels (m ∷ rest) l
    → now ≡ (passes_loop m rest || before) → before ≡ jumps_over_loop rest → m ∷ rest ≡ whole
    → AreLabels whole l × (now ≡ jumps_over_loop whole)
one_passed m rest whole l now before a e f g =
    (subst (λ ms. AreLabels ms l) g a, e ∙ ap (λ b. passes_loop m rest || b) f ∙ ap jumps_over_loop g)

pub ruleset set_laws = (label-insert_key)
