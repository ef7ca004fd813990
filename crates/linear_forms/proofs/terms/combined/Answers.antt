use Rattle.std.proofs.Common.{◌≡◌, ◌∙◌, sym, subst, ◌+ℤ◌, ◌*ℤ◌, ℤ, List, Option, Some, None, rules, SFits}
use Rattle.std.specs.Prelude.{MatchOption}
use Rattle.std.specs.Int.{w64}
use Rattle.std.proofs.lemmas.Int.{to_z-of_z}
use Rattle.linear_forms.specs.Merging.{IsCombined, IsTooLarge, merged, all_pushed, front_used}
use Rattle.linear_forms.specs.Pushing.{small_or_none}
use Rattle.linear_forms.proofs.Sums.{small_is}
use Rattle.linear_forms.proofs.Combining.{lost_loops, lost_terms, kept, nothing_yet}
use Rattle.linear_forms.proofs.terms.combined.Goals as goal

pub returns-in_default : goal.returns-in_default
returns-in_default c =
    let f = c.args.f.now in
    let g = c.args.g.now in
    let fits : SFits w64 c.args.k = search rules in
    let none : c.combined_loops.result ≡ None = search rules in
    let P : Option (List ℤ) → ℤ → Type 0 = λ r k. MatchOption r (IsTooLarge f.loops g.loops k) (IsCombined f.loops g.loops k) in
    let large = subst (λ r. P r c.args.k) none (subst (λ k. P c.combined_loops.result k) (to_z-of_z w64 c.args.k fits) c.combined_loops.ensures) in
    λ n p q few a b. lost_loops n p q f g c.args.k a b large

pub returns-in_default-with_both : goal.returns-in_default-with_both
returns-in_default-with_both c =
    let f = c.args.f.now in
    let g = c.args.g.now in
    let none : None ≡ all_pushed (merged c.args.k (front_used f.syms) (front_used g.syms)) nothing_yet = search rules in
    λ n p q few a b. lost_terms n p q f g c.args.k a b none

pub returns : goal.returns
returns c =
    let f = c.args.f.now in
    let g = c.args.g.now in
    let fits : SFits w64 c.args.k = search rules in
    let P : Option (List ℤ) → ℤ → Type 0 = λ r k. MatchOption r (IsTooLarge f.loops g.loops k) (IsCombined f.loops g.loops k) in
    let some : c.combined_loops.result ≡ Some c.in-Some.loops = search rules in
    let loops = subst (λ r. P r c.args.k) some (subst (λ k. P c.combined_loops.result k) (to_z-of_z w64 c.args.k fits) c.combined_loops.ensures) in
    let terms : Some c.in-Some-with_both.terms ≡ all_pushed (merged c.args.k (front_used f.syms) (front_used g.syms)) nothing_yet = search rules in
    let exact : c.coefficient.result ≡ f.constant +ℤ c.args.k *ℤ g.constant = search rules in
    let got : c.small.result ≡ small_or_none c.coefficient.result = search rules in
    let is = small_is c.coefficient.result c.in-Some-small.constant (sym c.in-Some-small.is ∙ got) in
    let fits_constant : SFits w64 c.in-Some-small.constant = search rules in
    rw (to_z-of_z w64 c.in-Some-small.constant fits_constant)
    (λ n p q few a b. kept n p q f g c.args.k a b c.in-Some.loops c.in-Some-with_both.terms c.in-Some-small.constant loops terms (is.0 ∙ exact) is.1)
