use Rattle.std.proofs.Common.{◌≡◌, ◌≤◌, ◌^◌, ℕ, List, ℤ, pos, nat_abs, get_or, rules}
use Rattle.linear_forms.specs.Linear.{Form}
use Rattle.linear_forms.specs.Places.{padded, terms_from}
use Rattle.linear_forms.specs.Affines.{IsAffineOf}
use Rattle.find_nests.specs.bound_limits.Composed.{filled}
use Rattle.find_nests.proofs.BoundLimits.AroundLaws.{symbol_terms-is}
use Rattle.find_nests.proofs.bound_limits.around.without_loops.Goals as goal

pub returns : goal.returns
returns c =
    let value : (cs : List ℤ) → c.args.form.now.syms ≡ padded (terms_from 0 cs) → c.in_ok-coefficients.field-0.items ≡ filled c.args.symbols cs = search rules in
    let size : (j : ℕ) → nat_abs (get_or c.in_ok-coefficients.field-0.items j (pos 0)) ≤ 2 ^ 63 = search rules in
    record {
      value = λ k f i. symbol_terms-is c.args.symbols k f c.args.form.now _ i value (search rules);
      size = record { coefficients = size; constant = search rules };
    }
