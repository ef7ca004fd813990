use Rattle.std.proofs.Common.{◌≡◌, ◌+◌, sym, subst, pos, set, replicate, Some, rules}
use Rattle.linear_forms.specs.Linear.{limited}
use Rattle.linear_forms.specs.Places.{unit_form}
use Rattle.linear_forms.specs.Affines.{IsFound}
use Rattle.linear_forms.proofs.Units.{symbol_found}
use Rattle.linear_forms.proofs.forms.symbol_form.Goals as goal

pub returns : goal.returns
returns c =
    let same : c.in-Ok.place ≡ c.args.at = search rules in
    λ n h. subst (λ k. IsFound n (limited n (Some (unit_form (n + c.args.at)))) (Some (record { loops = replicate 7 (pos 0); syms = set (replicate 8 (0, pos 0)) 0 (k, pos 1); constant = pos 0 })))
    (sym same) (symbol_found n c.args.at)
