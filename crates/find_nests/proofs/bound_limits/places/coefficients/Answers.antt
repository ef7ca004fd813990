use Rattle.std.proofs.Common.{◌≡◌, ◌∙◌, ◌+◌, ◌≤◌, ◌<◌, ◌^◌, ap, sym, subst, rules, arith, ℤ, pos, negsuc, ◌+ℤ◌, ◌*ℤ◌, neg_ℤ, nat_abs, Bool, true, false, List, [], ◌∷◌, ◌++◌, map, drop, length, max, get_or, SFits, to_z, of_z, IfOk}
use Rattle.find_nests.proofs.BoundLimits.Lists.{one_filled, one_sized}
use Rattle.find_nests.proofs.bound_limits.places.coefficients.Goals as goal

pub loop-place-preserved : goal.loop-place-preserved
loop-place-preserved c =
    let list = c.loop-place.list.items in
    let pushed : c.push.new.self.items ≡ list ++ c.coefficient_at.result ∷ [] = search rules in
    record {
      value = λ cs is. one_filled cs c.args.terms.now c.loop-place.place list c.push.new.self.items c.coefficient_at.result is (c.loop-place.invariant.value cs is) c.coefficient_at.ensures.value pushed;
      size = one_sized (2 ^ 63) list c.push.new.self.items c.coefficient_at.result c.loop-place.invariant.size c.coefficient_at.ensures.size pushed;
    }
