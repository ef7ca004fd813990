use Rattle.std.proofs.Common.{◌≡◌, ◌∙◌, ap, sym, subst, rules, refl, List, [], ◌∷◌, ◌++◌, map}
use Rattle.find_nests.specs.bound_limits.View.{outer_of, AreSmall}
use Rattle.find_nests.proofs.BoundLimits.WalkLaws.{one_outer, small_outer}
use Rattle.find_nests.proofs.bound_limits.walk.push_outer.Goals as goal

pub returns-clause-small : goal.returns-clause-small
returns-clause-small c =
    let items = c.args.around.now.items in
    let outer = c.args.outer in
    let pushed : c.push.new.self.items ≡ items ++ outer ∷ [] = search rules in
    let more : map outer_of c.push.new.self.items ≡ map outer_of items ++ outer_of outer ∷ [] = ap (map outer_of) pushed ∙ one_outer items outer (outer_of outer) refl in
    subst AreSmall (sym more) (small_outer (map outer_of items) (outer_of outer) c.requires.small c.requires.sized)
