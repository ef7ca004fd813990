use Rattle.std.proofs.Common.{◌≡◌, ◌∷◌, ◌*◌, ◌<◌, sym, rules, arith}
use Rattle.std.proofs.lemmas.Grind.{common_steps}
use Rattle.tree.specs.Limits.{most_array_elements}
use Rattle.scalar_expand.specs.Extents.{known_extent}
use Rattle.scalar_expand.proofs.ExtentLaws.{counted_over}
use Rattle.scalar_expand.proofs.extents.+are_few.Goals as goal

pub returns-then-elements-from : goal.returns-then-elements-from
returns-then-elements-from t c =
    let first : c.args.extents.now ≡ c.in-Some.first.now ∷ c.in-Some.rest.now = search rules in
    let over : most_array_elements < c.args.elements * known_extent c.in-Some.first.now = first_of (search rules, grind (arith, common_steps)) in
    sym (counted_over c.args.elements c.in-Some.first.now c.in-Some.rest.now c.args.extents.now first over)
