use Rattle.std.proofs.Common.{◌≡◌, ◌∙◌, ap, arith, map}
use Rattle.std.proofs.lemmas.Grind.{common_steps}
use Rattle.tree.specs.Plain.{subscripts}
use Rattle.tree.specs.View.{expression_of, subscript_of}
use Rattle.reductions.specs.Gathering.{in_section}
use Rattle.reductions.proofs.FormLaws.{sectioned_each}
use Rattle.reductions.proofs.forms.sectioned.Goals as goal

pub returns : goal.returns
returns c =
    let same : map subscript_of c.loop-sub.made ≡ map (in_section c.args.name (expression_of c.args.trip.now)) (map subscript_of c.args.subs.now) = grind (arith, common_steps) in
    ap subscripts same ∙ sectioned_each c.args.name (expression_of c.args.trip.now) (map subscript_of c.args.subs.now)
