use Rattle.std.proofs.Common.{◌≡◌, ap, sym, ◌∙◌, Option, Some, map, rules}
use Rattle.tree.specs.declared.functions.Intrinsic.{Intrinsic}
use Rattle.tree.specs.declared.functions.Intrinsic.TheVariants as intrinsics
use Rattle.tree.specs.View.{subscript_of}
use Rattle.f90_trees.specs.Building.{called_held}
use Rattle.f90_trees.proofs.CalledLaws.{elemental_is}
use Rattle.f90_trees.proofs.building.called.Goals as goal

pub returns-in_ok-arguments-in-Some-Elemental : goal.returns-in_ok-arguments-in-Some-Elemental
returns-in_ok-arguments-in-Some-Elemental c =
    let h = elemental_is c.in-Some-Elemental.function c.args.name c.args.parts c.in_ok-arguments-in-Some-Elemental.field-0 c.in_ok-arguments-in-Some-Elemental.ensures in
    let e : c.args.function ≡ Some (intrinsics.Elemental c.in-Some-Elemental.function) = first_of (search rules, cc, grind) in
    h ∙ ap (λ (q : Option Intrinsic). called_held q c.args.name (map subscript_of c.args.parts)) (sym e)
