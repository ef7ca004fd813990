use Rattle.std.proofs.Common.{rules, ◌≡◌, ◌≤◌, ◌^◌, arith, inl, inr, ◌⊎◌}
use Rattle.std.specs.Prelude.{ℤ, pos, ◌+ℤ◌, ◌*ℤ◌, ◌<ℤ◌, ◌≤ℤ◌, FitsSigned, unsigned_abs}
use Rattle.std.proofs.lemmas.Int.{fits_signed_from_abs, ints, to_z-of_z}
use mir.Syntax.{w128}
use Rattle.dependence_tests.proofs.gcd_banerjee.Triangles.{least_corner, scaled_small}
use Rattle.dependence_tests.proofs.gcd_banerjee.least.least_over_triangle.Goals as goal

pub overflow_add-result : goal.overflow_add-result
overflow_add-result c =
    let b : FitsSigned w128 c.args.base = c.ranges.base in
    let f : FitsSigned w128 c.args.c = c.ranges.c in
    let g : FitsSigned w128 c.args.d = c.ranges.d in
    let r : FitsSigned w128 c.args.room = c.ranges.room in
    let s : FitsSigned w128 c.steepest.result = search rules in
    let o = simp to_z-of_z at c.steepest.ensures.one in
    let p = scaled_small c.args.c c.args.d c.steepest.result c.args.room c.requires.c c.requires.d c.requires.room o in
    let q : FitsSigned w128 (c.steepest.result *ℤ c.args.room) = fits_signed_from_abs w128 _ (omega arith) in
    simp to_z-of_z (fits_signed_from_abs w128 _ (omega (arith, ints)))

pub returns-clause-least : goal.returns-clause-least
returns-clause-least c =
    let b : FitsSigned w128 c.args.base = c.ranges.base in
    let f : FitsSigned w128 c.args.c = c.ranges.c in
    let g : FitsSigned w128 c.args.d = c.ranges.d in
    let r : FitsSigned w128 c.args.room = c.ranges.room in
    let s : FitsSigned w128 c.steepest.result = search rules in
    let o = simp to_z-of_z at c.steepest.ensures.one in
    let p = scaled_small c.args.c c.args.d c.steepest.result c.args.room c.requires.c c.requires.d c.requires.room o in
    let q : FitsSigned w128 (c.steepest.result *ℤ c.args.room) = fits_signed_from_abs w128 _ (omega arith) in
    let t : FitsSigned w128 (c.args.base +ℤ c.steepest.result *ℤ c.args.room) = fits_signed_from_abs w128 _ (omega (arith, ints)) in
    let x = simp to_z-of_z at c.steepest.ensures.first in
    let y = simp to_z-of_z at c.steepest.ensures.second in
    simp to_z-of_z (least_corner c.args.base c.args.c c.args.d c.steepest.result c.args.room x y c.steepest.ensures.third o (omega (arith, ints)))

pub returns-clause-within : goal.returns-clause-within
returns-clause-within c =
    let b : FitsSigned w128 c.args.base = c.ranges.base in
    let f : FitsSigned w128 c.args.c = c.ranges.c in
    let g : FitsSigned w128 c.args.d = c.ranges.d in
    let r : FitsSigned w128 c.args.room = c.ranges.room in
    let s : FitsSigned w128 c.steepest.result = search rules in
    let o = simp to_z-of_z at c.steepest.ensures.one in
    let p = scaled_small c.args.c c.args.d c.steepest.result c.args.room c.requires.c c.requires.d c.requires.room o in
    let q : FitsSigned w128 (c.steepest.result *ℤ c.args.room) = fits_signed_from_abs w128 _ (omega arith) in
    let t : FitsSigned w128 (c.args.base +ℤ c.steepest.result *ℤ c.args.room) = fits_signed_from_abs w128 _ (omega (arith, ints)) in
    simp to_z-of_z (omega (arith, ints))
