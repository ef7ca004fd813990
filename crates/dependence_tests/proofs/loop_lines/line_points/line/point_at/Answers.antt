use Rattle.std.proofs.Common.{rules, ◌≡◌, ◌≤◌, ◌^◌, arith, refl}
use Rattle.std.specs.Prelude.{ℤ, ◌+ℤ◌, ◌*ℤ◌, FitsSigned, unsigned_abs}
use Rattle.std.proofs.lemmas.Int.{to_z-of_z, fits_signed_from_abs}
use mir.Syntax.{w128}
use Rattle.dependence_tests.proofs.loop_lines.line_points.line.point_at.Goals as goal

near : (a b : ℤ) → unsigned_abs (a +ℤ b) ≤ 2 ^ 64 → FitsSigned w128 (a +ℤ b)
near a b h = fits_signed_from_abs w128 (a +ℤ b) (omega arith)

pub overflow_add-result-2 : goal.overflow_add-result-2
overflow_add-result-2 c =
    let fi : FitsSigned w128 c.args.points.i = search rules in
    let fj : FitsSigned w128 c.args.points.j = search rules in
    let fa : FitsSigned w128 c.args.points.along_i = search rules in
    let fb : FitsSigned w128 c.args.points.along_j = search rules in
    let fs : FitsSigned w128 c.args.s = c.ranges.s in
    let ft : FitsSigned w128 c.times.result = search rules in
    let fu : FitsSigned w128 c.times-2.result = search rules in
    let e : c.times.result ≡ c.args.points.along_i *ℤ c.args.s = simp to_z-of_z at c.times.ensures in
    let f : c.times-2.result ≡ c.args.points.along_j *ℤ c.args.s = simp to_z-of_z at c.times-2.ensures in
    let fsi : FitsSigned w128 (c.args.points.i +ℤ c.args.points.along_i *ℤ c.args.s) = near c.args.points.i (c.args.points.along_i *ℤ c.args.s) c.requires.at_i in
    let fsj : FitsSigned w128 (c.args.points.j +ℤ c.args.points.along_j *ℤ c.args.s) = near c.args.points.j (c.args.points.along_j *ℤ c.args.s) c.requires.at_j in
    simp to_z-of_z (simp f fsj)

pub returns : goal.returns
returns c =
    let fi : FitsSigned w128 c.args.points.i = search rules in
    let fj : FitsSigned w128 c.args.points.j = search rules in
    let fa : FitsSigned w128 c.args.points.along_i = search rules in
    let fb : FitsSigned w128 c.args.points.along_j = search rules in
    let fs : FitsSigned w128 c.args.s = c.ranges.s in
    let ft : FitsSigned w128 c.times.result = search rules in
    let fu : FitsSigned w128 c.times-2.result = search rules in
    let e : c.times.result ≡ c.args.points.along_i *ℤ c.args.s = simp to_z-of_z at c.times.ensures in
    let f : c.times-2.result ≡ c.args.points.along_j *ℤ c.args.s = simp to_z-of_z at c.times-2.ensures in
    let fsi : FitsSigned w128 (c.args.points.i +ℤ c.args.points.along_i *ℤ c.args.s) = near c.args.points.i (c.args.points.along_i *ℤ c.args.s) c.requires.at_i in
    let fsj : FitsSigned w128 (c.args.points.j +ℤ c.args.points.along_j *ℤ c.args.s) = near c.args.points.j (c.args.points.along_j *ℤ c.args.s) c.requires.at_j in
    simp to_z-of_z (simp (e, f) (simp to_z-of_z (record { i_is = refl; j_is = refl })))
