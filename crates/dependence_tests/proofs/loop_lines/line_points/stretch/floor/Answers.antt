use Rattle.std.proofs.Common.{rules, ◌≡◌, ◌<◌, ◌↔◌, arith}
use Rattle.std.specs.Prelude.{ℤ, pos, negsuc, FitsSigned, ◌*ℤ◌, ◌≤ℤ◌, ◌<ℤ◌}
use Rattle.std.specs.Int.{int_div_euclid}
use Rattle.std.proofs.lemmas.Int.{ints, to_z-of_z}
use mir.Syntax.{w128}
use Rattle.dependence_tests.proofs.loop_lines.LinePoints.Floors.{floor_out, floor_in}
use Rattle.dependence_tests.proofs.loop_lines.line_points.stretch.floor.Goals as goal

both : (n k s : ℤ) → pos 0 <ℤ k → (s ≤ℤ int_div_euclid n k) ↔ ((k *ℤ s) ≤ℤ n)
both n (pos k) s h = let p : 0 < k = omega (arith, ints) in (floor_out n s k p, floor_in n s k p)
both n (negsuc k) s h = absurd (omega (arith, ints))

pub returns-clause-below : goal.returns-clause-below
returns-clause-below c s =
    let fn : FitsSigned w128 c.args.n = c.ranges.n in
    let fk : FitsSigned w128 c.args.k = c.ranges.k in
    let fr : FitsSigned w128 c.div_euclid.result = search rules in
    let e : c.div_euclid.result ≡ int_div_euclid c.args.n c.args.k = simp to_z-of_z at c.div_euclid.ensures in
    simp to_z-of_z (simp e (both c.args.n c.args.k s c.requires.positive))
