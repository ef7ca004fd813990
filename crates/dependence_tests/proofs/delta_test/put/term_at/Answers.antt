use Rattle.std.proofs.Common.{rules, arith}
use Rattle.std.specs.Prelude.{pos, ◌+ℤ◌, FitsSigned}
use Rattle.std.proofs.lemmas.Int.{to_z-of_z, fits_signed_from_abs}
use mir.Syntax.{w64, w128}
use Rattle.dependence_tests.proofs.loop_lines.LinePoints.Steps.{abs_sum}
use Rattle.subscripts.specs.Classes.{Shared, First, Second, at_place}
use Rattle.dependence_tests.proofs.delta_test.Terms.{three_values}
use Rattle.dependence_tests.proofs.delta_test.put.term_at.Goals as goal

pub returns-clause-value : goal.returns-clause-value
returns-clause-value c x y k =
    let fa : FitsSigned w64 c.args.first = c.ranges.first in
    let fb : FitsSigned w64 c.args.second = c.ranges.second in
    let ga : FitsSigned w64 c.put-both.result.first = search rules in
    let gb : FitsSigned w64 c.put-both.result.second = search rules in
    let gc : FitsSigned w128 c.put-both.result.constant = search rules in
    let ha : FitsSigned w64 c.put_point-own_first.result.first = search rules in
    let hc : FitsSigned w128 c.put_point-own_first.result.constant = search rules in
    let ib : FitsSigned w64 c.put_point-own_second.result.second = search rules in
    let ic : FitsSigned w128 c.put_point-own_second.result.constant = search rules in
    let s : FitsSigned w128 (c.put-both.result.constant +ℤ c.put_point-own_first.result.constant) =
    fits_signed_from_abs w128 _ (omega (arith, abs_sum c.put-both.result.constant c.put_point-own_first.result.constant, c.put-both.ensures.size, c.put_point-own_first.ensures.size)) in
    let t : FitsSigned w128 ((c.put-both.result.constant +ℤ c.put_point-own_first.result.constant) +ℤ c.put_point-own_second.result.constant) =
    fits_signed_from_abs w128 _ (omega (
      arith,
      abs_sum c.put-both.result.constant c.put_point-own_first.result.constant,
      abs_sum (c.put-both.result.constant +ℤ c.put_point-own_first.result.constant) c.put_point-own_second.result.constant,
      c.put-both.ensures.size,
      c.put_point-own_first.ensures.size,
      c.put_point-own_second.ensures.size,
    )) in
    let a = simp to_z-of_z at c.put-both.ensures.value (at_place x c.args.place) (at_place y c.args.place) (k (Shared c.args.place)) in
    let f = simp to_z-of_z at c.put_point-own_first.ensures.value (at_place x c.args.place) (pos 1) (k (First c.args.place)) in
    let g = simp to_z-of_z at c.put_point-own_second.ensures.value (pos 1) (at_place y c.args.place) (k (Second c.args.place)) in
    simp to_z-of_z (
    three_values c.args.first c.args.second (at_place x c.args.place) (at_place y c.args.place) c.put-both.result c.put_point-own_first.result c.put_point-own_second.result
    a f g c.put_point-own_first.ensures.second c.put_point-own_second.ensures.first
    )
