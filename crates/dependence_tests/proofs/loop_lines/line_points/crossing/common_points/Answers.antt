use Rattle.std.proofs.Common.{rules, ◌≡◌, ◌<◌, arith}
use Rattle.std.specs.Prelude.{pos, FitsSigned, unsigned_abs}
use Rattle.std.proofs.lemmas.Int.{ints, to_z-of_z}
use mir.Syntax.{w128}
use Rattle.dependence_tests.specs.loop_lines.line_points.Quotient.{IsQuotient}
use Rattle.dependence_tests.proofs.loop_lines.LinePoints.Quotients.{abs_positive}
use Rattle.dependence_tests.proofs.loop_lines.LinePoints.PointsOfLine.{le_product}
use Rattle.dependence_tests.proofs.loop_lines.LinePoints.Cramer.{Determinants, i_solved, j_solved, nowhere_if_parallel, everywhere, not_whole, quotient_solves, at_point}
use Rattle.dependence_tests.proofs.loop_lines.line_points.crossing.common_points.Goals as goal

pub returns-then-for_i-ne0 : goal.returns-then-for_i-ne0
returns-then-for_i-ne0 c i j o p =
    let fa : FitsSigned w128 c.args.one.first = search rules in
    let fb : FitsSigned w128 c.args.one.second = search rules in
    let fc : FitsSigned w128 c.args.one.constant = search rules in
    let fd : FitsSigned w128 c.args.other.first = search rules in
    let fe : FitsSigned w128 c.args.other.second = search rules in
    let ff : FitsSigned w128 c.args.other.constant = search rules in
    let gall : FitsSigned w128 c.determinant-all.result = search rules in
    let gi : FitsSigned w128 c.determinant-for_i.result = search rules in
    let gj : FitsSigned w128 c.determinant-for_j.result = search rules in
    let d : Determinants c.args.one c.args.other c.determinant-all.result c.determinant-for_i.result c.determinant-for_j.result =
    record {
      all_is = simp to_z-of_z at c.determinant-all.ensures.value;
      for_i_is = simp to_z-of_z at c.determinant-for_i.ensures.value;
      for_j_is = simp to_z-of_z at c.determinant-for_j.ensures.value;
    } in
    let z : c.determinant-all.result ≡ pos 0 = omega (arith, ints) in
    let n : c.determinant-for_i.result ≡ pos 0 → ⊥ = omega (arith, ints) in
    n (nowhere_if_parallel c.determinant-for_i.result c.determinant-all.result i z (i_solved c.args.one c.args.other c.determinant-all.result c.determinant-for_i.result c.determinant-for_j.result i j d o p))

pub returns-then-for_j-ne0 : goal.returns-then-for_j-ne0
returns-then-for_j-ne0 c i j o p =
    let fa : FitsSigned w128 c.args.one.first = search rules in
    let fb : FitsSigned w128 c.args.one.second = search rules in
    let fc : FitsSigned w128 c.args.one.constant = search rules in
    let fd : FitsSigned w128 c.args.other.first = search rules in
    let fe : FitsSigned w128 c.args.other.second = search rules in
    let ff : FitsSigned w128 c.args.other.constant = search rules in
    let gall : FitsSigned w128 c.determinant-all.result = search rules in
    let gi : FitsSigned w128 c.determinant-for_i.result = search rules in
    let gj : FitsSigned w128 c.determinant-for_j.result = search rules in
    let d : Determinants c.args.one c.args.other c.determinant-all.result c.determinant-for_i.result c.determinant-for_j.result =
    record {
      all_is = simp to_z-of_z at c.determinant-all.ensures.value;
      for_i_is = simp to_z-of_z at c.determinant-for_i.ensures.value;
      for_j_is = simp to_z-of_z at c.determinant-for_j.ensures.value;
    } in
    let z : c.determinant-all.result ≡ pos 0 = omega (arith, ints) in
    let n : c.determinant-for_j.result ≡ pos 0 → ⊥ = omega (arith, ints) in
    n (nowhere_if_parallel c.determinant-for_j.result c.determinant-all.result j z (j_solved c.args.one c.args.other c.determinant-all.result c.determinant-for_i.result c.determinant-for_j.result i j d o p))

pub returns-then-all-eq0 : goal.returns-then-all-eq0
returns-then-all-eq0 c =
    let fa : FitsSigned w128 c.args.one.first = search rules in
    let fb : FitsSigned w128 c.args.one.second = search rules in
    let fc : FitsSigned w128 c.args.one.constant = search rules in
    let fd : FitsSigned w128 c.args.other.first = search rules in
    let fe : FitsSigned w128 c.args.other.second = search rules in
    let ff : FitsSigned w128 c.args.other.constant = search rules in
    let gall : FitsSigned w128 c.determinant-all.result = search rules in
    let gi : FitsSigned w128 c.determinant-for_i.result = search rules in
    let gj : FitsSigned w128 c.determinant-for_j.result = search rules in
    let d : Determinants c.args.one c.args.other c.determinant-all.result c.determinant-for_i.result c.determinant-for_j.result =
    record {
      all_is = simp to_z-of_z at c.determinant-all.ensures.value;
      for_i_is = simp to_z-of_z at c.determinant-for_i.ensures.value;
      for_j_is = simp to_z-of_z at c.determinant-for_j.ensures.value;
    } in
    let z : c.determinant-all.result ≡ pos 0 = omega (arith, ints) in
    let zi : c.determinant-for_i.result ≡ pos 0 = omega (arith, ints) in
    let zj : c.determinant-for_j.result ≡ pos 0 = omega (arith, ints) in
    everywhere c.args.one c.args.other c.determinant-all.result c.determinant-for_i.result c.determinant-for_j.result c.requires.one c.requires.other d z zi zj

pub returns-then-i-ne0 : goal.returns-then-i-ne0
returns-then-i-ne0 c i j o p =
    let fa : FitsSigned w128 c.args.one.first = search rules in
    let fb : FitsSigned w128 c.args.one.second = search rules in
    let fc : FitsSigned w128 c.args.one.constant = search rules in
    let fd : FitsSigned w128 c.args.other.first = search rules in
    let fe : FitsSigned w128 c.args.other.second = search rules in
    let ff : FitsSigned w128 c.args.other.constant = search rules in
    let gall : FitsSigned w128 c.determinant-all.result = search rules in
    let gi : FitsSigned w128 c.determinant-for_i.result = search rules in
    let gj : FitsSigned w128 c.determinant-for_j.result = search rules in
    let d : Determinants c.args.one c.args.other c.determinant-all.result c.determinant-for_i.result c.determinant-for_j.result =
    record {
      all_is = simp to_z-of_z at c.determinant-all.ensures.value;
      for_i_is = simp to_z-of_z at c.determinant-for_i.ensures.value;
      for_j_is = simp to_z-of_z at c.determinant-for_j.ensures.value;
    } in
    let h : c.determinant-all.result ≡ pos 0 → ⊥ = omega (arith, ints) in
    let ti : FitsSigned w128 c.divided-i.result.times = search rules in
    let ri : FitsSigned w128 c.divided-i.result.rest = search rules in
    let ki : IsQuotient c.determinant-for_i.result c.determinant-all.result c.divided-i.result = simp to_z-of_z at c.divided-i.ensures in
    let n : c.divided-i.result.rest ≡ pos 0 → ⊥ = omega (arith, ints) in
    n (not_whole c.determinant-all.result c.determinant-for_i.result i c.divided-i.result ki (i_solved c.args.one c.args.other c.determinant-all.result c.determinant-for_i.result c.determinant-for_j.result i j d o p))

pub returns-then-j-ne0 : goal.returns-then-j-ne0
returns-then-j-ne0 c i j o p =
    let fa : FitsSigned w128 c.args.one.first = search rules in
    let fb : FitsSigned w128 c.args.one.second = search rules in
    let fc : FitsSigned w128 c.args.one.constant = search rules in
    let fd : FitsSigned w128 c.args.other.first = search rules in
    let fe : FitsSigned w128 c.args.other.second = search rules in
    let ff : FitsSigned w128 c.args.other.constant = search rules in
    let gall : FitsSigned w128 c.determinant-all.result = search rules in
    let gi : FitsSigned w128 c.determinant-for_i.result = search rules in
    let gj : FitsSigned w128 c.determinant-for_j.result = search rules in
    let d : Determinants c.args.one c.args.other c.determinant-all.result c.determinant-for_i.result c.determinant-for_j.result =
    record {
      all_is = simp to_z-of_z at c.determinant-all.ensures.value;
      for_i_is = simp to_z-of_z at c.determinant-for_i.ensures.value;
      for_j_is = simp to_z-of_z at c.determinant-for_j.ensures.value;
    } in
    let tj : FitsSigned w128 c.divided-j.result.times = search rules in
    let rj : FitsSigned w128 c.divided-j.result.rest = search rules in
    let kj : IsQuotient c.determinant-for_j.result c.determinant-all.result c.divided-j.result = simp to_z-of_z at c.divided-j.ensures in
    let n : c.divided-j.result.rest ≡ pos 0 → ⊥ = omega (arith, ints) in
    n (not_whole c.determinant-all.result c.determinant-for_j.result j c.divided-j.result kj (j_solved c.args.one c.args.other c.determinant-all.result c.determinant-for_i.result c.determinant-for_j.result i j d o p))

pub returns : goal.returns
returns c =
    let fa : FitsSigned w128 c.args.one.first = search rules in
    let fb : FitsSigned w128 c.args.one.second = search rules in
    let fc : FitsSigned w128 c.args.one.constant = search rules in
    let fd : FitsSigned w128 c.args.other.first = search rules in
    let fe : FitsSigned w128 c.args.other.second = search rules in
    let ff : FitsSigned w128 c.args.other.constant = search rules in
    let gall : FitsSigned w128 c.determinant-all.result = search rules in
    let gi : FitsSigned w128 c.determinant-for_i.result = search rules in
    let gj : FitsSigned w128 c.determinant-for_j.result = search rules in
    let d : Determinants c.args.one c.args.other c.determinant-all.result c.determinant-for_i.result c.determinant-for_j.result =
    record {
      all_is = simp to_z-of_z at c.determinant-all.ensures.value;
      for_i_is = simp to_z-of_z at c.determinant-for_i.ensures.value;
      for_j_is = simp to_z-of_z at c.determinant-for_j.ensures.value;
    } in
    let h : c.determinant-all.result ≡ pos 0 → ⊥ = omega (arith, ints) in
    let ti : FitsSigned w128 c.divided-i.result.times = search rules in
    let ri : FitsSigned w128 c.divided-i.result.rest = search rules in
    let ki : IsQuotient c.determinant-for_i.result c.determinant-all.result c.divided-i.result = simp to_z-of_z at c.divided-i.ensures in
    let tj : FitsSigned w128 c.divided-j.result.times = search rules in
    let rj : FitsSigned w128 c.divided-j.result.rest = search rules in
    let kj : IsQuotient c.determinant-for_j.result c.determinant-all.result c.divided-j.result = simp to_z-of_z at c.divided-j.ensures in
    let zi : c.divided-i.result.rest ≡ pos 0 = omega (arith, ints) in
    let zj : c.divided-j.result.rest ≡ pos 0 = omega (arith, ints) in
    let p : 0 < unsigned_abs c.determinant-all.result = abs_positive c.determinant-all.result h in
    let e = quotient_solves c.determinant-all.result c.determinant-for_i.result c.divided-i.result ki zi in
    let f = quotient_solves c.determinant-all.result c.determinant-for_j.result c.divided-j.result kj zj in
    simp to_z-of_z (
      at_point c.args.one c.args.other c.determinant-all.result c.determinant-for_i.result c.determinant-for_j.result c.divided-i.result.times c.divided-j.result.times d p e f,
      omega (arith, ki.sizes, le_product (unsigned_abs c.divided-i.result.times) (unsigned_abs c.determinant-all.result) p, c.determinant-for_i.ensures.size),
      omega (arith, kj.sizes, le_product (unsigned_abs c.divided-j.result.times) (unsigned_abs c.determinant-all.result) p, c.determinant-for_j.ensures.size),
    )
