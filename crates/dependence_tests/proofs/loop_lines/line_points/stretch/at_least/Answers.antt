use Rattle.std.proofs.Common.{rules, ◌↔◌, arith}
use Rattle.std.specs.Prelude.{FitsSigned, ◌*ℤ◌, ◌≤ℤ◌}
use Rattle.std.proofs.lemmas.Int.{ints, to_z-of_z}
use Rattle.std.proofs.Math.IntN.{neg_ℤ}
use mir.Syntax.{w128}
use Rattle.dependence_tests.proofs.loop_lines.LinePoints.Floors.{least_of, greatest_of, raised, raised_not, lowered, lowered_not, zero_less}
use Rattle.dependence_tests.proofs.loop_lines.line_points.stretch.at_least.Goals as goal

pub returns-then-least-stretch-clause-left : goal.returns-then-least-stretch-clause-left
returns-then-least-stretch-clause-left c s =
    let fk : FitsSigned w128 c.args.k = c.ranges.k in
    let fm : FitsSigned w128 c.args.m = c.ranges.m in
    let fl : FitsSigned w128 c.args.stretch.low = search rules in
    let fh : FitsSigned w128 c.args.stretch.high = search rules in
    let nm : FitsSigned w128 (neg_ℤ c.args.m) = omega (arith, ints, c.requires.m_size) in
    let ff : FitsSigned w128 c.floor-least.result = search rules in
    let nf : FitsSigned w128 (neg_ℤ c.floor-least.result) = omega (arith, ints, c.requires.m_size, c.floor-least.ensures.size) in
    let b = simp (zero_less, to_z-of_z) at (c.floor-least.ensures.below (neg_ℤ s)) in
    let e : (neg_ℤ c.floor-least.result ≤ℤ s) ↔ (c.args.m ≤ℤ (c.args.k *ℤ s)) = least_of c.floor-least.result c.args.k c.args.m s b in
    let t = simp (zero_less, to_z-of_z) at c.if-least-stretch.true in
    simp (zero_less, to_z-of_z) (raised c.args.stretch (neg_ℤ c.floor-least.result) c.args.k c.args.m s (omega (arith, ints)) e)

pub returns-then-least-stretch-clause-short : goal.returns-then-least-stretch-clause-short
returns-then-least-stretch-clause-short c =
    record {
      low = omega (arith, ints, c.requires.m_size, c.floor-least.ensures.size);
      high = omega (arith, ints, c.requires.short.high);
    }

pub returns-else-least-stretch-clause-left : goal.returns-else-least-stretch-clause-left
returns-else-least-stretch-clause-left c s =
    let fk : FitsSigned w128 c.args.k = c.ranges.k in
    let fm : FitsSigned w128 c.args.m = c.ranges.m in
    let fl : FitsSigned w128 c.args.stretch.low = search rules in
    let fh : FitsSigned w128 c.args.stretch.high = search rules in
    let nm : FitsSigned w128 (neg_ℤ c.args.m) = omega (arith, ints, c.requires.m_size) in
    let ff : FitsSigned w128 c.floor-least.result = search rules in
    let nf : FitsSigned w128 (neg_ℤ c.floor-least.result) = omega (arith, ints, c.requires.m_size, c.floor-least.ensures.size) in
    let b = simp (zero_less, to_z-of_z) at (c.floor-least.ensures.below (neg_ℤ s)) in
    let e : (neg_ℤ c.floor-least.result ≤ℤ s) ↔ (c.args.m ≤ℤ (c.args.k *ℤ s)) = least_of c.floor-least.result c.args.k c.args.m s b in
    let t = simp (zero_less, to_z-of_z) at c.if-least-stretch.false in
    raised_not c.args.stretch (neg_ℤ c.floor-least.result) c.args.k c.args.m s (omega (arith, ints)) e

pub returns-then-greatest-stretch-clause-left : goal.returns-then-greatest-stretch-clause-left
returns-then-greatest-stretch-clause-left c s =
    let fk : FitsSigned w128 c.args.k = c.ranges.k in
    let fm : FitsSigned w128 c.args.m = c.ranges.m in
    let fl : FitsSigned w128 c.args.stretch.low = search rules in
    let fh : FitsSigned w128 c.args.stretch.high = search rules in
    let nm : FitsSigned w128 (neg_ℤ c.args.m) = omega (arith, ints, c.requires.m_size) in
    let nk : FitsSigned w128 (neg_ℤ c.args.k) = omega (arith, ints, c.requires.k_size) in
    let ff : FitsSigned w128 c.floor-greatest.result = search rules in
    let b = simp (zero_less, to_z-of_z) at (c.floor-greatest.ensures.below s) in
    let e : (s ≤ℤ c.floor-greatest.result) ↔ (c.args.m ≤ℤ (c.args.k *ℤ s)) = greatest_of c.floor-greatest.result c.args.k c.args.m s b in
    let t = simp (zero_less, to_z-of_z) at c.if-greatest-stretch.true in
    simp (zero_less, to_z-of_z) (lowered c.args.stretch c.floor-greatest.result c.args.k c.args.m s (omega (arith, ints)) e)

pub returns-else-greatest-stretch-clause-left : goal.returns-else-greatest-stretch-clause-left
returns-else-greatest-stretch-clause-left c s =
    let fk : FitsSigned w128 c.args.k = c.ranges.k in
    let fm : FitsSigned w128 c.args.m = c.ranges.m in
    let fl : FitsSigned w128 c.args.stretch.low = search rules in
    let fh : FitsSigned w128 c.args.stretch.high = search rules in
    let nm : FitsSigned w128 (neg_ℤ c.args.m) = omega (arith, ints, c.requires.m_size) in
    let nk : FitsSigned w128 (neg_ℤ c.args.k) = omega (arith, ints, c.requires.k_size) in
    let ff : FitsSigned w128 c.floor-greatest.result = search rules in
    let b = simp (zero_less, to_z-of_z) at (c.floor-greatest.ensures.below s) in
    let e : (s ≤ℤ c.floor-greatest.result) ↔ (c.args.m ≤ℤ (c.args.k *ℤ s)) = greatest_of c.floor-greatest.result c.args.k c.args.m s b in
    let t = simp (zero_less, to_z-of_z) at c.if-greatest-stretch.false in
    lowered_not c.args.stretch c.floor-greatest.result c.args.k c.args.m s (omega (arith, ints)) e
