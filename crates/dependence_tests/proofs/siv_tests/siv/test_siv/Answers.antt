use Rattle.std.proofs.Common.{rules, IsTrue, false, inr}
use Rattle.std.specs.Prelude.{FitsSigned}
use Rattle.std.proofs.lemmas.Int.{to_z-of_z}
use mir.Syntax.{w64}
use Rattle.dependence_tests.specs.siv_tests.Words.{IsSivWord}
use Rattle.subscripts.specs.Refutations.{IsExact}
use Rattle.dependence_tests.specs.loop_lines.Places.{loop_at}
use Rattle.dependence_tests.proofs.siv_tests.WordLaws.{word_from, not_exact, is_exact, not_refuted}
use Rattle.dependence_tests.proofs.siv_tests.siv.test_siv.Goals as goal

pub returns-then-range_refutes-clause-word : goal.returns-then-range_refutes-clause-word
returns-then-range_refutes-clause-word c =
    let fa : FitsSigned w64 c.coefficients_at-first.result.0 = search rules in
    let fb : FitsSigned w64 c.coefficients_at-first.result.1 = search rules in
    let word : IsSivWord c.coefficients_at-first.result.0 c.coefficients_at-first.result.1 c.word_of-word.result = simp to_z-of_z at c.word_of-word.ensures in
    word_from c.args.p.now (loop_at c.one_loop_of-at.result) c.word_of-word.result c.coefficients_at-first.result.0 c.coefficients_at-first.result.1 c.one_loop_of-at.ensures c.coefficients_at-first.ensures.first c.coefficients_at-first.ensures.second word

pub returns-in-None-least_pair-clause-why : goal.returns-in-None-least_pair-clause-why
returns-in-None-least_pair-clause-why c =
    inr (inr (is_exact c.args.p.now (loop_at c.one_loop_of-at.result) c.bounds_at.result.span c.one_loop_of-at.ensures c.bounds_at.ensures.span c.in-Some.ensures.0, c.in-None-least_pair.ensures.cut_too))

pub returns-else-range_refutes-clause-assumed : goal.returns-else-range_refutes-clause-assumed
returns-else-range_refutes-clause-assumed c =
    let x : IsExact c.args.p.now → ⊥ = not_exact c.args.p.now (loop_at c.one_loop_of-at.result) c.bounds_at.result.span c.one_loop_of-at.ensures c.bounds_at.ensures.span c.in-None.ensures in (
      x,
      not_refuted c.args.p.now c.args.d.now x (λ g. let t : IsTrue false = c.if-gcd_refutes.ensures.exact.1 g in cc) (λ r. let t : IsTrue false = c.if-range_refutes.ensures.exact.1 r in cc),
    )

pub returns-else-range_refutes-clause-word : goal.returns-else-range_refutes-clause-word
returns-else-range_refutes-clause-word c =
    let fa : FitsSigned w64 c.coefficients_at-first.result.0 = search rules in
    let fb : FitsSigned w64 c.coefficients_at-first.result.1 = search rules in
    let word : IsSivWord c.coefficients_at-first.result.0 c.coefficients_at-first.result.1 c.word_of-word.result = simp to_z-of_z at c.word_of-word.ensures in
    word_from c.args.p.now (loop_at c.one_loop_of-at.result) c.word_of-word.result c.coefficients_at-first.result.0 c.coefficients_at-first.result.1 c.one_loop_of-at.ensures c.coefficients_at-first.ensures.first c.coefficients_at-first.ensures.second word
