use Rattle.std.proofs.Common.{◌≡◌, inl, inr, refl, ⊎_elim}
use Rattle.std.specs.Prelude.{FitsSigned}
use Rattle.std.proofs.lemmas.Bool.{both_ways}
use Rattle.std.proofs.lemmas.Int.{to_z-of_z}
use mir.Syntax.{w128}
use Rattle.dependence_tests.proofs.gcd_banerjee.range_test.range_refutes_with.Goals as goal

pub returns-then-is_above : goal.returns-then-is_above
returns-then-is_above c =
    let f : FitsSigned w128 c.args.constant = c.ranges.constant in
    let h = simp to_z-of_z at c.is_above.ensures in
    (λ t. inl (h.0 c.if-is_above.true), λ o. c.if-is_above.true)

pub returns-else-is_above : goal.returns-else-is_above
returns-else-is_above c =
    let f : FitsSigned w128 c.args.constant = c.ranges.constant in
    let h = simp to_z-of_z at c.is_above.ensures in
    let k = simp to_z-of_z at c.is_above-else-is_above.ensures in
    (λ t. inr (k.0 t), λ o. elim o [ inl a ↦ absurd (both_ways c.is_above.result c.if-is_above.false (h.1 a)) | inr b ↦ k.1 b ])
