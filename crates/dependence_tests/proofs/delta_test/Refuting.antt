-- A reduced pairing that is one-sided has no pair of iterations.
use Rattle.std.proofs.Common.{◌≡◌, ℕ, List, arith, subst, sym, inl, inr}
use Rattle.std.specs.Prelude.{ℤ, pos, All, IsTrue}
use Rattle.std.proofs.lemmas.Int.{ints}
use Rattle.dependence_tests.specs.gcd_banerjee.Extremes.{IsOneSidedWith, difference_with}
use Rattle.subscripts.specs.Forms.{IsInRegion, WithinSpans}
use Rattle.subscripts.specs.declared.affine.Dirs.{Dirs}
use Rattle.subscripts.specs.declared.affine.Span.{Span}
use Rattle.subscripts.specs.declared.pairing.Pairing.{Pairing}
use Rattle.subscripts.specs.Groups.{IsPairOfAll}
use Rattle.dependence_tests.specs.delta_test.Members.{HaveEqualSides}
use Rattle.dependence_tests.specs.delta_test.Reductions.{IsAlike}

pub same_region : (p q : Pairing) (d : Dirs) (x y : List ℤ) → IsAlike p q → IsInRegion p d x y → IsInRegion q d x y
same_region p q d x y a r = record {
  from_within = subst (λ (s : List Span). WithinSpans s x) (sym a.from_spans) r.from_within;
  to_within = subst (λ (s : List Span). WithinSpans s y) (sym a.to_spans) r.to_within;
  related = r.related;
}

pub one_side_alone : (q : Pairing) (d : Dirs) (constant : ℤ) (v : ℕ → ℤ) (x y : List ℤ) → IsOneSidedWith q d constant → IsInRegion q d x y → difference_with q constant v x y ≡ pos 0 → ⊥
one_side_alone q d constant v x y (inl h) r e = let k = h v x y r in absurd (omega (arith, ints))
one_side_alone q d constant v x y (inr h) r e = let k = h v x y r in absurd (omega (arith, ints))

pub equal_sides : (ps : List Pairing) (d : Dirs) (x y : List ℤ) → All (λ p. IsTrue p.known) ps → IsPairOfAll ps d x y → HaveEqualSides ps x y
equal_sides ps d x y h r = λ k q l. (r k q l).equal (h k q l)
