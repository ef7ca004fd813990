-- Above 0 all over the region, or below it.
use Rattle.std.proofs.Common.{◌≡◌, ℕ, ◌≤◌, ◌^◌, ◌⊎◌, true, false, List, arith, inl, inr}
use Rattle.std.specs.Prelude.{ℤ, pos, ◌+ℤ◌, ◌-ℤ◌, ◌<ℤ◌, All, IsTrue, unsigned_abs}
use Rattle.std.proofs.lemmas.Int.{ints}
use Rattle.dependence_tests.proofs.gcd_banerjee.Gcds.{difference_is}
use Rattle.dependence_tests.specs.gcd_banerjee.Extremes.{IsOneSidedWith, IsReduced}
use Rattle.subscripts.specs.Forms.{HasNoPair, IsInRegion, difference}
use Rattle.subscripts.specs.Refutations.{IsOneSided}
use Rattle.subscripts.specs.Shapes.{IsPairing}
use Rattle.subscripts.specs.declared.affine.Dirs.{Dirs}
use Rattle.subscripts.specs.declared.pairing.Pairing.{Pairing}

pub reduced : (p : Pairing) → IsPairing p → IsReduced p
reduced p h = record {
  first = λ k x l. let s = h.from.small_loops k x l in omega arith;
  second = λ k x l. let s = h.to.small_loops k x l in omega arith;
  symbols = record { from = h.from.small_symbols; to = h.to.small_symbols };
  common_spans = h.common_spans;
}

pub one_sided : (p : Pairing) (d : Dirs) → IsOneSidedWith p d (p.from.constant -ℤ p.to.constant) → IsOneSided p d
one_sided p d (inl h) = inl (λ v x y r. let e = difference_is p v x y in let k = h v x y r in omega (arith, ints))
one_sided p d (inr h) = inr (λ v x y r. let e = difference_is p v x y in let k = h v x y r in omega (arith, ints))

pub one_sided_with : (p : Pairing) (d : Dirs) → IsOneSided p d → IsOneSidedWith p d (p.from.constant -ℤ p.to.constant)
one_sided_with p d (inl h) = inl (λ v x y r. let e = difference_is p v x y in let k = h v x y r in omega (arith, ints))
one_sided_with p d (inr h) = inr (λ v x y r. let e = difference_is p v x y in let k = h v x y r in omega (arith, ints))

-- a one-sided pairing has no pair of iterations
pub no_pair : (p : Pairing) (d : Dirs) → IsTrue p.known → IsOneSided p d → HasNoPair p d
no_pair p d t (inl h) x y q = let e = q.equal t in let k = h e.0 x y q.region in let z = e.1 in absurd (omega (arith, ints))
no_pair p d t (inr h) x y q = let e = q.equal t in let k = h e.0 x y q.region in let z = e.1 in absurd (omega (arith, ints))
