-- What the Delta test leaves of a group.
use Rattle.std.proofs.Common.{◌≡◌, ℕ, ◌<◌, ◌≤◌, List, [], ◌∷◌, length, map, get_or, refl, ap, subst, sym, arith, ◌∙◌}
use Rattle.std.specs.Prelude.{ℤ, All, IsTrue, Some, slice_get, slice_index}
use Rattle.subscripts.specs.Classes.{Loop, HasOneLoop, span_of}
use Rattle.subscripts.specs.Cuts.{cut}
use Rattle.subscripts.specs.Groups.{IsExactGroup, IsPairOfAll, group_dirs}
use Rattle.subscripts.specs.Partitions.{AreGrouped, IsPartition}
use Rattle.subscripts.specs.declared.affine.Dirs.{Dirs}
use Rattle.subscripts.specs.declared.pairing.Pairing.{Pairing}
use Rattle.subscripts.specs.declared.verdict.Test.{Test}
use Rattle.subscripts.specs.declared.verdict.Verdict.{Verdict}
use Rattle.subscripts.specs.declared.verdict.Verdict.TheVariants as verdict
use Rattle.subscripts.proofs.Coupling.{alone, grouped_back, then}
use Rattle.dependence_tests.specs.loop_lines.Verdicts.{IfPair, OnAssumed}
use Rattle.dependence_tests.specs.delta_test.Groups.{AreNotRefuted, IsLeastOfAll}
use Rattle.direction_vectors.proofs.vector_tests.Groups.{AreKnown, IsNumbered, all_from, each_from, exact_solution, not_alone, same_number}
use Rattle.direction_vectors.specs.vector_tests.Places.{HasExactLoop, IsGroupLeft, IsLeft, picked}
use Rattle.direction_vectors.specs.vector_tests.Ways.{EachGrouped, IsSolution}
use Rattle.direction_vectors.specs.vector_tests.Words.{IsSeparable}

some_pairing : (ps : List Pairing) → 0 < length ps → Pairing
some_pairing [] h = absurd (omega arith)
some_pairing (q ∷ ps) h = q

module _ (ps : List Pairing) (of' : List ℕ) (d : Dirs) (at : ℕ) (n : IsNumbered ps of' at) (a : AreKnown ps d) where
  exact_of : (l : Loop) → HasExactLoop ps at l → IsExactGroup (picked (slice_index of' at) of' ps)
  exact_of l each = record { loop = l; each = all_from (λ p. HasOneLoop p l × IsTrue (span_of p l).fixed) ps of' at n each }

  pub group_left : (v : Verdict) → IfPair v (λ x y. IsExactGroup (picked (slice_index of' at) of' ps) × IsLeastOfAll (picked (slice_index of' at) of' ps) d x.at y.at)
      → OnAssumed v ((IsExactGroup (picked (slice_index of' at) of' ps) → ⊥) × AreNotRefuted (picked (slice_index of' at) of' ps) d)
      → ((w : Test) → v ≡ verdict.Never w → ⊥) → IsGroupLeft ps d at
  group_left (verdict.Never w) h g u = absurd (u w refl)
  group_left (verdict.Pair x y w) h g u =
      let within = n.within in
      let q = some_pairing ps (omega arith) in
      record {
        loop = λ l each. exact_solution ps of' d at n a l x.at y.at q each h.1.pair;
        ways = λ none. absurd (none h.0.loop (each_from (λ p. HasOneLoop p h.0.loop × IsTrue (span_of p h.0.loop).fixed) ps of' at n h.0.each));
      }
  group_left (verdict.Assumed w) h g u = record {
    loop = λ l each. absurd (g.0 (exact_of l each));
    ways = λ none. each_from (λ p. IsLeft p d) ps of' at n (λ k q b. let s = g.1 k q b in record { gcd = s.0; range = s.1 });
  }

-- ---- from the first member to the others

moved : (P : Pairing → Type 0) (ps : List Pairing) (m k : ℕ) → AreGrouped ps m k → EachGrouped ps m P → EachGrouped ps k P
moved P ps m k h each = λ j p g e. each j p (then ps m k j h g) e

group_moved : (ps : List Pairing) (d : Dirs) (m k : ℕ) → AreGrouped ps m k → IsGroupLeft ps d m → IsGroupLeft ps d k
group_moved ps d m k h g = record {
  loop = λ l each.
      let s = g.loop l (moved (λ p. HasOneLoop p l × IsTrue (span_of p l).fixed) ps k m (grouped_back ps m k h) each) in
      (s.0, (s.1.0, moved (λ p. IsSolution p d l s.0 s.1.0) ps m k h s.1.1));
  ways = λ none.
      moved (λ p. IsLeft p d) ps m k h
      (g.ways (λ l each. none l (moved (λ p. HasOneLoop p l × IsTrue (span_of p l).fixed) ps m k h each)));
}

pub left_of_first : (ps : List Pairing) (of' : List ℕ) (d : Dirs) → IsPartition ps of' → length ps ≤ 7
    → ((k : ℕ) → k < length ps → slice_index of' k ≡ k → (IsSeparable ps k → ⊥) → IsGroupLeft ps d k)
    → (k : ℕ) → k < length ps → (IsSeparable ps k → ⊥) → IsGroupLeft ps d k
left_of_first ps of' d h c f k b s =
    let here = h k (omega arith) in
    let l : slice_index of' k ≤ k = here.first k (alone ps k) in
    let same : slice_index of' k ≡ slice_index of' (slice_index of' k) = same_number ps of' k (slice_index of' k) h (omega arith) (omega arith) here.grouped in
    group_moved ps d (slice_index of' k) k (grouped_back ps k (slice_index of' k) here.grouped)
    (f (slice_index of' k) (omega arith) (sym same) (not_alone ps k (slice_index of' k) s here.grouped))
