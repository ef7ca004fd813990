-- Drops with one word merge.
use Rattle.std.proofs.Common.{◌≡◌, ◌⊎◌, inl, inr, ◌<◌, sym, ap, ap₂, ◌∙◌, subst, arith, List, [], ◌∷◌, ◌++◌}
use Rattle.components.specs.Lists.{Each}
use Rattle.subscripts.specs.declared.affine.Dir.{Dir}
use Rattle.subscripts.specs.declared.affine.Dir.TheVariants.{Lt, Eq, Gt, Any}
use Rattle.subscripts.specs.declared.verdict.Test.{Test}
use Rattle.dependence_graph.specs.nest_graph.Arcs.{VectorVerdict, Never, Verdict}
use Rattle.dependence_graph.specs.nest_graph.Merged.{IsListed, IsMerged, verdict_kinds, under_direction}
use Rattle.dependence_graph.specs.worked_graphs.Merges.{DropsMerge}

module _ (w : Test) where
  abbrev AreDrops : List VectorVerdict → Type 0
  AreDrops answers = Each (λ a. a.1 ≡ Never w) answers

  front : (xs ys : List VectorVerdict) → AreDrops (xs ++ ys) → AreDrops xs
  front [] ys h = tt
  front (x ∷ xs) ys h = (h.0, front xs ys h.1)

  back : (xs ys : List VectorVerdict) → AreDrops (xs ++ ys) → AreDrops ys
  back [] ys h = h
  back (x ∷ xs) ys h = back xs ys h.1

  inner : (e : Dir) (xs : List VectorVerdict) → AreDrops (under_direction e xs) → AreDrops xs
  inner e [] h = tt
  inner e (x ∷ xs) h = (h.0, inner e xs h.1)

  abbrev one : List VectorVerdict
  one = ([], Never w) ∷ []

  -- of no loop
  only : (xs : List VectorVerdict) → IsMerged 0 xs → AreDrops xs → xs ≡ one
  only xs m h =
      let g : AreDrops (([], m.0) ∷ []) = subst AreDrops m.1 h in
      m.1 ∙ ap (λ (v : Verdict). ([], v) ∷ []) g.0

  -- of one
  starred : (xs : List VectorVerdict) → IsMerged 1 xs → AreDrops xs → xs ≡ under_direction Any one
  starred xs m h =
      elim m [
        | inl s ↦ s.1 ∙ ap (under_direction Any) (only s.0 s.2 (inner Any s.0 (subst AreDrops s.1 h)))
        | inr s ↦
            let all = subst AreDrops s.is h in
            let rest = back (under_direction Lt s.less) (under_direction Eq s.equal ++ under_direction Gt s.greater) all in
            let a = only s.less s.merged.0 (inner Lt s.less (front (under_direction Lt s.less) (under_direction Eq s.equal ++ under_direction Gt s.greater) all)) in
            let b = only s.equal s.merged.1 (inner Eq s.equal (front (under_direction Eq s.equal) (under_direction Gt s.greater) rest)) in
            let c = only s.greater s.merged.2 (inner Gt s.greater (back (under_direction Eq s.equal) (under_direction Gt s.greater) rest)) in
            absurd (s.differ (ap verdict_kinds (a ∙ sym b)) (ap verdict_kinds (a ∙ sym c)))
      ]

  not_before : 0 < 0 → ⊥
  not_before h = omega arith

  equal_only : (xs : List VectorVerdict) → IsListed 0 0 1 xs → AreDrops xs → xs ≡ under_direction Lt one
  equal_only xs l h = by l.0 l.1 l.2 l.3 l.4
    where
      by : (less equal : List VectorVerdict) → xs ≡ under_direction Lt less ++ under_direction Eq equal → IsMerged 0 less
          → ((0 < 0) × IsMerged 0 equal) ⊎ ((0 < 0 → ⊥) × (equal ≡ [])) → xs ≡ under_direction Lt one
      by less equal e m (inl f) = absurd (not_before f.0)
      by less equal e m (inr f) =
          e ∙ ap₂ (λ (ys zs : List VectorVerdict). under_direction Lt ys ++ under_direction Eq zs)
          (only less m (inner Lt less (front (under_direction Lt less) (under_direction Eq equal) (subst AreDrops e h)))) f.1

  both : (xs : List VectorVerdict) → IsListed 0 0 2 xs → AreDrops xs → xs ≡ under_direction Lt (under_direction Any one) ++ under_direction Eq (under_direction Lt one)
  both xs l h =
      let all = subst AreDrops l.2 h in
      l.2 ∙ ap₂ (λ (ys zs : List VectorVerdict). under_direction Lt ys ++ under_direction Eq zs)
      (starred l.0 l.3 (inner Lt l.0 (front (under_direction Lt l.0) (under_direction Eq l.1) all)))
      (equal_only l.1 l.4 (inner Eq l.1 (back (under_direction Lt l.0) (under_direction Eq l.1) all)))

pub drops_merge : DropsMerge
drops_merge w answers l h = both w answers l h
