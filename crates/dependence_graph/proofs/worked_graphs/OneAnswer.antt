-- The answer of a couple in a nest of one loop and one statement: there is one, to (<), and it is right.
use Rattle.std.proofs.Common.{◌≡◌, ◌⊎◌, inl, inr, ℕ, ◌<◌, sym, ap, ap₂, ◌∙◌, subst, arith, Some, List, [], ◌∷◌, ◌++◌}
use Rattle.std.specs.Prelude.{pos, int_div, slice_get}
use Rattle.std.proofs.lemmas.List.Elements.{All-head}
use Rattle.tree.specs.Plain.{Expression, Reference}
use Rattle.subscripts.specs.declared.affine.Dir.TheVariants.{Lt, Eq}
use Rattle.dependence_graph.specs.declared.graphs.Dep.{Dep}
use Rattle.dependence_graph.specs.declared.graphs.Place.{Place}
use Rattle.nest.specs.Bodies.{Standing}
use Rattle.dependence_graph.specs.nest_graph.Arcs.{VectorVerdict, Couple, Verdict}
use Rattle.dependence_graph.specs.nest_graph.Graph.{IsCouple, IsRightVerdict}
use Rattle.dependence_graph.specs.nest_graph.Merged.{IsListed, under_direction}
use Rattle.dependence_graph.specs.nest_graph.Pair.{kind_between}
use Rattle.dependence_graph.specs.nest_graph.References.{references_of}
use Rattle.dependence_graph.specs.nest_graph.Tested.{AreReferences, Both, both, common_of}
use Rattle.dependence_graph.specs.worked_graphs.Listed.{at, less}
use Rattle.dependence_graph.proofs.worked_graphs.Keys.{key}
use Rattle.dependence_graph.proofs.worked_graphs.OneLoop.{both_are, nest, references_are, standing, standing_is, two}

-- ---- one answer, to (<)

not_before : 0 < 0 → ⊥
not_before h = omega arith

one_answer : (answers : List VectorVerdict) → IsListed 0 0 1 answers → (v : Verdict) × (answers ≡ (less, v) ∷ [])
one_answer answers h = by h.0 h.1 h.2 h.3 h.4
  where
    by : (xs ys : List VectorVerdict) → answers ≡ under_direction Lt xs ++ under_direction Eq ys → (v : Verdict) × (xs ≡ ([], v) ∷ [])
        → ((0 < 0) × ((v : Verdict) × (ys ≡ ([], v) ∷ []))) ⊎ ((0 < 0 → ⊥) × (ys ≡ [])) → (v : Verdict) × (answers ≡ (less, v) ∷ [])
    by xs ys e f (inl g) = absurd (not_before g.0)
    by xs ys e f (inr g) = (f.0, e ∙ ap₂ (λ (as' bs : List VectorVerdict). under_direction Lt as' ++ under_direction Eq bs) f.1 g.1)

-- ---- the couple

module _ (last : ℕ) (whole : int_div (pos last) (pos 1) ≡ pos last) (left : Reference) (right : Expression) (p q : ℕ) (r u : Reference)
    (first : slice_get (references_of (standing last whole left right)) p ≡ Some r) (second : slice_get (references_of (standing last whole left right)) q ≡ Some u)
    (kind : Dep) (kind_is : kind_between p q ≡ Some kind) where
  abbrev pub couple : List VectorVerdict → Couple
  couple answers = record { from = at p; to = at q; kind = kind; array = r.name; answers = answers }

  abbrev pub refs : Both
  refs = two last whole left right p q r u first second

  -- what holds of the couple of references in these places
  abbrev IsCoupleAt : Place → Place → List ℕ → List VectorVerdict → Type 0
  IsCoupleAt x y array answers = (h : AreReferences (nest last whole left right) x y) × (array ≡ h.first_reference.name)
      × IsListed x.stmt y.stmt (common_of h.first.loops h.second.loops) answers

  same_kind : (x y : Place) (k : Dep) → x ≡ at p → y ≡ at q → kind_between x.at y.at ≡ Some k → k ≡ kind
  same_kind x y k e f h =
      let g : kind_between p q ≡ Some k = ap₂ (λ (z w : Place). kind_between z.at w.at) (sym e) (sym f) ∙ h in
      let s : Some k ≡ Some kind = sym g ∙ kind_is in
      cc

  couple_is : (x : Couple) → IsCouple (nest last whole left right) x → key x ≡ (at p, at q) → (v : Verdict) × (x ≡ couple ((less, v) ∷ []))
  couple_is x h e =
      let from : x.from ≡ at p = ap (λ (z : Place × Place). z.0) e in
      let to : x.to ≡ at q = ap (λ (z : Place × Place). z.1) e in
      let as' : IsCoupleAt (at p) (at q) x.array x.answers =
      subst (λ (z : Place). IsCoupleAt z (at q) x.array x.answers) from
      (subst (λ (z : Place). IsCoupleAt x.from z x.array x.answers) to (h.refs, h.array, h.merged)) in
      let array : x.array ≡ r.name = as'.1 ∙ ap (λ (z : Reference). z.name) (references_are last whole left right p q r u first second as'.0).0 in
      let s = standing_is last whole left right 0 as'.0.first as'.0.first_is.statement in
      let t = standing_is last whole left right 0 as'.0.second as'.0.second_is.statement in
      let one = one_answer x.answers (subst (λ (n : ℕ). IsListed 0 0 n x.answers) (ap₂ (λ (y z : Standing). common_of y.loops z.loops) s t) as'.2) in (
        one.0,
        ap₂ (λ (z w : Place). record { from = z; to = w; kind = x.kind; array = x.array; answers = x.answers }) from to
            ∙ ap₂ (λ (k : Dep) (ns : List ℕ). record { from = at p; to = at q; kind = k; array = ns; answers = x.answers }) (same_kind x.from x.to x.kind from to h.kind) array
            ∙ ap couple one.1,
      )

  abbrev pub IsRightHere : Verdict → Type 0
  IsRightHere v = IsRightVerdict (nest last whole left right) (couple ((less, v) ∷ [])) refs less v

  -- its only answer, which is right
  pub right_answer : (x : Couple) → IsCouple (nest last whole left right) x → key x ≡ (at p, at q) → (v : Verdict) × (x ≡ couple ((less, v) ∷ [])) × IsRightHere v
  right_answer x h e =
      let is = couple_is x h e in
      let c = couple ((less, is.0) ∷ []) in
      let all = subst (IsCouple (nest last whole left right)) is.1 h in
      let P : Both → Type 0 = λ z. IsRightVerdict (nest last whole left right) c z less is.0 in (
        is.0,
        is.1,
        subst P (both_are last whole left right p q r u first second all.refs)
            (All-head (λ (y : VectorVerdict). IsRightVerdict (nest last whole left right) c (both (nest last whole left right) (at p) (at q) all.refs) y.0 y.1) (less, is.0) [] all.right),
      )
