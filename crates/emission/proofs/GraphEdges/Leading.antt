-- The edges of a graph lead in its nest.
use Rattle.std.proofs.Common.{◌≡◌, ◌⊎◌, ℕ, zero, suc, ◌-◌, ◌<◌, ◌≤◌, ◌==◌, Bool, true, false, cond, List, [], ◌∷◌, ◌++◌, length, get_or, Some, refl, sym, ap, subst, ◌∙◌, inl, inr, arith}
use mathlib.Core.Path.{ap₂}
use Rattle.std.specs.Prelude.{All, slice_get}
use Rattle.subscripts.specs.declared.affine.Dir.{Dir}
use Rattle.components.specs.Lists.{IsMember}
use Rattle.dependence_graph.specs.declared.graphs.Edge.{Edge}
use Rattle.dependence_graph.specs.declared.graphs.Place.{Place}
use Rattle.dependence_graph.specs.nest_graph.Arcs.{VectorVerdict, Assumed, Couple, Met, Never, Verdict, edge_of, edges_of, in_places}
use Rattle.dependence_graph.specs.nest_graph.Arcs.{vector_level, with_some}
use Rattle.dependence_graph.specs.nest_graph.Graph.{IsCouple, all_edges, candidate_of}
use Rattle.dependence_graph.specs.nest_graph.Pair.{IsCandidate}
use Rattle.dependence_graph.specs.nest_graph.Tested as tested
use Rattle.dependence_graph.specs.nest_graph.Vectors.{StandsFor}
use Rattle.nest.specs.Bodies.{Standing, nest_statements}
use Rattle.nest.specs.Plain.{Loop, Nest}
use Rattle.array_form.specs.holds.Statements.{no_statement}
use Rattle.emission.specs.emission_pieces.Nests.{loops_at}
use Rattle.emission.specs.emission_pieces.Edges.{IsEdgeOf, common_of}
use Rattle.emission.proofs.EmissionPieces.Ordered.{emission_keeps_order}
use Rattle.emission.specs.graph_edges.Laws.{EdgesLeadInNest, GraphEmissionKeepsOrder, IsShallow}
use Rattle.dependence_graph.proofs.nest_graph.Filled.{filled, filled_length, filled_stands}
use Rattle.emission.proofs.GraphEdges.Vectors.{level_within}

-- ---- lists

all_in : {X : Type 0} (P : X → Type 0) (xs : List X) (x : X) → IsMember x xs → All P xs → P x
all_in P [] x i h = absurd i
all_in P (y ∷ xs) x (inl e) h = subst P (sym e) (h 0 y (omega arith))
all_in P (y ∷ xs) x (inr i) h = all_in P xs x i (λ k d g. h (suc k) d (omega arith))

element : {X : Type 0} (xs : List X) (k : ℕ) (d : X) → k < length xs → IsMember (get_or xs k d) xs
element [] k d g = absurd (omega arith)
element (x ∷ xs) zero d g = inl refl
element (x ∷ xs) (suc k) d g = inr (element xs k d (omega arith))

in_either : {X : Type 0} (x : X) (xs ys : List X) → IsMember x (xs ++ ys) → IsMember x xs ⊎ IsMember x ys
in_either {X} x [] ys h = inr h
in_either {X} x (z ∷ xs) ys h = elim h [ inl e ↦ inl (inl e) | inr r ↦ elim (in_either {X = X} x xs ys r) [ inl a ↦ inl (inr a) | inr b ↦ inr b ] ]

within : {X : Type 0} (xs : List X) (k : ℕ) (x : X) → slice_get xs k ≡ Some x → k < length xs
within [] k x h = cc
within (y ∷ xs) zero x h = omega arith
within (y ∷ xs) (suc k) x h = let e = within xs k x h in omega arith

got : {X : Type 0} (xs : List X) (k : ℕ) (x d : X) → slice_get xs k ≡ Some x → get_or xs k d ≡ x
got [] k x d h = cc
got (y ∷ xs) zero x d h = let e : y ≡ x = cc in e
got (y ∷ xs) (suc k) x d h = got xs k x d h

-- ---- where an edge comes from

abbrev Made : Couple → List Dir → Edge → Type 0
Made c d e = (e.from ≡ c.from) × (e.to ≡ c.to) × (e.level ≡ vector_level (in_places d))

first : (c : Couple) (d : List Dir) (v : Verdict) (e : Edge) (es : List Edge) → IsMember e (with_some (edge_of c d v) es) → Made c d e ⊎ IsMember e es
first c d (Never w) e es h = inr h
first c d (Met x y w) e es h = elim h [ inl f ↦ inl (ap (λ (z : Edge). z.from) f, ap (λ (z : Edge). z.to) f, ap (λ (z : Edge). z.level) f) | inr r ↦ inr r ]
first c d (Assumed w) e es h = elim h [ inl f ↦ inl (ap (λ (z : Edge). z.from) f, ap (λ (z : Edge). z.to) f, ap (λ (z : Edge). z.level) f) | inr r ↦ inr r ]

made : (c : Couple) (as' : List VectorVerdict) (e : Edge) → IsMember e (edges_of c as') → (a : VectorVerdict) × IsMember a as' × Made c a.0 e
made c [] e h = absurd h
made c (a ∷ as') e h =
    elim (first c a.0 a.1 e (edges_of c as') h) [
      | inl m ↦ (a, inl refl, m)
      | inr r ↦ (let k = made c as' e r in (k.0, inr k.1, k.2))
    ]

among : (cs : List Couple) (e : Edge) → IsMember e (all_edges cs) → (c : Couple) × IsMember c cs × IsMember e (edges_of c c.answers)
among [] e h = absurd h
among (c ∷ cs) e h =
    elim (in_either e (edges_of c c.answers) (all_edges cs) h) [
      | inl a ↦ (c, inl refl, a)
      | inr b ↦ (let k = among cs e b in (k.0, inr k.1, k.2))
    ]

-- ---- loops round both

same_common : (ls ms : List Loop) → tested.common_of ls ms ≡ common_of ls ms
same_common [] ms = refl
same_common (l ∷ ls) [] = refl
same_common (l ∷ ls) (m ∷ ms) = ap (λ c. cond (l.number == m.number) (suc c) 0) (same_common ls ms)

common_short : (ls ms : List Loop) → common_of ls ms ≤ length ls
common_short [] ms = omega arith
common_short (l ∷ ls) [] = omega arith
common_short (l ∷ ls) (m ∷ ms) = step (l.number == m.number) (common_of ls ms) (length ls) (common_short ls ms)
  where
    step : (b : Bool) (c k : ℕ) → c ≤ k → cond b (suc c) 0 ≤ suc k
    step true c k h = omega arith
    step false c k h = omega arith

-- ---- edges

module _ (n : Nest) (c : Couple) (shallow : IsShallow n) (h : IsCouple n c) where
  from_loops : loops_at n c.from.stmt ≡ h.refs.first.loops
  from_loops = ap (λ (s : Standing). s.loops) (got (nest_statements n) c.from.stmt h.refs.first no_statement h.refs.first_is.statement)

  to_loops : loops_at n c.to.stmt ≡ h.refs.second.loops
  to_loops = ap (λ (s : Standing). s.loops) (got (nest_statements n) c.to.stmt h.refs.second no_statement h.refs.second_is.statement)

  common_is : tested.common_of h.refs.first.loops h.refs.second.loops ≡ common_of (loops_at n c.from.stmt) (loops_at n c.to.stmt)
  common_is = same_common h.refs.first.loops h.refs.second.loops ∙ ap₂ common_of (sym from_loops) (sym to_loops)

  abbrev CoversCandidates : VectorVerdict → Type 0
  CoversCandidates a = (v : List Dir) → StandsFor a.0 v → IsCandidate n (candidate_of c v)

  same_first : (x y : Standing) (k : ℕ) → slice_get (nest_statements n) k ≡ Some x → slice_get (nest_statements n) k ≡ Some y → x ≡ y
  same_first x y k e f = let g : Some x ≡ Some y = sym e ∙ f in cc

  right : (a : VectorVerdict) → CoversCandidates a
      → (vector_level (in_places a.0) ≤ common_of (loops_at n c.from.stmt) (loops_at n c.to.stmt)) × (vector_level (in_places a.0) ≡ 0 → c.from.stmt < c.to.stmt)
  right a candidates =
      let is = candidates (filled a.0) (filled_stands a.0) in
      let first = same_first is.refs.first h.refs.first c.from.stmt is.refs.first_is.statement h.refs.first_is.statement in
      let second = same_first is.refs.second h.refs.second c.to.stmt is.refs.second_is.statement h.refs.second_is.statement in
      let common : length (filled a.0) ≡ common_of (loops_at n c.from.stmt) (loops_at n c.to.stmt) =
      is.loops ∙ ap₂ (λ (x y : Standing). tested.common_of x.loops y.loops) first second ∙ common_is in
      let long = filled_length a.0 in
      let level = level_within c.from.stmt c.to.stmt 0 (7 - length a.0) a.0 is.forward in
      let low = level.0 in
      (omega arith, level.1)

  leads : (e : Edge) → IsMember e (edges_of c c.answers) → IsEdgeOf n e
  leads e i =
      let k = made c c.answers e i in
      let d = k.0.0 in
      let is = right k.0 (all_in CoversCandidates c.answers k.0 k.1 h.candidates) in
      let from : e.from.stmt ≡ c.from.stmt = ap (λ (p : Place). p.stmt) k.2.0 in
      let to : e.to.stmt ≡ c.to.stmt = ap (λ (p : Place). p.stmt) k.2.1 in
      let level : e.level ≡ vector_level (in_places d) = k.2.2 in
      let first_within = within (nest_statements n) c.from.stmt h.refs.first h.refs.first_is.statement in
      let second_within = within (nest_statements n) c.to.stmt h.refs.second h.refs.second_is.statement in
      let same : common_of (loops_at n e.from.stmt) (loops_at n e.to.stmt) ≡ common_of (loops_at n c.from.stmt) (loops_at n c.to.stmt)
      = ap₂ (λ a b. common_of (loops_at n a) (loops_at n b)) from to in
      let low = is.0 in
      record {
        from = subst (λ s. s < length (nest_statements n)) (sym from) first_within;
        to = subst (λ s. s < length (nest_statements n)) (sym to) second_within;
        carried = omega arith;
        forward = λ z. (let less = is.1 (sym level ∙ z) in omega arith);
      }

pub edges_lead : EdgesLeadInNest
edges_lead n g shallow h k d i =
    let e = get_or g.edges k d in
    let r = among h.couples e (subst (λ (es : List Edge). IsMember e es) h.edges (element g.edges k d i)) in
    leads n r.0 shallow (all_in (IsCouple n) h.couples r.0 r.1 h.each) e r.2

pub graph_emission : GraphEmissionKeepsOrder
graph_emission n g holds ps trip plain once shallow h emitted =
    emission_keeps_order n g.edges holds ps trip plain once (edges_lead n g shallow h) emitted
