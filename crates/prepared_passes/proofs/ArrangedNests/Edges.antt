-- The edges whose vectors are looked at are all but antidependences of a statement on itself.
use Rattle.std.proofs.Common.{◌≡◌, refl, sym, ap, ◌∙◌, subst, ◌⊎◌, inl, inr, ℕ, zero, suc, ◌==◌, Bool, true, false, not, cond, Some, List, [], ◌∷◌, ◌++◌, length, map, take, arith}
use Rattle.std.specs.Prelude.{All, filter}
use Rattle.std.specs.List.{range_with_len}
use Rattle.nest.specs.Plain.{Nest}
use Rattle.dependence_graph.specs.declared.graphs.Dep.{Dep}
use Rattle.dependence_graph.specs.declared.graphs.Dep.TheVariants.{Anti, Flow, Output}
use Rattle.dependence_graph.specs.declared.graphs.Edge.{Edge}
use Rattle.dependence_graph.specs.declared.graphs.Graph.{Graph}
use Rattle.dependence_graph.specs.declared.graphs.Place.{Place}
use Rattle.dependence_graph.specs.nest_graph.Arcs.{VectorVerdict, Assumed, Couple, Met, Never, Verdict, edge_of, edges_of, with_some}
use Rattle.dependence_graph.specs.nest_graph.Graph.{IsCouple, IsGraphOf, all_edges}
use Rattle.subscripts.specs.declared.affine.Dir.{Dir}
use Rattle.dependence_graph.specs.nest_graph.Pair.{kind_between}
use Rattle.nest_order.specs.orders.Graphs.{Arc, HasLevel}
use Rattle.nest_order.specs.orders.Lists.{In}
use Rattle.nest_order.proofs.orders.Membership.{In-map, map-In}
use Rattle.emission.specs.graph_orders.Arcs.{arc_of, arcs_of, sign_of}
use Rattle.interchange.specs.Arranged.{is_antidependence, is_own_antidependence}
use Rattle.interchange.specs.Orders.{directions, keeps_all, leads_forward}
use Rattle.interchange_laws.specs.orders.Laws.{IsChainArc, MayBeRearranged}
use Rattle.interchange_laws.specs.orders.Moves.{rearranged}
use Rattle.interchange_laws.specs.runs.Nests.{AreOtherThanOwnAnti, IsOwnAnti}
use Rattle.prepared_passes.proofs.ArrangedNests.Vectors.{all_from, all_in, and_both, directions_at_first, forward_has_level, level_is_forward, signs_in_order}

true_false : true ≡ false → ⊥
true_false e = cc

abbrev pub others : List Edge → List Edge
others es = filter (λ e. not (is_own_antidependence e)) es

kept_in : (test : Edge → Bool) (es : List Edge) (e : Edge) → In e (filter test es) → In e es × (test e ≡ true)
kept_in test [] e i = absurd i
kept_in test (x ∷ es) e i = by (test x) refl i (λ j. kept_in test es e j)
  where
    by : (b : Bool) → test x ≡ b → In e (cond b (x ∷ filter test es) (filter test es)) → (In e (filter test es) → In e es × (test e ≡ true)) → In e (x ∷ es) × (test e ≡ true)
    by true f (inl g) more = (inl g, ap test g ∙ f)
    by true f (inr j) more = let h = more j in (inr h.0, h.1)
    by false f j more = let h = more j in (inr h.0, h.1)

in_kept : (test : Edge → Bool) (es : List Edge) (e : Edge) → In e es → test e ≡ true → In e (filter test es)
in_kept test [] e i f = absurd i
in_kept test (x ∷ es) e (inl g) f = subst (λ b. In e (cond b (x ∷ filter test es) (filter test es))) (sym (ap test (sym g) ∙ f)) (inl g)
in_kept test (x ∷ es) e (inr i) f = by (test x) (in_kept test es e i f)
  where
    by : (b : Bool) → In e (filter test es) → In e (cond b (x ∷ filter test es) (filter test es))
    by true more = inr more
    by false more = more

-- ---- an antidependence begins with a read

reads_first : (r q : ℕ) → kind_between r q ≡ Some Anti → r ≡ 0 → ⊥
reads_first zero zero e z = cc
reads_first zero (suc q) e z = cc
reads_first (suc r) q e z = absurd (omega arith)

anti_is : (k : Dep) → is_antidependence k ≡ true → k ≡ Anti
anti_is Flow e = cc
anti_is Anti e = refl
anti_is Output e = cc

-- an edge has the ends and the kind of its two references
abbrev IsBetween : Couple → Edge → Type 0
IsBetween c e = (e.from ≡ c.from) × (e.to ≡ c.to) × (e.kind ≡ c.kind)

first : (c : Couple) (d : List Dir) (v : Verdict) (e : Edge) (es : List Edge) → In e (with_some (edge_of c d v) es) → IsBetween c e ⊎ In e es
first c d (Never w) e es h = inr h
first c d (Met x y w) e es (inl f) = inl (ap (λ (z : Edge). z.from) f, ap (λ (z : Edge). z.to) f, ap (λ (z : Edge). z.kind) f)
first c d (Met x y w) e es (inr i) = inr i
first c d (Assumed w) e es (inl f) = inl (ap (λ (z : Edge). z.from) f, ap (λ (z : Edge). z.to) f, ap (λ (z : Edge). z.kind) f)
first c d (Assumed w) e es (inr i) = inr i

between : (c : Couple) (as' : List VectorVerdict) (e : Edge) → In e (edges_of c as') → IsBetween c e
between c [] e h = absurd h
between c (a ∷ as') e h = by (first c a.0 a.1 e (edges_of c as') h) (λ i. between c as' e i)
  where
    by : IsBetween c e ⊎ In e (edges_of c as') → (In e (edges_of c as') → IsBetween c e) → IsBetween c e
    by (inl b) more = b
    by (inr i) more = more i

In_split : {X : Type 0} (x : X) (xs ys : List X) → In x (xs ++ ys) → In x xs ⊎ In x ys
In_split x [] ys i = inr i
In_split x (y ∷ xs) ys (inl e) = inl (inl e)
In_split x (y ∷ xs) ys (inr i) = by (In_split x xs ys i)
  where
    by : In x xs ⊎ In x ys → ((x ≡ y) ⊎ In x xs) ⊎ In x ys
    by (inl j) = inl (inr j)
    by (inr j) = inr j

among : (cs : List Couple) (e : Edge) → In e (all_edges cs) → (c : Couple) × In c cs × IsBetween c e
among [] e h = absurd h
among (c ∷ cs) e h = by (In_split e (edges_of c c.answers) (all_edges cs) h) (λ i. among cs e i)
  where
    by : In e (edges_of c c.answers) ⊎ In e (all_edges cs) → (In e (all_edges cs) → (d : Couple) × In d cs × IsBetween d e) → (d : Couple) × In d (c ∷ cs) × IsBetween d e
    by (inl i) more = (c, inl refl, between c c.answers e i)
    by (inr i) more = let k = more i in (k.0, inr k.1, k.2)

each_in : {X : Type 0} (P : X → Type 0) (xs : List X) → All P xs → (x : X) → In x xs → P x
each_in P [] h x i = absurd i
each_in P (y ∷ xs) h x (inl e) = subst P (sym e) (h 0 y (omega arith))
each_in P (y ∷ xs) h x (inr i) = each_in P xs (λ k d g. h (suc k) d (omega arith)) x i

module _ (n : Nest) (g : Graph) (graph : IsGraphOf n g) where
  own_anti : (e : Edge) → In e g.edges → is_own_antidependence e ≡ true → IsOwnAnti (arc_of e)
  own_anti e i own =
      let h = and_both (is_antidependence e.kind) (e.from.stmt == e.to.stmt) own in
      let c = among graph.couples e (subst (In e) graph.edges i) in
      let kind : kind_between c.0.from.at c.0.to.at ≡ Some Anti = (each_in (IsCouple n) graph.couples graph.each c.0 c.1).kind ∙ ap Some (sym c.2.2 ∙ anti_is e.kind h.0) in
      record {
        same = same_is e.from.stmt e.to.stmt h.1;
        read = λ z. reads_first c.0.from.at c.0.to.at kind (ap (λ (p : Place). p.at) (sym c.2.0) ∙ z);
      }
    where
      same_is : (a b : ℕ) → (a == b) ≡ true → a ≡ b
      same_is a b e = grind (arith, e)

  pub others_are_kept : AreOtherThanOwnAnti (arcs_of g.edges) (arcs_of (others g.edges))
  others_are_kept = record {
    among = λ a i. (let o = In-map arc_of a (others g.edges) i in
        subst (λ z. In z (arcs_of g.edges)) (sym o.is) (map-In arc_of o.it g.edges (kept_in (λ e. not (is_own_antidependence e)) g.edges o.it o.inside).0));
    others = λ a i other. (let o = In-map arc_of a g.edges i in
        subst (λ z. In z (arcs_of (others g.edges))) (sym o.is) (map-In arc_of o.it (others g.edges) (in_kept (λ e. not (is_own_antidependence e)) g.edges o.it o.inside (not_own o.it (is_own_antidependence o.it) refl o.inside (subst (λ z. IsOwnAnti z → ⊥) o.is other)))));
  }
    where
      not_own : (e : Edge) (b : Bool) → is_own_antidependence e ≡ b → In e g.edges → (IsOwnAnti (arc_of e) → ⊥) → not (is_own_antidependence e) ≡ true
      not_own e true f i other = absurd (other (own_anti e i f))
      not_own e false f i other = ap not f

-- ---- vectors that lead forward in an order

module _ (es : List Edge) (n : ℕ) (chain : (a : Arc) → In a (arcs_of es) → IsChainArc n a) where
  long : (e : Edge) → In e es → length (take e.dirs.len e.dirs.at) ≡ n
  long e i = sym (map_length sign_of (take e.dirs.len e.dirs.at)) ∙ (chain (arc_of e) (map-In arc_of e es i)).long
    where
      map_length : {X Y : Type 0} (f : X → Y) (xs : List X) → length (map f xs) ≡ length xs
      map_length f [] = refl
      map_length f (x ∷ xs) = ap suc (map_length f xs)

  -- where arcs have a level, their vectors lead forward at first
  pub forward_at_first : ((a : Arc) → In a (arcs_of es) → HasLevel a.signs) → keeps_all (map (λ (e : Edge). e.dirs) es) (range_with_len 0 n) ≡ true
  forward_at_first level =
      all_from (λ d. leads_forward (directions d (range_with_len 0 n))) (map (λ (e : Edge). e.dirs) es) (λ d i.
      (let o = In-map (λ (e : Edge). e.dirs) d es i in
      subst (λ z. leads_forward (directions z (range_with_len 0 n)) ≡ true) (sym o.is)
      (ap leads_forward (directions_at_first o.it.dirs n (long o.it o.inside)) ∙ level_is_forward (take o.it.dirs.len o.it.dirs.at) (level (arc_of o.it) (map-In arc_of o.it es o.inside)))))

  pub may_be_rearranged : (ps order : List ℕ) → order ≡ rearranged ps (range_with_len 0 n) → keeps_all (map (λ (e : Edge). e.dirs) es) order ≡ true → MayBeRearranged ps (arcs_of es)
  may_be_rearranged ps order is keeps a i =
      let o = In-map arc_of a es i in
      let forward : leads_forward (directions o.it.dirs order) ≡ true =
      all_in (λ d. leads_forward (directions d order)) (map (λ (e : Edge). e.dirs) es) keeps o.it.dirs (map-In (λ (e : Edge). e.dirs) o.it es o.inside) in
      subst (λ (z : Arc). HasLevel (rearranged ps z.signs)) (sym o.is)
      (subst HasLevel (signs_in_order o.it.dirs n ps order (long o.it o.inside) is) (forward_has_level (directions o.it.dirs order) forward))
