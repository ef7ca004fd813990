-- The arcs of a graph have what an order of the nest's instances needs.
use Rattle.std.proofs.Common.{◌≡◌, ◌⊎◌, refl, sym, ap, ◌∙◌, subst, inl, inr, ℕ, zero, suc, ◌<◌, ℤ, pos, List, []}
use Rattle.std.proofs.Common.{◌-◌, ◌∷◌, take, length, length-take-le, map, replicate, Some, arith}
use Rattle.subscripts.specs.declared.affine.Dir.TheVariants.{Any}
use Rattle.subscripts.specs.declared.affine.Dirs.{Dirs}
use Rattle.std.proofs.lemmas.List.{length-map}
use Rattle.std.proofs.lemmas.Option.{slice_get_within}
use Rattle.tree.specs.Plain.{Reference}
use Rattle.meaning.specs.Store.{Cell}
use Rattle.components.specs.Lists as components
use Rattle.dependence_graph.specs.declared.graphs.Dep.{Dep}
use Rattle.dependence_graph.specs.declared.graphs.Dep.TheVariants.{Flow, Anti, Output}
use Rattle.dependence_graph.specs.declared.graphs.Edge.{Edge}
use Rattle.dependence_graph.specs.declared.graphs.Graph.{Graph}
use Rattle.dependence_graph.specs.declared.graphs.Place.{Place}
use Rattle.dependence_graph.specs.nest_graph.Complete.{HasEdgeFor}
use Rattle.dependence_graph.specs.nest_graph.Graph.{IsGraphOf}
use Rattle.dependence_graph.specs.nest_graph.Instances.{IsInstance}
use Rattle.dependence_graph.specs.nest_graph.Pair as graph
use Rattle.dependence_graph.specs.nest_graph.Pair.{kind_between}
use Rattle.dependence_graph.specs.nest_graph.Ready.{IsReady}
use Rattle.dependence_graph.specs.nest_graph.References as graph_references
use Rattle.dependence_graph.specs.nest_graph.Tested.{AreReferences, IsReferenceAt, common_of}
use Rattle.dependence_graph.specs.nest_graph.Touched as touched
use Rattle.dependence_graph.proofs.nest_graph.Completing.{complete}
use Rattle.nest_order.specs.orders.Graphs.{Arc, Candidate, Covers, HasLevel, StandsFor}
use Rattle.nest_order.specs.orders.Graphs as orders
use Rattle.nest_order.specs.orders.Lists.{In}
use Rattle.nest_order.specs.orders.Nests.{common}
use Rattle.nest_order.specs.orders.Shapes.{Instance, Within, statements}
use Rattle.nest_order.specs.runs.Stores.{IsNestText}
use Rattle.nest_order.specs.runs.Touched.{Touches, nth_of, references_of}
use Rattle.nest_order.specs.shapes.Shapes.{IsPlain, shape_of}
use Rattle.nest_order.specs.facts.Facts.{number_by}
use Rattle.linear_forms.specs.Linear.{form_of}
use Rattle.nest.specs.Bodies.{Standing}
use Rattle.nest.specs.Plain.{Nest}
use Rattle.emission.specs.graph_orders.Arcs.{arc_of, arcs_of, place_of}
use Rattle.emission.specs.graph_orders.Laws.{GraphHasEdges}
use Rattle.emission.specs.graph_orders.Nests.{run_nest, turns_in}
use Rattle.emission.proofs.GraphOrders.Edges.{IsForward, Source, common_in, few, forward, source, vector}
use Rattle.emission.proofs.GraphOrders.Instances.{touches_are, turns_are}
use Rattle.emission.proofs.GraphOrders.Lists.{nth_same}
use Rattle.emission.proofs.GraphOrders.Signs.{begins_equal, begins_led, covers_for, covers_own, dir_of, direction_of}
use Rattle.emission.proofs.GraphOrders.Signs.{directions, has_equal, has_led, signs}
use Rattle.emission.proofs.GraphOrders.Tables.{common_there, loop_known, loops_there, number_there, references_there}
use Rattle.emission.proofs.GraphOrders.Tables.{standing_there, variables_there}
use Rattle.emission.proofs.GraphOrders.Vectors.{are_plain, are_related, comes_first}

-- ---- lists of arcs

arc_in : (es : List Edge) (e : Edge) → components.IsMember e es → In (arc_of e) (arcs_of es)
arc_in [] e i = absurd i
arc_in (f ∷ es) e (inl h) = inl (ap arc_of h)
arc_in (f ∷ es) e (inr i) = inr (arc_in es e i)

of_edge : (es : List Edge) (a : Arc) → In a (arcs_of es) → (e : Edge) × components.IsMember e es × (a ≡ arc_of e)
of_edge [] a i = absurd i
of_edge (f ∷ es) a (inl h) = (f, inl refl, h)
of_edge (f ∷ es) a (inr i) = let r = of_edge es a i in (r.0, inr r.1, r.2)

-- ---- kinds

kind_for : (p q : ℕ) → (p ≡ 0) ⊎ (q ≡ 0) → (k : Dep) × (kind_between p q ≡ Some k)
kind_for zero zero h = (Output, refl)
kind_for zero (suc q) h = (Flow, refl)
kind_for (suc p) zero h = (Anti, refl)
kind_for (suc p) (suc q) (inl e) = absurd (omega arith)
kind_for (suc p) (suc q) (inr e) = absurd (omega arith)

one_written : (p q : ℕ) (k : Dep) → kind_between p q ≡ Some k → (p ≡ 0) ⊎ (q ≡ 0)
one_written zero q k e = inl refl
one_written (suc p) zero k e = inr refl
one_written (suc p) (suc q) k e = cc

-- ---- an instance that may name a cell by one of its references

abbrev place_in : orders.Place → Place
place_in p = record { stmt = p.statement; at = p.reference }

pub record End (n : Nest) (values : ℕ → ℤ) (k q : ℕ) (is : List ℕ) (c : Cell) : Type 0 where
  pub standing : Standing
  pub reference : Reference
  pub is_reference : IsReferenceAt n (record { stmt = k; at = q }) standing reference
  pub instance : IsInstance n values k (map pos is)
  pub touches : touched.Touches (graph_references.variables_round standing) n.symbols values (map pos is) reference c

module _ (n : Nest) (plain : IsPlain n.body) (text : IsNestText (run_nest n)) (ready : IsReady n) where
  end_of : (values : ℕ → ℤ) (q : ℕ) (x : Instance) (c : Cell) → In x.statement (statements (shape_of 0 n.body))
      → Within (turns_in n values) [] ((run_nest n).loops_of x.statement) x.iterations → Touches (run_nest n) values q x c
      → End n values x.statement q x.iterations c
  end_of values q x c i w t =
      let s = standing_there n plain x.statement i in
      record {
        standing = s.0;
        reference = t.0;
        is_reference = record {
          statement = s.1;
          reference = sym (nth_same (graph_references.references_of s.0) q)
              ∙ (ap (λ rs. nth_of rs q) (sym (references_there n plain text ready x.statement s.0 s.1)) ∙ t.1);
        };
        instance = record {
          standing = s.0;
          is_at = s.1;
          turns = turns_are n values [] x.iterations s.0.loops (loop_known n plain ready x.statement s.0 s.1)
              (subst (λ ls. Within (turns_in n values) [] ls x.iterations) (loops_there n x.statement s.0 s.1) w);
        };
        touches = touches_are (run_nest n) x.statement (graph_references.variables_round s.0) n.symbols values x.iterations
            (λ e. ap (λ vs. number_by n.symbols (form_of vs n.symbols e))
            (variables_there n plain ready x.statement s.0 s.1))
            t.0 c t.2;
      }

  abbrev IsCandidate : Candidate → Type 0
  IsCandidate c =
      orders.IsCandidate (run_nest n).loops_of (common (run_nest n).loops_of) (run_nest n).turns_of
      (λ s. length (references_of (run_nest n) s)) (Touches (run_nest n)) (shape_of 0 n.body) c

  abbrev HasPair : Candidate → Type 0
  HasPair c =
      orders.Pair (run_nest n).loops_of (common (run_nest n).loops_of) (run_nest n).turns_of
      (λ s. length (references_of (run_nest n) s)) (Touches (run_nest n)) (shape_of 0 n.body) c

  -- ---- a candidate with a pair

  abbrev as_candidate : Candidate → Dep → graph.Candidate
  as_candidate c k = record { from = place_in c.from; to = place_in c.to; kind = k; vector = map dir_of c.vector }

  module _ (c : Candidate) (values : ℕ → ℤ) (cell : Cell) (is js : List ℕ)
      (a : End n values c.from.statement c.from.reference is cell) (b : End n values c.to.statement c.to.reference js cell)
      (long : length c.vector ≡ common (run_nest n).loops_of c.from.statement c.to.statement)
      (begins : orders.MayBegin c.vector c.from.statement c.to.statement) (related : orders.Related c.vector is js)
      (k : Dep) (kind : kind_between c.from.reference c.to.reference ≡ Some k) where
    loops : length c.vector ≡ common_of a.standing.loops b.standing.loops
    loops =
        long
        ∙ common_there n c.from.statement c.to.statement a.standing b.standing a.is_reference.statement
        b.is_reference.statement

    refs : AreReferences n (place_in c.from) (place_in c.to)
    refs = record {
      first = a.standing;
      second = b.standing;
      first_reference = a.reference;
      second_reference = b.reference;
      first_is = a.is_reference;
      second_is = b.is_reference;
      same_name = sym a.touches.name ∙ b.touches.name;
    }

    candidate_is : graph.IsCandidate n (as_candidate c k)
    unfolding refs
    candidate_is = record {
      refs = refs;
      kind = kind;
      loops = length-map c.vector dir_of ∙ loops;
      plain = are_plain c.vector;
      forward = comes_first c.vector c.from.statement c.to.statement begins;
    }

    pair_is : graph.HasPair n (as_candidate c k)
    unfolding refs
    pair_is = (
      map pos is,
      (
        map pos js,
        record {
          values = values;
          cell = cell;
          refs = refs;
          first_instance = a.instance;
          second_instance = b.instance;
          related = are_related c.vector is js related;
          first_touches = a.touches;
          second_touches = b.touches;
        },
      ),
    )

    abbrev HasArc : Graph → Type 0
    HasArc g = (x : Arc) × In x (arcs_of g.edges) × StandsFor x c

    edge_covers : (g : Graph) → IsGraphOf n g → HasEdgeFor g (as_candidate c k) → HasArc g
    edge_covers g h e =
        let d = e.stands.dirs in
        let covers = covers_for c.vector d.vector (replicate (7 - length d.vector) Any) d.stands.allowed in (
          arc_of e.edge,
          arc_in g.edges e.edge e.among,
          (
            ap place_of e.stands.from,
            ap place_of e.stands.to,
            subst (λ (x : Dirs). Covers (signs x.len x.at) c.vector) (sym d.places) covers,
          ),
        )

    has_arc : (g : Graph) → IsGraphOf n g → HasArc g
    has_arc g h =
        let all = complete n g h in
        elim (all.covered (as_candidate c k) candidate_is) [
          | inl e ↦ edge_covers g h e
          | inr d ↦ absurd (all.dropped (as_candidate c k) candidate_is d pair_is)
        ]

  covered : (g : Graph) → IsGraphOf n g → (c : Candidate) → IsCandidate c → HasPair c
      → (a : Arc) × In a (arcs_of g.edges) × StandsFor a c
  covered g h c i p =
      let kind = kind_for c.from.reference c.to.reference i.2 in
      let a = end_of p.values c.from.reference p.first p.cell p.first_is.0.0 p.first_is.0.1 p.touched.0 in
      let b = end_of p.values c.to.reference p.second p.cell p.second_is.0.0 p.second_is.0.1 p.touched.1 in
      has_arc c p.values p.cell p.first.iterations p.second.iterations
      (subst (λ s. End n p.values s c.from.reference p.first.iterations p.cell) p.first_is.1 a)
      (subst (λ s. End n p.values s c.to.reference p.second.iterations p.cell) p.second_is.1 b)
      i.3 i.4 p.related kind.0 kind.1 g h

  -- ---- an arc

  module _ (e : Edge) (s : Source n e) where
    has_level : IsForward n e s → HasLevel (arc_of e).signs
    has_level (inl led) =
        subst (λ m. HasLevel (signs m e.dirs.at)) (sym (vector n e s ready).len) (has_led (common_in n e s) e.dirs.at led)
    has_level (inr equal) =
        subst (λ m. HasLevel (signs m e.dirs.at)) (sym (vector n e s ready).len) (has_equal (common_in n e s) e.dirs.at equal.0)

    abbrev own_candidate : Candidate
    own_candidate = record {
      from = place_of s.couple.from;
      to = place_of s.couple.to;
      vector = directions (common_in n e s) e.dirs.at;
    }

    begins : IsForward n e s
        → orders.MayBegin (directions (common_in n e s) e.dirs.at) s.couple.from.stmt s.couple.to.stmt
    begins (inl led) = begins_led (common_in n e s) e.dirs.at s.couple.from.stmt s.couple.to.stmt led
    begins (inr equal) = begins_equal (common_in n e s) e.dirs.at s.couple.from.stmt s.couple.to.stmt equal.0 equal.1

    is_place : (p : Place) (x : Standing) (r : Reference) → IsReferenceAt n p x r
        → In p.stmt (statements (shape_of 0 n.body)) × (p.at < length (references_of (run_nest n) p.stmt))
    is_place p x r h = (
      number_there n plain p.stmt x h.statement,
      subst (λ (rs : List Reference). p.at < length rs) (sym (references_there n plain text ready p.stmt x h.statement))
          (slice_get_within (graph_references.references_of x) p.at r h.reference),
    )

    many : length (directions (common_in n e s) e.dirs.at) ≡ (common_in n e s)
    many =
        let short = few n e s ready in
        let places : length e.dirs.at ≡ 7 = (vector n e s ready).places in
        length-map (take (common_in n e s) e.dirs.at) direction_of
        ∙ length-take-le (common_in n e s) e.dirs.at (omega arith)

    own_is : IsCandidate own_candidate
    own_is =
        let refs = s.is.refs in (
          is_place s.couple.from refs.first refs.first_reference refs.first_is,
          is_place s.couple.to refs.second refs.second_reference refs.second_is,
          one_written s.couple.from.at s.couple.to.at s.couple.kind s.is.kind,
          many
              ∙ sym (common_there n s.couple.from.stmt s.couple.to.stmt refs.first refs.second refs.first_is.statement
              refs.second_is.statement),
          begins (forward n e s),
        )

    own_stands : StandsFor (arc_of e) own_candidate
    own_stands = (
      ap place_of s.from,
      ap place_of s.to,
      subst (λ m. Covers (signs m e.dirs.at) (directions (common_in n e s) e.dirs.at)) (sym (vector n e s ready).len)
          (covers_own (common_in n e s) e.dirs.at),
    )

  levels : (g : Graph) → IsGraphOf n g → (a : Arc) → In a (arcs_of g.edges) → HasLevel a.signs
  levels g h a i =
      let r = of_edge g.edges a i in
      let s = source n g r.0 h r.1 in
      subst (λ (x : Arc). HasLevel x.signs) (sym r.2) (has_level r.0 s (forward n r.0 s))

  stands : (g : Graph) → IsGraphOf n g → (a : Arc) → In a (arcs_of g.edges) → (c : Candidate) × IsCandidate c × StandsFor a c
  stands g h a i =
      let r = of_edge g.edges a i in
      let s = source n g r.0 h r.1 in
      let own = own_candidate r.0 s in
      (own, own_is r.0 s, subst (λ (x : Arc). StandsFor x own) (sym r.2) (own_stands r.0 s))

pub graph_has_edges : GraphHasEdges
graph_has_edges n g plain text ready h = record {
  covered = covered n plain text ready g h;
  level = levels n plain text ready g h;
  stands = stands n plain text ready g h;
}
