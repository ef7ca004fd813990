-- A statement that may stand in array form has no edge of its own there.
use Rattle.std.proofs.Common.{◌≡◌, refl, sym, ap, subst, ◌∙◌, ◌⊎◌, inl, inr, ℕ, zero, suc, ◌≤◌, ◌==◌, Bool, true, false}
use Rattle.std.proofs.Common.{not, ◌&&◌, ◌||◌, List, [], ◌∷◌, map, Some, eq-eqb, arith}
use Rattle.std.specs.Prelude.{All}
use Rattle.std.proofs.lemmas.Bool.{le-leb}
use Rattle.subscripts.specs.declared.affine.Dir.{Dir}
use Rattle.dependence_graph.specs.declared.graphs.Dep.{Dep}
use Rattle.dependence_graph.specs.declared.graphs.Dep.TheVariants.{Flow, Output}
use Rattle.dependence_graph.specs.declared.graphs.Edge.{Edge}
use Rattle.dependence_graph.specs.declared.graphs.Graph.{Graph}
use Rattle.dependence_graph.specs.declared.graphs.Hold.{Hold}
use Rattle.dependence_graph.specs.declared.graphs.Place.{Place}
use Rattle.emission.specs.emission_pieces.Levels.{is_anti, is_at_work, is_held, is_own, is_recurrent, may_be_formed}
use Rattle.emission.specs.emission_pieces.Shapes as pieces
use Rattle.emission.proofs.EmissionPieces.Emitted.{from_in}
use Rattle.emission.proofs.EmissionPieces.Lists.{both_true, in_any}
use Rattle.emission.specs.graph_orders.Arcs.{arc_of, arcs_of, place_of}
use Rattle.dependence_graph.specs.nest_graph.Arcs.{VectorVerdict, Assumed, Couple, Met, Never, Verdict, edge_of, edges_of}
use Rattle.dependence_graph.specs.nest_graph.Arcs.{with_some}
use Rattle.dependence_graph.specs.nest_graph.Graph.{IsCouple, IsGraphOf, all_edges}
use Rattle.dependence_graph.specs.nest_graph.Pair.{kind_between}
use Rattle.nest_order.specs.orders.Graphs as orders
use Rattle.nest_order.specs.orders.Lists.{In}
use Rattle.nest_order.specs.orders.Nests as levels
use Rattle.nest_order.proofs.orders.Lists.{In-append}
use Rattle.nest_order.specs.runs.Alone.{HasNoOwnEdge}
use Rattle.nest.specs.Plain.{Nest}

-- ---- where an edge comes from

abbrev IsMade : Couple → Edge → Type 0
IsMade c e = (e.from ≡ c.from) × (e.to ≡ c.to) × (e.kind ≡ c.kind)

made_first : (c : Couple) (d : List Dir) (v : Verdict) (e : Edge) (es : List Edge) → In e (with_some (edge_of c d v) es) → IsMade c e ⊎ In e es
made_first c d (Never w) e es h = inr h
made_first c d (Met x y w) e es h = elim h [ inl f ↦ inl (ap (λ (z : Edge). z.from) f, ap (λ (z : Edge). z.to) f, ap (λ (z : Edge). z.kind) f) | inr r ↦ inr r ]
made_first c d (Assumed w) e es h = elim h [ inl f ↦ inl (ap (λ (z : Edge). z.from) f, ap (λ (z : Edge). z.to) f, ap (λ (z : Edge). z.kind) f) | inr r ↦ inr r ]

made_by : (c : Couple) (as' : List VectorVerdict) (e : Edge) → In e (edges_of c as') → IsMade c e
made_by c [] e h = absurd h
made_by c (a ∷ as') e h = elim (made_first c a.0 a.1 e (edges_of c as') h) [ inl m ↦ m | inr r ↦ made_by c as' e r ]

couple_of : (cs : List Couple) (e : Edge) → In e (all_edges cs) → (c : Couple) × In c cs × IsMade c e
couple_of [] e h = absurd h
couple_of (c ∷ cs) e h =
    elim (In-append e (edges_of c c.answers) (all_edges cs) h) [
      | inl a ↦ (c, inl refl, made_by c c.answers e a)
      | inr b ↦ (let k = couple_of cs e b in (k.0, inr k.1, k.2))
    ]

all_in : {X : Type 0} (P : X → Type 0) (xs : List X) (x : X) → In x xs → All P xs → P x
all_in P [] x i h = absurd i
all_in P (y ∷ xs) x (inl e) h = subst P (sym e) (h 0 y (omega arith))
all_in P (y ∷ xs) x (inr i) h = all_in P xs x i (λ k d g. h (suc k) d (omega arith))

-- one from the left side is no antidependence
no_anti : (q : ℕ) (k : Dep) → kind_between 0 q ≡ Some k → is_anti k ≡ false
no_anti zero k e = let f : k ≡ Output = cc in ap is_anti f
no_anti (suc q) k e = let f : k ≡ Flow = cc in ap is_anti f

own_kind : (n : Nest) (g : Graph) → IsGraphOf n g → (e : Edge) → In e g.edges → e.from.at ≡ 0 → is_anti e.kind ≡ false
own_kind n g h e i z =
    let r = couple_of h.couples e (subst (λ (es : List Edge). In e es) h.edges i) in
    let couple = all_in (IsCouple n) h.couples r.0 r.1 h.each in
    let at : r.0.from.at ≡ 0 = ap (λ (p : Place). p.at) (sym r.2.0) ∙ z in
    ap is_anti r.2.2 ∙ no_anti r.0.to.at r.0.kind (ap (λ m. kind_between m r.0.to.at) (sym at) ∙ couple.kind)

-- ---- arcs

both_same : {X : Type 0} (x y : X) (xs ys : List X) → x ∷ xs ≡ y ∷ ys → (x ≡ y) × (xs ≡ ys)
both_same x y xs ys e = (cc, cc)

edge_of_arc : (es : List Edge) (a : orders.Arc) → In a (arcs_of es) → map orders.edge_of (arcs_of es) ≡ pieces.edges_of es → (e : Edge) × In e es × (a ≡ arc_of e) × (orders.edge_of (arc_of e) ≡ pieces.edge_of e)
edge_of_arc [] a i h = absurd i
edge_of_arc (e ∷ es) a (inl q) h = (e, inl refl, q, (both_same (orders.edge_of (arc_of e)) (pieces.edge_of e) (map orders.edge_of (arcs_of es)) (pieces.edges_of es) h).0)
edge_of_arc (e ∷ es) a (inr i) h =
    let r = edge_of_arc es a i (both_same (orders.edge_of (arc_of e)) (pieces.edge_of e) (map orders.edge_of (arcs_of es)) (pieces.edges_of es) h).1 in
    (r.0, inr r.1, r.2, r.3)

or_true : (b : Bool) → (b || true) ≡ true
or_true true = refl
or_true false = refl

at_work : (d m : ℕ) (l : levels.Level) → l ≡ pieces.level_of m → levels.Remains d l → is_at_work (suc d) m ≡ true
at_work d zero l e r = refl
at_work d (suc m) l e r =
    let most : d ≤ m = subst (levels.Remains d) e r in
    ap (λ b. (suc m == 0) || b) (le-leb (suc d) (suc m) (omega arith)) ∙ or_true (suc m == 0)

own_test : (a b c d : Bool) → a ≡ true → b ≡ true → c ≡ true → d ≡ false → ((a && (b && c)) && not d) ≡ true
own_test a b c d p q r z = rw (p, q, r, z) refl

not_both : (b : Bool) → b ≡ true → not b ≡ true → ⊥
not_both b p q = cc

pub no_own_edge : (n : Nest) (g : Graph) (holds : List Hold) (d s : ℕ) → IsGraphOf n g → map orders.edge_of (arcs_of g.edges) ≡ pieces.edges_of g.edges
    → may_be_formed g.edges holds (suc d) s ≡ true → HasNoOwnEdge (arcs_of g.edges) d s
no_own_edge n g holds d s h same may a i from to remains =
    let r = edge_of_arc g.edges a i same in
    let e = r.0 in
    let start : place_of e.from ≡ record { statement = s; reference = 0 } = ap (λ (b : orders.Arc). b.from) (sym r.2) ∙ from in
    let end : e.to.stmt ≡ s = ap (λ (b : orders.Arc). b.to.statement) (sym r.2) ∙ to in
    let level : orders.level_after 0 a.signs ≡ pieces.level_of e.level = ap (λ (b : orders.Arc). orders.level_after 0 b.signs) r.2 ∙ ap (λ (f : levels.Edge). f.level) r.3 in
    let own : is_own (suc d) s e ≡ true =
    own_test (e.from.stmt == s) (e.to.stmt == s) (is_at_work (suc d) e.level) (is_anti e.kind)
    (eq-eqb e.from.stmt s (ap (λ (p : orders.Place). p.statement) start)) (eq-eqb e.to.stmt s end)
    (at_work d e.level (orders.level_after 0 a.signs) level remains) (own_kind n g h e r.1 (ap (λ (p : orders.Place). p.reference) start)) in
    let recurrent : is_recurrent g.edges (suc d) s ≡ true = in_any (is_own (suc d) s) g.edges e (from_in e g.edges r.1) own in
    not_both (is_recurrent g.edges (suc d) s) recurrent (both_true (not (is_recurrent g.edges (suc d) s)) (not (is_held holds (suc d) s)) may).0
