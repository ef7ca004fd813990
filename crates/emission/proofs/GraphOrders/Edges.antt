-- Where an edge of a graph comes from, and what its vector is.
use Rattle.std.proofs.Common.{◌≡◌, ◌⊎◌, ℕ, suc, ◌+◌, ◌-◌, ◌<◌, ◌≤◌, ◌==◌, Bool, true, false, cond, List, [], ◌∷◌, ◌++◌}
use Rattle.std.proofs.Common.{zero, length, get_or, map, replicate, Some, refl, sym, ap, subst, ◌∙◌, inl, inr, arith}
use mathlib.Core.Path.{ap₂}
use Rattle.std.specs.Prelude.{All, slice_get}
use Rattle.std.proofs.lemmas.List.{get_or_past}
use Rattle.subscripts.specs.declared.affine.Dir.{Dir}
use Rattle.subscripts.specs.declared.affine.Dir.TheVariants.{Lt, Eq, Gt, Any}
use Rattle.subscripts.specs.declared.affine.Dirs.{Dirs}
use Rattle.components.specs.Lists.{IsMember}
use Rattle.dependence_graph.specs.declared.graphs.Edge.{Edge}
use Rattle.dependence_graph.specs.declared.graphs.Graph.{Graph}
use Rattle.dependence_graph.specs.nest_graph.Arcs.{VectorVerdict, Assumed, Couple, Met, Never, Verdict, edge_of, edges_of, in_places}
use Rattle.dependence_graph.specs.nest_graph.Arcs.{vector_level, with_some}
use Rattle.dependence_graph.specs.nest_graph.Graph.{IsCouple, IsGraphOf, all_edges, candidate_of}
use Rattle.dependence_graph.specs.nest_graph.Pair.{IsCandidate}
use Rattle.dependence_graph.specs.nest_graph.Ready.{IsReady, IsReadyStatement}
use Rattle.dependence_graph.specs.nest_graph.Tested.{common_of}
use Rattle.dependence_graph.specs.nest_graph.Vectors.{MayComeFirst, StandsFor}
use Rattle.dependence_graph.proofs.dep_graph.Directions.{places_length, with_anys}
use Rattle.nest.specs.Bodies.{Standing, nest_statements}
use Rattle.nest.specs.Plain.{Loop, Nest}
use Rattle.nest_order.specs.orders.Graphs.{level_after}
use Rattle.nest_order.specs.orders.Graphs as orders
use Rattle.nest_order.specs.orders.Nests.{Carried, Level}
use Rattle.emission.specs.emission_pieces.Shapes as pieces
use Rattle.dependence_graph.proofs.nest_graph.Filled.{filled, filled_length, filled_stands}
use Rattle.emission.proofs.GraphEdges.Vectors.{led_level, equal_level}
use Rattle.emission.specs.graph_orders.Arcs.{arc_of, arcs_of}
use Rattle.emission.specs.graph_orders.Laws.{ArcsAreEdges}
use Rattle.emission.proofs.GraphOrders.Lists.{all_there}
use Rattle.emission.proofs.GraphOrders.Signs.{IsEqual, IsLed, level_equal, level_led, signs}

-- ---- lists

all_in : {X : Type 0} (P : X → Type 0) (xs : List X) (x : X) → IsMember x xs → All P xs → P x
all_in P [] x i h = absurd i
all_in P (y ∷ xs) x (inl e) h = subst P (sym e) (h 0 y (omega arith))
all_in P (y ∷ xs) x (inr i) h = all_in P xs x i (λ k d g. h (suc k) d (omega arith))

in_either : {X : Type 0} (x : X) (xs ys : List X) → IsMember x (xs ++ ys) → IsMember x xs ⊎ IsMember x ys
in_either {X} x [] ys h = inr h
in_either {X} x (z ∷ xs) ys h =
    elim h [
      | inl e ↦ inl (inl e)
      | inr r ↦ elim (in_either {X = X} x xs ys r) [ inl a ↦ inl (inr a) | inr b ↦ inr b ]
    ]

-- ---- where an edge comes from

abbrev Made : Couple → List Dir → Edge → Type 0
Made c d e = (e.from ≡ c.from) × (e.to ≡ c.to) × (e.dirs ≡ in_places d) × (e.level ≡ vector_level (in_places d))

made_so : (c : Couple) (d : List Dir) (e f : Edge) → e ≡ f → Made c d f → Made c d e
made_so c d e f h m = subst (Made c d) (sym h) m

first : (c : Couple) (d : List Dir) (v : Verdict) (e : Edge) (es : List Edge) → IsMember e (with_some (edge_of c d v) es)
    → Made c d e ⊎ IsMember e es
first c d (Never w) e es h = inr h
first c d (Met x y w) e es h = elim h [ inl f ↦ inl (made_so c d e _ f (refl, refl, refl, refl)) | inr r ↦ inr r ]
first c d (Assumed w) e es h = elim h [ inl f ↦ inl (made_so c d e _ f (refl, refl, refl, refl)) | inr r ↦ inr r ]

made : (c : Couple) (as' : List VectorVerdict) (e : Edge) → IsMember e (edges_of c as') → (a : VectorVerdict) × IsMember a as' × Made c a.0 e
made c [] e h = absurd h
made c (a ∷ as') e h =
    elim (first c a.0 a.1 e (edges_of c as') h) [
      | inl m ↦ (a, inl refl, m)
      | inr r ↦ (let k = made c as' e r in (k.0, inr k.1, k.2))
    ]

among : (cs : List Couple) (e : Edge) → IsMember e (all_edges cs) → (c : Couple) × IsMember c cs × IsMember e (edges_of c c.answers)
among [] e h = absurd h
among (c ∷ cs) e h =
    elim (in_either e (edges_of c c.answers) (all_edges cs) h) [
      | inl a ↦ (c, inl refl, a)
      | inr b ↦ (let k = among cs e b in (k.0, inr k.1, k.2))
    ]

pub record Source (n : Nest) (e : Edge) : Type 0 where
  pub couple : Couple
  pub is : IsCouple n couple
  pub from : e.from ≡ couple.from
  pub to : e.to ≡ couple.to
  pub level : e.level ≡ vector_level e.dirs
  pub directions : List Dir
  pub dirs : e.dirs ≡ in_places directions
  pub candidates : (v : List Dir) → StandsFor directions v → IsCandidate n (candidate_of couple v)

abbrev CoversCandidates : Nest → Couple → VectorVerdict → Type 0
CoversCandidates n c a = (v : List Dir) → StandsFor a.0 v → IsCandidate n (candidate_of c v)

source_by : (n : Nest) (c : Couple) (a : VectorVerdict) (e : Edge) → IsCouple n c → IsMember a c.answers → Made c a.0 e → Source n e
source_by n c a e h i m = record {
  couple = c;
  is = h;
  from = m.0;
  to = m.1;
  level = m.3 ∙ ap vector_level (sym m.2);
  directions = a.0;
  dirs = m.2;
  candidates = all_in (CoversCandidates n c) c.answers a i h.candidates;
}

pub source : (n : Nest) (g : Graph) (e : Edge) → IsGraphOf n g → IsMember e g.edges → Source n e
source n g e h i =
    let r = among h.couples e (subst (λ (es : List Edge). IsMember e es) h.edges i) in
    let m = made r.0 r.0.answers e r.2 in
    source_by n r.0 m.0 e (all_in (IsCouple n) h.couples r.0 r.1 h.each) m.1 m.2

-- ---- loops round both

pub common_short : (ls ms : List Loop) → common_of ls ms ≤ length ls
common_short [] ms = omega arith
common_short (l ∷ ls) [] = omega arith
common_short (l ∷ ls) (m ∷ ms) = step (l.number == m.number) (common_of ls ms) (length ls) (common_short ls ms)
  where
    step : (b : Bool) (c k : ℕ) → c ≤ k → cond b (suc c) 0 ≤ suc k
    step true c k h = omega arith
    step false c k h = omega arith

pub few_common : (n : Nest) (k : ℕ) (x y : Standing) → IsReady n → slice_get (nest_statements n) k ≡ Some x
    → common_of x.loops y.loops ≤ 7
few_common n k x y h e =
    let d : length x.loops ≤ 7 = (all_there IsReadyStatement (nest_statements n) k x h.statements e).depth in
    let c = common_short x.loops y.loops in
    omega arith

-- ---- its vector

abbrev pub common_in : (n : Nest) (e : Edge) → Source n e → ℕ
common_in n e s = common_of s.is.refs.first.loops s.is.refs.second.loops

pub few : (n : Nest) (e : Edge) (s : Source n e) → IsReady n → common_in n e s ≤ 7
few n e s ready = few_common n s.couple.from.stmt s.is.refs.first s.is.refs.second ready s.is.refs.first_is.statement

same_standing : (x y : Standing) (k : ℕ) (n : Nest) → slice_get (nest_statements n) k ≡ Some x → slice_get (nest_statements n) k ≡ Some y → x ≡ y
same_standing x y k n e f = let g : Some x ≡ Some y = sym e ∙ f in cc

-- with a direction for each loop round both
pub long : (n : Nest) (e : Edge) (s : Source n e) → length s.directions ≡ common_in n e s
long n e s =
    let c = s.candidates (filled s.directions) (filled_stands s.directions) in
    let first = same_standing c.refs.first s.is.refs.first s.couple.from.stmt n c.refs.first_is.statement s.is.refs.first_is.statement in
    let second = same_standing c.refs.second s.is.refs.second s.couple.to.stmt n c.refs.second_is.statement s.is.refs.second_is.statement in
    sym (filled_length s.directions) ∙ c.loops ∙ ap₂ (λ (x y : Standing). common_of x.loops y.loops) first second

-- in seven places
pub record AreInPlaces (common : ℕ) (d : Dirs) : Type 0 where
  pub places : length d.at ≡ 7
  pub len : d.len ≡ common
  pub past_len : (k : ℕ) → common ≤ k → get_or d.at k Any ≡ Any

pub vector : (n : Nest) (e : Edge) (s : Source n e) → IsReady n → AreInPlaces (common_in n e s) e.dirs
vector n e s ready =
    let l = long n e s in let f = few n e s ready in
    subst (AreInPlaces (common_in n e s)) (sym s.dirs) (record {
      places = places_length s.directions (omega arith);
      len = l;
      past_len = λ k h. with_anys s.directions (7 - length s.directions) k ∙ get_or_past s.directions k Any (omega arith);
    })

-- the first direction other than `=` is `<`, or all are `=` and the first statement stands earlier
abbrev pub IsForward : (n : Nest) (e : Edge) → Source n e → Type 0
IsForward n e s =
    IsLed (common_in n e s) e.dirs.at ⊎ (IsEqual (common_in n e s) e.dirs.at × (s.couple.from.stmt < s.couple.to.stmt))

equal_too : (ds : List Dir) (c : ℕ) → IsEqual c ds → IsEqual (suc c) (Eq ∷ ds)
equal_too ds c h zero l = refl
equal_too ds c h (suc m) l = h m (omega arith)

led_or_equal : (p q : ℕ) (ds rest : List Dir) → MayComeFirst p q (filled ds)
    → IsLed (length ds) (ds ++ rest) ⊎ (IsEqual (length ds) (ds ++ rest) × (p < q))
led_or_equal p q [] rest h = inr ((λ m l. absurd (omega arith)), h)
led_or_equal p q (Lt ∷ ds) rest h =
    inl (record { at = 0; inside = omega arith; before = λ m l. absurd (omega arith); less = refl })
led_or_equal p q (Eq ∷ ds) rest h = further (led_or_equal p q ds rest h)
  where
    further : IsLed (length ds) (ds ++ rest) ⊎ (IsEqual (length ds) (ds ++ rest) × (p < q))
        → IsLed (suc (length ds)) (Eq ∷ (ds ++ rest)) ⊎ (IsEqual (suc (length ds)) (Eq ∷ (ds ++ rest)) × (p < q))
    further (inl l) =
        let inside : l.at < length ds = l.inside in
        inl (record { at = suc l.at; inside = omega arith; before = equal_too (ds ++ rest) l.at l.before; less = l.less })
    further (inr f) = inr (equal_too (ds ++ rest) (length ds) f.0, f.1)
led_or_equal p q (Gt ∷ ds) rest h = absurd h
led_or_equal p q (Any ∷ ds) rest h = absurd h

pub forward : (n : Nest) (e : Edge) (s : Source n e) → IsForward n e s
forward n e s =
    let c = s.candidates (filled s.directions) (filled_stands s.directions) in
    subst (λ (d : Dirs). IsLed (common_in n e s) d.at ⊎ (IsEqual (common_in n e s) d.at × (s.couple.from.stmt < s.couple.to.stmt))) (sym s.dirs)
    (subst (λ (k : ℕ). IsLed k (in_places s.directions).at ⊎ (IsEqual k (in_places s.directions).at × (s.couple.from.stmt < s.couple.to.stmt))) (long n e s)
    (led_or_equal s.couple.from.stmt s.couple.to.stmt s.directions (replicate (7 - length s.directions) Any) c.forward))

-- ---- its level

level_by : (n : Nest) (e : Edge) (s : Source n e) → IsReady n → IsForward n e s
    → level_after 0 (signs (common_in n e s) e.dirs.at) ≡ pieces.level_of e.level
level_by n e s ready (inl led) =
    let k : led.at ≡ 0 + led.at = omega arith in
    level_led (common_in n e s) e.dirs.at led
    ∙ (ap Carried k ∙ sym (ap pieces.level_of (s.level ∙ led_level 0 led.at e.dirs.at led.before led.less)))
level_by n e s ready (inr equal) =
    level_equal (common_in n e s) e.dirs.at equal.0
    ∙ sym (ap pieces.level_of (s.level ∙ equal_level 0 (common_in n e s) e.dirs.at equal.0 (vector n e s ready).past_len))

arc_is : (n : Nest) (e : Edge) (s : Source n e) → IsReady n → orders.edge_of (arc_of e) ≡ pieces.edge_of e
arc_is n e s ready =
    ap (λ (l : Level). record { from = e.from.stmt; to = e.to.stmt; level = l })
    (ap (λ c. level_after 0 (signs c e.dirs.at)) (vector n e s ready).len ∙ level_by n e s ready (forward n e s))

each_same : (es : List Edge) → ((e : Edge) → IsMember e es → orders.edge_of (arc_of e) ≡ pieces.edge_of e)
    → map orders.edge_of (arcs_of es) ≡ pieces.edges_of es
each_same [] h = refl
each_same (e ∷ es) h = ap₂ (λ x xs. x ∷ xs) (h e (inl refl)) (each_same es (λ f i. h f (inr i)))

pub arcs_are_edges : ArcsAreEdges
arcs_are_edges n g ready h = each_same g.edges (λ e i. arc_is n e (source n g e h i) ready)
