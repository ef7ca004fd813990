-- The pieces that are emitted are, as shapes, what recursive emission gives.
use Rattle.std.proofs.Common.{◌≡◌, ℕ, zero, suc, ◌-◌, ◌≤◌, ◌==◌, Bool, true, false, ◌&&◌, ◌||◌, List, [], ◌∷◌, ◌++◌, map, drop, Some, inl, inr, refl, sym, ap, subst, ◌∙◌, arith}
use mathlib.Core.Path.{ap₂}
use Rattle.std.specs.Prelude.{nat_le, slice_get, slice_index}
use Rattle.std.specs.List.{concat}
use Rattle.std.proofs.lemmas.Bool.{leb-true, le-leb}
use Rattle.std.proofs.lemmas.Bool.Decides.{Decides-eqb}
use Rattle.std.proofs.lemmas.List.{length-map, drop-map}
use Rattle.components.specs.Lists as lists
use Rattle.dependence_graph.specs.declared.graphs.Edge.{Edge as Edge'}
use Rattle.dependence_graph.specs.declared.graphs.Hold.{Hold}
use Rattle.emission.proofs.EmissionOrder.Classes.{order_is_components}
use Rattle.emission.specs.emission_order.Components.{ArePairsOf}
use Rattle.nest_order.specs.orders.Emission.{Leap, Components, IsEmittedFor, AreEmittedFor}
use Rattle.nest_order.specs.orders.Lists.{In, Each, Distinct}
use Rattle.nest_order.specs.orders.Nests.{Carried, Edge, Remains}
use Rattle.nest_order.specs.runs.Alone.{chain}
use Rattle.nest.specs.Plain.{Loop, Nest}
use Rattle.emission.specs.emission_pieces.Emission as codegen
use Rattle.emission.specs.emission_pieces.Levels.{AreComponents, ArePairsAt, is_at_work, joins, leads}
use Rattle.emission.specs.emission_pieces.Nests.{loops_at}
use Rattle.emission.specs.emission_pieces.Pieces.{Piece, Kept, Formed, Turning, Pieces, no_pieces, piece}
use Rattle.emission.proofs.EmissionPieces.Lists.{any_in, in_any, both_true}
use Rattle.emission.specs.emission_pieces.Laws.{PiecesAreEmitted}
use Rattle.emission.specs.emission_pieces.Shapes.{edge_of, edges_of, level_of, numbers_at, shape_of, shapes_of}

-- ---- words on lists

pub to_in : {X : Type 0} (x : X) (xs : List X) → lists.IsMember x xs → In x xs
to_in x [] i = i
to_in x (y ∷ xs) (inl e) = inl e
to_in x (y ∷ xs) (inr i) = inr (to_in x xs i)

pub from_in : {X : Type 0} (x : X) (xs : List X) → In x xs → lists.IsMember x xs
from_in x [] i = i
from_in x (y ∷ xs) (inl e) = inl e
from_in x (y ∷ xs) (inr i) = inr (from_in x xs i)

in_map : {X Y : Type 0} (f : X → Y) (x : X) (xs : List X) → In x xs → In (f x) (map f xs)
in_map f x [] h = absurd h
in_map f x (y ∷ xs) (inl e) = inl (ap f e)
in_map f x (y ∷ xs) (inr h) = inr (in_map f x xs h)

map_in : {X Y : Type 0} (f : X → Y) (y : Y) (xs : List X) → In y (map f xs) → (x : X) × In x xs × (y ≡ f x)
map_in f y [] h = absurd h
map_in f y (x ∷ xs) (inl e) = (x, inl refl, e)
map_in f y (x ∷ xs) (inr h) = let r = map_in f y xs h in (r.0, inr r.1, r.2)

-- ---- edges at work

remains : (d level : ℕ) → is_at_work (suc d) level ≡ true → Remains d (level_of level)
remains d zero h = tt
remains d (suc m) h = by (suc m == 0) refl h
  where
    by : (b : Bool) → (suc m == 0) ≡ b → (b || nat_le (suc d) (suc m)) ≡ true → Remains d (Carried m)
    by true e g = let z : suc m ≡ 0 = (Decides-eqb (suc m) 0).0 e in absurd (omega arith)
    by false e g = let f : suc d ≤ suc m = leb-true (suc d) (suc m) g in omega arith

at_work : (d level : ℕ) → Remains d (level_of level) → is_at_work (suc d) level ≡ true
at_work d zero h = refl
at_work d (suc m) h = by (suc m == 0) (le-leb (suc d) (suc m) (omega arith))
  where
    by : (b : Bool) → nat_le (suc d) (suc m) ≡ true → (b || nat_le (suc d) (suc m)) ≡ true
    by true g = refl
    by false g = g

module _ (edges : List Edge') (d : ℕ) where
  leap : (s r : ℕ) → leads edges (suc d) s r ≡ true → Leap (edges_of edges) d s r
  leap s r h =
      let w = any_in (joins (suc d) s r) edges h in
      let e = w.0 in
      let b = both_true (e.from.stmt == s) ((e.to.stmt == r) && is_at_work (suc d) e.level) w.2 in
      let c = both_true (e.to.stmt == r) (is_at_work (suc d) e.level) b.1 in
      (edge_of e, in_map edge_of e edges (to_in e edges w.1), (Decides-eqb e.from.stmt s).0 b.0, (Decides-eqb e.to.stmt r).0 c.0, remains d e.level c.1)

  leading : (s r : ℕ) → Leap (edges_of edges) d s r → leads edges (suc d) s r ≡ true
  leading s r h =
      let w = map_in edge_of h.0 edges h.1 in
      let e = w.0 in
      let from : e.from.stmt ≡ s = sym (ap (λ (z : Edge). z.from) w.2) ∙ h.2 in
      let to : e.to.stmt ≡ r = sym (ap (λ (z : Edge). z.to) w.2) ∙ h.3 in
      let rest : Remains d (level_of e.level) = subst (λ (z : Edge). Remains d z.level) w.2 h.4 in
      in_any (joins (suc d) s r) edges e (from_in e edges w.1)
      (ap₂ (λ a b. a && (b && is_at_work (suc d) e.level)) ((Decides-eqb e.from.stmt s).1 from) ((Decides-eqb e.to.stmt r).1 to) ∙ at_work d e.level rest)

  pairs_of : (part : List ℕ) (pairs : List (ℕ × ℕ)) → ArePairsAt edges (suc d) part pairs → ArePairsOf (edges_of edges) d part pairs
  pairs_of part pairs h i j = (
    (λ g. (let r = (h i j).0 g in (r.0, r.1, leap (slice_index part i) (slice_index part j) r.2))),
    (λ g. (h i j).1 (g.0, g.1, leading (slice_index part i) (slice_index part j) g.2)),
  )

  pub components_of : (part : List ℕ) (classes : List (List ℕ)) → Distinct part → AreComponents edges (suc d) part classes → Components (edges_of edges) d part classes
  components_of part classes once h =
      subst (Components (edges_of edges) d part) (sym h.statements) (order_is_components (edges_of edges) d part h.pairs h.places once (pairs_of part h.pairs h.paired) h.order)

-- ---- one statement by itself

alone : (es : List Edge) (d s : ℕ) → Components es d (s ∷ []) ((s ∷ []) ∷ [])
alone es d s = record {
  same = λ r. ((λ i. i), (λ i. i));
  once = (tt, tt);
  reachable = ((λ a b i j. ([], one a b i j)), tt);
  filled = ((λ e. cc), tt);
  forward = (tt, tt);
}
  where
    one : (a b : ℕ) → In a (s ∷ []) → In b (s ∷ []) → a ≡ b
    one a b (inl e) (inl f) = e ∙ sym f
    one a b (inr h) j = absurd h
    one a b (inl e) (inr h) = absurd h

drop_more : (d : ℕ) (ls : List ℕ) (l : ℕ) (rest : List ℕ) → drop d ls ≡ l ∷ rest → drop (suc d) ls ≡ rest
drop_more zero [] l rest h = cc
drop_more zero (m ∷ ls) l rest h = let e : ls ≡ rest = cc in e
drop_more (suc d) [] l rest h = cc
drop_more (suc d) (m ∷ ls) l rest h = drop_more d ls l rest h

chain_is : (loops : ℕ → List ℕ) (es : List Edge) (s d : ℕ) (ls : List ℕ) → drop d (loops s) ≡ ls → IsEmittedFor loops es d (s ∷ []) (chain ls s)
chain_is loops es s d [] h = (refl, h)
chain_is loops es s d (l ∷ ls) h =
    ((s, inl refl, (ls, h)), ((s ∷ []) ∷ [], alone es (suc d) s, (chain_is loops es s (suc d) ls (drop_more d (loops s) l ls h), tt)))

-- ---- all pieces

distinct_left : (b more : List ℕ) → Distinct (b ++ more) → Distinct b
distinct_left [] more g = tt
distinct_left (x ∷ b) more g = (each b g.0, distinct_left b more g.1)
  where
    each : (b : List ℕ) → Each (λ y. ¬ (x ≡ y)) (b ++ more) → Each (λ y. ¬ (x ≡ y)) b
    each [] g = tt
    each (y ∷ b) g = (g.0, each b g.1)

distinct_right : (b more : List ℕ) → Distinct (b ++ more) → Distinct more
distinct_right [] more g = g
distinct_right (x ∷ b) more g = distinct_right b more g.1

each_distinct : (cs : List (List ℕ)) → Distinct (concat cs) → Each Distinct cs
each_distinct [] h = tt
each_distinct (c ∷ cs) h = (distinct_left c (concat cs) h, each_distinct cs (distinct_right c (concat cs) h))

next_loop : (ls : List Loop) (d : ℕ) (l : Loop) → slice_get ls (suc d - 1) ≡ Some l → (rest : List ℕ) × (drop d (map (λ (m : Loop). m.number) ls) ≡ l.number ∷ rest)
next_loop ls d l h = at_place ls d (let e : suc d - 1 ≡ d = omega arith in ap (slice_get ls) (sym e) ∙ h)
  where
    at_place : (ls : List Loop) (d : ℕ) → slice_get ls d ≡ Some l → (rest : List ℕ) × (drop d (map (λ (m : Loop). m.number) ls) ≡ l.number ∷ rest)
    at_place [] d g = cc
    at_place (m ∷ ls) zero g = let e : m ≡ l = cc in (map (λ (m : Loop). m.number) ls, ap (λ (m : Loop). m.number ∷ map (λ (m : Loop). m.number) ls) e)
    at_place (m ∷ ls) (suc d) g = at_place ls d g

module _ (n : Nest) (edges : List Edge') (holds : List Hold) where
  mutual
    piece_is : (d : ℕ) (c : List ℕ) (p : Piece) → Distinct c → codegen.IsEmittedFor n edges holds (suc d) c p
        → IsEmittedFor (numbers_at n) (edges_of edges) d c (shape_of n d p)
    piece_is d c (Kept s) once h =
        (h.0, Rattle.std.proofs.lemmas.List.drop_all d (numbers_at n s) (let e = length-map (loops_at n s) (λ (l : Loop). l.number) in let g = h.1 in omega arith))
    piece_is d c (Formed s) once h =
        subst (λ c. IsEmittedFor (numbers_at n) (edges_of edges) d c (chain (drop d (numbers_at n s)) s)) (sym h.0)
        (chain_is (numbers_at n) (edges_of edges) s d (drop d (numbers_at n s)) refl)
    piece_is d c (Turning l ps) once h =
        let classes = h.2.0 in
        let within = components_of edges (suc d) c classes once h.2.1 in (
          (h.0.statement, to_in h.0.statement c h.0.among, next_loop (loops_at n h.0.statement) d l h.0.loop),
          (classes, within, pieces_are (suc d) classes ps (each_distinct classes within.once) h.2.2),
        )

    pieces_are : (d : ℕ) (cs : List (List ℕ)) (ps : Pieces) → Each Distinct cs → codegen.AreEmittedFor n edges holds (suc d) cs ps
        → AreEmittedFor (numbers_at n) (edges_of edges) d cs (shapes_of n d ps)
    pieces_are d [] no_pieces once h = tt
    pieces_are d [] (piece p ps) once h = absurd h
    pieces_are d (c ∷ cs) no_pieces once h = absurd h
    pieces_are d (c ∷ cs) (piece p ps) once h = (piece_is d c p once.0 h.0, pieces_are d cs ps once.1 h.1)

pub pieces_are_emitted : PiecesAreEmitted
pieces_are_emitted n edges holds d part ps once h =
    let within = components_of edges d part h.classes once h.components in
    (h.classes, within, pieces_are n edges holds d h.classes ps (each_distinct h.classes within.once) h.emitted)
