-- Lines that are added one after the other.
use Rattle.std.proofs.Common.{◌≡◌, ℕ, ◌+◌, ◌<◌, ◌≤◌, refl, sym, ap, ap₂, ◌∙◌, subst, arith, Option, Some, None, Bool, true, false, cond, List, [], ◌∷◌, ◌++◌, length, map, take, get_or, append_assoc, add-one}
use Rattle.std.specs.Prelude.{ℤ, All}
use Rattle.std.specs.Str.{bytes_eq}
use Rattle.std.proofs.Math.Seq.{take-suc}
use Rattle.std.proofs.lemmas.Grind.{flat_map-append}
use Rattle.std.proofs.lemmas.List.{append-nil, map-append, take_all}
use Rattle.std.proofs.lemmas.List.Elements.{All-head, All-tail}
use Rattle.components.specs.Lists.{Each}
use Rattle.subscripts.specs.declared.affine.Dirs.{Dirs}
use Rattle.subscripts.specs.declared.affine.Span.{Span}
use Rattle.subscripts.specs.declared.verdict.Point.{Point}
use Rattle.subscripts.specs.declared.verdict.Verdict.{Verdict}
use Rattle.subscripts.specs.declared.verdict.Verdict.TheVariants.{Never, Pair, Assumed}
use Rattle.dependence_graph.specs.declared.graphs.Dep.{Dep}
use Rattle.dependence_graph.specs.declared.graphs.Dropped.{Dropped}
use Rattle.dependence_graph.specs.declared.graphs.Edge.{Edge}
use Rattle.direction_vectors.specs.Answers.{OnPair}
use Rattle.direction_vectors.specs.Candidates.{Answer}
use Rattle.direction_vectors.specs.vector_tests.Pairs.{IsIteration}
use Rattle.direction_vectors.specs.vector_tests.Refs.{IsRefPair, IsVectorOf}
use Rattle.direction_vectors.specs.declared.vector_tests.refs.RefPair.{RefPair}
use Rattle.dependence_graph.specs.nest_graph.Arcs as arcs
use Rattle.dependence_graph.specs.nest_graph.Arcs.{Couple, drop_of, drops_of, edge_of, edges_of, in_places, in_point, with_some}
use Rattle.dependence_graph.specs.nest_graph.Graph.{all_drops, all_edges}
use Rattle.dependence_graph.specs.nest_graph.Pair.{kind_between}
use Rattle.dependence_graph.specs.declared.nest_references.occurrences.Occurrence.{Occurrence}
use Rattle.dependence_graph.specs.dep_graph.Joined.{AreCouplesAs, AreCouplesIn, AreJoined, AreVectors, all_drops_at, all_edges_at, as_answer, as_verdict, couple_of, dependence_of, drops_at, edge_at, edges_at, ref_pair_of, row, table}
use Rattle.dependence_graph.specs.declared.dep_graph.lines.Ends.{Ends}
use Rattle.dependence_graph.specs.declared.dep_graph.lines.Dependences.{Dependences}
use Rattle.dependence_graph.proofs.dep_graph.Directions.{listed, places_are}
use Rattle.dependence_graph.proofs.dep_graph.Lists.{iteration_is}

pub one_more : {A : Type 0} (xs : List A) (i : ℕ) (x : A) → i < length xs → x ≡ get_or xs i x → take (i + 1) xs ≡ take i xs ++ x ∷ []
one_more xs i x h e = ap (λ n. take n xs) (add-one i) ∙ take-suc xs i x h ∙ ap (λ y. take i xs ++ y ∷ []) (sym e)

-- ---- couples

edges-append : (cs ds : List Couple) → all_edges (cs ++ ds) ≡ all_edges cs ++ all_edges ds
edges-append [] ds = refl
edges-append (c ∷ cs) ds = ap (λ es. edges_of c c.answers ++ es) (edges-append cs ds) ∙ sym (append_assoc (edges_of c c.answers) (all_edges cs) (all_edges ds))

drops-append : (cs ds : List Couple) → all_drops (cs ++ ds) ≡ all_drops cs ++ all_drops ds
drops-append [] ds = refl
drops-append (c ∷ cs) ds = ap (λ es. drops_of c c.answers ++ es) (drops-append cs ds) ∙ sym (append_assoc (drops_of c c.answers) (all_drops cs) (all_drops ds))

in-append : (ps qs : List (Occurrence × Occurrence)) (cs ds : List Couple) → AreCouplesIn ps cs → AreCouplesIn qs ds → AreCouplesIn (ps ++ qs) (cs ++ ds)
in-append [] qs cs ds h k = subst (λ (es : List Couple). AreCouplesIn qs (es ++ ds)) (sym h) k
in-append (p ∷ ps) qs cs ds h k =
    (h.0, h.1 ++ ds, ap (λ (es : List Couple). es ++ ds) h.2 ∙ append_assoc h.0 h.1 ds, h.3, in-append ps qs h.1 ds h.4 k)

-- ---- lines

pub joined_none : (old : Dependences) → AreJoined [] old old
joined_none old = record { couples = []; are = refl; edges = sym (append-nil old.edges); dropped = sym (append-nil old.dropped) }

pub joined_then : (ps qs : List (Occurrence × Occurrence)) (old mid new : Dependences) → AreJoined ps old mid → AreJoined qs mid new → AreJoined (ps ++ qs) old new
joined_then ps qs old mid new h k = record {
  couples = h.couples ++ k.couples;
  are = in-append ps qs h.couples k.couples h.are k.are;
  edges = k.edges ∙ ap (λ es. es ++ all_edges k.couples) h.edges ∙ append_assoc old.edges (all_edges h.couples) (all_edges k.couples)
      ∙ ap (λ es. old.edges ++ es) (sym (edges-append h.couples k.couples));
  dropped = k.dropped ∙ ap (λ es. es ++ all_drops k.couples) h.dropped ∙ append_assoc old.dropped (all_drops h.couples) (all_drops k.couples)
      ∙ ap (λ es. old.dropped ++ es) (sym (drops-append h.couples k.couples));
}

pub joined_same : (ps : List (Occurrence × Occurrence)) (old new other : Dependences) → new ≡ other → AreJoined ps old new → AreJoined ps old other
joined_same ps old new other e h = subst (λ (l : Dependences). AreJoined ps old l) e h

-- ---- one couple

abbrev pub ends_of : Occurrence → Occurrence → Dep → Ends
ends_of a b k = record { from = a.place; to = b.place; kind = k; array = a.name }

-- two answers in seven places
module _ (a b : Occurrence) (r : RefPair) (few : r.common ≤ 7) (first : r.from_spans ≡ a.spans) (second : r.to_spans ≡ b.spans) (deep : length a.spans ≤ 7) (deeper : length b.spans ≤ 7) where
  point_is : (ss : List Span) (x : Point) → length ss ≤ 7 → IsIteration ss x.at → x ≡ in_point (take (length ss) x.at)
  point_is ss x h i = ap (λ (zs : List ℤ). record { at = zs }) (iteration_is ss x.at h i)

  abbrev AreThere : List Answer → Type 0
  AreThere as' = Each (λ (x : Answer). IsVectorOf r x.0 × OnPair r x.0 x.1) as'

  abbrev as_new : Answer → arcs.VectorVerdict
  as_new x = as_answer (length a.spans) (length b.spans) x

  edges_are : (k : Dep) (all as' : List Answer) → AreThere as' → all_edges_at (ends_of a b k) as' ≡ edges_of (couple_of a b k all) (map as_new as')
  edges_are k all [] h = refl
  edges_are k all (x ∷ as') h = one x.0 x.1 h.0.0 h.0.1 (edges_are k all as' h.1)
    where
      one : (d : Dirs) (v : Verdict) → IsVectorOf r d → OnPair r d v → all_edges_at (ends_of a b k) as' ≡ edges_of (couple_of a b k all) (map as_new as')
          → edges_at (ends_of a b k) d v ++ all_edges_at (ends_of a b k) as'
          ≡ with_some (edge_of (couple_of a b k all) (listed d) (as_verdict (length a.spans) (length b.spans) v)) (edges_of (couple_of a b k all) (map as_new as'))
      one d (Never w) g p e = e
      one d (Pair y z w) g p e =
          let m : IsIteration a.spans y.at = subst (λ (ss : List Span). IsIteration ss y.at) first p.meeting.within.first in
          let n : IsIteration b.spans z.at = subst (λ (ss : List Span). IsIteration ss z.at) second p.meeting.within.second in
          ap₂ (λ (f : Dirs) (es : List Edge). edge_at (ends_of a b k) f w (Some (y, z)) ∷ es) (places_are r few d g) e
          ∙ ap₂ (λ (i j : Point). edge_at (ends_of a b k) (in_places (listed d)) w (Some (i, j)) ∷ edges_of (couple_of a b k all) (map as_new as'))
          (point_is a.spans y deep m) (point_is b.spans z deeper n)
      one d (Assumed w) g p e = ap₂ (λ (f : Dirs) (es : List Edge). edge_at (ends_of a b k) f w None ∷ es) (places_are r few d g) e

  drops_are : (k : Dep) (all as' : List Answer) → AreThere as' → all_drops_at (ends_of a b k) as' ≡ drops_of (couple_of a b k all) (map as_new as')
  drops_are k all [] h = refl
  drops_are k all (x ∷ as') h = one x.0 x.1 h.0.0 (drops_are k all as' h.1)
    where
      one : (d : Dirs) (v : Verdict) → IsVectorOf r d → all_drops_at (ends_of a b k) as' ≡ drops_of (couple_of a b k all) (map as_new as')
          → drops_at (ends_of a b k) d v ++ all_drops_at (ends_of a b k) as'
          ≡ with_some (drop_of (couple_of a b k all) (listed d) (as_verdict (length a.spans) (length b.spans) v)) (drops_of (couple_of a b k all) (map as_new as'))
      one d (Never w) g e = ap₂ (λ (f : Dirs) (es : List Dropped). record { from = a.place; to = b.place; kind = k; array = a.name; dirs = f; test = w } ∷ es) (places_are r few d g) e
      one d (Pair y z w) g e = e
      one d (Assumed w) g e = e

  all_there : (as' : List Answer) → All (λ (x : Answer). IsVectorOf r x.0) as' → All (λ (x : Answer). OnPair r x.0 x.1) as' → AreThere as'
  all_there [] h g = tt
  all_there (x ∷ as') h g = (
    (All-head (λ (y : Answer). IsVectorOf r y.0) x as' h, All-head (λ (y : Answer). OnPair r y.0 y.1) x as' g),
    all_there as' (All-tail (λ (y : Answer). IsVectorOf r y.0) x as' h) (All-tail (λ (y : Answer). OnPair r y.0 y.1) x as' g),
  )

pub joined_one : (a b : Occurrence) (k : Dep) (answers : List Answer) (old new : Dependences) → IsRefPair (ref_pair_of a b) → Some k ≡ dependence_of a b → AreVectors (ref_pair_of a b) answers
    → new.edges ≡ old.edges ++ all_edges_at (ends_of a b k) answers → new.dropped ≡ old.dropped ++ all_drops_at (ends_of a b k) answers → AreJoined ((a, b) ∷ []) old new
joined_one a b k answers old new refs e v h g =
    let c = couple_of a b k answers in
    let r = ref_pair_of a b in
    let few : r.common ≤ 7 = (let m = refs.from_common in let n = refs.from_depth in omega arith) in
    let there = all_there a b r few refl refl refs.from_depth refs.to_depth answers v.vectors v.pair in
    record {
      couples = c ∷ [];
      are = (c ∷ [], [], refl, subst (λ (o : Option Dep). AreCouplesAs o a b (c ∷ [])) e (answers, refl, v), refl);
      edges = h ∙ ap (λ es. old.edges ++ es) (edges_are a b r few refl refl refs.from_depth refs.to_depth k answers answers there ∙ sym (append-nil (edges_of c c.answers)));
      dropped = g ∙ ap (λ es. old.dropped ++ es) (drops_are a b r few refl refl refs.from_depth refs.to_depth k answers answers there ∙ sym (append-nil (drops_of c c.answers)));
    }

pub joined_apart : (a b : Occurrence) (old : Dependences) → None ≡ dependence_of a b → AreJoined ((a, b) ∷ []) old old
joined_apart a b old e = record {
  couples = [];
  are = ([], [], refl, subst (λ (o : Option Dep). AreCouplesAs o a b []) e refl, refl);
  edges = sym (append-nil old.edges);
  dropped = sym (append-nil old.dropped);
}

pub names_alike : (a b : Occurrence) (k : Dep) → Some k ≡ dependence_of a b → bytes_eq a.name b.name ≡ true
names_alike a b k e = by (bytes_eq a.name b.name) refl e
  where
    by : (t : Bool) → bytes_eq a.name b.name ≡ t → Some k ≡ cond t (kind_between a.place.at b.place.at) None → t ≡ true
    by true f g = refl
    by false f g = cc

pub kind_alike : (a b : Occurrence) (k : Dep) → Some k ≡ dependence_of a b → kind_between a.place.at b.place.at ≡ Some k
kind_alike a b k e = sym (e ∙ ap (λ t. cond t (kind_between a.place.at b.place.at) None) (names_alike a b k e))

-- ---- rows and tables

pub row_more : (a : Occurrence) (bs : List Occurrence) (i : ℕ) (b : Occurrence) (old mid new : Dependences) → i < length bs → b ≡ get_or bs i b
    → AreJoined (row a (take i bs)) old mid → AreJoined ((a, b) ∷ []) mid new → AreJoined (row a (take (i + 1) bs)) old new
row_more a bs i b old mid new h e p q =
    subst (λ (ps : List (Occurrence × Occurrence)). AreJoined ps old new)
    (sym (ap (row a) (one_more bs i b h e) ∙ map-append (λ (c : Occurrence). (a, c)) (take i bs) (b ∷ [])))
    (joined_then (row a (take i bs)) ((a, b) ∷ []) old mid new p q)

pub table_more : (as' bs : List Occurrence) (i : ℕ) (a : Occurrence) (old mid new : Dependences) → i < length as' → a ≡ get_or as' i a
    → AreJoined (table (take i as') bs) old mid → AreJoined (row a bs) mid new → AreJoined (table (take (i + 1) as') bs) old new
table_more as' bs i a old mid new h e p q =
    subst (λ (ps : List (Occurrence × Occurrence)). AreJoined ps old new)
    (sym (ap (λ (xs : List Occurrence). table xs bs) (one_more as' i a h e) ∙ flat_map-append (λ (c : Occurrence). row c bs) (take i as') (a ∷ []) ∙ ap (λ ps. table (take i as') bs ++ ps) (append-nil (row a bs))))
    (joined_then (table (take i as') bs) (row a bs) old mid new p q)

pub row_all : (a : Occurrence) (bs : List Occurrence) (i : ℕ) (old new : Dependences) → length bs ≤ i → AreJoined (row a (take i bs)) old new → AreJoined (row a bs) old new
row_all a bs i old new h j = subst (λ (xs : List Occurrence). AreJoined (row a xs) old new) (take_all i bs h) j

pub table_all : (as' bs : List Occurrence) (i : ℕ) (old new : Dependences) → length as' ≤ i → AreJoined (table (take i as') bs) old new → AreJoined (table as' bs) old new
table_all as' bs i old new h j = subst (λ (xs : List Occurrence). AreJoined (table xs bs) old new) (take_all i as' h) j
