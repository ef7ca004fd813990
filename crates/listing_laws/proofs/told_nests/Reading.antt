-- What is read of the edges and drops of a nest, as they are listed in order.
use Rattle.std.proofs.Common.{◌≡◌, refl, ap, ap₂, ◌∙◌, subst, ℕ, suc, ◌-◌, Option, Some, None, List, [], ◌∷◌, ◌++◌, length, map, replicate, take, flat_map}
use Rattle.std.specs.List.{AllByRecursion}
use Rattle.std.specs.Prelude.{All, ℤ, pos}
use Rattle.std.proofs.lemmas.List.Elements.{All-head, All-tail}
use Rattle.dependence_graph.specs.declared.graphs.Dropped.{Dropped}
use Rattle.dependence_graph.specs.declared.graphs.Edge.{Edge}
use Rattle.dependence_graph.specs.nest_graph.Arcs.{VectorVerdict, Assumed, Couple, Met, Never, Verdict, drop_of, drops_of, edge_of, edge_with}
use Rattle.dependence_graph.specs.nest_graph.Arcs.{edges_of, in_places, in_point, with_some}
use Rattle.dependence_graph.specs.nest_graph.Graph.{IsCouple, IsRightVerdict, all_drops, all_edges}
use Rattle.dependence_graph.specs.nest_graph.Instances.{AreTurns, IsInstance}
use Rattle.dependence_graph.specs.nest_graph.Pair.{HasPair}
use Rattle.dependence_graph.specs.nest_graph.Tested.{Both, both}
use Rattle.dependence_graph.specs.nest_graph.Vectors.{StandsFor}
use Rattle.listing.specs.graphs.Lines.{Entry}
use Rattle.listing.specs.graphs.Listing.{answer_entry, depth_of, drop_entry, edge_entry}
use Rattle.listing.specs.graphs.Order.{Answered, Found, RuledOut, before, entries_in_order, not_before}
use Rattle.listing_laws.proofs.notes.Printable.{joined}
use Rattle.listing_laws.proofs.told_nests.Each.{cut, parted}
use Rattle.listing_laws.specs.told_nests.Graphs.{drops_told, edges_told}
use Rattle.nest.specs.Bodies.{Standing, nest_statements}
use Rattle.nest.specs.Plain.{Loop, Nest}
use Rattle.subscripts.specs.declared.affine.Dir.{Dir}
use Rattle.subscripts.specs.declared.affine.Dir.TheVariants.{Any}
use Rattle.subscripts.specs.declared.verdict.Point.{Point}
use Rattle.subscripts.specs.declared.verdict.Test.{Test}

-- ---- lists

pub front : {A : Type 0} (xs zs : List A) → take (length xs) (xs ++ zs) ≡ xs
front [] [] = refl
front [] (z ∷ zs) = refl
front (x ∷ xs) zs = ap (λ ys. x ∷ ys) (front xs zs)

with_one : {A : Type 0} (P : A → Type 0) (o : Option A) (xs : List A) → ((x : A) → o ≡ Some x → P x)
    → AllByRecursion P xs → AllByRecursion P (with_some o xs)
with_one P None xs h k = k
with_one P (Some x) xs h k = (h x refl, k)

-- ---- directions and iterations

pub directions : (v : List Dir) → take (in_places v).len (in_places v).at ≡ v
directions v = front v (replicate (7 - length v) Any)

turned : (values : ℕ → ℤ) (outer : List ℤ) (ls : List Loop) (x : List ℤ) → AreTurns values outer ls x → length ls ≡ length x
turned values outer [] [] h = refl
turned values outer [] (i ∷ x) h = absurd h
turned values outer (l ∷ ls) [] h = absurd h
turned values outer (l ∷ ls) (i ∷ x) h = ap suc (turned values (outer ++ i ∷ []) ls x h.1)

abbrev depth_in : Option Standing → ℕ
depth_in o = elim o [ Some t ↦ length t.loops | None ↦ 0 ]

-- an iteration of the loops round a statement is told whole
iteration : (n : Nest) (values : ℕ → ℤ) (s : ℕ) (x : List ℤ) → IsInstance n values s x
    → take (depth_of (nest_statements n) s) (in_point x).at ≡ x
iteration n values s x h =
    let deep : depth_of (nest_statements n) s ≡ length x = ap depth_in h.is_at ∙ turned values [] h.standing.loops x h.turns in
    ap (λ k. take k (in_point x).at) deep ∙ front x (replicate (7 - length x) (pos 1))

-- ---- one edge, and one drop

abbrev pub IsToldDrop : Dropped → Type 0
IsToldDrop d = drops_told (drop_entry d) ≡ d ∷ []

-- no pair of iterations for any vector for which it stands
abbrev pub IsWithoutPair : Nest → Dropped → Type 0
IsWithoutPair n d =
    (v : List Dir) → StandsFor (take d.dirs.len d.dirs.at) v
    → HasPair n (record { from = d.from; to = d.to; kind = d.kind; vector = v }) → ⊥

module _ (n : Nest) where
  abbrev ts : List Standing
  ts = nest_statements n

  abbrev pub IsToldEdge : Edge → Type 0
  IsToldEdge e = edges_told (edge_entry ts e) ≡ e ∷ []

  module _ (c : Couple) where
    abbrev with_dirs : List Dir → Test → Option (Point × Point) → Edge
    with_dirs v w pair = edge_with c v w pair

    -- the level and the rest are listed as they are
    told_assumed : (v : List Dir) (w : Test) → IsToldEdge (edge_with c v w None)
    told_assumed v w =
        ap (λ (u : List Dir). record { from = c.from; to = c.to; kind = c.kind; array = c.array; dirs = in_places u; level = (edge_with c v w None).level; test = w; pair = None } ∷ [])
        (directions v)

    told_met : (v : List Dir) (w : Test) (x y : List ℤ)
        → take (depth_of ts c.from.stmt) (in_point x).at ≡ x → take (depth_of ts c.to.stmt) (in_point y).at ≡ y
        → IsToldEdge (edge_with c v w (Some (in_point x, in_point y)))
    told_met v w x y h k =
        ap (λ (u : List Dir). record { from = c.from; to = c.to; kind = c.kind; array = c.array; dirs = in_places u; level = (edge_with c v w None).level; test = w; pair = Some (in_point (take (depth_of ts c.from.stmt) (in_point x).at), in_point (take (depth_of ts c.to.stmt) (in_point y).at)) } ∷ [])
        (directions v)
        ∙ ap₂ (λ (i j : List ℤ). with_dirs v w (Some (in_point i, in_point j)) ∷ []) h k

    told_drop : (v : List Dir) (w : Test)
        → IsToldDrop (record { from = c.from; to = c.to; kind = c.kind; array = c.array; dirs = in_places v; test = w })
    told_drop v w =
        ap (λ (u : List Dir). record { from = c.from; to = c.to; kind = c.kind; array = c.array; dirs = in_places u; test = w } ∷ [])
        (directions v)

  module _ (c : Couple) (is : IsCouple n c) where
    abbrev of' : Both
    of' = both n c.from c.to is.refs

    abbrev IsRightAnswer : VectorVerdict → Type 0
    IsRightAnswer a = IsRightVerdict n c of' a.0 a.1

    edge : (d : List Dir) (v : Verdict) (e : Edge) → IsRightVerdict n c of' d v → edge_of c d v ≡ Some e → IsToldEdge e
    edge d (Never w) e k g = let no : ⊥ = cc in absurd no
    edge d (Assumed w) e k g = let same : edge_with c d w None ≡ e = cc in subst IsToldEdge same (told_assumed c d w)
    edge d (Met x y w) e k g =
        let same : edge_with c d w (Some (in_point x, in_point y)) ≡ e = cc in
        subst IsToldEdge same
        (told_met c d w x y (iteration n k.pair.values c.from.stmt x k.pair.first_instance)
        (iteration n k.pair.values c.to.stmt y k.pair.second_instance))

    drop : (d : List Dir) (v : Verdict) (e : Dropped) → IsRightVerdict n c of' d v → drop_of c d v ≡ Some e → IsToldDrop e × IsWithoutPair n e
    drop d (Met x y w) e k g = let no : ⊥ = cc in absurd no
    drop d (Assumed w) e k g = let no : ⊥ = cc in absurd no
    drop d (Never w) e k g =
        let same : record { from = c.from; to = c.to; kind = c.kind; array = c.array; dirs = in_places d; test = w } ≡ e = cc in
        subst (λ (x : Dropped). IsToldDrop x × IsWithoutPair n x) same
        (told_drop c d w, λ v stands pair. k.without_pair v (subst (λ (u : List Dir). StandsFor u v) (directions d) stands) pair)

    edges : (answers : List VectorVerdict) → All IsRightAnswer answers → AllByRecursion IsToldEdge (edges_of c answers)
    edges [] k = tt
    edges (a ∷ more) k =
        with_one IsToldEdge (edge_of c a.0 a.1) (edges_of c more) (λ e g. edge a.0 a.1 e (All-head IsRightAnswer a more k) g)
        (edges more (All-tail IsRightAnswer a more k))

    drops : (answers : List VectorVerdict) → All IsRightAnswer answers → AllByRecursion (λ d. IsToldDrop d × IsWithoutPair n d) (drops_of c answers)
    drops [] k = tt
    drops (a ∷ more) k =
        with_one (λ d. IsToldDrop d × IsWithoutPair n d) (drop_of c a.0 a.1) (drops_of c more) (λ e g. drop a.0 a.1 e (All-head IsRightAnswer a more k) g)
        (drops more (All-tail IsRightAnswer a more k))

  pub every_edge : (cs : List Couple) → All (IsCouple n) cs → AllByRecursion IsToldEdge (all_edges cs)
  every_edge [] h = tt
  every_edge (c ∷ cs) h =
      let is = All-head (IsCouple n) c cs h in
      joined IsToldEdge (edges_of c c.answers) (all_edges cs) (edges c is c.answers is.right)
      (every_edge cs (All-tail (IsCouple n) c cs h))

  pub every_drop : (cs : List Couple) → All (IsCouple n) cs → AllByRecursion (λ d. IsToldDrop d × IsWithoutPair n d) (all_drops cs)
  every_drop [] h = tt
  every_drop (c ∷ cs) h =
      let is = All-head (IsCouple n) c cs h in
      joined (λ d. IsToldDrop d × IsWithoutPair n d) (drops_of c c.answers) (all_drops cs) (drops c is c.answers is.right)
      (every_drop cs (All-tail (IsCouple n) c cs h))

  -- ---- in order

  abbrev entries : List Answered → List Entry
  entries xs = map (answer_entry ts) xs

  no_drops : (ds : List Dropped) (rest : List Answered) → flat_map edges_told (entries (map RuledOut ds ++ rest)) ≡ flat_map edges_told (entries rest)
  no_drops [] rest = refl
  no_drops (d ∷ ds) rest = no_drops ds rest

  drops_alone : (ds : List Dropped) → flat_map edges_told (entries (map RuledOut ds)) ≡ []
  drops_alone [] = refl
  drops_alone (d ∷ ds) = drops_alone ds

  pub edges_read : (es : List Edge) (ds : List Dropped) → AllByRecursion IsToldEdge es → flat_map edges_told (entries (entries_in_order es ds)) ≡ es
  edges_read [] ds h = drops_alone ds
  edges_read (e ∷ es) ds h =
      no_drops (before e ds) (Found e ∷ entries_in_order es (not_before e ds))
      ∙ (ap (λ us. us ++ flat_map edges_told (entries (entries_in_order es (not_before e ds)))) h.0
      ∙ ap (λ us. e ∷ us) (edges_read es (not_before e ds) h.1))

  with_drops : (ds : List Dropped) (rest : List Answered) → AllByRecursion IsToldDrop ds
      → flat_map drops_told (entries (map RuledOut ds ++ rest)) ≡ ds ++ flat_map drops_told (entries rest)
  with_drops [] rest h = refl
  with_drops (d ∷ ds) rest h =
      ap (λ us. us ++ flat_map drops_told (entries (map RuledOut ds ++ rest))) h.0 ∙ ap (λ us. d ∷ us) (with_drops ds rest h.1)

  drops_whole : (ds : List Dropped) → AllByRecursion IsToldDrop ds → flat_map drops_told (entries (map RuledOut ds)) ≡ ds
  drops_whole [] h = refl
  drops_whole (d ∷ ds) h =
      ap (λ us. us ++ flat_map drops_told (entries (map RuledOut ds))) h.0 ∙ ap (λ us. d ∷ us) (drops_whole ds h.1)

  pub drops_read : (es : List Edge) (ds : List Dropped) → AllByRecursion IsToldDrop ds → flat_map drops_told (entries (entries_in_order es ds)) ≡ ds
  drops_read [] ds h = drops_whole ds h
  drops_read (e ∷ es) ds h =
      let c = cut IsToldDrop e ds h in
      with_drops (before e ds) (Found e ∷ entries_in_order es (not_before e ds)) c.0
      ∙ (ap (λ us. before e ds ++ us) (drops_read es (not_before e ds) c.1) ∙ parted e ds)
