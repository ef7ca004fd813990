-- The edges and drops of the graph of a nest can be listed.
use Rattle.std.proofs.Common.{◌≡◌, refl, sym, subst, ℕ, zero, suc, ◌+◌, ◌-◌, ◌≤◌, ◌^◌, Bool, true, false, cond, Option, Some}
use Rattle.std.proofs.Common.{None}
use Rattle.std.proofs.Common.{List, [], ◌∷◌, ◌++◌, length, get_or, take, arith}
use Rattle.std.proofs.lemmas.List.Elements.{All-head, All-tail}
use Rattle.std.proofs.lemmas.Option.{slice_get_within}
use Rattle.std.specs.List.{AllByRecursion}
use Rattle.std.specs.Prelude.{All, slice_get}
use Rattle.dependence_graph.specs.declared.graphs.Dropped.{Dropped}
use Rattle.dependence_graph.specs.declared.graphs.Edge.{Edge}
use Rattle.dependence_graph.specs.declared.graphs.Graph.{Graph}
use Rattle.dependence_graph.specs.declared.graphs.Place.{Place}
use Rattle.tree.specs.Plain.{Expression, Number, Logic, Named, Unary, Binary, Apply, Constructor, Spread, Transpose}
use Rattle.tree.specs.Plain.{Reshape, Reduce, Expressions, no_expressions, expression, Subscript, Only, Section}
use Rattle.tree.specs.Plain.{Subscripts, no_subscripts, subscript, Reference}
use Rattle.listing.specs.graphs.Listing.{edge_entry, drop_entry, depth_of}
use Rattle.listing_laws.proofs.notes.Printable.{joined}
use Rattle.listing_laws.specs.reader.Listable.{IsWord, IsListable, IsListablePlace, IsListableMeeting}
use Rattle.dependence_graph.specs.nest_graph.Arcs.{VectorVerdict, Assumed, Couple, Met, Never, Verdict, edge_of, edge_with, drop_of}
use Rattle.dependence_graph.specs.nest_graph.Arcs.{with_some, edges_of, drops_of, in_places, in_point, level_from, vector_level}
use Rattle.dependence_graph.specs.nest_graph.Graph.{IsCouple, IsGraphOf, IsRightVerdict, all_edges, all_drops, candidate_of}
use Rattle.dependence_graph.specs.nest_graph.Pair.{IsCandidate}
use Rattle.dependence_graph.specs.nest_graph.Ready.{IsReady}
use Rattle.dependence_graph.specs.nest_graph.References.{is_among, has_no_subscript, own_reference, variables_round, references_in}
use Rattle.dependence_graph.specs.nest_graph.References.{references_in_all, references_in_subscript, references_in_subscripts}
use Rattle.dependence_graph.specs.nest_graph.References.{references_in_guard, references_of}
use Rattle.dependence_graph.specs.nest_graph.Tested.{Both, IsReferenceAt, both}
use Rattle.dependence_graph.specs.nest_graph.Vectors.{StandsFor}
use Rattle.dependence_graph.proofs.dep_graph.Couples.{common_first}
use Rattle.dependence_graph.proofs.dep_graph.Directions.{places_length}
use Rattle.dependence_graph.proofs.nest_graph.Filled.{filled, filled_length, filled_stands}
use Rattle.nest.specs.Bodies.{Standing, nest_statements}
use Rattle.nest.specs.Plain.{Nest}
use Rattle.pass_laws.proofs.NormalFacts.Texts.{IsOver, EachIsOver, AreOver, OneIsOver, GuardIsOver}
use Rattle.subscripts.specs.declared.affine.Dir.TheVariants.{Lt, Eq, Gt, Any}
use Rattle.subscripts.specs.declared.affine.Dir.{Dir}
use Rattle.listing_laws.proofs.read_back.Made.{IsTidy, IsTidyNest}
use Rattle.listing_laws.proofs.read_back.Meetings.{ready_at, shown_small}

-- ---- the references of a statement

abbrev HasWord : Reference → Type 0
HasWord r = IsWord r.name

abbrev AreNamed : List Reference → Type 0
AreNamed rs = AllByRecursion HasWord rs

several : (rs ss : List Reference) → AreNamed rs → AreNamed ss → AreNamed (rs ++ ss)
several = joined HasWord

module _ (loops : List (List ℕ)) where
  own : (x : List ℕ) (ss : Subscripts) → IsWord x → AreNamed (own_reference loops x ss)
  own x ss h = by (has_no_subscript ss) (is_among loops x)
    where
      one : List Reference
      one = record { name = x; subscripts = ss } ∷ []

      by : (b c : Bool) → AreNamed (cond b (cond c [] one) one)
      by true true = tt
      by true false = (h, tt)
      by false c = (h, tt)

  mutual
    named : (e : Expression) → IsOver IsWord e → AreNamed (references_in loops e)
    named (Number n) h = tt
    named (Logic b) h = tt
    named (Named x ss) h = several (own_reference loops x ss) (references_in_subscripts loops ss) (own x ss h.0)
        (named_subscripts ss h.1)
    named (Unary o a) h = named a h
    named (Binary o a b) h = several (references_in loops a) (references_in loops b) (named a h.0) (named b h.1)
    named (Apply f es) h = named_each es h
    named (Constructor es ls) h = absurd h
    named (Spread a n e) h = absurd h
    named (Transpose a) h = absurd h
    named (Reshape a es) h = absurd h
    named (Reduce r a) h = absurd h

    named_each : (es : Expressions) → EachIsOver IsWord es → AreNamed (references_in_all loops es)
    named_each no_expressions h = tt
    named_each (expression e es) h = several (references_in loops e) (references_in_all loops es) (named e h.0)
        (named_each es h.1)

    named_subscripts : (ss : Subscripts) → AreOver IsWord ss → AreNamed (references_in_subscripts loops ss)
    named_subscripts no_subscripts h = tt
    named_subscripts (subscript s ss) h =
        several (references_in_subscript loops s) (references_in_subscripts loops ss) (named_subscript s h.0)
        (named_subscripts ss h.1)

    named_subscript : (s : Subscript) → OneIsOver IsWord s → AreNamed (references_in_subscript loops s)
    named_subscript (Only e) h = named e h
    named_subscript (Section a b c) h = absurd h

  named_guard : (o : Option Expression) → GuardIsOver IsWord o → AreNamed (references_in_guard loops o)
  named_guard None h = tt
  named_guard (Some e) h = named e h

references_named : (s : Standing) → IsTidy s → AreNamed (references_of s)
references_named s t =
    let h = t.over in
    let loops = variables_round s in
    let left = references_in_subscripts loops s.statement.left.subscripts in
    let right = references_in loops s.statement.right in (
      h.name,
      several (references_in_guard loops s.statement.guard) (left ++ right)
          (named_guard loops s.statement.guard h.guard)
          (several left right (named_subscripts loops s.statement.left.subscripts h.left)
          (named loops s.statement.right h.right)),
    )

-- ---- levels

level_most : (k : ℕ) (ds : List Dir) → level_from k ds ≤ k + length ds
level_most k [] = omega arith
level_most k (Lt ∷ ds) = omega arith
level_most k (Eq ∷ ds) = let h = level_most (suc k) ds in omega (arith, h)
level_most k (Gt ∷ ds) = omega arith
level_most k (Any ∷ ds) = omega arith

-- ---- the two references of a couple

at : {A : Type 0} (P : A → Type 0) (xs : List A) (k : ℕ) (x : A) → AllByRecursion P xs → slice_get xs k ≡ Some x → P x
at P [] k x h e = let no : ⊥ = cc in absurd no
at P (y ∷ xs) zero x h e = let same : y ≡ x = cc in subst P same h.0
at P (y ∷ xs) (suc k) x h e = at P xs k x h.1 e

with_one : {A : Type 0} (P : A → Type 0) (o : Option A) (xs : List A) → ((x : A) → o ≡ Some x → P x)
    → AllByRecursion P xs → AllByRecursion P (with_some o xs)
with_one P None xs h k = k
with_one P (Some x) xs h k = (h x refl, k)

record AreListable (c : Couple) : Type 0 where
  from : IsListablePlace c.from
  to : IsListablePlace c.to
  array : IsWord c.array

abbrev pub IsListableDrop : Dropped → Type 0
IsListableDrop d = IsListable (drop_entry d)

module _ (m : Nest) (ready : IsReady m) (tidy : IsTidyNest m) (few : length (nest_statements m) ≤ 2 ^ 40) where
  abbrev ts : List Standing
  ts = nest_statements m

  abbrev pub IsListableEdge : Edge → Type 0
  IsListableEdge e = IsListable (edge_entry ts e)

  place : (p : Place) (s : Standing) (r : Reference) → IsReferenceAt m p s r → IsListablePlace p
  place p s r h =
      let a = slice_get_within ts p.stmt s h.statement in
      let b = slice_get_within (references_of s) p.at r h.reference in
      let most = (at IsTidy ts p.stmt s tidy.statements h.statement).few in
      record { statement = omega (arith, a, few); reference = omega (arith, b, most) }

  couple : (c : Couple) → IsCouple m c → AreListable c
  couple c h =
      let first = h.refs.first_is in
      let t = at IsTidy ts c.from.stmt h.refs.first tidy.statements first.statement in
      record {
        from = place c.from h.refs.first h.refs.first_reference first;
        to = place c.to h.refs.second h.refs.second_reference h.refs.second_is;
        array = subst IsWord (sym h.array) (at HasWord (references_of h.refs.first) c.from.at h.refs.first_reference
            (references_named h.refs.first t) first.reference);
      }

  module _ (c : Couple) (is : IsCouple m c) where
    abbrev of' : Both
    of' = both m c.from c.to is.refs

    -- what holds of an answer
    abbrev IsRightAnswer : VectorVerdict → Type 0
    IsRightAnswer a = IsRightVerdict m c of' a.0 a.1

    abbrev IsShortAnswer : VectorVerdict → Type 0
    IsShortAnswer a = length a.0 ≤ 7

    level_small : (d : List Dir) → length d ≤ 7 → vector_level (in_places d) ≤ 7
    level_small d h = let places = places_length d h in let most = level_most 0 (in_places d).at in omega (arith, places, most)

    edge : (d : List Dir) (v : Verdict) (e : Edge) → length d ≤ 7 → IsRightVerdict m c of' d v → edge_of c d v ≡ Some e → IsListableEdge e
    edge d (Never w) e h k g = let no : ⊥ = cc in absurd no
    edge d (Assumed w) e h k g =
        let l = couple c is in
        let most = level_small d h in
        let same : e ≡ edge_with c d w None = cc in
        subst IsListableEdge (sym same) (
          record { from = l.from; to = l.to; array = l.array },
          (omega (arith, most), tt),
        )
    edge d (Met x y w) e h k g =
        let l = couple c is in
        let most = level_small d h in
        let same : e ≡ edge_with c d w (Some (in_point x, in_point y)) = cc in
        let meeting : IsListableMeeting (record
        { first = take (depth_of ts c.from.stmt) (in_point x).at; second = take (depth_of ts c.to.stmt) (in_point y).at }) = record {
          first = shown_small m ready k.pair.values c.from.stmt is.refs.first x (7 - length x) is.refs.first_is.statement k.exact.first_trips
              k.pair.first_instance;
          second = shown_small m ready k.pair.values c.to.stmt is.refs.second y (7 - length y) is.refs.second_is.statement k.exact.second_trips
              k.pair.second_instance;
        } in
        subst IsListableEdge (sym same) (
          record { from = l.from; to = l.to; array = l.array },
          (omega (arith, most), meeting),
        )

    drop : (d : List Dir) (v : Verdict) (e : Dropped) → drop_of c d v ≡ Some e → IsListableDrop e
    drop d (Met x y w) e g = let no : ⊥ = cc in absurd no
    drop d (Assumed w) e g = let no : ⊥ = cc in absurd no
    drop d (Never w) e g =
        let l = couple c is in
        let same : e ≡ record { from = c.from; to = c.to; kind = c.kind; array = c.array; dirs = in_places d; test = w } = cc in
        subst IsListableDrop (sym same) (record { from = l.from; to = l.to; array = l.array })

    -- its vector has a direction for each loop round both
    short_answer : (a : VectorVerdict) → ((v : List Dir) → StandsFor a.0 v → IsCandidate m (candidate_of c v)) → IsShortAnswer a
    short_answer a h =
        let i = h (filled a.0) (filled_stands a.0) in
        let common = common_first i.refs.first.loops i.refs.second.loops in
        let deep = (ready_at m ready c.from.stmt i.refs.first i.refs.first_is.statement).depth in
        let long = filled_length a.0 in
        let loops = i.loops in
        omega (arith, common, deep, long, loops)

    edges : (answers : List VectorVerdict) → All IsShortAnswer answers → All IsRightAnswer answers
        → AllByRecursion IsListableEdge (edges_of c answers)
    edges [] h k = tt
    edges (a ∷ more) h k =
        with_one IsListableEdge (edge_of c a.0 a.1) (edges_of c more)
        (λ e g. edge a.0 a.1 e (All-head IsShortAnswer a more h) (All-head IsRightAnswer a more k) g)
        (edges more (All-tail IsShortAnswer a more h) (All-tail IsRightAnswer a more k))

    drops : (answers : List VectorVerdict) → AllByRecursion IsListableDrop (drops_of c answers)
    drops [] = tt
    drops (a ∷ more) = with_one IsListableDrop (drop_of c a.0 a.1) (drops_of c more) (λ e g. drop a.0 a.1 e g)
        (drops more)

  every_edge : (cs : List Couple) → All (IsCouple m) cs → AllByRecursion IsListableEdge (all_edges cs)
  every_edge [] h = tt
  every_edge (c ∷ cs) h =
      let is = All-head (IsCouple m) c cs h in
      joined IsListableEdge (edges_of c c.answers) (all_edges cs) (edges c is c.answers
      (λ k d l. short_answer c is (get_or c.answers k d) (is.candidates k d l)) is.right)
      (every_edge cs (All-tail (IsCouple m) c cs h))

  every_drop : (cs : List Couple) → All (IsCouple m) cs → AllByRecursion IsListableDrop (all_drops cs)
  every_drop [] h = tt
  every_drop (c ∷ cs) h =
      joined IsListableDrop (drops_of c c.answers) (all_drops cs) (drops c (All-head (IsCouple m) c cs h) c.answers)
      (every_drop cs (All-tail (IsCouple m) c cs h))

  pub graph_edges : (g : Graph) → IsGraphOf m g → AllByRecursion IsListableEdge g.edges
  graph_edges g h = subst (AllByRecursion IsListableEdge) (sym h.edges) (every_edge h.couples h.each)

  pub graph_drops : (g : Graph) → IsGraphOf m g → AllByRecursion IsListableDrop g.dropped
  graph_drops g h = subst (AllByRecursion IsListableDrop) (sym h.dropped) (every_drop h.couples h.each)
