-- The couples of a nest's references make its graph.
use Rattle.std.proofs.Common.{◌≡◌, ◌⊎◌, ◌↔◌, inl, inr, ℕ, zero, suc, ◌+◌, ◌<◌, ◌≤◌, refl, sym, ap, ap₂, ◌∙◌, subst, arith, Option, Some, None, Bool, true, cond, List, [], ◌∷◌, ◌++◌, length, map, take, get_or}
use Rattle.std.specs.Prelude.{ℤ, All, IsTrue, nat_lt, slice_get}
use Rattle.std.specs.Str.{bytes_eq}
use Rattle.std.proofs.lemmas.Bool.{lt-ltb, ltb-true}
use Rattle.std.proofs.lemmas.Option.{get_or_from_slice_get, slice_get_within}
use Rattle.std.proofs.lemmas.Slice.Eq.{bytes_eq-Decides}
use Rattle.std.proofs.lemmas.List.{length-map}
use Rattle.std.proofs.lemmas.List.Elements.{All-append, All-cons, All-head, All-map, All-nil, All-tail}
use Rattle.tree.specs.Plain.{Reference}
use Rattle.subscripts.specs.Classes.{at_place}
use Rattle.subscripts.specs.Cuts.{IsNoLater}
use Rattle.subscripts.specs.Iterations.{IsRelated}
use Rattle.subscripts.specs.declared.affine.Dir.{Dir}
use Rattle.subscripts.specs.declared.affine.Dirs.{Dirs}
use Rattle.subscripts.specs.declared.pairing.Pairing.{Pairing}
use Rattle.subscripts.specs.declared.verdict.Point.{Point}
use Rattle.subscripts.specs.declared.verdict.Test.{Test}
use Rattle.subscripts.specs.declared.verdict.Verdict.{Verdict}
use Rattle.subscripts.specs.declared.verdict.Verdict.TheVariants.{Never, Pair as Met, Assumed}
use Rattle.components.specs.Lists.{Each, IsMember, Pairwise}
use Rattle.dependence_graph.specs.declared.graphs.Dep.{Dep}
use Rattle.dependence_graph.specs.declared.graphs.Dep.TheVariants.{Anti, Flow, Output}
use Rattle.dependence_graph.specs.declared.graphs.Graph.{Graph}
use Rattle.dependence_graph.specs.declared.graphs.Place.{Place}
use Rattle.nest.specs.Plain.{Loop, Nest}
use Rattle.nest.specs.Bodies.{Standing, nest_statements}
use Rattle.direction_vectors.specs.vector_tests.Pairs.{IsMeeting}
use Rattle.direction_vectors.specs.vector_tests.Refs.{IsVectorOf}
use Rattle.direction_vectors.specs.vector_tests.Ways.{IsExactClass, IsZivOrSiv}
use Rattle.direction_vectors.specs.vector_tests.Words.{IsEdgeWord as IsKeptWord}
use Rattle.direction_vectors.specs.declared.vector_tests.refs.RefPair.{RefPair}
use Rattle.direction_vectors.specs.Answers.{AreAssumed as AreOpen, AreDropped as AreNever, AreMet as DoMeetIn, OnAssumed, OnKept, OnNever, OnPair}
use Rattle.direction_vectors.specs.Candidates.{Answer, Covers, CoversCandidates}
use Rattle.dependence_graph.specs.nest_graph.Arcs as arcs
use Rattle.dependence_graph.specs.nest_graph.Arcs.{Couple, in_places}
use Rattle.dependence_graph.specs.nest_graph.Graph.{AreAssumed, AreDependent, AreDropped, AreMet, IsAmong, IsCouple, IsEarlierCouple, IsEarlierPlace, IsGraphOf, IsRightVerdict, all_drops, all_edges, candidate_of}
use Rattle.dependence_graph.specs.nest_graph.Indices.{SubscriptPair, subscript_pairs}
use Rattle.dependence_graph.specs.nest_graph.Instances.{AreTurns}
use Rattle.dependence_graph.specs.nest_graph.Touched.{Touches}
use Rattle.dependence_graph.specs.nest_graph.Pair.{IsCandidate, Pair, kind_between}
use Rattle.dependence_graph.specs.nest_graph.Paired.{refs_of}
use Rattle.dependence_graph.specs.nest_graph.References.{references_of, variables_round}
use Rattle.dependence_graph.specs.nest_graph.Ready.{IsElement, IsReady, IsReadyStatement}
use Rattle.dependence_graph.specs.nest_graph.Spans.{spans_of}
use Rattle.dependence_graph.specs.nest_graph.Tested.{AreReferences, Both, IsReferenceAt, common_of}
use Rattle.dependence_graph.specs.nest_graph.Vectors.{Allows, StandsFor}
use Rattle.dependence_graph.specs.nest_references.Occurrences.{AreOccurrences, IsOccurrence, IsOccurrenceOf}
use Rattle.dependence_graph.specs.declared.nest_references.occurrences.Occurrence.{Occurrence}
use Rattle.dependence_graph.proofs.loop_spans.TurnLaws.{spans_are, spans_length}
use Rattle.dependence_graph.specs.dep_graph.Joined.{IsTestable, AreCouplesAs, AreCouplesIn, AreCouplesOf, AreVectors, as_answer, as_verdict, blank_pairing, common_numbers, couple_of, dependence_of, pairings_with, ref_pair_of, row, table}
use Rattle.dependence_graph.proofs.dep_graph.Answering.{Tells, listed_of}
use Rattle.dependence_graph.proofs.dep_graph.Couples.{AreReadyStatements, are_beside, common_first, common_numbers_is, common_second, first_spans, kept_both, kept_rank, kept_ref_pair, pair_is, second_spans}
use Rattle.dependence_graph.proofs.dep_graph.Coupling.{exact_of, old_exact, old_refuted}
use Rattle.dependence_graph.proofs.dep_graph.Directions.{IsForward, at_place_is, covered_of, is_vector, listed, listed_length, listed_places, new_candidate, old_candidate, once_of, places_are, stands_of, zip_length}
use Rattle.dependence_graph.proofs.dep_graph.Joining.{kind_alike, names_alike}
use Rattle.dependence_graph.proofs.dep_graph.SameLoops.{in_at, in_front, in_rest, same_loops}
use Rattle.dependence_graph.proofs.dep_graph.Lists.{iteration_front, iteration_is, iterations_count, no_later, with_ones}
use Rattle.dependence_graph.proofs.dep_graph.Meetings.{AreInstances, AreKnown, instances_meet, meeting_instances}
use Rattle.dependence_graph.proofs.dep_graph.Pairings.{AreShallow, AreShort, are_short}
use Rattle.dependence_graph.proofs.dep_graph.Regions.{related_at, related_from}
use Rattle.dependence_graph.proofs.dep_graph.Wording.{drop_word_of, edge_word_of}

-- two references of a ready nest, and what was kept of them
pub record AreTwo (n : Nest) (s t : Standing) (r u : Reference) (a b : Occurrence) : Type 0 where
  pub first : IsReferenceAt n a.place s r
  pub second : IsReferenceAt n b.place t u
  pub first_kept : IsOccurrenceOf n.symbols s r a
  pub second_kept : IsOccurrenceOf n.symbols t u b
  pub ready : AreReadyStatements s t r u
  pub same_name : r.name ≡ u.name

same_some : {A : Type 0} (o : Option A) (x y : A) → o ≡ Some x → o ≡ Some y → x ≡ y
same_some o x y e f = let g : Some x ≡ Some y = sym e ∙ f in cc

module _ (n : Nest) (s t : Standing) (r u : Reference) (a b : Occurrence) (w : AreTwo n s t r u a b) where
  abbrev refs : RefPair
  refs = ref_pair_of a b

  known : AreKnown n.symbols s t r u (blank_pairing a b) a.spans b.spans a.forms b.forms
  known =
      let beside = are_beside n.symbols s t r u a b w.first_kept w.second_kept w.ready in
      let same = common_numbers_is n.symbols s t r u a b w.first_kept w.second_kept w.ready in
      let p = beside.common_first in let q = beside.common_second in
      record {
        first_trips = w.ready.first_trips;
        second_trips = w.ready.second_trips;
        first_spans = first_spans n.symbols s t r u a b w.first_kept w.second_kept w.ready;
        second_spans = second_spans n.symbols s t r u a b w.first_kept w.second_kept w.ready;
        first_depth = beside.first;
        second_depth = beside.second;
        first_elements = w.ready.first_elements;
        second_elements = w.ready.second_elements;
        first_forms = w.first_kept.forms;
        second_forms = w.second_kept.forms;
        same_rank = kept_rank n.symbols s t r u a b w.first_kept w.second_kept w.ready;
        same_name = w.same_name;
        unknown = refl;
        common_first = omega arith;
        common_second = omega arith;
      }

  -- ---- pairs of the nest

  abbrev b' : Both
  b' = kept_both n.symbols s t r u a b w.first_kept w.second_kept w.ready

  abbrev before : Bool
  before = nat_lt a.place.stmt b.place.stmt

  -- as the tests have both
  abbrev tested : RefPair
  tested = refs_of b' before

  are_tested : refs ≡ tested
  are_tested = pair_is n.symbols s t r u a b w.first_kept w.second_kept w.ready

  few : common_of s.loops t.loops ≤ 7
  few = let c = common_first s.loops t.loops in let d = w.ready.first_depth in omega arith

  common_is : common_numbers a.loops b.loops ≡ common_of s.loops t.loops
  common_is = common_numbers_is n.symbols s t r u a b w.first_kept w.second_kept w.ready

  turns_count : (values : ℕ → ℤ) (outer : List ℤ) (ls : List Loop) (x : List ℤ) → AreTurns values outer ls x → length x ≡ length ls
  turns_count values outer [] [] h = refl
  turns_count values outer [] (i ∷ x) h = absurd h
  turns_count values outer (l ∷ ls) [] h = absurd h
  turns_count values outer (l ∷ ls) (i ∷ x) h = ap suc (turns_count values (outer ++ i ∷ []) ls x h.1)

  pair_instances : (k : Dep) (as' : List Answer) (v : List Dir) (x y : List ℤ) → length v ≡ common_of s.loops t.loops
      → Pair n (candidate_of (couple_of a b k as') v) x y → AreInstances n.symbols s t r u (in_places v) x y
  pair_instances k as' v x y long h =
      let e : h.refs.first ≡ s = same_some (slice_get (nest_statements n) a.place.stmt) h.refs.first s h.refs.first_is.statement w.first.statement in
      let f : h.refs.second ≡ t = same_some (slice_get (nest_statements n) b.place.stmt) h.refs.second t h.refs.second_is.statement w.second.statement in
      let p : h.refs.first_reference ≡ r = same_some (slice_get (references_of s) a.place.at) h.refs.first_reference r
      (subst (λ (z : Standing). slice_get (references_of z) a.place.at ≡ Some h.refs.first_reference) e h.refs.first_is.reference) w.first.reference in
      let q : h.refs.second_reference ≡ u = same_some (slice_get (references_of t) b.place.at) h.refs.second_reference u
      (subst (λ (z : Standing). slice_get (references_of z) b.place.at ≡ Some h.refs.second_reference) f h.refs.second_is.reference) w.second.reference in
      let e1 : h.first_instance.standing ≡ s = same_some (slice_get (nest_statements n) a.place.stmt) h.first_instance.standing s h.first_instance.is_at w.first.statement in
      let f1 : h.second_instance.standing ≡ t = same_some (slice_get (nest_statements n) b.place.stmt) h.second_instance.standing t h.second_instance.is_at w.second.statement in
      let first_turns = subst (λ (z : Standing). AreTurns h.values [] z.loops x) e1 h.first_instance.turns in
      let second_turns = subst (λ (z : Standing). AreTurns h.values [] z.loops y) f1 h.second_instance.turns in
      let c = common_first s.loops t.loops in let d = common_second s.loops t.loops in
      let l = turns_count h.values [] s.loops x first_turns in let m = turns_count h.values [] t.loops y second_turns in
      record {
        values = h.values;
        cell = h.cell;
        first_turns = first_turns;
        second_turns = second_turns;
        related = λ j g.
            subst (λ (z : Dir). IsRelated z (at_place x j) (at_place y j)) (sym (at_place_is v j))
            (related_at v x y j (omega arith) (omega arith) (omega arith) h.related);
        first_touches = subst (λ (z : Reference). Touches (variables_round s) n.symbols h.values x z h.cell) p
            (subst (λ (z : Standing). Touches (variables_round z) n.symbols h.values x h.refs.first_reference h.cell) e h.first_touches);
        second_touches = subst (λ (z : Reference). Touches (variables_round t) n.symbols h.values y z h.cell) q
            (subst (λ (z : Standing). Touches (variables_round z) n.symbols h.values y h.refs.second_reference h.cell) f h.second_touches);
      }

  pub are_references : AreReferences n a.place b.place
  are_references = record {
    first = s;
    second = t;
    first_reference = r;
    second_reference = u;
    first_is = w.first;
    second_is = w.second;
    same_name = w.same_name;
  }

  instances_pair : (k : Dep) (as' : List Answer) (v : List Dir) (x y : List ℤ) → length v ≡ common_of s.loops t.loops
      → AreInstances n.symbols s t r u (in_places v) x y → Pair n (candidate_of (couple_of a b k as') v) x y
  unfolding are_references
  instances_pair k as' v x y long h = record {
    values = h.values;
    cell = h.cell;
    refs = are_references;
    first_instance = record { standing = s; is_at = w.first.statement; turns = h.first_turns };
    second_instance = record { standing = t; is_at = w.second.statement; turns = h.second_turns };
    related = related_from v x y
        (λ j l. subst (λ (z : Dir). IsRelated z (at_place x j) (at_place y j)) (at_place_is v j) (h.related j (omega arith)));
    first_touches = h.first_touches;
    second_touches = h.second_touches;
  }

  -- where they meet, by the iterations of a pair
  pair_meets : (k : Dep) (as' : List Answer) (v : List Dir) (x y : List ℤ) → length v ≡ common_of s.loops t.loops → Pair n (candidate_of (couple_of a b k as') v) x y
      → (length x ≡ length a.spans) × (length y ≡ length b.spans) × IsMeeting tested (in_places v) (with_ones x) (with_ones y)
  pair_meets k as' v x y long h =
      let m = instances_meet n.symbols s t r u (blank_pairing a b) a.spans b.spans a.forms b.forms (in_places v) x y known (pair_instances k as' v x y long h) in
      let here : IsMeeting refs (in_places v) (with_ones x) (with_ones y) = record {
        within = record { first = m.2.first; second = m.2.second; related = λ j l. m.2.related j (let c = common_is in omega arith) };
        values = m.2.values;
        equal = m.2.equal;
      } in
      (m.0, m.1, subst (λ (z : RefPair). IsMeeting z (in_places v) (with_ones x) (with_ones y)) are_tested here)

  all_known : IsExactClass refs → All (λ (p : Pairing). IsTrue p.known) (pairings_with (blank_pairing a b) a.forms b.forms)
  all_known e = λ i d l. known_of _ (e.subscripts i d l)
    where
      known_of : (p : Pairing) → IsZivOrSiv p → IsTrue p.known
      known_of p (inl z) = z.known
      known_of p (inr o) = o.1.known

  meets_pair : (k : Dep) (as' : List Answer) (v : List Dir) (i j : List ℤ) → length v ≡ common_of s.loops t.loops → IsExactClass tested → IsMeeting tested (in_places v) i j
      → Pair n (candidate_of (couple_of a b k as') v) (take (length a.spans) i) (take (length b.spans) j)
  meets_pair k as' v i j long exact meeting =
      let e : IsExactClass refs = subst IsExactClass (sym are_tested) exact in
      let h : IsMeeting refs (in_places v) i j = subst (λ (z : RefPair). IsMeeting z (in_places v) i j) (sym are_tested) meeting in
      instances_pair k as' v (take (length a.spans) i) (take (length b.spans) j) long
      (meeting_instances n.symbols s t r u (blank_pairing a b) a.spans b.spans a.forms b.forms (in_places v) i j known e.from_fixed e.to_fixed (all_known e) (record {
        first = h.within.first;
        second = h.within.second;
        related = λ m l. h.within.related m (let c = common_is in omega arith);
        values = h.values;
        equal = h.equal;
      }))

  -- ---- answers

  shallow : AreShallow b'
  shallow = record { first = w.ready.first_depth; second = w.ready.second_depth }

  short : (k : ℕ) (p : SubscriptPair) → slice_get (subscript_pairs b') k ≡ Some (Some p) → AreShort b' p
  short k p e = are_short b' r.subscripts u.subscripts k p e

  -- a vector that this one stands for has a direction for each common loop
  long_of : (d : Dirs) (v : List Dir) → IsVectorOf tested d → StandsFor (listed d) v → length v ≡ common_of s.loops t.loops
  long_of d v h g = sym (zip_length Allows (listed d) v g.allowed) ∙ listed_length tested few d h

  right_dropped : (k : Dep) (as' : List Answer) (d : Dirs) (x : Test) → IsVectorOf tested d → AreNever tested d x → AreDropped n (couple_of a b k as') b' (listed d) x
  right_dropped k as' d x h g = record {
    without_pair = λ v stands p.
        let m = pair_meets k as' v p.0 p.1.0 (long_of d v h stands) p.1.1 in
        g.never (in_places v) (covered_of tested few d v h stands) (with_ones p.0) (with_ones p.1.0) m.2;
    word = λ v stands. drop_word_of b' before shallow short v (long_of d v h stands) x (g.word (in_places v) (covered_of tested few d v h stands));
  }

  right_met : (k : Dep) (as' : List Answer) (d : Dirs) (x y : Point) (z : Test) → IsVectorOf tested d → DoMeetIn tested d x.at y.at → IsKeptWord tested.subs z
      → AreMet n (couple_of a b k as') b' (listed d) (take (length a.spans) x.at) (take (length b.spans) y.at) z
  right_met k as' d x y z h g kept =
      let old : IsMeeting refs g.vector x.at y.at = subst (λ (o : RefPair). IsMeeting o g.vector x.at y.at) (sym are_tested) g.meeting in
      let p = iteration_is a.spans x.at known.first_depth old.within.first in let q = iteration_is b.spans y.at known.second_depth old.within.second in
      let c = iterations_count a.spans _ (iteration_front a.spans x.at known.first_depth old.within.first) in
      let e = iterations_count b.spans _ (iteration_front b.spans y.at known.second_depth old.within.second) in
      let places = places_are tested few g.vector g.covered.vector in
      record {
        exact = exact_of b' before shallow g.exact;
        each = λ v stands.
            let m = g.each (in_places v) (covered_of tested few d v h stands) in
            (take (length a.spans) m.0, (take (length b.spans) m.1.0, meets_pair k as' v m.0 m.1.0 (long_of d v h stands) g.exact m.1.1));
        vector = listed g.vector;
        stands = stands_of tested few d g.vector h g.covered;
        pair = meets_pair k as' (listed g.vector) x.at y.at (listed_length tested few g.vector g.covered.vector) g.exact
            (subst (λ (f : Dirs). IsMeeting tested f x.at y.at) places g.meeting);
        least = λ v i j stands f.
            let m = pair_meets k as' v i j (long_of d v h stands) f in
            no_later (take (length a.spans) x.at) (take (length b.spans) y.at) i j (c ∙ sym m.0) (e ∙ sym m.1)
            (subst (λ (zs : List ℤ). IsNoLater (zs ++ with_ones (take (length b.spans) y.at)) (with_ones i ++ with_ones j)) p
            (subst (λ (zs : List ℤ). IsNoLater (x.at ++ zs) (with_ones i ++ with_ones j)) q
            (g.least (in_places v) (with_ones i) (with_ones j) (covered_of tested few d v h stands) m.2)));
        word = edge_word_of b' before shallow z kept;
      }

  right_assumed : (d : Dirs) (z : Test) → IsVectorOf tested d → AreOpen tested d → IsKeptWord tested.subs z → AreAssumed b' (listed d) z
  right_assumed d z h g kept = record {
    inexact = λ e. g.inexact (old_exact b' before shallow e);
    unrefuted = λ v stands f. g.unrefuted (in_places v) (covered_of tested few d v h stands) (old_refuted b' before shallow short v (long_of d v h stands) f);
    word = edge_word_of b' before shallow z kept;
  }

  right_one : (k : Dep) (as' : List Answer) (d : Dirs) (v : Verdict) → IsVectorOf tested d → OnNever tested d v → OnPair tested d v → OnAssumed tested d v → OnKept tested v
      → IsRightVerdict n (couple_of a b k as') b' (listed d) (as_verdict (length a.spans) (length b.spans) v)
  right_one k as' d (Never x) h never pair assumed kept = right_dropped k as' d x h never
  right_one k as' d (Met x y z) h never pair assumed kept = right_met k as' d x y z h pair kept
  right_one k as' d (Assumed z) h never pair assumed kept = right_assumed d z h assumed kept

  abbrev as_new : Answer → arcs.VectorVerdict
  as_new x = as_answer (length a.spans) (length b.spans) x

  turn_is : IsTrue before ↔ (a.place.stmt < b.place.stmt)
  turn_is = (ltb-true a.place.stmt b.place.stmt, lt-ltb a.place.stmt b.place.stmt)

  tells : Tells before a.place.stmt b.place.stmt
  tells = record { yes = ltb-true a.place.stmt b.place.stmt; no = lt-ltb a.place.stmt b.place.stmt }

  module _ (k : Dep) (as' : List Answer) (kind : kind_between a.place.at b.place.at ≡ Some k) (h : AreVectors tested as') where
    abbrev IsNewCandidate : List Dir → Type 0
    IsNewCandidate v = IsCandidate n (candidate_of (couple_of a b k as') v)

    candidate_by : (v : List Dir) → IsForward a.place.stmt b.place.stmt (common_of s.loops t.loops) v → IsNewCandidate v
    unfolding are_references
    candidate_by v f = record { refs = are_references; kind = kind; loops = f.loops; plain = f.plain; forward = f.forward }

    forward_by : (v : List Dir) → IsNewCandidate v → IsForward a.place.stmt b.place.stmt (common_of s.loops t.loops) v
    forward_by v c =
        let e : c.refs.first ≡ s = same_some (slice_get (nest_statements n) a.place.stmt) c.refs.first s c.refs.first_is.statement w.first.statement in
        let f : c.refs.second ≡ t = same_some (slice_get (nest_statements n) b.place.stmt) c.refs.second t c.refs.second_is.statement w.second.statement in
        record { loops = c.loops ∙ ap₂ (λ (x y : Standing). common_of x.loops y.loops) e f; plain = c.plain; forward = c.forward }

    alike : (v : List Dir) → IsForward a.place.stmt b.place.stmt (common_of s.loops t.loops) v → (xs : List Answer) → All (λ (x : Answer). IsVectorOf tested x.0) xs
        → Each (λ (x : Answer). (Covers tested x.0 (in_places v) → StandsFor (listed x.0) v) × (StandsFor (listed x.0) v → Covers tested x.0 (in_places v))) xs
    alike v f [] g = tt
    alike v f (x ∷ xs) g =
        let here = All-head (λ (y : Answer). IsVectorOf tested y.0) x xs g in (
          (
            (λ o. subst (StandsFor (listed x.0)) (listed_places v)
                (stands_of tested few x.0 (in_places v) here (record {
                  vector = is_vector tested few v f.loops;
                  plain = (old_candidate tested few a.place.stmt b.place.stmt turn_is v f).plain;
                  covers = o;
                }))),
            (λ o. (covered_of tested few x.0 v here o).covers),
          ),
          alike v f xs (All-tail (λ (y : Answer). IsVectorOf tested y.0) x xs g),
        )

    candidate_of_covered : (x : Answer) → IsVectorOf tested x.0 → CoversCandidates tested x → (v : List Dir) → StandsFor (listed x.0) v → IsNewCandidate v
    candidate_of_covered x g c v stands =
        candidate_by v
        (subst (IsForward a.place.stmt b.place.stmt (common_of s.loops t.loops)) (listed_places v)
        (new_candidate tested few a.place.stmt b.place.stmt turn_is (in_places v) (c (in_places v) (covered_of tested few x.0 v g stands))))

    couple_by : IsCouple n (couple_of a b k as')
    unfolding are_references
    couple_by = record {
      refs = are_references;
      kind = kind;
      array = w.first_kept.name;
      covered = λ v c.
          let f = forward_by v c in
          once_of as_new (λ (x : Answer). Covers tested x.0 (in_places v)) (λ (y : arcs.VectorVerdict). StandsFor y.0 v) as' (alike v f as' h.vectors)
          (h.covered (in_places v) (old_candidate tested few a.place.stmt b.place.stmt turn_is v f));
      candidates = All-map (λ (y : arcs.VectorVerdict). (v : List Dir) → StandsFor y.0 v → IsNewCandidate v) as_new as'
          (λ i d l. candidate_of_covered (get_or as' i d) (h.vectors i d l) (h.candidates i d l));
      merged = listed_of tested few (length a.spans) (length b.spans) a.place.stmt b.place.stmt before (common_of s.loops t.loops) 0 as' tells (omega arith) h.vectors h.merged;
      right = All-map (λ (y : arcs.VectorVerdict). IsRightVerdict n (couple_of a b k as') b' y.0 y.1) as_new as'
          (λ i d l. right_one k as' (get_or as' i d).0 (get_or as' i d).1 (h.vectors i d l) (h.never i d l) (h.pair i d l) (h.assumed i d l) (h.kept i d l));
    }

  pub is_couple : (k : Dep) (as' : List Answer) → kind_between a.place.at b.place.at ≡ Some k → AreVectors refs as' → IsCouple n (couple_of a b k as')
  is_couple k as' e v = couple_by k as' e (subst (λ (z : RefPair). AreVectors z as') are_tested v)

-- ---- references of a ready nest

all_at : {A : Type 0} (P : A → Type 0) (xs : List A) (i : ℕ) (x : A) → All P xs → slice_get xs i ≡ Some x → P x
all_at P xs i x h e = subst P (get_or_from_slice_get xs i x x e) (h i x (slice_get_within xs i x e))

are_two : (n : Nest) (a b : Occurrence) → IsReady n → (h : IsOccurrence n a) → (k : IsOccurrence n b) → a.name ≡ b.name
    → AreTwo n h.standing k.standing h.reference k.reference a b
are_two n a b w h k e =
    let s = all_at IsReadyStatement (nest_statements n) a.place.stmt h.standing w.statements h.is_reference.statement in
    let t = all_at IsReadyStatement (nest_statements n) b.place.stmt k.standing w.statements k.is_reference.statement in
    let r = all_at IsElement (references_of h.standing) a.place.at h.reference s.references h.is_reference.reference in
    let u = all_at IsElement (references_of k.standing) b.place.at k.reference t.references k.is_reference.reference in
    let names : h.reference.name ≡ k.reference.name = sym h.kept.name ∙ e ∙ k.kept.name in
    record {
      first = h.is_reference;
      second = k.is_reference;
      first_kept = h.kept;
      second_kept = k.kept;
      ready = record {
        first_depth = s.depth;
        second_depth = t.depth;
        first_trips = s.trips;
        second_trips = t.trips;
        first_elements = r.elements;
        second_elements = u.elements;
        dimensions = r.dimensions;
        ranks = w.ranks a.place b.place h.standing k.standing h.reference k.reference h.is_reference k.is_reference names;
        same_loops = same_loops n h.standing k.standing w.loops (in_at (nest_statements n) a.place.stmt h.standing h.is_reference.statement)
            (in_at (nest_statements n) b.place.stmt k.standing k.is_reference.statement);
      };
      same_name = names;
    }

same_names : (a b : Occurrence) → bytes_eq a.name b.name ≡ true → a.name ≡ b.name
same_names a b h = (bytes_eq-Decides a.name b.name).0 h

spans_count : (n : Nest) (a : Occurrence) → IsReady n → (h : IsOccurrence n a) → length a.spans ≡ length h.standing.loops
spans_count n a w h =
    let s = all_at IsReadyStatement (nest_statements n) a.place.stmt h.standing w.statements h.is_reference.statement in
    ap length h.kept.spans ∙ spans_length [] h.standing.loops (spans_of [] h.standing.loops) (spans_are 0 [] h.standing.loops s.trips)

pub is_testable : (n : Nest) (a b : Occurrence) → IsReady n → IsOccurrence n a → IsOccurrence n b → IsTestable a b
is_testable n a b w h k = record {
  depth = ap length h.kept.loops ∙ length-map h.standing.loops (λ (l : Loop). l.number) ∙ sym (spans_count n a w h);
  refs = λ e. let t = are_two n a b w h k (same_names a b e) in kept_ref_pair n.symbols h.standing k.standing h.reference k.reference a b h.kept k.kept t.ready;
}

pub all_testable : (n : Nest) (os : List Occurrence) → IsReady n → AreOccurrences n os → All (λ (a : Occurrence). All (IsTestable a) os) os
all_testable n os w h = λ i d l j e m. is_testable n (get_or os i d) (get_or os j e) w (h.each i d l) (h.each j e m)

-- ---- all couples

-- what is in a list of pairs
couples_right : (n : Nest) (a b : Occurrence) (o : Option Dep) (cs : List Couple) → IsReady n → IsOccurrence n a → IsOccurrence n b → dependence_of a b ≡ o → AreCouplesAs o a b cs
    → All (IsCouple n) cs
couples_right n a b None cs w h k e c = subst (λ (ds : List Couple). All (IsCouple n) ds) (sym c) (All-nil (IsCouple n))
couples_right n a b (Some d) cs w h k e c =
    let t = are_two n a b w h k (same_names a b (names_alike a b d (sym e))) in
    subst (λ (ds : List Couple). All (IsCouple n) ds) (sym c.1)
    (All-cons (IsCouple n) (couple_of a b d c.0) []
    (is_couple n h.standing k.standing h.reference k.reference a b t d c.0 (kind_alike a b d (sym e)) c.2)
    (All-nil (IsCouple n)))

abbrev BothKept : Nest → Occurrence × Occurrence → Type 0
BothKept n p = IsOccurrence n p.0 × IsOccurrence n p.1

all_right : (n : Nest) (ps : List (Occurrence × Occurrence)) (cs : List Couple) → IsReady n → Each (BothKept n) ps → AreCouplesIn ps cs → All (IsCouple n) cs
all_right n [] cs w h c = subst (λ (ds : List Couple). All (IsCouple n) ds) (sym c) (All-nil (IsCouple n))
all_right n (p ∷ ps) cs w h c =
    subst (λ (ds : List Couple). All (IsCouple n) ds) (sym c.2)
    (All-append (IsCouple n) c.0 c.1 (couples_right n p.0 p.1 (dependence_of p.0 p.1) c.0 w h.0.0 h.0.1 refl c.3) (all_right n ps c.1 w h.1 c.4))

each_all : {A : Type 0} (P : A → Type 0) (xs : List A) → All P xs → Each P xs
each_all P [] h = tt
each_all P (x ∷ xs) h = (All-head P x xs h, each_all P xs (All-tail P x xs h))

each-append : {A : Type 0} (P : A → Type 0) (xs ys : List A) → Each P xs → Each P ys → Each P (xs ++ ys)
each-append P [] ys h k = k
each-append P (x ∷ xs) ys h k = (h.0, each-append P xs ys h.1 k)

each-map : {A B : Type 0} (P : A → Type 0) (Q : B → Type 0) (f : A → B) (xs : List A) → ((x : A) → P x → Q (f x)) → Each P xs → Each Q (map f xs)
each-map P Q f [] g h = tt
each-map P Q f (x ∷ xs) g h = (g x h.0, each-map P Q f xs g h.1)

each_row : (P : Occurrence × Occurrence → Type 0) (A B : Occurrence → Type 0) (as' bs : List Occurrence) → ((a b : Occurrence) → A a → B b → P (a, b)) → Each A as' → Each B bs
    → Each P (table as' bs)
each_row P A B [] bs f h k = tt
each_row P A B (a ∷ as') bs f h k =
    each-append P (row a bs) (table as' bs) (each-map B P (λ (b : Occurrence). (a, b)) bs (λ b g. f a b h.0 g) k) (each_row P A B as' bs f h.1 k)

-- ---- in order

abbrev IsEarlierPair : Occurrence × Occurrence → Occurrence × Occurrence → Type 0
IsEarlierPair p q = IsEarlierPlace p.0.place q.0.place ⊎ ((p.0.place ≡ q.0.place) × IsEarlierPlace p.1.place q.1.place)

each_from_map : (R : Place → Type 0) (os : List Occurrence) → Each R (map (λ (o : Occurrence). o.place) os) → Each (λ (o : Occurrence). R o.place) os
each_from_map R [] h = tt
each_from_map R (o ∷ os) h = (h.0, each_from_map R os h.1)

row_order : (a : Occurrence) (bs : List Occurrence) → Pairwise IsEarlierPlace (map (λ (o : Occurrence). o.place) bs) → Pairwise IsEarlierPair (row a bs)
row_order a [] h = tt
row_order a (b ∷ bs) h = (
  each-map (λ (c : Occurrence). IsEarlierPlace b.place c.place) (IsEarlierPair (a, b)) (λ (c : Occurrence). (a, c)) bs (λ c g. inr (refl, g)) (each_from_map (IsEarlierPlace b.place) bs h.0),
  row_order a bs h.1,
)

pairwise-append : (ps qs : List (Occurrence × Occurrence)) → Pairwise IsEarlierPair ps → Pairwise IsEarlierPair qs → Each (λ p. Each (IsEarlierPair p) qs) ps → Pairwise IsEarlierPair (ps ++ qs)
pairwise-append [] qs h k l = k
pairwise-append (p ∷ ps) qs h k l = (each-append (IsEarlierPair p) ps qs h.0 l.0, pairwise-append ps qs h.1 k l.1)

each_any : {A : Type 0} (P : A → Type 0) (xs : List A) → ((x : A) → P x) → Each P xs
each_any P [] f = tt
each_any P (x ∷ xs) f = (f x, each_any P xs f)

table_order : (as' bs : List Occurrence) → Pairwise IsEarlierPlace (map (λ (o : Occurrence). o.place) as') → Pairwise IsEarlierPlace (map (λ (o : Occurrence). o.place) bs)
    → Pairwise IsEarlierPair (table as' bs)
table_order [] bs h k = tt
table_order (a ∷ as') bs h k =
    pairwise-append (row a bs) (table as' bs) (row_order a bs k) (table_order as' bs h.1 k)
    (each-map (λ (b : Occurrence). Unit {0}) (λ p. Each (IsEarlierPair p) (table as' bs)) (λ (b : Occurrence). (a, b)) bs
    (λ b u. each_row (IsEarlierPair (a, b)) (λ (c : Occurrence). IsEarlierPlace a.place c.place) (λ (c : Occurrence). Unit {0}) as' bs (λ c d g i. inl g)
    (each_from_map (IsEarlierPlace a.place) as' h.0) (each_any (λ (c : Occurrence). Unit {0}) bs (λ c. tt)))
    (each_any (λ (c : Occurrence). Unit {0}) bs (λ c. tt)))

-- the couples of pairs have their places
each_couple : (R : Place → Place → Type 0) (a b : Occurrence) (o : Option Dep) (cs : List Couple) → R a.place b.place → AreCouplesAs o a b cs → Each (λ (c : Couple). R c.from c.to) cs
each_couple R a b None cs r h = subst (λ (ds : List Couple). Each (λ (c : Couple). R c.from c.to) ds) (sym h) tt
each_couple R a b (Some k) cs r h = subst (λ (ds : List Couple). Each (λ (c : Couple). R c.from c.to) ds) (sym h.1) (r, tt)

each_couples : (R : Place → Place → Type 0) (ps : List (Occurrence × Occurrence)) (cs : List Couple) → Each (λ (p : Occurrence × Occurrence). R p.0.place p.1.place) ps → AreCouplesIn ps cs
    → Each (λ (c : Couple). R c.from c.to) cs
each_couples R [] cs h c = subst (λ (ds : List Couple). Each (λ (c : Couple). R c.from c.to) ds) (sym c) tt
each_couples R (p ∷ ps) cs h c =
    subst (λ (ds : List Couple). Each (λ (c : Couple). R c.from c.to) ds) (sym c.2)
    (each-append (λ (c : Couple). R c.from c.to) c.0 c.1 (each_couple R p.0 p.1 (dependence_of p.0 p.1) c.0 h.0 c.3) (each_couples R ps c.1 h.1 c.4))

abbrev IsEarlierPlaces : Place → Place → Place → Place → Type 0
IsEarlierPlaces p q r s = IsEarlierPlace p r ⊎ ((p ≡ r) × IsEarlierPlace q s)

first_order : (a b : Occurrence) (o : Option Dep) (cs ds : List Couple) → AreCouplesAs o a b cs → Each (λ (d : Couple). IsEarlierPlaces a.place b.place d.from d.to) ds
    → Pairwise IsEarlierCouple ds → Pairwise IsEarlierCouple (cs ++ ds)
first_order a b None cs ds h e k = subst (λ (es : List Couple). Pairwise IsEarlierCouple (es ++ ds)) (sym h) k
first_order a b (Some d) cs ds h e k = subst (λ (es : List Couple). Pairwise IsEarlierCouple (es ++ ds)) (sym h.1) (e, k)

couples_order : (ps : List (Occurrence × Occurrence)) (cs : List Couple) → Pairwise IsEarlierPair ps → AreCouplesIn ps cs → Pairwise IsEarlierCouple cs
couples_order [] cs h c = subst (λ (ds : List Couple). Pairwise IsEarlierCouple ds) (sym c) tt
couples_order (p ∷ ps) cs h c =
    subst (λ (ds : List Couple). Pairwise IsEarlierCouple ds) (sym c.2)
    (first_order p.0 p.1 (dependence_of p.0 p.1) c.0 c.1 c.3 (each_couples (IsEarlierPlaces p.0.place p.1.place) ps c.1 h.0 c.4) (couples_order ps c.1 h.1 c.4))

-- ---- every couple

-- one of the list has this place
pub record HasPlace (os : List Occurrence) (p : Place) : Type 0 where
  pub occurrence : Occurrence
  pub among : IsMember occurrence os
  pub is : occurrence.place ≡ p

has_place : (os : List Occurrence) (p : Place) → IsMember p (map (λ (o : Occurrence). o.place) os) → HasPlace os p
has_place [] p h = absurd h
has_place (o ∷ os) p h =
    elim h [
      | inl e ↦ record { occurrence = o; among = inl refl; is = sym e }
      | inr r ↦ let q = has_place os p r in record { occurrence = q.occurrence; among = inr q.among; is = q.is }
    ]

in_row : (a b : Occurrence) (bs : List Occurrence) → IsMember b bs → IsMember (a, b) (row a bs)
in_row a b [] h = absurd h
in_row a b (c ∷ bs) h = elim h [ inl e ↦ inl (ap (λ (o : Occurrence). (a, o)) e) | inr r ↦ inr (in_row a b bs r) ]

in_table : (a b : Occurrence) (as' bs : List Occurrence) → IsMember a as' → IsMember b bs → IsMember (a, b) (table as' bs)
in_table a b [] bs h k = absurd h
in_table a b (c ∷ as') bs h k =
    elim h [
      | inl e ↦ in_front (a, b) (row c bs) (table as' bs) (subst (λ (o : Occurrence). IsMember (a, b) (row o bs)) e (in_row a b bs k))
      | inr r ↦ in_rest (a, b) (row c bs) (table as' bs) (in_table a b as' bs r k)
    ]

at_front : {A : Type 0} (xs ys : List A) (i : ℕ) (x : A) → slice_get xs i ≡ Some x → slice_get (xs ++ ys) i ≡ Some x
at_front [] ys i x e = cc
at_front (z ∷ xs) ys zero x e = e
at_front (z ∷ xs) ys (suc i) x e = at_front xs ys i x e

at_rest : {A : Type 0} (xs ys : List A) (i : ℕ) (x : A) → slice_get ys i ≡ Some x → slice_get (xs ++ ys) (length xs + i) ≡ Some x
at_rest [] ys i x e = let f : 0 + i ≡ i = omega arith in ap (λ m. slice_get ys m) f ∙ e
at_rest (z ∷ xs) ys i x e = let f : suc (length xs) + i ≡ suc (length xs + i) = omega arith in ap (λ m. slice_get (z ∷ (xs ++ ys)) m) f ∙ at_rest xs ys i x e

among_front : (cs ds : List Couple) (p q : Place) → IsAmong cs p q → IsAmong (cs ++ ds) p q
among_front cs ds p q h = record { at = h.at; couple = h.couple; is_at = at_front cs ds h.at h.couple h.is_at; from_is = h.from_is; to_is = h.to_is }

among_rest : (cs ds : List Couple) (p q : Place) → IsAmong ds p q → IsAmong (cs ++ ds) p q
among_rest cs ds p q h = record { at = length cs + h.at; couple = h.couple; is_at = at_rest cs ds h.at h.couple h.is_at; from_is = h.from_is; to_is = h.to_is }

among_one : (a b : Occurrence) (o : Option Dep) (k : Dep) (cs : List Couple) → o ≡ Some k → AreCouplesAs o a b cs → IsAmong cs a.place b.place
among_one a b None k cs e h = cc
among_one a b (Some d) k cs e h =
    subst (λ (ds : List Couple). IsAmong ds a.place b.place) (sym h.1) (record { at = 0; couple = couple_of a b d h.0; is_at = refl; from_is = refl; to_is = refl })

among_all : (ps : List (Occurrence × Occurrence)) (cs : List Couple) (a b : Occurrence) (k : Dep) → IsMember (a, b) ps → dependence_of a b ≡ Some k → AreCouplesIn ps cs → IsAmong cs a.place b.place
among_all [] cs a b k h e c = absurd h
among_all (p ∷ ps) cs a b k h e c =
    subst (λ (ds : List Couple). IsAmong ds a.place b.place) (sym c.2)
    (elim h [
      | inl f ↦ among_front c.0 c.1 a.place b.place (among_one a b (dependence_of a b) k c.0 e (subst (λ (z : Occurrence × Occurrence). AreCouplesOf z.0 z.1 c.0) (sym f) c.3))
      | inr r ↦ among_rest c.0 c.1 a.place b.place (among_all ps c.1 a b k r e c.4)
    ])

some_kind : (p q : ℕ) → (p ≡ 0) ⊎ (q ≡ 0) → (k : Dep) × (kind_between p q ≡ Some k)
some_kind zero zero h = (Output, refl)
some_kind zero (suc q) h = (Flow, refl)
some_kind (suc p) zero h = (Anti, refl)
some_kind (suc p) (suc q) h = elim h [ inl e ↦ absurd (omega arith) | inr e ↦ absurd (omega arith) ]

in_each : {A : Type 0} (P : A → Type 0) (xs : List A) (x : A) → Each P xs → IsMember x xs → P x
in_each P [] x h i = absurd i
in_each P (y ∷ xs) x h i = elim i [ inl e ↦ subst P (sym e) h.0 | inr r ↦ in_each P xs x h.1 r ]

every_couple : (n : Nest) (os : List Occurrence) (cs : List Couple) (from to : Place) → AreOccurrences n os → AreCouplesIn (table os os) cs → AreDependent n from to → IsAmong cs from to
every_couple n os cs from to h c d =
    let x = has_place os from (h.every from d.refs.first d.refs.first_reference d.refs.first_is) in
    let y = has_place os to (h.every to d.refs.second d.refs.second_reference d.refs.second_is) in
    let a = x.occurrence in let b = y.occurrence in
    let o = in_each (IsOccurrence n) os a (each_all (IsOccurrence n) os h.each) x.among in
    let q = in_each (IsOccurrence n) os b (each_all (IsOccurrence n) os h.each) y.among in
    let s : o.standing ≡ d.refs.first = same_some (slice_get (nest_statements n) a.place.stmt) o.standing d.refs.first o.is_reference.statement
    (ap (λ (p : Place). slice_get (nest_statements n) p.stmt) x.is ∙ d.refs.first_is.statement) in
    let t : q.standing ≡ d.refs.second = same_some (slice_get (nest_statements n) b.place.stmt) q.standing d.refs.second q.is_reference.statement
    (ap (λ (p : Place). slice_get (nest_statements n) p.stmt) y.is ∙ d.refs.second_is.statement) in
    let r : o.reference ≡ d.refs.first_reference = same_some (slice_get (references_of o.standing) a.place.at) o.reference d.refs.first_reference o.is_reference.reference
    (ap₂ (λ (z : Standing) (p : Place). slice_get (references_of z) p.at) s x.is ∙ d.refs.first_is.reference) in
    let u : q.reference ≡ d.refs.second_reference = same_some (slice_get (references_of q.standing) b.place.at) q.reference d.refs.second_reference q.is_reference.reference
    (ap₂ (λ (z : Standing) (p : Place). slice_get (references_of z) p.at) t y.is ∙ d.refs.second_is.reference) in
    let names : a.name ≡ b.name = o.kept.name ∙ ap (λ (z : Reference). z.name) r ∙ d.refs.same_name ∙ sym (ap (λ (z : Reference). z.name) u) ∙ sym q.kept.name in
    let written : (a.place.at ≡ 0) ⊎ (b.place.at ≡ 0) =
    elim d.one_written [ inl e ↦ inl (ap (λ (p : Place). p.at) x.is ∙ e) | inr e ↦ inr (ap (λ (p : Place). p.at) y.is ∙ e) ] in
    let k = some_kind a.place.at b.place.at written in
    let kind : dependence_of a b ≡ Some k.0 = ap (λ t. cond t (kind_between a.place.at b.place.at) None) ((bytes_eq-Decides a.name b.name).1 names) ∙ k.1 in
    subst (λ (p : Place). IsAmong cs p to) x.is
    (subst (λ (p : Place). IsAmong cs a.place p) y.is (among_all (table os os) cs a b k.0 (in_table a b os os x.among y.among) kind c))

-- ---- the graph

pub is_graph : (n : Nest) (g : Graph) (os : List Occurrence) (cs : List Couple) → IsReady n → AreOccurrences n os → AreCouplesIn (table os os) cs → g.stmts ≡ length (nest_statements n)
    → g.edges ≡ all_edges cs → g.dropped ≡ all_drops cs → IsGraphOf n g
is_graph n g os cs w h c s e d = record {
  statements = s;
  couples = cs;
  each = all_right n (table os os) cs w
      (each_row (BothKept n) (IsOccurrence n) (IsOccurrence n) os os (λ a b p q. (p, q)) (each_all (IsOccurrence n) os h.each) (each_all (IsOccurrence n) os h.each)) c;
  every = λ from to p. every_couple n os cs from to h c p;
  in_order = couples_order (table os os) cs (table_order os os h.in_order h.in_order) c;
  edges = e;
  dropped = d;
}
