-- The iterations of a pair that an edge shows are small.
use Rattle.std.proofs.Common.{◌≡◌, sym, ap, ◌∙◌, subst, ℕ, suc, ◌≤◌, ◌^◌, true, List, [], ◌∷◌, ◌++◌}
use Rattle.std.proofs.Common.{length, replicate, take, refl, Option, Some, None, arith}
use Rattle.std.proofs.lemmas.Int.{ints}
use Rattle.std.proofs.lemmas.List.Elements.{All-head, All-tail}
use Rattle.std.proofs.lemmas.Option.{slice_get_within, get_or_from_slice_get}
use Rattle.std.specs.List.{AllByRecursion}
use Rattle.std.specs.Prelude.{ℤ, pos, negsuc, ◌≤ℤ◌, int_div, nat_abs, unsigned_abs, All, IsSomeAnd, IfSome, IsTrue}
use Rattle.std.specs.Prelude.{slice_get}
use Rattle.find_nests.proofs.BoundLimits.LimitLaws.{abs-quotient}
use Rattle.listing.specs.graphs.Listing.{depth_of}
use Rattle.listing_laws.specs.reader.Listable.{IsSmallInteger}
use Rattle.dependence_graph.specs.loop_spans.Greatest.{AreSpansOf, IsSpanOf}
use Rattle.dependence_graph.proofs.loop_spans.SpanLaws.{fixed_is_constant}
use Rattle.dependence_graph.proofs.loop_spans.TurnLaws.{turns_within, spans_are, spans_length}
use Rattle.dependence_graph.specs.nest_graph.Instances.{IsInstance, AreTurns}
use Rattle.dependence_graph.specs.nest_graph.Ready.{IsReady, IsReadyStatement, HaveTrips, IsTripIn}
use Rattle.dependence_graph.specs.nest_graph.Spans.{spans_of}
use Rattle.dependence_graph.specs.nest_graph.Trips.{HasConstantTrip}
use Rattle.dependence_graph.proofs.dep_graph.Lasts.{all_fixed}
use Rattle.dependence_graph.proofs.dep_graph.Lists.{iterations_count}
use Rattle.nest.specs.Bodies.{Standing, nest_statements}
use Rattle.nest.specs.Plain.{Loop, Nest}
use Rattle.nest.specs.declared.parts.Trip.{Trip}
use Rattle.subscripts.specs.Forms.{WithinSpans}
use Rattle.subscripts.specs.Iterations.{WithinSpan}
use Rattle.subscripts.specs.declared.affine.Span.{Span}

-- ---- one loop

quotient_small : (z b : ℤ) → pos 1 ≤ℤ b → unsigned_abs z ≤ 2 ^ 40 → nat_abs (int_div z b) ≤ 2 ^ 40
quotient_small z (pos n) h k = let q = abs-quotient z n in omega (arith, q, k)
quotient_small z (negsuc n) h k = absurd (omega (arith, ints))

between : (i q : ℤ) → pos 1 ≤ℤ i → i ≤ℤ q → nat_abs q ≤ 2 ^ 40 → IsSmallInteger i
between (pos n) (pos k) h l m = omega (arith, ints)
between (pos n) (negsuc k) h l m = absurd (omega (arith, ints))
between (negsuc n) q h l m = absurd (omega (arith, ints))

one_small : (d : ℕ) (outer : List Span) (o : Option Trip) (s : Span) (i : ℤ) → IsSomeAnd o (IsTripIn d)
    → IsSpanOf outer o s → s.fixed ≡ true → WithinSpan s i
    → IsSmallInteger i
one_small d outer None s i p h f w = absurd h
one_small d outer (Some t) s i p h f w =
    let c = fixed_is_constant outer t s p.positive h f in
    let high : i ≤ℤ int_div t.top.constant t.by =
    subst (λ (r : Span). IfSome r.last (λ (n : ℤ). i ≤ℤ n)) (h.constant c) w.high in
    between i (int_div t.top.constant t.by) w.low high
    (quotient_small t.top.constant t.by p.positive p.top.small_constant)

-- ---- the loops round a statement

take_front : (xs ys : List ℤ) → take (length xs) (xs ++ ys) ≡ xs
take_front [] ys = refl
take_front (x ∷ xs) ys = ap (λ (zs : List ℤ). x ∷ zs) (take_front xs ys)

each_small : (d : ℕ) (outer : List Span) (ls : List Loop) (ss : List Span) (x : List ℤ) → HaveTrips d ls
    → AreSpansOf outer ls ss
    → All (λ (s : Span). IsTrue s.fixed) ss → WithinSpans ss x → AllByRecursion IsSmallInteger x
each_small d outer [] [] [] p h f w = tt
each_small d outer [] [] (i ∷ x) p h f w = absurd w
each_small d outer [] (s ∷ ss) x p h f w = absurd h
each_small d outer (l ∷ ls) [] x p h f w = absurd h
each_small d outer (l ∷ ls) (s ∷ ss) [] p h f w = absurd w
each_small d outer (l ∷ ls) (s ∷ ss) (i ∷ x) p h f w = (
  one_small d outer l.trip s i p.0 h.0 (All-head (λ (r : Span). IsTrue r.fixed) s ss f) w.0,
  each_small (suc d) (outer ++ s ∷ []) ls ss x p.1 h.1 (All-tail (λ (r : Span). IsTrue r.fixed) s ss f) w.1,
)

module _ (m : Nest) (ready : IsReady m) where
  abbrev ts : List Standing
  ts = nest_statements m

  pub ready_at : (k : ℕ) (s : Standing) → slice_get ts k ≡ Some s → IsReadyStatement s
  ready_at k s e = subst IsReadyStatement (get_or_from_slice_get ts k s s e)
      (ready.statements k s (slice_get_within ts k s e))

  depth_is : (k : ℕ) (s : Standing) → slice_get ts k ≡ Some s → depth_of ts k ≡ length s.loops
  depth_is k s e = ap (λ (o : Option Standing). elim o as (λ _. ℕ) [ Some t ↦ length t.loops | None ↦ 0 ]) e

  -- the iterations of the loops round a statement in an instance of it, where all of them have constant trips
  instance_small : (values : ℕ → ℤ) (k : ℕ) (s : Standing) (x : List ℤ) → slice_get ts k ≡ Some s → All HasConstantTrip s.loops
      → IsInstance m values k x → (length x ≡ length s.loops) × AllByRecursion IsSmallInteger x
  instance_small values k s x e f i =
      let here = ready_at k s e in
      let one : Some i.standing ≡ Some s = sym i.is_at ∙ e in
      let same : i.standing ≡ s = cc in
      let turns : AreTurns values [] s.loops x = subst (λ (t : Standing). AreTurns values [] t.loops x) same i.turns in
      let ss = spans_of [] s.loops in
      let h : AreSpansOf [] s.loops ss = spans_are 0 [] s.loops here.trips in
      let w = turns_within 0 values [] [] s.loops ss x here.trips h tt turns in
      (iterations_count ss x w ∙ spans_length [] s.loops ss h, each_small 0 [] s.loops ss x here.trips h (all_fixed [] s.loops f) w)

  -- as the listing shows them
  pub shown_small : (values : ℕ → ℤ) (k : ℕ) (s : Standing) (x : List ℤ) (more : ℕ) → slice_get ts k ≡ Some s → All HasConstantTrip s.loops
      → IsInstance m values k x → AllByRecursion IsSmallInteger (take (depth_of ts k) (x ++ replicate more (pos 1)))
  shown_small values k s x more e f i =
      let small = instance_small values k s x e f i in
      let deep : length x ≡ depth_of ts k = small.0 ∙ sym (depth_is k s e) in
      subst (λ (n : ℕ). AllByRecursion IsSmallInteger (take n (x ++ replicate more (pos 1)))) deep
      (subst (AllByRecursion IsSmallInteger) (sym (take_front x (replicate more (pos 1)))) small.1)
