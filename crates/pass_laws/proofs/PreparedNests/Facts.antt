-- Facts of prepared nests in their settings.
use Rattle.std.proofs.Common.{◌≡◌, ◌⊎◌, inl, inr, refl, sym, ap, ◌∙◌, subst, ℕ, ◌≤◌, ◌^◌, ℤ, pos, negsuc, Bool}
use Rattle.std.proofs.Common.{true, false, cond, List, [], ◌∷◌, map, length, Option, Some, None, Contains, arith}
use Rattle.std.specs.Option.{IsSomeAnd, IfSome}
use Rattle.std.specs.Prelude.{nat_abs, nat_le}
use Rattle.std.proofs.lemmas.Bool.{leb-true}
use Rattle.std.proofs.lemmas.List.{length-map}
use Rattle.components.specs.Lists as lists
use Rattle.dependence_graph.specs.nest_graph.Instances.{turns_at}
use Rattle.emission.specs.graph_orders.Nests.{run_nest, turns_of_loop, turns_of_trip}
use Rattle.last_values.specs.normal_forms.NormalLoops.{counter_name}
use Rattle.last_values.specs.normal_forms.Texts.{trip_text}
use Rattle.linear_forms.specs.CanonicalLaws.{AreDistinct}
use Rattle.meaning.specs.Holding.{HasBounds}
use Rattle.meaning.specs.Reads.{names_in}
use Rattle.meaning.specs.Typed.{declared, rank_of_extent}
use Rattle.meaning.specs.Typed90.{HasKind, IsScalar, SuitsDimensions}
use Rattle.meaning.specs.Value.{named}
use Rattle.nest.specs.Bodies.{Standing, nest_loops, nest_statements}
use Rattle.nest.specs.Plain.{Loop, Made, Nest}
use Rattle.nest.specs.declared.parts.Trip.{Trip}
use Rattle.nest_order.proofs.orders.Membership.{In-map}
use Rattle.nest_order.proofs.shapes.Shapes.{shape_is_nest}
use Rattle.nest_order.specs.facts.Facts.{HasFacts, HasTrip, counted, places_of}
use Rattle.nest_order.specs.orders.Lists.{Distinct, In}
use Rattle.nest_order.specs.orders.Shapes.{loops_of_shape, statements}
use Rattle.nest_order.specs.runs.Guarded as guarded
use Rattle.nest_order.specs.runs.Guarded.{names_of}
use Rattle.nest_order.specs.runs.Nests.{LoopStands, RunNest as Nest'}
use Rattle.nest_order.specs.runs.Stores.{IsNestText, Setting}
use Rattle.nest_order.specs.runs.Touched.{IsPlainAssignment, nth_of}
use Rattle.nest_order.specs.shapes.Shapes.{guarded_of, loop_numbered, loops_round, numbers_of, shape_of, trip_of_loop, variable_of_loop}
use Rattle.pass_laws.proofs.NormalFacts.LoopWalk as walk
use Rattle.pass_laws.proofs.NormalFacts.MadeStatements.{counter_long, counter_same}
use Rattle.pass_laws.proofs.NormalFacts.Tables.{all_in, each_asked, each_from, loop_at, loop_there, loops_are, numbered}
use Rattle.pass_laws.proofs.NormalFacts.Tables.{round_once, statement_there}
use Rattle.pass_laws.proofs.NormalFacts.Trips.{IsTripOf}
use Rattle.pass_laws.specs.normal_facts.Laws.{IsCounter}
use Rattle.tree.specs.Names.{IsSourceName}
use Rattle.tree.specs.Plain.{Declaration, Expression, Reference}
use Rattle.tree.specs.declared.ops.Kind.{Kind}
use Rattle.tree.specs.declared.ops.Kind.TheVariants.{Integer}
use Rattle.pass_laws.specs.prepared_nests.Laws.{PreparedNestHasFacts}
use Rattle.pass_laws.specs.prepared_nests.Loops.{IsPreparedLoop, IsPreparedTrip, variables_of_loops}
use Rattle.pass_laws.specs.prepared_nests.Made.{IsPreparedMade}
use Rattle.pass_laws.specs.prepared_nests.Nests.{IsPrepared, IsPreparedSymbol}
use Rattle.pass_laws.specs.prepared_nests.Statements.{IsPreparedStatement, IsOwn, assignment, made_names}
use Rattle.pass_laws.proofs.PreparedNests.Lists.{Contains-In, In-Contains, below_32, distinct_too, ordered_distinct, some_of, within_32}
use Rattle.pass_laws.proofs.PreparedNests.Trips.{BearsNumber, bears_number, names_of_trip, number_of_trip}
use Rattle.pass_laws.proofs.PreparedNests.Walks.{AreOnce, walked}

-- ---- turns

counted_small : (z : ℤ) → counted z ≤ 2147483646
counted_small (pos k) = by (nat_le k 2147483646) refl
  where
    by : (b : Bool) → nat_le k 2147483646 ≡ b → cond b k 0 ≤ 2147483646
    by true e = leb-true k 2147483646 e
    by false e = omega arith
counted_small (negsuc k) = omega arith

turns_small : (o : Option Loop) (v : ℕ → ℤ) (before : List ℕ) → turns_of_loop o v before ≤ 2147483646
turns_small None v before = omega arith
turns_small (Some l) v before = by l.trip
  where
    by : (t : Option Trip) → turns_of_trip t v before ≤ 2147483646
    by None = omega arith
    by (Some t) = counted_small (turns_at t v (map pos before))

-- ---- declarations and bounds

pub scalar_bounds : (o : Option Declaration) (b : Option (List (ℤ × ℤ))) → IsSomeAnd o IsCounter → IfSome o (λ (e : Declaration). HasBounds e.extent b) → b ≡ Some []
scalar_bounds None b h g = absurd h
scalar_bounds (Some e) b h g = subst (λ x. HasBounds x b) h.scalar g

counter_kind : (o : Option Declaration) → IsSomeAnd o IsCounter → IfSome o (λ (d : Declaration). d.kind ≡ Integer)
counter_kind None h = absurd h
counter_kind (Some e) h = h.kind

-- ---- the tables of loops

module _ (all : List Loop) (once : Distinct (numbers_of all)) where
  variables_at : (xs : List Loop) → ((x : Loop) → In x xs → In x all) → map (λ k. variable_of_loop (loop_numbered all k)) (numbers_of xs) ≡ variables_of_loops xs
  variables_at [] f = refl
  variables_at (x ∷ xs) f =
      ap (λ y. y ∷ map (λ k. variable_of_loop (loop_numbered all k)) (numbers_of xs)) (ap variable_of_loop (loop_there all x once (f x (inl refl))))
      ∙ ap (λ ys. x.variable ∷ ys) (variables_at xs (λ y i. f y (inr i)))

module _ (around : List (List ℕ)) (deepest : ℕ) (m : Nest) (w : Setting) (h : IsPrepared w.program.declarations around deepest m)
    (bounds : (x : List ℕ) → IfSome (declared w.program.declarations x) (λ (d : Declaration). HasBounds d.extent (w.bounds x)))
    (values : (k : ℕ) (x : List ℕ) → nth_of m.symbols k ≡ Some x → nat_abs (w.values k) ≤ 2 ^ 63) where
  abbrev es : List Declaration
  es = w.program.declarations

  abbrev all : List Loop
  all = nest_loops m

  once : Distinct (numbers_of all)
  once = distinct_too (numbers_of all) h.parts.once

  loop_numbers : loops_of_shape (shape_of 0 m.body) ≡ numbers_of all
  loop_numbers = loops_are 0 m.body h.plain

  each_loop : walk.EachLoop (IsPreparedLoop es m.symbols) [] m.body
  each_loop = walked (IsPreparedLoop es m.symbols) [] m.body h.parts.loops

  -- ---- names

  symbol : (x : List ℕ) → In x m.symbols → IsPreparedSymbol es x
  symbol x i = all_in (IsPreparedSymbol es) m.symbols h.parts.symbols x i

  short : (x : List ℕ) → In x m.symbols → length x ≤ 6
  short x i = (symbol x i).name.within

  distinct : AreDistinct m.symbols
  distinct = ordered_distinct m.symbols h.parts.ordered

  made_counts_none : (x : List ℕ) (k : ℕ) → Contains (made_names m) x → ¬ (x ≡ counter_name k)
  made_counts_none x k c e =
      let r = In-map (λ (a : Made). a.name) x m.made (Contains-In x (made_names m) c) in
      (all_in (IsPreparedMade es m.symbols deepest) m.made h.parts.made r.it r.inside).counter k (sym r.is ∙ e)

  target_counts_none : (x : List ℕ) (k : ℕ) → IsSourceName x ⊎ Contains (made_names m) x → ¬ (x ≡ counter_name k)
  target_counts_none x k (inl n) e = counter_long x k n.within e
  target_counts_none x k (inr c) e = made_counts_none x k c e

  -- ---- loops

  record IsLoop (l : ℕ) : Type 0 where
    loop : Loop
    among : In loop all
    table : loop_numbered all l ≡ Some loop
    small : l ≤ 4294967295
    name : loop.variable ≡ counter_name l
    counter : IsSomeAnd (declared es loop.variable) IsCounter

  a_loop : (l : Loop) → In l all → IsLoop l.number
  a_loop l i =
      let r = each_asked (IsPreparedLoop es m.symbols) all [] m.body h.plain each_loop l i in
      record { loop = l; among = i; table = loop_there all l once i; small = within_32 l.number r.asked.number; name = r.asked.variable; counter = r.asked.counter }

  loop_is : (l : ℕ) → In l (loops_of_shape (shape_of 0 m.body)) → IsLoop l
  loop_is l i =
      let r = numbered all l (subst (In l) loop_numbers i) in
      subst IsLoop (sym r.number) (a_loop r.loop r.among)

  abbrev variable_at : ℕ → List ℕ
  variable_at l = variable_of_loop (loop_numbered all l)

  variable_is : (l : ℕ) (r : IsLoop l) → variable_at l ≡ counter_name l
  variable_is l r = ap variable_of_loop r.table ∙ r.name

  pub counter_at : (l : ℕ) → In l (loops_of_shape (shape_of 0 m.body)) → IsSomeAnd (declared es (variable_at l)) IsCounter
  counter_at l i = let r = loop_is l i in subst (λ x. IsSomeAnd (declared es x) IsCounter) (sym (ap variable_of_loop r.table)) r.counter

  -- ---- statements

  record IsStatement (s : ℕ) : Type 0 where
    standing : Standing
    there : nth_of (nest_statements m) s ≡ Some standing
    is : IsPreparedStatement es m deepest standing

  statement_is : (s : ℕ) → In s (statements (shape_of 0 m.body)) → IsStatement s
  statement_is s i =
      let r = statement_there m h.plain s i in
      record { standing = r.standing; there = r.is; is = all_in (IsPreparedStatement es m deepest) (nest_statements m) h.parts.statements r.standing r.among }

  abbrev statement_at : ℕ → guarded.GuardedAssignment
  statement_at s = guarded_of (nth_of (nest_statements m) s)

  -- what holds of the statement holds of what stands in the table
  at_statement : (P : guarded.GuardedAssignment → Type 0) (s : ℕ) (r : IsStatement s) → P (assignment r.standing.statement) → P (statement_at s)
  at_statement P s r k = subst P (sym (ap guarded_of r.there)) k

  -- ---- the loops round a loop

  abbrev Stands : List ℕ → ℕ → Type 0
  Stands round l = LoopStands (shape_of 0 m.body) round l

  record HasRound (round : List ℕ) (l : ℕ) : Type 0 where
    loop : Loop
    table : loop_numbered all l ≡ Some loop
    more : List Loop
    names : variables_of_loops more ≡ map variable_at round
    bear : lists.Each BearsNumber more
    once_round : AreOnce more
    few : length more ≤ 7
    trip : Trip
    trip_is : loop.trip ≡ Some trip
    prepared : IsPreparedTrip (variables_of_loops more) m.symbols loop.last trip

  round_is : (round : List ℕ) (l : ℕ) → Stands round l → HasRound round l
  round_is round l k =
      let r = loop_at (IsPreparedLoop es m.symbols) all [] m.body 0 h.plain each_loop (λ x i. i) round l k in
      let a : IsPreparedLoop es m.symbols r.more r.loop = r.asked in
      let t = some_of (IsPreparedTrip (variables_of_loops r.more) m.symbols r.loop.last) r.loop.trip a.trip in
      let less = a.depth in
      record {
        loop = r.loop;
        table = subst (λ k. loop_numbered all k ≡ Some r.loop) r.number (loop_there all r.loop once r.stands);
        more = r.more;
        names = sym (variables_at all once r.more r.inside) ∙ ap (map variable_at) r.numbers;
        bear = each_from BearsNumber r.more (λ x i. bears x (r.inside x i));
        once_round = subst Distinct (sym r.numbers) (round_once (shape_of 0 m.body) round l k (subst Distinct (sym loop_numbers) once));
        few = omega (arith, less);
        trip = t.value;
        trip_is = t.is;
        prepared = t.has;
      }
    where
      bears : (x : Loop) → In x all → BearsNumber x
      bears x i = let r = each_asked (IsPreparedLoop es m.symbols) all [] m.body h.plain each_loop x i in bears_number es m.symbols r.round x r.asked

  -- ---- the text of the nest

  own : (s l : ℕ) → In s (statements (shape_of 0 m.body)) → In l (loops_of_shape (shape_of 0 m.body)) → In (variable_at l) (names_of (statement_at s)) → In l (loops_round (nth_of (nest_statements m) s))
  own s l i j k =
      let r = statement_is s i in
      let q = loop_is l j in
      let x : Standing = r.standing in
      let names : In (variable_at l) (names_of (assignment x.statement)) = subst (λ g. In (variable_at l) (names_of g)) (ap guarded_of r.there) k in
      let may = all_in (IsOwn x.loops) (names_of (assignment x.statement)) r.is.names (variable_at l) names in
      subst (In l) (sym (ap loops_round r.there)) (Contains-In l (numbers_of x.loops) (may l (below_32 l q.small) (variable_is l q)))

  trip_names : (round : List ℕ) (l : ℕ) (x : List ℕ) → Stands round l → In x (names_in (trip_of_loop (loop_numbered all l))) → In x m.symbols ⊎ In x (map variable_at round)
  trip_names round l x k i =
      let r = round_is round l k in
      let text : trip_of_loop (loop_numbered all l) ≡ trip_text (variables_of_loops r.more) m.symbols [] r.trip = ap trip_of_loop r.table ∙ r.prepared.text in
      names_of_trip (λ y. In y m.symbols ⊎ In y (map variable_at round)) (variables_of_loops r.more) m.symbols r.trip
      (λ y j. inr (subst (In y) r.names j)) (λ y j. inl j) x (subst (λ e. In x (names_in e)) text i)

  pub text : IsNestText (run_nest m)
  text = record {
    nest = shape_is_nest m.body m.symbols (run_nest m).linear (run_nest m).turns_of h.plain once;
    variables = λ l k i j e. let a = loop_is l i in let b = loop_is k j in counter_same l k a.small b.small (sym (variable_is l a) ∙ (e ∙ variable_is k b));
    own = own;
    unwritten = λ s l i j. at_statement (λ g. ¬ (g.left.name ≡ variable_at l)) s (statement_is s i)
        (λ e. let r = statement_is s i in target_counts_none r.standing.statement.left.name l r.is.target (e ∙ variable_is l (loop_is l j)));
    symbols = λ s x i j. at_statement (λ g. ¬ (g.left.name ≡ x)) s (statement_is s i)
        (λ e. (statement_is s i).is.free (subst (Contains m.symbols) (sym e) (In-Contains x m.symbols j)));
    others = λ l x i j e. counter_long x l (short x j) (sym e ∙ variable_is l (loop_is l i));
    trips = trip_names;
    plain = λ s i. at_statement IsPlainAssignment s (statement_is s i) (statement_is s i).is.plain;
  }

  -- ---- kinds

  kind_of_name : (r : Reference) (k : Kind) → IsScalar es (named r) k → IfSome (declared es r.name) (λ (d : Declaration). d.kind ≡ k)
  kind_of_name r k g = by (declared es r.name) g.0.0
    where
      by : (o : Option Declaration) → IsSomeAnd o (λ (d : Declaration). (k ≡ d.kind) × SuitsDimensions r.subscripts (rank_of_extent d.extent)) → IfSome o (λ (d : Declaration). d.kind ≡ k)
      by None f = tt
      by (Some d) f = sym f.0

  kinds : (s : ℕ) → In s (statements (shape_of 0 m.body)) → (k : Kind) × HasKind es (statement_at s).right k × IfSome (declared es (statement_at s).left.name) (λ (d : Declaration). d.kind ≡ k)
  kinds s i =
      at_statement (λ g. (k : Kind) × HasKind es g.right k × IfSome (declared es g.left.name) (λ (d : Declaration). d.kind ≡ k)) s (statement_is s i)
      (let r = statement_is s i in (r.is.kind, r.is.right.0, kind_of_name r.standing.statement.left r.is.kind r.is.left))

  -- ---- trips

  abbrev run : Nest'
  run = run_nest m

  abbrev TripHolds : List ℕ → ℕ → Type 0
  TripHolds round l =
      (z : List ℤ → ℤ) × HasTrip (map run.variable_at round) run.symbols (run.trip_at l) z
      × ((before : List ℕ) → length before ≡ length round → run.turns_of w.values l before ≡ counted (z (places_of w.values run.symbols before)))

  trip_holds : (round : List ℕ) (l : ℕ) → LoopStands run.shape round l → TripHolds round l
  trip_holds round l k =
      let r = round_is round l k in
      let t = number_of_trip m.symbols short distinct r.more r.loop.last r.trip r.few r.bear r.once_round r.prepared in
      let u : IsTripOf (map variable_at round) m.symbols (trip_of_loop (loop_numbered all l)) r.trip =
      carried (variables_of_loops r.more) (map variable_at round) r.loop.last (trip_of_loop (loop_numbered all l)) r.trip r.names (sym (ap trip_of_loop r.table)) t in
      (u.number, u.has, λ before len. turned r.loop r.trip before r.table r.trip_is ∙ ap counted (u.turns w.values before (len ∙ sym (length-map round variable_at))))
    where
      carried : (cs ds : List (List ℕ)) (e f : Expression) (t : Trip) → cs ≡ ds → e ≡ f → IsTripOf cs m.symbols e t → IsTripOf ds m.symbols f t
      carried cs ds e f t a c g = subst (λ xs. IsTripOf xs m.symbols f t) a (subst (λ y. IsTripOf cs m.symbols y t) c g)

      turned : (x : Loop) (t : Trip) (before : List ℕ) → loop_numbered all l ≡ Some x → x.trip ≡ Some t → turns_of_loop (loop_numbered all l) w.values before ≡ counted (turns_at t w.values (map pos before))
      turned x t before a b = ap (λ o. turns_of_loop o w.values before) a ∙ ap (λ o. turns_of_trip o w.values before) b

  -- ---- all facts

  pub facts : (bits : ℕ) → 31 ≤ bits → HasFacts bits run w
  facts bits wide = record {
    text = text;
    wide = wide;
    variables = λ l i. scalar_bounds (declared es (variable_at l)) (w.bounds (variable_at l)) (counter_at l i) (bounds (variable_at l));
    integer = λ l i. counter_kind (declared es (variable_at l)) (counter_at l i);
    symbols = λ x i. scalar_bounds (declared es x) (w.bounds x) (symbol x i).scalar (bounds x);
    values = values;
    kinds = kinds;
    linear = λ s e i. refl;
    trips = trip_holds;
    bounded = λ l before i. turns_small (loop_numbered all l) w.values before;
  }

pub prepared_nest_has_facts : PreparedNestHasFacts
prepared_nest_has_facts bits _ around deepest m w wide h set =
    facts around deepest m w (subst (λ ds. IsPrepared ds around deepest m) (sym set.declarations) h)
    (subst (λ ds. (x : List ℕ) → IfSome (declared ds x) (λ (d : Declaration). HasBounds d.extent (w.bounds x))) (sym set.declarations) set.bounds)
    set.values bits wide
