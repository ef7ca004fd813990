-- Facts of what is made of a nest that was found, in its setting.
use Rattle.std.proofs.Common.{◌≡◌, ◌⊎◌, inl, inr, refl, sym, ap, ◌∙◌, subst, ℕ, zero, suc, ◌≤◌, ℤ, pos, negsuc, Bool}
use Rattle.std.proofs.Common.{true, false, cond, List, [], ◌∷◌, ◌++◌, map, length, get_or, Option, Some, None}
use Rattle.std.proofs.Common.{Contains, arith}
use Rattle.std.specs.Option.{IsSomeAnd, IfSome}
use Rattle.std.specs.Prelude.{nat_le, slice_get}
use Rattle.std.proofs.lemmas.Bool.{leb-true}
use Rattle.std.proofs.lemmas.List.{length-map}
use Rattle.components.specs.Lists as lists
use Rattle.emission.proofs.EmissionForms.WrittenTables.{loop_of_nest, loops_once}
use Rattle.emission.specs.emission_pieces.Nests.{standing_at}
use Rattle.find_nests.specs.Found.{InNest, found_in}
use Rattle.meaning.specs.Dialect.{fortran77}
use Rattle.tree.specs.declared.width.Width.{Width}
use Rattle.meaning.specs.Holding.{HasBounds}
use Rattle.meaning.specs.Profile77.{IsProgram77}
use Rattle.meaning.specs.Reads.{names_in, names_in_subscripts}
use Rattle.meaning.specs.Typed.{declared, rank_of_extent}
use Rattle.meaning.specs.Typed90.{HasKind, IsIntegerScalar}
use Rattle.tree.specs.Plain.{Expression, Declaration, Given, Program}
use Rattle.tree.specs.declared.ops.Kind.{Kind}
use Rattle.tree.specs.declared.ops.Kind.TheVariants.{Integer}
use Rattle.emission.specs.graph_orders.Nests.{run_nest, turns_of_trip, turns_of_loop}
use Rattle.linear_forms.specs.CanonicalLaws.{AreDistinct}
use Rattle.normal_loops.specs.Normalised.{normalised}
use Rattle.nest_order.specs.facts.Facts.{places_of, counted, HasTrip, HasFacts}
use Rattle.dependence_graph.specs.nest_graph.Instances.{turns_at}
use Rattle.nest_order.proofs.orders.Lists.{In-append}
use Rattle.nest_order.specs.orders.Lists.{In, Distinct}
use Rattle.nest_order.specs.orders.Shapes.{loops_of_shape, statements}
use Rattle.nest_order.specs.runs.Guarded.{names_of}
use Rattle.nest_order.specs.runs.Guarded as guarded
use Rattle.nest_order.specs.runs.Nests.{LoopStands, RunNest as Nest'}
use Rattle.nest_order.specs.runs.Stores.{Setting, IsNestText}
use Rattle.nest_order.specs.runs.Touched.{IsPlainAssignment, IsPlainGuard, nth_of}
use Rattle.nest_order.proofs.shapes.Shapes.{shape_is_nest}
use Rattle.nest_order.specs.shapes.Shapes.{IsPlain, shape_of, numbers_of, loop_numbered, guarded_of, loops_round}
use Rattle.nest_order.specs.shapes.Shapes.{variable_of_loop, trip_of_loop}
use Rattle.nest.specs.Bodies.{Standing, nest_loops, nest_statements}
use Rattle.nest.specs.Plain.{Loop, Guarded, Nest}
use Rattle.nest.specs.declared.parts.Trip.{Trip}
use Rattle.last_values.specs.normal_forms.NormalLoops.{counter_name, counters_of}
use Rattle.last_values.specs.normal_forms.Texts.{trip_text}
use Rattle.last_values.specs.declared.normal_forms.loops.NormalLoop.{NormalLoop}
use Rattle.pass_laws.proofs.ReadyNests.Made.{IsMadeOf, made_of}
use Rattle.pass_laws.proofs.ReadyNests.NormalReady.{normal_nest_is_ready}
use Rattle.array_form.specs.holds.Statements.{no_statement}
use Rattle.pass_laws.proofs.NormalFacts.CounterNames.{distinct_names}
use Rattle.pass_laws.proofs.NormalFacts.FoundStatements.{IsShort, IsFoundBody, found_body}
use Rattle.pass_laws.proofs.NormalFacts.FoundSymbols.{IsSymbolIn}
use Rattle.pass_laws.proofs.NormalFacts.LoopLimits.{HasTop}
use Rattle.pass_laws.proofs.NormalFacts.MadeStatements.{counter_same, counter_long, IsKnown, variables_of_loops, IsMade}
use Rattle.pass_laws.proofs.NormalFacts.MadeStatements.{IsMadeLoop, made_statements, made_loops}
use Rattle.pass_laws.proofs.NormalFacts.StatementKinds.{HasKinds}
use Rattle.pass_laws.proofs.NormalFacts.Tables.{each_in, each_from, all_in, statement_there, loop_there, loops_are, numbered}
use Rattle.pass_laws.proofs.NormalFacts.Tables.{round_once, StandsAt, each_asked, loop_at}
use Rattle.pass_laws.proofs.NormalFacts.Texts.{IsStatementOver, GuardIsOver, named, named_in, plain, plain_in, trip_over}
use Rattle.pass_laws.proofs.NormalFacts.Trips.{IsTripOf, trip_is}
use Rattle.pass_laws.specs.normal_facts.Laws.{IsCounter, IsSettingOf}
use Rattle.tree.specs.Widths.{bits_of}
use Rattle.meaning.proofs.Widths.{narrowest}

-- ---- lists

-- where an element stands
record IsAt {A : Type 0} (x : A) (xs : List A) : Type 0 where
  place : ℕ
  is : slice_get xs place ≡ Some x

place_of : {A : Type 0} (x : A) (xs : List A) → In x xs → IsAt x xs
place_of x [] i = absurd i
place_of x (y ∷ xs) (inl e) = record { place = 0; is = ap Some (sym e) }
place_of x (y ∷ xs) (inr i) = let r = place_of x xs i in record { place = suc r.place; is = r.is }

got : {A : Type 0} (xs : List A) (k : ℕ) (d x : A) → nth_of xs k ≡ Some x → get_or xs k d ≡ x
got [] k d x e = let no : ⊥ = cc in absurd no
got (y ∷ xs) zero d x e = cc
got (y ∷ xs) (suc k) d x e = got xs k d x e

-- ---- names in a statement

names_over : (P : List ℕ → Type 0) (s : Guarded) → IsStatementOver P s → (x : List ℕ) → In x (names_of (record { guard = s.guard; left = s.left; right = s.right })) → P x
names_over P s h x i = first s.guard h.guard (In-append x (guarded.names_of_guard s.guard) (names_in s.right ++ (s.left.name ∷ names_in_subscripts s.left.subscripts)) i)
  where
    last : In x (s.left.name ∷ names_in_subscripts s.left.subscripts) → P x
    last (inl e) = subst P (sym e) h.name
    last (inr j) = named_in P s.left.subscripts h.left x j

    middle : In x (names_in s.right) ⊎ In x (s.left.name ∷ names_in_subscripts s.left.subscripts) → P x
    middle (inl j) = named P s.right h.right x j
    middle (inr j) = last j

    first : (o : Option Expression) → GuardIsOver P o → In x (guarded.names_of_guard o) ⊎ In x (names_in s.right ++ (s.left.name ∷ names_in_subscripts s.left.subscripts)) → P x
    first None g (inl j) = absurd j
    first (Some e) g (inl j) = named P e g x j
    first o g (inr j) = middle (In-append x (names_in s.right) (s.left.name ∷ names_in_subscripts s.left.subscripts) j)

plain_guard : (P : List ℕ → Type 0) (o : Option Expression) → GuardIsOver P o → IsPlainGuard o
plain_guard P None h = tt
plain_guard P (Some e) h = plain P e h

-- ---- turns

counted_small : (z : ℤ) → counted z ≤ 2147483646
counted_small (pos k) = by (nat_le k 2147483646) refl
  where
    by : (b : Bool) → nat_le k 2147483646 ≡ b → cond b k 0 ≤ 2147483646
    by true e = leb-true k 2147483646 e
    by false e = omega arith
counted_small (negsuc k) = omega arith

turns_small : (o : Option Loop) (v : ℕ → ℤ) (before : List ℕ) → turns_of_loop o v before ≤ 2147483646
turns_small None v before = omega arith
turns_small (Some l) v before = by l.trip
  where
    by : (t : Option Trip) → turns_of_trip t v before ≤ 2147483646
    by None = omega arith
    by (Some t) = counted_small (turns_at t v (map pos before))

-- ---- declarations and bounds

scalar_bounds : (o : Option Declaration) (b : Option (List (ℤ × ℤ))) → IsSomeAnd o IsCounter → IfSome o (λ (e : Declaration). HasBounds e.extent b) → b ≡ Some []
scalar_bounds None b h g = absurd h
scalar_bounds (Some e) b h g = subst (λ x. HasBounds x b) h.scalar g

counter_kind : (o : Option Declaration) → IsSomeAnd o IsCounter → IfSome o (λ (d : Declaration). d.kind ≡ Integer)
counter_kind None h = absurd h
counter_kind (Some e) h = h.kind

counter_integer : (o : Option Declaration) → IsSomeAnd o IsCounter → IsSomeAnd o (λ (d : Declaration). (d.kind ≡ Integer) × (rank_of_extent d.extent ≡ 0))
counter_integer None h = absurd h
counter_integer (Some e) h = (h.kind, ap rank_of_extent h.scalar)

symbol_bounds : (o : Option Declaration) (e : Declaration) (b : Option (List (ℤ × ℤ))) → o ≡ Some e → e.extent ≡ Given [] → IfSome o (λ (e : Declaration). HasBounds e.extent b) → b ≡ Some []
symbol_bounds o e b f s g =
    let h : HasBounds e.extent b = subst (λ (o : Option Declaration). IfSome o (λ (e : Declaration). HasBounds e.extent b)) f g in
    subst (λ x. HasBounds x b) s h

-- ---- the tables of loops

module _ (all : List Loop) (once : Distinct (numbers_of all)) where
  variables_at : (xs : List Loop) → ((x : Loop) → In x xs → In x all) → map (λ k. variable_of_loop (loop_numbered all k)) (numbers_of xs) ≡ variables_of_loops xs
  variables_at [] f = refl
  variables_at (x ∷ xs) f =
      ap (λ y. y ∷ map (λ k. variable_of_loop (loop_numbered all k)) (numbers_of xs)) (ap variable_of_loop (loop_there all x once (f x (inl refl))))
      ∙ ap (λ ys. x.variable ∷ ys) (variables_at xs (λ y i. f y (inr i)))

  names_at : (xs : List Loop) → ((x : Loop) → In x xs → x.variable ≡ counter_name x.number) → variables_of_loops xs ≡ map counter_name (numbers_of xs)
  names_at [] f = refl
  names_at (x ∷ xs) f = ap (λ y. y ∷ variables_of_loops xs) (f x (inl refl)) ∙ ap (λ ys. counter_name x.number ∷ ys) (names_at xs (λ y i. f y (inr i)))

module _ (width : Width) (p : Program) (n m : Nest) (w : Setting) (is : IsProgram77 (fortran77 width) p) (found : Contains (found_in p) (InNest n)) (normal : normalised n ≡ Some m) (plain_body : IsPlain m.body) (set : IsSettingOf p m w) where
  abbrev es : List Declaration
  es = w.program.declarations

  abbrev all : List Loop
  all = nest_loops m

  made : IsMadeOf n m
  made = made_of n m normal

  body : IsFoundBody es n
  body = found_body (fortran77 width) p es is set.declarations n found

  once : Distinct (numbers_of all)
  once = loops_once m (normal_nest_is_ready (fortran77 width) p n m is found normal)

  loop_numbers : loops_of_shape (shape_of 0 m.body) ≡ numbers_of all
  loop_numbers = loops_are 0 m.body plain_body

  same_symbols : m.symbols ≡ n.symbols
  same_symbols = made.symbols

  -- ---- loops

  record IsLoop (l : ℕ) : Type 0 where
    loop : Loop
    among : In loop all
    table : loop_numbered all l ≡ Some loop
    small : l ≤ 4294967295
    name : loop.variable ≡ counter_name l

  a_loop : (l : Loop) → In l all → IsLoop l.number
  a_loop l i =
      let r = each_asked (IsMadeLoop es n.symbols) all [] m.body plain_body (made_loops es n body m made) l i in
      record { loop = l; among = i; table = loop_there all l once i; small = r.asked.number; name = r.asked.variable }

  loop_is : (l : ℕ) → In l (loops_of_shape (shape_of 0 m.body)) → IsLoop l
  loop_is l i =
      let r = numbered all l (subst (In l) loop_numbers i) in
      subst IsLoop (sym r.number) (a_loop r.loop r.among)

  abbrev variable_at : ℕ → List ℕ
  variable_at l = variable_of_loop (loop_numbered all l)

  variable_is : (l : ℕ) (r : IsLoop l) → variable_at l ≡ counter_name l
  variable_is l r = ap variable_of_loop r.table ∙ r.name

  counter : (l : ℕ) (r : IsLoop l) → IsSomeAnd (declared es (variable_at l)) IsCounter
  counter l r =
      subst (λ x. IsSomeAnd (declared es x) IsCounter) (sym (ap variable_of_loop r.table))
      (all_in (λ (l : Loop). IsSomeAnd (declared es l.variable) IsCounter) all set.counters r.loop r.among)

  symbol : (x : List ℕ) → In x m.symbols → IsSymbolIn es x × IsShort x
  symbol x i = body.symbols x (subst (In x) same_symbols i)

  -- ---- statements

  record IsStatement (s : ℕ) : Type 0 where
    standing : Standing
    there : nth_of (nest_statements m) s ≡ Some standing
    made : IsMade es n.symbols standing
    kinds : HasKinds es standing.statement

  inside : (s : ℕ) (x : Standing) → nth_of (nest_statements m) s ≡ Some x → (l : Loop) → In l x.loops → In l all
  inside s x e l i =
      let at = place_of l x.loops i in
      let same : standing_at m s ≡ x = got (nest_statements m) s no_statement x e in
      loop_of_nest m s at.place l plain_body (ap (λ (y : Standing). slice_get y.loops at.place) same ∙ at.is)

  typed : (xs : List Loop) → ((l : Loop) → In l xs → In l all) → lists.Each (IsIntegerScalar es) (variables_of_loops xs)
  typed [] f = tt
  typed (x ∷ xs) f = (
    counter_integer (declared es x.variable) (all_in (λ (l : Loop). IsSomeAnd (declared es l.variable) IsCounter) all set.counters x (f x (inl refl))),
    typed xs (λ l i. f l (inr i)),
  )

  statement_is : (s : ℕ) → In s (statements (shape_of 0 m.body)) → IsStatement s
  statement_is s i =
      let r = statement_there m plain_body s i in
      let h = each_in (IsMade es n.symbols) (nest_statements m) (made_statements es n body m made) r.standing r.among in
      record { standing = r.standing; there = r.is; made = h; kinds = h.kinds (typed r.standing.loops (inside s r.standing r.is)) }

  abbrev statement_at : ℕ → guarded.GuardedAssignment
  statement_at s = guarded_of (nth_of (nest_statements m) s)

  -- what holds of the statement holds of what stands in the table
  at_statement : (P : guarded.GuardedAssignment → Type 0) (s : ℕ) (r : IsStatement s)
      → P (record { guard = r.standing.statement.guard; left = r.standing.statement.left; right = r.standing.statement.right }) → P (statement_at s)
  at_statement P s r h = subst P (sym (ap guarded_of r.there)) h

  -- ---- the loops round a loop

  abbrev Stands : List ℕ → ℕ → Type 0
  Stands round l = LoopStands (shape_of 0 m.body) round l

  stands : (round : List ℕ) (l : ℕ) → Stands round l → StandsAt (IsMadeLoop es n.symbols) all [] round l
  stands round l h = loop_at (IsMadeLoop es n.symbols) all [] m.body 0 plain_body (made_loops es n body m made) (λ x i. i) round l h

  record HasRound (round : List ℕ) (l : ℕ) : Type 0 where
    loop : Loop
    table : loop_numbered all l ≡ Some loop
    counting : List NormalLoop
    turns : NormalLoop
    last : loop.last ≡ trip_text (counters_of counting) n.symbols [] turns.trip
    trip : loop.trip ≡ Some turns.trip
    names : counters_of counting ≡ map variable_at round
    counters : counters_of counting ≡ map counter_name round
    small : (k : ℕ) → In k round → k ≤ 4294967295
    few : length counting ≤ 7
    top : HasTop (length n.symbols) (length counting) turns.trip
    divisor : ℕ
    by : turns.trip.by ≡ pos divisor

  round_is : (round : List ℕ) (l : ℕ) → Stands round l → HasRound round l
  round_is round l h =
      let r = stands round l h in
      let a = r.asked in
      let own : (x : Loop) → In x r.more → IsLoop x.number = λ x i. a_loop x (r.inside x i) in
      let named : variables_of_loops r.more ≡ map counter_name (numbers_of r.more) =
      names_at all once r.more (λ x i. (each_asked (IsMadeLoop es n.symbols) all [] m.body plain_body (made_loops es n body m made) x (r.inside x i)).asked.variable) in
      record {
        loop = r.loop;
        table = subst (λ k. loop_numbered all k ≡ Some r.loop) r.number (loop_there all r.loop once r.stands);
        counting = a.round;
        turns = a.turns;
        last = a.last;
        trip = a.trip;
        names = a.under.counters ∙ (sym (variables_at all once r.more r.inside) ∙ ap (map variable_at) r.numbers);
        counters = a.under.counters ∙ (named ∙ ap (map counter_name) r.numbers);
        small = λ k i. let q = numbered r.more k (subst (In k) (sym r.numbers) i) in subst (λ j. j ≤ 4294967295) (sym q.number) (own q.loop q.among).small;
        few = a.under.loops.few;
        top = a.top;
        divisor = a.small.divisor;
        by = a.small.by;
      }

  -- ---- the text of the nest

  own : (s l : ℕ) → In s (statements (shape_of 0 m.body)) → In l (loops_of_shape (shape_of 0 m.body)) → In (variable_at l) (names_of (statement_at s)) → In l (loops_round (nth_of (nest_statements m) s))
  own s l i j h =
      let r = statement_is s i in
      let q = loop_is l j in
      let names : In (variable_at l) (names_of (record { guard = r.standing.statement.guard; left = r.standing.statement.left; right = r.standing.statement.right })) =
      subst (λ g. In (variable_at l) (names_of g)) (ap guarded_of r.there) h in
      subst (In l) (sym (ap loops_round r.there)) (names_over (IsKnown r.standing.loops) r.standing.statement r.made.over (variable_at l) names l q.small (variable_is l q))

  trip_names : (round : List ℕ) (l : ℕ) (x : List ℕ) → Stands round l → In x (names_in (trip_of_loop (loop_numbered all l))) → In x m.symbols ⊎ In x (map variable_at round)
  trip_names round l x h i =
      let r = round_is round l h in
      let text : trip_of_loop (loop_numbered all l) ≡ trip_text (counters_of r.counting) n.symbols [] r.turns.trip = ap trip_of_loop r.table ∙ r.last in
      named (λ y. In y m.symbols ⊎ In y (map variable_at round)) (trip_text (counters_of r.counting) n.symbols [] r.turns.trip)
      (trip_over (λ y. In y m.symbols ⊎ In y (map variable_at round)) n.symbols
      (each_from (λ y. In y m.symbols ⊎ In y (map variable_at round)) n.symbols (λ y j. inl (subst (In y) (sym same_symbols) j)))
      r.counting r.turns.trip (each_counter r.counting (λ y j. inr (subst (In y) r.names j))))
      x (subst (λ e. In x (names_in e)) text i)
    where
      each_counter : (rs : List NormalLoop) → ((y : List ℕ) → In y (counters_of rs) → In y m.symbols ⊎ In y (map variable_at round))
          → lists.Each (λ (q : NormalLoop). In q.counter m.symbols ⊎ In q.counter (map variable_at round)) rs
      each_counter [] f = tt
      each_counter (q ∷ rs) f = (f q.counter (inl refl), each_counter rs (λ y j. f y (inr j)))

  text : IsNestText (run_nest m)
  text = record {
    nest = shape_is_nest m.body m.symbols (run_nest m).linear (run_nest m).turns_of plain_body once;
    variables = λ l k i j e. let a = loop_is l i in let b = loop_is k j in counter_same l k a.small b.small (sym (variable_is l a) ∙ (e ∙ variable_is k b));
    own = own;
    unwritten = λ s l i j. at_statement (λ g. ¬ (g.left.name ≡ variable_at l)) s (statement_is s i)
        (λ e. counter_long (statement_is s i).standing.statement.left.name l (statement_is s i).made.short (e ∙ variable_is l (loop_is l j)));
    symbols = λ s x i j. at_statement (λ g. ¬ (g.left.name ≡ x)) s (statement_is s i)
        (λ e. (statement_is s i).made.free (subst (λ y. In y n.symbols) (sym e) (subst (In x) same_symbols j)));
    others = λ l x i j e. counter_long x l (symbol x j).1 (sym e ∙ variable_is l (loop_is l i));
    trips = trip_names;
    plain = λ s i. at_statement IsPlainAssignment s (statement_is s i)
        (let r = statement_is s i in (
          plain_guard (IsKnown r.standing.loops) r.standing.statement.guard r.made.over.guard,
          plain (IsKnown r.standing.loops) r.standing.statement.right r.made.over.right,
          plain_in (IsKnown r.standing.loops) r.standing.statement.left.subscripts r.made.over.left,
        ));
  }

  -- ---- kinds

  kinds : (s : ℕ) → In s (statements (shape_of 0 m.body)) → (k : Kind) × HasKind es (statement_at s).right k × IfSome (declared es (statement_at s).left.name) (λ (d : Declaration). d.kind ≡ k)
  kinds s i =
      at_statement (λ g. (k : Kind) × HasKind es g.right k × IfSome (declared es g.left.name) (λ (d : Declaration). d.kind ≡ k)) s (statement_is s i)
      (let h = (statement_is s i).kinds in
      (h.declaration.kind, h.right, subst (λ (o : Option Declaration). IfSome o (λ (d : Declaration). d.kind ≡ h.declaration.kind)) (sym h.found) refl))

  -- ---- trips

  abbrev run : Nest'
  run = run_nest m

  -- a loop's trip has a number, which is that of its turns at as many iterations as loops stand round it
  abbrev pub TripHolds : List ℕ → ℕ → Type 0
  TripHolds round l =
      (z : List ℤ → ℤ) × HasTrip (map run.variable_at round) run.symbols (run.trip_at l) z
      × ((before : List ℕ) → length before ≡ length round → run.turns_of w.values l before ≡ counted (z (places_of w.values run.symbols before)))

  counters_length : (rs : List NormalLoop) → length (counters_of rs) ≡ length rs
  counters_length rs = length-map rs (λ (r : NormalLoop). r.counter)

  pub trip_holds : (round : List ℕ) (l : ℕ) → LoopStands run.shape round l → TripHolds round l
  trip_holds round l h =
      let r = round_is round l h in
      let many : length (counters_of r.counting) ≡ length r.counting = counters_length r.counting in
      let few : length (counters_of r.counting) ≤ 7 = let most = r.few in omega (arith, many, most) in
      let apart : AreDistinct (counters_of r.counting ++ n.symbols) =
      subst (λ xs. AreDistinct (xs ++ n.symbols)) (sym r.counters)
      (distinct_names round n.symbols (round_once (shape_of 0 m.body) round l h (subst Distinct (sym loop_numbers) once)) r.small (λ y i. (body.symbols y i).1) body.distinct) in
      let top : HasTop (length n.symbols) (length (counters_of r.counting)) r.turns.trip = subst (λ d. HasTop (length n.symbols) d r.turns.trip) (sym many) r.top in
      let t = trip_is (counters_of r.counting) n.symbols r.turns.trip r.divisor few apart top r.by in
      let text : trip_text (counters_of r.counting) n.symbols [] r.turns.trip ≡ trip_of_loop (loop_numbered all l) = sym (ap trip_of_loop r.table ∙ r.last) in
      let u : IsTripOf (map variable_at round) m.symbols (trip_of_loop (loop_numbered all l)) r.turns.trip =
      carried (counters_of r.counting) (map variable_at round) n.symbols m.symbols (trip_text (counters_of r.counting) n.symbols [] r.turns.trip) (trip_of_loop (loop_numbered all l)) r.turns.trip
      r.names (sym same_symbols) text t in
      (u.number, u.has, λ before len. turned r.loop r.turns.trip before r.table r.trip ∙ ap counted (u.turns w.values before (len ∙ sym (length-map round variable_at))))
    where
      carried : (cs ds ss ts : List (List ℕ)) (e f : Expression) (t : Trip) → cs ≡ ds → ss ≡ ts → e ≡ f → IsTripOf cs ss e t → IsTripOf ds ts f t
      carried cs ds ss ts e f t a b c h = subst (λ xs. IsTripOf xs ts f t) a (subst (λ xs. IsTripOf cs xs f t) b (subst (λ g. IsTripOf cs ss g t) c h))

      turned : (x : Loop) (t : Trip) (before : List ℕ) → loop_numbered all l ≡ Some x → x.trip ≡ Some t → turns_of_loop (loop_numbered all l) w.values before ≡ counted (turns_at t w.values (map pos before))
      turned x t before a b = ap (λ o. turns_of_loop o w.values before) a ∙ ap (λ o. turns_of_trip o w.values before) b

  -- ---- all facts

  pub facts : HasFacts (bits_of width) run w
  facts = record {
    text = text;
    wide = narrowest width;
    variables = λ l i. scalar_bounds (declared es (variable_at l)) (w.bounds (variable_at l)) (counter l (loop_is l i)) (set.bounds (variable_at l));
    integer = λ l i. counter_kind (declared es (variable_at l)) (counter l (loop_is l i));
    symbols = λ x i. let c = (symbol x i).0 in symbol_bounds (declared es x) c.declaration (w.bounds x) c.found c.scalar (set.bounds x);
    values = set.values;
    kinds = kinds;
    linear = λ s e i. refl;
    trips = trip_holds;
    bounded = λ l before i. turns_small (loop_numbered all l) w.values before;
  }
