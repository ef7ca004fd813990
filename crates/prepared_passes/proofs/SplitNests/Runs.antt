-- The split nest goes on as the nest does.
use Rattle.std.proofs.Common.{◌≡◌, ◌⊎◌, inl, inr, refl, sym, ap, ◌∙◌, subst, ℕ, ◌+◌, ◌≤◌, ◌<◌, ◌^◌, ℤ, pos, Bool, true, false, ◌||◌, List, [], ◌∷◌, ◌++◌, append_assoc, append-nil, map, length, length-append, Ok, Option, Some, None, IfSome, Contains, arith}
use Rattle.std.specs.List.{AllByRecursion}
use Rattle.std.specs.Option.{IsSomeAnd}
use Rattle.std.specs.Prelude.{⊤, is_some, slice_index_or, unwrap_or}
use Rattle.std.specs.Str.{bytes_eq}
use Rattle.std.proofs.lemmas.Slice.Eq.{bytes_eq-Decides}
use Rattle.tree.specs.Names.{IsSourceName}
use Rattle.tree.specs.Plain.{Declaration, Expression, Program, Reference}
use Rattle.tree.specs.declared.ops.Value.{Value}
use Rattle.dependence_graph.specs.declared.graphs.Place.{Place}
use Rattle.last_values.specs.normal_forms.NormalLoops.{counter_name}
use Rattle.linear_forms.specs.Laws.{HoldsSized}
use Rattle.meaning.specs.Dialect.{fortran77}
use Rattle.tree.specs.declared.width.Width.{Width}
use Rattle.meaning.specs.Holding.{HoldsProgram, IsStorable}
use Rattle.meaning.specs.Reads.{names_in, names_in_block, names_in_statement, names_in_subscripts}
use Rattle.meaning.specs.Run.{Going, State, does, does_all}
use Rattle.meaning.specs.Store.{Cell, Store, put}
use Rattle.meaning.specs.Typed.{declared}
use Rattle.meaning.specs.Value.{is_in_range, number_of, trip_count}
use Rattle.nest.specs.Blocks.{assignment_of, block_of_parts, guarded_statement, numeral, statement_of_part, under_guard}
use Rattle.nest.specs.Bodies.{Standing, loops_in_parts, loops_of, nest_loops, nest_statements, statements_in, statements_in_parts}
use Rattle.nest.specs.Plain.{Choice, Guarded, Jump, Label, Loop, Made, Nest, Part, Parts, Run, Turns, no_parts, part, parts}
use Rattle.nest.specs.declared.parts.Trip.{Trip}
use Rattle.nest.specs.statement_loops.Names.{is_among}
use Rattle.nest_order.proofs.orders.Lists.{In-append, In-left, In-right}
use Rattle.nest_order.proofs.orders.Membership.{In-map, map-In}
use Rattle.nest_order.proofs.runs.Alike.{Alike, number_alike}
use Rattle.nest_order.proofs.runs.Results.{each_of}
use Rattle.nest_order.specs.orders.Lists.{In}
use Rattle.nest_order.specs.runs.Guarded.{names_of, names_of_guard}
use Rattle.nest_order.specs.shapes.Shapes.{ArePlain, IsNormal, IsPlain}
use Rattle.nest_steps.proofs.Acts.{Leads-then, Leads-to}
use Rattle.nest_steps.proofs.Mapped.{mapped_nest_leads, wide_enough}
use Rattle.nest_steps.proofs.Rounds.{loop_turns}
use Rattle.nest_steps.specs.Leading.{Led, Leads}
use Rattle.nest_steps.specs.Mapped.{AllLead, AllLeadIn, count_in, count_of, mapped_parts_of}
use Rattle.nest_steps.specs.Rounds.{Hold, InLoops, Turning}
use Rattle.nest_steps.specs.Statements.{cell_of}
use Rattle.pass_laws.proofs.NormalFacts.MadeStatements.{counter_long, counter_same}
use Rattle.pass_laws.proofs.NormalFacts.Tables.{all_in, each_asked}
use Rattle.pass_laws.proofs.PreparedNests.Facts as prepared
use Rattle.pass_laws.proofs.PreparedNests.Lists.{Contains-In, HasSome, In-Contains, distinct_too, ordered_distinct, some_of}
use Rattle.pass_laws.proofs.PreparedNests.Trips.{BearsNumber, bears_number, number_of_trip}
use Rattle.pass_laws.proofs.PreparedNests.Walks.{once_before, walked}
use Rattle.pass_laws.specs.normal_facts.Laws.{IsCounter}
use Rattle.pass_laws.specs.prepared_nests.Loops.{IsPreparedLoop, IsPreparedTrip, variables_of_loops}
use Rattle.pass_laws.specs.prepared_nests.Made.{AreBoundsBy, IsPreparedMade}
use Rattle.pass_laws.specs.prepared_nests.Nests.{IsPrepared, IsPreparedSymbol}
use Rattle.pass_laws.specs.prepared_nests.Statements.{IsPreparedStatement, assignment, made_names}
use Rattle.pass_laws.specs.prepared_runs.Running.{MayRun, loops_then_after}
use Rattle.prepared_passes.proofs.ExpandedNests.Trips.{turns_are}
use Rattle.prepared_passes.proofs.ExpandedNests.Walks.{Under, each}
use Rattle.prepared_passes.proofs.SymbolsAnew.Runs.{texts_run_alike}
use Rattle.prepared_passes.specs.expansion.Laws.{value_among}
use Rattle.rewrite.proofs.Acts.{Stays-does_all}
use Rattle.rewrite.proofs.Replacing.{bytes_eq-false}
use Rattle.rewrite.specs.Following.{IsSound, sequential}
use Rattle.scalar_expand.specs.Flow as flow
use Rattle.scalar_expand.specs.Flow.{AreTurns}
use Rattle.scalar_expand.specs.Numbers.{trip_at}
use Rattle.scalar_expand.specs.Stores.{element_cell}
use Rattle.statement_passes.proofs.Standings.{mapped_nest_has}
use Rattle.statement_passes.specs.Passes.{mapped_body}
use Rattle.statement_passes.specs.Standings.{IsLoop}
use Rattle.prepared_passes.proofs.RenamedNests.Behind.{AreSame, Clear, endings_lead}
use Rattle.prepared_passes.proofs.RenamedNests.Bodies.{Apart, IsPlace, count_part, first_place, inner_place, numbers_of, rest_place}
use Rattle.prepared_passes.proofs.RenamedNests.Declared.{IsDeclared, names_declared}
use Rattle.node_splitting.specs.Arrays.{array, copy_name, copy_element, extents_over, texts_over}
use Rattle.node_splitting.specs.Counts.{variables_from_outside}
use Rattle.node_splitting.specs.Split.{firsts, last_from, made_arrays, may_in, with_copy_arrays, arrays_from, firsts_from, last}
use Rattle.prepared_passes.specs.splitting.Laws.{GoOnButCopies, SplitNestGoesOnAsNest}
use Rattle.prepared_passes.specs.splitting.Splits.{IsCopyName, MayBeSplit}
use Rattle.prepared_passes.proofs.SplitNests.Copying.{AreBeside, IsReady, put_both, statement_leads}
use Rattle.prepared_passes.proofs.SplitNests.Limits.{cell_there, over, symbol_held, symbol_bounds}
use Rattle.prepared_passes.proofs.SplitNests.Names.{copy_names_are_apart, copy_no_counter}
use Rattle.prepared_passes.proofs.SplitNests.Places.{array_at, array_there, first_is, last_is, reads, rises_past, same_length}
use Rattle.prepared_passes.proofs.SplitNests.Texts.{each_raw, raw_nest, split_is, whole_is}
use Rattle.tree.specs.declared.ops.Value.TheVariants.{Int}
use Rattle.linear_forms.specs.CanonicalLaws.{AreDistinct}
use Rattle.pass_laws.proofs.NormalFacts.Trips.{IsTripOf}
use Rattle.prepared_passes.proofs.SplitNests.Reading.{extents_there}
use Rattle.rewrite.proofs.Values.{cell_in-named}
use Rattle.tree.specs.Widths.{bits_of}
use Rattle.meaning.proofs.Widths.{narrowest}

-- one loop more
turns_more : (trip : List ℕ → Loop → ℕ) (done : List ℕ) (ls : List Loop) (is : List ℕ) (l : Loop) (i : ℕ) → AreTurns trip done ls is → 1 ≤ i → i ≤ trip (done ++ is) l
    → AreTurns trip done (ls ++ l ∷ []) (is ++ i ∷ [])
turns_more trip done [] [] l i h low high = (low, subst (λ d. i ≤ trip d l) (append-nil done) high, tt)
turns_more trip done [] (j ∷ is) l i h low high = absurd h
turns_more trip done (o ∷ ls) [] l i h low high = absurd h
turns_more trip done (o ∷ ls) (j ∷ is) l i h low high =
    (h.0, h.1, turns_more trip (done ++ j ∷ []) ls is l i h.2 low (subst (λ d. i ≤ trip d l) (sym (append_assoc done (j ∷ []) is)) high))

some_is : {A : Type 0} (o : Option A) (a : A) → is_some o ≡ true → o ≡ Some (unwrap_or o a)
some_is None a h = cc
some_is (Some b) a h = refl

among_in : (ys : List (List ℕ)) (x : List ℕ) → is_among ys x ≡ true → In x ys
among_in [] x e = cc
among_in (y ∷ ys) x e = by (λ g. among_in ys x g) (bytes_eq y x) refl e
  where
    by : (is_among ys x ≡ true → In x ys) → (b : Bool) → bytes_eq y x ≡ b → (b || is_among ys x) ≡ true → In x (y ∷ ys)
    by more true f g = inl (sym ((bytes_eq-Decides y x).0 f))
    by more false f g = inr (more g)

among_true : (ys : List (List ℕ)) (x : List ℕ) → In x ys → is_among ys x ≡ true
among_true [] x i = absurd i
among_true (y ∷ ys) x (inl e) = ap (λ b. b || is_among ys x) ((bytes_eq-Decides y x).1 (sym e))
among_true (y ∷ ys) x (inr i) = by (bytes_eq y x) (among_true ys x i)
  where
    by : (b : Bool) → is_among ys x ≡ true → (b || is_among ys x) ≡ true
    by true f = refl
    by false f = f

module _ (width : Width) (p : Program) (around : List (List ℕ)) (deepest : ℕ) (may : Place → Bool) (m : Nest) (h : IsPrepared p.declarations around deepest m)
    (can : MayBeSplit p.declarations may m) (s : State) (run : MayRun width p (with_copy_arrays may m (made_arrays may m)) s) where
  abbrev IsMade : List ℕ → Type 0
  IsMade = IsCopyName may m

  abbrev Known : List ℕ → Type 0
  Known = IsDeclared p.declarations

  abbrev value : List ℕ → ℤ
  value = value_among m.symbols 0 run.values

  abbrev B : List ℕ → Option (List (ℤ × ℤ))
  B = s.store.bounds

  abbrev counters : List ℕ → Bool
  counters x = is_among (variables_of_loops (nest_loops m)) x

  abbrev trip : List ℕ → Loop → ℕ
  trip = trip_at (length m.symbols) run.values

  abbrev like : List ℕ → ℕ → Store → Store → Type 0
  like is k = AreBeside (bits_of width) (IsCopyName may m) (IsDeclared p.declarations) m.symbols (value_among m.symbols 0 run.values) s.store.bounds

  abbrev At : List Loop → List ℕ → ℕ → Store → Store → Type 0
  At = InLoops (bits_of width) counters like

  -- ---- names

  -- a name of the nest
  abbrev IsFine : List ℕ → Type 0
  IsFine x = (¬ IsCopyName may m x) × IsDeclared p.declarations x

  abbrev AllFine : List (List ℕ) → Type 0
  AllFine xs = (x : List ℕ) → In x xs → IsFine x

  fine_block : AllFine (names_in_block (loops_then_after m))
  fine_block x i = (
    λ made. can.fresh made.0 made.1 (subst (λ y. Contains (names_in_block (loops_then_after m)) y) (sym made.2) (In-Contains x (names_in_block (loops_then_after m)) i)),
    names_declared p.declarations around deepest m h x i,
  )

  fine_front : (xs ys : List (List ℕ)) → AllFine (xs ++ ys) → AllFine xs
  fine_front xs ys f x i = f x (In-left x xs ys i)

  fine_rest : (xs ys : List (List ℕ)) → AllFine (xs ++ ys) → AllFine ys
  fine_rest xs ys f x i = f x (In-right x xs ys i)

  symbol_source : (x : List ℕ) → In x m.symbols → IsSourceName x
  symbol_source x i = (all_in (IsPreparedSymbol p.declarations) m.symbols h.parts.symbols x i).name

  bearing : (l : Loop) → In l (nest_loops m) → BearsNumber l
  bearing l i =
      let r = each_asked (IsPreparedLoop p.declarations m.symbols) (nest_loops m) [] m.body h.plain (walked (IsPreparedLoop p.declarations m.symbols) [] m.body h.parts.loops) l i in
      bears_number p.declarations m.symbols r.round l r.asked

  counter_of : (x : List ℕ) → is_among (variables_of_loops (nest_loops m)) x ≡ true → (l : Loop) × In l (nest_loops m) × (x ≡ l.variable)
  counter_of x e = let o = In-map (λ (l : Loop). l.variable) x (nest_loops m) (among_in (variables_of_loops (nest_loops m)) x e) in (o.it, o.inside, o.is)

  counter_scalar : (store : Store) → HoldsProgram (fortran77 width) p store → (y : List ℕ) → is_among (variables_of_loops (nest_loops m)) y ≡ true → store.bounds y ≡ Some []
  counter_scalar store holds y e =
      let c = counter_of y e in
      let r = each_asked (IsPreparedLoop p.declarations m.symbols) (nest_loops m) [] m.body h.plain (walked (IsPreparedLoop p.declarations m.symbols) [] m.body h.parts.loops) c.0 c.1 in
      prepared.scalar_bounds (declared p.declarations y) (store.bounds y) (subst (λ z. IsSomeAnd (declared p.declarations z) IsCounter) (sym c.2) r.asked.counter) (holds.bounds y)

  no_symbol : (y : List ℕ) → is_among (variables_of_loops (nest_loops m)) y ≡ true → ¬ In y m.symbols
  no_symbol y e i = let c = counter_of y e in counter_long y c.0.number (symbol_source y i).within (c.2 ∙ (bearing c.0 c.1).0)

  abbrev Round : List Loop → Type 0
  Round ls = (o : Loop) → In o ls → In o (nest_loops m)

  no_variable : (x : List ℕ) → ((k : ℕ) → ¬ (x ≡ counter_name k)) → (ls : List Loop) → Round ls → AllByRecursion (λ (o : Loop). bytes_eq x o.variable ≡ false) ls
  no_variable x none [] f = tt
  no_variable x none (l ∷ ls) f = (bytes_eq-false x l.variable (λ e. none l.number (e ∙ (bearing l (f l (inl refl))).0)), no_variable x none ls (λ o i. f o (inr i)))

  other_variables : (l : Loop) (ls os : List Loop) → In l os → BearsNumber l → Round ls → Apart ls os → AllByRecursion (λ (o : Loop). bytes_eq l.variable o.variable ≡ false) ls
  other_variables l [] os i b f apart = tt
  other_variables l (o ∷ ls) os i b f apart =
      let c = bearing o (f o (inl refl)) in (
        bytes_eq-false l.variable o.variable (λ e. apart o l (inl refl) i (sym (counter_same l.number o.number b.1 c.1 (sym b.0 ∙ (e ∙ c.0))))),
        other_variables l ls os i b (λ q j. f q (inr j)) (λ q r j k. apart q r (inr j) k),
      )

  -- ---- one statement

  abbrev es_of : List Loop → List Trip
  es_of ls = unwrap_or (extents_over (length m.symbols) ls) []

  abbrev cell : List Loop → List ℕ → ℕ → Cell
  cell ls is j = element_cell (over ls (es_of ls) j) is

  module _ (ls : List Loop) (is : List ℕ) (round : Round ls) (turns : AreTurns trip [] ls is) (pre post : List Standing) (g : Guarded)
      (parted : nest_statements m ≡ pre ++ record { loops = ls; statement = g } ∷ post) (fine : AllFine (names_in_statement (guarded_statement g))) where
    abbrev here : Standing
    here = record { loops = ls; statement = g }

    abbrev k : ℕ
    k = length pre

    abbrev from : ℕ
    from = slice_index_or (firsts may m) (length pre) 0

    abbrev rs : List Reference
    rs = reads may m (length pre) here

    inside : In here (nest_statements m)
    inside = subst (λ (zs : List Standing). In here zs) (sym parted) (In-right here pre (here ∷ post) (inl refl))

    st : IsPreparedStatement p.declarations m deepest here
    st = all_in (IsPreparedStatement p.declarations m deepest) (nest_statements m) h.parts.statements here inside

    from_is : from ≡ last_from may m 0 m.copies pre
    from_is = ap (λ ss. slice_index_or (firsts_from may m 0 m.copies ss) (length pre) 0) parted ∙ first_is may m 0 m.copies pre post here

    below : (j : ℕ) → j < from + length rs → j < 2 ^ 32
    below j less =
        let top : m.copies + length (made_arrays may m) ≤ 4294967296 = can.few in
        let most = rises_past may m 0 m.copies pre post here (length pre) (same_length pre) in
        let all : last may m ≡ last_from may m 0 m.copies (pre ++ here ∷ post) = ap (last_from may m 0 m.copies) parted in
        let sum = last_is may m in
        let start = from_is in
        let small : j < 4294967296 = omega (arith, less, top, most, all, sum, start) in
        small

    -- its array
    record HasArray (j : ℕ) : Type 0 where
      read : Reference
      among : In read rs
      there : In (array m ls j read) (made_arrays may m)

    has_array : (j : ℕ) → from ≤ j → j < from + length rs → HasArray j
    has_array j low high =
        let start = from_is in
        let a = array_at m ls j (last_from may m 0 m.copies pre) rs (omega (arith, low, start)) (omega (arith, high, start)) in
        record {
          read = a.read;
          among = a.among;
          there = subst (λ ss. In (array m ls j a.read) (arrays_from may m 0 m.copies ss)) (sym parted)
              (array_there may m 0 m.copies pre post here (length pre) (same_length pre) (array m ls j a.read) a.there);
        }

    has_bounds : (j : ℕ) → from ≤ j → j < from + length rs → IsSomeAnd (s.store.bounds (copy_name j)) (AreBoundsBy m.symbols run.values (texts_over m.symbols (extents_over (length m.symbols) ls)))
    has_bounds j low high =
        let a = has_array j low high in
        all_in (λ (a : Made). IsSomeAnd (s.store.bounds a.name) (AreBoundsBy m.symbols run.values a.extents)) (m.made ++ made_arrays may m) run.made (array m ls j a.read)
        (In-right (array m ls j a.read) m.made (made_arrays may m) a.there)

    extents_are_some : (r : Reference) → In r rs → extents_over (length m.symbols) ls ≡ Some (es_of ls)
    extents_are_some r i = some_is (extents_over (length m.symbols) ls) [] (extents_there may (length m.symbols) ls (length pre) g r i)

    -- ---- names

    record Parted (o : Option Expression) : Type 0 where
      guard : AllFine (names_of_guard o)
      assigned : AllFine (names_in_statement (assignment_of g))

    part_names : (o : Option Expression) → AllFine (names_in_statement (under_guard g.line o (assignment_of g))) → Parted o
    part_names None c = record { guard = λ x i. absurd i; assigned = c }
    part_names (Some t) c =
        let one = fine_front (names_in t ++ (names_in_statement (assignment_of g) ++ []) ++ []) [] c in
        let two = fine_front (names_in t ++ (names_in_statement (assignment_of g) ++ [])) [] one in
        record {
          guard = λ x i. two x (In-left x (names_in t) (names_in_statement (assignment_of g) ++ []) i);
          assigned = λ x i. two x (In-right x (names_in t) (names_in_statement (assignment_of g) ++ []) (In-left x (names_in_statement (assignment_of g)) [] i));
        }

    abbrev clears : Parted g.guard
    clears = part_names g.guard fine

    all_fine : AllFine (names_of (assignment g))
    all_fine x i = by (In-append x (names_of_guard g.guard) (names_in g.right ++ (g.left.name ∷ names_in_subscripts g.left.subscripts)) i)
      where
        other : In x (names_in g.right) ⊎ In x (g.left.name ∷ names_in_subscripts g.left.subscripts) → IsFine x
        other (inl j) = clears.assigned x (inr (In-right x (names_in_subscripts g.left.subscripts) (names_in g.right) j))
        other (inr (inl e)) = clears.assigned x (inl e)
        other (inr (inr j)) = clears.assigned x (inr (In-left x (names_in_subscripts g.left.subscripts) (names_in g.right) j))

        by : In x (names_of_guard g.guard) ⊎ In x (names_in g.right ++ (g.left.name ∷ names_in_subscripts g.left.subscripts)) → IsFine x
        by (inl j) = clears.guard x j
        by (inr j) = other (In-append x (names_in g.right) (g.left.name ∷ names_in_subscripts g.left.subscripts) j)

    counts_none : (j : ℕ) → ¬ (g.left.name ≡ counter_name j)
    counts_none j = by st.target
      where
        by : IsSourceName g.left.name ⊎ Contains (made_names m) g.left.name → ¬ (g.left.name ≡ counter_name j)
        by (inl source) e = counter_long g.left.name j source.within e
        by (inr c) e =
            let o = In-map (λ (a : Made). a.name) g.left.name m.made (Contains-In g.left.name (made_names m) c) in
            (all_in (IsPreparedMade p.declarations m.symbols deepest) m.made h.parts.made o.it o.inside).counter j (sym o.is ∙ e)

    ready : (line : ℕ) → IsReady (bits_of width) (IsCopyName may m) (IsDeclared p.declarations) m.symbols value s.store.bounds counters ls is (length pre) line (variables_from_outside ls)
        (may_in may (length m.symbols) ls (length pre)) g (copy_element (variables_from_outside ls)) (cell ls is) from
    ready line = record {
      clear = λ x i. (all_fine x i).0;
      known = λ x i. (all_fine x i).1;
      free = λ i. st.free (In-Contains g.left.name m.symbols i);
      own = no_variable g.left.name counts_none ls round;
      made = λ j low high. (let a = has_array j low high in (array m ls j a.read, a.there, refl));
      other = λ j. no_variable (copy_name j) (copy_no_counter j) ls round;
      once = λ i j a b e. copy_names_are_apart i j (below i a) (below j b) e;
      room = λ t u at j low high. (let a = has_array j low high in
          cell_there width p around deepest m h s.store run.holds run.values run.valued ls (es_of ls) (extents_are_some a.read a.among) (bits_of width) j is u (at.stores.second (copy_name j))
          (has_bounds j low high) turns (λ o i. (at.scalars o.variable (among_true (variables_of_loops (nest_loops m)) o.variable (map-In (λ (l : Loop). l.variable) o (nest_loops m) (round o i)))).1) at.second);
    }

    one_leads : (line : ℕ) → Leads (At ls is (length pre)) (At ls is (length pre + 1)) (does (sequential (bits_of width)) None (guarded_statement g))
        (does_all (sequential (bits_of width)) None (block_of_parts line (parts (map Run (each_raw may m ls (length pre) g)))))
    one_leads line =
        statement_leads (bits_of width) (IsCopyName may m) (IsDeclared p.declarations) m.symbols value s.store.bounds counters ls is (length pre) line (variables_from_outside ls)
        (may_in may (length m.symbols) ls (length pre)) g (copy_element (variables_from_outside ls)) (cell ls is) from (ready line)

  -- ---- loops

  -- its last value is its trip
  abbrev TurnsAre : List Loop → Loop → Type 0
  TurnsAre ls l = (is : List ℕ) (t : Store) (z : ℤ) (n : ℕ) → ((o : Loop) → In o ls → t.bounds o.variable ≡ Some [])
      → ((y : List ℕ) → In y m.symbols → (t.bounds y ≡ Some []) × (t.held (cell_of y) ≡ Int (value_among m.symbols 0 run.values y)))
      → Hold ls is t → number_of (sequential (bits_of width)) l.last t ≡ Ok z → trip_count (pos 1) z (pos 1) ≡ Ok n → trip_at (length m.symbols) run.values is l ≡ n

  loop_turns_so : (ls : List Loop) (l : Loop) → IsNormal l → Under p.declarations m.symbols (nest_loops m) ls l → TurnsAre ls l
  loop_turns_so ls l normal u is t z n bounds fixed hold e count =
      turns_are (bits_of width) m.symbols run.values distinct ls l here.value here.is here.has is_trip is t z n bounds fixed hold e count
    where
      distinct : AreDistinct m.symbols
      distinct = ordered_distinct m.symbols h.parts.ordered

      here : HasSome (IsPreparedTrip (variables_of_loops ls) m.symbols l.last) l.trip
      here = some_of (IsPreparedTrip (variables_of_loops ls) m.symbols l.last) l.trip u.prepared.trip

      few : length ls ≤ 7
      few = let deep = u.prepared.depth in omega (arith, deep)

      is_trip : IsTripOf (variables_of_loops ls) m.symbols l.last here.value
      is_trip =
          number_of_trip m.symbols (λ x i. (symbol_source x i).within) distinct ls l.last here.value few u.named (once_before ls (l ∷ []) u.once) here.has

  all_turn : flow.EachLoop TurnsAre [] m.body
  all_turn =
      each p.declarations m.symbols (nest_loops m) TurnsAre loop_turns_so [] m.body h.plain h.parts.loops (distinct_too (numbers_of (nest_loops m)) h.parts.once)
      (λ o i. absurd i) (λ o i. i) tt

  abbrev KnownTurns : List ℕ → Loop → ℕ → Type 0
  KnownTurns is l n = trip_at (length m.symbols) run.values is l ≡ n

  steady : (is : List ℕ) (k : ℕ) (t u : Store) (y : List ℕ) (v : Value) → is_in_range (bits_of width) v ≡ true → counters y ≡ true → like is k t u → like is k (put (cell_of y) v t) (put (cell_of y) v u)
  steady is k t u y v range c a =
      put_both (bits_of width) (IsCopyName may m) (IsDeclared p.declarations) m.symbols value s.store.bounds (cell_of y) v t u range (no_symbol y c) a

  symbols_scalar : (y : List ℕ) → In y m.symbols → s.store.bounds y ≡ Some []
  symbols_scalar y i = symbol_bounds width p around deepest m h s.store run.holds run.values run.valued y i

  turning : (ls : List Loop) (l : Loop) (ps : Parts) (is : List ℕ) (pre post : List Standing) → Round ls → In l (nest_loops m) → IsPlain (Turns l ps) → TurnsAre ls l
      → AllFine (names_in l.last) → IsPlace (nest_statements m) ls (l ∷ loops_in_parts ps) pre (statements_in_parts (ls ++ l ∷ []) ps) post
      → Turning (bits_of width) counters like KnownTurns ls l is (length pre) (count_in ps)
  turning ls l ps is pre post round inside plain turns fine place = record {
    first = plain.0.first;
    step = plain.0.step;
    counter = among_true (variables_of_loops (nest_loops m)) l.variable (map-In (λ (q : Loop). q.variable) l (nest_loops m) inside);
    own = other_variables l ls (l ∷ loops_in_parts ps) (inl refl) (bearing l inside) round place.round;
    same = λ t u a z e. sym (number_alike (bits_of width) t u l.last (each_of (Alike (bits_of width) t u) (names_in l.last) (λ x i. (
      a.stores.first x ∙ sym (a.stores.second x),
      λ zs c f. sym (a.stores.held c (subst (λ y. ¬ IsCopyName may m y) (sym (cell_in-named (t.bounds x) x zs c f)) (fine x i).0)),
    )))) ∙ e;
    turns_are = λ t u a z n e f. turns is t z n
        (λ o i. (a.scalars o.variable (among_true (variables_of_loops (nest_loops m)) o.variable (map-In (λ (q : Loop). q.variable) o (nest_loops m) (round o i)))).0)
        (λ y i. (a.stores.first y ∙ symbols_scalar y i, a.stores.fixed y i)) a.first e f;
    begins = λ t u a. a;
    next = λ i small t u a. a;
    ends = λ n known t u a. a;
  }

  -- ---- parts

  more_round : (ls : List Loop) (l : Loop) → Round ls → In l (nest_loops m) → Round (ls ++ l ∷ [])
  more_round ls l f b o i = by (In-append o ls (l ∷ []) i)
    where
      by : In o ls ⊎ In o (l ∷ []) → In o (nest_loops m)
      by (inl j) = f o j
      by (inr (inl e)) = subst (λ q. In q (nest_loops m)) (sym e) b
      by (inr (inr j)) = absurd j

  mutual
    part_leads : (line : ℕ) (ls : List Loop) (is : List ℕ) (q : Part) (pre post : List Standing) → IsPlain q → Round ls → AreTurns trip [] ls is
        → ((o : Loop) → In o (loops_of q) → In o (nest_loops m)) → flow.EachLoop TurnsAre ls q → AllFine (names_in_statement (statement_of_part line q))
        → IsPlace (nest_statements m) ls (loops_of q) pre (statements_in ls q) post → AllLead (each_raw may m) (bits_of width) line KnownTurns At ls is (length pre) q
    part_leads line ls is (Run g) pre post plain round turns among each_turns fine place = one_leads ls is round turns pre post g place.parted fine line
    part_leads line ls is (Turns l ps) pre post plain round turns among each_turns fine place = (
      loop_turns (each_raw may m) (bits_of width) line counters like (wide_enough (bits_of width) (narrowest width)) steady KnownTurns ls l is (length pre) (count_in ps)
          (turning ls l ps is pre post round (among l (inl refl)) plain each_turns.0
          (λ x i. fine x (inr (In-left x (names_in l.first ++ names_in l.last ++ names_in (numeral l.step)) (names_in_block (block_of_parts line ps))
          (In-left x (names_in l.first ++ names_in l.last) (names_in (numeral l.step)) (In-right x (names_in l.first) (names_in l.last) i))))) place),
      λ n known i low high. parts_lead line (ls ++ l ∷ []) (is ++ i ∷ []) ps pre post plain.1 (more_round ls l round (among l (inl refl)))
          (turns_more trip [] ls is l i turns low (subst (λ x. i ≤ x) (sym known) high)) (λ o j. among o (inr j)) each_turns.1
          (λ x j. fine x (inr (In-right x (names_in l.first ++ names_in l.last ++ names_in (numeral l.step)) (names_in_block (block_of_parts line ps)) j)))
          (inner_place (nest_statements m) ls l ps pre post place),
    )
    part_leads line ls is (Choice bs ps) pre post plain round turns among each_turns fine place = absurd plain
    part_leads line ls is (Label n) pre post plain round turns among each_turns fine place = absurd plain
    part_leads line ls is (Jump n) pre post plain round turns among each_turns fine place = absurd plain

    parts_lead : (line : ℕ) (ls : List Loop) (is : List ℕ) (ps : Parts) (pre post : List Standing) → ArePlain ps → Round ls → AreTurns trip [] ls is
        → ((o : Loop) → In o (loops_in_parts ps) → In o (nest_loops m)) → flow.EachLoopIn TurnsAre ls ps → AllFine (names_in_block (block_of_parts line ps))
        → IsPlace (nest_statements m) ls (loops_in_parts ps) pre (statements_in_parts ls ps) post → AllLeadIn (each_raw may m) (bits_of width) line KnownTurns At ls is (length pre) ps
    parts_lead line ls is no_parts pre post plain round turns among each_turns fine place = tt
    parts_lead line ls is (part q ps) pre post plain round turns among each_turns fine place = (
      part_leads line ls is q pre (statements_in_parts ls ps ++ post) plain.0 round turns (λ o i. among o (In-left o (loops_of q) (loops_in_parts ps) i)) each_turns.0
          (fine_front (names_in_statement (statement_of_part line q)) (names_in_block (block_of_parts line ps)) fine)
          (first_place (nest_statements m) ls q ps plain.0 plain.1 pre post place),
      subst (λ k. AllLeadIn (each_raw may m) (bits_of width) line KnownTurns At ls is k ps) long
          (parts_lead line ls is ps (pre ++ statements_in ls q) post plain.1 round turns (λ o i. among o (In-right o (loops_of q) (loops_in_parts ps) i)) each_turns.1
          (fine_rest (names_in_statement (statement_of_part line q)) (names_in_block (block_of_parts line ps)) fine)
          (rest_place (nest_statements m) ls q ps plain.0 plain.1 pre post place)),
    )
      where
        long : length (pre ++ statements_in ls q) ≡ length pre + count_of q
        long = length-append pre (statements_in ls q) ∙ ap (λ n. length pre + n) (count_part ls q plain.0)

  -- ---- the nest

  whole_place : IsPlace (nest_statements m) [] (loops_of m.body) [] (statements_in [] m.body) []
  whole_place = record {
    parted = sym (append-nil (nest_statements m));
    before = λ s i. absurd i;
    behind = λ s i. absurd i;
    round = λ a b i. absurd i;
    once = distinct_too (numbers_of (nest_loops m)) h.parts.once;
  }

  body_leads : AllLead (each_raw may m) (bits_of width) m.line KnownTurns At [] [] 0 m.body
  body_leads =
      part_leads m.line [] [] m.body [] [] h.plain (λ o i. absurd i) tt (λ o i. i) all_turn
      (fine_front (names_in_statement (statement_of_part m.line m.body)) (names_in_block m.after) fine_block) whole_place

  start : At [] [] 0 s.store s.store
  start = record {
    stores = record {
      first = λ x. refl;
      second = λ x. refl;
      held = λ c n. refl;
      ranged = λ c known. in_range (declared p.declarations c.name) (s.store.held c) known (run.holds.kinds c);
      fixed = λ z i. symbol_held width p around deepest m h s.store run.holds run.values run.valued z i;
    };
    scalars = λ y c. (counter_scalar s.store run.holds y c, counter_scalar s.store run.holds y c);
    first = tt;
    second = tt;
  }
    where
      in_range : (o : Option Declaration) (v : Value) → IsSomeAnd o (λ (d : Declaration). ⊤) → IfSome o (λ (d : Declaration). IsStorable (fortran77 width) d.kind v) → is_in_range (bits_of width) v ≡ true
      in_range None v k g = absurd k
      in_range (Some d) v k g = g.within

  clear_after : Clear (bits_of width) (IsCopyName may m) (names_in_block m.after)
  clear_after x i = (fine_rest (names_in_statement (statement_of_part m.line m.body)) (names_in_block m.after) fine_block x i).0

  module _ (l : Loop) (ps : Parts) (body : m.body ≡ Turns l ps) where
    abbrev Start : Store → Store → Type 0
    Start = At [] [] 0

    abbrev End : Store → Store → Type 0
    End = At [] [] (count_of m.body)

    loops : Leads Start End (does (fortran77 width) None (statement_of_part m.line m.body)) (does (fortran77 width) None (statement_of_part m.line (mapped_body (each_raw may m) m.body)))
    loops =
        subst (λ (b : Part). Leads Start End (does (fortran77 width) None (statement_of_part m.line m.body)) (does (fortran77 width) None (statement_of_part m.line (mapped_body (each_raw may m) b)))) (sym body)
        (subst (λ (b : Part). Leads Start End (does (fortran77 width) None (statement_of_part m.line m.body))
        (does_all (fortran77 width) None (block_of_parts m.line (parts (mapped_parts_of (each_raw may m) [] 0 b))))) body
        (mapped_nest_leads (each_raw may m) (bits_of width) m.line KnownTurns At m.body (narrowest width) body_leads))

    after : Leads (AreSame (bits_of width) (IsCopyName may m)) (AreSame (bits_of width) (IsCopyName may m)) (does_all (fortran77 width) None m.after) (does_all (fortran77 width) None m.after)
    after = endings_lead (bits_of width) (IsCopyName may m) m.after h.parts.after.endings clear_after

    ended : (t u : Store) → End t u → AreSame (bits_of width) (IsCopyName may m) t u
    ended t u a = record { bounds = λ x. a.stores.second x ∙ sym (a.stores.first x); held = a.stores.held }

    led : IsSound (does_all (fortran77 width) None (loops_then_after m) s).way
        → Led (AreSame (bits_of width) (IsCopyName may m)) (does_all (fortran77 width) None (loops_then_after m) s) (does_all (fortran77 width) None (loops_then_after (raw_nest may m)) s)
    led sound =
        (Leads-then Start (AreSame (bits_of width) (IsCopyName may m)) (AreSame (bits_of width) (IsCopyName may m)) _ _ _ _ (Leads-to Start End (AreSame (bits_of width) (IsCopyName may m)) _ _ ended loops)
        (Stays-does_all (fortran77 width) None m.after) after).at s s.store s.steps run.going start sound

    goes_on : HoldsSized s.store → IsSound (does_all (fortran77 width) None (loops_then_after m) s).way
        → GoOnButCopies may m (does_all (fortran77 width) None (loops_then_after m) s) (does_all (fortran77 width) None (loops_then_after (with_copy_arrays may m (made_arrays may m))) s)
    goes_on sized sound =
        subst (GoOnButCopies may m (does_all (fortran77 width) None (loops_then_after m) s)) (sym there)
        (record { going = one.going; bounds = one.stores.bounds; held = one.stores.held; rest = one.rest })
      where
        one : Led (AreSame (bits_of width) (IsCopyName may m)) (does_all (fortran77 width) None (loops_then_after m) s) (does_all (fortran77 width) None (loops_then_after (raw_nest may m)) s)
        one = led sound

        plain : IsPlain (mapped_body (each_raw may m) m.body)
        plain = (mapped_nest_has (each_raw may m) m can.loop h.plain).plain

        way : (does_all (fortran77 width) None (loops_then_after (raw_nest may m)) s).way ≡ Going
        way = ap (λ (t : State). t.way) one.rest ∙ one.going

        there : does_all (fortran77 width) None (loops_then_after (with_copy_arrays may m (made_arrays may m))) s ≡ does_all (fortran77 width) None (loops_then_after (raw_nest may m)) s
        there =
            ap (λ (z : Nest). does_all (fortran77 width) None (loops_then_after z) s) (whole_is may m can.loop)
            ∙ texts_run_alike width (raw_nest may m) s plain sized (subst IsSound (sym way) tt)

pub split_nest_goes_on_as_nest : (width : Width) → SplitNestGoesOnAsNest width
split_nest_goes_on_as_nest width p around deepest may m k s h can split run sized sound =
    subst (λ (z : Nest). MayRun width p z s → GoOnButCopies may m (does_all (fortran77 width) None (loops_then_after m) s) (does_all (fortran77 width) None (loops_then_after z) s)) (sym same)
    (λ r. by m.body refl can.loop r) run
  where
    same : k ≡ with_copy_arrays may m (made_arrays may m)
    same = split_is may m k split

    by : (b : Part) → m.body ≡ b → IsLoop b → MayRun width p (with_copy_arrays may m (made_arrays may m)) s
        → GoOnButCopies may m (does_all (fortran77 width) None (loops_then_after m) s) (does_all (fortran77 width) None (loops_then_after (with_copy_arrays may m (made_arrays may m))) s)
    by (Turns l ps) e loop r = goes_on width p around deepest may m h can s r l ps e sized sound
    by (Run g) e loop r = absurd loop
    by (Choice bs ps) e loop r = absurd loop
    by (Label n) e loop r = absurd loop
    by (Jump n) e loop r = absurd loop
