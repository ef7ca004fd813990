-- What is emitted for a prepared nest is of the profile, with what comes after it, and within its allocations.
use Rattle.std.proofs.Common.{◌≡◌, ◌⊎◌, refl, sym, ap, ◌∙◌, subst, inl, inr, ℕ, zero, suc, ◌+◌, ◌^◌, ◌<◌, ◌≤◌, max, ℤ, pos}
use Rattle.std.proofs.Common.{List, [], ◌∷◌, ◌++◌, length, map, Option, Some, None, IfSome, Contains, arith}
use Rattle.std.proofs.lemmas.List.Elements.{All-contains}
use Rattle.std.specs.Option.{IsSomeAnd}
use Rattle.std.specs.Prelude.{All, codes, nat_abs, slice_get}
use Rattle.array_form.proofs.profile.Assigned.{array_forms_of_profile}
use Rattle.array_form.specs.holds.Statements.{no_statement}
use Rattle.array_form.specs.profile.Laws.{IsGuard, rise}
use Rattle.array_form.specs.profile.Settings.{IsWritable}
use Rattle.components.specs.Lists.{Each}
use Rattle.dependence_graph.specs.nest_graph.Ready.{IsReady}
use Rattle.emission.proofs.EmissionForms.FormsTurns.{HaveKnown, have_known, trip_in}
use Rattle.emission.proofs.EmissionForms.Surroundings.{names_distinct}
use Rattle.emission.specs.emission_forms.Forms.{surroundings_at}
use Rattle.emission.specs.emission_pieces.Nests.{loops_at, standing_at}
use Rattle.emission.specs.emission_pieces.Pieces.{Pieces, block_of_pieces, translation}
use Rattle.last_values.specs.normal_forms.Texts.{trip_text}
use Rattle.linear_forms.specs.Texts.{text_of}
use Rattle.meaning.specs.Blocks.{Surroundings}
use Rattle.meaning.specs.Labels.{IsLine}
use Rattle.meaning.specs.Depths.{depth_of, depth_of_each}
use Rattle.meaning.specs.Holding.{HasBounds}
use Rattle.meaning.specs.Profile90.{AreDeclarations, IsBlock}
use Rattle.meaning.specs.Extents.{IsAllocatable}
use Rattle.meaning.specs.Typed.{declared, number_of_arguments, rank_of_extent}
use Rattle.meaning.specs.Typed90.{AreScalars, IsFree, IsIntegerScalar, IsScalar, SuitsDimensions}
use Rattle.meaning.specs.Value.{named}
use Rattle.meaning_laws.specs.profiles.Profiles.{AddMadeNames}
use Rattle.nest.specs.Allocations.{allocation_then, allocations_then, block_then, deallocation_then, deallocations}
use Rattle.nest.specs.Bodies.{nest_loops, nest_statements}
use Rattle.nest.specs.Plain.{Loop, Made, Nest}
use Rattle.nest.specs.declared.parts.Trip.{Trip}
use Rattle.nest_order.proofs.orders.Lists.{In-right}
use Rattle.nest_order.specs.orders.Lists.{In}
use Rattle.nest_order.specs.runs.Stores.{Setting}
use Rattle.nest_order.specs.shapes.Shapes.{numbers_of}
use Rattle.pass_laws.proofs.NormalFacts.MadeStatements.{counter_long, variables_of_loops}
use Rattle.pass_laws.proofs.NormalFacts.StatementKinds.{IsNumber, small_form}
use Rattle.pass_laws.proofs.NormalFacts.Tables.{all_in, each_from}
use Rattle.pass_laws.specs.normal_facts.Laws.{IsCounter}
use Rattle.tree.specs.Limits.{expression_depth90}
use Rattle.tree.specs.Names.{IsSourceName}
use Rattle.tree.specs.Plain.{Block, Declaration, Expression, Extent, Given, Later, Program, Reference, expressions}
use Rattle.tree.specs.Plain.{no_statements, statement}
use Rattle.tree.specs.declared.ops.Kind.{Kind}
use Rattle.tree.specs.declared.ops.Kind.TheVariants.{Integer, Logical}
use Rattle.pass_laws.proofs.PreparedNests.Facts.{text}
use Rattle.pass_laws.proofs.PreparedNests.FormFacts.{distinct_too as array_distinct, trips}
use Rattle.pass_laws.proofs.PreparedNests.Lists.{distinct_too, ordered_distinct, some_of, within_32}
use Rattle.pass_laws.proofs.PreparedNests.Normal.LoopSizes.{IsSized}
use Rattle.pass_laws.proofs.PreparedNests.Normal.TextDepths.{trip_deep}
use Rattle.pass_laws.proofs.PreparedNests.Normal.TextKinds.{quotient_is, text_is}
use Rattle.pass_laws.proofs.PreparedNests.Ready.{few_loops, prepared_nest_is_ready, round_statement}
use Rattle.pass_laws.proofs.PreparedNests.Regular.{prepared_nest_is_regular}
use Rattle.pass_laws.proofs.PreparedNests.Walks.{Follow}
use Rattle.pass_laws.specs.prepared_nests.After.{CountsNone}
use Rattle.pass_laws.specs.prepared_nests.Loops as loops
use Rattle.pass_laws.specs.prepared_nests.Loops.{IsPreparedLoop, IsPreparedTrip}
use Rattle.pass_laws.specs.prepared_nests.Made.{IsPreparedExtent, IsPreparedMade, extent_for}
use Rattle.pass_laws.specs.prepared_nests.Nests.{IsPrepared, IsPreparedSymbol}
use Rattle.pass_laws.specs.prepared_nests.Statements.{IsPreparedStatement, expressions_of, guard_or_none, made_names}
use Rattle.pass_laws.proofs.PreparedRuns.Blocks.{then_is}
use Rattle.pass_laws.proofs.PreparedRuns.Endings.{endings_no_label}
use Rattle.pass_laws.proofs.PreparedRuns.FitPieces.{IsFitLoop, IsFitNest, IsFitStatement, emission_is}
use Rattle.pass_laws.proofs.PreparedRuns.LoopPlaces.{element, one_depth}
use Rattle.pass_laws.proofs.PreparedRuns.Pieces.{pieces_no_label, then_no_label}
use Rattle.pass_laws.proofs.PreparedRuns.Writable.{writable_is}
use Rattle.pass_laws.specs.prepared_runs.Laws.{PreparedTranslationIsOfProfile}
use Rattle.pass_laws.specs.prepared_runs.Running.{ArePiecesOf}
use Rattle.pass_laws.specs.prepared_runs.Unlabelled.{HasNoLabel}

-- ---- names

source_counts_none : (x : List ℕ) → IsSourceName x → CountsNone x
source_counts_none x s k e = counter_long x k s.within e

counter_integer : (o : Option Declaration) → IsSomeAnd o IsCounter
    → IsSomeAnd o (λ (d : Declaration). (d.kind ≡ Integer) × (rank_of_extent d.extent ≡ 0))
counter_integer None h = absurd h
counter_integer (Some e) h = (h.kind, ap rank_of_extent h.scalar)

-- a name that a reference has is declared with its kind
kind_found : (es : List Declaration) (r : Reference) (k : Kind) → IsScalar es (named r) k
    → IsSomeAnd (declared es r.name) (λ (d : Declaration). d.kind ≡ k)
kind_found es r k g = by (declared es r.name) g.0.0
  where
    by : (o : Option Declaration)
        → IsSomeAnd o (λ (d : Declaration). (k ≡ d.kind) × SuitsDimensions r.subscripts (rank_of_extent d.extent))
        → IsSomeAnd o (λ (d : Declaration). d.kind ≡ k)
    by None f = absurd f
    by (Some d) f = sym f.0

-- ---- bounds as declared

abbrev bounds_of : Extent → Option (List (ℤ × ℤ))
bounds_of (Given bs) = Some bs
bounds_of (Later k) = None

abbrev bounds_by : Option Declaration → Option (List (ℤ × ℤ))
bounds_by None = None
bounds_by (Some d) = bounds_of d.extent

abbrev program_of : List Declaration → Program
program_of es = record { name = None; declarations = es; body = no_statements }

abbrev setting_of : List Declaration → Setting
setting_of es = record { program = program_of es; bounds = λ x. bounds_by (declared es x); values = λ k. pos 0 }

bounds_are : (o : Option Declaration) → IfSome o (λ (e : Declaration). HasBounds e.extent (bounds_by o))
bounds_are None = tt
bounds_are (Some d) = by d.extent
  where
    by : (e : Extent) → HasBounds e (bounds_of e)
    by (Given bs) = refl
    by (Later k) = tt

-- ---- trips

same_trip : (s t : Trip) → ◌≡◌ {A = Option Trip} (Some s) (Some t) → s ≡ t
same_trip s t e = cc

small_by : (o : Option Trip) (t : Trip) (z : ℤ) (n : ℕ) → o ≡ Some t → t.by ≡ z → z ≡ pos n → n ≤ 2 ^ 40
    → IsSomeAnd o (λ (u : Trip). nat_abs u.by ≤ 2 ^ 40)
small_by None t z n e f g h = let no : ⊥ = cc in absurd no
small_by (Some u) t z n e f g h =
    let same : u ≡ t = same_trip u t e in
    subst (λ (v : Trip). nat_abs v.by ≤ 2 ^ 40) (sym same) (subst (λ (y : ℤ). nat_abs y ≤ 2 ^ 40) (sym (f ∙ g)) h)

module _ (es : List Declaration) (symbols : List (List ℕ)) (ints : Each (IsIntegerScalar es) symbols) where
  trip_number : (round : List (List ℕ)) (d : ℕ) (last : Expression) (t : Trip) → Each (IsIntegerScalar es) round
      → IsPreparedTrip round symbols last t → IsNumber es (trip_text round symbols [] t)
  unfolding trip_text
  trip_number round d last t own h =
      quotient_is es (text_of round symbols [] t.top) t.by h.divisor h.by h.small
      (text_is es round symbols [] t.top own ints tt (small_form (length round) t.top h.top))

  fit_loop : (before : List Loop) (l : Loop) (depth : ℕ) → Each (IsIntegerScalar es) (variables_of_loops before)
      → IsPreparedLoop es symbols before l → HaveKnown symbols depth (l ∷ []) → IsFitLoop es l
  fit_loop before l depth own h known =
      let t = some_of (IsPreparedTrip (loops.variables_of_loops before) symbols l.last) l.trip h.trip in
      let is : IsPreparedTrip (loops.variables_of_loops before) symbols l.last t.value = t.has in
      let same : trip_in l ≡ t.value = same_trip (trip_in l) t.value (sym known.0 ∙ t.is) in
      let seven : length t.value.top.loops ≡ 7 = is.seven in
      let eight : length t.value.top.syms ≡ 8 = subst (λ (u : Trip). length u.top.syms ≡ 8) same known.1.eight in
      let sized : IsSized t.value.top = record { loops = omega (arith, seven); symbols = omega (arith, eight) } in
      let deep = trip_deep (loops.variables_of_loops before) symbols [] t.value 0 sized tt in
      let room : depth_of (trip_text (loops.variables_of_loops before) symbols [] t.value) ≤ expression_depth90
      = omega (arith, deep) in
      record {
        number = within_32 l.number h.number;
        name = h.variable;
        integer = counter_integer (declared es l.variable) h.counter;
        last = record {
          suits = subst (λ (e : Expression). IsNumber es e) (sym is.text)
              (trip_number (loops.variables_of_loops before) depth l.last t.value own is);
          depth = subst (λ (e : Expression). depth_of e ≤ expression_depth90) (sym is.text) room;
        };
        trip = small_by l.trip t.value t.value.by is.divisor t.is refl is.by is.small;
      }

  fit_loops : (before ls : List Loop) (depth : ℕ) → Each (IsIntegerScalar es) (variables_of_loops before)
      → Follow (IsPreparedLoop es symbols) before ls → HaveKnown symbols depth ls
      → Each (IsFitLoop es) ls × Each (IsIntegerScalar es) (variables_of_loops ls)
  fit_loops before [] depth own h known = (tt, tt)
  fit_loops before (l ∷ ls) depth own h known =
      let integer = counter_integer (declared es l.variable) h.0.counter in
      let more = fit_loops (before ++ l ∷ []) ls (suc depth) (one_more before l own integer) h.1 known.2 in
      ((fit_loop before l depth own h.0 (known.0, known.1, tt), more.0), (integer, more.1))
    where
      one_more : (before : List Loop) (l : Loop) → Each (IsIntegerScalar es) (variables_of_loops before)
          → IsIntegerScalar es l.variable → Each (IsIntegerScalar es) (variables_of_loops (before ++ l ∷ []))
      one_more [] l h g = (g, tt)
      one_more (k ∷ ks) l h g = (h.0, one_more ks l h.1 g)

each_there : {A : Type 0} (P : A → Type 0) (xs : List A) (k : ℕ) (x : A) → Each P xs → slice_get xs k ≡ Some x → P x
each_there P [] k x h e = let no : ⊥ = cc in absurd no
each_there P (y ∷ xs) zero x h e = let same : y ≡ x = cc in subst P same h.0
each_there P (y ∷ xs) (suc k) x h e = each_there P xs k x h.1 e

-- ---- allocations

as_many : (es : List Expression) → number_of_arguments (expressions es) ≡ length es
as_many [] = refl
as_many (e ∷ es) = let h = as_many es in omega (arith, h)

no_deeper : (es : List Expression) (d : ℕ) → ((e : Expression) → In e es → depth_of e ≤ d)
    → depth_of_each (expressions es) ≤ d
no_deeper [] d f = omega arith
no_deeper (e ∷ es) d f = joined (depth_of e) (depth_of_each (expressions es)) d (f e (inl refl)) (no_deeper es d (λ x i. f x (inr i)))
  where
    joined : (m n d : ℕ) → m ≤ d → n ≤ d → max m n ≤ d
    joined m n d h g = omega (arith, h, g)

are_scalars : (ds : List Declaration) (es : List Expression) → ((e : Expression) → In e es → IsScalar ds e Integer)
    → AreScalars ds (expressions es) Integer
are_scalars ds [] f = tt
are_scalars ds (e ∷ es) f = (f e (inl refl), are_scalars ds es (λ x i. f x (inr i)))

module _ (es : List Declaration) (symbols : List (List ℕ)) (deepest line : ℕ) (room : deepest ≤ expression_depth90)
    (is_line : IsLine line) (w : Surroundings) where
  -- an array, and no scalar
  allocation : (a : Made) (b : Block) → IsPreparedMade es symbols deepest a → IsBlock es b w → HasNoLabel b
      → IsBlock es (allocation_then line a.name a.extents b) w × HasNoLabel (allocation_then line a.name a.extents b)
  allocation a b h is free = by a.extents refl
    where
      declared_so : (xs : List Expression) → a.extents ≡ xs → (o : Option Declaration)
          → IsSomeAnd o (λ (d : Declaration). (d.kind ≡ a.kind) × (d.extent ≡ extent_for a.extents))
          → IsSomeAnd o (λ (d : Declaration). d.extent ≡ extent_for xs)
      declared_so xs e None g = absurd g
      declared_so xs e (Some d) g = g.1 ∙ ap extent_for e

      extents : (xs : List Expression) → a.extents ≡ xs → (x : Expression) → In x xs → IsPreparedExtent es symbols deepest x
      extents xs e x i = all_in (IsPreparedExtent es symbols deepest) xs (subst (All (IsPreparedExtent es symbols deepest)) e h.extents) x i

      later : (x : Expression) (xs : List Expression) (o : Option Declaration)
          → IsSomeAnd o (λ (d : Declaration). d.extent ≡ extent_for (x ∷ xs))
          → IsSomeAnd o (λ (d : Declaration). d.extent ≡ Later (number_of_arguments (expressions (x ∷ xs))))
      later x xs None g = absurd g
      later x xs (Some d) g = g ∙ ap Later (sym (as_many (x ∷ xs)))

      by : (xs : List Expression) → a.extents ≡ xs
          → IsBlock es (allocation_then line a.name xs b) w × HasNoLabel (allocation_then line a.name xs b)
      by [] e = (is, free)
      by (x ∷ xs) e = (
        (
          (
            is_line,
            (
              later x xs (declared es a.name) (declared_so (x ∷ xs) e (declared es a.name) h.declaration),
              are_scalars es (x ∷ xs) (λ y i. (extents (x ∷ xs) e y i).kind),
              (let deep = no_deeper (x ∷ xs) deepest (λ y i. (extents (x ∷ xs) e y i).deep) in omega (arith, deep, room)),
            ),
          ),
          is,
        ),
        (tt, free),
      )

  pub allocations_are : (made : List Made) (b : Block) → ((a : Made) → In a made → IsPreparedMade es symbols deepest a)
      → IsBlock es b w → HasNoLabel b
      → IsBlock es (allocations_then line made b) w × HasNoLabel (allocations_then line made b)
  allocations_are [] b f is free = (is, free)
  allocations_are (a ∷ more) b f is free =
      let rest = allocations_are more b (λ x i. f x (inr i)) is free in
      allocation a (allocations_then line more b) (f a (inl refl)) rest.0 rest.1

  deallocation : (a : Made) (b : Block) → IsPreparedMade es symbols deepest a → IsBlock es b w → HasNoLabel b
      → IsBlock es (deallocation_then line a.name a.extents b) w × HasNoLabel (deallocation_then line a.name a.extents b)
  deallocation a b h is free = by a.extents refl
    where
      later : (x : Expression) (xs : List Expression) → a.extents ≡ x ∷ xs → (o : Option Declaration)
          → IsSomeAnd o (λ (d : Declaration). (d.kind ≡ a.kind) × (d.extent ≡ extent_for a.extents))
          → IsSomeAnd o (λ (d : Declaration). IsAllocatable d.extent)
      later x xs e None g = absurd g
      later x xs e (Some d) g = subst IsAllocatable (sym (g.1 ∙ ap extent_for e)) tt

      by : (xs : List Expression) → a.extents ≡ xs
          → IsBlock es (deallocation_then line a.name xs b) w × HasNoLabel (deallocation_then line a.name xs b)
      by [] e = (is, free)
      by (x ∷ xs) e = (((is_line, later x xs e (declared es a.name) h.declaration), is), (tt, free))

  pub deallocations_are : (made : List Made) → ((a : Made) → In a made → IsPreparedMade es symbols deepest a)
      → IsBlock es (deallocations line made) w × HasNoLabel (deallocations line made)
  deallocations_are [] f = (tt, tt)
  deallocations_are (a ∷ more) f =
      let rest = deallocations_are more (λ x i. f x (inr i)) in
      deallocation a (deallocations line more) (f a (inl refl)) rest.0 rest.1

-- ---- the block

module _ (es : List Declaration) (around : List (List ℕ)) (deepest : ℕ) (m : Nest) (ps : Pieces) (w : Surroundings)
    (are : AreDeclarations es) (h : IsPrepared es around deepest m) (pieces : ArePiecesOf m ps)
    (few : length (nest_statements m) + 1 < 2 ^ 32) (room : deepest + rise ≤ expression_depth90)
    (added : AddMadeNames m.declarations es) (transpose : IsFree es (codes "TRANSPOSE")) (reshape : IsFree es (codes "RESHAPE"))
    (same : w.variables ≡ around) where
  ready : IsReady m
  ready = prepared_nest_is_ready es around deepest m are h

  symbols : Each (IsIntegerScalar es) m.symbols
  symbols =
      each_from (IsIntegerScalar es) m.symbols
      (λ y i. counter_integer (declared es y) (all_in (IsPreparedSymbol es) m.symbols h.parts.symbols y i).scalar)

  in_nest : (s : ℕ) → s < length (nest_statements m) → In (standing_at m s) (nest_statements m)
  in_nest s within = element (nest_statements m) s no_statement within

  statement_is : (s : ℕ) → s < length (nest_statements m) → IsPreparedStatement es m deepest (standing_at m s)
  statement_is s within =
      all_in (IsPreparedStatement es m deepest) (nest_statements m) h.parts.statements (standing_at m s) (in_nest s within)

  -- ---- its loops

  known : (s : ℕ) → s < length (nest_statements m) → HaveKnown m.symbols 0 (loops_at m s)
  known s within =
      have_known m.symbols [] (loops_at m s) (ready.statements s no_statement within).trips (trips es around deepest m h s within)

  round_loops : (s : ℕ) → s < length (nest_statements m)
      → Each (IsFitLoop es) (loops_at m s) × Each (IsIntegerScalar es) (variables_of_loops (loops_at m s))
  round_loops s within =
      fit_loops es m.symbols symbols [] (loops_at m s) 0 tt
      (round_statement es around deepest m h (standing_at m s) (in_nest s within)).follow (known s within)

  deep : (s : ℕ) → s < length (nest_statements m) → length (loops_at m s) ≤ 7
  deep s within = few_loops es around deepest m h (standing_at m s) (in_nest s within)

  -- ---- its statements

  made_counts_none : (x : List ℕ) → Contains (made_names m) x → CountsNone x
  made_counts_none x c =
      All-contains CountsNone (made_names m) x
      (λ k d i. All-counters m.made (λ a j. (all_in (IsPreparedMade es m.symbols deepest) m.made h.parts.made a j).counter) k d i) c
    where
      All-counters : (ms : List Made) → ((a : Made) → In a ms → CountsNone a.name) → All CountsNone (map (λ (a : Made). a.name) ms)
      All-counters [] f k d i = absurd (omega (arith, i))
      All-counters (a ∷ ms) f zero d i = f a (inl refl)
      All-counters (a ∷ ms) f (suc k) d i = All-counters ms (λ x j. f x (inr j)) k d (omega (arith, i))

  guard_fits : (o : Option Expression) (rest : List Expression) → IfSome o (λ (e : Expression). IsScalar es e Logical)
      → All (λ (e : Expression). depth_of e ≤ deepest) (guard_or_none o ++ rest) → IsGuard es o
  guard_fits None rest k d = tt
  guard_fits (Some e) rest k d =
      let deep = all_in (λ (x : Expression). depth_of x ≤ deepest) (e ∷ rest) d e (inl refl) in
      (k, omega (arith, deep, room))

  fit_statement : (s : ℕ) → s < length (nest_statements m)
      → IsFitStatement es w (standing_at m s).statement.line (standing_at m s).statement.guard (standing_at m s).statement.left (standing_at m s).statement.right
  fit_statement s within =
      let g = (standing_at m s).statement in
      let is = statement_is s within in
      let left_deep = all_in (λ (e : Expression). depth_of e ≤ deepest) (expressions_of g) is.deep (named g.left)
      (In-right (named g.left) (guard_or_none g.guard) (named g.left ∷ g.right ∷ []) (inl refl)) in
      let right_deep = all_in (λ (e : Expression). depth_of e ≤ deepest) (expressions_of g) is.deep g.right
      (In-right g.right (guard_or_none g.guard) (named g.left ∷ g.right ∷ []) (inr (inl refl))) in
      record {
        line_is = is.line;
        guard_is = guard_fits g.guard (named g.left ∷ g.right ∷ []) is.guard is.deep;
        kind = is.kind;
        found = kind_found es g.left is.kind is.left;
        left_is = is.left;
        right_is = is.right;
        left_depth = omega (arith, left_deep, room);
        right_depth = omega (arith, right_deep, room);
        apart = by is.target;
        outside = λ c. all_in (λ x. ¬ Contains around x.statement.left.name) (nest_statements m) h.parts.outside (standing_at m s)
            (in_nest s within) (subst (λ (xs : List (List ℕ)). Contains xs g.left.name) same c);
      }
    where
      by : {x : List ℕ} → IsSourceName x ⊎ Contains (made_names m) x → CountsNone x
      by {x} (inl n) = source_counts_none x n
      by {x} (inr c) = made_counts_none x c

  -- ---- all of it

  bounds : (x : List ℕ) → IfSome (declared es x) (λ (d : Declaration). HasBounds d.extent ((setting_of es).bounds x))
  bounds x = bounds_are (declared es x)

  writable : (s : ℕ) → s < length (nest_statements m) → IsWritable es (surroundings_at m s)
  writable s within =
      let f = round_loops s within in
      writable_is es m (loops_at m s) added transpose reshape (deep s within)
      (names_distinct m h.plain ready s within (text around deepest m (setting_of es) h bounds (λ k x e. omega arith))
      (array_distinct m.symbols (ordered_distinct m.symbols h.parts.ordered)))
      f.1 symbols (known s within) f.0

  fit : IsFitNest es m w
  fit = record {
    line = h.parts.line;
    number = h.parts.number;
    few = few;
    round = λ x c. source_counts_none x (All-contains IsSourceName around x h.parts.source (subst (λ (xs : List (List ℕ)). Contains xs x) same c));
    statements = fit_statement;
    loops = λ s k l within e. each_there (IsFitLoop es) (loops_at m s) k l (round_loops s within).0 e;
    deep = deep;
    depths = one_depth m h.plain (distinct_too (numbers_of (nest_loops m)) h.parts.once);
    writable = writable;
  }

  emitted : IsBlock es (block_of_pieces m 1 ps) w
  emitted =
      emission_is array_forms_of_profile es m w fit pieces.graph.edges pieces.holds (prepared_nest_is_regular es around deepest m h)
      pieces.all ps pieces.emitted

  each_made : (a : Made) → In a m.made → IsPreparedMade es m.symbols deepest a
  each_made a i = all_in (IsPreparedMade es m.symbols deepest) m.made h.parts.made a i

  is_of_profile : IsBlock es (translation m ps) w
  is_of_profile =
      let shallow : deepest ≤ expression_depth90 = omega (arith, room) in
      let gone = deallocations_are es m.symbols deepest m.line shallow h.parts.line w m.made each_made in
      let unlabelled = endings_no_label m.after h.parts.after.endings in
      let after = then_is es m.after (deallocations m.line m.made) w unlabelled gone.1 (h.parts.after.profile w same) gone.0 in
      let after_free = then_no_label m.after (deallocations m.line m.made) unlabelled gone.1 in
      let rest = block_then m.after (deallocations m.line m.made) in
      let all = then_is es (block_of_pieces m 1 ps) rest w (pieces_no_label m 1 ps) after_free emitted after in
      (allocations_are es m.symbols deepest m.line shallow h.parts.line w m.made (block_then (block_of_pieces m 1 ps) rest) each_made
      all (then_no_label (block_of_pieces m 1 ps) rest (pieces_no_label m 1 ps) after_free)).0

pub prepared_translation_is_of_profile : PreparedTranslationIsOfProfile
prepared_translation_is_of_profile es around deepest m ps w are h pieces few room added transpose reshape same =
    is_of_profile es around deepest m ps w are h pieces few room added transpose reshape same
