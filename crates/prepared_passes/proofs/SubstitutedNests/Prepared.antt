-- A prepared nest with its inductions substituted is prepared.
use Rattle.std.proofs.Common.{◌≡◌, ◌⊎◌, inl, inr, refl, sym, ap, ◌∙◌, subst, ℕ, ◌+◌, ◌≤◌, Bool, true, false, cond, ◌||◌, List, [], ◌∷◌, ◌++◌, map, length, Option, Some, None, Contains, arith}
use Rattle.std.specs.List.{AllByRecursion}
use Rattle.std.specs.Option.{IsSomeAnd}
use Rattle.std.specs.Prelude.{is_some, slice_get}
use Rattle.std.proofs.lemmas.Int.{ints}
use Rattle.std.proofs.lemmas.List.{length-map}
use Rattle.std.proofs.lemmas.List.Elements.{All-weaker}
use Rattle.components.specs.Lists as lists
use Rattle.components.specs.Lists.{Distinct}
use Rattle.tree.specs.declared.ops.Kind.TheVariants.{Integer}
use Rattle.tree.specs.Plain.{Declaration, Expression, block}
use Rattle.meaning.specs.Depths.{depth_of}
use Rattle.meaning.specs.Names.{is_among}
use Rattle.meaning.specs.Typed.{declared, rank_of_extent}
use Rattle.meaning.specs.Typed90.{IsIntegerScalar}
use Rattle.linear_forms.specs.CanonicalLaws.{AreDistinct}
use Rattle.nest.specs.Allocations.{block_then}
use Rattle.nest.specs.Bodies.{Standing, nest_loops, nest_statements, statements_in}
use Rattle.nest.specs.Plain.{Choice, Guarded, Jump, Label, Loop, Made, Nest, Part, Parts, Run, Turns, no_parts, part, parts}
use Rattle.nest.specs.declared.parts.Trip.{Trip}
use Rattle.nest_order.proofs.orders.Membership.{In-map, map-In}
use Rattle.nest_order.specs.orders.Lists.{Each, In}
use Rattle.nest_order.specs.runs.Guarded.{names_of}
use Rattle.nest_order.specs.shapes.Shapes.{IsPlain, numbers_of}
use Rattle.nest_rewrite.specs.Statements.{rewritten_statement}
use Rattle.nest_steps.specs.Mapped.{count_of, mapped_parts_of, mapped_in}
use Rattle.pass_laws.proofs.NormalFacts.MadeStatements.{IsKnown, counter_long}
use Rattle.pass_laws.proofs.NormalFacts.Tables.{all_in, each_from}
use Rattle.pass_laws.proofs.NormalFacts.Texts.{IsStatementOver}
use Rattle.pass_laws.proofs.ReadyNests.Lists.{Each-All}
use Rattle.pass_laws.specs.normal_facts.Laws.{IsCounter}
use Rattle.pass_laws.specs.prepared_nests.After.{CountsNone}
use Rattle.pass_laws.specs.prepared_nests.Loops.{EachLoop, EachLoopIn, IsPreparedLoop, IsPreparedTrip, variables_of_loops}
use Rattle.pass_laws.specs.prepared_nests.Made.{IsPreparedExtent, IsPreparedMade}
use Rattle.pass_laws.specs.prepared_nests.Nests.{IsPrepared, IsPreparedSymbol}
use Rattle.pass_laws.specs.prepared_nests.Statements.{IsOwn, IsPreparedStatement, assignment, expressions_of, made_names}
use Rattle.pass_laws.proofs.PreparedNests.Lists.{Contains-In, In-Contains, below_32, distinct_too}
use Rattle.pass_laws.proofs.PreparedNests.Normal.Conditions.{known_variables}
use Rattle.pass_laws.proofs.PreparedNests.Normal.Statements.{own_names, plain_statement}
use Rattle.pass_laws.proofs.PreparedNests.Trips.{BearsNumber, bears_number}
use Rattle.pass_laws.proofs.PreparedNests.Walks.{AreRound, Follow, rounds}
use Rattle.statement_passes.specs.Passes.{mapped_body, mapped_nest}
use Rattle.statement_passes.specs.Shifted.{shifted_loop, shifted_part, shifted_parts, with_nest_symbol, with_nest_symbols}
use Rattle.statement_passes.specs.Symbols.{place_among}
use Rattle.statement_passes.specs.Standings.{IsLoop, mapped_standings, standings}
use Rattle.statement_passes.proofs.Standings.{mapped_nest_has}
use Rattle.prepared_passes.specs.symbols.Sources.{IsOfSource, names_declared}
use Rattle.prepared_passes.proofs.SymbolsAnew.Comes.{AreFresh, IsButText, IsStatementBut, symbols_are, symbols_have_come}
use Rattle.prepared_passes.proofs.SymbolsAnew.Names.{absent, no_more}
use Rattle.prepared_passes.proofs.SymbolsAnew.Over.{statement_over}
use Rattle.prepared_passes.proofs.SymbolsAnew.Settled.{settled_is, settled_standing}
use Rattle.inductions.specs.Ends.{induction_ending}
use Rattle.inductions.specs.Found.{inductions_by}
use Rattle.inductions.specs.Nests.{induction_names, inductions_substituted, substituted_by, with_inductions}
use Rattle.inductions.specs.Putting.{grows_at, put_in, putting, with_induction_forms}
use Rattle.inductions.specs.Together.{Is, is_free, is_own}
use Rattle.inductions.specs.declared.found.Induction.{Induction}
use Rattle.inductions.proofs.FoundLaws.{IsFoundIn}
use Rattle.inductions.proofs.Listed.{got_in, in_found, is_in, other_written, own_one, written}
use Rattle.inductions.proofs.NotWritten.{SameLefts, all-of, all-symbols, each-mapped}
use Rattle.inductions.proofs.Placing.{Begins, loops_begin_in}
use Rattle.inductions.proofs.Profile.{forms_keep_profile}
use Rattle.inductions.proofs.StepLaws.{step-at-small}
use Rattle.prepared_passes.specs.substitution.Laws.{SubstitutedNestIsPrepared}
use Rattle.prepared_passes.proofs.SubstitutedNests.After.{IsFair, after_prepared}
use Rattle.prepared_passes.proofs.SubstitutedNests.Grown as grown
use Rattle.prepared_passes.proofs.SubstitutedNests.Once.{AreOnce, once_each, once_found}
use Rattle.prepared_passes.proofs.SubstitutedNests.Put.{ArePut, put_kinds, put_statement}
use Rattle.prepared_passes.proofs.SubstitutedNests.Runs.{HasTrip, IsTurns, outermost_is, trip_of, turns_of}
use Rattle.tree.specs.Widths.{bits_of}
use Rattle.tree.specs.declared.width.Width.TheVariants.{Plain}
use Rattle.tree.specs.declared.width.Width.{Width}

-- ---- loops stay where statements become others

module _ (Asked : List Loop → Loop → Type 0) (each : List Loop → ℕ → Guarded → List Guarded) where
  runs_in : (ls : List Loop) (gs : List Guarded) → EachLoopIn Asked ls (parts (map Run gs))
  runs_in ls [] = tt
  runs_in ls (g ∷ gs) = (tt, runs_in ls gs)

  joined_in : (ls : List Loop) (xs ys : List Part) → EachLoopIn Asked ls (parts xs) → EachLoopIn Asked ls (parts ys) → EachLoopIn Asked ls (parts (xs ++ ys))
  joined_in ls [] ys h k = k
  joined_in ls (x ∷ xs) ys h k = (h.0, joined_in ls xs ys h.1 k)

  mutual
    mapped_has : (ls : List Loop) (k : ℕ) (p : Part) → EachLoop Asked ls p → EachLoopIn Asked ls (parts (mapped_parts_of each ls k p))
    mapped_has ls k (Run g) h = runs_in ls (each ls k g)
    mapped_has ls k (Turns l ps) h = ((h.0, mapped_in_has (ls ++ l ∷ []) k ps h.1), tt)
    mapped_has ls k (Choice bs ps) h = (h, tt)
    mapped_has ls k (Label n) h = (h, tt)
    mapped_has ls k (Jump n) h = (h, tt)

    mapped_in_has : (ls : List Loop) (k : ℕ) (ps : Parts) → EachLoopIn Asked ls ps → EachLoopIn Asked ls (parts (mapped_in each ls k ps))
    mapped_in_has ls k no_parts h = tt
    mapped_in_has ls k (part p ps) h =
        joined_in ls (mapped_parts_of each ls k p) (mapped_in each ls (k + count_of p) ps) (mapped_has ls k p h.0) (mapped_in_has ls (k + count_of p) ps h.1)

  body_has : (p : Part) → IsLoop p → EachLoop Asked [] p → EachLoop Asked [] (mapped_body each p)
  body_has (Turns l ps) loop h = (h.0, mapped_in_has (l ∷ []) 0 ps h.1)
  body_has (Run g) loop h = absurd loop
  body_has (Choice bs ps) loop h = absurd loop
  body_has (Label n) loop h = absurd loop
  body_has (Jump n) loop h = absurd loop

follow_each : (Asked : List Loop → Loop → Type 0) (P : Loop → Type 0) → ((round : List Loop) (l : Loop) → Asked round l → P l) → (before ls : List Loop) → Follow Asked before ls → lists.Each P ls
follow_each Asked P f before [] h = tt
follow_each Asked P f before (l ∷ ls) h = (f before l h.0, follow_each Asked P f (before ++ l ∷ []) ls h.1)

-- ---- depths

deeper_made : (es : List Declaration) (symbols : List (List ℕ)) (d : ℕ) (a : Made) → IsPreparedMade es symbols d a → IsPreparedMade es symbols (d + 23) a
deeper_made es symbols d a h = record {
  made = h.made;
  counter = h.counter;
  declaration = h.declaration;
  extents = All-weaker (IsPreparedExtent es symbols d) (IsPreparedExtent es symbols (d + 23)) extent a.extents h.extents;
  few = h.few;
}
  where
    extent : (e : Expression) → IsPreparedExtent es symbols d e → IsPreparedExtent es symbols (d + 23) e
    extent e k =
        let deep = k.deep in
        record { plain = k.plain; names = k.names; kind = k.kind; deep = omega (arith, deep); value = k.value }

-- a nest that stays as it is
stays : (es : List Declaration) (around : List (List ℕ)) (deepest : ℕ) (n : Nest) → IsPrepared es around deepest n → IsPrepared es around (deepest + 23) n
stays es around deepest n h = record {
  plain = h.plain;
  parts = record {
    line = h.parts.line;
    number = h.parts.number;
    symbols = h.parts.symbols;
    ordered = h.parts.ordered;
    few = h.parts.few;
    loops = h.parts.loops;
    once = h.parts.once;
    statements = All-weaker (IsPreparedStatement es n deepest) (IsPreparedStatement es n (deepest + 23)) deeper (nest_statements n) h.parts.statements;
    made = All-weaker (IsPreparedMade es n.symbols deepest) (IsPreparedMade es n.symbols (deepest + 23)) (deeper_made es n.symbols deepest) n.made h.parts.made;
    made_once = h.parts.made_once;
    after = (let a = h.parts.after in let deep = a.deep in record { endings = a.endings; names = a.names; profile = a.profile; deep = omega (arith, deep) });
    source = h.parts.source;
    outside = h.parts.outside;
  };
}
  where
    deeper : (x : Standing) → IsPreparedStatement es n deepest x → IsPreparedStatement es n (deepest + 23) x
    deeper x s = record {
      line = s.line;
      plain = s.plain;
      names = s.names;
      target = s.target;
      free = s.free;
      kind = s.kind;
      left = s.left;
      right = s.right;
      guard = s.guard;
      deep = All-weaker (λ (e : Expression). depth_of e ≤ deepest) (λ (e : Expression). depth_of e ≤ deepest + 23) (λ e d. omega (arith, d)) (expressions_of x.statement) s.deep;
      canonical = s.canonical;
    }

made_same : (n : Nest) (xs : List (List ℕ)) → made_names (with_nest_symbols n xs) ≡ made_names n
made_same n [] = refl
made_same n (x ∷ xs) = made_same (with_nest_symbol n x) xs

-- ---- the nest

module _ (width : Width) (es : List Declaration) (around : List (List ℕ)) (deepest : ℕ) (n : Nest) (l : Loop) (ps : Parts) (t : Trip) (room : 75 ≤ deepest) (h : IsPrepared es around deepest n)
    (source : IsOfSource es n) (body : n.body ≡ Turns l ps) (trip : IsPreparedTrip [] n.symbols l.last t) where
  abbrev ds : List Induction
  ds = inductions_by n (Some (l.variable, t))

  abbrev names : List (List ℕ)
  names = induction_names (inductions_by n (Some (l.variable, t)))

  abbrev m : Nest
  m = with_nest_symbols n (induction_names (inductions_by n (Some (l.variable, t))))

  abbrev each : List Loop → ℕ → Guarded → List Guarded
  each = put_in l.variable (inductions_by n (Some (l.variable, t))) (with_nest_symbols n (induction_names (inductions_by n (Some (l.variable, t))))).symbols

  abbrev new : Nest
  new = record (mapped_nest (put_in l.variable (inductions_by n (Some (l.variable, t))) (with_nest_symbols n (induction_names (inductions_by n (Some (l.variable, t))))).symbols)
      (with_nest_symbols n (induction_names (inductions_by n (Some (l.variable, t)))))) {
        after = block_then n.after (block (map (induction_ending n.symbols n.line t) (inductions_by n (Some (l.variable, t)))));
      }

  abbrev Free : List ℕ → Type 0
  Free z = ¬ In z n.symbols

  more_room : 75 ≤ deepest + 23
  more_room = omega (arith, room)

  integers : lists.Each (IsIntegerScalar es) n.symbols
  integers = each_from (IsIntegerScalar es) n.symbols (λ y i. integer (declared es y) (all_in (IsPreparedSymbol es) n.symbols h.parts.symbols y i).scalar)
    where
      integer : (o : Option Declaration) → IsSomeAnd o IsCounter → IsSomeAnd o (λ (e : Declaration). (e.kind ≡ Integer) × (rank_of_extent e.extent ≡ 0))
      integer None g = absurd g
      integer (Some e) g = (g.kind, ap rank_of_extent g.scalar)

  none : (y : List ℕ) → In y n.symbols → CountsNone y
  none y i k e = counter_long y k (all_in (IsPreparedSymbol es) n.symbols h.parts.symbols y i).name.within e

  found_so : (d : Induction) → Is (inductions_by n (Some (l.variable, t))) d → IsFoundIn n.symbols t (nest_statements n) d
  found_so d is = grown.found_so es around deepest n l ps t h source body d is

  -- ---- symbols

  named_by : (y : List ℕ) → In y (induction_names (inductions_by n (Some (l.variable, t)))) → (d : Induction) × In d (inductions_by n (Some (l.variable, t))) × (y ≡ d.name)
  named_by y i = let o = In-map (λ (d : Induction). d.name) y ds i in (o.it, o.inside, o.is)

  fresh : AreFresh es around Free deepest n.symbols (induction_names (inductions_by n (Some (l.variable, t))))
  fresh = record {
    apart = λ y i j. apart y (named_by y i) j;
    once = distinct ds (once_each n.symbols t (nest_statements n) n.declarations source.ordered);
    prepared = λ y i. prepared y (named_by y i);
  }
    where
      apart : (y : List ℕ) → (d : Induction) × In d ds × (y ≡ d.name) → In y n.symbols → ⊥
      apart y r j =
          let own : is_own ds r.0.name ≡ true = in_found ds r.0 r.1 in
          let none : is_own ds y ≡ false = grown.symbol_not_own es around deepest n l ps t h source body y j in
          let bad : true ≡ false = sym own ∙ (ap (is_own ds) (sym r.2) ∙ none) in
          let no : ⊥ = cc in
          no

      prepared : (y : List ℕ) → (d : Induction) × In d ds × (y ≡ d.name) → IsPreparedSymbol es y
      prepared y r = subst (IsPreparedSymbol es) (sym r.2)
          (record { name = grown.source_name es around deepest n l ps t h source body r.0 r.1; scalar = grown.declared_so es around deepest n l ps t h source body r.0 r.1 })

      distinct : (xs : List Induction) → AreOnce xs → AreDistinct (induction_names xs)
      distinct [] k = tt
      distinct (d ∷ xs) k = (absent (induction_names xs) d.name (λ i. not_later xs k.0 i), distinct xs k.1)
        where
          not_later : (xs : List Induction) → Each (λ (e : Induction). ¬ (d.name ≡ e.name)) xs → In d.name (induction_names xs) → ⊥
          not_later [] f i = i
          not_later (e ∷ xs) f (inl q) = f.0 q
          not_later (e ∷ xs) f (inr i) = not_later xs f.1 i

  statement_so : (x : Standing) → In x (nest_statements n) → IsPreparedStatement es n deepest x
  statement_so x i = grown.statement_so es around deepest n l ps t h source body x i

  but_statement : (x : Standing) → In x (nest_statements n) → IsStatementBut es (made_names n) Free deepest x
  but_statement x i =
      let s = statement_so x i in
      record {
        line = s.line;
        plain = s.plain;
        names = s.names;
        target = s.target;
        free = λ j. s.free (In-Contains x.statement.left.name n.symbols j);
        kind = s.kind;
        left = s.left;
        right = s.right;
        guard = s.guard;
        deep = s.deep;
      }

  but_text : IsButText es around Free deepest n
  but_text = record {
    plain = h.plain;
    loop = source.loop;
    line = h.parts.line;
    number = h.parts.number;
    symbols = h.parts.symbols;
    ordered = h.parts.ordered;
    loops = h.parts.loops;
    once = h.parts.once;
    statements = Each-All (IsStatementBut es (made_names n) Free deepest) (nest_statements n)
        (each_from (IsStatementBut es (made_names n) Free deepest) (nest_statements n) but_statement);
    made = h.parts.made;
    made_once = h.parts.made_once;
    after = h.parts.after;
    source = h.parts.source;
    outside = h.parts.outside;
  }

  all : IsButText es around Free deepest (with_nest_symbols n (induction_names (inductions_by n (Some (l.variable, t)))))
  all = symbols_have_come es around Free deepest n names but_text fresh

  symbol_is : (y : List ℕ) → In y (with_nest_symbols n (induction_names (inductions_by n (Some (l.variable, t))))).symbols → In y n.symbols ⊎ In y (induction_names (inductions_by n (Some (l.variable, t))))
  symbol_is y i = symbols_are n names y i

  few : length (with_nest_symbols n (induction_names (inductions_by n (Some (l.variable, t))))).symbols ≤ 1000
  few =
      let least = no_more m.symbols (names_declared n) all.ordered (λ y i. within y (symbol_is y i)) in
      let same = length-map n.declarations (λ (d : Declaration). d.name) in
      let most = source.few in
      omega (arith, least, same, most)
    where
      every : (xs : List (List ℕ)) → AllByRecursion (Contains (names_declared n)) xs → (x : List ℕ) → In x xs → Contains (names_declared n) x
      every [] k x i = absurd i
      every (y ∷ ys) k x (inl e) = subst (Contains (names_declared n)) (sym e) k.0
      every (y ∷ ys) k x (inr i) = every ys k.1 x i

      within : (y : List ℕ) → In y n.symbols ⊎ In y names → In y (names_declared n)
      within y (inl i) = Contains-In y (names_declared n) (every n.symbols source.symbols y i)
      within y (inr i) =
          let r = named_by y i in
          let d = grown.is_listed es around deepest n l ps t h source body r.0 r.1 in
          subst (λ z. In z (names_declared n)) (sym (r.2 ∙ d.name)) (map-In (λ (e : Declaration). e.name) d.declaration n.declarations d.among)

  -- ---- statements

  has_lefts : SameLefts n (with_nest_symbols n (induction_names (inductions_by n (Some (l.variable, t)))))
  has_lefts = all-symbols n names h.plain

  abbrev O : List ℕ → Bool
  O x = is_among (variables_of_loops (nest_loops n)) x || is_among n.symbols x

  own_integer : (x : List ℕ) → is_own (inductions_by n (Some (l.variable, t))) x ≡ true → IsIntegerScalar es x
  own_integer x e =
      let o = own_one ds x e in
      subst (IsIntegerScalar es) o.name (grown.integer_so es around deepest n l ps t h source body o.induction (is_in ds o.induction o.is))

  -- the loops round a statement begin with the outermost one
  shifted_turns : IsTurns (with_nest_symbols n (induction_names (inductions_by n (Some (l.variable, t)))))
  shifted_turns = turns_of m all.loop

  same_variable : shifted_turns.loop.variable ≡ l.variable
  same_variable = by n names l ps body shifted_turns.loop shifted_turns.parts shifted_turns.is
    where
      by : (k : Nest) (xs : List (List ℕ)) (o : Loop) (qs : Parts) → k.body ≡ Turns o qs → (o' : Loop) (qs' : Parts) → (with_nest_symbols k xs).body ≡ Turns o' qs' → o'.variable ≡ o.variable
      by k [] o qs e o' qs' f = let both : Turns o qs ≡ Turns o' qs' = sym e ∙ f in let same : o ≡ o' = cc in ap (λ (z : Loop). z.variable) (sym same)
      by k (x ∷ xs) o qs e o' qs' f =
          by (with_nest_symbol k x) xs (shifted_loop (place_among k.symbols x) o)
          (shifted_parts (place_among k.symbols x) qs)
          (ap (shifted_part (place_among k.symbols x)) e) o' qs' f

  module _ (k : ℕ) (s : Standing) (there : slice_get (nest_statements (with_nest_symbols n (induction_names (inductions_by n (Some (l.variable, t)))))) k ≡ Some s)
      (stays' : grows_at (inductions_by n (Some (l.variable, t))) k ≡ false) where
    was : (x : Standing) × (slice_get (nest_statements n) k ≡ Some x) × (x.statement ≡ s.statement)
    was = has_lefts.lefts k s there

    was_in : In was.0 (nest_statements n)
    was_in = got_in (nest_statements n) k was.0 was.1

    now_in : In s (nest_statements (with_nest_symbols n (induction_names (inductions_by n (Some (l.variable, t))))))
    now_in = got_in (nest_statements m) k s there

    not_own : is_own (inductions_by n (Some (l.variable, t))) s.statement.left.name ≡ false
    not_own = ap (λ (g : Guarded). is_own ds g.left.name) (sym was.2) ∙ other_written (nest_statements n) n.symbols t ds found_so k was.0 was.1 stays'

    now : IsStatementBut es (made_names n) Free deepest s
    now =
        subst (λ xs. IsStatementBut es xs Free deepest s) (made_same n names)
        (all_in (IsStatementBut es (made_names m) Free deepest) (nest_statements m) all.statements s now_in)

    free_now : ¬ Contains (with_nest_symbols n (induction_names (inductions_by n (Some (l.variable, t))))).symbols s.statement.left.name
    free_now c = by (symbol_is s.statement.left.name (Contains-In s.statement.left.name m.symbols c))
      where
        by : In s.statement.left.name n.symbols ⊎ In s.statement.left.name names → ⊥
        by (inl i) = now.free i
        by (inr i) =
            let r = named_by s.statement.left.name i in
            let own : is_own ds r.0.name ≡ true = in_found ds r.0 r.1 in
            let bad : true ≡ false = sym own ∙ (ap (is_own ds) (sym r.2) ∙ not_own) in
            let no : ⊥ = cc in
            no

    is_free_now : is_free O (inductions_by n (Some (l.variable, t))) s.statement.left.name ≡ true
    is_free_now = ap (λ (g : Guarded). is_free O ds g.left.name) (sym was.2) ∙ grown.left_free es around deepest n l ps t h source body was.0 was_in
        (ap (λ (g : Guarded). is_own ds g.left.name) was.2 ∙ not_own)

    round : AreRound (IsPreparedLoop es (with_nest_symbols n (induction_names (inductions_by n (Some (l.variable, t))))).symbols) s.loops
    round = rounds (IsPreparedLoop es m.symbols) m.body all.loops (distinct_too (numbers_of (nest_loops m)) all.once) s now_in

    bear : lists.Each BearsNumber s.loops
    bear = follow_each (IsPreparedLoop es m.symbols) BearsNumber (λ r o q. bears_number es m.symbols r o q) [] s.loops round.follow

    begins : Begins (shifted_turns.loop ∷ []) s.loops
    begins =
        loops_begin_in (shifted_turns.loop ∷ []) shifted_turns.parts (subst IsPlain shifted_turns.is all.plain).1 s
        (subst (In s) (ap (statements_in []) shifted_turns.is) now_in)

    counter_known : IsKnown s.loops l.variable
    counter_known =
        subst (IsKnown s.loops) same_variable
        (subst (λ ls. lists.Each (IsKnown s.loops) (variables_of_loops ls)) begins.are (known_variables s.loops s.loops (λ j i. i) bear)).0

    over : IsStatementOver (IsKnown s.loops) (rewritten_statement (putting l.variable (inductions_by n (Some (l.variable, t))) k) s.statement)
    over =
        put_statement (IsKnown s.loops) l.variable ds k counter_known s.statement
        (statement_over (IsKnown s.loops) s.statement now.plain
        (Each-All (IsKnown s.loops) (names_of (assignment s.statement))
        (each_from (IsKnown s.loops) (names_of (assignment s.statement))
        (λ y i j small e. Contains-In j (numbers_of s.loops) (all_in (IsOwn s.loops) (names_of (assignment s.statement)) now.names y i j (below_32 j small) e)))))

    kinds : ArePut es l.variable O ds k own_integer (forms_keep_profile es l.variable O ds k (grown.are_settled es around deepest n l ps t h source body (bits_of width)) (grown.counter_integer es around deepest n l ps t h source body (bits_of width)) (λ d is. own_integer d.name (ap is_some is)))
        (rewritten_statement (putting l.variable ds k) s.statement) now.kind (deepest + 5)
    kinds = put_kinds es l.variable O ds k own_integer
        (forms_keep_profile es l.variable O ds k (grown.are_settled es around deepest n l ps t h source body (bits_of width)) (grown.counter_integer es around deepest n l ps t h source body (bits_of width)) (λ d is. own_integer d.name (ap is_some is)))
        s.statement now.kind deepest is_free_now (record { left = now.left; right = now.right; guard = now.guard; deep = now.deep })

    pub put_standing : Standing
    put_standing = record { loops = s.loops; statement = rewritten_statement (putting l.variable (inductions_by n (Some (l.variable, t))) k) s.statement }

    put_but : IsStatementBut es (made_names n) (λ z. ¬ Contains (with_nest_symbols n (induction_names (inductions_by n (Some (l.variable, t))))).symbols z) (deepest + 5) put_standing
    unfolding put_standing
    put_but = record {
      line = now.line;
      plain = plain_statement (IsKnown s.loops) put_standing.statement over;
      names = own_names s.loops put_standing.statement over;
      target = now.target;
      free = free_now;
      kind = now.kind;
      left = kinds.left;
      right = kinds.right;
      guard = kinds.guard;
      deep = kinds.deep;
    }

    pub prepared_there : IsPreparedStatement es new (deepest + 23) (settled_standing (with_nest_symbols n (induction_names (inductions_by n (Some (l.variable, t))))).symbols put_standing)
    unfolding put_standing
    prepared_there =
        subst (λ d. IsPreparedStatement es new d (settled_standing m.symbols put_standing)) (let e : (deepest + 5) + 18 ≡ deepest + 23 = omega arith in e)
        (settled_is es m all.symbols all.ordered new (deepest + 5) put_standing refl refl round (subst (λ xs. IsStatementBut es xs (λ z. ¬ Contains m.symbols z) (deepest + 5) put_standing) (sym (made_same n names)) put_but))

  abbrev Good : Standing → Type 0
  Good x = IsPreparedStatement es new (deepest + 23) x × (¬ Contains around x.statement.left.name)

  statements_good : AllByRecursion Good (mapped_standings (put_in l.variable (inductions_by n (Some (l.variable, t))) (with_nest_symbols n (induction_names (inductions_by n (Some (l.variable, t))))).symbols) 0
      (nest_statements (with_nest_symbols n (induction_names (inductions_by n (Some (l.variable, t)))))))
  unfolding put_standing
  statements_good = each-mapped Good each 0 (nest_statements m) (λ k s there. one k s there)
    where
      zero_more : (k : ℕ) → k ≡ 0 + k
      zero_more k = omega arith

      one : (k : ℕ) (s : Standing) → slice_get (nest_statements m) k ≡ Some s → AllByRecursion Good (standings s.loops (each s.loops (0 + k) s.statement))
      one k s there = subst (λ j. AllByRecursion Good (standings s.loops (each s.loops j s.statement))) (zero_more k) (by (grows_at ds k) refl)
        where
          by : (b : Bool) → grows_at ds k ≡ b → AllByRecursion Good (standings s.loops (cond b [] (with_induction_forms l.variable ds m.symbols s.loops k s.statement ∷ [])))
          by true e = tt
          by false e = (
            (prepared_there k s there e, all_in (λ (x : Standing). ¬ Contains around x.statement.left.name) (nest_statements m) all.outside s (now_in k s there e)),
            tt,
          )

  fair : lists.Each (IsFair es around (deepest + 23) n.line h.parts.line n.symbols l.last t trip more_room integers none) ds
  fair = each_from (IsFair es around (deepest + 23) n.line h.parts.line n.symbols l.last t trip more_room integers none) ds (λ d i. one d i)
    where
      one : (d : Induction) → In d ds → IsFair es around (deepest + 23) n.line h.parts.line n.symbols l.last t trip more_room integers none d
      one d i =
          let is : Is ds d = once_found n.symbols t (nest_statements n) n.declarations source.ordered d i in
          let w = written (bits_of width) n.symbols t (nest_statements n) d (found_so d is) in
          record {
            end = (found_so d is).end;
            small = (let f = found_so d is in let e = step-at-small d.name f.standing d.step f.step in omega (arith, ints, e));
            declared_so = grown.declared_so es around deepest n l ps t h source body d i;
            counts = λ k e. counter_long d.name k (grown.source_name es around deepest n l ps t h source body d i).within e;
            outside = λ c. all_in (λ (x : Standing). ¬ Contains around x.statement.left.name) (nest_statements n) h.parts.outside w.standing
                (got_in (nest_statements n) d.place w.standing w.there) (subst (Contains around) (sym w.name) c);
          }

  pub is_prepared : IsPrepared es around (deepest + 23) new
  is_prepared =
      let has = mapped_nest_has each m all.loop all.plain in
      record {
        plain = has.plain;
        parts = record {
          line = all.line;
          number = all.number;
          symbols = all.symbols;
          ordered = all.ordered;
          few = few;
          loops = body_has (IsPreparedLoop es m.symbols) each m.body all.loop all.loops;
          once = subst (λ (ls : List Loop). Distinct (numbers_of ls)) (sym has.loops) all.once;
          statements = all-of (IsPreparedStatement es new (deepest + 23)) (nest_statements new) (firsts (nest_statements new) (subst (AllByRecursion Good) (sym has.statements) statements_good));
          made = All-weaker (IsPreparedMade es m.symbols deepest) (IsPreparedMade es m.symbols (deepest + 23)) (deeper_made es m.symbols deepest) m.made all.made;
          made_once = all.made_once;
          after = after_prepared es around (deepest + 23) n.line h.parts.line n.symbols l.last t trip more_room integers none deepest n.after ds (omega arith) fair h.parts.after;
          source = all.source;
          outside = all-of (λ (x : Standing). ¬ Contains around x.statement.left.name) (nest_statements new) (seconds (nest_statements new) (subst (AllByRecursion Good) (sym has.statements) statements_good));
        };
      }
    where
      firsts : (xs : List Standing) → AllByRecursion Good xs → AllByRecursion (IsPreparedStatement es new (deepest + 23)) xs
      firsts [] k = tt
      firsts (x ∷ xs) k = (k.0.0, firsts xs k.1)

      seconds : (xs : List Standing) → AllByRecursion Good xs → AllByRecursion (λ (x : Standing). ¬ Contains around x.statement.left.name) xs
      seconds [] k = tt
      seconds (x ∷ xs) k = (k.0.1, seconds xs k.1)

by_inductions : (es : List Declaration) (around : List (List ℕ)) (deepest : ℕ) (n : Nest) (t : IsTurns n) (u : HasTrip es n t.loop) → 75 ≤ deepest → IsPrepared es around deepest n → IsOfSource es n
    → IsPrepared es around (deepest + 23) (with_inductions n (t.loop.variable, u.trip) (inductions_by n (Some (t.loop.variable, u.trip))))
by_inductions es around deepest n t u room h source = by (inductions_by n (Some (t.loop.variable, u.trip))) refl
  where
    by : (xs : List Induction) → inductions_by n (Some (t.loop.variable, u.trip)) ≡ xs → IsPrepared es around (deepest + 23) (with_inductions n (t.loop.variable, u.trip) xs)
    by [] e = stays es around deepest n h
    by (d ∷ xs) e =
        subst (λ (ys : List Induction). IsPrepared es around (deepest + 23)
        (record (mapped_nest (put_in t.loop.variable ys (with_nest_symbols n (induction_names ys)).symbols) (with_nest_symbols n (induction_names ys))) {
          after = block_then n.after (block (map (induction_ending n.symbols n.line u.trip) ys));
        })) e
        (is_prepared Plain es around deepest n t.loop t.parts u.trip room h source t.is u.prepared)

pub substituted_nest_is_prepared : SubstitutedNestIsPrepared
unfolding inductions_substituted
substituted_nest_is_prepared es around deepest n room h source =
    let t = turns_of n source.loop in
    let u = trip_of es around deepest n t h in
    subst (λ (q : Option (List ℕ × Trip)). IsPrepared es around (deepest + 23) (substituted_by n q)) (sym (outermost_is n t u.trip u.is))
    (by_inductions es around deepest n t u room h source)
