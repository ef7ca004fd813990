-- A prepared nest with its loops moved is prepared again.
use Rattle.std.proofs.Common.{◌≡◌, ◌⊎◌, refl, sym, ap, ◌∙◌, subst, inl, inr, ℕ, ◌+◌, ◌≤◌, ◌<◌, ◌^◌, pos, Bool, true, false, ◌||◌}
use Rattle.std.proofs.Common.{List, [], ◌∷◌, ◌++◌, length, length-append, map, Option, Some, None, IfSome, Contains, arith}
use Rattle.std.specs.Option.{IsSomeAnd, option_map}
use Rattle.std.specs.Prelude.{All, unwrap_or}
use Rattle.std.specs.Str.{bytes_eq}
use Rattle.std.proofs.lemmas.Slice.Eq.{bytes_eq-Decides}
use Rattle.std.proofs.lemmas.List.{length-map}
use Rattle.components.specs.Lists as lists
use Rattle.components.proofs.ListLaws.{Each-append}
use Rattle.tree.specs.Plain.{Declaration, Expression, Number, no_subscripts}
use Rattle.tree.specs.Plain as trees
use Rattle.tree.specs.declared.ops.Kind.{Kind}
use Rattle.tree.specs.declared.ops.Kind.TheVariants.{Integer, Logical}
use Rattle.meaning.specs.Depths.{depth_of}
use Rattle.meaning.specs.Names.{is_among}
use Rattle.meaning.specs.Typed.{declared, rank_of_extent}
use Rattle.meaning.specs.Typed90.{IsIntegerScalar, IsScalar}
use Rattle.meaning.specs.Value.{named}
use Rattle.rewrite.specs.Making.{Making, made, made_left}
use Rattle.rewrite.specs.Profile.{DeclaresAlso, KeepsProfile}
use Rattle.rewrite.specs.Suits.{Suits, SuitsLeft}
use Rattle.rewrite.proofs.Profiles.{Becomes-left, Becomes-made, depth-alone}
use Rattle.linear_forms.specs.Canonical.{canonising}
use Rattle.linear_forms.specs.CanonicalLaws.{AreDistinct, AreIntegerScalars, all_suit}
use Rattle.linear_forms.proofs.AllSuit.{suits_block}
use Rattle.linear_forms.proofs.CanonicalProfile.{canonising_keeps_profile}
use Rattle.last_values.specs.normal_forms.NormalLoops.{counter_name}
use Rattle.nest.specs.declared.parts.Trip.{Trip}
use Rattle.nest.specs.Bodies.{Standing, nest_loops, nest_statements}
use Rattle.nest.specs.Plain.{Choice, Guarded, Jump, Label, Loop, Made, Nest, Part, Parts, Run, Turns, no_parts, part}
use Rattle.nest_rewrite.specs.Rewritten.{rewritten_loop, rewritten_parts}
use Rattle.nest_rewrite.specs.Statements.{rewritten_statement}
use Rattle.nest_order.proofs.orders.Lists.{In-append, In-left, In-right}
use Rattle.nest_order.proofs.orders.Membership.{In-map, map-In}
use Rattle.nest_order.specs.orders.Lists.{Distinct, Each, In}
use Rattle.nest_order.specs.runs.Guarded.{names_of}
use Rattle.nest_order.specs.shapes.Shapes.{IsNormal, numbers_of}
use Rattle.pass_laws.proofs.NormalFacts.MadeStatements.{IsKnown, counter_long, short_known}
use Rattle.pass_laws.proofs.NormalFacts.Tables.{all_in, each_from}
use Rattle.pass_laws.proofs.NormalFacts.Texts.{IsStatementOver}
use Rattle.pass_laws.proofs.ReadyNests.Lists.{Each-All}
use Rattle.pass_laws.specs.normal_facts.Laws.{IsCounter}
use Rattle.interchange.specs.Arranged.{is_loop_free, with_moved_loops}
use Rattle.interchange.specs.Chains.{are_statements, in_loops}
use Rattle.pass_laws.specs.prepared_nests.After.{IsPreparedAfter}
use Rattle.pass_laws.specs.prepared_nests.Loops.{EachLoop, EachLoopIn, IsPreparedLoop, IsPreparedTrip, variables_of_loops}
use Rattle.pass_laws.specs.prepared_nests.Made.{IsPreparedExtent, IsPreparedMade}
use Rattle.pass_laws.specs.prepared_nests.Nests.{AreMadeParts, IsPrepared, IsPreparedSymbol}
use Rattle.pass_laws.specs.prepared_nests.Statements.{IsOwn, IsPreparedStatement, assignment, expressions_of, guard_or_none}
use Rattle.pass_laws.proofs.PreparedNests.Lists.{Contains-In, below_32, distinct_too, ordered_distinct, within_32}
use Rattle.pass_laws.proofs.PreparedNests.Trips.{BearsNumber, names_apart}
use Rattle.pass_laws.proofs.PreparedNests.Walks.{Follow}
use Rattle.pass_laws.proofs.PreparedNests.Normal.Conditions.{known_variables}
use Rattle.pass_laws.proofs.PreparedNests.Normal.Statements.{canonical_is, own_names, plain_statement}
use Rattle.prepared_passes.specs.arrangement.Prepared.{ArrangedNestIsPrepared}
use Rattle.prepared_passes.proofs.ArrangedNests.CanonicalNames.{statement_made_over, statement_over}
use Rattle.prepared_passes.proofs.ArrangedNests.FreeTrips.{free_trip}
use Rattle.prepared_passes.proofs.ArrangedNests.MovedChains.{IsMovedChain, moved_chain, moved_is}
use Rattle.prepared_passes.proofs.ArrangedNests.Names.{found_in}
use Rattle.prepared_passes.proofs.ArrangedNests.Shapes.{all_guarded, chain_plain, loops_of_chain, standing_under, statements_of_chain}
use Rattle.prepared_passes.proofs.ArrangedNests.Unmoved.{IsOther, stays}

true_false : true ≡ false → ⊥
true_false e = cc

-- ---- lists

back_each : (P : ℕ → Type 0) (xs : List ℕ) → Each P xs → lists.Each P xs
back_each P [] h = tt
back_each P (x ∷ xs) h = (h.0, back_each P xs h.1)

distinct_back : (xs : List ℕ) → Distinct xs → lists.Distinct xs
distinct_back [] h = tt
distinct_back (x ∷ xs) h = (back_each (λ y. ¬ (x ≡ y)) xs h.0, distinct_back xs h.1)

-- ---- a chain in canonical text

module _ (m : Making) where
  abbrev loops_made : List Loop → List Loop
  loops_made ls = map (rewritten_loop m) ls

  made_in_loops : (ls : List Loop) (ps : Parts) → rewritten_parts m (in_loops ls ps) ≡ in_loops (loops_made ls) (rewritten_parts m ps)
  made_in_loops [] ps = refl
  made_in_loops (l ∷ ls) ps = ap (λ qs. part (Turns (rewritten_loop m l) qs) no_parts) (made_in_loops ls ps)

  statements_made : (ps : Parts) → are_statements ps ≡ true → are_statements (rewritten_parts m ps) ≡ true
  statements_made no_parts e = refl
  statements_made (part (Run s) ps) e = statements_made ps e
  statements_made (part (Turns l qs) ps) e = absurd (true_false (sym e))
  statements_made (part (Choice bs qs) ps) e = absurd (true_false (sym e))
  statements_made (part (Label n) ps) e = absurd (true_false (sym e))
  statements_made (part (Jump n) ps) e = absurd (true_false (sym e))

  guarded_made : (ps : Parts) → are_statements ps ≡ true → all_guarded (rewritten_parts m ps) ≡ map (rewritten_statement m) (all_guarded ps)
  guarded_made no_parts e = refl
  guarded_made (part (Run s) ps) e = ap (λ gs. rewritten_statement m s ∷ gs) (guarded_made ps e)
  guarded_made (part (Turns l qs) ps) e = absurd (true_false (sym e))
  guarded_made (part (Choice bs qs) ps) e = absurd (true_false (sym e))
  guarded_made (part (Label n) ps) e = absurd (true_false (sym e))
  guarded_made (part (Jump n) ps) e = absurd (true_false (sym e))

  variables_made : (ls : List Loop) → variables_of_loops (loops_made ls) ≡ variables_of_loops ls
  variables_made [] = refl
  variables_made (l ∷ ls) = ap (λ xs. l.variable ∷ xs) (variables_made ls)

  numbers_made : (ls : List Loop) → numbers_of (loops_made ls) ≡ numbers_of ls
  numbers_made [] = refl
  numbers_made (l ∷ ls) = ap (λ ks. l.number ∷ ks) (numbers_made ls)

-- each loop is as is asked under those before it
module _ (Asked : List Loop → Loop → Type 0) where
  each_statement : (before : List Loop) (ps : Parts) → are_statements ps ≡ true → EachLoopIn Asked before ps
  each_statement before no_parts e = tt
  each_statement before (part (Run s) ps) e = (tt, each_statement before ps e)
  each_statement before (part (Turns l qs) ps) e = absurd (true_false (sym e))
  each_statement before (part (Choice bs qs) ps) e = absurd (true_false (sym e))
  each_statement before (part (Label n) ps) e = absurd (true_false (sym e))
  each_statement before (part (Jump n) ps) e = absurd (true_false (sym e))

  each_in_loops : (before ls : List Loop) (ps : Parts) → are_statements ps ≡ true → Follow Asked before ls → EachLoopIn Asked before (in_loops ls ps)
  each_in_loops before [] ps e h = each_statement before ps e
  each_in_loops before (l ∷ ls) ps e h = ((h.0, each_in_loops (before ++ l ∷ []) ls ps e h.1), tt)

-- ---- what is known of each loop, whatever stands round it

module _ (es : List Declaration) (symbols : List (List ℕ)) where
  record IsFree (l : Loop) : Type 0 where
    number : l.number < 2 ^ 32
    variable : l.variable ≡ counter_name l.number
    counter : IsSomeAnd (declared es l.variable) IsCounter
    normal : IsNormal l
    trip : Trip
    is : l.trip ≡ Some trip
    none : is_loop_free trip ≡ true
    round : List (List ℕ)
    prepared : IsPreparedTrip round symbols l.last trip

  free_from : (round : List Loop) (l : Loop) → IsPreparedLoop es symbols round l → (t : Trip) → l.trip ≡ Some t → is_loop_free t ≡ true → IsFree l
  free_from round l h t e none = record {
    number = h.number;
    variable = h.variable;
    counter = h.counter;
    normal = h.normal;
    trip = t;
    is = e;
    none = none;
    round = variables_of_loops round;
    prepared = subst (λ o. IsSomeAnd o (IsPreparedTrip (variables_of_loops round) symbols l.last)) e h.trip;
  }

  module _ (variables : List (List ℕ)) (apart : (y : List ℕ) → In y symbols → IsOther variables y) where
    abbrev rule : Making
    rule = canonising variables symbols

    loop_again : (before : List Loop) (l : Loop) → IsFree l → length before < 7 → IsPreparedLoop es symbols before (rewritten_loop rule l)
    loop_again before l h less = record {
      depth = less;
      number = h.number;
      variable = h.variable;
      counter = h.counter;
      normal = record { first = ap (made rule) h.normal.first ∙ stays variables symbols (Number (pos 1)) tt; step = h.normal.step };
      trip = subst (λ o. IsSomeAnd o (IsPreparedTrip (variables_of_loops before) symbols (made rule l.last))) (sym h.is)
          (free_trip h.round symbols l.last h.trip h.prepared h.none (variables_of_loops before) variables apart);
    }

    loops_again : (before ls : List Loop) → ((l : Loop) → In l ls → IsFree l) → length before + length ls ≤ 7
        → Follow (IsPreparedLoop es symbols) before (loops_made rule ls)
    loops_again before [] f few = tt
    loops_again before (l ∷ ls) f few =
        let more = length-append before (rewritten_loop rule l ∷ []) in (
          loop_again before l (f l (inl refl)) (omega (arith, few)),
          loops_again (before ++ rewritten_loop rule l ∷ []) ls (λ k i. f k (inr i)) (omega (arith, few, more)),
        )

-- ---- names

module _ (symbols : List (List ℕ)) (short : (y : List ℕ) → In y symbols → length y ≤ 6) where
  symbol_apart : (ls : List Loop) → lists.Each BearsNumber ls → (y : List ℕ) → In y symbols → is_among (variables_of_loops ls) y ≡ false
  symbol_apart [] h y i = refl
  symbol_apart (l ∷ ls) h y i = by (bytes_eq y l.variable) refl (symbol_apart ls h.1 y i)
    where
      by : (b : Bool) → bytes_eq y l.variable ≡ b → is_among (variables_of_loops ls) y ≡ false → (bytes_eq y l.variable || is_among (variables_of_loops ls) y) ≡ false
      by true e more = absurd (counter_long y l.number (short y i) ((bytes_eq-Decides y l.variable).0 e ∙ h.0.0))
      by false e more = ap (λ b. b || is_among (variables_of_loops ls) y) e ∙ more

-- ---- kinds and depths

integer_of : (o : Option Declaration) → IsSomeAnd o IsCounter → IsSomeAnd o (λ (d : Declaration). (d.kind ≡ Integer) × (rank_of_extent d.extent ≡ 0))
integer_of None h = absurd h
integer_of (Some d) h = (h.kind, ap rank_of_extent h.scalar)

module _ (es : List Declaration) where
  alike : DeclaresAlso es es
  alike = record { names = λ x d e. e; free = λ f h. h }

  suits : (m : Making) (e : Expression) → Suits m all_suit e
  suits m e = (suits_block m (trees.statement (trees.Assignment 0 None (record { name = []; subscripts = no_subscripts }) e) trees.no_statements)).0.1

  suits_left : (m : Making) (r : trees.Reference) → SuitsLeft m all_suit r
  suits_left m r = (suits_block m (trees.statement (trees.Assignment 0 None r (Number (pos 0))) trees.no_statements)).0.0

  integers : (xs : List (List ℕ)) → ((x : List ℕ) → In x xs → IsIntegerScalar es x) → AreIntegerScalars es xs
  integers [] f = tt
  integers (x ∷ xs) f = (f x (inl refl), integers xs (λ y i. f y (inr i)))

  module _ (m : Making) (keeps : KeepsProfile es 18 m all_suit) (deepest : ℕ) where
    abbrev IsDeep : Expression → Type 0
    IsDeep e = depth_of e ≤ deepest + 18

    deeper : (a b : ℕ) → a ≤ b + 18 → b ≤ deepest → a ≤ deepest + 18
    deeper a b h k = omega (arith, h, k)

    left_again : (r : trees.Reference) (k : Kind) → IsScalar es (named r) k → depth_of (named r) ≤ deepest
        → IsScalar es (named (made_left m r)) k × IsDeep (named (made_left m r))
    left_again r k h deep =
        let b = Becomes-left es es alike 18 m all_suit keeps r k (suits_left m r) h.0 in (
          (b.kind, b.rank ∙ h.1),
          deeper (depth_of (named (made_left m r))) (depth_of (named r)) (depth-alone es es alike 18 m all_suit keeps (named r) (named (made_left m r)) k b) deep,
        )

    made_again : (e : Expression) (k : Kind) → IsScalar es e k → depth_of e ≤ deepest → IsScalar es (made m e) k × IsDeep (made m e)
    made_again e k h deep =
        let b = Becomes-made es es alike 18 m all_suit keeps e k (suits m e) h.0 in (
          (b.kind, b.rank ∙ h.1),
          deeper (depth_of (made m e)) (depth_of e) (depth-alone es es alike 18 m all_suit keeps e (made m e) k b) deep,
        )

    guard_again : (o : Option Expression) → IfSome o (λ (e : Expression). IsScalar es e Logical) → ((e : Expression) → o ≡ Some e → depth_of e ≤ deepest)
        → IfSome (option_map (made m) o) (λ (e : Expression). IsScalar es e Logical) × lists.Each IsDeep (guard_or_none (option_map (made m) o))
    guard_again None h deep = (tt, tt)
    guard_again (Some e) h deep = let a = made_again e Logical h (deep e refl) in (a.0, (a.1, tt))

-- ---- what is made and what comes after: there may be deeper expressions

extent_again : (es : List Declaration) (symbols : List (List ℕ)) (deepest : ℕ) (e : Expression) → IsPreparedExtent es symbols deepest e → IsPreparedExtent es symbols (deepest + 18) e
extent_again es symbols deepest e h = record { plain = h.plain; names = h.names; kind = h.kind; deep = (let d = h.deep in omega (arith, d)); value = h.value }

array_again : (es : List Declaration) (symbols : List (List ℕ)) (deepest : ℕ) (a : Made) → IsPreparedMade es symbols deepest a → IsPreparedMade es symbols (deepest + 18) a
array_again es symbols deepest a h = record {
  made = h.made;
  counter = h.counter;
  declaration = h.declaration;
  extents = Each-All (IsPreparedExtent es symbols (deepest + 18)) a.extents
      (each_from (IsPreparedExtent es symbols (deepest + 18)) a.extents (λ e i. extent_again es symbols deepest e (all_in (IsPreparedExtent es symbols deepest) a.extents h.extents e i)));
  few = h.few;
}

after_again : (es : List Declaration) (around : List (List ℕ)) (deepest : ℕ) (b : trees.Block) → IsPreparedAfter es around deepest b → IsPreparedAfter es around (deepest + 18) b
after_again es around deepest b h = record { endings = h.endings; names = h.names; profile = h.profile; deep = (let d = h.deep in omega (arith, d)) }

statement_weaker : (es : List Declaration) (m : Nest) (deepest : ℕ) (x : Standing) → IsPreparedStatement es m deepest x → IsPreparedStatement es m (deepest + 18) x
statement_weaker es m deepest x h = record {
  line = h.line;
  plain = h.plain;
  names = h.names;
  target = h.target;
  free = h.free;
  kind = h.kind;
  left = h.left;
  right = h.right;
  guard = h.guard;
  deep = Each-All (λ (e : Expression). depth_of e ≤ deepest + 18) (expressions_of x.statement)
      (each_from (λ (e : Expression). depth_of e ≤ deepest + 18) (expressions_of x.statement)
      (λ e i. (let d = all_in (λ (e : Expression). depth_of e ≤ deepest) (expressions_of x.statement) h.deep e i in omega (arith, d))));
  canonical = h.canonical;
}

-- a nest in which no loop moves
stays_prepared : (es : List Declaration) (around : List (List ℕ)) (deepest : ℕ) (m : Nest) → IsPrepared es around deepest m → IsPrepared es around (deepest + 18) m
stays_prepared es around deepest m h =
    let p = h.parts in
    record {
      plain = h.plain;
      parts = record {
        line = p.line;
        number = p.number;
        symbols = p.symbols;
        ordered = p.ordered;
        few = p.few;
        loops = p.loops;
        once = p.once;
        statements = Each-All (IsPreparedStatement es m (deepest + 18)) (nest_statements m)
            (each_from (IsPreparedStatement es m (deepest + 18)) (nest_statements m) (λ x i. statement_weaker es m deepest x (all_in (IsPreparedStatement es m deepest) (nest_statements m) p.statements x i)));
        made = Each-All (IsPreparedMade es m.symbols (deepest + 18)) m.made
            (each_from (IsPreparedMade es m.symbols (deepest + 18)) m.made (λ a i. array_again es m.symbols deepest a (all_in (IsPreparedMade es m.symbols deepest) m.made p.made a i)));
        made_once = p.made_once;
        after = after_again es around deepest m.after p.after;
        source = p.source;
        outside = p.outside;
      };
    }

-- ---- the nest

module _ (es : List Declaration) (around : List (List ℕ)) (deepest : ℕ) (m k : Nest) (h : IsPrepared es around deepest m) (c : IsMovedChain m k) where
  abbrev old : List Loop
  old = c.first ∷ c.rest

  abbrev new : List Loop
  new = c.outer ∷ c.inner

  abbrev variables : List (List ℕ)
  variables = variables_of_loops new

  abbrev making : Making
  making = canonising variables m.symbols

  abbrev loops : List Loop
  loops = loops_made making new

  abbrev body : Parts
  body = rewritten_parts making c.body

  abbrev moved : Part
  moved = Turns (rewritten_loop making c.outer) (in_loops (loops_made making c.inner) body)

  abbrev there : Nest
  there = record m { body = moved }

  nest_is : k ≡ there
  nest_is = c.nest ∙ ap (λ qs. record m { body = Turns (rewritten_loop making c.outer) qs }) (made_in_loops making c.inner c.body)

  plain_body : are_statements body ≡ true
  plain_body = statements_made making c.body c.plain

  -- ---- the loops as they were

  old_loops : nest_loops m ≡ old
  old_loops = ap (λ p. nest_loops (record m { body = p })) c.was ∙ loops_of_chain c.first c.rest c.body c.plain

  old_statements : nest_statements m ≡ map (standing_under old) (all_guarded c.body)
  old_statements = ap (λ p. nest_statements (record m { body = p })) c.was ∙ statements_of_chain c.first c.rest c.body c.plain

  free_old : (l : Loop) → In l old → IsFree es m.symbols l
  free_old l i =
      let f = found_in (IsPreparedLoop es m.symbols) l [] m.body h.plain h.parts.loops (subst (In l) (sym old_loops) i) in
      let t = c.free l i in
      free_from es m.symbols f.0 l f.1 t.0 t.1 t.2

  free_new : (l : Loop) → In l new → IsFree es m.symbols l
  free_new l i = free_old l (c.among l i)

  -- ---- names and numbers

  symbol : (y : List ℕ) → In y m.symbols → IsPreparedSymbol es y
  symbol y i = all_in (IsPreparedSymbol es) m.symbols h.parts.symbols y i

  short : (y : List ℕ) → In y m.symbols → length y ≤ 6
  short y i = (symbol y i).name.within

  bears : (ls : List Loop) → ((l : Loop) → In l ls → IsFree es m.symbols l) → lists.Each BearsNumber ls
  bears ls f = each_from BearsNumber ls (λ l i. let g = f l i in (g.variable, within_32 l.number g.number))

  bears_new : lists.Each BearsNumber new
  bears_new = bears new free_new

  once_old : Distinct (numbers_of old)
  once_old = subst (λ ls. Distinct (numbers_of ls)) old_loops (distinct_too (numbers_of (nest_loops m)) h.parts.once)

  once_new : Distinct (numbers_of new)
  once_new = c.once once_old

  apart : (y : List ℕ) → In y m.symbols → IsOther variables y
  apart y i = symbol_apart m.symbols short new bears_new y i

  distinct : AreDistinct (variables ++ m.symbols)
  distinct = names_apart m.symbols short (ordered_distinct m.symbols h.parts.ordered) new bears_new once_new

  -- at most seven loops: the innermost one stands under at most six
  few_old : length old ≤ 7
  few_old =
      let each : EachLoop (IsPreparedLoop es m.symbols) [] (Turns c.first (in_loops c.rest c.body)) = subst (EachLoop (IsPreparedLoop es m.symbols) []) c.was h.parts.loops in
      let rest = last (c.first ∷ []) c.rest c.body each.1 (omega arith) in
      omega (arith, rest)
    where
      last : (before ls : List Loop) (ps : Parts) → EachLoopIn (IsPreparedLoop es m.symbols) before (in_loops ls ps) → length before ≤ 7 → length before + length ls ≤ 7
      last before [] ps e few = omega (arith, few)
      last before (l ∷ ls) ps e few =
          let less = e.0.0.depth in
          let more = length-append before (l ∷ []) in
          let rest = last (before ++ l ∷ []) ls ps e.0.1 (omega (arith, less, more)) in
          omega (arith, rest, more)

  few_new : length new ≤ 7
  few_new = let same = c.size in let few = few_old in omega (arith, same, few)

  few_names : length variables ≤ 7
  few_names = let same = length-map new (λ (l : Loop). l.variable) in let few = few_new in omega (arith, same, few)

  integer : (x : List ℕ) → In x (variables ++ m.symbols) → IsIntegerScalar es x
  integer x i = by (In-append x variables m.symbols i)
    where
      counting : (ls : List Loop) → ((l : Loop) → In l ls → IsFree es m.symbols l) → In x (variables_of_loops ls) → IsIntegerScalar es x
      counting ls f j =
          let o = In-map (λ (l : Loop). l.variable) x ls j in
          subst (IsIntegerScalar es) (sym o.is) (integer_of (declared es o.it.variable) (f o.it o.inside).counter)

      by : In x variables ⊎ In x m.symbols → IsIntegerScalar es x
      by (inl j) = counting new free_new j
      by (inr j) = integer_of (declared es x) (symbol x j).scalar

  keeps : KeepsProfile es 18 making all_suit
  keeps = canonising_keeps_profile variables m.symbols es (integers es (variables ++ m.symbols) integer)

  -- ---- the loops as they are

  follow : Follow (IsPreparedLoop es m.symbols) [] loops
  follow = loops_again es m.symbols variables apart [] new free_new (let few = few_new in omega (arith, few))

  each : EachLoop (IsPreparedLoop es m.symbols) [] moved
  each = (follow.0, each_in_loops (IsPreparedLoop es m.symbols) (rewritten_loop making c.outer ∷ []) (loops_made making c.inner) body plain_body follow.1)

  normal : (l : Loop) → In l loops → IsNormal l
  normal l i =
      let o = In-map (rewritten_loop making) l new i in
      let f = free_new o.it o.inside in
      subst IsNormal (sym o.is) (record { first = ap (made making) f.normal.first ∙ stays variables m.symbols (Number (pos 1)) tt; step = f.normal.step })

  -- ---- the statements

  module _ (g : Guarded) (i : In g (all_guarded c.body)) where
    was : IsPreparedStatement es m deepest (standing_under old g)
    was = all_in (IsPreparedStatement es m deepest) (nest_statements m) h.parts.statements (standing_under old g)
        (subst (In (standing_under old g)) (sym old_statements) (map-In (standing_under old) g (all_guarded c.body) i))

    known_old : (x : List ℕ) → In x (names_of (assignment g)) → IsKnown loops x
    known_old x j k small e =
        let own = all_in (IsOwn old) (names_of (assignment g)) was.names x j k (below_32 k small) e in
        let at = In-map (λ (l : Loop). l.number) k old (Contains-In k (numbers_of old) own) in
        subst (In k) (sym (numbers_made making new)) (subst (λ z. In z (numbers_of new)) (sym at.is) (map-In (λ (l : Loop). l.number) at.it new (c.all at.it at.inside)))

    known_loops : lists.Each (IsKnown loops) variables
    known_loops = known_variables loops new (λ k j. subst (In k) (sym (numbers_made making new)) j) bears_new

    known_symbols : lists.Each (IsKnown loops) m.symbols
    known_symbols = each_from (IsKnown loops) m.symbols (λ y j. short_known loops y (short y j))

    over : IsStatementOver (IsKnown loops) (rewritten_statement making g)
    over = statement_made_over (IsKnown loops) variables m.symbols known_loops known_symbols g (statement_over (IsKnown loops) g was.plain known_old)

    deep_in : (e : Expression) → In e (expressions_of g) → depth_of e ≤ deepest
    deep_in e j = all_in (λ (e : Expression). depth_of e ≤ deepest) (expressions_of g) was.deep e j

    left : IsScalar es (named (made_left making g.left)) was.kind × (depth_of (named (made_left making g.left)) ≤ deepest + 18)
    left = left_again es making keeps deepest g.left was.kind was.left
        (deep_in (named g.left) (In-right (named g.left) (guard_or_none g.guard) (named g.left ∷ g.right ∷ []) (inl refl)))

    right : IsScalar es (made making g.right) was.kind × (depth_of (made making g.right) ≤ deepest + 18)
    right = made_again es making keeps deepest g.right was.kind was.right
        (deep_in g.right (In-right g.right (guard_or_none g.guard) (named g.left ∷ g.right ∷ []) (inr (inl refl))))

    guard_in : (o : Option Expression) (e : Expression) → o ≡ Some e → In e (guard_or_none o)
    guard_in None e same = let no : ⊥ = cc in absurd no
    guard_in (Some f) e same = let is : f ≡ e = cc in inl (sym is)

    guard : IfSome (option_map (made making) g.guard) (λ (e : Expression). IsScalar es e Logical) × lists.Each (λ (e : Expression). depth_of e ≤ deepest + 18) (guard_or_none (option_map (made making) g.guard))
    guard = guard_again es making keeps deepest g.guard was.guard
        (λ e same. deep_in e (In-left e (guard_or_none g.guard) (named g.left ∷ g.right ∷ []) (guard_in g.guard e same)))

    again : IsPreparedStatement es there (deepest + 18) (standing_under loops (rewritten_statement making g))
    again = record {
      line = was.line;
      plain = plain_statement (IsKnown loops) (rewritten_statement making g) over;
      names = own_names loops (rewritten_statement making g) over;
      target = was.target;
      free = was.free;
      kind = was.kind;
      left = left.0;
      right = right.0;
      guard = guard.0;
      deep = Each-All (λ (e : Expression). depth_of e ≤ deepest + 18) (expressions_of (rewritten_statement making g))
          (Each-append (λ (e : Expression). depth_of e ≤ deepest + 18) (guard_or_none (option_map (made making) g.guard)) (named (made_left making g.left) ∷ made making g.right ∷ []) guard.1 (left.1, (right.1, tt)));
      canonical = canonical_is m.symbols (standing_under loops (rewritten_statement making g))
          (subst (λ xs. length xs ≤ 7) (sym (variables_made making new)) few_names)
          (subst (λ xs. AreDistinct (xs ++ m.symbols)) (sym (variables_made making new)) distinct)
          (inr (g, ap (λ xs. rewritten_statement (canonising xs m.symbols) g) (sym (variables_made making new))));
    }

  new_statements : nest_statements there ≡ map (standing_under loops) (all_guarded body)
  new_statements = statements_of_chain (rewritten_loop making c.outer) (loops_made making c.inner) body plain_body

  -- what holds of each statement in canonical text holds of each statement of the nest
  each_standing : (P : Standing → Type 0) → ((g : Guarded) → In g (all_guarded c.body) → P (standing_under loops (rewritten_statement making g))) → All P (nest_statements there)
  each_standing P f = Each-All P (nest_statements there) (each_from P (nest_statements there) one)
    where
      one : (x : Standing) → In x (nest_statements there) → P x
      one x i =
          let a = In-map (standing_under loops) x (all_guarded body) (subst (In x) new_statements i) in
          let b = In-map (rewritten_statement making) a.it (all_guarded c.body) (subst (In a.it) (guarded_made making c.body c.plain) a.inside) in
          subst P (sym (a.is ∙ ap (standing_under loops) b.is)) (f b.it b.inside)

  was_outside : (g : Guarded) → In g (all_guarded c.body) → ¬ Contains around g.left.name
  was_outside g i =
      all_in (λ (x : Standing). ¬ Contains around x.statement.left.name) (nest_statements m) h.parts.outside (standing_under old g)
      (subst (In (standing_under old g)) (sym old_statements) (map-In (standing_under old) g (all_guarded c.body) i))

  once : lists.Distinct (numbers_of (nest_loops there))
  once =
      subst (λ ls. lists.Distinct (numbers_of ls)) (sym (loops_of_chain (rewritten_loop making c.outer) (loops_made making c.inner) body plain_body))
      (distinct_back (numbers_of loops) (subst Distinct (sym (numbers_made making new)) once_new))

  parts : AreMadeParts es around (deepest + 18) there
  parts = record {
    line = h.parts.line;
    number = h.parts.number;
    symbols = h.parts.symbols;
    ordered = h.parts.ordered;
    few = h.parts.few;
    loops = each;
    once = once;
    statements = each_standing (IsPreparedStatement es there (deepest + 18)) again;
    made = Each-All (IsPreparedMade es m.symbols (deepest + 18)) m.made
        (each_from (IsPreparedMade es m.symbols (deepest + 18)) m.made (λ a i. array_again es m.symbols deepest a (all_in (IsPreparedMade es m.symbols deepest) m.made h.parts.made a i)));
    made_once = h.parts.made_once;
    after = after_again es around deepest m.after h.parts.after;
    source = h.parts.source;
    outside = each_standing (λ (x : Standing). ¬ Contains around x.statement.left.name) was_outside;
  }

  pub prepared_again : IsPrepared es around (deepest + 18) k
  prepared_again = subst (IsPrepared es around (deepest + 18)) (sym nest_is)
      (record { plain = chain_plain (rewritten_loop making c.outer) (loops_made making c.inner) body plain_body normal; parts = parts })

pub arranged_nest_is_prepared : ArrangedNestIsPrepared
arranged_nest_is_prepared es around deepest m vectors h = by (with_moved_loops m vectors) refl
  where
    by : (o : Option Nest) → with_moved_loops m vectors ≡ o → IsPrepared es around (deepest + 18) (unwrap_or o m)
    by None e = stays_prepared es around deepest m h
    by (Some k) e = prepared_again es around deepest m k h (moved_chain m vectors k (moved_is m vectors k e))
