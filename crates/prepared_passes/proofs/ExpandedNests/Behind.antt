-- What stands behind the loops of an expanded nest is prepared: what stood there, and last values.
use Rattle.std.proofs.Common.{◌≡◌, ◌⊎◌, inl, inr, refl, sym, ap, ◌∙◌, subst, ℕ, suc, ◌+◌, ◌*◌, ◌≤◌, max, Bool, true, false, cond, Contains, List, [], ◌∷◌, ◌++◌, map, length, pos, Option, Some, None, arith}
use Rattle.std.specs.List.{AllByRecursion}
use Rattle.std.specs.Option.{IsSomeAnd}
use Rattle.std.proofs.lemmas.List.{length-map}
use Rattle.components.specs.Lists as lists
use Rattle.last_values.specs.Endings.{all_hold, where_all_hold}
use Rattle.last_values.specs.normal_forms.NormalLoops.{is_positive}
use Rattle.last_values.specs.normal_forms.Texts.{at_least_one, trip_text}
use Rattle.meaning.specs.Blocks.{Surroundings, before_labels, labels_of}
use Rattle.meaning.specs.Depths.{depth_of}
use Rattle.meaning.specs.Profile90.{IsBlock, IsStatement, IsWhole}
use Rattle.meaning.specs.Reads.{names_in, names_in_block, names_in_statement, names_in_subscripts}
use Rattle.meaning.specs.Typed.{declared, rank_of_extent}
use Rattle.meaning.specs.Typed90.{HasKind, IsIntegerScalar, IsScalar, rank_of}
use Rattle.meaning.specs.Value.{named}
use Rattle.nest.specs.Allocations.{block_then}
use Rattle.nest.specs.Bodies.{Standing, nest_loops, nest_statements}
use Rattle.nest.specs.Plain.{Nest}
use Rattle.nest.specs.declared.parts.Trip.{Trip}
use Rattle.nest_order.proofs.orders.Lists.{In-append, In-left, In-right}
use Rattle.nest_order.proofs.orders.Membership.{In-map}
use Rattle.nest_order.specs.orders.Lists.{In}
use Rattle.pass_laws.proofs.NormalFacts.StatementKinds.{IsNumber, small_form}
use Rattle.pass_laws.proofs.NormalFacts.Tables.{all_in, each_asked, each_from}
use Rattle.pass_laws.proofs.ReadyNests.Lists.{Each-All}
use Rattle.pass_laws.specs.normal_facts.Laws.{IsCounter}
use Rattle.pass_laws.specs.prepared_nests.After.{AreEndings, CountsNone, IsEnding, IsPreparedAfter}
use Rattle.pass_laws.specs.prepared_nests.Loops.{IsPreparedLoop, IsPreparedTrip, variables_of_loops}
use Rattle.pass_laws.specs.prepared_nests.Nests.{IsPrepared, IsPreparedSymbol}
use Rattle.pass_laws.proofs.PreparedNests.Lists.{some_of}
use Rattle.pass_laws.proofs.PreparedNests.Normal.Conditions.{trip_number}
use Rattle.pass_laws.proofs.PreparedNests.Normal.TextDepths.{binary_deep, trip_deep}
use Rattle.pass_laws.proofs.PreparedNests.Normal.TextKinds.{at_least_is, both_are}
use Rattle.pass_laws.proofs.PreparedNests.Trips.{names_of_trip}
use Rattle.pass_laws.proofs.PreparedNests.Walks.{walked}
use Rattle.rewrite.specs.Profile.{deepest_in, deepest_of}
use Rattle.tree.specs.Plain.{Allocate, Assignment, Binary, Block, Deallocate, Declaration, Do, Expression, Given, GoTo, If}
use Rattle.tree.specs.Plain.{Label, Named, Number, Print, Read, Statement, Stop, Where, arm, block, no_arms, no_statements}
use Rattle.tree.specs.Plain.{no_subscripts, statement}
use Rattle.tree.specs.declared.ops.Kind.TheVariants.{Integer, Logical}
use Rattle.tree.specs.declared.ops.Op.TheVariants.{And, Ge}
use Rattle.scalar_expand.specs.Expanded.{as_expression, has_known_end, trip_expression, last_assignment, last_element, last_value, last_values, trip_tests}
use Rattle.scalar_expand.specs.Laws.{own_of}
use Rattle.scalar_expand.specs.Privates.{private_scalars, round_loop, trip_or_none, trips_of}
use Rattle.scalar_expand.specs.Stores.{arrays}
use Rattle.scalar_expand.specs.declared.privates.Private.{Private}
use Rattle.scalar_expand.specs.declared.privates.RoundLoop.{RoundLoop}
use Rattle.scalar_expand.proofs.Covers.{extents_found}
use Rattle.scalar_expand.proofs.Theorems.{in_declared}
use Rattle.prepared_passes.specs.expansion.Laws.{MayBeExpanded}
use Rattle.prepared_passes.specs.expansion.Prepared.{AreDeclaredFor}
use Rattle.prepared_passes.specs.expansion.Runs.{AreFree, IsFree, IsFreeBehind, IsOther, MayGet}
use Rattle.prepared_passes.proofs.ExpandedNests.Declared.{kept, scalar_kept, there}
use Rattle.prepared_passes.proofs.ExpandedNests.Elements.{either_in, element_deep, element_names, element_scalar}
use Rattle.prepared_passes.proofs.ExpandedNests.Names.{not_counter, own_apart, start, symbol_apart, symbol_no_counter}
use Rattle.prepared_passes.proofs.ExpandedNests.Texts.{form_sized}
use Rattle.prepared_passes.proofs.ExpandedNests.Round.{array_no_counter, array_there, begins, kind_of_private, round_loop_is}

all_at : (P : List ℕ → Type 0) (xs : List (List ℕ)) → AllByRecursion P xs → (x : List ℕ) → In x xs → P x
all_at P [] h x i = absurd i
all_at P (y ∷ xs) h x (inl e) = subst P (sym e) h.0
all_at P (y ∷ xs) h x (inr i) = all_at P xs h.1 x i

block_joined : (xs ys : List Statement) → block (xs ++ ys) ≡ block_then (block xs) (block ys)
block_joined [] ys = refl
block_joined (x ∷ xs) ys = ap (λ b. statement x b) (block_joined xs ys)

left_most : (a b c : ℕ) → max a b ≤ c → a ≤ c
left_most a b c h = omega (arith, h)

right_most : (a b c : ℕ) → max a b ≤ c → b ≤ c
right_most a b c h = omega (arith, h)

both_most : (a b c : ℕ) → a ≤ c → b ≤ c → max a b ≤ c
both_most a b c h k = omega (arith, h, k)

-- ---- blocks

module _ (fs : List Declaration) (around : List (List ℕ)) (deepest : ℕ) where
  -- statements of the profile wherever the loops round them have these variables
  abbrev AreGood : Block → Type 0
  AreGood no_statements = Unit {0}
  AreGood (statement c cs) = ((w : Surroundings) → w.variables ≡ around → IsStatement fs c w) × AreGood cs

  pub record IsGood (b : Block) : Type 0 where
    pub endings : AreEndings b
    pub names : (y : List ℕ) → In y (names_in_block b) → CountsNone y
    pub good : AreGood b
    pub deep : deepest_in b ≤ deepest

  none_good : IsGood no_statements
  none_good = record { endings = tt; names = λ y i. absurd i; good = tt; deep = omega arith }

  rest_good : (c : Statement) (cs : Block) → IsGood (statement c cs) → IsGood cs
  rest_good c cs h = record {
    endings = h.endings.1;
    names = λ y i. h.names y (In-right y (names_in_statement c) (names_in_block cs) i);
    good = h.good.1;
    deep = right_most (deepest_of c) (deepest_in cs) deepest h.deep;
  }

  with_good : (c : Statement) (cs : Block) → IsEnding c → ((y : List ℕ) → In y (names_in_statement c) → CountsNone y) → ((w : Surroundings) → w.variables ≡ around → IsStatement fs c w) → deepest_of c ≤ deepest → IsGood cs → IsGood (statement c cs)
  with_good c cs e n g k h = record {
    endings = (e, h.endings);
    names = λ y i. by y (In-append y (names_in_statement c) (names_in_block cs) i);
    good = (g, h.good);
    deep = both_most (deepest_of c) (deepest_in cs) deepest k h.deep;
  }
    where
      by : (y : List ℕ) → In y (names_in_statement c) ⊎ In y (names_in_block cs) → CountsNone y
      by y (inl i) = n y i
      by y (inr i) = h.names y i

  good_then : (a b : Block) → IsGood a → IsGood b → IsGood (block_then a b)
  good_then no_statements b h k = k
  good_then (statement c cs) b h k =
      with_good c (block_then cs b) h.endings.0 (λ y i. h.names y (In-left y (names_in_statement c) (names_in_block cs) i)) h.good.0 (left_most (deepest_of c) (deepest_in cs) deepest h.deep)
      (good_then cs b (rest_good c cs h) k)

  is_block : (b : Block) → AreGood b → (w : Surroundings) → w.variables ≡ around → IsBlock fs b w
  is_block no_statements g w e = tt
  is_block (statement c cs) g w e = (g.0 (before_labels (labels_of cs) w) e, is_block cs g.1 w e)

  pub good_after : (b : Block) → IsGood b → IsPreparedAfter fs around deepest b
  good_after b h = record {
    endings = h.endings;
    names = Each-All CountsNone (names_in_block b) (each_from CountsNone (names_in_block b) h.names);
    profile = λ w e. is_block b h.good w e;
    deep = h.deep;
  }

module _ (es fs : List Declaration) (around : List (List ℕ)) (deepest : ℕ) (m : Nest) (h : IsPrepared es around deepest m) (may : MayBeExpanded es m) (d : AreDeclaredFor es fs m) where
  -- ---- what stood there

  abbrev Other : List ℕ → Type 0
  Other z = IsOther m z

  abbrev Target : List ℕ → Expression → Type 0
  Target z e = MayGet m z e

  same : (x : List ℕ) (c : Declaration) → IsOther m x → declared es x ≡ Some c → declared fs x ≡ Some c
  same x c o e = d.kept x c o.1 e

  mutual
    statement_there : (c : Statement) (v w : Surroundings) → v.variables ≡ w.variables → IsEnding c → IsFree Other Target c → IsStatement es c w → IsStatement fs c v
    statement_there (Assignment line mark left right) v w e k f q = (
      q.0,
      (assigned (declared es left.name) refl q.1.0, ranks q.1.1, subst (λ xs. Contains xs left.name → ⊥) (sym e) q.1.2),
    )
      where
        left_same : (y : List ℕ) → In y (names_in (named left)) → IsOther m y
        left_same y (inl g) = subst (IsOther m) (sym g) f.0.0
        left_same y (inr i) = all_at (IsOther m) (names_in_subscripts left.subscripts) f.1 y i

        right_same : (y : List ℕ) → In y (names_in right) → IsOther m y
        right_same y i = all_at (IsOther m) (names_in right) f.2 y i

        assigned : (o : Option Declaration) → declared es left.name ≡ o → IsSomeAnd o (λ (c : Declaration). IsWhole es (named left) c.kind × IsWhole es right c.kind)
            → IsSomeAnd (declared fs left.name) (λ (c : Declaration). IsWhole fs (named left) c.kind × IsWhole fs right c.kind)
        assigned None g a = absurd a
        assigned (Some c) g a =
            subst (λ (o : Option Declaration). IsSomeAnd o (λ (c : Declaration). IsWhole fs (named left) c.kind × IsWhole fs right c.kind)) (sym (same left.name c f.0.0 g)) (
              record { suits = (kept es fs (IsOther m) same d.free (named left) c.kind a.0.suits left_same).0; depth = a.0.depth },
              record { suits = (kept es fs (IsOther m) same d.free right c.kind a.1.suits right_same).0; depth = a.1.depth },
            )

        some : (o : Option Declaration) → IsSomeAnd o (λ (c : Declaration). IsWhole es (named left) c.kind × IsWhole es right c.kind) → (c : Declaration) × IsWhole es (named left) c.kind × IsWhole es right c.kind
        some None a = absurd a
        some (Some c) a = (c, a.0, a.1)

        ranks : (rank_of es right ≡ 0) ⊎ (rank_of es right ≡ rank_of es (named left)) → (rank_of fs right ≡ 0) ⊎ (rank_of fs right ≡ rank_of fs (named left))
        ranks r = either r
          where
            a : (c : Declaration) × IsWhole es (named left) c.kind × IsWhole es right c.kind
            a = some (declared es left.name) q.1.0

            right_rank : rank_of fs right ≡ rank_of es right
            right_rank = (kept es fs (IsOther m) same d.free right a.0.kind a.2.suits right_same).1

            left_rank : rank_of fs (named left) ≡ rank_of es (named left)
            left_rank = (kept es fs (IsOther m) same d.free (named left) a.0.kind a.1.suits left_same).1

            either : (rank_of es right ≡ 0) ⊎ (rank_of es right ≡ rank_of es (named left)) → (rank_of fs right ≡ 0) ⊎ (rank_of fs right ≡ rank_of fs (named left))
            either (inl g) = inl (right_rank ∙ g)
            either (inr g) = inr (right_rank ∙ (g ∙ sym left_rank))
    statement_there (If line (arm test body no_arms) no_statements) v w e k f q = (
      q.0,
      q.1,
      (record { suits = scalar_kept es fs (IsOther m) same d.free test Logical q.2.0.suits (λ y i. all_at (IsOther m) (names_in test) f.0.0 y i); depth = q.2.0.depth }, block_there body v w e k.0.0 f.0.1 q.2.1, tt),
      tt,
    )
    statement_there (If line (arm test body no_arms) (statement c cs)) v w e k f q = absurd k.1
    statement_there (If line (arm test body (arm u b ms)) other) v w e k f q = absurd k.0.1
    statement_there (If line no_arms other) v w e k f q = absurd k.0
    statement_there (Where line mark mask left right) v w e k f q = absurd k
    statement_there (Do line x a b c body) v w e k f q = absurd k
    statement_there (Label n) v w e k f q = absurd k
    statement_there (GoTo line n) v w e k f q = absurd k
    statement_there (Stop line) v w e k f q = absurd k
    statement_there (Read line is) v w e k f q = absurd k
    statement_there (Print line is) v w e k f q = absurd k
    statement_there (Allocate line x vs) v w e k f q = absurd k
    statement_there (Deallocate line x) v w e k f q = absurd k

    block_there : (b : Block) (v w : Surroundings) → v.variables ≡ w.variables → AreEndings b → AreFree Other Target b → IsBlock es b w → IsBlock fs b v
    block_there no_statements v w e k f q = tt
    block_there (statement c cs) v w e k f q =
        (statement_there c (before_labels (labels_of cs) v) (before_labels (labels_of cs) w) e k.0 f.0 q.0, block_there cs v w e k.1 f.1 q.1)

  all_good : (b : Block) (w : Surroundings) → w.variables ≡ around → AreEndings b → AreFree Other Target b → IsBlock es b w → AreGood fs around (deepest + 1) b
  all_good no_statements w e k f q = tt
  all_good (statement c cs) w e k f q = (λ v g. statement_there c v (before_labels (labels_of cs) w) (g ∙ sym e) k.0 f.0 q.0, all_good cs w e k.1 f.1 q.1)

  after_good : IsFreeBehind m → IsGood fs around (deepest + 1) m.after
  after_good free =
      let w : Surroundings = record { variables = around; ahead = [] } in
      let deep = h.parts.after.deep in
      record {
        endings = h.parts.after.endings;
        names = λ y i. all_in CountsNone (names_in_block m.after) h.parts.after.names y i;
        good = all_good m.after w refl h.parts.after.endings free (h.parts.after.profile w refl);
        deep = omega (arith, deep);
      }

  -- ---- trips that are the same in all turns

  pub symbols_there : lists.Each (IsIntegerScalar fs) m.symbols
  symbols_there = each_from (IsIntegerScalar fs) m.symbols (λ y i. by y i)
    where
      integer : (o : Option Declaration) → IsSomeAnd o IsCounter → IsSomeAnd o (λ (c : Declaration). (c.kind ≡ Integer) × (rank_of_extent c.extent ≡ 0))
      integer None g = absurd g
      integer (Some c) g = (g.kind, ap rank_of_extent g.scalar)

      by : (y : List ℕ) → In y m.symbols → IsIntegerScalar fs y
      by y i = integer (declared fs y) (there es fs (IsOther m) same d.free y IsCounter (symbol_apart es around deepest m h may y i) (all_in (IsPreparedSymbol es) m.symbols h.parts.symbols y i).scalar)

  record IsKnownTrip (e : Expression) : Type 0 where
    number : IsNumber fs e
    names : (y : List ℕ) → In y (names_in e) → In y m.symbols
    deep : depth_of e ≤ 36

  trip_known : (p : Private) → In p (private_scalars m) → (l : RoundLoop) → In l p.loops → IsKnownTrip (trip_expression m.symbols l)
  trip_known p i l j =
      let o = round_loop_is es around deepest m h may p i l j in
      let r = each_asked (IsPreparedLoop es m.symbols) (nest_loops m) [] m.body h.plain (walked (IsPreparedLoop es m.symbols) [] m.body h.parts.loops) o.0 o.1 in
      let s = some_of (IsPreparedTrip (variables_of_loops r.round) m.symbols o.0.last) o.0.trip r.asked.trip in
      let t : Trip = s.value in
      let same_trip : l.trip ≡ t = ap (λ (k : RoundLoop). k.trip) o.2 ∙ ap trip_or_none s.is in
      let p = s.has in
      subst (λ (t : Trip). IsKnownTrip (trip_text [] m.symbols [] t)) (sym same_trip)
      (record {
        number = trip_number fs [] m.symbols t p.divisor tt symbols_there (small_form (length (variables_of_loops r.round)) t.top p.top) p.by p.small;
        names = λ y k. names_of_trip (λ z. In z m.symbols) [] m.symbols t (λ z q. absurd q) (λ z q. q) y k;
        deep = trip_deep [] m.symbols [] t 0 (form_sized m.symbols (variables_of_loops r.round) o.0.last t p) tt;
      })

  -- ---- tests

  record IsTrueTest (n : ℕ) (e : Expression) : Type 0 where
    scalar : IsScalar fs e Logical
    names : (y : List ℕ) → In y (names_in e) → In y m.symbols
    deep : depth_of e ≤ n

  test_is : (e : Expression) → IsKnownTrip e → IsTrueTest 38 (at_least_one e)
  test_is e k = record {
    scalar = at_least_is fs e k.number;
    names = λ y i. names y (In-append y (names_in e) [] i);
    deep = binary_deep Ge e (Number (pos 1)) 36 k.deep (omega arith);
  }
    where
      names : (y : List ℕ) → In y (names_in e) ⊎ In y [] → In y m.symbols
      names y (inl i) = k.names y i
      names y (inr i) = absurd i

  abbrev AreTests : List Expression → Type 0
  AreTests [] = Unit {0}
  AreTests (t ∷ ts) = IsTrueTest 38 t × AreTests ts

  tests_joined : (xs ys : List Expression) → AreTests xs → AreTests ys → AreTests (xs ++ ys)
  tests_joined [] ys h k = k
  tests_joined (x ∷ xs) ys h k = (h.0, tests_joined xs ys h.1 k)

  tests_are : (ls : List RoundLoop) → ((l : RoundLoop) → In l ls → IsKnownTrip (trip_expression m.symbols l)) → AreTests (trip_tests m.symbols ls) × (length (trip_tests m.symbols ls) ≤ length ls)
  tests_are [] f = (tt, omega arith)
  tests_are (l ∷ ls) f = by (is_positive l.trip) (tests_are ls (λ k i. f k (inr i)))
    where
      by : (b : Bool) → AreTests (trip_tests m.symbols ls) × (length (trip_tests m.symbols ls) ≤ length ls)
          → AreTests (cond b [] (at_least_one (trip_expression m.symbols l) ∷ []) ++ trip_tests m.symbols ls) × (length (cond b [] (at_least_one (trip_expression m.symbols l) ∷ []) ++ trip_tests m.symbols ls) ≤ suc (length ls))
      by true r = let few = r.1 in (r.0, omega (arith, few))
      by false r = let few = r.1 in ((test_is (trip_expression m.symbols l) (f l (inl refl)), r.0), omega (arith, few))

  joined_is : (n : ℕ) (e : Expression) (ts : List Expression) → 38 ≤ n → IsTrueTest n e → AreTests ts → IsTrueTest (n + 2 * length ts) (all_hold e ts)
  joined_is n e [] low h k = record { scalar = h.scalar; names = h.names; deep = (let x = h.deep in omega (arith, x)) }
  joined_is n e (t ∷ ts) low h k =
      more (joined_is (n + 2) (Binary And e t) ts (omega (arith, low))
      (record {
        scalar = both_are fs e t h.scalar k.0.scalar;
        names = λ y i. names y (In-append y (names_in e) (names_in t) i);
        deep = binary_deep And e t n h.deep (let x = k.0.deep in omega (arith, x, low));
      }) k.1)
    where
      names : (y : List ℕ) → In y (names_in e) ⊎ In y (names_in t) → In y m.symbols
      names y (inl i) = h.names y i
      names y (inr i) = k.0.names y i

      more : IsTrueTest ((n + 2) + 2 * length ts) (all_hold (Binary And e t) ts) → IsTrueTest (n + 2 * suc (length ts)) (all_hold (Binary And e t) ts)
      more r = record { scalar = r.scalar; names = r.names; deep = (let x = r.deep in omega (arith, x)) }

  -- ---- last values

  module _ (room : 252 ≤ deepest) where
    symbol_none : (y : List ℕ) → In y m.symbols → CountsNone y
    symbol_none y i k e = symbol_no_counter es around deepest m h may y k i e

    abbrev known_trip_in : RoundLoop → Expression
    known_trip_in l = trip_expression m.symbols l

    assigned_good : (p : Private) → In p (own_of m) → IsGood fs around (deepest + 1) (block (last_assignment m.symbols m.line p ∷ []))
    assigned_good p own =
        with_good fs around (deepest + 1) (last_assignment m.symbols m.line p) no_statements tt names profile deep (none_good fs around (deepest + 1))
      where
        i : In p (private_scalars m)
        i = in_declared (private_scalars m) m.declarations p own

        element : Expression
        element = as_expression (last_element m.symbols p)

        is : IsScalar fs element p.kind
        is = element_scalar fs known_trip_in p.array p.kind p.loops (array_there es around deepest m h may fs d p i) (λ l j. (trip_known p i l j).number)

        shallow : depth_of element ≤ 37
        shallow = element_deep fs known_trip_in 36 p.loops (λ l j. (trip_known p i l j).deep)

        of_element : (y : List ℕ) → In y (names_in element) → CountsNone y
        of_element y (inl e) = λ k g. array_no_counter es around deepest m h may p i k (sym e ∙ g)
        of_element y (inr j) = element_names fs known_trip_in CountsNone p.loops (λ l q z r. symbol_none z ((trip_known p i l q).names z r)) y j

        names : (y : List ℕ) → In y (p.name ∷ names_in element) → CountsNone y
        names y (inl e) = λ k g. not_counter es around deepest m h may p i k (sym e ∙ g)
        names y (inr j) = of_element y j

        deep : deepest_of (last_assignment m.symbols m.line p) ≤ deepest + 1
        deep = both_most 0 (depth_of element) (deepest + 1) (omega arith) (omega (arith, shallow, room))

        outside : ¬ Contains around p.name
        outside c =
            let st = start es around deepest m h may p i in
            all_in (λ (x : Standing). ¬ Contains around x.statement.left.name) (nest_statements m) h.parts.outside st.standing st.inside (subst (λ x. Contains around x) (sym st.target) c)

        no_array : ¬ In p.name (arrays (private_scalars m))
        no_array k = let o = In-map (λ (q : Private). q.array) p.name (private_scalars m) k in own_apart es around deepest m h may o.it p o.inside i own (sym o.is)

        declared_there : IsSomeAnd (declared fs p.name) (λ (c : Declaration). (c.kind ≡ p.kind) × (c.extent ≡ Given []))
        declared_there = by (declared es p.name) refl (kind_of_private es around deepest m h may p i)
          where
            by : (o : Option Declaration) → declared es p.name ≡ o → IsSomeAnd o (λ (c : Declaration). (c.kind ≡ p.kind) × (c.extent ≡ Given [])) → IsSomeAnd (declared fs p.name) (λ (c : Declaration). (c.kind ≡ p.kind) × (c.extent ≡ Given []))
            by None e g = absurd g
            by (Some c) e g = subst (λ (o : Option Declaration). IsSomeAnd o (λ (c : Declaration). (c.kind ≡ p.kind) × (c.extent ≡ Given []))) (sym (d.kept p.name c no_array e)) g

        whole : (o : Option Declaration) → declared fs p.name ≡ o → IsSomeAnd o (λ (c : Declaration). (c.kind ≡ p.kind) × (c.extent ≡ Given []))
            → IsSomeAnd o (λ (c : Declaration). IsWhole fs (Named p.name no_subscripts) c.kind × IsWhole fs element c.kind)
        whole None e g = absurd g
        whole (Some c) e g = (
          record { suits = (subst (λ (o : Option Declaration). IsSomeAnd o (λ (b : Declaration). (c.kind ≡ b.kind) × Unit {0})) (sym e) (refl, tt), tt); depth = omega arith },
          record { suits = subst (λ k. HasKind fs element k) (sym g.0) is.0; depth = omega (arith, shallow) },
        )

        profile : (w : Surroundings) → w.variables ≡ around → IsStatement fs (last_assignment m.symbols m.line p) w
        profile w e = (
          (h.parts.line, tt),
          (whole (declared fs p.name) refl declared_there, inl is.1, λ c. outside (subst (λ xs. Contains xs p.name) e c)),
        )

    few_loops : (p : Private) → In p (private_scalars m) → length p.loops ≤ 7
    few_loops p i =
        let b = begins es around deepest m h may p i in
        let f = extents_found (length m.symbols) (λ k. pos 0) (trips_of (map round_loop b.0.loops)) p.extents b.2.extents in
        let few = f.few in
        let trips = length-map (map round_loop b.0.loops) (λ (l : RoundLoop). l.trip) in
        let same : length p.loops ≡ length (map round_loop b.0.loops) = ap (λ (ls : List RoundLoop). length ls) b.2.loops in
        omega (arith, few, trips, same)

    where_good : (p : Private) → In p (own_of m) → (ts : List Expression) → AreTests ts → length ts ≤ 7 → IsGood fs around (deepest + 1) (block (where_all_hold m.line ts (last_assignment m.symbols m.line p ∷ [])))
    where_good p own [] k few = assigned_good p own
    where_good p own (t ∷ ts) k few =
        with_good fs around (deepest + 1) (If m.line (arm (all_hold t ts) inner no_arms) no_statements) no_statements ((g.endings, tt), tt) names profile deep (none_good fs around (deepest + 1))
      where
        inner : Block
        inner = block (last_assignment m.symbols m.line p ∷ [])

        g : IsGood fs around (deepest + 1) (block (last_assignment m.symbols m.line p ∷ []))
        g = assigned_good p own

        test : IsTrueTest (38 + 2 * length ts) (all_hold t ts)
        test = joined_is 38 t ts (omega arith) k.0 k.1

        test_deep : depth_of (all_hold t ts) ≤ 50
        test_deep = let x = test.deep in omega (arith, x, few)

        names : (y : List ℕ) → In y (((names_in (all_hold t ts) ++ names_in_block inner) ++ []) ++ []) → CountsNone y
        names y i =
            either_in y ((names_in (all_hold t ts) ++ names_in_block inner) ++ []) [] (CountsNone y)
            (λ j. either_in y (names_in (all_hold t ts) ++ names_in_block inner) [] (CountsNone y)
            (λ k. either_in y (names_in (all_hold t ts)) (names_in_block inner) (CountsNone y) (λ q. symbol_none y (test.names y q)) (λ q. g.names y q) k) (λ k. absurd k) j) (λ j. absurd j) i

        profile : (w : Surroundings) → w.variables ≡ around → IsStatement fs (If m.line (arm (all_hold t ts) inner no_arms) no_statements) w
        profile w e = (
          h.parts.line,
          refl,
          (record { suits = test.scalar; depth = omega (arith, test_deep) }, is_block fs around (deepest + 1) inner g.good w e, tt),
          tt,
        )

        deep : max (max (depth_of (all_hold t ts)) (max (deepest_in inner) 0)) 0 ≤ deepest + 1
        deep = let x = g.deep in all_most (depth_of (all_hold t ts)) (deepest_in inner) (deepest + 1) (omega (arith, test_deep, room)) x
          where
            all_most : (a b c : ℕ) → a ≤ c → b ≤ c → max (max a (max b 0)) 0 ≤ c
            all_most a b c h k = omega (arith, h, k)

    one_good : (p : Private) → In p (own_of m) → IsGood fs around (deepest + 1) (block (last_value m.symbols m.line p))
    one_good p own = by (has_known_end p)
      where
        i : In p (private_scalars m)
        i = in_declared (private_scalars m) m.declarations p own

        by : (b : Bool) → IsGood fs around (deepest + 1) (block (cond b (where_all_hold m.line (trip_tests m.symbols p.loops) (last_assignment m.symbols m.line p ∷ [])) []))
        by true =
            let t = tests_are p.loops (λ l j. trip_known p i l j) in
            let many = t.1 in
            let few = few_loops p i in
            where_good p own (trip_tests m.symbols p.loops) t.0 (omega (arith, many, few))
        by false = none_good fs around (deepest + 1)

    values_good : (os : List Private) → ((p : Private) → In p os → In p (own_of m)) → IsGood fs around (deepest + 1) (block (last_values m.symbols m.line os))
    values_good [] f = none_good fs around (deepest + 1)
    values_good (p ∷ os) f =
        subst (λ b. IsGood fs around (deepest + 1) b) (sym (block_joined (last_value m.symbols m.line p) (last_values m.symbols m.line os)))
        (good_then fs around (deepest + 1) (block (last_value m.symbols m.line p)) (block (last_values m.symbols m.line os)) (one_good p (f p (inl refl))) (values_good os (λ q i. f q (inr i))))

    pub behind_prepared : IsFreeBehind m → IsPreparedAfter fs around (deepest + 1) (block_then m.after (block (last_values m.symbols m.line (own_of m))))
    behind_prepared free =
        good_after fs around (deepest + 1) (block_then m.after (block (last_values m.symbols m.line (own_of m))))
        (good_then fs around (deepest + 1) m.after (block (last_values m.symbols m.line (own_of m))) (after_good free) (values_good (own_of m) (λ p i. i)))
