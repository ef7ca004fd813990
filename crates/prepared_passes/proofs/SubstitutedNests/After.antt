-- What stands behind the loops of a nest with inductions substituted is prepared: what stood there, and last values.
use Rattle.std.proofs.Common.{◌≡◌, ◌⊎◌, inl, inr, refl, sym, ap, ◌∙◌, subst, ℕ, ◌+◌, ◌≤◌, max, pos, Bool, true, false, cond, Contains, List, [], ◌∷◌, ◌++◌, map, length, Option, Some, None, arith}
use Rattle.std.specs.Option.{IsSomeAnd}
use Rattle.components.specs.Lists as lists
use Rattle.tree.specs.Plain.{Allocate, Assignment, Block, Deallocate, Declaration, Do, Expression, GoTo, If, Label, Named, Number, Print, Read, Statement, Stop, Where, arm, block, no_arms, no_statements, no_subscripts, statement}
use Rattle.tree.specs.declared.ops.Kind.TheVariants.{Integer}
use Rattle.tree.specs.declared.ops.Op.TheVariants.{Ge}
use Rattle.meaning.specs.Blocks.{Surroundings, before_labels, labels_of}
use Rattle.meaning.specs.Depths.{depth_of}
use Rattle.meaning.specs.Labels.{IsLine}
use Rattle.meaning.specs.Profile90.{IsBlock, IsStatement, IsWhole}
use Rattle.meaning.specs.Reads.{names_in, names_in_block, names_in_statement}
use Rattle.meaning.specs.Typed.{declared, rank_of_extent}
use Rattle.meaning.specs.Typed90.{HasKind, IsIntegerScalar}
use Rattle.rewrite.specs.Profile.{deepest_in, deepest_of}
use Rattle.subscripts.specs.Shapes.{IsSmall}
use Rattle.subscripts.specs.declared.affine.Affine.{Affine}
use Rattle.nest.specs.Allocations.{block_then}
use Rattle.nest.specs.declared.parts.Trip.{Trip}
use Rattle.nest_order.proofs.orders.Lists.{In-append, In-left, In-right}
use Rattle.nest_order.specs.orders.Lists.{In}
use Rattle.last_values.specs.InPlace as in_place
use Rattle.last_values.specs.Endings.{assigned, only_where}
use Rattle.last_values.specs.declared.normal_forms.loops.NormalLoop.{NormalLoop}
use Rattle.last_values.specs.declared.normal_forms.combinations.Multiple.{Multiple}
use Rattle.last_values.specs.normal_forms.Combinations.{combination, number_form, times}
use Rattle.last_values.specs.normal_forms.NormalLoops.{is_positive, symbol_form, trip_form}
use Rattle.last_values.specs.normal_forms.Texts.{at_least_one, trip_text}
use Rattle.linear_forms.specs.Texts.{text_of}
use Rattle.pass_laws.proofs.NormalFacts.StatementKinds.{IsNumber, IsSmallForm, IsSmallLoop, end_is, small_form}
use Rattle.pass_laws.proofs.NormalFacts.Texts.{end_over, named}
use Rattle.pass_laws.proofs.NormalFacts.Tables.{all_in, each_from, each_in}
use Rattle.pass_laws.proofs.ReadyNests.Lists.{Each-All}
use Rattle.pass_laws.proofs.ReadyNests.Sums.{Zero, number_is_form, sum_is_form}
use Rattle.pass_laws.specs.normal_facts.Laws.{IsCounter}
use Rattle.pass_laws.specs.prepared_nests.After.{AreEndings, CountsNone, IsEnding, IsPreparedAfter}
use Rattle.pass_laws.specs.prepared_nests.Loops.{IsPreparedTrip}
use Rattle.pass_laws.proofs.PreparedNests.Normal.Conditions.{trip_number}
use Rattle.pass_laws.proofs.PreparedNests.Normal.LoopSizes.{IsSized, sum_sized}
use Rattle.pass_laws.proofs.PreparedNests.Normal.TextDepths.{binary_deep, text_deep, trip_deep}
use Rattle.pass_laws.proofs.PreparedNests.Normal.TextKinds.{at_least_is}
use Rattle.pass_laws.proofs.PreparedNests.Trips.{names_of_trip}
use Rattle.statement_passes.specs.Symbols.{place_among, shifted_trip, with_name_placed}
use Rattle.statement_passes.proofs.Forms.{shifted_trip_has_text}
use Rattle.prepared_passes.proofs.SymbolsAnew.Names.{in_either}
use Rattle.inductions.specs.Ends.{induction_end_text, induction_ending}
use Rattle.inductions.specs.Found.{end_form}
use Rattle.inductions.specs.declared.found.Induction.{Induction}
use Rattle.prepared_passes.proofs.SubstitutedNests.EndNumbers.{known_sized, trip_comes}

left_most : (a b c : ℕ) → max a b ≤ c → a ≤ c
left_most a b c h = omega (arith, h)

right_most : (a b c : ℕ) → max a b ≤ c → b ≤ c
right_most a b c h = omega (arith, h)

both_most : (a b c : ℕ) → a ≤ c → b ≤ c → max a b ≤ c
both_most a b c h k = omega (arith, h, k)

-- ---- blocks

module _ (es : List Declaration) (around : List (List ℕ)) where
  -- an ending asks of what surrounds it the variables of loops alone
  mutual
    statement_there : (c : Statement) (v w : Surroundings) → v.variables ≡ w.variables → IsEnding c → IsStatement es c w → IsStatement es c v
    statement_there (Assignment line mark left right) v w e k q = (q.0, (q.1.0, q.1.1, subst (λ xs. Contains xs left.name → ⊥) (sym e) q.1.2))
    statement_there (If line (arm test body no_arms) no_statements) v w e k q = (q.0, q.1, (q.2.0, block_there body v w e k.0.0 q.2.1, tt), tt)
    statement_there (If line (arm test body no_arms) (statement c cs)) v w e k q = absurd k.1
    statement_there (If line (arm test body (arm u b ms)) other) v w e k q = absurd k.0.1
    statement_there (If line no_arms other) v w e k q = absurd k.0
    statement_there (Where line mark mask left right) v w e k q = absurd k
    statement_there (Do line x a b c body) v w e k q = absurd k
    statement_there (Label n) v w e k q = absurd k
    statement_there (GoTo line n) v w e k q = absurd k
    statement_there (Stop line) v w e k q = absurd k
    statement_there (Read line is) v w e k q = absurd k
    statement_there (Print line is) v w e k q = absurd k
    statement_there (Allocate line x vs) v w e k q = absurd k
    statement_there (Deallocate line x) v w e k q = absurd k

    block_there : (b : Block) (v w : Surroundings) → v.variables ≡ w.variables → AreEndings b → IsBlock es b w → IsBlock es b v
    block_there no_statements v w e k q = tt
    block_there (statement c cs) v w e k q =
        (statement_there c (before_labels (labels_of cs) v) (before_labels (labels_of cs) w) e k.0 q.0, block_there cs v w e k.1 q.1)

  abbrev AreGood : Block → Type 0
  AreGood no_statements = Unit {0}
  AreGood (statement c cs) = ((w : Surroundings) → w.variables ≡ around → IsStatement es c w) × AreGood cs

  all_good : (b : Block) (w : Surroundings) → w.variables ≡ around → AreEndings b → IsBlock es b w → AreGood b
  all_good no_statements w e k q = tt
  all_good (statement c cs) w e k q = (λ v g. statement_there c v (before_labels (labels_of cs) w) (g ∙ sym e) k.0 q.0, all_good cs w e k.1 q.1)

  is_block : (b : Block) → AreGood b → (w : Surroundings) → w.variables ≡ around → IsBlock es b w
  is_block no_statements g w e = tt
  is_block (statement c cs) g w e = (g.0 (before_labels (labels_of cs) w) e, is_block cs g.1 w e)

  module _ (deepest : ℕ) where
    record IsGood (b : Block) : Type 0 where
      endings : AreEndings b
      names : (y : List ℕ) → In y (names_in_block b) → CountsNone y
      good : AreGood b
      deep : deepest_in b ≤ deepest

    none_good : IsGood no_statements
    none_good = record { endings = tt; names = λ y i. absurd i; good = tt; deep = omega arith }

    rest_good : (c : Statement) (cs : Block) → IsGood (statement c cs) → IsGood cs
    rest_good c cs h = record {
      endings = h.endings.1;
      names = λ y i. h.names y (In-right y (names_in_statement c) (names_in_block cs) i);
      good = h.good.1;
      deep = right_most (deepest_of c) (deepest_in cs) deepest h.deep;
    }

    with_good : (c : Statement) (cs : Block) → IsEnding c → ((y : List ℕ) → In y (names_in_statement c) → CountsNone y) → ((w : Surroundings) → w.variables ≡ around → IsStatement es c w)
        → deepest_of c ≤ deepest → IsGood cs → IsGood (statement c cs)
    with_good c cs e n g k h = record {
      endings = (e, h.endings);
      names = λ y i. by y (In-append y (names_in_statement c) (names_in_block cs) i);
      good = (g, h.good);
      deep = both_most (deepest_of c) (deepest_in cs) deepest k h.deep;
    }
      where
        by : (y : List ℕ) → In y (names_in_statement c) ⊎ In y (names_in_block cs) → CountsNone y
        by y (inl i) = n y i
        by y (inr i) = h.names y i

    good_then : (a b : Block) → IsGood a → IsGood b → IsGood (block_then a b)
    good_then no_statements b h k = k
    good_then (statement c cs) b h k =
        with_good c (block_then cs b) h.endings.0 (λ y i. h.names y (In-left y (names_in_statement c) (names_in_block cs) i)) h.good.0 (left_most (deepest_of c) (deepest_in cs) deepest h.deep)
        (good_then cs b (rest_good c cs h) k)

    good_after : (b : Block) → IsGood b → IsPreparedAfter es around deepest b
    good_after b h = record {
      endings = h.endings;
      names = Each-All CountsNone (names_in_block b) (each_from CountsNone (names_in_block b) h.names);
      profile = λ w e. is_block b h.good w e;
      deep = h.deep;
    }

    was_good : (d : ℕ) (b : Block) → d ≤ deepest → IsPreparedAfter es around d b → IsGood b
    was_good d b less h =
        let w : Surroundings = record { variables = around; ahead = [] } in
        let deep = h.deep in
        record {
          endings = h.endings;
          names = λ y i. all_in CountsNone (names_in_block b) h.names y i;
          good = all_good b w refl h.endings (h.profile w refl);
          deep = omega (arith, deep, less);
        }

-- ---- the texts

none_past : (a : Affine) → Zero 7 a
none_past a k l m = absurd (omega (arith, l, m))

sum_small : (n : ℕ) (ts : List Multiple) (a : Affine) → combination n ts ≡ Some a → IsSmallForm a
sum_small n ts a h = small_form 7 a (sum_is_form n 7 ts a h (omega arith) (none_past a))

integer_of : (o : Option Declaration) → IsSomeAnd o IsCounter → IsSomeAnd o (λ (c : Declaration). (c.kind ≡ Integer) × (rank_of_extent c.extent ≡ 0))
integer_of None g = absurd g
integer_of (Some c) g = (g.kind, ap rank_of_extent g.scalar)

-- a trip is of at most so many places
trip_sized : (symbols : List (List ℕ)) (last : Expression) (t : Trip) → IsPreparedTrip [] symbols last t → IsSized t.top
trip_sized symbols last t h = known_sized symbols last t h

module _ (es : List Declaration) (around : List (List ℕ)) (deepest : ℕ) (line : ℕ) (is_line : IsLine line) (symbols : List (List ℕ)) (last : Expression) (t : Trip) (p : IsPreparedTrip [] symbols last t)
    (room : 75 ≤ deepest) (integers : lists.Each (IsIntegerScalar es) symbols) (none : (y : List ℕ) → In y symbols → CountsNone y) where
  record IsText (n : ℕ) (e : Expression) : Type 0 where
    number : IsNumber es e
    names : (y : List ℕ) → In y (names_in e) → CountsNone y
    deep : depth_of e ≤ n

  trip_is : IsText 36 (trip_text [] symbols [] t)
  trip_is = record {
    number = trip_number es [] symbols t p.divisor tt integers (small_form 0 t.top p.top) p.by p.small;
    names = λ y i. names_of_trip CountsNone [] symbols t (λ z q. absurd q) none y i;
    deep = trip_deep [] symbols [] t 0 (trip_sized symbols last t p) tt;
  }

  -- an induction that is declared
  pub record IsFair (d : Induction) : Type 0 where
    pub end : end_form symbols t d.name d.step ≡ Some d.end
    pub small : IsSmall d.step
    pub declared_so : IsSomeAnd (declared es d.name) IsCounter
    pub counts : CountsNone d.name
    pub outside : ¬ Contains around d.name

  module _ (d : Induction) (f : IsFair d) where
    abbrev more : List (List ℕ)
    more = with_name_placed symbols d.name

    in_more : (P : List ℕ → Type 0) → ((y : List ℕ) → In y symbols → P y) → P d.name → lists.Each P (with_name_placed symbols d.name)
    in_more P g h = each_from P more (λ y i. by y (in_either symbols (place_among symbols d.name) d.name y i))
      where
        by : (y : List ℕ) → (y ≡ d.name) ⊎ In y symbols → P y
        by y (inl e) = subst P (sym e) h
        by y (inr i) = g y i

    -- the same text, as that of a loop's last value
    abbrev fake : NormalLoop
    fake = record {
      variable = d.name;
      counter = d.name;
      step = d.step;
      first = number_form (pos 0);
      below = number_form (pos 0);
      value = number_form (pos 0);
      trip = shifted_trip (place_among symbols d.name) t;
      end = d.end;
    }

    same_text : in_place.end_text (with_name_placed symbols d.name) [] fake ≡ induction_end_text symbols t d
    same_text = ap (λ e. text_of [] more (e ∷ []) d.end) (shifted_trip_has_text [] symbols [] d.name t)

    zero_small : IsSmallForm (number_form (pos 0))
    zero_small = small_form 7 (number_form (pos 0)) (number_is_form 7 (pos 0) refl)

    fake_small : IsSmallLoop fake
    fake_small = record {
      step = f.small;
      first = zero_small;
      below = zero_small;
      end = sum_small (length symbols + 2) (times (pos 1) (symbol_form (place_among symbols d.name)) ∷ times d.step (trip_form (length symbols + 1) (shifted_trip (place_among symbols d.name) t)) ∷ []) d.end f.end;
      top = small_form 0 (shifted_trip (place_among symbols d.name) t).top (trip_comes symbols d.name last t p).top;
      divisor = p.divisor;
      by = p.by;
      small = p.small;
    }

    end_is_text : IsText 70 (induction_end_text symbols t d)
    end_is_text = record {
      number = subst (IsNumber es) same_text
          (end_is es more (in_more (IsIntegerScalar es) (λ y i. each_in (IsIntegerScalar es) symbols integers y i) (integer_of (declared es d.name) f.declared_so)) [] fake tt fake_small);
      names = λ y i. named CountsNone (in_place.end_text more [] fake) (end_over CountsNone more (in_more CountsNone none f.counts) [] fake tt) y (subst (λ e. In y (names_in e)) (sym same_text) i);
      deep = text_deep [] more (trip_text [] symbols [] t ∷ []) d.end 36
          (sum_sized (length symbols + 2) (times (pos 1) (symbol_form (place_among symbols d.name)) ∷ times d.step (trip_form (length symbols + 1) (shifted_trip (place_among symbols d.name) t)) ∷ []) d.end f.end)
          (trip_is.deep, tt);
    }

    assigned_good : IsGood es around deepest (block (assigned line d.name (induction_end_text symbols t d) ∷ []))
    assigned_good =
        with_good es around deepest (assigned line d.name (induction_end_text symbols t d)) no_statements tt names profile deep (none_good es around deepest)
      where
        names : (y : List ℕ) → In y (d.name ∷ names_in (induction_end_text symbols t d)) → CountsNone y
        names y (inl e) = subst CountsNone (sym e) f.counts
        names y (inr i) = end_is_text.names y i

        deep : deepest_of (assigned line d.name (induction_end_text symbols t d)) ≤ deepest
        deep = let e = end_is_text.deep in both_most 0 (depth_of (induction_end_text symbols t d)) deepest (omega arith) (omega (arith, e, room))

        whole : (o : Option Declaration) → declared es d.name ≡ o → IsSomeAnd o IsCounter
            → IsSomeAnd o (λ (c : Declaration). IsWhole es (Named d.name no_subscripts) c.kind × IsWhole es (induction_end_text symbols t d) c.kind)
        whole None e g = absurd g
        whole (Some c) e g = (
          record { suits = (subst (λ (o : Option Declaration). IsSomeAnd o (λ (b : Declaration). (c.kind ≡ b.kind) × Unit {0})) (sym e) (refl, tt), tt); depth = omega arith },
          record { suits = subst (λ k. HasKind es (induction_end_text symbols t d) k) (sym g.kind) end_is_text.number.0; depth = (let x = end_is_text.deep in omega (arith, x)) },
        )

        profile : (w : Surroundings) → w.variables ≡ around → IsStatement es (assigned line d.name (induction_end_text symbols t d)) w
        profile w e = (
          (is_line, tt),
          (whole (declared es d.name) refl f.declared_so, inl end_is_text.number.1, λ c. f.outside (subst (λ xs. Contains xs d.name) e c)),
        )

    test_deep : depth_of (at_least_one (trip_text [] symbols [] t)) ≤ 38
    test_deep = binary_deep Ge (trip_text [] symbols [] t) (Number (pos 1)) 36 trip_is.deep (omega arith)

    under_good : IsGood es around deepest (block (only_where line (at_least_one (trip_text [] symbols [] t)) (assigned line d.name (induction_end_text symbols t d) ∷ []) ∷ []))
    under_good =
        with_good es around deepest (only_where line (at_least_one (trip_text [] symbols [] t)) (assigned line d.name (induction_end_text symbols t d) ∷ [])) no_statements
        ((assigned_good.endings, tt), tt) names profile deep (none_good es around deepest)
      where
        inner : Block
        inner = block (assigned line d.name (induction_end_text symbols t d) ∷ [])

        of_test : (y : List ℕ) → In y (names_in (trip_text [] symbols [] t)) ⊎ In y [] → CountsNone y
        of_test y (inl i) = trip_is.names y i
        of_test y (inr i) = absurd i

        of_both : (y : List ℕ) → In y (names_in (at_least_one (trip_text [] symbols [] t))) ⊎ In y (names_in_block inner) → CountsNone y
        of_both y (inl i) = of_test y (In-append y (names_in (trip_text [] symbols [] t)) [] i)
        of_both y (inr i) = assigned_good.names y i

        first : (y : List ℕ) (xs : List (List ℕ)) → (In y xs → CountsNone y) → In y xs ⊎ In y [] → CountsNone y
        first y xs g (inl i) = g i
        first y xs g (inr i) = absurd i

        names : (y : List ℕ) → In y (((names_in (at_least_one (trip_text [] symbols [] t)) ++ names_in_block inner) ++ []) ++ []) → CountsNone y
        names y i =
            first y ((names_in (at_least_one (trip_text [] symbols [] t)) ++ names_in_block inner) ++ [])
            (λ j. first y (names_in (at_least_one (trip_text [] symbols [] t)) ++ names_in_block inner)
            (λ k. of_both y (In-append y (names_in (at_least_one (trip_text [] symbols [] t))) (names_in_block inner) k))
            (In-append y (names_in (at_least_one (trip_text [] symbols [] t)) ++ names_in_block inner) [] j))
            (In-append y ((names_in (at_least_one (trip_text [] symbols [] t)) ++ names_in_block inner) ++ []) [] i)

        profile : (w : Surroundings) → w.variables ≡ around → IsStatement es (only_where line (at_least_one (trip_text [] symbols [] t)) (assigned line d.name (induction_end_text symbols t d) ∷ [])) w
        profile w e = (
          is_line,
          refl,
          (record { suits = at_least_is es (trip_text [] symbols [] t) trip_is.number; depth = (let x = test_deep in omega (arith, x)) }, is_block es around inner assigned_good.good w e, tt),
          tt,
        )

        deep : max (max (depth_of (at_least_one (trip_text [] symbols [] t))) (max (deepest_in inner) 0)) 0 ≤ deepest
        deep = let x = test_deep in let y = assigned_good.deep in all_most (depth_of (at_least_one (trip_text [] symbols [] t))) (deepest_in inner) deepest (omega (arith, x, room)) y
          where
            all_most : (a b c : ℕ) → a ≤ c → b ≤ c → max (max a (max b 0)) 0 ≤ c
            all_most a b c h k = omega (arith, h, k)

    one_good : IsGood es around deepest (block (induction_ending symbols line t d ∷ []))
    one_good = by (is_positive t)
      where
        by : (b : Bool) → IsGood es around deepest (block (cond b (assigned line d.name (induction_end_text symbols t d))
            (only_where line (at_least_one (trip_text [] symbols [] t)) (assigned line d.name (induction_end_text symbols t d) ∷ [])) ∷ []))
        by true = assigned_good
        by false = under_good

  endings_good : (ds : List Induction) → lists.Each IsFair ds → IsGood es around deepest (block (map (induction_ending symbols line t) ds))
  endings_good [] h = none_good es around deepest
  endings_good (d ∷ ds) h =
      good_then es around deepest (block (induction_ending symbols line t d ∷ [])) (block (map (induction_ending symbols line t) ds)) (one_good d h.0) (endings_good ds h.1)

  pub after_prepared : (d : ℕ) (b : Block) (ds : List Induction) → d ≤ deepest → lists.Each IsFair ds → IsPreparedAfter es around d b
      → IsPreparedAfter es around deepest (block_then b (block (map (induction_ending symbols line t) ds)))
  after_prepared d b ds less h k =
      good_after es around deepest (block_then b (block (map (induction_ending symbols line t) ds)))
      (good_then es around deepest b (block (map (induction_ending symbols line t) ds)) (was_good es around deepest d b less k) (endings_good ds h))
