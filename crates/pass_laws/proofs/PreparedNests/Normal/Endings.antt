-- The last values behind a nest are assignments and IFs of the profile, of limited depth.
use Rattle.std.proofs.Common.{◌≡◌, refl, sym, ap, subst, inl, ℕ, ◌+◌, ◌*◌, ◌^◌, ◌≤◌, ℤ, pos, Bool, true, false, cond}
use Rattle.std.proofs.Common.{List, [], ◌∷◌, ◌++◌, length, Option, Some, None, Contains, arith}
use Rattle.std.specs.List.{flat_map}
use Rattle.std.specs.Option.{IsSomeAnd}
use Rattle.std.specs.Prelude.{int_div}
use Rattle.std.proofs.lemmas.List.{length-append}
use Rattle.components.specs.Lists.{Each}
use Rattle.components.proofs.ListLaws.{Each-append}
use Rattle.meaning.specs.Blocks.{Surroundings, before_labels}
use Rattle.meaning.specs.Labels.{IsLine}
use Rattle.meaning.specs.Depths.{depth_of}
use Rattle.meaning.specs.Profile90.{IsBlock, IsStatement, IsWhole}
use Rattle.meaning.specs.Typed.{declared, rank_of_extent}
use Rattle.meaning.specs.Typed90.{IsIntegerScalar, HasKind}
use Rattle.meaning.specs.Value.{named}
use Rattle.tree.specs.Plain.{Binary, Declaration, Expression, Number, Statement, block}
use Rattle.tree.specs.declared.ops.Op.TheVariants.{And, Ge}
use Rattle.last_values.specs.Behind.{stands_behind}
use Rattle.last_values.specs.ValuesBehind.{left_behind, statements_or_none, values_behind}
use Rattle.last_values.specs.Endings.{Texts, after_statements, all_hold, assigned, loop_ending, last_texts, only_where}
use Rattle.last_values.specs.Endings.{where_all_hold, with_last_forms}
use Rattle.last_values.specs.Scalars.{scalar}
use Rattle.last_values.specs.declared.behind.NestedLoop.{NestedLoop}
use Rattle.normal_loops.specs.Loops.{nested, nested_in_branches, nested_in_parts, nested_loops, with_loop}
use Rattle.nest.specs.Plain.{Branches, Choice, Guarded, Jump, Label, Loop, Part, Parts, Run, Turns, branch}
use Rattle.nest.specs.Plain.{no_branches, no_parts, part}
use Rattle.nest.specs.declared.parts.Trip.{Trip}
use Rattle.pass_laws.proofs.NormalFacts.FoundStatements.{IsSourceLoop}
use Rattle.pass_laws.proofs.NormalFacts.LoopLimits.{loop_has_limits}
use Rattle.pass_laws.proofs.NormalFacts.StatementKinds.{IsNumber, IsSmallForm, IsSmallLoop, small_form}
use Rattle.last_values.specs.normal_forms.Combinations.{combination, number_form, times}
use Rattle.last_values.specs.normal_forms.LastValues.{have_plain_trips, last_forms}
use Rattle.last_values.specs.normal_forms.LastTexts.{is_uncertain, last_end_text, last_first_text}
use Rattle.last_values.specs.normal_forms.LastTexts.{last_trip_text, plain_trip_text, plain_trip_texts, test_of}
use Rattle.last_values.specs.normal_forms.LastTexts.{tests_of}
use Rattle.last_values.specs.normal_forms.LastValues.{with_trips}
use Rattle.last_values.specs.normal_forms.NormalLoops.{is_constant, is_known, is_positive, normal_loop, plus_multiple, trip_form}
use Rattle.last_values.specs.normal_forms.NormalLoops.{trip_of}
use Rattle.last_values.specs.normal_forms.Steps.{◌>>=◌}
use Rattle.last_values.specs.normal_forms.Texts.{at_least_one, trip_text}
use Rattle.last_values.specs.declared.normal_forms.combinations.Multiple.{Multiple}
use Rattle.last_values.specs.declared.normal_forms.last.LastForms.{LastForms}
use Rattle.last_values.specs.declared.normal_forms.loops.NormalLoop.{NormalLoop}
use Rattle.rewrite.specs.Profile.{deepest_in, deepest_of}
use Rattle.tree.specs.Plain.{Block}
use Rattle.pass_laws.specs.prepared_nests.After.{AreEndings, IsEnding}
use Rattle.pass_laws.proofs.ReadyNests.LoopForms.{HaveZeros, normal_loop_is, step}
use Rattle.pass_laws.proofs.ReadyNests.NormalTrips.{zeros_more}
use Rattle.pass_laws.proofs.ReadyNests.Sums.{Zero, number_is_form, small_quotient, sum_is_form, sum_small}
use Rattle.pass_laws.proofs.ReadyNests.Walk.{EachIn, EachInBranches, EachInParts}
use Rattle.linear_forms.specs.Texts.{text_of}
use Rattle.subscripts.specs.declared.affine.Affine.{Affine}
use Rattle.pass_laws.proofs.PreparedNests.Normal.Blocks.{HasNoLabel, IsNoLabel, no_labels}
use Rattle.pass_laws.proofs.PreparedNests.Normal.LoopSizes.{HasSizes, IsSized, loop_sized, sum_sized}
use Rattle.pass_laws.proofs.PreparedNests.Normal.Sources.{IsSoundLoop}
use Rattle.pass_laws.proofs.PreparedNests.Normal.TextDepths.{AreDeep, binary_deep, text_deep, trip_deep}
use Rattle.pass_laws.proofs.PreparedNests.Normal.TextKinds.{IsTest, at_least_is, both_are, quotient_is, text_is}
use Rattle.tree.specs.declared.ops.Kind.TheVariants.{Integer}

-- ---- forms of last values

none_past : (a : Affine) → Zero 7 a
none_past a k l m = absurd (omega (arith, l, m))

form_small : (n : ℕ) (ts : List Multiple) (a : Affine) → combination n ts ≡ Some a → IsSmallForm a
form_small n ts a h = small_form 7 a (sum_is_form n 7 ts a h (omega arith) (none_past a))

record IsFitTrip (t : Trip) : Type 0 where
  top : IsSmallForm t.top
  sized : IsSized t.top
  divisor : ℕ
  is : t.by ≡ pos divisor
  small : divisor ≤ 2 ^ 40

last_trip : (n d : ℕ) (ts : List Multiple) (a : Affine) → combination n ts ≡ Some a → d ≤ 2 ^ 40 → IsFitTrip (trip_of a (pos d))
last_trip n d ts a h l = by (is_constant a)
  where
    by : (b : Bool) → IsFitTrip (cond {A = Trip} b (record { top = number_form (int_div a.constant (pos d)); by = pos 1 }) (record { top = a; by = pos d }))
    by true = record {
      top = small_form 7 (number_form (int_div a.constant (pos d))) (number_is_form 7 (int_div a.constant (pos d)) (small_quotient a.constant d (sum_small n ts a h)));
      sized = record { loops = omega arith; symbols = omega arith };
      divisor = 1;
      is = refl;
      small = omega arith;
    }
    by false = record { top = form_small n ts a h; sized = sum_sized n ts a h; divisor = d; is = refl; small = l }

record AreFitForms (f : LastForms) : Type 0 where
  first : IsSmallForm f.first
  first_sized : IsSized f.first
  trip : IsFitTrip f.trip
  end : IsSmallForm f.end
  end_sized : IsSized f.end

same_forms : (f g : LastForms) → ◌≡◌ {A = Option LastForms} (Some f) (Some g) → f ≡ g
same_forms f g h = cc

forms_fit : (n : ℕ) (round : List NormalLoop) (r : NormalLoop) (f : LastForms) → IsSmallLoop r → last_forms n round r ≡ Some f → AreFitForms f
unfolding last_forms
forms_fit n round r f s h =
    let s1 = step (combination (n + 7) (with_trips n round r.first)) (λ first. combination (n + 7) (with_trips n round r.trip.top) >>= λ top. plus_multiple (n + 7) first r.step (trip_form (n + length round) (trip_of top r.trip.by)) >>= λ end. Some (record { first = first; trip = trip_of top r.trip.by; end = end })) f h in
    let s2 = step (combination (n + 7) (with_trips n round r.trip.top)) (λ top. plus_multiple (n + 7) s1.result r.step (trip_form (n + length round) (trip_of top r.trip.by)) >>= λ end. Some (record { first = s1.result; trip = trip_of top r.trip.by; end = end })) f s1.then in
    let s3 = step (plus_multiple (n + 7) s1.result r.step (trip_form (n + length round) (trip_of s2.result r.trip.by))) (λ end. Some (record { first = s1.result; trip = trip_of s2.result r.trip.by; end = end })) f s2.then in
    let is : LastForms = record { first = s1.result; trip = trip_of s2.result r.trip.by; end = s3.result } in
    let same : is ≡ f = same_forms is f s3.then in
    let trip : IsFitTrip (trip_of s2.result r.trip.by) =
    subst (λ (z : ℤ). IsFitTrip (trip_of s2.result z)) (sym s.by) (last_trip (n + 7) s.divisor (with_trips n round r.trip.top) s2.result s2.is s.small) in
    let steps : List Multiple = times (pos 1) s1.result ∷ times r.step (trip_form (n + length round) (trip_of s2.result r.trip.by)) ∷ [] in
    subst AreFitForms {x = is} same (record {
      first = form_small (n + 7) (with_trips n round r.first) s1.result s1.is;
      first_sized = sum_sized (n + 7) (with_trips n round r.first) s1.result s1.is;
      trip = trip;
      end = form_small (n + 7) steps s3.result s3.is;
      end_sized = sum_sized (n + 7) steps s3.result s3.is;
    })

-- ---- statements

module _ (es : List Declaration) (w : Surroundings) (line : ℕ) (line_is : IsLine line) where
  -- without label, of the profile, an assignment or an IF with one arm, and of limited depth
  abbrev IsGood : Statement → Type 0
  IsGood c = IsNoLabel c × IsStatement es c w × IsEnding c × (deepest_of c ≤ 665)

  abbrev AreGood : List Statement → Type 0
  AreGood cs = Each IsGood cs

  unlabelled : (cs : List Statement) → AreGood cs → HasNoLabel (block cs)
  unlabelled [] h = tt
  unlabelled (c ∷ cs) h = (h.0.0, unlabelled cs h.1)

  ending_block : (cs : List Statement) → AreGood cs → AreEndings (block cs)
  ending_block [] h = tt
  ending_block (c ∷ cs) h = (h.0.2, ending_block cs h.1)

  shallow_block : (cs : List Statement) → AreGood cs → deepest_in (block cs) ≤ 665
  shallow_block [] h = omega arith
  shallow_block (c ∷ cs) h = let a = h.0.3 in let b = shallow_block cs h.1 in omega (arith, a, b)

  good_block : (cs : List Statement) → AreGood cs → IsBlock es (block cs) w
  good_block [] h = tt
  good_block (c ∷ cs) h = (subst (λ ns. IsStatement es c (before_labels ns w)) (sym (no_labels (block cs) (unlabelled cs h.1))) h.0.1, good_block cs h.1)

  -- an INTEGER of limited depth
  record IsText (e : Expression) : Type 0 where
    is : IsNumber es e
    deep : depth_of e ≤ 200

  -- a variable that a loop may leave
  record IsVariable (v : List ℕ) : Type 0 where
    integer : IsIntegerScalar es v
    outside : Contains w.variables v → ⊥

  abbrev IsInteger : Declaration → Type 0
  IsInteger d = (d.kind ≡ Integer) × (rank_of_extent d.extent ≡ 0)

  assigned_is : (v : List ℕ) (e : Expression) → IsVariable v → IsText e → IsGood (assigned line v e)
  assigned_is v e h k =
      let right = k.deep in
      (tt, ((line_is, tt), (both (declared es v) refl h.integer, inl k.is.1, h.outside)), tt, omega (arith, right))
    where
      named_is : (o : Option Declaration) → IsSomeAnd o IsInteger → (d : Declaration) → o ≡ Some d → IsSomeAnd o (λ (c : Declaration). (d.kind ≡ c.kind) × Unit {0})
      named_is None g d f = absurd g
      named_is (Some c) g d f = let same : c ≡ d = cc in (ap (λ (x : Declaration). x.kind) (sym same), tt)

      both : (o : Option Declaration) → declared es v ≡ o → IsSomeAnd o IsInteger → IsSomeAnd o (λ (d : Declaration). IsWhole es (named (scalar v)) d.kind × IsWhole es e d.kind)
      both None f g = absurd g
      both (Some d) f g =
          let deep = k.deep in (
            record { suits = (named_is (declared es v) h.integer d f, tt); depth = omega arith },
            record { suits = subst (λ q. HasKind es e q) (sym g.0) k.is.0; depth = omega (arith, deep) },
          )

  only_where_is : (test : Expression) (cs : List Statement) → IsTest es test → depth_of test ≤ 300 → AreGood cs → IsGood (only_where line test cs)
  only_where_is test cs h d k =
      let inside = shallow_block cs k in
      (tt, (line_is, refl, (record { suits = h; depth = omega (arith, d) }, good_block cs k, tt), tt), ((ending_block cs k, tt), tt), omega (arith, d, inside))

  test_is : (e : Expression) → IsText e → IsTest es (at_least_one e) × (depth_of (at_least_one e) ≤ 202)
  test_is e h = (at_least_is es e h.is, binary_deep Ge e (Number (pos 1)) 200 h.deep (omega arith))

  ending_is : (v : List ℕ) (trip : Trip) (t : Texts) → IsVariable v → IsText t.first → IsText t.trip → IsText t.end → AreGood (loop_ending line v trip t)
  ending_is v trip t h first turns end = by (is_positive trip) (is_known trip)
    where
      test : IsTest es (at_least_one t.trip) × (depth_of (at_least_one t.trip) ≤ 202)
      test = test_is t.trip turns

      by : (b c : Bool) → AreGood (cond b (assigned line v t.end ∷ []) (cond c (assigned line v t.first ∷ []) (assigned line v t.first ∷ only_where line (at_least_one t.trip) (assigned line v t.end ∷ []) ∷ [])))
      by true c = (assigned_is v t.end h end, tt)
      by false true = (assigned_is v t.first h first, tt)
      by false false =
          let deep = test.1 in
          (assigned_is v t.first h first, (only_where_is (at_least_one t.trip) (assigned line v t.end ∷ []) test.0 (omega (arith, deep)) (assigned_is v t.end h end, tt), tt))

  -- ---- conditions

  abbrev AreTests : List Expression → Type 0
  AreTests ts = Each (λ (t : Expression). IsTest es t × (depth_of t ≤ 202)) ts

  joined : (e : Expression) (ts : List Expression) (d : ℕ) → IsTest es e → depth_of e ≤ d → 202 ≤ d → AreTests ts → IsTest es (all_hold e ts) × (depth_of (all_hold e ts) ≤ d + 2 * length ts)
  joined e [] d h k m g = (h, omega (arith, k))
  joined e (t ∷ ts) d h k m g =
      let deep = g.0.1 in
      let r = joined (Binary And e t) ts (d + 2) (both_are es e t h g.0.0) (binary_deep And e t d k (omega (arith, deep, m))) (omega (arith, m)) g.1 in
      let depth = r.1 in
      (r.0, omega (arith, depth))

  where_is : (ts : List Expression) (cs : List Statement) → length ts ≤ 7 → AreTests ts → AreGood cs → AreGood (where_all_hold line ts cs)
  where_is [] cs few h g = g
  where_is (t ∷ ts) cs few h g =
      let r = joined t ts 202 h.0.0 h.0.1 (omega arith) h.1 in
      let depth = r.1 in
      (only_where_is (all_hold t ts) cs r.0 (omega (arith, depth, few)) g, tt)

  -- ---- the texts of a loop

  -- a loop from 1 by 1 whose variable may get its last value
  pub record IsEndingLoop (r : NormalLoop) : Type 0 where
    pub integer : IsIntegerScalar es r.variable
    pub outside : Contains w.variables r.variable → ⊥
    pub small : IsSmallLoop r
    pub sizes : HasSizes r

  module _ (symbols : List (List ℕ)) (are : Each (IsIntegerScalar es) symbols) where
    trip_is : (trips : List Expression) (t : Trip) (n : ℕ) → IsSmallForm t.top → t.by ≡ pos n → n ≤ 2 ^ 40 → Each (IsNumber es) trips → IsNumber es (trip_text [] symbols trips t)
    unfolding trip_text
    trip_is trips t n top by small h = quotient_is es (text_of [] symbols trips t.top) t.by n by small (text_is es [] symbols trips t.top tt are h top)

    plain_is : (r : NormalLoop) → IsEndingLoop r → IsNumber es (plain_trip_text symbols r) × (depth_of (plain_trip_text symbols r) ≤ 36)
    unfolding plain_trip_text
    plain_is r h = (trip_is [] r.trip h.small.divisor h.small.top h.small.by h.small.small tt, trip_deep [] symbols [] r.trip 0 h.sizes.top tt)

    plain_are : (rs : List NormalLoop) → Each IsEndingLoop rs → Each (IsNumber es) (plain_trip_texts symbols rs)
    plain_are [] h = tt
    plain_are (r ∷ rs) h = ((plain_is r h.0).0, plain_are rs h.1)

    plain_deep : (rs : List NormalLoop) → Each IsEndingLoop rs → AreDeep 36 (plain_trip_texts symbols rs)
    plain_deep [] h = tt
    plain_deep (r ∷ rs) h = ((plain_is r h.0).1, plain_deep rs h.1)

    wider : (ts : List Expression) → AreDeep 36 ts → AreDeep 72 ts
    wider [] h = tt
    wider (t ∷ ts) h = (let d = h.0 in omega (arith, d), wider ts h.1)

    one_test : (r : NormalLoop) → IsEndingLoop r → AreTests (test_of symbols r) × (length (test_of symbols r) ≤ 1)
    one_test r h = by (is_uncertain r)
      where
        text : IsText (plain_trip_text symbols r)
        text = record { is = (plain_is r h).0; deep = (let d = (plain_is r h).1 in omega (arith, d)) }

        by : (b : Bool) → AreTests (cond b (at_least_one (plain_trip_text symbols r) ∷ []) []) × (length (cond b (at_least_one (plain_trip_text symbols r) ∷ []) []) ≤ 1)
        by true = ((test_is (plain_trip_text symbols r) text, tt), omega arith)
        by false = (tt, omega arith)

    all_tests : (rs : List NormalLoop) → Each IsEndingLoop rs → AreTests (tests_of symbols rs) × (length (tests_of symbols rs) ≤ length rs)
    all_tests [] h = (tt, omega arith)
    all_tests (r ∷ rs) h =
        let a = one_test r h.0 in
        let b = all_tests rs h.1 in
        let long = length-append (test_of symbols r) (tests_of symbols rs) in
        let one = a.1 in
        let rest = b.1 in
        (Each-append (λ (t : Expression). IsTest es t × (depth_of t ≤ 202)) (test_of symbols r) (tests_of symbols rs) a.0 b.0, omega (arith, long, one, rest))

    -- ---- behind all loops

    module _ (round : List NormalLoop) (r : NormalLoop) (few : length round ≤ 7) (rounds : Each IsEndingLoop round) (own : IsEndingLoop r) (f : LastForms) (forms : AreFitForms f) where
      abbrev trips : List Expression
      trips = plain_trip_texts symbols round

      first_is : IsText (last_first_text symbols round f)
      first_is =
          let deep = text_deep [] symbols trips f.first 36 forms.first_sized (plain_deep round rounds) in
          record { is = text_is es [] symbols trips f.first tt are (plain_are round rounds) forms.first; deep = omega (arith, deep) }

      turns_deep : depth_of (last_trip_text symbols round f) ≤ 72
      turns_deep = trip_deep [] symbols trips f.trip 36 forms.trip.sized (plain_deep round rounds)

      turns_is : IsText (last_trip_text symbols round f)
      turns_is =
          let deep = turns_deep in
          record { is = trip_is trips f.trip forms.trip.divisor forms.trip.top forms.trip.is forms.trip.small (plain_are round rounds); deep = omega (arith, deep) }

      end_is : IsText (last_end_text symbols round f)
      unfolding last_end_text
      end_is =
          let all = trips ++ last_trip_text symbols round f ∷ [] in
          let deep = text_deep [] symbols all f.end 72 forms.end_sized (Each-append (λ (t : Expression). depth_of t ≤ 72) trips (last_trip_text symbols round f ∷ []) (wider trips (plain_deep round rounds)) (turns_deep, tt)) in
          record {
            is = text_is es [] symbols all f.end tt are (Each-append (IsNumber es) trips (last_trip_text symbols round f ∷ []) (plain_are round rounds) (turns_is.is, tt)) forms.end;
            deep = omega (arith, deep);
          }

      behind_is : AreGood (where_all_hold line (tests_of symbols round) (loop_ending line r.variable f.trip (last_texts symbols round f)))
      behind_is =
          let tests = all_tests round rounds in
          let most = tests.1 in
          where_is (tests_of symbols round) (loop_ending line r.variable f.trip (last_texts symbols round f)) (omega (arith, most, few)) tests.0
          (ending_is r.variable f.trip (last_texts symbols round f) (record { integer = own.integer; outside = own.outside }) first_is turns_is end_is)

    after_is : (round : List NormalLoop) (r : NormalLoop) → length round ≤ 7 → Each IsEndingLoop round → IsEndingLoop r → AreGood (statements_or_none (after_statements symbols line round r))
    unfolding after_statements
    after_is round r few rounds own = by (have_plain_trips round) (last_forms (length symbols) round r) refl
      where
        by : (b : Bool) (o : Option LastForms) → last_forms (length symbols) round r ≡ o → AreGood (statements_or_none (cond b (with_last_forms symbols line round r o) None))
        by true None e = tt
        by true (Some f) e = behind_is round r few rounds own f (forms_fit (length symbols) round r f own.small e)
        by false o e = tt

    pub record IsEndingNested (l : NestedLoop) : Type 0 where
      pub few : length l.round ≤ 7
      pub rounds : Each IsEndingLoop l.round
      pub own : IsEndingLoop l.turns

    left_is : (ls : List NestedLoop) (p : Part) (l : NestedLoop) → IsEndingNested l → AreGood (left_behind symbols line ls p l)
    left_is ls p l h = by (stands_behind (length symbols) ls p l.turns.variable)
      where
        by : (b : Bool) → AreGood (cond b (statements_or_none (after_statements symbols line l.round l.turns)) [])
        by true = after_is l.round l.turns h.few h.rounds h.own
        by false = tt

    each_left : (all : List NestedLoop) (p : Part) (ls : List NestedLoop) → Each IsEndingNested ls → AreGood (flat_map (left_behind symbols line all p) ls)
    each_left all p [] h = tt
    each_left all p (l ∷ ls) h = Each-append IsGood (left_behind symbols line all p l) (flat_map (left_behind symbols line all p) ls) (left_is all p l h.0) (each_left all p ls h.1)

    -- such a block
    pub record IsGoodBlock (b : Block) : Type 0 where
      pub profile : IsBlock es b w
      pub endings : AreEndings b
      pub deep : deepest_in b ≤ 665

    pub values_are : (ls : List NestedLoop) (p : Part) → Each IsEndingNested ls → IsGoodBlock (values_behind symbols line ls p)
    unfolding values_behind
    values_are ls p h =
        let cs = flat_map (left_behind symbols line ls p) ls in
        let good = each_left ls p ls h in
        record { profile = good_block cs good; endings = ending_block cs good; deep = shallow_block cs good }

    -- ---- all loops of a nest

    record AreRounds (round : List NormalLoop) : Type 0 where
      few : length round ≤ 7
      zeros : HaveZeros (length round) round
      each : Each IsEndingLoop round

    abbrev pub IsFair : Loop → Type 0
    IsFair l = IsSourceLoop es symbols l × IsSoundLoop w l

    own_is : (round : List NormalLoop) (l : Loop) (r : NormalLoop) → AreRounds round → IsFair l → normal_loop symbols round l ≡ Some r → IsEndingLoop r
    own_is round l r u f e =
        let same = (normal_loop_is symbols round l r u.zeros e).variable in
        record {
          integer = subst (IsIntegerScalar es) (sym same) f.0.integer;
          outside = subst (λ x. Contains w.variables x → ⊥) (sym same) f.1.outside;
          small = (loop_has_limits symbols round l r u.zeros e).small;
          sizes = loop_sized symbols round l r e;
        }

    more_rounds : (round : List NormalLoop) (l : Loop) (r : NormalLoop) → AreRounds round → IsFair l → normal_loop symbols round l ≡ Some r → AreRounds (round ++ r ∷ [])
    more_rounds round l r u f e =
        let is = normal_loop_is symbols round l r u.zeros e in
        let deep = is.deep in
        let long = length-append round (r ∷ []) in
        record {
          few = omega (arith, deep, long);
          zeros = zeros_more round r u.zeros is.value;
          each = Each-append IsEndingLoop round (r ∷ []) u.each (own_is round l r u f e, tt);
        }

    turned : (round : List NormalLoop) (l : Loop) (o : Option NormalLoop) (ps : Parts) → AreRounds round → IsFair l → normal_loop symbols round l ≡ o
        → ((rs : List NormalLoop) → AreRounds rs → Each IsEndingNested (nested_in_parts symbols rs ps))
        → Each IsEndingNested (nested round o ++ nested_in_parts symbols (with_loop round o) ps)
    turned round l None ps u f e more = more round u
    turned round l (Some r) ps u f e more =
        (record { few = u.few; rounds = u.each; own = own_is round l r u f e }, more (round ++ r ∷ []) (more_rounds round l r u f e))

    module _ (Source : Guarded → Type 0) where
      mutual
        nested_are : (round : List NormalLoop) (p : Part) → AreRounds round → EachIn Source IsFair p → Each IsEndingNested (nested_loops symbols round p)
        nested_are round (Run s) u h = tt
        nested_are round (Turns l ps) u h = turned round l (normal_loop symbols round l) ps u h.0 refl (λ rs v. nested_parts rs ps v h.1)
        nested_are round (Choice bs ps) u h =
            Each-append IsEndingNested (nested_in_branches symbols round bs) (nested_in_parts symbols round ps) (nested_branches round bs u h.0) (nested_parts round ps u h.1)
        nested_are round (Label k) u h = tt
        nested_are round (Jump k) u h = tt

        nested_parts : (round : List NormalLoop) (ps : Parts) → AreRounds round → EachInParts Source IsFair ps → Each IsEndingNested (nested_in_parts symbols round ps)
        nested_parts round no_parts u h = tt
        nested_parts round (part p ps) u h =
            Each-append IsEndingNested (nested_loops symbols round p) (nested_in_parts symbols round ps) (nested_are round p u h.0) (nested_parts round ps u h.1)

        nested_branches : (round : List NormalLoop) (bs : Branches) → AreRounds round → EachInBranches Source IsFair bs → Each IsEndingNested (nested_in_branches symbols round bs)
        nested_branches round no_branches u h = tt
        nested_branches round (branch test ps bs) u h =
            Each-append IsEndingNested (nested_in_parts symbols round ps) (nested_in_branches symbols round bs) (nested_parts round ps u h.0) (nested_branches round bs u h.1)

      pub last_values_are : (p : Part) → EachIn Source IsFair p → IsGoodBlock (values_behind symbols line (nested_loops symbols [] p) p)
      last_values_are p h = values_are (nested_loops symbols [] p) p (nested_are [] p (record { few = omega arith; zeros = tt; each = tt }) h)
