-- Statements in loops from 1 by 1: they keep their kinds and ranks, and get at most so much deeper.
use Rattle.std.proofs.Common.{◌≡◌, refl, sym, ◌∙◌, subst, inl, ℕ, zero, suc, ◌+◌, ◌*◌, ◌≤◌, max, ℤ, pos, Bool, true}
use Rattle.std.proofs.Common.{false, List, [], ◌∷◌, ◌++◌, length, get_or, None, arith}
use Rattle.std.specs.Option.{IsSomeAnd}
use Rattle.std.specs.Prelude.{not, ◌||◌}
use Rattle.std.specs.Str.{bytes_eq}
use Rattle.std.proofs.lemmas.Int.{ints}
use Rattle.components.specs.Lists.{Each}
use Rattle.components.proofs.ListLaws.{Each-append}
use Rattle.meaning.specs.Depths.{depth_of, enclosed, level}
use Rattle.meaning.specs.Typed.{declared}
use Rattle.meaning.specs.Typed90.{HasKind, IsIntegerScalar, IsScalar}
use Rattle.meaning.specs.Value.{named}
use Rattle.rewrite.proofs.Profiles.{Becomes-left, Becomes-made, depth-alone}
use Rattle.rewrite.proofs.ReplacedProfile.{replacing_keeps_profile}
use Rattle.rewrite.specs.Making.{Making, made, made_left, made_parts}
use Rattle.rewrite.specs.Suits.{Suits, SuitsLeft}
use Rattle.rewrite.specs.Profile.{DeclaresAlso, KeepsProfile, TakesPlace}
use Rattle.rewrite.specs.Replacing.{Replacing}
use Rattle.rewrite.specs.Substituting.{replaced, substituting}
use Rattle.tree.specs.Plain.{Apply, Assignment, Binary, Constructor, Declaration, Expression, Logic, Named, Number}
use Rattle.tree.specs.Plain.{Reduce, Reference, Reshape, Spread, Transpose, Unary, no_statements, no_subscripts}
use Rattle.tree.specs.Plain.{statement, subscript}
use Rattle.tree.specs.declared.ops.Kind.{Kind}
use Rattle.tree.specs.declared.ops.Kind.TheVariants.{Logical}
use Rattle.linear_forms.proofs.AllSuit.{suits_block}
use Rattle.linear_forms.proofs.CanonicalProfile.{canonising_keeps_profile}
use Rattle.linear_forms.specs.CanonicalLaws.{AreIntegerScalars, all_suit}
use Rattle.normal_loops.specs.Tests.{normal_test, test_with_values}
use Rattle.normal_loops.specs.Values.{in_text, normal_statement, statement_with_values, with_value}
use Rattle.nest_rewrite.specs.Statements.{rewritten_statement}
use Rattle.nest.specs.Plain.{Guarded}
use Rattle.last_values.specs.normal_forms.NormalLoops.{counters_of}
use Rattle.last_values.specs.normal_forms.Texts.{counter_first, variable_text}
use Rattle.last_values.specs.declared.normal_forms.loops.NormalLoop.{NormalLoop}
use Rattle.pass_laws.proofs.NormalFacts.StatementKinds.{IsNumber, IsSmallForm, IsTypedLoop, first_is}
use Rattle.subscripts.specs.Shapes.{IsSmall}
use Rattle.subscripts.specs.declared.affine.Affine.{Affine}
use Rattle.pass_laws.proofs.PreparedNests.Normal.LoopSizes.{HasSizes}
use Rattle.pass_laws.proofs.PreparedNests.Normal.TextDepths.{value_deep}

-- ---- the value of a variable

small_at : (xs : List ℤ) (k : ℕ) → Each IsSmall xs → IsSmall (get_or xs k (pos 0))
small_at [] k h = omega (arith, ints)
small_at (x ∷ xs) zero h = h.0
small_at (x ∷ xs) (suc k) h = small_at xs k h.1

counter_is_small : (z : ℤ) (a : Affine) → IsSmall z → IsSmallForm a → IsSmallForm (counter_first z a)
counter_is_small z a s h = record {
  loops = (s, (small_at a.loops 0 h.loops, (small_at a.loops 1 h.loops, (small_at a.loops 2 h.loops, (small_at a.loops 3 h.loops, (small_at a.loops 4 h.loops, (small_at a.loops 5 h.loops, tt)))))));
  symbols = h.symbols;
  constant = h.constant;
}

module _ (es : List Declaration) where
  alike : DeclaresAlso es es
  alike = record { names = λ x d e. e; free = λ f h. h }

  suits : (m : Making) (e : Expression) → Suits m all_suit e
  suits m e = (suits_block m (statement (Assignment 0 None (record { name = []; subscripts = no_subscripts }) e) no_statements)).0.1

  suits_left : (m : Making) (r : Reference) → SuitsLeft m all_suit r
  suits_left m r = (suits_block m (statement (Assignment 0 None r (Number (pos 0))) no_statements)).0.0

  same : (raise : ℕ) (e : Expression) (k : Kind) → HasKind es e k → TakesPlace es raise e e k
  same raise e k h = record { kind = h; rank = refl; depth = λ least. below_first (enclosed least (level e) (depth_of e)) }
    where
      below_first : (a : ℕ) → a ≤ max a raise
      below_first a = omega arith

  module _ (x : List ℕ) (by : Expression) (variable : IsIntegerScalar es x) (is : IsNumber es by) where
    abbrev raise : ℕ
    raise = 1 + depth_of by

    abbrev rule : Replacing
    rule = record { variable = x; by = by; news = λ y. false; fixed = λ y. false }

    suited : (b : Bool) → (b || not (b || false)) ≡ true
    suited true = refl
    suited false = refl

    node : (first e : Expression) (k : Kind) → HasKind es e k → TakesPlace es raise e (replaced x by e) k
    node first (Named y no_subscripts) k h = (replacing_keeps_profile rule es variable is).expression first (Named y no_subscripts) k (suited (bytes_eq y x)) h
    node first (Named y (subscript p ps)) k h = same raise (Named y (subscript p ps)) k h
    node first (Number n) k h = same raise (Number n) k h
    node first (Logic b) k h = same raise (Logic b) k h
    node first (Unary o a) k h = same raise (Unary o a) k h
    node first (Binary o a b) k h = same raise (Binary o a b) k h
    node first (Apply f vs) k h = same raise (Apply f vs) k h
    node first (Constructor vs ls) k h = same raise (Constructor vs ls) k h
    node first (Spread a i n) k h = same raise (Spread a i n) k h
    node first (Transpose a) k h = same raise (Transpose a) k h
    node first (Reshape a vs) k h = same raise (Reshape a vs) k h
    node first (Reduce q a) k h = same raise (Reduce q a) k h

    substituting_keeps : KeepsProfile es raise (substituting x by) all_suit
    substituting_keeps = record {
      expression = λ first e k h kind. node first e k kind;
      left = λ l k h kind. same raise (named l) k kind;
      target = λ l h. inl refl;
    }

  -- ---- statements

  -- left and right side are scalars of one kind, and at most so deep
  pub record IsScalarAssignment (s : Guarded) (d : ℕ) : Type 0 where
    pub kind : Kind
    pub found : IsSomeAnd (declared es s.left.name) (λ (d : Declaration). d.kind ≡ kind)
    pub left : IsScalar es (named s.left) kind
    pub right : IsScalar es s.right kind
    pub left_depth : depth_of (named s.left) ≤ d
    pub right_depth : depth_of s.right ≤ d

  deeper : (a b r d : ℕ) → a ≤ b + r → b ≤ d → a ≤ d + r
  deeper a b r d h k = omega (arith, h, k)

  pub weaker : (s : Guarded) (d e : ℕ) → d ≤ e → IsScalarAssignment s d → IsScalarAssignment s e
  weaker s d e l h = record {
    kind = h.kind;
    found = h.found;
    left = h.left;
    right = h.right;
    left_depth = (let f = h.left_depth in omega (arith, f, l));
    right_depth = (let f = h.right_depth in omega (arith, f, l));
  }

  statement_made : (m : Making) (raise : ℕ) → KeepsProfile es raise m all_suit → ((r : Reference) → m.left r ≡ r) → (s : Guarded) (d : ℕ) → IsScalarAssignment s d → IsScalarAssignment (rewritten_statement m s) (d + raise)
  statement_made m raise keeps fixed s d h =
      let l = Becomes-left es es alike raise m all_suit keeps s.left h.kind (suits_left m s.left) h.left.0 in
      let r = Becomes-made es es alike raise m all_suit keeps s.right h.kind (suits m s.right) h.right.0 in
      record {
        kind = h.kind;
        found = subst (λ (r : Reference). IsSomeAnd (declared es r.name) (λ (d : Declaration). d.kind ≡ h.kind)) (sym (fixed (made_parts m s.left))) h.found;
        left = (l.kind, l.rank ∙ h.left.1);
        right = (r.kind, r.rank ∙ h.right.1);
        left_depth = deeper (depth_of (named (made_left m s.left))) (depth_of (named s.left)) raise d
            (depth-alone es es alike raise m all_suit keeps (named s.left) (named (made_left m s.left)) h.kind l) h.left_depth;
        right_depth = deeper (depth_of (made m s.right)) (depth_of s.right) raise d
            (depth-alone es es alike raise m all_suit keeps s.right (made m s.right) h.kind r) h.right_depth;
      }

  -- a scalar condition, at most so deep
  pub record IsScalarTest (e : Expression) (d : ℕ) : Type 0 where
    pub kind : IsScalar es e Logical
    pub depth : depth_of e ≤ d

  weaker_test : (e : Expression) (d f : ℕ) → d ≤ f → IsScalarTest e d → IsScalarTest e f
  weaker_test e d f l h = record { kind = h.kind; depth = (let k = h.depth in omega (arith, k, l)) }

  test_made : (m : Making) (raise : ℕ) → KeepsProfile es raise m all_suit → (e : Expression) (d : ℕ) → IsScalarTest e d → IsScalarTest (made m e) (d + raise)
  test_made m raise keeps e d h =
      let r = Becomes-made es es alike raise m all_suit keeps e Logical (suits m e) h.kind.0 in
      record {
        kind = (r.kind, r.rank ∙ h.kind.1);
        depth = deeper (depth_of (made m e)) (depth_of e) raise d (depth-alone es es alike raise m all_suit keeps e (made m e) Logical r) h.depth;
      }

  counters_are : (round : List NormalLoop) → Each (IsTypedLoop es) round → Each (IsIntegerScalar es) (counters_of round)
  counters_are [] h = tt
  counters_are (r ∷ rs) h = (h.0.0, counters_are rs h.1)

  scalars_are : (xs : List (List ℕ)) → Each (IsIntegerScalar es) xs → AreIntegerScalars es xs
  scalars_are [] h = tt
  scalars_are (x ∷ xs) h = (h.0, scalars_are xs h.1)

  module _ (symbols : List (List ℕ)) (are : Each (IsIntegerScalar es) symbols) where
    value_is : (outer : List NormalLoop) (r : NormalLoop) → Each (IsTypedLoop es) outer → IsTypedLoop es r → IsNumber es (variable_text symbols outer r)
    unfolding variable_text
    value_is outer r h t =
        let small = t.1.1 in
        first_is es symbols are (r ∷ outer) (record r { first = counter_first r.step r.below }) (t, h)
        (record {
          step = small.step;
          first = counter_is_small r.step r.below small.step small.below;
          below = small.below;
          end = small.end;
          top = small.top;
          divisor = small.divisor;
          by = small.by;
          small = small.small;
        })

    values_are : (outer rs : List NormalLoop) (s : Guarded) (d : ℕ) → Each (IsTypedLoop es) outer → Each (IsTypedLoop es) rs → Each HasSizes rs → IsScalarAssignment s d
        → IsScalarAssignment (statement_with_values symbols outer rs s) (d + 35 * length rs)
    values_are outer [] s d h k z g = weaker s d (d + 35 * 0) (omega arith) g
    values_are outer (r ∷ rs) s d h k z g =
        let value = variable_text symbols outer r in
        let is = value_is outer r h k.0 in
        let deep = value_deep symbols outer r z.0 in
        weaker (statement_with_values symbols (outer ++ r ∷ []) rs (rewritten_statement (with_value symbols outer r) s)) ((d + 35) + 35 * length rs) (d + 35 * suc (length rs)) (omega arith)
        (values_are (outer ++ r ∷ []) rs (rewritten_statement (with_value symbols outer r) s) (d + 35) (Each-append (IsTypedLoop es) outer (r ∷ []) h (k.0, tt)) k.1 z.1
        (weaker (rewritten_statement (with_value symbols outer r) s) (d + (1 + depth_of value)) (d + 35) (omega (arith, deep))
        (statement_made (with_value symbols outer r) (raise r.variable value k.0.1.0 is) (substituting_keeps r.variable value k.0.1.0 is) (λ l. refl) s d g)))

    -- at most 35 for the value of each of seven variables, and 18 for canonical text
    pub normal_assignment : (round : List NormalLoop) (s : Guarded) (d : ℕ) → length round ≤ 7 → Each (IsTypedLoop es) round → Each HasSizes round → IsScalarAssignment s d
        → IsScalarAssignment (normal_statement symbols round s) (d + 263)
    unfolding normal_statement
    normal_assignment round s d few h z g =
        weaker (rewritten_statement (in_text symbols round) (statement_with_values symbols [] round s)) ((d + 35 * length round) + 18) (d + 263) (omega (arith, few))
        (statement_made (in_text symbols round) 18
        (canonising_keeps_profile (counters_of round) symbols es (scalars_are (counters_of round ++ symbols) (Each-append (IsIntegerScalar es) (counters_of round) symbols (counters_are round h) are)))
        (λ l. refl) (statement_with_values symbols [] round s) (d + 35 * length round) (values_are [] round s d tt h z g))

    tests_are : (outer rs : List NormalLoop) (e : Expression) (d : ℕ) → Each (IsTypedLoop es) outer → Each (IsTypedLoop es) rs → Each HasSizes rs → IsScalarTest e d
        → IsScalarTest (test_with_values symbols outer rs e) (d + 35 * length rs)
    tests_are outer [] e d h k z g = weaker_test e d (d + 35 * 0) (omega arith) g
    tests_are outer (r ∷ rs) e d h k z g =
        let value = variable_text symbols outer r in
        let is = value_is outer r h k.0 in
        let deep = value_deep symbols outer r z.0 in
        weaker_test (test_with_values symbols (outer ++ r ∷ []) rs (made (with_value symbols outer r) e)) ((d + 35) + 35 * length rs) (d + 35 * suc (length rs)) (omega arith)
        (tests_are (outer ++ r ∷ []) rs (made (with_value symbols outer r) e) (d + 35) (Each-append (IsTypedLoop es) outer (r ∷ []) h (k.0, tt)) k.1 z.1
        (weaker_test (made (with_value symbols outer r) e) (d + (1 + depth_of value)) (d + 35) (omega (arith, deep))
        (test_made (with_value symbols outer r) (raise r.variable value k.0.1.0 is) (substituting_keeps r.variable value k.0.1.0 is) e d g)))

    pub normal_condition : (round : List NormalLoop) (e : Expression) (d : ℕ) → length round ≤ 7 → Each (IsTypedLoop es) round → Each HasSizes round → IsScalarTest e d
        → IsScalarTest (normal_test symbols round e) (d + 263)
    unfolding normal_test
    normal_condition round e d few h z g =
        weaker_test (made (in_text symbols round) (test_with_values symbols [] round e)) ((d + 35 * length round) + 18) (d + 263) (omega (arith, few))
        (test_made (in_text symbols round) 18
        (canonising_keeps_profile (counters_of round) symbols es (scalars_are (counters_of round ++ symbols) (Each-append (IsIntegerScalar es) (counters_of round) symbols (counters_are round h) are)))
        (test_with_values symbols [] round e) (d + 35 * length round) (tests_are [] round e d tt h z g))
