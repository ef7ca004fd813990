-- The kinds of texts of loops from 1 by 1, and of what is made of statements there.
use Rattle.std.proofs.Common.{◌≡◌, refl, sym, subst, inl, ℕ, zero, suc, ◌+◌, ◌^◌, ◌<◌, ◌≤◌, max, ℤ, pos, negsuc, Bool}
use Rattle.std.proofs.Common.{true, false, cond, List, [], ◌∷◌, ◌++◌, get_or, Option, Some, None, arith}
use Rattle.std.specs.Option.{IsSomeAnd}
use Rattle.std.specs.Ordering.{int_eq}
use Rattle.std.specs.Prelude.{All, not, slice_get, ◌==◌, ◌||◌}
use Rattle.std.specs.Str.{bytes_eq}
use Rattle.std.proofs.lemmas.Int.{ints}
use Rattle.components.specs.Lists.{Each}
use Rattle.components.proofs.ListLaws.{Each-append}
use Rattle.meaning.specs.Depths.{level, enclosed, depth_of}
use Rattle.meaning.specs.Typed.{declared, rank_of_extent}
use Rattle.meaning.specs.Typed90.{HasKind, IsScalar, IsIntegerScalar, rank_of}
use Rattle.meaning.specs.Value.{named}
use Rattle.rewrite.proofs.Profiles.{Becomes-made}
use Rattle.rewrite.proofs.ReplacedProfile.{replacing_keeps_profile}
use Rattle.rewrite.specs.Making.{Making, made_parts}
use Rattle.rewrite.specs.Suits.{Suits}
use Rattle.rewrite.specs.Profile.{DeclaresAlso, TakesPlace, KeepsProfile}
use Rattle.rewrite.specs.Replacing.{Replacing}
use Rattle.rewrite.specs.Substituting.{replaced, substituting}
use Rattle.tree.specs.Plain.{Expression, Number, Logic, Named, Unary, Binary, Apply, Constructor, Spread, Transpose}
use Rattle.tree.specs.Plain.{Reshape, Reduce, no_subscripts, subscript, Reference, Declaration, Assignment}
use Rattle.tree.specs.Plain.{no_statements, statement}
use Rattle.tree.specs.declared.ops.Kind.{Kind}
use Rattle.tree.specs.declared.ops.Kind.TheVariants.{Integer}
use Rattle.tree.specs.declared.ops.Op.TheVariants.{Div, Mul}
use Rattle.last_values.specs.InPlace.{first_text, own_trip_text, end_text}
use Rattle.linear_forms.proofs.AllSuit.{suits_block}
use Rattle.linear_forms.proofs.CanonicalProfile.{canonising_keeps_profile}
use Rattle.linear_forms.specs.CanonicalLaws.{all_suit, AreIntegerScalars}
use Rattle.linear_forms.specs.Expressed.{term, plus_term, minus_term, with_term, with_terms, with_constant, variables}
use Rattle.linear_forms.specs.Texts.{with_place, with_symbols, places_behind, text_of}
use Rattle.normal_loops.specs.Values.{with_value, in_text, statement_with_values, normal_statement}
use Rattle.nest_rewrite.specs.Statements.{rewritten_statement}
use Rattle.nest.specs.Plain.{Guarded}
use Rattle.last_values.specs.normal_forms.NormalLoops.{counters_of}
use Rattle.last_values.specs.normal_forms.Texts.{quotient_text, trip_text, counter_first, variable_text}
use Rattle.last_values.specs.declared.normal_forms.loops.NormalLoop.{NormalLoop}
use Rattle.subscripts.specs.Shapes.{IsForm, IsSmall}
use Rattle.subscripts.specs.declared.affine.Affine.{Affine}

-- ---- small numbers

each_of : {A : Type 0} (P : A → Type 0) (xs : List A) → All P xs → Each P xs
each_of P [] h = tt
each_of P (x ∷ xs) h = (h 0 x (omega arith), each_of P xs (λ k d g. h (suc k) d (omega (arith, g))))

small_at : (xs : List ℤ) (k : ℕ) → Each IsSmall xs → IsSmall (get_or xs k (pos 0))
small_at [] k h = omega (arith, ints)
small_at (x ∷ xs) zero h = h.0
small_at (x ∷ xs) (suc k) h = small_at xs k h.1

-- the numbers in a form are within the limit
pub record IsSmallForm (a : Affine) : Type 0 where
  pub loops : Each IsSmall a.loops
  pub symbols : Each (λ (t : ℕ × ℤ). IsSmall t.1) a.syms
  pub constant : IsSmall a.constant

pub small_form : (d : ℕ) (a : Affine) → IsForm d a → IsSmallForm a
small_form d a h = record {
  loops = each_of IsSmall a.loops h.small_loops;
  symbols = each_of (λ (t : ℕ × ℤ). IsSmall t.1) a.syms h.small_symbols;
  constant = h.small_constant;
}

counter_is_small : (z : ℤ) (a : Affine) → IsSmall z → IsSmallForm a → IsSmallForm (counter_first z a)
counter_is_small z a s h = record {
  loops = (s, (small_at a.loops 0 h.loops, (small_at a.loops 1 h.loops, (small_at a.loops 2 h.loops, (small_at a.loops 3 h.loops, (small_at a.loops 4 h.loops, (small_at a.loops 5 h.loops, tt)))))));
  symbols = h.symbols;
  constant = h.constant;
}

-- the forms of a loop from 1 by 1 are within the limit
pub record IsSmallLoop (r : NormalLoop) : Type 0 where
  pub step : IsSmall r.step
  pub first : IsSmallForm r.first
  pub below : IsSmallForm r.below
  pub end : IsSmallForm r.end
  pub top : IsSmallForm r.trip.top
  pub divisor : ℕ
  pub by : r.trip.by ≡ pos divisor
  pub small : divisor ≤ 2 ^ 40

literal : (n : ℕ) → n ≤ 2 ^ 40 → n < 2 ^ 127
literal n h = omega (arith, h)

small_pos : (n : ℕ) → IsSmall (pos n) → n ≤ 2 ^ 40
small_pos n h = h

small_neg : (n : ℕ) → IsSmall (negsuc n) → suc n ≤ 2 ^ 40
small_neg n h = h

module _ (es : List Declaration) where
  -- an INTEGER expression without dimensions
  abbrev pub IsNumber : Expression → Type 0
  IsNumber e = IsScalar es e Integer

  no_ranks : (p q : ℕ) → p ≡ 0 → q ≡ 0 → max p q ≡ 0
  no_ranks p q h k = omega (arith, h, k)

  -- ---- texts

  abbrev SoFar : Option Expression → Type 0
  SoFar None = Unit {0}
  SoFar (Some e) = IsNumber e

  number_is : (n : ℕ) → n ≤ 2 ^ 40 → IsNumber (Number (pos n))
  number_is n h = ((literal n h, refl), refl)

  term_is : (n : ℕ) (t : Expression) → n ≤ 2 ^ 40 → IsNumber t → IsNumber (term n t)
  term_is n t s h = by (n == 1)
    where
      by : (b : Bool) → IsNumber (cond b t (Binary Mul (Number (pos n)) t))
      by true = h
      by false = ((refl, refl, (literal n s, refl), h.0, inl refl), no_ranks 0 (rank_of es t) refl h.1)

  plus_is : (o : Option Expression) (t : Expression) → SoFar o → IsNumber t → IsNumber (plus_term o t)
  plus_is None t h k = k
  plus_is (Some e) t h k = ((refl, refl, h.0, k.0, inl h.1), no_ranks (rank_of es e) (rank_of es t) h.1 k.1)

  minus_is : (o : Option Expression) (t : Expression) → SoFar o → IsNumber t → IsNumber (minus_term o t)
  minus_is None t h k = ((refl, refl, k.0), k.1)
  minus_is (Some e) t h k = ((refl, refl, h.0, k.0, inl h.1), no_ranks (rank_of es e) (rank_of es t) h.1 k.1)

  one_is : (o : Option Expression) (c : ℤ) (t : Expression) → IsSmall c → SoFar o → IsNumber t → SoFar (with_term o c t)
  one_is o (pos zero) t s h k = h
  one_is o (pos (suc n)) t s h k = plus_is o (term (suc n) t) h (term_is (suc n) t (small_pos (suc n) s) k)
  one_is o (negsuc n) t s h k = minus_is o (term (suc n) t) h (term_is (suc n) t (small_neg n s) k)

  terms_are : (o : Option Expression) (cs : List ℤ) (ts : List Expression) → Each IsSmall cs → SoFar o → Each IsNumber ts → SoFar (with_terms o cs ts)
  terms_are o [] ts s h k = h
  terms_are o (c ∷ cs) [] s h k = h
  terms_are o (c ∷ cs) (t ∷ ts) s h k = terms_are (with_term o c t) cs ts s.1 (one_is o c t s.0 h k.0) k.1

  constant_is : (o : Option Expression) (z : ℤ) → IsSmall z → SoFar o → IsNumber (with_constant o z)
  constant_is None (pos n) s h = number_is n (small_pos n s)
  constant_is None (negsuc n) s h = ((refl, refl, (literal (suc n) (small_neg n s), refl)), refl)
  constant_is (Some e) (pos zero) s h = h
  constant_is (Some e) (pos (suc n)) s h =
      ((refl, refl, h.0, (literal (suc n) (small_pos (suc n) s), refl), inl h.1), no_ranks (rank_of es e) 0 h.1 refl)
  constant_is (Some e) (negsuc n) s h =
      ((refl, refl, h.0, (literal (suc n) (small_neg n s), refl), inl h.1), no_ranks (rank_of es e) 0 h.1 refl)

  at_place : (ts : List Expression) (k : ℕ) (t : Expression) → Each IsNumber ts → slice_get ts k ≡ Some t → IsNumber t
  at_place [] k t h e = let no : ⊥ = cc in absurd no
  at_place (u ∷ ts) zero t h e = let same : u ≡ t = cc in subst IsNumber same h.0
  at_place (u ∷ ts) (suc k) t h e = at_place ts k t h.1 e

  got : (ts : List Expression) (k : ℕ) → Each IsNumber ts → SoFar (slice_get ts k)
  got ts k h = by (slice_get ts k) refl
    where
      by : (q : Option Expression) → slice_get ts k ≡ q → SoFar q
      by None e = tt
      by (Some t) e = at_place ts k t h e

  place_is : (o : Option Expression) (c : ℤ) (q : Option Expression) → IsSmall c → SoFar o → SoFar q → SoFar (with_place o c q)
  place_is o c None s h k = h
  place_is o c (Some t) s h k = one_is o c t s h k

  symbols_are : (o : Option Expression) (ss : List (ℕ × ℤ)) (ts : List Expression) → Each (λ (t : ℕ × ℤ). IsSmall t.1) ss → SoFar o → Each IsNumber ts → SoFar (with_symbols o ss ts)
  symbols_are o [] ts s h k = h
  symbols_are o (p ∷ ps) ts s h k =
      symbols_are (with_place o p.1 (slice_get ts p.0)) ps ts s.1 (place_is o p.1 (slice_get ts p.0) s.0 h (got ts p.0 k)) k

  integer_name : (o : Option Declaration) → IsSomeAnd o (λ (d : Declaration). (d.kind ≡ Integer) × (rank_of_extent d.extent ≡ 0)) → IsSomeAnd o (λ (d : Declaration). (Integer ≡ d.kind) × Unit {0})
  integer_name (Some d) h = (sym h.0, tt)
  integer_name None h = absurd h

  no_rank : (o : Option Declaration) → IsSomeAnd o (λ (d : Declaration). (d.kind ≡ Integer) × (rank_of_extent d.extent ≡ 0)) → ◌≡◌ {A = ℕ} (elim o [ None ↦ 0 | Some d ↦ rank_of_extent d.extent ]) 0
  no_rank (Some d) i = i.1
  no_rank None i = absurd i

  variables_are : (xs : List (List ℕ)) → Each (IsIntegerScalar es) xs → Each IsNumber (variables xs)
  variables_are [] h = tt
  variables_are (x ∷ xs) h = (((integer_name (declared es x) h.0, tt), no_rank (declared es x) h.0), variables_are xs h.1)

  text_is : (loops symbols : List (List ℕ)) (trips : List Expression) (a : Affine) → Each (IsIntegerScalar es) loops → Each (IsIntegerScalar es) symbols → Each IsNumber trips → IsSmallForm a
      → IsNumber (text_of loops symbols trips a)
  text_is loops symbols trips a l s t small =
      constant_is (with_symbols (with_terms None a.loops (variables loops)) a.syms (places_behind symbols trips)) a.constant small.constant
      (symbols_are (with_terms None a.loops (variables loops)) a.syms (places_behind symbols trips) small.symbols
      (terms_are None a.loops (variables loops) small.loops tt (variables_are loops l))
      (Each-append IsNumber (variables symbols) trips (variables_are symbols s) t))

  -- ---- two rules

  alike : DeclaresAlso es es
  alike = record { names = λ x d e. e; free = λ f h. h }

  suits : (m : Making) (e : Expression) → Suits m all_suit e
  suits m e = (suits_block m (statement (Assignment 0 None (record { name = []; subscripts = no_subscripts }) e) no_statements)).0.1

  same : (raise : ℕ) (e : Expression) (k : Kind) → HasKind es e k → TakesPlace es raise e e k
  same raise e k h = record { kind = h; rank = refl; depth = λ least. below_first (enclosed least (level e) (depth_of e)) }
    where
      below_first : (a : ℕ) → a ≤ max a raise
      below_first a = omega arith

  module _ (x : List ℕ) (by : Expression) (variable : IsIntegerScalar es x) (is : IsNumber by) where
    abbrev raise : ℕ
    raise = 1 + depth_of by

    abbrev rule : Replacing
    rule = record { variable = x; by = by; news = λ y. false; fixed = λ y. false }

    suited : (b : Bool) → (b || not (b || false)) ≡ true
    suited true = refl
    suited false = refl

    node : (first e : Expression) (k : Kind) → HasKind es e k → TakesPlace es raise e (replaced x by e) k
    node first (Named y no_subscripts) k h = (replacing_keeps_profile rule es variable is).expression first (Named y no_subscripts) k (suited (bytes_eq y x)) h
    node first (Named y (subscript p ps)) k h = same raise (Named y (subscript p ps)) k h
    node first (Number n) k h = same raise (Number n) k h
    node first (Logic b) k h = same raise (Logic b) k h
    node first (Unary o a) k h = same raise (Unary o a) k h
    node first (Binary o a b) k h = same raise (Binary o a b) k h
    node first (Apply f vs) k h = same raise (Apply f vs) k h
    node first (Constructor vs ls) k h = same raise (Constructor vs ls) k h
    node first (Spread a i n) k h = same raise (Spread a i n) k h
    node first (Transpose a) k h = same raise (Transpose a) k h
    node first (Reshape a vs) k h = same raise (Reshape a vs) k h
    node first (Reduce q a) k h = same raise (Reduce q a) k h

    substituting_keeps : KeepsProfile es raise (substituting x by) all_suit
    substituting_keeps = record {
      expression = λ first e k h kind. node first e k kind;
      left = λ l k h kind. same raise (named l) k kind;
      target = λ l h. inl refl;
    }

  -- ---- statements

  -- the right side has the kind of the name on the left
  pub record HasKinds (s : Guarded) : Type 0 where
    pub declaration : Declaration
    pub found : declared es s.left.name ≡ Some declaration
    pub right : HasKind es s.right declaration.kind

  statement_made : (m : Making) (raise : ℕ) → KeepsProfile es raise m all_suit → ((r : Reference) → m.left r ≡ r) → (s : Guarded) → HasKinds s → HasKinds (rewritten_statement m s)
  statement_made m raise keeps fixed s h = record {
    declaration = h.declaration;
    found = subst (λ (r : Reference). declared es r.name ≡ Some h.declaration) (sym (fixed (made_parts m s.left))) h.found;
    right = (Becomes-made es es alike raise m all_suit keeps s.right h.declaration.kind (suits m s.right) h.right).kind;
  }

  -- counters and variables of loops are INTEGER scalars, and their forms within the limit
  abbrev pub IsTypedLoop : NormalLoop → Type 0
  IsTypedLoop r = IsIntegerScalar es r.counter × (IsIntegerScalar es r.variable × IsSmallLoop r)

  counters_are : (round : List NormalLoop) → Each IsTypedLoop round → Each (IsIntegerScalar es) (counters_of round)
  counters_are [] h = tt
  counters_are (r ∷ rs) h = (h.0.0, counters_are rs h.1)

  scalars_are : (xs : List (List ℕ)) → Each (IsIntegerScalar es) xs → AreIntegerScalars es xs
  scalars_are [] h = tt
  scalars_are (x ∷ xs) h = (h.0, scalars_are xs h.1)

  module _ (symbols : List (List ℕ)) (are : Each (IsIntegerScalar es) symbols) where
    value_is : (outer : List NormalLoop) (r : NormalLoop) → Each IsTypedLoop outer → IsTypedLoop r → IsNumber (variable_text symbols outer r)
    unfolding variable_text
    value_is outer r h t =
        text_is (r.counter ∷ counters_of outer) symbols [] (counter_first r.step r.below) (t.0, counters_are outer h) are tt (counter_is_small r.step r.below t.1.1.step t.1.1.below)

    values_are : (outer rs : List NormalLoop) (s : Guarded) → Each IsTypedLoop outer → Each IsTypedLoop rs → HasKinds s → HasKinds (statement_with_values symbols outer rs s)
    values_are outer [] s h k g = g
    values_are outer (r ∷ rs) s h k g =
        values_are (outer ++ r ∷ []) rs (rewritten_statement (with_value symbols outer r) s) (Each-append IsTypedLoop outer (r ∷ []) h (k.0, tt)) k.1
        (statement_made (with_value symbols outer r) (raise r.variable (variable_text symbols outer r) k.0.1.0 (value_is outer r h k.0))
        (substituting_keeps r.variable (variable_text symbols outer r) k.0.1.0 (value_is outer r h k.0)) (λ l. refl) s g)

    pub normal_kinds : (round : List NormalLoop) (s : Guarded) → Each IsTypedLoop round → HasKinds s → HasKinds (normal_statement symbols round s)
    unfolding normal_statement
    normal_kinds round s h g =
        statement_made (in_text symbols round) 18
        (canonising_keeps_profile (counters_of round) symbols es (scalars_are (counters_of round ++ symbols) (Each-append (IsIntegerScalar es) (counters_of round) symbols (counters_are round h) are)))
        (λ l. refl) (statement_with_values symbols [] round s) (values_are [] round s tt h g)

    quotient_is : (e : Expression) (z : ℤ) (n : ℕ) → z ≡ pos n → n ≤ 2 ^ 40 → IsNumber e → IsNumber (quotient_text e z)
    quotient_is e z n same small h = by (int_eq z (pos 1))
      where
        divided : (y : ℤ) → y ≡ pos n → IsNumber (Binary Div e (Number y))
        divided y same = subst (λ (y : ℤ). IsNumber (Binary Div e (Number y))) (sym same)
            ((refl, refl, h.0, (literal n small, refl), inl h.1), no_ranks (rank_of es e) 0 h.1 refl)

        by : (b : Bool) → IsNumber (cond b e (Binary Div e (Number z)))
        by true = h
        by false = divided z same

    trip_is : (round : List NormalLoop) (r : NormalLoop) → Each IsTypedLoop round → IsSmallLoop r → IsNumber (own_trip_text symbols round r)
    unfolding trip_text
    trip_is round r h s =
        quotient_is (text_of (counters_of round) symbols [] r.trip.top) r.trip.by s.divisor s.by s.small
        (text_is (counters_of round) symbols [] r.trip.top (counters_are round h) are tt s.top)

    pub first_is : (round : List NormalLoop) (r : NormalLoop) → Each IsTypedLoop round → IsSmallLoop r → IsNumber (first_text symbols round r)
    first_is round r h s = text_is (counters_of round) symbols [] r.first (counters_are round h) are tt s.first

    pub end_is : (round : List NormalLoop) (r : NormalLoop) → Each IsTypedLoop round → IsSmallLoop r → IsNumber (end_text symbols round r)
    end_is round r h s = text_is (counters_of round) symbols (own_trip_text symbols round r ∷ []) r.end (counters_are round h) are (trip_is round r h s, tt) s.end
