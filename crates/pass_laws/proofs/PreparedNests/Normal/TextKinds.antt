-- The kinds of texts over loops, symbols and divided trips.
use Rattle.std.proofs.Common.{◌≡◌, refl, sym, subst, inl, ℕ, zero, suc, ◌^◌, ◌<◌, ◌≤◌, max, ℤ, pos, negsuc, Bool, true}
use Rattle.std.proofs.Common.{false, cond, List, [], ◌∷◌, Option, Some, None, arith}
use Rattle.std.specs.Option.{IsSomeAnd}
use Rattle.std.specs.Ordering.{int_eq}
use Rattle.std.specs.Prelude.{slice_get, ◌==◌}
use Rattle.components.specs.Lists.{Each}
use Rattle.components.proofs.ListLaws.{Each-append}
use Rattle.meaning.specs.Typed.{declared, rank_of_extent}
use Rattle.meaning.specs.Typed90.{IsIntegerScalar, IsScalar, rank_of}
use Rattle.tree.specs.Plain.{Binary, Declaration, Expression, Number}
use Rattle.tree.specs.declared.ops.Kind.TheVariants.{Integer, Logical}
use Rattle.tree.specs.declared.ops.Op.TheVariants.{And, Div, Mul}
use Rattle.linear_forms.specs.Expressed.{minus_term, plus_term, term, variables, with_constant, with_term, with_terms}
use Rattle.linear_forms.specs.Texts.{places_behind, text_of, with_place, with_symbols}
use Rattle.pass_laws.proofs.NormalFacts.StatementKinds.{IsNumber, IsSmallForm}
use Rattle.last_values.specs.normal_forms.Texts.{at_least_one, quotient_text}
use Rattle.subscripts.specs.Shapes.{IsSmall}
use Rattle.subscripts.specs.declared.affine.Affine.{Affine}

literal : (n : ℕ) → n ≤ 2 ^ 40 → n < 2 ^ 127
literal n h = omega (arith, h)

small_pos : (n : ℕ) → IsSmall (pos n) → n ≤ 2 ^ 40
small_pos n h = h

small_neg : (n : ℕ) → IsSmall (negsuc n) → suc n ≤ 2 ^ 40
small_neg n h = h

module _ (es : List Declaration) where
  pub no_ranks : (p q : ℕ) → p ≡ 0 → q ≡ 0 → max p q ≡ 0
  no_ranks p q h k = omega (arith, h, k)

  -- ---- texts

  abbrev pub SoFar : Option Expression → Type 0
  SoFar None = Unit {0}
  SoFar (Some e) = IsNumber es e

  number_is : (n : ℕ) → n ≤ 2 ^ 40 → IsNumber es (Number (pos n))
  number_is n h = ((literal n h, refl), refl)

  term_is : (n : ℕ) (t : Expression) → n ≤ 2 ^ 40 → IsNumber es t → IsNumber es (term n t)
  term_is n t s h = by (n == 1)
    where
      by : (b : Bool) → IsNumber es (cond b t (Binary Mul (Number (pos n)) t))
      by true = h
      by false = ((refl, refl, (literal n s, refl), h.0, inl refl), no_ranks 0 (rank_of es t) refl h.1)

  plus_is : (o : Option Expression) (t : Expression) → SoFar o → IsNumber es t → IsNumber es (plus_term o t)
  plus_is None t h k = k
  plus_is (Some e) t h k = ((refl, refl, h.0, k.0, inl h.1), no_ranks (rank_of es e) (rank_of es t) h.1 k.1)

  minus_is : (o : Option Expression) (t : Expression) → SoFar o → IsNumber es t → IsNumber es (minus_term o t)
  minus_is None t h k = ((refl, refl, k.0), k.1)
  minus_is (Some e) t h k = ((refl, refl, h.0, k.0, inl h.1), no_ranks (rank_of es e) (rank_of es t) h.1 k.1)

  pub one_is : (o : Option Expression) (c : ℤ) (t : Expression) → IsSmall c → SoFar o → IsNumber es t → SoFar (with_term o c t)
  one_is o (pos zero) t s h k = h
  one_is o (pos (suc n)) t s h k = plus_is o (term (suc n) t) h (term_is (suc n) t (small_pos (suc n) s) k)
  one_is o (negsuc n) t s h k = minus_is o (term (suc n) t) h (term_is (suc n) t (small_neg n s) k)

  pub terms_are : (o : Option Expression) (cs : List ℤ) (ts : List Expression) → Each IsSmall cs → SoFar o → Each (IsNumber es) ts → SoFar (with_terms o cs ts)
  terms_are o [] ts s h k = h
  terms_are o (c ∷ cs) [] s h k = h
  terms_are o (c ∷ cs) (t ∷ ts) s h k = terms_are (with_term o c t) cs ts s.1 (one_is o c t s.0 h k.0) k.1

  pub constant_is : (o : Option Expression) (z : ℤ) → IsSmall z → SoFar o → IsNumber es (with_constant o z)
  constant_is None (pos n) s h = number_is n (small_pos n s)
  constant_is None (negsuc n) s h = ((refl, refl, (literal (suc n) (small_neg n s), refl)), refl)
  constant_is (Some e) (pos zero) s h = h
  constant_is (Some e) (pos (suc n)) s h =
      ((refl, refl, h.0, (literal (suc n) (small_pos (suc n) s), refl), inl h.1), no_ranks (rank_of es e) 0 h.1 refl)
  constant_is (Some e) (negsuc n) s h =
      ((refl, refl, h.0, (literal (suc n) (small_neg n s), refl), inl h.1), no_ranks (rank_of es e) 0 h.1 refl)

  at_place : (ts : List Expression) (k : ℕ) (t : Expression) → Each (IsNumber es) ts → slice_get ts k ≡ Some t → IsNumber es t
  at_place [] k t h e = let no : ⊥ = cc in absurd no
  at_place (u ∷ ts) zero t h e = let same : u ≡ t = cc in subst (IsNumber es) same h.0
  at_place (u ∷ ts) (suc k) t h e = at_place ts k t h.1 e

  got : (ts : List Expression) (k : ℕ) → Each (IsNumber es) ts → SoFar (slice_get ts k)
  got ts k h = by (slice_get ts k) refl
    where
      by : (q : Option Expression) → slice_get ts k ≡ q → SoFar q
      by None e = tt
      by (Some t) e = at_place ts k t h e

  place_is : (o : Option Expression) (c : ℤ) (q : Option Expression) → IsSmall c → SoFar o → SoFar q → SoFar (with_place o c q)
  place_is o c None s h k = h
  place_is o c (Some t) s h k = one_is o c t s h k

  symbols_are : (o : Option Expression) (ss : List (ℕ × ℤ)) (ts : List Expression) → Each (λ (t : ℕ × ℤ). IsSmall t.1) ss → SoFar o → Each (IsNumber es) ts → SoFar (with_symbols o ss ts)
  symbols_are o [] ts s h k = h
  symbols_are o (p ∷ ps) ts s h k =
      symbols_are (with_place o p.1 (slice_get ts p.0)) ps ts s.1 (place_is o p.1 (slice_get ts p.0) s.0 h (got ts p.0 k)) k

  integer_name : (o : Option Declaration) → IsSomeAnd o (λ (d : Declaration). (d.kind ≡ Integer) × (rank_of_extent d.extent ≡ 0)) → IsSomeAnd o (λ (d : Declaration). (Integer ≡ d.kind) × Unit {0})
  integer_name (Some d) h = (sym h.0, tt)
  integer_name None h = absurd h

  no_rank : (o : Option Declaration) → IsSomeAnd o (λ (d : Declaration). (d.kind ≡ Integer) × (rank_of_extent d.extent ≡ 0)) → ◌≡◌ {A = ℕ} (elim o [ None ↦ 0 | Some d ↦ rank_of_extent d.extent ]) 0
  no_rank (Some d) i = i.1
  no_rank None i = absurd i

  variables_are : (xs : List (List ℕ)) → Each (IsIntegerScalar es) xs → Each (IsNumber es) (variables xs)
  variables_are [] h = tt
  variables_are (x ∷ xs) h = (((integer_name (declared es x) h.0, tt), no_rank (declared es x) h.0), variables_are xs h.1)

  pub text_is : (loops symbols : List (List ℕ)) (trips : List Expression) (a : Affine) → Each (IsIntegerScalar es) loops → Each (IsIntegerScalar es) symbols → Each (IsNumber es) trips → IsSmallForm a
      → IsNumber es (text_of loops symbols trips a)
  text_is loops symbols trips a l s t small =
      constant_is (with_symbols (with_terms None a.loops (variables loops)) a.syms (places_behind symbols trips)) a.constant small.constant
      (symbols_are (with_terms None a.loops (variables loops)) a.syms (places_behind symbols trips) small.symbols
      (terms_are None a.loops (variables loops) small.loops tt (variables_are loops l))
      (Each-append (IsNumber es) (variables symbols) trips (variables_are symbols s) t))

  pub quotient_is : (e : Expression) (z : ℤ) (n : ℕ) → z ≡ pos n → n ≤ 2 ^ 40 → IsNumber es e → IsNumber es (quotient_text e z)
  quotient_is e z n same small h = by (int_eq z (pos 1))
    where
      divided : (y : ℤ) → y ≡ pos n → IsNumber es (Binary Div e (Number y))
      divided y same = subst (λ (y : ℤ). IsNumber es (Binary Div e (Number y))) (sym same)
          ((refl, refl, h.0, (literal n small, refl), inl h.1), no_ranks (rank_of es e) 0 h.1 refl)

      by : (b : Bool) → IsNumber es (cond b e (Binary Div e (Number z)))
      by true = h
      by false = divided z same

  -- ---- tests

  abbrev pub IsTest : Expression → Type 0
  IsTest e = IsScalar es e Logical

  pub at_least_is : (e : Expression) → IsNumber es e → IsTest (at_least_one e)
  at_least_is e h = ((refl, refl, h.0, (omega arith, refl), inl h.1), no_ranks (rank_of es e) 0 h.1 refl)

  pub both_are : (a b : Expression) → IsTest a → IsTest b → IsTest (Binary And a b)
  both_are a b h k = ((refl, refl, h.0, k.0, inl h.1), no_ranks (rank_of es a) (rank_of es b) h.1 k.1)
