-- Expressions in which each name has as many subscripts as dimensions.
use Rattle.std.proofs.Common.{◌≡◌, refl, sym, ap, ◌∙◌, subst, ℕ, zero, suc, ℤ, pos, negsuc, Bool, true, false, cond, List, [], ◌∷◌, ◌++◌, Option, Some, None}
use Rattle.std.specs.Prelude.{slice_get, ◌==◌}
use Rattle.tree.specs.Plain.{Expression, Number, Logic, Named, Unary, Binary, Apply, Constructor, Spread, Transpose, Reshape, Reduce, Expressions, no_expressions, expression, Subscript, Only, Section, Subscripts, no_subscripts, subscript, Reference}
use Rattle.tree.specs.declared.ops.Op.TheVariants.{Mul}
use Rattle.subscripts.specs.declared.affine.Affine.{Affine}
use Rattle.linear_forms.specs.Linear.{Form, form_of}
use Rattle.linear_forms.specs.Expressed.{term, plus_term, minus_term, with_term, with_terms, with_constant, variables}
use Rattle.linear_forms.specs.Texts.{with_place, with_symbols, places_behind, text_of}
use Rattle.linear_forms.specs.Canonical.{text_or, canonical_text, canonising}
use Rattle.rewrite.specs.Making.{Making, made, made_expressions, made_loops, made_subscripts, made_subscript}
use Rattle.rewrite.specs.Names.{mentions}
use Rattle.rewrite.specs.Substituting.{is_variable_alone, substituting}
use Rattle.components.specs.Lists.{Each}
use Rattle.components.proofs.ListLaws.{Each-append}
use Rattle.dependence_graph.specs.nest_graph.Ready.{AreElements, subscript_count}
use Rattle.dependence_graph.specs.nest_graph.References.{is_among, has_no_subscript, own_reference, references_in, references_in_all, references_in_subscript, references_in_subscripts}

module _ (rank : List ℕ → ℕ) where
  -- each name has as many subscripts as its rank, of which none is a section
  abbrev mutual
    pub HasRanks : Expression → Type 0
    HasRanks (Number n) = Unit {0}
    HasRanks (Logic b) = Unit {0}
    HasRanks (Named x ss) = (subscript_count ss ≡ rank x) × HaveRanks ss
    HasRanks (Unary o a) = HasRanks a
    HasRanks (Binary o a b) = HasRanks a × HasRanks b
    HasRanks (Apply f es) = HaveRanksEach es
    HasRanks (Constructor es ls) = HaveRanksEach es
    HasRanks (Spread a n e) = HasRanks a × HasRanks e
    HasRanks (Transpose a) = HasRanks a
    HasRanks (Reshape a es) = HasRanks a × HaveRanksEach es
    HasRanks (Reduce r a) = HasRanks a

    pub HaveRanksEach : Expressions → Type 0
    HaveRanksEach no_expressions = Unit {0}
    HaveRanksEach (expression e es) = HasRanks e × HaveRanksEach es

    pub HaveRanks : Subscripts → Type 0
    HaveRanks no_subscripts = Unit {0}
    HaveRanks (subscript s ss) = IsRanked s × HaveRanks ss

    pub IsRanked : Subscript → Type 0
    IsRanked (Only e) = HasRanks e
    IsRanked (Section a b s) = ⊥

  -- an element, or a scalar
  pub record Fits (r : Reference) : Type 0 where
    pub elements : AreElements r.subscripts
    pub count : subscript_count r.subscripts ≡ rank r.name

  pub are_elements : (ss : Subscripts) → HaveRanks ss → AreElements ss
  are_elements no_subscripts h = tt
  are_elements (subscript (Only e) ss) h = are_elements ss h.1
  are_elements (subscript (Section a b s) ss) h = absurd h.0

  -- ---- what a rule makes

  module _ (m : Making) (keeps : (first e : Expression) → HasRanks e → HasRanks (m.expression first e)) where
    mutual
      pub made_ranks : (e : Expression) → HasRanks e → HasRanks (made m e)
      made_ranks (Number n) h = keeps (Number n) (Number n) h
      made_ranks (Logic b) h = keeps (Logic b) (Logic b) h
      made_ranks (Named x ss) h = keeps (Named x ss) (Named x (made_subscripts m ss)) (made_count ss ∙ h.0, made_ranks_in ss h.1)
      made_ranks (Unary o a) h = keeps (Unary o a) (Unary o (made m a)) (made_ranks a h)
      made_ranks (Binary o a b) h = keeps (Binary o a b) (Binary o (made m a) (made m b)) (made_ranks a h.0, made_ranks b h.1)
      made_ranks (Apply f es) h = keeps (Apply f es) (Apply f (made_expressions m es)) (made_ranks_each es h)
      made_ranks (Constructor es ls) h = keeps (Constructor es ls) (Constructor (made_expressions m es) (made_loops m ls)) (made_ranks_each es h)
      made_ranks (Spread a n e) h = keeps (Spread a n e) (Spread (made m a) n (made m e)) (made_ranks a h.0, made_ranks e h.1)
      made_ranks (Transpose a) h = keeps (Transpose a) (Transpose (made m a)) (made_ranks a h)
      made_ranks (Reshape a es) h = keeps (Reshape a es) (Reshape (made m a) (made_expressions m es)) (made_ranks a h.0, made_ranks_each es h.1)
      made_ranks (Reduce r a) h = keeps (Reduce r a) (Reduce r (made m a)) (made_ranks a h)

      made_ranks_each : (es : Expressions) → HaveRanksEach es → HaveRanksEach (made_expressions m es)
      made_ranks_each no_expressions h = tt
      made_ranks_each (expression e es) h = (made_ranks e h.0, made_ranks_each es h.1)

      pub made_ranks_in : (ss : Subscripts) → HaveRanks ss → HaveRanks (made_subscripts m ss)
      made_ranks_in no_subscripts h = tt
      made_ranks_in (subscript s ss) h = (made_ranked s h.0, made_ranks_in ss h.1)

      made_ranked : (s : Subscript) → IsRanked s → IsRanked (made_subscript m s)
      made_ranked (Only e) h = made_ranks e h
      made_ranked (Section a b s) h = absurd h

      pub made_count : (ss : Subscripts) → subscript_count (made_subscripts m ss) ≡ subscript_count ss
      made_count no_subscripts = refl
      made_count (subscript s ss) = ap suc (made_count ss)

  -- ---- texts

  abbrev SoFar : Option Expression → Type 0
  SoFar None = Unit {0}
  SoFar (Some e) = HasRanks e

  -- scalars
  abbrev pub AreScalars : List (List ℕ) → Type 0
  AreScalars xs = Each (λ (x : List ℕ). rank x ≡ 0) xs

  term_ranks : (n : ℕ) (t : Expression) → HasRanks t → HasRanks (term n t)
  term_ranks n t h = by (n == 1)
    where
      by : (b : Bool) → HasRanks (cond b t (Binary Mul (Number (pos n)) t))
      by true = h
      by false = (tt, h)

  plus_ranks : (o : Option Expression) (t : Expression) → SoFar o → HasRanks t → HasRanks (plus_term o t)
  plus_ranks None t h k = k
  plus_ranks (Some e) t h k = (h, k)

  minus_ranks : (o : Option Expression) (t : Expression) → SoFar o → HasRanks t → HasRanks (minus_term o t)
  minus_ranks None t h k = k
  minus_ranks (Some e) t h k = (h, k)

  one_ranks : (o : Option Expression) (c : ℤ) (t : Expression) → SoFar o → HasRanks t → SoFar (with_term o c t)
  one_ranks o (pos zero) t h k = h
  one_ranks o (pos (suc n)) t h k = plus_ranks o (term (suc n) t) h (term_ranks (suc n) t k)
  one_ranks o (negsuc n) t h k = minus_ranks o (term (suc n) t) h (term_ranks (suc n) t k)

  terms_ranks : (o : Option Expression) (cs : List ℤ) (ts : List Expression) → SoFar o → Each HasRanks ts → SoFar (with_terms o cs ts)
  terms_ranks o [] ts h k = h
  terms_ranks o (c ∷ cs) [] h k = h
  terms_ranks o (c ∷ cs) (t ∷ ts) h k = terms_ranks (with_term o c t) cs ts (one_ranks o c t h k.0) k.1

  constant_ranks : (o : Option Expression) (z : ℤ) → SoFar o → HasRanks (with_constant o z)
  constant_ranks None (pos n) h = tt
  constant_ranks None (negsuc n) h = tt
  constant_ranks (Some e) (pos zero) h = h
  constant_ranks (Some e) (pos (suc n)) h = (h, tt)
  constant_ranks (Some e) (negsuc n) h = (h, tt)

  at_place : (ts : List Expression) (k : ℕ) (t : Expression) → Each HasRanks ts → slice_get ts k ≡ Some t → HasRanks t
  at_place [] k t h e = let no : ⊥ = cc in absurd no
  at_place (u ∷ ts) zero t h e = let same : u ≡ t = cc in subst HasRanks same h.0
  at_place (u ∷ ts) (suc k) t h e = at_place ts k t h.1 e

  place_ranks : (o : Option Expression) (c : ℤ) (q : Option Expression) → SoFar o → SoFar q → SoFar (with_place o c q)
  place_ranks o c None h k = h
  place_ranks o c (Some t) h k = one_ranks o c t h k

  got : (ts : List Expression) (k : ℕ) → Each HasRanks ts → SoFar (slice_get ts k)
  got ts k h = by (slice_get ts k) refl
    where
      by : (q : Option Expression) → slice_get ts k ≡ q → SoFar q
      by None e = tt
      by (Some t) e = at_place ts k t h e

  symbols_ranks : (o : Option Expression) (ss : List (ℕ × ℤ)) (ts : List Expression) → SoFar o → Each HasRanks ts → SoFar (with_symbols o ss ts)
  symbols_ranks o [] ts h k = h
  symbols_ranks o (s ∷ ss) ts h k = symbols_ranks (with_place o s.1 (slice_get ts s.0)) ss ts (place_ranks o s.1 (slice_get ts s.0) h (got ts s.0 k)) k

  variable_ranks : (xs : List (List ℕ)) → AreScalars xs → Each HasRanks (variables xs)
  variable_ranks [] h = tt
  variable_ranks (x ∷ xs) h = ((sym h.0, tt), variable_ranks xs h.1)

  pub text_ranks : (loops symbols : List (List ℕ)) (trips : List Expression) (a : Affine) → AreScalars loops → AreScalars symbols → Each HasRanks trips → HasRanks (text_of loops symbols trips a)
  text_ranks loops symbols trips a l s t =
      constant_ranks (with_symbols (with_terms None a.loops (variables loops)) a.syms (places_behind symbols trips)) a.constant
      (symbols_ranks (with_terms None a.loops (variables loops)) a.syms (places_behind symbols trips)
      (terms_ranks None a.loops (variables loops) tt (variable_ranks loops l))
      (Each-append HasRanks (variables symbols) trips (variable_ranks symbols s) t))

  -- ---- two rules

  pub substituting_keeps : (x : List ℕ) (by : Expression) → HasRanks by → (first e : Expression) → HasRanks e → HasRanks ((substituting x by).expression first e)
  substituting_keeps x by h first e k = chosen (is_variable_alone x e)
    where
      chosen : (b : Bool) → HasRanks (cond b by e)
      chosen true = h
      chosen false = k

  pub canonising_keeps : (loops symbols : List (List ℕ)) → AreScalars loops → AreScalars symbols → (first e : Expression) → HasRanks e → HasRanks ((canonising loops symbols).expression first e)
  canonising_keeps loops symbols l s first e k = chosen (mentions loops first)
    where
      text : (o : Option Form) → HasRanks (text_or loops symbols o e)
      text None = k
      text (Some f) =
          constant_ranks (with_terms None f.coefficients (variables (loops ++ symbols))) f.constant
          (terms_ranks None f.coefficients (variables (loops ++ symbols)) tt
          (variable_ranks (loops ++ symbols) (Each-append (λ (x : List ℕ). rank x ≡ 0) loops symbols l s)))

      chosen : (b : Bool) → HasRanks (cond b (canonical_text loops symbols e) e)
      chosen true = text (form_of loops symbols e)
      chosen false = k

  -- ---- references

  module _ (loops : List (List ℕ)) where
    own : (x : List ℕ) (ss : Subscripts) → subscript_count ss ≡ rank x → HaveRanks ss → Each Fits (own_reference loops x ss)
    own x ss c h = by (has_no_subscript ss) (is_among loops x)
      where
        fits : Fits (record { name = x; subscripts = ss })
        fits = record { elements = are_elements ss h; count = c }

        by : (b d : Bool) → Each Fits (cond b (cond d [] (record { name = x; subscripts = ss } ∷ [])) (record { name = x; subscripts = ss } ∷ []))
        by true true = tt
        by true false = (fits, tt)
        by false d = (fits, tt)

    mutual
      pub references_fit : (e : Expression) → HasRanks e → Each Fits (references_in loops e)
      references_fit (Number n) h = tt
      references_fit (Logic b) h = tt
      references_fit (Named x ss) h = Each-append Fits (own_reference loops x ss) (references_in_subscripts loops ss) (own x ss h.0 h.1) (references_fit_in ss h.1)
      references_fit (Unary o a) h = references_fit a h
      references_fit (Binary o a b) h = Each-append Fits (references_in loops a) (references_in loops b) (references_fit a h.0) (references_fit b h.1)
      references_fit (Apply f es) h = references_fit_each es h
      references_fit (Constructor es ls) h = references_fit_each es h
      references_fit (Spread a n e) h = Each-append Fits (references_in loops a) (references_in loops e) (references_fit a h.0) (references_fit e h.1)
      references_fit (Transpose a) h = references_fit a h
      references_fit (Reshape a es) h = Each-append Fits (references_in loops a) (references_in_all loops es) (references_fit a h.0) (references_fit_each es h.1)
      references_fit (Reduce r a) h = references_fit a h

      references_fit_each : (es : Expressions) → HaveRanksEach es → Each Fits (references_in_all loops es)
      references_fit_each no_expressions h = tt
      references_fit_each (expression e es) h = Each-append Fits (references_in loops e) (references_in_all loops es) (references_fit e h.0) (references_fit_each es h.1)

      references_fit_one : (s : Subscript) → IsRanked s → Each Fits (references_in_subscript loops s)
      references_fit_one (Only e) h = references_fit e h
      references_fit_one (Section a b s) h = absurd h

      pub references_fit_in : (ss : Subscripts) → HaveRanks ss → Each Fits (references_in_subscripts loops ss)
      references_fit_in no_subscripts h = tt
      references_fit_in (subscript s ss) h =
          Each-append Fits (references_in_subscript loops s) (references_in_subscripts loops ss) (references_fit_one s h.0) (references_fit_in ss h.1)
