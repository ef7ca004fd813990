-- Rules that put texts of forms into expressions of FORTRAN 77 leave them such expressions.
use Rattle.std.proofs.Common.{ℕ, zero, suc, ℤ, pos, negsuc, Bool, true, false, cond, List, [], ◌∷◌, ◌++◌, Option, Some}
use Rattle.std.proofs.Common.{None}
use Rattle.std.specs.Option.{option_map}
use Rattle.std.specs.Prelude.{◌==◌, slice_get}
use Rattle.components.specs.Lists.{Each}
use Rattle.components.proofs.ListLaws.{Each-append}
use Rattle.tree.specs.Plain.{Expression, Number, Logic, Named, Unary, Binary, Apply, Constructor, Spread, Transpose}
use Rattle.tree.specs.Plain.{Reshape, Reduce, Expressions, no_expressions, expression, Subscript, Only, Section}
use Rattle.tree.specs.Plain.{Subscripts, no_subscripts, subscript}
use Rattle.tree.specs.declared.ops.Op.{Op}
use Rattle.tree.specs.declared.ops.Op.TheVariants.{Mul, Neg, Add, Sub}
use Rattle.rewrite.specs.Making.{Making, made, made_expressions, made_subscript, made_subscripts}
use Rattle.rewrite.specs.Substituting.{is_variable_alone}
use Rattle.linear_forms.specs.Expressed.{term, plus_term, minus_term, with_term, with_terms, with_constant, expressed}
use Rattle.linear_forms.specs.Expressed.{variables}
use Rattle.linear_forms.specs.Linear.{Form}
use Rattle.linear_forms.specs.Texts.{with_place, with_symbols, places_behind, text_of}
use Rattle.normal_loops.specs.Values.{with_value, statement_with_values}
use Rattle.nest_rewrite.specs.Statements.{rewritten_statement}
use Rattle.nest_order.specs.runs.Touched.{IsPlain, EachIsPlain, ArePlain, IsPlainGuard, IsPlainSubscript}
use Rattle.nest.specs.Plain.{Guarded}
use Rattle.last_values.specs.normal_forms.NormalLoops.{counters_of}
use Rattle.last_values.specs.normal_forms.Texts.{counter_first, variable_text}
use Rattle.last_values.specs.declared.normal_forms.loops.NormalLoop.{NormalLoop}
use Rattle.subscripts.specs.declared.affine.Affine.{Affine}

-- ---- texts of forms

-- what numbers and signs leave so
module _ (P : Expression → Type 0) (number : (z : ℤ) → P (Number z)) (unary : (o : Op) (e : Expression) → P e → P (Unary o e))
    (binary : (o : Op) (e f : Expression) → P e → P f → P (Binary o e f)) where
  abbrev SoFar : Option Expression → Type 0
  SoFar None = Unit {0}
  SoFar (Some e) = P e

  term_is : (n : ℕ) (t : Expression) → P t → P (term n t)
  term_is n t h = by (n == 1)
    where
      by : (b : Bool) → P (cond b t (Binary Mul (Number (pos n)) t))
      by true = h
      by false = binary Mul (Number (pos n)) t (number (pos n)) h

  plus_is : (o : Option Expression) (t : Expression) → SoFar o → P t → P (plus_term o t)
  plus_is None t h k = k
  plus_is (Some e) t h k = binary Add e t h k

  minus_is : (o : Option Expression) (t : Expression) → SoFar o → P t → P (minus_term o t)
  minus_is None t h k = unary Neg t k
  minus_is (Some e) t h k = binary Sub e t h k

  one_is : (o : Option Expression) (c : ℤ) (t : Expression) → SoFar o → P t → SoFar (with_term o c t)
  one_is o (pos zero) t h k = h
  one_is o (pos (suc n)) t h k = plus_is o (term (suc n) t) h (term_is (suc n) t k)
  one_is o (negsuc n) t h k = minus_is o (term (suc n) t) h (term_is (suc n) t k)

  terms_are : (o : Option Expression) (cs : List ℤ) (ts : List Expression) → SoFar o → Each P ts → SoFar (with_terms o cs ts)
  terms_are o [] ts h k = h
  terms_are o (c ∷ cs) [] h k = h
  terms_are o (c ∷ cs) (t ∷ ts) h k = terms_are (with_term o c t) cs ts (one_is o c t h k.0) k.1

  constant_is : (o : Option Expression) (z : ℤ) → SoFar o → P (with_constant o z)
  constant_is None (pos n) h = number (pos n)
  constant_is None (negsuc n) h = unary Neg (Number (pos (suc n))) (number (pos (suc n)))
  constant_is (Some e) (pos zero) h = h
  constant_is (Some e) (pos (suc n)) h = binary Add e (Number (pos (suc n))) h (number (pos (suc n)))
  constant_is (Some e) (negsuc n) h = binary Sub e (Number (pos (suc n))) h (number (pos (suc n)))

  got : (ts : List Expression) (k : ℕ) → Each P ts → SoFar (slice_get ts k)
  got [] k h = tt
  got (t ∷ ts) zero h = h.0
  got (t ∷ ts) (suc k) h = got ts k h.1

  place_is : (o : Option Expression) (c : ℤ) (q : Option Expression) → SoFar o → SoFar q → SoFar (with_place o c q)
  place_is o c None h k = h
  place_is o c (Some t) h k = one_is o c t h k

  symbols_are : (o : Option Expression) (ss : List (ℕ × ℤ)) (ts : List Expression) → SoFar o → Each P ts → SoFar (with_symbols o ss ts)
  symbols_are o [] ts h k = h
  symbols_are o (s ∷ ss) ts h k = symbols_are (with_place o s.1 (slice_get ts s.0)) ss ts (place_is o s.1 (slice_get ts s.0) h (got ts s.0 k)) k

  pub expressed_is : (ts : List Expression) (f : Form) → Each P ts → P (expressed ts f)
  expressed_is ts f h = constant_is (with_terms None f.coefficients ts) f.constant (terms_are None f.coefficients ts tt h)

  text_is : (loops symbols : List (List ℕ)) (a : Affine) → Each P (variables loops) → Each P (variables symbols) → P (text_of loops symbols [] a)
  text_is loops symbols a h k =
      constant_is (with_symbols (with_terms None a.loops (variables loops)) a.syms (places_behind symbols [])) a.constant
      (symbols_are (with_terms None a.loops (variables loops)) a.syms (places_behind symbols [])
      (terms_are None a.loops (variables loops) tt h) (Each-append P (variables symbols) [] k tt))

-- ---- expressions of FORTRAN 77

plain_variables : (xs : List (List ℕ)) → Each IsPlain (variables xs)
plain_variables [] = tt
plain_variables (x ∷ xs) = (tt, plain_variables xs)

plain_value : (symbols : List (List ℕ)) (outer : List NormalLoop) (r : NormalLoop) → IsPlain (variable_text symbols outer r)
unfolding variable_text
plain_value symbols outer r =
    text_is IsPlain (λ z. tt) (λ o e h. h) (λ o e f h k. (h, k)) (r.counter ∷ counters_of outer) symbols (counter_first r.step r.below)
    (plain_variables (r.counter ∷ counters_of outer)) (plain_variables symbols)

module _ (m : Making) (keeps : (first e : Expression) → IsPlain e → IsPlain (m.expression first e)) where
  mutual
    plain : (e : Expression) → IsPlain e → IsPlain (made m e)
    plain (Number n) h = keeps (Number n) (Number n) h
    plain (Logic b) h = keeps (Logic b) (Logic b) h
    plain (Named x ps) h = keeps (Named x ps) (Named x (made_subscripts m ps)) (plain_in ps h)
    plain (Unary o a) h = keeps (Unary o a) (Unary o (made m a)) (plain a h)
    plain (Binary o a b) h = keeps (Binary o a b) (Binary o (made m a) (made m b)) (plain a h.0, plain b h.1)
    plain (Apply f es) h = keeps (Apply f es) (Apply f (made_expressions m es)) (plain_each es h)
    plain (Constructor es ls) h = absurd h
    plain (Spread a n e) h = absurd h
    plain (Transpose a) h = absurd h
    plain (Reshape a es) h = absurd h
    plain (Reduce r a) h = absurd h

    plain_each : (es : Expressions) → EachIsPlain es → EachIsPlain (made_expressions m es)
    plain_each no_expressions h = tt
    plain_each (expression e es) h = (plain e h.0, plain_each es h.1)

    plain_in : (ps : Subscripts) → ArePlain ps → ArePlain (made_subscripts m ps)
    plain_in no_subscripts h = tt
    plain_in (subscript p ps) h = (plain_one p h.0, plain_in ps h.1)

    plain_one : (p : Subscript) → IsPlainSubscript p → IsPlainSubscript (made_subscript m p)
    plain_one (Only e) h = plain e h
    plain_one (Section a b s) h = absurd h

  plain_guard : (o : Option Expression) → IsPlainGuard o → IsPlainGuard (option_map (made m) o)
  plain_guard None h = tt
  plain_guard (Some e) h = plain e h

-- ---- statements

pub record IsPlainStatement (g : Guarded) : Type 0 where
  pub left : ArePlain g.left.subscripts
  pub right : IsPlain g.right
  pub guard : IsPlainGuard g.guard

module _ (symbols : List (List ℕ)) where
  value_keeps : (outer : List NormalLoop) (r : NormalLoop) (first e : Expression) → IsPlain e → IsPlain ((with_value symbols outer r).expression first e)
  value_keeps outer r first e h = by (is_variable_alone r.variable e)
    where
      by : (b : Bool) → IsPlain (cond b (variable_text symbols outer r) e)
      by true = plain_value symbols outer r
      by false = h

  pub plain_with_values : (outer rs : List NormalLoop) (g : Guarded) → IsPlainStatement g → IsPlainStatement (statement_with_values symbols outer rs g)
  plain_with_values outer [] g h = h
  plain_with_values outer (r ∷ rs) g h =
      plain_with_values (outer ++ r ∷ []) rs (rewritten_statement (with_value symbols outer r) g)
      (record {
        left = plain_in (with_value symbols outer r) (value_keeps outer r) g.left.subscripts h.left;
        right = plain (with_value symbols outer r) (value_keeps outer r) g.right h.right;
        guard = plain_guard (with_value symbols outer r) (value_keeps outer r) g.guard h.guard;
      })
