-- Which names stand in the texts of loops from 1 by 1 and in what is made of statements there. No array form does.
use Rattle.std.proofs.Common.{◌≡◌, refl, sym, subst, ◌⊎◌, inl, inr, ℕ, zero, suc, ℤ, pos, negsuc, Bool, true, false}
use Rattle.std.proofs.Common.{cond, List, [], ◌∷◌, ◌++◌, Option, Some, None}
use Rattle.std.specs.Option.{option_map}
use Rattle.std.specs.Ordering.{int_eq}
use Rattle.std.specs.Prelude.{slice_get, ◌==◌}
use Rattle.components.specs.Lists.{Each}
use Rattle.components.proofs.ListLaws.{Each-append}
use Rattle.meaning.specs.Reads.{names_in, names_in_each, names_in_subscripts}
use Rattle.rewrite.specs.Making.{Making, made, made_expressions, made_parts, made_subscript, made_subscripts}
use Rattle.rewrite.specs.Names.{mentions}
use Rattle.rewrite.specs.Substituting.{is_variable_alone, substituting}
use Rattle.tree.specs.Plain.{Expression, Number, Logic, Named, Unary, Binary, Apply, Constructor, Spread, Transpose}
use Rattle.tree.specs.Plain.{Reshape, Reduce, Expressions, no_expressions, expression, Subscript, Only, Section}
use Rattle.tree.specs.Plain.{Subscripts, no_subscripts, subscript, Reference}
use Rattle.tree.specs.declared.ops.Op.TheVariants.{Div, Mul}
use Rattle.last_values.specs.InPlace.{first_text, own_trip_text, end_text}
use Rattle.linear_forms.specs.Canonical.{text_or, canonical_text, canonising}
use Rattle.linear_forms.specs.Expressed.{term, plus_term, minus_term, with_term, with_terms, with_constant, variables}
use Rattle.linear_forms.specs.Linear.{Form, form_of}
use Rattle.linear_forms.specs.Texts.{with_place, with_symbols, places_behind, text_of}
use Rattle.normal_loops.specs.Values.{with_value, in_text, statement_with_values, normal_statement}
use Rattle.nest_order.proofs.orders.Lists.{In-append}
use Rattle.nest_order.specs.orders.Lists.{In}
use Rattle.nest_rewrite.specs.Statements.{rewritten_statement}
use Rattle.nest_order.specs.runs.Touched as touched
use Rattle.nest.specs.Plain.{Guarded}
use Rattle.nest.specs.declared.parts.Trip.{Trip}
use Rattle.last_values.specs.normal_forms.NormalLoops.{counters_of}
use Rattle.last_values.specs.normal_forms.Texts.{quotient_text, trip_text, counter_first, variable_text}
use Rattle.last_values.specs.declared.normal_forms.loops.NormalLoop.{NormalLoop}
use Rattle.subscripts.specs.declared.affine.Affine.{Affine}

in_either : (x : List ℕ) (xs ys : List (List ℕ)) (B : Type 0) → (In x xs → B) → (In x ys → B) → In x (xs ++ ys) → B
in_either x xs ys B f g i = by (In-append x xs ys i)
  where
    by : In x xs ⊎ In x ys → B
    by (inl j) = f j
    by (inr j) = g j

module _ (P : List ℕ → Type 0) where
  -- an expression of FORTRAN 77 each of whose names is as is asked
  abbrev mutual
    pub IsOver : Expression → Type 0
    IsOver (Number n) = Unit {0}
    IsOver (Logic b) = Unit {0}
    IsOver (Named x ss) = P x × AreOver ss
    IsOver (Unary o a) = IsOver a
    IsOver (Binary o a b) = IsOver a × IsOver b
    IsOver (Apply f es) = EachIsOver es
    IsOver (Constructor es ls) = ⊥
    IsOver (Spread a n e) = ⊥
    IsOver (Transpose a) = ⊥
    IsOver (Reshape a es) = ⊥
    IsOver (Reduce r a) = ⊥

    pub EachIsOver : Expressions → Type 0
    EachIsOver no_expressions = Unit {0}
    EachIsOver (expression e es) = IsOver e × EachIsOver es

    pub AreOver : Subscripts → Type 0
    AreOver no_subscripts = Unit {0}
    AreOver (subscript s ss) = OneIsOver s × AreOver ss

    pub OneIsOver : Subscript → Type 0
    OneIsOver (Only e) = IsOver e
    OneIsOver (Section a b s) = ⊥

  abbrev pub GuardIsOver : Option Expression → Type 0
  GuardIsOver None = Unit {0}
  GuardIsOver (Some e) = IsOver e

  pub record IsStatementOver (s : Guarded) : Type 0 where
    pub guard : GuardIsOver s.guard
    pub name : P s.left.name
    pub left : AreOver s.left.subscripts
    pub right : IsOver s.right

  -- ---- its names

  mutual
    pub named : (e : Expression) → IsOver e → (x : List ℕ) → In x (names_in e) → P x
    named (Number n) h x i = absurd i
    named (Logic b) h x i = absurd i
    named (Named y ss) h x (inl e) = subst P (sym e) h.0
    named (Named y ss) h x (inr i) = named_in ss h.1 x i
    named (Unary o a) h x i = named a h x i
    named (Binary o a b) h x i = in_either x (names_in a) (names_in b) (P x) (λ j. named a h.0 x j) (λ j. named b h.1 x j) i
    named (Apply f es) h x i = named_each es h x i
    named (Constructor es ls) h x i = absurd h
    named (Spread a n e) h x i = absurd h
    named (Transpose a) h x i = absurd h
    named (Reshape a es) h x i = absurd h
    named (Reduce r a) h x i = absurd h

    named_each : (es : Expressions) → EachIsOver es → (x : List ℕ) → In x (names_in_each es) → P x
    named_each no_expressions h x i = absurd i
    named_each (expression e es) h x i = in_either x (names_in e) (names_in_each es) (P x) (λ j. named e h.0 x j) (λ j. named_each es h.1 x j) i

    pub named_in : (ss : Subscripts) → AreOver ss → (x : List ℕ) → In x (names_in_subscripts ss) → P x
    named_in no_subscripts h x i = absurd i
    named_in (subscript (Only e) ss) h x i = in_either x (names_in e) (names_in_subscripts ss) (P x) (λ j. named e h.0 x j) (λ j. named_in ss h.1 x j) i
    named_in (subscript (Section a b s) ss) h x i = absurd h.0

  mutual
    pub plain : (e : Expression) → IsOver e → touched.IsPlain e
    plain (Number n) h = tt
    plain (Logic b) h = tt
    plain (Named x ss) h = plain_in ss h.1
    plain (Unary o a) h = plain a h
    plain (Binary o a b) h = (plain a h.0, plain b h.1)
    plain (Apply f es) h = plain_each es h
    plain (Constructor es ls) h = absurd h
    plain (Spread a n e) h = absurd h
    plain (Transpose a) h = absurd h
    plain (Reshape a es) h = absurd h
    plain (Reduce r a) h = absurd h

    plain_each : (es : Expressions) → EachIsOver es → touched.EachIsPlain es
    plain_each no_expressions h = tt
    plain_each (expression e es) h = (plain e h.0, plain_each es h.1)

    pub plain_in : (ss : Subscripts) → AreOver ss → touched.ArePlain ss
    plain_in no_subscripts h = tt
    plain_in (subscript (Only e) ss) h = (plain e h.0, plain_in ss h.1)
    plain_in (subscript (Section a b s) ss) h = absurd h.0

  -- ---- what a rule makes

  module _ (m : Making) (keeps : (first e : Expression) → IsOver e → IsOver (m.expression first e)) where
    mutual
      made_over : (e : Expression) → IsOver e → IsOver (made m e)
      made_over (Number n) h = keeps (Number n) (Number n) h
      made_over (Logic b) h = keeps (Logic b) (Logic b) h
      made_over (Named x ss) h = keeps (Named x ss) (Named x (made_subscripts m ss)) (h.0, made_over_in ss h.1)
      made_over (Unary o a) h = keeps (Unary o a) (Unary o (made m a)) (made_over a h)
      made_over (Binary o a b) h = keeps (Binary o a b) (Binary o (made m a) (made m b)) (made_over a h.0, made_over b h.1)
      made_over (Apply f es) h = keeps (Apply f es) (Apply f (made_expressions m es)) (made_over_each es h)
      made_over (Constructor es ls) h = absurd h
      made_over (Spread a n e) h = absurd h
      made_over (Transpose a) h = absurd h
      made_over (Reshape a es) h = absurd h
      made_over (Reduce r a) h = absurd h

      made_over_each : (es : Expressions) → EachIsOver es → EachIsOver (made_expressions m es)
      made_over_each no_expressions h = tt
      made_over_each (expression e es) h = (made_over e h.0, made_over_each es h.1)

      made_over_in : (ss : Subscripts) → AreOver ss → AreOver (made_subscripts m ss)
      made_over_in no_subscripts h = tt
      made_over_in (subscript s ss) h = (made_over_one s h.0, made_over_in ss h.1)

      made_over_one : (s : Subscript) → OneIsOver s → OneIsOver (made_subscript m s)
      made_over_one (Only e) h = made_over e h
      made_over_one (Section a b s) h = absurd h

    guard_made : (o : Option Expression) → GuardIsOver o → GuardIsOver (option_map (made m) o)
    guard_made None h = tt
    guard_made (Some e) h = made_over e h

    statement_made : ((r : Reference) → m.left r ≡ r) → (s : Guarded) → IsStatementOver s → IsStatementOver (rewritten_statement m s)
    statement_made same s h =
        let left = sym (same (made_parts m s.left)) in
        record {
          guard = guard_made s.guard h.guard;
          name = subst (λ (r : Reference). P r.name) left h.name;
          left = subst (λ (r : Reference). AreOver r.subscripts) left (made_over_in s.left.subscripts h.left);
          right = made_over s.right h.right;
        }

  -- ---- texts

  abbrev SoFar : Option Expression → Type 0
  SoFar None = Unit {0}
  SoFar (Some e) = IsOver e

  term_over : (n : ℕ) (t : Expression) → IsOver t → IsOver (term n t)
  term_over n t h = by (n == 1)
    where
      by : (b : Bool) → IsOver (cond b t (Binary Mul (Number (pos n)) t))
      by true = h
      by false = (tt, h)

  plus_over : (o : Option Expression) (t : Expression) → SoFar o → IsOver t → IsOver (plus_term o t)
  plus_over None t h k = k
  plus_over (Some e) t h k = (h, k)

  minus_over : (o : Option Expression) (t : Expression) → SoFar o → IsOver t → IsOver (minus_term o t)
  minus_over None t h k = k
  minus_over (Some e) t h k = (h, k)

  one_over : (o : Option Expression) (c : ℤ) (t : Expression) → SoFar o → IsOver t → SoFar (with_term o c t)
  one_over o (pos zero) t h k = h
  one_over o (pos (suc n)) t h k = plus_over o (term (suc n) t) h (term_over (suc n) t k)
  one_over o (negsuc n) t h k = minus_over o (term (suc n) t) h (term_over (suc n) t k)

  terms_over : (o : Option Expression) (cs : List ℤ) (ts : List Expression) → SoFar o → Each IsOver ts → SoFar (with_terms o cs ts)
  terms_over o [] ts h k = h
  terms_over o (c ∷ cs) [] h k = h
  terms_over o (c ∷ cs) (t ∷ ts) h k = terms_over (with_term o c t) cs ts (one_over o c t h k.0) k.1

  constant_over : (o : Option Expression) (z : ℤ) → SoFar o → IsOver (with_constant o z)
  constant_over None (pos n) h = tt
  constant_over None (negsuc n) h = tt
  constant_over (Some e) (pos zero) h = h
  constant_over (Some e) (pos (suc n)) h = (h, tt)
  constant_over (Some e) (negsuc n) h = (h, tt)

  at_place : (ts : List Expression) (k : ℕ) (t : Expression) → Each IsOver ts → slice_get ts k ≡ Some t → IsOver t
  at_place [] k t h e = let no : ⊥ = cc in absurd no
  at_place (u ∷ ts) zero t h e = let same : u ≡ t = cc in subst IsOver same h.0
  at_place (u ∷ ts) (suc k) t h e = at_place ts k t h.1 e

  place_over : (o : Option Expression) (c : ℤ) (q : Option Expression) → SoFar o → SoFar q → SoFar (with_place o c q)
  place_over o c None h k = h
  place_over o c (Some t) h k = one_over o c t h k

  got : (ts : List Expression) (k : ℕ) → Each IsOver ts → SoFar (slice_get ts k)
  got ts k h = by (slice_get ts k) refl
    where
      by : (q : Option Expression) → slice_get ts k ≡ q → SoFar q
      by None e = tt
      by (Some t) e = at_place ts k t h e

  symbols_over : (o : Option Expression) (ss : List (ℕ × ℤ)) (ts : List Expression) → SoFar o → Each IsOver ts → SoFar (with_symbols o ss ts)
  symbols_over o [] ts h k = h
  symbols_over o (s ∷ ss) ts h k = symbols_over (with_place o s.1 (slice_get ts s.0)) ss ts (place_over o s.1 (slice_get ts s.0) h (got ts s.0 k)) k

  variables_over : (xs : List (List ℕ)) → Each P xs → Each IsOver (variables xs)
  variables_over [] h = tt
  variables_over (x ∷ xs) h = ((h.0, tt), variables_over xs h.1)

  text_over : (loops symbols : List (List ℕ)) (trips : List Expression) (a : Affine) → Each P loops → Each P symbols → Each IsOver trips → IsOver (text_of loops symbols trips a)
  text_over loops symbols trips a l s t =
      constant_over (with_symbols (with_terms None a.loops (variables loops)) a.syms (places_behind symbols trips)) a.constant
      (symbols_over (with_terms None a.loops (variables loops)) a.syms (places_behind symbols trips)
      (terms_over None a.loops (variables loops) tt (variables_over loops l))
      (Each-append IsOver (variables symbols) trips (variables_over symbols s) t))

  -- ---- two rules

  substituting_keeps : (x : List ℕ) (by : Expression) → IsOver by → (first e : Expression) → IsOver e → IsOver ((substituting x by).expression first e)
  substituting_keeps x by h first e k = chosen (is_variable_alone x e)
    where
      chosen : (b : Bool) → IsOver (cond b by e)
      chosen true = h
      chosen false = k

  canonising_keeps : (loops symbols : List (List ℕ)) → Each P loops → Each P symbols → (first e : Expression) → IsOver e → IsOver ((canonising loops symbols).expression first e)
  canonising_keeps loops symbols l s first e k = chosen (mentions loops first)
    where
      text : (o : Option Form) → IsOver (text_or loops symbols o e)
      text None = k
      text (Some f) =
          constant_over (with_terms None f.coefficients (variables (loops ++ symbols))) f.constant
          (terms_over None f.coefficients (variables (loops ++ symbols)) tt (variables_over (loops ++ symbols) (Each-append P loops symbols l s)))

      chosen : (b : Bool) → IsOver (cond b (canonical_text loops symbols e) e)
      chosen true = text (form_of loops symbols e)
      chosen false = k

  -- ---- statements in loops, and texts of these

  abbrev pub CountersAre : List NormalLoop → Type 0
  CountersAre round = Each (λ (r : NormalLoop). P r.counter) round

  counters_are : (round : List NormalLoop) → CountersAre round → Each P (counters_of round)
  counters_are [] h = tt
  counters_are (r ∷ rs) h = (h.0, counters_are rs h.1)

  module _ (symbols : List (List ℕ)) (are : Each P symbols) where
    value_over : (outer : List NormalLoop) (r : NormalLoop) → CountersAre outer → P r.counter → IsOver (variable_text symbols outer r)
    unfolding variable_text
    value_over outer r h c = text_over (r.counter ∷ counters_of outer) symbols [] (counter_first r.step r.below) (c, counters_are outer h) are tt

    values_over : (outer rs : List NormalLoop) (s : Guarded) → CountersAre outer → CountersAre rs → IsStatementOver s → IsStatementOver (statement_with_values symbols outer rs s)
    values_over outer [] s h k g = g
    values_over outer (r ∷ rs) s h k g =
        values_over (outer ++ r ∷ []) rs (rewritten_statement (with_value symbols outer r) s)
        (Each-append (λ (q : NormalLoop). P q.counter) outer (r ∷ []) h (k.0, tt)) k.1
        (statement_made (with_value symbols outer r) (substituting_keeps r.variable (variable_text symbols outer r) (value_over outer r h k.0)) (λ l. refl) s g)

    pub normal_over : (round : List NormalLoop) (s : Guarded) → CountersAre round → IsStatementOver s → IsStatementOver (normal_statement symbols round s)
    unfolding normal_statement
    normal_over round s h g =
        statement_made (in_text symbols round) (canonising_keeps (counters_of round) symbols (counters_are round h) are) (λ l. refl)
        (statement_with_values symbols [] round s) (values_over [] round s tt h g)

    quotient_over : (e : Expression) (z : ℤ) → IsOver e → IsOver (quotient_text e z)
    quotient_over e z h = by (int_eq z (pos 1))
      where
        by : (b : Bool) → IsOver (cond b e (Binary Div e (Number z)))
        by true = h
        by false = (h, tt)

    pub trip_over : (round : List NormalLoop) (t : Trip) → CountersAre round → IsOver (trip_text (counters_of round) symbols [] t)
    unfolding trip_text
    trip_over round t h = quotient_over (text_of (counters_of round) symbols [] t.top) t.by (text_over (counters_of round) symbols [] t.top (counters_are round h) are tt)

    pub first_over : (round : List NormalLoop) (r : NormalLoop) → CountersAre round → IsOver (first_text symbols round r)
    first_over round r h = text_over (counters_of round) symbols [] r.first (counters_are round h) are tt

    pub end_over : (round : List NormalLoop) (r : NormalLoop) → CountersAre round → IsOver (end_text symbols round r)
    end_over round r h = text_over (counters_of round) symbols (own_trip_text symbols round r ∷ []) r.end (counters_are round h) are (trip_over round r.trip h, tt)

-- ---- less is asked

module _ (P Q : List ℕ → Type 0) (weaker : (x : List ℕ) → P x → Q x) where
  mutual
    pub over_weaker : (e : Expression) → IsOver P e → IsOver Q e
    over_weaker (Number n) h = tt
    over_weaker (Logic b) h = tt
    over_weaker (Named x ss) h = (weaker x h.0, over_weaker_in ss h.1)
    over_weaker (Unary o a) h = over_weaker a h
    over_weaker (Binary o a b) h = (over_weaker a h.0, over_weaker b h.1)
    over_weaker (Apply f es) h = over_weaker_each es h
    over_weaker (Constructor es ls) h = absurd h
    over_weaker (Spread a n e) h = absurd h
    over_weaker (Transpose a) h = absurd h
    over_weaker (Reshape a es) h = absurd h
    over_weaker (Reduce r a) h = absurd h

    over_weaker_each : (es : Expressions) → EachIsOver P es → EachIsOver Q es
    over_weaker_each no_expressions h = tt
    over_weaker_each (expression e es) h = (over_weaker e h.0, over_weaker_each es h.1)

    over_weaker_in : (ss : Subscripts) → AreOver P ss → AreOver Q ss
    over_weaker_in no_subscripts h = tt
    over_weaker_in (subscript (Only e) ss) h = (over_weaker e h.0, over_weaker_in ss h.1)
    over_weaker_in (subscript (Section a b s) ss) h = absurd h.0

  guard_weaker : (o : Option Expression) → GuardIsOver P o → GuardIsOver Q o
  guard_weaker None h = tt
  guard_weaker (Some e) h = over_weaker e h

  pub statement_weaker : (s : Guarded) → IsStatementOver P s → IsStatementOver Q s
  statement_weaker s h = record {
    guard = guard_weaker s.guard h.guard;
    name = weaker s.left.name h.name;
    left = over_weaker_in s.left.subscripts h.left;
    right = over_weaker s.right h.right;
  }
