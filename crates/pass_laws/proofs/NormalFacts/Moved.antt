-- Subscripts in canonical text move with the loops that stand in them.
use Rattle.std.proofs.Common.{◌≡◌, ◌⊎◌, inl, inr, refl, sym, ap, ◌∙◌, ℕ, zero, suc, pos, ◌-◌, ◌≤◌, Bool, true, false}
use Rattle.std.proofs.Common.{cond, ◌&&◌, ◌||◌, not}
use Rattle.std.proofs.Common.{List, [], ◌∷◌, length, drop, Option, Some, None, length-drop, arith}
use Rattle.std.specs.Prelude.{◌==◌}
use Rattle.std.specs.List.{list_all}
use Rattle.std.specs.Option.{option_map}
use Rattle.std.specs.Ordering.{int_eq}
use Rattle.std.specs.Str.{bytes_eq}
use Rattle.std.proofs.lemmas.Bool.{eqb-true}
use Rattle.std.proofs.lemmas.Slice.Eq.{bytes_eq-Decides}
use mathlib.Core.Path.{ap₂}
use Rattle.array_form.specs.forms.Following.{are_moved, is_moved, is_regular, are_regular, are_regular_subscripts, has_no_loop}
use Rattle.array_form.specs.forms.Guarded.{is_regular_guard}
use Rattle.array_form.specs.forms.Loops.{FormLoop, FormSurroundings, form_variables_of, form_names_of, is_among, loops_among, loops_in_order}
use Rattle.array_form.specs.forms.Loops.{coefficient, one_each}
use Rattle.array_form.specs.forms.Statements.{are_formed, has_form, hold_at, is_linear_subscript, is_triangle, loops_assigned}
use Rattle.array_form.specs.forms.Statements.{loops_from, subscript_occurrences, stand_in_guard, HoldCause, BoundsHold, FormHold, TriangleHold}
use Rattle.last_values.specs.Scalars.{scalar}
use Rattle.components.specs.Lists.{Each, IsMember}
use Rattle.components.proofs.ListLaws.{Each-append, Each-from, In-filter}
use Rattle.tree.specs.Plain.{Expression, Number, Logic, Named, Unary, Binary, Apply, Constructor, Spread, Transpose}
use Rattle.tree.specs.Plain.{Reshape, Reduce, Expressions, no_expressions, expression, Only, Section}
use Rattle.tree.specs.Plain.{Subscripts, no_subscripts, subscript, Reference}
use Rattle.meaning.specs.Names as names
use Rattle.meaning.specs.Reads.{names_in, names_in_subscript}
use Rattle.rewrite.specs.Making.{made, made_expressions, made_left, made_subscripts}
use Rattle.rewrite.specs.Names.{mentions}
use Rattle.linear_forms.proofs.Sizes.{both}
use Rattle.linear_forms.specs.Canonical.{text_or, canonical_text, canonical_node, canonising}
use Rattle.linear_forms.specs.Expressed.{variables}
use Rattle.linear_forms.specs.Linear.{Form, form_of}
use Rattle.nest_order.specs.runs.Touched.{IsPlain, EachIsPlain, ArePlain, IsPlainGuard}
use Rattle.pass_laws.proofs.NormalFacts.CanonicalNodes.{settled_moves}
use Rattle.pass_laws.proofs.NormalFacts.CanonicalPlain.{expressed_is}

and_true : (a b : Bool) → a ≡ true → b ≡ true → (a && b) ≡ true
and_true a b h k = ap₂ (λ x y. x && y) h k

or_true : (a b : Bool) → b ≡ true → (a || b) ≡ true
or_true true b h = refl
or_true false b h = h

-- ---- loops of a list

module _ (P : FormLoop → Type 0) where
  among_each : (D : List FormLoop) (xs : List (List ℕ)) → Each P D → Each P (loops_among D xs)
  among_each [] xs h = tt
  among_each (l ∷ D) xs h = by (is_among xs l.variable) (among_each D xs h.1)
    where
      by : (b : Bool) → Each P (loops_among D xs) → Each P (cond b (l ∷ loops_among D xs) (loops_among D xs))
      by true more = (h.0, more)
      by false more = more

  order_each : (D : List FormLoop) (ps : Subscripts) → Each P D → Each P (loops_in_order D ps)
  order_each D no_subscripts h = tt
  order_each D (subscript p ps) h =
      Each-append P (loops_among D (names_in_subscript p)) (loops_in_order D ps) (among_each D (names_in_subscript p) h) (order_each D ps h)

  from_each : (n : ℕ) (D : List FormLoop) → Each P D → Each P (drop n D)
  from_each zero D h = h
  from_each (suc n) [] h = tt
  from_each (suc n) (l ∷ D) h = from_each n D h.1

no_member : (l : FormLoop) (ms : List FormLoop) → (length ms == 0) ≡ true → IsMember l ms → ⊥
no_member l [] h i = i
no_member l (m ∷ ms) h i = let none = eqb-true (length (m ∷ ms)) 0 h in omega (arith, none)

-- none of the loops stands there
none_among : (F : List FormLoop) (xs : List (List ℕ)) → (length (loops_among F xs) == 0) ≡ true → (l : FormLoop) → IsMember l F → is_among xs l.variable ≡ false
none_among F xs h l i = by (is_among xs l.variable) refl
  where
    by : (b : Bool) → is_among xs l.variable ≡ b → b ≡ false
    by false e = refl
    by true e = absurd (no_member l (loops_among F xs) h (In-filter (λ (l : FormLoop). is_among xs l.variable) F l i e))

none_left : (F : List FormLoop) (xs : List (List ℕ)) → (length (loops_among F xs) == 0) ≡ true → (D : List FormLoop) → Each (λ l. IsMember l F) D → loops_among D xs ≡ []
none_left F xs h [] i = refl
none_left F xs h (l ∷ D) i =
    ap (λ b. cond b (l ∷ loops_among D xs) (loops_among D xs)) (none_among F xs h l i.0) ∙ none_left F xs h D i.1

is_there : (ls : List FormLoop) (l : FormLoop) → IsMember l ls → names.is_among (form_variables_of ls) l.variable ≡ true
is_there [] l i = absurd i
is_there (m ∷ ms) l (inl e) =
    ap (λ b. b || names.is_among (form_variables_of ms) l.variable) ((bytes_eq-Decides l.variable m.variable).1 (ap (λ (k : FormLoop). k.variable) e))
is_there (m ∷ ms) l (inr i) = or_true (bytes_eq l.variable m.variable) (names.is_among (form_variables_of ms) l.variable) (is_there ms l i)

module _ (a : FormSurroundings) where
  abbrev loops : List (List ℕ)
  loops = form_variables_of a.loops

  abbrev settled : Expression → Expression
  settled = made (canonising loops a.symbols)

  abbrev settled_each : Expressions → Expressions
  settled_each = made_expressions (canonising loops a.symbols)

  abbrev settled_subscripts : Subscripts → Subscripts
  settled_subscripts = made_subscripts (canonising loops a.symbols)

  abbrev IsKnown : FormLoop → Type 0
  IsKnown l = names.is_among loops l.variable ≡ true

  -- ---- one subscript

  -- the first of these loops has a coefficient other than 0, where there is a form
  abbrev FirstMoves : Expression → List FormLoop → Type 0
  FirstMoves e [] = Unit {0}
  FirstMoves e (l ∷ ls) =
      (f : Form) → form_of loops a.symbols e ≡ Some f → int_eq (coefficient (form_names_of a) l.variable f.coefficients) (pos 0) ≡ false

  first_moves : (e : Expression) → IsPlain e → (D : List FormLoop) → Each IsKnown D → FirstMoves (settled e) (loops_among D (names_in (settled e)))
  first_moves e p [] k = tt
  first_moves e p (l ∷ D) k =
      by (is_among (names_in (settled e)) l.variable) refl (first_moves e p D k.1) (settled_moves loops a.symbols l.variable k.0 e p)
    where
      by : (b : Bool) → is_among (names_in (settled e)) l.variable ≡ b → FirstMoves (settled e) (loops_among D (names_in (settled e)))
          → (is_among (names_in (settled e)) l.variable ≡ false)
          ⊎ ((f : Form) → form_of loops a.symbols (settled e) ≡ Some f → int_eq (coefficient (form_names_of a) l.variable f.coefficients) (pos 0) ≡ false)
          → FirstMoves (settled e) (cond b (l ∷ loops_among D (names_in (settled e))) (loops_among D (names_in (settled e))))
      by true h more (inl n) = absurd (let both : true ≡ false = sym h ∙ n in cc)
      by true h more (inr n) = n
      by false h more q = more

  moved_by : (e : Expression) (ls : List FormLoop) (o : Option Form) (other : Bool) → form_of loops a.symbols e ≡ o → FirstMoves e ls → (o ≡ None → other ≡ true) → is_moved a ls o other ≡ true
  moved_by e [] o other g h k = refl
  moved_by e (l ∷ ls) (Some f) other g h k = ap not (h f g)
  moved_by e (l ∷ ls) None other g h k = k refl

  one_moved : (e : Expression) → IsPlain e → (D : List FormLoop) → Each IsKnown D → (other : Bool) → (form_of loops a.symbols (settled e) ≡ None → other ≡ true)
      → is_moved a (loops_among D (names_in (settled e))) (form_of loops a.symbols (settled e)) other ≡ true
  one_moved e p D k other h =
      moved_by (settled e) (loops_among D (names_in (settled e))) (form_of loops a.symbols (settled e)) other refl (first_moves e p D k) h

  -- ---- right sides

  abbrev IsRegularFor : List FormLoop → Expression → Type 0
  IsRegularFor D e = is_regular a D e ≡ true

  scalars_regular : (D : List FormLoop) (xs : List (List ℕ)) → Each (IsRegularFor D) (variables xs)
  scalars_regular D [] = tt
  scalars_regular D (x ∷ xs) = (or_true (has_no_loop (loops_among D (x ∷ []))) true refl, scalars_regular D xs)

  node_regular : (D : List FormLoop) (first e : Expression) → IsRegularFor D e → IsRegularFor D (canonical_node loops a.symbols first e)
  node_regular D first e h = by (mentions loops first)
    where
      text : (o : Option Form) → IsRegularFor D (text_or loops a.symbols o e)
      text None = h
      text (Some f) =
          expressed_is (IsRegularFor D) (λ z. refl) (λ o e h. h) (λ o e f h k. and_true (is_regular a D e) (is_regular a D f) h k)
          (variables (form_names_of a)) f (scalars_regular D (form_names_of a))

      by : (b : Bool) → IsRegularFor D (cond b (canonical_text loops a.symbols e) e)
      by true = text (form_of loops a.symbols e)
      by false = h

  mutual
    regular : (e : Expression) → IsPlain e → (D : List FormLoop) → Each IsKnown D → IsRegularFor D (settled e)
    regular (Number n) p D k = node_regular D (Number n) (Number n) refl
    regular (Logic b) p D k = node_regular D (Logic b) (Logic b) refl
    regular (Named x ps) p D k =
        node_regular D (Named x ps) (Named x (settled_subscripts ps))
        (or_true (has_no_loop (loops_among D (names_in (Named x (settled_subscripts ps)))))
        (not (one_each D (settled_subscripts ps)) || are_regular_subscripts a D (settled_subscripts ps))
        (or_true (not (one_each D (settled_subscripts ps))) (are_regular_subscripts a D (settled_subscripts ps)) (regular_in ps p D k)))
    regular (Unary o b) p D k = node_regular D (Unary o b) (Unary o (settled b)) (regular b p D k)
    regular (Binary o b c) p D k =
        node_regular D (Binary o b c) (Binary o (settled b) (settled c))
        (and_true (is_regular a D (settled b)) (is_regular a D (settled c)) (regular b p.0 D k) (regular c p.1 D k))
    regular (Apply f es) p D k = node_regular D (Apply f es) (Apply f (settled_each es)) (regular_each es p D k)
    regular (Constructor es ls) p D k = absurd p
    regular (Spread b n c) p D k = absurd p
    regular (Transpose b) p D k = absurd p
    regular (Reshape b es) p D k = absurd p
    regular (Reduce r b) p D k = absurd p

    regular_each : (es : Expressions) → EachIsPlain es → (D : List FormLoop) → Each IsKnown D → are_regular a D (settled_each es) ≡ true
    regular_each no_expressions p D k = refl
    regular_each (expression e es) p D k =
        and_true (is_regular a D (settled e)) (are_regular a D (settled_each es)) (regular e p.0 D k) (regular_each es p.1 D k)

    regular_in : (ps : Subscripts) → ArePlain ps → (D : List FormLoop) → Each IsKnown D → are_regular_subscripts a D (settled_subscripts ps) ≡ true
    regular_in no_subscripts p D k = refl
    regular_in (subscript (Only e) ps) p D k =
        let E = settled e in
        let ls : List FormLoop = loops_among D (names_in E) in
        and_true (is_moved a ls (form_of loops a.symbols E) (is_regular a ls E)) (are_regular_subscripts a D (settled_subscripts ps))
        (one_moved e p.0 D k (is_regular a ls E) (λ n. regular e p.0 ls (among_each IsKnown D (names_in E) k)))
        (regular_in ps p.1 D k)
    regular_in (subscript (Section b c s) ps) p D k = absurd p.0

  -- ---- left sides

  linear_has : (e : Expression) → is_linear_subscript a (Only e) ≡ true → form_of loops a.symbols e ≡ None → ⊥
  linear_has e h n = by (form_of loops a.symbols e) n h
    where
      by : (o : Option Form) → o ≡ None → elim o [ Some f ↦ true | None ↦ false ] ≡ true → ⊥
      by None n h = cc
      by (Some f) n h = cc

  -- among the loops F a subscript with one of them is linear
  left_moved : (F D : List FormLoop) → Each (λ l. IsMember l F) D → Each IsKnown D → (ps : Subscripts) → ArePlain ps → are_formed a F (settled_subscripts ps) ≡ true
      → are_moved a D (settled_subscripts ps) ≡ true
  left_moved F D i k no_subscripts p h = refl
  left_moved F D i k (subscript (Section b c s) ps) p h = absurd p.0
  left_moved F D i k (subscript (Only e) ps) p h =
      let E = settled e in
      let some = length (loops_among F (names_in E)) in
      let parts = both ((some == 0) || ((some == 1) && is_linear_subscript a (Only E))) (are_formed a F (settled_subscripts ps)) h in
      and_true (is_moved a (loops_among D (names_in E)) (form_of loops a.symbols E) false) (are_moved a D (settled_subscripts ps))
      (one (some == 0) refl parts.0) (left_moved F D i k ps p.1 parts.1)
    where
      one : (b : Bool) → (length (loops_among F (names_in (settled e))) == 0) ≡ b
          → (b || ((length (loops_among F (names_in (settled e))) == 1) && is_linear_subscript a (Only (settled e)))) ≡ true
          → is_moved a (loops_among D (names_in (settled e))) (form_of loops a.symbols (settled e)) false ≡ true
      one true z q =
          ap (λ (ls : List FormLoop). is_moved a ls (form_of loops a.symbols (settled e)) false) (none_left F (names_in (settled e)) z D i)
      one false z q =
          let line = (both (length (loops_among F (names_in (settled e))) == 1) (is_linear_subscript a (Only (settled e))) q).1 in
          one_moved e p.0 D k false (λ n. absurd (linear_has (settled e) line n))

  -- ---- a statement

  -- with the loops from the level k on its left subscripts move, and its guard and its right side are regular
  pub record IsRegularFrom (k : ℕ) (guard : Option Expression) (r : Reference) (e : Expression) : Type 0 where
    pub left : are_moved a (loops_assigned a k r) r.subscripts ≡ true
    pub guard_is : is_regular_guard a (loops_assigned a k r) guard ≡ true
    pub right : is_regular a (loops_assigned a k r) e ≡ true

  has_form_there : (k : ℕ) (guard : Option Expression) (r : Reference) (safe : Bool) → hold_at a k guard r safe ≡ None → has_form a (loops_from a k) r.subscripts ≡ true
  has_form_there k guard r safe h = by (has_form a (loops_from a k) r.subscripts) (is_triangle a (loops_from a k)) (stand_in_guard (loops_from a k) guard && not safe) h
    where
      by : (b c d : Bool) → ◌≡◌ {A = Option HoldCause} (cond (not b) (Some FormHold) (cond c (Some TriangleHold) (cond d (Some BoundsHold) None))) None → b ≡ true
      by true c d h = refl
      by false c d h = absurd cc

  guard_regular : (D : List FormLoop) → Each IsKnown D → (guard : Option Expression) → IsPlainGuard guard → is_regular_guard a D (option_map settled guard) ≡ true
  guard_regular D k None p = refl
  guard_regular D k (Some e) p = regular e p D k

  pub statement_regular : (k : ℕ) (guard : Option Expression) (r : Reference) (e : Expression) (safe : Bool) → ArePlain r.subscripts → IsPlain e → IsPlainGuard guard
      → hold_at a k (option_map settled guard) (made_left (canonising loops a.symbols) r) safe ≡ None
      → IsRegularFrom k (option_map settled guard) (made_left (canonising loops a.symbols) r) (settled e)
  statement_regular k guard r e safe p q g h =
      let ps = settled_subscripts r.subscripts in
      let F : List FormLoop = loops_from a k in
      let formed = both (list_all (λ (l : FormLoop). subscript_occurrences l.variable ps == 1) F) (are_formed a F ps) (has_form_there k (option_map settled guard) (made_left (canonising loops a.symbols) r) safe h) in
      let known = order_each IsKnown F ps (from_each IsKnown (k - 1) a.loops (Each-from IsKnown a.loops (is_there a.loops))) in
      record {
        left = left_moved F (loops_in_order F ps) (order_each (λ l. IsMember l F) F ps (Each-from (λ l. IsMember l F) F (λ l i. i))) known r.subscripts p formed.1;
        guard_is = guard_regular (loops_in_order F ps) known guard g;
        right = regular e q (loops_in_order F ps) known;
      }

  -- a scalar never moves with a loop
  pub scalar_held : (k : ℕ) (guard : Option Expression) (v : List ℕ) (safe : Bool) → 1 ≤ k → k ≤ length a.loops → hold_at a k guard (scalar v) safe ≡ None → ⊥
  scalar_held k guard v safe from to h = by (loops_from a k) refl (has_form_there k guard (scalar v) safe h)
    where
      by : (F : List FormLoop) → loops_from a k ≡ F → has_form a F no_subscripts ≡ true → ⊥
      by [] e g = let none = ap (λ (ls : List FormLoop). length ls) (sym e) ∙ length-drop (k - 1) a.loops in omega (arith, none, from, to)
      by (l ∷ F) e g = cc
