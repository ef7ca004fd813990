-- What is brought into canonical text: where the variable of a loop stands in an expression of FORTRAN 77 that has a
-- form, it has a coefficient other than 0.
use Rattle.std.proofs.Common.{◌≡◌, ◌⊎◌, inl, inr, refl, sym, ap, ◌∙◌, ℕ, pos, Bool, true, false, cond, ◌||◌}
use Rattle.std.proofs.Common.{List, ◌++◌, length, Option, Some, None}
use Rattle.std.specs.Prelude.{nat_le}
use Rattle.std.specs.List.{list_any}
use Rattle.std.specs.Ordering.{int_eq}
use Rattle.std.specs.Str.{bytes_eq}
use Rattle.std.proofs.lemmas.List.Folds.{list_any-append}
use Rattle.std.proofs.lemmas.Slice.Eq.{bytes_eq-Decides}
use Rattle.tree.specs.Plain.{Expression, Number, Logic, Named, Unary, Binary, Apply, Constructor, Spread, Transpose}
use Rattle.tree.specs.Plain.{Reshape, Reduce, Expressions, no_expressions, expression, Subscript, Only, Section}
use Rattle.tree.specs.Plain.{Subscripts, no_subscripts, subscript}
use Rattle.meaning.specs.Names as names
use Rattle.meaning.specs.Reads.{names_in, names_in_each, names_in_subscript, names_in_subscripts}
use Rattle.rewrite.specs.Making.{made, made_expressions, made_subscript, made_subscripts}
use Rattle.rewrite.specs.MadeBlocks.{made_inside}
use Rattle.rewrite.specs.Names.{mentions, uses_in, uses_in_expressions, uses_in_subscript, uses_in_subscripts}
use Rattle.rewrite.specs.declared.uses.Use.{Use}
use Rattle.rewrite.proofs.Equations.{made_is}
use Rattle.linear_forms.specs.Canonical.{text_or, canonical_text, canonical_node, canonising}
use Rattle.linear_forms.specs.Expressed.{expressed, variables}
use Rattle.linear_forms.specs.Linear.{Form, form_of, linear}
use Rattle.array_form.specs.forms.Loops.{is_among, coefficient}
use Rattle.nest_order.specs.runs.Touched.{IsPlain, EachIsPlain, ArePlain, IsPlainSubscript}
use Rattle.pass_laws.proofs.NormalFacts.CanonicalCoefficients.{once_linear}
use Rattle.pass_laws.proofs.NormalFacts.CanonicalTerms.{free_joined, text_moves}

neither : (a b : Bool) → (a || b) ≡ false → (a ≡ false) × (b ≡ false)
neither true b h = absurd cc
neither false b h = (refl, h)

module _ (loops symbols : List (List ℕ)) where
  abbrev node : Expression → Expression → Expression
  node = canonical_node loops symbols

  abbrev settled : Expression → Expression
  settled = made (canonising loops symbols)

  abbrev settled_each : Expressions → Expressions
  settled_each = made_expressions (canonising loops symbols)

  abbrev settled_subscripts : Subscripts → Subscripts
  settled_subscripts = made_subscripts (canonising loops symbols)

  abbrev settled_subscript : Subscript → Subscript
  settled_subscript = made_subscript (canonising loops symbols)

  abbrev inside : Expression → Expression
  inside = made_inside (canonising loops symbols)

  abbrev text : Form → Expression
  text g = expressed (variables (loops ++ symbols)) g

  form_is : (e : Expression) (f : Form) → form_of loops symbols e ≡ Some f → linear (length loops) (loops ++ symbols) e ≡ Some f
  form_is e f h = by (nat_le (length loops) 7) h
    where
      by : (b : Bool) → cond b (linear (length loops) (loops ++ symbols) e) None ≡ Some f → linear (length loops) (loops ++ symbols) e ≡ Some f
      by true k = k
      by false k = absurd cc

  -- the variable y of a loop
  module _ (y : List ℕ) (is : names.is_among loops y ≡ true) where
    -- ---- where no loop's variable stood none stands

    abbrev is_loop : Use → Bool
    is_loop u = names.is_among loops u.name

    abbrev HasNone : List Use → Type 0
    HasNone us = list_any is_loop us ≡ false

    halves : (us ws : List Use) → HasNone (us ++ ws) → HasNone us × HasNone ws
    halves us ws h = neither (list_any is_loop us) (list_any is_loop ws) (sym (list_any-append is_loop us ws) ∙ h)

    another : (x : List ℕ) → names.is_among loops x ≡ false → bytes_eq x y ≡ false
    another x h = by (bytes_eq x y) refl
      where
        by : (b : Bool) → bytes_eq x y ≡ b → b ≡ false
        by false e = refl
        by true e =
            let both : true ≡ false = sym is ∙ (ap (λ z. names.is_among loops z) (sym ((bytes_eq-Decides x y).0 e)) ∙ h) in
            absurd cc

    abbrev IsFree : List (List ℕ) → Type 0
    IsFree xs = is_among xs y ≡ false

    left_free : (first e : Expression) → HasNone (uses_in first) → IsFree (names_in e) → IsFree (names_in (node first e))
    left_free first e h f = ap (λ b. is_among (names_in (cond b (canonical_text loops symbols e) e)) y) h ∙ f

    mutual
      free : (e : Expression) → IsPlain e → HasNone (uses_in e) → IsFree (names_in (settled e))
      free (Number n) p h = refl
      free (Logic b) p h = refl
      free (Named x ps) p h =
          let parts = neither (names.is_among loops x) (list_any is_loop (uses_in_subscripts ps)) h in
          left_free (Named x ps) (Named x (settled_subscripts ps)) h
          (ap (λ b. cond b true (is_among (names_in_subscripts (settled_subscripts ps)) y)) (another x parts.0) ∙ free_in ps p parts.1)
      free (Unary o a) p h = left_free (Unary o a) (Unary o (settled a)) h (free a p h)
      free (Binary o a b) p h =
          let parts = halves (uses_in a) (uses_in b) h in
          left_free (Binary o a b) (Binary o (settled a) (settled b)) h
          (free_joined y (names_in (settled a)) (names_in (settled b)) (free a p.0 parts.0) (free b p.1 parts.1))
      free (Apply f es) p h = left_free (Apply f es) (Apply f (settled_each es)) h (free_each es p h)
      free (Constructor es ls) p h = absurd p
      free (Spread a k b) p h = absurd p
      free (Transpose a) p h = absurd p
      free (Reshape a es) p h = absurd p
      free (Reduce r a) p h = absurd p

      free_each : (es : Expressions) → EachIsPlain es → HasNone (uses_in_expressions es) → IsFree (names_in_each (settled_each es))
      free_each no_expressions p h = refl
      free_each (expression e es) p h =
          let parts = halves (uses_in e) (uses_in_expressions es) h in
          free_joined y (names_in (settled e)) (names_in_each (settled_each es)) (free e p.0 parts.0) (free_each es p.1 parts.1)

      free_in : (ps : Subscripts) → ArePlain ps → HasNone (uses_in_subscripts ps) → IsFree (names_in_subscripts (settled_subscripts ps))
      free_in no_subscripts p h = refl
      free_in (subscript q ps) p h =
          let parts = halves (uses_in_subscript q) (uses_in_subscripts ps) h in
          free_joined y (names_in_subscript (settled_subscript q)) (names_in_subscripts (settled_subscripts ps)) (free_one q p.0 parts.0) (free_in ps p.1 parts.1)

      free_one : (q : Subscript) → IsPlainSubscript q → HasNone (uses_in_subscript q) → IsFree (names_in_subscript (settled_subscript q))
      free_one (Only e) p h = free e p h
      free_one (Section a b c) p h = absurd p

    -- ---- where one stood, what has a form has its canonical text

    -- y doesn't stand in it, or its coefficient isn't 0
    abbrev MovesIn : Expression → Type 0
    MovesIn e = (is_among (names_in e) y ≡ false)
        ⊎ ((f : Form) → form_of loops symbols e ≡ Some f → int_eq (coefficient (loops ++ symbols) y f.coefficients) (pos 0) ≡ false)

    text_is_moved : (e i : Expression) (o : Option Form) → form_of loops symbols i ≡ o → e ≡ text_or loops symbols o i → MovesIn e
    text_is_moved e i None g k = inr (λ f h. let none : form_of loops symbols e ≡ None = ap (form_of loops symbols) k ∙ g in absurd cc)
    text_is_moved e i (Some g) h k = by (text_moves y (length loops) (loops ++ symbols) g (once_linear y (length loops) (loops ++ symbols) i g (form_is i g h)))
      where
        by : (is_among (names_in (text g)) y ≡ false)
            ⊎ ((f : Form) → linear (length loops) (loops ++ symbols) (text g) ≡ Some f → int_eq (coefficient (loops ++ symbols) y f.coefficients) (pos 0) ≡ false)
            → MovesIn e
        by (inl n) = inl (ap (λ e. is_among (names_in e) y) k ∙ n)
        by (inr n) = inr (λ f q. n f (form_is (text g) f (ap (form_of loops symbols) (sym k) ∙ q)))

    pub settled_moves : (e : Expression) → IsPlain e → MovesIn (settled e)
    settled_moves e p = by (mentions loops e) refl
      where
        by : (b : Bool) → mentions loops e ≡ b → MovesIn (settled e)
        by true h =
            text_is_moved (settled e) (inside e) (form_of loops symbols (inside e)) refl
            (made_is (canonising loops symbols) e ∙ ap (λ b. cond b (canonical_text loops symbols (inside e)) (inside e)) h)
        by false h = inl (free e p h)
