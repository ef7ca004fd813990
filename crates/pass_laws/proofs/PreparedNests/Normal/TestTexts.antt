-- Conditions on trips are in canonical text.
use Rattle.std.proofs.Common.{◌≡◌, refl, sym, ap, ap₂, ◌∙◌, subst, ℕ, ◌≤◌, ℤ, pos, Bool, true, false, cond, List, [], ◌∷◌}
use Rattle.std.proofs.Common.{◌++◌, length, Option, Some, None, Result, Ok, Err, append-nil}
use Rattle.std.specs.List.{list_any}
use Rattle.std.specs.Ordering.{int_eq}
use Rattle.std.specs.Prelude.{nat_le}
use Rattle.last_values.specs.normal_forms.Texts.{at_least_one, quotient_text, trip_text}
use Rattle.linear_forms.proofs.AffineTexts.{affine_has_text}
use Rattle.linear_forms.proofs.CanonicalTwice.{text_settled}
use Rattle.linear_forms.proofs.Parts.{parted}
use Rattle.linear_forms.specs.Canonical.{canonical_node, canonical_text, canonising, text_or}
use Rattle.linear_forms.specs.CanonicalLaws.{AreDistinct}
use Rattle.linear_forms.specs.Expressed.{expressed, variables}
use Rattle.linear_forms.specs.Linear.{Form, as_constant, constant_of, constant_or, form_of, form_of_pair, form_of_two, known}
use Rattle.linear_forms.specs.Linear.{limited, linear, no_store}
use Rattle.linear_forms.specs.Texts.{text_of}
use Rattle.meaning.specs.Dialect.{fortran77}
use Rattle.tree.specs.declared.width.Width.TheVariants.{Plain}
use Rattle.meaning.specs.Names.{is_among}
use Rattle.meaning.specs.Store.{cell_at}
use Rattle.meaning.specs.Value.{subscript_values, value_of, values_of}
use Rattle.nest.specs.declared.parts.Trip.{Trip}
use Rattle.pass_laws.proofs.NormalFacts.LoopLimits.{HasTop}
use Rattle.rewrite.specs.Making.{made}
use Rattle.rewrite.specs.Names.{mentions, uses_in, uses_in_expressions}
use Rattle.rewrite.specs.declared.uses.Use.{Use}
use Rattle.tree.specs.Limits.{nest_depth}
use Rattle.tree.specs.Operators.{apply, call}
use Rattle.tree.specs.Plain.{Apply, Binary, Constructor, Expression, Expressions, Logic, Named, Number, Reduce, Reshape}
use Rattle.tree.specs.Plain.{Spread, Transpose, Unary, expression, no_expressions}
use Rattle.tree.specs.Steps.{◌>>=◌}
use Rattle.tree.specs.declared.ops.Fault.{Fault}
use Rattle.tree.specs.declared.ops.Op.{Op}
use Rattle.tree.specs.declared.ops.Op.TheVariants.{Div, Ge}
use Rattle.tree.specs.declared.ops.Value.{Value}

-- ---- no name stands in what has a value though no name has a cell

mutual
  no_uses : (e : Expression) (v : Value) → value_of (fortran77 Plain) e no_store ≡ Ok v → uses_in e ≡ []
  no_uses (Number n) v h = refl
  no_uses (Logic b) v h = refl
  no_uses (Named x ps) v h =
      let p = parted (subscript_values (fortran77 Plain) ps no_store) (λ is. do c ← cell_at x is no_store; Ok (no_store.held c)) v h in
      let e = p.second in cc
  no_uses (Unary o a) v h =
      let p = parted (value_of (fortran77 Plain) a no_store) (λ x. apply o x x) v h in
      no_uses a p.part p.first
  no_uses (Binary o a b) v h =
      let p = parted (value_of (fortran77 Plain) a no_store) (λ x. do y ← value_of (fortran77 Plain) b no_store; apply o x y) v h in
      let q = parted (value_of (fortran77 Plain) b no_store) (λ y. apply o p.part y) v p.second in
      ap₂ (λ (us ws : List Use). us ++ ws) (no_uses a p.part p.first) (no_uses b q.part q.first)
  no_uses (Apply f es) v h =
      let p = parted (values_of (fortran77 Plain) es no_store) (λ xs. call f xs) v h in
      no_uses_each es p.part p.first
  no_uses (Constructor es ls) v h = cc
  no_uses (Spread a k b) v h = cc
  no_uses (Transpose a) v h = cc
  no_uses (Reshape a es) v h = cc
  no_uses (Reduce r a) v h = cc

  no_uses_each : (es : Expressions) (vs : List Value) → values_of (fortran77 Plain) es no_store ≡ Ok vs → uses_in_expressions es ≡ []
  no_uses_each no_expressions vs h = refl
  no_uses_each (expression e es) vs h =
      let p = parted (value_of (fortran77 Plain) e no_store) (λ x. do xs ← values_of (fortran77 Plain) es no_store; Ok (x ∷ xs)) vs h in
      let q = parted (values_of (fortran77 Plain) es no_store) (λ xs. Ok (p.part ∷ xs)) vs p.second in
      ap₂ (λ (us ws : List Use). us ++ ws) (no_uses e p.part p.first) (no_uses_each es q.part q.first)

-- ---- an operator that makes no form

module _ (loops symbols : List (List ℕ)) (o : Op) (none : (k l : Option ℤ) (f g : Form) → form_of_two o k l f g ≡ None) where
  abbrev settled : Expression → Expression
  settled e = made (canonising loops symbols) e

  no_pair : (k l : Option ℤ) (f g : Option Form) → form_of_pair o k l f g ≡ None
  no_pair k l (Some f) (Some g) = none k l f g
  no_pair k l (Some f) None = refl
  no_pair k l None g = refl

  either_none : (b : Bool) → ◌≡◌ {A = Option Form} (cond b None None) None
  either_none true = refl
  either_none false = refl

  module _ (a b : Expression) where
    abbrev whole : Expression
    whole = Binary o a b

    abbrev form_with : Option ℤ → Option Form → Option Form
    form_with c p = cond (nat_le (length loops) nest_depth) (limited (length loops) (constant_or c p)) None

    no_form : (f : Fault) → value_of (fortran77 Plain) whole no_store ≡ Err f → form_of loops symbols whole ≡ None
    no_form f h =
        let pair = form_of_pair o (constant_of a) (constant_of b) (linear (length loops) (loops ++ symbols) a) (linear (length loops) (loops ++ symbols) b) in
        ap (λ r. form_with (as_constant (known r)) pair) h
        ∙ (ap (form_with None) (no_pair (constant_of a) (constant_of b) (linear (length loops) (loops ++ symbols) a) (linear (length loops) (loops ++ symbols) b))
        ∙ either_none (nat_le (length loops) nest_depth))

    node_stays : canonical_node loops symbols whole whole ≡ whole
    node_stays = by (value_of (fortran77 Plain) whole no_store) refl
      where
        kept : (b : Bool) → canonical_text loops symbols whole ≡ whole → cond b (canonical_text loops symbols whole) whole ≡ whole
        kept true h = h
        kept false h = refl

        by : (r : Result Value Fault) → value_of (fortran77 Plain) whole no_store ≡ r → canonical_node loops symbols whole whole ≡ whole
        by (Ok v) h = ap (λ us. cond (list_any (λ (u : Use). is_among loops u.name) us) (canonical_text loops symbols whole) whole) (no_uses whole v h)
        by (Err f) h = kept (mentions loops whole) (ap (λ g. text_or loops symbols g whole) (no_form f h))

    pub pair_stays : settled a ≡ a → settled b ≡ b → settled whole ≡ whole
    pair_stays h k = ap₂ (λ x y. canonical_node loops symbols whole (Binary o x y)) h k ∙ node_stays

-- ---- trips

module _ (loops symbols : List (List ℕ)) (few : length loops ≤ 7) (apart : AreDistinct (loops ++ symbols)) where
  dividend_stays : (n : ℕ) (t : Trip) → HasTop n (length loops) t → made (canonising loops symbols) (text_of loops symbols [] t.top) ≡ text_of loops symbols [] t.top
  dividend_stays n t h =
      let written : text_of loops symbols [] t.top ≡ expressed (variables (loops ++ symbols)) h.form =
      affine_has_text loops symbols [] h.form t.top h.affine ∙ ap (λ ts. expressed ts h.form) (append-nil (variables (loops ++ symbols))) in
      subst (λ e. made (canonising loops symbols) e ≡ e) (sym written) (text_settled loops symbols few apart h.form h.limited)

  quotient_stays : (e : Expression) (z : ℤ) → made (canonising loops symbols) e ≡ e → made (canonising loops symbols) (quotient_text e z) ≡ quotient_text e z
  quotient_stays e z h = by (int_eq z (pos 1))
    where
      by : (b : Bool) → made (canonising loops symbols) (cond b e (Binary Div e (Number z))) ≡ cond b e (Binary Div e (Number z))
      by true = h
      by false = pair_stays loops symbols Div (λ k l f g. refl) e (Number z) h refl

  pub test_stays : (n : ℕ) (t : Trip) → HasTop n (length loops) t → made (canonising loops symbols) (at_least_one (trip_text loops symbols [] t)) ≡ at_least_one (trip_text loops symbols [] t)
  unfolding trip_text
  test_stays n t h =
      pair_stays loops symbols Ge (λ k l f g. refl) (quotient_text (text_of loops symbols [] t.top) t.by) (Number (pos 1))
      (quotient_stays (text_of loops symbols [] t.top) t.by (dividend_stays n t h)) refl
