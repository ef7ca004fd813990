-- What has a value keeps it where a variable is replaced by an expression of its value, and in canonical text.
use Rattle.std.proofs.Common.{◌≡◌, refl, sym, ap, ◌∙◌, subst, ℕ, ℤ, Bool, true, false, cond, not, ◌||◌, List, [], ◌∷◌}
use Rattle.std.proofs.Common.{Ok, Option, Some, None}
use Rattle.std.specs.Str.{bytes_eq}
use Rattle.std.proofs.lemmas.Slice.Eq.{bytes_eq-Decides}
use Rattle.tree.specs.Steps.{◌>>=◌}
use Rattle.tree.specs.declared.ops.Value.{Value}
use Rattle.tree.specs.Plain.{Expression, Number, Logic, Named, Unary, Binary, Apply, Constructor, Spread, Transpose}
use Rattle.tree.specs.Plain.{Reshape, Reduce}
use Rattle.tree.specs.Plain.{Expressions, no_expressions, expression, Subscript, Only, Section, Subscripts}
use Rattle.tree.specs.Plain.{no_subscripts, subscript, Loops, no_loops, loop}
use Rattle.meaning.specs.Store.{Store, Cell, cell_at, cell_in}
use Rattle.meaning.specs.Value.{value_of, subscript_value, subscript_values, item_values}
use Rattle.rewrite.specs.Following.{sequential}
use Rattle.rewrite.specs.Making.{Making, made, made_subscripts}
use Rattle.rewrite.specs.Suits.{Suiting, Suits, SuitsEach, SuitsSubscripts, SuitsSubscript, SuitsLoops}
use Rattle.rewrite.specs.Names.{mentions}
use Rattle.rewrite.specs.Replacing.{Replacing, is_suited, ValueStandsFor}
use Rattle.rewrite.specs.Rule.{IsRule, value_between}
use Rattle.rewrite.specs.Substituting.{substituting}
use Rattle.rewrite.proofs.Replacing.{replacing_is_rule}
use Rattle.rewrite.proofs.Values.{parted, made-value, made-subscripts}
use Rattle.linear_forms.specs.Canonical.{text_or, canonical_text, canonical_node, canonising}
use Rattle.linear_forms.specs.Laws.{HoldsSized}
use Rattle.linear_forms.specs.Linear.{Form, form_of}
use Rattle.linear_forms.proofs.CanonicalRule.{name-node}
use Rattle.linear_forms.proofs.TextsKeep.{text_keeps_value}

-- ---- each expression suits a rule that is one of values alone

abbrev pub values_alone : Suiting
values_alone = record { expression = λ e. true; left = λ l. false; variable = λ x. false }

untrue : false ≡ true → ⊥
untrue e = cc

module _ (m : Making) where
  mutual
    suits : (e : Expression) → Suits m values_alone e
    suits (Number n) = refl
    suits (Logic b) = refl
    suits (Named x ps) = (refl, suits_subscripts ps)
    suits (Unary o a) = (refl, suits a)
    suits (Binary o a b) = (refl, suits a, suits b)
    suits (Apply f es) = (refl, suits_each es)
    suits (Constructor es ls) = (refl, suits_each es, suits_loops ls)
    suits (Spread a d n) = (refl, suits a, suits n)
    suits (Transpose a) = (refl, suits a)
    suits (Reshape a es) = (refl, suits a, suits_each es)
    suits (Reduce r a) = (refl, suits a)

    suits_each : (es : Expressions) → SuitsEach m values_alone es
    suits_each no_expressions = tt
    suits_each (expression e es) = (suits e, suits_each es)

    suits_subscripts : (ps : Subscripts) → SuitsSubscripts m values_alone ps
    suits_subscripts no_subscripts = tt
    suits_subscripts (subscript p ps) = (suits_subscript p, suits_subscripts ps)

    suits_subscript : (p : Subscript) → SuitsSubscript m values_alone p
    suits_subscript (Only e) = suits e
    suits_subscript (Section a b c) = (suits a, suits b, suits c)

    suits_loops : (ls : Loops) → SuitsLoops m values_alone ls
    suits_loops no_loops = tt
    suits_loops (loop x a b ls) = (suits a, suits b, suits_loops ls)

-- ---- a variable is replaced

-- the expression stands for the variable x, and all else is as before
abbrev pub alone : List ℕ → Expression → Replacing
alone x by = record { variable = x; by = by; news = λ y. false; fixed = λ y. false }

module _ (bits : ℕ) (x : List ℕ) (by : Expression) where
  abbrev Like : Store → Store → Type 0
  Like = ValueStandsFor (alone x by) bits

  either_way : (b : Bool) → (b || not (b || false)) ≡ true
  either_way true = refl
  either_way false = refl

  outside : (i : ℤ) (is : List ℤ) (b : Option (List (ℤ × ℤ))) (c : Cell) → b ≡ Some [] → cell_in b x (i ∷ is) ≡ Ok c → ⊥
  outside i is b c e h = let none = sym (ap (λ b. cell_in b x (i ∷ is)) e) ∙ h in cc

  -- a scalar has no elements
  no_element : (p : Subscript) (ps : Subscripts) (s u : Store) (v : Value) → Like s u → value_between (sequential bits) (Named x (subscript p ps)) s u ≡ Ok v → ⊥
  no_element p ps s u v a e =
      let is = parted (subscript_values (sequential bits) (subscript p ps) u) (λ is. do c ← cell_at x is s; Ok (s.held c)) v e in
      let c = parted (cell_at x is.part s) (λ c. Ok (s.held c)) v is.second in
      let i = parted (subscript_value (sequential bits) p u) (λ i. do is ← subscript_values (sequential bits) ps u; Ok (i ∷ is)) is.part is.first in
      let more = parted (subscript_values (sequential bits) ps u) (λ is. Ok (i.part ∷ is)) is.part i.second in
      let same : i.part ∷ more.part ≡ is.part = let e = more.second in cc in
      outside i.part more.part (s.bounds x) c.part a.scalar (subst (λ js. cell_at x js s ≡ Ok c.part) (sym same) c.first)

  suited : (e : Expression) (s u : Store) (v : Value) → Like s u → value_between (sequential bits) e s u ≡ Ok v → is_suited (alone x by) e ≡ true
  suited (Named y no_subscripts) s u v a e = either_way (bytes_eq y x)
  suited (Named y (subscript p ps)) s u v a e = cases (bytes_eq y x) refl
    where
      cases : (b : Bool) → bytes_eq y x ≡ b → not (b || false) ≡ true
      cases true q = absurd (no_element p ps s u v a (subst (λ z. value_between (sequential bits) (Named z (subscript p ps)) s u ≡ Ok v) ((bytes_eq-Decides y x).0 q) e))
      cases false q = refl
  suited (Number n) s u v a e = refl
  suited (Logic b) s u v a e = refl
  suited (Unary o b) s u v a e = refl
  suited (Binary o b c) s u v a e = refl
  suited (Apply f es) s u v a e = refl
  suited (Constructor es ls) s u v a e = refl
  suited (Spread b k c) s u v a e = refl
  suited (Transpose b) s u v a e = refl
  suited (Reshape b es) s u v a e = refl
  suited (Reduce r b) s u v a e = refl

  replacing_rule : IsRule (sequential bits) (substituting x by) values_alone Like
  replacing_rule = record {
    value = λ f e s u v t a h. (replacing_is_rule (alone x by) bits).value f e s u v (suited e s u v a h) a h;
    printed = λ y s u vs t a h. (replacing_is_rule (alone x by) bits).printed y s u vs (either_way (bytes_eq y x)) a h;
    assigned = λ r s u is c t. absurd (untrue t);
    variable = λ y s u t. absurd (untrue t);
  }

  module _ (s u : Store) (a : ValueStandsFor (alone x by) bits s u) where
    pub replaced_value : (e : Expression) (v : Value) → value_of (sequential bits) e s ≡ Ok v → value_of (sequential bits) (made (substituting x by) e) u ≡ Ok v
    replaced_value e v h = made-value bits (substituting x by) values_alone Like replacing_rule s u a e (suits (substituting x by) e) v h

    pub replaced_subscripts : (ps : Subscripts) (is : List ℤ) → subscript_values (sequential bits) ps s ≡ Ok is → subscript_values (sequential bits) (made_subscripts (substituting x by) ps) u ≡ Ok is
    replaced_subscripts ps is h = made-subscripts bits (substituting x by) values_alone Like replacing_rule s u a ps (suits_subscripts (substituting x by) ps) is h

-- ---- canonical text

module _ (bits : ℕ) (loops symbols : List (List ℕ)) where
  abbrev Same : Store → Store → Type 0
  Same s u = (s ≡ u) × HoldsSized u

  between : (e : Expression) (u : Store) → value_between (sequential bits) e u u ≡ value_of (sequential bits) e u
  between (Named x ps) u = refl
  between (Number n) u = refl
  between (Logic b) u = refl
  between (Unary o b) u = refl
  between (Binary o b c) u = refl
  between (Apply f es) u = refl
  between (Constructor es ls) u = refl
  between (Spread b k c) u = refl
  between (Transpose b) u = refl
  between (Reshape b es) u = refl
  between (Reduce r b) u = refl

  text_kept : (u : Store) → HoldsSized u → (e : Expression) (v : Value) (o : Option Form) → form_of loops symbols e ≡ o → value_of (sequential bits) e u ≡ Ok v
      → value_of (sequential bits) (text_or loops symbols o e) u ≡ Ok v
  text_kept u a e v (Some f) g h = text_keeps_value (sequential bits) loops symbols e f u v g a h
  text_kept u a e v None g h = h

  node_kept : (first e : Expression) (u : Store) (v : Value) → HoldsSized u → value_of (sequential bits) e u ≡ Ok v → value_of (sequential bits) (canonical_node loops symbols first e) u ≡ Ok v
  node_kept first e u v a h = cases (mentions loops first)
    where
      cases : (b : Bool) → value_of (sequential bits) (cond b (canonical_text loops symbols e) e) u ≡ Ok v
      cases true = text_kept u a e v (form_of loops symbols e) refl h
      cases false = h

  canonical_rule : IsRule (sequential bits) (canonising loops symbols) values_alone Same
  canonical_rule = record {
    value = λ f e s u v t a h. node_kept f e u v a.1 (sym (between e u) ∙ subst (λ w. value_between (sequential bits) e w u ≡ Ok v) a.0 h);
    printed = λ x s u vs t a h.
        ap (λ (e : Expression). item_values (sequential bits) e u) (name-node bits loops symbols (Named x no_subscripts) x no_subscripts)
        ∙ subst (λ w. item_values (sequential bits) (Named x no_subscripts) w ≡ Ok vs) a.0 h;
    assigned = λ r s u is c t. absurd (untrue t);
    variable = λ y s u t. absurd (untrue t);
  }

  module _ (u : Store) (sized : HoldsSized u) where
    pub canonical_value : (e : Expression) (v : Value) → value_of (sequential bits) e u ≡ Ok v → value_of (sequential bits) (made (canonising loops symbols) e) u ≡ Ok v
    canonical_value e v h = made-value bits (canonising loops symbols) values_alone Same canonical_rule u u (refl, sized) e (suits (canonising loops symbols) e) v h

    pub canonical_subscripts : (ps : Subscripts) (is : List ℤ) → subscript_values (sequential bits) ps u ≡ Ok is → subscript_values (sequential bits) (made_subscripts (canonising loops symbols) ps) u ≡ Ok is
    canonical_subscripts ps is h = made-subscripts bits (canonising loops symbols) values_alone Same canonical_rule u u (refl, sized) ps (suits_subscripts (canonising loops symbols) ps) is h
