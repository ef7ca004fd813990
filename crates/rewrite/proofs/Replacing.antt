-- That a variable is replaced by an expression of its value keeps the laws of a rule.
use Rattle.std.proofs.Common.{◌≡◌, refl, sym, ap, ◌∙◌, subst, ℕ, ℤ, Bool, true, false, cond, not, ◌&&◌, ◌||◌, List, [], ◌∷◌, ◌++◌, map, Result, Ok, Err, Option, Some, None}
use Rattle.std.specs.Prelude.{IsTrue}
use Rattle.std.specs.List.{AllByRecursion}
use Rattle.std.specs.Str.{bytes_eq}
use Rattle.std.specs.Cmp.Lexicographic.{pointwise}
use Rattle.std.specs.Ordering.{int_eq}
use Rattle.std.proofs.lemmas.Slice.Eq.{bytes_eq-Decides}
use mathlib.Core.Path.{ap₂}
use Rattle.tree.specs.Operators.{apply, call, as_number}
use Rattle.tree.specs.Steps.{◌>>=◌}
use Rattle.tree.specs.declared.ops.Fault.{Fault}
use Rattle.tree.specs.declared.ops.Value.{Value}
use Rattle.tree.specs.Plain.{Expression, Number, Logic, Named, Unary, Binary, Apply, Constructor, Spread, Transpose, Reshape, Reduce, Expressions, no_expressions, expression, Subscript, Only, Section, Subscripts, no_subscripts, subscript, Reference}
use Rattle.meaning.specs.Store.{Store, Cell, put, same_cell, cell_at, cell_in, cells_of, bounds_in, is_within}
use Rattle.meaning.specs.Value.{value_of, values_of, subscript_values, subscript_value, item_values}
use Rattle.meaning.specs.Reads.{names_in, names_in_each, names_in_subscripts, names_in_subscript}
use Rattle.meaning.proofs.Columns.{cells-within}
use Rattle.rewrite.specs.Rule.{IsRule, HaveInCommon, Assigned, value_between}
use Rattle.meaning.specs.Names.{is_among}
use Rattle.rewrite.specs.Following.{sequential}
use Rattle.rewrite.specs.Substituting.{replaced}
use Rattle.rewrite.specs.Replacing.{Replacing, is_own, is_fixed, is_free, is_suited, replacing, replacing_suits, ValueStandsFor}
use Rattle.rewrite.proofs.Values.{parted, joined, single_item, cell_in-named}

-- ---- truth values

pub either_false : (a b : Bool) → (a || b) ≡ false → (a ≡ false) × (b ≡ false)
either_false true b h = cc
either_false false b h = (refl, h)

pub both_true : (a b : Bool) → (a && b) ≡ true → (a ≡ true) × (b ≡ true)
both_true true b h = (refl, h)
both_true false b h = cc

pub not_true : (a : Bool) → not a ≡ true → a ≡ false
not_true true h = cc
not_true false h = refl

-- names that aren't equal
pub differ : (x y : List ℕ) → bytes_eq x y ≡ false → x ≡ y → ⊥
differ x y h e = let t = (bytes_eq-Decides x y).1 e in let q : false ≡ true = sym h ∙ t in cc

pub bytes_eq-false : (x y : List ℕ) → (x ≡ y → ⊥) → bytes_eq x y ≡ false
bytes_eq-false x y h = by (bytes_eq x y) refl
  where
    by : (b : Bool) → bytes_eq x y ≡ b → b ≡ false
    by true e = absurd (h ((bytes_eq-Decides x y).0 e))
    by false e = refl

-- ---- a store in which a cell of another name has changed

module _ (bits : ℕ) (c : Cell) (v : Value) (u : Store) where
  abbrev Without : List (List ℕ) → Type 0
  Without xs = is_among xs c.name ≡ false

  front : (xs ys : List (List ℕ)) → Without (xs ++ ys) → Without xs
  front [] ys h = refl
  front (x ∷ xs) ys h =
      let p = either_false (bytes_eq c.name x) (is_among (xs ++ ys) c.name) h in
      ap (λ b. b || is_among xs c.name) p.0 ∙ front xs ys p.1

  back : (xs ys : List (List ℕ)) → Without (xs ++ ys) → Without ys
  back [] ys h = h
  back (x ∷ xs) ys h = back xs ys (either_false (bytes_eq c.name x) (is_among (xs ++ ys) c.name) h).1

  other_cell : (d : Cell) (x : List ℕ) → d.name ≡ x → bytes_eq c.name x ≡ false → same_cell c d ≡ false
  other_cell d x e h = ap (λ b. b && pointwise int_eq c.subscripts d.subscripts) (ap (bytes_eq c.name) e ∙ h)

  looked_up : (x : List ℕ) (is : List ℤ) → bytes_eq c.name x ≡ false → ◌≡◌ {A = Result Value Fault} (do d ← cell_at x is u; Ok ((put c v u).held d)) (do d ← cell_at x is u; Ok (u.held d))
  looked_up x is h = by (cell_at x is u) refl
    where
      by : (q : Result Cell Fault) → cell_at x is u ≡ q → ◌≡◌ {A = Result Value Fault} (do d ← q; Ok ((put c v u).held d)) (do d ← q; Ok (u.held d))
      by (Ok d) e = ap (λ b. Ok (cond b v (u.held d))) (other_cell d x (cell_in-named (u.bounds x) x is d e) h)
      by (Err f) e = refl

  chosen : (x : List ℕ) (r : Result (List ℤ) Fault) → bytes_eq c.name x ≡ false → ◌≡◌ {A = Result Value Fault} (do is ← r; d ← cell_at x is u; Ok ((put c v u).held d)) (do is ← r; d ← cell_at x is u; Ok (u.held d))
  chosen x (Ok is) h = looked_up x is h
  chosen x (Err f) h = refl

  mutual
    pub value_of-put : (e : Expression) → Without (names_in e) → value_of (sequential bits) e (put c v u) ≡ value_of (sequential bits) e u
    value_of-put (Number n) h = refl
    value_of-put (Logic b) h = refl
    value_of-put (Named x ps) h =
        let p = either_false (bytes_eq c.name x) (is_among (names_in_subscripts ps) c.name) h in
        ap (λ r. do is ← r; d ← cell_at x is u; Ok ((put c v u).held d)) (subscript_values-put ps p.1) ∙ chosen x (subscript_values (sequential bits) ps u) p.0
    value_of-put (Unary o a) h = ap (λ r. do x ← r; apply o x x) (value_of-put a h)
    value_of-put (Binary o a b) h = ap₂ (λ r q. do x ← r; y ← q; apply o x y) (value_of-put a (front (names_in a) (names_in b) h)) (value_of-put b (back (names_in a) (names_in b) h))
    value_of-put (Apply f es) h = ap (λ r. do xs ← r; call f xs) (values_of-put es h)
    value_of-put (Constructor es ls) h = refl
    value_of-put (Spread a k e) h = refl
    value_of-put (Transpose a) h = refl
    value_of-put (Reshape a es) h = refl
    value_of-put (Reduce r a) h = refl

    values_of-put : (es : Expressions) → Without (names_in_each es) → values_of (sequential bits) es (put c v u) ≡ values_of (sequential bits) es u
    values_of-put no_expressions h = refl
    values_of-put (expression e es) h = ap₂ (λ r q. do x ← r; xs ← q; Ok (x ∷ xs)) (value_of-put e (front (names_in e) (names_in_each es) h)) (values_of-put es (back (names_in e) (names_in_each es) h))

    subscript_values-put : (ps : Subscripts) → Without (names_in_subscripts ps) → subscript_values (sequential bits) ps (put c v u) ≡ subscript_values (sequential bits) ps u
    subscript_values-put no_subscripts h = refl
    subscript_values-put (subscript p ps) h = ap₂ (λ r q. do i ← r; is ← q; Ok (i ∷ is)) (subscript_value-put p (front (names_in_subscript p) (names_in_subscripts ps) h)) (subscript_values-put ps (back (names_in_subscript p) (names_in_subscripts ps) h))

    subscript_value-put : (p : Subscript) → Without (names_in_subscript p) → subscript_value (sequential bits) p (put c v u) ≡ subscript_value (sequential bits) p u
    subscript_value-put (Only e) h = ap (λ r. do x ← r; as_number x) (value_of-put e h)
    subscript_value-put (Section a b d) h = refl

-- ---- the laws

module _ (r : Replacing) (bits : ℕ) where
  abbrev Like : Store → Store → Type 0
  Like = ValueStandsFor r bits

  abbrev scalar : Cell
  scalar = record { name = r.variable; subscripts = [] }

  variable-value : (s u : Store) → Like s u → (v : Value) → ◌≡◌ {A = Result Value Fault} (do c ← cell_at r.variable [] s; Ok (s.held c)) (Ok v) → value_of (sequential bits) r.by u ≡ Ok v
  variable-value s u a v e = a.value ∙ (sym (ap (λ b. do c ← cell_in b r.variable []; Ok (s.held c)) a.scalar) ∙ e)

  shared-value : (x : List ℕ) (ps : Subscripts) (s u : Store) → Like s u → is_own r x ≡ false → (v : Value) → value_between (sequential bits) (Named x ps) s u ≡ Ok v → value_of (sequential bits) (Named x ps) u ≡ Ok v
  shared-value x ps s u a h v e =
      let is = parted (subscript_values (sequential bits) ps u) (λ is. do c ← cell_at x is s; Ok (s.held c)) v e in
      let c = parted (cell_at x is.part s) (λ c. Ok (s.held c)) v is.second in
      let name = cell_in-named (s.bounds x) x is.part c.part c.first in
      joined (subscript_values (sequential bits) ps u) (λ is. do c ← cell_at x is u; Ok (u.held c)) is.part v is.first
      (joined (cell_at x is.part u) (λ c. Ok (u.held c)) c.part v (ap (λ b. cell_in b x is.part) (sym (a.bounds x h)) ∙ c.first)
      (ap Ok (sym (a.held c.part (ap (is_own r) name ∙ h))) ∙ c.second))

  value : (first e : Expression) (s u : Store) (v : Value) → IsTrue (is_suited r e) → Like s u → value_between (sequential bits) e s u ≡ Ok v → value_of (sequential bits) (replaced r.variable r.by e) u ≡ Ok v
  value first (Named x no_subscripts) s u v h a e = by (bytes_eq x r.variable) refl h
    where
      by : (b : Bool) → bytes_eq x r.variable ≡ b → (b || not (is_own r x)) ≡ true → value_of (sequential bits) (cond b r.by (Named x no_subscripts)) u ≡ Ok v
      by true q h =
          let same = (bytes_eq-Decides x r.variable).0 q in
          variable-value s u a v (subst (λ (y : List ℕ). ◌≡◌ {A = Result Value Fault} (do c ← cell_at y [] s; Ok (s.held c)) (Ok v)) same e)
      by false q h = shared-value x no_subscripts s u a (not_true (is_own r x) h) v e
  value first (Named x (subscript p ps)) s u v h a e = shared-value x (subscript p ps) s u a (not_true (is_own r x) h) v e
  value first (Number n) s u v h a e = e
  value first (Logic b) s u v h a e = e
  value first (Unary o b) s u v h a e = e
  value first (Binary o b c) s u v h a e = e
  value first (Apply f es) s u v h a e = e
  value first (Constructor es ls) s u v h a e = e
  value first (Spread b k c) s u v h a e = e
  value first (Transpose b) s u v h a e = e
  value first (Reshape b es) s u v h a e = e
  value first (Reduce q b) s u v h a e = e

  same_values : (x : List ℕ) (s u : Store) → Like s u → is_own r x ≡ false → (bs : List (ℤ × ℤ)) (cs : List Cell) → AllByRecursion (λ (c : Cell). (c.name ≡ x) × (is_within bs c.subscripts ≡ true)) cs → map s.held cs ≡ map u.held cs
  same_values x s u a h bs [] k = refl
  same_values x s u a h bs (c ∷ cs) k = ap₂ (λ v vs. v ∷ vs) (a.held c (ap (is_own r) k.0.0 ∙ h)) (same_values x s u a h bs cs k.1)

  shared-items : (x : List ℕ) (s u : Store) → Like s u → is_own r x ≡ false → (vs : List Value) → item_values (sequential bits) (Named x no_subscripts) s ≡ Ok vs → item_values (sequential bits) (Named x no_subscripts) u ≡ Ok vs
  shared-items x s u a h vs e = sym (by (s.bounds x) ∙ ap (λ b. do cs ← (do bs ← bounds_in b; Ok (cells_of x bs)); Ok (map u.held cs)) (a.bounds x h)) ∙ e
    where
      by : (b : Option (List (ℤ × ℤ))) → ◌≡◌ {A = Result (List Value) Fault} (do cs ← (do bs ← bounds_in b; Ok (cells_of x bs)); Ok (map s.held cs)) (do cs ← (do bs ← bounds_in b; Ok (cells_of x bs)); Ok (map u.held cs))
      by (Some bs) = ap Ok (same_values x s u a h bs (cells_of x bs) (cells-within x bs))
      by None = refl

  variable-items : (s u : Store) → Like s u → (vs : List Value) → item_values (sequential bits) (Named r.variable no_subscripts) s ≡ Ok vs → item_values (sequential bits) r.by u ≡ Ok vs
  variable-items s u a vs e = single_item bits r.by u (s.held scalar) a.value ∙ (sym (ap (λ b. do cs ← (do bs ← bounds_in b; Ok (cells_of r.variable bs)); Ok (map s.held cs)) a.scalar) ∙ e)

  printed : (x : List ℕ) (s u : Store) (vs : List Value) → IsTrue (is_suited r (Named x no_subscripts)) → Like s u
      → item_values (sequential bits) (Named x no_subscripts) s ≡ Ok vs → item_values (sequential bits) (replaced r.variable r.by (Named x no_subscripts)) u ≡ Ok vs
  printed x s u vs h a e = by (bytes_eq x r.variable) refl h
    where
      by : (b : Bool) → bytes_eq x r.variable ≡ b → (b || not (is_own r x)) ≡ true → item_values (sequential bits) (cond b r.by (Named x no_subscripts)) u ≡ Ok vs
      by true q h =
          let same = (bytes_eq-Decides x r.variable).0 q in
          variable-items s u a vs (subst (λ (y : List ℕ). item_values (sequential bits) (Named y no_subscripts) s ≡ Ok vs) same e)
      by false q h = shared-items x s u a (not_true (is_own r x) h) vs e

  -- a free name is changed in both stores
  changed : (c : Cell) (v : Value) (s u : Store) → is_free r c.name ≡ true → Like s u → Like (put c v s) (put c v u)
  changed c v s u h a =
      let free = both_true (not (is_own r c.name)) (not (is_fixed r c.name)) h in
      let own = not_true (is_own r c.name) free.0 in
      let apart = (either_false (bytes_eq c.name r.variable) (r.news c.name) own).0 in
      let without = (either_false (is_among (names_in r.by) c.name) (r.fixed c.name) (not_true (is_fixed r c.name) free.1)).0 in
      let kept : (put c v s).held scalar ≡ s.held scalar = ap (λ b. cond (b && pointwise int_eq c.subscripts []) v (s.held scalar)) apart in
      record {
        bounds = λ x k. a.bounds x k;
        held = λ d k. ap (cond (same_cell c d) v) (a.held d k);
        scalar = a.scalar;
        value = value_of-put bits c v u r.by without ∙ (a.value ∙ ap Ok (sym kept));
      }

  assigned : (l : Reference) (s u : Store) (is : List ℤ) (c : Cell) → IsTrue (is_free r l.name) → Like s u
      → subscript_values (sequential bits) l.subscripts u ≡ Ok is → cell_at l.name is s ≡ Ok c → Assigned (sequential bits) Like s u c l
  assigned l s u is c h a e g =
      let free = both_true (not (is_own r l.name)) (not (is_fixed r l.name)) h in
      let name = cell_in-named (s.bounds l.name) l.name is c g in
      record {
        cell = c;
        named = joined (subscript_values (sequential bits) l.subscripts u) (λ is. cell_at l.name is u) is c e (ap (λ b. cell_in b l.name is) (sym (a.bounds l.name (not_true (is_own r l.name) free.0))) ∙ g);
        put = λ v q. changed c v s u (ap (is_free r) name ∙ h) a;
      }

  variable : (x : List ℕ) (s u : Store) → IsTrue (is_free r x) → Like s u → HaveInCommon (sequential bits) Like s u x
  variable x s u h a =
      let own = not_true (is_own r x) (both_true (not (is_own r x)) (not (is_fixed r x)) h).0 in
      record {
        bounds = a.bounds x own;
        held = λ c e. a.held c (ap (is_own r) e ∙ own);
        put = λ c v e q. changed c v s u (ap (is_free r) e ∙ h) a;
      }

  pub replacing_is_rule : IsRule (sequential bits) (replacing r) (replacing_suits r) Like
  replacing_is_rule = record { value = value; printed = printed; assigned = assigned; variable = variable }
