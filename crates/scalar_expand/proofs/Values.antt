-- Values in a store with private scalars and in one with their arrays.
use Rattle.std.proofs.Common.{◌≡◌, refl, sym, ap, ap₂, ◌∙◌, inl, inr, subst, ℕ, ℤ, List, [], ◌∷◌, Result, Ok, Option, Some, None}
use Rattle.tree.specs.Steps.{◌>>=◌}
use Rattle.tree.specs.Operators.{apply, call, as_number}
use Rattle.tree.specs.Plain.{Expression, Number, Logic, Named, Unary, Binary, Apply, Constructor, Spread, Transpose, Reshape, Reduce, Expressions, no_expressions, expression, Subscript, Only, Section, Subscripts, no_subscripts, subscript}
use Rattle.tree.specs.declared.ops.Value.{Value}
use Rattle.tree.specs.declared.ops.Fault.{Fault}
use Rattle.meaning.specs.Reads.{names_in, names_in_each, names_in_subscripts, names_in_subscript}
use Rattle.meaning.specs.Store.{Store, Cell, cell_at, cell_in}
use Rattle.meaning.specs.Value.{value_of, values_of, subscript_value, subscript_values}
use Rattle.rewrite.specs.Following.{sequential}
use Rattle.rewrite.specs.Making.{made, made_expressions, made_subscripts, made_subscript}
use Rattle.nest_order.specs.orders.Lists.{In}
use Rattle.nest_order.proofs.orders.Lists.{In-left, In-right}
use Rattle.nest_order.specs.runs.Touched.{IsPlain, EachIsPlain, ArePlain, IsPlainSubscript}
use Rattle.nest_order.proofs.runs.Results.{both_ok}
use Rattle.nest_order.proofs.runs.Variables.{cell_name, place_of}
use Rattle.nest_steps.specs.Statements.{cell_of}
use Rattle.scalar_expand.specs.Expanded.{as_expression, element, element_or, expanding, named_private}
use Rattle.scalar_expand.specs.declared.privates.Private.{Private}

module _ (bits : ℕ) (ps : List Private) (s u : Store) where
  -- what a name is in the two stores: it has the same cells, or is a private scalar whose element holds what it holds
  abbrev pub ReadsAs : Option Private → List ℕ → Type 0
  ReadsAs None z = (u.bounds z ≡ s.bounds z) × ((c : Cell) → c.name ≡ z → u.held c ≡ s.held c)
  ReadsAs (Some p) z = (s.bounds z ≡ Some []) × (value_of (sequential bits) (as_expression (element p)) u ≡ Ok (s.held (cell_of z)))

  abbrev pub Reads : List (List ℕ) → Type 0
  Reads xs = (z : List ℕ) → In z xs → ReadsAs (named_private ps z) z

  -- no element of a scalar
  pub scalar_only : (b : Option (List (ℤ × ℤ))) (z : List ℕ) (i : ℤ) (is : List ℤ) (c : Cell) → b ≡ Some [] → cell_in b z (i ∷ is) ≡ Ok c → ⊥
  scalar_only None z i is c e f = cc
  scalar_only (Some []) z i is c e f = cc
  scalar_only (Some (b ∷ bs)) z i is c e f = let bad : ◌≡◌ {A = Option (List (ℤ × ℤ))} (Some (b ∷ bs)) (Some []) = e in cc

  fetched : (z : List ℕ) (is : List ℤ) (v : Value) → u.bounds z ≡ s.bounds z → ((c : Cell) → c.name ≡ z → u.held c ≡ s.held c)
      → (do c ← cell_at z is s; Ok (s.held c)) ≡ Ok v → (do c ← cell_at z is u; Ok (u.held c)) ≡ Ok v
  fetched z is v b h e =
      let c = both_ok (cell_at z is s) (λ c. Ok (s.held c)) v e in
      ap (λ b. do c ← cell_in b z is; Ok (u.held c)) b
      ∙ (ap (λ (r : Result Cell Fault). do c ← r; Ok (u.held c)) c.1 ∙ (ap Ok (h c.0 (cell_name (s.bounds z) z is c.0 c.1).0) ∙ c.2))

  bare_value : (z : List ℕ) (v : Value) (o : Option Private) → ReadsAs o z → value_of (sequential bits) (Named z no_subscripts) s ≡ Ok v
      → value_of (sequential bits) (as_expression (element_or o (record { name = z; subscripts = no_subscripts }))) u ≡ Ok v
  bare_value z v None h e = fetched z [] v h.0 h.1 e
  bare_value z v (Some p) h e =
      h.1 ∙ (sym (ap (λ (r : Result Cell Fault). do c ← r; Ok (s.held c)) (place_of z s h.0)) ∙ e)

  -- with subscripts, whose values are the same in both
  part_value : (z : List ℕ) (i : ℤ) (is : List ℤ) (v : Value) (o : Option Private) → ReadsAs o z
      → (do c ← cell_at z (i ∷ is) s; Ok (s.held c)) ≡ Ok v → (do c ← cell_at z (i ∷ is) u; Ok (u.held c)) ≡ Ok v
  part_value z i is v None h e = fetched z (i ∷ is) v h.0 h.1 e
  part_value z i is v (Some p) h e =
      let c = both_ok (cell_at z (i ∷ is) s) (λ c. Ok (s.held c)) v e in
      absurd (scalar_only (s.bounds z) z i is c.0 h.0 c.1)

  -- where an expression has a value in the one store, what becomes of it has it in the other one
  mutual
    pub value_made : (e : Expression) (v : Value) → IsPlain e → Reads (names_in e) → value_of (sequential bits) e s ≡ Ok v → value_of (sequential bits) (made (expanding ps) e) u ≡ Ok v
    value_made (Number m) v p h e = e
    value_made (Logic b) v p h e = e
    value_made (Named z no_subscripts) v p h e = bare_value z v (named_private ps z) (h z (inl refl)) e
    value_made (Named z (subscript q qs)) v p h e =
        let is = both_ok (subscript_values (sequential bits) (subscript q qs) s) (λ is. do c ← cell_at z is s; Ok (s.held c)) v e in
        let i = both_ok (subscript_value (sequential bits) q s) (λ i. do js ← subscript_values (sequential bits) qs s; Ok (i ∷ js)) is.0 is.1 in
        let js = both_ok (subscript_values (sequential bits) qs s) (λ js. Ok (i.0 ∷ js)) is.0 i.2 in
        let same : is.0 ≡ i.0 ∷ js.0 = cc in
        let there = subscripts_made (subscript q qs) is.0 p (λ y j. h y (inr j)) is.1 in
        let fetched' = subst (λ ks. (do c ← cell_at z ks s; Ok (s.held c)) ≡ Ok v) same is.2 in
        ap (λ (r : Result (List ℤ) Fault). do ks ← r; c ← cell_at z ks u; Ok (u.held c)) there
        ∙ (ap (λ ks. do c ← cell_at z ks u; Ok (u.held c)) same ∙ part_value z i.0 js.0 v (named_private ps z) (h z (inl refl)) fetched')
    value_made (Unary o a) v p h e =
        let w = both_ok (value_of (sequential bits) a s) (λ w. apply o w w) v e in
        ap (λ (r : Result Value Fault). do w ← r; apply o w w) (value_made a w.0 p h w.1) ∙ w.2
    value_made (Binary o a b) v p h e =
        let w = both_ok (value_of (sequential bits) a s) (λ w. do z ← value_of (sequential bits) b s; apply o w z) v e in
        let z = both_ok (value_of (sequential bits) b s) (λ z. apply o w.0 z) v w.2 in
        ap₂ (λ (r q : Result Value Fault). do w ← r; z ← q; apply o w z) (value_made a w.0 p.0 (λ y i. h y (In-left y (names_in a) (names_in b) i)) w.1) (value_made b z.0 p.1 (λ y i. h y (In-right y (names_in a) (names_in b) i)) z.1) ∙ z.2
    value_made (Apply f es) v p h e =
        let vs = both_ok (values_of (sequential bits) es s) (λ vs. call f vs) v e in
        ap (λ (r : Result (List Value) Fault). do vs ← r; call f vs) (values_made es vs.0 p h vs.1) ∙ vs.2
    value_made (Constructor es ls) v p h e = absurd p
    value_made (Spread a j e) v p h f = absurd p
    value_made (Transpose a) v p h e = absurd p
    value_made (Reshape a es) v p h e = absurd p
    value_made (Reduce r a) v p h e = absurd p

    values_made : (es : Expressions) (vs : List Value) → EachIsPlain es → Reads (names_in_each es) → values_of (sequential bits) es s ≡ Ok vs → values_of (sequential bits) (made_expressions (expanding ps) es) u ≡ Ok vs
    values_made no_expressions vs p h e = e
    values_made (expression a es) vs p h e =
        let w = both_ok (value_of (sequential bits) a s) (λ w. do ws ← values_of (sequential bits) es s; Ok (w ∷ ws)) vs e in
        let ws = both_ok (values_of (sequential bits) es s) (λ ws. Ok (w.0 ∷ ws)) vs w.2 in
        ap₂ (λ (r : Result Value Fault) (q : Result (List Value) Fault). do w ← r; ws ← q; Ok (w ∷ ws)) (value_made a w.0 p.0 (λ y i. h y (In-left y (names_in a) (names_in_each es) i)) w.1) (values_made es ws.0 p.1 (λ y i. h y (In-right y (names_in a) (names_in_each es) i)) ws.1) ∙ ws.2

    pub subscripts_made : (qs : Subscripts) (is : List ℤ) → ArePlain qs → Reads (names_in_subscripts qs) → subscript_values (sequential bits) qs s ≡ Ok is → subscript_values (sequential bits) (made_subscripts (expanding ps) qs) u ≡ Ok is
    subscripts_made no_subscripts is p h e = e
    subscripts_made (subscript q qs) is p h e =
        let i = both_ok (subscript_value (sequential bits) q s) (λ i. do js ← subscript_values (sequential bits) qs s; Ok (i ∷ js)) is e in
        let js = both_ok (subscript_values (sequential bits) qs s) (λ js. Ok (i.0 ∷ js)) is i.2 in
        ap₂ (λ (r : Result ℤ Fault) (q : Result (List ℤ) Fault). do i ← r; js ← q; Ok (i ∷ js)) (subscript_made q i.0 p.0 (λ y j. h y (In-left y (names_in_subscript q) (names_in_subscripts qs) j)) i.1) (subscripts_made qs js.0 p.1 (λ y j. h y (In-right y (names_in_subscript q) (names_in_subscripts qs) j)) js.1) ∙ js.2

    subscript_made : (q : Subscript) (i : ℤ) → IsPlainSubscript q → Reads (names_in_subscript q) → subscript_value (sequential bits) q s ≡ Ok i → subscript_value (sequential bits) (made_subscript (expanding ps) q) u ≡ Ok i
    subscript_made (Only a) i p h e =
        let w = both_ok (value_of (sequential bits) a s) (λ w. as_number w) i e in
        ap (λ (r : Result Value Fault). do w ← r; as_number w) (value_made a w.0 p h w.1) ∙ w.2
    subscript_made (Section a b c) i p h e = absurd p
