-- Trips in which no loop's variable stands have one number in all stores of the nest.
use Rattle.std.proofs.Common.{◌≡◌, refl, sym, ap, ◌∙◌, subst, ◌⊎◌, inl, inr, ℕ, zero, suc, ◌+◌, ◌*◌, ◌<◌, ◌≤◌, ◌^◌, ◌/◌, ℤ, pos, negsuc, neg_ℤ, ◌+ℤ◌, ◌*ℤ◌, Bool, true, false, Some, Result, Ok, List, [], ◌∷◌, ◌++◌, length, append-nil, arith}
use Rattle.std.specs.Prelude.{IfSome, IsTrue, int_div, nat_abs, ◌≤ℤ◌}
use Rattle.std.specs.Ordering.{int_eq}
use Rattle.std.proofs.Math.Nat.{pow-le-pow_right}
use Rattle.std.proofs.lemmas.Nat.{div-add-mod'}
use Rattle.std.proofs.lemmas.Bool.Decides.{Decides-int_eq, Decides-ltb}
use Rattle.std.proofs.lemmas.Int.{ints}
use Rattle.std.proofs.lemmas.List.{length-append}
use Rattle.tree.specs.OperationFaults.{kind_of}
use Rattle.tree.specs.Operators.{apply, as_number, fits}
use Rattle.tree.specs.Plain.{Declaration, Expression}
use Rattle.tree.specs.Steps.{◌>>=◌}
use Rattle.tree.specs.declared.ops.Fault.{Fault}
use Rattle.tree.specs.declared.ops.Kind.TheVariants.{Integer}
use Rattle.tree.specs.declared.ops.Op.TheVariants.{Div}
use Rattle.tree.specs.declared.ops.Value.{Value}
use Rattle.tree.specs.declared.ops.Value.TheVariants.{Int, Truth}
use Rattle.meaning.specs.Holding.{IsStorable}
use Rattle.meaning.specs.Store.{Store}
use Rattle.meaning.specs.Typed.{declared}
use Rattle.meaning.specs.Value.{is_in_range, number_of, value_of}
use Rattle.subscripts.specs.Forms.{over_loops, over_symbols, value_at}
use Rattle.linear_forms.specs.Affines.{IsAffineOf}
use Rattle.linear_forms.specs.Laws.{AreSized}
use Rattle.linear_forms.specs.Linear.{HaveValues, form_of, number_at}
use Rattle.linear_forms.proofs.Faultless.{linear_has_value}
use Rattle.linear_forms.proofs.Sizes.{limited_fits}
use Rattle.array_form.proofs.forms.Coefficients.{found_form}
use Rattle.dependence_graph.proofs.dep_graph.FormValues.{affine_value}
use Rattle.dependence_graph.specs.nest_graph.Instances.{turns_at}
use Rattle.nest.specs.declared.parts.Trip.{Trip}
use Rattle.nest_order.specs.facts.Facts.{values_from}
use Rattle.nest_order.specs.orders.Lists.{In}
use Rattle.nest_order.proofs.facts.Facts.{have-append, sized-append}
use Rattle.nest_order.specs.runs.Guarded.{sequential, variable_cell}
use Rattle.nest_order.specs.runs.Nests as runs
use Rattle.nest_order.specs.runs.Stores.{HoldsNest, Setting}
use Rattle.nest_order.specs.runs.Touched.{nth_of}
use Rattle.emission.specs.emission_forms.Written.{IsDivided, IsTripText}
use Rattle.emission.proofs.EmissionForms.FormsGiven.{by_one}
use Rattle.emission.proofs.EmissionForms.FormsLimits.{values_same}
use Rattle.interchange.specs.Arranged.{is_loop_free}
use Rattle.interchange.specs.Reads.{all_zero}
use Rattle.prepared_passes.proofs.ArrangedNests.Vectors.{and_both}

-- ---- quotients within 128 bits

no_more : (a b : ℕ) → 0 < b → a / b ≤ a
no_more a b h = let e = div-add-mod' a b in let m : a / b ≤ (a / b) * b = grind (arith, h) in omega (arith, e, m)

negative_fits : (q m : ℕ) → q ≤ suc m → m < 2 ^ 127 → fits 127 (neg_ℤ (pos q)) ≡ true
negative_fits zero m h less = (Decides-ltb 0 (2 ^ 127)).1 (omega (arith, less))
negative_fits (suc q) m h less = (Decides-ltb q (2 ^ 127)).1 (omega (arith, h, less))

quotient_fits : (z : ℤ) (b : ℕ) → 0 < b → fits 127 z ≡ true → fits 127 (int_div z (pos b)) ≡ true
quotient_fits (pos k) b h f = let less = (Decides-ltb k (2 ^ 127)).0 f in let most = no_more k b h in (Decides-ltb (k / b) (2 ^ 127)).1 (omega (arith, less, most))
quotient_fits (negsuc k) b h f = negative_fits (suc k / b) k (no_more (suc k) b h) ((Decides-ltb k (2 ^ 127)).0 f)

pub quotient_size : (z : ℤ) (b : ℕ) → 0 < b → nat_abs (int_div z (pos b)) ≤ nat_abs z
quotient_size (pos k) b h = no_more k b h
quotient_size (negsuc k) b h = negative (suc k / b) (suc k) (no_more (suc k) b h)
  where
    negative : (q m : ℕ) → q ≤ m → nat_abs (neg_ℤ (pos q)) ≤ m
    negative zero m h = omega arith
    negative (suc q) m h = h

not_nought : (b : ℕ) → 0 < b → int_eq (pos b) (pos 0) ≡ false
not_nought b h = by (int_eq (pos b) (pos 0)) refl
  where
    by : (c : Bool) → int_eq (pos b) (pos 0) ≡ c → c ≡ false
    by false e = refl
    by true e = let same = (Decides-int_eq (pos b) (pos 0)).0 e in let none : b ≡ 0 = cc in absurd (omega (arith, none, h))

divided : (z : ℤ) (b : ℕ) → 0 < b → fits 127 z ≡ true → apply Div (Int z) (Int (pos b)) ≡ Ok (Int (int_div z (pos b)))
divided z b h f = rw (not_nought b h, quotient_fits z b h f) refl

-- ---- numbers of 64 bits

power : (k : ℕ) → k ≤ 63 → 2 ^ k ≤ 2 ^ 63
power k h = let two : 0 < 2 = omega arith in pow-le-pow_right two h

pub sized : (bits : ℕ) → bits ≤ 63 → (z : ℤ) → fits bits z ≡ true → nat_abs z ≤ 2 ^ 63
sized bits high (pos k) h = let less = (Decides-ltb k (2 ^ bits)).0 h in let most = power bits high in omega (arith, less, most)
sized bits high (negsuc k) h = let less = (Decides-ltb k (2 ^ bits)).0 h in let most = power bits high in omega (arith, less, most)

-- ---- names with numbers

-- an INTEGER scalar
pub record IsNumber (w : Setting) (x : List ℕ) : Type 0 where
  pub declaration : Declaration
  pub is : declared w.program.declarations x ≡ Some declaration
  pub integer : declaration.kind ≡ Integer
  pub scalar : w.bounds x ≡ Some []

module _ (bits : ℕ) (high : bits ≤ 63) (n : runs.RunNest) (w : Setting) (s : Store) (inside : HoldsNest bits n w s) where
  number_held : (x : List ℕ) → IsNumber w x → (z : ℤ) × (s.held (variable_cell x) ≡ Int z) × (nat_abs z ≤ 2 ^ 63)
  number_held x c = by (s.held (variable_cell x)) refl (subst (λ o. IfSome o (λ (e : Declaration). IsStorable (sequential bits) e.kind (s.held (variable_cell x)))) c.is (inside.program.kinds (variable_cell x)))
    where
      by : (v : Value) → s.held (variable_cell x) ≡ v → IsStorable (sequential bits) c.declaration.kind (s.held (variable_cell x)) → (z : ℤ) × (s.held (variable_cell x) ≡ Int z) × (nat_abs z ≤ 2 ^ 63)
      by (Int z) e h = (z, e, sized bits high z (subst (λ v. IsTrue (is_in_range bits v)) e h.within))
      by (Truth b) e h = let k : kind_of (Truth b) ≡ Integer = ap kind_of (sym e) ∙ (h.kind ∙ c.integer) in cc

  numbers_held : (xs : List (List ℕ)) → ((x : List ℕ) → In x xs → IsNumber w x) → (zs : List ℤ) × (length zs ≡ length xs) × HaveValues xs s zs × AreSized zs
  numbers_held [] h = ([], refl, tt, tt)
  numbers_held (x ∷ xs) h =
      let a = number_held x (h x (inl refl)) in
      let r = numbers_held xs (λ y i. h y (inr i)) in
      (a.0 ∷ r.0, ap suc r.1, (inside.bounds x ∙ (h x (inl refl)).scalar, a.1, r.2), (a.2, r.3))

  symbols_held : (k : ℕ) (ys : List (List ℕ)) → ((j : ℕ) (x : List ℕ) → nth_of ys j ≡ Some x → (s.bounds x ≡ Some []) × (s.held (variable_cell x) ≡ Int (w.values (k + j))) × (nat_abs (w.values (k + j)) ≤ 2 ^ 63))
      → HaveValues ys s (values_from w.values k ys) × AreSized (values_from w.values k ys)
  symbols_held k [] h = (tt, tt)
  symbols_held k (y ∷ ys) h =
      let e : k + 0 ≡ k = omega arith in
      let a = h 0 y refl in
      let r = symbols_held (suc k) ys (λ j x g. (let f : k + suc j ≡ suc k + j = omega arith in let b = h (suc j) x g in (b.0, b.1 ∙ ap (λ i. Int (w.values i)) f, subst (λ i. nat_abs (w.values i) ≤ 2 ^ 63) f b.2))) in
      ((a.0, a.1 ∙ ap (λ i. Int (w.values i)) e, r.0), (subst (λ i. nat_abs (w.values i) ≤ 2 ^ 63) e a.2, r.1))

-- ---- no loop's variable

pub without_loops : (as' xs : List ℤ) → all_zero as' ≡ true → over_loops as' xs ≡ pos 0
without_loops [] xs e = refl
without_loops (a ∷ as') [] e = refl
without_loops (a ∷ as') (x ∷ xs) e =
    let h = and_both (int_eq a (pos 0)) (all_zero as') e in
    ap (λ z. z *ℤ x +ℤ over_loops as' xs) ((Decides-int_eq a (pos 0)).0 h.0) ∙ (ap (λ z. pos 0 *ℤ x +ℤ z) (without_loops as' xs h.1) ∙ nothing x)
  where
    nothing : (x : ℤ) → pos 0 *ℤ x +ℤ pos 0 ≡ pos 0
    nothing x = omega (arith, ints)

pub same_turns : (t : Trip) (v : ℕ → ℤ) (xs : List ℤ) → is_loop_free t ≡ true → turns_at t v xs ≡ turns_at t v []
same_turns t v xs e =
    ap (λ z. int_div (z +ℤ (over_symbols t.top.syms v +ℤ t.top.constant)) t.by) (without_loops t.top.loops xs e ∙ sym (without_loops t.top.loops [] e))

-- ---- a trip

module _ (bits : ℕ) (high : bits ≤ 63) (n : runs.RunNest) (w : Setting) (s : Store) (inside : HoldsNest bits n w s)
    (scalars : (x : List ℕ) → In x n.symbols → w.bounds x ≡ Some []) (values : (k : ℕ) (x : List ℕ) → nth_of n.symbols k ≡ Some x → nat_abs (w.values k) ≤ 2 ^ 63)
    (round : List (List ℕ)) (few : length round ≤ 7) (numbers : (x : List ℕ) → In x round → IsNumber w x) where
  nth_in : (xs : List (List ℕ)) (k : ℕ) (x : List ℕ) → nth_of xs k ≡ Some x → In x xs
  nth_in [] k x e = cc
  nth_in (y ∷ ys) zero x e = inl cc
  nth_in (y ∷ ys) (suc k) x e = inr (nth_in ys k x e)

  held : (zs : List ℤ) × (length zs ≡ length round) × HaveValues round s zs × AreSized zs
  held = numbers_held bits high n w s inside round numbers

  symbols : HaveValues n.symbols s (values_from w.values 0 n.symbols) × AreSized (values_from w.values 0 n.symbols)
  symbols = symbols_held bits high n w s inside 0 n.symbols
      (λ j x e. (let z : j ≡ 0 + j = omega arith in
      (inside.bounds x ∙ scalars x (nth_in n.symbols j x e), inside.symbols j x e ∙ ap (λ i. Int (w.values i)) z, subst (λ i. nat_abs (w.values i) ≤ 2 ^ 63) z (values j x e))))

  pub trip_number : (last : Expression) (t : Trip) → IsTripText round n.symbols last t → pos 1 ≤ℤ t.by → is_loop_free t ≡ true → number_of (sequential bits) last s ≡ Ok (turns_at t w.values [])
  trip_number last t text positive none = on text.text
    where
      top : ℤ
      top = number_at text.form (held.0 ++ values_from w.values 0 n.symbols)

      top_is : top ≡ value_at t.top w.values []
      top_is =
          ap (λ zs. number_at text.form (held.0 ++ zs)) (sym (values_same w.values 0 n.symbols))
          ∙ (sym (affine_value text.form t.top n.symbols w.values held.0 [] (subst (λ m. IsAffineOf m text.form t.top) (sym held.1) text.top) (short text.text))
          ∙ (ap (value_at t.top w.values) (append-nil held.0)
          ∙ ap (λ z. z +ℤ (over_symbols t.top.syms w.values +ℤ t.top.constant)) (without_loops t.top.loops held.0 none ∙ sym (without_loops t.top.loops [] none))))
        where
          short : ((form_of round n.symbols last ≡ Some text.form) × (t.by ≡ pos 1)) ⊎ IsDivided round n.symbols last text.form t.by → length text.form.coefficients ≤ length held.0 + length n.symbols
          short (inl h) = let a = (found_form round n.symbols last text.form h.0).short in let b = length-append round n.symbols in let c = held.1 in omega arith
          short (inr h) = let a = (found_form round n.symbols h.0 text.form h.3).short in let b = length-append round n.symbols in let c = held.1 in omega arith

      value : (a : Expression) → form_of round n.symbols a ≡ Some text.form → value_of (sequential bits) a s ≡ Ok (Int top)
      value a g = linear_has_value (sequential bits) round n.symbols a text.form s (held.0 ++ values_from w.values 0 n.symbols) g
          (have-append round n.symbols s held.0 (values_from w.values 0 n.symbols) held.2 symbols.0) (sized-append held.0 (values_from w.values 0 n.symbols) held.3 symbols.1)

      on : ((form_of round n.symbols last ≡ Some text.form) × (t.by ≡ pos 1)) ⊎ IsDivided round n.symbols last text.form t.by → number_of (sequential bits) last s ≡ Ok (turns_at t w.values [])
      on (inl h) =
          ap (λ (r : Result Value Fault). do v ← r; as_number v) (value last h.0)
          ∙ ap Ok (top_is ∙ (sym (by_one (value_at t.top w.values [])) ∙ ap (int_div (value_at t.top w.values [])) (sym h.1)))
      on (inr (a, b, same, g, is)) =
          let least : 0 < b = at_least b (subst (λ z. pos 1 ≤ℤ z) is positive) in
          let fit : fits 127 top ≡ true = limited_fits (length round) text.form (held.0 ++ values_from w.values 0 n.symbols) few (found_form round n.symbols a text.form g).limits (sized-append held.0 (values_from w.values 0 n.symbols) held.3 symbols.1) in
          ap (λ e. number_of (sequential bits) e s) same
          ∙ (ap (λ (r : Result Value Fault). do v ← (do x ← r; apply Div x (Int (pos b))); as_number v) (value a g)
          ∙ (ap (λ (r : Result Value Fault). do v ← r; as_number v) (divided top b least fit)
          ∙ ap Ok (ap (λ z. int_div z (pos b)) top_is ∙ ap (int_div (value_at t.top w.values [])) (sym is))))
        where
          at_least : (b : ℕ) → pos 1 ≤ℤ pos b → 0 < b
          at_least b h = omega (arith, ints, h)
