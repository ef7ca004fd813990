-- What a form is worth at an iteration.
use Rattle.std.proofs.Common.{◌≡◌, ℕ, zero, suc, ◌+◌, ◌-◌, ◌<◌, ◌≤◌, refl, sym, ap, ap₂, ◌∙◌, subst, arith, Option, Some, None, Bool, true, false, cond, List, [], ◌∷◌, ◌++◌, length, take, drop, get_or, replicate}
use Rattle.std.specs.Prelude.{ℤ, pos, negsuc, ◌+ℤ◌, ◌*ℤ◌}
use Rattle.std.specs.Ordering.{int_eq}
use Rattle.std.proofs.lemmas.Bool.Decides.{Decides-int_eq}
use Rattle.std.proofs.lemmas.Int.{ints}
use Rattle.std.proofs.lemmas.List.{length-append, length-take, length-drop}
use Rattle.subscripts.specs.Forms.{over_loops, over_symbols, value_at}
use Rattle.subscripts.specs.declared.affine.Affine.{Affine}
use Rattle.linear_forms.specs.Linear.{Form, number_at, weighted}
use Rattle.linear_forms.specs.Places.{padded, terms_from}
use Rattle.linear_forms.specs.Affines.{IsAffineOf}
use Rattle.dependence_graph.specs.nest_graph.Touched.{symbol_values_from}

zero_times : (z : ℤ) → pos 0 *ℤ z ≡ pos 0
zero_times z = omega (arith, ints)

zero_plus : (z : ℤ) → pos 0 +ℤ z ≡ z
zero_plus z = omega (arith, ints)

nothing : (z x r : ℤ) → z ≡ pos 0 → r ≡ pos 0 → z *ℤ x +ℤ r ≡ pos 0
nothing z x r e f = ap₂ (λ a b. a *ℤ x +ℤ b) e f ∙ ap (λ a. a +ℤ pos 0) (zero_times x)

-- lists that are equal place by place are worth the same
alike : (as' bs xs : List ℤ) → ((k : ℕ) → get_or as' k (pos 0) ≡ get_or bs k (pos 0)) → over_loops as' xs ≡ weighted bs xs
alike [] [] xs h = refl
alike [] (b ∷ bs) [] h = refl
alike [] (b ∷ bs) (x ∷ xs) h = sym (nothing b x (weighted bs xs) (sym (h zero)) (sym (alike [] bs xs (λ k. h (suc k)))))
alike (a ∷ as') [] [] h = refl
alike (a ∷ as') [] (x ∷ xs) h = nothing a x (over_loops as' xs) (h zero) (alike as' [] xs (λ k. h (suc k)))
alike (a ∷ as') (b ∷ bs) [] h = refl
alike (a ∷ as') (b ∷ bs) (x ∷ xs) h = ap₂ (λ c r. c *ℤ x +ℤ r) (h zero) (alike as' bs xs (λ k. h (suc k)))

front : (cs xs ys : List ℤ) → length cs ≤ length xs → weighted cs (xs ++ ys) ≡ weighted cs xs
front [] xs ys h = refl
front (c ∷ cs) [] ys h = absurd (omega arith)
front (c ∷ cs) (x ∷ xs) ys h = ap (λ r. c *ℤ x +ℤ r) (front cs xs ys (omega arith))

regroup : (a b c : ℤ) → a +ℤ (b +ℤ c) ≡ (a +ℤ b) +ℤ c
regroup a b c = omega (arith, ints)

split : (cs xs ys : List ℤ) → weighted cs (xs ++ ys) ≡ weighted (take (length xs) cs) xs +ℤ weighted (drop (length xs) cs) ys
split cs [] ys = sym (zero_plus (weighted cs ys))
split [] (x ∷ xs) ys = refl
split (c ∷ cs) (x ∷ xs) ys = ap (λ r. c *ℤ x +ℤ r) (split cs xs ys) ∙ regroup (c *ℤ x) (weighted (take (length xs) cs) xs) (weighted (drop (length xs) cs) ys)

-- ---- symbols

unused : (v : ℕ → ℤ) (m : ℕ) → over_symbols (replicate m (0, pos 0)) v ≡ pos 0
unused v zero = refl
unused v (suc m) = nothing (pos 0) (v 0) (over_symbols (replicate m (0, pos 0)) v) refl (unused v m)

over_front : (ts : List (ℕ × ℤ)) (v : ℕ → ℤ) (m : ℕ) → over_symbols (ts ++ replicate m (0, pos 0)) v ≡ over_symbols ts v
over_front [] v m = unused v m
over_front (t ∷ ts) v m = ap (λ r. t.1 *ℤ v t.0 +ℤ r) (over_front ts v m)

over_terms : (names : List (List ℕ)) (cs : List ℤ) (o : ℕ) (v : ℕ → ℤ) → length cs ≤ length names → over_symbols (terms_from o cs) v ≡ weighted cs (symbol_values_from v o names)
over_terms names [] o v h = refl
over_terms [] (c ∷ cs) o v h = absurd (omega arith)
over_terms (x ∷ names) (c ∷ cs) o v h = by (int_eq c (pos 0)) refl (over_terms names cs (suc o) v (omega arith))
  where
    by : (b : Bool) → int_eq c (pos 0) ≡ b → over_symbols (terms_from (suc o) cs) v ≡ weighted cs (symbol_values_from v (suc o) names)
        → over_symbols (cond b (terms_from (suc o) cs) ((o, c) ∷ terms_from (suc o) cs)) v ≡ c *ℤ v o +ℤ weighted cs (symbol_values_from v (suc o) names)
    by true e more = more ∙ sym (ap (λ z. z *ℤ v o +ℤ weighted cs (symbol_values_from v (suc o) names)) ((Decides-int_eq c (pos 0)).0 e) ∙ ap (λ z. z +ℤ weighted cs (symbol_values_from v (suc o) names)) (zero_times (v o)) ∙ zero_plus (weighted cs (symbol_values_from v (suc o) names)))
    by false e more = ap (λ r. c *ℤ v o +ℤ r) more

-- ---- a form

-- the affine form of a linear form is worth as much as this; what stands past the loops doesn't matter
pub affine_value : (f : Form) (a : Affine) (names : List (List ℕ)) (v : ℕ → ℤ) (xs ys : List ℤ) → IsAffineOf (length xs) f a
    → length f.coefficients ≤ length xs + length names → value_at a v (xs ++ ys) ≡ number_at f (xs ++ symbol_values_from v 0 names)
affine_value f a names v xs ys h l =
    let loops : over_loops a.loops (xs ++ ys) ≡ weighted (take (length xs) f.coefficients) xs =
    alike a.loops (take (length xs) f.coefficients) (xs ++ ys) h.loops
    ∙ front (take (length xs) f.coefficients) xs ys (omega (arith, length-take (length xs) f.coefficients)) in
    let symbols : over_symbols a.syms v ≡ weighted (drop (length xs) f.coefficients) (symbol_values_from v 0 names) =
    ap (λ ts. over_symbols ts v) h.symbols
    ∙ over_front (terms_from 0 (drop (length xs) f.coefficients)) v _
    ∙ over_terms names (drop (length xs) f.coefficients) 0 v (omega (arith, length-drop (length xs) f.coefficients)) in
    ap₂ (λ p q. p +ℤ (q +ℤ a.constant)) loops symbols
    ∙ ap (λ c. weighted (take (length xs) f.coefficients) xs +ℤ (weighted (drop (length xs) f.coefficients) (symbol_values_from v 0 names) +ℤ c)) h.constant
    ∙ regroup (weighted (take (length xs) f.coefficients) xs) (weighted (drop (length xs) f.coefficients) (symbol_values_from v 0 names)) f.constant
    ∙ ap (λ r. r +ℤ f.constant) (sym (split f.coefficients xs (symbol_values_from v 0 names)))
