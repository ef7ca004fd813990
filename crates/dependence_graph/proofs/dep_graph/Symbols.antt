-- The coefficients of a form, by loops and by symbols.
use Rattle.std.proofs.Common.{◌≡◌, ℕ, zero, suc, ◌+◌, ◌-◌, ◌<◌, ◌≤◌, refl, sym, ap, ap₂, ◌∙◌, arith, zero-add, Bool, true, false, cond, List, [], ◌∷◌, ◌++◌, length, take, drop, get_or, replicate}
use Rattle.std.specs.Prelude.{ℤ, pos, ◌+ℤ◌, ◌*ℤ◌, nat_eq}
use Rattle.std.specs.Ordering.{int_eq}
use Rattle.std.proofs.lemmas.Bool.Decides.{Decides-int_eq}
use Rattle.std.proofs.lemmas.Int.{ints}
use Rattle.std.proofs.lemmas.List.{get_or-drop, get_or-take, get_or_past, length-take}
use Rattle.subscripts.specs.Forms.{coefficient, over_symbols}
use Rattle.linear_forms.specs.Linear.{Form}
use Rattle.linear_forms.specs.Affines.{IsAffineOf}
use Rattle.linear_forms.specs.Places.{terms_from}
use Rattle.dependence_graph.specs.nest_graph.Indices.{coefficient_at}
use Rattle.dependence_graph.specs.nest_graph.Paired.{affine_of}

zeros_at : (m k : ℕ) → get_or (replicate m (pos 0)) k (pos 0) ≡ pos 0
zeros_at zero k = refl
zeros_at (suc m) zero = refl
zeros_at (suc m) (suc k) = zeros_at m k

pub with_zeros_at : (cs : List ℤ) (m k : ℕ) → get_or (cs ++ replicate m (pos 0)) k (pos 0) ≡ get_or cs k (pos 0)
with_zeros_at [] m k = zeros_at m k
with_zeros_at (c ∷ cs) m zero = refl
with_zeros_at (c ∷ cs) m (suc k) = with_zeros_at cs m k

-- ---- loops

pub loop_at : (m : ℕ) (f : Form) (k : ℕ) → k < m → get_or (affine_of m f).loops k (pos 0) ≡ coefficient_at f k
loop_at m f k h = with_zeros_at (take m f.coefficients) (7 - length (take m f.coefficients)) k ∙ get_or-take m f.coefficients k (pos 0) h

pub loop_past : (m : ℕ) (f : Form) (k : ℕ) → m ≤ k → get_or (affine_of m f).loops k (pos 0) ≡ pos 0
loop_past m f k h =
    with_zeros_at (take m f.coefficients) (7 - length (take m f.coefficients)) k
    ∙ get_or_past (take m f.coefficients) k (pos 0) (omega (arith, length-take m f.coefficients))

pub is_affine : (m : ℕ) (f : Form) → IsAffineOf m f (affine_of m f)
is_affine m f = record {
  loops = λ k. with_zeros_at (take m f.coefficients) (7 - length (take m f.coefficients)) k;
  symbols = refl;
  constant = refl;
}

-- ---- symbols

equal_self : (n k : ℕ) → k ≡ n → nat_eq n k ≡ true
equal_self n k h = grind arith

not_equal : (n k : ℕ) → k < n → nat_eq n k ≡ false
not_equal n k h = grind arith

plus_zero : (z : ℤ) → z +ℤ pos 0 ≡ z
plus_zero z = omega (arith, ints)

zero_plus : (z : ℤ) → pos 0 +ℤ z ≡ z
zero_plus z = omega (arith, ints)

coefficient_none : (o : ℕ) (cs : List ℤ) (s : ℕ) → s < o → coefficient (terms_from o cs) s ≡ pos 0
coefficient_none o [] s h = refl
coefficient_none o (c ∷ cs) s h = by (int_eq c (pos 0)) (coefficient_none (suc o) cs s (omega arith))
  where
    by : (b : Bool) → coefficient (terms_from (suc o) cs) s ≡ pos 0 → coefficient (cond b (terms_from (suc o) cs) ((o, c) ∷ terms_from (suc o) cs)) s ≡ pos 0
    by true e = e
    by false e = ap₂ (λ (b : Bool) (z : ℤ). cond b c (pos 0) +ℤ z) (not_equal o s h) e

coefficient_terms : (o : ℕ) (cs : List ℤ) (k s : ℕ) → s ≡ o + k → coefficient (terms_from o cs) s ≡ get_or cs k (pos 0)
coefficient_terms o [] k s h = refl
coefficient_terms o (c ∷ cs) zero s h = by (int_eq c (pos 0)) refl
  where
    rest : coefficient (terms_from (suc o) cs) s ≡ pos 0
    rest = coefficient_none (suc o) cs s (omega arith)

    by : (b : Bool) → int_eq c (pos 0) ≡ b → coefficient (cond b (terms_from (suc o) cs) ((o, c) ∷ terms_from (suc o) cs)) s ≡ c
    by true e = rest ∙ sym ((Decides-int_eq c (pos 0)).0 e)
    by false e = ap₂ (λ (b : Bool) (z : ℤ). cond b c (pos 0) +ℤ z) (equal_self o s (omega arith)) rest ∙ plus_zero c
coefficient_terms o (c ∷ cs) (suc k) s h = by (int_eq c (pos 0)) (coefficient_terms (suc o) cs k s (omega arith))
  where
    by : (b : Bool) → coefficient (terms_from (suc o) cs) s ≡ get_or cs k (pos 0)
        → coefficient (cond b (terms_from (suc o) cs) ((o, c) ∷ terms_from (suc o) cs)) s ≡ get_or cs k (pos 0)
    by true e = e
    by false e = ap₂ (λ (b : Bool) (z : ℤ). cond b c (pos 0) +ℤ z) (differs (omega arith)) e ∙ zero_plus (get_or cs k (pos 0))
      where
        differs : o < s → nat_eq o s ≡ false
        differs l = grind arith

unused : (m s : ℕ) → coefficient (replicate m (0, pos 0)) s ≡ pos 0
unused zero s = refl
unused (suc m) s = by (nat_eq 0 s) (unused m s)
  where
    by : (b : Bool) → coefficient (replicate m (0, pos 0)) s ≡ pos 0 → cond b (pos 0) (pos 0) +ℤ coefficient (replicate m (0, pos 0)) s ≡ pos 0
    by true e = ap (λ (z : ℤ). pos 0 +ℤ z) e
    by false e = ap (λ (z : ℤ). pos 0 +ℤ z) e

coefficient_front : (ts : List (ℕ × ℤ)) (m s : ℕ) → coefficient (ts ++ replicate m (0, pos 0)) s ≡ coefficient ts s
coefficient_front [] m s = unused m s
coefficient_front (t ∷ ts) m s = ap (λ (z : ℤ). cond (nat_eq t.0 s) t.1 (pos 0) +ℤ z) (coefficient_front ts m s)

pub symbol_at : (m : ℕ) (f : Form) (s : ℕ) → coefficient (affine_of m f).syms s ≡ coefficient_at f (m + s)
symbol_at m f s =
    coefficient_front (terms_from 0 (drop m f.coefficients)) (8 - length (terms_from 0 (drop m f.coefficients))) s
    ∙ coefficient_terms 0 (drop m f.coefficients) s s (sym (zero-add s))
    ∙ get_or-drop m f.coefficients s (pos 0)

-- ---- symbols that cancel

-- 1 for one symbol, 0 for all others
abbrev only : ℕ → ℕ → ℤ
only s k = cond (nat_eq k s) (pos 1) (pos 0)

picked : (ts : List (ℕ × ℤ)) (s : ℕ) → over_symbols ts (only s) ≡ coefficient ts s
picked [] s = refl
picked (t ∷ ts) s = ap₂ (λ (y z : ℤ). y +ℤ z) (by (nat_eq t.0 s)) (picked ts s)
  where
    by : (b : Bool) → t.1 *ℤ cond b (pos 1) (pos 0) ≡ cond b t.1 (pos 0)
    by true = omega (arith, ints)
    by false = omega (arith, ints)

pub same_coefficients : (ts us : List (ℕ × ℤ)) → ((v : ℕ → ℤ) → over_symbols ts v ≡ over_symbols us v) → (s : ℕ) → coefficient ts s ≡ coefficient us s
same_coefficients ts us h s = sym (picked ts s) ∙ h (only s) ∙ picked us s

abbrev sum_from : (ℕ → ℤ) → ℕ → List ℤ → ℤ
sum_from v o [] = pos 0
sum_from v o (c ∷ cs) = c *ℤ v o +ℤ sum_from v (suc o) cs

zero_times : (z : ℤ) → pos 0 *ℤ z ≡ pos 0
zero_times z = omega (arith, ints)

nothing : (z x r : ℤ) → z ≡ pos 0 → r ≡ pos 0 → z *ℤ x +ℤ r ≡ pos 0
nothing z x r e f = ap₂ (λ (a b : ℤ). a *ℤ x +ℤ b) e f ∙ ap (λ (a : ℤ). a +ℤ pos 0) (zero_times x)

over_none : (v : ℕ → ℤ) (m : ℕ) → over_symbols (replicate m (0, pos 0)) v ≡ pos 0
over_none v zero = refl
over_none v (suc m) = nothing (pos 0) (v 0) (over_symbols (replicate m (0, pos 0)) v) refl (over_none v m)

over_front : (ts : List (ℕ × ℤ)) (v : ℕ → ℤ) (m : ℕ) → over_symbols (ts ++ replicate m (0, pos 0)) v ≡ over_symbols ts v
over_front [] v m = over_none v m
over_front (t ∷ ts) v m = ap (λ (r : ℤ). t.1 *ℤ v t.0 +ℤ r) (over_front ts v m)

over_terms : (v : ℕ → ℤ) (o : ℕ) (cs : List ℤ) → over_symbols (terms_from o cs) v ≡ sum_from v o cs
over_terms v o [] = refl
over_terms v o (c ∷ cs) = by (int_eq c (pos 0)) refl (over_terms v (suc o) cs)
  where
    by : (b : Bool) → int_eq c (pos 0) ≡ b → over_symbols (terms_from (suc o) cs) v ≡ sum_from v (suc o) cs
        → over_symbols (cond b (terms_from (suc o) cs) ((o, c) ∷ terms_from (suc o) cs)) v ≡ c *ℤ v o +ℤ sum_from v (suc o) cs
    by true e more =
        more ∙ sym (ap (λ (z : ℤ). z *ℤ v o +ℤ sum_from v (suc o) cs) ((Decides-int_eq c (pos 0)).0 e)
        ∙ ap (λ (z : ℤ). z +ℤ sum_from v (suc o) cs) (zero_times (v o)) ∙ zero_plus (sum_from v (suc o) cs))
    by false e more = ap (λ (r : ℤ). c *ℤ v o +ℤ r) more

same_sum : (v : ℕ → ℤ) (o : ℕ) (cs ds : List ℤ) → ((k : ℕ) → get_or cs k (pos 0) ≡ get_or ds k (pos 0)) → sum_from v o cs ≡ sum_from v o ds
same_sum v o [] [] h = refl
same_sum v o [] (d ∷ ds) h = sym (nothing d (v o) (sum_from v (suc o) ds) (sym (h zero)) (sym (same_sum v (suc o) [] ds (λ k. h (suc k)))))
same_sum v o (c ∷ cs) [] h = nothing c (v o) (sum_from v (suc o) cs) (h zero) (same_sum v (suc o) cs [] (λ k. h (suc k)))
same_sum v o (c ∷ cs) (d ∷ ds) h = ap₂ (λ (a r : ℤ). a *ℤ v o +ℤ r) (h zero) (same_sum v (suc o) cs ds (λ k. h (suc k)))

over_form : (m : ℕ) (f : Form) (v : ℕ → ℤ) → over_symbols (affine_of m f).syms v ≡ sum_from v 0 (drop m f.coefficients)
over_form m f v =
    over_front (terms_from 0 (drop m f.coefficients)) v (8 - length (terms_from 0 (drop m f.coefficients)))
    ∙ over_terms v 0 (drop m f.coefficients)

pub same_symbols : (m n : ℕ) (f g : Form) → ((k : ℕ) → coefficient_at f (m + k) ≡ coefficient_at g (n + k)) → (v : ℕ → ℤ)
    → over_symbols (affine_of m f).syms v ≡ over_symbols (affine_of n g).syms v
same_symbols m n f g h v =
    over_form m f v
    ∙ same_sum v 0 (drop m f.coefficients) (drop n g.coefficients) (λ k. get_or-drop m f.coefficients k (pos 0) ∙ h k ∙ sym (get_or-drop n g.coefficients k (pos 0)))
    ∙ sym (over_form n g v)
