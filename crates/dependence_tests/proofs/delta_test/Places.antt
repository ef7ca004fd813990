-- A coefficient in one place replaced.
use Rattle.std.proofs.Common.{◌≡◌, ℕ, ◌<◌, List, [], ◌∷◌, length, get_or, set, zero, suc, ap, arith, sym, ◌∙◌}
use Rattle.std.specs.Prelude.{ℤ, pos, ◌+ℤ◌, ◌-ℤ◌, ◌*ℤ◌}
use Rattle.std.proofs.Math.IntN.{*ℤ-zero, zero-*ℤ, +ℤ_idl, +ℤ_idr}
use Rattle.dependence_tests.proofs.loop_lines.Indexed.{over_none}
use Rattle.dependence_tests.proofs.loop_lines.LinePoints.Ring.{ring, linear}
use Rattle.subscripts.specs.Forms.{over_loops}

head_set : (a b i s : ℤ) → b *ℤ i +ℤ s ≡ (a *ℤ i +ℤ s) +ℤ (b -ℤ a) *ℤ i
head_set a b i s = simp ring (omega (arith, linear))

tail_set : (a i s t u : ℤ) → t ≡ s +ℤ u → a *ℤ i +ℤ t ≡ (a *ℤ i +ℤ s) +ℤ u
tail_set a i s t u e = omega (arith, linear)

pub over_set : (as' x : List ℤ) (k : ℕ) (b : ℤ) → k < length as' → over_loops (set as' k b) x ≡ over_loops as' x +ℤ (b -ℤ get_or as' k (pos 0)) *ℤ get_or x k (pos 0)
over_set [] x k b h = absurd (omega arith)
over_set (a ∷ as') [] zero b h = sym (+ℤ_idl ((b -ℤ a) *ℤ pos 0) ∙ *ℤ-zero (b -ℤ a))
over_set (a ∷ as') [] (suc k) b h = sym (+ℤ_idl ((b -ℤ get_or as' k (pos 0)) *ℤ pos 0) ∙ *ℤ-zero (b -ℤ get_or as' k (pos 0)))
over_set (a ∷ as') (i ∷ x) zero b h = head_set a b i (over_loops as' x)
over_set (a ∷ as') (i ∷ x) (suc k) b h = tail_set a i (over_loops as' x) (over_loops (set as' k b) x) ((b -ℤ get_or as' k (pos 0)) *ℤ get_or x k (pos 0)) (over_set as' x k b (omega arith))

-- a form in which one loop alone has a coefficient
pub over_but : (k : ℕ) (as' x : List ℤ) → ((m : ℕ) → m < length as' → (m ≡ k → ⊥) → get_or as' m (pos 0) ≡ pos 0) → over_loops as' x ≡ get_or as' k (pos 0) *ℤ get_or x k (pos 0)
over_but k [] x h = sym (zero-*ℤ (get_or x k (pos 0)))
over_but k (a ∷ as') [] h = sym (*ℤ-zero (get_or (a ∷ as') k (pos 0)))
over_but zero (a ∷ as') (i ∷ x) h =
    ap (λ (z : ℤ). a *ℤ i +ℤ z) (over_none as' x (λ n b. h (suc n) (omega arith) (λ e. absurd (omega arith)))) ∙ +ℤ_idr (a *ℤ i)
over_but (suc k) (a ∷ as') (i ∷ x) h =
    ap (λ (z : ℤ). z *ℤ i +ℤ over_loops as' x) (h 0 (omega arith) (λ e. absurd (omega arith))) ∙ ap (λ (z : ℤ). z +ℤ over_loops as' x) (zero-*ℤ i) ∙ +ℤ_idl (over_loops as' x)
    ∙ over_but k as' x (λ n b u. h (suc n) (omega arith) (λ e. u (omega arith)))
