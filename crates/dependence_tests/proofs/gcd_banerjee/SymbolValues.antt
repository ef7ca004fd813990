-- What symbols add to the difference of both sides: nothing where they cancel, and else any size in both directions.
use Rattle.std.proofs.Common.{◌≡◌, ℕ, zero, suc, ◌+◌, ◌*◌, ◌≤◌, ◌⊎◌, Bool, true, false, List, [], ◌∷◌, ap, arith, sym, ◌∙◌, refl, subst, inl, inr}
use Rattle.std.specs.Prelude.{ℤ, pos, negsuc, ◌+ℤ◌, ◌-ℤ◌, ◌*ℤ◌, ◌≤ℤ◌, ◌<ℤ◌, All, unsigned_abs}
use Rattle.std.proofs.Math.IntN.{neg_ℤ}
use Rattle.std.proofs.lemmas.Bool.{cases_Bool, false≢true}
use Rattle.std.proofs.lemmas.Int.{ints}
use Rattle.std.proofs.lemmas.List.Elements.{All-cons, All-nil}
use Rattle.dependence_tests.proofs.gcd_banerjee.Triangles.{down_to}
use Rattle.dependence_tests.specs.gcd_banerjee.Extremes.{IsSymbolsValue, turned}
use Rattle.dependence_tests.specs.gcd_banerjee.Least.{IsLeastOf}
use Rattle.dependence_tests.specs.declared.gcd_banerjee.least.Least.TheVariants.{At, Unbounded}
use Rattle.subscripts.proofs.Loops.{is_zero-zero, zero_is}
use Rattle.subscripts.proofs.Ring.{linear, neg_times, ring, times_neg}
use Rattle.subscripts.proofs.SymbolSums.{cancel_from_lists, over_spike, spike}
use Rattle.subscripts.specs.Classes.{Cancels}
use Rattle.subscripts.specs.Cuts.{is_zero}
use Rattle.subscripts.specs.Forms.{coefficient, over_symbols}
use Rattle.subscripts.specs.declared.pairing.Pairing.{Pairing}

same_or_not : (a b : ℤ) → (a ≡ b) ⊎ (a ≡ b → ⊥)
same_or_not a b =
    elim (cases_Bool (is_zero (a -ℤ b))) [
      | inl e ↦ let h = zero_is (a -ℤ b) e in inl (omega (arith, ints))
      | inr e ↦ inr (λ q. let h = is_zero-zero (a -ℤ b) (omega (arith, ints)) in cc)
    ]

-- the two sides agree on all symbols of a list, or there is one on which they don't
found : (ts us : List (ℕ × ℤ)) (ws : List (ℕ × ℤ)) → All (λ t. coefficient ts t.0 ≡ coefficient us t.0) ws ⊎ ((s : ℕ) × (coefficient ts s ≡ coefficient us s → ⊥))
found ts us [] = inl (All-nil (λ t. coefficient ts t.0 ≡ coefficient us t.0))
found ts us (w ∷ ws) =
    elim (same_or_not (coefficient ts w.0) (coefficient us w.0)) [
      | inl e ↦ elim (found ts us ws) [ inl a ↦ inl (All-cons (λ t. coefficient ts t.0 ≡ coefficient us t.0) w ws e a) | inr d ↦ inr d ]
      | inr n ↦ inr (w.0, n)
    ]

-- symbols that don't cancel have one that doesn't
pub different : (p : Pairing) → (Cancels p → ⊥) → (s : ℕ) × (coefficient p.from.syms s ≡ coefficient p.to.syms s → ⊥)
different p n =
    elim (found p.from.syms p.to.syms p.from.syms) [
      | inr d ↦ d
      | inl a ↦ elim (found p.from.syms p.to.syms p.to.syms) [ inr d ↦ d | inl b ↦ absurd (n (cancel_from_lists p.from.syms p.to.syms a b)) ]
    ]

turned_none : (o : Bool) (a b : ℤ) → a ≡ b → turned o (a -ℤ b) ≡ pos 0
turned_none false a b e = omega (arith, ints)
turned_none true a b e = omega (arith, ints)

pub least_if_cancel : (p : Pairing) (o : Bool) → Cancels p → IsLeastOf (IsSymbolsValue p o) (At (pos 0))
least_if_cancel p o h = (
  record { values = λ s. pos 0; value = sym (turned_none o (over_symbols p.from.syms (λ s. pos 0)) (over_symbols p.to.syms (λ s. pos 0)) (h (λ s. pos 0))) },
  λ z v. let e = v.value in let q = turned_none o (over_symbols p.from.syms v.values) (over_symbols p.to.syms v.values) (h v.values) in omega (arith, ints),
)

-- some multiple of a number other than 0 is as low as wanted
low_multiple : (d m : ℤ) → (d ≡ pos 0 → ⊥) → (t : ℤ) × ((d *ℤ t) ≤ℤ m)
low_multiple (pos zero) m n = absurd (n refl)
low_multiple (pos (suc k)) m n =
    let h = down_to (negsuc k) m (omega (arith, ints)) in
    let e : pos (suc k) *ℤ neg_ℤ (pos (unsigned_abs m)) ≡ negsuc k *ℤ pos (unsigned_abs m) = times_neg (pos (suc k)) (pos (unsigned_abs m)) ∙ sym (neg_times (pos (suc k)) (pos (unsigned_abs m))) in
    (neg_ℤ (pos (unsigned_abs m)), omega (arith, linear))
low_multiple (negsuc k) m n = (pos (unsigned_abs m), down_to (negsuc k) m (omega (arith, ints)))

turned_product : (o : Bool) (a b t : ℤ) → turned o (a *ℤ t -ℤ b *ℤ t) ≡ turned o (a -ℤ b) *ℤ t
turned_product false a b t = simp ring (omega (arith, linear))
turned_product true a b t = simp ring (omega (arith, linear))

turned_apart : (o : Bool) (a b : ℤ) → (a ≡ b → ⊥) → turned o (a -ℤ b) ≡ pos 0 → ⊥
turned_apart false a b n e = n (omega (arith, ints))
turned_apart true a b n e = n (omega (arith, ints))

pub open_if_not : (p : Pairing) (o : Bool) → (Cancels p → ⊥) → IsLeastOf (IsSymbolsValue p o) Unbounded
open_if_not p o n m =
    let d = different p n in
    let c = turned o (coefficient p.from.syms d.0 -ℤ coefficient p.to.syms d.0) in
    let t = low_multiple c m (turned_apart o (coefficient p.from.syms d.0) (coefficient p.to.syms d.0) d.1) in
    let a = over_spike p.from.syms d.0 t.0 in
    let b = over_spike p.to.syms d.0 t.0 in (
      c *ℤ t.0,
      (
        record {
          values = spike d.0 t.0;
          value = sym (ap (λ x. turned o (x -ℤ over_symbols p.to.syms (spike d.0 t.0))) a ∙ ap (λ y. turned o (coefficient p.from.syms d.0 *ℤ t.0 -ℤ y)) b ∙ turned_product o (coefficient p.from.syms d.0) (coefficient p.to.syms d.0) t.0);
        },
        t.1,
      ),
    )
