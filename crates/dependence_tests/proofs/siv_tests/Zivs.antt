-- A pairing without a loop.
use Rattle.std.proofs.Common.{◌≡◌, ℕ, ◌<◌, List, [], ◌∷◌, ◌++◌, length, get_or, suc, refl, subst, sym, arith, ◌∙◌, inl, inr, cond, Bool, ◌&&◌, true}
use Rattle.std.specs.Prelude.{ℤ, pos, ◌+ℤ◌, ◌-ℤ◌}
use Rattle.std.proofs.lemmas.Bool.{cases_lt}
use Rattle.subscripts.specs.Classes.{Shared, First, Second, IsZiv, at_place}
use Rattle.subscripts.specs.Cuts.{cut, dirs_that_matter, is_zero, IsLeastPair, IsNoLater}
use Rattle.subscripts.specs.Forms.{IsPairOf, AreRelated, difference, over_loops, over_symbols}
use Rattle.subscripts.specs.Iterations.{IsRelated, once}
use Rattle.subscripts.specs.declared.affine.Dir.{Dir}
use Rattle.subscripts.specs.declared.affine.Dir.TheVariants.{Any}
use Rattle.subscripts.specs.declared.affine.Dirs.{Dirs}
use Rattle.subscripts.specs.declared.pairing.Pairing.{Pairing}
use Rattle.dependence_tests.proofs.loop_lines.LinePoints.Ring.{linear}
use Rattle.dependence_tests.specs.loop_lines.OneLoop.{ones, HasSevenLists}
use Rattle.dependence_tests.proofs.loop_lines.Indexed.{over_none, same_length, mattering_length, mattering_once}
use Rattle.dependence_tests.proofs.loop_lines.Crossings.{zero_unless, along}
use Rattle.dependence_tests.proofs.loop_lines.Cutting.{ones_from}
use Rattle.dependence_tests.proofs.loop_lines.Pairs.{once_at, ones_within, itself_no_later}

first_zero : (p : Pairing) → IsZiv p → (k : ℕ) → k < 7 → at_place p.from.loops k ≡ pos 0
first_zero p z k b =
    zero_unless (at_place p.from.loops k)
    (λ n. elim (cases_lt k p.common) [
      | inl c ↦ z.none (Shared k) (record { loop = c; some = λ u w. n u })
      | inr c ↦ z.none (First k) (record { loop = (c, b); some = λ u w. n u })
    ])

second_zero : (p : Pairing) → IsZiv p → (k : ℕ) → k < 7 → at_place p.to.loops k ≡ pos 0
second_zero p z k b =
    zero_unless (at_place p.to.loops k)
    (λ n. elim (cases_lt k p.common) [
      | inl c ↦ z.none (Shared k) (record { loop = c; some = λ u w. n w })
      | inr c ↦ z.none (Second k) (record { loop = (c, b); some = λ u w. n w })
    ])

-- both sides are constant
constant : (p : Pairing) (v : ℕ → ℤ) (x y : List ℤ) → IsZiv p → HasSevenLists p → difference p v x y ≡ (pos 0 -ℤ pos 0) +ℤ (p.from.constant -ℤ p.to.constant)
constant p v x y z n =
    along (pos 0) (pos 0) p.from.constant p.to.constant (over_loops p.from.loops x) (over_loops p.to.loops y) (over_symbols p.from.syms v) (over_symbols p.to.syms v)
    (over_none p.from.loops x (λ k b. first_zero p z k (omega (arith, n.from_loops)))) (over_none p.to.loops y (λ k b. second_zero p z k (omega (arith, n.to_loops)))) (z.cancels v)

pub equal_constants : (p : Pairing) (d : Dirs) (x y : List ℤ) → IsZiv p → HasSevenLists p → IsPairOf p d x y → p.from.constant ≡ p.to.constant
equal_constants p d x y z n r =
    let e = r.equal z.known in
    let f = sym (constant p e.0 x y z n) ∙ e.1 in
    omega (arith, linear)

-- nothing is asked
both_zero : (a b : ℤ) → a ≡ pos 0 → b ≡ pos 0 → (is_zero a && is_zero b) ≡ true
both_zero a b e f = rw (e, f) refl

anyhow : (as' bs : List ℤ) (ds : List Dir) (x y : List ℤ) → ((k : ℕ) → k < length x → get_or as' k (pos 0) ≡ pos 0) → ((k : ℕ) → k < length x → get_or bs k (pos 0) ≡ pos 0)
    → length as' ≡ length x → length bs ≡ length x → AreRelated (dirs_that_matter as' bs ds) x y
anyhow [] [] [] [] y f g e h = tt
anyhow [] [] (d ∷ ds) [] y f g e h = tt
anyhow [] bs ds (i ∷ x) y f g e h = absurd (omega arith)
anyhow [] (b ∷ bs) ds [] y f g e h = absurd (omega arith)
anyhow (a ∷ as') bs ds [] y f g e h = absurd (omega arith)
anyhow (a ∷ as') [] ds (i ∷ x) y f g e h = absurd (omega arith)
anyhow (a ∷ as') (b ∷ bs) [] (i ∷ x) y f g e h = tt
anyhow (a ∷ as') (b ∷ bs) (d ∷ ds) (i ∷ x) [] f g e h = tt
anyhow (a ∷ as') (b ∷ bs) (d ∷ ds) (i ∷ x) (j ∷ y) f g e h = (
  subst (λ (t : Bool). IsRelated (cond t Any d) i j) (sym (both_zero a b (f 0 (omega arith)) (g 0 (omega arith)))) tt,
  anyhow as' bs ds x y (λ k l. f (suc k) (omega arith)) (λ k l. g (suc k) (omega arith)) (omega arith) (omega arith),
)

module _ (p : Pairing) (d : Dirs) (z : IsZiv p) (n : HasSevenLists p) where
  from_long : length (cut p).from_spans ≡ 7
  from_long = mattering_length p.common p.from.loops p.to.loops p.from_spans (omega (arith, n.from_loops, n.from_spans)) (omega (arith, n.to_loops, n.from_spans)) ∙ n.from_spans

  to_long : length (cut p).to_spans ≡ 7
  to_long = mattering_length p.common p.to.loops p.from.loops p.to_spans (omega (arith, n.to_loops, n.to_spans)) (omega (arith, n.from_loops, n.to_spans)) ∙ n.to_spans

  from_once : (k : ℕ) → k < 7 → get_or (cut p).from_spans k once ≡ once
  from_once k b =
      mattering_once p.common p.from.loops p.to.loops p.from_spans k (omega (arith, n.from_loops, n.from_spans)) (omega (arith, n.to_loops, n.from_spans)) (omega (arith, n.from_spans))
      (first_zero p z k b) (λ c. second_zero p z k b)

  to_once : (k : ℕ) → k < 7 → get_or (cut p).to_spans k once ≡ once
  to_once k b =
      mattering_once p.common p.to.loops p.from.loops p.to_spans k (omega (arith, n.to_loops, n.to_spans)) (omega (arith, n.from_loops, n.to_spans)) (omega (arith, n.to_spans))
      (second_zero p z k b) (λ c. first_zero p z k b)

  pub ones_least : p.from.constant ≡ p.to.constant → IsLeastPair p d ones ones
  ones_least e = record {
    pair = record {
      region = record {
        from_within = ones_within (cut p).from_spans from_long from_once;
        to_within = ones_within (cut p).to_spans to_long to_once;
        related = anyhow p.from.loops p.to.loops d.at ones ones (λ k b. first_zero p z k (omega arith)) (λ k b. second_zero p z k (omega arith)) (omega (arith, n.from_loops)) (omega (arith, n.to_loops));
      };
      equal = λ k. ((λ s. pos 0), constant p (λ s. pos 0) ones ones z n ∙ omega (arith, linear));
    };
    least = λ x y r.
        let ex : x ≡ ones = ones_from x (same_length (cut p).from_spans x r.region.from_within ∙ from_long) (λ k b. once_at (cut p).from_spans x k from_long r.region.from_within b (from_once k b)) in
        let ey : y ≡ ones = ones_from y (same_length (cut p).to_spans y r.region.to_within ∙ to_long) (λ k b. once_at (cut p).to_spans y k to_long r.region.to_within b (to_once k b)) in
        subst (λ (t : List ℤ). IsNoLater (ones ++ ones) (t ++ y)) (sym ex) (subst (λ (t : List ℤ). IsNoLater (ones ++ ones) (ones ++ t)) (sym ey) (itself_no_later (ones ++ ones)));
  }
