-- The extents of arguments that conform.
use Rattle.std.proofs.Common.{◌≡◌, refl, sym, ap, ◌∙◌, ℕ, ◌+◌, ◌<◌, List, [], ◌∷◌, map, drop, length, get_or, Result, Ok, Err}
use Rattle.std.proofs.lemmas.List.{at_drop_more}
use Rattle.tree.specs.declared.ops.Value.{Value}
use Rattle.std.proofs.Common.{false, true≢false}
use Rattle.std.specs.Prelude.{◌==◌}
use Rattle.tree.specs.Steps.{◌>>=◌}
use Rattle.tree.specs.Operators.{apply}
use Rattle.tree.specs.declared.ops.Op.{Op}
use Rattle.tree.specs.declared.ops.Fault.{Fault}
use Rattle.meaning.specs.ArrayValues.{Elements, conform, paired}
use Rattle.array_values.specs.declared.prepared.Prepared.{Prepared}
use Rattle.array_values.specs.Positions.{wider}
use Rattle.array_values.specs.Arrays.{elements_in, extents_together}

together_wide : (n : ℕ) (ns : List ℕ) (gs : List (Elements Value)) → extents_together (n ∷ ns) gs ≡ n ∷ ns
together_wide n ns [] = refl
together_wide n ns (g ∷ gs) = together_wide n ns gs

module _ (whole : List ℕ) (ps : List Prepared) (i : ℕ) (so_far : whole ≡ extents_together [] (map elements_in (drop i ps))) where
  opened : (p : Prepared) → i < length ps → p ≡ get_or ps i p → whole ≡ extents_together (elements_in p).extents (map elements_in (drop (i + 1) ps))
  opened p l h = so_far ∙ at_drop_more (λ qs. extents_together [] (map elements_in qs)) ps i p l
      ∙ ap (λ q. extents_together (elements_in q).extents (map elements_in (drop (i + 1) ps))) (sym h)

  pub extents_found : (p : Prepared) (ns : List ℕ) → i < length ps → p ≡ get_or ps i p → ns ≡ (elements_in p).extents → (ns ≡ [] → ⊥) → ns ≡ whole
  extents_found p [] l h e wide = absurd (wide refl)
  extents_found p (n ∷ ns) l h e wide = sym (opened p l h ∙ ap (λ ms. extents_together ms (map elements_in (drop (i + 1) ps))) (sym e) ∙ together_wide n ns (map elements_in (drop (i + 1) ps)))

  pub extents_passed : (p : Prepared) → i < length ps → p ≡ get_or ps i p → (elements_in p).extents ≡ [] → whole ≡ extents_together [] (map elements_in (drop (i + 1) ps))
  extents_passed p l h e = opened p l h ∙ ap (λ ms. extents_together ms (map elements_in (drop (i + 1) ps))) e

pub nonempty : (ns : List ℕ) → (length ns == 0) ≡ false → ns ≡ [] → ⊥
nonempty ns e h = true≢false (sym (ap (λ ms. length ms == 0) h) ∙ e)

-- two operands that conform
pub paired_is : (o : Op) (g h : Elements Value) → conform g.extents h.extents ≡ Ok (wider g.extents h.extents)
    → paired (apply o) g h ≡ Ok (record { extents = wider g.extents h.extents; at = λ is. (do x ← g.at is; y ← h.at is; apply o x y) })
paired_is o g h e = ap (λ (r : Result (List ℕ) Fault). let q : Result (Elements Value) Fault = (do ns ← r; Ok (record { extents = ns; at = λ is. (do x ← g.at is; y ← h.at is; apply o x y) })) in q) e

pub paired_fault : (o : Op) (g h : Elements Value) (f : Fault) → conform g.extents h.extents ≡ Err f → paired (apply o) g h ≡ Err f
paired_fault o g h f e = ap (λ (r : Result (List ℕ) Fault). let q : Result (Elements Value) Fault = (do ns ← r; Ok (record { extents = ns; at = λ is. (do x ← g.at is; y ← h.at is; apply o x y) })) in q) e
