-- The numbers that values are, and what is gathered of them, one at a time.
use Rattle.std.proofs.Common.{◌≡◌, refl, sym, ap, ◌∙◌, ℕ, ℤ, ◌+◌, ◌<◌, ◌≤◌, List, [], ◌∷◌, drop, length, get_or, Result, Ok, Err}
use Rattle.std.specs.List.{fold}
use Rattle.std.proofs.lemmas.List.{at_drop_more, at_drop_all}
use Rattle.tree.specs.Steps.{◌>>=◌}
use Rattle.tree.specs.Operators.{as_number, as_numbers, reduced}
use Rattle.tree.specs.Gathered.{added, gathered, whole}
use Rattle.tree.specs.declared.gathered.Gathered.{Gathered}
use Rattle.tree.specs.declared.gathered.Gathered.TheVariants.{Nothing}
use Rattle.tree.specs.declared.functions.Red.{Red}
use Rattle.tree.specs.declared.ops.Value.{Value}
use Rattle.tree.specs.declared.ops.Fault.{Fault}
use Rattle.meaning.specs.ArrayValues.{each}
use Rattle.array_values.specs.Arrays.{reduced_values}

pub numbers_each : (vs : List Value) → as_numbers vs ≡ each as_number vs
numbers_each [] = refl
numbers_each (v ∷ vs) = ap (λ (r : Result (List ℤ) Fault). do z ← as_number v; zs ← r; Ok (z ∷ zs)) (numbers_each vs)

-- where some numbers were gathered and these are left
unfoldable pub left_to_reduce : ℕ → Red → Gathered → List Value → Result Value Fault
left_to_reduce bits r g vs = do
  zs ← as_numbers vs
  whole bits r (fold (added r) g zs)

module _ (bits : ℕ) (r : Red) where
  pub reduce_begun : ((zs : List ℤ) → whole bits r (gathered r zs) ≡ reduced bits r zs) → (vs : List Value) → reduced_values bits r vs ≡ left_to_reduce bits r Nothing vs
  unfolding left_to_reduce
  reduce_begun law vs = by (as_numbers vs)
    where
      by : (q : Result (List ℤ) Fault) → ◌≡◌ {A = Result Value Fault} (do zs ← q; reduced bits r zs) (do zs ← q; whole bits r (fold (added r) Nothing zs))
      by (Ok zs) = sym (law zs)
      by (Err e) = refl

  module _ (q : Result Value Fault) (g : Gathered) (vs : List Value) (i : ℕ) (so_far : q ≡ left_to_reduce bits r g (drop i vs)) where
    pub reduce_fault : (d : Value) (e : Fault) → i < length vs → as_number (get_or vs i d) ≡ Err e → q ≡ Err e
    unfolding left_to_reduce
    reduce_fault d e l k = so_far ∙ at_drop_more (left_to_reduce bits r g) vs i d l
        ∙ ap (λ (p : Result ℤ Fault). do zs ← (do z ← p; zs ← as_numbers (drop (i + 1) vs); Ok (z ∷ zs)); whole bits r (fold (added r) g zs)) k

    pub reduce_more : (d : Value) (z : ℤ) → i < length vs → as_number (get_or vs i d) ≡ Ok z → q ≡ left_to_reduce bits r (added r g z) (drop (i + 1) vs)
    unfolding left_to_reduce
    reduce_more d z l k = so_far ∙ at_drop_more (left_to_reduce bits r g) vs i d l
        ∙ ap (λ (p : Result ℤ Fault). do zs ← (do z ← p; zs ← as_numbers (drop (i + 1) vs); Ok (z ∷ zs)); whole bits r (fold (added r) g zs)) k
        ∙ by (as_numbers (drop (i + 1) vs))
      where
        by : (p : Result (List ℤ) Fault) → ◌≡◌ {A = Result Value Fault} (do zs ← (do zs ← p; Ok (z ∷ zs)); whole bits r (fold (added r) g zs)) (do zs ← p; whole bits r (fold (added r) (added r g z) zs))
        by (Ok zs) = refl
        by (Err e) = refl

    pub reduce_done : length vs ≤ i → q ≡ whole bits r g
    unfolding left_to_reduce
    reduce_done l = so_far ∙ at_drop_all (left_to_reduce bits r g) vs i l
