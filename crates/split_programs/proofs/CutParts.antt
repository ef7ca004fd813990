-- The pieces of a loop that is cut behind its points lie between them.
use Rattle.std.proofs.Common.{◌≡◌, ◌⊎◌, refl, inl, inr, ℕ, suc, ◌+◌, ◌≤◌, ◌<◌, List, [], ◌∷◌, ◌++◌, arith}
use Rattle.std.specs.List.{AllPairs}
use Rattle.std.proofs.lemmas.List.Kept.{AllPairs-from_increasing}
use Rattle.components.specs.Lists.{IsMember}
use Rattle.split_laws.proofs.CutPairs.{never_meet}
use Rattle.split_laws.specs.Points.{IsPiece}
use Rattle.split_programs.proofs.Cuts.{behind_first, within_points}
use Rattle.split_programs.specs.Parts.{IsPieceOf, PiecesPartPairs}

module _ (all : List ℕ) (t from to : ℕ) where
  -- from behind one point to the next one, or to the last turn
  between : (before end : ℕ) → from ≡ before + 1 → to ≡ end → end ≤ t → ((p : ℕ) → IsMember p all → (p ≤ before) ⊎ (end ≤ p)) → IsPiece all t from to
  between before end e f most sides = record {
    first = omega (arith, e);
    last = omega (arith, f, most);
    uncut = λ p i a b. apart p a b (sides p i);
  }
    where
      apart : (p : ℕ) → from ≤ p → p < to → (p ≤ before) ⊎ (end ≤ p) → ⊥
      apart p a b (inl h) = omega (arith, a, e, h)
      apart p a b (inr h) = omega (arith, b, f, h)

  -- each point stands before the turns that are left, or ends one of the pieces that are left
  piece_is : (before : ℕ) (rest : List ℕ) → ((p : ℕ) → IsMember p all → (p ≤ before) ⊎ IsMember p rest) → AllPairs (λ x y. x < y) rest → ((p : ℕ) → IsMember p rest → before < p)
      → ((p : ℕ) → IsMember p rest → p < t) → IsPieceOf before (rest ++ t ∷ []) from to → IsPiece all t from to
  piece_is before [] sides rise low high (inl h) = between before t h.0 h.1 (omega arith) (λ p i. here p (sides p i))
    where
      here : (p : ℕ) → (p ≤ before) ⊎ ⊥ → (p ≤ before) ⊎ (t ≤ p)
      here p (inl g) = inl g
      here p (inr g) = absurd g
  piece_is before [] sides rise low high (inr h) = absurd h
  piece_is before (x ∷ xs) sides rise low high (inl h) = between before x h.0 h.1 (let less = high x (inl refl) in omega (arith, less)) (λ p i. here p (sides p i))
    where
      here : (p : ℕ) → (p ≤ before) ⊎ ((p ≡ x) ⊎ IsMember p xs) → (p ≤ before) ⊎ (x ≤ p)
      here p (inl g) = inl g
      here p (inr (inl e)) = inr (omega (arith, e))
      here p (inr (inr i)) = let less = behind_first x xs (λ k m. rise 0 (suc k) 0 (omega arith) (omega (arith, m))) p i in inr (omega (arith, less))
  piece_is before (x ∷ xs) sides rise low high (inr h) =
      piece_is x xs (λ p i. here p (sides p i)) (λ i j d a b. rise (suc i) (suc j) d (omega (arith, a)) (omega (arith, b)))
      (behind_first x xs (λ k m. rise 0 (suc k) 0 (omega arith) (omega (arith, m)))) (λ p i. high p (inr i)) h
    where
      here : (p : ℕ) → (p ≤ before) ⊎ ((p ≡ x) ⊎ IsMember p xs) → (p ≤ x) ⊎ IsMember p xs
      here p (inl g) = let less = low x (inl refl) in inl (omega (arith, g, less))
      here p (inr (inl e)) = inl (omega (arith, e))
      here p (inr (inr i)) = inr i

pub pieces_part_pairs : PiecesPartPairs
pieces_part_pairs n points t x from to first second cut considered i j gave piece =
    never_meet n points t x from to first second cut considered i j gave
    (piece_is points t from to 0 points (λ p i. inr i) (AllPairs-from_increasing points cut.rising)
    (λ p k. let w = (within_points n points t cut considered p k).0 in omega (arith, w)) (λ p k. (within_points n points t cut considered p k).1) piece)
