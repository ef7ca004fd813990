-- Marks and their weights.
use Rattle.std.proofs.Common.{◌≡◌, refl, ◌⊎◌, inl, inr, ℕ, zero, suc, ◌+◌, ◌<◌, ◌≤◌, List, [], ◌∷◌, length, set, arith}
use Rattle.components.specs.declared.walk.NodeState.{NodeState}
use Rattle.components.specs.declared.walk.NodeState.TheVariants.{New, At, Done}
use Rattle.components.specs.Walking.{mark, weight}

pub new_at : (i : ℕ) → ◌≡◌ {A = NodeState} New (At i) → ⊥
new_at i e = cc

pub new_done : (c : ℕ) → ◌≡◌ {A = NodeState} New (Done c) → ⊥
new_done c e = cc

pub at_done : (i c : ℕ) → ◌≡◌ {A = NodeState} (At i) (Done c) → ⊥
at_done i c e = cc

pub at_same : (i j : ℕ) → ◌≡◌ {A = NodeState} (At i) (At j) → i ≡ j
at_same i j e = cc

pub done_same : (c d : ℕ) → ◌≡◌ {A = NodeState} (Done c) (Done d) → c ≡ d
done_same c d e = cc

pub which : (m : NodeState) → (m ≡ New) ⊎ (((i : ℕ) × (m ≡ At i)) ⊎ ((c : ℕ) × (m ≡ Done c)))
which New = inl refl
which (At i) = inr (inl (i, refl))
which (Done c) = inr (inr (c, refl))

-- what is marked stands in the list
pub listed : (marks : List NodeState) (v : ℕ) → (mark marks v ≡ New → ⊥) → v < length marks
listed [] v d = absurd (d refl)
listed (m ∷ marks) zero d = omega arith
listed (m ∷ marks) (suc v) d = let h : v < length marks = listed marks v d in omega arith

pub weight_set : (f : ℕ → ℕ) (marks : List NodeState) (v : ℕ) (m : NodeState) → v < length marks → mark marks v ≡ New → (m ≡ New → ⊥)
    → weight f (set marks v m) + f v ≡ weight f marks
weight_set f [] v m l e d = absurd (omega arith)
weight_set f (New ∷ marks) zero New l e d = absurd (d refl)
weight_set f (New ∷ marks) zero (At i) l e d = omega arith
weight_set f (New ∷ marks) zero (Done c) l e d = omega arith
weight_set f (At i ∷ marks) zero m l e d = absurd (let g : At i ≡ New = e in cc)
weight_set f (Done c ∷ marks) zero m l e d = absurd (let g : Done c ≡ New = e in cc)
weight_set f (New ∷ marks) (suc v) m l e d = let h = weight_set (λ v. f (suc v)) marks v m (omega arith) e d in omega arith
weight_set f (At i ∷ marks) (suc v) m l e d = weight_set (λ v. f (suc v)) marks v m (omega arith) e d
weight_set f (Done c ∷ marks) (suc v) m l e d = weight_set (λ v. f (suc v)) marks v m (omega arith) e d

pub weight_less : (f : ℕ → ℕ) (marks : List NodeState) (v c : ℕ) → weight f (set marks v (Done c)) ≤ weight f marks
weight_less f [] v c = omega arith
weight_less f (New ∷ marks) zero c = omega arith
weight_less f (At i ∷ marks) zero c = omega arith
weight_less f (Done d ∷ marks) zero c = omega arith
weight_less f (New ∷ marks) (suc v) c = let h = weight_less (λ v. f (suc v)) marks v c in omega arith
weight_less f (At i ∷ marks) (suc v) c = weight_less (λ v. f (suc v)) marks v c
weight_less f (Done d ∷ marks) (suc v) c = weight_less (λ v. f (suc v)) marks v c
