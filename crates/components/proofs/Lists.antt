-- Places of lists.
use Rattle.std.proofs.Common.{◌≡◌, refl, sym, subst, inl, inr, ℕ, zero, suc, ◌<◌, List, [], ◌∷◌, ◌++◌, length, arith}
use Rattle.components.specs.Lists.{IsMember, Pairwise}
use Rattle.components.specs.Labels.{at}

pub In-at : (xs : List ℕ) (k : ℕ) → k < length xs → IsMember (at xs k) xs
In-at [] k h = absurd (omega arith)
In-at (x ∷ xs) zero h = inl refl
In-at (x ∷ xs) (suc k) h = inr (In-at xs k (omega arith))

pub at-In : (xs : List ℕ) (x : ℕ) → IsMember x xs → (k : ℕ) × (k < length xs) × (at xs k ≡ x)
at-In [] x i = absurd i
at-In (y ∷ xs) x (inl e) = (0, omega arith, sym e)
at-In (y ∷ xs) x (inr i) = let h = at-In xs x i in (suc h.0, let g : h.0 < length xs = h.1 in omega arith, h.2)

-- the last start of those that rise is the greatest
pub last_most : (starts : List (ℕ × ℕ)) (last : ℕ × ℕ) → Pairwise (λ b c. b.0 < c.0) (starts ++ last ∷ []) → (b : ℕ × ℕ) → IsMember b starts → b.0 < last.0
last_most [] last r b i = absurd i
last_most (s ∷ starts) last r b (inl e) = subst (λ z. z.0 < last.0) (sym e) (front starts r.0)
  where
    front : (starts : List (ℕ × ℕ)) → Rattle.components.specs.Lists.Each (λ c. s.0 < c.0) (starts ++ last ∷ []) → s.0 < last.0
    front [] h = h.0
    front (t ∷ starts) h = front starts h.1
last_most (s ∷ starts) last r b (inr i) = last_most starts last r.1 b i

pub rising_front : (starts more : List (ℕ × ℕ)) → Pairwise (λ b c. b.0 < c.0) (starts ++ more) → Pairwise (λ b c. b.0 < c.0) starts
rising_front [] more r = tt
rising_front (s ∷ starts) more r = (front starts r.0, rising_front starts more r.1)
  where
    front : (starts : List (ℕ × ℕ)) → Rattle.components.specs.Lists.Each (λ c. s.0 < c.0) (starts ++ more) → Rattle.components.specs.Lists.Each (λ c. s.0 < c.0) starts
    front [] h = tt
    front (t ∷ starts) h = (h.0, front starts h.1)
