-- Whether an edge asks for one instance before another can be found out.
use Rattle.std.proofs.Common.{◌≡◌, refl, ap, subst, ◌⊎◌, inl, inr, ℕ, zero, suc, ◌<◌, List, [], ◌∷◌, arith}
use Rattle.nest_order.specs.orders.Lists.{In}
use Rattle.nest_order.specs.orders.Nests.{Level, Carried, Independent, Edge, DependsAt, DependsBy, Depends}
use Rattle.nest_order.specs.orders.Shapes.{Instance, LessAt, SameUpTo}

abbrev Decided : Type 0 → Type 0
Decided A = A ⊎ (¬ A)

both : {A B : Type 0} → Decided A → Decided B → Decided (A × B)
both (inl a) (inl b) = inl (a, b)
both (inl a) (inr n) = inr (λ h. n h.1)
both (inr n) b = inr (λ h. n h.0)

same : (i j : ℕ) → Decided (i ≡ j)
same zero zero = inl refl
same zero (suc j) = inr (λ e. omega arith)
same (suc i) zero = inr (λ e. omega arith)
same (suc i) (suc j) = by (same i j)
  where
    by : Decided (i ≡ j) → Decided (suc i ≡ suc j)
    by (inl e) = inl (ap suc e)
    by (inr n) = inr (λ e. n (omega arith))

less : (i j : ℕ) → Decided (i < j)
less i zero = inr (λ e. omega arith)
less zero (suc j) = inl (omega arith)
less (suc i) (suc j) = by (less i j)
  where
    by : Decided (i < j) → Decided (suc i < suc j)
    by (inl e) = inl (omega arith)
    by (inr n) = inr (λ e. n (omega arith))

less_after : (m : ℕ) (is js : List ℕ) → Decided (LessAt m is js)
less_after zero [] js = inr (λ h. h)
less_after zero (i ∷ is) [] = inr (λ h. h)
less_after zero (i ∷ is) (j ∷ js) = less i j
less_after (suc m) [] js = inr (λ h. h)
less_after (suc m) (i ∷ is) [] = inr (λ h. h)
less_after (suc m) (i ∷ is) (j ∷ js) = both (same i j) (less_after m is js)

same_first : (c : ℕ) (is js : List ℕ) → Decided (SameUpTo c is js)
same_first zero is js = inl tt
same_first (suc c) [] js = inr (λ h. h)
same_first (suc c) (i ∷ is) [] = inr (λ h. h)
same_first (suc c) (i ∷ is) (j ∷ js) = both (same i j) (same_first c is js)

module _ (common : ℕ → ℕ → ℕ) (x y : Instance) where
  at_level : (level : Level) → Decided (DependsAt common level x y)
  at_level (Carried m) = less_after m x.iterations y.iterations
  at_level Independent = same_first (common x.statement y.statement) x.iterations y.iterations

  by_edge : (e : Edge) → Decided (DependsBy common e x y)
  by_edge e = three (same e.from x.statement) (same e.to y.statement) (at_level e.level)
    where
      three : {A B C : Type 0} → Decided A → Decided B → Decided C → Decided (A × B × C)
      three (inl a) (inl b) (inl c) = inl (a, b, c)
      three (inl a) (inl b) (inr n) = inr (λ h. n h.2)
      three (inl a) (inr n) c = inr (λ h. n h.1)
      three (inr n) b c = inr (λ h. n h.0)

  pub depends_or_not : (edges : List Edge) → Decided (Depends common edges x y)
  depends_or_not [] = inr (λ h. absurd h.1)
  depends_or_not (e ∷ edges) = by (by_edge e) (depends_or_not edges)
    where
      by : Decided (DependsBy common e x y) → Decided (Depends common edges x y) → Decided (Depends common (e ∷ edges) x y)
      by (inl h) b = inl (e, inl refl, h)
      by (inr n) (inl h) = inl (h.0, inr h.1, h.2)
      by (inr n) (inr m) = inr (λ h. none h.0 h.1 h.2)
        where
          none : (f : Edge) → (f ≡ e) ⊎ In f edges → DependsBy common f x y → ⊥
          none f (inl g) h = n (subst (λ z. DependsBy common z x y) g h)
          none f (inr i) h = m (f, i, h)
