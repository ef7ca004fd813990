-- Whether arcs ask for one instance before another can be found out.
use Rattle.std.proofs.Common.{◌≡◌, refl, ap, subst, ◌⊎◌, inl, inr, ℕ, zero, suc, ◌<◌, List, [], ◌∷◌, arith}
use Rattle.nest_order.specs.orders.Graphs.{Any, Arc, Greater, Just, Less, Same, Sign}
use Rattle.nest_order.specs.orders.Lists.{In}
use Rattle.nest_order.specs.orders.Shapes.{Instance}
use Rattle.interchange_laws.specs.orders.Vectors.{AreSigned, DependsByArc, DependsByArcs, IsSigned}

abbrev pub Decided : Type 0 → Type 0
Decided A = A ⊎ (¬ A)

both : {A B : Type 0} → Decided A → Decided B → Decided (A × B)
both (inl a) (inl b) = inl (a, b)
both (inl a) (inr n) = inr (λ h. n h.1)
both (inr n) b = inr (λ h. n h.0)

pub same : (i j : ℕ) → Decided (i ≡ j)
same zero zero = inl refl
same zero (suc j) = inr (λ e. omega arith)
same (suc i) zero = inr (λ e. omega arith)
same (suc i) (suc j) = by (same i j)
  where
    by : Decided (i ≡ j) → Decided (suc i ≡ suc j)
    by (inl e) = inl (ap suc e)
    by (inr n) = inr (λ e. n (omega arith))

less : (i j : ℕ) → Decided (i < j)
less i zero = inr (λ e. omega arith)
less zero (suc j) = inl (omega arith)
less (suc i) (suc j) = by (less i j)
  where
    by : Decided (i < j) → Decided (suc i < suc j)
    by (inl e) = inl (omega arith)
    by (inr n) = inr (λ e. n (omega arith))

signed : (d : Sign) (i j : ℕ) → Decided (IsSigned d i j)
signed (Just Less) i j = less i j
signed (Just Same) i j = same i j
signed (Just Greater) i j = less j i
signed Any i j = inl tt

are_signed : (ds : List Sign) (is js : List ℕ) → Decided (AreSigned ds is js)
are_signed [] is js = inl tt
are_signed (d ∷ ds) [] js = inr (λ h. h)
are_signed (d ∷ ds) (i ∷ is) [] = inr (λ h. h)
are_signed (d ∷ ds) (i ∷ is) (j ∷ js) = both (signed d i j) (are_signed ds is js)

module _ (x y : Instance) where
  by_arc : (a : Arc) → Decided (DependsByArc a x y)
  by_arc a = three (same a.from.statement x.statement) (same a.to.statement y.statement) (are_signed a.signs x.iterations y.iterations)
    where
      three : {A B C : Type 0} → Decided A → Decided B → Decided C → Decided (A × B × C)
      three (inl a) (inl b) (inl c) = inl (a, b, c)
      three (inl a) (inl b) (inr n) = inr (λ h. n h.2)
      three (inl a) (inr n) c = inr (λ h. n h.1)
      three (inr n) b c = inr (λ h. n h.0)

  pub depends_or_not : (arcs : List Arc) → Decided (DependsByArcs arcs x y)
  depends_or_not [] = inr (λ h. absurd h.1)
  depends_or_not (a ∷ arcs) = by (by_arc a) (depends_or_not arcs)
    where
      by : Decided (DependsByArc a x y) → Decided (DependsByArcs arcs x y) → Decided (DependsByArcs (a ∷ arcs) x y)
      by (inl h) b = inl (a, inl refl, h)
      by (inr n) (inl h) = inl (h.0, inr h.1, h.2)
      by (inr n) (inr m) = inr (λ h. none h.0 h.1 h.2)
        where
          none : (f : Arc) → (f ≡ a) ⊎ In f arcs → DependsByArc f x y → ⊥
          none f (inl g) h = n (subst (λ z. DependsByArc z x y) g h)
          none f (inr i) h = m (f, i, h)
