-- Points that come to a list.
use Rattle.std.proofs.Common.{◌≡◌, ◌⊎◌, inl, inr, refl, sym, ap, subst, ◌∙◌, ℕ, suc, ◌-◌, ◌*◌, ◌/◌, ◌≤◌, ◌<◌, pos, ◌+ℤ◌, List, [], ◌∷◌, ◌++◌, arith}
use Rattle.std.specs.Prelude.{◌↔◌}
use Rattle.std.proofs.lemmas.Int.{ints}
use Rattle.components.specs.Lists.{IsMember}
use Rattle.subscripts.specs.declared.affine.Affine.{Affine}
use Rattle.index_split.specs.Gathered.{Adds}
use Rattle.index_split.specs.Points.{GivesPoint, IsCrossingPoint, IsPoint, IsWithin, IsZeroPoint, MeetsAfter, front}
use Rattle.index_split.specs.declared.points.Sides.{Sides}
use Rattle.index_split.proofs.Multiples.{same_times}

in_front : (x : ℕ) (xs ys : List ℕ) → IsMember x xs → IsMember x (xs ++ ys)
in_front x [] ys h = absurd h
in_front x (z ∷ xs) ys (inl e) = inl e
in_front x (z ∷ xs) ys (inr i) = inr (in_front x xs ys i)

in_last : (x : ℕ) (xs : List ℕ) → IsMember x (xs ++ x ∷ [])
in_last x [] = inl refl
in_last x (z ∷ xs) = inr (in_last x xs)

either_push : (x y : ℕ) (xs : List ℕ) → IsMember x (xs ++ y ∷ []) → IsMember x xs ⊎ (x ≡ y)
either_push x y [] (inl e) = inr e
either_push x y [] (inr i) = absurd i
either_push x y (z ∷ xs) (inl e) = inl (inl e)
either_push x y (z ∷ xs) (inr i) = elim (either_push x y xs i) [ inl j ↦ inl (inr j) | inr e ↦ inr e ]

module _ (old mid new : List ℕ) (P Q R : ℕ → Type 0) where
  pub adds_same : ((x : ℕ) → P x ↔ Q x) → Adds P old new → Adds Q old new
  adds_same h a x = (
    λ i. elim ((a x).0 i) [ inl o ↦ inl o | inr p ↦ inr ((h x).0 p) ],
    λ e. (a x).1 (elim e [ inl o ↦ inl o | inr q ↦ inr ((h x).1 q) ]),
  )

  pub adds_none : ((x : ℕ) → P x → ⊥) → Adds P old old
  adds_none h x = (λ i. inl i, λ e. elim e [ inl i ↦ i | inr p ↦ absurd (h x p) ])

  pub adds_then : Adds P old mid → Adds Q mid new → ((x : ℕ) → (P x ⊎ Q x) ↔ R x) → Adds R old new
  adds_then a b h x = (
    λ i. elim ((b x).0 i) [ inl m ↦ elim ((a x).0 m) [ inl o ↦ inl o | inr p ↦ inr ((h x).0 (inl p)) ] | inr q ↦ inr ((h x).0 (inr q)) ],
    λ e. elim e [
      | inl o ↦ (b x).1 (inl ((a x).1 (inl o)))
      | inr r ↦ elim ((h x).1 r) [ inl p ↦ (b x).1 (inl ((a x).1 (inr p))) | inr q ↦ (b x).1 (inr q) ]
    ],
  )

pub adds_push : (t y : ℕ) (old new : List ℕ) → 1 ≤ y → y < t → new ≡ old ++ y ∷ [] → Adds (IsWithin t (λ x. x ≡ y)) old new
adds_push t y old new low high e x = (
  λ i. elim (either_push x y old (subst (λ (ys : List ℕ). IsMember x ys) e i)) [ inl o ↦ inl o | inr q ↦ inr (within q) ],
  λ h. subst (λ (ys : List ℕ). IsMember x ys) (sym e) (elim h [ inl o ↦ in_front x old (y ∷ []) o | inr w ↦ there w.holds ]),
)
  where
    within : x ≡ y → IsWithin t (λ x. x ≡ y) x
    within q = record { holds = q; from = omega (arith, q, low); to = omega (arith, q, high) }

    there : x ≡ y → IsMember x (old ++ y ∷ [])
    there q = subst (λ (z : ℕ). IsMember x (old ++ z ∷ [])) q (in_last x old)

-- ---- of one pair

module _ (t n m : ℕ) (a b : Affine) (old mid new : List ℕ) (some : front a ≡ pos 0 → ⊥) (meets : MeetsAfter a b n) where
  same : (k : ℕ) → MeetsAfter a b k → k ≡ n
  same k h = same_times k n _ (front a) some h meets

  pub zero_added : front b ≡ pos 0 → n ≤ t → m ≡ n - 1 → Adds (IsWithin t (λ x. x ≡ m)) old mid → Adds (IsWithin t (λ x. x ≡ n)) mid new
      → Adds (IsWithin t (IsZeroPoint t a b)) old new
  zero_added without most e h k = adds_then old mid new _ _ _ h k (λ x. (there x, back x))
    where
      there : (x : ℕ) → IsWithin t (λ x. x ≡ m) x ⊎ IsWithin t (λ x. x ≡ n) x → IsWithin t (IsZeroPoint t a b) x
      there x (inl w) =
          let q = w.holds in let l = w.from in
          let s : suc x ≡ n = omega (arith, q, e, l) in
          record { holds = record { without = without; at = n; meets = meets; from = omega (arith, s); to = most; is = inr s }; from = w.from; to = w.to }
      there x (inr w) =
          let q = w.holds in let l = w.from in
          record { holds = record { without = without; at = n; meets = meets; from = omega (arith, q, l); to = most; is = inl q }; from = w.from; to = w.to }

      back : (x : ℕ) → IsWithin t (IsZeroPoint t a b) x → IsWithin t (λ x. x ≡ m) x ⊎ IsWithin t (λ x. x ≡ n) x
      back x w = by w.holds.is
        where
          here : w.holds.at ≡ n
          here = same w.holds.at w.holds.meets

          by : (x ≡ w.holds.at) ⊎ (suc x ≡ w.holds.at) → IsWithin t (λ x. x ≡ m) x ⊎ IsWithin t (λ x. x ≡ n) x
          by (inl q) = inr (record { holds = q ∙ here; from = w.from; to = w.to })
          by (inr q) = inl (record { holds = omega (arith, q, here, e); from = w.from; to = w.to })

  pub crossing_added : front a +ℤ front b ≡ pos 0 → n ≤ 2 * t → m ≡ n / 2 → Adds (IsWithin t (λ x. x ≡ m)) old new
      → Adds (IsWithin t (IsCrossingPoint t a b)) old new
  crossing_added opposite most e h = adds_same old old new _ _ (IsWithin t (λ x. x ≡ m)) (λ x. (there x, back x)) h
    where
      there : (x : ℕ) → IsWithin t (λ x. x ≡ m) x → IsWithin t (IsCrossingPoint t a b) x
      there x w =
          let q = w.holds in let l = w.from in
          record { holds = record { opposite = opposite; sum = n; meets = meets; from = omega (arith, q, e, l); to = most; is = q ∙ e }; from = w.from; to = w.to }

      back : (x : ℕ) → IsWithin t (IsCrossingPoint t a b) x → IsWithin t (λ x. x ≡ m) x
      back x w = record { holds = w.holds.is ∙ ap (λ (k : ℕ). k / 2) (same w.holds.sum w.holds.meets) ∙ sym e; from = w.from; to = w.to }

-- ---- of a pair by its class

module _ (t : ℕ) (s : Sides) (old new : List ℕ) (symbols : s.first.syms ≡ s.second.syms) where
  gives : (x : ℕ) → IsPoint t s x → 1 ≤ x → x < t → GivesPoint t s x
  gives x p low high = record { symbols = symbols; point = record { holds = p; from = low; to = high } }

  pub pair_zero : (front s.first ≡ pos 0 → ⊥) → front s.second ≡ pos 0 → Adds (IsWithin t (IsZeroPoint t s.first s.second)) old new
      → Adds (GivesPoint t s) old new
  pair_zero some none h = adds_same old old new _ _ (GivesPoint t s) (λ x. (λ w. gives x (inl w.holds) w.from w.to, λ g. back x g g.point.holds)) h
    where
      back : (x : ℕ) → GivesPoint t s x → IsPoint t s x → IsWithin t (IsZeroPoint t s.first s.second) x
      back x g (inl p) = record { holds = p; from = g.point.from; to = g.point.to }
      back x g (inr (inl p)) = absurd (some p.without)
      back x g (inr (inr p)) = let o = p.opposite in absurd (some (omega (arith, ints, none, o)))

  pub pair_other : front s.first ≡ pos 0 → (front s.second ≡ pos 0 → ⊥) → Adds (IsWithin t (IsZeroPoint t s.second s.first)) old new
      → Adds (GivesPoint t s) old new
  pair_other none some h = adds_same old old new _ _ (GivesPoint t s) (λ x. (λ w. gives x (inr (inl w.holds)) w.from w.to, λ g. back x g g.point.holds)) h
    where
      back : (x : ℕ) → GivesPoint t s x → IsPoint t s x → IsWithin t (IsZeroPoint t s.second s.first) x
      back x g (inl p) = absurd (some p.without)
      back x g (inr (inl p)) = record { holds = p; from = g.point.from; to = g.point.to }
      back x g (inr (inr p)) = let o = p.opposite in absurd (some (omega (arith, ints, none, o)))

  pub pair_crossing : (front s.first ≡ pos 0 → ⊥) → (front s.second ≡ pos 0 → ⊥) → Adds (IsWithin t (IsCrossingPoint t s.first s.second)) old new
      → Adds (GivesPoint t s) old new
  pair_crossing some more h = adds_same old old new _ _ (GivesPoint t s) (λ x. (λ w. gives x (inr (inr w.holds)) w.from w.to, λ g. back x g g.point.holds)) h
    where
      back : (x : ℕ) → GivesPoint t s x → IsPoint t s x → IsWithin t (IsCrossingPoint t s.first s.second) x
      back x g (inl p) = absurd (more p.without)
      back x g (inr (inl p)) = absurd (some p.without)
      back x g (inr (inr p)) = record { holds = p; from = g.point.from; to = g.point.to }

-- a pair without a class that gives points
pub pair_general : (t : ℕ) (s : Sides) (old : List ℕ) → (front s.first ≡ pos 0 → ⊥) → (front s.second ≡ pos 0 → ⊥) → (front s.first +ℤ front s.second ≡ pos 0 → ⊥)
    → Adds (GivesPoint t s) old old
pair_general t s old some more apart = adds_none old old old (GivesPoint t s) (GivesPoint t s) (GivesPoint t s) (λ x g. no x g.point.holds)
  where
    no : (x : ℕ) → IsPoint t s x → ⊥
    no x (inl p) = more p.without
    no x (inr (inl p)) = some p.without
    no x (inr (inr p)) = apart p.opposite
