-- The component at a level lies within that of the level before by itself.
use Rattle.std.proofs.Common.{◌≡◌, refl, sym, subst, ℕ, zero, suc, Bool, true, List, [], ◌∷◌}
use Rattle.closed_walks.specs.FlatComponents.{IsJoined, IsFlatWalk, IsWith, NestedIsFlat, ReachesFlat}

module _ (leads : ℕ → ℕ → ℕ → Bool) (outer : (k s r : ℕ) → leads (suc k) s r ≡ true → leads k s r ≡ true) where
  abbrev Free : ℕ → Type 0
  Free q = Unit {0}

  free : (k : ℕ) (Has : ℕ → Type 0) (s : ℕ) (qs : List ℕ) (r : ℕ) → IsFlatWalk leads k Has s qs r → IsFlatWalk leads k (λ q. Unit {0}) s qs r
  free k Has s [] r h = h
  free k Has s (q ∷ qs) r h = (h.0, tt, free k Has q qs r h.2)

  lowered : (k s : ℕ) (qs : List ℕ) (r : ℕ) → IsFlatWalk leads (suc k) (λ q. Unit {0}) s qs r → IsFlatWalk leads k (λ q. Unit {0}) s qs r
  lowered k s [] r h = h
  lowered k s (q ∷ qs) r h = (outer k s q h.0, tt, lowered k q qs r h.2)

  joined : (k s : ℕ) (qs : List ℕ) (q : ℕ) (rs : List ℕ) (r : ℕ) → IsFlatWalk leads k (λ q. Unit {0}) s qs q → IsFlatWalk leads k (λ q. Unit {0}) q rs r → ReachesFlat leads k (λ q. Unit {0}) s r
  joined k s [] q rs r h g = (rs, subst (λ z. IsFlatWalk leads k (λ q. Unit {0}) z rs r) (sym h) g)
  joined k s (p ∷ qs) q rs r h g = let m = joined k p qs q rs r h.2 g in (p ∷ m.0, (h.0, tt, m.1))

  -- each statement of a walk has the property, where those that are joined to s have it
  filled : (k : ℕ) (Has : ℕ → Type 0) (s : ℕ) → ((q : ℕ) → IsJoined leads k s q → Has q) → (a : ℕ) (qs : List ℕ) (r : ℕ)
      → IsFlatWalk leads k (λ q. Unit {0}) a qs r → ReachesFlat leads k (λ q. Unit {0}) s a → ReachesFlat leads k (λ q. Unit {0}) r s → IsFlatWalk leads k Has a qs r
  filled k Has s has a [] r h to back = h
  filled k Has s has a (q ∷ qs) r h to back =
      let here = joined k s to.0 a (q ∷ []) q to.1 (h.0, tt, refl) in
      let there = joined k q qs r back.0 s h.2 back.1 in
      (h.0, has q (here, there), filled k Has s has q qs r h.2 here back)

  flat : (k s r : ℕ) → IsWith leads (suc k) s r → IsJoined leads (suc k) s r
  flat k s r h = ((h.0.0, free (suc k) (IsWith leads k s) s h.0.0 r h.0.1), (h.1.0, free (suc k) (IsWith leads k s) r h.1.0 s h.1.1))

  nested : (k s r : ℕ) → IsJoined leads k s r → IsWith leads k s r
  nested zero s r h = tt
  nested (suc k) s r h =
      let has : (q : ℕ) → IsJoined leads (suc k) s q → IsWith leads k s q = λ q j. nested k s q ((j.0.0, lowered k s j.0.0 q j.0.1), (j.1.0, lowered k q j.1.0 s j.1.1)) in (
        (h.0.0, filled (suc k) (IsWith leads k s) s has s h.0.0 r h.0.1 ([], refl) h.1),
        (h.1.0, filled (suc k) (IsWith leads k s) s has r h.1.0 s h.1.1 h.0 ([], refl)),
      )

pub nested_is_flat : NestedIsFlat
nested_is_flat leads outer k s r = (flat leads outer k s r, nested leads outer (suc k) s r)
