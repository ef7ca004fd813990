-- Walks one after the other.
use Rattle.std.proofs.Common.{refl, sym, subst, ℕ, List, [], ◌∷◌, ◌++◌}
use Rattle.components.specs.Lists.{IsMember}
use Rattle.components.specs.Reachability.{Walk, Reaches}

module _ (pairs : List (ℕ × ℕ)) where
  Walk-append : (xs ys : List ℕ) (a b c : ℕ) → Walk pairs a xs b → Walk pairs b ys c → Walk pairs a (xs ++ ys) c
  Walk-append [] ys a b c h k = subst (λ z. Walk pairs z ys c) (sym h) k
  Walk-append (q ∷ xs) ys a b c h k = (h.0, Walk-append xs ys q b c h.1 k)

  pub Reaches-itself : (a : ℕ) → Reaches pairs a a
  Reaches-itself a = ([], refl)

  pub Reaches-pair : (a b : ℕ) → IsMember (a, b) pairs → Reaches pairs a b
  Reaches-pair a b i = (b ∷ [], (i, refl))

  pub Reaches-trans : (a b c : ℕ) → Reaches pairs a b → Reaches pairs b c → Reaches pairs a c
  Reaches-trans a b c h k = (h.0 ++ k.0, Walk-append h.0 k.0 a b c h.1 k.1)

  -- where each pair is one of the others too
  pub Reaches-others : (others : List (ℕ × ℕ)) → ((p : ℕ × ℕ) → IsMember p pairs → IsMember p others) → (a b : ℕ) → Reaches pairs a b → Reaches others a b
  Reaches-others others among a b h = (h.0, along h.0 a h.1)
    where
      along : (over : List ℕ) (a : ℕ) → Walk pairs a over b → Walk others a over b
      along [] a h = h
      along (q ∷ over) a h = (among (a, q) h.0, along over q h.1)
