-- One more pair.
use Rattle.std.proofs.Common.{◌≡◌, refl, sym, ap, ◌∙◌, subst, ◌⊎◌, inl, inr, ℕ, zero, suc, ◌+◌, ◌<◌, nat_eq, if◌then◌else◌, length, set, replicate, List, [], ◌∷◌, ◌++◌, get_or-set_same, get_or-set_other}
use Rattle.std.proofs.lemmas.Bool.{cases_eq}
use Rattle.std.proofs.lemmas.List.{length-set, length-replicate}
use Rattle.components.specs.Counts.{tally}
use Rattle.components.specs.Lists.{IsMember}
use Rattle.components.proofs.Counting.{tally_blank, tally_push, times_to-push}
use Rattle.components.proofs.ListLaws.{In-append, In-left, In-right}
use Rattle.components.specs.Targets.{AreTargets, row}

pub none_at : (n a : ℕ) → row (replicate n []) a ≡ []
none_at zero a = refl
none_at (suc n) zero = refl
none_at (suc n) (suc a) = none_at n a

pub no_targets : (n : ℕ) → AreTargets n [] (replicate n [])
no_targets n = record {
  count = length-replicate n [];
  each = λ a b. (λ i. subst (IsMember b) (none_at n a) i, λ i. absurd i);
  often = λ b. tally_blank n b;
}

module _ (n : ℕ) (pairs : List (ℕ × ℕ)) (rows new : List (List ℕ)) (from to : ℕ) (below : from < n) (are : AreTargets n pairs rows)
    (is : new ≡ set rows from (row rows from ++ to ∷ [])) where
  here : row new from ≡ row rows from ++ to ∷ []
  here = ap (λ z. row z from) is ∙ get_or-set_same rows from (row rows from ++ to ∷ []) [] (subst (λ z. from < z) (sym are.count) below)

  other : (a : ℕ) → (a ≡ from → ⊥) → row new a ≡ row rows a
  other a d = ap (λ z. row z a) is ∙ get_or-set_other rows from a (row rows from ++ to ∷ []) [] d

  pub one_target_more : AreTargets n (pairs ++ (from, to) ∷ []) new
  one_target_more = record {
    count = ap length is ∙ (length-set rows from (row rows from ++ to ∷ []) ∙ are.count);
    each = λ a b. (λ i. has a b (cases_eq a from) i, λ i. back a b (In-append (a, b) pairs ((from, to) ∷ []) i));
    often = λ b.
        ap (tally [] b) is ∙ (tally_push rows from to b (subst (λ z. from < z) (sym are.count) below)
        ∙ (ap (λ z. z + (if nat_eq to b then 1 else 0)) (are.often b) ∙ sym (times_to-push b pairs (from, to))));
  }
    where
      has : (a b : ℕ) → (a ≡ from) ⊎ (a ≡ from → ⊥) → IsMember b (row new a) → IsMember (a, b) (pairs ++ (from, to) ∷ [])
      has a b (inl e) i = by (In-append b (row rows from) (to ∷ []) (subst (IsMember b) (ap (row new) e ∙ here) i))
        where
          by : IsMember b (row rows from) ⊎ IsMember b (to ∷ []) → IsMember (a, b) (pairs ++ (from, to) ∷ [])
          by (inl j) = In-left (a, b) pairs ((from, to) ∷ []) (subst (λ z. IsMember (z, b) pairs) (sym e) ((are.each from b).0 j))
          by (inr (inl f)) = In-right (a, b) pairs ((from, to) ∷ []) (inl (cc))
          by (inr (inr f)) = absurd f
      has a b (inr d) i = In-left (a, b) pairs ((from, to) ∷ []) ((are.each a b).0 (subst (IsMember b) (other a d) i))

      back : (a b : ℕ) → IsMember (a, b) pairs ⊎ IsMember {X = ℕ × ℕ} (a, b) ((from, to) ∷ []) → IsMember b (row new a)
      back a b (inl i) = by (cases_eq a from) ((are.each a b).1 i)
        where
          by : (a ≡ from) ⊎ (a ≡ from → ⊥) → IsMember b (row rows a) → IsMember b (row new a)
          by (inl e) j = subst (IsMember b) (sym (ap (row new) e ∙ here)) (In-left b (row rows from) (to ∷ []) (subst (λ z. IsMember b (row rows z)) e j))
          by (inr d) j = subst (IsMember b) (sym (other a d)) j
      back a b (inr (inl e)) = subst (IsMember b) (sym (ap (row new) (ap (λ p. p.0) e) ∙ here)) (In-right b (row rows from) (to ∷ []) (inl (ap (λ p. p.1) e)))
      back a b (inr (inr e)) = absurd e
