-- A pair leads back to the path, or to a class.
use Rattle.std.proofs.Common.{◌≡◌, refl, sym, ap, ◌∙◌, subst, ◌⊎◌, inl, inr, ℕ, ◌<◌, ◌≤◌, List, [], ◌∷◌, ◌++◌, length, arith}
use Rattle.std.proofs.lemmas.Bool.{cases_lt}
use Rattle.components.specs.Lists.{IsMember, Pairwise}
use Rattle.components.specs.Reachability.{Reaches}
use Rattle.components.proofs.ListLaws.{In-append}
use Rattle.components.proofs.Walks.{Reaches-trans}
use Rattle.components.specs.declared.walk.NodeState.{NodeState}
use Rattle.components.specs.declared.walk.NodeState.TheVariants.{At, Done}
use Rattle.components.specs.Labels.{at}
use Rattle.components.specs.Walking.{mark, Between, DropsAfter, IsMet, IsWalk}
use Rattle.components.proofs.Lists.{last_most}

module _ (n : ℕ) (pairs : List (ℕ × ℕ)) (marks : List NodeState) (path work : List ℕ) (v : ℕ) (starts new : List (ℕ × ℕ)) (count p : ℕ)
    (w : IsWalk n pairs (v ∷ []) marks path work starts count) (is : mark marks v ≡ At p) (drops : DropsAfter p starts new) where
  here : (p < length path) × (at path p ≡ v)
  here = w.on_path v p is

  pub joined_walk : IsWalk n pairs [] marks path work new count
  joined_walk = record {
    size = w.size;
    placed = w.placed;
    on_path = w.on_path;
    numbered = w.numbered;
    met = w.met;
    together = w.together;
    closed = w.closed;
    onward = w.onward;
    joined = joined;
    rising = drops.rising;
    inside = λ b i. w.inside b (drops.from b i).0;
    first = λ h. let k = w.first h in (k.0, drops.kept (0, k.0) k.1 (omega arith));
    sources = λ k h. let g = w.sources k h in (g.0, g.1, g.2, λ b i. g.3 b (drops.from b i).0);
    gone = gone;
    ahead = λ i x h j. absurd j;
  }
    where
      back : (j : ℕ) → j < length path → Reaches pairs (at path j) (at path p)
      back j h = subst (Reaches pairs (at path j)) (sym here.1) (w.ahead j v h (inl refl))

      joined : (i j : ℕ) → i ≤ j → j < length path → (Between new i j → ⊥) → Reaches pairs (at path j) (at path i)
      joined i j h k none = by (cases_lt i p) (cases_lt j p)
        where
          by : (i < p) ⊎ (p ≤ i) → (j < p) ⊎ (p ≤ j) → Reaches pairs (at path j) (at path i)
          by (inr l) m = Reaches-trans pairs (at path j) (at path p) (at path i) (back j k) (w.onward p i l (omega arith))
          by (inl l) (inl m) = w.joined i j h k (λ b. none (b.0, drops.kept b.0 b.1 (let z = b.3 in omega arith), b.2, b.3))
          by (inl l) (inr m) = Reaches-trans pairs (at path j) (at path p) (at path i) (back j k)
              (w.joined i p (omega arith) here.0 (λ b. none (b.0, drops.kept b.0 b.1 b.3, b.2, let z = b.3 in omega arith)))

      gone : (i x : ℕ) → i < length path → IsMember (at path i, x) pairs → IsMet marks path work new i x ⊎ IsMember x []
      gone i x h q = on (w.gone i x h q)
        where
          on : IsMet marks path work starts i x ⊎ IsMember x (v ∷ []) → IsMet marks path work new i x ⊎ IsMember x []
          on (inl (inl d)) = inl (inl d)
          on (inl (inr (inl (j, k, l, m)))) = inl (inr (inl (j, k, l, λ b. m (b.0, (drops.from b.0 b.1).0, b.2, b.3))))
          on (inl (inr (inr (k, l, m, o)))) = inl (inr (inr (k, l, m, λ b j. o b (drops.from b j).0)))
          on (inr (inl e)) = inl (inr (inl (p, here.0, here.1 ∙ sym e, λ b. let z = (drops.from b.0 b.1).1 in let y = b.2 in omega arith)))
          on (inr (inr j)) = absurd j

module _ (n : ℕ) (pairs : List (ℕ × ℕ)) (marks : List NodeState) (path work : List ℕ) (v : ℕ) (starts : List (ℕ × ℕ)) (count c : ℕ)
    (w : IsWalk n pairs (v ∷ []) marks path work starts count) (is : mark marks v ≡ Done c) where
  pub passed_walk : IsWalk n pairs [] marks path work starts count
  passed_walk = record {
    size = w.size;
    placed = w.placed;
    on_path = w.on_path;
    numbered = w.numbered;
    met = w.met;
    together = w.together;
    closed = w.closed;
    onward = w.onward;
    joined = w.joined;
    rising = w.rising;
    inside = w.inside;
    first = w.first;
    sources = w.sources;
    gone = gone;
    ahead = λ i x h j. absurd j;
  }
    where
      gone : (i x : ℕ) → i < length path → IsMember (at path i, x) pairs → IsMet marks path work starts i x ⊎ IsMember x []
      gone i x h q = on (w.gone i x h q)
        where
          on : IsMet marks path work starts i x ⊎ IsMember x (v ∷ []) → IsMet marks path work starts i x ⊎ IsMember x []
          on (inl m) = inl m
          on (inr (inl e)) = inl (inl (c, ap (mark marks) e ∙ is))
          on (inr (inr j)) = absurd j

-- dropping the last start, where it is behind the place
pub drops_none : (place : ℕ) (starts : List (ℕ × ℕ)) → Pairwise (λ b c. b.0 < c.0) starts → ((b : ℕ × ℕ) → IsMember b starts → b.0 ≤ place) → DropsAfter place starts starts
drops_none place starts r h = record { rising = r; from = λ b i. (i, h b i); kept = λ b i k. i; fewer = omega arith }

pub all_before : (place : ℕ) (starts : List (ℕ × ℕ)) (last : ℕ × ℕ) → Pairwise (λ b c. b.0 < c.0) (starts ++ last ∷ []) → last.0 ≤ place
    → (b : ℕ × ℕ) → IsMember b (starts ++ last ∷ []) → b.0 ≤ place
all_before place starts last r h b i = by (In-append b starts (last ∷ []) i)
  where
    by : IsMember b starts ⊎ IsMember b (last ∷ []) → b.0 ≤ place
    by (inl j) = let k = last_most starts last r b j in omega arith
    by (inr (inl e)) = let k : b.0 ≡ last.0 = ap (λ p. p.0) e in omega arith
    by (inr (inr j)) = absurd j
