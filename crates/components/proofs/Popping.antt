-- What is to be looked at is taken up.
use Rattle.std.proofs.Common.{◌≡◌, ◌↔◌, refl, sym, ap, ◌∙◌, subst, ◌⊎◌, inl, inr, ℕ, ◌+◌, ◌<◌, ◌≤◌, List, [], ◌∷◌, ◌++◌, length, arith}
use Rattle.std.proofs.lemmas.Bool.{cases_eq, cases_lt}
use Rattle.std.proofs.lemmas.List.{get_or_append_left, get_or_push, length_push}
use Rattle.components.specs.Lists.{IsMember}
use Rattle.components.specs.Reachability.{Reaches}
use Rattle.components.proofs.ListLaws.{In-append, In-right}
use Rattle.components.proofs.Walks.{Reaches-pair, Reaches-trans}
use Rattle.components.specs.declared.walk.NodeState.{NodeState}
use Rattle.components.specs.Labels.{at}
use Rattle.components.specs.Walking.{IsMet, IsWalk}
use Rattle.components.proofs.Lists.{last_most}

module _ (n : ℕ) (pairs : List (ℕ × ℕ)) (marks : List NodeState) (path work : List ℕ) (v : ℕ) (starts : List (ℕ × ℕ)) (s t count : ℕ)
    (w : IsWalk n pairs [] marks path (work ++ v ∷ []) (starts ++ (s, t) ∷ []) count) (more : t ≤ length work) where
  abbrev all : List (ℕ × ℕ)
  all = starts ++ (s, t) ∷ []

  size_work : length (work ++ v ∷ []) ≡ length work + 1
  size_work = length_push work v

  at_work : (k : ℕ) → k < length work → at (work ++ v ∷ []) k ≡ at work k
  at_work k h = get_or_append_left work (v ∷ []) 0 k h

  at_last : at (work ++ v ∷ []) (length work) ≡ v
  at_last = get_or_push work v 0 (length work) refl

  abbrev Source : ℕ → ℕ → Type 0
  Source k x = (i : ℕ) × (i < length path) × IsMember (at path i, x) pairs × ((b : ℕ × ℕ) → IsMember b all → (b.1 ≤ k) ↔ (b.0 ≤ i))

  source : Source (length work) v
  source = let h = w.sources (length work) (subst (λ z. length work < z) (sym size_work) (omega arith)) in
      (h.0, h.1, subst (λ z. IsMember (at path h.0, z) pairs) at_last h.2, h.3)

  most : (b : ℕ × ℕ) → IsMember b all → b.0 ≤ s
  most b i = by (In-append b starts ((s, t) ∷ []) i)
    where
      by : IsMember b starts ⊎ IsMember b ((s, t) ∷ []) → b.0 ≤ s
      by (inl j) = let h = last_most starts (s, t) w.rising b j in omega arith
      by (inr (inl e)) = let h : b.0 ≡ s = ap (λ p. p.0) e in omega arith
      by (inr (inr j)) = absurd j

  s_source : s ≤ source.0
  s_source = (source.3 (s, t) (In-right (s, t) starts ((s, t) ∷ []) (inl refl))).0 more

  reaches : (i : ℕ) → i < length path → Reaches pairs (at path i) v
  reaches i h = Reaches-trans pairs (at path i) (at path source.0) v (by (cases_lt i source.0)) (Reaches-pair pairs (at path source.0) v source.2)
    where
      by : (i < source.0) ⊎ (source.0 ≤ i) → Reaches pairs (at path i) (at path source.0)
      by (inl l) = w.onward i source.0 (omega arith) source.1
      by (inr l) = w.joined source.0 i l h (λ b. let z = most b.0 b.1 in let y = b.2 in let x = s_source in omega arith)

  pub popped : IsWalk n pairs (v ∷ []) marks path work all count
  popped = record {
    size = w.size;
    placed = w.placed;
    on_path = w.on_path;
    numbered = w.numbered;
    met = w.met;
    together = w.together;
    closed = w.closed;
    onward = w.onward;
    joined = w.joined;
    rising = w.rising;
    inside = λ b i. ((w.inside b i).0, (source.3 b i).1 (let h = most b i in let k = s_source in omega arith));
    first = w.first;
    sources = λ k h. let g = w.sources k (subst (λ z. k < z) (sym size_work) (omega arith)) in
        (g.0, g.1, subst (λ z. IsMember (at path g.0, z) pairs) (at_work k h) g.2, g.3);
    gone = gone;
    ahead = ahead;
  }
    where
      gone : (i x : ℕ) → i < length path → IsMember (at path i, x) pairs → IsMet marks path work all i x ⊎ IsMember x (v ∷ [])
      gone i x h p = on (w.gone i x h p)
        where
          on : IsMet marks path (work ++ v ∷ []) all i x ⊎ IsMember x [] → IsMet marks path work all i x ⊎ IsMember x (v ∷ [])
          on (inl (inl d)) = inl (inl d)
          on (inl (inr (inl j))) = inl (inr (inl j))
          on (inl (inr (inr (k, l, m, o)))) = by (cases_eq k (length work))
            where
              by : (k ≡ length work) ⊎ (k ≡ length work → ⊥) → IsMet marks path work all i x ⊎ IsMember x (v ∷ [])
              by (inl e) = inr (inl (sym m ∙ (ap (at (work ++ v ∷ [])) e ∙ at_last)))
              by (inr d) =
                  let q : k < length work = (let z : k < length work + 1 = subst (λ y. k < y) size_work l in omega arith) in
                  inl (inr (inr (k, q, sym (at_work k q) ∙ m, o)))
          on (inr j) = absurd j

      ahead : (i x : ℕ) → i < length path → IsMember x (v ∷ []) → Reaches pairs (at path i) x
      ahead i x h (inl e) = subst (Reaches pairs (at path i)) (sym e) (reaches i h)
      ahead i x h (inr j) = absurd j
