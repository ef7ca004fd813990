-- A number that is new comes to the path, as a block of its own.
use Rattle.std.proofs.Common.{◌≡◌, ◌↔◌, refl, sym, ap, ◌∙◌, subst, ◌⊎◌, inl, inr, ℕ, ◌+◌, ◌-◌, ◌<◌, ◌≤◌, List, [], ◌∷◌, ◌++◌, length, set, arith, get_or-set_same, get_or-set_other}
use Rattle.std.proofs.lemmas.Bool.{cases_eq, cases_lt}
use Rattle.std.proofs.lemmas.List.{get_or_append_left, get_or-append_right, get_or-append-add, get_or_push, length_push, length-set, length-append}
use Rattle.components.specs.Lists.{IsMember}
use Rattle.components.specs.Reachability.{Reaches}
use Rattle.components.proofs.ListLaws.{In-append, In-left, In-right, Pairwise-append}
use Rattle.components.proofs.Walks.{Reaches-itself}
use Rattle.components.specs.declared.walk.NodeState.{NodeState}
use Rattle.components.specs.declared.walk.NodeState.TheVariants.{New, At, Done}
use Rattle.components.specs.Labels.{at}
use Rattle.components.specs.Walking.{mark, Between, IsMet, IsWalk}
use Rattle.components.proofs.Lists.{In-at, at-In}
use Rattle.components.proofs.Weights.{new_at, new_done, at_done, at_same}

-- where the path is empty, any number may be looked at next
pub anywhere : (n : ℕ) (pairs : List (ℕ × ℕ)) (marks : List NodeState) (work : List ℕ) (starts : List (ℕ × ℕ)) (count v : ℕ)
    → IsWalk n pairs [] marks [] work starts count → IsWalk n pairs (v ∷ []) marks [] work starts count
anywhere n pairs marks work starts count v w = record {
  size = w.size;
  placed = w.placed;
  on_path = w.on_path;
  numbered = w.numbered;
  met = w.met;
  together = w.together;
  closed = w.closed;
  onward = w.onward;
  joined = w.joined;
  rising = w.rising;
  inside = w.inside;
  first = w.first;
  sources = w.sources;
  gone = λ i x h p. absurd (omega arith);
  ahead = λ i x h p. absurd (omega arith);
}

module _ (n : ℕ) (pairs : List (ℕ × ℕ)) (marks : List NodeState) (path work : List ℕ) (v : ℕ) (starts : List (ℕ × ℕ)) (count : ℕ) (targets : List ℕ)
    (w : IsWalk n pairs (v ∷ []) marks path work starts count) (is : mark marks v ≡ New) (below : v < n)
    (are : (b : ℕ) → (IsMember b targets → IsMember (v, b) pairs) × (IsMember (v, b) pairs → IsMember b targets)) where
  abbrev p : ℕ
  p = length path

  abbrev new : List NodeState
  new = set marks v (At p)

  abbrev path' : List ℕ
  path' = path ++ v ∷ []

  abbrev work' : List ℕ
  work' = work ++ targets

  abbrev starts' : List (ℕ × ℕ)
  starts' = starts ++ (length path, length work) ∷ []

  size_path : length path' ≡ p + 1
  size_path = length_push path v

  size_work : length work' ≡ length work + length targets
  size_work = length-append work targets

  at_path : (i : ℕ) → i < p → at path' i ≡ at path i
  at_path i h = get_or_append_left path (v ∷ []) 0 i h

  at_end : at path' p ≡ v
  at_end = get_or_push path v 0 p refl

  at_work : (k : ℕ) → k < length work → at work' k ≡ at work k
  at_work k h = get_or_append_left work targets 0 k h

  -- marks
  here : mark new v ≡ At p
  here = get_or-set_same marks v (At p) New (subst (λ z. v < z) (sym w.size) below)

  other : (u : ℕ) → (u ≡ v → ⊥) → mark new u ≡ mark marks u
  other u d = get_or-set_other marks v u (At p) New d

  done_kept : (u d : ℕ) → mark marks u ≡ Done d → mark new u ≡ Done d
  done_kept u d e = other u (λ f. new_done d (sym is ∙ (ap (mark marks) (sym f) ∙ e))) ∙ e

  done_back : (u d : ℕ) → mark new u ≡ Done d → mark marks u ≡ Done d
  done_back u d e = by (cases_eq u v)
    where
      by : (u ≡ v) ⊎ (u ≡ v → ⊥) → mark marks u ≡ Done d
      by (inl f) = absurd (at_done p d (sym here ∙ (ap (mark new) (sym f) ∙ e)))
      by (inr f) = sym (other u f) ∙ e

  at_kept : (i : ℕ) → i < p → mark new (at path i) ≡ At i
  at_kept i h = other (at path i) (λ f. new_at i (sym is ∙ (ap (mark marks) (sym f) ∙ w.placed i h))) ∙ w.placed i h

  -- a place of the new path
  place : (i : ℕ) → i < length path' → (i < p) ⊎ (i ≡ p)
  place i h = by (cases_lt i p)
    where
      by : (i < p) ⊎ (p ≤ i) → (i < p) ⊎ (i ≡ p)
      by (inl l) = inl l
      by (inr l) = inr (let k : i < p + 1 = subst (λ z. i < z) size_path h in omega arith)

  grown : (i : ℕ) → i < p → i < length path'
  grown i h = subst (λ z. i < z) (sym size_path) (omega arith)

  ended : p < length path'
  ended = subst (λ z. p < z) (sym size_path) (omega arith)

  new_start : IsMember (length path, length work) starts'
  new_start = In-right (length path, length work) starts ((length path, length work) ∷ []) (inl refl)

  old_start : (b : ℕ × ℕ) → IsMember b starts → IsMember b starts'
  old_start b i = In-left b starts ((length path, length work) ∷ []) i

  start : (b : ℕ × ℕ) → IsMember b starts' → IsMember b starts ⊎ ((b.0 ≡ p) × (b.1 ≡ length work))
  start b i = by (In-append b starts ((length path, length work) ∷ []) i)
    where
      by : IsMember b starts ⊎ IsMember b ((length path, length work) ∷ []) → IsMember b starts ⊎ ((b.0 ≡ p) × (b.1 ≡ length work))
      by (inl j) = inl j
      by (inr (inl e)) = inr (ap (λ q. q.0) e, ap (λ q. q.1) e)
      by (inr (inr j)) = absurd j

  between_old : (j i : ℕ) → i < p → Between starts' j i → Between starts j i
  between_old j i h (b, k, l, m) = by (start b k)
    where
      by : IsMember b starts ⊎ ((b.0 ≡ p) × (b.1 ≡ length work)) → Between starts j i
      by (inl q) = (b, q, l, m)
      by (inr q) = absurd (let z = q.0 in omega arith)

  between_new : (j i : ℕ) → Between starts j i → Between starts' j i
  between_new j i (b, k, l, m) = (b, old_start b k, l, m)

  none_from_end : (i : ℕ) → i ≤ p → Between starts' p i → ⊥
  none_from_end i h b = let y = b.2 in let z = b.3 in omega arith

  pub entered_walk : IsWalk n pairs [] new path' work' starts' count
  entered_walk = record {
    size = length-set marks v (At p) ∙ w.size;
    placed = placed;
    on_path = on_path;
    numbered = λ u d e. w.numbered u d (done_back u d e);
    met = λ d h. let k = w.met d h in (k.0, done_kept k.0 d k.1);
    together = λ a b d e f. w.together a b d (done_back a d e) (done_back b d f);
    closed = λ a b d q e. let k = w.closed a b d q (done_back a d e) in (k.0, done_kept b k.0 k.1, k.2);
    onward = onward;
    joined = joined;
    rising = Pairwise-append (λ b c. b.0 < c.0) starts ((length path, length work) ∷ []) w.rising (tt, tt) rises;
    inside = inside;
    first = first;
    sources = sources;
    gone = gone;
    ahead = λ i x h j. absurd j;
  }
    where
      placed : (i : ℕ) → i < length path' → mark new (at path' i) ≡ At i
      placed i h = by (place i h)
        where
          by : (i < p) ⊎ (i ≡ p) → mark new (at path' i) ≡ At i
          by (inl l) = ap (mark new) (at_path i l) ∙ at_kept i l
          by (inr e) = ap (mark new) (ap (at path') e ∙ at_end) ∙ (here ∙ ap At (sym e))

      on_path : (u i : ℕ) → mark new u ≡ At i → (i < length path') × (at path' i ≡ u)
      on_path u i e = by (cases_eq u v)
        where
          by : (u ≡ v) ⊎ (u ≡ v → ⊥) → (i < length path') × (at path' i ≡ u)
          by (inl f) =
              let g : p ≡ i = at_same p i (sym here ∙ (ap (mark new) (sym f) ∙ e)) in
              (subst (λ z. z < length path') g ended, ap (at path') (sym g) ∙ (at_end ∙ sym f))
          by (inr f) = let k = w.on_path u i (sym (other u f) ∙ e) in (grown i k.0, at_path i k.0 ∙ k.1)

      onward : (i j : ℕ) → i ≤ j → j < length path' → Reaches pairs (at path' i) (at path' j)
      onward i j h k = by (place j k) (cases_lt i p)
        where
          by : (j < p) ⊎ (j ≡ p) → (i < p) ⊎ (p ≤ i) → Reaches pairs (at path' i) (at path' j)
          by (inl l) m =
              subst (λ z. Reaches pairs z (at path' j)) (sym (at_path i (omega arith)))
              (subst (Reaches pairs (at path i)) (sym (at_path j l)) (w.onward i j h l))
          by (inr e) (inl m) =
              subst (λ z. Reaches pairs z (at path' j)) (sym (at_path i m))
              (subst (Reaches pairs (at path i)) (sym (ap (at path') e ∙ at_end)) (w.ahead i v m (inl refl)))
          by (inr e) (inr m) = subst (λ z. Reaches pairs (at path' i) (at path' z)) (let q : i ≡ j = omega arith in q) (Reaches-itself pairs (at path' i))

      joined : (i j : ℕ) → i ≤ j → j < length path' → (Between starts' i j → ⊥) → Reaches pairs (at path' j) (at path' i)
      joined i j h k none = by (place j k) (cases_lt i p)
        where
          by : (j < p) ⊎ (j ≡ p) → (i < p) ⊎ (p ≤ i) → Reaches pairs (at path' j) (at path' i)
          by (inl l) m =
              subst (λ z. Reaches pairs z (at path' i)) (sym (at_path j l))
              (subst (Reaches pairs (at path j)) (sym (at_path i (omega arith))) (w.joined i j h l (λ b. none (between_new i j b))))
          by (inr e) (inl m) = absurd (none ((length path, length work), new_start, m, let z = e in omega arith))
          by (inr e) (inr m) = subst (λ z. Reaches pairs (at path' j) (at path' z)) (let q : j ≡ i = omega arith in q) (Reaches-itself pairs (at path' j))

      rises : (b c : ℕ × ℕ) → IsMember b starts → IsMember c ((length path, length work) ∷ []) → b.0 < c.0
      rises b c i (inl e) = subst (λ z. b.0 < z) (sym (ap (λ q. q.0) e)) (w.inside b i).0
      rises b c i (inr j) = absurd j

      inside : (b : ℕ × ℕ) → IsMember b starts' → (b.0 < length path') × (b.1 ≤ length work')
      inside b i = by (start b i)
        where
          by : IsMember b starts ⊎ ((b.0 ≡ p) × (b.1 ≡ length work)) → (b.0 < length path') × (b.1 ≤ length work')
          by (inl j) = let k = w.inside b j in (grown b.0 k.0, subst (λ z. b.1 ≤ z) (sym size_work) (let l = k.1 in omega arith))
          by (inr e) = (subst (λ z. z < length path') (sym e.0) ended, subst (λ z. b.1 ≤ z) (sym size_work) (let l = e.1 in omega arith))

      first : 0 < length path' → (t : ℕ) × IsMember (0, t) starts'
      first h = by (cases_lt 0 p)
        where
          by : (0 < p) ⊎ (p ≤ 0) → (t : ℕ) × IsMember (0, t) starts'
          by (inl l) = let k = w.first l in (k.0, old_start (0, k.0) k.1)
          by (inr l) = (length work, subst (λ z. IsMember (z, length work) starts') (let q : p ≡ 0 = omega arith in q) new_start)

      sources : (k : ℕ) → k < length work'
          → (i : ℕ) × (i < length path') × IsMember (at path' i, at work' k) pairs × ((b : ℕ × ℕ) → IsMember b starts' → (b.1 ≤ k) ↔ (b.0 ≤ i))
      sources k h = by (cases_lt k (length work))
        where
          by : (k < length work) ⊎ (length work ≤ k)
              → (i : ℕ) × (i < length path') × IsMember (at path' i, at work' k) pairs × ((b : ℕ × ℕ) → IsMember b starts' → (b.1 ≤ k) ↔ (b.0 ≤ i))
          by (inl l) = of (w.sources k l)
            where
              of : (i : ℕ) × (i < length path) × IsMember (at path i, at work k) pairs × ((b : ℕ × ℕ) → IsMember b starts → (b.1 ≤ k) ↔ (b.0 ≤ i))
                  → (i : ℕ) × (i < length path') × IsMember (at path' i, at work' k) pairs × ((b : ℕ × ℕ) → IsMember b starts' → (b.1 ≤ k) ↔ (b.0 ≤ i))
              of (i, m, q, o) = (
                i,
                grown i m,
                subst (λ z. IsMember (z, at work' k) pairs) (sym (at_path i m)) (subst (λ z. IsMember (at path i, z) pairs) (sym (at_work k l)) q),
                λ b j. on b (start b j),
              )
                where
                  on : (b : ℕ × ℕ) → IsMember b starts ⊎ ((b.0 ≡ p) × (b.1 ≡ length work)) → (b.1 ≤ k) ↔ (b.0 ≤ i)
                  on b (inl j) = o b j
                  on b (inr e) = (λ f. absurd (let z = e.1 in omega arith), λ f. absurd (let z = e.0 in omega arith))
          by (inr l) = (
            p,
            ended,
            subst (λ z. IsMember (z, at work' k) pairs) (sym at_end)
                ((are (at work' k)).0 (subst (λ z. IsMember z targets) (sym (get_or-append_right work targets (length work) k 0 refl l))
                (In-at targets (k - length work) (let z : k < length work + length targets = subst (λ y. k < y) size_work h in omega arith)))),
            λ b j. on b (start b j),
          )
            where
              on : (b : ℕ × ℕ) → IsMember b starts ⊎ ((b.0 ≡ p) × (b.1 ≡ length work)) → (b.1 ≤ k) ↔ (b.0 ≤ p)
              on b (inl j) = let m = w.inside b j in (λ f. (let z = m.0 in omega arith), λ f. (let z = m.1 in omega arith))
              on b (inr e) = (λ f. (let z = e.0 in omega arith), λ f. (let z = e.1 in omega arith))

      gone : (i x : ℕ) → i < length path' → IsMember (at path' i, x) pairs → IsMet new path' work' starts' i x ⊎ IsMember x []
      gone i x h q = by (place i h)
        where
          by : (i < p) ⊎ (i ≡ p) → IsMet new path' work' starts' i x ⊎ IsMember x []
          by (inl l) = on (w.gone i x l (subst (λ z. IsMember (z, x) pairs) (at_path i l) q))
            where
              on : IsMet marks path work starts i x ⊎ IsMember x (v ∷ []) → IsMet new path' work' starts' i x ⊎ IsMember x []
              on (inl (inl (d, k))) = inl (inl (d, done_kept x d k))
              on (inl (inr (inl (j, k, m, o)))) = inl (inr (inl (j, grown j k, at_path j k ∙ m, λ b. o (between_old j i l b))))
              on (inl (inr (inr (k, m, o, r)))) = inl (inr (inr (k, subst (λ z. k < z) (sym size_work) (omega arith), at_work k m ∙ o, λ b j. later b (start b j))))
                where
                  later : (b : ℕ × ℕ) → IsMember b starts ⊎ ((b.0 ≡ p) × (b.1 ≡ length work)) → b.0 ≤ i → b.1 ≤ k
                  later b (inl j) f = r b j f
                  later b (inr e) f = absurd (let z = e.0 in omega arith)
              on (inr (inl e)) = inl (inr (inl (p, ended, at_end ∙ sym e, none_from_end i (omega arith))))
              on (inr (inr j)) = absurd j
          by (inr e) =
              let k = at-In targets x ((are x).1 (subst (λ z. IsMember (z, x) pairs) (ap (at path') e ∙ at_end) q)) in
              inl (inr (inr (
                length work + k.0,
                subst (λ z. length work + k.0 < z) (sym size_work) (let l = k.1 in omega arith),
                get_or-append-add work targets k.0 0 ∙ k.2,
                λ b j. later k.0 b (start b j),
              )))
            where
              later : (k : ℕ) (b : ℕ × ℕ) → IsMember b starts ⊎ ((b.0 ≡ p) × (b.1 ≡ length work)) → b.0 ≤ i → b.1 ≤ length work + k
              later k b (inl j) f = let m = (w.inside b j).1 in omega arith
              later k b (inr g) f = let m = g.1 in omega arith
