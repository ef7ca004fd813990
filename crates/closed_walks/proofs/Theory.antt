-- Distances sweep by sweep, and the walk that they choose.
use Rattle.std.proofs.Common.{◌≡◌, refl, sym, ap, ◌∙◌, subst, ◌⊎◌, inl, inr, ℕ, zero, suc, ◌+◌, ◌<◌, ◌≤◌, Bool, Option, Some, None, List, [], ◌∷◌, length, arith}
use Rattle.components.specs.Lists.{IsMember}
use Rattle.components.specs.Reachability.{Walk}
use Rattle.closed_walks.specs.Distances.{AreChosen, HasNoneBefore, HasWalk, IsDistance, IsNext, IsSweep, at}
use Rattle.closed_walks.specs.Walks.{IsClosedWalk, IsLeastClosedWalk, IsNoLaterWalk}

some_none : {A : Type 0} (x : A) → ◌≡◌ {A = Option A} (Some x) None → ⊥
some_none x e = cc

some_same : {A : Type 0} (x y : A) → ◌≡◌ {A = Option A} (Some x) (Some y) → x ≡ y
some_same x y e = cc

-- known or not
known : (o : Option ℕ) → (o ≡ None) ⊎ ((d : ℕ) × (o ≡ Some d))
known None = inl refl
known (Some d) = inr (d, refl)

order : (a b : ℕ) → a ≤ b → (a ≡ b) ⊎ (a < b)
order zero zero h = inl refl
order zero (suc b) h = inr (omega arith)
order (suc a) zero h = absurd (omega arith)
order (suc a) (suc b) h = by (order a b (omega arith))
  where
    by : (a ≡ b) ⊎ (a < b) → (suc a ≡ suc b) ⊎ (suc a < suc b)
    by (inl e) = inl (ap suc e)
    by (inr l) = inr (omega arith)

module _ (pairs : List (ℕ × ℕ)) (s : ℕ) where
  -- ---- one more sweep

  module _ (k : ℕ) (old new : List (Option ℕ)) (any : Bool) (d : IsDistance pairs s k old) (w : IsSweep pairs k old new any) where
    reached : (v e : ℕ) → at new v ≡ Some e → HasWalk pairs v s e
    reached v e h = by (known (at old v))
      where
        by : (at old v ≡ None) ⊎ ((c : ℕ) × (at old v ≡ Some c)) → HasWalk pairs v s e
        by (inl none) =
            let o = w.only v e none h in
            let r = d.reached o.1.0 k o.1.2 in
            record { over = o.1.0 ∷ r.over; long = ap suc r.long ∙ (let f : e ≡ k + 1 = o.0 in omega arith); walk = (o.1.1, r.walk) }
        by (inr c) = subst (HasWalk pairs v s) (some_same c.0 e (sym (w.kept v c.0 c.1) ∙ h)) (d.reached v c.0 c.1)

    bounded : (v e : ℕ) → at new v ≡ Some e → e ≤ k + 1
    bounded v e h = by (known (at old v))
      where
        by : (at old v ≡ None) ⊎ ((c : ℕ) × (at old v ≡ Some c)) → e ≤ k + 1
        by (inl none) = let f : e ≡ k + 1 = (w.only v e none h).0 in omega arith
        by (inr c) = let f : c.0 ≡ e = some_same c.0 e (sym (w.kept v c.0 c.1) ∙ h) in let g : c.0 ≤ k = d.bounded v c.0 c.1 in omega arith

    least : (v e : ℕ) (over : List ℕ) → at new v ≡ Some e → Walk pairs v over s → e ≤ length over
    least v e over h walk = by (known (at old v))
      where
        by : (at old v ≡ None) ⊎ ((c : ℕ) × (at old v ≡ Some c)) → e ≤ length over
        by (inl none) = let f : e ≡ k + 1 = (w.only v e none h).0 in let g : k < length over = d.beyond v over none walk in omega arith
        by (inr c) = let f : c.0 ≡ e = some_same c.0 e (sym (w.kept v c.0 c.1) ∙ h) in let g : c.0 ≤ length over = d.least v c.0 over c.1 walk in omega arith

    -- what isn't known still leads to nothing of k steps
    still : (v : ℕ) → at new v ≡ None → at old v ≡ None
    still v h = by (known (at old v))
      where
        by : (at old v ≡ None) ⊎ ((c : ℕ) × (at old v ≡ Some c)) → at old v ≡ None
        by (inl none) = none
        by (inr c) = absurd (some_none c.0 (sym (w.kept v c.0 c.1) ∙ h))

    beyond : (v : ℕ) (over : List ℕ) → at new v ≡ None → Walk pairs v over s → k + 1 < length over
    beyond v [] h walk = absurd (let f : k < 0 = d.beyond v [] (still v h) walk in omega arith)
    beyond v (q ∷ over) h walk = by (known (at old q))
      where
        by : (at old q ≡ None) ⊎ ((c : ℕ) × (at old q ≡ Some c)) → k + 1 < suc (length over)
        by (inl none) = let f : k < length over = d.beyond q over none walk.1 in omega arith
        by (inr c) = more (order c.0 k (d.bounded q c.0 c.1))
          where
            more : (c.0 ≡ k) ⊎ (c.0 < k) → k + 1 < suc (length over)
            more (inl e) = absurd (some_none (k + 1) (sym (w.added v (still v h) (q, walk.0, c.1 ∙ ap Some e)) ∙ h))
            more (inr l) =
                let r = d.reached q c.0 c.1 in
                let g : k < suc (length r.over) = d.beyond v (q ∷ r.over) (still v h) (walk.0, r.walk) in
                let f : length r.over ≡ c.0 = r.long in omega arith

    pub swept : IsDistance pairs s (k + 1) new
    swept = record { target = w.kept s 0 d.target; reached = reached; bounded = bounded; least = least; beyond = beyond }

    -- where nothing was added, nothing else leads to s
    pub settled : new ≡ old → (v : ℕ) (over : List ℕ) → at old v ≡ None → Walk pairs v over s → ⊥
    settled same v [] none walk = absurd (some_none 0 (sym d.target ∙ (ap (at old) (sym walk) ∙ none)))
    settled same v (q ∷ over) none walk = by (known (at old q)) (settled same q over)
      where
        by : (at old q ≡ None) ⊎ ((c : ℕ) × (at old q ≡ Some c)) → (at old q ≡ None → Walk pairs q over s → ⊥) → ⊥
        by (inl n) again = again n walk.1
        by (inr c) again = more (order c.0 k (d.bounded q c.0 c.1))
          where
            more : (c.0 ≡ k) ⊎ (c.0 < k) → ⊥
            more (inl e) = some_none (k + 1) (sym (w.added v none (q, walk.0, c.1 ∙ ap Some e)) ∙ (ap (λ z. at z v) same ∙ none))
            more (inr l) =
                let r = d.reached q c.0 c.1 in
                let g : k < suc (length r.over) = d.beyond v (q ∷ r.over) none (walk.0, r.walk) in
                let f : length r.over ≡ c.0 = r.long in omega arith

  -- ---- the walk

  module _ (k : ℕ) (steps : List (Option ℕ)) (d : IsDistance pairs s k steps) where
    at_target : (q : ℕ) → at steps q ≡ Some 0 → q ≡ s
    at_target q h = by (d.reached q 0 h)
      where
        by : HasWalk pairs q s 0 → q ≡ s
        by r = empty r.over r.long r.walk
          where
            empty : (over : List ℕ) → length over ≡ 0 → Walk pairs q over s → q ≡ s
            empty [] e w = w
            empty (x ∷ xs) e w = absurd (omega arith)

    -- none that it leads to has fewer
    abbrev Far : ℕ → ℕ → Type 0
    Far from left = (r c : ℕ) → IsMember (from, r) pairs → at steps r ≡ Some c → left ≤ c

    far : (q left : ℕ) → at steps q ≡ Some (left + 1) → Far q left
    far q left h r c i e =
        let g = d.reached r c e in
        let f : left + 1 ≤ suc (length g.over) = d.least q (left + 1) (r ∷ g.over) h (i, g.walk) in
        let l : length g.over ≡ c = g.long in omega arith

    chosen_walk : (over : List ℕ) (from left : ℕ) → 1 ≤ left → AreChosen pairs steps from left over → Walk pairs from over s
    chosen_walk [] from left one c = absurd (let e : left ≡ 0 = c in omega arith)
    chosen_walk (q ∷ []) from left one c = (c.2.leads, at_target q (c.2.has ∙ ap Some c.3))
    chosen_walk (q ∷ r ∷ over) from left one c =
        let n = c.3.0 in
        let e : c.0 ≡ n + 1 = c.3.1 in
        (c.2.leads, chosen_walk (r ∷ over) q c.0 (omega arith) c.3)

    chosen_length : (over : List ℕ) (from left : ℕ) → AreChosen pairs steps from left over → length over ≡ left
    chosen_length [] from left c = sym c
    chosen_length (q ∷ over) from left c = let e = chosen_length over q c.0 c.3 in let f : left ≡ c.0 + 1 = c.1 in omega arith

    chosen_least : (over : List ℕ) (from left : ℕ) → left ≤ k + 1 → ((n : ℕ) → left ≡ n + 1 → Far from n) → AreChosen pairs steps from left over
        → (others : List ℕ) → length others ≡ left → Walk pairs from others s → IsNoLaterWalk over others
    chosen_least [] from left small is_far c others e w = tt
    chosen_least (q ∷ over) from left small is_far c [] e w = absurd (let f : left ≡ c.0 + 1 = c.1 in let g : 0 ≡ left = e in omega arith)
    chosen_least (q ∷ over) from left small is_far c (r ∷ others) e w =
        let n = c.0 in
        let f : left ≡ n + 1 = c.1 in
        let g : suc (length others) ≡ left = e in
        by n f (known (at steps r)) c.2 (λ h. chosen_least over q n (omega arith) (λ m i. far q m (c.2.has ∙ ap Some i)) c.3 others (omega arith) (subst (λ z. Walk pairs z others s) (sym h) w.1))
      where
        by : (n : ℕ) → left ≡ n + 1 → (at steps r ≡ None) ⊎ ((x : ℕ) × (at steps r ≡ Some x)) → IsNext pairs steps from n q → (q ≡ r → IsNoLaterWalk over others) → (q < r) ⊎ ((q ≡ r) × IsNoLaterWalk over others)
        by n f (inl none) next more = absurd (let h : k < length others = d.beyond r others none w.1 in let g : suc (length others) ≡ left = e in omega arith)
        by n f (inr x) next more =
            let a : x.0 ≤ length others = d.least r x.0 others x.1 w.1 in
            let b : n ≤ x.0 = is_far n f r x.0 w.0 x.1 in
            let g : suc (length others) ≡ left = e in
            let same : x.0 ≡ n = omega arith in
            split (order q r (next.least r w.0 (x.1 ∙ ap Some same)))
          where
            split : (q ≡ r) ⊎ (q < r) → (q < r) ⊎ ((q ≡ r) × IsNoLaterWalk over others)
            split (inl h) = inr (h, more h)
            split (inr h) = inl h

    -- what is chosen from s is the least of its shortest closed walks
    pub chosen : HasNoneBefore pairs steps s k → (over : List ℕ) → AreChosen pairs steps s (k + 1) over → IsLeastClosedWalk pairs s over
    chosen none over c =
        let long : length over ≡ k + 1 = chosen_length over s (k + 1) c in
        record {
          closed = record { some = omega arith; walk = chosen_walk over s (k + 1) (omega arith) c };
          shortest = λ others w. by others w.some w.walk long;
          least = λ others w e. chosen_least over s (k + 1) (omega arith) (λ n f. subst (Far s) (let g : k ≡ n = omega arith in g) none) c others (e ∙ long) w.walk;
        }
      where
        by : (others : List ℕ) → 1 ≤ length others → Walk pairs s others s → length over ≡ k + 1 → length over ≤ length others
        by [] one w long = absurd (omega arith)
        by (q ∷ others) one w long = more (known (at steps q))
          where
            more : (at steps q ≡ None) ⊎ ((c : ℕ) × (at steps q ≡ Some c)) → length over ≤ suc (length others)
            more (inl n) = let f : k < length others = d.beyond q others n w.1 in omega arith
            more (inr c) = let f : c.0 ≤ length others = d.least q c.0 others c.1 w.1 in let g : k ≤ c.0 = none q c.0 w.0 c.1 in omega arith

  -- ---- where there is none

  pub no_walk : (k : ℕ) (old new : List (Option ℕ)) (any : Bool) → IsDistance pairs s k old → IsSweep pairs k old new any → new ≡ old → HasNoneBefore pairs old s (k + 1)
      → (others : List ℕ) → IsClosedWalk pairs s others → ⊥
  no_walk k old new any d w same none [] c = absurd (let f : 1 ≤ 0 = c.some in omega arith)
  no_walk k old new any d w same none (q ∷ others) c = by (known (at old q))
    where
      by : (at old q ≡ None) ⊎ ((x : ℕ) × (at old q ≡ Some x)) → ⊥
      by (inl n) = settled k old new any d w same q others n c.walk.1
      by (inr x) = let f : k + 1 ≤ x.0 = none q x.0 c.walk.0 x.1 in let g : x.0 ≤ k = d.bounded q x.0 x.1 in omega arith
