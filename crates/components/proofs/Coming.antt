-- The next of the classes that are still to come.
use Rattle.std.proofs.Common.{◌≡◌, refl, sym, ap, ◌∙◌, subst, ◌⊎◌, inl, inr, ℕ, ◌+◌, ◌<◌, ◌≤◌, Bool, true, false, nat_eq, not, ◌&&◌, None, List, [], ◌∷◌, length, set, arith, get_or-set_same, get_or-set_other}
use Rattle.std.proofs.lemmas.Bool.{both_ways, cases_Bool, cases_eq, false_from_ne_true}
use Rattle.std.proofs.lemmas.List.{length-set}
use Rattle.components.specs.declared.rest.Rest.{Rest}
use Rattle.components.specs.declared.tables.Tables.{Tables}
use Rattle.components.specs.Classes.{IsDoneOrLedTo, IsLedTo, IsNext, flag}
use Rattle.components.specs.Counts.{tally, times}
use Rattle.components.specs.Labels.{at}
use Rattle.components.specs.Lists.{IsMember, Rises}
use Rattle.components.specs.Rest.{ComesNext, IsAdded, IsRest, Releases, first, has}
use Rattle.components.specs.Targets.{row}
use Rattle.components.proofs.Counting.{In-tally, In-times, tally-In, tally_set, times-In}
use Rattle.components.proofs.ListLaws.{Each-In}
use Rattle.components.proofs.Lists.{In-at}
use Rattle.components.proofs.Releasing.{at_inside, cases_zero, has_left}

head_least : (xs : List ℕ) (u : ℕ) → Rises xs → IsMember u xs → at xs 0 ≤ u
head_least [] u r i = absurd i
head_least (x ∷ xs) u r (inl e) = omega arith
head_least (x ∷ xs) u r (inr i) = let h = Each-In (λ y. x < y) xs r.0 u i in omega arith

module _ (n count : ℕ) (labels : List ℕ) (t : Tables) (done : List Bool) (rest : Rest) (is : IsRest n count labels t done rest) where
  abbrev rows : List (List ℕ)
  rows = t.onward.items

  abbrev counts : List ℕ
  counts = rest.counts.items

  -- the first number of a class
  member : (c : ℕ) → c < count → (first t c < n) × (at labels (first t c) ≡ c)
  member c h =
      ((is.tables.members.each c).each (first t c)).0 (In-at (row t.members.items c) 0 (is.tables.filled.each c h))

  least_of : (c u : ℕ) → u < n → at labels u ≡ c → first t c ≤ u
  least_of c u h e =
      let class = is.tables.members.each c in
      head_least (row t.members.items c) u class.rising ((class.each u).1 (h, e))

  led : (c : ℕ) → 0 < at counts c → IsLedTo rows done c
  led c h = tally-In done c rows (let e = is.counts c in omega arith)

  -- each class is done, or led to, or ready
  held : (u : ℕ) → u < n → IsDoneOrLedTo rows done (at labels u) ⊎ (has rest.ready (first t (at labels u)) ≡ true)
  held u h = by (cases_Bool (flag done (at labels u))) (cases_zero (at counts (at labels u)))
    where
      by : (flag done (at labels u) ≡ true) ⊎ (flag done (at labels u) ≡ false) → (at counts (at labels u) ≡ 0) ⊎ (0 < at counts (at labels u))
          → IsDoneOrLedTo rows done (at labels u) ⊎ (has rest.ready (first t (at labels u)) ≡ true)
      by (inl e) z = inl (inl e)
      by (inr e) (inr z) = inl (inr (led (at labels u) z))
      by (inr e) (inl z) = inr ((is.ready (first t (at labels u))).1 (at labels u, is.tables.below u h, e, z, refl))

  pub none_comes : (new : Rest) → ((v : ℕ) → has rest.ready v ≡ false) → ComesNext n count labels t done new None
  none_comes new none u h = by (held u h)
    where
      by : IsDoneOrLedTo rows done (at labels u) ⊎ (has rest.ready (first t (at labels u)) ≡ true) → IsDoneOrLedTo rows done (at labels u)
      by (inl k) = k
      by (inr k) = absurd (both_ways (has rest.ready (first t (at labels u))) (none (first t (at labels u))) k)

  module _ (v : ℕ) (taken : has rest.ready v ≡ true) where
    abbrev class : ℕ
    class = at labels v

    -- the number is the first of its class, which isn't done, and to which nothing leads
    pub record IsTaken : Type 0 where
      pub inside : v < n
      pub small : class < count
      pub undone : flag done class ≡ false
      pub nought : at counts class ≡ 0
      pub first_here : v ≡ first t class

    pub is_taken : IsTaken
    is_taken = from ((is.ready v).0 taken)
      where
        from : ((c : ℕ) × (c < count) × (flag done c ≡ false) × (at counts c ≡ 0) × (v ≡ first t c)) → IsTaken
        from (c, small, undone, nought, e) =
            let m = member c small in
            let same : at labels v ≡ c = ap (at labels) e ∙ m.1 in
            record {
              inside = subst (λ z. z < n) (sym e) m.0;
              small = subst (λ z. z < count) (sym same) small;
              undone = ap (flag done) same ∙ undone;
              nought = ap (at counts) same ∙ nought;
              first_here = e ∙ ap (first t) (sym same);
            }

    pub few : (c : ℕ) → times c (row rows class) ≤ at counts c
    few c =
        let h = tally_set done class c rows (let a = is_taken.small in let b = is.size in omega arith) is_taken.undone in
        let e = is.counts c in
        omega arith

    pub next_here : ((w : ℕ) → has rest.ready w ≡ true → v ≤ w) → IsNext n count labels rows done class
    next_here least = record {
      small = is_taken.small;
      undone = is_taken.undone;
      free = λ l. let a = In-tally done class rows l.0 l.1 l.2 in let b = is.counts class in let c = is_taken.nought in omega arith;
      least = v;
      inside = is_taken.inside;
      of = refl;
      before = λ u h. by u h (held u (let k = is_taken.inside in omega arith));
    }
      where
        by : (u : ℕ) → u < v → IsDoneOrLedTo rows done (at labels u) ⊎ (has rest.ready (first t (at labels u)) ≡ true) → IsDoneOrLedTo rows done (at labels u)
        by u h (inl k) = k
        by u h (inr k) = absurd (
            let a = least (first t (at labels u)) k in
            let b = least_of (at labels u) u (let k = is_taken.inside in omega arith) refl in
            omega arith)

    module _ (mid new : Rest) (same : mid.counts.items ≡ counts) (left : (w : ℕ) → has mid.ready w ≡ (not (nat_eq w v) && has rest.ready w))
        (rel : Releases t (row rows class) mid new) where
      abbrev after : List Bool
      after = set done class true

      set_here : flag after class ≡ true
      set_here = get_or-set_same done class true false (let a = is_taken.small in let b = is.size in omega arith)

      set_other : (c : ℕ) → (c ≡ class → ⊥) → flag after c ≡ flag done c
      set_other c d = get_or-set_other done class c true false d

      sum : (c : ℕ) → at new.counts.items c + times c (row rows class) ≡ at counts c
      sum c = rel.counts c ∙ ap (λ z. at z c) same

      width : length new.counts.items ≡ count
      width = rel.size ∙ (ap length same ∙ is.width)

      now : (c : ℕ) → at new.counts.items c ≡ tally after c rows
      now c =
          let h = tally_set done class c rows (let a = is_taken.small in let b = is.size in omega arith) is_taken.undone in
          let e = is.counts c in
          let s = sum c in
          omega arith

      closed : (c : ℕ) → (c ≡ class) ⊎ (c ≡ class → ⊥) → flag after c ≡ true → at new.counts.items c ≡ 0
      closed c (inl e) f = let a : at counts c ≡ 0 = ap (at counts) e ∙ is_taken.nought in let b = sum c in omega arith
      closed c (inr d) f = let a = is.closed c (sym (set_other c d) ∙ f) in let b = sum c in omega arith

      to : (w : ℕ) → (has mid.ready w ≡ true) ⊎ ((c : ℕ) × IsMember c (row rows class) × IsAdded t new c w)
          → (c : ℕ) × (c < count) × (flag after c ≡ false) × (at new.counts.items c ≡ 0) × (w ≡ first t c)
      to w (inl i) = by ((has_left (has mid.ready w) (has rest.ready w) w v (left w)).0 i)
        where
          by : (has rest.ready w ≡ true) × (w ≡ v → ⊥) → (c : ℕ) × (c < count) × (flag after c ≡ false) × (at new.counts.items c ≡ 0) × (w ≡ first t c)
          by (j, other) = from ((is.ready w).0 j)
            where
              from : ((c : ℕ) × (c < count) × (flag done c ≡ false) × (at counts c ≡ 0) × (w ≡ first t c))
                  → (c : ℕ) × (c < count) × (flag after c ≡ false) × (at new.counts.items c ≡ 0) × (w ≡ first t c)
              from (c, small, undone, nought, e) =
                  (c, small, set_other c (λ f. other (e ∙ (ap (first t) f ∙ sym is_taken.first_here))) ∙ undone, (let s = sum c in omega arith), e)
      to w (inr (c, i, (nought, e))) =
          let s = sum c in
          let k = In-times c (row rows class) i in
          let more : 0 < at counts c = omega arith in
          let small : c < count = subst (λ z. c < z) is.width (at_inside counts c more) in
          let apart : c ≡ class → ⊥ = λ f. (let a : at counts c ≡ 0 = ap (at counts) f ∙ is_taken.nought in omega arith) in
          let undone : flag done c ≡ false = false_from_ne_true (flag done c) (λ f. let a = is.closed c f in omega arith) in
          (c, small, set_other c apart ∙ undone, nought, e)

      from : (w c : ℕ) → c < count → flag after c ≡ false → at new.counts.items c ≡ 0 → w ≡ first t c → has new.ready w ≡ true
      from w c small undone nought e = by (cases_zero (times c (row rows class)))
        where
          apart : c ≡ class → ⊥
          apart f = both_ways (flag after c) undone (ap (flag after) f ∙ set_here)

          by : (times c (row rows class) ≡ 0) ⊎ (0 < times c (row rows class)) → has new.ready w ≡ true
          by (inr h) = (rel.ready w).1 (inr (c, times-In c (row rows class) h, (nought, e)))
          by (inl h) = (rel.ready w).1 (inl ((has_left (has mid.ready w) (has rest.ready w) w v (left w)).1 (was, other)))
            where
              was : has rest.ready w ≡ true
              was = (is.ready w).1 (c, small, sym (set_other c apart) ∙ undone, (let s = sum c in omega arith), e)

              other : w ≡ v → ⊥
              other f = apart (sym (member c small).1 ∙ (ap (at labels) (sym e ∙ f)))

      pub next_rest : IsRest n count labels t after new
      next_rest = record {
        tables = is.tables;
        size = length-set done class true ∙ is.size;
        width = width;
        counts = now;
        closed = λ c f. closed c (cases_eq c class) f;
        ready = λ w. (λ h. to w ((rel.ready w).0 h), λ h. from w h.0 h.1 h.2 h.3 h.4);
      }
