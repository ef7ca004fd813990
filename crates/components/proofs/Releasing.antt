-- What is known of classes that may come, while pairs are taken from the counts.
use Rattle.std.proofs.Common.{◌≡◌, ◌↔◌, refl, sym, ap, ◌∙◌, subst, ◌⊎◌, inl, inr, ℕ, zero, suc, ◌+◌, ◌-◌, ◌<◌, ◌≤◌, Bool, true, false, nat_eq, ◌&&◌, ◌||◌, not, List, [], ◌∷◌, ◌++◌, length, set, take, arith, get_or-set_same, get_or-set_other}
use Rattle.std.proofs.lemmas.Bool.{and_from, and_parts, both_ways, cases_eq, eq-eqb, eqb-true, not-true, not_from_false, ne_eqb, or_cases, or_left, or_right}
use Rattle.std.proofs.lemmas.List.{length-set}
use Rattle.components.specs.declared.rest.Rest.{Rest}
use Rattle.components.specs.declared.tables.Tables.{Tables}
use Rattle.components.specs.Counts.{times}
use Rattle.components.specs.Labels.{at}
use Rattle.components.specs.Lists.{IsMember}
use Rattle.components.specs.Rest.{AddsFree, IsAdded, IsFreeFirst, Lowers, Releases, first, has}
use Rattle.components.proofs.Counting.{one, none, times-push, times_taken}
use Rattle.components.proofs.ListLaws.{In-append, In-left, In-right}

pub at_inside : (xs : List ℕ) (i : ℕ) → 0 < at xs i → i < length xs
at_inside [] i h = absurd (omega arith)
at_inside (x ∷ xs) zero h = omega arith
at_inside (x ∷ xs) (suc i) h = let k = at_inside xs i h in omega arith

pub cases_zero : (n : ℕ) → (n ≡ 0) ⊎ (0 < n)
cases_zero zero = inl refl
cases_zero (suc n) = inr (omega arith)

-- ---- one number more, and one fewer

pub has_added : (new old : Bool) (v k : ℕ) → new ≡ (nat_eq v k || old) → (new ≡ true) ↔ ((old ≡ true) ⊎ (v ≡ k))
has_added new old v k e = (
  λ h. by (or_cases (nat_eq v k) old (sym e ∙ h)),
  λ h. e ∙ back h,
)
  where
    by : (nat_eq v k ≡ true) ⊎ (old ≡ true) → (old ≡ true) ⊎ (v ≡ k)
    by (inl f) = inr (eqb-true v k f)
    by (inr f) = inl f

    back : (old ≡ true) ⊎ (v ≡ k) → (nat_eq v k || old) ≡ true
    back (inl f) = or_right (nat_eq v k) old f
    back (inr f) = or_left (nat_eq v k) old (eq-eqb v k f)

pub has_left : (new old : Bool) (v k : ℕ) → new ≡ (not (nat_eq v k) && old) → (new ≡ true) ↔ ((old ≡ true) × (v ≡ k → ⊥))
has_left new old v k e = (
  λ h. let p = and_parts (not (nat_eq v k)) old (sym e ∙ h) in
      (p.1, λ f. both_ways (nat_eq v k) (not-true (nat_eq v k) p.0) (eq-eqb v k f)),
  λ h. e ∙ and_from (not (nat_eq v k)) old (not_from_false (nat_eq v k) (ne_eqb v k h.1)) h.0,
)

pub added_free : (t : Tables) (c : ℕ) (old new : Rest) → new.counts.items ≡ old.counts.items → at old.counts.items c ≡ 0
    → ((v : ℕ) → has new.ready v ≡ (nat_eq v (first t c) || has old.ready v)) → AddsFree t c old new
added_free t c old new same nought h = record {
  counts = same;
  ready = λ v. let k = has_added (has new.ready v) (has old.ready v) v (first t c) (h v) in
      (λ i. to v (k.0 i), λ i. k.1 (from v i));
}
  where
    here : at new.counts.items c ≡ 0
    here = ap (λ z. at z c) same ∙ nought

    to : (v : ℕ) → (has old.ready v ≡ true) ⊎ (v ≡ first t c) → (has old.ready v ≡ true) ⊎ IsAdded t new c v
    to v (inl i) = inl i
    to v (inr e) = inr (here, e)

    from : (v : ℕ) → (has old.ready v ≡ true) ⊎ IsAdded t new c v → (has old.ready v ≡ true) ⊎ (v ≡ first t c)
    from v (inl i) = inl i
    from v (inr p) = inr p.1

pub kept_free : (t : Tables) (c : ℕ) (r : Rest) → (at r.counts.items c ≡ 0 → ⊥) → AddsFree t c r r
kept_free t c r d = record {
  counts = refl;
  ready = λ v. (λ i. inl i, λ i. from v i);
}
  where
    from : (v : ℕ) → (has r.ready v ≡ true) ⊎ IsAdded t r c v → has r.ready v ≡ true
    from v (inl i) = i
    from v (inr p) = absurd (d p.0)

-- ---- one class after the other

pub free_none : (t : Tables) (r : Rest) → ((v : ℕ) → has r.ready v ≡ false) → (v : ℕ) → (has r.ready v ≡ true) ↔ IsFreeFirst t r.counts.items 0 v
free_none t r none v = (λ h. absurd (both_ways (has r.ready v) (none v) h), λ h. absurd (let k = h.1 in omega arith))

pub free_more : (t : Tables) (old new : Rest) (c : ℕ) → AddsFree t c old new
    → ((v : ℕ) → (has old.ready v ≡ true) ↔ IsFreeFirst t old.counts.items c v)
    → (v : ℕ) → (has new.ready v ≡ true) ↔ IsFreeFirst t new.counts.items (c + 1) v
free_more t old new c adds are v = (λ h. to ((adds.ready v).0 h), λ h. from h (cases_eq h.0 c))
  where
    to : (has old.ready v ≡ true) ⊎ IsAdded t new c v → IsFreeFirst t new.counts.items (c + 1) v
    to (inl i) = let h = (are v).0 i in (h.0, (let k = h.1 in omega arith), ap (λ z. at z h.0) adds.counts ∙ h.2, h.3)
    to (inr p) = (c, omega arith, p.0, p.1)

    from : (h : IsFreeFirst t new.counts.items (c + 1) v) → (h.0 ≡ c) ⊎ (h.0 ≡ c → ⊥) → has new.ready v ≡ true
    from h (inl e) = (adds.ready v).1 (inr (subst (λ z. IsAdded t new z v) e (h.2, h.3)))
    from h (inr d) = (adds.ready v).1 (inl ((are v).1 (h.0, (let k = h.1 in omega arith), ap (λ z. at z h.0) (sym adds.counts) ∙ h.2, h.3)))

pub lowered : (t : Tables) (c : ℕ) (old mid new : Rest) → mid.counts.items ≡ set old.counts.items c (at old.counts.items c - 1)
    → mid.ready ≡ old.ready → AddsFree t c mid new → Lowers t c old new
lowered t c old mid new counts same adds = record {
  counts = adds.counts ∙ counts;
  ready = λ v. subst (λ z. (has new.ready v ≡ true) ↔ ((has z v ≡ true) ⊎ IsAdded t new c v)) same (adds.ready v);
}

-- ---- one pair after the other

pub released_none : (t : Tables) (r : Rest) → Releases t [] r r
released_none t r = record {
  size = refl;
  counts = λ c. omega arith;
  ready = λ v. (λ i. inl i, λ i. from v i);
}
  where
    from : (v : ℕ) → (has r.ready v ≡ true) ⊎ ((c : ℕ) × IsMember c [] × IsAdded t r c v) → has r.ready v ≡ true
    from v (inl i) = i
    from v (inr p) = absurd p.1

pub still_some : (t : Tables) (targets : List ℕ) (i : ℕ) (old mid : Rest) → Releases t (take i targets) old mid
    → ((c : ℕ) → times c targets ≤ at old.counts.items c) → i < length targets → 0 < at mid.counts.items (at targets i)
still_some t targets i old mid is few h =
    let a = is.counts (at targets i) in
    let b = few (at targets i) in
    let c = times_taken targets i h in
    omega arith

module _ (t : Tables) (xs : List ℕ) (target : ℕ) (old mid new : Rest) (is : Releases t xs old mid) (some : 0 < at mid.counts.items target) (low : Lowers t target mid new) where
  here : at new.counts.items target + 1 ≡ at mid.counts.items target
  here =
      let e : at new.counts.items target ≡ at mid.counts.items target - 1 =
      ap (λ z. at z target) low.counts
      ∙ get_or-set_same mid.counts.items target (at mid.counts.items target - 1) 0 (at_inside mid.counts.items target some) in
      omega arith

  other : (c : ℕ) → (c ≡ target → ⊥) → at new.counts.items c ≡ at mid.counts.items c
  other c d = ap (λ z. at z c) low.counts ∙ get_or-set_other mid.counts.items target c (at mid.counts.items target - 1) 0 d

  pub released_more : Releases t (xs ++ target ∷ []) old new
  released_more = record {
    size = ap length low.counts ∙ (length-set mid.counts.items target (at mid.counts.items target - 1) ∙ is.size);
    counts = λ c. sum c (cases_eq c target);
    ready = λ v. (λ h. to v ((low.ready v).0 h), λ h. from v h);
  }
    where
      sum : (c : ℕ) → (c ≡ target) ⊎ (c ≡ target → ⊥) → at new.counts.items c + times c (xs ++ target ∷ []) ≡ at old.counts.items c
      sum c (inl e) =
          let a : at new.counts.items c + 1 ≡ at mid.counts.items c = subst (λ z. at new.counts.items z + 1 ≡ at mid.counts.items z) (sym e) here in
          let b = is.counts c in
          let p = times-push c xs target in
          let q = one target c (sym e) in
          omega arith
      sum c (inr d) =
          let a = other c d in
          let b = is.counts c in
          let p = times-push c xs target in
          let q = none target c (λ e. d (sym e)) in
          omega arith

      to : (v : ℕ) → (has mid.ready v ≡ true) ⊎ IsAdded t new target v
          → (has old.ready v ≡ true) ⊎ ((c : ℕ) × IsMember c (xs ++ target ∷ []) × IsAdded t new c v)
      to v (inr p) = inr (target, In-right target xs (target ∷ []) (inl refl), p)
      to v (inl i) = by ((is.ready v).0 i)
        where
          by : (has old.ready v ≡ true) ⊎ ((c : ℕ) × IsMember c xs × IsAdded t mid c v)
              → (has old.ready v ≡ true) ⊎ ((c : ℕ) × IsMember c (xs ++ target ∷ []) × IsAdded t new c v)
          by (inl j) = inl j
          by (inr (c, j, (free, f))) = inr (c, In-left c xs (target ∷ []) j, (other c apart ∙ free, f))
            where
              apart : c ≡ target → ⊥
              apart e = let k : at mid.counts.items target ≡ 0 = subst (λ z. at mid.counts.items z ≡ 0) e free in omega arith

      from : (v : ℕ) → (has old.ready v ≡ true) ⊎ ((c : ℕ) × IsMember c (xs ++ target ∷ []) × IsAdded t new c v) → has new.ready v ≡ true
      from v (inl i) = (low.ready v).1 (inl ((is.ready v).1 (inl i)))
      from v (inr (c, i, (free, f))) = by (cases_eq c target) (In-append c xs (target ∷ []) i)
        where
          by : (c ≡ target) ⊎ (c ≡ target → ⊥) → IsMember c xs ⊎ IsMember c (target ∷ []) → has new.ready v ≡ true
          by (inl e) j = (low.ready v).1 (inr (subst (λ z. IsAdded t new z v) e (free, f)))
          by (inr d) (inl j) = (low.ready v).1 (inl ((is.ready v).1 (inr (c, j, (sym (other c d) ∙ free, f)))))
          by (inr d) (inr (inl e)) = absurd (d e)
          by (inr d) (inr (inr j)) = absurd j
