-- One more pair.
use Rattle.std.proofs.Common.{◌≡◌, refl, sym, ap, ◌∙◌, subst, ◌⊎◌, inl, inr, ℕ, zero, suc, ◌+◌, ◌<◌, ◌≤◌, Bool, true, false, Option, Some, None, List, [], ◌∷◌, ◌++◌, length, set, arith, get_or-set_same, get_or-set_other}
use Rattle.std.proofs.lemmas.Bool.{cases_eq}
use Rattle.std.proofs.lemmas.List.{length-set}
use Rattle.components.specs.Lists.{IsMember}
use Rattle.closed_walks.specs.Distances.{IsLeastNext, IsLesser, IsMarked, IsNext, IsSweep, IsTaken, LeadsTo, at, known}

some_none : {A : Type 0} (x : A) → ◌≡◌ {A = Option A} (Some x) None → ⊥
some_none x e = cc

some_same : {A : Type 0} (x y : A) → ◌≡◌ {A = Option A} (Some x) (Some y) → x ≡ y
some_same x y e = cc

true_false : true ≡ false → ⊥
true_false e = cc

abbrev Same : ℕ × ℕ → ℕ × ℕ → Type 0
Same p q = p ≡ q

In_more : {X : Type 0} (x y : X) (xs : List X) → IsMember x (xs ++ y ∷ []) → IsMember x xs ⊎ (x ≡ y)
In_more x y [] (inl e) = inr e
In_more x y [] (inr i) = absurd i
In_more x y (z ∷ xs) (inl e) = inl (inl e)
In_more x y (z ∷ xs) (inr i) = by (In_more x y xs i)
  where
    by : IsMember x xs ⊎ (x ≡ y) → ((x ≡ z) ⊎ IsMember x xs) ⊎ (x ≡ y)
    by (inl j) = inl (inr j)
    by (inr e) = inr e

more_In : {X : Type 0} (x y : X) (xs : List X) → IsMember x xs → IsMember x (xs ++ y ∷ [])
more_In x y [] i = absurd i
more_In x y (z ∷ xs) (inl e) = inl e
more_In x y (z ∷ xs) (inr i) = inr (more_In x y xs i)

last_In : {X : Type 0} (y : X) (xs : List X) → IsMember y (xs ++ y ∷ [])
last_In y [] = inl refl
last_In y (z ∷ xs) = inr (last_In y xs)

pub known_set : (xs : List (Option ℕ)) (f d : ℕ) → f < length xs → at xs f ≡ None → known (set xs f (Some d)) ≡ known xs + 1
known_set [] f d h e = absurd (omega arith)
known_set (None ∷ xs) zero d h e = omega arith
known_set (Some c ∷ xs) zero d h e = absurd (some_none c e)
known_set (None ∷ xs) (suc f) d h e = known_set xs f d (omega arith) e
known_set (Some c ∷ xs) (suc f) d h e = let a = known_set xs f d (omega arith) e in omega arith

pub known_most : (xs : List (Option ℕ)) → known xs ≤ length xs
known_most [] = omega arith
known_most (None ∷ xs) = let a = known_most xs in omega arith
known_most (Some c ∷ xs) = let a = known_most xs in omega arith

module _ (ps : List (ℕ × ℕ)) (k : ℕ) (old mid : List (Option ℕ)) (any : Bool) (w : IsSweep ps k old mid any) (f t : ℕ) where
  abbrev more : List (ℕ × ℕ)
  more = ps ++ (f, t) ∷ []

  is_known : (o : Option ℕ) → (o ≡ None) ⊎ ((d : ℕ) × (o ≡ Some d))
  is_known None = inl refl
  is_known (Some d) = inr (d, refl)

  -- what has k steps had them before
  had : (v : ℕ) → at mid v ≡ Some k → at old v ≡ Some k
  had v h = by (is_known (at old v))
    where
      by : (at old v ≡ None) ⊎ ((d : ℕ) × (at old v ≡ Some d)) → at old v ≡ Some k
      by (inl n) = absurd (let e : k ≡ k + 1 = (w.only v k n h).0 in omega arith)
      by (inr d) = d.1 ∙ (sym (w.kept v d.0 d.1) ∙ h)

  leads_more : (v : ℕ) → LeadsTo ps old k v → LeadsTo more old k v
  leads_more v l = (l.0, more_In (v, l.0) (f, t) ps l.1, l.2)

  leads_before : (v : ℕ) → LeadsTo more old k v → LeadsTo ps old k v ⊎ ((v ≡ f) × (at old t ≡ Some k))
  leads_before v l = by (In_more (v, l.0) (f, t) ps l.1)
    where
      by : IsMember (v, l.0) ps ⊎ Same (v, l.0) (f, t) → LeadsTo ps old k v ⊎ ((v ≡ f) × (at old t ≡ Some k))
      by (inl i) = inl (l.0, i, l.2)
      by (inr e) = inr (ap (λ (p : ℕ × ℕ). p.0) e, ap (at old) (sym (ap (λ (p : ℕ × ℕ). p.1) e)) ∙ l.2)

  -- the pair doesn't add one
  pub passed : ((at mid t ≡ Some k) → (at mid f ≡ None) → ⊥) → IsSweep more k old mid any
  passed not = record {
    size = w.size;
    kept = w.kept;
    added = λ v n l. by v n (leads_before v l);
    only = λ v d n h. ((w.only v d n h).0, leads_more v (w.only v d n h).1);
    none = w.none;
    grown = w.grown;
    more = w.more;
  }
    where
      by : (v : ℕ) → at old v ≡ None → LeadsTo ps old k v ⊎ ((v ≡ f) × (at old t ≡ Some k)) → at mid v ≡ Some (k + 1)
      by v n (inl l) = w.added v n l
      by v n (inr h) = which (is_known (at mid v))
        where
          which : (at mid v ≡ None) ⊎ ((d : ℕ) × (at mid v ≡ Some d)) → at mid v ≡ Some (k + 1)
          which (inl m) = absurd (not (w.kept t k h.1) (ap (at mid) (sym h.0) ∙ m))
          which (inr d) = d.1 ∙ ap Some (w.only v d.0 n d.1).0

  -- it adds one
  pub added : f < length old → at mid t ≡ Some k → at mid f ≡ None → IsSweep more k old (set mid f (Some (k + 1))) true
  added inside h none = record {
    size = length-set mid f (Some (k + 1)) ∙ w.size;
    kept = λ v d e. by_kept v d e (cases_eq v f);
    added = λ v n l. by_added v n (leads_before v l) (cases_eq v f);
    only = λ v d n e. by_only v d n e (cases_eq v f);
    none = λ e. absurd (true_false e);
    grown = let a = w.grown in let b = known_set mid f (k + 1) (subst (λ z. f < z) (sym w.size) inside) none in omega arith;
    more = λ e. let a = w.grown in let b = known_set mid f (k + 1) (subst (λ z. f < z) (sym w.size) inside) none in omega arith;
  }
    where
      inside_mid : f < length mid
      inside_mid = subst (λ z. f < z) (sym w.size) inside

      here : at (set mid f (Some (k + 1))) f ≡ Some (k + 1)
      here = get_or-set_same mid f (Some (k + 1)) None inside_mid

      there : (v : ℕ) → (v ≡ f → ⊥) → at (set mid f (Some (k + 1))) v ≡ at mid v
      there v d = get_or-set_other mid f v (Some (k + 1)) None d

      by_kept : (v d : ℕ) → at old v ≡ Some d → (v ≡ f) ⊎ (v ≡ f → ⊥) → at (set mid f (Some (k + 1))) v ≡ Some d
      by_kept v d e (inl same) = absurd (some_none d (sym (w.kept v d e) ∙ (ap (at mid) same ∙ none)))
      by_kept v d e (inr other) = there v other ∙ w.kept v d e

      by_added : (v : ℕ) → at old v ≡ None → LeadsTo ps old k v ⊎ ((v ≡ f) × (at old t ≡ Some k)) → (v ≡ f) ⊎ (v ≡ f → ⊥) → at (set mid f (Some (k + 1))) v ≡ Some (k + 1)
      by_added v n l (inl same) = ap (at (set mid f (Some (k + 1)))) same ∙ here
      by_added v n (inl l) (inr other) = there v other ∙ w.added v n l
      by_added v n (inr l) (inr other) = absurd (other l.0)

      by_only : (v d : ℕ) → at old v ≡ None → at (set mid f (Some (k + 1))) v ≡ Some d → (v ≡ f) ⊎ (v ≡ f → ⊥) → (d ≡ k + 1) × LeadsTo more old k v
      by_only v d n e (inl same) = (
        some_same d (k + 1) (sym e ∙ (ap (at (set mid f (Some (k + 1)))) same ∙ here)),
        (t, subst (λ z. IsMember (z, t) more) (sym same) (last_In (f, t) ps), had t h),
      )
      by_only v d n e (inr other) = let o = w.only v d n (sym (there v other) ∙ e) in (o.0, leads_more v o.1)

-- ---- the least

module _ (ps : List (ℕ × ℕ)) (steps : List (Option ℕ)) (from left f t : ℕ) where
  abbrev longer : List (ℕ × ℕ)
  longer = ps ++ (f, t) ∷ []

  pub skipped : (o : Option ℕ) → IsLeastNext ps steps from left o → (f ≡ from → at steps t ≡ Some left → ⊥) → IsLeastNext longer steps from left o
  skipped None h not = λ r i e. by r e (In_more (from, r) (f, t) ps i)
    where
      by : (r : ℕ) → at steps r ≡ Some left → IsMember (from, r) ps ⊎ Same (from, r) (f, t) → ⊥
      by r e (inl j) = h r j e
      by r e (inr g) = not (sym (ap (λ (p : ℕ × ℕ). p.0) g)) (ap (at steps) (sym (ap (λ (p : ℕ × ℕ). p.1) g)) ∙ e)
  skipped (Some q) h not = record {
    leads = more_In (from, q) (f, t) ps h.leads;
    has = h.has;
    least = λ r i e. by r e (In_more (from, r) (f, t) ps i);
  }
    where
      by : (r : ℕ) → at steps r ≡ Some left → IsMember (from, r) ps ⊎ Same (from, r) (f, t) → q ≤ r
      by r e (inl j) = h.least r j e
      by r e (inr g) = absurd (not (sym (ap (λ (p : ℕ × ℕ). p.0) g)) (ap (at steps) (sym (ap (λ (p : ℕ × ℕ). p.1) g)) ∙ e))

  -- t is the new least
  pub lesser : (o : Option ℕ) → IsLeastNext ps steps from left o → f ≡ from → at steps t ≡ Some left → ((q : ℕ) → o ≡ Some q → t ≤ q) → IsLeastNext longer steps from left (Some t)
  lesser o h same has no_more = record {
    leads = subst (λ z. IsMember (z, t) longer) same (last_In (f, t) ps);
    has = has;
    least = λ r i e. by o h no_more r e (In_more (from, r) (f, t) ps i);
  }
    where
      by : (o : Option ℕ) → IsLeastNext ps steps from left o → ((q : ℕ) → o ≡ Some q → t ≤ q) → (r : ℕ) → at steps r ≡ Some left → IsMember (from, r) ps ⊎ Same (from, r) (f, t) → t ≤ r
      by None h m r e (inl j) = absurd (h r j e)
      by (Some q) h m r e (inl j) = let a : t ≤ q = m q refl in let b : q ≤ r = h.least r j e in omega arith
      by o h m r e (inr g) = let a : r ≡ t = ap (λ (p : ℕ × ℕ). p.1) g in omega arith

  -- q stays
  pub stays : (q : ℕ) → IsNext ps steps from left q → q ≤ t → IsLeastNext longer steps from left (Some q)
  stays q h le = record {
    leads = more_In (from, q) (f, t) ps h.leads;
    has = h.has;
    least = λ r i e. by r e (In_more (from, r) (f, t) ps i);
  }
    where
      by : (r : ℕ) → at steps r ≡ Some left → IsMember (from, r) ps ⊎ Same (from, r) (f, t) → q ≤ r
      by r e (inl j) = h.least r j e
      by r e (inr g) = let a : r ≡ t = ap (λ (p : ℕ × ℕ). p.1) g in omega arith

-- ---- the two loops

module _ (ps : List (ℕ × ℕ)) (k : ℕ) (old mid new : List (Option ℕ)) (any marked both : Bool) (w : IsSweep ps k old mid any) (f t : ℕ) (inside : f < length old)
    (m : IsMarked mid f t k new marked) (first : any ≡ true → both ≡ true) (second : marked ≡ true → both ≡ true) (third : marked ≡ false → both ≡ true → any ≡ true) where
  false_by : (b : Bool) → (b ≡ true → both ≡ true) → both ≡ false → b ≡ false
  false_by false h e = refl
  false_by true h e = absurd (true_false (sym (h refl) ∙ e))

  pub marked_more : IsSweep (ps ++ (f, t) ∷ []) k old new both
  marked_more = by marked refl
    where
      by : (b : Bool) → marked ≡ b → IsSweep (ps ++ (f, t) ∷ []) k old new both
      by true e =
          let y = m.yes e in
          let s = added ps k old mid any w f t inside y.0 y.1 in
          subst (λ z. IsSweep (ps ++ (f, t) ∷ []) k old z both) (sym y.2)
          (record { size = s.size; kept = s.kept; added = s.added; only = s.only; none = λ h. absurd (true_false (sym (second e) ∙ h)); grown = s.grown; more = λ h. s.more refl })
      by false e =
          let s = passed ps k old mid any w f t (m.why e) in
          subst (λ z. IsSweep (ps ++ (f, t) ∷ []) k old z both) (sym (m.no e))
          (record { size = s.size; kept = s.kept; added = s.added; only = s.only; none = λ h. w.none (false_by any first h); grown = s.grown; more = λ h. s.more (third e h) })

pub taken_more : (ps : List (ℕ × ℕ)) (steps : List (Option ℕ)) (from left f t : ℕ) (least result : Option ℕ) → IsLeastNext ps steps from left least → IsTaken steps from left f t least result
    → IsLeastNext (ps ++ (f, t) ∷ []) steps from left result
taken_more ps steps from left f t least result h w = by (cases_eq f from) (has (at steps t))
  where
    has : (o : Option ℕ) → (o ≡ Some left) ⊎ (o ≡ Some left → ⊥)
    has None = inr (λ e. some_none left (sym e))
    has (Some d) = which (cases_eq d left)
      where
        which : (d ≡ left) ⊎ (d ≡ left → ⊥) → (◌≡◌ {A = Option ℕ} (Some d) (Some left)) ⊎ (◌≡◌ {A = Option ℕ} (Some d) (Some left) → ⊥)
        which (inl e) = inl (ap Some e)
        which (inr n) = inr (λ e. n (some_same d left e))

    by : (f ≡ from) ⊎ (f ≡ from → ⊥) → (at steps t ≡ Some left) ⊎ (at steps t ≡ Some left → ⊥) → IsLeastNext (ps ++ (f, t) ∷ []) steps from left result
    by (inr n) e = subst (IsLeastNext (ps ++ (f, t) ∷ []) steps from left) (sym (w.no (λ a b. n a))) (skipped ps steps from left f t least h (λ a b. n a))
    by (inl s) (inr n) = subst (IsLeastNext (ps ++ (f, t) ∷ []) steps from left) (sym (w.no (λ a b. n b))) (skipped ps steps from left f t least h (λ a b. n b))
    by (inl s) (inl e) = which least (w.yes s e) h
      where
        order : (a b : ℕ) → (a ≤ b) ⊎ (b < a)
        order zero b = inl (omega arith)
        order (suc a) zero = inr (omega arith)
        order (suc a) (suc b) = more (order a b)
          where
            more : (a ≤ b) ⊎ (b < a) → (suc a ≤ suc b) ⊎ (suc b < suc a)
            more (inl g) = inl (omega arith)
            more (inr g) = inr (omega arith)

        which : (o : Option ℕ) → IsLesser o t result → IsLeastNext ps steps from left o → IsLeastNext (ps ++ (f, t) ∷ []) steps from left result
        which None l h = subst (IsLeastNext (ps ++ (f, t) ∷ []) steps from left) (sym (l.none refl)) (lesser ps steps from left f t None h s e (λ q g. absurd (some_none q (sym g))))
        which (Some q) l h = split (order q t)
          where
            split : (q ≤ t) ⊎ (t < q) → IsLeastNext (ps ++ (f, t) ∷ []) steps from left result
            split (inl le) = subst (IsLeastNext (ps ++ (f, t) ∷ []) steps from left) (sym (l.old q refl le)) (stays ps steps from left f t q h le)
            split (inr lt) = subst (IsLeastNext (ps ++ (f, t) ∷ []) steps from left) (sym (l.new q refl lt)) (lesser ps steps from left f t (Some q) h s e (λ r g. let a : q ≡ r = some_same q r g in omega arith))
