-- Numbers and pairs by their classes, one more at a time.
use Rattle.std.proofs.Common.{◌≡◌, refl, sym, ap, ◌∙◌, subst, ◌⊎◌, inl, inr, ℕ, ◌+◌, ◌<◌, ◌≤◌, List, [], ◌∷◌, ◌++◌, length, set, replicate, arith, get_or-set_same, get_or-set_other}
use Rattle.std.proofs.lemmas.Bool.{cases_eq, cases_lt}
use Rattle.std.proofs.lemmas.List.{length-replicate, length-set}
use Rattle.components.specs.Classes.{AddsBetween, AreClassRows, AreMembers, ArePairsBetween, IsClass, IsPairBetween}
use Rattle.components.specs.Labels.{AreLabels, at}
use Rattle.components.specs.Lists.{IsMember}
use Rattle.components.specs.Reachability.{AreBelow}
use Rattle.components.specs.Targets.{AreTargets, row}
use Rattle.components.proofs.Adding.{none_at}
use Rattle.components.proofs.ListLaws.{Each-In, Each-from, In-append, In-left, In-right, Pairwise-append}

-- ---- numbers

class_more : (n : ℕ) (labels : List ℕ) (c : ℕ) (class : List ℕ) → IsClass n labels c class → at labels n ≡ c → IsClass (n + 1) labels c (class ++ n ∷ [])
class_more n labels c class is e = record {
  rising = Pairwise-append (λ x y. x < y) class (n ∷ []) is.rising (tt, tt) rises;
  each = λ a. (λ i. to a (In-append a class (n ∷ []) i), λ h. back a (cases_lt a n) h);
}
  where
    rises : (x y : ℕ) → IsMember x class → IsMember y (n ∷ []) → x < y
    rises x y i (inl f) = let h = ((is.each x).0 i).0 in omega arith
    rises x y i (inr j) = absurd j

    to : (a : ℕ) → IsMember a class ⊎ IsMember a (n ∷ []) → (a < n + 1) × (at labels a ≡ c)
    to a (inl i) = let h = (is.each a).0 i in ((let k = h.0 in omega arith), h.1)
    to a (inr (inl f)) = (omega arith, ap (at labels) f ∙ e)
    to a (inr (inr j)) = absurd j

    back : (a : ℕ) → (a < n) ⊎ (n ≤ a) → (a < n + 1) × (at labels a ≡ c) → IsMember a (class ++ n ∷ [])
    back a (inl h) p = In-left a class (n ∷ []) ((is.each a).1 (h, p.1))
    back a (inr h) p = In-right a class (n ∷ []) (inl (let k = p.0 in omega arith))

class_same : (n : ℕ) (labels : List ℕ) (c : ℕ) (class : List ℕ) → IsClass n labels c class → (at labels n ≡ c → ⊥) → IsClass (n + 1) labels c class
class_same n labels c class is d = record {
  rising = is.rising;
  each = λ a. (λ i. let h = (is.each a).0 i in ((let k = h.0 in omega arith), h.1), λ h. back a (cases_lt a n) h);
}
  where
    back : (a : ℕ) → (a < n) ⊎ (n ≤ a) → (a < n + 1) × (at labels a ≡ c) → IsMember a class
    back a (inl h) p = (is.each a).1 (h, p.1)
    back a (inr h) p = absurd (d (let e : a ≡ n = (let k = p.0 in omega arith) in ap (at labels) (sym e) ∙ p.1))

pub no_members : (count : ℕ) (labels : List ℕ) → AreMembers 0 count labels (replicate count [])
no_members count labels = record {
  size = length-replicate count [];
  each = λ c. subst (IsClass 0 labels c) (sym (none_at count c)) (record { rising = tt; each = λ a. (λ i. absurd i, λ h. absurd (let k = h.0 in omega arith)) });
}

module _ (n count : ℕ) (labels : List ℕ) (members new : List (List ℕ)) (are : AreMembers n count labels members) (listed : at labels n < count)
    (is : new ≡ set members (at labels n) (row members (at labels n) ++ n ∷ [])) where
  pub member_more : AreMembers (n + 1) count labels new
  member_more = record {
    size = ap length is ∙ (length-set members (at labels n) (row members (at labels n) ++ n ∷ []) ∙ are.size);
    each = λ c. by c (cases_eq (at labels n) c);
  }
    where
      by : (c : ℕ) → (at labels n ≡ c) ⊎ (at labels n ≡ c → ⊥) → IsClass (n + 1) labels c (row new c)
      by c (inl e) =
          let here : row new (at labels n) ≡ row members (at labels n) ++ n ∷ [] =
          ap (λ z. row z (at labels n)) is ∙ get_or-set_same members (at labels n) (row members (at labels n) ++ n ∷ []) [] (subst (λ z. at labels n < z) (sym are.size) listed) in
          subst (λ z. IsClass (n + 1) labels z (row new z)) e
          (subst (IsClass (n + 1) labels (at labels n)) (sym here) (class_more n labels (at labels n) (row members (at labels n)) (are.each (at labels n)) refl))
      by c (inr d) =
          let there : row new c ≡ row members c =
          ap (λ z. row z c) is ∙ get_or-set_other members (at labels n) c (row members (at labels n) ++ n ∷ []) [] (λ e. d (sym e)) in
          subst (IsClass (n + 1) labels c) (sym there) (class_same n labels c (row members c) (are.each c) d)

-- ---- pairs

pub between_none : (labels : List ℕ) → ArePairsBetween [] labels []
between_none labels = λ e c. (λ i. absurd i, λ h. absurd h.2)

module _ (pairs : List (ℕ × ℕ)) (labels : List ℕ) (between new : List (ℕ × ℕ)) (from to : ℕ) (are : ArePairsBetween pairs labels between) where
  earlier : (e c : ℕ) → IsPairBetween pairs labels e c → IsPairBetween (pairs ++ (from, to) ∷ []) labels e c
  earlier e c (a, b, i, la, lb, apart) = (a, b, In-left (a, b) pairs ((from, to) ∷ []) i, la, lb, apart)

  between_more : (at labels from ≡ at labels to → ⊥) → new ≡ between ++ (at labels from, at labels to) ∷ []
      → ArePairsBetween (pairs ++ (from, to) ∷ []) labels new
  between_more apart is e c = (
    λ i. has (In-append (e, c) between ((at labels from, at labels to) ∷ []) (subst (IsMember (e, c)) is i)),
    λ h. subst (IsMember (e, c)) (sym is) (back h),
  )
    where
      has : IsMember (e, c) between ⊎ IsMember {X = ℕ × ℕ} (e, c) ((at labels from, at labels to) ∷ []) → IsPairBetween (pairs ++ (from, to) ∷ []) labels e c
      has (inl i) = earlier e c ((are e c).0 i)
      has (inr (inl f)) =
          let g : e ≡ at labels from = ap (λ p. p.0) f in
          let h : c ≡ at labels to = ap (λ p. p.1) f in
          (from, to, In-right (from, to) pairs ((from, to) ∷ []) (inl refl), sym g, sym h, λ k. apart (sym g ∙ (k ∙ h)))
      has (inr (inr i)) = absurd i

      back : IsPairBetween (pairs ++ (from, to) ∷ []) labels e c → IsMember (e, c) (between ++ (at labels from, at labels to) ∷ [])
      back (a, b, i, la, lb, d) = by (In-append (a, b) pairs ((from, to) ∷ []) i)
        where
          by : IsMember (a, b) pairs ⊎ IsMember {X = ℕ × ℕ} (a, b) ((from, to) ∷ []) → IsMember (e, c) (between ++ (at labels from, at labels to) ∷ [])
          by (inl j) = In-left (e, c) between ((at labels from, at labels to) ∷ []) ((are e c).1 (a, b, j, la, lb, d))
          by (inr (inl f)) =
              let g : a ≡ from = ap (λ p. p.0) f in
              let h : b ≡ to = ap (λ p. p.1) f in
              let k : e ≡ at labels from = sym la ∙ ap (at labels) g in
              let l : c ≡ at labels to = sym lb ∙ ap (at labels) h in
              In-right (e, c) between ((at labels from, at labels to) ∷ []) (inl (cc))
          by (inr (inr j)) = absurd j

  between_same : at labels from ≡ at labels to → new ≡ between → ArePairsBetween (pairs ++ (from, to) ∷ []) labels new
  between_same same is e c = (
    λ i. earlier e c ((are e c).0 (subst (IsMember (e, c)) is i)),
    λ h. subst (IsMember (e, c)) (sym is) (back h),
  )
    where
      back : IsPairBetween (pairs ++ (from, to) ∷ []) labels e c → IsMember (e, c) between
      back (a, b, i, la, lb, d) = by (In-append (a, b) pairs ((from, to) ∷ []) i)
        where
          by : IsMember (a, b) pairs ⊎ IsMember {X = ℕ × ℕ} (a, b) ((from, to) ∷ []) → IsMember (e, c) between
          by (inl j) = (are e c).1 (a, b, j, la, lb, d)
          by (inr (inl f)) =
              let g : a ≡ from = ap (λ p. p.0) f in
              let h : b ≡ to = ap (λ p. p.1) f in
              absurd (d (sym la ∙ (ap (at labels) g ∙ (same ∙ (ap (at labels) (sym h) ∙ lb)))))
          by (inr (inr j)) = absurd j

pub between_step : (pairs : List (ℕ × ℕ)) (labels : List ℕ) (between new : List (ℕ × ℕ)) (from to : ℕ) → ArePairsBetween pairs labels between
    → AddsBetween (at labels from) (at labels to) between new → ArePairsBetween (pairs ++ (from, to) ∷ []) labels new
between_step pairs labels between new from to are adds = by (cases_eq (at labels from) (at labels to))
  where
    by : (at labels from ≡ at labels to) ⊎ (at labels from ≡ at labels to → ⊥) → ArePairsBetween (pairs ++ (from, to) ∷ []) labels new
    by (inl e) = between_same pairs labels between new from to are e (adds.same e)
    by (inr d) = between_more pairs labels between new from to are d (adds.other d)

-- ---- tables

pub below_between : (n : ℕ) (pairs : List (ℕ × ℕ)) (count : ℕ) (labels : List ℕ) (between : List (ℕ × ℕ))
    → AreBelow n pairs → AreLabels n pairs count labels → ArePairsBetween pairs labels between → AreBelow count between
below_between n pairs count labels between below are lead = Each-from (λ p. (p.0 < count) × (p.1 < count)) between (λ p i. by p ((lead p.0 p.1).0 i))
  where
    by : (p : ℕ × ℕ) → IsPairBetween pairs labels p.0 p.1 → (p.0 < count) × (p.1 < count)
    by p (a, b, i, la, lb, d) =
        let ends = Each-In (λ p. (p.0 < n) × (p.1 < n)) pairs below (a, b) i in
        (subst (λ z. z < count) la (are.below a ends.0), subst (λ z. z < count) lb (are.below b ends.1))

pub class_rows : (pairs : List (ℕ × ℕ)) (count : ℕ) (labels : List ℕ) (between : List (ℕ × ℕ)) (rows : List (List ℕ))
    → ArePairsBetween pairs labels between → AreTargets count between rows → AreClassRows pairs labels rows
class_rows pairs count labels between rows lead are = λ e c. (
  λ i. (lead e c).0 ((are.each e c).0 i),
  λ h. (are.each e c).1 ((lead e c).1 h),
)
