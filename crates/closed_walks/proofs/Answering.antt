-- What is known at first, and what follows from the sweeps.
use Rattle.std.proofs.Common.{◌≡◌, refl, sym, ap, ◌∙◌, subst, ◌⊎◌, inl, inr, ℕ, zero, suc, ◌+◌, ◌<◌, ◌≤◌, Bool, true, false, Option, Some, None, List, [], ◌∷◌, length, set, replicate, arith, get_or-set_same, get_or-set_other}
use Rattle.std.specs.Prelude.{is_some}
use Rattle.std.proofs.lemmas.Bool.{cases_eq}
use Rattle.std.proofs.lemmas.List.{length-set, length-replicate}
use Rattle.components.specs.Reachability.{Walk}
use Rattle.closed_walks.specs.Distances.{CanFollow, HasNoneBefore, IsDistance, IsLeastNext, IsNext, IsSweep, LeadsTo, at, known}
use Rattle.closed_walks.proofs.Loops.{known_set}

some_none : {A : Type 0} (x : A) → ◌≡◌ {A = Option A} (Some x) None → ⊥
some_none x e = cc

some_same : {A : Type 0} (x y : A) → ◌≡◌ {A = Option A} (Some x) (Some y) → x ≡ y
some_same x y e = cc

is_known : (o : Option ℕ) → (o ≡ None) ⊎ ((d : ℕ) × (o ≡ Some d))
is_known None = inl refl
is_known (Some d) = inr (d, refl)

pub has_some : (o : Option ℕ) → is_some o ≡ true → (q : ℕ) × (o ≡ Some q)
has_some None e = cc
has_some (Some q) e = (q, refl)

pub has_none : (o : Option ℕ) → is_some o ≡ false → o ≡ None
has_none None e = refl
has_none (Some q) e = cc

none_at : (n v : ℕ) → at (replicate n None) v ≡ None
none_at zero v = refl
none_at (suc n) zero = refl
none_at (suc n) (suc v) = none_at n v

none_known : (n : ℕ) → known (replicate n None) ≡ 0
none_known zero = refl
none_known (suc n) = none_known n

module _ (pairs : List (ℕ × ℕ)) (n s : ℕ) (inside : s < n) (steps : List (Option ℕ)) (is : steps ≡ set (replicate n None) s (Some 0)) where
  in_list : s < length (replicate {A = Option ℕ} n None)
  in_list = subst (λ z. s < z) (sym (length-replicate n None)) inside

  here : at steps s ≡ Some 0
  here = ap (λ z. at z s) is ∙ get_or-set_same (replicate n None) s (Some 0) None in_list

  alone : (v d : ℕ) → at steps v ≡ Some d → (v ≡ s) × (d ≡ 0)
  alone v d e = by (cases_eq v s)
    where
      by : (v ≡ s) ⊎ (v ≡ s → ⊥) → (v ≡ s) × (d ≡ 0)
      by (inl f) = (f, some_same d 0 (sym e ∙ (ap (at steps) f ∙ here)))
      by (inr f) = absurd (some_none d (sym e ∙ (ap (λ z. at z v) is ∙ (get_or-set_other (replicate n None) s v (Some 0) None f ∙ none_at n v))))

  pub first_size : length steps ≡ n
  first_size = ap length is ∙ (length-set (replicate n None) s (Some 0) ∙ length-replicate n None)

  pub first_known : known steps ≡ 1
  first_known = ap known is ∙ let a = known_set (replicate n None) s 0 in_list (none_at n s) in let b = none_known n in omega arith

  pub first_distance : IsDistance pairs s 0 steps
  first_distance = record {
    target = here;
    reached = λ v d e. record { over = []; long = sym (alone v d e).1; walk = (alone v d e).0 };
    bounded = λ v d e. let f = (alone v d e).1 in omega arith;
    least = λ v d over e w. let f = (alone v d e).1 in omega arith;
    beyond = λ v over e w. by v over e w;
  }
    where
      by : (v : ℕ) (over : List ℕ) → at steps v ≡ None → Walk pairs v over s → 0 < length over
      by v [] e w = absurd (some_none 0 (sym here ∙ (ap (at steps) (sym w) ∙ e)))
      by v (q ∷ over) e w = omega arith

module _ (pairs : List (ℕ × ℕ)) (s k : ℕ) (steps : List (Option ℕ)) (d : IsDistance pairs s k steps) where
  -- where s leads to one of k steps, all steps can be followed
  pub can_follow : (q : ℕ) → IsNext pairs steps s k q → CanFollow pairs steps s (k + 1)
  can_follow q next a n le first later = by (cases_eq n k)
    where
      by : (n ≡ k) ⊎ (n ≡ k → ⊥) → LeadsTo pairs steps n a
      by (inl e) = subst (LeadsTo pairs steps n) (sym (first (omega arith))) (q, next.leads, next.has ∙ ap Some (sym e))
      by (inr other) =
          let e : at steps a ≡ Some (n + 1) = later (omega arith) in
          let r = d.reached a (n + 1) e in
          begin r.over r.long r.walk e
        where
          begin : (over : List ℕ) → length over ≡ n + 1 → Walk pairs a over s → at steps a ≡ Some (n + 1) → LeadsTo pairs steps n a
          begin [] l w e = absurd (omega arith)
          begin (r ∷ over) l w e = (r, w.0, which (is_known (at steps r)))
            where
              which : (at steps r ≡ None) ⊎ ((c : ℕ) × (at steps r ≡ Some c)) → at steps r ≡ Some n
              which (inl none) = absurd (let f : k < length over = d.beyond r over none w.1 in let g : suc (length over) ≡ n + 1 = l in omega arith)
              which (inr c) =
                  let f : c.0 ≤ length over = d.least r c.0 over c.1 w.1 in
                  let m = d.reached r c.0 c.1 in
                  let h : n + 1 ≤ suc (length m.over) = d.least a (n + 1) (r ∷ m.over) e (w.0, m.walk) in
                  let o : length m.over ≡ c.0 = m.long in
                  let g : suc (length over) ≡ n + 1 = l in
                  c.1 ∙ ap Some (let z : c.0 ≡ n = omega arith in z)

  -- where s leads to none of k steps, it leads to none of fewer than k + 1
  pub none_before_more : HasNoneBefore pairs steps s k → IsLeastNext pairs steps s k None → HasNoneBefore pairs steps s (k + 1)
  none_before_more before none r c i e = by (cases_eq c k)
    where
      by : (c ≡ k) ⊎ (c ≡ k → ⊥) → k + 1 ≤ c
      by (inl f) = absurd (none r i (e ∙ ap Some f))
      by (inr f) = let g : k ≤ c = before r c i e in omega arith

  pub none_before_swept : (new : List (Option ℕ)) (any : Bool) → IsSweep pairs k steps new any → HasNoneBefore pairs steps s (k + 1) → HasNoneBefore pairs new s (k + 1)
  none_before_swept new any w before r c i e = by (is_known (at steps r))
    where
      by : (at steps r ≡ None) ⊎ ((x : ℕ) × (at steps r ≡ Some x)) → k + 1 ≤ c
      by (inl none) = let f : c ≡ k + 1 = (w.only r c none e).0 in omega arith
      by (inr x) = before r c i (x.1 ∙ ap Some (some_same x.0 c (sym (w.kept r x.0 x.1) ∙ e)))
