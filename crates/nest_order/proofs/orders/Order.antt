-- Any order that keeps what is asked gives the same run.
use Rattle.std.proofs.Common.{◌≡◌, refl, sym, ap, ◌∙◌, subst, ◌⊎◌, ◌↔◌, inl, inr, List, [], ◌∷◌, ◌++◌, Result, Ok, Err}
use Rattle.nest_order.specs.orders.Lists.{Distinct, Each, In, Keeps, Pairwise}
use Rattle.nest_order.specs.orders.Orders.{Invariant, MayPass, and_then, runs}
use Rattle.nest_order.proofs.orders.Lists.{Each-In, Each-from, place, Pairwise-front, Pairwise-without, In-left, In-with, In-without, Distinct-rest}

-- what a run without fault has gone through
pub split : {S F : Type 0} (r : Result S F) (k : S → Result S F) (t : S) → and_then r k ≡ Ok t → (s : S) × (r ≡ Ok s) × (k s ≡ Ok t)
split (Ok s) k t e = (s, refl, e)
split (Err f) k t e = cc

pub joined : {S F : Type 0} (r : Result S F) (k : S → Result S F) (s : S) → r ≡ Ok s → and_then r k ≡ k s
joined r k s e = ap (λ q. and_then q k) e

module _ {S A F : Type 0} (step : A → S → Result S F) (IsAction : A → Type 0) (I : S → Type 0) (invariant : Invariant step IsAction I) where
  -- one that may be passed by all before it may come first
  pub to_the_front : (b : A) (front back : List A) (s t : S) → Each IsAction front → Each (λ a. MayPass step I a b) front → I s
      → runs step (front ++ b ∷ back) s ≡ Ok t → runs step (b ∷ front ++ back) s ≡ Ok t
  to_the_front b [] back s t are h i e = e
  to_the_front b (a ∷ front) back s t are h i e =
      let p = split (step a s) (runs step (front ++ b ∷ back)) t e in
      let q = split (step b p.0) (runs step (front ++ back)) t (to_the_front b front back p.0 t are.1 h.1 (invariant a s p.0 are.0 i p.1) p.2) in
      let ab : runs step (a ∷ b ∷ []) s ≡ Ok q.0 = joined (step a s) (runs step (b ∷ [])) p.0 p.1 ∙ joined (step b p.0) (runs step []) q.0 q.1 in
      let ba = split (step b s) (runs step (a ∷ [])) q.0 (h.0 s q.0 i ab) in
      let last = split (step a ba.0) (runs step []) q.0 ba.2 in
      joined (step b s) (runs step (a ∷ front ++ back)) ba.0 ba.1
      ∙ (joined (step a ba.0) (runs step (front ++ back)) last.0 last.1 ∙ (ap (runs step (front ++ back)) (cc) ∙ q.2))

  module _ (B : A → A → Type 0) (y : A) (ys front back : List A) (dx : Distinct (front ++ y ∷ back)) (dy : Distinct (y ∷ ys))
      (same : (a : A) → In a (front ++ y ∷ back) ↔ In a (y ∷ ys)) (pairs : Pairwise (λ a b. B a b ⊎ MayPass step I a b) (front ++ y ∷ back)) (keeps : Keeps B (y ∷ ys)) where
    into : (a : A) → In a (front ++ back) → In a ys
    into a j = by ((same a).0 (In-without y a front back j))
      where
        by : (a ≡ y) ⊎ In a ys → In a ys
        by (inl f) = absurd (Distinct-rest y front back dx (subst (λ z. In z (front ++ back)) f j))
        by (inr k) = k

    out : (a : A) → In a ys → In a (front ++ back)
    out a j = by (In-with y a front back ((same a).1 (inr j)))
      where
        by : (a ≡ y) ⊎ In a (front ++ back) → In a (front ++ back)
        by (inl f) = absurd (Each-In (λ z. ¬ (y ≡ z)) ys dy.0 a j (sym f))
        by (inr k) = k

    -- the others are the same
    rest_same : (a : A) → In a (front ++ back) ↔ In a ys
    rest_same a = (into a, out a)

    -- y may be passed by all that stand before it
    passed : Each (λ a. MayPass step I a y) front
    passed = Each-from (λ a. MayPass step I a y) front (λ a j. by a j (Each-In (λ z. B z y ⊎ MayPass step I z y) front (Pairwise-front (λ a b. B a b ⊎ MayPass step I a b) y front back pairs) a j))
      where
        by : (a : A) → In a front → B a y ⊎ MayPass step I a y → MayPass step I a y
        by a j (inl f) = absurd (Each-In (λ z. ¬ (B z y)) ys keeps.0 a (into a (In-left a front back j)) f)
        by a j (inr k) = k

  pub in_order : (B : A → A → Type 0) (ys xs : List A) (s t : S) → ((a : A) → In a xs → IsAction a) → Distinct xs → Distinct ys → ((a : A) → In a xs ↔ In a ys)
      → Pairwise (λ a b. B a b ⊎ MayPass step I a b) xs → Keeps B ys → I s → runs step xs s ≡ Ok t → runs step ys s ≡ Ok t
  in_order B [] [] s t are dx dy same pairs keeps i e = e
  in_order B [] (x ∷ xs) s t are dx dy same pairs keeps i e = absurd ((same x).0 (inl refl))
  in_order B (y ∷ ys) xs s t are dx dy same pairs keeps i e =
      let p = place y xs ((same y).1 (inl refl)) in
      let dx' : Distinct (p.front ++ y ∷ p.back) = subst Distinct p.is dx in
      let same' : (a : A) → In a (p.front ++ y ∷ p.back) ↔ In a (y ∷ ys) = subst (λ zs. (a : A) → In a zs ↔ In a (y ∷ ys)) p.is same in
      let pairs' : Pairwise (λ a b. B a b ⊎ MayPass step I a b) (p.front ++ y ∷ p.back) = subst (Pairwise (λ a b. B a b ⊎ MayPass step I a b)) p.is pairs in
      let are' : (a : A) → In a (p.front ++ y ∷ p.back) → IsAction a = subst (λ zs. (a : A) → In a zs → IsAction a) p.is are in
      let first = to_the_front y p.front p.back s t (Each-from IsAction p.front (λ a j. are' a (In-left a p.front (y ∷ p.back) j))) (passed B y ys p.front p.back dx' dy same' pairs' keeps) i (subst (λ zs. runs step zs s ≡ Ok t) p.is e) in
      let here = split (step y s) (runs step (p.front ++ p.back)) t first in
      joined (step y s) (runs step ys) here.0 here.1
      ∙ in_order B ys (p.front ++ p.back) here.0 t (λ a j. are' a (In-without y a p.front p.back j)) (Pairwise-without (λ a b. ¬ (a ≡ b)) y p.front p.back dx') dy.1 (rest_same B y ys p.front p.back dx' dy same' pairs' keeps)
      (Pairwise-without (λ a b. B a b ⊎ MayPass step I a b) y p.front p.back pairs') keeps.1 (invariant y s here.0 (are y ((same y).1 (inl refl))) i here.1) here.2
