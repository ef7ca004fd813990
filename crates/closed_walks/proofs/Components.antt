-- Closed walks in components.
use Rattle.std.proofs.Common.{◌≡◌, refl, sym, ap, ◌∙◌, subst, inl, inr, ℕ, suc, ◌≤◌, List, [], ◌∷◌, ◌++◌, length, arith}
use Rattle.components.specs.Lists.{Each, IsMember}
use Rattle.components.specs.Orders.{IsComponent}
use Rattle.components.specs.Reachability.{Reaches, Walk}
use Rattle.closed_walks.specs.Laws.{LeastWalkIsUnique, LoneMembersHaveOwnPairs, MembersHaveWalks, WalksStayInComponents}
use Rattle.closed_walks.specs.Walks.{IsClosedWalk, IsNoLaterWalk}

module _ (pairs : List (ℕ × ℕ)) where
  -- one walk behind another
  joined : (a : ℕ) (us : List ℕ) (b : ℕ) (vs : List ℕ) (c : ℕ) → Walk pairs a us b → Walk pairs b vs c → Walk pairs a (us ++ vs) c
  joined a [] b vs c w v = subst (λ z. Walk pairs z vs c) (sym w) v
  joined a (u ∷ us) b vs c w v = (w.0, joined u us b vs c w.1 v)

  module _ (c : List ℕ) (h : IsComponent pairs c) (a : ℕ) (i : IsMember a c) where
    stays : (q : ℕ) (over : List ℕ) → Reaches pairs a q → Walk pairs q over a → Each (λ x. IsMember x c) over
    stays q [] r w = tt
    stays q (x ∷ over) r w =
        let there : Reaches pairs a x = (r.0 ++ x ∷ [], joined a r.0 q (x ∷ []) x r.1 (w.0, refl)) in
        ((h a x i).1 (there, (over, w.1)), stays x over there w.1)

pub walks_stay_in_components : WalksStayInComponents
walks_stay_in_components pairs c a over h i closed = stays pairs c h a i a over ([], refl) closed.walk

some_step : (pairs : List (ℕ × ℕ)) (a b : ℕ) (us vs : List ℕ) → Walk pairs a us b → ¬ (a ≡ b) → 1 ≤ length (us ++ vs)
some_step pairs a b [] vs w apart = absurd (apart w)
some_step pairs a b (u ∷ us) vs w apart = omega arith

pub members_have_walks : MembersHaveWalks
members_have_walks pairs c a b h i j apart =
    let m = (h a b i).0 j in
    (m.0.0 ++ m.1.0, record { some = some_step pairs a b m.0.0 m.1.0 m.0.1 apart; walk = joined pairs a m.0.0 b m.1.0 a m.0.1 m.1.1 })

pub lone_members_have_own_pairs : LoneMembersHaveOwnPairs
lone_members_have_own_pairs pairs a h = ((λ w. to w.0 w.1), (λ i. (a ∷ [], record { some = omega arith; walk = (i, refl) })))
  where
    to : (over : List ℕ) → IsClosedWalk pairs a over → IsMember (a, a) pairs
    to [] closed = absurd (let e : 1 ≤ 0 = closed.some in omega arith)
    to (q ∷ over) closed = by (walks_stay_in_components pairs (a ∷ []) a (q ∷ over) h (inl refl) closed).0
      where
        by : IsMember q (a ∷ []) → IsMember (a, a) pairs
        by (inl e) = subst (λ z. IsMember (a, z) pairs) e closed.walk.0
        by (inr none) = absurd none

-- two lists of one length, neither of which is later
same_lists : (xs ys : List ℕ) → length xs ≡ length ys → IsNoLaterWalk xs ys → IsNoLaterWalk ys xs → xs ≡ ys
same_lists [] [] e h g = refl
same_lists [] (y ∷ ys) e h g = absurd (omega arith)
same_lists (x ∷ xs) [] e h g = absurd (omega arith)
same_lists (x ∷ xs) (y ∷ ys) e (inl h) (inl g) = absurd (omega arith)
same_lists (x ∷ xs) (y ∷ ys) e (inl h) (inr g) = absurd (let f : y ≡ x = g.0 in omega arith)
same_lists (x ∷ xs) (y ∷ ys) e (inr h) (inl g) = absurd (let f : x ≡ y = h.0 in omega arith)
same_lists (x ∷ xs) (y ∷ ys) e (inr h) (inr g) = ap (λ z. z ∷ xs) h.0 ∙ ap (λ zs. y ∷ zs) (same_lists xs ys (let f : suc (length xs) ≡ suc (length ys) = e in omega arith) h.1 g.1)

pub least_walk_is_unique : LeastWalkIsUnique
least_walk_is_unique pairs s xs ys h g =
    let a : length xs ≤ length ys = h.shortest ys g.closed in
    let b : length ys ≤ length xs = g.shortest xs h.closed in
    let e : length xs ≡ length ys = omega arith in
    same_lists xs ys e (h.least ys g.closed (sym e)) (g.least xs h.closed e)
