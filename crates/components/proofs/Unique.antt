-- A relation has one order of its components, however its pairs are listed.
use Rattle.std.proofs.Common.{◌≡◌, ◌↔◌, refl, sym, subst, ◌⊎◌, inl, inr, ℕ, ◌<◌, List, [], ◌∷◌, arith}
use Rattle.std.specs.List.{concat}
use Rattle.components.specs.Lists.{IsMember, Each, Pairwise, Distinct, Rises}
use Rattle.components.specs.Reachability.{SamePairs, AreMutual}
use Rattle.components.specs.Orders.{IsComponent, NoneBack, MayComeNext, HasLess, LeastFirst, IsOrder}
use Rattle.components.proofs.ListLaws.{Each-In, Each-from, Pairwise-weaker, In-left, In-right, In-append}
use Rattle.components.proofs.ClassLaws.{concat-In, some_member, Pairwise-right, Pairwise-across, Rises-same}
use Rattle.components.proofs.Walks.{Reaches-others}

module _ (pairs : List (ℕ × ℕ)) where
  -- of an order what holds of each end of it too
  record Ordered (cs : List (List ℕ)) : Type 0 where
    once : Distinct (concat cs)
    filled : Each (λ c. ¬ (c ≡ [])) cs
    rising : Each Rises cs
    components : Each (IsComponent pairs) cs
    forward : Pairwise (NoneBack pairs) cs
    least_first : LeastFirst pairs cs

  later_ordered : (c : List ℕ) (cs : List (List ℕ)) → Ordered (c ∷ cs) → Ordered cs
  later_ordered c cs o = record {
    once = Pairwise-right (λ x y. ¬ (x ≡ y)) c (concat cs) o.once;
    filled = o.filled.1;
    rising = o.rising.1;
    components = o.components.1;
    forward = o.forward.1;
    least_first = o.least_first.1;
  }

  same_class : (c d : List ℕ) → IsComponent pairs c → IsComponent pairs d → (x : ℕ) → IsMember x c → IsMember x d → (b : ℕ) → IsMember b c → IsMember b d
  same_class c d h k x i j b l = (k x b j).1 ((h x b i).0 l)

  first_may_come : (c : List ℕ) (cs : List (List ℕ)) → Ordered (c ∷ cs) → MayComeNext pairs (c ∷ cs) c
  first_may_come c cs o a b i j p = by (In-append a c (concat cs) i)
    where
      by : IsMember a c ⊎ IsMember a (concat cs) → IsMember a c
      by (inl k) = k
      by (inr k) = let d = concat-In a cs k in absurd (Each-In (NoneBack pairs c) cs o.forward.0 d.0 d.1 a b d.2 j p)

  -- what comes first in one order, and later in another, has its least member above the first of that other
  less_than : (c : List ℕ) (cs : List (List ℕ)) (d : List ℕ) (ds : List (List ℕ)) → Ordered (c ∷ cs) → Ordered (d ∷ ds)
      → ((a : ℕ) → IsMember a (concat (d ∷ ds)) → IsMember a (concat (c ∷ cs))) → (x : ℕ) → IsMember x c → (e : List ℕ) → IsMember e ds → IsMember x e → HasLess d c
  less_than c cs d ds o p members x i e j k =
      let comp : IsComponent pairs e = Each-In (IsComponent pairs) ds p.components.1 e j in
      let to_e : (b : ℕ) → IsMember b c → IsMember b e = same_class c e o.components.0 comp x i k in
      let to_c : (b : ℕ) → IsMember b e → IsMember b c = same_class e c comp o.components.0 x k i in
      let h : HasLess d e = Each-In (λ e. MayComeNext pairs (d ∷ ds) e → HasLess d e) ds p.least_first.0 e j
      (λ a b l m q. to_e a (first_may_come c cs o a b (members a l) (to_c b m) q)) in
      (h.0, h.1, Each-from (λ b. h.0 < b) c (λ b l. Each-In (λ b. h.0 < b) e h.2 b (to_e b l)))

  not_both_less : (c d : List ℕ) → HasLess c d → HasLess d c → ⊥
  not_both_less c d h k =
      let l : h.0 < k.0 = Each-In (λ b. h.0 < b) d h.2 k.0 k.1 in
      let m : k.0 < h.0 = Each-In (λ b. k.0 < b) c k.2 h.0 h.1 in
      omega arith

  shared : (c : List ℕ) (cs : List (List ℕ)) (d : List ℕ) (ds : List (List ℕ)) → Ordered (c ∷ cs) → Ordered (d ∷ ds)
      → ((a : ℕ) → IsMember a (concat (c ∷ cs)) ↔ IsMember a (concat (d ∷ ds))) → (x : ℕ) × IsMember x c × IsMember x d
  shared c cs d ds o p members =
      let x = some_member c o.filled.0 in
      let y = some_member d p.filled.0 in
      by x.0 x.1 y.0 y.1 (In-append x.0 d (concat ds) ((members x.0).0 (In-left x.0 c (concat cs) x.1)))
      (In-append y.0 c (concat cs) ((members y.0).1 (In-left y.0 d (concat ds) y.1)))
    where
      by : (x : ℕ) → IsMember x c → (y : ℕ) → IsMember y d → IsMember x d ⊎ IsMember x (concat ds) → IsMember y c ⊎ IsMember y (concat cs) → (x : ℕ) × IsMember x c × IsMember x d
      by x i y j (inl k) l = (x, i, k)
      by x i y j (inr k) (inl l) = (y, l, j)
      by x i y j (inr k) (inr l) =
          let e = concat-In x ds k in
          let f = concat-In y cs l in
          absurd (not_both_less d c (less_than c cs d ds o p (λ a. (members a).1) x i e.0 e.1 e.2) (less_than d ds c cs p o (λ a. (members a).0) y j f.0 f.1 f.2))

  same_later : (c : List ℕ) (cs : List (List ℕ)) (d : List ℕ) (ds : List (List ℕ)) → Distinct (concat (c ∷ cs)) → c ≡ d
      → (a : ℕ) → IsMember a (concat cs) → IsMember a (concat (d ∷ ds)) → IsMember a (concat ds)
  same_later c cs d ds once e a i j = by (In-append a d (concat ds) j)
    where
      by : IsMember a d ⊎ IsMember a (concat ds) → IsMember a (concat ds)
      by (inl k) = absurd (Pairwise-across (λ x y. ¬ (x ≡ y)) c (concat cs) once a a (subst (IsMember a) (sym e) k) i refl)
      by (inr k) = k

  unique : (cs ds : List (List ℕ)) → Ordered cs → Ordered ds → ((a : ℕ) → IsMember a (concat cs) ↔ IsMember a (concat ds)) → cs ≡ ds
  unique [] [] o p members = refl
  unique [] (d ∷ ds) o p members = let x = some_member d p.filled.0 in absurd ((members x.0).1 (In-left x.0 d (concat ds) x.1))
  unique (c ∷ cs) [] o p members = let x = some_member c o.filled.0 in absurd ((members x.0).0 (In-left x.0 c (concat cs) x.1))
  unique (c ∷ cs) (d ∷ ds) o p members =
      let x = shared c cs d ds o p members in
      let e : c ≡ d = Rises-same c d o.rising.0 p.rising.0 (same_class c d o.components.0 p.components.0 x.0 x.1 x.2) (same_class d c p.components.0 o.components.0 x.0 x.2 x.1) in
      let t : cs ≡ ds = unique cs ds (later_ordered c cs o) (later_ordered d ds p)
      (λ a. (
        λ i. same_later c cs d ds o.once e a i ((members a).0 (In-right a c (concat cs) i)),
        λ i. same_later d ds c cs p.once (sym e) a i ((members a).1 (In-right a d (concat ds) i)),
      )) in
      cc

  ordered : (n : ℕ) (cs : List (List ℕ)) → IsOrder n pairs cs → Ordered cs
  ordered n cs o = record { once = o.once; filled = o.filled; rising = o.rising; components = o.components; forward = o.forward; least_first = o.least_first }

  one_order : (n : ℕ) (cs ds : List (List ℕ)) → IsOrder n pairs cs → IsOrder n pairs ds → cs ≡ ds
  one_order n cs ds o p = unique cs ds (ordered n cs o) (ordered n ds p)
      (λ a. (λ i. (p.members a).1 ((o.members a).0 i), λ i. (o.members a).1 ((p.members a).0 i)))

-- ---- the same pairs listed otherwise

module _ (pairs others : List (ℕ × ℕ)) (same : SamePairs pairs others) where
  AreMutual-others : (a b : ℕ) → AreMutual pairs a b ↔ AreMutual others a b
  AreMutual-others a b = (
    λ m. (Reaches-others pairs others (λ p. (same p).0) a b m.0, Reaches-others pairs others (λ p. (same p).0) b a m.1),
    λ m. (Reaches-others others pairs (λ p. (same p).1) a b m.0, Reaches-others others pairs (λ p. (same p).1) b a m.1),
  )

  component_others : (c : List ℕ) → IsComponent pairs c → IsComponent others c
  component_others c h a b i = (λ j. (AreMutual-others a b).0 ((h a b i).0 j), λ m. (h a b i).1 ((AreMutual-others a b).1 m))

  least_first_others : (cs : List (List ℕ)) → LeastFirst pairs cs → LeastFirst others cs
  least_first_others [] h = tt
  least_first_others (c ∷ cs) h = (
    Each-from (λ d. MayComeNext others (c ∷ cs) d → HasLess c d) cs
        (λ d i next. Each-In (λ d. MayComeNext pairs (c ∷ cs) d → HasLess c d) cs h.0 d i (λ a b j k p. next a b j k ((same (a, b)).0 p))),
    least_first_others cs h.1,
  )

  order_of_others : (n : ℕ) (cs : List (List ℕ)) → IsOrder n pairs cs → IsOrder n others cs
  order_of_others n cs o = record {
    members = o.members;
    once = o.once;
    filled = o.filled;
    rising = o.rising;
    components = Each-from (IsComponent others) cs (λ c i. component_others c (Each-In (IsComponent pairs) cs o.components c i));
    forward = Pairwise-weaker (NoneBack pairs) (NoneBack others) (λ c d h a b i j p. h a b i j ((same (a, b)).1 p)) cs o.forward;
    least_first = least_first_others cs o.least_first;
  }

  pub order_is_unique : (n : ℕ) (cs ds : List (List ℕ)) → IsOrder n pairs cs → IsOrder n others ds → cs ≡ ds
  order_is_unique n cs ds o p = one_order others n cs ds (order_of_others n cs o) p
