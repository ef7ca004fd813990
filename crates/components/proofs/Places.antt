-- The order of the places of a part, as its statements.
use Rattle.std.proofs.Common.{◌≡◌, ◌↔◌, refl, sym, ap, subst, ◌∙◌, inl, inr, ℕ, zero, suc, ◌<◌, length, get_or, map, List, [], ◌∷◌, ◌++◌, arith}
use Rattle.std.proofs.lemmas.List.{map-append}
use Rattle.std.specs.List.{concat}
use Rattle.components.specs.Lists.{IsMember, Each, Pairwise, Distinct}
use Rattle.components.specs.Reachability.{Walk, AreMutual}
use Rattle.components.specs.Orders.{IsComponent, NoneBack, IsOrder}
use Rattle.components.specs.Emission.{WalkWithin, ReachesWithin, Components, ArePlaces, statements_of_classes}
use Rattle.components.proofs.ListLaws.{Each-In}
use Rattle.components.proofs.ClassLaws.{In-concat}

module _ {X Y : Type 0} (f : X → Y) where
  pub In-map : (xs : List X) (x : X) → IsMember x xs → IsMember (f x) (map f xs)
  In-map [] x i = absurd i
  In-map (y ∷ ys) x (inl e) = inl (ap f e)
  In-map (y ∷ ys) x (inr i) = inr (In-map ys x i)

  pub map-In : (xs : List X) (y : Y) → IsMember y (map f xs) → (x : X) × IsMember x xs × (y ≡ f x)
  map-In [] y i = absurd i
  map-In (x ∷ xs) y (inl e) = (x, inl refl, e)
  map-In (x ∷ xs) y (inr i) = let k = map-In xs y i in (k.0, inr k.1, k.2)

  Each-map : (P : Y → Type 0) (xs : List X) → ((x : X) → IsMember x xs → P (f x)) → Each P (map f xs)
  Each-map P [] h = tt
  Each-map P (x ∷ xs) h = (h x (inl refl), Each-map P xs (λ y i. h y (inr i)))

  Pairwise-map : (R : X → X → Type 0) (Q : Y → Y → Type 0) (xs : List X) → ((x y : X) → IsMember x xs → IsMember y xs → R x y → Q (f x) (f y)) → Pairwise R xs → Pairwise Q (map f xs)
  Pairwise-map R Q [] h k = tt
  Pairwise-map R Q (x ∷ xs) h k =
      (Each-map (Q (f x)) xs (λ y i. h x y (inl refl) (inr i) (Each-In (R x) xs k.0 y i)), Pairwise-map R Q xs (λ y z i j. h y z (inr i) (inr j)) k.1)

concat-map : (f : ℕ → ℕ) (cs : List (List ℕ)) → concat (map (map f) cs) ≡ map f (concat cs)
concat-map f [] = refl
concat-map f (c ∷ cs) = ap (λ z. map f c ++ z) (concat-map f cs) ∙ sym (map-append f c (concat cs))

map-nil : (f : ℕ → ℕ) (c : List ℕ) → map f c ≡ [] → c ≡ []
map-nil f [] e = refl
map-nil f (x ∷ xs) e = cc

-- ---- places

pub get_or-In : (xs : List ℕ) (i : ℕ) → i < length xs → IsMember (get_or xs i 0) xs
get_or-In [] i h = absurd (omega arith)
get_or-In (x ∷ xs) zero h = inl refl
get_or-In (x ∷ xs) (suc i) h = inr (get_or-In xs i (omega arith))

pub In-get_or : (xs : List ℕ) (x : ℕ) → IsMember x xs → (i : ℕ) × (i < length xs) × (x ≡ get_or xs i 0)
In-get_or [] x i = absurd i
In-get_or (y ∷ ys) x (inl e) = (0, omega arith, e)
In-get_or (y ∷ ys) x (inr i) = let k = In-get_or ys x i in (suc k.0, (let h : k.0 < length ys = k.1 in omega arith), k.2)

pub Distinct-get_or : (xs : List ℕ) → Distinct xs → (i j : ℕ) → i < length xs → j < length xs → get_or xs i 0 ≡ get_or xs j 0 → i ≡ j
Distinct-get_or [] d i j h k e = absurd (omega arith)
Distinct-get_or (x ∷ xs) d zero zero h k e = refl
Distinct-get_or (x ∷ xs) d zero (suc j) h k e = absurd (Each-In (λ y. ¬ (x ≡ y)) xs d.0 (get_or xs j 0) (get_or-In xs j (omega arith)) e)
Distinct-get_or (x ∷ xs) d (suc i) zero h k e = absurd (Each-In (λ y. ¬ (x ≡ y)) xs d.0 (get_or xs i 0) (get_or-In xs i (omega arith)) (sym e))
Distinct-get_or (x ∷ xs) d (suc i) (suc j) h k e = ap (λ z. suc z) (Distinct-get_or xs d.1 i j (omega arith) (omega arith) e)

module _ (part : List ℕ) (leaps pairs : List (ℕ × ℕ)) (classes : List (List ℕ)) (distinct : Distinct part) (places : ArePlaces part leaps pairs)
    (order : IsOrder (length part) pairs classes) where
  abbrev at : ℕ → ℕ
  at i = get_or part i 0

  walk_at : (over : List ℕ) (i j : ℕ) → Walk pairs i over j → WalkWithin part leaps (at i) (map at over) (at j)
  walk_at [] i j h = ap at h
  walk_at (q ∷ over) i j h = let p = (places i q).0 h.0 in (p.2, get_or-In part q p.1, walk_at over q j h.1)

  same : (s : ℕ) → IsMember s part ↔ IsMember s (concat (statements_of_classes part classes))
  same s = (λ i. to (In-get_or part s i), λ i. from (map-In at (concat classes) s (subst (IsMember s) (concat-map at classes) i)))
    where
      to : (i : ℕ) × (i < length part) × (s ≡ at i) → IsMember s (concat (statements_of_classes part classes))
      to k = subst (IsMember s) (sym (concat-map at classes)) (subst (λ z. IsMember z (map at (concat classes))) (sym k.2) (In-map at (concat classes) k.0 ((order.members k.0).1 k.1)))

      from : (i : ℕ) × IsMember i (concat classes) × (s ≡ at i) → IsMember s part
      from k = subst (λ z. IsMember z part) (sym k.2) (get_or-In part k.0 ((order.members k.0).0 k.1))

  reachable : (c : List ℕ) → IsMember c classes → (s r : ℕ) → IsMember s (map at c) → IsMember r (map at c) → ReachesWithin part leaps s r
  reachable c i s r j k = by (map-In at c s j) (map-In at c r k)
    where
      by : (x : ℕ) × IsMember x c × (s ≡ at x) → (y : ℕ) × IsMember y c × (r ≡ at y) → ReachesWithin part leaps s r
      by x y =
          let m : AreMutual pairs x.0 y.0 = (Each-In (IsComponent pairs) classes order.components c i x.0 y.0 x.1).0 y.1 in
          (map at m.0.0, subst (λ z. WalkWithin part leaps z (map at m.0.0) r) (sym x.2) (subst (λ z. WalkWithin part leaps (at x.0) (map at m.0.0) z) (sym y.2) (walk_at m.0.0 x.0 y.0 m.0.1)))

  below : (c : List ℕ) (i : ℕ) → IsMember c classes → IsMember i c → i < length part
  below c i j k = (order.members i).0 (In-concat i c classes j k)

  forward : (c later : List ℕ) → IsMember c classes → IsMember later classes → NoneBack pairs c later → NoneBack leaps (map at c) (map at later)
  forward c later i j h s r k l p = by (map-In at later s k) (map-In at c r l)
    where
      by : (x : ℕ) × IsMember x later × (s ≡ at x) → (y : ℕ) × IsMember y c × (r ≡ at y) → ⊥
      by x y =
          let moved : IsMember (at x.0, at y.0) leaps = subst (λ z. IsMember (z, at y.0) leaps) x.2 (subst (λ z. IsMember (s, z) leaps) y.2 p) in
          h x.0 y.0 x.1 y.1 ((places x.0 y.0).1 (below later x.0 j x.1, below c y.0 i y.1, moved))

  pub order_has_components : Components part leaps (statements_of_classes part classes)
  order_has_components = record {
    same = same;
    once = subst Distinct (sym (concat-map at classes)) (Pairwise-map at (λ x y. ¬ (x ≡ y)) (λ x y. ¬ (x ≡ y)) (concat classes)
        (λ x y i j d e. d (Distinct-get_or part distinct x y ((order.members x).0 i) ((order.members y).0 j) e)) order.once);
    reachable = Each-map (map at) (λ c. (s r : ℕ) → IsMember s c → IsMember r c → ReachesWithin part leaps s r) classes reachable;
    filled = Each-map (map at) (λ c. ¬ (c ≡ [])) classes (λ c i e. Each-In (λ c. ¬ (c ≡ [])) classes order.filled c i (map-nil at c e));
    forward = Pairwise-map (map at) (NoneBack pairs) (NoneBack leaps) classes forward order.forward;
  }
