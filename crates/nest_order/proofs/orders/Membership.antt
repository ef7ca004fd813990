-- The instances of a shape are those of its statements within the trips of their loops, once each.
use Rattle.std.proofs.Common.{◌≡◌, refl, sym, ap, subst, ◌⊎◌, inl, inr, ℕ, zero, suc, ◌+◌, ◌<◌, ◌≤◌, List, [], ◌∷◌, ◌++◌, map, arith, eq-or-lt_of_le}
use Rattle.nest_order.specs.orders.Lists.{In, Pairwise}
use Rattle.nest_order.specs.orders.Shapes.{Instance, Loop, Shape, Shapes, Single, Stands, StandsIn, Within, instances, instances_in, no_shapes, shape, turns, within_turn}
use Rattle.nest_order.proofs.orders.Lists.{Each-In, Each-from, Pairwise-append, In-left, In-right, In-append}

-- ---- turns

pub record AtTurn {X : Type 0} (x : X) (i n : ℕ) (f : ℕ → List X) : Type 0 where
  pub turn : ℕ
  pub from : i ≤ turn
  pub below : turn < i + n
  pub holds : In x (f turn)

pub In-turns : {X : Type 0} (x : X) (i n : ℕ) (f : ℕ → List X) → In x (turns i n f) → AtTurn x i n f
In-turns x i zero f h = absurd h
In-turns x i (suc n) f h = by (In-append x (f i) (turns (suc i) n f) h)
    (λ k. In-turns x (suc i) n f k)
  where
    by : In x (f i) ⊎ In x (turns (suc i) n f) → (In x (turns (suc i) n f) → AtTurn x (suc i) n f) → AtTurn x i (suc n) f
    by (inl k) more = record { turn = i; from = omega arith; below = omega arith; holds = k }
    by (inr k) more = let m = more k in
        let a : suc i ≤ m.turn = m.from in
        let b : m.turn < suc i + n = m.below in
        record { turn = m.turn; from = omega arith; below = omega arith; holds = m.holds }

pub turns-In : {X : Type 0} (x : X) (k i n : ℕ) (f : ℕ → List X) → i ≤ k → k < i + n → In x (f k) → In x (turns i n f)
turns-In x k i zero f a b h = absurd (omega arith)
turns-In x k i (suc n) f a b h = by (same_or_later i k a) (λ c. turns-In x k (suc i) n f c (omega arith) h)
  where
    same_or_later : (i k : ℕ) → i ≤ k → (i ≡ k) ⊎ (suc i ≤ k)
    same_or_later i k a = eq-or-lt_of_le a

    by : (i ≡ k) ⊎ (suc i ≤ k) → (suc i ≤ k → In x (turns (suc i) n f)) → In x (f i ++ turns (suc i) n f)
    by (inl e) more = In-left x (f i) (turns (suc i) n f) (subst (λ j. In x (f j)) (sym e) h)
    by (inr c) more = In-right x (f i) (turns (suc i) n f) (more c)

pub record Of {X Y : Type 0} (f : X → Y) (y : Y) (xs : List X) : Type 0 where
  pub it : X
  pub inside : In it xs
  pub is : y ≡ f it

pub In-map : {X Y : Type 0} (f : X → Y) (y : Y) (xs : List X) → In y (map f xs) → Of f y xs
In-map f y [] h = absurd h
In-map f y (x ∷ xs) (inl e) = record { it = x; inside = inl refl; is = e }
In-map f y (x ∷ xs) (inr i) = let o = In-map f y xs i in record { it = o.it; inside = inr o.inside; is = o.is }

pub map-In : {X Y : Type 0} (f : X → Y) (x : X) (xs : List X) → In x xs → In (f x) (map f xs)
map-In f x [] h = absurd h
map-In f x (z ∷ xs) (inl e) = inl (ap f e)
map-In f x (z ∷ xs) (inr i) = inr (map-In f x xs i)

pub Pairwise-turns : {X : Type 0} (R : X → X → Type 0) (i n : ℕ) (f : ℕ → List X) → ((k : ℕ) → Pairwise R (f k))
    → ((j k : ℕ) (x y : X) → j < k → In x (f j) → In y (f k) → R x y) → Pairwise R (turns i n f)
Pairwise-turns R i zero f each across = tt
Pairwise-turns R i (suc n) f each across = Pairwise-append R (f i) (turns (suc i) n f) (each i) (Pairwise-turns R (suc i) n f each across)
    (λ x y a b. let m = In-turns y (suc i) n f b in let c : suc i ≤ m.turn = m.from in across i m.turn x y (omega arith) a m.holds)

pub Pairwise-map : {X Y : Type 0} (P : X → X → Type 0) (R : Y → Y → Type 0) (f : X → Y) (xs : List X) → ((x y : X) → In x xs → In y xs → P x y → R (f x) (f y)) → Pairwise P xs → Pairwise R (map f xs)
Pairwise-map P R f [] c h = tt
Pairwise-map P R f (x ∷ xs) c h = (
  Each-from (R (f x)) (map f xs) (λ y i. let o = In-map f y xs i in subst (R (f x)) (sym o.is) (c x o.it (inl refl) (inr o.inside) (Each-In (P x) xs h.0 o.it o.inside))),
  Pairwise-map P R f xs (λ u v i j. c u v (inr i) (inr j)) h.1,
)

-- ---- which instances there are

pub record Standing (trip : ℕ → List ℕ → ℕ) (before : List ℕ) (t : Shape) (x : Instance) : Type 0 where
  pub loops : List ℕ
  pub stands : Stands t x.statement loops
  pub within : Within trip before loops x.iterations

pub record StandingIn (trip : ℕ → List ℕ → ℕ) (before : List ℕ) (ts : Shapes) (x : Instance) : Type 0 where
  pub loops : List ℕ
  pub stands : StandsIn ts x.statement loops
  pub within : Within trip before loops x.iterations

module _ (trip : ℕ → List ℕ → ℕ) where
  at_leaf : (s : ℕ) (before : List ℕ) (x : Instance) → x ≡ record { statement = s; iterations = [] } → Standing trip before (Single s) x
  at_leaf s before x e = subst (Standing trip before (Single s)) (sym e) (record { loops = []; stands = refl; within = tt })

  at_node : (l : ℕ) (ts : Shapes) (before : List ℕ) (i : ℕ) (y : Instance) → 1 ≤ i → i ≤ trip l before → StandingIn trip (before ++ i ∷ []) ts y → Standing trip before (Loop l ts) (within_turn i y)
  at_node l ts before i y a b h = record { loops = l ∷ h.loops; stands = (refl, h.stands); within = (a, b, h.within) }

  either : (before : List ℕ) (x : Instance) (t : Shape) (ts : Shapes) → In x (instances trip t before) ⊎ In x (instances_in trip ts before)
      → (In x (instances trip t before) → Standing trip before t x) → (In x (instances_in trip ts before) → StandingIn trip before ts x) → StandingIn trip before (shape t ts) x
  either before x t ts (inl i) f g = let h = f i in record { loops = h.loops; stands = inl h.stands; within = h.within }
  either before x t ts (inr i) f g = let h = g i in record { loops = h.loops; stands = inr h.stands; within = h.within }

  mutual
    pub instance_stands : (t : Shape) (before : List ℕ) (x : Instance) → In x (instances trip t before) → Standing trip before t x
    instance_stands (Single s) before x (inl e) = at_leaf s before x e
    instance_stands (Single s) before x (inr i) = absurd i
    instance_stands (Loop l ts) before x h =
        let m = In-turns x 1 (trip l before) (λ i. map (within_turn i) (instances_in trip ts (before ++ i ∷ []))) h in
        let o = In-map (within_turn m.turn) x (instances_in trip ts (before ++ m.turn ∷ [])) m.holds in
        let a : 1 ≤ m.turn = m.from in
        let b : m.turn < 1 + trip l before = m.below in
        subst (Standing trip before (Loop l ts)) (sym o.is) (at_node l ts before m.turn o.it a (omega arith) (instance_stands_in ts (before ++ m.turn ∷ []) o.it o.inside))

    pub instance_stands_in : (ts : Shapes) (before : List ℕ) (x : Instance) → In x (instances_in trip ts before) → StandingIn trip before ts x
    instance_stands_in no_shapes before x h = absurd h
    instance_stands_in (shape t ts) before x h = either before x t ts (In-append x (instances trip t before) (instances_in trip ts before) h) (instance_stands t before x) (instance_stands_in ts before x)

  mutual
    pub stands_instance : (t : Shape) (before : List ℕ) (s : ℕ) (ls is : List ℕ) → Stands t s ls → Within trip before ls is → In (record { statement = s; iterations = is }) (instances trip t before)
    stands_instance (Single r) before s [] [] e w = inl (ap (λ z. let y : Instance = record { statement = z; iterations = [] } in y) (sym e))
    stands_instance (Single r) before s [] (i ∷ is) e w = absurd w
    stands_instance (Single r) before s (m ∷ ls) is e w = absurd e
    stands_instance (Loop l ts) before s [] is e w = absurd e
    stands_instance (Loop l ts) before s (m ∷ ls) [] e w = absurd w
    stands_instance (Loop l ts) before s (m ∷ ls) (i ∷ is) e w =
        let y : Instance = record { statement = s; iterations = is } in
        let bound : i ≤ trip l before = subst (λ z. i ≤ trip z before) (sym e.0) w.1 in
        turns-In (within_turn i y) i 1 (trip l before) (λ i. map (within_turn i) (instances_in trip ts (before ++ i ∷ []))) w.0 (omega arith)
        (map-In (within_turn i) y (instances_in trip ts (before ++ i ∷ [])) (stands_instance_in ts (before ++ i ∷ []) s ls is e.1 w.2))

    pub stands_instance_in : (ts : Shapes) (before : List ℕ) (s : ℕ) (ls is : List ℕ) → StandsIn ts s ls → Within trip before ls is → In (record { statement = s; iterations = is }) (instances_in trip ts before)
    stands_instance_in no_shapes before s ls is e w = absurd e
    stands_instance_in (shape t ts) before s ls is (inl e) w = In-left (record { statement = s; iterations = is }) (instances trip t before) (instances_in trip ts before) (stands_instance t before s ls is e w)
    stands_instance_in (shape t ts) before s ls is (inr e) w = In-right (record { statement = s; iterations = is }) (instances trip t before) (instances_in trip ts before) (stands_instance_in ts before s ls is e w)
