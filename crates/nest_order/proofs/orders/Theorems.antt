-- The sequential order and that of recursive emission keep the edges, and each order that keeps the edges gives the sequential store.
use Rattle.std.proofs.Common.{◌≡◌, refl, sym, subst, ◌⊎◌, inl, inr, ℕ, zero, suc, ◌+◌, ◌-◌, ◌<◌, List, [], ◌∷◌, arith, Result, Ok}
use Rattle.nest_order.specs.orders.Emission.{IsArranged, IsEmitted}
use Rattle.nest_order.specs.orders.Lists.{Distinct, Each, In, Pairwise}
use Rattle.nest_order.specs.orders.Nests.{AreInstances, Carried, Depends, DependsAt, Edge, Independent, IsEdge, IsInstance, IsNest, KeepsEdges, LeadsInNest, Level, Ordered, Precedes, common}
use Rattle.nest_order.specs.orders.Orders.{Invariant, MayPass, runs}
use Rattle.nest_order.specs.orders.Shapes.{Instance, LessAt, SameUpTo, Shape, Shapes, Within, common_of, instances, instances_in, statements}
use Rattle.nest_order.specs.orders.Laws.{InstancesInSequence, EdgesFollowSequence, SequenceKeepsEdges, EmissionArranges, EmissionKeepsEdges}
use Rattle.nest_order.proofs.orders.Lists.{Each-In, Each-from}
use Rattle.nest_order.proofs.orders.Membership.{instance_stands, instance_stands_in, stands_instance, stands_instance_in}
use Rattle.nest_order.proofs.orders.Once.{once, once_in, stands_in_statements}
use Rattle.nest_order.proofs.orders.Order.{in_order}
use Rattle.nest_order.proofs.orders.Keeping.{DependsBelow, DependsFrom, keeps_in}
use Rattle.nest_order.proofs.orders.Sequence.{PrecedesFrom, sequence}
use Rattle.nest_order.proofs.orders.Common.{common-sym, statement_stands, between}
use Rattle.nest_order.proofs.orders.Emission.{Sound, emission}

Pairwise-weaker : {X : Type 0} (P R : X → X → Type 0) (xs : List X) → ((x y : X) → In x xs → In y xs → P x y → R x y) → Pairwise P xs → Pairwise R xs
Pairwise-weaker P R [] f h = tt
Pairwise-weaker P R (x ∷ xs) f h = (Each-from (R x) xs (λ y i. f x y (inl refl) (inr i) (Each-In (P x) xs h.0 y i)), Pairwise-weaker P R xs (λ y z i j. f y z (inr i) (inr j)) h.1)

module _ (loops_of : ℕ → List ℕ) (edges : List Edge) where
  pub depends_in_order : Each (IsEdge loops_of) edges → (x y : Instance) → Depends (common loops_of) edges x y → Precedes (common loops_of) x y
  depends_in_order may x y h = by h.0.level (Each-In (IsEdge loops_of) edges may h.0 h.1) h.2.2
    where
      by : (level : Level) → LeadsInNest loops_of h.0.from h.0.to level → DependsAt (common loops_of) level x y → Precedes (common loops_of) x y
      by (Carried m) a b = inl (m, subst (λ k. m < common_of (loops_of k) (loops_of y.statement)) h.2.0 (subst (λ k. m < common_of (loops_of h.0.from) (loops_of k)) h.2.1 a), b)
      by Independent a b = inr (b, subst (λ k. k < y.statement) h.2.0 (subst (λ k. h.0.from < k) h.2.1 a))

module _ (loops_of : ℕ → List ℕ) (trip : ℕ → List ℕ → ℕ) (t : Shape) (text : IsNest loops_of t) (edges : List Edge) where
  depends-from : (level : Level) (x y : Instance) → DependsAt (common loops_of) level x y → DependsFrom loops_of edges 0 level x y
  depends-from (Carried m) x y h = (m, omega arith, h)
  depends-from Independent x y h =
      let e : common_of (loops_of x.statement) (loops_of y.statement) ≡ common_of (loops_of x.statement) (loops_of y.statement) - 0 = omega arith in
      subst (λ n. SameUpTo n x.iterations y.iterations) e h

  depends-below : (x y : Instance) → Depends (common loops_of) edges x y → DependsBelow loops_of edges 0 x y
  depends-below x y h = (h.0, h.1, h.2.0, h.2.1, depends-from h.0.level x y h.2.2)

  precedes : (x y : Instance) → PrecedesFrom loops_of 0 x y → Precedes (common loops_of) x y
  precedes x y (inl h) = let a : 0 + h.0 < common_of (loops_of x.statement) (loops_of y.statement) = h.1 in inl (h.0, omega arith, h.2)
  precedes x y (inr h) =
      let e : common_of (loops_of x.statement) (loops_of y.statement) - 0 ≡ common_of (loops_of x.statement) (loops_of y.statement) = omega arith in
      inr (subst (λ n. SameUpTo n x.iterations y.iterations) e h.0, h.1)

  pub distinct : Distinct (statements t)
  distinct = Pairwise-weaker (λ s r. s < r) (λ s r. ¬ (s ≡ r)) (statements t) (λ s r i j h e. absurd (omega arith)) text.rising

  is_instance : (x : Instance) → In x (instances trip t []) → IsInstance loops_of trip t x
  is_instance x i =
      let h = instance_stands trip t [] x i in
      (stands_in_statements t x.statement h.loops h.stands, subst (λ ls. Within trip [] ls x.iterations) (sym (text.fits x.statement h.loops h.stands)) h.within)

  instance_is : (x : Instance) → IsInstance loops_of trip t x → In x (instances trip t [])
  instance_is x h =
      let k = statement_stands t x.statement h.0 in
      stands_instance trip t [] x.statement k.0 x.iterations k.1 (subst (λ ls. Within trip [] ls x.iterations) (text.fits x.statement k.0 k.1) h.1)

  sequential : Pairwise (Precedes (common loops_of)) (instances trip t [])
  sequential = Pairwise-weaker (PrecedesFrom loops_of 0) (Precedes (common loops_of)) (instances trip t []) (λ x y i j. precedes x y) (sequence loops_of trip t 0 [] [] refl text.fits text.single text.rising)

  -- ---- edges ask for nothing but sequential order

  less_one_way : (m k : ℕ) (is js : List ℕ) → LessAt m is js → LessAt k js is → ⊥
  less_one_way m k [] js h g = by m h
    where
      by : (m : ℕ) → LessAt m [] js → ⊥
      by zero h = h
      by (suc m) h = h
  less_one_way m k (i ∷ is) [] h g = by m h
    where
      by : (m : ℕ) → LessAt m (i ∷ is) [] → ⊥
      by zero h = h
      by (suc m) h = h
  less_one_way zero zero (i ∷ is) (j ∷ js) h g = let a : i < j = h in let b : j < i = g in omega arith
  less_one_way zero (suc k) (i ∷ is) (j ∷ js) h g = let a : i < j = h in let b : j ≡ i = g.0 in omega arith
  less_one_way (suc m) zero (i ∷ is) (j ∷ js) h g = let a : i ≡ j = h.0 in let b : j < i = g in omega arith
  less_one_way (suc m) (suc k) (i ∷ is) (j ∷ js) h g = less_one_way m k is js h.1 g.1

  less_not_same : (m c : ℕ) (is js : List ℕ) → m < c → LessAt m is js → SameUpTo c js is → ⊥
  less_not_same m zero is js a h g = omega arith
  less_not_same zero (suc c) [] js a h g = h
  less_not_same (suc m) (suc c) [] js a h g = h
  less_not_same zero (suc c) (i ∷ is) [] a h g = h
  less_not_same (suc m) (suc c) (i ∷ is) [] a h g = h
  less_not_same zero (suc c) (i ∷ is) (j ∷ js) a h g = let b : i < j = h in let e : j ≡ i = g.0 in omega arith
  less_not_same (suc m) (suc c) (i ∷ is) (j ∷ js) a h g = less_not_same m c is js (omega arith) h.1 g.1

  one_way : (x y : Instance) → Precedes (common loops_of) x y → Precedes (common loops_of) y x → ⊥
  one_way x y (inl h) (inl g) = less_one_way h.0 g.0 x.iterations y.iterations h.2 g.2
  one_way x y (inl h) (inr g) = less_not_same h.0 (common loops_of y.statement x.statement) x.iterations y.iterations (let a : h.0 < common loops_of x.statement y.statement = h.1 in common-sym (suc h.0) (loops_of x.statement) (loops_of y.statement) a) h.2 g.0
  one_way x y (inr h) (inl g) = less_not_same g.0 (common loops_of x.statement y.statement) y.iterations x.iterations (let a : g.0 < common loops_of y.statement x.statement = g.1 in common-sym (suc g.0) (loops_of y.statement) (loops_of x.statement) a) g.2 h.0
  one_way x y (inr h) (inr g) = let a : x.statement < y.statement = h.1 in let b : y.statement < x.statement = g.1 in omega arith

  pub in_sequence : AreInstances loops_of trip t (instances trip t [])
  in_sequence = record { each = λ x. (is_instance x, instance_is x); once = once trip t [] distinct }

  pub sequential_keeps : Each (IsEdge loops_of) edges → KeepsEdges loops_of trip t edges (instances trip t [])
  sequential_keeps may = record {
    instances = in_sequence;
    keeps = Pairwise-weaker (Precedes (common loops_of)) (λ x y. ¬ (Depends (common loops_of) edges y x)) (instances trip t []) (λ x y i j p h. one_way x y p (depends_in_order loops_of edges may y x h)) sequential;
  }

  -- ---- each order that keeps the edges

  pub any_order : (S F : Type 0) (step : Instance → S → Result S F) (I : S → Type 0) → Invariant step (IsInstance loops_of trip t) I → Ordered loops_of trip t step I edges
      → (order : List Instance) → KeepsEdges loops_of trip t edges order → (s u : S) → I s → runs step (instances trip t []) s ≡ Ok u → runs step order s ≡ Ok u
  any_order S F step I invariant ordered order k s u i e = in_order step (IsInstance loops_of trip t) I invariant (Depends (common loops_of) edges) order (instances trip t []) s u is_instance
      (once trip t [] distinct) k.instances.once
      (λ x. ((λ j. (k.instances.each x).1 (is_instance x j)), (λ j. instance_is x ((k.instances.each x).0 j))))
      (Pairwise-weaker (Precedes (common loops_of)) (λ x y. Depends (common loops_of) edges x y ⊎ MayPass step I x y) (instances trip t []) (λ x y a b p. ordered x y (is_instance x a) (is_instance y b) p) sequential)
      k.keeps i e

  -- ---- recursive emission

  module _ (may : Each (IsEdge loops_of) edges) (ts : Shapes) (emitted : IsEmitted loops_of edges 0 (statements t) ts) where
    sound : Sound loops_of edges (statements t) may (between loops_of t [] text.fits text.single text.rising) [] (statements t) ts
    sound = emission loops_of edges (statements t) may (between loops_of t [] text.fits text.single text.rising) ts emitted

    pub arranged : IsArranged loops_of [] (statements t) ts
    arranged = record { only = sound.only; all = sound.all; once = sound.once; filled = sound.filled }

    pub emission_keeps : KeepsEdges loops_of trip t edges (instances_in trip ts [])
    emission_keeps = record {
      instances = record { each = λ x. (into x, out x); once = once_in trip ts [] sound.once };
      keeps = Pairwise-weaker (λ x y. ¬ (DependsBelow loops_of edges 0 y x)) (λ x y. ¬ (Depends (common loops_of) edges y x)) (instances_in trip ts [])
          (λ x y i j n h. n (depends-below y x h)) (keeps_in loops_of edges trip ts 0 [] [] refl (λ s ls h. (sound.only s ls h).1) sound.forward);
    }
      where
        into : (x : Instance) → In x (instances_in trip ts []) → IsInstance loops_of trip t x
        into x i =
            let h = instance_stands_in trip ts [] x i in
            let g = sound.only x.statement h.loops h.stands in
            (g.0, subst (λ ls. Within trip [] ls x.iterations) (sym g.1) h.within)

        out : (x : Instance) → IsInstance loops_of trip t x → In x (instances_in trip ts [])
        out x h = stands_instance_in trip ts [] x.statement (loops_of x.statement) x.iterations (sound.all x.statement (loops_of x.statement) h.0 refl) h.1

-- ---- the laws

pub instances_in_sequence : InstancesInSequence
instances_in_sequence loops_of trip t nest = (in_sequence loops_of trip t nest [], sequential loops_of trip t nest [])

pub edges_follow_sequence : EdgesFollowSequence
edges_follow_sequence loops_of edges x y may h = depends_in_order loops_of edges may x y h

pub sequence_keeps_edges : SequenceKeepsEdges
sequence_keeps_edges loops_of trip t edges nest may = sequential_keeps loops_of trip t nest edges may

pub emission_arranges : EmissionArranges
emission_arranges loops_of t edges ts nest may emitted = arranged loops_of (λ l is. 0) t nest edges may ts emitted

pub emission_keeps_edges : EmissionKeepsEdges
emission_keeps_edges loops_of trip t edges ts nest may emitted = emission_keeps loops_of trip t nest edges may ts emitted
