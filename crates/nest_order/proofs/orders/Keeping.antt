-- A shape in which no edge that is at work leads back has its instances in an order that keeps the edges.
use Rattle.std.proofs.Common.{◌≡◌, refl, sym, ap, ◌∙◌, subst, inl, inr, ℕ, zero, suc, ◌+◌, ◌-◌, ◌<◌, ◌≤◌, ◌==◌, true, cond, List, [], ◌∷◌, ◌++◌, map, length, arith, append_assoc}
use Rattle.nest_order.specs.orders.Lists.{In, Keeps}
use Rattle.nest_order.specs.orders.Nests.{Carried, Edge, Independent, Level, Remains}
use Rattle.nest_order.specs.orders.Shapes.{Fits, FitsIn, Instance, LessAt, Loop, SameUpTo, Shape, Shapes, Single, StandsIn, common_of, instances, instances_in, no_shapes, shape, statements, statements_in, within_turn}
use Rattle.nest_order.proofs.orders.Forward.{Forward, ForwardIn}
use Rattle.nest_order.proofs.orders.Lists.{Pairwise-append}
use Rattle.nest_order.proofs.orders.Membership.{In-map, Pairwise-turns, Pairwise-map, instance_stands_in}
use Rattle.nest_order.proofs.orders.Once.{has_statement, has_statement_in}

-- ---- common loops

pub same_number : (n : ℕ) → (n == n) ≡ true
same_number n = grind arith

pub common_more : (round a b : List ℕ) → length round ≤ common_of (round ++ a) (round ++ b)
common_more [] a b = omega arith
common_more (l ∷ round) a b = let h = common_more round a b in subst (λ c. suc (length round) ≤ cond c (suc (common_of (round ++ a) (round ++ b))) 0) (sym (same_number l)) (omega arith)

module _ (loops_of : ℕ → List ℕ) (edges : List Edge) where
  abbrev common : ℕ → ℕ → ℕ
  common s t = common_of (loops_of s) (loops_of t)

  -- what an edge asks for once the first d loops are at fixed iterations
  abbrev pub DependsFrom : ℕ → Level → Instance → Instance → Type 0
  DependsFrom d (Carried m) x y = (k : ℕ) × (m ≡ d + k) × LessAt k x.iterations y.iterations
  DependsFrom d Independent x y = SameUpTo (common x.statement y.statement - d) x.iterations y.iterations

  abbrev pub DependsBelow : ℕ → Instance → Instance → Type 0
  DependsBelow d x y = (e : Edge) × In e edges × (e.from ≡ x.statement) × (e.to ≡ y.statement) × DependsFrom d e.level x y

  reaches : (d : ℕ) (level : Level) (x y : Instance) → DependsFrom d level x y → Remains d level
  reaches d (Carried m) x y a = let f : m ≡ d + a.0 = a.1 in omega arith
  reaches d Independent x y a = tt

  -- two turns of one loop
  other_turn : (d j k : ℕ) (level : Level) (x y : Instance) → d < common x.statement y.statement → j < k → ¬ (DependsFrom d level (within_turn k x) (within_turn j y))
  other_turn d j k (Carried m) x y c h a = by a.0 a.2
    where
      by : (i : ℕ) → LessAt i (k ∷ x.iterations) (j ∷ y.iterations) → ⊥
      by zero l = omega arith
      by (suc i) l = let e : k ≡ j = l.0 in omega arith
  other_turn d j k Independent x y c h a =
      let e : common x.statement y.statement - d ≡ suc (common x.statement y.statement - suc d) = omega arith in
      let b : SameUpTo (suc (common x.statement y.statement - suc d)) (k ∷ x.iterations) (j ∷ y.iterations) = subst (λ n. SameUpTo n (k ∷ x.iterations) (j ∷ y.iterations)) e a in
      let f : k ≡ j = b.0 in omega arith

  -- one turn
  same_turn : (d i : ℕ) (level : Level) (x y : Instance) → d < common x.statement y.statement → DependsFrom d level (within_turn i x) (within_turn i y) → DependsFrom (suc d) level x y
  same_turn d i (Carried m) x y c a = by a.0 a.1 a.2
    where
      by : (k : ℕ) → m ≡ d + k → LessAt k (i ∷ x.iterations) (i ∷ y.iterations) → (k : ℕ) × (m ≡ suc d + k) × LessAt k x.iterations y.iterations
      by zero e l = absurd (omega arith)
      by (suc k) e l = (k, omega arith, l.1)
  same_turn d i Independent x y c a =
      let e : common x.statement y.statement - d ≡ suc (common x.statement y.statement - suc d) = omega arith in
      let b : SameUpTo (suc (common x.statement y.statement - suc d)) (i ∷ x.iterations) (i ∷ y.iterations) = subst (λ n. SameUpTo n (i ∷ x.iterations) (i ∷ y.iterations)) e a in
      b.1

  module _ (trip : ℕ → List ℕ → ℕ) where
    pub long_enough : (round : List ℕ) (l : ℕ) → suc (length round) ≡ length (round ++ l ∷ [])
    long_enough [] l = refl
    long_enough (m ∷ round) l = ap suc (long_enough round l)

    -- two statements in one loop have it in common
    pub stand_in_common : (l : ℕ) (ts : Shapes) (round : List ℕ) (s r : ℕ) (ls ms : List ℕ) → Fits loops_of round (Loop l ts) → StandsIn ts s ls → StandsIn ts r ms → length round < common r s
    stand_in_common l ts round s r ls ms fits g f =
        let a = fits s (l ∷ ls) (refl, g) ∙ sym (append_assoc round (l ∷ []) ls) in
        let b = fits r (l ∷ ms) (refl, f) ∙ sym (append_assoc round (l ∷ []) ms) in
        let c = common_more (round ++ l ∷ []) ms ls in
        subst (λ n. n ≤ common r s) (sym (long_enough round l))
        (subst (λ zs. length (round ++ l ∷ []) ≤ common_of (loops_of r) zs) (sym a) (subst (λ zs. length (round ++ l ∷ []) ≤ common_of zs ((round ++ l ∷ []) ++ ls)) (sym b) c))

    -- and so have two of their instances
    pub in_common : (l : ℕ) (ts : Shapes) (round before : List ℕ) (x y : Instance) → Fits loops_of round (Loop l ts) → In x (instances_in trip ts before) → In y (instances_in trip ts before)
        → length round < common x.statement y.statement
    in_common l ts round before x y fits i j =
        let h = instance_stands_in trip ts before x i in
        let g = instance_stands_in trip ts before y j in
        stand_in_common l ts round y.statement x.statement g.loops h.loops fits g.stands h.stands

    pub fits_body : (l : ℕ) (ts : Shapes) (round : List ℕ) → Fits loops_of round (Loop l ts) → FitsIn loops_of (round ++ l ∷ []) ts
    fits_body l ts round fits s ls h = fits s (l ∷ ls) (refl, h) ∙ sym (append_assoc round (l ∷ []) ls)

    -- two turns of one loop, in the wrong order
    across : (l : ℕ) (ts : Shapes) (d : ℕ) (round before : List ℕ) → d ≡ length round → Fits loops_of round (Loop l ts) → (j k : ℕ) (x y : Instance) → j < k
        → In x (instances_in trip ts (before ++ j ∷ [])) → In y (instances_in trip ts (before ++ k ∷ [])) → ¬ (DependsBelow d (within_turn k y) (within_turn j x))
    across l ts d round before n fits j k x y less a b h =
        let g = instance_stands_in trip ts (before ++ j ∷ []) x a in
        let f = instance_stands_in trip ts (before ++ k ∷ []) y b in
        other_turn d j k h.0.level y x (subst (λ m. m < common y.statement x.statement) (sym n) (stand_in_common l ts round x.statement y.statement g.loops f.loops fits g.stands f.stands)) less h.4

    mutual
      pub keeps : (t : Shape) (d : ℕ) (round before : List ℕ) → d ≡ length round → Fits loops_of round t → Forward edges d t → Keeps (DependsBelow d) (instances trip t before)
      keeps (Single s) d round before n fits forward = (tt, tt)
      keeps (Loop l ts) d round before n fits forward =
          let body : (i : ℕ) → List Instance = λ i. instances_in trip ts (before ++ i ∷ []) in
          Pairwise-turns (λ x y. ¬ (DependsBelow d y x)) 1 (trip l before) (λ i. map (within_turn i) (body i))
          (λ i. Pairwise-map (λ x y. ¬ (DependsBelow (suc d) y x)) (λ x y. ¬ (DependsBelow d y x)) (within_turn i) (instances_in trip ts (before ++ i ∷ []))
          (λ x y a b no h. no (h.0, h.1, h.2, h.3, same_turn d i h.0.level y x (subst (λ k. k < common y.statement x.statement) (sym n) (in_common l ts round (before ++ i ∷ []) y x fits b a)) h.4))
          (keeps_in ts (suc d) (round ++ l ∷ []) (before ++ i ∷ []) (ap suc n ∙ long_enough round l) (fits_body l ts round fits) forward))
          (λ j k x y less a b h.
          let o = In-map (within_turn j) x (body j) a in
          let p = In-map (within_turn k) y (body k) b in
          across l ts d round before n fits j k o.it p.it less o.inside p.inside (subst (λ z. DependsBelow d z (within_turn j o.it)) p.is (subst (DependsBelow d y) o.is h)))

      pub keeps_in : (ts : Shapes) (d : ℕ) (round before : List ℕ) → d ≡ length round → FitsIn loops_of round ts → ForwardIn edges d ts → Keeps (DependsBelow d) (instances_in trip ts before)
      keeps_in no_shapes d round before n fits forward = tt
      keeps_in (shape t ts) d round before n fits forward = Pairwise-append (λ x y. ¬ (DependsBelow d y x)) (instances trip t before) (instances_in trip ts before)
          (keeps t d round before n (λ s ls h. fits s ls (inl h)) forward.1)
          (keeps_in ts d round before n (λ s ls h. fits s ls (inr h)) forward.2)
          (λ x y i j h. forward.0 h.0 h.1
          (subst (λ s. In s (statements_in ts)) (sym h.2) (has_statement_in trip ts before y j))
          (subst (λ s. In s (statements t)) (sym h.3) (has_statement trip t before x i))
          (reaches d h.0.level y x h.4))
