-- The instances of a nest come in sequential order.
use Rattle.std.proofs.Common.{◌≡◌, refl, sym, ap, ◌∙◌, subst, ◌⊎◌, inl, inr, ℕ, suc, ◌+◌, ◌-◌, ◌<◌, ◌≤◌, ◌==◌, Bool, true, false, cond, List, [], ◌∷◌, ◌++◌, map, length, arith, append-nil}
use Rattle.nest_order.specs.orders.Lists.{Distinct, In, Pairwise}
use Rattle.nest_order.specs.orders.Shapes.{Fits, FitsIn, Instance, LessAt, Loop, SameUpTo, Shape, Shapes, Single, Stands, StandsIn, common_of, instances, instances_in, loops_of_shape, loops_of_shapes, no_shapes, shape, statements, statements_in, within_turn}
use Rattle.nest_order.proofs.orders.Lists.{Pairwise-append, In-left, In-right}
use Rattle.nest_order.proofs.orders.Membership.{In-map, Pairwise-turns, Pairwise-map, instance_stands, instance_stands_in}
use Rattle.nest_order.proofs.orders.Once.{has_statement, has_statement_in, Pairwise-left, Pairwise-right, Pairwise-across}
use Rattle.nest_order.proofs.orders.Keeping.{stand_in_common, in_common, fits_body, long_enough}

-- ---- loops that aren't common

other_number : (n m : ℕ) → ¬ (n ≡ m) → (n == m) ≡ false
other_number n m h = grind arith

pub common_no_more : (round : List ℕ) (l m : ℕ) (a b : List ℕ) → ¬ (l ≡ m) → common_of (round ++ l ∷ a) (round ++ m ∷ b) ≤ length round
common_no_more [] l m a b h = subst (λ c. cond c (suc (common_of a b)) 0 ≤ 0) (sym (other_number l m h)) (omega arith)
common_no_more (k ∷ round) l m a b h = by (k == k) (common_no_more round l m a b h)
  where
    by : (c : Bool) → common_of (round ++ l ∷ a) (round ++ m ∷ b) ≤ length round → cond c (suc (common_of (round ++ l ∷ a) (round ++ m ∷ b))) 0 ≤ suc (length round)
    by true le = omega arith
    by false le = omega arith

pub common_left : (xs ys : List ℕ) → common_of xs ys ≤ length xs
common_left [] ys = omega arith
common_left (x ∷ xs) [] = omega arith
common_left (x ∷ xs) (y ∷ ys) = by (x == y) (common_left xs ys)
  where
    by : (c : Bool) → common_of xs ys ≤ length xs → cond c (suc (common_of xs ys)) 0 ≤ suc (length xs)
    by true le = omega arith
    by false le = omega arith

pub common_right : (xs ys : List ℕ) → common_of xs ys ≤ length ys
common_right [] ys = omega arith
common_right (x ∷ xs) [] = omega arith
common_right (x ∷ xs) (y ∷ ys) = by (x == y) (common_right xs ys)
  where
    by : (c : Bool) → common_of xs ys ≤ length ys → cond c (suc (common_of xs ys)) 0 ≤ suc (length ys)
    by true le = omega arith
    by false le = omega arith

-- the outermost loop round a statement is one of the loops
mutual
  pub head_in_loops : (t : Shape) (s l : ℕ) (ls : List ℕ) → Stands t s (l ∷ ls) → In l (loops_of_shape t)
  head_in_loops (Single r) s l ls h = absurd h
  head_in_loops (Loop m ts) s l ls h = inl (sym h.0)

  pub head_in_loops_in : (ts : Shapes) (s l : ℕ) (ls : List ℕ) → StandsIn ts s (l ∷ ls) → In l (loops_of_shapes ts)
  head_in_loops_in no_shapes s l ls h = absurd h
  head_in_loops_in (shape t ts) s l ls (inl h) = In-left l (loops_of_shape t) (loops_of_shapes ts) (head_in_loops t s l ls h)
  head_in_loops_in (shape t ts) s l ls (inr h) = In-right l (loops_of_shape t) (loops_of_shapes ts) (head_in_loops_in ts s l ls h)

module _ (loops_of : ℕ → List ℕ) where
  -- two statements that stand beside each other have no further loop in common
  pub beside : (t : Shape) (ts : Shapes) (round : List ℕ) (s r : ℕ) (ls ms : List ℕ) → Distinct (loops_of_shape t ++ loops_of_shapes ts) → FitsIn loops_of round (shape t ts)
      → Stands t s ls → StandsIn ts r ms → common_of (loops_of s) (loops_of r) ≤ length round
  beside t ts round s r ls ms d fits h g = subst (λ zs. common_of zs (loops_of r) ≤ length round) (sym (fits s ls (inl h))) (subst (λ zs. common_of (round ++ ls) zs ≤ length round) (sym (fits r ms (inr g))) (by ls ms h g))
    where
      by : (ls ms : List ℕ) → Stands t s ls → StandsIn ts r ms → common_of (round ++ ls) (round ++ ms) ≤ length round
      by [] ms h g = subst (λ zs. common_of zs (round ++ ms) ≤ length round) (sym (append-nil round)) (common_left round (round ++ ms))
      by (l ∷ ls) [] h g = subst (λ zs. common_of (round ++ l ∷ ls) zs ≤ length round) (sym (append-nil round)) (common_right (round ++ l ∷ ls) round)
      by (l ∷ ls) (m ∷ ms) h g = common_no_more round l m ls ms (Pairwise-across (λ x y. ¬ (x ≡ y)) (loops_of_shape t) (loops_of_shapes ts) d l m (head_in_loops t s l ls h) (head_in_loops_in ts r m ms g))

  -- sequential order once the first d loops are at fixed iterations
  abbrev pub PrecedesFrom : ℕ → Instance → Instance → Type 0
  PrecedesFrom d x y =
      ((k : ℕ) × (d + k < common_of (loops_of x.statement) (loops_of y.statement)) × LessAt k x.iterations y.iterations)
      ⊎ (SameUpTo (common_of (loops_of x.statement) (loops_of y.statement) - d) x.iterations y.iterations × (x.statement < y.statement))

  one_turn : (d i : ℕ) (x y : Instance) → d < common_of (loops_of x.statement) (loops_of y.statement) → PrecedesFrom (suc d) x y → PrecedesFrom d (within_turn i x) (within_turn i y)
  one_turn d i x y c (inl h) = let f : suc d + h.0 < common_of (loops_of x.statement) (loops_of y.statement) = h.1 in inl (suc h.0, omega arith, (refl, h.2))
  one_turn d i x y c (inr h) =
      let n = common_of (loops_of x.statement) (loops_of y.statement) in
      let e : suc (n - suc d) ≡ n - d = omega arith in
      inr (subst (λ k. SameUpTo k (i ∷ x.iterations) (i ∷ y.iterations)) e (refl, h.0), h.1)

  module _ (trip : ℕ → List ℕ → ℕ) where
    first_turn : (l : ℕ) (ts : Shapes) (d : ℕ) (round before : List ℕ) → d ≡ length round → Fits loops_of round (Loop l ts) → (j k : ℕ) (x y : Instance) → j < k
        → In x (instances_in trip ts (before ++ j ∷ [])) → In y (instances_in trip ts (before ++ k ∷ [])) → PrecedesFrom d (within_turn j x) (within_turn k y)
    first_turn l ts d round before n fits j k x y less a b =
        let g = instance_stands_in trip ts (before ++ j ∷ []) x a in
        let f = instance_stands_in trip ts (before ++ k ∷ []) y b in
        let c : length round < common_of (loops_of x.statement) (loops_of y.statement) = stand_in_common loops_of [] trip l ts round y.statement x.statement f.loops g.loops fits f.stands g.stands in
        inl (0, omega arith, less)

    beside_first : (d : ℕ) (round : List ℕ) → d ≡ length round → (x y : Instance) → common_of (loops_of x.statement) (loops_of y.statement) ≤ length round → x.statement < y.statement → PrecedesFrom d x y
    beside_first d round n x y c less =
        let e : 0 ≡ common_of (loops_of x.statement) (loops_of y.statement) - d = omega arith in
        inr (subst (λ k. SameUpTo k x.iterations y.iterations) e tt, less)

    mutual
      pub sequence : (t : Shape) (d : ℕ) (round before : List ℕ) → d ≡ length round → Fits loops_of round t → Distinct (loops_of_shape t) → Pairwise (λ s r. s < r) (statements t) → Pairwise (PrecedesFrom d) (instances trip t before)
      sequence (Single s) d round before n fits dl rising = (tt, tt)
      sequence (Loop l ts) d round before n fits dl rising =
          Pairwise-turns (PrecedesFrom d) 1 (trip l before) (λ i. map (within_turn i) (instances_in trip ts (before ++ i ∷ [])))
          (λ i. Pairwise-map (PrecedesFrom (suc d)) (PrecedesFrom d) (within_turn i) (instances_in trip ts (before ++ i ∷ []))
          (λ x y a b p. one_turn d i x y (subst (λ k. k < common_of (loops_of x.statement) (loops_of y.statement)) (sym n) (in_common loops_of [] trip l ts round (before ++ i ∷ []) x y fits a b)) p)
          (sequence_in ts (suc d) (round ++ l ∷ []) (before ++ i ∷ []) (ap suc n ∙ long_enough loops_of [] trip round l) (fits_body loops_of [] trip l ts round fits) dl.1 rising))
          (λ j k x y less a b.
          let o = In-map (within_turn j) x (instances_in trip ts (before ++ j ∷ [])) a in
          let p = In-map (within_turn k) y (instances_in trip ts (before ++ k ∷ [])) b in
          subst (PrecedesFrom d x) (sym p.is) (subst (λ z. PrecedesFrom d z (within_turn k p.it)) (sym o.is)
          (first_turn l ts d round before n fits j k o.it p.it less o.inside p.inside)))

      pub sequence_in : (ts : Shapes) (d : ℕ) (round before : List ℕ) → d ≡ length round → FitsIn loops_of round ts → Distinct (loops_of_shapes ts) → Pairwise (λ s r. s < r) (statements_in ts) → Pairwise (PrecedesFrom d) (instances_in trip ts before)
      sequence_in no_shapes d round before n fits dl rising = tt
      sequence_in (shape t ts) d round before n fits dl rising = Pairwise-append (PrecedesFrom d) (instances trip t before) (instances_in trip ts before)
          (sequence t d round before n (λ s ls h. fits s ls (inl h)) (Pairwise-left (λ x y. ¬ (x ≡ y)) (loops_of_shape t) (loops_of_shapes ts) dl) (Pairwise-left (λ s r. s < r) (statements t) (statements_in ts) rising))
          (sequence_in ts d round before n (λ s ls h. fits s ls (inr h)) (Pairwise-right (λ x y. ¬ (x ≡ y)) (loops_of_shape t) (loops_of_shapes ts) dl) (Pairwise-right (λ s r. s < r) (statements t) (statements_in ts) rising))
          (λ x y i j.
          let h = instance_stands trip t before x i in
          let g = instance_stands_in trip ts before y j in
          beside_first d round n x y (beside t ts round x.statement y.statement h.loops g.loops dl fits h.stands g.stands)
          (Pairwise-across (λ s r. s < r) (statements t) (statements_in ts) rising x.statement y.statement (has_statement trip t before x i) (has_statement_in trip ts before y j)))
