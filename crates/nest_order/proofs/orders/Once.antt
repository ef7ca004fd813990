-- No instance of a shape comes twice, where no statement stands twice.
use Rattle.std.proofs.Common.{◌≡◌, sym, ap, ◌∙◌, subst, inl, inr, ℕ, List, [], ◌∷◌, ◌++◌, map, arith}
use Rattle.nest_order.specs.orders.Lists.{Distinct, In, Pairwise}
use Rattle.nest_order.specs.orders.Shapes.{Instance, Loop, Shape, Shapes, Single, Stands, StandsIn, instances, instances_in, no_shapes, shape, statements, statements_in, within_turn}
use Rattle.nest_order.proofs.orders.Lists.{Each-In, Each-left, Each-right, Pairwise-append, In-left, In-right}
use Rattle.nest_order.proofs.orders.Membership.{In-map, Pairwise-turns, Pairwise-map, instance_stands, instance_stands_in}

pub Pairwise-left : {X : Type 0} (R : X → X → Type 0) (xs ys : List X) → Pairwise R (xs ++ ys) → Pairwise R xs
Pairwise-left R [] ys h = tt
Pairwise-left R (x ∷ xs) ys h = (Each-left (R x) xs ys h.0, Pairwise-left R xs ys h.1)

pub Pairwise-right : {X : Type 0} (R : X → X → Type 0) (xs ys : List X) → Pairwise R (xs ++ ys) → Pairwise R ys
Pairwise-right R [] ys h = h
Pairwise-right R (x ∷ xs) ys h = Pairwise-right R xs ys h.1

pub Pairwise-across : {X : Type 0} (R : X → X → Type 0) (xs ys : List X) → Pairwise R (xs ++ ys) → (x y : X) → In x xs → In y ys → R x y
Pairwise-across R [] ys h x y i j = absurd i
Pairwise-across R (z ∷ xs) ys h x y (inl e) j = subst (λ w. R w y) (sym e) (Each-In (R z) ys (Each-right (R z) xs ys h.0) y j)
Pairwise-across R (z ∷ xs) ys h x y (inr i) j = Pairwise-across R xs ys h.1 x y i j

mutual
  pub stands_in_statements : (t : Shape) (s : ℕ) (ls : List ℕ) → Stands t s ls → In s (statements t)
  stands_in_statements (Single r) s [] e = inl (sym e)
  stands_in_statements (Single r) s (m ∷ ls) e = absurd e
  stands_in_statements (Loop l ts) s [] e = absurd e
  stands_in_statements (Loop l ts) s (m ∷ ls) e = stands_in_statements_in ts s ls e.1

  pub stands_in_statements_in : (ts : Shapes) (s : ℕ) (ls : List ℕ) → StandsIn ts s ls → In s (statements_in ts)
  stands_in_statements_in no_shapes s ls e = absurd e
  stands_in_statements_in (shape t ts) s ls (inl e) = In-left s (statements t) (statements_in ts) (stands_in_statements t s ls e)
  stands_in_statements_in (shape t ts) s ls (inr e) = In-right s (statements t) (statements_in ts) (stands_in_statements_in ts s ls e)

-- ---- what a turn does to an instance

abbrev head : List ℕ → ℕ
head [] = 0
head (i ∷ is) = i

abbrev tail : List ℕ → List ℕ
tail [] = []
tail (i ∷ is) = is

abbrev first_of : Instance → ℕ
first_of x = head x.iterations

abbrev rest_of : Instance → Instance
rest_of x = record { statement = x.statement; iterations = tail x.iterations }

module _ (trip : ℕ → List ℕ → ℕ) where
  pub has_statement : (t : Shape) (before : List ℕ) (x : Instance) → In x (instances trip t before) → In x.statement (statements t)
  has_statement t before x i = let h = instance_stands trip t before x i in stands_in_statements t x.statement h.loops h.stands

  pub has_statement_in : (ts : Shapes) (before : List ℕ) (x : Instance) → In x (instances_in trip ts before) → In x.statement (statements_in ts)
  has_statement_in ts before x i = let h = instance_stands_in trip ts before x i in stands_in_statements_in ts x.statement h.loops h.stands

  mutual
    pub once : (t : Shape) (before : List ℕ) → Distinct (statements t) → Distinct (instances trip t before)
    once (Single s) before d = (tt, tt)
    once (Loop l ts) before d = Pairwise-turns (λ x y. ¬ (x ≡ y)) 1 (trip l before) (λ i. map (within_turn i) (instances_in trip ts (before ++ i ∷ [])))
        (λ i. Pairwise-map (λ x y. ¬ (x ≡ y)) (λ x y. ¬ (x ≡ y)) (within_turn i) (instances_in trip ts (before ++ i ∷ [])) (λ x y a b n e. n (ap rest_of e)) (once_in ts (before ++ i ∷ []) d))
        (λ j k x y a h g e.
        let o = In-map (within_turn j) x (instances_in trip ts (before ++ j ∷ [])) h in
        let p = In-map (within_turn k) y (instances_in trip ts (before ++ k ∷ [])) g in
        let same : j ≡ k = ap first_of (sym o.is ∙ (e ∙ p.is)) in
        absurd (omega arith))

    pub once_in : (ts : Shapes) (before : List ℕ) → Distinct (statements_in ts) → Distinct (instances_in trip ts before)
    once_in no_shapes before d = tt
    once_in (shape t ts) before d = Pairwise-append (λ x y. ¬ (x ≡ y)) (instances trip t before) (instances_in trip ts before)
        (once t before (Pairwise-left (λ x y. ¬ (x ≡ y)) (statements t) (statements_in ts) d))
        (once_in ts before (Pairwise-right (λ x y. ¬ (x ≡ y)) (statements t) (statements_in ts) d))
        (λ x y i j e. Pairwise-across (λ x y. ¬ (x ≡ y)) (statements t) (statements_in ts) d x.statement y.statement (has_statement t before x i) (has_statement_in ts before y j) (ap (λ (z : Instance). z.statement) e))
