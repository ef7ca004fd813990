-- Loops that two statements have in common.
use Rattle.std.proofs.Common.{◌≡◌, refl, sym, ap, ◌∙◌, subst, ◌⊎◌, inl, inr, ℕ, zero, suc, ◌<◌, ◌≤◌, ◌==◌, Bool, true, false, cond, List, [], ◌∷◌, ◌++◌, length, arith}
use Rattle.nest_order.specs.orders.Lists.{Distinct, In, Pairwise}
use Rattle.nest_order.specs.orders.Nests.{common}
use Rattle.nest_order.specs.orders.Shapes.{Fits, FitsIn, Loop, SameUpTo, Shape, Shapes, Single, Stands, StandsIn, common_of, loops_of_shape, loops_of_shapes, no_shapes, shape, statements, statements_in}
use Rattle.nest_order.proofs.orders.Lists.{In-append}
use Rattle.nest_order.proofs.orders.Once.{Pairwise-left, Pairwise-right, Pairwise-across}
use Rattle.nest_order.proofs.orders.Keeping.{common_more, same_number, fits_body}
use Rattle.nest_order.proofs.orders.Sequence.{beside}

number_same : (n m : ℕ) → (n == m) ≡ true → n ≡ m
number_same n m h = grind arith

-- n loops in common, and the first n the same
pub common-same : (n : ℕ) (xs ys : List ℕ) → n ≤ common_of xs ys → SameUpTo n xs ys
common-same zero xs ys h = tt
common-same (suc n) [] ys h = absurd (omega arith)
common-same (suc n) (x ∷ xs) [] h = absurd (omega arith)
common-same (suc n) (x ∷ xs) (y ∷ ys) h = by (x == y) refl h (common-same n xs ys)
  where
    by : (c : Bool) → (x == y) ≡ c → suc n ≤ cond c (suc (common_of xs ys)) 0 → (n ≤ common_of xs ys → SameUpTo n xs ys) → (x ≡ y) × SameUpTo n xs ys
    by true e h more = (number_same x y e, more (omega arith))
    by false e h more = absurd (omega arith)

pub same-common : (n : ℕ) (xs ys : List ℕ) → SameUpTo n xs ys → n ≤ common_of xs ys
same-common zero xs ys h = omega arith
same-common (suc n) [] ys h = absurd h
same-common (suc n) (x ∷ xs) [] h = absurd h
same-common (suc n) (x ∷ xs) (y ∷ ys) h =
    let m = same-common n xs ys h.1 in
    subst (λ z. suc n ≤ cond (x == z) (suc (common_of xs ys)) 0) h.0 (subst (λ c. suc n ≤ cond c (suc (common_of xs ys)) 0) (sym (same_number x)) (omega arith))

pub SameUpTo-sym : (n : ℕ) (xs ys : List ℕ) → SameUpTo n xs ys → SameUpTo n ys xs
SameUpTo-sym zero xs ys h = tt
SameUpTo-sym (suc n) [] ys h = absurd h
SameUpTo-sym (suc n) (x ∷ xs) [] h = absurd h
SameUpTo-sym (suc n) (x ∷ xs) (y ∷ ys) h = (sym h.0, SameUpTo-sym n xs ys h.1)

pub SameUpTo-trans : (n : ℕ) (xs ys zs : List ℕ) → SameUpTo n xs ys → SameUpTo n ys zs → SameUpTo n xs zs
SameUpTo-trans zero xs ys zs h k = tt
SameUpTo-trans (suc n) [] ys zs h k = absurd h
SameUpTo-trans (suc n) (x ∷ xs) [] zs h k = absurd h
SameUpTo-trans (suc n) (x ∷ xs) (y ∷ ys) [] h k = absurd k
SameUpTo-trans (suc n) (x ∷ xs) (y ∷ ys) (z ∷ zs) h k = (h.0 ∙ k.0, SameUpTo-trans n xs ys zs h.1 k.1)

pub common-sym : (n : ℕ) (xs ys : List ℕ) → n ≤ common_of xs ys → n ≤ common_of ys xs
common-sym n xs ys h = same-common n ys xs (SameUpTo-sym n xs ys (common-same n xs ys h))

pub common-trans : (n : ℕ) (xs ys zs : List ℕ) → n ≤ common_of xs ys → n ≤ common_of ys zs → n ≤ common_of xs zs
common-trans n xs ys zs h k = same-common n xs zs (SameUpTo-trans n xs ys zs (common-same n xs ys h) (common-same n ys zs k))

-- more in common than round: the next one is the same
pub next_common : (round : List ℕ) (l : ℕ) (ls ms : List ℕ) → suc (length round) ≤ common_of (round ++ l ∷ ls) (round ++ ms) → (rest : List ℕ) × (ms ≡ l ∷ rest)
next_common round l ls ms h = by round ms (common-same (suc (length round)) (round ++ l ∷ ls) (round ++ ms) h)
  where
    by : (round ms : List ℕ) → SameUpTo (suc (length round)) (round ++ l ∷ ls) (round ++ ms) → (rest : List ℕ) × (ms ≡ l ∷ rest)
    by [] [] h = absurd h
    by [] (m ∷ ms) h = (ms, ap (λ k. k ∷ ms) (sym h.0))
    by (k ∷ round) ms h = by round ms h.1

beside_by : (t : Shape) (ts : Shapes) (s : ℕ) → In s (statements t) ⊎ In s (statements_in ts) → (In s (statements t) → (ls : List ℕ) × Stands t s ls) → (In s (statements_in ts) → (ls : List ℕ) × StandsIn ts s ls)
    → (ls : List ℕ) × (Stands t s ls ⊎ StandsIn ts s ls)
beside_by t ts s (inl i) f g = let h = f i in (h.0, inl h.1)
beside_by t ts s (inr i) f g = let h = g i in (h.0, inr h.1)

mutual
  pub statement_stands : (t : Shape) (s : ℕ) → In s (statements t) → (ls : List ℕ) × Stands t s ls
  statement_stands (Single r) s (inl e) = ([], sym e)
  statement_stands (Single r) s (inr i) = absurd i
  statement_stands (Loop l ts) s i = let h = statement_stands_in ts s i in (l ∷ h.0, (refl, h.1))

  pub statement_stands_in : (ts : Shapes) (s : ℕ) → In s (statements_in ts) → (ls : List ℕ) × StandsIn ts s ls
  statement_stands_in no_shapes s i = absurd i
  statement_stands_in (shape t ts) s i = beside_by t ts s (In-append s (statements t) (statements_in ts) i) (statement_stands t s) (statement_stands_in ts s)

-- ---- what stands between two statements of a loop stands in it

module _ (loops_of : ℕ → List ℕ) where
  abbrev Rising : List ℕ → Type 0
  Rising xs = Pairwise (λ s r. s < r) xs

  cases : (t : Shape) (ts : Shapes) (round : List ℕ) → FitsIn loops_of round (shape t ts) → Distinct (loops_of_shape t ++ loops_of_shapes ts) → Rising (statements t ++ statements_in ts) → (s q r : ℕ) → s < q → q < r
      → In s (statements t) ⊎ In s (statements_in ts) → In q (statements t) ⊎ In q (statements_in ts) → In r (statements t) ⊎ In r (statements_in ts)
      → (In s (statements t) → In q (statements t) → In r (statements t) → common loops_of s r ≤ common loops_of q r)
      → (In s (statements_in ts) → In q (statements_in ts) → In r (statements_in ts) → common loops_of s r ≤ common loops_of q r) → common loops_of s r ≤ common loops_of q r
  cases t ts round fits dl rising s q r a b (inl i) (inl j) (inl k) f g = f i j k
  cases t ts round fits dl rising s q r a b (inr i) (inr j) (inr k) f g = g i j k
  cases t ts round fits dl rising s q r a b (inl i) j (inr k) f g =
      let h = statement_stands t s i in
      let m = statement_stands_in ts r k in
      let le : common loops_of s r ≤ length round = beside loops_of t ts round s r h.0 m.0 dl fits h.1 m.1 in
      let n = in_some j in
      let more = common_more round n.0 m.0 in
      let same : length round ≤ common loops_of q r = subst (λ zs. length round ≤ common_of zs (loops_of r)) (sym (fits q n.0 n.1)) (subst (λ zs. length round ≤ common_of (round ++ n.0) zs) (sym (fits r m.0 (inr m.1))) more) in
      omega arith
    where
      in_some : In q (statements t) ⊎ In q (statements_in ts) → (ls : List ℕ) × (Stands t q ls ⊎ StandsIn ts q ls)
      in_some (inl j) = let h = statement_stands t q j in (h.0, inl h.1)
      in_some (inr j) = let h = statement_stands_in ts q j in (h.0, inr h.1)
  cases t ts round fits dl rising s q r a b (inr i) (inl j) k f g = absurd (let c : q < s = Pairwise-across (λ s r. s < r) (statements t) (statements_in ts) rising q s j i in omega arith)
  cases t ts round fits dl rising s q r a b (inl i) (inr j) (inl k) f g = absurd (let c : r < q = Pairwise-across (λ s r. s < r) (statements t) (statements_in ts) rising r q k j in omega arith)
  cases t ts round fits dl rising s q r a b (inr i) (inr j) (inl k) f g = absurd (let c : r < q = Pairwise-across (λ s r. s < r) (statements t) (statements_in ts) rising r q k j in omega arith)

  mutual
    pub between : (t : Shape) (round : List ℕ) → Fits loops_of round t → Distinct (loops_of_shape t) → Rising (statements t) → (s q r : ℕ)
        → In s (statements t) → In q (statements t) → In r (statements t) → s < q → q < r → common loops_of s r ≤ common loops_of q r
    between (Single k) round fits dl rising s q r (inl e) (inl f) c a b = absurd (omega arith)
    between (Single k) round fits dl rising s q r (inl e) (inr f) c a b = absurd f
    between (Single k) round fits dl rising s q r (inr e) f c a b = absurd e
    between (Loop l ts) round fits dl rising s q r i j k a b = between_in ts (round ++ l ∷ []) (fits_body loops_of [] (λ l is. 0) l ts round fits) dl.1 rising s q r i j k a b

    pub between_in : (ts : Shapes) (round : List ℕ) → FitsIn loops_of round ts → Distinct (loops_of_shapes ts) → Rising (statements_in ts) → (s q r : ℕ)
        → In s (statements_in ts) → In q (statements_in ts) → In r (statements_in ts) → s < q → q < r → common loops_of s r ≤ common loops_of q r
    between_in no_shapes round fits dl rising s q r i j k a b = absurd i
    between_in (shape t ts) round fits dl rising s q r i j k a b =
        cases t ts round fits dl rising s q r a b (In-append s (statements t) (statements_in ts) i) (In-append q (statements t) (statements_in ts) j) (In-append r (statements t) (statements_in ts) k)
        (λ i j k. between t round (λ s ls h. fits s ls (inl h)) (Pairwise-left (λ x y. ¬ (x ≡ y)) (loops_of_shape t) (loops_of_shapes ts) dl) (Pairwise-left (λ s r. s < r) (statements t) (statements_in ts) rising) s q r i j k a b)
        (λ i j k. between_in ts round (λ s ls h. fits s ls (inr h)) (Pairwise-right (λ x y. ¬ (x ≡ y)) (loops_of_shape t) (loops_of_shapes ts) dl) (Pairwise-right (λ s r. s < r) (statements t) (statements_in ts) rising) s q r i j k a b)
