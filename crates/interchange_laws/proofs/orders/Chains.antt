-- The instances of statements in one chain of loops.
use Rattle.std.proofs.Common.{◌≡◌, refl, sym, ap, ◌∙◌, subst, inl, inr, ℕ, zero, suc, ◌<◌, ◌≤◌, cond, List, [], ◌∷◌, ◌++◌, length, arith, append-nil}
use Rattle.nest_order.specs.orders.Lists.{Distinct, In, Pairwise}
use Rattle.nest_order.specs.orders.Nests.{IsNest}
use Rattle.nest_order.specs.orders.Shapes.{Stands, StandsIn, Within, common_of, loops_of_shape, loops_of_shapes, statements, statements_in}
use Rattle.nest_order.proofs.orders.Keeping.{same_number}
use Rattle.interchange_laws.specs.orders.Moves.{chain_of, inner, rearranged, restored, singles, swapped}

statements_of_singles : (ss : List ℕ) → statements_in (singles ss) ≡ ss
statements_of_singles [] = refl
statements_of_singles (s ∷ ss) = ap (λ zs. s ∷ zs) (statements_of_singles ss)

loops_of_singles : (ss : List ℕ) → loops_of_shapes (singles ss) ≡ []
loops_of_singles [] = refl
loops_of_singles (s ∷ ss) = loops_of_singles ss

statements_of_inner : (ls ss : List ℕ) → statements_in (inner ls ss) ≡ ss
statements_of_inner [] ss = statements_of_singles ss
statements_of_inner (l ∷ ls) ss = append-nil (statements_in (inner ls ss)) ∙ statements_of_inner ls ss

loops_of_inner : (ls ss : List ℕ) → loops_of_shapes (inner ls ss) ≡ ls
loops_of_inner [] ss = loops_of_singles ss
loops_of_inner (l ∷ ls) ss = ap (λ zs. l ∷ zs) (append-nil (loops_of_shapes (inner ls ss)) ∙ loops_of_inner ls ss)

-- at least one loop
pub record HasLoop (ls : List ℕ) : Type 0 where
  pub first : ℕ
  pub rest : List ℕ
  pub is : ls ≡ first ∷ rest

pub chain_statements : (ls ss : List ℕ) → HasLoop ls → statements (chain_of ls ss) ≡ ss
chain_statements [] ss h = absurd (let f : 0 ≡ suc (length h.rest) = ap length h.is in omega arith)
chain_statements (l ∷ ls) ss h = statements_of_inner ls ss

pub chain_loops : (ls ss : List ℕ) → HasLoop ls → loops_of_shape (chain_of ls ss) ≡ ls
chain_loops [] ss h = absurd (let f : 0 ≡ suc (length h.rest) = ap length h.is in omega arith)
chain_loops (l ∷ ls) ss h = ap (λ zs. l ∷ zs) (loops_of_inner ls ss)

-- each statement stands in just these loops
stands_in_singles : (ss : List ℕ) (s : ℕ) (ms : List ℕ) → StandsIn (singles ss) s ms → ms ≡ []
stands_in_singles [] s ms h = absurd h
stands_in_singles (r ∷ ss) s [] (inl h) = refl
stands_in_singles (r ∷ ss) s (m ∷ ms) (inl h) = absurd h
stands_in_singles (r ∷ ss) s ms (inr h) = stands_in_singles ss s ms h

stands_in_inner : (ls ss : List ℕ) (s : ℕ) (ms : List ℕ) → StandsIn (inner ls ss) s ms → ms ≡ ls
stands_in_inner [] ss s ms h = stands_in_singles ss s ms h
stands_in_inner (l ∷ ls) ss s [] (inl h) = absurd h
stands_in_inner (l ∷ ls) ss s (m ∷ ms) (inl h) = ap (λ k. k ∷ ms) (sym h.0) ∙ ap (λ zs. l ∷ zs) (stands_in_inner ls ss s ms h.1)
stands_in_inner (l ∷ ls) ss s ms (inr h) = absurd h

pub stands_in_chain : (ls ss : List ℕ) (s : ℕ) (ms : List ℕ) → HasLoop ls → Stands (chain_of ls ss) s ms → ls ≡ ms
stands_in_chain [] ss s ms h k = absurd (let f : 0 ≡ suc (length h.rest) = ap length h.is in omega arith)
stands_in_chain (l ∷ ls) ss s [] h k = absurd k
stands_in_chain (l ∷ ls) ss s (m ∷ ms) h k = ap (λ n. n ∷ ls) k.0 ∙ ap (λ zs. m ∷ zs) (sym (stands_in_inner ls ss s ms k.1))

-- ---- with the loops in another order it is a nest, too

has_loop : (ls : List ℕ) → 1 ≤ length ls → HasLoop ls
has_loop [] h = absurd (omega arith)
has_loop (l ∷ ls) h = record { first = l; rest = ls; is = refl }

pub still_has_loop : (ls ms : List ℕ) → HasLoop ls → length ms ≡ length ls → HasLoop ms
still_has_loop ls ms h e = has_loop ms (let f : length ls ≡ suc (length h.rest) = ap length h.is in omega arith)

pub chain_nest : (ls ss : List ℕ) → HasLoop ls → Distinct ls → Pairwise (λ s r. s < r) ss → IsNest (λ s. ls) (chain_of ls ss)
chain_nest ls ss h d rising = record {
  rising = subst (Pairwise (λ s r. s < r)) (sym (chain_statements ls ss h)) rising;
  single = subst Distinct (sym (chain_loops ls ss h)) d;
  fits = λ s ms k. stands_in_chain ls ss s ms h k;
}

-- all loops are common
pub common_all : (ls : List ℕ) → common_of ls ls ≡ length ls
common_all [] = refl
common_all (l ∷ ls) = subst (λ c. cond c (suc (common_of ls ls)) 0 ≡ suc (length ls)) (sym (same_number l)) (ap suc (common_all ls))

-- ---- iterations within rectangular loops

module _ (turns : ℕ → ℕ) where
  abbrev pub WithinEach : List ℕ → List ℕ → Type 0
  WithinEach [] [] = Unit {0}
  WithinEach [] (i ∷ is) = ⊥
  WithinEach (l ∷ ls) [] = ⊥
  WithinEach (l ∷ ls) (i ∷ is) = (1 ≤ i) × (i ≤ turns l) × WithinEach ls is

  pub within_length : (ls is : List ℕ) → WithinEach ls is → length is ≡ length ls
  within_length [] [] h = refl
  within_length [] (i ∷ is) h = absurd h
  within_length (l ∷ ls) [] h = absurd h
  within_length (l ∷ ls) (i ∷ is) h = ap suc (within_length ls is h.2)

  first_within : (l i : ℕ) (ls is : List ℕ) → (1 ≤ i) × (i ≤ turns l) → WithinEach ls is → WithinEach (swapped zero (l ∷ ls)) (swapped zero (i ∷ is))
  first_within l i [] [] a h = (a.0, a.1, tt)
  first_within l i [] (j ∷ is) a h = absurd h
  first_within l i (m ∷ ls) [] a h = absurd h
  first_within l i (m ∷ ls) (j ∷ is) a h = (h.0, h.1, (a.0, a.1, h.2))

  pub within_swapped : (p : ℕ) (ls is : List ℕ) → WithinEach ls is → WithinEach (swapped p ls) (swapped p is)
  within_swapped zero [] [] h = h
  within_swapped zero [] (i ∷ is) h = absurd h
  within_swapped zero (l ∷ ls) [] h = absurd h
  within_swapped zero (l ∷ ls) (i ∷ is) h = first_within l i ls is (h.0, h.1) h.2
  within_swapped (suc p) [] [] h = h
  within_swapped (suc p) [] (i ∷ is) h = absurd h
  within_swapped (suc p) (l ∷ ls) [] h = absurd h
  within_swapped (suc p) (l ∷ ls) (i ∷ is) h = (h.0, h.1, within_swapped p ls is h.2)

  pub within_rearranged : (ps ls is : List ℕ) → WithinEach ls is → WithinEach (rearranged ps ls) (rearranged ps is)
  within_rearranged [] ls is h = h
  within_rearranged (p ∷ ps) ls is h = within_rearranged ps (swapped p ls) (swapped p is) (within_swapped p ls is h)

  pub within_restored : (ps ls is : List ℕ) → WithinEach ls is → WithinEach (restored ps ls) (restored ps is)
  within_restored [] ls is h = h
  within_restored (p ∷ ps) ls is h = within_swapped p (restored ps ls) (restored ps is) (within_restored ps ls is h)

  module _ (trip : ℕ → List ℕ → ℕ) where
    pub within_each : (before ls is : List ℕ) → ((l : ℕ) (b : List ℕ) → In l ls → trip l b ≡ turns l) → Within trip before ls is → WithinEach ls is
    within_each before [] [] r h = tt
    within_each before [] (i ∷ is) r h = absurd h
    within_each before (l ∷ ls) [] r h = absurd h
    within_each before (l ∷ ls) (i ∷ is) r h = (h.0, subst (λ n. i ≤ n) (r l before (inl refl)) h.1, within_each (before ++ i ∷ []) ls is (λ m b j. r m b (inr j)) h.2)

    pub each_within : (before ls is : List ℕ) → ((l : ℕ) (b : List ℕ) → In l ls → trip l b ≡ turns l) → WithinEach ls is → Within trip before ls is
    each_within before [] [] r h = tt
    each_within before [] (i ∷ is) r h = absurd h
    each_within before (l ∷ ls) [] r h = absurd h
    each_within before (l ∷ ls) (i ∷ is) r h = (h.0, subst (λ n. i ≤ n) (sym (r l before (inl refl))) h.1, each_within (before ++ i ∷ []) ls is (λ m b j. r m b (inr j)) h.2)
