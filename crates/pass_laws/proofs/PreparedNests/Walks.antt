-- The loops of a nest and those round its statements.
use Rattle.std.proofs.Common.{◌≡◌, ◌⊎◌, inl, inr, sym, subst, ℕ, ◌≤◌, ◌<◌, List, [], ◌∷◌, ◌++◌, length}
use Rattle.std.proofs.Common.{append-nil, append_assoc, length-append, arith}
use Rattle.std.proofs.lemmas.List.{map-append}
use Rattle.nest.specs.Bodies.{Standing, loops_in_branches, loops_in_parts, loops_of, statements_in, statements_in_branches}
use Rattle.nest.specs.Bodies.{statements_in_parts}
use Rattle.nest.specs.Plain.{Loop, Part, Run, Turns, Choice, Label, Jump, Parts, no_parts, part}
use Rattle.nest.specs.Plain.{Branches, no_branches, branch}
use Rattle.nest_order.proofs.orders.Lists as orders
use Rattle.nest_order.proofs.orders.Lists.{In-append}
use Rattle.nest_order.proofs.orders.Once.{Pairwise-left, Pairwise-right}
use Rattle.nest_order.specs.orders.Lists.{In, Distinct}
use Rattle.nest_order.specs.orders.Lists as order_lists
use Rattle.nest_order.specs.shapes.Shapes.{numbers_of}
use Rattle.pass_laws.proofs.NormalFacts.LoopWalk as walk
use Rattle.tree.specs.Plain.{Expression}
use Rattle.pass_laws.specs.prepared_nests.Branches.{StandingTest, tests_in_branches, tests_in_parts, tests_under}
use Rattle.pass_laws.specs.prepared_nests.Loops.{EachLoop, EachLoopIn, EachLoopUnder}

-- ---- each loop of a part

module _ (Asked : List Loop → Loop → Type 0) where
  mutual
    pub walked : (ls : List Loop) (p : Part) → EachLoop Asked ls p → walk.EachLoop Asked ls p
    walked ls (Run s) h = tt
    walked ls (Turns l ps) h = (h.0, walked_in (ls ++ l ∷ []) ps h.1)
    walked ls (Choice bs ps) h = (walked_under ls bs h.0, walked_in ls ps h.1)
    walked ls (Label k) h = tt
    walked ls (Jump k) h = tt

    walked_in : (ls : List Loop) (ps : Parts) → EachLoopIn Asked ls ps → walk.EachLoopIn Asked ls ps
    walked_in ls no_parts h = tt
    walked_in ls (part p ps) h = (walked ls p h.0, walked_in ls ps h.1)

    walked_under : (ls : List Loop) (bs : Branches) → EachLoopUnder Asked ls bs → walk.EachLoopUnder Asked ls bs
    walked_under ls no_branches h = tt
    walked_under ls (branch test ps bs) h = (walked_in ls ps h.0, walked_under ls bs h.1)

-- ---- the loops round a statement

abbrev pub AreOnce : List Loop → Type 0
AreOnce ls = Distinct (numbers_of ls)

pub once_before : (ls xs : List Loop) → AreOnce (ls ++ xs) → AreOnce ls
once_before ls xs d = Pairwise-left (λ x y. ¬ (x ≡ y)) (numbers_of ls) (numbers_of xs) (subst Distinct (map-append (λ (l : Loop). l.number) ls xs) d)

once_first : (ls xs ys : List Loop) → AreOnce (ls ++ (xs ++ ys)) → AreOnce (ls ++ xs)
once_first ls xs ys d = once_before (ls ++ xs) ys (subst AreOnce (sym (append_assoc ls xs ys)) d)

once_last : (ls xs ys : List Loop) → AreOnce (ls ++ (xs ++ ys)) → AreOnce (ls ++ ys)
once_last [] xs ys d = Pairwise-right (λ x y. ¬ (x ≡ y)) (numbers_of xs) (numbers_of ys) (subst Distinct (map-append (λ (l : Loop). l.number) xs ys) d)
once_last (l ∷ ls) xs ys d = (without (λ k. ¬ (l.number ≡ k)) ls d.0, once_last ls xs ys d.1)
  where
    without : (P : ℕ → Type 0) (ms : List Loop) → order_lists.Each P (numbers_of (ms ++ (xs ++ ys))) → order_lists.Each P (numbers_of (ms ++ ys))
    without P [] h = orders.Each-right P (numbers_of xs) (numbers_of ys) (subst (order_lists.Each P) (map-append (λ (l : Loop). l.number) xs ys) h)
    without P (m ∷ ms) h = (h.0, without P ms h.1)

module _ (Asked : List Loop → Loop → Type 0) where
  -- each of these loops is as is asked under those before it
  abbrev pub Follow : List Loop → List Loop → Type 0
  Follow before [] = Unit {0}
  Follow before (l ∷ ls) = Asked before l × Follow (before ++ l ∷ []) ls

  follow_more : (before ls : List Loop) (l : Loop) → Follow before ls → Asked (before ++ ls) l → Follow before (ls ++ l ∷ [])
  follow_more before [] l h a = (subst (λ (xs : List Loop). Asked xs l) (append-nil before) a, tt)
  follow_more before (m ∷ ls) l h a =
      (h.0, follow_more (before ++ m ∷ []) ls l h.1 (subst (λ (xs : List Loop). Asked xs l) (sym (append_assoc before (m ∷ []) ls)) a))

  pub record AreRound (ls : List Loop) : Type 0 where
    pub follow : Follow [] ls
    pub once : AreOnce ls

  either : (x : Standing) (xs ys : List Standing) → (In x xs → AreRound x.loops) → (In x ys → AreRound x.loops) → In x (xs ++ ys) → AreRound x.loops
  either x xs ys f g i = by (In-append x xs ys i)
    where
      by : In x xs ⊎ In x ys → AreRound x.loops
      by (inl j) = f j
      by (inr j) = g j

  mutual
    round_of : (ls : List Loop) (p : Part) → EachLoop Asked ls p → Follow [] ls → AreOnce (ls ++ loops_of p) → (x : Standing) → In x (statements_in ls p) → AreRound x.loops
    round_of ls (Run s) h u d x (inl e) =
        subst (λ (y : Standing). AreRound y.loops) (sym e) (record { follow = u; once = subst AreOnce (append-nil ls) d })
    round_of ls (Run s) h u d x (inr i) = absurd i
    round_of ls (Turns l ps) h u d x i =
        round_in (ls ++ l ∷ []) ps h.1 (follow_more [] ls l u h.0) (subst AreOnce (sym (append_assoc ls (l ∷ []) (loops_in_parts ps))) d) x i
    round_of ls (Choice bs ps) h u d x i =
        either x (statements_in_branches ls bs) (statements_in_parts ls ps) (round_under ls bs h.0 u (once_first ls (loops_in_branches bs) (loops_in_parts ps) d) x)
        (round_in ls ps h.1 u (once_last ls (loops_in_branches bs) (loops_in_parts ps) d) x) i
    round_of ls (Label k) h u d x i = absurd i
    round_of ls (Jump k) h u d x i = absurd i

    round_in : (ls : List Loop) (ps : Parts) → EachLoopIn Asked ls ps → Follow [] ls → AreOnce (ls ++ loops_in_parts ps) → (x : Standing) → In x (statements_in_parts ls ps) → AreRound x.loops
    round_in ls no_parts h u d x i = absurd i
    round_in ls (part p ps) h u d x i =
        either x (statements_in ls p) (statements_in_parts ls ps) (round_of ls p h.0 u (once_first ls (loops_of p) (loops_in_parts ps) d) x)
        (round_in ls ps h.1 u (once_last ls (loops_of p) (loops_in_parts ps) d) x) i

    round_under : (ls : List Loop) (bs : Branches) → EachLoopUnder Asked ls bs → Follow [] ls → AreOnce (ls ++ loops_in_branches bs) → (x : Standing) → In x (statements_in_branches ls bs) → AreRound x.loops
    round_under ls no_branches h u d x i = absurd i
    round_under ls (branch test ps bs) h u d x i =
        either x (statements_in_parts ls ps) (statements_in_branches ls bs) (round_in ls ps h.0 u (once_first ls (loops_in_parts ps) (loops_in_branches bs) d) x)
        (round_under ls bs h.1 u (once_last ls (loops_in_parts ps) (loops_in_branches bs) d) x) i

  pub rounds : (p : Part) → EachLoop Asked [] p → AreOnce (loops_of p) → (x : Standing) → In x (statements_in [] p) → AreRound x.loops
  rounds p h d x i = round_of [] p h tt d x i

  -- ---- the loops round a condition

  either_test : (x : StandingTest) (xs ys : List StandingTest) → (In x xs → AreRound x.loops) → (In x ys → AreRound x.loops) → In x (xs ++ ys) → AreRound x.loops
  either_test x xs ys f g i = by (In-append x xs ys i)
    where
      by : In x xs ⊎ In x ys → AreRound x.loops
      by (inl j) = f j
      by (inr j) = g j

  own_test : (ls : List Loop) (e : Expression) (ts : List StandingTest) → AreRound ls → (x : StandingTest) → (In x ts → AreRound x.loops) → In x (record { loops = ls; test = e } ∷ ts) → AreRound x.loops
  own_test ls e ts h x f (inl q) = subst (λ (y : StandingTest). AreRound y.loops) (sym q) h
  own_test ls e ts h x f (inr i) = f i

  mutual
    test_round_of : (ls : List Loop) (p : Part) → EachLoop Asked ls p → Follow [] ls → AreOnce (ls ++ loops_of p) → (x : StandingTest) → In x (tests_under ls p) → AreRound x.loops
    test_round_of ls (Run s) h u d x i = absurd i
    test_round_of ls (Turns l ps) h u d x i =
        test_round_in (ls ++ l ∷ []) ps h.1 (follow_more [] ls l u h.0) (subst AreOnce (sym (append_assoc ls (l ∷ []) (loops_in_parts ps))) d) x i
    test_round_of ls (Choice bs ps) h u d x i =
        either_test x (tests_in_branches ls bs) (tests_in_parts ls ps) (test_round_under ls bs h.0 u (once_first ls (loops_in_branches bs) (loops_in_parts ps) d) x)
        (test_round_in ls ps h.1 u (once_last ls (loops_in_branches bs) (loops_in_parts ps) d) x) i
    test_round_of ls (Label k) h u d x i = absurd i
    test_round_of ls (Jump k) h u d x i = absurd i

    test_round_in : (ls : List Loop) (ps : Parts) → EachLoopIn Asked ls ps → Follow [] ls → AreOnce (ls ++ loops_in_parts ps) → (x : StandingTest) → In x (tests_in_parts ls ps) → AreRound x.loops
    test_round_in ls no_parts h u d x i = absurd i
    test_round_in ls (part p ps) h u d x i =
        either_test x (tests_under ls p) (tests_in_parts ls ps) (test_round_of ls p h.0 u (once_first ls (loops_of p) (loops_in_parts ps) d) x)
        (test_round_in ls ps h.1 u (once_last ls (loops_of p) (loops_in_parts ps) d) x) i

    test_round_under : (ls : List Loop) (bs : Branches) → EachLoopUnder Asked ls bs → Follow [] ls → AreOnce (ls ++ loops_in_branches bs) → (x : StandingTest) → In x (tests_in_branches ls bs) → AreRound x.loops
    test_round_under ls no_branches h u d x i = absurd i
    test_round_under ls (branch test ps bs) h u d x i =
        either_test x (record { loops = ls; test = test } ∷ tests_in_parts ls ps) (tests_in_branches ls bs)
        (own_test ls test (tests_in_parts ls ps) (record { follow = u; once = once_before ls (loops_in_parts ps ++ loops_in_branches bs) d }) x
        (test_round_in ls ps h.0 u (once_first ls (loops_in_parts ps) (loops_in_branches bs) d) x))
        (test_round_under ls bs h.1 u (once_last ls (loops_in_parts ps) (loops_in_branches bs) d) x) i

  pub test_rounds : (p : Part) → EachLoop Asked [] p → AreOnce (loops_of p) → (x : StandingTest) → In x (tests_under [] p) → AreRound x.loops
  test_rounds p h d x i = test_round_of [] p h tt d x i

  -- ---- how deep they stand

  module _ (n : ℕ) (shallow : (round : List Loop) (l : Loop) → Asked round l → length round < n) where
    pub few : (before ls : List Loop) → Follow before ls → length before ≤ n → length (before ++ ls) ≤ n
    few before [] h k = subst (λ (xs : List Loop). length xs ≤ n) (sym (append-nil before)) k
    few before (l ∷ ls) h k =
        let less = shallow before l h.0 in
        let more = length-append before (l ∷ []) in
        subst (λ (xs : List Loop). length xs ≤ n) (append_assoc before (l ∷ []) ls) (few (before ++ l ∷ []) ls h.1 (omega (arith, less, more)))
