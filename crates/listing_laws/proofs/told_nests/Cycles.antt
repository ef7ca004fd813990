-- There is one list of cycles of a nest by its edges and holds: what is emitted is the same but for which statement's
-- loops are taken, and of the closed walks from a statement one is the least.
use Rattle.std.proofs.Common.{◌≡◌, ◌⊎◌, inl, inr, refl, sym, ap, ap₂, ◌∙◌, subst, ℕ, suc, ◌-◌, ◌<◌, ◌≤◌, arith, Bool, true, false, ◌==◌, ◌||◌, Some, List, [], ◌∷◌, ◌++◌, length, map}
use Rattle.std.proofs.lemmas.Option.{slice_get_within}
use Rattle.std.specs.List.{range_with_len}
use Rattle.std.specs.Prelude.{filter, slice_get}
use Rattle.closed_walks.proofs.Components.{least_walk_is_unique}
use Rattle.closed_walks.specs.Cycles as walks
use Rattle.closed_walks.specs.Cycles.{AreCycles, StandIn}
use Rattle.closed_walks.specs.Walks.{IsClosedWalk}
use Rattle.components.proofs.ListLaws.{Each-In, Pairwise-filter}
use Rattle.components.proofs.Unique.{order_is_unique}
use Rattle.components.specs.Emission.{statements_of_classes}
use Rattle.components.specs.Lists.{Distinct, IsMember}
use Rattle.components.specs.Reachability.{SamePairs}
use Rattle.dependence_graph.specs.declared.graphs.Cycle.{Cycle}
use Rattle.dependence_graph.specs.declared.graphs.Edge.{Edge}
use Rattle.dependence_graph.specs.declared.graphs.Hold.{Hold}
use Rattle.emission.proofs.EmissionCauses.Causes.{stand_among_numbers}
use Rattle.emission.proofs.EmissionMarks.Lists.{from_distinct, range_once}
use Rattle.emission.specs.emission_pieces.Cycles.{AreCyclesAmong, AreCyclesIn, cycle_at, stands_among, stands_in_piece, statements_among, steps_of}
use Rattle.emission.specs.emission_pieces.Emission.{AreEmittedFor, IsEmittedFor}
use Rattle.emission.specs.emission_pieces.Levels.{AreComponents, ArePairsAt}
use Rattle.emission.specs.emission_pieces.Nests.{loops_at}
use Rattle.emission.specs.emission_pieces.Pieces.{Formed, Kept, Piece, Pieces, Turning, no_pieces, piece}
use Rattle.listing_laws.specs.told_nests.Laws.{CyclesAreUnique}
use Rattle.nest.specs.Bodies.{nest_statements}
use Rattle.nest.specs.Plain.{Loop, Nest}

-- ---- walks

abbrev HasWalk : List (ℕ × ℕ) → ℕ → Type 0
HasWalk pairs s = (over : List ℕ) × IsClosedWalk pairs s over

-- of distinct numbers, those from which a closed walk leads
one_start : (pairs : List (ℕ × ℕ)) (ns xs ys : List ℕ) → Distinct ns → StandIn xs ns → StandIn ys ns
    → ((s : ℕ) → IsMember s ns → HasWalk pairs s → IsMember s xs) → ((s : ℕ) → IsMember s ns → HasWalk pairs s → IsMember s ys)
    → ((s : ℕ) → IsMember s xs → HasWalk pairs s) → ((s : ℕ) → IsMember s ys → HasWalk pairs s) → xs ≡ ys
one_start pairs [] xs ys d a b f g v w = a ∙ sym b
one_start pairs (n ∷ ns) xs ys d a b f g v w = by a b (one_start pairs ns)
  where
    no : IsMember n ns → ⊥
    no i = Each-In (λ y. ¬ (n ≡ y)) ns d.0 n i refl

    -- behind n
    left : (us rest : List ℕ) → us ≡ n ∷ rest → ((s : ℕ) → IsMember s (n ∷ ns) → HasWalk pairs s → IsMember s us)
        → (s : ℕ) → IsMember s ns → HasWalk pairs s → IsMember s rest
    left us rest e h s i k = to (subst (IsMember s) e (h s (inr i) k))
      where
        to : (s ≡ n) ⊎ IsMember s rest → IsMember s rest
        to (inl same) = absurd (no (subst (λ r. IsMember r ns) same i))
        to (inr j) = j

    first : (us rest : List ℕ) → us ≡ n ∷ rest → IsMember n us
    first us rest e = subst (IsMember n) (sym e) (inl refl)

    more : (us rest : List ℕ) → us ≡ n ∷ rest → (s : ℕ) → IsMember s rest → IsMember s us
    more us rest e s i = subst (IsMember s) (sym e) (inr i)

    by : StandIn xs (n ∷ ns) → StandIn ys (n ∷ ns)
        → ((us vs : List ℕ) → Distinct ns → StandIn us ns → StandIn vs ns
        → ((s : ℕ) → IsMember s ns → HasWalk pairs s → IsMember s us) → ((s : ℕ) → IsMember s ns → HasWalk pairs s → IsMember s vs)
        → ((s : ℕ) → IsMember s us → HasWalk pairs s) → ((s : ℕ) → IsMember s vs → HasWalk pairs s) → us ≡ vs)
        → xs ≡ ys
    by (inl h) (inl k) again = again xs ys d.1 h k (λ s i. f s (inr i)) (λ s i. g s (inr i)) v w
    by (inl h) (inr k) again = absurd (no (stand_among_numbers xs ns h n (f n (inl refl) (w n (first ys k.0 k.1)))))
    by (inr h) (inl k) again = absurd (no (stand_among_numbers ys ns k n (g n (inl refl) (v n (first xs h.0 h.1)))))
    by (inr h) (inr k) again =
        h.1
        ∙ (ap (λ us. n ∷ us)
        (again h.0 k.0 d.1 h.2 k.2 (left xs h.0 h.1 f) (left ys k.0 k.1 g)
        (λ s i. v s (more xs h.0 h.1 s i)) (λ s i. w s (more ys k.0 k.1 s i)))
        ∙ sym k.1)

-- each start has its walk
each_walk : (pairs : List (ℕ × ℕ)) (starts : List ℕ) (us : List (List ℕ)) → walks.AreLeastWalksOf pairs starts us
    → (s : ℕ) → IsMember s starts → HasWalk pairs s
each_walk pairs [] us h s i = absurd i
each_walk pairs (r ∷ starts) [] h s i = absurd h
each_walk pairs (r ∷ starts) ([] ∷ us) h s i = absurd h.0
each_walk pairs (r ∷ starts) ((a ∷ over) ∷ us) h s (inl e) = (over, subst (λ q. IsClosedWalk pairs q over) (sym e) h.0.1.closed)
each_walk pairs (r ∷ starts) ((a ∷ over) ∷ us) h s (inr i) = each_walk pairs starts us h.1 s i

one_each : (pairs : List (ℕ × ℕ)) (starts : List ℕ) (us vs : List (List ℕ)) → walks.AreLeastWalksOf pairs starts us
    → walks.AreLeastWalksOf pairs starts vs → us ≡ vs
one_each pairs [] [] [] h k = refl
one_each pairs [] [] (v ∷ vs) h k = absurd k
one_each pairs [] (u ∷ us) vs h k = absurd h
one_each pairs (s ∷ starts) [] vs h k = absurd h
one_each pairs (s ∷ starts) (u ∷ us) [] h k = absurd k
one_each pairs (s ∷ starts) ([] ∷ us) (v ∷ vs) h k = absurd h.0
one_each pairs (s ∷ starts) ((a ∷ over) ∷ us) ([] ∷ vs) h k = absurd k.0
one_each pairs (s ∷ starts) ((a ∷ over) ∷ us) ((b ∷ more) ∷ vs) h k =
    ap₂ (λ (w : List ℕ) (ws : List (List ℕ)). w ∷ ws)
    (ap₂ (λ (q : ℕ) (qs : List ℕ). q ∷ qs) (h.0.0 ∙ sym k.0.0) (least_walk_is_unique pairs s over more h.0.1 k.0.1))
    (one_each pairs starts us vs h.1 k.1)

one_walks : (pairs : List (ℕ × ℕ)) (ns : List ℕ) (us vs : List (List ℕ)) → Distinct ns → AreCycles pairs ns us → AreCycles pairs ns vs
    → us ≡ vs
one_walks pairs ns us vs d h k =
    let same : h.starts ≡ k.starts = one_start pairs ns h.starts k.starts d h.among k.among (λ s i w. h.all s w.0 i w.1)
    (λ s i w. k.all s w.0 i w.1) (each_walk pairs h.starts us h.each) (each_walk pairs k.starts vs k.each) in
    one_each pairs k.starts us vs (subst (λ ss. walks.AreLeastWalksOf pairs ss us) same h.each) k.each

-- ---- pieces

-- the same but for the loops that are taken
abbrev mutual
  IsAlike : Piece → Piece → Type 0
  IsAlike (Kept s) (Kept r) = s ≡ r
  IsAlike (Formed s) (Formed r) = s ≡ r
  IsAlike (Turning l ps) (Turning m qs) = AreAlike ps qs
  IsAlike p q = ⊥

  AreAlike : Pieces → Pieces → Type 0
  AreAlike no_pieces no_pieces = Unit {0}
  AreAlike (piece p ps) (piece q qs) = IsAlike p q × AreAlike ps qs
  AreAlike ps qs = ⊥

module _ (n : Nest) (edges : List Edge) (holds : List Hold) where
  same_pairs : (k : ℕ) (part : List ℕ) (ps qs : List (ℕ × ℕ)) → ArePairsAt edges k part ps → ArePairsAt edges k part qs → SamePairs ps qs
  same_pairs k part ps qs h g p = (λ i. (g p.0 p.1).1 ((h p.0 p.1).0 i), λ i. (h p.0 p.1).1 ((g p.0 p.1).0 i))

  one_classes : (k : ℕ) (part : List ℕ) (cs ds : List (List ℕ)) → AreComponents edges k part cs → AreComponents edges k part ds → cs ≡ ds
  one_classes k part cs ds h g =
      h.statements
      ∙ (ap (statements_of_classes part)
      (order_is_unique h.pairs g.pairs (same_pairs k part h.pairs g.pairs h.paired g.paired) (length part) h.places g.places h.order g.order)
      ∙ sym g.statements)

  one_of : (s r : ℕ) (c : List ℕ) → c ≡ s ∷ [] → IsMember r c → r ≡ s
  one_of s r c e i = to (subst (IsMember r) e i)
    where
      to : (r ≡ s) ⊎ ⊥ → r ≡ s
      to (inl same) = same
      to (inr none) = absurd none

  -- a statement that turns has a loop of the level
  has_loop : (k s r : ℕ) (l : Loop) → 1 ≤ k → r ≡ s → slice_get (loops_at n r) (k - 1) ≡ Some l → k ≤ length (loops_at n s)
  has_loop k s r l some same e =
      let inside : k - 1 < length (loops_at n r) = slice_get_within (loops_at n r) (k - 1) l e in
      subst (λ q. k ≤ length (loops_at n q)) same (omega (arith, some, inside))

  both_ways : (b : Bool) → b ≡ true → b ≡ false → ⊥
  both_ways true t f = cc
  both_ways false t f = cc

  mutual
    alike : (k : ℕ) (c : List ℕ) (p q : Piece) → 1 ≤ k → IsEmittedFor n edges holds k c p → IsEmittedFor n edges holds k c q → IsAlike p q
    alike k c (Kept s) (Kept r) some h g = one_of r s c g.0 (subst (IsMember s) (sym h.0) (inl refl))
    alike k c (Kept s) (Formed r) some h g =
        let same : r ≡ s = one_of s r c h.0 (subst (IsMember r) (sym g.0) (inl refl)) in
        let few : length (loops_at n s) < k = h.1 in
        let most : k ≤ length (loops_at n s) = subst (λ q. k ≤ length (loops_at n q)) same g.1 in absurd (omega (arith, few, most))
    alike k c (Kept s) (Turning m qs) some h g =
        let few : length (loops_at n s) < k = h.1 in
        let most = has_loop k s g.0.statement m some (one_of s g.0.statement c h.0 g.0.among) g.0.loop in absurd (omega (arith, few, most))
    alike k c (Formed s) (Kept r) some h g =
        let same : s ≡ r = one_of r s c g.0 (subst (IsMember s) (sym h.0) (inl refl)) in
        let few : length (loops_at n r) < k = g.1 in
        let most : k ≤ length (loops_at n r) = subst (λ q. k ≤ length (loops_at n q)) same h.1 in absurd (omega (arith, few, most))
    alike k c (Formed s) (Formed r) some h g = one_of r s c g.0 (subst (IsMember s) (sym h.0) (inl refl))
    alike k c (Formed s) (Turning m qs) some h g = absurd (both_ways _ h.2 (g.1 s h.0))
    alike k c (Turning l ps) (Kept r) some h g =
        let few : length (loops_at n r) < k = g.1 in
        let most = has_loop k r h.0.statement l some (one_of r h.0.statement c g.0 h.0.among) h.0.loop in absurd (omega (arith, few, most))
    alike k c (Turning l ps) (Formed r) some h g = absurd (both_ways _ g.2 (h.1 r g.0))
    alike k c (Turning l ps) (Turning m qs) some h g =
        all_alike (suc k) g.2.0 ps qs (omega (arith, some))
        (subst (λ cs. AreEmittedFor n edges holds (suc k) cs ps) (one_classes (suc k) c h.2.0 g.2.0 h.2.1 g.2.1) h.2.2) g.2.2

    all_alike : (k : ℕ) (cs : List (List ℕ)) (ps qs : Pieces) → 1 ≤ k → AreEmittedFor n edges holds k cs ps → AreEmittedFor n edges holds k cs qs
        → AreAlike ps qs
    all_alike k [] no_pieces no_pieces some h g = tt
    all_alike k [] no_pieces (piece q qs) some h g = absurd g
    all_alike k [] (piece p ps) qs some h g = absurd h
    all_alike k (c ∷ cs) no_pieces qs some h g = absurd h
    all_alike k (c ∷ cs) (piece p ps) no_pieces some h g = absurd g
    all_alike k (c ∷ cs) (piece p ps) (piece q qs) some h g = (alike k c p q some h.0 g.0, all_alike k cs ps qs some h.1 g.1)

-- ---- cycles

mutual
  same_in : (s : ℕ) (p q : Piece) → IsAlike p q → stands_in_piece s p ≡ stands_in_piece s q
  same_in s (Kept t) (Kept r) e = ap (λ x. x == s) e
  same_in s (Kept t) (Formed r) e = absurd e
  same_in s (Kept t) (Turning m qs) e = absurd e
  same_in s (Formed t) (Kept r) e = absurd e
  same_in s (Formed t) (Formed r) e = ap (λ x. x == s) e
  same_in s (Formed t) (Turning m qs) e = absurd e
  same_in s (Turning l ps) (Kept r) e = absurd e
  same_in s (Turning l ps) (Formed r) e = absurd e
  same_in s (Turning l ps) (Turning m qs) e = same_among s ps qs e

  same_among : (s : ℕ) (ps qs : Pieces) → AreAlike ps qs → stands_among s ps ≡ stands_among s qs
  same_among s no_pieces no_pieces e = refl
  same_among s no_pieces (piece q qs) e = absurd e
  same_among s (piece p ps) no_pieces e = absurd e
  same_among s (piece p ps) (piece q qs) e = ap₂ (λ b c. b || c) (same_in s p q e.0) (same_among s ps qs e.1)

same_stands : (ps qs : Pieces) → AreAlike ps qs → ◌≡◌ {A = ℕ → Bool} (λ s. stands_among s ps) (λ s. stands_among s qs)
same_stands ps qs e = (λ i s. same_among s ps qs e i)

module _ (edges : List Edge) (count : ℕ) where
  once : (ps : Pieces) → Distinct (statements_among count ps)
  once ps =
      Pairwise-filter (λ s. stands_among s ps) (λ x y. ¬ (x ≡ y)) (range_with_len 0 count)
      (from_distinct (range_with_len 0 count) (range_once 0 count))

  -- the walks of a loop hang on its statements alone
  abbrev AreWalks : ℕ → (ℕ → Bool) → List (List ℕ) → Type 0
  AreWalks k has us = AreCycles (steps_of has edges k) (filter has (range_with_len 0 count)) us

  mutual
    one_in : (k : ℕ) (p q : Piece) (cs ds : List Cycle) → IsAlike p q → AreCyclesIn edges count k p cs → AreCyclesIn edges count k q ds → cs ≡ ds
    one_in k (Kept s) (Kept r) cs ds e h g = h ∙ sym g
    one_in k (Kept s) (Formed r) cs ds e h g = absurd e
    one_in k (Kept s) (Turning m qs) cs ds e h g = absurd e
    one_in k (Formed s) (Kept r) cs ds e h g = absurd e
    one_in k (Formed s) (Formed r) cs ds e h g = h ∙ sym g
    one_in k (Formed s) (Turning m qs) cs ds e h g = absurd e
    one_in k (Turning l ps) (Kept r) cs ds e h g = absurd e
    one_in k (Turning l ps) (Formed r) cs ds e h g = absurd e
    one_in k (Turning l ps) (Turning m qs) cs ds e h g =
        h.2
        ∙ (ap₂ (λ (us : List (List ℕ)) (more : List Cycle). map (cycle_at k) us ++ more)
        (one_walks (steps_of (λ s. stands_among s qs) edges k) (statements_among count qs) h.0 g.0 (once qs)
        (subst (λ has. AreWalks k has h.0) (same_stands ps qs e) h.3) g.3)
        (one_among (suc k) ps qs h.1 g.1 e h.4 g.4)
        ∙ sym g.2)

    one_among : (k : ℕ) (ps qs : Pieces) (cs ds : List Cycle) → AreAlike ps qs → AreCyclesAmong edges count k ps cs → AreCyclesAmong edges count k qs ds
        → cs ≡ ds
    one_among k no_pieces no_pieces cs ds e h g = h ∙ sym g
    one_among k no_pieces (piece q qs) cs ds e h g = absurd e
    one_among k (piece p ps) no_pieces cs ds e h g = absurd e
    one_among k (piece p ps) (piece q qs) cs ds e h g =
        h.2
        ∙ (ap₂ (λ (us vs : List Cycle). us ++ vs) (one_in k p q h.0 g.0 e.0 h.3 g.3) (one_among k ps qs h.1 g.1 e.1 h.4 g.4)
        ∙ sym g.2)

pub cycles_are_unique : CyclesAreUnique
cycles_are_unique n edges holds cs ds h g =
    let all = range_with_len 0 (length (nest_statements n)) in
    let same = one_classes n edges holds 1 all h.emitted.classes g.emitted.classes h.emitted.components g.emitted.components in
    let alike_pieces = all_alike n edges holds 1 g.emitted.classes h.pieces g.pieces (omega arith)
    (subst (λ xs. AreEmittedFor n edges holds 1 xs h.pieces) same h.emitted.emitted) g.emitted.emitted in
    one_among edges (length (nest_statements n)) 1 h.pieces g.pieces cs ds alike_pieces h.cycles g.cycles
