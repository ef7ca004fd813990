-- Why the loops of what is emitted turn, piece by piece.
use Rattle.std.proofs.Common.{◌≡◌, ◌⊎◌, inl, inr, refl, sym, ap, subst, ◌∙◌, ℕ, zero, suc, ◌+◌, ◌<◌, ◌≤◌, Bool, true, false, not, ◌&&◌, Some, List, [], ◌∷◌, ◌++◌, length, map, arith, eq-or-lt_of_le}
use Rattle.std.specs.Prelude.{slice_get}
use Rattle.std.specs.List.{concat, range_with_len}
use Rattle.std.proofs.lemmas.Bool.{both_ways, cases_eq}
use Rattle.std.proofs.lemmas.List.Elements.{All-weaker}
use Rattle.closed_walks.specs.Cycles.{AreCycles, AreLeastWalksOf as AreWalksOf, IsCycle, StandIn}
use Rattle.closed_walks.specs.FlatComponents as flat
use Rattle.closed_walks.specs.Walks.{IsClosedWalk, IsLeastClosedWalk}
use Rattle.components.specs.Lists as lists
use Rattle.components.proofs.ListLaws.{filter-In, In-filter}
use Rattle.dependence_graph.specs.declared.graphs.Cycle.{Cycle}
use Rattle.dependence_graph.specs.declared.graphs.Edge.{Edge}
use Rattle.dependence_graph.specs.declared.graphs.Hold.{Hold}
use Rattle.tree.specs.Plain.{no_statements}
use Rattle.nest.specs.Bodies.{nest_statements}
use Rattle.nest.specs.Plain.{Loop, Nest}
use Rattle.nest_order.specs.orders.Lists.{Distinct, In}
use Rattle.nest_order.proofs.orders.Lists.{In-append, In-left, In-right}
use Rattle.nest_order.proofs.orders.Membership.{In-map, map-In}
use Rattle.emission.specs.emission_causes.Causes.{HasCycle, HaveCauses, IsByItself, IsCycleOf, IsHeldThere, StandsInLoop, steps_at}
use Rattle.emission.specs.emission_causes.Laws.{LoopsHaveCauses}
use Rattle.emission.specs.emission_marks.Components.{IsAloneAt, IsWith}
use Rattle.emission.specs.emission_marks.Laws.{MayBeMarked}
use Rattle.emission.specs.emission_marks.Marks.{Round, turning_of}
use Rattle.emission.specs.emission_pieces.Cycles.{AreCyclesAmong, AreCyclesIn, cycle_at, stands_among, statements_among, steps_of}
use Rattle.emission.specs.emission_pieces.Edges.{IsEdgeOf}
use Rattle.emission.specs.emission_pieces.Emission.{AreEmitted, AreEmittedFor, IsEmittedFor}
use Rattle.emission.specs.emission_pieces.Levels.{is_held, is_recurrent, leads, may_be_formed}
use Rattle.emission.specs.emission_pieces.Nests.{loops_at}
use Rattle.emission.specs.emission_pieces.Pieces.{Piece, Kept, Formed, Turning, Pieces, no_pieces, piece}
use Rattle.emission.proofs.EmissionCauses.Steps.{by_itself, closed_within, in_steps, joined_with, least_free, recurrent_step, with_joined}
use Rattle.emission.proofs.EmissionMarks.Lists.{among, contained, in_range}
use Rattle.emission.proofs.EmissionMarks.Marked.{formed_level, with_within}
use Rattle.emission.proofs.EmissionMarks.Parts.{classes_same, everything, next_loop}
use Rattle.emission.proofs.EmissionMarks.Pieces.{IsOne, IsPartIn, components_in, turned, whole_part}
use Rattle.emission.proofs.EmissionPieces.Emitted.{from_in, to_in}
use Rattle.emission.proofs.nest_emission.CycleLaws.{stand_among, standing_among}

-- ---- lists

member_or_not : (s : ℕ) (xs : List ℕ) → lists.IsMember s xs ⊎ (lists.IsMember s xs → ⊥)
member_or_not s [] = inr (λ i. i)
member_or_not s (x ∷ xs) = by (cases_eq s x) (member_or_not s xs)
  where
    by : (s ≡ x) ⊎ (s ≡ x → ⊥) → lists.IsMember s xs ⊎ (lists.IsMember s xs → ⊥) → ((s ≡ x) ⊎ lists.IsMember s xs) ⊎ ((s ≡ x) ⊎ lists.IsMember s xs → ⊥)
    by (inl e) more = inl (inl e)
    by (inr f) (inl i) = inl (inr i)
    by (inr f) (inr g) = inr (λ h. neither f g h)
      where
        neither : (s ≡ x → ⊥) → (lists.IsMember s xs → ⊥) → (s ≡ x) ⊎ lists.IsMember s xs → ⊥
        neither a b (inl e) = a e
        neither a b (inr i) = b i

pub stand_among_numbers : (xs ys : List ℕ) → StandIn xs ys → (s : ℕ) → lists.IsMember s xs → lists.IsMember s ys
stand_among_numbers xs [] h s i = subst (lists.IsMember s) h i
stand_among_numbers xs (y ∷ ys) (inl h) s i = inr (stand_among_numbers xs ys h s i)
stand_among_numbers xs (y ∷ ys) (inr h) s i = by (subst (lists.IsMember s) h.1 i) (stand_among_numbers h.0 ys h.2 s)
  where
    by : (s ≡ y) ⊎ lists.IsMember s h.0 → (lists.IsMember s h.0 → lists.IsMember s ys) → (s ≡ y) ⊎ lists.IsMember s ys
    by (inl e) more = inl e
    by (inr j) more = inr (more j)

-- a list of one element, which stands there once
one_alone : (s : ℕ) (c : List ℕ) → Distinct c → In s c → ((r : ℕ) → In r c → r ≡ s) → c ≡ s ∷ []
one_alone s [] once i all = absurd i
one_alone s (r ∷ []) once i all = ap (λ q. q ∷ []) (all r (inl refl))
one_alone s (r ∷ q ∷ c) once i all = absurd (once.0.0 (all r (inl refl) ∙ sym (all q (inr (inl refl)))))

pub within_list : {X : Type 0} (xs : List X) (d : ℕ) (x : X) → slice_get xs d ≡ Some x → d < length xs
within_list [] d x e = absurd cc
within_list (y ∷ xs) zero x e = omega arith
within_list (y ∷ xs) (suc d) x e = let h : d < length xs = within_list xs d x e in omega arith

-- ---- walks that are listed

module _ (pairs : List (ℕ × ℕ)) where
  record WalkOf (walks : List (List ℕ)) (s : ℕ) : Type 0 where
    over : List ℕ
    among : In (s ∷ over) walks
    least : IsLeastClosedWalk pairs s over

  walk_of : (starts : List ℕ) (walks : List (List ℕ)) → AreWalksOf pairs starts walks → (s : ℕ) → lists.IsMember s starts → WalkOf walks s
  walk_of [] [] h s i = absurd i
  walk_of [] (w ∷ walks) h s i = absurd h
  walk_of (r ∷ starts) [] h s i = absurd h
  walk_of (r ∷ starts) (w ∷ walks) h s (inl e) = first w h.0
    where
      first : (w : List ℕ) → IsCycle pairs r w → WalkOf (w ∷ walks) s
      first [] g = absurd g
      first (a ∷ over) g = record {
        over = over;
        among = inl (ap (λ z. z ∷ over) (e ∙ sym g.0));
        least = subst (λ z. IsLeastClosedWalk pairs z over) (sym e) g.1;
      }
  walk_of (r ∷ starts) (w ∷ walks) h s (inr i) =
      let m = walk_of starts walks h.1 s i in record { over = m.over; among = inr m.among; least = m.least }

  pub record StartOf (starts : List ℕ) (w : List ℕ) : Type 0 where
    pub start : ℕ
    pub over : List ℕ
    pub among : lists.IsMember start starts
    pub least : IsLeastClosedWalk pairs start over
    pub is : w ≡ start ∷ over

  pub start_of : (starts : List ℕ) (walks : List (List ℕ)) → AreWalksOf pairs starts walks → (w : List ℕ) → In w walks → StartOf starts w
  start_of [] [] h w i = absurd i
  start_of [] (v ∷ walks) h w i = absurd h
  start_of (r ∷ starts) [] h w i = absurd h
  start_of (r ∷ starts) (v ∷ walks) h w (inl e) = first v h.0 e
    where
      first : (v : List ℕ) → IsCycle pairs r v → w ≡ v → StartOf (r ∷ starts) w
      first [] g f = absurd g
      first (a ∷ over) g f = record { start = r; over = over; among = inl refl; least = g.1; is = f ∙ ap (λ z. z ∷ over) g.0 }
  start_of (r ∷ starts) (v ∷ walks) h w (inr i) =
      let m = start_of starts walks h.1 w i in
      record { start = m.start; over = m.over; among = inr m.among; least = m.least; is = m.is }

-- ---- causes of a part

module _ (n : Nest) (edges : List Edge) (holds : List Hold) (may : MayBeMarked n edges) where
  abbrev count : ℕ
  count = length (nest_statements n)

  abbrev Stands : ℕ → ℕ → Type 0
  Stands s k = StandsInLoop n edges holds s k

  -- from the level behind the first d loops on
  record PartHasCauses (d : ℕ) (part : List ℕ) (cs : List Cycle) : Type 0 where
    each : (s k : ℕ) → In s part → suc d ≤ k → Stands s k → HasCycle edges cs s k ⊎ IsHeldThere edges holds s k
    cyclic : (s k : ℕ) (over : List ℕ) → In s part → suc d ≤ k → Stands s k → IsClosedWalk (steps_at edges k) s over → HasCycle edges cs s k
    only : (c : Cycle) → In c cs → IsCycleOf n edges holds c

  in_front : (xs ys : List Cycle) (s k : ℕ) → HasCycle edges xs s k → HasCycle edges (xs ++ ys) s k
  in_front xs ys s k h = record {
    over = h.over;
    least = h.least;
    among = contained (xs ++ ys) (cycle_at k (s ∷ h.over)) (In-left (cycle_at k (s ∷ h.over)) xs ys (among xs (cycle_at k (s ∷ h.over)) h.among));
  }

  in_back : (xs ys : List Cycle) (s k : ℕ) → HasCycle edges ys s k → HasCycle edges (xs ++ ys) s k
  in_back xs ys s k h = record {
    over = h.over;
    least = h.least;
    among = contained (xs ++ ys) (cycle_at k (s ∷ h.over)) (In-right (cycle_at k (s ∷ h.over)) xs ys (among ys (cycle_at k (s ∷ h.over)) h.among));
  }

  either_of : (xs ys : List Cycle) (s k : ℕ) → (HasCycle edges xs s k → HasCycle edges ys s k) → HasCycle edges xs s k ⊎ IsHeldThere edges holds s k
      → HasCycle edges ys s k ⊎ IsHeldThere edges holds s k
  either_of xs ys s k f (inl h) = inl (f h)
  either_of xs ys s k f (inr h) = inr h

  no_causes : (d : ℕ) → PartHasCauses d [] []
  no_causes d = record { each = λ s k i. absurd i; cyclic = λ s k over i. absurd i; only = λ c i. absurd i }

  more_causes : (d : ℕ) (a b : List ℕ) (xs ys : List Cycle) → PartHasCauses d a xs → PartHasCauses d b ys → PartHasCauses d (a ++ b) (xs ++ ys)
  more_causes d a b xs ys g h = record { each = each; cyclic = cyclic; only = only }
    where
      each : (s k : ℕ) → In s (a ++ b) → suc d ≤ k → Stands s k → HasCycle edges (xs ++ ys) s k ⊎ IsHeldThere edges holds s k
      each s k i deep st = by (In-append s a b i)
        where
          by : In s a ⊎ In s b → HasCycle edges (xs ++ ys) s k ⊎ IsHeldThere edges holds s k
          by (inl j) = either_of xs (xs ++ ys) s k (in_front xs ys s k) (g.each s k j deep st)
          by (inr j) = either_of ys (xs ++ ys) s k (in_back xs ys s k) (h.each s k j deep st)

      cyclic : (s k : ℕ) (over : List ℕ) → In s (a ++ b) → suc d ≤ k → Stands s k → IsClosedWalk (steps_at edges k) s over → HasCycle edges (xs ++ ys) s k
      cyclic s k over i deep st closed = by (In-append s a b i)
        where
          by : In s a ⊎ In s b → HasCycle edges (xs ++ ys) s k
          by (inl j) = in_front xs ys s k (g.cyclic s k over j deep st closed)
          by (inr j) = in_back xs ys s k (h.cyclic s k over j deep st closed)

      only : (c : Cycle) → In c (xs ++ ys) → IsCycleOf n edges holds c
      only c i = by (In-append c xs ys i)
        where
          by : In c xs ⊎ In c ys → IsCycleOf n edges holds c
          by (inl j) = g.only c j
          by (inr j) = h.only c j

  same_causes : (d : ℕ) (part other : List ℕ) (cs : List Cycle) → ((s : ℕ) → In s part → In s other) → PartHasCauses d other cs → PartHasCauses d part cs
  same_causes d part other cs within h = record {
    each = λ s k i. h.each s k (within s i);
    cyclic = λ s k over i. h.cyclic s k over (within s i);
    only = h.only;
  }

  -- ---- single statements, of which none stands in a further loop

  none_deeper : (d s : ℕ) → ((k : ℕ) → suc d ≤ k → Stands s k → ⊥) → PartHasCauses d (s ∷ []) []
  none_deeper d s none = record { each = each; cyclic = cyclic; only = λ c i. absurd i }
    where
      each : (r k : ℕ) → In r (s ∷ []) → suc d ≤ k → Stands r k → HasCycle edges [] r k ⊎ IsHeldThere edges holds r k
      each r k (inl e) deep st = absurd (none k deep (subst (λ z. Stands z k) e st))
      each r k (inr i) deep st = absurd i

      cyclic : (r k : ℕ) (over : List ℕ) → In r (s ∷ []) → suc d ≤ k → Stands r k → IsClosedWalk (steps_at edges k) r over → HasCycle edges [] r k
      cyclic r k over (inl e) deep st closed = absurd (none k deep (subst (λ z. Stands z k) e st))
      cyclic r k over (inr i) deep st closed = absurd i

  kept_none : (d s : ℕ) → length (loops_at n s) < suc d → (k : ℕ) → suc d ≤ k → Stands s k → ⊥
  kept_none d s few k deep st = let last : k ≤ length (loops_at n s) = st.last in omega arith

  formed_none : (d s : ℕ) (round : List Round) → IsOne n edges holds may d round (s ∷ []) → suc d ≤ length (loops_at n s) → may_be_formed edges holds (suc d) s ≡ true
      → (k : ℕ) → suc d ≤ k → Stands s k → ⊥
  formed_none d s round is last formed k deep st = by (formed_level n edges holds may d s round is last formed)
    where
      by : Rattle.emission.specs.emission_marks.Components.IsLevel n edges holds s (suc d) → ⊥
      by (inl h) = st.never (suc d) deep h.alone
      by (inr h) = let behind : suc d ≡ length (loops_at n s) + 1 = h.behind in omega arith

  -- ---- a component in its loop

  module _ (d : ℕ) (round : List Round) (c : List ℕ) (l : Loop) (ps : Pieces) (is : IsOne n edges holds may d round c)
      (h : IsEmittedFor n edges holds (suc d) c (Turning l ps)) where
    abbrev k : ℕ
    k = suc d

    abbrev has : ℕ → Bool
    has s = stands_among s ps

    inner : IsPartIn n edges holds may k (round ++ turning_of l ∷ []) c
    inner = turned n edges holds may d round c l ps is h

    has_of : (s : ℕ) → In s c → has s ≡ true
    has_of s i =
        standing_among n edges holds (suc k) h.2.0 ps h.2.2 s
        (from_in s (concat h.2.0) ((classes_same n edges may k c h.2.0 inner.is_part h.2.1 s).0 i))

    of_has : (s : ℕ) → has s ≡ true → In s c
    of_has s e =
        (classes_same n edges may k c h.2.0 inner.is_part h.2.1 s).1
        (to_in s (concat h.2.0) (stand_among n edges holds (suc k) h.2.0 ps h.2.2 s e))

    stands : (s : ℕ) → In s c → Stands s k
    stands s i = record {
      inside = is.is_part.inside s i;
      first = omega arith;
      last = (let deep = within_list (loops_at n s) d l (next_loop n edges may holds d c l is.is_part h.0 s i) in omega arith);
      never = λ j le a. (let late : k < j = inner.late s j i a in absurd (omega arith));
    }

    -- what closed walks join to a statement of the component is in it
    joined_has : (s : ℕ) → In s c → (q : ℕ) → flat.IsJoined (leads edges) k s q → has q ≡ true
    joined_has s i q j =
        let w = joined_with edges d s q j in
        has_of q (is.is_part.whole s q i (with_within n edges holds may d s q (is.is_part.inside s i) w) w)

    member : (s : ℕ) → In s c → lists.IsMember s (statements_among count ps)
    member s i =
        In-filter (λ s. stands_among s ps) (range_with_len 0 count) s
        (from_in s (range_with_len 0 count) (in_range 0 count s (omega arith) (let b = is.is_part.inside s i in omega arith))) (has_of s i)

    of_member : (s : ℕ) → lists.IsMember s (statements_among count ps) → In s c
    of_member s i = of_has s (filter-In (λ s. stands_among s ps) (range_with_len 0 count) s i).1

    module _ (walks : List (List ℕ)) (w : AreCycles (steps_of (λ s. stands_among s ps) edges k) (statements_among count ps) walks) where
      cycle_of : (s : ℕ) → lists.IsMember s w.starts → HasCycle edges (map (cycle_at k) walks) s k
      cycle_of s i =
          let m = walk_of (steps_of (λ s. stands_among s ps) edges k) w.starts walks w.each s i in
          let inside = of_member s (stand_among_numbers w.starts (statements_among count ps) w.among s i) in
          record {
            over = m.over;
            least = least_free edges k has s (joined_has s inside) m.over m.least;
            among = contained (map (cycle_at k) walks) (cycle_at k (s ∷ m.over)) (map-In (cycle_at k) (s ∷ m.over) walks m.among);
          }

      starts : (s : ℕ) (over : List ℕ) → In s c → IsClosedWalk (steps_at edges k) s over → lists.IsMember s w.starts
      starts s over i closed = w.all s over (member s i) (closed_within edges k has s (joined_has s i) over closed)

      here : (s : ℕ) → In s c → HasCycle edges (map (cycle_at k) walks) s k ⊎ IsHeldThere edges holds s k
      here s i = by (member_or_not s w.starts)
        where
          by : lists.IsMember s w.starts ⊎ (lists.IsMember s w.starts → ⊥) → HasCycle edges (map (cycle_at k) walks) s k ⊎ IsHeldThere edges holds s k
          by (inl j) = inl (cycle_of s j)
          by (inr f) = inr (record { by_itself = alone; held = held (is_recurrent edges k s) (is_held holds k s) refl refl turns })
            where
              none : (over : List ℕ) → IsClosedWalk (steps_at edges k) s over → ⊥
              none over closed = f (starts s over i closed)

              alone : IsByItself edges k s
              alone = by_itself edges k s none

              itself : c ≡ s ∷ []
              itself = one_alone s c is.is_part.once i (λ r j. together r j)
                where
                  together : (r : ℕ) → In r c → r ≡ s
                  together r j = alone r (with_joined edges d s r (is.is_part.joined s r i j))

              turns : may_be_formed edges holds k s ≡ false
              turns = h.1 s itself

              held : (a b : Bool) → is_recurrent edges k s ≡ a → is_held holds k s ≡ b → (not (is_recurrent edges k s) && not (is_held holds k s)) ≡ false → is_held holds k s ≡ true
              held a true e g t = g
              held true false e g t = absurd (none (s ∷ []) (record { some = omega arith; walk = (in_steps edges k (λ s. true) s s (recurrent_step edges k s e), refl) }))
              held false false e g t =
                  absurd (both_ways (not false && not false) (sym (ap (λ x. not x && not (is_held holds k s)) e ∙ ap (λ y. not false && not y) g) ∙ t) refl)

      listed : (x : Cycle) → In x (map (cycle_at k) walks) → IsCycleOf n edges holds x
      listed x i =
          let m = In-map (cycle_at k) x walks i in
          let p = start_of (steps_of (λ s. stands_among s ps) edges k) w.starts walks w.each m.it m.inside in
          let inside = of_member p.start (stand_among_numbers w.starts (statements_among count ps) w.among p.start p.among) in
          record {
            statement = p.start;
            level = k;
            over = p.over;
            stands = stands p.start inside;
            least = least_free edges k has p.start (joined_has p.start inside) p.over p.least;
            is = m.is ∙ ap (cycle_at k) p.is;
          }

      with_inner : (rest : List Cycle) → PartHasCauses k c rest → PartHasCauses d c (map (cycle_at k) walks ++ rest)
      with_inner rest deeper = record { each = each; cyclic = cyclic; only = only }
        where
          own : List Cycle
          own = map (cycle_at k) walks

          each : (s j : ℕ) → In s c → k ≤ j → Stands s j → HasCycle edges (own ++ rest) s j ⊎ IsHeldThere edges holds s j
          each s j i deep st = by (eq-or-lt_of_le deep)
            where
              by : (k ≡ j) ⊎ (suc k ≤ j) → HasCycle edges (own ++ rest) s j ⊎ IsHeldThere edges holds s j
              by (inl e) = subst (λ z. HasCycle edges (own ++ rest) s z ⊎ IsHeldThere edges holds s z) e (either_of own (own ++ rest) s k (in_front own rest s k) (here s i))
              by (inr g) = either_of rest (own ++ rest) s j (in_back own rest s j) (deeper.each s j i g st)

          cyclic : (s j : ℕ) (over : List ℕ) → In s c → k ≤ j → Stands s j → IsClosedWalk (steps_at edges j) s over → HasCycle edges (own ++ rest) s j
          cyclic s j over i deep st closed = by (eq-or-lt_of_le deep)
            where
              by : (k ≡ j) ⊎ (suc k ≤ j) → HasCycle edges (own ++ rest) s j
              by (inl e) =
                  subst (λ z. HasCycle edges (own ++ rest) s z) e
                  (in_front own rest s k (cycle_of s (starts s over i (subst (λ z. IsClosedWalk (steps_at edges z) s over) (sym e) closed))))
              by (inr g) = in_back own rest s j (deeper.cyclic s j over i g st closed)

          only : (x : Cycle) → In x (own ++ rest) → IsCycleOf n edges holds x
          only x i = by (In-append x own rest i)
            where
              by : In x own ⊎ In x rest → IsCycleOf n edges holds x
              by (inl j) = listed x j
              by (inr j) = deeper.only x j

  -- ---- all pieces

  mutual
    one_has : (p : Piece) (d : ℕ) (round : List Round) (c : List ℕ) (cs : List Cycle) → IsOne n edges holds may d round c → IsEmittedFor n edges holds (suc d) c p
        → AreCyclesIn edges count (suc d) p cs → PartHasCauses d c cs
    one_has (Kept s) d round c cs is h are =
        subst (λ part. PartHasCauses d part cs) (sym h.0) (subst (PartHasCauses d (s ∷ [])) (sym are) (none_deeper d s (kept_none d s h.1)))
    one_has (Formed s) d round c cs is h are =
        let one = subst (IsOne n edges holds may d round) h.0 is in
        subst (λ part. PartHasCauses d part cs) (sym h.0) (subst (PartHasCauses d (s ∷ [])) (sym are) (none_deeper d s (formed_none d s round one h.1 h.2)))
    one_has (Turning l ps) d round c cs is h are =
        let inside = turned n edges holds may d round c l ps is h in
        let around = round ++ turning_of l ∷ [] in
        subst (PartHasCauses d c) (sym are.2)
        (with_inner d round c l ps is h are.0 are.3 are.1
        (same_causes (suc d) c (concat h.2.0) are.1 (λ s i. (classes_same n edges may (suc d) c h.2.0 inside.is_part h.2.1 s).0 i)
        (all_have ps (suc d) around h.2.0 are.1 (components_in n edges holds may (suc d) around c h.2.0 inside h.2.1) h.2.2 are.4)))

    all_have : (ps : Pieces) (d : ℕ) (round : List Round) (classes : List (List ℕ)) (cs : List Cycle) → ((c : List ℕ) → In c classes → IsOne n edges holds may d round c)
        → AreEmittedFor n edges holds (suc d) classes ps → AreCyclesAmong edges count (suc d) ps cs → PartHasCauses d (concat classes) cs
    all_have no_pieces d round [] cs one h are = subst (PartHasCauses d []) (sym are) (no_causes d)
    all_have no_pieces d round (c ∷ classes) cs one h are = absurd h
    all_have (piece p ps) d round [] cs one h are = absurd h
    all_have (piece p ps) d round (c ∷ classes) cs one h are =
        subst (PartHasCauses d (c ++ concat classes)) (sym are.2)
        (more_causes d c (concat classes) are.0 are.1 (one_has p d round c are.0 (one c (inl refl)) h.0 are.3)
        (all_have ps d round classes are.1 (λ b i. one b (inr i)) h.1 are.4))

  whole_has : (ps : Pieces) (cs : List Cycle) → AreEmitted n edges holds 1 (everything n edges may) ps → AreCyclesAmong edges count 1 ps cs → PartHasCauses 0 (everything n edges may) cs
  whole_has ps cs h are =
      same_causes 0 (everything n edges may) (concat h.classes) cs
      (λ s i. (classes_same n edges may 0 (everything n edges may) h.classes (whole_part n edges holds may).is_part h.components s).0 i)
      (all_have ps 0 [] h.classes cs (components_in n edges holds may 0 [] (everything n edges may) h.classes (whole_part n edges holds may) h.components) h.emitted are)

  have_causes : (ps : Pieces) (cs : List Cycle) → AreEmitted n edges holds 1 (everything n edges may) ps → AreCyclesAmong edges count 1 ps cs → HaveCauses n edges holds cs
  have_causes ps cs h are =
      let whole = whole_has ps cs h are in
      let inside : (s k : ℕ) → Stands s k → In s (everything n edges may) = λ s k st. (let b = st.inside in in_range 0 count s (omega arith) (omega arith)) in
      record {
        each = λ s k st. whole.each s k (inside s k st) (let f = st.first in omega arith) st;
        cyclic = λ s k over st. whole.cyclic s k over (inside s k st) (let f = st.first in omega arith) st;
        only = λ c i. whole.only c (among cs c i);
      }

-- ---- whatever stands behind the nest

abbrev bare : Nest → Nest
bare n = record n { after = no_statements }

module _ (n : Nest) (edges : List Edge) (holds : List Hold) where
  mutual
    emitted_bare : (k : ℕ) (c : List ℕ) (p : Piece) → IsEmittedFor n edges holds k c p → IsEmittedFor (bare n) edges holds k c p
    emitted_bare k c (Kept s) h = h
    emitted_bare k c (Formed s) h = h
    emitted_bare k c (Turning l ps) h =
        (record { statement = h.0.statement; among = h.0.among; loop = h.0.loop }, h.1, (h.2.0, h.2.1, all_bare (suc k) h.2.0 ps h.2.2))

    all_bare : (k : ℕ) (cs : List (List ℕ)) (ps : Pieces) → AreEmittedFor n edges holds k cs ps → AreEmittedFor (bare n) edges holds k cs ps
    all_bare k [] no_pieces h = h
    all_bare k [] (piece p ps) h = absurd h
    all_bare k (c ∷ cs) no_pieces h = absurd h
    all_bare k (c ∷ cs) (piece p ps) h = (emitted_bare k c p h.0, all_bare k cs ps h.1)

  edge_bare : (e : Edge) → IsEdgeOf n e → IsEdgeOf (bare n) e
  edge_bare e h = record { from = h.from; to = h.to; carried = h.carried; forward = h.forward }

  alone_bare : (s k : ℕ) → IsAloneAt (bare n) edges holds s k → IsAloneAt n edges holds s k
  alone_bare s k h = record { first = h.first; last = h.last; alone = h.alone; free = h.free; held = h.held }

  bare_alone : (s k : ℕ) → IsAloneAt n edges holds s k → IsAloneAt (bare n) edges holds s k
  bare_alone s k h = record { first = h.first; last = h.last; alone = h.alone; free = h.free; held = h.held }

  bare_stands : (s k : ℕ) → StandsInLoop n edges holds s k → StandsInLoop (bare n) edges holds s k
  bare_stands s k h = record { inside = h.inside; first = h.first; last = h.last; never = λ j le a. h.never j le (alone_bare s j a) }

  stands_bare : (s k : ℕ) → StandsInLoop (bare n) edges holds s k → StandsInLoop n edges holds s k
  stands_bare s k h = record { inside = h.inside; first = h.first; last = h.last; never = λ j le a. h.never j le (bare_alone s j a) }

pub loops_have_causes : LoopsHaveCauses
loops_have_causes n edges holds cs plain numbers legal h =
    let may : MayBeMarked (bare n) edges = record {
      plain = plain;
      numbers = numbers;
      edges_are = All-weaker (IsEdgeOf n) (IsEdgeOf (bare n)) (edge_bare n edges holds) edges legal;
      after = refl;
    } in
    let emitted = h.emitted in
    let all = have_causes (bare n) edges holds may h.pieces cs
    (record { classes = emitted.classes; components = emitted.components; emitted = all_bare n edges holds 1 emitted.classes h.pieces emitted.emitted }) h.cycles in
    record {
      each = λ s k st. all.each s k (bare_stands n edges holds s k st);
      cyclic = λ s k over st. all.cyclic s k over (bare_stands n edges holds s k st);
      only = λ c i. (let o = all.only c i in record {
        statement = o.statement;
        level = o.level;
        over = o.over;
        stands = stands_bare n edges holds o.statement o.level o.stands;
        least = o.least;
        is = o.is;
      });
    }
