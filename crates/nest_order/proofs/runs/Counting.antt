-- A sequential run that goes on has counted the trips of all loops that it came to, and these are the loops of what is
-- emitted.
use Rattle.std.proofs.Common.{◌≡◌, sym, ap, ◌∙◌, subst, ◌⊎◌, inl, inr, ℕ, zero, suc, ◌+◌, ◌≤◌, ◌<◌, ℤ, pos, List, [], ◌∷◌, ◌++◌, map, Ok, None, append_assoc, append-nil, arith, eq-or-lt_of_le}
use Rattle.tree.specs.declared.ops.Value.TheVariants.{Int}
use Rattle.meaning.specs.Reads.{names_in}
use Rattle.meaning.specs.Run.{State, Going, Act, does, does_all, repeated, turn}
use Rattle.meaning.specs.Store.{Store, Cell, cell_at}
use Rattle.meaning.specs.Value.{number_of}
use Rattle.nest_order.specs.orders.Emission.{IsArranged, HasStatements, HaveStatements}
use Rattle.nest_order.specs.orders.Lists.{In}
use Rattle.nest_order.specs.orders.Shapes.{Shape, Single, Loop, Shapes, no_shapes, shape, statements, Stands, StandsIn, Instance, instances_in, Within}
use Rattle.nest_order.proofs.orders.Common.{statement_stands}
use Rattle.nest_order.proofs.orders.Membership.{In-map}
use Rattle.nest_order.specs.runs.Alone.{inside}
use Rattle.nest_order.specs.runs.Blocks.{Layout, nest_block, nest_statement}
use Rattle.nest_order.specs.runs.Forms.{AreCounted, AreCountedIn, IsCounted}
use Rattle.nest_order.specs.runs.Guarded.{sequential, variable_cell}
use Rattle.nest_order.specs.runs.Nests.{AreAt, LoopStands, LoopStandsIn, Near, RunNest}
use Rattle.nest_order.specs.runs.Stores.{IsNestIn, Setting}
use Rattle.nest_order.proofs.runs.Results.{each_of}
use Rattle.nest_order.proofs.runs.Variables.{var, variable_is, AreAt-put, Near-variable, Within-more, AreAt-more, put_there, scalar_place}
use Rattle.nest_order.proofs.runs.Alike.{Alike, number_alike}
use Rattle.nest_order.proofs.runs.Holding.{variable_inside}
use Rattle.nest_order.proofs.runs.Touching.{number_in}
use Rattle.nest_order.proofs.runs.Runs.{trip, Inside, Bridged, Lies, LieIn, lies_body, lies_first, lies_rest, loop_of_lying, there, rounds, fresh, Placed, placed_more, entered, one_turn, turns_from, statement_run, block_run, block_from}

-- ---- loops and the statements in them

mutual
  loop_of_statement : (t : Shape) (s : ℕ) (ls : List ℕ) (l : ℕ) (rest : List ℕ) → Stands t s (ls ++ l ∷ rest) → LoopStands t ls l
  loop_of_statement (Single r) s [] l rest h = absurd h
  loop_of_statement (Single r) s (k ∷ ls) l rest h = absurd h
  loop_of_statement (Loop m ts) s [] l rest h = h.0
  loop_of_statement (Loop m ts) s (k ∷ ls) l rest h = (h.0, loop_of_statement_in ts s ls l rest h.1)

  loop_of_statement_in : (ts : Shapes) (s : ℕ) (ls : List ℕ) (l : ℕ) (rest : List ℕ) → StandsIn ts s (ls ++ l ∷ rest) → LoopStandsIn ts ls l
  loop_of_statement_in no_shapes s ls l rest h = absurd h
  loop_of_statement_in (shape t ts) s ls l rest (inl h) = inl (loop_of_statement t s ls l rest h)
  loop_of_statement_in (shape t ts) s ls l rest (inr h) = inr (loop_of_statement_in ts s ls l rest h)

mutual
  statement_of_loop : (t : Shape) → HasStatements t → (ls : List ℕ) (l : ℕ) → LoopStands t ls l → (s : ℕ) × (rest : List ℕ) × Stands t s (ls ++ l ∷ rest)
  statement_of_loop (Single r) filled ls l h = absurd h
  statement_of_loop (Loop m ts) filled [] l h = (filled.0.0, filled.0.1, (h, filled.0.2))
  statement_of_loop (Loop m ts) filled (k ∷ ls) l h = let a = statement_of_loop_in ts filled.1 ls l h.1 in (a.0, a.1, (h.0, a.2))

  statement_of_loop_in : (ts : Shapes) → HaveStatements ts → (ls : List ℕ) (l : ℕ) → LoopStandsIn ts ls l → (s : ℕ) × (rest : List ℕ) × StandsIn ts s (ls ++ l ∷ rest)
  statement_of_loop_in no_shapes filled ls l h = absurd h
  statement_of_loop_in (shape t ts) filled ls l (inl h) = let a = statement_of_loop t filled.0 ls l h in (a.0, a.1, inl a.2)
  statement_of_loop_in (shape t ts) filled ls l (inr h) = let a = statement_of_loop_in ts filled.1 ls l h in (a.0, a.1, inr a.2)

module _ (bits : ℕ) (n : RunNest) (w : Setting) (ok : IsNestIn bits n w) where
  abbrev turns : ℕ → List ℕ → ℕ
  turns = trip bits n w ok

  abbrev InsideHere : Store → Type 0
  InsideHere = Inside bits n w ok

  -- what is emitted has the nest's statements and loops
  pub emission_lies : (ts : Shapes) → IsArranged n.loops_of [] (statements n.shape) ts → LieIn bits n w ok [] ts
  emission_lies ts a = record {
    statements_there = a.only;
    loops_there = λ ls l h. (
        let s = statement_of_loop_in ts a.filled ls l h in
        let o = a.only s.0 (ls ++ l ∷ s.1) s.2 in
        let k = statement_stands n.shape s.0 o.0 in
        let path : k.0 ≡ ls ++ l ∷ s.1 = sym (ok.text.nest.fits s.0 k.0 k.1) ∙ o.1 in
        loop_of_statement n.shape s.0 ls l s.1 (subst (Stands n.shape s.0) path k.1));
  }

  -- ---- a trip has one value while the symbols and the loops round it keep theirs

  at_same : (ls is : List ℕ) (u s : Store) (m : ℕ) → AreAt n ls is u → AreAt n ls is s → In m ls → u.held (var n m) ≡ s.held (var n m)
  at_same [] is u s m h g i = absurd i
  at_same (l ∷ ls) [] u s m h g i = absurd h
  at_same (l ∷ ls) (k ∷ is) u s m h g (inl e) = subst (λ j. u.held (var n j) ≡ s.held (var n j)) (sym e) (h.0 ∙ sym g.0)
  at_same (l ∷ ls) (k ∷ is) u s m h g (inr i) = at_same ls is u s m h.1 g.1 i

  one_trip : (round : List ℕ) (l : ℕ) (before : List ℕ) (u s : Store) → LoopStands n.shape round l → InsideHere u → InsideHere s → AreAt n round before u → AreAt n round before s
      → number_of (sequential bits) (n.trip_at l) u ≡ number_of (sequential bits) (n.trip_at l) s
  one_trip round l before u s lies iu is hu hs = number_alike bits u s (n.trip_at l) (each_of (Alike bits u s) (names_in (n.trip_at l)) (λ x i. (iu.bounds x ∙ sym (is.bounds x), by x (ok.text.trips round l x lies i))))
    where
      by : (x : List ℕ) → In x n.symbols ⊎ In x (map n.variable_at round) → (zs : List ℤ) (c : Cell) → cell_at x zs u ≡ Ok c → u.held c ≡ s.held c
      by x (inl i) zs c e =
          let f : c ≡ variable_cell x = scalar_place (u.bounds x) x zs c (iu.bounds x ∙ ok.symbols x i) e in
          let k = number_in n.symbols x i in
          ap u.held f ∙ (iu.symbols k.0 x k.2 ∙ (sym (is.symbols k.0 x k.2) ∙ sym (ap s.held f)))
      by x (inr i) zs c e =
          let o = In-map n.variable_at x round i in
          let bare = ok.variables o.it (rounds bits n w ok round l lies o.it o.inside) in
          let f : c ≡ variable_cell x = scalar_place (u.bounds x) x zs c (iu.bounds x ∙ (ap w.bounds o.is ∙ bare)) e in
          let g : c ≡ var n o.it = f ∙ ap variable_cell o.is in
          ap u.held g ∙ (at_same round before u s o.it hu hs o.inside ∙ sym (ap s.held g))

  -- ---- counted trips

  abbrev Counts : List ℕ → List ℕ → Act → Type 0 → Type 0
  Counts round before act C = (t : Store) (s : State) → Near n t s.store → AreAt n round before s.store → InsideHere s.store → (act s).way ≡ Going → C

  module _ (line l : ℕ) (round before : List ℕ) (lies : LoopStands n.shape round l) (body : Act) (f : ℕ → List Instance) (C : ℕ → Type 0) where
    all_counted : (k i : ℕ) → ((j : ℕ) → i ≤ j → j < i + k → Bridged bits n w ok (round ++ l ∷ []) (before ++ j ∷ []) (f j) body) → ((j : ℕ) → i ≤ j → j < i + k → Counts (round ++ l ∷ []) (before ++ j ∷ []) body (C j))
        → (t : Store) (s : State) → Near n t s.store → AreAt n round before s.store → s.store.held (var n l) ≡ Int (pos i) → InsideHere s.store
        → (repeated k (turn (sequential bits) None line (n.variable_at l) (pos 1) body) s).way ≡ Going → (j : ℕ) → i ≤ j → j < i + k → C j
    all_counted zero i each count t s near holds at inside go j le less = absurd (omega arith)
    all_counted (suc k) i each count t s near holds at inside go j le less =
        let one : Act = turn (sequential bits) None line (n.variable_at l) (pos 1) body in
        let a = one_turn bits n w ok line l round before lies body f i (each i (omega arith) (omega arith)) t s near holds at inside (turns_from bits n w ok line k (n.variable_at l) body (one s) go) in
        which (eq-or-lt_of_le le) (count i (omega arith) (omega arith) t (record s { steps = s.steps + 1 }) near (AreAt-more n round before l i s.store holds at) inside a.within)
        (λ more. all_counted k (suc i) (λ j p q. each j (omega arith) (omega arith)) (λ j p q. count j (omega arith) (omega arith)) a.done.store (one s) a.near a.holds a.variable a.inside go j more (omega arith))
      where
        which : (i ≡ j) ⊎ (i < j) → C i → (suc i ≤ j → C j) → C j
        which (inl e) c more = subst C e c
        which (inr h) c more = more (omega arith)

  mutual
    pub statement_counted : (y : Layout) (t : Shape) (round before : List ℕ) → Lies bits n w ok round t → Placed bits n w ok round before → Counts round before (does (sequential bits) None (nest_statement n y round t)) (AreCounted bits n w round before t)
    statement_counted y (Single r) round before lies placed t s near holds inside go = tt
    statement_counted y (Loop l ts) round before lies placed t s near holds inside go =
        let stands = loop_of_lying bits n w ok l ts round lies in
        let a = entered bits n w ok y l ts round before s stands placed.within holds inside go in
        let body : Act = does_all (sequential bits) None (nest_block n y (round ++ l ∷ []) ts) in (
          record { top = a.top; counts = a.counts; gives = λ u i h. one_trip round l before u s.store stands i inside h holds ∙ a.gives },
          λ k p q. all_counted (y.loop_line l) l round before stands body (λ i. instances_in turns ts (before ++ i ∷ [])) (λ i. AreCountedIn bits n w (round ++ l ∷ []) (before ++ i ∷ []) ts) (turns l before) 1
              (λ i p q. block_run bits n w ok y ts (round ++ l ∷ []) (before ++ i ∷ []) (lies_body bits n w ok l ts round lies) (placed_more bits n w ok round before l i stands placed p (omega arith)))
              (λ i p q. block_counted y ts (round ++ l ∷ []) (before ++ i ∷ []) (lies_body bits n w ok l ts round lies) (placed_more bits n w ok round before l i stands placed p (omega arith)))
              t a.start
              (subst (Near n t) (sym a.store) (Near-variable n (var n l) (Int (pos 1)) t s.store (variable_is n l (there bits n w ok round l stands)) near))
              (subst (AreAt n round before) (sym a.store) (AreAt-put n round before (var n l) (Int (pos 1)) s.store (fresh bits n w ok round l stands) holds))
              (ap (λ (z : Store). z.held (var n l)) a.store ∙ put_there (var n l) (Int (pos 1)) s.store)
              (subst InsideHere (sym a.store) (variable_inside bits n w ok l (there bits n w ok round l stands) (pos 1) s.store a.range inside))
              (subst (λ (z : State). z.way ≡ Going) a.is go) k p (omega arith),
        )

    block_counted : (y : Layout) (ts : Shapes) (round before : List ℕ) → LieIn bits n w ok round ts → Placed bits n w ok round before → Counts round before (does_all (sequential bits) None (nest_block n y round ts)) (AreCountedIn bits n w round before ts)
    block_counted y no_shapes round before lies placed t s near holds inside go = tt
    block_counted y (shape k ts) round before lies placed t s near holds inside go =
        let first : Act = does (sequential bits) None (nest_statement n y round k) in
        let from = block_from bits n w ok y ts round (first s) go in
        let a = statement_run bits n w ok y k round before (lies_first bits n w ok k ts round lies) placed t s near holds inside from in (
          statement_counted y k round before (lies_first bits n w ok k ts round lies) placed t s near holds inside from,
          block_counted y ts round before (lies_rest bits n w ok k ts round lies) placed a.store (first s) a.near a.holds a.inside go,
        )

  -- ---- another shape with the same loops

  mutual
    loop_counted : (t : Shape) (round before : List ℕ) → AreCounted bits n w round before t → (ms : List ℕ) (l : ℕ) (is : List ℕ) → LoopStands t ms l → Within turns before ms is → IsCounted bits n w l (round ++ ms) (before ++ is)
    loop_counted (Single r) round before c ms l is h v = absurd h
    loop_counted (Loop k ts) round before c [] l [] h v = subst (λ j. IsCounted bits n w j (round ++ []) (before ++ [])) h (subst (λ ls. IsCounted bits n w k ls (before ++ [])) (sym (append-nil round)) (subst (IsCounted bits n w k round) (sym (append-nil before)) c.0))
    loop_counted (Loop k ts) round before c [] l (i ∷ is) h v = absurd v
    loop_counted (Loop k ts) round before c (m ∷ ms) l [] h v = absurd v
    loop_counted (Loop k ts) round before c (m ∷ ms) l (i ∷ is) h v =
        let inner = c.1 i v.0 (subst (λ j. i ≤ turns j before) (sym h.0) v.1) in
        let r = loop_counted_in ts (round ++ k ∷ []) (before ++ i ∷ []) inner ms l is h.1 v.2 in
        let e : (round ++ k ∷ []) ++ ms ≡ round ++ m ∷ ms = append_assoc round (k ∷ []) ms ∙ ap (λ j. round ++ j ∷ ms) h.0 in
        let f : (before ++ i ∷ []) ++ is ≡ before ++ i ∷ is = append_assoc before (i ∷ []) is in
        subst (λ ls. IsCounted bits n w l ls (before ++ i ∷ is)) e (subst (IsCounted bits n w l ((round ++ k ∷ []) ++ ms)) f r)

    loop_counted_in : (ts : Shapes) (round before : List ℕ) → AreCountedIn bits n w round before ts → (ms : List ℕ) (l : ℕ) (is : List ℕ) → LoopStandsIn ts ms l → Within turns before ms is → IsCounted bits n w l (round ++ ms) (before ++ is)
    loop_counted_in no_shapes round before c ms l is h v = absurd h
    loop_counted_in (shape t ts) round before c ms l is (inl h) v = loop_counted t round before c.0 ms l is h v
    loop_counted_in (shape t ts) round before c ms l is (inr h) v = loop_counted_in ts round before c.1 ms l is h v

  module _ (counted : AreCounted bits n w [] [] n.shape) where
    mutual
      other_counted : (t : Shape) (round before : List ℕ) → Lies bits n w ok round t → Within turns [] round before → AreCounted bits n w round before t
      other_counted (Single r) round before lies v = tt
      other_counted (Loop l ts) round before lies v = (
        loop_counted n.shape [] [] counted round l before (loop_of_lying bits n w ok l ts round lies) v,
        λ i a b. other_counted_in ts (round ++ l ∷ []) (before ++ i ∷ []) (lies_body bits n w ok l ts round lies) (Within-more turns [] round before l i v a b),
      )

      pub other_counted_in : (ts : Shapes) (round before : List ℕ) → LieIn bits n w ok round ts → Within turns [] round before → AreCountedIn bits n w round before ts
      other_counted_in no_shapes round before lies v = tt
      other_counted_in (shape t ts) round before lies v = (other_counted t round before (lies_first bits n w ok t ts round lies) v, other_counted_in ts round before (lies_rest bits n w ok t ts round lies) v)
