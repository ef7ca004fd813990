-- The cycles of classes, and of the pieces that are emitted for them.
use Rattle.std.proofs.Common.{◌≡◌, ◌⊎◌, inl, inr, refl, sym, ap, subst, ◌∙◌, ℕ, zero, suc, ◌+◌, ◌-◌, ◌<◌, ◌≤◌, ◌^◌, ◌==◌, Bool, true, false, cond, ◌&&◌, ◌||◌, List, [], ◌∷◌, ◌++◌, length, get_or, map, take, Some, Result, Ok, Err, arith, append_assoc, append-nil}
use mathlib.Core.Path.{fun_ext}
use Rattle.std.specs.Prelude.{All, OnOk, filter, not, slice_get, slice_index}
use Rattle.std.specs.List.{concat, range_with_len}
use Rattle.std.proofs.lemmas.Bool.{and_parts, or_left, or_right}
use Rattle.std.proofs.lemmas.Bool.Decides.{Decides-eqb}
use Rattle.std.proofs.lemmas.List.{length-map, map-append, take_all, take_more}
use Rattle.std.proofs.lemmas.List.Elements.{filter-append}
use Rattle.closed_walks.specs.Cycles.{AreCycles, AreLeastWalksOf as AreWalksOf, IsCycle}
use Rattle.closed_walks.specs.Walks.{IsClosedWalk}
use Rattle.components.specs.Emission.{statements_of_classes}
use Rattle.components.specs.Lists.{IsMember, Each, Distinct, Rises}
use Rattle.components.specs.Reachability.{AreBelow, Walk}
use Rattle.components.proofs.ClassLaws.{concat-In, In-concat, Rises-same}
use Rattle.components.proofs.ListLaws.{Each-In, Each-from, filter-In, In-append, In-filter, In-left, In-right, Pairwise-filter}
use Rattle.dependence_graph.specs.declared.graphs.Cycle.{Cycle}
use Rattle.dependence_graph.specs.declared.graphs.Edge.{Edge}
use Rattle.dependence_graph.specs.declared.graphs.Hold.{Hold}
use Rattle.emission.specs.emission_pieces.Cycles.{AreCyclesAmong, AreCyclesIn, AreCyclesOf, cycle_at, is_own_anti, is_step, stands_among, stands_in_piece, steps_of}
use Rattle.emission.specs.emission_pieces.Emission.{AreEmitted, AreEmittedFor, HasToTurn, IsEmittedFor, IsLoopOf}
use Rattle.emission.specs.emission_pieces.Levels.{AreComponents, is_at_work}
use Rattle.emission.specs.emission_pieces.Nests.{loops_at}
use Rattle.emission.specs.emission_pieces.Pieces.{Piece, Kept, Formed, Turning, Pieces, no_pieces, piece}
use Rattle.nest.specs.Bodies.{nest_statements}
use Rattle.nest.specs.Plain.{Loop, Nest}
use Rattle.emission.specs.nest_emission.Cycles.{AddCycles, AreCyclesFor, AreCyclesForAll, AreCyclesInLoop, AreCyclesOfPart, is_member}
use Rattle.emission.specs.declared.nest_emission.source.ListedNest.{ListedNest}
use Rattle.emission.specs.nest_emission.Given.{AreInside, HasLoop, IsListedNest, nest_in}
use Rattle.nest.specs.statement_loops.Standings.{standing_of}
use Rattle.emission.proofs.EmissionMarks.Lists as elements
use Rattle.emission.proofs.EmissionPieces.Emitted.{from_in, to_in}
use Rattle.emission.proofs.EmissionPieces.Lists.{any_in, in_any}
use Rattle.emission.proofs.nest_emission.Lists.{all_in, get_in, in_all, in_map, map_in}

-- ---- rising lists

-- a part that rises has its statements at rising places
at_rises : (part : List ℕ) → Rises part → (i j : ℕ) → i < j → j < length part → get_or part i 0 < get_or part j 0
at_rises [] r i j less inside = absurd (omega arith)
at_rises (x ∷ part) r i zero less inside = absurd (omega arith)
at_rises (x ∷ part) r zero (suc j) less inside = Each-In (λ y. x < y) part r.0 (get_or part j 0) (get_in part j 0 (omega arith))
at_rises (x ∷ part) r (suc i) (suc j) less inside = at_rises part r.1 i j (omega arith) (omega arith)

rises_at : (part : List ℕ) → Rises part → (c : List ℕ) → ((i : ℕ) → IsMember i c → i < length part) → Rises c → Rises (map (slice_index part) c)
rises_at part r [] below h = tt
rises_at part r (i ∷ c) below h =
    (Each-from (λ y. get_or part i 0 < y) (map (slice_index part) c) (λ y m. after y (map_in (slice_index part) c y m)), rises_at part r c (λ j m. below j (inr m)) h.1)
  where
    after : (y : ℕ) → (j : ℕ) × IsMember j c × (y ≡ slice_index part j) → get_or part i 0 < y
    after y m = subst (λ z. get_or part i 0 < z) (sym m.2) (at_rises part r i m.0 (Each-In (λ z. i < z) c h.0 m.0 m.1) (below m.0 (inr m.1)))

pub classes_rise : (edges : List Edge) (k : ℕ) (part : List ℕ) (classes : List (List ℕ)) → Rises part → AreComponents edges k part classes → All Rises classes
classes_rise edges k part classes r h = subst (All Rises) (sym h.statements) (all_in Rises (statements_of_classes part h.places) (λ c i. rise c (map_in (map (slice_index part)) h.places c i)))
  where
    rise : (c : List ℕ) → (d : List ℕ) × IsMember d h.places × (c ≡ map (slice_index part) d) → Rises c
    rise c m =
        subst Rises (sym m.2)
        (rises_at part r m.0 (λ i j. (h.order.members i).0 (In-concat i m.0 h.places m.1 j)) (Each-In Rises h.places h.order.rising m.0 m.1))

pub rises_once : (xs : List ℕ) → Rises xs → Distinct xs
rises_once [] h = tt
rises_once (x ∷ xs) h = (Each-from (λ y. ¬ (x ≡ y)) xs (λ y i e. (let less : x < y = Each-In (λ z. x < z) xs h.0 y i in absurd (omega arith))), rises_once xs h.1)

range_within : (a m x : ℕ) → IsMember x (range_with_len a m) → (a ≤ x) × (x < a + m)
range_within a m x i = elements.range_within a m x (to_in x (range_with_len a m) i)

in_range : (a m x : ℕ) → a ≤ x → x < a + m → IsMember x (range_with_len a m)
in_range a m x h g = from_in x (range_with_len a m) (elements.in_range a m x h g)

pub range_rises : (a m : ℕ) → Rises (range_with_len a m)
range_rises a zero = tt
range_rises a (suc m) =
    (Each-from (λ y. a < y) (range_with_len (a + 1) m) (λ y i. (let h : a + 1 ≤ y = (range_within (a + 1) m y i).0 in omega arith)), range_rises (a + 1) m)

pub of_member : (c : List ℕ) (s : ℕ) → is_member c s ≡ true → IsMember s c
of_member c s h = let w = any_in (λ r. r == s) c h in subst (λ z. IsMember z c) ((Decides-eqb w.0 s).0 w.2) w.1

pub to_member : (c : List ℕ) (s : ℕ) → IsMember s c → is_member c s ≡ true
to_member c s i = in_any (λ r. r == s) c s i ((Decides-eqb s s).1 refl)

-- the members of a rising list, in order
members_are : (count : ℕ) (c : List ℕ) → Rises c → ((s : ℕ) → IsMember s c → s < count) → filter (is_member c) (range_with_len 0 count) ≡ c
members_are count c rises below =
    Rises-same (filter (is_member c) (range_with_len 0 count)) c (Pairwise-filter (is_member c) (λ x y. x < y) (range_with_len 0 count) (range_rises 0 count)) rises
    (λ s i. of_member c s (filter-In (is_member c) (range_with_len 0 count) s i).1)
    (λ s i. In-filter (is_member c) (range_with_len 0 count) s (in_range 0 count s (omega arith) (let b = below s i in omega arith)) (to_member c s i))

-- ---- what stands in pieces

same_test : (a b : Bool) → (a ≡ true → b ≡ true) → (b ≡ true → a ≡ true) → a ≡ b
same_test true b f g = sym (f refl)
same_test false true f g = g refl
same_test false false f g = refl

-- a part has the statements of its classes
in_classes : (edges : List Edge) (k : ℕ) (part : List ℕ) (classes : List (List ℕ)) → AreComponents edges k part classes → (s : ℕ) → IsMember s (concat classes) → IsMember s part
in_classes edges k part classes h s i = by (concat-In s (statements_of_classes part h.places) (subst (λ cs. IsMember s (concat cs)) h.statements i))
  where
    by : (c : List ℕ) × IsMember c (statements_of_classes part h.places) × IsMember s c → IsMember s part
    by m =
        let d = map_in (map (slice_index part)) h.places m.0 m.1 in
        let j = map_in (slice_index part) d.0 s (subst (IsMember s) d.2 m.2) in
        subst (λ z. IsMember z part) (sym j.2) (get_in part j.0 0 ((h.order.members j.0).0 (In-concat j.0 d.0 h.places d.1 j.1)))

place_in : (xs : List ℕ) (x : ℕ) → IsMember x xs → (i : ℕ) × (i < length xs) × (x ≡ get_or xs i 0)
place_in [] x i = absurd i
place_in (y ∷ xs) x (inl e) = (0, omega arith, e)
place_in (y ∷ xs) x (inr i) = let k = place_in xs x i in (suc k.0, (let h : k.0 < length xs = k.1 in omega arith), k.2)

of_classes : (edges : List Edge) (k : ℕ) (part : List ℕ) (classes : List (List ℕ)) → AreComponents edges k part classes → (s : ℕ) → IsMember s part → IsMember s (concat classes)
of_classes edges k part classes h s i =
    let p = place_in part s i in
    let c = concat-In p.0 h.places ((h.order.members p.0).1 p.1) in
    subst (λ cs. IsMember s (concat cs)) (sym h.statements)
    (In-concat s (map (slice_index part) c.0) (statements_of_classes part h.places) (in_map (map (slice_index part)) h.places c.0 c.1)
    (subst (λ z. IsMember z (map (slice_index part) c.0)) (sym p.2) (in_map (slice_index part) c.0 p.0 c.2)))

one_number : (r s : ℕ) → IsMember s (r ∷ []) → (r == s) ≡ true
one_number r s (inl e) = (Decides-eqb r s).1 (sym e)
one_number r s (inr none) = absurd none

either_in : (s : ℕ) (c rest : List ℕ) (a b : Bool) → (a ≡ true → IsMember s c) → (b ≡ true → IsMember s rest) → (a || b) ≡ true → IsMember s (c ++ rest)
either_in s c rest true b f g e = In-left s c rest (f refl)
either_in s c rest false b f g e = In-right s c rest (g e)

in_either : (s : ℕ) (c rest : List ℕ) (a b : Bool) → (IsMember s c → a ≡ true) → (IsMember s rest → b ≡ true) → IsMember s c ⊎ IsMember s rest → (a || b) ≡ true
in_either s c rest a b f g (inl i) = or_left a b (f i)
in_either s c rest a b f g (inr i) = or_right a b (g i)

module _ (n : Nest) (edges : List Edge) (holds : List Hold) where
  mutual
    stand_in : (k : ℕ) (c : List ℕ) (p : Piece) → IsEmittedFor n edges holds k c p → (s : ℕ) → stands_in_piece s p ≡ true → IsMember s c
    stand_in k c (Kept r) h s e = subst (IsMember s) (sym h.0) (inl (sym ((Decides-eqb r s).0 e)))
    stand_in k c (Formed r) h s e = subst (IsMember s) (sym h.0) (inl (sym ((Decides-eqb r s).0 e)))
    stand_in k c (Turning l ps) h s e = in_classes edges (suc k) c h.2.0 h.2.1 s (stand_among (suc k) h.2.0 ps h.2.2 s e)

    pub stand_among : (k : ℕ) (cs : List (List ℕ)) (ps : Pieces) → AreEmittedFor n edges holds k cs ps → (s : ℕ) → stands_among s ps ≡ true → IsMember s (concat cs)
    stand_among k [] no_pieces h s e = cc
    stand_among k [] (piece p ps) h s e = absurd h
    stand_among k (c ∷ cs) no_pieces h s e = absurd h
    stand_among k (c ∷ cs) (piece p ps) h s e =
        either_in s c (concat cs) (stands_in_piece s p) (stands_among s ps) (stand_in k c p h.0 s) (stand_among k cs ps h.1 s) e

  mutual
    standing : (k : ℕ) (c : List ℕ) (p : Piece) → IsEmittedFor n edges holds k c p → (s : ℕ) → IsMember s c → stands_in_piece s p ≡ true
    standing k c (Kept r) h s i = one_number r s (subst (IsMember s) h.0 i)
    standing k c (Formed r) h s i = one_number r s (subst (IsMember s) h.0 i)
    standing k c (Turning l ps) h s i = standing_among (suc k) h.2.0 ps h.2.2 s (of_classes edges (suc k) c h.2.0 h.2.1 s i)

    pub standing_among : (k : ℕ) (cs : List (List ℕ)) (ps : Pieces) → AreEmittedFor n edges holds k cs ps → (s : ℕ) → IsMember s (concat cs) → stands_among s ps ≡ true
    standing_among k [] no_pieces h s i = absurd i
    standing_among k [] (piece p ps) h s i = absurd h
    standing_among k (c ∷ cs) no_pieces h s i = absurd h
    standing_among k (c ∷ cs) (piece p ps) h s i =
        in_either s c (concat cs) (stands_in_piece s p) (stands_among s ps) (standing k c p h.0 s) (standing_among k cs ps h.1 s) (In-append s c (concat cs) i)

  -- just the statements of the part
  pub stands_as : (k : ℕ) (c : List ℕ) (ps : Pieces) → AreEmitted n edges holds k c ps → (λ s. stands_among s ps) ≡ is_member c
  stands_as k c ps h =
      fun_ext (λ s. same_test (stands_among s ps) (is_member c s)
      (λ e. to_member c s (in_classes edges k c h.classes h.components s (stand_among k h.classes ps h.emitted s e)))
      (λ e. standing_among k h.classes ps h.emitted s (of_classes edges k c h.classes h.components s (of_member c s e))))

  -- ---- a class in its loop

  loop_there : (ls : List Loop) (d : ℕ) → d < length ls → (l : Loop) × (slice_get ls d ≡ Some l)
  loop_there [] d deep = absurd (omega arith)
  loop_there (l ∷ ls) zero deep = (l, refl)
  loop_there (l ∷ ls) (suc d) deep = loop_there ls d (omega arith)

  loop_of_class : (k : ℕ) (c : List ℕ) → 1 ≤ k → HasLoop n k c → (l : Loop) × IsLoopOf n edges holds k c l
  loop_of_class k c one h =
      let deep : k ≤ length (loops_at n h.0) = h.2 in
      let m = loop_there (loops_at n h.0) (k - 1) (omega arith) in
      (m.0, record { statement = h.0; among = h.1; loop = m.1 })

  in_loop : (k : ℕ) (c : List ℕ) (cs : List Cycle) → 1 ≤ k → Rises c → AreInside n c → HasToTurn n edges holds k c → HasLoop n k c
      → AreCyclesInLoop n edges holds k c cs → AreCyclesFor n edges holds k c cs
  in_loop k c cs one rises inside turns deep h =
      let l = loop_of_class k c one deep in
      let ps = h.part.pieces in
      let stands = stands_as (suc k) c ps h.part.emitted in
      let count = length (nest_statements n) in
      record {
        it = Turning l.0 ps;
        emitted = (l.1, turns, (h.part.emitted.classes, h.part.emitted.components, h.part.emitted.emitted));
        cycles = (
          h.walks,
          h.inner,
          h.are,
          subst (λ xs. AreCycles (steps_of (λ s. stands_among s ps) edges k) xs h.walks)
              (sym (ap (λ (has : ℕ → Bool). filter has (range_with_len 0 count)) stands ∙ members_are count c rises (in_all (λ s. s < count) c inside)))
              (subst (λ (has : ℕ → Bool). AreCycles (steps_of has edges k) c h.walks) (sym stands) h.cycles),
          h.part.cycles,
        );
      }

  -- ---- as the calls answer them

  abbrev Adding : (List Cycle → Type 0) → List Cycle → List Cycle → Type 0
  Adding P old new = AddCycles P old new

  pub added : (P Q : List Cycle → Type 0) → ((cs : List Cycle) → P cs → Q cs) → (old new : List Cycle) → Adding P old new → Adding Q old new
  added P Q f old new h = record { more = h.more; are = h.are; holds = f h.more h.holds }

  pub kept_adds : (k : ℕ) (c : List ℕ) (s : ℕ) (old : List Cycle) → IsEmittedFor n edges holds k c (Kept s) → Adding (AreCyclesFor n edges holds k c) old old
  kept_adds k c s old h = record { more = []; are = sym (append-nil old); holds = record { it = Kept s; emitted = h; cycles = refl } }

  pub formed_adds : (k : ℕ) (c : List ℕ) (s : ℕ) (old : List Cycle) → IsEmittedFor n edges holds k c (Formed s) → Adding (AreCyclesFor n edges holds k c) old old
  formed_adds k c s old h = record { more = []; are = sym (append-nil old); holds = record { it = Formed s; emitted = h; cycles = refl } }

  on_ok : {A E : Type 0} (r : Result A E) (P Q : Type 0) → (P → Q) → OnOk r P → OnOk r Q
  on_ok (Ok a) P Q f h = f h
  on_ok (Err e) P Q f h = h

  pub turning_adds : {A E : Type 0} (k : ℕ) (c : List ℕ) (r : Result A E) (old new : List Cycle) → 1 ≤ k → Rises c → AreInside n c → HasToTurn n edges holds k c → HasLoop n k c
      → OnOk r (Adding (AreCyclesInLoop n edges holds k c) old new) → OnOk r (Adding (AreCyclesFor n edges holds k c) old new)
  turning_adds k c r old new one rises inside turns deep h =
      on_ok r (Adding (AreCyclesInLoop n edges holds k c) old new) (Adding (AreCyclesFor n edges holds k c) old new)
      (added (AreCyclesInLoop n edges holds k c) (AreCyclesFor n edges holds k c) (λ cs. in_loop k c cs one rises inside turns deep) old new) h

  -- the walks of a class, and what is in its loop
  pub loop_adds : {A E : Type 0} (k : ℕ) (c : List ℕ) (walks given : List (List ℕ)) (r : Result A E) (old with_walks new : List Cycle) → AreCycles (steps_of (is_member c) edges k) c walks
      → given ≡ walks → with_walks ≡ old ++ map (cycle_at k) given
      → OnOk r (Adding (AreCyclesOfPart n edges holds (k + 1) c) with_walks new) → OnOk r (Adding (AreCyclesInLoop n edges holds k c) old new)
  loop_adds k c walks given r old with_walks new h same e =
      on_ok r (Adding (AreCyclesOfPart n edges holds (k + 1) c) with_walks new) (Adding (AreCyclesInLoop n edges holds k c) old new) (λ g. (record {
        more = map (cycle_at k) walks ++ g.more;
        are = g.are ∙ (ap (λ zs. zs ++ g.more) (e ∙ ap (λ ws. old ++ map (cycle_at k) ws) same) ∙ append_assoc old (map (cycle_at k) walks) g.more);
        holds = record {
          walks = walks;
          inner = g.more;
          are = refl;
          cycles = h;
          part = let next : k + 1 ≡ suc k = omega arith in subst (λ j. AreCyclesOfPart n edges holds j c g.more) next g.holds;
        };
      }))

  -- ---- class after class

  abbrev with_piece : Pieces → Piece → Pieces
  with_piece no_pieces p = piece p no_pieces
  with_piece (piece q ps) p = piece q (with_piece ps p)

  emitted_more : (k : ℕ) (cs : List (List ℕ)) (ps : Pieces) (c : List ℕ) (p : Piece) → AreEmittedFor n edges holds k cs ps → IsEmittedFor n edges holds k c p
      → AreEmittedFor n edges holds k (cs ++ c ∷ []) (with_piece ps p)
  emitted_more k [] no_pieces c p h g = (g, tt)
  emitted_more k [] (piece q ps) c p h g = absurd h
  emitted_more k (d ∷ cs) no_pieces c p h g = absurd h
  emitted_more k (d ∷ cs) (piece q ps) c p h g = (h.0, emitted_more k cs ps c p h.1 g)

  cycles_more : (count k : ℕ) (ps : Pieces) (p : Piece) (xs ys : List Cycle) → AreCyclesAmong edges count k ps xs → AreCyclesIn edges count k p ys
      → AreCyclesAmong edges count k (with_piece ps p) (xs ++ ys)
  cycles_more count k no_pieces p xs ys h g = (ys, [], ap (λ zs. zs ++ ys) h ∙ sym (append-nil ys), g, refl)
  cycles_more count k (piece q ps) p xs ys h g =
      (h.0, h.1 ++ ys, ap (λ zs. zs ++ ys) h.2 ∙ append_assoc h.0 h.1 ys, h.3, cycles_more count k ps p h.1 ys h.4 g)

  pub none_yet : (k : ℕ) (old : List Cycle) → Adding (AreCyclesForAll n edges holds k []) old old
  none_yet k old = record { more = []; are = sym (append-nil old); holds = record { pieces = no_pieces; emitted = tt; cycles = refl } }

  pub one_more : (k : ℕ) (classes : List (List ℕ)) (i : ℕ) (c : List ℕ) (first old new : List Cycle) → i < length classes → c ≡ get_or classes i c
      → Adding (AreCyclesForAll n edges holds k (take i classes)) first old → Adding (AreCyclesFor n edges holds k c) old new
      → Adding (AreCyclesForAll n edges holds k (take (i + 1) classes)) first new
  one_more k classes i c first old new inside is h g =
      let more : take (i + 1) classes ≡ take i classes ++ c ∷ [] = take_more classes i c inside ∙ ap (λ x. take i classes ++ x ∷ []) (sym is) in
      subst (λ cs. Adding (AreCyclesForAll n edges holds k cs) first new) (sym more) (record {
        more = h.more ++ g.more;
        are = g.are ∙ (ap (λ zs. zs ++ g.more) h.are ∙ append_assoc first h.more g.more);
        holds = record {
          pieces = with_piece h.holds.pieces g.holds.it;
          emitted = emitted_more k (take i classes) h.holds.pieces c g.holds.it h.holds.emitted g.holds.emitted;
          cycles = cycles_more (length (nest_statements n)) k h.holds.pieces g.holds.it h.more g.more h.holds.cycles g.holds.cycles;
        };
      })

  pub part_done : (k : ℕ) (part : List ℕ) (classes items : List (List ℕ)) (i : ℕ) (old new : List Cycle) → AreComponents edges k part classes → items ≡ classes → length items ≤ i
      → Adding (AreCyclesForAll n edges holds k (take i items)) old new → Adding (AreCyclesOfPart n edges holds k part) old new
  part_done k part classes items i old new h same past g =
      added (AreCyclesForAll n edges holds k classes) (AreCyclesOfPart n edges holds k part) (λ cs a. record {
        pieces = a.pieces;
        emitted = record { classes = classes; components = h; emitted = a.emitted };
        cycles = a.cycles;
      }) old new
      (subst (λ cs. Adding (AreCyclesForAll n edges holds k cs) old new) (take_all i items past ∙ same) g)

-- ---- steps are below the number of statements, and so are the numbers of walks

pub steps_below : (count : ℕ) (edges : List Edge) (k : ℕ) (c : List ℕ) → ((s : ℕ) → IsMember s c → s < count) → AreBelow count (steps_of (is_member c) edges k)
steps_below count edges k c below =
    Each-from (λ (p : ℕ × ℕ). (p.0 < count) × (p.1 < count)) (steps_of (is_member c) edges k) (λ p i. by p (map_in (λ (e : Edge). (e.from.stmt, e.to.stmt)) (filter (is_step (is_member c) k) edges) p i))
  where
    by : (p : ℕ × ℕ) → (e : Edge) × IsMember e (filter (is_step (is_member c) k) edges) × (p ≡ (e.from.stmt, e.to.stmt)) → (p.0 < count) × (p.1 < count)
    by p m =
        let e = m.0 in
        let test = (filter-In (is_step (is_member c) k) edges e m.1).1 in
        let rest = and_parts (is_at_work k e.level) (not (is_own_anti e) && (is_member c e.from.stmt && is_member c e.to.stmt)) test in
        let both = and_parts (not (is_own_anti e)) (is_member c e.from.stmt && is_member c e.to.stmt) rest.1 in
        let ends = and_parts (is_member c e.from.stmt) (is_member c e.to.stmt) both.1 in
        subst (λ (q : ℕ × ℕ). (q.0 < count) × (q.1 < count)) (sym m.2) (below e.from.stmt (of_member c e.from.stmt ends.0), below e.to.stmt (of_member c e.to.stmt ends.1))

module _ (count : ℕ) (pairs : List (ℕ × ℕ)) (below : AreBelow count pairs) where
  walk_below : (s : ℕ) (over : List ℕ) (r : ℕ) → Walk pairs s over r → Each (λ q. q < count) over
  walk_below s [] r w = tt
  walk_below s (q ∷ over) r w = ((Each-In (λ (p : ℕ × ℕ). (p.0 < count) × (p.1 < count)) pairs below (s, q) w.0).1, walk_below q over r w.1)

  each_below : (starts : List ℕ) (walks : List (List ℕ)) → AreWalksOf pairs starts walks → Each (λ w. Each (λ q. q < count) w) walks
  each_below [] [] h = tt
  each_below [] (w ∷ walks) h = absurd h
  each_below (s ∷ starts) [] h = absurd h
  each_below (s ∷ starts) (w ∷ walks) h = (one w h.0, each_below starts walks h.1)
    where
      first : (a : ℕ) (over : List ℕ) → IsClosedWalk pairs a over → a < count
      first a [] c = absurd (let e : 1 ≤ 0 = c.some in omega arith)
      first a (q ∷ over) c = (Each-In (λ (p : ℕ × ℕ). (p.0 < count) × (p.1 < count)) pairs below (a, q) c.walk.0).0

      one : (w : List ℕ) → IsCycle pairs s w → Each (λ q. q < count) w
      one [] c = absurd c
      one (a ∷ over) c = (subst (λ z. z < count) (sym c.0) (first s over c.1.closed), walk_below s over s c.1.closed.walk)

  pub walks_below : (numbers : List ℕ) (walks given : List (List ℕ)) → AreCycles pairs numbers walks → given ≡ walks → count < 2 ^ 32 → All (λ walk. All (λ s. s + 1 < 2 ^ 32) walk) given
  walks_below numbers walks given h same few =
      subst (All (λ walk. All (λ s. s + 1 < 2 ^ 32) walk)) (sym same)
      (all_in (λ walk. All (λ s. s + 1 < 2 ^ 32) walk) walks (λ w i. all_in (λ s. s + 1 < 2 ^ 32) w (λ s j. (let less : s < count = Each-In (λ q. q < count) w (Each-In (λ w. Each (λ q. q < count) w) walks (each_below h.starts walks h.each) w i) s j in omega arith))))

-- ---- one more step, or walk

abbrev pair_of : Edge → ℕ × ℕ
pair_of e = (e.from.stmt, e.to.stmt)

one_step : (has : ℕ → Bool) (edges : List Edge) (i : ℕ) (e : Edge) (k : ℕ) → i < length edges → e ≡ get_or edges i e
    → steps_of has (take (i + 1) edges) k ≡ steps_of has (take i edges) k ++ map pair_of (cond (is_step has k e) (e ∷ []) [])
one_step has edges i e k inside is =
    ap (λ (es : List Edge). steps_of has es k) (take_more edges i e inside ∙ ap (λ (x : Edge). take i edges ++ x ∷ []) (sym is))
    ∙ (ap (map pair_of) (filter-append (is_step has k) (take i edges) (e ∷ []))
    ∙ map-append pair_of (filter (is_step has k) (take i edges)) (filter (is_step has k) (e ∷ [])))

pub steps_more : (has : ℕ → Bool) (edges : List Edge) (i : ℕ) (e : Edge) (k : ℕ) (old new : List (ℕ × ℕ)) → i < length edges → e ≡ get_or edges i e
    → old ≡ steps_of has (take i edges) k → is_step has k e ≡ true → new ≡ old ++ (e.from.stmt, e.to.stmt) ∷ [] → new ≡ steps_of has (take (i + 1) edges) k
steps_more has edges i e k old new inside is h test n =
    n ∙ (ap (λ us. us ++ (e.from.stmt, e.to.stmt) ∷ []) h ∙ sym (one_step has edges i e k inside is ∙ ap (λ (b : Bool). steps_of has (take i edges) k ++ map pair_of (cond b (e ∷ []) [])) test))

pub steps_same : (has : ℕ → Bool) (edges : List Edge) (i : ℕ) (e : Edge) (k : ℕ) (old : List (ℕ × ℕ)) → i < length edges → e ≡ get_or edges i e
    → old ≡ steps_of has (take i edges) k → is_step has k e ≡ false → old ≡ steps_of has (take (i + 1) edges) k
steps_same has edges i e k old inside is h test =
    h ∙ (sym (append-nil (steps_of has (take i edges) k)) ∙ sym (one_step has edges i e k inside is ∙ ap (λ (b : Bool). steps_of has (take i edges) k ++ map pair_of (cond b (e ∷ []) [])) test))

-- ---- as calls ask for them

module _ (source : ListedNest) (h : IsListedNest source) (class : List ℕ) (inside : AreInside (nest_in source) class) where
  abbrev size : ℕ
  size = length (nest_statements (nest_in source))

  same_size : length source.statements.now ≡ size
  same_size = sym (length-map source.statements.now standing_of) ∙ ap length h.all

  members_inside : (s : ℕ) → IsMember s class → s < size
  members_inside = in_all (λ s. s < size) class inside

  pub steps_given : (level : ℕ) (items given : List (ℕ × ℕ)) → items ≡ steps_of (is_member class) source.edges.now level → given ≡ items
      → AreBelow (length source.statements.now) given
  steps_given level items given e g =
      subst (λ m. AreBelow m given) (sym same_size)
      (subst (AreBelow size) (sym (g ∙ e)) (steps_below size source.edges.now level class members_inside))

  pub class_given : (classes : List (List ℕ)) → classes ≡ class ∷ [] → Each (λ c. Each (λ a. a < length source.statements.now) c) classes
  class_given classes e =
      subst (Each (λ c. Each (λ a. a < length source.statements.now) c)) (sym e)
      (Each-from (λ a. a < length source.statements.now) class (λ a i. subst (λ m. a < m) (sym same_size) (members_inside a i)), tt)

  pub walks_given : (level : ℕ) (walks given : List (List ℕ)) → AreCycles (steps_of (is_member class) source.edges.now level) class walks → given ≡ walks
      → All (λ walk. All (λ s. s + 1 < 2 ^ 32) walk) given
  walks_given level walks given are same =
      walks_below size (steps_of (is_member class) source.edges.now level) (steps_below size source.edges.now level class members_inside) class walks given are same h.few

pub all_rise : (part : List ℕ) (m : ℕ) → part ≡ range_with_len 0 m → Rises part
all_rise part m e = subst Rises (sym e) (range_rises 0 m)

-- those of all statements, where none stood there
pub all_cycles : (n : Nest) (edges : List Edge) (holds : List Hold) (part : List ℕ) (m : ℕ) (old new : List Cycle) → part ≡ range_with_len 0 m → m ≡ length (nest_statements n) → old ≡ []
    → AddCycles (AreCyclesOfPart n edges holds 1 part) old new → AreCyclesOf n edges holds new
all_cycles n edges holds part m old new e many none h =
    let all = subst (λ xs. AreCyclesOfPart n edges holds 1 xs h.more) (e ∙ ap (range_with_len 0) many) h.holds in
    subst (AreCyclesOf n edges holds) (sym (h.are ∙ ap (λ zs. zs ++ h.more) none)) (record { pieces = all.pieces; emitted = all.emitted; cycles = all.cycles })
