-- The parts of a nest that recursive emission comes to: all statements, and then the components of each level.
use Rattle.std.proofs.Common.{◌≡◌, ◌⊎◌, ◌↔◌, ◌∙◌, inl, inr, refl, sym, ap, subst, arith, ℕ, suc, ◌+◌, ◌-◌, ◌<◌}
use Rattle.std.proofs.Common.{◌≤◌, ◌==◌, true, cond, Some, List, [], ◌∷◌, length}
use Rattle.std.specs.Prelude.{slice_get}
use Rattle.std.specs.List.{concat, range_with_len}
use Rattle.std.proofs.lemmas.Bool.{eqb-true}
use Rattle.std.proofs.lemmas.List.Elements.{All-contains}
use Rattle.components.specs.Lists as lists
use Rattle.dependence_graph.specs.declared.graphs.Edge.{Edge}
use Rattle.dependence_graph.specs.declared.graphs.Hold.{Hold}
use Rattle.dependence_graph.proofs.dep_graph.SameLoops.{same_loops}
use Rattle.emission.specs.emission_pieces.Emission.{IsLoopOf}
use Rattle.emission.specs.emission_pieces.Levels.{AreComponents, is_at_work, joins, leads}
use Rattle.emission.specs.emission_pieces.Nests.{loops_at, standing_at}
use Rattle.emission.specs.emission_pieces.Edges.{IsEdgeOf}
use Rattle.emission.specs.emission_pieces.Shapes.{edges_of, numbers_at}
use Rattle.emission.proofs.EmissionPieces.Emitted.{components_of, from_in, to_in}
use Rattle.emission.proofs.EmissionPieces.Lists.{any_in, both_true}
use Rattle.emission.proofs.EmissionPieces.Ordered.{edges_are, nest_is, statements_are}
use Rattle.dependence_graph.specs.nest_graph.Tested as tested
use Rattle.nest_order.specs.orders.Emission.{Components, Leads}
use Rattle.nest_order.specs.orders.Lists.{Distinct, In}
use Rattle.nest_order.specs.orders.Nests.{IsNest}
use Rattle.nest_order.specs.orders.Shapes.{common_of, statements}
use Rattle.nest_order.proofs.orders.Common.{between}
use Rattle.nest_order.proofs.orders.Emission.{class_in, class_once, in_one_loop}
use Rattle.nest_order.proofs.orders.Lists.{Each-In}
use Rattle.nest_order.specs.shapes.Shapes.{numbers_of, shape_of}
use Rattle.nest.specs.Bodies.{nest_statements}
use Rattle.nest.specs.Plain.{Loop, Nest}
use Rattle.array_form.specs.holds.Statements.{no_statement}
use Rattle.emission.specs.emission_marks.Components.{IsWith, ReachesInLevel}
use Rattle.emission.specs.emission_marks.Laws.{MayBeMarked}
use Rattle.emission.proofs.EmissionMarks.Lists.{contained, element, from_distinct, in_range, range_within, range_once}
use Rattle.emission.proofs.EmissionMarks.Lists.{to_distinct}
use Rattle.emission.proofs.EmissionMarks.Walks.{class_of_walks, walks_of_class}

same_common : (ls ms : List Loop) → common_of (numbers_of ls) (numbers_of ms) ≡ tested.common_of ls ms
same_common [] ms = refl
same_common (l ∷ ls) [] = refl
same_common (l ∷ ls) (m ∷ ms) = ap (λ c. cond (l.number == m.number) (suc c) 0) (same_common ls ms)

module _ (n : Nest) (edges : List Edge) (may : MayBeMarked n edges) where
  -- how many statements it has
  abbrev pub size : ℕ
  size = length (nest_statements n)

  -- an edge leads to a statement of the nest
  pub leads_within : (k s r : ℕ) → leads edges k s r ≡ true → r < size
  leads_within k s r h =
      let e = any_in (joins k s r) edges h in
      let to = both_true (e.0.to.stmt == r) (is_at_work k e.0.level) (both_true (e.0.from.stmt == s) _ e.2).1 in
      let known = All-contains (IsEdgeOf n) edges e.0 may.edges_are (contained edges e.0 (to_in e.0 edges e.1)) in
      subst (λ m. m < size) (eqb-true e.0.to.stmt r to.0) known.to

  -- A part within d loops: with each of its statements all that are in its component of the level d, and no others. Two
  -- of its statements have these loops in common
  pub record IsPart (d : ℕ) (part : List ℕ) : Type 0 where
    pub once : Distinct part
    pub inside : (s : ℕ) → In s part → s < size
    pub joined : (s r : ℕ) → In s part → In r part → IsWith edges d s r
    pub whole : (s r : ℕ) → In s part → r < size → IsWith edges d s r → In r part
    pub near : (s r : ℕ) → In s part → In r part → (s ≡ r) ⊎ (d ≤ common_of (numbers_at n s) (numbers_at n r))

  abbrev pub everything : List ℕ
  everything = range_with_len 0 size

  pub all_is_part : IsPart 0 everything
  all_is_part = record {
    once = range_once 0 size;
    inside = λ s i. (let h : s < 0 + size = (range_within 0 size s i).1 in omega arith);
    joined = λ s r i j. tt;
    whole = λ s r i h w. in_range 0 size r (omega arith) (omega arith);
    near = λ s r i j. inr (omega arith);
  }

  -- ---- the components of a part

  nest : IsNest (numbers_at n) (shape_of 0 n.body)
  nest = nest_is n may.plain (to_distinct (numbers_of _) may.numbers)

  in_text : (s : ℕ) → s < size → In s (statements (shape_of 0 n.body))
  in_text s h = subst (In s) (statements_are n may.plain) (in_range 0 size s (omega arith) (omega arith))

  module _ (d : ℕ) (part : List ℕ) (classes : List (List ℕ)) (is : IsPart d part)
      (given : AreComponents edges (suc d) part classes) where
    comps : Components (edges_of edges) d part classes
    comps = components_of edges d part classes is.once given

    pub classes_once : Distinct (concat classes)
    classes_once = comps.once

    pub classes_same : (s : ℕ) → In s part ↔ In s (concat classes)
    classes_same = comps.same

    pub in_part : (c : List ℕ) → In c classes → (s : ℕ) → In s c → In s part
    in_part c i s j = (comps.same s).1 (class_in s c classes i j)

    near_in_class : (c : List ℕ) → In c classes → (s r : ℕ) → In s c → In r c
        → (s ≡ r) ⊎ (d < common_of (numbers_at n s) (numbers_at n r))
    near_in_class c i s r j k =
        let reach = Each-In (λ c. (s r : ℕ) → In s c → In r c → Leads (edges_of edges) d part s r) classes
        comps.reachable c i in
        let text : (q : ℕ) → In q part → In q (statements (shape_of 0 n.body)) = λ q l. in_text q (is.inside q l) in
        in_one_loop (numbers_at n) (edges_of edges) (statements (shape_of 0 n.body)) (edges_are n edges may.edges_are)
        (between (numbers_at n) (shape_of 0 n.body) [] nest.fits nest.single nest.rising) d part text s r
        (text s (in_part c i s j)) (text r (in_part c i r k)) (reach s r j k) (reach r s k j)

    -- each is a part of the next level
    pub class_is_part : (c : List ℕ) → In c classes → IsPart (suc d) c
    class_is_part c i = record {
      once = class_once c classes i comps.once;
      inside = λ s j. is.inside s (in_part c i s j);
      joined = λ s r j k. (reaches s s r j j k, reaches s r s j k j);
      whole = λ s r j h w. closed s r j w.0 w.1;
      near = near_in_class c i;
    }
      where
        reaches : (s q r : ℕ) → In s c → In q c → In r c → ReachesInLevel edges (suc d) (IsWith edges d s) q r
        reaches s q r j k l = walks_of_class edges (suc d) part classes given c (from_in c classes i) (IsWith edges d s)
            (λ p m. is.joined s p (in_part c i s j) (to_in p part m)) q r (from_in q c k) (from_in r c l)

        inside_part : (s : ℕ) → In s part → (p q : ℕ) → leads edges (suc d) p q ≡ true → IsWith edges d s q
            → lists.IsMember q part
        inside_part s j p q leads w = from_in q part (is.whole s q j (leads_within (suc d) p q leads) w)

        closed : (s r : ℕ) → In s c → ReachesInLevel edges (suc d) (IsWith edges d s) s r
            → ReachesInLevel edges (suc d) (IsWith edges d s) r s → In r c
        closed s r j to back =
            to_in r c (class_of_walks edges (suc d) part classes given c (from_in c classes i) (IsWith edges d s)
            (from_distinct part is.once) (inside_part s (in_part c i s j)) s r (from_in s c j) to back)

  -- ---- the next loop of a part

  standing_inside : (s : ℕ) → s < size → lists.IsMember (standing_at n s) (nest_statements n)
  standing_inside s h = element (nest_statements n) s no_statement h

  -- all its statements have the next loop of one of them
  pub next_loop : (holds : List Hold) (d : ℕ) (c : List ℕ) (l : Loop) → IsPart (suc d) c
      → IsLoopOf n edges holds (suc d) c l
      → (s : ℕ) → In s c → slice_get (loops_at n s) d ≡ Some l
  next_loop holds d c l is h s i = by (is.near s h.statement i there)
    where
      there : In h.statement c
      there = to_in h.statement c h.among

      found : slice_get (loops_at n h.statement) d ≡ Some l
      found = (let e : suc d - 1 ≡ d = omega arith in ap (slice_get (loops_at n h.statement)) (sym e)) ∙ h.loop

      by : (s ≡ h.statement) ⊎ (suc d ≤ common_of (numbers_at n s) (numbers_at n h.statement))
          → slice_get (loops_at n s) d ≡ Some l
      by (inl e) = ap (λ r. slice_get (loops_at n r) d) e ∙ found
      by (inr g) =
          same_loops n (standing_at n s) (standing_at n h.statement) may.numbers (standing_inside s (is.inside s i))
          (standing_inside h.statement (is.inside h.statement there)) d
          (subst (λ m. d < m) (same_common (loops_at n s) (loops_at n h.statement)) g)
          ∙ found
