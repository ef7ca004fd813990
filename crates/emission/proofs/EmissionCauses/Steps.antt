-- Walks of dependences at work at a level.
use Rattle.std.proofs.Common.{◌≡◌, ◌⊎◌, inl, inr, refl, sym, ap, subst, ◌∙◌, ℕ, zero, suc, ◌<◌, ◌≤◌, ◌==◌, Bool, true, false, ◌&&◌, ◌||◌, List, [], ◌∷◌, ◌++◌, length, arith}
use Rattle.std.specs.Prelude.{filter, nat_le, not}
use Rattle.std.proofs.lemmas.Bool.{and_from, and_parts, cases_eq, leb-true, le-leb, or_cases, or_left, or_right}
use Rattle.std.proofs.lemmas.Bool.Decides.{Decides-eqb}
use Rattle.closed_walks.proofs.FlatComponents.{nested_is_flat}
use Rattle.closed_walks.specs.FlatComponents as flat
use Rattle.closed_walks.specs.Walks.{IsClosedWalk, IsLeastClosedWalk}
use Rattle.components.specs.Lists.{IsMember}
use Rattle.components.specs.Reachability.{Reaches, Walk}
use Rattle.components.proofs.ListLaws.{filter-In, In-filter}
use Rattle.dependence_graph.specs.declared.graphs.Edge.{Edge}
use Rattle.emission.specs.emission_causes.Causes.{IsByItself, steps_at}
use Rattle.emission.specs.emission_marks.Components as marks
use Rattle.emission.specs.emission_pieces.Cycles.{is_own_anti, is_step, steps_of}
use Rattle.emission.specs.emission_pieces.Edges.{AreEdgesOf, IsEdgeOf}
use Rattle.emission.specs.emission_pieces.Levels.{is_anti, is_at_work, is_own, is_recurrent, joins, leads}
use Rattle.nest.specs.Bodies.{nest_statements}
use Rattle.nest.specs.Plain.{Nest}
use Rattle.emission.proofs.EmissionPieces.Lists.{any_in, in_any}
use Rattle.emission.proofs.nest_emission.Lists.{in_all, in_map, map_in}
use Rattle.emission.proofs.nest_emission.PairLaws.{joined, joining}

-- ---- steps

module _ (edges : List Edge) (k : ℕ) where
  pub record IsStep (has : ℕ → Bool) (a b : ℕ) : Type 0 where
    pub edge : Edge
    pub among : IsMember edge edges
    pub from : edge.from.stmt ≡ a
    pub to : edge.to.stmt ≡ b
    pub work : is_at_work k edge.level ≡ true
    pub own : not (is_own_anti edge) ≡ true
    pub start : has a ≡ true
    pub end : has b ≡ true

  pub step_of : (has : ℕ → Bool) (a b : ℕ) → IsMember (a, b) (steps_of has edges k) → IsStep has a b
  step_of has a b i = by (map_in (λ (e : Edge). (e.from.stmt, e.to.stmt)) (filter (is_step has k) edges) (a, b) i)
    where
      by : (e : Edge) × IsMember e (filter (is_step has k) edges) × (◌≡◌ {A = ℕ × ℕ} (a, b) (e.from.stmt, e.to.stmt)) → IsStep has a b
      by m =
          let e = m.0 in
          let test = filter-In (is_step has k) edges e m.1 in
          let p = and_parts (is_at_work k e.level) (not (is_own_anti e) && (has e.from.stmt && has e.to.stmt)) test.1 in
          let q = and_parts (not (is_own_anti e)) (has e.from.stmt && has e.to.stmt) p.1 in
          let r = and_parts (has e.from.stmt) (has e.to.stmt) q.1 in
          let from : e.from.stmt ≡ a = sym (ap (λ (z : ℕ × ℕ). z.0) m.2) in
          let to : e.to.stmt ≡ b = sym (ap (λ (z : ℕ × ℕ). z.1) m.2) in
          record {
            edge = e;
            among = test.0;
            from = from;
            to = to;
            work = p.0;
            own = q.0;
            start = subst (λ z. has z ≡ true) from r.0;
            end = subst (λ z. has z ≡ true) to r.1;
          }

  pub in_steps : (has : ℕ → Bool) (a b : ℕ) → IsStep has a b → IsMember (a, b) (steps_of has edges k)
  in_steps has a b h =
      let e = h.edge in
      let test : is_step has k e ≡ true =
      and_from (is_at_work k e.level) (not (is_own_anti e) && (has e.from.stmt && has e.to.stmt)) h.work
      (and_from (not (is_own_anti e)) (has e.from.stmt && has e.to.stmt) h.own
      (and_from (has e.from.stmt) (has e.to.stmt) (subst (λ z. has z ≡ true) (sym h.from) h.start) (subst (λ z. has z ≡ true) (sym h.to) h.end))) in
      subst (λ z. IsMember {X = ℕ × ℕ} (a, z) (steps_of has edges k)) h.to
      (subst (λ z. IsMember {X = ℕ × ℕ} (z, e.to.stmt) (steps_of has edges k)) h.from
      (in_map (λ (e : Edge). (e.from.stmt, e.to.stmt)) (filter (is_step has k) edges) e (In-filter (is_step has k) edges e h.among test)))

  pub step_leads : (has : ℕ → Bool) (a b : ℕ) → IsStep has a b → leads edges k a b ≡ true
  step_leads has a b h = in_any (joins k a b) edges h.edge h.among (joining k a b h.edge h.from h.to h.work)

  -- any dependence at work between different statements
  pub leads_step : (a b : ℕ) → (a ≡ b → ⊥) → leads edges k a b ≡ true → IsStep (λ s. true) a b
  leads_step a b apart h =
      let m = any_in (joins k a b) edges h in
      let e = m.0 in
      let it = joined k a b e m.2 in
      record {
        edge = e;
        among = m.1;
        from = it.from;
        to = it.to;
        work = it.at_work;
        own = none (is_anti e.kind) (e.from.stmt == e.to.stmt) refl (λ g. apart (sym it.from ∙ ((Decides-eqb e.from.stmt e.to.stmt).0 g ∙ it.to)));
        start = refl;
        end = refl;
      }
    where
      none : (x y : Bool) → y ≡ y → (y ≡ true → ⊥) → not (x && y) ≡ true
      none true true e f = absurd (f refl)
      none true false e f = refl
      none false y e f = refl

  -- a dependence of a statement on itself, which isn't an antidependence
  pub recurrent_step : (s : ℕ) → is_recurrent edges k s ≡ true → IsStep (λ s. true) s s
  recurrent_step s h =
      let m = any_in (is_own k s) edges h in
      let e = m.0 in
      let p = and_parts (joins k s s e) (not (is_anti e.kind)) m.2 in
      let it = joined k s s e p.0 in
      record {
        edge = e;
        among = m.1;
        from = it.from;
        to = it.to;
        work = it.at_work;
        own = none (is_anti e.kind) (e.from.stmt == e.to.stmt) p.1;
        start = refl;
        end = refl;
      }
    where
      none : (x y : Bool) → not x ≡ true → not (x && y) ≡ true
      none true y e = cc
      none false y e = refl

  -- ---- walks

  pub walk_then : (pairs : List (ℕ × ℕ)) (a : ℕ) (us : List ℕ) (b : ℕ) (vs : List ℕ) (c : ℕ) → Walk pairs a us b → Walk pairs b vs c → Walk pairs a (us ++ vs) c
  walk_then pairs a [] b vs c w v = subst (λ z. Walk pairs z vs c) (sym w) v
  walk_then pairs a (u ∷ us) b vs c w v = (w.0, walk_then pairs u us b vs c w.1 v)

  abbrev pub free : ℕ → Type 0
  free q = Unit {0}

  pub to_free : (has : ℕ → Bool) (a : ℕ) (over : List ℕ) (b : ℕ) → Walk (steps_of has edges k) a over b → flat.IsFlatWalk (leads edges) k (λ q. Unit {0}) a over b
  to_free has a [] b w = w
  to_free has a (q ∷ over) b w = (step_leads has a q (step_of has a q w.0), tt, to_free has q over b w.1)

  -- without what leads from a statement to itself
  pub of_free : (a : ℕ) (over : List ℕ) (b : ℕ) → flat.IsFlatWalk (leads edges) k (λ q. Unit {0}) a over b → Reaches (steps_at edges k) a b
  of_free a [] b w = ([], w)
  of_free a (q ∷ over) b w = by (cases_eq a q) (of_free q over b w.2)
    where
      by : (a ≡ q) ⊎ (a ≡ q → ⊥) → Reaches (steps_at edges k) q b → Reaches (steps_at edges k) a b
      by (inl e) r = subst (λ z. Reaches (steps_at edges k) z b) (sym e) r
      by (inr apart) r = (q ∷ r.0, (in_steps (λ s. true) a q (leads_step a q apart w.0), r.1))

  -- where no closed walk leads from a statement, none joins it to another one
  pub by_itself : (s : ℕ) → ((over : List ℕ) → IsClosedWalk (steps_at edges k) s over → ⊥) → IsByItself edges k s
  by_itself s none r h = by (cases_eq r s)
    where
      some : (us vs : List ℕ) → Walk (steps_at edges k) s us r → (r ≡ s → ⊥) → 1 ≤ length (us ++ vs)
      some [] vs w apart = absurd (apart (sym w))
      some (u ∷ us) vs w apart = omega arith

      by : (r ≡ s) ⊎ (r ≡ s → ⊥) → r ≡ s
      by (inl e) = e
      by (inr apart) =
          let to = of_free s h.0.0 r h.0.1 in
          let back = of_free r h.1.0 s h.1.1 in
          absurd (none (to.0 ++ back.0) (record {
            some = some to.0 back.0 to.1 apart;
            walk = walk_then (steps_at edges k) s to.0 r back.0 s to.1 back.1;
          }))

  -- ---- walks within what they come back to

  module _ (has : ℕ → Bool) where
    pub freed : (a : ℕ) (over : List ℕ) (b : ℕ) → Walk (steps_of has edges k) a over b → Walk (steps_at edges k) a over b
    freed a [] b w = w
    freed a (q ∷ over) b w =
        let h = step_of has a q w.0 in (
          in_steps (λ s. true) a q (record {
            edge = h.edge;
            among = h.among;
            from = h.from;
            to = h.to;
            work = h.work;
            own = h.own;
            start = refl;
            end = refl;
          }),
          freed q over b w.1,
        )

    module _ (s : ℕ) (all : (q : ℕ) → flat.IsJoined (leads edges) k s q → has q ≡ true) where
      abbrev Free : ℕ → ℕ → Type 0
      Free a b = flat.ReachesFlat (leads edges) k (λ q. Unit {0}) a b

      free_more : (a : ℕ) (us : List ℕ) (b c : ℕ) → flat.IsFlatWalk (leads edges) k (λ q. Unit {0}) a us b → leads edges k b c ≡ true → Free a c
      free_more a [] b c w h = (c ∷ [], (subst (λ z. leads edges k z c ≡ true) (sym w) h, tt, refl))
      free_more a (u ∷ us) b c w h = let m = free_more u us b c w.2 h in (u ∷ m.0, (w.0, tt, m.1))

      kept : (a : ℕ) (over : List ℕ) → Free s a → has a ≡ true → Walk (steps_at edges k) a over s → Walk (steps_of has edges k) a over s
      kept a [] to start w = w
      kept a (q ∷ over) to start w =
          let h = step_of (λ s. true) a q w.0 in
          let there = free_more s to.0 a q to.1 (step_leads (λ s. true) a q h) in
          let end = all q (there, (over, to_free (λ s. true) q over s w.1)) in (
            in_steps has a q (record {
              edge = h.edge;
              among = h.among;
              from = h.from;
              to = h.to;
              work = h.work;
              own = h.own;
              start = start;
              end = end;
            }),
            kept q over there end w.1,
          )

      pub closed_within : (over : List ℕ) → IsClosedWalk (steps_at edges k) s over → IsClosedWalk (steps_of has edges k) s over
      closed_within over h = record { some = h.some; walk = kept s over ([], refl) (all s (([], refl), ([], refl))) h.walk }

      pub closed_free : (over : List ℕ) → IsClosedWalk (steps_of has edges k) s over → IsClosedWalk (steps_at edges k) s over
      closed_free over h = record { some = h.some; walk = freed s over s h.walk }

      pub least_free : (over : List ℕ) → IsLeastClosedWalk (steps_of has edges k) s over → IsLeastClosedWalk (steps_at edges k) s over
      least_free over h = record {
        closed = closed_free over h.closed;
        shortest = λ others c. h.shortest others (closed_within others c);
        least = λ others c e. h.least others (closed_within others c) e;
      }

-- a step leads to a statement of the nest
pub step_within : (n : Nest) (edges : List Edge) (k : ℕ) (has : ℕ → Bool) (a b : ℕ) → AreEdgesOf n edges → IsMember (a, b) (steps_of has edges k) → b < length (nest_statements n)
step_within n edges k has a b legal i =
    let h = step_of edges k has a b i in
    subst (λ z. z < length (nest_statements n)) h.to (in_all (IsEdgeOf n) edges legal h.edge h.among).to

-- ---- components level by level, and at once

module _ (edges : List Edge) where
  walk_as : (k : ℕ) (Has Other : ℕ → Type 0) → ((q : ℕ) → Has q → Other q) → (s : ℕ) (qs : List ℕ) (r : ℕ) → flat.IsFlatWalk (leads edges) k Has s qs r
      → marks.IsWalk edges k Other s qs r
  walk_as k Has Other f s [] r w = w
  walk_as k Has Other f s (q ∷ qs) r w = (w.0, f q w.1, walk_as k Has Other f q qs r w.2)

  with_as : (k s r : ℕ) → flat.IsWith (leads edges) k s r → marks.IsWith edges k s r
  with_as zero s r h = tt
  with_as (suc k) s r h = (
    (h.0.0, walk_as (suc k) (flat.IsWith (leads edges) k s) (marks.IsWith edges k s) (with_as k s) s h.0.0 r h.0.1),
    (h.1.0, walk_as (suc k) (flat.IsWith (leads edges) k s) (marks.IsWith edges k s) (with_as k s) r h.1.0 s h.1.1),
  )

  outer : (k s r : ℕ) → leads edges (suc k) s r ≡ true → leads edges k s r ≡ true
  outer k s r h =
      let m = any_in (joins (suc k) s r) edges h in
      let e = m.0 in
      let it = joined (suc k) s r e m.2 in
      in_any (joins k s r) edges e m.1 (joining k s r e it.from it.to (at_work e.level it.at_work))
    where
      at_work : (level : ℕ) → is_at_work (suc k) level ≡ true → is_at_work k level ≡ true
      at_work level w = by (or_cases (level == 0) (nat_le (suc k) level) w)
        where
          by : ((level == 0) ≡ true) ⊎ (nat_le (suc k) level ≡ true) → ((level == 0) || nat_le k level) ≡ true
          by (inl z) = or_left (level == 0) (nat_le k level) z
          by (inr g) = let f : suc k ≤ level = leb-true (suc k) level g in or_right (level == 0) (nat_le k level) (le-leb k level (omega arith))

  -- what closed walks of all dependences at work join to a statement is in its component
  pub joined_with : (k s r : ℕ) → flat.IsJoined (leads edges) (suc k) s r → marks.IsWith edges (suc k) s r
  joined_with k s r h = with_as (suc k) s r ((nested_is_flat (leads edges) outer k s r).1 h)

  as_walk : (k : ℕ) (Has Other : ℕ → Type 0) → ((q : ℕ) → Has q → Other q) → (s : ℕ) (qs : List ℕ) (r : ℕ) → marks.IsWalk edges k Has s qs r
      → flat.IsFlatWalk (leads edges) k Other s qs r
  as_walk k Has Other f s [] r w = w
  as_walk k Has Other f s (q ∷ qs) r w = (w.0, f q w.1, as_walk k Has Other f q qs r w.2)

  pub with_joined : (k s r : ℕ) → marks.IsWith edges (suc k) s r → flat.IsJoined (leads edges) (suc k) s r
  with_joined k s r h = (
    (h.0.0, as_walk (suc k) (marks.IsWith edges k s) (λ q. Unit {0}) (λ q g. tt) s h.0.0 r h.0.1),
    (h.1.0, as_walk (suc k) (marks.IsWith edges k s) (λ q. Unit {0}) (λ q g. tt) r h.1.0 s h.1.1),
  )
