-- The classes of a part at a level: a class is one statement, or one of its statements stands in a loop of the level.
-- Who comes back to a statement has gone along an edge that this loop or an inner one carries, since all others lead
-- forward in the text.
use Rattle.std.proofs.Common.{◌≡◌, ◌⊎◌, inl, inr, refl, sym, ap, subst, ℕ, suc, ◌<◌, ◌≤◌, ◌==◌, Bool, true, false, cond, ◌||◌, List, [], ◌∷◌, length, get_or, map, arith}
use Rattle.std.specs.Prelude.{All, nat_le, slice_index}
use Rattle.std.proofs.lemmas.Bool.{leb-true}
use Rattle.std.proofs.lemmas.Bool.Decides.{Decides-eqb}
use Rattle.components.specs.Emission.{statements_of_classes}
use Rattle.components.specs.Lists.{IsMember, Each, Distinct}
use Rattle.components.specs.Orders.{IsComponent, IsOrder}
use Rattle.components.specs.Reachability.{AreMutual, Reaches, Walk}
use Rattle.dependence_graph.specs.declared.graphs.Edge.{Edge}
use Rattle.components.proofs.ClassLaws.{In-concat}
use Rattle.components.proofs.ListLaws.{Each-In}
use Rattle.components.proofs.Walks.{Reaches-trans}
use Rattle.emission.specs.emission_pieces.Levels.{AreComponents, ArePairsAt, is_at_work, joins}
use Rattle.emission.specs.emission_pieces.Nests.{loops_at}
use Rattle.emission.specs.emission_pieces.Edges.{AreEdgesOf, IsEdgeOf, common_of}
use Rattle.emission.proofs.EmissionPieces.Lists.{any_in}
use Rattle.nest.specs.Bodies.{nest_statements}
use Rattle.nest.specs.Plain.{Loop, Nest}
use Rattle.emission.specs.nest_emission.Given.{AreInside, HasLoop, IsClass}
use Rattle.emission.proofs.nest_emission.Lists.{all_in, distinct_class, get_in, in_all, in_map, map_in, same_place}
use Rattle.emission.proofs.nest_emission.PairLaws.{joined}

common_first : (ls ms : List Loop) → common_of ls ms ≤ length ls
common_first [] ms = omega arith
common_first (l ∷ ls) [] = omega arith
common_first (l ∷ ls) (m ∷ ms) = by (l.number == m.number) (common_first ls ms)
  where
    by : (b : Bool) → common_of ls ms ≤ length ls → cond b (suc (common_of ls ms)) 0 ≤ suc (length ls)
    by true e = omega arith
    by false e = omega arith

-- an edge at work leads forward in the text, or from a statement in a loop of the level
edge_leads : (n : Nest) (e : Edge) (k : ℕ) → IsEdgeOf n e → is_at_work k e.level ≡ true
    → (e.from.stmt < e.to.stmt) ⊎ (k ≤ length (loops_at n e.from.stmt))
edge_leads n e k h w = by (e.level == 0) refl w
  where
    by : (b : Bool) → (e.level == 0) ≡ b → (b || nat_le k e.level) ≡ true → (e.from.stmt < e.to.stmt) ⊎ (k ≤ length (loops_at n e.from.stmt))
    by true z g = inl (h.forward ((Decides-eqb e.level 0).0 z))
    by false z g =
        let deep : k ≤ e.level = leb-true k e.level g in
        let carried : e.level ≤ common_of (loops_at n e.from.stmt) (loops_at n e.to.stmt) = h.carried in
        let first = common_first (loops_at n e.from.stmt) (loops_at n e.to.stmt) in
        inr (omega arith)

module _ (n : Nest) (edges : List Edge) (legal : AreEdgesOf n edges) (k : ℕ) (part : List ℕ) (pairs : List (ℕ × ℕ)) (paired : ArePairsAt edges k part pairs) where
  abbrev at : ℕ → ℕ
  at i = get_or part i 0

  abbrev Deep : ℕ → Type 0
  Deep i = k ≤ length (loops_at n (at i))

  step : (i j : ℕ) → IsMember (i, j) pairs → (at i < at j) ⊎ Deep i
  step i j m =
      let g = (paired i j).0 m in
      let w = any_in (joins k (at i) (at j)) edges g.2 in
      let e = w.0 in
      let it = joined k (at i) (at j) e w.2 in
      subst (λ s. (s < at j) ⊎ (k ≤ length (loops_at n s))) it.from
      (subst (λ r. (e.from.stmt < r) ⊎ (k ≤ length (loops_at n e.from.stmt))) it.to (edge_leads n e k (in_all (IsEdgeOf n) edges legal e w.1) it.at_work))

  -- a walk leads forward, or over a place whose statement stands in such a loop
  abbrev Meets : ℕ → ℕ → Type 0
  Meets a b = (x : ℕ) × Reaches pairs a x × Reaches pairs x b × Deep x

  along : (over : List ℕ) (a b : ℕ) → Walk pairs a over b → (at a ≤ at b) ⊎ Meets a b
  along [] a b h = inl (let e : at a ≡ at b = ap at h in omega arith)
  along (q ∷ over) a b h = by (step a q h.0) (along over q b h.1)
    where
      by : (at a < at q) ⊎ Deep a → (at q ≤ at b) ⊎ Meets q b → (at a ≤ at b) ⊎ Meets a b
      by (inr deep) m = inr (a, ([], refl), (q ∷ over, h), deep)
      by (inl less) (inl le) = inl (omega arith)
      by (inl less) (inr m) = inr (m.0, (q ∷ m.1.0, (h.0, m.1.1)), m.2, m.3)

  onward : (over : List ℕ) (a b : ℕ) → Walk pairs a over b → (a ≡ b) ⊎ ((at a < at b) ⊎ Meets a b)
  onward [] a b h = inl h
  onward (q ∷ over) a b h = inr (by (step a q h.0) (along over q b h.1))
    where
      by : (at a < at q) ⊎ Deep a → (at q ≤ at b) ⊎ Meets q b → (at a < at b) ⊎ Meets a b
      by (inr deep) m = inr (a, ([], refl), (q ∷ over, h), deep)
      by (inl less) (inl le) = inl (omega arith)
      by (inl less) (inr m) = inr (m.0, (q ∷ m.1.0, (h.0, m.1.1)), m.2, m.3)

  -- so one that comes back leads over such a place
  deep_member : (i j : ℕ) → ¬ (i ≡ j) → AreMutual pairs i j → (x : ℕ) × AreMutual pairs i x × Deep x
  deep_member i j other h = by (onward h.0.0 i j h.0.1) (onward h.1.0 j i h.1.1)
    where
      by : (i ≡ j) ⊎ ((at i < at j) ⊎ Meets i j) → (j ≡ i) ⊎ ((at j < at i) ⊎ Meets j i) → (x : ℕ) × AreMutual pairs i x × Deep x
      by (inl e) back = absurd (other e)
      by (inr (inr m)) back = (m.0, (m.1, Reaches-trans pairs m.0 j i m.2 h.1), m.3)
      by (inr (inl less)) (inl e) = absurd (other (sym e))
      by (inr (inl less)) (inr (inl more)) = absurd (omega arith)
      by (inr (inl less)) (inr (inr m)) = (m.0, (Reaches-trans pairs i j m.0 h.0 m.1, m.2), m.3)

  -- ---- one class, by the places of its statements

  loop_of_class : (c : List ℕ) → ¬ (c ≡ []) → Distinct c → IsComponent pairs c → ((s : ℕ) × (map at c ≡ s ∷ [])) ⊎ HasLoop n k (map at c)
  loop_of_class [] filled once whole = absurd (filled refl)
  loop_of_class (i ∷ []) filled once whole = inl (at i, refl)
  loop_of_class (i ∷ j ∷ rest) filled once whole =
      let m = deep_member i j once.0.0 ((whole i j (inl refl)).0 (inr (inl refl))) in
      inr (at m.0, in_map at (i ∷ j ∷ rest) m.0 ((whole i m.0 (inl refl)).1 m.1), m.2)

  distinct_at : (c : List ℕ) → ((i : ℕ) → IsMember i c → i < length part) → Distinct part → Distinct c → Distinct (map at c)
  distinct_at [] below once d = tt
  distinct_at (i ∷ c) below once d = (each c (λ j m. below j (inr m)) d.0, distinct_at c (λ j m. below j (inr m)) once d.1)
    where
      each : (c : List ℕ) → ((j : ℕ) → IsMember j c → j < length part) → Each (λ y. ¬ (i ≡ y)) c → Each (λ y. ¬ (at i ≡ y)) (map at c)
      each [] b g = tt
      each (j ∷ c) b g = ((λ e. g.0 (same_place part once i j (below i (inl refl)) (b j (inl refl)) e)), each c (λ x m. b x (inr m)) g.1)

  of_places : (places : List (List ℕ)) → IsOrder (length part) pairs places → Distinct part → AreInside n part → (c : List ℕ) → IsMember c places → IsClass n k (map at c)
  of_places places order once inside c i = record {
    once = distinct_at c (λ j m. (order.members j).0 (In-concat j c places i m)) once (distinct_class c places i order.once);
    inside = all_in (λ s. s < length (nest_statements n)) (map at c) (λ s m. there s (map_in at c s m));
    loop = loop_of_class c (Each-In (λ c. ¬ (c ≡ [])) places order.filled c i) (distinct_class c places i order.once) (Each-In (IsComponent pairs) places order.components c i);
  }
    where
      there : (s : ℕ) → (j : ℕ) × IsMember j c × (s ≡ at j) → s < length (nest_statements n)
      there s m = subst (λ z. z < length (nest_statements n)) (sym m.2)
          (in_all (λ z. z < length (nest_statements n)) part inside (at m.0) (get_in part m.0 0 ((order.members m.0).0 (In-concat m.0 c places i m.1))))

pub classes_are : (n : Nest) (edges : List Edge) (k : ℕ) (part : List ℕ) (classes : List (List ℕ)) → AreEdgesOf n edges → Distinct part → AreInside n part
    → AreComponents edges k part classes → All (IsClass n k) classes
classes_are n edges k part classes legal once inside h = subst (All (IsClass n k)) (sym h.statements) (all_in (IsClass n k) (statements_of_classes part h.places) is_class)
  where
    is_class : (c : List ℕ) → IsMember c (statements_of_classes part h.places) → IsClass n k c
    is_class c i =
        let m = map_in (map (slice_index part)) h.places c i in
        subst (IsClass n k) (sym m.2) (of_places n edges legal k part h.pairs h.paired h.places h.order once inside m.0 m.1)
