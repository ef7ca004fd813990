-- The components of a part of a nest are the statements that walks lead to and from.
use Rattle.std.proofs.Common.{◌≡◌, refl, sym, ap, subst, ◌∙◌, ℕ, zero, suc, ◌+◌, ◌<◌, true, List, [], ◌∷◌, length}
use Rattle.std.proofs.Common.{map, arith}
use Rattle.std.specs.Prelude.{slice_index}
use Rattle.components.specs.Lists.{IsMember, Distinct}
use Rattle.components.specs.Orders.{IsComponent}
use Rattle.components.specs.Reachability.{Reaches as ReachesPlace, Walk}
use Rattle.dependence_graph.specs.declared.graphs.Edge.{Edge}
use Rattle.components.proofs.ClassLaws.{In-concat}
use Rattle.components.proofs.ListLaws.{Each-In}
use Rattle.components.proofs.Places.{Distinct-get_or, In-get_or, In-map, get_or-In, map-In}
use Rattle.emission.specs.emission_pieces.Levels.{AreComponents, ArePairsAt, leads}
use Rattle.emission.specs.emission_marks.Components.{IsWalk, IsWith, ReachesInLevel}

-- ---- levels

pub with_itself : (edges : List Edge) (k s : ℕ) → IsWith edges k s s
with_itself edges zero s = tt
with_itself edges (suc k) s = (([], refl), ([], refl))

-- a component lies in that of the level before
pub with_before : (edges : List Edge) (k s r : ℕ) → IsWith edges (suc k) s r → IsWith edges k s r
with_before edges k s r h = last h.0.0 s (with_itself edges k s) h.0.1
  where
    last : (qs : List ℕ) (q : ℕ) → IsWith edges k s q → IsWalk edges (suc k) (IsWith edges k s) q qs r
        → IsWith edges k s r
    last [] q i w = subst (IsWith edges k s) w i
    last (p ∷ qs) q i w = last qs p w.1 w.2

pub with_above : (edges : List Edge) (k j s r : ℕ) → IsWith edges (k + j) s r → IsWith edges k s r
with_above edges k zero s r h = subst (λ m. IsWith edges m s r) (let e : k + 0 ≡ k = omega arith in e) h
with_above edges k (suc j) s r h =
    with_above edges k j s r (with_before edges (k + j) s r
    (subst (λ m. IsWith edges m s r) (let e : k + suc j ≡ suc (k + j) = omega arith in e) h))

-- ---- places of a part

-- Has: what the statements of the part have
module _ (edges : List Edge) (k : ℕ) (part : List ℕ) (pairs : List (ℕ × ℕ)) (paired : ArePairsAt edges k part pairs)
    (Has : ℕ → Type 0) where
  abbrev at : ℕ → ℕ
  at i = slice_index part i

  over_statements : ((q : ℕ) → IsMember q part → Has q) → (over : List ℕ) (i j : ℕ) → Walk pairs i over j
      → IsWalk edges k Has (at i) (map at over) (at j)
  over_statements has [] i j w = ap at w
  over_statements has (q ∷ over) i j w =
      let p = (paired i q).0 w.0 in (p.2, has (at q) (get_or-In part q p.1), over_statements has over q j w.1)

  -- a place of r that is reached from the place i
  record EndsAt (i r : ℕ) : Type 0 where
    place : ℕ
    within : place < length part
    there : r ≡ at place
    reached : ReachesPlace pairs i place

  over_places : ((p q : ℕ) → leads edges k p q ≡ true → Has q → IsMember q part) → (qs : List ℕ) (i r : ℕ) → i < length part
      → IsWalk edges k Has (at i) qs r → EndsAt i r
  over_places inside [] i r h w = record { place = i; within = h; there = sym w; reached = ([], refl) }
  over_places inside (q ∷ qs) i r h w =
      by (In-get_or part q (inside (at i) q w.0 w.1)) (λ j g v. over_places inside qs j r g v)
    where
      by : (j : ℕ) × (j < length part) × (q ≡ at j)
          → ((j : ℕ) → j < length part → IsWalk edges k Has (at j) qs r → EndsAt j r) → EndsAt i r
      by j more =
          let e = more j.0 j.1 (subst (λ z. IsWalk edges k Has z qs r) j.2 w.2) in
          let step = (paired i j.0).1 (h, j.1, subst (λ z. leads edges k (at i) z ≡ true) j.2 w.0) in
          record {
            place = e.place;
            within = e.within;
            there = e.there;
            reached = (j.0 ∷ e.reached.0, (step, e.reached.1));
          }

-- ---- components of a part

module _ (edges : List Edge) (k : ℕ) (part : List ℕ) (classes : List (List ℕ))
    (given : AreComponents edges k part classes) (c : List ℕ) (is_class : IsMember c classes) (Has : ℕ → Type 0) where
  -- the places of the class
  placed : (places : List ℕ) × IsMember places given.places × (c ≡ map (slice_index part) places)
  placed = map-In (map (slice_index part)) given.places c (subst (IsMember c) given.statements is_class)

  within : (i : ℕ) → IsMember i placed.0 → i < length part
  within i j = (given.order.members i).0 (In-concat i placed.0 given.places placed.1 j)

  place_of : (s : ℕ) → IsMember s c → (i : ℕ) × IsMember i placed.0 × (s ≡ slice_index part i)
  place_of s i = map-In (slice_index part) placed.0 s (subst (IsMember s) placed.2 i)

  is_component : IsComponent given.pairs placed.0
  is_component = Each-In (IsComponent given.pairs) given.places given.order.components placed.0 placed.1

  pub walks_of_class : ((q : ℕ) → IsMember q part → Has q) → (s r : ℕ) → IsMember s c → IsMember r c → ReachesInLevel edges k Has s r
  walks_of_class has s r i j =
      let a = place_of s i in
      let b = place_of r j in
      let walk = ((is_component a.0 b.0 a.1).0 b.1).0 in
      let over = map (slice_index part) walk.0 in (
        over,
        subst (λ z. IsWalk edges k Has z over r) (sym a.2)
            (subst (IsWalk edges k Has (slice_index part a.0) over) (sym b.2)
            (over_statements edges k part given.pairs given.paired Has has walk.0 a.0 b.0 walk.1)),
      )

  pub class_of_walks : Distinct part → ((p q : ℕ) → leads edges k p q ≡ true → Has q → IsMember q part)
      → (s r : ℕ) → IsMember s c → ReachesInLevel edges k Has s r → ReachesInLevel edges k Has r s → IsMember r c
  class_of_walks once inside s r i to back =
      let a = place_of s i in
      let low = within a.0 a.1 in
      let ahead = over_places edges k part given.pairs given.paired Has inside to.0 a.0 r low
      (subst (λ z. IsWalk edges k Has z to.0 r) a.2 to.1) in
      let home = over_places edges k part given.pairs given.paired Has inside back.0 ahead.place s ahead.within
      (subst (λ z. IsWalk edges k Has z back.0 s) ahead.there back.1) in
      let same = Distinct-get_or part once home.place a.0 home.within low (sym home.there ∙ a.2) in
      let returns = subst (ReachesPlace given.pairs ahead.place) same home.reached in
      let there : IsMember ahead.place placed.0 = (is_component a.0 ahead.place a.1).1 (ahead.reached, returns) in
      subst (λ z. IsMember z c) (sym ahead.there)
      (subst (IsMember (slice_index part ahead.place)) (sym placed.2) (In-map (slice_index part) placed.0 ahead.place there))
