-- The pairs of the places of a part's statements.
use Rattle.std.proofs.Common.{◌≡◌, ◌⊎◌, inl, inr, sym, ap, subst, ◌∙◌, ℕ, ◌+◌, ◌<◌, ◌==◌, true, ◌&&◌, ◌||◌, List, [], ◌∷◌, ◌++◌, length, get_or, take}
use mathlib.Core.Path.{ap₂}
use Rattle.std.specs.Prelude.{slice_index}
use Rattle.std.proofs.lemmas.Bool.{and_parts, or_cases, or_left, or_right}
use Rattle.std.proofs.lemmas.Bool.Decides.{Decides-eqb}
use Rattle.std.proofs.lemmas.List.Folds.{list_any_more}
use Rattle.components.specs.Lists.{IsMember, Distinct}
use Rattle.components.specs.Reachability.{AreBelow}
use Rattle.dependence_graph.specs.declared.graphs.Edge.{Edge}
use Rattle.components.proofs.ListLaws.{Each-from, In-append, In-left, In-right}
use Rattle.emission.specs.emission_pieces.Levels.{ArePairsAt, is_at_work, joins, leads}
use Rattle.emission.specs.nest_emission.Pairs.{AddsPairOf}
use Rattle.emission.proofs.nest_emission.Lists.{same_place}

-- ---- what an edge joins

pub record Joined (k s r : ℕ) (e : Edge) : Type 0 where
  pub from : e.from.stmt ≡ s
  pub to : e.to.stmt ≡ r
  pub at_work : is_at_work k e.level ≡ true

pub joined : (k s r : ℕ) (e : Edge) → joins k s r e ≡ true → Joined k s r e
joined k s r e h =
    let a = and_parts (e.from.stmt == s) ((e.to.stmt == r) && is_at_work k e.level) h in
    let b = and_parts (e.to.stmt == r) (is_at_work k e.level) a.1 in
    record { from = (Decides-eqb e.from.stmt s).0 a.0; to = (Decides-eqb e.to.stmt r).0 b.0; at_work = b.1 }

pub joining : (k s r : ℕ) (e : Edge) → e.from.stmt ≡ s → e.to.stmt ≡ r → is_at_work k e.level ≡ true → joins k s r e ≡ true
joining k s r e f t w =
    ap₂ (λ a b. a && (b && is_at_work k e.level)) ((Decides-eqb e.from.stmt s).1 f) ((Decides-eqb e.to.stmt r).1 t) ∙ w

-- ---- one edge

module _ (k : ℕ) (part : List ℕ) (e : Edge) (old : List (ℕ × ℕ)) where
  pub both_found : (new : List (ℕ × ℕ)) (from to : ℕ) → Distinct part → is_at_work k e.level ≡ true
      → from < length part → slice_index part from ≡ e.from.stmt → to < length part → slice_index part to ≡ e.to.stmt
      → new ≡ old ++ (from, to) ∷ [] → AddsPairOf k part e old new
  both_found new from to once w f f-is t t-is n i j = (forth, back)
    where
      forth : IsMember (i, j) new → IsMember (i, j) old ⊎ ((i < length part) × (j < length part) × (joins k (slice_index part i) (slice_index part j) e ≡ true))
      forth m = by (In-append (i, j) old ((from, to) ∷ []) (subst (IsMember (i, j)) n m))
        where
          by : IsMember (i, j) old ⊎ IsMember {X = ℕ × ℕ} (i, j) ((from, to) ∷ [])
              → IsMember (i, j) old ⊎ ((i < length part) × (j < length part) × (joins k (slice_index part i) (slice_index part j) e ≡ true))
          by (inl o) = inl o
          by (inr (inl g)) =
              let i-is : i ≡ from = ap (λ (p : ℕ × ℕ). p.0) g in
              let j-is : j ≡ to = ap (λ (p : ℕ × ℕ). p.1) g in
              inr (
                subst (λ z. z < length part) (sym i-is) f,
                subst (λ z. z < length part) (sym j-is) t,
                joining k (slice_index part i) (slice_index part j) e (sym f-is ∙ ap (slice_index part) (sym i-is)) (sym t-is ∙ ap (slice_index part) (sym j-is)) w,
              )
          by (inr (inr g)) = absurd g

      back : IsMember (i, j) old ⊎ ((i < length part) × (j < length part) × (joins k (slice_index part i) (slice_index part j) e ≡ true)) → IsMember (i, j) new
      back (inl o) = subst (IsMember (i, j)) (sym n) (In-left (i, j) old ((from, to) ∷ []) o)
      back (inr g) =
          let it = joined k (slice_index part i) (slice_index part j) e g.2 in
          let i-is : i ≡ from = same_place part once i from g.0 f (sym it.from ∙ sym f-is) in
          let j-is : j ≡ to = same_place part once j to g.1 t (sym it.to ∙ sym t-is) in
          subst (IsMember (i, j)) (sym n) (In-right (i, j) old ((from, to) ∷ []) (inl (ap₂ (λ (a b : ℕ). let p : ℕ × ℕ = (a, b) in p) i-is j-is)))

-- ---- all edges

pub pairs_more : (edges : List Edge) (n : ℕ) (e : Edge) (k : ℕ) (part : List ℕ) (old new : List (ℕ × ℕ)) → n < length edges → e ≡ get_or edges n e
    → ArePairsAt (take n edges) k part old → AddsPairOf k part e old new → ArePairsAt (take (n + 1) edges) k part new
pairs_more edges n e k part old new inside is h adds i j = ((λ m. forth ((adds i j).0 m)), back)
  where
    more : leads (take (n + 1) edges) k (slice_index part i) (slice_index part j)
        ≡ (leads (take n edges) k (slice_index part i) (slice_index part j) || joins k (slice_index part i) (slice_index part j) e)
    more =
        list_any_more (joins k (slice_index part i) (slice_index part j)) edges n e inside
        ∙ ap (λ (z : Edge). leads (take n edges) k (slice_index part i) (slice_index part j) || joins k (slice_index part i) (slice_index part j) z) (sym is)

    forth : IsMember (i, j) old ⊎ ((i < length part) × (j < length part) × (joins k (slice_index part i) (slice_index part j) e ≡ true))
        → (i < length part) × (j < length part) × (leads (take (n + 1) edges) k (slice_index part i) (slice_index part j) ≡ true)
    forth (inl o) =
        let g = (h i j).0 o in
        (g.0, g.1, more ∙ or_left (leads (take n edges) k (slice_index part i) (slice_index part j)) (joins k (slice_index part i) (slice_index part j) e) g.2)
    forth (inr g) =
        (g.0, g.1, more ∙ or_right (leads (take n edges) k (slice_index part i) (slice_index part j)) (joins k (slice_index part i) (slice_index part j) e) g.2)

    back : (i < length part) × (j < length part) × (leads (take (n + 1) edges) k (slice_index part i) (slice_index part j) ≡ true) → IsMember (i, j) new
    back g = by (or_cases (leads (take n edges) k (slice_index part i) (slice_index part j)) (joins k (slice_index part i) (slice_index part j) e) (sym more ∙ g.2))
      where
        by : (leads (take n edges) k (slice_index part i) (slice_index part j) ≡ true) ⊎ (joins k (slice_index part i) (slice_index part j) e ≡ true) → IsMember (i, j) new
        by (inl l) = (adds i j).1 (inl ((h i j).1 (g.0, g.1, l)))
        by (inr l) = (adds i j).1 (inr (g.0, g.1, l))

-- both places of each pair are places of the part
pub pairs_below : (edges : List Edge) (k : ℕ) (part : List ℕ) (pairs : List (ℕ × ℕ)) → ArePairsAt edges k part pairs → AreBelow (length part) pairs
pairs_below edges k part pairs h =
    Each-from (λ (p : ℕ × ℕ). (p.0 < length part) × (p.1 < length part)) pairs (λ p i. (let g = (h p.0 p.1).0 i in (g.0, g.1)))
