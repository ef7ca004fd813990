-- Causes ask of edges for their statements, kinds and levels alone.
use Rattle.std.proofs.Common.{◌≡◌, ◌⊎◌, inl, inr, refl, sym, ap, subst, ◌∙◌, ℕ, zero, suc, Bool, true, false, cond, ◌||◌, List, [], ◌∷◌, map, All}
use Rattle.std.specs.Prelude.{filter}
use Rattle.std.specs.List.{list_any}
use Rattle.std.proofs.lemmas.List.Elements.{All-map}
use Rattle.closed_walks.specs.FlatComponents as flat
use Rattle.closed_walks.specs.Walks.{IsClosedWalk, IsLeastClosedWalk}
use Rattle.dependence_graph.specs.declared.graphs.Cycle.{Cycle}
use Rattle.dependence_graph.specs.declared.graphs.Edge.{Edge}
use Rattle.dependence_graph.specs.declared.graphs.Hold.{Hold}
use Rattle.nest.specs.Plain.{Nest}
use Rattle.emission.specs.emission_causes.Causes.{HasCycle, HaveCauses, IsHeldThere, StandsInLoop, steps_at}
use Rattle.emission.specs.emission_marks.Components as marks
use Rattle.emission.specs.emission_marks.Components.{IsAloneAt}
use Rattle.emission.specs.emission_pieces.Cycles.{is_step, steps_of}
use Rattle.emission.specs.emission_pieces.Levels.{is_own, joins, leads}
use Rattle.listing.proofs.programs.ListedParts.{as_listed}

abbrev pair_of : Edge → ℕ × ℕ
pair_of e = (e.from.stmt, e.to.stmt)

module _ (edges : List Edge) where
  abbrev bare : List Edge
  bare = map as_listed edges

  same_any : (test : Edge → Bool) → ((e : Edge) → test (as_listed e) ≡ test e) → (es : List Edge) → list_any test (map as_listed es) ≡ list_any test es
  same_any test same [] = refl
  same_any test same (e ∷ es) = (λ i. same e i || same_any test same es i)

  same_leads : (k s r : ℕ) → leads bare k s r ≡ leads edges k s r
  same_leads k s r = same_any (joins k s r) (λ e. refl) edges

  same_steps_in : (k : ℕ) (es : List Edge) → steps_of (λ s. true) (map as_listed es) k ≡ steps_of (λ s. true) es k
  same_steps_in k [] = refl
  same_steps_in k (e ∷ es) = by (is_step (λ s. true) k e) (same_steps_in k es)
    where
      by : (b : Bool) → steps_of (λ s. true) (map as_listed es) k ≡ steps_of (λ s. true) es k
          → map pair_of (cond b (as_listed e ∷ filter (is_step (λ s. true) k) (map as_listed es)) (filter (is_step (λ s. true) k) (map as_listed es)))
          ≡ map pair_of (cond b (e ∷ filter (is_step (λ s. true) k) es) (filter (is_step (λ s. true) k) es))
      by true h = ap (λ us. pair_of e ∷ us) h
      by false h = h

  same_steps : (k : ℕ) → steps_at bare k ≡ steps_at edges k
  same_steps k = same_steps_in k edges

  -- ---- walks

  flat_walk : (k s : ℕ) (qs : List ℕ) (r : ℕ) → flat.IsFlatWalk (leads bare) k (λ q. Unit {0}) s qs r → flat.IsFlatWalk (leads edges) k (λ q. Unit {0}) s qs r
  flat_walk k s [] r w = w
  flat_walk k s (q ∷ qs) r w = (sym (same_leads k s q) ∙ w.0, tt, flat_walk k q qs r w.2)

  joined : (k s r : ℕ) → flat.IsJoined (leads bare) k s r → flat.IsJoined (leads edges) k s r
  joined k s r h = ((h.0.0, flat_walk k s h.0.0 r h.0.1), (h.1.0, flat_walk k r h.1.0 s h.1.1))

  walk : (k : ℕ) (Has Other : ℕ → Type 0) → ((q : ℕ) → Has q → Other q) → (s : ℕ) (qs : List ℕ) (r : ℕ) → marks.IsWalk edges k Has s qs r
      → marks.IsWalk bare k Other s qs r
  walk k Has Other f s [] r w = w
  walk k Has Other f s (q ∷ qs) r w = (same_leads k s q ∙ w.0, f q w.1, walk k Has Other f q qs r w.2)

  with_bare : (k s r : ℕ) → marks.IsWith edges k s r → marks.IsWith bare k s r
  with_bare zero s r h = tt
  with_bare (suc k) s r h = (
    (h.0.0, walk (suc k) (marks.IsWith edges k s) (marks.IsWith bare k s) (with_bare k s) s h.0.0 r h.0.1),
    (h.1.0, walk (suc k) (marks.IsWith edges k s) (marks.IsWith bare k s) (with_bare k s) r h.1.0 s h.1.1),
  )

  walk_back : (k : ℕ) (Has Other : ℕ → Type 0) → ((q : ℕ) → Has q → Other q) → (s : ℕ) (qs : List ℕ) (r : ℕ) → marks.IsWalk bare k Has s qs r
      → marks.IsWalk edges k Other s qs r
  walk_back k Has Other f s [] r w = w
  walk_back k Has Other f s (q ∷ qs) r w = (sym (same_leads k s q) ∙ w.0, f q w.1, walk_back k Has Other f q qs r w.2)

  bare_with : (k s r : ℕ) → marks.IsWith bare k s r → marks.IsWith edges k s r
  bare_with zero s r h = tt
  bare_with (suc k) s r h = (
    (h.0.0, walk_back (suc k) (marks.IsWith bare k s) (marks.IsWith edges k s) (bare_with k s) s h.0.0 r h.0.1),
    (h.1.0, walk_back (suc k) (marks.IsWith bare k s) (marks.IsWith edges k s) (bare_with k s) r h.1.0 s h.1.1),
  )

  module _ (n : Nest) (holds : List Hold) where
    alone_bare : (s k : ℕ) → IsAloneAt n edges holds s k → IsAloneAt n bare holds s k
    alone_bare s k h = record {
      first = h.first;
      last = h.last;
      alone = λ r w. h.alone r (bare_with k s r w);
      free = All-map (λ (e : Edge). is_own k s e ≡ false) as_listed edges h.free;
      held = h.held;
    }

    stands : (s k : ℕ) → StandsInLoop n bare holds s k → StandsInLoop n edges holds s k
    stands s k h = record { inside = h.inside; first = h.first; last = h.last; never = λ j le a. h.never j le (alone_bare s j a) }

    cycle : (cs : List Cycle) (s k : ℕ) → HasCycle edges cs s k → HasCycle bare cs s k
    cycle cs s k h = record {
      over = h.over;
      least = subst (λ (pairs : List (ℕ × ℕ)). IsLeastClosedWalk pairs s h.over) (sym (same_steps k)) h.least;
      among = h.among;
    }

    either : (cs : List Cycle) (s k : ℕ) → HasCycle edges cs s k ⊎ IsHeldThere edges holds s k → HasCycle bare cs s k ⊎ IsHeldThere bare holds s k
    either cs s k (inl h) = inl (cycle cs s k h)
    either cs s k (inr h) = inr (record { by_itself = λ r j. h.by_itself r (joined k s r j); held = h.held })

    bare_alone : (s k : ℕ) → IsAloneAt n bare holds s k → IsAloneAt n edges holds s k
    bare_alone s k h = record {
      first = h.first;
      last = h.last;
      alone = λ r w. h.alone r (with_bare k s r w);
      free = unmapped edges h.free;
      held = h.held;
    }
      where
        unmapped : (es : List Edge) → All (λ (e : Edge). is_own k s e ≡ false) (map as_listed es) → All (λ (e : Edge). is_own k s e ≡ false) es
        unmapped [] h = Rattle.std.proofs.lemmas.List.Elements.All-nil (λ (e : Edge). is_own k s e ≡ false)
        unmapped (e ∷ es) h =
            Rattle.std.proofs.lemmas.List.Elements.All-cons (λ (e : Edge). is_own k s e ≡ false) e es
            (Rattle.std.proofs.lemmas.List.Elements.All-head (λ (e : Edge). is_own k s e ≡ false) (as_listed e) (map as_listed es) h)
            (unmapped es (Rattle.std.proofs.lemmas.List.Elements.All-tail (λ (e : Edge). is_own k s e ≡ false) (as_listed e) (map as_listed es) h))

    stands_bare : (s k : ℕ) → StandsInLoop n edges holds s k → StandsInLoop n bare holds s k
    stands_bare s k h = record { inside = h.inside; first = h.first; last = h.last; never = λ j le a. h.never j le (bare_alone s j a) }

    pub causes_by_entries : (cs : List Cycle) → HaveCauses n edges holds cs → HaveCauses n bare holds cs
    causes_by_entries cs h = record {
      each = λ s k st. either cs s k (h.each s k (stands s k st));
      cyclic = λ s k over st closed.
          cycle cs s k (h.cyclic s k over (stands s k st) (subst (λ (pairs : List (ℕ × ℕ)). IsClosedWalk pairs s over) (same_steps k) closed));
      only = λ c i. (let o = h.only c i in record {
        statement = o.statement;
        level = o.level;
        over = o.over;
        stands = stands_bare o.statement o.level o.stands;
        least = subst (λ (pairs : List (ℕ × ℕ)). IsLeastClosedWalk pairs o.statement o.over) (sym (same_steps o.level)) o.least;
        is = o.is;
      });
    }
