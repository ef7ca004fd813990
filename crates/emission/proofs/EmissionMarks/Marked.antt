-- Which marked statements recursive emission gives for a part of a nest.
use Rattle.std.proofs.Common.{◌≡◌, ◌⊎◌, ◌↔◌, ◌∙◌, inl, inr, refl, sym, ap, subst, arith, ℕ, suc, ◌+◌}
use Rattle.std.proofs.Common.{◌<◌, ◌≤◌}
use Rattle.std.proofs.Common.{nat_le, Bool, true, false, not, cond, All, List, [], ◌∷◌, ◌++◌, length, map, take}
use Rattle.std.specs.List.{list_any}
use Rattle.std.proofs.lemmas.Bool.{and_from, and_parts, cases_lt, le-leb, lt-leb, not_from_false, not-true, both_ways}
use Rattle.std.proofs.lemmas.Bool.{or_from, or_parts}
use Rattle.std.proofs.lemmas.List.{map-append}
use Rattle.std.proofs.lemmas.List.Elements.{All-cons, All-head, All-nil, All-tail}
use Rattle.dependence_graph.specs.declared.graphs.Edge.{Edge}
use Rattle.dependence_graph.specs.declared.graphs.Hold.{Hold}
use Rattle.emission.specs.emission_pieces.Emission.{HasToTurn}
use Rattle.emission.specs.emission_pieces.Levels.{is_held, is_hold_of, is_own, is_recurrent, may_be_formed}
use Rattle.array_form.specs.forms.Statements.{loops_assigned, stand_in_guard}
use Rattle.array_form.specs.holds.Surroundings.{surroundings_of}
use Rattle.emission.specs.emission_pieces.Nests.{loops_at, standing_at}
use Rattle.nest_order.specs.orders.Lists.{Distinct, In}
use Rattle.nest_order.proofs.orders.Lists.{In-append, In-left, In-right, Pairwise-append}
use Rattle.nest_order.proofs.orders.Membership.{In-map}
use Rattle.nest_order.proofs.orders.Once.{Pairwise-across}
use Rattle.nest.specs.Plain.{Nest}
use Rattle.emission.specs.emission_marks.Components.{IsAloneAt, IsLevel, IsWalk, IsWith}
use Rattle.emission.specs.emission_marks.Laws.{MayBeMarked}
use Rattle.emission.specs.emission_marks.Marks.{Marked, Round, assigned_at, formed_at, kept_at}
use Rattle.emission.specs.emission_marks.Marks.{marked_at, masked_at}
use Rattle.emission.specs.emission_marks.Marks.{turning_of}
use Rattle.emission.proofs.EmissionMarks.Blocks.{number_of}
use Rattle.emission.proofs.EmissionMarks.Parts.{IsPart, leads_within}
use Rattle.emission.proofs.EmissionMarks.Parts.{size}

-- ---- tests of lists

none_any : {X : Type 0} (test : X → Bool) (xs : List X) → list_any test xs ≡ false → All (λ x. test x ≡ false) xs
none_any test [] h = All-nil (λ x. test x ≡ false)
none_any test (x ∷ xs) h =
    let p = or_parts (test x) (list_any test xs) h in All-cons (λ x. test x ≡ false) x xs p.0 (none_any test xs p.1)

any_none : {X : Type 0} (test : X → Bool) (xs : List X) → All (λ x. test x ≡ false) xs → list_any test xs ≡ false
any_none test [] h = refl
any_none test (x ∷ xs) h =
    or_from (test x) (list_any test xs) (All-head (λ x. test x ≡ false) x xs h)
    (any_none test xs (All-tail (λ x. test x ≡ false) x xs h))

-- a list of one element that may stand there often
all_one : (s : ℕ) (c : List ℕ) → Distinct c → In s c → ((r : ℕ) → In r c → r ≡ s) → c ≡ s ∷ []
all_one s [] once i all = absurd i
all_one s (r ∷ []) once i all = ap (λ q. q ∷ []) (all r (inl refl))
all_one s (r ∷ q ∷ c) once i all = absurd (once.0.0 (all r (inl refl) ∙ sym (all q (inr (inl refl)))))

module _ (n : Nest) (edges : List Edge) (holds : List Hold) (may : MayBeMarked n edges) where
  -- ---- marked statements

  pub number_at : (s k : ℕ) → number_of (marked_at n s k) ≡ s + 1
  number_at s k =
      let x = (standing_at n s).statement in
      by (nat_le k (length (loops_at n s))) (stand_in_guard (loops_assigned (surroundings_of n (loops_at n s)) k x.left) x.guard)
    where
      by : (b c : Bool) → number_of (cond b (cond c (masked_at n s k) (assigned_at n s k)) (kept_at n s)) ≡ s + 1
      by true true = refl
      by true false = refl
      by false c = refl

  pub formed_is : (s k : ℕ) → k ≤ length (loops_at n s) → marked_at n s k ≡ formed_at n s k
  formed_is s k h = ap (λ b. cond b (formed_at n s k) (kept_at n s)) (le-leb k (length (loops_at n s)) h)

  pub kept_is : (s k : ℕ) → length (loops_at n s) < k → marked_at n s k ≡ kept_at n s
  kept_is s k h = ap (λ b. cond b (formed_at n s k) (kept_at n s)) (lt-leb k (length (loops_at n s)) h)

  -- the marks of the statements of the part
  pub record HasMarks (part : List ℕ) (xs : List Marked) : Type 0 where
    pub only : (x : Marked) → In x xs → (s k : ℕ) × In s part × IsLevel n edges holds s k × (x ≡ marked_at n s k)
    pub each : (s : ℕ) → In s part → (k : ℕ) × IsLevel n edges holds s k × In (marked_at n s k) xs
    pub once : Distinct (map number_of xs)

  pub one_mark : (s k : ℕ) → IsLevel n edges holds s k → HasMarks (s ∷ []) (marked_at n s k ∷ [])
  one_mark s k is = record { only = only; each = each; once = (tt, tt) }
    where
      only : (x : Marked) → In x (marked_at n s k ∷ [])
          → (r j : ℕ) × In r (s ∷ []) × IsLevel n edges holds r j × (x ≡ marked_at n r j)
      only x (inl e) = (s, k, inl refl, is, e)
      only x (inr i) = absurd i

      each : (r : ℕ) → In r (s ∷ []) → (j : ℕ) × IsLevel n edges holds r j × In (marked_at n r j) (marked_at n s k ∷ [])
      each r (inl e) = (k, subst (λ q. IsLevel n edges holds q k) (sym e) is, inl (ap (λ q. marked_at n q k) e))
      each r (inr i) = absurd i

  pub more_marks : (c rest : List ℕ) (xs ys : List Marked) → Distinct (c ++ rest) → HasMarks c xs → HasMarks rest ys
      → HasMarks (c ++ rest) (xs ++ ys)
  more_marks c rest xs ys apart g h = record { only = only; each = each; once = once }
    where
      only : (x : Marked) → In x (xs ++ ys)
          → (s k : ℕ) × In s (c ++ rest) × IsLevel n edges holds s k × (x ≡ marked_at n s k)
      only x i = by (In-append x xs ys i)
        where
          by : In x xs ⊎ In x ys → (s k : ℕ) × In s (c ++ rest) × IsLevel n edges holds s k × (x ≡ marked_at n s k)
          by (inl j) = let m = g.only x j in (m.0, m.1, In-left m.0 c rest m.2, m.3, m.4)
          by (inr j) = let m = h.only x j in (m.0, m.1, In-right m.0 c rest m.2, m.3, m.4)

      each : (s : ℕ) → In s (c ++ rest) → (k : ℕ) × IsLevel n edges holds s k × In (marked_at n s k) (xs ++ ys)
      each s i = by (In-append s c rest i)
        where
          by : In s c ⊎ In s rest → (k : ℕ) × IsLevel n edges holds s k × In (marked_at n s k) (xs ++ ys)
          by (inl j) = let m = g.each s j in (m.0, m.1, In-left (marked_at n s m.0) xs ys m.2)
          by (inr j) = let m = h.each s j in (m.0, m.1, In-right (marked_at n s m.0) xs ys m.2)

      number : (x : Marked) (s k : ℕ) → x ≡ marked_at n s k → number_of x ≡ s + 1
      number x s k e = ap number_of e ∙ number_at s k

      differ : (a b : ℕ) → In a (map number_of xs) → In b (map number_of ys) → ¬ (a ≡ b)
      differ a b i j e =
          let x = In-map number_of a xs i in
          let y = In-map number_of b ys j in
          let p = g.only x.it x.inside in
          let q = h.only y.it y.inside in
          let same : p.0 + 1 ≡ q.0 + 1 =
          sym (number x.it p.0 p.1 p.4) ∙ (sym x.is ∙ (e ∙ (y.is ∙ number y.it q.0 q.1 q.4))) in
          Pairwise-across (λ s r. ¬ (s ≡ r)) c rest apart p.0 q.0 p.2 q.2 (omega arith)

      once : Distinct (map number_of (xs ++ ys))
      once = subst Distinct (sym (map-append number_of xs ys))
          (Pairwise-append (λ a b. ¬ (a ≡ b)) (map number_of xs) (map number_of ys) g.once h.once differ)

  -- of the same statements
  pub same_marks : (part other : List ℕ) (xs : List Marked) → ((s : ℕ) → In s part ↔ In s other) → HasMarks other xs
      → HasMarks part xs
  same_marks part other xs same h = record {
    only = λ x i. (let m = h.only x i in (m.0, m.1, (same m.0).1 m.2, m.3, m.4));
    each = λ s i. h.each s ((same s).0 i);
    once = h.once;
  }

  -- ---- levels

  -- The component of the level suc d, within `round`, which are the first d loops of its statements; none of them is
  -- alone at one of these
  pub record IsComponentIn (d : ℕ) (round : List Round) (c : List ℕ) : Type 0 where
    pub is_part : IsPart n edges may (suc d) c
    pub loops : (s : ℕ) → In s c → round ≡ map turning_of (take d (loops_at n s))
    pub late : (s j : ℕ) → In s c → IsAloneAt n edges holds s j → d < j

  formed_may : (s k : ℕ) → may_be_formed edges holds k s ≡ true
      → All (λ (e : Edge). is_own k s e ≡ false) edges × All (λ (h : Hold). is_hold_of k s h ≡ false) holds
  formed_may s k h =
      let p = and_parts (not (is_recurrent edges k s)) (not (is_held holds k s)) h in (
        none_any (is_own k s) edges (not-true (is_recurrent edges k s) p.0),
        none_any (is_hold_of k s) holds (not-true (is_held holds k s) p.1),
      )

  may_formed : (s k : ℕ) → IsAloneAt n edges holds s k → may_be_formed edges holds k s ≡ true
  may_formed s k h =
      and_from (not (is_recurrent edges k s)) (not (is_held holds k s))
      (not_from_false (is_recurrent edges k s) (any_none (is_own k s) edges h.free))
      (not_from_false (is_held holds k s) (any_none (is_hold_of k s) holds h.held))

  -- what a walk leads to is a statement of the nest
  pub with_within : (d s r : ℕ) → s < size n edges may → IsWith edges (suc d) s r → r < size n edges may
  with_within d s r h w = along w.0.0 s h w.0.1
    where
      along : (qs : List ℕ) (q : ℕ) → q < size n edges may → IsWalk edges (suc d) (IsWith edges d s) q qs r
          → r < size n edges may
      along [] q g v = subst (λ m. m < size n edges may) v g
      along (p ∷ qs) q g v = along qs p (leads_within n edges may (suc d) q p v.0) v.2

  -- a statement in array form
  pub formed_level : (d s : ℕ) (round : List Round) → IsComponentIn d round (s ∷ []) → suc d ≤ length (loops_at n s)
      → may_be_formed edges holds (suc d) s ≡ true
      → IsLevel n edges holds s (suc d)
  formed_level d s round is last formed =
      let m = formed_may s (suc d) formed in
      inl (record {
        alone = record { first = omega arith; last = last; alone = alone; free = m.0; held = m.1 };
        least = λ j a. is.late s j (inl refl) a;
      })
    where
      alone : (r : ℕ) → IsWith edges (suc d) s r → r ≡ s
      alone r w = by (is.is_part.whole s r (inl refl) (with_within d s r (is.is_part.inside s (inl refl)) w) w)
        where
          by : In r (s ∷ []) → r ≡ s
          by (inl e) = e
          by (inr i) = absurd i

  -- a statement as it is
  pub kept_level : (d s : ℕ) (round : List Round) → IsComponentIn d round (s ∷ []) → length (loops_at n s) < suc d
      → IsLevel n edges holds s (length (loops_at n s) + 1)
  kept_level d s round is h = inr (record { behind = refl; never = never })
    where
      never : (j : ℕ) → IsAloneAt n edges holds s j → ⊥
      never j a = let low : d < j = is.late s j (inl refl) a in let high = a.last in absurd (omega arith)

  -- in its next loop a component isn't one statement that is alone
  pub still_late : (d : ℕ) (round : List Round) (c : List ℕ) → IsComponentIn d round c
      → HasToTurn n edges holds (suc d) c → (s j : ℕ) → In s c → IsAloneAt n edges holds s j
      → suc d < j
  still_late d round c is turns s j i a = by (cases_lt (suc d) j)
    where
      by : (suc d < j) ⊎ (j ≤ suc d) → suc d < j
      by (inl h) = h
      by (inr h) =
          let low : d < j = is.late s j i a in
          let same : j ≡ suc d = omega arith in
          let b = subst (IsAloneAt n edges holds s) same a in
          let one = all_one s c is.is_part.once i (λ r k. b.alone r (is.is_part.joined s r i k)) in
          absurd (both_ways (may_be_formed edges holds (suc d) s) (turns s one) (may_formed s (suc d) b))
