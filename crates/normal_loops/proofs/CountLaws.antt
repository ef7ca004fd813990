-- Each loop of a normalised nest goes from 1 by 1.
use Rattle.std.proofs.Common.{◌≡◌, ℕ, Bool, true, false, true≢false, ◌&&◌, cond, is_some, Option, Some, None, All, List, [], ◌∷◌, ◌++◌, length, refl, sym, ap, ◌∙◌, subst, option_map, append_assoc}
use Rattle.std.proofs.lemmas.List.{append-nil}
use Rattle.std.proofs.lemmas.List.Elements.{All-nil, All-append, All-cons}
use Rattle.tree.specs.Plain.{Block}
use Rattle.nest.specs.Bodies.{loops_of, loops_in_parts, loops_in_branches}
use Rattle.nest.specs.Plain.{Loop, Nest, Part, Run, Turns, Choice, Label, Jump, Parts, no_parts, part, parts, Branches, no_branches, branch}
use Rattle.last_values.specs.normal_forms.NormalLoops.{normal_loop, is_positive, is_known}
use Rattle.last_values.specs.normal_forms.Texts.{at_least_one}
use Rattle.last_values.specs.declared.normal_forms.loops.NormalLoop.{NormalLoop}
use Rattle.last_values.specs.Behind.{stands_behind}
use Rattle.last_values.specs.ValuesBehind.{values_behind}
use Rattle.last_values.specs.InPlace.{assigned_part, first_text, own_trip_text, end_part}
use Rattle.last_values.specs.PartsInPlace.{parts_before, parts_behind, only_where_part}
use Rattle.last_values.specs.declared.behind.NestedLoop.{NestedLoop}
use Rattle.normal_loops.specs.Bodies.{placed_loop, normal_turns, normal_part, normal_parts, normal_branches}
use Rattle.normal_loops.specs.Counting.{counting}
use Rattle.normal_loops.specs.Laws.{CountsByOne, NormalisedCountsByOne}
use Rattle.normal_loops.specs.Loops.{with_loop, nested_loops}
use Rattle.normal_loops.specs.Normal.{is_normal, are_normal, are_normal_branches}
use Rattle.normal_loops.specs.Normalised.{only_one, with_body, with_loops, normalised}

left : (a b : Bool) → (a && b) ≡ true → a ≡ true
left true b h = refl
left false b h = h

right : (a b : Bool) → (a && b) ≡ true → b ≡ true
right true b h = h
right false b h = absurd (true≢false (sym h))

-- ---- loops of lists of parts

abbrev AreCounting : List Part → Type 0
AreCounting ps = All CountsByOne (loops_in_parts (parts ps))

loops-append : (ps qs : List Part) → loops_in_parts (parts (ps ++ qs)) ≡ loops_in_parts (parts ps) ++ loops_in_parts (parts qs)
loops-append [] qs = refl
loops-append (p ∷ ps) qs = ap (λ ks. loops_of p ++ ks) (loops-append ps qs) ∙ sym (append_assoc (loops_of p) (loops_in_parts (parts ps)) (loops_in_parts (parts qs)))

both-count : (ps qs : List Part) → AreCounting ps → AreCounting qs → AreCounting (ps ++ qs)
both-count ps qs h i = subst (All CountsByOne) (sym (loops-append ps qs)) (All-append CountsByOne (loops_in_parts (parts ps)) (loops_in_parts (parts qs)) h i)

one-counts : (p : Part) → All CountsByOne (loops_of p) → AreCounting (p ∷ [])
one-counts p h = subst (All CountsByOne) (sym (append-nil (loops_of p))) h

of-one : (p : Part) → AreCounting (p ∷ []) → All CountsByOne (loops_of p)
of-one p h = subst (All CountsByOne) (append-nil (loops_of p)) h

-- ---- last values in place have no loops

module _ (symbols : List (List ℕ)) (line : ℕ) (round : List NormalLoop) (r : NormalLoop) where
  before-by : (b : Bool) → loops_in_parts (parts (cond b [] (assigned_part line r.variable (first_text symbols round r) ∷ []))) ≡ []
  before-by true = refl
  before-by false = refl

  no-loops-before : loops_in_parts (parts (parts_before symbols line round r)) ≡ []
  unfolding parts_before
  no-loops-before = before-by (is_positive r.trip)

  behind-by : (a b : Bool) → loops_in_parts (parts (cond a (end_part symbols line round r ∷ []) (cond b []
      (only_where_part (at_least_one (own_trip_text symbols round r)) (end_part symbols line round r ∷ []) ∷ [])))) ≡ []
  behind-by true b = refl
  behind-by false true = refl
  behind-by false false = refl

  no-loops-behind : loops_in_parts (parts (parts_behind symbols line round r)) ≡ []
  unfolding parts_behind
  no-loops-behind = behind-by (is_positive r.trip) (is_known r.trip)

-- ---- what stands for a part

counting-counts : (symbols : List (List ℕ)) (round : List NormalLoop) (l : Loop) (r : NormalLoop) → CountsByOne (counting symbols round l r)
unfolding counting
counting-counts symbols round l r = record { first = refl; step = refl; trip = refl }

module _ (n : Nest) (ls : List NestedLoop) where
  placed_loop-by : (b : Bool) (round : List NormalLoop) (r : NormalLoop) (p : Part) → All CountsByOne (loops_of p)
      → AreCounting (cond b (p ∷ []) (parts_before n.symbols n.line round r ++ p ∷ parts_behind n.symbols n.line round r))
  placed_loop-by true round r p h = one-counts p h
  placed_loop-by false round r p h =
      let behind = subst (All CountsByOne) (sym (no-loops-behind n.symbols n.line round r)) (All-nil CountsByOne) in
      let before = subst (All CountsByOne) (sym (no-loops-before n.symbols n.line round r)) (All-nil CountsByOne) in
      both-count (parts_before n.symbols n.line round r) (p ∷ parts_behind n.symbols n.line round r) before
      (All-append CountsByOne (loops_of p) (loops_in_parts (parts (parts_behind n.symbols n.line round r))) h behind)

  placed_loop-counts : (round : List NormalLoop) (r : NormalLoop) (p : Part) → All CountsByOne (loops_of p) → AreCounting (placed_loop n ls round r p)
  placed_loop-counts round r p h = placed_loop-by (stands_behind (length n.symbols) ls n.body r.variable) round r p h

  turns-count : (round : List NormalLoop) (l : Loop) (o : Option NormalLoop) (ps : List Part) → is_some o ≡ true → AreCounting ps → AreCounting (normal_turns n ls round l o ps)
  turns-count round l None ps e h = absurd (true≢false (sym e))
  turns-count round l (Some r) ps e h =
      placed_loop-counts round r (Turns (counting n.symbols round l r) (parts ps))
      (All-cons CountsByOne (counting n.symbols round l r) (loops_in_parts (parts ps)) (counting-counts n.symbols round l r) h)

  mutual
    part-counts : (round : List NormalLoop) (p : Part) → is_normal n.symbols round p ≡ true → AreCounting (normal_part n ls round p)
    part-counts round (Run s) h = All-nil CountsByOne
    part-counts round (Turns l ps) h =
        let o = normal_loop n.symbols round l in
        let some : is_some o ≡ true = left (is_some o) (are_normal n.symbols (with_loop round o) ps) h in
        let inside : are_normal n.symbols (with_loop round o) ps ≡ true = right (is_some o) (are_normal n.symbols (with_loop round o) ps) h in
        turns-count round l o (normal_parts n ls (with_loop round o) ps) some (parts-count (with_loop round o) ps inside)
    part-counts round (Choice bs ps) h =
        let arms = branches-count round bs (left (are_normal_branches n.symbols round bs) (are_normal n.symbols round ps) h) in
        let other = parts-count round ps (right (are_normal_branches n.symbols round bs) (are_normal n.symbols round ps) h) in
        one-counts (Choice (normal_branches n ls round bs) (parts (normal_parts n ls round ps)))
        (All-append CountsByOne (loops_in_branches (normal_branches n ls round bs)) (loops_in_parts (parts (normal_parts n ls round ps))) arms other)
    part-counts round (Label k) h = All-nil CountsByOne
    part-counts round (Jump k) h = All-nil CountsByOne

    parts-count : (round : List NormalLoop) (ps : Parts) → are_normal n.symbols round ps ≡ true → AreCounting (normal_parts n ls round ps)
    parts-count round no_parts h = All-nil CountsByOne
    parts-count round (part p ps) h =
        both-count (normal_part n ls round p) (normal_parts n ls round ps)
        (part-counts round p (left (is_normal n.symbols round p) (are_normal n.symbols round ps) h))
        (parts-count round ps (right (is_normal n.symbols round p) (are_normal n.symbols round ps) h))

    branches-count : (round : List NormalLoop) (bs : Branches) → are_normal_branches n.symbols round bs ≡ true
        → All CountsByOne (loops_in_branches (normal_branches n ls round bs))
    branches-count round no_branches h = All-nil CountsByOne
    branches-count round (branch test ps bs) h =
        All-append CountsByOne (loops_in_parts (parts (normal_parts n ls round ps))) (loops_in_branches (normal_branches n ls round bs))
        (parts-count round ps (left (are_normal n.symbols round ps) (are_normal_branches n.symbols round bs) h))
        (branches-count round bs (right (are_normal n.symbols round ps) (are_normal_branches n.symbols round bs) h))

-- ---- the nest

module _ (n : Nest) (more : Block) (m : Nest) where
  its-body : (p : Part) → (with_body n more p).body ≡ p
  unfolding with_body
  its-body p = refl

  body-is : (p : Part) → Some (with_body n more p) ≡ Some m → p ≡ m.body
  body-is p e = let same : with_body n more p ≡ m = cc in sym (its-body p) ∙ ap (λ (k : Nest). k.body) same

  by-one : (ps : List Part) → option_map (with_body n more) (only_one ps) ≡ Some m → AreCounting ps → All CountsByOne (loops_of m.body)
  by-one [] e h = absurd (true≢false (sym (ap is_some e)))
  by-one (p ∷ []) e h = subst (λ q. All CountsByOne (loops_of q)) (body-is p e) (of-one p h)
  by-one (p ∷ q ∷ ps) e h = absurd (true≢false (sym (ap is_some e)))

module _ (n m : Nest) where
  abbrev loops : List NestedLoop
  loops = nested_loops n.symbols [] n.body

  by-loops : is_normal n.symbols [] n.body ≡ true → with_loops n loops ≡ Some m → All CountsByOne (loops_of m.body)
  unfolding with_loops
  by-loops h e =
      by-one n (values_behind n.symbols n.line loops n.body) m (normal_part n loops [] n.body) e
      (part-counts n loops [] n.body h)

  by-forms : (b : Bool) → is_normal n.symbols [] n.body ≡ b → cond b (with_loops n loops) None ≡ Some m → All CountsByOne (loops_of m.body)
  by-forms true h e = by-loops h e
  by-forms false h e = absurd (true≢false (sym (ap is_some e)))

pub normalised_counts : NormalisedCountsByOne
unfolding normalised
normalised_counts n m e = by-forms n m (is_normal n.symbols [] n.body) refl e
