-- The jumps of what is made of a nest lead on as those of the nest do: what is put in has no label, no jump and no loop.
use Rattle.std.proofs.Common.{◌≡◌, refl, sym, ap, ap₂, ◌∙◌, subst, ℕ, Bool, true, false, cond, List, [], ◌∷◌, ◌++◌, length}
use Rattle.std.proofs.Common.{Option, Some, None}
use Rattle.last_values.specs.Behind.{stands_behind}
use Rattle.last_values.specs.InPlace.{assigned_part, end_part, first_text, own_trip_text}
use Rattle.last_values.specs.PartsInPlace.{only_where_part, parts_before, parts_behind}
use Rattle.last_values.specs.declared.behind.NestedLoop.{NestedLoop}
use Rattle.last_values.specs.declared.normal_forms.loops.NormalLoop.{NormalLoop}
use Rattle.last_values.specs.normal_forms.NormalLoops.{is_known, is_positive, normal_loop}
use Rattle.last_values.specs.normal_forms.Texts.{at_least_one}
use Rattle.nest.specs.Bodies.{loops_in_branches, loops_in_parts, loops_of}
use Rattle.nest.specs.Plain.{Branches, branch, no_branches}
use Rattle.nest.specs.Plain.{Choice, Jump, Label, Loop, Nest, Part, Parts, Run, Turns, no_parts, part, parts}
use Rattle.normal_loops.specs.Bodies.{normal_branches, normal_part, normal_parts, normal_turns}
use Rattle.normal_loops.specs.Counting.{counting}
use Rattle.normal_loops.specs.Loops.{with_loop}
use Rattle.pass_laws.proofs.BranchSources.Marks.{ahead_joined}
use Rattle.pass_laws.proofs.ReadyNests.Lists.{loops_joined}
use Rattle.pass_laws.proofs.ReadyNests.Made.{IsMadeOf}
use Rattle.pass_laws.specs.branch_meaning.Jumps.{AllJumpAhead, BranchesJumpAhead, JumpsAhead, labels_ahead, labels_before}

-- ---- lists

first_empty : (xs ys : List Loop) → xs ++ ys ≡ [] → xs ≡ []
first_empty [] ys h = refl
first_empty (x ∷ xs) ys h = let no : ⊥ = cc in absurd no

rest_empty : (xs ys : List Loop) → xs ++ ys ≡ [] → ys ≡ []
rest_empty [] ys h = h
rest_empty (x ∷ xs) ys h = let no : ⊥ = cc in absurd no

jump_joined : (ps qs : List Part) (later : List ℕ) → AllJumpAhead (labels_ahead (parts qs) later) (parts ps) → AllJumpAhead later (parts qs) → AllJumpAhead later (parts (ps ++ qs))
jump_joined [] qs later h k = k
jump_joined (p ∷ ps) qs later h k = (subst (λ ls. JumpsAhead ls p) (sym (ahead_joined ps qs later)) h.0, jump_joined ps qs later h.1 k)

-- ---- last values in place

module _ (symbols : List (List ℕ)) (line : ℕ) (round : List NormalLoop) (r : NormalLoop) where
  no_label_before : (later : List ℕ) → labels_ahead (parts (parts_before symbols line round r)) later ≡ later
  unfolding parts_before
  no_label_before later = by (is_positive r.trip)
    where
      by : (b : Bool) → labels_ahead (parts (cond b [] (assigned_part line r.variable (first_text symbols round r) ∷ []))) later ≡ later
      by true = refl
      by false = refl

  no_jump_before : (later : List ℕ) → AllJumpAhead later (parts (parts_before symbols line round r))
  unfolding parts_before
  no_jump_before later = by (is_positive r.trip)
    where
      by : (b : Bool) → AllJumpAhead later (parts (cond b [] (assigned_part line r.variable (first_text symbols round r) ∷ [])))
      by true = tt
      by false = (tt, tt)

  no_jump_behind : (later : List ℕ) → AllJumpAhead later (parts (parts_behind symbols line round r))
  unfolding parts_behind
  no_jump_behind later = by (is_positive r.trip) (is_known r.trip)
    where
      by : (b c : Bool) → AllJumpAhead later
          (parts (cond b (end_part symbols line round r ∷ []) (cond c [] (only_where_part (at_least_one (own_trip_text symbols round r)) (end_part symbols line round r ∷ []) ∷ []))))
      by true c = (tt, tt)
      by false true = tt
      by false false = ((refl, ((tt, tt), tt), tt), tt)

-- ---- all parts

module _ (n : Nest) (all : List NestedLoop) where
  -- where no loop stands, none is put in
  mutual
    no_loops : (round : List NormalLoop) (p : Part) → loops_of p ≡ [] → loops_in_parts (parts (normal_part n all round p)) ≡ []
    no_loops round (Run s) h = refl
    no_loops round (Turns l ps) h = let no : ⊥ = cc in absurd no
    no_loops round (Choice bs ps) h =
        ap₂ (λ (xs ys : List Loop). (xs ++ ys) ++ []) (no_loops_under round bs (first_empty (loops_in_branches bs) (loops_in_parts ps) h))
        (no_loops_in round ps (rest_empty (loops_in_branches bs) (loops_in_parts ps) h))
    no_loops round (Label k) h = refl
    no_loops round (Jump k) h = refl

    no_loops_in : (round : List NormalLoop) (ps : Parts) → loops_in_parts ps ≡ [] → loops_in_parts (parts (normal_parts n all round ps)) ≡ []
    no_loops_in round no_parts h = refl
    no_loops_in round (part p ps) h =
        loops_joined (normal_part n all round p) (normal_parts n all round ps)
        ∙ ap₂ (λ (xs ys : List Loop). xs ++ ys) (no_loops round p (first_empty (loops_of p) (loops_in_parts ps) h)) (no_loops_in round ps (rest_empty (loops_of p) (loops_in_parts ps) h))

    no_loops_under : (round : List NormalLoop) (bs : Branches) → loops_in_branches bs ≡ [] → loops_in_branches (normal_branches n all round bs) ≡ []
    no_loops_under round no_branches h = refl
    no_loops_under round (branch test ps bs) h =
        ap₂ (λ (xs ys : List Loop). xs ++ ys) (no_loops_in round ps (first_empty (loops_in_parts ps) (loops_in_branches bs) h))
        (no_loops_under round bs (rest_empty (loops_in_parts ps) (loops_in_branches bs) h))

  -- ---- the labels that lie ahead

  abbrev made_turns : List NormalLoop → Loop → NormalLoop → List Part → Part
  made_turns round l r qs = Turns (counting n.symbols round l r) (parts qs)

  abbrev placed_by : Bool → List NormalLoop → NormalLoop → Part → List Part
  placed_by b round r p = cond b (p ∷ []) (parts_before n.symbols n.line round r ++ p ∷ parts_behind n.symbols n.line round r)

  turned_labels : (round : List NormalLoop) (l : Loop) (o : Option NormalLoop) (qs : List Part) (later : List ℕ) → labels_ahead (parts (normal_turns n all round l o qs)) later ≡ []
  turned_labels round l None qs later = refl
  turned_labels round l (Some r) qs later = by (stands_behind (length n.symbols) all n.body r.variable)
    where
      by : (b : Bool) → labels_ahead (parts (placed_by b round r (made_turns round l r qs))) later ≡ []
      by true = refl
      by false =
          ahead_joined (parts_before n.symbols n.line round r) (made_turns round l r qs ∷ parts_behind n.symbols n.line round r) later
          ∙ no_label_before n.symbols n.line round r []

  labels_are : (round : List NormalLoop) (p : Part) (later : List ℕ) → labels_ahead (parts (normal_part n all round p)) later ≡ labels_before p later
  labels_are round (Run s) later = refl
  labels_are round (Turns l ps) later =
      turned_labels round l (normal_loop n.symbols round l) (normal_parts n all (with_loop round (normal_loop n.symbols round l)) ps) later
  labels_are round (Choice bs ps) later = refl
  labels_are round (Label k) later = refl
  labels_are round (Jump k) later = refl

  ahead_is : (round : List NormalLoop) (ps : Parts) (later : List ℕ) → labels_ahead (parts (normal_parts n all round ps)) later ≡ labels_ahead ps later
  ahead_is round no_parts later = refl
  ahead_is round (part p ps) later =
      ahead_joined (normal_part n all round p) (normal_parts n all round ps) later
      ∙ (ap (labels_ahead (parts (normal_part n all round p))) (ahead_is round ps later) ∙ labels_are round p (labels_ahead ps later))

  -- ---- jumps

  turned_jumps : (round : List NormalLoop) (l : Loop) (o : Option NormalLoop) (qs : List Part) (later : List ℕ) → AllJumpAhead [] (parts qs) → AllJumpAhead later (parts (normal_turns n all round l o qs))
  turned_jumps round l None qs later h = (h, tt)
  turned_jumps round l (Some r) qs later h = by (stands_behind (length n.symbols) all n.body r.variable)
    where
      by : (b : Bool) → AllJumpAhead later (parts (placed_by b round r (made_turns round l r qs)))
      by true = (h, tt)
      by false =
          jump_joined (parts_before n.symbols n.line round r) (made_turns round l r qs ∷ parts_behind n.symbols n.line round r) later
          (no_jump_before n.symbols n.line round r []) (h, no_jump_behind n.symbols n.line round r later)

  mutual
    jumps : (round : List NormalLoop) (p : Part) (later : List ℕ) → JumpsAhead later p → AllJumpAhead later (parts (normal_part n all round p))
    jumps round (Run s) later h = (tt, tt)
    jumps round (Turns l ps) later h =
        turned_jumps round l (normal_loop n.symbols round l) (normal_parts n all (with_loop round (normal_loop n.symbols round l)) ps) later
        (jumps_in (with_loop round (normal_loop n.symbols round l)) ps [] h)
    jumps round (Choice bs ps) later h = (
      (
        ap₂ (λ (xs ys : List Loop). xs ++ ys) (no_loops_under round bs (first_empty (loops_in_branches bs) (loops_in_parts ps) h.0))
            (no_loops_in round ps (rest_empty (loops_in_branches bs) (loops_in_parts ps) h.0)),
        jumps_under round bs later h.1,
        jumps_in round ps later h.2,
      ),
      tt,
    )
    jumps round (Label k) later h = (tt, tt)
    jumps round (Jump k) later h = (h, tt)

    jumps_in : (round : List NormalLoop) (ps : Parts) (later : List ℕ) → AllJumpAhead later ps → AllJumpAhead later (parts (normal_parts n all round ps))
    jumps_in round no_parts later h = tt
    jumps_in round (part p ps) later h =
        jump_joined (normal_part n all round p) (normal_parts n all round ps) later
        (jumps round p (labels_ahead (parts (normal_parts n all round ps)) later) (subst (λ ks. JumpsAhead ks p) (sym (ahead_is round ps later)) h.0))
        (jumps_in round ps later h.1)

    jumps_under : (round : List NormalLoop) (bs : Branches) (later : List ℕ) → BranchesJumpAhead later bs → BranchesJumpAhead later (normal_branches n all round bs)
    jumps_under round no_branches later h = tt
    jumps_under round (branch test ps bs) later h = (jumps_in round ps later h.0, jumps_under round bs later h.1)

pub jumps_stay : (n m : Nest) → IsMadeOf n m → JumpsAhead [] n.body → JumpsAhead [] m.body
jumps_stay n m made h = (subst (λ (ps : List Part). AllJumpAhead [] (parts ps)) made.body (jumps n made.loops [] n.body [] h)).0
