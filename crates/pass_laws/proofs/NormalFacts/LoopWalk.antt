-- The loops that are made of a nest, each with the loops round it.
use Rattle.std.proofs.Common.{◌≡◌, refl, subst, Bool, true, false, cond, ◌&&◌, List, [], ◌∷◌, ◌++◌, length, Option}
use Rattle.std.proofs.Common.{Some, None}
use Rattle.std.specs.Prelude.{is_some}
use Rattle.last_values.specs.Behind.{stands_behind}
use Rattle.last_values.specs.InPlace.{assigned_part, first_text, own_trip_text, end_part}
use Rattle.last_values.specs.PartsInPlace.{only_where_part, parts_before, parts_behind}
use Rattle.last_values.specs.declared.behind.NestedLoop.{NestedLoop}
use Rattle.linear_forms.proofs.Sizes.{both}
use Rattle.normal_loops.specs.Bodies.{placed_loop, normal_turns, normal_part, normal_parts, normal_branches}
use Rattle.normal_loops.specs.Counting.{counting}
use Rattle.normal_loops.specs.Loops.{with_loop}
use Rattle.normal_loops.specs.Normal.{is_normal, are_normal, are_normal_branches}
use Rattle.nest.specs.Plain.{Loop, Guarded, Part, Run, Turns, Choice, Label, Jump, Parts, no_parts, part, parts}
use Rattle.nest.specs.Plain.{Branches, no_branches, branch, Nest}
use Rattle.last_values.specs.normal_forms.NormalLoops.{normal_loop, is_positive, is_known}
use Rattle.last_values.specs.normal_forms.Texts.{at_least_one}
use Rattle.last_values.specs.declared.normal_forms.loops.NormalLoop.{NormalLoop}
use Rattle.pass_laws.proofs.ReadyNests.Made.{IsMadeOf}
use Rattle.pass_laws.proofs.ReadyNests.Walk.{EachIn, EachInParts, EachInBranches}

-- each loop of a part under these loops is as is asked
module _ (Asked : List Loop → Loop → Type 0) where
  abbrev mutual
    pub EachLoop : List Loop → Part → Type 0
    EachLoop ls (Run s) = Unit {0}
    EachLoop ls (Turns l ps) = Asked ls l × EachLoopIn (ls ++ l ∷ []) ps
    EachLoop ls (Choice bs ps) = EachLoopUnder ls bs × EachLoopIn ls ps
    EachLoop ls (Label k) = Unit {0}
    EachLoop ls (Jump k) = Unit {0}

    pub EachLoopIn : List Loop → Parts → Type 0
    EachLoopIn ls no_parts = Unit {0}
    EachLoopIn ls (part p ps) = EachLoop ls p × EachLoopIn ls ps

    pub EachLoopUnder : List Loop → Branches → Type 0
    EachLoopUnder ls no_branches = Unit {0}
    EachLoopUnder ls (branch test ps bs) = EachLoopIn ls ps × EachLoopUnder ls bs

-- where `Under` holds of the loops from 1 by 1 and of the loops that are made of them, the next one is as is asked
pub record LoopSteps (n : Nest) (Fair : Loop → Type 0) (Under : List NormalLoop → List Loop → Type 0) (Asked : List Loop → Loop → Type 0) : Type 0 where
  pub turns : (round : List NormalLoop) (ls : List Loop) (l : Loop) (r : NormalLoop) → Under round ls → Fair l → normal_loop n.symbols round l ≡ Some r
      → Under (round ++ r ∷ []) (ls ++ counting n.symbols round l r ∷ [])
  pub asked : (round : List NormalLoop) (ls : List Loop) (l : Loop) (r : NormalLoop) → Under round ls → Fair l → normal_loop n.symbols round l ≡ Some r
      → Asked ls (counting n.symbols round l r)

module _ (n : Nest) (all : List NestedLoop) (Source : Guarded → Type 0) (Fair : Loop → Type 0) (Under : List NormalLoop → List Loop → Type 0) (Asked : List Loop → Loop → Type 0)
    (steps : LoopSteps n Fair Under Asked) where
  abbrev Each_of : List Loop → List Part → Type 0
  Each_of ls ps = EachLoopIn Asked ls (parts ps)

  followed : (ls : List Loop) (ps qs : List Part) → Each_of ls ps → Each_of ls qs → Each_of ls (ps ++ qs)
  followed ls [] qs h k = k
  followed ls (p ∷ ps) qs h k = (h.0, followed ls ps qs h.1 k)

  -- ---- last values in place have no loop

  module _ (round : List NormalLoop) (ls : List Loop) (r : NormalLoop) where
    before : Each_of ls (parts_before n.symbols n.line round r)
    unfolding parts_before
    before = by (is_positive r.trip)
      where
        by : (b : Bool) → Each_of ls (cond b [] (assigned_part n.line r.variable (first_text n.symbols round r) ∷ []))
        by true = tt
        by false = (tt, tt)

    behind : Each_of ls (parts_behind n.symbols n.line round r)
    unfolding parts_behind
    behind = by (is_positive r.trip) (is_known r.trip)
      where
        by : (b c : Bool) → Each_of ls (cond b (end_part n.symbols n.line round r ∷ []) (cond c [] (only_where_part (at_least_one (own_trip_text n.symbols round r)) (end_part n.symbols n.line round r ∷ []) ∷ [])))
        by true c = (tt, tt)
        by false true = tt
        by false false = ((((tt, tt), tt), tt), tt)

    placed_each : (p : Part) → EachLoop Asked ls p → Each_of ls (placed_loop n all round r p)
    placed_each p h = by (stands_behind (length n.symbols) all n.body r.variable)
      where
        by : (b : Bool) → Each_of ls (cond b (p ∷ []) (parts_before n.symbols n.line round r ++ p ∷ parts_behind n.symbols n.line round r))
        by true = (h, tt)
        by false = followed ls (parts_before n.symbols n.line round r) (p ∷ parts_behind n.symbols n.line round r) before (h, behind)

  turned : (round : List NormalLoop) (ls : List Loop) (l : Loop) (ps : Parts) (o : Option NormalLoop) → normal_loop n.symbols round l ≡ o → Under round ls → Fair l
      → ((rs : List NormalLoop) (ms : List Loop) → Under rs ms → are_normal n.symbols rs ps ≡ true → Each_of ms (normal_parts n all rs ps))
      → (is_some o && are_normal n.symbols (with_loop round o) ps) ≡ true → Each_of ls (normal_turns n all round l o (normal_parts n all (with_loop round o) ps))
  turned round ls l ps None e u f more h = let no : ⊥ = cc in absurd no
  turned round ls l ps (Some r) e u f more h =
      placed_each round ls r (Turns (counting n.symbols round l r) (parts (normal_parts n all (round ++ r ∷ []) ps)))
      (steps.asked round ls l r u f e, more (round ++ r ∷ []) (ls ++ counting n.symbols round l r ∷ []) (steps.turns round ls l r u f e) h)

  -- ---- all parts

  mutual
    each : (round : List NormalLoop) (ls : List Loop) (p : Part) → Under round ls → is_normal n.symbols round p ≡ true → EachIn Source Fair p → Each_of ls (normal_part n all round p)
    each round ls (Run s) u h g = (tt, tt)
    each round ls (Turns l ps) u h g = turned round ls l ps (normal_loop n.symbols round l) refl u g.0 (λ rs ms v k. each_part rs ms ps v k g.1) h
    each round ls (Choice bs ps) u h g =
        let b = both (are_normal_branches n.symbols round bs) (are_normal n.symbols round ps) h in
        ((each_branch round ls bs u b.0 g.0, each_part round ls ps u b.1 g.1), tt)
    each round ls (Label k) u h g = (tt, tt)
    each round ls (Jump k) u h g = (tt, tt)

    each_part : (round : List NormalLoop) (ls : List Loop) (ps : Parts) → Under round ls → are_normal n.symbols round ps ≡ true → EachInParts Source Fair ps → Each_of ls (normal_parts n all round ps)
    each_part round ls no_parts u h g = tt
    each_part round ls (part p ps) u h g =
        let b = both (is_normal n.symbols round p) (are_normal n.symbols round ps) h in
        followed ls (normal_part n all round p) (normal_parts n all round ps) (each round ls p u b.0 g.0) (each_part round ls ps u b.1 g.1)

    each_branch : (round : List NormalLoop) (ls : List Loop) (bs : Branches) → Under round ls → are_normal_branches n.symbols round bs ≡ true → EachInBranches Source Fair bs
        → EachLoopUnder Asked ls (normal_branches n all round bs)
    each_branch round ls no_branches u h g = tt
    each_branch round ls (branch test ps bs) u h g =
        let b = both (are_normal n.symbols round ps) (are_normal_branches n.symbols round bs) h in
        (each_part round ls ps u b.0 g.0, each_branch round ls bs u b.1 g.1)

pub each_loop : (n m : Nest) (Source : Guarded → Type 0) (Fair : Loop → Type 0) (Under : List NormalLoop → List Loop → Type 0) (Asked : List Loop → Loop → Type 0)
    → LoopSteps n Fair Under Asked → Under [] [] → EachIn Source Fair n.body → IsMadeOf n m → EachLoop Asked [] m.body
each_loop n m Source Fair Under Asked steps u g h =
    let whole : EachLoopIn Asked [] (parts (m.body ∷ [])) =
    subst (λ (ps : List Part). EachLoopIn Asked [] (parts ps)) h.body (each n h.loops Source Fair Under Asked steps [] [] n.body u h.normal g) in
    whole.0
