-- The conditions that are made of those of a nest, one after the other.
use Rattle.std.proofs.Common.{◌≡◌, refl, sym, ap, ◌∙◌, subst, Bool, true, false, cond, ◌&&◌, List, [], ◌∷◌, ◌++◌, length}
use Rattle.std.proofs.Common.{Option, Some, None, append-nil, append_assoc}
use Rattle.std.specs.Prelude.{is_some}
use Rattle.components.proofs.ListLaws.{Each-append}
use Rattle.components.specs.Lists.{Each}
use Rattle.last_values.specs.Behind.{stands_behind}
use Rattle.last_values.specs.InPlace.{assigned_part, end_part, first_text, own_trip_text}
use Rattle.last_values.specs.PartsInPlace.{only_where_part, parts_before, parts_behind}
use Rattle.last_values.specs.declared.behind.NestedLoop.{NestedLoop}
use Rattle.last_values.specs.declared.normal_forms.loops.NormalLoop.{NormalLoop}
use Rattle.last_values.specs.normal_forms.NormalLoops.{is_known, is_positive, normal_loop}
use Rattle.last_values.specs.normal_forms.Texts.{at_least_one}
use Rattle.linear_forms.proofs.Sizes.{both}
use Rattle.nest.specs.Plain.{Branches, branch, no_branches}
use Rattle.nest.specs.Plain.{Choice, Guarded, Jump, Label, Loop, Nest, Part, Parts, Run, Turns, no_parts, part, parts}
use Rattle.normal_loops.specs.Bodies.{normal_branches, normal_part, normal_parts, normal_turns, placed_loop}
use Rattle.normal_loops.specs.Counting.{counting}
use Rattle.normal_loops.specs.Loops.{with_loop}
use Rattle.normal_loops.specs.Normal.{are_normal, are_normal_branches, is_normal}
use Rattle.normal_loops.specs.Tests.{normal_test}
use Rattle.pass_laws.proofs.ReadyNests.Made.{IsMadeOf}
use Rattle.pass_laws.proofs.ReadyNests.Walk.{EachIn, EachInBranches, EachInParts}
use Rattle.tree.specs.Plain.{Expression}
use Rattle.pass_laws.specs.prepared_nests.Branches.{StandingTest, tests_in_branches, tests_in_parts, tests_under}

-- each condition of a part is one
module _ (Source : Expression → Type 0) where
  abbrev mutual
    pub EachTest : Part → Type 0
    EachTest (Run s) = Unit {0}
    EachTest (Turns l ps) = EachTestIn ps
    EachTest (Choice bs ps) = EachTestUnder bs × EachTestIn ps
    EachTest (Label k) = Unit {0}
    EachTest (Jump k) = Unit {0}

    pub EachTestIn : Parts → Type 0
    EachTestIn no_parts = Unit {0}
    EachTestIn (part p ps) = EachTest p × EachTestIn ps

    pub EachTestUnder : Branches → Type 0
    EachTestUnder no_branches = Unit {0}
    EachTestUnder (branch test ps bs) = Source test × EachTestIn ps × EachTestUnder bs

abbrev pub standing_test : List Loop → Expression → StandingTest
standing_test ls e = record { loops = ls; test = e }

-- What is made of conditions of the nest n, and what is put round a last value, is as is asked, where `Under` holds of
-- the loops from 1 by 1 and of the loops that are made of them
pub record TestSteps (n : Nest) (Source : Expression → Type 0) (Fair : Loop → Type 0) (Under : List NormalLoop → List Loop → Type 0) (Asked : StandingTest → Type 0) : Type 0 where
  pub test : (round : List NormalLoop) (ls : List Loop) (e : Expression) → Under round ls → Source e → Asked (standing_test ls (normal_test n.symbols round e))
  pub turns : (round : List NormalLoop) (ls : List Loop) (l : Loop) (r : NormalLoop) → Under round ls → Fair l → normal_loop n.symbols round l ≡ Some r
      → Under (round ++ r ∷ []) (ls ++ counting n.symbols round l r ∷ [])
  pub own : (round : List NormalLoop) (ls : List Loop) (l : Loop) (r : NormalLoop) → Under round ls → Fair l → normal_loop n.symbols round l ≡ Some r
      → Asked (standing_test ls (at_least_one (own_trip_text n.symbols round r)))

tests_joined : (ls : List Loop) (ps qs : List Part) → tests_in_parts ls (parts (ps ++ qs)) ≡ tests_in_parts ls (parts ps) ++ tests_in_parts ls (parts qs)
tests_joined ls [] qs = refl
tests_joined ls (p ∷ ps) qs =
    ap (λ (ts : List StandingTest). tests_under ls p ++ ts) (tests_joined ls ps qs)
    ∙ sym (append_assoc (tests_under ls p) (tests_in_parts ls (parts ps)) (tests_in_parts ls (parts qs)))

module _ (n : Nest) (all : List NestedLoop) (Statement : Guarded → Type 0) (Source : Expression → Type 0) (Fair : Loop → Type 0) (Under : List NormalLoop → List Loop → Type 0)
    (Asked : StandingTest → Type 0) (steps : TestSteps n Source Fair Under Asked) where
  abbrev Each_of : List Loop → List Part → Type 0
  Each_of ls ps = Each Asked (tests_in_parts ls (parts ps))

  alone : (ts : List StandingTest) → Each Asked ts → Each Asked (ts ++ [])
  alone ts h = subst (Each Asked) (sym (append-nil ts)) h

  followed : (ls : List Loop) (ps qs : List Part) → Each_of ls ps → Each_of ls qs → Each_of ls (ps ++ qs)
  followed ls ps qs h k = subst (Each Asked) (sym (tests_joined ls ps qs)) (Each-append Asked (tests_in_parts ls (parts ps)) (tests_in_parts ls (parts qs)) h k)

  -- ---- a loop with its variable's last value

  module _ (round : List NormalLoop) (ls : List Loop) (l : Loop) (r : NormalLoop) (under : Under round ls) (fair : Fair l) (is : normal_loop n.symbols round l ≡ Some r) where
    before : Each_of ls (parts_before n.symbols n.line round r)
    unfolding parts_before
    before = by (is_positive r.trip)
      where
        by : (b : Bool) → Each_of ls (cond b [] (assigned_part n.line r.variable (first_text n.symbols round r) ∷ []))
        by true = tt
        by false = tt

    behind : Each_of ls (parts_behind n.symbols n.line round r)
    unfolding parts_behind
    behind = by (is_positive r.trip) (is_known r.trip)
      where
        by : (b c : Bool) → Each_of ls (cond b (end_part n.symbols n.line round r ∷ []) (cond c [] (only_where_part (at_least_one (own_trip_text n.symbols round r)) (end_part n.symbols n.line round r ∷ []) ∷ [])))
        by true c = tt
        by false true = tt
        by false false = (steps.own round ls l r under fair is, tt)

    placed_each : (p : Part) → Each Asked (tests_under ls p) → Each_of ls (placed_loop n all round r p)
    placed_each p h = by (stands_behind (length n.symbols) all n.body r.variable)
      where
        by : (b : Bool) → Each_of ls (cond b (p ∷ []) (parts_before n.symbols n.line round r ++ p ∷ parts_behind n.symbols n.line round r))
        by true = alone (tests_under ls p) h
        by false =
            followed ls (parts_before n.symbols n.line round r) (p ∷ parts_behind n.symbols n.line round r) before
            (Each-append Asked (tests_under ls p) (tests_in_parts ls (parts (parts_behind n.symbols n.line round r))) h behind)

  turned : (round : List NormalLoop) (ls : List Loop) (l : Loop) (ps : Parts) (o : Option NormalLoop) → normal_loop n.symbols round l ≡ o → Under round ls → Fair l
      → ((rs : List NormalLoop) (ms : List Loop) → Under rs ms → are_normal n.symbols rs ps ≡ true → Each_of ms (normal_parts n all rs ps))
      → (is_some o && are_normal n.symbols (with_loop round o) ps) ≡ true → Each_of ls (normal_turns n all round l o (normal_parts n all (with_loop round o) ps))
  turned round ls l ps None e u f more h = let no : ⊥ = cc in absurd no
  turned round ls l ps (Some r) e u f more h =
      placed_each round ls l r u f e (Turns (counting n.symbols round l r) (parts (normal_parts n all (round ++ r ∷ []) ps)))
      (more (round ++ r ∷ []) (ls ++ counting n.symbols round l r ∷ []) (steps.turns round ls l r u f e) h)

  -- ---- all parts

  mutual
    each : (round : List NormalLoop) (ls : List Loop) (p : Part) → Under round ls → is_normal n.symbols round p ≡ true → EachIn Statement Fair p → EachTest Source p
        → Each_of ls (normal_part n all round p)
    each round ls (Run s) u h g t = tt
    each round ls (Turns l ps) u h g t = turned round ls l ps (normal_loop n.symbols round l) refl u g.0 (λ rs ms v k. each_part rs ms ps v k g.1 t) h
    each round ls (Choice bs ps) u h g t =
        let b = both (are_normal_branches n.symbols round bs) (are_normal n.symbols round ps) h in
        alone (tests_in_branches ls (normal_branches n all round bs) ++ tests_in_parts ls (parts (normal_parts n all round ps)))
        (Each-append Asked (tests_in_branches ls (normal_branches n all round bs)) (tests_in_parts ls (parts (normal_parts n all round ps)))
        (each_branch round ls bs u b.0 g.0 t.0) (each_part round ls ps u b.1 g.1 t.1))
    each round ls (Label k) u h g t = tt
    each round ls (Jump k) u h g t = tt

    each_part : (round : List NormalLoop) (ls : List Loop) (ps : Parts) → Under round ls → are_normal n.symbols round ps ≡ true → EachInParts Statement Fair ps → EachTestIn Source ps
        → Each_of ls (normal_parts n all round ps)
    each_part round ls no_parts u h g t = tt
    each_part round ls (part p ps) u h g t =
        let b = both (is_normal n.symbols round p) (are_normal n.symbols round ps) h in
        followed ls (normal_part n all round p) (normal_parts n all round ps) (each round ls p u b.0 g.0 t.0) (each_part round ls ps u b.1 g.1 t.1)

    each_branch : (round : List NormalLoop) (ls : List Loop) (bs : Branches) → Under round ls → are_normal_branches n.symbols round bs ≡ true → EachInBranches Statement Fair bs
        → EachTestUnder Source bs → Each Asked (tests_in_branches ls (normal_branches n all round bs))
    each_branch round ls no_branches u h g t = tt
    each_branch round ls (branch test ps bs) u h g t =
        let b = both (are_normal n.symbols round ps) (are_normal_branches n.symbols round bs) h in
        Each-append Asked (standing_test ls (normal_test n.symbols round test) ∷ tests_in_parts ls (parts (normal_parts n all round ps))) (tests_in_branches ls (normal_branches n all round bs))
        (steps.test round ls test u t.0, each_part round ls ps u b.0 g.0 t.1) (each_branch round ls bs u b.1 g.1 t.2)

pub each_test : (n m : Nest) (Statement : Guarded → Type 0) (Source : Expression → Type 0) (Fair : Loop → Type 0) (Under : List NormalLoop → List Loop → Type 0) (Asked : StandingTest → Type 0)
    → TestSteps n Source Fair Under Asked → Under [] [] → EachIn Statement Fair n.body → EachTest Source n.body → IsMadeOf n m → Each Asked (tests_under [] m.body)
each_test n m Statement Source Fair Under Asked steps u g t h =
    subst (Each Asked) (append-nil (tests_under [] m.body))
    (subst (λ (ps : List Part). Each Asked (tests_in_parts [] (parts ps))) h.body (each n h.loops Statement Source Fair Under Asked steps [] [] n.body u h.normal g t))
