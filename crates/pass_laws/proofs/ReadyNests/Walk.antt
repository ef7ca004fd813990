-- The statements that are made of a nest, one after the other.
use Rattle.std.proofs.Common.{◌≡◌, refl, sym, subst, ℕ, Bool, true, false, cond, ◌&&◌, List, [], ◌∷◌, ◌++◌, length, Option, Some, None}
use Rattle.std.specs.Prelude.{is_some}
use Rattle.std.proofs.lemmas.List.{append-nil}
use Rattle.tree.specs.Plain.{Expression}
use Rattle.linear_forms.proofs.Sizes.{both}
use Rattle.components.specs.Lists.{Each}
use Rattle.components.proofs.ListLaws.{Each-append}
use Rattle.nest.specs.Plain.{Loop, Guarded, Part, Run, Turns, Choice, Label, Jump, Parts, no_parts, part, parts, Branches, no_branches, branch, Nest}
use Rattle.nest.specs.Bodies.{Standing, statements_in, statements_in_parts, statements_in_branches, nest_statements}
use Rattle.last_values.specs.normal_forms.NormalLoops.{normal_loop, is_positive, is_known}
use Rattle.last_values.specs.normal_forms.Texts.{at_least_one}
use Rattle.last_values.specs.declared.normal_forms.loops.NormalLoop.{NormalLoop}
use Rattle.last_values.specs.Behind.{stands_behind}
use Rattle.last_values.specs.Scalars.{scalar}
use Rattle.last_values.specs.InPlace.{assigned_part, first_text, own_trip_text, end_text, end_part}
use Rattle.last_values.specs.PartsInPlace.{only_where_part, parts_before, parts_behind}
use Rattle.last_values.specs.declared.behind.NestedLoop.{NestedLoop}
use Rattle.normal_loops.specs.Bodies.{placed_loop, normal_turns, normal_part, normal_parts, normal_branches}
use Rattle.normal_loops.specs.Counting.{counting}
use Rattle.normal_loops.specs.Loops.{with_loop}
use Rattle.normal_loops.specs.Normal.{is_normal, are_normal, are_normal_branches}
use Rattle.normal_loops.specs.Values.{normal_statement}
use Rattle.pass_laws.proofs.ReadyNests.Lists.{statements_joined}
use Rattle.pass_laws.proofs.ReadyNests.Made.{IsMadeOf}

-- each statement of a part is one, and each loop another
module _ (Source : Guarded → Type 0) (Fair : Loop → Type 0) where
  abbrev mutual
    pub EachIn : Part → Type 0
    EachIn (Run s) = Source s
    EachIn (Turns l ps) = Fair l × EachInParts ps
    EachIn (Choice bs ps) = EachInBranches bs × EachInParts ps
    EachIn (Label k) = Unit {0}
    EachIn (Jump k) = Unit {0}

    pub EachInParts : Parts → Type 0
    EachInParts no_parts = Unit {0}
    EachInParts (part p ps) = EachIn p × EachInParts ps

    pub EachInBranches : Branches → Type 0
    EachInBranches no_branches = Unit {0}
    EachInBranches (branch test ps bs) = EachInParts ps × EachInBranches bs

abbrev pub standing : List Loop → Guarded → Standing
standing ls s = record { loops = ls; statement = s }

-- a statement that gives a variable its value in place
abbrev pub assigning : ℕ → List ℕ → Expression → Guarded
assigning line v e = record { line = line; guard = None; left = scalar v; right = e }

-- What is made of statements and loops of the nest n is as is asked, where `Under` holds of the loops from 1 by 1 and of
-- the loops that are made of them
pub record Steps (n : Nest) (Source : Guarded → Type 0) (Fair : Loop → Type 0) (Under : List NormalLoop → List Loop → Type 0) (Asked : Standing → Type 0) : Type 0 where
  pub run : (round : List NormalLoop) (ls : List Loop) (s : Guarded) → Under round ls → Source s → Asked (standing ls (normal_statement n.symbols round s))
  pub turns : (round : List NormalLoop) (ls : List Loop) (l : Loop) (r : NormalLoop) → Under round ls → Fair l → normal_loop n.symbols round l ≡ Some r
      → Under (round ++ r ∷ []) (ls ++ counting n.symbols round l r ∷ [])
  pub first : (round : List NormalLoop) (ls : List Loop) (l : Loop) (r : NormalLoop) → Under round ls → Fair l → normal_loop n.symbols round l ≡ Some r
      → Asked (standing ls (assigning n.line r.variable (first_text n.symbols round r)))
  pub end : (round : List NormalLoop) (ls : List Loop) (l : Loop) (r : NormalLoop) → Under round ls → Fair l → normal_loop n.symbols round l ≡ Some r
      → Asked (standing ls (assigning n.line r.variable (end_text n.symbols round r)))

module _ (n : Nest) (all : List NestedLoop) (Source : Guarded → Type 0) (Fair : Loop → Type 0) (Under : List NormalLoop → List Loop → Type 0) (Asked : Standing → Type 0)
    (steps : Steps n Source Fair Under Asked) where
  abbrev Each_of : List Loop → List Part → Type 0
  Each_of ls ps = Each Asked (statements_in_parts ls (parts ps))

  alone : (ss : List Standing) → Each Asked ss → Each Asked (ss ++ [])
  alone ss h = subst (Each Asked) (sym (append-nil ss)) h

  followed : (ls : List Loop) (ps qs : List Part) → Each_of ls ps → Each_of ls qs → Each_of ls (ps ++ qs)
  followed ls ps qs h k =
      subst (Each Asked) (sym (statements_joined ls ps qs)) (Each-append Asked (statements_in_parts ls (parts ps)) (statements_in_parts ls (parts qs)) h k)

  -- ---- a loop with its variable's last value

  module _ (round : List NormalLoop) (ls : List Loop) (l : Loop) (r : NormalLoop) (under : Under round ls) (fair : Fair l) (is : normal_loop n.symbols round l ≡ Some r) where
    before : Each_of ls (parts_before n.symbols n.line round r)
    unfolding parts_before
    before = by (is_positive r.trip)
      where
        by : (b : Bool) → Each_of ls (cond b [] (assigned_part n.line r.variable (first_text n.symbols round r) ∷ []))
        by true = tt
        by false = (steps.first round ls l r under fair is, tt)

    behind : Each_of ls (parts_behind n.symbols n.line round r)
    unfolding parts_behind
    behind = by (is_positive r.trip) (is_known r.trip)
      where
        by : (b c : Bool) → Each_of ls (cond b (end_part n.symbols n.line round r ∷ []) (cond c [] (only_where_part (at_least_one (own_trip_text n.symbols round r)) (end_part n.symbols n.line round r ∷ []) ∷ [])))
        by true c = (steps.end round ls l r under fair is, tt)
        by false true = tt
        by false false = (steps.end round ls l r under fair is, tt)

    placed_each : (p : Part) → Each Asked (statements_in ls p) → Each_of ls (placed_loop n all round r p)
    placed_each p h = by (stands_behind (length n.symbols) all n.body r.variable)
      where
        by : (b : Bool) → Each_of ls (cond b (p ∷ []) (parts_before n.symbols n.line round r ++ p ∷ parts_behind n.symbols n.line round r))
        by true = alone (statements_in ls p) h
        by false =
            followed ls (parts_before n.symbols n.line round r) (p ∷ parts_behind n.symbols n.line round r) before
            (Each-append Asked (statements_in ls p) (statements_in_parts ls (parts (parts_behind n.symbols n.line round r))) h behind)

  turned : (round : List NormalLoop) (ls : List Loop) (l : Loop) (ps : Parts) (o : Option NormalLoop) → normal_loop n.symbols round l ≡ o → Under round ls → Fair l
      → ((rs : List NormalLoop) (ms : List Loop) → Under rs ms → are_normal n.symbols rs ps ≡ true → Each_of ms (normal_parts n all rs ps))
      → (is_some o && are_normal n.symbols (with_loop round o) ps) ≡ true → Each_of ls (normal_turns n all round l o (normal_parts n all (with_loop round o) ps))
  turned round ls l ps None e u f more h = let no : ⊥ = cc in absurd no
  turned round ls l ps (Some r) e u f more h =
      placed_each round ls l r u f e (Turns (counting n.symbols round l r) (parts (normal_parts n all (round ++ r ∷ []) ps)))
      (more (round ++ r ∷ []) (ls ++ counting n.symbols round l r ∷ []) (steps.turns round ls l r u f e) h)

  -- ---- all parts

  mutual
    each : (round : List NormalLoop) (ls : List Loop) (p : Part) → Under round ls → is_normal n.symbols round p ≡ true → EachIn Source Fair p → Each_of ls (normal_part n all round p)
    each round ls (Run s) u h g = (steps.run round ls s u g, tt)
    each round ls (Turns l ps) u h g = turned round ls l ps (normal_loop n.symbols round l) refl u g.0 (λ rs ms v k. each_part rs ms ps v k g.1) h
    each round ls (Choice bs ps) u h g =
        let b = both (are_normal_branches n.symbols round bs) (are_normal n.symbols round ps) h in
        alone (statements_in_branches ls (normal_branches n all round bs) ++ statements_in_parts ls (parts (normal_parts n all round ps)))
        (Each-append Asked (statements_in_branches ls (normal_branches n all round bs)) (statements_in_parts ls (parts (normal_parts n all round ps)))
        (each_branch round ls bs u b.0 g.0) (each_part round ls ps u b.1 g.1))
    each round ls (Label k) u h g = tt
    each round ls (Jump k) u h g = tt

    each_part : (round : List NormalLoop) (ls : List Loop) (ps : Parts) → Under round ls → are_normal n.symbols round ps ≡ true → EachInParts Source Fair ps → Each_of ls (normal_parts n all round ps)
    each_part round ls no_parts u h g = tt
    each_part round ls (part p ps) u h g =
        let b = both (is_normal n.symbols round p) (are_normal n.symbols round ps) h in
        followed ls (normal_part n all round p) (normal_parts n all round ps) (each round ls p u b.0 g.0) (each_part round ls ps u b.1 g.1)

    each_branch : (round : List NormalLoop) (ls : List Loop) (bs : Branches) → Under round ls → are_normal_branches n.symbols round bs ≡ true → EachInBranches Source Fair bs
        → Each Asked (statements_in_branches ls (normal_branches n all round bs))
    each_branch round ls no_branches u h g = tt
    each_branch round ls (branch test ps bs) u h g =
        let b = both (are_normal n.symbols round ps) (are_normal_branches n.symbols round bs) h in
        Each-append Asked (statements_in_parts ls (parts (normal_parts n all round ps))) (statements_in_branches ls (normal_branches n all round bs))
        (each_part round ls ps u b.0 g.0) (each_branch round ls bs u b.1 g.1)

pub each_statement : (n m : Nest) (Source : Guarded → Type 0) (Fair : Loop → Type 0) (Under : List NormalLoop → List Loop → Type 0) (Asked : Standing → Type 0)
    → Steps n Source Fair Under Asked → Under [] [] → EachIn Source Fair n.body → IsMadeOf n m → Each Asked (nest_statements m)
each_statement n m Source Fair Under Asked steps u g h =
    subst (Each Asked) (append-nil (nest_statements m))
    (subst (λ (ps : List Part). Each Asked (statements_in_parts [] (parts ps))) h.body (each n h.loops Source Fair Under Asked steps [] [] n.body u h.normal g))
