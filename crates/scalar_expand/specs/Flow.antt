-- Which private scalars have their values where, along the text of a nest: a turn of a loop begins them one after
-- another, and none is read before it has begun.
use Rattle.std.specs.Prelude.{◌≡◌, ⊤, ◌⊎◌, Ok, Option, Some, None, ℕ, ◌≤◌, ℤ, pos, true, List, [], ◌∷◌, ◌++◌, map}
use Rattle.tree.specs.Plain.{Number}
use Rattle.tree.specs.declared.ops.Value.TheVariants.{Int}
use Rattle.meaning.specs.Reads.{names_in, names_in_subscripts}
use Rattle.meaning.specs.Store.{Store}
use Rattle.meaning.specs.Value.{number_of, trip_count}
use Rattle.rewrite.specs.Following.{sequential}
use Rattle.nest.specs.Plain.{Guarded, Loop, Part, Run, Turns, Choice, Label, Jump, Parts, no_parts, part}
use Rattle.nest_order.specs.orders.Lists.{In}
use Rattle.nest_order.specs.runs.Guarded.{names_of_guard}
use Rattle.nest_order.specs.runs.Touched.{ArePlain, IsPlain, IsPlainGuard}
use Rattle.nest_steps.specs.Rounds.{Hold}
use Rattle.nest_steps.specs.Statements.{cell_of}
use Rattle.last_values.specs.Occurrences.{stands_in_statement}
use Rattle.last_values.specs.Scalars.{scalar}
use Rattle.scalar_expand.specs.Expanded.{is_innermost, named_private}
use Rattle.scalar_expand.specs.Privates.{round_loop}
use Rattle.scalar_expand.specs.Stores.{arrays}
use Rattle.scalar_expand.specs.declared.privates.Private.{Private}
use Rattle.scalar_expand.specs.declared.privates.RoundLoop.{RoundLoop}

-- symbols: what the nest doesn't write
module _ (ps : List Private) (symbols : List (List ℕ)) (IsCounter : List ℕ → Type 0) where
  -- a name that may be read: no array's, and where it is a private scalar's, one that has begun
  abbrev pub MayBeRead : List Private → Option Private → List ℕ → Type 0
  MayBeRead begun None z = ¬ In z (arrays ps)
  MayBeRead begun (Some p) z = In p begun

  abbrev pub MayAllBeRead : List Private → List (List ℕ) → Type 0
  MayAllBeRead begun zs = (z : List ℕ) → In z zs → MayBeRead begun (named_private ps z) z

  -- a statement of FORTRAN 77 that reads, and writes, what has begun
  pub record GoesOn (begun : List Private) (g : Guarded) : Type 0 where
    pub guard_plain : IsPlainGuard g.guard
    pub guard : MayAllBeRead begun (names_of_guard g.guard)
    pub right_plain : IsPlain g.right
    pub right : MayAllBeRead begun (names_in g.right)
    pub left_plain : ArePlain g.left.subscripts
    pub left : MayAllBeRead begun (names_in_subscripts g.left.subscripts)
    pub target : MayBeRead begun (named_private ps g.left.name) g.left.name
    pub counts_none : ¬ IsCounter g.left.name
    pub free : ¬ In g.left.name symbols

  -- one that gives a private scalar its value in a turn of its loop
  pub record Begins (ls : List Loop) (begun : List Private) (p : Private) (g : Guarded) : Type 0 where
    pub among : In p ps
    pub loops : p.loops ≡ map round_loop ls
    pub always : g.guard ≡ None
    pub left : g.left ≡ scalar p.name
    pub right_plain : IsPlain g.right
    pub right : MayAllBeRead begun (names_in g.right)
    pub first : ¬ In p begun

  -- what is asked of a statement of the nest: it is one of FORTRAN 77, which names no array that is to be made
  pub record Fits (g : Guarded) : Type 0 where
    pub guard_plain : IsPlainGuard g.guard
    pub right_plain : IsPlain g.right
    pub left_plain : ArePlain g.left.subscripts
    pub counts_none : ¬ IsCounter g.left.name
    pub free : ¬ In g.left.name symbols
    pub unnamed : (z : List ℕ) → stands_in_statement z g ≡ true → named_private ps z ≡ None → ¬ In z (arrays ps)
    pub whole : (p : Private) → named_private ps g.left.name ≡ Some p → g.left ≡ scalar g.left.name

  -- trip: how many turns a loop has where the loops round it are at these iterations; value: what the symbols hold
  module _ (bits : ℕ) (value : List ℕ → ℤ) (trip : List ℕ → Loop → ℕ) where
    -- a store in which counters are scalars, and symbols hold their values
    pub record Holds (s : Store) : Type 0 where
      pub counters : (z : List ℕ) → IsCounter z → s.bounds z ≡ Some []
      pub fixed : (z : List ℕ) → In z symbols → (s.bounds z ≡ Some []) × (s.held (cell_of z) ≡ Int (value z))

    -- A loop from 1 by 1 that counts by a name of its own; its last value reads no private scalar and is its trip
    pub record Counts (ls : List Loop) (l : Loop) : Type 0 where
      pub first : l.first ≡ Number (pos 1)
      pub step : l.step ≡ pos 1
      pub counter : IsCounter l.variable
      pub own : (o : Loop) → In o ls → ¬ (l.variable ≡ o.variable)
      pub last : (z : List ℕ) → In z (names_in l.last) → (named_private ps z ≡ None) × (¬ In z (arrays ps))
      pub turns : (is : List ℕ) (s : Store) (z : ℤ) (n : ℕ) → Holds s → Hold ls is s
          → number_of (sequential bits) l.last s ≡ Ok z → trip_count (pos 1) z (pos 1) ≡ Ok n → trip is l ≡ n

    -- none of what has begun counts by its name
    abbrev pub CountsAnew : List Private → Loop → Type 0
    CountsAnew begun l = (p : Private) → In p begun → (k : RoundLoop) → In k p.loops → ¬ (l.variable ≡ k.variable)

    -- what a loop's body begins: news in its own body, inner in loops further in
    pub record AreOfLoop (ls : List Loop) (l : Loop) (begun past news inner : List Private) : Type 0 where
      pub own : (p : Private) → In p news → p.loops ≡ map round_loop (ls ++ l ∷ [])
      pub all : (p : Private) → In p ps → is_innermost l.number p.loops ≡ true → In p news
      pub among : (p : Private) → In p (news ++ inner) → In p ps
      pub apart : (p : Private) → In p (news ++ inner) → (¬ In p begun) × (¬ In p past)
      pub path : (p : Private) → In p (news ++ inner)
          → (more : List Loop) × (p.loops ≡ map round_loop (ls ++ l ∷ more))

    abbrev pub AreOthers : List Private → List Private → Type 0
    AreOthers begun past = (p : Private) → In p begun → ¬ In p past

    -- begun: the private scalars that have their values at a place; past: those whose loops have ended. Behind a loop
    -- what its body began is past
    abbrev mutual
      pub Flows : List Loop → List Private → List Private → Part → List Private → List Private → Type 0
      Flows ls begun past (Run g) after behind =
          (GoesOn begun g × AreOthers begun past × (after ≡ begun) × (behind ≡ past))
          ⊎ ((p : Private) × Begins ls begun p g × (¬ In p past) × (after ≡ p ∷ begun) × (behind ≡ past))
      Flows ls begun past (Turns l qs) after behind =
          Counts ls l × CountsAnew begun l × (after ≡ begun)
          × ((news : List Private) × (inner : List Private)
          × FlowsIn (ls ++ l ∷ []) begun past qs (news ++ begun) (inner ++ past)
          × AreOfLoop ls l begun past news inner × (behind ≡ (news ++ inner) ++ past))
      Flows ls begun past (Choice bs qs) after behind = ⊥
      Flows ls begun past (Label n) after behind = ⊥
      Flows ls begun past (Jump n) after behind = ⊥

      pub FlowsIn : List Loop → List Private → List Private → Parts → List Private → List Private → Type 0
      FlowsIn ls begun past no_parts after behind = (after ≡ begun) × (behind ≡ past)
      FlowsIn ls begun past (part q qs) after behind =
          (middle : List Private) × (between : List Private) × Flows ls begun past q middle between
          × FlowsIn ls middle between qs after behind × ((p : Private) → In p middle → In p ps)

-- loops and statements alone, and what is asked of each loop under those round it
module _ (Asked : List Loop → Loop → Type 0) where
  abbrev mutual
    pub EachLoop : List Loop → Part → Type 0
    EachLoop ls (Run g) = Unit {0}
    EachLoop ls (Turns l qs) = Asked ls l × EachLoopIn (ls ++ l ∷ []) qs
    EachLoop ls (Choice bs qs) = ⊥
    EachLoop ls (Label n) = ⊥
    EachLoop ls (Jump n) = ⊥

    pub EachLoopIn : List Loop → Parts → Type 0
    EachLoopIn ls no_parts = Unit {0}
    EachLoopIn ls (part q qs) = EachLoop ls q × EachLoopIn ls qs

-- these iterations are turns of the loops, behind those that are done
abbrev pub AreTurns : (List ℕ → Loop → ℕ) → List ℕ → List Loop → List ℕ → Type 0
AreTurns trip done [] [] = ⊤
AreTurns trip done [] (i ∷ is) = ⊥
AreTurns trip done (l ∷ ls) [] = ⊥
AreTurns trip done (l ∷ ls) (i ∷ is) = (1 ≤ i) × (i ≤ trip done l) × AreTurns trip (done ++ i ∷ []) ls is

-- the last iteration of each of the loops, behind those that are done
abbrev pub lasts_of : (List ℕ → Loop → ℕ) → List ℕ → List Loop → List ℕ
lasts_of trip done [] = []
lasts_of trip done (l ∷ ls) = trip done l ∷ lasts_of trip (done ++ trip done l ∷ []) ls
