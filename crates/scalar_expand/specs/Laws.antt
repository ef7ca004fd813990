-- Laws of scalar expansion.
use Rattle.std.specs.Prelude.{◌≡◌, ◌⊎◌, None, ℕ, ◌≤◌, ℤ, true, false, List, [], map}
use Rattle.meaning.specs.Run.{State, Going, does}
use Rattle.meaning.specs.Store.{Store, is_within}
use Rattle.rewrite.specs.Following.{IsSound, sequential}
use Rattle.nest.specs.Blocks.{statement_of_part}
use Rattle.nest.specs.Bodies.{Standing, nest_loops, nest_statements}
use Rattle.nest.specs.Plain.{Loop, Nest, Part, Parts, Turns}
use Rattle.nest_order.specs.orders.Lists.{Distinct, In}
use Rattle.nest_steps.specs.Leading.{Led}
use Rattle.scalar_expand.specs.Expanded.{declared_privates, expanded, expanded_part, expanding, has_known_end}
use Rattle.scalar_expand.specs.Flow.{AreTurns, Counts, EachLoop, Fits, Flows, lasts_of}
use Rattle.scalar_expand.specs.Privates.{private_scalars, round_loop}
use Rattle.scalar_expand.specs.Stores.{AreApart, AreSo, all_at, numbers}
use Rattle.scalar_expand.specs.declared.privates.Private.{Private}

-- what holds the same in both stores where no loop is being run: it is copied at the end of each turn, or no turn of
-- its loops is entered
abbrev pub IsKept : List Private → (Private → List ℕ) → Private → Type 0
IsKept own lasts p = In p own × ((has_known_end p ≡ false) ⊎ In 0 (lasts p))

-- each array has an element for each iteration of the loops round its scalar, where the loops have so many turns
abbrev pub Cover : List Private → (Private → List (ℤ × ℤ)) → (List ℕ → Loop → ℕ) → Type 0
Cover ps limits trip = (p : Private) → In p ps → (ls : List Loop) → p.loops ≡ map round_loop ls → (is : List ℕ)
    → AreTurns trip [] ls is → is_within (limits p) (numbers is) ≡ true

-- lasts: the last iteration of the loops round a private scalar, where each has a turn
abbrev pub End : List Private → (Private → List ℕ) → (List ℕ → Loop → ℕ) → Type 0
End ps lasts trip = (p : Private) → In p ps → (ls : List Loop) → p.loops ≡ map round_loop ls
    → lasts p ≡ lasts_of trip [] ls

-- where no trip depends on the loops round it, it is the same in each of their turns
abbrev pub Steady : List Private → (List ℕ → Loop → ℕ) → Type 0
Steady ps trip = (p : Private) → In p ps → has_known_end p ≡ true → (ls : List Loop) → p.loops ≡ map round_loop ls
    → (l : Loop) → In l ls → (is js : List ℕ) → trip is l ≡ trip js l

-- The scalars ps are private in the loop q, and `own` among them are declared. From stores that are alike but for these
-- scalars, where their arrays are allocated in the second one, and the loop meets no fault, it goes on, and so does the
-- expanded loop. The stores are then alike again but for these scalars. Of each that is declared holds either the
-- scalar the same in both, or the element of the last iteration what the scalar holds
abbrev pub ExpandedLoopGoesOn : Type 0
ExpandedLoopGoesOn =
    (bits line : ℕ) (ps own behind : List Private) (limits : Private → List (ℤ × ℤ)) (lasts : Private → List ℕ)
    (symbols counters : List (List ℕ)) (value : List ℕ → ℤ) (trip : List ℕ → Loop → ℕ) (q : Part) (s : State)
    (u : Store) (n : ℕ) → 31 ≤ bits
    → AreApart bits ps limits lasts symbols value (λ z. In z counters) (λ p. In p own)
    → ((p : Private) → In p own → In p ps) → Cover ps limits trip → End ps lasts trip → Steady ps trip
    → Flows ps symbols (λ z. In z counters) bits value trip [] [] [] q [] behind → s.way ≡ Going
    → AreSo bits ps limits lasts symbols value (λ z. In z counters) (λ p. In p own) [] [] [] [] (IsKept own lasts)
    s.store u
    → IsSound (does (sequential bits) None (statement_of_part line q) s).way
    → Led
    (AreSo bits ps limits lasts symbols value (λ z. In z counters) (λ p. In p own) [] [] [] (all_at [] behind)
    (IsKept own lasts))
    (does (sequential bits) None (statement_of_part line q) s)
    (does (sequential bits) None (statement_of_part line (expanded_part line (expanding ps) own q))
    (record s { store = u; steps = n }))

-- ---- nests

abbrev pub own_of : Nest → List Private
own_of m = declared_privates (private_scalars m) m.declarations

-- What is asked of a nest of one loop, in which loops and statements stand alone: its loops go from 1 by 1 to their
-- trips, and have numbers of their own; its statements are those of FORTRAN 77; its private scalars and their arrays
-- have names of their own, and the arrays have elements for all iterations
pub record IsExpandable (bits : ℕ) (m : Nest) (limits : Private → List (ℤ × ℤ)) (lasts : Private → List ℕ)
    (counters : List (List ℕ)) (value : List ℕ → ℤ) (trip : List ℕ → Loop → ℕ) : Type 0 where
  pub loop : Loop
  pub body : Parts
  pub turns : m.body ≡ Turns loop body
  pub loops : EachLoop (Counts (private_scalars m) m.symbols (λ z. In z counters) bits value trip) [] m.body
  pub once : Distinct (map (λ (l : Loop). l.number) (nest_loops m))
  pub statements : (x : Standing) → In x (nest_statements m)
      → Fits (private_scalars m) m.symbols (λ z. In z counters) x.statement
  pub names :
      AreApart bits (private_scalars m) limits lasts m.symbols value (λ z. In z counters) (λ p. In p (own_of m))
  pub cover : Cover (private_scalars m) limits trip
  pub end : End (private_scalars m) lasts trip
  pub steady : Steady (private_scalars m) trip

-- two stores that are alike but for the nest's private scalars; of these private scalars the loops have ended
abbrev pub AreAlike : ℕ → Nest → (Private → List (ℤ × ℤ)) → (Private → List ℕ) → List (List ℕ) → (List ℕ → ℤ)
    → List Private → Store → Store → Type 0
AreAlike bits m limits lasts counters value ended =
    AreSo bits (private_scalars m) limits lasts m.symbols value (λ z. In z counters) (λ p. In p (own_of m)) [] [] []
    (all_at [] ended) (IsKept (own_of m) lasts)

-- From such stores, where the nest's loops meet no fault, those of the expanded nest meet none, and lead to such
-- stores; then the loops of all private scalars have ended
abbrev pub ExpandedNestGoesOn : Type 0
ExpandedNestGoesOn =
    (bits : ℕ) (m : Nest) (limits : Private → List (ℤ × ℤ)) (lasts : Private → List ℕ) (counters : List (List ℕ))
    (value : List ℕ → ℤ) (trip : List ℕ → Loop → ℕ) (s : State) (u : Store) (n : ℕ) → 31 ≤ bits
    → IsExpandable bits m limits lasts counters value trip → s.way ≡ Going
    → AreAlike bits m limits lasts counters value [] s.store u
    → IsSound (does (sequential bits) None (statement_of_part m.line m.body) s).way
    → Led (AreAlike bits m limits lasts counters value (private_scalars m))
    (does (sequential bits) None (statement_of_part m.line m.body) s)
    (does (sequential bits) None (statement_of_part m.line (expanded m).body) (record s { store = u; steps = n }))
