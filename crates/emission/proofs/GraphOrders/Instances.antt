-- The instances of a nest, and the cells that they may name, by whole numbers.
use Rattle.std.proofs.Common.{◌≡◌, refl, ap, ◌∙◌, subst, inl, inr, ℕ, suc, ◌≤◌, leb, Bool, true, false, cond}
use Rattle.std.proofs.Common.{List, [], ◌∷◌, ◌++◌, map, Option, Some, None, ℤ, pos, negsuc, ◌≤ℤ◌, MatchOption, arith}
use Rattle.std.specs.Prelude.{⊤}
use Rattle.std.proofs.lemmas.Int.{ints}
use Rattle.std.proofs.lemmas.List.{map-append}
use Rattle.tree.specs.Plain.{Expression, Only, Section, Subscripts, no_subscripts, subscript, Reference}
use Rattle.meaning.specs.Store.{Cell}
use Rattle.linear_forms.specs.Linear.{Form, form_of, number_at}
use Rattle.nest_order.specs.facts.Facts as facts
use Rattle.nest_order.specs.facts.Facts.{counted, number_by}
use Rattle.dependence_graph.specs.nest_graph.Instances.{AreTurns, IsWithinTrip, turns_at}
use Rattle.dependence_graph.specs.nest_graph.Touched as graph
use Rattle.nest_order.specs.orders.Lists.{In}
use Rattle.nest_order.specs.orders.Shapes.{Within}
use Rattle.nest_order.specs.runs.Nests as runs
use Rattle.nest_order.specs.runs.Touched.{MayHave, MayHaveEach, MayName}
use Rattle.nest_order.specs.shapes.Shapes.{loop_numbered, numbers_of}
use Rattle.nest.specs.Bodies.{nest_loops}
use Rattle.nest.specs.Plain.{Loop, Nest}
use Rattle.nest.specs.declared.parts.Trip.{Trip}
use Rattle.emission.specs.graph_orders.Nests.{turns_in, turns_of_loop, turns_of_trip}

-- ---- iterations

below_counted : (i : ℕ) (z : ℤ) → 1 ≤ i → i ≤ counted z → pos i ≤ℤ z
below_counted i (negsuc k) low high = absurd (omega arith)
below_counted i (pos k) low high = by (leb k 2147483646) high
  where
    by : (b : Bool) → i ≤ cond b k 0 → pos i ≤ℤ pos k
    by true h = omega (arith, ints)
    by false h = absurd (omega arith)

one_turn : (t : Option Trip) (values : ℕ → ℤ) (before : List ℕ) (i : ℕ) → 1 ≤ i → i ≤ turns_of_trip t values before
    → IsWithinTrip t values (map pos before) (pos i)
one_turn None values before i low high = absurd (omega arith)
one_turn (Some t) values before i low high =
    ((let e : pos 1 ≤ℤ pos i = omega (arith, ints) in e), below_counted i (turns_at t values (map pos before)) low high)

pub turns_are : (n : Nest) (values : ℕ → ℤ) (before is : List ℕ) (ls : List Loop)
    → ((l : Loop) → In l ls → loop_numbered (nest_loops n) l.number ≡ Some l)
    → Within (turns_in n values) before (numbers_of ls) is → AreTurns values (map pos before) ls (map pos is)
turns_are n values before [] [] known w = tt
turns_are n values before (i ∷ is) [] known w = absurd w
turns_are n values before [] (l ∷ ls) known w = absurd w
turns_are n values before (i ∷ is) (l ∷ ls) known w = (
  one_turn l.trip values before i w.0
      (subst (λ (o : Option Loop). i ≤ turns_of_loop o values before) (known l (inl refl)) w.1),
  subst (λ outer. AreTurns values outer ls (map pos is)) (map-append pos before (i ∷ []))
      (turns_are n values (before ++ i ∷ []) is ls (λ m j. known m (inr j)) w.2),
)

-- ---- cells

same_values : (values : ℕ → ℤ) (k : ℕ) (xs : List (List ℕ)) → facts.values_from values k xs ≡ graph.symbol_values_from values k xs
same_values values k [] = refl
same_values values k (x ∷ xs) = ap (λ zs. values k ∷ zs) (same_values values (suc k) xs)

module _ (r : runs.RunNest) (k : ℕ) (vars symbols : List (List ℕ)) (values : ℕ → ℤ) (is : List ℕ)
    (linear : (e : Expression) → r.linear k e ≡ number_by symbols (form_of vars symbols e)) where
  one_number : (o : Option Form) (z : ℤ) → MayHave r values is (number_by symbols o) z
      → MatchOption o ⊤ (λ (f : Form). z ≡ number_at f (map pos is ++ graph.symbol_values_from values 0 symbols))
  one_number None z h = tt
  one_number (Some f) z h = h ∙ ap (λ zs. number_at f (map pos is ++ zs)) (same_values values 0 symbols)

  each_number : (ps : Subscripts) (zs : List ℤ) → MayHaveEach r values k is ps zs
      → graph.AreSubscriptsAt vars symbols values (map pos is) ps zs
  each_number no_subscripts [] h = tt
  each_number no_subscripts (z ∷ zs) h = absurd h
  each_number (subscript (Only e) ps) [] h = absurd h
  each_number (subscript (Only e) ps) (z ∷ zs) h =
      (one_number (form_of vars symbols e) z (subst (λ o. MayHave r values is o z) (linear e) h.0), each_number ps zs h.1)
  each_number (subscript (Section a b c) ps) zs h = absurd h

  pub touches_are : (u : Reference) (c : Cell) → MayName r values k is u c
      → graph.Touches vars symbols values (map pos is) u c
  touches_are u c h = record { name = h.name; subscripts = each_number u.subscripts c.subscripts h.subscripts }
