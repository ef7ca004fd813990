-- The instances of a nest as instances that store by what they read.
use Rattle.std.proofs.Common.{◌≡◌, refl, sym, ap, ◌∙◌, inl, inr, subst, ℕ, ℤ, pos, cond, List, [], ◌∷◌, map, Result, Ok, Err, Option}
use Rattle.tree.specs.Steps.{◌>>=◌}
use Rattle.std.specs.List.{AllByRecursion}
use Rattle.std.proofs.lemmas.List.Elements.{recursion_from_All}
use Rattle.tree.specs.declared.ops.Value.{Value}
use Rattle.tree.specs.declared.ops.Value.TheVariants.{Int}
use Rattle.tree.specs.declared.ops.Fault.{Fault}
use Rattle.meaning.specs.Dialect.{Dialect}
use Rattle.meaning.specs.Store.{Store, Cell, same_cell}
use Rattle.meaning.specs.Value.{bound_to}
use Rattle.meaning_laws.specs.arrays.Instances.{ComesFromReads, after, in_turn}
use Rattle.nest_order.specs.orders.Lists.{In}
use Rattle.nest_order.specs.orders.Orders.{and_then, runs}
use Rattle.nest_order.specs.orders.Shapes.{Instance}
use Rattle.nest_order.specs.runs.Guarded.{at_iterations, variable_cell}
use Rattle.nest_order.specs.runs.Nests.{RunNest, acts, effect_of, reads_of, variables_round}
use Rattle.nest_order.specs.runs.Laws.{as_instance, InstancesComeFromReads}
use Rattle.nest_order.proofs.runs.Framing.{effect-same}
use Rattle.nest_order.proofs.runs.Variables.{bounds_there}

all_in : {X : Type 0} (P : X → Type 0) (xs : List X) → AllByRecursion P xs → (x : X) → In x xs → P x
all_in P [] h x i = absurd i
all_in P (y ∷ xs) h x (inl e) = subst P (sym e) h.0
all_in P (y ∷ xs) h x (inr i) = all_in P xs h.1 x i

module _ (n : RunNest) (lang : Dialect) where
  held_at : (xs : List (List ℕ)) (is : List ℕ) (s t : Store) (c : Cell) → s.held c ≡ t.held c → (at_iterations xs is s).held c ≡ (at_iterations xs is t).held c
  held_at [] [] s t c e = e
  held_at [] (i ∷ is) s t c e = e
  held_at (x ∷ xs) [] s t c e = e
  held_at (x ∷ xs) (i ∷ is) s t c e = held_at xs is (bound_to x (pos i) s) (bound_to x (pos i) t) c (ap (cond (same_cell (variable_cell x) c) (Int (pos i))) e)

  abbrev there : Instance → Store → Store
  there x s = at_iterations (variables_round n x.statement) x.iterations s

  comes : (x : Instance) → ComesFromReads (as_instance n lang x)
  comes x = record {
    same = λ s t b h. effect-same lang (there x s) (there x t)
        (λ y. bounds_there n (variables_round n x.statement) x.iterations s y ∙ (ap (λ (f : List ℕ → Option (List (ℤ × ℤ))). f y) b ∙ sym (bounds_there n (variables_round n x.statement) x.iterations t y)))
        (n.statement_at x.statement)
        (λ d i. held_at (variables_round n x.statement) x.iterations s t d
        (all_in (λ c. s.held c ≡ t.held c) (reads_of n lang x s) (recursion_from_All (λ c. s.held c ≡ t.held c) (reads_of n lang x s) h) d i));
  }

  each_comes : (xs : List Instance) → AllByRecursion ComesFromReads (map (as_instance n lang) xs)
  each_comes [] = tt
  each_comes (x ∷ xs) = (comes x, each_comes xs)

  pub one_by_one : (xs : List Instance) (s : Store) → runs (acts n lang) xs s ≡ in_turn (map (as_instance n lang) xs) s
  one_by_one [] s = refl
  one_by_one (x ∷ xs) s = by (effect_of n lang x s) (λ t. one_by_one xs t)
    where
      by : (r : Result (Option (Cell × Value)) Fault) → ((t : Store) → runs (acts n lang) xs t ≡ in_turn (map (as_instance n lang) xs) t)
          → ◌≡◌ {A = Result Store Fault} (and_then (do o ← r; Ok (after o s)) (runs (acts n lang) xs)) (do o ← r; in_turn (map (as_instance n lang) xs) (after o s))
      by (Err f) more = refl
      by (Ok o) more = more (after o s)

pub instances_come_from_reads : InstancesComeFromReads
instances_come_from_reads n lang xs s = (each_comes n lang xs, one_by_one n lang xs s)
