-- The loops round the statements of what is made of a nest.
use Rattle.std.proofs.Common.{◌≡◌, refl, sym, ap, ◌∙◌, subst, ℕ, suc, ◌+◌, ◌≤◌, List, [], ◌∷◌, ◌++◌, length, length-append, Some, arith}
use Rattle.components.specs.Lists.{Each}
use Rattle.components.proofs.ListLaws.{Each-append}
use Rattle.nest.specs.Plain.{Loop, Guarded, Part, Run, Turns, Choice, Label, Jump, Parts, no_parts, part, Branches, no_branches, branch, Nest}
use Rattle.nest.specs.Bodies.{nest_statements}
use Rattle.dependence_graph.specs.nest_graph.Ready.{IsTripIn, HasTrip, HaveTrips}
use Rattle.last_values.specs.normal_forms.NormalLoops.{normal_loop}
use Rattle.last_values.specs.declared.normal_forms.loops.NormalLoop.{NormalLoop}
use Rattle.last_values.specs.InPlace.{first_text, end_text}
use Rattle.normal_loops.specs.Counting.{counting}
use Rattle.normal_loops.specs.Values.{normal_statement}
use Rattle.pass_laws.specs.ready_nests.Trips.{IsInTrips, NormalTripsAreForms}
use Rattle.pass_laws.proofs.ReadyNests.Lists.{Each-All}
use Rattle.pass_laws.proofs.ReadyNests.LoopForms.{HaveZeros, HaveZeros-later, normal_loop_is}
use Rattle.pass_laws.proofs.ReadyNests.Made.{IsMadeOf, made_of}
use Rattle.pass_laws.proofs.ReadyNests.Sums.{Zero}
use Rattle.pass_laws.proofs.ReadyNests.Walk.{EachIn, EachInParts, EachInBranches, Steps, assigning, each_statement}

-- ---- what stands in a part, of which nothing is asked

abbrev any_statement : Guarded → Type 0
any_statement s = Unit {0}

abbrev any_loop : Loop → Type 0
any_loop l = Unit {0}

mutual
  any : (p : Part) → EachIn any_statement any_loop p
  any (Run s) = tt
  any (Turns l ps) = (tt, any_part ps)
  any (Choice bs ps) = (any_branch bs, any_part ps)
  any (Label k) = tt
  any (Jump k) = tt

  any_part : (ps : Parts) → EachInParts any_statement any_loop ps
  any_part no_parts = tt
  any_part (part p ps) = (any p, any_part ps)

  any_branch : (bs : Branches) → EachInBranches any_statement any_loop bs
  any_branch no_branches = tt
  any_branch (branch test ps bs) = (any_part ps, any_branch bs)

-- ---- loops from the outside in

-- loops from 1 by 1, and the loops of the nest that are made of them
pub record AreLoops (round : List NormalLoop) (ls : List Loop) : Type 0 where
  pub few : length round ≤ 7
  pub as_many : length ls ≡ length round
  pub trips : HaveTrips 0 ls
  pub zeros : HaveZeros (length round) round

one_more : {A : Type 0} (xs : List A) (x : A) → length (xs ++ x ∷ []) ≡ suc (length xs)
one_more xs x = length-append xs (x ∷ []) ∙ omega arith

trips_more : (d e : ℕ) (ls : List Loop) (l : Loop) → e ≡ d + length ls → HaveTrips d ls → HasTrip e l → HaveTrips d (ls ++ l ∷ [])
trips_more d e [] l h t g = (let same : e ≡ d = omega (arith, h) in subst (λ k. HasTrip k l) same g, tt)
trips_more d e (m ∷ ls) l h t g = (t.0, trips_more (suc d) e ls l (omega (arith, h)) t.1 g)

counting_trip : (symbols : List (List ℕ)) (round : List NormalLoop) (d : ℕ) (l : Loop) (r : NormalLoop) → IsTripIn d r.trip → HasTrip d (counting symbols round l r)
unfolding counting
counting_trip symbols round d l r h = h

pub zeros_more : (round : List NormalLoop) (r : NormalLoop) → HaveZeros (length round) round → Zero (suc (length round)) r.value → HaveZeros (length (round ++ r ∷ [])) (round ++ r ∷ [])
zeros_more round r h z =
    subst (λ d. HaveZeros d (round ++ r ∷ [])) (sym (one_more round r))
    (Each-append (λ (q : NormalLoop). Zero (suc (length round)) q.value) round (r ∷ []) (HaveZeros-later (length round) (suc (length round)) round (omega arith) h) (z, tt))

pub loop_more : (symbols : List (List ℕ)) (round : List NormalLoop) (ls : List Loop) (l : Loop) (r : NormalLoop) → AreLoops round ls → normal_loop symbols round l ≡ Some r
    → AreLoops (round ++ r ∷ []) (ls ++ counting symbols round l r ∷ [])
loop_more symbols round ls l r h e =
    let is = normal_loop_is symbols round l r h.zeros e in
    let deep = is.deep in
    let many = one_more round r in
    let same = h.as_many in
    record {
      few = omega (arith, deep, many);
      as_many = one_more ls (counting symbols round l r) ∙ ap suc h.as_many ∙ sym many;
      trips = trips_more 0 (length round) ls (counting symbols round l r) (omega (arith, same)) h.trips (counting_trip symbols round (length round) l r is.trip);
      zeros = zeros_more round r h.zeros is.value;
    }

standing_in : (round : List NormalLoop) (ls : List Loop) (s : Guarded) → AreLoops round ls → IsInTrips (record { loops = ls; statement = s })
standing_in round ls s h =
    let few = h.few in
    let same = h.as_many in
    record { depth = omega (arith, few, same); trips = h.trips }

steps : (n : Nest) → Steps n any_statement any_loop AreLoops IsInTrips
steps n = record {
  run = λ round ls s h g. standing_in round ls (normal_statement n.symbols round s) h;
  turns = λ round ls l r h g e. loop_more n.symbols round ls l r h e;
  first = λ round ls l r h g e. standing_in round ls (assigning n.line r.variable (first_text n.symbols round r)) h;
  end = λ round ls l r h g e. standing_in round ls (assigning n.line r.variable (end_text n.symbols round r)) h;
}

pub no_loops : AreLoops [] []
no_loops = record { few = omega arith; as_many = refl; trips = tt; zeros = tt }

pub trips_of : (n m : Nest) → IsMadeOf n m → Each IsInTrips (nest_statements m)
trips_of n m h = each_statement n m any_statement any_loop AreLoops IsInTrips (steps n) no_loops (any n.body) h

pub normal_trips_are_forms : NormalTripsAreForms
normal_trips_are_forms n m h = Each-All IsInTrips (nest_statements m) (trips_of n m (made_of n m h))
