-- A statement of a nest that can be tested has an array form at each of its levels.
use Rattle.std.proofs.Common.{ℕ, suc, ◌+◌, ◌-◌, ◌<◌, ◌≤◌, ◌^◌, Option, Some, None, List, [], ◌∷◌, length, arith}
use Rattle.std.specs.Prelude.{All, IsSomeAnd}
use Rattle.std.proofs.lemmas.List.Elements.{All-cons, All-nil}
use Rattle.array_form.specs.Statement.{HasArrayForm}
use Rattle.dependence_graph.specs.nest_graph.Ready.{HaveTrips, IsReady, IsTripIn}
use Rattle.nest.specs.Bodies.{nest_statements}
use Rattle.nest.specs.Plain.{Loop, Nest}
use Rattle.nest.specs.declared.parts.Trip.{Trip}
use Rattle.array_form.specs.holds.Statements.{no_statement, statement_at}
use Rattle.array_form.specs.holds.Plain.{IsPlainStatement}
use Rattle.array_form.specs.holds.Surroundings.{known_trip}
use Rattle.subscripts.specs.Shapes.{IsForm}

-- a trip under the loops round its loop is one under all loops of the statement
trip_form : (d m : ℕ) (t : Option Trip) → d ≤ m → IsSomeAnd t (IsTripIn d) → IsForm m (known_trip t).top
trip_form d m (Some t) more h = record {
  past_depth = λ k g. h.top.past_depth k (omega arith);
  symbols = h.top.symbols;
  small_loops = h.top.small_loops;
  small_symbols = h.top.small_symbols;
  small_constant = h.top.small_constant;
}
trip_form d m None more h = absurd h

pub trip_forms : (d m : ℕ) (ls : List Loop) → d + length ls ≤ m → HaveTrips d ls
    → All (λ l. IsForm m (known_trip l.trip).top) ls
trip_forms d m [] more h = All-nil (λ (l : Loop). IsForm m (known_trip l.trip).top)
trip_forms d m (l ∷ ls) more h =
    All-cons (λ (l : Loop). IsForm m (known_trip l.trip).top) l ls
    (trip_form d m l.trip (omega arith) h.0) (trip_forms (suc d) m ls (omega arith) h.1)

pub has_array_form : (n : Nest) (s level : ℕ) → length n.symbols < 2 ^ 16 → IsReady n → IsPlainStatement n s
    → 1 ≤ level → level ≤ length (statement_at n s).loops → HasArrayForm n s level
has_array_form n s level symbols ready plain one within =
    let from_one = plain.from_one in
    let place = plain.place in
    let inside : s - 1 < length (nest_statements n) = omega arith in
    let loops = (statement_at n s).loops in
    record {
      statement = plain;
      from_one = one;
      within = within;
      symbols = symbols;
      trips = trip_forms 0 (length loops) loops (omega arith) (ready.statements (s - 1) no_statement inside).trips;
    }
