-- Laws of a nest and of its normal form, within the loops.
use Rattle.std.specs.Prelude.{◌≡◌, Ok, Some, None, ℕ, ◌≤◌, ℤ, pos, ◌+ℤ◌, ◌-ℤ◌, ◌*ℤ◌, Bool, List, [], ◌∷◌, ◌++◌, length}
use Rattle.tree.specs.Plain.{Expression}
use Rattle.tree.specs.declared.ops.Value.{Value}
use Rattle.tree.specs.declared.ops.Value.TheVariants.{Int}
use Rattle.meaning.specs.Reads.{names_in}
use Rattle.meaning.specs.Run.{State, Going, does}
use Rattle.meaning.specs.Store.{Store}
use Rattle.meaning.specs.Value.{number_of, trip_count, value_of}
use Rattle.rewrite.specs.Following.{sequential}
use Rattle.last_values.specs.InPlace.{end_text, first_text}
use Rattle.normal_loops.specs.Values.{normal_statement}
use Rattle.normal_loops.specs.Tests.{normal_test}
use Rattle.nest_order.specs.runs.Touched.{IsPlain}
use Rattle.nest.specs.Blocks.{guarded_statement}
use Rattle.nest.specs.Plain.{Guarded, Loop}
use Rattle.last_values.specs.normal_forms.NormalLoops.{counters_of, normal_loop}
use Rattle.last_values.specs.normal_forms.Numbers.{number_of_form, trip_number}
use Rattle.last_values.specs.normal_forms.Texts.{trip_text}
use Rattle.last_values.specs.declared.normal_forms.loops.NormalLoop.{NormalLoop}
use Rattle.pass_laws.specs.normal_values.Beside.{AreApart, IsBeside, NamesSuit, SuitsStatement, iteration_at}

-- An expression has its value with forms of the counters in the place of the loops' variables
abbrev pub ExpressionBeside : Type 0
ExpressionBeside =
    (bits : ℕ) (symbols : List (List ℕ)) (values : ℕ → ℤ) (apart : List ℕ → Bool) (round : List NormalLoop)
    (is : List ℕ) (s t : Store) (e : Expression) (v : Value)
    → 31 ≤ bits → bits ≤ 63 → AreApart symbols apart round → IsBeside symbols values apart round is s t
    → IsPlain e → NamesSuit apart round (names_in e)
    → value_of (sequential bits) e s ≡ Ok v → value_of (sequential bits) (normal_test symbols round e) t ≡ Ok v

-- both runs go on, with stores that are beside each other
pub record GoOnBeside (symbols : List (List ℕ)) (values : ℕ → ℤ) (apart : List ℕ → Bool) (round : List NormalLoop)
    (is : List ℕ) (s t : State) : Type 0 where
  pub way : s.way ≡ Going
  pub way_beside : t.way ≡ Going
  pub stores : IsBeside symbols values apart round is s.store t.store

-- Where an assignment meets no fault, neither does its normal form, and both leave stores that are beside each other
abbrev pub StatementBeside : Type 0
StatementBeside =
    (bits : ℕ) (symbols : List (List ℕ)) (values : ℕ → ℤ) (apart : List ℕ → Bool) (round : List NormalLoop)
    (is : List ℕ) (s t : State) (g : Guarded)
    → 31 ≤ bits → bits ≤ 63 → AreApart symbols apart round → SuitsStatement symbols apart round g
    → GoOnBeside symbols values apart round is s t
    → (does (sequential bits) None (guarded_statement g) s).way ≡ Going
    → GoOnBeside symbols values apart round is (does (sequential bits) None (guarded_statement g) s)
    (does (sequential bits) None (guarded_statement (normal_statement symbols round g)) t)

-- The loop from a to b turns k times. Its form from 1 by 1, which is r, has the trip top, which gives as many turns,
-- and in the turn i the form of its variable is the variable's value
pub record HasNormalBounds (bits : ℕ) (symbols : List (List ℕ)) (values : ℕ → ℤ) (round : List NormalLoop)
    (is : List ℕ) (t : Store) (step : ℤ) (r : NormalLoop) (a : ℤ) (k : ℕ) : Type 0 where
  pub top : ℤ
  pub trip : trip_number (length symbols) (iteration_at is) values r.trip ≡ top
  pub text : number_of (sequential bits) (trip_text (counters_of round) symbols [] r.trip) t ≡ Ok top
  pub turns : trip_count (pos 1) top (pos 1) ≡ Ok k
  pub first : number_of_form (length symbols) (iteration_at is) values r.first ≡ a
  pub value : (i : ℕ)
      → number_of_form (length symbols) (iteration_at (is ++ i ∷ [])) values r.value ≡ a +ℤ step *ℤ (pos i -ℤ pos 1)

abbrev pub BoundsBeside : Type 0
BoundsBeside =
    (bits : ℕ) (symbols : List (List ℕ)) (values : ℕ → ℤ) (apart : List ℕ → Bool) (round : List NormalLoop)
    (is : List ℕ) (s t : Store) (l : Loop) (r : NormalLoop) (a b : ℤ) (k : ℕ)
    → 31 ≤ bits → bits ≤ 63 → AreApart symbols apart round → IsBeside symbols values apart round is s t
    → normal_loop symbols round l ≡ Some r
    → number_of (sequential bits) l.first s ≡ Ok a → number_of (sequential bits) l.last s ≡ Ok b
    → trip_count a b l.step ≡ Ok k
    → HasNormalBounds bits symbols values round is t l.step r a k

-- the texts of a loop's first value, and of its variable's value behind its last turn where there is one
pub record HasLastTexts (bits : ℕ) (symbols : List (List ℕ)) (round : List NormalLoop) (t : Store) (step : ℤ)
    (r : NormalLoop) (a : ℤ) (k : ℕ) : Type 0 where
  pub first : value_of (sequential bits) (first_text symbols round r) t ≡ Ok (Int a)
  pub end : 1 ≤ k → value_of (sequential bits) (end_text symbols round r) t ≡ Ok (Int (a +ℤ step *ℤ pos k))

abbrev pub LastValueInPlace : Type 0
LastValueInPlace =
    (bits : ℕ) (symbols : List (List ℕ)) (values : ℕ → ℤ) (apart : List ℕ → Bool) (round : List NormalLoop)
    (is : List ℕ) (s t : Store) (l : Loop) (r : NormalLoop) (a b : ℤ) (k : ℕ)
    → 31 ≤ bits → bits ≤ 63 → AreApart symbols apart round → IsBeside symbols values apart round is s t
    → normal_loop symbols round l ≡ Some r
    → number_of (sequential bits) l.first s ≡ Ok a → number_of (sequential bits) l.last s ≡ Ok b
    → trip_count a b l.step ≡ Ok k
    → HasLastTexts bits symbols round t l.step r a k
