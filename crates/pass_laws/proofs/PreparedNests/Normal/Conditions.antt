-- Conditions in loops from 1 by 1: their names, and their canonical text.
use Rattle.std.proofs.Common.{◌≡◌, inl, inr, refl, sym, ap, ◌∙◌, subst, ℕ, ◌^◌, ◌≤◌, pos, List, [], ◌∷◌, ◌++◌, length, Some}
use Rattle.std.proofs.Common.{arith}
use Rattle.std.specs.Option.{option_map}
use Rattle.components.specs.Lists.{Each}
use Rattle.last_values.specs.Scalars.{scalar}
use Rattle.last_values.specs.declared.normal_forms.loops.NormalLoop.{NormalLoop}
use Rattle.last_values.specs.normal_forms.NormalLoops.{counters_of}
use Rattle.last_values.specs.normal_forms.Texts.{trip_text}
use Rattle.linear_forms.proofs.CanonicalStays.{twice}
use Rattle.linear_forms.specs.Canonical.{canonising}
use Rattle.linear_forms.specs.CanonicalLaws.{AreDistinct}
use Rattle.linear_forms.specs.Texts.{text_of}
use Rattle.meaning.specs.Typed90.{IsIntegerScalar}
use Rattle.nest.specs.Plain.{Guarded, Loop}
use Rattle.nest.specs.declared.parts.Trip.{Trip}
use Rattle.nest_rewrite.specs.Statements.{rewritten_statement}
use Rattle.normal_loops.specs.Tests.{normal_test, test_with_values}
use Rattle.normal_loops.specs.Values.{in_text, normal_statement, statement_with_values, with_value}
use Rattle.pass_laws.proofs.NormalFacts.FoundStatements.{IsShort}
use Rattle.pass_laws.proofs.NormalFacts.MadeStatements.{IsKnown, counter_same, short_known}
use Rattle.pass_laws.proofs.NormalFacts.StatementKinds.{IsNumber, IsSmallForm}
use Rattle.pass_laws.proofs.NormalFacts.Texts.{CountersAre, GuardIsOver, IsOver, IsStatementOver, named, normal_over}
use Rattle.pass_laws.proofs.NormalFacts.Texts.{over_weaker}
use Rattle.pass_laws.proofs.NormalFacts.Tables.{each_from}
use Rattle.pass_laws.proofs.ReadyNests.Lists.{Each-All}
use Rattle.meaning.specs.Reads.{names_in}
use Rattle.nest_order.specs.orders.Lists.{In}
use Rattle.nest_order.specs.shapes.Shapes.{numbers_of}
use Rattle.std.specs.Prelude.{All}
use Rattle.pass_laws.specs.prepared_nests.Loops.{variables_of_loops}
use Rattle.pass_laws.specs.prepared_nests.Statements.{IsOwn}
use Rattle.pass_laws.proofs.PreparedNests.Lists.{In-Contains, within_32}
use Rattle.pass_laws.proofs.PreparedNests.Trips.{BearsNumber}
use Rattle.rewrite.specs.Making.{made}
use Rattle.tree.specs.Plain.{Declaration, Expression, Number}
use Rattle.pass_laws.proofs.PreparedNests.Normal.TextKinds.{quotient_is, text_is}

-- ---- names

-- a statement that has the condition as its guard
abbrev guarded_by : Expression → Guarded
guarded_by e = record { line = 0; guard = Some e; left = scalar []; right = Number (pos 0) }

module _ (symbols : List (List ℕ)) where
  guard_with : (outer rs : List NormalLoop) (s : Guarded) (e : Expression) → s.guard ≡ Some e → (statement_with_values symbols outer rs s).guard ≡ Some (test_with_values symbols outer rs e)
  guard_with outer [] s e h = h
  guard_with outer (r ∷ rs) s e h =
      guard_with (outer ++ r ∷ []) rs (rewritten_statement (with_value symbols outer r) s) (made (with_value symbols outer r) e) (ap (option_map (made (with_value symbols outer r))) h)

  -- what becomes of the condition is what becomes of the guard
  guard_is : (round : List NormalLoop) (e : Expression) → (normal_statement symbols round (guarded_by e)).guard ≡ Some (normal_test symbols round e)
  unfolding normal_statement normal_test
  guard_is round e = ap (option_map (made (in_text symbols round))) (guard_with [] round (guarded_by e) e refl)

  pub condition_over : (ls : List Loop) → Each (IsKnown ls) symbols → (round : List NormalLoop) (e : Expression) → CountersAre (IsKnown ls) round → IsOver IsShort e
      → IsOver (IsKnown ls) (normal_test symbols round e)
  condition_over ls are round e h over =
      let own : IsStatementOver (IsKnown ls) (guarded_by e) =
      record { guard = over_weaker IsShort (IsKnown ls) (short_known ls) e over; name = short_known ls [] (omega arith); left = tt; right = tt } in
      subst (GuardIsOver (IsKnown ls)) (guard_is round e) (normal_over (IsKnown ls) symbols are round (guarded_by e) h own).guard

pub own_in : (ls : List Loop) (e : Expression) → IsOver (IsKnown ls) e → All (IsOwn ls) (names_in e)
own_in ls e h =
    Each-All (IsOwn ls) (names_in e)
    (each_from (IsOwn ls) (names_in e) (λ x i k small q. In-Contains k (numbers_of ls) (named (IsKnown ls) e h x i k (within_32 k small) q)))

-- the variables of loops that bear their numbers
pub known_variables : (all ls : List Loop) → ((k : ℕ) → In k (numbers_of ls) → In k (numbers_of all)) → Each BearsNumber ls → Each (IsKnown all) (variables_of_loops ls)
known_variables all [] f h = tt
known_variables all (l ∷ ls) f h = (
  λ k small e. subst (λ j. In j (numbers_of all)) (counter_same l.number k h.0.1 small (sym h.0.0 ∙ e)) (f l.number (inl refl)),
  known_variables all ls (λ k i. f k (inr i)) h.1,
)

-- ---- canonical text

pub condition_stays : (loops symbols : List (List ℕ)) → length loops ≤ 7 → AreDistinct (loops ++ symbols) → (round : List NormalLoop) (e : Expression) → counters_of round ≡ loops
    → made (canonising loops symbols) (normal_test symbols round e) ≡ normal_test symbols round e
unfolding normal_test
condition_stays loops symbols few apart round e same =
    subst (λ cs. made (canonising loops symbols) (made (canonising cs symbols) (test_with_values symbols [] round e)) ≡ made (canonising cs symbols) (test_with_values symbols [] round e))
    (sym same) (twice loops symbols few apart (test_with_values symbols [] round e))

-- ---- trips

pub trip_number : (es : List Declaration) (counters symbols : List (List ℕ)) (t : Trip) (n : ℕ) → Each (IsIntegerScalar es) counters → Each (IsIntegerScalar es) symbols → IsSmallForm t.top
    → t.by ≡ pos n → n ≤ 2 ^ 40 → IsNumber es (trip_text counters symbols [] t)
unfolding trip_text
trip_number es counters symbols t n cs ss top by small = quotient_is es (text_of counters symbols [] t.top) t.by n by small (text_is es counters symbols [] t.top cs ss tt top)
