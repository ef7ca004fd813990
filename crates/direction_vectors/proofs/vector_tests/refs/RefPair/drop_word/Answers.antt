use Rattle.std.proofs.Common.{◌≡◌, ℕ, ◌<◌, List, length, subst}
use Rattle.subscripts.specs.declared.pairing.Pairing.{Pairing}
use Rattle.direction_vectors.proofs.vector_tests.Causes.{group_never, one_never, one_word, unequal_never}
use Rattle.direction_vectors.proofs.vector_tests.Dropping.{last_word}
use Rattle.direction_vectors.specs.vector_tests.Places.{IsGroupLeft, IsMivLeft, IsOneRefuted, IsRefutedIn, IsSeveralRefuted, IsSivLeft}
use Rattle.direction_vectors.specs.vector_tests.Words.{HasRefutedGroup, HasUnequalConstants, IsLater, IsSeparable}
use Rattle.std.specs.Prelude.{MatchOption}
use Rattle.direction_vectors.proofs.vector_tests.refs.RefPair.drop_word.Goals as goal

pub returns-then-has_unequal_constants : goal.returns-then-has_unequal_constants
returns-then-has_unequal_constants c =
    let u = subst (λ (ps : List Pairing). HasUnequalConstants ps) c.as_slice-subs.ensures (c.has_unequal_constants.ensures.sound c.if-has_unequal_constants.true) in
    (unequal_never c.args.self.now c.args.d.now c.requires.refs c.requires.vector u, (c.has_no_trip.ensures.complete c.if-has_no_trip.false, u))

pub returns-in-Some : goal.returns-in-Some
returns-in-Some c =
    let later : IsLater c.args.self.now c.args.d.now =
    record {
      trips = c.has_no_trip.ensures.complete c.if-has_no_trip.false;
      constants = subst (λ (ps : List Pairing). HasUnequalConstants ps → ⊥) c.as_slice-subs.ensures (c.has_unequal_constants.ensures.complete c.if-has_unequal_constants.false);
    } in
    let h = subst (λ (ps : List Pairing). IsRefutedIn ps (λ p. IsOneRefuted p c.args.d.now c.in-Some.word)) c.as_slice-subs.ensures c.in-Some.ensures in
    (one_never c.args.self.now c.args.d.now c.in-Some.word c.requires.refs c.requires.vector h, one_word c.args.self.now c.args.d.now c.in-Some.word later h)

pub returns-then-a_group_refutes : goal.returns-then-a_group_refutes
returns-then-a_group_refutes c =
    let later : IsLater c.args.self.now c.args.d.now =
    record {
      trips = c.has_no_trip.ensures.complete c.if-has_no_trip.false;
      constants = subst (λ (ps : List Pairing). HasUnequalConstants ps → ⊥) c.as_slice-subs.ensures (c.has_unequal_constants.ensures.complete c.if-has_unequal_constants.false);
    } in
    let h = subst (λ (ps : List Pairing). HasRefutedGroup ps c.args.d.now) c.as_slice-subs.ensures (c.a_group_refutes.ensures.sound c.if-a_group_refutes.true) in
    (group_never c.args.self.now c.args.d.now c.requires.refs c.requires.vector h, (later, h))

pub returns : goal.returns
returns c =
    let d = c.args.d.now in
    let same = c.as_slice-subs.ensures in
    let later : IsLater c.args.self.now c.args.d.now =
    record {
      trips = c.has_no_trip.ensures.complete c.if-has_no_trip.false;
      constants = subst (λ (ps : List Pairing). HasUnequalConstants ps → ⊥) same (c.has_unequal_constants.ensures.complete c.if-has_unequal_constants.false);
    } in
    last_word c.args.self.now c.args.d.now c.miv_word.result c.requires.refs c.requires.vector later
    (subst (λ (ps : List Pairing). (k : ℕ) → k < length ps → IsSivLeft ps d k) same c.in_default.ensures)
    (subst (λ (ps : List Pairing). (k : ℕ) → k < length ps → (IsSeparable ps k → ⊥) → IsGroupLeft ps d k) same (c.a_group_refutes.ensures.complete c.if-a_group_refutes.false))
    (subst (λ (ps : List Pairing). MatchOption c.miv_word.result ((k : ℕ) → k < length ps → IsMivLeft ps d k) (λ w. IsRefutedIn ps (λ p. IsSeveralRefuted p d w))) same c.miv_word.ensures)
