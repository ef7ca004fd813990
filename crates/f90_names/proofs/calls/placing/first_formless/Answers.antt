use Rattle.std.proofs.Common.{arith, ◌≡◌, ◌+◌, ◌++◌, ◌∷◌, [], length, subst, rules}
use Rattle.std.proofs.lemmas.List.{length-append}
use Rattle.std.proofs.lemmas.Slice.Zip.{zip_turn, zip_end}
use Rattle.f90_trees.specs.Hiding.{function_in}
use Rattle.f90_names.proofs.calls.FormlessLaws.{SuitedSoFar, suited_begun, suited_more, formless_met, suited_ended, ends}
use Rattle.f90_names.proofs.calls.placing.first_formless.Goals as goal

pub loop-written-init : goal.loop-written-init
loop-written-init c =
    ((tt, tt), tt, suited_begun (function_in c.args.functions.now) c.args.statements.now c.args.forms.now c.requires)

pub loop-written-preserved : goal.loop-written-preserved
loop-written-preserved c =
    let z = zip_turn c.args.statements.now c.args.forms.now c.loop-written.yielded c.into_iter-written-iterator.result
    c.loop-written.written-iterator c.next.new.self c.next.result
    (first_of (cc, search rules)) (first_of (cc, search rules)) c.loop-written.yielded_by
    (c.in-Some.written, c.in-Some.form) (first_of (cc, search rules)) c.next.ensures.steps in
    let n : length c.loop-written.yielded + 1 ≡ length
    (c.loop-written.yielded ++ (c.in-Some.written, c.in-Some.form) ∷ [])
    = omega (arith, length-append c.loop-written.yielded ((c.in-Some.written, c.in-Some.form) ∷ [])) in (
      (tt, tt),
      tt,
      subst (SuitedSoFar (function_in c.args.functions.now) c.args.statements.now c.args.forms.now) n
          (suited_more (function_in c.args.functions.now) c.args.statements.now c.args.forms.now
          (length c.loop-written.yielded) c.in-Some.written.now c.in-Some.form.now
          c.in_ok-is_suited.field-0 z.0 z.1 (z.2 c.in-Some.written.now) (z.3 c.in-Some.form.now) c.if-not-branch.false
          c.in_ok-is_suited.ensures c.loop-written.invariant.2),
    )

pub returns-then-not-branch : goal.returns-then-not-branch
returns-then-not-branch c =
    let z = zip_turn c.args.statements.now c.args.forms.now c.loop-written.yielded c.into_iter-written-iterator.result
    c.loop-written.written-iterator c.next.new.self c.next.result
    (first_of (cc, search rules)) (first_of (cc, search rules)) c.loop-written.yielded_by
    (c.in-Some.written, c.in-Some.form) (first_of (cc, search rules)) c.next.ensures.steps in
    formless_met (function_in c.args.functions.now) c.args.statements.now c.args.forms.now
    (length c.loop-written.yielded) c.in-Some.written.now c.in-Some.form.now
    c.in_ok-is_suited.field-0 z.0 z.1 (z.2 c.in-Some.written.now) (z.3 c.in-Some.form.now) c.if-not-branch.true
    c.in_ok-is_suited.ensures c.loop-written.invariant.2

pub returns : goal.returns
returns c =
    let z = zip_end c.args.statements.now c.args.forms.now c.loop-written.yielded c.into_iter-written-iterator.result
    c.loop-written.written-iterator c.next.new.self c.next.result
    (first_of (cc, search rules)) (first_of (cc, search rules)) c.loop-written.yielded_by (first_of (cc, search rules))
    c.next.ensures.steps in
    suited_ended (function_in c.args.functions.now) c.args.statements.now c.args.forms.now
    (length c.loop-written.yielded)
    (ends (length c.args.statements.now) (length c.args.forms.now) (length c.loop-written.yielded) z)
    c.loop-written.invariant.2
