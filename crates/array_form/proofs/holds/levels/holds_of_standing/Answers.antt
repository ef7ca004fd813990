use Rattle.std.proofs.Common.{◌∙◌, length, map}
use Rattle.nest.specs.View.{loop_of, nest_of}
use Rattle.nest.specs.statement_loops.Standings.{standing_of}
use Rattle.array_form.specs.holds.Bounds.{subscripts_of}
use Rattle.array_form.proofs.holds.Asked.{standing_ok}
use Rattle.array_form.proofs.holds.SafeLaws.{small_forms, trips_are}
use Rattle.array_form.proofs.holds.levels.holds_of_standing.Goals as goal

pub is_safe_if_guarded-safe-requires-clause-small : goal.is_safe_if_guarded-safe-requires-clause-small
is_safe_if_guarded-safe-requires-clause-small c =
    let n = nest_of c.args.nest.now in
    small_forms (length (standing_of c.args.standing.now).loops) (subscripts_of n (standing_of c.args.standing.now)) c.args.own.now.subscripts c.requires.own.subscripts

pub returns : goal.returns
returns c =
    let n = nest_of c.args.nest.now in
    standing_ok n c.args.s c.in_ok-a.a c.args.standing.now c.is_safe_if_guarded-safe.result c.holds_in.result c.in_ok-a.ensures.view c.in_ok-a.ensures.loops
    (c.is_safe_if_guarded-safe.ensures n (standing_of c.args.standing.now) c.requires.noted (trips_are (map loop_of c.args.standing.now.loops) c.as_slice.result.now (c.as_slice.ensures ∙ c.in_ok-a.ensures.loops)) c.requires.own)
    c.holds_in.ensures
