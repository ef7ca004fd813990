use Rattle.std.proofs.Common.{sym, ap, ◌∙◌, arith}
use Rattle.std.specs.List.{list_any}
use Rattle.f77_grammar.specs.program.Limits.{has_reversed_bounds}
use Rattle.f77_grammar.specs.syntax.First.{first_index}
use Rattle.f77_grammar.specs.syntax.Views.{text_of}
use Rattle.f77_grammar.proofs.syntax.Walks.{search_goes_on, search_stops_at, search_ends}
use Rattle.f77_names.specs.constants.Constants.{store_of}
use Rattle.f77_names.specs.constants.Bounds.{has_reversed, bounds_in}
use Rattle.meaning.specs.Dialect.{fortran77}
use Rattle.f77_names.proofs.constants.checks.reversed_bounds.Goals as goal

pub returns-then-branch : goal.returns-then-branch
returns-then-branch c = λ s h.
    search_stops_at (has_reversed_bounds (fortran77 c.args.constants.now.width) (store_of c.args.constants.now)) c.args.text.now c.loop-i.i c.index-text-i.result (omega arith) c.index-text-i.is
    (sym (c.in_ok-any_reversed.ensures ∙ ap (λ es. list_any (has_reversed c.args.constants.now.width (store_of c.args.constants.now)) (bounds_in es)) c.entities.ensures) ∙ c.if-branch.true)
    c.loop-i.invariant
    ∙ ap (λ t. first_index (has_reversed_bounds (fortran77 c.args.constants.now.width) t) (text_of c.args.text.now)) (sym h.same)

pub loop-i-preserved : goal.loop-i-preserved
loop-i-preserved c =
    search_goes_on (has_reversed_bounds (fortran77 c.args.constants.now.width) (store_of c.args.constants.now)) c.args.text.now c.loop-i.i c.index-text-i.result (omega arith) c.index-text-i.is
    (sym (c.in_ok-any_reversed.ensures ∙ ap (λ es. list_any (has_reversed c.args.constants.now.width (store_of c.args.constants.now)) (bounds_in es)) c.entities.ensures) ∙ c.if-branch.false)
    c.loop-i.invariant

pub returns : goal.returns
returns c = λ s h.
    search_ends (has_reversed_bounds (fortran77 c.args.constants.now.width) (store_of c.args.constants.now)) c.args.text.now c.loop-i.i (omega arith) c.loop-i.invariant
    ∙ ap (λ t. first_index (has_reversed_bounds (fortran77 c.args.constants.now.width) t) (text_of c.args.text.now)) (sym h.same)
