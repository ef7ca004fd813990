use Rattle.std.proofs.Common.{◌≡◌, ℕ, Bool, true, false, ◌||◌, List, map, sym, ap, ◌∙◌, arith}
use Rattle.std.specs.List.{list_any}
use Rattle.tree.specs.declared.exprs.Expr.{Expr}
use Rattle.meaning.specs.Store.{Store}
use Rattle.f77_grammar.specs.program.Limits.{definitions_of, entities_of, has_bad_constant}
use Rattle.f77_grammar.specs.declared.syntax.statements.Labelled.{Labelled}
use Rattle.f77_grammar.specs.syntax.First.{first_index}
use Rattle.f77_grammar.specs.syntax.Views.{text_of, statement_of, constant_of}
use Rattle.f77_grammar.proofs.syntax.Walks.{search_goes_on, search_stops_at, search_ends}
use Rattle.f77_names.specs.constants.Constants.{store_of}
use Rattle.f77_names.specs.constants.Bounds.{lacks_value, has_bad, bounds_in}
use Rattle.meaning.specs.Dialect.{fortran77}
use Rattle.tree.specs.declared.width.Width.{Width}
use Rattle.f77_names.proofs.constants.checks.bad_constant.Goals as goal

-- what stands at a statement, of which the constants are known to be with or without values
by_constants : (width : Width) (s : Store) (x : Labelled) (ds : List (List ℕ × Expr)) (lacks known : Bool) → map constant_of ds ≡ definitions_of (statement_of x.statement)
    → lacks ≡ lacks_value s (map constant_of ds) → lacks ≡ known
    → (lacks_value s (definitions_of (statement_of x.statement)) || list_any (has_bad width s) (bounds_in (entities_of (statement_of x.statement))))
    ≡ (known || list_any (has_bad width s) (bounds_in (entities_of (statement_of x.statement))))
by_constants width s x ds lacks known e f g =
    ap (λ b. b || list_any (has_bad width s) (bounds_in (entities_of (statement_of x.statement)))) (ap (lacks_value s) (sym e) ∙ sym f ∙ g)

pub returns-then-lacks_value : goal.returns-then-lacks_value
returns-then-lacks_value c = λ s h.
    search_stops_at (has_bad_constant (fortran77 c.args.constants.now.width) (store_of c.args.constants.now)) c.args.text.now c.loop-i.i c.index-text-i.result (omega arith) c.index-text-i.is
    (by_constants c.args.constants.now.width (store_of c.args.constants.now) c.index-text-i.result c.definitions.result.now c.lacks_value.result true c.definitions.ensures c.lacks_value.ensures c.if-lacks_value.true)
    c.loop-i.invariant
    ∙ ap (λ t. first_index (has_bad_constant (fortran77 c.args.constants.now.width) t) (text_of c.args.text.now)) (sym h.same)

pub returns-then-branch : goal.returns-then-branch
returns-then-branch c = λ s h.
    search_stops_at (has_bad_constant (fortran77 c.args.constants.now.width) (store_of c.args.constants.now)) c.args.text.now c.loop-i.i c.index-text-i.result (omega arith) c.index-text-i.is
    (by_constants c.args.constants.now.width (store_of c.args.constants.now) c.index-text-i.result c.definitions.result.now c.lacks_value.result false c.definitions.ensures c.lacks_value.ensures c.if-lacks_value.false
    ∙ sym (c.in_ok-any_bad.ensures ∙ ap (λ es. list_any (has_bad c.args.constants.now.width (store_of c.args.constants.now)) (bounds_in es)) c.entities.ensures) ∙ c.if-branch.true)
    c.loop-i.invariant
    ∙ ap (λ t. first_index (has_bad_constant (fortran77 c.args.constants.now.width) t) (text_of c.args.text.now)) (sym h.same)

pub loop-i-preserved : goal.loop-i-preserved
loop-i-preserved c =
    search_goes_on (has_bad_constant (fortran77 c.args.constants.now.width) (store_of c.args.constants.now)) c.args.text.now c.loop-i.i c.index-text-i.result (omega arith) c.index-text-i.is
    (by_constants c.args.constants.now.width (store_of c.args.constants.now) c.index-text-i.result c.definitions.result.now c.lacks_value.result false c.definitions.ensures c.lacks_value.ensures c.if-lacks_value.false
    ∙ sym (c.in_ok-any_bad.ensures ∙ ap (λ es. list_any (has_bad c.args.constants.now.width (store_of c.args.constants.now)) (bounds_in es)) c.entities.ensures) ∙ c.if-branch.false)
    c.loop-i.invariant

pub returns : goal.returns
returns c = λ s h.
    search_ends (has_bad_constant (fortran77 c.args.constants.now.width) (store_of c.args.constants.now)) c.args.text.now c.loop-i.i (omega arith) c.loop-i.invariant
    ∙ ap (λ t. first_index (has_bad_constant (fortran77 c.args.constants.now.width) t) (text_of c.args.text.now)) (sym h.same)
