use Rattle.std.proofs.Common.{◌≡◌, ◌∙◌, sym, ap, List, [], ◌∷◌, ◌++◌, map, rules, subst}
use Rattle.std.proofs.lemmas.List.{map-append}
use Rattle.std.proofs.lemmas.Result.{err_from_is_err_and}
use Rattle.tree.specs.declared.exprs.Expr.{Expr}
use Rattle.f77_grammar.specs.statements.Forms.{IsBound77, written_bound77, bound_tree, bound_depth}
use Rattle.f77_expressions.specs.Views.{words_of}
use Rattle.f77_grammar.specs.syntax.Views.{bounds_of}
use Rattle.f77_statement.specs.Declarations.{AreBoundsRead, ReadsBounds}
use Rattle.f77_statement.proofs.SeparatedLaws.{list_begun, list_grown, reads_begun, reads_grown, reads_ended, list_err, grown_err, shorter}
use Rattle.f77_statement.proofs.declarations.read_bounds.Goals as goal

pub returns-in_err-first-clause-only : goal.returns-in_err-first-clause-only
returns-in_err-first-clause-only c bs last g l s =
    let p = err_from_is_err_and c.from_residual.result c.from_residual.ensures.1 in
    rw (p.1, p.2) (list_err written_bound77 IsBound77 bound_tree bound_depth _ _ _ _ c.in_err-first.ensures.only bs last g l s)

pub bounds-init : goal.bounds-init
bounds-init c =
    let f = c.in_ok-first.ensures.found in
    let e : c.push.new.self ≡ c.in_ok-first.first ∷ [] = search rules in
    record {
      so_far = subst (λ (q : List (Expr × Expr)). AreBoundsRead (words_of c.args.tokens.now) q c.in_ok-first.depth (words_of c.in_ok-first.tail.now)) (sym e)
          (list_begun written_bound77 IsBound77 bound_tree bound_depth _ _ f.bound (bounds_of c.in_ok-first.first) _ f.good f.tree f.deep f.same);
      only = subst (λ (q : List (Expr × Expr)). ReadsBounds (words_of c.args.tokens.now) q c.in_ok-first.depth (words_of c.in_ok-first.tail.now)) (sym e)
          (reads_begun written_bound77 IsBound77 bound_tree bound_depth _ _ (bounds_of c.in_ok-first.first) _ c.in_ok-first.ensures.only);
    }

pub returns-in_err-next-clause-only : goal.returns-in_err-next-clause-only
returns-in_err-next-clause-only c bs last g l s =
    let p = err_from_is_err_and c.from_residual-in_err-next.result c.from_residual-in_err-next.ensures.1 in
    rw (p.1, p.2) (grown_err written_bound77 IsBound77 bound_tree bound_depth _ _ _ _ _ _ _ _ c.bounds.invariant.only c.in-Some.ensures c.in_err-next.ensures.only bs last g l s)

pub bounds-smaller : goal.bounds-smaller
bounds-smaller c = shorter c.bounds.rest.now c.in-Some.more.now c.in_ok-next.tail.now _ c.in-Some.ensures c.in_ok-next.ensures.found.same

pub bounds-preserved : goal.bounds-preserved
bounds-preserved c =
    let f = c.in_ok-next.ensures.found in
    let e : c.push-in-Some.new.self ≡ c.bounds.bounds ++ c.in_ok-next.next ∷ [] = search rules in
    let m : map bounds_of c.bounds.bounds ++ bounds_of c.in_ok-next.next ∷ [] ≡ map bounds_of c.push-in-Some.new.self = sym (map-append bounds_of c.bounds.bounds (c.in_ok-next.next ∷ [])) ∙ ap (map bounds_of) (sym e) in
    record {
      so_far = rw (sym m) (list_grown written_bound77 IsBound77 bound_tree bound_depth _ _ _ _ _ _ f.bound _ _ _ c.bounds.invariant.so_far c.in-Some.ensures f.good f.tree f.deep f.same c.max-depth.ensures);
      only = rw (sym m) (reads_grown written_bound77 IsBound77 bound_tree bound_depth _ _ _ _ _ _ _ _ _ c.bounds.invariant.only c.in-Some.ensures c.in_ok-next.ensures.only c.max-depth.ensures);
    }

pub returns-clause-only : goal.returns-clause-only
returns-clause-only c bs last g l s = reads_ended written_bound77 IsBound77 bound_tree bound_depth _ _ _ _ c.bounds.invariant.only c.in_default.ensures bs last g l s
