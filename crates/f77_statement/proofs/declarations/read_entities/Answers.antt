use Rattle.std.proofs.Common.{◌≡◌, ◌∙◌, sym, ap, [], ◌∷◌, ◌++◌, map, rules}
use Rattle.std.proofs.lemmas.List.{map-append}
use Rattle.std.proofs.lemmas.Result.{err_from_is_err_and}
use Rattle.f77_grammar.specs.statements.Forms.{IsEntity77, written_entity77, entity_tree, entity_depth}
use Rattle.f77_grammar.specs.syntax.Views.{entity_of}
use Rattle.f77_statement.proofs.SeparatedLaws.{list_begun, list_grown, reads_begun, reads_grown, reads_ended, list_err, grown_err, shorter}
use Rattle.f77_statement.proofs.declarations.read_entities.Goals as goal

pub returns-in_err-first-clause-only : goal.returns-in_err-first-clause-only
returns-in_err-first-clause-only c parts last g l s =
    let p = err_from_is_err_and c.from_residual.result c.from_residual.ensures.1 in
    rw (p.1, p.2) (list_err written_entity77 IsEntity77 entity_tree entity_depth _ _ _ _ c.in_err-first.ensures.only parts last g l s)

pub entities-init : goal.entities-init
entities-init c =
    let f = c.in_ok-first.ensures.found in
    let e : c.push.new.self ≡ c.in_ok-first.first ∷ [] = search rules in
    let m : entity_of c.in_ok-first.first ∷ [] ≡ map entity_of c.push.new.self = ap (map entity_of) (sym e) in
    record {
      so_far = rw (sym m) (list_begun written_entity77 IsEntity77 entity_tree entity_depth _ _ f.part _ _ f.is_good f.tree_is f.deep f.same);
      only = rw (sym m) (reads_begun written_entity77 IsEntity77 entity_tree entity_depth _ _ _ _ c.in_ok-first.ensures.only);
    }

pub returns-in_err-next-clause-only : goal.returns-in_err-next-clause-only
returns-in_err-next-clause-only c parts last g l s =
    let p = err_from_is_err_and c.from_residual-in_err-next.result c.from_residual-in_err-next.ensures.1 in
    rw (p.1, p.2) (grown_err written_entity77 IsEntity77 entity_tree entity_depth _ _ _ _ _ _ _ _ c.entities.invariant.only c.in-Some.ensures c.in_err-next.ensures.only parts last g l s)

pub entities-smaller : goal.entities-smaller
entities-smaller c = shorter c.entities.rest.now c.in-Some.more.now c.in_ok-next.tail.now _ c.in-Some.ensures c.in_ok-next.ensures.found.same

pub entities-preserved : goal.entities-preserved
entities-preserved c =
    let f = c.in_ok-next.ensures.found in
    let e : c.push-in-Some.new.self ≡ c.entities.entities ++ c.in_ok-next.next ∷ [] = search rules in
    let m : map entity_of c.entities.entities ++ entity_of c.in_ok-next.next ∷ [] ≡ map entity_of c.push-in-Some.new.self = sym (map-append entity_of c.entities.entities (c.in_ok-next.next ∷ [])) ∙ ap (map entity_of) (sym e) in
    record {
      so_far = rw (sym m) (list_grown written_entity77 IsEntity77 entity_tree entity_depth _ _ _ _ _ _ f.part _ _ _ c.entities.invariant.so_far c.in-Some.ensures f.is_good f.tree_is f.deep f.same c.max-depth.ensures);
      only = rw (sym m) (reads_grown written_entity77 IsEntity77 entity_tree entity_depth _ _ _ _ _ _ _ _ _ c.entities.invariant.only c.in-Some.ensures c.in_ok-next.ensures.only c.max-depth.ensures);
    }

pub returns-clause-only : goal.returns-clause-only
returns-clause-only c parts last g l s = reads_ended written_entity77 IsEntity77 entity_tree entity_depth _ _ _ _ c.entities.invariant.only c.in_default.ensures parts last g l s
