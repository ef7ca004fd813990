use Rattle.std.proofs.Common.{◌≡◌, ◌+◌, ◌∷◌, [], ◌++◌, List, Option, map, take, arith, subst, sym}
use Rattle.std.proofs.lemmas.List.Elements.{All-push, All-same}
use Rattle.tree.specs.Plain.{subscripts}
use Rattle.tree.specs.View.{subscript_of}
use Rattle.subscripts.specs.declared.affine.Affine.{Affine}
use Rattle.dependence_graph.specs.nest_references.Occurrences.{AreFormsIn, HasSevenLoops}
use Rattle.dependence_graph.proofs.nest_references.FormLaws.{forms_all, forms_more}
use Rattle.dependence_graph.proofs.nest_references.forms.forms_of.Goals as goal

pub loop-sub-preserved : goal.loop-sub-preserved
loop-sub-preserved c =
    let loops = c.args.loops.now in let symbols = c.args.symbols.now in let items = c.as_slice-sub-items.result.now in let i = c.loop-sub.sub-index in
    let f = c.form_of.result in
    let pushed : c.push.new.self ≡ c.loop-sub.forms ++ f ∷ [] = c.in_ok-push.ensures.ok in
    record {
      forms = subst (λ (fs : List (Option Affine)). AreFormsIn loops symbols (subscripts (map subscript_of (take (i + 1) items))) fs) (sym pushed)
          (forms_more loops symbols items i c.sub-item.result c.loop-sub.forms f (omega arith) c.sub-item.is c.loop-sub.invariant.forms c.form_of.ensures.form);
      seven = All-same HasSevenLoops c.push.new.self (c.loop-sub.forms ++ f ∷ []) pushed (All-push HasSevenLoops c.loop-sub.forms f c.loop-sub.invariant.seven c.form_of.ensures.seven);
    }

pub returns-clause-forms : goal.returns-clause-forms
returns-clause-forms c =
    forms_all c.args.loops.now c.args.symbols.now c.args.item.now c.as_slice-sub-items.result.now c.loop-sub.sub-index c.loop-sub.forms c.as_slice-sub-items.ensures (omega arith)
    c.loop-sub.invariant.forms
