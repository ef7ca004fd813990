use Rattle.std.proofs.Common.{◌≡◌, ◌∙◌, sym, ap, map, true, false, []}
use Rattle.tree.specs.View.{declaration_of}
use Rattle.tree.specs.declared.exprs.Ref.{out-Ref}
use Rattle.meaning.specs.Value.{is_bare}
use Rattle.reductions.specs.Finding.{bounds_by}
use Rattle.reductions.proofs.ScalarLaws.{bare_item, subs_item}
use Rattle.reductions.proofs.scalars.+scalars.Goals as goal

pub is_scalar_item-returns-then-is_empty : goal.is_scalar_item-returns-then-is_empty
is_scalar_item-returns-then-is_empty t c =
    c.is_bare.ensures ∙ (ap (λ ds. is_bare (bounds_by (map declaration_of ds) (out-Ref c.args.item.now).name)) c.as_slice.ensures
    ∙ sym (bare_item (bounds_by (map declaration_of c.args.decls.now)) c.args.item.now (c.is_empty.ensures.0 c.if-is_empty.true)))

pub is_scalar_item-returns : goal.is_scalar_item-returns
is_scalar_item-returns t c =
    let full : (out-Ref c.args.item.now).subs ≡ [] → ⊥ = (λ e. let u = c.is_empty.ensures.1 e in let q : false ≡ true = sym c.if-is_empty.false ∙ u in cc) in
    c.are_indices.ensures ∙ sym (subs_item (bounds_by (map declaration_of c.args.decls.now)) c.args.item.now full)
