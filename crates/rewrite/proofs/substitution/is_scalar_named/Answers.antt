use Rattle.std.proofs.Common.{◌≡◌, sym, ◌∙◌, true, false, []}
use Rattle.tree.specs.declared.exprs.Ref.{out-Ref}
use Rattle.rewrite.proofs.Substituted.{scalar_by_name, element_by_name}
use Rattle.rewrite.proofs.substitution.is_scalar_named.Goals as goal

pub returns-then-is_empty : goal.returns-then-is_empty
returns-then-is_empty c = c.eq.ensures ∙ scalar_by_name c.args.name c.args.item.now (c.is_empty.ensures.0 c.if-is_empty.true)

pub returns-else-is_empty : goal.returns-else-is_empty
returns-else-is_empty c =
    let full : (out-Ref c.args.item.now).subs ≡ [] → ⊥ = (λ e. let t = c.is_empty.ensures.1 e in let q : false ≡ true = sym c.if-is_empty.false ∙ t in cc) in
    c.if-is_empty.false ∙ element_by_name c.args.name c.args.item.now full
