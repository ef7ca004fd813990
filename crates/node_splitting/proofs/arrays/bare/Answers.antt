use Rattle.std.proofs.Common.{◌∙◌, List, ap, map}
use Rattle.tree.specs.Plain.{Expression, Named, Reference, subscripts}
use Rattle.tree.specs.View.{subscript_of}
use Rattle.tree.specs.declared.exprs.Ref.{roll-Ref}
use Rattle.tree.specs.declared.exprs.Sub.{Sub}
use Rattle.tree.proofs.Equations.{expression_of-item, reference_of-made}
use Rattle.node_splitting.proofs.arrays.bare.Goals as goal

pub returns : goal.returns
returns c =
    expression_of-item (roll-Ref (record { name = c.args.name; subs = c.new.result }))
    ∙ (ap (λ (r : Reference). let e : Expression = Named r.name r.subscripts in e) (reference_of-made c.args.name c.new.result)
    ∙ ap (λ (ss : List Sub). let e : Expression = Named c.args.name (subscripts (map subscript_of ss)) in e) c.new.ensures)
