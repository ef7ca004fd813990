use Rattle.std.proofs.Common.{◌≡◌, map, arith}
use Rattle.std.proofs.lemmas.Grind.{common_steps}
use Rattle.tree.specs.View.{subscript_of}
use Rattle.tree.specs.declared.exprs.Ref.{out-Ref}
use Rattle.tree.proofs.Equations.{reference_of-renewed}
use Rattle.tree.proofs.exprs.+expr_copy.Goals as goal

pub Ref::copy-returns : goal.Ref::copy-returns
Ref::copy-returns t c =
    let r = c.args.self.now in
    let ss = c.loop-sub.subs in
    let same : map subscript_of ss ≡ map subscript_of (out-Ref r).subs = grind (arith, common_steps) in
    reference_of-renewed r ss same
