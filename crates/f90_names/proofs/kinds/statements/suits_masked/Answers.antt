use Rattle.std.proofs.Common.{ℕ, List, Option}
use Rattle.std.proofs.lemmas.Bool.Decides.{Decides-at}
use Rattle.tree.specs.View.{expression_of, reference_of}
use Rattle.meaning.specs.Value.{named}
use Rattle.f90_names.specs.declared.kinds.declarations.names.Declared.{Declared}
use Rattle.f90_names.specs.kinds.declarations.Names.{found}
use Rattle.f90_names.specs.kinds.Found.{kind_in, mask_and_sides}
use Rattle.f90_names.proofs.kinds.StatementLaws.{masked-is}
use Rattle.f90_names.proofs.kinds.statements.suits_masked.Goals as goal

pub returns : goal.returns
returns c ds t =
    let known : List ℕ → Option Declared = found c.args.names.now in
    Decides-at c.mask_and_sides.result (mask_and_sides (kind_in known (expression_of c.args.mask.now))
    (kind_in known (named (reference_of c.args.left.now))) (kind_in known (expression_of c.args.right.now))) (cc)
    (masked-is ds known t (expression_of c.args.mask.now) (reference_of c.args.left.now)
    (expression_of c.args.right.now))
