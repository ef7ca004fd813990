use Rattle.std.proofs.Common.{sym, subst}
use Rattle.nest.specs.View.{nest_of}
use Rattle.nest.specs.declared.nests.Nest.{Nest}
use Rattle.listing.proofs.programs.Sources.{renamed_of}
use Rattle.listing.specs.programs.Passed.{IsSubstitutedOf}
use Rattle.listing.proofs.programs.nests.unexpanded.Goals as goal

pub returns : goal.returns
returns c =
    let masks = c.args.masks in
    let normal = nest_of c.args.normal.now in
    let box = c.in_ok-nest.nest.value in
    let made : IsSubstitutedOf masks normal (nest_of box)
    = subst (λ (n : Nest). IsSubstitutedOf masks normal (nest_of n)) (sym c.in_ok-nest.ensures.ok) c.in_ok-made.ensures in
    renamed_of masks normal (nest_of box) c.rename.result (λ new. nest_of new.value) made c.rename.ensures.renamed
    c.rename.ensures.few
