use Rattle.std.proofs.Common.{◌<◌, sym, subst, arith}
use Rattle.nest.specs.View.{nest_of}
use Rattle.nest.specs.declared.nests.Nest.{Nest}
use Rattle.listing.proofs.programs.Sources.{few_anew, substituted_of}
use Rattle.listing.specs.programs.Passed.{IsAnewOf}
use Rattle.listing.proofs.programs.nests.substituted.Goals as goal
use Rattle.tree.specs.declared.width.Width.TheVariants.{Wide}

pub substitute_inductions-requires : goal.substitute_inductions-requires
substitute_inductions-requires c =
    let masks = c.args.masks in
    let normal = nest_of c.args.normal.now in
    let nest = nest_of c.deref-nest.result.now in
    let made : IsAnewOf masks normal nest
    = subst (λ (n : Nest). IsAnewOf masks normal (nest_of n)) (sym c.deref-nest.ensures) c.in_ok-before.ensures in
    let few : c.deref-nest.result.now.masks < 4294967296 = omega arith in
    few_anew Wide masks normal nest c.requires made few

pub returns : goal.returns
returns c =
    let masks = c.args.masks in
    let normal = nest_of c.args.normal.now in
    let nest = nest_of c.deref-nest.result.now in
    let made : IsAnewOf masks normal nest
    = subst (λ (n : Nest). IsAnewOf masks normal (nest_of n)) (sym c.deref-nest.ensures) c.in_ok-before.ensures in
    substituted_of masks normal nest c.substitute_inductions.result made c.substitute_inductions.ensures.substituted
