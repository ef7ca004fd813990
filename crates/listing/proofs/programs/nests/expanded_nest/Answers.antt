use Rattle.std.proofs.Common.{◌<◌, sym, subst, arith}
use Rattle.nest.specs.View.{nest_of}
use Rattle.nest.specs.declared.nests.Nest.{Nest}
use Rattle.listing.proofs.programs.Sources.{expanded_of, few_unexpanded}
use Rattle.listing.specs.programs.Passed.{IsUnexpanded}
use Rattle.listing.proofs.programs.nests.expanded_nest.Goals as goal
use Rattle.tree.specs.declared.width.Width.TheVariants.{Wide}

pub expand-requires : goal.expand-requires
expand-requires c =
    let masks = c.args.masks in
    let normal = nest_of c.args.normal.now in
    let nest = nest_of c.deref-nest.result.now in
    let made : IsUnexpanded masks normal nest
    = subst (λ (n : Nest). IsUnexpanded masks normal (nest_of n)) (sym c.deref-nest.ensures) c.in_ok-before.ensures in
    let few : c.deref-nest.result.now.masks < 4294967296 = omega arith in
    few_unexpanded Wide masks normal nest c.requires made few

pub returns : goal.returns
returns c =
    let masks = c.args.masks in
    let normal = nest_of c.args.normal.now in
    let nest = nest_of c.deref-nest.result.now in
    let made : IsUnexpanded masks normal nest
    = subst (λ (n : Nest). IsUnexpanded masks normal (nest_of n)) (sym c.deref-nest.ensures) c.in_ok-before.ensures in
    expanded_of masks normal nest c.expand.result made c.expand.ensures
