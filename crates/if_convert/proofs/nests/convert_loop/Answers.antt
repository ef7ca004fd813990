use Rattle.std.proofs.Common.{◌∙◌, ◌-◌, ◌++◌, List, None, ap, false, map, subst}
use Rattle.tree.specs.View.{block_of}
use Rattle.nest.specs.Plain as P
use Rattle.nest.specs.View.{loop_of, made_of, nest_of, part_of}
use Rattle.nest.specs.declared.parts.Part.{Part}
use Rattle.nest.proofs.Equations.{part_of-turns}
use Rattle.nest_rewrite.specs.Assembled.{with_parts}
use Rattle.if_convert.specs.Arms.{IsAdded, converted_list}
use Rattle.if_convert.specs.Masks.{masks_from}
use Rattle.if_convert.specs.Points.{entered}
use Rattle.if_convert.specs.declared.points.MaskPoint.{MaskPoint}
use Rattle.if_convert.proofs.BodyLaws.{nest-converted}
use Rattle.if_convert.proofs.nests.convert_loop.Goals as goal

pub returns : goal.returns
returns c =
    let n = nest_of c.args.nest.now in
    let l = loop_of c.args.turns.now in
    let ps = map part_of c.args.body.now in
    let p = c.add_parts.new.point in
    let within = map part_of c.add_parts.new.made in
    let made = map made_of c.add_masks.new.made in
    let after = block_of c.in_ok-after.after in
    let begun = subst (λ (q : MaskPoint). IsAdded n.line (converted_list n.line false None ps q) p (map part_of c.new-parts.result) within) c.entered-point.ensures c.in_ok-add_parts.ensures in
    let added = subst (λ (xs : List Part). IsAdded n.line (converted_list n.line false None ps (entered None c.args.masks c.args.masks)) p (map part_of xs) within) c.new-parts.ensures begun in
    nest-converted n (nest_of c.in_ok-new.new) c.args.masks l ps within p made after added
    (c.in_ok-add_masks.ensures ∙ ap (λ ms. ms ++ masks_from c.args.masks (p.mask - c.args.masks)) c.in_ok-made.ensures)
    c.in_ok-after.ensures
    (c.in_ok-new.ensures ∙ ap (λ b. with_parts n b made after) (part_of-turns c.in_ok-copy.field-0 c.add_parts.new.made ∙ ap (λ (l : P.Loop). P.Turns l (P.parts within)) c.in_ok-copy.ensures))
