use Rattle.std.proofs.Common.{◌≡◌, ◌∙◌, ap, map}
use Rattle.linear_forms.specs.Canonical.{canonising}
use Rattle.nest.specs.Plain.{Loop, parts}
use Rattle.nest.specs.View.{loop_of, nest_of, part_of}
use Rattle.nest_rewrite.specs.Rewritten.{rewritten}
use Rattle.interchange.specs.Arranged.{body_in, in_order}
use Rattle.interchange.specs.Chains.{part_in_loops}
use Rattle.interchange.specs.View.{chain_of as plain_chain}
use Rattle.interchange.proofs.ChainLaws.{if_ok}
use Rattle.interchange.proofs.ListLaws.{body_is}
use Rattle.interchange.proofs.nests.body_in.Goals as goal

pub returns : goal.returns
returns c =
    if_ok c.canonised.result (λ new. part_of new ≡ rewritten (canonising (map (λ (l : Loop). l.variable) (map loop_of c.in_ok-ordered.ordered)) c.args.nest.now.symbols) (part_of c.in_ok-part.part))
    (λ new. part_of new ≡ body_in (nest_of c.args.nest.now) (plain_chain c.args.chain) c.args.order.now)
    (λ new is. is ∙ body_is c.args.nest.now c.args.chain c.args.order.now c.in_ok-ordered.ordered (part_of c.in_ok-part.part)
    (c.in_ok-ordered.ensures ∙ ap (λ ls. in_order (map loop_of ls) c.args.order.now) c.as_slice.ensures)
    (c.in_ok-part.ensures ∙ ap (λ ls. part_in_loops (part_of c.args.nest.now.body) (map loop_of ls) (parts (map part_of c.args.chain.body))) c.as_slice-2.ensures))
    c.canonised.ensures
