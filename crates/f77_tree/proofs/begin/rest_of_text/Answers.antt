use Rattle.std.proofs.Common.{◌≡◌, ◌+◌, ◌-◌, drop, ap, ◌∙◌, arith}
use Rattle.f77_laws.specs.trees.Steps as steps
use Rattle.f77_tree.specs.Parts.{known_uses, known_store}
use Rattle.f77_grammar.specs.syntax.Views.{text_of}
use Rattle.f77_tree.specs.Rests.{rest_of}
use Rattle.f77_tree.proofs.BegunLaws.{rest_more}
use Rattle.f77_tree.proofs.begin.rest_of_text.Goals as goal

pub loop-i-preserved : goal.loop-i-preserved
loop-i-preserved c =
    let us = known_uses c.args.resolver.now in
    let s = known_store c.args.resolver.now in
    let named = c.args.targets.now.list.items in
    let back : c.loop-i.i ≡ c.loop-i.i - 1 + 1 = omega arith in
    record {
      within = omega arith;
      rest = rest_more us s named c.args.text.now (c.loop-i.i - 1) c.index-text-i.result (rest_of c.loop-i.rest) (rest_of c.in_ok-rest.rest) (omega arith) c.index-text-i.is
          (c.loop-i.invariant.rest ∙ ap (λ j. steps.rest_from us s named (drop j (text_of c.args.text.now))) back)
          c.in_ok-rest.ensures;
    }
