use Rattle.std.proofs.Common.{arith, ◌≡◌, ◌<◌, ◌≤◌, length, get_or, sym, ◌∙◌, rules}
use Rattle.f90_statement.specs.Contents.{are_wide}
use Rattle.f90_statement.specs.Views.{IsEntityOf}
use Rattle.f90_statement.proofs.AnyLaws.{begun, passed, met, ended}
use Rattle.f90_statement.proofs.contents.has_wide_entity.Goals as goal

pub loop-entity-init : goal.loop-entity-init
loop-entity-init c all a = begun IsEntityOf (are_wide) c.args.entities.now all a

pub loop-entity-preserved : goal.loop-entity-preserved
loop-entity-preserved c all a =
    let l : c.loop-entity.entity-index < length c.args.entities.now = first_of (omega arith, search rules) in
    let g : get_or c.args.entities.now c.loop-entity.entity-index c.entity-item.result ≡ c.entity-item.result = first_of (cc, search rules) in
    passed IsEntityOf (are_wide) c.args.entities.now c.loop-entity.entity-index c.entity-item.result all l g (λ p m. sym c.if-is_wide.false ∙ c.is_wide.ensures p m) (c.loop-entity.invariant all a)

pub returns-then-is_wide : goal.returns-then-is_wide
returns-then-is_wide c all a =
    let l : c.loop-entity.entity-index < length c.args.entities.now = first_of (omega arith, search rules) in
    let g : get_or c.args.entities.now c.loop-entity.entity-index c.entity-item.result ≡ c.entity-item.result = first_of (cc, search rules) in
    met IsEntityOf (are_wide) c.args.entities.now c.loop-entity.entity-index c.entity-item.result all l g (λ p m. sym c.if-is_wide.true ∙ c.is_wide.ensures p m) (c.loop-entity.invariant all a)

pub returns : goal.returns
returns c all a =
    let l : length c.args.entities.now ≤ c.loop-entity.entity-index = first_of (omega arith, search rules) in
    ended IsEntityOf (are_wide) c.args.entities.now c.loop-entity.entity-index all l (c.loop-entity.invariant all a)
