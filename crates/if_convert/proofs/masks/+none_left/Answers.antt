use Rattle.std.proofs.Common.{◌≡◌, ◌≤◌, ◌∷◌, [], true, IfOk, ap, length, rules, subst, sym, take, drop, ◌∙◌}
use Rattle.std.proofs.lemmas.Result.{IfOk-weaker}
use Rattle.tree.specs.Plain.{Binary}
use Rattle.tree.specs.declared.ops.Op.TheVariants.{And}
use Rattle.tree.specs.View.{expression_of}
use Rattle.tree.proofs.Equations.{expression_of-truth}
use Rattle.if_convert.specs.Masks.{first_half, none_left}
use Rattle.if_convert.proofs.Halves.{left-more, left-none, left-one, no_items, none_if, two_if}
use Rattle.if_convert.proofs.masks.+none_left.Goals as goal

pub returns-in_default : goal.returns-in_default
returns-in_default t c =
    expression_of-truth true ∙ sym (ap none_left (no_items c.args.jumps.now c.in_default.ensures.cases) ∙ left-none)

pub returns-then-is_empty : goal.returns-then-is_empty
returns-then-is_empty t c =
    let empty : c.in-Some.rest.now ≡ [] = none_if c.is_empty.result c.in-Some.rest.now c.is_empty.ensures c.if-is_empty.true in
    let one : c.args.jumps.now ≡ c.in-Some.first.now ∷ c.in-Some.rest.now = search rules in
    IfOk-weaker c.not_mask.result _ _ (λ e h. h ∙ sym (ap none_left (one ∙ ap (λ ls. c.in-Some.first.now ∷ ls) empty) ∙ left-one c.in-Some.first.now)) c.not_mask.ensures

pub returns : goal.returns
returns t c =
    let one : c.args.jumps.now ≡ c.in-Some.first.now ∷ c.in-Some.rest.now = search rules in
    let many : 2 ≤ length c.args.jumps.now = two_if c.is_empty.result c.args.jumps.now c.in-Some.rest.now c.in-Some.first.now one c.is_empty.ensures c.if-is_empty.false in
    let front : c.split_at.result.0.now ≡ take (first_half c.args.jumps.now) c.args.jumps.now = c.split_at.ensures.front in
    let back : c.split_at.result.1.now ≡ drop (first_half c.args.jumps.now) c.args.jumps.now = c.split_at.ensures.back in
    let a : expression_of c.in_ok-front.front ≡ none_left c.split_at.result.0.now = subst (λ r. IfOk r (λ e. expression_of e ≡ none_left c.split_at.result.0.now)) c.in_ok-front.ensures.first c.none_left.ensures in
    let b : expression_of c.in_ok-front.back ≡ none_left c.split_at.result.1.now = subst (λ r. IfOk r (λ e. expression_of e ≡ none_left c.split_at.result.1.now)) c.in_ok-front.ensures.second c.none_left-2.ensures in
    let whole = left-more c.args.jumps.now many in
    IfOk-weaker c.joined.result _ _ (λ e h. h ∙ (ap (λ x. Binary And x (expression_of c.in_ok-front.back)) (a ∙ ap none_left front) ∙ ap (λ y. Binary And (none_left (take (first_half c.args.jumps.now) c.args.jumps.now)) y) (b ∙ ap none_left back) ∙ sym whole)) c.joined.ensures
