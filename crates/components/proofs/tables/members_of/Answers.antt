use Rattle.std.proofs.Common.{◌≡◌, ◌<◌, ◌∷◌, ◌++◌, [], length, set, sym, ap, ◌∙◌, subst, arith}
use Rattle.std.proofs.lemmas.List.{get_or_read}
use Rattle.components.specs.Classes.{AreMembers}
use Rattle.components.specs.Labels.{at}
use Rattle.components.proofs.Grouping.{member_more, no_members}
use Rattle.components.proofs.tables.members_of.Goals as goal

pub loop-number-init : goal.loop-number-init
loop-number-init c = subst (AreMembers 0 c.args.count c.args.labels.now) (sym c.in_ok-members.ensures) (no_members c.args.count c.args.labels.now)

pub loop-number-preserved : goal.loop-number-preserved
loop-number-preserved c =
    let n = c.loop-number.number in
    let labels = c.args.labels.now in
    let members = c.loop-number.members.items in
    let listed : at labels n < c.args.count = c.requires n (omega arith) in
    let inside : at labels n < length members = subst (λ z. at labels n < z) (sym c.loop-number.invariant.size) listed in
    let value = get_or_read members (at labels n) c.index_mut.result.now inside c.index_mut.ensures.value [] in
    member_more n c.args.count labels members (set members (at labels n) c.push.new.self) c.loop-number.invariant listed
    (ap (set members (at labels n)) (c.in_ok-push.ensures.ok ∙ ap (λ z. z ++ n ∷ []) value))

pub returns : goal.returns
returns c =
    subst (λ z. AreMembers z c.args.count c.args.labels.now c.loop-number.members.items) (let e : c.loop-number.number ≡ length c.args.labels.now = omega arith in e)
    c.loop-number.invariant
