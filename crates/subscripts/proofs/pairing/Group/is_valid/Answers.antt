use Rattle.std.proofs.Common.{◌≡◌, ◌<◌, ◌+◌, ℕ, List, take, get_or, length, arith, refl, subst, sym, inl, inr}
use Rattle.std.proofs.lemmas.Bool.{cases_eq}
use Rattle.subscripts.specs.Shapes.{members}
use Rattle.subscripts.specs.declared.pairing.Pairing.{Pairing}
use Rattle.subscripts.proofs.Members.{AreBesideFirst, IsMemberBeside, is_group, member_at}
use Rattle.subscripts.proofs.pairing.Group.is_valid.Goals as goal

pub loop-member-preserved : goal.loop-member-preserved
loop-member-preserved c k q h =
    elim (cases_eq k c.loop-member.member-index) [
      | inl e ↦ subst (λ (n : ℕ). IsMemberBeside (get_or (take c.from-count.result c.args.self.now.at) 0 q) (get_or (take c.from-count.result c.args.self.now.at) n q)) (sym e)
          (member_at (take c.from-count.result c.args.self.now.at) c.loop-member.member-index q _ _ c.loop-member-test.true (c.is_member.ensures.pairing c.if-not-is_member.false)
          (c.is_member.ensures.linear c.if-not-is_member.false) (c.is_member.ensures.not_ziv c.if-not-is_member.false) (c.are_beside.ensures c.if-not-are_beside.false))
      | inr n ↦ c.loop-member.invariant k q (omega arith)
    ]

pub returns : goal.returns
returns c = λ t.
    let e : take c.from-count.result c.args.self.now.at ≡ members c.args.self.now = subst (λ (n : ℕ). take n c.args.self.now.at ≡ members c.args.self.now) (sym c.from-count.ensures) refl in
    is_group c.args.self.now (omega arith) (omega arith) (subst AreBesideFirst e (λ k q l. c.loop-member.invariant k q (omega arith)))
