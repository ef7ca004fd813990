use Rattle.std.proofs.Common.{◌≡◌, ◌∙◌, sym, ap, ◌+ℤ◌, ◌*ℤ◌, Option, ◌∷◌, rules}
use Rattle.linear_forms.specs.Merging.{merged, all_pushed}
use Rattle.linear_forms.specs.Pushing.{pushed, then_pushed}
use Rattle.linear_forms.specs.declared.terms.Terms.{Terms}
use Rattle.linear_forms.proofs.Merges.{merged_equal}
use Rattle.linear_forms.proofs.terms.+with_both.Goals as goal

pub returns-in-None-with-3 : goal.returns-in-None-with-3
returns-in-None-with-3 t c =
    let ts = c.in-Some.ts.now in
    let us = c.in-Some-split_first.us.now in
    let t = c.in-Some.t.now in
    let u = c.in-Some-split_first.u.now in
    let first : c.args.terms.now ≡ t ∷ ts = search rules in
    let second : c.args.others.now ≡ u ∷ us = search rules in
    let one : c.with-2.result ≡ pushed t.0 (t.1 +ℤ c.args.k *ℤ u.1) c.args.sum = search rules in
    let e = merged_equal c.args.k c.args.terms.now c.args.others.now ts us t u c.args.sum first second c.if-t-u.false c.if-u-t.false in
    sym (e ∙ ap (λ (o : Option Terms). then_pushed o (all_pushed (merged c.args.k ts us))) (sym one ∙ c.in-None-with-3.is))

pub returns-in-Some-with-4 : goal.returns-in-Some-with-4
returns-in-Some-with-4 t c =
    let ts = c.in-Some.ts.now in
    let us = c.in-Some-split_first.us.now in
    let t = c.in-Some.t.now in
    let u = c.in-Some-split_first.u.now in
    let first : c.args.terms.now ≡ t ∷ ts = search rules in
    let second : c.args.others.now ≡ u ∷ us = search rules in
    let one : c.with-2.result ≡ pushed t.0 (t.1 +ℤ c.args.k *ℤ u.1) c.args.sum = search rules in
    let rest : c.with_both-in-Some-with-4.result ≡ all_pushed (merged c.args.k ts us) c.in-Some-with-4.sum = search rules in
    let e = merged_equal c.args.k c.args.terms.now c.args.others.now ts us t u c.args.sum first second c.if-t-u.false c.if-u-t.false in
    rest ∙ sym (e ∙ ap (λ (o : Option Terms). then_pushed o (all_pushed (merged c.args.k ts us))) (sym one ∙ c.in-Some-with-4.is))
