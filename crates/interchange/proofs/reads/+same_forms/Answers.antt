use Rattle.interchange.proofs.ListLaws.{empty}
use Rattle.interchange.proofs.ReadLaws.{forms_end, forms_short, forms_then}
use Rattle.interchange.proofs.reads.+same_forms.Goals as goal

pub returns-in_default : goal.returns-in_default
returns-in_default t c =
    λ loops symbols ps qs few h k. forms_end c.args.one.now c.args.other.now c.is_empty.result (empty c.args.one.now c.in_default.ensures.cases) c.is_empty.ensures loops symbols ps qs few h k

pub returns-in_default-split_first : goal.returns-in_default-split_first
returns-in_default-split_first t c =
    λ loops symbols ps qs few h k. forms_short c.args.one.now c.args.other.now c.in-Some.rest.now c.in-Some.first.now c.in-Some.ensures.cases.0 (empty c.args.other.now c.in_default-split_first.ensures.cases)
    loops symbols ps qs few h k

pub returns-then-same_form : goal.returns-then-same_form
returns-then-same_form t c =
    λ loops symbols ps qs few h k. forms_then c.args.one.now c.args.other.now c.in-Some.rest.now c.in-Some-split_first.others.now c.in-Some.first.now c.in-Some-split_first.second.now c.same_form.result c.same_forms.result
    c.in-Some.ensures.cases.0 c.in-Some-split_first.ensures.cases.0 c.same_form.ensures c.if-same_form.true c.same_forms.ensures loops symbols ps qs few h k
