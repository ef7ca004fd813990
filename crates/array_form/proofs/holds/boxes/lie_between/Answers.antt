use Rattle.std.proofs.Common.{◌≡◌, ◌+ℤ◌, rules}
use Rattle.std.specs.Prelude.{int_le}
use Rattle.array_form.proofs.holds.BoxLaws.{lies_there}
use Rattle.array_form.proofs.holds.boxes.lie_between.Goals as goal

pub returns : goal.returns
returns c =
    let same : c.from-constant.result ≡ c.args.constant = search rules in
    let lower : c.from.result ≡ c.args.bounds.lower = search rules in
    let upper : c.from-2.result ≡ c.args.bounds.upper = search rules in
    let first : c.plus.result ≡ c.args.ends.least +ℤ c.from-constant.result = search rules in
    let last : c.plus-2.result ≡ c.args.ends.greatest +ℤ c.from-constant.result = search rules in
    let above : c.at_most.result ≡ int_le c.from.result c.plus.result = search rules in
    let below : c.at_most-2.result ≡ int_le c.plus-2.result c.from-2.result = search rules in
    lies_there c.args.bounds.lower c.args.bounds.upper c.args.ends.least c.args.ends.greatest c.args.constant c.from-constant.result c.from.result c.from-2.result c.plus.result c.plus-2.result c.at_most.result c.at_most-2.result
    same lower upper first last above c.if-not-at_most.false below
