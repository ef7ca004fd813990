use Rattle.std.proofs.Common.{◌≡◌, arith, rules}
use Rattle.meaning.specs.Reads.{names_in_subscript}
use Rattle.tree.specs.View.{subscript_of}
use Rattle.nest.specs.statement_loops.Names.{is_among}
use Rattle.nest.proofs.statement_loops.StandingLaws.{finds, finds_none}
use Rattle.last_values.proofs.occurrences.stands_in_subs.Goals as goal

pub returns-then-stands_in_sub : goal.returns-then-stands_in_sub
returns-then-stands_in_sub c =
    let same : c.as_slice-sub-items.result.now ≡ c.args.subs.now = first_of (cc, search rules) in
    finds (λ z. is_among (names_in_subscript z) c.args.name) subscript_of c.as_slice-sub-items.result.now c.args.subs.now c.loop-sub.sub-index c.sub-item.result c.stands_in_sub.result
    same (omega arith) c.sub-item.is c.stands_in_sub.ensures c.if-stands_in_sub.true

pub returns : goal.returns
returns c =
    let same : c.as_slice-sub-items.result.now ≡ c.args.subs.now = first_of (cc, search rules) in
    finds_none (λ z. is_among (names_in_subscript z) c.args.name) subscript_of c.as_slice-sub-items.result.now c.args.subs.now c.loop-sub.sub-index same (omega arith) c.loop-sub.invariant
