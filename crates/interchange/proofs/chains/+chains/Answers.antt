use Rattle.std.proofs.Common.{◌≡◌, ◌∙◌, sym, ap, map}
use Rattle.nest.specs.Plain.{parts}
use Rattle.nest.specs.View.{part_of}
use Rattle.interchange.specs.Chains.{are_statements, chain_in}
use Rattle.interchange.specs.View.{chain_of as plain_chain}
use Rattle.std.specs.Option.{option_map}
use Rattle.interchange.proofs.ChainLaws.{chain_alone, chain_many, chain_none, if_ok}
use Rattle.interchange.proofs.chains.+chains.Goals as goal

pub chain_in-returns-in_default : goal.chain_in-returns-in_default
chain_in-returns-in_default t c = chain_none c.as_slice.result.now c.args.body.now c.as_slice.ensures c.in_default.ensures.cases

pub chain_in-returns-then-not-is_empty : goal.chain_in-returns-then-not-is_empty
chain_in-returns-then-not-is_empty t c =
    let split = c.in-Some.ensures.cases.0 in
    chain_many c.as_slice.result.now c.args.body.now c.in-Some.rest.now c.in-Some.first.now c.are_statements.result c.is_empty.result c.as_slice.ensures split
    (c.are_statements.ensures ∙ ap (λ ps. are_statements (parts (map part_of ps))) (c.as_slice-2.ensures ∙ sym c.as_slice.ensures)) c.if-are_statements.false
    c.is_empty.ensures c.if-not-is_empty.true

pub chain_in-returns : goal.chain_in-returns
chain_in-returns t c =
    let split = c.in-Some.ensures.cases.0 in
    if_ok c.chain_of.result (λ o. option_map plain_chain o ≡ Rattle.interchange.specs.Chains.chain_of (part_of c.in-Some.first.now)) (λ o. option_map plain_chain o ≡ chain_in (parts (map part_of c.args.body.now)))
    (λ o is. chain_alone c.as_slice.result.now c.args.body.now c.in-Some.rest.now c.in-Some.first.now c.are_statements.result c.is_empty.result o c.as_slice.ensures split
    (c.are_statements.ensures ∙ ap (λ ps. are_statements (parts (map part_of ps))) (c.as_slice-2.ensures ∙ sym c.as_slice.ensures)) c.if-are_statements.false
    c.is_empty.ensures c.if-not-is_empty.false is)
    c.chain_of.ensures
