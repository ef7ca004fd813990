use Rattle.std.proofs.Common.{rules, ◌∙◌, take, arith, length-take}
use Rattle.streams.proofs.Chained.{takes_beyond, takes_within}
use Rattle.streams.proofs.transfer.read_all.Goals as goal

pub returns-then-n-limit-clause-too_long : goal.returns-then-n-limit-clause-too_long
returns-then-n-limit-clause-too_long g c =
    λ _.
    let n = c.in-Bytes.n in
    let buffer = c.take.new.buffer in
    takes_beyond c.args.limit _ _ _ c.loop-n.bytes.items (take n buffer) c.loop-n.invariant.taken c.in-Bytes.ensures.bytes (omega (arith, c.in-Bytes.ensures.count, length-take n buffer))

pub returns-in_err-extend_from_slice-in-Bytes-clause-not_too_long :
    goal.returns-in_err-extend_from_slice-in-Bytes-clause-not_too_long
returns-in_err-extend_from_slice-in-Bytes-clause-not_too_long g c =
    λ _.
    let n = c.in-Bytes.n in
    let buffer = c.take.new.buffer in
    takes_within c.args.limit _ _ _ c.loop-n.bytes.items (take n buffer) c.loop-n.invariant.taken c.in-Bytes.ensures.bytes (omega (arith, c.in-Bytes.ensures.count, length-take n buffer))

pub returns-then-n-limit-clause-no_fault : goal.returns-then-n-limit-clause-no_fault
returns-then-n-limit-clause-no_fault g c = λ _. c.in-Bytes.ensures.not_failed (search rules) ∙ c.loop-n.invariant.faultless

pub returns-in_err-extend_from_slice-in-Bytes-clause-no_fault :
    goal.returns-in_err-extend_from_slice-in-Bytes-clause-no_fault
returns-in_err-extend_from_slice-in-Bytes-clause-no_fault g c =
    λ _. c.in-Bytes.ensures.not_failed (search rules) ∙ c.loop-n.invariant.faultless

pub returns-in-End-clause-no_fault : goal.returns-in-End-clause-no_fault
returns-in-End-clause-no_fault g c = λ _. c.in-End.ensures.not_failed (search rules) ∙ c.loop-n.invariant.faultless
