use Rattle.std.proofs.Common.{◌≡◌, ◌∙◌, ◌-◌, ap, arith, length, map, subst, sym}
use Rattle.std.specs.Prelude.{IfOk}
use Rattle.nest.specs.Bodies.{Standing, nest_statements}
use Rattle.nest.specs.View.{nest_of}
use Rattle.nest.specs.statement_loops.Standings.{standing_of}
use Rattle.array_form.specs.holds.Holds.{holds_of_standing}
use Rattle.array_form.proofs.holds.Asked.{all_noted_of, as_many, own_noted, standing_at}
use Rattle.array_form.proofs.holds.levels.holds.Goals as goal

pub holds_of_standing-requires-clause-own : goal.holds_of_standing-requires-clause-own
holds_of_standing-requires-clause-own c =
    let n = nest_of c.args.nest.now in
    let many = as_many n c.in_ok-all.all c.in_ok-all.ensures in
    let first = ap length c.as_slice.ensures in
    let second = ap length c.as_slice-2.ensures in
    let third = ap length c.as_slice-3.ensures in
    let noted = c.in_ok-noted.ensures.many in
    let one = c.requires.from_one in
    let there = c.requires.place in
    own_noted n c.as_slice-2.result.now c.as_slice-3.result.now (c.args.s - 1) c.index-as_slice-s.result c.index-as_slice-s-2.result
    (all_noted_of n c.as_slice.result.now c.as_slice-2.result.now c.in_ok-noted.noted c.as_slice-3.result.now (c.as_slice.ensures ∙ sym c.as_slice-2.ensures) (sym c.as_slice-3.ensures) c.in_ok-noted.ensures.noted)
    (omega arith) (omega arith) c.index-as_slice-s.is c.index-as_slice-s-2.is

pub returns : goal.returns
returns c =
    let n = nest_of c.args.nest.now in
    let all : map standing_of c.as_slice-2.result.now ≡ nest_statements n = ap (map standing_of) c.as_slice-2.ensures ∙ c.in_ok-all.ensures in
    let many = as_many n c.as_slice-2.result.now all in
    let one = c.requires.from_one in
    let there = c.requires.place in
    subst (λ (x : Standing). IfOk c.holds_of_standing.result (λ hs. hs ≡ holds_of_standing n c.args.s x)) (standing_at n c.as_slice-2.result.now c.args.s c.index-as_slice-s.result all (omega arith) c.index-as_slice-s.is)
    c.holds_of_standing.ensures
