use Rattle.std.proofs.Common.{sym, ◌∙◌}
use Rattle.dependence_graph.proofs.dep_graph.PairLaws.{one_ok}
use Rattle.index_split.proofs.Adding.{pair_crossing, pair_other, pair_zero}
use Rattle.index_split.proofs.CoupleLaws.{isnt, pair_apart, some_side, symbols_are}
use Rattle.index_split.proofs.points.Points.add_pair.Goals as goal

pub returns-then-not-have_same_symbols-clause-list : goal.returns-then-not-have_same_symbols-clause-list
returns-then-not-have_same_symbols-clause-list c =
    pair_apart c.args.self.now.trip c.args.sides.now c.args.self.now.list (sym c.have_same_symbols.ensures ∙ c.if-not-have_same_symbols.true)

pub add_zero-requires-clause-with : goal.add_zero-requires-clause-with
add_zero-requires-clause-with c = λ e. some_side c.args.sides.now c.requires.stands e (c.lacks_loop.ensures.0 c.if-lacks_loop.true)

pub returns-then-lacks_loop-clause-list : goal.returns-then-lacks_loop-clause-list
returns-then-lacks_loop-clause-list c =
    let s = c.args.sides.now in
    let none = c.lacks_loop.ensures.0 c.if-lacks_loop.true in
    one_ok _ _ c.add_zero.result
    (pair_zero c.args.self.now.trip s c.args.self.now.list c.add_zero.new.self.list
    (symbols_are s.first.syms s.second.syms (sym c.have_same_symbols.ensures ∙ c.if-not-have_same_symbols.false))
    (λ e. some_side s c.requires.stands e none) none)
    c.add_zero.ensures.list

pub returns-then-lacks_loop-2-clause-list : goal.returns-then-lacks_loop-2-clause-list
returns-then-lacks_loop-2-clause-list c =
    let s = c.args.sides.now in
    one_ok _ _ c.add_zero-then-lacks_loop-2.result
    (pair_other c.args.self.now.trip s c.args.self.now.list c.add_zero-then-lacks_loop-2.new.self.list
    (symbols_are s.first.syms s.second.syms (sym c.have_same_symbols.ensures ∙ c.if-not-have_same_symbols.false))
    (c.lacks_loop-2.ensures.0 c.if-lacks_loop-2.true) (isnt c.lacks_loop.result _ c.lacks_loop.ensures.1 c.if-lacks_loop.false))
    c.add_zero-then-lacks_loop-2.ensures.list

pub returns-then-are_opposite-clause-list : goal.returns-then-are_opposite-clause-list
returns-then-are_opposite-clause-list c =
    let s = c.args.sides.now in
    one_ok _ _ c.add_crossing.result
    (pair_crossing c.args.self.now.trip s c.args.self.now.list c.add_crossing.new.self.list
    (symbols_are s.first.syms s.second.syms (sym c.have_same_symbols.ensures ∙ c.if-not-have_same_symbols.false))
    (isnt c.lacks_loop-2.result _ c.lacks_loop-2.ensures.1 c.if-lacks_loop-2.false) (isnt c.lacks_loop.result _ c.lacks_loop.ensures.1 c.if-lacks_loop.false))
    c.add_crossing.ensures.list
