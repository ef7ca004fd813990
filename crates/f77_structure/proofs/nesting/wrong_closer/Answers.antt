use Rattle.std.proofs.Common.{sym, ◌∙◌, arith}
use Rattle.f77_grammar.specs.program.Nesting.{is_closed_wrongly}
use Rattle.f77_structure.specs.LabelPlaces.{place_of}
use Rattle.f77_structure.specs.Openings.{frames, loops_in}
use Rattle.f77_structure.proofs.Closers.{closer_named, frames_named, loops_named, firsts_named}
use Rattle.f77_grammar.proofs.syntax.Walks.{search_goes_on, search_stops_at, search_ends}
use Rattle.f77_structure.proofs.nesting.wrong_closer.Goals as goal

pub returns-then-has_wrong_closer : goal.returns-then-has_wrong_closer
returns-then-has_wrong_closer c =
    search_stops_at is_closed_wrongly c.args.text.now c.loop-i.i c.index-text-i.result (omega arith) c.index-text-i.is
    (closer_named c.args.text.now c.loop-i.i c.index-text-i.result (place_of c.args.ends.now) (place_of c.loop-i.firsts) (frames c.loop-i.openings) (loops_in c.loop-i.openings)
    c.of-form.result c.begun.result c.place_under-end.result c.place_under-first.result (omega arith) c.index-text-i.is c.requires c.loop-i.invariant.firsts
    c.loop-i.invariant.ifs c.loop-i.invariant.loops c.of-form.ensures c.begun.ensures c.place_under-end.ensures c.place_under-first.ensures
    ∙ sym c.has_wrong_closer.ensures.answer ∙ c.if-has_wrong_closer.true)
    c.loop-i.invariant.searched

pub loop-i-preserved : goal.loop-i-preserved
loop-i-preserved c = record {
  searched = search_goes_on is_closed_wrongly c.args.text.now c.loop-i.i c.index-text-i.result (omega arith) c.index-text-i.is
      (closer_named c.args.text.now c.loop-i.i c.index-text-i.result (place_of c.args.ends.now) (place_of c.loop-i.firsts) (frames c.loop-i.openings) (loops_in c.loop-i.openings)
      c.of-form.result c.begun.result c.place_under-end.result c.place_under-first.result (omega arith) c.index-text-i.is c.requires c.loop-i.invariant.firsts
      c.loop-i.invariant.ifs c.loop-i.invariant.loops c.of-form.ensures c.begun.ensures c.place_under-end.ensures c.place_under-first.ensures
      ∙ sym c.has_wrong_closer.ensures.answer ∙ c.if-has_wrong_closer.false)
      c.loop-i.invariant.searched;
  ifs = frames_named c.args.text.now c.loop-i.i c.index-text-i.result (frames c.loop-i.openings) (frames c.has_wrong_closer.new.self) (frames c.in_ok-openings.openings) c.of-form.result
      (omega arith) c.index-text-i.is c.loop-i.invariant.ifs c.of-form.ensures c.has_wrong_closer.ensures.ifs c.in_ok-openings.ensures.ifs;
  loops = loops_named c.args.text.now c.loop-i.i c.index-text-i.result (place_of c.args.ends.now) (loops_in c.loop-i.openings) (loops_in c.has_wrong_closer.new.self) (loops_in c.in_ok-openings.openings)
      c.of-form.result c.begun.result c.place_under-end.result (omega arith) c.index-text-i.is c.loop-i.invariant.loops c.of-form.ensures c.begun.ensures c.place_under-end.ensures
      c.has_wrong_closer.ensures.loops c.in_ok-openings.ensures.loops;
  firsts = firsts_named c.args.text.now c.loop-i.i c.index-text-i.result (place_of c.loop-i.firsts) (place_of c.put_first.new.self) c.of-form.result c.begun-in-loop-i.result
      (omega arith) c.index-text-i.is c.loop-i.invariant.firsts c.of-form.ensures c.begun-in-loop-i.ensures c.in_ok-put_first.ensures;
}

pub returns : goal.returns
returns c = search_ends is_closed_wrongly c.args.text.now c.loop-i.i (omega arith) c.loop-i.invariant.searched
