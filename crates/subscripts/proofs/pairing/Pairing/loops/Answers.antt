use Rattle.std.proofs.Common.{◌≡◌, ◌+◌, ◌<◌, ◌≤◌, arith, get_or, subst, sym, ◌∙◌, ap}
use Rattle.std.specs.Prelude.{FitsSigned, pos}
use Rattle.std.proofs.lemmas.Int.{ints, to_z-of_z}
use mir.Syntax.{w64}
use Rattle.subscripts.proofs.Loops.{IsBefore, all_seen, own_loops, shared_loop}
use Rattle.subscripts.proofs.Sizes.{place_fits}
use Rattle.subscripts.specs.Found.{IsFoundAmong, with_loop}
use Rattle.subscripts.proofs.pairing.Pairing.loops.Goals as goal
use Rattle.subscripts.proofs.pairing.Pairing.loops.Goals.{then-k-from, else-k-from}

pub loop-k-init : goal.loop-k-init
loop-k-init c = λ m h k. absurd (omega arith)

pub loop-k-preserved : goal.loop-k-preserved
loop-k-preserved c =
    let f : FitsSigned w64 (get_or c.args.self.now.from.loops c.loop-k.k (pos 0)) = place_fits c.args.self.now.from.loops c.loop-k.k c.requires.from.small_loops in
    let s : FitsSigned w64 (get_or c.args.self.now.to.loops c.loop-k.k (pos 0)) = place_fits c.args.self.now.to.loops c.loop-k.k c.requires.to.small_loops in
    elim c.if-k-from.branch [
      | then-k-from w ↦
          let g = shared_loop c.args.self.now c.loop-k.k c.loop-k.found (omega arith) c.loop-k.invariant in
          let e = simp to_z-of_z at w.with-found.ensures in
          subst (λ x. IsFoundAmong c.args.self.now (IsBefore (c.loop-k.k + 1)) x) (sym (w.found-is ∙ e)) g
      | else-k-from w ↦
          let g = own_loops c.args.self.now c.loop-k.k c.loop-k.found (omega arith) (omega arith) c.loop-k.invariant in
          let e = simp to_z-of_z at w.with.ensures in
          let d = simp to_z-of_z at w.with-found-else-k-from.ensures in
          subst (λ x. IsFoundAmong c.args.self.now (IsBefore (c.loop-k.k + 1)) x) (sym (w.found-is ∙ d ∙ ap (λ x. with_loop x (pos 0) (get_or c.args.self.now.to.loops c.loop-k.k (pos 0))) e)) g
    ]

pub returns : goal.returns
returns c = all_seen c.args.self.now c.loop-k.k c.loop-k.found (omega arith) (omega arith) c.loop-k.invariant
