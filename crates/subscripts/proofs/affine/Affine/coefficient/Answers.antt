use Rattle.std.proofs.Common.{rules, ◌≡◌, ◌<◌, ◌≤◌, ◌^◌, arith, length, take, get_or, ap, sym, ◌∙◌}
use Rattle.std.specs.Int.{cast_signed}
use Rattle.std.specs.Prelude.{FitsSigned, ℤ, pos, unsigned_abs, ◌+ℤ◌}
use Rattle.std.proofs.lemmas.Int.{ints, to_z-of_z, fits_signed_from_abs}
use Rattle.std.proofs.lemmas.List.{take_all}
use Rattle.std.proofs.lemmas.List.Elements.{All-get_or}
use mir.Syntax.{w64}
use Rattle.subscripts.proofs.SymbolSums.{front_counts, front_skips, front_small}
use Rattle.subscripts.specs.Forms.{coefficient}
use Rattle.subscripts.specs.Shapes.{IsSmall}
use Rattle.subscripts.proofs.affine.Affine.coefficient.Goals as goal
use Rattle.subscripts.proofs.affine.Affine.coefficient.Goals.{then-place-symbol, else-place-symbol}

pub overflow_add-sum : goal.overflow_add-sum
overflow_add-sum c =
    let s = front_small c.args.self.now.syms c.loop-place.place-index c.args.symbol c.requires (omega arith) in
    let t : IsSmall (get_or c.args.self.now.syms c.loop-place.place-index (0, pos 0)).1 = All-get_or (λ t. IsSmall t.1) c.args.self.now.syms c.loop-place.place-index (0, pos 0) (omega arith) c.requires in
    let f : FitsSigned w64 (get_or c.args.self.now.syms c.loop-place.place-index (0, pos 0)).1 = fits_signed_from_abs w64 _ (omega arith) in
    simp to_z-of_z (fits_signed_from_abs w64 _ (omega (arith, ints)))

pub loop-place-preserved : goal.loop-place-preserved
loop-place-preserved c =
    elim c.if-place-symbol.branch [
      | then-place-symbol w ↦
          let t : IsSmall (get_or c.args.self.now.syms c.loop-place.place-index (0, pos 0)).1 = All-get_or (λ t. IsSmall t.1) c.args.self.now.syms c.loop-place.place-index (0, pos 0) (omega arith) c.requires in
          let f : FitsSigned w64 (get_or c.args.self.now.syms c.loop-place.place-index (0, pos 0)).1 = fits_signed_from_abs w64 _ (omega arith) in
          let e = front_counts c.args.self.now.syms c.loop-place.place-index c.args.symbol c.loop-place.sum (omega arith) (omega (arith, ints)) w.if-place-symbol.true in
          let k = front_small c.args.self.now.syms c.loop-place.place-index c.args.symbol c.requires (omega arith) in
          let g : FitsSigned w64 (cast_signed w64 c.loop-place.sum-bits +ℤ (get_or c.args.self.now.syms c.loop-place.place-index (0, pos 0)).1) = fits_signed_from_abs w64 _ (omega (arith, ints)) in
          let q = simp to_z-of_z at w.sum-is in
          omega (arith, ints)
      | else-place-symbol w ↦ let e = front_skips c.args.self.now.syms c.loop-place.place-index c.args.symbol c.loop-place.sum (omega arith) (omega (arith, ints)) w.if-place-symbol.false in
          let q = w.sum-is in omega (arith, ints)
    ]

pub returns : goal.returns
returns c = record {
  value = c.loop-place.invariant ∙ ap (λ us. coefficient us c.args.symbol) (take_all c.loop-place.place-index c.args.self.now.syms (omega arith));
  small = let s = front_small c.args.self.now.syms c.loop-place.place-index c.args.symbol c.requires (omega arith) in omega (arith, ints);
}
