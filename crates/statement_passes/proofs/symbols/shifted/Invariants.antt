-- The terms so far have the places of the longer list.
use Rattle.std.proofs.Common.{◌≡◌, ◌++◌, drop, length, map, take}
use Rattle.statement_passes.specs.Symbols.{shifted_term}
use Rattle.statement_passes.proofs.symbols.shifted.Given as goal

abbrev pub invariant-loop-place : goal.invariant-loop-place
invariant-loop-place l =
    record {
      eight : length l.syms ≡ 8;
      terms : l.syms ≡ map (shifted_term l.at) (take l.place l.form.syms) ++ drop l.place l.form.syms;
    }
