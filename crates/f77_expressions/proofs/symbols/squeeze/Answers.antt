use Rattle.std.proofs.Common.{◌∙◌, sym, arith}
use Rattle.f77_expressions.proofs.ScanningLaws.{scanned, squeezed_as, only}
use Rattle.f77_expressions.proofs.symbols.squeeze.Goals as goal

pub returns-clause-found : goal.returns-clause-found
returns-clause-found c =
    squeezed_as _ _ (scanned c.args.chars.now c.scanning.c-index _ _ _ (omega arith) c.scanning.invariant c.in_ok-end.ensures)

pub returns-clause-only : goal.returns-clause-only
returns-clause-only c ss h =
    sym (scanned c.args.chars.now c.scanning.c-index _ _ _ (omega arith) c.scanning.invariant c.in_ok-end.ensures) ∙ only h
