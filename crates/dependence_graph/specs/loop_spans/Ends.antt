-- The ends of spans.
use Rattle.std.specs.Prelude.{IfSome}
use Rattle.subscripts.specs.Shapes.{IsSmall}
use Rattle.subscripts.specs.declared.affine.Span.{Span}

-- an end is at most 2^40 in size
abbrev pub HasSmallEnd : Span → Type 0
HasSmallEnd s = IfSome s.last IsSmall
