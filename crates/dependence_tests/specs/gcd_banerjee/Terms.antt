-- The values of a linear form over a loop's iterations.
use Rattle.std.specs.Prelude.{◌≡◌, ℤ, pos, Option, Some, None, IfSome, ◌-ℤ◌, ◌*ℤ◌, ◌≤ℤ◌, ◌<ℤ◌}
use Rattle.subscripts.specs.Iterations.{WithinSpan, IsRelated}
use Rattle.subscripts.specs.declared.affine.Dir.{Dir}
use Rattle.subscripts.specs.declared.affine.Span.{Span}

-- how many steps are left from an iteration on
abbrev pub room_from : ℤ → Option ℤ → Option ℤ
room_from start None = None
room_from start (Some n) = Some (n -ℤ start)

-- an iteration up to the last one
pub record IsUpTo (last : Option ℤ) (i : ℤ) : Type 0 where
  pub low : pos 1 ≤ℤ i
  pub high : IfSome last (λ n. i ≤ℤ n)

-- c * i
pub record IsAlong (c : ℤ) (last : Option ℤ) (z : ℤ) : Type 0 where
  pub at : ℤ
  pub up_to : IsUpTo last at
  pub value : z ≡ c *ℤ at

-- a * i - b * j, where i is before j
pub record IsBeforeValue (a b : ℤ) (last : Option ℤ) (z : ℤ) : Type 0 where
  pub first : ℤ
  pub second : ℤ
  pub low : pos 1 ≤ℤ first
  pub before : first <ℤ second
  pub high : IfSome last (λ n. second ≤ℤ n)
  pub value : z ≡ a *ℤ first -ℤ b *ℤ second

-- a * i - b * j, where i stands to j as the direction says
pub record IsTermValue (a b : ℤ) (s t : Span) (d : Dir) (z : ℤ) : Type 0 where
  pub first : ℤ
  pub second : ℤ
  pub first_within : WithinSpan s first
  pub second_within : WithinSpan t second
  pub related : IsRelated d first second
  pub value : z ≡ a *ℤ first -ℤ b *ℤ second
