-- How many bits of INTEGER stand beside the sign.
use Rattle.std.specs.Prelude.{ℕ}
use Rattle.tree.specs.declared.width.Width.{Width}
use Rattle.tree.specs.declared.width.Width.TheVariants.{Plain, Wide}

abbrev pub bits_of : Width → ℕ
bits_of Plain = 31
bits_of Wide = 63
