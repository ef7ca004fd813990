-- What a rule makes of a statement of a nest.
use Rattle.std.specs.Option.{option_map}
use Rattle.rewrite.specs.Making.{Making, made, made_left}
use Rattle.nest.specs.Plain.{Guarded}

module _ (m : Making) where
  abbrev pub rewritten_statement : Guarded → Guarded
  rewritten_statement s =
      record s { guard = option_map (made m) s.guard; left = made_left m s.left; right = made m s.right }
