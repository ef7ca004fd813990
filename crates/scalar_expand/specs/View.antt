-- What stands for something, or the thing itself where nothing does.
use Rattle.std.specs.Prelude.{Option, Some, None}

abbrev pub made_or : {A : Type 0} → Option A → A → A
made_or None x = x
made_or (Some y) x = y
