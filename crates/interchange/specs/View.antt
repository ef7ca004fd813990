-- Chains of the program as plain ones.
use Rattle.std.specs.Prelude.{map}
use Rattle.nest.specs.Plain.{parts}
use Rattle.nest.specs.View.{loop_of, part_of}
use Rattle.interchange.specs.Chains as plain
use Rattle.interchange.specs.declared.chains.Chain.{Chain}

abbrev pub chain_of : Chain → plain.Chain
chain_of c = record { loops = map loop_of c.loops; body = parts (map part_of c.body) }
