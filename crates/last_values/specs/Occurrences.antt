-- Where a name stands in a nest. The bounds of a loop stand outside its body.
use Rattle.std.specs.Prelude.{ℕ, Option, Some, None, Bool, false, not, ◌||◌, if◌then◌else◌, List, ◌∷◌}
use Rattle.std.specs.Str.{bytes_eq}
use Rattle.meaning.specs.Reads.{names_in, names_in_subscripts}
use Rattle.tree.specs.Plain.{Expression, Reference}
use Rattle.nest.specs.Plain.{Loop, Guarded, Part, Run, Turns, Choice, Label, Jump, Parts, no_parts, part, Branches}
use Rattle.nest.specs.Plain.{no_branches, branch}
use Rattle.nest.specs.statement_loops.Names.{is_among}

module _ (v : List ℕ) where
  abbrev pub stands_in : Expression → Bool
  stands_in e = is_among (names_in e) v

  abbrev pub stands_in_guard : Option Expression → Bool
  stands_in_guard None = false
  stands_in_guard (Some e) = stands_in e

  -- the variable that is assigned, or one of its subscripts
  abbrev pub stands_in_left : Reference → Bool
  stands_in_left r = is_among (r.name ∷ names_in_subscripts r.subscripts) v

  abbrev pub stands_in_statement : Guarded → Bool
  stands_in_statement s = stands_in_guard s.guard || (stands_in_left s.left || stands_in s.right)

  abbrev pub stands_in_bounds : Loop → Bool
  stands_in_bounds l = stands_in l.first || stands_in l.last

  -- v stands outside the bodies of the loops of which it is the variable
  abbrev mutual
    pub stands_outside : Part → Bool
    stands_outside (Run s) = stands_in_statement s
    stands_outside (Turns l ps) =
        stands_in_bounds l || (if bytes_eq l.variable v then false else stands_outside_in_each ps)
    stands_outside (Choice bs ps) = stands_outside_in_branches bs || stands_outside_in_each ps
    stands_outside (Label n) = false
    stands_outside (Jump n) = false

    pub stands_outside_in_each : Parts → Bool
    stands_outside_in_each no_parts = false
    stands_outside_in_each (part p ps) = stands_outside p || stands_outside_in_each ps

    pub stands_outside_in_branches : Branches → Bool
    stands_outside_in_branches no_branches = false
    stands_outside_in_branches (branch test ps bs) =
        (stands_in test || stands_outside_in_each ps) || stands_outside_in_branches bs

  -- v occurs only inside its loops
  abbrev pub occurs_only_within : Part → Bool
  occurs_only_within p = not (stands_outside p)
