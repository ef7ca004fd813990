-- The variables whose last values stand behind all loops.
use Rattle.std.specs.Prelude.{ℕ, Option, Some, None, Bool, true, false, ◌&&◌, if◌then◌else◌, List}
use Rattle.std.specs.List.{list_all}
use Rattle.std.specs.Str.{bytes_eq}
use Rattle.nest.specs.Plain.{Part}
use Rattle.last_values.specs.declared.normal_forms.last.LastForms.{LastForms}
use Rattle.last_values.specs.normal_forms.LastValues.{last_forms, have_plain_trips}
use Rattle.last_values.specs.declared.behind.NestedLoop.{NestedLoop}
use Rattle.last_values.specs.Occurrences.{occurs_only_within}

abbrev pub are_within : Option LastForms → Bool
are_within None = false
are_within (Some f) = true

-- the loop's last turn is known, and its forms are within the limits; n is how many symbols there are
abbrev pub ends_behind : ℕ → NestedLoop → Bool
ends_behind n l = have_plain_trips l.round && are_within (last_forms n l.round l.turns)

-- v has other loops, or this one ends so
abbrev pub may_end_behind : ℕ → List ℕ → NestedLoop → Bool
may_end_behind n v l = if bytes_eq l.turns.variable v then ends_behind n l else true

-- Of the loops ls of the nest p: v occurs only inside its loops, and each of them ends so. Then its last values stand
-- behind all loops, and otherwise in place
unfoldable pub stands_behind : ℕ → List NestedLoop → Part → List ℕ → Bool
stands_behind n ls p v = occurs_only_within v p && list_all (may_end_behind n v) ls
