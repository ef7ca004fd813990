-- Which entries of a listing belong together.
use Rattle.std.specs.Prelude.{◌≡◌, Bool, true, false, List, [], ◌∷◌}
use Rattle.std.specs.List.{AllByRecursion, flat_map}
use Rattle.listing.specs.graphs.Lines.{Entry, NestEntry, KeepEntry}

-- a NEST or a KEEP entry
abbrev pub begins_part : Entry → Bool
begins_part (NestEntry n line) = true
begins_part (KeepEntry line reason) = true
begins_part e = false

-- what is listed of a nest or of a kept loop begins so, and no further entry of it does
abbrev pub IsEntryPart : List Entry → Type 0
IsEntryPart [] = ⊥
IsEntryPart (e ∷ es) = (begins_part e ≡ true) × AllByRecursion (λ f. begins_part f ≡ false) es

-- the entries are cut before each NEST and each KEEP entry, and these are the parts
pub record AreCutInto (entries : List Entry) (parts : List (List Entry)) : Type 0 where
  pub joined : entries ≡ flat_map (λ part. part) parts
  pub each : AllByRecursion IsEntryPart parts
