-- What can be listed: numbers of 64 bits, and names and words without blanks.
use Rattle.std.specs.Prelude.{◌≡◌, ℕ, ◌<◌, ◌==◌, ◌^◌, ℤ, nat_abs, false, Option, Some, None, List, [], ◌∷◌}
use Rattle.std.specs.List.{AllByRecursion}
use Rattle.dependence_graph.specs.declared.graphs.Hold.{Hold}
use Rattle.dependence_graph.specs.declared.graphs.Place.{Place}
use Rattle.listing.specs.graphs.Lines.{Dependence, Meeting, Entry, NestEntry, LoopEntry, StatementEntry, EdgeEntry}
use Rattle.listing.specs.graphs.Lines.{DropEntry, HoldEntry, CycleEntry, KeepEntry}
use Rattle.nest.specs.Bodies.{statement_number}

abbrev pub IsSmall : ℕ → Type 0
IsSmall n = n < 2 ^ 63

abbrev pub IsSmallInteger : ℤ → Type 0
IsSmallInteger z = nat_abs z < 2 ^ 63

-- a text in which a byte doesn't stand
abbrev pub Lacks : ℕ → List ℕ → Type 0
Lacks c [] = Unit {0}
Lacks c (x ∷ xs) = ((x == c) ≡ false) × Lacks c xs

abbrev pub IsWord : List ℕ → Type 0
IsWord t = Lacks 32 t

pub record IsListablePlace (p : Place) : Type 0 where
  pub statement : IsSmall (statement_number p.stmt)
  pub reference : IsSmall p.at

pub record IsListableDependence (d : Dependence) : Type 0 where
  pub from : IsListablePlace d.from
  pub to : IsListablePlace d.to
  pub array : IsWord d.array

pub record IsListableMeeting (m : Meeting) : Type 0 where
  pub first : AllByRecursion IsSmallInteger m.first
  pub second : AllByRecursion IsSmallInteger m.second

abbrev pub IsListablePair : Option Meeting → Type 0
IsListablePair None = Unit {0}
IsListablePair (Some m) = IsListableMeeting m

pub record IsListableHold (h : Hold) : Type 0 where
  pub statement : IsSmall h.stmt
  pub level : IsSmall h.level

abbrev pub IsListable : Entry → Type 0
IsListable (NestEntry n line) = IsSmall n × IsSmall line
IsListable (LoopEntry n x trip outer) = IsSmall n × (IsWord x × IsSmall outer)
IsListable (StatementEntry s loops text) = IsSmall s × AllByRecursion IsSmall loops
IsListable (EdgeEntry d level test pair) = IsListableDependence d × (IsSmall level × IsListablePair pair)
IsListable (DropEntry d test) = IsListableDependence d
IsListable (HoldEntry h) = IsListableHold h
IsListable (CycleEntry level ss) = IsSmall level × AllByRecursion IsSmall ss
IsListable (KeepEntry line reason) = IsSmall line
