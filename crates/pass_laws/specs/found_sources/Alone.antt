-- Nests of loops and statements alone, without IF, label and jump.
use Rattle.std.specs.Prelude.{⊤}
use Rattle.nest.specs.Plain.{Part, Run, Turns, Choice, Label, Jump, Parts, no_parts, part}

abbrev mutual
  pub HasLoopsAlone : Part → Type 0
  HasLoopsAlone (Run g) = ⊤
  HasLoopsAlone (Turns l ps) = HaveLoopsAlone ps
  HasLoopsAlone (Choice bs ps) = ⊥
  HasLoopsAlone (Label k) = ⊥
  HasLoopsAlone (Jump k) = ⊥

  pub HaveLoopsAlone : Parts → Type 0
  HaveLoopsAlone no_parts = ⊤
  HaveLoopsAlone (part p ps) = HasLoopsAlone p × HaveLoopsAlone ps
