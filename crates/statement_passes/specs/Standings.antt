-- What stands in a nest whose statements were mapped, and in one whose symbols are more.
use Rattle.std.specs.Prelude.{◌≡◌, ⊤, ℕ, ◌+◌, List, [], ◌∷◌, ◌++◌, map}
use Rattle.nest.specs.Bodies.{Standing, nest_loops, nest_statements}
use Rattle.nest.specs.Plain.{Loop, Guarded, Part, Run, Turns, Choice, Label, Jump, Nest}
use Rattle.nest_order.specs.shapes.Shapes.{IsPlain}
use Rattle.statement_passes.specs.Shifted.{shifted_loop}

abbrev pub IsLoop : Part → Type 0
IsLoop (Turns l ps) = ⊤
IsLoop (Run g) = ⊥
IsLoop (Choice bs ps) = ⊥
IsLoop (Label n) = ⊥
IsLoop (Jump n) = ⊥

-- ---- statements that were mapped

abbrev pub standings : List Loop → List Guarded → List Standing
standings ls gs = map (λ (g : Guarded). record { loops = ls; statement = g }) gs

module _ (each : List Loop → ℕ → Guarded → List Guarded) where
  -- what stands for statements of which the first one has the number k
  abbrev pub mapped_standings : ℕ → List Standing → List Standing
  mapped_standings k [] = []
  mapped_standings k (x ∷ xs) = standings x.loops (each x.loops k x.statement) ++ mapped_standings (k + 1) xs

  pub record IsMappedFrom (n m : Nest) : Type 0 where
    pub plain : IsPlain m.body
    pub loops : nest_loops m ≡ nest_loops n
    pub statements : nest_statements m ≡ mapped_standings 0 (nest_statements n)

-- ---- symbols that came in at a place

abbrev pub shifted_standing : ℕ → Standing → Standing
shifted_standing at x = record { loops = map (shifted_loop at) x.loops; statement = x.statement }

pub record IsShiftedFrom (at : ℕ) (n m : Nest) : Type 0 where
  pub plain : IsPlain m.body
  pub loops : nest_loops m ≡ map (shifted_loop at) (nest_loops n)
  pub statements : nest_statements m ≡ map (shifted_standing at) (nest_statements n)
