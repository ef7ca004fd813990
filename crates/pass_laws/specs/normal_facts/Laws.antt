-- Facts of what is made of a nest that was found.
use Rattle.std.specs.Prelude.{◌≡◌, ◌≤◌, ◌^◌, ℕ, nat_abs, Some, IfSome, IsSomeAnd, All, List, [], Contains}
use Rattle.tree.specs.Plain.{Declaration, Given, Program}
use Rattle.tree.specs.declared.ops.Kind.TheVariants.{Integer}
use Rattle.meaning.specs.Dialect.{fortran77}
use Rattle.tree.specs.declared.width.Width.{Width}
use Rattle.meaning.specs.Holding.{HasBounds}
use Rattle.meaning.specs.Profile77.{IsProgram77}
use Rattle.meaning.specs.Typed.{declared}
use Rattle.emission.specs.emission_forms.Forms.{AreRegular}
use Rattle.emission.specs.emission_forms.Written.{HasFormFacts}
use Rattle.find_nests.specs.Found.{InNest, found_in}
use Rattle.emission.specs.graph_orders.Nests.{run_nest}
use Rattle.normal_loops.specs.Normalised.{normalised}
use Rattle.nest_order.specs.facts.Facts.{HasFacts}
use Rattle.nest_order.specs.runs.Stores.{Setting}
use Rattle.nest_order.specs.runs.Touched.{nth_of}
use Rattle.nest_order.specs.shapes.Shapes.{IsPlain}
use Rattle.nest.specs.Bodies.{nest_loops}
use Rattle.nest.specs.Plain.{Loop, Nest}
use Rattle.meaning_laws.specs.profiles.Profiles.{AddMadeNames}
use Rattle.tree.specs.Widths.{bits_of}

-- an INTEGER scalar
pub record IsCounter (e : Declaration) : Type 0 where
  pub kind : e.kind ≡ Integer
  pub scalar : e.extent ≡ Given []

-- A setting of the nest m that was made of one of p: in a program that declares the names of p, the counters, and maybe
-- further made names; names have bounds as they are declared, and symbols are numbers of 64 bits
pub record IsSettingOf (p : Program) (m : Nest) (w : Setting) : Type 0 where
  pub declarations : AddMadeNames p.declarations w.program.declarations
  pub counters : All (λ (l : Loop). IsSomeAnd (declared w.program.declarations l.variable) IsCounter) (nest_loops m)
  pub bounds : (x : List ℕ)
      → IfSome (declared w.program.declarations x) (λ (e : Declaration). HasBounds e.extent (w.bounds x))
  pub values : (k : ℕ) (x : List ℕ) → nth_of m.symbols k ≡ Some x → nat_abs (w.values k) ≤ 2 ^ 63

abbrev pub NormalNestHasFacts : (width : Width) → Type 0
NormalNestHasFacts width = (p : Program) (n m : Nest) (w : Setting)
    → IsProgram77 (fortran77 width) p → Contains (found_in p) (InNest n) → normalised n ≡ Some m
    → IsPlain m.body → IsSettingOf p m w → HasFacts (bits_of width) (run_nest m) w

abbrev pub NormalNestIsRegular : (width : Width) → Type 0
NormalNestIsRegular width = (p : Program) (n m : Nest)
    → IsProgram77 (fortran77 width) p → Contains (found_in p) (InNest n) → normalised n ≡ Some m
    → IsPlain m.body → AreRegular m

-- what array forms ask beside
abbrev pub NormalNestHasFormFacts : (width : Width) → Type 0
NormalNestHasFormFacts width = (p : Program) (n m : Nest) (w : Setting)
    → IsProgram77 (fortran77 width) p → Contains (found_in p) (InNest n) → normalised n ≡ Some m
    → IsPlain m.body → IsSettingOf p m w → HasFormFacts m w
