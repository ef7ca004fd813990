-- What holds of the store at each moment of a program's run.
use Rattle.std.specs.Prelude.{◌≡◌, Option, ℕ, List, Contains}
use Rattle.tree.specs.Plain.{Block, Declaration, Program}
use Rattle.meaning.specs.Blocks.{Surroundings}
use Rattle.meaning.specs.Dialect.{Dialect}
use Rattle.meaning.specs.Holding.{HoldsProgram}
use Rattle.meaning.specs.Profile77.{IsProgram77}
use Rattle.meaning.specs.Profile90.{IsBlock, IsProgram90}
use Rattle.meaning.specs.Run.{State, does_all, run}
use Rattle.meaning.specs.Store.{Store, Cell, opening_store, names_of, IsCell, Agree}
use Rattle.meaning_laws.specs.profiles.Profiles.{AddMadeNames}

abbrev pub OpeningStoreHolds : Type 0
OpeningStoreHolds = (lang : Dialect) (p : Program) → HoldsProgram lang p (opening_store p)

-- A store that holds a program holds it after any statements over the program's names, however many steps they may
-- take
abbrev pub StatementsKeepStores : Type 0
StatementsKeepStores = (lang : Dialect) (limit : Option ℕ) (p : Program) (cs : Block) (w : Surroundings) (s : State)
    → IsBlock p.declarations cs w → HoldsProgram lang p s.store → HoldsProgram lang p (does_all lang limit cs s).store

-- and so does the store at any end of a run
abbrev pub RunHolds : Type 0
RunHolds = (lang : Dialect) (limit : Option ℕ) (p : Program) (input : List ℕ)
    → IsProgram90 p → HoldsProgram lang p (run lang limit p input).store

-- of a program of FORTRAN 77 too, whatever INTEGER it was made for
abbrev pub SourceRunHolds : Type 0
SourceRunHolds = (lang own : Dialect) (limit : Option ℕ) (p : Program) (input : List ℕ)
    → IsProgram77 own p → HoldsProgram lang p (run lang limit p input).store

-- a store that holds a program with further declarations holds the program
abbrev pub StoreHoldsFewer : Type 0
StoreHoldsFewer = (lang : Dialect) (p : Program) (es : List Declaration) (s : Store)
    → AddMadeNames p.declarations es → HoldsProgram lang (record p { declarations = es }) s → HoldsProgram lang p s

-- two stores that hold a program agree on it where they have the same cells, and these the same values
abbrev pub HeldStoresAgree : Type 0
HeldStoresAgree = (lang : Dialect) (p : Program) (s t : Store)
    → HoldsProgram lang p s → HoldsProgram lang p t
    → ((x : List ℕ) → Contains (names_of p) x → s.bounds x ≡ t.bounds x)
    → ((c : Cell) → Contains (names_of p) c.name → IsCell s c → s.held c ≡ t.held c)
    → Agree p s t
