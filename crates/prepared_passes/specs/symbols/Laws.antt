-- What is known of nests whose symbols were found anew.
use Rattle.std.specs.Prelude.{◌≡◌, ℕ, ◌+◌, Some, None, Contains, List}
use Rattle.find_nests.specs.Found.{InNest, found_in}
use Rattle.if_convert.specs.Converted.{converted_nest}
use Rattle.linear_forms.specs.Laws.{HoldsSized}
use Rattle.meaning.specs.Dialect.{fortran77}
use Rattle.tree.specs.declared.width.Width.{Width}
use Rattle.meaning.specs.Profile77.{IsProgram77}
use Rattle.meaning.specs.Run.{State, does_all}
use Rattle.meaning_laws.specs.profiles.Profiles.{AddMadeNames}
use Rattle.nest.specs.Plain.{Nest}
use Rattle.nest_order.specs.shapes.Shapes.{IsPlain}
use Rattle.normal_loops.specs.Normalised.{normalised}
use Rattle.pass_laws.specs.prepared_nests.Nests.{IsPrepared}
use Rattle.pass_laws.specs.prepared_runs.Running.{loops_then_after}
use Rattle.rewrite.specs.Following.{IsSound}
use Rattle.statement_passes.specs.Standings.{IsLoop}
use Rattle.symbols_anew.specs.Nests.{with_symbols_found}
use Rattle.prepared_passes.specs.symbols.Same.{IsSameButText}
use Rattle.prepared_passes.specs.symbols.Sources.{IsOfSource}
use Rattle.tree.specs.Plain.{Block, Declaration, Program}

-- Where the loops with what comes after them meet no fault, those of the nest with all its symbols come to the same
-- moment, after as many steps, whatever nest it was made of
abbrev pub NestWithSymbolsRunsAlike : (width : Width) → Type 0
NestWithSymbolsRunsAlike width = (before n : Nest) (s : State) → IsPlain n.body → HoldsSized s.store
    → IsSound (does_all (fortran77 width) None (loops_then_after n) s).way
    → does_all (fortran77 width) None (loops_then_after (with_symbols_found before n)) s
    ≡ does_all (fortran77 width) None (loops_then_after n) s

-- It is the same nest but for its symbols and its texts
abbrev pub NestWithSymbolsIsSameButText : Type 0
NestWithSymbolsIsSameButText = (before n : Nest) → IsPlain n.body → IsLoop n.body
    → IsSameButText before n (with_symbols_found before n)

-- whatever stands behind it
abbrev pub SymbolsAreFoundWithAnythingBehind : Type 0
SymbolsAreFoundWithAnythingBehind = (before n : Nest) (after : Block)
    → with_symbols_found before (record n { after = after }) ≡ record (with_symbols_found before n) { after = after }

-- It is prepared by the same declarations; canonical text is at most 18 deeper
abbrev pub PreparedNestIsPreparedAnew : Type 0
PreparedNestIsPreparedAnew = (es : List Declaration) (around : List (List ℕ)) (deepest : ℕ) (before n : Nest)
    → IsPrepared es around deepest n → IsOfSource es n
    → IsPrepared es around (deepest + 18) (with_symbols_found before n)

-- as is what is made of a nest that is found, with loops from 1 by 1 and with masks
abbrev pub FoundNestIsOfSource : (width : Width) → Type 0
FoundNestIsOfSource width = (p : Program) (n m k : Nest) (es : List Declaration) (masks : ℕ)
    → IsProgram77 (fortran77 width) p
    → Contains (found_in p) (InNest n) → normalised n ≡ Some m → converted_nest masks m ≡ Some k
    → AddMadeNames p.declarations es → IsOfSource es k
