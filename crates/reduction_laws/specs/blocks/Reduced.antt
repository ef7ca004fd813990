-- The statements of a program in which loops that gather have their forms.
use Rattle.std.specs.Prelude.{◌≡◌, ◌≤◌, None, ℕ, true, not, ◌&&◌, List}
use Rattle.std.specs.List.{filter}
use Rattle.tree.specs.Plain.{Program}
use Rattle.meaning.specs.Dialect.{Dialect}
use Rattle.meaning.specs.Holding.{HoldsProgram}
use Rattle.meaning.specs.Profile90.{IsProgram90}
use Rattle.meaning.specs.Ranges.{HoldsInRange}
use Rattle.meaning.specs.Run.{State, does_all}
use Rattle.meaning.specs.Store.{names_of}
use Rattle.rewrite.specs.Following.{IsSound, MomentsAlike}
use Rattle.reductions.specs.Finding.{context_of, is_source}
use Rattle.reductions.specs.Reduced.{reduced_block}
use Rattle.reduction_laws.specs.unread.Unread.{AlikeBut}

-- the made names that the program reads in the bodies of their own loops alone
abbrev pub unread_names : Program → List (List ℕ)
unread_names p = filter (λ x. not (is_source x) && not ((context_of p).reads x)) (names_of p)

-- From moments that are alike but for these variables, where the statements of a program meet no fault, those with
-- forms in place of loops go the same way
abbrev pub ReducedBlockFollows : Type 0
ReducedBlockFollows = (lang : Dialect) (p : Program) (s t : State) → lang.arrays ≡ true → lang.bits ≤ 64 → IsProgram90 p
    → HoldsProgram lang p s.store → HoldsInRange lang.bits s.store → MomentsAlike (AlikeBut (unread_names p)) s t
    → IsSound (does_all lang None p.body s).way
    → MomentsAlike (AlikeBut (unread_names p)) (does_all lang None p.body s)
    (does_all lang None (reduced_block (context_of p) p.body) t)
