-- What holds of nests with inductions substituted.
use Rattle.std.specs.Prelude.{◌≡◌, ◌≤◌, ℕ, ℤ, None, Some, Bool, true, false, All, List}
use Rattle.std.specs.List.{AllByRecursion}
use Rattle.std.specs.Str.{bytes_eq}
use Rattle.tree.specs.Plain.{Declaration}
use Rattle.meaning.specs.Reads.{names_in}
use Rattle.meaning.specs.Run.{does, does_all}
use Rattle.meaning.specs.Store.{Store}
use Rattle.meaning.specs.Typed90.{IsIntegerScalar}
use Rattle.rewrite.specs.Following.{sequential}
use Rattle.rewrite.specs.Profile.{KeepsProfile}
use Rattle.linear_forms.specs.Linear.{is_limited}
use Rattle.nest.specs.Bodies.{Standing, nest_statements}
use Rattle.nest.specs.Blocks.{block_of_parts, statement_of_part}
use Rattle.nest.specs.Plain.{Loop, Nest, Parts, Turns, no_parts, part}
use Rattle.nest_order.specs.shapes.Shapes.{IsPlain}
use Rattle.nest_steps.specs.Leading.{Leads}
use Rattle.statement_passes.specs.Passes.{mapped_body}
use Rattle.inductions.specs.Found.{inductions_of}
use Rattle.inductions.specs.Growing.{form_before, form_behind, is_outermost, step_at, writes_scalar}
use Rattle.inductions.specs.Nests.{induction_names, inductions_substituted}
use Rattle.inductions.specs.Putting.{put_in, putting}
use Rattle.inductions.specs.Stores.{AreBefore, AreBehind}
use Rattle.inductions.specs.Together.{AllGrowIn, AreInductions, Grows, Is, forms_suit}
use Rattle.inductions.specs.declared.found.Induction.{Induction}

-- no statement of the nest writes x
abbrev pub IsWrittenNowhere : Nest → List ℕ → Type 0
IsWrittenNowhere m x = All (λ (s : Standing). bytes_eq s.statement.left.name x ≡ false) (nest_statements m)

-- no induction of n is written in m, where loops and statements stand in n alone
abbrev pub NoneIsWritten : Nest → Nest → Type 0
NoneIsWritten n m = IsPlain n.body → All (IsWrittenNowhere m) (induction_names (inductions_of n))

abbrev pub NoInductionIsWritten : Type 0
NoInductionIsWritten = (n : Nest) → NoneIsWritten n (inductions_substituted n)

-- Where the counter and the scalars are INTEGER scalars by the declarations, the forms keep the profile. A text has two
-- terms and a constant, so that it is no deeper than 4, or 5 in parentheses
abbrev pub FormsKeepProfile : Type 0
FormsKeepProfile = (es : List Declaration) (counter : List ℕ) (counters : List ℕ → Bool) (ds : List Induction) (k : ℕ)
    → AreInductions counter counters ds → IsIntegerScalar es counter
    → ((d : Induction) → Is ds d → IsIntegerScalar es d.name)
    → KeepsProfile es 5 (putting counter ds k) (forms_suit counters ds)

-- ---- runs

-- the statement that writes an induction lets it grow by its step, in the body of the outermost loop itself
pub record IsGrowth (bits : ℕ) (d : Induction) (s : Standing) : Type 0 where
  pub grows : Grows bits d s.statement
  pub outermost : is_outermost s.loops ≡ true
  pub before : is_limited 1 (form_before d.step) ≡ true
  pub behind : is_limited 1 (form_behind d.step) ≡ true

abbrev pub TheWriteGrows : Type 0
TheWriteGrows = (bits : ℕ) (d : Induction) (s : Standing) → step_at d.name s ≡ Some d.step
    → writes_scalar d.name s ≡ true
    → IsGrowth bits d s

-- Where all inductions grow in the body of this loop, which goes from 1 to z: from stores that differ in them alone,
-- where the loop meets no fault, the one with their forms and without their statements goes on beside it. Each has then
-- grown in the first store in each turn; in the second one it holds what it held before. What no statement writes, and
-- counts no loop, stays as it was in the store `base`
abbrev pub SubstitutedLoopsLead : Type 0
SubstitutedLoopsLead =
    (bits line : ℕ) (counter : List ℕ) (counters kept : List ℕ → Bool) (ds : List Induction)
    (symbols : List (List ℕ)) (start : List ℕ → ℤ) (base : Store) (z : ℤ) (l : Loop) (ps : Parts)
    → 31 ≤ bits → bits ≤ 63 → AreInductions counter counters ds → AllGrowIn bits counter counters kept ds l ps
    → AllByRecursion (λ x. counters x ≡ false) (names_in l.last)
    → ((y : List ℕ) → counters y ≡ true → kept y ≡ false)
    → Leads (AreBefore bits ds start kept base counters l.last z) (AreBehind bits ds start kept base counters z)
    (does (sequential bits) None (statement_of_part line (Turns l ps)))
    (does_all (sequential bits) None
    (block_of_parts line (part (mapped_body (put_in counter ds symbols) (Turns l ps)) no_parts)))
