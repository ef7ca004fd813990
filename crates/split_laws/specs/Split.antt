-- What a program is split to, loop by loop.
use Rattle.std.specs.Prelude.{◌≡◌, ◌⊎◌, true, false, List, [], ◌∷◌, ◌++◌}
use Rattle.find_nests.specs.Found.{InNest, nest_of_loop}
use Rattle.find_nests.specs.Loops.{Numbered, SourceLoop, as_statement}
use Rattle.find_nests.specs.LookedAt.{is_kept}
use Rattle.index_split.specs.Answers.{IsAnswerTo}
use Rattle.index_split.specs.Pieces.{are_assignments, loops_over}
use Rattle.index_split.specs.Split.{IsSplitTo}
use Rattle.index_split.specs.declared.answers.Answer.{Answer}
use Rattle.index_split.specs.declared.answers.Answer.TheVariants.{Cut, Outer, Whole}
use Rattle.nest.specs.Plain.{Nest}
use Rattle.tree.specs.Plain.{Statement, If, Do, Arms, no_arms, arm, Block, no_statements, statement, Program, block}

-- the loops over its pieces in the place of a loop of assignments alone, or the loop
abbrev pub IsInstead : SourceLoop → Answer → List Statement → Type 0
IsInstead l Outer cs = ⊥
IsInstead l Whole cs = cs ≡ as_statement l ∷ []
IsInstead l (Cut ps) cs =
    ((are_assignments l.body ≡ true) × (cs ≡ loops_over ps l.line l.variable l.body))
    ⊎ ((are_assignments l.body ≡ false) × (cs ≡ as_statement l ∷ []))

module _ (p : Program) where
  -- the loop of a nest has become what the answer to this nest says
  pub record IsAnswered (l : SourceLoop) (cs : List Statement) : Type 0 where
    pub place : Numbered
    pub loop : place.loop ≡ l
    pub nest : Nest
    pub is : nest ≡ nest_of_loop p nest.number place
    pub answer : Answer
    pub right : IsAnswerTo (InNest nest) answer
    pub instead : IsInstead l answer cs

  -- a loop that is kept is kept round what has become of its body; the loop of a nest has become what its answer says;
  -- all else is as it was
  abbrev mutual
    pub IsSplit : Statement → List Statement → Type 0
    IsSplit (Do line x a b c body) cs =
        let l : SourceLoop = record { line = line; variable = x; first = a; last = b; step = c; body = body } in
        ((is_kept p.declarations l ≡ true)
        × ((inside : List Statement) × (cs ≡ Do line x a b c (block inside) ∷ []) × IsBlockSplit body inside))
        ⊎ ((is_kept p.declarations l ≡ false) × IsAnswered l cs)
    IsSplit (If line arms other) cs =
        (ms : Arms) × (no : List Statement) × (cs ≡ If line ms (block no) ∷ []) × AreArmsSplit arms ms
        × IsBlockSplit other no
    IsSplit c cs = cs ≡ c ∷ []

    pub AreArmsSplit : Arms → Arms → Type 0
    AreArmsSplit no_arms ms = ms ≡ no_arms
    AreArmsSplit (arm test body arms) ms =
        (inside : List Statement) × (rest : Arms) × (ms ≡ arm test (block inside) rest) × IsBlockSplit body inside
        × AreArmsSplit arms rest

    pub IsBlockSplit : Block → List Statement → Type 0
    IsBlockSplit no_statements cs = cs ≡ []
    IsBlockSplit (statement c cs) ds =
        (first : List Statement) × (rest : List Statement) × (ds ≡ first ++ rest) × IsSplit c first
        × IsBlockSplit cs rest

-- each loop that stands in no nest has become what the answer to it says
abbrev pub SplitProgramIsSplit : Type 0
SplitProgramIsSplit = (p q : Program) → IsSplitTo p q
    → (cs : List Statement) × (q ≡ record p { body = block cs }) × IsBlockSplit p p.body cs
