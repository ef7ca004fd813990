-- Where the jumps of a nest lead (ANSI X3.9-1978, section 11.1): on in the body of their own loop, and over no loop.
use Rattle.std.specs.Prelude.{◌≡◌, ⊤, ℕ, Contains, List, [], ◌∷◌}
use Rattle.nest.specs.Bodies.{loops_of}
use Rattle.nest.specs.Plain.{Part, Run, Turns, Choice, Label, Jump, Parts, no_parts, part}
use Rattle.nest.specs.Plain.{Branches, no_branches, branch}

-- The labels that can be reached from before a part, where `later` has those that can be from behind it: a label is one
-- more, and no jump leads over a loop
abbrev pub labels_before : Part → List ℕ → List ℕ
labels_before (Run g) later = later
labels_before (Turns l ps) later = []
labels_before (Choice bs ps) later = later
labels_before (Label k) later = k ∷ later
labels_before (Jump k) later = later

abbrev pub labels_ahead : Parts → List ℕ → List ℕ
labels_ahead no_parts later = later
labels_ahead (part p ps) later = labels_before p (labels_ahead ps later)

-- Each jump in a part leads to a label behind it in the body of its loop, in its block or in one round it, with no loop
-- between; no loop stands in an IF. `later` has the labels that can be reached from behind the part
abbrev mutual
  pub JumpsAhead : List ℕ → Part → Type 0
  JumpsAhead later (Run g) = ⊤
  JumpsAhead later (Turns l ps) = AllJumpAhead [] ps
  JumpsAhead later (Choice bs ps) =
      (loops_of (Choice bs ps) ≡ []) × BranchesJumpAhead later bs × AllJumpAhead later ps
  JumpsAhead later (Label k) = ⊤
  JumpsAhead later (Jump k) = Contains later k

  pub AllJumpAhead : List ℕ → Parts → Type 0
  AllJumpAhead later no_parts = ⊤
  AllJumpAhead later (part p ps) = JumpsAhead (labels_ahead ps later) p × AllJumpAhead later ps

  pub BranchesJumpAhead : List ℕ → Branches → Type 0
  BranchesJumpAhead later no_branches = ⊤
  BranchesJumpAhead later (branch test ps bs) = AllJumpAhead later ps × BranchesJumpAhead later bs
