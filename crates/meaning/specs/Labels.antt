-- Labels and the jumps to them, and what each statement has.
use Rattle.std.specs.Prelude.{ℕ, ◌^◌, ◌<◌, Bool, true, false, List, [], ◌∷◌, ◌++◌, Contains}
use Rattle.tree.specs.Plain.{Statement, Assignment, Where, If, Do, Label, GoTo, Stop, Read, Print, Allocate, Deallocate}
use Rattle.tree.specs.Plain.{Arms, no_arms, arm, Block, no_statements, statement}

abbrev mutual
  -- all labels of a statement, in it too
  pub all_labels_of : Statement → List ℕ
  all_labels_of (Label n) = n ∷ []
  all_labels_of (If line arms other) = all_labels_in_arms arms ++ all_labels_in other
  all_labels_of (Do line x a b c body) = all_labels_in body
  all_labels_of (Assignment line mark left right) = []
  all_labels_of (Where line mark m left right) = []
  all_labels_of (GoTo line n) = []
  all_labels_of (Stop line) = []
  all_labels_of (Read line is) = []
  all_labels_of (Print line is) = []
  all_labels_of (Allocate line x es) = []
  all_labels_of (Deallocate line x) = []

  pub all_labels_in_arms : Arms → List ℕ
  all_labels_in_arms no_arms = []
  all_labels_in_arms (arm test body more) = all_labels_in body ++ all_labels_in_arms more

  pub all_labels_in : Block → List ℕ
  all_labels_in no_statements = []
  all_labels_in (statement c cs) = all_labels_of c ++ all_labels_in cs

abbrev mutual
  -- the labels that the GO TO statements of a statement name
  pub targets_of : Statement → List ℕ
  targets_of (GoTo line n) = n ∷ []
  targets_of (If line arms other) = targets_in_arms arms ++ targets_in other
  targets_of (Do line x a b c body) = targets_in body
  targets_of (Assignment line mark left right) = []
  targets_of (Where line mark m left right) = []
  targets_of (Label n) = []
  targets_of (Stop line) = []
  targets_of (Read line is) = []
  targets_of (Print line is) = []
  targets_of (Allocate line x es) = []
  targets_of (Deallocate line x) = []

  pub targets_in_arms : Arms → List ℕ
  targets_in_arms no_arms = []
  targets_in_arms (arm test body more) = targets_in body ++ targets_in_arms more

  pub targets_in : Block → List ℕ
  targets_in no_statements = []
  targets_in (statement c cs) = targets_of c ++ targets_in cs

abbrev pub IsWithoutRepeats : List ℕ → Type 0
IsWithoutRepeats [] = Unit {0}
IsWithoutRepeats (n ∷ ns) = (Contains ns n → ⊥) × IsWithoutRepeats ns

abbrev pub IsLine : ℕ → Type 0
IsLine line = (0 < line) × (line < 2 ^ 32)

abbrev pub IsLabel : ℕ → Type 0
IsLabel n = (0 < n) × (n < 100000)

abbrev pub has_arm : Arms → Bool
has_arm no_arms = false
has_arm (arm test body more) = true
