-- Blocks without labels.
use Rattle.std.proofs.Common.{◌≡◌, refl, ap, ◌∙◌, [], ◌++◌}
use Rattle.std.specs.Prelude.{⊤}
use Rattle.meaning.specs.Blocks.{label_of, labels_of}
use Rattle.tree.specs.Plain.{Allocate, Assignment, Block, Deallocate, Do, GoTo, If, Label, Print, Read}
use Rattle.tree.specs.Plain.{Statement, Stop, Where, no_statements, statement}

abbrev pub IsNoLabel : Statement → Type 0
IsNoLabel (Label n) = ⊥
IsNoLabel _ = ⊤

abbrev pub HasNoLabel : Block → Type 0
HasNoLabel no_statements = ⊤
HasNoLabel (statement c cs) = IsNoLabel c × HasNoLabel cs

no_label : (c : Statement) → IsNoLabel c → label_of c ≡ []
no_label (Assignment line mark left right) h = refl
no_label (Where line mark mask left right) h = refl
no_label (If line arms other) h = refl
no_label (Do line x a b c body) h = refl
no_label (Label n) h = absurd h
no_label (GoTo line n) h = refl
no_label (Stop line) h = refl
no_label (Read line is) h = refl
no_label (Print line is) h = refl
no_label (Allocate line x es) h = refl
no_label (Deallocate line x) h = refl

pub no_labels : (b : Block) → HasNoLabel b → labels_of b ≡ []
no_labels no_statements h = refl
no_labels (statement c cs) h = ap (λ ns. ns ++ labels_of cs) (no_label c h.0) ∙ no_labels cs h.1
