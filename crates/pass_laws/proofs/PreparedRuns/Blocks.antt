-- Blocks of the profile without labels, one after the other.
use Rattle.std.proofs.Common.{◌≡◌, refl, sym, ap, ◌∙◌, subst, List, [], ◌++◌}
use Rattle.meaning.specs.Blocks.{Surroundings, before_labels, label_of, labels_of}
use Rattle.meaning.specs.Profile90.{IsBlock, IsStatement}
use Rattle.tree.specs.Plain.{Allocate, Assignment, Block, Deallocate, Declaration, Do, GoTo, If, Label, Print, Read}
use Rattle.tree.specs.Plain.{Statement, Stop, Where, no_statements, statement}
use Rattle.nest.specs.Allocations.{block_then}
use Rattle.pass_laws.specs.prepared_runs.Unlabelled.{HasNoLabel, IsNoLabel}

no_label : (c : Statement) → IsNoLabel c → label_of c ≡ []
no_label (Assignment line mark left right) h = refl
no_label (Where line mark mask left right) h = refl
no_label (If line arms other) h = refl
no_label (Do line x a b c body) h = refl
no_label (Label n) h = absurd h
no_label (GoTo line n) h = refl
no_label (Stop line) h = refl
no_label (Read line is) h = refl
no_label (Print line is) h = refl
no_label (Allocate line x es) h = refl
no_label (Deallocate line x) h = refl

pub no_labels : (b : Block) → HasNoLabel b → labels_of b ≡ []
no_labels no_statements h = refl
no_labels (statement c cs) h = ap (λ ns. ns ++ labels_of cs) (no_label c h.0) ∙ no_labels cs h.1

without_labels : (b c : Block) → HasNoLabel b → HasNoLabel c → HasNoLabel (block_then b c)
without_labels no_statements c h k = k
without_labels (statement d ds) c h k = (h.0, without_labels ds c h.1 k)

pub first_without : (b c : Block) → HasNoLabel (block_then b c) → HasNoLabel b
first_without no_statements c h = tt
first_without (statement d ds) c h = (h.0, first_without ds c h.1)

module _ (ds : List Declaration) where
  pub one_is : (c : Statement) (w : Surroundings) → IsStatement ds c w → IsBlock ds (statement c no_statements) w
  one_is c w h = (h, tt)

  pub then_is : (a b : Block) (w : Surroundings) → HasNoLabel a → HasNoLabel b → IsBlock ds a w → IsBlock ds b w → IsBlock ds (block_then a b) w
  then_is no_statements b w f g h k = k
  then_is (statement c cs) b w f g h k = (
    subst (λ ns. IsStatement ds c (before_labels ns w)) (no_labels cs f.1 ∙ sym (no_labels (block_then cs b) (without_labels cs b f.1 g))) h.0,
    then_is cs b w f.1 g h.1 k,
  )
