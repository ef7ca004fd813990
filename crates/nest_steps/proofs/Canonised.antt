-- A nest whose statements are brought into canonical text leads on beside the nest.
use Rattle.std.proofs.Common.{ℕ, List, None}
use Rattle.tree.specs.Plain.{statement, no_statements}
use Rattle.meaning.specs.Run.{does}
use Rattle.rewrite.specs.Following.{sequential}
use Rattle.linear_forms.specs.Canonical.{canonising}
use Rattle.linear_forms.specs.CanonicalLaws.{all_suit, SameSized}
use Rattle.linear_forms.proofs.CanonicalRule.{canonising_is_rule}
use Rattle.linear_forms.proofs.AllSuit.{suits_block}
use Rattle.nest.specs.Blocks.{guarded_statement}
use Rattle.nest.specs.Plain.{Guarded}
use Rattle.nest_steps.specs.Statements.{with_making}
use Rattle.nest_steps.specs.Leading.{Leads}
use Rattle.nest_steps.proofs.Ruled.{rule_leads}

module _ (bits : ℕ) (loops symbols : List (List ℕ)) where
  -- one statement: the stores stay the same
  pub canonised_leads : (g : Guarded) → Leads (SameSized bits) (SameSized bits) (does (sequential bits) None (guarded_statement g))
      (does (sequential bits) None (guarded_statement (with_making (canonising loops symbols) g)))
  canonised_leads g = rule_leads bits (canonising loops symbols) all_suit (SameSized bits) (canonising_is_rule bits loops symbols) g
      (suits_block (canonising loops symbols) (statement (guarded_statement g) no_statements)).0
