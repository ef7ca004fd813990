-- A statement leads to what a rule makes of it.
use Rattle.std.proofs.Common.{◌≡◌, refl, subst, ℕ, Option, Some, None}
use Rattle.tree.specs.Plain.{Expression, Statement, statement, no_statements}
use Rattle.meaning.specs.Run.{does}
use Rattle.meaning.specs.Store.{Store}
use Rattle.rewrite.specs.Following.{sequential}
use Rattle.rewrite.specs.Making.{Making}
use Rattle.rewrite.specs.Suits.{Suiting, SuitsStatement}
use Rattle.rewrite.specs.MadeBlocks.{made_statement}
use Rattle.rewrite.specs.Rule.{IsRule}
use Rattle.rewrite.proofs.Rewriting.{Goes-does_all}
use Rattle.nest.specs.Blocks.{guarded_statement}
use Rattle.nest.specs.Plain.{Guarded}
use Rattle.nest_steps.specs.Statements.{with_making}
use Rattle.nest_steps.specs.Leading.{Led, Leads}
use Rattle.nest_steps.proofs.Assigning.{guarded_goes_on}

made_guarded : (m : Making) (g : Guarded) → made_statement m (guarded_statement g) ≡ guarded_statement (with_making m g)
made_guarded m g = by g.guard
  where
    by : (o : Option Expression) → made_statement m (guarded_statement (record g { guard = o })) ≡ guarded_statement (with_making m (record g { guard = o }))
    by None = refl
    by (Some e) = refl

module _ (bits : ℕ) (m : Making) (suits : Suiting) (like : Store → Store → Type 0) (rule : IsRule (sequential bits) m suits like) where
  pub rule_leads : (g : Guarded) → SuitsStatement m suits (guarded_statement g) → Leads like like (does (sequential bits) None (guarded_statement g)) (does (sequential bits) None (guarded_statement (with_making m g)))
  rule_leads g h = record {
    at = λ s u n w a sound.
        let f = (Goes-does_all bits m suits like rule (statement (guarded_statement g) no_statements) (h, tt)).at s u n a sound in
        subst (λ (c : Statement). Led like (does (sequential bits) None (guarded_statement g) s) (does (sequential bits) None c (record s { store = u; steps = n }))) (made_guarded m g)
        (record { stores = f.stores; rest = f.rest; going = guarded_goes_on bits g s w sound });
  }
