-- By declarations without the arrays of copies, these stand nowhere in a prepared nest.
use Rattle.std.proofs.Common.{◌≡◌, sym, ap, ◌∙◌, Option, Some, None}
use Rattle.std.specs.Option.{IsSomeAnd}
use Rattle.meaning.specs.Reads.{names_in_block}
use Rattle.meaning.specs.Typed.{declared}
use Rattle.nest.specs.Plain.{Made}
use Rattle.nest_order.proofs.orders.Membership.{In-map}
use Rattle.pass_laws.proofs.NormalFacts.Tables.{all_in}
use Rattle.pass_laws.proofs.PreparedNests.Lists.{Contains-In}
use Rattle.pass_laws.specs.prepared_nests.Made.{IsPreparedMade}
use Rattle.pass_laws.specs.prepared_nests.Statements.{made_names}
use Rattle.pass_laws.specs.prepared_runs.Running.{loops_then_after}
use Rattle.prepared_passes.proofs.ArrangedNests.Declared.{names_declared}
use Rattle.tree.specs.Plain.{Declaration}
use Rattle.prepared_passes.specs.splitting.Laws.{CopiesAreFresh}

undeclared : (P : Declaration → Type 0) (o : Option Declaration) → IsSomeAnd o P → o ≡ None → ⊥
undeclared P None h e = absurd h
undeclared P (Some d) h e = cc

pub copies_are_fresh : CopiesAreFresh
copies_are_fresh es around deepest may m h none a i = (
  λ c. undeclared _ (declared es a.name) (names_declared es around deepest m h a.name (Contains-In a.name (names_in_block (loops_then_after m)) c)) (none a i),
  λ c. (let o = In-map (λ (b : Made). b.name) a.name m.made (Contains-In a.name (made_names m) c) in
      undeclared _ (declared es o.it.name) (all_in (IsPreparedMade es m.symbols deepest) m.made h.parts.made o.it o.inside).declaration (ap (declared es) (sym o.is) ∙ none a i)),
)
