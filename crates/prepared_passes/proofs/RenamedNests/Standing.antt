-- The renamed nest may stand for the nest.
use Rattle.std.proofs.Common.{◌≡◌, sym, ap, ◌∙◌, subst, List, ℕ, Contains, None}
use Rattle.meaning.specs.Dialect.{fortran77}
use Rattle.tree.specs.declared.width.Width.{Width}
use Rattle.meaning.specs.Run.{Going, State, does_all}
use Rattle.meaning.specs.Store.{names_of, nought_like}
use Rattle.nest.specs.Plain.{Nest}
use Rattle.nest_steps.specs.Keeping.{GoOnAlike}
use Rattle.rewrite.specs.Following.{IsSound}
use Rattle.tree.specs.Plain.{Program}
use Rattle.prepared_passes.proofs.RenamedNests.Facts.{made_long}
use Rattle.prepared_passes.proofs.RenamedNests.Runs.{renamed_nest_goes_on_as_nest}
use Rattle.pass_laws.specs.prepared_runs.Running.{loops_then_after}
use Rattle.prepared_passes.specs.renaming.Laws.{GoOnButNames, IsMadeFor, RenamedMayStandFor}

-- where no name of p was made
together : (p : Program) (m : Nest) (s t u : State) → ((x : List ℕ) → Contains (names_of p) x → ¬ IsMadeFor m x) → GoOnAlike p s t → GoOnButNames m t u → GoOnAlike p s u
together p m s t u other g b = record {
  going = g.going;
  agree = record {
    bounds = λ x c. g.agree.bounds x c ∙ sym (b.bounds x);
    held = λ c i is. g.agree.held c i is ∙ sym (b.held c (other c.name i));
    kinds = λ c i. g.agree.kinds c i ∙ ap nought_like (sym (b.held c (other c.name i)));
  };
  rest = b.rest ∙ ap (λ (z : State). record z { store = u.store; steps = u.steps }) g.rest;
}

pub renamed_may_stand_for : (width : Width) → RenamedMayStandFor width
renamed_may_stand_for width p around deepest m w h may source keeps s t starts ends alike sound =
    let one = keeps s t starts ends alike sound in
    let way : (does_all (fortran77 width) None (loops_then_after m) t).way ≡ Going = ap (λ (z : State). z.way) one.rest ∙ one.going in
    let two = renamed_nest_goes_on_as_nest width w.program around deepest m t h may ends.going ends.holds (subst IsSound (sym way) tt) in
    together p m _ _ _ (λ x c made. made_long width w.program.declarations around deepest m h may x made (source x c)) one two
