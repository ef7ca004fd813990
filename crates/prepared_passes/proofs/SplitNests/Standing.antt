-- The split nest may stand for the nest.
use Rattle.std.proofs.Common.{◌≡◌, refl, sym, ap, ◌∙◌, subst, ℕ, ◌+◌, ◌≤◌, ◌^◌, Bool, Some, None, Contains, List, length}
use Rattle.std.specs.Prelude.{All}
use Rattle.dependence_graph.specs.declared.graphs.Place.{Place}
use Rattle.meaning.proofs.Agreeing.{statements_keep_agreement}
use Rattle.meaning.specs.Agreement.{MomentsAgree}
use Rattle.meaning.specs.Dialect.{fortran77}
use Rattle.tree.specs.declared.width.Width.{Width}
use Rattle.meaning.specs.Reads.{names_in_block}
use Rattle.meaning.specs.Run.{Going, State, does_all}
use Rattle.meaning.specs.Store.{names_of, nought_like}
use Rattle.meaning_laws.proofs.dialects.NamesIn.{among}
use Rattle.nest.specs.Plain.{Nest}
use Rattle.nest_steps.specs.Keeping.{GoOnAlike, KeepsAgreement, Place as Where, Starts}
use Rattle.pass_laws.proofs.NormalFacts.Tables.{each_from}
use Rattle.pass_laws.proofs.PreparedRuns.Found.{with_rest}
use Rattle.pass_laws.proofs.ReadyNests.Lists.{Each-All}
use Rattle.pass_laws.specs.prepared_nests.Nests.{IsPrepared}
use Rattle.pass_laws.specs.prepared_runs.Running.{MayRun, loops_then_after}
use Rattle.prepared_passes.proofs.ArrangedNests.Declared.{names_declared}
use Rattle.prepared_passes.proofs.ArrangedNests.MayStand.{clean, clean_agrees, clean_back, clean_holds, clean_sized, fewer, joined}
use Rattle.prepared_passes.specs.expansion.Prepared.{extent_depth}
use Rattle.rewrite.specs.Following.{IsSound}
use Rattle.tree.specs.Names.{IsSourceName}
use Rattle.tree.specs.Plain.{Block, Program}
use Rattle.node_splitting.specs.Split.{made_arrays, with_nodes_split}
use Rattle.prepared_passes.specs.splitting.Laws.{GoOnButCopies, SplitMayStandFor, split_rise}
use Rattle.prepared_passes.specs.splitting.Splits.{IsCopyName, MayBeSplit}
use Rattle.prepared_passes.proofs.SplitNests.Names.{copy_long}
use Rattle.prepared_passes.proofs.SplitNests.Places.{split_nest_has_copies}
use Rattle.prepared_passes.proofs.SplitNests.Prepared.{split_nest_is_prepared}
use Rattle.prepared_passes.proofs.SplitNests.Runs.{split_nest_goes_on_as_nest}

-- FORTRAN 77 hasn't the name of a copy
pub no_source : (may : Place → Bool) (m : Nest) → m.copies + length (made_arrays may m) ≤ 2 ^ 32 → (x : List ℕ) → IsSourceName x → ¬ IsCopyName may m x
no_source may m few x source made =
    let q = (split_nest_has_copies may m few).numbered made.0 made.1 in
    copy_long q.0 (subst IsSourceName (sym made.2 ∙ q.3) source)

-- but for the copies
together : (p : Program) (may : Place → Bool) (m : Nest) (t u : State) → ((x : List ℕ) → Contains (names_of p) x → ¬ IsCopyName may m x) → GoOnButCopies may m t u → GoOnAlike p t u
together p may m t u other b = record {
  going = b.going;
  agree = record {
    bounds = λ x c. sym (b.bounds x);
    held = λ c i is. sym (b.held c (other c.name i));
    kinds = λ c i. ap nought_like (sym (b.held c (other c.name i)));
  };
  rest = b.rest;
}

module _ (width : Width) (p : Program) (around : List (List ℕ)) (deepest : ℕ) (may : Place → Bool) (m k : Nest) (w : Where) (h : IsPrepared w.program.declarations around deepest m)
    (can : MayBeSplit w.program.declarations may m) (room : extent_depth ≤ deepest) (split : with_nodes_split may m ≡ Some k)
    (known : (x : List ℕ) → Contains (names_of p) x → Contains (names_of w.program) x × IsSourceName x) (runs : (s : State) → Starts width w s → MayRun width w.program k s)
    (keeps : KeepsAgreement width p w (loops_then_after m))
    (s t : State) (starts : Starts width w s) (ends : Starts width w t) (alike : GoOnAlike p s t) (sound : IsSound (does_all (fortran77 width) None (loops_then_after m) s).way) where
  abbrev b : Block
  b = loops_then_after m

  abbrev c : Block
  c = loops_then_after k

  names : (x : List ℕ) → Contains (names_of p) x → Contains (names_of w.program) x
  names x i = (known x i).0

  -- a store in which names that aren't declared hold 0
  abbrev t0 : State
  t0 = record t { store = clean width w.program t.store ends.holds }

  starts0 : Starts width w t0
  starts0 = record { going = ends.going; holds = clean_holds width w.program t.store ends.holds; bounds_are = ends.bounds_are }

  alike0 : GoOnAlike p s t0
  alike0 = joined p s t t0 alike (record { going = ends.going; agree = fewer p w.program t.store t0.store names (clean_agrees width w.program t.store ends.holds); rest = refl })

  one : GoOnAlike p (does_all (fortran77 width) None b s) (does_all (fortran77 width) None b t0)
  one = keeps s t0 starts starts0 alike0 sound

  sound0 : IsSound (does_all (fortran77 width) None b t0).way
  sound0 = subst IsSound (sym (ap (λ (x : State). x.way) one.rest)) sound

  both : GoOnButCopies may m (does_all (fortran77 width) None b t0) (does_all (fortran77 width) None c t0)
  both = split_nest_goes_on_as_nest width w.program around deepest may m k t0 h can split (runs t0 starts0) (clean_sized width w.program t.store ends.holds) sound0

  two : GoOnAlike p (does_all (fortran77 width) None b t0) (does_all (fortran77 width) None c t0)
  two = together p may m (does_all (fortran77 width) None b t0) (does_all (fortran77 width) None c t0) (λ x i. no_source may m can.few x (known x i).1) both

  all_known : All (Contains (names_of w.program)) (names_in_block c)
  all_known = Each-All (Contains (names_of w.program)) (names_in_block c)
      (each_from (Contains (names_of w.program)) (names_in_block c)
      (λ x i. among w.program.declarations x _
      (names_declared w.program.declarations around (deepest + split_rise) k (split_nest_is_prepared w.program.declarations around deepest may m k h can room split) x i)))

  moments : MomentsAgree w.program (does_all (fortran77 width) None c t0) (does_all (fortran77 width) None c t)
  moments = statements_keep_agreement (fortran77 width) None w.program c t0 t all_known
      (record { store = clean_back width w.program t.store ends.holds; written = refl; input = refl; had_value = refl; steps = refl; way = refl })

  way : (does_all (fortran77 width) None c t0).way ≡ Going
  way = ap (λ (x : State). x.way) both.rest ∙ both.going

  three : GoOnAlike p (does_all (fortran77 width) None c t0) (does_all (fortran77 width) None c t)
  three = record {
    going = way;
    agree = fewer p w.program (does_all (fortran77 width) None c t0).store (does_all (fortran77 width) None c t).store names moments.store;
    rest = with_rest (does_all (fortran77 width) None c t) (does_all (fortran77 width) None c t0) (sym moments.written) (sym moments.input) (sym moments.had_value) (sym moments.way);
  }

  stands : GoOnAlike p (does_all (fortran77 width) None b s) (does_all (fortran77 width) None c t)
  stands =
      joined p (does_all (fortran77 width) None b s) (does_all (fortran77 width) None b t0) (does_all (fortran77 width) None c t) one
      (joined p (does_all (fortran77 width) None b t0) (does_all (fortran77 width) None c t0) (does_all (fortran77 width) None c t) two three)

pub split_may_stand_for : (width : Width) → SplitMayStandFor width
split_may_stand_for width p around deepest may m k w h can room split known runs keeps s t starts ends alike sound =
    stands width p around deepest may m k w h can room split known runs keeps s t starts ends alike sound
