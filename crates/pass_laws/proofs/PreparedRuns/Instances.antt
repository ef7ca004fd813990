-- The run of a prepared nest is its instances, and then what comes after the loops.
use Rattle.std.proofs.Common.{◌≡◌, refl, sym, subst, ℕ, Bool, false, List, [], Ok, None, arith}
use Rattle.tree.specs.Plain.{Program, Statement}
use Rattle.meaning.specs.Reads.{names_in_block}
use Rattle.meaning.specs.Dialect.{fortran77}
use Rattle.tree.specs.declared.width.Width.{Width}
use Rattle.meaning.specs.Run.{Going, State, does, does_all}
use Rattle.meaning.specs.Store.{Cell, Store}
use Rattle.rewrite.specs.Following.{IsSound}
use Rattle.nest.specs.Blocks.{statement_of_part}
use Rattle.nest.specs.Bodies.{nest_loops}
use Rattle.nest.specs.Plain.{Nest}
use Rattle.nest_order.proofs.facts.Facts.{facts_suffice}
use Rattle.nest_order.proofs.runs.Quieting.{quiet_statements_keep_lines}
use Rattle.nest_order.proofs.runs.Runs.{run_is_instances}
use Rattle.nest_order.proofs.shapes.Shapes.{statement_is_of_shape}
use Rattle.nest_order.specs.orders.Lists.{Distinct, In}
use Rattle.nest_order.specs.orders.Orders.{runs}
use Rattle.nest_order.specs.orders.Shapes.{instances}
use Rattle.nest_order.specs.runs.Blocks.{nest_statement}
use Rattle.nest_order.specs.runs.Guarded.{dialect}
use Rattle.nest_order.specs.runs.Laws.{GoesOnNear}
use Rattle.nest_order.specs.runs.Nests.{Near, RunNest as Nest', acts, is_nest_variable}
use Rattle.nest_order.specs.runs.Quiet.{SameLines}
use Rattle.nest_order.specs.runs.Stores.{HoldsNest, IsNestIn, Setting}
use Rattle.nest_order.specs.shapes.Shapes.{layout_of, numbers_of, shape_of}
use Rattle.emission.specs.graph_orders.Nests.{linear_in, run_nest, turns_in}
use Rattle.pass_laws.proofs.NormalFacts.Tables.{all_in}
use Rattle.pass_laws.proofs.PreparedNests.Facts.{prepared_nest_has_facts}
use Rattle.pass_laws.proofs.PreparedNests.Lists.{distinct_too}
use Rattle.pass_laws.specs.prepared_nests.After.{CountsNone}
use Rattle.pass_laws.specs.prepared_nests.Nests.{IsPrepared, IsSettingFor}
use Rattle.pass_laws.proofs.PreparedRuns.Counters.{no_variable}
use Rattle.pass_laws.proofs.PreparedRuns.Endings.{all_end, endings_quiet}
use Rattle.pass_laws.proofs.PreparedRuns.LoopsEnd.{loops_end}
use Rattle.pass_laws.proofs.PreparedRuns.Together.{setting_holds}
use Rattle.pass_laws.proofs.PreparedRuns.Straight.{ending_goes, goes_if_sound, part_quiet, sound_before}
use Rattle.pass_laws.specs.prepared_runs.Laws.{RunOfPreparedNest}
use Rattle.pass_laws.specs.prepared_runs.Running.{IsRunOfInstances, MayRun, loops_then_after}
use Rattle.tree.specs.Widths.{bits_of}
use Rattle.meaning.proofs.Widths.{narrowest}

near_back : (n : Nest') (s t : Store) → Near n s t → Near n t s
near_back n s t h = record { bounds = λ x. sym (h.bounds x); held = λ c e. sym (h.held c e) }

module _ (width : Width) (p : Program) (around : List (List ℕ)) (deepest : ℕ) (m : Nest) (s : State)
    (h : IsPrepared p.declarations around deepest m) (may : MayRun width p m s)
    (sound : IsSound (does_all (fortran77 width) None (loops_then_after m) s).way) where
  abbrev body : Statement
  body = statement_of_part m.line m.body

  abbrev first : State
  first = does (fortran77 width) None body s

  goes : first.way ≡ Going
  goes =
      goes_if_sound (bits_of width) m.line m.body s h.plain may.going
      (sound_before (bits_of width) m.after h.parts.after.endings first sound)

  abbrev setting : Setting
  setting = record { program = p; bounds = s.store.bounds; values = may.values }

  is_setting : IsSettingFor p.declarations m setting
  is_setting = setting_holds width p around deepest m s h may

  held : HoldsNest (bits_of width) (run_nest m) setting s.store
  held = record { program = may.holds; bounds = λ x. refl; symbols = may.valued }

  once : Distinct (numbers_of (nest_loops m))
  once = distinct_too (numbers_of (nest_loops m)) h.parts.once

  abbrev written : Statement
  written = nest_statement (run_nest m) (layout_of m.line m.body) [] (shape_of 0 m.body)

  same : body ≡ written
  same = statement_is_of_shape m.line m.body m.symbols (linear_in m) (turns_in m) h.plain once

  in_setting : IsNestIn (bits_of width) (run_nest m) setting
  in_setting =
      facts_suffice (bits_of width) (run_nest m) setting
      (prepared_nest_has_facts (bits_of width) p.declarations around deepest m setting (narrowest width) h is_setting)

  ran : (u : Store) × (runs (acts (run_nest m) (fortran77 width))
      (instances ((run_nest m).turns_of may.values) (run_nest m).shape []) s.store ≡ Ok u)
      × Near (run_nest m) u (does (fortran77 width) None written s).store
  ran =
      run_is_instances (bits_of width) (run_nest m) setting (layout_of m.line m.body) s in_setting held
      (subst (λ (c : Statement). (does (fortran77 width) None c s).way ≡ Going) same goes)

  -- ---- what comes after

  names : (x : List ℕ) → In x (names_in_block m.after) → CountsNone x
  names x i = all_in CountsNone (names_in_block m.after) h.parts.after.names x i

  apart : (c : Cell) → CountsNone c.name → is_nest_variable (run_nest m) c ≡ false
  apart c none = no_variable p.declarations around deepest m h c none

  abbrev left : Store
  left = ran.0

  abbrev after_instances : State
  after_instances = record s { store = left }

  near_first : Near (run_nest m) left first.store
  near_first = subst (λ (c : Statement). Near (run_nest m) left (does (fortran77 width) None c s).store) (sym same) ran.2

  after_goes : (does_all (fortran77 width) None m.after first).way ≡ Going
  after_goes = ending_goes (bits_of width) m.line m.after first h.parts.after.endings goes sound

  from_left : GoesOnNear (run_nest m) (does_all (fortran77 width) None m.after first)
      (does_all (fortran77 width) None m.after after_instances)
  from_left = all_end (bits_of width) (run_nest m) CountsNone apart false m.after first after_instances h.parts.after.endings names
      (record { way = may.going; near = near_back (run_nest m) left first.store near_first }) after_goes

  module _ (arrays : Bool) where
    loops_go : GoesOnNear (run_nest m) after_instances (does (dialect (bits_of width) arrays) None body s)
    loops_go =
        let e = loops_end width arrays (run_nest m) setting (layout_of m.line m.body) s in_setting held may.going
        (subst (λ (c : Statement). (does (fortran77 width) None c s).way ≡ Going) same goes) left ran.1 in
        subst (λ (c : Statement). GoesOnNear (run_nest m) after_instances (does (dialect (bits_of width) arrays) None c s))
        (sym same) (record { way = e.0; near = e.1 })

    block_goes : GoesOnNear (run_nest m) (does_all (fortran77 width) None m.after after_instances)
        (does_all (dialect (bits_of width) arrays) None (loops_then_after m) s)
    block_goes =
        all_end (bits_of width) (run_nest m) CountsNone apart arrays m.after after_instances (does (dialect (bits_of width) arrays) None body s)
        h.parts.after.endings names loops_go from_left.way

    same_lines : SameLines s (does_all (dialect (bits_of width) arrays) None (loops_then_after m) s)
    same_lines =
        quiet_statements_keep_lines (dialect (bits_of width) arrays) None (loops_then_after m) s
        (part_quiet m.line m.body h.plain, endings_quiet m.after h.parts.after.endings)

  is_run : IsRunOfInstances width m s
  is_run = record {
    values = may.values;
    valued = may.valued;
    left = left;
    one_by_one = ran.1;
    loops = loops_go;
    way = from_left.way;
    near = block_goes;
    lines = same_lines;
  }

pub run_of_prepared_nest : (width : Width) → RunOfPreparedNest width
run_of_prepared_nest width p around deepest m s h may sound = is_run width p around deepest m s h may sound
