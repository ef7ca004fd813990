-- A prepared nest with its loops moved, in canonical text again, goes on as the nest does.
use Rattle.std.proofs.Common.{◌≡◌, refl, sym, ◌∙◌, subst, ℕ, false, Option, Some, None, List, [], length, arith}
use Rattle.std.specs.Prelude.{unwrap_or}
use Rattle.tree.specs.Plain.{Program, Statement, no_statements, statement}
use Rattle.meaning.specs.Dialect.{fortran77}
use Rattle.tree.specs.declared.width.Width.{Width}
use Rattle.meaning.specs.Profile90.{AreDeclarations}
use Rattle.meaning.specs.Reads.{names_in_block}
use Rattle.meaning.specs.Run.{Going, State, does, does_all}
use Rattle.meaning.specs.Store.{Cell}
use Rattle.rewrite.specs.Following.{IsSound, MomentsAlike}
use Rattle.linear_forms.specs.Laws.{HoldsSized}
use Rattle.nest.specs.Blocks.{statement_of_part}
use Rattle.nest.specs.Plain.{Nest, Part}
use Rattle.nest_order.proofs.runs.Quieting.{quiet_statements_keep_lines}
use Rattle.nest_order.specs.orders.Lists.{In}
use Rattle.nest_order.specs.runs.Laws.{GoesOnNear}
use Rattle.nest_order.specs.runs.Nests.{is_nest_variable}
use Rattle.nest_order.specs.runs.Stores.{HoldsNest, Setting}
use Rattle.nest_order.specs.shapes.Shapes.{IsPlain}
use Rattle.dependence_graph.specs.declared.graphs.Graph.{Graph}
use Rattle.dependence_graph.specs.nest_graph.Graph.{IsGraphOf}
use Rattle.dependence_graph.specs.nest_graph.Spans.{spans_of}
use Rattle.emission.specs.graph_orders.Nests.{run_nest}
use Rattle.interchange.specs.Arranged.{body_in, vectors_of, with_moved_loops}
use Rattle.interchange.specs.Orders.{order_of}
use Rattle.pass_laws.proofs.NormalFacts.Tables.{all_in}
use Rattle.pass_laws.specs.prepared_nests.After.{CountsNone}
use Rattle.pass_laws.specs.prepared_nests.Nests.{IsPrepared, IsSettingFor}
use Rattle.pass_laws.proofs.PreparedRuns.Counters.{no_variable}
use Rattle.pass_laws.proofs.PreparedRuns.Endings.{all_end, endings_quiet}
use Rattle.pass_laws.proofs.PreparedRuns.Straight.{ending_goes, goes_if_sound, part_quiet, sound_before}
use Rattle.pass_laws.proofs.PreparedRuns.Together.{setting_holds}
use Rattle.pass_laws.specs.prepared_runs.Running.{GoOnTogether, MayRun, loops_then_after}
use Rattle.prepared_passes.specs.arrangement.Laws.{SameHeld, moved_body}
use Rattle.prepared_passes.specs.arrangement.Prepared.{ArrangedNestGoesOnAsNest}
use Rattle.prepared_passes.proofs.ArrangedNests.Again.{prepared_again}
use Rattle.prepared_passes.proofs.ArrangedNests.Canonical.{canonical_text_follows}
use Rattle.prepared_passes.proofs.ArrangedNests.Law.{moved_loops_keep_meaning}
use Rattle.prepared_passes.proofs.ArrangedNests.MayMove.{prepared_nest_may_move}
use Rattle.prepared_passes.proofs.ArrangedNests.MovedChains.{IsMoved, moved_chain, moved_is}
use Rattle.tree.specs.Widths.{bits_of}
use Rattle.meaning.proofs.Widths.{narrowest, widest}

module _ (width : Width) (p : Program) (around : List (List ℕ)) (deepest : ℕ) (m : Nest) (s : State) (are : AreDeclarations p.declarations) (h : IsPrepared p.declarations around deepest m)
    (may : MayRun width p m s) (sound : IsSound (does_all (fortran77 width) None (loops_then_after m) s).way) where
  abbrev body : Statement
  body = statement_of_part m.line m.body

  abbrev first : State
  first = does (fortran77 width) None body s

  goes : first.way ≡ Going
  goes = goes_if_sound (bits_of width) m.line m.body s h.plain may.going (sound_before (bits_of width) m.after h.parts.after.endings first sound)

  abbrev setting : Setting
  setting = record { program = p; bounds = s.store.bounds; values = may.values }

  is_setting : IsSettingFor p.declarations m setting
  is_setting = setting_holds width p around deepest m s h may

  held : HoldsNest (bits_of width) (run_nest m) setting s.store
  held = record { program = may.holds; bounds = λ x. refl; symbols = may.valued }

  -- ---- what comes after the loops, where others stand for them

  after_goes : (does_all (fortran77 width) None m.after first).way ≡ Going
  after_goes = ending_goes (bits_of width) m.line m.after first h.parts.after.endings goes sound

  names : (x : List ℕ) → In x (names_in_block m.after) → CountsNone x
  names x i = all_in CountsNone (names_in_block m.after) h.parts.after.names x i

  apart : (d : Cell) → CountsNone d.name → is_nest_variable (run_nest m) d ≡ false
  apart d none = no_variable p.declarations around deepest m h d none

  module _ (q : Part) (plain : IsPlain q) (near : GoesOnNear (run_nest m) first (does (fortran77 width) None (statement_of_part m.line q) s)) where
    abbrev other : State
    other = does (fortran77 width) None (statement_of_part m.line q) s

    ended : GoesOnNear (run_nest m) (does_all (fortran77 width) None m.after first) (does_all (fortran77 width) None m.after other)
    ended = all_end (bits_of width) (run_nest m) CountsNone apart false m.after first other h.parts.after.endings names near after_goes

    together : GoOnTogether m s (does_all (fortran77 width) None (loops_then_after m) s) (does_all (fortran77 width) None (loops_then_after (record m { body = q })) s)
    together = record {
      going = after_goes;
      beside = ended;
      lines =
          quiet_statements_keep_lines (fortran77 width) None (loops_then_after m) s
          (part_quiet m.line m.body h.plain, endings_quiet m.after h.parts.after.endings);
      lines_beside =
          quiet_statements_keep_lines (fortran77 width) None (loops_then_after (record m { body = q })) s
          (part_quiet m.line q plain, endings_quiet m.after h.parts.after.endings);
    }

  -- no loop moves
  stays : GoOnTogether m s (does_all (fortran77 width) None (loops_then_after m) s) (does_all (fortran77 width) None (loops_then_after m) s)
  stays = together m.body h.plain (record { way = goes; near = record { bounds = λ x. refl; held = λ c e. refl } })

  -- ---- the loops moved, and the text as it is; and then in canonical text

  module _ (g : Graph) (graph : IsGraphOf m g) (sized : HoldsSized s.store) (k : Nest) (moved : IsMoved m (vectors_of g.edges) k) where
    abbrev order : List ℕ
    order = order_of moved.trips (spans_of [] moved.chain.loops) (vectors_of g.edges) (length moved.chain.loops)

    abbrev text : Part
    text = moved_body m g moved.chain moved.trips

    abbrev canonical : Part
    canonical = body_in m moved.chain order

    abbrev second : State
    second = does_all (fortran77 width) None (statement (statement_of_part m.line text) no_statements) s

    abbrev third : State
    third = does_all (fortran77 width) None (statement (statement_of_part m.line canonical) no_statements) s

    near : GoesOnNear (run_nest m) first second
    near =
        moved_loops_keep_meaning (bits_of width) m g moved.chain moved.trips setting s (narrowest width) (widest width)
        (prepared_nest_may_move (bits_of width) p.declarations around deepest m g moved.chain moved.trips setting (narrowest width) are h is_setting graph moved.is moved.are moved.own) held goes

    alike : MomentsAlike (SameHeld (bits_of width)) second third
    alike =
        canonical_text_follows (bits_of width) m moved.chain order h.plain moved.is s s
        (record { store = record { bounds = λ x. refl; held = λ c. refl; few = widest width; sized = sized }; written = refl; input = refl; had_value = refl; way = refl })
        (subst IsSound (sym near.way) tt)

    near_canonical : GoesOnNear (run_nest m) first third
    near_canonical = record {
      way = sym alike.way ∙ near.way;
      near = record {
        bounds = λ x. near.near.bounds x ∙ alike.store.bounds x;
        held = λ c e. near.near.held c e ∙ alike.store.held c;
      };
    }

    plain : IsPlain canonical
    plain =
        subst (λ (n : Nest). IsPlain n.body) moved.nest
        (prepared_again p.declarations around deepest m k h (moved_chain m (vectors_of g.edges) k moved)).plain

    moved_together : GoOnTogether m s (does_all (fortran77 width) None (loops_then_after m) s) (does_all (fortran77 width) None (loops_then_after k) s)
    moved_together =
        subst (λ (n : Nest). GoOnTogether m s (does_all (fortran77 width) None (loops_then_after m) s) (does_all (fortran77 width) None (loops_then_after n) s)) (sym moved.nest)
        (together canonical plain near_canonical)

pub arranged_nest_goes_on_as_nest : (width : Width) → ArrangedNestGoesOnAsNest width
arranged_nest_goes_on_as_nest width p around deepest m g s are h graph may sized sound = by (with_moved_loops m (vectors_of g.edges)) refl
  where
    by : (o : Option Nest) → with_moved_loops m (vectors_of g.edges) ≡ o
        → GoOnTogether m s (does_all (fortran77 width) None (loops_then_after m) s) (does_all (fortran77 width) None (loops_then_after (unwrap_or o m)) s)
    by None e = stays width p around deepest m s are h may sound
    by (Some k) e = moved_together width p around deepest m s are h may sound g graph sized k (moved_is m (vectors_of g.edges) k e)
