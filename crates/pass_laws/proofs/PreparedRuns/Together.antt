-- What is emitted for a prepared nest goes on as its loops do.
use Rattle.std.proofs.Common.{◌≡◌, refl, sym, subst, inl, inr, ℕ, zero, suc, ◌<◌, ◌≤◌, ◌^◌, nat_lt, ℤ, pos, negsuc}
use Rattle.std.proofs.Common.{true, false, List, [], ◌∷◌, Option, Some, None, IfSome, arith}
use Rattle.std.specs.Option.{IsSomeAnd}
use Rattle.std.specs.Prelude.{nat_abs}
use Rattle.tree.specs.Plain.{Declaration, Program, Statement}
use Rattle.tree.specs.declared.ops.Value.{Value}
use Rattle.tree.specs.declared.ops.Value.TheVariants.{Int}
use Rattle.meaning.specs.Reads.{names_in_block}
use Rattle.meaning.specs.Dialect.{fortran77, fortran90}
use Rattle.tree.specs.declared.width.Width.{Width}
use Rattle.meaning.specs.Holding.{IsStorable}
use Rattle.meaning.specs.Profile90.{AreDeclarations}
use Rattle.meaning.specs.Run.{Going, State, does, does_all}
use Rattle.meaning.specs.Store.{Cell}
use Rattle.meaning.specs.Typed.{declared}
use Rattle.meaning.specs.Value.{is_in_range}
use Rattle.rewrite.specs.Following.{IsSound}
use Rattle.nest.specs.Blocks.{statement_of_part}
use Rattle.nest.specs.Plain.{Nest}
use Rattle.nest_order.proofs.runs.Quieting.{quiet_statements_keep_lines}
use Rattle.nest_order.specs.orders.Lists.{In}
use Rattle.nest_order.specs.runs.Guarded.{variable_cell}
use Rattle.nest_order.specs.runs.Laws.{GoesOnNear}
use Rattle.nest_order.specs.runs.Nests.{is_nest_variable}
use Rattle.nest_order.specs.runs.Stores.{HoldsNest, Setting}
use Rattle.nest_order.specs.runs.Touched.{nth_of}
use Rattle.emission.proofs.EmissionMeaning.Meaning.{emission_keeps_meaning}
use Rattle.emission.specs.emission_forms.Written.{HaveGuardedNames}
use Rattle.emission.specs.emission_pieces.Pieces.{Pieces, block_of_pieces}
use Rattle.emission.specs.graph_orders.Nests.{run_nest}
use Rattle.pass_laws.proofs.NormalFacts.Tables.{all_in}
use Rattle.pass_laws.specs.normal_facts.Laws.{IsCounter}
use Rattle.pass_laws.proofs.PreparedNests.FormFacts.{prepared_nest_has_form_facts}
use Rattle.pass_laws.proofs.PreparedNests.Facts.{prepared_nest_has_facts}
use Rattle.pass_laws.proofs.PreparedNests.Ready.{prepared_nest_is_ready}
use Rattle.pass_laws.proofs.PreparedNests.Regular.{prepared_nest_is_regular}
use Rattle.pass_laws.specs.prepared_nests.After.{CountsNone}
use Rattle.pass_laws.specs.prepared_nests.Nests.{IsPrepared, IsPreparedSymbol, IsSettingFor}
use Rattle.pass_laws.proofs.PreparedRuns.Counters.{no_variable}
use Rattle.pass_laws.proofs.PreparedRuns.Endings.{all_end, endings_quiet}
use Rattle.pass_laws.proofs.PreparedRuns.Pieces.{does_then, pieces_quiet, then_quiet}
use Rattle.pass_laws.proofs.PreparedRuns.Straight.{ending_goes, goes_if_sound, part_quiet, sound_before}
use Rattle.pass_laws.specs.prepared_runs.Laws.{PiecesGoOnAsNest}
use Rattle.pass_laws.specs.prepared_runs.Running.{ArePiecesOf, GoOnTogether, MayRun, loops_then_after, pieces_then_after}
use Rattle.pass_laws.specs.prepared_runs.Running.{setting_at}
use Rattle.tree.specs.Widths.{bits_of}
use Rattle.meaning.proofs.Widths.{fits_more, narrowest, widest}

-- a number within the range of INTEGER
sized : (width : Width) (z : ℤ) → is_in_range (bits_of width) (Int z) ≡ true → nat_abs z ≤ 2 ^ 63
sized width (pos k) e = small k (fits_more (bits_of width) 63 (widest width) (pos k) e)
  where
    small : (k : ℕ) → nat_lt k 9223372036854775808 ≡ true → k ≤ 9223372036854775808
    small k e = let a : k < 9223372036854775808 = grind arith in omega arith
sized width (negsuc k) e = small k (fits_more (bits_of width) 63 (widest width) (negsuc k) e)
  where
    small : (k : ℕ) → nat_lt k 9223372036854775808 ≡ true → suc k ≤ 9223372036854775808
    small k e = let a : k < 9223372036854775808 = grind arith in omega arith

-- what stands in a list at a place stands in it
pub in_list : (xs : List (List ℕ)) (k : ℕ) (x : List ℕ) → nth_of xs k ≡ Some x → In x xs
in_list [] k x e = let no : ⊥ = cc in absurd no
in_list (y ∷ ys) zero x e = let same : y ≡ x = cc in inl (sym same)
in_list (y ∷ ys) (suc k) x e = inr (in_list ys k x e)

-- what an INTEGER scalar holds is within its range
held_sized : (width : Width) (o : Option Declaration) (v : Value) (z : ℤ) → IsSomeAnd o IsCounter
    → IfSome o (λ (d : Declaration). IsStorable (fortran77 width) d.kind v) → v ≡ Int z → nat_abs z ≤ 2 ^ 63
held_sized width None v z h g e = absurd h
held_sized width (Some d) v z h g e = sized width z (subst (λ (x : Value). is_in_range (bits_of width) x ≡ true) e g.within)

-- a nest that may be run at a moment is in a setting there
module _ (width : Width) (p : Program) (around : List (List ℕ)) (deepest : ℕ) (m : Nest) (s : State)
    (h : IsPrepared p.declarations around deepest m) (may : MayRun width p m s) where
  symbol_sized : (k : ℕ) (x : List ℕ) → nth_of m.symbols k ≡ Some x → nat_abs (may.values k) ≤ 2 ^ 63
  symbol_sized k x e =
      let symbol = all_in (IsPreparedSymbol p.declarations) m.symbols h.parts.symbols x (in_list m.symbols k x e) in
      held_sized width (declared p.declarations x) (s.store.held (variable_cell x)) (may.values k) symbol.scalar
      (may.holds.kinds (variable_cell x)) (may.valued k x e)

  pub setting_holds : IsSettingFor p.declarations m (record { program = p; bounds = s.store.bounds; values = may.values })
  setting_holds = record { declarations = refl; bounds = may.holds.bounds; made = may.made; values = symbol_sized }

module _ (width : Width) (p : Program) (around : List (List ℕ)) (deepest : ℕ) (m : Nest) (ps : Pieces) (s : State)
    (are : AreDeclarations p.declarations) (h : IsPrepared p.declarations around deepest m)
    (pieces : ArePiecesOf m ps) (may : MayRun width p m s) (guarded : HaveGuardedNames m (setting_at width may))
    (sound : IsSound (does_all (fortran77 width) None (loops_then_after m) s).way) where
  abbrev es : List Declaration
  es = p.declarations

  abbrev body : Statement
  body = statement_of_part m.line m.body

  abbrev first : State
  first = does (fortran77 width) None body s

  abbrev third : State
  third = does_all (fortran90 width) None (block_of_pieces m 1 ps) s

  goes : first.way ≡ Going
  goes =
      goes_if_sound (bits_of width) m.line m.body s h.plain may.going
      (sound_before (bits_of width) m.after h.parts.after.endings first sound)

  -- ---- where it is run

  abbrev setting : Setting
  setting = setting_at width may

  is_setting : IsSettingFor es m setting
  is_setting = setting_holds width p around deepest m s h may

  held : HoldsNest (bits_of width) (run_nest m) setting s.store
  held = record { program = may.holds; bounds = λ x. refl; symbols = may.valued }

  -- ---- the loops

  near : GoesOnNear (run_nest m) first third
  near =
      emission_keeps_meaning width m pieces.graph pieces.holds ps setting s h.plain
      (prepared_nest_is_ready es around deepest m are h) (prepared_nest_is_regular es around deepest m h)
      (prepared_nest_has_facts (bits_of width) es around deepest m setting (narrowest width) h is_setting)
      (prepared_nest_has_form_facts es around deepest m setting h is_setting) guarded
      pieces.is_graph pieces.all pieces.emitted held goes

  -- ---- what comes after them

  after_goes : (does_all (fortran77 width) None m.after first).way ≡ Going
  after_goes = ending_goes (bits_of width) m.line m.after first h.parts.after.endings goes sound

  names : (x : List ℕ) → In x (names_in_block m.after) → CountsNone x
  names x i = all_in CountsNone (names_in_block m.after) h.parts.after.names x i

  apart : (c : Cell) → CountsNone c.name → is_nest_variable (run_nest m) c ≡ false
  apart c none = no_variable es around deepest m h c none

  ended : GoesOnNear (run_nest m) (does_all (fortran77 width) None m.after first) (does_all (fortran90 width) None m.after third)
  ended = all_end (bits_of width) (run_nest m) CountsNone apart true m.after first third h.parts.after.endings names near after_goes

  -- ---- both together

  whole : does_all (fortran90 width) None (pieces_then_after m ps) s ≡ does_all (fortran90 width) None m.after third
  whole = does_then (fortran90 width) None (block_of_pieces m 1 ps) m.after s

  together : GoOnTogether m s (does_all (fortran77 width) None (loops_then_after m) s)
      (does_all (fortran90 width) None (pieces_then_after m ps) s)
  together = record {
    going = after_goes;
    beside =
        subst (λ (t : State). GoesOnNear (run_nest m) (does_all (fortran77 width) None m.after first) t) (sym whole) ended;
    lines =
        quiet_statements_keep_lines (fortran77 width) None (loops_then_after m) s
        (part_quiet m.line m.body h.plain, endings_quiet m.after h.parts.after.endings);
    lines_beside =
        quiet_statements_keep_lines (fortran90 width) None (pieces_then_after m ps) s
        (then_quiet (block_of_pieces m 1 ps) m.after (pieces_quiet m 1 ps)
        (endings_quiet m.after h.parts.after.endings));
  }

pub pieces_go_on_as_nest : (width : Width) → PiecesGoOnAsNest width
pieces_go_on_as_nest width p around deepest m ps s are h pieces may guarded sound =
    together width p around deepest m ps s are h pieces may guarded sound
