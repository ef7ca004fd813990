-- A run that jumps on, has stopped or has met a fault passes a block without labels.
use Rattle.std.proofs.Common.{◌≡◌, refl, ap, ◌∙◌, ℕ, true, false, Option, None, List, Result}
use Rattle.tree.specs.Plain.{Statement, Assignment, Where, If, Do, Label, GoTo, Stop, Read, Print, Allocate}
use Rattle.tree.specs.Plain.{Deallocate, no_arms, arm, Block, no_statements, statement, Declaration}
use Rattle.tree.specs.declared.ops.Fault.{Fault}
use Rattle.meaning.specs.Blocks.{Surroundings, before_labels, labels_of}
use Rattle.meaning.specs.Dialect.{Dialect, fortran90}
use Rattle.tree.specs.declared.width.Width.{Width}
use Rattle.meaning.specs.Profile90.{IsStatement, IsBlock}
use Rattle.meaning.specs.Run.{State, Way, Going, Jumping, Stopped, Failed, Cut, Act, on_way, while_going, evaluates}
use Rattle.meaning.specs.Run.{counts_step, does, does_all}
use Rattle.meaning.specs.Store.{Store}
use Rattle.nest.specs.Allocations.{block_then}
use Rattle.pass_laws.specs.prepared_runs.Unlabelled.{IsNoLabel, HasNoLabel}

-- not going
abbrev pub IsElsewhere : Way → Type 0
IsElsewhere Going = ⊥
IsElsewhere _ = Unit {0}

going_passed : (k : Act) (t : State) → IsElsewhere t.way → while_going k t ≡ t
unfolding while_going
going_passed k t h = by t.way h
  where
    by : (w : Way) → IsElsewhere w → on_way w k t ≡ t
    by Going h = absurd h
    by (Jumping l) h = refl
    by Stopped h = refl
    by (Failed f l) h = refl
    by Cut h = refl

pub evaluates_passed : {A : Type 0} (line : ℕ) (q : Store → Result A Fault) (k : A → Act) (t : State) → IsElsewhere t.way → evaluates line q k t ≡ t
unfolding evaluates
evaluates_passed line q k t h = going_passed _ t h

counts_passed : (width : Width) (k : Act) (t : State) → IsElsewhere t.way → counts_step (fortran90 width) None k t ≡ t
unfolding counts_step
counts_passed width k t h = going_passed _ t h

-- ---- blocks one after the other

pub does_then : (lang : Dialect) (limit : Option ℕ) (b c : Block) (s : State) → does_all lang limit (block_then b c) s ≡ does_all lang limit c (does_all lang limit b s)
does_then lang limit no_statements c s = refl
does_then lang limit (statement d b) c s = does_then lang limit b c (does lang limit d s)

module _ (width : Width) (ds : List Declaration) where
  -- each statement of the block is one of a Fortran 90 program, wherever it stands there
  abbrev pub EachIn : Block → Type 0
  EachIn no_statements = Unit {0}
  EachIn (statement c cs) = ((w : Surroundings) × IsStatement ds c w) × EachIn cs

  pub each_in : (b : Block) (w : Surroundings) → IsBlock ds b w → EachIn b
  each_in no_statements w h = tt
  each_in (statement c cs) w h = ((before_labels (labels_of cs) w, h.0), each_in cs w h.1)

  pub front_in : (b c : Block) → EachIn (block_then b c) → EachIn b
  front_in no_statements c h = tt
  front_in (statement d b) c h = (h.0, front_in b c h.1)

  pub back_in : (b c : Block) → EachIn (block_then b c) → EachIn c
  back_in no_statements c h = h
  back_in (statement d b) c h = back_in b c h.1

  statement_passed : (c : Statement) (w : Surroundings) → IsStatement ds c w → IsNoLabel c → (t : State) → IsElsewhere t.way → does (fortran90 width) None c t ≡ t
  statement_passed (Assignment line m left right) w h l t e = counts_passed width _ t e
  statement_passed (Where line m mask left right) w h l t e = counts_passed width _ t e
  statement_passed (If line no_arms other) w h l t e = absurd (let f : false ≡ true = h.1 in cc)
  statement_passed (If line (arm test body more) other) w h l t e = counts_passed width _ t e
  statement_passed (Do line x a b c body) w h l t e = evaluates_passed line _ _ t e
  statement_passed (Label n) w h l t e = absurd l
  statement_passed (GoTo line n) w h l t e = counts_passed width _ t e
  statement_passed (Stop line) w h l t e = counts_passed width _ t e
  statement_passed (Read line is) w h l t e = counts_passed width _ t e
  statement_passed (Print line is) w h l t e = counts_passed width _ t e
  statement_passed (Allocate line x es) w h l t e = counts_passed width _ t e
  statement_passed (Deallocate line x) w h l t e = counts_passed width _ t e

  pub block_passed : (b : Block) → EachIn b → HasNoLabel b → (t : State) → IsElsewhere t.way → does_all (fortran90 width) None b t ≡ t
  block_passed no_statements h l t e = refl
  block_passed (statement c cs) h l t e = ap (does_all (fortran90 width) None cs) (statement_passed c h.0.0 h.0.1 l.0 t e) ∙ block_passed cs h.1 l.1 t e
