-- Statements in order form one block of a program.
use Rattle.std.proofs.Common.{◌≡◌, ℕ, Bool, true, false, Option, None, List, [], ◌∷◌, sym, ap, subst, ◌∙◌, refl}
use mathlib.Core.Path.{fun_ext}
use Rattle.std.specs.List.{AllByRecursion}
use Rattle.tree.specs.Plain.{Block}
use Rattle.tree.specs.declared.stmts.Mark.{Mark}
use Rattle.tree.specs.declared.functions.Intrinsic.{Intrinsic}
use Rattle.f90_grammar.specs.FreeForm.{FreeStatement}
use Rattle.f90_grammar.specs.Words.{Word90}
use Rattle.f90_grammar.specs.Forms as forms
use Rattle.f90_grammar.specs.Forms.{Form90, IsWritten90}
use Rattle.f90_grammar.specs.Blocks.{Placed, AreBlock90}
use Rattle.f90_grammar.specs.Declared.{functions_in}
use Rattle.f90_grammar.specs.Order.{is_executable90}
use Rattle.f90_grammar.specs.Reading.{is_target_in, takes_mark, last_mark, if_taken, mark_left_over, HaveForms}
use Rattle.f90_laws.proofs.readings.Counts.{HasInnerForm}
use Rattle.f90_laws.specs.blocks.Blocks.{name_target, TargetsAreNamed, BodyForms, OneBody}
use Rattle.f90_laws.proofs.unrefused.NamedLabels.{block_names}
use Rattle.f90_laws.proofs.unrefused.UniqueBlocks.{one_block}
use Rattle.f90_laws.proofs.blocks.Endings.{executables, kept, close_kept, closed_kept, order_closes, order_ends}
use Rattle.f90_laws.proofs.blocks.Cuts.{IsFit, whole_forms}

-- what the reading of a text says of each of its statements
record IsRead (p : Placed) : Type 0 where
  mark : takes_mark p.form ≡ false → p.mark ≡ None
  inner : HasInnerForm p.form

inner : (f : Form90) (ws : List Word90) → IsWritten90 f ws → HasInnerForm f
inner (forms.Test p f) ws w = w.4
inner f ws w = tt

are_read : (pending : Option Mark) (ss : List FreeStatement) (ps : List Placed) → HaveForms pending ss ps
    → AllByRecursion IsRead ps
are_read pending [] [] h = tt
are_read pending [] (p ∷ ps) h = absurd h
are_read pending (s ∷ ss) [] h = absurd h
are_read pending (s ∷ ss) (p ∷ ps) h = (
  record { mark = λ t. h.1 ∙ ap (λ b. if_taken b (last_mark pending s.ahead)) t; inner = inner p.form h.2.0 h.2.2 },
  are_read (last_mark (mark_left_over (takes_mark p.form) (last_mark pending s.ahead)) s.within) ss ps h.3,
)

fit_kept : (ps : List Placed) → AllByRecursion IsRead ps → AllByRecursion IsFit (executables ps)
fit_kept [] h = tt
fit_kept (p ∷ ps) h = by (is_executable90 p.form) refl (fit_kept ps h.1)
  where
    by : (b : Bool) → is_executable90 p.form ≡ b → AllByRecursion IsFit (executables ps)
        → AllByRecursion IsFit (kept b p (executables ps))
    by true e next = (record { mark = h.0.mark; inner = h.0.inner; executable = e }, next)
    by false e next = next

-- ---- the labels that they name are those that the block names

pub targets_named : TargetsAreNamed
targets_named function is_target ps b n h = block_names function is_target n ps b h

abbrev named : List Placed → ℕ → Bool
named ps n = name_target ps n

same_names : (function : List ℕ → Option Intrinsic) (is_target : ℕ → Bool) (ps : List Placed) (b : Block)
    → AreBlock90 function is_target ps b → is_target_in b ≡ named ps
same_names function is_target ps b h = fun_ext (λ n. targets_named function is_target ps b n h)

pub body_forms : BodyForms
body_forms text ps stands order =
    let es = executables ps in
    let f = functions_in ps in
    let k = whole_forms f (named es) es (record {
      close = close_kept [] ps (order_closes ps order);
      closed = closed_kept ps (order_ends ps order);
      fit = fit_kept ps (are_read None stands.statements ps stands.have_forms);
    }) in
    (k.block, subst (λ t. AreBlock90 f t es k.block) (sym (same_names f (named es) es k.block k.are)) k.are)

pub one_body : OneBody
one_body ps b c h k =
    let es = executables ps in
    let f = functions_in ps in
    let same = λ (d : Block) (a : AreBlock90 f (is_target_in d) es d).
    subst (λ t. AreBlock90 f t es d) (same_names f (is_target_in d) es d a) a in
    one_block f (named es) es b c (same b h) (same c k)
