-- The text of a printed program is read as the program.
use Rattle.std.proofs.Common.{◌≡◌, subst, ℕ, Option, None, List, Contains}
use Rattle.tree.specs.Plain.{Program}
use Rattle.tree.specs.declared.functions.Intrinsic.{Intrinsic}
use Rattle.tree.specs.declared.refusals.Refusal.{Refusal}
use Rattle.f90_grammar.specs.PrintedText.{printed90}
use Rattle.f90_grammar.specs.FreeForm.{FreeStatement}
use Rattle.f90_grammar.specs.Blocks.{Placed}
use Rattle.f90_grammar.specs.Contents.{SuitsCallsIn}
use Rattle.f90_grammar.specs.Declared.{functions_in}
use Rattle.f90_grammar.specs.Refusals.{HasNoForm90, HoldsIn, HasCause90, Conforms90}
use Rattle.f90_grammar.specs.Refusals.HasCause90.{InLines, InWords, InStatements}
use Rattle.f90_laws.proofs.readings.Lists.{all_at}
use Rattle.f90_laws.proofs.unique.Lines.{statements_once, one_text}
use Rattle.f90_laws.specs.unrefused.Unrefused.{IsReadWell}
use Rattle.f90_laws.proofs.unrefused.Unrefused.{read_well}
use Rattle.f90_laws.specs.read_back.Laws.{PrintedProgramIsRead}
use Rattle.f90_laws.proofs.read_back.DeclaredNames.{has_placed, same_functions}

module _ (p : Program) (text : List ℕ) (w : IsReadWell p text) where
  -- each statement has a form that suits
  has_form : (s : FreeStatement) → Contains w.read_back.of_text.statements s → HasNoForm90 w.read_back.of_text.statements s → ⊥
  has_form s stands n =
      let ps = w.read_back.statements in
      let ss = w.read_back.of_text.statements in
      let have = w.read_back.of_text.have_forms in
      let f = has_placed None ss ps s have stands in
      let suits = all_at (λ (q : Placed). SuitsCallsIn (functions_in ps) q.form) ps f.it w.calls f.among in
      n.none f.it.form f.form
      (subst (λ (function : List ℕ → Option Intrinsic). SuitsCallsIn function f.it.form) (same_functions ss ps have n.declared n.are_declared) suits)

  no_cause : (r : Refusal) → HasCause90 text r → ⊥
  no_cause r (InLines q h) = w.lines q h
  no_cause r (InWords ss s are stands n) =
      let e : ss ≡ w.read_back.of_text.statements = statements_once are w.read_back.of_text.statements w.read_back.of_text.of_lines in
      has_form s (subst (λ (ts : List FreeStatement). Contains ts s) e stands) (subst (λ (ts : List FreeStatement). HasNoForm90 ts s) e n)
  no_cause r (InStatements ps c line of_text h) =
      w.causes c line (subst (λ (qs : List Placed). HoldsIn qs c line) (one_text text ps w.read_back.statements of_text w.read_back.of_text) h)

  well : Conforms90 text w.read_back.program
  well =
      record {
        statements = w.read_back.statements;
        of_text = w.read_back.of_text;
        calls = w.calls;
        is_program = w.read_back.are;
        unrefused = no_cause;
      }

pub printed_is_read : PrintedProgramIsRead
printed_is_read p notes h good =
    let text = printed90 p notes in
    let w = read_well p notes h good in
    record { program = w.read_back.program; reads = well p text w; title = w.read_back.title; same = w.read_back.same }
