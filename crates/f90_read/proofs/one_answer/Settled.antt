-- A text that isn't refused is read.
use Rattle.std.proofs.Common.{inl, refl, sym, subst, ℕ, None, List, []}
use Rattle.std.proofs.Common.{Contains}
use Rattle.std.specs.List.{AllByRecursion}
use Rattle.std.specs.Str.Lines.{lines}
use Rattle.tree.specs.Causes.{refusal_at}
use Rattle.tree.specs.Plain.{Declaration, Program, Block}
use Rattle.tree.specs.declared.refusals.Cause.TheVariants.{Structure, Declared90, Limit90, Syntax90}
use Rattle.tree.specs.declared.refusals.Refusal.{Refusal}
use Rattle.f90_grammar.specs.Blocks.{Placed}
use Rattle.f90_grammar.specs.Contents.{SuitsCallsIn}
use Rattle.f90_grammar.specs.Declared.{declarations_of, functions_in, declares_again}
use Rattle.f90_grammar.specs.FreeForm.{FreeStatement, AreStatements}
use Rattle.f90_grammar.specs.Order.{IsInOrder, is_disordered, title_in_text}
use Rattle.f90_grammar.specs.Reading.{AreStatementsOf}
use Rattle.f90_grammar.specs.Programs.{IsProgramOf}
use Rattle.f90_grammar.specs.Refusals.{HasNoForm90, HasCause90, IsRefusable, Reads90, functions_but}
use Rattle.f90_grammar.specs.Refusals.HoldsIn.{AtPlace, HasNoStatement}
use Rattle.f90_grammar.specs.Refusals.HasCause90.{InLines, InWords, InStatements}
use Rattle.f90_grammar.specs.Refusals.IsRefusable.{For, ForNames}
use Rattle.f90_grammar.specs.Surroundings.{AreBody}
use Rattle.f90_laws.proofs.blocks.Bodies.{body_forms}
use Rattle.f90_lines.specs.Readings.{Ahead, statements_of}
use Rattle.f90_lines.proofs.StatementLaws.{are_statements}
use Rattle.f90_laws.proofs.read_back.DeclaredNames.{same_functions}
use Rattle.f90_names.specs.kinds.declarations.Declarations.{AreInOrder}
use Rattle.f90_names.specs.calls.Formless.{HasSuitedForm}
use Rattle.f90_read.proofs.StatementLaws.{not_true, some_statement}
use Rattle.f90_read.specs.one_answer.Settled.{TextIsReadOrRefused, NamesAloneAreRefused}
use Rattle.f90_read.proofs.one_answer.Unanswered.{unanswered}
use Rattle.f90_read.proofs.one_answer.DeclaredNames.{AreDeclared, names_declared}
use Rattle.f90_read.proofs.one_answer.SuitedForms.{HavePlaces, have_forms, places}
use Rattle.f90_read.proofs.one_answer.ByteOrder.{NoneAgain, byte_order}
use Rattle.f90_read.proofs.one_answer.ManyNames.{refused_for_names}

-- ---- the program that statements are

program_of : (ps : List Placed) (ds : List Declaration) (b : Block) → IsInOrder ps → AreInOrder (declarations_of ps) ds
    → AreBody ps b → IsProgramOf ps (record { name = title_in_text ps; declarations = ds; body = b })
program_of ps ds b order o body =
    record { in_order = order; title = refl; sorted = o.sorted; each = o.each; once = o.once; body = body }

-- ---- a text for which nothing can be refused

module _ (text : List ℕ) (clear : (r : Refusal) → IsRefusable text r → ⊥) where
  no_cause : (r : Refusal) → HasCause90 text r → ⊥
  no_cause r h = clear r (For r h)

  abbrev ss : List FreeStatement
  ss = statements_of 0 (Ahead []) (lines text)

  of_lines : AreStatements 1 (lines text) ss
  of_lines = are_statements text (λ r h. no_cause r (InLines r h))

  formed : (s : FreeStatement) → Contains ss s → HasNoForm90 ss s → ⊥
  formed s c n = no_cause (refusal_at Syntax90 s.line) (InWords ss s of_lines c n)

  module _ (ps : List Placed) (t : AreStatementsOf text ps) where
    in_order : IsInOrder ps
    in_order = record {
      some = some_statement ps
          (λ e. no_cause (refusal_at Structure 0) (InStatements ps Structure 0 t (HasNoStatement e)));
      none = λ p i. not_true (is_disordered ps p)
          (λ h. no_cause (refusal_at Structure p.here.line)
          (InStatements ps Structure p.here.line t (AtPlace Structure p i h)));
    }

    none_again : NoneAgain ps
    none_again p i =
        not_true (declares_again p.before p.here.form)
        (λ h. no_cause (refusal_at Declared90 p.here.line)
        (InStatements ps Declared90 p.here.line t (AtPlace Declared90 p i (inl h))))

    program : (q : Program) × IsProgramOf ps q
    program =
        let o = byte_order ps none_again in
        let b = body_forms text ps t in_order in (
          record { name = title_in_text ps; declarations = o.0; body = b.0 },
          program_of ps o.0 b.0 in_order o.1 b.1,
        )

  module _ (declared : List (List ℕ)) (are : AreDeclared ss declared)
      (forms : AllByRecursion (HasSuitedForm (functions_but declared)) ss) where
    has : HavePlaces (functions_but declared) None ss
    has = places (functions_but declared) None ss forms

    of_text : AreStatementsOf text has.placed
    of_text = record { statements = ss; of_lines = of_lines; have_forms = has.have }

    calls : AllByRecursion (λ (p : Placed). SuitsCallsIn (functions_in has.placed) p.form) has.placed
    calls =
        subst (λ g. AllByRecursion (λ (p : Placed). SuitsCallsIn g p.form) has.placed)
        (sym (same_functions ss has.placed has.have declared are)) has.calls

    read : (q : Program) × Reads90 text q
    read =
        let p = program has.placed of_text in (
          p.0,
          record {
            conforms = record {
              statements = has.placed;
              of_text = of_text;
              calls = calls;
              is_program = p.1;
              unrefused = no_cause;
            };
            within = λ line h. clear (refusal_at Limit90 line) (ForNames line h);
          },
        )

  pub clear_is_read : ((q : Program) → Reads90 text q → ⊥) → ⊥
  clear_is_read k =
      names_declared ss (λ declared are.
      have_forms ss declared are formed (λ forms. let q = read declared are forms in k q.0 q.1))

-- ---- the laws

pub read_or_refused : TextIsReadOrRefused
read_or_refused text unread unrefused = clear_is_read text (unanswered (IsRefusable text) unrefused) unread

pub names_alone : NamesAloneAreRefused
names_alone = refused_for_names
