-- A text with findings has a first one, and a text without any is read as the tree that its statements form.
use Rattle.std.proofs.Common.{◌≡◌, ◌⊎◌, inl, inr, List, [], refl, Contains}
use Rattle.tree.specs.Plain.{Program}
use Rattle.tree.specs.declared.refusals.Refusal.{Refusal}
use Rattle.meaning.specs.Dialect.{Dialect}
use Rattle.reading.specs.refusal_order.Answered.{IsAnswered}
use Rattle.f77_grammar.specs.Statement77.{Labelled}
use Rattle.f77_grammar.specs.program.Program77.{ReadsStatements, RefusedStatements, findings}
use Rattle.f77_laws.specs.trees.Steps.{tree_of}
use Rattle.f77_grammar.proofs.Answered.{one_answer}
use Rattle.f77_grammar.proofs.programs.Least.{none_or_first, none_is_not_first}
use Rattle.f77_laws.proofs.trees.Trees.{tree_is_read, one_read}
use Rattle.f77_laws.proofs.trees.laws.text_is_read_or_refused.Goals as goal

either : (d : Dialect) (text : List Labelled) → (findings d text ≡ []) ⊎ ((r : Refusal) × IsAnswered (Contains (findings d text)) r)
    → ((p : Program) × ReadsStatements d text p) ⊎ ((r : Refusal) × RefusedStatements d text r)
either d text (inl e) = inl (tree_of d text, tree_is_read d text (tree_of d text) e refl)
either d text (inr f) = inr f

pub returns-clause-either : goal.returns-clause-either
returns-clause-either c = λ d text. either d text (none_or_first (findings d text))

pub returns-clause-not_both : goal.returns-clause-not_both
returns-clause-not_both c = λ d text p r reads refused. none_is_not_first (findings d text) r reads.sound refused

pub returns-clause-one_program : goal.returns-clause-one_program
returns-clause-one_program c = one_read

pub returns-clause-one_refusal : goal.returns-clause-one_refusal
returns-clause-one_refusal c = λ d text r s a b. one_answer (Contains (findings d text)) r s a b
