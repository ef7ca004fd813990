-- Each call in a printed program has arguments that may stand there.
use Rattle.std.proofs.Common.{ℕ, Option, List}
use Rattle.tree.specs.declared.functions.Intrinsic.{Intrinsic}
use Rattle.tree.specs.Plain as tree
use Rattle.tree.specs.Plain.{Declaration}
use Rattle.f90_grammar.specs.Phrases as phrases
use Rattle.f90_grammar.specs.Phrases.{Phrase90, SuitsCalls}
use Rattle.f90_grammar.specs.Contents.{VariableSuitsCalls}
use Rattle.f90_grammar.specs.Printing.{phrase_of}
use Rattle.f90_grammar.specs.Reading.{function_by}
use Rattle.f90_laws.proofs.printed.PrintedTrees.{printed_suits}
use Rattle.f90_laws.proofs.unrefused.PrintedForms.{EachForm}
use Rattle.f90_laws.proofs.unrefused.EachPhrase.{HasGoodPhrases, phrase_forms}

-- what stores into no function, and suits as an expression, suits
variable_suits : (function : List ℕ → Option Intrinsic) (p : Phrase90) → SuitsCalls function p → VariableSuitsCalls function p
variable_suits function (phrases.Listed x ps) h = h.1
variable_suits function (phrases.Name x) h = tt
variable_suits function p h = tt

pub called_forms : (ds : List Declaration) → EachForm ds (HasGoodPhrases (SuitsCalls (function_by ds)) (VariableSuitsCalls (function_by ds)))
called_forms ds = phrase_forms (SuitsCalls (function_by ds)) (VariableSuitsCalls (function_by ds)) ds (record {
  value = λ e k h. printed_suits ds e k h;
  variable = λ x ss k h. variable_suits (function_by ds) (phrase_of (tree.Named x ss)) (printed_suits ds (tree.Named x ss) k h);
})
