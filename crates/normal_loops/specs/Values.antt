-- Statements in loops from 1 by 1: in them the variables of the loops have become linear forms of the counters.
use Rattle.std.specs.Prelude.{ℕ, List, [], ◌∷◌, ◌++◌}
use Rattle.rewrite.specs.Making.{Making}
use Rattle.rewrite.specs.Substituting.{substituting}
use Rattle.linear_forms.specs.Canonical.{canonising}
use Rattle.nest.specs.Plain.{Guarded}
use Rattle.nest_rewrite.specs.Statements.{rewritten_statement}
use Rattle.last_values.specs.normal_forms.NormalLoops.{counters_of}
use Rattle.last_values.specs.normal_forms.Texts.{variable_text}
use Rattle.last_values.specs.declared.normal_forms.loops.NormalLoop.{NormalLoop}

module _ (symbols : List (List ℕ)) where
  -- the variable of a loop under these loops becomes its value
  abbrev pub with_value : List NormalLoop → NormalLoop → Making
  with_value outer r = substituting r.variable (variable_text symbols outer r)

  -- what has counters of these loops is brought into canonical text
  abbrev pub in_text : List NormalLoop → Making
  in_text round = canonising (counters_of round) symbols

  -- the variable of each of these loops, the first of which stands under the loops `outer`
  abbrev pub statement_with_values : List NormalLoop → List NormalLoop → Guarded → Guarded
  statement_with_values outer [] s = s
  statement_with_values outer (r ∷ rs) s =
      statement_with_values (outer ++ r ∷ []) rs (rewritten_statement (with_value outer r) s)

  -- a statement in these loops
  unfoldable pub normal_statement : List NormalLoop → Guarded → Guarded
  normal_statement round s = rewritten_statement (in_text round) (statement_with_values [] round s)
