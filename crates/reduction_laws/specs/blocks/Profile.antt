-- Programs of the profile in which loops that gather have their forms.
use Rattle.std.specs.Prelude.{◌+◌, ◌≤◌}
use Rattle.tree.specs.Limits as limits
use Rattle.tree.specs.Plain.{Program}
use Rattle.meaning.specs.Profile90.{IsProgram90}
use Rattle.rewrite.specs.Profile.{deepest_in}
use Rattle.reductions.specs.Finding.{context_of}
use Rattle.reductions.specs.Reduced.{reduced_block}

-- a form is at most four deeper than its loop: the function, the constructor with its loop, and the operator round them
abbrev pub ReducedIsProgram : Type 0
ReducedIsProgram = (p : Program) → IsProgram90 p → deepest_in p.body + 4 ≤ limits.expression_depth90
    → IsProgram90 (record p { body = reduced_block (context_of p) p.body })
