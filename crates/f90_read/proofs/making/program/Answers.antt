use Rattle.std.proofs.Common.{arith, map, refl}
use Rattle.tree.specs.View.{declaration_of, block_of}
use Rattle.f90_grammar.specs.Declared.{declarations_of, functions_in}
use Rattle.f90_read.proofs.ProgramLaws.{order, accepted, marks_taken, no_target_zero, is_program}
use Rattle.f90_read.proofs.StatementLaws.{ready, suited, fewer}
use Rattle.f90_read.proofs.making.program.Goals as goal

pub returns : goal.returns
returns c source ps t f clear =
    let s = t.of_text in
    let function = functions_in ps in
    let are_ready = ready source ps s c.args.functions.now f t.calls (fewer source 36 41 (omega arith) clear) in
    let are_suited = suited source ps s (fewer source 40 41 (omega arith) clear) in
    let treed = c.in_ok-trees.ensures ps (declarations_of ps) t.are are_ready are_suited in
    let made = c.in_ok-body.ensures function ps treed (order source ps s clear) (marks_taken source ps s clear)
    (no_target_zero source ps s clear) in
    is_program source ps s clear (map declaration_of c.in_ok-decls.decls) (block_of c.in_ok-body.body) function
    (c.in_ok-decls.ensures ps t.are (accepted source ps s clear)) (λ x. refl) made c.title-name.result
    (c.title-name.ensures ps t.are)
