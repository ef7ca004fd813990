use Rattle.std.proofs.lemmas.Result.{err_from_is_err_and}
use Rattle.tree.specs.View.{program_of_90}
use Rattle.f90_read.proofs.TextLaws.{clear_is_read, with_names}
use Rattle.f90_read.proofs.texts.read_placed.Goals as goal

pub returns-in_err-check : goal.returns-in_err-check
returns-in_err-check c source ps t clear =
    let p = err_from_is_err_and c.from_residual-in_err-check.result c.from_residual-in_err-check.ensures.1 in
    let k = with_names source ps c.args.text.now c.in_ok-functions.functions c.in_ok-names.names t
    (c.in_ok-functions.ensures ps t.are) (c.in_ok-names.ensures ps t.are) in
    rw (p.1, p.2) (c.in_err-check.ensures source ps k clear)

pub returns : goal.returns
returns c source ps t clear =
    let f = c.in_ok-functions.ensures ps t.are in
    let k = with_names source ps c.args.text.now c.in_ok-functions.functions c.in_ok-names.names t f
    (c.in_ok-names.ensures ps t.are) in
    let all = c.in_ok-check.ensures source ps k clear in
    clear_is_read source ps c.args.text.now (program_of_90 c.in_ok-program.field-0) t all
    (c.in_ok-program.ensures source ps t f all)
