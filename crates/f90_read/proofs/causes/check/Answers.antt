use Rattle.std.proofs.lemmas.Result.{err_from_is_err_and}
use Rattle.f90_read.proofs.causes.check.Goals as goal

pub returns-in_err-check_literals : goal.returns-in_err-check_literals
returns-in_err-check_literals c source ps k clear =
    let p = err_from_is_err_and c.from_residual.result c.from_residual.ensures.1 in
    rw (p.1, p.2) (c.in_err-check_literals.ensures source ps k.is_text clear)

pub returns-in_err-check_depth : goal.returns-in_err-check_depth
returns-in_err-check_depth c source ps k clear =
    let p = err_from_is_err_and c.from_residual-in_err-check_depth.result
    c.from_residual-in_err-check_depth.ensures.1 in
    let a = c.in_ok-check_literals.ensures source ps k.is_text clear in
    rw (p.1, p.2) (c.in_err-check_depth.ensures source ps k.is_text a)

pub returns-in_err-check_structure : goal.returns-in_err-check_structure
returns-in_err-check_structure c source ps k clear =
    let p = err_from_is_err_and c.from_residual-in_err-check_structure.result
    c.from_residual-in_err-check_structure.ensures.1 in
    let a = c.in_ok-check_literals.ensures source ps k.is_text clear in
    let b = c.in_ok-check_depth.ensures source ps k.is_text a in
    rw (p.1, p.2) (c.in_err-check_structure.ensures source ps k.is_text k.are_names b)

pub returns-in_err-check_names : goal.returns-in_err-check_names
returns-in_err-check_names c source ps k clear =
    let p = err_from_is_err_and c.from_residual-in_err-check_names.result
    c.from_residual-in_err-check_names.ensures.1 in
    let a = c.in_ok-check_literals.ensures source ps k.is_text clear in
    let b = c.in_ok-check_depth.ensures source ps k.is_text a in
    let d = c.in_ok-check_structure.ensures source ps k.is_text k.are_names b in
    rw (p.1, p.2) (c.in_err-check_names.ensures source ps k d)

pub returns-in_err-check_kinds : goal.returns-in_err-check_kinds
returns-in_err-check_kinds c source ps k clear =
    let p = err_from_is_err_and c.from_residual-in_err-check_kinds.result
    c.from_residual-in_err-check_kinds.ensures.1 in
    let a = c.in_ok-check_literals.ensures source ps k.is_text clear in
    let b = c.in_ok-check_depth.ensures source ps k.is_text a in
    let d = c.in_ok-check_structure.ensures source ps k.is_text k.are_names b in
    let e = c.in_ok-check_names.ensures source ps k d in
    rw (p.1, p.2) (c.in_err-check_kinds.ensures source ps k e)

pub returns : goal.returns
returns c source ps k clear =
    let a = c.in_ok-check_literals.ensures source ps k.is_text clear in
    let b = c.in_ok-check_depth.ensures source ps k.is_text a in
    let d = c.in_ok-check_structure.ensures source ps k.is_text k.are_names b in
    let e = c.in_ok-check_names.ensures source ps k d in
    let f = c.in_ok-check_kinds.ensures source ps k e in
    c.check_limits.ensures source ps k.is_text f
