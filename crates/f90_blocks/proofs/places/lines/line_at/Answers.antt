use Rattle.std.proofs.Common.{arith, ◌≡◌, ◌<◌, ◌≤◌, Some, length, get_or, ap, rules}
use Rattle.f90_blocks.proofs.places.Walks.{beyond, line_is}
use Rattle.f90_blocks.proofs.places.lines.line_at.Goals as goal

pub returns-in_err-placed : goal.returns-in_err-placed
returns-in_err-placed c ps p a i e =
    let l : length c.args.text.now ≤ c.args.place = omega (arith, c.in_err-placed.ensures.lookup) in
    absurd (beyond c.args.text.now ps c.args.place p a l i e)

pub returns : goal.returns
returns c ps p a i e =
    let l : c.args.place < length c.args.text.now = omega (arith, c.in_ok-placed.ensures.lookup) in
    let g : get_or c.args.text.now c.args.place c.in_ok-placed.placed.now ≡ c.in_ok-placed.placed.now
    = first_of (cc, search rules, grind arith) in
    ap (λ n. Some n) (line_is c.args.text.now ps c.args.place c.in_ok-placed.placed.now p a l g i e)
