use Rattle.std.proofs.Common.{arith, ◌≡◌, ◌<◌, ◌≤◌, true, false, length, rules}
use Rattle.f90_names.proofs.kinds.OfDeclarations.PlaceLaws.{unmet, go_on, stop_at, never}
use Rattle.f90_names.proofs.kinds.OfDeclarations.OrderLaws.{IsBeyond}
use Rattle.f90_names.proofs.kinds.declarations.limits.first_beyond_bounds.Goals as goal

pub loop-i-init : goal.loop-i-init
loop-i-init c = record { unmet = λ ps a. unmet ps IsBeyond }

pub loop-i-preserved : goal.loop-i-preserved
loop-i-preserved c =
    let l : c.loop-i.i < length c.args.text.now = first_of (omega arith, search rules) in
    let within : c.has_bounds.result ≡ true = first_of (cc, search rules) in
    record {
      unmet = λ ps a.
          go_on c.args.text.now ps c.loop-i.i c.index-text-i.result IsBeyond l c.index-text-i.is a
          (λ q t m. m ((c.has_bounds.ensures q.here.form t.of_here.is).0 within))
          (c.loop-i.invariant.unmet ps a);
    }

pub returns-then-not-has_bounds : goal.returns-then-not-has_bounds
returns-then-not-has_bounds c ps a =
    let l : c.loop-i.i < length c.args.text.now = first_of (omega arith, search rules) in
    let beyond : c.has_bounds.result ≡ false = first_of (cc, search rules) in
    stop_at c.args.text.now ps c.loop-i.i c.index-text-i.result IsBeyond l c.index-text-i.is a
    (λ q t h. let within : c.has_bounds.result ≡ true = (c.has_bounds.ensures q.here.form t.of_here.is).1 h in absurd
    (cc)) (c.loop-i.invariant.unmet ps a)

pub returns : goal.returns
returns c ps a =
    let l : length c.args.text.now ≤ c.loop-i.i = first_of (omega arith, search rules) in
    never c.args.text.now ps IsBeyond c.loop-i.i l a (c.loop-i.invariant.unmet ps a)
