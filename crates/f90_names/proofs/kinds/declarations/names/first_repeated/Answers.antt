use Rattle.std.proofs.Common.{arith, ◌≡◌, ◌<◌, ◌≤◌, true, false, IsTrue, length, take, sym, ◌∙◌, rules}
use Rattle.f90_grammar.specs.Declared.{declares_again}
use Rattle.f90_grammar.specs.Order.{Place90}
use Rattle.f90_names.proofs.kinds.OfDeclarations.EntryLaws.{entries_of, knows_more, again_at}
use Rattle.f90_names.proofs.kinds.OfDeclarations.PlaceLaws.{unmet, go_on, stop_at, never}
use Rattle.f90_names.proofs.kinds.declarations.names.first_repeated.Goals as goal

abbrev Again : Place90 → Type 0
Again p = IsTrue (declares_again p.before p.here.form)

pub loop-i-init : goal.loop-i-init
loop-i-init c = record { knows = c.new-names.ensures; unmet = λ ps h. unmet ps Again }

pub loop-i-preserved : goal.loop-i-preserved
loop-i-preserved c =
    let l : c.loop-i.i < length c.args.text.now = first_of (omega arith, search rules) in
    let k = c.index-text-i.result in
    let d = c.in_ok-declare_in.ensures (entries_of (take c.loop-i.i c.args.text.now)) c.loop-i.invariant.knows in
    record {
      knows = knows_more c.declare_in.new.self c.args.text.now c.loop-i.i k l c.index-text-i.is d.0;
      unmet = λ ps h.
          go_on c.args.text.now ps c.loop-i.i k Again l c.index-text-i.is h
          (λ q t again. let e =
          again_at c.args.text.now ps c.loop-i.i k _ q d.1 t in let f : c.in_ok-declare_in.field-0 ≡ false =
          first_of (cc, search rules) in cc)
          (c.loop-i.invariant.unmet ps h);
    }

pub returns-then-branch : goal.returns-then-branch
returns-then-branch c ps h =
    let l : c.loop-i.i < length c.args.text.now = first_of (omega arith, search rules) in
    let k = c.index-text-i.result in
    let d = c.in_ok-declare_in.ensures (entries_of (take c.loop-i.i c.args.text.now)) c.loop-i.invariant.knows in
    stop_at c.args.text.now ps c.loop-i.i k Again l c.index-text-i.is h
    (λ q t. let f : c.in_ok-declare_in.field-0 ≡ true =
    first_of (cc, search rules) in sym (again_at c.args.text.now ps c.loop-i.i k _ q d.1 t) ∙ f)
    (c.loop-i.invariant.unmet ps h)

pub returns : goal.returns
returns c ps h =
    let l : length c.args.text.now ≤ c.loop-i.i = first_of (omega arith, search rules) in
    never c.args.text.now ps Again c.loop-i.i l h (c.loop-i.invariant.unmet ps h)
