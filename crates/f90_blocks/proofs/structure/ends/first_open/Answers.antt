use Rattle.std.proofs.Common.{◌≡◌, ℕ, ◌-◌, nat_lt, false, length, sym, subst, arith}
use Rattle.std.proofs.lemmas.Bool.Decides.{nat_tests}
use Rattle.f90_grammar.specs.Forms.{Form90}
use Rattle.f90_blocks.specs.declared.places.forms.placing.Placed.{Placed as Made}
use Rattle.f90_statement.specs.Views.{IsStatementOf}
use Rattle.f90_blocks.specs.structure.Ends.{AreFree}
use Rattle.f90_blocks.proofs.structure.Walks.{begun_back, stepped_back, ended_back}
use Rattle.f90_blocks.proofs.structure.ends.first_open.Goals as goal

none_below : (n : ℕ) → false ≡ nat_lt n 0
none_below n = grind (arith, nat_tests)

statement_at : {x y : Made} (f : Form90) → x ≡ y → IsStatementOf x.statement f → IsStatementOf y.statement f
statement_at f e h = subst (λ (z : Made). IsStatementOf z.statement f) e h

pub loop-i-init : goal.loop-i-init
loop-i-init c = record {
  within = omega arith;
  few_ifs = omega arith;
  few_loops = omega arith;
  walked = λ ps a.
      begun_back _ (AreFree (record { ifs = 0; loops = 0 })) c.args.text.now ps (length c.args.text.now) (omega arith) a
      (record { ifs = none_below; loops = none_below });
}

pub loop-i-preserved : goal.loop-i-preserved
loop-i-preserved c = record {
  within = omega arith;
  few_ifs = omega arith;
  few_loops = omega arith;
  walked = λ ps a.
      stepped_back _ (AreFree c.loop-i.ends) c.args.text.now ps (AreFree c.before-ends.result) (c.loop-i.i - 1)
      c.loop-i.i c.index-text-i.result c.leave_open.result c.loop-i.found c.here_if-found.result (omega arith)
      (sym c.index-text-i.is) a (omega arith) c.here_if-found.ensures
      (λ p here n is b. c.leave_open.ensures p.here.form p.after (statement_at p.here.form c.index-text-i.is is.is) b)
      (λ after p is b. c.before-ends.ensures.free after p (statement_at p.form c.index-text-i.is is.is) b)
      (c.loop-i.invariant.walked ps a);
}

pub returns : goal.returns
returns c ps a =
    ended_back _ (AreFree c.loop-i.ends) c.args.text.now ps c.loop-i.i c.loop-i.found c.loop-i-test.false
    (c.loop-i.invariant.walked ps a)
