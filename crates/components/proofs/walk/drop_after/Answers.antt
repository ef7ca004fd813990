use Rattle.std.proofs.Common.{◌<◌, ◌≤◌, subst, sym, arith, Some}
use Rattle.components.specs.Walking.{IsLast}
use Rattle.components.proofs.Parts.{all_up_to, fewer_by_one, In-without, rising_without, without-In}
use Rattle.components.specs.Lists.{IsMember, Pairwise}
use Rattle.components.proofs.walk.drop_after.Goals as goal

pub returns-then-last-place : goal.returns-then-last-place
returns-then-last-place c =
    let split = subst (IsLast (Some c.in-Some.last)) c.as_slice.ensures.value c.in-Some.ensures in
    record {
      rising = c.dropping.invariant.rising;
      from = λ b i. (c.dropping.invariant.from b i, all_up_to c.dropping.starts.items c.in-Some.last split c.args.place c.dropping.invariant.rising (omega arith) b i);
      kept = c.dropping.invariant.kept;
      fewer = c.dropping.invariant.fewer;
    }

pub dropping-preserved : goal.dropping-preserved
dropping-preserved c =
    let split = subst (IsLast (Some c.in-Some.last)) c.as_slice.ensures.value c.in-Some.ensures in
    let starts = c.dropping.starts.items in
    let e = sym c.drop_last.ensures in
    let more : c.args.place < c.in-Some.last.0 = omega arith in
    record {
      rising = subst (Pairwise (λ b c. b.0 < c.0)) e (rising_without starts c.in-Some.last split c.dropping.invariant.rising);
      from = λ b i. c.dropping.invariant.from b (without-In starts c.in-Some.last split b (subst (IsMember b) (sym e) i));
      kept = λ b i h. subst (IsMember b) e (In-without starts c.in-Some.last split b (c.dropping.invariant.kept b i h) (omega arith));
      fewer = let a = fewer_by_one starts c.in-Some.last split in let b = c.dropping.invariant.fewer in
          subst (λ z. Rattle.std.specs.Prelude.length z ≤ Rattle.std.specs.Prelude.length c.args.starts.now.items) e (omega arith);
    }
