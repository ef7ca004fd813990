use Rattle.std.proofs.Common.{◌∷◌, ◌||◌, ◌+◌, map, drop, sym, ap, ◌∙◌, arith}
use Rattle.std.proofs.lemmas.Bool.{false≢true}
use Rattle.f77_names.specs.UsesView.{role_of, plain_use}
use Rattle.f77_names.specs.Seen.{seen_after, declares_again, is_again_by}
use Rattle.f77_names.proofs.SeenLaws.{behind_more, seen_more, seen_same}
use Rattle.f77_names.proofs.DeclarationLaws.{again_ahead, again_ends, seen_ends}
use Rattle.f77_names.proofs.names.Names.declares_again.Goals as goal

pub returns-then-is_again : goal.returns-then-is_again
returns-then-is_again c seen h = (
  sym (again_ahead c.loop-used.self seen (seen_after c.args.uses.now c.loop-used.used-index seen) c.args.uses.now c.loop-used.used-index c.used-item.result (omega arith) c.used-item.is
      (c.loop-used.invariant.seen seen h) (c.loop-used.invariant.again seen h)
      ∙ ap (λ b. b || declares_again (plain_use c.used-item.result ∷ (seen_after c.args.uses.now c.loop-used.used-index seen)) (map plain_use (drop (c.loop-used.used-index + 1) c.args.uses.now)))
      (ap (λ f. is_again_by f (role_of c.used-item.result.role)) (sym c.facts.ensures) ∙ sym c.is_again.ensures ∙ c.if-is_again.true)),
  λ e. absurd (false≢true (sym e)),
)

pub loop-used-preserved : goal.loop-used-preserved
loop-used-preserved c = record {
  seen = λ seen h.
      seen_same c.note.new.self
      (plain_use c.used-item.result ∷ (seen_after c.args.uses.now c.loop-used.used-index seen))
      (seen_after c.args.uses.now (c.loop-used.used-index + 1) seen)
      (sym (behind_more plain_use c.args.uses.now c.loop-used.used-index c.used-item.result seen (omega arith) c.used-item.is))
      (seen_more c.loop-used.self c.note.new.self (seen_after c.args.uses.now c.loop-used.used-index seen) c.used-item.result.name (role_of c.used-item.result.role) c.in_ok-note.ensures
      (c.loop-used.invariant.seen seen h));
  again = λ seen h.
      again_ahead c.loop-used.self seen (seen_after c.args.uses.now c.loop-used.used-index seen) c.args.uses.now c.loop-used.used-index c.used-item.result (omega arith) c.used-item.is
      (c.loop-used.invariant.seen seen h) (c.loop-used.invariant.again seen h)
      ∙ ap (λ b. b || declares_again (plain_use c.used-item.result ∷ (seen_after c.args.uses.now c.loop-used.used-index seen)) (map plain_use (drop (c.loop-used.used-index + 1) c.args.uses.now)))
      (ap (λ f. is_again_by f (role_of c.used-item.result.role)) (sym c.facts.ensures) ∙ sym c.is_again.ensures ∙ c.if-is_again.false)
      ∙ ap (λ us. declares_again us (map plain_use (drop (c.loop-used.used-index + 1) c.args.uses.now))) (sym (behind_more plain_use c.args.uses.now c.loop-used.used-index c.used-item.result seen (omega arith) c.used-item.is));
}

pub returns : goal.returns
returns c seen h = (
  again_ends seen (seen_after c.args.uses.now c.loop-used.used-index seen) c.args.uses.now c.loop-used.used-index c.loop-used-test.false (c.loop-used.invariant.again seen h),
  λ e. seen_ends c.loop-used.self seen c.args.uses.now c.loop-used.used-index c.loop-used-test.false (c.loop-used.invariant.seen seen h),
)
