use Rattle.std.proofs.Common.{◌≡◌, ℕ, List, [], refl, ap, ◌∙◌, subst}
use Rattle.tree.specs.Plain.{Program}
use Rattle.tool.specs.Decks.{Reads}
use Rattle.tool.specs.Running.{text_of_run}
use Rattle.tool.specs.Works.{Works}
use Rattle.tool.proofs.Passed.{passed_works}
use Rattle.tool.proofs.Worked.{told, of_all, unread, worked}
use Rattle.tool.proofs.run_on_deck.Goals as goal

pub returns-in-Err-clause-ends : goal.returns-in-Err-clause-ends
returns-in-Err-clause-ends g c = unread c.args.command _ _ _ _ _ _ _ _ c.in-Err.outcome c.most_bytes.ensures c.in-Err.ensures.unread

pub returns-in-Err-clause-textless : goal.returns-in-Err-clause-textless
returns-in-Err-clause-textless g c runs held =
    of_all (λ (bytes : List ℕ). (p : Program) → Reads c.args.command bytes p → text_of_run c.args.command bytes p ≡ [] → c.args.out.now ≡ c.args.out.now) _ (λ bytes p reads none. refl)

pub returns-clause-ends : goal.returns-clause-ends
returns-clause-ends g c =
    worked c.args.command _ _ _ (g.S.Source.faults c.args.deck.now) (g.S.Source.faults c.read_deck.new.deck) c.in-Ok.bytes.items c.passed_on.result c.in-Ok.ensures.whole c.in-Ok.ensures.end
    (subst (λ (bytes : List ℕ). Works c.args.command bytes (record {
      before = g.K.Sink.taken c.args.out.now;
      now = g.K.Sink.taken c.passed_on.new.out;
      faults_before = g.K.Sink.faults c.args.out.now;
      faults_now = g.K.Sink.faults c.passed_on.new.out;
    }) c.passed_on.result) c.as_slice.ensures.value
    (passed_works c.args.command c.as_slice.result.now _ _ _ _ _ _ c.run_on_bytes-outcome.result c.passed_on.result c.passed_on.ensures.taken c.run_on_bytes-outcome.ensures.later c.passed_on.ensures.later
    c.passed_on.ensures.outcome c.passed_on.ensures.fault c.run_on_bytes-outcome.ensures.works))

pub returns-clause-textless : goal.returns-clause-textless
returns-clause-textless g c runs held =
    told (λ (bytes : List ℕ). (p : Program) → Reads c.args.command bytes p → text_of_run c.args.command bytes p ≡ [] → c.passed_on.new.out ≡ c.args.out.now)
    _ c.in-Ok.bytes.items _ c.in-Ok.ensures.whole c.in-Ok.ensures.end
    (subst (λ (bytes : List ℕ). (p : Program) → Reads c.args.command bytes p → text_of_run c.args.command bytes p ≡ [] → c.passed_on.new.out ≡ c.args.out.now) c.as_slice.ensures.value
    (λ p reads none.
    let same : c.run_on_bytes-outcome.new.out ≡ c.args.out.now = c.run_on_bytes-outcome.ensures.textless runs p reads none in
    (c.passed_on.ensures.untouched (ap g.K.Sink.held same ∙ held)).1 ∙ same))
