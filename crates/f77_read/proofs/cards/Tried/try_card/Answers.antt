use Rattle.std.proofs.Common.{◌≡◌, [], ◌∷◌, ◌++◌, sym, subst, rules}
use Rattle.tree.specs.declared.refusals.Refused.TheVariants as refused
use Rattle.f77_cards.specs.Card.{card_of}
use Rattle.f77_grammar.specs.syntax.Views.{text_of}
use Rattle.f77_checks.specs.Outcomes.{IfRefusal}
use Rattle.f77_read.specs.Cards.{IsRefusedAlone, AreTried, IsRefusedFirst}
use Rattle.f77_read.proofs.CardLaws.{tried_read, tried_refused}
use Rattle.f77_read.proofs.cards.Tried.try_card.Goals as goal

pub returns-in_ok-push-in-Ok : goal.returns-in_ok-push-in-Ok
returns-in_ok-push-in-Ok c = λ cards a.
    let before = c.args.self.now in
    let card = card_of c.args.card.now in
    let e : c.push.new.self ≡ before.statements ++ c.in-Ok.statement ∷ [] = search rules in
    subst (λ xs. AreTried (cards ++ card ∷ []) (text_of xs) before.refusal) (sym e) (tried_read cards before.statements before.refusal card c.in-Ok.statement a c.in-Ok.ensures)

pub returns-in-Err-Refusal : goal.returns-in-Err-Refusal
returns-in-Err-Refusal c = λ cards a.
    let before = c.args.self.now in
    let card = card_of c.args.card.now in
    let e : c.in-Err-Refusal.field-0 ≡ refused.Refusal c.in-Err-Refusal.refusal = cc in
    subst (λ r. IsRefusedFirst (cards ++ card ∷ []) r) (sym c.first.ensures)
    (tried_refused cards (text_of before.statements) before.refusal card c.in-Err-Refusal.refusal a
    (subst (λ x. IfRefusal x (IsRefusedAlone card)) e c.in-Err-Refusal.ensures))
