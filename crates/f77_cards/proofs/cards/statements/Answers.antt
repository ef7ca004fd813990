use Rattle.std.proofs.Common.{◌≡◌, None, Some, sym, ◌∙◌, inl}
use Rattle.f77_grammar.proofs.CardCauses.{refusal_of, refusal_of-Some}
use Rattle.f77_grammar.proofs.CardLaws.{ReadsCards-from_grouped, grouped_from_ReadsCards, unrefused, refused}
use Rattle.f77_cards.proofs.ReadCards.{none_left}
use Rattle.f77_cards.proofs.cards.statements.Goals as goal

-- the answer is that of the text
is_refused : (c : goal.In-Some) → refusal_of c.args.text.now ≡ Some c.in-Some.refusal
is_refused c = cc

pub returns-in-Some-clause-refused : goal.returns-in-Some-clause-refused
returns-in-Some-clause-refused c = λ r e. refusal_of-Some c.args.text.now r (let h = is_refused c in cc)

pub returns-in-Some-clause-only_read : goal.returns-in-Some-clause-only_read
returns-in-Some-clause-only_read c = λ cards h. absurd (let e = is_refused c in let f = unrefused c.args.text.now cards h in cc)

pub returns-in-Some-clause-only_refused : goal.returns-in-Some-clause-only_refused
returns-in-Some-clause-only_refused c = λ r h. inl (let e = is_refused c in let f = refused c.args.text.now r h in cc)

is_not_refused : (c : goal.In_ok-read_cards) → refusal_of c.args.text.now ≡ None
is_not_refused c = sym c.refusal.ensures ∙ none_left c.refusal.result c.in_default.not-Some

pub returns-clause-ok : goal.returns-clause-ok
returns-clause-ok c = ReadsCards-from_grouped c.args.text.now _ (is_not_refused c) c.in_ok-read_cards.ensures

pub returns-clause-only_read : goal.returns-clause-only_read
returns-clause-only_read c = λ cards h. inl (c.in_ok-read_cards.ensures ∙ grouped_from_ReadsCards c.args.text.now cards h)

pub returns-clause-only_refused : goal.returns-clause-only_refused
returns-clause-only_refused c = λ r h. absurd (let e = is_not_refused c in let f = refused c.args.text.now r h in cc)
