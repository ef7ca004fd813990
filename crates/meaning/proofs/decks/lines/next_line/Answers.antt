use Rattle.std.proofs.Common.{rules, ◌≡◌, ◌∙◌, [], ap, sym, subst, List, ℕ}
use Rattle.std.specs.List.{AllByRecursion}
use Rattle.std.specs.Option.{option_copied}
use Rattle.meaning.specs.decks.FirstLine.{IsFirstLine, joined_at}
use Rattle.meaning.proofs.decks.FirstLines.{Lacks10, lone_line, cut_line}
use Rattle.meaning.proofs.decks.lines.next_line.Goals as goal

pub returns-in-Some : goal.returns-in-Some
returns-in-Some c =
    subst (λ (line : List ℕ). IsFirstLine c.args.text.now line c.in-Some.rest.now) (sym c.without_return.ensures)
    (cut_line c.args.text.now c.cut.result.0.now c.in-Some.rest.now c.cut.ensures.none_before
    (c.cut.ensures.whole ∙ ap (λ o. joined_at 10 c.cut.result.0.now (option_copied o)) c.in-Some.is))

pub returns-in-None : goal.returns-in-None
returns-in-None c =
    let e : c.args.text.now ≡ c.cut.result.0.now = c.cut.ensures.whole ∙ ap (λ o. joined_at 10 c.cut.result.0.now (option_copied o)) c.in-None.is in
    let some : (c.args.text.now ≡ [] → ⊥) = search rules in
    subst (λ (line : List ℕ). IsFirstLine c.args.text.now line []) e
    (lone_line c.args.text.now some (subst Lacks10 (sym e) c.cut.ensures.none_before))
