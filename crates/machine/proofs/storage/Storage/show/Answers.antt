use Rattle.std.proofs.Common.{◌∙◌, subst, ℕ, List}
use Rattle.std.specs.List.{flat_map}
use Rattle.std.specs.Map.{keys_of}
use Rattle.streams.specs.Streams.{Gives, GivesPart}
use Rattle.meaning.specs.Steps.{lines_of_name}
use Rattle.machine.specs.Stored.{store_in}
use Rattle.machine.proofs.Residuals.{residual}
use Rattle.machine.proofs.LineLaws.{HasLeft, left_less, left_none, left_nothing, left_part, table_lines}
use Rattle.machine.proofs.storage.Storage.show.Goals as goal

pub returns-in_err-show_name-clause-text : goal.returns-in_err-show_name-clause-text
returns-in_err-show_name-clause-text g c =
    let s = c.args.self.now in
    let lines : List ℕ → List ℕ = λ x. lines_of_name x (store_in s) in
    let text : List ℕ = flat_map lines (keys_of s.variables.entries) in
    let left = subst (λ xs. HasLeft lines text xs (g.K.Sink.taken c.args.out.now) (g.K.Sink.taken c.loop-name.out)) c.in-Some.ensures.steps c.loop-name.invariant.0 in
    rw (residual c.from_residual.ensures.1)
    (subst (λ t. GivesPart (g.K.Sink.taken c.args.out.now) t (g.K.Sink.taken c.show_name.new.out))
    (table_lines lines s.variables.entries s.named)
    (left_part lines text _ c.in-Some.name.now c.next.new.self _ _ left c.in_err-show_name.ensures.text))

pub returns-clause-text : goal.returns-clause-text
returns-clause-text g c =
    let s = c.args.self.now in
    let lines : List ℕ → List ℕ = λ x. lines_of_name x (store_in s) in
    let text : List ℕ = flat_map lines (keys_of s.variables.entries) in
    let left = subst (λ xs. HasLeft lines text xs (g.K.Sink.taken c.args.out.now) (g.K.Sink.taken c.loop-name.out)) c.in-None.ensures.steps.0 c.loop-name.invariant.0 in
    subst (λ t. Gives (g.K.Sink.taken c.args.out.now) t (g.K.Sink.taken c.loop-name.out))
    (table_lines lines s.variables.entries s.named)
    (left_none lines text _ _ left)

pub loop-name-preserved : goal.loop-name-preserved
loop-name-preserved g c =
    let s = c.args.self.now in
    let lines : List ℕ → List ℕ = λ x. lines_of_name x (store_in s) in
    let text : List ℕ = flat_map lines (keys_of s.variables.entries) in
    let left = subst (λ xs. HasLeft lines text xs (g.K.Sink.taken c.args.out.now) (g.K.Sink.taken c.loop-name.out)) c.in-Some.ensures.steps c.loop-name.invariant.0 in (
      left_less lines text _ c.in-Some.name.now c.next.new.self _ _ left c.in_ok-show_name.ensures.text,
      c.in_ok-show_name.ensures.no_fault ∙ c.loop-name.invariant.1,
      λ e. c.show_name.ensures.untouched (left_nothing lines text _ c.in-Some.name.now c.next.new.self _ left e) ∙ c.loop-name.invariant.2 e,
    )

pub returns-in_err-show_name-clause-untouched : goal.returns-in_err-show_name-clause-untouched
returns-in_err-show_name-clause-untouched g c = λ e.
    let s = c.args.self.now in
    let lines : List ℕ → List ℕ = λ x. lines_of_name x (store_in s) in
    let text : List ℕ = flat_map lines (keys_of s.variables.entries) in
    let left = subst (λ xs. HasLeft lines text xs (g.K.Sink.taken c.args.out.now) (g.K.Sink.taken c.loop-name.out)) c.in-Some.ensures.steps c.loop-name.invariant.0 in
    let none = table_lines lines s.variables.entries s.named ∙ e in
    c.show_name.ensures.untouched (left_nothing lines text _ c.in-Some.name.now c.next.new.self _ left none) ∙ c.loop-name.invariant.2 none

pub returns-clause-untouched : goal.returns-clause-untouched
returns-clause-untouched g c = λ e.
    let s = c.args.self.now in
    let lines : List ℕ → List ℕ = λ x. lines_of_name x (store_in s) in
    c.loop-name.invariant.2 (table_lines lines s.variables.entries s.named ∙ e)
