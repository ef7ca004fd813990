use Rattle.std.proofs.Common.{◌≡◌, refl, sym, ap, ◌∙◌, subst, ℕ, ◌+◌, ◌<◌, length, List, [], ◌∷◌, ◌++◌, take, drop, get_or, arith}
use Rattle.std.specs.List.{flat_map}
use Rattle.std.proofs.lemmas.Grind.{flat_map-append}
use Rattle.std.proofs.lemmas.List.Concat.{flat_map-cons}
use Rattle.std.proofs.lemmas.List.Folds.{flat_map-map}
use Rattle.std.proofs.lemmas.List.{take-append-drop, drop_more}
use Rattle.streams.specs.Streams.{Gives, GivesPart}
use Rattle.streams.proofs.Chained.{gives_none}
use Rattle.tree.specs.Plain.{Declaration, Program}
use Rattle.tree.specs.View.{declaration_of}
use Rattle.tree.specs.declared.programs.Decl.{Decl}
use Rattle.meaning.specs.Steps.{lines_of_name, final_lines}
use Rattle.machine.proofs.Residuals.{residual}
use Rattle.machine.proofs.LineLaws.{lines_more, lines_part, lines_all}
use Rattle.machine.proofs.Telling.{nothing_in_front, nothing_behind}
use Rattle.run90.specs.declared.programs.Machine90.{Machine90}
use Rattle.run90.specs.Machine.{IsMachineOf, store_left}
use Rattle.tree.specs.declared.width.Width.{Width}
use Rattle.run90.proofs.programs.Machine90.show.Goals as goal

-- the lines of the program's names are those of the declarations here
all_lines : (w : Width) (p : Program) (m : Machine90) (ds : List Decl) → ds ≡ m.decls → IsMachineOf w p m → final_lines p (store_left m) ≡ flat_map (λ (d : Decl). lines_of_name d.name (store_left m)) ds
all_lines w p m ds e is =
    ap (flat_map (λ (d : Declaration). lines_of_name d.name (store_left m))) (sym is.names)
    ∙ flat_map-map (λ (d : Declaration). lines_of_name d.name (store_left m)) declaration_of m.decls
    ∙ ap (flat_map (λ (d : Decl). lines_of_name d.name (store_left m))) (sym e)

-- without lines none is that of one name
lines_nothing : {X : Type 0} (f : X → List ℕ) (vs : List X) (i : ℕ) (v : X) → i < length vs → v ≡ get_or vs i v → flat_map f vs ≡ [] → f v ≡ []
lines_nothing f vs i v l e h =
    let rest = drop (i + 1) vs in
    let split : vs ≡ take i vs ++ (v ∷ rest) = sym (take-append-drop i vs) ∙ ap (λ ws. take i vs ++ ws) (drop_more vs i v l ∙ ap (λ w. w ∷ rest) (sym e)) in
    let parts = ap (flat_map f) split ∙ flat_map-append f (take i vs) (v ∷ rest) ∙ ap (λ t. flat_map f (take i vs) ++ t) (flat_map-cons f v rest) in
    nothing_in_front (f v) (flat_map f rest) (nothing_behind (flat_map f (take i vs)) (f v ++ flat_map f rest) (sym parts ∙ h))

pub returns-in_err-show_name-clause-text : goal.returns-in_err-show_name-clause-text
returns-in_err-show_name-clause-text g c = λ w p is.
    let m = c.args.self.now in
    let ds = c.as_slice-decl-items.result.now in
    rw (residual c.from_residual.ensures.1)
    (subst (λ t. GivesPart (g.K.Sink.taken c.args.out.now) t (g.K.Sink.taken c.show_name.new.out)) (sym (all_lines w p m ds c.as_slice-decl-items.ensures is))
    (lines_part (λ (d : Decl). lines_of_name d.name (store_left m)) ds c.loop-decl.decl-index c.decl-item.result _ _ _ (omega (arith, c.loop-decl-test.true)) c.decl-item.is c.loop-decl.invariant.0 c.in_err-show_name.ensures.text))

pub loop-decl-init : goal.loop-decl-init
loop-decl-init g c = (gives_none (g.K.Sink.taken c.args.out.now), refl, λ e. refl)

pub loop-decl-preserved : goal.loop-decl-preserved
loop-decl-preserved g c =
    let m = c.args.self.now in (
      lines_more (λ (d : Decl). lines_of_name d.name (store_left m)) c.as_slice-decl-items.result.now c.loop-decl.decl-index c.decl-item.result _ _ _ (omega (arith, c.loop-decl-test.true)) c.decl-item.is c.loop-decl.invariant.0 c.in_ok-show_name.ensures.text,
      c.in_ok-show_name.ensures.no_fault ∙ c.loop-decl.invariant.1,
      λ e. c.show_name.ensures.untouched (lines_nothing (λ (d : Decl). lines_of_name d.name (store_left m)) c.as_slice-decl-items.result.now c.loop-decl.decl-index c.decl-item.result (omega (arith, c.loop-decl-test.true)) c.decl-item.is e)
          ∙ c.loop-decl.invariant.2 e,
    )

pub returns-clause-text : goal.returns-clause-text
returns-clause-text g c = λ w p is.
    let m = c.args.self.now in
    let ds = c.as_slice-decl-items.result.now in
    subst (λ t. Gives (g.K.Sink.taken c.args.out.now) t (g.K.Sink.taken c.loop-decl.out)) (sym (all_lines w p m ds c.as_slice-decl-items.ensures is))
    (lines_all (λ (d : Decl). lines_of_name d.name (store_left m)) ds c.loop-decl.decl-index _ _ (omega (arith, c.loop-decl-test.false)) c.loop-decl.invariant.0)

pub returns-in_err-show_name-clause-untouched : goal.returns-in_err-show_name-clause-untouched
returns-in_err-show_name-clause-untouched g c = λ w p is e.
    let m = c.args.self.now in
    let ds = c.as_slice-decl-items.result.now in
    let none = sym (all_lines w p m ds c.as_slice-decl-items.ensures is) ∙ e in
    c.show_name.ensures.untouched (lines_nothing (λ (d : Decl). lines_of_name d.name (store_left m)) ds c.loop-decl.decl-index c.decl-item.result (omega (arith, c.loop-decl-test.true)) c.decl-item.is none)
    ∙ c.loop-decl.invariant.2 none

pub returns-clause-untouched : goal.returns-clause-untouched
returns-clause-untouched g c = λ w p is e.
    c.loop-decl.invariant.2 (sym (all_lines w p c.args.self.now c.as_slice-decl-items.result.now c.as_slice-decl-items.ensures is) ∙ e)
