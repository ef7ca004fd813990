use Rattle.std.proofs.Common.{◌≡◌, ◌∙◌, ◌++◌, sym, subst, true, false, [], None, length, rules, arith}
use Rattle.tree.specs.declared.exprs.Ref.{out-Ref}
use Rattle.linear_forms.specs.Linear.{limited}
use Rattle.linear_forms.specs.Affines.{IsFound}
use Rattle.linear_forms.proofs.Units.{bare_name, element_name, loop_named, symbol_named, neither_named}
use Rattle.linear_forms.proofs.forms.name_form.Goals as goal

pub returns-then-not-is_empty : goal.returns-then-not-is_empty
returns-then-not-is_empty c =
    let names = c.args.loops.now ++ c.args.symbols.now in
    let n = length c.args.loops.now in
    let empty : c.is_empty.result ≡ false = search rules in
    let full : (out-Ref c.args.item.now).subs ≡ [] → ⊥ = (λ e. let t = c.is_empty.ensures.1 e in let q : false ≡ true = sym empty ∙ t in cc) in
    λ few many. subst (λ o. IsFound n (limited n o) None) (sym (element_name c.args.item.now names full)) tt

pub returns-in-Some : goal.returns-in-Some
returns-in-Some c =
    let names = c.args.loops.now ++ c.args.symbols.now in
    let n = length c.args.loops.now in
    let empty : c.is_empty.result ≡ true = search rules in
    let bare = bare_name c.args.item.now names (c.is_empty.ensures.0 empty) in
    let p = loop_named (out-Ref c.args.item.now).name c.args.loops.now c.args.symbols.now c.in-Some.at (sym c.in-Some.is ∙ c.place.ensures) in
    λ few many. subst (λ o. IsFound n (limited n o) c.loop_form.result) (sym (bare ∙ p.0)) (c.loop_form.ensures n few p.1)

pub returns-in-Some-place : goal.returns-in-Some-place
returns-in-Some-place c =
    let names = c.args.loops.now ++ c.args.symbols.now in
    let n = length c.args.loops.now in
    let empty : c.is_empty.result ≡ true = search rules in
    let bare = bare_name c.args.item.now names (c.is_empty.ensures.0 empty) in
    let gone : c.place.result ≡ None = search rules in
    let p = symbol_named (out-Ref c.args.item.now).name c.args.loops.now c.args.symbols.now c.in-Some-place.at (sym gone ∙ c.place.ensures) (sym c.in-Some-place.is ∙ c.place-2.ensures) in
    let within = p.1 in
    λ few many. subst (λ o. IsFound n (limited n o) c.symbol_form.result) (sym (bare ∙ p.0)) (c.symbol_form.ensures n (omega (arith, within, many)))

pub returns-in-None : goal.returns-in-None
returns-in-None c =
    let names = c.args.loops.now ++ c.args.symbols.now in
    let n = length c.args.loops.now in
    let empty : c.is_empty.result ≡ true = search rules in
    let bare = bare_name c.args.item.now names (c.is_empty.ensures.0 empty) in
    let gone : c.place.result ≡ None = search rules in
    let none = neither_named (out-Ref c.args.item.now).name c.args.loops.now c.args.symbols.now (sym gone ∙ c.place.ensures) (sym c.in-None.is ∙ c.place-2.ensures) in
    λ few many. subst (λ o. IsFound n (limited n o) None) (sym (bare ∙ none)) tt
