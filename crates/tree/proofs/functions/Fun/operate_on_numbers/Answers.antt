use Rattle.std.proofs.Common.{◌≡◌, ◌∙◌, ap, sym, pos, length, subst, rules}
use Rattle.tree.specs.Operators.{ranged, remainder, call}
use Rattle.tree.specs.declared.ops.Value.TheVariants.{Int}
use Rattle.std.specs.Prelude.{IsTrue}
use Rattle.std.proofs.lemmas.Bool.Decides.{Decides-eqb}
use Rattle.tree.specs.Functions.{suits_number}
use Rattle.tree.specs.declared.functions.Fun.{Fun}
use Rattle.tree.proofs.CallValues.{call-Mod}
use Rattle.tree.proofs.functions.Fun.operate_on_numbers.Goals as goal

pub returns-in-Mod : goal.returns-in-Mod
returns-in-Mod c =
    let args = c.args.args.now in
    let a = c.number_of-in-Mod.result in
    let b = c.number_of-in-Mod-2.result in
    let value : c.remainder.result ≡ ranged (remainder a b) = search rules in
    let count : length args ≡ 2 = (Decides-eqb (length args) 2).0 (subst (λ (f : Fun). IsTrue (suits_number f (length args))) c.in-Mod.is c.requires.count) in
    value ∙ sym (call-Mod args (Int (pos 0)) a b count c.requires.numbers c.number_of-in-Mod.ensures c.number_of-in-Mod-2.ensures) ∙ ap (λ (f : Fun). call f args) (sym c.in-Mod.is)
