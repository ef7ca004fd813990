use Rattle.std.proofs.Common.{◌≡◌, ◌++◌, sym, subst, Some, None, length, rules}
use Rattle.tree.specs.View.{expression_of}
use Rattle.tree.specs.declared.ops.Value.TheVariants.{Int, Truth}
use Rattle.linear_forms.specs.Linear.{limited, constant_or, as_constant}
use Rattle.linear_forms.specs.Parts.{IsPartOf}
use Rattle.linear_forms.specs.Affines.{IsFound}
use Rattle.linear_forms.proofs.PartLaws.{int_part, truth_part, item_part, un_part, bin_part, list_part, spread_part, transpose_part, reshape_part, reduce_part}
use Rattle.linear_forms.proofs.forms.+part_of.Goals as goal

pub returns-in-Int : goal.returns-in-Int
returns-in-Int t c =
    let names = c.args.loops.now ++ c.args.symbols.now in
    let n = length c.args.loops.now in
    let part = c.constant_part.result in
    let number : part.constant ≡ Some (Int c.in-Int.number) = search rules in
    let form = subst (λ v. IsFound n (limited n (constant_or (as_constant v) None)) part.form) (sym c.constant_part.ensures.constant) (c.constant_part.ensures.form n) in
    λ few many. subst (λ e. IsPartOf n names (expression_of e) part) (sym c.in-Int.is) (int_part n names c.in-Int.number part number form)

pub returns-in-Truth : goal.returns-in-Truth
returns-in-Truth t c =
    let names = c.args.loops.now ++ c.args.symbols.now in
    let n = length c.args.loops.now in
    λ few many. subst (λ e. IsPartOf n names (expression_of e) (record { constant = Some (Truth c.in-Truth.truth); form = None })) (sym c.in-Truth.is) (truth_part n names c.in-Truth.truth)

pub returns-in-Item : goal.returns-in-Item
returns-in-Item t c =
    let names = c.args.loops.now ++ c.args.symbols.now in
    let n = length c.args.loops.now in
    λ few many. subst (λ e. IsPartOf n names (expression_of e) (record { constant = None; form = c.name_form.result })) (sym c.in-Item.is) (item_part n names c.in-Item.item c.name_form.result (c.name_form.ensures few many))

pub returns-in-Un : goal.returns-in-Un
returns-in-Un t c =
    let names = c.args.loops.now ++ c.args.symbols.now in
    let n = length c.args.loops.now in
    λ few many. subst (λ e. IsPartOf n names (expression_of e) c.sign_part.result) (sym c.in-Un.is)
    (un_part n names c.in-Un.op c.in-Un.a c.sign_part.result (c.sign_part.ensures n names (expression_of c.in-Un.a.value) few
    (subst (λ e. IsPartOf n names (expression_of e) c.part_of.result) c.deref.ensures (c.part_of.ensures few many))))

pub returns-in-Bin : goal.returns-in-Bin
returns-in-Bin t c =
    let names = c.args.loops.now ++ c.args.symbols.now in
    let n = length c.args.loops.now in
    λ few many. subst (λ e. IsPartOf n names (expression_of e) c.pair_part.result) (sym c.in-Bin.is)
    (bin_part n names c.in-Bin.op c.in-Bin.a c.in-Bin.b c.pair_part.result (c.pair_part.ensures n names (expression_of c.in-Bin.a.value) (expression_of c.in-Bin.b.value) few
    (subst (λ e. IsPartOf n names (expression_of e) c.part_of-left.result) c.deref-in-Bin.ensures (c.part_of-left.ensures few many))
    (subst (λ e. IsPartOf n names (expression_of e) c.part_of-in-Bin.result) c.deref-in-Bin-2.ensures (c.part_of-in-Bin.ensures few many))))

pub returns-in-List : goal.returns-in-List
returns-in-List t c =
    let names = c.args.loops.now ++ c.args.symbols.now in
    let n = length c.args.loops.now in
    λ few many. subst (λ e. IsPartOf n names (expression_of e) (record { constant = None; form = None })) (sym c.in-List.is) (list_part n names c.in-List.field-0 c.in-List.field-1)

pub returns-in-Spread : goal.returns-in-Spread
returns-in-Spread t c =
    let names = c.args.loops.now ++ c.args.symbols.now in
    let n = length c.args.loops.now in
    λ few many. subst (λ e. IsPartOf n names (expression_of e) (record { constant = None; form = None })) (sym c.in-Spread.is) (spread_part n names c.in-Spread.field-0 c.in-Spread.field-1 c.in-Spread.field-2)

pub returns-in-Transpose : goal.returns-in-Transpose
returns-in-Transpose t c =
    let names = c.args.loops.now ++ c.args.symbols.now in
    let n = length c.args.loops.now in
    λ few many. subst (λ e. IsPartOf n names (expression_of e) (record { constant = None; form = None })) (sym c.in-Transpose.is) (transpose_part n names c.in-Transpose.field-0)

pub returns-in-Reshape : goal.returns-in-Reshape
returns-in-Reshape t c =
    let names = c.args.loops.now ++ c.args.symbols.now in
    let n = length c.args.loops.now in
    λ few many. subst (λ e. IsPartOf n names (expression_of e) (record { constant = None; form = None })) (sym c.in-Reshape.is) (reshape_part n names c.in-Reshape.field-0 c.in-Reshape.field-1)

pub returns-in-Reduce : goal.returns-in-Reduce
returns-in-Reduce t c =
    let names = c.args.loops.now ++ c.args.symbols.now in
    let n = length c.args.loops.now in
    λ few many. subst (λ e. IsPartOf n names (expression_of e) (record { constant = None; form = None })) (sym c.in-Reduce.is) (reduce_part n names c.in-Reduce.field-0 c.in-Reduce.field-1)
