use Rattle.std.proofs.Common.{◌≡◌, ◌∙◌, ◌||◌, not, true, false, sym, ap, subst, arith}
use Rattle.std.specs.Str.{bytes_eq}
use Rattle.tree.specs.Plain.{Reference}
use Rattle.tree.specs.View.{reference_of}
use Rattle.tree.specs.declared.exprs.Ref.{Ref, out-Ref}
use Rattle.tree.proofs.Equations.{reference_of-is}
use Rattle.dependence_graph.specs.nest_references.Occurrences.{AreFormsIn}
use Rattle.interchange.specs.Reads.{same_forms}
use Rattle.interchange.proofs.reads.reads_what_is_written.Goals as goal

names_are : (r : Ref) → (reference_of r).name ≡ (out-Ref r).name
names_are r = ap (λ (x : Reference). x.name) (reference_of-is r)

pub returns-then-ne : goal.returns-then-ne
returns-then-ne c =
    let e : not (bytes_eq (reference_of c.args.item.now).name (reference_of c.args.left.now).name) ≡ true = first_of (cc, grind (arith, names_are c.args.item.now, names_are c.args.left.now)) in
    ap (λ b. b || same_forms c.args.loops.now c.args.symbols.now (reference_of c.args.item.now).subscripts (reference_of c.args.left.now).subscripts) (sym e)

pub returns : goal.returns
returns c =
    let e : not (bytes_eq (reference_of c.args.item.now).name (reference_of c.args.left.now).name) ≡ false = first_of (cc, grind (arith, names_are c.args.item.now, names_are c.args.left.now)) in
    c.same_forms.ensures c.args.loops.now c.args.symbols.now (reference_of c.args.item.now).subscripts (reference_of c.args.left.now).subscripts c.requires.loops
    (subst (AreFormsIn c.args.loops.now c.args.symbols.now (reference_of c.args.item.now).subscripts) (sym c.as_slice.ensures) c.in_ok-read.ensures.forms)
    (subst (AreFormsIn c.args.loops.now c.args.symbols.now (reference_of c.args.left.now).subscripts) (sym c.as_slice-2.ensures) c.in_ok-written.ensures.forms)
    ∙ ap (λ b. b || same_forms c.args.loops.now c.args.symbols.now (reference_of c.args.item.now).subscripts (reference_of c.args.left.now).subscripts) (sym e)
