use Rattle.std.proofs.Common.{arith, ◌≡◌, ◌<◌, ◌≤◌, List, [], ◌∷◌, ◌++◌, length, map, ap, sym, ◌∙◌, subst, rules}
use Rattle.std.specs.List.{AllByRecursion}
use Rattle.tree.specs.Plain.{Declaration}
use Rattle.tree.specs.View.{declaration_of}
use Rattle.tree.specs.declared.programs.Decl.{Decl}
use Rattle.f90_grammar.specs.Blocks as grammar
use Rattle.f90_grammar.specs.Bounds.{HasBounds}
use Rattle.f90_grammar.specs.Declared.{declarations_in, declarations_of}
use Rattle.f90_blocks.specs.places.forms.Places.{IsPlacedOf}
use Rattle.f90_names.proofs.kinds.OfDeclarations.BoundLaws.{all_left, all_right}
use Rattle.f90_names.proofs.kinds.OfDeclarations.PlaceLaws.{start, step, end}
use Rattle.f90_names.proofs.kinds.OfDeclarations.SizeLaws.{declared_more}
use Rattle.f90_names.proofs.kinds.declarations.declaring.as_written.Goals as goal

abbrev AreMade : List Decl → List grammar.Placed → Type 0
AreMade made ps = AllByRecursion HasBounds (declarations_of ps) → map declaration_of made ≡ declarations_of ps

more : (old new : List Decl) (ps : List grammar.Placed) (p : grammar.Placed) → AreMade old ps
    → (AllByRecursion HasBounds (declarations_in p.form)
    → map declaration_of new ≡ map declaration_of old ++ declarations_in p.form) → AreMade new (ps ++ p ∷ [])
more old new ps p h g w =
    let all = subst (λ (ds : List Declaration). AllByRecursion HasBounds ds) (declared_more ps p) w in
    g (all_right HasBounds (declarations_of ps) (declarations_in p.form) all)
    ∙ ap (λ ds. ds ++ declarations_in p.form) (h (all_left HasBounds (declarations_of ps) (declarations_in p.form) all))
    ∙ sym (declared_more ps p)

pub loop-placed-init : goal.loop-placed-init
loop-placed-init c = record {
  made =
      λ ps a. start IsPlacedOf (AreMade c.new-all.result) ps (λ h. ap (map declaration_of) c.new-all.ensures) a;
}

pub loop-placed-preserved : goal.loop-placed-preserved
loop-placed-preserved c =
    let l : c.loop-placed.placed-index < length c.args.text.now = first_of (omega arith, search rules) in
    record {
      made = step IsPlacedOf (AreMade c.loop-placed.all)
          (AreMade c.declare.new.all) c.args.text.now c.loop-placed.placed-index c.placed-item.result l c.placed-item.is
          (λ ps p h k. more c.loop-placed.all c.declare.new.all ps p h
          (c.in_ok-declare.ensures p.form k.is)) c.loop-placed.invariant.made;
    }

pub returns : goal.returns
returns c =
    let l : length c.args.text.now ≤ c.loop-placed.placed-index = first_of (omega arith, search rules) in
    end IsPlacedOf (AreMade c.loop-placed.all) c.args.text.now c.loop-placed.placed-index l c.loop-placed.invariant.made
