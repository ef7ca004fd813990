use Rattle.std.proofs.Common.{arith, ◌≡◌, ◌<◌, ◌≤◌, List, [], ◌∷◌, ◌++◌, length, map, ap, sym, ◌∙◌, append-nil, rules}
use Rattle.std.proofs.Common.{Bool}
use Rattle.std.specs.List.{AllByRecursion}
use Rattle.tree.specs.View.{declaration_of}
use Rattle.tree.specs.declared.ops.Kind.{Kind}
use Rattle.tree.specs.declared.programs.Decl.{Decl}
use Rattle.f90_grammar.specs.Bounds.{HasBounds}
use Rattle.f90_grammar.specs.Forms as forms
use Rattle.f90_grammar.specs.Reading.{entity_declaration}
use Rattle.f90_statement.specs.Views.{IsEntityOf}
use Rattle.f90_names.proofs.kinds.OfDeclarations.BoundLaws.{all_at, all_but_last, made_more}
use Rattle.f90_names.proofs.kinds.OfDeclarations.PlaceLaws.{start, step, end}
use Rattle.f90_names.proofs.kinds.declarations.declaring.declare_all.Goals as goal

abbrev AreMade : Kind → Bool → List Decl → List Decl → List forms.EntityForm90 → Type 0
AreMade k a old new es =
    AllByRecursion HasBounds (map (entity_declaration k a) es)
    → map declaration_of new ≡ map declaration_of old ++ map (entity_declaration k a) es

pub loop-entity-init : goal.loop-entity-init
loop-entity-init c = record {
  made = λ es a. start IsEntityOf (AreMade c.args.kind c.args.is_allocatable c.args.all.now c.args.all.now) es
      (λ h. sym (append-nil (map declaration_of c.args.all.now))) a;
}

pub loop-entity-preserved : goal.loop-entity-preserved
loop-entity-preserved c =
    let l : c.loop-entity.entity-index < length c.args.entities.now = first_of (omega arith, search rules) in
    let d = c.in_ok-declaration.field-0 in
    let p : c.push.new.self ≡ c.loop-entity.all ++ d ∷ [] = search rules in
    record {
      made = step IsEntityOf (AreMade c.args.kind c.args.is_allocatable c.args.all.now c.loop-entity.all)
          (AreMade c.args.kind c.args.is_allocatable c.args.all.now c.push.new.self)
          c.args.entities.now c.loop-entity.entity-index c.entity-item.result l c.entity-item.is
          (λ es e h k w.
          ap (map declaration_of) p
          ∙ made_more declaration_of (entity_declaration c.args.kind c.args.is_allocatable) c.loop-entity.all d
          (map declaration_of c.args.all.now) es e
          (h (all_but_last (entity_declaration c.args.kind c.args.is_allocatable) HasBounds es e w))
          (c.in_ok-declaration.ensures e k
          (all_at (entity_declaration c.args.kind c.args.is_allocatable) HasBounds es e [] w)))
          c.loop-entity.invariant.made;
    }

pub returns : goal.returns
returns c =
    let l : length c.args.entities.now ≤ c.loop-entity.entity-index = first_of (omega arith, search rules) in
    end IsEntityOf (AreMade c.args.kind c.args.is_allocatable c.args.all.now c.loop-entity.all) c.args.entities.now
    c.loop-entity.entity-index l c.loop-entity.invariant.made
