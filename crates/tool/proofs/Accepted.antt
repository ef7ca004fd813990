-- A text that conforms is refused for nothing but the number of its names, and is read where these are few.
use Rattle.std.proofs.Common.{◌≡◌, ℕ, ◌≤◌, ◌<◌, List, [], ◌∷◌, ◌++◌, length, refl, sym, ap, ◌∙◌, arith, append_assoc, length-append}
use Rattle.tree.specs.Limits.{program_names90}
use Rattle.tree.specs.Plain.{Program, Declaration}
use Rattle.tree.specs.declared.refusals.Refusal.{Refusal}
use Rattle.f90_grammar.specs.Blocks.{Placed}
use Rattle.f90_grammar.specs.Bounds.{declared_up_to}
use Rattle.f90_grammar.specs.Declared.{declarations_of}
use Rattle.f90_grammar.specs.Order.{Place90, IsPlaceIn}
use Rattle.f90_grammar.specs.Refusals.{Conforms90, IsRefusable, PassesNames}
use Rattle.f90_grammar.specs.Refusals.IsRefusable.{For, ForNames}
use Rattle.f90_laws.proofs.read_back.OneProgram.{once_read}
use Rattle.f90_laws.proofs.unique.Lines.{one_text}
use Rattle.f90_laws.proofs.unrefused.Declarations.{declared_both}
use Rattle.tool.specs.Translates.{IsAccepted, IsForNames}

-- what is declared up to a place is no more than all
up_to : (ps : List Placed) (p : Place90) → IsPlaceIn ps p → length (declared_up_to p) ≤ length (declarations_of ps)
up_to ps p place =
    let parts : declarations_of ps ≡ declared_up_to p ++ declarations_of p.after =
    ap declarations_of place ∙ (ap declarations_of (sym (append_assoc p.before (p.here ∷ []) p.after)) ∙ declared_both (p.before ++ p.here ∷ []) p.after) in
    let size : length (declarations_of ps) ≡ length (declared_up_to p ++ declarations_of p.after) = ap (λ (ds : List Declaration). length ds) parts in
    omega (arith, size, length-append (declared_up_to p) (declarations_of p.after))

few_names : (text : List ℕ) (q : Program) → Conforms90 text q → length q.declarations ≤ program_names90 → (line : ℕ) → PassesNames text line → ⊥
few_names text q h few line passes =
    let same : passes.statements ≡ h.statements = one_text text passes.statements h.statements passes.of_text h.of_text in
    let most = up_to passes.statements passes.place passes.in_text in
    let all : length (declarations_of passes.statements) ≡ length q.declarations = ap (λ (ps : List Placed). length (declarations_of ps)) same ∙ h.is_program.once in
    let many : program_names90 < length (declared_up_to passes.place) = passes.many in
    omega (arith, few, most, all, many)

for_names : (text : List ℕ) (q : Program) → Conforms90 text q → (r : Refusal) → IsRefusable text r → IsForNames text r
for_names text q h r (For _ cause) = absurd (h.unrefused r cause)
for_names text q h _ (ForNames line passes) = record { line = line; passes = passes; is = refl }

pub accepted : (text : List ℕ) (q : Program) → Conforms90 text q → IsAccepted text q
accepted text q h = record {
  conforms = h;
  only = λ r other. once_read text r q other h;
  reads = λ few. record { conforms = h; within = few_names text q h few };
  unrefused = λ r refused. for_names text q h r refused.holds;
}
