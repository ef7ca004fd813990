-- A program with blocks in the place of loops and the made names declared is a translation.
use Rattle.std.proofs.Common.{◌≡◌, ◌↔◌, ◌∙◌, Bool, true, IsTrue, ℕ, Option, List, Contains, map, refl, ap, subst}
use Rattle.tree.specs.Plain.{Block, Declaration, Program, block}
use Rattle.tree.specs.declared.stmts.Block.{Block as Tree}
use Rattle.translation.specs.loop_placing.Placing.{blocks_of, placed_in}
use Rattle.translation.specs.made_declarations.Declaring.{declaration_by, with_declarations}
use Rattle.translation.specs.nest_blocks.Answers.{AreAnswersFor}
use Rattle.translation.specs.placed_profile.Limits.{IsWithinLimits}
use Rattle.translation.specs.program_translation.Translated.{IsMadeIn}
use Rattle.translation.specs.Translated.{IsVectorised}

-- each step has the same blocks
pub vectorised : (p : Program) (lines names : List (List ℕ)) (body : Block) (ds made : List Declaration)
    (bs cs es : List (Option Tree)) (within : Bool)
    → AreAnswersFor p lines (blocks_of bs) made → cs ≡ bs → es ≡ bs
    → ((x : List ℕ) → Contains names x ↔ IsMadeIn (blocks_of cs) x)
    → body ≡ block (placed_in (blocks_of es) 0 p.body) → IsTrue within ↔ IsWithinLimits body → within ≡ true
    → ds ≡ with_declarations p.declarations (map (declaration_by made) names)
    → IsVectorised p lines (record { name = p.name; declarations = ds; body = body })
vectorised p lines names body ds made bs cs es within are named given names_are is means fits declared = record {
  blocks = blocks_of bs;
  made = made;
  answers = are;
  placed = record {
    name = refl;
    body = is ∙ ap (λ fs. block (placed_in (blocks_of fs) 0 p.body)) given;
    names = names;
    names_are = subst (λ fs. (x : List ℕ) → Contains names x ↔ IsMadeIn (blocks_of fs) x) named names_are;
    declarations = declared;
  };
  limits = means.0 fits;
}
