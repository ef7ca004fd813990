-- Assignments.
use Rattle.std.proofs.Common.{◌≡◌, ℕ, List, [], ◌∷◌, ◌++◌, ap, sym, ◌∙◌, refl, max, append-nil, Bool, true, false, ◌||◌}
use Rattle.std.specs.List.{list_any}
use Rattle.tree.specs.View.{expression_of}
use Rattle.tree.specs.declared.exprs.Ref.{Ref}
use Rattle.tree.specs.Plain.{Expression, Reference}
use Rattle.f77_grammar.specs.Statement77 as statement
use Rattle.f77_grammar.specs.expressions.Phrases.{Phrase77, written77, tree77_of, phrase_depth77}
use Rattle.f77_grammar.specs.expressions.Words.{is_wide_word}
use Rattle.f77_grammar.specs.expressions.Words as words
use Rattle.f77_grammar.specs.expressions.Words.{Word77}
use Rattle.f77_grammar.specs.statements.Forms.{Assign, has_wide_literal77}
use Rattle.reading.specs.Signs.{reference_in}
use Rattle.f77_expressions.specs.declared.operands.Operand.{Operand}
use Rattle.f77_expressions.specs.Reading.{IsMadeOf, Is}
use Rattle.f77_grammar.specs.declared.syntax.statements.Stmt77.TheVariants as stmts
use Rattle.f77_grammar.proofs.syntax.Equations.{statement_of-assign}
use Rattle.f77_statement.specs.Parts.{capped, IsReferenceOf, BeginsWithReference, IsFormedOf, IsAssignment}
use Rattle.f77_statement.proofs.CappedLaws.{capped_max}

or_assoc : (a b c : Bool) → (a || b) || c ≡ a || (b || c)
or_assoc true b c = refl
or_assoc false b c = refl

pub any_append : (p : Word77 → Bool) (xs ys : List Word77) → list_any p (xs ++ ys) ≡ list_any p xs || list_any p ys
any_append p [] ys = refl
any_append p (x ∷ xs) ys = ap (λ (b : Bool). p x || b) (any_append p xs ys) ∙ sym (or_assoc (p x) (list_any p xs) (list_any p ys))

-- an equals sign is no literal
wide_sides : (l r : Phrase77) → list_any is_wide_word (written77 l ++ (words.Equals ∷ written77 r)) ≡ has_wide_literal77 (Assign l r)
wide_sides l r = any_append is_wide_word (written77 l) (words.Equals ∷ written77 r) ∙ sym (any_append is_wide_word (written77 l) (written77 r))

pub formed : (l r : Phrase77) (ws : List Word77) (left : Ref) (d : ℕ) (right : Operand) (wide : Bool) (most : ℕ) → ws ≡ written77 l ++ (words.Equals ∷ written77 r) → wide ≡ list_any is_wide_word ws → most ≡ max d right.depth
    → IsReferenceOf left d l → IsMadeOf right r → IsFormedOf (record { statement = stmts.Assign left right.tree; wide = wide; depth = most }) (Assign l r)
formed l r ws left d right wide most e w m a b =
    record {
      statement = statement_of-assign left right.tree ∙ ap (λ (x : Reference). statement.Assign x (expression_of right.tree)) a.tree ∙ ap (λ (x : Expression). statement.Assign (reference_in (tree77_of l)) x) b.tree;
      wide = w ∙ ap (list_any is_wide_word) e ∙ wide_sides l r;
      depth = m ∙ ap (λ (n : ℕ). max n right.depth) a.depth ∙ ap (max (capped (phrase_depth77 l))) b.depth ∙ capped_max (phrase_depth77 l) (phrase_depth77 r);
    }

pub assignment_found : (ws rest more : List Word77) (left : Ref) (d : ℕ) (right : Operand) {wide : Bool} {most : ℕ} → wide ≡ list_any is_wide_word ws → most ≡ max d right.depth
    → BeginsWithReference ws left d rest → rest ≡ words.Equals ∷ more → Is more right
    → IsAssignment ws (record { statement = stmts.Assign left right.tree; wide = wide; depth = most })
assignment_found ws rest more left d right w m a e b =
    let same : ws ≡ written77 a.phrase ++ (words.Equals ∷ written77 b.phrase) = a.same ∙ ap (λ (q : List Word77). written77 a.phrase ++ q) (e ∙ ap (λ (q : List Word77). words.Equals ∷ q) (b.same ∙ append-nil _)) in
    record { left = a.phrase; right = b.phrase; bare = a.bare; good_left = a.good; good_right = b.good; is = formed a.phrase b.phrase ws left d right _ _ same w m a.is b.is; same = same }
