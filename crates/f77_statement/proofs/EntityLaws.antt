-- Names with bounds, and symbolic constants.
use Rattle.std.proofs.Common.{◌≡◌, ◌≤◌, ◌<◌, ℕ, List, [], ◌∷◌, ◌++◌, map, length, ap, sym, ◌∙◌, arith, append_assoc}
use Rattle.std.proofs.lemmas.List.{length-map}
use Rattle.tree.specs.Plain.{Expression}
use Rattle.tree.specs.View.{expression_of}
use Rattle.tree.specs.declared.exprs.Expr.{Expr}
use Rattle.f77_grammar.specs.Statement77 as statement
use Rattle.f77_grammar.specs.expressions.Words as words
use Rattle.f77_grammar.specs.expressions.Words.{Word77}
use Rattle.f77_grammar.specs.statements.Forms.{Bound77, written_bound77, bound_tree, separated77, Bounded}
use Rattle.f77_expressions.specs.declared.operands.Operand.{Operand}
use Rattle.f77_expressions.specs.Reading as reading
use Rattle.f77_grammar.specs.syntax.Views.{bounds_of}
use Rattle.f77_statement.specs.Declarations.{AreBoundsRead, AreTheBounds, EndsEntity, BeginsWithEntity, BeginsWithDefinition}

as_many : (dims : List (Expr × Expr)) (bs : List Bound77) → map bounds_of dims ≡ map bound_tree bs → length dims ≡ length bs
as_many dims bs e = sym (length-map dims bounds_of) ∙ ap length e ∙ length-map bs bound_tree

pub too_many : (dims : List (Expr × Expr)) (bs : List Bound77) (last rest : List Word77) (d : ℕ) → AreTheBounds bs last dims d rest → 7 < length dims → length bs ≤ 7 → ⊥
too_many dims bs last rest d h m n =
    let e = as_many dims bs h.0 in
    omega arith

pub entity_found : (name : List ℕ) (dims : List (Expr × Expr)) (ws rest more : List Word77) (d : ℕ) → AreBoundsRead ws dims d rest → rest ≡ words.Close ∷ more → length dims ≤ 7
    → EndsEntity ws name (record { name = name; bounds = map bounds_of dims }) d more
entity_found name dims ws rest more d h c m =
    let e = as_many dims h.parts h.trees in
    record {
      bounds = h.parts;
      are = h.are;
      few = omega arith;
      tree = ap (λ (q : List (Expression × Expression)). record { name = name; bounds = q }) h.trees;
      deep = h.deep;
      same = h.same ∙ ap (λ (q : List Word77). separated77 written_bound77 h.parts ++ q) c;
    }

pub bounded_found : (ws more : List Word77) (name : List ℕ) (made : statement.Entity) (d : ℕ) (rest : List Word77) → ws ≡ words.Head name ∷ more → EndsEntity more name made d rest → BeginsWithEntity ws made d rest
bounded_found ws more name made d rest e h =
    record {
      part = Bounded name h.bounds;
      is_good = (h.are, h.few);
      tree_is = h.tree;
      deep = h.deep;
      same = e ∙ ap (λ (q : List Word77). words.Head name ∷ q) (h.same ∙ sym (append_assoc (separated77 written_bound77 h.bounds) (words.Close ∷ []) rest));
    }

pub definition_found : (ws more value rest : List Word77) (name : List ℕ) (m : Operand) (made : statement.NamedConstant) (d : ℕ) → ws ≡ words.Name name ∷ more → more ≡ words.Equals ∷ value → reading.Begins value m rest
    → made ≡ record { name = name; value = expression_of m.tree } → d ≡ m.depth → BeginsWithDefinition ws made d rest
definition_found ws more value rest name m made d e q h k j =
    record {
      part = record { name = name; value = h.phrase };
      is_good = h.good;
      tree_is = k ∙ ap (λ (x : Expression). record { name = name; value = x }) h.is.tree;
      deep = j ∙ h.is.depth;
      same = e ∙ ap (λ (x : List Word77). words.Name name ∷ x) (q ∙ ap (λ (x : List Word77). words.Equals ∷ x) h.same);
    }

pub ruleset entities = (bounded_found, definition_found)
