-- Statements of each keyword.
use Rattle.std.proofs.Common.{◌≡◌, ℕ, List, [], ◌∷◌, ◌++◌, map, ap, sym, ◌∙◌, refl, append-nil, Bool, subst}
use Rattle.std.specs.List.{list_any, list_all, AllByRecursion}
use Rattle.std.specs.Prelude.{true, false, not, IsTrue, ◌↔◌, ◌&&◌, ◌||◌}
use Rattle.tree.specs.declared.exprs.Expr.{Expr}
use Rattle.tree.specs.declared.ops.Kind.{Kind}
use Rattle.f77_grammar.specs.Statement77 as statement
use Rattle.f77_grammar.specs.expressions.Words.{is_wide_word}
use Rattle.f77_grammar.specs.expressions.Spelling.{AreWords77}
use Rattle.f77_grammar.specs.expressions.Squeezing as squeezing
use Rattle.f77_grammar.specs.expressions.Words as words
use Rattle.f77_grammar.specs.expressions.Words.{Word77}
use Rattle.f77_grammar.specs.statements.Forms as forms
use Rattle.f77_grammar.specs.statements.Forms.{Form77, statement_of, IsEntity77, separated77, written_entity77, entity_tree, entity_depth, deepest, IsBounded, Definition, IsDefinition, written_definition, definition_tree, definition_depth}
use Rattle.reading.specs.Characters.{IsList}
use Rattle.f77_statement.proofs.AssignmentLaws.{any_append}
use Rattle.f77_grammar.specs.declared.syntax.statements.Entity.{Entity}
use Rattle.f77_grammar.specs.declared.syntax.statements.Stmt77.TheVariants as stmts
use Rattle.f77_grammar.specs.syntax.Views.{bounds_of, entity_of, constant_of}
use Rattle.f77_grammar.proofs.syntax.Equations.{statement_of-declare, statement_of-dimension, statement_of-constants}
use Rattle.tree.specs.declared.names.Name.{Name}
use Rattle.tree.specs.declared.lists.Seq.{Seq}
use Rattle.f77_statement.specs.declared.formed.Formed.{Formed}
use Rattle.f77_statement.specs.Formed.{IsFound, AreEntities, IsEntitiesOf, has_bounds, is_something, AreConstants, AreConstantsOf}
use Rattle.f77_statement.specs.Keywords.{IsProgramAfter, IsDeclarationAfter, IsDimensionAfter, AreConstantsAfter}
use Rattle.f77_statement.specs.Parts.{IsFormedOf}
use Rattle.f77_statement.specs.Separated.{BeginsWithList, IsRead}

and_both : (a b : Bool) → a && b ≡ true → (a ≡ true) × (b ≡ true)
and_both true b h = (refl, h)
and_both false b h = cc

true_both : (a b : Bool) → a ≡ true → b ≡ true → a && b ≡ true
true_both true b h k = k
true_both false b h k = cc

or_false : (a : Bool) → a || false ≡ a
or_false true = refl
or_false false = refl

pub all_entities : (ws rest : List Word77) (made : List statement.Entity) (d : ℕ) → BeginsWithList written_entity77 IsEntity77 entity_tree entity_depth ws made d rest → rest ≡ [] → AreEntities ws made d
all_entities ws rest made d h e = record { parts = h.parts; are = h.are; of = record { trees = h.trees; deep = h.deep }; same = h.same ∙ ap (λ (q : List Word77). separated77 written_entity77 h.parts ++ q) e ∙ append-nil _ }

pub those_entities : (es : List forms.EntityForm77) (rest : List Word77) (made : List statement.Entity) (d : ℕ) → IsRead written_entity77 IsEntity77 entity_tree entity_depth es [] made d rest → IsEntitiesOf made d es
those_entities es rest made d h = record { trees = h.0; deep = h.1 }

pub ruleset entities = (all_entities, those_entities)

pub declared : (k : Kind) (es : List forms.EntityForm77) (ws : List Word77) (made : Seq Entity) (d : ℕ) (wide : Bool) → IsEntitiesOf (map entity_of made) d es → ws ≡ separated77 written_entity77 es → wide ≡ list_any is_wide_word ws
    → IsFormedOf (record { statement = stmts.Declare k made; wide = wide; depth = d }) (forms.Declare k es)
declared k es ws made d wide h e w =
    record { statement = statement_of-declare k made ∙ ap (statement.Declare k) h.trees; wide = w ∙ ap (list_any is_wide_word) e; depth = h.deep }

pub declaration_found : (k : Kind) (text : List squeezing.Symbol77) (ws : List Word77) (made : Seq Entity) (d : ℕ) (wide : Bool) → AreWords77 text ws → AreEntities ws (map entity_of made) d → wide ≡ list_any is_wide_word ws
    → IsFound (IsDeclarationAfter k text) (record { statement = stmts.Declare k made; wide = wide; depth = d })
declaration_found k text ws made d wide t h w =
    record { form = forms.Declare k h.parts; is = (h.parts, refl, subst (AreWords77 text) h.same t, h.are); made_of = declared k h.parts ws made d wide h.of h.same w }

pub program_found : (text : List squeezing.Symbol77) (ws : List Word77) (x : List ℕ) (made : Formed) → AreWords77 text ws → ws ≡ words.Name x ∷ [] → IsFormedOf made (forms.Program x) → IsFound (IsProgramAfter text) made
program_found text ws x made t e h = record { form = forms.Program x; is = (x, refl, subst (AreWords77 text) e t); made_of = h }

pub program_only : (ws : List Word77) (x : List ℕ) (made : Formed) (text : List squeezing.Symbol77) (f : Form77) → ((vs : List Word77) → AreWords77 text vs → ws ≡ vs) → ws ≡ words.Name x ∷ [] → IsFormedOf made (forms.Program x)
    → IsProgramAfter text f → IsFormedOf made f
program_only ws x made text f o e h k =
    let q : words.Name x ∷ [] ≡ words.Name k.0 ∷ [] = sym e ∙ o (words.Name k.0 ∷ []) k.2 in
    let r : words.Name x ≡ words.Name k.0 = cc in
    let s : x ≡ k.0 = cc in
    subst (λ (g : Form77). IsFormedOf made g) (ap forms.Program s ∙ sym k.1) h

pub ruleset programs = (program_found)

pub ruleset declarations = (declaration_found, declared)

-- ---- DIMENSION

no_bounds : (d : Expr × Expr) (ds : List (Expr × Expr)) → d ∷ ds ≡ [] → ⊥
no_bounds d ds e = cc

cc_false : {A : Type 0} → IsTrue false → A
cc_false h = absurd (no_truth h) where
  no_truth : IsTrue false → ⊥
  no_truth h = cc

pub some_bounds : (b : Bool) (dims : List (Expr × Expr)) → (IsTrue b ↔ (dims ≡ [])) → not b ≡ is_something (map bounds_of dims)
some_bounds true [] h = refl
some_bounds true (d ∷ ds) h = absurd (no_bounds d ds (h.0 refl))
some_bounds false [] h = cc_false (h.1 refl)
some_bounds false (d ∷ ds) h = refl

bounded_entity : (e : forms.EntityForm77) → IsEntity77 e → has_bounds (entity_tree e) ≡ true → IsBounded e
bounded_entity (forms.Plain x) g h = cc
bounded_entity (forms.Bounded x bs) g h = g

all_bounded : (es : List forms.EntityForm77) → AllByRecursion IsEntity77 es → list_all has_bounds (map entity_tree es) ≡ true → AllByRecursion IsBounded es
all_bounded [] g h = tt
all_bounded (e ∷ es) g h = let k = and_both _ _ h in (bounded_entity e g.0 k.0, all_bounded es g.1 k.1)

list_bounded : (es : List forms.EntityForm77) → IsList IsEntity77 es → list_all has_bounds (map entity_tree es) ≡ true → IsList IsBounded es
list_bounded [] g h = absurd g
list_bounded (e ∷ es) g h = let k = and_both _ _ h in (bounded_entity e g.0 k.0, all_bounded es g.1 k.1)

first_bound : (bs : List forms.Bound77) → IsList forms.IsBound77 bs → is_something (map forms.bound_tree bs) ≡ true
first_bound [] g = absurd g
first_bound (b ∷ bs) g = refl

one_entity : (e : forms.EntityForm77) → IsBounded e → IsEntity77 e × (has_bounds (entity_tree e) ≡ true)
one_entity (forms.Plain x) g = absurd g
one_entity (forms.Bounded x bs) g = (g, first_bound bs g.0)

every_entity : (es : List forms.EntityForm77) → AllByRecursion IsBounded es → AllByRecursion IsEntity77 es × (list_all has_bounds (map entity_tree es) ≡ true)
every_entity [] g = (tt, refl)
every_entity (e ∷ es) g =
    let a = one_entity e g.0 in
    let b = every_entity es g.1 in
    ((a.0, b.0), true_both _ _ a.1 b.1)

pub are_entities : (es : List forms.EntityForm77) → IsList IsBounded es → IsList IsEntity77 es
are_entities [] g = absurd g
are_entities (e ∷ es) g = ((one_entity e g.0).0, (every_entity es g.1).0)

pub have_bounds : (es : List forms.EntityForm77) → IsList IsBounded es → list_all has_bounds (map entity_tree es) ≡ true
have_bounds [] g = absurd g
have_bounds (e ∷ es) g = true_both _ _ (one_entity e g.0).1 (every_entity es g.1).1

pub dimensioned : (es : List forms.EntityForm77) (ws : List Word77) (made : Seq Entity) (d : ℕ) (wide : Bool) → IsEntitiesOf (map entity_of made) d es → ws ≡ separated77 written_entity77 es → wide ≡ list_any is_wide_word ws
    → IsFormedOf (record { statement = stmts.Dimension made; wide = wide; depth = d }) (forms.Dimension es)
dimensioned es ws made d wide h e w =
    record { statement = statement_of-dimension made ∙ ap statement.Dimension h.trees; wide = w ∙ ap (list_any is_wide_word) e; depth = h.deep }

pub dimension_found : (text : List squeezing.Symbol77) (ws : List Word77) (made : Seq Entity) (d : ℕ) (wide : Bool) → AreWords77 text ws → AreEntities ws (map entity_of made) d → list_all has_bounds (map entity_of made) ≡ true
    → wide ≡ list_any is_wide_word ws → IsFound (IsDimensionAfter text) (record { statement = stmts.Dimension made; wide = wide; depth = d })
dimension_found text ws made d wide t h b w =
    record {
      form = forms.Dimension h.parts;
      is = (h.parts, refl, subst (AreWords77 text) h.same t, list_bounded h.parts h.are (ap (list_all has_bounds) (sym h.of.trees) ∙ b));
      made_of = dimensioned h.parts ws made d wide h.of h.same w;
    }

pub ruleset dimensions = (dimension_found, dimensioned)

-- ---- PARAMETER

pub all_constants : (ws inside rest more : List Word77) (made : List statement.NamedConstant) (d : ℕ) → ws ≡ words.Open ∷ inside → BeginsWithList written_definition IsDefinition definition_tree definition_depth inside made d rest
    → rest ≡ words.Close ∷ more → more ≡ [] → AreConstants ws made d
all_constants ws inside rest more made d e h c n =
    record {
      parts = h.parts;
      are = h.are;
      of = record { trees = h.trees; deep = h.deep };
      same = e ∙ ap (λ (q : List Word77). words.Open ∷ q) (h.same ∙ ap (λ (q : List Word77). separated77 written_definition h.parts ++ q) (c ∙ ap (λ (q : List Word77). words.Close ∷ q) n));
    }

pub ruleset constants = (all_constants)

pub parameter_made : (ds : List Definition) (ws : List Word77) (made : Seq (Name × Expr)) (d : ℕ) (wide : Bool) → AreConstantsOf (map constant_of made) d ds
    → ws ≡ words.Open ∷ (separated77 written_definition ds ++ words.Close ∷ []) → wide ≡ list_any is_wide_word ws → IsFormedOf (record { statement = stmts.Constants made; wide = wide; depth = d }) (forms.Constants ds)
parameter_made ds ws made d wide h e w =
    record {
      statement = statement_of-constants made ∙ ap statement.Constants h.trees;
      wide = w ∙ ap (list_any is_wide_word) e ∙ any_append is_wide_word (separated77 written_definition ds) (words.Close ∷ []) ∙ or_false _;
      depth = h.deep;
    }

pub parameter_found : (text : List squeezing.Symbol77) (ws : List Word77) (made : Seq (Name × Expr)) (d : ℕ) (wide : Bool) → AreWords77 text ws → AreConstants ws (map constant_of made) d → wide ≡ list_any is_wide_word ws
    → IsFound (AreConstantsAfter text) (record { statement = stmts.Constants made; wide = wide; depth = d })
parameter_found text ws made d wide t h w =
    record { form = forms.Constants h.parts; is = (h.parts, refl, subst (AreWords77 text) h.same t, h.are); made_of = parameter_made h.parts ws made d wide h.of h.same w }

pub ruleset parameters = (parameter_found, parameter_made)
