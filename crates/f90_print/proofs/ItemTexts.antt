-- The text of each kind of item.
use Rattle.std.proofs.Common.{◌≡◌, ℕ, List, [], ◌∷◌, ◌++◌, map, refl, ap, sym, ◌∙◌, append-nil, append_assoc, codes}
use Rattle.std.specs.Prelude.{flat_map, ◌==◌}
use Rattle.tree.specs.declared.lists.Seq.{Seq}
use Rattle.tree.specs.declared.exprs.Expr.{Expr}
use Rattle.tree.specs.declared.stmts.Item.{Item}
use Rattle.tree.specs.declared.stmts.Item.TheVariants as variants
use Rattle.tree.specs.Plain as P
use Rattle.tree.specs.View.{expression_of, item_of}
use Rattle.tree.proofs.Equations.{item_of-one, item_of-text, item_of-turns}
use Rattle.f90_grammar.specs.Items.{ItemPhrases90, Sole, More}
use Rattle.reading.specs.Characters.{doubled, doubled_one}
use Rattle.f90_grammar.specs.Printing.{phrase_of}
use Rattle.f90_grammar.specs.PrintedForms.{step_phrase, item_phrase, item_phrases, more_items}
use Rattle.f90_grammar.specs.PrintedText.{expression_text, bounds_text, constant_text, item_text, items_text, comma}
use Rattle.f90_print.specs.Texts.{after_comma}

pub one-text : (e : Expr) → item_text (item_phrase (item_of (variants.One e))) ≡ expression_text (expression_of e)
one-text e = ap (λ (i : P.Item). item_text (item_phrase i)) (item_of-one e)

pub constant-text : (t : Seq ℕ) → item_text (item_phrase (item_of (variants.Text t))) ≡ constant_text t
constant-text t = ap (λ (i : P.Item). item_text (item_phrase i)) (item_of-text t)

pub turns-text : (is : Seq Item) (x : List ℕ) (a b c : Expr)
    → item_text (item_phrase (item_of (variants.Turns is x a b c)))
    ≡ codes "(" ++ (items_text (item_phrases (P.items (map item_of is))) ++ (codes ", " ++ (bounds_text x (phrase_of (expression_of a)) (phrase_of (expression_of b)) (step_phrase (expression_of c)) ++ codes ")")))
turns-text is x a b c = ap (λ (i : P.Item). item_text (item_phrase i)) (item_of-turns is x a b c) ∙ simp append_assoc

items-more : (ps : ItemPhrases90) (is : List P.Item) → items_text (more_items ps (P.items is)) ≡ items_text ps ++ flat_map (after_comma (λ i. item_text (item_phrase i))) is
items-more ps [] = sym (append-nil (items_text ps))
items-more ps (i ∷ is) =
    items-more (More ps (item_phrase i)) is ∙ append_assoc (items_text ps) (comma ++ item_text (item_phrase i)) (flat_map (after_comma (λ i. item_text (item_phrase i))) is)

pub items-parts : (i : Item) (is all : List Item) → i ∷ is ≡ all
    → items_text (item_phrases (P.items (map item_of all)))
    ≡ item_text (item_phrase (item_of i)) ++ flat_map (after_comma (λ i. item_text (item_phrase i))) (map item_of is)
items-parts i is all h = ap (λ xs. items_text (item_phrases (P.items (map item_of xs)))) (sym h) ∙ items-more (Sole (item_phrase (item_of i))) (map item_of is)

doubled_once : (c : ℕ) (cs : List ℕ) → doubled (c ∷ cs) ≡ doubled (c ∷ []) ++ doubled cs
doubled_once c cs = ap (λ t. t ++ doubled cs) (sym (append-nil (doubled_one (c == 39) c)))

pub doubled-each : (cs : List ℕ) → doubled cs ≡ flat_map (λ c. doubled (c ∷ [])) cs
doubled-each [] = refl
doubled-each (c ∷ cs) = doubled_once c cs ∙ ap (λ t. doubled (c ∷ []) ++ t) (doubled-each cs)

pub ruleset item_texts = (one-text, constant-text)
