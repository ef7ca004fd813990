-- The text of the dimensions of an array, and of the extents of one that is allocated.
use Rattle.std.proofs.Common.{◌≡◌, ℕ, zero, suc, ◌+◌, ◌-◌, List, [], ◌∷◌, ◌++◌, map, refl, ap, sym, ◌∙◌, append_assoc, codes, replicate, arith}
use Rattle.std.specs.Prelude.{flat_map}
use Rattle.std.proofs.lemmas.Grind.{flat_map-append}
use Rattle.std.proofs.lemmas.List.{replicate_more}
use Rattle.tree.specs.declared.exprs.Expr.{Expr}
use Rattle.tree.specs.declared.programs.Dim.{Dim}
use Rattle.tree.specs.Plain as P
use Rattle.tree.specs.View.{expression_of, bounds_of}
use Rattle.f90_grammar.specs.Forms.{Dimension, Deferred}
use Rattle.f90_grammar.specs.Printing.{phrase_of}
use Rattle.f90_grammar.specs.PrintedForms.{dimension, phrases_of}
use Rattle.f90_grammar.specs.PrintedText.{dimension_text, dimensions_text, separated_text, extent_text, expression_text}
use Rattle.f90_print.specs.Texts.{after_comma}
use Rattle.f90_print.proofs.Lists.{separated-first}

-- ---- dimensions

dimensions-first : (d : Dimension) (ds : List Dimension) → dimensions_text (d ∷ ds) ≡ 40 ∷ (dimension_text d ++ (flat_map (after_comma dimension_text) ds ++ 41 ∷ []))
dimensions-first d ds =
    ap (λ t. 40 ∷ (t ++ 41 ∷ [])) (separated-first dimension_text d ds)
    ∙ ap (λ t. 40 ∷ t) (append_assoc (dimension_text d) (flat_map (after_comma dimension_text) ds) (41 ∷ []))

pub dimensions-parts : (d : Dim) (ds all : List Dim) → d ∷ ds ≡ all
    → dimensions_text (map dimension (map bounds_of all))
    ≡ 40 ∷ (dimension_text (dimension (bounds_of d)) ++ (flat_map (after_comma dimension_text) (map dimension (map bounds_of ds)) ++ 41 ∷ []))
dimensions-parts d ds all h =
    ap (λ xs. dimensions_text (map dimension (map bounds_of xs))) (sym h) ∙ dimensions-first (dimension (bounds_of d)) (map dimension (map bounds_of ds))

-- ---- colons

abbrev pub further_colons : ℕ → List ℕ
further_colons n = flat_map (after_comma dimension_text) (replicate n Deferred)

pub colons-more : (n : ℕ) → further_colons n ++ codes ", :" ≡ further_colons (n + 1)
colons-more n =
    sym (flat_map-append (after_comma dimension_text) (replicate n Deferred) (Deferred ∷ []))
    ∙ ap (λ ds. flat_map (after_comma dimension_text) ds) (replicate_more n Deferred)

pub colons : (n : ℕ) → (n ≡ 0 → ⊥) → dimensions_text (replicate n Deferred) ≡ codes "(:" ++ (further_colons (n - 1) ++ codes ")")
colons zero h = absurd (h refl)
colons (suc n) h =
    dimensions-first Deferred (replicate n Deferred)
    ∙ ap (λ m. codes "(:" ++ (further_colons m ++ codes ")")) (let e : n ≡ suc n - 1 = omega arith in e)

-- ---- extents

abbrev pub further_extent : Expr → List ℕ
further_extent e = codes ", 1:" ++ expression_text (expression_of e)

further-extents : (es : List Expr) → flat_map (after_comma extent_text) (phrases_of (P.expressions (map expression_of es))) ≡ flat_map further_extent es
further-extents [] = refl
further-extents (e ∷ es) = ap (λ t. further_extent e ++ t) (further-extents es)

pub extents-parts : (e : Expr) (es all : List Expr) → e ∷ es ≡ all
    → separated_text extent_text (phrases_of (P.expressions (map expression_of all))) ≡ codes "1:" ++ (expression_text (expression_of e) ++ flat_map further_extent es)
extents-parts e es all h =
    ap (λ xs. separated_text extent_text (phrases_of (P.expressions (map expression_of xs)))) (sym h)
    ∙ separated-first extent_text (phrase_of (expression_of e)) (phrases_of (P.expressions (map expression_of es)))
    ∙ ap (λ t. codes "1:" ++ (expression_text (expression_of e) ++ t)) (further-extents es)
