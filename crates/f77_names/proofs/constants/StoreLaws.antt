-- The store of a table, as constants are added to it.
use Rattle.std.proofs.Common.{◌≡◌, ◌∙◌, ap, sym, refl, ℕ, ◌+◌, ◌<◌, ◌≤◌, ℤ, cond, is_some, Bool, true, false, Result, Ok, Err, Option, Some, None, List, [], ◌∷◌, ◌++◌, length, map, drop, get_or}
use Rattle.std.specs.List.{flat_map}
use Rattle.std.proofs.lemmas.List.{drop_all}
use Rattle.tree.specs.Operators.{fits}
use Rattle.tree.specs.declared.ops.Value.{Value}
use Rattle.tree.specs.declared.exprs.Expr.{Expr}
use Rattle.meaning.specs.Dialect.{fortran77}
use Rattle.tree.specs.declared.width.Width.{Width}
use Rattle.meaning.specs.Store.{Store}
use Rattle.f77_grammar.specs.Statement77.{NamedConstant, Labelled}
use Rattle.f77_grammar.specs.program.Limits.{with_named_constant, with_constants, definitions_of, constants_of}
use Rattle.f77_grammar.specs.declared.syntax.statements.Labelled.{Labelled as Labelled'}
use Rattle.f77_grammar.specs.syntax.Views.{constant_of, statement_of, text_of}
use Rattle.f77_grammar.proofs.syntax.Walks.{text_left, text_through}
use Rattle.f77_names.specs.declared.constants.constants.Constants.{Constants}
use Rattle.f77_names.specs.constants.Constants.{value_in, value_or_nought, store_of, held_in, AreValues}
use Rattle.f77_names.specs.constants.Steps.{kept}
use Rattle.tree.specs.declared.ops.Value.TheVariants.{Int}
use Rattle.tree.specs.declared.ops.Fault.{Fault}
use Rattle.tree.specs.declared.ops.Fault.TheVariants.{Overflow}
use Rattle.f77_names.proofs.constants.SizeLaws.{left}

-- ---- the range of INTEGER

pub in_range-fits : (width : Width) (z : ℤ) → fits (fortran77 width).bits z ≡ true → kept width (Ok (Int z)) ≡ Ok (Int z)
in_range-fits width z e = ap (λ (b : Bool). let r : Result Value Fault = cond b (Ok (Int z)) (Err Overflow) in r) e

pub in_range-overflows : (width : Width) (z : ℤ) → fits (fortran77 width).bits z ≡ false → kept width (Ok (Int z)) ≡ Err Overflow
in_range-overflows width z e = ap (λ (b : Bool). let r : Result Value Fault = cond b (Ok (Int z)) (Err Overflow) in r) e

pub ruleset range_laws = (in_range-fits, in_range-overflows)

-- ---- all of them

with_more : (width : Width) (ds es : List NamedConstant) (s : Store) → with_constants (fortran77 width) (ds ++ es) s ≡ with_constants (fortran77 width) es (with_constants (fortran77 width) ds s)
with_more width [] es s = refl
with_more width (d ∷ ds) es s = with_more width ds es (with_named_constant (fortran77 width) d s)

-- one constant more
pub constants_more : (width w : Width) (cs : List (List ℕ × Expr)) (i : ℕ) (x : List ℕ × Expr) (s t all : Store) → i < length cs → x ≡ get_or cs i x → w ≡ width
    → t ≡ with_named_constant (fortran77 w) (constant_of x) s → all ≡ with_constants (fortran77 width) (map constant_of (drop i cs)) s
    → all ≡ with_constants (fortran77 width) (map constant_of (drop (i + 1) cs)) t
constants_more width w cs i x s t all h k same new old =
    old ∙ ap (λ ds. with_constants (fortran77 width) (map constant_of ds) s) (left cs i x h k)
    ∙ ap (with_constants (fortran77 width) (map constant_of (drop (i + 1) cs))) (sym (new ∙ ap (λ v. with_named_constant (fortran77 v) (constant_of x) s) same))

pub text_more : (width : Width) (xs : List Labelled') (i : ℕ) (x : Labelled') (s t : Store) (ds : List NamedConstant) → i < length xs → x ≡ get_or xs i x
    → ds ≡ definitions_of (statement_of x.statement) → t ≡ with_constants (fortran77 width) ds s
    → constants_of (fortran77 width) (text_of xs) ≡ with_constants (fortran77 width) (flat_map (λ (y : Labelled). definitions_of y.statement) (drop i (text_of xs))) s
    → constants_of (fortran77 width) (text_of xs) ≡ with_constants (fortran77 width) (flat_map (λ (y : Labelled). definitions_of y.statement) (drop (i + 1) (text_of xs))) t
text_more width xs i x s t ds h k here new old =
    old ∙ ap (λ ts. with_constants (fortran77 width) (flat_map (λ (y : Labelled). definitions_of y.statement) ts) s) (text_left xs i x h k)
    ∙ with_more width (definitions_of (statement_of x.statement)) (flat_map (λ (y : Labelled). definitions_of y.statement) (drop (i + 1) (text_of xs))) s
    ∙ ap (with_constants (fortran77 width) (flat_map (λ (y : Labelled). definitions_of y.statement) (drop (i + 1) (text_of xs)))) (sym (new ∙ ap (λ cs. with_constants (fortran77 width) cs s) here))

pub text_end : (width : Width) (xs : List Labelled') (i : ℕ) (c : Constants) → length xs ≤ i
    → constants_of (fortran77 width) (text_of xs) ≡ with_constants (fortran77 width) (flat_map (λ (y : Labelled). definitions_of y.statement) (drop i (text_of xs))) (store_of c)
    → AreValues c (constants_of (fortran77 width) (text_of xs))
text_end width xs i c h old = record {
  values = λ x. sym (ap (λ s. held_in s x) same ∙ own (value_in c x));
  same = same;
}
  where
    same : constants_of (fortran77 width) (text_of xs) ≡ store_of c
    same = old ∙ ap (λ ts. with_constants (fortran77 width) (flat_map (λ (y : Labelled). definitions_of y.statement) ts) (store_of c)) (drop_all i (text_of xs) (text_through xs i h))

    own : (o : Option Value) → cond (is_some (let bs : Option (List (ℤ × ℤ)) = cond (is_some o) (Some []) None in bs)) (Some (value_or_nought o)) None ≡ o
    own None = refl
    own (Some v) = refl
