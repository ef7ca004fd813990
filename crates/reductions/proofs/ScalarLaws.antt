-- Which expressions are scalars, by their forms.
use Rattle.std.proofs.Common.{◌≡◌, refl, sym, ap, ◌∙◌, ℕ, ℤ, Bool, true, false, cond, List, [], ◌∷◌, map, drop, length, get_or, ◌<◌, ◌≤◌, ◌+◌, Option}
use Rattle.std.proofs.lemmas.List.{at_drop_more, at_drop_all}
use Rattle.std.specs.Prelude.{◌&&◌}
use Rattle.std.specs.declared.boxed.Box.{Box}
use Rattle.std.specs.declared.alloc.Global.{Global}
use Rattle.tree.specs.Plain as P
use Rattle.tree.specs.View.{expression_of, subscript_of, reference_of}
use Rattle.tree.specs.declared.ops.Op.{Op}
use Rattle.tree.specs.declared.functions.Fun.{Fun}
use Rattle.tree.specs.declared.functions.Red.{Red}
use Rattle.tree.specs.declared.lists.Seq.{Seq}
use Rattle.tree.specs.declared.exprs.Turn.{Turn}
use Rattle.tree.specs.declared.exprs.Expr.{Expr}
use Rattle.tree.specs.declared.exprs.Expr.TheVariants as exprs
use Rattle.tree.specs.declared.exprs.Sub.{Sub}
use Rattle.tree.specs.declared.exprs.Sub.TheVariants as subs
use Rattle.tree.specs.declared.exprs.Ref.{Ref, out-Ref}
use Rattle.tree.proofs.Equations.{expression_of-int, expression_of-truth, expression_of-item, expression_of-un, expression_of-bin, expression_of-call, expression_of-list, expression_of-spread, expression_of-transpose, expression_of-reshape, expression_of-reduce, subscript_of-one, subscript_of-part, reference_of-is}
use Rattle.meaning.specs.Value.{is_scalar, are_scalar, are_indices, is_index, name_is_scalar, is_bare, named}

abbrev Bounds : Type 0
Bounds = List ℕ → Option (List (ℤ × ℤ))

module _ (b : Bounds) where
  pub int_rank : (n : ℤ) → is_scalar (expression_of (exprs.Int n)) b ≡ true
  int_rank n = ap (λ e. is_scalar e b) (expression_of-int n)

  pub truth_rank : (t : Bool) → is_scalar (expression_of (exprs.Truth t)) b ≡ true
  truth_rank t = ap (λ e. is_scalar e b) (expression_of-truth t)

  pub item_rank : (r : Ref) → is_scalar (expression_of (exprs.Item r)) b ≡ is_scalar (named (reference_of r)) b
  item_rank r = ap (λ e. is_scalar e b) (expression_of-item r)

  pub un_rank : (o : Op) (a : Box Expr Global) → is_scalar (expression_of (exprs.Un o a)) b ≡ is_scalar (expression_of a.value) b
  un_rank o a = ap (λ e. is_scalar e b) (expression_of-un o a)

  pub bin_rank : (o : Op) (x y : Box Expr Global) → is_scalar (expression_of (exprs.Bin o x y)) b ≡ (is_scalar (expression_of x.value) b && is_scalar (expression_of y.value) b)
  bin_rank o x y = ap (λ e. is_scalar e b) (expression_of-bin o x y)

  pub call_rank : (f : Fun) (es : Seq Expr) → is_scalar (expression_of (exprs.Call f es)) b ≡ are_scalar (P.expressions (map expression_of es)) b
  call_rank f es = ap (λ e. is_scalar e b) (expression_of-call f es)

  pub list_rank : (es : Seq Expr) (ls : Seq Turn) → is_scalar (expression_of (exprs.List es ls)) b ≡ false
  list_rank es ls = ap (λ e. is_scalar e b) (expression_of-list es ls)

  pub spread_rank : (a : Box Expr Global) (d : ℕ) (n : Box Expr Global) → is_scalar (expression_of (exprs.Spread a d n)) b ≡ false
  spread_rank a d n = ap (λ e. is_scalar e b) (expression_of-spread a d n)

  pub transpose_rank : (a : Box Expr Global) → is_scalar (expression_of (exprs.Transpose a)) b ≡ false
  transpose_rank a = ap (λ e. is_scalar e b) (expression_of-transpose a)

  pub reshape_rank : (a : Box Expr Global) (es : Seq Expr) → is_scalar (expression_of (exprs.Reshape a es)) b ≡ false
  reshape_rank a es = ap (λ e. is_scalar e b) (expression_of-reshape a es)

  pub reduce_rank : (r : Red) (a : Box Expr Global) → is_scalar (expression_of (exprs.Reduce r a)) b ≡ true
  reduce_rank r a = ap (λ e. is_scalar e b) (expression_of-reduce r a)

  pub one_rank : (e : Expr) → is_index (subscript_of (subs.One e)) b ≡ is_scalar (expression_of e) b
  one_rank e = ap (λ p. is_index p b) (subscript_of-one e)

  pub part_rank : (x y z : Expr) → is_index (subscript_of (subs.Part x y z)) b ≡ false
  part_rank x y z = ap (λ p. is_index p b) (subscript_of-part x y z)

  bare_by : (r : Ref) (ps : List Sub) → (out-Ref r).subs ≡ ps → ps ≡ [] → name_is_scalar (P.subscripts (map subscript_of ps)) (b (out-Ref r).name) (are_indices (P.subscripts (map subscript_of ps)) b) ≡ is_bare (b (out-Ref r).name)
  bare_by r [] e h = refl
  bare_by r (p ∷ ps) e h = cc

  pub bare_item : (r : Ref) → (out-Ref r).subs ≡ [] → is_scalar (named (reference_of r)) b ≡ is_bare (b (out-Ref r).name)
  bare_item r h = ap (λ (q : P.Reference). is_scalar (named q) b) (reference_of-is r) ∙ bare_by r (out-Ref r).subs refl h

  subs_by : (x : List ℕ) (ps : List Sub) → (ps ≡ [] → ⊥) → name_is_scalar (P.subscripts (map subscript_of ps)) (b x) (are_indices (P.subscripts (map subscript_of ps)) b) ≡ are_indices (P.subscripts (map subscript_of ps)) b
  subs_by x [] h = absurd (h refl)
  subs_by x (p ∷ ps) h = refl

  pub subs_item : (r : Ref) → ((out-Ref r).subs ≡ [] → ⊥) → is_scalar (named (reference_of r)) b ≡ are_indices (P.subscripts (map subscript_of (out-Ref r).subs)) b
  subs_item r h = ap (λ (q : P.Reference). is_scalar (named q) b) (reference_of-is r) ∙ subs_by (out-Ref r).name (out-Ref r).subs h

  -- ---- lists

  module _ (whole : Bool) (es : List Expr) (i : ℕ) (so_far : whole ≡ are_scalar (P.expressions (map expression_of (drop i es))) b) where
    step : (e : Expr) → i < length es → e ≡ get_or es i e → whole ≡ (is_scalar (expression_of e) b && are_scalar (P.expressions (map expression_of (drop (i + 1) es))) b)
    step e l h = so_far ∙ at_drop_more (λ es. are_scalar (P.expressions (map expression_of es)) b) es i e l ∙ ap (λ d. are_scalar (P.expressions (map expression_of (d ∷ drop (i + 1) es))) b) (sym h)

    pub scalar_stops : (e : Expr) → i < length es → e ≡ get_or es i e → is_scalar (expression_of e) b ≡ false → false ≡ whole
    scalar_stops e l h f = sym (step e l h ∙ ap (λ t. t && are_scalar (P.expressions (map expression_of (drop (i + 1) es))) b) f)

    pub scalar_more : (e : Expr) → i < length es → e ≡ get_or es i e → is_scalar (expression_of e) b ≡ true → whole ≡ are_scalar (P.expressions (map expression_of (drop (i + 1) es))) b
    scalar_more e l h t = step e l h ∙ ap (λ t. t && are_scalar (P.expressions (map expression_of (drop (i + 1) es))) b) t

    pub scalar_end : length es ≤ i → true ≡ whole
    scalar_end l = sym (so_far ∙ at_drop_all (λ es. are_scalar (P.expressions (map expression_of es)) b) es i l)

  module _ (whole : Bool) (ps : List Sub) (i : ℕ) (so_far : whole ≡ are_indices (P.subscripts (map subscript_of (drop i ps))) b) where
    index_step : (p : Sub) → i < length ps → p ≡ get_or ps i p → whole ≡ (is_index (subscript_of p) b && are_indices (P.subscripts (map subscript_of (drop (i + 1) ps))) b)
    index_step p l h = so_far ∙ at_drop_more (λ ps. are_indices (P.subscripts (map subscript_of ps)) b) ps i p l ∙ ap (λ d. are_indices (P.subscripts (map subscript_of (d ∷ drop (i + 1) ps))) b) (sym h)

    pub index_stops : (p : Sub) → i < length ps → p ≡ get_or ps i p → is_index (subscript_of p) b ≡ false → false ≡ whole
    index_stops p l h f = sym (index_step p l h ∙ ap (λ t. t && are_indices (P.subscripts (map subscript_of (drop (i + 1) ps))) b) f)

    pub index_more : (p : Sub) → i < length ps → p ≡ get_or ps i p → is_index (subscript_of p) b ≡ true → whole ≡ are_indices (P.subscripts (map subscript_of (drop (i + 1) ps))) b
    index_more p l h t = index_step p l h ∙ ap (λ t. t && are_indices (P.subscripts (map subscript_of (drop (i + 1) ps))) b) t

    pub index_end : length ps ≤ i → true ≡ whole
    index_end l = sym (so_far ∙ at_drop_all (λ ps. are_indices (P.subscripts (map subscript_of ps)) b) ps i l)

pub ruleset scalar_laws = (int_rank, truth_rank, item_rank, un_rank, bin_rank, call_rank, list_rank, spread_rank, transpose_rank, reshape_rank, reduce_rank)

pub ruleset item_laws = (bare_item, subs_item)

pub ruleset index_laws = (one_rank, part_rank)
