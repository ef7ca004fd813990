-- What is read in place of what is copied, by the parts of an expression.
use Rattle.std.proofs.Common.{◌≡◌, refl, sym, ap, ◌∙◌, ℕ, suc, ℤ, ◌+◌, ◌<◌, ◌≤◌, Bool, true, false, not, ◌&&◌, cond, List, [], ◌∷◌, ◌++◌, map, length, get_or, take, length-append, append_assoc, arith}
use Rattle.std.proofs.lemmas.List.{append-nil, map-append}
use Rattle.std.specs.declared.boxed.Box.{Box}
use Rattle.std.specs.declared.alloc.Global.{Global}
use Rattle.tree.specs.Plain.{Expression, Expressions, Reference, Subscript, Subscripts, Named, Unary, Binary, Apply, expressions, subscripts, expression, subscript}
use Rattle.tree.specs.View.{expression_of, reference_of, subscript_of}
use Rattle.tree.specs.declared.functions.Fun.{Fun}
use Rattle.tree.specs.declared.functions.Red.{Red}
use Rattle.tree.specs.declared.lists.Seq.{Seq}
use Rattle.tree.specs.declared.ops.Op.{Op}
use Rattle.tree.specs.declared.exprs.Expr.{Expr}
use Rattle.tree.specs.declared.exprs.Expr.TheVariants as exprs
use Rattle.tree.specs.declared.exprs.Ref.{Ref}
use Rattle.tree.specs.declared.exprs.Sub.{Sub}
use Rattle.tree.specs.declared.exprs.Sub.TheVariants as subs
use Rattle.tree.specs.declared.exprs.Turn.{Turn}
use Rattle.tree.proofs.Equations.{expression_equations, expression_of-int, expression_of-truth, expression_of-item, expression_of-un, expression_of-bin, expression_of-call, reference_of-is, reference_of-made}
use Rattle.tree.proofs.Equations.{expression_of-list, expression_of-spread, expression_of-transpose, expression_of-reshape, expression_of-reduce, subscript_of-one, subscript_of-part}
use Rattle.node_splitting.specs.Counts.{count, count_all, count_in_subscripts, count_subscript, is_counter}
use Rattle.node_splitting.specs.Reads.{read_as_expression, behind, is_copied, itself_or, read_or, reads_in, reads_of, reads_of_all, reads_of_subscript, split_in, split_of, split_of_all, split_of_subscript}
use Rattle.node_splitting.proofs.Counting.{all-cons, all-snoc, count-bin, count-call, count-int, count-item, count-named, count-one, count-truth, count-un, in-cons, in-snoc, one_more_expr, one_more_sub}

module _ (ls : List (List ℕ)) (may : ℕ → Bool) where
  -- ---- what is copied

  pub reads-int : (q : ℕ) (n : ℤ) → reads_of ls may q (expression_of (exprs.Int n)) ≡ []
  reads-int q n = ap (reads_of ls may q) (expression_of-int n)

  pub reads-truth : (q : ℕ) (b : Bool) → reads_of ls may q (expression_of (exprs.Truth b)) ≡ []
  reads-truth q b = ap (reads_of ls may q) (expression_of-truth b)

  pub reads-item : (q : ℕ) (r : Ref) → reads_of ls may q (expression_of (exprs.Item r)) ≡ reads_of ls may q (read_as_expression (reference_of r))
  reads-item q r = ap (reads_of ls may q) (expression_of-item r)

  pub reads-un : (q : ℕ) (o : Op) (a : Box Expr Global) → reads_of ls may q (expression_of (exprs.Un o a)) ≡ reads_of ls may q (expression_of a.value)
  reads-un q o a = ap (reads_of ls may q) (expression_of-un o a)

  pub reads-bin : (q : ℕ) (o : Op) (a b : Box Expr Global) → reads_of ls may q (expression_of (exprs.Bin o a b))
      ≡ reads_of ls may q (expression_of a.value) ++ reads_of ls may (q + count ls (expression_of a.value)) (expression_of b.value)
  reads-bin q o a b = ap (reads_of ls may q) (expression_of-bin o a b)

  pub reads-call : (q : ℕ) (f : Fun) (es : Seq Expr) → reads_of ls may q (expression_of (exprs.Call f es)) ≡ reads_of_all ls may q (expressions (map expression_of es))
  reads-call q f es = ap (reads_of ls may q) (expression_of-call f es)

  pub reads-list : (q : ℕ) (es : Seq Expr) (ts : Seq Turn) → reads_of ls may q (expression_of (exprs.List es ts)) ≡ []
  reads-list q es ts = ap (reads_of ls may q) (expression_of-list es ts)

  pub reads-spread : (q : ℕ) (a : Box Expr Global) (d : ℕ) (n : Box Expr Global) → reads_of ls may q (expression_of (exprs.Spread a d n)) ≡ []
  reads-spread q a d n = ap (reads_of ls may q) (expression_of-spread a d n)

  pub reads-transpose : (q : ℕ) (a : Box Expr Global) → reads_of ls may q (expression_of (exprs.Transpose a)) ≡ []
  reads-transpose q a = ap (reads_of ls may q) (expression_of-transpose a)

  pub reads-reshape : (q : ℕ) (a : Box Expr Global) (es : Seq Expr) → reads_of ls may q (expression_of (exprs.Reshape a es)) ≡ []
  reads-reshape q a es = ap (reads_of ls may q) (expression_of-reshape a es)

  pub reads-reduce : (q : ℕ) (r : Red) (a : Box Expr Global) → reads_of ls may q (expression_of (exprs.Reduce r a)) ≡ []
  reads-reduce q r a = ap (reads_of ls may q) (expression_of-reduce r a)

  pub reads-one : (q : ℕ) (e : Expr) → reads_of_subscript ls may q (subscript_of (subs.One e)) ≡ reads_of ls may q (expression_of e)
  reads-one q e = ap (reads_of_subscript ls may q) (subscript_of-one e)

  pub reads-part : (q : ℕ) (a b c : Expr) → reads_of_subscript ls may q (subscript_of (subs.Part a b c)) ≡ []
  reads-part q a b c = ap (reads_of_subscript ls may q) (subscript_of-part a b c)

  -- ---- what is read

  module _ (element : ℕ → Reference) where
    pub new-int : (q c : ℕ) (n : ℤ) → split_of ls may element q c (expression_of (exprs.Int n)) ≡ expression_of (exprs.Int n)
    new-int q c n = ap (split_of ls may element q c) (expression_of-int n) ∙ sym (expression_of-int n)

    pub new-truth : (q c : ℕ) (b : Bool) → split_of ls may element q c (expression_of (exprs.Truth b)) ≡ expression_of (exprs.Truth b)
    new-truth q c b = ap (split_of ls may element q c) (expression_of-truth b) ∙ sym (expression_of-truth b)

    pub new-item : (q c : ℕ) (r : Ref) → split_of ls may element q c (expression_of (exprs.Item r)) ≡ split_of ls may element q c (read_as_expression (reference_of r))
    new-item q c r = ap (split_of ls may element q c) (expression_of-item r)

    pub new-un : (q c : ℕ) (o : Op) (a : Box Expr Global) → split_of ls may element q c (expression_of (exprs.Un o a)) ≡ Unary o (split_of ls may element q c (expression_of a.value))
    new-un q c o a = ap (split_of ls may element q c) (expression_of-un o a)

    pub new-bin : (q c : ℕ) (o : Op) (a b : Box Expr Global) → split_of ls may element q c (expression_of (exprs.Bin o a b))
        ≡ Binary o (split_of ls may element q c (expression_of a.value))
        (split_of ls may element (q + count ls (expression_of a.value)) (c + length (reads_of ls may q (expression_of a.value))) (expression_of b.value))
    new-bin q c o a b = ap (split_of ls may element q c) (expression_of-bin o a b)

    pub new-call : (q c : ℕ) (f : Fun) (es : Seq Expr) → split_of ls may element q c (expression_of (exprs.Call f es))
        ≡ Apply f (split_of_all ls may element q c (expressions (map expression_of es)))
    new-call q c f es = ap (split_of ls may element q c) (expression_of-call f es)

    pub new-list : (q c : ℕ) (es : Seq Expr) (ts : Seq Turn) → split_of ls may element q c (expression_of (exprs.List es ts)) ≡ expression_of (exprs.List es ts)
    new-list q c es ts = ap (split_of ls may element q c) (expression_of-list es ts) ∙ sym (expression_of-list es ts)

    pub new-spread : (q c : ℕ) (a : Box Expr Global) (d : ℕ) (n : Box Expr Global) → split_of ls may element q c (expression_of (exprs.Spread a d n)) ≡ expression_of (exprs.Spread a d n)
    new-spread q c a d n = ap (split_of ls may element q c) (expression_of-spread a d n) ∙ sym (expression_of-spread a d n)

    pub new-transpose : (q c : ℕ) (a : Box Expr Global) → split_of ls may element q c (expression_of (exprs.Transpose a)) ≡ expression_of (exprs.Transpose a)
    new-transpose q c a = ap (split_of ls may element q c) (expression_of-transpose a) ∙ sym (expression_of-transpose a)

    pub new-reshape : (q c : ℕ) (a : Box Expr Global) (es : Seq Expr) → split_of ls may element q c (expression_of (exprs.Reshape a es)) ≡ expression_of (exprs.Reshape a es)
    new-reshape q c a es = ap (split_of ls may element q c) (expression_of-reshape a es) ∙ sym (expression_of-reshape a es)

    pub new-reduce : (q c : ℕ) (r : Red) (a : Box Expr Global) → split_of ls may element q c (expression_of (exprs.Reduce r a)) ≡ expression_of (exprs.Reduce r a)
    new-reduce q c r a = ap (split_of ls may element q c) (expression_of-reduce r a) ∙ sym (expression_of-reduce r a)

    pub new-one : (q c : ℕ) (e : Expr) → split_of_subscript ls may element q c (subscript_of (subs.One e)) ≡ Rattle.tree.specs.Plain.Only (split_of ls may element q c (expression_of e))
    new-one q c e = ap (split_of_subscript ls may element q c) (subscript_of-one e)

    pub new-part : (q c : ℕ) (a b d : Expr) → split_of_subscript ls may element q c (subscript_of (subs.Part a b d)) ≡ subscript_of (subs.Part a b d)
    new-part q c a b d = ap (split_of_subscript ls may element q c) (subscript_of-part a b d) ∙ sym (subscript_of-part a b d)

pub ruleset read_laws = (reads-int, reads-truth, reads-item, reads-un, reads-bin, reads-call, reads-list, reads-spread, reads-transpose, reads-reshape, reads-reduce, reads-one, reads-part, new-int, new-truth, new-item, new-un, new-bin, new-call, new-list, new-spread, new-transpose, new-reshape, new-reduce, new-one, new-part, count-int, count-truth, count-item, count-un, count-bin, count-call, count-one, expression_equations, append_assoc, append-nil, length-append)

-- ---- a name

module _ (ls : List (List ℕ)) (may : ℕ → Bool) (element : ℕ → Reference) (q c : ℕ) (r : Reference) where
  pub copied-reads : is_copied ls may q r.name r.subscripts ≡ true → reads_of ls may q (read_as_expression r) ≡ r ∷ []
  copied-reads h = ap (λ b. itself_or b r (reads_in ls may (behind ls may q r.name r.subscripts) r.subscripts)) h

  pub copied-new : is_copied ls may q r.name r.subscripts ≡ true → split_of ls may element q c (read_as_expression r) ≡ read_as_expression (element c)
  copied-new h = ap (λ b. read_or b (element c) (Named r.name (split_in ls may element (behind ls may q r.name r.subscripts) c r.subscripts))) h

  pub kept-reads : is_copied ls may q r.name r.subscripts ≡ false → reads_of ls may q (read_as_expression r) ≡ reads_in ls may (behind ls may q r.name r.subscripts) r.subscripts
  kept-reads h = ap (λ b. itself_or b r (reads_in ls may (behind ls may q r.name r.subscripts) r.subscripts)) h

  pub kept-new : is_copied ls may q r.name r.subscripts ≡ false
      → split_of ls may element q c (read_as_expression r) ≡ Named r.name (split_in ls may element (behind ls may q r.name r.subscripts) c r.subscripts)
  kept-new h = ap (λ b. read_or b (element c) (Named r.name (split_in ls may element (behind ls may q r.name r.subscripts) c r.subscripts))) h

pub behind-is : (ls : List (List ℕ)) (may : ℕ → Bool) (q : ℕ) (x : List ℕ) (ss : Subscripts) → behind ls may q x ss ≡ q + cond (is_counter ls x ss) 0 1
behind-is ls may q x ss = by (is_counter ls x ss)
  where
    by : (b : Bool) → cond b q (suc q) ≡ q + cond b 0 1
    by true = omega arith
    by false = omega arith

-- ---- lists

module _ (ls : List (List ℕ)) (may : ℕ → Bool) (element : ℕ → Reference) where
  pub reads_all-snoc : (q : ℕ) (es : List Expression) (e : Expression) → reads_of_all ls may q (expressions (es ++ e ∷ []))
      ≡ reads_of_all ls may q (expressions es) ++ reads_of ls may (q + count_all ls (expressions es)) e
  reads_all-snoc q [] e = let none : q ≡ q + 0 = omega arith in append-nil (reads_of ls may q e) ∙ ap (λ m. reads_of ls may m e) none
  reads_all-snoc q (f ∷ es) e =
      let cons = all-cons ls f es in
      let sum : (q + count ls f) + count_all ls (expressions es) ≡ q + count_all ls (expressions (f ∷ es)) = omega (arith, cons) in
      ap (λ rs. reads_of ls may q f ++ rs) (reads_all-snoc (q + count ls f) es e)
      ∙ (sym (append_assoc (reads_of ls may q f) (reads_of_all ls may (q + count ls f) (expressions es)) (reads_of ls may ((q + count ls f) + count_all ls (expressions es)) e))
      ∙ ap (λ m. reads_of_all ls may q (expressions (f ∷ es)) ++ reads_of ls may m e) sum)

  pub reads_in-snoc : (q : ℕ) (ss : List Subscript) (s : Subscript) → reads_in ls may q (subscripts (ss ++ s ∷ []))
      ≡ reads_in ls may q (subscripts ss) ++ reads_of_subscript ls may (q + count_in_subscripts ls (subscripts ss)) s
  reads_in-snoc q [] s = let none : q ≡ q + 0 = omega arith in append-nil (reads_of_subscript ls may q s) ∙ ap (λ m. reads_of_subscript ls may m s) none
  reads_in-snoc q (t ∷ ss) s =
      let cons = in-cons ls t ss in
      let sum : (q + count_subscript ls t) + count_in_subscripts ls (subscripts ss) ≡ q + count_in_subscripts ls (subscripts (t ∷ ss)) = omega (arith, cons) in
      ap (λ rs. reads_of_subscript ls may q t ++ rs) (reads_in-snoc (q + count_subscript ls t) ss s)
      ∙ (sym (append_assoc (reads_of_subscript ls may q t) (reads_in ls may (q + count_subscript ls t) (subscripts ss)) (reads_of_subscript ls may ((q + count_subscript ls t) + count_in_subscripts ls (subscripts ss)) s))
      ∙ ap (λ m. reads_in ls may q (subscripts (t ∷ ss)) ++ reads_of_subscript ls may m s) sum)

  abbrev pub new_all : ℕ → ℕ → List Expression → List Expression
  new_all q c [] = []
  new_all q c (e ∷ es) = split_of ls may element q c e ∷ new_all (q + count ls e) (c + length (reads_of ls may q e)) es

  abbrev pub new_subscripts : ℕ → ℕ → List Subscript → List Subscript
  new_subscripts q c [] = []
  new_subscripts q c (s ∷ ss) = split_of_subscript ls may element q c s ∷ new_subscripts (q + count_subscript ls s) (c + length (reads_of_subscript ls may q s)) ss

  pub all-are : (q c : ℕ) (es : List Expression) → expressions (new_all q c es) ≡ split_of_all ls may element q c (expressions es)
  all-are q c [] = refl
  all-are q c (e ∷ es) = ap (expression (split_of ls may element q c e)) (all-are (q + count ls e) (c + length (reads_of ls may q e)) es)

  pub in-are : (q c : ℕ) (ss : List Subscript) → subscripts (new_subscripts q c ss) ≡ split_in ls may element q c (subscripts ss)
  in-are q c [] = refl
  in-are q c (s ∷ ss) = ap (subscript (split_of_subscript ls may element q c s)) (in-are (q + count_subscript ls s) (c + length (reads_of_subscript ls may q s)) ss)

  pub new_all-snoc : (q c : ℕ) (es : List Expression) (e : Expression) → new_all q c (es ++ e ∷ [])
      ≡ new_all q c es ++ split_of ls may element (q + count_all ls (expressions es)) (c + length (reads_of_all ls may q (expressions es))) e ∷ []
  new_all-snoc q c [] e =
      let none : q ≡ q + 0 = omega arith in
      let zero' : c ≡ c + 0 = omega arith in
      ap (λ m. split_of ls may element m c e ∷ []) none ∙ ap (λ d. split_of ls may element (q + 0) d e ∷ []) zero'
  new_all-snoc q c (f ∷ es) e =
      let cons = all-cons ls f es in
      let len = length-append (reads_of ls may q f) (reads_of_all ls may (q + count ls f) (expressions es)) in
      let sum : (q + count ls f) + count_all ls (expressions es) ≡ q + count_all ls (expressions (f ∷ es)) = omega (arith, cons) in
      let total : (c + length (reads_of ls may q f)) + length (reads_of_all ls may (q + count ls f) (expressions es)) ≡ c + length (reads_of_all ls may q (expressions (f ∷ es))) = omega (arith, len) in
      ap (λ xs. split_of ls may element q c f ∷ xs) (new_all-snoc (q + count ls f) (c + length (reads_of ls may q f)) es e
      ∙ ap (λ m. new_all (q + count ls f) (c + length (reads_of ls may q f)) es
      ++ split_of ls may element m ((c + length (reads_of ls may q f)) + length (reads_of_all ls may (q + count ls f) (expressions es))) e ∷ []) sum
      ∙ ap (λ d. new_all (q + count ls f) (c + length (reads_of ls may q f)) es ++ split_of ls may element (q + count_all ls (expressions (f ∷ es))) d e ∷ []) total)

  pub new_subscripts-snoc : (q c : ℕ) (ss : List Subscript) (s : Subscript) → new_subscripts q c (ss ++ s ∷ [])
      ≡ new_subscripts q c ss ++ split_of_subscript ls may element (q + count_in_subscripts ls (subscripts ss)) (c + length (reads_in ls may q (subscripts ss))) s ∷ []
  new_subscripts-snoc q c [] s =
      let none : q ≡ q + 0 = omega arith in
      let zero' : c ≡ c + 0 = omega arith in
      ap (λ m. split_of_subscript ls may element m c s ∷ []) none ∙ ap (λ d. split_of_subscript ls may element (q + 0) d s ∷ []) zero'
  new_subscripts-snoc q c (t ∷ ss) s =
      let cons = in-cons ls t ss in
      let len = length-append (reads_of_subscript ls may q t) (reads_in ls may (q + count_subscript ls t) (subscripts ss)) in
      let sum : (q + count_subscript ls t) + count_in_subscripts ls (subscripts ss) ≡ q + count_in_subscripts ls (subscripts (t ∷ ss)) = omega (arith, cons) in
      let total : (c + length (reads_of_subscript ls may q t)) + length (reads_in ls may (q + count_subscript ls t) (subscripts ss)) ≡ c + length (reads_in ls may q (subscripts (t ∷ ss))) = omega (arith, len) in
      ap (λ xs. split_of_subscript ls may element q c t ∷ xs) (new_subscripts-snoc (q + count_subscript ls t) (c + length (reads_of_subscript ls may q t)) ss s
      ∙ ap (λ m. new_subscripts (q + count_subscript ls t) (c + length (reads_of_subscript ls may q t)) ss
      ++ split_of_subscript ls may element m ((c + length (reads_of_subscript ls may q t)) + length (reads_in ls may (q + count_subscript ls t) (subscripts ss))) s ∷ []) sum
      ∙ ap (λ d. new_subscripts (q + count_subscript ls t) (c + length (reads_of_subscript ls may q t)) ss ++ split_of_subscript ls may element (q + count_in_subscripts ls (subscripts (t ∷ ss))) d s ∷ []) total)

-- ---- one expression more

module _ (ls : List (List ℕ)) (may : ℕ → Bool) (element : ℕ → Reference) (q c : ℕ) (list : List Expr) (i : ℕ) (x : Expr) (inside : i < length list) (is : x ≡ get_or list i x) where
  abbrev pub expr_so_far : List Expression
  expr_so_far = map expression_of (take i list)

  expr_more_is : map expression_of (take (i + 1) list) ≡ expr_so_far ++ expression_of x ∷ []
  expr_more_is = one_more_expr list i x inside is

  pub expr_next_step : (next new : ℕ) → next ≡ q + count_all ls (expressions expr_so_far) → new ≡ next + count ls (expression_of x) → new ≡ q + count_all ls (expressions (map expression_of (take (i + 1) list)))
  expr_next_step next new h k =
      let all = ap (λ es. count_all ls (expressions es)) expr_more_is in
      let more = all-snoc ls expr_so_far (expression_of x) in
      omega (arith, h, k, all, more)

  pub expr_reads_step : (next : ℕ) (first old new : List Reference) → next ≡ q + count_all ls (expressions expr_so_far) → old ≡ first ++ reads_of_all ls may q (expressions expr_so_far)
      → new ≡ old ++ reads_of ls may next (expression_of x) → new ≡ first ++ reads_of_all ls may q (expressions (map expression_of (take (i + 1) list)))
  expr_reads_step next first old new n h k =
      k ∙ ap (λ zs. zs ++ reads_of ls may next (expression_of x)) h
      ∙ ap (λ m. (first ++ reads_of_all ls may q (expressions expr_so_far)) ++ reads_of ls may m (expression_of x)) n
      ∙ append_assoc first (reads_of_all ls may q (expressions expr_so_far)) (reads_of ls may (q + count_all ls (expressions expr_so_far)) (expression_of x))
      ∙ ap (λ zs. first ++ zs) (sym (reads_all-snoc ls may element q expr_so_far (expression_of x)))
      ∙ ap (λ es. first ++ reads_of_all ls may q (expressions es)) (sym expr_more_is)

  pub expr_copies_step : (next copies new : ℕ) → next ≡ q + count_all ls (expressions expr_so_far) → copies ≡ c + length (reads_of_all ls may q (expressions expr_so_far))
      → new ≡ copies + length (reads_of ls may next (expression_of x)) → new ≡ c + length (reads_of_all ls may q (expressions (map expression_of (take (i + 1) list))))
  expr_copies_step next copies new n h k =
      let all = ap length (expr_reads_step next [] (reads_of_all ls may q (expressions expr_so_far)) (reads_of_all ls may q (expressions expr_so_far) ++ reads_of ls may next (expression_of x)) n refl refl) in
      let sum = length-append (reads_of_all ls may q (expressions expr_so_far)) (reads_of ls may next (expression_of x)) in
      omega (arith, h, k, all, sum)

  pub expr_made_step : (next copies : ℕ) (old new : List Expression) → next ≡ q + count_all ls (expressions expr_so_far) → copies ≡ c + length (reads_of_all ls may q (expressions expr_so_far))
      → old ≡ new_all ls may element q c expr_so_far → new ≡ old ++ split_of ls may element next copies (expression_of x) ∷ []
      → new ≡ new_all ls may element q c (map expression_of (take (i + 1) list))
  expr_made_step next copies old new n h o k =
      k ∙ ap (λ zs. zs ++ split_of ls may element next copies (expression_of x) ∷ []) o
      ∙ ap (λ m. new_all ls may element q c expr_so_far ++ split_of ls may element m copies (expression_of x) ∷ []) n
      ∙ ap (λ d. new_all ls may element q c expr_so_far ++ split_of ls may element (q + count_all ls (expressions expr_so_far)) d (expression_of x) ∷ []) h
      ∙ sym (new_all-snoc ls may element q c expr_so_far (expression_of x))
      ∙ ap (new_all ls may element q c) (sym expr_more_is)

-- ---- one subscript more

module _ (ls : List (List ℕ)) (may : ℕ → Bool) (element : ℕ → Reference) (q c : ℕ) (list : List Sub) (i : ℕ) (x : Sub) (inside : i < length list) (is : x ≡ get_or list i x) where
  abbrev pub sub_so_far : List Subscript
  sub_so_far = map subscript_of (take i list)

  sub_more_is : map subscript_of (take (i + 1) list) ≡ sub_so_far ++ subscript_of x ∷ []
  sub_more_is = one_more_sub list i x inside is

  pub sub_next_step : (next new : ℕ) → next ≡ q + count_in_subscripts ls (subscripts sub_so_far) → new ≡ next + count_subscript ls (subscript_of x) → new ≡ q + count_in_subscripts ls (subscripts (map subscript_of (take (i + 1) list)))
  sub_next_step next new h k =
      let all = ap (λ es. count_in_subscripts ls (subscripts es)) sub_more_is in
      let more = in-snoc ls sub_so_far (subscript_of x) in
      omega (arith, h, k, all, more)

  pub sub_reads_step : (next : ℕ) (first old new : List Reference) → next ≡ q + count_in_subscripts ls (subscripts sub_so_far) → old ≡ first ++ reads_in ls may q (subscripts sub_so_far)
      → new ≡ old ++ reads_of_subscript ls may next (subscript_of x) → new ≡ first ++ reads_in ls may q (subscripts (map subscript_of (take (i + 1) list)))
  sub_reads_step next first old new n h k =
      k ∙ ap (λ zs. zs ++ reads_of_subscript ls may next (subscript_of x)) h
      ∙ ap (λ m. (first ++ reads_in ls may q (subscripts sub_so_far)) ++ reads_of_subscript ls may m (subscript_of x)) n
      ∙ append_assoc first (reads_in ls may q (subscripts sub_so_far)) (reads_of_subscript ls may (q + count_in_subscripts ls (subscripts sub_so_far)) (subscript_of x))
      ∙ ap (λ zs. first ++ zs) (sym (reads_in-snoc ls may element q sub_so_far (subscript_of x)))
      ∙ ap (λ es. first ++ reads_in ls may q (subscripts es)) (sym sub_more_is)

  pub sub_copies_step : (next copies new : ℕ) → next ≡ q + count_in_subscripts ls (subscripts sub_so_far) → copies ≡ c + length (reads_in ls may q (subscripts sub_so_far))
      → new ≡ copies + length (reads_of_subscript ls may next (subscript_of x)) → new ≡ c + length (reads_in ls may q (subscripts (map subscript_of (take (i + 1) list))))
  sub_copies_step next copies new n h k =
      let all = ap length (sub_reads_step next [] (reads_in ls may q (subscripts sub_so_far)) (reads_in ls may q (subscripts sub_so_far) ++ reads_of_subscript ls may next (subscript_of x)) n refl refl) in
      let sum = length-append (reads_in ls may q (subscripts sub_so_far)) (reads_of_subscript ls may next (subscript_of x)) in
      omega (arith, h, k, all, sum)

  pub sub_made_step : (next copies : ℕ) (old new : List Subscript) → next ≡ q + count_in_subscripts ls (subscripts sub_so_far) → copies ≡ c + length (reads_in ls may q (subscripts sub_so_far))
      → old ≡ new_subscripts ls may element q c sub_so_far → new ≡ old ++ split_of_subscript ls may element next copies (subscript_of x) ∷ []
      → new ≡ new_subscripts ls may element q c (map subscript_of (take (i + 1) list))
  sub_made_step next copies old new n h o k =
      k ∙ ap (λ zs. zs ++ split_of_subscript ls may element next copies (subscript_of x) ∷ []) o
      ∙ ap (λ m. new_subscripts ls may element q c sub_so_far ++ split_of_subscript ls may element m copies (subscript_of x) ∷ []) n
      ∙ ap (λ d. new_subscripts ls may element q c sub_so_far ++ split_of_subscript ls may element (q + count_in_subscripts ls (subscripts sub_so_far)) d (subscript_of x) ∷ []) h
      ∙ sym (new_subscripts-snoc ls may element q c sub_so_far (subscript_of x))
      ∙ ap (new_subscripts ls may element q c) (sym sub_more_is)

pub ruleset item_laws = (copied-reads, copied-new, kept-reads, kept-new)

pub pushed_expr : (made new : List Expr) (x : Expr) (e : Expression) → new ≡ made ++ x ∷ [] → expression_of x ≡ e → map expression_of new ≡ map expression_of made ++ e ∷ []
pushed_expr made new x e h k = ap (map expression_of) h ∙ (map-append expression_of made (x ∷ []) ∙ ap (λ y. map expression_of made ++ y ∷ []) k)

pub pushed_sub : (made new : List Sub) (x : Sub) (e : Subscript) → new ≡ made ++ x ∷ [] → subscript_of x ≡ e → map subscript_of new ≡ map subscript_of made ++ e ∷ []
pushed_sub made new x e h k = ap (map subscript_of) h ∙ (map-append subscript_of made (x ∷ []) ∙ ap (λ y. map subscript_of made ++ y ∷ []) k)
