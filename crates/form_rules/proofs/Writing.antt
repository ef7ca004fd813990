-- A node in canonical text, whose parts are so.
use Rattle.std.proofs.Common.{◌≡◌, refl, sym, ap, ◌∙◌, subst, ℕ, ◌≤◌, ℤ, Bool, true, false, cond, ◌||◌, List, [], ◌++◌, map, length, Option, Some, None}
use Rattle.std.specs.Prelude.{nat_le}
use Rattle.std.specs.declared.alloc.Global.{Global}
use Rattle.std.specs.declared.boxed.Box.{Box}
use Rattle.std.proofs.lemmas.Bool.{leb-true, le-leb}
use Rattle.std.proofs.lemmas.List.Folds.{list_any-append}
use mathlib.Core.Path.{ap₂}
use Rattle.tree.specs.Plain.{Expression, Number, Logic, Named, Unary, Binary, Apply, Constructor, Spread, Transpose, Reshape, Reduce, expressions, Only, Reference, Section, Subscripts, subscripts}
use Rattle.tree.specs.View.{ConstructorLoop, expression_of, loop_of, constructor_loops as plain_loops, reference_of, subscript_of}
use Rattle.tree.specs.declared.exprs.Expr.{Expr}
use Rattle.tree.specs.declared.exprs.Expr.TheVariants as exprs
use Rattle.tree.specs.declared.exprs.Ref.{Ref, out-Ref, roll-Ref}
use Rattle.tree.specs.declared.exprs.Sub.{Sub}
use Rattle.tree.specs.declared.exprs.Sub.TheVariants as subs
use Rattle.tree.specs.declared.exprs.Turn.{Turn, out-Turn, roll-Turn}
use Rattle.tree.specs.declared.functions.Fun.{Fun}
use Rattle.tree.specs.declared.functions.Red.{Red}
use Rattle.tree.specs.declared.lists.Seq.{Seq}
use Rattle.tree.specs.declared.ops.Op.{Op}
use Rattle.tree.specs.declared.ops.Value.{Value}
use Rattle.tree.specs.declared.ops.Value.TheVariants.{Int, Truth}
use Rattle.tree.proofs.Equations.{reference_of-is, loop_of-is, subscript_of-one, subscript_of-part, expression_of-int, expression_of-truth, expression_of-item, expression_of-un, expression_of-bin, expression_of-call, expression_of-list, expression_of-spread, expression_of-transpose, expression_of-reshape, expression_of-reduce}
use Rattle.rewrite.specs.Making.{made, made_expressions, made_parts, made_subscript}
use Rattle.rewrite.specs.MadeBlocks.{made_inside, made_loop}
use Rattle.rewrite.specs.Names.{mentions, uses_in, uses_in_loops, uses_in_subscript, uses_in_subscripts}
use Rattle.rewrite.specs.Names.{uses_in_expressions}
use Rattle.rewrite.specs.NamesAlong.{uses_in_loop}
use Rattle.rewrite.specs.declared.uses.Use.{Use}
use Rattle.rewrite.proofs.Equations.{made_is, made_each, made_each_loop, made_each_subscript}
use Rattle.rewrite.proofs.UseLaws.{each_expression, each_loop, each_subscript}
use Rattle.subscripts.specs.declared.affine.Affine.{Affine}
use Rattle.linear_forms.specs.Canonical.{canonical_text, canonising, text_or}
use Rattle.linear_forms.specs.Linear.{form_of, linear, limited, constant_or, as_constant, constant_value, form_of_name}
use Rattle.linear_forms.specs.Parts.{IsPartOf}
use Rattle.linear_forms.specs.Affines.{IsFound}
use Rattle.linear_forms.specs.Texts.{text_of}
use Rattle.linear_forms.specs.declared.forms.Part.{Part}
use Rattle.linear_forms.proofs.PartLaws.{int_part, truth_part, item_part, call_part, list_part, spread_part, transpose_part, reshape_part, reduce_part}
use Rattle.linear_forms.proofs.CanonicalRule.{text-found, text-missing}
use Rattle.meaning.specs.Names.{is_among}
use Rattle.form_rules.specs.Written.{IsReady, IsWritten, AreWritten, AreArguments, SameLoop, SameLoops, SameParts, SameSubscript, SameSubscripts, stands_in, call_of, form_to_write}
use Rattle.form_rules.specs.declared.nodes.Written.{Written}
use Rattle.form_rules.specs.declared.nodes.WrittenList.{WrittenList}
use Rattle.form_rules.specs.declared.nodes.WrittenArguments.{WrittenArguments}

module _ (loops symbols : List (List ℕ)) where
  -- ---- a node

  node : (e : Expression) (x : Expr) (b : Bool) → expression_of x ≡ made_inside (canonising loops symbols) e → b ≡ mentions loops e
      → made (canonising loops symbols) e ≡ cond b (canonical_text loops symbols (expression_of x)) (expression_of x)
  node e x b h g =
      made_is (canonising loops symbols) e
      ∙ ap₂ (λ (c : Bool) (d : Expression). cond c (canonical_text loops symbols d) d) (sym g) (sym h)

  same_in_both : (b : Bool) (t x : Expression) → t ≡ x → cond b t x ≡ x
  same_in_both true t x h = h
  same_in_both false t x h = refl

  -- where it is no text of a form, its text is itself
  itself : (x : Expression) (b : Bool) (o : Option Affine) → (length loops ≤ 7 → IsFound (length loops) (linear (length loops) (loops ++ symbols) x) o)
      → None ≡ form_to_write b (length loops) o → cond b (canonical_text loops symbols x) x ≡ x
  itself x false o f h = refl
  itself x true o f h = by (nat_le (length loops) 7) refl h
    where
      by : (c : Bool) → nat_le (length loops) 7 ≡ c → None ≡ cond c o None → text_or loops symbols (cond c (linear (length loops) (loops ++ symbols) x) None) x ≡ x
      by true g k = text-missing loops symbols x (linear (length loops) (loops ++ symbols) x) (subst (IsFound (length loops) (linear (length loops) (loops ++ symbols) x)) (sym k) (f (leb-true (length loops) 7 g)))
      by false g k = refl

  record IsToWrite (b : Bool) (o : Option Affine) (a : Affine) : Type 0 where
    had_loop : b ≡ true
    few : length loops ≤ 7
    form : o ≡ Some a

  to_write : (b : Bool) (o : Option Affine) (a : Affine) → Some a ≡ form_to_write b (length loops) o → IsToWrite b o a
  to_write true o a h = by (nat_le (length loops) 7) refl h
    where
      by : (c : Bool) → nat_le (length loops) 7 ≡ c → Some a ≡ cond c o None → IsToWrite true o a
      by true g k = record { had_loop = refl; few = leb-true (length loops) 7 g; form = sym k }
      by false g k = cc
  to_write false o a h = cc

  pub settled_none : (e : Expression) (x : Expr) (had : Bool) (part : Part) → IsReady loops symbols e x had part → None ≡ form_to_write had (length loops) part.form
      → IsWritten loops symbols e (record { expr = x; had_loop = had; part = part })
  settled_none e x had part r h = record {
    made = sym (node e x had r.made r.stands ∙ itself (expression_of x) had part.form (λ few. (r.known few).form) h);
    stands = r.stands;
    known = r.known;
  }

  found_in : (x : Expression) (o : Option Affine) → length loops ≤ 7 → IsFound (length loops) (linear (length loops) (loops ++ symbols) x) o → IsFound (length loops) (form_of loops symbols x) o
  found_in x o h f = subst (λ b. IsFound (length loops) (cond b (linear (length loops) (loops ++ symbols) x) None) o) (sym (le-leb (length loops) 7 h)) f

  pub settled_some : (e : Expression) (x y : Expr) (had : Bool) (part q : Part) (a : Affine) → IsReady loops symbols e x had part → Some a ≡ form_to_write had (length loops) part.form
      → expression_of y ≡ text_of loops symbols [] a → (length loops ≤ 7 → IsPartOf (length loops) (loops ++ symbols) (expression_of y) q)
      → IsWritten loops symbols e (record { expr = y; had_loop = had; part = q })
  settled_some e x y had part q a r h t p =
      let w = to_write had part.form a h in
      record {
        made = t ∙ sym (node e x had r.made r.stands
            ∙ (ap (λ b. cond b (canonical_text loops symbols (expression_of x)) (expression_of x)) w.had_loop
            ∙ text-found loops symbols (expression_of x) (form_of loops symbols (expression_of x)) a
            (found_in (expression_of x) (Some a) w.few (subst (IsFound (length loops) (linear (length loops) (loops ++ symbols) (expression_of x))) w.form (r.known w.few).form))));
        stands = r.stands;
        known = p;
      }

  -- ---- names that stand in parts

  pub stands_in_both : (us vs : List Use) (a b : Bool) → a ≡ stands_in loops us → b ≡ stands_in loops vs → (a || b) ≡ stands_in loops (us ++ vs)
  stands_in_both us vs a b h k = ap₂ (λ a b. a || b) h k ∙ sym (list_any-append (λ (u : Use). is_among loops u.name) us vs)

  -- ---- the plain trees of nodes

  pub un_ready : (o : Op) (d : Expression) (a : Written) (part : Part) → IsWritten loops symbols d a
      → (length loops ≤ 7 → IsPartOf (length loops) (loops ++ symbols) (Unary o (expression_of a.expr)) part)
      → (box : Box Expr Global) → box.value ≡ a.expr → IsReady loops symbols (Unary o d) (exprs.Un o box) a.had_loop part
  un_ready o d a part w p box same =
      let here : expression_of (exprs.Un o box) ≡ Unary o (expression_of a.expr) = expression_of-un o box ∙ ap (λ x. Unary o (expression_of x)) same in
      record {
        made = here ∙ ap (Unary o) w.made;
        stands = w.stands;
        known = λ few. subst (λ x. IsPartOf (length loops) (loops ++ symbols) x part) (sym here) (p few);
      }

  pub bin_ready : (o : Op) (d e : Expression) (a b : Written) (had : Bool) (part : Part) → IsWritten loops symbols d a → IsWritten loops symbols e b → had ≡ (a.had_loop || b.had_loop)
      → (length loops ≤ 7 → IsPartOf (length loops) (loops ++ symbols) (Binary o (expression_of a.expr) (expression_of b.expr)) part)
      → (left right : Box Expr Global) → left.value ≡ a.expr → right.value ≡ b.expr → IsReady loops symbols (Binary o d e) (exprs.Bin o left right) had part
  bin_ready o d e a b had part v w h p left right one two =
      let here : expression_of (exprs.Bin o left right) ≡ Binary o (expression_of a.expr) (expression_of b.expr) =
      expression_of-bin o left right ∙ ap₂ (λ x y. Binary o (expression_of x) (expression_of y)) one two in
      record {
        made = here ∙ ap₂ (Binary o) v.made w.made;
        stands = h ∙ stands_in_both (uses_in d) (uses_in e) a.had_loop b.had_loop v.stands w.stands;
        known = λ few. subst (λ x. IsPartOf (length loops) (loops ++ symbols) x part) (sym here) (p few);
      }

  abbrev unknown : Part
  unknown = record { constant = None; form = None }

  pub transpose_ready : (d : Expression) (a : Written) → IsWritten loops symbols d a
      → (box : Box Expr Global) → box.value ≡ a.expr → IsReady loops symbols (Transpose d) (exprs.Transpose box) a.had_loop unknown
  transpose_ready d a w box same = record {
    made = expression_of-transpose box ∙ ap (λ x. Transpose (expression_of x)) same ∙ ap Transpose w.made;
    stands = w.stands;
    known = λ few. transpose_part (length loops) (loops ++ symbols) box;
  }

  pub reduce_ready : (r : Red) (d : Expression) (a : Written) → IsWritten loops symbols d a
      → (box : Box Expr Global) → box.value ≡ a.expr → IsReady loops symbols (Reduce r d) (exprs.Reduce r box) a.had_loop unknown
  reduce_ready r d a w box same = record {
    made = expression_of-reduce r box ∙ ap (λ x. Reduce r (expression_of x)) same ∙ ap (Reduce r) w.made;
    stands = w.stands;
    known = λ few. reduce_part (length loops) (loops ++ symbols) r box;
  }

  pub spread_ready : (n : ℕ) (d e : Expression) (a b : Written) (had : Bool) → IsWritten loops symbols d a → IsWritten loops symbols e b → had ≡ (a.had_loop || b.had_loop)
      → (left right : Box Expr Global) → left.value ≡ a.expr → right.value ≡ b.expr → IsReady loops symbols (Spread d n e) (exprs.Spread left n right) had unknown
  spread_ready n d e a b had v w h left right one two = record {
    made = expression_of-spread left n right ∙ ap₂ (λ x y. Spread (expression_of x) n (expression_of y)) one two ∙ ap₂ (λ x y. Spread x n y) v.made w.made;
    stands = h ∙ stands_in_both (uses_in d) (uses_in e) a.had_loop b.had_loop v.stands w.stands;
    known = λ few. spread_part (length loops) (loops ++ symbols) left n right;
  }

  written_each : (es : List Expression) (list : WrittenList) → AreWritten loops symbols es list → expressions (map expression_of list.exprs) ≡ made_expressions (canonising loops symbols) (expressions es)
  written_each es list w = ap expressions w.made ∙ made_each (canonising loops symbols) es

  had_each : (es : List Expression) (list : WrittenList) → AreWritten loops symbols es list → list.had_loop ≡ stands_in loops (uses_in_expressions (expressions es))
  had_each es list w = w.stands ∙ ap (stands_in loops) (sym (each_expression es))

  pub reshape_ready : (d : Expression) (es : List Expression) (a : Written) (list : WrittenList) (had : Bool) → IsWritten loops symbols d a → AreWritten loops symbols es list → had ≡ (a.had_loop || list.had_loop)
      → (box : Box Expr Global) → box.value ≡ a.expr → IsReady loops symbols (Reshape d (expressions es)) (exprs.Reshape box list.exprs) had unknown
  reshape_ready d es a list had v w h box same = record {
    made = expression_of-reshape box list.exprs ∙ ap (λ x. Reshape (expression_of x) (expressions (map expression_of list.exprs))) same ∙ ap₂ Reshape v.made (written_each es list w);
    stands = h ∙ stands_in_both (uses_in d) (uses_in_expressions (expressions es)) a.had_loop list.had_loop v.stands (had_each es list w);
    known = λ few. reshape_part (length loops) (loops ++ symbols) box list.exprs;
  }

  pub list_ready : (es : List Expression) (ls : List ConstructorLoop) (list : WrittenList) (turns : Seq Turn) (b had : Bool) → AreWritten loops symbols es list → SameLoops loops symbols ls turns b → had ≡ (list.had_loop || b)
      → IsReady loops symbols (Constructor (expressions es) (plain_loops ls)) (exprs.List list.exprs turns) had unknown
  list_ready es ls list turns b had w t h = record {
    made = expression_of-list list.exprs turns ∙ ap₂ Constructor (written_each es list w) (ap plain_loops t.made ∙ made_each_loop (canonising loops symbols) ls);
    stands = h ∙ stands_in_both (uses_in_expressions (expressions es)) (uses_in_loops (plain_loops ls)) list.had_loop b (had_each es list w) (t.stands ∙ ap (stands_in loops) (sym (each_loop ls)));
    known = λ few. list_part (length loops) (loops ++ symbols) list.exprs turns;
  }

  pub call_ready : (f : Fun) (es : List Expression) (arguments : WrittenArguments) (part : Part) (v : Option Value) → AreArguments loops symbols f es arguments
      → part.constant ≡ v → v ≡ call_of f arguments.given → ((n : ℕ) → IsFound n (limited n (constant_or (as_constant v) None)) part.form)
      → IsReady loops symbols (Apply f (expressions es)) (exprs.Call f arguments.list.exprs) arguments.list.had_loop part
  call_ready f es arguments part v a c g p = record {
    made = expression_of-call f arguments.list.exprs ∙ ap (Apply f) (written_each es arguments.list a.list);
    stands = had_each es arguments.list a.list;
    known = λ few. call_part (length loops) (loops ++ symbols) f arguments.list.exprs part
        (c ∙ (g ∙ (a.constant few ∙ sym (ap constant_value (expression_of-call f arguments.list.exprs)))))
        (subst (λ v. IsFound (length loops) (limited (length loops) (constant_or (as_constant v) None)) part.form) (sym c) (p (length loops)));
  }

  pub number_ready : (n : ℤ) (part : Part) → part.constant ≡ Some (Int n) → ((m : ℕ) → IsFound m (limited m (constant_or (as_constant part.constant) None)) part.form)
      → IsReady loops symbols (Number n) (exprs.Int n) false part
  number_ready n part c p = record {
    made = expression_of-int n;
    stands = refl;
    known = λ few. int_part (length loops) (loops ++ symbols) n part c (p (length loops));
  }

  pub truth_ready : (b : Bool) → IsReady loops symbols (Logic b) (exprs.Truth b) false (record { constant = Some (Truth b); form = None })
  truth_ready b = record { made = expression_of-truth b; stands = refl; known = λ few. truth_part (length loops) (loops ++ symbols) b }

  pub item_ready : (r : Reference) (item : Ref) (had b : Bool) (form : Option Affine) → reference_of item ≡ made_parts (canonising loops symbols) r
      → b ≡ stands_in loops (uses_in_subscripts r.subscripts) → had ≡ (is_among loops (out-Ref item).name || b)
      → (length loops ≤ 7 → IsFound (length loops) (limited (length loops) (form_of_name (loops ++ symbols) (reference_of item).name (reference_of item).subscripts)) form)
      → IsReady loops symbols (Named r.name r.subscripts) (exprs.Item item) had (record { constant = None; form = form })
  item_ready r item had b form h g k p =
      let name : (out-Ref item).name ≡ r.name = ap (λ (q : Reference). q.name) (sym (reference_of-is item) ∙ h) in
      record {
        made = expression_of-item item ∙ ap (λ (q : Reference). Named q.name q.subscripts) h;
        stands = k ∙ ap₂ (λ (x : List ℕ) c. is_among loops x || c) name g;
        known = λ few. item_part (length loops) (loops ++ symbols) item form (p few);
      }

  -- ---- loops, references and subscripts

  pub loop_same : (l : Turn) (first last : Written) (b : Bool) → IsWritten loops symbols (expression_of (out-Turn l).first) first → IsWritten loops symbols (expression_of (out-Turn l).last) last
      → b ≡ (first.had_loop || last.had_loop)
      → SameLoop loops symbols (loop_of l) (roll-Turn (record { var = (out-Turn l).var; first = first.expr; last = last.expr })) b
  loop_same l first last b f g h = record {
    made = loop_of-is (roll-Turn (record { var = (out-Turn l).var; first = first.expr; last = last.expr }))
        ∙ ap₂ (λ (x y : Expression). let p : ConstructorLoop = record { variable = (out-Turn l).var; first = x; last = y } in p) f.made g.made
        ∙ sym (ap (made_loop (canonising loops symbols)) (loop_of-is l));
    stands = h ∙ stands_in_both (uses_in (expression_of (out-Turn l).first)) (uses_in (expression_of (out-Turn l).last)) first.had_loop last.had_loop f.stands g.stands
        ∙ ap (λ (p : ConstructorLoop). stands_in loops (uses_in_loop p)) (sym (loop_of-is l));
  }

  pub parts_same : (r : Ref) (subs : Seq Sub) (b : Bool) → SameSubscripts loops symbols (map subscript_of (out-Ref r).subs) subs b
      → SameParts loops symbols (reference_of r) (roll-Ref (record { name = (out-Ref r).name; subs = subs })) b
  parts_same r subs b s = record {
    made = reference_of-is (roll-Ref (record { name = (out-Ref r).name; subs = subs }))
        ∙ ap (λ (ps : Subscripts). let q : Reference = record { name = (out-Ref r).name; subscripts = ps } in q)
        (ap subscripts s.made ∙ made_each_subscript (canonising loops symbols) (map subscript_of (out-Ref r).subs))
        ∙ sym (ap (made_parts (canonising loops symbols)) (reference_of-is r));
    stands = s.stands ∙ ap (stands_in loops) (sym (each_subscript (map subscript_of (out-Ref r).subs)))
        ∙ ap (λ (q : Reference). stands_in loops (uses_in_subscripts q.subscripts)) (sym (reference_of-is r));
  }

  pub one_same : (s : Sub) (e : Expr) (w : Written) → s ≡ subs.One e → IsWritten loops symbols (expression_of e) w → SameSubscript loops symbols (subscript_of s) (subs.One w.expr) w.had_loop
  one_same s e w h i =
      let here = ap subscript_of h ∙ subscript_of-one e in
      record {
        made = subscript_of-one w.expr ∙ ap Only i.made ∙ sym (ap (made_subscript (canonising loops symbols)) here);
        stands = i.stands ∙ ap (λ p. stands_in loops (uses_in_subscript p)) (sym here);
      }

  three : (a b c d e f : Expression) → a ≡ d → b ≡ e → c ≡ f → Section a b c ≡ Section d e f
  three a b c d e f h i j = ap₂ (λ x y. Section x y c) h i ∙ ap (Section d e) j

  pub part_same : (s : Sub) (a b c : Expr) (u v w : Written) (had : Bool) → s ≡ subs.Part a b c
      → IsWritten loops symbols (expression_of a) u → IsWritten loops symbols (expression_of b) v → IsWritten loops symbols (expression_of c) w
      → had ≡ ((u.had_loop || v.had_loop) || w.had_loop) → SameSubscript loops symbols (subscript_of s) (subs.Part u.expr v.expr w.expr) had
  part_same s a b c u v w had h i j k g =
      let here = ap subscript_of h ∙ subscript_of-part a b c in
      record {
        made = subscript_of-part u.expr v.expr w.expr ∙ three _ _ _ _ _ _ i.made j.made k.made ∙ sym (ap (made_subscript (canonising loops symbols)) here);
        stands = g ∙ stands_in_both (uses_in (expression_of a) ++ uses_in (expression_of b)) (uses_in (expression_of c)) (u.had_loop || v.had_loop) w.had_loop
            (stands_in_both (uses_in (expression_of a)) (uses_in (expression_of b)) u.had_loop v.had_loop i.stands j.stands) k.stands
            ∙ ap (λ p. stands_in loops (uses_in_subscript p)) (sym here);
      }
