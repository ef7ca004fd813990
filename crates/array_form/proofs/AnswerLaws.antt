-- What is answered for expressions, references and subscripts.
use Rattle.std.proofs.Common.{◌≡◌, ℕ, ◌+◌, ◌==◌, Bool, true, false, cond, List, [], ◌∷◌, map, drop, length, Option, Some, None, Result, Ok, Err, refl, sym, ap, subst, ◌∙◌, arith}
use mathlib.Core.Path.{ap₂}
use Rattle.std.specs.Prelude.{IfOk, IsTrue}
use Rattle.std.specs.List.{list_all}
use Rattle.std.proofs.lemmas.Bool.Decides.{Decides-eqb}
use Rattle.std.proofs.lemmas.List.Elements.{All-append}
use Rattle.tree.specs.Plain.{Statement, Assignment, Where, If, no_arms, arm, Block, no_statements, Expression, Named, Only, Reference, Subscript, subscripts}
use Rattle.tree.specs.View.{block_of, expression_of, reference_of, statement_of, subscript_of}
use Rattle.tree.specs.declared.exprs.Expr.{Expr}
use Rattle.tree.specs.declared.exprs.Expr.TheVariants as exprs
use Rattle.tree.specs.declared.exprs.Ref.{Ref, out-Ref, roll-Ref}
use Rattle.tree.specs.declared.exprs.Sub.{Sub}
use Rattle.tree.specs.declared.exprs.Sub.TheVariants as subs
use Rattle.tree.specs.declared.lists.Memory.{Memory}
use Rattle.tree.specs.declared.stmts.Block.{Block as Block'}
use Rattle.tree.specs.declared.lists.Seq.{Seq}
use Rattle.tree.specs.declared.stmts.Mark.{Mark}
use Rattle.tree.specs.declared.stmts.Stmt.TheVariants as stmts
use Rattle.tree.proofs.Equations.{expression_of-item, reference_of-is, reference_of-made, statement_of-assign, statement_of-masked, subscript_of-one}
use Rattle.meaning.specs.Reads.{names_in, names_in_subscript}
use Rattle.array_form.specs.forms.Forms.{constructed, form, placed_expression, subscript_form, subscript_forms}
use Rattle.array_form.specs.forms.Loops as forms
use Rattle.array_form.specs.forms.Statements.{array_assignment, guarded_form, left_form, loops_assigned, loops_from, right_form, stand_in_guard}
use Rattle.array_form.specs.Statement.{block_of_one, masked_over, under_condition}
use Rattle.array_form.specs.holds.Surroundings.{counted_of}
use Rattle.array_form.specs.holds.View.{surroundings_view}
use Rattle.array_form.specs.declared.holds.loops.CountedLoop.{CountedLoop}
use Rattle.array_form.specs.declared.holds.loops.Surroundings.{Surroundings}
use Rattle.array_form.specs.Loops.{AreLoopsOf, IsLoopOf, has_one, in_order, standing_in, viewed}
use Rattle.array_form.specs.Subscripts.{form_of_subscript, item_form, section_or, variable_form}
use Rattle.array_form.proofs.FormLaws.{each_subscript, form-item, form_of-one, item_bare, item_element, item_variable}
use Rattle.array_form.proofs.LoopLaws.{each_viewed, order_viewed, standing_are, standing_viewed}
use Rattle.array_form.proofs.StatementLaws.{from_place}

module _ (a : Surroundings) where
  abbrev V : forms.FormSurroundings
  V = surroundings_view a

  named : (copy item : Ref) → reference_of copy ≡ reference_of item → expression_of (exprs.Item copy) ≡ Named (reference_of item).name (reference_of item).subscripts
  named copy item c = expression_of-item copy ∙ ap (λ (q : Reference). Named q.name q.subscripts) c

  -- ---- references

  pub variable_ok : (over here : List CountedLoop) (item copy : Ref) (plain : Expr) (o : Result Expr Memory) → reference_of copy ≡ reference_of item
      → expression_of plain ≡ constructed (forms.form_names_of (surroundings_view a)) (viewed a here) (expression_of (exprs.Item copy))
      → IfOk o (λ e. expression_of e ≡ placed_expression (surroundings_view a) (viewed a over) (viewed a here) (expression_of plain) (Named (reference_of item).name (reference_of item).subscripts))
      → IfOk o (λ e. expression_of e ≡ variable_form (surroundings_view a) (viewed a over) (viewed a here) (reference_of item))
  variable_ok over here item copy plain (Ok e) c p is =
      is ∙ ap (λ x. placed_expression (surroundings_view a) (viewed a over) (viewed a here) x (Named (reference_of item).name (reference_of item).subscripts))
      (p ∙ ap (constructed (forms.form_names_of (surroundings_view a)) (viewed a here)) (named copy item c))
  variable_ok over here item copy plain (Err m) c p is = is

  none_viewed : (here : List CountedLoop) → viewed a here ≡ [] → here ≡ []
  none_viewed [] h = refl
  none_viewed (l ∷ ls) h = cc

  empty_list : {X : Type 0} (xs : List X) (b : Bool) → b ≡ (length xs == 0) → b ≡ true → xs ≡ []
  empty_list [] b e t = refl
  empty_list (x ∷ xs) b e t = let z : length (x ∷ xs) ≡ 0 = (Decides-eqb (length (x ∷ xs)) 0).0 (sym e ∙ t) in absurd (omega arith)

  filled_list : {X : Type 0} (xs : List X) (b : Bool) → b ≡ (length xs == 0) → b ≡ false → xs ≡ [] → ⊥
  filled_list xs b e f h =
      let t : (length xs == 0) ≡ true = (Decides-eqb (length xs) 0).1 (ap length h) in
      let g : true ≡ false = sym t ∙ sym e ∙ f in
      cc

  no_subs : (item : Ref) (d : Bool) → (IsTrue d → (out-Ref item).subs ≡ []) × ((out-Ref item).subs ≡ [] → IsTrue d) → d ≡ true → (out-Ref item).subs ≡ []
  no_subs item d h t = h.0 t

  some_subs : (item : Ref) (d : Bool) → (IsTrue d → (out-Ref item).subs ≡ []) × ((out-Ref item).subs ≡ [] → IsTrue d) → d ≡ false → (out-Ref item).subs ≡ [] → ⊥
  some_subs item d h f e = let g : true ≡ false = sym (h.1 e) ∙ f in cc

  pub bare_is : (over here : List CountedLoop) (item copy : Ref) (b : Bool) → b ≡ (length here == 0) → b ≡ true → reference_of copy ≡ reference_of item
      → expression_of (exprs.Item copy) ≡ item_form (surroundings_view a) (viewed a over) (viewed a here) (reference_of item)
  bare_is over here item copy b e t c =
      named copy item c ∙ sym (item_bare (surroundings_view a) (viewed a over) (viewed a here) (reference_of item) (ap (viewed a) (empty_list here b e t)))

  pub variable_item : (over here : List CountedLoop) (item : Ref) (b d : Bool) (o : Result Expr Memory) → b ≡ (length here == 0) → b ≡ false → (IsTrue d → (out-Ref item).subs ≡ []) × ((out-Ref item).subs ≡ [] → IsTrue d) → d ≡ true
      → IfOk o (λ e. expression_of e ≡ variable_form (surroundings_view a) (viewed a over) (viewed a here) (reference_of item))
      → IfOk o (λ e. expression_of e ≡ item_form (surroundings_view a) (viewed a over) (viewed a here) (reference_of item))
  variable_item over here item b d (Ok e) be bf de dt is =
      is ∙ sym (item_variable (surroundings_view a) (viewed a over) (viewed a here) item (λ h. filled_list here b be bf (none_viewed here h)) (no_subs item d de dt))
  variable_item over here item b d (Err m) be bf de dt is = is

  element : (over here : List CountedLoop) (item : Ref) (b d f : Bool) → b ≡ (length here == 0) → b ≡ false → (IsTrue d → (out-Ref item).subs ≡ []) × ((out-Ref item).subs ≡ [] → IsTrue d) → d ≡ false
      → f ≡ list_all (has_one over) (map subscript_of (out-Ref item).subs)
      → item_form (surroundings_view a) (viewed a over) (viewed a here) (reference_of item)
      ≡ cond f
      (placed_expression (surroundings_view a) (viewed a over) (viewed a (in_order over (map subscript_of (out-Ref item).subs)))
      (Named (out-Ref item).name (subscript_forms (surroundings_view a) (viewed a over) (subscripts (map subscript_of (out-Ref item).subs)))) (Named (reference_of item).name (reference_of item).subscripts))
      (constructed (forms.form_names_of (surroundings_view a)) (viewed a over) (Named (reference_of item).name (reference_of item).subscripts))
  element over here item b d f be bf de df fe =
      let ps = map subscript_of (out-Ref item).subs in
      let whole = Named (reference_of item).name (reference_of item).subscripts in
      let formed = Named (out-Ref item).name (subscript_forms (surroundings_view a) (viewed a over) (subscripts ps)) in
      item_element (surroundings_view a) (viewed a over) (viewed a here) item (λ h. filled_list here b be bf (none_viewed here h)) (some_subs item d de df)
      ∙ ap₂ (λ t ls. cond t (placed_expression (surroundings_view a) (viewed a over) ls formed whole) (constructed (forms.form_names_of (surroundings_view a)) (viewed a over) whole))
      (each_viewed (length a.loops) over ps ∙ sym fe) (sym (order_viewed (length a.loops) over ps))

  pub listed_ok : (over here : List CountedLoop) (item copy : Ref) (b d f : Bool) (o : Result Expr Memory) → b ≡ (length here == 0) → b ≡ false → (IsTrue d → (out-Ref item).subs ≡ []) × ((out-Ref item).subs ≡ [] → IsTrue d) → d ≡ false
      → f ≡ list_all (has_one over) (map subscript_of (out-Ref item).subs) → f ≡ false → reference_of copy ≡ reference_of item
      → IfOk o (λ e. expression_of e ≡ constructed (forms.form_names_of (surroundings_view a)) (viewed a over) (expression_of (exprs.Item copy)))
      → IfOk o (λ e. expression_of e ≡ item_form (surroundings_view a) (viewed a over) (viewed a here) (reference_of item))
  listed_ok over here item copy b d f (Ok e) be bf de df fe ff c is =
      let ps = map subscript_of (out-Ref item).subs in
      let whole = Named (reference_of item).name (reference_of item).subscripts in
      let formed = Named (out-Ref item).name (subscript_forms (surroundings_view a) (viewed a over) (subscripts ps)) in
      is ∙ ap (constructed (forms.form_names_of (surroundings_view a)) (viewed a over)) (named copy item c)
      ∙ sym (element over here item b d f be bf de df fe
      ∙ ap (λ t. cond t (placed_expression (surroundings_view a) (viewed a over) (viewed a (in_order over ps)) formed whole) (constructed (forms.form_names_of (surroundings_view a)) (viewed a over) whole)) ff)
  listed_ok over here item copy b d f (Err m) be bf de df fe ff c is = is

  pub placed_ok : (over here order : List CountedLoop) (item : Ref) (formed : Seq Sub) (given : List CountedLoop) (b d f : Bool) (o : Result Expr Memory) → b ≡ (length here == 0) → b ≡ false → (IsTrue d → (out-Ref item).subs ≡ []) × ((out-Ref item).subs ≡ [] → IsTrue d) → d ≡ false
      → f ≡ list_all (has_one over) (map subscript_of (out-Ref item).subs) → f ≡ true → order ≡ in_order over (map subscript_of (out-Ref item).subs) → given ≡ order
      → map subscript_of formed ≡ map (form_of_subscript (surroundings_view a) (viewed a over)) (map subscript_of (out-Ref item).subs)
      → IfOk o (λ e. expression_of e ≡ placed_expression (surroundings_view a) (viewed a over) (viewed a given) (expression_of (exprs.Item (roll-Ref (record { name = (out-Ref item).name; subs = formed }))))
      (Named (reference_of item).name (reference_of item).subscripts))
      → IfOk o (λ e. expression_of e ≡ item_form (surroundings_view a) (viewed a over) (viewed a here) (reference_of item))
  placed_ok over here order item formed given b d f (Ok e) be bf de df fe ft oe ge se is =
      let ps = map subscript_of (out-Ref item).subs in
      let whole = Named (reference_of item).name (reference_of item).subscripts in
      let plain = Named (out-Ref item).name (subscript_forms (surroundings_view a) (viewed a over) (subscripts ps)) in
      let same : expression_of (exprs.Item (roll-Ref (record { name = (out-Ref item).name; subs = formed }))) ≡ plain =
      expression_of-item (roll-Ref (record { name = (out-Ref item).name; subs = formed }))
      ∙ ap (λ (q : Reference). Named q.name q.subscripts) (reference_of-made (out-Ref item).name formed)
      ∙ ap (λ qs. Named (out-Ref item).name qs) (ap subscripts se ∙ sym (each_subscript (surroundings_view a) (viewed a over) ps)) in
      is ∙ ap₂ (λ ls x. placed_expression (surroundings_view a) (viewed a over) (viewed a ls) x whole) (ge ∙ oe) same
      ∙ sym (element over here item b d f be bf de df fe
      ∙ ap (λ t. cond t (placed_expression (surroundings_view a) (viewed a over) (viewed a (in_order over ps)) plain whole) (constructed (forms.form_names_of (surroundings_view a)) (viewed a over) whole)) ft)
  placed_ok over here order item formed given b d f (Err m) be bf de df fe ft oe ge se is = is

  -- ---- expressions

  pub kept_ok : (over : List CountedLoop) (e x : Expr) (o : Result Expr Memory) → form (surroundings_view a) (viewed a over) (expression_of x) ≡ expression_of x → e ≡ x
      → IfOk o (λ c. expression_of c ≡ expression_of e) → IfOk o (λ c. expression_of c ≡ form (surroundings_view a) (viewed a over) (expression_of e))
  kept_ok over e x (Ok c) k h is = is ∙ ap expression_of h ∙ sym k ∙ ap (λ y. form (surroundings_view a) (viewed a over) (expression_of y)) (sym h)
  kept_ok over e x (Err m) k h is = is

  pub item_ok : (over here given : List CountedLoop) (e : Expr) (r : Ref) (o : Result Expr Memory) → e ≡ exprs.Item r → here ≡ standing_in over (names_in (expression_of e)) → given ≡ here
      → IfOk o (λ c. expression_of c ≡ item_form (surroundings_view a) (viewed a over) (viewed a given) (reference_of r))
      → IfOk o (λ c. expression_of c ≡ form (surroundings_view a) (viewed a over) (expression_of e))
  item_ok over here given e r (Ok c) h s g is =
      is ∙ ap (λ ls. item_form (surroundings_view a) (viewed a over) ls (reference_of r))
      (ap (viewed a) (g ∙ s) ∙ standing_viewed (length a.loops) over (names_in (expression_of e)) ∙ ap (λ x. forms.loops_among (viewed a over) (names_in (expression_of x))) h)
      ∙ sym (form-item (surroundings_view a) (viewed a over) r) ∙ ap (λ x. form (surroundings_view a) (viewed a over) (expression_of x)) (sym h)
  item_ok over here given e r (Err m) h s g is = is

  pub here_loops : (over here given : List CountedLoop) (names : List (List ℕ)) → AreLoopsOf a over → here ≡ standing_in over names → given ≡ here → AreLoopsOf a given
  here_loops over here given names h s g = subst (AreLoopsOf a) (sym (g ∙ s)) (standing_are a over names h)

  -- ---- subscripts

  sub_form : (over : List CountedLoop) (p : Sub) (e : Expr) → p ≡ subs.One e → (formed : Subscript) (here given : List CountedLoop)
      → here ≡ standing_in over (names_in (expression_of e)) → given ≡ here
      → formed ≡ subscript_form (surroundings_view a) (viewed a given) (expression_of e) (form (surroundings_view a) (viewed a given) (expression_of e))
      → formed ≡ form_of_subscript (surroundings_view a) (viewed a over) (subscript_of p)
  sub_form over p e h formed here given s g is =
      let D = viewed a given in
      let same : viewed a given ≡ forms.loops_among (viewed a over) (names_in (expression_of e)) = ap (viewed a) (g ∙ s) ∙ standing_viewed (length a.loops) over (names_in (expression_of e)) in
      is ∙ ap (λ ls. subscript_form (surroundings_view a) ls (expression_of e) (form (surroundings_view a) ls (expression_of e))) same
      ∙ sym (form_of-one (surroundings_view a) (viewed a over) e) ∙ ap (λ q. form_of_subscript (surroundings_view a) (viewed a over) (subscript_of q)) (sym h)

  pub section_is : (over here given : List CountedLoop) (p : Sub) (e : Expr) (q : Sub) (o : Option Sub) → p ≡ subs.One e → here ≡ standing_in over (names_in (expression_of e)) → given ≡ here → o ≡ Some q
      → ((formed : Expression) → section_or o formed ≡ subscript_form (surroundings_view a) (viewed a given) (expression_of e) formed)
      → subscript_of q ≡ form_of_subscript (surroundings_view a) (viewed a over) (subscript_of p)
  section_is over here given p e q o h s g oe is =
      sub_form over p e h (subscript_of q) here given s g
      (ap (λ x. section_or x (form (surroundings_view a) (viewed a given) (expression_of e))) (sym oe) ∙ is (form (surroundings_view a) (viewed a given) (expression_of e)))

  pub rank_one : (over here given again : List CountedLoop) (p : Sub) (e f : Expr) (o : Option Sub) → p ≡ subs.One e → here ≡ standing_in over (names_in (expression_of e)) → given ≡ here → again ≡ here → o ≡ None
      → ((formed : Expression) → section_or o formed ≡ subscript_form (surroundings_view a) (viewed a given) (expression_of e) formed)
      → expression_of f ≡ form (surroundings_view a) (viewed a again) (expression_of e)
      → subscript_of (subs.One f) ≡ form_of_subscript (surroundings_view a) (viewed a over) (subscript_of p)
  rank_one over here given again p e f o h s g r oe is fe =
      sub_form over p e h (subscript_of (subs.One f)) here given s g
      (subscript_of-one f ∙ ap Only (fe ∙ ap (λ ls. form (surroundings_view a) (viewed a ls) (expression_of e)) (r ∙ sym g))
      ∙ ap (λ x. section_or x (form (surroundings_view a) (viewed a given) (expression_of e))) (sym oe) ∙ is (form (surroundings_view a) (viewed a given) (expression_of e)))

  -- ---- statements

  order_loops : (ls : List CountedLoop) (ps : List Subscript) → AreLoopsOf a ls → AreLoopsOf a (in_order ls ps)
  order_loops ls [] h = λ k d g. absurd (omega arith)
  order_loops ls (p ∷ ps) h =
      All-append (IsLoopOf a) (standing_in ls (names_in_subscript p)) (in_order ls ps) (standing_are a ls (names_in_subscript p) h) (order_loops ls ps h)

  pub over_loops : (from : ℕ) (part over given : List CountedLoop) (ps : List Subscript) → AreLoopsOf a a.loops → part ≡ drop from a.loops → over ≡ in_order part ps → given ≡ over → AreLoopsOf a given
  over_loops from part over given ps h p e g =
      subst (AreLoopsOf a) (sym (g ∙ e)) (order_loops part ps (subst (AreLoopsOf a) (sym p) (Rattle.std.proofs.lemmas.List.Elements.All-drop (IsLoopOf a) from a.loops h)))

  pub assignment_is : (from line : ℕ) (mark : Option Mark) (part over one two : List CountedLoop) (left : Ref) (right made : Expr) (formed : Seq Sub)
      → part ≡ drop from a.loops → over ≡ in_order part (map subscript_of (out-Ref left).subs) → one ≡ over → two ≡ over
      → map subscript_of formed ≡ map (form_of_subscript (surroundings_view a) (viewed a one)) (map subscript_of (out-Ref left).subs)
      → expression_of made ≡ form (surroundings_view a) (viewed a two) (expression_of right)
      → statement_of (stmts.Assign line mark (roll-Ref (record { name = (out-Ref left).name; subs = formed })) made)
      ≡ array_assignment (surroundings_view a) (from + 1) line mark (reference_of left) (expression_of right)
  assignment_is from line mark part over one two left right made formed p e o t se me =
      let ps = map subscript_of (out-Ref left).subs in
      let is = reference_of-is left in
      let D = forms.loops_in_order (loops_from (surroundings_view a) (from + 1)) (subscripts ps) in
      let here : viewed a over ≡ D =
      ap (viewed a) (e ∙ ap (λ ls. in_order ls ps) p) ∙ order_viewed (length a.loops) (drop from a.loops) ps
      ∙ ap (λ ls. forms.loops_in_order ls (subscripts ps)) (sym (from_place a from)) in
      let left_is : reference_of (roll-Ref (record { name = (out-Ref left).name; subs = formed })) ≡ left_form (surroundings_view a) (from + 1) (record { name = (out-Ref left).name; subscripts = subscripts ps }) =
      reference_of-made (out-Ref left).name formed
      ∙ ap (λ qs. let q : Reference = record { name = (out-Ref left).name; subscripts = qs } in q)
      (ap subscripts (se ∙ ap (λ ls. map (form_of_subscript (surroundings_view a) ls) ps) (ap (viewed a) o ∙ here)) ∙ sym (each_subscript (surroundings_view a) D ps)) in
      let right_is : expression_of made ≡ right_form (surroundings_view a) (from + 1) (record { name = (out-Ref left).name; subscripts = subscripts ps }) (expression_of right) =
      me ∙ ap (λ ls. form (surroundings_view a) ls (expression_of right)) (ap (viewed a) t ∙ here) in
      statement_of-assign line mark (roll-Ref (record { name = (out-Ref left).name; subs = formed })) made ∙ ap₂ (Assignment line mark) left_is right_is
      ∙ ap (λ (q : Reference). Assignment line mark (left_form (surroundings_view a) (from + 1) q) (right_form (surroundings_view a) (from + 1) q (expression_of right))) (sym is)

  -- ---- under a guard

  -- the loops in the order of the left subscripts
  pub assigned_loops : (from : ℕ) (part over given : List CountedLoop) (left : Ref) → part ≡ drop from a.loops → over ≡ in_order part (map subscript_of (out-Ref left).subs) → given ≡ over
      → viewed a given ≡ loops_assigned (surroundings_view a) (from + 1) (reference_of left)
  assigned_loops from part over given left p e g =
      let ps = map subscript_of (out-Ref left).subs in
      ap (viewed a) (g ∙ (e ∙ ap (λ ls. in_order ls ps) p)) ∙ order_viewed (length a.loops) (drop from a.loops) ps
      ∙ ap (λ ls. forms.loops_in_order ls (subscripts ps)) (sym (from_place a from))
      ∙ ap (λ (q : Reference). loops_assigned (surroundings_view a) (from + 1) q) (sym (reference_of-is left))

  pub masked_is : (line : ℕ) (mark : Option Mark) (over : List CountedLoop) (guard : Expression) (left : Ref) (right : Expression) (mask made : Expr) (formed : Seq Sub)
      → map subscript_of formed ≡ map (form_of_subscript (surroundings_view a) (viewed a over)) (map subscript_of (out-Ref left).subs)
      → expression_of mask ≡ form (surroundings_view a) (viewed a over) guard → expression_of made ≡ form (surroundings_view a) (viewed a over) right
      → statement_of (stmts.Masked line mark mask (roll-Ref (record { name = (out-Ref left).name; subs = formed })) made)
      ≡ masked_over (surroundings_view a) (viewed a over) line mark guard (reference_of left) right
  masked_is line mark over guard left right mask made formed se ge me =
      let ps = map subscript_of (out-Ref left).subs in
      let D = viewed a over in
      let left_is : reference_of (roll-Ref (record { name = (out-Ref left).name; subs = formed })) ≡ record { name = (reference_of left).name; subscripts = subscript_forms (surroundings_view a) D (reference_of left).subscripts } =
      reference_of-made (out-Ref left).name formed
      ∙ (ap (λ qs. let q : Reference = record { name = (out-Ref left).name; subscripts = qs } in q) (ap subscripts se ∙ sym (each_subscript (surroundings_view a) D ps))
      ∙ ap (λ (q : Reference). let r : Reference = record { name = q.name; subscripts = subscript_forms (surroundings_view a) D q.subscripts } in r) (sym (reference_of-is left))) in
      statement_of-masked line mark mask (roll-Ref (record { name = (out-Ref left).name; subs = formed })) made
      ∙ (ap₂ (λ x (q : Reference). Where line mark x q (expression_of made)) ge left_is ∙ ap (Where line mark (form (surroundings_view a) D guard) (record { name = (reference_of left).name; subscripts = subscript_forms (surroundings_view a) D (reference_of left).subscripts })) me)

  where_is : (from line : ℕ) (mark : Option Mark) (part over given again : List CountedLoop) (guard : Expression) (left : Ref) (right : Expression) (b : Bool) (whole : Block)
      → part ≡ drop from a.loops → over ≡ in_order part (map subscript_of (out-Ref left).subs) → given ≡ over → again ≡ over
      → ((n : ℕ) → b ≡ stand_in_guard (map (counted_of n) given) (Some guard)) → b ≡ true
      → whole ≡ block_of_one (masked_over (surroundings_view a) (viewed a again) line mark guard (reference_of left) right)
      → whole ≡ block_of_one (guarded_form (surroundings_view a) (from + 1) line mark (Some guard) (reference_of left) right)
  where_is from line mark part over given again guard left right b whole p e g h is t w =
      let D = loops_assigned (surroundings_view a) (from + 1) (reference_of left) in
      let stands : stand_in_guard D (Some guard) ≡ true = ap (λ ls. stand_in_guard ls (Some guard)) (sym (assigned_loops from part over given left p e g)) ∙ (sym (is (length a.loops)) ∙ t) in
      w ∙ ap (λ ls. block_of_one (masked_over (surroundings_view a) ls line mark guard (reference_of left) right)) (assigned_loops from part over again left p e h)
      ∙ ap (λ c. block_of_one (cond c (masked_over (surroundings_view a) D line mark guard (reference_of left) right) (If line (arm guard (block_of_one (array_assignment (surroundings_view a) (from + 1) line mark (reference_of left) right)) no_arms) no_statements))) (sym stands)

  if_is : (from line : ℕ) (mark : Option Mark) (part over given : List CountedLoop) (guard : Expression) (left : Ref) (right : Expression) (b : Bool) (whole body : Block)
      → part ≡ drop from a.loops → over ≡ in_order part (map subscript_of (out-Ref left).subs) → given ≡ over
      → ((n : ℕ) → b ≡ stand_in_guard (map (counted_of n) given) (Some guard)) → b ≡ false
      → whole ≡ under_condition line (Some guard) body → body ≡ block_of_one (array_assignment (surroundings_view a) (from + 1) line mark (reference_of left) right)
      → whole ≡ block_of_one (guarded_form (surroundings_view a) (from + 1) line mark (Some guard) (reference_of left) right)
  if_is from line mark part over given guard left right b whole body p e g is not_so w inside =
      let D = loops_assigned (surroundings_view a) (from + 1) (reference_of left) in
      let stands : stand_in_guard D (Some guard) ≡ false = ap (λ ls. stand_in_guard ls (Some guard)) (sym (assigned_loops from part over given left p e g)) ∙ (sym (is (length a.loops)) ∙ not_so) in
      w ∙ (ap (under_condition line (Some guard)) inside
      ∙ ap (λ c. block_of_one (cond c (masked_over (surroundings_view a) D line mark guard (reference_of left) right) (If line (arm guard (block_of_one (array_assignment (surroundings_view a) (from + 1) line mark (reference_of left) right)) no_arms) no_statements))) (sym stands))

  pub where_ok : (from line : ℕ) (mark : Option Mark) (part over given again : List CountedLoop) (guard : Expression) (left : Ref) (right : Expression) (b : Bool) (stmt : Statement) (r : Result Block' Memory)
      → part ≡ drop from a.loops → over ≡ in_order part (map subscript_of (out-Ref left).subs) → given ≡ over → again ≡ over
      → ((n : ℕ) → b ≡ stand_in_guard (map (counted_of n) given) (Some guard)) → b ≡ true
      → stmt ≡ masked_over (surroundings_view a) (viewed a again) line mark guard (reference_of left) right
      → IfOk r (λ c. block_of c ≡ block_of_one stmt) → IfOk r (λ c. block_of c ≡ block_of_one (guarded_form (surroundings_view a) (from + 1) line mark (Some guard) (reference_of left) right))
  where_ok from line mark part over given again guard left right b stmt (Ok c) p e g h is t w k = where_is from line mark part over given again guard left right b (block_of c) p e g h is t (k ∙ ap block_of_one w)
  where_ok from line mark part over given again guard left right b stmt (Err m) p e g h is t w k = k

  pub if_ok : (from line : ℕ) (mark : Option Mark) (part over given : List CountedLoop) (guard copy : Expr) (left : Ref) (right : Expression) (b : Bool) (body : Block) (stmt : Statement) (r : Result Block' Memory)
      → part ≡ drop from a.loops → over ≡ in_order part (map subscript_of (out-Ref left).subs) → given ≡ over
      → ((n : ℕ) → b ≡ stand_in_guard (map (counted_of n) given) (Some (expression_of guard))) → b ≡ false → expression_of copy ≡ expression_of guard
      → body ≡ block_of_one stmt → stmt ≡ array_assignment (surroundings_view a) (from + 1) line mark (reference_of left) right
      → IfOk r (λ c. block_of c ≡ under_condition line (Some (expression_of copy)) body)
      → IfOk r (λ c. block_of c ≡ block_of_one (guarded_form (surroundings_view a) (from + 1) line mark (Some (expression_of guard)) (reference_of left) right))
  if_ok from line mark part over given guard copy left right b body stmt (Ok c) p e g is f same inside made k =
      if_is from line mark part over given (expression_of guard) left right b (block_of c) body p e g is f (k ∙ ap (λ x. under_condition line (Some x) body) same) (inside ∙ ap block_of_one made)
  if_ok from line mark part over given guard copy left right b body stmt (Err m) p e g is f same inside made k = k
