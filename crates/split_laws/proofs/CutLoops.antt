-- The loops over the pieces of a loop that is cut.
use Rattle.std.proofs.Common.{◌≡◌, ◌≢◌, refl, sym, ap, ◌∙◌, subst, inl, inr, ℕ, suc, ◌+◌, ◌-◌, ℤ, pos, ◌+ℤ◌, ◌*ℤ◌, Bool, true, false, ◌&&◌, cond, List, [], ◌∷◌, map, drop, Result, Ok, Err, Option, Some, None, arith, nat_le}
use Rattle.std.specs.Prelude.{IsTrue}
use Rattle.std.specs.Ordering.{int_eq}
use Rattle.std.proofs.lemmas.Bool.Decides.{Decides-int_eq}
use Rattle.std.proofs.lemmas.Int.{ints}
use Rattle.std.proofs.lemmas.List.{append-nil}
use Rattle.find_nests.specs.Loops.{SourceLoop}
use Rattle.index_split.specs.Pieces.{all_bounds, bounds_from_to, constant, loop_over, moved, one_more}
use Rattle.index_split.specs.declared.pieces.Bounds.{Bounds}
use Rattle.index_split.specs.declared.pieces.Pieces.{Pieces}
use Rattle.linear_forms.proofs.AffineTexts.{affine_has_text}
use Rattle.linear_forms.proofs.Expressed.{text_has_value}
use Rattle.linear_forms.specs.Affines.{IsAffineOf}
use Rattle.linear_forms.specs.Expressed.{expressed, variables}
use Rattle.linear_forms.specs.Linear.{Form, all_small, constant_form, is_limited, is_small, not_zero, number_at}
use Rattle.linear_forms.specs.Texts.{text_of}
use Rattle.meaning.specs.Dialect.{Dialect}
use Rattle.meaning.specs.Run.{does_all}
use Rattle.meaning.specs.Store.{Store}
use Rattle.meaning.specs.Value.{increment_of, value_of}
use Rattle.nest_order.specs.orders.Lists.{In}
use Rattle.split_laws.proofs.Bounds.{texts_have_numbers}
use Rattle.split_laws.proofs.LoopsOverPieces.{pieces_run_as_loop}
use Rattle.split_laws.specs.Loops.{EndWith, LoopsOverPiecesRunAsLoop}
use Rattle.split_laws.specs.Pieces.{AreConsecutive, AreTexts, Loop, Piece, shifted}
use Rattle.split_laws.specs.Pieces as runs
use Rattle.subscripts.specs.declared.affine.Affine.{Affine}
use Rattle.tree.specs.Operators.{as_number}
use Rattle.tree.specs.Plain.{Expression, Block, statement, block}
use Rattle.tree.specs.Steps.{◌>>=◌}
use Rattle.tree.specs.declared.ops.Fault.{Fault}
use Rattle.tree.specs.declared.ops.Fault.TheVariants.{ZeroStep}
use Rattle.tree.specs.declared.ops.Value.{Value}
use Rattle.tree.specs.declared.ops.Value.TheVariants.{Int}

-- ---- the text of an increment

step_value : (lang : Dialect) (z : ℤ) (u : Store) → IsTrue (is_small z) → value_of lang (expressed [] (constant_form z)) u ≡ Ok (Int (pos 0 +ℤ z))
step_value lang z u h = text_has_value lang 0 [] (constant_form z) u [] (omega arith) (limited (is_small z) h) tt tt
  where
    limited : (b : Bool) → b ≡ true → b && true ≡ true
    limited true e = refl
    limited false e = cc

plus_none : (z : ℤ) → pos 0 +ℤ z ≡ z
plus_none z = omega (arith, ints)

step_is : (lang : Dialect) (z : ℤ) (u : Store) → IsTrue (is_small z) → z ≢ pos 0 → increment_of lang (text_of [] [] [] (constant z)) u ≡ Ok z
step_is lang z u h some =
    ap (λ (r : Result Value Fault). do n ← (do v ← r; as_number v); (let q : Result ℤ Fault = cond (int_eq n (pos 0)) (Err ZeroStep) (Ok n) in q))
    (step_value lang z u h ∙ ap (λ (k : ℤ). Ok (Int k)) (plus_none z))
    ∙ by (int_eq z (pos 0)) refl
  where
    by : (b : Bool) → int_eq z (pos 0) ≡ b → ◌≡◌ {A = Result ℤ Fault} (cond b (Err ZeroStep) (Ok z)) (Ok z)
    by true e = absurd (some ((Decides-int_eq z (pos 0)).0 e))
    by false e = refl

-- ---- the texts of bounds

-- the form with a number more
pub record IsMoved (a : Affine) (z : ℤ) (b : Affine) : Type 0 where
  pub small : is_small (a.constant +ℤ z) ≡ true
  pub is : b ≡ record a { constant = a.constant +ℤ z }

moved_is : (a : Affine) (z : ℤ) (b : Affine) → moved a z ≡ Some b → IsMoved a z b
moved_is a z b e = by (is_small (a.constant +ℤ z)) refl e
  where
    same : (x y : Affine) → ◌≡◌ {A = Option Affine} (Some x) (Some y) → x ≡ y
    same x y f = cc

    by : (t : Bool) → is_small (a.constant +ℤ z) ≡ t → ◌≡◌ {A = Option Affine} (cond t (Some (record a { constant = a.constant +ℤ z })) None) (Some b) → IsMoved a z b
    by true s f = record { small = s; is = sym (same (record a { constant = a.constant +ℤ z }) b f) }
    by false s f = cc

module _ (f : Form) (a : Affine) (form : IsAffineOf 0 f a) (limits : IsTrue (is_limited 0 f)) (symbols : List (List ℕ)) where
  moved_form : (z : ℤ) → IsAffineOf 0 (shifted f z) (record a { constant = a.constant +ℤ z })
  moved_form z = record { loops = form.loops; symbols = form.symbols; constant = ap (λ (k : ℤ). k +ℤ z) form.constant }

  text_is : (z : ℤ) (b : Affine) → IsMoved a z b → text_of [] symbols [] b ≡ expressed (variables symbols) (shifted f z)
  text_is z b m =
      ap (text_of [] symbols []) m.is ∙ affine_has_text [] symbols [] (shifted f z) (record a { constant = a.constant +ℤ z }) (moved_form z)
      ∙ ap (λ (ts : List Expression). expressed ts (shifted f z)) (append-nil (variables symbols))

  limits_are : (z : ℤ) (b : Affine) → IsMoved a z b → IsTrue (is_limited 0 (shifted f z))
  limits_are z b m =
      by (all_small f.coefficients) (is_small f.constant) (is_small (f.constant +ℤ z)) (nat_le (not_zero (drop 0 f.coefficients)) 8) limits
      (ap (λ (k : ℤ). is_small (k +ℤ z)) (sym form.constant) ∙ m.small)
    where
      by : (p q r s : Bool) → (p && (q && s)) ≡ true → r ≡ true → (p && (r && s)) ≡ true
      by true true r true e g = ap (λ (b : Bool). b && true) g
      by true true r false e g = cc
      by true false r s e g = cc
      by false q r s e g = cc

-- ---- the pieces

abbrev piece_of : Pieces → ℕ → ℕ → Bounds → Piece
piece_of ps before end b = record { before = before; more = (end - 1) - before; first = text_of [] ps.symbols [] b.first; last = text_of [] ps.symbols [] b.last }

abbrev pieces_of : Pieces → ℕ → List ℕ → List Bounds → List Piece
pieces_of ps before [] bs = []
pieces_of ps before (e ∷ es) [] = []
pieces_of ps before (e ∷ es) (b ∷ bs) = piece_of ps before e b ∷ pieces_of ps e es bs

-- bounds of the first piece, and of the others
pub record AreBounds (a : Affine) (step : ℤ) (before end : ℕ) (ends : List ℕ) (bounds : List Bounds) : Type 0 where
  pub first : Bounds
  pub rest : List Bounds
  pub are : bounds ≡ first ∷ rest
  pub low : moved a (pos before *ℤ step) ≡ Some first.first
  pub high : moved a (pos (end - 1) *ℤ step) ≡ Some first.last
  pub others : all_bounds a step end ends ≡ Some rest

bounds_are : (a : Affine) (step : ℤ) (before end : ℕ) (ends : List ℕ) (bounds : List Bounds) → all_bounds a step before (end ∷ ends) ≡ Some bounds → AreBounds a step before end ends bounds
bounds_are a step before end ends bounds e = by (moved a (pos before *ℤ step)) (moved a (pos (end - 1) *ℤ step)) (all_bounds a step end ends) refl refl refl e
  where
    same : (x y : List Bounds) → ◌≡◌ {A = Option (List Bounds)} (Some x) (Some y) → x ≡ y
    same x y f = cc

    by : (o q : Option Affine) (r : Option (List Bounds)) → moved a (pos before *ℤ step) ≡ o → moved a (pos (end - 1) *ℤ step) ≡ q → all_bounds a step end ends ≡ r
        → one_more (bounds_from_to o q) r ≡ Some bounds → AreBounds a step before end ends bounds
    by None q r f g h k = cc
    by (Some x) None r f g h k = cc
    by (Some x) (Some y) None f g h k = cc
    by (Some x) (Some y) (Some bs) f g h k =
        record { first = record { first = x; last = y }; rest = bs; are = sym (same (record { first = x; last = y } ∷ bs) bounds k); low = f; high = g; others = h }

module _ (ps : Pieces) (a : Affine) where
  consecutive : (before t : ℕ) (ends : List ℕ) (bs : List Bounds) → all_bounds a ps.step before ends ≡ Some bs → EndWith before ends t → AreConsecutive before t (pieces_of ps before ends bs)
  consecutive before t [] bs e h = h
  consecutive before t (end ∷ ends) [] e h = let b = bounds_are a ps.step before end ends [] e in no b.first b.rest b.are
    where
      no : (x : Bounds) (xs : List Bounds) → ◌≡◌ {A = List Bounds} [] (x ∷ xs) → AreConsecutive before t []
      no x xs f = cc
  consecutive before t (end ∷ ends) (b ∷ bs) e h =
      let c = bounds_are a ps.step before end ends (b ∷ bs) e in
      let l = h.0 in (
        refl,
        subst (λ (k : ℕ). AreConsecutive k t (pieces_of ps end ends bs)) (let g : end ≡ before + suc ((end - 1) - before) = omega (arith, l) in g)
            (consecutive end t ends bs (c.others ∙ ap (λ (x : List Bounds). Some x) (tail c.first b c.rest bs c.are)) h.1),
      )
    where
      tail : (x y : Bounds) (xs ys : List Bounds) → y ∷ ys ≡ x ∷ xs → xs ≡ ys
      tail x y xs ys f = cc

  -- what holds of the bounds of each piece
  abbrev IsOfBounds : Piece → Type 0
  IsOfBounds p =
      (b : Bounds) × (moved a (pos p.before *ℤ ps.step) ≡ Some b.first) × (moved a (pos (p.before + p.more) *ℤ ps.step) ≡ Some b.last)
      × (p.first ≡ text_of [] ps.symbols [] b.first) × (p.last ≡ text_of [] ps.symbols [] b.last)

  of_bounds : (before t : ℕ) (ends : List ℕ) (bs : List Bounds) → all_bounds a ps.step before ends ≡ Some bs → EndWith before ends t → (p : Piece) → In p (pieces_of ps before ends bs) → IsOfBounds p
  of_bounds before t [] bs e h p i = absurd i
  of_bounds before t (end ∷ ends) [] e h p i = absurd i
  of_bounds before t (end ∷ ends) (b ∷ bs) e h p i =
      by i (λ j. of_bounds end t ends bs (c.others ∙ ap (λ (x : List Bounds). Some x) (tail c.first b c.rest bs c.are)) h.1 p j)
    where
      c : AreBounds a ps.step before end ends (b ∷ bs)
      c = bounds_are a ps.step before end ends (b ∷ bs) e

      first_is : (x y : Bounds) (xs ys : List Bounds) → y ∷ ys ≡ x ∷ xs → x ≡ y
      first_is x y xs ys f = cc

      tail : (x y : Bounds) (xs ys : List Bounds) → y ∷ ys ≡ x ∷ xs → xs ≡ ys
      tail x y xs ys f = cc

      same : c.first ≡ b
      same = first_is c.first b c.rest bs c.are

      last_turn : before + ((end - 1) - before) ≡ end - 1
      last_turn = let l = h.0 in omega (arith, l)

      here : IsOfBounds (piece_of ps before end b)
      here = (
        b,
        c.low ∙ ap (λ (x : Bounds). Some x.first) same,
        ap (λ (k : ℕ). moved a (pos k *ℤ ps.step)) last_turn ∙ c.high ∙ ap (λ (x : Bounds). Some x.last) same,
        refl,
        refl,
      )

      by : In p (piece_of ps before end b ∷ pieces_of ps end ends bs) → (In p (pieces_of ps end ends bs) → IsOfBounds p) → IsOfBounds p
      by (inl q) more = subst IsOfBounds (sym q) here
      by (inr j) more = more j

-- ---- the loops

abbrev loop_with : SourceLoop → Pieces → Loop
loop_with l ps = record { line = l.line; variable = l.variable; step = text_of [] [] [] (constant ps.step); body = l.body }

loops_are : (l : SourceLoop) (ps : Pieces) (a : Affine) (before : ℕ) (ends : List ℕ) (bs : List Bounds) → all_bounds a ps.step before ends ≡ Some bs
    → runs.loops_over (loop_with l ps) (pieces_of ps before ends bs) ≡ block (map (loop_over ps l.line l.variable l.body) bs)
loops_are l ps a before [] [] e = refl
loops_are l ps a before [] (b ∷ bs) e = cc
loops_are l ps a before (end ∷ ends) [] e = refl
loops_are l ps a before (end ∷ ends) (b ∷ bs) e =
    let c = bounds_are a ps.step before end ends (b ∷ bs) e in
    ap (statement (loop_over ps l.line l.variable l.body b)) (loops_are l ps a end ends bs (c.others ∙ ap (λ (x : List Bounds). Some x) (tail c.first b c.rest bs c.are)))
  where
    tail : (x y : Bounds) (xs ys : List Bounds) → y ∷ ys ≡ x ∷ xs → xs ≡ ys
    tail x y xs ys f = cc

pub loops_over_pieces_run_as_loop : LoopsOverPiecesRunAsLoop
loops_over_pieces_run_as_loop lang limit l ps f ends t s zs m2 p rise some known sized e1 e2 e3 counts =
    ap (λ (b : Block). does_all lang limit b s) (sym (loops_are l ps p.first 0 ends ps.bounds p.bounds))
    ∙ pieces_run_as_loop lang limit (loop_with l ps) l.first l.last l.step ps.symbols (pieces_of ps 0 ends ps.bounds) s (number_at f zs) m2 ps.step t e1 e2 e3 counts some
    (consecutive ps p.first 0 t ends ps.bounds p.bounds rise)
    (texts_have_numbers lang (loop_with l ps) ps.symbols f s.store zs ps.step (pieces_of ps 0 ends ps.bounds) texts (λ u. step_is lang ps.step u p.step p.some_step) known sized)
    (p.body (text_of [] [] [] (constant ps.step))) p.apart
  where
    at : (q : Piece) → In q (pieces_of ps 0 ends ps.bounds) → IsOfBounds ps p.first q
    at q i = of_bounds ps p.first 0 t ends ps.bounds p.bounds rise q i

    low : (q : Piece) (i : In q (pieces_of ps 0 ends ps.bounds)) → IsMoved p.first (pos q.before *ℤ ps.step) (at q i).0.first
    low q i = moved_is p.first (pos q.before *ℤ ps.step) (at q i).0.first (at q i).1

    high : (q : Piece) (i : In q (pieces_of ps 0 ends ps.bounds)) → IsMoved p.first (pos (q.before + q.more) *ℤ ps.step) (at q i).0.last
    high q i = moved_is p.first (pos (q.before + q.more) *ℤ ps.step) (at q i).0.last (at q i).2

    texts : AreTexts ps.symbols f ps.step (pieces_of ps 0 ends ps.bounds)
    texts = record {
      first = λ q i. (at q i).3 ∙ text_is f p.first p.form p.limits ps.symbols (pos q.before *ℤ ps.step) (at q i).0.first (low q i);
      last = λ q i. (at q i).4 ∙ text_is f p.first p.form p.limits ps.symbols (pos (q.before + q.more) *ℤ ps.step) (at q i).0.last (high q i);
      first_limits = λ q i. limits_are f p.first p.form p.limits ps.symbols (pos q.before *ℤ ps.step) (at q i).0.first (low q i);
      last_limits = λ q i. limits_are f p.first p.form p.limits ps.symbols (pos (q.before + q.more) *ℤ ps.step) (at q i).0.last (high q i);
    }
