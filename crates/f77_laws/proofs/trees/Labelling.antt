-- Statements that are closed as they are written form a block with the labels of their loops.
use Rattle.std.proofs.Common.{◌≡◌, ℕ, ◌==◌, Bool, true, false, cond, Option, None, Some, List, [], ◌∷◌, ◌++◌}
use Rattle.std.proofs.Common.{refl, sym, ap, subst, ◌∙◌}
use Rattle.std.specs.List.{list_any}
use Rattle.tree.specs.Plain as tree
use Rattle.tree.specs.Plain.{Expression}
use Rattle.meaning.specs.Store.{Store}
use Rattle.f77_grammar.specs.Statement77.{Labelled, Statement77, If, ElseIf, Else, EndIf, Do, EndDo}
use Rattle.f77_grammar.specs.program.Text.{is_label, bears, label_stands_in}
use Rattle.f77_grammar.specs.program.Uses.{Use77}
use Rattle.f77_grammar.specs.program.EndDo.{without_bearer, without_closer, end_label}
use Rattle.f77_grammar.specs.program.EndDo.{closer_label, with_loop_label, label_of_end, with_labels}
use Rattle.f77_grammar.specs.program.Blocks.{stands_alone, IsRange, IsUnit, AreBlock77, AreArms77}
use Rattle.f77_grammar.specs.program.Blocks.IsUnit.{alone as unit_alone, block_if as unit_if, loop as unit_loop}
use Rattle.f77_grammar.specs.program.Blocks.IsUnit.{end_do as unit_end_do}
use Rattle.f77_grammar.specs.program.Blocks.AreBlock77.{nothing as no_units, unit as more_units}
use Rattle.f77_grammar.specs.program.Blocks.AreArms77.{end_if as arms_end, else_part as arms_part, else_if as arms_more}
use Rattle.f77_laws.specs.trees.Written.{MayClose, IsClosed, AreClosed, AreClosedArms}
use Rattle.f77_laws.specs.trees.Written.IsClosed.{alone, block_if, end_do, loop}
use Rattle.f77_laws.specs.trees.Written.AreClosed.{nothing, more}
use Rattle.f77_laws.specs.trees.Written.AreClosedArms.{end_if, else_part, else_if}
use Rattle.f77_laws.proofs.trees.Lists.{left_false, or_right, both_false, not_both}
use Rattle.f77_laws.proofs.trees.Splits.{range_up_to, range_has}
use Rattle.f77_laws.proofs.trees.WellNested.{stands_left, stands_right}
use Rattle.f77_laws.proofs.trees.Segments.{wait, labelled, wait_append, labelled_append, ends_with, itself, end_bears}
use Rattle.f77_laws.proofs.trees.Segments.{written_ends, kept_without, alone_waits, alone_kept, as_end_do, as_loop_end}
use Rattle.f77_laws.proofs.trees.Segments.{own_label, IsFresh, AreFresh, left_fresh, right_fresh, fresh_head}
use Rattle.f77_laws.proofs.trees.Segments.{fresh_apart, waits_as, both_wait}

-- ---- what is asked of a part of the text

-- its labels stand once, and on no END DO that waits behind it
pub record IsFree (xs w : List Labelled) : Type 0 where
  pub fresh : AreFresh (labelled xs w)
  pub apart : (k : ℕ) → label_stands_in (labelled xs w) k ≡ true → list_any (ends_with k) w ≡ false

free_behind : (x : Labelled) (xs w : List Labelled) → IsFree (x ∷ xs) w → IsFree xs w
free_behind x xs w h =
    record {
      fresh = h.fresh.1;
      apart = λ k g.
          h.apart k (or_right (bears k (with_labels x (closer_label (wait xs w)))) (label_stands_in (labelled xs w) k) g);
    }

free_right : (xs ys w : List Labelled) → IsFree (xs ++ ys) w → IsFree ys w
free_right xs ys w h =
    record {
      fresh =
          right_fresh (labelled xs (wait ys w)) (labelled ys w)
          (subst (λ (zs : List Labelled). AreFresh zs) (labelled_append xs ys w) h.fresh);
      apart = λ k g.
          h.apart k
          (ap (λ zs. label_stands_in zs k) (labelled_append xs ys w)
          ∙ stands_right k (labelled xs (wait ys w)) (labelled ys w) g);
    }

both_labelled : (xs ys w : List Labelled) → wait ys w ≡ w → labelled (xs ++ ys) w ≡ labelled xs w ++ labelled ys w
both_labelled xs ys w e = labelled_append xs ys w ∙ ap (λ vs. labelled xs vs ++ labelled ys w) e

free_left : (xs ys w : List Labelled) → wait ys w ≡ w → IsFree (xs ++ ys) w → IsFree xs w
free_left xs ys w e h =
    record {
      fresh =
          left_fresh (labelled xs w) (labelled ys w)
          (subst (λ (zs : List Labelled). AreFresh zs) (both_labelled xs ys w e) h.fresh);
      apart = λ k g.
          h.apart k
          (ap (λ zs. label_stands_in zs k) (both_labelled xs ys w e) ∙ stands_left k (labelled xs w) (labelled ys w) g);
    }

-- ---- ranges

range_more : (n : ℕ) (x : Labelled) (xs : List Labelled) → IsFresh x.label xs → IsRange n xs → IsRange n (x ∷ xs)
range_more n x [] h r = absurd r
range_more n x (y ∷ ys) h r = (by (bears n x) refl, r)
  where
    by : (b : Bool) → bears n x ≡ b → bears n x ≡ false
    by true e =
        absurd (not_both (label_stands_in (y ∷ ys) n) (range_has n (y ∷ ys) (range_up_to n (y ∷ ys) r))
        (fresh_head n x (y ∷ ys) h e))
    by false e = e

range_labelled : (n : ℕ) (xs w : List Labelled) → IsRange n xs → AreFresh (labelled xs w) → IsRange n (labelled xs w)
range_labelled n [] w r h = absurd r
range_labelled n (x ∷ []) w r h = (
  ap (is_label n) (own_label x.statement x.label x.line r.2) ∙ r.0,
  as_loop_end x.statement (closer_label w) ∙ r.1,
  as_end_do x.statement (closer_label w) ∙ r.2,
)
range_labelled n (x ∷ y ∷ ys) w r h =
    range_more n (with_labels x (closer_label (wait (y ∷ ys) w))) (labelled (y ∷ ys) w) h.0
    (range_labelled n (y ∷ ys) w r.1 h.1)

-- ---- END DO

-- what the DO that it closes becomes
record IsTold (label : Option ℕ) (v : List ℕ) (a b c : Expression) (end : Labelled) (w : List Labelled) : Type 0 where
  number : ℕ
  told : with_loop_label (Do label v a b c) (closer_label (end ∷ w)) ≡ Do (Some number) v a b c
  ends : ends_with number end ≡ true
  waits : without_closer label (end ∷ w) ≡ w

told_by : (label : Option ℕ) (v : List ℕ) (a b c : Expression) (end : Labelled) (w : List Labelled)
    → (end_label end.label end.line == 0) ≡ false → MayClose label end → IsTold label v a b c end w
told_by None v a b c end w z h =
    record {
      number = end_label end.label end.line;
      told = ap (λ t. Do (cond t None (Some (end_label end.label end.line))) v a b c) z;
      ends = itself (end_label end.label end.line);
      waits = refl;
    }
told_by (Some n) v a b c end w z h =
    record {
      number = n;
      told = refl;
      ends = written_ends n end h;
      waits = ap (λ t. cond t w (end ∷ without_bearer n w)) h;
    }

module _ (us : List Use77) (s : Store) (named : List ℕ) where
  record UnitMade (xs w : List Labelled) : Type 0 where
    made : List tree.Statement
    waits : wait xs w ≡ w
    is_unit : IsUnit us s named (labelled xs w) made

  pub record BlockMade (xs w : List Labelled) : Type 0 where
    pub made : List tree.Statement
    pub waits : wait xs w ≡ w
    pub formed : AreBlock77 us s named (labelled xs w) made

  record ArmsMade (xs w : List Labelled) : Type 0 where
    arms : tree.Arms
    part : tree.Block
    waits : wait xs w ≡ w
    formed : AreArms77 us s named (labelled xs w) arms part

  unit_as : (xs w zs : List Labelled) (cs : List tree.Statement) → wait xs w ≡ w → labelled xs w ≡ zs
      → IsUnit us s named zs cs → UnitMade xs w
  unit_as xs w zs cs e g h =
      record { made = cs; waits = e; is_unit = subst (λ (ys : List Labelled). IsUnit us s named ys cs) (sym g) h }

  arms_as : (xs w zs : List Labelled) (arms : tree.Arms) (part : tree.Block) → wait xs w ≡ w → labelled xs w ≡ zs
      → AreArms77 us s named zs arms part → ArmsMade xs w
  arms_as xs w zs arms part e g h =
      record {
        arms = arms;
        part = part;
        waits = e;
        formed = subst (λ (ys : List Labelled). AreArms77 us s named ys arms part) (sym g) h;
      }

  -- a statement and its label
  statement_as : (x : Labelled) (c : Option ℕ) (o : Statement77) → x.statement ≡ o
      → (with_labels x c).statement ≡ with_loop_label o c
  statement_as x c o e = ap (λ (t : Statement77). with_loop_label t c) e

  alone_made : (x : Labelled) (w : List Labelled) → stands_alone x.statement ≡ true → UnitMade (x ∷ []) w
  alone_made x w e =
      unit_as (x ∷ []) w (with_labels x (closer_label w) ∷ []) _ (alone_waits x.statement x w e) refl
      (unit_alone (with_labels x (closer_label w))
      (ap stands_alone (alone_kept x.statement (closer_label w) e) ∙ e))

  if_made : (x : Labelled) (c : Expression) (first later w : List Labelled) → x.statement ≡ If c
      → (IsFree first w → BlockMade first w) → (IsFree later w → ArmsMade later w)
      → IsFree (x ∷ (first ++ later)) w → UnitMade (x ∷ (first ++ later)) w
  if_made x c first later w e make end h =
      let g = free_behind x (first ++ later) w h in
      let l = end (free_right first later w g) in
      let f = make (free_left first later w l.waits g) in
      let n : Option ℕ = closer_label (wait (first ++ later) w) in
      unit_as (x ∷ (first ++ later)) w (with_labels x n ∷ (labelled first w ++ labelled later w)) _
      (waits_as x (wait (first ++ later) w) (If c) e ∙ both_wait first later w l.waits f.waits)
      (ap (λ zs. with_labels x n ∷ zs) (both_labelled first later w l.waits))
      (unit_if (with_labels x n) c (labelled first w) (labelled later w) f.made l.arms l.part
      (statement_as x n (If c) e) f.formed l.formed)

  loop_made : (x : Labelled) (n : ℕ) (v : List ℕ) (a b c : Expression) (xs w : List Labelled)
      → x.statement ≡ Do (Some n) v a b c → IsRange n xs → (IsFree xs w → BlockMade xs w) → IsFree (x ∷ xs) w
      → UnitMade (x ∷ xs) w
  loop_made x n v a b c xs w e r make h =
      let g = free_behind x xs w h in
      let k = make g in
      let there : IsRange n (labelled xs w) = range_labelled n xs w r g.fresh in
      let label : Option ℕ = closer_label (wait xs w) in
      unit_as (x ∷ xs) w (with_labels x label ∷ labelled xs w) _
      (waits_as x (wait xs w) (Do (Some n) v a b c) e ∙ ap (without_bearer n) k.waits
      ∙ kept_without n w (g.apart n (range_has n (labelled xs w) (range_up_to n (labelled xs w) there))))
      refl
      (unit_loop (with_labels x label) n v a b c (labelled xs w) k.made
      (statement_as x label (Do (Some n) v a b c) e) there k.formed)

  end_do_made : (x end : Labelled) (label : Option ℕ) (v : List ℕ) (a b c : Expression) (between w : List Labelled)
      → x.statement ≡ Do label v a b c → end.statement ≡ EndDo → MayClose label end
      → (IsFree between (end ∷ w) → BlockMade between (end ∷ w)) → IsFree (x ∷ (between ++ end ∷ [])) w
      → UnitMade (x ∷ (between ++ end ∷ [])) w
  end_do_made x end label v a b c between w e f t make h =
      unit_as (x ∷ (between ++ end ∷ [])) w (x' ∷ (inner ++ end' ∷ [])) _
      (waits_as x (wait (between ++ end ∷ []) w) (Do label v a b c) e
      ∙ ap (without_closer label) all_waits ∙ k.waits)
      (ap (λ zs. x' ∷ zs) split)
      (unit_end_do x' end' k.number v a b c inner m.made
      (statement_as x (closer_label (wait (between ++ end ∷ []) w)) (Do label v a b c) e
      ∙ ap (λ vs. with_loop_label (Do label v a b c) (closer_label vs)) all_waits ∙ k.told)
      m.formed (statement_as end (closer_label w) EndDo f) (none (label_stands_in inner k.number) refl)
      (end_bears k.number end (closer_label w) f ∙ k.ends))
    where
      x' : Labelled
      x' = with_labels x (closer_label (wait (between ++ end ∷ []) w))

      end' : Labelled
      end' = with_labels end (closer_label w)

      inner : List Labelled
      inner = labelled between (end ∷ w)

      end_waits : wait (end ∷ []) w ≡ end ∷ w
      end_waits = waits_as end w EndDo f

      split : labelled (between ++ end ∷ []) w ≡ inner ++ end' ∷ []
      split = labelled_append between (end ∷ []) w ∙ ap (λ vs. labelled between vs ++ end' ∷ []) end_waits

      g : IsFree (between ++ end ∷ []) w
      g = free_behind x (between ++ end ∷ []) w h

      fresh : AreFresh (inner ++ end' ∷ [])
      fresh = subst (λ (zs : List Labelled). AreFresh zs) split g.fresh

      free : IsFree between (end ∷ w)
      free =
          record {
            fresh = left_fresh inner (end' ∷ []) fresh;
            apart = λ j k.
                both_false (ends_with j end) (list_any (ends_with j) w)
                (sym (end_bears j end (closer_label w) f)
                ∙ left_false (bears j end') false (fresh_apart j inner (end' ∷ []) fresh k))
                (g.apart j (ap (λ zs. label_stands_in zs j) split ∙ stands_left j inner (end' ∷ []) k));
          }

      m : BlockMade between (end ∷ w)
      m = make free

      all_waits : wait (between ++ end ∷ []) w ≡ end ∷ w
      all_waits = wait_append between (end ∷ []) w ∙ ap (wait between) end_waits ∙ m.waits

      not_zero : (end_label end.label end.line == 0) ≡ false
      not_zero =
          (subst (λ (o : Statement77). IsFresh (label_of_end o end.label end.line) []) f
          (right_fresh inner (end' ∷ []) fresh).0).0

      k : IsTold label v a b c end w
      k = told_by label v a b c end w not_zero t

      none : (d : Bool) → label_stands_in inner k.number ≡ d → label_stands_in inner k.number ≡ false
      none true i =
          absurd (not_both (bears k.number end') (end_bears k.number end (closer_label w) f ∙ k.ends)
          (left_false (bears k.number end') false (fresh_apart k.number inner (end' ∷ []) fresh i)))
      none false i = i

  -- ---- one after another

  more_made : (first rest w : List Labelled) → (IsFree first w → UnitMade first w) → (IsFree rest w → BlockMade rest w)
      → IsFree (first ++ rest) w → BlockMade (first ++ rest) w
  more_made first rest w one make h =
      let r = make (free_right first rest w h) in
      let f = one (free_left first rest w r.waits h) in
      record {
        made = f.made ++ r.made;
        waits = both_wait first rest w r.waits f.waits;
        formed =
            subst (λ (zs : List Labelled). AreBlock77 us s named zs (f.made ++ r.made))
            (sym (both_labelled first rest w r.waits))
            (more_units (labelled first w) (labelled rest w) f.made r.made f.is_unit r.formed);
      }

  -- ---- arms

  end_if_made : (x : Labelled) (w : List Labelled) → x.statement ≡ EndIf → ArmsMade (x ∷ []) w
  end_if_made x w e =
      arms_as (x ∷ []) w (with_labels x (closer_label w) ∷ []) _ _ (waits_as x w EndIf e) refl
      (arms_end (with_labels x (closer_label w)) (statement_as x (closer_label w) EndIf e))

  else_made : (x end : Labelled) (part w : List Labelled) → x.statement ≡ Else → end.statement ≡ EndIf
      → (IsFree part w → BlockMade part w) → IsFree (x ∷ (part ++ end ∷ [])) w → ArmsMade (x ∷ (part ++ end ∷ [])) w
  else_made x end part w e f make h =
      let last : wait (end ∷ []) w ≡ w = waits_as end w EndIf f in
      let k = make (free_left part (end ∷ []) w last (free_behind x (part ++ end ∷ []) w h)) in
      let n : Option ℕ = closer_label (wait (part ++ end ∷ []) w) in
      arms_as (x ∷ (part ++ end ∷ [])) w
      (with_labels x n ∷ (labelled part w ++ with_labels end (closer_label w) ∷ [])) _ _
      (waits_as x (wait (part ++ end ∷ []) w) Else e ∙ both_wait part (end ∷ []) w last k.waits)
      (ap (λ zs. with_labels x n ∷ zs) (both_labelled part (end ∷ []) w last))
      (arms_part (with_labels x n) (with_labels end (closer_label w)) (labelled part w) k.made
      (statement_as x n Else e) k.formed (statement_as end (closer_label w) EndIf f))

  else_if_made : (x : Labelled) (c : Expression) (next later w : List Labelled) → x.statement ≡ ElseIf c
      → (IsFree next w → BlockMade next w) → (IsFree later w → ArmsMade later w)
      → IsFree (x ∷ (next ++ later)) w → ArmsMade (x ∷ (next ++ later)) w
  else_if_made x c next later w e make end h =
      let g = free_behind x (next ++ later) w h in
      let l = end (free_right next later w g) in
      let f = make (free_left next later w l.waits g) in
      let n : Option ℕ = closer_label (wait (next ++ later) w) in
      arms_as (x ∷ (next ++ later)) w (with_labels x n ∷ (labelled next w ++ labelled later w)) _ _
      (waits_as x (wait (next ++ later) w) (ElseIf c) e ∙ both_wait next later w l.waits f.waits)
      (ap (λ zs. with_labels x n ∷ zs) (both_labelled next later w l.waits))
      (arms_more (with_labels x n) c (labelled next w) (labelled later w) f.made l.arms l.part
      (statement_as x n (ElseIf c) e) f.formed l.formed)

  mutual
    unit_made : (xs w : List Labelled) → IsClosed xs → IsFree xs w → UnitMade xs w
    unit_made xs w (alone x e) h = alone_made x w e
    unit_made xs w (block_if x c first later e f l) h =
        if_made x c first later w e (block_made first w f) (arms_made later w l) h
    unit_made xs w (end_do x end label v a b c between e k f t) h =
        end_do_made x end label v a b c between w e f t (block_made between (end ∷ w) k) h
    unit_made xs w (loop x n v a b c ys e r k) h = loop_made x n v a b c ys w e r (block_made ys w k) h

    pub block_made : (xs w : List Labelled) → AreClosed xs → IsFree xs w → BlockMade xs w
    block_made xs w nothing h = record { made = []; waits = refl; formed = no_units }
    block_made xs w (more first rest f k) h = more_made first rest w (unit_made first w f) (block_made rest w k) h

    arms_made : (xs w : List Labelled) → AreClosedArms xs → IsFree xs w → ArmsMade xs w
    arms_made xs w (end_if x e) h = end_if_made x w e
    arms_made xs w (else_part x end part e k f) h = else_made x end part w e f (block_made part w k) h
    arms_made xs w (else_if x c next later e k l) h =
        else_if_made x c next later w e (block_made next w k) (arms_made later w l) h
