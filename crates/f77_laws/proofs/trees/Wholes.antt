-- What holds of each statement of a block.
use Rattle.std.proofs.Common.{◌≡◌, ◌⊎◌, inl, inr, ℕ, nat_eq, Bool, true, false, ◌||◌, Option, Some, List, [], ◌∷◌, ◌++◌, reverse}
use Rattle.std.proofs.Common.{refl, sym, ap, subst, ◌∙◌, arith, append_assoc, append-nil}
use Rattle.std.proofs.lemmas.Bool.Decides.{nat_tests}
use Rattle.std.specs.List.{list_any}
use Rattle.tree.specs.Plain as tree
use Rattle.tree.specs.Plain.{Expression}
use Rattle.meaning.specs.Store.{Store}
use Rattle.f77_grammar.specs.Statement77.{Labelled, Statement77, If, ElseIf, Else, EndIf, Do, EndDo}
use Rattle.f77_grammar.specs.program.Text.{bears, label_stands_in, is_block_if, is_last_else, is_end_if, is_end_do}
use Rattle.f77_grammar.specs.program.Nesting.{begins_loop, is_do_of}
use Rattle.f77_grammar.specs.program.Uses.{Use77}
use Rattle.f77_grammar.specs.program.Blocks.{IsRange, IsUnit, AreBlock77, AreArms77}
use Rattle.f77_grammar.specs.program.Blocks.IsUnit.{alone, block_if, loop, end_do}
use Rattle.f77_grammar.specs.program.Blocks.AreBlock77.{nothing, unit}
use Rattle.f77_grammar.specs.program.Blocks.AreArms77.{end_if, else_part, else_if}
use Rattle.f77_laws.proofs.trees.Lists.{not_both, or_right}
use Rattle.f77_laws.proofs.trees.Shapes.{label_is}
use Rattle.f77_laws.proofs.trees.Begun.{range_right}
use Rattle.f77_laws.proofs.trees.Pairs.{BackPaired, none, single, double, back_of, reverse_pair}
use Rattle.f77_laws.proofs.trees.PairedBlocks.{AreEnded, ended_behind, block_paired, arms_ended}
use Rattle.f77_laws.proofs.trees.Splits.{InFirst, InSecond, split_append, LackElse, lacks_none, lacks_one, lacks_pair}
use Rattle.f77_laws.proofs.trees.Splits.{lack_both, back_both, CloseLoops, close_both, no_do, IsUpTo, range_up_to}
use Rattle.f77_laws.proofs.trees.Splits.{end_up_to, range_has, HasRange, HasDo, StandsInIf, no_split}
use Rattle.f77_laws.proofs.trees.Splits.{IsFirst, IsBehind, split_cons, only_split, Stands, stands_more, AreWhole}
use Rattle.f77_laws.proofs.trees.Splits.{nothing_whole, both_whole, alone_whole}

module _ (us : List Use77) (s : Store) (named : List ℕ) where
  -- ---- loops

  loop_closed : (x : Labelled) (n : ℕ) (v : List ℕ) (a b c : Expression) (range : List Labelled)
      → x.statement ≡ Do (Some n) v a b c → IsUpTo n range → CloseLoops range → CloseLoops (x ∷ range)
  loop_closed x n v a b c range e r h = λ m g.
      or_right (bears m x) (label_stands_in range m)
      (by m (begins_loop m x) (sym (ap (is_do_of m) e)) (h m) g)
    where
      same : (m : ℕ) → nat_eq n m ≡ true → n ≡ m
      same m t = grind (arith, nat_tests)

      by : (m : ℕ) (t : Bool) → nat_eq n m ≡ t → (list_any (begins_loop m) range ≡ true → label_stands_in range m ≡ true)
          → (t || list_any (begins_loop m) range) ≡ true → label_stands_in range m ≡ true
      by m true t more g = ap (label_stands_in range) (sym (same m t)) ∙ range_has n range r
      by m false t more g = more g

  do_alone : (x : Labelled) (n : ℕ) (v : List ℕ) (a b c : Expression) → x.statement ≡ Do (Some n) v a b c
      → LackElse (x ∷ [])
  do_alone x n v a b c e = lacks_one x [] (ap is_block_if e) (ap is_end_if e) (ap is_last_else e) lacks_none

  -- the DO of a loop, by what stands behind it
  do_stands : (x : Labelled) (n : ℕ) (v : List ℕ) (a b c : Expression) (range front : List Labelled) (y : Labelled)
      (back : List Labelled) → x.statement ≡ Do (Some n) v a b c → IsFirst x range front y back → HasRange n range
      → Stands us s named front y.label y.statement back
  do_stands x n v a b c range front y back e g h =
      subst (λ (o : Statement77). Stands us s named front y.label o back) (sym (ap (λ (z : Labelled). z.statement) g.1 ∙ e))
      (subst (λ (zs : List Labelled). HasRange n zs) (sym g.2) h)

  loop_whole : (x : Labelled) (n : ℕ) (v : List ℕ) (a b c : Expression) (range : List Labelled)
      → x.statement ≡ Do (Some n) v a b c → IsRange n range → AreWhole us s named range → AreWhole us s named (x ∷ range)
  loop_whole x n v a b c range e r h =
      record {
        stand = λ front y back g. by front y back (split_cons x range front y back g);
        lacks = lack_both (x ∷ []) range (do_alone x n v a b c e) h.lacks;
        paired = back_both (x ∷ []) range (single x [] (ap is_block_if e) (ap is_end_if e) none) h.paired;
        closed = loop_closed x n v a b c range e (range_up_to n range r) h.closed;
      }
    where
      has : HasRange n range
      has =
          record {
            range = range;
            rest = [];
            whole = sym (append-nil range);
            up_to = range_up_to n range r;
            paired = h.paired;
            closed = h.closed;
            ended = λ front end g f.
                absurd (not_both (is_end_do end.statement) (ap is_end_do f)
                (range_right n front end [] (subst (λ (zs : List Labelled). IsRange n zs) g r)).2);
          }

      by : (front : List Labelled) (y : Labelled) (back : List Labelled)
          → IsFirst x range front y back ⊎ IsBehind x range front y back → Stands us s named front y.label y.statement back
      by front y back (inl g) = do_stands x n v a b c range front y back e g has
      by front y back (inr g) =
          subst (λ (zs : List Labelled). Stands us s named zs y.label y.statement back) (sym g.1)
          (subst (λ (zs : List Labelled). Stands us s named (x ∷ g.0) y.label y.statement zs) (append-nil back)
          (stands_more us s named (x ∷ []) g.0 y.label y.statement back [] (h.stand g.0 y back g.2)))

  end_do_whole : (x end : Labelled) (n : ℕ) (v : List ℕ) (a b c : Expression) (range : List Labelled)
      → x.statement ≡ Do (Some n) v a b c → end.statement ≡ EndDo → label_stands_in range n ≡ false → bears n end ≡ true
      → AreWhole us s named range → AreWhole us s named (x ∷ (range ++ end ∷ []))
  end_do_whole x end n v a b c range e f t k h =
      record {
        stand = λ front y back g. by front y back (split_cons x (range ++ end ∷ []) front y back g);
        lacks =
            lack_both (x ∷ []) (range ++ end ∷ []) (do_alone x n v a b c e)
            (lack_both range (end ∷ []) h.lacks
            (lacks_one end [] (ap is_block_if f) (ap is_end_if f) (ap is_last_else f) lacks_none));
        paired = back_both (x ∷ []) (range ++ end ∷ []) (single x [] (ap is_block_if e) (ap is_end_if e) none) paired;
        closed = loop_closed x n v a b c (range ++ end ∷ []) e up_to closed;
      }
    where
      up_to : IsUpTo n (range ++ end ∷ [])
      up_to = end_up_to n range end t k f

      paired : BackPaired (reverse (range ++ end ∷ []))
      paired = back_both range (end ∷ []) h.paired (single end [] (ap is_block_if f) (ap is_end_if f) none)

      closed : CloseLoops (range ++ end ∷ [])
      closed = close_both range (end ∷ []) h.closed (no_do end EndDo f (λ m. refl))

      ended : (front : List Labelled) (y : Labelled)
          → InFirst range (end ∷ []) front y [] ⊎ InSecond range (end ∷ []) front y [] → CloseLoops front
      ended front y (inl g) = absurd (no_split g.mid end [] g.right)
      ended front y (inr g) =
          subst (λ (zs : List Labelled). CloseLoops zs)
          (sym (g.left ∙ ap (λ zs. range ++ zs) (only_split end g.mid y [] g.right).0 ∙ append-nil range)) h.closed

      has : HasRange n (range ++ end ∷ [])
      has =
          record {
            range = range ++ end ∷ [];
            rest = [];
            whole = sym (append-nil (range ++ end ∷ []));
            up_to = up_to;
            paired = paired;
            closed = closed;
            ended = λ front y g o. ended front y (split_append range (end ∷ []) front y [] g);
          }

      itself : nat_eq n n ≡ true
      itself = grind (arith, nat_tests)

      begun : HasDo end.label (x ∷ range)
      begun =
          subst (λ (l : Option ℕ). HasDo l (x ∷ range)) (sym (label_is n end.label k))
          (ap (λ d. d || list_any (begins_loop n) range) (ap (is_do_of n) e ∙ itself))

      -- in the range, or END DO
      behind : (front fs : List Labelled) (y : Labelled) (back : List Labelled) → front ≡ x ∷ fs
          → InFirst range (end ∷ []) fs y back ⊎ InSecond range (end ∷ []) fs y back
          → Stands us s named front y.label y.statement back
      behind front fs y back q (inl g) =
          subst (λ (ws : List Labelled). Stands us s named ws y.label y.statement back) (sym q)
          (subst (λ (ws : List Labelled). Stands us s named (x ∷ fs) y.label y.statement ws) (sym g.right)
          (stands_more us s named (x ∷ []) fs y.label y.statement g.mid (end ∷ []) (h.stand fs y g.mid g.left)))
      behind front fs y back q (inr g) =
          let o = only_split end g.mid y back g.right in
          subst (λ (ws : List Labelled). Stands us s named ws y.label y.statement back)
          (sym (q ∙ ap (λ ws. x ∷ ws) (g.left ∙ ap (λ ws. range ++ ws) o.0 ∙ append-nil range)))
          (subst (λ (z : Labelled). Stands us s named (x ∷ range) z.label z.statement back) (sym o.1)
          (subst (λ (u : Statement77). Stands us s named (x ∷ range) end.label u back) (sym f) begun))

      by : (front : List Labelled) (y : Labelled) (back : List Labelled)
          → IsFirst x (range ++ end ∷ []) front y back ⊎ IsBehind x (range ++ end ∷ []) front y back
          → Stands us s named front y.label y.statement back
      by front y back (inl g) = do_stands x n v a b c (range ++ end ∷ []) front y back e g has
      by front y back (inr g) = behind front g.0 y back g.1 (split_append range (end ∷ []) g.0 y back g.2)

  -- ---- block IFs

  -- what the statements of a block IF before some of it have to be
  record AreArmsBefore (x : Labelled) (since : List Labelled) : Type 0 where
    is_if : is_block_if x.statement ≡ true
    lacks : LackElse (reverse since)
    paired : BackPaired (reverse since)
    closed : CloseLoops since

  -- what follows the first arm of a block IF, behind what stands before it there
  record AreWholeArms (later : List Labelled) : Type 0 where
    stand : (x : Labelled) (since : List Labelled) → AreArmsBefore x since → (front : List Labelled) (y : Labelled)
        (back : List Labelled) → later ≡ front ++ y ∷ back → Stands us s named (x ∷ (since ++ front)) y.label y.statement back
    closed : CloseLoops later

  abbrev in_if : (x : Labelled) (since : List Labelled) → AreArmsBefore x since → StandsInIf (x ∷ since)
  in_if x since h =
      record {
        earlier = [];
        x = x;
        between = since;
        whole = refl;
        is_if = h.is_if;
        paired = h.paired;
        closed = h.closed;
      }

  -- the first statement of them
  first_stands : (x : Labelled) (since : List Labelled) (z : Labelled) (zs front : List Labelled) (y : Labelled)
      (back : List Labelled) (o : Statement77) → z.statement ≡ o → IsFirst z zs front y back
      → Stands us s named (x ∷ since) y.label o back → Stands us s named (x ∷ (since ++ front)) y.label y.statement back
  first_stands x since z zs front y back o e g h =
      subst (λ (ws : List Labelled). Stands us s named (x ∷ ws) y.label y.statement back)
      (sym (ap (λ ws. since ++ ws) g.0 ∙ append-nil since))
      (subst (λ (t : Statement77). Stands us s named (x ∷ since) y.label t back) (sym (ap (λ (w : Labelled). w.statement) g.1 ∙ e)) h)

  end_whole : (z : Labelled) → z.statement ≡ EndIf → AreWholeArms (z ∷ [])
  end_whole z e =
      record {
        stand = λ x since h front y back g.
            first_stands x since z [] front y back EndIf e (only_split z front y back g) (in_if x since h);
        closed = no_do z EndIf e (λ m. refl);
      }

  -- a statement of an arm
  arm_stands : (x : Labelled) (since : List Labelled) (z : Labelled) (part post front fs : List Labelled) (y : Labelled)
      (back : List Labelled) → AreWhole us s named part → front ≡ z ∷ fs → InFirst part post fs y back
      → Stands us s named (x ∷ (since ++ front)) y.label y.statement back
  arm_stands x since z part post front fs y back h e g =
      subst (λ (ws : List Labelled). Stands us s named (x ∷ ws) y.label y.statement back)
      (append_assoc since (z ∷ []) fs ∙ ap (λ ws. since ++ ws) (sym e))
      (subst (λ (ws : List Labelled). Stands us s named ((x ∷ (since ++ z ∷ [])) ++ fs) y.label y.statement ws) (sym g.right)
      (stands_more us s named (x ∷ (since ++ z ∷ [])) fs y.label y.statement g.mid post (h.stand fs y g.mid g.left)))

  else_whole : (z end : Labelled) (part : List Labelled) → z.statement ≡ Else → end.statement ≡ EndIf → AreWhole us s named part
      → AreWholeArms (z ∷ (part ++ end ∷ []))
  else_whole z end part e f h =
      record {
        stand = λ x since k front y back g. by x since k front y back (split_cons z (part ++ end ∷ []) front y back g);
        closed =
            close_both (z ∷ []) (part ++ end ∷ []) (no_do z Else e (λ m. refl))
            (close_both part (end ∷ []) h.closed (no_do end EndIf f (λ m. refl)));
      }
    where
      behind : (x : Labelled) (since : List Labelled) → AreArmsBefore x since → (front fs : List Labelled) (y : Labelled)
          (back : List Labelled) → front ≡ z ∷ fs
          → InFirst part (end ∷ []) fs y back ⊎ InSecond part (end ∷ []) fs y back
          → Stands us s named (x ∷ (since ++ front)) y.label y.statement back
      behind x since k front fs y back q (inl g) = arm_stands x since z part (end ∷ []) front fs y back h q g
      behind x since k front fs y back q (inr g) =
          let o = only_split end g.mid y back g.right in
          subst (λ (ws : List Labelled). Stands us s named (x ∷ (since ++ ws)) y.label y.statement back)
          (sym (q ∙ ap (λ ws. z ∷ ws) (g.left ∙ ap (λ ws. part ++ ws) o.0 ∙ append-nil part)))
          (subst (λ (t : Statement77). Stands us s named (x ∷ (since ++ z ∷ part)) y.label t back)
          (sym (ap (λ (w : Labelled). w.statement) o.1 ∙ f))
          (record {
            earlier = [];
            x = x;
            between = since ++ z ∷ part;
            whole = refl;
            is_if = k.is_if;
            paired =
                back_both since (z ∷ part) k.paired
                (back_both (z ∷ []) part (single z [] (ap is_block_if e) (ap is_end_if e) none) h.paired);
            closed =
                close_both since (z ∷ part) k.closed
                (close_both (z ∷ []) part (no_do z Else e (λ m. refl)) h.closed);
          }))

      by : (x : Labelled) (since : List Labelled) → AreArmsBefore x since → (front : List Labelled) (y : Labelled)
          (back : List Labelled)
          → IsFirst z (part ++ end ∷ []) front y back ⊎ IsBehind z (part ++ end ∷ []) front y back
          → Stands us s named (x ∷ (since ++ front)) y.label y.statement back
      by x since k front y back (inl g) =
          first_stands x since z (part ++ end ∷ []) front y back Else e g
          (record { within = in_if x since k; lacks = k.lacks })
      by x since k front y back (inr g) =
          behind x since k front g.0 y back g.1 (split_append part (end ∷ []) g.0 y back g.2)

  else_if_whole : (z : Labelled) (c : Expression) (next later : List Labelled) → z.statement ≡ ElseIf c → AreWhole us s named next
      → AreWholeArms later → AreWholeArms (z ∷ (next ++ later))
  else_if_whole z c next later e h a =
      record {
        stand = λ x since k front y back g. by x since k front y back (split_cons z (next ++ later) front y back g);
        closed =
            close_both (z ∷ []) (next ++ later) (no_do z (ElseIf c) e (λ m. refl)) (close_both next later h.closed a.closed);
      }
    where
      longer : (x : Labelled) (since : List Labelled) → AreArmsBefore x since → AreArmsBefore x (since ++ z ∷ next)
      longer x since k =
          record {
            is_if = k.is_if;
            lacks =
                lack_both since (z ∷ next) k.lacks
                (lack_both (z ∷ []) next (lacks_one z [] (ap is_block_if e) (ap is_end_if e) (ap is_last_else e) lacks_none) h.lacks);
            paired =
                back_both since (z ∷ next) k.paired
                (back_both (z ∷ []) next (single z [] (ap is_block_if e) (ap is_end_if e) none) h.paired);
            closed =
                close_both since (z ∷ next) k.closed
                (close_both (z ∷ []) next (no_do z (ElseIf c) e (λ m. refl)) h.closed);
          }

      behind : (x : Labelled) (since : List Labelled) → AreArmsBefore x since → (front fs : List Labelled) (y : Labelled)
          (back : List Labelled) → front ≡ z ∷ fs → InFirst next later fs y back ⊎ InSecond next later fs y back
          → Stands us s named (x ∷ (since ++ front)) y.label y.statement back
      behind x since k front fs y back q (inl g) = arm_stands x since z next later front fs y back h q g
      behind x since k front fs y back q (inr g) =
          subst (λ (ws : List Labelled). Stands us s named (x ∷ ws) y.label y.statement back)
          (append_assoc since (z ∷ next) g.mid ∙ ap (λ ws. since ++ ws) (sym (q ∙ ap (λ ws. z ∷ ws) g.left)))
          (a.stand x (since ++ z ∷ next) (longer x since k) g.mid y back g.right)

      by : (x : Labelled) (since : List Labelled) → AreArmsBefore x since → (front : List Labelled) (y : Labelled)
          (back : List Labelled) → IsFirst z (next ++ later) front y back ⊎ IsBehind z (next ++ later) front y back
          → Stands us s named (x ∷ (since ++ front)) y.label y.statement back
      by x since k front y back (inl g) =
          first_stands x since z (next ++ later) front y back (ElseIf c) e g
          (record { within = in_if x since k; lacks = k.lacks })
      by x since k front y back (inr g) =
          behind x since k front g.0 y back g.1 (split_append next later g.0 y back g.2)

  if_whole : (x : Labelled) (c : Expression) (first later : List Labelled) → x.statement ≡ If c → AreWhole us s named first
      → AreWholeArms later → AreEnded (first ++ later) → AreWhole us s named (x ∷ (first ++ later))
  if_whole x c first later e h a end =
      record {
        stand = λ front y back g. by front y back (split_cons x (first ++ later) front y back g);
        lacks =
            subst (λ (ws : List Labelled). LackElse ws) (sym turned)
            (lacks_pair x end.end (reverse end.between) [] (ap is_block_if e) end.is_end (back_of end.between end.paired)
            lacks_none);
        paired =
            subst (λ (ws : List Labelled). BackPaired ws) (sym turned)
            (double x end.end (reverse end.between) [] (ap is_block_if e) end.is_end (back_of end.between end.paired) none);
        closed =
            close_both (x ∷ []) (first ++ later) (no_do x (If c) e (λ m. refl)) (close_both first later h.closed a.closed);
      }
    where
      turned : reverse (x ∷ (first ++ later)) ≡ end.end ∷ (reverse end.between ++ x ∷ [])
      turned = ap (λ ws. reverse (x ∷ ws)) end.whole ∙ reverse_pair x end.end end.between []

      behind : (front fs : List Labelled) (y : Labelled) (back : List Labelled) → front ≡ x ∷ fs
          → InFirst first later fs y back ⊎ InSecond first later fs y back → Stands us s named front y.label y.statement back
      behind front fs y back q (inl g) =
          subst (λ (ws : List Labelled). Stands us s named ws y.label y.statement back) (sym q)
          (subst (λ (ws : List Labelled). Stands us s named (x ∷ fs) y.label y.statement ws) (sym g.right)
          (stands_more us s named (x ∷ []) fs y.label y.statement g.mid later (h.stand fs y g.mid g.left)))
      behind front fs y back q (inr g) =
          subst (λ (ws : List Labelled). Stands us s named ws y.label y.statement back) (sym (q ∙ ap (λ ws. x ∷ ws) g.left))
          (a.stand x first (record { is_if = ap is_block_if e; lacks = h.lacks; paired = h.paired; closed = h.closed })
          g.mid y back g.right)

      by : (front : List Labelled) (y : Labelled) (back : List Labelled)
          → IsFirst x (first ++ later) front y back ⊎ IsBehind x (first ++ later) front y back
          → Stands us s named front y.label y.statement back
      by front y back (inl g) =
          subst (λ (t : Statement77). Stands us s named front y.label t back) (sym (ap (λ (w : Labelled). w.statement) g.1 ∙ e))
          (record {
            between = end.between;
            end = end.end;
            rest = [];
            whole = g.2 ∙ end.whole;
            is_end = end.is_end;
            paired = end.paired;
          })
      by front y back (inr g) = behind front g.0 y back g.1 (split_append first later g.0 y back g.2)

  mutual
    unit_whole : (xs : List Labelled) (cs : List tree.Statement) → IsUnit us s named xs cs → AreWhole us s named xs
    unit_whole xs cs (alone x e) = alone_whole us s named x e
    unit_whole xs cs (block_if x c first later body arms part e h k) =
        if_whole x c first later e (block_whole first body h) (arms_whole later arms part k)
        (ended_behind first later (block_paired us s named first body h) (arms_ended us s named later arms part k))
    unit_whole xs cs (loop x n v a b c range body e r h) =
        loop_whole x n v a b c range e r (block_whole range body h)
    unit_whole xs cs (end_do x end n v a b c range body e h f t g) =
        end_do_whole x end n v a b c range e f t g (block_whole range body h)

    pub block_whole : (xs : List Labelled) (cs : List tree.Statement) → AreBlock77 us s named xs cs → AreWhole us s named xs
    block_whole xs cs nothing = nothing_whole us s named
    block_whole xs cs (unit first rest ds es h k) =
        both_whole us s named first rest (unit_whole first ds h) (block_whole rest es k)

    arms_whole : (xs : List Labelled) (arms : tree.Arms) (part : tree.Block) → AreArms77 us s named xs arms part
        → AreWholeArms xs
    arms_whole xs arms part (end_if x e) = end_whole x e
    arms_whole xs arms part (else_part x end ys body e h f) = else_whole x end ys e f (block_whole ys body h)
    arms_whole xs arms part (else_if x c next later body more o e h k) =
        else_if_whole x c next later e (block_whole next body h) (arms_whole later more o k)
