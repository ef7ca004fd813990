-- Statements in which nothing is nested wrongly form the block that they become.
use Rattle.std.proofs.Common.{◌≡◌, inl, inr, ℕ, ◌==◌, nat_eq, Bool, true, false, not, ◌&&◌, ◌||◌}
use Rattle.std.proofs.Common.{Some, None}
use Rattle.std.proofs.Common.{List, [], ◌∷◌, ◌++◌, refl, sym, ap, subst, ◌∙◌, arith, flat_map, append-nil}
use Rattle.std.proofs.Common.{append_assoc}
use Rattle.std.specs.List.{AllByRecursion, list_any}
use Rattle.std.proofs.lemmas.Bool.Decides.{nat_tests}
use Rattle.tree.specs.Plain as tree
use Rattle.tree.specs.Plain.{Expression}
use Rattle.meaning.specs.Store.{Store}
use Rattle.f77_grammar.specs.Statement77.{Labelled, Statement77, If, ElseIf, Else, EndIf, Do, EndDo}
use Rattle.f77_grammar.specs.program.Text.{Place77, places_from, label_stands_in, is_last_else}
use Rattle.f77_grammar.specs.program.Nesting.{is_no_loop_end, begins_loop, is_do_of, own_since_if}
use Rattle.f77_grammar.specs.program.Nesting.{has_open_if, is_loop_open, since_if}
use Rattle.f77_grammar.specs.program.Nesting.{suits_else, nests_wrongly, ends_loops_wrongly, is_left_open}
use Rattle.f77_grammar.specs.program.Nesting.{is_closed_wrongly}
use Rattle.f77_grammar.specs.program.Uses.{Use77}
use Rattle.f77_laws.specs.trees.Steps.{Piece, Rest, Outermost, InArm, block_of, up_to, beyond, preceded, arm_begun}
use Rattle.f77_grammar.specs.program.Tree.{label_before, resolved, simple}
use Rattle.f77_laws.specs.trees.Steps.{else_begun, if_begun, loop_begun}
use Rattle.f77_laws.specs.trees.Steps.{begun, rest_from}
use Rattle.f77_laws.proofs.trees.Lists.{left_false, right_false, right_true, negated, affirmed, not_both}
use Rattle.f77_laws.proofs.trees.Frames.{Loop, Frames, Base, Inner, pushed, closed, top_closed, frames, had_else}
use Rattle.f77_laws.proofs.trees.Frames.{else_shown, top_kept}
use Rattle.f77_laws.proofs.trees.Moves.{Moves, moves, AllEnd, all_end}
use Rattle.f77_laws.proofs.trees.InnermostLoops.{AreOpen, none_yet, open_after, EndsOne, top, end_do_ends_one}
use Rattle.f77_laws.proofs.trees.Shapes.{IsShaped, no_frames, shape}
use Rattle.f77_grammar.specs.program.Blocks.{stands_alone, IsRange, IsUnit, AreBlock77, AreArms77}
use Rattle.f77_grammar.specs.program.Blocks.IsUnit.{alone, block_if, loop, end_do}
use Rattle.f77_grammar.specs.program.Blocks.AreArms77.{end_if, else_part, else_if}
use Rattle.f77_laws.specs.trees.Laws.{IsWellNested}
use Rattle.f77_laws.proofs.trees.Begun.{made_in}
use Rattle.f77_laws.proofs.trees.LoopEnds.{BearsLast, bears_behind, range_of, may_end_behind, none_before, no_end_do}
use Rattle.f77_laws.proofs.trees.LoopEnds.{alone_is_no_end_do, none_to_close}
use Rattle.f77_laws.proofs.trees.Pieces.{ends_innermost, IsPiece, IsPart, ArePieces, block_formed, IsBody, AreCut, cut}

-- ---- where a block IF has had its ELSE, no ELSE IF comes

no_else_if : (before xs : List Labelled) (x : Labelled) (had : Bool) (outer : Frames)
    → suits_else (record { before = before; here = x; after = xs }) ≡ true
    → frames (x ∷ xs) before 0 ≡ Inner [] had outer → had ≡ false
no_else_if before xs x true outer h e =
    let none : list_any (λ (z : Labelled). is_last_else z.statement) (own_since_if before) ≡ false =
    negated (list_any (λ (z : Labelled). is_last_else z.statement) (own_since_if before))
    (right_true (has_open_if before && not (is_loop_open (since_if before) (x ∷ xs)))
    (not (list_any (λ (z : Labelled). is_last_else z.statement) (own_since_if before))) h) in
    absurd (not_both (list_any (λ (z : Labelled). is_last_else z.statement) (own_since_if before))
    (else_shown (x ∷ xs) before 0 (ap had_else e)) none)
no_else_if before xs x false outer h e = refl

module _ (us : List Use77) (s : Store) (named : List ℕ) where
  -- ---- statements and what they have become

  -- where an ELSE has stood before, only the END IF of the block IF is left
  record IsEndIf (xs : List Labelled) (arms : tree.Arms) (part : tree.Block) : Type 0 where
    end : Labelled
    alone_there : xs ≡ end ∷ []
    is_end_if : end.statement ≡ EndIf
    no_arms : arms ≡ tree.no_arms
    no_part : part ≡ tree.no_statements

  -- the rest of an arm, then the rest of its block IF, then what comes after that
  record AreInArm (ls : List Loop) (had : Bool) (xs : List Labelled) (ps : List Piece) (arms : tree.Arms)
      (part : tree.Block) (Outer : List Labelled → Type 0) : Type 0 where
    arm : List Labelled
    later : List Labelled
    back : List Labelled
    whole : xs ≡ arm ++ (later ++ back)
    pieces : ArePieces us s named ls arm ps
    formed : AreArms77 us s named later arms part
    after_else : had ≡ true → IsEndIf later arms part
    outer : Outer back

  abbrev Give : Frames → List Labelled → Rest → Type 0
  Give (Base ls) xs (Outermost ps) = ArePieces us s named ls xs ps
  Give (Base ls) xs (InArm ps arms part r) = ⊥
  Give (Inner ls had f) xs (Outermost ps) = ⊥
  Give (Inner ls had f) xs (InArm ps arms part r) = AreInArm ls had xs ps arms part (λ ys. Give f ys r)

  preceded_gives : (first : List Labelled) (p : Piece) (f : Frames) (xs : List Labelled) (r : Rest)
      → IsPart us s named (top f) first p → Give (top_closed p.ends f) xs r → Give f (first ++ xs) (preceded p r)
  preceded_gives first p (Base ls) xs (Outermost ps) h k =
      record { first = first; rest = xs; whole = refl; part = h; more = k }
  preceded_gives first p (Base ls) xs (InArm ps arms part r) h k = k
  preceded_gives first p (Inner ls had f) xs (Outermost ps) h k = k
  preceded_gives first p (Inner ls had f) xs (InArm ps arms part r) h k =
      record {
        arm = first ++ k.arm;
        later = k.later;
        back = k.back;
        whole = ap (λ zs. first ++ zs) k.whole ∙ sym (append_assoc first k.arm (k.later ++ k.back));
        pieces = record { first = first; rest = k.arm; whole = refl; part = h; more = k.pieces };
        formed = k.formed;
        after_else = k.after_else;
        outer = k.outer;
      }

  -- ---- each statement

  alone_gives : (x : Labelled) (f : Frames) (xs : List Labelled) (r : Rest) → stands_alone x.statement ≡ true
      → Give (top_closed x.label f) xs r
      → Give f (x ∷ xs)
      (preceded (record { ends = x.label; made = label_before named x.label ++ simple us s x.line x.statement }) r)
  alone_gives x f xs r e h = preceded_gives (x ∷ []) p f xs r (inl part) h
    where
      p : Piece
      p = record { ends = x.label; made = label_before named x.label ++ simple us s x.line x.statement }

      part : IsPiece us s named (top f) (x ∷ []) p
      part =
          record {
            is_unit = alone x e;
            ended = λ n t. record { front = []; last = x; whole = refl; bears_it = t };
            once = λ front end g d. absurd (no_end_do [] x front end g (alone_is_no_end_do x.statement e) d);
          }

  end_do_gives : (x : Labelled) (f : Frames) (xs : List Labelled) (r : Rest) → x.statement ≡ EndDo
      → EndsOne x.label (top f) → Give (top_closed x.label f) xs r
      → Give f (x ∷ xs) (preceded (record { ends = x.label; made = label_before named x.label ++ [] }) r)
  end_do_gives x f xs r e t h =
      preceded_gives (x ∷ []) (record { ends = x.label; made = label_before named x.label ++ [] }) f xs r
      (inr (record {
        end = x;
        alone_there = refl;
        is_end = e;
        ends = refl;
        made = append-nil (label_before named x.label);
        one = t;
      }))
      h

  if_gives : (x : Labelled) (c : Expression) (f : Frames) (xs : List Labelled) (r : Rest) → x.statement ≡ If c
      → Give (Inner [] false f) xs r
      → Give f (x ∷ xs) (if_begun x.line (label_before named x.label) (resolved us s c) r)
  if_gives x c f xs (Outermost ps) e h = absurd h
  if_gives x c f xs (InArm ps arms part r) e h =
      subst (λ (zs : List Labelled). Give f (x ∷ zs) (preceded p r)) (append_assoc h.arm h.later h.back ∙ sym h.whole)
      (preceded_gives (x ∷ (h.arm ++ h.later)) p f h.back r (inl whole)
      (subst (λ (g : Frames). Give g h.back r) (sym (top_kept f)) h.outer))
    where
      p : Piece
      p =
          record {
            ends = None;
            made = label_before named x.label ++ tree.If x.line (tree.arm (resolved us s c) (block_of ps) arms) part ∷ [];
          }

      whole : IsPiece us s named (top f) (x ∷ (h.arm ++ h.later)) p
      whole =
          record {
            is_unit =
                block_if x c h.arm h.later (flat_map (λ (q : Piece). q.made) ps) arms part e
                (block_formed us s named h.arm ps h.pieces) h.formed;
            ended = λ n t. absurd cc;
            once = λ front end g d. none_to_close (top f);
          }

  end_if_gives : (x : Labelled) (had : Bool) (f : Frames) (xs : List Labelled) (r : Rest) → x.statement ≡ EndIf
      → Give f xs r → Give (Inner [] had f) (x ∷ xs) (InArm [] tree.no_arms tree.no_statements r)
  end_if_gives x had f xs r e h =
      record {
        arm = [];
        later = x ∷ [];
        back = xs;
        whole = refl;
        pieces = refl;
        formed = end_if x e;
        after_else = λ t. record { end = x; alone_there = refl; is_end_if = e; no_arms = refl; no_part = refl };
        outer = h;
      }

  else_gives : (x : Labelled) (f : Frames) (xs : List Labelled) (r : Rest) → x.statement ≡ Else
      → Give (Inner [] true f) xs r → Give (Inner [] false f) (x ∷ xs) (else_begun r)
  else_gives x f xs (Outermost ps) e h = h
  else_gives x f xs (InArm ps arms part r) e h =
      let end = h.after_else refl in
      record {
        arm = [];
        later = x ∷ (h.arm ++ end.end ∷ []);
        back = h.back;
        whole = ap (λ zs. x ∷ zs) (h.whole ∙ ap (λ zs. h.arm ++ (zs ++ h.back)) end.alone_there
            ∙ sym (append_assoc h.arm (end.end ∷ []) h.back));
        pieces = refl;
        formed =
            subst (λ (more : tree.Arms). AreArms77 us s named (x ∷ (h.arm ++ end.end ∷ [])) more (block_of ps))
            (sym end.no_arms)
            (else_part x end.end h.arm (flat_map (λ (q : Piece). q.made) ps) e (block_formed us s named h.arm ps h.pieces)
            end.is_end_if);
        after_else = λ t. absurd cc;
        outer = h.outer;
      }

  else_if_gives : (x : Labelled) (c : Expression) (had : Bool) (f : Frames) (xs : List Labelled) (r : Rest)
      → x.statement ≡ ElseIf c → had ≡ false → Give (Inner [] had f) xs r
      → Give (Inner [] had f) (x ∷ xs) (arm_begun (resolved us s c) r)
  else_if_gives x c had f xs (Outermost ps) e none h = h
  else_if_gives x c had f xs (InArm ps arms part r) e none h =
      record {
        arm = [];
        later = x ∷ (h.arm ++ h.later);
        back = h.back;
        whole = ap (λ zs. x ∷ zs) (h.whole ∙ sym (append_assoc h.arm h.later h.back));
        pieces = refl;
        formed =
            else_if x c h.arm h.later (flat_map (λ (q : Piece). q.made) ps) arms part e
            (block_formed us s named h.arm ps h.pieces) h.formed;
        after_else = λ t. absurd cc;
        outer = h.outer;
      }

  -- the pieces that a loop takes, of an arm or of the whole, are those of its range
  loop_piece : (before : List Labelled) (x : Labelled) (n : ℕ) (v : List ℕ) (a b c : Expression) (ls : List Loop)
      (xs arm tail : List Labelled) (taken others : List Piece) → x.statement ≡ Do (Some n) v a b c
      → AllByRecursion IsWellNested (places_from (x ∷ before) xs) → xs ≡ arm ++ tail
      → (h : AreCut us s named n ls arm taken others)
      → IsPiece us s named ls (x ∷ h.range) (record {
        ends = Some n;
        made = label_before named x.label
            ++ tree.Do x.line v (resolved us s a) (resolved us s b) (resolved us s c) (block_of taken) ∷ [];
      })
  loop_piece before x n v a b c ls xs arm tail taken others e r w h =
      record {
        is_unit = is_loop h.body;
        ended = λ k t. bears_behind k (x ∷ []) h.range (subst (λ (m : ℕ). BearsLast m h.range) (same k t) h.bears_last);
        once = ends_once h.body;
      }
    where
      end : BearsLast n h.range
      end = h.bears_last

      cut_there : xs ≡ end.front ++ (end.last ∷ (h.back ++ tail))
      cut_there =
          w
          ∙ ap (λ zs. zs ++ tail)
          (h.whole ∙ ap (λ zs. zs ++ h.back) end.whole ∙ append_assoc end.front (end.last ∷ []) h.back)
          ∙ append_assoc end.front (end.last ∷ h.back) tail

      nested : AllByRecursion IsWellNested (places_from (x ∷ before) (end.front ++ (end.last ∷ (h.back ++ tail))))
      nested = subst (λ (zs : List Labelled). AllByRecursion IsWellNested (places_from (x ∷ before) zs)) cut_there r

      same : (k : ℕ) → (n == k) ≡ true → n ≡ k
      same k t = grind (arith, nat_tests)

      itself : nat_eq n n ≡ true
      itself = grind (arith, nat_tests)

      none : label_stands_in end.front n ≡ false
      none = none_before (x ∷ before) n end.front end.last (h.back ++ tail) nested end.bears_it

      may_end : is_no_loop_end end.last.statement ≡ false
      may_end =
          may_end_behind (x ∷ before) n end.front end.last (h.back ++ tail) nested
          (ap (λ d. d || list_any (begins_loop n) before) (ap (is_do_of n) e ∙ itself)) end.bears_it

      is_loop : IsBody us s named n ls h.range (flat_map (λ (p : Piece). p.made) taken) end
          → IsUnit us s named (x ∷ h.range) (label_before named x.label
          ++ tree.Do x.line v (resolved us s a) (resolved us s b) (resolved us s c) (block_of taken) ∷ [])
      is_loop (inl k) =
          loop x n v a b c h.range (flat_map (λ (p : Piece). p.made) taken) e
          (subst (λ (zs : List Labelled). IsRange n zs) (sym end.whole)
          (range_of n end.front end.last none end.bears_it may_end k.0))
          k.1
      is_loop (inr k) =
          subst (λ (zs : List Labelled). IsUnit us s named (x ∷ zs) (label_before named x.label
          ++ tree.Do x.line v (resolved us s a) (resolved us s b) (resolved us s c) (block_of taken) ∷ []))
          (sym end.whole)
          (subst (λ (cs : List tree.Statement). IsUnit us s named (x ∷ (end.front ++ end.last ∷ []))
          (label_before named x.label
          ++ tree.Do x.line v (resolved us s a) (resolved us s b) (resolved us s c) (tree.block cs) ∷ []))
          (sym k.made)
          (end_do x end.last n v a b c end.front k.body e k.formed k.is_end none end.bears_it))

      ends_once : IsBody us s named n ls h.range (flat_map (λ (p : Piece). p.made) taken) end → (front : List Labelled)
          (last : Labelled) → x ∷ h.range ≡ front ++ last ∷ [] → last.statement ≡ EndDo → closed (Some n) ls ≡ ls
      ends_once (inl k) front last g d =
          absurd (no_end_do (x ∷ end.front) end.last front last (sym (ap (λ zs. x ∷ zs) end.whole) ∙ g) k.0 d)
      ends_once (inr k) front last g d = k.once

  do_gives : (before : List Labelled) (x : Labelled) (n : ℕ) (v : List ℕ) (a b c : Expression) (f : Frames)
      (xs : List Labelled) (r : Rest) → x.statement ≡ Do (Some n) v a b c
      → AllByRecursion IsWellNested (places_from (x ∷ before) xs)
      → IsShaped (pushed (record { label = n; variable = v }) f) r
      → Give (pushed (record { label = n; variable = v }) f) xs r
      → Give f (x ∷ xs) (loop_begun (tree.Do x.line v (resolved us s a) (resolved us s b) (resolved us s c))
      (label_before named x.label) n r)
  do_gives before x n v a b c (Base ls) xs (Outermost ps) e r d h =
      let l : Loop = record { label = n; variable = v } in
      let k = cut us s named l ls xs ps h (ends_innermost l ls ps d) in
      record {
        first = x ∷ k.range;
        rest = k.back;
        whole = ap (λ zs. x ∷ zs) k.whole;
        part =
            inl (loop_piece before x n v a b c ls xs xs [] (up_to n ps) (beyond n ps) e r (sym (append-nil xs)) k);
        more = k.left;
      }
  do_gives before x n v a b c (Base ls) xs (InArm ps arms part r) e g d h = h
  do_gives before x n v a b c (Inner ls had f) xs (Outermost ps) e g d h = h
  do_gives before x n v a b c (Inner ls had f) xs (InArm ps arms part r) e g d h =
      let l : Loop = record { label = n; variable = v } in
      let k = cut us s named l ls h.arm ps h.pieces (ends_innermost l ls ps d.0) in
      record {
        arm = x ∷ (k.range ++ k.back);
        later = h.later;
        back = h.back;
        whole = ap (λ zs. x ∷ zs) (h.whole ∙ ap (λ zs. zs ++ (h.later ++ h.back)) k.whole);
        pieces =
            record {
              first = x ∷ k.range;
              rest = k.back;
              whole = refl;
              part =
                  inl (loop_piece before x n v a b c ls xs h.arm (h.later ++ h.back) (up_to n ps) (beyond n ps) e g
                  h.whole k);
              more = k.left;
            };
        formed = h.formed;
        after_else = h.after_else;
        outer = h.outer;
      }

  other_gives : (x : Labelled) (c : Statement77) (f g : Frames) (xs : List Labelled) (r : Rest) → x.statement ≡ c
      → stands_alone c ≡ true → g ≡ top_closed x.label f → Give g xs r
      → Give f (x ∷ xs) (preceded (record { ends = x.label; made = label_before named x.label ++ simple us s x.line c }) r)
  other_gives x c f g xs r e t m h =
      subst (λ (o : Statement77). Give f (x ∷ xs)
      (preceded (record { ends = x.label; made = label_before named x.label ++ simple us s x.line o }) r)) e
      (alone_gives x f xs r (ap stands_alone e ∙ t) (subst (λ (k : Frames). Give k xs r) m h))

  statement_gives : (before xs : List Labelled) (x : Labelled) (c : Statement77) (f g : Frames) (r : Rest)
      → x.statement ≡ c → frames (x ∷ xs) before 0 ≡ f
      → AllByRecursion IsWellNested (places_from before (x ∷ xs))
      → Moves c x.label f g → IsShaped g r → (c ≡ EndDo → EndsOne x.label (top f)) → Give g xs r
      → Give f (x ∷ xs) (begun us s named x c r)
  statement_gives before xs x (If c) f g r e o right m d one h =
      if_gives x c f xs r e (subst (λ (k : Frames). Give k xs r) m h)
  statement_gives before xs x EndIf f g r e o right m d one h =
      subst (λ (k : Frames). Give k (x ∷ xs) (InArm [] tree.no_arms tree.no_statements r)) (sym m.is)
      (end_if_gives x m.had g xs r e h)
  statement_gives before xs x Else f g r e o right m d one h =
      subst (λ (k : Frames). Give k (x ∷ xs) (else_begun r)) (sym m.before)
      (else_gives x m.outer xs r e (subst (λ (k : Frames). Give k xs r) m.after h))
  statement_gives before xs x (ElseIf c) f g r e o right m d one h =
      subst (λ (k : Frames). Give k (x ∷ xs) (arm_begun (resolved us s c) r)) (sym m.before)
      (else_if_gives x c m.had m.outer xs r e (no_else_if before xs x m.had m.outer suits (o ∙ m.before))
      (subst (λ (k : Frames). Give k xs r) (m.same ∙ m.before) h))
    where
      p : Place77
      p = record { before = before; here = x; after = xs }

      suits : suits_else p ≡ true
      suits =
          affirmed (suits_else p)
          (sym (ap (λ (t : Statement77). nests_wrongly t p) e)
          ∙ left_false (nests_wrongly x.statement p) (ends_loops_wrongly p x.label)
          (right_false (is_left_open p) (is_closed_wrongly p) right.0.nesting))
  statement_gives before xs x (Do None v a b c) f g r e o right m d one h =
      absurd (not_both true refl (sym (ap (λ (t : Statement77). nests_wrongly t p) e)
      ∙ left_false (nests_wrongly x.statement p) (ends_loops_wrongly p x.label)
      (right_false (is_left_open p) (is_closed_wrongly p) right.0.nesting)))
    where
      p : Place77
      p = record { before = before; here = x; after = xs }
  statement_gives before xs x (Do (Some n) v a b c) f g r e o right m d one h =
      do_gives before x n v a b c f xs r e right.1 (subst (λ (k : Frames). IsShaped k r) m d)
      (subst (λ (k : Frames). Give k xs r) m h)
  statement_gives before xs x EndDo f g r e o right m d one h =
      end_do_gives x f xs r e (one refl) (subst (λ (k : Frames). Give k xs r) m h)
  statement_gives before xs x c f g r e o right m d one h = other_gives x c f g xs r e refl m h

  gives : (before xs : List Labelled) → AllByRecursion IsWellNested (places_from before xs)
      → AllEnd xs (frames xs before 0) → AreOpen before xs → Give (frames xs before 0) xs (rest_from us s named xs)
  gives before [] r h held =
      subst (λ (f : Frames). Give f [] (Outermost [])) (sym (no_frames before h)) refl
  gives before (x ∷ xs) r h held =
      let end = all_end before xs x r h in
      statement_gives before xs x x.statement (frames (x ∷ xs) before 0) (frames xs (x ∷ before) 0)
      (rest_from us s named xs) refl refl r (moves before xs x r)
      (shape us s named (x ∷ before) xs r.1 end) (end_do_ends_one before xs x r held)
      (gives (x ∷ before) xs r.1 end (open_after before xs x r held))

  outermost_formed : (xs : List Labelled) (r : Rest) → Give (Base []) xs r → AreBlock77 us s named xs (made_in us s named r)
  outermost_formed xs (Outermost ps) h = block_formed us s named xs ps h
  outermost_formed xs (InArm ps arms part r) h = absurd h

  -- a text in which nothing is wrong forms a block
  pub text_formed : (text : List Labelled) → AllByRecursion IsWellNested (places_from [] text)
      → AreBlock77 us s named text (made_in us s named (rest_from us s named text))
  text_formed text r =
      outermost_formed text (rest_from us s named text)
      (gives [] text r (λ j l. absurd (omega arith)) (none_yet text))
