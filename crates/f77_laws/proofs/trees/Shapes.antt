-- What the statements from one on have become has the shape of what is open before them.
use Rattle.std.proofs.Common.{◌≡◌, ℕ, zero, suc, ◌<◌, ◌==◌, Bool, true, false, cond, Option, Some, None, List, [], ◌∷◌, length, refl, sym, ap, subst, ◌∙◌, arith}
use Rattle.std.specs.List.{AllByRecursion}
use Rattle.std.proofs.lemmas.Bool.Decides.{nat_tests}
use Rattle.tree.specs.Plain as tree
use Rattle.meaning.specs.Store.{Store}
use Rattle.f77_grammar.specs.Statement77.{Labelled, Statement77, If, ElseIf, Else, EndIf, Do}
use Rattle.f77_grammar.specs.program.Text.{places_from, is_label}
use Rattle.f77_grammar.specs.program.Nesting.{has_end_if77}
use Rattle.f77_grammar.specs.program.Uses.{Use77}
use Rattle.f77_grammar.specs.program.Tree.{label_before, resolved}
use Rattle.f77_laws.specs.trees.Steps.{Piece, Rest, Outermost, InArm, beyond, preceded, loop_begun, begun, rest_from}
use Rattle.f77_laws.specs.trees.Laws.{IsWellNested}
use Rattle.f77_laws.proofs.trees.Frames.{Loop, Frames, Base, Inner, pushed, closed, top_closed, frames, open_ifs_in, top_kept, ended}
use Rattle.f77_laws.proofs.trees.Moves.{Moves, moves, AllEnd, all_end}

-- the pieces end the loops, the innermost first
abbrev pub Closes : List Loop → List Piece → Type 0
Closes ls [] = ls ≡ []
Closes ls (p ∷ ps) = Closes (closed p.ends ls) ps

-- where an ELSE has stood before, none comes
abbrev pub IsShaped : Frames → Rest → Type 0
IsShaped (Base ls) (Outermost ps) = Closes ls ps
IsShaped (Base ls) (InArm ps arms other r) = ⊥
IsShaped (Inner ls had f) (Outermost ps) = ⊥
IsShaped (Inner ls had f) (InArm ps arms other r) = Closes ls ps × (had ≡ true → other ≡ tree.no_statements) × IsShaped f r

-- ---- one piece more

pub preceded_shape : (p : Piece) (f : Frames) (r : Rest) → IsShaped (top_closed p.ends f) r → IsShaped f (preceded p r)
preceded_shape p (Base ls) (Outermost ps) h = h
preceded_shape p (Base ls) (InArm ps arms other r) h = h
preceded_shape p (Inner ls had f) (Outermost ps) h = h
preceded_shape p (Inner ls had f) (InArm ps arms other r) h = h

-- ---- a loop

pub label_is : (n : ℕ) (end : Option ℕ) → is_label n end ≡ true → end ≡ Some n
label_is n None h = absurd cc
label_is n (Some m) h = ap Some (let t : (m == n) ≡ true = h in grind (arith, nat_tests))

loop_closes : (l : Loop) (ls : List Loop) (ps : List Piece) → Closes (l ∷ ls) ps → Closes (closed (Some l.label) ls) (beyond l.label ps)
loop_closes l ls [] h = absurd (let e = ap length h in omega arith)
loop_closes l ls (p ∷ ps) h = by (is_label l.label p.ends) refl (loop_closes l ls ps) h
  where
    by : (b : Bool) → is_label l.label p.ends ≡ b → (Closes (l ∷ ls) ps → Closes (closed (Some l.label) ls) (beyond l.label ps)) → Closes (cond b (closed p.ends ls) (l ∷ ls)) ps
        → Closes (closed (Some l.label) ls) (cond b ps (beyond l.label ps))
    by true e more h = subst (λ (o : Option ℕ). Closes (closed o ls) ps) (label_is l.label p.ends e) h
    by false e more h = more h

loop_shape : (make : tree.Block → tree.Statement) (mark : List tree.Statement) (l : Loop) (f : Frames) (r : Rest) → IsShaped (pushed l f) r → IsShaped f (loop_begun make mark l.label r)
loop_shape make mark l (Base ls) (Outermost ps) h = loop_closes l ls ps h
loop_shape make mark l (Base ls) (InArm ps arms other r) h = h
loop_shape make mark l (Inner ls had f) (Outermost ps) h = h
loop_shape make mark l (Inner ls had f) (InArm ps arms other r) h = (loop_closes l ls ps h.0, h.1, h.2)

-- ---- each statement

none_open : (before : List Labelled) → AllEnd [] (frames [] before 0) → open_ifs_in (frames [] before 0) ≡ 0
none_open before h = by (open_ifs_in (frames [] before 0)) h
  where
    by : (n : ℕ) → ((j : ℕ) → j < n → has_end_if77 [] j ≡ true) → n ≡ 0
    by zero h = refl
    by (suc n) h = absurd (let e = h 0 (omega arith) in cc)

-- nothing is open at the end of the text
pub no_frames : (before : List Labelled) → AllEnd [] (frames [] before 0) → frames [] before 0 ≡ Base []
no_frames before h = ended before (none_open before h)

module _ (us : List Use77) (s : Store) (named : List ℕ) where
  if_shape : (x : Labelled) (c : tree.Expression) (f : Frames) (r : Rest) → IsShaped (Inner [] false f) r → IsShaped f (begun us s named x (If c) r)
  if_shape x c f (Outermost ps) h = absurd h
  if_shape x c f (InArm ps arms other r) h = preceded_shape (record { ends = None; made = _ }) f r (subst (λ (g : Frames). IsShaped g r) (sym (top_kept f)) h.2)

  else_shape : (x : Labelled) (f : Frames) (r : Rest) → IsShaped (Inner [] true f) r → IsShaped (Inner [] false f) (begun us s named x Else r)
  else_shape x f (Outermost ps) h = absurd h
  else_shape x f (InArm ps arms other r) h = (refl, λ e. absurd cc, h.2)

  else_if_shape : (x : Labelled) (c : tree.Expression) (had : Bool) (f : Frames) (r : Rest) → IsShaped (Inner [] had f) r → IsShaped (Inner [] had f) (begun us s named x (ElseIf c) r)
  else_if_shape x c had f (Outermost ps) h = absurd h
  else_if_shape x c had f (InArm ps arms other r) h = (refl, h.1, h.2)

  begun_shape : (c : Statement77) (x : Labelled) (f g : Frames) (r : Rest) → Moves c x.label f g → IsShaped g r → IsShaped f (begun us s named x c r)
  begun_shape (If c) x f g r m h = if_shape x c f r (subst (λ (k : Frames). IsShaped k r) m h)
  begun_shape EndIf x f g r m h = subst (λ (k : Frames). IsShaped k (InArm [] tree.no_arms tree.no_statements r)) (sym m.is) (refl, λ e. refl, h)
  begun_shape Else x f g r m h =
      subst (λ (k : Frames). IsShaped k (begun us s named x Else r)) (sym m.before) (else_shape x m.outer r (subst (λ (k : Frames). IsShaped k r) m.after h))
  begun_shape (ElseIf c) x f g r m h =
      subst (λ (k : Frames). IsShaped k (begun us s named x (ElseIf c) r)) (sym m.before) (else_if_shape x c m.had m.outer r (subst (λ (k : Frames). IsShaped k r) (m.same ∙ m.before) h))
  begun_shape (Do (Some n) v a b c) x f g r m h = loop_shape (tree.Do x.line v (resolved us s a) (resolved us s b) (resolved us s c)) (label_before named x.label) (record { label = n; variable = v }) f r (subst (λ (k : Frames). IsShaped k r) m h)
  begun_shape c x f g r m h = preceded_shape (record { ends = x.label; made = _ }) f r (subst (λ (k : Frames). IsShaped k r) m h)

  pub shape : (before xs : List Labelled) → AllByRecursion IsWellNested (places_from before xs) → AllEnd xs (frames xs before 0) → IsShaped (frames xs before 0) (rest_from us s named xs)
  shape before [] r h = subst (λ (f : Frames). IsShaped f (Outermost [])) (sym (no_frames before h)) refl
  shape before (x ∷ xs) r h =
      begun_shape x.statement x (frames (x ∷ xs) before 0) (frames xs (x ∷ before) 0) (rest_from us s named xs) (moves before xs x r) (shape (x ∷ before) xs r.1 (all_end before xs x r h))
