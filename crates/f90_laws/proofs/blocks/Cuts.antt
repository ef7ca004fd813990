-- Statements in which no block is closed wrongly and none stays open form a block.
use Rattle.std.proofs.Common.{◌≡◌, ℕ, zero, suc, ◌≤◌, Bool, true, false, Option, None, List, [], ◌∷◌, ◌++◌, length}
use Rattle.std.proofs.Common.{refl, sym, ap, subst, ◌∙◌, arith, append_assoc, append-nil, length-append}
use mathlib.Core.Path.{ap₂}
use Rattle.std.specs.List.{AllByRecursion}
use Rattle.tree.specs.Plain as tree
use Rattle.tree.specs.Plain.{Statement, Arms, Block}
use Rattle.tree.specs.declared.stmts.Mark.{Mark}
use Rattle.tree.specs.declared.functions.Intrinsic.{Intrinsic}
use Rattle.f90_grammar.specs.Phrases.{Phrase90, value_of_digits}
use Rattle.f90_grammar.specs.Forms as forms
use Rattle.f90_grammar.specs.Forms.{Form90, IsInner90}
use Rattle.f90_grammar.specs.Blocks.{Placed, placed_form, IsSimple, AreBlock90, AreArms90}
use Rattle.f90_grammar.specs.Blocks.IsSimple.{assigns, masks, goes, stops, reads, reads_nothing, prints, prints_nothing}
use Rattle.f90_grammar.specs.Blocks.IsSimple.{allocates, deallocates}
use Rattle.f90_grammar.specs.Blocks.AreBlock90.{nothing, label, unnamed, simple, test, branch, loop}
use Rattle.f90_grammar.specs.Blocks.AreArms90.{ends, other, further}
use Rattle.f90_grammar.specs.Order.{Opened, InIf, InElse, InDo, opened_by, opened_behind, closes_wrongly, closes_if}
use Rattle.f90_grammar.specs.Order.{has_end_if90, has_end_do, stays_open90, is_executable90}
use Rattle.f90_grammar.specs.Reading.{takes_mark}
use Rattle.f90_laws.proofs.readings.Counts.{HasInnerForm, block_keeps, arms_keep}
use Rattle.f90_laws.proofs.readings.Lists.{all_right, affirmed}
use Rattle.f90_laws.proofs.unrefused.Blocks.{Close, AreClosed, block_end_if, block_end_do}
use Rattle.f90_laws.proofs.blocks.Endings.{close_right, closed_right}

-- ---- what ends a block

abbrev pub closes : Form90 → Bool
closes (forms.ElseIf p) = true
closes forms.Else = true
closes forms.EndIf = true
closes forms.EndDo = true
closes f = false

-- the statements begin with one that ends a block, if there are any
abbrev pub Stops : List Placed → Type 0
Stops [] = Unit {0}
Stops (p ∷ ps) = closes p.form ≡ true

-- an executable statement with a mark only where it takes one, and in a logical IF one that may stand there
pub record IsFit (p : Placed) : Type 0 where
  pub mark : takes_mark p.form ≡ false → p.mark ≡ None
  pub inner : HasInnerForm p.form
  pub executable : is_executable90 p.form ≡ true

pub record IsWhole (os : List Opened) (ps : List Placed) : Type 0 where
  pub close : Close os ps
  pub closed : AreClosed ps
  pub fit : AllByRecursion IsFit ps

whole_right : (os : List Opened) (xs ys : List Placed) → IsWhole os (xs ++ ys) → IsWhole (opened_behind os xs) ys
whole_right os xs ys h = record {
  close = close_right os xs ys h.close;
  closed = closed_right xs ys h.closed;
  fit = all_right IsFit xs ys h.fit;
}

tail : (os : List Opened) (p : Placed) (ps : List Placed) → IsWhole os (p ∷ ps) → IsWhole (opened_by p.form os) ps
tail os p ps h = whole_right os (p ∷ []) ps h

end_if_is : (f : Form90) (os : List Opened) → closes f ≡ true → closes_wrongly f (InElse ∷ os) ≡ false → f ≡ forms.EndIf
end_if_is forms.EndIf os c w = refl
end_if_is (forms.ElseIf p) os c w = absurd cc
end_if_is forms.Else os c w = absurd cc
end_if_is forms.EndDo os c w = absurd cc
end_if_is f os c w = absurd cc

end_do_is : (f : Form90) (x : List ℕ) (os : List Opened) → closes f ≡ true → closes_wrongly f (InDo x ∷ os) ≡ false
    → f ≡ forms.EndDo
end_do_is forms.EndDo x os c w = refl
end_do_is (forms.ElseIf p) x os c w = absurd cc
end_do_is forms.Else x os c w = absurd cc
end_do_is forms.EndIf x os c w = absurd cc
end_do_is f x os c w = absurd cc

none_closes : (f : Form90) → closes f ≡ true → closes_wrongly f [] ≡ false → ⊥
none_closes (forms.ElseIf p) c w = cc
none_closes forms.Else c w = cc
none_closes forms.EndIf c w = cc
none_closes forms.EndDo c w = cc
none_closes f c w = cc

placed_is : (p : Placed) (f : Form90) → IsFit p → takes_mark f ≡ false → p.form ≡ f → p ≡ placed_form p.line None f
placed_is p f h t e = ap₂ (λ m g. placed_form p.line m g) (h.mark (ap takes_mark e ∙ t)) e

module _ (function : List ℕ → Option Intrinsic) (is_target : ℕ → Bool) where
  pub record Formed (ps : List Placed) : Type 0 where
    pub block : Block
    pub are : AreBlock90 function is_target ps block

  -- the block that the statements begin with
  record Cut (ps : List Placed) : Type 0 where
    body : List Placed
    rest : List Placed
    formed : Formed body
    same : ps ≡ body ++ rest
    stops : Stops rest

  -- the rest of a block IF that they begin with
  record CutArms (ps : List Placed) : Type 0 where
    front : List Placed
    rest : List Placed
    arms : Arms
    otherwise : Block
    are : AreArms90 function is_target front arms otherwise
    same : ps ≡ front ++ rest

  -- the end of a block that they begin with
  record Ended (end : Form90) (ps : List Placed) : Type 0 where
    line : ℕ
    rest : List Placed
    same : ps ≡ placed_form line None end ∷ rest

  abbrev Cuts : ℕ → Type 0
  Cuts n = (os : List Opened) (ps : List Placed) → length ps ≤ n → IsWhole os ps → Cut ps

  abbrev ArmsCuts : ℕ → Type 0
  ArmsCuts n =
      (os : List Opened) (ps : List Placed) → length ps ≤ n → IsWhole (InIf ∷ os) ps → Stops ps → has_end_if90 ps 0 ≡ true
      → CutArms ps

  behind : (os : List Opened) (ps : List Placed) (k : Cut ps) → IsWhole os ps → IsWhole os k.rest
  behind os ps k h =
      subst (λ o. IsWhole o k.rest) (block_keeps function is_target k.body k.formed.block os k.formed.are)
      (whole_right os k.body k.rest (subst (IsWhole os) k.same h))

  behind_arms : (os : List Opened) (ps : List Placed) (k : CutArms ps) → IsWhole (InIf ∷ os) ps → IsWhole os k.rest
  behind_arms os ps k h =
      subst (λ o. IsWhole o k.rest) (arms_keep function is_target k.front k.arms k.otherwise os k.are)
      (whole_right (InIf ∷ os) k.front k.rest (subst (IsWhole (InIf ∷ os)) k.same h))

  if_in_rest : (ps : List Placed) (k : Cut ps) → has_end_if90 ps 0 ≡ true → has_end_if90 k.rest 0 ≡ true
  if_in_rest ps k h =
      sym (ap (λ xs. has_end_if90 xs 0) k.same
      ∙ block_end_if function is_target k.body k.formed.block k.formed.are 0 k.rest) ∙ h

  do_in_rest : (ps : List Placed) (k : Cut ps) → has_end_do ps 0 ≡ true → has_end_do k.rest 0 ≡ true
  do_in_rest ps k h =
      sym (ap (λ xs. has_end_do xs 0) k.same
      ∙ block_end_do function is_target k.body k.formed.block k.formed.are 0 k.rest) ∙ h

  shorter : (n : ℕ) (ps : List Placed) (k : Cut ps) → length ps ≤ n → length k.rest ≤ n
  shorter n ps k s = omega (arith, s, ap length k.same, length-append k.body k.rest)

  shorter_arms : (n : ℕ) (ps : List Placed) (k : CutArms ps) → length ps ≤ n → length k.rest ≤ n
  shorter_arms n ps k s = omega (arith, s, ap length k.same, length-append k.front k.rest)

  -- ---- one statement before a block

  unmarked : (P : Placed → Type 0) (line : ℕ) (m : Option Mark) (f : Form90) → takes_mark f ≡ false
      → (takes_mark f ≡ false → m ≡ None) → P (placed_form line None f) → P (placed_form line m f)
  unmarked P line m f t h k = subst (λ o. P (placed_form line o f)) (sym (h t)) k

  put : (p : Placed) (c : Statement) (ps : List Placed) → IsSimple function is_target p c → Formed ps → Formed (p ∷ ps)
  put p c ps s k = record { block = tree.statement c k.block; are = simple p c ps k.block s k.are }

  put_label : (line : ℕ) (digits : List ℕ) (ps : List Placed) → Formed ps
      → Formed (placed_form line None (forms.Continue digits) ∷ ps)
  put_label line digits ps k = by (is_target (value_of_digits digits)) refl
    where
      by : (b : Bool) → is_target (value_of_digits digits) ≡ b → Formed (placed_form line None (forms.Continue digits) ∷ ps)
      by true e = record {
        block = tree.statement (tree.Label (value_of_digits digits)) k.block;
        are = label line digits ps k.block e k.are;
      }
      by false e = record { block = k.block; are = unnamed line digits ps k.block e k.are }

  empty : Formed []
  empty = record { block = tree.no_statements; are = nothing }

  stop_here : (ps : List Placed) → Stops ps → Cut ps
  stop_here ps s = record { body = []; rest = ps; formed = empty; same = refl; stops = s }

  before : (p : Placed) (ps : List Placed) → ((body : List Placed) → Formed body → Formed (p ∷ body)) → Cut ps
      → Cut (p ∷ ps)
  before p ps f k = record {
    body = p ∷ k.body;
    rest = k.rest;
    formed = f k.body k.formed;
    same = ap (λ xs. p ∷ xs) k.same;
    stops = k.stops;
  }

  -- ---- the statement of a logical IF

  inner_formed : (line : ℕ) (m : Option Mark) (f : Form90) → IsInner90 f → (takes_mark f ≡ false → m ≡ None)
      → Formed (placed_form line m f ∷ [])
  inner_formed line m (forms.Assign l r) i h = put _ _ [] (assigns line m l r) empty
  inner_formed line m (forms.Go digits) i h =
      unmarked (λ p. Formed (p ∷ [])) line m (forms.Go digits) refl h (put _ _ [] (goes line digits) empty)
  inner_formed line m (forms.Continue digits) i h =
      unmarked (λ p. Formed (p ∷ [])) line m (forms.Continue digits) refl h (put_label line digits [] empty)
  inner_formed line m forms.Stop i h =
      unmarked (λ p. Formed (p ∷ [])) line m forms.Stop refl h (put _ _ [] (stops line) empty)
  inner_formed line m (forms.Read is) i h =
      unmarked (λ p. Formed (p ∷ [])) line m (forms.Read is) refl h (put _ _ [] (reads line is) empty)
  inner_formed line m forms.ReadNothing i h =
      unmarked (λ p. Formed (p ∷ [])) line m forms.ReadNothing refl h (put _ _ [] (reads_nothing line) empty)
  inner_formed line m (forms.Print is) i h =
      unmarked (λ p. Formed (p ∷ [])) line m (forms.Print is) refl h (put _ _ [] (prints line is) empty)
  inner_formed line m forms.PrintNothing i h =
      unmarked (λ p. Formed (p ∷ [])) line m forms.PrintNothing refl h (put _ _ [] (prints_nothing line) empty)
  inner_formed line m f i h = absurd i

  put_test : (line : ℕ) (m : Option Mark) (p : Phrase90) (f : Form90) (ps : List Placed) → Formed (placed_form line m f ∷ [])
      → Formed ps → Formed (placed_form line m (forms.Test p f) ∷ ps)
  put_test line m p f ps i k = record { block = _; are = test line m p f i.block k.block ps i.are k.are }

  -- ---- blocks

  branch_cut : (line : ℕ) (p : Phrase90) (ps : List Placed) (first : Cut ps) (arms : CutArms first.rest) → Cut arms.rest
      → Cut (placed_form line None (forms.If p) ∷ ps)
  branch_cut line p ps first arms more =
      let head = placed_form line None (forms.If p) in
      record {
        body = head ∷ (first.body ++ (arms.front ++ more.body));
        rest = more.rest;
        formed =
            record {
              block = _;
              are = branch line p first.body arms.front more.body first.formed.block arms.otherwise more.formed.block
                  arms.arms first.formed.are arms.are more.formed.are;
            };
        same = ap (λ xs. head ∷ xs)
            (first.same ∙ (ap (λ xs. first.body ++ xs) (arms.same
            ∙ (ap (λ xs. arms.front ++ xs) more.same ∙ sym (append_assoc arms.front more.body more.rest)))
            ∙ sym (append_assoc first.body (arms.front ++ more.body) more.rest)));
        stops = more.stops;
      }

  loop_cut : (line : ℕ) (x : List ℕ) (a b : Phrase90) (c : Option Phrase90) (ps : List Placed) (k : Cut ps)
      (e : Ended forms.EndDo k.rest) → Cut e.rest → Cut (placed_form line None (forms.Do x a b c) ∷ ps)
  loop_cut line x a b c ps k e more =
      let head = placed_form line None (forms.Do x a b c) in
      let end = placed_form e.line None forms.EndDo in
      record {
        body = head ∷ (k.body ++ end ∷ more.body);
        rest = more.rest;
        formed =
            record {
              block = _;
              are = loop line e.line x a b c k.body more.body k.formed.block more.formed.block k.formed.are
                  more.formed.are;
            };
        same = ap (λ xs. head ∷ xs)
            (k.same ∙ (ap (λ xs. k.body ++ xs) (e.same ∙ ap (λ xs. end ∷ xs) more.same)
            ∙ sym (append_assoc k.body (end ∷ more.body) more.rest)));
        stops = more.stops;
      }

  do_ends : (x : List ℕ) (os : List Opened) (ps : List Placed) → IsWhole (InDo x ∷ os) ps → Stops ps
      → has_end_do ps 0 ≡ true → Ended forms.EndDo ps
  do_ends x os [] h c e = absurd cc
  do_ends x os (q ∷ qs) h c e =
      record {
        line = q.line;
        rest = qs;
        same = ap (λ z. z ∷ qs) (placed_is q forms.EndDo h.fit.0 refl (end_do_is q.form x os c h.close.0));
      }

  else_ends : (os : List Opened) (ps : List Placed) → IsWhole (InElse ∷ os) ps → Stops ps → has_end_if90 ps 0 ≡ true
      → Ended forms.EndIf ps
  else_ends os [] h c e = absurd cc
  else_ends os (q ∷ qs) h c e =
      record {
        line = q.line;
        rest = qs;
        same = ap (λ z. z ∷ qs) (placed_is q forms.EndIf h.fit.0 refl (end_if_is q.form os c h.close.0));
      }

  behind_end : (f : Form90) (os : List Opened) (ps : List Placed) (e : Ended f ps) → IsWhole os ps
      → IsWhole (opened_by f os) e.rest
  behind_end f os ps e h = tail os (placed_form e.line None f) e.rest (subst (IsWhole os) e.same h)

  shorter_end : (n : ℕ) (f : Form90) (ps : List Placed) (e : Ended f ps) → length ps ≤ n → length e.rest ≤ n
  shorter_end n f ps e s = omega (arith, s, ap length e.same)

  module _ (n : ℕ) (cuts : Cuts n) (arms_cuts : ArmsCuts n) where
    if_cut : (os : List Opened) (line : ℕ) (p : Phrase90) (ps : List Placed) → length ps ≤ n → IsWhole (InIf ∷ os) ps
        → has_end_if90 ps 0 ≡ true → Cut (placed_form line None (forms.If p) ∷ ps)
    if_cut os line p ps s h e =
        let first = cuts (InIf ∷ os) ps s h in
        let next = behind (InIf ∷ os) ps first h in
        let short = shorter n ps first s in
        let arms = arms_cuts os first.rest short next first.stops (if_in_rest ps first e) in
        branch_cut line p ps first arms (cuts os arms.rest (shorter_arms n first.rest arms short)
        (behind_arms os first.rest arms next))

    do_cut : (os : List Opened) (line : ℕ) (x : List ℕ) (a b : Phrase90) (c : Option Phrase90) (ps : List Placed)
        → length ps ≤ n → IsWhole (InDo x ∷ os) ps → has_end_do ps 0 ≡ true
        → Cut (placed_form line None (forms.Do x a b c) ∷ ps)
    do_cut os line x a b c ps s h e =
        let k = cuts (InDo x ∷ os) ps s h in
        let next = behind (InDo x ∷ os) ps k h in
        let end = do_ends x os k.rest next k.stops (do_in_rest ps k e) in
        loop_cut line x a b c ps k end
        (cuts os end.rest (shorter_end n forms.EndDo k.rest end (shorter n ps k s))
        (behind_end forms.EndDo (InDo x ∷ os) k.rest end next))

    cut_form : (os : List Opened) (line : ℕ) (m : Option Mark) (f : Form90) (ps : List Placed) → length ps ≤ n
        → IsWhole os (placed_form line m f ∷ ps) → Cut (placed_form line m f ∷ ps)
    cut_form os line m f ps s h = by f h.fit.0 h.closed.0 (tail os (placed_form line m f) ps h)
      where
        none : (f : Form90) → takes_mark f ≡ false → IsFit (placed_form line m f) → Cut (placed_form line None f ∷ ps)
            → Cut (placed_form line m f ∷ ps)
        none f t g k = unmarked (λ p. Cut (p ∷ ps)) line m f t g.mark k

        by : (f : Form90) → IsFit (placed_form line m f) → stays_open90 f ps ≡ false → IsWhole (opened_by f os) ps
            → Cut (placed_form line m f ∷ ps)
        by (forms.Assign l r) g e w = before _ ps (λ b k. put _ _ b (assigns line m l r) k) (cuts os ps s w)
        by (forms.Where q l r) g e w = before _ ps (λ b k. put _ _ b (masks line m q l r) k) (cuts os ps s w)
        by (forms.Test p f) g e w =
            before _ ps (λ b k. put_test line m p f b (inner_formed line m f g.inner g.mark) k) (cuts os ps s w)
        by (forms.If p) g e w = none (forms.If p) refl g (if_cut os line p ps s w (affirmed (has_end_if90 ps 0) e))
        by (forms.ElseIf p) g e w = stop_here (placed_form line m (forms.ElseIf p) ∷ ps) refl
        by forms.Else g e w = stop_here (placed_form line m forms.Else ∷ ps) refl
        by forms.EndIf g e w = stop_here (placed_form line m forms.EndIf ∷ ps) refl
        by (forms.Do x a b c) g e w =
            none (forms.Do x a b c) refl g (do_cut os line x a b c ps s w (affirmed (has_end_do ps 0) e))
        by forms.EndDo g e w = stop_here (placed_form line m forms.EndDo ∷ ps) refl
        by (forms.Continue digits) g e w =
            none (forms.Continue digits) refl g (before _ ps (λ b k. put_label line digits b k) (cuts os ps s w))
        by (forms.Go digits) g e w =
            none (forms.Go digits) refl g (before _ ps (λ b k. put _ _ b (goes line digits) k) (cuts os ps s w))
        by forms.Stop g e w = none forms.Stop refl g (before _ ps (λ b k. put _ _ b (stops line) k) (cuts os ps s w))
        by (forms.Read is) g e w =
            none (forms.Read is) refl g (before _ ps (λ b k. put _ _ b (reads line is) k) (cuts os ps s w))
        by forms.ReadNothing g e w =
            none forms.ReadNothing refl g (before _ ps (λ b k. put _ _ b (reads_nothing line) k) (cuts os ps s w))
        by (forms.Print is) g e w =
            none (forms.Print is) refl g (before _ ps (λ b k. put _ _ b (prints line is) k) (cuts os ps s w))
        by forms.PrintNothing g e w =
            none forms.PrintNothing refl g (before _ ps (λ b k. put _ _ b (prints_nothing line) k) (cuts os ps s w))
        by (forms.Allocate x es) g e w =
            none (forms.Allocate x es) refl g (before _ ps (λ b k. put _ _ b (allocates line x es) k) (cuts os ps s w))
        by (forms.Deallocate x) g e w =
            none (forms.Deallocate x) refl g (before _ ps (λ b k. put _ _ b (deallocates line x) k) (cuts os ps s w))
        by (forms.Program x) g e w = absurd (let never = g.executable in cc)
        by forms.ImplicitNone g e w = absurd (let never = g.executable in cc)
        by (forms.Declare k a es) g e w = absurd (let never = g.executable in cc)
        by forms.End g e w = absurd (let never = g.executable in cc)
        by (forms.EndProgram x) g e w = absurd (let never = g.executable in cc)

    else_cut : (os : List Opened) (line : ℕ) (ps : List Placed) → length ps ≤ n → IsWhole (InElse ∷ os) ps
        → has_end_if90 ps 0 ≡ true → CutArms (placed_form line None forms.Else ∷ ps)
    else_cut os line ps s h e =
        let head = placed_form line None forms.Else in
        let k = cuts (InElse ∷ os) ps s h in
        let end = else_ends os k.rest (behind (InElse ∷ os) ps k h) k.stops (if_in_rest ps k e) in
        let last = placed_form end.line None forms.EndIf in
        record {
          front = head ∷ (k.body ++ last ∷ []);
          rest = end.rest;
          arms = tree.no_arms;
          otherwise = k.formed.block;
          are = other line end.line k.body k.formed.block k.formed.are;
          same =
              ap (λ xs. head ∷ xs) (k.same
              ∙ (ap (λ xs. k.body ++ xs) end.same ∙ sym (append_assoc k.body (last ∷ []) end.rest)));
        }

    else_if_cut : (os : List Opened) (line : ℕ) (p : Phrase90) (ps : List Placed) → length ps ≤ n → IsWhole (InIf ∷ os) ps
        → has_end_if90 ps 0 ≡ true → CutArms (placed_form line None (forms.ElseIf p) ∷ ps)
    else_if_cut os line p ps s h e =
        let head = placed_form line None (forms.ElseIf p) in
        let k = cuts (InIf ∷ os) ps s h in
        let a = arms_cuts os k.rest (shorter n ps k s) (behind (InIf ∷ os) ps k h) k.stops (if_in_rest ps k e) in
        record {
          front = head ∷ (k.body ++ a.front);
          rest = a.rest;
          arms = _;
          otherwise = a.otherwise;
          are = further line p k.body a.front k.formed.block a.otherwise a.arms k.formed.are a.are;
          same =
              ap (λ xs. head ∷ xs) (k.same
              ∙ (ap (λ xs. k.body ++ xs) a.same ∙ sym (append_assoc k.body a.front a.rest)));
        }

    arm_form : (os : List Opened) (line : ℕ) (m : Option Mark) (f : Form90) (ps : List Placed) → length ps ≤ n
        → IsWhole (InIf ∷ os) (placed_form line m f ∷ ps) → closes f ≡ true
        → has_end_if90 (placed_form line m f ∷ ps) 0 ≡ true → CutArms (placed_form line m f ∷ ps)
    arm_form os line m f ps s h c e = by f h.fit.0 h.close.0 c e (tail (InIf ∷ os) (placed_form line m f) ps h)
      where
        none : (f : Form90) → takes_mark f ≡ false → IsFit (placed_form line m f) → CutArms (placed_form line None f ∷ ps)
            → CutArms (placed_form line m f ∷ ps)
        none f t g k = unmarked (λ p. CutArms (p ∷ ps)) line m f t g.mark k

        by : (f : Form90) → IsFit (placed_form line m f) → closes_wrongly f (InIf ∷ os) ≡ false → closes f ≡ true
            → closes_if f (has_end_if90 ps) 0 ≡ true → IsWhole (opened_by f (InIf ∷ os)) ps
            → CutArms (placed_form line m f ∷ ps)
        by forms.EndIf g w c e h = none forms.EndIf refl g
            (record {
              front = placed_form line None forms.EndIf ∷ [];
              rest = ps;
              arms = tree.no_arms;
              otherwise = tree.no_statements;
              are = ends line;
              same = refl;
            })
        by forms.Else g w c e h = none forms.Else refl g (else_cut os line ps s h e)
        by (forms.ElseIf p) g w c e h = none (forms.ElseIf p) refl g (else_if_cut os line p ps s h e)
        by forms.EndDo g w c e h = absurd cc
        by f g w c e h = absurd cc

    step : Cuts (suc n)
    step os [] s h = stop_here [] tt
    step os (p ∷ ps) s h = cut_form os p.line p.mark p.form ps (omega (arith, s)) h

    arms_step : ArmsCuts (suc n)
    arms_step os [] s h c e = absurd cc
    arms_step os (p ∷ ps) s h c e = arm_form os p.line p.mark p.form ps (omega (arith, s)) h c e

  no_cut : Cuts 0
  no_cut os [] s h = stop_here [] tt
  no_cut os (p ∷ ps) s h = absurd (omega (arith, s))

  no_arms_cut : ArmsCuts 0
  no_arms_cut os [] s h c e = absurd cc
  no_arms_cut os (p ∷ ps) s h c e = absurd (omega (arith, s))

  all_cuts : (n : ℕ) → Cuts n × ArmsCuts n
  all_cuts zero = (no_cut, no_arms_cut)
  all_cuts (suc n) = let b = all_cuts n in (step n b.0 b.1, arms_step n b.0 b.1)

  nothing_left : (ps : List Placed) → IsWhole [] ps → Stops ps → ps ≡ []
  nothing_left [] h s = refl
  nothing_left (p ∷ ps) h s = absurd (none_closes p.form s h.close.0)

  pub whole_forms : (ps : List Placed) → IsWhole [] ps → Formed ps
  whole_forms ps h =
      let k = (all_cuts (length ps)).0 [] ps (omega arith) h in
      let e = k.same ∙ (ap (λ xs. k.body ++ xs) (nothing_left k.rest (behind [] ps k h) k.stops) ∙ append-nil k.body) in
      subst Formed (sym e) k.formed
