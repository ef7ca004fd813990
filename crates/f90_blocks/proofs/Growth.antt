-- The rest of a block and of the blocks round it, with a statement before all that.
use Rattle.std.proofs.Common.{◌≡◌, ◌∙◌, ap, sym, subst, refl, ℕ, Bool, true, false, Option, None, List, [], ◌∷◌}
use Rattle.std.proofs.Common.{◌++◌, append_assoc}
use Rattle.tree.specs.Plain as tree
use Rattle.tree.specs.Plain.{Expression, Statement, Arms, Block}
use Rattle.tree.specs.declared.functions.Intrinsic.{Intrinsic}
use Rattle.tree.specs.declared.stmts.Mark.{Mark}
use Rattle.f90_grammar.specs.Phrases.{Phrase90, tree_of, value_of_digits}
use Rattle.f90_grammar.specs.Items.{step_tree90}
use Rattle.f90_grammar.specs.Forms as forms
use Rattle.f90_grammar.specs.Forms.{Form90}
use Rattle.f90_grammar.specs.Blocks.{Placed, placed_form, IsSimple, AreBlock90, AreArms90}
use Rattle.f90_grammar.specs.Blocks.IsSimple.{assigns, masks, goes, stops, reads, reads_nothing, prints, prints_nothing}
use Rattle.f90_grammar.specs.Blocks.IsSimple.{allocates, deallocates}
use Rattle.f90_grammar.specs.Blocks.AreBlock90.{nothing, label, unnamed, simple, test, branch, loop}
use Rattle.f90_grammar.specs.Blocks.AreArms90.{ends, other, further}
use Rattle.f90_grammar.specs.Order.{Opened, InIf, InElse, InDo}
use Rattle.f90_blocks.specs.Rests.{Ended, EndedIf, EndedDo, IsRest}

module _ (function : List ℕ → Option Intrinsic) (is_target : ℕ → Bool) where
  abbrev IsBlockOf : List Placed → Block → Type 0
  IsBlockOf ps b = AreBlock90 function is_target ps b

  abbrev IsRestOf : List Opened → List Placed → Block → List Ended → Type 0
  IsRestOf os ps b es = IsRest function is_target os ps b es

  pub grown : (os : List Opened) (front rest : List Placed) (b c : Block) (es : List Ended)
      → ((qs : List Placed) → IsBlockOf qs b → IsBlockOf (front ++ qs) c)
      → IsRestOf os rest b es → IsRestOf os (front ++ rest) c es
  grown [] front rest b c [] g r = g rest r
  grown (InIf ∷ os) front rest b c (EndedIf later o behind ∷ es) g r = record {
    inside = front ++ r.inside;
    arms = r.arms;
    behind = r.behind;
    same = ap (λ t. front ++ t) r.same ∙ sym (append_assoc front r.inside (r.arms ++ r.behind));
    block = g r.inside r.block;
    are_arms = r.are_arms;
    round = r.round;
  }
  grown (InElse ∷ os) front rest b c (EndedIf later o behind ∷ es) g r = (
    r.0,
    r.1,
    let i = r.2 in record {
      inside = front ++ i.inside;
      line = i.line;
      behind = i.behind;
      same = ap (λ t. front ++ t) i.same ∙ sym (append_assoc front i.inside (placed_form i.line None forms.EndIf ∷ i.behind));
      block = g i.inside i.block;
      round = i.round;
    },
  )
  grown (InDo x ∷ os) front rest b c (EndedDo behind ∷ es) g r = record {
    inside = front ++ r.inside;
    line = r.line;
    behind = r.behind;
    same = ap (λ t. front ++ t) r.same ∙ sym (append_assoc front r.inside (placed_form r.line None forms.EndDo ∷ r.behind));
    block = g r.inside r.block;
    round = r.round;
  }
  grown os front rest b c es g r = absurd r

  -- ---- a statement that neither opens nor closes

  -- which labels are named changes nothing in a statement without others in it
  pub simple_by : (other_target : ℕ → Bool) (p : Placed) (c : Statement) → IsSimple function other_target p c
      → IsSimple function is_target p c
  simple_by t p c (assigns line m l r) = assigns line m l r
  simple_by t p c (masks line m q l r) = masks line m q l r
  simple_by t p c (goes line digits) = goes line digits
  simple_by t p c (stops line) = stops line
  simple_by t p c (reads line is) = reads line is
  simple_by t p c (reads_nothing line) = reads_nothing line
  simple_by t p c (prints line is) = prints line is
  simple_by t p c (prints_nothing line) = prints_nothing line
  simple_by t p c (allocates line x es) = allocates line x es
  simple_by t p c (deallocates line x) = deallocates line x

  pub with_simple : (os : List Opened) (ps : List Placed) (b : Block) (es : List Ended) (p : Placed) (c : Statement)
      → IsSimple function is_target p c
      → IsRestOf os ps b es → IsRestOf os (p ∷ ps) (tree.statement c b) es
  with_simple os ps b es p c i r = grown os (p ∷ []) ps b (tree.statement c b) es (λ qs h. simple p c qs b i h) r

  pub with_test : (os : List Opened) (ps : List Placed) (b : Block) (es : List Ended) (line : ℕ) (m : Option Mark)
      (q : Phrase90) (f : Form90) (inner : Block) → IsBlockOf (placed_form line m f ∷ []) inner
      → IsRestOf os ps b es
      → IsRestOf os (placed_form line m (forms.Test q f) ∷ ps)
      (tree.statement (tree.If line (tree.arm (tree_of function q) inner tree.no_arms) tree.no_statements) b) es
  with_test os ps b es line m q f inner i r =
      grown os (placed_form line m (forms.Test q f) ∷ []) ps b
      (tree.statement (tree.If line (tree.arm (tree_of function q) inner tree.no_arms) tree.no_statements) b) es
      (λ qs h. test line m q f inner b qs i h) r

  pub with_named : (os : List Opened) (ps : List Placed) (b : Block) (es : List Ended) (line : ℕ) (digits : List ℕ)
      → is_target (value_of_digits digits) ≡ true
      → IsRestOf os ps b es → IsRestOf os (placed_form line None (forms.Continue digits) ∷ ps)
      (tree.statement (tree.Label (value_of_digits digits)) b) es
  with_named os ps b es line digits t r =
      grown os (placed_form line None (forms.Continue digits) ∷ []) ps b (tree.statement (tree.Label (value_of_digits digits)) b)
      es (λ qs h. label line digits qs b t h) r

  pub with_unnamed : (os : List Opened) (ps : List Placed) (b : Block) (es : List Ended) (line : ℕ) (digits : List ℕ)
      → is_target (value_of_digits digits) ≡ false
      → IsRestOf os ps b es → IsRestOf os (placed_form line None (forms.Continue digits) ∷ ps) b es
  with_unnamed os ps b es line digits t r = grown os (placed_form line None (forms.Continue digits) ∷ []) ps b b es
      (λ qs h. unnamed line digits qs b t h) r

  -- ---- the ends of blocks

  pub with_end_if : (os : List Opened) (ps : List Placed) (b : Block) (es : List Ended) (line : ℕ) → IsRestOf os ps b es
      → IsRestOf (InIf ∷ os) (placed_form line None forms.EndIf ∷ ps) tree.no_statements
      (EndedIf tree.no_arms tree.no_statements b ∷ es)
  with_end_if os ps b es line r =
      record {
        inside = [];
        arms = placed_form line None forms.EndIf ∷ [];
        behind = ps;
        same = refl;
        block = nothing;
        are_arms =
            ends line;
        round = r;
      }

  pub with_end_else : (os : List Opened) (ps : List Placed) (b : Block) (es : List Ended) (line : ℕ)
      → IsRestOf os ps b es
      → IsRestOf (InElse ∷ os) (placed_form line None forms.EndIf ∷ ps) tree.no_statements
      (EndedIf tree.no_arms tree.no_statements b ∷ es)
  with_end_else os ps b es line r =
      (refl, refl, record { inside = []; line = line; behind = ps; same = refl; block = nothing; round = r })

  pub with_end_do : (os : List Opened) (x : List ℕ) (ps : List Placed) (b : Block) (es : List Ended) (line : ℕ)
      → IsRestOf os ps b es
      → IsRestOf (InDo x ∷ os) (placed_form line None forms.EndDo ∷ ps) tree.no_statements (EndedDo b ∷ es)
  with_end_do os x ps b es line r = record
      { inside = []; line = line; behind = ps; same = refl; block = nothing; round = r }

  -- ---- their first lines

  pub with_else : (os : List Opened) (ps : List Placed) (b behind : Block) (later : Arms) (o : Block) (es : List Ended)
      (line : ℕ) → IsRestOf (InElse ∷ os) ps b (EndedIf later o behind ∷ es)
      → IsRestOf (InIf ∷ os) (placed_form line None forms.Else ∷ ps) tree.no_statements (EndedIf later b behind ∷ es)
  with_else os ps b behind later o es line r =
      let i = r.2 in
      record {
        inside = [];
        arms = placed_form line None forms.Else ∷ (i.inside ++ placed_form i.line None forms.EndIf ∷ []);
        behind = i.behind;
        same = ap (λ t. placed_form line None forms.Else ∷ t)
            (i.same ∙ sym (append_assoc i.inside (placed_form i.line None forms.EndIf ∷ []) i.behind));
        block = nothing;
        are_arms = subst (λ (m : Arms). AreArms90 function is_target
            (placed_form line None forms.Else ∷ (i.inside ++ placed_form i.line None forms.EndIf ∷ [])) m b) (sym r.0)
            (other line i.line i.inside b i.block);
        round = i.round;
      }

  pub with_arm : (os : List Opened) (ps : List Placed) (b behind : Block) (later : Arms) (o : Block) (es : List Ended)
      (line : ℕ) (q : Phrase90)
      → IsRestOf (InIf ∷ os) ps b (EndedIf later o behind ∷ es)
      → IsRestOf (InIf ∷ os) (placed_form line None (forms.ElseIf q) ∷ ps) tree.no_statements
      (EndedIf (tree.arm (tree_of function q) b later) o behind ∷ es)
  with_arm os ps b behind later o es line q r = record {
    inside = [];
    arms = placed_form line None (forms.ElseIf q) ∷ (r.inside ++ r.arms);
    behind = r.behind;
    same = ap (λ t. placed_form line None (forms.ElseIf q) ∷ t) (r.same ∙ sym (append_assoc r.inside r.arms r.behind));
    block = nothing;
    are_arms = further line q r.inside r.arms b o later r.block r.are_arms;
    round = r.round;
  }

  pub with_if : (os : List Opened) (ps : List Placed) (b behind : Block) (later : Arms) (o : Block) (es : List Ended)
      (line : ℕ) (q : Phrase90)
      → IsRestOf (InIf ∷ os) ps b (EndedIf later o behind ∷ es)
      → IsRestOf os (placed_form line None (forms.If q) ∷ ps)
      (tree.statement (tree.If line (tree.arm (tree_of function q) b later) o) behind) es
  with_if os ps b behind later o es line q r =
      let s : Placed = placed_form line None (forms.If q) in
      let c : Block = tree.statement (tree.If line (tree.arm (tree_of function q) b later) o) behind in
      subst (λ t. IsRestOf os (s ∷ t) c es) (append_assoc r.inside r.arms r.behind ∙ sym r.same)
      (grown os (s ∷ (r.inside ++ r.arms)) r.behind behind c es
      (λ qs h. subst (λ t. IsBlockOf (s ∷ t) c) (sym (append_assoc r.inside r.arms qs))
      (branch line q r.inside r.arms qs b o behind later r.block r.are_arms h)) r.round)

  pub with_do : (os : List Opened) (ps : List Placed) (b behind : Block) (es : List Ended) (line : ℕ) (x : List ℕ)
      (p q : Phrase90) (s : Option Phrase90)
      → IsRestOf (InDo x ∷ os) ps b (EndedDo behind ∷ es)
      → IsRestOf os (placed_form line None (forms.Do x p q s) ∷ ps)
      (tree.statement (tree.Do line x (tree_of function p) (tree_of function q) (step_tree90 function s) b) behind) es
  with_do os ps b behind es line x p q s r =
      let d : Placed = placed_form line None (forms.Do x p q s) in
      let e : Placed = placed_form r.line None forms.EndDo in
      let c : Block = tree.statement (tree.Do line x (tree_of function p) (tree_of function q) (step_tree90 function s) b)
      behind in
      subst (λ t. IsRestOf os (d ∷ t) c es) (append_assoc r.inside (e ∷ []) r.behind ∙ sym r.same)
      (grown os (d ∷ (r.inside ++ e ∷ [])) r.behind behind c es
      (λ qs h. subst (λ t. IsBlockOf (d ∷ t) c) (sym (append_assoc r.inside (e ∷ []) qs))
      (loop line r.line x p q s r.inside qs b behind r.block h)) r.round)
