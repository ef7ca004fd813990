-- Statements form one block at most.
use Rattle.std.proofs.Common.{◌≡◌, ◌⊎◌, inl, inr, refl, sym, ap, ap₂, subst, ◌∙◌, ℕ, Bool, true, false, Option, None, List, [], ◌∷◌, ◌++◌, append_assoc}
use Rattle.tree.specs.Plain as tree
use Rattle.tree.specs.Plain.{Expression, Statement, Arms, Block}
use Rattle.tree.specs.declared.stmts.Mark.{Mark}
use Rattle.tree.specs.declared.functions.Intrinsic.{Intrinsic}
use Rattle.f90_grammar.specs.Phrases.{Phrase90, tree_of, value_of_digits}
use Rattle.f90_grammar.specs.Items.{item_trees90, step_tree90}
use Rattle.f90_grammar.specs.Forms as forms
use Rattle.f90_grammar.specs.Forms.{Form90}
use Rattle.f90_grammar.specs.Blocks.{Placed, placed_form, trees_by, IsSimple, AreBlock90, AreArms90}
use Rattle.reading.specs.Signs.{reference_in}
use Rattle.f90_grammar.specs.Blocks.IsSimple.{assigns, masks, goes, stops, reads, reads_nothing, prints, prints_nothing, allocates, deallocates}
use Rattle.f90_grammar.specs.Blocks.AreBlock90.{nothing, label, unnamed, simple, test, branch, loop}
use Rattle.f90_grammar.specs.Blocks.AreArms90.{ends, other, further}

-- ---- what can't begin a block

abbrev ends_part : Form90 → Bool
ends_part (forms.ElseIf p) = true
ends_part forms.Else = true
ends_part forms.EndIf = true
ends_part forms.EndDo = true
ends_part f = false

-- nothing follows a block, or what ends the part that it stands in
abbrev EndsPart : List Placed → Type 0
EndsPart [] = Unit {0}
EndsPart (p ∷ ps) = ends_part p.form ≡ true

pub record SameBlock (ps qs xs ys : List Placed) (b c : Block) : Type 0 where
  pub statements : ps ≡ qs
  pub behind : xs ≡ ys
  pub block : b ≡ c

record SameArms (ps qs xs ys : List Placed) (m n : Arms) (b c : Block) : Type 0 where
  statements : ps ≡ qs
  behind : xs ≡ ys
  arms : m ≡ n
  block : b ≡ c

grown : (s : Placed) (f : Block → Block) (ps qs rs xs ys : List Placed) (b c d : Block) → SameBlock ps rs xs ys b d → qs ≡ s ∷ rs → c ≡ f d → SameBlock (s ∷ ps) qs xs ys (f b) c
grown s f ps qs rs xs ys b c d h e g = record { statements = ap (λ t. s ∷ t) h.statements ∙ sym e; behind = h.behind; block = ap f h.block ∙ sym g }

module _ (function : List ℕ → Option Intrinsic) (is_target : ℕ → Bool) where
  abbrev tree_in : Phrase90 → Expression
  tree_in p = tree_of function p

  abbrev IsBlockOf : List Placed → Block → Type 0
  IsBlockOf ps b = AreBlock90 function is_target ps b

  abbrev AreArmsOf : List Placed → Arms → Block → Type 0
  AreArmsOf ps m b = AreArms90 function is_target ps m b

  -- ---- what a block is by its first statement

  abbrev simple_tree : ℕ → Option Mark → Form90 → Statement
  simple_tree line m (forms.Assign l r) = tree.Assignment line m (reference_in (tree_in l)) (tree_in r)
  simple_tree line m (forms.Where p l r) = tree.Where line m (tree_in p) (reference_in (tree_in l)) (tree_in r)
  simple_tree line m (forms.Go digits) = tree.GoTo line (value_of_digits digits)
  simple_tree line m (forms.Read is) = tree.Read line (tree.items (item_trees90 function is))
  simple_tree line m forms.ReadNothing = tree.Read line tree.no_items
  simple_tree line m (forms.Print is) = tree.Print line (tree.items (item_trees90 function is))
  simple_tree line m forms.PrintNothing = tree.Print line tree.no_items
  simple_tree line m (forms.Allocate x es) = tree.Allocate line x (tree.expressions (trees_by tree_in es))
  simple_tree line m (forms.Deallocate x) = tree.Deallocate line x
  simple_tree line m f = tree.Stop line

  record BeginsSimply (line : ℕ) (m : Option Mark) (f : Form90) (qs : List Placed) (c : Block) : Type 0 where
    block : Block
    are : AreBlock90 function is_target qs block
    same : c ≡ tree.statement (simple_tree line m f) block

  record BeginsWithLabel (digits : List ℕ) (qs : List Placed) (c : Block) : Type 0 where
    block : Block
    are : AreBlock90 function is_target qs block
    same : ((is_target (value_of_digits digits) ≡ true) × (c ≡ tree.statement (tree.Label (value_of_digits digits)) block)) ⊎ ((is_target (value_of_digits digits) ≡ false) × (c ≡ block))

  record BeginsWithTest (line : ℕ) (m : Option Mark) (p : Phrase90) (f : Form90) (qs : List Placed) (c : Block) : Type 0 where
    inner : Block
    block : Block
    inner_are : AreBlock90 function is_target (placed_form line m f ∷ []) inner
    are : AreBlock90 function is_target qs block
    same : c ≡ tree.statement (tree.If line (tree.arm (tree_in p) inner tree.no_arms) tree.no_statements) block

  record BeginsWithIf (line : ℕ) (p : Phrase90) (qs : List Placed) (c : Block) : Type 0 where
    body : List Placed
    arms : List Placed
    rest : List Placed
    first : Block
    otherwise : Block
    block : Block
    more : Arms
    parts : qs ≡ body ++ (arms ++ rest)
    first_are : AreBlock90 function is_target body first
    arms_are : AreArms90 function is_target arms more otherwise
    are : AreBlock90 function is_target rest block
    same : c ≡ tree.statement (tree.If line (tree.arm (tree_in p) first more) otherwise) block

  record BeginsWithDo (line : ℕ) (x : List ℕ) (p q : Phrase90) (r : Option Phrase90) (qs : List Placed) (c : Block) : Type 0 where
    end : ℕ
    body : List Placed
    rest : List Placed
    inner : Block
    block : Block
    parts : qs ≡ body ++ (placed_form end None forms.EndDo ∷ rest)
    inner_are : AreBlock90 function is_target body inner
    are : AreBlock90 function is_target rest block
    same : c ≡ tree.statement (tree.Do line x (tree_in p) (tree_in q) (step_tree90 function r) inner) block

  abbrev Begins : ℕ → Option Mark → Form90 → List Placed → Block → Type 0
  Begins line m (forms.Continue digits) qs c = BeginsWithLabel digits qs c
  Begins line m (forms.Test p f) qs c = BeginsWithTest line m p f qs c
  Begins line m (forms.If p) qs c = BeginsWithIf line p qs c
  Begins line m (forms.Do x p q r) qs c = BeginsWithDo line x p q r qs c
  Begins line m f qs c = BeginsSimply line m f qs c

  simple_begins : (s : Placed) (c : Statement) (qs : List Placed) (b : Block) → IsSimple function is_target s c → AreBlock90 function is_target qs b
      → Begins s.line s.mark s.form qs (tree.statement c b)
  simple_begins s c qs b (assigns line m l r) h = record { block = b; are = h; same = refl }
  simple_begins s c qs b (masks line m p l r) h = record { block = b; are = h; same = refl }
  simple_begins s c qs b (goes line digits) h = record { block = b; are = h; same = refl }
  simple_begins s c qs b (stops line) h = record { block = b; are = h; same = refl }
  simple_begins s c qs b (reads line is) h = record { block = b; are = h; same = refl }
  simple_begins s c qs b (reads_nothing line) h = record { block = b; are = h; same = refl }
  simple_begins s c qs b (prints line is) h = record { block = b; are = h; same = refl }
  simple_begins s c qs b (prints_nothing line) h = record { block = b; are = h; same = refl }
  simple_begins s c qs b (allocates line x es) h = record { block = b; are = h; same = refl }
  simple_begins s c qs b (deallocates line x) h = record { block = b; are = h; same = refl }

  begins : (s : Placed) (qs : List Placed) (c : Block) → AreBlock90 function is_target (s ∷ qs) c → Begins s.line s.mark s.form qs c
  begins s qs c (label line digits rest b t h) = record { block = b; are = h; same = inl (t, refl) }
  begins s qs c (unnamed line digits rest b t h) = record { block = b; are = h; same = inr (t, refl) }
  begins s qs c (simple p d rest b i h) = simple_begins p d rest b i h
  begins s qs c (test line m p f inner b rest i h) = record { inner = inner; block = b; inner_are = i; are = h; same = refl }
  begins s qs c (branch line p body arms rest first otherwise b more i a h) =
      record { body = body; arms = arms; rest = rest; first = first; otherwise = otherwise; block = b; more = more; parts = refl; first_are = i; arms_are = a; are = h; same = refl }
  begins s qs c (loop line end x p q r body rest inner b i h) =
      record { end = end; body = body; rest = rest; inner = inner; block = b; parts = refl; inner_are = i; are = h; same = refl }

  simple_goes_on : (s : Placed) (c : Statement) → IsSimple function is_target s c → ends_part s.form ≡ false
  simple_goes_on s c (assigns line m l r) = refl
  simple_goes_on s c (masks line m p l r) = refl
  simple_goes_on s c (goes line digits) = refl
  simple_goes_on s c (stops line) = refl
  simple_goes_on s c (reads line is) = refl
  simple_goes_on s c (reads_nothing line) = refl
  simple_goes_on s c (prints line is) = refl
  simple_goes_on s c (prints_nothing line) = refl
  simple_goes_on s c (allocates line x es) = refl
  simple_goes_on s c (deallocates line x) = refl

  goes_on : (s : Placed) (qs : List Placed) (c : Block) → AreBlock90 function is_target (s ∷ qs) c → ends_part s.form ≡ false
  goes_on s qs c (label line digits rest b t h) = refl
  goes_on s qs c (unnamed line digits rest b t h) = refl
  goes_on s qs c (simple p d rest b i h) = simple_goes_on p d i
  goes_on s qs c (test line m p f inner b rest i h) = refl
  goes_on s qs c (branch line p body arms rest first otherwise b more i a h) = refl
  goes_on s qs c (loop line end x p q r body rest inner b i h) = refl

  -- of two blocks that the same statements begin, the second begins as the first
  record Second (s : Placed) (ps xs qs ys : List Placed) (c : Block) : Type 0 where
    tail : List Placed
    is : qs ≡ s ∷ tail
    same : ps ++ xs ≡ tail ++ ys
    begun : Begins s.line s.mark s.form tail c

  second : (s : Placed) (ps xs qs ys : List Placed) (c : Block) → ends_part s.form ≡ false → AreBlock90 function is_target qs c → s ∷ (ps ++ xs) ≡ qs ++ ys → EndsPart ys
      → Second s ps xs qs ys c
  second s ps xs [] ys c g h e y = let k : ends_part s.form ≡ true = subst EndsPart (sym e) y in absurd cc
  second s ps xs (t ∷ qs) ys c g h e y =
      let f : s ≡ t = cc in
      let k : ps ++ xs ≡ qs ++ ys = cc in
      record { tail = qs; is = ap (λ u. u ∷ qs) (sym f); same = k; begun = begins s qs c (subst (λ (u : Placed). AreBlock90 function is_target (u ∷ qs) c) (sym f) h) }

  empty : (qs xs ys : List Placed) (c : Block) → AreBlock90 function is_target qs c → xs ≡ qs ++ ys → EndsPart xs → SameBlock [] qs xs ys tree.no_statements c
  empty [] xs ys c nothing e x = record { statements = refl; behind = e; block = refl }
  empty (s ∷ qs) xs ys c h e x =
      let g = goes_on s qs c h in
      let k : ends_part s.form ≡ true = subst EndsPart e x in
      absurd cc

  -- ---- what arms are by their first statement

  record EndsAtOnce (qs : List Placed) (m : Arms) (o : Block) : Type 0 where
    tail : qs ≡ []
    arms : m ≡ tree.no_arms
    block : o ≡ tree.no_statements

  record EndsInElse (qs : List Placed) (m : Arms) (o : Block) : Type 0 where
    end : ℕ
    body : List Placed
    parts : qs ≡ body ++ placed_form end None forms.EndIf ∷ []
    are : AreBlock90 function is_target body o
    arms : m ≡ tree.no_arms

  record GoesOn (p : Phrase90) (qs : List Placed) (m : Arms) (o : Block) : Type 0 where
    body : List Placed
    rest : List Placed
    block : Block
    more : Arms
    parts : qs ≡ body ++ rest
    are : AreBlock90 function is_target body block
    arms_are : AreArms90 function is_target rest more o
    arms : m ≡ tree.arm (tree_in p) block more

  abbrev ArmsBegin : Form90 → List Placed → Arms → Block → Type 0
  ArmsBegin forms.EndIf qs m o = EndsAtOnce qs m o
  ArmsBegin forms.Else qs m o = EndsInElse qs m o
  ArmsBegin (forms.ElseIf p) qs m o = GoesOn p qs m o
  ArmsBegin f qs m o = ⊥

  arms_begin : (s : Placed) (qs : List Placed) (m : Arms) (o : Block) → AreArms90 function is_target (s ∷ qs) m o → ArmsBegin s.form qs m o
  arms_begin s qs m o (ends line) = record { tail = refl; arms = refl; block = refl }
  arms_begin s qs m o (other line end body b h) = record { end = end; body = body; parts = refl; are = h; arms = refl }
  arms_begin s qs m o (further line p body rest b c more h a) =
      record { body = body; rest = rest; block = b; more = more; parts = refl; are = h; arms_are = a; arms = refl }

  arms_some : (m : Arms) (o : Block) (P : Type 0) → AreArms90 function is_target [] m o → P
  arms_some m o P h = elim h [ ]

  arms_end_part : (ps : List Placed) (m : Arms) (o : Block) (xs : List Placed) → AreArms90 function is_target ps m o → EndsPart (ps ++ xs)
  arms_end_part ps m o xs (ends line) = refl
  arms_end_part ps m o xs (other line end body b h) = refl
  arms_end_part ps m o xs (further line p body rest b c more h a) = refl

  record SecondArms (s : Placed) (ps xs qs ys : List Placed) (m : Arms) (o : Block) : Type 0 where
    tail : List Placed
    is : qs ≡ s ∷ tail
    same : ps ++ xs ≡ tail ++ ys
    begun : ArmsBegin s.form tail m o

  second_arms : (s : Placed) (ps xs qs ys : List Placed) (m : Arms) (o : Block) → AreArms90 function is_target qs m o → s ∷ (ps ++ xs) ≡ qs ++ ys → SecondArms s ps xs qs ys m o
  second_arms s ps xs [] ys m o h e = arms_some m o _ h
  second_arms s ps xs (t ∷ qs) ys m o h e =
      let f : s ≡ t = cc in
      let k : ps ++ xs ≡ qs ++ ys = cc in
      record { tail = qs; is = ap (λ u. u ∷ qs) (sym f); same = k; begun = arms_begin s qs m o (subst (λ (u : Placed). AreArms90 function is_target (u ∷ qs) m o) (sym f) h) }

  -- ---- they are the same

  simple_same : (s : Placed) (d : Statement) (rest : List Placed) (more : Block) → IsSimple function is_target s d → (xs ys : List Placed)
      → ((q : List Placed) (a : Block) → AreBlock90 function is_target q a → rest ++ xs ≡ q ++ ys → SameBlock rest q xs ys more a)
      → (qs : List Placed) (c : Block) → Second s rest xs qs ys c → SameBlock (s ∷ rest) qs xs ys (tree.statement d more) c
  simple_same s d rest more (assigns line m l r) xs ys all qs c v =
      grown s (λ z. tree.statement d z) rest qs v.tail xs ys more c v.begun.block (all v.tail v.begun.block v.begun.are v.same) v.is v.begun.same
  simple_same s d rest more (masks line m p l r) xs ys all qs c v =
      grown s (λ z. tree.statement d z) rest qs v.tail xs ys more c v.begun.block (all v.tail v.begun.block v.begun.are v.same) v.is v.begun.same
  simple_same s d rest more (goes line digits) xs ys all qs c v =
      grown s (λ z. tree.statement d z) rest qs v.tail xs ys more c v.begun.block (all v.tail v.begun.block v.begun.are v.same) v.is v.begun.same
  simple_same s d rest more (stops line) xs ys all qs c v =
      grown s (λ z. tree.statement d z) rest qs v.tail xs ys more c v.begun.block (all v.tail v.begun.block v.begun.are v.same) v.is v.begun.same
  simple_same s d rest more (reads line is) xs ys all qs c v =
      grown s (λ z. tree.statement d z) rest qs v.tail xs ys more c v.begun.block (all v.tail v.begun.block v.begun.are v.same) v.is v.begun.same
  simple_same s d rest more (reads_nothing line) xs ys all qs c v =
      grown s (λ z. tree.statement d z) rest qs v.tail xs ys more c v.begun.block (all v.tail v.begun.block v.begun.are v.same) v.is v.begun.same
  simple_same s d rest more (prints line is) xs ys all qs c v =
      grown s (λ z. tree.statement d z) rest qs v.tail xs ys more c v.begun.block (all v.tail v.begun.block v.begun.are v.same) v.is v.begun.same
  simple_same s d rest more (prints_nothing line) xs ys all qs c v =
      grown s (λ z. tree.statement d z) rest qs v.tail xs ys more c v.begun.block (all v.tail v.begun.block v.begun.are v.same) v.is v.begun.same
  simple_same s d rest more (allocates line x es) xs ys all qs c v =
      grown s (λ z. tree.statement d z) rest qs v.tail xs ys more c v.begun.block (all v.tail v.begun.block v.begun.are v.same) v.is v.begun.same
  simple_same s d rest more (deallocates line x) xs ys all qs c v =
      grown s (λ z. tree.statement d z) rest qs v.tail xs ys more c v.begun.block (all v.tail v.begun.block v.begun.are v.same) v.is v.begun.same

  two_parts : (as' bs xs cs ys : List Placed) (ds es : List Placed) → (as' ++ bs) ++ xs ≡ cs ++ ys → cs ≡ ds ++ es → as' ++ (bs ++ xs) ≡ ds ++ (es ++ ys)
  two_parts as' bs xs cs ys ds es e f = sym (append_assoc as' bs xs) ∙ (e ∙ (ap (λ t. t ++ ys) f ∙ append_assoc ds es ys))

  labelled_same : (s : Placed) (digits : List ℕ) (ps qs rs xs ys : List Placed) (b c d : Block) → is_target (value_of_digits digits) ≡ true → SameBlock ps rs xs ys b d → qs ≡ s ∷ rs
      → ((is_target (value_of_digits digits) ≡ true) × (c ≡ tree.statement (tree.Label (value_of_digits digits)) d)) ⊎ ((is_target (value_of_digits digits) ≡ false) × (c ≡ d))
      → SameBlock (s ∷ ps) qs xs ys (tree.statement (tree.Label (value_of_digits digits)) b) c
  labelled_same s digits ps qs rs xs ys b c d t h e (inl g) = grown s (λ x. tree.statement (tree.Label (value_of_digits digits)) x) ps qs rs xs ys b c d h e g.1
  labelled_same s digits ps qs rs xs ys b c d t h e (inr g) = let k = g.0 in absurd cc

  unnamed_same : (s : Placed) (digits : List ℕ) (ps qs rs xs ys : List Placed) (b c d : Block) → is_target (value_of_digits digits) ≡ false → SameBlock ps rs xs ys b d → qs ≡ s ∷ rs
      → ((is_target (value_of_digits digits) ≡ true) × (c ≡ tree.statement (tree.Label (value_of_digits digits)) d)) ⊎ ((is_target (value_of_digits digits) ≡ false) × (c ≡ d))
      → SameBlock (s ∷ ps) qs xs ys b c
  unnamed_same s digits ps qs rs xs ys b c d t h e (inr g) = grown s (λ x. x) ps qs rs xs ys b c d h e g.1
  unnamed_same s digits ps qs rs xs ys b c d t h e (inl g) = let k = g.0 in absurd cc

  mutual
    same_block : (ps : List Placed) (b : Block) → AreBlock90 function is_target ps b → (qs : List Placed) (c : Block) → AreBlock90 function is_target qs c
        → (xs ys : List Placed) → ps ++ xs ≡ qs ++ ys → EndsPart xs → EndsPart ys → SameBlock ps qs xs ys b c
    same_block ps b nothing qs c k xs ys e x y = empty qs xs ys c k e x
    same_block ps b (label line digits rest d t h) qs c k xs ys e x y =
        let v = second (placed_form line None (forms.Continue digits)) rest xs qs ys c refl k e y in
        labelled_same (placed_form line None (forms.Continue digits)) digits rest qs v.tail xs ys d c v.begun.block t
        (same_block rest d h v.tail v.begun.block v.begun.are xs ys v.same x y) v.is v.begun.same
    same_block ps b (unnamed line digits rest d t h) qs c k xs ys e x y =
        let v = second (placed_form line None (forms.Continue digits)) rest xs qs ys c refl k e y in
        unnamed_same (placed_form line None (forms.Continue digits)) digits rest qs v.tail xs ys d c v.begun.block t
        (same_block rest d h v.tail v.begun.block v.begun.are xs ys v.same x y) v.is v.begun.same
    same_block ps b (simple s d rest more i h) qs c k xs ys e x y =
        simple_same s d rest more i xs ys (λ q a j f. same_block rest more h q a j xs ys f x y) qs c (second s rest xs qs ys c (simple_goes_on s d i) k e y)
    same_block ps b (test line m p f inner d rest i h) qs c k xs ys e x y =
        let v = second (placed_form line m (forms.Test p f)) rest xs qs ys c refl k e y in
        let w = same_block (placed_form line m f ∷ []) inner i (placed_form line m f ∷ []) v.begun.inner v.begun.inner_are [] [] refl tt tt in
        grown (placed_form line m (forms.Test p f)) (λ z. tree.statement (tree.If line (tree.arm (tree_in p) inner tree.no_arms) tree.no_statements) z) rest qs v.tail xs ys d c v.begun.block
        (same_block rest d h v.tail v.begun.block v.begun.are xs ys v.same x y) v.is
        (v.begun.same ∙ ap (λ z. tree.statement (tree.If line (tree.arm (tree_in p) z tree.no_arms) tree.no_statements) v.begun.block) (sym w.block))
    same_block ps b (branch line p body arms rest first otherwise d more i a h) qs c k xs ys e x y =
        let s : Placed = placed_form line None (forms.If p) in
        let v = second s (body ++ (arms ++ rest)) xs qs ys c refl k e y in
        let g = v.begun in
        let f : body ++ (arms ++ (rest ++ xs)) ≡ g.body ++ (g.arms ++ (g.rest ++ ys)) =
        ap (λ t. body ++ t) (sym (append_assoc arms rest xs)) ∙ (two_parts body (arms ++ rest) xs v.tail ys g.body (g.arms ++ g.rest) v.same g.parts ∙ ap (λ t. g.body ++ t) (append_assoc g.arms g.rest ys)) in
        let one = same_block body first i g.body g.first g.first_are (arms ++ (rest ++ xs)) (g.arms ++ (g.rest ++ ys)) f (arms_end_part arms more otherwise (rest ++ xs) a) (arms_end_part g.arms g.more g.otherwise (g.rest ++ ys) g.arms_are) in
        let two = same_arms arms more otherwise a g.arms g.more g.otherwise g.arms_are (rest ++ xs) (g.rest ++ ys) one.behind in
        let three = same_block rest d h g.rest g.block g.are xs ys two.behind x y in
        record {
          statements = ap (λ t. s ∷ t) (ap₂ (λ t u. t ++ u) one.statements (ap₂ (λ t u. t ++ u) two.statements three.statements) ∙ sym g.parts) ∙ sym v.is;
          behind = three.behind;
          block = ap₂ (λ t u. tree.statement (tree.If line (tree.arm (tree_in p) t u) otherwise) d) one.block two.arms
              ∙ (ap₂ (λ t u. tree.statement (tree.If line (tree.arm (tree_in p) g.first g.more) t) u) two.block three.block ∙ sym g.same);
        }
    same_block ps b (loop line end j p q r body rest inner d i h) qs c k xs ys e x y =
        let s : Placed = placed_form line None (forms.Do j p q r) in
        let v = second s (body ++ (placed_form end None forms.EndDo ∷ rest)) xs qs ys c refl k e y in
        let g = v.begun in
        let f : body ++ (placed_form end None forms.EndDo ∷ (rest ++ xs)) ≡ g.body ++ (placed_form g.end None forms.EndDo ∷ (g.rest ++ ys)) =
        two_parts body (placed_form end None forms.EndDo ∷ rest) xs v.tail ys g.body (placed_form g.end None forms.EndDo ∷ g.rest) v.same g.parts in
        let one = same_block body inner i g.body g.inner g.inner_are (placed_form end None forms.EndDo ∷ (rest ++ xs)) (placed_form g.end None forms.EndDo ∷ (g.rest ++ ys)) f refl refl in
        let ends_same = one.behind in
        let end_is : placed_form end None forms.EndDo ≡ placed_form g.end None forms.EndDo = cc in
        let behind_is : rest ++ xs ≡ g.rest ++ ys = cc in
        let three = same_block rest d h g.rest g.block g.are xs ys behind_is x y in
        record {
          statements = ap (λ t. s ∷ t) (ap₂ (λ t u. t ++ u) one.statements (ap₂ (λ t u. t ∷ u) end_is three.statements) ∙ sym g.parts) ∙ sym v.is;
          behind = three.behind;
          block = ap₂ (λ t u. tree.statement (tree.Do line j (tree_in p) (tree_in q) (step_tree90 function r) t) u) one.block three.block ∙ sym g.same;
        }

    same_arms : (ps : List Placed) (m : Arms) (b : Block) → AreArms90 function is_target ps m b → (qs : List Placed) (n : Arms) (c : Block) → AreArms90 function is_target qs n c
        → (xs ys : List Placed) → ps ++ xs ≡ qs ++ ys → SameArms ps qs xs ys m n b c
    same_arms ps m b (ends line) qs n c k xs ys e =
        let v = second_arms (placed_form line None forms.EndIf) [] xs qs ys n c k e in
        let g = v.begun in
        record {
          statements = ap (λ t. placed_form line None forms.EndIf ∷ t) (sym g.tail) ∙ sym v.is;
          behind = v.same ∙ ap (λ t. t ++ ys) g.tail;
          arms = sym g.arms;
          block = sym g.block;
        }
    same_arms ps m b (other line end body d h) qs n c k xs ys e =
        let v = second_arms (placed_form line None forms.Else) (body ++ placed_form end None forms.EndIf ∷ []) xs qs ys n c k e in
        let g = v.begun in
        let f : body ++ (placed_form end None forms.EndIf ∷ xs) ≡ g.body ++ (placed_form g.end None forms.EndIf ∷ ys) =
        two_parts body (placed_form end None forms.EndIf ∷ []) xs v.tail ys g.body (placed_form g.end None forms.EndIf ∷ []) v.same g.parts in
        let one = same_block body d h g.body c g.are (placed_form end None forms.EndIf ∷ xs) (placed_form g.end None forms.EndIf ∷ ys) f refl refl in
        let ends_same = one.behind in
        let end_is : placed_form end None forms.EndIf ≡ placed_form g.end None forms.EndIf = cc in
        let behind_is : xs ≡ ys = cc in
        record {
          statements = ap (λ t. placed_form line None forms.Else ∷ t) (ap₂ (λ t u. t ++ u ∷ []) one.statements end_is ∙ sym g.parts) ∙ sym v.is;
          behind = behind_is;
          arms = sym g.arms;
          block = one.block;
        }
    same_arms ps m b (further line p body rest d o more h a) qs n c k xs ys e =
        let s : Placed = placed_form line None (forms.ElseIf p) in
        let v = second_arms s (body ++ rest) xs qs ys n c k e in
        let g = v.begun in
        let f : body ++ (rest ++ xs) ≡ g.body ++ (g.rest ++ ys) = two_parts body rest xs v.tail ys g.body g.rest v.same g.parts in
        let one = same_block body d h g.body g.block g.are (rest ++ xs) (g.rest ++ ys) f (arms_end_part rest more o xs a) (arms_end_part g.rest g.more c ys g.arms_are) in
        let two = same_arms rest more o a g.rest g.more c g.arms_are xs ys one.behind in
        record {
          statements = ap (λ t. s ∷ t) (ap₂ (λ t u. t ++ u) one.statements two.statements ∙ sym g.parts) ∙ sym v.is;
          behind = two.behind;
          arms = ap₂ (λ t u. tree.arm (tree_in p) t u) one.block two.arms ∙ sym g.arms;
          block = two.block;
        }

  pub one_block : (ps : List Placed) (b c : Block) → AreBlock90 function is_target ps b → AreBlock90 function is_target ps c → b ≡ c
  one_block ps b c h k = (same_block ps b h ps c k [] [] refl tt tt).block
