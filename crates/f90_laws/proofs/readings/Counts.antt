-- Labels, blocks in each other and statements of a block, as its text has them.
use Rattle.std.proofs.Common.{◌≡◌, ◌⊎◌, inl, inr, ℕ, ◌+◌, ◌*◌, ◌<◌, ◌≤◌, max, Bool, true, false, cond, Option, None, Some, List, [], ◌∷◌, ◌++◌, length, filter, flat_map, refl, sym, ap, subst, ◌∙◌, arith, Contains, append_assoc, append-nil, length-append}
use Rattle.std.proofs.lemmas.Bool.{cond-true, cond-false}
use mathlib.Core.Path.{ap₂}
use Rattle.std.specs.List.{AllByRecursion}
use Rattle.std.proofs.lemmas.List.Elements.{filter-append}
use Rattle.std.proofs.lemmas.Grind.{flat_map-append}
use Rattle.tree.specs.Plain as tree
use Rattle.tree.specs.Plain.{Statement, Arms, Block}
use Rattle.tree.specs.declared.stmts.Mark.{Mark}
use Rattle.tree.specs.declared.functions.Intrinsic.{Intrinsic}
use Rattle.meaning.specs.Blocks.{blocks_of, blocks_in_arms, blocks_in, statement_count_of, statement_count_in_arms, statement_count_in}
use Rattle.meaning.specs.Labels.{all_labels_of, all_labels_in_arms, all_labels_in}
use Rattle.f90_grammar.specs.Phrases.{value_of_digits}
use Rattle.f90_grammar.specs.Forms as forms
use Rattle.f90_grammar.specs.Forms.{Form90, IsInner90}
use Rattle.f90_grammar.specs.Blocks.{Placed, placed_form, IsSimple, AreBlock90, AreArms90}
use Rattle.f90_grammar.specs.Blocks.IsSimple.{assigns, masks, goes, stops, reads, reads_nothing, prints, prints_nothing, allocates, deallocates}
use Rattle.f90_grammar.specs.Blocks.AreBlock90.{nothing, label, unnamed, simple, test, branch, loop}
use Rattle.f90_grammar.specs.Blocks.AreArms90.{ends, other, further}
use Rattle.f90_grammar.specs.Order.{Opened, InIf, InElse, InDo, opened_by, opened_behind, is_executable90}
use Rattle.f90_grammar.specs.Bounds.{opens_block90}
use Rattle.f90_laws.proofs.readings.Lists.{all_left, all_right, all_both}

-- ---- the blocks that are open

pub opened-append : (os : List Opened) (xs ys : List Placed) → opened_behind os (xs ++ ys) ≡ opened_behind (opened_behind os xs) ys
opened-append os [] ys = refl
opened-append os (x ∷ xs) ys = opened-append (opened_by x.form os) xs ys

-- what opens a block stands in fewer than n
abbrev pub OpensWithin : ℕ → List Opened → List Placed → Type 0
OpensWithin n os [] = Unit {0}
OpensWithin n os (p ∷ ps) = (opens_block90 p.form ≡ true → length os < n) × OpensWithin n (opened_by p.form os) ps

pub within_left : (n : ℕ) (os : List Opened) (xs ys : List Placed) → OpensWithin n os (xs ++ ys) → OpensWithin n os xs
within_left n os [] ys h = tt
within_left n os (x ∷ xs) ys h = (h.0, within_left n (opened_by x.form os) xs ys h.1)

pub within_right : (n : ℕ) (os : List Opened) (xs ys : List Placed) → OpensWithin n os (xs ++ ys) → OpensWithin n (opened_behind os xs) ys
within_right n os [] ys h = h
within_right n os (x ∷ xs) ys h = within_right n (opened_by x.form os) xs ys h.1

-- the statement in a logical IF is one of those that may stand there
abbrev pub HasInnerForm : Form90 → Type 0
HasInnerForm (forms.Test p f) = IsInner90 f
HasInnerForm f = Unit {0}

abbrev pub HasInner : Placed → Type 0
HasInner p = HasInnerForm p.form

abbrev pub label_values : Form90 → List ℕ
label_values (forms.Continue (d ∷ digits)) = value_of_digits (d ∷ digits) ∷ []
label_values f = []

abbrev pub flat_labels : List Placed → List ℕ
flat_labels ps = flat_map (λ (p : Placed). label_values p.form) ps

inner_label : (f : Form90) → IsInner90 f → label_values f ≡ []
inner_label (forms.Continue []) i = refl
inner_label (forms.Continue (d ∷ digits)) i = cc
inner_label (forms.Assign l r) i = refl
inner_label (forms.Go digits) i = refl
inner_label forms.Stop i = refl
inner_label (forms.Read is) i = refl
inner_label forms.ReadNothing i = refl
inner_label (forms.Print is) i = refl
inner_label forms.PrintNothing i = refl
inner_label (forms.Program x) i = absurd i
inner_label forms.ImplicitNone i = absurd i
inner_label (forms.Declare k a es) i = absurd i
inner_label (forms.Where m l r) i = absurd i
inner_label (forms.Test p f) i = absurd i
inner_label (forms.If p) i = absurd i
inner_label (forms.ElseIf p) i = absurd i
inner_label forms.Else i = absurd i
inner_label forms.EndIf i = absurd i
inner_label (forms.Do x a b c) i = absurd i
inner_label forms.EndDo i = absurd i
inner_label (forms.Allocate x es) i = absurd i
inner_label (forms.Deallocate x) i = absurd i
inner_label forms.End i = absurd i
inner_label (forms.EndProgram x) i = absurd i

module _ (function : List ℕ → Option Intrinsic) (is_target : ℕ → Bool) where
  simple_keeps : (p : Placed) (c : Statement) (os : List Opened) → IsSimple function is_target p c → opened_by p.form os ≡ os
  simple_keeps p c os (assigns line m l r) = refl
  simple_keeps p c os (masks line m q l r) = refl
  simple_keeps p c os (goes line digits) = refl
  simple_keeps p c os (stops line) = refl
  simple_keeps p c os (reads line is) = refl
  simple_keeps p c os (reads_nothing line) = refl
  simple_keeps p c os (prints line is) = refl
  simple_keeps p c os (prints_nothing line) = refl
  simple_keeps p c os (allocates line x es) = refl
  simple_keeps p c os (deallocates line x) = refl

  simple_blocks : (p : Placed) (c : Statement) → IsSimple function is_target p c → blocks_of c ≡ 0
  simple_blocks p c (assigns line m l r) = refl
  simple_blocks p c (masks line m q l r) = refl
  simple_blocks p c (goes line digits) = refl
  simple_blocks p c (stops line) = refl
  simple_blocks p c (reads line is) = refl
  simple_blocks p c (reads_nothing line) = refl
  simple_blocks p c (prints line is) = refl
  simple_blocks p c (prints_nothing line) = refl
  simple_blocks p c (allocates line x es) = refl
  simple_blocks p c (deallocates line x) = refl

  simple_count : (p : Placed) (c : Statement) → IsSimple function is_target p c → statement_count_of c ≡ 1
  simple_count p c (assigns line m l r) = refl
  simple_count p c (masks line m q l r) = refl
  simple_count p c (goes line digits) = refl
  simple_count p c (stops line) = refl
  simple_count p c (reads line is) = refl
  simple_count p c (reads_nothing line) = refl
  simple_count p c (prints line is) = refl
  simple_count p c (prints_nothing line) = refl
  simple_count p c (allocates line x es) = refl
  simple_count p c (deallocates line x) = refl

  -- the rest of a block IF is left where it began, whether or not its ELSE has come
  mutual
    pub block_keeps : (ps : List Placed) (b : Block) (os : List Opened) → AreBlock90 function is_target ps b → opened_behind os ps ≡ os
    block_keeps ps b os nothing = refl
    block_keeps ps b os (label line digits rest more t h) = block_keeps rest more os h
    block_keeps ps b os (unnamed line digits rest more t h) = block_keeps rest more os h
    block_keeps ps b os (simple p c rest more s h) = ap (λ o. opened_behind o rest) (simple_keeps p c os s) ∙ block_keeps rest more os h
    block_keeps ps b os (test line m p f inner more rest i h) = block_keeps rest more os h
    block_keeps ps b os (branch line p body arms rest first otherwise more more_arms i a h) =
        opened-append (InIf ∷ os) body (arms ++ rest) ∙ (ap (λ o. opened_behind o (arms ++ rest)) (block_keeps body first (InIf ∷ os) i)
        ∙ (opened-append (InIf ∷ os) arms rest ∙ (ap (λ o. opened_behind o rest) (arms_keep arms more_arms otherwise os a) ∙ block_keeps rest more os h)))
    block_keeps ps b os (loop line end x p q r body rest inner more i h) =
        opened-append (InDo x ∷ os) body (placed_form end None forms.EndDo ∷ rest) ∙ (ap (λ o. opened_behind o (placed_form end None forms.EndDo ∷ rest)) (block_keeps body inner (InDo x ∷ os) i)
        ∙ block_keeps rest more os h)

    pub arms_keep : (ps : List Placed) (ars : Arms) (b : Block) (os : List Opened) → AreArms90 function is_target ps ars b → opened_behind (InIf ∷ os) ps ≡ os
    arms_keep ps ars b os (ends line) = refl
    arms_keep ps ars b os (other line end body more i) =
        opened-append (InElse ∷ os) body (placed_form end None forms.EndIf ∷ []) ∙ ap (λ o. opened_behind o (placed_form end None forms.EndIf ∷ [])) (block_keeps body more (InElse ∷ os) i)
    arms_keep ps ars b os (further line p body rest first otherwise more i a) =
        opened-append (InIf ∷ os) body rest ∙ (ap (λ o. opened_behind o rest) (block_keeps body first (InIf ∷ os) i) ∙ arms_keep rest more otherwise os a)

  -- ---- the statement of a logical IF

  plain_blocks : (ps : List Placed) (b : Block) → AreBlock90 function is_target ps b → AllByRecursion (λ (p : Placed). IsInner90 p.form) ps → blocks_in b ≡ 0
  plain_blocks ps b nothing i = refl
  plain_blocks ps b (label line digits rest more t h) i = omega (arith, plain_blocks rest more h i.1)
  plain_blocks ps b (unnamed line digits rest more t h) i = plain_blocks rest more h i.1
  plain_blocks ps b (simple p c rest more s h) i = omega (arith, simple_blocks p c s, plain_blocks rest more h i.1)
  plain_blocks ps b (test line m p f inner more rest j h) i = absurd i.0
  plain_blocks ps b (branch line p body arms rest first otherwise more more_arms j a h) i = absurd i.0
  plain_blocks ps b (loop line end x p q r body rest inner more j h) i = absurd i.0

  plain_count : (ps : List Placed) (b : Block) → AreBlock90 function is_target ps b → AllByRecursion (λ (p : Placed). IsInner90 p.form) ps → statement_count_in b ≤ length ps
  plain_count ps b nothing i = omega arith
  plain_count ps b (label line digits rest more t h) i = omega (arith, plain_count rest more h i.1)
  plain_count ps b (unnamed line digits rest more t h) i = omega (arith, plain_count rest more h i.1)
  plain_count ps b (simple p c rest more s h) i = omega (arith, simple_count p c s, plain_count rest more h i.1)
  plain_count ps b (test line m p f inner more rest j h) i = absurd i.0
  plain_count ps b (branch line p body arms rest first otherwise more more_arms j a h) i = absurd i.0
  plain_count ps b (loop line end x p q r body rest inner more j h) i = absurd i.0

  -- ---- how many blocks stand in each other

  mutual
    pub blocks_within : (n : ℕ) (ps : List Placed) (b : Block) (os : List Opened) → AreBlock90 function is_target ps b → AllByRecursion HasInner ps → length os ≤ n → OpensWithin n os ps → length os + blocks_in b ≤ n
    blocks_within n ps b os nothing g l w = omega arith
    blocks_within n ps b os (label line digits rest more t h) g l w = omega (arith, blocks_within n rest more os h g.1 l w.1)
    blocks_within n ps b os (unnamed line digits rest more t h) g l w = blocks_within n rest more os h g.1 l w.1
    blocks_within n ps b os (simple p c rest more s h) g l w =
        omega (arith, simple_blocks p c s, blocks_within n rest more os h g.1 l (subst (λ o. OpensWithin n o rest) (simple_keeps p c os s) w.1))
    blocks_within n ps b os (test line m p f inner more rest i h) g l w =
        omega (arith, w.0 refl, plain_blocks (placed_form line m f ∷ []) inner i (g.0, tt), blocks_within n rest more os h g.1 l w.1)
    blocks_within n ps b os (branch line p body arms rest first otherwise more more_arms i a h) g l w =
        let less : length os < n = w.0 refl in
        let behind = subst (λ o. OpensWithin n o (arms ++ rest)) (block_keeps body first (InIf ∷ os) i) (within_right n (InIf ∷ os) body (arms ++ rest) w.1) in
        let last = subst (λ o. OpensWithin n o rest) (arms_keep arms more_arms otherwise os a) (within_right n (InIf ∷ os) arms rest behind) in
        let good = all_right HasInner body (arms ++ rest) g.1 in
        omega (
          arith,
          blocks_within n body first (InIf ∷ os) i (all_left HasInner body (arms ++ rest) g.1) (omega arith) (within_left n (InIf ∷ os) body (arms ++ rest) w.1),
          arms_within n arms more_arms otherwise os a (all_left HasInner arms rest good) less (within_left n (InIf ∷ os) arms rest behind),
          blocks_within n rest more os h (all_right HasInner arms rest good) l last,
        )
    blocks_within n ps b os (loop line end x p q r body rest inner more i h) g l w =
        let less : length os < n = w.0 refl in
        let behind = subst (λ o. OpensWithin n o (placed_form end None forms.EndDo ∷ rest)) (block_keeps body inner (InDo x ∷ os) i) (within_right n (InDo x ∷ os) body (placed_form end None forms.EndDo ∷ rest) w.1) in
        omega (
          arith,
          blocks_within n body inner (InDo x ∷ os) i (all_left HasInner body (placed_form end None forms.EndDo ∷ rest) g.1) (omega arith) (within_left n (InDo x ∷ os) body (placed_form end None forms.EndDo ∷ rest) w.1),
          blocks_within n rest more os h (all_right HasInner body (placed_form end None forms.EndDo ∷ rest) g.1).1 l behind.1,
        )

    arms_within : (n : ℕ) (ps : List Placed) (ars : Arms) (b : Block) (os : List Opened) → AreArms90 function is_target ps ars b → AllByRecursion HasInner ps → length os < n → OpensWithin n (InIf ∷ os) ps
        → length os + (1 + max (blocks_in_arms ars) (blocks_in b)) ≤ n
    arms_within n ps ars b os (ends line) g l w = omega arith
    arms_within n ps ars b os (other line end body more i) g l w =
        omega (arith, blocks_within n body more (InElse ∷ os) i (all_left HasInner body (placed_form end None forms.EndIf ∷ []) g.1) (omega arith) (within_left n (InElse ∷ os) body (placed_form end None forms.EndIf ∷ []) w.1))
    arms_within n ps ars b os (further line p body rest first otherwise more i a) g l w =
        let behind = subst (λ o. OpensWithin n o rest) (block_keeps body first (InIf ∷ os) i) (within_right n (InIf ∷ os) body rest w.1) in
        omega (arith, blocks_within n body first (InIf ∷ os) i (all_left HasInner body rest g.1) (omega arith) (within_left n (InIf ∷ os) body rest w.1), arms_within n rest more otherwise os a (all_right HasInner body rest g.1) l behind)

  -- ---- how many statements there are

  mutual
    pub count : (ps : List Placed) (b : Block) → AreBlock90 function is_target ps b → AllByRecursion HasInner ps → statement_count_in b ≤ 2 * length ps
    count ps b nothing g = omega arith
    count ps b (label line digits rest more t h) g = omega (arith, count rest more h g.1)
    count ps b (unnamed line digits rest more t h) g = omega (arith, count rest more h g.1)
    count ps b (simple p c rest more s h) g = omega (arith, simple_count p c s, count rest more h g.1)
    count ps b (test line m p f inner more rest i h) g =
        omega (arith, plain_count (placed_form line m f ∷ []) inner i (g.0, tt), count rest more h g.1)
    count ps b (branch line p body arms rest first otherwise more more_arms i a h) g =
        let good = all_right HasInner body (arms ++ rest) g.1 in
        omega (
          arith,
          count body first i (all_left HasInner body (arms ++ rest) g.1),
          arms_count arms more_arms otherwise a (all_left HasInner arms rest good),
          count rest more h (all_right HasInner arms rest good),
          length-append body (arms ++ rest),
          length-append arms rest,
        )
    count ps b (loop line end x p q r body rest inner more i h) g =
        omega (
          arith,
          count body inner i (all_left HasInner body (placed_form end None forms.EndDo ∷ rest) g.1),
          count rest more h (all_right HasInner body (placed_form end None forms.EndDo ∷ rest) g.1).1,
          length-append body (placed_form end None forms.EndDo ∷ rest),
        )

    arms_count : (ps : List Placed) (ars : Arms) (b : Block) → AreArms90 function is_target ps ars b → AllByRecursion HasInner ps → statement_count_in_arms ars + statement_count_in b ≤ 2 * length ps
    arms_count ps ars b (ends line) g = omega arith
    arms_count ps ars b (other line end body more i) g =
        omega (arith, count body more i (all_left HasInner body (placed_form end None forms.EndIf ∷ []) g.1), length-append body (placed_form end None forms.EndIf ∷ []))
    arms_count ps ars b (further line p body rest first otherwise more i a) g =
        omega (arith, count body first i (all_left HasInner body rest g.1), arms_count rest more otherwise a (all_right HasInner body rest g.1), length-append body rest)

  -- ---- labels

  module _ (positive : is_target 0 ≡ false) where
    not_zero : (n : ℕ) → n ≡ 0 → is_target n ≡ true → ⊥
    not_zero n e t = let z : is_target 0 ≡ true = ap is_target (sym e) ∙ t in cc

    simple_labels : (p : Placed) (c : Statement) → IsSimple function is_target p c → all_labels_of c ≡ filter is_target (label_values p.form)
    simple_labels p c (assigns line m l r) = refl
    simple_labels p c (masks line m q l r) = refl
    simple_labels p c (goes line digits) = refl
    simple_labels p c (stops line) = refl
    simple_labels p c (reads line is) = refl
    simple_labels p c (reads_nothing line) = refl
    simple_labels p c (prints line is) = refl
    simple_labels p c (prints_nothing line) = refl
    simple_labels p c (allocates line x es) = refl
    simple_labels p c (deallocates line x) = refl

    named_label : (digits : List ℕ) (rest : List ℕ) → is_target (value_of_digits digits) ≡ true → value_of_digits digits ∷ filter is_target rest ≡ filter is_target (label_values (forms.Continue digits) ++ rest)
    named_label [] rest t = absurd (not_zero 0 refl t)
    named_label (d ∷ digits) rest t = sym (cond-true (is_target (value_of_digits (d ∷ digits))) (value_of_digits (d ∷ digits) ∷ filter is_target rest) (filter is_target rest) t)

    other_label : (digits : List ℕ) (rest : List ℕ) → is_target (value_of_digits digits) ≡ false → filter is_target rest ≡ filter is_target (label_values (forms.Continue digits) ++ rest)
    other_label [] rest t = refl
    other_label (d ∷ digits) rest t = sym (cond-false (is_target (value_of_digits (d ∷ digits))) (value_of_digits (d ∷ digits) ∷ filter is_target rest) (filter is_target rest) t)

    plain_labels : (ps : List Placed) (b : Block) → AreBlock90 function is_target ps b → AllByRecursion (λ (p : Placed). IsInner90 p.form) ps → all_labels_in b ≡ []
    plain_labels ps b nothing i = refl
    plain_labels ps b (label line digits rest more t h) i = absurd (not_zero (value_of_digits digits) (ap value_of_digits i.0) t)
    plain_labels ps b (unnamed line digits rest more t h) i = plain_labels rest more h i.1
    plain_labels ps b (simple p c rest more s h) i = ap₂ (λ xs ys. xs ++ ys) (simple_labels p c s ∙ ap (filter is_target) (inner_label p.form i.0)) (plain_labels rest more h i.1)
    plain_labels ps b (test line m p f inner more rest j h) i = absurd i.0
    plain_labels ps b (branch line p body arms rest first otherwise more more_arms j a h) i = absurd i.0
    plain_labels ps b (loop line end x p q r body rest inner more j h) i = absurd i.0

    split : (xs ys : List Placed) → filter is_target (flat_labels (xs ++ ys)) ≡ filter is_target (flat_labels xs) ++ filter is_target (flat_labels ys)
    split xs ys = ap (filter is_target) (flat_map-append (λ (p : Placed). label_values p.form) xs ys) ∙ filter-append is_target (flat_labels xs) (flat_labels ys)

    mutual
      pub labels_are : (ps : List Placed) (b : Block) → AreBlock90 function is_target ps b → AllByRecursion HasInner ps → all_labels_in b ≡ filter is_target (flat_labels ps)
      labels_are ps b nothing g = refl
      labels_are ps b (label line digits rest more t h) g = ap (λ ns. value_of_digits digits ∷ ns) (labels_are rest more h g.1) ∙ named_label digits (flat_labels rest) t
      labels_are ps b (unnamed line digits rest more t h) g = labels_are rest more h g.1 ∙ other_label digits (flat_labels rest) t
      labels_are ps b (simple p c rest more s h) g =
          ap₂ (λ xs ys. xs ++ ys) (simple_labels p c s) (labels_are rest more h g.1) ∙ sym (filter-append is_target (label_values p.form) (flat_labels rest))
      labels_are ps b (test line m p f inner more rest i h) g =
          ap₂ (λ xs ys. (xs ++ []) ++ [] ++ ys) (plain_labels (placed_form line m f ∷ []) inner i (g.0, tt)) (labels_are rest more h g.1)
      labels_are ps b (branch line p body arms rest first otherwise more more_arms i a h) g =
          let good = all_right HasInner body (arms ++ rest) g.1 in
          append_assoc (all_labels_in first ++ all_labels_in_arms more_arms) (all_labels_in otherwise) (all_labels_in more)
          ∙ (append_assoc (all_labels_in first) (all_labels_in_arms more_arms) (all_labels_in otherwise ++ all_labels_in more)
          ∙ (ap₂ (λ xs ys. xs ++ ys) (labels_are body first i (all_left HasInner body (arms ++ rest) g.1))
          (sym (append_assoc (all_labels_in_arms more_arms) (all_labels_in otherwise) (all_labels_in more))
          ∙ (ap₂ (λ xs ys. xs ++ ys) (arms_labels arms more_arms otherwise a (all_left HasInner arms rest good)) (labels_are rest more h (all_right HasInner arms rest good)) ∙ sym (split arms rest)))
          ∙ sym (split body (arms ++ rest))))
      labels_are ps b (loop line end x p q r body rest inner more i h) g =
          ap₂ (λ xs ys. xs ++ ys) (labels_are body inner i (all_left HasInner body (placed_form end None forms.EndDo ∷ rest) g.1)) (labels_are rest more h (all_right HasInner body (placed_form end None forms.EndDo ∷ rest) g.1).1)
          ∙ sym (split body (placed_form end None forms.EndDo ∷ rest))

      arms_labels : (ps : List Placed) (ars : Arms) (b : Block) → AreArms90 function is_target ps ars b → AllByRecursion HasInner ps → all_labels_in_arms ars ++ all_labels_in b ≡ filter is_target (flat_labels ps)
      arms_labels ps ars b (ends line) g = refl
      arms_labels ps ars b (other line end body more i) g =
          sym (append-nil (all_labels_in more)) ∙ (ap (λ xs. xs ++ []) (labels_are body more i (all_left HasInner body (placed_form end None forms.EndIf ∷ []) g.1)) ∙ sym (split body (placed_form end None forms.EndIf ∷ [])))
      arms_labels ps ars b (further line p body rest first otherwise more i a) g =
          append_assoc (all_labels_in first) (all_labels_in_arms more) (all_labels_in otherwise)
          ∙ (ap₂ (λ xs ys. xs ++ ys) (labels_are body first i (all_left HasInner body rest g.1)) (arms_labels rest more otherwise a (all_right HasInner body rest g.1)) ∙ sym (split body rest))

  -- ---- all of them are executable

  simple_executable : (p : Placed) (c : Statement) → IsSimple function is_target p c → is_executable90 p.form ≡ true
  simple_executable p c (assigns line m l r) = refl
  simple_executable p c (masks line m q l r) = refl
  simple_executable p c (goes line digits) = refl
  simple_executable p c (stops line) = refl
  simple_executable p c (reads line is) = refl
  simple_executable p c (reads_nothing line) = refl
  simple_executable p c (prints line is) = refl
  simple_executable p c (prints_nothing line) = refl
  simple_executable p c (allocates line x es) = refl
  simple_executable p c (deallocates line x) = refl

  abbrev pub AreExecutable : List Placed → Type 0
  AreExecutable ps = AllByRecursion (λ (p : Placed). is_executable90 p.form ≡ true) ps

  mutual
    pub executable : (ps : List Placed) (b : Block) → AreBlock90 function is_target ps b → AreExecutable ps
    executable ps b nothing = tt
    executable ps b (label line digits rest more t h) = (refl, executable rest more h)
    executable ps b (unnamed line digits rest more t h) = (refl, executable rest more h)
    executable ps b (simple p c rest more s h) = (simple_executable p c s, executable rest more h)
    executable ps b (test line m p f inner more rest i h) = (refl, executable rest more h)
    executable ps b (branch line p body arms rest first otherwise more more_arms i a h) = (
      refl,
      all_both (λ (p : Placed). is_executable90 p.form ≡ true) body (arms ++ rest) (executable body first i)
          (all_both (λ (p : Placed). is_executable90 p.form ≡ true) arms rest (arms_executable arms more_arms otherwise a) (executable rest more h)),
    )
    executable ps b (loop line end x p q r body rest inner more i h) =
        (refl, all_both (λ (p : Placed). is_executable90 p.form ≡ true) body (placed_form end None forms.EndDo ∷ rest) (executable body inner i) (refl, executable rest more h))

    arms_executable : (ps : List Placed) (ars : Arms) (b : Block) → AreArms90 function is_target ps ars b → AreExecutable ps
    arms_executable ps ars b (ends line) = (refl, tt)
    arms_executable ps ars b (other line end body more i) =
        (refl, all_both (λ (p : Placed). is_executable90 p.form ≡ true) body (placed_form end None forms.EndIf ∷ []) (executable body more i) (refl, tt))
    arms_executable ps ars b (further line p body rest first otherwise more i a) =
        (refl, all_both (λ (p : Placed). is_executable90 p.form ≡ true) body rest (executable body first i) (arms_executable rest more otherwise a))
