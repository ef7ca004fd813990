-- The labels that are ahead of a place: those of the block that it stands in and of the blocks round it.
use Rattle.std.proofs.Common.{◌≡◌, ◌↔◌, ◌⊎◌, inl, inr, ℕ, zero, suc, ◌<◌, Bool, true, false, Option, None, List, []}
use Rattle.std.proofs.Common.{◌∷◌, ◌++◌, refl, sym, ap, subst, ◌∙◌, append_assoc, arith, Contains}
use Rattle.tree.specs.Plain.{Statement, Arms, Block}
use Rattle.tree.specs.declared.functions.Intrinsic.{Intrinsic}
use Rattle.meaning.specs.Blocks.{label_of, labels_of}
use Rattle.f90_grammar.specs.Phrases.{value_of_digits}
use Rattle.f90_grammar.specs.Forms as forms
use Rattle.f90_grammar.specs.Forms.{Form90}
use Rattle.f90_grammar.specs.Blocks.{Placed, placed_form, IsSimple, AreBlock90, AreArms90}
use Rattle.f90_grammar.specs.Blocks.IsSimple.{assigns, masks, goes, stops, reads, reads_nothing, prints, prints_nothing}
use Rattle.f90_grammar.specs.Blocks.IsSimple.{allocates, deallocates}
use Rattle.f90_grammar.specs.Blocks.AreBlock90.{nothing, label, unnamed, simple, test, branch, loop}
use Rattle.f90_grammar.specs.Blocks.AreArms90.{ends, other, further}
use Rattle.f90_grammar.specs.Order.{is_executable90}
use Rattle.f90_grammar.specs.Surroundings.{label_digits_in}
use Rattle.f90_laws.proofs.readings.Lists.{here, there, cases_of, not_both}
use Rattle.f90_laws.specs.blocks.Places.{with_label, with_label_at, opened_since, labels_ahead}
use Rattle.f90_laws.proofs.blocks.Endings.{executables, kept}

-- ---- statements without a label that neither open nor close a block

unlabelled : (f : Form90) (k : ℕ) (ns : List ℕ) → label_digits_in f ≡ [] → with_label_at k f ns ≡ ns
unlabelled f (suc k) ns e = refl
unlabelled (forms.Continue []) zero ns e = refl
unlabelled (forms.Continue (d ∷ digits)) zero ns e = absurd cc
unlabelled f zero ns e = refl

pub record IsPassed (f : Form90) : Type 0 where
  pub label : label_digits_in f ≡ []
  pub opens : (k : ℕ) → opened_since f k ≡ k

pub passed : (p : Placed) (ps : List Placed) (k : ℕ) → IsPassed p.form → labels_ahead (p ∷ ps) k ≡ labels_ahead ps k
passed p ps k h =
    unlabelled p.form k (labels_ahead ps (opened_since p.form k)) h.label ∙ ap (λ n. labels_ahead ps n) (h.opens k)

idle_passed : (f : Form90) → is_executable90 f ≡ false → IsPassed f
idle_passed (forms.Program x) e = record { label = refl; opens = λ k. refl }
idle_passed forms.ImplicitNone e = record { label = refl; opens = λ k. refl }
idle_passed (forms.Declare d a es) e = record { label = refl; opens = λ k. refl }
idle_passed forms.End e = record { label = refl; opens = λ k. refl }
idle_passed (forms.EndProgram x) e = record { label = refl; opens = λ k. refl }
idle_passed f e = absurd cc

pub ahead_kept : (ps back : List Placed) (k : ℕ) → labels_ahead (executables ps ++ back) k ≡ labels_ahead (ps ++ back) k
ahead_kept [] back k = refl
ahead_kept (p ∷ ps) back k = by (is_executable90 p.form) refl (λ n. ahead_kept ps back n)
  where
    by : (b : Bool) → is_executable90 p.form ≡ b
        → ((n : ℕ) → labels_ahead (executables ps ++ back) n ≡ labels_ahead (ps ++ back) n)
        → labels_ahead (kept b p (executables ps) ++ back) k ≡ labels_ahead (p ∷ (ps ++ back)) k
    by true e next = ap (λ ns. with_label_at k p.form ns) (next (opened_since p.form k))
    by false e next = next k ∙ sym (passed p (ps ++ back) k (idle_passed p.form e))

module _ (function : List ℕ → Option Intrinsic) (is_target : ℕ → Bool) where
  simple_passed : (p : Placed) (c : Statement) → IsSimple function is_target p c → IsPassed p.form
  simple_passed p c (assigns line m l r) = record { label = refl; opens = λ k. refl }
  simple_passed p c (masks line m q l r) = record { label = refl; opens = λ k. refl }
  simple_passed p c (goes line digits) = record { label = refl; opens = λ k. refl }
  simple_passed p c (stops line) = record { label = refl; opens = λ k. refl }
  simple_passed p c (reads line is) = record { label = refl; opens = λ k. refl }
  simple_passed p c (reads_nothing line) = record { label = refl; opens = λ k. refl }
  simple_passed p c (prints line is) = record { label = refl; opens = λ k. refl }
  simple_passed p c (prints_nothing line) = record { label = refl; opens = λ k. refl }
  simple_passed p c (allocates line x es) = record { label = refl; opens = λ k. refl }
  simple_passed p c (deallocates line x) = record { label = refl; opens = λ k. refl }

  simple_label : (p : Placed) (c : Statement) → IsSimple function is_target p c → label_of c ≡ []
  simple_label p c (assigns line m l r) = refl
  simple_label p c (masks line m q l r) = refl
  simple_label p c (goes line digits) = refl
  simple_label p c (stops line) = refl
  simple_label p c (reads line is) = refl
  simple_label p c (reads_nothing line) = refl
  simple_label p c (prints line is) = refl
  simple_label p c (prints_nothing line) = refl
  simple_label p c (allocates line x es) = refl
  simple_label p c (deallocates line x) = refl

  -- ---- a block that is opened later

  mutual
    pub block_passed : (ps : List Placed) (b : Block) → AreBlock90 function is_target ps b → (k : ℕ) (back : List Placed)
        → labels_ahead (ps ++ back) (suc k) ≡ labels_ahead back (suc k)
    block_passed ps b nothing k back = refl
    block_passed ps b (label line digits rest more t h) k back = block_passed rest more h k back
    block_passed ps b (unnamed line digits rest more t h) k back = block_passed rest more h k back
    block_passed ps b (simple p c rest more s h) k back =
        passed p (rest ++ back) (suc k) (simple_passed p c s) ∙ block_passed rest more h k back
    block_passed ps b (test line m p f inner more rest i h) k back = block_passed rest more h k back
    block_passed ps b (branch line p body arms rest first otherwise more more_arms i a h) k back =
        ap (λ xs. labels_ahead xs (suc (suc k))) (append_assoc body (arms ++ rest) back
        ∙ ap (λ xs. body ++ xs) (append_assoc arms rest back))
        ∙ (block_passed body first i (suc k) (arms ++ (rest ++ back))
        ∙ (arms_passed arms more_arms otherwise a (suc k) (rest ++ back) ∙ block_passed rest more h k back))
    block_passed ps b (loop line end x p q r body rest inner more i h) k back =
        ap (λ xs. labels_ahead xs (suc (suc k))) (append_assoc body (placed_form end None forms.EndDo ∷ rest) back)
        ∙ (block_passed body inner i (suc k) (placed_form end None forms.EndDo ∷ (rest ++ back))
        ∙ block_passed rest more h k back)

    pub arms_passed : (ps : List Placed) (ars : Arms) (b : Block) → AreArms90 function is_target ps ars b
        → (k : ℕ) (back : List Placed) → labels_ahead (ps ++ back) (suc k) ≡ labels_ahead back k
    arms_passed ps ars b (ends line) k back = refl
    arms_passed ps ars b (other line end body more i) k back =
        ap (λ xs. labels_ahead xs (suc k)) (append_assoc body (placed_form end None forms.EndIf ∷ []) back)
        ∙ block_passed body more i k (placed_form end None forms.EndIf ∷ back)
    arms_passed ps ars b (further line p body rest first otherwise more i a) k back =
        ap (λ xs. labels_ahead xs (suc k)) (append_assoc body rest back)
        ∙ (block_passed body first i k (rest ++ back) ∙ arms_passed rest more otherwise a k back)

  -- the rest of a block IF, seen from the arm before it
  pub arms_ahead : (ps : List Placed) (ars : Arms) (b : Block) → AreArms90 function is_target ps ars b
      → (back : List Placed) → labels_ahead (ps ++ back) 0 ≡ labels_ahead back 0
  arms_ahead ps ars b (ends line) back = refl
  arms_ahead ps ars b (other line end body more i) back =
      ap (λ xs. labels_ahead xs 1) (append_assoc body (placed_form end None forms.EndIf ∷ []) back)
      ∙ block_passed body more i 0 (placed_form end None forms.EndIf ∷ back)
  arms_ahead ps ars b (further line p body rest first otherwise more i a) back =
      ap (λ xs. labels_ahead xs 1) (append_assoc body rest back)
      ∙ (block_passed body first i 0 (rest ++ back) ∙ arms_passed rest more otherwise a 0 back)

  -- ---- the same labels, but for those that no GO TO names

  pub record AreAlike (ms ns : List ℕ) : Type 0 where
    pub each : (n : ℕ) → 0 < n → is_target n ≡ true → Contains ms n ↔ Contains ns n

  pub alike_same : (ns : List ℕ) → AreAlike ns ns
  alike_same ns = record { each = λ n l t. (λ c. c, λ c. c) }

  pub alike_then : (ls ms ns : List ℕ) → AreAlike ls ms → AreAlike ms ns → AreAlike ls ns
  alike_then ls ms ns h g = record {
    each = λ n l t. (λ c. (g.each n l t).0 ((h.each n l t).0 c), λ c. (h.each n l t).1 ((g.each n l t).1 c));
  }

  both_more : (m : ℕ) (ms ns : List ℕ) → AreAlike ms ns → AreAlike (m ∷ ms) (m ∷ ns)
  both_more m ms ns h = record { each = λ n l t. (add ms ns n (h.each n l t).0, add ns ms n (h.each n l t).1) }
    where
      add : (ms ns : List ℕ) (n : ℕ) → (Contains ms n → Contains ns n) → Contains (m ∷ ms) n → Contains (m ∷ ns) n
      add ms ns n f c = by (cases_of m ms n c)
        where
          by : (m ≡ n) ⊎ Contains ms n → Contains (m ∷ ns) n
          by (inl e) = subst (λ k. Contains (m ∷ ns) k) e (here m ns)
          by (inr k) = there m ns n (f k)

  pub more_alike : (ls ms ns : List ℕ) → AreAlike ms ns → AreAlike (ls ++ ms) (ls ++ ns)
  more_alike [] ms ns h = h
  more_alike (l ∷ ls) ms ns h = both_more l (ls ++ ms) (ls ++ ns) (more_alike ls ms ns h)

  -- a label that is none of them
  one_more : (m : ℕ) (ns : List ℕ) → ((n : ℕ) → 0 < n → is_target n ≡ true → m ≡ n → ⊥) → AreAlike (m ∷ ns) ns
  one_more m ns f = record { each = λ n l t. (λ c. by n l t (cases_of m ns n c), λ c. there m ns n c) }
    where
      by : (n : ℕ) → 0 < n → is_target n ≡ true → (m ≡ n) ⊎ Contains ns n → Contains ns n
      by n l t (inl e) = absurd (f n l t e)
      by n l t (inr c) = c

  alike_turned : (ms ns : List ℕ) → AreAlike ms ns → AreAlike ns ms
  alike_turned ms ns h = record { each = λ n l t. ((h.each n l t).1, (h.each n l t).0) }

  named_alike : (digits ms ns : List ℕ) → AreAlike ms ns → AreAlike (value_of_digits digits ∷ ms) (with_label digits ns)
  named_alike [] ms ns h = alike_then (0 ∷ ms) ms ns (one_more 0 ms (λ n l t e. omega (arith, l, e))) h
  named_alike (d ∷ digits) ms ns h = both_more (value_of_digits (d ∷ digits)) ms ns h

  other_alike : (digits ms ns : List ℕ) → is_target (value_of_digits digits) ≡ false → AreAlike ms ns
      → AreAlike ms (with_label digits ns)
  other_alike [] ms ns f h = h
  other_alike (d ∷ digits) ms ns f h =
      let v = value_of_digits (d ∷ digits) in
      let no = λ (n : ℕ) (l : 0 < n) (t : is_target n ≡ true) (e : v ≡ n). not_both (is_target n) t
      (ap is_target (sym e) ∙ f) in
      alike_then ms ns (v ∷ ns) h (alike_turned (v ∷ ns) ns (one_more v ns no))

  -- ---- the labels of a block, seen from before it

  pub block_ahead : (ps : List Placed) (b : Block) → AreBlock90 function is_target ps b → (back : List Placed)
      → AreAlike (labels_of b ++ labels_ahead back 0) (labels_ahead (ps ++ back) 0)
  block_ahead ps b nothing back = alike_same (labels_ahead back 0)
  block_ahead ps b (label line digits rest more t h) back =
      named_alike digits (labels_of more ++ labels_ahead back 0) (labels_ahead (rest ++ back) 0)
      (block_ahead rest more h back)
  block_ahead ps b (unnamed line digits rest more t h) back =
      other_alike digits (labels_of more ++ labels_ahead back 0) (labels_ahead (rest ++ back) 0) t
      (block_ahead rest more h back)
  block_ahead ps b (simple p c rest more s h) back =
      subst (λ ls. AreAlike ((ls ++ labels_of more) ++ labels_ahead back 0) (labels_ahead (p ∷ (rest ++ back)) 0))
      (sym (simple_label p c s))
      (subst (λ ns. AreAlike (labels_of more ++ labels_ahead back 0) ns)
      (sym (passed p (rest ++ back) 0 (simple_passed p c s))) (block_ahead rest more h back))
  block_ahead ps b (test line m p f inner more rest i h) back = block_ahead rest more h back
  block_ahead ps b (branch line p body arms rest first otherwise more more_arms i a h) back =
      subst (λ ns. AreAlike (labels_of more ++ labels_ahead back 0) ns)
      (sym (ap (λ xs. labels_ahead xs 1) (append_assoc body (arms ++ rest) back
      ∙ ap (λ xs. body ++ xs) (append_assoc arms rest back))
      ∙ (block_passed body first i 0 (arms ++ (rest ++ back))
      ∙ arms_passed arms more_arms otherwise a 0 (rest ++ back))))
      (block_ahead rest more h back)
  block_ahead ps b (loop line end x p q r body rest inner more i h) back =
      subst (λ ns. AreAlike (labels_of more ++ labels_ahead back 0) ns)
      (sym (ap (λ xs. labels_ahead xs 1) (append_assoc body (placed_form end None forms.EndDo ∷ rest) back)
      ∙ block_passed body inner i 0 (placed_form end None forms.EndDo ∷ (rest ++ back))))
      (block_ahead rest more h back)
