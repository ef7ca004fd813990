-- The statements of a block are in order: what is opened is closed, each block part stands in its block, and blocks
-- stand as deep in each other as those of the tree.
use Rattle.std.proofs.Common.{◌≡◌, refl, sym, ap, subst, ◌∙◌, ℕ, suc, ◌+◌, ◌<◌, ◌≤◌, max, arith, Bool, true, false, not, Option, None, List, [], ◌∷◌, ◌++◌, length, append_assoc}
use Rattle.std.specs.List.{AllByRecursion}
use Rattle.tree.specs.Plain.{Statement, Arms, Block}
use Rattle.tree.specs.declared.functions.Intrinsic.{Intrinsic}
use Rattle.meaning.specs.Blocks.{blocks_in_arms, blocks_in}
use Rattle.f90_grammar.specs.Forms as forms
use Rattle.f90_grammar.specs.Forms.{Form90}
use Rattle.f90_grammar.specs.Blocks.{Placed, placed_form, IsSimple, AreBlock90, AreArms90}
use Rattle.f90_grammar.specs.Blocks.IsSimple.{assigns, masks, goes, stops, reads, reads_nothing, prints, prints_nothing, allocates, deallocates}
use Rattle.f90_grammar.specs.Blocks.AreBlock90.{nothing, label, unnamed, simple, test, branch, loop}
use Rattle.f90_grammar.specs.Blocks.AreArms90.{ends, other, further}
use Rattle.f90_grammar.specs.Order.{Opened, InIf, InElse, InDo, opened_by, opened_behind, closes_wrongly, closes_if, has_end_if90, closes_do, has_end_do, stays_open90}
use Rattle.f90_grammar.specs.Bounds.{opens_block90}
use Rattle.f90_laws.proofs.readings.Counts.{OpensWithin, block_keeps, arms_keep}

-- a statement that neither opens nor closes a block, nor is a part of one
pub record IsQuiet (f : Form90) : Type 0 where
  pub opens : (os : List Opened) → opened_by f os ≡ os
  pub closes : (os : List Opened) → closes_wrongly f os ≡ false
  pub ends_if : (more : ℕ → Bool) (n : ℕ) → closes_if f more n ≡ more n
  pub ends_do : (more : ℕ → Bool) (n : ℕ) → closes_do f more n ≡ more n
  pub stays : (ps : List Placed) → stays_open90 f ps ≡ false
  pub block : opens_block90 f ≡ false

-- ---- what is asked of each statement, with the blocks that are open before it and the statements behind it

abbrev pub Close : List Opened → List Placed → Type 0
Close os [] = Unit {0}
Close os (p ∷ ps) = (closes_wrongly p.form os ≡ false) × Close (opened_by p.form os) ps

abbrev pub AreClosed : List Placed → Type 0
AreClosed [] = Unit {0}
AreClosed (p ∷ ps) = (stays_open90 p.form ps ≡ false) × AreClosed ps

pub close_both : (os : List Opened) (xs ys : List Placed) → Close os xs → Close (opened_behind os xs) ys → Close os (xs ++ ys)
close_both os [] ys h k = k
close_both os (x ∷ xs) ys h k = (h.0, close_both (opened_by x.form os) xs ys h.1 k)

pub within_both : (n : ℕ) (os : List Opened) (xs ys : List Placed) → OpensWithin n os xs → OpensWithin n (opened_behind os xs) ys → OpensWithin n os (xs ++ ys)
within_both n os [] ys h k = k
within_both n os (x ∷ xs) ys h k = (h.0, within_both n (opened_by x.form os) xs ys h.1 k)

-- at a place
pub close_at : (os : List Opened) (before : List Placed) (here : Placed) (after : List Placed) → Close os (before ++ here ∷ after) → closes_wrongly here.form (opened_behind os before) ≡ false
close_at os [] here after h = h.0
close_at os (x ∷ before) here after h = close_at (opened_by x.form os) before here after h.1

pub closed_at : (before : List Placed) (here : Placed) (after : List Placed) → AreClosed (before ++ here ∷ after) → stays_open90 here.form after ≡ false
closed_at [] here after h = h.0
closed_at (x ∷ before) here after h = closed_at before here after h.1

pub within_at : (n : ℕ) (os : List Opened) (before : List Placed) (here : Placed) (after : List Placed) → OpensWithin n os (before ++ here ∷ after)
    → opens_block90 here.form ≡ true → length (opened_behind os before) < n
within_at n os [] here after h = h.0
within_at n os (x ∷ before) here after h = within_at n (opened_by x.form os) before here after h.1

-- ---- quiet statements

abbrev pub AreQuiet : List Placed → Type 0
AreQuiet ps = AllByRecursion (λ (p : Placed). IsQuiet p.form) ps

pub quiet_opened : (os : List Opened) (ps : List Placed) → AreQuiet ps → opened_behind os ps ≡ os
quiet_opened os [] h = refl
quiet_opened os (p ∷ ps) h = ap (λ o. opened_behind o ps) (h.0.opens os) ∙ quiet_opened os ps h.1

pub quiet_close : (os : List Opened) (ps more : List Placed) → AreQuiet ps → Close os more → Close os (ps ++ more)
quiet_close os [] more h k = k
quiet_close os (p ∷ ps) more h k = (h.0.closes os, subst (λ (o : List Opened). Close o (ps ++ more)) (sym (h.0.opens os)) (quiet_close os ps more h.1 k))

pub quiet_closed : (ps more : List Placed) → AreQuiet ps → AreClosed more → AreClosed (ps ++ more)
quiet_closed [] more h k = k
quiet_closed (p ∷ ps) more h k = (h.0.stays (ps ++ more), quiet_closed ps more h.1 k)

no_block : (f : Form90) (P : Type 0) → IsQuiet f → opens_block90 f ≡ true → P
no_block f P h e = let g = h.block in absurd cc

pub quiet_within : (n : ℕ) (os : List Opened) (ps more : List Placed) → AreQuiet ps → OpensWithin n os more → OpensWithin n os (ps ++ more)
quiet_within n os [] more h k = k
quiet_within n os (p ∷ ps) more h k =
    (no_block p.form (length os < n) h.0, subst (λ (o : List Opened). OpensWithin n o (ps ++ more)) (sym (h.0.opens os)) (quiet_within n os ps more h.1 k))

-- ---- blocks

module _ (function : List ℕ → Option Intrinsic) (is_target : ℕ → Bool) where
  pub simple_quiet : (p : Placed) (c : Statement) → IsSimple function is_target p c → IsQuiet p.form
  simple_quiet p c (assigns line m l r) =
      record { opens = λ os. refl; closes = λ os. refl; ends_if = λ more n. refl; ends_do = λ more n. refl; stays = λ ps. refl; block = refl }
  simple_quiet p c (masks line m q l r) =
      record { opens = λ os. refl; closes = λ os. refl; ends_if = λ more n. refl; ends_do = λ more n. refl; stays = λ ps. refl; block = refl }
  simple_quiet p c (goes line digits) =
      record { opens = λ os. refl; closes = λ os. refl; ends_if = λ more n. refl; ends_do = λ more n. refl; stays = λ ps. refl; block = refl }
  simple_quiet p c (stops line) =
      record { opens = λ os. refl; closes = λ os. refl; ends_if = λ more n. refl; ends_do = λ more n. refl; stays = λ ps. refl; block = refl }
  simple_quiet p c (reads line is) =
      record { opens = λ os. refl; closes = λ os. refl; ends_if = λ more n. refl; ends_do = λ more n. refl; stays = λ ps. refl; block = refl }
  simple_quiet p c (reads_nothing line) =
      record { opens = λ os. refl; closes = λ os. refl; ends_if = λ more n. refl; ends_do = λ more n. refl; stays = λ ps. refl; block = refl }
  simple_quiet p c (prints line is) =
      record { opens = λ os. refl; closes = λ os. refl; ends_if = λ more n. refl; ends_do = λ more n. refl; stays = λ ps. refl; block = refl }
  simple_quiet p c (prints_nothing line) =
      record { opens = λ os. refl; closes = λ os. refl; ends_if = λ more n. refl; ends_do = λ more n. refl; stays = λ ps. refl; block = refl }
  simple_quiet p c (allocates line x es) =
      record { opens = λ os. refl; closes = λ os. refl; ends_if = λ more n. refl; ends_do = λ more n. refl; stays = λ ps. refl; block = refl }
  simple_quiet p c (deallocates line x) =
      record { opens = λ os. refl; closes = λ os. refl; ends_if = λ more n. refl; ends_do = λ more n. refl; stays = λ ps. refl; block = refl }

  -- ---- each part stands in its block

  mutual
    pub block_closes : (ps : List Placed) (b : Block) (os : List Opened) → AreBlock90 function is_target ps b → Close os ps
    block_closes ps b os nothing = tt
    block_closes ps b os (label line digits rest more t h) = (refl, block_closes rest more os h)
    block_closes ps b os (unnamed line digits rest more t h) = (refl, block_closes rest more os h)
    block_closes ps b os (simple p c rest more s h) =
        let q = simple_quiet p c s in (q.closes os, subst (λ (o : List Opened). Close o rest) (sym (q.opens os)) (block_closes rest more os h))
    block_closes ps b os (test line m p f inner more rest i h) = (refl, block_closes rest more os h)
    block_closes ps b os (branch line p body arms rest first otherwise more more_arms i a h) = (
      refl,
      close_both (InIf ∷ os) body (arms ++ rest) (block_closes body first (InIf ∷ os) i)
          (subst (λ (o : List Opened). Close o (arms ++ rest)) (sym (block_keeps function is_target body first (InIf ∷ os) i))
          (close_both (InIf ∷ os) arms rest (arms_close arms more_arms otherwise os a)
          (subst (λ (o : List Opened). Close o rest) (sym (arms_keep function is_target arms more_arms otherwise os a)) (block_closes rest more os h)))),
    )
    block_closes ps b os (loop line end x p q r body rest inner more i h) = (
      refl,
      close_both (InDo x ∷ os) body (placed_form end None forms.EndDo ∷ rest) (block_closes body inner (InDo x ∷ os) i)
          (subst (λ (o : List Opened). Close o (placed_form end None forms.EndDo ∷ rest)) (sym (block_keeps function is_target body inner (InDo x ∷ os) i)) (refl, block_closes rest more os h)),
    )

    arms_close : (ps : List Placed) (ars : Arms) (b : Block) (os : List Opened) → AreArms90 function is_target ps ars b → Close (InIf ∷ os) ps
    arms_close ps ars b os (ends line) = (refl, tt)
    arms_close ps ars b os (other line end body more i) = (
      refl,
      close_both (InElse ∷ os) body (placed_form end None forms.EndIf ∷ []) (block_closes body more (InElse ∷ os) i)
          (subst (λ (o : List Opened). Close o (placed_form end None forms.EndIf ∷ [])) (sym (block_keeps function is_target body more (InElse ∷ os) i)) (refl, tt)),
    )
    arms_close ps ars b os (further line p body rest first otherwise more i a) = (
      refl,
      close_both (InIf ∷ os) body rest (block_closes body first (InIf ∷ os) i)
          (subst (λ (o : List Opened). Close o rest) (sym (block_keeps function is_target body first (InIf ∷ os) i)) (arms_close rest more otherwise os a)),
    )

  -- ---- how deep blocks stand in each other

  mutual
    pub block_within : (n : ℕ) (ps : List Placed) (b : Block) (os : List Opened) → AreBlock90 function is_target ps b → length os + blocks_in b ≤ n → OpensWithin n os ps
    block_within n ps b os nothing l = tt
    block_within n ps b os (label line digits rest more t h) l = (λ e. absurd cc, block_within n rest more os h (omega arith))
    block_within n ps b os (unnamed line digits rest more t h) l = (λ e. absurd cc, block_within n rest more os h l)
    block_within n ps b os (simple p c rest more s h) l =
        let q = simple_quiet p c s in
        (no_block p.form (length os < n) q, subst (λ (o : List Opened). OpensWithin n o rest) (sym (q.opens os)) (block_within n rest more os h (omega arith)))
    block_within n ps b os (test line m p f inner more rest i h) l = (λ e. omega arith, block_within n rest more os h (omega arith))
    block_within n ps b os (branch line p body arms rest first otherwise more more_arms i a h) l = (
      λ e. omega arith,
      within_both n (InIf ∷ os) body (arms ++ rest) (block_within n body first (InIf ∷ os) i (omega arith))
          (subst (λ (o : List Opened). OpensWithin n o (arms ++ rest)) (sym (block_keeps function is_target body first (InIf ∷ os) i))
          (within_both n (InIf ∷ os) arms rest (arms_within n arms more_arms otherwise os a (omega arith))
          (subst (λ (o : List Opened). OpensWithin n o rest) (sym (arms_keep function is_target arms more_arms otherwise os a)) (block_within n rest more os h (omega arith))))),
    )
    block_within n ps b os (loop line end x p q r body rest inner more i h) l = (
      λ e. omega arith,
      within_both n (InDo x ∷ os) body (placed_form end None forms.EndDo ∷ rest) (block_within n body inner (InDo x ∷ os) i (omega arith))
          (subst (λ (o : List Opened). OpensWithin n o (placed_form end None forms.EndDo ∷ rest)) (sym (block_keeps function is_target body inner (InDo x ∷ os) i))
          (λ e. absurd cc, block_within n rest more os h (omega arith))),
    )

    arms_within : (n : ℕ) (ps : List Placed) (ars : Arms) (b : Block) (os : List Opened) → AreArms90 function is_target ps ars b
        → length os + (1 + max (blocks_in_arms ars) (blocks_in b)) ≤ n → OpensWithin n (InIf ∷ os) ps
    arms_within n ps ars b os (ends line) l = (λ e. absurd cc, tt)
    arms_within n ps ars b os (other line end body more i) l = (
      λ e. absurd cc,
      within_both n (InElse ∷ os) body (placed_form end None forms.EndIf ∷ []) (block_within n body more (InElse ∷ os) i (omega arith))
          (subst (λ (o : List Opened). OpensWithin n o (placed_form end None forms.EndIf ∷ [])) (sym (block_keeps function is_target body more (InElse ∷ os) i)) (λ e. absurd cc, tt)),
    )
    arms_within n ps ars b os (further line p body rest first otherwise more i a) l = (
      λ e. absurd cc,
      within_both n (InIf ∷ os) body rest (block_within n body first (InIf ∷ os) i (omega arith))
          (subst (λ (o : List Opened). OpensWithin n o rest) (sym (block_keeps function is_target body first (InIf ∷ os) i)) (arms_within n rest more otherwise os a (omega arith))),
    )

  -- ---- what is opened is closed

  mutual
    pub block_end_if : (ps : List Placed) (b : Block) → AreBlock90 function is_target ps b → (n : ℕ) (more : List Placed) → has_end_if90 (ps ++ more) n ≡ has_end_if90 more n
    block_end_if ps b nothing n more = refl
    block_end_if ps b (label line digits rest d t h) n more = block_end_if rest d h n more
    block_end_if ps b (unnamed line digits rest d t h) n more = block_end_if rest d h n more
    block_end_if ps b (simple p c rest d s h) n more = (simple_quiet p c s).ends_if (has_end_if90 (rest ++ more)) n ∙ block_end_if rest d h n more
    block_end_if ps b (test line m p f inner d rest i h) n more = block_end_if rest d h n more
    block_end_if ps b (branch line p body arms rest first otherwise d more_arms i a h) n more =
        ap (λ xs. has_end_if90 xs (suc n)) (append_assoc body (arms ++ rest) more ∙ ap (λ xs. body ++ xs) (append_assoc arms rest more))
        ∙ (block_end_if body first i (suc n) (arms ++ (rest ++ more)) ∙ (arms_end_if arms more_arms otherwise a n (rest ++ more) ∙ block_end_if rest d h n more))
    block_end_if ps b (loop line end x p q r body rest inner d i h) n more =
        ap (λ xs. has_end_if90 xs n) (append_assoc body (placed_form end None forms.EndDo ∷ rest) more)
        ∙ (block_end_if body inner i n (placed_form end None forms.EndDo ∷ (rest ++ more)) ∙ block_end_if rest d h n more)

    arms_end_if : (ps : List Placed) (ars : Arms) (b : Block) → AreArms90 function is_target ps ars b → (n : ℕ) (more : List Placed) → has_end_if90 (ps ++ more) (suc n) ≡ has_end_if90 more n
    arms_end_if ps ars b (ends line) n more = refl
    arms_end_if ps ars b (other line end body d i) n more =
        ap (λ xs. has_end_if90 xs (suc n)) (append_assoc body (placed_form end None forms.EndIf ∷ []) more) ∙ block_end_if body d i (suc n) (placed_form end None forms.EndIf ∷ more)
    arms_end_if ps ars b (further line p body rest first otherwise d i a) n more =
        ap (λ xs. has_end_if90 xs (suc n)) (append_assoc body rest more) ∙ (block_end_if body first i (suc n) (rest ++ more) ∙ arms_end_if rest d otherwise a n more)

  arms_end : (ps : List Placed) (ars : Arms) (b : Block) → AreArms90 function is_target ps ars b → (more : List Placed) → has_end_if90 (ps ++ more) 0 ≡ true
  arms_end ps ars b (ends line) more = refl
  arms_end ps ars b (other line end body d i) more =
      ap (λ xs. has_end_if90 xs 0) (append_assoc body (placed_form end None forms.EndIf ∷ []) more) ∙ block_end_if body d i 0 (placed_form end None forms.EndIf ∷ more)
  arms_end ps ars b (further line p body rest first otherwise d i a) more =
      ap (λ xs. has_end_if90 xs 0) (append_assoc body rest more) ∙ (block_end_if body first i 0 (rest ++ more) ∙ arms_end rest d otherwise a more)

  mutual
    pub block_end_do : (ps : List Placed) (b : Block) → AreBlock90 function is_target ps b → (n : ℕ) (more : List Placed) → has_end_do (ps ++ more) n ≡ has_end_do more n
    block_end_do ps b nothing n more = refl
    block_end_do ps b (label line digits rest d t h) n more = block_end_do rest d h n more
    block_end_do ps b (unnamed line digits rest d t h) n more = block_end_do rest d h n more
    block_end_do ps b (simple p c rest d s h) n more = (simple_quiet p c s).ends_do (has_end_do (rest ++ more)) n ∙ block_end_do rest d h n more
    block_end_do ps b (test line m p f inner d rest i h) n more = block_end_do rest d h n more
    block_end_do ps b (branch line p body arms rest first otherwise d more_arms i a h) n more =
        ap (λ xs. has_end_do xs n) (append_assoc body (arms ++ rest) more ∙ ap (λ xs. body ++ xs) (append_assoc arms rest more))
        ∙ (block_end_do body first i n (arms ++ (rest ++ more)) ∙ (arms_end_do arms more_arms otherwise a n (rest ++ more) ∙ block_end_do rest d h n more))
    block_end_do ps b (loop line end x p q r body rest inner d i h) n more =
        ap (λ xs. has_end_do xs (suc n)) (append_assoc body (placed_form end None forms.EndDo ∷ rest) more)
        ∙ (block_end_do body inner i (suc n) (placed_form end None forms.EndDo ∷ (rest ++ more)) ∙ block_end_do rest d h n more)

    arms_end_do : (ps : List Placed) (ars : Arms) (b : Block) → AreArms90 function is_target ps ars b → (n : ℕ) (more : List Placed) → has_end_do (ps ++ more) n ≡ has_end_do more n
    arms_end_do ps ars b (ends line) n more = refl
    arms_end_do ps ars b (other line end body d i) n more =
        ap (λ xs. has_end_do xs n) (append_assoc body (placed_form end None forms.EndIf ∷ []) more) ∙ block_end_do body d i n (placed_form end None forms.EndIf ∷ more)
    arms_end_do ps ars b (further line p body rest first otherwise d i a) n more =
        ap (λ xs. has_end_do xs n) (append_assoc body rest more) ∙ (block_end_do body first i n (rest ++ more) ∙ arms_end_do rest d otherwise a n more)

  mutual
    pub block_closed : (ps : List Placed) (b : Block) → AreBlock90 function is_target ps b → (more : List Placed) → AreClosed more → AreClosed (ps ++ more)
    block_closed ps b nothing more g = g
    block_closed ps b (label line digits rest d t h) more g = (refl, block_closed rest d h more g)
    block_closed ps b (unnamed line digits rest d t h) more g = (refl, block_closed rest d h more g)
    block_closed ps b (simple p c rest d s h) more g = ((simple_quiet p c s).stays (rest ++ more), block_closed rest d h more g)
    block_closed ps b (test line m p f inner d rest i h) more g = (refl, block_closed rest d h more g)
    block_closed ps b (branch line p body arms rest first otherwise d more_arms i a h) more g =
        let e : (body ++ (arms ++ rest)) ++ more ≡ body ++ (arms ++ (rest ++ more)) = append_assoc body (arms ++ rest) more ∙ ap (λ xs. body ++ xs) (append_assoc arms rest more) in (
          ap (λ xs. not (has_end_if90 xs 0)) e ∙ ap not (block_end_if body first i 0 (arms ++ (rest ++ more)) ∙ arms_end arms more_arms otherwise a (rest ++ more)),
          subst AreClosed (sym e) (block_closed body first i (arms ++ (rest ++ more)) (arms_closed arms more_arms otherwise a (rest ++ more) (block_closed rest d h more g))),
        )
    block_closed ps b (loop line end x p q r body rest inner d i h) more g =
        let e : (body ++ placed_form end None forms.EndDo ∷ rest) ++ more ≡ body ++ placed_form end None forms.EndDo ∷ (rest ++ more) = append_assoc body (placed_form end None forms.EndDo ∷ rest) more in (
          ap (λ xs. not (has_end_do xs 0)) e ∙ ap not (block_end_do body inner i 0 (placed_form end None forms.EndDo ∷ (rest ++ more))),
          subst AreClosed (sym e) (block_closed body inner i (placed_form end None forms.EndDo ∷ (rest ++ more)) (refl, block_closed rest d h more g)),
        )

    arms_closed : (ps : List Placed) (ars : Arms) (b : Block) → AreArms90 function is_target ps ars b → (more : List Placed) → AreClosed more → AreClosed (ps ++ more)
    arms_closed ps ars b (ends line) more g = (refl, g)
    arms_closed ps ars b (other line end body d i) more g =
        (refl, subst AreClosed (sym (append_assoc body (placed_form end None forms.EndIf ∷ []) more)) (block_closed body d i (placed_form end None forms.EndIf ∷ more) (refl, g)))
    arms_closed ps ars b (further line p body rest first otherwise d i a) more g =
        (refl, subst AreClosed (sym (append_assoc body rest more)) (block_closed body first i (rest ++ more) (arms_closed rest d otherwise a more g)))
