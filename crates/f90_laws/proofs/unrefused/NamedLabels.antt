-- Which labels a block names, its statements say, whatever labels stand in the block.
use Rattle.std.proofs.Common.{◌≡◌, refl, sym, ap, ap₂, ◌∙◌, ℕ, ◌==◌, Bool, true, false, ◌||◌, Option, None, List, [], ◌∷◌, ◌++◌}
use Rattle.std.specs.List.{list_any}
use Rattle.std.proofs.lemmas.List.Folds.{list_any-append}
use Rattle.tree.specs.Plain.{Statement, Arms, Block}
use Rattle.tree.specs.declared.functions.Intrinsic.{Intrinsic}
use Rattle.f90_grammar.specs.Phrases.{value_of_digits}
use Rattle.f90_grammar.specs.Forms as forms
use Rattle.f90_grammar.specs.Forms.{Form90}
use Rattle.f90_grammar.specs.Blocks.{Placed, placed_form, IsSimple, AreBlock90, AreArms90}
use Rattle.f90_grammar.specs.Blocks.IsSimple.{assigns, masks, goes, stops, reads, reads_nothing, prints, prints_nothing, allocates, deallocates}
use Rattle.f90_grammar.specs.Blocks.AreBlock90.{nothing, label, unnamed, simple, test, branch, loop}
use Rattle.f90_grammar.specs.Blocks.AreArms90.{ends, other, further}
use Rattle.f90_grammar.specs.Reading.{names_label, arms_name_label, is_target_in}

abbrev form_names : ℕ → Form90 → Bool
form_names n (forms.Go digits) = n == value_of_digits digits
form_names n (forms.Test p f) = form_names n f
form_names n f = false

abbrev pub name_label : ℕ → List Placed → Bool
name_label n ps = list_any (λ (p : Placed). form_names n p.form) ps

name_both : (n : ℕ) (xs ys : List Placed) → name_label n (xs ++ ys) ≡ (name_label n xs || name_label n ys)
name_both n xs ys = list_any-append (λ (p : Placed). form_names n p.form) xs ys

or-false : (a : Bool) → (a || false) ≡ a
or-false true = refl
or-false false = refl

or-assoc : (a b c : Bool) → ((a || b) || c) ≡ (a || (b || c))
or-assoc true b c = refl
or-assoc false b c = refl

module _ (function : List ℕ → Option Intrinsic) (is_target : ℕ → Bool) (n : ℕ) where
  simple_names : (s : Placed) (c : Statement) → IsSimple function is_target s c → names_label n c ≡ form_names n s.form
  simple_names s c (assigns line m l r) = refl
  simple_names s c (masks line m p l r) = refl
  simple_names s c (goes line digits) = refl
  simple_names s c (stops line) = refl
  simple_names s c (reads line is) = refl
  simple_names s c (reads_nothing line) = refl
  simple_names s c (prints line is) = refl
  simple_names s c (prints_nothing line) = refl
  simple_names s c (allocates line x es) = refl
  simple_names s c (deallocates line x) = refl

  mutual
    pub block_names : (ps : List Placed) (b : Block) → AreBlock90 function is_target ps b → is_target_in b n ≡ name_label n ps
    block_names ps b nothing = refl
    block_names ps b (label line digits rest d t h) = block_names rest d h
    block_names ps b (unnamed line digits rest d t h) = block_names rest d h
    block_names ps b (simple s c rest d i h) = ap₂ (λ u v. u || v) (simple_names s c i) (block_names rest d h)
    block_names ps b (test line m p f inner d rest i h) =
        ap₂ (λ u v. u || v) (or-false (is_target_in inner n || false) ∙ (or-false (is_target_in inner n) ∙ (block_names (placed_form line m f ∷ []) inner i ∙ or-false (form_names n f)))) (block_names rest d h)
    block_names ps b (branch line p body ars rest first otherwise d more i a h) =
        ap₂ (λ u v. u || v) (or-assoc (is_target_in first n) (arms_name_label n more) (is_target_in otherwise n) ∙ ap₂ (λ u v. u || v) (block_names body first i) (arms_names ars more otherwise a)) (block_names rest d h)
        ∙ (or-assoc (name_label n body) (name_label n ars) (name_label n rest)
        ∙ (ap (λ u. name_label n body || u) (sym (name_both n ars rest)) ∙ sym (name_both n body (ars ++ rest))))
    block_names ps b (loop line end x p q r body rest inner d i h) =
        ap₂ (λ u v. u || v) (block_names body inner i) (block_names rest d h) ∙ sym (name_both n body (placed_form end None forms.EndDo ∷ rest))

    arms_names : (ps : List Placed) (m : Arms) (b : Block) → AreArms90 function is_target ps m b → (arms_name_label n m || is_target_in b n) ≡ name_label n ps
    arms_names ps m b (ends line) = refl
    arms_names ps m b (other line end body d h) =
        block_names body d h ∙ (sym (or-false (name_label n body)) ∙ sym (name_both n body (placed_form end None forms.EndIf ∷ [])))
    arms_names ps m b (further line p body rest d o more h a) =
        or-assoc (is_target_in d n) (arms_name_label n more) (is_target_in o n)
        ∙ (ap₂ (λ u v. u || v) (block_names body d h) (arms_names rest more o a) ∙ sym (name_both n body rest))
