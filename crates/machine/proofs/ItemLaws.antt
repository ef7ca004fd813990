-- Items of output lists.
use Rattle.std.proofs.Common.{◌≡◌, refl, sym, ap, ◌∙◌, subst, ℕ, ◌+◌, ◌<◌, ◌≤◌, List, [], ◌∷◌, drop, get_or, length, Result, Ok, Err, Option, Some}
use Rattle.std.specs.Prelude.{slice_get}
use Rattle.std.proofs.lemmas.List.{at_drop_more, at_drop_all}
use Rattle.tree.specs.Plain.{Single, Constant, ImpliedDo}
use Rattle.tree.specs.Plain as P
use Rattle.tree.specs.View.{item_of, expression_of}
use Rattle.tree.specs.declared.names.Name.{Name}
use Rattle.tree.specs.declared.lists.Seq.{Seq}
use Rattle.tree.specs.declared.exprs.Expr.{Expr}
use Rattle.tree.specs.declared.stmts.Item.{Item}
use Rattle.tree.specs.declared.stmts.Item.TheVariants as variants
use Rattle.tree.proofs.Equations.{item_of-one, item_of-text, item_of-turns}
use Rattle.streams.specs.declared.errors.WriteFault.{WriteFault}
use Rattle.meaning.specs.Dialect.{Dialect}
use Rattle.meaning.specs.Run.{first_blank, prints_item, prints_items, loops, then}
use Rattle.machine.specs.Moments.{Seen}
use Rattle.machine.specs.declared.progress.Left.{Left}
use Rattle.machine.specs.Acts.{LimitedAct, Runs}
use Rattle.machine.specs.Texts.{WritesText}
use Rattle.machine.specs.Printing.{plain_items, prints_value}
use Rattle.machine.proofs.ActLaws.{Runs-then, Runs-nothing}
use Rattle.machine.proofs.TurnLaws.{Runs-left, Stays-prints_items, Extends-prints_items}
use Rattle.machine.proofs.WriteLaws.{Runs-writes, left_by}

abbrev pub blank_of : P.Item → List ℕ
blank_of (Single e) = []
blank_of (Constant t) = 32 ∷ []
blank_of (ImpliedDo is x a b c) = []

blank_is : (i : P.Item) (is : P.Items) → first_blank (P.item i is) ≡ blank_of i
blank_is (Single e) is = refl
blank_is (Constant t) is = refl
blank_is (ImpliedDo js x a b c) is = refl

first_is : (xs : List Item) (i : Item) → Some i ≡ slice_get xs 0 → first_blank (plain_items xs) ≡ blank_of (item_of i)
first_is [] i e = cc
first_is (x ∷ xs) i e = (let same : i ≡ x = cc in blank_is (item_of x) (plain_items xs) ∙ ap (λ i. blank_of (item_of i)) (sym same))

pub blank_text : (xs ys : List Item) (i : Item) (t : Seq ℕ) → ys ≡ xs → Some i ≡ slice_get ys 0 → i ≡ variants.Text t → (32 ∷ []) ≡ first_blank (plain_items xs)
blank_text xs ys i t h e k = sym (ap (λ xs. first_blank (plain_items xs)) (sym h) ∙ first_is ys i e ∙ ap blank_of (ap item_of k ∙ item_of-text t))

pub blank_one : (xs ys : List Item) (i : Item) (a : Expr) → ys ≡ xs → Some i ≡ slice_get ys 0 → i ≡ variants.One a → [] ≡ first_blank (plain_items xs)
blank_one xs ys i a h e k = sym (ap (λ xs. first_blank (plain_items xs)) (sym h) ∙ first_is ys i e ∙ ap blank_of (ap item_of k ∙ item_of-one a))

pub blank_turns : (xs ys : List Item) (i : Item) (is : Seq Item) (x : Name) (a b c : Expr) → ys ≡ xs → Some i ≡ slice_get ys 0 → i ≡ variants.Turns is x a b c → [] ≡ first_blank (plain_items xs)
blank_turns xs ys i is x a b c h e k = sym (ap (λ xs. first_blank (plain_items xs)) (sym h) ∙ first_is ys i e ∙ ap blank_of (ap item_of k ∙ item_of-turns is x a b c))

-- ---- an item

module _ (lang : Dialect) (line : ℕ) (input : List ℕ) (old new : Seen) (before now : Option (List ℕ)) (r : Result (Unit {0}) Left) where
  pub one_runs : (i : Item) (e : Expr) → i ≡ variants.One e → Runs (λ limit. prints_value lang line (expression_of e)) input old before new now r → Runs (λ limit. prints_item lang limit (item_of i) line) input old before new now r
  one_runs i e k h = subst (λ j. Runs (λ limit. prints_item lang limit j line) input old before new now r) (sym (ap item_of k ∙ item_of-one e)) h

  pub turns_run : (i : Item) (is : Seq Item) (x : Name) (a b c : Expr) → i ≡ variants.Turns is x a b c
      → Runs (λ limit. loops lang limit line x (expression_of a) (expression_of b) (expression_of c) (prints_items lang limit (plain_items is) line)) input old before new now r
      → Runs (λ limit. prints_item lang limit (item_of i) line) input old before new now r
  turns_run i is x a b c k h = subst (λ j. Runs (λ limit. prints_item lang limit j line) input old before new now r) (sym (ap item_of k ∙ item_of-turns is x a b c)) h

pub text_runs : (lang : Dialect) (line : ℕ) (input : List ℕ) (m : Seen) (before now : Option (List ℕ)) (r : Result (Unit {0}) WriteFault) (i : Item) (t : Seq ℕ) → i ≡ variants.Text t → WritesText before t now r
    → Runs (λ limit. prints_item lang limit (item_of i) line) input m before m now (left_by r)
text_runs lang line input m before now r i t k h = subst (λ j. Runs (λ limit. prints_item lang limit j line) input m before m now (left_by r)) (sym (ap item_of k ∙ item_of-text t)) (Runs-writes t input m before now r h)

-- ---- the items from a place in the list on

module _ (lang : Dialect) (line : ℕ) (xs : List Item) (i : ℕ) (x : Item) (within : i < length xs) (is : x ≡ get_or xs i x) (input : List ℕ) (old mid : Seen) (before now : Option (List ℕ)) where
  abbrev left_over : ℕ → LimitedAct
  left_over i limit = prints_items lang limit (plain_items (drop i xs)) line

  begins : (r : Result (Unit {0}) Left) (new : Seen) (after : Option (List ℕ)) → Runs (λ limit. then (prints_item lang limit (item_of x) line) (left_over (i + 1) limit)) input old before new after r
      → Runs (left_over i) input old before new after r
  begins r new after h = subst (λ is. Runs (λ limit. prints_items lang limit is line) input old before new after r)
      (sym (at_drop_more plain_items xs i x within ∙ ap (λ y. P.item (item_of y) (plain_items (drop (i + 1) xs))) (sym is))) h

  pub items_left : (left : Left) → Runs (λ limit. prints_item lang limit (item_of x) line) input old before mid now (Err left) → Runs (left_over i) input old before mid now (Err left)
  items_left left h = begins (Err left) mid now
      (Runs-left (λ limit. prints_item lang limit (item_of x) line) (left_over (i + 1)) input old mid before now left h
      (Stays-prints_items lang (plain_items (drop (i + 1) xs)) line) (Extends-prints_items lang (plain_items (drop (i + 1) xs)) line))

  pub items_more : (new : Seen) (after : Option (List ℕ)) (r : Result (Unit {0}) Left) → Runs (λ limit. prints_item lang limit (item_of x) line) input old before mid now (Ok tt)
      → Runs (left_over (i + 1)) input mid now new after r → Runs (left_over i) input old before new after r
  items_more new after r h k = begins r new after (Runs-then (λ limit. prints_item lang limit (item_of x) line) (left_over (i + 1)) input old mid before now new after r h k)

pub items_done : (lang : Dialect) (line : ℕ) (xs : List Item) (i : ℕ) (input : List ℕ) (m : Seen) (now : Option (List ℕ)) → length xs ≤ i → Runs (λ limit. prints_items lang limit (plain_items (drop i xs)) line) input m now m now (Ok tt)
items_done lang line xs i input m now l = subst (λ is. Runs (λ limit. prints_items lang limit is line) input m now m now (Ok tt)) (sym (at_drop_all plain_items xs i l)) (Runs-nothing input m now)
