-- Which labels a GO TO names doesn't depend on the numbers of lines.
use Rattle.std.proofs.Common.{◌≡◌, refl, ap, ap₂, ◌∙◌, sym, ℕ, Bool, true, false, ◌||◌, ◌==◌, List, [], ◌∷◌, Contains, get_or, eq-eqb}
use Rattle.std.specs.List.{AllByRecursion, list_any}
use Rattle.std.proofs.lemmas.List.Folds.{list_any-append, list_any_at}
use Rattle.tree.specs.Plain as tree
use Rattle.tree.specs.Plain.{Statement, Arms, Block}
use Rattle.meaning.specs.Labels.{targets_of, targets_in_arms, targets_in, all_labels_in}
use Rattle.f90_grammar.specs.Reading.{names_label, arms_name_label, is_target_in}
use Rattle.f90_laws.specs.printed.ReadBack.{without_numbers, arms_without_numbers, block_without_numbers}

or-false : (x : Bool) → (x || false) ≡ x
or-false true = refl
or-false false = refl

module _ (n : ℕ) where
  mutual
    statement-renumbered : (c : Statement) → names_label n (without_numbers c) ≡ names_label n c
    statement-renumbered (tree.If line arms other) = ap₂ (λ x y. x || y) (arms-renumbered arms) (block-renumbered other)
    statement-renumbered (tree.Do line x a b c body) = block-renumbered body
    statement-renumbered (tree.Assignment line mark left right) = refl
    statement-renumbered (tree.Where line mark m left right) = refl
    statement-renumbered (tree.Label m) = refl
    statement-renumbered (tree.GoTo line m) = refl
    statement-renumbered (tree.Stop line) = refl
    statement-renumbered (tree.Read line is) = refl
    statement-renumbered (tree.Print line is) = refl
    statement-renumbered (tree.Allocate line x es) = refl
    statement-renumbered (tree.Deallocate line x) = refl

    arms-renumbered : (m : Arms) → arms_name_label n (arms_without_numbers m) ≡ arms_name_label n m
    arms-renumbered tree.no_arms = refl
    arms-renumbered (tree.arm test body more) = ap₂ (λ x y. x || y) (block-renumbered body) (arms-renumbered more)

    block-renumbered : (b : Block) → is_target_in (block_without_numbers b) n ≡ is_target_in b n
    block-renumbered tree.no_statements = refl
    block-renumbered (tree.statement c cs) = ap₂ (λ x y. x || y) (statement-renumbered c) (block-renumbered cs)

  pub same_target : (b c : Block) → block_without_numbers b ≡ block_without_numbers c → is_target_in b n ≡ is_target_in c n
  same_target b c e = sym (block-renumbered b) ∙ (ap (λ d. is_target_in d n) e ∙ block-renumbered c)

  -- ---- a label among the targets is named

  abbrev is_it : ℕ → Bool
  is_it m = n == m

  mutual
    statement-any : (c : Statement) → names_label n c ≡ list_any is_it (targets_of c)
    statement-any (tree.GoTo line m) = sym (or-false (n == m))
    statement-any (tree.If line arms other) =
        ap₂ (λ x y. x || y) (arms-any arms) (block-any other) ∙ sym (list_any-append is_it (targets_in_arms arms) (targets_in other))
    statement-any (tree.Do line x a b c body) = block-any body
    statement-any (tree.Assignment line mark left right) = refl
    statement-any (tree.Where line mark m left right) = refl
    statement-any (tree.Label m) = refl
    statement-any (tree.Stop line) = refl
    statement-any (tree.Read line is) = refl
    statement-any (tree.Print line is) = refl
    statement-any (tree.Allocate line x es) = refl
    statement-any (tree.Deallocate line x) = refl

    arms-any : (m : Arms) → arms_name_label n m ≡ list_any is_it (targets_in_arms m)
    arms-any tree.no_arms = refl
    arms-any (tree.arm test body more) =
        ap₂ (λ x y. x || y) (block-any body) (arms-any more) ∙ sym (list_any-append is_it (targets_in body) (targets_in_arms more))

    block-any : (b : Block) → is_target_in b n ≡ list_any is_it (targets_in b)
    block-any tree.no_statements = refl
    block-any (tree.statement c cs) =
        ap₂ (λ x y. x || y) (statement-any c) (block-any cs) ∙ sym (list_any-append is_it (targets_of c) (targets_in cs))

  is_named : (b : Block) → Contains (targets_in b) n → is_target_in b n ≡ true
  is_named b h = block-any b ∙ list_any_at is_it (targets_in b) h.0 n h.1 (eq-eqb n (get_or (targets_in b) h.0 n) (sym h.2))

weaker : (P Q : ℕ → Type 0) → ((n : ℕ) → P n → Q n) → (xs : List ℕ) → AllByRecursion P xs → AllByRecursion Q xs
weaker P Q f [] h = tt
weaker P Q f (x ∷ xs) h = (f x h.0, weaker P Q f xs h.1)

pub labels_named : (b : Block) → AllByRecursion (Contains (targets_in b)) (all_labels_in b) → AllByRecursion (λ n. is_target_in b n ≡ true) (all_labels_in b)
labels_named b h = weaker (Contains (targets_in b)) (λ n. is_target_in b n ≡ true) (λ n k. is_named n b k) (all_labels_in b) h
