-- Statements that suit the blocks round them, told by names and labels.
use Rattle.std.proofs.Common.{arith, zero, suc, ◌≡◌, ◌+◌, ◌<◌, ◌≤◌, ℕ, nat_eq, Bool, true, false, not, ◌||◌, Option, Some, None, List, [], ◌∷◌, ◌++◌, take, drop, length, get_or, ap, refl, sym, subst, ◌∙◌}
use Rattle.std.specs.Prelude.{Contains}
use Rattle.std.specs.List.{list_any, AllByRecursion}
use Rattle.std.proofs.lemmas.Bool.{eqb-true, eqb-false, eq-eqb, true≢false, or_parts}
use Rattle.std.proofs.lemmas.List.Folds.{list_any_at}
use Rattle.std.proofs.lemmas.Map.Views.{Contains-from_any}
use Rattle.tree.specs.declared.functions.Intrinsic.{Intrinsic}
use Rattle.tree.specs.Plain as tree
use Rattle.tree.specs.Plain.{Declaration, Item}
use Rattle.meaning.specs.Blocks.{Surroundings}
use Rattle.meaning.specs.Names.{is_among}
use Rattle.meaning.specs.Typed90.{IsDoVariable}
use Rattle.f90_laws.specs.blocks.Places.{SuitsPlace, loop_variables}
use Rattle.f90_grammar.specs.Forms as forms
use Rattle.f90_grammar.specs.Forms.{Form90, IsWritten90}
use Rattle.f90_grammar.specs.Items as items
use Rattle.f90_grammar.specs.Items.{Direction, Input, Output, ItemPhrase90, ItemPhrases90, Sole, More, IsItem90, AreItems90, item_tree90, item_trees90}
use Rattle.f90_grammar.specs.Order.{Opened, InIf, InElse, InDo, opened_by}
use Rattle.f90_grammar.specs.Phrases.{value_of_digits, tree_of}
use Rattle.f90_grammar.specs.Surroundings.{ItemKeepsVariables, ItemsKeepVariables}
use Rattle.f90_grammar.specs.Words.{Word90}
use Rattle.f90_names.specs.kinds.declarations.Names.{AreNamesOf}
use Rattle.f90_names.specs.declared.kinds.declarations.names.Names.{Names}
use Rattle.f90_read.specs.surroundings.Lists.{scalar_in, stored_name, item_misuses, items_misuse}
use Rattle.f90_read.specs.surroundings.Misuses.{misuses_form}
use Rattle.f90_read.specs.surroundings.Jumps.{target_of, leads_wrongly}
use Rattle.f90_read.specs.surroundings.Misplaced.{AreProper}
use Rattle.f90_read.proofs.OfSurroundings.NameLaws.{Refutes, never, always, either_way, both, or_nothing, same_answer, stores_is, is_reference, ArePlain, scalar_is, scalar_plain, stored, keeps, variable_is}

-- ---- GO TOs

above_zero : (n : ℕ) → Refutes (nat_eq n 0) (0 < n)
above_zero n = record { holds = λ e. by n (eqb-false n 0 e); fails = λ e l. let k = eqb-true n 0 e in omega arith }
  where
    by : (n : ℕ) → (n ≡ 0 → ⊥) → 0 < n
    by zero h = absurd (h refl)
    by (suc n) h = omega arith

is_ahead : (ns : List ℕ) (n : ℕ) → Refutes (not (list_any (nat_eq n) ns)) (Contains ns n)
is_ahead ns n = by (list_any (nat_eq n) ns) refl
  where
    by : (b : Bool) → list_any (nat_eq n) ns ≡ b → Refutes (not b) (Contains ns n)
    by true e = never (Contains-from_any eqb-true n ns e)
    by false e = always (λ h. true≢false (sym (list_any_at (nat_eq n) ns h.0 n h.1 (eq-eqb n (get_or ns h.0 n) (sym h.2))) ∙ e))

-- ---- lists of items

module _ (ds : List Declaration) (d : Direction) (around : List (List ℕ)) where
  keep_append : (xs ys : List Item) → ItemsKeepVariables ds d (tree.items xs) around → ItemsKeepVariables ds d (tree.items ys) around
      → ItemsKeepVariables ds d (tree.items (xs ++ ys)) around
  keep_append [] ys h k = k
  keep_append (x ∷ xs) ys h k = (h.0, keep_append xs ys h.1 k)

  keep_apart : (xs ys : List Item) → ItemsKeepVariables ds d (tree.items (xs ++ ys)) around
      → ItemsKeepVariables ds d (tree.items xs) around × ItemsKeepVariables ds d (tree.items ys) around
  keep_apart [] ys h = (tt, h)
  keep_apart (x ∷ xs) ys h = let k = keep_apart xs ys h.1 in ((h.0, k.0), k.1)

module _ (names : Names) (ds : List Declaration) (function : List ℕ → Option Intrinsic) (of : AreNamesOf names ds) (proper : AreProper ds function) (vars : List (List ℕ)) where
  mutual
    item_right : (d : Direction) (i : ItemPhrase90) (lists : List (List ℕ)) → IsItem90 d i → ArePlain function (lists ++ vars)
        → Refutes (item_misuses (scalar_in names) (is_among vars) d i lists) (ItemKeepsVariables ds d (item_tree90 function i) (lists ++ vars))
    item_right Output (items.Of p) lists g a = never tt
    item_right Input (items.Of p) lists g a =
        same_answer (stores_is vars lists (stored_name p))
        (keeps names ds function of proper _ (tree_of function p) (lists ++ vars) a (stored names ds function of proper p (lists ++ vars) (is_reference p g.1) a))
    item_right d (items.Text t) lists g a = never tt
    item_right d (items.Loop is x l u s) lists g a =
        both _ _ (variable_is names ds function of proper x vars lists) (λ v. items_right d is (x ∷ lists) g.0 (scalar_plain names ds function of proper x v.integer, a))

    items_right : (d : Direction) (is : ItemPhrases90) (lists : List (List ℕ)) → AreItems90 d is → ArePlain function (lists ++ vars)
        → Refutes (items_misuse (scalar_in names) (is_among vars) d is lists) (ItemsKeepVariables ds d (tree.items (item_trees90 function is)) (lists ++ vars))
    items_right d (Sole i) lists g a = either_way (item_right d i lists g a) (λ h. (h, tt)) (λ h. h.0)
    items_right d (More is i) lists g a =
        either_way (both _ _ (item_right d i lists g.1 a) (λ k. items_right d is lists g.0 a))
        (λ h. keep_append ds d (lists ++ vars) (item_trees90 function is) (item_tree90 function i ∷ []) h.1 (h.0, tt))
        (λ h. let k = keep_apart ds d (lists ++ vars) (item_trees90 function is) (item_tree90 function i ∷ []) h in (k.1.0, k.0))

  -- ---- statements

  abbrev round : List ℕ → Surroundings
  round ahead = record { variables = vars; ahead = ahead }

  pub form_right : (f : Form90) (ws : List Word90) (ahead : List ℕ) → IsWritten90 f ws → ArePlain function vars
      → Refutes (misuses_form (scalar_in names) (is_among vars) f || leads_wrongly (target_of f) ahead) (SuitsPlace ds function f (round ahead))
  form_right (forms.Program x) ws ahead h a = never tt
  form_right forms.ImplicitNone ws ahead h a = never tt
  form_right (forms.Declare k b es) ws ahead h a = never tt
  form_right (forms.Assign l r) ws ahead h a = or_nothing _ (same_answer (stores_is vars [] (stored_name l)) (stored names ds function of proper l vars h.1 a))
  form_right (forms.Where m l r) ws ahead h a = or_nothing _ (same_answer (stores_is vars [] (stored_name l)) (stored names ds function of proper l vars h.2 a))
  form_right (forms.Test p f) ws ahead h a = form_right f h.0 ahead h.3 a
  form_right (forms.If p) ws ahead h a = never tt
  form_right (forms.ElseIf p) ws ahead h a = never tt
  form_right forms.Else ws ahead h a = never tt
  form_right forms.EndIf ws ahead h a = never tt
  form_right (forms.Do x l u s) ws ahead h a = or_nothing _ (variable_is names ds function of proper x vars [])
  form_right forms.EndDo ws ahead h a = never tt
  form_right (forms.Continue digits) ws ahead h a = never tt
  form_right (forms.Go label) ws ahead h a = both _ _ (above_zero (value_of_digits label)) (λ l. is_ahead ahead (value_of_digits label))
  form_right forms.Stop ws ahead h a = never tt
  form_right (forms.Read is) ws ahead h a = or_nothing _ (items_right Input is [] h.1 a)
  form_right forms.ReadNothing ws ahead h a = never tt
  form_right (forms.Print is) ws ahead h a = or_nothing _ (items_right Output is [] h.1 a)
  form_right forms.PrintNothing ws ahead h a = never tt
  form_right (forms.Allocate x es) ws ahead h a = never tt
  form_right (forms.Deallocate x) ws ahead h a = never tt
  form_right forms.End ws ahead h a = never tt
  form_right (forms.EndProgram x) ws ahead h a = never tt

-- the variables of loops behind a statement in which nothing is wrong
module _ (names : Names) (ds : List Declaration) (function : List ℕ → Option Intrinsic) (of : AreNamesOf names ds) (proper : AreProper ds function) where
  pub plain_next : (f : Form90) (os : List Opened) → ArePlain function (loop_variables os)
      → misuses_form (scalar_in names) (is_among (loop_variables os)) f ≡ false → ArePlain function (loop_variables (opened_by f os))
  plain_next (forms.If p) os a e = a
  plain_next (forms.Do x l u s) os a e =
      (scalar_plain names ds function of proper x ((scalar_is names ds function of proper x).holds (or_parts (not (scalar_in names x)) _ e).0), a)
  plain_next forms.Else [] a e = a
  plain_next forms.Else (InIf ∷ os) a e = a
  plain_next forms.Else (InElse ∷ os) a e = a
  plain_next forms.Else (InDo x ∷ os) a e = a
  plain_next forms.EndIf [] a e = a
  plain_next forms.EndIf (InIf ∷ os) a e = a
  plain_next forms.EndIf (InElse ∷ os) a e = a
  plain_next forms.EndIf (InDo x ∷ os) a e = a.1
  plain_next forms.EndDo [] a e = a
  plain_next forms.EndDo (InIf ∷ os) a e = a
  plain_next forms.EndDo (InElse ∷ os) a e = a
  plain_next forms.EndDo (InDo x ∷ os) a e = a.1
  plain_next (forms.Program x) os a e = a
  plain_next forms.ImplicitNone os a e = a
  plain_next (forms.Declare k b es) os a e = a
  plain_next (forms.Assign l r) os a e = a
  plain_next (forms.Where m l r) os a e = a
  plain_next (forms.Test p f) os a e = a
  plain_next (forms.ElseIf p) os a e = a
  plain_next (forms.Continue digits) os a e = a
  plain_next (forms.Go label) os a e = a
  plain_next forms.Stop os a e = a
  plain_next (forms.Read is) os a e = a
  plain_next forms.ReadNothing os a e = a
  plain_next (forms.Print is) os a e = a
  plain_next forms.PrintNothing os a e = a
  plain_next (forms.Allocate x es) os a e = a
  plain_next (forms.Deallocate x) os a e = a
  plain_next forms.End os a e = a
  plain_next (forms.EndProgram x) os a e = a
