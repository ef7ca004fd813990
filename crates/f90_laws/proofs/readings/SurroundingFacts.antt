-- Whether a statement suits its surroundings can be decided, and depends on what each name is declared as alone.
use Rattle.std.proofs.Common.{◌≡◌, ◌⊎◌, inl, inr, ℕ, ◌<◌, List, [], ◌∷◌, Contains}
use Rattle.tree.specs.Plain as tree
use Rattle.tree.specs.Plain.{Expression, Declaration, Item, Items, Statement}
use Rattle.meaning.specs.Blocks.{Surroundings}
use Rattle.meaning.specs.Typed.{declared}
use Rattle.f90_grammar.specs.Items.{Direction, Input, Output}
use Rattle.f90_grammar.specs.Surroundings.{KeepsVariables, ItemKeepsVariables, ItemsKeepVariables, SuitsSurroundings}
use Rattle.f90_laws.proofs.readings.Decisions.{Decided, both, negated, contains, same_name, same_number, below}
use Rattle.f90_laws.proofs.readings.KindFacts.{do_variable, do_variable_too}

keeps : (d : Direction) (e : Expression) (around : List (List ℕ)) → Decided (KeepsVariables d e around)
keeps Output e around = inl tt
keeps Input (tree.Named x ps) around = negated (contains same_name around x)
keeps Input (tree.Number n) around = inl tt
keeps Input (tree.Logic b) around = inl tt
keeps Input (tree.Unary o a) around = inl tt
keeps Input (tree.Binary o a b) around = inl tt
keeps Input (tree.Apply f es) around = inl tt
keeps Input (tree.Constructor es ls) around = inl tt
keeps Input (tree.Spread a d n) around = inl tt
keeps Input (tree.Transpose a) around = inl tt
keeps Input (tree.Reshape a es) around = inl tt
keeps Input (tree.Reduce r a) around = inl tt

module _ (ds : List Declaration) where
  mutual
    item_keeps : (d : Direction) (i : Item) (around : List (List ℕ)) → Decided (ItemKeepsVariables ds d i around)
    item_keeps d (tree.Single e) around = keeps d e around
    item_keeps d (tree.Constant t) around = inl tt
    item_keeps d (tree.ImpliedDo is x a b c) around = both (do_variable ds x around) (items_keep d is (x ∷ around))

    items_keep : (d : Direction) (is : Items) (around : List (List ℕ)) → Decided (ItemsKeepVariables ds d is around)
    items_keep d tree.no_items around = inl tt
    items_keep d (tree.item i is) around = both (item_keeps d i around) (items_keep d is around)

  pub suits_surroundings : (c : Statement) (w : Surroundings) → Decided (SuitsSurroundings ds c w)
  suits_surroundings (tree.Assignment line mark left right) w = negated (contains same_name w.variables left.name)
  suits_surroundings (tree.Where line mark mask left right) w = negated (contains same_name w.variables left.name)
  suits_surroundings (tree.Do line x a b c body) w = do_variable ds x w.variables
  suits_surroundings (tree.Read line is) w = items_keep Input is w.variables
  suits_surroundings (tree.Print line is) w = items_keep Output is w.variables
  suits_surroundings (tree.GoTo line n) w = both (below 0 n) (contains same_number w.ahead n)
  suits_surroundings (tree.If line arms other) w = inl tt
  suits_surroundings (tree.Label n) w = inl tt
  suits_surroundings (tree.Stop line) w = inl tt
  suits_surroundings (tree.Allocate line x es) w = inl tt
  suits_surroundings (tree.Deallocate line x) w = inl tt

module _ (ds qs : List Declaration) (alike : (x : List ℕ) → declared ds x ≡ declared qs x) where
  mutual
    item_too : (d : Direction) (i : Item) (around : List (List ℕ)) → ItemKeepsVariables ds d i around → ItemKeepsVariables qs d i around
    item_too d (tree.Single e) around h = h
    item_too d (tree.Constant t) around h = tt
    item_too d (tree.ImpliedDo is x a b c) around h = (do_variable_too ds qs alike x around h.0, items_too d is (x ∷ around) h.1)

    items_too : (d : Direction) (is : Items) (around : List (List ℕ)) → ItemsKeepVariables ds d is around → ItemsKeepVariables qs d is around
    items_too d tree.no_items around h = tt
    items_too d (tree.item i is) around h = (item_too d i around h.0, items_too d is around h.1)

  pub surroundings_too : (c : Statement) (w : Surroundings) → SuitsSurroundings ds c w → SuitsSurroundings qs c w
  surroundings_too (tree.Assignment line mark left right) w h = h
  surroundings_too (tree.Where line mark mask left right) w h = h
  surroundings_too (tree.Do line x a b c body) w h = do_variable_too ds qs alike x w.variables h
  surroundings_too (tree.Read line is) w h = items_too Input is w.variables h
  surroundings_too (tree.Print line is) w h = items_too Output is w.variables h
  surroundings_too (tree.GoTo line n) w h = h
  surroundings_too (tree.If line arms other) w h = tt
  surroundings_too (tree.Label n) w h = tt
  surroundings_too (tree.Stop line) w h = tt
  surroundings_too (tree.Allocate line x es) w h = tt
  surroundings_too (tree.Deallocate line x) w h = tt
