-- The stacks that the code holds.
use Rattle.std.proofs.Common.{◌≡◌, List, [], ◌∷◌, ◌++◌, map, ap, ◌∙◌, sym, refl, Option, Some}
use Rattle.std.specs.Prelude.{reverse}
use Rattle.std.proofs.lemmas.List.{map_push, reverse-append}
use Rattle.tree.specs.declared.exprs.Expr.{Expr}
use Rattle.tree.specs.declared.exprs.Sub.{Sub}
use Rattle.tree.specs.Plain.{Expression, Subscript}
use Rattle.tree.specs.View.{expression_of, subscript_of}
use Rattle.f90_trees.specs.declared.building.Entry as built
use Rattle.f90_trees.specs.declared.calls.Entry as checked
use Rattle.f90_trees.specs.declared.building.Entry.TheVariants as built_entries
use Rattle.f90_trees.specs.declared.calls.Entry.TheVariants as checked_entries
use Rattle.f90_trees.specs.declared.calls.Shape.{Shape}
use Rattle.f90_trees.specs.Building as building
use Rattle.f90_trees.specs.Calls as calls
use Rattle.f90_trees.specs.Views as views
use Rattle.f90_trees.specs.CallViews as call_views

reverse_push : {A B : Type 0} (f : A → B) (xs : List A) (x : A) → reverse (map f (xs ++ x ∷ [])) ≡ f x ∷ reverse (map f xs)
reverse_push {A} {B} f xs x = ap (reverse {A = B}) (map_push f xs x) ∙ reverse-append (map f xs) (f x ∷ [])

pub stack_push : (entries : List built.Entry) (e : built.Entry) → views.stack (entries ++ e ∷ []) ≡ views.entry_seen e ∷ views.stack entries
stack_push entries e = reverse_push views.entry_seen entries e

pub parts_push : (subs : List Sub) (s : Sub) → views.parts_seen (subs ++ s ∷ []) ≡ subscript_of s ∷ views.parts_seen subs
parts_push subs s = reverse_push subscript_of subs s

pub values_push : (exprs : List Expr) (e : Expr) → views.values_seen (exprs ++ e ∷ []) ≡ expression_of e ∷ views.values_seen exprs
values_push exprs e = reverse_push expression_of exprs e

pub calls_push : (entries : List checked.Entry) (e : checked.Entry) → call_views.stack (entries ++ e ∷ []) ≡ call_views.entry_seen e ∷ call_views.stack entries
calls_push entries e = reverse_push call_views.entry_seen entries e

map_reverse : {A B : Type 0} (f : A → B) (xs : List A) → map f (reverse xs) ≡ reverse (map f xs)
map_reverse f [] = refl
map_reverse {A} {B} f (x ∷ xs) =
    ap (map f) (reverse-append (x ∷ []) xs)
    ∙ (map_push f (reverse xs) x
    ∙ (ap (λ (q : List B). q ++ f x ∷ []) (map_reverse f xs) ∙ sym (reverse-append (f x ∷ []) (map f xs))))

pub subs_reversed : (subs : List Sub) → map subscript_of (reverse subs) ≡ views.parts_seen subs
subs_reversed subs = map_reverse subscript_of subs

pub exprs_reversed : (exprs : List Expr) → map expression_of (reverse exprs) ≡ views.values_seen exprs
exprs_reversed exprs = map_reverse expression_of exprs

pub shapes_push : (parts : List (Option Shape)) (s : Option Shape) → call_views.parts_seen (parts ++ s ∷ []) ≡ call_views.part_seen s ∷ call_views.parts_seen parts
shapes_push parts s = reverse_push call_views.part_seen parts s

pub shapes_reversed : (parts : List (Option Shape)) → map call_views.part_seen (reverse parts) ≡ call_views.parts_seen parts
shapes_reversed parts = map_reverse call_views.part_seen parts

-- ---- what was popped, while parts are taken

pub stack_popped : (old new : List built.Entry) (e : built.Entry) → old ≡ new ++ e ∷ [] → views.stack old ≡ views.entry_seen e ∷ views.stack new
stack_popped old new e h = ap views.stack h ∙ stack_push new e

pub calls_popped : (old new : List checked.Entry) (e : checked.Entry) → old ≡ new ++ e ∷ [] → call_views.stack old ≡ call_views.entry_seen e ∷ call_views.stack new
calls_popped old new e h = ap call_views.stack h ∙ calls_push new e

pub part_taken : (all : Option building.Parts) (old new : List built.Entry) (s : Sub) (subs more : List Sub) → all ≡ building.parts_above (views.stack old) (views.parts_seen subs)
    → old ≡ new ++ built_entries.Part s ∷ [] → more ≡ subs ++ s ∷ [] → all ≡ building.parts_above (views.stack new) (views.parts_seen more)
part_taken all old new s subs more h e f =
    h ∙ (ap (λ (q : List building.Entry). building.parts_above q (views.parts_seen subs)) (stack_popped old new (built_entries.Part s) e)
    ∙ ap (λ (q : List Subscript). building.parts_above (views.stack new) q) (sym (ap views.parts_seen f ∙ parts_push subs s)))

pub value_taken : (all : Option building.Values) (old new : List built.Entry) (s : Expr) (exprs more : List Expr) → all ≡ building.values_above (views.stack old) (views.values_seen exprs)
    → old ≡ new ++ built_entries.Value s ∷ [] → more ≡ exprs ++ s ∷ [] → all ≡ building.values_above (views.stack new) (views.values_seen more)
value_taken all old new s exprs more h e f =
    h ∙ (ap (λ (q : List building.Entry). building.values_above q (views.values_seen exprs)) (stack_popped old new (built_entries.Value s) e)
    ∙ ap (λ (q : List Expression). building.values_above (views.stack new) q) (sym (ap views.values_seen f ∙ values_push exprs s)))

pub parts_whole : (all : Option building.Parts) (old new : List built.Entry) (subs whole : List Sub) → all ≡ building.parts_above (views.stack old) (views.parts_seen subs)
    → old ≡ new ++ built_entries.Mark ∷ [] → whole ≡ reverse subs → all ≡ Some (record { parts = map subscript_of whole; under = views.stack new })
parts_whole all old new subs whole h e f =
    h ∙ (ap (λ (q : List building.Entry). building.parts_above q (views.parts_seen subs)) (stack_popped old new built_entries.Mark e)
    ∙ ap (λ (q : List Subscript). let r : Option building.Parts = Some (record { parts = q; under = views.stack new }) in r) (sym (ap (map subscript_of) f ∙ subs_reversed subs)))

pub values_whole : (all : Option building.Values) (old new : List built.Entry) (exprs whole : List Expr) → all ≡ building.values_above (views.stack old) (views.values_seen exprs)
    → old ≡ new ++ built_entries.Mark ∷ [] → whole ≡ reverse exprs → all ≡ Some (record { values = map expression_of whole; under = views.stack new })
values_whole all old new exprs whole h e f =
    h ∙ (ap (λ (q : List building.Entry). building.values_above q (views.values_seen exprs)) (stack_popped old new built_entries.Mark e)
    ∙ ap (λ (q : List Expression). let r : Option building.Values = Some (record { values = q; under = views.stack new }) in r) (sym (ap (map expression_of) f ∙ exprs_reversed exprs)))

pub shape_taken : (all : Option calls.Parts) (old new : List checked.Entry) (s : Option Shape) (parts more : List (Option Shape)) → all ≡ calls.parts_above (call_views.stack old) (call_views.parts_seen parts)
    → old ≡ new ++ checked_entries.Part s ∷ [] → more ≡ parts ++ s ∷ [] → all ≡ calls.parts_above (call_views.stack new) (call_views.parts_seen more)
shape_taken all old new s parts more h e f =
    h ∙ (ap (λ (q : List calls.Entry). calls.parts_above q (call_views.parts_seen parts)) (calls_popped old new (checked_entries.Part s) e)
    ∙ ap (λ (q : List (Option calls.Shape)). calls.parts_above (call_views.stack new) q) (sym (ap call_views.parts_seen f ∙ shapes_push parts s)))

pub shapes_whole : (all : Option calls.Parts) (old new : List checked.Entry) (parts whole : List (Option Shape)) → all ≡ calls.parts_above (call_views.stack old) (call_views.parts_seen parts)
    → old ≡ new ++ checked_entries.Mark ∷ [] → whole ≡ reverse parts → all ≡ Some (record { parts = map call_views.part_seen whole; under = call_views.stack new })
shapes_whole all old new parts whole h e f =
    h ∙ (ap (λ (q : List calls.Entry). calls.parts_above q (call_views.parts_seen parts)) (calls_popped old new checked_entries.Mark e)
    ∙ ap (λ (q : List (Option calls.Shape)). let r : Option calls.Parts = Some (record { parts = q; under = call_views.stack new }) in r) (sym (ap (map call_views.part_seen) f ∙ shapes_reversed parts)))

pub ruleset stacks = (stack_push, parts_push, values_push, calls_push, shapes_push, subs_reversed, exprs_reversed, shapes_reversed, stack_popped, calls_popped, part_taken, value_taken, parts_whole, values_whole, shape_taken, shapes_whole)
