-- What is told of expressions that were read, and the trees that they make.
use Rattle.std.proofs.Common.{◌≡◌, ℕ, Bool, true, false, cond, List, [], ◌∷◌, ◌++◌, refl, ap, sym, subst, ◌∙◌, append_assoc, Some, None, Result, Ok, Err}
use Rattle.std.specs.Prelude.{is_some}
use Rattle.std.proofs.lemmas.List.{map_push}
use Rattle.tree.specs.declared.exprs.Expr.{Expr}
use Rattle.tree.specs.declared.lists.Memory.{Memory}
use Rattle.tree.specs.Plain as tree
use Rattle.tree.specs.View.{expression_of}
use Rattle.f90_grammar.specs.Phrases as phrases
use Rattle.f90_grammar.specs.Phrases.{Phrase90, SuitsCalls, PartsSuitCalls, tree_of}
use Rattle.f90_expressions.specs.Flat as flats
use Rattle.f90_expressions.specs.Flat.{Node, flat, flat_parts, flat_values, flat_turn}
use Rattle.f90_expressions.specs.Views.{node_seen, nodes_seen}
use Rattle.f90_expressions.specs.Reading.{IsMadeOf}
use Rattle.f90_expressions.specs.declared.nodes.Expression.{Expression}
use Rattle.f90_expressions.specs.declared.nodes.Node as code
use Rattle.f90_trees.specs.Building as building
use Rattle.f90_trees.specs.Building.{held, build_all}
use Rattle.f90_trees.specs.Calls.{check_all}
use Rattle.f90_trees.specs.CallViews.{Tells}
use Rattle.f90_trees.specs.Hiding.{function_in}
use Rattle.f90_trees.specs.Trees.{IsOfPhrase, TellsCallsOf, TellsCallsIn, is_list}
use Rattle.f90_trees.specs.declared.functions.Functions.{Functions}
use Rattle.f90_trees.proofs.BuildingLaws.{makes_tree}
use Rattle.f90_trees.proofs.CallLaws.{good, told, suit, is_good, good_parts, parts_told, suit_parts, are_good}

-- ---- calls

some_cond : {A : Type 0} (b : Bool) (x : A) → is_some (cond b (Some x) None) ≡ b
some_cond true x = refl
some_cond false x = refl

pub calls_told : (r : Result Bool Memory) (e : Expression) (fs : Functions) (p : Phrase90) → Tells r (check_all (function_in fs) (nodes_seen e.nodes) []) → IsMadeOf e p
    → TellsCallsOf r fs p
calls_told (Ok b) e fs p h m =
    let f = function_in fs in
    let k : b ≡ good f p = h ∙ (ap (λ (q : List Node). is_some (check_all f q [])) m.nodes ∙ (ap is_some (told f p) ∙ some_cond (good f p) _)) in
    (λ t. suit f p (sym k ∙ t), λ s. k ∙ is_good f p s)
calls_told (Err x) e fs p h m = tt

-- ---- the last part of a list

abbrev last_of : Phrase90 → Node
last_of (phrases.Literal t) = flats.Digits t
last_of (phrases.Truth b) = flats.Truth b
last_of (phrases.Name x) = flats.Name x
last_of (phrases.Listed x ps) = flats.Listed x
last_of (phrases.Paren p) = flats.Parenthesis
last_of (phrases.Signed s p) = flats.Prefix s
last_of (phrases.Joined o a b) = flats.Infix o
last_of (phrases.Values ps) = flats.Values
last_of (phrases.Looped t) = flats.Looped

abbrev front_of : Phrase90 → List Node
front_of (phrases.Literal t) = []
front_of (phrases.Truth b) = []
front_of (phrases.Name x) = []
front_of (phrases.Listed x ps) = flats.Begin ∷ flat_parts ps
front_of (phrases.Paren p) = flat p
front_of (phrases.Signed s p) = flat p
front_of (phrases.Joined o a b) = flat a ++ flat b
front_of (phrases.Values ps) = flats.Begin ∷ flat_values ps
front_of (phrases.Looped t) = flats.Begin ∷ flat_turn t

cut : (p : Phrase90) → flat p ≡ front_of p ++ last_of p ∷ []
cut (phrases.Literal t) = refl
cut (phrases.Truth b) = refl
cut (phrases.Name x) = refl
cut (phrases.Listed x ps) = refl
cut (phrases.Paren p) = refl
cut (phrases.Signed s p) = refl
cut (phrases.Joined o a b) = sym (append_assoc (flat a) (flat b) (flats.Infix o ∷ []))
cut (phrases.Values ps) = refl
cut (phrases.Looped t) = refl

heads : (a b : Node) (xs ys : List Node) → a ∷ xs ≡ b ∷ ys → (a ≡ b) × (xs ≡ ys)
heads a b xs ys e = (cc, cc)

last_once : (xs ys : List Node) (x y : Node) → xs ++ x ∷ [] ≡ ys ++ y ∷ [] → (xs ≡ ys) × (x ≡ y)
last_once [] [] x y e = (refl, (heads x y [] [] e).0)
last_once [] (z ∷ []) x y e = absurd (cc)
last_once [] (z ∷ (w ∷ ys)) x y e = absurd (cc)
last_once (z ∷ []) [] x y e = absurd (cc)
last_once (z ∷ (w ∷ xs)) [] x y e = absurd (cc)
last_once (z ∷ xs) (w ∷ ys) x y e =
    let h = heads z w (xs ++ x ∷ []) (ys ++ y ∷ []) e in
    let k = last_once xs ys x y h.1 in
    (ap (λ (q : List Node). z ∷ q) k.0 ∙ ap (λ (q : Node). q ∷ ys) h.0, k.1)

parts_of : (e : Expression) (p : Phrase90) (parts : List code.Node) (last : code.Node) → e.nodes ≡ parts ++ last ∷ [] → IsMadeOf e p
    → (nodes_seen parts ≡ front_of p) × (node_seen last ≡ last_of p)
parts_of e p parts last h m =
    last_once (nodes_seen parts) (front_of p) (node_seen last) (last_of p)
    (sym (map_push node_seen parts last) ∙ (sym (ap nodes_seen h) ∙ (m.nodes ∙ cut p)))

clash : {P : Type 0} (b : Bool) → b ≡ true → b ≡ false → P
clash b h k = absurd (cc)

-- ---- what is stored into

told_parts : (r : Result Bool Memory) (fs : Functions) (x : List ℕ) (ps : phrases.ListParts) (ns : List Node) → Tells r (check_all (function_in fs) ns []) → ns ≡ flats.Begin ∷ flat_parts ps
    → TellsCallsIn r fs (phrases.Listed x ps)
told_parts (Ok b) fs x ps ns h e =
    let f = function_in fs in
    let k : b ≡ good_parts f ps = h ∙ (ap (λ (q : List Node). is_some (check_all f q [])) e ∙ (ap is_some (parts_told f ps) ∙ some_cond (good_parts f ps) _)) in
    (λ t. suit_parts f ps (sym k ∙ t), λ s. k ∙ are_good f ps s)
told_parts (Err y) fs x ps ns h e = tt

by_phrase : (r : Result Bool Memory) (fs : Functions) (p : Phrase90) (ns : List Node) → is_list (last_of p) ≡ true → Tells r (check_all (function_in fs) ns []) → ns ≡ front_of p
    → TellsCallsIn r fs p
by_phrase r fs (phrases.Listed x ps) ns l h e = told_parts r fs x ps ns h e
by_phrase r fs p ns l h e = absurd (cc)

pub variable_listed : (r : Result Bool Memory) (e : Expression) (fs : Functions) (p : Phrase90) (parts : List code.Node) (last : code.Node) → e.nodes ≡ parts ++ last ∷ []
    → is_list (node_seen last) ≡ true → Tells r (check_all (function_in fs) (nodes_seen parts) []) → IsMadeOf e p → TellsCallsIn r fs p
variable_listed r e fs p parts last h l t m =
    let k = parts_of e p parts last h m in by_phrase r fs p (nodes_seen parts) (ap is_list (sym k.1) ∙ l) t k.0

no_list : (fs : Functions) (p : Phrase90) → is_list (last_of p) ≡ false → TellsCallsIn (Ok true) fs p
no_list fs (phrases.Listed x ps) l = absurd (cc)
no_list fs p l = (λ h. tt, λ h. refl)

pub variable_other : (e : Expression) (fs : Functions) (p : Phrase90) (parts : List code.Node) (last : code.Node) → e.nodes ≡ parts ++ last ∷ []
    → is_list (node_seen last) ≡ false → IsMadeOf e p → TellsCallsIn (Ok true) fs p
variable_other e fs p parts last h l m = let k = parts_of e p parts last h m in no_list fs p (ap is_list (sym k.1) ∙ l)

not_empty : (ns : List Node) (n : Node) → [] ≡ ns ++ n ∷ [] → ⊥
not_empty [] n e = cc
not_empty (m ∷ ns) n e = cc

pub variable_empty : (e : Expression) (fs : Functions) (p : Phrase90) → e.nodes ≡ [] → IsMadeOf e p → TellsCallsIn (Ok true) fs p
variable_empty e fs p h m = absurd (not_empty (front_of p) (last_of p) (sym (ap nodes_seen h) ∙ (m.nodes ∙ cut p)))

-- ---- trees

made_is : (e : Expression) (fs : Functions) (p : Phrase90) → IsMadeOf e p → build_all (function_in fs) (nodes_seen e.nodes) [] ≡ Some (building.Value (held (tree_of (function_in fs) p)) ∷ [])
made_is e fs p m = ap (λ (q : List Node). build_all (function_in fs) q []) m.nodes ∙ makes_tree (function_in fs) p

pub not_unmade : (e : Expression) (fs : Functions) → IsOfPhrase e → ((x : tree.Expression) → build_all (function_in fs) (nodes_seen e.nodes) [] ≡ Some (building.Value x ∷ []) → ⊥) → ⊥
not_unmade e fs k n = n (held (tree_of (function_in fs) k.phrase)) (made_is e fs k.phrase k.is)

same_value : (x y : tree.Expression) → Some (building.Value x ∷ []) ≡ Some (building.Value y ∷ []) → x ≡ y
same_value x y e = cc

pub tree_made : (e : Expression) (fs : Functions) (x : Expr) (p : Phrase90) → build_all (function_in fs) (nodes_seen e.nodes) [] ≡ Some (building.Value (expression_of x) ∷ [])
    → IsMadeOf e p → expression_of x ≡ held (tree_of (function_in fs) p)
tree_made e fs x p h m = same_value (expression_of x) (held (tree_of (function_in fs) p)) (sym h ∙ made_is e fs p m)

-- ---- the same of slices

pub calls_told_at : (ns : List code.Node) (r : Result Bool Memory) (e : Expression) (fs : Functions) (p : Phrase90) → ns ≡ e.nodes
    → Tells r (check_all (function_in fs) (nodes_seen ns) []) → IsMadeOf e p → TellsCallsOf r fs p
calls_told_at ns r e fs p h t m =
    calls_told r e fs p (subst (λ (q : List code.Node). Tells r (check_all (function_in fs) (nodes_seen q) [])) h t) m

pub listed_at : (ns : List code.Node) (r : Result Bool Memory) (e : Expression) (fs : Functions) (p : Phrase90) (parts : List code.Node) (last : code.Node) → ns ≡ e.nodes
    → ns ≡ parts ++ last ∷ [] → is_list (node_seen last) ≡ true → Tells r (check_all (function_in fs) (nodes_seen parts) []) → IsMadeOf e p → TellsCallsIn r fs p
listed_at ns r e fs p parts last h k l t m = variable_listed r e fs p parts last (sym h ∙ k) l t m

pub other_at : (ns : List code.Node) (e : Expression) (fs : Functions) (p : Phrase90) (parts : List code.Node) (last : code.Node) → ns ≡ e.nodes
    → ns ≡ parts ++ last ∷ [] → is_list (node_seen last) ≡ false → IsMadeOf e p → TellsCallsIn (Ok true) fs p
other_at ns e fs p parts last h k l m = variable_other e fs p parts last (sym h ∙ k) l m

pub empty_at : (ns : List code.Node) (e : Expression) (fs : Functions) (p : Phrase90) → ns ≡ e.nodes → ns ≡ [] → IsMadeOf e p → TellsCallsIn (Ok true) fs p
empty_at ns e fs p h k m = variable_empty e fs p (sym h ∙ k) m

pub unmade_at : (ns : List code.Node) (e : Expression) (fs : Functions) → ns ≡ e.nodes → IsOfPhrase e
    → ((x : tree.Expression) → build_all (function_in fs) (nodes_seen ns) [] ≡ Some (building.Value x ∷ []) → ⊥) → ⊥
unmade_at ns e fs h k n = not_unmade e fs k (λ x q. n x (ap (λ (z : List code.Node). build_all (function_in fs) (nodes_seen z) []) h ∙ q))

pub made_at : (ns : List code.Node) (e : Expression) (fs : Functions) (x : Expr) (p : Phrase90) → ns ≡ e.nodes
    → build_all (function_in fs) (nodes_seen ns) [] ≡ Some (building.Value (expression_of x) ∷ []) → IsMadeOf e p → expression_of x ≡ held (tree_of (function_in fs) p)
made_at ns e fs x p h k m = tree_made e fs x p (ap (λ (z : List code.Node). build_all (function_in fs) (nodes_seen z) []) (sym h) ∙ k) m

pub ruleset slices = (calls_told_at, listed_at, other_at, empty_at, unmade_at, made_at)
