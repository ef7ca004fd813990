-- The statements of each kind of part.
use Rattle.std.proofs.Common.{◌≡◌, ℕ, ◌+◌, ◌<◌, ◌≤◌, Bool, true, false, ◌||◌, List, [], ◌∷◌, ◌++◌, map, take, length, get_or, refl, sym, ap, ◌∙◌, append_assoc, add-one}
use Rattle.std.proofs.Math.Seq.{take-suc}
use Rattle.std.proofs.lemmas.Grind.{flat_map-append}
use Rattle.std.proofs.lemmas.List.{append-nil, map-append, take_all}
use Rattle.std.proofs.lemmas.List.Folds.{list_any_at, list_any_more}
use Rattle.std.specs.List.{flat_map, list_any}
use Rattle.tree.specs.declared.lists.Seq.{Seq}
use Rattle.nest.specs.declared.parts.Loop.{Loop}
use Rattle.nest.specs.declared.parts.GuardedStmt.{GuardedStmt}
use Rattle.nest.specs.declared.parts.Part.{Part}
use Rattle.nest.specs.declared.parts.Part.TheVariants as variants
use Rattle.nest.specs.declared.parts.NestArm.{NestArm, out-NestArm}
use Rattle.nest.specs.Bodies.{statements_in, statements_in_parts, statements_in_branches}
use Rattle.nest.specs.Plain as P
use Rattle.nest.specs.View.{Branch, branch_of, branches, guarded_of, loop_of, part_of}
use Rattle.nest.specs.statement_loops.Standings.{statements_in_branch}
use Rattle.nest.proofs.Equations.{part_of-run, part_of-turns, part_of-choice, part_of-label, part_of-jump, branch_of-is}

each_part : (ls : List P.Loop) (ps : List P.Part) → statements_in_parts ls (P.parts ps) ≡ flat_map (statements_in ls) ps
each_part ls [] = refl
each_part ls (p ∷ ps) = ap (λ ss. statements_in ls p ++ ss) (each_part ls ps)

each_branch : (ls : List P.Loop) (bs : List Branch) → statements_in_branches ls (branches bs) ≡ flat_map (statements_in_branch ls) bs
each_branch ls [] = refl
each_branch ls (b ∷ bs) = ap (λ ss. statements_in_parts ls b.body ++ ss) (each_branch ls bs)

pub standing-run : (ls : List P.Loop) (s : GuardedStmt) → statements_in ls (part_of (variants.Run s)) ≡ record { loops = ls; statement = guarded_of s } ∷ []
standing-run ls s = ap (statements_in ls) (part_of-run s)

pub standing-turns : (ls : List P.Loop) (l : Loop) (ps : Seq Part) → statements_in ls (part_of (variants.Turns l ps)) ≡ flat_map (statements_in (ls ++ loop_of l ∷ [])) (map part_of ps)
standing-turns ls l ps = ap (statements_in ls) (part_of-turns l ps) ∙ each_part (ls ++ loop_of l ∷ []) (map part_of ps)

pub standing-choice : (ls : List P.Loop) (bs : Seq NestArm) (ps : Seq Part) → statements_in ls (part_of (variants.Choice bs ps))
    ≡ flat_map (statements_in_branch ls) (map branch_of bs) ++ flat_map (statements_in ls) (map part_of ps)
standing-choice ls bs ps =
    ap (statements_in ls) (part_of-choice bs ps) ∙ ap (λ ss. ss ++ statements_in_parts ls (P.parts (map part_of ps))) (each_branch ls (map branch_of bs))
    ∙ ap (λ ss. flat_map (statements_in_branch ls) (map branch_of bs) ++ ss) (each_part ls (map part_of ps))

pub standing-label : (ls : List P.Loop) (n : ℕ) → statements_in ls (part_of (variants.Label n)) ≡ []
standing-label ls n = ap (statements_in ls) (part_of-label n)

pub standing-jump : (ls : List P.Loop) (n : ℕ) → statements_in ls (part_of (variants.Jump n)) ≡ []
standing-jump ls n = ap (statements_in ls) (part_of-jump n)

pub standing-arm : (ls : List P.Loop) (a : NestArm) → statements_in_branch ls (branch_of a) ≡ flat_map (statements_in ls) (map part_of (out-NestArm a).body)
standing-arm ls a = ap (statements_in_branch ls) (branch_of-is a) ∙ each_part ls (map part_of (out-NestArm a).body)

pub ruleset standing_laws = (standing-run, standing-turns, standing-choice, standing-label, standing-jump, standing-arm, append_assoc, append-nil)

-- ---- one more item of a list

pub one_more : {A : Type 0} (xs : List A) (i : ℕ) (x : A) → i < length xs → x ≡ get_or xs i x → take (i + 1) xs ≡ take i xs ++ x ∷ []
one_more xs i x h e = ap (λ n. take n xs) (add-one i) ∙ take-suc xs i x h ∙ ap (λ y. take i xs ++ y ∷ []) (sym e)

flat_more : {A B C : Type 0} (f : B → List C) (view : A → B) (list : List A) (i : ℕ) (x : A) → i < length list → x ≡ get_or list i x
    → flat_map f (map view (take (i + 1) list)) ≡ flat_map f (map view (take i list)) ++ f (view x)
flat_more f view list i x h e =
    ap (λ xs. flat_map f (map view xs)) (one_more list i x h e)
    ∙ ap (flat_map f) (map-append view (take i list) (x ∷ []))
    ∙ flat_map-append f (map view (take i list)) (view x ∷ [])
    ∙ ap (λ us. flat_map f (map view (take i list)) ++ us) (append-nil (f (view x)))

-- whose parts are added
pub more : {A B C : Type 0} (f : B → List C) (view : A → B) (list : List A) (i : ℕ) (x : A) (first old new : List C)
    → i < length list → x ≡ get_or list i x → old ≡ first ++ flat_map f (map view (take i list)) → new ≡ old ++ f (view x)
    → new ≡ first ++ flat_map f (map view (take (i + 1) list))
more f view list i x first old new h e before now =
    now ∙ ap (λ us. us ++ f (view x)) before ∙ append_assoc first (flat_map f (map view (take i list))) (f (view x))
    ∙ ap (λ us. first ++ us) (sym (flat_more f view list i x h e))

-- that is looked for
any_map : {A B : Type 0} (p : B → Bool) (view : A → B) (xs : List A) → list_any p (map view xs) ≡ list_any (λ x. p (view x)) xs
any_map p view [] = refl
any_map p view (x ∷ xs) = ap (λ b. p (view x) || b) (any_map p view xs)

pub found_at : {A B : Type 0} (p : B → Bool) (view : A → B) (list : List A) (i : ℕ) (x : A)
    → i < length list → x ≡ get_or list i x → p (view x) ≡ true → list_any p (map view list) ≡ true
found_at p view list i x h e t = any_map p view list ∙ list_any_at (λ y. p (view y)) list i x h (ap (λ y. p (view y)) (sym e) ∙ t)

pub none_more : {A B : Type 0} (p : B → Bool) (view : A → B) (list : List A) (i : ℕ) (x : A)
    → i < length list → x ≡ get_or list i x → list_any p (map view (take i list)) ≡ false → p (view x) ≡ false
    → list_any p (map view (take (i + 1) list)) ≡ false
none_more p view list i x h e before now =
    any_map p view (take (i + 1) list) ∙ list_any_more (λ y. p (view y)) list i x h
    ∙ ap (λ b. b || p (view (get_or list i x))) (sym (any_map p view (take i list)) ∙ before)
    ∙ ap (λ y. p (view y)) (sym e) ∙ now

-- what a search answers, where one of a list passes and where none does
pub finds : {A B : Type 0} (p : B → Bool) (view : A → B) (list all : List A) (i : ℕ) (x : A) (r : Bool)
    → list ≡ all → i < length list → x ≡ get_or list i x → r ≡ p (view x) → r ≡ true → true ≡ list_any p (map view all)
finds p view list all i x r same h e is t = sym (ap (λ l. list_any p (map view l)) (sym same) ∙ found_at p view list i x h e (sym is ∙ t))

pub finds_none : {A B : Type 0} (p : B → Bool) (view : A → B) (list all : List A) (i : ℕ)
    → list ≡ all → length list ≤ i → list_any p (map view (take i list)) ≡ false → false ≡ list_any p (map view all)
finds_none p view list all i same h none =
    sym (ap (λ l. list_any p (map view l)) (sym same) ∙ ap (λ l. list_any p (map view l)) (sym (take_all i list h)) ∙ none)
