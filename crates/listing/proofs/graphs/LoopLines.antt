-- The lines of the loops of each kind of part.
use Rattle.std.proofs.Common.{◌≡◌, ℕ, ◌+◌, ◌<◌, List, [], ◌∷◌, ◌++◌, map, take, length, get_or, refl, sym, ap, ◌∙◌, append_assoc, add-one}
use Rattle.std.proofs.Math.Seq.{take-suc}
use Rattle.std.proofs.lemmas.Grind.{flat_map-append}
use Rattle.std.proofs.lemmas.List.{append-nil, map-append}
use Rattle.std.specs.List.{flat_map}
use Rattle.tree.specs.declared.lists.Seq.{Seq}
use Rattle.nest.specs.declared.parts.Loop.{Loop}
use Rattle.nest.specs.declared.parts.GuardedStmt.{GuardedStmt}
use Rattle.nest.specs.declared.parts.Part.{Part}
use Rattle.nest.specs.declared.parts.Part.TheVariants as variants
use Rattle.nest.specs.declared.parts.NestArm.{NestArm, out-NestArm}
use Rattle.nest.specs.Plain as P
use Rattle.nest.specs.View.{Branch, branch_of, branches, loop_of, part_of}
use Rattle.nest.proofs.Equations.{part_of-run, part_of-turns, part_of-choice, part_of-label, part_of-jump, branch_of-is}
use Rattle.listing.specs.graphs.Lines.{Entry}
use Rattle.listing.specs.graphs.Listing.{lines_of_entry, lines_of_entries, loop_entry, loop_entries, loop_entries_in, loop_entries_of}
use Rattle.listing.specs.graphs.Listing.{loop_entries_under}

abbrev lines_of : ℕ → P.Part → List (List ℕ)
lines_of outer p = lines_of_entries (loop_entries outer p)

abbrev lines_of_branch : ℕ → Branch → List (List ℕ)
lines_of_branch outer b = lines_of_entries (loop_entries_of outer b)

pub entries-append : (es fs : List Entry) → lines_of_entries (es ++ fs) ≡ lines_of_entries es ++ lines_of_entries fs
entries-append es fs = flat_map-append lines_of_entry es fs

each_part : (outer : ℕ) (ps : List P.Part) → lines_of_entries (loop_entries_in outer (P.parts ps)) ≡ flat_map (lines_of outer) ps
each_part outer [] = refl
each_part outer (p ∷ ps) =
    entries-append (loop_entries outer p) (loop_entries_in outer (P.parts ps)) ∙ ap (λ us. lines_of outer p ++ us) (each_part outer ps)

each_branch : (outer : ℕ) (bs : List Branch) → lines_of_entries (loop_entries_under outer (branches bs)) ≡ flat_map (lines_of_branch outer) bs
each_branch outer [] = refl
each_branch outer (b ∷ bs) =
    entries-append (loop_entries_in outer b.body) (loop_entries_under outer (branches bs))
    ∙ ap (λ us. lines_of_branch outer b ++ us) (each_branch outer bs)

pub loops-run : (outer : ℕ) (s : GuardedStmt) → lines_of outer (part_of (variants.Run s)) ≡ []
loops-run outer s = ap (lines_of outer) (part_of-run s)

pub loops-turns : (outer : ℕ) (l : Loop) (ps : Seq Part) → lines_of outer (part_of (variants.Turns l ps))
    ≡ lines_of_entry (loop_entry outer (loop_of l)) ++ flat_map (lines_of l.number) (map part_of ps)
loops-turns outer l ps =
    ap (lines_of outer) (part_of-turns l ps) ∙ ap (λ us. lines_of_entry (loop_entry outer (loop_of l)) ++ us) (each_part l.number (map part_of ps))

pub loops-choice : (outer : ℕ) (bs : Seq NestArm) (ps : Seq Part) → lines_of outer (part_of (variants.Choice bs ps))
    ≡ flat_map (lines_of_branch outer) (map branch_of bs) ++ flat_map (lines_of outer) (map part_of ps)
loops-choice outer bs ps =
    ap (lines_of outer) (part_of-choice bs ps)
    ∙ entries-append (loop_entries_under outer (branches (map branch_of bs))) (loop_entries_in outer (P.parts (map part_of ps)))
    ∙ ap (λ us. us ++ lines_of_entries (loop_entries_in outer (P.parts (map part_of ps)))) (each_branch outer (map branch_of bs))
    ∙ ap (λ us. flat_map (lines_of_branch outer) (map branch_of bs) ++ us) (each_part outer (map part_of ps))

pub loops-label : (outer n : ℕ) → lines_of outer (part_of (variants.Label n)) ≡ []
loops-label outer n = ap (lines_of outer) (part_of-label n)

pub loops-jump : (outer n : ℕ) → lines_of outer (part_of (variants.Jump n)) ≡ []
loops-jump outer n = ap (lines_of outer) (part_of-jump n)

pub loops-arm : (outer : ℕ) (a : NestArm) → lines_of_branch outer (branch_of a) ≡ flat_map (lines_of outer) (map part_of (out-NestArm a).body)
loops-arm outer a = ap (lines_of_branch outer) (branch_of-is a) ∙ each_part outer (map part_of (out-NestArm a).body)

pub ruleset loop_laws = (loops-run, loops-turns, loops-choice, loops-label, loops-jump, loops-arm, append_assoc, append-nil)

-- ---- one more item of a list

pub one_more : {A : Type 0} (xs : List A) (i : ℕ) (x : A) → i < length xs → x ≡ get_or xs i x → take (i + 1) xs ≡ take i xs ++ x ∷ []
one_more xs i x h e = ap (λ n. take n xs) (add-one i) ∙ take-suc xs i x h ∙ ap (λ y. take i xs ++ y ∷ []) (sym e)

flat_more : {A B C : Type 0} (f : B → List C) (view : A → B) (list : List A) (i : ℕ) (x : A) → i < length list → x ≡ get_or list i x
    → flat_map f (map view (take (i + 1) list)) ≡ flat_map f (map view (take i list)) ++ f (view x)
flat_more f view list i x h e =
    ap (λ xs. flat_map f (map view xs)) (one_more list i x h e)
    ∙ ap (flat_map f) (map-append view (take i list) (x ∷ []))
    ∙ flat_map-append f (map view (take i list)) (view x ∷ [])
    ∙ ap (λ us. flat_map f (map view (take i list)) ++ us) (append-nil (f (view x)))

-- whose lines are added
pub more : {A B C : Type 0} (f : B → List C) (view : A → B) (list : List A) (i : ℕ) (x : A) (first old new : List C)
    → i < length list → x ≡ get_or list i x → old ≡ first ++ flat_map f (map view (take i list)) → new ≡ old ++ f (view x)
    → new ≡ first ++ flat_map f (map view (take (i + 1) list))
more f view list i x first old new h e before now =
    now ∙ ap (λ us. us ++ f (view x)) before ∙ append_assoc first (flat_map f (map view (take i list))) (f (view x))
    ∙ ap (λ us. first ++ us) (sym (flat_more f view list i x h e))
