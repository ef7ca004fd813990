-- No last value behind all loops is marked: neither of their variables nor of inductions nor of private scalars.
use Rattle.std.proofs.Common.{◌≡◌, refl, ap₂, ap, sym, ◌∙◌, ℕ, Bool, true, false, cond, Option, Some, None}
use Rattle.std.proofs.Common.{List, [], ◌∷◌, ◌++◌, append_assoc, length, flat_map, map}
use Rattle.emission.specs.emission_marks.Marks.{Marked, Round, Under, marked, marked_in}
use Rattle.tree.specs.Plain.{Block, Expression, Statement, block, no_statements, statement}
use Rattle.last_values.specs.Behind.{stands_behind}
use Rattle.last_values.specs.ValuesBehind.{left_behind, statements_or_none, values_behind}
use Rattle.last_values.specs.Endings.{Texts, after_statements, loop_ending, last_texts, only_where, where_all_hold}
use Rattle.last_values.specs.Endings.{all_hold, assigned, with_last_forms}
use Rattle.last_values.specs.declared.behind.NestedLoop.{NestedLoop}
use Rattle.inductions.specs.Ends as inductions
use Rattle.inductions.specs.Found.{inductions_by, outermost_trip}
use Rattle.inductions.specs.Nests.{endings, inductions_substituted, substituted_by, with_inductions}
use Rattle.inductions.specs.declared.found.Induction.{Induction}
use Rattle.nest.specs.Allocations.{block_then}
use Rattle.nest.specs.Plain.{Nest}
use Rattle.nest.specs.declared.parts.Trip.{Trip}
use Rattle.last_values.specs.normal_forms.LastValues.{have_plain_trips, last_forms}
use Rattle.last_values.specs.normal_forms.LastTexts.{tests_of}
use Rattle.last_values.specs.normal_forms.NormalLoops.{is_known, is_positive}
use Rattle.last_values.specs.normal_forms.Texts.{at_least_one, trip_text}
use Rattle.last_values.specs.declared.normal_forms.last.LastForms.{LastForms}
use Rattle.last_values.specs.declared.normal_forms.loops.NormalLoop.{NormalLoop}
use Rattle.pass_laws.proofs.NormalMeaning.Made.{behind}
use Rattle.pass_laws.specs.normal_runs.Sources.{loops_in}
use Rattle.scalar_expand.specs.Expanded.{has_known_end, last_assignment, last_value, last_values, trip_tests}
use Rattle.scalar_expand.specs.declared.privates.Private.{Private}
use Rattle.translation.proofs.ProgramMarks.Rounds.{marked_after}

-- whatever stands round it
abbrev AreUnmarked : List Statement → Type 0
AreUnmarked cs = (round : List Round) → marked_in round (block cs) ≡ []

joined : (cs ds : List Statement) → AreUnmarked cs → AreUnmarked ds → AreUnmarked (cs ++ ds)
joined cs ds h k round = marked_after round cs ds ∙ ap₂ (λ (xs ys : List Marked). xs ++ ys) (h round) (k round)

joined_all : {A : Type 0} (f : A → List Statement) → ((x : A) → AreUnmarked (f x)) → (xs : List A)
    → AreUnmarked (flat_map f xs)
joined_all f h [] round = refl
joined_all f h (x ∷ xs) round = joined (f x) (flat_map f xs) (h x) (joined_all f h xs) round

ending_is : (line : ℕ) (v : List ℕ) (trip : Trip) (t : Texts) → AreUnmarked (loop_ending line v trip t)
ending_is line v trip t round = by (is_positive trip) (is_known trip)
  where
    by : (b c : Bool)
        → marked_in round (block (cond b (assigned line v t.end ∷ []) (cond c (assigned line v t.first ∷ [])
        (assigned line v t.first ∷ only_where line (at_least_one t.trip) (assigned line v t.end ∷ []) ∷ []))))
        ≡ []
    by true c = refl
    by false true = refl
    by false false = refl

where_is : (line : ℕ) (ts : List Expression) (cs : List Statement) → AreUnmarked cs
    → AreUnmarked (where_all_hold line ts cs)
where_is line [] cs h round = h round
where_is line (t ∷ ts) cs h round =
    ap (λ (xs : List Marked). ((xs ++ []) ++ []) ++ []) (h (round ++ Under (all_hold t ts) ∷ []))

behind_is : (symbols : List (List ℕ)) (line : ℕ) (round : List NormalLoop) (r : NormalLoop)
    → AreUnmarked (statements_or_none (after_statements symbols line round r))
unfolding after_statements
behind_is symbols line round r = by (have_plain_trips round) (last_forms (length symbols) round r)
  where
    by : (b : Bool) (o : Option LastForms)
        → AreUnmarked (statements_or_none (cond b (with_last_forms symbols line round r o) None))
    by true None around = refl
    by true (Some f) around =
        where_is line (tests_of symbols round) (loop_ending line r.variable f.trip (last_texts symbols round f))
        (ending_is line r.variable f.trip (last_texts symbols round f)) around
    by false o around = refl

left_is : (n : Nest) (l : NestedLoop) → AreUnmarked (left_behind n.symbols n.line (loops_in n) n.body l)
left_is n l = by (stands_behind (length n.symbols) (loops_in n) n.body l.turns.variable)
  where
    by : (b : Bool) → AreUnmarked (cond b (statements_or_none (after_statements n.symbols n.line l.round l.turns)) [])
    by true around = behind_is n.symbols n.line l.round l.turns around
    by false around = refl

pub last_values_unmarked : (n : Nest) → marked_in [] (behind n) ≡ []
unfolding values_behind
last_values_unmarked n = joined_all (left_behind n.symbols n.line (loops_in n) n.body) (left_is n) (loops_in n) []

-- ---- of private scalars

private_is : (symbols : List (List ℕ)) (line : ℕ) (p : Private) → AreUnmarked (last_value symbols line p)
private_is symbols line p round = by (has_known_end p)
  where
    by : (b : Bool)
        → marked_in round (block (cond b (where_all_hold line (trip_tests symbols p.loops) (last_assignment symbols line p ∷ [])) []))
        ≡ []
    by true = where_is line (trip_tests symbols p.loops) (last_assignment symbols line p ∷ []) (λ around. refl) round
    by false = refl

privates_are : (symbols : List (List ℕ)) (line : ℕ) (ps : List Private) → AreUnmarked (last_values symbols line ps)
privates_are symbols line [] round = refl
privates_are symbols line (p ∷ ps) round =
    joined (last_value symbols line p) (last_values symbols line ps) (private_is symbols line p)
    (privates_are symbols line ps) round

marked_then : (a b : Block) → marked_in [] (block_then a b) ≡ marked_in [] a ++ marked_in [] b
marked_then no_statements b = refl
marked_then (statement c cs) b =
    ap (λ (more : List Marked). marked [] c ++ more) (marked_then cs b)
    ∙ sym (append_assoc (marked [] c) (marked_in [] cs) (marked_in [] b))

-- ---- of inductions

induction_is : (symbols : List (List ℕ)) (line : ℕ) (t : Trip) (d : Induction)
    → AreUnmarked (inductions.induction_ending symbols line t d ∷ [])
induction_is symbols line t d round = by (is_positive t)
  where
    by : (b : Bool)
        → marked_in round (block (cond b (assigned line d.name (inductions.induction_end_text symbols t d))
        (only_where line (at_least_one (trip_text [] symbols [] t)) (assigned line d.name (inductions.induction_end_text symbols t d) ∷ [])) ∷ []))
        ≡ []
    by true = refl
    by false = refl

inductions_are : (symbols : List (List ℕ)) (line : ℕ) (t : Trip) (ds : List Induction)
    → AreUnmarked (map (inductions.induction_ending symbols line t) ds)
inductions_are symbols line t [] round = refl
inductions_are symbols line t (d ∷ ds) round =
    joined (inductions.induction_ending symbols line t d ∷ []) (map (inductions.induction_ending symbols line t) ds)
    (induction_is symbols line t d) (inductions_are symbols line t ds) round

-- behind what isn't marked
with_unmarked : (n : Nest) (o : List ℕ × Trip) (ds : List Induction) → marked_in [] n.after ≡ []
    → marked_in [] (with_inductions n o ds).after ≡ []
with_unmarked n o [] h = h
with_unmarked n o (d ∷ ds) h =
    marked_then n.after (endings n o.1 (d ∷ ds))
    ∙ ap₂ (λ (xs ys : List Marked). xs ++ ys) h (inductions_are n.symbols n.line o.1 (d ∷ ds) [])

pub substituted_unmarked : (n : Nest) → marked_in [] n.after ≡ [] → marked_in [] (inductions_substituted n).after ≡ []
unfolding inductions_substituted
substituted_unmarked n h = by (outermost_trip n.body)
  where
    by : (o : Option (List ℕ × Trip)) → marked_in [] (substituted_by n o).after ≡ []
    by None = h
    by (Some o) = with_unmarked n o (inductions_by n (Some o)) h

-- behind what isn't marked
pub then_unmarked : (symbols : List (List ℕ)) (line : ℕ) (ps : List Private) (a : Block) → marked_in [] a ≡ []
    → marked_in [] (block_then a (block (last_values symbols line ps))) ≡ []
then_unmarked symbols line ps a h =
    marked_then a (block (last_values symbols line ps))
    ∙ ap₂ (λ (xs ys : List Marked). xs ++ ys) h (privates_are symbols line ps [])
