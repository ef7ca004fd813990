-- The last values behind all loops are assignments, and IFs with one arm in which such stand.
use Rattle.std.proofs.Common.{Bool, true, false, cond, ℕ, List, [], ◌∷◌, ◌++◌, Option, Some, None}
use Rattle.std.specs.Prelude.{length}
use Rattle.std.specs.List.{flat_map}
use Rattle.tree.specs.Plain.{Expression, Statement, block}
use Rattle.last_values.specs.Behind.{stands_behind}
use Rattle.last_values.specs.ValuesBehind.{left_behind, statements_or_none, values_behind}
use Rattle.last_values.specs.Endings.{Texts, after_statements, assigned, loop_ending, last_texts, only_where, where_all_hold}
use Rattle.last_values.specs.Endings.{with_last_forms}
use Rattle.last_values.specs.declared.behind.NestedLoop.{NestedLoop}
use Rattle.last_values.specs.declared.normal_forms.last.LastForms.{LastForms}
use Rattle.last_values.specs.declared.normal_forms.loops.NormalLoop.{NormalLoop}
use Rattle.last_values.specs.normal_forms.LastTexts.{tests_of}
use Rattle.last_values.specs.normal_forms.LastValues.{have_plain_trips, last_forms}
use Rattle.last_values.specs.normal_forms.NormalLoops.{is_known, is_positive}
use Rattle.last_values.specs.normal_forms.Texts.{at_least_one}
use Rattle.nest.specs.Plain.{Nest}
use Rattle.nest.specs.declared.parts.Trip.{Trip}
use Rattle.pass_laws.specs.normal_runs.Sources.{loops_in}
use Rattle.pass_laws.specs.prepared_nests.After.{AreEndings}

joined : (cs ds : List Statement) → AreEndings (block cs) → AreEndings (block ds) → AreEndings (block (cs ++ ds))
joined [] ds h k = k
joined (c ∷ cs) ds h k = (h.0, joined cs ds h.1 k)

joined_all : {A : Type 0} (f : A → List Statement) → ((x : A) → AreEndings (block (f x))) → (xs : List A) → AreEndings (block (flat_map f xs))
joined_all f h [] = tt
joined_all f h (x ∷ xs) = joined (f x) (flat_map f xs) (h x) (joined_all f h xs)

ending_is : (line : ℕ) (v : List ℕ) (trip : Trip) (t : Texts) → AreEndings (block (loop_ending line v trip t))
ending_is line v trip t = by (is_positive trip) (is_known trip)
  where
    by : (b c : Bool) → AreEndings (block (cond b (assigned line v t.end ∷ []) (cond c (assigned line v t.first ∷ [])
        (assigned line v t.first ∷ only_where line (at_least_one t.trip) (assigned line v t.end ∷ []) ∷ []))))
    by true c = (tt, tt)
    by false true = (tt, tt)
    by false false = (tt, ((((tt, tt), tt), tt), tt))

where_is : (line : ℕ) (ts : List Expression) (cs : List Statement) → AreEndings (block cs) → AreEndings (block (where_all_hold line ts cs))
where_is line [] cs h = h
where_is line (t ∷ ts) cs h = (((h, tt), tt), tt)

behind_is : (symbols : List (List ℕ)) (line : ℕ) (round : List NormalLoop) (r : NormalLoop) → AreEndings (block (statements_or_none (after_statements symbols line round r)))
unfolding after_statements
behind_is symbols line round r = by (have_plain_trips round) (last_forms (length symbols) round r)
  where
    by : (b : Bool) (o : Option LastForms) → AreEndings (block (statements_or_none (cond b (with_last_forms symbols line round r o) None)))
    by true None = tt
    by true (Some f) = where_is line (tests_of symbols round) (loop_ending line r.variable f.trip (last_texts symbols round f)) (ending_is line r.variable f.trip (last_texts symbols round f))
    by false o = tt

left_is : (n : Nest) (l : NestedLoop) → AreEndings (block (left_behind n.symbols n.line (loops_in n) n.body l))
left_is n l = by (stands_behind (length n.symbols) (loops_in n) n.body l.turns.variable)
  where
    by : (b : Bool) → AreEndings (block (cond b (statements_or_none (after_statements n.symbols n.line l.round l.turns)) []))
    by true = behind_is n.symbols n.line l.round l.turns
    by false = tt

pub last_values_end : (n : Nest) → AreEndings (values_behind n.symbols n.line (loops_in n) n.body)
unfolding values_behind
last_values_end n = joined_all (left_behind n.symbols n.line (loops_in n) n.body) (left_is n) (loops_in n)
