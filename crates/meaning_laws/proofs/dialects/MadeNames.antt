-- A program's run doesn't see declarations of made names.
use Rattle.std.proofs.Common.{◌≡◌, refl, sym, ap, subst, ◌∙◌, ◌⊎◌, inl, inr, ℕ, ℤ, pos, Bool, true, false, cond, Option, Some, None, List, [], ◌∷◌, map, Contains}
use Rattle.std.proofs.lemmas.List.Elements.{All-from_recursion}
use Rattle.std.proofs.lemmas.Slice.Eq.{bytes_eq-Decides}
use Rattle.std.specs.Str.{bytes_eq}
use Rattle.tree.specs.Plain.{Given, Later, Declaration, Program}
use Rattle.tree.specs.declared.ops.Value.{Value}
use Rattle.tree.specs.declared.ops.Value.TheVariants.{Int}
use Rattle.meaning.specs.Agreement.{MomentsAgree}
use Rattle.meaning.specs.Reads.{names_in_block}
use Rattle.meaning.specs.Blocks.{outermost}
use Rattle.meaning.specs.Dialect.{Dialect, fortran90}
use Rattle.tree.specs.declared.width.Width.{Width}
use Rattle.meaning.specs.Profile77.{IsProgram77}
use Rattle.meaning.specs.Run.{State, run, opening_state}
use Rattle.meaning.specs.Store.{Agree, names_of, nought, nought_like, opening_bounds, opening_value, opening_store}
use Rattle.meaning.specs.Typed.{declared}
use Rattle.meaning.proofs.Agreeing.{statements_keep_agreement}
use Rattle.meaning_laws.specs.profiles.Profiles.{AddMadeNames}
use Rattle.meaning_laws.proofs.profiles.Lists.{nowhere, cases_of}
use Rattle.meaning_laws.proofs.profiles.Programs.{kept_declaration}
use Rattle.meaning_laws.specs.dialects.MadeNames.{MadeNamesKeepRun, ArrayRunWithMadeNames}
use Rattle.meaning_laws.proofs.dialects.NamesIn.{block_known}
use Rattle.meaning_laws.proofs.dialects.Runs.{sequential_run_is_array_run}

-- ---- the opening store, by what a name is declared as

abbrev bounds_by : Option Declaration → Option (List (ℤ × ℤ))
bounds_by None = None
bounds_by (Some d) = elim d.extent [ Given bs ↦ Some bs | Later n ↦ None ]

abbrev value_by : Option Declaration → Value
value_by None = Int (pos 0)
value_by (Some d) = nought d.kind

opening_bounds_by : (ds : List Declaration) (x : List ℕ) → opening_bounds ds x ≡ bounds_by (declared ds x)
opening_bounds_by [] x = refl
opening_bounds_by (d ∷ ds) x = by (bytes_eq d.name x) (opening_bounds_by ds x)
  where
    by : (b : Bool) → opening_bounds ds x ≡ bounds_by (declared ds x) → cond b (elim d.extent [ Given bs ↦ Some bs | Later n ↦ None ]) (opening_bounds ds x) ≡ bounds_by (cond b (Some d) (declared ds x))
    by true more = refl
    by false more = more

opening_value_by : (ds : List Declaration) (x : List ℕ) → opening_value ds x ≡ value_by (declared ds x)
opening_value_by [] x = refl
opening_value_by (d ∷ ds) x = by (bytes_eq d.name x) (opening_value_by ds x)
  where
    by : (b : Bool) → opening_value ds x ≡ value_by (declared ds x) → cond b (nought d.kind) (opening_value ds x) ≡ value_by (cond b (Some d) (declared ds x))
    by true more = refl
    by false more = more

-- a name that is declared is found
pub is_declared : (ds : List Declaration) (x : List ℕ) → Contains (map (λ (d : Declaration). d.name) ds) x → (d : Declaration) × (declared ds x ≡ Some d)
is_declared [] x c = absurd (nowhere x c)
is_declared (d ∷ ds) x c = by (bytes_eq d.name x) refl (is_declared ds x) (cases_of d.name (map (λ (d : Declaration). d.name) ds) x c)
  where
    by : (b : Bool) → bytes_eq d.name x ≡ b → (Contains (map (λ (d : Declaration). d.name) ds) x → (e : Declaration) × (declared ds x ≡ Some e)) → (d.name ≡ x) ⊎ Contains (map (λ (d : Declaration). d.name) ds) x
        → (e : Declaration) × (cond b (Some d) (declared ds x) ≡ Some e)
    by true q more k = (d, refl)
    by false q more (inl e) = absurd (let yes = (bytes_eq-Decides d.name x).1 e in cc)
    by false q more (inr k) = more k

module _ (p : Program) (es : List Declaration) (add : AddMadeNames p.declarations es) where
  abbrev q : Program
  q = record p { declarations = es }

  one_declaration : (x : List ℕ) → Contains (names_of p) x → declared p.declarations x ≡ declared es x
  one_declaration x c = let d = is_declared p.declarations x c in d.1 ∙ sym (kept_declaration p.declarations es add x d.0 d.1)

  one_bound : (x : List ℕ) → Contains (names_of p) x → opening_bounds p.declarations x ≡ opening_bounds es x
  one_bound x c = opening_bounds_by p.declarations x ∙ (ap bounds_by (one_declaration x c) ∙ sym (opening_bounds_by es x))

  one_value : (x : List ℕ) → Contains (names_of p) x → opening_value p.declarations x ≡ opening_value es x
  one_value x c = opening_value_by p.declarations x ∙ (ap value_by (one_declaration x c) ∙ sym (opening_value_by es x))

  pub opening_agrees : Agree p (opening_store p) (opening_store q)
  opening_agrees = record {
    bounds = one_bound;
    held = λ c n i. one_value c.name n;
    kinds = λ c n. ap nought_like (one_value c.name n);
  }

  made_names : (lang own : Dialect) (limit : Option ℕ) (input : List ℕ) → IsProgram77 own p → MomentsAgree p (run lang limit p input) (run lang limit q input)
  made_names lang own limit input h = statements_keep_agreement lang limit p p.body (opening_state p input) (opening_state q input)
      (All-from_recursion (Contains (names_of p)) (names_in_block p.body) (block_known p.declarations p.body outermost h.statements))
      (record { store = opening_agrees; written = refl; input = refl; had_value = refl; steps = refl; way = refl })

pub made_names_keep_run : MadeNamesKeepRun
made_names_keep_run lang own limit p es input h add = made_names p es add lang own limit input h

pub array_run_with_made_names : (width : Width) → ArrayRunWithMadeNames width
array_run_with_made_names width own p es input h add =
    subst (λ (s : State). MomentsAgree p s (run (fortran90 width) None (record p { declarations = es }) input)) (sym (sequential_run_is_array_run width own p input h)) (made_names p es add (fortran90 width) own None input h)
