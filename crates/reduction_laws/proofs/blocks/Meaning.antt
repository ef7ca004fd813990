-- The reduced program ends as the program does, with the same output, and with stores that agree on a source.
use Rattle.std.proofs.Common.{◌≡◌, refl, sym, ap, ◌∙◌, subst, ◌⊎◌, inl, inr, ℕ, ℤ, ◌≤◌, arith, Bool, true, false, not, ◌&&◌, ◌||◌, cond, List, [], ◌∷◌, map, Ok, Option, Some, None}
use Rattle.std.specs.Prelude.{All, Contains}
use Rattle.std.specs.List.{AllByRecursion, filter}
use Rattle.std.specs.Str.{bytes_eq}
use Rattle.std.proofs.lemmas.Slice.Eq.{bytes_eq-Decides}
use Rattle.tree.specs.Plain.{Block, Declaration, Given, Later, Program, no_statements}
use Rattle.tree.specs.declared.ops.Kind.TheVariants.{Integer}
use Rattle.meaning.specs.Agreement.{MomentsAgree}
use Rattle.meaning.specs.Array.{array_run}
use Rattle.meaning.specs.Dialect.{fortran90}
use Rattle.meaning.specs.Keeping.{KeepsMeaning}
use Rattle.meaning.specs.Names.{is_among}
use Rattle.meaning.specs.Profile90.{IsProgram90}
use Rattle.meaning.specs.Reads.{names_in_block}
use Rattle.meaning.specs.Run.{State, Way, Going, Jumping, Stopped, Failed, Cut, does_all, opening_state}
use Rattle.meaning.specs.Sequential.{EndsWell, end_of, sequential_run}
use Rattle.tree.specs.declared.width.Width.{Width}
use Rattle.meaning.specs.Store.{Agree, Cell, IsCell, Store, cell_in, names_of, nought, nought_like, opening_bounds, opening_store, opening_value}
use Rattle.meaning.specs.declared.End.TheVariants.{Done}
use Rattle.meaning.proofs.Agreeing.{statements_keep_agreement}
use Rattle.meaning.proofs.Kept.{run_keeps_range}
use Rattle.meaning.proofs.Widths.{widest}
use Rattle.meaning_laws.proofs.profiles.Lists.{all_at, cases_of, here, nowhere, there}
use Rattle.meaning_laws.proofs.profiles.TargetRuns.{opening_store_holds}
use Rattle.nest_order.specs.orders.Lists.{In}
use Rattle.nest_order.specs.runs.Guarded.{variable_cell}
use Rattle.rewrite.specs.Following.{IsSound, MomentsAlike}
use Rattle.reductions.specs.Finding.{context_of, is_source}
use Rattle.reductions.specs.Reduced.{declarations_left, reduced_block, reduced_program, stays}
use Rattle.reduction_laws.specs.blocks.Meaning.{HasSourceNames, ReducedKeepsMeaning}
use Rattle.reduction_laws.specs.blocks.Reduced.{unread_names}
use Rattle.reduction_laws.specs.unread.Unread.{AlikeBut}
use Rattle.reduction_laws.proofs.blocks.Blocks.{passed, reduced_block_follows}
use Rattle.reduction_laws.proofs.blocks.Conditions.{differ, no}
use Rattle.reduction_laws.proofs.blocks.Sameness.{both}

-- ---- declarations that are left

module _ (test : List ℕ → Bool) where
  abbrev those : List Declaration → List Declaration
  those ds = filter (λ (d : Declaration). test d.name) ds

  all_pass : (ds : List Declaration) → AllByRecursion (λ x. test x ≡ true) (map (λ (d : Declaration). d.name) (those ds))
  all_pass [] = tt
  all_pass (d ∷ ds) = by (test d.name) refl (all_pass ds)
    where
      by : (b : Bool) → test d.name ≡ b → AllByRecursion (λ x. test x ≡ true) (map (λ (d : Declaration). d.name) (those ds)) → AllByRecursion (λ x. test x ≡ true) (map (λ (d : Declaration). d.name) (cond b (d ∷ those ds) (those ds)))
      by true e h = (e, h)
      by false e h = h

  pub still_there : (ds : List Declaration) (x : List ℕ) → test x ≡ true → Contains (map (λ (d : Declaration). d.name) ds) x → Contains (map (λ (d : Declaration). d.name) (those ds)) x
  still_there [] x e c = absurd (nowhere x c)
  still_there (d ∷ ds) x e c = by (test d.name) refl (cases_of d.name (map (λ (d : Declaration). d.name) ds) x c) (still_there ds x e)
    where
      by : (b : Bool) → test d.name ≡ b → (d.name ≡ x) ⊎ Contains (map (λ (d : Declaration). d.name) ds) x → (Contains (map (λ (d : Declaration). d.name) ds) x → Contains (map (λ (d : Declaration). d.name) (those ds)) x)
          → Contains (map (λ (d : Declaration). d.name) (cond b (d ∷ those ds) (those ds))) x
      by true f (inl g) more = subst (λ y. Contains (d.name ∷ map (λ (d : Declaration). d.name) (those ds)) y) g (here d.name (map (λ (d : Declaration). d.name) (those ds)))
      by true f (inr g) more = there d.name (map (λ (d : Declaration). d.name) (those ds)) x (more g)
      by false f (inl g) more = absurd (differ (test x) e (ap test (sym g) ∙ f))
      by false f (inr g) more = more g

  -- a name that stays has one and the same declaration
  module _ {A : Type 0} (none : A) (of : Declaration → A) (x : List ℕ) (stay : test x ≡ true) where
    abbrev first_of : List Declaration → A
    first_of [] = none
    first_of (d ∷ ds) = cond (bytes_eq d.name x) (of d) (first_of ds)

    same_first : (ds : List Declaration) → first_of ds ≡ first_of (those ds)
    same_first [] = refl
    same_first (d ∷ ds) = by (test d.name) refl (bytes_eq d.name x) refl (same_first ds)
      where
        by : (b : Bool) → test d.name ≡ b → (c : Bool) → bytes_eq d.name x ≡ c → first_of ds ≡ first_of (those ds) → cond (bytes_eq d.name x) (of d) (first_of ds) ≡ first_of (cond b (d ∷ those ds) (those ds))
        by true e c f h = ap (cond (bytes_eq d.name x) (of d)) h
        by false e true f h = absurd (differ (test x) stay (ap test (sym ((bytes_eq-Decides d.name x).0 f)) ∙ e))
        by false e false f h = ap (λ b. cond b (of d) (first_of ds)) f ∙ h

abbrev bounds_first : Declaration → Option (List (ℤ × ℤ))
bounds_first d = elim d.extent [ Given bs ↦ Some bs | Later n ↦ None ]

bounds_are : (ds : List Declaration) (x : List ℕ) (test : List ℕ → Bool) (e : test x ≡ true) → opening_bounds ds x ≡ first_of test None bounds_first x e ds
bounds_are [] x test e = refl
bounds_are (d ∷ ds) x test e = ap (cond (bytes_eq d.name x) (bounds_first d)) (bounds_are ds x test e)

values_are : (ds : List Declaration) (x : List ℕ) (test : List ℕ → Bool) (e : test x ≡ true) → opening_value ds x ≡ first_of test (nought Integer) (λ (d : Declaration). nought d.kind) x e ds
values_are [] x test e = refl
values_are (d ∷ ds) x test e = ap (cond (bytes_eq d.name x) (nought d.kind)) (values_are ds x test e)

-- ---- runs

sound_end : (w : Way) → end_of w ≡ Some Done → IsSound w
sound_end Going e = tt
sound_end (Jumping n) e = cc
sound_end Stopped e = tt
sound_end (Failed f n) e = cc
sound_end Cut e = cc

source_stays : (old new : Block) (x : List ℕ) → is_source x ≡ true → stays old new x ≡ true
source_stays old new x e = ap (λ b. b || (is_among (names_in_block new) x || not (is_among (names_in_block old) x))) e

module _ (width : Width) (q p : Program) (input : List ℕ) (sources : HasSourceNames q p) (profile : IsProgram90 p) (declared : All (Contains (names_of (reduced_program p))) (names_in_block (reduced_program p).body)) where
  abbrev r : Program
  r = reduced_program p

  abbrev test : List ℕ → Bool
  test = stays p.body r.body

  -- the reduced statements from the store of all declarations
  abbrev between : State
  between = does_all (fortran90 width) None r.body (opening_state p input)

  follows : EndsWell (array_run width p input) → MomentsAlike (AlikeBut (unread_names p)) (array_run width p input) between
  follows e = reduced_block_follows (fortran90 width) p (opening_state p input) (opening_state p input) refl (let narrow = widest width in omega (arith, narrow)) profile (opening_store_holds (fortran90 width) p) (run_keeps_range (fortran90 width) None (record p { body = no_statements }) input)
      (record { store = record { bounds = refl; held = λ c n. refl }; written = refl; input = refl; had_value = refl; way = refl }) (sound_end (array_run width p input).way e)

  staying : (x : List ℕ) → Contains (names_of r) x → test x ≡ true
  staying x c = all_at (λ y. test y ≡ true) (names_of r) x (all_pass test p.declarations) c

  opening_agree : Agree r (opening_store p) (opening_store r)
  opening_agree = record {
    bounds = λ x c. let e = staying x c in bounds_are p.declarations x test e ∙ (same_first test None bounds_first x e p.declarations ∙ sym (bounds_are (those test p.declarations) x test e));
    held = λ c i cell. value c.name (staying c.name i);
    kinds = λ c i. ap nought_like (value c.name (staying c.name i));
  }
    where
      value : (x : List ℕ) → test x ≡ true → opening_value p.declarations x ≡ opening_value r.declarations x
      value x e = values_are p.declarations x test e
          ∙ (same_first test (nought Integer) (λ (d : Declaration). nought d.kind) x e p.declarations ∙ sym (values_are (those test p.declarations) x test e))

  agrees : MomentsAgree r between (array_run width r input)
  agrees = statements_keep_agreement (fortran90 width) None r r.body (opening_state p input) (opening_state r input) declared
      (record { store = opening_agree; written = refl; input = refl; had_value = refl; steps = refl; way = refl })

  there_too : (x : List ℕ) → Contains (names_of q) x → Contains (names_of r) x
  there_too x c = let s = sources x c in still_there test p.declarations x (source_stays p.body r.body x s.0) s.1

  not_own : (c : Cell) → Contains (names_of q) c.name → (x : List ℕ) → In x (unread_names p) → ¬ (c ≡ variable_cell x)
  not_own c i x j e =
      let own = both (not (is_source x)) (not ((context_of p).reads x)) (passed (λ y. not (is_source y) && not ((context_of p).reads y)) x (names_of p) j) in
      differ (is_source x) (ap is_source (sym (ap (λ (d : Cell). d.name) e)) ∙ (sources c.name i).0) (no (is_source x) own.0)

  keeps : KeepsMeaning width q p input → KeepsMeaning width q r input
  keeps k = record {
    ends = λ e. ap end_of (sym agrees.way ∙ sym (follows (k.ends e)).way) ∙ k.ends e;
    output = λ e. k.output e ∙ ((follows (k.ends e)).written ∙ agrees.written);
    store = λ e. store e;
  }
    where
      store : EndsWell (sequential_run width q input) → Agree q (sequential_run width q input).store (array_run width r input).store
      store e =
          let m = follows (k.ends e) in
          let a = k.store e in
          record {
            bounds = λ x c. a.bounds x c ∙ (ap (λ (f : List ℕ → Option (List (ℤ × ℤ))). f x) m.store.bounds ∙ agrees.store.bounds x (there_too x c));
            held = λ c i cell. a.held c i cell ∙ (m.store.held c (not_own c i) ∙ agrees.store.held c (there_too c.name i)
                (ap (λ b. cell_in b c.name c.subscripts) (sym (a.bounds c.name i ∙ ap (λ (f : List ℕ → Option (List (ℤ × ℤ))). f c.name) m.store.bounds)) ∙ cell));
            kinds = λ c i. a.kinds c i ∙ (ap nought_like (m.store.held c (not_own c i)) ∙ agrees.store.kinds c (there_too c.name i));
          }

pub reduced_keeps_meaning : (width : Width) → ReducedKeepsMeaning width
reduced_keeps_meaning width q p input sources profile declared k = keeps width q p input sources profile declared k
