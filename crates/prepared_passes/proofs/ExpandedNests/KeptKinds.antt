-- What the run of a prepared nest leaves in a cell is of the kind that the cell's name is declared with.
use Rattle.std.proofs.Common.{◌≡◌, sym, ap, ◌∙◌, subst, inl, inr, ℕ, ◌≤◌, ◌^◌, ℤ, false, List, [], ◌∷◌, Result, Ok, Err, Option, Some, None, IfSome, arith}
use Rattle.std.proofs.Common.{refl}
use Rattle.std.specs.Prelude.{nat_abs}
use Rattle.tree.specs.Steps.{◌>>=◌}
use Rattle.tree.specs.OperationFaults.{kind_of}
use Rattle.tree.specs.Plain.{Declaration, Program}
use Rattle.tree.specs.declared.ops.Fault.{Fault}
use Rattle.tree.specs.declared.ops.Kind.{Kind}
use Rattle.tree.specs.declared.ops.Value.{Value}
use Rattle.tree.specs.declared.ops.Value.TheVariants.{Int, Truth}
use Rattle.emission.specs.graph_orders.Nests.{run_nest}
use Rattle.meaning.specs.Blocks.{Surroundings}
use Rattle.meaning.specs.Dialect.{fortran77}
use Rattle.tree.specs.declared.width.Width.{Width}
use Rattle.meaning.specs.Holding.{HoldsProgram, IsStorable}
use Rattle.meaning.specs.Run.{State, does_all}
use Rattle.meaning.specs.Store.{Cell, Store, nought, nought_like, put}
use Rattle.meaning.specs.Typed.{declared}
use Rattle.meaning_laws.proofs.profiles.TargetRuns.{statements_keep_stores}
use Rattle.meaning_laws.specs.arrays.Instances.{after}
use Rattle.nest.specs.Plain.{Nest}
use Rattle.nest_order.proofs.facts.Facts.{facts_suffice}
use Rattle.nest_order.proofs.orders.Theorems.{in_sequence}
use Rattle.nest_order.proofs.runs.Holding.{instance_inside}
use Rattle.nest_order.proofs.runs.Results.{ok_same}
use Rattle.nest_order.specs.orders.Lists.{In}
use Rattle.nest_order.specs.orders.Nests.{IsInstance}
use Rattle.nest_order.specs.orders.Orders.{and_then, runs}
use Rattle.nest_order.specs.orders.Shapes.{Instance, instances}
use Rattle.nest_order.specs.runs.Guarded.{sequential}
use Rattle.nest_order.specs.runs.Nests.{acts, effect_of}
use Rattle.nest_order.specs.runs.Nests as nests
use Rattle.nest_order.specs.runs.Stores.{HoldsNest, IsNestIn, Setting}
use Rattle.nest_order.specs.runs.Touched.{nth_of}
use Rattle.pass_laws.proofs.PreparedNests.Facts.{facts}
use Rattle.pass_laws.specs.prepared_nests.After.{CountsNone}
use Rattle.pass_laws.specs.prepared_nests.Nests.{IsPrepared}
use Rattle.pass_laws.proofs.PreparedRuns.Counters.{no_variable}
use Rattle.pass_laws.proofs.PreparedRuns.Instances.{run_of_prepared_nest}
use Rattle.pass_laws.proofs.PreparedRuns.Together.{setting_holds}
use Rattle.pass_laws.specs.prepared_runs.Running.{IsRunOfInstances, MayRun, loops_then_after}
use Rattle.rewrite.specs.Following.{IsSound}
use Rattle.tree.specs.Widths.{bits_of}
use Rattle.meaning.proofs.Widths.{narrowest}

-- ---- instances

module _ (bits : ℕ) (n : nests.RunNest) (w : Setting) (ok : IsNestIn bits n w) where
  abbrev IsIt : Instance → Type 0
  IsIt x = IsInstance n.loops_of (n.turns_of w.values) n.shape x

  step_inside : (x : Instance) → IsIt x → (s t : Store) → HoldsNest bits n w s → acts n (sequential bits) x s ≡ Ok t
      → HoldsNest bits n w t
  step_inside x is s t h e = by (effect_of n (sequential bits) x s) refl e
    where
      by : (r : Result (Option (Cell × Value)) Fault) → effect_of n (sequential bits) x s ≡ r
          → ◌≡◌ {A = Result Store Fault} (do v ← r; Ok (after v s)) (Ok t) → HoldsNest bits n w t
      by (Err f) g k = cc
      by (Ok None) g k = subst (HoldsNest bits n w) (ok_same {F = Fault} s t k) h
      by (Ok (Some (c, v))) g k =
          subst (HoldsNest bits n w) (ok_same {F = Fault} (put c v s) t k) (instance_inside bits n w ok x is s c v h g)

  all_inside : (xs : List Instance) → ((x : Instance) → In x xs → IsIt x) → (s t : Store) → HoldsNest bits n w s
      → runs (acts n (sequential bits)) xs s ≡ Ok t → HoldsNest bits n w t
  all_inside [] are s t h e = subst (HoldsNest bits n w) (ok_same {F = Fault} s t e) h
  all_inside (x ∷ xs) are s t h e =
      by (acts n (sequential bits) x s) refl e (λ u i f. all_inside xs (λ y j. are y (inr j)) u t i f)
    where
      by : (r : Result Store Fault) → acts n (sequential bits) x s ≡ r
          → and_then r (runs (acts n (sequential bits)) xs) ≡ Ok t
          → ((u : Store) → HoldsNest bits n w u → runs (acts n (sequential bits)) xs u ≡ Ok t → HoldsNest bits n w t)
          → HoldsNest bits n w t
      by (Ok u) g k more = more u (step_inside x (are x (inl refl)) s u h g) k
      by (Err f) g k more = cc

-- ---- the run of a nest

same_int : (x y : ℤ) → ◌≡◌ {A = Value} (Int x) (Int y) → x ≡ y
same_int x y e = cc

module _ (width : Width) (q : Program) (around : List (List ℕ)) (deepest : ℕ) (m : Nest) (s : State)
    (h : IsPrepared q.declarations around deepest m) (may : MayRun width q m s)
    (sound : IsSound (does_all (fortran77 width) None (loops_then_after m) s).way) where
  run : IsRunOfInstances width m s
  run = run_of_prepared_nest width q around deepest m s h may sound

  abbrev setting : Setting
  setting = record { program = q; bounds = s.store.bounds; values = run.values }

  small : (k : ℕ) (x : List ℕ) → nth_of m.symbols k ≡ Some x → nat_abs (run.values k) ≤ 2 ^ 63
  small k x e =
      subst (λ z. nat_abs z ≤ 2 ^ 63) (same_int (may.values k) (run.values k) (sym (may.valued k x e) ∙ run.valued k x e))
      ((setting_holds width q around deepest m s h may).values k x e)

  in_setting : IsNestIn (bits_of width) (run_nest m) setting
  in_setting =
      facts_suffice (bits_of width) (run_nest m) setting (facts around deepest m setting h may.holds.bounds small (bits_of width) (narrowest width))

  held : HoldsNest (bits_of width) (run_nest m) setting s.store
  held = record { program = may.holds; bounds = λ x. refl; symbols = run.valued }

  abbrev all : List Instance
  all = instances ((run_nest m).turns_of run.values) (run_nest m).shape []

  each_is : (x : Instance) → In x all
      → IsInstance (run_nest m).loops_of ((run_nest m).turns_of run.values) (run_nest m).shape x
  each_is x i =
      ((in_sequence (run_nest m).loops_of ((run_nest m).turns_of run.values) (run_nest m).shape in_setting.text.nest []).each x).0 i

  left_holds : HoldsNest (bits_of width) (run_nest m) setting run.left
  left_holds = all_inside (bits_of width) (run_nest m) setting in_setting all each_is s.store run.left held run.one_by_one

  abbrev place : Surroundings
  place = record { variables = around; ahead = [] }

  end_holds : HoldsProgram (fortran77 width) q (does_all (fortran77 width) None m.after (record s { store = run.left })).store
  end_holds =
      statements_keep_stores (fortran77 width) None q m.after place (record s { store = run.left })
      (h.parts.after.profile place refl) left_holds.program

  pub run_keeps_kinds : (c : Cell) → CountsNone c.name
      → IfSome (declared q.declarations c.name)
      (λ (d : Declaration). IsStorable (fortran77 width) d.kind ((does_all (fortran77 width) None (loops_then_after m) s).store.held c))
  run_keeps_kinds c none =
      subst (λ (v : Value). IfSome (declared q.declarations c.name) (λ (d : Declaration). IsStorable (fortran77 width) d.kind v))
      ((run.near false).near.held c (no_variable q.declarations around deepest m h c none)) (end_holds.kinds c)

-- ---- values of one kind

kind_nought : (v : Value) → nought_like v ≡ nought (kind_of v)
kind_nought (Int z) = refl
kind_nought (Truth t) = refl

pub one_kind : (k : Kind) (v w : Value) → kind_of v ≡ k → kind_of w ≡ k → nought_like v ≡ nought_like w
one_kind k v w e f = kind_nought v ∙ (ap nought (e ∙ sym f) ∙ sym (kind_nought w))
