-- ALLOCATE and DEALLOCATE.
use Rattle.std.proofs.Common.{◌≡◌, refl, sym, ap, ◌∙◌, subst, ℕ, ℤ, List, drop, Result, Ok, Err, Option, Some, None, IfSome}
use Rattle.std.specs.Option.{option_map, IsSomeAnd}
use Rattle.tree.specs.OperationFaults.{kind_of}
use Rattle.tree.specs.Plain.{Declaration, Program, Expressions, Later, Allocate, no_statements, statement}
use Rattle.tree.specs.declared.ops.Kind.{Kind}
use Rattle.tree.specs.declared.ops.Kind.TheVariants.{Integer, Logical}
use Rattle.tree.specs.declared.ops.Value.{Value}
use Rattle.tree.specs.declared.ops.Value.TheVariants.{Int, Truth}
use Rattle.tree.specs.declared.ops.Fault.{Fault}
use Rattle.meaning.specs.ArrayStatements.{allocated_bounds, free}
use Rattle.meaning.specs.Dialect.{fortran90}
use Rattle.tree.specs.declared.width.Width.{Width}
use Rattle.meaning.specs.Holding.{IsStorable}
use Rattle.meaning.specs.Profile90.{IsAllocation}
use Rattle.meaning.specs.Store.{Store, stored_bounds, allocated, with_bounds, nought, nought_like}
use Rattle.meaning.specs.Texts.{without_cr}
use Rattle.meaning.specs.Typed.{declared, number_of_arguments}
use Rattle.meaning.specs.Run.{State, Act, Going, does, allocates, deallocates}
use Rattle.machine.specs.declared.progress.Halt.TheVariants.{Fault as Fault'}
use Rattle.machine.specs.declared.progress.Progress.{Progress}
use Rattle.machine.specs.Acts.{Runs}
use Rattle.machine.specs.Moments.{Seen, CountsStep, located}
use Rattle.machine.proofs.ActLaws.{at_same, begun, steady, Runs-counts_step, Runs-fault}
use Rattle.machine.proofs.BlockLaws.{Extends-does_all}
use Rattle.array_values.specs.Counts.{ranges_in}
use Rattle.array_values.specs.declared.storage.slots.Slot.{Slot}
use Rattle.array_values.specs.storage.Slots.{kind_among, held_among, store_among}
use Rattle.array_values.specs.storage.Opening.{KindsAreDeclared}
use Rattle.array_values.specs.storage.Allocation.{HoldsKind, Allocates, Deallocates}
use Rattle.array_values.specs.storage.Bounds.{from_one}
use Rattle.array_values.specs.declared.failure.Failure.{Failure}
use Rattle.array_values.specs.declared.failure.Failure.TheVariants as failure
use Rattle.machine.specs.declared.progress.Halt.{Halt}
use Rattle.array_values.proofs.storage.PlaceLaws.{store-held}
use Rattle.array_expressions.specs.declared.assignments.causes.Stuck.{Stuck}
use Rattle.array_expressions.specs.declared.assignments.causes.Stuck.TheVariants as stuck
use Rattle.array_expressions.specs.assignments.Causes.{at_line, AnswersAt, left_by}
use Rattle.array_expressions.proofs.assignments.Lacking.{Runs-lacking}
use Rattle.run90.specs.Suiting.{Suits}
use Rattle.run90.proofs.Keeping.{step_same}

-- ---- acts on the store

Runs-changes : (act : Act) (f : Store → Store) → ((s : State) → s.way ≡ Going → act s ≡ record s { store = f s.store }) → (input : List ℕ) (old new : Seen) (now : Option (List ℕ))
    → new.names ≡ old.names → new.store ≡ f old.store → new.progress ≡ old.progress → Runs (λ limit. act) input old now new now (Ok tt)
unfolding Runs
Runs-changes act f at input old new now a b e names limit base s d t = (
  at_same names limit input base new now (Ok tt) (at s d.way_is)
      (record {
        stands = record {
          names_are = a ∙ d.names_are;
          store = ap f d.store ∙ sym b;
          input_left = d.input_left ∙ ap (λ (p : Progress). without_cr (drop p.at input)) (sym e);
          had_value = d.had_value ∙ ap (λ (p : Progress). p.had_value) (sym e);
          steps = ap (λ (p : Progress). p.left) e ∙ d.steps;
          way_is = d.way_is;
        };
        taken = t;
      }),
  steady act limit s (ap (λ (t : State). t.steps) (at s d.way_is)),
)

pub Runs-allocates : (x : List ℕ) (bs : List (ℤ × ℤ)) (input : List ℕ) (old new : Seen) (now : Option (List ℕ)) → new.names ≡ old.names → new.store ≡ allocated x bs old.store → new.progress ≡ old.progress
    → Runs (λ limit. allocates x bs) input old now new now (Ok tt)
unfolding allocates
Runs-allocates x bs input old new now a b e = Runs-changes (allocates x bs) (allocated x bs) (λ s w. begun (λ s. record s { store = allocated x bs s.store }) s w) input old new now a b e

pub Runs-deallocates : (x : List ℕ) (input : List ℕ) (old new : Seen) (now : Option (List ℕ)) → new.names ≡ old.names → new.store ≡ with_bounds x None old.store → new.progress ≡ old.progress
    → Runs (λ limit. deallocates x) input old now new now (Ok tt)
unfolding deallocates
Runs-deallocates x input old new now a b e = Runs-changes (deallocates x) (with_bounds x None) (λ s w. begun (λ s. record s { store = with_bounds x None s.store }) s w) input old new now a b e

-- ---- an ALLOCATE that isn't done

pub allocate_stuck : (width : Width) (line : ℕ) (x : List ℕ) (es : Expressions) (input : List ℕ) (old mid : Seen) (now : Option (List ℕ)) (e : Stuck) → CountsStep old mid (Ok tt)
    → AnswersAt line (λ (bs : List (ℤ × ℤ)). bs) (allocated_bounds (fortran90 width) x es mid.store) (Err e) → Runs (λ limit. does (fortran90 width) limit (Allocate line x es)) input old now mid now (Err (left_by e))
allocate_stuck width line x es input old mid now (stuck.Halted h) c a =
    Runs-counts_step (fortran90 width) _ input old mid mid now now _ c (Runs-fault line (allocated_bounds (fortran90 width) x es) h (λ bs limit. allocates x bs) input mid now a)
allocate_stuck width line x es input old mid now stuck.Memory c a =
    let same = step_same old mid c in
    Runs-lacking (λ limit. does (fortran90 width) limit (Allocate line x es)) input old mid now (Extends-does_all (fortran90 width) (statement (Allocate line x es) no_statements)) same.0 same.1

-- bounds are listed, or there was no memory
pub unlisted : (line : ℕ) (bs : List (ℤ × ℤ)) (e : Stuck) (q : Result (List (ℤ × ℤ)) Fault) → AnswersAt line ranges_in (Ok bs) (Err e) → AnswersAt line (λ (bs : List (ℤ × ℤ)). bs) q (Err e)
unlisted line bs (stuck.Halted h) q a = cc
unlisted line bs stuck.Memory q a = tt

-- what the machine's storage answers
module _ (line : ℕ) (x : List ℕ) (old new : List Slot) where
  pub refused : (k : Kind) (ns : List ℤ) (r : Result (Unit {0}) Failure) (e : Stuck) → Err e ≡ at_line line r → Allocates k x ns old new r → AnswersAt line (λ (bs : List (ℤ × ℤ)). bs) (free ((store_among old).bounds x) ns) (Err e) × (new ≡ old)
  refused k ns (Ok u) e g h = cc
  refused k ns (Err (failure.Fault f)) e g h = (let same : stuck.Halted (Fault' f line) ≡ e = cc in subst (λ e. AnswersAt line (λ (bs : List (ℤ × ℤ)). bs) (free ((store_among old).bounds x) ns) (Err e)) same (sym (ap (located line) h.0)), h.1)
  refused k ns (Err failure.Memory) e g h = (let same : stuck.Memory ≡ e = cc in subst (λ e. AnswersAt line (λ (bs : List (ℤ × ℤ)). bs) (free ((store_among old).bounds x) ns) (Err e)) same tt, h.0)

  pub granted : (k : Kind) (ns : List ℤ) (r : Result (Unit {0}) Failure) (u : Unit {0}) → Ok u ≡ at_line line r → Allocates k x ns old new r
      → (free ((store_among old).bounds x) ns ≡ Ok (from_one ns)) × (HoldsKind k x old → store_among new ≡ allocated x (from_one ns) (store_among old))
  granted k ns (Ok u) v g h = h
  granted k ns (Err (failure.Fault f)) v g h = cc
  granted k ns (Err failure.Memory) v g h = cc

  pub not_there : (r : Result (Unit {0}) Fault) (h : Halt) → Err h ≡ located line r → Deallocates x old new r → (Err h ≡ located line (stored_bounds x (store_among old))) × (new ≡ old)
  not_there (Ok u) h g d = cc
  not_there (Err f) h g d = (
    let same : Fault' f line ≡ h = cc in subst (λ (h : Halt). Err h ≡ located line (stored_bounds x (store_among old))) same (sym (ap (located line) d.0)),
    d.1,
  )

  pub gone : (r : Result (Unit {0}) Fault) (u : Unit {0}) → Ok u ≡ located line r → Deallocates x old new r → ((bs : List (ℤ × ℤ)) × (stored_bounds x (store_among old) ≡ Ok bs)) × (store_among new ≡ with_bounds x None (store_among old))
  gone (Ok v) u g d = d
  gone (Err f) u g d = cc

-- ---- an array of the program

like_kind : (v : Value) (k : Kind) → kind_of v ≡ k → nought_like v ≡ nought k
like_kind (Int z) Integer e = refl
like_kind (Int z) Logical e = absurd cc
like_kind (Truth b) Integer e = absurd cc
like_kind (Truth b) Logical e = refl

pub array_kind : (width : Width) (p : Program) (ds : List Declaration) (vs : List Slot) (m : Seen) (x : List ℕ) (es : Expressions) → KindsAreDeclared ds vs → ds ≡ m.names → store_among vs ≡ m.store → Suits width p m → IsAllocation p.declarations x es
    → (k : Kind) × (kind_among vs x ≡ Some k) × HoldsKind k x vs
array_kind width p ds vs m x es kinds n st s h = by (declared p.declarations x) refl h.0
  where
    by : (o : Option Declaration) → declared p.declarations x ≡ o → IsSomeAnd o (λ (d : Declaration). d.extent ≡ Later (number_of_arguments es)) → (k : Kind) × (kind_among vs x ≡ Some k) × HoldsKind k x vs
    by None e g = absurd g
    by (Some d) e g = (
      d.kind,
      kinds x ∙ ap (λ (ds : List Declaration). option_map (λ (d : Declaration). d.kind) (declared ds x)) (n ∙ s.names) ∙ ap (option_map (λ (d : Declaration). d.kind)) e,
      λ is.
          let v = held_among vs x is in
          let q = subst (λ o. IfSome o (λ (c : Declaration). IsStorable (fortran90 width) c.kind (m.store.held (record { name = x; subscripts = is })))) e (s.holds.kinds (record { name = x; subscripts = is })) in
          like_kind v d.kind (ap kind_of (sym (store-held vs (record { name = x; subscripts = is })) ∙ ap (λ (t : Store). t.held (record { name = x; subscripts = is })) st) ∙ q.kind),
    )
