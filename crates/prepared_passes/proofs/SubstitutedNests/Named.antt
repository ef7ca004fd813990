-- Inductions of a prepared nest have names of the source; each is written in the nest, and none is a symbol, or stands in
-- a trip.
use Rattle.std.proofs.Common.{◌≡◌, ◌⊎◌, inl, inr, sym, ◌∙◌, subst, ℕ, ◌+◌, Bool, true, false, List, [], ◌∷◌, ◌++◌, Some}
use Rattle.std.specs.List.{AllByRecursion}
use Rattle.std.specs.Option.{IsSomeAnd}
use Rattle.tree.specs.Names.{IsSourceName}
use Rattle.tree.specs.Plain.{Declaration}
use Rattle.meaning.specs.Names.{is_among}
use Rattle.meaning.specs.Reads.{names_in}
use Rattle.meaning.specs.Typed.{declared}
use Rattle.nest.specs.Bodies.{Standing, loops_in_parts, loops_of, nest_loops, nest_statements}
use Rattle.nest.specs.Plain.{Choice, Jump, Label, Loop, Nest, Part, Parts, Run, Turns, no_parts, part}
use Rattle.nest.specs.declared.parts.Trip.{Trip}
use Rattle.nest_order.proofs.orders.Lists.{In-append}
use Rattle.nest_order.proofs.orders.Membership.{In-map, map-In}
use Rattle.nest_order.specs.orders.Lists.{In}
use Rattle.nest_steps.specs.Mapped.{count_of}
use Rattle.pass_laws.specs.normal_facts.Laws.{IsCounter}
use Rattle.pass_laws.specs.prepared_nests.Loops.{variables_of_loops}
use Rattle.pass_laws.specs.prepared_nests.Nests.{IsPrepared}
use Rattle.symbols_anew.specs.Found.{names_assigned}
use Rattle.inductions.specs.Found.{inductions_by, inductions_of}
use Rattle.inductions.specs.Nests.{induction_names}
use Rattle.inductions.specs.Together.{FitIn, Fits, Is, is_own}
use Rattle.inductions.specs.declared.found.Induction.{Induction}
use Rattle.inductions.proofs.Listed.{got_in, in_found, written}
use Rattle.prepared_passes.proofs.SubstitutedNests.Grown as grown
use Rattle.prepared_passes.proofs.SubstitutedNests.Kept.{inductions_are, trip, turns}
use Rattle.prepared_passes.proofs.SubstitutedNests.Once.{once_found}
use Rattle.prepared_passes.specs.symbols.Sources.{IsOfSource}
use Rattle.tree.specs.Widths.{bits_of}
use Rattle.tree.specs.declared.width.Width.{Width}

module _ (width : Width) (es : List Declaration) (around : List (List ℕ)) (deepest : ℕ) (n : Nest) (h : IsPrepared es around deepest n) (source : IsOfSource es n) where
  abbrev l : Loop
  l = (turns es around deepest n h source).loop

  abbrev ps : Parts
  ps = (turns es around deepest n h source).parts

  abbrev t : Trip
  t = (trip es around deepest n h source).trip

  body : n.body ≡ Turns (turns es around deepest n h source).loop (turns es around deepest n h source).parts
  body = (turns es around deepest n h source).is

  abbrev ds : List Induction
  ds = inductions_by n (Some ((turns es around deepest n h source).loop.variable, (trip es around deepest n h source).trip))

  among : (d : Induction) → In d (inductions_of n) → In d ds
  among d i = subst (λ (xs : List Induction). In d xs) (inductions_are es around deepest n h source) i

  own : (d : Induction) → In d ds → is_own ds d.name ≡ true
  own d i = in_found ds d i

  pub source_name : (d : Induction) → In d (inductions_of n) → IsSourceName d.name
  source_name d i = grown.source_name es around deepest n l ps t h source body d (among d i)

  pub declared_so : (d : Induction) → In d (inductions_of n) → IsSomeAnd (declared es d.name) IsCounter
  declared_so d i = grown.declared_so es around deepest n l ps t h source body d (among d i)

  pub no_symbol : (d : Induction) → In d (inductions_of n) → ¬ In d.name n.symbols
  no_symbol d i j =
      let yes = own d (among d i) in
      let no = grown.symbol_not_own es around deepest n l ps t h source body d.name j in
      let bad : true ≡ false = sym yes ∙ no in
      let none : ⊥ = cc in
      none

  pub is_written : (d : Induction) → In d (inductions_of n) → In d.name (names_assigned n)
  is_written d i =
      let w = written (bits_of width) n.symbols t (nest_statements n) d (grown.is_listed es around deepest n l ps t h source body d (among d i)).found in
      subst (λ x. In x (names_assigned n)) w.name
      (map-In (λ (s : Standing). s.statement.left.name) w.standing (nest_statements n) (got_in (nest_statements n) d.place w.standing w.there))

  -- ---- trips

  abbrev C : List ℕ → Type 0
  C x = is_own ds x ≡ false

  mutual
    part_last : (counters kept : List ℕ → Bool) (ls : List Loop) (k : ℕ) (p : Part) → Fits (bits_of width) l.variable counters kept ds ls k p → (o : Loop) → In o (loops_of p) → AllByRecursion C (names_in o.last)
    part_last counters kept ls k (Run g) f o i = absurd i
    part_last counters kept ls k (Turns q qs) f o (inl e) = subst (λ (x : Loop). AllByRecursion C (names_in x.last)) (sym e) f.0.last
    part_last counters kept ls k (Turns q qs) f o (inr i) = parts_last counters kept (ls ++ q ∷ []) k qs f.2 o i
    part_last counters kept ls k (Choice bs qs) f o i = absurd f
    part_last counters kept ls k (Label j) f o i = absurd f
    part_last counters kept ls k (Jump j) f o i = absurd f

    parts_last : (counters kept : List ℕ → Bool) (ls : List Loop) (k : ℕ) (qs : Parts) → FitIn (bits_of width) l.variable counters kept ds ls k qs → (o : Loop) → In o (loops_in_parts qs) → AllByRecursion C (names_in o.last)
    parts_last counters kept ls k no_parts f o i = absurd i
    parts_last counters kept ls k (part q qs) f o i =
        by (In-append o (loops_of q) (loops_in_parts qs) i) (λ j. part_last counters kept ls k q f.0 o j) (λ j. parts_last counters kept ls (k + count_of q) qs f.1 o j)
      where
        by : In o (loops_of q) ⊎ In o (loops_in_parts qs) → (In o (loops_of q) → AllByRecursion C (names_in o.last)) → (In o (loops_in_parts qs) → AllByRecursion C (names_in o.last))
            → AllByRecursion C (names_in o.last)
        by (inl j) g h = g j
        by (inr j) g h = h j

  every_name : (P : List ℕ → Type 0) (xs : List (List ℕ)) → AllByRecursion P xs → (x : List ℕ) → In x xs → P x
  every_name P [] f x i = absurd i
  every_name P (y ∷ xs) f x (inl e) = subst P (sym e) f.0
  every_name P (y ∷ xs) f x (inr i) = every_name P xs f.1 x i

  pub in_no_trip : (d : Induction) → In d (inductions_of n) → (o : Loop) → In o (nest_loops n) → ¬ In d.name (names_in o.last)
  in_no_trip d i o j k =
      let is : Is ds d = once_found n.symbols t (nest_statements n) n.declarations source.ordered d (among d i) in
      let grow = grown.all_grow es around deepest n l ps t h source body (bits_of width) d is in
      let yes = own d (among d i) in
      let no = every_name C (names_in o.last) (by grow.counts.last (λ q. parts_last (λ x. is_among (variables_of_loops (nest_loops n)) x) (λ x. is_among n.symbols x) (l ∷ []) 0 ps grow.fit o q) (subst (λ (b : Part). In o (loops_of b)) body j)) d.name k in
      let bad : true ≡ false = sym yes ∙ no in
      let none : ⊥ = cc in
      none
    where
      by : AllByRecursion C (names_in l.last) → (In o (loops_in_parts ps) → AllByRecursion C (names_in o.last)) → In o (loops_of (Turns l ps)) → AllByRecursion C (names_in o.last)
      by first rest (inl e) = subst (λ (x : Loop). AllByRecursion C (names_in x.last)) (sym e) first
      by first rest (inr q) = rest q

  pub named_by : (y : List ℕ) → In y (induction_names (inductions_of n)) → (d : Induction) × In d (inductions_of n) × (y ≡ d.name)
  named_by y i = let o = In-map (λ (d : Induction). d.name) y (inductions_of n) i in (o.it, o.inside, o.is)
