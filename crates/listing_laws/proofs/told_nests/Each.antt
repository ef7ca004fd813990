-- What holds of each entry of a nest.
use Rattle.std.proofs.Common.{◌≡◌, refl, sym, ap, ◌∙◌, subst, ℕ, suc, Bool, true, false, cond, List, [], ◌∷◌, ◌++◌, map, flat_map}
use Rattle.std.specs.List.{AllByRecursion}
use Rattle.std.proofs.lemmas.List.Concat.{flat_map-append}
use Rattle.dependence_graph.specs.declared.graphs.Cycle.{Cycle}
use Rattle.dependence_graph.specs.declared.graphs.Dropped.{Dropped}
use Rattle.dependence_graph.specs.declared.graphs.Edge.{Edge}
use Rattle.dependence_graph.specs.declared.graphs.Hold.{Hold}
use Rattle.listing.specs.graphs.Lines.{Entry, HoldEntry}
use Rattle.listing.specs.graphs.Listing.{answer_entry, cycle_entry, drop_entry, edge_entry, hold_entries, loop_entries, loop_entries_in}
use Rattle.listing.specs.graphs.Listing.{loop_entries_under, loop_entry, statement_entries, statement_entry}
use Rattle.listing.specs.graphs.Order.{Answered, Found, RuledOut, before, comes_before_edge, entries_in_order, not_before}
use Rattle.listing_laws.proofs.notes.Printable.{joined}
use Rattle.nest.specs.Bodies.{Standing}
use Rattle.nest.specs.Plain.{Branches, Choice, Jump, Label, Loop, Part, Parts, Run, Turns, branch, no_branches, no_parts, part}

-- ---- lists

pub each_of : {A : Type 0} (P : A → Type 0) → ((x : A) → P x) → (xs : List A) → AllByRecursion P xs
each_of P f [] = tt
each_of P f (x ∷ xs) = (f x, each_of P f xs)

pub split : {A : Type 0} (P : A → Type 0) (xs ys : List A) → AllByRecursion P (xs ++ ys) → AllByRecursion P xs × AllByRecursion P ys
split P [] ys h = (tt, h)
split P (x ∷ xs) ys h = let more = split P xs ys h.1 in ((h.0, more.0), more.1)

-- ---- edges and drops in order

-- an edge comes between these drops
pub parted : (e : Edge) (ds : List Dropped) → before e ds ++ not_before e ds ≡ ds
parted e [] = refl
parted e (d ∷ ds) = by (comes_before_edge d e) (parted e ds)
  where
    by : (b : Bool) → before e ds ++ not_before e ds ≡ ds
        → cond b (d ∷ before e ds) [] ++ cond b (not_before e ds) (d ∷ ds) ≡ d ∷ ds
    by true h = ap (λ us. d ∷ us) h
    by false h = refl

pub cut : (P : Dropped → Type 0) (e : Edge) (ds : List Dropped) → AllByRecursion P ds
    → AllByRecursion P (before e ds) × AllByRecursion P (not_before e ds)
cut P e ds h = split P (before e ds) (not_before e ds) (subst (AllByRecursion P) (sym (parted e ds)) h)

-- ---- entries

module _ (P : Entry → Type 0) where
  module _ (one : (outer : ℕ) (l : Loop) → P (loop_entry outer l)) where
    mutual
      pub of_loops : (outer : ℕ) (p : Part) → AllByRecursion P (loop_entries outer p)
      of_loops outer (Run s) = tt
      of_loops outer (Turns l ps) = (one outer l, of_loops_in l.number ps)
      of_loops outer (Choice bs ps) =
          joined P (loop_entries_under outer bs) (loop_entries_in outer ps) (of_loops_under outer bs) (of_loops_in outer ps)
      of_loops outer (Label n) = tt
      of_loops outer (Jump n) = tt

      pub of_loops_in : (outer : ℕ) (ps : Parts) → AllByRecursion P (loop_entries_in outer ps)
      of_loops_in outer no_parts = tt
      of_loops_in outer (part p ps) = joined P (loop_entries outer p) (loop_entries_in outer ps) (of_loops outer p) (of_loops_in outer ps)

      pub of_loops_under : (outer : ℕ) (bs : Branches) → AllByRecursion P (loop_entries_under outer bs)
      of_loops_under outer no_branches = tt
      of_loops_under outer (branch test ps bs) =
          joined P (loop_entries_in outer ps) (loop_entries_under outer bs) (of_loops_in outer ps) (of_loops_under outer bs)

  pub of_statements : ((s : ℕ) (t : Standing) → P (statement_entry s t)) → (s : ℕ) (ts : List Standing) → AllByRecursion P (statement_entries s ts)
  of_statements one s [] = tt
  of_statements one s (t ∷ ts) = (one s t, of_statements one (suc s) ts)

  pub of_holds : ((h : Hold) → P (HoldEntry h)) → (hs : List Hold) → AllByRecursion P (hold_entries hs)
  of_holds one [] = tt
  of_holds one (h ∷ hs) = (one h, of_holds one hs)

  pub of_cycles : ((c : Cycle) → P (cycle_entry c)) → (cs : List Cycle) → AllByRecursion P (map cycle_entry cs)
  of_cycles one [] = tt
  of_cycles one (c ∷ cs) = (one c, of_cycles one cs)

  abbrev HasEntry : Dropped → Type 0
  HasEntry d = P (drop_entry d)

  module _ (ts : List Standing) (one : (e : Edge) → P (edge_entry ts e)) where
    of_drops : (ds : List Dropped) → AllByRecursion HasEntry ds → AllByRecursion P (map (answer_entry ts) (map RuledOut ds))
    of_drops [] h = tt
    of_drops (d ∷ ds) h = (h.0, of_drops ds h.1)

    with_drops : (ds : List Dropped) (rest : List Answered) → AllByRecursion HasEntry ds → AllByRecursion P (map (answer_entry ts) rest)
        → AllByRecursion P (map (answer_entry ts) (map RuledOut ds ++ rest))
    with_drops [] rest h k = k
    with_drops (d ∷ ds) rest h k = (h.0, with_drops ds rest h.1 k)

    pub of_answers : (es : List Edge) (ds : List Dropped) → AllByRecursion HasEntry ds
        → AllByRecursion P (map (answer_entry ts) (entries_in_order es ds))
    of_answers [] ds h = of_drops ds h
    of_answers (e ∷ es) ds h =
        let c = cut HasEntry e ds h in
        with_drops (before e ds) (Found e ∷ entries_in_order es (not_before e ds)) c.0 (one e, of_answers es (not_before e ds) c.1)

-- ---- what is picked of them

module _ {X : Type 0} (pick : Entry → List X) where
  abbrev pub Gives : List Entry → List X → Type 0
  Gives es xs = flat_map pick es ≡ xs

  -- nothing of entries of which each gives nothing
  pub none : (es : List Entry) → AllByRecursion (λ e. pick e ≡ []) es → Gives es []
  none [] h = refl
  none (e ∷ es) h = ap (λ us. us ++ flat_map pick es) h.0 ∙ none es h.1

  pub two : (es fs : List Entry) (xs ys : List X) → Gives es xs → Gives fs ys → Gives (es ++ fs) (xs ++ ys)
  two es fs xs ys h k = flat_map-append pick es fs ∙ (ap (λ us. us ++ flat_map pick fs) h ∙ ap (λ us. xs ++ us) k)
