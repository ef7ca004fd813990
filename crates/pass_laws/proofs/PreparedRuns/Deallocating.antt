-- DEALLOCATE for each made array, one after the other.
use Rattle.std.proofs.Common.{◌≡◌, ◌⊎◌, inl, inr, refl, sym, ap, ◌∙◌, subst, ℕ, ◌+◌, ℤ, Bool, cond, List, [], ◌∷◌, ◌++◌}
use Rattle.std.proofs.Common.{Option, Some, None, Ok, Contains}
use Rattle.std.specs.Option.{IsSomeAnd}
use Rattle.components.specs.Lists as lists
use Rattle.meaning.specs.Dialect.{fortran90}
use Rattle.tree.specs.declared.width.Width.{Width}
use Rattle.meaning.specs.Run.{Going, State, Way, counts_step, deallocates, does, does_all, evaluates, while_going}
use Rattle.meaning.specs.Store.{Store, bounds_in, stored_bounds, with_bounds}
use Rattle.meaning_laws.proofs.profiles.Lists.{cases_of, here, nowhere, there}
use Rattle.nest.specs.Allocations.{deallocation_then, deallocations}
use Rattle.nest.specs.Plain.{Made}
use Rattle.pass_laws.specs.prepared_nests.Made.{AreBoundsBy}
use Rattle.pass_laws.proofs.PreparedRuns.Allocating.{arrays_of, equal, names_of, no_array, unequal}
use Rattle.pass_laws.specs.prepared_runs.Allocations.{IsSameBut, name_of_array}
use Rattle.tree.specs.Plain.{Deallocate, Expression}

deallocate_does : (width : Width) (line : ℕ) (x : List ℕ) (t : State) (bs : List (ℤ × ℤ)) → t.way ≡ Going
    → stored_bounds x t.store ≡ Ok bs
    → does (fortran90 width) None (Deallocate line x) t
    ≡ record t { store = with_bounds x None t.store; steps = t.steps + 1; way = Going }
unfolding while_going evaluates counts_step deallocates
deallocate_does width line x t bs w e = rw (w, e) refl

module _ (width : Width) (symbols : List (List ℕ)) (v : ℕ → ℤ) (line : ℕ) where
  abbrev pub IsThere : Store → List ℕ → List Expression → Type 0
  IsThere s x es = IsSomeAnd (s.bounds x) (AreBoundsBy symbols v es)

  pub record Went (ms : List Made) (t u : State) : Type 0 where
    pub going : u.way ≡ Going
    pub rest : u ≡ record t { store = u.store; steps = u.steps }
    pub others : IsSameBut (arrays_of ms) t.store u.store
    pub free : (x : List ℕ) → Contains (arrays_of ms) x → u.store.bounds x ≡ None

  record WentWith (x : List ℕ) (es : List Expression) (ms : List Made) (t u : State) : Type 0 where
    going : u.way ≡ Going
    rest : u ≡ record t { store = u.store; steps = u.steps }
    others : IsSameBut (name_of_array x es ++ arrays_of ms) t.store u.store
    free : (y : List ℕ) → Contains (name_of_array x es ++ arrays_of ms) y → u.store.bounds y ≡ None

  bounds_there : (o : Option (List (ℤ × ℤ))) (es : List Expression) → IsSomeAnd o (AreBoundsBy symbols v es)
      → (bs : List (ℤ × ℤ)) × (bounds_in o ≡ Ok bs)
  bounds_there None es h = absurd h
  bounds_there (Some bs) es h = (bs, refl)

  remain : (ms : List Made) (s u : Store) (x : List ℕ) → lists.Each (λ y. ¬ (x ≡ y)) (names_of ms)
      → ((y : List ℕ) → ¬ (x ≡ y) → u.bounds y ≡ s.bounds y)
      → lists.Each (λ (a : Made). IsThere s a.name a.extents) ms
      → lists.Each (λ (a : Made). IsThere u a.name a.extents) ms
  remain [] s u x apart same h = tt
  remain (a ∷ ms) s u x apart same h = (
    subst (λ (o : Option (List (ℤ × ℤ))). IsSomeAnd o (AreBoundsBy symbols v a.extents)) (sym (same a.name apart.0)) h.0,
    remain ms s u x apart.1 same h.1,
  )

  gone : (x : List ℕ) (ms : List Made) (t u : State) → Went ms t u → lists.Each (λ y. ¬ (x ≡ y)) (names_of ms)
      → t.store.bounds x ≡ None → (y : List ℕ) → (x ≡ y) ⊎ Contains (arrays_of ms) y → u.store.bounds y ≡ None
  gone x ms t u r apart none y (inr c) = r.free y c
  gone x ms t u r apart none y (inl same) =
      subst (λ z. u.store.bounds z ≡ None) same (r.others.bounds x (no_array ms x apart) ∙ none)

  abbrev pub LaterGo : List Made → Type 0
  LaterGo ms = (t : State) → t.way ≡ Going → lists.Each (λ (a : Made). IsThere t.store a.name a.extents) ms
      → Went ms t (does_all (fortran90 width) None (deallocations line ms) t)

  deallocate_first : (x : List ℕ) (es : List Expression) (ms : List Made) (t : State) → LaterGo ms
      → lists.Each (λ y. ¬ (x ≡ y)) (names_of ms) → t.way ≡ Going → IsThere t.store x es
      → lists.Each (λ (a : Made). IsThere t.store a.name a.extents) ms
      → WentWith x es ms t (does_all (fortran90 width) None (deallocation_then line x es (deallocations line ms)) t)
  deallocate_first x [] ms t later apart going own each =
      let r = later t going each in
      record { going = r.going; rest = r.rest; others = r.others; free = r.free }
  deallocate_first x (e ∷ es) ms t later apart going own each =
      let b = bounds_there (t.store.bounds x) (e ∷ es) own in
      let store : Store = with_bounds x None t.store in
      let t1 : State = record t { store = store; steps = t.steps + 1; way = Going } in
      let u : State = does_all (fortran90 width) None (deallocations line ms) t1 in
      let bounds : (y : List ℕ) → ¬ (x ≡ y) → store.bounds y ≡ t.store.bounds y
      = λ y k. ap (λ (b : Bool). cond b None (t.store.bounds y)) (unequal x y k) in
      let none : store.bounds x ≡ None = ap (λ (b : Bool). cond b None (t.store.bounds x)) (equal x) in
      let r = later t1 refl (remain ms t.store store x apart bounds each) in
      subst (λ (w : State). WentWith x (e ∷ es) ms t (does_all (fortran90 width) None (deallocations line ms) w))
      (sym (deallocate_does width line x t b.0 going b.1))
      (record {
        going = r.going;
        rest = r.rest ∙ ap (λ (y : Way). record t { store = u.store; steps = u.steps; way = y }) (sym going);
        others = record {
          bounds = λ y k.
              r.others.bounds y (λ c. k (there x (arrays_of ms) y c))
              ∙ bounds y (λ same. k (subst (Contains (x ∷ arrays_of ms)) same (here x (arrays_of ms))));
          held = λ c k. r.others.held c (λ d. k (there x (arrays_of ms) c.name d));
        };
        free = λ y c. gone x ms t1 u r apart none y (cases_of x (arrays_of ms) y c);
      })

  pub deallocate_all : (ms : List Made) → lists.Distinct (names_of ms) → LaterGo ms
  deallocate_all [] once t going each = record {
    going = going;
    rest = refl;
    others = record { bounds = λ x k. refl; held = λ c k. refl };
    free = λ x c. absurd (nowhere x c);
  }
  deallocate_all (a ∷ ms) once t going each =
      let r = deallocate_first a.name a.extents ms t (deallocate_all ms once.1) once.0 going each.0 each.1 in
      record { going = r.going; rest = r.rest; others = r.others; free = r.free }
