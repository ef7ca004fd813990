-- The first place at which one of several causes holds, and the first of them that holds there.
use Rattle.std.proofs.Common.{◌≡◌, ℕ, suc, ◌<◌, ◌≤◌, nat_lt, Bool, true, false, ◌||◌, cond, is_some, Option, None, Some, Result, Ok, Err, IfOk, List, [], ◌∷◌, length, get_or, find, refl, sym, ap, ap₂, subst, ◌∙◌, arith}
use Rattle.std.specs.Option.{option_map}
use Rattle.std.specs.List.{list_any, AllByRecursion}
use Rattle.std.proofs.lemmas.Bool.Decides.{nat_tests}
use Rattle.tree.specs.declared.refusals.Refused.TheVariants as refused
use Rattle.f77_grammar.specs.Statement77.{Labelled}
use Rattle.f77_grammar.specs.program.Text.{Place77, places, places_from}
use Rattle.tree.specs.Causes.{refusal_at}
use Rattle.tree.specs.declared.refusals.Cause.{Cause}
use Rattle.tree.specs.declared.refusals.Cause.TheVariants.{ManyNames, ManyBlocks, ReversedBounds, ManyElements, BadConstant}
use Rattle.meaning.specs.Dialect.{Dialect, fortran77}
use Rattle.tree.specs.declared.width.Width.{Width}
use Rattle.f77_grammar.specs.program.Program77.{holds_in}
use Rattle.f77_grammar.specs.declared.syntax.statements.Labelled.{Labelled as Labelled'}
use Rattle.f77_grammar.specs.syntax.Views.{labelled_of, text_of}
use Rattle.f77_grammar.specs.syntax.First.{first_index, index_from}
use Rattle.f77_checks.specs.declared.limits.Breach.{Breach}
use Rattle.f77_checks.specs.Limits.{limits, here_or, found_from, sooner_found}
use Rattle.f77_checks.specs.Outcomes.{Passes}
use Rattle.f77_checks.proofs.Indices.{index_of, index_within, statement_at}

-- ---- one cause

abbrev at : Cause → ℕ → Breach
at c i = record { place = i; cause = c }

one_step : (c : Cause) (b : Bool) (i : ℕ) (later : Option Breach) (o : Option ℕ) → later ≡ option_map (at c) o
    → here_or (cond b (Some c) None) i later ≡ option_map (at c) (cond b (Some i) o)
one_step c true i later o h = refl
one_step c false i later o h = h

pub found_one : (holds : Cause → Place77 → Bool) (c : Cause) (i : ℕ) (ps : List Place77) → found_from holds (c ∷ []) i ps ≡ option_map (at c) (index_from (holds c) i ps)
found_one holds c i [] = refl
found_one holds c i (p ∷ ps) = one_step c (holds c p) i (found_from holds (c ∷ []) (suc i) ps) (index_from (holds c) (suc i) ps) (found_one holds c (suc i) ps)

pub found_none : (width : Width) (text : List Labelled) (c : Cause) → None ≡ first_index (holds_in (fortran77 width) text c) text → None ≡ found_from (holds_in (fortran77 width) text) (c ∷ []) 0 (places text)
found_none width text c h = ap (option_map (at c)) h ∙ sym (found_one (holds_in (fortran77 width) text) c 0 (places text))

pub found_some : (width : Width) (text : List Labelled) (c : Cause) (i : ℕ) → Some i ≡ first_index (holds_in (fortran77 width) text c) text → Some (record { place = i; cause = c }) ≡ found_from (holds_in (fortran77 width) text) (c ∷ []) 0 (places text)
found_some width text c i h = ap (option_map (at c)) h ∙ sym (found_one (holds_in (fortran77 width) text) c 0 (places text))

-- ---- one cause more

above_step : (f : Option Cause) (i : ℕ) (later : Option Breach) (x : Breach) → here_or f i later ≡ Some x → (later ≡ Some x → suc i ≤ x.place) → i ≤ x.place
above_step (Some c) i later x h ih = let same : at c i ≡ x = cc in omega (arith, ap (λ (y : Breach). y.place) same)
above_step None i later x h ih = let lt : suc i ≤ x.place = ih h in omega arith

pub found_above : (holds : Cause → Place77 → Bool) (cs : List Cause) (i : ℕ) (ps : List Place77) (x : Breach) → found_from holds cs i ps ≡ Some x → i ≤ x.place
found_above holds cs i [] x h = absurd (let no : None ≡ Some x = h in cc)
found_above holds cs i (p ∷ ps) x h = above_step (find (λ c. holds c p) cs) i (found_from holds cs (suc i) ps) x h (found_above holds cs (suc i) ps x)

keeps_here : (c : Cause) (i : ℕ) (b : Option Breach) → ((x : Breach) → b ≡ Some x → suc i ≤ x.place) → Some (at c i) ≡ sooner_found (Some (at c i)) b
keeps_here c i None h = refl
keeps_here c i (Some x) h = ap (λ t. cond t (Some x) (Some (at c i))) (later i x.place (h x refl))
  where
    later : (i k : ℕ) → suc i ≤ k → false ≡ nat_lt k i
    later i k h = grind (arith, nat_tests)

both_here : (c d : Cause) (i : ℕ) → Some (at c i) ≡ sooner_found (Some (at c i)) (Some (at d i))
both_here c d i = ap (λ t. cond t (Some (at d i)) (Some (at c i))) (itself i)
  where
    itself : (i : ℕ) → false ≡ nat_lt i i
    itself i = grind (arith, nat_tests)

takes_here : (d : Cause) (i : ℕ) (a : Option Breach) → ((x : Breach) → a ≡ Some x → suc i ≤ x.place) → Some (at d i) ≡ sooner_found a (Some (at d i))
takes_here d i None h = refl
takes_here d i (Some x) h = ap (λ t. cond t (Some (at d i)) (Some x)) (sooner i x.place (h x refl))
  where
    sooner : (i k : ℕ) → suc i ≤ k → true ≡ nat_lt i k
    sooner i k h = grind (arith, nat_tests)

more_step : (c : Cause) (t : Bool) (f : Option Cause) (i : ℕ) (all a b : Option Breach) → all ≡ sooner_found a b
    → ((x : Breach) → a ≡ Some x → suc i ≤ x.place) → ((x : Breach) → b ≡ Some x → suc i ≤ x.place)
    → here_or (cond t (Some c) f) i all ≡ sooner_found (here_or (cond t (Some c) None) i a) (here_or f i b)
more_step c true None i all a b ih above below = keeps_here c i b below
more_step c true (Some d) i all a b ih above below = both_here c d i
more_step c false None i all a b ih above below = ih
more_step c false (Some d) i all a b ih above below = takes_here d i a above

pub found_more : (holds : Cause → Place77 → Bool) (c : Cause) (cs : List Cause) (i : ℕ) (ps : List Place77)
    → found_from holds (c ∷ cs) i ps ≡ sooner_found (found_from holds (c ∷ []) i ps) (found_from holds cs i ps)
found_more holds c cs i [] = refl
found_more holds c cs i (p ∷ ps) =
    more_step c (holds c p) (find (λ d. holds d p) cs) i (found_from holds (c ∷ cs) (suc i) ps) (found_from holds (c ∷ []) (suc i) ps) (found_from holds cs (suc i) ps)
    (found_more holds c cs (suc i) ps) (found_above holds (c ∷ []) (suc i) ps) (found_above holds cs (suc i) ps)

-- ---- the limits

abbrev one : (Cause → Place77 → Bool) → List Place77 → Cause → Option Breach
one holds ps c = found_from holds (c ∷ []) 0 ps

limits_found : (holds : Cause → Place77 → Bool) (ps : List Place77)
    → sooner_found (one holds ps ManyNames) (sooner_found (one holds ps ManyBlocks) (sooner_found (one holds ps ReversedBounds) (sooner_found (one holds ps ManyElements) (one holds ps BadConstant))))
    ≡ found_from holds limits 0 ps
limits_found holds ps =
    sym (found_more holds ManyNames (ManyBlocks ∷ ReversedBounds ∷ ManyElements ∷ BadConstant ∷ []) 0 ps
    ∙ ap (sooner_found (one holds ps ManyNames)) (found_more holds ManyBlocks (ReversedBounds ∷ ManyElements ∷ BadConstant ∷ []) 0 ps
    ∙ ap (sooner_found (one holds ps ManyBlocks)) (found_more holds ReversedBounds (ManyElements ∷ BadConstant ∷ []) 0 ps
    ∙ ap (sooner_found (one holds ps ReversedBounds)) (found_more holds ManyElements (BadConstant ∷ []) 0 ps))))

pub first_of_limits : (width : Width) (text : List Labelled) (n b r e v last later late all : Option Breach)
    → n ≡ found_from (holds_in (fortran77 width) text) (ManyNames ∷ []) 0 (places text)
    → b ≡ found_from (holds_in (fortran77 width) text) (ManyBlocks ∷ []) 0 (places text)
    → r ≡ found_from (holds_in (fortran77 width) text) (ReversedBounds ∷ []) 0 (places text)
    → e ≡ found_from (holds_in (fortran77 width) text) (ManyElements ∷ []) 0 (places text)
    → v ≡ found_from (holds_in (fortran77 width) text) (BadConstant ∷ []) 0 (places text)
    → last ≡ sooner_found e v → later ≡ sooner_found r last → late ≡ sooner_found b later → all ≡ sooner_found n late
    → all ≡ found_from (holds_in (fortran77 width) text) limits 0 (places text)
first_of_limits width text n b r e v last later late all hn hb hr he hv h4 h3 h2 h1 =
    h1 ∙ ap₂ sooner_found hn (h2 ∙ ap₂ sooner_found hb (h3 ∙ ap₂ sooner_found hr (h4 ∙ ap₂ sooner_found he hv)))
    ∙ limits_found (holds_in (fortran77 width) text) (places text)

-- ---- what the first breach says of the text

any_found : (test : Cause → Bool) (cs : List Cause) → list_any test cs ≡ is_some (find test cs)
any_found test [] = refl
any_found test (c ∷ cs) = step (test c) (any_found test cs)
  where
    step : (b : Bool) → list_any test cs ≡ is_some (find test cs) → (b || list_any test cs) ≡ is_some (cond b (Some c) (find test cs))
    step true h = refl
    step false h = h

record FoundAt (holds : Cause → Place77 → Bool) (cs : List Cause) (ps : List Place77) (x : Breach) : Type 0 where
  place : Place77
  first_place : find (λ p. list_any (λ c. holds c p) cs) ps ≡ Some place
  first_cause : find (λ c. holds c place) cs ≡ Some x.cause
  index : x.place ≡ index_of place

place_step : (holds : Cause → Place77 → Bool) (cs : List Cause) (p : Place77) (ps : List Place77) (later : Option Breach) (x : Breach) (f : Option Cause) → find (λ c. holds c p) cs ≡ f
    → here_or f (index_of p) later ≡ Some x → (later ≡ Some x → FoundAt holds cs ps x) → FoundAt holds cs (p ∷ ps) x
place_step holds cs p ps later x (Some c) e h ih =
    let same : at c (index_of p) ≡ x = cc in
    record {
      place = p;
      first_place = (ap (λ b. cond b (Some p) (find (λ q. list_any (λ d. holds d q) cs) ps)) (any_found (λ d. holds d p) cs ∙ ap is_some e));
      first_cause = (e ∙ ap (λ (y : Breach). Some y.cause) same);
      index = (ap (λ (y : Breach). y.place) (sym same));
    }
place_step holds cs p ps later x None e h ih =
    let rest : FoundAt holds cs ps x = ih h in
    record {
      place = rest.place;
      first_place = (ap (λ b. cond b (Some p) (find (λ q. list_any (λ d. holds d q) cs) ps)) (any_found (λ d. holds d p) cs ∙ ap is_some e) ∙ rest.first_place);
      first_cause = rest.first_cause;
      index = rest.index;
    }

found_place : (holds : Cause → Place77 → Bool) (cs : List Cause) (before xs : List Labelled) (x : Breach) → found_from holds cs (length before) (places_from before xs) ≡ Some x
    → FoundAt holds cs (places_from before xs) x
found_place holds cs before [] x h = absurd (let no : None ≡ Some x = h in cc)
found_place holds cs before (y ∷ ys) x h =
    let p : Place77 = record { before = before; here = y; after = ys } in
    place_step holds cs p (places_from (y ∷ before) ys) (found_from holds cs (suc (length before)) (places_from (y ∷ before) ys)) x (find (λ c. holds c p) cs) refl h
    (found_place holds cs (y ∷ before) ys x)

pub breach_within : (d : Dialect) (xs : List Labelled') (b : Breach) → Some b ≡ found_from (holds_in d (text_of xs)) limits 0 (places (text_of xs)) → b.place < length xs
breach_within d xs b h =
    let found : FoundAt (holds_in d (text_of xs)) limits (places (text_of xs)) b = found_place (holds_in d (text_of xs)) limits [] (text_of xs) b (sym h) in
    omega (arith, index_within (λ p. list_any (λ c. holds_in d (text_of xs) c p) limits) xs found.place found.first_place, found.index)

pub breach_is_first : (width : Width) (xs : List Labelled') (b : Breach) (x : Labelled') → Some b ≡ found_from (holds_in (fortran77 width) (text_of xs)) limits 0 (places (text_of xs))
    → x ≡ get_or xs b.place x → Passes width limits (text_of xs) (Err (refused.Refusal (refusal_at b.cause x.line)))
breach_is_first width xs b x h e =
    let found : FoundAt (holds_in (fortran77 width) (text_of xs)) limits (places (text_of xs)) b = found_place (holds_in (fortran77 width) (text_of xs)) limits [] (text_of xs) b (sym h) in
    let stands : labelled_of x ≡ found.place.here = statement_at (λ p. list_any (λ c. holds_in (fortran77 width) (text_of xs) c p) limits) xs found.place x found.first_place (e ∙ ap (λ i. get_or xs i x) found.index) in
    let line : x.line ≡ found.place.here.line = ap (λ (y : Labelled). y.line) stands in
    record {
      cause = b.cause;
      place = found.place;
      first_place = found.first_place;
      first_cause = found.first_cause;
      is = ap (refusal_at b.cause) line;
    }

-- ---- no breach

sooner_none : (a b : Option Breach) → sooner_found a b ≡ None → (a ≡ None) × (b ≡ None)
sooner_none None b h = (refl, h)
sooner_none (Some a) None h = absurd (let no : Some a ≡ None = h in cc)
sooner_none (Some a) (Some b) h = absurd (neither (nat_lt b.place a.place) h)
  where
    neither : (t : Bool) → cond t (Some b) (Some a) ≡ None → ⊥
    neither true h = let no : Some b ≡ None = h in cc
    neither false h = let no : Some a ≡ None = h in cc

index_none_step : (b : Bool) (i : ℕ) (p : Place77) (o : Option ℕ) (f : Option Place77) → cond b (Some i) o ≡ None → (o ≡ None → f ≡ None) → cond b (Some p) f ≡ None
index_none_step true i p o f h ih = absurd (let no : Some i ≡ None = h in cc)
index_none_step false i p o f h ih = ih h

index_none : (test : Place77 → Bool) (i : ℕ) (ps : List Place77) → index_from test i ps ≡ None → find test ps ≡ None
index_none test i [] h = refl
index_none test i (p ∷ ps) h = index_none_step (test p) i p (index_from test (suc i) ps) (find test ps) h (index_none test (suc i) ps)

unmapped : (c : Cause) (o : Option ℕ) → option_map (at c) o ≡ None → o ≡ None
unmapped c None h = refl
unmapped c (Some i) h = absurd (let no : Some (at c i) ≡ None = h in cc)

nowhere : (holds : Cause → Place77 → Bool) (cs : List Cause) (ps : List Place77) → found_from holds cs 0 ps ≡ None → AllByRecursion (λ c. find (holds c) ps ≡ None) cs
nowhere holds [] ps h = tt
nowhere holds (c ∷ cs) ps h =
    let two : (found_from holds (c ∷ []) 0 ps ≡ None) × (found_from holds cs 0 ps ≡ None) = sooner_none (found_from holds (c ∷ []) 0 ps) (found_from holds cs 0 ps) (sym (found_more holds c cs 0 ps) ∙ h) in
    (index_none (holds c) 0 ps (unmapped c (index_from (holds c) 0 ps) (sym (found_one holds c 0 ps) ∙ two.0)), nowhere holds cs ps two.1)

pub no_breach : (width : Width) (text : List Labelled) → None ≡ found_from (holds_in (fortran77 width) text) limits 0 (places text) → Passes width limits text (Ok tt)
no_breach width text h = nowhere (holds_in (fortran77 width) text) limits (places text) (sym h)

pub ruleset outcome_laws = (breach_within, breach_is_first, no_breach)
