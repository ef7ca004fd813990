-- What is found, loop by loop.
use Rattle.std.proofs.Common.{◌≡◌, ℕ, zero, suc, ◌<◌, Bool, true, false, cond, Option, Some, None, List, [], ◌∷◌, map, filter, length, get_or, Contains, refl, sym, ap, ◌∙◌, arith}
use Rattle.tree.specs.Plain.{Program, Statement, Declaration}
use Rattle.nest.specs.Plain.{Nest}
use Rattle.find_nests.specs.nest_parts.Numbers.{next_loop_number}
use Rattle.find_nests.specs.declared.reasons.Reason.{Reason}
use Rattle.find_nests.specs.declared.reasons.Reason.TheVariants.{Exit, InnerIf, Bound, Step, Deep, Large}
use Rattle.find_nests.specs.Reasons.{has_reason, first_that_holds, reasons}
use Rattle.find_nests.specs.Loops.{Numbered, SurroundedLoop, loops_in_block}
use Rattle.find_nests.specs.LookedAt.{is_in_no_nest, reason_of, looked_at}
use Rattle.find_nests.specs.Found.{InNest, Kept, found_as, nests_with, found_among, nest_of_loop}
use Rattle.find_nests.specs.Laws.{FoundNestIsLoop, KeptIsLoop, NoReasonHolds, ReasonHolds}

later : {A : Type 0} (x y : A) (xs : List A) → Contains xs y → Contains (x ∷ xs) y
later x y xs h = (suc h.0, omega (arith, h.1), h.2)

-- ---- among the loops that are looked at

-- a loop that is looked at, for which a fact holds
pub record LookedFor (ls : List Numbered) (P : Numbered → Type 0) : Type 0 where
  pub loop : Numbered
  pub stands : Contains ls loop
  pub holds : P loop

looked_later : (l : Numbered) (ls : List Numbered) (P : Numbered → Type 0) → LookedFor ls P → LookedFor (l ∷ ls) P
looked_later l ls P h = record { loop = h.loop; stands = later l h.loop ls h.stands; holds = h.holds }

module _ (p : Program) where
  abbrev ds : List Declaration
  ds = p.declarations

  abbrev NestOf : Nest → Numbered → Type 0
  NestOf m l = (reason_of ds l.loop ≡ None) × (m ≡ nest_of_loop p m.number l)

  nest_here : (n : ℕ) (l : Numbered) (m : Nest) (o : Option Reason) → reason_of ds l.loop ≡ o → found_as p n l o ≡ InNest m → NestOf m l
  nest_here n l m None q e = let same : nest_of_loop p (next_loop_number n) l ≡ m = cc in (q, sym same ∙ ap (λ k. nest_of_loop p k l) (ap (λ (x : Nest). x.number) same))
  nest_here n l m (Some r) q e = let no : ⊥ = cc in absurd no

  nest_among : (n : ℕ) (ls : List Numbered) (m : Nest) (k : ℕ) → k < length (found_among p n ls) → get_or (found_among p n ls) k (InNest m) ≡ InNest m → LookedFor ls (NestOf m)
  nest_among n [] m k h e = absurd (omega (arith, h))
  nest_among n (l ∷ ls) m zero h e = record { loop = l; stands = (0, omega arith, refl); holds = nest_here n l m (reason_of ds l.loop) refl e }
  nest_among n (l ∷ ls) m (suc k) h e = looked_later l ls (NestOf m) (nest_among (nests_with n (reason_of ds l.loop)) ls m k (omega (arith, h)) e)

  abbrev KeptOf : ℕ → Reason → Numbered → Type 0
  KeptOf line r l = (reason_of ds l.loop ≡ Some r) × (line ≡ l.loop.line)

  kept_here : (n : ℕ) (l : Numbered) (line : ℕ) (r : Reason) (o : Option Reason) → reason_of ds l.loop ≡ o → found_as p n l o ≡ Kept line r → KeptOf line r l
  kept_here n l line r None q e = let no : ⊥ = cc in absurd no
  kept_here n l line r (Some s) q e = let same : s ≡ r = cc in let at : line ≡ l.loop.line = cc in (q ∙ ap (λ t. Some t) same, at)

  kept_among : (n : ℕ) (ls : List Numbered) (line : ℕ) (r : Reason) (k : ℕ) → k < length (found_among p n ls) → get_or (found_among p n ls) k (Kept line r) ≡ Kept line r
      → LookedFor ls (KeptOf line r)
  kept_among n [] line r k h e = absurd (omega (arith, h))
  kept_among n (l ∷ ls) line r zero h e = record { loop = l; stands = (0, omega arith, refl); holds = kept_here n l line r (reason_of ds l.loop) refl e }
  kept_among n (l ∷ ls) line r (suc k) h e = looked_later l ls (KeptOf line r) (kept_among (nests_with n (reason_of ds l.loop)) ls line r k (omega (arith, h)) e)

-- ---- among all loops

abbrev loop_of : SurroundedLoop → Numbered
loop_of q = q.loop

pub record PlacedFor (f : SurroundedLoop → Bool) (ps : List SurroundedLoop) (l : Numbered) : Type 0 where
  pub place : SurroundedLoop
  pub stands : Contains ps place
  pub passes : f place ≡ true
  pub is : place.loop ≡ l

placed_later : (f : SurroundedLoop → Bool) (p : SurroundedLoop) (ps : List SurroundedLoop) (l : Numbered) → PlacedFor f ps l → PlacedFor f (p ∷ ps) l
placed_later f p ps l h = record { place = h.place; stands = later p h.place ps h.stands; passes = h.passes; is = h.is }

placed : (f : SurroundedLoop → Bool) (ps : List SurroundedLoop) (l : Numbered) → Contains (map loop_of (filter f ps)) l → PlacedFor f ps l
placed f [] l h = absurd (omega (arith, h.1))
placed f (p ∷ ps) l h = by (f p) refl h (λ i. placed f ps l i)
  where
    here : (b : Bool) (k : ℕ) → f p ≡ true → k < length (map loop_of (p ∷ filter f ps)) → get_or (map loop_of (p ∷ filter f ps)) k l ≡ l
        → (Contains (map loop_of (filter f ps)) l → PlacedFor f ps l) → PlacedFor f (p ∷ ps) l
    here b zero q h e more = record { place = p; stands = (0, omega arith, refl); passes = q; is = e }
    here b (suc k) q h e more = placed_later f p ps l (more (k, omega (arith, h), e))

    by : (b : Bool) → f p ≡ b → Contains (map loop_of (cond b (p ∷ filter f ps) (filter f ps))) l
        → (Contains (map loop_of (filter f ps)) l → PlacedFor f ps l) → PlacedFor f (p ∷ ps) l
    by true q h more = here true h.0 q h.1 h.2 more
    by false q h more = placed_later f p ps l (more h)

pub found_nest_is_loop : FoundNestIsLoop
found_nest_is_loop p n h =
    let looked = nest_among p 0 (looked_at p.declarations p.body) n h.0 h.1 h.2 in
    let there = placed (is_in_no_nest p.declarations) (loops_in_block 0 [] p.body) looked.loop looked.stands in
    record {
      loop = there.place;
      stands = there.stands;
      outermost = there.passes;
      no_reason = ap (λ (l : Numbered). reason_of p.declarations l.loop) there.is ∙ looked.holds.0;
      is = looked.holds.1 ∙ ap (nest_of_loop p n.number) (sym there.is);
    }

pub kept_is_loop : KeptIsLoop
kept_is_loop p line r h =
    let looked = kept_among p 0 (looked_at p.declarations p.body) line r h.0 h.1 h.2 in
    let there = placed (is_in_no_nest p.declarations) (loops_in_block 0 [] p.body) looked.loop looked.stands in
    record {
      loop = there.place;
      stands = there.stands;
      outermost = there.passes;
      reason = ap (λ (l : Numbered). reason_of p.declarations l.loop) there.is ∙ looked.holds.0;
      at = looked.holds.1 ∙ ap (λ (l : Numbered). l.loop.line) (sym there.is);
    }

-- ---- reasons

module _ (symbols : List (List ℕ)) (c : Statement) where
  abbrev holds : Reason → Bool
  holds r = has_reason r symbols c

  given : (b : Bool) (s r : Reason) (o : Option Reason) → holds s ≡ b → (o ≡ Some r → holds r ≡ true) → cond b (Some s) o ≡ Some r → holds r ≡ true
  given true s r o q more e = let same : s ≡ r = cc in sym (ap holds same) ∙ q
  given false s r o q more e = more e

  given_among : (rs : List Reason) (r : Reason) → first_that_holds rs symbols c ≡ Some r → holds r ≡ true
  given_among [] r e = let no : ⊥ = cc in absurd no
  given_among (s ∷ rs) r e = given (holds s) s r (first_that_holds rs symbols c) refl (given_among rs r) e

  first_no : (b : Bool) (s : Reason) (o : Option Reason) → holds s ≡ b → cond b (Some s) o ≡ None → (holds s ≡ false) × (o ≡ None)
  first_no true s o q e = let no : ⊥ = cc in absurd no
  first_no false s o q e = (q, e)

  none_after : (s : Reason) (rs : List Reason) → first_that_holds (s ∷ rs) symbols c ≡ None → (holds s ≡ false) × (first_that_holds rs symbols c ≡ None)
  none_after s rs e = first_no (holds s) s (first_that_holds rs symbols c) refl e

  none_holds : first_that_holds reasons symbols c ≡ None → (r : Reason) → holds r ≡ false
  none_holds e =
      let a = none_after Exit (InnerIf ∷ Bound ∷ Step ∷ Deep ∷ Large ∷ []) e in
      let b = none_after InnerIf (Bound ∷ Step ∷ Deep ∷ Large ∷ []) a.1 in
      let d = none_after Bound (Step ∷ Deep ∷ Large ∷ []) b.1 in
      let f = none_after Step (Deep ∷ Large ∷ []) d.1 in
      let g = none_after Deep (Large ∷ []) f.1 in
      let h = none_after Large [] g.1 in
      each a.0 b.0 d.0 f.0 g.0 h.0
    where
      each : holds Exit ≡ false → holds InnerIf ≡ false → holds Bound ≡ false → holds Step ≡ false → holds Deep ≡ false → holds Large ≡ false
          → (r : Reason) → holds r ≡ false
      each a b d f g h Exit = a
      each a b d f g h InnerIf = b
      each a b d f g h Bound = d
      each a b d f g h Step = f
      each a b d f g h Deep = g
      each a b d f g h Large = h

pub no_reason_holds : NoReasonHolds
no_reason_holds symbols c r e = none_holds symbols c e r

pub reason_holds : ReasonHolds
reason_holds symbols c r e = given_among symbols c reasons r e
