-- Refusals of a text by their numbers: the first place at which a cause holds is that of the refusal.
use Rattle.std.proofs.Common.{◌≡◌, ◌⊎◌, inl, inr, ⊎_elim, ℕ, ◌+◌, ◌<◌, ◌≤◌, ◌==◌, cond, Result, Ok, Err, List, []}
use Rattle.std.proofs.Common.{length, refl, sym, ap, subst, ◌∙◌, arith}
use Rattle.std.proofs.lemmas.Bool.{cases_lt}
use Rattle.reading.proofs.refusal_order.Answered.{FollowsIn, answered_by}
use Rattle.tree.specs.Causes.{refusal_at, number_of_cause, word_of_cause}
use Rattle.tree.specs.declared.refusals.Cause.{Cause}
use Rattle.tree.specs.declared.refusals.Cause.TheVariants.{WideLiteral90, Deep90, Structure, Declared90, TypeClash90}
use Rattle.tree.specs.declared.refusals.Cause.TheVariants.{Limit90}
use Rattle.tree.specs.declared.refusals.Refusal.{Refusal}
use Rattle.tree.specs.declared.refusals.Refused.{Refused}
use Rattle.tree.specs.declared.refusals.Refused.TheVariants as refused
use Rattle.f90_grammar.specs.Blocks.{Placed}
use Rattle.f90_grammar.specs.LineCauses.{HasLineCause}
use Rattle.f90_grammar.specs.LineCauses.HasLineCause.{HoldsBadByte, IsLong, EndsWithin}
use Rattle.f90_grammar.specs.Order.{Place90, IsPlaceIn, IsInOrder}
use Rattle.f90_grammar.specs.Bounds.{HasManyNames}
use Rattle.f90_grammar.specs.Reading.{AreStatementsOf}
use Rattle.f90_grammar.specs.Refusals.{HoldsAt, HoldsIn, PassesNames, IsRefusable, Refused90}
use Rattle.f90_grammar.specs.Refusals.HoldsIn.{AtPlace, HasNoStatement, IsWrongInBlocks}
use Rattle.f90_grammar.specs.Refusals.HasCause90.{InLines, InWords, InStatements}
use Rattle.f90_grammar.specs.Refusals.IsRefusable.{For, ForNames}
use Rattle.f90_grammar.specs.Surroundings.{IsMisplaced}
use Rattle.f90_laws.proofs.unique.Lines.{one_text}
use Rattle.f90_blocks.proofs.places.RisingLaws.{places_rise}
use Rattle.f90_blocks.proofs.places.Walks.{same_place}
use Rattle.f90_read.specs.Checks.{IfRefusal, IsClearBelow, Clears}

-- ---- the first place at which something holds

-- the refusal is for the cause, at the first place at which something holds
pub record IsRefusedFirst (ps : List Placed) (c : Cause) (Holds : Place90 → Type 0) (r : Refusal)
    : Type 0 where
  pub place : Place90
  pub in_text : IsPlaceIn ps place
  pub holds : Holds place
  pub first : (other : Place90) → IsPlaceIn ps other → Holds other → length place.before ≤ length other.before
  pub refusal : r ≡ refusal_at c place.here.line

-- it holds at no place, or is refused so
abbrev pub RefusesFirst : {A : Type 0} → List Placed → Cause → (Place90 → Type 0) → Result A Refused
    → Type 0
RefusesFirst ps c Holds (Ok x) = (p : Place90) → IsPlaceIn ps p → Holds p → ⊥
RefusesFirst ps c Holds (Err e) = IfRefusal e (IsRefusedFirst ps c Holds)

-- ---- causes that are asked at places

abbrev pub IsOfPlaces : Cause → Type 0
IsOfPlaces WideLiteral90 = Unit {0}
IsOfPlaces Deep90 = Unit {0}
IsOfPlaces Structure = Unit {0}
IsOfPlaces Declared90 = Unit {0}
IsOfPlaces TypeClash90 = Unit {0}
IsOfPlaces Limit90 = Unit {0}
IsOfPlaces _ = ⊥

pub of_places : (c : Cause) (ps : List Placed) (p : Place90) → HoldsAt c ps p → IsOfPlaces c
of_places WideLiteral90 ps p h = tt
of_places Deep90 ps p h = tt
of_places Structure ps p h = tt
of_places Declared90 ps p h = tt
of_places TypeClash90 ps p h = tt
of_places Limit90 ps p h = tt
of_places c ps p h = absurd h

-- the cause of places that has the number
abbrev cause_with : ℕ → Cause
cause_with n =
    cond (n == 35) WideLiteral90 (cond (n == 36) Deep90 (cond (n == 37) Structure
    (cond (n == 38) Declared90 (cond (n == 39) TypeClash90 Limit90))))

told : (c : Cause) → IsOfPlaces c → cause_with (number_of_cause c) ≡ c
told WideLiteral90 h = refl
told Deep90 h = refl
told Structure h = refl
told Declared90 h = refl
told TypeClash90 h = refl
told Limit90 h = refl
told c h = absurd h

same_cause : (c d : Cause) → IsOfPlaces c → IsOfPlaces d → number_of_cause c ≡ number_of_cause d → c ≡ d
same_cause c d h g e = sym (told c h) ∙ (ap cause_with e ∙ told d g)

-- ---- what a refusal of a text with statements says

pub data IsShown (ps : List Placed) (r : Refusal) : Type 0 where
  ShownAt : (c : Cause) (p : Place90) → IsPlaceIn ps p → HoldsAt c ps p → r ≡ refusal_at c p.here.line → IsShown ps r
  ShownByNothing : ps ≡ [] → r ≡ refusal_at Structure 0 → IsShown ps r
  ShownInBlocks : (line : ℕ) → IsInOrder ps → IsMisplaced ps line → r ≡ refusal_at Structure line → IsShown ps r
  ShownByNames : (p : Place90) → IsPlaceIn ps p → HasManyNames p → r ≡ refusal_at Limit90 p.here.line → IsShown ps r

line_number : (text : List ℕ) (r : Refusal) → HasLineCause text r → r.number < 35
line_number text r (HoldsBadByte front back p s e a i b) = let k : 31 < 35 = omega arith in k
line_number text r (IsLong front back line e l) = let k : 32 < 35 = omega arith in k
line_number text r (EndsWithin initial o a) = let k : 33 < 35 = omega arith in k

shown_in : (ps : List Placed) (c : Cause) (line : ℕ) → HoldsIn ps c line → IsShown ps (refusal_at c line)
shown_in ps c line (AtPlace d p i h) = ShownAt d p i h refl
shown_in ps c line (HasNoStatement e) = ShownByNothing e refl
shown_in ps c line (IsWrongInBlocks l o m) = ShownInBlocks l o m refl

shown_by_names : (text : List ℕ) (ps : List Placed) (line : ℕ) → AreStatementsOf text ps → PassesNames text line
    → IsShown ps (refusal_at Limit90 line)
shown_by_names text ps line t h =
    ShownByNames h.place (subst (λ qs. IsPlaceIn qs h.place) (one_text text h.statements ps h.of_text t) h.in_text)
    h.many
    (ap (λ (n : ℕ). refusal_at Limit90 n) h.line_is)

pub shown : (text : List ℕ) (ps : List Placed) (r : Refusal) → AreStatementsOf text ps → IsRefusable text r
    → 35 ≤ r.number
    → IsShown ps r
shown text ps r t (For q (InLines s h)) l = let k = line_number text s h in absurd (omega (arith, k, l))
shown text ps r t (For q (InWords ss s a c n)) l = let k : 35 ≤ 34 = l in absurd (omega arith)
shown text ps r t (For q (InStatements qs c line u h)) l =
    subst (λ ns. IsShown ns (refusal_at c line)) (one_text text qs ps u t) (shown_in qs c line h)
shown text ps r t (ForNames line h) l = shown_by_names text ps line t h

-- ---- a cause, and something that holds at places where it does

-- the refusal is for the cause at a place where it holds
pub record IsOfPlace (ps : List Placed) (c : Cause) (Holds : Place90 → Type 0) (r : Refusal) : Type 0 where
  pub place : Place90
  pub in_text : IsPlaceIn ps place
  pub holds : Holds place
  pub refusal : r ≡ refusal_at c place.here.line

-- each refusal with the number is for the cause, at a place where it holds
abbrev pub AreOfPlaces : List ℕ → List Placed → Cause → (Place90 → Type 0) → Type 0
AreOfPlaces text ps c Holds = (r : Refusal) → IsRefusable text r → r.number ≡ number_of_cause c → IsOfPlace ps c Holds r

abbrev pub Refuse : List ℕ → List Placed → Cause → (Place90 → Type 0) → Type 0
Refuse text ps c Holds = (p : Place90) → IsPlaceIn ps p → Holds p → IsRefusable text (refusal_at c p.here.line)

-- at a place the refusal is one for the cause, where nothing else has its number
pub of_cause : (text : List ℕ) (ps : List Placed) (c d : Cause) (p : Place90) (r : Refusal) → IsPlaceIn ps p
    → HoldsAt d ps p → r ≡ refusal_at d p.here.line → IsOfPlaces c → r.number ≡ number_of_cause c
    → IsOfPlace ps c (HoldsAt c ps) r
of_cause text ps c d p r i h e o n =
    let k : d ≡ c = same_cause d c (of_places d ps p h) o (sym (ap (λ (q : Refusal). q.number) e) ∙ n) in
    record {
      place = p;
      in_text = i;
      holds = subst (λ b. HoldsAt b ps p) k h;
      refusal = e ∙ ap (λ b. refusal_at b p.here.line) k;
    }

-- a refusal that has a number is for its cause alone
pub simple : (text : List ℕ) (ps : List Placed) (c : Cause) → AreStatementsOf text ps → IsOfPlaces c
    → 35 ≤ number_of_cause c → (number_of_cause c ≡ 37 → ⊥) → (number_of_cause c ≡ 40 → ⊥)
    → AreOfPlaces text ps c (HoldsAt c ps)
simple text ps c t o l no_structure no_limit r h n = by (shown text ps r t h (omega (arith, n, l)))
  where
    by : IsShown ps r → IsOfPlace ps c (HoldsAt c ps) r
    by (ShownAt d p i k e) = of_cause text ps c d p r i k e o n
    by (ShownByNothing k e) = absurd (no_structure (sym n ∙ ap (λ (q : Refusal). q.number) e))
    by (ShownInBlocks line k m e) = absurd (no_structure (sym n ∙ ap (λ (q : Refusal). q.number) e))
    by (ShownByNames p i m e) = absurd (no_limit (sym n ∙ ap (λ (q : Refusal). q.number) e))

pub refuses : (text : List ℕ) (ps : List Placed) (c : Cause) → AreStatementsOf text ps → Refuse text ps c (HoldsAt c ps)
refuses text ps c t p i h = For (refusal_at c p.here.line) (InStatements ps c p.here.line t (AtPlace c p i h))

-- ---- one number

module _ (text : List ℕ) (ps : List Placed) (n : ℕ) (c : Cause) (Holds : Place90 → Type 0)
    (is_number : n ≡ number_of_cause c) (clear : IsClearBelow text n) (of : AreOfPlaces text ps c Holds) where
  pub clear_more : ((p : Place90) → IsPlaceIn ps p → Holds p → ⊥) → IsClearBelow text (n + 1)
  clear_more none r h = ⊎_elim (λ (l : n < r.number). omega (arith, l)) (λ (l : r.number ≤ n). absurd (equal l))
      (cases_lt n r.number)
    where
      equal : r.number ≤ n → ⊥
      equal l =
          let k = clear r h in
          let e : r.number ≡ n = omega (arith, k, l) in
          let f = of r h (e ∙ is_number) in
          none f.place f.in_text f.holds

  follows : (p q : Place90) (other : Refusal) → AreStatementsOf text ps → IsPlaceIn ps p → IsPlaceIn ps q
      → length p.before ≤ length q.before
      → other ≡ refusal_at c q.here.line → FollowsIn (refusal_at c p.here.line) other
  follows p q other t i j l e same =
      let line : q.here.line ≡ other.line = sym (ap (λ (r : Refusal). r.line) e) in
      let word : word_of_cause c ≡ other.word = sym (ap (λ (r : Refusal). r.word) e) in
      ⊎_elim (λ (k : length p.before < length q.before). let g = places_rise text ps p q t i j k in
      inl (omega (arith, g, line)))
      (λ (k : length q.before ≤ length p.before).
      let s : length p.before ≡ length q.before = omega (arith, l, k) in
      inr (ap (λ (x : Place90). x.here.line) (same_place ps p q i j s) ∙ line, omega (arith, word)))
      (cases_lt (length p.before) (length q.before))

  pub answered : AreStatementsOf text ps → Refuse text ps c Holds → (r : Refusal) → IsRefusedFirst ps c Holds r
      → Refused90 text r
  answered t to r f = subst (Refused90 text) (sym f.refusal)
      (answered_by (IsRefusable text) (refusal_at c f.place.here.line) (to f.place f.in_text f.holds) least later)
    where
      least : (other : Refusal) → IsRefusable text other → number_of_cause c ≤ other.number
      least other h = let k = clear other h in omega (arith, k, is_number)

      later : (other : Refusal) → IsRefusable text other → FollowsIn (refusal_at c f.place.here.line) other
      later other h same =
          let g = of other h same in
          follows f.place g.place other t f.in_text g.in_text (f.first g.place g.in_text g.holds) g.refusal same

  pub cleared : {A : Type 0} (o : Result A Refused) → AreStatementsOf text ps → Refuse text ps c Holds
      → RefusesFirst ps c Holds o → Clears text (n + 1) o
  cleared (Ok x) t to h = clear_more h
  cleared (Err (refused.Refusal r)) t to h = answered t to r h
  cleared (Err refused.Memory) t to h = tt

-- ---- what is clear holds nowhere

pub holds_nowhere : (text : List ℕ) (ps : List Placed) (n : ℕ) (c : Cause) → AreStatementsOf text ps
    → IsClearBelow text n → number_of_cause c < n
    → (p : Place90) → IsPlaceIn ps p → HoldsAt c ps p → ⊥
holds_nowhere text ps n c t clear l p i h = let k = clear (refusal_at c p.here.line) (refuses text ps c t p i h) in
    omega (arith, k, l)
