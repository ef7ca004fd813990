-- Each number of refusal that is asked of the statements of a text: the text is clear of it too, or refused for it.
use Rattle.std.proofs.Common.{◌≡◌, ◌⊎◌, inl, inr, ℕ, ◌+◌, ◌<◌, ◌==◌, Bool, true, false, IsTrue, Option}
use Rattle.std.proofs.Common.{Some, None, Result, Ok, Err, List, [], ◌∷◌, ◌++◌, length, ◌&&◌, nat_le, refl}
use Rattle.std.proofs.Common.{sym, ap, subst, ◌∙◌, arith}
use Rattle.std.specs.List.{AllByRecursion}
use Rattle.std.proofs.lemmas.Bool.Decides.{nat_tests}
use Rattle.reading.proofs.refusal_order.Answered.{FollowsIn, answered_by}
use Rattle.tree.specs.Causes.{refusal_at, number_of_cause}
use Rattle.tree.specs.Limits as limits
use Rattle.tree.specs.declared.refusals.Cause.{Cause}
use Rattle.tree.specs.declared.refusals.Cause.TheVariants.{WideLiteral90, Deep90, Structure, Declared90, TypeClash90}
use Rattle.tree.specs.declared.refusals.Cause.TheVariants.{Limit90}
use Rattle.tree.specs.declared.refusals.Refusal.{Refusal}
use Rattle.tree.specs.declared.refusals.Refused.{Refused}
use Rattle.tree.specs.declared.refusals.Refused.TheVariants as refused
use Rattle.f90_grammar.specs.Blocks.{Placed}
use Rattle.f90_grammar.specs.Bounds.{PassesLimit, HasManyNames, HasBounds, opens_block90, declared_up_to}
use Rattle.f90_grammar.specs.Bounds.PassesLimit.{OfBlocks, OfBounds, OfElements}
use Rattle.f90_grammar.specs.Declared.{declarations_in}
use Rattle.f90_grammar.specs.Order.{Place90, IsPlaceIn, IsInOrder, is_nothing90, is_disordered, blocks_round}
use Rattle.f90_grammar.specs.Reading.{AreStatementsOf}
use Rattle.f90_grammar.specs.Refusals.{HoldsAt, IsRefusable, Refused90, PassesNames}
use Rattle.f90_grammar.specs.Refusals.HoldsIn.{HasNoStatement, IsWrongInBlocks}
use Rattle.f90_grammar.specs.Refusals.HasCause90.{InStatements}
use Rattle.f90_grammar.specs.Refusals.IsRefusable.{For, ForNames}
use Rattle.f90_laws.specs.blocks.Places.{IsWrongAt}
use Rattle.f90_laws.proofs.blocks.Misplaced.{misplaced_at_place}
use Rattle.f90_names.specs.kinds.declarations.Bounds.{all_elements}
use Rattle.f90_blocks.specs.places.forms.Places.{IsPlacedOf}
use Rattle.f90_blocks.specs.declared.places.forms.placing.Placed.{Placed as Held}
use Rattle.f90_blocks.specs.places.First.{FindsFirst, earlier}
use Rattle.f90_blocks.proofs.places.EarlierLaws.{first_of_two}
use Rattle.f90_statement.specs.Views.{AreOf}
use Rattle.f90_read.specs.Checks.{IfRefusal, IsClearBelow, Clears, RefusesAt}
use Rattle.f90_read.proofs.NumberLaws.{IsRefusedFirst, RefusesFirst}
use Rattle.f90_read.proofs.NumberLaws.{IsShown, IsOfPlace, AreOfPlaces, Refuse, shown, of_cause, simple, refuses}
use Rattle.f90_read.proofs.NumberLaws.{answered, cleared}
use Rattle.f90_read.proofs.NumberLaws.IsShown.{ShownAt, ShownByNothing, ShownInBlocks, ShownByNames}
use Rattle.f90_read.proofs.StatementLaws.{not_true, some_statement}

nowhere_in : (front back : List Placed) (p : Placed) → [] ≡ front ++ p ∷ back → ⊥
nowhere_in [] back p e = cc
nowhere_in (q ∷ front) back p e = cc

no_place : (ps : List Placed) (p : Place90) → ps ≡ [] → IsPlaceIn ps p → ⊥
no_place ps p e i = nowhere_in p.before p.after p.here (sym e ∙ i)

-- ---- what passes a limit

abbrev pub IsDeepBlock : Place90 → Type 0
IsDeepBlock p = IsTrue (opens_block90 p.here.form && nat_le limits.block_depth90 (length (blocks_round p)))

abbrev pub IsBeyondBounds : Place90 → Type 0
IsBeyondBounds p = AllByRecursion HasBounds (declarations_in p.here.form) → ⊥

abbrev pub IsBeyondElements : Place90 → Type 0
IsBeyondElements p = limits.most_array_elements < all_elements (declared_up_to p)

abbrev pub IsBeyond : Place90 → Type 0
IsBeyond p = ((IsDeepBlock p ⊎ IsBeyondBounds p) ⊎ IsBeyondElements p) ⊎ HasManyNames p

module _ (text : List ℕ) (ps : List Placed) (t : AreStatementsOf text ps) where
  -- a cause that has its number alone
  one_cause : {A : Type 0} (n : ℕ) (c : Cause) (o : Result A Refused) → n ≡ number_of_cause c
      → AreOfPlaces text ps c (HoldsAt c ps) → IsClearBelow text n
      → RefusesFirst ps c (HoldsAt c ps) o → Clears text (n + 1) o
  one_cause n c o e of clear h = cleared text ps n c (HoldsAt c ps) e clear of o t (refuses text ps c t) h

  pub literals : {A : Type 0} (o : Result A Refused) → IsClearBelow text 35
      → RefusesFirst ps WideLiteral90 (HoldsAt WideLiteral90 ps) o → Clears text 36 o
  literals o clear h =
      one_cause 35 WideLiteral90 o refl
      (simple text ps WideLiteral90 t tt (omega arith) (λ e. let k : 35 ≡ 37 = e in omega arith)
      (λ e. let k : 35 ≡ 40 = e in omega arith)) clear h

  pub depth : {A : Type 0} (o : Result A Refused) → IsClearBelow text 36 → RefusesFirst ps Deep90 (HoldsAt Deep90 ps) o
      → Clears text 37 o
  depth o clear h =
      one_cause 36 Deep90 o refl
      (simple text ps Deep90 t tt (omega arith) (λ e. let k : 36 ≡ 37 = e in omega arith)
      (λ e. let k : 36 ≡ 40 = e in omega arith)) clear h

  pub names : {A : Type 0} (o : Result A Refused) → IsClearBelow text 38
      → RefusesFirst ps Declared90 (HoldsAt Declared90 ps) o → Clears text 39 o
  names o clear h =
      one_cause 38 Declared90 o refl
      (simple text ps Declared90 t tt (omega arith) (λ e. let k : 38 ≡ 37 = e in omega arith)
      (λ e. let k : 38 ≡ 40 = e in omega arith)) clear h

  pub kinds : {A : Type 0} (o : Result A Refused) → IsClearBelow text 39
      → RefusesFirst ps TypeClash90 (HoldsAt TypeClash90 ps) o → Clears text 40 o
  kinds o clear h =
      one_cause 39 TypeClash90 o refl
      (simple text ps TypeClash90 t tt (omega arith) (λ e. let k : 39 ≡ 37 = e in omega arith)
      (λ e. let k : 39 ≡ 40 = e in omega arith)) clear h

  -- ---- the order of statements

  abbrev Disordered : Place90 → Type 0
  Disordered p = IsTrue (is_disordered ps p)

  refusable_nothing : ps ≡ [] → IsRefusable text (refusal_at Structure 0)
  refusable_nothing e = For (refusal_at Structure 0) (InStatements ps Structure 0 t (HasNoStatement e))

  by_nothing : (r : Refusal) → ps ≡ [] → IsShown ps r → r ≡ refusal_at Structure 0
  by_nothing r e (ShownAt d p i h f) = absurd (no_place ps p e i)
  by_nothing r e (ShownByNothing i f) = f
  by_nothing r e (ShownInBlocks line o m f) = absurd (let k : true ≡ false = sym (ap is_nothing90 e) ∙ o.some in cc)
  by_nothing r e (ShownByNames p i m f) = absurd (no_place ps p e i)

  pub nothing : IsClearBelow text 37 → ps ≡ [] → Refused90 text (refusal_at Structure 0)
  nothing clear e = answered_by (IsRefusable text) (refusal_at Structure 0) (refusable_nothing e) clear later
    where
      later : (other : Refusal) → IsRefusable text other → FollowsIn (refusal_at Structure 0) other
      later other h same =
          let k = clear other h in
          let f = by_nothing other e (shown text ps other t h (omega (arith, k))) in
          inr (
            sym (ap (λ (r : Refusal). r.line) f),
            let w : 0 ≡ other.word = sym (ap (λ (r : Refusal). r.word) f) in
                omega (arith, w),
          )

  disordered : (q : Place90) → IsPlaceIn ps q → Disordered q → AreOfPlaces text ps Structure Disordered
  disordered q j d r h n = by (shown text ps r t h (omega (arith, n)))
    where
      by : IsShown ps r → IsOfPlace ps Structure Disordered r
      by (ShownAt c p i k e) = of_cause text ps Structure c p r i k e tt n
      by (ShownByNothing e f) = absurd (no_place ps q e j)
      by (ShownInBlocks line o m e) = absurd (let k : true ≡ false = sym d ∙ o.none q j in cc)
      by (ShownByNames p i m e) = absurd (let k : 40 ≡ 37 = sym (ap (λ (s : Refusal). s.number) e) ∙ n in omega arith)

  pub disorder_refused : (e : Refused) → IsClearBelow text 37 → IfRefusal e (IsRefusedFirst ps Structure Disordered)
      → IfRefusal e (Refused90 text)
  disorder_refused (refused.Refusal r) clear h =
      answered text ps 37 Structure Disordered refl clear (disordered h.place h.in_text h.holds) t
      (refuses text ps Structure t) r h
  disorder_refused refused.Memory clear h = tt

  module _ (is_order : IsInOrder ps) where
    misplaced_by : (r : Refusal) → r.number ≡ 37 → IsShown ps r → IsOfPlace ps Structure (IsWrongAt ps) r
    misplaced_by r n (ShownAt c p i k e) =
        let f = of_cause text ps Structure c p r i k e tt n in
        absurd (let b : true ≡ false = sym f.holds ∙ is_order.none f.place f.in_text in cc)
    misplaced_by r n (ShownByNothing e f) = absurd (let b : true ≡ false = sym (ap is_nothing90 e) ∙ is_order.some in cc)
    misplaced_by r n (ShownInBlocks line o m e) =
        let w = (misplaced_at_place text ps line t o).0 m in
        record { place = w.0; in_text = w.1; holds = w.2; refusal = e ∙ ap (λ (l : ℕ). refusal_at Structure l) w.3 }
    misplaced_by r n (ShownByNames p i m e) = absurd (let k : 40 ≡ 37 = sym (ap (λ (s : Refusal). s.number) e) ∙ n in
        omega arith)

    refuse_misplaced : Refuse text ps Structure (IsWrongAt ps)
    refuse_misplaced p i w =
        let m = (misplaced_at_place text ps p.here.line t is_order).1 (p, i, w, refl) in
        For (refusal_at Structure p.here.line) (InStatements ps Structure p.here.line t
        (IsWrongInBlocks p.here.line is_order m))

    pub misplaced : {A : Type 0} (o : Result A Refused) → IsClearBelow text 37
        → RefusesFirst ps Structure (IsWrongAt ps) o → Clears text 38 o
    misplaced o clear h =
        cleared text ps 37 Structure (IsWrongAt ps) refl clear
        (λ r k n. misplaced_by r n (shown text ps r t k (omega (arith, n)))) o t refuse_misplaced h

  pub are_ordered : (ps ≡ [] → ⊥) → ((p : Place90) → IsPlaceIn ps p → Disordered p → ⊥) → IsInOrder ps
  are_ordered some none = record {
    some = some_statement ps some;
    none =
        λ p i. not_true (is_disordered ps p) (none p i);
  }

  -- ---- limits

  beyond_by : (p : Place90) → PassesLimit p → IsBeyond p
  beyond_by p (OfBlocks h) = inl (inl (inl h))
  beyond_by p (OfBounds h) = inl (inl (inr h))
  beyond_by p (OfElements h) = inl (inr h)

  limited_by : (r : Refusal) → r.number ≡ 40 → IsShown ps r → IsOfPlace ps Limit90 IsBeyond r
  limited_by r n (ShownAt c p i k e) =
      let f = of_cause text ps Limit90 c p r i k e tt n in record
      { place = f.place; in_text = f.in_text; holds = beyond_by f.place f.holds; refusal = f.refusal }
  limited_by r n (ShownByNothing e f) = absurd (let k : 37 ≡ 40 = sym (ap (λ (s : Refusal). s.number) f) ∙ n in
      omega arith)
  limited_by r n (ShownInBlocks line o m e) = absurd (let k : 37 ≡ 40 = sym (ap (λ (s : Refusal). s.number) e) ∙ n in
      omega arith)
  limited_by r n (ShownByNames p i m e) = record { place = p; in_text = i; holds = inr m; refusal = e }

  passes_names : (p : Place90) → IsPlaceIn ps p → HasManyNames p → PassesNames text p.here.line
  passes_names p i h = record { statements = ps; of_text = t; place = p; in_text = i; many = h; line_is = refl }

  refuse_limit : (p : Place90) → IsPlaceIn ps p → PassesLimit p → IsRefusable text (refusal_at Limit90 p.here.line)
  refuse_limit p i h = refuses text ps Limit90 t p i h

  refuse_beyond : Refuse text ps Limit90 IsBeyond
  refuse_beyond p i (inl (inl (inl h))) = refuse_limit p i (OfBlocks h)
  refuse_beyond p i (inl (inl (inr h))) = refuse_limit p i (OfBounds h)
  refuse_beyond p i (inl (inr h)) = refuse_limit p i (OfElements h)
  refuse_beyond p i (inr h) = ForNames p.here.line (passes_names p i h)

  pub limited : {A : Type 0} (o : Result A Refused) → IsClearBelow text 40 → RefusesFirst ps Limit90 IsBeyond o
      → Clears text 41 o
  limited o clear h =
      cleared text ps 40 Limit90 IsBeyond refl clear (λ r k n. limited_by r n (shown text ps r t k (omega (arith, n))))
      o t refuse_beyond h

-- ---- statements that are held

pub empty_list : {A : Type 0} (xs : List A) (b : Bool) → b ≡ (length xs == 0) → b ≡ true → xs ≡ []
empty_list [] b e t = refl
empty_list (x ∷ xs) b e t = let k : (length (x ∷ xs) == 0) ≡ true = sym e ∙ t in absurd (grind (arith, nat_tests))

pub some_list : {A : Type 0} (xs : List A) (b : Bool) → b ≡ (length xs == 0) → b ≡ false → xs ≡ [] → ⊥
some_list [] b e t n = let k : true ≡ false = sym e ∙ t in cc
some_list (x ∷ xs) b e t n = cc

pub none_held : (ks : List Held) (ps : List Placed) → ks ≡ [] → AreOf IsPlacedOf ks ps → ps ≡ []
none_held ks [] e a = refl
none_held ks (p ∷ ps) e a = let k = subst (λ ls. AreOf IsPlacedOf ls (p ∷ ps)) e a in absurd k

pub some_held : (ks : List Held) (ps : List Placed) → (ks ≡ [] → ⊥) → AreOf IsPlacedOf ks ps → ps ≡ [] → ⊥
some_held [] ps n a e = n refl
some_held (k ∷ ks) [] n a e = a
some_held (k ∷ ks) (p ∷ ps) n a e = cc

-- ---- the refusal at a place

-- where the first place is found, the refusal is for it
pub first_refused : {A : Type 0} (ps : List Placed) (c : Cause) (Holds : Place90 → Type 0) (found : Option ℕ)
    (o : Result A Refused) → RefusesAt ps c found o
    → FindsFirst ps Holds found → RefusesFirst ps c Holds o
first_refused ps c Holds None (Ok x) h f = f
first_refused ps c Holds None (Err e) h f = absurd h
first_refused ps c Holds (Some n) (Ok x) h f = absurd (h f.place f.in_text (sym f.number))
first_refused ps c Holds (Some n) (Err e) h f = subst (λ (d : Refused). IfRefusal d (IsRefusedFirst ps c Holds))
    (sym (h f.place f.in_text (sym f.number))) (record {
      place = f.place;
      in_text = f.in_text;
      holds = f.holds;
      first = λ q i t. let k = f.first q i t in omega (arith, k, f.number);
      refusal = refl;
    })

-- ---- the first of two things

pub first_of_either : (ps : List Placed) (F G : Place90 → Type 0) (a b found : Option ℕ) → found ≡ earlier a b
    → FindsFirst ps F a → FindsFirst ps G b
    → FindsFirst ps (λ p. F p ⊎ G p) found
first_of_either ps F G a b found e f g = subst (FindsFirst ps (λ p. F p ⊎ G p)) (sym e) (first_of_two ps F G a b f g)
