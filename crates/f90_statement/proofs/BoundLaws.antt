-- The bounds of declared arrays.
use Rattle.std.proofs.Common.{◌≡◌, ℕ, Bool, true, false, List, [], ◌∷◌, ◌++◌, ap, sym, ◌∙◌, refl, append_assoc, Option, Some, None}
use Rattle.tree.specs.OperatorTable.{Sign, Plus, Minus, Negation}
use Rattle.tree.specs.declared.ops.Op.TheVariants.{Add, Sub}
use Rattle.f90_grammar.specs.Forms as forms
use Rattle.f90_grammar.specs.Forms.{IsBound90, written_sign, written_bound90, SuitsAllocatable, written_dimension}
use Rattle.f90_grammar.specs.Words as words
use Rattle.f90_grammar.specs.Words.{Word90}
use Rattle.f90_expressions.specs.Literals.{value_in}
use Rattle.f90_statement.specs.Reading.{Begins, IsThe, EndsItem, IsSigned}
use Rattle.f90_statement.specs.Views.{is_minus, IsBoundOf, IsDimensionOf}
use Rattle.f90_statement.specs.declared.nodes.Bound.{Bound}
use Rattle.f90_statement.specs.declared.nodes.Dimension.{Dimension}
use Rattle.f90_statement.specs.declared.nodes.Dimension.TheVariants.{Upper, Both, Deferred}

-- ---- signs

pub plus_found : (ws rest : List Word90) → ws ≡ words.Operator Add ∷ rest → IsSigned false ws rest
plus_found ws rest e = record { sign = Some Plus; good = λ h. cc; is = refl; same = e }

pub minus_found : (ws rest : List Word90) → ws ≡ words.Operator Sub ∷ rest → IsSigned true ws rest
minus_found ws rest e = record { sign = Some Minus; good = λ h. cc; is = refl; same = e }

pub no_sign_found : (ws : List Word90) → IsSigned false ws ws
no_sign_found ws = record { sign = None; good = λ h. cc; is = refl; same = refl }

abbrev signed : Option Sign → List ℕ → List Word90 → List Word90
signed s digits last = written_sign s ++ words.Digits digits ∷ last

abbrev IsSignOf : Bool → List Word90 → Option Sign → List ℕ → List Word90 → Type 0
IsSignOf b rest s digits last = (b ≡ is_minus s) × (rest ≡ words.Digits digits ∷ last)

pub plus_only : (ws rest : List Word90) (s : Option Sign) (digits : List ℕ) (last : List Word90) → ws ≡ words.Operator Add ∷ rest → (s ≡ Some Negation → ⊥)
    → ws ≡ signed s digits last → IsSignOf false rest s digits last
plus_only ws rest None digits last e g h = let f = sym e ∙ h in absurd (cc f)
plus_only ws rest (Some Plus) digits last e g h = let f = sym e ∙ h in (refl, cc f)
plus_only ws rest (Some Minus) digits last e g h = let f = sym e ∙ h in absurd (cc f)
plus_only ws rest (Some Negation) digits last e g h = absurd (g refl)

pub minus_only : (ws rest : List Word90) (s : Option Sign) (digits : List ℕ) (last : List Word90) → ws ≡ words.Operator Sub ∷ rest → (s ≡ Some Negation → ⊥)
    → ws ≡ signed s digits last → IsSignOf true rest s digits last
minus_only ws rest None digits last e g h = let f = sym e ∙ h in absurd (cc f)
minus_only ws rest (Some Plus) digits last e g h = let f = sym e ∙ h in absurd (cc f)
minus_only ws rest (Some Minus) digits last e g h = let f = sym e ∙ h in (refl, cc f)
minus_only ws rest (Some Negation) digits last e g h = absurd (g refl)

pub no_sign_only : (ws : List Word90) (s : Option Sign) (digits : List ℕ) (last : List Word90) → ((q : List Word90) → ws ≡ words.Operator Add ∷ q → ⊥)
    → ((q : List Word90) → ws ≡ words.Operator Sub ∷ q → ⊥) → (s ≡ Some Negation → ⊥) → ws ≡ signed s digits last → IsSignOf false ws s digits last
no_sign_only ws None digits last p m g h = (refl, h)
no_sign_only ws (Some Plus) digits last p m g h = absurd (p (words.Digits digits ∷ last) h)
no_sign_only ws (Some Minus) digits last p m g h = absurd (m (words.Digits digits ∷ last) h)
no_sign_only ws (Some Negation) digits last p m g h = absurd (g refl)

pub ruleset signs = (plus_found, minus_found, no_sign_found, plus_only, minus_only, no_sign_only)

-- ---- bounds

abbrev pub bound_of : Bool → Option ℕ → Bound
bound_of n m = record { is_negative = n; magnitude = m }

abbrev pub BeginsWithBound : List Word90 → Bound → List Word90 → Type 0
BeginsWithBound ws k rest = Begins IsBoundOf IsBound90 written_bound90 ws k rest

abbrev pub IsOnlySign : Bool → List Word90 → List Word90 → Type 0
IsOnlySign n ws rest = (s : Option Sign) (digits : List ℕ) (last : List Word90) → (s ≡ Some Negation → ⊥) → ws ≡ signed s digits last → IsSignOf n rest s digits last

pub bound_found : (ws us rest : List Word90) (n : Bool) (m : Option ℕ) (t : List ℕ) → IsSigned n ws us → us ≡ words.Digits t ∷ rest → m ≡ value_in t → BeginsWithBound ws (bound_of n m) rest
bound_found ws us rest n m t h e k = record {
  part = record { sign = h.sign; digits = t };
  is_of = record { is_negative = h.is; magnitude = k };
  is_good = h.good;
  same = h.same ∙ (ap (λ (q : List Word90). written_sign h.sign ++ q) e ∙ sym (append_assoc (written_sign h.sign) (words.Digits t ∷ []) rest));
}

same_digits : (t u : List ℕ) (rest last : List Word90) → words.Digits t ∷ rest ≡ words.Digits u ∷ last → (t ≡ u) × (rest ≡ last)
same_digits t u rest last e = (cc, cc)

pub bound_only : (ws us rest : List Word90) (n : Bool) (m : Option ℕ) (t : List ℕ) → IsOnlySign n ws us → us ≡ words.Digits t ∷ rest → m ≡ value_in t
    → (b : forms.Bound90) (last : List Word90) → IsBound90 b → ws ≡ written_bound90 b ++ last → IsThe IsBoundOf IsBound90 written_bound90 b last (bound_of n m) rest
bound_only ws us rest n m t o e k b last g h =
    let f = o b.sign b.digits last g (h ∙ append_assoc (written_sign b.sign) (words.Digits b.digits ∷ []) last) in
    let s = same_digits t b.digits rest last (sym e ∙ f.1) in
    (record { is_negative = f.0; magnitude = k ∙ ap value_in s.0 }, s.1)

pub bound_lost : (ws us : List Word90) (n : Bool) → IsOnlySign n ws us → ((t : List ℕ) (q : List Word90) → us ≡ words.Digits t ∷ q → ⊥)
    → (b : forms.Bound90) (last : List Word90) → IsBound90 b → ws ≡ written_bound90 b ++ last → ⊥
bound_lost ws us n o none b last g h =
    none b.digits last (o b.sign b.digits last g (h ∙ append_assoc (written_sign b.sign) (words.Digits b.digits ∷ []) last)).1

-- ---- dimensions

abbrev pub BeginsWithDimension : Bool → List Word90 → Dimension → List Word90 → Type 0
BeginsWithDimension a ws k rest = Begins IsDimensionOf (SuitsAllocatable a) written_dimension ws k rest

abbrev pub IsTheDimension : Bool → forms.Dimension → List Word90 → Dimension → List Word90 → Type 0
IsTheDimension a d last k rest = IsThe IsDimensionOf (SuitsAllocatable a) written_dimension d last k rest

abbrev pub IsOnlyBound : List Word90 → Bound → List Word90 → Type 0
IsOnlyBound ws k rest = (b : forms.Bound90) (last : List Word90) → IsBound90 b → ws ≡ written_bound90 b ++ last → IsThe IsBoundOf IsBound90 written_bound90 b last k rest

abbrev pub HasNoBound : List Word90 → Type 0
HasNoBound ws = (b : forms.Bound90) (last : List Word90) → IsBound90 b → ws ≡ written_bound90 b ++ last → ⊥

both_are : (a b : forms.Bound90) (last : List Word90) → written_dimension (forms.Both a b) ++ last ≡ written_bound90 a ++ words.Colon ∷ (written_bound90 b ++ last)
both_are a b last = append_assoc (written_bound90 a) (words.Colon ∷ written_bound90 b) last

pub upper_found : (ws rest : List Word90) (k : Bound) → BeginsWithBound ws k rest → BeginsWithDimension false ws (Upper k) rest
upper_found ws rest k h = record { part = forms.Upper h.part; is_of = h.is_of; is_good = h.is_good; same = h.same }

pub both_found : (ws us vs rest : List Word90) (k l : Bound) → BeginsWithBound ws k us → us ≡ words.Colon ∷ vs → BeginsWithBound vs l rest
    → BeginsWithDimension false ws (Both k l) rest
both_found ws us vs rest k l h c g = record {
  part = forms.Both h.part g.part;
  is_of = (h.is_of, g.is_of);
  is_good = (h.is_good, g.is_good);
  same = h.same ∙ (ap (λ (q : List Word90). written_bound90 h.part ++ q) (c ∙ ap (λ (q : List Word90). words.Colon ∷ q) g.same) ∙ sym (both_are h.part g.part rest));
}

no_colon : {P : Type 0} (us last : List Word90) → EndsItem last → last ≡ words.Colon ∷ us → P
no_colon us [] h e = absurd (cc)
no_colon us (words.Colon ∷ last) h e = absurd h
no_colon us (w ∷ last) h e = absurd (cc)

pub upper_only : (ws rest : List Word90) (k : Bound) → IsOnlyBound ws k rest → ((q : List Word90) → rest ≡ words.Colon ∷ q → ⊥)
    → (d : forms.Dimension) (last : List Word90) → SuitsAllocatable false d → EndsItem last → ws ≡ written_dimension d ++ last → IsTheDimension false d last (Upper k) rest
upper_only ws rest k o n (forms.Upper b) last g i h = o b last g h
upper_only ws rest k o n (forms.Both a b) last g i h =
    absurd (n (written_bound90 b ++ last) (o a (words.Colon ∷ (written_bound90 b ++ last)) g.0 (h ∙ both_are a b last)).1)
upper_only ws rest k o n forms.Deferred last g i h = absurd g

behind_colon : (us vs : List Word90) → words.Colon ∷ us ≡ words.Colon ∷ vs → us ≡ vs
behind_colon us vs e = cc

pub both_only : (ws us vs rest : List Word90) (k l : Bound) → IsOnlyBound ws k us → us ≡ words.Colon ∷ vs → IsOnlyBound vs l rest
    → (d : forms.Dimension) (last : List Word90) → SuitsAllocatable false d → EndsItem last → ws ≡ written_dimension d ++ last → IsTheDimension false d last (Both k l) rest
both_only ws us vs rest k l o c p (forms.Upper b) last g i h = no_colon vs last i (sym (o b last g h).1 ∙ c)
both_only ws us vs rest k l o c p (forms.Both a b) last g i h =
    let f = o a (words.Colon ∷ (written_bound90 b ++ last)) g.0 (h ∙ both_are a b last) in
    let s = p b last g.1 (behind_colon vs (written_bound90 b ++ last) (sym c ∙ f.1)) in
    ((f.0, s.0), s.1)
both_only ws us vs rest k l o c p forms.Deferred last g i h = absurd g

pub second_lost : (ws us vs : List Word90) (k : Bound) → IsOnlyBound ws k us → us ≡ words.Colon ∷ vs → HasNoBound vs
    → (d : forms.Dimension) (last : List Word90) → SuitsAllocatable false d → EndsItem last → ws ≡ written_dimension d ++ last → ⊥
second_lost ws us vs k o c p (forms.Upper b) last g i h = no_colon vs last i (sym (o b last g h).1 ∙ c)
second_lost ws us vs k o c p (forms.Both a b) last g i h =
    p b last g.1 (behind_colon vs (written_bound90 b ++ last) (sym c ∙ (o a (words.Colon ∷ (written_bound90 b ++ last)) g.0 (h ∙ both_are a b last)).1))
second_lost ws us vs k o c p forms.Deferred last g i h = g

pub first_lost : (ws : List Word90) → HasNoBound ws
    → (d : forms.Dimension) (last : List Word90) → SuitsAllocatable false d → EndsItem last → ws ≡ written_dimension d ++ last → ⊥
first_lost ws o (forms.Upper b) last g i h = o b last g h
first_lost ws o (forms.Both a b) last g i h = o a (words.Colon ∷ (written_bound90 b ++ last)) g.0 (h ∙ both_are a b last)
first_lost ws o forms.Deferred last g i h = g

pub deferred_found : (ws rest : List Word90) → ws ≡ words.Colon ∷ rest → BeginsWithDimension true ws Deferred rest
deferred_found ws rest e = record { part = forms.Deferred; is_of = tt; is_good = tt; same = e }

pub deferred_only : (ws rest : List Word90) → ws ≡ words.Colon ∷ rest
    → (d : forms.Dimension) (last : List Word90) → SuitsAllocatable true d → ws ≡ written_dimension d ++ last → IsTheDimension true d last Deferred rest
deferred_only ws rest e (forms.Upper b) last g h = absurd g
deferred_only ws rest e (forms.Both a b) last g h = absurd g
deferred_only ws rest e forms.Deferred last g h = (tt, behind_colon rest last (sym e ∙ h))

pub deferred_lost : (ws : List Word90) → ((q : List Word90) → ws ≡ words.Colon ∷ q → ⊥)
    → (d : forms.Dimension) (last : List Word90) → SuitsAllocatable true d → ws ≡ written_dimension d ++ last → ⊥
deferred_lost ws n (forms.Upper b) last g h = g
deferred_lost ws n (forms.Both a b) last g h = g
deferred_lost ws n forms.Deferred last g h = n last h
