-- A store that holds a program and further names: the names of the smaller program as they are, the others as at the
-- opening of a run.
use Rattle.std.proofs.Common.{◌≡◌, refl, sym, ap, ◌∙◌, subst, ◌⊎◌, inl, inr, ℕ, suc, ◌≤◌, ◌<◌, ◌^◌, nat_lt, ℤ, pos}
use Rattle.std.proofs.Common.{negsuc, true, Option, Some, None, IfSome, List, Contains, arith}
use Rattle.std.specs.Prelude.{nat_abs}
use Rattle.meaning.specs.Dialect.{fortran77, fortran90}
use Rattle.tree.specs.declared.width.Width.{Width}
use Rattle.meaning.specs.Holding.{HasBounds, HoldsProgram, IsStorable}
use Rattle.meaning.specs.Run.{State}
use Rattle.meaning.specs.Store.{Agree, Cell, Store, cell_in, names_of, nought, nought_like}
use Rattle.meaning.specs.Typed.{declared}
use Rattle.meaning.specs.Value.{is_in_range}
use Rattle.tree.specs.Names.{IsSourceName}
use Rattle.tree.specs.Plain.{Declaration, Extent, Given, Later, Program}
use Rattle.tree.specs.declared.ops.Kind.{Kind}
use Rattle.tree.specs.declared.ops.Kind.TheVariants.{Integer, Logical}
use Rattle.tree.specs.declared.ops.Value.{Value}
use Rattle.tree.specs.declared.ops.Value.TheVariants.{Int}
use Rattle.meaning_laws.proofs.dialects.MadeNames.{is_declared}
use Rattle.linear_forms.specs.Laws.{HoldsSized}
use Rattle.meaning_laws.specs.profiles.Profiles.{AddMadeNames}
use Rattle.nest_steps.specs.Keeping.{GoOnAlike}
use Rattle.meaning_laws.proofs.profiles.Programs.{kept_declaration}
use Rattle.std.specs.Option.{IsSomeAnd}
use Rattle.translation.specs.placed_loops.Beside.{IsUnallocated}
use Rattle.tree.specs.Widths.{bits_of}
use Rattle.meaning.proofs.Widths.{fits_more, widest}
use Rattle.meaning.proofs.Widths.{in_range_more, narrowest}

-- ---- stores that agree

pub agree_back : (p : Program) (s t : Store) → Agree p s t → Agree p t s
agree_back p s t a = record {
  bounds = λ x n. sym (a.bounds x n);
  held = λ c n here. sym (a.held c n (ap (λ b. cell_in b c.name c.subscripts) (a.bounds c.name n) ∙ here));
  kinds = λ c n. sym (a.kinds c n);
}

pub agree_on : (p : Program) (s t u : Store) → Agree p s t → Agree p t u → Agree p s u
agree_on p s t u a b = record {
  bounds = λ x n. a.bounds x n ∙ b.bounds x n;
  held = λ c n here. a.held c n here ∙ b.held c n (ap (λ b. cell_in b c.name c.subscripts) (sym (a.bounds c.name n)) ∙ here);
  kinds = λ c n. a.kinds c n ∙ b.kinds c n;
}

-- one run after another
pub alike_then : (p : Program) (s t u : State) → GoOnAlike p s t → GoOnAlike p t u → GoOnAlike p s u
alike_then p s t u h g = record {
  going = h.going;
  agree = agree_on p s.store t.store u.store h.agree g.agree;
  rest = g.rest ∙ ap (λ (x : State). record x { store = u.store; steps = u.steps }) h.rest;
}

-- what is the same on the names of a program agrees
pub same_agree : (p : Program) (s t : Store) → ((x : List ℕ) → Contains (names_of p) x → s.bounds x ≡ t.bounds x) → ((c : Cell) → Contains (names_of p) c.name → s.held c ≡ t.held c) → Agree p s t
same_agree p s t b h = record { bounds = b; held = λ c n here. h c n; kinds = λ c n. ap nought_like (h c n) }

-- the names of a program with fewer of them
pub agree_fewer : (p q : Program) (s t : Store) → ((x : List ℕ) → Contains (names_of p) x → Contains (names_of q) x) → Agree q s t → Agree p s t
agree_fewer p q s t sub a = record {
  bounds = λ x n. a.bounds x (sub x n);
  held = λ c n here. a.held c (sub c.name n) here;
  kinds = λ c n. a.kinds c (sub c.name n);
}

-- ---- made names are added to made names

pub add_both : (ds es fs : List Declaration) → AddMadeNames ds es → AddMadeNames es fs → AddMadeNames ds fs
add_both ds es fs a b = record {
  kept = λ e c. b.kept e (a.kept e c);
  made = λ e c. by e (b.made e c);
  are = b.are;
}
  where
    by : (e : Declaration) → Contains es e ⊎ (IsSourceName e.name → ⊥) → Contains ds e ⊎ (IsSourceName e.name → ⊥)
    by e (inl c) = a.made e c
    by e (inr f) = inr f

-- ---- the store

abbrev bounds_or : Option Declaration → Option Declaration → Option (List (ℤ × ℤ)) → Option (List (ℤ × ℤ))
bounds_or (Some d) o b = b
bounds_or None (Some e) b = elim e.extent [ Given bs ↦ Some bs | Later n ↦ None ]
bounds_or None None b = None

abbrev value_or : Option Declaration → Option Declaration → Value → Value
value_or (Some d) o v = v
value_or None (Some e) v = nought e.kind
value_or None None v = Int (pos 0)

-- es: the declarations of the names that are as in s; fs: all
abbrev pub cleaned : List Declaration → List Declaration → Store → Store
cleaned es fs s = record {
  bounds = λ x. bounds_or (declared es x) (declared fs x) (s.bounds x);
  held = λ c. value_or (declared es c.name) (declared fs c.name) (s.held c);
}

module _ (es fs : List Declaration) (s : Store) where
  pub cleaned_bounds : (x : List ℕ) (d : Declaration) → declared es x ≡ Some d → (cleaned es fs s).bounds x ≡ s.bounds x
  cleaned_bounds x d e = ap (λ o. bounds_or o (declared fs x) (s.bounds x)) e

  pub cleaned_held : (c : Cell) (d : Declaration) → declared es c.name ≡ Some d → (cleaned es fs s).held c ≡ s.held c
  cleaned_held c d e = ap (λ o. value_or o (declared fs c.name) (s.held c)) e

pub cleaned_agrees : (q : Program) (fs : List Declaration) (s : Store) → Agree q s (cleaned q.declarations fs s)
cleaned_agrees q fs s = same_agree q s (cleaned q.declarations fs s)
    (λ x n. let d = is_declared q.declarations x n in sym (cleaned_bounds q.declarations fs s x d.0 d.1))
    (λ c n. let d = is_declared q.declarations c.name n in sym (cleaned_held q.declarations fs s c d.0 d.1))

-- ---- it holds the program with all names

abbrev Bounded : Option (List (ℤ × ℤ)) → Declaration → Type 0
Bounded b e = HasBounds e.extent b

abbrev Stored : (width : Width) → Value → Declaration → Type 0
Stored width v e = IsStorable (fortran77 width) e.kind v

opening_bounded : (e : Extent) → HasBounds e (elim e [ Given bs ↦ Some bs | Later n ↦ None ])
opening_bounded (Given bs) = refl
opening_bounded (Later n) = tt

opening_stored : (width : Width) (k : Kind) → IsStorable (fortran77 width) k (nought k)
opening_stored width Integer = record { kind = refl; within = in_range_more 31 (bits_of width) (narrowest width) (Int (pos 0)) refl }
opening_stored width Logical = record { kind = refl; within = refl }

bounded : (o r : Option Declaration) (b : Option (List (ℤ × ℤ))) → ((d : Declaration) → o ≡ Some d → r ≡ Some d) → IfSome o (Bounded b) → IfSome r (Bounded (bounds_or o r b))
bounded (Some d) r b k h = subst (λ x. IfSome x (Bounded b)) (sym (k d refl)) h
bounded None (Some e) b k h = opening_bounded e.extent
bounded None None b k h = tt

stored : (width : Width) (o r : Option Declaration) (v : Value) → ((d : Declaration) → o ≡ Some d → r ≡ Some d) → IfSome o (λ (e : Declaration). IsStorable (fortran90 width) e.kind v) → IfSome r (Stored width (value_or o r v))
stored width (Some d) r v k h = subst (λ x. IfSome x (Stored width v)) (sym (k d refl)) (record { kind = h.kind; within = h.within })
stored width None (Some e) v k h = opening_stored width e.kind
stored width None None v k h = tt

pub cleaned_holds : (width : Width) (q r : Program) (s : Store) → AddMadeNames q.declarations r.declarations → HoldsProgram (fortran90 width) q s → HoldsProgram (fortran77 width) r (cleaned q.declarations r.declarations s)
cleaned_holds width q r s a h = record {
  bounds = λ x. bounded (declared q.declarations x) (declared r.declarations x) (s.bounds x) (kept_declaration q.declarations r.declarations a x) (h.bounds x);
  kinds = λ c. stored width (declared q.declarations c.name) (declared r.declarations c.name) (s.held c) (kept_declaration q.declarations r.declarations a c.name) (h.kinds c);
}

-- ---- its numbers are of 64 bits

pub sized : (width : Width) (z : ℤ) → is_in_range (bits_of width) (Int z) ≡ true → nat_abs z ≤ 2 ^ 63
sized width (pos k) e = small k (fits_more (bits_of width) 63 (widest width) (pos k) e)
  where
    small : (k : ℕ) → nat_lt k 9223372036854775808 ≡ true → k ≤ 9223372036854775808
    small k e = let a : k < 9223372036854775808 = grind arith in omega arith
sized width (negsuc k) e = small k (fits_more (bits_of width) 63 (widest width) (negsuc k) e)
  where
    small : (k : ℕ) → nat_lt k 9223372036854775808 ≡ true → suc k ≤ 9223372036854775808
    small k e = let a : k < 9223372036854775808 = grind arith in omega arith

zero_sized : (z : ℤ) → ◌≡◌ {A = Value} (Int (pos 0)) (Int z) → nat_abs z ≤ 2 ^ 63
zero_sized z e = let same : pos 0 ≡ z = cc in subst (λ y. nat_abs y ≤ 2 ^ 63) same (let least : 0 ≤ 9223372036854775808 = omega arith in least)

nought_sized : (k : Kind) (z : ℤ) → nought k ≡ Int z → nat_abs z ≤ 2 ^ 63
nought_sized Integer z e = zero_sized z e
nought_sized Logical z e = let no : ⊥ = cc in absurd no

value_sized : (width : Width) (o r : Option Declaration) (v : Value) (z : ℤ) → IfSome o (λ (e : Declaration). IsStorable (fortran90 width) e.kind v) → value_or o r v ≡ Int z → nat_abs z ≤ 2 ^ 63
value_sized width (Some d) r v z h e = sized width z (subst (λ x. is_in_range (bits_of width) x ≡ true) e h.within)
value_sized width None (Some d) v z h e = nought_sized d.kind z e
value_sized width None None v z h e = zero_sized z e

pub cleaned_sized : (width : Width) (q : Program) (fs : List Declaration) (s : Store) → HoldsProgram (fortran90 width) q s → HoldsSized (cleaned q.declarations fs s)
cleaned_sized width q fs s h c z e = value_sized width (declared q.declarations c.name) (declared fs c.name) (s.held c) z (h.kinds c) e

-- ---- an array that comes later isn't there where it wasn't

freed : (o w : Option Declaration) (b : Option (List (ℤ × ℤ))) (n : ℕ) → IsSomeAnd w (λ (d : Declaration). d.extent ≡ Later n)
    → ((d : Declaration) → o ≡ Some d → w ≡ Some d) → IfSome o (λ (d : Declaration). IsUnallocated d.extent b) → bounds_or o w b ≡ None
freed None None b n h k f = absurd h
freed None (Some d) b n h k f = ap (λ (e : Extent). elim e [ Given bs ↦ Some bs | Later n ↦ None ]) h
freed (Some d) w b n h k f =
    let later = subst (λ (o : Option Declaration). IsSomeAnd o (λ (d : Declaration). d.extent ≡ Later n)) (k d refl) h in
    subst (λ (e : Extent). IsUnallocated e b) later f

pub cleaned_free : (es fs : List Declaration) (s : Store) (x : List ℕ) (n : ℕ)
    → IsSomeAnd (declared fs x) (λ (d : Declaration). d.extent ≡ Later n)
    → ((d : Declaration) → declared es x ≡ Some d → declared fs x ≡ Some d)
    → IfSome (declared es x) (λ (d : Declaration). IsUnallocated d.extent (s.bounds x)) → (cleaned es fs s).bounds x ≡ None
cleaned_free es fs s x n later kept free = freed (declared es x) (declared fs x) (s.bounds x) n later kept free
