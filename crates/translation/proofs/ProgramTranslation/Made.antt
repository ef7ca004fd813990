-- The names that passes made for the nests of a program are names of their own, each made in one way in all nests: for
-- one nest alone.
use Rattle.std.proofs.Common.{◌≡◌, ◌⊎◌, inl, inr, refl, sym, ap, subst, ◌∙◌, ℕ, ◌+◌, ◌^◌, ◌≤◌, ◌<◌, Bool, cond}
use Rattle.std.proofs.Common.{Option, Some, None, List, [], ◌∷◌, ◌++◌, get_or, length, map, Contains, arith}
use Rattle.std.specs.Option.{IsSomeAnd}
use Rattle.std.specs.Prelude.{codes}
use Rattle.std.proofs.lemmas.Bool.{cases_lt}
use Rattle.std.proofs.lemmas.List.Elements.{Contains-append_cases}
use Rattle.components.specs.Lists as lists
use Rattle.prepared_passes.proofs.ConvertedNests.Masked.{mask_same}
use Rattle.prepared_passes.proofs.ExpandedNests.ArrayNames.{array_names_are_apart}
use Rattle.prepared_passes.proofs.ExpandedNests.FoundExpanded.{found_nest_has_made_names}
use Rattle.prepared_passes.proofs.ExpandedNests.Names.{source_is}
use Rattle.prepared_passes.proofs.ExpandedNests.RangeNames.{range_names_are_apart}
use Rattle.prepared_passes.proofs.SplitNests.Names.{copy_names_are_apart}
use Rattle.prepared_passes.proofs.SplitNests.Places.{split_nest_has_copies}
use Rattle.prepared_passes.specs.expansion.Found.{IsArrayOfNest, IsMaskOfNest, IsRangeOfNest}
use Rattle.prepared_passes.specs.splitting.Kept.{AreCopies}
use Rattle.node_splitting.specs.Arrays.{copy_name}
use Rattle.node_splitting.specs.Split.{made_arrays}
use Rattle.find_nests.specs.Found.{InNest, found_in}
use Rattle.find_nests.specs.LookedAt.{looked_at}
use Rattle.listing.proofs.programs.Arranging.{last_depth}
use Rattle.listing.proofs.programs.Declared.{HasCopiesDeclared}
use Rattle.listing.proofs.programs.Sources.{declared_for, prepared_for, top_made}
use Rattle.listing.proofs.programs.Stages.{few_so, made_by, named_so}
use Rattle.listing.specs.declared.programs.counts.Counts.{Counts}
use Rattle.listing.specs.programs.Passed.{IsPassedAs}
use Rattle.listing.specs.programs.Stages.{with_copies_before}
use Rattle.meaning.specs.Dialect.{fortran77}
use Rattle.tree.specs.declared.width.Width.{Width}
use Rattle.meaning.specs.Profile77.{IsProgram77}
use Rattle.meaning.specs.Profile90.{IsDeclaration, IsExtent}
use Rattle.meaning.specs.SymbolicNames.{IsLongName}
use Rattle.meaning.specs.Typed.{declared, dimensions}
use Rattle.meaning_laws.proofs.profiles.Lists.{all_at}
use Rattle.meaning_laws.proofs.profiles.Names.{found}
use Rattle.nest.specs.Plain.{Made, Nest}
use Rattle.nest_order.specs.orders.Lists.{In}
use Rattle.pass_laws.proofs.NormalFacts.Tables.{all_in}
use Rattle.pass_laws.proofs.PreparedNests.Lists.{Contains-In}
use Rattle.pass_laws.specs.prepared_nests.Made.{IsPreparedMade, extent_for}
use Rattle.pass_laws.specs.prepared_nests.Nests.{IsPrepared}
use Rattle.pass_laws.specs.prepared_nests.Statements.{made_names}
use Rattle.scalar_expand.specs.Expanded.{expanded}
use Rattle.scalar_expand.specs.Privates.{number_behind}
use Rattle.tree.specs.Plain.{Block, Declaration, Expression, Program}
use Rattle.translation.proofs.Converting.{may_of, passed_from}
use Rattle.translation.proofs.LoopNumbers.Nests.{nest_number}
use Rattle.translation.proofs.NestTranslation.Prepared.{at_most, few_masks}
use Rattle.translation.proofs.ProgramTranslation.Declared.{AreMade}
use Rattle.translation.specs.made_declarations.Declaring.{declaration_of_made}
use Rattle.translation.specs.made_declarations.Laws.{IsMadeDeclaration}
use Rattle.translation.specs.nest_blocks.Blocks.{AreNestBlocks, AreNumbered, IsMadeForNest}

-- ---- what is known by a name

each_named : (P : List ℕ → Type 0) (ms : List Made) → lists.Each P (map (λ (a : Made). a.name) ms) → (b : Made) → In b ms
    → P b.name
each_named P [] h b i = absurd i
each_named P (c ∷ ms) h b (inl e) = subst (λ (z : Made). P z.name) (sym e) h.0
each_named P (c ∷ ms) h b (inr i) = each_named P ms h.1 b i

-- what is made for one nest
once_named : (ms : List Made) → lists.Distinct (map (λ (a : Made). a.name) ms) → (a b : Made) → In a ms → In b ms
    → a.name ≡ b.name → a ≡ b
once_named [] h a b i j same = absurd i
once_named (c ∷ ms) h a b (inl e) (inl f) same = e ∙ sym f
once_named (c ∷ ms) h a b (inl e) (inr j) same =
    absurd (each_named (λ y. ¬ (c.name ≡ y)) ms h.0 b j (ap (λ (z : Made). z.name) (sym e) ∙ same))
once_named (c ∷ ms) h a b (inr i) (inl f) same =
    absurd (each_named (λ y. ¬ (c.name ≡ y)) ms h.0 a i (ap (λ (z : Made). z.name) (sym f) ∙ sym same))
once_named (c ∷ ms) h a b (inr i) (inr j) same = once_named ms h.1 a b i j same

some_is : (m n : Nest) → Some m ≡ Some n → m ≡ n
some_is m n e = cc

-- ---- names

-- an array of copies of the nest
record IsCopyOfNest (counts : Counts) (m : Nest) (a : Made) : Type 0 where
  number : ℕ
  from : counts.copies ≤ number
  below : number < m.copies
  name : a.name ≡ copy_name number

-- a mask of the nest, an array for a scalar of the source, the name of a range of one's values, or an array of copies
abbrev IsNamedFor : Nest → Nest → Nest → Counts → Made → Type 0
IsNamedFor n k m counts a =
    IsMaskOfNest k counts.masks a ⊎ (IsArrayOfNest n a ⊎ (IsRangeOfNest n a ⊎ IsCopyOfNest counts m a))

array_is : (n : Nest) (a : Made) (h : IsArrayOfNest n a) → a.name ≡ (codes "FV_EXP_" ++ h.scalar) ++ number_behind n.number
array_is n a h =
    h.name
    ∙ ap (λ (b : Bool). cond b ((codes "FV_EXP_" ++ h.scalar) ++ number_behind n.number) h.scalar)
    (source_is h.scalar h.source)

letter_of : (n k m : Nest) (counts : Counts) (a : Made) → IsNamedFor n k m counts a → get_or a.name 0 0 ≡ 70
letter_of n k m counts a (inl h) = ap (λ (z : List ℕ). get_or z 0 0) h.name
letter_of n k m counts a (inr (inl h)) = ap (λ (z : List ℕ). get_or z 0 0) (array_is n a h)
letter_of n k m counts a (inr (inr (inl h))) = ap (λ (z : List ℕ). get_or z 0 0) h.name
letter_of n k m counts a (inr (inr (inr h))) = ap (λ (z : List ℕ). get_or z 0 0) h.name

-- by the fourth letter
abbrev fourth : List ℕ → ℕ
fourth x = get_or x 3 0

mask_fourth : (k : Nest) (masks : ℕ) (a : Made) → IsMaskOfNest k masks a → fourth a.name ≡ 77
mask_fourth k masks a m = ap fourth m.name

array_fourth : (n : Nest) (a : Made) → IsArrayOfNest n a → fourth a.name ≡ 69
array_fourth n a h = ap fourth (array_is n a h)

range_fourth : (n : Nest) (a : Made) → IsRangeOfNest n a → fourth a.name ≡ 78
range_fourth n a h = ap fourth h.name

copy_fourth : (counts : Counts) (m : Nest) (a : Made) → IsCopyOfNest counts m a → fourth a.name ≡ 67
copy_fourth counts m a h = ap fourth h.name

other_letters : (x y : List ℕ) (c d : ℕ) → fourth x ≡ c → fourth y ≡ d → (c ≡ d → ⊥) → x ≡ y → ⊥
other_letters x y c d f g other e = other (sym f ∙ ap fourth e ∙ g)

module _ (width : Width) (p : Program) (program : IsProgram77 (fortran77 width) p) where
  -- ---- what passes made for one nest

  module _ (counts : Counts) (n m : Nest) (among : Contains (found_in p) (InNest n)) (passed : IsPassedAs counts n m) where
    abbrev k : Nest
    k = passed.named

    small : n.number < 2 ^ 32
    small =
        let least = nest_number p 0 (looked_at p.declarations p.body) n (omega arith) among in
        let less : n.number < 4294967296 = omega (arith, least) in
        less

    -- there are declarations by which the nest is prepared
    abbrev has : HasCopiesDeclared (made_by counts n m passed).may counts.copies k
    has = declared_for width p counts n m program among (made_by counts n m passed)

    prepared : IsPrepared has.declarations has.around last_depth m
    prepared = prepared_for width p counts n m program among (made_by counts n m passed)

    abbrev copies : List Made
    copies = made_arrays (may_of counts n m passed) (with_copies_before counts.copies (expanded k))

    numbers : AreCopies (may_of counts n m passed) (with_copies_before counts.copies (expanded passed.named))
    numbers =
        split_nest_has_copies (may_of counts n m passed) (with_copies_before counts.copies (expanded k))
        (top_made width p counts n m program among (made_by counts n m passed))

    named : (a : Made) → Contains m.made a → IsNamedFor n k m counts a
    named a c =
        by (Contains-append_cases (expanded k).made copies a
        (subst (λ (ms : List Made). Contains ms a) (passed_from counts n m passed).made c))
      where
        of_nest : IsMaskOfNest passed.named counts.masks a ⊎ (IsArrayOfNest n a ⊎ IsRangeOfNest n a)
            → IsNamedFor n passed.named m counts a
        of_nest (inl h) = inl h
        of_nest (inr (inl h)) = inr (inl h)
        of_nest (inr (inr h)) = inr (inr (inl h))

        by : Contains (expanded passed.named).made a
            ⊎ Contains (made_arrays (may_of counts n m passed) (with_copies_before counts.copies (expanded passed.named))) a
            → IsNamedFor n passed.named m counts a
        by (inl i) =
            of_nest (found_nest_has_made_names width p n passed.normal passed.converted k counts.masks program among passed.made
            passed.is_converted (named_so counts n m (made_by counts n m passed))
            (few_so counts n m (made_by counts n m passed)) (few_masks counts n m passed) a i)
        by (inr i) =
            let o = numbers.numbered a (Contains-In a copies i) in
            let below : o.0 < counts.copies + length (made_arrays (may_of counts n m passed)
            (with_copies_before counts.copies (expanded passed.named))) = o.2 in
            let last = (passed_from counts n m passed).copies in
            inr (inr (inr (record { number = o.0; from = o.1; below = omega (arith, below, last); name = o.3 })))

    once : lists.Distinct (made_names m)
    once = prepared.parts.made_once

    made_is : (a : Made) → Contains m.made a → IsPreparedMade has.declarations m.symbols last_depth a
    made_is a c =
        all_in (IsPreparedMade has.declarations m.symbols last_depth) m.made prepared.parts.made a
        (Contains-In a m.made c)

    no_bounds : (es : List Expression) → dimensions (extent_for es) ≡ []
    no_bounds [] = refl
    no_bounds (e ∷ es) = refl

    abbrev IsDeclaredSo : Made → Declaration → Type 0
    IsDeclaredSo a d = (d.kind ≡ a.kind) × (d.extent ≡ extent_for a.extents)

    is_declaration : (a : Made) → Contains m.made a → IsDeclaration (declaration_of_made a)
    is_declaration a c = by (declared has.declarations a.name) refl (made_is a c).declaration
      where
        by : (o : Option Declaration) → declared has.declarations a.name ≡ o → IsSomeAnd o (IsDeclaredSo a)
            → IsDeclaration (declaration_of_made a)
        by None e g = absurd g
        by (Some d) e g =
            let f = found has.declarations a.name d e in
            let is = all_at IsDeclaration has.declarations d has.are.each f.among in
            record { name = subst IsLongName f.name is.name; extent = subst IsExtent g.1 is.extent }

    made_declaration : (a : Made) → Contains m.made a → IsMadeDeclaration (declaration_of_made a)
    made_declaration a c =
        record { declaration = is_declaration a c; made = (made_is a c).made; later = no_bounds a.extents }

  -- ---- of all nests

  module _ (before : ℕ → Counts) (last_of : ℕ → Option Nest) (numbered : AreNumbered before last_of) where
    named_for : (d : Declaration) (h : IsMadeForNest p before last_of d)
        → IsNamedFor h.nest h.passed.named h.last (before h.nest.number) h.array
    named_for d h = named (before h.nest.number) h.nest h.last h.among h.passed h.array h.made

    -- a mask of one nest is none of a nest behind it
    past : (d : Declaration) (h : IsMadeForNest p before last_of d) (j i : ℕ) → i < h.passed.named.masks
        → (before j).masks ≤ i → h.nest.number < j → ⊥
    past d h j i below from less =
        let rise = (numbered h.nest.number j h.last h.is_last less).0 in
        let same = (passed_from (before h.nest.number) h.nest h.last h.passed).masks in
        omega (arith, below, from, rise, same)

    -- nor is a copy
    copies_past : (d : Declaration) (h : IsMadeForNest p before last_of d) (j i : ℕ) → i < h.last.copies
        → (before j).copies ≤ i → h.nest.number < j → ⊥
    copies_past d h j i below from less =
        let rise = (numbered h.nest.number j h.last h.is_last less).1 in omega (arith, below, from, rise)

    module _ (d e : Declaration) (h : IsMadeForNest p before last_of d) (g : IsMadeForNest p before last_of e)
        (same : d.name ≡ e.name) where
      names : h.array.name ≡ g.array.name
      names = ap (λ (z : Declaration). z.name) h.is ∙ same ∙ sym (ap (λ (z : Declaration). z.name) g.is)

      few : (k i : ℕ) → i < k → k ≤ 2 ^ 32 → i < 2 ^ 32
      few k i less most =
          let low : k ≤ 4294967296 = most in
          let e : i < 4294967296 = omega (arith, less, low) in
          e

      masks_number : IsMaskOfNest h.passed.named (before h.nest.number).masks h.array
          → IsMaskOfNest g.passed.named (before g.nest.number).masks g.array → h.nest.number ≡ g.nest.number
      masks_number a b = by (cases_lt h.nest.number g.nest.number) (cases_lt g.nest.number h.nest.number)
        where
          one : a.number ≡ b.number
          one =
              mask_same a.number b.number
              (few h.passed.named.masks a.number a.below (few_masks (before h.nest.number) h.nest h.last h.passed))
              (few g.passed.named.masks b.number b.below (few_masks (before g.nest.number) g.nest g.last g.passed))
              (sym a.name ∙ names ∙ b.name)

          by : (h.nest.number < g.nest.number) ⊎ (g.nest.number ≤ h.nest.number)
              → (g.nest.number < h.nest.number) ⊎ (h.nest.number ≤ g.nest.number) → h.nest.number ≡ g.nest.number
          by (inl less) k =
              absurd (past d h g.nest.number a.number a.below
              (subst (λ (i : ℕ). (before g.nest.number).masks ≤ i) (sym one) b.from) less)
          by (inr most) (inl less) =
              absurd (past e g h.nest.number b.number b.below
              (subst (λ (i : ℕ). (before h.nest.number).masks ≤ i) one a.from) less)
          by (inr most) (inr least) = omega (arith, most, least)

      copies_number : IsCopyOfNest (before h.nest.number) h.last h.array
          → IsCopyOfNest (before g.nest.number) g.last g.array → h.nest.number ≡ g.nest.number
      copies_number a b = by (cases_lt h.nest.number g.nest.number) (cases_lt g.nest.number h.nest.number)
        where
          one : a.number ≡ b.number
          one =
              copy_names_are_apart a.number b.number
              (few h.last.copies a.number a.below (at_most h.last.copies h.passed.copied))
              (few g.last.copies b.number b.below (at_most g.last.copies g.passed.copied))
              (sym a.name ∙ names ∙ b.name)

          by : (h.nest.number < g.nest.number) ⊎ (g.nest.number ≤ h.nest.number)
              → (g.nest.number < h.nest.number) ⊎ (h.nest.number ≤ g.nest.number) → h.nest.number ≡ g.nest.number
          by (inl less) k =
              absurd (copies_past d h g.nest.number a.number a.below
              (subst (λ (i : ℕ). (before g.nest.number).copies ≤ i) (sym one) b.from) less)
          by (inr most) (inl less) =
              absurd (copies_past e g h.nest.number b.number b.below
              (subst (λ (i : ℕ). (before h.nest.number).copies ≤ i) one a.from) less)
          by (inr most) (inr least) = omega (arith, most, least)

      small_number : (x : Declaration) (i : IsMadeForNest p before last_of x) → i.nest.number < 2 ^ 32
      small_number x i = small (before i.nest.number) i.nest i.last i.among i.passed

      -- names of two kinds
      differ : (c z : ℕ) → fourth h.array.name ≡ c → fourth g.array.name ≡ z → (c ≡ z → ⊥)
          → h.nest.number ≡ g.nest.number
      differ c z f k other = absurd (other_letters h.array.name g.array.name c z f k other names)

      abbrev First : Type 0
      First = IsNamedFor h.nest h.passed.named h.last (before h.nest.number) h.array

      abbrev Second : Type 0
      Second = IsNamedFor g.nest g.passed.named g.last (before g.nest.number) g.array

      nest_number_same : h.nest.number ≡ g.nest.number
      nest_number_same = by (named_for d h) (named_for e g)
        where
          mask : IsMaskOfNest h.passed.named (before h.nest.number).masks h.array → Second → h.nest.number ≡ g.nest.number
          mask a (inl b) = masks_number a b
          mask a (inr (inl b)) =
              differ 77 69 (mask_fourth h.passed.named (before h.nest.number).masks h.array a)
              (array_fourth g.nest g.array b) (λ e. omega (arith, e))
          mask a (inr (inr (inl b))) =
              differ 77 78 (mask_fourth h.passed.named (before h.nest.number).masks h.array a)
              (range_fourth g.nest g.array b) (λ e. omega (arith, e))
          mask a (inr (inr (inr b))) =
              differ 77 67 (mask_fourth h.passed.named (before h.nest.number).masks h.array a)
              (copy_fourth (before g.nest.number) g.last g.array b) (λ e. omega (arith, e))

          array : IsArrayOfNest h.nest h.array → Second → h.nest.number ≡ g.nest.number
          array a (inl b) =
              differ 69 77 (array_fourth h.nest h.array a)
              (mask_fourth g.passed.named (before g.nest.number).masks g.array b) (λ e. omega (arith, e))
          array a (inr (inl b)) =
              (array_names_are_apart h.nest.number g.nest.number a.scalar b.scalar (small_number d h) (small_number e g)
              a.source b.source (sym a.name ∙ names ∙ b.name)).0
          array a (inr (inr (inl b))) =
              differ 69 78 (array_fourth h.nest h.array a) (range_fourth g.nest g.array b) (λ e. omega (arith, e))
          array a (inr (inr (inr b))) =
              differ 69 67 (array_fourth h.nest h.array a) (copy_fourth (before g.nest.number) g.last g.array b)
              (λ e. omega (arith, e))

          range : IsRangeOfNest h.nest h.array → Second → h.nest.number ≡ g.nest.number
          range a (inl b) =
              differ 78 77 (range_fourth h.nest h.array a)
              (mask_fourth g.passed.named (before g.nest.number).masks g.array b) (λ e. omega (arith, e))
          range a (inr (inl b)) =
              differ 78 69 (range_fourth h.nest h.array a) (array_fourth g.nest g.array b) (λ e. omega (arith, e))
          range a (inr (inr (inl b))) =
              (range_names_are_apart h.nest.number g.nest.number a.scalar b.scalar a.range b.range (small_number d h)
              (small_number e g) a.few b.few a.source b.source (sym a.name ∙ names ∙ b.name)).0
          range a (inr (inr (inr b))) =
              differ 78 67 (range_fourth h.nest h.array a) (copy_fourth (before g.nest.number) g.last g.array b)
              (λ e. omega (arith, e))

          copy : IsCopyOfNest (before h.nest.number) h.last h.array → Second → h.nest.number ≡ g.nest.number
          copy a (inl b) =
              differ 67 77 (copy_fourth (before h.nest.number) h.last h.array a)
              (mask_fourth g.passed.named (before g.nest.number).masks g.array b) (λ e. omega (arith, e))
          copy a (inr (inl b)) =
              differ 67 69 (copy_fourth (before h.nest.number) h.last h.array a) (array_fourth g.nest g.array b)
              (λ e. omega (arith, e))
          copy a (inr (inr (inl b))) =
              differ 67 78 (copy_fourth (before h.nest.number) h.last h.array a) (range_fourth g.nest g.array b)
              (λ e. omega (arith, e))
          copy a (inr (inr (inr b))) = copies_number a b

          by : First → Second → h.nest.number ≡ g.nest.number
          by (inl a) b = mask a b
          by (inr (inl a)) b = array a b
          by (inr (inr (inl a))) b = range a b
          by (inr (inr (inr a))) b = copy a b

      -- both are of one nest, of which passes make one
      last_same : h.last ≡ g.last
      last_same = some_is h.last g.last (sym h.is_last ∙ ap last_of nest_number_same ∙ g.is_last)

      array_same : h.array ≡ g.array
      array_same =
          once_named g.last.made (once (before g.nest.number) g.nest g.last g.among g.passed) h.array g.array
          (Contains-In h.array g.last.made
          (subst (λ (z : Nest). Contains z.made h.array) last_same h.made))
          (Contains-In g.array g.last.made g.made) names

      pub declared_same : d ≡ e
      declared_same = sym h.is ∙ ap declaration_of_made array_same ∙ g.is

    -- ---- declarations

    module _ (d : Declaration) (h : IsMadeForNest p before last_of d) where
      declared_made : IsMadeDeclaration d
      declared_made =
          subst IsMadeDeclaration h.is
          (made_declaration (before h.nest.number) h.nest h.last h.among h.passed h.array h.made)

      bears_name : h.array.name ≡ d.name
      bears_name = ap (λ (z : Declaration). z.name) h.is

      -- it begins with F
      other_letter : (f : List ℕ) → (get_or f 0 0 ≡ 70 → ⊥) → ¬ (d.name ≡ f)
      other_letter f other e =
          other (subst (λ (x : List ℕ). get_or x 0 0 ≡ 70) (bears_name ∙ e)
          (letter_of h.nest h.passed.named h.last (before h.nest.number) h.array (named_for d h)))

pub names_are_made : (width : Width) (p : Program) (blocks : List (Option Block)) (made : List Declaration) → IsProgram77 (fortran77 width) p
    → AreNestBlocks p blocks made → AreMade made
names_are_made width p blocks made program are = record {
  each = λ d c. declared_made width p program are.before are.last_of are.numbered d (are.made_are d c);
  one = λ d e c k same.
      declared_same width p program are.before are.last_of are.numbered d e (are.made_are d c) (are.made_are e k) same;
  counts = λ d c n.
      let h = are.made_are d c in
      (made_is width p program (are.before h.nest.number) h.nest h.last h.among h.passed h.array h.made).counter n.number
      (ap (λ (z : Declaration). z.name) h.is ∙ sym n.is);
  transpose = λ d c.
      other_letter width p program are.before are.last_of are.numbered d (are.made_are d c) (codes "TRANSPOSE")
      (λ e. omega (arith, e));
  reshape = λ d c.
      other_letter width p program are.before are.last_of are.numbered d (are.made_are d c) (codes "RESHAPE")
      (λ e. omega (arith, e));
}
