-- Declared names with their dimensions.
use Rattle.std.proofs.Common.{arith, ◌≡◌, ℕ, ◌≤◌, Bool, true, false, List, [], ◌∷◌, ◌++◌, length, ap, sym, subst, ◌∙◌, ◌<◌, refl, append_assoc, Err}
use Rattle.std.specs.Borrow.{Bor}
use Rattle.f90_grammar.specs.Forms as forms
use Rattle.f90_grammar.specs.Forms.{SuitsAllocatable, written_dimension, written_dimensions, has_dimensions, separated90, IsEntity90, written_entity90}
use Rattle.reading.specs.Characters.{IsList}
use Rattle.f90_grammar.specs.Words as words
use Rattle.f90_grammar.specs.Words.{Word90}
use Rattle.reading.specs.declared.stops.Stop.{Stop}
use Rattle.reading.specs.declared.stops.Stop.TheVariants.{Syntax, Memory}
use Rattle.f90_expressions.specs.words.Tokens.{words_of}
use Rattle.f90_expressions.specs.declared.words.tokens.Token.{Token}
use Rattle.f90_statement.specs.Reading.{Begins, BeginsWithList, IsThe, EndsItem, EndsEntity, Given}
use Rattle.f90_statement.specs.Views.{AreOf, IsDimensionOf, IsEntityOf}
use Rattle.f90_statement.specs.declared.nodes.Dimension.{Dimension}
use Rattle.f90_statement.specs.declared.nodes.Entity.{Entity}
use Rattle.f90_statement.proofs.ListLaws.{as_many}

abbrev pub entity_of : List ℕ → List forms.Dimension → forms.EntityForm90
entity_of x ds = record { name = x; dimensions = ds }

abbrev pub made_of : List ℕ → List Dimension → Entity
made_of x ds = record { name = x; dimensions = ds }

pub ended : (a : Bool) (ws us rest : List Word90) (x : List ℕ) (made : List Dimension)
    → BeginsWithList IsDimensionOf (SuitsAllocatable a) written_dimension ws made us → us ≡ words.Close ∷ rest → length made ≤ 7
    → EndsEntity a ws x (made_of x made) rest
ended a ws us rest x made h c l =
    let e = as_many IsDimensionOf (SuitsAllocatable a) written_dimension made h.part h.is_of in
    record {
      dimensions = h.part;
      are_good = h.is_good;
      few = omega arith;
      is = record { name = refl; dimensions = h.is_of };
      same = h.same ∙ ap (λ (q : List Word90). separated90 written_dimension h.part ++ q) c;
    }

pub too_many : (a : Bool) (made : List Dimension) (ds : List forms.Dimension) → AreOf IsDimensionOf made ds → 7 < length made → length ds ≤ 7 → ⊥
too_many a made ds h m n = let e = as_many IsDimensionOf (SuitsAllocatable a) written_dimension made ds h in omega arith

-- ---- a name with its dimensions

good : (a : Bool) (ds : List forms.Dimension) → IsList (SuitsAllocatable a) ds → length ds ≤ 7 → has_dimensions a ds
good true ds g l = (g, l)
good false [] g l = absurd g
good false (d ∷ ds) g l = (g, l)

list : (a : Bool) (d : forms.Dimension) (ds : List forms.Dimension) → has_dimensions a (d ∷ ds) → IsList (SuitsAllocatable a) (d ∷ ds) × (length (d ∷ ds) ≤ 7)
list true d ds g = g
list false d ds g = g

dimensions_are : (x : List ℕ) (d : forms.Dimension) (ds : List forms.Dimension) (last : List Word90)
    → written_dimensions x (d ∷ ds) ++ last ≡ words.Head x ∷ (separated90 written_dimension (d ∷ ds) ++ words.Close ∷ last)
dimensions_are x d ds last =
    ap (λ (q : List Word90). words.Head x ∷ q) (append_assoc (separated90 written_dimension (d ∷ ds)) (words.Close ∷ []) last)

found_by : (a : Bool) (ws us rest : List Word90) (x : List ℕ) (made : Entity) (ds : List forms.Dimension) → IsList (SuitsAllocatable a) ds → length ds ≤ 7
    → IsEntityOf made (entity_of x ds) → us ≡ separated90 written_dimension ds ++ words.Close ∷ rest → ws ≡ words.Head x ∷ us
    → Begins IsEntityOf (IsEntity90 a) written_entity90 ws made rest
found_by a ws us rest x made [] g l m s e = absurd g
found_by a ws us rest x made (d ∷ ds) g l m s e = record {
  part = entity_of x (d ∷ ds);
  is_of = m;
  is_good = good a (d ∷ ds) g l;
  same = e ∙ (ap (λ (q : List Word90). words.Head x ∷ q) s ∙ sym (dimensions_are x d ds rest));
}

pub bounded_found : (a : Bool) (ws us rest : List Word90) (x : List ℕ) (made : Entity) → ws ≡ words.Head x ∷ us → EndsEntity a us x made rest
    → Begins IsEntityOf (IsEntity90 a) written_entity90 ws made rest
bounded_found a ws us rest x made e h = found_by a ws us rest x made h.dimensions h.are_good h.few h.is h.same e

abbrev IsOnlyBounded : Bool → List Word90 → List ℕ → Entity → List Word90 → Type 0
IsOnlyBounded a us x made rest = (ds : List forms.Dimension) (last : List Word90) → IsList (SuitsAllocatable a) ds → length ds ≤ 7
    → us ≡ separated90 written_dimension ds ++ words.Close ∷ last → IsEntityOf made (entity_of x ds) × (rest ≡ last)

headed : (x y : List ℕ) (us vs : List Word90) → words.Head x ∷ us ≡ words.Head y ∷ vs → (x ≡ y) × (us ≡ vs)
headed x y us vs e = (cc, cc)

only_by : (a : Bool) (ws us rest : List Word90) (x y : List ℕ) (made : Entity) (ds : List forms.Dimension) (last : List Word90) → ws ≡ words.Head x ∷ us
    → IsOnlyBounded a us x made rest → has_dimensions a ds → ws ≡ written_dimensions y ds ++ last → IsEntityOf made (entity_of y ds) × (rest ≡ last)
only_by a ws us rest x y made [] last e o g h = let f = sym e ∙ h in absurd (cc f)
only_by a ws us rest x y made (d ∷ ds) last e o g h =
    let f = headed x y us (separated90 written_dimension (d ∷ ds) ++ words.Close ∷ last) (sym e ∙ (h ∙ dimensions_are y d ds last)) in
    let l = list a d ds g in
    let k = o (d ∷ ds) last l.0 l.1 f.1 in
    (subst (λ (z : List ℕ). IsEntityOf made (entity_of z (d ∷ ds))) f.0 k.0, k.1)

pub bounded_only : (a : Bool) (ws us rest : List Word90) (x : List ℕ) (made : Entity) → ws ≡ words.Head x ∷ us → IsOnlyBounded a us x made rest
    → (e : forms.EntityForm90) (last : List Word90) → IsEntity90 a e → EndsItem last → ws ≡ written_entity90 e ++ last
    → IsThe IsEntityOf (IsEntity90 a) written_entity90 e last made rest
bounded_only a ws us rest x made q o e last g i h = only_by a ws us rest x e.name made e.dimensions last q o g h

lost_by : (a : Bool) (ws us : List Word90) (x y : List ℕ) (ds : List forms.Dimension) (last : List Word90) → ws ≡ words.Head x ∷ us
    → ((cs : List forms.Dimension) (q : List Word90) → IsList (SuitsAllocatable a) cs → length cs ≤ 7 → us ≡ separated90 written_dimension cs ++ words.Close ∷ q → ⊥)
    → has_dimensions a ds → ws ≡ written_dimensions y ds ++ last → ⊥
lost_by a ws us x y [] last e o g h = let f = sym e ∙ h in cc f
lost_by a ws us x y (d ∷ ds) last e o g h =
    let f = headed x y us (separated90 written_dimension (d ∷ ds) ++ words.Close ∷ last) (sym e ∙ (h ∙ dimensions_are y d ds last)) in
    let l = list a d ds g in
    o (d ∷ ds) last l.0 l.1 f.1

pub bounded_err : {C : Type 0} (P : C → Type 0) (a : Bool) (ws us : List Word90) (x : List ℕ) (stop : Stop) → ws ≡ words.Head x ∷ us
    → ((ds : List forms.Dimension) (last : List Word90) → IsList (SuitsAllocatable a) ds → length ds ≤ 7 → us ≡ separated90 written_dimension ds ++ words.Close ∷ last
    → Given (Err stop) (λ (r : Entity × Bor (List Token)). IsEntityOf r.0 (entity_of x ds) × (words_of r.1.now ≡ last)))
    → (e : forms.EntityForm90) (last : List Word90) → IsEntity90 a e → EndsItem last → ws ≡ written_entity90 e ++ last → Given (Err stop) P
bounded_err P a ws us x Syntax q o e last g i h = lost_by a ws us x e.name e.dimensions last q (λ ds z j l s. o ds z j l s) g h
bounded_err P a ws us x Memory q o e last g i h = tt

pub ruleset entities = (bounded_found, bounded_only, bounded_err)
