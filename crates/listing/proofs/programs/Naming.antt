-- Neither substitution of inductions nor renaming asks anything of what stands behind a nest.
use Rattle.std.proofs.Common.{◌≡◌, ℕ, List, [], ◌∷◌, Option, Some, None, ap, sym, ◌∙◌, subst, refl}
use Rattle.inductions.specs.Found.{inductions_by, outermost_trip}
use Rattle.inductions.specs.Nests.{induction_names, inductions_substituted, substituted_by, with_inductions_put, with_inductions}
use Rattle.inductions.specs.declared.found.Induction.{Induction}
use Rattle.nest.specs.Plain.{Nest}
use Rattle.nest.specs.declared.parts.Trip.{Trip}
use Rattle.scalar_rename.specs.Ranges.{webs_of}
use Rattle.scalar_rename.specs.Renamed.{renamed, with_names}
use Rattle.scalar_rename.specs.declared.ranges.Web.{Web}
use Rattle.statement_passes.specs.Shifted.{with_nest_symbol, with_nest_symbols}
use Rattle.tree.specs.Plain.{Block}

-- ---- inductions

symbols_beside : (n : Nest) (b : Block) (xs : List (List ℕ))
    → with_nest_symbols (record n { after = b }) xs ≡ record (with_nest_symbols n xs) { after = b }
symbols_beside n b [] = refl
symbols_beside n b (x ∷ xs) = symbols_beside (with_nest_symbol n x) b xs

module _ (c : Nest) (b : Block) where
  abbrev beside : Nest
  beside = record c { after = b }

  with_beside : (o : List ℕ × Trip) (ds : List Induction)
      → with_inductions beside o ds ≡ record (with_inductions c o ds) { after = (with_inductions beside o ds).after }
  with_beside o [] = refl
  with_beside o (d ∷ ds) =
      ap (λ (m : Nest). with_inductions_put o.0 (d ∷ ds) (with_inductions beside o (d ∷ ds)).after m)
      (symbols_beside c b (induction_names (d ∷ ds)))

  by_beside : (o : Option (List ℕ × Trip))
      → substituted_by beside o ≡ record (substituted_by c o) { after = (substituted_by beside o).after }
  by_beside None = refl
  by_beside (Some o) = with_beside o (inductions_by c (Some o))

  all_beside : inductions_substituted beside
      ≡ record (inductions_substituted c) { after = (inductions_substituted beside).after }
  unfolding inductions_substituted
  all_beside = by_beside (outermost_trip c.body)

pub substituted_beside : (k c m : Nest) → k ≡ record c { after = k.after } → m ≡ inductions_substituted k
    → m ≡ record (inductions_substituted c) { after = m.after }
substituted_beside k c m same e =
    let is : m ≡ inductions_substituted (record c { after = k.after }) = e ∙ ap inductions_substituted same in
    subst (λ (j : Nest). j ≡ record (inductions_substituted c) { after = j.after }) (sym is) (all_beside c k.after)

-- ---- names

names_beside : (c : Nest) (b : Block) (ws : List Web)
    → with_names (record c { after = b }) ws ≡ record (with_names c ws) { after = b }
names_beside c b [] = refl
names_beside c b (w ∷ ws) = refl

renamed_with_anything_behind : (c : Nest) (b : Block) → renamed (record c { after = b }) ≡ record (renamed c) { after = b }
unfolding renamed
renamed_with_anything_behind c b = names_beside c b (webs_of c)

pub renamed_beside : (k c m : Nest) → k ≡ record c { after = k.after } → m ≡ renamed k
    → m ≡ record (renamed c) { after = m.after }
renamed_beside k c m same e =
    let is = e ∙ ap renamed same ∙ renamed_with_anything_behind c k.after in
    subst (λ (j : Nest). j ≡ record (renamed c) { after = j.after }) (sym is) refl

-- ---- what stays

symbols_rest : (n : Nest) (xs : List (List ℕ))
    → with_nest_symbols n xs ≡ record n { symbols = (with_nest_symbols n xs).symbols; body = (with_nest_symbols n xs).body }
symbols_rest n [] = refl
symbols_rest n (x ∷ xs) = symbols_rest (with_nest_symbol n x) xs

abbrev IsRestOf : Nest → Nest → Type 0
IsRestOf n m = m ≡ record n { symbols = m.symbols; body = m.body; after = m.after }

inductions_rest : (n : Nest) (o : List ℕ × Trip) (ds : List Induction) → IsRestOf n (with_inductions n o ds)
inductions_rest n o [] = refl
inductions_rest n o (d ∷ ds) =
    ap (λ (m : Nest). with_inductions_put o.0 (d ∷ ds) (with_inductions n o (d ∷ ds)).after m)
    (symbols_rest n (induction_names (d ∷ ds)))

outermost_rest : (n : Nest) (o : Option (List ℕ × Trip)) → IsRestOf n (substituted_by n o)
outermost_rest n None = refl
outermost_rest n (Some o) = inductions_rest n o (inductions_by n (Some o))

-- all but symbols, loops with statements, and what comes after them
pub substituted_rest : (n : Nest) → inductions_substituted n ≡ record n {
  symbols = (inductions_substituted n).symbols;
  body = (inductions_substituted n).body;
  after = (inductions_substituted n).after;
}
unfolding inductions_substituted
substituted_rest n = outermost_rest n (outermost_trip n.body)

names_rest : (n : Nest) (ws : List Web)
    → with_names n ws ≡ record n { body = (with_names n ws).body; made = (with_names n ws).made }
names_rest n [] = refl
names_rest n (w ∷ ws) = refl

-- all but loops with statements, and what was made
pub renamed_rest : (n : Nest) → renamed n ≡ record n { body = (renamed n).body; made = (renamed n).made }
unfolding renamed
renamed_rest n = names_rest n (webs_of n)

-- ---- both

pub record IsNamedFrom (n m : Nest) : Type 0 where
  pub number : m.number ≡ n.number
  pub declarations : m.declarations ≡ n.declarations
  pub masks : m.masks ≡ n.masks
  pub after : m.after ≡ (inductions_substituted n).after

pub named_from : (n s m : Nest) → s ≡ inductions_substituted n → m ≡ renamed s → IsNamedFrom n m
named_from n s m i r =
    let is : m ≡ renamed (inductions_substituted n) = r ∙ ap renamed i in
    let one = is ∙ renamed_rest (inductions_substituted n) in
    let two = substituted_rest n in
    record {
      number = ap (λ (z : Nest). z.number) one ∙ ap (λ (z : Nest). z.number) two;
      declarations = ap (λ (z : Nest). z.declarations) one ∙ ap (λ (z : Nest). z.declarations) two;
      masks = ap (λ (z : Nest). z.masks) one ∙ ap (λ (z : Nest). z.masks) two;
      after = ap (λ (z : Nest). z.after) one;
    }
