-- What splitting leaves of a nest.
use Rattle.std.proofs.Common.{◌≡◌, ◌⊎◌, inl, inr, refl, sym, ap, ap₂, ◌∙◌, subst, ℕ, suc, ◌+◌, Bool, List, [], ◌∷◌, ◌++◌, length, Some}
use Rattle.std.specs.Option.{option_map}
use Rattle.std.specs.Prelude.{slice_index_or}
use Rattle.dependence_graph.specs.declared.graphs.Place.{Place}
use Rattle.nest.specs.Bodies.{Standing, nest_statements}
use Rattle.nest.specs.Plain.{Choice, Guarded, Jump, Label, Loop, Made, Nest, Part, Run, Turns}
use Rattle.nest_order.proofs.orders.Lists.{In-right}
use Rattle.nest_order.proofs.orders.Membership.{In-map}
use Rattle.nest_order.specs.orders.Lists.{In}
use Rattle.nest_order.specs.shapes.Shapes.{IsPlain}
use Rattle.pass_laws.specs.prepared_nests.Loops.{EachLoop, IsPreparedLoop}
use Rattle.prepared_passes.proofs.SymbolsAnew.Prepared.{body_has}
use Rattle.statement_passes.proofs.Standings.{mapped_nest_has}
use Rattle.statement_passes.specs.Passes.{mapped_body, mapped_nest}
use Rattle.statement_passes.specs.Standings.{IsLoop, IsMappedFrom}
use Rattle.tree.specs.Plain.{Block, Reference}
use Rattle.node_splitting.specs.Arrays.{arrays, array, copy_element}
use Rattle.node_splitting.specs.Counts.{variables_from_outside}
use Rattle.node_splitting.specs.Reads.{split_statement, with_copies}
use Rattle.node_splitting.specs.Split.{arrays_from, in_canonical_text, each_split, firsts, firsts_from, if_copied, last_from, made_arrays, may_in, reads_at, with_copy_arrays, with_nodes_split}
use Rattle.prepared_passes.specs.splitting.Kept.{IsSplitFrom, SplitNestKeepsLoops, SplitNestKeepsRest, SplitsWithAnythingBehind}
use Rattle.prepared_passes.specs.splitting.Splits.{IsCopyName}
use Rattle.prepared_passes.proofs.SplitNests.Places.{array_there, first_is, last_is, same_length}
use Rattle.prepared_passes.proofs.SplitNests.Standings.{ComesFrom, IsCopy, comes_from, copy_or_statement}
use Rattle.prepared_passes.proofs.SplitNests.Texts.{split_is}

pub split_loop : (each : List Loop → ℕ → Guarded → List Guarded) (p : Part) → IsLoop p → IsLoop (mapped_body each p)
split_loop each (Turns l ps) t = tt
split_loop each (Run g) t = t
split_loop each (Choice bs ps) t = t
split_loop each (Label n) t = t
split_loop each (Jump n) t = t

-- ---- the nest

module _ (may : Place → Bool) (m : Nest) where
  abbrev pub each : List Loop → ℕ → Guarded → List Guarded
  each = each_split may m.symbols (firsts may m)

  -- a statement of the split nest as it was before its text became canonical
  pub record IsTextOf (pre : List Standing) (from : Standing) (x : Standing) : Type 0 where
    pub raw : Guarded
    pub same : x ≡ record { loops = from.loops; statement = in_canonical_text m.symbols from.loops raw }
    pub is : IsCopy m from.loops (copy_element (variables_from_outside from.loops)) from.statement (last_from may m 0 m.copies pre) (reads_at may (length m.symbols) from.loops (length pre) from.statement) raw
        ⊎ (raw ≡ split_statement (variables_from_outside from.loops) (may_in may (length m.symbols) from.loops (length pre)) from.statement (copy_element (variables_from_outside from.loops)) (last_from may m 0 m.copies pre))

  text_of : (pre post : List Standing) (from x : Standing) (c : ℕ) → slice_index_or (firsts may m) (length pre) 0 ≡ c → c ≡ last_from may m 0 m.copies pre
      → (g : Guarded) → In g (each from.loops (length pre) from.statement) → x ≡ record { loops = from.loops; statement = g } → IsTextOf pre from x
  text_of pre post from x c e f g i same =
      let o = In-map (in_canonical_text m.symbols from.loops) g
      (with_copies (variables_from_outside from.loops) (may_in may (length m.symbols) from.loops (length pre)) (copy_element (variables_from_outside from.loops)) (slice_index_or (firsts may m) (length pre) 0) from.statement) i in
      let there = subst (λ z. In o.it (with_copies (variables_from_outside from.loops) (may_in may (length m.symbols) from.loops (length pre)) (copy_element (variables_from_outside from.loops)) z from.statement)) (e ∙ f) o.inside in
      record {
        raw = o.it;
        same = same ∙ ap (λ (z : Guarded). record { loops = from.loops; statement = z }) o.is;
        is = copy_or_statement m from.loops (copy_element (variables_from_outside from.loops)) from.statement (variables_from_outside from.loops) (may_in may (length m.symbols) from.loops (length pre)) (last_from may m 0 m.copies pre) o.it there;
      }

  -- a statement of the split nest
  pub record IsFromStatement (x : Standing) : Type 0 where
    pub pre : List Standing
    pub from : Standing
    pub post : List Standing
    pub parted : nest_statements m ≡ pre ++ from ∷ post
    pub text : IsTextOf pre from x

  pub from_statement : (x : Standing) → ComesFrom each 0 (nest_statements m) x → IsFromStatement x
  from_statement x o =
      let here : o.number ≡ length o.pre = o.is ∙ sym (same_length o.pre) in
      record {
        pre = o.pre;
        from = o.from;
        post = o.post;
        parted = o.parted;
        text = text_of o.pre o.post o.from x (slice_index_or (firsts may m) (length o.pre) 0) refl
            (ap (λ ss. slice_index_or (firsts_from may m 0 m.copies ss) (length o.pre) 0) o.parted ∙ first_is may m 0 m.copies o.pre o.post o.from) o.guarded
            (subst (λ k. In o.guarded (each o.from.loops k o.from.statement)) here o.inside) o.same;
      }

  pub has : IsLoop m.body → IsPlain m.body → IsMappedFrom each m (mapped_nest each m)
  has loop plain = mapped_nest_has each m loop plain

  -- the array of a copy
  pub array_made : (x : Standing) (f : IsFromStatement x) (a : Made)
      → In a (arrays m f.from.loops (last_from may m 0 m.copies f.pre) (reads_at may (length m.symbols) f.from.loops (length f.pre) f.from.statement)) → In a (made_arrays may m)
  array_made x f a i =
      subst (λ ss. In a (arrays_from may m 0 m.copies ss)) (sym f.parted) (array_there may m 0 m.copies f.pre f.post f.from (length f.pre) (same_length f.pre) a i)

  abbrev IsTarget : Standing → Type 0
  IsTarget x = IsCopyName may m x.statement.left.name ⊎ ((y : Standing) × In y (nest_statements m) × (y.statement.left.name ≡ x.statement.left.name))

  target : (x : Standing) → IsFromStatement x → IsTarget x
  target x f = by f.text.is
    where
      inside : In f.from (nest_statements m)
      inside = subst (λ (zs : List Standing). In f.from zs) (sym f.parted) (In-right f.from f.pre (f.from ∷ f.post) (inl refl))

      by : IsCopy m f.from.loops (copy_element (variables_from_outside f.from.loops)) f.from.statement (last_from may m 0 m.copies f.pre) (reads_at may (length m.symbols) f.from.loops (length f.pre) f.from.statement) f.text.raw
          ⊎ (f.text.raw ≡ split_statement (variables_from_outside f.from.loops) (may_in may (length m.symbols) f.from.loops (length f.pre)) f.from.statement (copy_element (variables_from_outside f.from.loops)) (last_from may m 0 m.copies f.pre))
          → IsTarget x
      by (inl c) = inl (
        array m f.from.loops c.number c.read,
        array_made x f (array m f.from.loops c.number c.read) c.there,
        ap (λ (g : Guarded). g.left.name) (sym c.is) ∙ ap (λ (z : Standing). z.statement.left.name) (sym f.text.same),
      )
      by (inr e) = inr (f.from, inside, ap (λ (g : Guarded). g.left.name) (sym e) ∙ ap (λ (z : Standing). z.statement.left.name) (sym f.text.same))

  kept : IsLoop m.body → IsPlain m.body → IsSplitFrom may m (with_copy_arrays may m (made_arrays may m))
  kept loop plain = record {
    rest = refl;
    made = refl;
    copies = last_is may m;
    loop = split_loop each m.body loop;
    plain = (has loop plain).plain;
    loops = (has loop plain).loops;
    targets = λ x i. target x (from_statement x (comes_from each 0 (nest_statements m) x (subst (λ (zs : List Standing). In x zs) (has loop plain).statements i)));
  }

pub split_nest_keeps_rest : SplitNestKeepsRest
split_nest_keeps_rest may m k loop plain split = subst (IsSplitFrom may m) (sym (split_is may m k split)) (kept may m loop plain)

pub split_nest_keeps_loops : SplitNestKeepsLoops
split_nest_keeps_loops es around deepest may m k h loop split =
    subst (λ (z : Nest). EachLoop (IsPreparedLoop es z.symbols) [] z.body) (sym (split_is may m k split)) (body_has (IsPreparedLoop es m.symbols) (each may m) m.body loop h.parts.loops)

-- ---- with anything behind it

module _ (may : Place → Bool) (m : Nest) (after : Block) where
  abbrev beside : Nest
  beside = record m { after = after }

  arrays_alike : (ls : List Loop) (c : ℕ) (rs : List Reference) → arrays beside ls c rs ≡ arrays m ls c rs
  arrays_alike ls c [] = refl
  arrays_alike ls c (r ∷ rs) = ap (λ as'. array m ls c r ∷ as') (arrays_alike ls (suc c) rs)

  all_alike : (k c : ℕ) (ss : List Standing) → arrays_from may beside k c ss ≡ arrays_from may m k c ss
  all_alike k c [] = refl
  all_alike k c (s ∷ ss) =
      let rs = reads_at may (length m.symbols) s.loops k s.statement in
      ap₂ (λ (xs ys : List Made). xs ++ ys) (arrays_alike s.loops c rs) (all_alike (suc k) (c + length rs) ss)

  firsts_alike : (k c : ℕ) (ss : List Standing) → firsts_from may beside k c ss ≡ firsts_from may m k c ss
  firsts_alike k c [] = refl
  firsts_alike k c (s ∷ ss) = ap (λ cs. c ∷ cs) (firsts_alike (suc k) (c + length (reads_at may (length m.symbols) s.loops k s.statement)) ss)

  last_alike : (k c : ℕ) (ss : List Standing) → last_from may beside k c ss ≡ last_from may m k c ss
  last_alike k c [] = refl
  last_alike k c (s ∷ ss) = last_alike (suc k) (c + length (reads_at may (length m.symbols) s.loops k s.statement)) ss

  abbrev whole : List Made → List ℕ → ℕ → Nest
  whole as' fs c = record m { body = mapped_body (each_split may m.symbols fs) m.body; made = m.made ++ as'; after = after; copies = c }

  by_arrays : (as' : List Made) → if_copied may beside as' ≡ option_map (λ (k : Nest). record k { after = after }) (if_copied may m as')
  by_arrays [] = refl
  by_arrays (a ∷ as') = ap₂ (λ fs c. Some (whole (a ∷ as') fs c)) (firsts_alike 0 m.copies (nest_statements m)) (last_alike 0 m.copies (nest_statements m))

  same_arrays : made_arrays may beside ≡ made_arrays may m
  same_arrays = all_alike 0 m.copies (nest_statements m)

pub splits_with_anything_behind : SplitsWithAnythingBehind
unfolding with_nodes_split
splits_with_anything_behind may m after = ap (if_copied may (record m { after = after })) (same_arrays may m after) ∙ by_arrays may m after (made_arrays may m)
