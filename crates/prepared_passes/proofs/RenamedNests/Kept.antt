-- What renaming leaves of a nest.
use Rattle.std.proofs.Common.{◌≡◌, ◌⊎◌, inl, inr, refl, sym, ap, ◌∙◌, subst, ℕ, ◌+◌, List, [], ◌∷◌, ◌++◌}
use Rattle.std.proofs.lemmas.List.{append-nil}
use Rattle.nest.specs.Bodies.{Standing, nest_loops, nest_statements}
use Rattle.nest.specs.Plain.{Nest}
use Rattle.nest_order.specs.orders.Lists.{In}
use Rattle.pass_laws.specs.prepared_nests.Nests.{IsPrepared}
use Rattle.scalar_rename.specs.Ranges.{webs_of}
use Rattle.scalar_rename.specs.Renamed.{each_renamed, made_of_webs, renamed, renamed_statement, with_names}
use Rattle.scalar_rename.specs.declared.ranges.Web.{Web}
use Rattle.statement_passes.proofs.Standings.{mapped_nest_has}
use Rattle.statement_passes.specs.Passes.{mapped_nest}
use Rattle.statement_passes.specs.Standings.{IsMappedFrom, mapped_standings}
use Rattle.tree.specs.Plain.{Declaration}
use Rattle.prepared_passes.proofs.RenamedNests.Facts.{IsNamed, is_made, own_or_range}
use Rattle.prepared_passes.proofs.RenamedNests.Webs.{names_of}
use Rattle.prepared_passes.specs.renaming.Laws.{IsMadeFor, IsRenamedFrom, RenamedNestKeepsRest}
use Rattle.prepared_passes.specs.renaming.Renamed.{MayBeRenamed}
use Rattle.tree.specs.declared.width.Width.TheVariants.{Plain}

module _ (es : List Declaration) (around : List (List ℕ)) (deepest : ℕ) (m : Nest) (h : IsPrepared es around deepest m) (may : MayBeRenamed es m) where
  abbrev IsTarget : Standing → Type 0
  IsTarget x = IsMadeFor m x.statement.left.name ⊎ ((y : Standing) × In y (nest_statements m) × (y.statement.left.name ≡ x.statement.left.name))

  one_target : (y : Standing) → In y (nest_statements m) → (k : ℕ) → IsTarget (record { loops = y.loops; statement = renamed_statement (webs_of m) k y.statement })
  one_target y i k = by (own_or_range Plain es around deepest m h may (k + 1) y.statement.left.name)
    where
      by : (names_of m (k + 1) y.statement.left.name ≡ y.statement.left.name) ⊎ IsNamed Plain es around deepest m h may y.statement.left.name (names_of m (k + 1) y.statement.left.name)
          → IsTarget (record { loops = y.loops; statement = renamed_statement (webs_of m) k y.statement })
      by (inl e) = inr (y, i, sym e)
      by (inr q) = inl (is_made Plain es around deepest m h may y.statement.left.name (names_of m (k + 1) y.statement.left.name) q)

  all_targets : (xs : List Standing) → ((x : Standing) → In x xs → In x (nest_statements m)) → (k : ℕ) → (x : Standing) → In x (mapped_standings (each_renamed (webs_of m)) k xs) → IsTarget x
  all_targets [] f k x i = absurd i
  all_targets (y ∷ xs) f k x (inl e) = subst IsTarget (sym e) (one_target y (f y (inl refl)) k)
  all_targets (y ∷ xs) f k x (inr i) = all_targets xs (λ z j. f z (inr j)) (k + 1) x i

  has : IsMappedFrom (each_renamed (webs_of m)) m (mapped_nest (each_renamed (webs_of m)) m)
  has = mapped_nest_has (each_renamed (webs_of m)) m may.loop h.plain

  pub kept : (ws : List Web) → webs_of m ≡ ws → IsRenamedFrom m (with_names m ws)
  kept [] e = record {
    rest = refl;
    made = sym (append-nil m.made) ∙ ap (λ us. m.made ++ made_of_webs m.number us) (sym e);
    loops = refl;
    targets = λ x i. inr (x, i, refl);
  }
  kept (w ∷ ws) e = record {
    rest = refl;
    made = ap (λ us. m.made ++ made_of_webs m.number us) (sym e);
    loops = subst (λ us. nest_loops (mapped_nest (each_renamed us) m) ≡ nest_loops m) e has.loops;
    targets = subst (λ us. (x : Standing) → In x (nest_statements (mapped_nest (each_renamed us) m)) → IsTarget x) e
        (λ x i. all_targets (nest_statements m) (λ y j. j) 0 x (subst (λ (zs : List Standing). In x zs) has.statements i));
  }

pub renamed_nest_keeps_rest : RenamedNestKeepsRest
unfolding renamed
renamed_nest_keeps_rest es around deepest m h may = kept es around deepest m h may (webs_of m) refl
