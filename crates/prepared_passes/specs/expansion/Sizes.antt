-- The numbers of the texts of extents.
use Rattle.std.specs.Prelude.{◌≡◌, ℕ, ℤ, true, List, [], length}
use Rattle.std.specs.List.{list_all}
use Rattle.meaning.specs.Dialect.{Dialect}
use Rattle.meaning.specs.Store.{Store}
use Rattle.linear_forms.specs.CanonicalLaws.{AreDistinct}
use Rattle.linear_forms.specs.Laws.{EachHasValue}
use Rattle.nest.specs.Plain.{Nest}
use Rattle.nest.specs.declared.parts.Trip.{Trip}
use Rattle.nest_order.specs.orders.Lists.{In}
use Rattle.last_values.specs.normal_forms.NormalLoops.{has_no_loops}
use Rattle.scalar_expand.specs.Endings.{HoldSymbols}
use Rattle.scalar_expand.specs.Numbers.{numbers_under}
use Rattle.scalar_expand.specs.Privates.{private_scalars}
use Rattle.scalar_expand.specs.Texts.{extent_texts}
use Rattle.scalar_expand.specs.declared.privates.Private.{Private}
use Rattle.pass_laws.specs.prepared_nests.Made.{AreOf64Bits}
use Rattle.prepared_passes.specs.expansion.Laws.{value_among}

-- none of these extents stands on one that is divided
abbrev pub StandAlone : List Trip → Type 0
StandAlone ts = list_all (λ (t : Trip). has_no_loops t.top) ts ≡ true

-- Wherever the symbols hold these values, whether or not a loop is entered, the texts of such extents have the numbers
-- that the array is allocated by, and meet no fault
abbrev pub ExtentTextsHaveNumbers : Type 0
ExtentTextsHaveNumbers =
    (lang : Dialect) (m : Nest) (values : ℕ → ℤ) (u : Store) (p : Private) → AreDistinct m.symbols
    → AreOf64Bits values → HoldSymbols m.symbols (value_among m.symbols 0 values) u → In p (private_scalars m)
    → StandAlone p.extents
    → EachHasValue lang (extent_texts m.symbols p.extents) u (numbers_under (length m.symbols) values [] p.extents)
