-- The kinds of names.
use Rattle.std.proofs.Common.{◌≡◌, ◌≢◌, ℕ, zero, suc, Bool, true, false, not, ◌&&◌, ◌||◌, cond, Option, None, List, refl}
use Rattle.tree.specs.declared.ops.Kind.{Kind}
use Rattle.tree.specs.declared.ops.Kind.TheVariants.{Integer}
use Rattle.tree.specs.declared.functions.Fun.{Fun}
use Rattle.tree.specs.Functions.{function_named}
use Rattle.f77_grammar.specs.program.Uses as plain
use Rattle.f77_grammar.specs.program.Kinds as kinds
use Rattle.f77_names.specs.NameFacts.{function_of}

pub takes-function : (us : List plain.Use77) (x : List ℕ) (n : ℕ) → kinds.takes_so_many (function_of us x) n ≡ (plain.is_function us x && kinds.takes_so_many (function_named x) n)
takes-function us x n = cases (plain.is_function us x) (function_named x)
  where
    cases : (b : Bool) (f : Option Fun) → kinds.takes_so_many (cond b f None) n ≡ (b && kinds.takes_so_many f n)
    cases true f = refl
    cases false f = refl

pub name_kind-alone : (us : List plain.Use77) (x : List ℕ) (n : ℕ) (k : Kind) → n ≡ 0
    → kinds.name_has_kind us x n k ≡ (not (plain.is_array_name us x) && kinds.same_kind (plain.kind_of_name us x) k)
name_kind-alone us x zero k h = refl
name_kind-alone us x (suc n) k h = cc

pub name_kind-listed : (us : List plain.Use77) (x : List ℕ) (n : ℕ) (k : Kind) → n ≢ 0
    → kinds.name_has_kind us x n k ≡ ((plain.is_array_name us x && kinds.same_kind (plain.kind_of_name us x) k) || (plain.is_function us x && kinds.takes_so_many (function_named x) n && kinds.same_kind Integer k))
name_kind-listed us x zero k h = absurd (h refl)
name_kind-listed us x (suc n) k h = refl

pub ruleset name_laws = (takes-function, name_kind-alone, name_kind-listed)
