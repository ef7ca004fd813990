-- What a prepared array is, by its form.
use Rattle.std.proofs.Common.{◌≡◌, ℕ, List, map, rules, []}
use Rattle.std.specs.declared.boxed.Box.{Box}
use Rattle.std.specs.declared.alloc.Global.{Global}
use Rattle.tree.specs.Steps.{◌>>=◌}
use Rattle.tree.specs.Operators.{apply, call}
use Rattle.tree.specs.declared.ops.Op.{Op}
use Rattle.tree.specs.declared.functions.Fun.{Fun}
use Rattle.tree.specs.declared.lists.Seq.{Seq}
use Rattle.meaning.specs.ArrayValues.{settled, mapped, without_dimension, swapped}
use Rattle.array_values.specs.declared.known.Known.{Known}
use Rattle.array_values.specs.declared.prepared.Prepared.{Prepared, the_lemmas}
use Rattle.array_values.specs.declared.prepared.Prepared.TheVariants as prepared
use Rattle.array_values.specs.Positions.{wider}
use Rattle.array_values.specs.Arrays.{array_in, elements_in, together_all}

pub known_is : (a : Known) → elements_in (prepared.Known a) ≡ settled (array_in a)
unfolding elements_in
known_is a = search (rules, the_lemmas)

pub unary_is : (o : Op) (a : Box Prepared Global) → elements_in (prepared.Unary o a) ≡ mapped (λ x. apply o x x) (elements_in a.value)
unfolding elements_in
unary_is o a = search (rules, the_lemmas)

pub binary_is : (o : Op) (a b : Box Prepared Global) → elements_in (prepared.Binary o a b)
    ≡ record { extents = wider (elements_in a.value).extents (elements_in b.value).extents; at = λ is. (do x ← (elements_in a.value).at is; y ← (elements_in b.value).at is; apply o x y) }
unfolding elements_in
binary_is o a b = search (rules, the_lemmas)

pub call_is : (f : Fun) (ps : Seq Prepared) → elements_in (prepared.Call f ps) ≡ mapped (call f) (together_all [] (map elements_in ps))
unfolding elements_in
call_is f ps = search (rules, the_lemmas)

pub spread_is : (ns : List ℕ) (d : ℕ) (a : Known) → elements_in (prepared.Spread ns d a)
    ≡ record { extents = ns; at = λ is. (settled (array_in a)).at (without_dimension d is) }
unfolding elements_in
spread_is ns d a = search (rules, the_lemmas)

pub transposed_is : (ns : List ℕ) (a : Known) → elements_in (prepared.Transposed ns a)
    ≡ record { extents = ns; at = λ is. (settled (array_in a)).at (swapped is) }
unfolding elements_in
transposed_is ns a = search (rules, the_lemmas)

pub ruleset prepared_laws = (known_is, unary_is, binary_is, call_is, spread_is, transposed_is)
