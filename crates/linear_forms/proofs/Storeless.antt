-- What has a value where no name has a cell has that value everywhere.
use Rattle.std.proofs.Common.{◌≡◌, List, ◌∷◌, Ok}
use Rattle.tree.specs.Operators.{apply, call}
use Rattle.tree.specs.Steps.{◌>>=◌}
use Rattle.tree.specs.declared.ops.Value.{Value}
use Rattle.tree.specs.Plain.{Expression, Number, Logic, Named, Unary, Binary, Apply, Constructor, Spread, Transpose, Reshape, Reduce, Expressions, no_expressions, expression}
use Rattle.meaning.specs.Dialect.{Dialect, fortran77}
use Rattle.tree.specs.declared.width.Width.TheVariants.{Plain}
use Rattle.meaning.specs.Store.{Store, cell_at}
use Rattle.meaning.specs.Value.{value_of, values_of}
use Rattle.linear_forms.proofs.Parts.{parted, joined}
use Rattle.meaning.specs.Value.{subscript_values}
use Rattle.linear_forms.specs.Linear.{no_store}

module _ (lang : Dialect) (s : Store) where
  mutual
    pub storeless : (e : Expression) (v : Value) → value_of (fortran77 Plain) e no_store ≡ Ok v → value_of lang e s ≡ Ok v
    storeless (Number n) v h = h
    storeless (Logic b) v h = h
    storeless (Named x ps) v h =
        let p = parted (subscript_values (fortran77 Plain) ps no_store) (λ is. do c ← cell_at x is no_store; Ok (no_store.held c)) v h in
        let e = p.second in cc
    storeless (Unary o a) v h =
        let p = parted (value_of (fortran77 Plain) a no_store) (λ x. apply o x x) v h in
        joined (value_of lang a s) (λ x. apply o x x) p.part v (storeless a p.part p.first) p.second
    storeless (Binary o a b) v h =
        let p = parted (value_of (fortran77 Plain) a no_store) (λ x. do y ← value_of (fortran77 Plain) b no_store; apply o x y) v h in
        let q = parted (value_of (fortran77 Plain) b no_store) (λ y. apply o p.part y) v p.second in
        joined (value_of lang a s) (λ x. do y ← value_of lang b s; apply o x y) p.part v (storeless a p.part p.first)
        (joined (value_of lang b s) (λ y. apply o p.part y) q.part v (storeless b q.part q.first) q.second)
    storeless (Apply f es) v h =
        let p = parted (values_of (fortran77 Plain) es no_store) (λ xs. call f xs) v h in
        joined (values_of lang es s) (λ xs. call f xs) p.part v (storeless_each es p.part p.first) p.second
    storeless (Constructor es ls) v h = cc
    storeless (Spread a k b) v h = cc
    storeless (Transpose a) v h = cc
    storeless (Reshape a es) v h = cc
    storeless (Reduce r a) v h = cc

    storeless_each : (es : Expressions) (vs : List Value) → values_of (fortran77 Plain) es no_store ≡ Ok vs → values_of lang es s ≡ Ok vs
    storeless_each no_expressions vs h = h
    storeless_each (expression e es) vs h =
        let p = parted (value_of (fortran77 Plain) e no_store) (λ x. do xs ← values_of (fortran77 Plain) es no_store; Ok (x ∷ xs)) vs h in
        let q = parted (values_of (fortran77 Plain) es no_store) (λ xs. Ok (p.part ∷ xs)) vs p.second in
        joined (value_of lang e s) (λ x. do xs ← values_of lang es s; Ok (x ∷ xs)) p.part vs (storeless e p.part p.first)
        (joined (values_of lang es s) (λ xs. Ok (p.part ∷ xs)) q.part vs (storeless_each es q.part q.first) q.second)
