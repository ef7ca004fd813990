-- The numbers round a statement whose inner loops are in array form.
use Rattle.std.proofs.Common.{◌≡◌, refl, sym, ap, ◌∙◌, subst, inl, inr, ℕ, suc, ◌+◌, ◌^◌, ◌<◌, ◌≤◌, nat_lt, ℤ, pos, negsuc, true, List, [], ◌∷◌, ◌++◌, map, length, Some, append_assoc, arith}
use Rattle.std.specs.Prelude.{IfSome, nat_abs}
use Rattle.tree.specs.OperationFaults.{kind_of}
use Rattle.tree.specs.Plain.{Declaration}
use Rattle.tree.specs.declared.ops.Kind.{Kind}
use Rattle.tree.specs.declared.ops.Kind.TheVariants.{Integer, Logical}
use Rattle.tree.specs.declared.ops.Value.{Value}
use Rattle.tree.specs.declared.ops.Value.TheVariants.{Int, Truth}
use Rattle.meaning.specs.Holding.{IsStorable}
use Rattle.meaning.specs.Store.{Store}
use Rattle.meaning.specs.Typed.{declared}
use Rattle.meaning.specs.Value.{is_in_range}
use Rattle.array_form.specs.forms.Loops.{form_variables_of, form_names_of}
use Rattle.linear_forms.specs.Laws.{AreSized}
use Rattle.linear_forms.specs.Linear.{HaveValues}
use Rattle.nest_order.specs.facts.Facts.{HasFacts, values_from}
use Rattle.nest_order.proofs.facts.Facts.{have-append, sized-append, small_sized, symbols-have, symbols-sized, small_iterations, loops_have}
use Rattle.nest_order.specs.orders.Lists.{In}
use Rattle.nest_order.specs.orders.Shapes.{loops_of_shape}
use Rattle.nest_order.proofs.orders.Common.{statement_stands}
use Rattle.nest_order.proofs.orders.Lists.{In-left, In-right}
use Rattle.nest_order.specs.runs.Guarded.{sequential, variable_cell}
use Rattle.nest_order.specs.runs.Nests.{RunNest}
use Rattle.nest_order.specs.runs.Stores.{Setting, HoldsNest}
use Rattle.nest_order.proofs.runs.Alone.{stands_loops}
use Rattle.array_form.specs.lone.Known.{NumbersAreKnown}
use Rattle.tree.specs.Widths.{bits_of}
use Rattle.tree.specs.declared.width.Width.{Width}
use Rattle.meaning.proofs.Widths.{fits_more, widest}

map-append : {X Y : Type 0} (f : X → Y) (xs ys : List X) → map f (xs ++ ys) ≡ map f xs ++ map f ys
map-append f [] ys = refl
map-append f (x ∷ xs) ys = ap (λ zs. f x ∷ zs) (map-append f xs ys)

integer_is : (v : Value) → kind_of v ≡ Integer → (z : ℤ) × (v ≡ Int z)
integer_is (Int z) e = (z, refl)
integer_is (Truth b) e = absurd (other e)
  where
    other : ◌≡◌ {A = Kind} Logical Integer → ⊥
    other e = cc

sized : (width : Width) (z : ℤ) → is_in_range (bits_of width) (Int z) ≡ true → nat_abs z ≤ 2 ^ 63
sized width (pos k) e = small k (fits_more (bits_of width) 63 (widest width) (pos k) e)
  where
    small : (k : ℕ) → nat_lt k 9223372036854775808 ≡ true → k ≤ 9223372036854775808
    small k e = let a : k < 9223372036854775808 = grind arith in omega arith
sized width (negsuc k) e = small k (fits_more (bits_of width) 63 (widest width) (negsuc k) e)
  where
    small : (k : ℕ) → nat_lt k 9223372036854775808 ≡ true → suc k ≤ 9223372036854775808
    small k e = let a : k < 9223372036854775808 = grind arith in omega arith

module _ (width : Width) (n : RunNest) (w : Setting) (facts : HasFacts (bits_of width) n w) (t : Store) (holds : HoldsNest (bits_of width) n w t) where
  abbrev IsDeclared : ℕ → Type 0
  IsDeclared l = (d : Declaration) × (declared w.program.declarations (n.variable_at l) ≡ Some d) × (d.kind ≡ Integer)

  pub record Held (ls : List ℕ) : Type 0 where
    pub numbers : List ℤ
    pub as_many : length numbers ≡ length ls
    pub have : HaveValues (map n.variable_at ls) t numbers
    pub sized : AreSized numbers

  held : (ls : List ℕ) → ((l : ℕ) → In l ls → In l (loops_of_shape n.shape)) → ((l : ℕ) → In l ls → IsDeclared l) → Held ls
  held [] known are = record { numbers = []; as_many = refl; have = tt; sized = tt }
  held (l ∷ ls) known are =
      let d = are l (inl refl) in
      let v = t.held (variable_cell (n.variable_at l)) in
      let stored : IsStorable (sequential (bits_of width)) d.0.kind v = subst (λ o. IfSome o (λ (e : Declaration). IsStorable (sequential (bits_of width)) e.kind v)) d.1 (holds.program.kinds (variable_cell (n.variable_at l))) in
      let z = integer_is v (stored.kind ∙ d.2) in
      let range : is_in_range (bits_of width) (Int z.0) ≡ true = subst (λ x. is_in_range (bits_of width) x ≡ true) z.1 stored.within in
      let rest = held ls (λ m i. known m (inr i)) (λ m i. are m (inr i)) in
      record {
        numbers = z.0 ∷ rest.numbers;
        as_many = ap suc rest.as_many;
        have = (holds.bounds (n.variable_at l) ∙ facts.variables l (known l (inl refl)), z.1, rest.have);
        sized = (sized width z.0 range, rest.sized);
      }

pub numbers_are_known : (width : Width) → NumbersAreKnown width
numbers_are_known width n w s a outer inner before t facts in_nest fits variables symbols few distinct are within holds at =
    let k = statement_stands n.shape s in_nest in
    let e : k.0 ≡ outer ++ inner = sym (facts.text.nest.fits s k.0 k.1) ∙ fits in
    let known : (m : ℕ) → In m (outer ++ inner) → In m (loops_of_shape n.shape) = λ m j. stands_loops n.shape s k.0 k.1 m (subst (In m) (sym e) j) in
    let out : (m : ℕ) → In m outer → In m (loops_of_shape n.shape) = λ m j. known m (In-left m outer inner j) in
    let inn : (m : ℕ) → In m inner → In m (loops_of_shape n.shape) = λ m j. known m (In-right m outer inner j) in
    let h = held width n w facts t holds inner inn are in
    let vals = values_from w.values 0 n.symbols in
    let syms = symbols-have w.values t n.symbols 0 (λ x i. holds.bounds x ∙ facts.symbols x i) (λ j x f. holds.symbols j x f ∙ ap (λ m. Int (w.values m)) (zero_plus j)) in
    let syms_sized = symbols-sized w.values t n.symbols 0 (λ j x f. subst (λ m. nat_abs (w.values m) ≤ 2 ^ 63) (zero_plus j) (facts.values j x f)) in
    let outs = loops_have (bits_of width) n w facts outer before t (λ m j. holds.bounds (n.variable_at m) ∙ facts.variables m (out m j)) at in
    let all = have-append (map n.variable_at outer) (map n.variable_at inner ++ n.symbols) t (map pos before) (h.numbers ++ vals) outs
    (have-append (map n.variable_at inner) n.symbols t h.numbers vals h.have syms) in
    let names : map n.variable_at outer ++ (map n.variable_at inner ++ n.symbols) ≡ form_names_of a
    = sym (append_assoc (map n.variable_at outer) (map n.variable_at inner) n.symbols)
    ∙ (ap (λ xs. xs ++ n.symbols) (sym (map-append n.variable_at outer inner))
    ∙ (ap (λ xs. xs ++ n.symbols) (sym variables) ∙ ap (λ ys. form_variables_of a.loops ++ ys) (sym symbols))) in (
      h.numbers,
      h.as_many,
      record {
        few = few;
        distinct = distinct;
        values = subst (λ xs. HaveValues xs t (map pos before ++ (h.numbers ++ vals))) names all;
        sized = sized-append (map pos before) (h.numbers ++ vals) (small_sized before (small_iterations (bits_of width) n w facts outer before [] out within)) (sized-append h.numbers vals h.sized syms_sized);
      },
    )
  where
    zero_plus : (j : ℕ) → j ≡ 0 + j
    zero_plus j = omega arith
