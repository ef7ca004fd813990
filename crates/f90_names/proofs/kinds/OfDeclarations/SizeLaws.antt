-- How many elements arrays have, with a cap.
use Rattle.std.proofs.Common.{arith, ◌≡◌, ℕ, zero, suc, ◌+◌, ◌*◌, ◌<◌, ◌≤◌, ℤ, Bool, true, false, ◌||◌, List, [], ◌∷◌}
use Rattle.std.proofs.Common.{◌++◌, map, length, refl, ap, sym, subst, ◌∙◌, append_assoc, ◌↔◌, true≢false}
use Rattle.std.specs.Prelude.{sum, Contains}
use Rattle.std.proofs.lemmas.List.Elements.{Contains-append_left, Contains-push}
use Rattle.std.specs.List.{list_any, AllByRecursion}
use Rattle.std.proofs.lemmas.Grind.{flat_map-append}
use Rattle.std.proofs.lemmas.List.{map-append, append-nil, length-append, length-map}
use Rattle.std.proofs.lemmas.List.Folds.{list_any-append}
use Rattle.std.proofs.lemmas.List.Sums.{sum_by-append, sum_by-cons}
use Rattle.tree.specs.Limits as limits
use Rattle.tree.specs.Plain.{Declaration}
use Rattle.tree.specs.declared.ops.Kind.{Kind}
use Rattle.meaning.specs.Extents.{array_elements}
use Rattle.meaning.specs.Extents.{elements_of}
use Rattle.meaning.specs.Extents.{IsDimension}
use Rattle.meaning.specs.Store.{size_of}
use Rattle.meaning.specs.Typed.{dimensions}
use Rattle.f90_grammar.specs.Blocks as grammar
use Rattle.f90_grammar.specs.Bounds.{HasBounds, declared_up_to}
use Rattle.f90_grammar.specs.Contents.{is_declared_wide, has_wide_literal_in}
use Rattle.f90_grammar.specs.Declared.{declarations_in, declarations_of}
use Rattle.f90_grammar.specs.Forms as forms
use Rattle.f90_grammar.specs.Forms.{Form90}
use Rattle.f90_grammar.specs.Order.{Place90, IsPlaceIn}
use Rattle.f90_grammar.specs.Reading.{dimension_bounds, entity_declaration}
use Rattle.f90_statement.specs.Views.{AreOf, IsEntityOf, IsStatementOf}
use Rattle.f90_statement.specs.declared.nodes.Entity.{Entity}
use Rattle.f90_statement.specs.declared.nodes.Statement.{Statement}
use Rattle.f90_statement.specs.declared.nodes.Statement.TheVariants.{Declare}
use Rattle.f90_names.proofs.kinds.OfDeclarations.EntryLaws.{is_declaration, declares_nothing}
use Rattle.f90_names.proofs.kinds.OfDeclarations.PlaceLaws.{same_length}
use Rattle.f90_names.specs.kinds.declarations.Bounds.{are_wide, given_bounds, given_in, elements_in, all_elements}
use Rattle.meaning.specs.element_counts.Counts.{capped}

-- ---- tests that fail

pub or_left : (a b : Bool) → (a || b) ≡ false → a ≡ false
or_left true b h = h
or_left false b h = refl

pub or_right : (a b : Bool) → (a || b) ≡ false → b ≡ false
or_right true b h = cc
or_right false b h = h

pub any_left : {A : Type 0} (p : A → Bool) (xs : List A) (x : A) → list_any p (xs ++ x ∷ []) ≡ false
    → list_any p xs ≡ false
any_left p xs x h = or_left (list_any p xs) (list_any p (x ∷ [])) (sym (list_any-append p xs (x ∷ [])) ∙ h)

pub any_last : {A : Type 0} (p : A → Bool) (xs : List A) (x : A) → list_any p (xs ++ x ∷ []) ≡ false → p x ≡ false
any_last p xs x h = or_left (p x) false
    (or_right (list_any p xs) (list_any p (x ∷ [])) (sym (list_any-append p xs (x ∷ [])) ∙ h))

-- ---- dimensions

capped_factor : (a b : ℕ) → capped (a * b) ≡ capped (capped a * b)
capped_factor a zero = grind arith
capped_factor a (suc k) = grind arith

turned : (a b : ℕ) → a * b ≡ b * a
turned a b = grind arith

capped_product : (a b : ℕ) → capped (capped a * capped b) ≡ capped (a * b)
capped_product a b =
    sym (capped_factor a (capped b)) ∙ ap capped (turned a (capped b)) ∙ sym (capped_factor b a)
    ∙ ap capped (turned b a)

elements_more : (bs : List (ℤ × ℤ)) (b : ℤ × ℤ) → elements_of (bs ++ b ∷ []) ≡ elements_of bs * size_of b
elements_more [] b = let n = size_of b in one n
  where
    one : (n : ℕ) → n * 1 ≡ 1 * n
    one n = omega arith
elements_more (c ∷ bs) b =
    ap (λ n. size_of c * n) (elements_more bs b) ∙ grouped (size_of c) (elements_of bs) (size_of b)
  where
    grouped : (a b c : ℕ) → a * (b * c) ≡ (a * b) * c
    grouped a b c = grind arith

pub product_more : (ds : List forms.Dimension) (d : forms.Dimension) (product size new : ℕ)
    → product ≡ capped (elements_of (map dimension_bounds ds)) → size ≡ capped (size_of (dimension_bounds d))
    → new ≡ capped (product * size) → new ≡ capped (elements_of (map dimension_bounds (ds ++ d ∷ [])))
product_more ds d product size new e f g =
    g ∙ ap (λ n. capped (n * size)) e ∙ ap (λ n. capped (capped (elements_of (map dimension_bounds ds)) * n)) f
    ∙ capped_product (elements_of (map dimension_bounds ds)) (size_of (dimension_bounds d))
    ∙ ap capped (sym (elements_more (map dimension_bounds ds) (dimension_bounds d)))
    ∙ ap (λ bs. capped (elements_of bs)) (sym (map-append dimension_bounds ds (d ∷ [])))

pub some_elements : (ds : List forms.Dimension) → 1 ≤ length ds
    → elements_of (map dimension_bounds ds) ≡ array_elements (map dimension_bounds ds)
some_elements [] l = absurd (omega arith)
some_elements (d ∷ ds) l = refl

-- ---- arrays

sum_append : {A : Type 0} (f : A → ℕ) (xs ys : List A) → sum (map f (xs ++ ys)) ≡ sum (map f xs) + sum (map f ys)
sum_append f xs ys = ap sum (map-append f xs ys) ∙ sum_by-append (λ n. n) (map f xs) (map f ys)

capped_sum : (a b m n k : ℕ) → m ≡ capped a → n ≡ capped b → k ≡ capped (m + n) → k ≡ capped (a + b)
capped_sum a b m n k e f g = omega arith

abbrev elements_of_entity : forms.EntityForm90 → ℕ
elements_of_entity e = array_elements (given_bounds e)

pub array_more : (es : List forms.EntityForm90) (e : forms.EntityForm90) (count here new : ℕ) → count ≡ capped (elements_in es)
    → here ≡ capped (array_elements (given_bounds e)) → new ≡ capped (count + here)
    → new ≡ capped (elements_in (es ++ e ∷ []))
array_more es e count here new f g h =
    capped_sum (elements_in es) (elements_of_entity e) count here new f g h
    ∙ ap capped (sym (sum_append elements_of_entity es (e ∷ [])
    ∙ ap (λ n. elements_in es + n) (one (elements_of_entity e))))
  where
    one : (n : ℕ) → sum (n ∷ []) ≡ n
    one n = omega arith

-- ---- declarations

given_sizes : (k : Kind) (es : List forms.EntityForm90)
    → map (λ (d : Declaration). array_elements (dimensions d.extent))
    (map (entity_declaration k false) es) ≡ map elements_of_entity es
given_sizes k [] = refl
given_sizes k (e ∷ es) = ap (λ ns. elements_of_entity e ∷ ns) (given_sizes k es)

pub given_elements : (k : Kind) (es : List forms.EntityForm90)
    → all_elements (map (entity_declaration k false) es) ≡ elements_in es
given_elements k es = ap sum (given_sizes k es)

pub later_elements : (k : Kind) (es : List forms.EntityForm90) → all_elements (map (entity_declaration k true) es) ≡ 0
later_elements k [] = refl
later_elements k (e ∷ es) =
    sum_by-cons (λ n. n) 0
    (map (λ (d : Declaration). array_elements (dimensions d.extent)) (map (entity_declaration k true) es))
    ∙ (nothing (all_elements (map (entity_declaration k true) es)) ∙ later_elements k es)
  where
    nothing : (n : ℕ) → 0 + n ≡ n
    nothing n = omega arith

pub declared_more : (ps : List grammar.Placed) (p : grammar.Placed)
    → declarations_of (ps ++ p ∷ []) ≡ declarations_of ps ++ declarations_in p.form
declared_more ps p =
    flat_map-append (λ (q : grammar.Placed). declarations_in q.form) ps (p ∷ [])
    ∙ ap (λ ds. declarations_of ps ++ ds) (append-nil (declarations_in p.form))

pub count_more : (ps : List grammar.Placed) (p : grammar.Placed) (count here new : ℕ)
    → count ≡ capped (all_elements (declarations_of ps)) → here ≡ capped (all_elements (declarations_in p.form))
    → new ≡ capped (count + here) → new ≡ capped (all_elements (declarations_of (ps ++ p ∷ [])))
count_more ps p count here new f g h =
    capped_sum (all_elements (declarations_of ps)) (all_elements (declarations_in p.form)) count here new f g h
    ∙ ap capped (sym (ap all_elements (declared_more ps p)
    ∙ sum_append (λ (d : Declaration). array_elements (dimensions d.extent)) (declarations_of ps)
    (declarations_in p.form)))

pub names_more : (ps : List grammar.Placed) (p : grammar.Placed)
    → length (declarations_of (ps ++ p ∷ [])) ≡ length (declarations_of ps) + length (declarations_in p.form)
names_more ps p = ap length (declared_more ps p) ∙ length-append (declarations_of ps) (declarations_in p.form)

-- ---- too many elements

abbrev pub HasManyElements : Place90 → Type 0
HasManyElements p = limits.most_array_elements < all_elements (declared_up_to p)

pub are_few : (n count : ℕ) → count ≡ capped n → count ≤ 4194304 → limits.most_array_elements < n → ⊥
are_few n count e l m = absurd (omega arith)

pub are_many : (n count : ℕ) → count ≡ capped n → 4194304 < count → limits.most_array_elements < n
are_many n count e l = omega arith

-- ---- literals of a text

abbrev pub Narrow : List grammar.Placed → Type 0
Narrow ps = (p : grammar.Placed) → Contains ps p → has_wide_literal_in p.form ≡ false

pub narrow_before : (ps : List grammar.Placed) (p : grammar.Placed) → Narrow (ps ++ p ∷ []) → Narrow ps
narrow_before ps p n q c = n q (Contains-append_left ps (p ∷ []) q c)

pub narrow_last : (ps : List grammar.Placed) (p : grammar.Placed) → Narrow (ps ++ p ∷ [])
    → is_declared_wide p.form ≡ false
narrow_last ps p n = or_left (is_declared_wide p.form) _ (n p (Contains-push ps p))

pub narrow_up_to : (ps : List grammar.Placed) (q : Place90) → IsPlaceIn ps q → Narrow ps
    → Narrow (q.before ++ q.here ∷ [])
narrow_up_to ps q i n p c =
    n p (subst (λ (rs : List grammar.Placed). Contains rs p) (append_assoc q.before (q.here ∷ []) q.after ∙ sym i)
    (Contains-append_left (q.before ++ q.here ∷ []) q.after p c))

-- ---- statements

-- the entities of a statement whose bounds it gives
pub record AreGiven (s : Statement) (f : Form90) : Type 0 where
  pub entities : List forms.EntityForm90
  pub are : AreOf IsEntityOf (given_in s) entities
  pub bounds : AllByRecursion (AllByRecursion IsDimension) (map given_bounds entities) ↔ AllByRecursion HasBounds
      (declarations_in f)
  pub elements : all_elements (declarations_in f) ≡ elements_in entities
  pub narrow : is_declared_wide f ≡ false → list_any are_wide entities ≡ false

no_entities : (s : Statement) (f : Form90) → given_in s ≡ [] → AllByRecursion HasBounds (declarations_in f)
    → all_elements (declarations_in f) ≡ 0 → AreGiven s f
no_entities s f e h n = record {
  entities = [];
  are = subst (λ (es : List Entity). AreOf IsEntityOf es []) (sym e) tt;
  bounds = (λ t. h, λ t. tt);
  elements = n;
  narrow = λ w. refl;
}

bounds_to : (k : Kind) (es : List forms.EntityForm90) → AllByRecursion (AllByRecursion IsDimension) (map given_bounds es)
    → AllByRecursion HasBounds (map (entity_declaration k false) es)
bounds_to k [] h = tt
bounds_to k (e ∷ es) h = (h.0, bounds_to k es h.1)

bounds_from : (k : Kind) (es : List forms.EntityForm90) → AllByRecursion HasBounds (map (entity_declaration k false) es)
    → AllByRecursion (AllByRecursion IsDimension) (map given_bounds es)
bounds_from k [] h = tt
bounds_from k (e ∷ es) h = (h.0, bounds_from k es h.1)

later_bounds : (k : Kind) (es : List forms.EntityForm90) → AllByRecursion HasBounds (map (entity_declaration k true) es)
later_bounds k [] = tt
later_bounds k (e ∷ es) = (tt, later_bounds k es)

not_declared : (s : Statement) (f : Form90) → is_declaration s ≡ false → given_in s ≡ [] → IsStatementOf s f
    → AreGiven s f
not_declared s f n e h =
    let d = declares_nothing s f n h in
    no_entities s f e (subst (λ (ds : List Declaration). AllByRecursion HasBounds ds) (sym d) tt) (ap all_elements d)

pub given_are : (s : Statement) (f : Form90) → IsStatementOf s f → AreGiven s f
given_are (Declare k true es) (forms.Declare l true fs) h =
    no_entities (Declare k true es) (forms.Declare l true fs) refl (later_bounds l fs) (later_elements l fs)
given_are (Declare k true es) (forms.Declare l false fs) h = absurd (true≢false h.1)
given_are (Declare k false es) (forms.Declare l true fs) h = absurd (true≢false (sym h.1))
given_are (Declare k false es) (forms.Declare l false fs) h = record {
  entities = fs;
  are = h.2;
  bounds = (λ t. bounds_to l fs t, λ t. bounds_from l fs t);
  elements = given_elements l fs;
  narrow = λ w. w;
}
given_are (Declare k a es) f h = absurd h
given_are s f h = not_declared s f refl refl h

pub declared_names : (k : Kind) (a : Bool) (es : List Entity) (f : Form90) → IsStatementOf (Declare k a es) f
    → length es ≡ length (declarations_in f)
declared_names k a es (forms.Declare l b fs) h =
    same_length IsEntityOf es fs h.2 ∙ sym (length-map fs (entity_declaration l b))
declared_names k a es f h = absurd h
