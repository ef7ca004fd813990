-- What stands behind the loops of a prepared nest leaves the stores of its run and of the expanded nest's alike; symbols
-- that stand in no trip get other numbers, the same in both.
use Rattle.std.proofs.Common.{◌≡◌, refl, sym, ap, ap₂, ◌∙◌, subst, ℕ, ℤ, Bool, true, false, cond, List, [], ◌∷◌, ◌++◌, Result, Ok, Err, Option, Some, None}
use Rattle.std.specs.List.{AllByRecursion}
use Rattle.std.specs.Prelude.{IfOk}
use Rattle.std.specs.Str.{bytes_eq}
use Rattle.std.proofs.lemmas.Slice.Eq.{bytes_eq-Decides}
use Rattle.tree.proofs.Laws.{apply-kind}
use Rattle.tree.specs.OperationFaults.{kind_of}
use Rattle.tree.specs.OperatorTable.{result_kind_of}
use Rattle.tree.specs.Steps.{◌>>=◌}
use Rattle.tree.specs.Operators.{apply, as_number, as_truth}
use Rattle.tree.specs.Plain.{Allocate, Apply, Assignment, Binary, Block, Constructor, Deallocate, Do, Expression, GoTo, If, Label, Logic, Named, Number, Only, Print, Read, Reduce, Reference, Reshape, Section, Spread, Statement, Stop, Subscripts, Transpose, Unary, Where, arm, no_arms, no_statements, no_subscripts, statement, subscript}
use Rattle.tree.specs.declared.ops.Fault.{Fault}
use Rattle.tree.specs.declared.ops.Kind.TheVariants.{Integer}
use Rattle.tree.specs.declared.ops.Op.{Op}
use Rattle.tree.specs.declared.ops.Value.{Value}
use Rattle.tree.specs.declared.ops.Value.TheVariants.{Int, Truth}
use Rattle.meaning.specs.Names.{is_among}
use Rattle.meaning.specs.Reads.{names_in, names_in_subscript, names_in_subscripts}
use Rattle.meaning.specs.Run.{does, does_all}
use Rattle.meaning.specs.Store.{Cell, Store, cell_at, cell_in, put}
use Rattle.meaning.specs.Value.{cell_named, subscript_value, subscript_values, truth_of, value_of}
use Rattle.rewrite.specs.Following.{sequential}
use Rattle.rewrite.proofs.Acts.{Stays-does_all}
use Rattle.nest.specs.Bodies.{nest_loops}
use Rattle.nest.specs.Plain.{Loop, Nest}
use Rattle.nest_order.specs.orders.Lists.{In}
use Rattle.nest_order.proofs.runs.Alike.{Alike, value_alike}
use Rattle.nest_order.proofs.runs.Results.{both_ok, ok_same}
use Rattle.nest_order.proofs.runs.Variables.{cell_name, put_there, scalar_place}
use Rattle.nest_steps.specs.Leading.{Leads}
use Rattle.nest_steps.specs.Statements.{cell_of}
use Rattle.nest_steps.proofs.Acts.{Lands, Leads-assignment, Leads-chooses, Leads-from, Leads-nothing, Leads-then}
use Rattle.scalar_expand.specs.Expanded.{named_private}
use Rattle.scalar_expand.specs.Laws.{own_of}
use Rattle.scalar_expand.specs.Privates.{private_scalars}
use Rattle.scalar_expand.specs.Stores.{AreApart, AreSo, Begun, arrays}
use Rattle.scalar_expand.specs.declared.privates.Private.{Private}
use Rattle.scalar_expand.proofs.Changes.{other_name, other_put}
use Rattle.prepared_passes.proofs.ExpandedNests.TripsKept.{AreKept}
use Rattle.prepared_passes.proofs.SymbolsAnew.Names.{is_in, member}
use Rattle.prepared_passes.specs.expansion.Laws.{counters_of}
use Rattle.prepared_passes.specs.expansion.Runs.{AreFree, IsFree, IsNumberBy, IsOther, MayGet}

all_mapped : (P Q : List ℕ → Type 0) (xs : List (List ℕ)) → ((x : List ℕ) → P x → Q x) → AllByRecursion P xs → AllByRecursion Q xs
all_mapped P Q [] f h = tt
all_mapped P Q (x ∷ xs) f h = (f x h.0, all_mapped P Q xs f h.1)

all_left : (P : List ℕ → Type 0) (xs ys : List (List ℕ)) → AllByRecursion P (xs ++ ys) → AllByRecursion P xs
all_left P [] ys h = tt
all_left P (x ∷ xs) ys h = (h.0, all_left P xs ys h.1)

all_right : (P : List ℕ → Type 0) (xs ys : List (List ℕ)) → AllByRecursion P (xs ++ ys) → AllByRecursion P ys
all_right P [] ys h = h
all_right P (x ∷ xs) ys h = all_right P xs ys h.1

-- ---- numbers

abbrev IsInt : Value → Type 0
IsInt v = (w : ℤ) × (v ≡ Int w)

int_of_kind : (v : Value) → kind_of v ≡ Integer → IsInt v
int_of_kind (Int z) e = (z, refl)
int_of_kind (Truth b) e = let no : ⊥ = cc in absurd no

applied : (o : Op) (x y v : Value) → result_kind_of o ≡ Integer → apply o x y ≡ Ok v → IsInt v
applied o x y v k e = int_of_kind v (subst (λ (r : Result Value Fault). IfOk r (λ z. kind_of z ≡ result_kind_of o)) e (apply-kind o x y) ∙ k)

module _ (bits : ℕ) (symbols : List (List ℕ)) (value : List ℕ → ℤ) (s : Store) (fixed : (z : List ℕ) → In z symbols → (s.bounds z ≡ Some []) × (s.held (cell_of z) ≡ Int (value z))) where
  symbol_is : (x : List ℕ) → In x symbols → value_of (sequential bits) (Named x no_subscripts) s ≡ Ok (Int (value x))
  symbol_is x i =
      let h = fixed x i in
      ap (λ (o : Option (List (ℤ × ℤ))). do c ← cell_in o x []; Ok (s.held c)) h.0 ∙ ap (λ (w : Value). let r : Result Value Fault = Ok w in r) h.1

  unary_is : (o : Op) (v : Value) (r : Result Value Fault) → result_kind_of o ≡ Integer → (do x ← r; apply o x x) ≡ Ok v → IsInt v
  unary_is o v (Ok x) k e = applied o x x v k e
  unary_is o v (Err f) k e = let no : ⊥ = cc in absurd no

  binary_is : (o : Op) (v : Value) (r q : Result Value Fault) → result_kind_of o ≡ Integer → (do x ← r; y ← q; apply o x y) ≡ Ok v → IsInt v
  binary_is o v (Ok x) (Ok y) k e = applied o x y v k e
  binary_is o v (Ok x) (Err f) k e = let no : ⊥ = cc in absurd no
  binary_is o v (Err f) q k e = let no : ⊥ = cc in absurd no

  number_is : (e : Expression) (v : Value) → IsNumberBy symbols e → value_of (sequential bits) e s ≡ Ok v → IsInt v
  number_is (Number z) v h e = (z, sym (ok_same {F = Fault} (Int z) v e))
  number_is (Named x no_subscripts) v h e = (value x, sym (ok_same {F = Fault} (Int (value x)) v (sym (symbol_is x h) ∙ e)))
  number_is (Named x (subscript p ps)) v h e = absurd h
  number_is (Unary o a) v h e = unary_is o v (value_of (sequential bits) a s) h e
  number_is (Binary o a b) v h e = binary_is o v (value_of (sequential bits) a s) (value_of (sequential bits) b s) h e
  number_is (Logic b) v h e = absurd h
  number_is (Apply f es) v h e = absurd h
  number_is (Constructor es ls) v h e = absurd h
  number_is (Spread a d n) v h e = absurd h
  number_is (Transpose a) v h e = absurd h
  number_is (Reshape a es) v h e = absurd h
  number_is (Reduce r a) v h e = absurd h

-- ---- stores

module _ (bits : ℕ) (m : Nest) (limits : Private → List (ℤ × ℤ)) (lasts : Private → List ℕ) (was : List ℕ → ℤ)
    (names : AreApart bits (private_scalars m) limits lasts m.symbols was (λ z. In z (counters_of m)) (λ p. In p (own_of m))) (E : List Begun) (K : Private → Type 0) where
  abbrev ps : List Private
  ps = private_scalars m

  abbrev pub SoBy : List (List ℕ) → (List ℕ → ℤ) → Store → Store → Type 0
  SoBy symbols value = AreSo bits (private_scalars m) limits lasts symbols value (λ z. In z (counters_of m)) (λ p. In p (own_of m)) [] [] [] E K

  -- by what the symbols hold in both
  pub record IsSo (s u : Store) : Type 0 where
    pub value : List ℕ → ℤ
    pub kept : AreKept m was value
    pub so : SoBy m.symbols value s u

  -- ---- names that are read

  alike : (s u : Store) → IsSo s u → (z : List ℕ) → IsOther m z → Alike bits s u z
  alike s u h z n = (
    sym (h.so.beside.bounds z n.0 n.1),
    λ is d e. (let name = (cell_name (s.bounds z) z is d e).0 in sym (h.so.beside.held d (ap (named_private ps) name ∙ n.0) (λ i. n.1 (subst (λ y. In y (arrays ps)) name i)))),
  )

  same_value : (e : Expression) → AllByRecursion (IsOther m) (names_in e) → (s u : Store) → IsSo s u → value_of (sequential bits) e s ≡ value_of (sequential bits) e u
  same_value e h s u so = value_alike bits s u e (all_mapped (IsOther m) (Alike bits s u) (names_in e) (λ z n. alike s u so z n) h)

  same_subscripts : (qs : Subscripts) → AllByRecursion (IsOther m) (names_in_subscripts qs) → (s u : Store) → IsSo s u
      → subscript_values (sequential bits) qs s ≡ subscript_values (sequential bits) qs u
  same_subscripts no_subscripts h s u so = refl
  same_subscripts (subscript (Only e) qs) h s u so =
      ap₂ (λ (r : Result ℤ Fault) (q : Result (List ℤ) Fault). do i ← r; is ← q; Ok (i ∷ is))
      (ap (λ (r : Result Value Fault). do x ← r; as_number x) (same_value e (all_left (IsOther m) (names_in e) (names_in_subscripts qs) h) s u so))
      (same_subscripts qs (all_right (IsOther m) (names_in e) (names_in_subscripts qs) h) s u so)
  same_subscripts (subscript (Section a b c) qs) h s u so =
      ap (λ (q : Result (List ℤ) Fault). do i ← subscript_value (sequential bits) (Section a b c) s; is ← q; Ok (i ∷ is))
      (same_subscripts qs (all_right (IsOther m) (names_in_subscript (Section a b c)) (names_in_subscripts qs) h) s u so)

  -- ---- names that get values

  abbrev AreFixed : (List ℕ → ℤ) → Store → Type 0
  AreFixed value s = (z : List ℕ) → In z m.symbols → (s.bounds z ≡ Some []) × (s.held (cell_of z) ≡ Int (value z))

  -- what is said of all but symbols
  without : (value : List ℕ → ℤ) (s u : Store) → SoBy m.symbols value s u → SoBy [] was s u
  without value s u h = record {
    beside = record {
      bounds = h.beside.bounds;
      held = h.beside.held;
      scalars = h.beside.scalars;
      arrays = h.beside.arrays;
      own = h.beside.own;
      counters = h.beside.counters;
      fixed = λ z i. absurd i;
    };
    turned = h.turned;
    elements = λ b i. absurd i;
    passed = λ b i. (let p = h.passed b i in record { among = p.among; same = p.same });
    kept = h.kept;
  }

  with_fixed : (value : List ℕ → ℤ) (s u : Store) → SoBy [] was s u → AreFixed value s → SoBy m.symbols value s u
  with_fixed value s u h f = record {
    beside = record {
      bounds = h.beside.bounds;
      held = h.beside.held;
      scalars = h.beside.scalars;
      arrays = h.beside.arrays;
      own = h.beside.own;
      counters = h.beside.counters;
      fixed = f;
    };
    turned = h.turned;
    elements = λ b i. absurd i;
    passed = λ b i. (let p = h.passed b i in record { among = p.among; same = p.same });
    kept = h.kept;
  }

  names_alone : AreApart bits (private_scalars m) limits lasts [] was (λ z. In z (counters_of m)) (λ p. In p (own_of m))
  names_alone = record {
    named = names.named;
    apart = names.apart;
    counters = names.counters;
    free = λ z i. absurd i;
    loops = names.loops;
    own = names.own;
  }

  -- one more cell that is the same in both
  put_alone : (c : Cell) (v : Value) (s u : Store) → IsOther m c.name → ¬ In c.name (counters_of m) → SoBy [] was s u → SoBy [] was (put c v s) (put c v u)
  put_alone c v s u o n h =
      other_put bits (private_scalars m) limits lasts [] was (λ z. In z (counters_of m)) (λ p. In p (own_of m)) names_alone c v o.0 o.1 (λ i. i) n [] (λ l i. absurd i) [] [] E K s u h

  module _ (c : Cell) (v : Value) (s u : Store) (o : IsOther m c.name) (n : ¬ In c.name (counters_of m)) (h : IsSo s u) where
    no_symbol_put : ¬ In c.name m.symbols → IsSo (put c v s) (put c v u)
    no_symbol_put free = record {
      value = h.value;
      kept = h.kept;
      so = with_fixed h.value (put c v s) (put c v u) (put_alone c v s u o n (without h.value s u h.so))
          (λ z i. (let f = h.so.beside.fixed z i in (f.0, other_name c (cell_of z) v s (λ e. free (subst (λ y. In y m.symbols) (sym e) i)) ∙ f.1)));
    }

    -- what the symbols hold then
    abbrev now : ℤ → List ℕ → ℤ
    now w z = cond (bytes_eq c.name z) w (h.value z)

    apart_now : (w : ℤ) (z : List ℕ) → ¬ (c.name ≡ z) → now w z ≡ h.value z
    apart_now w z e = by (bytes_eq c.name z) refl
      where
        by : (b : Bool) → bytes_eq c.name z ≡ b → cond b w (h.value z) ≡ h.value z
        by true f = absurd (e ((bytes_eq-Decides c.name z).0 f))
        by false f = refl

    fixed_now : (w : ℤ) → v ≡ Int w → c ≡ cell_of c.name → AreFixed (now w) (put c v s)
    fixed_now w is one z i = ((h.so.beside.fixed z i).0, by (bytes_eq c.name z) refl)
      where
        by : (b : Bool) → bytes_eq c.name z ≡ b → (put c v s).held (cell_of z) ≡ Int (cond b w (h.value z))
        by true f =
            let same : c ≡ cell_of z = one ∙ ap cell_of ((bytes_eq-Decides c.name z).0 f) in
            ap (put c v s).held (sym same) ∙ (put_there c v s ∙ is)
        by false f = other_name c (cell_of z) v s (λ e. (let yes : true ≡ false = sym ((bytes_eq-Decides c.name z).1 e) ∙ f in let no : ⊥ = cc in no)) ∙ (h.so.beside.fixed z i).1

    symbol_put : (w : ℤ) → v ≡ Int w → c ≡ cell_of c.name → ((l : Loop) → In l (nest_loops m) → ¬ In c.name (names_in l.last)) → IsSo (put c v s) (put c v u)
    symbol_put w is one none = record {
      value = now w;
      kept = λ z l i j. apart_now w z (λ e. none l i (subst (λ y. In y (names_in l.last)) (sym e) j)) ∙ h.kept z l i j;
      so = with_fixed (now w) (put c v s) (put c v u) (put_alone c v s u o n (without h.value s u h.so)) (fixed_now w is one);
    }

  -- ---- statements

  lands : (r : Reference) (right : Expression) → MayGet m r.name right → AllByRecursion (IsOther m) (names_in_subscripts r.subscripts)
      → (s u : Store) → IsSo s u → (v : Value) → value_of (sequential bits) right s ≡ Ok v → (c : Cell) → cell_named (sequential bits) r s ≡ Ok c → Lands bits IsSo s u r c v
  lands r right w h s u so v f c e =
      let zs = both_ok (subscript_values (sequential bits) r.subscripts s) (λ zs. cell_at r.name zs s) c e in
      let name : c.name ≡ r.name = (cell_name (s.bounds r.name) r.name zs.0 c zs.2).0 in
      record {
        cell = c;
        named =
            sym (ap₂ (λ (q : Result (List ℤ) Fault) (o : Option (List (ℤ × ℤ))). do is ← q; cell_in o r.name is)
            (same_subscripts r.subscripts h s u so) (alike s u so r.name w.0).0)
            ∙ e;
        put = λ range. by name zs.0 zs.2 (is_among m.symbols c.name) refl;
      }
    where
      by : c.name ≡ r.name → (is : List ℤ) → cell_at r.name is s ≡ Ok c → (b : Bool) → is_among m.symbols c.name ≡ b → IsSo (put c v s) (put c v u)
      by name is there false g =
          no_symbol_put c v s u (subst (IsOther m) (sym name) w.0) (λ i. w.1 (subst (λ y. In y (counters_of m)) name i)) so
          (λ i. (let bad : true ≡ false = sym (member m.symbols c.name i) ∙ g in let no : ⊥ = cc in no))
      by name is there true g =
          let i = is_in m.symbols c.name g in
          let k = w.2 (subst (λ y. In y m.symbols) name i) in
          let one : c ≡ cell_of r.name = scalar_place (s.bounds r.name) r.name is c (so.so.beside.fixed r.name (subst (λ y. In y m.symbols) name i)).0 there in
          let int = number_is bits m.symbols so.value s so.so.beside.fixed right v k.1 f in
          symbol_put c v s u (subst (IsOther m) (sym name) w.0) (λ j. w.1 (subst (λ y. In y (counters_of m)) name j)) so int.0 int.1 (one ∙ ap cell_of (sym name))
          (λ l j x. k.0 l j (subst (λ y. In y (names_in l.last)) name x))

  mutual
    one_leads : (c : Statement) → IsFree (IsOther m) (MayGet m) c → Leads IsSo IsSo (does (sequential bits) None c) (does (sequential bits) None c)
    one_leads (Assignment line mark left right) h =
        Leads-assignment bits IsSo IsSo line line mark mark left left right right (λ s u so v f. sym (same_value right h.2 s u so) ∙ f) (λ s u so v f c e. lands left right h.0 h.1 s u so v f c e)
    one_leads (If line (arm test body no_arms) no_statements) h =
        Leads-chooses bits IsSo IsSo line line test test body body
        (λ s u so x f. ap (λ (r : Result Value Fault). do v ← r; as_truth v) (sym (same_value test h.0.0 s u so)) ∙ f)
        (Leads-from IsSo (λ s u. IsSo s u × (truth_of (sequential bits) test s ≡ Ok true)) IsSo _ _ (λ s u a. a.0) (all_lead body h.0.1))
        (λ s u so f. so)
    one_leads (If line no_arms other) h = absurd h.0
    one_leads (If line (arm test body (arm t b more)) other) h = absurd h.0.2
    one_leads (If line (arm test body no_arms) (statement c cs)) h = absurd h.1
    one_leads (Where line mark mask left right) h = absurd h
    one_leads (Do line x first last step body) h = absurd h
    one_leads (Label n) h = absurd h
    one_leads (GoTo line n) h = absurd h
    one_leads (Stop line) h = absurd h
    one_leads (Read line is) h = absurd h
    one_leads (Print line is) h = absurd h
    one_leads (Allocate line x es) h = absurd h
    one_leads (Deallocate line x) h = absurd h

    pub all_lead : (b : Block) → AreFree (IsOther m) (MayGet m) b → Leads IsSo IsSo (does_all (sequential bits) None b) (does_all (sequential bits) None b)
    all_lead no_statements h = Leads-nothing IsSo
    all_lead (statement c cs) h = Leads-then IsSo IsSo IsSo _ _ _ _ (one_leads c h.0) (Stays-does_all (sequential bits) None cs) (all_lead cs h.1)
