-- READ: the input, the cells that get values, and the items of lists.
use Rattle.std.proofs.Common.{◌≡◌, refl, sym, ap, ◌∙◌, subst, zero, suc, ℕ, ℤ, ◌+◌, ◌<◌, ◌≤◌, Bool, true, false, cond, List, [], ◌∷◌, drop, get_or, length, map, Result, Ok, Err, Option, Some, None, Bor, arith}
use Rattle.std.specs.Prelude.{◌==◌, ◌&&◌, MatchResult, MatchOption}
use mathlib.Core.Path.{ap₂}
use Rattle.std.specs.Option.{option_map}
use Rattle.std.specs.List.{range_with_len}
use Rattle.std.proofs.lemmas.List.{at_drop_more, at_drop_all, drop_more}
use Rattle.tree.specs.Steps.{◌>>=◌}
use Rattle.tree.specs.Plain as P
use Rattle.tree.specs.Plain.{Declaration, Expression, Number, Logic, Named, Unary, Binary, Apply, Constructor, Spread, Transpose, Reshape, Reduce, Single, Constant, ImpliedDo, subscripts, no_subscripts, subscript}
use Rattle.tree.specs.View.{item_of, expression_of, reference_of, subscript_of}
use Rattle.tree.specs.declared.names.Name.{Name}
use Rattle.tree.specs.declared.lists.Seq.{Seq}
use Rattle.tree.specs.declared.exprs.Expr.{Expr}
use Rattle.tree.specs.declared.exprs.Sub.{Sub}
use Rattle.tree.specs.declared.exprs.Ref.{Ref, out-Ref}
use Rattle.tree.specs.declared.stmts.Item.{Item}
use Rattle.tree.specs.declared.stmts.Item.TheVariants as variants
use Rattle.tree.specs.declared.ops.Value.{Value}
use Rattle.tree.specs.declared.ops.Fault.{Fault}
use Rattle.tree.specs.declared.ops.Fault.TheVariants.{InputEnd, Overflow, Allocated}
use Rattle.tree.proofs.Equations.{item_of-one, item_of-text, item_of-turns, reference_of-is}
use Rattle.meaning.specs.Dialect.{Dialect}
use Rattle.meaning.specs.Store.{Store, Cell, bounds_in, cells_of, cell_at, opening_bounds}
use Rattle.meaning.specs.Texts.{without_cr, from_value, first_word, after_word, after_line, read_value}
use Rattle.meaning.specs.Value.{is_in_range, named, cells_named, cell_named, item_cells, subscript_values, number_of}
use Rattle.meaning.specs.Extents.{elements_of}
use Rattle.meaning.specs.Run.{State, Failed, then, either, for_each, goes, while_going, answered, evaluates, stores, counts_step, checks_range, repeated, turn, increases, loops, is_empty, begins_line, takes_word, skips_line, reads_into, reads_item, reads_items}
use Rattle.machine.specs.declared.variables.Variable.{Variable}
use Rattle.machine.specs.Moments.{Seen}
use Rattle.machine.specs.declared.progress.Halt.{Halt}
use Rattle.machine.specs.declared.progress.Halt.TheVariants.{Fault as Fault'}
use Rattle.machine.specs.declared.progress.Left.{Left}
use Rattle.machine.specs.declared.progress.Left.TheVariants.{Halted}
use Rattle.machine.specs.declared.progress.Progress.{Progress}
use Rattle.machine.specs.Moments.{CountsStep, located}
use Rattle.machine.specs.Acts.{LimitedAct, Runs, Does, left_of}
use Rattle.machine.specs.Storage.{store_of, place, offset}
use Rattle.machine.specs.Stored.{IsOf, bounds_here}
use Rattle.machine.specs.Printing.{plain_items}
use Rattle.machine.specs.Reading.{TakesWord, HasNoWord, IsNoName, Spells, all_cells, reads_all, reads_cells}
use Rattle.machine.proofs.ActLaws.{at_same, begun, steady, elsewhere_same, elsewhere_at, Stays, Runs-nothing, Runs-goes, Runs-counts_step, Runs-evaluates, Runs-fault, Runs-then, Runs-halted, Stays-evaluates, ended_way}
use Rattle.machine.proofs.TurnLaws.{Stays-counts_step, Stays-repeated}
use Rattle.machine.proofs.InputLaws.{cr_none}
use Rattle.machine.proofs.StoreLaws.{store-bounds}
use Rattle.machine.proofs.ColumnMajor.{elements_in_order}

-- ---- the input

some_byte : (c : ℕ) (cs : List ℕ) → is_empty (without_cr (c ∷ cs)) ≡ false
some_byte c [] = refl
some_byte c (d ∷ cs) = by (c == 13 && d == 10) (some_byte d cs)
  where
    by : (b : Bool) → is_empty (without_cr (d ∷ cs)) ≡ false → is_empty (cond b (without_cr (d ∷ cs)) (c ∷ without_cr (d ∷ cs))) ≡ false
    by true h = h
    by false h = refl

pub begins_at_end : (line : ℕ) (input : List ℕ) (m : Seen) (bytes : Option (List ℕ)) → length input ≤ m.progress.at → Runs (λ limit. begins_line line) input m bytes m bytes (Err (Halted (Fault' InputEnd line)))
unfolding Runs begins_line
begins_at_end line input m bytes l names limit base s d b =
    let at : begins_line line s ≡ goes (Failed InputEnd line) s =
    begun (λ s. either (is_empty s.input) (goes (Failed InputEnd line)) (λ t. record t { had_value = false }) s) s d.way_is
    ∙ ap (λ xs. either (is_empty xs) (goes (Failed InputEnd line)) (λ t. record t { had_value = false }) s) (d.input_left ∙ cr_none input m.progress.at l) in
    let q = Runs-goes input m bytes (Fault' InputEnd line) names limit base s d b in
    (at_same names limit input base m bytes (Err (Halted (Fault' InputEnd line))) at q.0, steady (begins_line line) limit s (ap (λ (t : State). t.steps) at))

pub begins_there : (line : ℕ) (input : List ℕ) (old new : Seen) (bytes : Option (List ℕ)) → old.progress.at < length input → new.names ≡ old.names → new.store ≡ old.store
    → new.progress ≡ record old.progress { had_value = false }
    → Runs (λ limit. begins_line line) input old bytes new bytes (Ok tt)
unfolding Runs begins_line
begins_there line input old new bytes l e f g names limit base s d b =
    let at : begins_line line s ≡ record s { had_value = false } =
    begun (λ s. either (is_empty s.input) (goes (Failed InputEnd line)) (λ t. record t { had_value = false }) s) s d.way_is
    ∙ ap (λ t. either t (goes (Failed InputEnd line)) (λ t. record t { had_value = false }) s)
    (ap is_empty d.input_left ∙ ap (λ xs. is_empty (without_cr xs)) (drop_more input old.progress.at 0 l) ∙ some_byte (get_or input old.progress.at 0) (drop (old.progress.at + 1) input)) in (
      at_same names limit input base new bytes (Ok tt) at
          (record {
            stands = record {
              names_are = e ∙ d.names_are;
              store = d.store ∙ sym f;
              input_left = d.input_left ∙ ap (λ (p : Progress). without_cr (drop p.at input)) (sym g);
              had_value = ap (λ (p : Progress). p.had_value) (sym g);
              steps = ap (λ (p : Progress). p.left) g ∙ d.steps;
              way_is = d.way_is;
            };
            taken = b;
          }),
      steady (begins_line line) limit s (ap (λ (t : State). t.steps) at),
    )

pub skips : (input : List ℕ) (old new : Seen) (bytes : Option (List ℕ)) → after_line (without_cr (drop old.progress.at input)) ≡ without_cr (drop new.progress.at input) → new.names ≡ old.names
    → new.store ≡ old.store → new.progress.had_value ≡ old.progress.had_value → new.progress.left ≡ old.progress.left
    → Runs (λ limit. skips_line) input old bytes new bytes (Ok tt)
unfolding Runs skips_line
skips input old new bytes f e st g h names limit base s d b =
    let at = begun (λ s. record s { input = after_line s.input }) s d.way_is in (
      at_same names limit input base new bytes (Ok tt) at
          (record {
            stands = record {
              names_are = e ∙ d.names_are;
              store = d.store ∙ sym st;
              input_left = ap after_line d.input_left ∙ f;
              had_value = d.had_value ∙ sym g;
              steps = h ∙ d.steps;
              way_is = d.way_is;
            };
            taken = b;
          }),
      steady skips_line limit s (ap (λ (t : State). t.steps) at),
    )

module _ (input : List ℕ) (line : ℕ) (old : Seen) where
  no_word : (f : Fault) → from_value old.progress.had_value (without_cr (drop old.progress.at input)) ≡ Err f → HasNoWord input line old old (Fault' f line)
  unfolding Runs takes_word HasNoWord
  no_word f e k bytes names limit base s d b =
      let at : (l : Option ℕ) → takes_word line (λ w. k w l) s ≡ goes (Failed f line) s = λ l.
      begun (λ s. answered line (from_value s.had_value s.input) (λ rest t. k (first_word rest) l (record t { input = after_word rest; had_value = true })) s) s d.way_is
      ∙ ap (λ q. answered line q (λ rest t. k (first_word rest) l (record t { input = after_word rest; had_value = true })) s) (ap₂ from_value d.had_value d.input_left ∙ e) in
      let q = Runs-goes input old bytes (Fault' f line) names limit base s d b in (
        at_same names limit input base old bytes (Err (Halted (Fault' f line))) (at limit) q.0,
        elsewhere_same base old bytes (Err (Halted (Fault' f line))) (λ l. goes (Failed f line)) (λ l. takes_word line (λ w. k w l)) limit s at q.1,
      )

  pub some_word : (new : Seen) (at : ℕ) (w : List ℕ) → from_value old.progress.had_value (without_cr (drop old.progress.at input)) ≡ Ok (without_cr (drop at input))
      → first_word (without_cr (drop at input)) ≡ w → after_word (without_cr (drop at input)) ≡ without_cr (drop new.progress.at input)
      → new.names ≡ old.names → new.store ≡ old.store → new.progress.had_value ≡ true → new.progress.left ≡ old.progress.left → TakesWord input line old new w
  unfolding Runs takes_word TakesWord
  some_word new at w e f a nm st g h k before now end r run names limit base s d b =
      let t : State = record s { input = after_word (without_cr (drop at input)); had_value = true } in
      let is : (l : Option ℕ) → takes_word line (λ w. k w l) s ≡ k w l t = λ l.
      begun (λ s. answered line (from_value s.had_value s.input) (λ rest t. k (first_word rest) l (record t { input = after_word rest; had_value = true })) s) s d.way_is
      ∙ ap (λ q. answered line q (λ rest t. k (first_word rest) l (record t { input = after_word rest; had_value = true })) s) (ap₂ from_value d.had_value d.input_left ∙ e)
      ∙ ap (λ w. k w l (record s { input = after_word (without_cr (drop at input)); had_value = true })) f in
      let q = run names limit base t
      (record {
        names_are = nm ∙ d.names_are;
        store = d.store ∙ sym st;
        input_left = a;
        had_value = sym g;
        steps = h ∙ d.steps;
        way_is = d.way_is;
      })
      b in (
        at_same names limit input base end now r (is limit) q.0,
        elsewhere_same base end now r (λ l u. k w l t) (λ l. takes_word line (λ w. k w l)) limit s is (elsewhere_at base end now r (k w) limit s t refl q.1),
      )

-- ---- a cell gets a value

-- an act that is the same everywhere
Runs-same : (f g : LimitedAct) (input : List ℕ) (old new : Seen) (before now : Option (List ℕ)) (r : Result (Unit {0}) Left) → ((limit : Option ℕ) → f limit ≡ g limit) → Runs g input old before new now r → Runs f input old before new now r
unfolding Runs
Runs-same f g input old new before now r e h names limit base s d b =
    let q = h names limit base s d b in
    (at_same names limit input base new now r (ap (λ f. f s) (e limit)) q.0, elsewhere_same base new now r g f limit s (λ l. ap (λ f. f s) (e l)) q.1)

stored_same : (lang : Dialect) (line : ℕ) (c : Cell) (u v : Value) (limit : Option ℕ) → is_in_range lang.bits v ≡ is_in_range lang.bits u → (is_in_range lang.bits u ≡ true → v ≡ u)
    → checks_range lang limit line u (counts_step lang limit (stores c u)) ≡ checks_range lang limit line v (counts_step lang limit (stores c v))
unfolding checks_range
stored_same lang line c u v limit e same = by (is_in_range lang.bits u) refl
  where
    by : (t : Bool) → is_in_range lang.bits u ≡ t
        → while_going (either (is_in_range lang.bits u) (counts_step lang limit (stores c u)) (goes (Failed Overflow line)))
        ≡ while_going (either (is_in_range lang.bits v) (counts_step lang limit (stores c v)) (goes (Failed Overflow line)))
    by true t = ap (λ v. while_going (either (is_in_range lang.bits v) (counts_step lang limit (stores c v)) (goes (Failed Overflow line)))) (sym (same t))
    by false t =
        ap (λ b. while_going (either b (counts_step lang limit (stores c u)) (goes (Failed Overflow line)))) t
        ∙ ap (λ b. while_going (either b (counts_step lang limit (stores c v)) (goes (Failed Overflow line)))) (sym (e ∙ t))

module _ (lang : Dialect) (input : List ℕ) (line : ℕ) (c : Cell) (old mid : Seen) (w : List ℕ) where
  abbrev fills : List ℕ → LimitedAct
  fills w limit = evaluates line (λ s. read_value (s.held c) w) (λ v. checks_range lang limit line v (counts_step lang limit (stores c v)))

  pub into_fault : (h : Halt) (bytes : Option (List ℕ)) → TakesWord input line old mid w → Err h ≡ located line (read_value (mid.store.held c) w)
      → Runs (λ limit. reads_into lang limit line c) input old bytes mid bytes (Err (Halted h))
  unfolding TakesWord
  into_fault h bytes t e = t fills bytes bytes mid (Err (Halted h)) (Runs-fault line (λ s. read_value (s.held c) w) h (λ v limit. checks_range lang limit line v (counts_step lang limit (stores c v))) input mid bytes e)

  pub into_cell : (new : Seen) (v : Value) (r : Result (Unit {0}) Halt) (bytes : Option (List ℕ)) → TakesWord input line old mid w → Spells lang.bits (mid.store.held c) w v
      → Does (λ limit. checks_range lang limit line v (counts_step lang limit (stores c v))) mid new r
      → Runs (λ limit. reads_into lang limit line c) input old bytes new bytes (left_of r)
  unfolding TakesWord
  into_cell new v r bytes t e h = t fills bytes bytes new (left_of r)
      (Runs-evaluates line (λ s. read_value (s.held c) w) e.value (λ v limit. checks_range lang limit line v (counts_step lang limit (stores c v))) input mid new bytes bytes (left_of r)
      (sym (ap (located line) e.spelled))
      (Runs-same (λ limit. checks_range lang limit line e.value (counts_step lang limit (stores c e.value))) (λ limit. checks_range lang limit line v (counts_step lang limit (stores c v)))
      input mid new bytes bytes (left_of r) (λ limit. stored_same lang line c e.value v limit e.in_range e.same) (h input bytes)))

pub into_nothing : (lang : Dialect) (input : List ℕ) (line : ℕ) (c : Cell) (old new : Seen) (h : Halt) (bytes : Option (List ℕ)) → HasNoWord input line old new h
    → Runs (λ limit. reads_into lang limit line c) input old bytes new bytes (Err (Halted h))
unfolding HasNoWord
into_nothing lang input line c old new h bytes n = n (λ w limit. evaluates line (λ s. read_value (s.held c) w) (λ v. checks_range lang limit line v (counts_step lang limit (stores c v)))) bytes

-- ---- all cells of a name, one after the other

Stays-takes_word : (line : ℕ) (k : List ℕ → LimitedAct) → Stays (λ limit. takes_word line (λ w. k w limit))
unfolding takes_word
Stays-takes_word line k limit s h e = ended_way (λ s. answered line (from_value s.had_value s.input) (λ rest t. k (first_word rest) limit (record t { input = after_word rest; had_value = true })) s) s h e

Stays-reads_into : (lang : Dialect) (line : ℕ) (c : Cell) → Stays (λ limit. reads_into lang limit line c)
Stays-reads_into lang line c = Stays-takes_word line (λ w limit. evaluates line (λ s. read_value (s.held c) w) (λ v. checks_range lang limit line v (counts_step lang limit (stores c v))))

pub Stays-cells : (lang : Dialect) (line : ℕ) (cs : List Cell) → Stays (λ limit. for_each cs (reads_into lang limit line))
Stays-cells lang line [] limit s h e = refl
Stays-cells lang line (c ∷ cs) limit s h e = ap (for_each cs (reads_into lang limit line)) (Stays-reads_into lang line c limit s h e) ∙ Stays-cells lang line cs limit s h e

abbrev pub left_of_cells : Dialect → ℕ → List Cell → LimitedAct
left_of_cells lang line cs limit = for_each cs (reads_into lang limit line)

module _ (lang : Dialect) (line : ℕ) (cs : List Cell) (i : ℕ) (d : Cell) (within : i < length cs) (input : List ℕ) (old mid : Seen) (bytes : Option (List ℕ)) where
  cells_begin : (new : Seen) (r : Result (Unit {0}) Left) → Runs (λ limit. then (reads_into lang limit line (get_or cs i d)) (left_of_cells lang line (drop (i + 1) cs) limit)) input old bytes new bytes r
      → Runs (left_of_cells lang line (drop i cs)) input old bytes new bytes r
  cells_begin new r h = subst (λ cs. Runs (left_of_cells lang line cs) input old bytes new bytes r) (sym (drop_more cs i d within)) h

  pub cells_left : (h : Halt) → Runs (λ limit. reads_into lang limit line (get_or cs i d)) input old bytes mid bytes (Err (Halted h)) → Runs (left_of_cells lang line (drop i cs)) input old bytes mid bytes (Err (Halted h))
  cells_left h r = cells_begin mid (Err (Halted h)) (Runs-halted (λ limit. reads_into lang limit line (get_or cs i d)) (left_of_cells lang line (drop (i + 1) cs)) input old mid bytes bytes h r (Stays-cells lang line (drop (i + 1) cs)))

  pub cells_more : (new : Seen) (r : Result (Unit {0}) Left) → Runs (λ limit. reads_into lang limit line (get_or cs i d)) input old bytes mid bytes (Ok tt)
      → Runs (left_of_cells lang line (drop (i + 1) cs)) input mid bytes new bytes r → Runs (left_of_cells lang line (drop i cs)) input old bytes new bytes r
  cells_more new r h k = cells_begin new r (Runs-then (λ limit. reads_into lang limit line (get_or cs i d)) (left_of_cells lang line (drop (i + 1) cs)) input old mid bytes bytes new bytes r h k)

pub cells_done : (lang : Dialect) (line : ℕ) (cs : List Cell) (i : ℕ) (input : List ℕ) (m : Seen) (bytes : Option (List ℕ)) → length cs ≤ i → Runs (left_of_cells lang line (drop i cs)) input m bytes m bytes (Ok tt)
cells_done lang line cs i input m bytes l = subst (λ cs. Runs (left_of_cells lang line cs) input m bytes m bytes (Ok tt)) (sym (at_drop_all (λ cs. cs) cs i l)) (Runs-nothing input m bytes)

abbrev cell : List ℕ → List ℤ → Cell
cell x is = record { name = x; subscripts = is }

in_order : (x : List ℕ) (bs : List (ℤ × ℤ)) (rs : List (List ℤ)) (a n k : ℕ) (d : Cell) → map (offset bs) rs ≡ map (λ k. let o : Option ℕ = Some k in o) (range_with_len a n) → k < n
    → (is : List ℤ) × (get_or (map (cell x) rs) k d ≡ cell x is) × (offset bs is ≡ Some (a + k))
in_order x bs rs a zero k d e l = absurd (omega arith)
in_order x bs [] a (suc n) k d e l = cc
in_order x bs (r ∷ rs) a (suc n) zero d e l = (let first : offset bs r ≡ Some a = cc in (r, refl, first ∙ ap (λ k. let o : Option ℕ = Some k in o) (let f : a ≡ a + 0 = omega arith in f)))
in_order x bs (r ∷ rs) a (suc n) (suc k) d e l =
    let more : map (offset bs) rs ≡ map (λ k. let o : Option ℕ = Some k in o) (range_with_len (a + 1) n) = cc in
    let h = in_order x bs rs (a + 1) n k d more (omega arith) in
    (h.0, h.1, h.2 ∙ ap (λ k. let o : Option ℕ = Some k in o) (let f : a + 1 + k ≡ a + suc k = omega arith in f))

all_in_order : (x : List ℕ) (bs : List (ℤ × ℤ)) (rs : List (List ℤ)) (a n : ℕ) → map (offset bs) rs ≡ map (λ k. let o : Option ℕ = Some k in o) (range_with_len a n) → length (map (cell x) rs) ≡ n
all_in_order x bs [] a zero e = refl
all_in_order x bs [] a (suc n) e = cc
all_in_order x bs (r ∷ rs) a zero e = cc
all_in_order x bs (r ∷ rs) a (suc n) e = ap suc (all_in_order x bs rs (a + 1) n (let more : map (offset bs) rs ≡ map (λ k. let o : Option ℕ = Some k in o) (range_with_len (a + 1) n) = cc in more))

module _ (ds : List Declaration) (x : List ℕ) (v : Variable) (h : IsOf ds x v) where
  pub cells_count : length (cells_of x (bounds_here v)) ≡ elements_of (bounds_here v)
  cells_count = all_in_order x (bounds_here v) _ 0 (elements_of (bounds_here v)) (elements_in_order (bounds_here v))

  pub cell_place : (k : ℕ) (d : Cell) → k < elements_of (bounds_here v) → place ds (get_or (cells_of x (bounds_here v)) k d).name (get_or (cells_of x (bounds_here v)) k d).subscripts ≡ Some (v.start + k)
  cell_place k d l =
      let c = in_order x (bounds_here v) _ 0 (elements_of (bounds_here v)) k d (elements_in_order (bounds_here v)) l in
      ap (λ (c : Cell). place ds c.name c.subscripts) c.1 ∙ h.place c.0 ∙ ap (option_map (λ k. v.start + k)) (c.2 ∙ ap (λ k. let o : Option ℕ = Some k in o) (let f : 0 + k ≡ k = omega arith in f))

pub all_missing : (line : ℕ) (ds : List Declaration) (vs : List Value) (x : List ℕ) → opening_bounds ds x ≡ None → Err (Fault' Allocated line) ≡ located line (all_cells x (store_of ds vs))
all_missing line ds vs x e = sym (ap (λ b. located line (do bs ← bounds_in b; Ok (cells_of x bs))) (store-bounds ds vs x ∙ e))

pub all_here : (line : ℕ) (ds : List Declaration) (vs : List Value) (x : List ℕ) (v : Variable) → IsOf ds x v → Ok (cells_of x (bounds_here v)) ≡ located line (all_cells x (store_of ds vs))
all_here line ds vs x v h = sym (ap (λ b. located line (do bs ← bounds_in b; Ok (cells_of x bs))) (store-bounds ds vs x ∙ h.bounds))

-- ---- a reference of an input list

cells_is : (r : Ref) → reference_of r ≡ record { name = (out-Ref r).name; subscripts = subscripts (map subscript_of (out-Ref r).subs) }
cells_is r = reference_of-is r

pub whole_cells : (lang : Dialect) (r : Ref) (input : List ℕ) (line : ℕ) (old new : Seen) (bytes : Option (List ℕ)) (q : Result (Unit {0}) Left) → (out-Ref r).subs ≡ []
    → Runs (λ limit. reads_all lang limit line (out-Ref r).name) input old bytes new bytes q → Runs (λ limit. reads_cells lang limit line (reference_of r)) input old bytes new bytes q
whole_cells lang r input line old new bytes q e h = subst (λ p. Runs (λ limit. reads_cells lang limit line p) input old bytes new bytes q)
    (sym (cells_is r ∙ ap (λ ss. let p : P.Reference = record { name = (out-Ref r).name; subscripts = subscripts (map subscript_of ss) } in p) e)) h

one_named : (x : List ℕ) (p : P.Subscript) (ps : P.Subscripts) (s : Store) (q : Result (List ℤ) Fault) → ◌≡◌ {A = Result (List Cell) Fault} (do is ← q; c ← cell_at x is s; Ok (c ∷ [])) (do c ← (do is ← q; cell_at x is s); Ok (c ∷ []))
one_named x p ps s (Ok is) = refl
one_named x p ps s (Err f) = refl

-- what an element of a list is
cells_one : (lang : Dialect) (r : Ref) (p : Sub) (ps : List Sub) (s : Store) → (out-Ref r).subs ≡ p ∷ ps → cells_named lang (reference_of r) s ≡ (do c ← cell_named lang (reference_of r) s; Ok (c ∷ []))
cells_one lang r p ps s e = subst (λ (q : P.Reference). cells_named lang q s ≡ (do c ← cell_named lang q s; Ok (c ∷ [])))
    (sym (cells_is r ∙ ap (λ ss. let p : P.Reference = record { name = (out-Ref r).name; subscripts = subscripts (map subscript_of ss) } in p) e))
    (one_named (out-Ref r).name (subscript_of p) (subscripts (map subscript_of ps)) s (subscript_values lang (subscript (subscript_of p) (subscripts (map subscript_of ps))) s))

some_sub : (ss : List Sub) → (ss ≡ [] → ⊥) → (p : Sub) × (ps : List Sub) × (ss ≡ p ∷ ps)
some_sub [] h = absurd (h refl)
some_sub (p ∷ ps) h = (p, ps, refl)

missing_cell : (line : ℕ) (q : Result Cell Fault) (h : Halt) → Err h ≡ located line q → Err h ≡ located line (do c ← q; Ok (c ∷ []))
missing_cell line (Ok c) h e = cc
missing_cell line (Err f) h e = (let same : h ≡ Fault' f line = cc in ap (λ (h : Halt). let r : Result (List Cell) Halt = Err h in r) same)

that_cell : (line : ℕ) (q : Result Cell Fault) (c : Cell) → Ok c ≡ located line q → Ok (c ∷ []) ≡ located line (do c ← q; Ok (c ∷ []))
that_cell line (Ok d) c e = (let same : c ≡ d = cc in ap (λ (c : Cell). let r : Result (List Cell) Halt = Ok (c ∷ []) in r) same)
that_cell line (Err f) c e = cc

module _ (lang : Dialect) (r : Ref) (input : List ℕ) (line : ℕ) (old : Seen) (bytes : Option (List ℕ)) (some : (out-Ref r).subs ≡ [] → ⊥) where
  pub element_missing : (h : Halt) → Err h ≡ located line (cell_named lang (reference_of r) old.store) → Runs (λ limit. reads_cells lang limit line (reference_of r)) input old bytes old bytes (Err (Halted h))
  element_missing h e =
      let p = some_sub (out-Ref r).subs some in
      Runs-fault line (cells_named lang (reference_of r)) h (λ cs limit. for_each cs (reads_into lang limit line)) input old bytes
      (missing_cell line (cell_named lang (reference_of r) old.store) h e ∙ sym (ap (located line) (cells_one lang r p.0 p.1 old.store p.2)))

  pub element_read : (c : Cell) (new : Seen) (q : Result (Unit {0}) Left) → Ok c ≡ located line (cell_named lang (reference_of r) old.store)
      → Runs (λ limit. reads_into lang limit line c) input old bytes new bytes q → Runs (λ limit. reads_cells lang limit line (reference_of r)) input old bytes new bytes q
  element_read c new q e h =
      let p = some_sub (out-Ref r).subs some in
      Runs-evaluates line (cells_named lang (reference_of r)) (c ∷ []) (λ cs limit. for_each cs (reads_into lang limit line)) input old new bytes bytes q
      (that_cell line (cell_named lang (reference_of r) old.store) c e ∙ sym (ap (located line) (cells_one lang r p.0 p.1 old.store p.2))) h

-- ---- items

pub no_name_read : (lang : Dialect) (line : ℕ) (input : List ℕ) (m : Seen) (bytes : Option (List ℕ)) (c : Expression) → IsNoName c → Runs (λ limit. reads_item lang limit (Single c) line) input m bytes m bytes (Ok tt)
no_name_read lang line input m bytes (Number z) h = Runs-nothing input m bytes
no_name_read lang line input m bytes (Logic b) h = Runs-nothing input m bytes
no_name_read lang line input m bytes (Named x ps) h = absurd (h x ps refl)
no_name_read lang line input m bytes (Unary o a) h = Runs-nothing input m bytes
no_name_read lang line input m bytes (Binary o a b) h = Runs-nothing input m bytes
no_name_read lang line input m bytes (Apply f es) h = Runs-nothing input m bytes
no_name_read lang line input m bytes (Constructor es ls) h = Runs-nothing input m bytes
no_name_read lang line input m bytes (Spread a k e) h = Runs-nothing input m bytes
no_name_read lang line input m bytes (Transpose a) h = Runs-nothing input m bytes
no_name_read lang line input m bytes (Reshape a es) h = Runs-nothing input m bytes
no_name_read lang line input m bytes (Reduce r a) h = Runs-nothing input m bytes

module _ (lang : Dialect) (line : ℕ) (input : List ℕ) (old new : Seen) (bytes : Option (List ℕ)) (r : Result (Unit {0}) Left) where
  pub name_read : (c : Expression) (i : P.Reference) → c ≡ named i → Runs (λ limit. reads_cells lang limit line i) input old bytes new bytes r
      → Runs (λ limit. reads_item lang limit (Single c) line) input old bytes new bytes r
  name_read c i k h = subst (λ c. Runs (λ limit. reads_item lang limit (Single c) line) input old bytes new bytes r) (sym k) h

  pub one_read : (i : Item) (e : Expr) → i ≡ variants.One e → Runs (λ limit. reads_item lang limit (Single (expression_of e)) line) input old bytes new bytes r → Runs (λ limit. reads_item lang limit (item_of i) line) input old bytes new bytes r
  one_read i e k h = subst (λ j. Runs (λ limit. reads_item lang limit j line) input old bytes new bytes r) (sym (ap item_of k ∙ item_of-one e)) h

  pub turns_read : (i : Item) (is : Seq Item) (x : Name) (a b c : Expr) → i ≡ variants.Turns is x a b c
      → Runs (λ limit. loops lang limit line x (expression_of a) (expression_of b) (expression_of c) (reads_items lang limit (plain_items is) line)) input old bytes new bytes r
      → Runs (λ limit. reads_item lang limit (item_of i) line) input old bytes new bytes r
  turns_read i is x a b c k h = subst (λ j. Runs (λ limit. reads_item lang limit j line) input old bytes new bytes r) (sym (ap item_of k ∙ item_of-turns is x a b c)) h

pub text_read : (lang : Dialect) (line : ℕ) (input : List ℕ) (m : Seen) (bytes : Option (List ℕ)) (i : Item) (t : Seq ℕ) → i ≡ variants.Text t → Runs (λ limit. reads_item lang limit (item_of i) line) input m bytes m bytes (Ok tt)
text_read lang line input m bytes i t k = subst (λ j. Runs (λ limit. reads_item lang limit j line) input m bytes m bytes (Ok tt)) (sym (ap item_of k ∙ item_of-text t)) (Runs-nothing input m bytes)

Stays-reads_item : (lang : Dialect) (i : P.Item) (line : ℕ) → Stays (λ limit. reads_item lang limit i line)
Stays-reads_item lang (Single (Number z)) line = λ limit s h e. refl
Stays-reads_item lang (Single (Logic b)) line = λ limit s h e. refl
Stays-reads_item lang (Single (Named x ps)) line = Stays-evaluates line (item_cells lang x ps) _
Stays-reads_item lang (Single (Unary o a)) line = λ limit s h e. refl
Stays-reads_item lang (Single (Binary o a b)) line = λ limit s h e. refl
Stays-reads_item lang (Single (Apply f es)) line = λ limit s h e. refl
Stays-reads_item lang (Single (Constructor es ls)) line = λ limit s h e. refl
Stays-reads_item lang (Single (Spread a k e)) line = λ limit s h e. refl
Stays-reads_item lang (Single (Transpose a)) line = λ limit s h e. refl
Stays-reads_item lang (Single (Reshape a es)) line = λ limit s h e. refl
Stays-reads_item lang (Single (Reduce r a)) line = λ limit s h e. refl
Stays-reads_item lang (Constant t) line = λ limit s h e. refl
Stays-reads_item lang (ImpliedDo is x a b c) line = Stays-evaluates line (number_of lang a) _

pub Stays-reads_items : (lang : Dialect) (is : P.Items) (line : ℕ) → Stays (λ limit. reads_items lang limit is line)
Stays-reads_items lang P.no_items line limit s h e = refl
Stays-reads_items lang (P.item i is) line limit s h e = ap (reads_items lang limit is line) (Stays-reads_item lang i line limit s h e) ∙ Stays-reads_items lang is line limit s h e

abbrev pub left_of_items : Dialect → ℕ → List Item → LimitedAct
left_of_items lang line xs limit = reads_items lang limit (plain_items xs) line

module _ (lang : Dialect) (line : ℕ) (xs : List Item) (i : ℕ) (x : Item) (within : i < length xs) (is : x ≡ get_or xs i x) (input : List ℕ) (old mid : Seen) (bytes : Option (List ℕ)) where
  items_begin : (r : Result (Unit {0}) Left) (new : Seen) → Runs (λ limit. then (reads_item lang limit (item_of x) line) (left_of_items lang line (drop (i + 1) xs) limit)) input old bytes new bytes r
      → Runs (left_of_items lang line (drop i xs)) input old bytes new bytes r
  items_begin r new h = subst (λ is. Runs (λ limit. reads_items lang limit is line) input old bytes new bytes r)
      (sym (at_drop_more plain_items xs i x within ∙ ap (λ y. P.item (item_of y) (plain_items (drop (i + 1) xs))) (sym is))) h

  pub reading_left : (h : Halt) → Runs (λ limit. reads_item lang limit (item_of x) line) input old bytes mid bytes (Err (Halted h)) → Runs (left_of_items lang line (drop i xs)) input old bytes mid bytes (Err (Halted h))
  reading_left h r = items_begin (Err (Halted h)) mid (Runs-halted (λ limit. reads_item lang limit (item_of x) line) (left_of_items lang line (drop (i + 1) xs)) input old mid bytes bytes h r (Stays-reads_items lang (plain_items (drop (i + 1) xs)) line))

  pub reading_more : (new : Seen) (r : Result (Unit {0}) Left) → Runs (λ limit. reads_item lang limit (item_of x) line) input old bytes mid bytes (Ok tt)
      → Runs (left_of_items lang line (drop (i + 1) xs)) input mid bytes new bytes r → Runs (left_of_items lang line (drop i xs)) input old bytes new bytes r
  reading_more new r h k = items_begin r new (Runs-then (λ limit. reads_item lang limit (item_of x) line) (left_of_items lang line (drop (i + 1) xs)) input old mid bytes bytes new bytes r h k)

pub reading_done : (lang : Dialect) (line : ℕ) (xs : List Item) (i : ℕ) (input : List ℕ) (m : Seen) (bytes : Option (List ℕ)) → length xs ≤ i → Runs (left_of_items lang line (drop i xs)) input m bytes m bytes (Ok tt)
reading_done lang line xs i input m bytes l = subst (λ is. Runs (λ limit. reads_items lang limit is line) input m bytes m bytes (Ok tt)) (sym (at_drop_all plain_items xs i l)) (Runs-nothing input m bytes)

-- ---- turns in which nothing is written

module _ (lang : Dialect) (line : ℕ) (x : List ℕ) (d : ℤ) (body : LimitedAct) (input : List ℕ) (n : ℕ) (bytes : Option (List ℕ)) where
  abbrev more_turns : LimitedAct
  more_turns limit = repeated n (turn lang limit line x d (body limit))

  Stays-more : Stays more_turns
  Stays-more = Stays-repeated n (λ limit. turn lang limit line x d (body limit)) (Stays-counts_step lang (λ limit. then (body limit) (increases lang limit line x d)))

  pub turn_halted : (old mid new : Seen) (h : Halt) → CountsStep old mid (Ok tt) → Runs body input mid bytes new bytes (Err (Halted h))
      → Runs (λ limit. repeated (suc n) (turn lang limit line x d (body limit))) input old bytes new bytes (Err (Halted h))
  turn_halted old mid new h c r = Runs-halted (λ limit. turn lang limit line x d (body limit)) more_turns input old new bytes bytes h
      (Runs-counts_step lang (λ limit. then (body limit) (increases lang limit line x d)) input old mid new bytes bytes (Err (Halted h)) c
      (Runs-halted body (λ limit. increases lang limit line x d) input mid new bytes bytes h r (Stays-evaluates line (cell_at x []) _)))
      Stays-more

  pub turn_blocked : (old mid last new : Seen) (h : Halt) → CountsStep old mid (Ok tt) → Runs body input mid bytes last bytes (Ok tt)
      → Runs (λ limit. increases lang limit line x d) input last bytes new bytes (Err (Halted h)) → Runs (λ limit. repeated (suc n) (turn lang limit line x d (body limit))) input old bytes new bytes (Err (Halted h))
  turn_blocked old mid last new h c r i = Runs-halted (λ limit. turn lang limit line x d (body limit)) more_turns input old new bytes bytes h
      (Runs-counts_step lang (λ limit. then (body limit) (increases lang limit line x d)) input old mid new bytes bytes (Err (Halted h)) c
      (Runs-then body (λ limit. increases lang limit line x d) input mid last bytes bytes new bytes (Err (Halted h)) r i))
      Stays-more

-- ---- a READ

pub Stays-rest : (lang : Dialect) (is : P.Items) (line : ℕ) → Stays (λ limit. then (reads_items lang limit is line) skips_line)
unfolding skips_line
Stays-rest lang is line limit s h e = ap skips_line (Stays-reads_items lang is line limit s h e) ∙ ended_way (λ s. record s { input = after_line s.input }) s h e

pub Stays-skips : Stays (λ limit. skips_line)
unfolding skips_line
Stays-skips limit s h e = ended_way (λ s. record s { input = after_line s.input }) s h e

-- ---- what the machine's questions answer

module _ (line : ℕ) (input : List ℕ) (old : Seen) (q : Result ℕ Fault) (m : MatchResult q (λ at. from_value old.progress.had_value (without_cr (drop old.progress.at input)) ≡ Ok (without_cr (drop at input))) (λ f. from_value old.progress.had_value (without_cr (drop old.progress.at input)) ≡ Err f)) where
  pub no_place : (h : Halt) → Err h ≡ located line q → HasNoWord input line old old h
  no_place h e = by q m e
    where
      by : (q : Result ℕ Fault) → MatchResult q (λ at. from_value old.progress.had_value (without_cr (drop old.progress.at input)) ≡ Ok (without_cr (drop at input))) (λ f. from_value old.progress.had_value (without_cr (drop old.progress.at input)) ≡ Err f) → Err h ≡ located line q → HasNoWord input line old old h
      by (Ok at) m e = cc
      by (Err f) m e = (let same : Fault' f line ≡ h = cc in subst (HasNoWord input line old old) same (no_word input line old f m))

  pub that_place : (at : ℕ) → Ok at ≡ located line q → from_value old.progress.had_value (without_cr (drop old.progress.at input)) ≡ Ok (without_cr (drop at input))
  that_place at e = by q m e
    where
      by : (q : Result ℕ Fault) → MatchResult q (λ at. from_value old.progress.had_value (without_cr (drop old.progress.at input)) ≡ Ok (without_cr (drop at input))) (λ f. from_value old.progress.had_value (without_cr (drop old.progress.at input)) ≡ Err f) → Ok at ≡ located line q → from_value old.progress.had_value (without_cr (drop old.progress.at input)) ≡ Ok (without_cr (drop at input))
      by (Ok k) m e = (let same : k ≡ at = cc in subst (λ k. from_value old.progress.had_value (without_cr (drop old.progress.at input)) ≡ Ok (without_cr (drop k input))) same m)
      by (Err f) m e = cc

module _ (bits line : ℕ) (old : Value) (w : List ℕ) (q : Result Value Fault) (m : MatchResult q (λ v. Spells bits old w v) (λ f. read_value old w ≡ Err f)) where
  pub no_value : (h : Halt) → Err h ≡ located line q → Err h ≡ located line (read_value old w)
  no_value h e = by q m e
    where
      by : (q : Result Value Fault) → MatchResult q (λ v. Spells bits old w v) (λ f. read_value old w ≡ Err f) → Err h ≡ located line q → Err h ≡ located line (read_value old w)
      by (Ok v) m e = cc
      by (Err f) m e = e ∙ sym (ap (located line) m)

  pub that_value : (v : Value) → Ok v ≡ located line q → Spells bits old w v
  that_value v e = by q m e
    where
      by : (q : Result Value Fault) → MatchResult q (λ v. Spells bits old w v) (λ f. read_value old w ≡ Err f) → Ok v ≡ located line q → Spells bits old w v
      by (Ok u) m e = (let same : u ≡ v = cc in subst (Spells bits old w) same m)
      by (Err f) m e = cc

pub none_found : (ds : List Declaration) (x : List ℕ) (q : Option (Bor Variable)) → MatchOption q (opening_bounds ds x ≡ None) (λ v. IsOf ds x v.now) → ((v : Bor Variable) → q ≡ Some v → ⊥) → opening_bounds ds x ≡ None
none_found ds x None m h = m
none_found ds x (Some v) m h = absurd (h v refl)
