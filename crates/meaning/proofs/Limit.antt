-- A run under a limit of steps is a front of each run under a greater limit, and of the run without one.
use Rattle.std.proofs.Common.{◌≡◌, refl, sym, ap, ◌∙◌, subst, ℕ, zero, suc, ◌+◌, ◌≤◌, ◌<◌, ℤ, Bool, true, false, cond, List, [], ◌∷◌, ◌++◌, Result, Ok, Err, Option, Some, None, ◌⊎◌, inl, inr, arith, append_assoc, append-nil}
use Rattle.std.specs.Prelude.{nat_lt, ◌==◌}
use Rattle.std.proofs.lemmas.Bool.Decides.{Decides-ltb}
use Rattle.std.proofs.lemmas.Bool.{ltb-false}
use Rattle.tree.specs.declared.ops.Fault.{Fault}
use Rattle.tree.specs.declared.ops.Fault.TheVariants.{InputEnd, InputForm, Overflow}
use Rattle.tree.specs.declared.ops.Value.{Value}
use Rattle.tree.specs.declared.ops.Value.TheVariants.{Int}
use Rattle.tree.specs.Plain.{Expression, Expressions, Logic, Named, Reference, Item, Single, Constant, ImpliedDo, Items, no_items, item, Statement, Assignment, Where, If, Do, Label, GoTo, Stop, Read, Print, Allocate, Deallocate, Arms, no_arms, arm, Block, no_statements, statement, Program}
use Rattle.meaning.specs.Store.{Store, Cell}
use Rattle.meaning.specs.Texts.{is_gap, is_separator, from_value, first_word, after_word, after_line, output_text}
use Rattle.meaning.specs.Value.{is_in_range, is_array, named}
use Rattle.meaning.specs.Run.{State, Way, Going, Jumping, Stopped, Failed, Cut, Act, nothing, then, either, repeated, for_each, goes, on_way, while_going, answered, evaluates, writes, stores, is_empty, begins_line, takes_word, skips_line, is_allowed, first_blank, arrives, opening_state, counts_step, checks_range, assigns, array_assigns, stores_element, allocates, deallocates, sets_variable, increases, turn, loops, reads_into, reads_item, reads_items, prints_item, prints_items, does, chooses, does_all, run}
use Rattle.meaning.specs.Cuts.{IsFrontOf, IsCutAfter, IsAtMost, CutsRun}
use Rattle.meaning.specs.Dialect.{Dialect}

-- ---- the input: what is taken of it is its front

rest_is_end : (c : ℕ) (cs rest : List ℕ) → ((taken : List ℕ) × (cs ≡ taken ++ rest)) → (taken : List ℕ) × (c ∷ cs ≡ taken ++ rest)
rest_is_end c cs rest h = (c ∷ h.0, ap (λ xs. c ∷ xs) h.1)

from_value-end : (comma : Bool) (cs rest : List ℕ) → from_value comma cs ≡ Ok rest → (taken : List ℕ) × (cs ≡ taken ++ rest)
from_value-end comma [] rest e = cc
from_value-end comma (c ∷ cs) rest e = by (from_value-end comma cs rest) (from_value-end false cs rest) (is_gap c) (c == 44) comma e
  where
    by : (from_value comma cs ≡ Ok rest → (taken : List ℕ) × (cs ≡ taken ++ rest)) → (from_value false cs ≡ Ok rest → (taken : List ℕ) × (cs ≡ taken ++ rest))
        → (gap is_comma more : Bool) → cond gap (from_value comma cs) (cond is_comma (cond more (from_value false cs) (Err InputForm)) (Ok (c ∷ cs))) ≡ Ok rest
        → (taken : List ℕ) × (c ∷ cs ≡ taken ++ rest)
    by h k true b m e = rest_is_end c cs rest (h e)
    by h k false true true e = rest_is_end c cs rest (k e)
    by h k false true false e = cc
    by h k false false m e = ([], cc)

word_front : (cs : List ℕ) → cs ≡ first_word cs ++ after_word cs
word_front [] = refl
word_front (c ∷ cs) = by (word_front cs) (is_separator c)
  where
    by : cs ≡ first_word cs ++ after_word cs → (b : Bool) → c ∷ cs ≡ cond b [] (c ∷ first_word cs) ++ cond b (c ∷ cs) (after_word cs)
    by h true = refl
    by h false = ap (λ xs. c ∷ xs) h

after_line-end : (cs : List ℕ) → (taken : List ℕ) × (cs ≡ taken ++ after_line cs)
after_line-end [] = ([], refl)
after_line-end (c ∷ cs) = by (after_line-end cs) (c == 10)
  where
    by : (taken : List ℕ) × (cs ≡ taken ++ after_line cs) → (b : Bool) → (taken : List ℕ) × (c ∷ cs ≡ taken ++ cond b cs (after_line cs))
    by h true = (c ∷ [], refl)
    by h false = rest_is_end c cs (after_line cs) h

-- ---- fronts

pub front_same : (s : State) → IsFrontOf s s
front_same s = record { written = ([], sym (append-nil s.written)); input = ([], refl); steps = omega arith }

pub front_over : (r s t : State) → IsFrontOf r s → IsFrontOf s t → IsFrontOf r t
front_over r s t h k = record {
  written = (h.written.0 ++ k.written.0, k.written.1 ∙ (ap (λ xs. xs ++ k.written.0) h.written.1 ∙ append_assoc r.written h.written.0 k.written.0));
  input = (h.input.0 ++ k.input.0, h.input.1 ∙ (ap (λ xs. h.input.0 ++ xs) k.input.1 ∙ sym (append_assoc h.input.0 k.input.0 t.input)));
  steps = (let a = h.steps in let b = k.steps in omega arith);
}

-- whole is where f leads, and part where the same leads under the limit
abbrev pub Meets : ℕ → State → State → Type 0
Meets n whole part = ((whole.steps ≤ n) × (part ≡ whole)) ⊎ ((n < whole.steps) × IsCutAfter n part whole)

-- f under the greater limit, and g under the limit n
pub record Follows (n : ℕ) (f g : Act) : Type 0 where
  pub rises : (s : State) → IsFrontOf s (f s)
  pub meets : (s : State) → s.steps ≤ n → Meets n (f s) (g s)
  pub stays : (t : State) → t.way ≡ Cut → g t ≡ t

-- the same of what is done only while the run is going
pub record Matches (n : ℕ) (f g : Act) : Type 0 where
  pub rises : (s : State) → IsFrontOf s (f s)
  pub meets : (s : State) → s.steps ≤ n → Meets n (f s) (g s)

module _ (n : ℕ) where
  Follows-nothing : Follows n nothing nothing
  Follows-nothing = record { rises = front_same; meets = λ s h. inl (h, refl); stays = λ t e. refl }

  Follows-then : (f f' g g' : Act) → Follows n f f' → Follows n g g' → Follows n (then f g) (then f' g')
  Follows-then f f' g g' h k = record {
    rises = λ s. front_over s (f s) (g (f s)) (h.rises s) (k.rises (f s));
    meets = λ s p. joined s (h.meets s p);
    stays = λ t e. ap g' (h.stays t e) ∙ k.stays t e;
  }
    where
      joined : (s : State) → Meets n (f s) (f' s) → Meets n (g (f s)) (g' (f' s))
      joined s (inl (p, e)) = subst (λ (t : State). Meets n (g (f s)) (g' t)) (sym e) (k.meets (f s) p)
      joined s (inr (p, c)) = inr (
        (let a = (k.rises (f s)).steps in omega arith),
        record {
          way = ap (λ (t : State). t.way) (k.stays (f' s) c.way) ∙ c.way;
          steps = ap (λ (t : State). t.steps) (k.stays (f' s) c.way) ∙ c.steps;
          front = subst (λ (t : State). IsFrontOf t (g (f s))) (sym (k.stays (f' s) c.way)) (front_over (f' s) (f s) (g (f s)) c.front (k.rises (f s)));
        },
      )

  matching : {f g : Act} → Follows n f g → Matches n f g
  matching h = record { rises = h.rises; meets = h.meets }

  Follows-while_going : (f g : Act) → Matches n f g → Follows n (while_going f) (while_going g)
  unfolding while_going
  Follows-while_going f g h = record {
    rises = λ s. at s.way s;
    meets = λ s p. both s.way s p;
    stays = λ t e. ap (λ (w : Way). on_way w g t) e;
  }
    where
      at : (w : Way) (s : State) → IsFrontOf s (on_way w f s)
      at Going s = h.rises s
      at (Jumping l) s = front_same s
      at Stopped s = front_same s
      at (Failed e l) s = front_same s
      at Cut s = front_same s

      both : (w : Way) (s : State) → s.steps ≤ n → Meets n (on_way w f s) (on_way w g s)
      both Going s p = h.meets s p
      both (Jumping l) s p = inl (p, refl)
      both Stopped s p = inl (p, refl)
      both (Failed e l) s p = inl (p, refl)
      both Cut s p = inl (p, refl)

  -- what counts no step is the same under each limit
  Matches-same : (f : Act) → ((s : State) → IsFrontOf s (f s)) → ((s : State) → (f s).steps ≡ s.steps) → Matches n f f
  Matches-same f h e = record { rises = h; meets = λ s p. inl ((let a = e s in omega arith), refl) }

  Matches-goes : (w : Way) → Matches n (goes w) (goes w)
  Matches-goes w = Matches-same (goes w) (λ s. record { written = (front_same s).written; input = (front_same s).input; steps = (front_same s).steps }) (λ s. refl)

  Matches-either : (b : Bool) {f f' g g' : Act} → Matches n f f' → Matches n g g' → Matches n (either b f g) (either b f' g')
  Matches-either true h k = h
  Matches-either false h k = k

  Matches-answered : {A : Type 0} (line : ℕ) (r : Result A Fault) (k k' : A → Act) → ((x : A) → Matches n (k x) (k' x)) → Matches n (answered line r k) (answered line r k')
  Matches-answered line (Ok x) k k' h = h x
  Matches-answered line (Err e) k k' h = Matches-goes (Failed e line)

  Follows-evaluates : {A : Type 0} (line : ℕ) (f : Store → Result A Fault) (k k' : A → Act) → ((x : A) → Matches n (k x) (k' x)) → Follows n (evaluates line f k) (evaluates line f k')
  unfolding evaluates
  Follows-evaluates line f k k' h = Follows-while_going _ _ (record {
    rises = λ s. (Matches-answered line (f s.store) k k' h).rises s;
    meets = λ s p. (Matches-answered line (f s.store) k k' h).meets s p;
  })

  Follows-repeated : (k : ℕ) (f g : Act) → Follows n f g → Follows n (repeated k f) (repeated k g)
  Follows-repeated zero f g h = Follows-nothing
  Follows-repeated (suc k) f g h = Follows-then f g (repeated k f) (repeated k g) h (Follows-repeated k f g h)

  Follows-for_each : {A : Type 0} (xs : List A) (f g : A → Act) → ((x : A) → Follows n (f x) (g x)) → Follows n (for_each xs f) (for_each xs g)
  Follows-for_each [] f g h = Follows-nothing
  Follows-for_each (x ∷ xs) f g h = Follows-then (f x) (g x) (for_each xs f) (for_each xs g) (h x) (Follows-for_each xs f g h)

  Follows-writes : (t : List ℕ) → Follows n (writes t) (writes t)
  unfolding writes
  Follows-writes t = Follows-while_going _ _ (Matches-same _ (λ s. record { written = (t, refl); input = ([], refl); steps = omega arith }) (λ s. refl))

  Follows-stores : (c : Cell) (v : Value) → Follows n (stores c v) (stores c v)
  unfolding stores
  Follows-stores c v = Follows-while_going _ _ (Matches-same _ (λ s. record { written = (front_same s).written; input = ([], refl); steps = omega arith }) (λ s. refl))

  Follows-allocates : (x : List ℕ) (bs : List (ℤ × ℤ)) → Follows n (allocates x bs) (allocates x bs)
  unfolding allocates
  Follows-allocates x bs = Follows-while_going _ _ (Matches-same _ (λ s. record { written = (front_same s).written; input = ([], refl); steps = omega arith }) (λ s. refl))

  Follows-deallocates : (x : List ℕ) → Follows n (deallocates x) (deallocates x)
  unfolding deallocates
  Follows-deallocates x = Follows-while_going _ _ (Matches-same _ (λ s. record { written = (front_same s).written; input = ([], refl); steps = omega arith }) (λ s. refl))

  pub Follows-either : (b : Bool) {f f' g g' : Act} → Follows n f f' → Follows n g g' → Follows n (either b f g) (either b f' g')
  Follows-either true h k = h
  Follows-either false h k = k

  Follows-begins_line : (line : ℕ) → Follows n (begins_line line) (begins_line line)
  unfolding begins_line
  Follows-begins_line line = Follows-while_going _ _ (record { rises = λ s. (at s).rises s; meets = λ s p. (at s).meets s p })
    where
      anew : Act
      anew t = record t { had_value = false }

      at : (s : State) → Matches n (either (is_empty s.input) (goes (Failed InputEnd line)) (λ t. record t { had_value = false })) (either (is_empty s.input) (goes (Failed InputEnd line)) (λ t. record t { had_value = false }))
      at s = Matches-either (is_empty s.input) (Matches-goes (Failed InputEnd line)) (Matches-same _ (λ s. record { written = (front_same s).written; input = ([], refl); steps = omega arith }) (λ s. refl))

  Follows-skips_line : Follows n skips_line skips_line
  unfolding skips_line
  Follows-skips_line = Follows-while_going _ _ (Matches-same _ (λ s. record { written = (front_same s).written; input = after_line-end s.input; steps = omega arith }) (λ s. refl))

  Follows-takes_word : (line : ℕ) (k k' : List ℕ → Act) → ((w : List ℕ) → Matches n (k w) (k' w)) → Follows n (takes_word line k) (takes_word line k')
  unfolding takes_word
  Follows-takes_word line k k' h = Follows-while_going _ _ (record {
    rises = λ s. rise s (from_value s.had_value s.input) refl;
    meets = λ s p. meet s p (from_value s.had_value s.input) refl;
  })
    where
      past : List ℕ → State → State
      past rest t = record t { input = after_word rest; had_value = true }

      gone : (List ℕ → Act) → List ℕ → Act
      gone k rest t = k (first_word rest) (record t { input = after_word rest; had_value = true })

      before : (s : State) (rest : List ℕ) → from_value s.had_value s.input ≡ Ok rest → IsFrontOf s (record s { input = after_word rest; had_value = true })
      before s rest e =
          let h = from_value-end s.had_value s.input rest e in
          record {
            written = (front_same s).written;
            input = (h.0 ++ first_word rest, h.1 ∙ (ap (λ xs. h.0 ++ xs) (word_front rest) ∙ sym (append_assoc h.0 (first_word rest) (after_word rest))));
            steps = omega arith;
          }

      rise : (s : State) (r : Result (List ℕ) Fault) → from_value s.had_value s.input ≡ r → IsFrontOf s (answered line r (gone k) s)
      rise s (Ok rest) e = front_over s (record s { input = after_word rest; had_value = true }) _ (before s rest e) ((h (first_word rest)).rises (record s { input = after_word rest; had_value = true }))
      rise s (Err f) e = (Matches-goes (Failed f line)).rises s

      meet : (s : State) → s.steps ≤ n → (r : Result (List ℕ) Fault) → from_value s.had_value s.input ≡ r → Meets n (answered line r (gone k) s) (answered line r (gone k') s)
      meet s p (Ok rest) e = (h (first_word rest)).meets (record s { input = after_word rest; had_value = true }) p
      meet s p (Err f) e = (Matches-goes (Failed f line)).meets s p

-- ---- steps and statements

allowed_too : (n k : ℕ) (limit : Option ℕ) → IsAtMost n limit → k < n → is_allowed limit k ≡ true
allowed_too n k None h l = refl
allowed_too n k (Some m) h l = (Decides-ltb k m).1 (omega arith)

module _ (n : ℕ) (limit : Option ℕ) (least : IsAtMost n limit) (lang : Dialect) where
  pub Follows-counts_step : (k k' : Act) → Matches n k k' → Follows n (counts_step lang limit k) (counts_step lang (Some n) k')
  unfolding counts_step
  Follows-counts_step k k' h = Follows-while_going n _ _ (record {
    rises = λ s. rise s (is_allowed limit s.steps);
    meets = λ s p. meet s p (nat_lt s.steps n) (is_allowed limit s.steps) refl refl;
  })
    where
      one_more : State → State
      one_more s = record s { steps = s.steps + 1 }

      before : (s : State) → IsFrontOf s (one_more s)
      before s = record { written = (front_same s).written; input = ([], refl); steps = omega arith }

      on : (State → State) → State → State
      on f t = f (record t { steps = t.steps + 1 })

      rise : (s : State) (b : Bool) → IsFrontOf s (either b (on k) (goes Cut) s)
      rise s true = front_over s (one_more s) (k (one_more s)) (before s) (h.rises (one_more s))
      rise s false = (Matches-goes n Cut).rises s

      stopped : (s : State) → IsFrontOf (goes Cut s) (k (one_more s))
      stopped s = let f = front_over s (one_more s) (k (one_more s)) (before s) (h.rises (one_more s)) in record { written = f.written; input = f.input; steps = f.steps }

      meet : (s : State) → s.steps ≤ n → (b c : Bool) → nat_lt s.steps n ≡ b → is_allowed limit s.steps ≡ c
          → Meets n (either c (on k) (goes Cut) s) (either b (on k') (goes Cut) s)
      meet s p true true e f = h.meets (one_more s) (let l = (Decides-ltb s.steps n).0 e in omega arith)
      meet s p true false e f = let a = allowed_too n s.steps limit least ((Decides-ltb s.steps n).0 e) in cc
      meet s p false true e f = inr (
        (let a = (h.rises (one_more s)).steps in let b = ltb-false s.steps n e in omega arith),
        record {
          way = refl;
          steps = (let b = ltb-false s.steps n e in omega arith);
          front = stopped s;
        },
      )
      meet s p false false e f = inl (p, refl)

  Follows-checks_range : (line : ℕ) (v : Value) (k k' : Act) → Matches n k k' → Follows n (checks_range lang limit line v k) (checks_range lang (Some n) line v k')
  unfolding checks_range
  Follows-checks_range line v k k' h = Follows-while_going n _ _ (Matches-either n (is_in_range lang.bits v) h (Matches-goes n (Failed Overflow line)))

  Follows-sets_variable : (line : ℕ) (x : List ℕ) (z : ℤ) → Follows n (sets_variable lang limit line x z) (sets_variable lang (Some n) line x z)
  Follows-sets_variable line x z = Follows-evaluates n line _ _ _ (λ c. matching n (Follows-checks_range line (Int z) _ _ (matching n (Follows-stores n c (Int z)))))

  Follows-increases : (line : ℕ) (x : List ℕ) (d : ℤ) → Follows n (increases lang limit line x d) (increases lang (Some n) line x d)
  Follows-increases line x d = Follows-evaluates n line _ _ _ (λ c. matching n (Follows-evaluates n line _ _ _ (λ z. matching n (Follows-sets_variable line x z))))

  Follows-turn : (line : ℕ) (x : List ℕ) (d : ℤ) (f g : Act) → Follows n f g → Follows n (turn lang limit line x d f) (turn lang (Some n) line x d g)
  Follows-turn line x d f g h = Follows-counts_step _ _ (matching n (Follows-then n f g _ _ h (Follows-increases line x d)))

  Follows-loops : (line : ℕ) (x : List ℕ) (a b c : Expression) (f g : Act) → Follows n f g → Follows n (loops lang limit line x a b c f) (loops lang (Some n) line x a b c g)
  Follows-loops line x a b c f g h = Follows-evaluates n line _ _ _ (λ m1. matching n (Follows-evaluates n line _ _ _ (λ m2. matching n (Follows-evaluates n line _ _ _ (λ m3. matching n
      (Follows-then n _ _ _ _ (Follows-sets_variable line x m1) (Follows-evaluates n line _ _ _ (λ k. matching n (Follows-repeated n k _ _ (Follows-turn line x m3 f g h))))))))))

  Follows-stored : (c : Cell) (v : Value) → Follows n (counts_step lang limit (stores c v)) (counts_step lang (Some n) (stores c v))
  Follows-stored c v = Follows-counts_step _ _ (matching n (Follows-stores n c v))

  Follows-reads_into : (line : ℕ) (c : Cell) → Follows n (reads_into lang limit line c) (reads_into lang (Some n) line c)
  Follows-reads_into line c = Follows-takes_word n line _ _ (λ w. matching n (Follows-evaluates n line _ _ _ (λ v. matching n (Follows-checks_range line v _ _ (matching n (Follows-stored c v))))))

  mutual
    Follows-reads_item : (i : Item) (line : ℕ) → Follows n (reads_item lang limit i line) (reads_item lang (Some n) i line)
    Follows-reads_item (Single (Named x ps)) line = Follows-evaluates n line _ _ _ (λ cs. matching n (Follows-for_each n cs _ _ (Follows-reads_into line)))
    Follows-reads_item (ImpliedDo is x a b c) line = Follows-loops line x a b c _ _ (Follows-reads_items is line)
    Follows-reads_item _ line = Follows-nothing n

    Follows-reads_items : (is : Items) (line : ℕ) → Follows n (reads_items lang limit is line) (reads_items lang (Some n) is line)
    Follows-reads_items no_items line = Follows-nothing n
    Follows-reads_items (item i is) line = Follows-then n _ _ _ _ (Follows-reads_item i line) (Follows-reads_items is line)

  mutual
    Follows-prints_item : (i : Item) (line : ℕ) → Follows n (prints_item lang limit i line) (prints_item lang (Some n) i line)
    Follows-prints_item (Single e) line = Follows-evaluates n line _ _ _ (λ vs. matching n (Follows-writes n (output_text vs)))
    Follows-prints_item (Constant t) line = Follows-writes n t
    Follows-prints_item (ImpliedDo is x a b c) line = Follows-loops line x a b c _ _ (Follows-prints_items is line)

    Follows-prints_items : (is : Items) (line : ℕ) → Follows n (prints_items lang limit is line) (prints_items lang (Some n) is line)
    Follows-prints_items no_items line = Follows-nothing n
    Follows-prints_items (item i is) line = Follows-then n _ _ _ _ (Follows-prints_item i line) (Follows-prints_items is line)

  Follows-assigns : (line : ℕ) (r : Reference) (e : Expression) → Follows n (assigns lang limit line r e) (assigns lang (Some n) line r e)
  Follows-assigns line r e = Follows-evaluates n line _ _ _ (λ v. matching n (Follows-evaluates n line _ _ _ (λ c. matching n (Follows-checks_range line v _ _ (matching n (Follows-stored c v))))))

  Follows-array_assigns : (line : ℕ) (m : Expression) (r : Reference) (e : Expression) → Follows n (array_assigns lang limit line m r e) (array_assigns lang (Some n) line m r e)
  Follows-array_assigns line m r e = Follows-evaluates n line _ _ _ (λ ws. matching n (Follows-for_each n ws _ _ (λ w. Follows-stored w.0 w.1)))

  Matches-assignment : (line : ℕ) (r : Reference) (e : Expression) → Matches n
      (λ s. either (is_array lang (named r) s.store) (array_assigns lang limit line (Logic true) r e) (assigns lang limit line r e) s)
      (λ s. either (is_array lang (named r) s.store) (array_assigns lang (Some n) line (Logic true) r e) (assigns lang (Some n) line r e) s)
  Matches-assignment line r e = record { rises = λ s. (at s).rises s; meets = λ s p. (at s).meets s p }
    where
      at : (s : State) → Matches n (either (is_array lang (named r) s.store) (array_assigns lang limit line (Logic true) r e) (assigns lang limit line r e))
          (either (is_array lang (named r) s.store) (array_assigns lang (Some n) line (Logic true) r e) (assigns lang (Some n) line r e))
      at s = Matches-either n (is_array lang (named r) s.store) (matching n (Follows-array_assigns line (Logic true) r e)) (matching n (Follows-assigns line r e))

  Follows-label : (l : ℕ) → Follows n (does lang limit (Label l)) (does lang (Some n) (Label l))
  Follows-label l = record { rises = λ s. (at s).rises s; meets = λ s p. (at s).meets s p; stays = λ t e. ap (λ (w : Way). either (arrives l w) (goes Going) nothing t) e }
    where
      at : (s : State) → Matches n (either (arrives l s.way) (goes Going) nothing) (either (arrives l s.way) (goes Going) nothing)
      at s = Matches-either n (arrives l s.way) (Matches-goes n Going) (matching n (Follows-nothing n))

  mutual
    pub Follows-does : (c : Statement) → Follows n (does lang limit c) (does lang (Some n) c)
    Follows-does (Assignment line m r e) = Follows-counts_step _ _ (Matches-assignment line r e)
    Follows-does (Where line m k r e) = Follows-either n lang.arrays (Follows-counts_step _ _ (matching n (Follows-array_assigns line k r e))) (Follows-nothing n)
    Follows-does (If line arms other) = Follows-chooses line arms _ _ (Follows-does_all other)
    Follows-does (Do line x a b c body) = Follows-loops line x a b c _ _ (Follows-does_all body)
    Follows-does (Label l) = Follows-label l
    Follows-does (GoTo line l) = Follows-counts_step _ _ (Matches-goes n (Jumping l))
    Follows-does (Stop line) = Follows-counts_step _ _ (Matches-goes n Stopped)
    Follows-does (Read line is) = Follows-counts_step _ _ (matching n (Follows-then n _ _ _ _ (Follows-begins_line n line) (Follows-then n _ _ _ _ (Follows-reads_items is line) (Follows-skips_line n))))
    Follows-does (Print line is) = Follows-counts_step _ _ (matching n (Follows-then n _ _ _ _ (Follows-writes n (first_blank is)) (Follows-then n _ _ _ _ (Follows-prints_items is line) (Follows-writes n (10 ∷ [])))))
    Follows-does (Allocate line x es) = Follows-either n lang.arrays (Follows-counts_step _ _ (matching n (Follows-evaluates n line _ _ _ (λ bs. matching n (Follows-allocates n x bs))))) (Follows-nothing n)
    Follows-does (Deallocate line x) = Follows-either n lang.arrays (Follows-counts_step _ _ (matching n (Follows-evaluates n line _ _ _ (λ bs. matching n (Follows-deallocates n x))))) (Follows-nothing n)

    Follows-chooses : (line : ℕ) (arms : Arms) (f g : Act) → Follows n f g → Follows n (chooses lang limit line arms f) (chooses lang (Some n) line arms g)
    Follows-chooses line no_arms f g h = h
    Follows-chooses line (arm test body arms) f g h = Follows-counts_step _ _ (matching n (Follows-evaluates n line _ _ _ (λ b. Matches-either n b (matching n (Follows-does_all body)) (matching n (Follows-chooses line arms f g h)))))

    pub Follows-does_all : (cs : Block) → Follows n (does_all lang limit cs) (does_all lang (Some n) cs)
    Follows-does_all no_statements = Follows-nothing n
    Follows-does_all (statement c cs) = Follows-then n _ _ _ _ (Follows-does c) (Follows-does_all cs)

  -- ---- whole runs

  run_meets : (p : Program) (input : List ℕ) → Meets n (run lang limit p input) (run lang (Some n) p input)
  run_meets p input = (Follows-does_all p.body).meets (opening_state p input) (omega arith)

pub cut_run : (lang : Dialect) (n : ℕ) (limit : Option ℕ) (p : Program) (input : List ℕ) → IsAtMost n limit → CutsRun n (run lang (Some n) p input) (run lang limit p input)
cut_run lang n limit p input h = by (run_meets n limit h lang p input)
  where
    by : {whole part : State} → Meets n whole part → CutsRun n part whole
    by (inl (q, e)) = record { within = λ l. e; beyond = λ l. absurd (omega arith) }
    by (inr (q, c)) = record { within = λ l. absurd (omega arith); beyond = λ l. c }

-- under its own limit a run is its own front
pub limit_holds : (lang : Dialect) (n : ℕ) (p : Program) (input : List ℕ) → (run lang (Some n) p input).steps ≤ n
limit_holds lang n p input = by (run_meets n (Some n) (omega arith) lang p input)
  where
    by : {whole : State} → Meets n whole whole → whole.steps ≤ n
    by (inl (q, e)) = q
    by (inr (q, c)) = (let e = c.steps in omega arith)
