-- What comes after the loops does the same in stores that are the same but for made names.
use Rattle.std.proofs.Common.{◌≡◌, sym, ap, ◌∙◌, subst, inl, inr, ℕ, true, cond, List, [], ◌∷◌, ◌++◌, Option, Some, None, Result, Ok, Err}
use Rattle.tree.specs.Operators.{as_truth}
use Rattle.tree.specs.Plain as P
use Rattle.tree.specs.Steps.{◌>>=◌}
use Rattle.tree.specs.declared.ops.Fault.{Fault}
use Rattle.tree.specs.declared.ops.Fault.TheVariants.{Overflow}
use Rattle.tree.specs.declared.ops.Value.{Value}
use Rattle.tree.specs.declared.ops.Value.TheVariants.{Truth}
use Rattle.tree.specs.declared.stmts.Mark.{Mark}
use Rattle.meaning.specs.Dialect.{Dialect}
use Rattle.meaning.specs.Reads.{names_in, names_in_block, names_in_statement, names_in_subscripts}
use Rattle.meaning.specs.Run.{does, does_all}
use Rattle.meaning.specs.Store.{Cell, Store, put, same_cell}
use Rattle.meaning.specs.Value.{cell_named, is_in_range, truth_of, value_of}
use Rattle.nest_order.proofs.orders.Lists.{In-left, In-right}
use Rattle.nest_order.proofs.runs.Alike.{Alike, effect_alike, value_alike}
use Rattle.nest_order.proofs.runs.Results.{both_ok, each_of, ok_same}
use Rattle.nest_order.proofs.runs.Variables.{cell_name}
use Rattle.nest_order.specs.orders.Lists.{In}
use Rattle.nest_order.specs.runs.Guarded as runs
use Rattle.nest_order.specs.runs.Guarded.{effect}
use Rattle.nest_steps.proofs.Acts.{Leads-assignment, Leads-chooses, Leads-from, Leads-nothing, Leads-then}
use Rattle.nest_steps.specs.Leading.{Leads}
use Rattle.pass_laws.specs.prepared_nests.After.{AreEndings, IsEnding}
use Rattle.rewrite.proofs.Acts.{Stays-does_all}
use Rattle.rewrite.specs.Following.{sequential}

module _ (bits : ℕ) (Made : List ℕ → Type 0) where
  abbrev lang : Dialect
  lang = sequential bits

  abbrev pub Clear : List (List ℕ) → Type 0
  Clear xs = (x : List ℕ) → In x xs → ¬ Made x

  pub front : (xs ys : List (List ℕ)) → Clear (xs ++ ys) → Clear xs
  front xs ys h x i = h x (In-left x xs ys i)

  pub rest : (xs ys : List (List ℕ)) → Clear (xs ++ ys) → Clear ys
  rest xs ys h x i = h x (In-right x xs ys i)

  -- the same but for what made names hold
  pub record AreSame (s u : Store) : Type 0 where
    pub bounds : (x : List ℕ) → u.bounds x ≡ s.bounds x
    pub held : (c : Cell) → ¬ Made c.name → u.held c ≡ s.held c

  alike : (s u : Store) → AreSame s u → (xs : List (List ℕ)) → Clear xs → (x : List ℕ) → In x xs → Alike bits u s x
  alike s u a xs h x i = (
    a.bounds x,
    λ is c e. a.held c (subst (λ y. ¬ Made y) (sym (cell_name (u.bounds x) x is c e).0) (h x i)),
  )

  same_value : (e : P.Expression) → Clear (names_in e) → (s u : Store) → AreSame s u → value_of lang e u ≡ value_of lang e s
  same_value e h s u a = value_alike bits u s e (each_of (Alike bits u s) (names_in e) (alike s u a (names_in e) h))

  same_truth : (e : P.Expression) → Clear (names_in e) → (s u : Store) → AreSame s u → truth_of lang e u ≡ truth_of lang e s
  same_truth e h s u a = ap (λ (r : Result Value Fault). do v ← r; as_truth v) (same_value e h s u a)

  same_left : (r : P.Reference) → Clear (r.name ∷ names_in_subscripts r.subscripts) → (s u : Store) → AreSame s u → (c : Cell) → cell_named lang r s ≡ Ok c → cell_named lang r u ≡ Ok c
  same_left r h s u a c e =
      let g : runs.GuardedAssignment = record { guard = None; left = r; right = P.Logic true } in
      let one : effect lang g s ≡ Ok (Some (c, Truth true)) = ap (λ (q : Result Cell Fault). do d ← q; cond (is_in_range bits (Truth true)) (Ok (Some (d, Truth true))) (Err Overflow)) e in
      let two : effect lang g u ≡ Ok (Some (c, Truth true)) = effect_alike bits u s g (each_of (Alike bits u s) (r.name ∷ names_in_subscripts r.subscripts) (alike s u a (r.name ∷ names_in_subscripts r.subscripts) h)) ∙ one in
      let p = both_ok (cell_named lang r u) (λ d. cond (is_in_range bits (Truth true)) (Ok (Some (d, Truth true))) (Err Overflow)) (Some (c, Truth true)) two in
      let same : Some (p.0, Truth true) ≡ Some (c, Truth true) = ok_same {F = Fault} (Some (p.0, Truth true)) (Some (c, Truth true)) p.2 in
      p.1 ∙ ap Ok (cell_of (p.0, Truth true) (c, Truth true) same)
    where
      cell_of : (x y : Cell × Value) → Some x ≡ Some y → x.0 ≡ y.0
      cell_of x y e = let same : x ≡ y = cc in ap (λ (z : Cell × Value). z.0) same

  changed : (c : Cell) (v : Value) (s u : Store) → AreSame s u → AreSame (put c v s) (put c v u)
  changed c v s u a = record { bounds = a.bounds; held = λ d n. ap (λ w. cond (same_cell c d) v w) (a.held d n) }

  assignment_leads : (line : ℕ) (m : Option Mark) (r : P.Reference) (e : P.Expression) → Clear (names_in_statement (P.Assignment line m r e)) → Leads AreSame AreSame (does lang None (P.Assignment line m r e)) (does lang None (P.Assignment line m r e))
  assignment_leads line m r e h =
      let tail : Clear (names_in_subscripts r.subscripts ++ names_in e) = λ x i. h x (inr i) in
      Leads-assignment bits AreSame AreSame line line m m r r e e
      (λ s u a v f. same_value e (rest (names_in_subscripts r.subscripts) (names_in e) tail) s u a ∙ f)
      (λ s u a v f c g. record {
        cell = c;
        named = same_left r (λ x i. left x i) s u a c g;
        put = λ range. changed c v s u a;
      })
    where
      left : Clear (r.name ∷ names_in_subscripts r.subscripts)
      left x (inl i) = h x (inl i)
      left x (inr i) = h x (inr (In-left x (names_in_subscripts r.subscripts) (names_in e) i))

  mutual
    ending_leads : (c : P.Statement) → IsEnding c → Clear (names_in_statement c) → Leads AreSame AreSame (does lang None c) (does lang None c)
    ending_leads (P.Assignment line m r e) h n = assignment_leads line m r e n
    ending_leads (P.If line P.no_arms other) h n = absurd h.0
    ending_leads (P.If line (P.arm test body P.no_arms) P.no_statements) h n =
        let inner = front (names_in test ++ names_in_block body) [] (front (names_in test ++ names_in_block body ++ []) [] n) in
        Leads-chooses bits AreSame AreSame line line test test body body
        (λ s u a x f. same_truth test (front (names_in test) (names_in_block body) inner) s u a ∙ f)
        (Leads-from AreSame (λ s u. AreSame s u × (truth_of lang test s ≡ Ok true)) AreSame _ _ (λ s u a. a.0)
        (endings_lead body h.0.0 (rest (names_in test) (names_in_block body) inner)))
        (λ s u a f. a)
    ending_leads (P.If line (P.arm test body (P.arm t b more)) other) h n = absurd h.0.1
    ending_leads (P.If line (P.arm test body P.no_arms) (P.statement c cs)) h n = absurd h.1
    ending_leads (P.Where line m mask l r) h n = absurd h
    ending_leads (P.Do line x a b c body) h n = absurd h
    ending_leads (P.Label k) h n = absurd h
    ending_leads (P.GoTo line k) h n = absurd h
    ending_leads (P.Stop line) h n = absurd h
    ending_leads (P.Read line is) h n = absurd h
    ending_leads (P.Print line is) h n = absurd h
    ending_leads (P.Allocate line x es) h n = absurd h
    ending_leads (P.Deallocate line x) h n = absurd h

    pub endings_lead : (b : P.Block) → AreEndings b → Clear (names_in_block b) → Leads AreSame AreSame (does_all lang None b) (does_all lang None b)
    endings_lead P.no_statements h n = Leads-nothing AreSame
    endings_lead (P.statement c cs) h n =
        Leads-then AreSame AreSame AreSame _ _ _ _ (ending_leads c h.0 (front (names_in_statement c) (names_in_block cs) n)) (Stays-does_all lang None cs)
        (endings_lead cs h.1 (rest (names_in_statement c) (names_in_block cs) n))
