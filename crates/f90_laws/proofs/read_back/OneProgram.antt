-- No text conforms as two programs.
use Rattle.std.proofs.Common.{◌≡◌, ◌⊎◌, inl, inr, refl, sym, ap, subst, ◌∙◌, ℕ, true, false, Option, List, [], ◌∷◌, Contains}
use Rattle.std.specs.List.{AllByRecursion}
use Rattle.std.specs.Str.{bytes_eq}
use Rattle.std.specs.Ordering.{nat_cmp, is_eq}
use Rattle.std.specs.Cmp.Lexicographic.{slice_cmp, nat_list_cmp_total}
use Rattle.std.specs.declared.cmp.Ordering.TheVariants.{Less}
use Rattle.std.proofs.lemmas.Map.Text.{is_eq-slice_cmp}
use Rattle.std.proofs.lemmas.Slice.Eq.{bytes_eq-Decides}
use mathlib.Core.Path.{ap₂}
use Rattle.tree.specs.Plain.{Declaration, Block, Program}
use Rattle.meaning.specs.Names.{IsInByteOrder}
use Rattle.f90_grammar.specs.Blocks.{Placed}
use Rattle.f90_grammar.specs.Declared.{declared_names_of}
use Rattle.f90_grammar.specs.Programs.{IsProgramOf}
use Rattle.f90_laws.proofs.blocks.Bodies.{one_body}
use Rattle.f90_laws.proofs.readings.Lists.{here, there, nowhere, cases_of}
use Rattle.f90_laws.proofs.unique.Lines.{one_text}
use Rattle.f90_laws.specs.read_back.Laws.{OneProgram}

-- ---- declarations in byte order of names

abbrev Below : List ℕ → List ℕ → Type 0
Below x y = slice_cmp nat_cmp x y ≡ Less

below_itself : (x : List ℕ) → Below x x → ⊥
below_itself x h =
    let apart : bytes_eq x x ≡ false = sym (is_eq-slice_cmp x x) ∙ ap is_eq h in
    let same : bytes_eq x x ≡ true = (bytes_eq-Decides x x).1 refl in
    cc

below_each : (x : List ℕ) (ds : List Declaration) (d : Declaration) → AllByRecursion (λ (y : List ℕ). Below x y) (declared_names_of ds) → Contains ds d
    → Below x d.name
below_each x [] d h c = absurd (nowhere d c)
below_each x (e ∷ es) d h c = by (below_each x es d h.1) (cases_of e es d c)
  where
    by : (Contains es d → Below x d.name) → (e ≡ d) ⊎ Contains es d → Below x d.name
    by next (inl s) = subst (λ (f : Declaration). Below x f.name) s h.0
    by next (inr k) = next k

abbrev AreAmong : List Declaration → List Declaration → Type 0
AreAmong ds es = (d : Declaration) → Contains ds d → Contains es d

-- the least of both is one
same_head : (d : Declaration) (ds : List Declaration) (e : Declaration) (es : List Declaration) → IsInByteOrder (declared_names_of (d ∷ ds))
    → IsInByteOrder (declared_names_of (e ∷ es)) → AreAmong (d ∷ ds) (e ∷ es) → AreAmong (e ∷ es) (d ∷ ds) → d ≡ e
same_head d ds e es h k to from = by (cases_of e es d (to d (here d ds))) (cases_of d ds e (from e (here e es)))
  where
    by : (e ≡ d) ⊎ Contains es d → (d ≡ e) ⊎ Contains ds e → d ≡ e
    by (inl s) j = sym s
    by (inr c) (inl s) = s
    by (inr c) (inr g) =
        absurd (below_itself d.name (nat_list_cmp_total.trans d.name e.name d.name (below_each d.name ds e h.0 g) (below_each e.name es d k.0 c)))

among_rest : (d : Declaration) (ds : List Declaration) (e : Declaration) (es : List Declaration) → d ≡ e → IsInByteOrder (declared_names_of (d ∷ ds))
    → AreAmong (d ∷ ds) (e ∷ es) → AreAmong ds es
among_rest d ds e es s h to x c = by (cases_of e es x (to x (there d ds x c)))
  where
    by : (e ≡ x) ⊎ Contains es x → Contains es x
    by (inl t) = absurd (below_itself d.name (subst (λ (f : Declaration). Below d.name f.name) (sym (s ∙ t)) (below_each d.name ds x h.0 c)))
    by (inr g) = g

once_sorted : (ds es : List Declaration) → IsInByteOrder (declared_names_of ds) → IsInByteOrder (declared_names_of es) → AreAmong ds es → AreAmong es ds → ds ≡ es
once_sorted [] [] h k to from = refl
once_sorted [] (e ∷ es) h k to from = absurd (nowhere e (from e (here e es)))
once_sorted (d ∷ ds) [] h k to from = absurd (nowhere d (to d (here d ds)))
once_sorted (d ∷ ds) (e ∷ es) h k to from =
    let s = same_head d ds e es h k to from in
    ap₂ (λ (x : Declaration) (xs : List Declaration). x ∷ xs) s
    (once_sorted ds es h.1 k.1 (among_rest d ds e es s h to) (among_rest e es d ds (sym s) k from))

-- ---- the statements are those of one program

abbrev program_by : Option (List ℕ) → List Declaration → Block → Program
program_by name ds b = record { name = name; declarations = ds; body = b }

module _ (ps : List Placed) (q r : Program) (h : IsProgramOf ps q) (k : IsProgramOf ps r) where
  same_declarations : q.declarations ≡ r.declarations
  same_declarations =
      once_sorted q.declarations r.declarations h.sorted k.sorted (λ d c. (k.each d).0 ((h.each d).1 c)) (λ d c. (h.each d).0 ((k.each d).1 c))

  same_body : q.body ≡ r.body
  same_body = one_body ps q.body r.body h.body k.body

  same_program : q ≡ r
  same_program =
      ap (λ (o : Option (List ℕ)). program_by o q.declarations q.body) (h.title ∙ sym k.title)
      ∙ (ap (λ (ds : List Declaration). program_by r.name ds q.body) same_declarations ∙ ap (λ (b : Block). program_by r.name r.declarations b) same_body)

pub once_read : OneProgram
once_read text q r h k =
    same_program k.statements q r
    (subst (λ (ps : List Placed). IsProgramOf ps q) (one_text text h.statements k.statements h.of_text k.of_text) h.is_program) k.is_program
