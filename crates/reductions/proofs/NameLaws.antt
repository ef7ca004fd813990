-- Names in sets, and names that FORTRAN 77 has too.
use Rattle.std.proofs.Common.{◌≡◌, refl, sym, ap, ◌∙◌, ℕ, ◌≤◌, Bool, true, false, not, ◌↔◌, List, [], ◌∷◌, length, arith, Result, Ok, Err, Option}
use Rattle.std.specs.Prelude.{nat_eq, nat_le, ◌&&◌, IsTrue, IfOk, OnOk, Contains}
use Rattle.std.specs.List.{list_any}
use Rattle.std.specs.Str.{bytes_eq}
use Rattle.std.proofs.lemmas.Bool.{leb-true, le-leb}
use Rattle.std.proofs.lemmas.Cmp.{nat_eq_equiv}
use Rattle.std.proofs.lemmas.Map.Views.{Contains-from_any, list_any-from_Contains}
use Rattle.indexmap.specs.IndexSet.{insert_all}
use Rattle.tree.specs.Names.{IsSourceName}
use Rattle.meaning.specs.Names.{is_among}
use Rattle.nest_reasons.proofs.SymbolLaws.{among-insert_all}
use mathlib.Core.Path.{fun_ext}
use Rattle.tree.specs.Plain.{Block, Declaration}
use Rattle.reductions.specs.Finding.{Context, context_by, is_source}
use Rattle.reductions.specs.Reading.{read_in_block}

-- ---- names of a source

not_both : (b : Bool) → b ≡ true → b ≡ false → ⊥
not_both true e f = cc
not_both false e f = cc

no_source : (b : Bool) (x : List ℕ) → (IsTrue b ↔ IsSourceName x) → ¬ (IsSourceName x) → b ≡ false
no_source true x h n = absurd (n (h.0 refl))
no_source false x h n = refl

same_number : (m n : ℕ) → nat_eq m n ≡ true → m ≡ n
same_number m n e = grind arith

pub source_is : (b : Bool) (x : List ℕ) → (IsTrue b ↔ IsSourceName x) → b ≡ is_source x
source_is b x h = by (nat_le (length x) 6) (list_any (nat_eq 95) x) refl refl
  where
    by : (p q : Bool) → nat_le (length x) 6 ≡ p → list_any (nat_eq 95) x ≡ q → b ≡ (p && not q)
    by true true e f = no_source b x h (λ s. s.plain (Contains-from_any same_number 95 x f))
    by true false e f = h.1 (record { within = leb-true (length x) 6 e; plain = λ c. not_both (list_any (nat_eq 95) x) (found c) f })
      where
        found : Contains x 95 → list_any (nat_eq 95) x ≡ true
        found c = list_any-from_Contains nat_eq_equiv 95 x c
    by false q e f = no_source b x h (λ s. not_both (nat_le (length x) 6) (le-leb (length x) 6 s.within) e)

pub ruleset source_laws = (source_is)

-- ---- sets

pub set_has : (x : List ℕ) (ks ns : List (List ℕ)) → ks ≡ insert_all bytes_eq [] ns → is_among ks x ≡ is_among ns x
set_has x ks ns e = ap (λ zs. list_any (bytes_eq x) zs) e ∙ among-insert_all x ns

pub ruleset set_laws = (set_has)

-- ---- answers

pub if_ok : {A E : Type 0} (r : Result A E) (P Q : A → Type 0) → ((x : A) → P x → Q x) → IfOk r P → IfOk r Q
if_ok (Ok x) P Q f h = f x h
if_ok (Err e) P Q f h = tt

pub on_ok : {A E : Type 0} (r : Result A E) (P Q : Type 0) → (P → Q) → OnOk r P → OnOk r Q
on_ok (Ok x) P Q f h = f h
on_ok (Err e) P Q f h = tt

-- ---- what a program has beside a loop

pub context_same : (ds : List Declaration) (title : Option (List ℕ)) (ks : List (List ℕ)) (b : Block) → ((x : List ℕ) → is_among ks x ≡ is_among (read_in_block b) x)
    → ◌≡◌ {A = Context} (record { declarations = ds; title = title; reads = is_among ks }) (context_by ds title b)
context_same ds title ks b h = ap (λ (r : List ℕ → Bool). let w : Context = record { declarations = ds; title = title; reads = r } in w) (fun_ext h)
