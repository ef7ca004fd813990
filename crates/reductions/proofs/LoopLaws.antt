-- One more of a list that is gone through, and its end.
use Rattle.std.proofs.Common.{◌≡◌, refl, sym, ap, ap₂, ◌∙◌, ℕ, ◌+◌, ◌<◌, ◌≤◌, Bool, true, false, cond, List, [], ◌∷◌, ◌++◌, map, take, drop, length, get_or, append_assoc}
use Rattle.std.specs.Prelude.{◌==◌}
use Rattle.std.specs.Str.{bytes_eq}
use Rattle.std.proofs.Math.Dec.{eqb-suc-zero}
use Rattle.std.proofs.lemmas.List.{at_drop_more, at_drop_all}
use Rattle.tree.specs.Plain.{Expression, expressions, no_expressions, Subscript, subscripts, no_subscripts, no_loops}
use Rattle.tree.specs.View.{expression_of, subscript_of, loop_of, constructor_loops, ConstructorLoop}
use Rattle.tree.specs.declared.exprs.Expr.{Expr}
use Rattle.tree.specs.declared.exprs.Sub.{Sub}
use Rattle.tree.specs.declared.exprs.Turn.{Turn, out-Turn}
use Rattle.tree.proofs.Equations.{loop_of-is}
use Rattle.rewrite.proofs.UseLaws.{one_more}
use Rattle.reductions.specs.Reading.{read_in, read_round, read_under, without}
use Rattle.reductions.specs.Same.{same_each, same_loops, same_subscripts}

-- ---- names but one

without-append : (x : List ℕ) (ns ms : List (List ℕ)) → without x (ns ++ ms) ≡ without x ns ++ without x ms
without-append x [] ms = refl
without-append x (n ∷ ns) ms = by (bytes_eq n x) (without-append x ns ms)
  where
    by : (b : Bool) → without x (ns ++ ms) ≡ without x ns ++ without x ms → cond b (without x (ns ++ ms)) (n ∷ without x (ns ++ ms)) ≡ cond b (without x ns) (n ∷ without x ns) ++ without x ms
    by true e = e
    by false e = ap (λ zs. n ∷ zs) e

pub without_more : (x : List ℕ) (list : List (List ℕ)) (i : ℕ) (n : List ℕ) (first old new : List (List ℕ)) → i < length list → n ≡ get_or list i n
    → old ≡ first ++ without x (take i list) → new ≡ old ++ without x (n ∷ []) → new ≡ first ++ without x (take (i + 1) list)
without_more x list i n first old new h e before now =
    now ∙ (ap (λ us. us ++ without x (n ∷ [])) before ∙ (append_assoc first (without x (take i list)) (without x (n ∷ []))
    ∙ ap (λ us. first ++ us) (sym (without-append x (take i list) (n ∷ [])) ∙ ap (without x) (sym (one_more list i n h e)))))

-- ---- the loops of a constructor

pub under_more : (whole : List (List ℕ)) (ls : List Turn) (i : ℕ) (l : Turn) (inner start round new : List (List ℕ)) → i < length ls → l ≡ get_or ls i l
    → whole ≡ read_under (constructor_loops (map loop_of (drop i ls))) inner
    → start ≡ [] → round ≡ start ++ (read_in (loop_of l).first ++ read_in (loop_of l).last) → new ≡ round ++ without (out-Turn l).var inner
    → whole ≡ read_under (constructor_loops (map loop_of (drop (i + 1) ls))) new
under_more whole ls i l inner start round new h e before none made now =
    before ∙ (at_drop_more (λ ms. read_under (constructor_loops (map loop_of ms)) inner) ls i l h
    ∙ (ap (λ m. read_under (constructor_loops (map loop_of (m ∷ drop (i + 1) ls))) inner) (sym e)
    ∙ ap (read_under (constructor_loops (map loop_of (drop (i + 1) ls)))) (sym same)))
  where
    named : without (out-Turn l).var inner ≡ without (loop_of l).variable inner
    named = ap (λ (m : ConstructorLoop). without m.variable inner) (sym (loop_of-is l))

    same : new ≡ read_round (loop_of l) inner
    same = now ∙ (ap (λ ns. ns ++ without (out-Turn l).var inner) (made ∙ ap (λ ns. ns ++ (read_in (loop_of l).first ++ read_in (loop_of l).last)) none) ∙ (append_assoc (read_in (loop_of l).first) (read_in (loop_of l).last) (without (out-Turn l).var inner)
        ∙ ap (λ ns. read_in (loop_of l).first ++ (read_in (loop_of l).last ++ ns)) named))

pub under_end : (whole : List (List ℕ)) (ls : List Turn) (i : ℕ) (inner : List (List ℕ)) → length ls ≤ i → whole ≡ read_under (constructor_loops (map loop_of (drop i ls))) inner → inner ≡ whole
under_end whole ls i inner h e = sym (e ∙ at_drop_all (λ ms. read_under (constructor_loops (map loop_of ms)) inner) ls i h)

-- ---- the ends of two lists

pub expressions_end : (whole : Bool) (es rest : List Expr) (i : ℕ) → length es ≤ i → whole ≡ same_each (expressions (map expression_of (drop i es))) (expressions (map expression_of rest)) → (length rest == 0) ≡ whole
expressions_end whole es rest i h e = by rest ∙ sym (e ∙ at_drop_all (λ fs. same_each (expressions (map expression_of fs)) (expressions (map expression_of rest))) es i h)
  where
    by : (rest : List Expr) → (length rest == 0) ≡ same_each no_expressions (expressions (map expression_of rest))
    by [] = refl
    by (f ∷ fs) = eqb-suc-zero (length fs)

pub subscripts_end : (whole : Bool) (ps rest : List Sub) (i : ℕ) → length ps ≤ i → whole ≡ same_subscripts (subscripts (map subscript_of (drop i ps))) (subscripts (map subscript_of rest)) → (length rest == 0) ≡ whole
subscripts_end whole ps rest i h e = by rest ∙ sym (e ∙ at_drop_all (λ qs. same_subscripts (subscripts (map subscript_of qs)) (subscripts (map subscript_of rest))) ps i h)
  where
    by : (rest : List Sub) → (length rest == 0) ≡ same_subscripts no_subscripts (subscripts (map subscript_of rest))
    by [] = refl
    by (q ∷ qs) = eqb-suc-zero (length qs)

pub loops_end : (whole : Bool) (ls rest : List Turn) (i : ℕ) → length ls ≤ i → whole ≡ same_loops (constructor_loops (map loop_of (drop i ls))) (constructor_loops (map loop_of rest)) → (length rest == 0) ≡ whole
loops_end whole ls rest i h e = by rest ∙ sym (e ∙ at_drop_all (λ ms. same_loops (constructor_loops (map loop_of ms)) (constructor_loops (map loop_of rest))) ls i h)
  where
    by : (rest : List Turn) → (length rest == 0) ≡ same_loops no_loops (constructor_loops (map loop_of rest))
    by [] = refl
    by (m ∷ ms) = eqb-suc-zero (length ms)
