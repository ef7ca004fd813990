-- The spans of a chain of loops.
use Rattle.std.proofs.Common.{◌≡◌, ℕ, zero, suc, ◌+◌, ◌<◌, refl, sym, ap, ap₂, ◌∙◌, subst, arith, Option, Some, None, List, [], ◌∷◌, ◌++◌, length, map, take, get_or, append_assoc, add-one}
use Rattle.std.proofs.Math.Seq.{take-suc}
use Rattle.std.proofs.lemmas.List.{append-nil, map-append}
use Rattle.subscripts.specs.declared.affine.Span.{Span}
use Rattle.nest.specs.declared.parts.Loop.{Loop as Loop'}
use Rattle.nest.specs.Plain.{Loop}
use Rattle.nest.specs.View.{loop_of}
use Rattle.dependence_graph.specs.nest_graph.Ready.{HasTrip, HaveTrips}
use Rattle.dependence_graph.specs.nest_graph.Spans.{span_of, spans_of}
use Rattle.dependence_graph.specs.loop_spans.Greatest.{AreSpansOf, IsSpanOf}

one_more : {A : Type 0} (xs : List A) (i : ℕ) (x : A) → i < length xs → x ≡ get_or xs i x → take (i + 1) xs ≡ take i xs ++ x ∷ []
one_more xs i x h e = ap (λ n. take n xs) (add-one i) ∙ take-suc xs i x h ∙ ap (λ y. take i xs ++ y ∷ []) (sym e)

pub spans-push : (outer : List Span) (ls : List Loop) (ss : List Span) (l : Loop) (s : Span) → AreSpansOf outer ls ss → IsSpanOf (outer ++ ss) l.trip s
    → AreSpansOf outer (ls ++ l ∷ []) (ss ++ s ∷ [])
spans-push outer [] [] l s h k = (subst (λ (o : List Span). IsSpanOf o l.trip s) (append-nil outer) k, tt)
spans-push outer [] (t ∷ ss) l s h k = absurd h
spans-push outer (m ∷ ls) [] l s h k = absurd h
spans-push outer (m ∷ ls) (t ∷ ss) l s h k =
    (h.0, spans-push (outer ++ t ∷ []) ls ss l s h.1 (subst (λ (o : List Span). IsSpanOf o l.trip s) (sym (append_assoc outer (t ∷ []) ss)) k))

pub spans_more : (xs : List Loop') (i : ℕ) (x : Loop') (ss : List Span) (s : Span) → i < length xs → x ≡ get_or xs i x
    → AreSpansOf [] (map loop_of (take i xs)) ss → IsSpanOf ss x.trip s → AreSpansOf [] (map loop_of (take (i + 1) xs)) (ss ++ s ∷ [])
spans_more xs i x ss s h e a k =
    subst (λ (ls : List Loop). AreSpansOf [] ls (ss ++ s ∷ [])) (sym (ap (map loop_of) (one_more xs i x h e) ∙ map-append loop_of (take i xs) (x ∷ [])))
    (spans-push [] (map loop_of (take i xs)) ss (loop_of x) s a k)

spans_of-push : (outer : List Span) (ls : List Loop) (l : Loop) → spans_of outer (ls ++ l ∷ []) ≡ spans_of outer ls ++ span_of (outer ++ spans_of outer ls) l.trip ∷ []
spans_of-push outer [] l = ap (λ (o : List Span). span_of o l.trip ∷ []) (sym (append-nil outer))
spans_of-push outer (m ∷ ls) l =
    let s = span_of outer m.trip in let rest = spans_of (outer ++ s ∷ []) ls in
    ap (λ (zs : List Span). s ∷ zs)
    (spans_of-push (outer ++ s ∷ []) ls l ∙ ap (λ (o : List Span). rest ++ span_of o l.trip ∷ []) (append_assoc outer (s ∷ []) rest))

pub value_more : (xs : List Loop') (i : ℕ) (x : Loop') (ss : List Span) (s : Span) → i < length xs → x ≡ get_or xs i x
    → ss ≡ spans_of [] (map loop_of (take i xs)) → s ≡ span_of ss x.trip → ss ++ s ∷ [] ≡ spans_of [] (map loop_of (take (i + 1) xs))
value_more xs i x ss s h e a k =
    ap₂ (λ (zs : List Span) (z : Span). zs ++ z ∷ []) a (k ∙ ap (λ (zs : List Span). span_of zs x.trip) a)
    ∙ sym (spans_of-push [] (map loop_of (take i xs)) (loop_of x))
    ∙ sym (ap (spans_of []) (ap (map loop_of) (one_more xs i x h e) ∙ map-append loop_of (take i xs) (x ∷ [])))

trip_in : (d : ℕ) (xs : List Loop') (i : ℕ) (x : Loop') → HaveTrips d (map loop_of xs) → i < length xs → x ≡ get_or xs i x → HasTrip (d + i) (loop_of x)
trip_in d [] i x h l e = absurd (omega arith)
trip_in d (y ∷ ys) zero x h l e = subst (λ n. HasTrip n (loop_of x)) (omega arith) (subst (λ (z : Loop'). HasTrip d (loop_of z)) (sym e) h.0)
trip_in d (y ∷ ys) (suc i) x h l e = subst (λ n. HasTrip n (loop_of x)) (omega arith) (trip_in (suc d) ys i x h.1 (omega arith) e)

pub trip_here : (xs : List Loop') (i n : ℕ) (x : Loop') → HaveTrips 0 (map loop_of xs) → i < length xs → x ≡ get_or xs i x → n ≡ i → HasTrip n (loop_of x)
trip_here xs i n x h l e f = let g : 0 + i ≡ n = omega arith in subst (λ m. HasTrip m (loop_of x)) g (trip_in 0 xs i x h l e)
