use Rattle.std.proofs.Common.{◌≡◌, ℕ, ◌+◌, List, Some, ◌++◌, length, take, drop, sym, ap, ◌∙◌, arith}
use Rattle.std.proofs.lemmas.List.{take_at, take_rest, drop-drop, take-append-drop, length-take}
use Rattle.streams.proofs.memory.PlainSourceSource.take.Goals as goal

-- n bytes from a place on were copied to the front of the buffer
front_taken : (bytes buffer copy : List ℕ) (at n : ℕ) → copy ≡ take n (drop at bytes) → length copy ≡ n → drop at bytes ≡ take n (copy ++ drop n buffer) ++ drop (at + n) bytes
front_taken bytes buffer copy at n is len =
    sym (ap (λ t. t ++ drop (at + n) bytes) (take_at copy (drop n buffer) n len ∙ is) ∙ ap (λ t. take n (drop at bytes) ++ t) (sym (drop-drop n at bytes)) ∙ take-append-drop n (drop at bytes))

pub returns-clause-bytes : goal.returns-clause-bytes
returns-clause-bytes c =
    let bytes = c.self.inside.bytes.items in
    let at = c.self.inside.at in
    let n = c.min-n.result in
    let buffer = c.args.buffer.now in
    let copy : c.copy_from_slice.new.self ≡ take n (drop at bytes) = rw (← take_rest bytes at, ← c.deref.ensures.value) c.copy_from_slice.ensures.after in
    let len : length c.copy_from_slice.new.self ≡ n = omega (arith, c.copy_from_slice.ensures.len, length-take n buffer) in
    ap Some (sym c.self.view_is ∙ front_taken bytes buffer c.copy_from_slice.new.self at n copy len)
