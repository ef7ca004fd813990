use Rattle.std.proofs.Common.{◌∙◌, sym}
use Rattle.f77_expressions.specs.Symbols.{symbols_of}
use Rattle.f77_statement.proofs.CardLaws.{refused_limited, limited_refuses, refused_formless, formless_refuses, squeezed_here, only_here, unread_here, unread_err}
use Rattle.f77_statement.proofs.cards.parse.Goals as goal

pub returns-in-Ok-clause-refused : goal.returns-in-Ok-clause-refused
returns-in-Ok-clause-refused c r e =
    let q = squeezed_here c.as_slice.result.now c.args.card.now.chars c.as_slice-2.result.now c.in_ok-symbols.symbols.items c.as_slice.ensures c.as_slice-2.ensures.value c.in_ok-symbols.ensures.found in
    refused_limited c.args.card.now.chars (symbols_of c.as_slice-2.result.now) c.args.card.now.line c.in-Ok.made c.limited.result c.limited.ensures q c.in-Ok.ensures.found r e

pub returns-in-Ok-clause-only_refused : goal.returns-in-Ok-clause-only_refused
returns-in-Ok-clause-only_refused c number word b =
    let q = squeezed_here c.as_slice.result.now c.args.card.now.chars c.as_slice-2.result.now c.in_ok-symbols.symbols.items c.as_slice.ensures c.as_slice-2.ensures.value c.in_ok-symbols.ensures.found in
    let o = only_here c.as_slice.result.now c.args.card.now.chars c.as_slice-2.result.now c.in_ok-symbols.symbols.items c.as_slice.ensures c.as_slice-2.ensures.value c.in_ok-symbols.ensures.only in
    limited_refuses c.args.card.now.chars (symbols_of c.as_slice-2.result.now) c.args.card.now.line c.in-Ok.made c.limited.result c.limited.ensures o q c.in-Ok.ensures.found c.in-Ok.ensures.only number word b

pub returns-in-Err-Syntax-clause-refused : goal.returns-in-Err-Syntax-clause-refused
returns-in-Err-Syntax-clause-refused c r e =
    let q = squeezed_here c.as_slice.result.now c.args.card.now.chars c.as_slice-in-Err-Syntax.result.now c.in_ok-symbols.symbols.items c.as_slice.ensures c.as_slice-in-Err-Syntax.ensures.value
    c.in_ok-symbols.ensures.found in
    let o = only_here c.as_slice.result.now c.args.card.now.chars c.as_slice-in-Err-Syntax.result.now c.in_ok-symbols.symbols.items c.as_slice.ensures c.as_slice-in-Err-Syntax.ensures.value
    c.in_ok-symbols.ensures.only in
    let n = unread_here c.as_slice-in-Err-Syntax.result.now c.as_slice-2.result.now (c.as_slice-in-Err-Syntax.ensures.value ∙ sym c.as_slice-2.ensures.value) (unread_err (symbols_of c.as_slice-2.result.now) c.in-Err-Syntax.field-0 c.in-Err-Syntax.field-0-is c.in-Err-Syntax.ensures.only) in
    refused_formless c.args.card.now.chars (symbols_of c.as_slice-in-Err-Syntax.result.now) c.args.card.now.line c.formless.result q o n c.formless.ensures.line c.formless.ensures.found r e

pub returns-in-Err-Syntax-clause-only_refused : goal.returns-in-Err-Syntax-clause-only_refused
returns-in-Err-Syntax-clause-only_refused c number word b =
    let q = squeezed_here c.as_slice.result.now c.args.card.now.chars c.as_slice-in-Err-Syntax.result.now c.in_ok-symbols.symbols.items c.as_slice.ensures c.as_slice-in-Err-Syntax.ensures.value
    c.in_ok-symbols.ensures.found in
    let o = only_here c.as_slice.result.now c.args.card.now.chars c.as_slice-in-Err-Syntax.result.now c.in_ok-symbols.symbols.items c.as_slice.ensures c.as_slice-in-Err-Syntax.ensures.value
    c.in_ok-symbols.ensures.only in
    let n = unread_here c.as_slice-in-Err-Syntax.result.now c.as_slice-2.result.now (c.as_slice-in-Err-Syntax.ensures.value ∙ sym c.as_slice-2.ensures.value) (unread_err (symbols_of c.as_slice-2.result.now) c.in-Err-Syntax.field-0 c.in-Err-Syntax.field-0-is c.in-Err-Syntax.ensures.only) in
    formless_refuses c.args.card.now.chars (symbols_of c.as_slice-in-Err-Syntax.result.now) c.args.card.now.line c.formless.result q o n c.formless.ensures.line c.formless.ensures.only number word b
