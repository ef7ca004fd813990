-- What the program keeps, over plain trees.
use Rattle.std.specs.Prelude.{ℕ, List, map}
use Rattle.tree.specs.View.{declaration_of, expression_of, reference_of}
use Rattle.meaning.specs.Names.{is_among}
use Rattle.reductions.specs.Finding as plain
use Rattle.reductions.specs.declared.finding.Context.{Context}
use Rattle.reductions.specs.declared.loops.FoundLoop.{FoundLoop}
use Rattle.reductions.specs.declared.loops.Marked.{Marked}
use Rattle.reductions.specs.declared.gathering.Operand.{Operand}

abbrev pub operand_of : Operand → plain.Operand
operand_of o = record { how = o.how; value = expression_of o.value.now }

abbrev pub marked_of : Marked → plain.Marked
marked_of a = record { line = a.line; mark = a.mark; left = reference_of a.left.now; right = expression_of a.right.now }

abbrev pub found_of : FoundLoop → plain.FoundLoop
found_of f = record {
  loop_line = f.loop_line;
  line = f.line;
  mark = f.mark;
  loop = record {
    variable = f.variable;
    trip = expression_of f.trip.now;
    left = reference_of f.left.now;
    operand = expression_of f.operand.now;
    how = f.how;
  };
}

abbrev pub context_in : Context → plain.Context
context_in w = record {
  declarations = map declaration_of w.decls.now;
  title = w.title;
  reads = is_among w.reads.keys;
}
