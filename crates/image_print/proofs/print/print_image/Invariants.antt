use Rattle.image_print.proofs.Lines.{PrintedTo}
use Rattle.image_print.proofs.print.print_image.Given as goal

abbrev pub invariant-loop-place : goal.invariant-loop-place
invariant-loop-place l = PrintedTo l.out.items l.labels l.declared l.place l.i.instrs
