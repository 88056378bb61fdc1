use Rattle.std.proofs.Common.{◌≡◌, ◌++◌, drop, map}
use Rattle.leak_classes.specs.Views.{class_of}
use Rattle.space_leak.specs.Text.{class_lines}
use Rattle.space_leak.proofs.lines.put_classes.Given as goal

-- the lines so far, with those that are left
abbrev pub invariant-loop-i : goal.invariant-loop-i
invariant-loop-i l =
    l.text.items ++ class_lines l.p.declarations (drop l.i (map class_of l.known.classes.entries)) (drop l.i l.known.firsts.items)
    ≡ l.initial.text.items ++ class_lines l.p.declarations (map class_of l.known.classes.entries) l.known.firsts.items
