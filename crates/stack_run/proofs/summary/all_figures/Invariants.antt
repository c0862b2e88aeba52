use Rattle.std.proofs.Common.{◌≡◌, reverse, take}
use Rattle.stack_run.specs.Figures.{figures_of, AreWithin}
use Rattle.stack_run.proofs.summary.all_figures.Given as goal

abbrev pub invariant-loop-entry : goal.invariant-loop-entry
invariant-loop-entry l =
    (l.entry-items ≡ reverse l.history.entries)
    × (l.figures ≡ figures_of l.ends (reverse (take l.entry-index l.entry-items)))
    × AreWithin l.entry-index l.figures
