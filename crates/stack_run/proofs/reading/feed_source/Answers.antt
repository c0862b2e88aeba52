use Rattle.std.proofs.Common.{rules, refl, sym, arith, [], ◌++◌, ◌∙◌, take, length-append, length-take}
use Rattle.std.proofs.lemmas.Grind.{common_steps}
use Rattle.stack_run.proofs.Read.{so-far-none, so-far-more, so-far-ended, so-far-long}
use Rattle.stack_run.proofs.reading.feed_source.Goals as goal

pub pieces-init : goal.pieces-init
pieces-init g c = record { bytes = []; so_far = so-far-none (g.R.Source.left c.args.source.now); fed = c.make-reader.ensures; counted = refl; few = omega arith; quiet = refl }

pub returns-then-more-eq0-clause-fed : goal.returns-then-more-eq0-clause-fed
returns-then-more-eq0-clause-fed g c = record {
  bytes = c.pieces.invariant.bytes;
  reads = so-far-ended (g.R.Source.left c.args.source.now) (g.R.Source.left c.pieces.source) (g.R.Source.left c.next_bytes.new.source) c.pieces.invariant.bytes c.next_bytes.new.piece c.pieces.invariant.so_far (rw c.if-more-eq0.true at c.in-Ok.ensures.taken.1) (search (rules, common_steps)) (omega (arith, c.pieces.invariant.few, c.pieces.invariant.counted));
  fed = c.pieces.invariant.fed;
}

pub pieces-preserved : goal.pieces-preserved
pieces-preserved g c = record {
  bytes = c.pieces.invariant.bytes ++ take c.in-Ok.more c.next_bytes.new.piece;
  so_far = so-far-more (g.R.Source.left c.args.source.now) (g.R.Source.left c.pieces.source) (g.R.Source.left c.next_bytes.new.source) c.pieces.invariant.bytes c.next_bytes.new.piece c.in-Ok.more c.pieces.invariant.so_far c.in-Ok.ensures.taken.1;
  fed = c.in-Ok-feed.ensures.fed c.pieces.invariant.bytes c.pieces.invariant.fed;
  counted = omega (arith, c.pieces.invariant.counted, c.in-Ok.ensures.taken.0, length-append c.pieces.invariant.bytes (take c.in-Ok.more c.next_bytes.new.piece), length-take c.in-Ok.more c.next_bytes.new.piece);
  few = omega (arith, c.pieces-test.true, c.pieces.invariant.few, c.in-Ok.ensures.few);
  quiet = c.in-Ok.ensures.cause.quiet ∙ c.pieces.invariant.quiet;
}

pub returns-clause-fed : goal.returns-clause-fed
returns-clause-fed g c = record {
  bytes = c.pieces.invariant.bytes;
  reads = so-far-long (g.R.Source.left c.args.source.now) (g.R.Source.left c.pieces.source) c.pieces.invariant.bytes c.pieces.invariant.so_far (omega (arith, c.pieces-test.false, c.pieces.invariant.few, c.pieces.invariant.counted));
  fed = c.pieces.invariant.fed;
}
