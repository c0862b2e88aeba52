use Rattle.std.proofs.Common.{◌++◌, subst}
use Rattle.image_store.specs.declared.sink.PutFault.TheVariants as put
use Rattle.image_store.specs.Edge.{HasCauseOf}
use Rattle.stack_run.proofs.Reported.{put-behind, head-front}
use Rattle.stack_run.proofs.refusing.put_three.Goals as goal

pub returns-in-Ok : goal.returns-in-Ok
returns-in-Ok g c = record {
  text = put-behind (g.O.Sink.outlet c.args.out.now).wrote (g.O.Sink.outlet c.put.new.self).wrote (g.O.Sink.outlet c.put_both.new.out).wrote c.args.first.now (c.args.second.now ++ c.args.third.now) c.put_both.result
      c.in-Ok.ensures.text c.put_both.ensures.text;
  cause = subst (λ n. HasCauseOf put.Failed n (g.O.Sink.outlet c.put_both.new.out).faults c.put_both.result) c.in-Ok.ensures.cause.quiet c.put_both.ensures.cause;
  spent = subst (λ n. HasCauseOf put.Memory n (g.O.Sink.outlet c.put_both.new.out).spent c.put_both.result) c.in-Ok.ensures.spent.quiet c.put_both.ensures.spent;
}

pub returns-in-Err : goal.returns-in-Err
returns-in-Err g c = record {
  text = head-front _ _ c.args.first.now (c.args.second.now ++ c.args.third.now) c.in-Err.ensures.text;
  cause = c.in-Err.ensures.cause;
  spent = c.in-Err.ensures.spent;
}
