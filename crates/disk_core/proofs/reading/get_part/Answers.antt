use Rattle.std.proofs.Common.{subst, sym, ap, ◌∙◌, ◌+◌, ◌≤◌, IfSome, length, false}
use Rattle.token_table.specs.Records.{request_at, mark_at}
use Rattle.disk_core.specs.Moves.{IsTarget, GetsInto}
use Rattle.disk_core.proofs.Getting.{own, get-present, get-may, get-has, get-request, goes-to, get-enter, get-settled}
use Rattle.disk_core.proofs.Spans.{part-span, part-transfer, part-sized, part-begins, part-ends, part-bounded}
use Rattle.disk_core.proofs.reading.get_part.Goals as goal

pub target_of-target-requires : goal.target_of-target-requires
target_of-target-requires g c =
    let s = part-span _ g.M.Medium.prepared _ _ c.requires.sound _ _ c.requires.next.1 _ c.args.block _ _ false c.requires.part.3 in
    ((own _ g.M.Medium.prepared _ _ c.requires.sound _ _ c.requires.next.1 _ s.2 s.3).request, ap (request_at c.args.core.now.tokens) c.token-token.ensures ∙ get-request _ g.M.Medium.prepared _ _ c.requires.sound _ _ c.requires.next.1 _ s.2 s.3, get-has _ g.M.Medium.prepared _ _ c.requires.sound _ _ c.requires.next.1 _ s.2 s.3 g.met.M.Medium.shaped)

pub read_part-answer-requires : goal.read_part-answer-requires
read_part-answer-requires g c =
    let s = part-span _ g.M.Medium.prepared _ _ c.requires.sound _ _ c.requires.next.1 _ c.args.block _ _ false c.requires.part.3 in
    let core = c.args.core.now in
    let target = c.target_of-target.result in
    let is = subst (λ k. IfSome (request_at core.tokens k) (λ q. IsTarget q c.args.block c.args.core.now.blocks.per core.blocks.size target)) c.token-token.ensures c.target_of-target.ensures in
    let goes = goes-to _ g.M.Medium.prepared _ _ c.requires.sound _ _ c.requires.next.1 _ s.2 s.3 target is in
    record {
      present = get-present _ g.M.Medium.prepared _ _ c.requires.sound _ _ c.requires.next.1 _ s.2 s.3;
      transfer = part-transfer _ g.M.Medium.prepared _ _ c.requires.sound _ _ c.requires.next.1 0 c.args.block _ _ s.2 s.3;
      sized = part-sized _ g.M.Medium.prepared _ _ c.requires.sound _ _ c.requires.next.1 0 c.args.block _ _ s.2 s.3;
      begins = part-begins _ g.M.Medium.prepared _ _ c.requires.sound _ _ c.requires.next.1 0 c.args.block _ _ s.2 s.3 target goes;
      ends = part-ends _ g.M.Medium.prepared _ _ c.requires.sound _ _ c.requires.next.1 0 c.args.block _ _ s.2 s.3 target goes;
      bounded = part-bounded _ g.M.Medium.prepared _ _ c.requires.sound _ _ c.requires.next.1 0 c.args.block _ _ s.2 s.3 g.met.M.Medium.shaped;
      outstanding = ap (mark_at core.tokens) c.token-token.ensures ∙ (get-may _ g.M.Medium.prepared _ _ c.requires.sound _ _ c.requires.next.1 _ s.2 s.3).0;
      fits = subst (λ k. IfSome (request_at core.tokens k) (λ q. target.place + target.count ≤ length q.buffer)) (sym c.token-token.ensures) goes.fits;
    }

pub settle-requires : goal.settle-requires
settle-requires g c =
    let s = part-span _ g.M.Medium.prepared _ _ c.requires.sound _ _ c.requires.next.1 _ c.args.block _ _ false c.requires.part.3 in
    let core = c.args.core.now in
    let target = c.target_of-target.result in
    let is = subst (λ k. IfSome (request_at core.tokens k) (λ q. IsTarget q c.args.block c.args.core.now.blocks.per core.blocks.size target)) c.token-token.ensures c.target_of-target.ensures in
    let goes = goes-to _ g.M.Medium.prepared _ _ c.requires.sound _ _ c.requires.next.1 _ s.2 s.3 target is in
    let new = c.read_part-answer.new in
    let gets = subst (λ k. GetsInto g.M.Medium.device g.M.Medium.prepared c.args.drive.now new.drive core new.core k target.range.low target.place target.count c.read_part-answer.result) c.token-token.ensures c.read_part-answer.ensures in
    get-enter _ g.M.Medium.prepared _ _ c.requires.sound _ _ c.requires.next.1 _ s.2 s.3 g.met.M.Medium.shaped new.drive new.core new.core target goes c.read_part-answer.result gets

pub returns : goal.returns
returns g c =
    let s = part-span _ g.M.Medium.prepared _ _ c.requires.sound _ _ c.requires.next.1 _ c.args.block _ _ false c.requires.part.3 in
    let core = c.args.core.now in
    let target = c.target_of-target.result in
    let is = subst (λ k. IfSome (request_at core.tokens k) (λ q. IsTarget q c.args.block c.args.core.now.blocks.per core.blocks.size target)) c.token-token.ensures c.target_of-target.ensures in
    let goes = goes-to _ g.M.Medium.prepared _ _ c.requires.sound _ _ c.requires.next.1 _ s.2 s.3 target is in
    let new = c.read_part-answer.new in
    let gets = subst (λ k. GetsInto g.M.Medium.device g.M.Medium.prepared c.args.drive.now new.drive core new.core k target.range.low target.place target.count c.read_part-answer.result) c.token-token.ensures c.read_part-answer.ensures in
    get-settled _ g.M.Medium.prepared _ _ c.requires.sound _ _ c.requires.next.1 _ s.2 s.3 g.met.M.Medium.shaped new.drive new.core c.settle.new.core target goes c.read_part-answer.result gets c.settle.ensures
