use Rattle.std.proofs.Common.{◌+◌, ◌∷◌, [], ◌∙◌, length, length-append, ap, sym, arith}
use Rattle.index_links.specs.Lists.{list_at, is_listed}
use Rattle.index_links.proofs.LinkedListsLemmas.{pushed-here, pushed-other, long-pushed, nodes-pushed, grown-at, grown-listed, long-grown, nodes-grown}
use Rattle.subtask_queue.specs.declared.sub.Sub.TheVariants.{Sync}
use Rattle.subtask_queue.specs.Owned.{units_at}
use Rattle.subtask_queue.proofs.Behind.{units-more, listed-inside, below-next}
use Rattle.subtask_queue.proofs.room.grow.Goals as goal

pub loop-init : goal.loop-init
loop-init c =
    let is = c.in_ok-grow.ensures.ok in
    let same = c.reserve.ensures.items in (
      ap (λ s. s.nodes) is ∙ nodes-grown c.args.links.now c.args.more ∙ ap (λ n. n + c.args.more) c.requires.nodes.nodes,
      ap (λ s. length s.lists) is ∙ long-grown c.args.links.now c.args.more ∙ c.requires.nodes.lists,
      c.grow.ensures.apart,
      omega (arith, ap length same),
      omega (arith, c.in_ok-reserve.ensures.ok, c.in_ok-reserve.ensures.capacity, ap length same, c.args.subs.now.ok),
      omega (arith, c.if-not-fits.false, c.len.ensures, c.args.subs.now.ok),
      ap (λ s. list_at s 0) is ∙ grown-at c.args.links.now c.args.more 0,
      omega (arith, ap (λ s. length (list_at s 1)) is, ap length (grown-at c.args.links.now c.args.more 1)),
      ap (λ subs. units_at subs (list_at c.args.links.now 0)) same,
      λ x listed. omega (arith, ap length same, c.requires.nodes.nodes, listed-inside c.args.links.now x c.requires.nodes.apart (sym (ap (λ s. is_listed s x) is ∙ grown-listed c.args.links.now c.args.more x) ∙ listed)),
    )

pub loop-preserved : goal.loop-preserved
loop-preserved c =
    let (nodes, lists, apart, long, room, few, waiting, free, units, below) = c.loop.invariant in
    let is = c.push_back.ensures.value in
    let more = c.push_reserved.ensures.items in (
      ap (λ s. s.nodes) is ∙ nodes-pushed c.loop.links 1 c.len-in-loop.result ∙ nodes,
      ap (λ s. length s.lists) is ∙ long-pushed c.loop.links 1 c.len-in-loop.result ∙ lists,
      c.push_back.ensures.apart,
      omega (arith, ap length more, length-append c.loop.subs.items (Sync 0 ∷ []), long),
      omega (arith, c.push_reserved.ensures.capacity, room),
      few,
      ap (λ s. list_at s 0) is ∙ pushed-other c.loop.links 1 c.len-in-loop.result 0 (λ one. omega arith) ∙ waiting,
      omega (arith, ap (λ s. length (list_at s 1)) is, ap length (pushed-here c.loop.links 1 c.len-in-loop.result (omega (arith, lists))), length-append (list_at c.loop.links 1) (c.len-in-loop.result ∷ []), free),
      ap (λ subs. units_at subs (list_at c.args.links.now 0)) more ∙ units-more c.loop.subs.items (Sync 0) (list_at c.args.links.now 0) (λ x among. omega (arith, long, c.requires.nodes.nodes, c.requires.nodes.apart.within 0 x among)) ∙ units,
      λ x listed. below-next c.loop.links 1 c.len-in-loop.result x (length c.push_reserved.new.self.items) (omega (arith, lists)) (sym (ap (λ s. is_listed s x) is) ∙ listed) (λ y there. omega (arith, below y there, c.len-in-loop.ensures, c.loop.subs.ok)) (omega (arith, ap length more, length-append c.loop.subs.items (Sync 0 ∷ []), c.len-in-loop.ensures, c.loop.subs.ok)),
    )
