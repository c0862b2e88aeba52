use Rattle.std.proofs.Common.{◌≡◌, [], ◌∷◌, ◌++◌, ◌∙◌, ap, sym, subst, refl, map, length, arith, take}
use Rattle.std.proofs.lemmas.List.{map-append, take_all}
use Rattle.stack_run.specs.Chains.{TakesImage}
use Rattle.stack_run.proofs.ChainLemmas.{chain-none}
use Rattle.stack_run.proofs.LoopLemmas.{free-next, free-rest, wanted-next, chain-next, all-have, taking-stops, fails-so}
use Rattle.stack_run.proofs.taking.take_images.Goals as goal

pub loop-place-init : goal.loop-place-init
loop-place-init g c =
    let none : c.args.media.now.items ≡ [] = c.requires.empty in
    record {
      taken = rw none (chain-none TakesImage (g.I.Images.at c.args.images.now));
      free = c.requires.free;
      room = c.requires.room;
      count = omega (arith, ap length none);
    }

pub take_image-requires-clause-want : goal.take_image-requires-clause-want
take_image-requires-clause-want g c κs within = wanted-next c.args.wanted.now c.loop-place.place _ c.loop-place-test.true c.index-wanted-place.is c.requires.wanted

pub take_image-requires-clause-free : goal.take_image-requires-clause-free
take_image-requires-clause-free g c κs within = free-next c.args.wanted.now c.loop-place.place _ _ c.loop-place-test.true c.index-wanted-place.is c.loop-place.invariant.free

pub push_reserved-requires : goal.push_reserved-requires
push_reserved-requires g c = omega (arith, c.loop-place.invariant.room, c.loop-place.invariant.count, c.loop-place-test.true)

pub returns-in-Err-clause-stops : goal.returns-in-Err-clause-stops
returns-in-Err-clause-stops g c =
    taking-stops c.args.wanted.now _ c.loop-place.place c.index-wanted-place.result c.in-Err.fault _ _ _ c.loop-place-test.true c.index-wanted-place.is
    c.loop-place.invariant.taken c.take_image.ensures.others
    (fails-so _ _ _ _ (λ is. c.in-Err.ensures.image (ap (λ f. Rattle.std.proofs.Common.Err f) is)) (λ is. c.in-Err.ensures.memory (ap (λ f. Rattle.std.proofs.Common.Err f) is))) c.in-Err.ensures.free

pub loop-place-preserved : goal.loop-place-preserved
loop-place-preserved g c =
    let more = ap (map (λ m. g.I.M.Medium.device m)) c.push_reserved.ensures.items ∙ map-append (λ m. g.I.M.Medium.device m) c.loop-place.media.items (c.in-Ok.medium ∷ []) in
    record {
      taken = chain-next TakesImage c.args.wanted.now c.loop-place.place c.index-wanted-place.result _ _ _ _ _ _ c.loop-place-test.true c.index-wanted-place.is c.loop-place.invariant.taken c.take_image.ensures.others c.in-Ok.ensures.takes more;
      free = free-rest c.args.wanted.now c.loop-place.place c.index-wanted-place.result _ _ c.requires.apart c.loop-place-test.true c.index-wanted-place.is c.take_image.ensures.others c.loop-place.invariant.free;
      room = omega (arith, c.loop-place.invariant.room, c.push_reserved.ensures.capacity);
      count = omega (arith, c.loop-place.invariant.count, c.push_reserved.ensures.len);
    }

pub returns-clause-taken : goal.returns-clause-taken
returns-clause-taken g c = rw (take_all c.loop-place.place c.args.wanted.now (omega (arith, c.loop-place-test.false))) at c.loop-place.invariant.taken

pub returns-clause-lacks : goal.returns-clause-lacks
returns-clause-lacks g c lacks = absurd (all-have c.args.wanted.now _ _ _ c.requires.apart (returns-clause-taken g c) lacks)
