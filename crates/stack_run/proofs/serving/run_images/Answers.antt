use Rattle.std.proofs.Common.{ap, sym, subst, ◌∙◌, map, length, List, false}
use Rattle.std.proofs.lemmas.List.{length-map}
use Rattle.stack_run.specs.declared.wanted.Wanted.{Wanted}
use Rattle.stack_run.specs.Chains.{PutsOr, SpentAmong, Chain, AreWanted, HaveOtherNames, AreTaken, AreMade}
use Rattle.stack_run.proofs.ChainLemmas.{chain-length}
use Rattle.stack_run.proofs.StopLemmas.{before-is, before-count, before-apart, taking-taken, taking-ends, taking-others, taking-free, putting-ends, putting-calls, put-calls, all-put, memory-after, are-taken, are-made, others-so, free-so, changes-among}
use Rattle.stack_run.proofs.WantedLemmas.{wanted-apart, wanted-can, all-free}
use Rattle.stack_run.proofs.serving.run_images.Goals as goal

pub take_images-requires-clause-wanted : goal.take_images-requires-clause-wanted
take_images-requires-clause-wanted g c κs within = subst AreWanted (sym c.requires.wanted) (wanted-can c.args.plans.now c.requires.disks)

pub take_images-requires-clause-apart : goal.take_images-requires-clause-apart
take_images-requires-clause-apart g c κs within = subst HaveOtherNames (sym c.requires.wanted) (wanted-apart c.args.plans.now c.requires.together.images)

pub take_images-requires-clause-free : goal.take_images-requires-clause-free
take_images-requires-clause-free g c κs within = all-free c.args.wanted.now (g.I.Images.at c.args.images.now) c.requires.free

pub put_rest-spent-requires-clause-all : goal.put_rest-spent-requires-clause-all
put_rest-spent-requires-clause-all g c κs within =
    let apart = subst HaveOtherNames (sym c.requires.wanted) (wanted-apart c.args.plans.now c.requires.together.images) in
    sym (length-map c.take_images.new.media.items (λ m. g.I.M.Medium.device m))
    ∙ (before-count c.args.plans.now c.args.wanted.now _ _ _ _ _ c.requires.wanted apart c.in-Err-take_images.ensures.stops
    ∙ ap length (sym (before-is c.args.plans.now c.args.wanted.now _ _ _ _ _ c.requires.wanted apart c.in-Err-take_images.ensures.stops)))

pub put_rest-spent-requires-clause-apart : goal.put_rest-spent-requires-clause-apart
put_rest-spent-requires-clause-apart g c κs within =
    let apart = subst HaveOtherNames (sym c.requires.wanted) (wanted-apart c.args.plans.now c.requires.together.images) in
    subst HaveOtherNames (sym (before-is c.args.plans.now c.args.wanted.now _ _ _ _ _ c.requires.wanted apart c.in-Err-take_images.ensures.stops)) (before-apart c.args.plans.now c.args.wanted.now _ _ _ _ _ c.requires.wanted apart c.in-Err-take_images.ensures.stops)

pub put_rest-spent-requires-clause-taken : goal.put_rest-spent-requires-clause-taken
put_rest-spent-requires-clause-taken g c κs within =
    let apart = subst HaveOtherNames (sym c.requires.wanted) (wanted-apart c.args.plans.now c.requires.together.images) in
    subst (λ (l : List Wanted). AreTaken l (g.I.Images.at c.take_images.new.images)) (sym (before-is c.args.plans.now c.args.wanted.now _ _ _ _ _ c.requires.wanted apart c.in-Err-take_images.ensures.stops)) (taking-taken c.args.plans.now c.args.wanted.now _ _ _ _ _ c.requires.wanted apart c.in-Err-take_images.ensures.stops)

pub returns-in-Err-take_images-clause-stops : goal.returns-in-Err-take_images-clause-stops
returns-in-Err-take_images-clause-stops g c =
    let apart = subst HaveOtherNames (sym c.requires.wanted) (wanted-apart c.args.plans.now c.requires.together.images) in
    let cut = before-is c.args.plans.now c.args.wanted.now _ _ _ _ _ c.requires.wanted apart c.in-Err-take_images.ensures.stops in
    let puts = subst (λ (l : List Wanted). Chain (PutsOr c.put_rest-spent.result) l (map (λ m. g.I.M.Medium.device m) c.take_images.new.media.items) (g.I.Images.at c.take_images.new.images) (g.I.Images.at c.put_rest-spent.new.images)) cut c.put_rest-spent.ensures.put in
    rw (c.spent_or.ensures.place, c.spent_or.ensures.fault)
    (taking-ends c.args.plans.now c.args.wanted.now _ _ c.in-Err-take_images.stop.fault _ _ _ c.requires.wanted apart c.in-Err-take_images.ensures.stops c.put_rest-spent.result puts
    (λ is. subst (λ (l : List Wanted). SpentAmong l (g.I.Images.at c.take_images.new.images) (g.I.Images.at c.put_rest-spent.new.images)) cut (c.put_rest-spent.ensures.spent is)))

pub returns-in-Err-take_images-clause-others : goal.returns-in-Err-take_images-clause-others
returns-in-Err-take_images-clause-others g c =
    let apart = subst HaveOtherNames (sym c.requires.wanted) (wanted-apart c.args.plans.now c.requires.together.images) in
    let cut = before-is c.args.plans.now c.args.wanted.now _ _ _ _ _ c.requires.wanted apart c.in-Err-take_images.ensures.stops in
    let puts = subst (λ (l : List Wanted). Chain (PutsOr c.put_rest-spent.result) l (map (λ m. g.I.M.Medium.device m) c.take_images.new.media.items) (g.I.Images.at c.take_images.new.images) (g.I.Images.at c.put_rest-spent.new.images)) cut c.put_rest-spent.ensures.put in
    changes-among c.args.plans.now c.args.wanted.now _ _ c.requires.wanted (taking-others c.args.plans.now c.args.wanted.now _ _ _ _ _ c.requires.wanted apart c.in-Err-take_images.ensures.stops _ c.put_rest-spent.result puts)

pub returns-in-Err-take_images-clause-again : goal.returns-in-Err-take_images-clause-again
returns-in-Err-take_images-clause-again g c =
    let apart = subst HaveOtherNames (sym c.requires.wanted) (wanted-apart c.args.plans.now c.requires.together.images) in
    let cut = before-is c.args.plans.now c.args.wanted.now _ _ _ _ _ c.requires.wanted apart c.in-Err-take_images.ensures.stops in
    let puts = subst (λ (l : List Wanted). Chain (PutsOr c.put_rest-spent.result) l (map (λ m. g.I.M.Medium.device m) c.take_images.new.media.items) (g.I.Images.at c.take_images.new.images) (g.I.Images.at c.put_rest-spent.new.images)) cut c.put_rest-spent.ensures.put in
    taking-free c.args.plans.now c.args.wanted.now _ _ _ _ _ c.requires.wanted apart c.in-Err-take_images.ensures.stops _ c.put_rest-spent.result puts c.requires.free

pub run_disks-media-requires-clause-made : goal.run_disks-media-requires-clause-made
run_disks-media-requires-clause-made g c =
    let apart = subst HaveOtherNames (sym c.requires.wanted) (wanted-apart c.args.plans.now c.requires.together.images) in
    subst (λ (l : List Wanted). AreMade l (map (λ m. g.I.M.Medium.device m) c.take_images.new.media.items)) c.requires.wanted (are-made c.args.wanted.now _ _ _ apart c.in-Ok-take_images.ensures.taken)

pub put_images-requires-clause-all : goal.put_images-requires-clause-all
put_images-requires-clause-all g c κs within =
    c.run_disks-media.ensures.back ∙ (sym (length-map c.take_images.new.media.items (λ m. g.I.M.Medium.device m)) ∙ chain-length _ c.args.wanted.now _ _ _ c.in-Ok-take_images.ensures.taken)

pub put_images-requires-clause-apart : goal.put_images-requires-clause-apart
put_images-requires-clause-apart g c κs within = subst HaveOtherNames (sym c.requires.wanted) (wanted-apart c.args.plans.now c.requires.together.images)

pub put_images-requires-clause-taken : goal.put_images-requires-clause-taken
put_images-requires-clause-taken g c κs within =
    are-taken c.args.wanted.now _ _ _ (subst HaveOtherNames (sym c.requires.wanted) (wanted-apart c.args.plans.now c.requires.together.images)) c.in-Ok-take_images.ensures.taken

pub put_rest-requires-clause-all : goal.put_rest-requires-clause-all
put_rest-requires-clause-all g c κs within =
    c.run_disks-media.ensures.back ∙ (sym (length-map c.take_images.new.media.items (λ m. g.I.M.Medium.device m)) ∙ chain-length _ c.args.wanted.now _ _ _ c.in-Ok-take_images.ensures.taken)

pub put_rest-requires-clause-apart : goal.put_rest-requires-clause-apart
put_rest-requires-clause-apart g c κs within = subst HaveOtherNames (sym c.requires.wanted) (wanted-apart c.args.plans.now c.requires.together.images)

pub put_rest-requires-clause-taken : goal.put_rest-requires-clause-taken
put_rest-requires-clause-taken g c κs within =
    are-taken c.args.wanted.now _ _ _ (subst HaveOtherNames (sym c.requires.wanted) (wanted-apart c.args.plans.now c.requires.together.images)) c.in-Ok-take_images.ensures.taken

pub returns-in-Ok-put_images-clause-ran : goal.returns-in-Ok-put_images-clause-ran
returns-in-Ok-put_images-clause-ran g c =
    let apart = subst HaveOtherNames (sym c.requires.wanted) (wanted-apart c.args.plans.now c.requires.together.images) in
    all-put c.args.plans.now c.args.wanted.now _ _ c.in-Some.runs.items _ _ _ c.requires.wanted apart c.in-Ok-take_images.ensures.taken (rw c.in-Some.is at c.run_disks-media.ensures.over) c.in-Ok-put_images.ensures.put

pub returns-in-Ok-put_images-clause-others : goal.returns-in-Ok-put_images-clause-others
returns-in-Ok-put_images-clause-others g c =
    let apart = subst HaveOtherNames (sym c.requires.wanted) (wanted-apart c.args.plans.now c.requires.together.images) in
    changes-among c.args.plans.now c.args.wanted.now _ _ c.requires.wanted (others-so false c.args.wanted.now _ _ _ _ _ apart c.in-Ok-take_images.ensures.taken (put-calls c.args.wanted.now _ _ _ c.in-Ok-put_images.ensures.put))

pub returns-in-Ok-put_images-clause-again : goal.returns-in-Ok-put_images-clause-again
returns-in-Ok-put_images-clause-again g c =
    let apart = subst HaveOtherNames (sym c.requires.wanted) (wanted-apart c.args.plans.now c.requires.together.images) in
    free-so false c.args.wanted.now _ _ _ _ _ apart c.in-Ok-take_images.ensures.taken (put-calls c.args.wanted.now _ _ _ c.in-Ok-put_images.ensures.put) c.requires.free

pub returns-in-Err-put_images-clause-stops : goal.returns-in-Err-put_images-clause-stops
returns-in-Err-put_images-clause-stops g c =
    let apart = subst HaveOtherNames (sym c.requires.wanted) (wanted-apart c.args.plans.now c.requires.together.images) in
    putting-ends c.args.plans.now c.args.wanted.now _ _ c.in-Err-put_images.stop.place c.in-Err-put_images.stop.fault _ (g.I.Images.at c.take_images.new.images) _ c.in-Some.runs.items c.requires.wanted apart c.in-Ok-take_images.ensures.taken
    (rw c.in-Some.is at c.run_disks-media.ensures.over) c.in-Err-put_images.ensures.stops

pub returns-in-Err-put_images-clause-others : goal.returns-in-Err-put_images-clause-others
returns-in-Err-put_images-clause-others g c =
    let apart = subst HaveOtherNames (sym c.requires.wanted) (wanted-apart c.args.plans.now c.requires.together.images) in
    let (s, puts) = putting-calls c.args.plans.now c.args.wanted.now _ _ c.in-Err-put_images.stop.place c.in-Err-put_images.stop.fault _ (g.I.Images.at c.take_images.new.images) _ c.requires.wanted apart c.in-Ok-take_images.ensures.taken c.in-Err-put_images.ensures.stops in
    changes-among c.args.plans.now c.args.wanted.now _ _ c.requires.wanted (others-so s c.args.wanted.now _ _ _ _ _ apart c.in-Ok-take_images.ensures.taken puts)

pub returns-in-Err-put_images-clause-again : goal.returns-in-Err-put_images-clause-again
returns-in-Err-put_images-clause-again g c =
    let apart = subst HaveOtherNames (sym c.requires.wanted) (wanted-apart c.args.plans.now c.requires.together.images) in
    let (s, puts) = putting-calls c.args.plans.now c.args.wanted.now _ _ c.in-Err-put_images.stop.place c.in-Err-put_images.stop.fault _ (g.I.Images.at c.take_images.new.images) _ c.requires.wanted apart c.in-Ok-take_images.ensures.taken c.in-Err-put_images.ensures.stops in
    free-so s c.args.wanted.now _ _ _ _ _ apart c.in-Ok-take_images.ensures.taken puts c.requires.free

pub returns-in-None-clause-stops : goal.returns-in-None-clause-stops
returns-in-None-clause-stops g c =
    let apart = subst HaveOtherNames (sym c.requires.wanted) (wanted-apart c.args.plans.now c.requires.together.images) in
    memory-after c.args.plans.now c.args.wanted.now _ _ 0 _ (g.I.Images.at c.take_images.new.images) _ c.requires.wanted apart c.in-Ok-take_images.ensures.taken c.put_rest.result (c.run_disks-media.ensures.some c.in-None.is) c.put_rest.ensures.put

pub returns-in-None-clause-others : goal.returns-in-None-clause-others
returns-in-None-clause-others g c =
    let apart = subst HaveOtherNames (sym c.requires.wanted) (wanted-apart c.args.plans.now c.requires.together.images) in
    changes-among c.args.plans.now c.args.wanted.now _ _ c.requires.wanted (others-so c.put_rest.result c.args.wanted.now _ _ _ _ _ apart c.in-Ok-take_images.ensures.taken c.put_rest.ensures.put)

pub returns-in-None-clause-again : goal.returns-in-None-clause-again
returns-in-None-clause-again g c =
    let apart = subst HaveOtherNames (sym c.requires.wanted) (wanted-apart c.args.plans.now c.requires.together.images) in
    free-so c.put_rest.result c.args.wanted.now _ _ _ _ _ apart c.in-Ok-take_images.ensures.taken c.put_rest.ensures.put c.requires.free
