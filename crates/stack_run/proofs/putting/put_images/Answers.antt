use Rattle.std.proofs.Common.{◌∙◌, ap, sym, subst, length, map, List}
use Rattle.std.proofs.lemmas.List.{length-map}
use Rattle.stack_run.specs.declared.wanted.Wanted.{Wanted}
use Rattle.stack_run.specs.Chains.{PutsOr, SpentAmong, Chain, HaveOtherNames, AreTaken}
use Rattle.stack_run.proofs.LoopLemmas.{slice-after, after-count, after-apart, after-taken, ends-spent, ends-so}
use Rattle.stack_run.proofs.putting.put_images.Goals as goal

pub put_rest-requires-clause-all : goal.put_rest-requires-clause-all
put_rest-requires-clause-all g c κs within =
    sym (length-map c.put_some.new.media.items (λ m. g.I.M.Medium.device m))
    ∙ (after-count _ _ _ _ _ _ _ c.in-Err.ensures.stops (length-map c.args.media.items (λ m. g.I.M.Medium.device m) ∙ c.requires.all)
    ∙ ap length (sym (slice-after _ _ _ _ _ _ _ c.in-Err.ensures.stops)))

pub put_rest-requires-clause-apart : goal.put_rest-requires-clause-apart
put_rest-requires-clause-apart g c κs within =
    subst HaveOtherNames (sym (slice-after _ _ _ _ _ _ _ c.in-Err.ensures.stops)) (after-apart _ _ _ _ _ _ _ c.in-Err.ensures.stops c.requires.apart)

pub put_rest-requires-clause-taken : goal.put_rest-requires-clause-taken
put_rest-requires-clause-taken g c κs within =
    subst (λ (l : List Wanted). AreTaken l (g.I.Images.at c.put_some.new.images)) (sym (slice-after _ _ _ _ _ _ _ c.in-Err.ensures.stops)) (after-taken _ _ _ _ _ _ _ c.in-Err.ensures.stops c.requires.apart c.requires.taken)

pub returns-then-put_rest-clause-stops : goal.returns-then-put_rest-clause-stops
returns-then-put_rest-clause-stops g c =
    let cut = slice-after _ _ _ _ _ _ _ c.in-Err.ensures.stops in
    ends-spent _ _ _ _ _ _ _ c.in-Err.ensures.stops c.put_rest.result (g.I.Images.at c.put_rest.new.images) c.requires.apart
    (subst (λ (l : List Wanted). Chain (PutsOr c.put_rest.result) l (map (λ m. g.I.M.Medium.device m) c.put_some.new.media.items) (g.I.Images.at c.put_some.new.images) (g.I.Images.at c.put_rest.new.images)) cut c.put_rest.ensures.put)
    (subst (λ (l : List Wanted). SpentAmong l (g.I.Images.at c.put_some.new.images) (g.I.Images.at c.put_rest.new.images)) cut (c.put_rest.ensures.spent c.if-put_rest.true))

pub returns-else-put_rest-clause-stops : goal.returns-else-put_rest-clause-stops
returns-else-put_rest-clause-stops g c =
    ends-so _ _ _ _ c.in-Err.stop.fault _ _ (g.I.Images.at c.put_rest.new.images) c.put_rest.result c.in-Err.ensures.stops c.requires.apart c.if-put_rest.false
    (subst (λ (l : List Wanted). Chain (PutsOr c.put_rest.result) l (map (λ m. g.I.M.Medium.device m) c.put_some.new.media.items) (g.I.Images.at c.put_some.new.images) (g.I.Images.at c.put_rest.new.images)) (slice-after _ _ _ _ _ _ _ c.in-Err.ensures.stops) c.put_rest.ensures.put)
