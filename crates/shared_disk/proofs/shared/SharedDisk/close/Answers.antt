use Rattle.std.proofs.Common.{◌≡◌, rules, sum_by, ap, ◌∙◌}
use Rattle.shared_disk.specs.Seats.{SeatState}
use Rattle.shared_disk.proofs.SeatLemmas.{lent-same}
use Rattle.shared_disk.proofs.shared.SharedDisk.close.Goals as goal

pub returns-clause-says : goal.returns-clause-says
returns-clause-says g c =
    let lent : c.deref_mut.result.now ≡ c.args.seats.items = search rules in
    record {
      sum_is = c.sum-sum.ensures.sum ∙ ap (sum_by (λ (s : SeatState). s.count)) lent;
      apart = search rules;
      same = lent-same c.args.seats.items c.sum-sum.new.seats c.args.seats.len (c.sum-sum.ensures.seats ∙ lent) c.args.seats.ok.0;
    }
