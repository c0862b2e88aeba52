use Rattle.std.proofs.Common.{Some, ap, sym, refl, ◌∙◌}
use Rattle.std.specs.Option.{option_map}
use Rattle.token_table.specs.declared.record.Record.{Record}
use Rattle.token_table.specs.Records.{fill_record, request_at, IsShown}
use Rattle.token_table.proofs.Index.{outstanding-key, record-is, rewritten-is}
use Rattle.token_table.proofs.tokens.Tokens.buffer_mut.Goals as goal

pub index-key-requires : goal.index-key-requires
index-key-requires c = outstanding-key c.self.inside.index c.self.inside.records c.self.inside.given c.args.number c.args.self.now c.self.view_is c.self.invariant c.requires

pub invariant_of-self-lent : goal.invariant_of-self-lent
unfolding fill_record IsShown
invariant_of-self-lent c = λ w. (rewritten-is (λ r. fill_record r w) (λ r shown. shown) c.self.inside.index c.self.inside.records c.self.inside.given c.args.number c.index-key.result.now c.index_mut.result.now c.args.self.now c.self.view_is c.self.invariant c.index-key.ensures c.index_mut.ensures.value).1

pub returns : goal.returns
unfolding fill_record IsShown request_at
returns c = (
  (refl, λ w. (rewritten-is (λ r. fill_record r w) (λ r shown. shown) c.self.inside.index c.self.inside.records c.self.inside.given c.args.number c.index-key.result.now c.index_mut.result.now c.args.self.now c.self.view_is c.self.invariant c.index-key.ensures c.index_mut.ensures.value).0),
  record {
    lends = tt;
    value = ap Some c.as_mut_slice.ensures.value
        ∙ sym (ap (λ o. option_map (λ q. q.buffer) (option_map (λ (r : Record). r.request) o)) (record-is c.self.inside.index c.self.inside.records c.self.inside.given c.args.number c.index-key.result.now c.index_mut.result.now c.args.self.now c.self.view_is c.self.invariant c.index-key.ensures c.index_mut.ensures.value));
  },
)
