use Rattle.std.proofs.Common.{◌≡◌, ap, ◌∙◌, Ok, Some, None, arith}
use Rattle.device_path.specs.Node.{node_bytes, IsNodeOf, node_fault, drive_fields}
use Rattle.device_path.proofs.Nodes.{fault_of-node, fields_of-node, IsNodeOf-fields_of}
use Rattle.device_path.proofs.node.read_node.Goals as goal

pub returns-in-Some-clause-each : goal.returns-in-Some-clause-each
unfolding IsNodeOf node_bytes
returns-in-Some-clause-each c = λ node can is.
    let faulty : Some c.in-Some.fault ≡ None = c.in-Some.ensures.exact ∙ ap node_fault is ∙ fault_of-node node in absurd (cc)

pub returns-in-None-clause-node : goal.returns-in-None-clause-node
returns-in-None-clause-node c = rw c.fields.ensures (IsNodeOf-fields_of c.args.b.now (λ i. omega (arith, c.type_inv.b i)) c.in-None.ensures.length c.in-None.ensures.passes)

pub returns-in-None-clause-each : goal.returns-in-None-clause-each
unfolding IsNodeOf node_bytes
returns-in-None-clause-each c = λ node can is. ap Ok (c.fields.ensures ∙ ap drive_fields is ∙ fields_of-node node can)
