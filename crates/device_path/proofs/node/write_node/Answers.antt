use Rattle.device_path.specs.Node.{node_bytes, IsNodeOf}
use Rattle.device_path.proofs.Nodes.{put}
use Rattle.device_path.proofs.node.write_node.Goals as goal

pub returns : goal.returns
unfolding IsNodeOf node_bytes
returns c = rw (
  c.patch_into-6.ensures,
  c.patch_into-5.ensures,
  c.patch_into-4.ensures,
  c.patch_into-3.ensures,
  c.patch_into-2.ensures,
  c.patch_into.ensures,
  c.format_code.ensures,
  c.sign_code.ensures,
  c.sign_bytes.ensures,
  c.to_le_bytes-3.ensures,
  c.to_le_bytes-2.ensures,
  c.to_le_bytes.ensures,
) (put c.args.node.now)
