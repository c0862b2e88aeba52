use Rattle.std.proofs.Common.{◌≡◌, ◌∷◌, [], ◌++◌, ◌∙◌, ap, decimal}
use Rattle.std.specs.Prelude.{string_bytes}
use Rattle.hex.specs.Hex.{encode_lower}
use Rattle.device_path.specs.Node.{IsNodeOf, node_bytes}
use Rattle.device_path.specs.Text.{IsTextOf, text_of}
use Rattle.partition_children.specs.Children.{child_node}
use Rattle.stack_run.specs.Listing.{path_text}
use Rattle.stack_run.proofs.Listed.{joined}
use Rattle.stack_run.proofs.listing.path_line.Goals as goal

pub returns : goal.returns
unfolding path_text IsNodeOf IsTextOf
returns c =
    let node = child_node c.args.child.now in
    let digits : string_bytes c.in_ok-digits.digits ≡ encode_lower (node_bytes node) =
    c.in_ok-digits.ensures ∙ ap encode_lower (c.as_slice.ensures ∙ (c.write_node.ensures ∙ ap node_bytes c.node_of-node.ensures)) in
    let added = c.in_ok-extend_from_slice.ensures.items ∙ ap (λ l. c.into_bytes-line.result.items ++ l) (c.as_slice-3.ensures ∙ (c.in_ok-write_text.ensures ∙ ap text_of c.node_of-node.ensures)) in
    joined (decimal c.args.child.now.number) (encode_lower (node_bytes node)) (text_of node) c.into_bytes-line.result.items c.push.new.self.items
    (ap (λ v. v.items) c.into_bytes-line.ensures.value ∙ (rw digits at c.in_ok-format.ensures.ok)) (c.in_ok-push.ensures.items ∙ ap (λ l. l ++ 10 ∷ []) added)
