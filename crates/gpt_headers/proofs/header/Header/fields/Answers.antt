use Rattle.std.proofs.Common.{arith}
use Rattle.std.proofs.lemmas.Bool.Decides.{nat_tests}
use Rattle.gpt_headers.specs.Header.{has_entry_size, has_small_array}
use Rattle.gpt_headers.proofs.header.Header.fields.Goals as goal

pub invariant_of-result : goal.invariant_of-result
unfolding has_entry_size has_small_array
invariant_of-result c = (grind (arith, nat_tests, c.requires.entry, c.read_u32-2.ensures), grind (arith, nat_tests, c.requires.array, c.read_u32.ensures, c.read_u32-2.ensures))
