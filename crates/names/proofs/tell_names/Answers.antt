use Rattle.std.proofs.Common.{sym, refl, subst}
use Rattle.layout.specs.Readers.{file_of}
use Rattle.names.specs.Walk.{Nested}
use Rattle.names.proofs.Files.{nested_file, decoded_file}
use Rattle.names.proofs.tell_names.Goals as goal

pub invariant_of-find_contexts : goal.invariant_of-find_contexts
invariant_of-find_contexts c =
    let file = file_of c.args.reader in
    record { nested = subst Nested (sym (decoded_file file _ c.node_count-count.result _ refl c.node_count-count.ensures c.decode_nodes-nodes.ensures.nodes)) (nested_file file c.requires.faultless) }
