-- The nodes of a file without a fault nest, and are those that were decoded.
use Rattle.std.proofs.Common.{◌≡◌, ℕ, List, length, take, None, sym, ap, ◌∙◌}
use Rattle.layout.specs.Head.{node_body}
use Rattle.nodes.specs.Nodes.{count}
use Rattle.nodes.specs.declared.node.Node.{Node}
use Rattle.rule_file.specs.Verdict.{first_fault}
use Rattle.rule_laws.proofs.Tabling.{tables_shaped, table_long}
use Rattle.node_rules.specs.Tables.{nodes_of}
use Rattle.names.specs.Walk.{Nested}

pub nested_file : (file : List ℕ) → first_fault file ≡ None → Nested (nodes_of file)
nested_file file h =
    let s = tables_shaped file h in
    record { some = s.few.0; few = s.few.1; program = s.program; spans = s.spans }

module _ (file over : List ℕ) (n : ℕ) (nodes : List Node) (o : over ≡ file) (c : n ≡ count (node_body over)) (d : take (count (node_body over)) nodes ≡ nodes_of over) where
  pub decoded_file : take n nodes ≡ nodes_of file
  decoded_file = ap (λ k. take k nodes) c ∙ d ∙ ap nodes_of o

  pub counted_file : first_fault file ≡ None → n ≡ length (nodes_of file)
  counted_file h = c ∙ ap (λ f. count (node_body f)) o ∙ sym (table_long file h)
