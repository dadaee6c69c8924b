use Rattle.std.proofs.Common.{ℕ, cond, ltb, unwrap_or, ap, ◌∙◌, arith, rules, lt-ltb}
use Rattle.layout.specs.Head.{node_body}
use Rattle.layout.specs.Readers.{file_of}
use Rattle.nodes.specs.Nodes.{count, node_at}
use Rattle.node_rules.specs.Tables.{blank, nodes_of}
use Rattle.names.proofs.Made.{made_at, tabulated}
use Rattle.names.proofs.decode.decode_nodes.Goals as goal

pub returns-clause-nodes : goal.returns-clause-nodes
unfolding nodes_of
returns-clause-nodes c =
    let h = λ (k : ℕ). unwrap_or (node_at (node_body (file_of c.args.reader.now)) k) blank in
    let n = count (node_body (file_of c.args.reader.now)) in
    let m = made_at _ (λ (k : ℕ). cond (ltb k n) (h k) blank) _ c.from_fn.result blank (λ i y q k. search rules) 1024 c.from_fn.ensures.items in
    tabulated h c.from_fn.result blank n (omega (arith, c.from_fn.ensures.items.long)) (λ k l. m k (omega arith) ∙ ap (λ t. cond t (h k) blank) (lt-ltb k n l))
