use Rattle.std.proofs.Common.{rules, refl, arith}
use Rattle.nodes.specs.Bytes.{byte}
use Rattle.nodes.proofs.Windows.{from_calls}
use Rattle.nodes.proofs.bytes.first_bytes.Goals as goal

pub returns : goal.returns
returns g c k h =
    from_calls _ _ (byte c.args.bytes.now) _ 0 _ refl (λ k y r x. search rules) c.from_fn.ensures.items.each k (omega arith) (omega arith)
