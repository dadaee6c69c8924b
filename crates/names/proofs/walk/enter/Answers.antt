use Rattle.std.proofs.Common.{set, ap, ◌∙◌}
use Rattle.names.proofs.Contexts.{context_child}
use Rattle.names.proofs.walk.enter.Goals as goal

pub returns-clause-contexts : goal.returns-clause-contexts
returns-clause-contexts c =
    let at = c.args.at in
    let told = c.requires.told in
    ap (set c.args.names.now.contexts at.i) (c.context.ensures ∙ context_child at.nodes.list.now at.nodes.nested at.i at.parent at.inside at.child _ _ _ (c.requires.known.0 at.parent at.child.lower) told.0 told.1)
