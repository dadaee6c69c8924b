-- What the walk asks before a node and leaves after it.
use Rattle.node_rules.specs.Tables.{end}
use Rattle.names.specs.Walk.{Ready, Walked, own}
use Rattle.names.specs.declared.place.Place.{Place}
use Rattle.names.specs.declared.walk.Names.{Names}
use Rattle.names.specs.declared.walk.Count.{Count}

-- The names in force before the node are in use, and the contexts of all lower nodes are written.
abbrev pub Before : Place → Names → Count → Type 0
Before at names count = Ready at.nodes.list.now names.bindings names.contexts count.used at.i

-- The node and all below it are walked, and its own name is in force.
abbrev pub After : Place → Names → Count → Names → Count → Type 0
After at names count names' count' =
    Walked at.nodes.list.now (end at.nodes.list.now at.i) (own at.nodes.list.now at.i) names.bindings count.used names'.bindings names'.contexts count'.used
